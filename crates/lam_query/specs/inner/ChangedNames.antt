-- Which names mean something else after a change, by their numbers. For private functions alone.
use Rattle.std.specs.Prelude.{◌≡◌, ◌↔◌, ◌<◌, ℕ, Bool, true, false, List, length, get_or, set, Option, Some, None}
use Rattle.lam_rules.specs.declared.numbers.TyNo.{TyNo}
use Rattle.lam_scope.specs.Names.{Name}
use Rattle.lam_query.specs.declared.bound.Bound.{Bound}
use Rattle.lam_query.specs.declared.bound.Meanings.{Meanings}
use Rattle.lam_query.specs.declared.bound.NameNo.{NameNo}
use Rattle.lam_query.specs.declared.bound.NameNo.TheVariants as number
use Rattle.lam_query.specs.declared.changed_names.ChangedNames.{ChangedNames}
use Rattle.lam_query.specs.inner.Bound.{number_of, kept_under}
use Rattle.lam_query.specs.inner.PieceRows.{Sight}

-- whether a name is marked as changed; one whose number is not listed counts as changed
abbrev pub is_changed : ChangedNames → NameNo → Bool
is_changed c (number.Name n) = get_or c.names.items n true
is_changed c (number.TypeName n) = get_or c.type_names.items n true

-- one mark for each entry of the list: whether the name with its index as number has another entry now
pub record AreDifferences (entries : List (Option (Option TyNo))) (now : Meanings) (marks : List Bool) : Type 0 where
  pub long : length marks ≡ length entries
  pub right : (n : ℕ) → n < length entries → (get_or marks n true ≡ false ↔ get_or entries n None ≡ kept_under now n)

-- a name is marked as changed or as unchanged, and all other marks stay as they are
abbrev pub IsMarked : Option NameNo → Bool → ChangedNames → ChangedNames → Type 0
IsMarked None changed old now = old ≡ now
IsMarked (Some (number.Name n)) changed old now = (now.names.items ≡ set old.names.items n changed) × (now.type_names ≡ old.type_names)
IsMarked (Some (number.TypeName n)) changed old now = (now.type_names.items ≡ set old.type_names.items n changed) × (now.names ≡ old.names)

-- names and type names that have a number and are not marked mean the same at both places
pub record AgreeOnUnchanged (b : Bound) (c : ChangedNames) (was now : Sight) : Type 0 where
  pub names : (x : Name) (n : ℕ) → number_of b.names x ≡ Some n → is_changed c (number.Name n) ≡ false → was.names x ≡ now.names x
  pub types : (x : Name) (n : ℕ) → number_of b.type_names x ≡ Some n → is_changed c (number.TypeName n) ≡ false → was.types x ≡ now.types x
