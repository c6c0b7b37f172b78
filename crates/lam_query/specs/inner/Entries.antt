-- The meanings of names at one point of a text, by name number. For private functions only.
use Rattle.std.specs.Prelude.{◌≡◌, ◌<◌, ℕ, List, [], ◌∷◌, length, get_or, replicate, Option, Some, None, IfSome}
use Rattle.std.specs.Option.{option_map, option_and_then}
use Rattle.lam_rules.specs.Types.{Typ}
use Rattle.lam_rules.specs.declared.numbers.TyNo.{TyNo}
use Rattle.lam_scope.specs.Names.{Name}
use Rattle.lam_scope.specs.Numbered.{StandsIfAny}
use Rattle.lam_typing.specs.Answers.{answer}
use Rattle.lam_query.specs.declared.bound.Bound.{Bound}
use Rattle.lam_query.specs.declared.bound.NameNo.{NameNo}
use Rattle.lam_query.specs.declared.bound.NameNo.TheVariants as number
use Rattle.lam_query.specs.declared.entries.Entries.{Entries}
use Rattle.lam_query.specs.inner.Bound.{number_of}
use Rattle.lam_query.specs.inner.Entered.{Lookup}
use Rattle.lam_query.specs.inner.Kept.{CommandRow, Row, bound_by}
use Rattle.lam_query.specs.inner.PieceRows.{Sight}

-- what is kept under a number, or nothing if the name was unbound
abbrev pub meant : Entries → NameNo → Option (Option TyNo)
meant e (number.Name n) = get_or e.names.items n None
meant e (number.TypeName n) = get_or e.type_names.items n None

-- what is kept for a name
abbrev pub name_kept : Bound → Entries → Name → Option (Option TyNo)
name_kept b e x = option_and_then (λ n. meant e (number.Name n)) (number_of b.names x)

-- what is kept for a type name
abbrev pub type_name_kept : Bound → Entries → Name → Option (Option TyNo)
type_name_kept b e x = option_and_then (λ n. meant e (number.TypeName n)) (number_of b.type_names x)

-- the meaning of a name over the types of a table
abbrev pub name_meant : List Typ → Bound → Entries → Lookup
name_meant ts b e x = option_map (answer ts) (name_kept b e x)

-- the meaning of a type name over the types of a table
abbrev pub type_name_meant : List Typ → Bound → Entries → Lookup
type_name_meant ts b e x = option_map (answer ts) (type_name_kept b e x)

-- each type id that is kept for a name stands for a type of the table
pub record EntriesStand (ts : List Typ) (b : Bound) (e : Entries) : Type 0 where
  pub names : (x : Name) → IfSome (name_kept b e x) (StandsIfAny ts)
  pub types : (x : Name) → IfSome (type_name_kept b e x) (StandsIfAny ts)

-- the meanings of names and type names; one without a number is unbound
pub record AreMeanings (s : Sight) (ts : List Typ) (b : Bound) (e : Entries) : Type 0 where
  pub names : (x : Name) → name_meant ts b e x ≡ s.names x
  pub types : (x : Name) → type_name_meant ts b e x ≡ s.types x
  pub stand : EntriesStand ts b e

-- the number of this name is in bounds
abbrev pub HasRoomFor : NameNo → Entries → Type 0
HasRoomFor (number.Name n) e = n < length e.names.items
HasRoomFor (number.TypeName n) e = n < length e.type_names.items

-- one more name has this entry; the numbers that were in bounds still are
pub record IsPassedWith (binds : Option NameNo) (entry : Option TyNo) (old now : Entries) : Type 0 where
  pub set : (name : NameNo) → binds ≡ Some name → HasRoomFor name old → meant now name ≡ Some entry
  pub others : (name : NameNo) → (binds ≡ Some name → ⊥) → meant now name ≡ meant old name
  pub room : (name : NameNo) → HasRoomFor name old → HasRoomFor name now

-- what the command of a piece binds was recorded
abbrev pub IsPassedOver : Option CommandRow → Entries → Entries → Type 0
IsPassedOver None old now = old ≡ now
IsPassedOver (Some k) old now = IsPassedWith k.binds (bound_by k.found) old now

-- what the commands of these pieces bind was recorded in order
abbrev pub IsPassedBy : List Row → Entries → Entries → Type 0
IsPassedBy [] old now = old ≡ now
IsPassedBy (r ∷ rows) old now = (mid : Entries) × IsPassedOver r.command old mid × IsPassedBy rows mid now

-- the entries with nothing but what the commands of these pieces bind
pub record IsPassedBehind (b : Bound) (rows : List Row) (e : Entries) : Type 0 where
  pub first : Entries
  pub names : first.names.items ≡ replicate (length b.names.entries.items) None
  pub type_names : first.type_names.items ≡ replicate (length b.type_names.entries.items) None
  pub passed : IsPassedBy rows first e

-- the meanings of names by their numbers, over the types of a table
pub record IsMeantBy (s : Sight) (ts : List Typ) (b : Bound) (e : Entries) : Type 0 where
  pub names : (x : Name) (n : ℕ) → number_of b.names x ≡ Some n → option_map (answer ts) (meant e (number.Name n)) ≡ s.names x
  pub types : (x : Name) (n : ℕ) → number_of b.type_names x ≡ Some n → option_map (answer ts) (meant e (number.TypeName n)) ≡ s.types x
  pub room : (x : Name) (n : ℕ) → number_of b.names x ≡ Some n → HasRoomFor (number.Name n) e
  pub type_room : (x : Name) (n : ℕ) → number_of b.type_names x ≡ Some n → HasRoomFor (number.TypeName n) e
  pub stand : (x : Name) (n : ℕ) → number_of b.names x ≡ Some n → IfSome (meant e (number.Name n)) (StandsIfAny ts)
  pub type_stand : (x : Name) (n : ℕ) → number_of b.type_names x ≡ Some n → IfSome (meant e (number.TypeName n)) (StandsIfAny ts)
