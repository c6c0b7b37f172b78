-- Names that are marked as changed, by their numbers.
use Rattle.std.proofs.Common.{◌≡◌, ◌≢◌, ◌↔◌, ◌<◌, ◌⊎◌, inl, inr, ℕ, eqb, zero, suc, Bool, true, false, IsTrue, List, [], ◌∷◌, length, get_or, Option, None, Some, not, refl, sym, ap, subst, ◌∙◌, arith}
use Rattle.std.specs.List.{Contains}
use Rattle.std.specs.Option.{option_eq}
use Rattle.std.proofs.lemmas.Bool.Decides.{eqb_tells}
use Rattle.lam_rules.specs.declared.numbers.TyNo.{TyNo}
use Rattle.lam_query.specs.declared.bound.Bound.{Bound}
use Rattle.lam_query.specs.declared.bound.Meanings.{Meanings}
use Rattle.lam_query.specs.declared.bound.NameNo.{NameNo}
use Rattle.lam_query.specs.declared.bound.NameNo.TheVariants as number
use Rattle.lam_query.specs.declared.changed_names.ChangedNames.{ChangedNames}
use Rattle.lam_query.specs.declared.entries.Entries.{Entries}
use Rattle.lam_query.specs.inner.Bound.{kept_under, means}
use Rattle.lam_query.specs.inner.ChangedNames.{is_changed, AreDifferences}
use Rattle.lam_query.specs.inner.Entries.{meant, HasRoomFor}

marked_inside : (marks : List Bool) (n : ℕ) → get_or marks n true ≡ false → n < length marks
marked_inside [] n un = let clash : true ≡ false = un in absurd cc
marked_inside (m ∷ marks) zero un = omega arith
marked_inside (m ∷ marks) (suc n) un = let inside = marked_inside marks n un in omega arith

same_entry : (entries : List (Option (Option TyNo))) (now : Meanings) (marks : List Bool) → AreDifferences entries now marks
    → (n : ℕ) → get_or marks n true ≡ false → get_or entries n None ≡ kept_under now n
same_entry entries now marks h n un = (h.right n (subst (λ m. n < m) h.long (marked_inside marks n un))).0 un

module _ (c : ChangedNames) (e : Entries) (b : Bound) (names : AreDifferences e.names.items b.names c.names.items)
    (types : AreDifferences e.type_names.items b.type_names c.type_names.items) where
  pub unmarked_same : (name : NameNo) → is_changed c name ≡ false → meant e name ≡ means b name
  unmarked_same (number.Name n) un = same_entry e.names.items b.names c.names.items names n un
  unmarked_same (number.TypeName n) un = same_entry e.type_names.items b.type_names c.type_names.items types n un

  pub same_unmarked : (name : NameNo) → HasRoomFor name e → meant e name ≡ means b name → is_changed c name ≡ false
  same_unmarked (number.Name n) room same = (names.right n room).1 same
  same_unmarked (number.TypeName n) room same = (types.right n room).1 same

-- a test that finds none of them marked
pub none_marked_among : (free_numbers : List NameNo) (c : ChangedNames) (b : Bool) → (IsTrue b ↔ ((name : NameNo) × Contains free_numbers name × (is_changed c name ≡ true))) → b ≡ false
    → (name : NameNo) → Contains free_numbers name → is_changed c name ≡ false
none_marked_among free_numbers c b h none name at = by (is_changed c name) refl
  where
    by : (m : Bool) → is_changed c name ≡ m → m ≡ false
    by true is = let found : b ≡ true = h.1 (name, at, is) in let clash : false ≡ true = sym none ∙ found in absurd cc
    by false is = refl

-- what `!=` says of two entries
pub same_entries : {A : Type 0} (E : A → A → Bool) (x y : Option A) → ((a b : A) → E a b ≡ true → a ≡ b) → not (option_eq E x y) ≡ false → x ≡ y
same_entries E None None decides same = refl
same_entries E None (Some b) decides same = let clash : true ≡ false = same in absurd cc
same_entries E (Some a) None decides same = let clash : true ≡ false = same in absurd cc
same_entries E (Some a) (Some b) decides same = by (E a b) refl same
  where
    by : (v : Bool) → E a b ≡ v → not v ≡ false → Some a ≡ Some b
    by true is un = ap Some (decides a b is)
    by false is un = let clash : true ≡ false = un in absurd cc

same_record : (x y : TyNo) → x.index ≡ y.index → x ≡ y
same_record x y same = ap (λ n. let number : TyNo = record { index = n } in number) same

pub same_number : (x y : TyNo) → eqb x.index y.index ≡ true → x ≡ y
same_number x y same = by (eqb_tells x.index y.index)
  where
    by : ((eqb x.index y.index ≡ true) × (x.index ≡ y.index)) ⊎ ((eqb x.index y.index ≡ false) × (x.index ≢ y.index)) → x ≡ y
    by (inl equal) = same_record x y equal.1
    by (inr other) = let clash : true ≡ false = sym same ∙ other.0 in absurd cc
