-- What names meant in the old text, row after row of it.
use Rattle.std.proofs.Common.{◌≡◌, ◌⊎◌, ◌≢◌, inl, inr, ◌<◌, ℕ, eqb, Bool, true, false, List, [], ◌∷◌, length, get_or, Option, Some, None, refl, sym, ap, subst, ◌∙◌}
use Rattle.std.specs.Prelude.{if◌then◌else◌, IfSome}
use Rattle.std.specs.Option.{option_map, option_and_then}
use Rattle.std.specs.Str.{bytes_eq}
use Rattle.std.proofs.lemmas.Bool.Decides.{eqb_tells}
use Rattle.std.proofs.lemmas.Slice.Eq.{bytes_eq-Decides}
use Rattle.lam_rules.specs.Types.{Typ}
use Rattle.lam_rules.specs.declared.numbers.TyNo.{TyNo}
use Rattle.lam_rules.specs.declared.rules.Dialect.{Dialect}
use Rattle.lam_syntax.specs.Trees.{CommandTree}
use Rattle.lam_scope.specs.Names.{Name}
use Rattle.lam_scope.specs.Numbered.{StandsIfAny}
use Rattle.lam_typing.specs.Answers.{answer}
use Rattle.lam_query.specs.declared.bound.Bound.{Bound}
use Rattle.lam_query.specs.declared.bound.Meanings.{Meanings}
use Rattle.lam_query.specs.declared.bound.NameNo.{NameNo}
use Rattle.lam_query.specs.declared.bound.NameNo.TheVariants as number
use Rattle.lam_query.specs.declared.entries.Entries.{Entries}
use Rattle.lam_query.specs.inner.Analysts.{IsBoundAs}
use Rattle.lam_query.specs.inner.Bound.{number_of, kept_under, meaning_of, AreNumbered, HaveNumbers, AllStand, IsBinding}
use Rattle.lam_query.specs.inner.Entries.{meant, HasRoomFor, IsPassedWith, IsPassedOver, IsPassedBy, IsMeantBy}
use Rattle.lam_query.specs.inner.Entered.{Lookup, name_bound, type_name_bound}
use Rattle.lam_query.specs.inner.Kept.{CommandRow, Row, bound_by}
use Rattle.lam_query.specs.inner.PieceRows.{Sight, sight_with, AreItsNumbers, IsPieceRow, AreRows}
use Rattle.lam_query.specs.inner.Rows.{with_entry, IsKeptOf}
use Rattle.lam_query.proofs.BoundNames.{bound_stands}

-- ---- one name has another entry

-- what is kept under numbers is what names mean
abbrev MeanBy : List Typ → Meanings → (ℕ → Option (Option TyNo)) → Lookup → Type 0
MeanBy ts m kept look = (x : Name) (n : ℕ) → number_of m x ≡ Some n → option_map (answer ts) (kept n) ≡ look x

module _ (ts : List Typ) (m : Meanings) (numbers : AreNumbered m) (y : Name) (n : ℕ) (is : number_of m y ≡ Some n) (entry : Option TyNo) where
  entry_set : (look : Lookup) (old now : ℕ → Option (Option TyNo)) → MeanBy ts m old look → now n ≡ Some entry → ((k : ℕ) → (n ≡ k → ⊥) → now k ≡ old k)
      → MeanBy ts m now (with_entry (Some y) (answer ts entry) look)
  entry_set look old now before set others x k at = by (bytes_eq y x) refl
    where
      differ : bytes_eq y x ≡ false → n ≡ k → ⊥
      differ e same =
          let names : y ≡ x = numbers.own y x k (is ∙ ap Some same) at in
          let both : true ≡ false = sym ((bytes_eq-Decides y x).1 names) ∙ e in
          cc

      by : (same : Bool) → bytes_eq y x ≡ same → option_map (answer ts) (now k) ≡ (if same then Some (answer ts entry) else look x)
      by true e =
          let both : Some k ≡ Some n = sym at ∙ ap (number_of m) (sym ((bytes_eq-Decides y x).0 e)) ∙ is in
          let same : k ≡ n = cc in
          ap (λ j. option_map (answer ts) (now j)) same ∙ ap (option_map (answer ts)) set
      by false e = ap (option_map (answer ts)) (others k (differ e)) ∙ before x k at

-- where no name has another entry
none_set : (ts : List Typ) (m : Meanings) (b : Option Name) (entry : Option TyNo) (look : Lookup) (old now : ℕ → Option (Option TyNo)) → b ≡ None
    → MeanBy ts m old look → ((k : ℕ) → now k ≡ old k) → MeanBy ts m now (with_entry b (answer ts entry) look)
none_set ts m b entry look old now none before same x k at =
    ap (option_map (answer ts)) (same k) ∙ before x k at ∙ ap (λ c. with_entry c (answer ts entry) look x) (sym none)

-- a name is the one that is bound, or it is another
bound_or_not : (o : Option NameNo) (name : NameNo) → (o ≡ Some name) ⊎ (o ≡ Some name → ⊥)
bound_or_not None name = inr (λ e. cc)
bound_or_not (Some (number.Name n)) (number.Name k) = by (eqb_tells n k)
  where
    by : ((eqb n k ≡ true) × (n ≡ k)) ⊎ ((eqb n k ≡ false) × (n ≢ k)) → (Some (number.Name n) ≡ Some (number.Name k)) ⊎ (Some (number.Name n) ≡ Some (number.Name k) → ⊥)
    by (inl same) = inl (ap (λ j. Some (number.Name j)) same.1)
    by (inr other) = inr (λ e. let same : n ≡ k = cc in other.1 same)
bound_or_not (Some (number.TypeName n)) (number.TypeName k) = by (eqb_tells n k)
  where
    by : ((eqb n k ≡ true) × (n ≡ k)) ⊎ ((eqb n k ≡ false) × (n ≢ k))
        → (Some (number.TypeName n) ≡ Some (number.TypeName k)) ⊎ (Some (number.TypeName n) ≡ Some (number.TypeName k) → ⊥)
    by (inl same) = inl (ap (λ j. Some (number.TypeName j)) same.1)
    by (inr other) = inr (λ e. let same : n ≡ k = cc in other.1 same)
bound_or_not (Some (number.Name n)) (number.TypeName k) = inr (λ e. cc)
bound_or_not (Some (number.TypeName n)) (number.Name k) = inr (λ e. cc)

-- ---- one row was passed

module _ (s : Sight) (ts : List Typ) (b : Bound) (d : Dialect) (numbers : HaveNumbers b) (old now : Entries) (meant_by : IsMeantBy s ts b old) where
  -- numbers that are kept stand for types of the table
  still_stand : (binds : Option NameNo) (entry : Option TyNo) → IsPassedWith binds entry old now → ((name : NameNo) → binds ≡ Some name → HasRoomFor name old)
      → StandsIfAny ts entry → (name : NameNo) → IfSome (meant old name) (StandsIfAny ts) → IfSome (meant now name) (StandsIfAny ts)
  still_stand binds entry passed room stands name before = by (bound_or_not binds name)
    where
      by : (binds ≡ Some name) ⊎ (binds ≡ Some name → ⊥) → IfSome (meant now name) (StandsIfAny ts)
      by (inl this) = subst (λ o. IfSome o (StandsIfAny ts)) (sym (passed.set name this (room name this))) stands
      by (inr other) = subst (λ o. IfSome o (StandsIfAny ts)) (sym (passed.others name other)) before

  command_passed : (c : CommandTree) (binds : Option NameNo) (entry : Option TyNo) → IsBinding b c binds → IsPassedWith binds entry old now → StandsIfAny ts entry
      → IsMeantBy (record { names = with_entry (name_bound c) (answer ts entry) s.names; types = with_entry (type_name_bound c) (answer ts entry) s.types }) ts b now
  command_passed c None entry binding passed stands = record {
    names = none_set ts b.names (name_bound c) entry s.names (λ k. meant old (number.Name k)) (λ k. meant now (number.Name k)) binding.0
        meant_by.names (λ k. passed.others (number.Name k) (λ e. cc));
    types = none_set ts b.type_names (type_name_bound c) entry s.types (λ k. meant old (number.TypeName k)) (λ k. meant now (number.TypeName k)) binding.1
        meant_by.types (λ k. passed.others (number.TypeName k) (λ e. cc));
    room = λ x n at. passed.room (number.Name n) (meant_by.room x n at);
    type_room = λ x n at. passed.room (number.TypeName n) (meant_by.type_room x n at);
    stand = λ x k at. still_stand None entry passed (λ name e. absurd cc) stands (number.Name k) (meant_by.stand x k at);
    type_stand = λ x k at. still_stand None entry passed (λ name e. absurd cc) stands (number.TypeName k) (meant_by.type_stand x k at);
  }
  command_passed c (Some (number.Name n)) entry (y, name, no_type, is) passed stands =
      let has_room : (k : NameNo) → Some (number.Name n) ≡ Some k → HasRoomFor k old =
      λ k e. let same : number.Name n ≡ k = cc in subst (λ j. HasRoomFor j old) same (meant_by.room y n is) in
      record {
        names = subst (λ o. MeanBy ts b.names (λ k. meant now (number.Name k)) (with_entry o (answer ts entry) s.names)) (sym name)
            (entry_set ts b.names numbers.names y n is entry s.names (λ k. meant old (number.Name k)) (λ k. meant now (number.Name k)) meant_by.names
            (passed.set (number.Name n) refl (meant_by.room y n is)) (λ k differ. passed.others (number.Name k) (λ e. let same : n ≡ k = cc in differ same)));
        types = none_set ts b.type_names (type_name_bound c) entry s.types (λ k. meant old (number.TypeName k)) (λ k. meant now (number.TypeName k)) no_type
            meant_by.types (λ k. passed.others (number.TypeName k) (λ e. cc));
        room = λ x k at. passed.room (number.Name k) (meant_by.room x k at);
        type_room = λ x k at. passed.room (number.TypeName k) (meant_by.type_room x k at);
        stand = λ x k at. still_stand (Some (number.Name n)) entry passed has_room stands (number.Name k) (meant_by.stand x k at);
        type_stand = λ x k at. still_stand (Some (number.Name n)) entry passed has_room stands (number.TypeName k) (meant_by.type_stand x k at);
      }
  command_passed c (Some (number.TypeName n)) entry (y, no_name, name, is) passed stands =
      let has_room : (k : NameNo) → Some (number.TypeName n) ≡ Some k → HasRoomFor k old =
      λ k e. let same : number.TypeName n ≡ k = cc in subst (λ j. HasRoomFor j old) same (meant_by.type_room y n is) in
      record {
        names = none_set ts b.names (name_bound c) entry s.names (λ k. meant old (number.Name k)) (λ k. meant now (number.Name k)) no_name
            meant_by.names (λ k. passed.others (number.Name k) (λ e. cc));
        types = subst (λ o. MeanBy ts b.type_names (λ k. meant now (number.TypeName k)) (with_entry o (answer ts entry) s.types)) (sym name)
            (entry_set ts b.type_names numbers.type_names y n is entry s.types (λ k. meant old (number.TypeName k)) (λ k. meant now (number.TypeName k)) meant_by.types
            (passed.set (number.TypeName n) refl (meant_by.type_room y n is)) (λ k differ. passed.others (number.TypeName k) (λ e. let same : n ≡ k = cc in differ same)));
        room = λ x k at. passed.room (number.Name k) (meant_by.room x k at);
        type_room = λ x k at. passed.room (number.TypeName k) (meant_by.type_room x k at);
        stand = λ x k at. still_stand (Some (number.TypeName n)) entry passed has_room stands (number.Name k) (meant_by.stand x k at);
        type_stand = λ x k at. still_stand (Some (number.TypeName n)) entry passed has_room stands (number.TypeName k) (meant_by.type_stand x k at);
      }

  kept_passed : (own : List CommandTree) (o : Option CommandRow) → IsKeptOf s.names s.types own ts o d → AreItsNumbers b own o → IsPassedOver o old now
      → IsMeantBy (sight_with s own ts o) ts b now
  kept_passed [] None kept its passed = subst (IsMeantBy s ts b) passed meant_by
  kept_passed [] (Some k) kept its passed = absurd kept
  kept_passed (c ∷ []) None kept its passed = absurd its
  kept_passed (c ∷ []) (Some k) kept its passed = command_passed c k.binds (bound_by k.found) its.0 passed (bound_stands ts k.found kept.stand)
  kept_passed (c ∷ e ∷ own) None kept its passed = absurd its
  kept_passed (c ∷ e ∷ own) (Some k) kept its passed = absurd its

pub row_passed : (piece : List ℕ) (s : Sight) (own : List CommandTree) (r : Row) (ts : List Typ) (b : Bound) (d : Dialect) (old now : Entries) → HaveNumbers b
    → IsPieceRow piece s own r ts b d → IsMeantBy s ts b old → IsPassedOver r.command old now → IsMeantBy (sight_with s own ts r.command) ts b now
row_passed piece s own r ts b d old now numbers is meant_by passed = kept_passed s ts b d numbers old now meant_by own r.command is.kept is.numbers passed

-- ---- row after row

pub rows_passed : (s : Sight) (pieces : List (List ℕ)) (rows : List Row) (last : Sight) (ts : List Typ) (b : Bound) (d : Dialect) (old now : Entries) → HaveNumbers b
    → AreRows s pieces rows last ts b d → IsMeantBy s ts b old → IsPassedBy rows old now → IsMeantBy last ts b now
rows_passed s [] [] last ts b d old now numbers are meant_by passed =
    subst (λ g. IsMeantBy g ts b now) are (subst (IsMeantBy s ts b) passed meant_by)
rows_passed s [] (r ∷ rows) last ts b d old now numbers are meant_by passed = absurd are
rows_passed s (p ∷ pieces) [] last ts b d old now numbers are meant_by passed = absurd are
rows_passed s (p ∷ pieces) (r ∷ rows) last ts b d old now numbers are meant_by passed =
    let next = row_passed p s are.0 r ts b d old passed.0 numbers are.1 meant_by passed.1 in
    rows_passed (sight_with s are.0 ts r.command) pieces rows last ts b d passed.0 now numbers are.2 next passed.2

-- ---- at the beginning

-- what is kept now is what names mean
pub meant_now : (s : Sight) (ts : List Typ) (b : Bound) (e : Entries) → IsBoundAs s.names s.types ts b → AllStand ts b → HaveNumbers b
    → e.names.items ≡ b.names.entries.items → e.type_names.items ≡ b.type_names.entries.items → IsMeantBy s ts b e
meant_now s ts b e bound stand numbers names types =
    let of_name : (n : ℕ) → meant e (number.Name n) ≡ kept_under b.names n = λ n. ap (λ es. get_or es n None) names in
    let of_type : (n : ℕ) → meant e (number.TypeName n) ≡ kept_under b.type_names n = λ n. ap (λ es. get_or es n None) types in
    record {
      names = λ x n at. ap (option_map (answer ts)) (of_name n ∙ sym (kept_of b.names x n at)) ∙ bound.names x;
      types = λ x n at. ap (option_map (answer ts)) (of_type n ∙ sym (kept_of b.type_names x n at)) ∙ bound.types x;
      room = λ x n at. subst (λ es. n < length es) (sym names) (numbers.names.inside x n at);
      type_room = λ x n at. subst (λ es. n < length es) (sym types) (numbers.type_names.inside x n at);
      stand = λ x n at. subst (λ o. IfSome o (StandsIfAny ts)) (kept_of b.names x n at ∙ sym (of_name n)) (stand.names x);
      type_stand = λ x n at. subst (λ o. IfSome o (StandsIfAny ts)) (kept_of b.type_names x n at ∙ sym (of_type n)) (stand.type_names x);
    }
  where
    kept_of : (m : Meanings) (x : Name) (n : ℕ) → number_of m x ≡ Some n → meaning_of m x ≡ kept_under m n
    kept_of m x n at = ap (option_and_then (kept_under m)) at
