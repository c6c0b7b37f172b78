-- What names mean behind the first rows of a text, where nothing was bound before.
use Rattle.std.proofs.Common.{◌≡◌, ◌<◌, ◌≤◌, ◌⊎◌, inl, inr, ℕ, Bool, true, false, List, [], ◌∷◌, ◌++◌, length, get_or, replicate, take, Option, Some, None, refl, sym, ap, subst, ◌∙◌}
use Rattle.std.specs.Prelude.{if◌then◌else◌, IfSome}
use Rattle.std.specs.Option.{option_map, option_and_then}
use Rattle.std.specs.Str.{bytes_eq}
use Rattle.std.proofs.lemmas.Bool.{cases_lt}
use Rattle.std.proofs.lemmas.List.{get_or-replicate, length-replicate, take-map}
use Rattle.std.proofs.lemmas.Slice.Eq.{bytes_eq-Decides}
use Rattle.std.proofs.Math.ListN.{get_or-eq_default}
use Rattle.lam_rules.specs.Types.{Typ}
use Rattle.lam_rules.specs.declared.numbers.TyNo.{TyNo}
use Rattle.lam_rules.specs.declared.rules.Dialect.{Dialect}
use Rattle.lam_syntax.specs.Trees.{CommandTree}
use Rattle.lam_scope.specs.Names.{Name, binds}
use Rattle.lam_scope.specs.Numbered.{StandsIfAny}
use Rattle.lam_typing.specs.Answers.{answer}
use Rattle.lam_typing.specs.Checking.{types_in}
use Rattle.lam_query.specs.declared.analyses.Analysis.{Analysis}
use Rattle.lam_query.specs.declared.bound.Bound.{Bound}
use Rattle.lam_query.specs.declared.bound.Meanings.{Meanings}
use Rattle.lam_query.specs.declared.bound.NameNo.{NameNo}
use Rattle.lam_query.specs.declared.bound.NameNo.TheVariants as number
use Rattle.lam_query.specs.declared.entries.Entries.{Entries}
use Rattle.lam_query.specs.declared.rows.Row.{Row as RustRow}
use Rattle.lam_query.specs.Analyses.{IsAnalysisOf}
use Rattle.lam_query.specs.inner.Bound.{number_of, HaveNumbers, IsBinding}
use Rattle.lam_query.specs.inner.Entered.{Lookup, name_bound, type_name_bound}
use Rattle.lam_query.specs.inner.Entries.{meant, EntriesStand, AreMeanings, IsPassedBy, IsMeantBy}
use Rattle.lam_query.specs.inner.Kept.{CommandRow, Row, bound_by, row_of, rows_of}
use Rattle.lam_query.specs.inner.PieceRows.{Sight, outset, sight_with, AreItsNumbers, AreRows}
use Rattle.lam_query.specs.inner.Rows.{with_entry}
use Rattle.lam_query.proofs.EarlierNames.{rows_passed}
use Rattle.lam_query.proofs.PieceRowLists.{rows_split}

-- ---- at the beginning

none_kept : (count n : ℕ) → get_or (replicate {A = Option (Option TyNo)} count None) n None ≡ None
none_kept count n = by (cases_lt n count)
  where
    by : (n < count) ⊎ (count ≤ n) → get_or (replicate {A = Option (Option TyNo)} count None) n None ≡ None
    by (inl inside) = get_or-replicate count n None None inside
    by (inr past) = get_or-eq_default (replicate {A = Option (Option TyNo)} count None) None (subst (λ k. k ≤ n) (sym (length-replicate {A = Option (Option TyNo)} count None)) past)

module _ (b : Bound) (e : Entries) (numbers : HaveNumbers b)
    (names : e.names.items ≡ replicate (length b.names.entries.items) None) (types : e.type_names.items ≡ replicate (length b.type_names.entries.items) None) where
  no_name : (n : ℕ) → meant e (number.Name n) ≡ None
  no_name n = ap (λ es. get_or es n None) names ∙ none_kept (length b.names.entries.items) n

  no_type_name : (n : ℕ) → meant e (number.TypeName n) ≡ None
  no_type_name n = ap (λ es. get_or es n None) types ∙ none_kept (length b.type_names.entries.items) n

  nothing_meant : (ts : List Typ) → IsMeantBy outset ts b e
  nothing_meant ts = record {
    names = λ x n at. ap (option_map (answer ts)) (no_name n);
    types = λ x n at. ap (option_map (answer ts)) (no_type_name n);
    room = λ x n at. subst (λ k. n < k) (sym (ap length names ∙ length-replicate (length b.names.entries.items) None)) (numbers.names.inside x n at);
    type_room = λ x n at. subst (λ k. n < k) (sym (ap length types ∙ length-replicate (length b.type_names.entries.items) None)) (numbers.type_names.inside x n at);
    stand = λ x n at. subst (λ o. IfSome o (StandsIfAny ts)) (sym (no_name n)) tt;
    type_stand = λ x n at. subst (λ o. IfSome o (StandsIfAny ts)) (sym (no_type_name n)) tt;
  }

-- ---- a name that has no number is bound by no row

module _ (m : Meanings) (x : Name) (none : number_of m x ≡ None) where
  -- it is not one that has a number
  other_name : (b : Option Name) (y : Name) (n : ℕ) → b ≡ Some y → number_of m y ≡ Some n → binds b x ≡ false
  other_name b y n is at = ap (λ o. binds o x) is ∙ by (bytes_eq y x) refl
    where
      by : (same : Bool) → bytes_eq y x ≡ same → bytes_eq y x ≡ false
      by true same = let clash : Some n ≡ None = sym at ∙ ap (number_of m) ((bytes_eq-Decides y x).0 same) ∙ none in absurd cc
      by false differ = differ

  not_entered : (b : Option Name) (entry : Option Typ) (look : Lookup) → binds b x ≡ false → look x ≡ None → with_entry b entry look x ≡ None
  not_entered b entry look other before = ap (λ same. if same then Some entry else look x) other ∙ before

name_not_bound : (b : Bound) (c : CommandTree) (binding : Option NameNo) (x : Name) → IsBinding b c binding → number_of b.names x ≡ None → binds (name_bound c) x ≡ false
name_not_bound b c None x is none = ap (λ o. binds o x) is.0
name_not_bound b c (Some (number.Name n)) x (y, name, no_type, at) none = other_name b.names x none (name_bound c) y n name at
name_not_bound b c (Some (number.TypeName n)) x (y, not_name, name, at) none = ap (λ o. binds o x) not_name

type_name_not_bound : (b : Bound) (c : CommandTree) (binding : Option NameNo) (x : Name) → IsBinding b c binding → number_of b.type_names x ≡ None
    → binds (type_name_bound c) x ≡ false
type_name_not_bound b c None x is none = ap (λ o. binds o x) is.1
type_name_not_bound b c (Some (number.Name n)) x (y, name, no_type, at) none = ap (λ o. binds o x) no_type
type_name_not_bound b c (Some (number.TypeName n)) x (y, not_name, name, at) none = other_name b.type_names x none (type_name_bound c) y n name at

-- what has no number is unbound
record AreNumberedOnly (s : Sight) (b : Bound) : Type 0 where
  pub names : (x : Name) → number_of b.names x ≡ None → s.names x ≡ None
  pub types : (x : Name) → number_of b.type_names x ≡ None → s.types x ≡ None

one_more : (s : Sight) (own : List CommandTree) (ts : List Typ) (o : Option CommandRow) (b : Bound) → AreItsNumbers b own o → AreNumberedOnly s b → AreNumberedOnly (sight_with s own ts o) b
one_more s [] ts None b its only = only
one_more s [] ts (Some k) b its only = absurd its
one_more s (c ∷ []) ts None b its only = absurd its
one_more s (c ∷ []) ts (Some k) b its only = record {
  names = λ x none. not_entered b.names x none (name_bound c) (answer ts (bound_by k.found)) s.names (name_not_bound b c k.binds x its.0 none) (only.names x none);
  types = λ x none.
      not_entered b.type_names x none (type_name_bound c) (answer ts (bound_by k.found)) s.types (type_name_not_bound b c k.binds x its.0 none) (only.types x none);
}
one_more s (c ∷ e ∷ own) ts None b its only = absurd its
one_more s (c ∷ e ∷ own) ts (Some k) b its only = absurd its

only_numbered : (s : Sight) (pieces : List (List ℕ)) (rows : List Row) (last : Sight) (ts : List Typ) (b : Bound) (d : Dialect) → AreRows s pieces rows last ts b d
    → AreNumberedOnly s b → AreNumberedOnly last b
only_numbered s [] [] last ts b d are only = subst (λ r. AreNumberedOnly r b) are only
only_numbered s [] (r ∷ rows) last ts b d are only = absurd are
only_numbered s (p ∷ pieces) [] last ts b d are only = absurd are
only_numbered s (p ∷ pieces) (r ∷ rows) last ts b d are only =
    only_numbered (sight_with s are.0 ts r.command) pieces rows last ts b d are.2 (one_more s are.0 ts r.command b are.1.numbers only)

-- ---- what they mean

by_numbers : (ts : List Typ) (m : Meanings) (kept : ℕ → Option (Option TyNo)) (look : Lookup) (x : Name)
    → ((n : ℕ) → number_of m x ≡ Some n → option_map (answer ts) (kept n) ≡ look x) → (number_of m x ≡ None → look x ≡ None)
    → option_map (answer ts) (option_and_then kept (number_of m x)) ≡ look x
by_numbers ts m kept look x some none = by (number_of m x) refl
  where
    by : (o : Option ℕ) → number_of m x ≡ o → option_map (answer ts) (option_and_then kept (number_of m x)) ≡ look x
    by None is = ap (λ o. option_map (answer ts) (option_and_then kept o)) is ∙ sym (none is)
    by (Some n) is = ap (λ o. option_map (answer ts) (option_and_then kept o)) is ∙ some n is

stand_by_numbers : (ts : List Typ) (m : Meanings) (kept : ℕ → Option (Option TyNo)) (x : Name)
    → ((n : ℕ) → number_of m x ≡ Some n → IfSome (kept n) (StandsIfAny ts)) → IfSome (option_and_then kept (number_of m x)) (StandsIfAny ts)
stand_by_numbers ts m kept x some = by (number_of m x) refl
  where
    by : (o : Option ℕ) → number_of m x ≡ o → IfSome (option_and_then kept (number_of m x)) (StandsIfAny ts)
    by None is = subst (λ o. IfSome (option_and_then kept o) (StandsIfAny ts)) (sym is) tt
    by (Some n) is = subst (λ o. IfSome (option_and_then kept o) (StandsIfAny ts)) (sym is) (some n is)

meanings_of : (s : Sight) (ts : List Typ) (b : Bound) (e : Entries) → IsMeantBy s ts b e → AreNumberedOnly s b → AreMeanings s ts b e
meanings_of s ts b e meant_by only = record {
  names = λ x. by_numbers ts b.names (λ n. meant e (number.Name n)) s.names x (meant_by.names x) (only.names x);
  types = λ x. by_numbers ts b.type_names (λ n. meant e (number.TypeName n)) s.types x (meant_by.types x) (only.types x);
  stand = record {
    names = λ x. stand_by_numbers ts b.names (λ n. meant e (number.Name n)) x (meant_by.stand x);
    types = λ x. stand_by_numbers ts b.type_names (λ n. meant e (number.TypeName n)) x (meant_by.type_stand x);
  };
}

pub meanings_behind : (b : Bound) (old now : Entries) (rows : List Row) → HaveNumbers b
    → old.names.items ≡ replicate (length b.names.entries.items) None → old.type_names.items ≡ replicate (length b.type_names.entries.items) None
    → IsPassedBy rows old now
    → (pieces : List (List ℕ)) (s : Sight) (ts : List Typ) (d : Dialect) → AreRows outset pieces rows s ts b d → AreMeanings s ts b now
meanings_behind b old now rows numbers names types passed pieces s ts d are =
    meanings_of s ts b now
    (rows_passed outset pieces rows s ts b d old now numbers are (nothing_meant b old numbers names types ts) passed)
    (only_numbered outset pieces rows s ts b d are (record { names = λ x none. refl; types = λ x none. refl }))

-- ---- of an analysis

-- behind its first rows names mean this
abbrev pub AreBehind : Bound → Entries → (number : ℕ) → List RustRow → Type 0
AreBehind b e number rows = (pieces : List (List ℕ)) (s : Sight) (ts : List Typ) (d : Dialect) → AreRows outset pieces (rows_of (take number rows)) s ts b d → AreMeanings s ts b e

-- the numbers that are kept for them stand for types of its table
pub entries_stand : (text : List ℕ) (a : Analysis) (number : ℕ) (e : Entries) → IsAnalysisOf text a → AreBehind a.bound e number a.rows.items → EntriesStand (types_in a.types) a.bound e
entries_stand text a number e is behind =
    let split = rows_split number outset (is.ended ++ is.last ∷ []) (rows_of a.rows.items) is.sight (types_in a.types) a.bound a.dialect is.rows in
    let first = subst (λ rs. AreRows outset (take number (is.ended ++ is.last ∷ [])) rs split.0 (types_in a.types) a.bound a.dialect) (take-map row_of number a.rows.items) split.1 in
    (behind (take number (is.ended ++ is.last ∷ [])) split.0 (types_in a.types) a.dialect first).stand
