-- A sorted type: sorting it again changes nothing, its labels are distinct if those of the type are, and it lies below and above the type.
use Rattle.std.proofs.Common.{◌≡◌, ◌≢◌, ◌↔◌, Bool, true, false, if◌then◌else◌, ap, sym, ◌∙◌, refl, subst}
use Rattle.lam_rules.specs.Types.{Label, Typ, bool, nat, unit, top, arrow, record_of, Fields, no_fields, field, joined, IsAbsent, IsWellFormed, AreWellFormed}
use Rattle.lam_rules.specs.Texts.{is_not_after, placed, sorted, sorted_fields}
use Rattle.lam_rules.specs.Sorting.{ComesFirst, IsAscending}
use Rattle.lam_rules.specs.Subtyping.{IsPermutation, IsBelow}
use Rattle.lam_rules.specs.declared.rules.Dialect.{Dialect}
use Rattle.lam_rules.proofs.SortedForms.{sorted_inside, ascending_sorted}
use Rattle.lam_rules.proofs.Permutations.{permutation_iff}
use Rattle.lam_rules.proofs.SharedTexts.{sorted_same}
use Rattle.lam_rules.proofs.Composing.{below_refl, below_trans, below_arrow, below_permutation, below_depth, EachBelow}

-- sorting once more changes nothing

placed_first : (l : Label) (t : Typ) (fs : Fields) → ComesFirst l fs → placed l t fs ≡ field l t fs
placed_first l t no_fields first = refl
placed_first l t (field k u fs) first = by (is_not_after l k) first.0
  where
    by : (b : Bool) → b ≡ true → (if b then field l t (field k u fs) else field k u (placed l t fs)) ≡ field l t (field k u fs)
    by true e = refl
    by false e = cc

first_inside : (l : Label) (fs : Fields) → ComesFirst l fs → ComesFirst l (sorted_inside fs)
first_inside l no_fields first = tt
first_inside l (field k u fs) first = (first.0, first_inside l fs first.1)

sorted_ascending_fields : (fs : Fields) → IsAscending fs → sorted_fields fs ≡ sorted_inside fs
sorted_ascending_fields no_fields up = refl
sorted_ascending_fields (field l t fs) up =
    ap (placed l (sorted t)) (sorted_ascending_fields fs up.1) ∙ placed_first l (sorted t) (sorted_inside fs) (first_inside l fs up.0)

inside_placed : (l : Label) (t : Typ) (fs : Fields) → sorted_inside (placed l t fs) ≡ placed l (sorted t) (sorted_inside fs)
inside_placed l t no_fields = refl
inside_placed l t (field k u fs) = by (is_not_after l k) (inside_placed l t fs)
  where
    by : (b : Bool) → sorted_inside (placed l t fs) ≡ placed l (sorted t) (sorted_inside fs)
        → sorted_inside (if b then field l t (field k u fs) else field k u (placed l t fs))
        ≡ (if b then field l (sorted t) (field k (sorted u) (sorted_inside fs)) else field k (sorted u) (placed l (sorted t) (sorted_inside fs)))
    by true e = refl
    by false e = ap (λ r. field k (sorted u) r) e

mutual
  pub sorted_again : (t : Typ) → sorted (sorted t) ≡ sorted t
  sorted_again bool = refl
  sorted_again nat = refl
  sorted_again unit = refl
  sorted_again top = refl
  sorted_again (arrow s t) = rw (sorted_again s, sorted_again t)
  sorted_again (record_of fs) = ap record_of (sorted_ascending_fields (sorted_fields fs) (ascending_sorted fs) ∙ inside_again fs)

  inside_again : (fs : Fields) → sorted_inside (sorted_fields fs) ≡ sorted_fields fs
  inside_again no_fields = refl
  inside_again (field l t fs) =
      inside_placed l (sorted t) (sorted_fields fs)
      ∙ ap (λ u. placed l u (sorted_inside (sorted_fields fs))) (sorted_again t)
      ∙ ap (placed l (sorted t)) (inside_again fs)

-- distinct labels

absent_placed : (m l : Label) (t : Typ) (fs : Fields) → m ≢ l → IsAbsent m fs → IsAbsent m (placed l t fs)
absent_placed m l t no_fields other absent = (other, tt)
absent_placed m l t (field k u fs) other absent = by (is_not_after l k) (absent_placed m l t fs other absent.1)
  where
    by : (b : Bool) → IsAbsent m (placed l t fs) → IsAbsent m (if b then field l t (field k u fs) else field k u (placed l t fs))
    by true rest = (other, absent)
    by false rest = (absent.0, rest)

wf_placed : (l : Label) (t : Typ) (fs : Fields) → IsWellFormed t → IsAbsent l fs → AreWellFormed fs → AreWellFormed (placed l t fs)
wf_placed l t no_fields wt absent wf = (wt, tt, tt)
wf_placed l t (field k u fs) wt absent wf = by (is_not_after l k) (wf_placed l t fs wt absent.1 wf.2)
  where
    by : (b : Bool) → AreWellFormed (placed l t fs) → AreWellFormed (if b then field l t (field k u fs) else field k u (placed l t fs))
    by true rest = (wt, absent, wf)
    by false rest = (wf.0, absent_placed k l t fs (λ e. absent.0 (sym e)) wf.1, rest)

absent_sorted : (m : Label) (fs : Fields) → IsAbsent m fs → IsAbsent m (sorted_fields fs)
absent_sorted m no_fields absent = tt
absent_sorted m (field l t fs) absent = absent_placed m l (sorted t) (sorted_fields fs) absent.0 (absent_sorted m fs absent.1)

absent_inside : (m : Label) (fs : Fields) → IsAbsent m fs → IsAbsent m (sorted_inside fs)
absent_inside m no_fields absent = tt
absent_inside m (field l t fs) absent = (absent.0, absent_inside m fs absent.1)

mutual
  pub sorted_wf : (t : Typ) → IsWellFormed t → IsWellFormed (sorted t)
  sorted_wf bool wf = tt
  sorted_wf nat wf = tt
  sorted_wf unit wf = tt
  sorted_wf top wf = tt
  sorted_wf (arrow s t) wf = (sorted_wf s wf.0, sorted_wf t wf.1)
  sorted_wf (record_of fs) wf = sorted_fields_wf fs wf

  sorted_fields_wf : (fs : Fields) → AreWellFormed fs → AreWellFormed (sorted_fields fs)
  sorted_fields_wf no_fields wf = tt
  sorted_fields_wf (field l t fs) wf = wf_placed l (sorted t) (sorted_fields fs) (sorted_wf t wf.0) (absent_sorted l fs wf.1) (sorted_fields_wf fs wf.2)

inside_wf : (fs : Fields) → AreWellFormed fs → AreWellFormed (sorted_inside fs)
inside_wf no_fields wf = tt
inside_wf (field l t fs) wf = (sorted_wf t wf.0, absent_inside l fs wf.1, inside_wf fs wf.2)

-- the sorted fields are a permutation of the fields with each type sorted, and vice versa

-- one more field: at the front of one list, and put in its place in the other
permutation_placed : (l : Label) (t : Typ) (fs gs : Fields) → IsPermutation fs gs → IsPermutation (field l t fs) (placed l t gs)
permutation_placed l t fs gs same = let at = place gs in (at.0, at.1, at.2, (rw at.3 at same))
  where
    place : (gs : Fields) → (before : Fields) × (after : Fields) × (placed l t gs ≡ joined before (field l t after)) × (gs ≡ joined before after)
    place no_fields = (no_fields, no_fields, refl, refl)
    place (field k u gs) = by (is_not_after l k) (place gs)
      where
        by : (b : Bool) → (before : Fields) × (after : Fields) × (placed l t gs ≡ joined before (field l t after)) × (gs ≡ joined before after)
            → (before : Fields) × (after : Fields) × ((if b then field l t (field k u gs) else field k u (placed l t gs)) ≡ joined before (field l t after)) × (field k u gs ≡ joined before after)
        by true rest = (no_fields, field k u gs, refl, refl)
        by false rest = (field k u rest.0, rest.1, ap (λ r. field k u r) rest.2, ap (λ r. field k u r) rest.3)

permutation_sorted : (fs : Fields) → IsPermutation (sorted_inside fs) (sorted_fields fs)
permutation_sorted no_fields = refl
permutation_sorted (field l t fs) = permutation_placed l (sorted t) (sorted_inside fs) (sorted_fields fs) (permutation_sorted fs)

permutation_back : (fs gs : Fields) → AreWellFormed fs → AreWellFormed gs → IsPermutation fs gs → IsPermutation gs fs
permutation_back fs gs wf wg same = let both = (permutation_iff fs gs wf wg).1 same in (permutation_iff gs fs wg wf).0 (both.1, both.0)

-- below and above

mutual
  pub sorted_both : (t : Typ) (d : Dialect) → IsWellFormed t → IsBelow t (sorted t) d × IsBelow (sorted t) t d
  sorted_both bool d wf = (below_refl bool d wf, below_refl bool d wf)
  sorted_both nat d wf = (below_refl nat d wf, below_refl nat d wf)
  sorted_both unit d wf = (below_refl unit d wf, below_refl unit d wf)
  sorted_both top d wf = (below_refl top d wf, below_refl top d wf)
  sorted_both (arrow s t) d wf =
      let a = sorted_both s d wf.0 in
      let b = sorted_both t d wf.1 in
      (below_arrow s t (sorted s) (sorted t) d a.1 b.0, below_arrow (sorted s) (sorted t) s t d a.0 b.1)
  sorted_both (record_of fs) d wf =
      let each = inside_both fs d wf in
      let wi = inside_wf fs wf in
      let ws = sorted_fields_wf fs wf in
      let there = permutation_sorted fs in
      let back = permutation_back (sorted_inside fs) (sorted_fields fs) wi ws there in (
        below_trans (record_of fs) (record_of (sorted_inside fs)) (record_of (sorted_fields fs)) d
            (below_depth fs (sorted_inside fs) d wf wi each.0) (below_permutation (sorted_inside fs) (sorted_fields fs) d wi ws there),
        below_trans (record_of (sorted_fields fs)) (record_of (sorted_inside fs)) (record_of fs) d
            (below_permutation (sorted_fields fs) (sorted_inside fs) d ws wi back) (below_depth (sorted_inside fs) fs d wi wf each.1),
      )

  inside_both : (fs : Fields) (d : Dialect) → AreWellFormed fs → EachBelow fs (sorted_inside fs) d × EachBelow (sorted_inside fs) fs d
  inside_both no_fields d wf = (tt, tt)
  inside_both (field l t fs) d wf =
      let here = sorted_both t d wf.0 in
      let rest = inside_both fs d wf.2 in
      ((refl, here.0, rest.0), (refl, here.1, rest.1))

pub below_sorted : (t : Typ) (d : Dialect) → IsWellFormed t → IsBelow t (sorted t) d
below_sorted t d wf = (sorted_both t d wf).0

pub sorted_below : (t : Typ) (d : Dialect) → IsWellFormed t → IsBelow (sorted t) t d
sorted_below t d wf = (sorted_both t d wf).1

-- types that have one sorted form lie below each other, and no others do
pub alike_below : (s t : Typ) → IsWellFormed s → IsWellFormed t → (d : Dialect) → (sorted s ≡ sorted t) ↔ (IsBelow s t d × IsBelow t s d)
alike_below s t ws wt d = (
  λ same. (
    below_trans s (sorted s) t d (below_sorted s d ws) (subst (λ x. IsBelow x t d) (sym same) (sorted_below t d wt)),
    below_trans t (sorted s) s d (subst (λ x. IsBelow t x d) (sym same) (below_sorted t d wt)) (sorted_below s d ws),
  ),
  λ both. sorted_same s t d both.0 both.1,
)
