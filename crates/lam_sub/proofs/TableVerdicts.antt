-- Subtyping of numbers of a table.
use Rattle.std.proofs.Common.{◌≡◌, ◌⊎◌, ◌↔◌, ℕ, ◌+◌, ◌<◌, ◌++◌, List, [], ◌∷◌, Bool, true, false, IsTrue, String, string_bytes, length, get_or, take, drop, ap, sym, ◌∙◌, refl, inl, inr, subst, arith, Vec}
use Rattle.std.proofs.lemmas.List.{take-append-drop}
use Rattle.std.specs.declared.alloc.Global.{Global}
use Rattle.lam_rules.specs.Types.{Label, Typ, bool, nat, unit, arrow, record_of, Fields, field, joined, Has, IsAbsent, IsWellFormed}
use Rattle.lam_rules.specs.Texts.{sorted}
use Rattle.lam_rules.specs.Subtyping.{IsBelow}
use Rattle.lam_rules.specs.Numbers.{type_of, fields_over, shaped, IsOver, AreEarlier}
use Rattle.lam_rules.specs.declared.rules.Dialect.{Dialect}
use Rattle.lam_rules.specs.declared.numbers.TyNo.{TyNo}
use Rattle.lam_rules.specs.declared.numbers.Shape.{Shape}
use Rattle.lam_rules.proofs.Tables.{below_more}
use Rattle.lam_rules.proofs.SortedBelow.{below_sorted, sorted_below}
use Rattle.lam_rules.proofs.ByShape.{below_wf}
use Rattle.lam_rules.proofs.Composing.{below_refl, below_trans}
use Rattle.lam_rules.proofs.TableEntries.{fields_over-drop}
use Rattle.lam_sub.specs.inner.FieldsBelow.{AreBelow}
use Rattle.lam_sub.proofs.LookUps.{has_in_first, has_in_second, absent_in_both}
use Rattle.lam_sub.proofs.Below.{bool_below_nat, below_bool, below_nat, below_unit, below_arrow_is, below_record_is, arrow_iff}
use Rattle.lam_sub.proofs.ByVariant.{true_here, false_here}

-- one sorted type is below another exactly if the types are

pub sorted_iff : (s t : Typ) (d : Dialect) → IsWellFormed s → IsWellFormed t → IsBelow (sorted s) (sorted t) d ↔ IsBelow s t d
sorted_iff s t d ws wt = (
  λ h. below_trans s (sorted s) t d (below_sorted s d ws) (below_trans (sorted s) (sorted t) t d h (sorted_below t d wt)),
  λ h. below_trans (sorted s) s (sorted t) d (sorted_below s d ws) (below_trans s t (sorted t) d h (below_sorted t d wt)),
)

-- shapes

shape_bool : (ts : List Typ) (s : Shape) → shaped ts s ≡ bool → s ≡ Shape.Bool
shape_bool ts Shape.Bool e = refl
shape_bool ts _ e = cc

shape_nat : (ts : List Typ) (s : Shape) → shaped ts s ≡ nat → s ≡ Shape.Nat
shape_nat ts Shape.Nat e = refl
shape_nat ts _ e = cc

shape_unit : (ts : List Typ) (s : Shape) → shaped ts s ≡ unit → s ≡ Shape.Unit
shape_unit ts Shape.Unit e = refl
shape_unit ts _ e = cc

pub shape_no_bool : (ts : List Typ) (s : Shape) (d : Dialect) → (s ≡ Shape.Bool → ⊥) → IsTrue false ↔ IsBelow (shaped ts s) bool d
shape_no_bool ts s d n = false_here (λ below. n (shape_bool ts s (below_bool (shaped ts s) d below)))

pub shape_no_unit : (ts : List Typ) (s : Shape) (d : Dialect) → (s ≡ Shape.Unit → ⊥) → IsTrue false ↔ IsBelow (shaped ts s) unit d
shape_no_unit ts s d n = false_here (λ below. n (shape_unit ts s (below_unit (shaped ts s) d below)))

pub shape_no_nat : (ts : List Typ) (s : Shape) (d : Dialect) → (s ≡ Shape.Nat → ⊥) → (s ≡ Shape.Bool → ⊥) → IsTrue false ↔ IsBelow (shaped ts s) nat d
shape_no_nat ts s d n m = false_here (λ below. by (below_nat (shaped ts s) d below))
  where
    by : (shaped ts s ≡ nat) ⊎ ((shaped ts s ≡ bool) × (d ≡ Dialect.Two)) → ⊥
    by (inl e) = n (shape_nat ts s e)
    by (inr e) = m (shape_bool ts s e.0)

pub bool_nat_iff : (d : Dialect) (r : Bool) → (IsTrue r ↔ (d ≡ Dialect.Two)) → IsTrue r ↔ IsBelow bool nat d
bool_nat_iff d r decides = ((λ h. rw (decides.0 h) bool_below_nat), (λ below. by (below_nat bool d below)))
  where
    by : (bool ≡ nat) ⊎ ((bool ≡ bool) × (d ≡ Dialect.Two)) → IsTrue r
    by (inl e) = cc
    by (inr e) = decides.1 e.1

pub shape_no_arrow : (ts : List Typ) (s : Shape) (t1 t2 : Typ) (d : Dialect) → ((p q : TyNo) → s ≡ Shape.Arrow p q → ⊥) → IsTrue false ↔ IsBelow (shaped ts s) (arrow t1 t2) d
shape_no_arrow ts s t1 t2 d n = false_here (λ below. by s n (below_arrow_is (shaped ts s) t1 t2 d below).2)
  where
    by : (u : Shape) → ((p q : TyNo) → u ≡ Shape.Arrow p q → ⊥) → {s1 s2 : Typ} → shaped ts u ≡ arrow s1 s2 → ⊥
    by (Shape.Arrow p q) m e = m p q refl
    by _ m e = cc

pub shape_no_record : (ts : List Typ) (s : Shape) (gs : Fields) (d : Dialect) → ((fs : Vec (String Global × TyNo) Global) → s ≡ Shape.Record fs → ⊥) → IsTrue false ↔ IsBelow (shaped ts s) (record_of gs) d
shape_no_record ts s gs d n = false_here (λ below. by s n (below_record_is (shaped ts s) gs d below).1)
  where
    by : (u : Shape) → ((fs : Vec (String Global × TyNo) Global) → u ≡ Shape.Record fs → ⊥) → {hs : Fields} → shaped ts u ≡ record_of hs → ⊥
    by (Shape.Record fs) m e = m fs refl
    by _ m e = cc

-- labeled numbers

pub fields_over-append : (ts : List Typ) (fs gs : List (String Global × TyNo)) → fields_over ts (fs ++ gs) ≡ joined (fields_over ts fs) (fields_over ts gs)
fields_over-append ts [] gs = refl
fields_over-append ts (f ∷ fs) gs = ap (λ rest. field (string_bytes f.0) (type_of ts f.1) rest) (fields_over-append ts fs gs)

fields_over-cut : (ts : List Typ) (fs : List (String Global × TyNo)) (n : ℕ) → joined (fields_over ts (take n fs)) (fields_over ts (drop n fs)) ≡ fields_over ts fs
fields_over-cut ts fs n = sym (fields_over-append ts (take n fs) (drop n fs)) ∙ ap (λ gs. fields_over ts gs) (take-append-drop n fs)

pub number_in_front : (ts : List Typ) (fs : List (String Global × TyNo)) (n : ℕ) (l : Label) (t : Typ) → Has l t (fields_over ts (take n fs)) → Has l t (fields_over ts fs)
number_in_front ts fs n l t has = subst (λ r. Has l t r) (fields_over-cut ts fs n) (has_in_first (fields_over ts (take n fs)) (fields_over ts (drop n fs)) l t has)

pub number_in_back : (ts : List Typ) (fs : List (String Global × TyNo)) (n : ℕ) (l : Label) (t : Typ) → Has l t (fields_over ts (drop n fs)) → Has l t (fields_over ts fs)
number_in_back ts fs n l t has = subst (λ r. Has l t r) (fields_over-cut ts fs n) (has_in_second (fields_over ts (take n fs)) (fields_over ts (drop n fs)) l t has)

pub number_in_neither : (ts : List Typ) (fs : List (String Global × TyNo)) (n : ℕ) (l : Label)
    → IsAbsent l (fields_over ts (take n fs)) → IsAbsent l (fields_over ts (drop n fs)) → IsAbsent l (fields_over ts fs)
number_in_neither ts fs n l a b = subst (λ r. IsAbsent l r) (fields_over-cut ts fs n) (absent_in_both (fields_over ts (take n fs)) (fields_over ts (drop n fs)) l a b)

numbers_split : (n : ℕ) (fs gs : List (String Global × TyNo)) → AreEarlier n (fs ++ gs) → AreEarlier n fs × AreEarlier n gs
numbers_split n [] gs below = (tt, below)
numbers_split n (f ∷ fs) gs below = let rest = numbers_split n fs gs below.1 in ((below.0, rest.0), rest.1)

pub numbers_cut : (n : ℕ) (fs : List (String Global × TyNo)) (k : ℕ) → AreEarlier n fs → AreEarlier n (take k fs) × AreEarlier n (drop k fs)
numbers_cut n fs k below = numbers_split n (take k fs) (drop k fs) (subst (λ gs. AreEarlier n gs) (sym (take-append-drop k fs)) below)

-- the fields above, one after the other
pub number_first : (ts : List Typ) (fs : Fields) (gs : List (String Global × TyNo)) (i : ℕ) (g : String Global × TyNo) (d : Dialect) → i < length gs → g ≡ get_or gs i g
    → (((s : Typ) × Has (string_bytes g.0) s fs × IsBelow s (type_of ts g.1) d) × AreBelow fs (fields_over ts (drop (i + 1) gs)) d) ↔ AreBelow fs (fields_over ts (drop i gs)) d
number_first ts fs gs i g d lt is = rw (fields_over-drop ts gs i g lt is) ((λ h. h), (λ h. h))

-- a verdict on sorted forms is one on the types
pub sorted_verdict : (s t x y : Typ) (d : Dialect) (r : Bool) → IsWellFormed s → IsWellFormed t → x ≡ sorted s → y ≡ sorted t
    → IsTrue r ↔ IsBelow x y d → IsTrue r ↔ IsBelow s t d
sorted_verdict s t x y d r ws wt is_x is_y verdict =
    let iff = sorted_iff s t d ws wt in
    let here = subst (λ u. IsTrue r ↔ IsBelow u (sorted t) d) is_x (subst (λ u. IsTrue r ↔ IsBelow x u d) is_y verdict) in
    ((λ h. iff.0 (here.0 h)), (λ h. here.1 (iff.1 h)))

-- types by the shapes of their numbers

pub arrow_numbers : (ts : List Typ) (s t : Typ) (x y : Shape) (p o q r : TyNo) (d : Dialect) → s ≡ shaped ts x → t ≡ shaped ts y → x ≡ Shape.Arrow p o → y ≡ Shape.Arrow q r
    → (IsBelow (type_of ts q) (type_of ts p) d × IsBelow (type_of ts o) (type_of ts r) d) ↔ IsBelow s t d
arrow_numbers ts s t x y p o q r d is_s is_t is_x is_y =
    subst (λ u. (IsBelow (type_of ts q) (type_of ts p) d × IsBelow (type_of ts o) (type_of ts r) d) ↔ IsBelow u t d) (sym (is_s ∙ ap (shaped ts) is_x))
    (subst (λ u. (IsBelow (type_of ts q) (type_of ts p) d × IsBelow (type_of ts o) (type_of ts r) d) ↔ IsBelow (arrow (type_of ts p) (type_of ts o)) u d) (sym (is_t ∙ ap (shaped ts) is_y))
    (arrow_iff (type_of ts p) (type_of ts o) (type_of ts q) (type_of ts r) d))

pub record_of_numbers : (ts : List Typ) (s : Typ) (x : Shape) (fs : Vec (String Global × TyNo) Global) (xs : List (String Global × TyNo))
    → s ≡ shaped ts x → x ≡ Shape.Record fs → xs ≡ fs.items → s ≡ record_of (fields_over ts xs)
record_of_numbers ts s x fs xs is_s is_x is_xs = is_s ∙ ap (shaped ts) is_x ∙ ap (λ ys. record_of (fields_over ts ys)) (sym is_xs)

pub not_arrow_numbers : (ts : List Typ) (s t : Typ) (x y : Shape) (q r : TyNo) (d : Dialect) → s ≡ shaped ts x → t ≡ shaped ts y → y ≡ Shape.Arrow q r
    → ((p o : TyNo) → x ≡ Shape.Arrow p o → ⊥) → IsTrue false ↔ IsBelow s t d
not_arrow_numbers ts s t x y q r d is_s is_t is_y n =
    subst (λ u. IsTrue false ↔ IsBelow u t d) (sym is_s)
    (subst (λ u. IsTrue false ↔ IsBelow (shaped ts x) u d) (sym (is_t ∙ ap (shaped ts) is_y)) (shape_no_arrow ts x (type_of ts q) (type_of ts r) d n))

pub not_record_numbers : (ts : List Typ) (s t : Typ) (x y : Shape) (gs : Vec (String Global × TyNo) Global) (d : Dialect) → s ≡ shaped ts x → t ≡ shaped ts y → y ≡ Shape.Record gs
    → ((fs : Vec (String Global × TyNo) Global) → x ≡ Shape.Record fs → ⊥) → IsTrue false ↔ IsBelow s t d
not_record_numbers ts s t x y gs d is_s is_t is_y n =
    subst (λ u. IsTrue false ↔ IsBelow u t d) (sym is_s)
    (subst (λ u. IsTrue false ↔ IsBelow (shaped ts x) u d) (sym (is_t ∙ ap (shaped ts) is_y)) (shape_no_record ts x (fields_over ts gs.items) d n))

pub stand_in : (n m : ℕ) (x : Shape) (fs : Vec (String Global × TyNo) Global) (xs : List (String Global × TyNo)) → IsOver n x → n < m → x ≡ Shape.Record fs → xs ≡ fs.items → AreEarlier m xs
stand_in n m x fs xs over lt is_x is_xs =
    subst (λ ys. AreEarlier m ys) (sym is_xs) (below_more n m fs.items (subst (λ s. IsOver n s) is_x over) (omega arith))

-- types with one sorted form are below each other
pub equal_sorted : (s t x y : Typ) (d : Dialect) → IsWellFormed s → IsWellFormed t → x ≡ sorted s → y ≡ sorted t → x ≡ y → IsTrue true ↔ IsBelow s t d
equal_sorted s t x y d ws wt is_x is_y same =
    true_here ((sorted_iff s t d ws wt).0
    (subst (λ u. IsBelow (sorted s) u d) (sym is_x ∙ same ∙ is_y) (below_refl (sorted s) d (below_wf s (sorted s) d (below_sorted s d ws)).1)))
