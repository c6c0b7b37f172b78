-- What a test of two types says, at each pair of variants.
use Rattle.std.proofs.Common.{◌≡◌, ◌⊎◌, ◌↔◌, ◌+◌, ◌<◌, List, Bool, true, false, IsTrue, ap, sym, ◌∙◌, refl, inl, inr, subst, Vec, String, string_bytes, drop, length, get_or, ℕ}
use Rattle.std.specs.declared.alloc.Global.{Global}
use Rattle.std.specs.declared.rc.Rc.{Rc}
use Rattle.lam_rules.specs.Types.{Label, Typ, bool, nat, record_of, Fields, Has, nodes, nodes_in, IsWellFormed, AreWellFormed}
use Rattle.lam_rules.specs.TypeViews.{typ_of, fields_of}
use Rattle.lam_rules.specs.Subtyping.{IsBelow}
use Rattle.lam_rules.specs.declared.rules.Dialect.{Dialect}
use Rattle.lam_rules.specs.declared.types.Ty.{Ty}
use Rattle.lam_rules.specs.declared.types.Ty.TheVariants.{Bool as BoolType, Nat, Unit as UnitType, Top, Arrow, Record}
use Rattle.lam_rules.specs.declared.types.Fields.{Fields as RustFields, out-Fields, roll-Fields}
use Rattle.lam_rules.proofs.TypeShapes.{ty_cases, typ_of-made, typ_of-Bool, typ_of-Nat, typ_of-Unit, typ_of-Top, typ_of-Arrow, typ_of-Record, is-Bool, is-Nat, is-Unit, no_arrow, no_record, fields_of-drop}
use Rattle.lam_rules.proofs.Composing.{below_refl, below_top}
use Rattle.lam_sub.specs.inner.FieldsBelow.{AreBelow}
use Rattle.lam_sub.proofs.Below.{bool_below_nat, arrow_iff, below_bool, below_nat, below_unit, below_arrow_is, below_record_is, field_iff}

pub true_here : {A : Type 0} → A → IsTrue true ↔ A
true_here a = ((λ t. a), (λ h. refl))

pub false_here : {A : Type 0} → (A → ⊥) → IsTrue false ↔ A
false_here n = ((λ f. absurd (cc f)), (λ a. absurd (n a)))

pub at_top : (s t : Ty) (d : Dialect) → t ≡ Top → IsWellFormed (typ_of s) → IsTrue true ↔ IsBelow (typ_of s) (typ_of t) d
at_top s t d is wf = true_here (rw (is, typ_of-Top) (below_top (typ_of s) d wf))

-- both types are the same
pub at_same : (s t : Ty) (d : Dialect) → s ≡ t → IsWellFormed (typ_of s) → IsTrue true ↔ IsBelow (typ_of s) (typ_of t) d
at_same s t d is wf = true_here (subst (λ u. IsBelow (typ_of s) (typ_of u) d) is (below_refl (typ_of s) d wf))

pub not_bool : (s t : Ty) (d : Dialect) → t ≡ BoolType → (s ≡ BoolType → ⊥) → IsTrue false ↔ IsBelow (typ_of s) (typ_of t) d
not_bool s t d is n = false_here (λ below. n (is-Bool s (below_bool (typ_of s) d (subst (λ u. IsBelow (typ_of s) u d) (ap typ_of is ∙ typ_of-Bool) below))))

pub not_unit : (s t : Ty) (d : Dialect) → t ≡ UnitType → (s ≡ UnitType → ⊥) → IsTrue false ↔ IsBelow (typ_of s) (typ_of t) d
not_unit s t d is n = false_here (λ below. n (is-Unit s (below_unit (typ_of s) d (subst (λ u. IsBelow (typ_of s) u d) (ap typ_of is ∙ typ_of-Unit) below))))

pub not_nat : (s t : Ty) (d : Dialect) → t ≡ Nat → (s ≡ Nat → ⊥) → (s ≡ BoolType → ⊥) → IsTrue false ↔ IsBelow (typ_of s) (typ_of t) d
not_nat s t d is n m = false_here (λ below. by (below_nat (typ_of s) d (subst (λ u. IsBelow (typ_of s) u d) (ap typ_of is ∙ typ_of-Nat) below)))
  where
    by : (typ_of s ≡ nat) ⊎ ((typ_of s ≡ bool) × (d ≡ Dialect.Two)) → ⊥
    by (inl e) = n (is-Nat s e)
    by (inr e) = m (is-Bool s e.0)

pub bool_and_nat : (s t : Ty) (d : Dialect) (r : Bool) → s ≡ BoolType → t ≡ Nat → (IsTrue r ↔ (d ≡ Dialect.Two)) → IsTrue r ↔ IsBelow (typ_of s) (typ_of t) d
bool_and_nat s t d r is_bool is_nat decides = (
  λ h. rw (is_bool, is_nat, typ_of-Bool, typ_of-Nat, decides.0 h) bool_below_nat,
  λ below. by (below_nat (typ_of s) d (subst (λ u. IsBelow (typ_of s) u d) (ap typ_of is_nat ∙ typ_of-Nat) below)),
)
  where
    by : (typ_of s ≡ nat) ⊎ ((typ_of s ≡ bool) × (d ≡ Dialect.Two)) → IsTrue r
    by (inl e) = cc (typ_of-Bool, is_bool)
    by (inr e) = decides.1 e.1

pub not_arrow : (s t : Ty) (x y : Rc Ty Global) (d : Dialect) → t ≡ Arrow x y → ((a b : Rc Ty Global) → s ≡ Arrow a b → ⊥) → IsTrue false ↔ IsBelow (typ_of s) (typ_of t) d
not_arrow s t x y d is n = false_here (λ below.
    let found = below_arrow_is (typ_of s) (typ_of x.value) (typ_of y.value) d (subst (λ u. IsBelow (typ_of s) u d) (ap typ_of is ∙ typ_of-Arrow x y) below) in
    no_arrow s found.0 found.1 n found.2)

pub not_record : (s t : Ty) (gs : RustFields) (d : Dialect) → t ≡ Record gs → ((fs : RustFields) → s ≡ Record fs → ⊥) → IsTrue false ↔ IsBelow (typ_of s) (typ_of t) d
not_record s t gs d is n = false_here (λ below.
    let found = below_record_is (typ_of s) (fields_of (out-Fields gs).items.value.items) d (subst (λ u. IsBelow (typ_of s) u d) (ap typ_of is ∙ typ_of-Record gs) below) in
    no_record s found.0 n found.1)

-- two arrows: the test of the parameters, then that of the outcomes

pub two_arrows : (s t : Ty) (a b x y : Rc Ty Global) (d : Dialect) → s ≡ Arrow a b → t ≡ Arrow x y
    → (IsBelow (typ_of x.value) (typ_of a.value) d × IsBelow (typ_of b.value) (typ_of y.value) d) ↔ IsBelow (typ_of s) (typ_of t) d
two_arrows s t a b x y d is_s is_t = rw (is_s, is_t, typ_of-Arrow a b, typ_of-Arrow x y) (arrow_iff (typ_of a.value) (typ_of b.value) (typ_of x.value) (typ_of y.value) d)

pub arrows_fail : (A B C : Type 0) (r : Bool) → (A × B) ↔ C → r ≡ false → IsTrue r ↔ A → IsTrue false ↔ C
arrows_fail A B C r both fails first = false_here (λ c. let t : IsTrue r = first.1 (both.1 c).0 in cc)

pub arrows_rest : (A B C : Type 0) (r q : Bool) → (A × B) ↔ C → r ≡ true → IsTrue r ↔ A → IsTrue q ↔ B → IsTrue q ↔ C
arrows_rest A B C r q both holds first second = ((λ t. both.0 (first.0 holds, second.0 t)), (λ c. second.1 (both.1 c).1))

-- records, seen as lists of fields

pub record_seen : (t : Ty) (fields : Rc (Vec (String Global × Ty) Global) Global) (shared : Vec (String Global × Ty) Global) (xs : List (String Global × Ty))
    → t ≡ Record (roll-Fields record { items = fields }) → shared ≡ fields.value → xs ≡ shared.items → record_of (fields_of xs) ≡ typ_of t
record_seen t fields shared xs is share same = ap (λ ys. record_of (fields_of ys)) (same ∙ ap (λ v. v.items) share) ∙ sym (typ_of-made fields) ∙ sym (ap typ_of is)

pub nodes_of_record : (t : Ty) (xs : List (String Global × Ty)) → record_of (fields_of xs) ≡ typ_of t → nodes (typ_of t) ≡ 1 + nodes_in (fields_of xs)
nodes_of_record t xs seen = ap nodes (sym seen)

pub nodes_of_arrow : (t a b : Ty) (x y : Rc Ty Global) → t ≡ Arrow x y → a ≡ x.value → b ≡ y.value → nodes (typ_of t) ≡ 1 + nodes (typ_of a) + nodes (typ_of b)
nodes_of_arrow t a b x y is is_a is_b = rw (is_a, is_b) (ap nodes (ap typ_of is ∙ typ_of-Arrow x y))

-- what is left besides Top, arrows and records
pub only_bool_and_nat : (s t : Ty) (d : Dialect) → (t ≡ Top → ⊥) → ((x y : Rc Ty Global) → t ≡ Arrow x y → ⊥) → ((fs : RustFields) → t ≡ Record fs → ⊥)
    → (typ_of s ≡ typ_of t → ⊥) → IsBelow (typ_of s) (typ_of t) d → (typ_of s ≡ bool) × (typ_of t ≡ nat) × (d ≡ Dialect.Two)
only_bool_and_nat s t d = ty_cases
    (λ u. (u ≡ Top → ⊥) → ((x y : Rc Ty Global) → u ≡ Arrow x y → ⊥) → ((fs : RustFields) → u ≡ Record fs → ⊥)
    → (typ_of s ≡ typ_of u → ⊥) → IsBelow (typ_of s) (typ_of u) d → (typ_of s ≡ bool) × (typ_of u ≡ nat) × (d ≡ Dialect.Two))
    (λ n_top n_arrow n_record n_same below. absurd (n_same (below_bool (typ_of s) d (subst (λ u. IsBelow (typ_of s) u d) typ_of-Bool below) ∙ sym typ_of-Bool)))
    (λ n_top n_arrow n_record n_same below. by n_same (below_nat (typ_of s) d (subst (λ u. IsBelow (typ_of s) u d) typ_of-Nat below)))
    (λ n_top n_arrow n_record n_same below. absurd (n_same (below_unit (typ_of s) d (subst (λ u. IsBelow (typ_of s) u d) typ_of-Unit below) ∙ sym typ_of-Unit)))
    (λ n_top n_arrow n_record n_same below. absurd (n_top refl))
    (λ x y n_top n_arrow n_record n_same below. absurd (n_arrow x y refl))
    (λ fs n_top n_arrow n_record n_same below. absurd (n_record fs refl))
    t
  where
    by : (typ_of s ≡ typ_of Nat → ⊥) → (typ_of s ≡ nat) ⊎ ((typ_of s ≡ bool) × (d ≡ Dialect.Two)) → (typ_of s ≡ bool) × (typ_of Nat ≡ nat) × (d ≡ Dialect.Two)
    by n_same (inl e) = absurd (n_same (e ∙ sym typ_of-Nat))
    by n_same (inr e) = (e.0, typ_of-Nat, e.1)

-- the fields above, one after the other

pub field_first : (fs : Fields) (gs : List (String Global × Ty)) (i : ℕ) (g : String Global × Ty) (d : Dialect) → i < length gs → g ≡ get_or gs i g
    → (((s : Typ) × Has (string_bytes g.0) s fs × IsBelow s (typ_of g.1) d) × AreBelow fs (fields_of (drop (i + 1) gs)) d) ↔ AreBelow fs (fields_of (drop i gs)) d
field_first fs gs i g d lt is = rw (fields_of-drop gs i g lt is) ((λ h. h), (λ h. h))

pub field_fails : (A B C D : Type 0) → (A × B) ↔ C → D ↔ C → (A → ⊥) → IsTrue false ↔ D
field_fails A B C D first rest none = false_here (λ h. none (first.1 (rest.0 h)).0)

pub field_holds : (A B C D : Type 0) → (A × B) ↔ C → D ↔ C → A → D ↔ B
field_holds A B C D first rest a = ((λ h. (first.1 (rest.0 h)).1), (λ b. rest.1 (first.0 (a, b))))

pub found_field : (fs : Fields) (d : Dialect) (l m : Label) (s t : Typ) (r : Bool) → AreWellFormed fs → m ≡ l → Has m s fs → IsTrue r ↔ IsBelow s t d
    → IsTrue r ↔ ((u : Typ) × Has l u fs × IsBelow u t d)
found_field fs d l m s t r wf same has decides =
    let iff = field_iff fs d l s t wf (subst (λ k. Has k s fs) same has) in
    ((λ h. iff.1 (decides.0 h)), (λ h. decides.1 (iff.0 h)))

pub not_true : (A : Type 0) (r : Bool) → r ≡ false → IsTrue r ↔ A → A → ⊥
not_true A r fails decides a = let t : IsTrue r = decides.1 a in cc
