-- How types are seen as trees: the tree at each variant, what a tree says of its type, and lists of fields.
use Rattle.std.proofs.Common.{◌≡◌, ℕ, ◌+◌, ◌<◌, List, [], ◌∷◌, map, String, string_bytes, length, drop, get_or, ap, sym, ◌∙◌, refl, drop-cons, add-one, subst, suc, arith, ◌++◌, codes, ◌≢◌, append_assoc, ◌≤◌, Vec}
use Rattle.std.specs.declared.alloc.Global.{Global}
use Rattle.std.specs.declared.rc.Rc.{Rc}
use Rattle.std.proofs.lemmas.List.{drop_all}
use Rattle.lam_rules.specs.Texts.{Text, left_of_arrow, separator_before}
use Rattle.lam_rules.specs.Types.{joined, Typ, bool, nat, unit, top, arrow, record_of, Fields, no_fields, field}
use Rattle.lam_rules.specs.TypeViews.{fields_made, typ_step, fields_step, typ_of, fields_of}
use Rattle.lam_rules.specs.declared.types.Ty.{Ty, fold-roll-Ty, out-Ty, roll-Ty, roll-out-Ty}
use Rattle.lam_rules.specs.declared.types.Ty.TheOpen.{Ty-F}
use Rattle.lam_rules.specs.declared.types.Ty.TheVariants.{Bool, Nat, Unit as UnitType, Top, Arrow, Record, rolls-Bool, rolls-Nat, rolls-Unit, rolls-Top, rolls-Arrow, rolls-Record}
use Rattle.lam_rules.specs.declared.types.Fields.{Fields as RustFields, out-Fields, fold_out-Fields, roll-Fields, out-roll-Fields}

-- the tree of each variant

pub typ_of-Bool : typ_of Bool ≡ bool
unfolding typ_of
typ_of-Bool = ap typ_of (sym rolls-Bool) ∙ fold-roll-Ty Typ Fields typ_step fields_step Ty-F.Bool

pub typ_of-Nat : typ_of Nat ≡ nat
unfolding typ_of
typ_of-Nat = ap typ_of (sym rolls-Nat) ∙ fold-roll-Ty Typ Fields typ_step fields_step Ty-F.Nat

pub typ_of-Unit : typ_of UnitType ≡ unit
unfolding typ_of
typ_of-Unit = ap typ_of (sym rolls-Unit) ∙ fold-roll-Ty Typ Fields typ_step fields_step Ty-F.Unit

pub typ_of-Top : typ_of Top ≡ top
unfolding typ_of
typ_of-Top = ap typ_of (sym rolls-Top) ∙ fold-roll-Ty Typ Fields typ_step fields_step Ty-F.Top

pub typ_of-Arrow : (s t : Rc Ty Global) → typ_of (Arrow s t) ≡ arrow (typ_of s.value) (typ_of t.value)
unfolding typ_of
typ_of-Arrow s t = ap typ_of (sym (rolls-Arrow s t)) ∙ fold-roll-Ty Typ Fields typ_step fields_step (Ty-F.Arrow s t)

fields_made-map : (fs : List (String Global × Ty)) → fields_made (map (λ f. (f.0, typ_of f.1)) fs) ≡ fields_of fs
fields_made-map [] = refl
fields_made-map (f ∷ fs) = ap (λ rest. field (string_bytes f.0) (typ_of f.1) rest) (fields_made-map fs)

pub typ_of-Record : (fs : RustFields) → typ_of (Record fs) ≡ record_of (fields_of (out-Fields fs).items.value.items)
unfolding typ_of
typ_of-Record fs =
    ap typ_of (sym (rolls-Record fs))
    ∙ fold-roll-Ty Typ Fields typ_step fields_step (Ty-F.Record fs)
    ∙ ap record_of (fold_out-Fields Typ Fields typ_step fields_step fs ∙ fields_made-map (out-Fields fs).items.value.items)

-- a record type made of a list
pub typ_of-made : (items : Rc (Vec (String Global × Ty) Global) Global) → typ_of (Record (roll-Fields record { items = items })) ≡ record_of (fields_of items.value.items)
typ_of-made items = typ_of-Record (roll-Fields record { items = items }) ∙ ap (λ f. record_of (fields_of f.items.value.items)) (out-roll-Fields record { items = items })

-- what holds of each variant holds of each type
pub ty_cases : (P : Ty → Type 0)
    → P Bool → P Nat → P UnitType → P Top
    → ((s t : Rc Ty Global) → P (Arrow s t))
    → ((fs : RustFields) → P (Record fs))
    → (t : Ty) → P t
ty_cases P b n u p a r t = subst P (roll-out-Ty t) (rolled (out-Ty t))
  where
    rolled : (o : Ty-F Ty RustFields) → P (roll-Ty o)
    rolled Ty-F.Bool = subst P (sym rolls-Bool) b
    rolled Ty-F.Nat = subst P (sym rolls-Nat) n
    rolled Ty-F.Unit = subst P (sym rolls-Unit) u
    rolled Ty-F.Top = subst P (sym rolls-Top) p
    rolled (Ty-F.Arrow s t) = subst P (sym (rolls-Arrow s t)) (a s t)
    rolled (Ty-F.Record fs) = subst P (sym (rolls-Record fs)) (r fs)

-- what a tree says of its type

pub is-Bool : (t : Ty) → typ_of t ≡ bool → t ≡ Bool
is-Bool = ty_cases (λ t. typ_of t ≡ bool → t ≡ Bool)
    (λ e. refl) (λ e. cc typ_of-Nat) (λ e. cc typ_of-Unit) (λ e. cc typ_of-Top)
    (λ s u e. cc (typ_of-Arrow s u)) (λ fs e. cc (typ_of-Record fs))

pub is-Nat : (t : Ty) → typ_of t ≡ nat → t ≡ Nat
is-Nat = ty_cases (λ t. typ_of t ≡ nat → t ≡ Nat)
    (λ e. cc typ_of-Bool) (λ e. refl) (λ e. cc typ_of-Unit) (λ e. cc typ_of-Top)
    (λ s u e. cc (typ_of-Arrow s u)) (λ fs e. cc (typ_of-Record fs))

pub is-Unit : (t : Ty) → typ_of t ≡ unit → t ≡ UnitType
is-Unit = ty_cases (λ t. typ_of t ≡ unit → t ≡ UnitType)
    (λ e. cc typ_of-Bool) (λ e. cc typ_of-Nat) (λ e. refl) (λ e. cc typ_of-Top)
    (λ s u e. cc (typ_of-Arrow s u)) (λ fs e. cc (typ_of-Record fs))

pub is-Top : (t : Ty) → typ_of t ≡ top → t ≡ Top
is-Top = ty_cases (λ t. typ_of t ≡ top → t ≡ Top)
    (λ e. cc typ_of-Bool) (λ e. cc typ_of-Nat) (λ e. cc typ_of-Unit) (λ e. refl)
    (λ s u e. cc (typ_of-Arrow s u)) (λ fs e. cc (typ_of-Record fs))

pub no_arrow : (t : Ty) (x y : Typ) → ((s u : Rc Ty Global) → t ≡ Arrow s u → ⊥) → typ_of t ≡ arrow x y → ⊥
no_arrow t x y = ty_cases (λ t. ((s u : Rc Ty Global) → t ≡ Arrow s u → ⊥) → typ_of t ≡ arrow x y → ⊥)
    (λ n e. cc typ_of-Bool) (λ n e. cc typ_of-Nat) (λ n e. cc typ_of-Unit) (λ n e. cc typ_of-Top)
    (λ s u n e. n s u refl) (λ fs n e. cc (typ_of-Record fs)) t

pub no_record : (t : Ty) (gs : Fields) → ((fs : RustFields) → t ≡ Record fs → ⊥) → typ_of t ≡ record_of gs → ⊥
no_record t gs = ty_cases (λ t. ((fs : RustFields) → t ≡ Record fs → ⊥) → typ_of t ≡ record_of gs → ⊥)
    (λ n e. cc typ_of-Bool) (λ n e. cc typ_of-Nat) (λ n e. cc typ_of-Unit) (λ n e. cc typ_of-Top)
    (λ s u n e. cc (typ_of-Arrow s u)) (λ fs n e. n fs refl) t

pub left_of_arrow-other : (t : Ty) (x : Text) → ((s u : Rc Ty Global) → t ≡ Arrow s u → ⊥) → left_of_arrow (typ_of t) x ≡ x
left_of_arrow-other t x = ty_cases (λ t. ((s u : Rc Ty Global) → t ≡ Arrow s u → ⊥) → left_of_arrow (typ_of t) x ≡ x)
    (λ n. rw typ_of-Bool) (λ n. rw typ_of-Nat) (λ n. rw typ_of-Unit) (λ n. rw typ_of-Top)
    (λ s u n. absurd (n s u refl)) (λ fs n. rw (typ_of-Record fs)) t

-- lists of fields

pub fields_of-drop : (fs : List (String Global × Ty)) (i : ℕ) (f : String Global × Ty)
    → i < length fs → f ≡ get_or fs i f
    → fields_of (drop i fs) ≡ field (string_bytes f.0) (typ_of f.1) (fields_of (drop (i + 1) fs))
fields_of-drop fs i f lt is = rw add-one (rw (drop-cons fs i f lt) (ap (λ g. field (string_bytes g.0) (typ_of g.1) (fields_of (drop (suc i) fs))) (sym is)))

-- how many fields
abbrev pub field_count : Fields → ℕ
field_count no_fields = 0
field_count (field l t rest) = 1 + field_count rest

pub field_count-fields_of : (fs : List (String Global × Ty)) → field_count (fields_of fs) ≡ length fs
field_count-fields_of [] = refl
field_count-fields_of (f ∷ fs) = let e = field_count-fields_of fs in omega arith

pub fields_of-longer : (fs gs : List (String Global × Ty)) → length fs ≢ length gs → fields_of fs ≡ fields_of gs → ⊥
fields_of-longer fs gs n e = n (sym (field_count-fields_of fs) ∙ ap field_count e ∙ field_count-fields_of gs)

pub separator_before-none : (fs : List (String Global × Ty)) → length fs ≡ 0 → separator_before (fields_of fs) ≡ []
separator_before-none [] e = refl
separator_before-none (f ∷ fs) e = absurd (omega arith)

pub separator_before-some : (fs : List (String Global × Ty)) → length fs ≢ 0 → separator_before (fields_of fs) ≡ codes ", "
separator_before-some [] n = absurd (n refl)
separator_before-some (f ∷ fs) n = refl

pub joined-none : (fs : Fields) → joined fs no_fields ≡ fs
joined-none no_fields = refl
joined-none (field l t rest) = ap (λ r. field l t r) (joined-none rest)

pub joined-push : (fs : List (String Global × Ty)) (f : String Global × Ty) (gs : Fields)
    → joined (fields_of (fs ++ f ∷ [])) gs ≡ joined (fields_of fs) (field (string_bytes f.0) (typ_of f.1) gs)
joined-push [] f gs = refl
joined-push (g ∷ fs) f gs = ap (λ r. field (string_bytes g.0) (typ_of g.1) r) (joined-push fs f gs)

-- a list that is copied from its front: one more field, and the end
pub copied_more : (copies more fs : List (String Global × Ty)) (i : ℕ) (f : String Global × Ty) (label : String Global) (t : Ty) (gs : Fields)
    → i < length fs → f ≡ get_or fs i f → more ≡ copies ++ (label, t) ∷ []
    → string_bytes label ≡ string_bytes f.0 → typ_of t ≡ typ_of f.1
    → joined (fields_of copies) (fields_of (drop i fs)) ≡ gs
    → joined (fields_of more) (fields_of (drop (i + 1) fs)) ≡ gs
copied_more copies more fs i f label t gs lt is pushed same_label same_type so_far =
    rw (pushed, joined-push copies (label, t) (fields_of (drop (i + 1) fs)), same_label, same_type) (rw (fields_of-drop fs i f lt is) at so_far)

pub copied_all : (copies fs : List (String Global × Ty)) (i : ℕ) → length fs ≤ i
    → joined (fields_of copies) (fields_of (drop i fs)) ≡ fields_of fs → fields_of copies ≡ fields_of fs
copied_all copies fs i le so_far = sym (joined-none (fields_of copies)) ∙ (rw (drop_all i fs le) at so_far)

pub ruleset shapes = (typ_of-made, copied_all, typ_of-Bool, typ_of-Nat, typ_of-Unit, typ_of-Top, typ_of-Arrow, typ_of-Record, fields_of-drop, is-Bool, is-Nat, is-Unit, is-Top, no_arrow, no_record, left_of_arrow-other, fields_of-longer, separator_before-none, separator_before-some, joined-none, joined-push, append_assoc)
