-- Fields found by their labels, and lists of fields put together.
use Rattle.std.proofs.Common.{◌≡◌, ◌⊎◌, ◌++◌, ℕ, List, [], ◌∷◌, String, Bool, true, false, if◌then◌else◌, ap, sym, ◌∙◌, refl, inl, inr, subst, take, drop, string_bytes, ◌+◌, ◌<◌, length, get_or, Option, Some, None, is_some, IfSome, IfNone, min}
use Rattle.std.specs.Option.{option_map, option_or}
use Rattle.std.specs.List.{find}
use Rattle.std.specs.Str.{bytes_eq}
use Rattle.std.specs.declared.alloc.Global.{Global}
use Rattle.std.proofs.lemmas.List.{take-append-drop, drop_min, take_min}
use Rattle.std.proofs.lemmas.List.Folds.{find-append}
use Rattle.std.proofs.lemmas.Slice.Eq.{bytes_eq-Decides}
use Rattle.std.proofs.lemmas.Bool.Decides.{not_from_Decides}
use Rattle.lam_rules.specs.Types.{Label, Typ, Fields, no_fields, field, joined, Has, IsAbsent, AreWellFormed}
use Rattle.lam_rules.specs.TypeViews.{typ_of, fields_of}
use Rattle.lam_rules.specs.Numbers.{first_under}
use Rattle.lam_rules.specs.Subtyping.{BeginsWith}
use Rattle.lam_rules.specs.declared.types.Ty.{Ty}
use Rattle.lam_rules.proofs.Permutations.{absent_not}
use Rattle.lam_rules.proofs.TypeShapes.{fields_of-drop, joined-push}
use Rattle.lam_sub.specs.OtherFields.{is_label_of, other_fields}

-- some field has the label, or none has it
pub label_or : (l : Label) (fs : Fields) → ((t : Typ) × Has l t fs) ⊎ IsAbsent l fs
label_or l no_fields = inr tt
label_or l (field k t fs) = by (bytes_eq k l) refl (label_or l fs)
  where
    by : (b : Bool) → bytes_eq k l ≡ b → ((u : Typ) × Has l u fs) ⊎ IsAbsent l fs → ((u : Typ) × Has l u (field k t fs)) ⊎ IsAbsent l (field k t fs)
    by true e rest = inl (t, inl ((bytes_eq-Decides k l).0 e, refl))
    by false e (inl found) = inl (found.0, inr found.1)
    by false e (inr absent) = inr ((λ same. not_from_Decides (bytes_eq k l) (bytes_eq-Decides k l) e (sym same)), absent)

pub absent_from : (k : Label) (fs : Fields) → ((t : Typ) → Has k t fs → ⊥) → IsAbsent k fs
absent_from k no_fields none = tt
absent_from k (field j t fs) none = ((λ e. none t (inl (sym e, refl))), absent_from k fs (λ u has. none u (inr has)))

label_there : (l : Label) (t : Typ) (gs : Fields) → Has l t gs → is_label_of l gs ≡ true
label_there l t no_fields has = absurd has
label_there l t (field k u gs) (inl e) = rw ((bytes_eq-Decides k l).1 e.0)
label_there l t (field k u gs) (inr has) = by (bytes_eq k l) (label_there l t gs has)
  where
    by : (b : Bool) → is_label_of l gs ≡ true → (if b then true else is_label_of l gs) ≡ true
    by true e = refl
    by false e = e

label_not : (l : Label) (gs : Fields) → IsAbsent l gs → is_label_of l gs ≡ false
label_not l no_fields absent = refl
label_not l (field k u gs) absent = by (bytes_eq k l) refl (label_not l gs absent.1)
  where
    by : (b : Bool) → bytes_eq k l ≡ b → is_label_of l gs ≡ false → (if b then true else is_label_of l gs) ≡ false
    by true e rest = absurd (absent.0 (sym ((bytes_eq-Decides k l).0 e)))
    by false e rest = rest

-- the other fields, field by field

pub others_without : (l : Label) (s t : Typ) (fs gs : Fields) → Has l t gs → other_fields (field l s fs) gs ≡ other_fields fs gs
others_without l s t fs gs has = ap (λ b. if b then other_fields fs gs else field l s (other_fields fs gs)) (label_there l t gs has)

pub others_with : (l : Label) (s : Typ) (fs gs : Fields) → IsAbsent l gs → other_fields (field l s fs) gs ≡ field l s (other_fields fs gs)
others_with l s fs gs absent = ap (λ b. if b then other_fields fs gs else field l s (other_fields fs gs)) (label_not l gs absent)

pub others_are : (fs gs : Fields) (l : Label) (t : Typ) → Has l t (other_fields fs gs) → Has l t fs × IsAbsent l gs
others_are no_fields gs l t has = absurd has
others_are (field k u fs) gs l t has = by (label_or k gs) (others_are fs gs l t)
  where
    first : IsAbsent k gs → (Has l t (other_fields fs gs) → Has l t fs × IsAbsent l gs) → Has l t (field k u (other_fields fs gs)) → Has l t (field k u fs) × IsAbsent l gs
    first absent further (inl e) = (inl e, subst (λ j. IsAbsent j gs) e.0 absent)
    first absent further (inr h) = let r = further h in (inr r.0, r.1)

    by : ((v : Typ) × Has k v gs) ⊎ IsAbsent k gs → (Has l t (other_fields fs gs) → Has l t fs × IsAbsent l gs) → Has l t (field k u fs) × IsAbsent l gs
    by (inl found) further = let r = further (subst (λ r. Has l t r) (others_without k u found.0 fs gs found.1) has) in (inr r.0, r.1)
    by (inr absent) further = first absent further (subst (λ r. Has l t r) (others_with k u fs gs absent) has)

pub others_have : (fs gs : Fields) (l : Label) (t : Typ) → Has l t fs → IsAbsent l gs → Has l t (other_fields fs gs)
others_have no_fields gs l t has absent = absurd has
others_have (field k u fs) gs l t (inl e) absent =
    subst (λ r. Has l t r) (sym (others_with k u fs gs (subst (λ j. IsAbsent j gs) (sym e.0) absent))) (inl e)
others_have (field k u fs) gs l t (inr has) absent = by (label_or k gs) (others_have fs gs l t has absent)
  where
    by : ((v : Typ) × Has k v gs) ⊎ IsAbsent k gs → Has l t (other_fields fs gs) → Has l t (other_fields (field k u fs) gs)
    by (inl found) h = subst (λ r. Has l t r) (sym (others_without k u found.0 fs gs found.1)) h
    by (inr none) h = subst (λ r. Has l t r) (sym (others_with k u fs gs none)) (inr h)

pub others_wf : (fs gs : Fields) → AreWellFormed fs → AreWellFormed (other_fields fs gs)
others_wf no_fields gs wf = tt
others_wf (field k u fs) gs wf = by (label_or k gs) (others_wf fs gs wf.2)
  where
    by : ((v : Typ) × Has k v gs) ⊎ IsAbsent k gs → AreWellFormed (other_fields fs gs) → AreWellFormed (other_fields (field k u fs) gs)
    by (inl found) rest = subst (λ r. AreWellFormed r) (sym (others_without k u found.0 fs gs found.1)) rest
    by (inr absent) rest =
        subst (λ r. AreWellFormed r) (sym (others_with k u fs gs absent))
        (wf.0, absent_from k (other_fields fs gs) (λ t has. absent_not k fs t wf.1 (others_are fs gs k t has).0), rest)

-- two lists of fields, one behind the other

pub joined_has : (fs gs : Fields) (l : Label) (t : Typ) → Has l t (joined fs gs) → Has l t fs ⊎ Has l t gs
joined_has no_fields gs l t has = inr has
joined_has (field k u fs) gs l t (inl e) = inl (inl e)
joined_has (field k u fs) gs l t (inr has) = by (joined_has fs gs l t has)
  where
    by : Has l t fs ⊎ Has l t gs → Has l t (field k u fs) ⊎ Has l t gs
    by (inl h) = inl (inr h)
    by (inr h) = inr h

pub has_in_first : (fs gs : Fields) (l : Label) (t : Typ) → Has l t fs → Has l t (joined fs gs)
has_in_first no_fields gs l t has = absurd has
has_in_first (field k u fs) gs l t (inl e) = inl e
has_in_first (field k u fs) gs l t (inr has) = inr (has_in_first fs gs l t has)

pub has_in_second : (fs gs : Fields) (l : Label) (t : Typ) → Has l t gs → Has l t (joined fs gs)
has_in_second no_fields gs l t has = has
has_in_second (field k u fs) gs l t has = inr (has_in_second fs gs l t has)

pub absent_in_both : (fs gs : Fields) (l : Label) → IsAbsent l fs → IsAbsent l gs → IsAbsent l (joined fs gs)
absent_in_both no_fields gs l a b = b
absent_in_both (field k u fs) gs l a b = (a.0, absent_in_both fs gs l a.1 b)

pub joined_wf : (fs gs : Fields) → AreWellFormed fs → AreWellFormed gs → ((l : Label) (t u : Typ) → Has l t fs → Has l u gs → ⊥) → AreWellFormed (joined fs gs)
joined_wf no_fields gs wf wg apart = wg
joined_wf (field k s fs) gs wf wg apart =
    (wf.0, absent_in_both fs gs k wf.1 (absent_from k gs (λ u has. apart k s u (inl (refl, refl)) has)), joined_wf fs gs wf.2 wg (λ l t u h g. apart l t u (inr h) g))

pub begins_with_first : (fs gs : Fields) → BeginsWith (joined fs gs) fs
begins_with_first no_fields gs = tt
begins_with_first (field k u fs) gs = (refl, refl, begins_with_first fs gs)

pub fields_of-append : (fs gs : List (String Global × Ty)) → fields_of (fs ++ gs) ≡ joined (fields_of fs) (fields_of gs)
fields_of-append [] gs = refl
fields_of-append (f ∷ fs) gs = ap (λ rest. field (string_bytes f.0) (typ_of f.1) rest) (fields_of-append fs gs)

-- a list looked through from its front

pub is_label : (r : Bool) (k l : Label) → r ≡ bytes_eq k l → r ≡ true → k ≡ l
is_label r k l tested holds = (bytes_eq-Decides k l).0 (sym tested ∙ holds)

pub is_not_label : (r : Bool) (k l : Label) → r ≡ bytes_eq k l → r ≡ false → l ≡ k → ⊥
is_not_label r k l tested fails same = not_from_Decides (bytes_eq k l) (bytes_eq-Decides k l) (sym tested ∙ fails) (sym same)

pub has_here : (fs : List (String Global × Ty)) (i : ℕ) (f : String Global × Ty) (l : Label) → i < length fs → f ≡ get_or fs i f
    → string_bytes f.0 ≡ l → Has l (typ_of f.1) (fields_of (drop i fs))
has_here fs i f l lt is same = rw (fields_of-drop fs i f lt is) (inl (same, refl))

pub has_later : (fs : List (String Global × Ty)) (i : ℕ) (f : String Global × Ty) (l : Label) (t : Typ) → i < length fs → f ≡ get_or fs i f
    → Has l t (fields_of (drop (i + 1) fs)) → Has l t (fields_of (drop i fs))
has_later fs i f l t lt is has = rw (fields_of-drop fs i f lt is) (inr has)

pub absent_later : (fs : List (String Global × Ty)) (i : ℕ) (f : String Global × Ty) (l : Label) → i < length fs → f ≡ get_or fs i f
    → (l ≡ string_bytes f.0 → ⊥) → IsAbsent l (fields_of (drop (i + 1) fs)) → IsAbsent l (fields_of (drop i fs))
absent_later fs i f l lt is other absent = rw (fields_of-drop fs i f lt is) (other, absent)

-- a list looked through in two parts

pub has_front : (fs : List (String Global × Ty)) (n : ℕ) (l : Label) (t : Typ) → Has l t (fields_of (take n fs)) → Has l t (fields_of fs)
has_front fs n l t has =
    subst (λ gs. Has l t (fields_of gs)) (take-append-drop n fs)
    (subst (λ r. Has l t r) (sym (fields_of-append (take n fs) (drop n fs))) (has_in_first (fields_of (take n fs)) (fields_of (drop n fs)) l t has))

pub has_back : (fs : List (String Global × Ty)) (n : ℕ) (l : Label) (t : Typ) → Has l t (fields_of (drop n fs)) → Has l t (fields_of fs)
has_back fs n l t has =
    subst (λ gs. Has l t (fields_of gs)) (take-append-drop n fs)
    (subst (λ r. Has l t r) (sym (fields_of-append (take n fs) (drop n fs))) (has_in_second (fields_of (take n fs)) (fields_of (drop n fs)) l t has))

pub absent_cut : (fs : List (String Global × Ty)) (n : ℕ) (l : Label) → IsAbsent l (fields_of (take n fs)) → IsAbsent l (fields_of (drop n fs)) → IsAbsent l (fields_of fs)
absent_cut fs n l a b =
    subst (λ gs. IsAbsent l (fields_of gs)) (take-append-drop n fs)
    (subst (λ r. IsAbsent l r) (sym (fields_of-append (take n fs) (drop n fs))) (absent_in_both (fields_of (take n fs)) (fields_of (drop n fs)) l a b))

-- the first field with a label: from an index on, and then from the front

either_mapped : {X Y : Type 0} (v : X → Y) (o p : Option X) → option_map v (option_or o p) ≡ option_or (option_map v o) (option_map v p)
either_mapped v None p = refl
either_mapped v (Some x) p = refl

pub first_of_two : {X : Type 0} (l : Label) (fs front back : List (String Global × X)) (near n : ℕ) → n ≡ min near (length fs) → front ≡ take n fs → back ≡ drop n fs
    → first_under l (drop near fs ++ take near fs) ≡ option_or (first_under l back) (first_under l front)
first_of_two l fs front back near n is in_front behind =
    ap (option_map (λ f. f.1)) (find-append (λ f. bytes_eq (string_bytes f.0) l) (drop near fs) (take near fs))
    ∙ either_mapped (λ f. f.1) (find (λ f. bytes_eq (string_bytes f.0) l) (drop near fs)) (find (λ f. bytes_eq (string_bytes f.0) l) (take near fs))
    ∙ ap (λ gs. option_or (first_under l gs) (first_under l (take near fs))) (sym (behind ∙ ap (λ m. drop m fs) is ∙ drop_min near fs))
    ∙ ap (λ gs. option_or (first_under l back) (first_under l gs)) (sym (in_front ∙ ap (λ m. take m fs) is ∙ take_min near fs))

-- the field is found in the first part that is searched, or else in the second

pub met_in_one : {X : Type 0} (o p q : Option X) (x : X) → q ≡ option_or o p → Some x ≡ o → Some x ≡ q
met_in_one o p q x whole e = sym (whole ∙ ap (λ a. option_or a p) (sym e))

pub met_in_other : {X : Type 0} (o p q r : Option X) → q ≡ option_or o p → None ≡ o → r ≡ p → r ≡ q
met_in_other o p q r whole none e = e ∙ sym (whole ∙ ap (λ a. option_or a p) (sym none))

pub seen_in_one : {X Y : Type 0} (v : X → Y) (o p q : Option X) (y : Y) → q ≡ option_or o p → Some y ≡ option_map v o → Some y ≡ option_map v q
seen_in_one v None p q y whole e = cc
seen_in_one v (Some x) p q y whole e = e ∙ ap (option_map v) (sym whole)

pub seen_in_other : {X Y : Type 0} (v : X → Y) (o p q : Option X) (r : Option Y) → q ≡ option_or o p → None ≡ option_map v o → r ≡ option_map v p → r ≡ option_map v q
seen_in_other v None p q r whole none e = e ∙ ap (option_map v) (sym whole)
seen_in_other v (Some x) p q r whole none e = cc

-- a field at an index is one of the fields
pub item_has : (fs : List (String Global × Ty)) (i : ℕ) (f : String Global × Ty) → i < length fs → f ≡ get_or fs i f → Has (string_bytes f.0) (typ_of f.1) (fields_of fs)
item_has fs i f lt is = has_back fs i (string_bytes f.0) (typ_of f.1) (has_here fs i f (string_bytes f.0) lt is refl)

-- what is known of a look-up if only a test has shown whether it found anything

pub some_there : {X : Type 0} {P : X → Type 0} (r : Option X) (b : Bool) → b ≡ is_some r → b ≡ true → IfSome r P → (x : X) × P x
some_there (Some x) b e h p = (x, p)
some_there None b e h p = absurd (cc)

pub none_there : {X : Type 0} {A : Type 0} (r : Option X) (b : Bool) → b ≡ is_some r → b ≡ false → IfNone r A → A
none_there (Some x) b e h p = absurd (cc)
none_there None b e h p = p

pub none_then : {X : Type 0} {A B : Type 0} (r : Option X) → IfNone r A → (A → B) → IfNone r B
none_then (Some x) a f = tt
none_then None a f = f a

-- others appended one by one: the label of the next field is known, or the field is appended

pub append_known : (made fs : Fields) (l : Label) (s t : Typ) (gs whole : Fields) → Has l t gs
    → joined made (other_fields (field l s fs) gs) ≡ whole → joined made (other_fields fs gs) ≡ whole
append_known made fs l s t gs whole has so_far = ap (λ r. joined made r) (sym (others_without l s t fs gs has)) ∙ so_far

pub append_new : (made more : List (String Global × Ty)) (fs : Fields) (f g : String Global × Ty) (gs whole : Fields) → IsAbsent (string_bytes f.0) gs
    → more ≡ made ++ g ∷ [] → string_bytes g.0 ≡ string_bytes f.0 → typ_of g.1 ≡ typ_of f.1
    → joined (fields_of made) (other_fields (field (string_bytes f.0) (typ_of f.1) fs) gs) ≡ whole
    → joined (fields_of more) (other_fields fs gs) ≡ whole
append_new made more fs f g gs whole absent pushed same_label same_type so_far =
    rw (pushed, joined-push made g (other_fields fs gs), same_label, same_type)
    (ap (λ r. joined (fields_of made) r) (sym (others_with (string_bytes f.0) (typ_of f.1) fs gs absent)) ∙ so_far)

pub ruleset look_ups = (has_front, has_back, absent_cut)
