-- The text of a type does not tell it from one that lies both below and above it.
use Rattle.std.proofs.Common.{◌≡◌, ◌≢◌, ◌⊎◌, Bool, true, false, if◌then◌else◌, ap, sym, ◌∙◌, refl, inl, inr, Result, Ok, Err, String, string_bytes}
use Rattle.std.specs.Prelude.{IfOk}
use Rattle.std.specs.declared.alloc.Global.{Global}
use Rattle.std.specs.declared.alloc.AllocError.{AllocError}
use Rattle.lam_rules.specs.SharedTexts.{IsSharedText}
use Rattle.std.specs.Ordering.{nat_cmp, is_le, is_eq, ordering_reverse}
use Rattle.std.specs.declared.cmp.Ordering.{Ordering}
use Rattle.std.specs.declared.cmp.Ordering.TheVariants.{Less, Equal, Greater}
use Rattle.std.specs.Cmp.Lexicographic.{slice_cmp, nat_list_cmp_total, texts_ties}
use Rattle.std.proofs.lemmas.Slice.Eq.{bytes_eq-Decides}
use Rattle.std.proofs.lemmas.Cmp.{tied_itself}
use Rattle.lam_rules.specs.Types.{Label, Typ, bool, nat, unit, top, arrow, record_of, Fields, no_fields, field, Has, IsWellFormed, AreWellFormed}
use Rattle.lam_rules.specs.Texts.{is_not_after, placed, sorted, sorted_fields, plain_text, text}
use Rattle.lam_rules.specs.Subtyping.{IsBelow}
use Rattle.lam_rules.specs.declared.rules.Dialect.{Dialect}
use Rattle.lam_rules.proofs.ByShape.{Under, under_bool, under_nat, under_unit, under_top, under_arrow, under_record, under_bool_nat, field_under, below_under, below_wf}
use Rattle.lam_rules.proofs.Permutations.{absent_not}

-- the first label comes before the second in byte order
abbrev pub Before : Label → Label → Type 0
Before k l = slice_cmp nat_cmp k l ≡ Less

pub before_not_itself : (k : Label) → Before k k → ⊥
before_not_itself k h = cc (tied_itself nat_list_cmp_total k)

before_trans : (j k l : Label) → Before j k → Before k l → Before j l
before_trans j k l = nat_list_cmp_total.trans j k l

pub before_turned : (k l : Label) → slice_cmp nat_cmp k l ≡ Greater → Before l k
before_turned k l h = nat_list_cmp_total.antisymm l k ∙ ap ordering_reverse h

pub tied_same : (k l : Label) → slice_cmp nat_cmp k l ≡ Equal → k ≡ l
tied_same k l h = (bytes_eq-Decides k l).0 (texts_ties k l ∙ ap is_eq h)

-- each label comes before those that follow
abbrev IsAscending : Fields → Type 0
IsAscending no_fields = Unit {0}
IsAscending (field l t rest) = ((k : Label) (u : Typ) → Has k u rest → Before l k) × IsAscending rest

-- a field that is put in its place is there, and so are the others
has_placed : (l : Label) (t : Typ) (fs : Fields) (k : Label) (u : Typ) → Has k u (placed l t fs) → ((l ≡ k) × (t ≡ u)) ⊎ Has k u fs
has_placed l t no_fields k u has = has
has_placed l t (field j s fs) k u has = by (is_not_after l j) has (has_placed l t fs k u)
  where
    by : (b : Bool) → Has k u (if b then field l t (field j s fs) else field j s (placed l t fs))
        → (Has k u (placed l t fs) → ((l ≡ k) × (t ≡ u)) ⊎ Has k u fs) → ((l ≡ k) × (t ≡ u)) ⊎ Has k u (field j s fs)
    by true h further = h
    by false (inl e) further = inr (inl e)
    by false (inr h) further = after (further h)
      where
        after : ((l ≡ k) × (t ≡ u)) ⊎ Has k u fs → ((l ≡ k) × (t ≡ u)) ⊎ Has k u (field j s fs)
        after (inl e) = inl e
        after (inr g) = inr (inr g)

placed_has : (l : Label) (t : Typ) (fs : Fields) (k : Label) (u : Typ) → ((l ≡ k) × (t ≡ u)) ⊎ Has k u fs → Has k u (placed l t fs)
placed_has l t no_fields k u has = has
placed_has l t (field j s fs) k u has = by (is_not_after l j) has (placed_has l t fs k u)
  where
    by : (b : Bool) → ((l ≡ k) × (t ≡ u)) ⊎ Has k u (field j s fs) → (((l ≡ k) × (t ≡ u)) ⊎ Has k u fs → Has k u (placed l t fs))
        → Has k u (if b then field l t (field j s fs) else field j s (placed l t fs))
    by true h further = h
    by false (inl e) further = inr (further (inl e))
    by false (inr (inl e)) further = inl e
    by false (inr (inr h)) further = inr (further (inr h))

placed_ascending : (l : Label) (t : Typ) (fs : Fields) → ((k : Label) (u : Typ) → Has k u fs → l ≢ k) → IsAscending fs → IsAscending (placed l t fs)
placed_ascending l t no_fields new up = ((λ k u has. absurd has), tt)
placed_ascending l t (field j s fs) new up =
    by (slice_cmp nat_cmp l j) refl (placed_ascending l t fs (λ k u has. new k u (inr has)) up.1)
  where
    by : (o : Ordering) → slice_cmp nat_cmp l j ≡ o → IsAscending (placed l t fs)
        → IsAscending (if is_le o then field l t (field j s fs) else field j s (placed l t fs))
    by Less e further = (first, up)
      where
        first : (k : Label) (u : Typ) → Has k u (field j s fs) → Before l k
        first k u (inl same) = rw (sym same.0) e
        first k u (inr has) = before_trans l j k e (up.0 k u has)
    by Equal e further = absurd (new j s (inl (refl, refl)) (tied_same l j e))
    by Greater e further = (first, further)
      where
        after : (k : Label) (u : Typ) → ((l ≡ k) × (t ≡ u)) ⊎ Has k u fs → Before j k
        after k u (inl same) = rw (sym same.0) (before_turned l j e)
        after k u (inr has) = up.0 k u has

        first : (k : Label) (u : Typ) → Has k u (placed l t fs) → Before j k
        first k u has = after k u (has_placed l t fs k u has)

-- the sorted fields are the fields with each type sorted, and their labels ascend

sorted_has : (fs : Fields) (l : Label) (t : Typ) → Has l t fs → Has l (sorted t) (sorted_fields fs)
sorted_has no_fields l t has = absurd has
sorted_has (field k u fs) l t (inl e) = placed_has k (sorted u) (sorted_fields fs) l (sorted t) (inl (e.0, ap sorted e.1))
sorted_has (field k u fs) l t (inr has) = placed_has k (sorted u) (sorted_fields fs) l (sorted t) (inr (sorted_has fs l t has))

has_sorted : (fs : Fields) (l : Label) (v : Typ) → Has l v (sorted_fields fs) → (t : Typ) × Has l t fs × (sorted t ≡ v)
has_sorted no_fields l v has = absurd has
has_sorted (field k u fs) l v has = by (has_placed k (sorted u) (sorted_fields fs) l v has) (has_sorted fs l v)
  where
    by : ((k ≡ l) × (sorted u ≡ v)) ⊎ Has l v (sorted_fields fs) → (Has l v (sorted_fields fs) → (t : Typ) × Has l t fs × (sorted t ≡ v))
        → (t : Typ) × Has l t (field k u fs) × (sorted t ≡ v)
    by (inl e) further = (u, inl (e.0, refl), e.1)
    by (inr h) further = let found = further h in (found.0, inr found.1, found.2)

sorted_ascending : (fs : Fields) → AreWellFormed fs → IsAscending (sorted_fields fs)
sorted_ascending no_fields wf = tt
sorted_ascending (field l t fs) wf = placed_ascending l (sorted t) (sorted_fields fs) new (sorted_ascending fs wf.2)
  where
    new : (k : Label) (v : Typ) → Has k v (sorted_fields fs) → l ≢ k
    new k v has e = let found = has_sorted fs k v has in absent_not l fs found.0 wf.1 (rw e found.1)

-- fields with ascending labels are determined by which fields there are
ascending_same : (fs gs : Fields) → IsAscending fs → IsAscending gs
    → ((l : Label) (t : Typ) → Has l t fs → Has l t gs) → ((l : Label) (t : Typ) → Has l t gs → Has l t fs) → fs ≡ gs
ascending_same no_fields no_fields uf ug there back = refl
ascending_same no_fields (field k u gs) uf ug there back = absurd (back k u (inl (refl, refl)))
ascending_same (field l t fs) no_fields uf ug there back = absurd (there l t (inl (refl, refl)))
ascending_same (field l t fs) (field k u gs) uf ug there back =
    let e = heads (there l t (inl (refl, refl))) (back k u (inl (refl, refl))) in
    let rest = ascending_same fs gs uf.1 ug.1
    (λ j v has. drop_right e j v has (there j v (inr has)))
    (λ j v has. drop_left e j v has (back j v (inr has))) in
    rw (e.0, e.1, rest)
  where
    heads : ((k ≡ l) × (u ≡ t)) ⊎ Has l t gs → ((l ≡ k) × (t ≡ u)) ⊎ Has k u fs → (l ≡ k) × (t ≡ u)
    heads (inl e) h = (sym e.0, sym e.1)
    heads (inr g) (inl e) = e
    heads (inr g) (inr f) = absurd (before_not_itself l (before_trans l k l (uf.0 k u f) (ug.0 l t g)))

    drop_right : (l ≡ k) × (t ≡ u) → (j : Label) (v : Typ) → Has j v fs → ((k ≡ j) × (u ≡ v)) ⊎ Has j v gs → Has j v gs
    drop_right e j v has (inl same) = absurd (before_not_itself j (rw (e.0 ∙ same.0) at (uf.0 j v has)))
    drop_right e j v has (inr h) = h

    drop_left : (l ≡ k) × (t ≡ u) → (j : Label) (v : Typ) → Has j v gs → ((l ≡ j) × (t ≡ v)) ⊎ Has j v fs → Has j v fs
    drop_left e j v has (inl same) = absurd (before_not_itself j (rw (sym e.0 ∙ same.0) at (ug.0 j v has)))
    drop_left e j v has (inr h) = h

-- with distinct labels, a label has one type
pub one_type : (fs : Fields) → AreWellFormed fs → (l : Label) (t u : Typ) → Has l t fs → Has l u fs → t ≡ u
one_type no_fields wf l t u a b = absurd a
one_type (field k v fs) wf l t u (inl a) (inl b) = sym a.1 ∙ b.1
one_type (field k v fs) wf l t u (inl a) (inr b) = absurd (absent_not k fs u wf.1 (rw a.0 b))
one_type (field k v fs) wf l t u (inr a) (inl b) = absurd (absent_not k fs t wf.1 (rw b.0 a))
one_type (field k v fs) wf l t u (inr a) (inr b) = one_type fs wf.2 l t u a b

pub has_wf : (fs : Fields) → AreWellFormed fs → (l : Label) (t : Typ) → Has l t fs → IsWellFormed t
has_wf no_fields wf l t has = absurd has
has_wf (field k u fs) wf l t (inl e) = rw (sym e.1) wf.0
has_wf (field k u fs) wf l t (inr has) = has_wf fs wf.2 l t has

-- types that are below each other are one type once sorted
abbrev SortsAlike : Dialect → Typ → Type 0
SortsAlike d s = (t : Typ) → IsWellFormed s → IsWellFormed t → Under d s t → Under d t s → sorted s ≡ sorted t

abbrev EachSortsAlike : Dialect → Fields → Type 0
EachSortsAlike d fs = (l : Label) (t : Typ) → Has l t fs → SortsAlike d t

alike_arrow : (d : Dialect) (s1 s2 : Typ) → SortsAlike d s1 → SortsAlike d s2 → (t : Typ) → IsWellFormed (arrow s1 s2) → IsWellFormed t → Under d (arrow s1 s2) t → Under d t (arrow s1 s2) → sorted (arrow s1 s2) ≡ sorted t
alike_arrow d s1 s2 a1 a2 _ ws wt (under_arrow {t1 = t1} {t2 = t2} p q) (under_arrow x y) = rw (a1 t1 ws.0 wt.0 x p, a2 t2 ws.1 wt.1 q y)
alike_arrow d s1 s2 a1 a2 _ ws wt (under_top _) q = elim q [ ]

alike_record : (d : Dialect) (fs : Fields) → EachSortsAlike d fs → (t : Typ) → IsWellFormed (record_of fs) → IsWellFormed t → Under d (record_of fs) t → Under d t (record_of fs) → sorted (record_of fs) ≡ sorted t
alike_record d fs each _ ws wt (under_top _) q = elim q [ ]
alike_record d fs each _ ws wt (under_record {gs = gs} p) (under_record q) =
    ap record_of (ascending_same (sorted_fields fs) (sorted_fields gs) (sorted_ascending fs ws) (sorted_ascending gs wt) there back)
  where
    there : (l : Label) (v : Typ) → Has l v (sorted_fields fs) → Has l v (sorted_fields gs)
    there l v has =
        let found = has_sorted fs l v has in
        let other = field_under d gs fs q l found.0 found.1 in
        let again = field_under d fs gs p l other.0 other.1 in
        let same = one_type fs ws l again.0 found.0 again.1 found.1 in
        let alike = each l found.0 found.1 other.0 (has_wf fs ws l found.0 found.1) (has_wf gs wt l other.0 other.1) (rw same at again.2) other.2 in
        rw (sym found.2, alike) (sorted_has gs l other.0 other.1)

    back : (l : Label) (v : Typ) → Has l v (sorted_fields gs) → Has l v (sorted_fields fs)
    back l v has =
        let found = has_sorted gs l v has in
        let other = field_under d fs gs p l found.0 found.1 in
        let again = field_under d gs fs q l other.0 other.1 in
        let same = one_type gs wt l again.0 found.0 again.1 found.1 in
        let alike = each l other.0 other.1 found.0 (has_wf fs ws l other.0 other.1) (has_wf gs wt l found.0 found.1) other.2 (rw same at again.2) in
        rw (sym found.2, sym alike) (sorted_has fs l other.0 other.1)

alike_bool : (d : Dialect) → (t : Typ) → IsWellFormed bool → IsWellFormed t → Under d bool t → Under d t bool → sorted bool ≡ sorted t
alike_bool d _ ws wt under_bool q = refl
alike_bool d _ ws wt (under_top _) q = elim q [ ]
alike_bool d _ ws wt under_bool_nat q = elim q [ ]

alike_nat : (d : Dialect) → (t : Typ) → IsWellFormed nat → IsWellFormed t → Under d nat t → Under d t nat → sorted nat ≡ sorted t
alike_nat d _ ws wt under_nat q = refl
alike_nat d _ ws wt (under_top _) q = elim q [ ]

alike_unit : (d : Dialect) → (t : Typ) → IsWellFormed unit → IsWellFormed t → Under d unit t → Under d t unit → sorted unit ≡ sorted t
alike_unit d _ ws wt under_unit q = refl
alike_unit d _ ws wt (under_top _) q = elim q [ ]

alike_top : (d : Dialect) → (t : Typ) → IsWellFormed top → IsWellFormed t → Under d top t → Under d t top → sorted top ≡ sorted t
alike_top d _ ws wt (under_top _) q = refl

mutual
  sorts_alike : (d : Dialect) (s : Typ) → SortsAlike d s
  sorts_alike d bool = alike_bool d
  sorts_alike d nat = alike_nat d
  sorts_alike d unit = alike_unit d
  sorts_alike d top = alike_top d
  sorts_alike d (arrow s1 s2) = alike_arrow d s1 s2 (sorts_alike d s1) (sorts_alike d s2)
  sorts_alike d (record_of fs) = alike_record d fs (each_sorts_alike d fs)

  each_sorts_alike : (d : Dialect) (fs : Fields) → EachSortsAlike d fs
  each_sorts_alike d no_fields l t has = absurd has
  each_sorts_alike d (field k u fs) l t (inl e) = rw (sym e.1) (sorts_alike d u)
  each_sorts_alike d (field k u fs) l t (inr has) = each_sorts_alike d fs l t has

pub sorted_same : (s t : Typ) (d : Dialect) → IsBelow s t d → IsBelow t s d → sorted s ≡ sorted t
sorted_same s t d p q =
    let wf = below_wf s t d p in
    sorts_alike d s t wf.0 wf.1 (below_under s t d p) (below_under t s d q)

pub text_same : (s t : Typ) (d : Dialect) → IsBelow s t d → IsBelow t s d → text s ≡ text t
text_same s t d p q = ap plain_text (sorted_same s t d p q)

pub shared_ok : (r : Result (String Global) AllocError) (u s : Typ) → u ≡ sorted s
    → IfOk r (λ w. string_bytes w ≡ plain_text u) → IfOk r (λ w. IsSharedText (string_bytes w) s)
shared_ok (Ok w) u s e h = λ t d p q. h ∙ ap plain_text e ∙ text_same s t d p q
shared_ok (Err x) u s e h = tt
