-- A text with readable labels is that of one type, so types with the same text lie below each other.
use Rattle.std.proofs.Common.{◌≡◌, ◌≢◌, ℕ, [], ◌∷◌, ◌++◌, Bool, true, false, if◌then◌else◌, refl, sym, ap, ◌∙◌, append_assoc, arith, codes}
use Rattle.std.specs.List.{All}
use Rattle.std.specs.Str.{byte}
use Rattle.std.proofs.lemmas.List.{append_cancel_left}
use Rattle.std.proofs.lemmas.List.Elements.{All-head, All-tail}
use Rattle.lam_rules.specs.Types.{Label, Typ, bool, nat, unit, top, arrow, record_of, Fields, no_fields, field, IsWellFormed}
use Rattle.lam_rules.specs.Texts.{Text, is_not_after, left_of_arrow, separator_before, plain_text, plain_fields, placed, sorted, sorted_fields, text}
use Rattle.lam_rules.specs.ReadableLabels.{IsReadable, HasReadableLabels, HaveReadableLabels}
use Rattle.lam_rules.specs.Subtyping.{IsBelow}
use Rattle.lam_rules.specs.declared.rules.Dialect.{Dialect}
use Rattle.lam_rules.proofs.SortedBelow.{alike_below}

-- a sorted type has the labels of the type

placed_readable : (l : Label) (t : Typ) (fs : Fields) → IsReadable l → HasReadableLabels t → HaveReadableLabels fs → HaveReadableLabels (placed l t fs)
placed_readable l t no_fields here type rest = (here, type, rest)
placed_readable l t (field k u fs) here type rest = by (is_not_after l k) (placed_readable l t fs here type rest.2)
  where
    by : (b : Bool) → HaveReadableLabels (placed l t fs) → HaveReadableLabels (if b then field l t (field k u fs) else field k u (placed l t fs))
    by true further = (here, type, rest)
    by false further = (rest.0, rest.1, further)

mutual
  sorted_readable : (t : Typ) → HasReadableLabels t → HasReadableLabels (sorted t)
  sorted_readable bool h = tt
  sorted_readable nat h = tt
  sorted_readable unit h = tt
  sorted_readable top h = tt
  sorted_readable (arrow s t) h = (sorted_readable s h.0, sorted_readable t h.1)
  sorted_readable (record_of fs) h = sorted_fields_readable fs h

  sorted_fields_readable : (fs : Fields) → HaveReadableLabels fs → HaveReadableLabels (sorted_fields fs)
  sorted_fields_readable no_fields h = tt
  sorted_fields_readable (field l t fs) h = placed_readable l (sorted t) (sorted_fields fs) h.0 (sorted_readable t h.1) (sorted_fields_readable fs h.2)

-- texts by their first bytes

pub apart : {A : Type 0} {a b : ℕ} {x y : Text} → a ∷ x ≡ b ∷ y → a ≢ b → A
apart e other = absurd (other (cc))

pub same_rest : {a b : ℕ} {x y : Text} → a ∷ x ≡ b ∷ y → x ≡ y
same_rest e = cc

-- a label with its colon

same_label : (l k : Label) (x y : Text) → All (λ b. b ≢ byte ":") l → All (λ b. b ≢ byte ":") k → l ++ (codes ":" ++ x) ≡ k ++ (codes ":" ++ y) → (l ≡ k) × (x ≡ y)
same_label [] [] x y one other e = (refl, same_rest e)
same_label [] (b ∷ k) x y one other e = apart (sym e) (All-head (λ b. b ≢ byte ":") b k other)
same_label (a ∷ l) [] x y one other e = apart e (All-head (λ b. b ≢ byte ":") a l one)
same_label (a ∷ l) (b ∷ k) x y one other e =
    let rest = same_label l k x y (All-tail (λ b. b ≢ byte ":") a l one) (All-tail (λ b. b ≢ byte ":") b k other) (same_rest e) in
    (cons_same e rest.0, rest.1)
  where
    cons_same : {a b : ℕ} {l k x y : Text} → a ∷ x ≡ b ∷ y → l ≡ k → a ∷ l ≡ b ∷ k
    cons_same e f = cc

pub not_an_end : (k : Label) (x y : Text) → IsReadable k → codes "}" ++ x ≡ k ++ (codes ":" ++ y) → ⊥
not_an_end [] x y readable e = apart e (omega arith)
not_an_end (b ∷ k) x y readable e = readable.no_brace_first k (begins e)
  where
    begins : {a b : ℕ} {k x y : Text} → a ∷ x ≡ b ∷ y → b ∷ k ≡ a ∷ k
    begins e = cc

-- what follows a type is not an arrow
abbrev NoArrow : Text → Type 0
NoArrow x = (rest : Text) → x ≢ codes "->" ++ rest

no_arrow_at_end : NoArrow []
no_arrow_at_end rest e = cc

-- The text of a type tells the type, whatever follows it.

-- where it stands on the left of an arrow
abbrev left_text : Typ → Text
left_text t = left_of_arrow t (plain_text t)

abbrev TellsOnLeft : Typ → Type 0
TellsOnLeft s = (t : Typ) (x y : Text) → HasReadableLabels s → HasReadableLabels t → left_text s ++ x ≡ left_text t ++ y → (s ≡ t) × (x ≡ y)

-- where no arrow follows
abbrev Tells : Typ → Type 0
Tells s = (t : Typ) (x y : Text) → HasReadableLabels s → HasReadableLabels t → NoArrow x → NoArrow y → plain_text s ++ x ≡ plain_text t ++ y → (s ≡ t) × (x ≡ y)

-- of fields, up to the brace behind them
abbrev FieldsTell : Fields → Type 0
FieldsTell fs = (gs : Fields) (x y : Text) → HaveReadableLabels fs → HaveReadableLabels gs
    → plain_fields fs ++ (codes "}" ++ x) ≡ plain_fields gs ++ (codes "}" ++ y) → (fs ≡ gs) × (x ≡ y)

left_bool : TellsOnLeft bool
left_bool bool x y hs ht e = (refl, append_cancel_left (codes "Bool") x y e)
left_bool _ x y hs ht e = apart e (omega arith)

left_nat : TellsOnLeft nat
left_nat nat x y hs ht e = (refl, append_cancel_left (codes "Nat") x y e)
left_nat _ x y hs ht e = apart e (omega arith)

left_unit : TellsOnLeft unit
left_unit unit x y hs ht e = (refl, append_cancel_left (codes "Unit") x y e)
left_unit _ x y hs ht e = apart e (omega arith)

left_top : TellsOnLeft top
left_top top x y hs ht e = (refl, append_cancel_left (codes "Top") x y e)
left_top _ x y hs ht e = apart e (omega arith)

-- an arrow

arrow_text : (s t : Typ) (x : Text) → plain_text (arrow s t) ++ x ≡ left_text s ++ (codes "->" ++ (plain_text t ++ x))
arrow_text s t x = simp append_assoc

tells_arrow : (s1 s2 : Typ) → TellsOnLeft s1 → Tells s2 → Tells (arrow s1 s2)
tells_arrow s1 s2 left right t x y hs ht none other e = by t ht (sym (arrow_text s1 s2 x) ∙ e)
  where
    no_way : (t : Typ) → HasReadableLabels t → left_text s1 ++ (codes "->" ++ (plain_text s2 ++ x)) ≡ left_text t ++ y → ⊥
    no_way t ht e = other (plain_text s2 ++ x) (sym (left t (codes "->" ++ (plain_text s2 ++ x)) y hs.0 ht e).1)

    by : (t : Typ) → HasReadableLabels t → left_text s1 ++ (codes "->" ++ (plain_text s2 ++ x)) ≡ plain_text t ++ y → (arrow s1 s2 ≡ t) × (x ≡ y)
    by bool ht e = absurd (no_way bool ht e)
    by nat ht e = absurd (no_way nat ht e)
    by unit ht e = absurd (no_way unit ht e)
    by top ht e = absurd (no_way top ht e)
    by (record_of fs) ht e = absurd (no_way (record_of fs) ht e)
    by (arrow t1 t2) ht e =
        let first = left t1 (codes "->" ++ (plain_text s2 ++ x)) (codes "->" ++ (plain_text t2 ++ y)) hs.0 ht.0 (e ∙ arrow_text t1 t2 y) in
        let second = right t2 x y hs.1 ht.1 none other (same_rest (same_rest first.1)) in
        (rw (first.0, second.0), second.1)

left_arrow : (s1 s2 : Typ) → Tells (arrow s1 s2) → TellsOnLeft (arrow s1 s2)
left_arrow s1 s2 tells (arrow t1 t2) x y hs ht e =
    let both = sym (bracket_text (plain_text (arrow s1 s2)) x) ∙ e ∙ bracket_text (plain_text (arrow t1 t2)) y in
    let inside = tells (arrow t1 t2) (codes ")" ++ x) (codes ")" ++ y) hs ht (λ rest f. apart f (omega arith)) (λ rest f. apart f (omega arith)) (same_rest both) in
    (inside.0, same_rest inside.1)
  where
    bracket_text : (a z : Text) → (codes "(" ++ a ++ codes ")") ++ z ≡ codes "(" ++ (a ++ (codes ")" ++ z))
    bracket_text a z = simp append_assoc
left_arrow s1 s2 tells _ x y hs ht e = apart e (omega arith)

-- a type that is no arrow
tells_other : (s : Typ) → plain_text s ≡ left_text s → TellsOnLeft s → Tells s
tells_other s same left t x y hs ht none other e = by t ht (ap (λ z. z ++ x) (sym same) ∙ e)
  where
    by : (t : Typ) → HasReadableLabels t → left_text s ++ x ≡ plain_text t ++ y → (s ≡ t) × (x ≡ y)
    by bool ht e = left bool x y hs ht e
    by nat ht e = left nat x y hs ht e
    by unit ht e = left unit x y hs ht e
    by top ht e = left top x y hs ht e
    by (record_of fs) ht e = left (record_of fs) x y hs ht e
    by (arrow t1 t2) ht e = absurd (none (plain_text t2 ++ y) (left t1 x (codes "->" ++ (plain_text t2 ++ y)) hs ht.0 (e ∙ arrow_text t1 t2 y)).1)

-- a record

left_record : (fs : Fields) → FieldsTell fs → TellsOnLeft (record_of fs)
left_record fs tell (record_of gs) x y hs ht e =
    let inside = tell gs x y hs ht (same_rest (sym (record_text fs x) ∙ e ∙ record_text gs y)) in
    (ap record_of inside.0, inside.1)
  where
    record_text : (fs : Fields) (z : Text) → plain_text (record_of fs) ++ z ≡ codes "{" ++ (plain_fields fs ++ (codes "}" ++ z))
    record_text fs z = simp append_assoc
left_record fs tell _ x y hs ht e = apart e (omega arith)

pub fields_text : (l : Label) (t : Typ) (fs : Fields) (x : Text) → plain_fields (field l t fs) ++ x ≡ l ++ (codes ":" ++ (plain_text t ++ (separator_before fs ++ (plain_fields fs ++ x))))
fields_text l t fs x = simp append_assoc

no_arrow_after : (fs : Fields) (x : Text) → NoArrow (separator_before fs ++ (plain_fields fs ++ (codes "}" ++ x)))
no_arrow_after no_fields x rest e = apart e (omega arith)
no_arrow_after (field l t fs) x rest e = apart e (omega arith)

fields_none : FieldsTell no_fields
fields_none no_fields x y hs hg e = (refl, same_rest e)
fields_none (field k u gs) x y hs hg e = absurd (not_an_end k x (plain_text u ++ (separator_before gs ++ (plain_fields gs ++ (codes "}" ++ y)))) hg.0 (e ∙ fields_text k u gs (codes "}" ++ y)))

further_fields : (fs gs : Fields) → FieldsTell fs → (x y : Text) → HaveReadableLabels fs → HaveReadableLabels gs
    → separator_before fs ++ (plain_fields fs ++ (codes "}" ++ x)) ≡ separator_before gs ++ (plain_fields gs ++ (codes "}" ++ y)) → (fs ≡ gs) × (x ≡ y)
further_fields no_fields no_fields tell x y hs hg e = (refl, same_rest e)
further_fields no_fields (field k u gs) tell x y hs hg e = apart e (omega arith)
further_fields (field l t fs) no_fields tell x y hs hg e = apart e (omega arith)
further_fields (field l t fs) (field k u gs) tell x y hs hg e = tell (field k u gs) x y hs hg (same_rest (same_rest e))

fields_more : (l : Label) (t : Typ) (fs : Fields) → Tells t → FieldsTell fs → FieldsTell (field l t fs)
fields_more l t fs type rest no_fields x y hs hg e =
    absurd (not_an_end l y (plain_text t ++ (separator_before fs ++ (plain_fields fs ++ (codes "}" ++ x)))) hs.0 (sym e ∙ fields_text l t fs (codes "}" ++ x)))
fields_more l t fs type rest (field k u gs) x y hs hg e =
    let one = separator_before fs ++ (plain_fields fs ++ (codes "}" ++ x)) in
    let two = separator_before gs ++ (plain_fields gs ++ (codes "}" ++ y)) in
    let label = same_label l k (plain_text t ++ one) (plain_text u ++ two) hs.0.no_colon hg.0.no_colon (sym (fields_text l t fs (codes "}" ++ x)) ∙ e ∙ fields_text k u gs (codes "}" ++ y)) in
    let here = type u one two hs.1 hg.1 (no_arrow_after fs x) (no_arrow_after gs y) label.1 in
    let others = further_fields fs gs rest x y hs.2 hg.2 here.1 in
    (rw (label.0, here.0, others.0), others.1)

mutual
  tells_both : (s : Typ) → TellsOnLeft s × Tells s
  tells_both bool = (left_bool, tells_other bool refl left_bool)
  tells_both nat = (left_nat, tells_other nat refl left_nat)
  tells_both unit = (left_unit, tells_other unit refl left_unit)
  tells_both top = (left_top, tells_other top refl left_top)
  tells_both (arrow s1 s2) =
      let whole = tells_arrow s1 s2 (tells_both s1).0 (tells_both s2).1 in
      (left_arrow s1 s2 whole, whole)
  tells_both (record_of fs) =
      let whole = left_record fs (fields_tell fs) in
      (whole, tells_other (record_of fs) refl whole)

  fields_tell : (fs : Fields) → FieldsTell fs
  fields_tell no_fields = fields_none
  fields_tell (field l t fs) = fields_more l t fs (tells_both t).1 (fields_tell fs)

pub plain_text_tells : (s t : Typ) → HasReadableLabels s → HasReadableLabels t → plain_text s ≡ plain_text t → s ≡ t
plain_text_tells s t hs ht e = ((tells_both s).1 t [] [] hs ht no_arrow_at_end no_arrow_at_end (ap (λ x. x ++ []) e)).0

pub text_tells : (s t : Typ) (d : Dialect) → HasReadableLabels s → HasReadableLabels t → IsWellFormed s → IsWellFormed t → text s ≡ text t → IsBelow s t d × IsBelow t s d
text_tells s t d hs ht ws wt e = (alike_below s t ws wt d).0 (plain_text_tells (sorted s) (sorted t) (sorted_readable s hs) (sorted_readable t ht) e)
