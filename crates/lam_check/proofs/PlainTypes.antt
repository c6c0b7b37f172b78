-- What is read of plain texts of types.
use Rattle.std.proofs.Common.{◌≡◌, ◌≢◌, ◌↔◌, ℕ, ◌+◌, ◌-◌, ◌<◌, ◌≤◌, List, [], ◌∷◌, ◌++◌, length, get_or, All, MatchOption, IsSomeAnd, Option, Some, None, Bor, String, string_bytes, codes, sym, ap, subst, ◌∙◌, append_assoc, append-nil, arith}
use Rattle.std.specs.Str.{byte}
use Rattle.std.proofs.lemmas.List.{append_cancel_left}
use Rattle.std.proofs.lemmas.List.Elements.{All-from_get_or}
use Rattle.std.proofs.lemmas.Str.Pattern.{IsSplitOnceResult, split_after}
use Rattle.lam_rules.specs.Types.{Label, Typ, bool, nat, unit, top, arrow, record_of, Fields, no_fields, field, joined}
use Rattle.std.specs.declared.alloc.Global.{Global}
use Rattle.lam_rules.specs.TypeViews.{typ_of, fields_of}
use Rattle.lam_rules.specs.declared.types.Ty.{Ty}
use Rattle.lam_rules.specs.Texts.{Text, left_of_arrow, separator_before, plain_text, plain_fields}
use Rattle.lam_rules.specs.ReadableLabels.{IsReadable, HasReadableLabels, HaveReadableLabels}
use Rattle.lam_rules.proofs.ReadTexts.{apart, not_an_end, fields_text}
use Rattle.lam_rules.proofs.TypeShapes.{joined-none, joined-push}
use Rattle.lam_check.specs.Readable.{depth, depth_in, IsReadableType}
use Rattle.lam_check.specs.inner.PlainTypes.{NoArrow, IsTypeRead, levels_on_left}

-- texts by their first bytes

pub cut : (front text x y : Text) → text ≡ front ++ x → text ≡ front ++ y → x ≡ y
cut front text x y e f = append_cancel_left front x y (sym e ∙ f)

-- a label with its colon

pub label_found : (text : Text) (found : Option (Bor Text × Bor Text)) → IsSplitOnceResult 58 text found
    → (label rest : Text) → All (λ b. b ≢ byte ":") label → text ≡ label ++ (codes ":" ++ rest) → IsSomeAnd found (λ x. (x.0.now ≡ label) × (x.1.now ≡ rest))
label_found text found split label rest none is = by found (split_after 58 text label rest found split (omega arith) is (λ i inside. none i 0 inside))
  where
    by : (f : Option (Bor Text × Bor Text)) → MatchOption f ⊥ (λ x. (x.0.now ≡ label) × (x.1.now ≡ rest)) → IsSomeAnd f (λ x. (x.0.now ≡ label) × (x.1.now ≡ rest))
    by None h = absurd h
    by (Some x) h = h

-- a label without colons is readable unless it begins with a brace
pub readable_label : (l : Label) → ((k : ℕ) → k < length l → get_or l k 0 ≢ 58) → (get_or l 0 0 ≢ 125) ↔ IsReadable l
readable_label l none = (
  (λ other. record { no_colon = All-from_get_or (λ b. b ≢ byte ":") l 0 none; no_brace_first = λ rest e. other (ap (λ x. get_or x 0 0) e) }),
  (λ readable first. begins l first readable),
)
  where
    begins : (l : Label) → get_or l 0 0 ≡ 125 → IsReadable l → ⊥
    begins [] first readable = absurd (omega arith)
    begins (b ∷ l) first readable = readable.no_brace_first l (ap (λ a. a ∷ l) first)

-- ---- a type and what follows it

pub has_depth : (t : Typ) → 0 < depth t
has_depth bool = omega arith
has_depth nat = omega arith
has_depth unit = omega arith
has_depth top = omega arith
has_depth (arrow s t) = omega arith
has_depth (record_of fs) = omega arith

pub no_level : {A : Type 0} (t : Typ) (levels : ℕ) → levels ≡ 0 → depth t ≤ levels → A
no_level t levels none small = let some = has_depth t in absurd (omega arith)

left_levels : (t : Typ) → levels_on_left t ≤ depth t + 1
left_levels bool = omega arith
left_levels nat = omega arith
left_levels unit = omega arith
left_levels top = omega arith
left_levels (arrow s t) = omega arith
left_levels (record_of fs) = omega arith

-- what is read of the front of a text
abbrev pub ReadsFront : Text → (levels : ℕ) → Option (Ty × Bor Text) → Type 0
ReadsFront text levels found = (t : Typ) (rest : Text) → HasReadableLabels t → levels_on_left t ≤ levels → text ≡ left_of_arrow t (plain_text t) ++ rest → IsTypeRead found t rest

abbrev pub ReadsType : Text → (levels : ℕ) → Option (Ty × Bor Text) → Type 0
ReadsType text levels found = (t : Typ) (rest : Text) → HasReadableLabels t → depth t ≤ levels → NoArrow rest → text ≡ plain_text t ++ rest → IsTypeRead found t rest

-- the front of a type is read: what stands on the left of its arrow, or all of it
abbrev pub IsFrontRead : Option (Ty × Bor Text) → Typ → Text → Type 0
IsFrontRead found (arrow s u) rest = IsTypeRead found s (codes "->" ++ (plain_text u ++ rest))
IsFrontRead found t rest = IsTypeRead found t rest

pub front_read : (text : Text) (levels : ℕ) (found : Option (Ty × Bor Text)) → ReadsFront text levels found
    → (t : Typ) (rest : Text) → HasReadableLabels t → depth t ≤ levels → text ≡ plain_text t ++ rest → IsFrontRead found t rest
front_read text levels found reads bool rest readable small is = reads bool rest readable small is
front_read text levels found reads nat rest readable small is = reads nat rest readable small is
front_read text levels found reads unit rest readable small is = reads unit rest readable small is
front_read text levels found reads top rest readable small is = reads top rest readable small is
front_read text levels found reads (record_of fs) rest readable small is = reads (record_of fs) rest readable small is
front_read text levels found reads (arrow s u) rest readable small is =
    let few = left_levels s in
    let some = has_depth u in
    reads s (codes "->" ++ (plain_text u ++ rest)) readable.0 (omega arith) (is ∙ simp append_assoc)

pub no_front : {A : Type 0} (found : Option (Ty × Bor Text)) (t : Typ) (rest : Text) → found ≡ None → IsFrontRead found t rest → A
no_front found t rest none read = by t (subst (λ f. IsFrontRead f t rest) none read)
  where
    by : {A : Type 0} (t : Typ) → IsFrontRead None t rest → A
    by bool h = absurd h
    by nat h = absurd h
    by unit h = absurd h
    by top h = absurd h
    by (arrow s u) h = absurd h
    by (record_of fs) h = absurd h

pub whole_read : (found : Option (Ty × Bor Text)) (f : Ty × Bor Text) (t : Typ) (rest : Text) → found ≡ Some f → ((more : Text) → f.1.now ≢ codes "->" ++ more) → IsFrontRead found t rest
    → (typ_of f.0 ≡ t) × (f.1.now ≡ rest)
whole_read found f t rest is none read = by t (subst (λ g. IsFrontRead g t rest) is read)
  where
    by : (t : Typ) → IsFrontRead (Some f) t rest → (typ_of f.0 ≡ t) × (f.1.now ≡ rest)
    by bool h = h
    by nat h = h
    by unit h = h
    by top h = h
    by (arrow s u) h = absurd (none (plain_text u ++ rest) h.1)
    by (record_of fs) h = h

-- an arrow, of which the left was read, and the text behind it
pub record IsArrowRead (left : Ty) (found : Option (Ty × Bor Text)) (t : Typ) (rest : Text) : Type 0 where
  pub outcome : Typ
  pub is_arrow : t ≡ arrow (typ_of left) outcome
  pub read : IsTypeRead found outcome rest

pub arrow_read : (first : Option (Ty × Bor Text)) (f : Ty × Bor Text) (further : Text) (levels : ℕ) (second : Option (Ty × Bor Text)) (t : Typ) (rest : Text)
    → first ≡ Some f → f.1.now ≡ codes "->" ++ further → ReadsType further (levels - 1) second
    → HasReadableLabels t → depth t ≤ levels → NoArrow rest → IsFrontRead first t rest → IsArrowRead f.0 second t rest
arrow_read first f further levels second t rest is arrow_there reads readable small none read = by t readable small (subst (λ g. IsFrontRead g t rest) is read)
  where
    by : (t : Typ) → HasReadableLabels t → depth t ≤ levels → IsFrontRead (Some f) t rest → IsArrowRead f.0 second t rest
    by bool r s h = absurd (none further (sym h.1 ∙ arrow_there))
    by nat r s h = absurd (none further (sym h.1 ∙ arrow_there))
    by unit r s h = absurd (none further (sym h.1 ∙ arrow_there))
    by top r s h = absurd (none further (sym h.1 ∙ arrow_there))
    by (record_of fs) r s h = absurd (none further (sym h.1 ∙ arrow_there))
    by (arrow v u) r s h =
        let some = has_depth v in
        record {
          outcome = u;
          is_arrow = ap (λ w. arrow w u) (sym h.0);
          read = reads u rest r.1 (omega arith) none (cut (codes "->") f.1.now further (plain_text u ++ rest) arrow_there h.1);
        }

pub no_outcome : {A : Type 0} (left : Ty) (found : Option (Ty × Bor Text)) (t : Typ) (rest : Text) → found ≡ None → IsArrowRead left found t rest → A
no_outcome left found t rest none h = absurd (subst (λ f. IsTypeRead f h.outcome rest) none h.read)

pub whole_arrow : (left : Ty) (found : Option (Ty × Bor Text)) (f : Ty × Bor Text) (made : Ty) (t : Typ) (rest : Text) → found ≡ Some f
    → typ_of made ≡ arrow (typ_of left) (typ_of f.0) → IsArrowRead left found t rest → (typ_of made ≡ t) × (f.1.now ≡ rest)
whole_arrow left found f made t rest is made_is h =
    let there : IsTypeRead (Some f) h.outcome rest = subst (λ g. IsTypeRead g h.outcome rest) is h.read in
    (made_is ∙ ap (λ w. arrow (typ_of left) w) there.0 ∙ sym h.is_arrow, there.1)

-- ---- fields

-- the fields that are left of all of them
pub record AreFieldsLeft (done : Fields) (now : Text) (levels : ℕ) (fs : Fields) (rest : Text) : Type 0 where
  pub left : Fields
  pub whole : joined done left ≡ fs
  pub readable : HaveReadableLabels left
  pub small : depth_in left ≤ levels
  pub stands : now ≡ plain_fields left ++ (codes "}" ++ rest)

-- what stands behind a field
abbrev behind_field : Fields → Text → Text
behind_field more rest = separator_before more ++ (plain_fields more ++ (codes "}" ++ rest))

-- at least one is left
pub record IsFieldLeft (done : Fields) (now : Text) (levels : ℕ) (fs : Fields) (rest : Text) : Type 0 where
  pub label : Label
  pub type : Typ
  pub more : Fields
  pub whole : joined done (field label type more) ≡ fs
  pub readable : HaveReadableLabels (field label type more)
  pub small : depth_in (field label type more) ≤ levels
  pub stands : now ≡ label ++ (codes ":" ++ (plain_text type ++ behind_field more rest))

pub field_left : (done : Fields) (now : Text) (levels : ℕ) (fs : Fields) (rest : Text) → AreFieldsLeft done now levels fs rest → ((x : Text) → now ≢ codes "}" ++ x) → IsFieldLeft done now levels fs rest
field_left done now levels fs rest h none = by h.left h.whole h.readable h.small h.stands
  where
    by : (left : Fields) → joined done left ≡ fs → HaveReadableLabels left → depth_in left ≤ levels → now ≡ plain_fields left ++ (codes "}" ++ rest) → IsFieldLeft done now levels fs rest
    by no_fields whole readable small stands = absurd (none rest stands)
    by (field l t more) whole readable small stands = record {
      label = l;
      type = t;
      more = more;
      whole = whole;
      readable = readable;
      small = small;
      stands = stands ∙ fields_text l t more (codes "}" ++ rest);
    }

pub none_left : (done : Fields) (now left : Text) (levels : ℕ) (fs : Fields) (rest : Text) → AreFieldsLeft done now levels fs rest → now ≡ codes "}" ++ left → (done ≡ fs) × (left ≡ rest)
none_left done now left levels fs rest h ends = by h.left h.whole h.readable h.stands
  where
    by : (gs : Fields) → joined done gs ≡ fs → HaveReadableLabels gs → now ≡ plain_fields gs ++ (codes "}" ++ rest) → (done ≡ fs) × (left ≡ rest)
    by no_fields whole readable stands = (sym (joined-none done) ∙ whole, cut (codes "}") now left rest ends stands)
    by (field l t more) whole readable stands =
        absurd (not_an_end l left (plain_text t ++ behind_field more rest) readable.0 (sym ends ∙ stands ∙ fields_text l t more (codes "}" ++ rest)))

-- the label of the next field
abbrev pub ReadsLabel : Text → Option (Bor Text × Bor Text) → Type 0
ReadsLabel text found = (label rest : Text) → All (λ b. b ≢ byte ":") label → text ≡ label ++ (codes ":" ++ rest) → IsSomeAnd found (λ x. (x.0.now ≡ label) × (x.1.now ≡ rest))

pub no_label : {A : Type 0} (done : Fields) (now : Text) (levels : ℕ) (fs : Fields) (rest : Text) (found : Option (Bor Text × Bor Text))
    → IsFieldLeft done now levels fs rest → ReadsLabel now found → found ≡ None → A
no_label done now levels fs rest found h reads none = by found none (reads h.label _ h.readable.0.no_colon h.stands)
  where
    by : {A : Type 0} (f : Option (Bor Text × Bor Text)) → f ≡ None → IsSomeAnd f (λ x. (x.0.now ≡ h.label) × (x.1.now ≡ plain_text h.type ++ behind_field h.more rest)) → A
    by None e x = absurd x
    by (Some f) e x = let clash : Some f ≡ None = e in absurd cc

-- the type of the next field, behind its label
pub record IsFieldRead (done : Fields) (levels : ℕ) (label : Text) (found : Option (Ty × Bor Text)) (fs : Fields) (rest : Text) : Type 0 where
  pub type : Typ
  pub more : Fields
  pub whole : joined done (field label type more) ≡ fs
  pub readable : HaveReadableLabels more
  pub small : depth_in more ≤ levels
  pub read : IsTypeRead found type (behind_field more rest)

no_arrow_after : (fs : Fields) (x : Text) → NoArrow (behind_field fs x)
no_arrow_after no_fields x rest e = apart e (omega arith)
no_arrow_after (field l t fs) x rest e = apart e (omega arith)

pub field_read : (done : Fields) (now : Text) (levels : ℕ) (fs : Fields) (rest : Text) (at : Option (Bor Text × Bor Text)) (x : Bor Text × Bor Text) (found : Option (Ty × Bor Text))
    → IsFieldLeft done now levels fs rest → ReadsLabel now at → at ≡ Some x → ReadsType x.1.now levels found → IsFieldRead done levels x.0.now found fs rest
field_read done now levels fs rest at x found h label is reads =
    let there = subst (λ f. IsSomeAnd f (λ y. (y.0.now ≡ h.label) × (y.1.now ≡ plain_text h.type ++ behind_field h.more rest))) is (label h.label _ h.readable.0.no_colon h.stands) in
    record {
      type = h.type;
      more = h.more;
      whole = ap (λ l. joined done (field l h.type h.more)) there.0 ∙ h.whole;
      readable = h.readable.2;
      small = omega (arith, h.small);
      read = reads h.type (behind_field h.more rest) h.readable.1 (omega (arith, h.small)) (no_arrow_after h.more rest) there.1;
    }

pub no_field : {A : Type 0} (done : Fields) (levels : ℕ) (label : Text) (found : Option (Ty × Bor Text)) (fs : Fields) (rest : Text) → IsFieldRead done levels label found fs rest → found ≡ None → A
no_field done levels label found fs rest h none = absurd (subst (λ f. IsTypeRead f h.type (behind_field h.more rest)) none h.read)

-- behind a field and its comma the others are left
pub fields_left : (items : List (String Global × Ty)) (label : String Global) (levels : ℕ) (found : Option (Ty × Bor Text)) (f : Ty × Bor Text) (fs : Fields) (rest next : Text)
    → IsFieldRead (fields_of items) levels (string_bytes label) found fs rest → found ≡ Some f
    → ((x : Text) → f.1.now ≡ codes ", " ++ x → next ≡ x) → (((x : Text) → f.1.now ≢ codes ", " ++ x) → next ≡ f.1.now)
    → AreFieldsLeft (fields_of (items ++ (label, f.0) ∷ [])) next levels fs rest
fields_left items label levels found f fs rest next h is comma none =
    let there : IsTypeRead (Some f) h.type (behind_field h.more rest) = subst (λ g. IsTypeRead g h.type (behind_field h.more rest)) is h.read in
    record {
      left = h.more;
      whole = joined-push items (label, f.0) h.more ∙ ap (λ t. joined (fields_of items) (field (string_bytes label) t h.more)) there.0 ∙ h.whole;
      readable = h.readable;
      small = h.small;
      stands = by h.more there.1;
    }
  where
    by : (more : Fields) → f.1.now ≡ behind_field more rest → next ≡ plain_fields more ++ (codes "}" ++ rest)
    by no_fields e = none (λ x g. apart (sym e ∙ g) (omega arith)) ∙ e
    by (field l t more) e = comma (plain_fields (field l t more) ++ (codes "}" ++ rest)) e

-- ---- a whole text

no_arrow_at_end : NoArrow []
no_arrow_at_end rest e = cc

-- the type that was found is the only one that is readable
pub the_type : (text : Text) (found : Option (Ty × Bor Text)) → ReadsType text 4096 found → (f : Ty × Bor Text) → found ≡ Some f
    → (t : Typ) → IsReadableType t → text ≡ plain_text t → typ_of f.0 ≡ t
the_type text found reads f is t readable there =
    let read : IsTypeRead (Some f) t [] = subst (λ g. IsTypeRead g t []) is (reads t [] readable.labels readable.not_deep no_arrow_at_end (there ∙ sym (append-nil (plain_text t)))) in
    read.0

pub no_type : (text : Text) (found : Option (Ty × Bor Text)) → ReadsType text 4096 found → found ≡ None → (t : Typ) → IsReadableType t → text ≡ plain_text t → ⊥
no_type text found reads none t readable there =
    subst (λ g. IsTypeRead g t []) none (reads t [] readable.labels readable.not_deep no_arrow_at_end (there ∙ sym (append-nil (plain_text t))))
