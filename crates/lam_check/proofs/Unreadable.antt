-- Why values are not read: a right reason rules out a readable derivation.
use Rattle.std.proofs.Common.{◌≡◌, ◌<◌, inl, inr, codes, ℕ, List, [], ◌∷◌, ◌++◌, length, get_or, map, take, zero, suc, Option, Some, None, refl, sym, ap, subst, ◌∙◌, arith}
use Rattle.std.specs.List.{All}
use Rattle.std.specs.Option.{IfSome}
use Rattle.std.proofs.lemmas.List.{map-append, length-map, length-take-le}
use Rattle.std.proofs.lemmas.List.Elements.{All-head, All-tail, All-map, All-weaker}
use Rattle.serde_json.specs.Data.{Data, null, boolean, number, string, array, object, member, no_members}
use Rattle.serde_json.specs.Find.{as_array}
use Rattle.serde_json.specs.View.{view, items_of, items_view}
use Rattle.serde_json.specs.declared.value.Value.{Value}
use Rattle.lam_rules.specs.Rules.{name_of_sub_rule, name_of_type_rule}
use Rattle.lam_rules.specs.Texts.{plain_text}
use Rattle.lam_rules.specs.Types.{Typ}
use Rattle.lam_text.specs.declared.units.Encoding.{Encoding}
use Rattle.lam_query.specs.Derivations.{ContextEntry, Derivation}
use Rattle.lam_query.specs.Steps.{Conclusion, typing, subtyping}
use Rattle.lam_session.specs.Derivations.{type_value, entry_value, premises_value, conclusion_value, step_value, derivation_value}
use Rattle.lam_session.specs.Ranges.{range_value}
use Rattle.lam_check.specs.Readable.{IsReadable, IsReadableConclusion, IsReadableType}
use Rattle.lam_check.specs.Unreadable.{derivation_members, typing_members, subtyping_members, IsReadableEntry, IsReadableStep, IsWrongEntry, IsWrongTyping, IsWrongSubtyping, IsWrongStep, IsFirstWrong, IsWrongFor, no_step, in_typing, in_subtyping, no_lists, in_context, in_steps}
use Rattle.lam_check.specs.declared.read_derivations.Unread.{Unread}
use Rattle.lam_check.specs.declared.read_derivations.Unread.TheVariants as unread
use Rattle.lam_check.proofs.ReadValues.{AreReadTo, items_same, two_views}

-- ---- the first value that is wrong

split_at : {A : Type 0} (xs : List A) (i : ℕ) (x : A) → i < length xs → x ≡ get_or xs i x → (behind : List A) × (xs ≡ take i xs ++ x ∷ behind)
split_at [] i x inside at = absurd (omega arith)
split_at (y ∷ xs) zero x inside at = (xs, λ k. sym at k ∷ xs)
split_at (y ∷ xs) (suc i) x inside at = let rest = split_at xs i x (omega arith) at in (rest.0, ap (λ l. y ∷ l) rest.1)

pub first_wrong : {A : Type 0} (Is : Data → Type 0) (IsWrong : Data → ℕ → Unread → Type 0) (f : A → Data) (P : A → Type 0) → ((x : A) → P x → Is (f x))
    → (values : List Value) (i : ℕ) (v : Value) (items : List A) (reason : Unread) → i < length values → v ≡ get_or values i v → AreReadTo f values i items → All P items
    → IsWrong (view v) i reason → IsFirstWrong Is IsWrong (map view values) reason
first_wrong Is IsWrong f P each values i v items reason inside at so_far right wrong =
    let cut = split_at values i v inside at in
    record {
      before = map view (take i values);
      value = view v;
      behind = map view cut.0;
      split = ap (map view) cut.1 ∙ map-append view (take i values) (v ∷ cut.0);
      right = subst (All Is) (sym so_far) (All-map Is f items (All-weaker P (λ x. Is (f x)) each items right));
      wrong = subst (λ n. IsWrong (view v) n reason) (sym (length-map (take i values) view ∙ length-take-le i values (omega arith))) wrong;
    }

in_the_middle : (Is : Data → Type 0) (before behind : List Data) (value : Data) → All Is (before ++ value ∷ behind) → Is value
in_the_middle Is [] behind value all = All-head Is value behind all
in_the_middle Is (x ∷ before) behind value all = in_the_middle Is before behind value (All-tail Is x (before ++ value ∷ behind) all)

not_all : (Is : Data → Type 0) (IsWrong : Data → ℕ → Unread → Type 0) → ((value : Data) (n : ℕ) (reason : Unread) → IsWrong value n reason → Is value → ⊥)
    → (values : List Data) (reason : Unread) → IsFirstWrong Is IsWrong values reason → All Is values → ⊥
not_all Is IsWrong each values reason first all =
    each first.value (length first.before) reason first.wrong (in_the_middle Is first.before first.behind first.value (subst (All Is) first.split all))

-- ---- entries and steps

entry_wrong : (value : Data) (n : ℕ) (reason : Unread) → IsWrongEntry value n reason → IsReadableEntry value → ⊥
entry_wrong value n (unread.Entry m) wrong entry = wrong.1 entry.0.name (type_value entry.0.type) entry.2
entry_wrong value n (unread.EntryType m) wrong entry = by entry.0.type entry.1 (two_views wrong.3 entry.2).1
  where
    by : (t : Option Typ) → IfSome t IsReadableType → wrong.2 ≡ type_value t → ⊥
    by None readable is = wrong.4 is
    by (Some t) readable is = wrong.5 t readable is
entry_wrong value n _ wrong entry = absurd wrong

typing_wrong : (encoding : Encoding) (text : List ℕ) (from range rule type : Data) (n : ℕ) (reason : Unread) → IsWrongTyping encoding text from range rule type n reason → (premises : List ℕ) (c : Conclusion)
    → IsReadableConclusion text c → typing_members from range rule type ≡ conclusion_value encoding text premises c → ⊥
typing_wrong encoding text from range rule type n reason wrong premises (subtyping r l u) readable is =
    let clash : typing_members from range rule type ≡ subtyping_members (premises_value premises) (string (plain_text l)) (string (name_of_sub_rule r)) (string (plain_text u)) = is in
    absurd cc
typing_wrong encoding text from range rule type n reason wrong premises (typing r s t) readable is =
    let both : typing_members from range rule type ≡ typing_members (premises_value premises) (range_value encoding text s) (string (name_of_type_rule r)) (string (plain_text t)) = is in
    let first : from ≡ premises_value premises = cc in
    let second : range ≡ range_value encoding text s = cc in
    let third : rule ≡ string (name_of_type_rule r) = cc in
    let fourth : type ≡ string (plain_text t) = cc in
    by reason wrong first second third fourth
  where
    by : (reason : Unread) → IsWrongTyping encoding text from range rule type n reason → from ≡ premises_value premises → range ≡ range_value encoding text s
        → rule ≡ string (name_of_type_rule r) → type ≡ string (plain_text t) → ⊥
    by (unread.Rule m) wrong first second third fourth = wrong.1 r third
    by (unread.From m) wrong first second third fourth = wrong.1 premises first
    by (unread.Range m) wrong first second third fourth = wrong.1 s readable.0 second
    by (unread.Type m) wrong first second third fourth = wrong.1 t readable.1 fourth
    by _ wrong first second third fourth = absurd wrong

subtyping_wrong : (encoding : Encoding) (text : List ℕ) (from lower rule upper : Data) (n : ℕ) (reason : Unread) → IsWrongSubtyping from lower rule upper n reason → (premises : List ℕ) (c : Conclusion)
    → IsReadableConclusion text c → subtyping_members from lower rule upper ≡ conclusion_value encoding text premises c → ⊥
subtyping_wrong encoding text from lower rule upper n reason wrong premises (typing r s t) readable is =
    let clash : subtyping_members from lower rule upper ≡ typing_members (premises_value premises) (range_value encoding text s) (string (name_of_type_rule r)) (string (plain_text t)) = is in
    absurd cc
subtyping_wrong encoding text from lower rule upper n reason wrong premises (subtyping r l u) readable is =
    let both : subtyping_members from lower rule upper ≡ subtyping_members (premises_value premises) (string (plain_text l)) (string (name_of_sub_rule r)) (string (plain_text u)) = is in
    let first : from ≡ premises_value premises = cc in
    let second : lower ≡ string (plain_text l) = cc in
    let third : rule ≡ string (name_of_sub_rule r) = cc in
    let fourth : upper ≡ string (plain_text u) = cc in
    by reason wrong first second third fourth
  where
    by : (reason : Unread) → IsWrongSubtyping from lower rule upper n reason → from ≡ premises_value premises → lower ≡ string (plain_text l)
        → rule ≡ string (name_of_sub_rule r) → upper ≡ string (plain_text u) → ⊥
    by (unread.Rule m) wrong first second third fourth = wrong.1 r third
    by (unread.From m) wrong first second third fourth = wrong.1 premises first
    by (unread.Type m) (_, inl no_lower) first second third fourth = no_lower l readable.0 second
    by (unread.Type m) (_, inr no_upper) first second third fourth = no_upper u readable.1 fourth
    by _ wrong first second third fourth = absurd wrong

step_wrong : (encoding : Encoding) (text : List ℕ) (value : Data) (n : ℕ) (reason : Unread) → IsWrongStep encoding text value n reason → IsReadableStep encoding text value → ⊥
step_wrong encoding text value n reason (no_step is not_typing not_subtyping) step = by step.0.conclusion step.2
  where
    by : (c : Conclusion) → value ≡ conclusion_value encoding text step.0.premises c → ⊥
    by (typing r s t) here = not_typing (premises_value step.0.premises) (range_value encoding text s) (string (name_of_type_rule r)) (string (plain_text t)) here
    by (subtyping r l u) here = not_subtyping (premises_value step.0.premises) (string (plain_text l)) (string (name_of_sub_rule r)) (string (plain_text u)) here
step_wrong encoding text value n reason (in_typing from range rule type is wrong) step =
    typing_wrong encoding text from range rule type n reason wrong step.0.premises step.0.conclusion step.1 (sym is ∙ step.2)
step_wrong encoding text value n reason (in_subtyping from lower rule upper is wrong) step =
    subtyping_wrong encoding text from lower rule upper n reason wrong step.0.premises step.0.conclusion step.1 (sym is ∙ step.2)

-- ---- derivations

pub all_entries : (values : List Data) (entries : List ContextEntry) → values ≡ map entry_value entries → All (λ e. IfSome e.type IsReadableType) entries → All IsReadableEntry values
all_entries values entries are readable =
    subst (All IsReadableEntry) (sym are) (All-map IsReadableEntry entry_value entries (All-weaker (λ e. IfSome e.type IsReadableType) (λ e. IsReadableEntry (entry_value e)) (λ e h. (e, h, refl)) entries readable))

all_steps : (encoding : Encoding) (text : List ℕ) (d : Derivation) → IsReadable text d → All (IsReadableStep encoding text) (map (step_value encoding text) d.steps)
all_steps encoding text d readable =
    All-map (IsReadableStep encoding text) (step_value encoding text) d.steps
    (All-weaker (λ s. IsReadableConclusion text s.conclusion) (λ s. IsReadableStep encoding text (step_value encoding text s)) (λ s h. (s, h, refl)) d.steps readable.steps)

-- a list that was found is the value
pub listed_array : (value : Data) (values there : List Value) → Some (items_view values) ≡ as_array value → there ≡ values → value ≡ array (items_of (map view there))
listed_array (array items) values there found same = let is : items_of (map view values) ≡ items = cc in ap array (sym is) ∙ ap (λ vs. array (items_of (map view vs))) (sym same)
listed_array null values there found same = let clash : Some (items_view values) ≡ None = found in absurd cc
listed_array (boolean b) values there found same = let clash : Some (items_view values) ≡ None = found in absurd cc
listed_array (number n) values there found same = let clash : Some (items_view values) ≡ None = found in absurd cc
listed_array (string x) values there found same = let clash : Some (items_view values) ≡ None = found in absurd cc
listed_array (object ms) values there found same = let clash : Some (items_view values) ≡ None = found in absurd cc

pub with_lists : (value context steps : Data) (cs ss : List Data) → value ≡ object (member (codes "context") context (member (codes "steps") steps no_members))
    → context ≡ array (items_of cs) → steps ≡ array (items_of ss) → value ≡ derivation_members cs ss
with_lists value context steps cs ss is first second = is ∙ (λ k. object (member (codes "context") (first k) (member (codes "steps") (second k) no_members)))

listed_same : (xs ys : List Data) → array (items_of xs) ≡ array (items_of ys) → xs ≡ ys
listed_same xs ys is = let items : items_of xs ≡ items_of ys = cc in items_same xs ys items

pub wrong_for : (encoding : Encoding) (text : List ℕ) (value : Data) (reason : Unread) → IsWrongFor encoding text value reason
    → (d : Derivation) → IsReadable text d → value ≡ derivation_value encoding text (Some d) → ⊥
wrong_for encoding text value reason (no_lists is none) d readable here = none (map entry_value d.context) (map (step_value encoding text) d.steps) here
wrong_for encoding text value reason (in_context context steps is first) d readable here =
    not_all IsReadableEntry IsWrongEntry entry_wrong context reason first
    (all_entries context d.context (listed_same context (map entry_value d.context) (two_views is here).0) readable.context)
wrong_for encoding text value reason (in_steps context steps is read first) d readable here =
    not_all (IsReadableStep encoding text) (IsWrongStep encoding text) (step_wrong encoding text) steps reason first
    (subst (All (IsReadableStep encoding text)) (sym (listed_same steps (map (step_value encoding text) d.steps) (two_views is here).1)) (all_steps encoding text d readable))
