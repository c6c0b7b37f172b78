-- A value is that of one readable derivation.
use Rattle.std.proofs.Common.{◌≡◌, if◌then◌else◌, ◌==◌, ℕ, List, [], ◌∷◌, get_or, map, Option, Some, None, refl, sym, ap, ◌∙◌}
use Rattle.std.specs.List.{All}
use Rattle.std.specs.Option.{IfSome}
use Rattle.std.specs.Str.{IsUtf8}
use Rattle.std.proofs.lemmas.List.Elements.{All-head, All-tail}
use Rattle.serde_json.specs.Data.{Data, null, array, string}
use Rattle.serde_json.specs.View.{items_of}
use Rattle.lam_rules.specs.Rules.{name_of_sub_rule, name_of_type_rule}
use Rattle.lam_rules.specs.Texts.{Text, plain_text}
use Rattle.lam_rules.specs.Types.{Typ}
use Rattle.lam_rules.specs.declared.rules.SubRule.{SubRule}
use Rattle.lam_rules.specs.declared.rules.TypeRule.{TypeRule}
use Rattle.lam_rules.proofs.ReadTexts.{plain_text_tells}
use Rattle.lam_text.specs.declared.units.Encoding.{Encoding}
use Rattle.lam_text.specs.Positions.{position_of, offset_of}
use Rattle.lam_text.proofs.LawLemmas.{comes_back}
use Rattle.lam_token.specs.declared.span.Span.{Span}
use Rattle.lam_query.specs.Derivations.{ContextEntry, Derivation}
use Rattle.lam_query.specs.Steps.{Conclusion, typing, subtyping, Step}
use Rattle.lam_session.specs.Derivations.{type_value, entry_value, premises_value, conclusion_value, step_value, derivation_value}
use Rattle.lam_session.specs.Ranges.{position_value, range_value}
use Rattle.lam_check.specs.Readable.{IsReadable, IsReadableConclusion, IsReadableOffset, IsReadableSpan, IsReadableType}
use Rattle.lam_check.specs.Unreadable.{typing_members, subtyping_members}
use Rattle.lam_check.specs.inner.Read.{number_value}
use Rattle.lam_check.proofs.ReadValues.{items_same, same_position, two_views}

-- ---- lists

-- if things are determined by their values, so are lists of them
same_list : {A : Type 0} (P : A → Type 0) (f : A → Data) → ((x y : A) → P x → P y → f x ≡ f y → x ≡ y)
    → (xs ys : List A) → All P xs → All P ys → array (items_of (map f xs)) ≡ array (items_of (map f ys)) → xs ≡ ys
same_list {A = A} P f one xs ys some others is =
    let items : items_of (map f xs) ≡ items_of (map f ys) = cc in
    by xs ys some others (items_same (map f xs) (map f ys) items)
  where
    by : (xs ys : List A) → All P xs → All P ys → map f xs ≡ map f ys → xs ≡ ys
    by [] [] p q e = refl
    by [] (y ∷ ys) p q e = let clash : [] ≡ f y ∷ map f ys = e in absurd cc
    by (x ∷ xs) [] p q e = let clash : f x ∷ map f xs ≡ [] = e in absurd cc
    by (x ∷ xs) (y ∷ ys) p q e =
        let both : f x ∷ map f xs ≡ f y ∷ map f ys = e in
        let first : f x ≡ f y = cc in
        let rest : map f xs ≡ map f ys = cc in
        let here = one x y (All-head P x xs p) (All-head P y ys q) first in
        let more = by xs ys (All-tail P x xs p) (All-tail P y ys q) rest in
        λ i. here i ∷ more i

same_premises : (ms ns : List ℕ) → premises_value ms ≡ premises_value ns → ms ≡ ns
same_premises ms ns e = same_list (λ n. Unit {0}) number_value (λ m n one other is. cc) ms ns (λ k d inside. tt) (λ k d inside. tt) e

-- ---- types and entries

same_type : (s t : Typ) → IsReadableType s → IsReadableType t → string (plain_text s) ≡ string (plain_text t) → s ≡ t
same_type s t one other is =
    let texts : plain_text s ≡ plain_text t = cc in
    plain_text_tells s t one.labels other.labels texts

same_entry_type : (a b : Option Typ) → IfSome a IsReadableType → IfSome b IsReadableType → type_value a ≡ type_value b → a ≡ b
same_entry_type None None one other is = refl
same_entry_type None (Some t) one other is = let clash : null ≡ string (plain_text t) = is in absurd cc
same_entry_type (Some s) None one other is = let clash : string (plain_text s) ≡ null = is in absurd cc
same_entry_type (Some s) (Some t) one other is = ap (λ u. Some u) (same_type s t one other is)

same_entry : (a b : ContextEntry) → IfSome a.type IsReadableType → IfSome b.type IsReadableType → entry_value a ≡ entry_value b → a ≡ b
same_entry a b one other is =
    let both : (string a.name ≡ string b.name) × (type_value a.type ≡ type_value b.type) = two_views refl is in
    let names : string a.name ≡ string b.name = both.0 in
    let name : a.name ≡ b.name = cc in
    let type = same_entry_type a.type b.type one other both.1 in
    λ i. record { name = name i; type = type i }

-- ---- the names of rules

abbrev type_rule_of : Text → TypeRule
type_rule_of x =
    if get_or x 4 0 == 117 then TypeRule.True else
    if get_or x 4 0 == 108 then TypeRule.False else
    if get_or x 4 0 == 109 then TypeRule.Num else
    if get_or x 4 0 == 99 then (if get_or x 2 0 == 83 then TypeRule.Succ else TypeRule.Ascribe) else
    if get_or x 4 0 == 101 then TypeRule.Pred else
    if get_or x 4 0 == 90 then TypeRule.IsZero else
    if get_or x 4 0 == 114 then TypeRule.Var else
    if get_or x 4 0 == 115 then TypeRule.Abs else
    if get_or x 4 0 == 112 then TypeRule.App else
    if get_or x 4 0 == 105 then TypeRule.Unit else
    if get_or x 4 0 == 116 then TypeRule.Let else
    if get_or x 4 0 == 100 then TypeRule.Rcd else
    if get_or x 4 0 == 111 then TypeRule.Proj else
    if get_or x 4 0 == 120 then TypeRule.Fix else
    if get_or x 4 0 == 98 then TypeRule.Sub else TypeRule.If

named_type_rule : (r : TypeRule) → type_rule_of (name_of_type_rule r) ≡ r
named_type_rule TypeRule.True = refl
named_type_rule TypeRule.False = refl
named_type_rule TypeRule.If = refl
named_type_rule TypeRule.Num = refl
named_type_rule TypeRule.Succ = refl
named_type_rule TypeRule.Pred = refl
named_type_rule TypeRule.IsZero = refl
named_type_rule TypeRule.Var = refl
named_type_rule TypeRule.Abs = refl
named_type_rule TypeRule.App = refl
named_type_rule TypeRule.Unit = refl
named_type_rule TypeRule.Ascribe = refl
named_type_rule TypeRule.Let = refl
named_type_rule TypeRule.Rcd = refl
named_type_rule TypeRule.Proj = refl
named_type_rule TypeRule.Fix = refl
named_type_rule TypeRule.Sub = refl

same_type_rule : (r s : TypeRule) → name_of_type_rule r ≡ name_of_type_rule s → r ≡ s
same_type_rule r s e = sym (named_type_rule r) ∙ ap type_rule_of e ∙ named_type_rule s

abbrev sub_rule_of : Text → SubRule
sub_rule_of x =
    if get_or x 4 0 == 102 then SubRule.Refl else
    if get_or x 4 0 == 97 then SubRule.Trans else
    if get_or x 4 0 == 112 then SubRule.Top else
    if get_or x 4 0 == 114 then SubRule.Arrow else
    if get_or x 4 0 == 111 then SubRule.BoolNat else
    if get_or x 5 0 == 87 then SubRule.RcdWidth else
    if get_or x 5 0 == 68 then SubRule.RcdDepth else SubRule.RcdPerm

named_sub_rule : (r : SubRule) → sub_rule_of (name_of_sub_rule r) ≡ r
named_sub_rule SubRule.Refl = refl
named_sub_rule SubRule.Trans = refl
named_sub_rule SubRule.Top = refl
named_sub_rule SubRule.Arrow = refl
named_sub_rule SubRule.RcdWidth = refl
named_sub_rule SubRule.RcdDepth = refl
named_sub_rule SubRule.RcdPerm = refl
named_sub_rule SubRule.BoolNat = refl

same_sub_rule : (r s : SubRule) → name_of_sub_rule r ≡ name_of_sub_rule s → r ≡ s
same_sub_rule r s e = sym (named_sub_rule r) ∙ ap sub_rule_of e ∙ named_sub_rule s

-- ---- spans and steps

same_offset : (encoding : Encoding) (text : List ℕ) (a b : ℕ) → IsUtf8 text → IsReadableOffset text a → IsReadableOffset text b
    → position_value (position_of encoding text a) ≡ position_value (position_of encoding text b) → a ≡ b
same_offset encoding text a b utf8 one other is =
    sym (comes_back encoding text a utf8 one.boundary one.outside)
    ∙ ap (offset_of encoding text) (same_position (position_of encoding text a) (position_of encoding text b) is)
    ∙ comes_back encoding text b utf8 other.boundary other.outside

same_span : (encoding : Encoding) (text : List ℕ) (s u : Span) → IsUtf8 text → IsReadableSpan text s → IsReadableSpan text u → range_value encoding text s ≡ range_value encoding text u → s ≡ u
same_span encoding text s u utf8 one other is =
    let both : (position_value (position_of encoding text s.end) ≡ position_value (position_of encoding text u.end)) × (position_value (position_of encoding text s.start) ≡ position_value (position_of encoding text u.start)) =
    two_views refl is in
    let end = same_offset encoding text s.end u.end utf8 one.end other.end both.0 in
    let start = same_offset encoding text s.start u.start utf8 one.start other.start both.1 in
    λ i. record { start = start i; end = end i }

same_conclusion : (encoding : Encoding) (text ms ns : List ℕ) (a b : Conclusion) → IsUtf8 text → IsReadableConclusion text a → IsReadableConclusion text b
    → conclusion_value encoding text ms a ≡ conclusion_value encoding text ns b → (a ≡ b) × (ms ≡ ns)
same_conclusion encoding text ms ns (typing r s t) (typing q u v) utf8 one other is =
    let both : typing_members (premises_value ms) (range_value encoding text s) (string (name_of_type_rule r)) (string (plain_text t))
    ≡ typing_members (premises_value ns) (range_value encoding text u) (string (name_of_type_rule q)) (string (plain_text v)) = is in
    let first : premises_value ms ≡ premises_value ns = cc in
    let second : range_value encoding text s ≡ range_value encoding text u = cc in
    let third : name_of_type_rule r ≡ name_of_type_rule q = cc in
    let fourth : string (plain_text t) ≡ string (plain_text v) = cc in
    let rule = same_type_rule r q third in
    let span = same_span encoding text s u utf8 one.0 other.0 second in
    let type = same_type t v one.1 other.1 fourth in
    ((λ i. typing (rule i) (span i) (type i)), same_premises ms ns first)
same_conclusion encoding text ms ns (subtyping r s t) (subtyping q u v) utf8 one other is =
    let both : subtyping_members (premises_value ms) (string (plain_text s)) (string (name_of_sub_rule r)) (string (plain_text t))
    ≡ subtyping_members (premises_value ns) (string (plain_text u)) (string (name_of_sub_rule q)) (string (plain_text v)) = is in
    let first : premises_value ms ≡ premises_value ns = cc in
    let second : string (plain_text s) ≡ string (plain_text u) = cc in
    let third : name_of_sub_rule r ≡ name_of_sub_rule q = cc in
    let fourth : string (plain_text t) ≡ string (plain_text v) = cc in
    let rule = same_sub_rule r q third in
    let lower = same_type s u one.0 other.0 second in
    let upper = same_type t v one.1 other.1 fourth in
    ((λ i. subtyping (rule i) (lower i) (upper i)), same_premises ms ns first)
same_conclusion encoding text ms ns (typing r s t) (subtyping q u v) utf8 one other is =
    let clash : typing_members (premises_value ms) (range_value encoding text s) (string (name_of_type_rule r)) (string (plain_text t))
    ≡ subtyping_members (premises_value ns) (string (plain_text u)) (string (name_of_sub_rule q)) (string (plain_text v)) = is in
    absurd cc
same_conclusion encoding text ms ns (subtyping r s t) (typing q u v) utf8 one other is =
    let clash : subtyping_members (premises_value ms) (string (plain_text s)) (string (name_of_sub_rule r)) (string (plain_text t))
    ≡ typing_members (premises_value ns) (range_value encoding text u) (string (name_of_type_rule q)) (string (plain_text v)) = is in
    absurd cc

same_step : (encoding : Encoding) (text : List ℕ) → IsUtf8 text → (a b : Step) → IsReadableConclusion text a.conclusion → IsReadableConclusion text b.conclusion
    → step_value encoding text a ≡ step_value encoding text b → a ≡ b
same_step encoding text utf8 a b one other is =
    let both = same_conclusion encoding text a.premises b.premises a.conclusion b.conclusion utf8 one other is in
    λ i. record { conclusion = both.0 i; premises = both.1 i }

pub one_readable : (encoding : Encoding) (text : List ℕ) → IsUtf8 text → (a b : Derivation) → IsReadable text a → IsReadable text b
    → derivation_value encoding text (Some a) ≡ derivation_value encoding text (Some b) → a ≡ b
one_readable encoding text utf8 a b one other is =
    let both = two_views refl is in
    let context = same_list (λ e. IfSome e.type IsReadableType) entry_value same_entry a.context b.context one.context other.context both.0 in
    let steps = same_list (λ s. IsReadableConclusion text s.conclusion) (step_value encoding text) (same_step encoding text utf8) a.steps b.steps one.steps other.steps both.1 in
    λ i. record { context = context i; steps = steps i }
