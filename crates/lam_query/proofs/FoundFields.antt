-- The labels with which a projection has a type, from what was found of the term before the dot.
use Rattle.std.proofs.Common.{◌≡◌, ◌⊎◌, inl, inr, ℕ, suc, ◌+◌, ◌-◌, ◌<◌, ◌≤◌, List, [], ◌∷◌, true, length, map, take, get_or, Option, Some, None, sym, ap, ◌∙◌, refl, subst, arith, String, string_bytes}
use Rattle.std.specs.declared.alloc.Global.{Global}
use Rattle.std.proofs.lemmas.Bool.{cases_lt}
use Rattle.std.proofs.lemmas.List.{length-map, length-take-le, get_or-take, get_or_past}
use Rattle.std.proofs.lemmas.List.Elements.{All-nil}
use Rattle.lam_rules.specs.Types.{Label, Typ, bool, nat, unit, top, arrow, record_of, IsWellFormed}
use Rattle.lam_rules.specs.Terms.{Term, unit_term, project}
use Rattle.lam_rules.specs.Texts.{text, sorted}
use Rattle.lam_rules.specs.Typing.{HasField}
use Rattle.lam_rules.specs.Numbers.{type_of, fields_over}
use Rattle.lam_rules.specs.declared.numbers.TyNo.{TyNo}
use Rattle.lam_rules.specs.declared.rules.Dialect.{Dialect}
use Rattle.lam_rules.proofs.Composing.{below_trans}
use Rattle.lam_rules.proofs.SortedBelow.{below_sorted, sorted_below}
use Rattle.lam_token.specs.declared.span.Span.{Span}
use Rattle.lam_syntax.specs.Trees.{CommandTree}
use Rattle.lam_scope.specs.Labels.{place_in}
use Rattle.lam_scope.specs.Nameless.{first_too_large}
use Rattle.lam_scope.specs.Places.{Scope, Place, Statement, places_of}
use Rattle.lam_scope.specs.PlacedTerms.{document_terms, term_of, tree_in}
use Rattle.lam_scope.proofs.PlacedPlaces.{same_places}
use Rattle.lam_typing.specs.Analysis.{IsFirstTooLarge}
use Rattle.lam_typing.specs.LeastTypes.{IsLeastAt}
use Rattle.lam_typing.specs.Typings.{IsAnalysis, found_of}
use Rattle.lam_typing.specs.declared.typing.Typing.{Typing}
use Rattle.lam_typing.proofs.Derivations.{derives, derives_wf, has_type, t_sub}
use Rattle.lam_typing.proofs.Projections.{field_is_least, field_of_least, untyped_operand}
use Rattle.lam_query.specs.Completions.{Item, AreAscending, IsSmallUpTo}
use Rattle.lam_query.specs.inner.FieldItems.{field_item, field_items, items_in, items_found}
use Rattle.lam_query.specs.inner.Listed.{IsProjection, HasLeast, AreFields, AreListed, fields, too_large}
use Rattle.lam_query.specs.Sizes.{places_in}
use Rattle.lam_query.specs.WellTypedDocuments.{statements_in}
use Rattle.lam_query.proofs.RowsAndTerms.{place_told}
use Rattle.lam_query.proofs.Small.{none_too_large, least_at}
use Rattle.lam_query.proofs.Ascending.{none_ascend}
use Rattle.lam_query.proofs.SortedLabels.{sorted_items, item_each, item_there}

-- the sorted form of a least type is least too

least_wf : (s : Scope) (e : Term) (u : Typ) (d : Dialect) → IsLeastAt s e (Some u) d → IsWellFormed u
least_wf s e u d least = (derives_wf least.0.0 e u d (derives least.0.0 e u d least.0.2)).1

least_sorted : (s : Scope) (e : Term) (u : Typ) (d : Dialect) → IsLeastAt s e (Some u) d → IsLeastAt s e (Some (sorted u)) d
least_sorted s e u d least =
    let g = least.0.0 in
    let wf = least_wf s e u d least in (
      (g, least.0.1, has_type g e (sorted u) d (t_sub (derives g e u d least.0.2) (below_sorted u d wf))),
      λ t is. below_trans (sorted u) u t d (sorted_below u d wf) (least.1 t is),
    )

-- the fields of the least type of the term before the dot

module _ {cs : List CommandTree} {n : ℕ} (p : IsProjection cs n) (d : Dialect) where
  abbrev before_dot : Option Typ → Type 0
  before_dot o = IsLeastAt (place_in cs n).scope p.operand o d

  none_fields : ((l : Label) (t : Typ) → HasLeast p l t d → ⊥) → AreFields p [] d
  none_fields none = record { ascending = none_ascend; each = All-nil _; every = λ l t least. absurd (none l t least) }

  field_at : (v : Typ) → before_dot (Some v) → (l : Label) (t : Typ) → HasLeast p l t d → (u : Typ) × HasField v l u
  field_at v least l t is = let h = field_of_least (place_in cs n).scope p.operand l v t d least is.0 in (h.0, h.1)

  abbrev is_typed_field : Item → Type 0
  is_typed_field i = (t : Typ) × HasLeast p i.label t d × (i ≡ record { label = i.label; detail = Some (text t); is_field = true })

  are_fields : (v : Typ) → before_dot (Some v) → AreAscending (items_in v) → AreFields p (items_in v) d
  are_fields (record_of fs) least up = record {
    ascending = up;
    each = item_each is_typed_field fs (λ l t has. (t, field_is_least (place_in cs n).scope p.operand l fs t d least has, refl));
    every = λ l t is. let h = field_at (record_of fs) least l t is in item_there fs l h.0 h.1;
  }
  are_fields bool least up = none_fields (λ l t is. (field_at bool least l t is).1)
  are_fields nat least up = none_fields (λ l t is. (field_at nat least l t is).1)
  are_fields unit least up = none_fields (λ l t is. (field_at unit least l t is).1)
  are_fields top least up = none_fields (λ l t is. (field_at top least l t is).1)
  are_fields (arrow a b) least up = none_fields (λ l t is. (field_at (arrow a b) least l t is).1)

  pub fields_found : (o : Option Typ) → before_dot o → AreFields p (items_found o) d
  fields_found None none = none_fields (λ l t is. untyped_operand (place_in cs n).scope p.operand l t d none is.0)
  fields_found (Some u) least =
      are_fields (sorted u) (least_sorted (place_in cs n).scope p.operand u d least) (sorted_items u (least_wf (place_in cs n).scope p.operand u d least))

-- what was found of the term before the dot

-- a projection is one of the terms
inside : (cs : List CommandTree) (n : ℕ) → IsProjection cs n → n < length (places_in cs)
inside cs n p = by (cases_lt n (length (document_terms cs)))
  where
    by : (n < length (document_terms cs)) ⊎ (length (document_terms cs) ≤ n) → n < length (places_in cs)
    by (inl lt) = let same = length-map (document_terms cs) (λ t. (term_of t).place) in omega arith
    by (inr le) =
        let past : unit_term ≡ (place_in cs n).here = sym (ap (λ t. (term_of t).place.here) (get_or_past (document_terms cs) n (tree_in [] 0) le)) in
        let no_way : unit_term ≡ project p.operand p.label = past ∙ p.asked in
        cc

least_before : (cs : List CommandTree) (n m : ℕ) (p : IsProjection cs n) (os : List (Option Typ)) (d : Dialect) → suc m ≡ n
    → IsLeastAt (get_or (take n (places_in cs)) m (term_of (tree_in [] 0)).place).scope (get_or (take n (places_in cs)) m (term_of (tree_in [] 0)).place).here (get_or os m None) d
    → IsLeastAt (place_in cs n).scope p.operand (get_or os m None) d
least_before cs n m p os d next least =
    let first : m < n = omega arith in
    let number : m ≡ p.before = let same = p.is_next in omega arith in
    let there = get_or-take n (places_in cs) m (term_of (tree_in [] 0)).place first ∙ place_told cs m ∙ ap (place_in cs) number ∙ p.operand_there in
    subst (λ (q : Place). IsLeastAt q.scope q.here (get_or os m None) d) there least

found_before : (cs : List CommandTree) (n m : ℕ) (p : IsProjection cs n) (typing : Typing) (d : Dialect) → suc m ≡ n
    → IsAnalysis (take n (places_in cs)) typing d → IsLeastAt (place_in cs n).scope p.operand (get_or (found_of typing) m None) d
found_before cs n m p typing d next h =
    let within = inside cs n p in
    let long = length-take-le n (places_in cs) (omega arith) in
    least_before cs n m p (found_of typing) d next (least_at (take n (places_in cs)) (found_of typing) m (term_of (tree_in [] 0)).place d (omega arith) h.least)

-- what is listed

pub listed_unwritten : (cs : List CommandTree) (n : ℕ) (s : Span) (d : Dialect) → first_too_large [] cs ≡ Some s → AreListed cs n [] d
listed_unwritten cs n s d large = too_large (λ small. let no_way : None ≡ Some s = sym small.written ∙ large in cc)

-- the places in front of a projection, by the statements and by the terms
front : (cs : List CommandTree) (ss : List Statement) (n m : ℕ) → ss ≡ statements_in cs → suc m ≡ n → take (m + 1) (places_of [] ss) ≡ take n (places_in cs)
front cs ss n m are next =
    let number : m + 1 ≡ n = omega arith in
    ap (λ k. take k (places_of [] ss)) number ∙ ap (take n) (ap (places_of []) are ∙ same_places cs)

pub listed_found : (cs : List CommandTree) (ss : List Statement) (n m : ℕ) (typing : Typing) (items : List Item) (d : Dialect)
    → IsProjection cs n → m ≡ n - 1 → ss ≡ statements_in cs → first_too_large [] cs ≡ None → IsAnalysis (take (m + 1) (places_of [] ss)) typing d
    → items ≡ items_found (get_or (found_of typing) m None) → AreListed cs n items d
listed_found cs ss n m typing items d p is are written analysis told =
    let next : suc m ≡ n = let same = p.is_next in omega arith in
    let h = subst (λ ps. IsAnalysis ps typing d) (front cs ss n m are next) analysis in
    let small : IsSmallUpTo cs n d = record { written = written; terms = λ k. none_too_large (take n (places_in cs)) (found_of typing) k d h.least h.small } in
    rw told (fields p small (fields_found p d (get_or (found_of typing) m None) (found_before cs n m p typing d next h)))

pub listed_none : (cs : List CommandTree) (ss : List Statement) (n m k : ℕ) (d : Dialect)
    → IsProjection cs n → m ≡ n - 1 → ss ≡ statements_in cs → IsFirstTooLarge (take (m + 1) (places_of [] ss)) k d → AreListed cs n [] d
listed_none cs ss n m k d p is are large =
    let next : suc m ≡ n = let same = p.is_next in omega arith in
    too_large (λ small. small.terms k (subst (λ ps. IsFirstTooLarge ps k d) (front cs ss n m are next) large))

-- the items of numbered fields

abbrev pub numbered_item : List Typ → String Global × TyNo → Item
numbered_item ts f = field_item (string_bytes f.0) (type_of ts f.1)

pub numbered_items : (ts : List Typ) (fs : List (String Global × TyNo)) → map (numbered_item ts) fs ≡ field_items (fields_over ts fs)
numbered_items ts [] = refl
numbered_items ts (f ∷ fs) = ap (λ (is : List Item). numbered_item ts f ∷ is) (numbered_items ts fs)
