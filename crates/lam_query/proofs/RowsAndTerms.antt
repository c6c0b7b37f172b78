-- What the rows of a document's table say of its terms.
use Rattle.std.proofs.Common.{◌≡◌, ◌⊎◌, ℕ, zero, suc, ◌+◌, List, [], ◌∷◌, length, get_or, map, reverse, Bool, true, false, cond, not, Option, Some, None, refl, sym, ap, ◌∙◌, inl, inr}
use Rattle.std.specs.List.{find, position, position_or_len, slice_get}
use Rattle.std.proofs.Math.Dec.{ltb}
use Rattle.std.proofs.lemmas.Bool.{ltb-false}
use Rattle.std.proofs.lemmas.Option.{slice_get_past, slice_get-get_or}
use Rattle.std.proofs.lemmas.List.Folds.{find_at}
use Rattle.std.proofs.lemmas.List.Quantifiers.{position-Some}
use Rattle.std.proofs.lemmas.Simd.{map-map}
use Rattle.lam_rules.specs.Typing.{TypingTree, typing_step, TypingTrees, no_typings, typing_first}
use Rattle.lam_rules.specs.declared.rules.TypeRule.{TypeRule}
use Rattle.lam_token.specs.declared.span.Span.{Span}
use Rattle.lam_syntax.specs.Trees.{CommandTree}
use Rattle.lam_scope.specs.Names.{shown_name}
use Rattle.lam_scope.specs.Places.{place_numbered}
use Rattle.lam_scope.specs.Tables.{TextPlace, Table, table, is_over, place_at, place_row_numbered, binder_numbered, seen_in, visible_at}
use Rattle.lam_scope.specs.PlacedTerms.{PlacedTree, PlacedTrees, no_parts, one_part, term_of, document_terms, tree_in, trees_in}
use Rattle.lam_scope.specs.PlacedRows.{IsRowOf}
use Rattle.lam_scope.proofs.BinderRows.{Along}
use Rattle.lam_scope.proofs.PlacedRows.{row_told, as_many_rows, document_rows}
use Rattle.lam_scope.proofs.PlacedPlaces.{same_places}
use Rattle.lam_scope.proofs.Reading.{map-reverse}
use Rattle.lam_query.specs.Sizes.{places_in, span_numbered}
use Rattle.lam_query.specs.WellTypedDocuments.{statements_in}
use Rattle.lam_query.specs.Hovers.{has_byte, innermost_at}
use Rattle.lam_query.specs.Derivations.{names_seen}
use Rattle.lam_query.specs.Steps.{proof_first, concludes, typing, with_side, premise_terms, typing_proof, typing_proofs}
use Rattle.lam_query.specs.inner.RowSteps.{premise_places, row_proof, row_proofs}

-- spans and places

pub span_told : (cs : List CommandTree) (n : ℕ) → (place_row_numbered (table cs) n).span ≡ span_numbered cs n
span_told cs n = (row_told cs n).span

pub get_or-told : {A B : Type 0} (f : A → B) (xs : List A) (n : ℕ) (d : A) → get_or (map f xs) n (f d) ≡ f (get_or xs n d)
get_or-told f [] n d = refl
get_or-told f (x ∷ xs) zero d = refl
get_or-told f (x ∷ xs) (suc n) d = get_or-told f xs n d

pub place_told : (cs : List CommandTree) (n : ℕ) → get_or (places_in cs) n (term_of (tree_in [] 0)).place ≡ (term_of (tree_in (document_terms cs) n)).place
place_told cs n = get_or-told (λ t. (term_of t).place) (document_terms cs) n (tree_in [] 0)

pub number_told : (cs : List CommandTree) (n : ℕ) → place_numbered (statements_in cs) n ≡ (term_of (tree_in (document_terms cs) n)).place
number_told cs n = ap (λ ps. get_or ps n (term_of (tree_in [] 0)).place) (same_places cs) ∙ place_told cs n

-- names

pub names_told : (cs : List CommandTree) (n : ℕ) → map (λ b. shown_name (binder_numbered (table cs) b).name) (visible_at (table cs) n) ≡ names_seen (tree_in (document_terms cs) n)
names_told cs n =
    let t = table cs in
    let seen = seen_in t.binders (length t.binders) (place_row_numbered t n).inner in
    sym (map-map shown_name (λ b. (binder_numbered t b).name) (reverse seen))
    ∙ ap (map shown_name) (map-reverse (λ b. (binder_numbered t b).name) seen ∙ ap reverse (row_told cs n).names)

-- the innermost term

by_choice : (b w : Bool) (x : Bool) → b ≡ not w → (cond b false x) ≡ (cond w x false)
by_choice b true x e = rw e refl
by_choice b false x e = rw e refl

pub same_byte : (t : Table) (all : List PlacedTree) (o : ℕ) (p : TextPlace) (own : PlacedTree) → IsRowOf t all p own → is_over o p ≡ has_byte o (term_of own)
same_byte t all o p own h =
    let there : Span → Bool = λ s. cond (ltb o s.start) false (ltb o s.end) in
    by_choice p.derived (term_of own).is_written (there p.span) h.derived ∙ ap (λ s. cond (term_of own).is_written (there s) false) h.span

same_first : (t : Table) (all : List PlacedTree) (o : ℕ) (ps : List TextPlace) (ts : List PlacedTree) → Along (IsRowOf t all) ps ts
    → position_or_len (is_over o) ps ≡ position_or_len (λ own. has_byte o (term_of own)) ts
same_first t all o [] [] h = refl
same_first t all o (p ∷ ps) (own ∷ ts) h =
    let here = same_byte t all o p own h.0 in
    let rest = same_first t all o ps ts h.1 in
    λ i. cond (not (here i)) (1 + rest i) 0
same_first t all o [] (own ∷ ts) h = absurd h
same_first t all o (p ∷ ps) [] h = absurd h

pub row_at : (cs : List CommandTree) (o : ℕ) → place_at (table cs) o ≡ position (λ t. has_byte o (term_of t)) (document_terms cs)
row_at cs o =
    let first = same_first (table cs) (document_terms cs) o (table cs).places (document_terms cs) (document_rows cs) in
    let size = as_many_rows cs in
    λ i. cond (ltb (first i) (size i)) (Some (first i)) None

first_is : (b : Bool) (m n : ℕ) → cond b (Some m) None ≡ Some n → m ≡ n
first_is true m n e = cc
first_is false m n e = absurd cc

first_is_none : (b : Bool) (m : ℕ) → cond b (Some m) None ≡ None → b ≡ false
first_is_none true m e = absurd cc
first_is_none false m e = refl

pub found_at : {A : Type 0} (f : A → Bool) (xs : List A) (n : ℕ) (d : A) → position f xs ≡ Some n → find f xs ≡ Some (get_or xs n d)
found_at f xs n d at =
    let within = (position-Some f xs n d at).0 in
    find_at f xs
    ∙ ap (slice_get xs) (first_is (ltb (position_or_len f xs) (length xs)) (position_or_len f xs) n at)
    ∙ slice_get-get_or xs n d within

pub found_nowhere : {A : Type 0} (f : A → Bool) (xs : List A) → position f xs ≡ None → find f xs ≡ None
found_nowhere f xs at =
    find_at f xs ∙ slice_get_past xs (position_or_len f xs) (ltb-false (position_or_len f xs) (length xs) (first_is_none (ltb (position_or_len f xs) (length xs)) (position_or_len f xs) at))

pub innermost_row : (cs : List CommandTree) (o n : ℕ) → place_at (table cs) o ≡ Some n → innermost_at o (document_terms cs) ≡ Some (tree_in (document_terms cs) n)
innermost_row cs o n at = found_at (λ t. has_byte o (term_of t)) (document_terms cs) n (tree_in [] 0) (sym (row_at cs o) ∙ at)

pub innermost_nowhere : (cs : List CommandTree) (o : ℕ) → place_at (table cs) o ≡ None → innermost_at o (document_terms cs) ≡ None
innermost_nowhere cs o at = found_nowhere (λ t. has_byte o (term_of t)) (document_terms cs) (sym (row_at cs o) ∙ at)

-- the number of the innermost term
pub innermost_number : (cs : List CommandTree) (o : ℕ) (term : PlacedTree) → innermost_at o (document_terms cs) ≡ Some term → (n : ℕ) × (place_at (table cs) o ≡ Some n) × (tree_in (document_terms cs) n ≡ term)
innermost_number cs o term found = by (place_at (table cs) o) refl
  where
    by : (p : Option ℕ) → place_at (table cs) o ≡ p → (n : ℕ) × (place_at (table cs) o ≡ Some n) × (tree_in (document_terms cs) n ≡ term)
    by None at = let clash : None ≡ Some term = sym (innermost_nowhere cs o at) ∙ found in absurd cc
    by (Some n) at = let same : Some (tree_in (document_terms cs) n) ≡ Some term = sym (innermost_row cs o n at) ∙ found in (n, at, cc)

-- proofs as trees of conclusions

-- places, and the terms that premises are about: those of these places, or one term by itself
abbrev AreAbout : List CommandTree → (own : PlacedTree) → List ℕ → PlacedTrees → Type 0
AreAbout cs own places parts = (trees_in (document_terms cs) places ≡ parts) ⊎ ((places ≡ []) × (parts ≡ one_part own))

premises_told : (cs : List CommandTree) (n : ℕ) (rule : TypeRule)
    → AreAbout cs (tree_in (document_terms cs) n) (premise_places (table cs) n rule) (premise_terms rule (tree_in (document_terms cs) n))
premises_told cs n TypeRule.Sub = inr (refl, refl)
premises_told cs n _ = inl (row_told cs n).parts

mutual
  pub same_proof : (cs : List CommandTree) (n : ℕ) (tree : TypingTree) → row_proof (table cs) n tree ≡ typing_proof (tree_in (document_terms cs) n) tree
  same_proof cs n (typing_step rule type premises side) =
      let own = tree_in (document_terms cs) n in
      let parts = same_proofs cs n (premise_places (table cs) n rule) (premise_terms rule own) premises (premises_told cs n rule) in
      λ i. concludes (typing rule (span_told cs n i) type) (with_side (parts i) side)

  same_proofs : (cs : List CommandTree) (n : ℕ) (places : List ℕ) (parts : PlacedTrees) (ps : TypingTrees) → AreAbout cs (tree_in (document_terms cs) n) places parts
      → row_proofs (table cs) n places ps ≡ typing_proofs (tree_in (document_terms cs) n) parts ps
  same_proofs cs n places parts no_typings e = refl
  same_proofs cs n [] parts (typing_first p ps) (inl e) =
      let own = tree_in (document_terms cs) n in
      let rest = same_proofs cs n [] no_parts ps (inl refl) in
      (λ i. proof_first (same_proof cs n p i) (rest i)) ∙ ap (λ qs. typing_proofs own qs (typing_first p ps)) e
  same_proofs cs n (m ∷ places) parts (typing_first p ps) (inl e) =
      let own = tree_in (document_terms cs) n in
      let rest = same_proofs cs n places (trees_in (document_terms cs) places) ps (inl refl) in
      (λ i. proof_first (same_proof cs m p i) (rest i)) ∙ ap (λ qs. typing_proofs own qs (typing_first p ps)) e
  same_proofs cs n places parts (typing_first p ps) (inr (e, f)) =
      let own = tree_in (document_terms cs) n in
      let rest = same_proofs cs n [] no_parts ps (inl refl) in
      ap (λ ks. row_proofs (table cs) n ks (typing_first p ps)) e
      ∙ (λ i. proof_first (same_proof cs n p i) (rest i))
      ∙ ap (λ qs. typing_proofs own qs (typing_first p ps)) (sym f)
