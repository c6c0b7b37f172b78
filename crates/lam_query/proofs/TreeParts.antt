-- The parts of a term of a document are the immediate terms of its nameless form, and the row of its place has their numbers.
use Rattle.std.proofs.Common.{◌≡◌, ◌⊎◌, inl, inr, ℕ, zero, suc, ◌<◌, ◌≤◌, true, false, List, [], ◌∷◌, length, map, Option, Some, None, refl, ap, sym, subst, ◌∙◌}
use Rattle.std.specs.List.{AllByRecursion}
use Rattle.std.proofs.lemmas.Bool.{cases_lt}
use Rattle.std.proofs.lemmas.List.{get_or_past}
use Rattle.lam_rules.specs.Terms.{Term, if_then_else, succ, pred, is_zero, lambda, apply, ascribe, let_in, record_term, project, fix, TermFields, no_terms, term_field}
use Rattle.lam_syntax.specs.declared.terms.Prefix.{Prefix}
use Rattle.lam_syntax.specs.declared.terms.Prefix.TheVariants as prefix
use Rattle.lam_syntax.specs.Trees as tree
use Rattle.lam_syntax.specs.Trees.{word, bound, TermTree, term_tree, TermNode, CommandTree, definition, declaration, evaluation, term_span}
use Rattle.lam_scope.specs.Names.{Name, index_of}
use Rattle.lam_scope.specs.Expansions.{Abbreviation, expansion}
use Rattle.lam_scope.specs.Labels.{place_in}
use Rattle.lam_scope.specs.Nameless.{use_indexed, prefixed, nameless, nameless_node, nameless_fields, abbreviations_after, names_after}
use Rattle.lam_scope.specs.Places.{Scope, written, of_term, Place}
use Rattle.lam_scope.specs.PlacedTerms.{no_word, PlacedTree, placed, term_of, parts_of, PlacedTrees, no_parts, part_first, one_part, two_parts, placed_at, letrec_function, placed_term, placed_parts, placed_fields, terms_in, terms_in_each, command_terms, scope_after, commands_terms, document_terms, tree_in, trees_in}
use Rattle.lam_scope.specs.Tables.{table, place_row_numbered}
use Rattle.lam_scope.proofs.EveryElement.{every_append}
use Rattle.lam_scope.proofs.PlacedRows.{row_told}

-- ---- the immediate terms of a term, with what they see

abbrev pub there : Scope → Term → Place
there s e = record { scope = s; here = e }

-- those of a record
abbrev pub field_parts : Scope → TermFields → List Place
field_parts s no_terms = []
field_parts s (term_field l e es) = there s e ∷ field_parts s es

abbrev pub part_places : Scope → Term → List Place
part_places s (if_then_else c a b) = there s c ∷ there s a ∷ there s b ∷ []
part_places s (succ e) = there s e ∷ []
part_places s (pred e) = there s e ∷ []
part_places s (is_zero e) = there s e ∷ []
part_places s (lambda w e) = there (written w ∷ s) e ∷ []
part_places s (apply f a) = there s f ∷ there s a ∷ []
part_places s (ascribe e w) = there s e ∷ []
part_places s (let_in a b) = there s a ∷ there (of_term a ∷ s) b ∷ []
part_places s (record_term es) = field_parts s es
part_places s (project e l) = there s e ∷ []
part_places s (fix e) = there s e ∷ []
part_places s _ = []

-- the places of trees
abbrev places_of_trees : PlacedTrees → List Place
places_of_trees no_parts = []
places_of_trees (part_first p ps) = (term_of p).place ∷ places_of_trees ps

-- a tree has parts
abbrev HasPart : PlacedTrees → Type 0
HasPart no_parts = ⊥
HasPart (part_first p ps) = Unit {0}

-- it stands somewhere in a text: what is not written has parts
abbrev IsReal : PlacedTree → Type 0
IsReal p = ((term_of p).is_written ≡ true) ⊎ HasPart (parts_of p)

abbrev AreReal : PlacedTrees → Type 0
AreReal no_parts = Unit {0}
AreReal (part_first p ps) = IsReal p × AreReal ps

-- its parts are the immediate terms of its nameless form
record IsToldByParts (p : PlacedTree) : Type 0 where
  places : places_of_trees (parts_of p) ≡ part_places (term_of p).place.scope (term_of p).place.here
  real : AreReal (parts_of p)

abbrev AllTold : List PlacedTree → Type 0
AllTold = AllByRecursion IsToldByParts

-- ---- so it is with each term of a document

place_is : (bs : List Abbreviation) (xs : List (Option Name)) (s : Scope) (t : TermTree) → (term_of (placed_term bs xs s t)).place ≡ there s (nameless bs xs t)
place_is bs xs s (term_tree r n) = refl

real_is : (bs : List Abbreviation) (xs : List (Option Name)) (s : Scope) (t : TermTree) → IsReal (placed_term bs xs s t)
real_is bs xs s (term_tree r n) = inl refl

use_parts : (s : Scope) (x : Name) (k : Option ℕ) → [] ≡ part_places s (use_indexed x k)
use_parts s x None = refl
use_parts s x (Some n) = refl

prefixed_parts : (s : Scope) (p : Prefix) (e : Term) → there s e ∷ [] ≡ part_places s (prefixed p e)
prefixed_parts s prefix.Fix e = refl
prefixed_parts s prefix.Succ e = refl
prefixed_parts s prefix.Pred e = refl
prefixed_parts s prefix.IsZero e = refl

module _ (bs : List Abbreviation) where
  fields_are : (xs : List (Option Name)) (s : Scope) (fs : tree.FieldTrees) → places_of_trees (placed_fields bs xs s fs) ≡ field_parts s (nameless_fields bs xs fs)
  fields_are xs s tree.no_fields = refl
  fields_are xs s (tree.field (word l q) t fs) =
      let first = place_is bs xs s t in
      let rest = fields_are xs s fs in
      λ i. first i ∷ rest i

  parts_are : (xs : List (Option Name)) (s : Scope) (n : TermNode) → places_of_trees (placed_parts bs xs s n) ≡ part_places s (nameless_node bs xs n)
  parts_are xs s tree.true_term = refl
  parts_are xs s tree.false_term = refl
  parts_are xs s tree.unit_term = refl
  parts_are xs s (tree.variable (word x q)) = use_parts s x (index_of x xs)
  parts_are xs s (tree.numeral (word x q)) = refl
  parts_are xs s (tree.lambda (bound b q) u t) = ap (λ (p : Place). p ∷ []) (place_is bs (b ∷ xs) (written (expansion bs u) ∷ s) t)
  parts_are xs s (tree.if_term c t u) =
      let one = place_is bs xs s c in
      let two = place_is bs xs s t in
      let three = place_is bs xs s u in
      λ i. one i ∷ two i ∷ three i ∷ []
  parts_are xs s (tree.let_term (bound b q) t u) =
      let one = place_is bs xs s t in
      let two = place_is bs (b ∷ xs) (of_term (nameless bs xs t) ∷ s) u in
      λ i. one i ∷ two i ∷ []
  parts_are xs s (tree.letrec_term (bound b q) w t u) =
      let function = fix (letrec_function bs w (nameless bs (b ∷ xs) t)) in
      ap (λ (p : Place). there s function ∷ p ∷ []) (place_is bs (b ∷ xs) (of_term function ∷ s) u)
  parts_are xs s (tree.prefixed p t) = ap (λ (p : Place). p ∷ []) (place_is bs xs s t) ∙ prefixed_parts s p (nameless bs xs t)
  parts_are xs s (tree.apply t u) =
      let one = place_is bs xs s t in
      let two = place_is bs xs s u in
      λ i. one i ∷ two i ∷ []
  parts_are xs s (tree.project t (word l q)) = ap (λ (p : Place). p ∷ []) (place_is bs xs s t)
  parts_are xs s (tree.ascribe t u) = ap (λ (p : Place). p ∷ []) (place_is bs xs s t)
  parts_are xs s (tree.record_term fs) = fields_are xs s fs

  fields_real : (xs : List (Option Name)) (s : Scope) (fs : tree.FieldTrees) → AreReal (placed_fields bs xs s fs)
  fields_real xs s tree.no_fields = tt
  fields_real xs s (tree.field l t fs) = (real_is bs xs s t, fields_real xs s fs)

  parts_real : (xs : List (Option Name)) (s : Scope) (n : TermNode) → AreReal (placed_parts bs xs s n)
  parts_real xs s tree.true_term = tt
  parts_real xs s tree.false_term = tt
  parts_real xs s tree.unit_term = tt
  parts_real xs s (tree.variable w) = tt
  parts_real xs s (tree.numeral w) = tt
  parts_real xs s (tree.lambda (bound b q) u t) = (real_is bs (b ∷ xs) (written (expansion bs u) ∷ s) t, tt)
  parts_real xs s (tree.if_term c t u) = (real_is bs xs s c, (real_is bs xs s t, (real_is bs xs s u, tt)))
  parts_real xs s (tree.let_term (bound b q) t u) = (real_is bs xs s t, (real_is bs (b ∷ xs) (of_term (nameless bs xs t) ∷ s) u, tt))
  parts_real xs s (tree.letrec_term (bound b q) w t u) =
      (inr tt, (real_is bs (b ∷ xs) (of_term (fix (letrec_function bs w (nameless bs (b ∷ xs) t))) ∷ s) u, tt))
  parts_real xs s (tree.prefixed p t) = (real_is bs xs s t, tt)
  parts_real xs s (tree.apply t u) = (real_is bs xs s t, (real_is bs xs s u, tt))
  parts_real xs s (tree.project t l) = (real_is bs xs s t, tt)
  parts_real xs s (tree.ascribe t u) = (real_is bs xs s t, tt)
  parts_real xs s (tree.record_term fs) = fields_real xs s fs

  -- the terms in a tree: those in its parts, and itself
  told_in : (p : PlacedTree) → AllTold (terms_in_each (parts_of p)) → IsToldByParts p → AllTold (terms_in p)
  told_in (placed t ps) parts own = every_append IsToldByParts (terms_in_each ps) (placed t ps ∷ []) parts (own, tt)

  told_first : (p : PlacedTree) (ps : PlacedTrees) → AllTold (terms_in p) → AllTold (terms_in_each ps) → AllTold (terms_in_each (part_first p ps))
  told_first p ps first rest = every_append IsToldByParts (terms_in p) (terms_in_each ps) first rest

  told_one : (p : PlacedTree) → AllTold (terms_in p) → AllTold (terms_in_each (one_part p))
  told_one p first = told_first p no_parts first tt

  mutual
    term_told : (xs : List (Option Name)) (s : Scope) (t : TermTree) → AllTold (terms_in (placed_term bs xs s t))
    term_told xs s (term_tree r n) =
        told_in (placed_term bs xs s (term_tree r n)) (parts_told xs s n) (record { places = parts_are xs s n; real = parts_real xs s n })

    parts_told : (xs : List (Option Name)) (s : Scope) (n : TermNode) → AllTold (terms_in_each (placed_parts bs xs s n))
    parts_told xs s tree.true_term = tt
    parts_told xs s tree.false_term = tt
    parts_told xs s tree.unit_term = tt
    parts_told xs s (tree.variable w) = tt
    parts_told xs s (tree.numeral w) = tt
    parts_told xs s (tree.lambda (bound b q) u t) =
        let inner = written (expansion bs u) ∷ s in
        told_one (placed_term bs (b ∷ xs) inner t) (term_told (b ∷ xs) inner t)
    parts_told xs s (tree.if_term c t u) =
        told_first (placed_term bs xs s c) (two_parts (placed_term bs xs s t) (placed_term bs xs s u)) (term_told xs s c)
        (told_first (placed_term bs xs s t) (one_part (placed_term bs xs s u)) (term_told xs s t) (told_one (placed_term bs xs s u) (term_told xs s u)))
    parts_told xs s (tree.let_term (bound b q) t u) =
        let inner = of_term (nameless bs xs t) ∷ s in
        told_first (placed_term bs xs s t) (one_part (placed_term bs (b ∷ xs) inner u)) (term_told xs s t)
        (told_one (placed_term bs (b ∷ xs) inner u) (term_told (b ∷ xs) inner u))
    parts_told xs s (tree.letrec_term (bound b q) w t u) =
        let e = nameless bs (b ∷ xs) t in
        let function = letrec_function bs w e in
        let inner = written (expansion bs w) ∷ s in
        let scope = of_term (fix function) ∷ s in
        let first = placed_term bs (b ∷ xs) inner t in
        let made = placed_at (term_span t) no_word false xs s function (one_part first) in
        let fixed = placed_at (term_span t) no_word false xs s (fix function) (one_part made) in
        let last = placed_term bs (b ∷ xs) scope u in
        let in_made : AllTold (terms_in made) =
        told_in made (told_one first (term_told (b ∷ xs) inner t))
        (record { places = ap (λ (p : Place). p ∷ []) (place_is bs (b ∷ xs) inner t); real = (real_is bs (b ∷ xs) inner t, tt) }) in
        let in_fixed : AllTold (terms_in fixed) = told_in fixed (told_one made in_made) (record { places = refl; real = (inr tt, tt) }) in
        told_first fixed (one_part last) in_fixed (told_one last (term_told (b ∷ xs) scope u))
    parts_told xs s (tree.prefixed p t) = told_one (placed_term bs xs s t) (term_told xs s t)
    parts_told xs s (tree.apply t u) =
        told_first (placed_term bs xs s t) (one_part (placed_term bs xs s u)) (term_told xs s t) (told_one (placed_term bs xs s u) (term_told xs s u))
    parts_told xs s (tree.project t l) = told_one (placed_term bs xs s t) (term_told xs s t)
    parts_told xs s (tree.ascribe t u) = told_one (placed_term bs xs s t) (term_told xs s t)
    parts_told xs s (tree.record_term fs) = fields_told xs s fs

    fields_told : (xs : List (Option Name)) (s : Scope) (fs : tree.FieldTrees) → AllTold (terms_in_each (placed_fields bs xs s fs))
    fields_told xs s tree.no_fields = tt
    fields_told xs s (tree.field l t fs) = told_first (placed_term bs xs s t) (placed_fields bs xs s fs) (term_told xs s t) (fields_told xs s fs)

  command_told : (xs : List (Option Name)) (s : Scope) (c : CommandTree) → AllTold (command_terms bs xs s c)
  command_told xs s (definition w t) = term_told xs s t
  command_told xs s (declaration w u) = tt
  command_told xs s (tree.abbreviation w u) = tt
  command_told xs s (evaluation t) = term_told xs s t

commands_told : (bs : List Abbreviation) (xs : List (Option Name)) (s : Scope) (cs : List CommandTree) → AllTold (commands_terms bs xs s cs)
commands_told bs xs s [] = tt
commands_told bs xs s (c ∷ cs) =
    every_append IsToldByParts (command_terms bs xs s c) (commands_terms (abbreviations_after bs c) (names_after xs c) (scope_after bs xs s c) cs)
    (command_told bs xs s c) (commands_told (abbreviations_after bs c) (names_after xs c) (scope_after bs xs s c) cs)

told_numbered : (ts : List PlacedTree) (n : ℕ) → AllTold ts → IsToldByParts (tree_in ts n)
told_numbered [] n all = record { places = refl; real = tt }
told_numbered (t ∷ ts) zero all = all.0
told_numbered (t ∷ ts) (suc n) all = told_numbered ts n all.1

-- ---- the numbers in a row

listed_places : (ts : List PlacedTree) (ns : List ℕ) → map (λ m. (term_of (tree_in ts m)).place) ns ≡ places_of_trees (trees_in ts ns)
listed_places ts [] = refl
listed_places ts (n ∷ ns) = ap (λ ps. (term_of (tree_in ts n)).place ∷ ps) (listed_places ts ns)

-- what stands nowhere is no part
real_inside : (ts : List PlacedTree) (n : ℕ) → IsReal (tree_in ts n) → n < length ts
real_inside ts n real = by (cases_lt n (length ts))
  where
    nowhere : (p : PlacedTree) → p ≡ tree_in [] 0 → IsReal p → ⊥
    nowhere p is (inl shown) = let clash : false ≡ true = sym (ap (λ q. (term_of q).is_written) is) ∙ shown in cc
    nowhere p is (inr has) = subst (λ q. HasPart (parts_of q)) is has

    by : (n < length ts) ⊎ (length ts ≤ n) → n < length ts
    by (inl lt) = lt
    by (inr le) = absurd (nowhere (tree_in ts n) (get_or_past ts n (tree_in [] 0) le) real)

all_inside : (ts : List PlacedTree) (ns : List ℕ) → AreReal (trees_in ts ns) → AllByRecursion (λ m. m < length ts) ns
all_inside ts [] real = tt
all_inside ts (n ∷ ns) real = (real_inside ts n real.0, all_inside ts ns real.1)

module _ (cs : List CommandTree) (n : ℕ) where
  abbrev Numbers : List ℕ
  Numbers = (place_row_numbered (table cs) n).terms

  told : IsToldByParts (tree_in (document_terms cs) n)
  told = told_numbered (document_terms cs) n (commands_told [] [] [] cs)

  -- the terms of a place are its immediate terms
  pub parts_in_row : map (place_in cs) Numbers ≡ part_places (place_in cs n).scope (place_in cs n).here
  parts_in_row = listed_places (document_terms cs) Numbers ∙ ap places_of_trees (row_told cs n).parts ∙ told.places

  -- and terms of the document
  pub inside_row : AllByRecursion (λ m. m < length (document_terms cs)) Numbers
  inside_row = all_inside (document_terms cs) Numbers (subst AreReal (sym (row_told cs n).parts) told.real)
