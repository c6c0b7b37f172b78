-- Terms and commands whose words are elsewhere, with the same letters: they take the same from outside, say the same without names, and bind the same;
-- and their written types and their terms stand where they stood, elsewhere.
use Rattle.std.proofs.Common.{◌≡◌, ℕ, List, [], ◌∷◌, ◌++◌, map, map-id, false, refl, ap, sym, ◌∙◌, Option, Some, None}
use Rattle.std.proofs.lemmas.List.{map-append}
use Rattle.lam_token.specs.declared.span.Span.{Span}
use Rattle.lam_token.specs.Edits.{span_placed}
use Rattle.lam_rules.specs.Terms as term
use Rattle.lam_syntax.specs.Respelled.{respelled_bound, respelled_term, respelled_node, respelled_fields, respelled_command}
use Rattle.lam_syntax.specs.Trees as tree
use Rattle.lam_syntax.specs.Trees.{word, Bound, bound, TermTree, term_tree, TermNode, FieldTrees, CommandTree, definition, declaration, evaluation, term_span}
use Rattle.lam_scope.specs.Names.{Name}
use Rattle.lam_scope.specs.Expansions.{Abbreviation, stands_for, expansion}
use Rattle.lam_scope.specs.FreeNames.{without, free_in, free_in_node, free_in_fields, free_in_command, free_type_names_in_command, free_type_names_in_types}
use Rattle.lam_scope.specs.Nameless.{prefixed, nameless, nameless_node, nameless_fields, statement, abbreviations_after, names_after, written_in, written_in_node, written_in_fields, written_in_command}
use Rattle.lam_scope.specs.Places.{defines, declares, abbreviates, states, written, of_term, Scope}
use Rattle.lam_scope.specs.PlacedTerms.{no_word, PlacedTree, placed, PlacedTrees, no_parts, part_first, one_part, two_parts, placed_at, term_of, letrec_function, placed_term, placed_parts, placed_fields, terms_in, terms_in_each, command_terms, scope_after}
use Rattle.lam_query.proofs.TypesAfter.{type_there, told_both, expansion_kept, names_of_types_kept}

-- ---- elsewhere, with the same letters

abbrev bound_there : (ℕ → ℕ) → Bound → Bound
bound_there place = respelled_bound place (λ kind text span. text)

abbrev term_there : (ℕ → ℕ) → TermTree → TermTree
term_there place = respelled_term place (λ kind text span. text)

abbrev node_there : (ℕ → ℕ) → TermNode → TermNode
node_there place = respelled_node place (λ kind text span. text)

abbrev fields_there : (ℕ → ℕ) → FieldTrees → FieldTrees
fields_there place = respelled_fields place (λ kind text span. text)

abbrev pub command_there : (ℕ → ℕ) → CommandTree → CommandTree
command_there place = respelled_command place (λ kind text span. text)

-- ---- terms by their spans alone

-- a term with its parts, of which a span is left
abbrev mutual
  shaped : (Span → Span) → PlacedTree → PlacedTree
  shaped f (placed t ps) = placed_at (f t.span) no_word false [] [] term.unit_term (shaped_parts f ps)

  shaped_parts : (Span → Span) → PlacedTrees → PlacedTrees
  shaped_parts f no_parts = no_parts
  shaped_parts f (part_first p ps) = part_first (shaped f p) (shaped_parts f ps)

-- the spans of terms
abbrev pub spans_of : List PlacedTree → List Span
spans_of = map (λ p. (term_of p).span)

mutual
  spans_shaped : (f : Span → Span) (p : PlacedTree) → spans_of (terms_in (shaped f p)) ≡ map f (spans_of (terms_in p))
  spans_shaped f (placed t ps) =
      map-append (λ p. (term_of p).span) (terms_in_each (shaped_parts f ps)) _
      ∙ ap (λ ss. ss ++ f t.span ∷ []) (parts_shaped f ps)
      ∙ sym (ap (map f) (map-append (λ p. (term_of p).span) (terms_in_each ps) (placed t ps ∷ [])) ∙ map-append f (spans_of (terms_in_each ps)) (t.span ∷ []))

  parts_shaped : (f : Span → Span) (ps : PlacedTrees) → spans_of (terms_in_each (shaped_parts f ps)) ≡ map f (spans_of (terms_in_each ps))
  parts_shaped f no_parts = refl
  parts_shaped f (part_first p ps) =
      map-append (λ q. (term_of q).span) (terms_in (shaped f p)) (terms_in_each (shaped_parts f ps))
      ∙ (λ i. spans_shaped f p i ++ parts_shaped f ps i)
      ∙ sym (ap (map f) (map-append (λ q. (term_of q).span) (terms_in p) (terms_in_each ps)) ∙ map-append f (spans_of (terms_in p)) (spans_of (terms_in_each ps)))

-- a letrec's fix, of which the span alone is left
abbrev shaped_fix : Span → PlacedTree → PlacedTree
shaped_fix q first =
    placed_at q no_word false [] [] term.unit_term (one_part (placed_at q no_word false [] [] term.unit_term (one_part first)))

module _ (place : ℕ → ℕ) where
  -- what binds a name has the same name
  binder_kept : (b : Option Name) (s : Span) → bound_there place (bound b s) ≡ bound b (span_placed place s)
  binder_kept None s = refl
  binder_kept (Some x) s = refl

  span_there : (t : TermTree) → term_span (term_there place t) ≡ span_placed place (term_span t)
  span_there (term_tree s n) = refl

  -- ---- written types

  mutual
    written_there : (t : TermTree) → written_in (term_there place t) ≡ map (type_there place) (written_in t)
    written_there (term_tree s n) = node_written n

    node_written : (n : TermNode) → written_in_node (node_there place n) ≡ map (type_there place) (written_in_node n)
    node_written tree.true_term = refl
    node_written tree.false_term = refl
    node_written tree.unit_term = refl
    node_written (tree.variable w) = refl
    node_written (tree.numeral w) = refl
    node_written (tree.lambda b u t) = ap (λ us. type_there place u ∷ us) (written_there t)
    node_written (tree.if_term c t u) =
        told_both (type_there place) (written_in c ++ written_in t) (written_in u) _ _
        (told_both (type_there place) (written_in c) (written_in t) _ _ (written_there c) (written_there t))
        (written_there u)
    node_written (tree.let_term b t u) = told_both (type_there place) (written_in t) (written_in u) _ _ (written_there t) (written_there u)
    node_written (tree.letrec_term b w t u) =
        ap (λ us. type_there place w ∷ us) (told_both (type_there place) (written_in t) (written_in u) _ _ (written_there t) (written_there u))
    node_written (tree.prefixed p t) = written_there t
    node_written (tree.apply t u) = told_both (type_there place) (written_in t) (written_in u) _ _ (written_there t) (written_there u)
    node_written (tree.project t l) = written_there t
    node_written (tree.ascribe t u) = told_both (type_there place) (written_in t) (u ∷ []) _ _ (written_there t) refl
    node_written (tree.record_term fs) = fields_written fs

    fields_written : (fs : FieldTrees) → written_in_fields (fields_there place fs) ≡ map (type_there place) (written_in_fields fs)
    fields_written tree.no_fields = refl
    fields_written (tree.field l t fs) = told_both (type_there place) (written_in t) (written_in_fields fs) _ _ (written_there t) (fields_written fs)

  pub command_written : (c : CommandTree) → written_in_command (command_there place c) ≡ map (type_there place) (written_in_command c)
  command_written (definition w t) = written_there t
  command_written (declaration w u) = refl
  command_written (tree.abbreviation w u) = refl
  command_written (evaluation t) = written_there t

  -- ---- what it takes from outside

  mutual
    free_kept : (t : TermTree) → free_in (term_there place t) ≡ free_in t
    free_kept (term_tree s n) = node_free n

    node_free : (n : TermNode) → free_in_node (node_there place n) ≡ free_in_node n
    node_free tree.true_term = refl
    node_free tree.false_term = refl
    node_free tree.unit_term = refl
    node_free (tree.variable (word x s)) = refl
    node_free (tree.numeral w) = refl
    node_free (tree.lambda (bound b s) u t) =
        ap (λ c. free_in_node (tree.lambda c (type_there place u) (term_there place t))) (binder_kept b s) ∙ ap (without b) (free_kept t)
    node_free (tree.if_term c t u) = λ i. free_kept c i ++ free_kept t i ++ free_kept u i
    node_free (tree.let_term (bound b s) t u) =
        ap (λ c. free_in_node (tree.let_term c (term_there place t) (term_there place u))) (binder_kept b s)
        ∙ (λ i. free_kept t i ++ without b (free_kept u i))
    node_free (tree.letrec_term (bound b s) w t u) =
        ap (λ c. free_in_node (tree.letrec_term c (type_there place w) (term_there place t) (term_there place u))) (binder_kept b s)
        ∙ (λ i. without b (free_kept t i ++ free_kept u i))
    node_free (tree.prefixed p t) = free_kept t
    node_free (tree.apply t u) = λ i. free_kept t i ++ free_kept u i
    node_free (tree.project t l) = free_kept t
    node_free (tree.ascribe t u) = free_kept t
    node_free (tree.record_term fs) = fields_free fs

    fields_free : (fs : FieldTrees) → free_in_fields (fields_there place fs) ≡ free_in_fields fs
    fields_free tree.no_fields = refl
    fields_free (tree.field l t fs) = λ i. free_kept t i ++ fields_free fs i

  pub command_free : (c : CommandTree) → free_in_command (command_there place c) ≡ free_in_command c
  command_free (definition w t) = free_kept t
  command_free (declaration w u) = refl
  command_free (tree.abbreviation w u) = refl
  command_free (evaluation t) = free_kept t

  pub command_type_names : (c : CommandTree) → free_type_names_in_command (command_there place c) ≡ free_type_names_in_command c
  command_type_names c = ap free_type_names_in_types (command_written c) ∙ names_of_types_kept place (written_in_command c)

  -- ---- what it says without names

  mutual
    nameless_kept : (bs : List Abbreviation) (xs : List (Option Name)) (t : TermTree) → nameless bs xs (term_there place t) ≡ nameless bs xs t
    nameless_kept bs xs (term_tree s n) = node_nameless bs xs n

    node_nameless : (bs : List Abbreviation) (xs : List (Option Name)) (n : TermNode) → nameless_node bs xs (node_there place n) ≡ nameless_node bs xs n
    node_nameless bs xs tree.true_term = refl
    node_nameless bs xs tree.false_term = refl
    node_nameless bs xs tree.unit_term = refl
    node_nameless bs xs (tree.variable (word x s)) = refl
    node_nameless bs xs (tree.numeral (word x s)) = refl
    node_nameless bs xs (tree.lambda (bound b s) u t) =
        ap (λ c. nameless_node bs xs (tree.lambda c (type_there place u) (term_there place t))) (binder_kept b s)
        ∙ (λ i. term.lambda (expansion_kept place bs u i) (nameless_kept bs (b ∷ xs) t i))
    node_nameless bs xs (tree.if_term c t u) =
        λ i. term.if_then_else (nameless_kept bs xs c i) (nameless_kept bs xs t i) (nameless_kept bs xs u i)
    node_nameless bs xs (tree.let_term (bound b s) t u) =
        ap (λ c. nameless_node bs xs (tree.let_term c (term_there place t) (term_there place u))) (binder_kept b s)
        ∙ (λ i. term.let_in (nameless_kept bs xs t i) (nameless_kept bs (b ∷ xs) u i))
    node_nameless bs xs (tree.letrec_term (bound b s) w t u) =
        ap (λ c. nameless_node bs xs (tree.letrec_term c (type_there place w) (term_there place t) (term_there place u))) (binder_kept b s)
        ∙ (λ i. term.letrec_in (expansion_kept place bs w i) (nameless_kept bs (b ∷ xs) t i) (nameless_kept bs (b ∷ xs) u i))
    node_nameless bs xs (tree.prefixed p t) = ap (prefixed p) (nameless_kept bs xs t)
    node_nameless bs xs (tree.apply t u) = λ i. term.apply (nameless_kept bs xs t i) (nameless_kept bs xs u i)
    node_nameless bs xs (tree.project t (word l s)) = λ i. term.project (nameless_kept bs xs t i) l
    node_nameless bs xs (tree.ascribe t u) = λ i. term.ascribe (nameless_kept bs xs t i) (expansion_kept place bs u i)
    node_nameless bs xs (tree.record_term fs) = ap term.record_term (fields_nameless bs xs fs)

    fields_nameless : (bs : List Abbreviation) (xs : List (Option Name)) (fs : FieldTrees)
        → nameless_fields bs xs (fields_there place fs) ≡ nameless_fields bs xs fs
    fields_nameless bs xs tree.no_fields = refl
    fields_nameless bs xs (tree.field (word l s) t fs) = λ i. term.term_field l (nameless_kept bs xs t i) (fields_nameless bs xs fs i)

  pub command_stated : (bs : List Abbreviation) (xs : List (Option Name)) (c : CommandTree) → statement bs xs (command_there place c) ≡ statement bs xs c
  command_stated bs xs (definition w t) = ap defines (nameless_kept bs xs t)
  command_stated bs xs (declaration w u) = ap declares (expansion_kept place bs u)
  command_stated bs xs (tree.abbreviation w u) = ap abbreviates (expansion_kept place bs u)
  command_stated bs xs (evaluation t) = ap states (nameless_kept bs xs t)

  -- ---- what it binds

  pub abbreviations_kept : (bs : List Abbreviation) (c : CommandTree) → abbreviations_after bs (command_there place c) ≡ abbreviations_after bs c
  abbreviations_kept bs (definition w t) = refl
  abbreviations_kept bs (declaration w u) = refl
  abbreviations_kept bs (tree.abbreviation (word x s) u) = ap (λ t. stands_for x t ∷ bs) (expansion_kept place bs u)
  abbreviations_kept bs (evaluation t) = refl

  pub names_kept : (xs : List (Option Name)) (c : CommandTree) → names_after xs (command_there place c) ≡ names_after xs c
  names_kept xs (definition (word x s) t) = refl
  names_kept xs (declaration (word x s) u) = refl
  names_kept xs (tree.abbreviation w u) = refl
  names_kept xs (evaluation t) = refl

  pub scope_kept : (bs : List Abbreviation) (xs : List (Option Name)) (s : Scope) (c : CommandTree)
      → scope_after bs xs s (command_there place c) ≡ scope_after bs xs s c
  scope_kept bs xs s (definition w t) = ap (λ e. of_term e ∷ s) (nameless_kept bs xs t)
  scope_kept bs xs s (declaration w u) = ap (λ t. written t ∷ s) (expansion_kept place bs u)
  scope_kept bs xs s (tree.abbreviation w u) = refl
  scope_kept bs xs s (evaluation t) = refl

  -- ---- where its terms are

  mutual
    term_shaped : (bs cs : List Abbreviation) (xs ys : List (Option Name)) (s r : Scope) (t : TermTree)
        → shaped (λ q. q) (placed_term bs xs s (term_there place t)) ≡ shaped (span_placed place) (placed_term cs ys r t)
    term_shaped bs cs xs ys s r (term_tree q n) =
        ap (placed_at (span_placed place q) no_word false [] [] term.unit_term) (node_shaped bs cs xs ys s r n)

    node_shaped : (bs cs : List Abbreviation) (xs ys : List (Option Name)) (s r : Scope) (n : TermNode)
        → shaped_parts (λ q. q) (placed_parts bs xs s (node_there place n)) ≡ shaped_parts (span_placed place) (placed_parts cs ys r n)
    node_shaped bs cs xs ys s r tree.true_term = refl
    node_shaped bs cs xs ys s r tree.false_term = refl
    node_shaped bs cs xs ys s r tree.unit_term = refl
    node_shaped bs cs xs ys s r (tree.variable w) = refl
    node_shaped bs cs xs ys s r (tree.numeral w) = refl
    node_shaped bs cs xs ys s r (tree.lambda (bound b q) u t) =
        ap (λ c. shaped_parts (λ p. p) (placed_parts bs xs s (tree.lambda c (type_there place u) (term_there place t)))) (binder_kept b q)
        ∙ ap one_part
        (term_shaped bs cs (b ∷ xs) (b ∷ ys) (written (expansion bs (type_there place u)) ∷ s) (written (expansion cs u) ∷ r) t)
    node_shaped bs cs xs ys s r (tree.if_term c t u) =
        let one = term_shaped bs cs xs ys s r c in
        let two = term_shaped bs cs xs ys s r t in
        let three = term_shaped bs cs xs ys s r u in
        λ i. part_first (one i) (two_parts (two i) (three i))
    node_shaped bs cs xs ys s r (tree.let_term (bound b q) t u) =
        let one = term_shaped bs cs xs ys s r t in
        let two = term_shaped bs cs (b ∷ xs) (b ∷ ys) (of_term (nameless bs xs (term_there place t)) ∷ s) (of_term (nameless cs ys t) ∷ r) u in
        ap (λ c. shaped_parts (λ p. p) (placed_parts bs xs s (tree.let_term c (term_there place t) (term_there place u)))) (binder_kept b q)
        ∙ (λ i. two_parts (one i) (two i))
    node_shaped bs cs xs ys s r (tree.letrec_term (bound b q) w t u) =
        let one = term_shaped bs cs (b ∷ xs) (b ∷ ys) (written (expansion bs (type_there place w)) ∷ s) (written (expansion cs w) ∷ r) t in
        let two = term_shaped bs cs (b ∷ xs) (b ∷ ys)
        (of_term (term.fix (letrec_function bs (type_there place w) (nameless bs (b ∷ xs) (term_there place t)))) ∷ s)
        (of_term (term.fix (letrec_function cs w (nameless cs (b ∷ ys) t))) ∷ r)
        u in
        ap (λ c. shaped_parts (λ p. p) (placed_parts bs xs s (tree.letrec_term c (type_there place w) (term_there place t) (term_there place u))))
        (binder_kept b q)
        ∙ (λ i. two_parts (shaped_fix (span_there t i) (one i)) (two i))
    node_shaped bs cs xs ys s r (tree.prefixed p t) = ap one_part (term_shaped bs cs xs ys s r t)
    node_shaped bs cs xs ys s r (tree.apply t u) =
        let one = term_shaped bs cs xs ys s r t in
        let two = term_shaped bs cs xs ys s r u in
        λ i. two_parts (one i) (two i)
    node_shaped bs cs xs ys s r (tree.project t (word l q)) = ap one_part (term_shaped bs cs xs ys s r t)
    node_shaped bs cs xs ys s r (tree.ascribe t u) = ap one_part (term_shaped bs cs xs ys s r t)
    node_shaped bs cs xs ys s r (tree.record_term fs) = fields_shaped bs cs xs ys s r fs

    fields_shaped : (bs cs : List Abbreviation) (xs ys : List (Option Name)) (s r : Scope) (fs : FieldTrees)
        → shaped_parts (λ q. q) (placed_fields bs xs s (fields_there place fs)) ≡ shaped_parts (span_placed place) (placed_fields cs ys r fs)
    fields_shaped bs cs xs ys s r tree.no_fields = refl
    fields_shaped bs cs xs ys s r (tree.field l t fs) =
        let one = term_shaped bs cs xs ys s r t in
        let others = fields_shaped bs cs xs ys s r fs in
        λ i. part_first (one i) (others i)

  term_spans : (bs : List Abbreviation) (xs : List (Option Name)) (s : Scope) (t : TermTree)
      → spans_of (terms_in (placed_term bs xs s (term_there place t))) ≡ map (span_placed place) (spans_of (terms_in (placed_term bs xs s t)))
  term_spans bs xs s t =
      sym (map-id _)
      ∙ sym (spans_shaped (λ q. q) (placed_term bs xs s (term_there place t)))
      ∙ ap (λ p. spans_of (terms_in p)) (term_shaped bs bs xs xs s s t)
      ∙ spans_shaped (span_placed place) (placed_term bs xs s t)

  -- the spans of the terms of a command, in their order
  pub command_spans : (bs : List Abbreviation) (xs : List (Option Name)) (s : Scope) (c : CommandTree)
      → spans_of (command_terms bs xs s (command_there place c)) ≡ map (span_placed place) (spans_of (command_terms bs xs s c))
  command_spans bs xs s (definition w t) = term_spans bs xs s t
  command_spans bs xs s (declaration w u) = refl
  command_spans bs xs s (tree.abbreviation w u) = refl
  command_spans bs xs s (evaluation t) = term_spans bs xs s t
