-- How the index of a term is found by the term's own word.
use Rattle.std.proofs.Common.{◌≡◌, ℕ, ◌+◌, ◌-◌, ◌≤◌, Bool, true, false, cond, List, [], ◌∷◌, ◌++◌, length, map, append_assoc, Option, Some, position, refl, ap, sym, ◌∙◌, arith}
use Rattle.std.specs.List.{position_from}
use Rattle.std.proofs.lemmas.Iterator.Adapters.{position_from-zero}
use Rattle.std.proofs.lemmas.List.{append-nil, map-append, length-map, drop_all}
use Rattle.lam_rules.specs.Terms.{Term, fix}
use Rattle.lam_token.specs.declared.span.Span.{Span}
use Rattle.lam_syntax.specs.Trees as tree
use Rattle.lam_syntax.specs.Trees.{word, bound, TypeTree, TermTree, term_tree, TermNode, CommandTree, definition, declaration, evaluation, term_span}
use Rattle.lam_syntax.proofs.Shapes.{term_shapes}
use Rattle.lam_scope.specs.declared.own_words.Reached.{Reached}
use Rattle.lam_scope.specs.declared.own_words.Reached.TheVariants.{Here, Behind}
use Rattle.lam_scope.specs.declared.own_words.Target.{Target}
use Rattle.lam_scope.specs.declared.own_words.Target.TheVariants as target
use Rattle.lam_scope.specs.Expansions.{Abbreviation, expansion}
use Rattle.lam_scope.specs.Names.{Name}
use Rattle.lam_scope.specs.Nameless.{nameless, abbreviations_after, names_after}
use Rattle.lam_scope.specs.Places.{written, of_term, Scope}
use Rattle.lam_scope.specs.PlacedTerms as placed
use Rattle.lam_scope.specs.PlacedTerms.{OwnWord, no_word, own_word, PlacedTree, PlacedTrees, no_parts, part_first, one_part, two_parts, placed_at, letrec_function, letrec_fix, placed_term, placed_parts, placed_fields, terms_in, terms_in_each, command_terms, commands_terms, document_terms, scope_after}
use Rattle.lam_scope.specs.inner.OwnWords.{words_in, words_below, words_in_fields, command_words, commands_words, is_target, at_word, seek_on, number_of}
use Rattle.lam_scope.proofs.Resolving.{commands-drop}
use Rattle.lam_scope.proofs.Walks.{fields_of-drop}

-- the search goes through words

pub seek_on-append : (t : Target) (r : Reached) (ws vs : List OwnWord) → seek_on t r (ws ++ vs) ≡ seek_on t (seek_on t r ws) vs
seek_on-append t r [] vs = refl
seek_on-append t r (w ∷ ws) vs = seek_on-append t (at_word r (is_target t w)) ws vs

pub found_on : (t : Target) (n : ℕ) (ws : List OwnWord) → seek_on t (Here n) ws ≡ Here n
found_on t n [] = refl
found_on t n (w ∷ ws) = found_on t n ws

pub not_target : (t : Target) → is_target t no_word ≡ false
not_target (target.Variable o) = refl
not_target (target.Projection o) = refl

pub ruleset seeking = (term_shapes, seek_on-append, found_on, not_target, commands-drop, fields_of-drop, drop_all)

-- the own words of the terms in a tree

abbrev own : PlacedTree → OwnWord
own t = (placed.term_of t).own

one_worded : (p : PlacedTree) (ws : List OwnWord) → map own (terms_in p) ≡ ws → map own (terms_in_each (one_part p)) ≡ ws
one_worded p ws e = ap (map own) (append-nil (terms_in p)) ∙ e

more_worded : (p : PlacedTree) (ps : PlacedTrees) (ws vs : List OwnWord) → map own (terms_in p) ≡ ws → map own (terms_in_each ps) ≡ vs → map own (terms_in_each (part_first p ps)) ≡ ws ++ vs
more_worded p ps ws vs e f = map-append own (terms_in p) (terms_in_each ps) ∙ (λ i. e i ++ f i)

two_worded : (p q : PlacedTree) (ws vs : List OwnWord) → map own (terms_in p) ≡ ws → map own (terms_in q) ≡ vs → map own (terms_in_each (two_parts p q)) ≡ ws ++ vs
two_worded p q ws vs e f = more_worded p (one_part q) ws vs e (one_worded q vs f)

own_worded : (t : PlacedTree) (ps : PlacedTrees) (ws : List OwnWord) → map own (terms_in_each ps) ≡ ws → map own (terms_in_each ps ++ t ∷ []) ≡ ws ++ own t ∷ []
own_worded t ps ws e = map-append own (terms_in_each ps) (t ∷ []) ∙ ap (λ vs. vs ++ own t ∷ []) e

letrec_worded : (bs : List Abbreviation) (xs : List (Option Name)) (s : Scope) (w : TypeTree) (r : Span) (e : Term) (first : PlacedTree) (ws : List OwnWord)
    → map own (terms_in first) ≡ ws → map own (terms_in (letrec_fix bs xs s w r e first)) ≡ ws ++ no_word ∷ no_word ∷ []
letrec_worded bs xs s w r e first ws h =
    let function = placed_at r no_word false xs s (letrec_function bs w e) (one_part first) in
    let inner = own_worded function (one_part first) ws (one_worded first ws h) in
    own_worded (letrec_fix bs xs s w r e first) (one_part function) (ws ++ no_word ∷ []) (one_worded function (ws ++ no_word ∷ []) inner)
    ∙ append_assoc ws (no_word ∷ []) (no_word ∷ [])

mutual
  pub terms_worded : (bs : List Abbreviation) (xs : List (Option Name)) (s : Scope) (t : TermTree) → map own (terms_in (placed_term bs xs s t)) ≡ words_in t
  terms_worded bs xs s (term_tree r n) = own_worded (placed_term bs xs s (term_tree r n)) (placed_parts bs xs s n) (words_below n) (parts_worded bs xs s n)

  parts_worded : (bs : List Abbreviation) (xs : List (Option Name)) (s : Scope) (n : TermNode) → map own (terms_in_each (placed_parts bs xs s n)) ≡ words_below n
  parts_worded bs xs s tree.true_term = refl
  parts_worded bs xs s tree.false_term = refl
  parts_worded bs xs s tree.unit_term = refl
  parts_worded bs xs s (tree.variable w) = refl
  parts_worded bs xs s (tree.numeral w) = refl
  parts_worded bs xs s (tree.lambda (bound b r) u t) =
      let scope = written (expansion bs u) ∷ s in
      one_worded (placed_term bs (b ∷ xs) scope t) (words_in t) (terms_worded bs (b ∷ xs) scope t)
  parts_worded bs xs s (tree.if_term c t u) =
      more_worded (placed_term bs xs s c) (two_parts (placed_term bs xs s t) (placed_term bs xs s u)) (words_in c) (words_in t ++ words_in u) (terms_worded bs xs s c)
      (two_worded (placed_term bs xs s t) (placed_term bs xs s u) (words_in t) (words_in u) (terms_worded bs xs s t) (terms_worded bs xs s u))
      ∙ sym (append_assoc (words_in c) (words_in t) (words_in u))
  parts_worded bs xs s (tree.let_term (bound b r) t u) =
      let scope = of_term (nameless bs xs t) ∷ s in
      two_worded (placed_term bs xs s t) (placed_term bs (b ∷ xs) scope u) (words_in t) (words_in u) (terms_worded bs xs s t) (terms_worded bs (b ∷ xs) scope u)
  parts_worded bs xs s (tree.letrec_term (bound b r) w t u) =
      let e = nameless bs (b ∷ xs) t in
      let inner = written (expansion bs w) ∷ s in
      let scope = of_term (fix (letrec_function bs w e)) ∷ s in
      let first = placed_term bs (b ∷ xs) inner t in
      two_worded (letrec_fix bs xs s w (term_span t) e first) (placed_term bs (b ∷ xs) scope u) (words_in t ++ no_word ∷ no_word ∷ []) (words_in u)
      (letrec_worded bs xs s w (term_span t) e first (words_in t) (terms_worded bs (b ∷ xs) inner t)) (terms_worded bs (b ∷ xs) scope u)
  parts_worded bs xs s (tree.prefixed p t) = one_worded (placed_term bs xs s t) (words_in t) (terms_worded bs xs s t)
  parts_worded bs xs s (tree.apply t u) =
      two_worded (placed_term bs xs s t) (placed_term bs xs s u) (words_in t) (words_in u) (terms_worded bs xs s t) (terms_worded bs xs s u)
  parts_worded bs xs s (tree.project t l) = one_worded (placed_term bs xs s t) (words_in t) (terms_worded bs xs s t)
  parts_worded bs xs s (tree.ascribe t u) = one_worded (placed_term bs xs s t) (words_in t) (terms_worded bs xs s t)
  parts_worded bs xs s (tree.record_term fs) = fields_worded bs xs s fs

  fields_worded : (bs : List Abbreviation) (xs : List (Option Name)) (s : Scope) (fs : tree.FieldTrees) → map own (terms_in_each (placed_fields bs xs s fs)) ≡ words_in_fields fs
  fields_worded bs xs s tree.no_fields = refl
  fields_worded bs xs s (tree.field l t fs) =
      more_worded (placed_term bs xs s t) (placed_fields bs xs s fs) (words_in t) (words_in_fields fs) (terms_worded bs xs s t) (fields_worded bs xs s fs)

command_worded : (bs : List Abbreviation) (xs : List (Option Name)) (s : Scope) (c : CommandTree) → map own (command_terms bs xs s c) ≡ command_words c
command_worded bs xs s (definition w t) = terms_worded bs xs s t
command_worded bs xs s (declaration w u) = refl
command_worded bs xs s (tree.abbreviation w u) = refl
command_worded bs xs s (evaluation t) = terms_worded bs xs s t

commands_worded : (bs : List Abbreviation) (xs : List (Option Name)) (s : Scope) (cs : List CommandTree) → map own (commands_terms bs xs s cs) ≡ commands_words cs
commands_worded bs xs s [] = refl
commands_worded bs xs s (c ∷ cs) =
    map-append own (command_terms bs xs s c) (commands_terms (abbreviations_after bs c) (names_after xs c) (scope_after bs xs s c) cs)
    ∙ (λ i. command_worded bs xs s c i ++ commands_worded (abbreviations_after bs c) (names_after xs c) (scope_after bs xs s c) cs i)

-- the number that is found

number_sought : (t : Target) (m n : ℕ) (ws : List OwnWord) → length ws ≤ n → n ≤ m → number_of m (seek_on t (Behind n) ws) ≡ position_from (is_target t) (m - n) ws
number_sought t m n [] within le = refl
number_sought t m n (w ∷ ws) within le =
    let one_more : m - (n - 1) ≡ m - n + 1 = omega arith in
    by (is_target t w) (number_sought t m (n - 1) ws (omega arith) (omega arith) ∙ ap (λ k. position_from (is_target t) k ws) one_more)
  where
    by : (b : Bool) → number_of m (seek_on t (Behind (n - 1)) ws) ≡ position_from (is_target t) (m - n + 1) ws
        → number_of m (seek_on t (at_word (Behind n) b) ws) ≡ cond b (Some (m - n)) (position_from (is_target t) (m - n + 1) ws)
    by true rest = ap (number_of m) (found_on t n ws)
    by false rest = rest

position_mapped : {A B : Type 0} (f : A → B) (p : B → Bool) (n : ℕ) (xs : List A) → position_from p n (map f xs) ≡ position_from (λ x. p (f x)) n xs
position_mapped f p n [] = refl
position_mapped f p n (x ∷ xs) = ap (λ r. cond (p (f x)) (Some n) r) (position_mapped f p (n + 1) xs)

-- the number of the term that is sought among those of a document
pub number_found : (t : Target) (m : ℕ) (cs : List CommandTree) → m ≡ length (document_terms cs)
    → number_of m (seek_on t (Behind m) (commands_words cs)) ≡ position (λ p. is_target t (own p)) (document_terms cs)
number_found t m cs all =
    let terms = document_terms cs in
    let within : length (map own terms) ≤ m = omega (arith, length-map terms own) in
    ap (λ ws. number_of m (seek_on t (Behind m) ws)) (sym (commands_worded [] [] [] cs))
    ∙ number_sought t m m (map own terms) within (omega arith)
    ∙ ap (λ k. position_from (is_target t) k (map own terms)) (omega arith)
    ∙ position_mapped own (is_target t) 0 terms
    ∙ sym (position_from-zero (λ p. is_target t (own p)) terms)
