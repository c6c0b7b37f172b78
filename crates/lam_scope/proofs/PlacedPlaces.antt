-- The places of a document's statements are those of its terms.
use Rattle.std.proofs.Common.{◌≡◌, ℕ, List, [], ◌∷◌, ◌++◌, append_assoc, refl, ap, sym, ◌∙◌, map, Bool, true, false, Option, Some, None}
use Rattle.std.proofs.lemmas.List.{append-nil, map-append}
use Rattle.lam_token.specs.declared.span.Span.{Span}
use Rattle.lam_rules.specs.Terms.{Term, lambda, fix}
use Rattle.lam_syntax.specs.declared.terms.Prefix.{Prefix}
use Rattle.lam_syntax.specs.declared.terms.Prefix.TheVariants as prefix
use Rattle.lam_syntax.specs.Trees as tree
use Rattle.lam_syntax.specs.Trees.{word, bound, TermTree, term_tree, TermNode, CommandTree, definition, declaration, evaluation, term_span}
use Rattle.lam_scope.specs.Names.{Name, index_of}
use Rattle.lam_scope.specs.Expansions.{Abbreviation, expansion}
use Rattle.lam_scope.specs.Nameless.{use_indexed, prefixed, nameless, nameless_node, nameless_fields, statements, abbreviations_after}
use Rattle.lam_scope.specs.Places.{Scope, written, of_term, Place, places, field_places, places_of}
use Rattle.lam_scope.specs.PlacedTerms.{OwnWord, no_word, name_at, label_at, PlacedTree, term_of, PlacedTrees, no_parts, part_first, one_part, two_parts, placed_at, letrec_function, letrec_fix, placed_term, placed_parts, placed_fields, terms_in, terms_in_each, commands_terms, document_terms}

abbrev places_told : List PlacedTree → List Place
places_told = map (λ t. (term_of t).place)

told_both : (ps qs : List Place) (ts us : List PlacedTree) → ps ≡ places_told ts → qs ≡ places_told us → ps ++ qs ≡ places_told (ts ++ us)
told_both ps qs ts us e f = (λ i. e i ++ f i) ∙ sym (map-append (λ t. (term_of t).place) ts us)

told_one : (ps : List Place) (t : PlacedTree) → ps ≡ places_told (terms_in t) → ps ≡ places_told (terms_in_each (one_part t))
told_one ps t e = e ∙ ap places_told (sym (append-nil (terms_in t)))

told_two : (ps qs : List Place) (t u : PlacedTree) → ps ≡ places_told (terms_in t) → qs ≡ places_told (terms_in u) → ps ++ qs ≡ places_told (terms_in_each (two_parts t u))
told_two ps qs t u e f = told_both ps qs (terms_in t) (terms_in_each (one_part u)) e (told_one qs u f)

told_three : (ps qs rs : List Place) (t u v : PlacedTree) → ps ≡ places_told (terms_in t) → qs ≡ places_told (terms_in u) → rs ≡ places_told (terms_in v)
    → ps ++ qs ++ rs ≡ places_told (terms_in_each (part_first t (two_parts u v)))
told_three ps qs rs t u v e f g = append_assoc ps qs rs ∙ told_both ps (qs ++ rs) (terms_in t) (terms_in_each (two_parts u v)) e (told_two qs rs u v f g)

-- a term behind its parts
told_own : (o : OwnWord) (ps : List Place) (r : Span) (w : Bool) (xs : List (Option Name)) (s : Scope) (e : Term) (parts : PlacedTrees) → ps ≡ places_told (terms_in_each parts)
    → ps ++ record { scope = s; here = e } ∷ [] ≡ places_told (terms_in (placed_at r o w xs s e parts))
told_own o ps r w xs s e parts told = told_both ps (record { scope = s; here = e } ∷ []) (terms_in_each parts) (placed_at r o w xs s e parts ∷ []) told refl

use_told : (o : OwnWord) (r : Span) (xs : List (Option Name)) (s : Scope) (x : Name) (k : Option ℕ) → places s (use_indexed x k) ≡ places_told (terms_in (placed_at r o true xs s (use_indexed x k) no_parts))
use_told o r xs s x None = refl
use_told o r xs s x (Some n) = refl

prefixed_told : (r : Span) (xs : List (Option Name)) (s : Scope) (p : Prefix) (e : Term) (t : PlacedTree) → places s e ≡ places_told (terms_in t)
    → places s (prefixed p e) ≡ places_told (terms_in (placed_at r no_word true xs s (prefixed p e) (one_part t)))
prefixed_told r xs s prefix.Fix e t same = told_own no_word (places s e) r true xs s (prefixed prefix.Fix e) (one_part t) (told_one (places s e) t same)
prefixed_told r xs s prefix.Succ e t same = told_own no_word (places s e) r true xs s (prefixed prefix.Succ e) (one_part t) (told_one (places s e) t same)
prefixed_told r xs s prefix.Pred e t same = told_own no_word (places s e) r true xs s (prefixed prefix.Pred e) (one_part t) (told_one (places s e) t same)
prefixed_told r xs s prefix.IsZero e t same = told_own no_word (places s e) r true xs s (prefixed prefix.IsZero e) (one_part t) (told_one (places s e) t same)

mutual
  term_told : (bs : List Abbreviation) (xs : List (Option Name)) (s : Scope) (t : TermTree) → places s (nameless bs xs t) ≡ places_told (terms_in (placed_term bs xs s t))
  term_told bs xs s (term_tree r n) = node_told bs xs s r n

  node_told : (bs : List Abbreviation) (xs : List (Option Name)) (s : Scope) (r : Span) (n : TermNode) → places s (nameless_node bs xs n) ≡ places_told (terms_in (placed_term bs xs s (term_tree r n)))
  node_told bs xs s r tree.true_term = refl
  node_told bs xs s r tree.false_term = refl
  node_told bs xs s r tree.unit_term = refl
  node_told bs xs s r (tree.variable (word x q)) = use_told (name_at q) r xs s x (index_of x xs)
  node_told bs xs s r (tree.numeral (word x q)) = refl
  node_told bs xs s r (tree.lambda (bound b q) u t) =
      let e = nameless bs (b ∷ xs) t in
      let scope = written (expansion bs u) ∷ s in
      let part = placed_term bs (b ∷ xs) scope t in
      told_own no_word (places scope e) r true xs s (lambda (expansion bs u) e) (one_part part) (told_one (places scope e) part (term_told bs (b ∷ xs) scope t))
  node_told bs xs s r (tree.if_term c t u) =
      let one = places s (nameless bs xs c) in
      let two = places s (nameless bs xs t) in
      let three = places s (nameless bs xs u) in
      told_own no_word (one ++ two ++ three) r true xs s (nameless_node bs xs (tree.if_term c t u)) (placed_parts bs xs s (tree.if_term c t u))
      (told_three one two three (placed_term bs xs s c) (placed_term bs xs s t) (placed_term bs xs s u) (term_told bs xs s c) (term_told bs xs s t) (term_told bs xs s u))
  node_told bs xs s r (tree.let_term (bound b q) t u) =
      let scope = of_term (nameless bs xs t) ∷ s in
      let one = places s (nameless bs xs t) in
      let two = places scope (nameless bs (b ∷ xs) u) in
      told_own no_word (one ++ two) r true xs s (nameless_node bs xs (tree.let_term (bound b q) t u)) (placed_parts bs xs s (tree.let_term (bound b q) t u))
      (told_two one two (placed_term bs xs s t) (placed_term bs (b ∷ xs) scope u) (term_told bs xs s t) (term_told bs (b ∷ xs) scope u))
  node_told bs xs s r (tree.letrec_term (bound b q) w t u) =
      let e = nameless bs (b ∷ xs) t in
      let function = letrec_function bs w e in
      let inner = written (expansion bs w) ∷ s in
      let scope = of_term (fix function) ∷ s in
      let part = placed_term bs (b ∷ xs) inner t in
      let lambda_part = placed_at (term_span t) no_word false xs s function (one_part part) in
      let one = places s (fix function) in
      let two = places scope (nameless bs (b ∷ xs) u) in
      told_own no_word (one ++ two) r true xs s (nameless_node bs xs (tree.letrec_term (bound b q) w t u)) (placed_parts bs xs s (tree.letrec_term (bound b q) w t u))
      (told_two one two (letrec_fix bs xs s w (term_span t) e part) (placed_term bs (b ∷ xs) scope u)
      (told_own no_word (places s function) (term_span t) false xs s (fix function) (one_part lambda_part)
      (told_one (places s function) lambda_part
      (told_own no_word (places inner e) (term_span t) false xs s function (one_part part) (told_one (places inner e) part (term_told bs (b ∷ xs) inner t)))))
      (term_told bs (b ∷ xs) scope u))
  node_told bs xs s r (tree.prefixed p t) = prefixed_told r xs s p (nameless bs xs t) (placed_term bs xs s t) (term_told bs xs s t)
  node_told bs xs s r (tree.apply t u) =
      let one = places s (nameless bs xs t) in
      let two = places s (nameless bs xs u) in
      told_own no_word (one ++ two) r true xs s (nameless_node bs xs (tree.apply t u)) (placed_parts bs xs s (tree.apply t u))
      (told_two one two (placed_term bs xs s t) (placed_term bs xs s u) (term_told bs xs s t) (term_told bs xs s u))
  node_told bs xs s r (tree.project t (word l q)) =
      let one = places s (nameless bs xs t) in
      told_own (label_at q) one r true xs s (nameless_node bs xs (tree.project t (word l q))) (one_part (placed_term bs xs s t)) (told_one one (placed_term bs xs s t) (term_told bs xs s t))
  node_told bs xs s r (tree.ascribe t u) =
      let one = places s (nameless bs xs t) in
      told_own no_word one r true xs s (nameless_node bs xs (tree.ascribe t u)) (one_part (placed_term bs xs s t)) (told_one one (placed_term bs xs s t) (term_told bs xs s t))
  node_told bs xs s r (tree.record_term fs) =
      told_own no_word (field_places s (nameless_fields bs xs fs)) r true xs s (nameless_node bs xs (tree.record_term fs)) (placed_fields bs xs s fs) (fields_told bs xs s fs)

  fields_told : (bs : List Abbreviation) (xs : List (Option Name)) (s : Scope) (fs : tree.FieldTrees) → field_places s (nameless_fields bs xs fs) ≡ places_told (terms_in_each (placed_fields bs xs s fs))
  fields_told bs xs s tree.no_fields = refl
  fields_told bs xs s (tree.field (word l q) t fs) =
      told_both (places s (nameless bs xs t)) (field_places s (nameless_fields bs xs fs)) (terms_in (placed_term bs xs s t)) (terms_in_each (placed_fields bs xs s fs)) (term_told bs xs s t) (fields_told bs xs s fs)

pub commands_told : (bs : List Abbreviation) (xs : List (Option Name)) (s : Scope) (cs : List CommandTree) → places_of s (statements bs xs cs) ≡ places_told (commands_terms bs xs s cs)
commands_told bs xs s [] = refl
commands_told bs xs s (definition (word x r) t ∷ cs) =
    let e = nameless bs xs t in
    told_both (places s e) (places_of (of_term e ∷ s) (statements bs (Some x ∷ xs) cs)) (terms_in (placed_term bs xs s t)) (commands_terms bs (Some x ∷ xs) (of_term e ∷ s) cs)
    (term_told bs xs s t) (commands_told bs (Some x ∷ xs) (of_term e ∷ s) cs)
commands_told bs xs s (declaration (word x r) u ∷ cs) = commands_told bs (Some x ∷ xs) (written (expansion bs u) ∷ s) cs
commands_told bs xs s (tree.abbreviation (word x r) u ∷ cs) = commands_told (abbreviations_after bs (tree.abbreviation (word x r) u)) xs s cs
commands_told bs xs s (evaluation t ∷ cs) =
    told_both (places s (nameless bs xs t)) (places_of s (statements bs xs cs)) (terms_in (placed_term bs xs s t)) (commands_terms bs xs s cs) (term_told bs xs s t) (commands_told bs xs s cs)

pub same_places : (cs : List CommandTree) → places_of [] (statements [] [] cs) ≡ map (λ t. (term_of t).place) (document_terms cs)
same_places cs = commands_told [] [] [] cs
