-- Where the terms of commands stand does not depend on what the commands see: so the place of an offset in the table of one command
-- by itself is its place among the command's terms in a document.
use Rattle.std.proofs.Common.{◌≡◌, ℕ, ◌+◌, Bool, true, false, List, [], ◌∷◌, ◌++◌, append-nil, length, map, cond, refl, ap, sym, ◌∙◌, Option, Some}
use Rattle.std.specs.List.{position, position_from}
use Rattle.std.proofs.lemmas.Iterator.Adapters.{position_from-zero}
use Rattle.std.proofs.lemmas.List.{map-append, length-map}
use Rattle.lam_rules.specs.Terms.{unit_term, fix}
use Rattle.lam_token.specs.declared.span.Span.{Span}
use Rattle.lam_syntax.specs.Trees as tree
use Rattle.lam_syntax.specs.Trees.{bound, TermTree, term_tree, TermNode, CommandTree, definition, declaration, evaluation, term_span}
use Rattle.lam_scope.specs.Names.{Name}
use Rattle.lam_scope.specs.Expansions.{Abbreviation, expansion}
use Rattle.lam_scope.specs.Nameless.{nameless, abbreviations_after, names_after}
use Rattle.lam_scope.specs.Places.{written, of_term, Scope}
use Rattle.lam_scope.specs.PlacedTerms.{no_word, own_word, PlacedTree, placed, PlacedTrees, no_parts, part_first, one_part, two_parts, placed_at, term_of, letrec_function, placed_term, placed_parts, placed_fields, terms_in, terms_in_each, command_terms, scope_after, commands_terms, document_terms, tree_in}
use Rattle.lam_scope.specs.Tables.{table, place_at, place_row_numbered}
use Rattle.lam_scope.proofs.PlacedRows.{as_many_rows}
use Rattle.lam_query.specs.Hovers.{has_byte}
use Rattle.lam_query.proofs.RowsAndTerms.{span_told, row_at, get_or-told}

-- ---- a term by its places alone

-- a term with its parts, without the binders that it sees and without its nameless form
abbrev mutual
  pub bare : PlacedTree → PlacedTree
  bare (placed t ps) = placed_at t.span t.own t.is_written [] [] unit_term (bare_parts ps)

  pub bare_parts : PlacedTrees → PlacedTrees
  bare_parts no_parts = no_parts
  bare_parts (part_first p ps) = part_first (bare p) (bare_parts ps)

-- a letrec's fix, of which the place alone is left
abbrev bare_fix : Span → PlacedTree → PlacedTree
bare_fix q first = placed_at q no_word false [] [] unit_term (one_part (placed_at q no_word false [] [] unit_term (one_part first)))

module _ (bs cs : List Abbreviation) where
  mutual
    same_term : (xs ys : List (Option Name)) (s r : Scope) (t : TermTree) → bare (placed_term bs xs s t) ≡ bare (placed_term cs ys r t)
    same_term xs ys s r (term_tree q n) = ap (placed_at q (own_word n) true [] [] unit_term) (same_parts xs ys s r n)

    same_parts : (xs ys : List (Option Name)) (s r : Scope) (n : TermNode)
        → bare_parts (placed_parts bs xs s n) ≡ bare_parts (placed_parts cs ys r n)
    same_parts xs ys s r tree.true_term = refl
    same_parts xs ys s r tree.false_term = refl
    same_parts xs ys s r tree.unit_term = refl
    same_parts xs ys s r (tree.variable w) = refl
    same_parts xs ys s r (tree.numeral w) = refl
    same_parts xs ys s r (tree.lambda (bound b q) u t) =
        ap one_part (same_term (b ∷ xs) (b ∷ ys) (written (expansion bs u) ∷ s) (written (expansion cs u) ∷ r) t)
    same_parts xs ys s r (tree.if_term c t u) =
        let one = same_term xs ys s r c in
        let two = same_term xs ys s r t in
        let three = same_term xs ys s r u in
        λ i. part_first (one i) (two_parts (two i) (three i))
    same_parts xs ys s r (tree.let_term (bound b q) t u) =
        let one = same_term xs ys s r t in
        let two = same_term (b ∷ xs) (b ∷ ys) (of_term (nameless bs xs t) ∷ s) (of_term (nameless cs ys t) ∷ r) u in
        λ i. two_parts (one i) (two i)
    same_parts xs ys s r (tree.letrec_term (bound b q) w t u) =
        let one = same_term (b ∷ xs) (b ∷ ys) (written (expansion bs w) ∷ s) (written (expansion cs w) ∷ r) t in
        let two = same_term (b ∷ xs) (b ∷ ys)
        (of_term (fix (letrec_function bs w (nameless bs (b ∷ xs) t))) ∷ s)
        (of_term (fix (letrec_function cs w (nameless cs (b ∷ ys) t))) ∷ r)
        u in
        λ i. two_parts (bare_fix (term_span t) (one i)) (two i)
    same_parts xs ys s r (tree.prefixed p t) = ap one_part (same_term xs ys s r t)
    same_parts xs ys s r (tree.apply t u) =
        let one = same_term xs ys s r t in
        let two = same_term xs ys s r u in
        λ i. two_parts (one i) (two i)
    same_parts xs ys s r (tree.project t l) = ap one_part (same_term xs ys s r t)
    same_parts xs ys s r (tree.ascribe t u) = ap one_part (same_term xs ys s r t)
    same_parts xs ys s r (tree.record_term fs) = same_fields xs ys s r fs

    same_fields : (xs ys : List (Option Name)) (s r : Scope) (fs : tree.FieldTrees)
        → bare_parts (placed_fields bs xs s fs) ≡ bare_parts (placed_fields cs ys r fs)
    same_fields xs ys s r tree.no_fields = refl
    same_fields xs ys s r (tree.field l t fs) =
        let one = same_term xs ys s r t in
        let others = same_fields xs ys s r fs in
        λ i. part_first (one i) (others i)

-- the terms in such a term are those in it

mutual
  terms_bare : (p : PlacedTree) → map bare (terms_in p) ≡ terms_in (bare p)
  terms_bare (placed t ps) =
      map-append bare (terms_in_each ps) (placed t ps ∷ []) ∙ ap (λ ts. ts ++ bare (placed t ps) ∷ []) (parts_bare ps)

  parts_bare : (ps : PlacedTrees) → map bare (terms_in_each ps) ≡ terms_in_each (bare_parts ps)
  parts_bare no_parts = refl
  parts_bare (part_first p ps) = map-append bare (terms_in p) (terms_in_each ps) ∙ (λ i. terms_bare p i ++ parts_bare ps i)

-- ---- the terms of commands

same_terms : (bs cs : List Abbreviation) (xs ys : List (Option Name)) (s r : Scope) (t : TermTree)
    → map bare (terms_in (placed_term bs xs s t)) ≡ map bare (terms_in (placed_term cs ys r t))
same_terms bs cs xs ys s r t =
    terms_bare (placed_term bs xs s t) ∙ ap terms_in (same_term bs cs xs ys s r t) ∙ sym (terms_bare (placed_term cs ys r t))

pub command_alone : (bs cs : List Abbreviation) (xs ys : List (Option Name)) (s r : Scope) (c : CommandTree)
    → map bare (command_terms bs xs s c) ≡ map bare (command_terms cs ys r c)
command_alone bs cs xs ys s r (definition w t) = same_terms bs cs xs ys s r t
command_alone bs cs xs ys s r (declaration w u) = refl
command_alone bs cs xs ys s r (tree.abbreviation w u) = refl
command_alone bs cs xs ys s r (evaluation t) = same_terms bs cs xs ys s r t

pub commands_alone : (bs cs : List Abbreviation) (xs ys : List (Option Name)) (s r : Scope) (commands : List CommandTree)
    → map bare (commands_terms bs xs s commands) ≡ map bare (commands_terms cs ys r commands)
commands_alone bs cs xs ys s r [] = refl
commands_alone bs cs xs ys s r (c ∷ commands) =
    let first = command_alone bs cs xs ys s r c in
    let rest = commands_alone (abbreviations_after bs c) (abbreviations_after cs c) (names_after xs c) (names_after ys c)
    (scope_after bs xs s c) (scope_after cs ys r c) commands in
    map-append bare (command_terms bs xs s c) _ ∙ (λ i. first i ++ rest i) ∙ sym (map-append bare (command_terms cs ys r c) _)

-- ---- what is left of a term

pub same_span : (p : PlacedTree) → (term_of (bare p)).span ≡ (term_of p).span
same_span (placed t ps) = refl

pub same_own : (p : PlacedTree) → (term_of (bare p)).own ≡ (term_of p).own
same_own (placed t ps) = refl

same_byte : (o : ℕ) (p : PlacedTree) → has_byte o (term_of (bare p)) ≡ has_byte o (term_of p)
same_byte o (placed t ps) = refl

bare_numbered : (ts : List PlacedTree) (n : ℕ) → tree_in (map bare ts) n ≡ bare (tree_in ts n)
bare_numbered ts n = get_or-told bare ts n (tree_in [] 0)

pub numbered_alone : (ts us : List PlacedTree) (n : ℕ) → map bare ts ≡ map bare us → bare (tree_in ts n) ≡ bare (tree_in us n)
numbered_alone ts us n same = sym (bare_numbered ts n) ∙ ap (λ vs. tree_in vs n) same ∙ bare_numbered us n

span_alone : (ts us : List PlacedTree) (n : ℕ) → map bare ts ≡ map bare us → (term_of (tree_in ts n)).span ≡ (term_of (tree_in us n)).span
span_alone ts us n same =
    sym (same_span (tree_in ts n)) ∙ ap (λ t. (term_of t).span) (numbered_alone ts us n same) ∙ same_span (tree_in us n)

-- ---- the number of the first term that has a byte

abbrev pub number_at : ℕ → List PlacedTree → Option ℕ
number_at o ts = position (λ t. has_byte o (term_of t)) ts

bare_from : (o n : ℕ) (ts : List PlacedTree)
    → position_from (λ t. has_byte o (term_of t)) n (map bare ts) ≡ position_from (λ t. has_byte o (term_of t)) n ts
bare_from o n [] = refl
bare_from o n (t ∷ ts) =
    let here = same_byte o t in
    let rest = bare_from o (n + 1) ts in
    λ i. cond (here i) (Some n) (rest i)

bare_number : (o : ℕ) (ts : List PlacedTree) → number_at o (map bare ts) ≡ number_at o ts
bare_number o ts =
    let f : PlacedTree → Bool = λ t. has_byte o (term_of t) in
    position_from-zero f (map bare ts) ∙ bare_from o 0 ts ∙ sym (position_from-zero f ts)

pub number_alone : (o : ℕ) (ts us : List PlacedTree) → map bare ts ≡ map bare us → number_at o ts ≡ number_at o us
number_alone o ts us same = sym (bare_number o ts) ∙ ap (number_at o) same ∙ bare_number o us

-- ---- a table of commands by themselves

-- its place of an offset is that among the terms of the commands, whatever these see
pub place_alone : (bs : List Abbreviation) (xs : List (Option Name)) (s : Scope) (commands : List CommandTree) (o : ℕ)
    → place_at (table commands) o ≡ number_at o (commands_terms bs xs s commands)
place_alone bs xs s commands o =
    row_at commands o
    ∙ number_alone o (document_terms commands) (commands_terms bs xs s commands) (commands_alone [] bs [] xs [] s commands)

pub command_place : (bs : List Abbreviation) (xs : List (Option Name)) (s : Scope) (c : CommandTree) (o : ℕ)
    → place_at (table (c ∷ [])) o ≡ number_at o (command_terms bs xs s c)
command_place bs xs s c o = place_alone bs xs s (c ∷ []) o ∙ ap (number_at o) (append-nil (command_terms bs xs s c))

-- and its row of a place has the span of the term of its number
pub row_alone : (bs : List Abbreviation) (xs : List (Option Name)) (s : Scope) (commands : List CommandTree) (n : ℕ)
    → (place_row_numbered (table commands) n).span ≡ (term_of (tree_in (commands_terms bs xs s commands) n)).span
row_alone bs xs s commands n =
    span_told commands n
    ∙ span_alone (document_terms commands) (commands_terms bs xs s commands) n (commands_alone [] bs [] xs [] s commands)

pub command_row : (bs : List Abbreviation) (xs : List (Option Name)) (s : Scope) (c : CommandTree) (n : ℕ)
    → (place_row_numbered (table (c ∷ [])) n).span ≡ (term_of (tree_in (command_terms bs xs s c) n)).span
command_row bs xs s c n = row_alone bs xs s (c ∷ []) n ∙ ap (λ ts. (term_of (tree_in ts n)).span) (append-nil (command_terms bs xs s c))

-- and as many rows as the command has terms
pub command_size : (bs : List Abbreviation) (xs : List (Option Name)) (s : Scope) (c : CommandTree)
    → length (command_terms bs xs s c) ≡ length (table (c ∷ [])).places
command_size bs xs s c =
    let own = command_terms bs xs s c in
    let alone = command_terms [] [] [] c in
    sym (length-map own bare) ∙ ap length (command_alone bs [] xs [] s [] c) ∙ length-map alone bare
    ∙ ap length (sym (append-nil alone)) ∙ sym (as_many_rows (c ∷ []))
