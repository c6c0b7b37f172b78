-- The row of each place describes the term with its index.
use Rattle.std.proofs.Common.{◌≡◌, ℕ, zero, suc, ◌+◌, List, [], ◌∷◌, ◌++◌, length, append_assoc, refl, ap, sym, ◌∙◌, subst, arith, Option, Some, true, false}
use Rattle.std.proofs.lemmas.List.{append-nil}
use Rattle.lam_rules.specs.Terms.{Term, fix}
use Rattle.lam_syntax.specs.Trees as tree
use Rattle.lam_syntax.specs.Trees.{word, bound, TypeTree, TermTree, term_tree, TermNode, CommandTree, definition, declaration, evaluation, term_span}
use Rattle.lam_token.specs.declared.span.Span.{Span}
use Rattle.lam_scope.specs.declared.numbers.Origin.TheVariants.{Declaration, TypeName}
use Rattle.lam_scope.specs.declared.rows.Rows.{Rows}
use Rattle.lam_scope.specs.Names.{Name}
use Rattle.lam_scope.specs.Expansions.{Abbreviation, expansion}
use Rattle.lam_scope.specs.Nameless.{nameless, nameless_node, abbreviations_after}
use Rattle.lam_scope.specs.Places.{written, of_term, Scope}
use Rattle.lam_scope.specs.Sights.{lambda_at, term_at}
use Rattle.lam_scope.specs.Tables.{TextBinder, TextPlace, Table, ◌⊕◌, Entry, entry, innermost, binder_row, place_row, root, behind, roots, roots_of_fields, below, below_node, below_fields, binders_in, type_uses, term_table, node_table, fields_table, letrec_rows, commands_table, table, place_at_number}
use Rattle.lam_scope.specs.PlacedTerms.{OwnWord, no_word, PlacedTree, PlacedTrees, no_parts, part_first, one_part, two_parts, placed_at, letrec_function, letrec_fix, placed_term, placed_parts, placed_fields, terms_in, terms_in_each, commands_terms, document_terms, tree_in, trees_in}
use Rattle.lam_scope.specs.PlacedRows.{IsRowOf}
use Rattle.lam_scope.specs.TableViews.{rows_of, terms_start, text_place}
use Rattle.lam_scope.proofs.Slices.{sliced-length}
use Rattle.lam_scope.proofs.PlaceCounts.{type_places, places-plus, length-joined}
use Rattle.lam_scope.proofs.BinderRows.{Along, both, front_alone, back_alone, plus, type_binders, letrec_binders, term_binders, StandAt, stand_left, stand_right, stand_all, BindersStand, all_stand, rows_left, rows_right, AreUnder, under_more, AreSeen, one_more, read_seen, letrec_first}

-- how many terms are in a term

one_counted : (p : PlacedTree) (n : ℕ) → length (terms_in p) ≡ n → length (terms_in_each (one_part p)) ≡ n
one_counted p n e = ap length (append-nil (terms_in p)) ∙ e

more_counted : (p : PlacedTree) (ps : PlacedTrees) (m n : ℕ) → length (terms_in p) ≡ m → length (terms_in_each ps) ≡ n → length (terms_in_each (part_first p ps)) ≡ m + n
more_counted p ps m n e f = length-joined (terms_in p) (terms_in_each ps) m n e f

own_counted : (t : PlacedTree) (ps : PlacedTrees) (n : ℕ) → length (terms_in_each ps) ≡ n → length (terms_in_each ps ++ t ∷ []) ≡ n + 1
own_counted t ps n e = length-joined (terms_in_each ps) (t ∷ []) n 1 e refl

letrec_counted : (bs : List Abbreviation) (xs : List (Option Name)) (s : Scope) (w : TypeTree) (r : Span) (e : Term) (first : PlacedTree) (n : ℕ)
    → length (terms_in first) ≡ n → length (terms_in (letrec_fix bs xs s w r e first)) ≡ n + 1 + 1
letrec_counted bs xs s w r e first n h =
    let function = placed_at r no_word false xs s (letrec_function bs w e) (one_part first) in
    let inner = own_counted function (one_part first) n (one_counted first n h) in
    own_counted (letrec_fix bs xs s w r e first) (one_part function) (n + 1) (one_counted function (n + 1) inner)

mutual
  pub terms_counted : (bs : List Abbreviation) (xs : List (Option Name)) (s : Scope) (t : TermTree) → length (terms_in (placed_term bs xs s t)) ≡ below t + 1
  terms_counted bs xs s (term_tree r n) = own_counted (placed_term bs xs s (term_tree r n)) (placed_parts bs xs s n) (below_node n) (parts_counted bs xs s n)

  parts_counted : (bs : List Abbreviation) (xs : List (Option Name)) (s : Scope) (n : TermNode) → length (terms_in_each (placed_parts bs xs s n)) ≡ below_node n
  parts_counted bs xs s tree.true_term = refl
  parts_counted bs xs s tree.false_term = refl
  parts_counted bs xs s tree.unit_term = refl
  parts_counted bs xs s (tree.variable w) = refl
  parts_counted bs xs s (tree.numeral w) = refl
  parts_counted bs xs s (tree.lambda (bound b r) u t) =
      let body = placed_term bs (b ∷ xs) (written (expansion bs u) ∷ s) t in
      one_counted body (below t + 1) (terms_counted bs (b ∷ xs) (written (expansion bs u) ∷ s) t)
  parts_counted bs xs s (tree.if_term c t u) =
      let one = placed_term bs xs s c in
      let two = placed_term bs xs s t in
      let three = placed_term bs xs s u in
      let all = more_counted one (two_parts two three) (below c + 1) (below t + 1 + (below u + 1)) (terms_counted bs xs s c)
      (more_counted two (one_part three) (below t + 1) (below u + 1) (terms_counted bs xs s t) (one_counted three (below u + 1) (terms_counted bs xs s u))) in
      omega arith
  parts_counted bs xs s (tree.let_term (bound b r) t u) =
      let one = placed_term bs xs s t in
      let two = placed_term bs (b ∷ xs) (of_term (nameless bs xs t) ∷ s) u in
      let all = more_counted one (one_part two) (below t + 1) (below u + 1) (terms_counted bs xs s t) (one_counted two (below u + 1) (terms_counted bs (b ∷ xs) (of_term (nameless bs xs t) ∷ s) u)) in
      omega arith
  parts_counted bs xs s (tree.letrec_term (bound b r) w t u) =
      let e = nameless bs (b ∷ xs) t in
      let first = placed_term bs (b ∷ xs) (written (expansion bs w) ∷ s) t in
      let one = letrec_fix bs xs s w (term_span t) e first in
      let two = placed_term bs (b ∷ xs) (of_term (fix (letrec_function bs w e)) ∷ s) u in
      let all = more_counted one (one_part two) (below t + 1 + 1 + 1) (below u + 1)
      (letrec_counted bs xs s w (term_span t) e first (below t + 1) (terms_counted bs (b ∷ xs) (written (expansion bs w) ∷ s) t))
      (one_counted two (below u + 1) (terms_counted bs (b ∷ xs) (of_term (fix (letrec_function bs w e)) ∷ s) u)) in
      omega arith
  parts_counted bs xs s (tree.prefixed p t) = one_counted (placed_term bs xs s t) (below t + 1) (terms_counted bs xs s t)
  parts_counted bs xs s (tree.apply t u) =
      let one = placed_term bs xs s t in
      let two = placed_term bs xs s u in
      let all = more_counted one (one_part two) (below t + 1) (below u + 1) (terms_counted bs xs s t) (one_counted two (below u + 1) (terms_counted bs xs s u)) in
      omega arith
  parts_counted bs xs s (tree.project t l) = one_counted (placed_term bs xs s t) (below t + 1) (terms_counted bs xs s t)
  parts_counted bs xs s (tree.ascribe t u) = one_counted (placed_term bs xs s t) (below t + 1) (terms_counted bs xs s t)
  parts_counted bs xs s (tree.record_term fs) = fields_counted bs xs s fs

  fields_counted : (bs : List Abbreviation) (xs : List (Option Name)) (s : Scope) (fs : tree.FieldTrees) → length (terms_in_each (placed_fields bs xs s fs)) ≡ below_fields fs
  fields_counted bs xs s tree.no_fields = refl
  fields_counted bs xs s (tree.field l t fs) = more_counted (placed_term bs xs s t) (placed_fields bs xs s fs) (below t + 1) (below_fields fs) (terms_counted bs xs s t) (fields_counted bs xs s fs)

-- terms that stand at their numbers among those of a document

module _ (all : List PlacedTree) where
  abbrev TreesStand : ℕ → List PlacedTree → Type 0
  TreesStand = StandAt (tree_in all) (length all)

  parts_stand : (k : ℕ) (t : PlacedTree) (ps : PlacedTrees) → TreesStand k (terms_in_each ps ++ t ∷ []) → TreesStand k (terms_in_each ps)
  parts_stand k t ps h = stand_left (tree_in all) (length all) k (terms_in_each ps) (t ∷ []) h

  first_stands : (k : ℕ) (p : PlacedTree) (ps : PlacedTrees) → TreesStand k (terms_in_each (part_first p ps)) → TreesStand k (terms_in p)
  first_stands k p ps h = stand_left (tree_in all) (length all) k (terms_in p) (terms_in_each ps) h

  rest_stand : (k m : ℕ) (p : PlacedTree) (ps : PlacedTrees) → k + length (terms_in p) ≡ m → TreesStand k (terms_in_each (part_first p ps)) → TreesStand m (terms_in_each ps)
  rest_stand k m p ps e h = stand_right (tree_in all) (length all) k m (terms_in p) (terms_in_each ps) e h

  own_stands : (k m : ℕ) (t : PlacedTree) (ps : PlacedTrees) → k + length (terms_in_each ps) ≡ m → TreesStand k (terms_in_each ps ++ t ∷ []) → tree_in all m ≡ t
  own_stands k m t ps e h = (stand_right (tree_in all) (length all) k m (terms_in_each ps) (t ∷ []) e h).1

  root_stands : (bs : List Abbreviation) (xs : List (Option Name)) (s : Scope) (k : ℕ) (t : TermTree) → TreesStand k (terms_in (placed_term bs xs s t)) → tree_in all (root k t) ≡ placed_term bs xs s t
  root_stands bs xs s k (term_tree r n) h =
      let count = parts_counted bs xs s n in
      own_stands k (k + below_node n) (placed_term bs xs s (term_tree r n)) (placed_parts bs xs s n) (omega arith) h

  fields_stand : (bs : List Abbreviation) (xs : List (Option Name)) (s : Scope) (k : ℕ) (fs : tree.FieldTrees) → TreesStand k (terms_in_each (placed_fields bs xs s fs))
      → trees_in all (roots_of_fields k fs) ≡ placed_fields bs xs s fs
  fields_stand bs xs s k tree.no_fields h = refl
  fields_stand bs xs s k (tree.field l t fs) h =
      let count = terms_counted bs xs s t in
      let own = root_stands bs xs s k t (first_stands k (placed_term bs xs s t) (placed_fields bs xs s fs) h) in
      let others = fields_stand bs xs s (behind k t) fs (rest_stand k (behind k t) (placed_term bs xs s t) (placed_fields bs xs s fs) (omega arith) h) in
      λ i. part_first (own i) (others i)

  -- a letrec's function and fix, and its first term
  letrec_stands : (bs : List Abbreviation) (xs ys : List (Option Name)) (s inner : Scope) (w : TypeTree) (r : Span) (e : Term) (k : ℕ) (t : TermTree)
      → TreesStand k (terms_in (letrec_fix bs xs s w r e (placed_term bs ys inner t)))
      → TreesStand k (terms_in (placed_term bs ys inner t)) × (tree_in all (root k t + 1) ≡ placed_at r no_word false xs s (letrec_function bs w e) (one_part (placed_term bs ys inner t)))
      × (tree_in all (root k t + 2) ≡ letrec_fix bs xs s w r e (placed_term bs ys inner t))
  letrec_stands bs xs ys s inner w r e k t h =
      let first = placed_term bs ys inner t in
      let function = placed_at r no_word false xs s (letrec_function bs w e) (one_part first) in
      let whole = letrec_fix bs xs s w r e first in
      let count = one_counted first (below t + 1) (terms_counted bs ys inner t) in
      let more = one_counted function (below t + 1 + 1) (own_counted function (one_part first) (below t + 1) count) in
      let one = first_stands k function no_parts (parts_stand k whole (one_part function) h) in (
        first_stands k first no_parts (parts_stand k function (one_part first) one),
        own_stands k (root k t + 1) function (one_part first) (omega arith) one,
        own_stands k (root k t + 2) whole (one_part function) (omega arith) h,
      )

  roots_stand : (bs : List Abbreviation) (xs : List (Option Name)) (s : Scope) (k : ℕ) (node : TermNode) → TreesStand k (terms_in_each (placed_parts bs xs s node))
      → trees_in all (roots k node) ≡ placed_parts bs xs s node
  roots_stand bs xs s k tree.true_term h = refl
  roots_stand bs xs s k tree.false_term h = refl
  roots_stand bs xs s k tree.unit_term h = refl
  roots_stand bs xs s k (tree.variable w) h = refl
  roots_stand bs xs s k (tree.numeral w) h = refl
  roots_stand bs xs s k (tree.lambda (bound b r) u t) h =
      let scope = written (expansion bs u) ∷ s in
      ap one_part (root_stands bs (b ∷ xs) scope k t (first_stands k (placed_term bs (b ∷ xs) scope t) no_parts h))
  roots_stand bs xs s k (tree.if_term c t u) h =
      let one = placed_term bs xs s c in
      let two = placed_term bs xs s t in
      let three = placed_term bs xs s u in
      let count_one = terms_counted bs xs s c in
      let count_two = terms_counted bs xs s t in
      let rest = rest_stand k (behind k c) one (two_parts two three) (omega arith) h in
      let last = rest_stand (behind k c) (behind (behind k c) t) two (one_part three) (omega arith) rest in
      let at_one = root_stands bs xs s k c (first_stands k one (two_parts two three) h) in
      let at_two = root_stands bs xs s (behind k c) t (first_stands (behind k c) two (one_part three) rest) in
      let at_three = root_stands bs xs s (behind (behind k c) t) u (first_stands (behind (behind k c) t) three no_parts last) in
      λ i. part_first (at_one i) (two_parts (at_two i) (at_three i))
  roots_stand bs xs s k (tree.let_term (bound b r) t u) h =
      let scope = of_term (nameless bs xs t) ∷ s in
      let one = placed_term bs xs s t in
      let two = placed_term bs (b ∷ xs) scope u in
      let count = terms_counted bs xs s t in
      let rest = rest_stand k (behind k t) one (one_part two) (omega arith) h in
      let at_one = root_stands bs xs s k t (first_stands k one (one_part two) h) in
      let at_two = root_stands bs (b ∷ xs) scope (behind k t) u (first_stands (behind k t) two no_parts rest) in
      λ i. two_parts (at_one i) (at_two i)
  roots_stand bs xs s k (tree.letrec_term (bound b r) w t u) h =
      let e = nameless bs (b ∷ xs) t in
      let inner = written (expansion bs w) ∷ s in
      let scope = of_term (fix (letrec_function bs w e)) ∷ s in
      let first = placed_term bs (b ∷ xs) inner t in
      let one = letrec_fix bs xs s w (term_span t) e first in
      let two = placed_term bs (b ∷ xs) scope u in
      let count = letrec_counted bs xs s w (term_span t) e first (below t + 1) (terms_counted bs (b ∷ xs) inner t) in
      let rest = rest_stand k (root k t + 3) one (one_part two) (omega arith) h in
      let at_one = (letrec_stands bs xs (b ∷ xs) s inner w (term_span t) e k t (first_stands k one (one_part two) h)).2 in
      let at_two = root_stands bs (b ∷ xs) scope (root k t + 3) u (first_stands (root k t + 3) two no_parts rest) in
      λ i. two_parts (at_one i) (at_two i)
  roots_stand bs xs s k (tree.prefixed p t) h = ap one_part (root_stands bs xs s k t (first_stands k (placed_term bs xs s t) no_parts h))
  roots_stand bs xs s k (tree.apply t u) h =
      let one = placed_term bs xs s t in
      let two = placed_term bs xs s u in
      let count = terms_counted bs xs s t in
      let rest = rest_stand k (behind k t) one (one_part two) (omega arith) h in
      let at_one = root_stands bs xs s k t (first_stands k one (one_part two) h) in
      let at_two = root_stands bs xs s (behind k t) u (first_stands (behind k t) two no_parts rest) in
      λ i. two_parts (at_one i) (at_two i)
  roots_stand bs xs s k (tree.project t l) h = ap one_part (root_stands bs xs s k t (first_stands k (placed_term bs xs s t) no_parts h))
  roots_stand bs xs s k (tree.ascribe t u) h = ap one_part (root_stands bs xs s k t (first_stands k (placed_term bs xs s t) no_parts h))
  roots_stand bs xs s k (tree.record_term fs) h = fields_stand bs xs s k fs h

-- rows and the terms that they describe

abbrev name : TextBinder → Option Name
name b = b.name

one_row : (R : TextPlace → PlacedTree → Type 0) (ps : List TextPlace) (p : PlacedTree) → Along R ps (terms_in p) → Along R ps (terms_in_each (one_part p))
one_row R ps p h = subst (λ ts. Along R ps ts) (sym (append-nil (terms_in p))) h

two_rows : (R : TextPlace → PlacedTree → Type 0) (a b : Table) (p q : PlacedTree) → Along R a.places (terms_in p) → Along R b.places (terms_in q) → Along R (a ⊕ b).places (terms_in_each (two_parts p q))
two_rows R a b p q g h = both R a b (terms_in p) (terms_in_each (one_part q)) g (one_row R b.places q h)

three_rows : (R : TextPlace → PlacedTree → Type 0) (a b c : Table) (p q r : PlacedTree) → Along R a.places (terms_in p) → Along R b.places (terms_in q) → Along R c.places (terms_in r)
    → Along R (a ⊕ b ⊕ c).places (terms_in_each (part_first p (two_parts q r)))
three_rows R a b c p q r f g h =
    subst (λ ts. Along R (a ⊕ b ⊕ c).places ts) (append_assoc (terms_in p) (terms_in q) (terms_in_each (one_part r)))
    (both R (a ⊕ b) c (terms_in p ++ terms_in q) (terms_in_each (one_part r)) (both R a b (terms_in p) (terms_in q) f g) (one_row R c.places r h))

letrec_told : (R : TextPlace → PlacedTree → Type 0) (x : Option Name) (q r : Span) (names : List Entry) (n p : ℕ) (u t : Table) (bs : List Abbreviation) (xs : List (Option Name)) (s : Scope) (w : TypeTree) (e : Term) (first : PlacedTree)
    → length u.places ≡ 0 → Along R t.places (terms_in first)
    → Along R (place_row r true (p ∷ []) names).places (placed_at r no_word false xs s (letrec_function bs w e) (one_part first) ∷ [])
    → Along R (place_row r true ((p + 1) ∷ []) names).places (letrec_fix bs xs s w r e first ∷ [])
    → Along R (letrec_rows x q names n p r u t).places (terms_in (letrec_fix bs xs s w r e first))
letrec_told R x q r names n p u t bs xs s w e first none inner own whole =
    let one = binder_row x q names (n + 1) (lambda_at (p + 1)) in
    let two = binder_row x q names (n + 1) (term_at (p + 2)) in
    let function_row = place_row r true (p ∷ []) names in
    let fix_row = place_row r true ((p + 1) ∷ []) names in
    let function = placed_at r no_word false xs s (letrec_function bs w e) (one_part first) in
    let before = one_row R (one ⊕ two ⊕ u ⊕ t).places first (back_alone R (one ⊕ two ⊕ u) t (terms_in first) (places-plus (one ⊕ two) u 0 0 (places-plus one two 0 0 refl refl) none) inner) in
    both R (one ⊕ two ⊕ u ⊕ t ⊕ function_row) fix_row (terms_in_each (one_part function)) (letrec_fix bs xs s w r e first ∷ [])
    (one_row R (one ⊕ two ⊕ u ⊕ t ⊕ function_row).places function (both R (one ⊕ two ⊕ u ⊕ t) function_row (terms_in_each (one_part first)) (function ∷ []) before own)) whole

module _ (whole : Table) (all : List PlacedTree) where
  abbrev Told : TextPlace → PlacedTree → Type 0
  Told = IsRowOf whole all

  abbrev Stand : ℕ → List TextBinder → Type 0
  Stand = BindersStand whole.binders

  abbrev See : List Entry → List (Option Name) → Type 0
  See = AreSeen name whole.binders

  own_row : {o : OwnWord} (r : Span) (names : List Entry) (xs : List (Option Name)) (s : Scope) (e : Term) (written_here : PlacedTrees) (numbers : List ℕ)
      → See names xs → trees_in all numbers ≡ written_here → Told (record { span = r; derived = false; terms = numbers; inner = innermost names }) (placed_at r o true xs s e written_here)
  own_row r names xs s e ps numbers seen there = record { span = refl; derived = refl; names = read_seen name whole.binders names xs seen; parts = there }

  derived_row : (r : Span) (names : List Entry) (xs : List (Option Name)) (s : Scope) (e : Term) (p : PlacedTree) (number : ℕ)
      → See names xs → tree_in all number ≡ p → Told (record { span = r; derived = true; terms = number ∷ []; inner = innermost names }) (placed_at r no_word false xs s e (one_part p))
  derived_row r names xs s e p number seen there = record { span = refl; derived = refl; names = read_seen name whole.binders names xs seen; parts = ap one_part there }

  mutual
    term_rows : (types names : List Entry) (n k : ℕ) (bs : List Abbreviation) (xs : List (Option Name)) (s : Scope) (t : TermTree)
        → AreUnder names n → See names xs → Stand n (term_table types names n k t).binders → TreesStand all k (terms_in (placed_term bs xs s t))
        → Along Told (term_table types names n k t).places (terms_in (placed_term bs xs s t))
    term_rows types names n k bs xs s (term_tree r node) under seen stand there =
        let own = place_row r false (roots k node) names in
        let parts = placed_parts bs xs s node in
        let inner = parts_stand all k (placed_term bs xs s (term_tree r node)) parts there in
        both Told (node_table types names n k node) own (terms_in_each parts) (placed_term bs xs s (term_tree r node) ∷ [])
        (node_rows types names n k bs xs s node under seen (rows_left whole.binders n (node_table types names n k node) own stand) inner)
        (own_row r names xs s (nameless_node bs xs node) parts (roots k node) seen (roots_stand all bs xs s k node inner), tt)

    node_rows : (types names : List Entry) (n k : ℕ) (bs : List Abbreviation) (xs : List (Option Name)) (s : Scope) (node : TermNode)
        → AreUnder names n → See names xs → Stand n (node_table types names n k node).binders → TreesStand all k (terms_in_each (placed_parts bs xs s node))
        → Along Told (node_table types names n k node).places (terms_in_each (placed_parts bs xs s node))
    node_rows types names n k bs xs s tree.true_term under seen stand there = tt
    node_rows types names n k bs xs s tree.false_term under seen stand there = tt
    node_rows types names n k bs xs s tree.unit_term under seen stand there = tt
    node_rows types names n k bs xs s (tree.variable (word x r)) under seen stand there = tt
    node_rows types names n k bs xs s (tree.numeral (word x r)) under seen stand there = tt
    node_rows types names n k bs xs s (tree.lambda (bound b r) u t) under seen stand there =
        let own = binder_row b r names n (lambda_at (behind k t)) in
        let body = term_table types (entry b n n ∷ names) (n + 1) k t in
        let scope = written (expansion bs u) ∷ s in
        let part = placed_term bs (b ∷ xs) scope t in
        let count = plus own (type_uses types u) 1 0 refl (type_binders types u) in
        let front = rows_left whole.binders n own (type_uses types u) (rows_left whole.binders n (own ⊕ type_uses types u) body stand) in
        one_row Told (own ⊕ type_uses types u ⊕ body).places part
        (back_alone Told (own ⊕ type_uses types u) body (terms_in part) (places-plus own (type_uses types u) 0 0 refl (type_places types u))
        (term_rows types (entry b n n ∷ names) (n + 1) k bs (b ∷ xs) scope t (omega arith)
        (one_more name whole.binders b r names n n n (lambda_at (behind k t)) b xs [] refl under front seen)
        (rows_right whole.binders n (n + 1) (own ⊕ type_uses types u) body (omega arith) stand) (first_stands all k part no_parts there)))
    node_rows types names n k bs xs s (tree.if_term c t u) under seen stand there =
        let second = n + binders_in c in
        let third = n + binders_in c + binders_in t in
        let one = term_table types names n k c in
        let two = term_table types names second (behind k c) t in
        let three = term_table types names third (behind (behind k c) t) u in
        let count_one = term_binders types names n k c in
        let count_two = plus one two (binders_in c) (binders_in t) count_one (term_binders types names second (behind k c) t) in
        let front = rows_left whole.binders n (one ⊕ two) three stand in
        let at_one = placed_term bs xs s c in
        let at_two = placed_term bs xs s t in
        let at_three = placed_term bs xs s u in
        let size_one = terms_counted bs xs s c in
        let size_two = terms_counted bs xs s t in
        let rest = rest_stand all k (behind k c) at_one (two_parts at_two at_three) (omega arith) there in
        let last = rest_stand all (behind k c) (behind (behind k c) t) at_two (one_part at_three) (omega arith) rest in
        three_rows Told one two three at_one at_two at_three
        (term_rows types names n k bs xs s c under seen (rows_left whole.binders n one two front) (first_stands all k at_one (two_parts at_two at_three) there))
        (term_rows types names second (behind k c) bs xs s t (under_more names n second (omega arith) under) seen (rows_right whole.binders n second one two (omega arith) front) (first_stands all (behind k c) at_two (one_part at_three) rest))
        (term_rows types names third (behind (behind k c) t) bs xs s u (under_more names n third (omega arith) under) seen (rows_right whole.binders n third (one ⊕ two) three (omega arith) stand) (first_stands all (behind (behind k c) t) at_three no_parts last))
    node_rows types names n k bs xs s (tree.let_term (bound b r) t u) under seen stand there =
        let own = binder_row b r names n (term_at (root k t)) in
        let one = term_table types names (n + 1) k t in
        let after = n + 1 + binders_in t in
        let two = term_table types (entry b n n ∷ names) after (behind k t) u in
        let count = plus own one 1 (binders_in t) refl (term_binders types names (n + 1) k t) in
        let front = rows_left whole.binders n (own ⊕ one) two stand in
        let scope = of_term (nameless bs xs t) ∷ s in
        let at_one = placed_term bs xs s t in
        let at_two = placed_term bs (b ∷ xs) scope u in
        let size = terms_counted bs xs s t in
        let rest = rest_stand all k (behind k t) at_one (one_part at_two) (omega arith) there in
        two_rows Told (own ⊕ one) two at_one at_two
        (back_alone Told own one (terms_in at_one) refl
        (term_rows types names (n + 1) k bs xs s t (under_more names n (n + 1) (omega arith) under) seen (rows_right whole.binders n (n + 1) own one refl front) (first_stands all k at_one (one_part at_two) there)))
        (term_rows types (entry b n n ∷ names) after (behind k t) bs (b ∷ xs) scope u (omega arith)
        (one_more name whole.binders b r names n n n (term_at (root k t)) b xs [] refl under (rows_left whole.binders n own one front) seen)
        (rows_right whole.binders n after (own ⊕ one) two (omega arith) stand) (first_stands all (behind k t) at_two no_parts rest))
    node_rows types names n k bs xs s (tree.letrec_term (bound b r) w t u) under seen stand there =
        let first = term_table types (entry b n (n + 1) ∷ names) (n + 2) k t in
        let rows = letrec_rows b r names n (root k t) (term_span t) (type_uses types w) first in
        let after = n + 2 + binders_in t in
        let body = term_table types (entry b (n + 1) (n + 1) ∷ names) after (root k t + 3) u in
        let count = letrec_binders b r (term_span t) names n (root k t) (binders_in t) (type_uses types w) first (type_binders types w) (term_binders types (entry b n (n + 1) ∷ names) (n + 2) k t) in
        let own = letrec_first whole.binders b r (term_span t) names n (root k t) (type_uses types w) first (type_binders types w) (rows_left whole.binders n rows body stand) in
        let e = nameless bs (b ∷ xs) t in
        let inner = written (expansion bs w) ∷ s in
        let scope = of_term (fix (letrec_function bs w e)) ∷ s in
        let at_first = placed_term bs (b ∷ xs) inner t in
        let function = placed_at (term_span t) no_word false xs s (letrec_function bs w e) (one_part at_first) in
        let at_one = letrec_fix bs xs s w (term_span t) e at_first in
        let at_two = placed_term bs (b ∷ xs) scope u in
        let size = letrec_counted bs xs s w (term_span t) e at_first (below t + 1) (terms_counted bs (b ∷ xs) inner t) in
        let rest = rest_stand all k (root k t + 3) at_one (one_part at_two) (omega arith) there in
        let parts = letrec_stands all bs xs (b ∷ xs) s inner w (term_span t) e k t (first_stands all k at_one (one_part at_two) there) in
        two_rows Told rows body at_one at_two
        (letrec_told Told b r (term_span t) names n (root k t) (type_uses types w) first bs xs s w e at_first (type_places types w)
        (term_rows types (entry b n (n + 1) ∷ names) (n + 2) k bs (b ∷ xs) inner t (omega arith)
        (one_more name whole.binders b r names n (n + 1) (n + 1) (lambda_at (root k t + 1)) b xs [] refl under own.0 seen) own.2 parts.0)
        (derived_row (term_span t) names xs s (letrec_function bs w e) at_first (root k t) seen (root_stands all bs (b ∷ xs) inner k t parts.0), tt)
        (derived_row (term_span t) names xs s (fix (letrec_function bs w e)) function (root k t + 1) seen parts.1, tt))
        (term_rows types (entry b (n + 1) (n + 1) ∷ names) after (root k t + 3) bs (b ∷ xs) scope u (omega arith)
        (one_more name whole.binders b r names (n + 1) (n + 1) (n + 1) (term_at (root k t + 2)) b xs [] refl (under_more names n (n + 1) (omega arith) under) own.1 seen)
        (rows_right whole.binders n after rows body (omega arith) stand) (first_stands all (root k t + 3) at_two no_parts rest))
    node_rows types names n k bs xs s (tree.prefixed p t) under seen stand there =
        let part = placed_term bs xs s t in
        one_row Told (term_table types names n k t).places part (term_rows types names n k bs xs s t under seen stand (first_stands all k part no_parts there))
    node_rows types names n k bs xs s (tree.apply t u) under seen stand there =
        let second = n + binders_in t in
        let one = term_table types names n k t in
        let two = term_table types names second (behind k t) u in
        let count = term_binders types names n k t in
        let at_one = placed_term bs xs s t in
        let at_two = placed_term bs xs s u in
        let size = terms_counted bs xs s t in
        let rest = rest_stand all k (behind k t) at_one (one_part at_two) (omega arith) there in
        two_rows Told one two at_one at_two
        (term_rows types names n k bs xs s t under seen (rows_left whole.binders n one two stand) (first_stands all k at_one (one_part at_two) there))
        (term_rows types names second (behind k t) bs xs s u (under_more names n second (omega arith) under) seen (rows_right whole.binders n second one two (omega arith) stand) (first_stands all (behind k t) at_two no_parts rest))
    node_rows types names n k bs xs s (tree.project t l) under seen stand there =
        let part = placed_term bs xs s t in
        one_row Told (term_table types names n k t).places part (term_rows types names n k bs xs s t under seen stand (first_stands all k part no_parts there))
    node_rows types names n k bs xs s (tree.ascribe t u) under seen stand there =
        let one = term_table types names n k t in
        let part = placed_term bs xs s t in
        one_row Told (one ⊕ type_uses types u).places part
        (front_alone Told one (type_uses types u) (terms_in part) (type_places types u)
        (term_rows types names n k bs xs s t under seen (rows_left whole.binders n one (type_uses types u) stand) (first_stands all k part no_parts there)))
    node_rows types names n k bs xs s (tree.record_term fs) under seen stand there = fields_rows types names n k bs xs s fs under seen stand there

    fields_rows : (types names : List Entry) (n k : ℕ) (bs : List Abbreviation) (xs : List (Option Name)) (s : Scope) (fs : tree.FieldTrees)
        → AreUnder names n → See names xs → Stand n (fields_table types names n k fs).binders → TreesStand all k (terms_in_each (placed_fields bs xs s fs))
        → Along Told (fields_table types names n k fs).places (terms_in_each (placed_fields bs xs s fs))
    fields_rows types names n k bs xs s tree.no_fields under seen stand there = tt
    fields_rows types names n k bs xs s (tree.field l t fs) under seen stand there =
        let second = n + binders_in t in
        let one = term_table types names n k t in
        let two = fields_table types names second (behind k t) fs in
        let count = term_binders types names n k t in
        let part = placed_term bs xs s t in
        let others = placed_fields bs xs s fs in
        let size = terms_counted bs xs s t in
        both Told one two (terms_in part) (terms_in_each others)
        (term_rows types names n k bs xs s t under seen (rows_left whole.binders n one two stand) (first_stands all k part others there))
        (fields_rows types names second (behind k t) bs xs s fs (under_more names n second (omega arith) under) seen (rows_right whole.binders n second one two (omega arith) stand) (rest_stand all k (behind k t) part others (omega arith) there))

  commands_rows : (types names : List Entry) (n k i : ℕ) (bs : List Abbreviation) (xs : List (Option Name)) (s : Scope) (cs : List CommandTree)
      → AreUnder names n → See names xs → Stand n (commands_table types names n k i cs).binders → TreesStand all k (commands_terms bs xs s cs)
      → Along Told (commands_table types names n k i cs).places (commands_terms bs xs s cs)
  commands_rows types names n k i bs xs s [] under seen stand there = tt
  commands_rows types names n k i bs xs s (definition (word x r) t ∷ cs) under seen stand there =
      let own = binder_row (Some x) r names n (term_at (root k t)) in
      let one = term_table types names (n + 1) k t in
      let after = n + (1 + binders_in t) in
      let rest = commands_table types (entry (Some x) n n ∷ names) after (k + (below t + 1)) (i + 1) cs in
      let count = plus own one 1 (binders_in t) refl (term_binders types names (n + 1) k t) in
      let front = rows_left whole.binders n (own ⊕ one) rest stand in
      let scope = of_term (nameless bs xs t) ∷ s in
      let first = terms_in (placed_term bs xs s t) in
      let others = commands_terms bs (Some x ∷ xs) scope cs in
      let size = terms_counted bs xs s t in
      both Told (own ⊕ one) rest first others
      (back_alone Told own one first refl
      (term_rows types names (n + 1) k bs xs s t (under_more names n (n + 1) (omega arith) under) seen (rows_right whole.binders n (n + 1) own one refl front) (stand_left (tree_in all) (length all) k first others there)))
      (commands_rows types (entry (Some x) n n ∷ names) after (k + (below t + 1)) (i + 1) bs (Some x ∷ xs) scope cs (omega arith)
      (one_more name whole.binders (Some x) r names n n n (term_at (root k t)) (Some x) xs [] refl under (rows_left whole.binders n own one front) seen)
      (rows_right whole.binders n after (own ⊕ one) rest (omega arith) stand) (stand_right (tree_in all) (length all) k (k + (below t + 1)) first others (omega arith) there))
  commands_rows types names n k i bs xs s (declaration (word x r) u ∷ cs) under seen stand there =
      let own = binder_row (Some x) r names n (Declaration i) in
      let rest = commands_table types (entry (Some x) n n ∷ names) (n + 1) (k + 0) (i + 1) cs in
      let count = plus own (type_uses types u) 1 0 refl (type_binders types u) in
      let scope = written (expansion bs u) ∷ s in
      let others = commands_terms bs (Some x ∷ xs) scope cs in
      back_alone Told (own ⊕ type_uses types u) rest others (places-plus own (type_uses types u) 0 0 refl (type_places types u))
      (commands_rows types (entry (Some x) n n ∷ names) (n + 1) (k + 0) (i + 1) bs (Some x ∷ xs) scope cs (omega arith)
      (one_more name whole.binders (Some x) r names n n n (Declaration i) (Some x) xs [] refl under (rows_left whole.binders n own (type_uses types u) (rows_left whole.binders n (own ⊕ type_uses types u) rest stand)) seen)
      (rows_right whole.binders n (n + 1) (own ⊕ type_uses types u) rest (omega arith) stand) (stand_right (tree_in all) (length all) k (k + 0) [] others (omega arith) there))
  commands_rows types names n k i bs xs s (tree.abbreviation (word x r) u ∷ cs) under seen stand there =
      let c = tree.abbreviation (word x r) u in
      let own = binder_row (Some x) r types n TypeName in
      let rest = commands_table (entry (Some x) n n ∷ types) names (n + 1) (k + 0) (i + 1) cs in
      let count = plus own (type_uses types u) 1 0 refl (type_binders types u) in
      let others = commands_terms (abbreviations_after bs c) xs s cs in
      back_alone Told (own ⊕ type_uses types u) rest others (places-plus own (type_uses types u) 0 0 refl (type_places types u))
      (commands_rows (entry (Some x) n n ∷ types) names (n + 1) (k + 0) (i + 1) (abbreviations_after bs c) xs s cs (under_more names n (n + 1) (omega arith) under) seen
      (rows_right whole.binders n (n + 1) (own ⊕ type_uses types u) rest (omega arith) stand) (stand_right (tree_in all) (length all) k (k + 0) [] others (omega arith) there))
  commands_rows types names n k i bs xs s (evaluation t ∷ cs) under seen stand there =
      let one = term_table types names n k t in
      let after = n + binders_in t in
      let rest = commands_table types names after (k + (below t + 1)) (i + 1) cs in
      let count = term_binders types names n k t in
      let first = terms_in (placed_term bs xs s t) in
      let others = commands_terms bs xs s cs in
      let size = terms_counted bs xs s t in
      both Told one rest first others
      (term_rows types names n k bs xs s t under seen (rows_left whole.binders n one rest stand) (stand_left (tree_in all) (length all) k first others there))
      (commands_rows types names after (k + (below t + 1)) (i + 1) bs xs s cs (under_more names n after (omega arith) under) seen (rows_right whole.binders n after one rest (omega arith) stand)
      (stand_right (tree_in all) (length all) k (k + (below t + 1)) first others (omega arith) there))

-- the row and the term of a number

told_numbered : (whole : Table) (all : List PlacedTree) (ps : List TextPlace) (ts : List PlacedTree) (n : ℕ) → Along (IsRowOf whole all) ps ts → IsRowOf whole all (place_at_number ps n) (tree_in ts n)
told_numbered whole all [] [] n h = record { span = refl; derived = refl; names = refl; parts = refl }
told_numbered whole all (p ∷ ps) (t ∷ ts) zero h = h.0
told_numbered whole all (p ∷ ps) (t ∷ ts) (suc n) h = told_numbered whole all ps ts n h.1
told_numbered whole all [] (t ∷ ts) n h = absurd h
told_numbered whole all (p ∷ ps) [] n h = absurd h

as_long : {A B : Type 0} (R : A → B → Type 0) (xs : List A) (ys : List B) → Along R xs ys → length xs ≡ length ys
as_long R [] [] h = refl
as_long R (x ∷ xs) (y ∷ ys) h = ap suc (as_long R xs ys h.1)
as_long R [] (y ∷ ys) h = absurd h
as_long R (x ∷ xs) [] h = absurd h

pub document_rows : (cs : List CommandTree) → Along (IsRowOf (table cs) (document_terms cs)) (table cs).places (document_terms cs)
document_rows cs = commands_rows (table cs) (document_terms cs) [] [] 0 0 0 [] [] [] cs tt tt (all_stand (table cs).binders) (stand_all (tree_in [] 0) (document_terms cs))

pub row_told : (cs : List CommandTree) (n : ℕ) → IsRowOf (table cs) (document_terms cs) (place_at_number (table cs).places n) (tree_in (document_terms cs) n)
row_told cs n = told_numbered (table cs) (document_terms cs) (table cs).places (document_terms cs) n (document_rows cs)

pub as_many_rows : (cs : List CommandTree) → length (table cs).places ≡ length (document_terms cs)
as_many_rows cs = as_long (IsRowOf (table cs) (document_terms cs)) (table cs).places (document_terms cs) (document_rows cs)

pub as_many_terms : (r : Rows) (cs : List CommandTree) → rows_of r ≡ table cs → length r.places.items ≡ length (document_terms cs)
as_many_terms r cs same = sym (sliced-length terms_start text_place r.terms.items r.places.items) ∙ ap (λ t. length t.places) same ∙ as_many_rows cs
