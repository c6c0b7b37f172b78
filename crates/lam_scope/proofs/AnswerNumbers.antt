-- The binder given as the answer for a binder is one of the same table.
use Rattle.std.proofs.Common.{◌≡◌, ℕ, ◌+◌, ◌<◌, List, [], ◌∷◌, length, zero, suc, refl, subst, arith, true, false, Option, Some}
use Rattle.std.specs.List.{AllByRecursion}
use Rattle.std.proofs.lemmas.List.{get_or_default}
use Rattle.lam_token.specs.declared.span.Span.{Span}
use Rattle.lam_syntax.specs.Trees as tree
use Rattle.lam_syntax.specs.Trees.{word, bound, TypeTree, TermTree, term_tree, TermNode, CommandTree, definition, declaration, evaluation, term_span}
use Rattle.lam_scope.specs.declared.numbers.Origin.{Origin}
use Rattle.lam_scope.specs.declared.numbers.Origin.TheVariants.{Declaration, TypeName}
use Rattle.lam_scope.specs.Names.{Name}
use Rattle.lam_scope.specs.Sights.{lambda_at, term_at}
use Rattle.lam_scope.specs.Tables.{TextBinder, Table, ◌⊕◌, Entry, entry, binder_row, place_row, root, behind, roots, below, binders_in, type_uses, term_table, node_table, fields_table, letrec_rows, commands_table, table, binder_in, binder_numbered}
use Rattle.lam_scope.proofs.EveryElement.{every_append}
use Rattle.lam_scope.proofs.BinderRows.{plus, type_binders, letrec_binders, term_binders, BindersStand, all_stand, rows_left, rows_right, letrec_first}

module _ (bs : List TextBinder) where
  abbrev IsWithin : TextBinder → Type 0
  IsWithin r = r.answer < length bs

  abbrev AreWithin : Table → Type 0
  AreWithin t = AllByRecursion IsWithin t.binders

  both_within : (s t : Table) → AreWithin s → AreWithin t → AreWithin (s ⊕ t)
  unfolding ◌⊕◌
  both_within s t g h = every_append IsWithin s.binders t.binders g h

  none_within : (rows : List TextBinder) → length rows ≡ 0 → AllByRecursion IsWithin rows
  none_within [] e = tt
  none_within (r ∷ rows) e = absurd (omega arith)

  types_within : (types : List Entry) (u : TypeTree) → AreWithin (type_uses types u)
  types_within types u = none_within (type_uses types u).binders (type_binders types u)

  -- a binder that is its own answer, and then one whose answer comes after it
  own_within : (n : ℕ) (x : Option Name) (s : Span) (names : List Entry) (o : Origin) → BindersStand bs n (binder_row x s names n o).binders → AreWithin (binder_row x s names n o)
  own_within n x s names o stand = (stand.0, tt)

  letrec_within : (x : Option Name) (r span : Span) (names : List Entry) (n p : ℕ) (u t : Table) → length u.binders ≡ 0
      → BindersStand bs (n + 1) (binder_row x r names (n + 1) (term_at (p + 2))).binders → AreWithin t → AreWithin (letrec_rows x r names n p span u t)
  letrec_within x r span names n p u t e stand h =
      let one = binder_row x r names (n + 1) (lambda_at (p + 1)) in
      let two = binder_row x r names (n + 1) (term_at (p + 2)) in
      let function = place_row span true (p ∷ []) names in
      let fixed = place_row span true ((p + 1) ∷ []) names in
      both_within (one ⊕ two ⊕ u ⊕ t ⊕ function) fixed
      (both_within (one ⊕ two ⊕ u ⊕ t) function
      (both_within (one ⊕ two ⊕ u) t (both_within (one ⊕ two) u (both_within one two (stand.0, tt) (stand.0, tt)) (none_within u.binders e)) h) tt) tt

  mutual
    term_within : (types names : List Entry) (n k : ℕ) (t : TermTree) → BindersStand bs n (term_table types names n k t).binders → AreWithin (term_table types names n k t)
    term_within types names n k (term_tree s node) stand =
        let own = place_row s false (roots k node) names in
        both_within (node_table types names n k node) own (node_within types names n k node (rows_left bs n (node_table types names n k node) own stand)) tt

    node_within : (types names : List Entry) (n k : ℕ) (node : TermNode) → BindersStand bs n (node_table types names n k node).binders → AreWithin (node_table types names n k node)
    node_within types names n k tree.true_term stand = tt
    node_within types names n k tree.false_term stand = tt
    node_within types names n k tree.unit_term stand = tt
    node_within types names n k (tree.numeral w) stand = tt
    node_within types names n k (tree.variable (word x s)) stand = tt
    node_within types names n k (tree.lambda (bound x s) u t) stand =
        let row = binder_row x s names n (lambda_at (behind k t)) in
        let front = row ⊕ type_uses types u in
        let body = term_table types (entry x n n ∷ names) (n + 1) k t in
        let count = plus row (type_uses types u) 1 0 refl (type_binders types u) in
        both_within front body
        (both_within row (type_uses types u) (own_within n x s names (lambda_at (behind k t)) (rows_left bs n row (type_uses types u) (rows_left bs n front body stand))) (types_within types u))
        (term_within types (entry x n n ∷ names) (n + 1) k t (rows_right bs n (n + 1) front body (omega arith) stand))
    node_within types names n k (tree.if_term c t u) stand =
        let second = n + binders_in c in
        let third = n + binders_in c + binders_in t in
        let one = term_table types names n k c in
        let two = term_table types names second (behind k c) t in
        let three = term_table types names third (behind (behind k c) t) u in
        let count = plus one two (binders_in c) (binders_in t) (term_binders types names n k c) (term_binders types names second (behind k c) t) in
        let first = term_binders types names n k c in
        let front = rows_left bs n (one ⊕ two) three stand in
        both_within (one ⊕ two) three
        (both_within one two (term_within types names n k c (rows_left bs n one two front)) (term_within types names second (behind k c) t (rows_right bs n second one two (omega arith) front)))
        (term_within types names third (behind (behind k c) t) u (rows_right bs n third (one ⊕ two) three (omega arith) stand))
    node_within types names n k (tree.let_term (bound x s) t u) stand =
        let last = n + 1 + binders_in t in
        let row = binder_row x s names n (term_at (root k t)) in
        let one = term_table types names (n + 1) k t in
        let two = term_table types (entry x n n ∷ names) last (behind k t) u in
        let count = plus row one 1 (binders_in t) refl (term_binders types names (n + 1) k t) in
        let front = rows_left bs n (row ⊕ one) two stand in
        both_within (row ⊕ one) two
        (both_within row one (own_within n x s names (term_at (root k t)) (rows_left bs n row one front)) (term_within types names (n + 1) k t (rows_right bs n (n + 1) row one refl front)))
        (term_within types (entry x n n ∷ names) last (behind k t) u (rows_right bs n last (row ⊕ one) two (omega arith) stand))
    node_within types names n k (tree.letrec_term (bound x s) w t u) stand =
        let last = n + 2 + binders_in t in
        let first = term_table types (entry x n (n + 1) ∷ names) (n + 2) k t in
        let rows = letrec_rows x s names n (root k t) (term_span t) (type_uses types w) first in
        let body = term_table types (entry x (n + 1) (n + 1) ∷ names) last (root k t + 3) u in
        let count = letrec_binders x s (term_span t) names n (root k t) (binders_in t) (type_uses types w) first (type_binders types w) (term_binders types (entry x n (n + 1) ∷ names) (n + 2) k t) in
        let parts = letrec_first bs x s (term_span t) names n (root k t) (type_uses types w) first (type_binders types w) (rows_left bs n rows body stand) in
        both_within rows body
        (letrec_within x s (term_span t) names n (root k t) (type_uses types w) first (type_binders types w) parts.1 (term_within types (entry x n (n + 1) ∷ names) (n + 2) k t parts.2))
        (term_within types (entry x (n + 1) (n + 1) ∷ names) last (root k t + 3) u (rows_right bs n last rows body (omega arith) stand))
    node_within types names n k (tree.prefixed p t) stand = term_within types names n k t stand
    node_within types names n k (tree.apply t u) stand =
        let second = n + binders_in t in
        let one = term_table types names n k t in
        let two = term_table types names second (behind k t) u in
        let count = term_binders types names n k t in
        both_within one two (term_within types names n k t (rows_left bs n one two stand)) (term_within types names second (behind k t) u (rows_right bs n second one two (omega arith) stand))
    node_within types names n k (tree.project t l) stand = term_within types names n k t stand
    node_within types names n k (tree.ascribe t u) stand =
        let one = term_table types names n k t in
        both_within one (type_uses types u) (term_within types names n k t (rows_left bs n one (type_uses types u) stand)) (types_within types u)
    node_within types names n k (tree.record_term fs) stand = fields_within types names n k fs stand

    fields_within : (types names : List Entry) (n k : ℕ) (fs : tree.FieldTrees) → BindersStand bs n (fields_table types names n k fs).binders → AreWithin (fields_table types names n k fs)
    fields_within types names n k tree.no_fields stand = tt
    fields_within types names n k (tree.field l t fs) stand =
        let second = n + binders_in t in
        let one = term_table types names n k t in
        let two = fields_table types names second (behind k t) fs in
        let count = term_binders types names n k t in
        both_within one two (term_within types names n k t (rows_left bs n one two stand)) (fields_within types names second (behind k t) fs (rows_right bs n second one two (omega arith) stand))

  commands_within : (types names : List Entry) (n k i : ℕ) (cs : List CommandTree) → BindersStand bs n (commands_table types names n k i cs).binders → AreWithin (commands_table types names n k i cs)
  commands_within types names n k i [] stand = tt
  commands_within types names n k i (definition (word x s) t ∷ cs) stand =
      let after = n + (1 + binders_in t) in
      let row = binder_row (Some x) s names n (term_at (root k t)) in
      let one = term_table types names (n + 1) k t in
      let rest = commands_table types (entry (Some x) n n ∷ names) after (k + (below t + 1)) (i + 1) cs in
      let count = plus row one 1 (binders_in t) refl (term_binders types names (n + 1) k t) in
      let front = rows_left bs n (row ⊕ one) rest stand in
      both_within (row ⊕ one) rest
      (both_within row one (own_within n (Some x) s names (term_at (root k t)) (rows_left bs n row one front)) (term_within types names (n + 1) k t (rows_right bs n (n + 1) row one refl front)))
      (commands_within types (entry (Some x) n n ∷ names) after (k + (below t + 1)) (i + 1) cs (rows_right bs n after (row ⊕ one) rest (omega arith) stand))
  commands_within types names n k i (declaration (word x s) u ∷ cs) stand =
      let row = binder_row (Some x) s names n (Declaration i) in
      let rest = commands_table types (entry (Some x) n n ∷ names) (n + 1) (k + 0) (i + 1) cs in
      let count = plus row (type_uses types u) 1 0 refl (type_binders types u) in
      both_within (row ⊕ type_uses types u) rest
      (both_within row (type_uses types u) (own_within n (Some x) s names (Declaration i) (rows_left bs n row (type_uses types u) (rows_left bs n (row ⊕ type_uses types u) rest stand))) (types_within types u))
      (commands_within types (entry (Some x) n n ∷ names) (n + 1) (k + 0) (i + 1) cs (rows_right bs n (n + 1) (row ⊕ type_uses types u) rest (omega arith) stand))
  commands_within types names n k i (tree.abbreviation (word x s) u ∷ cs) stand =
      let row = binder_row (Some x) s types n TypeName in
      let rest = commands_table (entry (Some x) n n ∷ types) names (n + 1) (k + 0) (i + 1) cs in
      let count = plus row (type_uses types u) 1 0 refl (type_binders types u) in
      both_within (row ⊕ type_uses types u) rest
      (both_within row (type_uses types u) (own_within n (Some x) s types TypeName (rows_left bs n row (type_uses types u) (rows_left bs n (row ⊕ type_uses types u) rest stand))) (types_within types u))
      (commands_within (entry (Some x) n n ∷ types) names (n + 1) (k + 0) (i + 1) cs (rows_right bs n (n + 1) (row ⊕ type_uses types u) rest (omega arith) stand))
  commands_within types names n k i (evaluation t ∷ cs) stand =
      let after = n + binders_in t in
      let one = term_table types names n k t in
      let rest = commands_table types names after (k + (below t + 1)) (i + 1) cs in
      let count = term_binders types names n k t in
      both_within one rest (term_within types names n k t (rows_left bs n one rest stand)) (commands_within types names after (k + (below t + 1)) (i + 1) cs (rows_right bs n after one rest (omega arith) stand))

-- the row with an index

row_within : (m : ℕ) (rows : List TextBinder) (n : ℕ) → n < length rows → AllByRecursion (λ r. r.answer < m) rows → (binder_in rows n).answer < m
row_within m [] n lt h = absurd (omega arith)
row_within m (r ∷ rows) zero lt h = h.0
row_within m (r ∷ rows) (suc n) lt h = subst (λ (d : TextBinder). d.answer < m) (same rows n (omega arith)) (row_within m rows n (omega arith) h.1)
  where
    same : (rows : List TextBinder) (n : ℕ) → n < length rows → binder_in rows n ≡ binder_in (r ∷ rows) (suc n)
    same rows n lt = get_or_default rows n _ _ lt

pub answer_within : (cs : List CommandTree) (n : ℕ) → n < length (table cs).binders → (binder_numbered (table cs) n).answer < length (table cs).binders
answer_within cs n lt =
    let bs = (table cs).binders in
    row_within (length bs) bs n lt (commands_within bs [] [] 0 0 0 cs (all_stand bs))
