-- With a new name for a binder the commands keep their nameless form just where each use in their table finds its binder.
use Rattle.std.proofs.Common.{◌≡◌, ℕ, ◌+◌, ◌<◌, ◌≤◌, List, [], ◌∷◌, refl, ap, sym, ◌∙◌, arith, Bool, true, false, ◌&&◌, Option, Some}
use Rattle.std.specs.List.{list_all}
use Rattle.std.proofs.lemmas.List.Folds.{list_all-append}
use Rattle.lam_token.specs.declared.span.Span.{Span}
use Rattle.lam_syntax.specs.Trees as tree
use Rattle.lam_syntax.specs.Trees.{word, bound, TypeTree, type_tree, TypeNode, named, arrow, record_type, TypeFields, no_type_fields, type_field, TermTree, term_tree, TermNode, CommandTree, definition, declaration, evaluation, term_span}
use Rattle.lam_scope.specs.declared.numbers.Origin.{Origin}
use Rattle.lam_scope.specs.declared.numbers.Origin.TheVariants.{Declaration, TypeName}
use Rattle.lam_scope.specs.Names.{Name, index_of}
use Rattle.lam_scope.specs.Sights.{lambda_at, term_at}
use Rattle.lam_scope.specs.Tables.{TextBinder, TextUse, Table, ◌⊕◌, Entry, entry, entry_names, binder_row, use_row, place_row, root, behind, roots, below, binders_in, type_uses, node_uses, field_uses, term_table, node_table, fields_table, letrec_rows, commands_table, table, binder_in}
use Rattle.lam_scope.specs.Forms.{use_form, named_form, arrow_form, record_type_form, type_field_form, type_form, type_node_form, type_field_forms, variable_form, lambda_form, if_form, let_form, letrec_form, prefixed_form, apply_form, project_form, ascribe_form, record_form, field_form, term_form, node_form, field_forms, definition_form, declaration_form, abbreviation_form, evaluation_form, forms_from}
use Rattle.lam_scope.specs.Renames.{renamed_use, renamed_type, renamed_type_node, renamed_type_fields, renamed_term, renamed_node, renamed_fields, renamed_from, KeepsBinding}
use Rattle.lam_scope.specs.inner.Bearers.{bearers, keeps, all_keep}
use Rattle.lam_scope.proofs.BinderRows.{plus, type_binders, letrec_binders, term_binders, BindersStand, all_stand, rows_left, rows_right, letrec_first}
use Rattle.lam_scope.proofs.NewNames.{renamed_entries, AreInSight, in_sight_more, form_if_kept, kept_if_form}

-- ---- what holds just where the uses of a table pass a test

abbrev Just : (TextUse → Bool) → Table → Type 0 → Type 0
Just f t A = (A → list_all f t.uses ≡ true) × (list_all f t.uses ≡ true → A)

and_both : (a b : Bool) → a ≡ true → b ≡ true → (a && b) ≡ true
and_both true b e h = h
and_both false b e h = cc

and_parts : (a b : Bool) → (a && b) ≡ true → (a ≡ true) × (b ≡ true)
and_parts true b e = (refl, e)
and_parts false b e = cc

module _ (f : TextUse → Bool) where
  just_both : (s t : Table) {A B C : Type 0} → (C → A × B) → (A → B → C) → Just f s A → Just f t B → Just f (s ⊕ t) C
  unfolding ◌⊕◌
  just_both s t parts whole g h = (
    (λ c. list_all-append f s.uses t.uses ∙ and_both (list_all f s.uses) (list_all f t.uses) (g.0 (parts c).0) (h.0 (parts c).1)),
    (λ e. let both = and_parts (list_all f s.uses) (list_all f t.uses) (sym (list_all-append f s.uses t.uses) ∙ e) in whole (g.1 both.0) (h.1 both.1)),
  )

  -- where one of two tables has no use
  just_none : (t : Table) → list_all f t.uses ≡ true → Just f t (Unit {0})
  just_none t none = ((λ u. none), (λ e. tt))

  just_front : (s t : Table) {A : Type 0} → list_all f t.uses ≡ true → Just f s A → Just f (s ⊕ t) A
  just_front s t {A} none g = just_both s t {A = A} {B = Unit {0}} (λ a. (a, tt)) (λ a u. a) g (just_none t none)

  just_back : (s t : Table) {A : Type 0} → list_all f s.uses ≡ true → Just f t A → Just f (s ⊕ t) A
  just_back s t {A} none g = just_both s t {A = Unit {0}} {B = A} (λ a. (tt, a)) (λ u a. a) (just_none s none) g

  just_as : (t : Table) {A C : Type 0} → (C → A) → (A → C) → Just f t A → Just f t C
  just_as t part whole g = ((λ c. g.0 (part c)), (λ e. whole (g.1 e)))

  two_binders : (x : Option Name) (r : Span) (names : List Entry) (n : ℕ) (o p : Origin) → list_all f (binder_row x r names n o ⊕ binder_row x r names n p).uses ≡ true
  unfolding ◌⊕◌
  two_binders x r names n o p = refl

  just_letrec : (x : Option Name) (r span : Span) (names : List Entry) (n p : ℕ) (u t : Table) {A B : Type 0} → Just f u A → Just f t B → Just f (letrec_rows x r names n p span u t) (A × B)
  just_letrec x r span names n p u t g h =
      let one = binder_row x r names (n + 1) (lambda_at (p + 1)) in
      let two = binder_row x r names (n + 1) (term_at (p + 2)) in
      let function = place_row span true (p ∷ []) names in
      let fixed = place_row span true ((p + 1) ∷ []) names in
      just_front (one ⊕ two ⊕ u ⊕ t ⊕ function) fixed refl
      (just_front (one ⊕ two ⊕ u ⊕ t) function refl
      (just_both (one ⊕ two ⊕ u) t (λ c. c) (λ a b. (a, b)) (just_back (one ⊕ two) u (two_binders x r names (n + 1) (lambda_at (p + 1)) (term_at (p + 2))) g) h))

-- ---- one more binder is in sight

entered : (bs : List TextBinder) (n a m : ℕ) (x : Option Name) (s : Span) (names : List Entry) (o : Origin) → n ≤ a → a < m → (binder_in bs a).name ≡ x
    → BindersStand bs n (binder_row x s names a o).binders → AreInSight bs n names → AreInSight bs m (entry x n a ∷ names)
entered bs n a m x s names o own before shared stand sight = (
  record { inside = stand.0; own = own; before = before; outer_is = ap (λ b. b.outer) stand.1; name_is = ap (λ b. b.name) stand.1; answer_is = ap (λ b. b.answer) stand.1; shared = shared },
  sight,
)

-- a binder that is its own answer
entered_own : (bs : List TextBinder) (n m : ℕ) (x : Option Name) (s : Span) (names : List Entry) (o : Origin) → n < m
    → BindersStand bs n (binder_row x s names n o).binders → AreInSight bs n names → AreInSight bs m (entry x n n ∷ names)
entered_own bs n m x s names o before stand sight = entered bs n n m x s names o (omega arith) before (ap (λ b. b.name) stand.1) stand sight

-- ---- trees

module _ (b : ℕ) (new : Name) (bs : List TextBinder) where
  abbrev kept : TextUse → Bool
  kept = keeps b new bs (bearers b new bs)

  -- the names in sight after the rename
  abbrev later : List Entry → List (Option Name)
  later es = entry_names (renamed_entries b new es)

  use_kept : (n : ℕ) (x : Name) (s : Span) (es : List Entry) → AreInSight bs n es
      → Just kept (use_row x s es) (use_form (renamed_use b new es x) (index_of (renamed_use b new es x) (later es)) ≡ use_form x (index_of x (entry_names es)))
  use_kept n x s es sight = (
    (λ same. and_both _ true (kept_if_form b new bs n x s es sight same) refl),
    (λ e. form_if_kept b new bs n x s es sight (and_parts _ true e).0),
  )

  mutual
    type_kept : (n : ℕ) (types : List Entry) (u : TypeTree) → AreInSight bs n types → Just kept (type_uses types u) (type_form (later types) (renamed_type b new types u) ≡ type_form (entry_names types) u)
    type_kept n types (type_tree s node) sight = type_node_kept n types node sight

    type_node_kept : (n : ℕ) (types : List Entry) (node : TypeNode) → AreInSight bs n types
        → Just kept (node_uses types node) (type_node_form (later types) (renamed_type_node b new types node) ≡ type_node_form (entry_names types) node)
    type_node_kept n types tree.bool sight = ((λ e. refl), (λ e. refl))
    type_node_kept n types tree.nat sight = ((λ e. refl), (λ e. refl))
    type_node_kept n types tree.unit sight = ((λ e. refl), (λ e. refl))
    type_node_kept n types tree.top sight = ((λ e. refl), (λ e. refl))
    type_node_kept n types (named (word x s)) sight = just_as kept (use_row x s types) (λ e. cc) (λ e. ap named_form e) (use_kept n x s types sight)
    type_node_kept n types (arrow t u) sight =
        just_both kept (type_uses types t) (type_uses types u) (λ e. (cc, cc)) (λ p q i. arrow_form (p i) (q i)) (type_kept n types t sight) (type_kept n types u sight)
    type_node_kept n types (record_type fs) sight = just_as kept (field_uses types fs) (λ e. cc) (λ e. ap record_type_form e) (type_fields_kept n types fs sight)

    type_fields_kept : (n : ℕ) (types : List Entry) (fs : TypeFields) → AreInSight bs n types
        → Just kept (field_uses types fs) (type_field_forms (later types) (renamed_type_fields b new types fs) ≡ type_field_forms (entry_names types) fs)
    type_fields_kept n types no_type_fields sight = ((λ e. refl), (λ e. refl))
    type_fields_kept n types (type_field (word l s) t fs) sight =
        just_both kept (type_uses types t) (field_uses types fs) (λ e. (cc, cc)) (λ p q i. type_field_form l (p i) (q i)) (type_kept n types t sight) (type_fields_kept n types fs sight)

  mutual
    term_kept : (types names : List Entry) (n k : ℕ) (t : TermTree) → BindersStand bs n (term_table types names n k t).binders → AreInSight bs n types → AreInSight bs n names
        → Just kept (term_table types names n k t) (term_form (later types) (later names) (renamed_term b new types names n t) ≡ term_form (entry_names types) (entry_names names) t)
    term_kept types names n k (term_tree s node) stand ts ns =
        let own = place_row s false (roots k node) names in
        just_front kept (node_table types names n k node) own refl (node_kept types names n k node (rows_left bs n (node_table types names n k node) own stand) ts ns)

    node_kept : (types names : List Entry) (n k : ℕ) (node : TermNode) → BindersStand bs n (node_table types names n k node).binders → AreInSight bs n types → AreInSight bs n names
        → Just kept (node_table types names n k node) (node_form (later types) (later names) (renamed_node b new types names n node) ≡ node_form (entry_names types) (entry_names names) node)
    node_kept types names n k tree.true_term stand ts ns = ((λ e. refl), (λ e. refl))
    node_kept types names n k tree.false_term stand ts ns = ((λ e. refl), (λ e. refl))
    node_kept types names n k tree.unit_term stand ts ns = ((λ e. refl), (λ e. refl))
    node_kept types names n k (tree.numeral (word x s)) stand ts ns = ((λ e. refl), (λ e. refl))
    node_kept types names n k (tree.variable (word x s)) stand ts ns = just_as kept (use_row x s names) (λ e. cc) (λ e. ap variable_form e) (use_kept n x s names ns)
    node_kept types names n k (tree.lambda (bound x s) u t) stand ts ns =
        let row = binder_row x s names n (lambda_at (behind k t)) in
        let front = row ⊕ type_uses types u in
        let body = term_table types (entry x n n ∷ names) (n + 1) k t in
        let count = plus row (type_uses types u) 1 0 refl (type_binders types u) in
        let one = entered_own bs n (n + 1) x s names (lambda_at (behind k t)) (omega arith) (rows_left bs n row (type_uses types u) (rows_left bs n front body stand)) ns in
        let inner = term_kept types (entry x n n ∷ names) (n + 1) k t (rows_right bs n (n + 1) front body (omega arith) stand) (in_sight_more bs n (n + 1) types (omega arith) ts) one in
        just_both kept front body (λ e. (cc, cc)) (λ p q i. lambda_form (p i) (q i)) (just_back kept row (type_uses types u) refl (type_kept n types u ts)) inner
    node_kept types names n k (tree.if_term c t u) stand ts ns =
        let second = n + binders_in c in
        let third = n + binders_in c + binders_in t in
        let one = term_table types names n k c in
        let two = term_table types names second (behind k c) t in
        let three = term_table types names third (behind (behind k c) t) u in
        let count = plus one two (binders_in c) (binders_in t) (term_binders types names n k c) (term_binders types names second (behind k c) t) in
        let first = term_binders types names n k c in
        let front = rows_left bs n (one ⊕ two) three stand in
        just_both kept (one ⊕ two) three (λ e. ((cc, cc), cc)) (λ p q i. if_form (p.0 i) (p.1 i) (q i))
        (just_both kept one two (λ p. p) (λ p q. (p, q)) (term_kept types names n k c (rows_left bs n one two front) ts ns)
        (term_kept types names second (behind k c) t (rows_right bs n second one two (omega arith) front) (in_sight_more bs n second types (omega arith) ts) (in_sight_more bs n second names (omega arith) ns)))
        (term_kept types names third (behind (behind k c) t) u (rows_right bs n third (one ⊕ two) three (omega arith) stand) (in_sight_more bs n third types (omega arith) ts) (in_sight_more bs n third names (omega arith) ns))
    node_kept types names n k (tree.let_term (bound x s) t u) stand ts ns =
        let last = n + 1 + binders_in t in
        let row = binder_row x s names n (term_at (root k t)) in
        let one = term_table types names (n + 1) k t in
        let two = term_table types (entry x n n ∷ names) last (behind k t) u in
        let count = plus row one 1 (binders_in t) refl (term_binders types names (n + 1) k t) in
        let front = rows_left bs n (row ⊕ one) two stand in
        let inside = entered_own bs n last x s names (term_at (root k t)) (omega arith) (rows_left bs n row one front) ns in
        just_both kept (row ⊕ one) two (λ e. (cc, cc)) (λ p q i. let_form (p i) (q i))
        (just_back kept row one refl (term_kept types names (n + 1) k t (rows_right bs n (n + 1) row one refl front) (in_sight_more bs n (n + 1) types (omega arith) ts) (in_sight_more bs n (n + 1) names (omega arith) ns)))
        (term_kept types (entry x n n ∷ names) last (behind k t) u (rows_right bs n last (row ⊕ one) two (omega arith) stand) (in_sight_more bs n last types (omega arith) ts) inside)
    node_kept types names n k (tree.letrec_term (bound x s) w t u) stand ts ns =
        let last = n + 2 + binders_in t in
        let first = term_table types (entry x n (n + 1) ∷ names) (n + 2) k t in
        let rows = letrec_rows x s names n (root k t) (term_span t) (type_uses types w) first in
        let body = term_table types (entry x (n + 1) (n + 1) ∷ names) last (root k t + 3) u in
        let count = letrec_binders x s (term_span t) names n (root k t) (binders_in t) (type_uses types w) first (type_binders types w) (term_binders types (entry x n (n + 1) ∷ names) (n + 2) k t) in
        let parts = letrec_first bs x s (term_span t) names n (root k t) (type_uses types w) first (type_binders types w) (rows_left bs n rows body stand) in
        let shared = ap (λ r. r.name) parts.1.1 in
        let function = entered bs n (n + 1) (n + 2) x s names (lambda_at (root k t + 1)) (omega arith) (omega arith) shared parts.0 ns in
        let inside = entered_own bs (n + 1) last x s names (term_at (root k t + 2)) (omega arith) parts.1 (in_sight_more bs n (n + 1) names (omega arith) ns) in
        just_both kept rows body (λ e. ((cc, cc), cc)) (λ p q i. letrec_form (p.0 i) (p.1 i) (q i))
        (just_letrec kept x s (term_span t) names n (root k t) (type_uses types w) first (type_kept n types w ts)
        (term_kept types (entry x n (n + 1) ∷ names) (n + 2) k t parts.2 (in_sight_more bs n (n + 2) types (omega arith) ts) function))
        (term_kept types (entry x (n + 1) (n + 1) ∷ names) last (root k t + 3) u (rows_right bs n last rows body (omega arith) stand) (in_sight_more bs n last types (omega arith) ts) inside)
    node_kept types names n k (tree.prefixed p t) stand ts ns = just_as kept (term_table types names n k t) (λ e. cc) (λ e. ap (prefixed_form p) e) (term_kept types names n k t stand ts ns)
    node_kept types names n k (tree.apply t u) stand ts ns =
        let second = n + binders_in t in
        let one = term_table types names n k t in
        let two = term_table types names second (behind k t) u in
        let count = term_binders types names n k t in
        just_both kept one two (λ e. (cc, cc)) (λ p q i. apply_form (p i) (q i)) (term_kept types names n k t (rows_left bs n one two stand) ts ns)
        (term_kept types names second (behind k t) u (rows_right bs n second one two (omega arith) stand) (in_sight_more bs n second types (omega arith) ts) (in_sight_more bs n second names (omega arith) ns))
    node_kept types names n k (tree.project t (word l s)) stand ts ns =
        just_as kept (term_table types names n k t) (λ e. cc) (λ e. ap (λ p. project_form p l) e) (term_kept types names n k t stand ts ns)
    node_kept types names n k (tree.ascribe t u) stand ts ns =
        let one = term_table types names n k t in
        just_both kept one (type_uses types u) (λ e. (cc, cc)) (λ p q i. ascribe_form (p i) (q i)) (term_kept types names n k t (rows_left bs n one (type_uses types u) stand) ts ns) (type_kept n types u ts)
    node_kept types names n k (tree.record_term fs) stand ts ns =
        just_as kept (fields_table types names n k fs) (λ e. cc) (λ e. ap record_form e) (fields_kept types names n k fs stand ts ns)

    fields_kept : (types names : List Entry) (n k : ℕ) (fs : tree.FieldTrees) → BindersStand bs n (fields_table types names n k fs).binders → AreInSight bs n types → AreInSight bs n names
        → Just kept (fields_table types names n k fs) (field_forms (later types) (later names) (renamed_fields b new types names n fs) ≡ field_forms (entry_names types) (entry_names names) fs)
    fields_kept types names n k tree.no_fields stand ts ns = ((λ e. refl), (λ e. refl))
    fields_kept types names n k (tree.field (word l s) t fs) stand ts ns =
        let second = n + binders_in t in
        let one = term_table types names n k t in
        let two = fields_table types names second (behind k t) fs in
        let count = term_binders types names n k t in
        just_both kept one two (λ e. (cc, cc)) (λ p q i. field_form l (p i) (q i)) (term_kept types names n k t (rows_left bs n one two stand) ts ns)
        (fields_kept types names second (behind k t) fs (rows_right bs n second one two (omega arith) stand) (in_sight_more bs n second types (omega arith) ts) (in_sight_more bs n second names (omega arith) ns))

  -- commands

  commands_kept : (types names : List Entry) (n k i : ℕ) (cs : List CommandTree) → BindersStand bs n (commands_table types names n k i cs).binders → AreInSight bs n types → AreInSight bs n names
      → Just kept (commands_table types names n k i cs) (forms_from (later types) (later names) (renamed_from b new types names n cs) ≡ forms_from (entry_names types) (entry_names names) cs)
  commands_kept types names n k i [] stand ts ns = ((λ e. refl), (λ e. refl))
  commands_kept types names n k i (definition (word x s) t ∷ cs) stand ts ns =
      let after = n + (1 + binders_in t) in
      let row = binder_row (Some x) s names n (term_at (root k t)) in
      let one = term_table types names (n + 1) k t in
      let rest = commands_table types (entry (Some x) n n ∷ names) after (k + (below t + 1)) (i + 1) cs in
      let count = plus row one 1 (binders_in t) refl (term_binders types names (n + 1) k t) in
      let front = rows_left bs n (row ⊕ one) rest stand in
      let inside = entered_own bs n after (Some x) s names (term_at (root k t)) (omega arith) (rows_left bs n row one front) ns in
      just_both kept (row ⊕ one) rest (λ e. (cc, cc)) (λ p q i. definition_form (p i) ∷ q i)
      (just_back kept row one refl (term_kept types names (n + 1) k t (rows_right bs n (n + 1) row one refl front) (in_sight_more bs n (n + 1) types (omega arith) ts) (in_sight_more bs n (n + 1) names (omega arith) ns)))
      (commands_kept types (entry (Some x) n n ∷ names) after (k + (below t + 1)) (i + 1) cs (rows_right bs n after (row ⊕ one) rest (omega arith) stand) (in_sight_more bs n after types (omega arith) ts) inside)
  commands_kept types names n k i (declaration (word x s) u ∷ cs) stand ts ns =
      let row = binder_row (Some x) s names n (Declaration i) in
      let rest = commands_table types (entry (Some x) n n ∷ names) (n + 1) (k + 0) (i + 1) cs in
      let count = plus row (type_uses types u) 1 0 refl (type_binders types u) in
      let inside = entered_own bs n (n + 1) (Some x) s names (Declaration i) (omega arith) (rows_left bs n row (type_uses types u) (rows_left bs n (row ⊕ type_uses types u) rest stand)) ns in
      just_both kept (row ⊕ type_uses types u) rest (λ e. (cc, cc)) (λ p q i. declaration_form (p i) ∷ q i) (just_back kept row (type_uses types u) refl (type_kept n types u ts))
      (commands_kept types (entry (Some x) n n ∷ names) (n + 1) (k + 0) (i + 1) cs (rows_right bs n (n + 1) (row ⊕ type_uses types u) rest (omega arith) stand) (in_sight_more bs n (n + 1) types (omega arith) ts) inside)
  commands_kept types names n k i (tree.abbreviation (word x s) u ∷ cs) stand ts ns =
      let row = binder_row (Some x) s types n TypeName in
      let rest = commands_table (entry (Some x) n n ∷ types) names (n + 1) (k + 0) (i + 1) cs in
      let count = plus row (type_uses types u) 1 0 refl (type_binders types u) in
      let inside = entered_own bs n (n + 1) (Some x) s types TypeName (omega arith) (rows_left bs n row (type_uses types u) (rows_left bs n (row ⊕ type_uses types u) rest stand)) ts in
      just_both kept (row ⊕ type_uses types u) rest (λ e. (cc, cc)) (λ p q i. abbreviation_form (p i) ∷ q i) (just_back kept row (type_uses types u) refl (type_kept n types u ts))
      (commands_kept (entry (Some x) n n ∷ types) names (n + 1) (k + 0) (i + 1) cs (rows_right bs n (n + 1) (row ⊕ type_uses types u) rest (omega arith) stand) inside (in_sight_more bs n (n + 1) names (omega arith) ns))
  commands_kept types names n k i (evaluation t ∷ cs) stand ts ns =
      let after = n + binders_in t in
      let one = term_table types names n k t in
      let rest = commands_table types names after (k + (below t + 1)) (i + 1) cs in
      let count = term_binders types names n k t in
      just_both kept one rest (λ e. (cc, cc)) (λ p q i. evaluation_form (p i) ∷ q i) (term_kept types names n k t (rows_left bs n one rest stand) ts ns)
      (commands_kept types names after (k + (below t + 1)) (i + 1) cs (rows_right bs n after one rest (omega arith) stand) (in_sight_more bs n after types (omega arith) ts) (in_sight_more bs n after names (omega arith) ns))

-- a document keeps its form just where all its uses are kept

pub keeps_if_all : (b : ℕ) (new : Name) (cs : List CommandTree) → all_keep b new (table cs).binders (table cs).uses ≡ true → KeepsBinding b new cs
keeps_if_all b new cs e = (commands_kept b new (table cs).binders [] [] 0 0 0 cs (all_stand (table cs).binders) tt tt).1 e

pub all_if_keeps : (b : ℕ) (new : Name) (cs : List CommandTree) → KeepsBinding b new cs → all_keep b new (table cs).binders (table cs).uses ≡ true
all_if_keeps b new cs e = (commands_kept b new (table cs).binders [] [] 0 0 0 cs (all_stand (table cs).binders) tt tt).0 e
