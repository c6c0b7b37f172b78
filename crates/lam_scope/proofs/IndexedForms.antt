-- The form by the uses that are left is the nameless one: the table of a term has a use for each one that the form comes to, in the same order.
use Rattle.std.proofs.Common.{◌≡◌, ℕ, ◌+◌, List, [], ◌∷◌, ◌++◌, Some, true, false, ap, refl, sym, ◌∙◌, append_assoc}
use Rattle.std.proofs.lemmas.List.{append-nil, drop_all}
use Rattle.lam_rules.specs.Terms.{if_then_else, lambda, apply, ascribe, let_in, record_term, project, term_field, letrec_in}
use Rattle.lam_syntax.specs.Trees as tree
use Rattle.lam_syntax.specs.Trees.{word, bound, TypeTree, type_tree, TypeNode, bool, nat, unit, top, named, arrow, record_type, TypeFields, no_type_fields, type_field, TermTree, term_tree, TermNode, CommandTree, definition, declaration, evaluation, term_span}
use Rattle.lam_syntax.proofs.Shapes.{type_node_of-Bool, type_node_of-Nat, type_node_of-Unit, type_node_of-Top, type_node_of-Named, type_node_of-Arrow, type_node_of-Record}
use Rattle.lam_scope.specs.declared.numbers.Origin.TheVariants.{Declaration, TypeName}
use Rattle.lam_scope.specs.Expansions.{Abbreviation, expansion}
use Rattle.lam_scope.specs.Nameless.{use_indexed, prefixed, nameless, nameless_node, nameless_fields, statement, statements, abbreviations_after, names_after}
use Rattle.lam_scope.specs.Places.{defines, states}
use Rattle.lam_scope.specs.Sights.{lambda_at, term_at}
use Rattle.lam_scope.specs.Tables.{TextUse, Table, ◌⊕◌, Entry, entry, entry_names, binder_row, place_row, root, behind, roots, binders_in, type_uses, node_uses, field_uses, term_table, node_table, fields_table, command_table, commands_table, table, types_seen_after, names_seen_after, binders_in_command, places_in_command}
use Rattle.lam_scope.specs.Indexed.{first_between, past_first, past_type, past_type_node, past_type_fields, past, past_node, past_fields, past_command, past_commands, indexed, indexed_node, indexed_fields, statement_indexed, statements_indexed}
use Rattle.lam_scope.proofs.WrittenTypes.{type_fields_of-drop}

pub ruleset passing = (type_node_of-Bool, type_node_of-Nat, type_node_of-Unit, type_node_of-Top, type_node_of-Named, type_node_of-Arrow, type_node_of-Record, type_fields_of-drop, drop_all)

-- the uses of two tables, one behind the other, and more behind them
split : (s t : Table) (us rest : List TextUse) → us ≡ (s ⊕ t).uses ++ rest → us ≡ s.uses ++ (t.uses ++ rest)
unfolding ◌⊕◌
split s t us rest e = e ∙ append_assoc s.uses t.uses rest

-- written types

mutual
  type_passed : (types : List Entry) (u : TypeTree) (us rest : List TextUse) → us ≡ (type_uses types u).uses ++ rest → past_type u us ≡ rest
  type_passed types (type_tree s n) us rest e = type_node_passed types n us rest e

  type_node_passed : (types : List Entry) (n : TypeNode) (us rest : List TextUse) → us ≡ (node_uses types n).uses ++ rest → past_type_node n us ≡ rest
  type_node_passed types bool us rest e = e
  type_node_passed types nat us rest e = e
  type_node_passed types unit us rest e = e
  type_node_passed types top us rest e = e
  type_node_passed types (named (word x s)) us rest e = ap past_first e
  type_node_passed types (arrow a b) us rest e =
      type_passed types b (past_type a us) rest (type_passed types a us ((type_uses types b).uses ++ rest) (split (type_uses types a) (type_uses types b) us rest e))
  type_node_passed types (record_type fs) us rest e = type_fields_passed types fs us rest e

  type_fields_passed : (types : List Entry) (fs : TypeFields) (us rest : List TextUse) → us ≡ (field_uses types fs).uses ++ rest → past_type_fields fs us ≡ rest
  type_fields_passed types no_type_fields us rest e = e
  type_fields_passed types (type_field l t fs) us rest e =
      type_fields_passed types fs (past_type t us) rest (type_passed types t us ((field_uses types fs).uses ++ rest) (split (type_uses types t) (field_uses types fs) us rest e))

-- terms

mutual
  term_indexed : (types names : List Entry) (n k : ℕ) (bs : List Abbreviation) (t : TermTree) (us rest : List TextUse) → us ≡ (term_table types names n k t).uses ++ rest
      → (indexed bs t us ≡ nameless bs (entry_names names) t) × (past t us ≡ rest)
  term_indexed types names n k bs (term_tree s node) us rest e =
      node_indexed types names n k bs node us rest (split (node_table types names n k node) (place_row s false (roots k node) names) us rest e)

  node_indexed : (types names : List Entry) (n k : ℕ) (bs : List Abbreviation) (node : TermNode) (us rest : List TextUse) → us ≡ (node_table types names n k node).uses ++ rest
      → (indexed_node bs node us ≡ nameless_node bs (entry_names names) node) × (past_node node us ≡ rest)
  node_indexed types names n k bs tree.true_term us rest e = (refl, e)
  node_indexed types names n k bs tree.false_term us rest e = (refl, e)
  node_indexed types names n k bs tree.unit_term us rest e = (refl, e)
  node_indexed types names n k bs (tree.variable (word x r)) us rest e = (ap (λ vs. use_indexed x (first_between vs)) e, ap past_first e)
  node_indexed types names n k bs (tree.numeral (word x r)) us rest e = (refl, e)
  node_indexed types names n k bs (tree.lambda (bound b r) u t) us rest e =
      let own = binder_row b r names n (lambda_at (behind k t)) in
      let body = term_table types (entry b n n ∷ names) (n + 1) k t in
      let type_and_body = split own (type_uses types u) us (body.uses ++ rest) (split (own ⊕ type_uses types u) body us rest e) in
      let one = term_indexed types (entry b n n ∷ names) (n + 1) k bs t (past_type u us) rest (type_passed types u us (body.uses ++ rest) type_and_body) in
      (ap (λ f. lambda (expansion bs u) f) one.0, one.1)
  node_indexed types names n k bs (tree.if_term c t u) us rest e =
      let first = term_table types names n k c in
      let second = term_table types names (n + binders_in c) (behind k c) t in
      let third = term_table types names (n + binders_in c + binders_in t) (behind (behind k c) t) u in
      let all = split first second us (third.uses ++ rest) (split (first ⊕ second) third us rest e) in
      let one = term_indexed types names n k bs c us (second.uses ++ (third.uses ++ rest)) all in
      let two = term_indexed types names (n + binders_in c) (behind k c) bs t (past c us) (third.uses ++ rest) one.1 in
      let three = term_indexed types names (n + binders_in c + binders_in t) (behind (behind k c) t) bs u (past t (past c us)) rest two.1 in
      ((λ i. if_then_else (one.0 i) (two.0 i) (three.0 i)), three.1)
  node_indexed types names n k bs (tree.let_term (bound b r) t u) us rest e =
      let own = binder_row b r names n (term_at (root k t)) in
      let first = term_table types names (n + 1) k t in
      let second = term_table types (entry b n n ∷ names) (n + 1 + binders_in t) (behind k t) u in
      let all = split own first us (second.uses ++ rest) (split (own ⊕ first) second us rest e) in
      let one = term_indexed types names (n + 1) k bs t us (second.uses ++ rest) all in
      let two = term_indexed types (entry b n n ∷ names) (n + 1 + binders_in t) (behind k t) bs u (past t us) rest one.1 in
      ((λ i. let_in (one.0 i) (two.0 i)), two.1)
  node_indexed types names n k bs (tree.letrec_term (bound b r) w t u) us rest e =
      let own = binder_row b r names (n + 1) (lambda_at (root k t + 1)) in
      let lets = binder_row b r names (n + 1) (term_at (root k t + 2)) in
      let written = type_uses types w in
      let first = term_table types (entry b n (n + 1) ∷ names) (n + 2) k t in
      let function = place_row (term_span t) true (root k t ∷ []) names in
      let fixed = place_row (term_span t) true ((root k t + 1) ∷ []) names in
      let second = term_table types (entry b (n + 1) (n + 1) ∷ names) (n + 2 + binders_in t) (root k t + 3) u in
      let behind_first = second.uses ++ rest in
      let before_body = split (own ⊕ lets ⊕ written ⊕ first ⊕ function ⊕ fixed) second us rest e in
      let before_places = split (own ⊕ lets ⊕ written ⊕ first) function us behind_first (split (own ⊕ lets ⊕ written ⊕ first ⊕ function) fixed us behind_first before_body) in
      let all = split own lets us (written.uses ++ (first.uses ++ behind_first)) (split (own ⊕ lets) written us (first.uses ++ behind_first) (split (own ⊕ lets ⊕ written) first us behind_first before_places)) in
      let one = term_indexed types (entry b n (n + 1) ∷ names) (n + 2) k bs t (past_type w us) behind_first (type_passed types w us (first.uses ++ behind_first) all) in
      let two = term_indexed types (entry b (n + 1) (n + 1) ∷ names) (n + 2 + binders_in t) (root k t + 3) bs u (past t (past_type w us)) rest one.1 in
      ((λ i. letrec_in (expansion bs w) (one.0 i) (two.0 i)), two.1)
  node_indexed types names n k bs (tree.prefixed p t) us rest e =
      let one = term_indexed types names n k bs t us rest e in
      (ap (prefixed p) one.0, one.1)
  node_indexed types names n k bs (tree.apply t u) us rest e =
      let first = term_table types names n k t in
      let second = term_table types names (n + binders_in t) (behind k t) u in
      let one = term_indexed types names n k bs t us (second.uses ++ rest) (split first second us rest e) in
      let two = term_indexed types names (n + binders_in t) (behind k t) bs u (past t us) rest one.1 in
      ((λ i. apply (one.0 i) (two.0 i)), two.1)
  node_indexed types names n k bs (tree.project t (word l s)) us rest e =
      let one = term_indexed types names n k bs t us rest e in
      (ap (λ f. project f l) one.0, one.1)
  node_indexed types names n k bs (tree.ascribe t u) us rest e =
      let one = term_indexed types names n k bs t us ((type_uses types u).uses ++ rest) (split (term_table types names n k t) (type_uses types u) us rest e) in
      (ap (λ f. ascribe f (expansion bs u)) one.0, type_passed types u (past t us) rest one.1)
  node_indexed types names n k bs (tree.record_term fs) us rest e =
      let all = fields_indexed types names n k bs fs us rest e in
      (ap record_term all.0, all.1)

  fields_indexed : (types names : List Entry) (n k : ℕ) (bs : List Abbreviation) (fs : tree.FieldTrees) (us rest : List TextUse) → us ≡ (fields_table types names n k fs).uses ++ rest
      → (indexed_fields bs fs us ≡ nameless_fields bs (entry_names names) fs) × (past_fields fs us ≡ rest)
  fields_indexed types names n k bs tree.no_fields us rest e = (refl, e)
  fields_indexed types names n k bs (tree.field (word l s) t fs) us rest e =
      let first = term_table types names n k t in
      let others = fields_table types names (n + binders_in t) (behind k t) fs in
      let one = term_indexed types names n k bs t us (others.uses ++ rest) (split first others us rest e) in
      let all = fields_indexed types names (n + binders_in t) (behind k t) bs fs (past t us) rest one.1 in
      ((λ i. term_field l (one.0 i) (all.0 i)), all.1)

-- commands

command_indexed : (types names : List Entry) (n k i : ℕ) (bs : List Abbreviation) (c : CommandTree) (us rest : List TextUse) → us ≡ (command_table types names n k i c).uses ++ rest
    → (statement_indexed bs c us ≡ statement bs (entry_names names) c) × (past_command c us ≡ rest)
command_indexed types names n k i bs (definition (word x s) t) us rest e =
    let own = binder_row (Some x) s names n (term_at (root k t)) in
    let one = term_indexed types names (n + 1) k bs t us rest (split own (term_table types names (n + 1) k t) us rest e) in
    (ap defines one.0, one.1)
command_indexed types names n k i bs (declaration (word x s) u) us rest e =
    (refl, type_passed types u us rest (split (binder_row (Some x) s names n (Declaration i)) (type_uses types u) us rest e))
command_indexed types names n k i bs (tree.abbreviation (word x s) u) us rest e =
    (refl, type_passed types u us rest (split (binder_row (Some x) s types n TypeName) (type_uses types u) us rest e))
command_indexed types names n k i bs (evaluation t) us rest e =
    let one = term_indexed types names n k bs t us rest e in
    (ap states one.0, one.1)

names_behind : (n : ℕ) (names : List Entry) (c : CommandTree) → entry_names (names_seen_after n names c) ≡ names_after (entry_names names) c
names_behind n names (definition (word x s) t) = refl
names_behind n names (declaration (word x s) u) = refl
names_behind n names (tree.abbreviation (word x s) u) = refl
names_behind n names (evaluation t) = refl

commands_indexed : (types names : List Entry) (n k i : ℕ) (bs : List Abbreviation) (cs : List CommandTree) (us rest : List TextUse) → us ≡ (commands_table types names n k i cs).uses ++ rest
    → (statements_indexed bs cs us ≡ statements bs (entry_names names) cs) × (past_commands cs us ≡ rest)
commands_indexed types names n k i bs [] us rest e = (refl, e)
commands_indexed types names n k i bs (c ∷ cs) us rest e =
    let others = commands_table (types_seen_after n types c) (names_seen_after n names c) (n + binders_in_command c) (k + places_in_command c) (i + 1) cs in
    let one = command_indexed types names n k i bs c us (others.uses ++ rest) (split (command_table types names n k i c) others us rest e) in
    let all = commands_indexed (types_seen_after n types c) (names_seen_after n names c) (n + binders_in_command c) (k + places_in_command c) (i + 1) (abbreviations_after bs c) cs (past_command c us) rest one.1 in
    let named = all.0 ∙ ap (λ xs. statements (abbreviations_after bs c) xs cs) (names_behind n names c) in
    ((λ j. one.0 j ∷ named j), all.1)

pub document_indexed : (cs : List CommandTree) (us : List TextUse) → us ≡ (table cs).uses → statements_indexed [] cs us ≡ statements [] [] cs
document_indexed cs us e = (commands_indexed [] [] 0 0 0 [] cs us [] (e ∙ sym (append-nil (table cs).uses))).0

pub document_passed : (cs : List CommandTree) → past_commands cs (table cs).uses ≡ []
document_passed cs = (commands_indexed [] [] 0 0 0 [] cs (table cs).uses [] (sym (append-nil (table cs).uses))).1
