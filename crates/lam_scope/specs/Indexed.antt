-- The document in nameless form, computed from its uses in text order: the first of the uses left gives the de Bruijn index of a use of a name.
use Rattle.std.specs.Prelude.{ℕ, List, [], ◌∷◌, Option, None}
use Rattle.lam_rules.specs.Terms.{Term, true_term, false_term, if_then_else, numeral, lambda, apply, unit_term, ascribe, let_in, record_term, project, TermFields, no_terms, term_field, letrec_in}
use Rattle.lam_syntax.specs.Trees as tree
use Rattle.lam_syntax.specs.Trees.{word, TypeTree, type_tree, TypeNode, named, arrow, record_type, TypeFields, no_type_fields, type_field, TermTree, term_tree, TermNode, CommandTree, definition, declaration, evaluation}
use Rattle.lam_scope.specs.Expansions.{Abbreviation, expansion}
use Rattle.lam_scope.specs.Nameless.{use_indexed, prefixed, abbreviations_after}
use Rattle.lam_scope.specs.Places.{Statement, defines, declares, abbreviates, states}
use Rattle.lam_scope.specs.Tables.{TextUse}

-- the de Bruijn index of the first use, or none if it is unbound
abbrev pub first_between : List TextUse → Option ℕ
first_between [] = None
first_between (u ∷ us) = u.between

-- the uses after the first one
abbrev pub past_first : List TextUse → List TextUse
past_first [] = []
past_first (u ∷ us) = us

-- the uses after those of a written type
abbrev mutual
  pub past_type : TypeTree → List TextUse → List TextUse
  past_type (type_tree s n) us = past_type_node n us

  -- those after the form of a written type
  pub past_type_node : TypeNode → List TextUse → List TextUse
  past_type_node (named w) us = past_first us
  past_type_node (arrow a b) us = past_type b (past_type a us)
  past_type_node (record_type fs) us = past_type_fields fs us
  past_type_node n us = us

  -- those after the fields of a record type
  pub past_type_fields : TypeFields → List TextUse → List TextUse
  past_type_fields no_type_fields us = us
  past_type_fields (type_field l t fs) us = past_type_fields fs (past_type t us)

-- the uses after those of a term
abbrev mutual
  pub past : TermTree → List TextUse → List TextUse
  past (term_tree s n) us = past_node n us

  -- those after the form of a term
  pub past_node : TermNode → List TextUse → List TextUse
  past_node (tree.variable w) us = past_first us
  past_node (tree.lambda b u t) us = past t (past_type u us)
  past_node (tree.if_term c t u) us = past u (past t (past c us))
  past_node (tree.let_term b t u) us = past u (past t us)
  past_node (tree.letrec_term b w t u) us = past u (past t (past_type w us))
  past_node (tree.prefixed p t) us = past t us
  past_node (tree.apply t u) us = past u (past t us)
  past_node (tree.project t l) us = past t us
  past_node (tree.ascribe t u) us = past_type u (past t us)
  past_node (tree.record_term fs) us = past_fields fs us
  past_node n us = us

  -- those after the terms of a record
  pub past_fields : tree.FieldTrees → List TextUse → List TextUse
  past_fields tree.no_fields us = us
  past_fields (tree.field l t fs) us = past_fields fs (past t us)

-- the uses after those of a command
abbrev pub past_command : CommandTree → List TextUse → List TextUse
past_command (definition w t) us = past t us
past_command (declaration w u) us = past_type u us
past_command (tree.abbreviation w u) us = past_type u us
past_command (evaluation t) us = past t us

-- the uses after those of commands
abbrev pub past_commands : List CommandTree → List TextUse → List TextUse
past_commands [] us = us
past_commands (c ∷ cs) us = past_commands cs (past_command c us)

-- The nameless form of a term under these abbreviations, where its uses begin with the first of these.
abbrev mutual
  pub indexed : List Abbreviation → TermTree → List TextUse → Term
  indexed bs (term_tree s n) us = indexed_node bs n us

  -- that of the form of a term
  pub indexed_node : List Abbreviation → TermNode → List TextUse → Term
  indexed_node bs tree.true_term us = true_term
  indexed_node bs tree.false_term us = false_term
  indexed_node bs tree.unit_term us = unit_term
  indexed_node bs (tree.variable (word x s)) us = use_indexed x (first_between us)
  indexed_node bs (tree.numeral (word x s)) us = numeral x
  indexed_node bs (tree.lambda b u t) us = lambda (expansion bs u) (indexed bs t (past_type u us))
  indexed_node bs (tree.if_term c t u) us = if_then_else (indexed bs c us) (indexed bs t (past c us)) (indexed bs u (past t (past c us)))
  indexed_node bs (tree.let_term b t u) us = let_in (indexed bs t us) (indexed bs u (past t us))
  indexed_node bs (tree.letrec_term b w t u) us = letrec_in (expansion bs w) (indexed bs t (past_type w us)) (indexed bs u (past t (past_type w us)))
  indexed_node bs (tree.prefixed p t) us = prefixed p (indexed bs t us)
  indexed_node bs (tree.apply t u) us = apply (indexed bs t us) (indexed bs u (past t us))
  indexed_node bs (tree.project t (word l s)) us = project (indexed bs t us) l
  indexed_node bs (tree.ascribe t u) us = ascribe (indexed bs t us) (expansion bs u)
  indexed_node bs (tree.record_term fs) us = record_term (indexed_fields bs fs us)

  -- that of the terms of a record, with their labels
  pub indexed_fields : List Abbreviation → tree.FieldTrees → List TextUse → TermFields
  indexed_fields bs tree.no_fields us = no_terms
  indexed_fields bs (tree.field (word l s) t fs) us = term_field l (indexed bs t us) (indexed_fields bs fs (past t us))

-- what a command states
abbrev pub statement_indexed : List Abbreviation → CommandTree → List TextUse → Statement
statement_indexed bs (definition w t) us = defines (indexed bs t us)
statement_indexed bs (declaration w u) us = declares (expansion bs u)
statement_indexed bs (tree.abbreviation w u) us = abbreviates (expansion bs u)
statement_indexed bs (evaluation t) us = states (indexed bs t us)

-- what commands state, one after another
abbrev pub statements_indexed : List Abbreviation → List CommandTree → List TextUse → List Statement
statements_indexed bs [] us = []
statements_indexed bs (c ∷ cs) us = statement_indexed bs c us ∷ statements_indexed (abbreviations_after bs c) cs (past_command c us)
