-- Trees with other spellings and spans, as derived from respelled tokens.
use Rattle.std.specs.Prelude.{ℕ, List, Some, None}
use Rattle.lam_token.specs.declared.kind.Kind.{Kind}
use Rattle.lam_token.specs.declared.kind.Kind.TheVariants as kind
use Rattle.lam_token.specs.declared.span.Span.{Span}
use Rattle.lam_token.specs.Edits.{span_placed}
use Rattle.lam_syntax.specs.Trees.{Word, word, Bound, bound, TypeTree, type_tree, TypeNode, named, arrow, record_type, TypeFields, no_type_fields, type_field, TermTree, term_tree, TermNode, variable, numeral, lambda, if_term, let_term, letrec_term, prefixed, apply, project, ascribe, record_term, FieldTrees, no_fields, field, CommandTree, definition, declaration, abbreviation, evaluation}

-- a new spelling, given the kind, the old spelling and the old span of a word
abbrev pub Letters : Type 0
Letters = Kind → List ℕ → Span → List ℕ

-- a word that is a token of this kind
abbrev pub respelled_word : Kind → (place : ℕ → ℕ) → Letters → Word → Word
respelled_word k place letters (word x s) = word (letters k x s) (span_placed place s)

-- a binder; an underscore stays an underscore
abbrev pub respelled_bound : (place : ℕ → ℕ) → Letters → Bound → Bound
respelled_bound place letters (bound None s) = bound None (span_placed place s)
respelled_bound place letters (bound (Some x) s) = bound (Some (letters kind.Name x s)) (span_placed place s)

-- a written type
abbrev mutual
  pub respelled_type : (place : ℕ → ℕ) → Letters → TypeTree → TypeTree
  respelled_type place letters (type_tree s n) = type_tree (span_placed place s) (respelled_type_node place letters n)

  pub respelled_type_node : (place : ℕ → ℕ) → Letters → TypeNode → TypeNode
  respelled_type_node place letters (named w) = named (respelled_word kind.TypeName place letters w)
  respelled_type_node place letters (arrow a b) = arrow (respelled_type place letters a) (respelled_type place letters b)
  respelled_type_node place letters (record_type fs) = record_type (respelled_type_fields place letters fs)
  respelled_type_node place letters n = n

  pub respelled_type_fields : (place : ℕ → ℕ) → Letters → TypeFields → TypeFields
  respelled_type_fields place letters no_type_fields = no_type_fields
  respelled_type_fields place letters (type_field l t fs) = type_field (respelled_word kind.Name place letters l) (respelled_type place letters t) (respelled_type_fields place letters fs)

-- a term
abbrev mutual
  pub respelled_term : (place : ℕ → ℕ) → Letters → TermTree → TermTree
  respelled_term place letters (term_tree s n) = term_tree (span_placed place s) (respelled_node place letters n)

  pub respelled_node : (place : ℕ → ℕ) → Letters → TermNode → TermNode
  respelled_node place letters (variable w) = variable (respelled_word kind.Name place letters w)
  respelled_node place letters (numeral w) = numeral (respelled_word kind.Numeral place letters w)
  respelled_node place letters (lambda b u t) = lambda (respelled_bound place letters b) (respelled_type place letters u) (respelled_term place letters t)
  respelled_node place letters (if_term c t u) = if_term (respelled_term place letters c) (respelled_term place letters t) (respelled_term place letters u)
  respelled_node place letters (let_term b t u) = let_term (respelled_bound place letters b) (respelled_term place letters t) (respelled_term place letters u)
  respelled_node place letters (letrec_term b w t u) =
      letrec_term (respelled_bound place letters b) (respelled_type place letters w) (respelled_term place letters t) (respelled_term place letters u)
  respelled_node place letters (prefixed p t) = prefixed p (respelled_term place letters t)
  respelled_node place letters (apply t u) = apply (respelled_term place letters t) (respelled_term place letters u)
  respelled_node place letters (project t l) = project (respelled_term place letters t) (respelled_word kind.Name place letters l)
  respelled_node place letters (ascribe t u) = ascribe (respelled_term place letters t) (respelled_type place letters u)
  respelled_node place letters (record_term fs) = record_term (respelled_fields place letters fs)
  respelled_node place letters n = n

  pub respelled_fields : (place : ℕ → ℕ) → Letters → FieldTrees → FieldTrees
  respelled_fields place letters no_fields = no_fields
  respelled_fields place letters (field l t fs) = field (respelled_word kind.Name place letters l) (respelled_term place letters t) (respelled_fields place letters fs)

-- a command
abbrev pub respelled_command : (place : ℕ → ℕ) → Letters → CommandTree → CommandTree
respelled_command place letters (definition w t) = definition (respelled_word kind.Name place letters w) (respelled_term place letters t)
respelled_command place letters (declaration w u) = declaration (respelled_word kind.Name place letters w) (respelled_type place letters u)
respelled_command place letters (abbreviation w u) = abbreviation (respelled_word kind.TypeName place letters w) (respelled_type place letters u)
respelled_command place letters (evaluation t) = evaluation (respelled_term place letters t)
