-- Claims about every place in a tree: those of all its terms, types, names, labels and numerals. `Q` is what is claimed of each.
use Rattle.std.proofs.Common.{List, [], ◌∷◌}
use Rattle.lam_token.specs.declared.span.Span.{Span}
use Rattle.lam_syntax.specs.Trees.{Word, word, Bound, bound, TypeTree, type_tree, TypeNode, named, arrow, record_type, TypeFields, no_type_fields, type_field, TermTree, term_tree, TermNode, variable, numeral, lambda, if_term, let_term, letrec_term, prefixed, apply, project, ascribe, record_term, FieldTrees, no_fields, field, CommandTree, definition, declaration, abbreviation, evaluation}

abbrev pub InWord : (Span → Type 0) → Word → Type 0
InWord Q (word x s) = Q s

abbrev pub InBound : (Span → Type 0) → Bound → Type 0
InBound Q (bound x s) = Q s

abbrev mutual
  pub InType : (Span → Type 0) → TypeTree → Type 0
  InType Q (type_tree s n) = Q s × InTypeNode Q n

  pub InTypeNode : (Span → Type 0) → TypeNode → Type 0
  InTypeNode Q (named x) = InWord Q x
  InTypeNode Q (arrow a b) = InType Q a × InType Q b
  InTypeNode Q (record_type fs) = InTypeFields Q fs
  InTypeNode Q n = Unit {0}

  pub InTypeFields : (Span → Type 0) → TypeFields → Type 0
  InTypeFields Q no_type_fields = Unit {0}
  InTypeFields Q (type_field l t fs) = InWord Q l × InType Q t × InTypeFields Q fs

abbrev mutual
  pub InTerm : (Span → Type 0) → TermTree → Type 0
  InTerm Q (term_tree s n) = Q s × InNode Q n

  pub InNode : (Span → Type 0) → TermNode → Type 0
  InNode Q (variable x) = InWord Q x
  InNode Q (numeral x) = InWord Q x
  InNode Q (lambda b u t) = InBound Q b × InType Q u × InTerm Q t
  InNode Q (if_term c t u) = InTerm Q c × InTerm Q t × InTerm Q u
  InNode Q (let_term b t u) = InBound Q b × InTerm Q t × InTerm Q u
  InNode Q (letrec_term b w t u) = InBound Q b × InType Q w × InTerm Q t × InTerm Q u
  InNode Q (prefixed p t) = InTerm Q t
  InNode Q (apply t u) = InTerm Q t × InTerm Q u
  InNode Q (project t l) = InTerm Q t × InWord Q l
  InNode Q (ascribe t u) = InTerm Q t × InType Q u
  InNode Q (record_term fs) = InFields Q fs
  InNode Q n = Unit {0}

  pub InFields : (Span → Type 0) → FieldTrees → Type 0
  InFields Q no_fields = Unit {0}
  InFields Q (field l t fs) = InWord Q l × InTerm Q t × InFields Q fs

abbrev pub InCommand : (Span → Type 0) → CommandTree → Type 0
InCommand Q (definition x t) = InWord Q x × InTerm Q t
InCommand Q (declaration x u) = InWord Q x × InType Q u
InCommand Q (abbreviation x u) = InWord Q x × InType Q u
InCommand Q (evaluation t) = InTerm Q t

abbrev pub InCommands : (Span → Type 0) → List CommandTree → Type 0
InCommands Q [] = Unit {0}
InCommands Q (c ∷ cs) = InCommand Q c × InCommands Q cs
