-- Written types, terms and commands as plain trees. Each type and term has its span.
use Rattle.std.specs.Prelude.{ℕ, Option, List}
use Rattle.lam_token.specs.declared.span.Span.{Span}
use Rattle.lam_syntax.specs.declared.terms.Prefix.{Prefix}

-- a name, a type name, a label or a numeral, with the span of its token
pub data Word : Type 0 where
  word : (text : List ℕ) → Span → Word

-- a binder with the span of its token; an underscore has no name
pub data Bound : Type 0 where
  bound : (name : Option (List ℕ)) → Span → Bound

mutual
  -- a written type and its span
  pub data TypeTree : Type 0 where
    type_tree : Span → TypeNode → TypeTree

  -- the kind of a written type and its parts
  pub data TypeNode : Type 0 where
    bool : TypeNode
    nat : TypeNode
    unit : TypeNode
    top : TypeNode
    named : Word → TypeNode
    arrow : TypeTree → TypeTree → TypeNode
    record_type : TypeFields → TypeNode

  -- the fields of a written record type, in the order written
  pub data TypeFields : Type 0 where
    no_type_fields : TypeFields
    type_field : Word → TypeTree → TypeFields → TypeFields

mutual
  -- a term and its span
  pub data TermTree : Type 0 where
    term_tree : Span → TermNode → TermTree

  -- the kind of a term and its parts
  pub data TermNode : Type 0 where
    true_term : TermNode
    false_term : TermNode
    unit_term : TermNode
    variable : Word → TermNode
    numeral : Word → TermNode
    lambda : Bound → TypeTree → (body : TermTree) → TermNode
    if_term : (condition then_term else_term : TermTree) → TermNode
    let_term : Bound → (bound body : TermTree) → TermNode
    letrec_term : Bound → TypeTree → (bound body : TermTree) → TermNode
    prefixed : Prefix → TermTree → TermNode
    apply : (function argument : TermTree) → TermNode
    project : TermTree → Word → TermNode
    ascribe : TermTree → TypeTree → TermNode
    record_term : FieldTrees → TermNode

  -- the fields of a record, in the order written
  pub data FieldTrees : Type 0 where
    no_fields : FieldTrees
    field : Word → TermTree → FieldTrees → FieldTrees

-- a command: a definition, a declaration, a type abbreviation or a term on its own
pub data CommandTree : Type 0 where
  definition : Word → TermTree → CommandTree
  declaration : Word → TypeTree → CommandTree
  abbreviation : Word → TypeTree → CommandTree
  evaluation : TermTree → CommandTree

-- from the start of one span to the end of another
abbrev pub from_to : Span → Span → Span
from_to a b = record { start = a.start; end = b.end }

-- the span of a written type
abbrev pub type_span : TypeTree → Span
type_span (type_tree s n) = s

-- the span of a term
abbrev pub term_span : TermTree → Span
term_span (term_tree s n) = s

-- a written type with the span of the parentheses around it
abbrev pub spanning_type : Span → TypeTree → TypeTree
spanning_type s (type_tree r n) = type_tree s n

-- a term with the span of the parentheses around it
abbrev pub spanning_term : Span → TermTree → TermTree
spanning_term s (term_tree r n) = term_tree s n

-- the fields of a record type, followed by more
abbrev pub joined_types : TypeFields → TypeFields → TypeFields
joined_types no_type_fields gs = gs
joined_types (type_field l t fs) gs = type_field l t (joined_types fs gs)

-- the fields of a record, followed by more
abbrev pub joined : FieldTrees → FieldTrees → FieldTrees
joined no_fields gs = gs
joined (field l t fs) gs = field l t (joined fs gs)
