-- The plain trees of written types, terms and commands.
use Rattle.std.specs.Prelude.{List, [], ◌∷◌, ◌≡◌, Result, Ok, Err}
use Rattle.std.specs.Option.{option_map}
use Rattle.lam_syntax.specs.Trees.{Word, word, Bound, bound, TypeTree, type_tree, TypeNode, bool, nat, unit, top, named, arrow, record_type, TypeFields, no_type_fields, type_field, TermTree, term_tree, TermNode, true_term, false_term, unit_term, variable, numeral, lambda, if_term, let_term, letrec_term, prefixed, apply, project, ascribe, record_term, FieldTrees, no_fields, field, CommandTree, definition, declaration, abbreviation, evaluation}
use Rattle.lam_syntax.specs.Letters.{letters}
use Rattle.lam_syntax.specs.declared.identifier.Identifier.{Identifier}
use Rattle.lam_syntax.specs.declared.identifier.Binder.{Binder}
use Rattle.lam_syntax.specs.declared.types.WrittenTy.{WrittenTy}
use Rattle.lam_syntax.specs.declared.types.TyNode.{TyNode, fold-TyNode}
use Rattle.lam_syntax.specs.declared.types.TyNode.TheOpen.{TyNode-F, ArrowTy-F, TyField-F, WrittenTy-F}
use Rattle.lam_syntax.specs.declared.types.TyField.{TyField}
use Rattle.lam_syntax.specs.declared.terms.Tm.{Tm}
use Rattle.lam_syntax.specs.declared.terms.TmNode.{TmNode, fold-TmNode}
use Rattle.lam_syntax.specs.declared.terms.TmNode.TheOpen.{TmNode-F, Application-F, Ascription-F, Conditional-F, Lambda-F, Let-F, Letrec-F, Projection-F, TmField-F, Tm-F}
use Rattle.lam_syntax.specs.declared.terms.TmField.{TmField}
use Rattle.lam_syntax.specs.declared.terms.Command.{Command}
use Rattle.lam_syntax.specs.declared.terms.Command.TheVariants as command
use Rattle.lam_syntax.specs.declared.fault.ParseFault.{ParseFault}
use Rattle.lam_syntax.specs.declared.fault.ParseFault.TheVariants as faults

-- an identifier as a word with its span
abbrev pub word_of : Identifier → Word
word_of i = word (letters i.text) i.span

-- a binder with its span; an underscore has no name
abbrev pub bound_of : Binder → Bound
bound_of b = bound (option_map (λ s. letters s) b.name) b.span

-- One level of a written type, whose parts are already trees.

-- labeled types as record-type fields
abbrev pub type_fields_made : List (Word × TypeTree) → TypeFields
type_fields_made [] = no_type_fields
type_fields_made (f ∷ fs) = type_field f.0 f.1 (type_fields_made fs)

-- the node of an arrow
abbrev pub arrow_step : ArrowTy-F TypeNode TypeNode (Word × TypeTree) TypeTree → TypeNode
arrow_step a = arrow a.parameter a.outcome

-- the node of a type
abbrev pub type_node_step : TyNode-F TypeNode TypeNode (Word × TypeTree) TypeTree → TypeNode
type_node_step TyNode-F.Bool = bool
type_node_step TyNode-F.Nat = nat
type_node_step TyNode-F.Unit = unit
type_node_step TyNode-F.Top = top
type_node_step (TyNode-F.Named x) = named (word_of x)
type_node_step (TyNode-F.Arrow a) = a.value
type_node_step (TyNode-F.Record fs) = record_type (type_fields_made fs.items)

-- a label and its type
abbrev pub type_field_step : TyField-F TypeNode TypeNode (Word × TypeTree) TypeTree → Word × TypeTree
type_field_step f = (word_of f.label, f.ty)

-- a type with its span
abbrev pub type_tree_step : WrittenTy-F TypeNode TypeNode (Word × TypeTree) TypeTree → TypeTree
type_tree_step t = type_tree t.span t.node

-- the tree of the node of a written type
unfoldable pub type_node_of : TyNode → TypeNode
type_node_of = fold-TyNode TypeNode TypeNode (Word × TypeTree) TypeTree type_node_step arrow_step type_field_step type_tree_step

-- the tree of a written type
abbrev pub type_of : WrittenTy → TypeTree
type_of t = type_tree t.span (type_node_of t.node)

-- the trees of the fields of a record type
abbrev pub type_fields_of : List TyField → TypeFields
type_fields_of [] = no_type_fields
type_fields_of (f ∷ fs) = type_field (word_of f.label) (type_of f.ty) (type_fields_of fs)

-- One level of a term, whose parts are already trees.

-- labeled terms as record fields
abbrev pub fields_made : List (Word × TermTree) → FieldTrees
fields_made [] = no_fields
fields_made (f ∷ fs) = field f.0 f.1 (fields_made fs)

-- the node of an application
abbrev pub application_step : Application-F TermNode TermNode TermNode TermNode TermNode TermNode TermNode TermNode TermTree (Word × TermTree) → TermNode
application_step a = apply a.function a.argument

-- the node of an ascription
abbrev pub ascription_step : Ascription-F TermNode TermNode TermNode TermNode TermNode TermNode TermNode TermNode TermTree (Word × TermTree) → TermNode
ascription_step a = ascribe a.operand (type_of a.ty)

-- the node of an if
abbrev pub conditional_step : Conditional-F TermNode TermNode TermNode TermNode TermNode TermNode TermNode TermNode TermTree (Word × TermTree) → TermNode
conditional_step c = if_term c.condition c.then_term c.else_term

-- the node of a lambda
abbrev pub lambda_step : Lambda-F TermNode TermNode TermNode TermNode TermNode TermNode TermNode TermNode TermTree (Word × TermTree) → TermNode
lambda_step l = lambda (bound_of l.binder) (type_of l.ty) l.body

-- the node of a let
abbrev pub let_step : Let-F TermNode TermNode TermNode TermNode TermNode TermNode TermNode TermNode TermTree (Word × TermTree) → TermNode
let_step l = let_term (bound_of l.binder) l.bound l.body

-- the node of a letrec
abbrev pub letrec_step : Letrec-F TermNode TermNode TermNode TermNode TermNode TermNode TermNode TermNode TermTree (Word × TermTree) → TermNode
letrec_step l = letrec_term (bound_of l.binder) (type_of l.ty) l.bound l.body

-- the node of a projection
abbrev pub projection_step : Projection-F TermNode TermNode TermNode TermNode TermNode TermNode TermNode TermNode TermTree (Word × TermTree) → TermNode
projection_step p = project p.record (word_of p.label)

-- the node of any term
abbrev pub node_step : TmNode-F TermNode TermNode TermNode TermNode TermNode TermNode TermNode TermNode TermTree (Word × TermTree) → TermNode
node_step TmNode-F.True = true_term
node_step TmNode-F.False = false_term
node_step TmNode-F.Unit = unit_term
node_step (TmNode-F.Variable x) = variable (word_of x)
node_step (TmNode-F.Numeral x) = numeral (word_of x)
node_step (TmNode-F.Lambda l) = l.value
node_step (TmNode-F.If c) = c.value
node_step (TmNode-F.Let l) = l.value
node_step (TmNode-F.Letrec l) = l.value
node_step (TmNode-F.Prefixed p t) = prefixed p t.value
node_step (TmNode-F.Apply a) = a.value
node_step (TmNode-F.Project p) = p.value
node_step (TmNode-F.Ascribe a) = a.value
node_step (TmNode-F.Record fs) = record_term (fields_made fs.items)

-- a label and its term
abbrev pub field_step : TmField-F TermNode TermNode TermNode TermNode TermNode TermNode TermNode TermNode TermTree (Word × TermTree) → Word × TermTree
field_step f = (word_of f.label, f.term)

-- a term with its span
abbrev pub tree_step : Tm-F TermNode TermNode TermNode TermNode TermNode TermNode TermNode TermNode TermTree (Word × TermTree) → TermTree
tree_step t = term_tree t.span t.node

-- the tree of the node of a term
unfoldable pub term_node_of : TmNode → TermNode
term_node_of = fold-TmNode TermNode TermNode TermNode TermNode TermNode TermNode TermNode TermNode TermTree (Word × TermTree) node_step application_step ascription_step conditional_step lambda_step let_step letrec_step projection_step tree_step field_step

-- the tree of a term
abbrev pub term_of : Tm → TermTree
term_of t = term_tree t.span (term_node_of t.node)

-- the trees of the fields of a record
abbrev pub fields_of : List TmField → FieldTrees
fields_of [] = no_fields
fields_of (f ∷ fs) = field (word_of f.label) (term_of f.term) (fields_of fs)

-- the tree of a command
abbrev pub command_of : Command → CommandTree
command_of (command.Definition x t) = definition (word_of x) (term_of t)
command_of (command.Declaration x t) = declaration (word_of x) (type_of t)
command_of (command.Abbreviation x t) = abbreviation (word_of x) (type_of t)
command_of (command.Evaluation t) = evaluation (term_of t)

-- the result is this command, unless allocation failed
abbrev pub Accepts : CommandTree → Result Command ParseFault → Type 0
Accepts c (Ok d) = command_of d ≡ c
Accepts c (Err faults.Memory) = Unit {0}
Accepts c (Err e) = ⊥
