-- The nameless form of commands: their trees without spans and names of binders, with each use of a name or type name as a de Bruijn index, or as the name itself if it is unbound.
use Rattle.std.specs.Prelude.{ℕ, List, [], ◌∷◌, Option, Some, None}
use Rattle.lam_syntax.specs.declared.terms.Prefix.{Prefix}
use Rattle.lam_syntax.specs.Trees.{word, bound, TypeTree, type_tree, TypeNode, bool, nat, unit, top, named, arrow, record_type, TypeFields, no_type_fields, type_field, TermTree, term_tree, TermNode, true_term, false_term, unit_term, variable, numeral, lambda, if_term, let_term, letrec_term, prefixed, apply, project, ascribe, record_term, FieldTrees, no_fields, field, CommandTree, definition, declaration, abbreviation, evaluation}
use Rattle.lam_scope.specs.Names.{Name, index_of}
use Rattle.lam_scope.specs.Nameless.{names_after}

-- a use of a name or type name: its de Bruijn index among binders of its kind, or the name itself if it is unbound
pub data UseForm : Type 0 where
  indexed : ℕ → UseForm
  unbound : Name → UseForm

mutual
  -- the form of a written type
  pub data TypeForm : Type 0 where
    bool_form : TypeForm
    nat_form : TypeForm
    unit_form : TypeForm
    top_form : TypeForm
    named_form : UseForm → TypeForm
    arrow_form : TypeForm → TypeForm → TypeForm
    record_type_form : TypeFieldForms → TypeForm

  -- the forms of the fields of a written record type, with their labels
  pub data TypeFieldForms : Type 0 where
    no_type_field_forms : TypeFieldForms
    type_field_form : (label : Name) → TypeForm → TypeFieldForms → TypeFieldForms

mutual
  -- the form of a term
  pub data TermForm : Type 0 where
    true_form : TermForm
    false_form : TermForm
    unit_term_form : TermForm
    variable_form : UseForm → TermForm
    numeral_form : (digits : List ℕ) → TermForm
    lambda_form : TypeForm → (body : TermForm) → TermForm
    if_form : (condition then_term else_term : TermForm) → TermForm
    let_form : (bound body : TermForm) → TermForm
    letrec_form : TypeForm → (bound body : TermForm) → TermForm
    prefixed_form : Prefix → TermForm → TermForm
    apply_form : (function argument : TermForm) → TermForm
    project_form : TermForm → (label : Name) → TermForm
    ascribe_form : TermForm → TypeForm → TermForm
    record_form : FieldForms → TermForm

  -- the forms of the fields of a record, with their labels
  pub data FieldForms : Type 0 where
    no_field_forms : FieldForms
    field_form : (label : Name) → TermForm → FieldForms → FieldForms

-- the form of a command; the name that it binds is not in it
pub data CommandForm : Type 0 where
  definition_form : TermForm → CommandForm
  declaration_form : TypeForm → CommandForm
  abbreviation_form : TypeForm → CommandForm
  evaluation_form : TermForm → CommandForm

-- the form of a use of this name with this de Bruijn index
abbrev pub use_form : Name → Option ℕ → UseForm
use_form x None = unbound x
use_form x (Some n) = indexed n

-- the form of a written type under these binders of type names, innermost first
abbrev mutual
  pub type_form : (types : List (Option Name)) → TypeTree → TypeForm
  type_form types (type_tree s n) = type_node_form types n

  pub type_node_form : (types : List (Option Name)) → TypeNode → TypeForm
  type_node_form types bool = bool_form
  type_node_form types nat = nat_form
  type_node_form types unit = unit_form
  type_node_form types top = top_form
  type_node_form types (named (word x s)) = named_form (use_form x (index_of x types))
  type_node_form types (arrow a b) = arrow_form (type_form types a) (type_form types b)
  type_node_form types (record_type fs) = record_type_form (type_field_forms types fs)

  pub type_field_forms : (types : List (Option Name)) → TypeFields → TypeFieldForms
  type_field_forms types no_type_fields = no_type_field_forms
  type_field_forms types (type_field (word l s) t fs) = type_field_form l (type_form types t) (type_field_forms types fs)

-- the form of a term under these binders of type names and of names, innermost first; a letrec's name is bound in both of its terms
abbrev mutual
  pub term_form : (types names : List (Option Name)) → TermTree → TermForm
  term_form types names (term_tree s n) = node_form types names n

  pub node_form : (types names : List (Option Name)) → TermNode → TermForm
  node_form types names true_term = true_form
  node_form types names false_term = false_form
  node_form types names unit_term = unit_term_form
  node_form types names (variable (word x s)) = variable_form (use_form x (index_of x names))
  node_form types names (numeral (word x s)) = numeral_form x
  node_form types names (lambda (bound b s) u t) = lambda_form (type_form types u) (term_form types (b ∷ names) t)
  node_form types names (if_term c t u) = if_form (term_form types names c) (term_form types names t) (term_form types names u)
  node_form types names (let_term (bound b s) t u) = let_form (term_form types names t) (term_form types (b ∷ names) u)
  node_form types names (letrec_term (bound b s) w t u) = letrec_form (type_form types w) (term_form types (b ∷ names) t) (term_form types (b ∷ names) u)
  node_form types names (prefixed p t) = prefixed_form p (term_form types names t)
  node_form types names (apply t u) = apply_form (term_form types names t) (term_form types names u)
  node_form types names (project t (word l s)) = project_form (term_form types names t) l
  node_form types names (ascribe t u) = ascribe_form (term_form types names t) (type_form types u)
  node_form types names (record_term fs) = record_form (field_forms types names fs)

  pub field_forms : (types names : List (Option Name)) → FieldTrees → FieldForms
  field_forms types names no_fields = no_field_forms
  field_forms types names (field (word l s) t fs) = field_form l (term_form types names t) (field_forms types names fs)

-- the form of a command under these binders, innermost first
abbrev pub command_form : (types names : List (Option Name)) → CommandTree → CommandForm
command_form types names (definition w t) = definition_form (term_form types names t)
command_form types names (declaration w u) = declaration_form (type_form types u)
command_form types names (abbreviation w u) = abbreviation_form (type_form types u)
command_form types names (evaluation t) = evaluation_form (term_form types names t)

-- the binders of type names in scope after a command
abbrev pub type_names_after : (types : List (Option Name)) → CommandTree → List (Option Name)
type_names_after types (abbreviation (word x s) u) = Some x ∷ types
type_names_after types c = types

-- the forms of commands under these binders and those of the commands before
abbrev pub forms_from : (types names : List (Option Name)) → List CommandTree → List CommandForm
forms_from types names [] = []
forms_from types names (c ∷ cs) = command_form types names c ∷ forms_from (type_names_after types c) (names_after names c) cs

-- the nameless form of the commands of a document
abbrev pub forms : List CommandTree → List CommandForm
forms cs = forms_from [] [] cs
