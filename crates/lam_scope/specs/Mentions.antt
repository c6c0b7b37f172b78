-- The tokens of the names, type names and labels of commands, and what each is bound to. A binder is identified by its token.
use Rattle.std.specs.Prelude.{◌==◌, ◌≤◌, ◌<◌, ℕ, List, [], ◌∷◌, ◌++◌, Option, Some, None, if◌then◌else◌}
use Rattle.std.specs.List.{filter_map}
use Rattle.lam_token.specs.declared.kind.Kind.{Kind}
use Rattle.lam_token.specs.declared.kind.Kind.TheVariants as kind
use Rattle.lam_token.specs.declared.span.Span.{Span}
use Rattle.lam_token.specs.Edits.{is_span}
use Rattle.lam_syntax.specs.Trees.{Word, word, Bound, bound, TypeTree, type_tree, TypeNode, named, arrow, record_type, TypeFields, no_type_fields, type_field, TermTree, term_tree, TermNode, variable, lambda, if_term, let_term, letrec_term, prefixed, apply, project, ascribe, record_term, FieldTrees, no_fields, field, CommandTree, definition, declaration, abbreviation, evaluation}
use Rattle.lam_scope.specs.Names.{Name, binds}

-- a binder in scope: its name, none for an underscore, and its token
pub record Binder : Type 0 where
  pub name : Option Name
  pub token : Span

-- the binder of this name and this token
abbrev pub binder : Option Name → Span → Binder
binder x s = record { name = x; token = s }

-- the token of the innermost binder of a name, given innermost first; none if the name is free
abbrev pub token_bound_to : Name → List Binder → Option Span
token_bound_to x [] = None
token_bound_to x (b ∷ bs) = if binds b.name x then Some b.token else token_bound_to x bs

-- an occurrence of a name, a type name or a label in a command: a binder; a use, with the token of its binder, or none if it is free; or a label
pub data Mention : Type 0 where
  binds_at : (sort : Kind) → (token : Span) → Mention
  uses_at : (sort : Kind) → (token : Span) → (binder : Option Span) → Mention
  labels_at : (token : Span) → Mention

-- the token of a mention
abbrev pub token_of : Mention → Span
token_of (binds_at k s) = s
token_of (uses_at k s b) = s
token_of (labels_at s) = s

-- whether it is a name or a type name; a label counts as a name
abbrev pub kind_of : Mention → Kind
kind_of (binds_at k s) = k
kind_of (uses_at k s b) = k
kind_of (labels_at s) = kind.Name

-- the binder that a mention is or uses; a label is bound to nothing
abbrev pub binder_of : Mention → Option Span
binder_of (binds_at k s) = Some s
binder_of (uses_at k s b) = b
binder_of (labels_at s) = None

-- the mention of a binder of a term; an underscore is none
abbrev pub mention_of : Bound → List Mention
mention_of (bound None s) = []
mention_of (bound (Some x) s) = binds_at kind.Name s ∷ []

-- a binder of a term, as it is in scope
abbrev pub seen_of : Bound → Binder
seen_of (bound x s) = binder x s

-- the label of a field
abbrev pub label_of : Word → Mention
label_of (word l s) = labels_at s

-- the type names and labels in a written type under these binders of type names, in text order
abbrev mutual
  pub mentions_of_type : List Binder → TypeTree → List Mention
  mentions_of_type types (type_tree s n) = mentions_of_type_node types n

  pub mentions_of_type_node : List Binder → TypeNode → List Mention
  mentions_of_type_node types (named (word x s)) = uses_at kind.TypeName s (token_bound_to x types) ∷ []
  mentions_of_type_node types (arrow a b) = mentions_of_type types a ++ mentions_of_type types b
  mentions_of_type_node types (record_type fs) = mentions_of_type_fields types fs
  mentions_of_type_node types n = []

  pub mentions_of_type_fields : List Binder → TypeFields → List Mention
  mentions_of_type_fields types no_type_fields = []
  mentions_of_type_fields types (type_field l t fs) = label_of l ∷ mentions_of_type types t ++ mentions_of_type_fields types fs

-- The names, type names and labels in a term under these binders of type names and of names, in text order. A letrec's name is bound in both of its terms.
abbrev mutual
  pub mentions_of : (types names : List Binder) → TermTree → List Mention
  mentions_of types names (term_tree s n) = mentions_of_node types names n

  pub mentions_of_node : (types names : List Binder) → TermNode → List Mention
  mentions_of_node types names (variable (word x s)) = uses_at kind.Name s (token_bound_to x names) ∷ []
  mentions_of_node types names (lambda b u t) = mention_of b ++ mentions_of_type types u ++ mentions_of types (seen_of b ∷ names) t
  mentions_of_node types names (if_term c t u) = mentions_of types names c ++ mentions_of types names t ++ mentions_of types names u
  mentions_of_node types names (let_term b t u) = mention_of b ++ mentions_of types names t ++ mentions_of types (seen_of b ∷ names) u
  mentions_of_node types names (letrec_term b w t u) =
      mention_of b ++ mentions_of_type types w ++ mentions_of types (seen_of b ∷ names) t ++ mentions_of types (seen_of b ∷ names) u
  mentions_of_node types names (prefixed p t) = mentions_of types names t
  mentions_of_node types names (apply t u) = mentions_of types names t ++ mentions_of types names u
  mentions_of_node types names (project t l) = mentions_of types names t ++ label_of l ∷ []
  mentions_of_node types names (ascribe t u) = mentions_of types names t ++ mentions_of_type types u
  mentions_of_node types names (record_term fs) = mentions_of_fields types names fs
  mentions_of_node types names n = []

  pub mentions_of_fields : (types names : List Binder) → FieldTrees → List Mention
  mentions_of_fields types names no_fields = []
  mentions_of_fields types names (field l t fs) = label_of l ∷ mentions_of types names t ++ mentions_of_fields types names fs

-- those of a command under these binders
abbrev pub mentions_of_command : (types names : List Binder) → CommandTree → List Mention
mentions_of_command types names (definition (word x s) t) = binds_at kind.Name s ∷ mentions_of types names t
mentions_of_command types names (declaration (word x s) u) = binds_at kind.Name s ∷ mentions_of_type types u
mentions_of_command types names (abbreviation (word x s) u) = binds_at kind.TypeName s ∷ mentions_of_type types u
mentions_of_command types names (evaluation t) = mentions_of types names t

-- the binders of type names in scope after a command
abbrev pub types_behind : List Binder → CommandTree → List Binder
types_behind types (abbreviation (word x s) u) = binder (Some x) s ∷ types
types_behind types c = types

-- the binders of names in scope after a command
abbrev pub names_behind : List Binder → CommandTree → List Binder
names_behind names (definition (word x s) t) = binder (Some x) s ∷ names
names_behind names (declaration (word x s) u) = binder (Some x) s ∷ names
names_behind names c = names

-- the mentions of commands under these binders and those of the commands before
abbrev pub mentions_from : (types names : List Binder) → List CommandTree → List Mention
mentions_from types names [] = []
mentions_from types names (c ∷ cs) = mentions_of_command types names c ++ mentions_from (types_behind types c) (names_behind names c) cs

-- the mentions of a document, in text order
abbrev pub mentions : List CommandTree → List Mention
mentions cs = mentions_from [] [] cs

-- What is bound to what.

-- the token of the binder of the mention whose token begins at byte o; none if there is no such mention, or it is free or a label
abbrev pub bound_at : ℕ → List Mention → Option Span
bound_at o [] = None
bound_at o (m ∷ ms) = if (token_of m).start == o then binder_of m else bound_at o ms

-- the token of a use of this binder
abbrev pub use_bound_to : Span → Mention → Option Span
use_bound_to b (uses_at k s (Some c)) = if is_span b c then Some s else None
use_bound_to b m = None

-- the tokens of the uses of a binder, in the order of mentions
abbrev pub uses_of : Span → List Mention → List Span
uses_of b ms = filter_map (use_bound_to b) ms

-- each token ends before the next begins or where it does, and none is empty
abbrev pub Ascend : (low : ℕ) → List Mention → (high : ℕ) → Type 0
Ascend low [] high = low ≤ high
Ascend low (m ∷ ms) high = (low ≤ (token_of m).start) × ((token_of m).start < (token_of m).end) × Ascend (token_of m).end ms high

-- a use comes after its binder
abbrev pub IsBehindBinder : Mention → Type 0
IsBehindBinder (uses_at k s (Some b)) = b.end ≤ s.start
IsBehindBinder m = Unit {0}

-- the other one of names and type names
abbrev pub other_kind : Kind → Kind
other_kind kind.Name = kind.TypeName
other_kind k = kind.Name
