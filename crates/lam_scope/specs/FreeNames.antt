-- The names and type names that a command takes from outside, with repetitions, in text order: each name that is used where no binder inside the
-- command binds it, such as the x in the term of "x = succ x", and all type names that it uses.
use Rattle.std.specs.Prelude.{List, [], ◌∷◌, ◌++◌, Option, Some, if◌then◌else◌}
use Rattle.lam_syntax.specs.Trees as tree
use Rattle.lam_syntax.specs.Trees.{word, bound, TypeTree, type_tree, TypeNode, named, arrow, record_type, TypeFields, no_type_fields, type_field, TermTree, term_tree, TermNode, CommandTree, definition, declaration, evaluation}
use Rattle.lam_scope.specs.Names.{Name, binds}
use Rattle.lam_scope.specs.Nameless.{written_in_command}

-- the names among these that a binder does not bind
abbrev pub without : Option Name → List Name → List Name
without b [] = []
without b (x ∷ xs) = if binds b x then without b xs else x ∷ without b xs

-- each of these names once, in the order of first occurrence
abbrev pub each_once : List Name → List Name
each_once [] = []
each_once (x ∷ xs) = x ∷ without (Some x) (each_once xs)

-- the free names of a term; a letrec's name is bound in both of its terms
abbrev mutual
  pub free_in : TermTree → List Name
  free_in (term_tree s n) = free_in_node n

  -- those of the form of a term
  pub free_in_node : TermNode → List Name
  free_in_node (tree.variable (word x s)) = x ∷ []
  free_in_node (tree.lambda (bound b s) u t) = without b (free_in t)
  free_in_node (tree.if_term c t u) = free_in c ++ free_in t ++ free_in u
  free_in_node (tree.let_term (bound b s) t u) = free_in t ++ without b (free_in u)
  free_in_node (tree.letrec_term (bound b s) w t u) = without b (free_in t ++ free_in u)
  free_in_node (tree.prefixed p t) = free_in t
  free_in_node (tree.apply t u) = free_in t ++ free_in u
  free_in_node (tree.project t l) = free_in t
  free_in_node (tree.ascribe t u) = free_in t
  free_in_node (tree.record_term fs) = free_in_fields fs
  free_in_node n = []

  -- those of the terms of a record
  pub free_in_fields : tree.FieldTrees → List Name
  free_in_fields tree.no_fields = []
  free_in_fields (tree.field l t fs) = free_in t ++ free_in_fields fs

-- the type names of a written type: nothing in it binds one
abbrev mutual
  pub free_type_names_in : TypeTree → List Name
  free_type_names_in (type_tree s n) = free_type_names_in_node n

  -- those of the form of a written type
  pub free_type_names_in_node : TypeNode → List Name
  free_type_names_in_node (named (word x s)) = x ∷ []
  free_type_names_in_node (arrow a b) = free_type_names_in a ++ free_type_names_in b
  free_type_names_in_node (record_type fs) = free_type_names_in_fields fs
  free_type_names_in_node n = []

  -- those of the fields of a record type
  pub free_type_names_in_fields : TypeFields → List Name
  free_type_names_in_fields no_type_fields = []
  free_type_names_in_fields (type_field l t fs) = free_type_names_in t ++ free_type_names_in_fields fs

-- the type names of several written types, one after another
abbrev pub free_type_names_in_types : List TypeTree → List Name
free_type_names_in_types [] = []
free_type_names_in_types (u ∷ us) = free_type_names_in u ++ free_type_names_in_types us

-- the free names of a command; the name that a definition binds is not bound in its term
abbrev pub free_in_command : CommandTree → List Name
free_in_command (definition w t) = free_in t
free_in_command (declaration w u) = []
free_in_command (tree.abbreviation w u) = []
free_in_command (evaluation t) = free_in t

-- the type names of a command; the one that an abbreviation binds is not among them, unless it is used there too
abbrev pub free_type_names_in_command : CommandTree → List Name
free_type_names_in_command c = free_type_names_in_types (written_in_command c)
