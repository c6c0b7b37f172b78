-- Renaming: the binder and its uses get the new name, and all else in the commands stays.
use Rattle.std.specs.Prelude.{◌≡◌, ℕ, ◌+◌, ◌<◌, ◌==◌, List, [], ◌∷◌, Option, Some, None, true, length, if◌then◌else◌}
use Rattle.lam_token.specs.declared.kind.Kind.{Kind}
use Rattle.lam_token.specs.declared.kind.Kind.TheVariants as kind
use Rattle.lam_token.specs.declared.span.Span.{Span}
use Rattle.lam_token.specs.Edits.{IsOne}
use Rattle.lam_syntax.specs.Trees.{word, bound, TypeTree, type_tree, TypeNode, named, arrow, record_type, TypeFields, no_type_fields, type_field, TermTree, term_tree, TermNode, variable, lambda, if_term, let_term, letrec_term, prefixed, apply, project, ascribe, record_term, FieldTrees, no_fields, field, CommandTree, definition, declaration, abbreviation, evaluation}
use Rattle.lam_scope.specs.declared.rename_fault.RenameFault.{RenameFault}
use Rattle.lam_scope.specs.declared.rename_fault.RenameFault.TheVariants as fault
use Rattle.lam_scope.specs.declared.numbers.Origin.{Origin}
use Rattle.lam_scope.specs.declared.numbers.Origin.TheVariants.{TypeName}
use Rattle.lam_scope.specs.Names.{Name}
use Rattle.lam_scope.specs.Forms.{forms}
use Rattle.lam_scope.specs.Tables.{Entry, entry, bound_to, is_number, binders_in, types_seen_after, names_seen_after, binders_in_command, table, binder_numbered, has_name, use_tokens}
use Rattle.lam_scope.specs.Mentions.{other_kind}

-- The binder b to rename is given by its index. A letrec's token is two binders and both are renamed: b is the one that is reported for them.

-- the name of a use under these binders of its kind
abbrev pub renamed_use : (b : ℕ) → (new : Name) → List Entry → Name → Name
renamed_use b new seen x = if is_number b (bound_to x seen) then new else x

-- the name of a binder for which this answer is reported
abbrev pub renamed_name : (b : ℕ) → (new : Name) → (answer : ℕ) → Name → Name
renamed_name b new answer x = if answer == b then new else x

-- the same for a binder that may be an underscore, which has no name and stays
abbrev pub renamed_binder : (b : ℕ) → (new : Name) → (answer : ℕ) → Option Name → Option Name
renamed_binder b new answer None = None
renamed_binder b new answer (Some x) = Some (renamed_name b new answer x)

-- a written type under these binders of type names
abbrev mutual
  pub renamed_type : (b : ℕ) → (new : Name) → (types : List Entry) → TypeTree → TypeTree
  renamed_type b new types (type_tree s n) = type_tree s (renamed_type_node b new types n)

  pub renamed_type_node : (b : ℕ) → (new : Name) → (types : List Entry) → TypeNode → TypeNode
  renamed_type_node b new types (named (word x s)) = named (word (renamed_use b new types x) s)
  renamed_type_node b new types (arrow t u) = arrow (renamed_type b new types t) (renamed_type b new types u)
  renamed_type_node b new types (record_type fs) = record_type (renamed_type_fields b new types fs)
  renamed_type_node b new types n = n

  pub renamed_type_fields : (b : ℕ) → (new : Name) → (types : List Entry) → TypeFields → TypeFields
  renamed_type_fields b new types no_type_fields = no_type_fields
  renamed_type_fields b new types (type_field l t fs) = type_field l (renamed_type b new types t) (renamed_type_fields b new types fs)

-- a term under these binders of type names and of names, whose first binder has index n
abbrev mutual
  pub renamed_term : (b : ℕ) → (new : Name) → (types names : List Entry) → (n : ℕ) → TermTree → TermTree
  renamed_term b new types names n (term_tree s node) = term_tree s (renamed_node b new types names n node)

  pub renamed_node : (b : ℕ) → (new : Name) → (types names : List Entry) → (n : ℕ) → TermNode → TermNode
  renamed_node b new types names n (variable (word x s)) = variable (word (renamed_use b new names x) s)
  renamed_node b new types names n (lambda (bound x s) u t) =
      lambda (bound (renamed_binder b new n x) s) (renamed_type b new types u) (renamed_term b new types (entry x n n ∷ names) (n + 1) t)
  renamed_node b new types names n (if_term c t u) =
      if_term (renamed_term b new types names n c) (renamed_term b new types names (n + binders_in c) t) (renamed_term b new types names (n + binders_in c + binders_in t) u)
  renamed_node b new types names n (let_term (bound x s) t u) =
      let_term (bound (renamed_binder b new n x) s) (renamed_term b new types names (n + 1) t) (renamed_term b new types (entry x n n ∷ names) (n + 1 + binders_in t) u)
  renamed_node b new types names n (letrec_term (bound x s) w t u) =
      letrec_term (bound (renamed_binder b new (n + 1) x) s) (renamed_type b new types w)
      (renamed_term b new types (entry x n (n + 1) ∷ names) (n + 2) t)
      (renamed_term b new types (entry x (n + 1) (n + 1) ∷ names) (n + 2 + binders_in t) u)
  renamed_node b new types names n (prefixed p t) = prefixed p (renamed_term b new types names n t)
  renamed_node b new types names n (apply t u) = apply (renamed_term b new types names n t) (renamed_term b new types names (n + binders_in t) u)
  renamed_node b new types names n (project t l) = project (renamed_term b new types names n t) l
  renamed_node b new types names n (ascribe t u) = ascribe (renamed_term b new types names n t) (renamed_type b new types u)
  renamed_node b new types names n (record_term fs) = record_term (renamed_fields b new types names n fs)
  renamed_node b new types names n node = node

  pub renamed_fields : (b : ℕ) → (new : Name) → (types names : List Entry) → (n : ℕ) → FieldTrees → FieldTrees
  renamed_fields b new types names n no_fields = no_fields
  renamed_fields b new types names n (field l t fs) =
      field l (renamed_term b new types names n t) (renamed_fields b new types names (n + binders_in t) fs)

-- a command under these binders, with n binders before it
abbrev pub renamed_command : (b : ℕ) → (new : Name) → (types names : List Entry) → (n : ℕ) → CommandTree → CommandTree
renamed_command b new types names n (definition (word x s) t) = definition (word (renamed_name b new n x) s) (renamed_term b new types names (n + 1) t)
renamed_command b new types names n (declaration (word x s) u) = declaration (word (renamed_name b new n x) s) (renamed_type b new types u)
renamed_command b new types names n (abbreviation (word x s) u) = abbreviation (word (renamed_name b new n x) s) (renamed_type b new types u)
renamed_command b new types names n (evaluation t) = evaluation (renamed_term b new types names n t)

-- commands under these binders and those of the commands before
abbrev pub renamed_from : (b : ℕ) → (new : Name) → (types names : List Entry) → (n : ℕ) → List CommandTree → List CommandTree
renamed_from b new types names n [] = []
renamed_from b new types names n (c ∷ cs) =
    renamed_command b new types names n c
    ∷ renamed_from b new (types_seen_after n types c) (names_seen_after n names c) (n + binders_in_command c) cs

-- the commands of a document after renaming this binder and its uses
abbrev pub renamed : (b : ℕ) → (new : Name) → List CommandTree → List CommandTree
renamed b new cs = renamed_from b new [] [] 0 cs

-- Renaming preserves binding: the nameless form of the commands stays the same.
abbrev pub KeepsBinding : (b : ℕ) → (new : Name) → List CommandTree → Type 0
KeepsBinding b new cs = forms (renamed b new cs) ≡ forms cs

-- whether a binder with this origin binds a name or a type name
abbrev pub kind_bound : Origin → Kind
kind_bound TypeName = kind.TypeName
kind_bound o = kind.Name

-- the binder reported for a binder
abbrev pub answer_for : List CommandTree → (n : ℕ) → ℕ
answer_for cs n = (binder_numbered (table cs) n).answer

-- whether the binder with this index binds a name or a type name
abbrev pub kind_of_binder : List CommandTree → (n : ℕ) → Kind
kind_of_binder cs n = kind_bound (binder_numbered (table cs) n).origin

-- a binder of these commands that is not an underscore
pub record HasName (cs : List CommandTree) (n : ℕ) : Type 0 where
  pub inside : n < length (table cs).binders
  pub named : has_name (binder_numbered (table cs) n).name ≡ true

-- the tokens of a binder and its uses, in text order, given that they can get the new name: it is a name for a binder of names and a type name for one of type names, and
-- binding is preserved
pub record AreRenamed (cs : List CommandTree) (n : ℕ) (new : Name) (spans : List Span) : Type 0 where
  pub kind : IsOne (kind_of_binder cs n) new
  pub keeps : KeepsBinding (answer_for cs n) new cs
  pub tokens : spans ≡ (binder_numbered (table cs) n).token ∷ use_tokens (answer_for cs n) (table cs).uses

-- Why they can't. The first cause that applies is reported, so a later one implies that those before it do not apply.
abbrev pub IsRefused : List CommandTree → (n : ℕ) → (new : Name) → RenameFault → Type 0
IsRefused cs n new fault.NotAName = (IsOne kind.Name new → ⊥) × (IsOne kind.TypeName new → ⊥)
IsRefused cs n new fault.WrongKind = IsOne (other_kind (kind_of_binder cs n)) new
IsRefused cs n new fault.ChangesBinding = IsOne (kind_of_binder cs n) new × (KeepsBinding (answer_for cs n) new cs → ⊥)
IsRefused cs n new fault.Memory = Unit {0}
