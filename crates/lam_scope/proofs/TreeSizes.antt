-- How many nodes a term and a written type have, by which walks over them end.
use Rattle.std.proofs.Common.{◌≡◌, ℕ, ◌+◌, ◌<◌, arith, List, [], ◌∷◌, length, get_or, zero, suc, ap}
use Rattle.lam_syntax.specs.declared.terms.TmField.{TmField}
use Rattle.lam_syntax.specs.declared.types.TyField.{TyField}
use Rattle.lam_syntax.specs.Trees as tree
use Rattle.lam_syntax.specs.Trees.{TypeTree, type_tree, TypeNode, TypeFields, no_type_fields, type_field, TermTree, term_tree, TermNode, lambda, if_term, let_term, letrec_term, prefixed, apply, project, ascribe, record_term, FieldTrees, no_fields, field}
use Rattle.lam_syntax.specs.Views.{type_of, type_fields_of, term_of, fields_of}

abbrev mutual
  pub tree_size : TermTree → ℕ
  tree_size (term_tree s n) = node_size n

  pub node_size : TermNode → ℕ
  node_size (lambda b u t) = 1 + tree_size t
  node_size (if_term c t u) = 1 + tree_size c + tree_size t + tree_size u
  node_size (let_term b t u) = 1 + tree_size t + tree_size u
  node_size (letrec_term b w t u) = 1 + tree_size t + tree_size u
  node_size (prefixed p t) = 1 + tree_size t
  node_size (apply t u) = 1 + tree_size t + tree_size u
  node_size (project t l) = 1 + tree_size t
  node_size (ascribe t u) = 1 + tree_size t
  node_size (record_term fs) = 1 + tree_sizes fs
  node_size n = 1

  pub tree_sizes : FieldTrees → ℕ
  tree_sizes no_fields = 0
  tree_sizes (field l t fs) = 1 + tree_size t + tree_sizes fs

pub field_size : (fs : List TmField) (i : ℕ) (f : TmField) → i < length fs → f ≡ get_or fs i f → tree_size (term_of f.term) < tree_sizes (fields_of fs)
field_size [] i f lt is = absurd (omega arith)
field_size (g ∷ fs) zero f lt is = let same : tree_size (term_of f.term) ≡ tree_size (term_of g.term) = ap (λ h. tree_size (term_of h.term)) is in omega arith
field_size (g ∷ fs) (suc i) f lt is = let behind = field_size fs i f (omega arith) is in omega arith

abbrev mutual
  pub type_size : TypeTree → ℕ
  type_size (type_tree s n) = type_node_size n

  pub type_node_size : TypeNode → ℕ
  type_node_size (tree.arrow a b) = 1 + type_size a + type_size b
  type_node_size (tree.record_type fs) = 1 + type_sizes fs
  type_node_size n = 1

  pub type_sizes : TypeFields → ℕ
  type_sizes no_type_fields = 0
  type_sizes (type_field l t fs) = 1 + type_size t + type_sizes fs

pub type_field_size : (fs : List TyField) (i : ℕ) (f : TyField) → i < length fs → f ≡ get_or fs i f → type_size (type_of f.ty) < type_sizes (type_fields_of fs)
type_field_size [] i f lt is = absurd (omega arith)
type_field_size (g ∷ fs) zero f lt is = let same : type_size (type_of f.ty) ≡ type_size (type_of g.ty) = ap (λ h. type_size (type_of h.ty)) is in omega arith
type_field_size (g ∷ fs) (suc i) f lt is = let behind = type_field_size fs i f (omega arith) is in omega arith
