-- The terms of commands in the text: the span of each, what is in scope, its nameless form, and its parts.
use Rattle.std.specs.Prelude.{◌==◌, ℕ, List, [], ◌∷◌, ◌++◌, Bool, true, false, Option, get_or, position}
use Rattle.lam_token.specs.declared.span.Span.{Span}
use Rattle.lam_rules.specs.Terms.{Term, unit_term, lambda, fix}
use Rattle.lam_syntax.specs.Trees as tree
use Rattle.lam_syntax.specs.Trees.{word, bound, TypeTree, TermTree, term_tree, TermNode, CommandTree, definition, declaration, evaluation, term_span}
use Rattle.lam_scope.specs.Names.{Name}
use Rattle.lam_scope.specs.Expansions.{Abbreviation, expansion}
use Rattle.lam_scope.specs.Nameless.{nameless, nameless_node, abbreviations_after, names_after}
use Rattle.lam_scope.specs.Places.{written, of_term, Scope, Place}

-- the token by which a term is found: the name of a variable, or the label of a projection; other terms have none
pub data OwnWord : Type 0 where
  no_word : OwnWord
  name_at : (token : Span) → OwnWord
  label_at : (token : Span) → OwnWord

-- that of a term of this form
abbrev pub own_word : TermNode → OwnWord
own_word (tree.variable (word x s)) = name_at s
own_word (tree.project t (word l s)) = label_at s
own_word n = no_word

-- a term by itself
pub record PlacedTerm : Type 0 where
  pub span : Span
  pub own : OwnWord
  -- whether it is in the text; the derived lambda and fix of a letrec are not
  pub is_written : Bool
  -- the names of the binders in scope, innermost first; an underscore has none
  pub names : List (Option Name)
  -- the bindings in scope, and the nameless term
  pub place : Place

-- A term with its parts, which are its immediate subterms.
mutual
  pub data PlacedTree : Type 0 where
    placed : (term : PlacedTerm) → (parts : PlacedTrees) → PlacedTree

  -- parts, from left to right
  pub data PlacedTrees : Type 0 where
    no_parts : PlacedTrees
    part_first : (first : PlacedTree) → (rest : PlacedTrees) → PlacedTrees

-- the term of a tree
abbrev pub term_of : PlacedTree → PlacedTerm
term_of (placed t ps) = t

-- its parts
abbrev pub parts_of : PlacedTree → PlacedTrees
parts_of (placed t ps) = ps

-- one part alone
abbrev pub one_part : PlacedTree → PlacedTrees
one_part p = part_first p no_parts

-- two parts
abbrev pub two_parts : PlacedTree → PlacedTree → PlacedTrees
two_parts p q = part_first p (one_part q)

-- a term at this span
abbrev pub placed_at : Span → OwnWord → (is_written : Bool) → List (Option Name) → Scope → Term → PlacedTrees → PlacedTree
placed_at r o w xs s e ps = placed (record { span = r; own = o; is_written = w; names = xs; place = record { scope = s; here = e } }) ps

-- the function that a letrec stands for, from its type and its nameless bound term
abbrev pub letrec_function : List Abbreviation → TypeTree → Term → Term
letrec_function bs w e = lambda (expansion bs w) e

-- the fix of that function, with the span of the bound term: its part is the function, whose part is the bound term
abbrev pub letrec_fix : List Abbreviation → List (Option Name) → Scope → TypeTree → Span → Term → (first : PlacedTree) → PlacedTree
letrec_fix bs xs s w r e first =
    placed_at r no_word false xs s (fix (letrec_function bs w e)) (one_part (placed_at r no_word false xs s (letrec_function bs w e) (one_part first)))

-- A term with its parts, under these abbreviations and these binders: their names and bindings. A letrec stands for a let of a fix.
abbrev mutual
  pub placed_term : List Abbreviation → List (Option Name) → Scope → TermTree → PlacedTree
  placed_term bs xs s (term_tree r n) = placed_at r (own_word n) true xs s (nameless_node bs xs n) (placed_parts bs xs s n)

  -- the parts of a term of this form
  pub placed_parts : List Abbreviation → List (Option Name) → Scope → TermNode → PlacedTrees
  placed_parts bs xs s (tree.lambda (bound b r) u t) = one_part (placed_term bs (b ∷ xs) (written (expansion bs u) ∷ s) t)
  placed_parts bs xs s (tree.if_term c t u) = part_first (placed_term bs xs s c) (two_parts (placed_term bs xs s t) (placed_term bs xs s u))
  placed_parts bs xs s (tree.let_term (bound b r) t u) = two_parts (placed_term bs xs s t) (placed_term bs (b ∷ xs) (of_term (nameless bs xs t) ∷ s) u)
  placed_parts bs xs s (tree.letrec_term (bound b r) w t u) =
      two_parts
      (letrec_fix bs xs s w (term_span t) (nameless bs (b ∷ xs) t) (placed_term bs (b ∷ xs) (written (expansion bs w) ∷ s) t))
      (placed_term bs (b ∷ xs) (of_term (fix (letrec_function bs w (nameless bs (b ∷ xs) t))) ∷ s) u)
  placed_parts bs xs s (tree.prefixed p t) = one_part (placed_term bs xs s t)
  placed_parts bs xs s (tree.apply t u) = two_parts (placed_term bs xs s t) (placed_term bs xs s u)
  placed_parts bs xs s (tree.project t l) = one_part (placed_term bs xs s t)
  placed_parts bs xs s (tree.ascribe t u) = one_part (placed_term bs xs s t)
  placed_parts bs xs s (tree.record_term fs) = placed_fields bs xs s fs
  placed_parts bs xs s n = no_parts

  -- the terms of a record
  pub placed_fields : List Abbreviation → List (Option Name) → Scope → tree.FieldTrees → PlacedTrees
  placed_fields bs xs s tree.no_fields = no_parts
  placed_fields bs xs s (tree.field l t fs) = part_first (placed_term bs xs s t) (placed_fields bs xs s fs)

-- the subterms of a term: those in its parts, from left to right, and then the term itself
abbrev mutual
  pub terms_in : PlacedTree → List PlacedTree
  terms_in (placed t ps) = terms_in_each ps ++ placed t ps ∷ []

  -- those in several parts
  pub terms_in_each : PlacedTrees → List PlacedTree
  terms_in_each no_parts = []
  terms_in_each (part_first p ps) = terms_in p ++ terms_in_each ps

-- the subterms of a command under these abbreviations and binders
abbrev pub command_terms : List Abbreviation → List (Option Name) → Scope → CommandTree → List PlacedTree
command_terms bs xs s (definition w t) = terms_in (placed_term bs xs s t)
command_terms bs xs s (declaration w u) = []
command_terms bs xs s (tree.abbreviation w u) = []
command_terms bs xs s (evaluation t) = terms_in (placed_term bs xs s t)

-- the bindings in scope after a command
abbrev pub scope_after : List Abbreviation → List (Option Name) → Scope → CommandTree → Scope
scope_after bs xs s (definition w t) = of_term (nameless bs xs t) ∷ s
scope_after bs xs s (declaration w u) = written (expansion bs u) ∷ s
scope_after bs xs s c = s

-- the subterms of commands, one command after another, under these abbreviations and binders
abbrev pub commands_terms : List Abbreviation → List (Option Name) → Scope → List CommandTree → List PlacedTree
commands_terms bs xs s [] = []
commands_terms bs xs s (c ∷ cs) = command_terms bs xs s c ++ commands_terms (abbreviations_after bs c) (names_after xs c) (scope_after bs xs s c) cs

-- the subterms of a document
abbrev pub document_terms : List CommandTree → List PlacedTree
document_terms cs = commands_terms [] [] [] cs

-- the subterm with this zero-based index; past the last one, a term with an empty span
abbrev pub tree_in : List PlacedTree → ℕ → PlacedTree
tree_in ts n = get_or ts n (placed_at (record { start = 0; end = 0 }) no_word false [] [] unit_term no_parts)

-- the subterms with these indices
abbrev pub trees_in : List PlacedTree → List ℕ → PlacedTrees
trees_in ts [] = no_parts
trees_in ts (n ∷ ns) = part_first (tree_in ts n) (trees_in ts ns)

-- whether a term is a variable whose token begins at byte o
abbrev pub is_variable_at : ℕ → OwnWord → Bool
is_variable_at o (name_at s) = s.start == o
is_variable_at o w = false

-- whether a term is a projection whose label's token begins at byte o
abbrev pub is_projection_at : ℕ → OwnWord → Bool
is_projection_at o (label_at s) = s.start == o
is_projection_at o w = false

-- the index of the variable whose token begins at byte o, if there is one
abbrev pub variable_at : ℕ → List CommandTree → Option ℕ
variable_at o cs = position (λ t. is_variable_at o (term_of t).own) (document_terms cs)

-- the index of the projection whose label's token begins at byte o, if there is one
abbrev pub projection_at : ℕ → List CommandTree → Option ℕ
projection_at o cs = position (λ t. is_projection_at o (term_of t).own) (document_terms cs)
