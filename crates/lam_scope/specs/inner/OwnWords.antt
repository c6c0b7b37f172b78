-- The tokens by which the terms of a tree are found, in the order of subterms, and the search for one of them. For private contracts only.
use Rattle.std.specs.Prelude.{ℕ, ◌-◌, List, [], ◌∷◌, ◌++◌, Bool, Option, Some, None, if◌then◌else◌}
use Rattle.lam_syntax.specs.Trees as tree
use Rattle.lam_syntax.specs.Trees.{TermTree, term_tree, TermNode, CommandTree, definition, declaration, evaluation}
use Rattle.lam_scope.specs.declared.own_words.Reached.{Reached}
use Rattle.lam_scope.specs.declared.own_words.Reached.TheVariants.{Here, Behind}
use Rattle.lam_scope.specs.declared.own_words.Target.{Target}
use Rattle.lam_scope.specs.declared.own_words.Target.TheVariants as target
use Rattle.lam_scope.specs.PlacedTerms.{OwnWord, no_word, own_word, is_variable_at, is_projection_at}

-- The tokens of the terms in a term: those of its parts, from left to right, and then its own.
abbrev mutual
  pub words_in : TermTree → List OwnWord
  words_in (term_tree r n) = words_below n ++ own_word n ∷ []

  -- those in the parts of a term of this form; the first part of a letrec is its derived fix, after the derived lambda
  pub words_below : TermNode → List OwnWord
  words_below (tree.lambda b u t) = words_in t
  words_below (tree.if_term c t u) = words_in c ++ words_in t ++ words_in u
  words_below (tree.let_term b t u) = words_in t ++ words_in u
  words_below (tree.letrec_term b w t u) = words_in t ++ no_word ∷ no_word ∷ [] ++ words_in u
  words_below (tree.prefixed p t) = words_in t
  words_below (tree.apply t u) = words_in t ++ words_in u
  words_below (tree.project t l) = words_in t
  words_below (tree.ascribe t u) = words_in t
  words_below (tree.record_term fs) = words_in_fields fs
  words_below n = []

  -- those in the terms of a record
  pub words_in_fields : tree.FieldTrees → List OwnWord
  words_in_fields tree.no_fields = []
  words_in_fields (tree.field l t fs) = words_in t ++ words_in_fields fs

-- those in a command
abbrev pub command_words : CommandTree → List OwnWord
command_words (definition w t) = words_in t
command_words (declaration w u) = []
command_words (tree.abbreviation w u) = []
command_words (evaluation t) = words_in t

-- those in commands
abbrev pub commands_words : List CommandTree → List OwnWord
commands_words [] = []
commands_words (c ∷ cs) = command_words c ++ commands_words cs

-- whether a token is the one searched for
abbrev pub is_target : Target → OwnWord → Bool
is_target (target.Variable o) w = is_variable_at o w
is_target (target.Projection o) w = is_projection_at o w

-- the search passes a token, where this many subterms are left, or has found another before it
abbrev pub at_word : Reached → (is_sought : Bool) → Reached
at_word (Here n) b = Here n
at_word (Behind n) b = if b then Here n else Behind (n - 1)

-- the search continues among tokens
abbrev pub seek_on : Target → Reached → List OwnWord → Reached
seek_on t r [] = r
seek_on t r (w ∷ ws) = seek_on t (at_word r (is_target t w)) ws

-- the zero-based index of the subterm that the search found, where there are this many subterms
abbrev pub number_of : (places : ℕ) → Reached → Option ℕ
number_of m (Here n) = Some (m - n)
number_of m (Behind n) = None
