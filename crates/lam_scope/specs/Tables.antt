-- What the names of a document are bound to: tables of its binders, uses and subterms, each in order.
use Rattle.std.specs.Prelude.{ℕ, zero, suc, ◌+◌, List, [], ◌∷◌, ◌++◌, map, Bool, true, false, ◌==◌, Option, Some, None, if◌then◌else◌, length, get_or, reverse, filter, position, ltb}
use Rattle.std.specs.Option.{option_or}
use Rattle.lam_token.specs.declared.span.Span.{Span}
use Rattle.lam_syntax.specs.Trees.{word, bound, TypeTree, type_tree, TypeNode, named, arrow, record_type, TypeFields, no_type_fields, type_field, TermTree, term_tree, TermNode, variable, lambda, if_term, let_term, letrec_term, prefixed, apply, project, ascribe, record_term, FieldTrees, no_fields, field, CommandTree, definition, declaration, abbreviation, evaluation, term_span}
use Rattle.lam_scope.specs.declared.numbers.Origin.{Origin}
use Rattle.lam_scope.specs.declared.numbers.Origin.TheVariants.{Declaration, TypeName}
use Rattle.lam_scope.specs.Names.{Name, binds, index_of}
use Rattle.lam_scope.specs.Sights.{lambda_at, term_at}

-- A binder of names or of type names, in text order. A letrec's token is two binders: the derived lambda's, and then the let's.
pub record TextBinder : Type 0 where
  -- none for an underscore
  pub name : Option Name
  pub token : Span
  -- the next binder of its kind outwards
  pub outer : Option ℕ
  -- the binder reported for it and its uses: itself, or, for a letrec's derived lambda, the let's
  pub answer : ℕ
  pub origin : Origin

-- a use of a name or of a type name, in text order
pub record TextUse : Type 0 where
  pub token : Span
  -- the binder reported for it, or none if it is unbound
  pub binder : Option ℕ
  -- its de Bruijn index among binders of its kind, or none if it is unbound
  pub between : Option ℕ
  -- the innermost binder of its kind in scope
  pub inner : Option ℕ
  -- its name if it is unbound; otherwise its binder has the name
  pub free : Option Name

-- a subterm of a command, in the order of subterms
pub record TextPlace : Type 0 where
  pub span : Span
  -- whether it is the derived lambda or fix of a letrec, which are not in the text
  pub derived : Bool
  -- its immediate subterms
  pub terms : List ℕ
  -- the innermost binder of names in scope
  pub inner : Option ℕ

-- the binders, uses and subterms of a document or of a part of one, each in order
pub record Table : Type 0 where
  pub binders : List TextBinder
  pub uses : List TextUse
  pub places : List TextPlace

infixl 60 ◌⊕◌
-- one table followed by another
unfoldable pub ◌⊕◌ : Table → Table → Table
s ⊕ t = record { binders = s.binders ++ t.binders; uses = s.uses ++ t.uses; places = s.places ++ t.places }

-- the empty table
abbrev pub empty_table : Table
empty_table = record { binders = []; uses = []; places = [] }

-- a binder in scope: its name, its index, and the binder reported for its uses
pub record Entry : Type 0 where
  pub name : Option Name
  pub number : ℕ
  pub answer : ℕ

-- the binder of this name and index, for whose uses the answer is reported
abbrev pub entry : Option Name → (number answer : ℕ) → Entry
entry x n a = record { name = x; number = n; answer = a }

-- the innermost of the binders in scope, if there is one
abbrev pub innermost : List Entry → Option ℕ
innermost [] = None
innermost (e ∷ es) = Some e.number

-- the binder reported for a use of this name: the answer of the innermost binder of the name; none if it is unbound
abbrev pub bound_to : Name → List Entry → Option ℕ
bound_to x [] = None
bound_to x (e ∷ es) = if binds e.name x then Some e.answer else bound_to x es

-- the names of binders in scope, in order; an underscore has none
abbrev pub entry_names : List Entry → List (Option Name)
entry_names = map (λ e. e.name)

-- the table of one binder, given those of its kind in scope
abbrev pub binder_row : Option Name → Span → List Entry → (answer : ℕ) → Origin → Table
binder_row x s seen a o = record { binders = record { name = x; token = s; outer = innermost seen; answer = a; origin = o } ∷ []; uses = []; places = [] }

-- a name if it is unbound
abbrev pub free_name : Name → Option ℕ → Option Name
free_name x None = Some x
free_name x (Some n) = None

-- one use of a name, given the binders of its kind in scope
abbrev pub use_of : Name → Span → List Entry → TextUse
use_of x s seen = record { token = s; binder = bound_to x seen; between = index_of x (entry_names seen); inner = innermost seen; free = free_name x (bound_to x seen) }

-- the table of one use of a name, given the binders of its kind in scope
abbrev pub use_row : Name → Span → List Entry → Table
use_row x s seen = record { binders = []; uses = use_of x s seen ∷ []; places = [] }

-- the table of one subterm, given the binders of names in scope
abbrev pub place_row : Span → (derived : Bool) → (terms : List ℕ) → List Entry → Table
place_row s d ts seen = record { binders = []; uses = []; places = record { span = s; derived = d; terms = ts; inner = innermost seen } ∷ [] }

-- whether a binder has a name; an underscore has none
abbrev pub has_name : Option Name → Bool
has_name None = false
has_name (Some x) = true

-- whether there is a binder and it has this index
abbrev pub is_number : ℕ → Option ℕ → Bool
is_number n None = false
is_number n (Some m) = m == n

-- the number of binders of a term
abbrev mutual
  pub binders_in : TermTree → ℕ
  binders_in (term_tree s n) = binders_in_node n

  -- the number in the form of a term
  pub binders_in_node : TermNode → ℕ
  binders_in_node (lambda b u t) = 1 + binders_in t
  binders_in_node (if_term c t u) = binders_in c + binders_in t + binders_in u
  binders_in_node (let_term b t u) = 1 + binders_in t + binders_in u
  binders_in_node (letrec_term b w t u) = 2 + binders_in t + binders_in u
  binders_in_node (prefixed p t) = binders_in t
  binders_in_node (apply t u) = binders_in t + binders_in u
  binders_in_node (project t l) = binders_in t
  binders_in_node (ascribe t u) = binders_in t
  binders_in_node (record_term fs) = binders_in_fields fs
  binders_in_node n = 0

  -- the number in the terms of a record
  pub binders_in_fields : FieldTrees → ℕ
  binders_in_fields no_fields = 0
  binders_in_fields (field l t fs) = binders_in t + binders_in_fields fs

-- the number of proper subterms of a term, which come before it
abbrev mutual
  pub below : TermTree → ℕ
  below (term_tree s n) = below_node n

  -- the number of subterms in the form of a term
  pub below_node : TermNode → ℕ
  below_node (lambda b u t) = below t + 1
  below_node (if_term c t u) = below c + 1 + below t + 1 + below u + 1
  below_node (let_term b t u) = below t + 1 + below u + 1
  below_node (letrec_term b w t u) = below t + 3 + below u + 1
  below_node (prefixed p t) = below t + 1
  below_node (apply t u) = below t + 1 + below u + 1
  below_node (project t l) = below t + 1
  below_node (ascribe t u) = below t + 1
  below_node (record_term fs) = below_fields fs
  below_node n = 0

  -- the number of subterms of the terms of a record, these included
  pub below_fields : FieldTrees → ℕ
  below_fields no_fields = 0
  below_fields (field l t fs) = below t + 1 + below_fields fs

-- the index of a term whose first subterm is k
abbrev pub root : ℕ → TermTree → ℕ
root k t = k + below t

-- the index after that of a term whose first subterm is k
abbrev pub behind : ℕ → TermTree → ℕ
behind k t = root k t + 1

-- the uses of type names in a written type
abbrev mutual
  pub type_uses : List Entry → TypeTree → Table
  type_uses types (type_tree s n) = node_uses types n

  -- those in the form of a written type
  pub node_uses : List Entry → TypeNode → Table
  node_uses types (named (word x s)) = use_row x s types
  node_uses types (arrow a b) = type_uses types a ⊕ type_uses types b
  node_uses types (record_type fs) = field_uses types fs
  node_uses types n = empty_table

  -- those in the fields of a record type
  pub field_uses : List Entry → TypeFields → Table
  field_uses types no_type_fields = empty_table
  field_uses types (type_field l t fs) = type_uses types t ⊕ field_uses types fs

-- the indices of the terms of a record, where the first of all their subterms is k
abbrev pub roots_of_fields : (k : ℕ) → FieldTrees → List ℕ
roots_of_fields k no_fields = []
roots_of_fields k (field l t fs) = root k t ∷ roots_of_fields (behind k t) fs

-- the immediate subterms of a term whose first subterm is k; those of a letrec are its derived fix and its body
abbrev pub roots : (k : ℕ) → TermNode → List ℕ
roots k (lambda b u t) = root k t ∷ []
roots k (if_term c t u) = root k c ∷ root (behind k c) t ∷ root (behind (behind k c) t) u ∷ []
roots k (let_term b t u) = root k t ∷ root (behind k t) u ∷ []
roots k (letrec_term b w t u) = (root k t + 2) ∷ root (root k t + 3) u ∷ []
roots k (prefixed p t) = root k t ∷ []
roots k (apply t u) = root k t ∷ root (behind k t) u ∷ []
roots k (project t l) = root k t ∷ []
roots k (ascribe t u) = root k t ∷ []
roots k (record_term fs) = roots_of_fields k fs
roots k node = []

-- the rows before the body of a letrec: its two binders, its type, its bound term, which is subterm p, and its derived lambda and fix
abbrev pub letrec_rows : Option Name → Span → (names : List Entry) → (n p : ℕ) → Span → (type term : Table) → Table
letrec_rows x r names n p s u t =
    binder_row x r names (n + 1) (lambda_at (p + 1))
    ⊕ binder_row x r names (n + 1) (term_at (p + 2))
    ⊕ u
    ⊕ t
    ⊕ place_row s true (p ∷ []) names
    ⊕ place_row s true ((p + 1) ∷ []) names

-- The table of a term under these binders of type names and of names, where its first binder has index n and its first subterm index k.
abbrev mutual
  pub term_table : (types names : List Entry) → (n k : ℕ) → TermTree → Table
  term_table types names n k (term_tree s node) = node_table types names n k node ⊕ place_row s false (roots k node) names

  -- all of it but the term's own row
  pub node_table : (types names : List Entry) → (n k : ℕ) → TermNode → Table
  node_table types names n k (variable (word x r)) = use_row x r names
  node_table types names n k (lambda (bound b r) u t) =
      binder_row b r names n (lambda_at (behind k t))
      ⊕ type_uses types u
      ⊕ term_table types (entry b n n ∷ names) (n + 1) k t
  node_table types names n k (if_term c t u) =
      term_table types names n k c
      ⊕ term_table types names (n + binders_in c) (behind k c) t
      ⊕ term_table types names (n + binders_in c + binders_in t) (behind (behind k c) t) u
  node_table types names n k (let_term (bound b r) t u) =
      binder_row b r names n (term_at (root k t))
      ⊕ term_table types names (n + 1) k t
      ⊕ term_table types (entry b n n ∷ names) (n + 1 + binders_in t) (behind k t) u
  node_table types names n k (letrec_term (bound b r) w t u) =
      letrec_rows b r names n (root k t) (term_span t) (type_uses types w) (term_table types (entry b n (n + 1) ∷ names) (n + 2) k t)
      ⊕ term_table types (entry b (n + 1) (n + 1) ∷ names) (n + 2 + binders_in t) (root k t + 3) u
  node_table types names n k (prefixed p t) = term_table types names n k t
  node_table types names n k (apply t u) =
      term_table types names n k t ⊕ term_table types names (n + binders_in t) (behind k t) u
  node_table types names n k (project t l) = term_table types names n k t
  node_table types names n k (ascribe t u) = term_table types names n k t ⊕ type_uses types u
  node_table types names n k (record_term fs) = fields_table types names n k fs
  node_table types names n k node = empty_table

  -- the table of the terms of a record
  pub fields_table : (types names : List Entry) → (n k : ℕ) → FieldTrees → Table
  fields_table types names n k no_fields = empty_table
  fields_table types names n k (field l t fs) =
      term_table types names n k t ⊕ fields_table types names (n + binders_in t) (behind k t) fs

-- The table of a command under these binders, with n binders, k subterms and i commands before it.
abbrev pub command_table : (types names : List Entry) → (n k i : ℕ) → CommandTree → Table
command_table types names n k i (definition (word x s) t) = binder_row (Some x) s names n (term_at (root k t)) ⊕ term_table types names (n + 1) k t
command_table types names n k i (declaration (word x s) u) = binder_row (Some x) s names n (Declaration i) ⊕ type_uses types u
command_table types names n k i (abbreviation (word x s) u) = binder_row (Some x) s types n TypeName ⊕ type_uses types u
command_table types names n k i (evaluation t) = term_table types names n k t

-- the binders of type names in scope after a command, with n binders before it
abbrev pub types_seen_after : (n : ℕ) → List Entry → CommandTree → List Entry
types_seen_after n types (abbreviation (word x s) u) = entry (Some x) n n ∷ types
types_seen_after n types c = types

-- the binders of names in scope after a command, with n binders before it
abbrev pub names_seen_after : (n : ℕ) → List Entry → CommandTree → List Entry
names_seen_after n names (definition (word x s) t) = entry (Some x) n n ∷ names
names_seen_after n names (declaration (word x s) u) = entry (Some x) n n ∷ names
names_seen_after n names c = names

-- the number of binders of a command, its own included
abbrev pub binders_in_command : CommandTree → ℕ
binders_in_command (definition w t) = 1 + binders_in t
binders_in_command (declaration w u) = 1
binders_in_command (abbreviation w u) = 1
binders_in_command (evaluation t) = binders_in t

-- the number of subterms of a command: those of its term, if it has one
abbrev pub places_in_command : CommandTree → ℕ
places_in_command (definition w t) = below t + 1
places_in_command (declaration w u) = 0
places_in_command (abbreviation w u) = 0
places_in_command (evaluation t) = below t + 1

-- the table of commands under these binders and those of the commands before, with n binders, k subterms and i commands before the first
abbrev pub commands_table : (types names : List Entry) → (n k i : ℕ) → List CommandTree → Table
commands_table types names n k i [] = empty_table
commands_table types names n k i (c ∷ cs) =
    command_table types names n k i c
    ⊕ commands_table (types_seen_after n types c) (names_seen_after n names c) (n + binders_in_command c) (k + places_in_command c) (i + 1) cs

-- the table of all commands of a document
abbrev pub table : List CommandTree → Table
table cs = commands_table [] [] 0 0 0 cs

-- Queries of a table.

-- the span of a subterm or binder that does not exist
abbrev pub no_span : Span
no_span = record { start = 0; end = 0 }

-- the binder with this zero-based index; past the last one, a binder without a name
abbrev pub binder_in : List TextBinder → ℕ → TextBinder
binder_in bs n = get_or bs n (record { name = None; token = no_span; outer = None; answer = n; origin = TypeName })

-- the subterm with this zero-based index; past the last one, one that is not in the text
abbrev pub place_at_number : List TextPlace → ℕ → TextPlace
place_at_number ps n = get_or ps n (record { span = no_span; derived = true; terms = []; inner = None })

-- the binder with this index in a table
abbrev pub binder_numbered : Table → ℕ → TextBinder
binder_numbered t n = binder_in t.binders n

-- the subterm with this index in a table
abbrev pub place_row_numbered : Table → ℕ → TextPlace
place_row_numbered t n = place_at_number t.places n

-- The binders in scope from this one on, innermost first: itself, the next one outwards, and so on. There are at most n.
abbrev pub seen_in : List TextBinder → (n : ℕ) → Option ℕ → List ℕ
seen_in bs n None = []
seen_in bs zero (Some b) = []
seen_in bs (suc n) (Some b) = b ∷ seen_in bs n (binder_in bs b).outer

-- the binders of names in scope at a subterm, outermost first
abbrev pub visible_at : Table → ℕ → List ℕ
visible_at t p = reverse (seen_in t.binders (length t.binders) (place_row_numbered t p).inner)

-- whether the name of a binder starts at byte o; never for an underscore
abbrev pub is_token_at : ℕ → TextBinder → Bool
is_token_at o b = if has_name b.name then b.token.start == o else false

-- the binder reported for the binder whose name starts at byte o, if there is one
abbrev pub binder_token_at : ℕ → List TextBinder → Option ℕ
binder_token_at o [] = None
binder_token_at o (b ∷ bs) = if is_token_at o b then Some b.answer else binder_token_at o bs

-- the binder of the use whose name starts at byte o, if there is one and it is bound
abbrev pub binder_used_at : ℕ → List TextUse → Option ℕ
binder_used_at o [] = None
binder_used_at o (u ∷ us) = if u.token.start == o then u.binder else binder_used_at o us

-- the binder that the name or type name that starts at byte o is or uses
abbrev pub binder_at : Table → ℕ → Option ℕ
binder_at t o = option_or (binder_token_at o t.binders) (binder_used_at o t.uses)

-- whether a use is bound to the binder with this index
abbrev pub is_use_of : ℕ → TextUse → Bool
is_use_of n u = is_number n u.binder

-- the tokens of the uses of the binder with this index, in text order
abbrev pub use_tokens : ℕ → List TextUse → List Span
use_tokens n us = map (λ u. u.token) (filter (is_use_of n) us)

-- the tokens of the uses of each of this many binders, beginning with index n
abbrev pub tokens_by : (n count : ℕ) → List TextUse → List (List Span)
tokens_by n zero us = []
tokens_by n (suc count) us = use_tokens n us ∷ tokens_by (n + 1) count us

-- whether a subterm contains byte o; never if it is not in the text
abbrev pub is_over : ℕ → TextPlace → Bool
is_over o p = if p.derived then false else if ltb o p.span.start then false else ltb o p.span.end

-- the first subterm that contains byte o, which is the innermost, since each term comes after its subterms
abbrev pub place_at : Table → ℕ → Option ℕ
place_at t o = position (is_over o) t.places
