-- Parsing a command as a single run over the tokens, with a stack of unfinished constructs.
--
-- Only for the contracts of private functions, which cannot cite lemma files. `Grammar` defines what is correct, and no public contract cites this file;
-- `proofs/Complete`, `Sound` and `Wrong` prove that the two agree.
use Rattle.std.specs.Prelude.{Option, Some, None, List, [], ◌∷◌}
use Rattle.lam_token.specs.declared.kind.Kind.TheVariants as kind
use Rattle.lam_token.specs.declared.span.Span.{Span}
use Rattle.lam_token.specs.Lexeme.{Lexeme, lexeme}
use Rattle.lam_syntax.specs.declared.terms.Prefix.{Prefix}
use Rattle.lam_syntax.specs.declared.terms.Prefix.TheVariants as prefix
use Rattle.lam_syntax.specs.Trees.{Word, word, Bound, bound, TypeTree, type_tree, bool, nat, unit, top, named, arrow, record_type, TypeFields, no_type_fields, type_field, TermTree, term_tree, true_term, false_term, unit_term, variable, numeral, lambda, if_term, let_term, letrec_term, prefixed, apply, project, ascribe, record_term, FieldTrees, no_fields, field, CommandTree, definition, declaration, abbreviation, evaluation, from_to, type_span, term_span, spanning_type, spanning_term, joined_types, joined}

-- the keyword that a binder belongs to
pub data Purpose : Type 0 where
  for_lambda : Purpose
  for_let : Purpose
  for_letrec : Purpose

mutual
  -- what is unfinished around a term; the spans are those of the first tokens
  pub data InTerm : Type 0 where
    of_evaluation : InTerm
    of_definition : Word → InTerm
    in_lambda : Span → Bound → TypeTree → InTerm → InTerm
    in_condition : Span → InTerm → InTerm
    in_then : Span → (condition : TermTree) → InTerm → InTerm
    in_else : Span → (condition one : TermTree) → InTerm → InTerm
    in_let : Span → Bound → InTerm → InTerm
    in_let_body : Span → Bound → TermTree → InTerm → InTerm
    in_letrec : Span → Bound → TypeTree → InTerm → InTerm
    in_letrec_body : Span → Bound → TypeTree → TermTree → InTerm → InTerm
    in_parens : Span → InPath → InTerm
    in_field : Span → (before : FieldTrees) → (label : Word) → InPath → InTerm

  -- what is unfinished around a path
  pub data InPath : Type 0 where
    as_head : InTerm → InPath
    as_operand : Span → Prefix → InTerm → InPath
    as_argument : (function : TermTree) → InTerm → InPath

-- what is unfinished around a type
pub data InType : Type 0 where
  of_declaration : Word → InType
  of_abbreviation : Word → InType
  of_lambda : Span → Bound → InTerm → InType
  of_letrec : Span → Bound → InTerm → InType
  of_ascription : TermTree → InPath → InType
  right_of : TypeTree → InType → InType
  in_type_parens : Span → InType → InType
  in_type_field : Span → (before : TypeFields) → (label : Word) → InType → InType

-- what is expected next
pub data State : Type 0 where
  need_command : State
  after_name : Word → State
  after_type_name : Word → State
  need_type : InType → State
  after_atype : TypeTree → InType → State
  need_type_field : Span → InType → State
  next_type_field : Span → (before : TypeFields) → InType → State
  after_type_label : Span → (before : TypeFields) → (label : Word) → InType → State
  need_binder : Purpose → Span → InTerm → State
  after_binder : Purpose → Span → Bound → InTerm → State
  need_term : InTerm → State
  need_path : InPath → State
  after_atom : TermTree → InPath → State
  after_asc : TermTree → InPath → State
  need_label : TermTree → InPath → State
  need_field : Span → InPath → State
  next_field : Span → (before : FieldTrees) → InPath → State
  after_label : Span → (before : FieldTrees) → (label : Word) → InPath → State

-- what a token, or the end, leads to
pub data Next : Type 0 where
  go : State → Next
  done : CommandTree → Next
  stop : Next

-- after a complete term, given the next token or the end
abbrev pub ended_term : Option Lexeme → TermTree → InTerm → Next
ended_term o t (in_lambda s b u k) = ended_term o (term_tree (from_to s (term_span t)) (lambda b u t)) k
ended_term o t (in_else s c a k) = ended_term o (term_tree (from_to s (term_span t)) (if_term c a t)) k
ended_term o t (in_let_body s b a k) = ended_term o (term_tree (from_to s (term_span t)) (let_term b a t)) k
ended_term o t (in_letrec_body s b u a k) = ended_term o (term_tree (from_to s (term_span t)) (letrec_term b u a t)) k
ended_term None t of_evaluation = done (evaluation t)
ended_term None t (of_definition x) = done (definition x t)
ended_term (Some (lexeme kind.Then x e)) t (in_condition s k) = go (need_term (in_then s t k))
ended_term (Some (lexeme kind.Else x e)) t (in_then s c k) = go (need_term (in_else s c t k))
ended_term (Some (lexeme kind.In x e)) t (in_let s b k) = go (need_term (in_let_body s b t k))
ended_term (Some (lexeme kind.In x e)) t (in_letrec s b u k) = go (need_term (in_letrec_body s b u t k))
ended_term (Some (lexeme kind.CloseParen x e)) t (in_parens s k) = go (after_atom (spanning_term (from_to s e) t) k)
ended_term (Some (lexeme kind.Comma x e)) t (in_field s before l k) = go (next_field s (joined before (field l t no_fields)) k)
ended_term (Some (lexeme kind.CloseBrace x e)) t (in_field s before l k) = go (after_atom (term_tree (from_to s e) (record_term (joined before (field l t no_fields)))) k)
ended_term o t k = stop

-- the term that a complete path makes as a head, an operand or an argument
abbrev pub applied : TermTree → InPath → TermTree
applied t (as_head k) = t
applied t (as_operand s p k) = term_tree (from_to s (term_span t)) (prefixed p t)
applied a (as_argument f k) = term_tree (from_to (term_span f) (term_span a)) (apply f a)

-- what is unfinished around the term that such a path makes
abbrev pub outside : InPath → InTerm
outside (as_head k) = k
outside (as_operand s p k) = k
outside (as_argument f k) = k

-- at the first token of an atom
abbrev pub begin_atom : Option Lexeme → InPath → Next
begin_atom (Some (lexeme kind.OpenParen x s)) k = go (need_term (in_parens s k))
begin_atom (Some (lexeme kind.True x s)) k = go (after_atom (term_tree s true_term) k)
begin_atom (Some (lexeme kind.False x s)) k = go (after_atom (term_tree s false_term) k)
begin_atom (Some (lexeme kind.UnitTerm x s)) k = go (after_atom (term_tree s unit_term) k)
begin_atom (Some (lexeme kind.Name x s)) k = go (after_atom (term_tree s (variable (word x s))) k)
begin_atom (Some (lexeme kind.Numeral x s)) k = go (after_atom (term_tree s (numeral (word x s))) k)
begin_atom (Some (lexeme kind.OpenBrace x s)) k = go (need_field s k)
begin_atom o k = stop

-- after an application: another argument, or its end
abbrev pub ended_app : Option Lexeme → TermTree → InTerm → Next
ended_app (Some (lexeme kind.OpenParen x s)) t k = begin_atom (Some (lexeme kind.OpenParen x s)) (as_argument t k)
ended_app (Some (lexeme kind.True x s)) t k = begin_atom (Some (lexeme kind.True x s)) (as_argument t k)
ended_app (Some (lexeme kind.False x s)) t k = begin_atom (Some (lexeme kind.False x s)) (as_argument t k)
ended_app (Some (lexeme kind.UnitTerm x s)) t k = begin_atom (Some (lexeme kind.UnitTerm x s)) (as_argument t k)
ended_app (Some (lexeme kind.Name x s)) t k = begin_atom (Some (lexeme kind.Name x s)) (as_argument t k)
ended_app (Some (lexeme kind.Numeral x s)) t k = begin_atom (Some (lexeme kind.Numeral x s)) (as_argument t k)
ended_app (Some (lexeme kind.OpenBrace x s)) t k = begin_atom (Some (lexeme kind.OpenBrace x s)) (as_argument t k)
ended_app o t k = ended_term o t k

-- after a path: a projection, or its end
abbrev pub ended_asc : Option Lexeme → TermTree → InPath → Next
ended_asc (Some (lexeme kind.Dot x s)) t k = go (need_label t k)
ended_asc o t k = ended_app o (applied t k) (outside k)

-- after an atom: an ascription, or its end
abbrev pub ended_atom : Option Lexeme → TermTree → InPath → Next
ended_atom (Some (lexeme kind.As x s)) t k = go (need_type (of_ascription t k))
ended_atom o t k = ended_asc o t k

-- after a complete type, given the next token or the end
abbrev pub ended_type : Option Lexeme → TypeTree → InType → Next
ended_type o b (right_of a k) = ended_type o (type_tree (from_to (type_span a) (type_span b)) (arrow a b)) k
ended_type o u (of_ascription t k) = ended_asc o (term_tree (from_to (term_span t) (type_span u)) (ascribe t u)) k
ended_type None t (of_declaration x) = done (declaration x t)
ended_type None t (of_abbreviation x) = done (abbreviation x t)
ended_type (Some (lexeme kind.Dot x e)) t (of_lambda s b k) = go (need_term (in_lambda s b t k))
ended_type (Some (lexeme kind.Equals x e)) t (of_letrec s b k) = go (need_term (in_letrec s b t k))
ended_type (Some (lexeme kind.CloseParen x e)) t (in_type_parens s k) = go (after_atype (spanning_type (from_to s e) t) k)
ended_type (Some (lexeme kind.Comma x e)) t (in_type_field s before l k) = go (next_type_field s (joined_types before (type_field l t no_type_fields)) k)
ended_type (Some (lexeme kind.CloseBrace x e)) t (in_type_field s before l k) = go (after_atype (type_tree (from_to s e) (record_type (joined_types before (type_field l t no_type_fields)))) k)
ended_type o t k = stop

-- after an atomic type: an arrow, or its end
abbrev pub ended_atype : Option Lexeme → TypeTree → InType → Next
ended_atype (Some (lexeme kind.Arrow x s)) t k = go (need_type (right_of t k))
ended_atype o t k = ended_type o t k

-- at the first token of a type
abbrev pub begin_type : Option Lexeme → InType → Next
begin_type (Some (lexeme kind.OpenParen x s)) k = go (need_type (in_type_parens s k))
begin_type (Some (lexeme kind.BoolType x s)) k = go (after_atype (type_tree s bool) k)
begin_type (Some (lexeme kind.NatType x s)) k = go (after_atype (type_tree s nat) k)
begin_type (Some (lexeme kind.UnitType x s)) k = go (after_atype (type_tree s unit) k)
begin_type (Some (lexeme kind.TopType x s)) k = go (after_atype (type_tree s top) k)
begin_type (Some (lexeme kind.TypeName x s)) k = go (after_atype (type_tree s (named (word x s))) k)
begin_type (Some (lexeme kind.OpenBrace x s)) k = go (need_type_field s k)
begin_type o k = stop

-- at the first token of an application
abbrev pub begin_app : Option Lexeme → InTerm → Next
begin_app (Some (lexeme kind.Fix x s)) k = go (need_path (as_operand s prefix.Fix k))
begin_app (Some (lexeme kind.Succ x s)) k = go (need_path (as_operand s prefix.Succ k))
begin_app (Some (lexeme kind.Pred x s)) k = go (need_path (as_operand s prefix.Pred k))
begin_app (Some (lexeme kind.IsZero x s)) k = go (need_path (as_operand s prefix.IsZero k))
begin_app o k = begin_atom o (as_head k)

-- at the first token of a term
abbrev pub begin_term : Option Lexeme → InTerm → Next
begin_term (Some (lexeme kind.Lambda x s)) k = go (need_binder for_lambda s k)
begin_term (Some (lexeme kind.If x s)) k = go (need_term (in_condition s k))
begin_term (Some (lexeme kind.Let x s)) k = go (need_binder for_let s k)
begin_term (Some (lexeme kind.Letrec x s)) k = go (need_binder for_letrec s k)
begin_term o k = begin_app o k

-- at the name of a binder
abbrev pub binder_next : Option Lexeme → Purpose → Span → InTerm → Next
binder_next (Some (lexeme kind.Name x r)) p s k = go (after_binder p s (bound (Some x) r) k)
binder_next (Some (lexeme kind.Underscore x r)) p s k = go (after_binder p s (bound None r) k)
binder_next o p s k = stop

-- what follows a binder
abbrev pub bound_next : Option Lexeme → Purpose → Span → Bound → InTerm → Next
bound_next (Some (lexeme kind.Colon x c)) for_lambda s b k = go (need_type (of_lambda s b k))
bound_next (Some (lexeme kind.Equals x c)) for_let s b k = go (need_term (in_let s b k))
bound_next (Some (lexeme kind.Colon x c)) for_letrec s b k = go (need_type (of_letrec s b k))
bound_next o p s b k = stop

-- at the first token of a command
abbrev pub begin_command : Option Lexeme → Next
begin_command (Some (lexeme kind.Name x s)) = go (after_name (word x s))
begin_command (Some (lexeme kind.TypeName x s)) = go (after_type_name (word x s))
begin_command o = begin_term o of_evaluation

-- a name as a variable
abbrev pub variable_at : Word → TermTree
variable_at (word x s) = term_tree s (variable (word x s))

-- what follows a name at the start of a command: it is defined or declared, or is the first atom of a term
abbrev pub name_next : Option Lexeme → Word → Next
name_next (Some (lexeme kind.Equals x s)) n = go (need_term (of_definition n))
name_next (Some (lexeme kind.Colon x s)) n = go (need_type (of_declaration n))
name_next o n = ended_atom o (variable_at n) (as_head of_evaluation)

-- what follows a type name at the start of a command: an equals sign
abbrev pub type_name_next : Option Lexeme → Word → Next
type_name_next (Some (lexeme kind.Equals x s)) n = go (need_type (of_abbreviation n))
type_name_next o n = stop

-- what follows the opening brace of a record type: a label, or the closing brace
abbrev pub begin_type_field : Option Lexeme → Span → InType → Next
begin_type_field (Some (lexeme kind.CloseBrace x e)) s k = go (after_atype (type_tree (from_to s e) (record_type no_type_fields)) k)
begin_type_field (Some (lexeme kind.Name l r)) s k = go (after_type_label s no_type_fields (word l r) k)
begin_type_field o s k = stop

-- what follows a comma in a record type: a label
abbrev pub more_type_field : Option Lexeme → Span → TypeFields → InType → Next
more_type_field (Some (lexeme kind.Name l r)) s before k = go (after_type_label s before (word l r) k)
more_type_field o s before k = stop

-- what follows a label in a record type: a colon
abbrev pub type_label_next : Option Lexeme → Span → TypeFields → Word → InType → Next
type_label_next (Some (lexeme kind.Colon x c)) s before l k = go (need_type (in_type_field s before l k))
type_label_next o s before l k = stop

-- what follows the opening brace of a record: a label, or the closing brace
abbrev pub begin_field : Option Lexeme → Span → InPath → Next
begin_field (Some (lexeme kind.CloseBrace x e)) s k = go (after_atom (term_tree (from_to s e) (record_term no_fields)) k)
begin_field (Some (lexeme kind.Name l r)) s k = go (after_label s no_fields (word l r) k)
begin_field o s k = stop

-- what follows a comma in a record: a label
abbrev pub more_field : Option Lexeme → Span → FieldTrees → InPath → Next
more_field (Some (lexeme kind.Name l r)) s before k = go (after_label s before (word l r) k)
more_field o s before k = stop

-- what follows a label in a record: an equals sign
abbrev pub label_next : Option Lexeme → Span → FieldTrees → Word → InPath → Next
label_next (Some (lexeme kind.Equals x c)) s before l k = go (need_term (in_field s before l k))
label_next o s before l k = stop

-- the label of a projection
abbrev pub projected : Option Lexeme → TermTree → InPath → Next
projected (Some (lexeme kind.Name l s)) t k = go (after_asc (term_tree (from_to (term_span t) s) (project t (word l s))) k)
projected o t k = stop

-- what a token, or the end, leads to in each state
abbrev pub step : State → Option Lexeme → Next
step need_command o = begin_command o
step (after_name n) o = name_next o n
step (after_type_name n) o = type_name_next o n
step (need_type k) o = begin_type o k
step (after_atype t k) o = ended_atype o t k
step (need_type_field s k) o = begin_type_field o s k
step (next_type_field s before k) o = more_type_field o s before k
step (after_type_label s before l k) o = type_label_next o s before l k
step (need_binder p s k) o = binder_next o p s k
step (after_binder p s b k) o = bound_next o p s b k
step (need_term k) o = begin_term o k
step (need_path k) o = begin_atom o k
step (after_atom t k) o = ended_atom o t k
step (after_asc t k) o = ended_asc o t k
step (need_label t k) o = projected o t k
step (need_field s k) o = begin_field o s k
step (next_field s before k) o = more_field o s before k
step (after_label s before l k) o = label_next o s before l k

-- a command, or the tokens from the first one that does not fit
pub data Outcome : Type 0 where
  tree : CommandTree → Outcome
  fault : (left : List Lexeme) → Outcome

-- at the end of the tokens
abbrev pub at_last : Next → Outcome
at_last (done c) = tree c
at_last (go s) = fault []
at_last stop = fault []

-- at a token, given the outcome of the run over those after it for each state
abbrev pub went : (left : List Lexeme) → (State → Outcome) → Next → Outcome
went left rest (go s) = rest s
went left rest (done c) = fault left
went left rest stop = fault left

-- the run over the tokens from a state
abbrev pub run : List Lexeme → State → Outcome
run [] s = at_last (step s None)
run (t ∷ ts) s = went (t ∷ ts) (run ts) (step s (Some t))

-- the run whose next step is given as a function of the next token
abbrev pub look : List Lexeme → (Option Lexeme → Next) → Outcome
look [] f = at_last (f None)
look (t ∷ ts) f = went (t ∷ ts) (run ts) (f (Some t))
