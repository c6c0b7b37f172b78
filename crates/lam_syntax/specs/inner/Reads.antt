-- The results of the parsing functions, in terms of `Run`. Only for private contracts, as `Run` is.
use Rattle.std.specs.Prelude.{◌≡◌, ◌⊎◌, ℕ, suc, if◌then◌else◌, Option, Some, None, Result, Ok, Err, List, [], ◌∷◌}
use Rattle.std.specs.Borrow.{Bor}
use Rattle.lam_token.specs.declared.kind.Kind.{Kind}
use Rattle.lam_token.specs.declared.kind.Kind.TheVariants as kind
use Rattle.lam_token.specs.declared.span.Span.{Span}
use Rattle.lam_token.specs.Lexeme.{Lexeme, lexeme}
use Rattle.lam_syntax.specs.declared.identifier.Identifier.{Identifier}
use Rattle.lam_syntax.specs.declared.stop.Stop.{Stop}
use Rattle.lam_syntax.specs.declared.stop.Stop.TheVariants.{At, Memory}
use Rattle.lam_syntax.specs.declared.identifier.Binder.{Binder}
use Rattle.lam_syntax.specs.declared.terms.Prefix.{Prefix}
use Rattle.lam_syntax.specs.declared.terms.Tm.{Tm}
use Rattle.lam_syntax.specs.declared.terms.TmField.{TmField}
use Rattle.lam_syntax.specs.declared.terms.Command.{Command}
use Rattle.lam_syntax.specs.declared.types.WrittenTy.{WrittenTy}
use Rattle.lam_syntax.specs.declared.types.TyField.{TyField}
use Rattle.lam_syntax.specs.Trees.{word, Bound, TermTree, term_tree, term_span, prefixed, record_term, FieldTrees, no_fields, field, joined, TypeFields, no_type_fields, type_field, joined_types, type_tree, record_type, from_to}
use Rattle.lam_syntax.specs.inner.Run.{Purpose, InTerm, InPath, as_head, as_operand, after_binder, after_atom, next_field, ended_asc, ended_app, ended_term, applied, outside, tree, InType, need_term, after_atype, next_type_field, Next, go, stop, ended_type, Outcome, fault, run, look}
use Rattle.lam_syntax.specs.Answers.{is_semicolon, has_tokens}
use Rattle.lam_syntax.specs.Views.{word_of, bound_of, type_of, term_of, command_of}

-- The run over the tokens is the same as the run over those left after the parsed part, or has its fault where parsing stopped.
abbrev pub Reads : {X : Type 0} → Result (X × Bor (List Lexeme)) Stop → Outcome → (X → List Lexeme → Outcome) → Type 0
Reads (Ok r) o next = o ≡ next r.0 r.1.now
Reads (Err (At left)) o next = o ≡ fault left.now
Reads (Err Memory) o next = Unit {0}

-- the first token is of this kind and has this span, and these follow
abbrev pub Front : Kind → List Lexeme → Span → List Lexeme → Type 0
Front kind tokens span rest = (x : List ℕ) × (tokens ≡ lexeme kind x span ∷ rest)

-- the first token, if any, is not of this kind
abbrev pub NoFront : Kind → List Lexeme → Type 0
NoFront kind tokens = (x : List ℕ) (span : Span) (rest : List Lexeme) → tokens ≡ lexeme kind x span ∷ rest → ⊥

-- the first token is read if it is of this kind
abbrev pub Takes : Kind → List Lexeme → Option (Span × Bor (List Lexeme)) → Type 0
Takes kind tokens None = NoFront kind tokens
Takes kind tokens (Some r) = Front kind tokens r.0 r.1.now

-- the first token is read if it is of this kind; otherwise parsing stops
abbrev pub Expects : Kind → List Lexeme → Result (Span × Bor (List Lexeme)) Stop → Type 0
Expects kind tokens (Ok r) = Front kind tokens r.0 r.1.now
Expects kind tokens (Err (At left)) = (left.now ≡ tokens) × NoFront kind tokens
Expects kind tokens (Err Memory) = ⊥

-- what follows a complete type
abbrev pub behind_type : InType → WrittenTy → List Lexeme → Outcome
behind_type k t rest = look rest (λ o. ended_type o (type_of t) k)

-- what follows an atomic type
abbrev pub behind_atype : InType → WrittenTy → List Lexeme → Outcome
behind_atype k t rest = run rest (after_atype (type_of t) k)

-- what follows a field of a record type: a comma and more fields, or the closing brace
abbrev pub type_fields_next : Option Lexeme → Span → TypeFields → InType → Next
type_fields_next (Some (lexeme kind.Comma x e)) s fs k = go (next_type_field s fs k)
type_fields_next (Some (lexeme kind.CloseBrace x e)) s fs k = go (after_atype (type_tree (from_to s e) (record_type fs)) k)
type_fields_next o s fs k = stop

-- what follows a field of a record type, given the fields before it
abbrev pub behind_type_field : Span → TypeFields → InType → TyField → List Lexeme → Outcome
behind_type_field s before k f rest = look rest (λ o. type_fields_next o s (joined_types before (type_field (word_of f.label) (type_of f.ty) no_type_fields)) k)

-- the first token may begin an atom
abbrev pub Starts : List Lexeme → Type 0
Starts (lexeme kind.OpenParen x s ∷ ts) = Unit {0}
Starts (lexeme kind.True x s ∷ ts) = Unit {0}
Starts (lexeme kind.False x s ∷ ts) = Unit {0}
Starts (lexeme kind.UnitTerm x s ∷ ts) = Unit {0}
Starts (lexeme kind.Name x s ∷ ts) = Unit {0}
Starts (lexeme kind.Numeral x s ∷ ts) = Unit {0}
Starts (lexeme kind.OpenBrace x s ∷ ts) = Unit {0}
Starts ts = ⊥

-- what follows a binder
abbrev pub behind_binder : Purpose → Span → InTerm → Binder → List Lexeme → Outcome
behind_binder p s k b rest = run rest (after_binder p s (bound_of b) k)

-- what follows a binder and its type, by the construct they belong to
abbrev pub behind_typed_binder : (Span → Bound → InTerm → InType) → Span → InTerm → Binder × WrittenTy → List Lexeme → Outcome
behind_typed_binder of s k b rest = look rest (λ o. ended_type o (type_of b.1) (of s (bound_of b.0) k))

-- what follows an atom
abbrev pub behind_atom : InPath → Tm → List Lexeme → Outcome
behind_atom k t rest = run rest (after_atom (term_of t) k)

-- what follows an ascription: an atom, perhaps with `as` and a type
abbrev pub behind_asc : InPath → Tm → List Lexeme → Outcome
behind_asc k t rest = look rest (λ o. ended_asc o (term_of t) k)

-- what follows a complete path
abbrev pub behind_path : InPath → Tm → List Lexeme → Outcome
behind_path k t rest = look rest (λ o. ended_app o (applied (term_of t) k) (outside k))

-- what follows a complete term
abbrev pub behind_term : InTerm → Tm → List Lexeme → Outcome
behind_term k t rest = look rest (λ o. ended_term o (term_of t) k)

-- A token of this kind and then a term are read, or parsing stops, at the first token or in the term.
abbrev pub ReadsBehind : Kind → List Lexeme → Result (Tm × Bor (List Lexeme)) Stop → Type 0
ReadsBehind kind tokens (Ok r) = (s : Span) × (after : List Lexeme) × Front kind tokens s after × ((k : InTerm) → run after (need_term k) ≡ behind_term k r.0 r.1.now)
ReadsBehind kind tokens (Err (At left)) = ((left.now ≡ tokens) × NoFront kind tokens) ⊎ ((s : Span) × (after : List Lexeme) × Front kind tokens s after × ((k : InTerm) → run after (need_term k) ≡ fault left.now))
ReadsBehind kind tokens (Err Memory) = Unit {0}

-- the context of a path after an optional prefix
abbrev pub placed : Option (Prefix × Span) → InTerm → InPath
placed None k = as_head k
placed (Some q) k = as_operand q.1 q.0 k

-- the term that a path makes with an optional prefix
abbrev pub prefixed_by : Option (Prefix × Span) → TermTree → TermTree
prefixed_by None t = t
prefixed_by (Some q) t = term_tree (from_to q.1 (term_span t)) (prefixed q.0 t)

-- what follows a field of a record: a comma and more fields, or the closing brace
abbrev pub fields_next : Option Lexeme → Span → FieldTrees → InPath → Next
fields_next (Some (lexeme kind.Comma x e)) s fs k = go (next_field s fs k)
fields_next (Some (lexeme kind.CloseBrace x e)) s fs k = go (after_atom (term_tree (from_to s e) (record_term fs)) k)
fields_next o s fs k = stop

-- what follows a field of a record, given the fields before it
abbrev pub behind_field : Span → FieldTrees → InPath → TmField → List Lexeme → Outcome
behind_field s before k f rest = look rest (λ o. fields_next o s (joined before (field (word_of f.label) (term_of f.term) no_fields)) k)

-- the result of parsing a command to the end of the tokens
abbrev pub ReadsAll : Result Command Stop → Outcome → Type 0
ReadsAll (Ok c) o = o ≡ tree (command_of c)
ReadsAll (Err (At left)) o = o ≡ fault left.now
ReadsAll (Err Memory) o = Unit {0}

-- there are no more tokens, or parsing stops
abbrev pub EndsAll : List Lexeme → Result (Unit {0}) Stop → Type 0
EndsAll tokens (Ok u) = tokens ≡ []
EndsAll tokens (Err (At left)) = (left.now ≡ tokens) × (t : Lexeme) × (ts : List Lexeme) × (tokens ≡ t ∷ ts)
EndsAll tokens (Err Memory) = ⊥

-- a name is read, or parsing stops
abbrev pub Names : List Lexeme → Result (Identifier × Bor (List Lexeme)) Stop → Type 0
Names tokens (Ok r) = (x : List ℕ) × (s : Span) × (tokens ≡ lexeme kind.Name x s ∷ r.1.now) × (word_of r.0 ≡ word x s)
Names tokens (Err (At left)) = (left.now ≡ tokens) × NoFront kind.Name tokens
Names tokens (Err Memory) = Unit {0}

-- the number of tokens before the first semicolon
abbrev pub run_len : List Lexeme → ℕ
run_len [] = 0
run_len (t ∷ ts) = if is_semicolon t then 0 else suc (run_len ts)

-- these tokens, if any, as a piece before the others
abbrev pub with_piece : List Lexeme → List (List Lexeme) → List (List Lexeme)
with_piece ts pieces = if has_tokens ts then ts ∷ pieces else pieces
