-- What may follow a type, a path or a term, so that it ends there.
use Rattle.std.proofs.Common.{◌≡◌, List, [], ◌∷◌, refl}
use Rattle.lam_token.specs.declared.kind.Kind.TheVariants as kind
use Rattle.lam_token.specs.Lexeme.{Lexeme, lexeme}
use Rattle.lam_syntax.specs.Trees.{TypeTree, TermTree}
use Rattle.lam_syntax.specs.inner.Reads.{Starts}
use Rattle.lam_syntax.specs.inner.Run.{InTerm, InPath, as_head, as_argument, InType, State, after_atype, after_atom, step, ended_type, ended_asc, ended_app, ended_term, applied, outside, begin_atom, begin_term, run, look}

-- no arrow
abbrev pub TypeEnds : List Lexeme → Type 0
TypeEnds (lexeme kind.Arrow x s ∷ ts) = ⊥
TypeEnds ts = Unit {0}

-- nor `as`
abbrev pub AscEnds : List Lexeme → Type 0
AscEnds (lexeme kind.Arrow x s ∷ ts) = ⊥
AscEnds (lexeme kind.As x s ∷ ts) = ⊥
AscEnds ts = Unit {0}

-- nor a dot
abbrev pub PathEnds : List Lexeme → Type 0
PathEnds (lexeme kind.Arrow x s ∷ ts) = ⊥
PathEnds (lexeme kind.As x s ∷ ts) = ⊥
PathEnds (lexeme kind.Dot x s ∷ ts) = ⊥
PathEnds ts = Unit {0}

-- none of these
abbrev pub TermEnds : List Lexeme → Type 0
TermEnds (lexeme kind.Arrow x s ∷ ts) = ⊥
TermEnds (lexeme kind.As x s ∷ ts) = ⊥
TermEnds (lexeme kind.Dot x s ∷ ts) = ⊥
TermEnds (lexeme kind.OpenParen x s ∷ ts) = ⊥
TermEnds (lexeme kind.True x s ∷ ts) = ⊥
TermEnds (lexeme kind.False x s ∷ ts) = ⊥
TermEnds (lexeme kind.UnitTerm x s ∷ ts) = ⊥
TermEnds (lexeme kind.Name x s ∷ ts) = ⊥
TermEnds (lexeme kind.Numeral x s ∷ ts) = ⊥
TermEnds (lexeme kind.OpenBrace x s ∷ ts) = ⊥
TermEnds ts = Unit {0}

-- each of these says more than the one before

pub asc_type : (ts : List Lexeme) → AscEnds ts → TypeEnds ts
asc_type [] e = tt
asc_type (lexeme kind.Arrow x s ∷ ts) e = e
asc_type (lexeme k x s ∷ ts) e = tt

pub path_asc : (ts : List Lexeme) → PathEnds ts → AscEnds ts
path_asc [] e = tt
path_asc (lexeme kind.Arrow x s ∷ ts) e = e
path_asc (lexeme kind.As x s ∷ ts) e = e
path_asc (lexeme k x s ∷ ts) e = tt

pub term_path : (ts : List Lexeme) → TermEnds ts → PathEnds ts
term_path [] e = tt
term_path (lexeme kind.Arrow x s ∷ ts) e = e
term_path (lexeme kind.As x s ∷ ts) e = e
term_path (lexeme kind.Dot x s ∷ ts) e = e
term_path (lexeme k x s ∷ ts) e = tt

-- what begins an atom ends a path
pub start_path : (ts : List Lexeme) → Starts ts → PathEnds ts
start_path [] e = tt
start_path (lexeme kind.Arrow x s ∷ ts) e = e
start_path (lexeme kind.As x s ∷ ts) e = e
start_path (lexeme kind.Dot x s ∷ ts) e = e
start_path (lexeme k x s ∷ ts) e = tt

-- what the run does where each of these ends

pub run-look : (ts : List Lexeme) (s : State) → run ts s ≡ look ts (step s)
run-look [] s = refl
run-look (t ∷ ts) s = refl

pub type_ended : (ts : List Lexeme) (t : TypeTree) (k : InType) → TypeEnds ts → run ts (after_atype t k) ≡ look ts (λ o. ended_type o t k)
type_ended [] t k e = refl
type_ended (lexeme kind.Arrow x s ∷ ts) t k e = absurd e
type_ended (lexeme _ x s ∷ ts) t k e = refl

pub atom_ended : (ts : List Lexeme) (t : TermTree) (k : InPath) → AscEnds ts → run ts (after_atom t k) ≡ look ts (λ o. ended_asc o t k)
atom_ended [] t k e = refl
atom_ended (lexeme kind.As x s ∷ ts) t k e = absurd e
atom_ended (lexeme _ x s ∷ ts) t k e = refl

pub path_ended : (ts : List Lexeme) (t : TermTree) (k : InPath) → PathEnds ts → look ts (λ o. ended_asc o t k) ≡ look ts (λ o. ended_app o (applied t k) (outside k))
path_ended [] t k e = refl
path_ended (lexeme kind.Dot x s ∷ ts) t k e = absurd e
path_ended (lexeme _ x s ∷ ts) t k e = refl

pub app_ended : (ts : List Lexeme) (t : TermTree) (k : InTerm) → TermEnds ts → look ts (λ o. ended_app o t k) ≡ look ts (λ o. ended_term o t k)
app_ended [] t k e = refl
app_ended (lexeme kind.OpenParen x s ∷ ts) t k e = absurd e
app_ended (lexeme kind.True x s ∷ ts) t k e = absurd e
app_ended (lexeme kind.False x s ∷ ts) t k e = absurd e
app_ended (lexeme kind.UnitTerm x s ∷ ts) t k e = absurd e
app_ended (lexeme kind.Name x s ∷ ts) t k e = absurd e
app_ended (lexeme kind.Numeral x s ∷ ts) t k e = absurd e
app_ended (lexeme kind.OpenBrace x s ∷ ts) t k e = absurd e
app_ended (lexeme _ x s ∷ ts) t k e = refl

-- where an atom begins, a term begins with it, and an application goes on

pub head_begun : (ts : List Lexeme) (k : InTerm) → Starts ts → look ts (λ o. begin_term o k) ≡ look ts (λ o. begin_atom o (as_head k))
head_begun [] k e = refl
head_begun (lexeme kind.Lambda x s ∷ ts) k e = absurd e
head_begun (lexeme kind.If x s ∷ ts) k e = absurd e
head_begun (lexeme kind.Let x s ∷ ts) k e = absurd e
head_begun (lexeme kind.Letrec x s ∷ ts) k e = absurd e
head_begun (lexeme kind.Fix x s ∷ ts) k e = absurd e
head_begun (lexeme kind.Succ x s ∷ ts) k e = absurd e
head_begun (lexeme kind.Pred x s ∷ ts) k e = absurd e
head_begun (lexeme kind.IsZero x s ∷ ts) k e = absurd e
head_begun (lexeme _ x s ∷ ts) k e = refl

pub argument_begun : (ts : List Lexeme) (t : TermTree) (k : InTerm) → Starts ts → look ts (λ o. ended_app o t k) ≡ look ts (λ o. begin_atom o (as_argument t k))
argument_begun [] t k e = absurd e
argument_begun (lexeme kind.OpenParen x s ∷ ts) t k e = refl
argument_begun (lexeme kind.True x s ∷ ts) t k e = refl
argument_begun (lexeme kind.False x s ∷ ts) t k e = refl
argument_begun (lexeme kind.UnitTerm x s ∷ ts) t k e = refl
argument_begun (lexeme kind.Name x s ∷ ts) t k e = refl
argument_begun (lexeme kind.Numeral x s ∷ ts) t k e = refl
argument_begun (lexeme kind.OpenBrace x s ∷ ts) t k e = refl
argument_begun (lexeme _ x s ∷ ts) t k e = absurd e
