-- What the tests of the code mean to the run.
use Rattle.std.proofs.Common.{◌≡◌, inl, inr, ℕ, List, [], ◌∷◌, refl, ap, sym, ◌∙◌}
use Rattle.std.specs.Prelude.{Option, Some, None, Result, Ok, Err}
use Rattle.std.specs.Borrow.{Bor}
use Rattle.lam_token.specs.declared.kind.Kind.{Kind}
use Rattle.lam_token.specs.declared.kind.Kind.TheVariants as kind
use Rattle.lam_token.specs.declared.span.Span.{Span}
use Rattle.lam_token.specs.Lexeme.{Lexeme, lexeme, kind_of, text_of, span_of}
use Rattle.lam_syntax.specs.declared.terms.Command.{Command}
use Rattle.lam_syntax.specs.declared.terms.Prefix.{Prefix}
use Rattle.lam_syntax.specs.declared.terms.Tm.{Tm}
use Rattle.lam_syntax.specs.declared.stop.Stop.{Stop}
use Rattle.lam_syntax.specs.declared.stop.Stop.TheVariants.{At, Memory}
use Rattle.lam_syntax.specs.Trees.{Word, word, Bound, TypeFields, no_type_fields, TypeTree, TermTree, FieldTrees, no_fields}
use Rattle.lam_syntax.specs.inner.Run.{for_lambda, for_let, for_letrec, in_condition, in_then, in_let, in_letrec, of_lambda, of_letrec, after_binder, InTerm, InPath, InType, need_command, after_type_name, need_type_field, next_type_field, need_term, need_field, next_field, after_label, after_type_label, need_label, after_atom, of_evaluation, begin_app, ended_type, ended_term, ended_app, ended_asc, applied, outside, Outcome, fault, run, look}
use Rattle.lam_syntax.specs.inner.Reads.{Reads, ReadsBehind, ReadsAll, Names, Expects, Front, NoFront, behind_term, placed, prefixed_by}

-- a token of a known kind
pub known_kind : (tokens rest : List Lexeme) (t : Lexeme) (k : Kind) → tokens ≡ t ∷ rest → k ≡ kind_of t → tokens ≡ lexeme k (text_of t) (span_of t) ∷ rest
known_kind tokens rest (lexeme j x s) k are is = are ∙ ap (λ i. lexeme i x s ∷ rest) (sym is)

-- the first token is none of the keywords that begin a term other than an application
pub no_word : (t : Lexeme) (tokens rest : List Lexeme) (k : InTerm) → tokens ≡ t ∷ rest
    → (kind_of t ≡ kind.Lambda → ⊥) → (kind_of t ≡ kind.If → ⊥) → (kind_of t ≡ kind.Let → ⊥) → (kind_of t ≡ kind.Letrec → ⊥)
    → run tokens (need_term k) ≡ look tokens (λ o. begin_app o k)
no_word (lexeme kind.Lambda x s) tokens rest k are a b c d = absurd (a refl)
no_word (lexeme kind.If x s) tokens rest k are a b c d = absurd (b refl)
no_word (lexeme kind.Let x s) tokens rest k are a b c d = absurd (c refl)
no_word (lexeme kind.Letrec x s) tokens rest k are a b c d = absurd (d refl)
no_word (lexeme _ x s) tokens rest k are a b c d = ap (λ l. run l (need_term k)) are ∙ sym (ap (λ l. look l (λ o. begin_app o k)) are)

-- a name that neither `=` nor `:` follows
no_mark : (x : List ℕ) (s : Span) (rest : List Lexeme) → NoFront kind.Equals rest → NoFront kind.Colon rest → run (lexeme kind.Name x s ∷ rest) need_command ≡ run (lexeme kind.Name x s ∷ rest) (need_term of_evaluation)
no_mark x s [] a b = refl
no_mark x s (lexeme kind.Equals y r ∷ ts) a b = absurd (a y r ts refl)
no_mark x s (lexeme kind.Colon y r ∷ ts) a b = absurd (b y r ts refl)
no_mark x s (lexeme _ y r ∷ ts) a b = refl

pub name_alone : (t : Lexeme) (tokens rest : List Lexeme) → tokens ≡ t ∷ rest → kind.Name ≡ kind_of t → NoFront kind.Equals rest → NoFront kind.Colon rest → run tokens need_command ≡ run tokens (need_term of_evaluation)
name_alone t tokens rest are is a b =
    let known = known_kind tokens rest t kind.Name are is in
    ap (λ l. run l need_command) known ∙ no_mark (text_of t) (span_of t) rest a b ∙ sym (ap (λ l. run l (need_term of_evaluation)) known)

-- a record type that has a field: what comes is its next field
pub some_type_fields : (tokens : List Lexeme) (s : Span) (k : InType) → NoFront kind.CloseBrace tokens → run tokens (need_type_field s k) ≡ run tokens (next_type_field s no_type_fields k)
some_type_fields [] s k none = refl
some_type_fields (lexeme kind.CloseBrace x e ∷ ts) s k none = absurd (none x e ts refl)
some_type_fields (lexeme kind.Name x e ∷ ts) s k none = refl
some_type_fields (lexeme _ x e ∷ ts) s k none = refl

pub some_fields : (tokens : List Lexeme) (s : Span) (k : InPath) → NoFront kind.CloseBrace tokens → run tokens (need_field s k) ≡ run tokens (next_field s no_fields k)
some_fields [] s k none = refl
some_fields (lexeme kind.CloseBrace x e ∷ ts) s k none = absurd (none x e ts refl)
some_fields (lexeme kind.Name x e ∷ ts) s k none = refl
some_fields (lexeme _ x e ∷ ts) s k none = refl

-- an atom without an ascription
pub no_ascription : (tokens : List Lexeme) (t : TermTree) (k : InPath) → NoFront kind.As tokens → run tokens (after_atom t k) ≡ look tokens (λ o. ended_asc o t k)
no_ascription [] t k none = refl
no_ascription (lexeme kind.As x s ∷ ts) t k none = absurd (none x s ts refl)
no_ascription (lexeme _ x s ∷ ts) t k none = refl

-- if reading a part stops, the whole stops

pub reads_stop : {X Y : Type 0} (e : Stop) (o p : Outcome) (f : X → List Lexeme → Outcome) (g : Y → List Lexeme → Outcome) → p ≡ o → Reads (Err e) o f → Reads (Err e) p g
reads_stop (At left) o p f g same h = same ∙ h
reads_stop Memory o p f g same h = tt

no_type_label : (tokens : List Lexeme) (s : Span) (before : TypeFields) (k : InType) → NoFront kind.Name tokens → run tokens (next_type_field s before k) ≡ fault tokens
no_type_label [] s before k none = refl
no_type_label (lexeme kind.Name x r ∷ ts) s before k none = absurd (none x r ts refl)
no_type_label (lexeme _ x r ∷ ts) s before k none = refl

pub type_label_stop : {X : Type 0} (tokens : List Lexeme) (e : Stop) (s : Span) (before : TypeFields) (k : InType) (f : X → List Lexeme → Outcome) → Names tokens (Err e) → Reads (Err e) (run tokens (next_type_field s before k)) f
type_label_stop tokens (At left) s before k f h = no_type_label tokens s before k h.1 ∙ ap fault (sym h.0)
type_label_stop tokens Memory s before k f h = tt

no_colon : (tokens : List Lexeme) (s : Span) (before : TypeFields) (l : List ℕ) (r : Span) (k : InType) → NoFront kind.Colon tokens → run tokens (after_type_label s before (word l r) k) ≡ fault tokens
no_colon [] s before l r k none = refl
no_colon (lexeme kind.Colon x m ∷ ts) s before l r k none = absurd (none x m ts refl)
no_colon (lexeme _ x m ∷ ts) s before l r k none = refl

pub colon_stop : {X : Type 0} (tokens rest : List Lexeme) (e : Stop) (s : Span) (before : TypeFields) (l : List ℕ) (r : Span) (k : InType) (f : X → List Lexeme → Outcome) → tokens ≡ lexeme kind.Name l r ∷ rest → Expects kind.Colon rest (Err e) → Reads (Err e) (run tokens (next_type_field s before k)) f
colon_stop tokens rest (At left) s before l r k f are h = ap (λ ts. run ts (next_type_field s before k)) are ∙ no_colon rest s before l r k h.1 ∙ ap fault (sym h.0)
colon_stop tokens rest Memory s before l r k f are h = tt

no_field_label : (tokens : List Lexeme) (s : Span) (before : FieldTrees) (k : InPath) → NoFront kind.Name tokens → run tokens (next_field s before k) ≡ fault tokens
no_field_label [] s before k none = refl
no_field_label (lexeme kind.Name x r ∷ ts) s before k none = absurd (none x r ts refl)
no_field_label (lexeme _ x r ∷ ts) s before k none = refl

pub field_label_stop : {X : Type 0} (tokens : List Lexeme) (e : Stop) (s : Span) (before : FieldTrees) (k : InPath) (f : X → List Lexeme → Outcome) → Names tokens (Err e) → Reads (Err e) (run tokens (next_field s before k)) f
field_label_stop tokens (At left) s before k f h = no_field_label tokens s before k h.1 ∙ ap fault (sym h.0)
field_label_stop tokens Memory s before k f h = tt

pub no_equals : (tokens : List Lexeme) (s : Span) (before : FieldTrees) (l : List ℕ) (r : Span) (k : InPath) → NoFront kind.Equals tokens → run tokens (after_label s before (word l r) k) ≡ fault tokens
no_equals [] s before l r k none = refl
no_equals (lexeme kind.Equals x m ∷ ts) s before l r k none = absurd (none x m ts refl)
no_equals (lexeme _ x m ∷ ts) s before l r k none = refl

-- the labels of a path

no_dot_label : (tokens : List Lexeme) (t : TermTree) (k : InPath) → NoFront kind.Name tokens → run tokens (need_label t k) ≡ fault tokens
no_dot_label [] t k none = refl
no_dot_label (lexeme kind.Name x r ∷ ts) t k none = absurd (none x r ts refl)
no_dot_label (lexeme _ x r ∷ ts) t k none = refl

-- behind a dot
pub dot_read : (tokens rest : List Lexeme) (m : Span) (t : TermTree) (k : InPath) → Front kind.Dot tokens m rest → look tokens (λ o. ended_asc o t k) ≡ run rest (need_label t k)
dot_read tokens rest m t k front = ap (λ l. look l (λ o. ended_asc o t k)) front.1

pub dot_label_stop : {X : Type 0} (tokens rest : List Lexeme) (m : Span) (e : Stop) (t : TermTree) (k : InPath) (o : Outcome) (f : X → List Lexeme → Outcome) → o ≡ look tokens (λ a. ended_asc a t k) → Front kind.Dot tokens m rest → Names rest (Err e) → Reads (Err e) o f
dot_label_stop tokens rest m (At left) t k o f so_far front h = so_far ∙ dot_read tokens rest m t k front ∙ no_dot_label rest t k h.1 ∙ ap fault (sym h.0)
dot_label_stop tokens rest m Memory t k o f so_far front h = tt

-- the same for an outcome equal to this one
pub reads_same : {X : Type 0} (r : Result (X × Bor (List Lexeme)) Stop) (o p : Outcome) (f : X → List Lexeme → Outcome) → p ≡ o → Reads r o f → Reads r p f
reads_same (Ok r) o p f same h = same ∙ h
reads_same (Err e) o p f same h = reads_stop e o p f f same h

-- where an expected token is missing, the run stops
pub expect_stop : {X : Type 0} (tokens : List Lexeme) (k : Kind) (e : Stop) (o : Outcome) (f : X → List Lexeme → Outcome) (g : List Lexeme → Outcome) → o ≡ g tokens → (NoFront k tokens → g tokens ≡ fault tokens) → Expects k tokens (Err e) → Reads (Err e) o f
expect_stop tokens k (At left) o f g same stops h = same ∙ stops h.1 ∙ ap fault (sym h.0)
expect_stop tokens k Memory o f g same stops h = tt

-- a term after a token, which is there or is missing

pub behind_front : (tokens after : List Lexeme) (k : Kind) (s : Span) (r : Result (Tm × Bor (List Lexeme)) Stop) → Front k tokens s after → ((j : InTerm) → Reads r (run after (need_term j)) (behind_term j)) → ReadsBehind k tokens r
behind_front tokens after k s (Ok r) front read = (s, after, front, read)
behind_front tokens after k s (Err (At left)) front read = inr (s, after, front, read)
behind_front tokens after k s (Err Memory) front read = tt

pub behind_none : (tokens : List Lexeme) (k : Kind) (e : Stop) → Expects k tokens (Err e) → ReadsBehind k tokens (Err e)
behind_none tokens k (At left) h = inl h
behind_none tokens k Memory h = tt

-- where the run from `g` wants such a token and then a term in the place `j`, it stops if reading them stops, and otherwise goes on after them

pub behind_stop : {X : Type 0} (tokens : List Lexeme) (k : Kind) (e : Stop) (j : InTerm) (o : Outcome) (f : X → List Lexeme → Outcome) (g : List Lexeme → Outcome) → o ≡ g tokens → (NoFront k tokens → g tokens ≡ fault tokens) → ((x : List ℕ) (s : Span) (after : List Lexeme) → g (lexeme k x s ∷ after) ≡ run after (need_term j)) → ReadsBehind k tokens (Err e) → Reads (Err e) o f
behind_stop tokens k (At left) j o f g same stops there (inl h) = same ∙ stops h.1 ∙ ap fault (sym h.0)
behind_stop tokens k (At left) j o f g same stops there (inr h) = same ∙ ap g h.2.1 ∙ there h.2.0 h.0 h.1 ∙ h.3 j
behind_stop tokens k Memory j o f g same stops there h = tt

pub behind_read : (tokens : List Lexeme) (k : Kind) (r : Tm × Bor (List Lexeme)) (j : InTerm) (g : List Lexeme → Outcome) → ((x : List ℕ) (s : Span) (after : List Lexeme) → g (lexeme k x s ∷ after) ≡ run after (need_term j)) → ReadsBehind k tokens (Ok r) → g tokens ≡ behind_term j r.0 r.1.now
behind_read tokens k r j g there h = ap g h.2.1 ∙ there h.2.0 h.0 h.1 ∙ h.3 j

pub no_then : (tokens : List Lexeme) (c : TermTree) (s : Span) (k : InTerm) → NoFront kind.Then tokens → look tokens (λ o. ended_term o c (in_condition s k)) ≡ fault tokens
no_then [] c s k none = refl
no_then (lexeme kind.Then x m ∷ ts) c s k none = absurd (none x m ts refl)
no_then (lexeme _ x m ∷ ts) c s k none = refl

pub no_lambda_colon : (tokens : List Lexeme) (s : Span) (b : Bound) (k : InTerm) → NoFront kind.Colon tokens → run tokens (after_binder for_lambda s b k) ≡ fault tokens
no_lambda_colon [] s b k none = refl
no_lambda_colon (lexeme kind.Colon x m ∷ ts) s b k none = absurd (none x m ts refl)
no_lambda_colon (lexeme _ x m ∷ ts) s b k none = refl

pub no_let_equals : (tokens : List Lexeme) (s : Span) (b : Bound) (k : InTerm) → NoFront kind.Equals tokens → run tokens (after_binder for_let s b k) ≡ fault tokens
no_let_equals [] s b k none = refl
no_let_equals (lexeme kind.Equals x m ∷ ts) s b k none = absurd (none x m ts refl)
no_let_equals (lexeme _ x m ∷ ts) s b k none = refl

pub no_letrec_colon : (tokens : List Lexeme) (s : Span) (b : Bound) (k : InTerm) → NoFront kind.Colon tokens → run tokens (after_binder for_letrec s b k) ≡ fault tokens
no_letrec_colon [] s b k none = refl
no_letrec_colon (lexeme kind.Colon x m ∷ ts) s b k none = absurd (none x m ts refl)
no_letrec_colon (lexeme _ x m ∷ ts) s b k none = refl

pub no_lambda_dot : (tokens : List Lexeme) (t : TypeTree) (s : Span) (b : Bound) (k : InTerm) → NoFront kind.Dot tokens → look tokens (λ o. ended_type o t (of_lambda s b k)) ≡ fault tokens
no_lambda_dot [] t s b k none = refl
no_lambda_dot (lexeme kind.Dot x m ∷ ts) t s b k none = absurd (none x m ts refl)
no_lambda_dot (lexeme _ x m ∷ ts) t s b k none = refl

pub no_letrec_equals : (tokens : List Lexeme) (t : TypeTree) (s : Span) (b : Bound) (k : InTerm) → NoFront kind.Equals tokens → look tokens (λ o. ended_type o t (of_letrec s b k)) ≡ fault tokens
no_letrec_equals [] t s b k none = refl
no_letrec_equals (lexeme kind.Equals x m ∷ ts) t s b k none = absurd (none x m ts refl)
no_letrec_equals (lexeme _ x m ∷ ts) t s b k none = refl

pub no_else : (tokens : List Lexeme) (t c : TermTree) (s : Span) (k : InTerm) → NoFront kind.Else tokens → look tokens (λ o. ended_term o t (in_then s c k)) ≡ fault tokens
no_else [] t c s k none = refl
no_else (lexeme kind.Else x m ∷ ts) t c s k none = absurd (none x m ts refl)
no_else (lexeme _ x m ∷ ts) t c s k none = refl

pub no_let_in : (tokens : List Lexeme) (t : TermTree) (s : Span) (b : Bound) (k : InTerm) → NoFront kind.In tokens → look tokens (λ o. ended_term o t (in_let s b k)) ≡ fault tokens
no_let_in [] t s b k none = refl
no_let_in (lexeme kind.In x m ∷ ts) t s b k none = absurd (none x m ts refl)
no_let_in (lexeme _ x m ∷ ts) t s b k none = refl

pub no_letrec_in : (tokens : List Lexeme) (t : TermTree) (s : Span) (b : Bound) (y : TypeTree) (k : InTerm) → NoFront kind.In tokens → look tokens (λ o. ended_term o t (in_letrec s b y k)) ≡ fault tokens
no_letrec_in [] t s b y k none = refl
no_letrec_in (lexeme kind.In x m ∷ ts) t s b y k none = absurd (none x m ts refl)
no_letrec_in (lexeme _ x m ∷ ts) t s b y k none = refl

-- a path behind its prefix, or behind none
pub placed_app : (tokens : List Lexeme) (q : Option (Prefix × Span)) (t u : TermTree) (k : InTerm) → u ≡ prefixed_by q t → look tokens (λ o. ended_app o (applied t (placed q k)) (outside (placed q k))) ≡ look tokens (λ o. ended_app o u k)
placed_app tokens None t u k same = ap (λ v. look tokens (λ o. ended_app o v k)) (sym same)
placed_app tokens (Some q) t u k same = ap (λ v. look tokens (λ o. ended_app o v k)) (sym same)

-- commands

pub reads_all_same : (r : Result Command Stop) (o p : Outcome) → p ≡ o → ReadsAll r o → ReadsAll r p
reads_all_same (Ok c) o p same h = same ∙ h
reads_all_same (Err (At left)) o p same h = same ∙ h
reads_all_same (Err Memory) o p same h = tt

no_type_name_mark : (tokens : List Lexeme) (x : List ℕ) (s : Span) → NoFront kind.Equals tokens → run tokens (after_type_name (word x s)) ≡ fault tokens
no_type_name_mark [] x s none = refl
no_type_name_mark (lexeme kind.Equals y r ∷ ts) x s none = absurd (none y r ts refl)
no_type_name_mark (lexeme _ y r ∷ ts) x s none = refl

pub abbreviation_stop : (tokens : List Lexeme) (e : Stop) (w : Word) → Expects kind.Equals tokens (Err e) → ReadsAll (Err e) (run tokens (after_type_name w))
abbreviation_stop tokens (At left) (word x s) h = no_type_name_mark tokens x s h.1 ∙ ap fault (sym h.0)
abbreviation_stop tokens Memory w h = tt
