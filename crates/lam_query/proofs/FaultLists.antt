-- The faults of pieces and of tokens, one after another.
use Rattle.std.proofs.Common.{◌≡◌, ℕ, zero, suc, ◌-◌, ◌<◌, List, [], ◌∷◌, ◌++◌, Option, Some, None, length, map, get_or, sym, refl, ap, ◌∙◌, subst, append_assoc, arith, codes}
use Rattle.std.proofs.lemmas.List.{append-nil}
use Rattle.std.proofs.lemmas.List.Elements.{filter_map-append}
use Rattle.std.specs.Prelude.{slice_get}
use Rattle.std.specs.List.{filter_map, cons_option}
use Rattle.std.specs.Option.{option_to_list}
use Rattle.lam_token.specs.declared.span.Span.{Span}
use Rattle.lam_token.specs.Lexeme.{Lexeme, span_of}
use Rattle.lam_syntax.specs.Trees.{from_to}
use Rattle.lam_syntax.specs.Answers.{token_limit, IsLexed, GoesWrongAt, EndsEarly}
use Rattle.lam_syntax.specs.inner.Reads.{with_piece}
use Rattle.lam_query.specs.declared.answers.Fault.{Fault as RustFault}
use Rattle.lam_query.specs.Faults.{Fault}
use Rattle.lam_query.specs.SyntaxFaults.{fault_at, fault_of_token, PieceFault, too_long, goes_wrong, ends_early, PieceFaults}
use Rattle.lam_query.specs.Views.{fault_of}

-- one piece

pub token_at : (ts : List Lexeme) (k : ℕ) (t : Lexeme) → k < length ts → t ≡ get_or ts k t → slice_get ts k ≡ Some t
token_at [] k t inside is = let no_way : ⊥ = omega arith in absurd no_way
token_at (u ∷ ts) zero t inside is = ap Some (sym is)
token_at (u ∷ ts) (suc k) t inside is = token_at ts k t (omega arith) is

pub long_fault : (ts : List Lexeme) (first last : Lexeme) (s r : Span) → token_limit < length ts → first ≡ get_or ts 0 first → last ≡ get_or ts (length ts - 1) last
    → s ≡ span_of first → r ≡ span_of last → PieceFault ts (Some (fault_at (codes "L2") (from_to s r)))
long_fault ts first last s r over at_first at_last is_s is_r =
    rw (is_s, is_r) (too_long over (token_at ts 0 first (omega arith) at_first) (token_at ts (length ts - 1) last (omega arith) at_last))

pub wrong_fault : (ts : List Lexeme) (k : ℕ) (t : Lexeme) (s : Span) → IsLexed ts → GoesWrongAt ts k → t ≡ get_or ts k t → s ≡ span_of t → PieceFault ts (Some (fault_at (codes "P1") s))
wrong_fault ts k t s taken wrong at is_s = rw is_s (goes_wrong taken wrong (token_at ts k t wrong.inside at))

pub early_fault : (ts : List Lexeme) (last : Lexeme) (s : Span) → 0 < length ts → IsLexed ts → EndsEarly ts → last ≡ get_or ts (length ts - 1) last → s ≡ span_of last
    → PieceFault ts (Some (fault_at (codes "P2") s))
early_fault ts last s some taken early at is_s = rw is_s (ends_early taken early (token_at ts (length ts - 1) last (omega arith) at))

-- piece after piece

pub own_fault : (piece : List Lexeme) (one : Option Fault) → (length piece ≡ 0 → ⊥) → PieceFault piece one → PieceFaults (with_piece piece []) (option_to_list one)
own_fault [] one some is = absurd (some refl)
own_fault (t ∷ ts) one some is = (one, [], is, refl, sym (append-nil (option_to_list one)))

pub faults_joined : (ps qs : List (List Lexeme)) (before after : List Fault) → PieceFaults ps before → PieceFaults qs after → PieceFaults (ps ++ qs) (before ++ after)
faults_joined [] qs before after are rest = subst (λ fs. PieceFaults qs (fs ++ after)) (sym are) rest
faults_joined (p ∷ ps) qs before after are rest =
    let is = ap (λ fs. fs ++ after) are.4 ∙ append_assoc (option_to_list are.0) are.1 after in
    (are.0, are.1 ++ after, are.2, faults_joined ps qs are.1 after are.3 rest, is)

-- token after token

consed : (o : Option Fault) (fs : List Fault) → cons_option o fs ≡ option_to_list o ++ fs
consed None fs = refl
consed (Some f) fs = refl

pub token_noted : (found now : List RustFault) (ts : List Lexeme) (t : Lexeme) → map fault_of now ≡ map fault_of found ++ option_to_list (fault_of_token t)
    → map fault_of found ≡ filter_map fault_of_token ts → map fault_of now ≡ filter_map fault_of_token (ts ++ t ∷ [])
token_noted found now ts t more so_far =
    let one = consed (fault_of_token t) [] ∙ append-nil (option_to_list (fault_of_token t)) in
    more
    ∙ ap (λ fs. fs ++ option_to_list (fault_of_token t)) so_far
    ∙ ap (λ fs. filter_map fault_of_token ts ++ fs) (sym one)
    ∙ sym (filter_map-append fault_of_token ts (t ∷ []))
