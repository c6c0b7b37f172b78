-- The faults of a text stand in it.
use Rattle.std.proofs.Common.{◌≡◌, ℕ, zero, suc, List, [], ◌∷◌, ◌++◌, map, Option, Some, sym, subst, arith}
use Rattle.std.specs.Prelude.{slice_get}
use Rattle.std.specs.List.{All, AllByRecursion, filter_map, cons_option}
use Rattle.std.specs.Option.{option_to_list}
use Rattle.std.specs.Str.{IsUtf8}
use Rattle.std.proofs.lemmas.List.{length-map, get_or-map}
use Rattle.std.proofs.lemmas.List.Elements.{All-append, All-from_recursion}
use Rattle.std.proofs.lemmas.List.Sorted.{All-permutation}
use Rattle.lam_rules.specs.declared.rules.Dialect.{Dialect}
use Rattle.lam_token.specs.declared.kind.Kind.TheVariants as kind
use Rattle.lam_token.specs.declared.span.Span.{Span}
use Rattle.lam_token.specs.Cut.{AreTokensOf, StandsIn}
use Rattle.lam_token.specs.Lexeme.{Lexeme, lexeme, span_of}
use Rattle.lam_token.proofs.Cuts as token
use Rattle.lam_syntax.specs.Trees.{CommandTree}
use Rattle.lam_syntax.specs.Answers.{pieces_of}
use Rattle.lam_scope.specs.declared.type_fault.TypeFault.{TypeFault}
use Rattle.lam_scope.specs.declared.type_fault.TypeFault.TheVariants.{UnboundTypeName, RepeatedLabel}
use Rattle.lam_scope.specs.Nameless.{faults}
use Rattle.lam_scope.specs.Tables.{no_span}
use Rattle.lam_typing.specs.Blaming.{Blamed}
use Rattle.lam_scope.proofs.EveryElement.{every_append}
use Rattle.lam_query.specs.declared.answers.Fault.{Fault as RustFault}
use Rattle.lam_query.specs.Commands.{AreCommandsOf}
use Rattle.lam_query.specs.Faults.{Fault}
use Rattle.lam_query.specs.Sizes.{IsSizeFault, of_written_type, of_term}
use Rattle.lam_query.specs.SyntaxFaults.{fault_of_token, PieceFault, too_long, spoiled, a_command, goes_wrong, ends_early, PieceFaults, AreSyntaxFaults}
use Rattle.lam_query.specs.TextFaults.{written_fault, blame_fault, AreTypeFaults, too_large, small, AreFaults}
use Rattle.lam_query.specs.Views.{fault_of}
use Rattle.lam_query.specs.Within.{IsSpanOfText}
use Rattle.lam_query.proofs.Answering.{starts_stand}
use Rattle.lam_query.proofs.RowsAndTerms.{span_told}
use Rattle.lam_query.proofs.TreePlaces.{InCommands}
use Rattle.lam_query.proofs.Spans.{AtPlace, InTokens, Spreads}
use Rattle.lam_query.proofs.TokensOfPieces.{InPieces, pieces_in}
use Rattle.lam_query.proofs.TextPlaces.{tokens_stand, stands_spread, commands_stand}
use Rattle.lam_query.proofs.Within.{InFaults, in_faults, in_place, in_too_large}

abbrev InFault : (Span → Type 0) → Fault → Type 0
InFault Q f = Q f.span

abbrev InFaultList : (Span → Type 0) → List Fault → Type 0
InFaultList Q = AllByRecursion (InFault Q)

token_in : (Q : Span → Type 0) (ts : List Lexeme) (k : ℕ) (t : Lexeme) → InTokens Q ts → slice_get ts k ≡ Some t → Q (span_of t)
token_in Q [] k t h is = absurd cc
token_in Q (u ∷ ts) zero t h is = let same : u ≡ t = cc in subst (λ x. Q (span_of x)) same h.0
token_in Q (u ∷ ts) (suc k) t h is = token_in Q ts k t h.1 is

in_piece : (Q : Span → Type 0) → Spreads Q → (ts : List Lexeme) (one : Option Fault) → InTokens Q ts → PieceFault ts one → InFaultList Q (option_to_list one)
in_piece Q w ts _ h (too_long {first = first} {last = last} over at_first at_last) =
    (w (span_of first) (span_of last) (token_in Q ts _ first h at_first) (token_in Q ts _ last h at_last), tt)
in_piece Q w ts _ h (spoiled few bad) = tt
in_piece Q w ts _ h (a_command taken spells) = tt
in_piece Q w ts _ h (goes_wrong taken wrong at) = (token_in Q ts _ _ h at, tt)
in_piece Q w ts _ h (ends_early taken early at) = (token_in Q ts _ _ h at, tt)

in_all_pieces : (Q : Span → Type 0) → Spreads Q → (ps : List (List Lexeme)) (fs : List Fault) → InPieces (AtPlace Q) ps → PieceFaults ps fs → InFaultList Q fs
in_all_pieces Q w [] fs h are = subst (InFaultList Q) (sym are) tt
in_all_pieces Q w (p ∷ ps) fs h are =
    subst (InFaultList Q) (sym are.4) (every_append (InFault Q) (option_to_list are.0) are.1 (in_piece Q w p are.0 h.0 are.2) (in_all_pieces Q w ps are.1 h.1 are.3))

of_token : (Q : Span → Type 0) (t : Lexeme) (fs : List Fault) → Q (span_of t) → InFaultList Q fs → InFaultList Q (cons_option (fault_of_token t) fs)
of_token Q (lexeme kind.BadCharacter x s) fs q h = (q, h)
of_token Q (lexeme kind.BadComment x s) fs q h = (q, h)
of_token Q t fs q h = h

of_tokens : (Q : Span → Type 0) (ts : List Lexeme) → InTokens Q ts → InFaultList Q (filter_map fault_of_token ts)
of_tokens Q [] h = tt
of_tokens Q (t ∷ ts) h = of_token Q t (filter_map fault_of_token ts) h.0 (of_tokens Q ts h.1)

in_syntax : (Q : Span → Type 0) → Spreads Q → (ts : List Lexeme) (fs : List Fault) → InTokens Q ts → AreSyntaxFaults ts fs → InFaultList Q fs
in_syntax Q w ts fs h are =
    subst (InFaultList Q) (sym are.all)
    (every_append (InFault Q) (filter_map fault_of_token ts) are.of_pieces (of_tokens Q ts h) (in_all_pieces Q w (pieces_of ts) are.of_pieces (pieces_in (AtPlace Q) ts h) are.pieces))

size_in : (Q : Span → Type 0) (cs : List CommandTree) (s : Span) (d : Dialect) → Q no_span → InCommands Q cs → IsSizeFault cs s d → Q s
size_in Q cs s d past h (of_written_type is) = in_too_large Q cs s is h
size_in Q cs s d past h (of_term n none large) = subst Q (span_told cs n) (in_place Q cs past h n)

of_written : (Q : Span → Type 0) (ws : List TypeFault) → InFaults Q ws → InFaultList Q (map written_fault ws)
of_written Q [] h = tt
of_written Q (UnboundTypeName s ∷ ws) h = (h.0, of_written Q ws h.1)
of_written Q (RepeatedLabel s ∷ ws) h = (h.0, of_written Q ws h.1)

of_blames : (Q : Span → Type 0) (cs : List CommandTree) (bs : List Blamed) → Q no_span → InCommands Q cs → InFaultList Q (map (blame_fault cs) bs)
of_blames Q cs [] past h = tt
of_blames Q cs (b ∷ bs) past h = (subst Q (span_told cs b.number) (in_place Q cs past h b.number), of_blames Q cs bs past h)

in_types : (Q : Span → Type 0) (cs : List CommandTree) (fs : List Fault) (d : Dialect) → Q no_span → InCommands Q cs → AreTypeFaults cs fs d → InFaultList Q fs
in_types Q cs _ d past h (too_large {s = s} size) = (size_in Q cs s d past h size, tt)
in_types Q cs _ d past h (small blames none are) =
    every_append (InFault Q) (map written_fault (faults [] cs)) (map (blame_fault cs) blames) (of_written Q (faults [] cs) (in_faults Q [] cs h)) (of_blames Q cs blames past h)

unviewed : (Q : Span → Type 0) (fs : List RustFault) → All (λ f. Q f.span) (map fault_of fs) → All (λ f. Q f.span) fs
unviewed Q fs h = λ k default lt.
    let count = length-map fs fault_of in
    let one = h k (fault_of default) (omega arith) in
    rw (get_or-map fault_of fs k default (fault_of default) lt) at one

-- ---- by the tokens of a text

module _ (text : List ℕ) (tokens : List Lexeme) (is_text : IsUtf8 text) (are_tokens : AreTokensOf text tokens) where
  stand : All (StandsIn text) tokens
  stand = token.tokens_stand text tokens is_text are_tokens

  pub syntax_stands : (fs : List Fault) → AreSyntaxFaults tokens fs → All (λ f. IsSpanOfText text f.span) fs
  syntax_stands fs are =
      All-from_recursion (λ f. IsSpanOfText text f.span) fs
      (in_syntax (IsSpanOfText text) (stands_spread text) tokens fs (tokens_stand text tokens stand) are)

  module _ (commands : List CommandTree) (are_commands : AreCommandsOf (pieces_of tokens) commands) (d : Dialect) where
    pub types_stand : (fs : List Fault) → AreTypeFaults commands fs d → All (λ f. IsSpanOfText text f.span) fs
    types_stand fs are =
        All-from_recursion (λ f. IsSpanOfText text f.span) fs
        (in_types (IsSpanOfText text) commands fs d (starts_stand text is_text) (commands_stand text tokens commands stand are_commands) are)

    pub size_stands : (s : Span) → IsSizeFault commands s d → IsSpanOfText text s
    size_stands s size = size_in (IsSpanOfText text) commands s d (starts_stand text is_text) (commands_stand text tokens commands stand are_commands) size

pub faults_stand : (text : List ℕ) (ordered : List RustFault) (d : Dialect) → IsUtf8 text → AreFaults text (map fault_of ordered) d
    → All (λ f. IsSpanOfText text f.span) ordered
faults_stand text ordered d is_text are =
    unviewed (IsSpanOfText text) ordered
    (All-permutation (λ f. IsSpanOfText text f.span) (are.of_syntax ++ are.of_types) (map fault_of ordered) are.in_order.same
    (All-append (λ f. IsSpanOfText text f.span) are.of_syntax are.of_types
    (syntax_stands text are.tokens is_text are.are_tokens are.of_syntax are.are_of_syntax)
    (types_stand text are.tokens is_text are.are_tokens are.commands are.are_commands d are.of_types are.are_of_types)))
