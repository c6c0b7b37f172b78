-- A text has no fault of tokens or of the grammar just where each of its pieces is a command.
use Rattle.std.proofs.Common.{◌≡◌, ◌⊎◌, ℕ, List, [], ◌∷◌, ◌++◌, Bool, true, false, cond, Option, Some, None, inl, inr, refl, sym, ◌∙◌}
use Rattle.std.specs.List.{AllByRecursion, cons_option, filter_map}
use Rattle.std.specs.Prelude.{filter}
use Rattle.std.specs.Option.{option_to_list}
use Rattle.std.proofs.lemmas.Bool.{or_parts}
use Rattle.std.proofs.lemmas.List.Folds.{list_any_none}
use Rattle.std.proofs.lemmas.List.Elements.{All-from_recursion}
use Rattle.lam_token.specs.declared.kind.Kind.{Kind}
use Rattle.lam_token.specs.declared.kind.Kind.TheVariants as kind
use Rattle.lam_token.specs.declared.span.Span.{Span}
use Rattle.lam_token.specs.Lexeme.{Lexeme, lexeme, kind_of}
use Rattle.lam_syntax.specs.Trees.{CommandTree}
use Rattle.lam_syntax.specs.Answers.{is_bad, has_bad, ends_piece, is_semicolon, onto_first, runs_of, has_tokens, pieces_of}
use Rattle.lam_scope.proofs.Faultless.{none_left as none_before, none_right as none_behind}
use Rattle.lam_query.specs.Commands.{IsCommandOf, AreCommandsOf}
use Rattle.lam_query.specs.Faults.{Fault}
use Rattle.lam_query.specs.SyntaxFaults.{fault_of_token, PieceFault, spoiled, a_command, PieceFaults, AreSyntaxFaults}
use Rattle.lam_query.specs.Renames.{AreAllCommandsOf, IsSomeNone}
use Rattle.lam_query.proofs.PieceLaws.{one_piece_fault}
use Rattle.lam_query.proofs.TokensOfPieces.{InPieces, pieces_in}

-- pieces of which each is a command, and others

pub all_are_commands : (ps : List (List Lexeme)) (cs : List CommandTree) → AreAllCommandsOf ps cs → AreCommandsOf ps cs
all_are_commands [] cs are = are
all_are_commands (p ∷ ps) cs are = inl (are.0, are.1, are.2, are.3, all_are_commands ps are.1 are.4)

pub none_left : (ps : List (List Lexeme)) (cs : List CommandTree) → AreAllCommandsOf ps cs → IsSomeNone ps → ⊥
none_left [] cs are none = none
none_left (p ∷ ps) cs are (inl none) = none are.0 are.3
none_left (p ∷ ps) cs are (inr none) = none_left ps are.1 are.4 none

pub all_or_some : (ps : List (List Lexeme)) (cs : List CommandTree) → AreCommandsOf ps cs → AreAllCommandsOf ps cs ⊎ IsSomeNone ps
all_or_some [] cs are = inl are
all_or_some (p ∷ ps) cs (inr are) = inr (inl are.0)
all_or_some (p ∷ ps) cs (inl are) = by (all_or_some ps are.1 are.4)
  where
    by : AreAllCommandsOf ps are.1 ⊎ IsSomeNone ps → AreAllCommandsOf (p ∷ ps) cs ⊎ IsSomeNone (p ∷ ps)
    by (inl all) = inl (are.0, are.1, are.2, are.3, all)
    by (inr some) = inr (inr some)

-- tokens that are lexemes have no fault

abbrev IsGood : Lexeme → Type 0
IsGood t = is_bad (kind_of t) ≡ false

good_kind : (k : Kind) (x : List ℕ) (s : Span) → fault_of_token (lexeme k x s) ≡ None → is_bad k ≡ false
good_kind kind.BadCharacter x s none = absurd cc
good_kind kind.BadComment x s none = absurd cc
good_kind k x s none = refl

no_fault : (k : Kind) (x : List ℕ) (s : Span) → is_bad k ≡ false → fault_of_token (lexeme k x s) ≡ None
no_fault kind.BadCharacter x s good = absurd cc
no_fault kind.BadComment x s good = absurd cc
no_fault k x s good = refl

semicolon_good : (k : Kind) → ends_piece k ≡ true → is_bad k ≡ false
semicolon_good kind.Semicolon ends = refl
semicolon_good k ends = absurd cc

none_kept : (one : Option Fault) (fs : List Fault) → cons_option one fs ≡ [] → (one ≡ None) × (fs ≡ [])
none_kept None fs none = (refl, none)
none_kept (Some f) fs none = absurd cc

all_good : (ts : List Lexeme) → filter_map fault_of_token ts ≡ [] → AllByRecursion IsGood ts
all_good [] none = tt
all_good (lexeme k x s ∷ ts) none =
    let kept = none_kept (fault_of_token (lexeme k x s)) (filter_map fault_of_token ts) none in
    (good_kind k x s kept.0, all_good ts kept.1)

no_faults : (ts : List Lexeme) → AllByRecursion IsGood ts → filter_map fault_of_token ts ≡ []
no_faults [] good = refl
no_faults (lexeme k x s ∷ ts) good = λ i. cons_option (no_fault k x s good.0 i) (no_faults ts good.1 i)

good_if_none_bad : (ts : List Lexeme) → has_bad ts ≡ false → AllByRecursion IsGood ts
good_if_none_bad [] none = tt
good_if_none_bad (t ∷ ts) none = let both = or_parts (is_bad (kind_of t)) (has_bad ts) none in (both.0, good_if_none_bad ts both.1)

-- what holds of each semicolon and of each token of the pieces holds of all tokens

from_kept : (P : Lexeme → Type 0) (runs : List (List Lexeme)) → InPieces P (filter has_tokens runs) → InPieces P runs
from_kept P [] h = tt
from_kept P ([] ∷ runs) h = (tt, from_kept P runs h)
from_kept P ((t ∷ run) ∷ runs) h = (h.0, from_kept P runs h.1)

from_onto : (P : Lexeme → Type 0) (t : Lexeme) (runs : List (List Lexeme)) → InPieces P (onto_first t runs) → P t × InPieces P runs
from_onto P t [] h = (h.0.0, tt)
from_onto P t (run ∷ runs) h = (h.0.0, (h.0.1, h.1))

from_runs : (P : Lexeme → Type 0) (ts : List Lexeme) → ((t : Lexeme) → is_semicolon t ≡ true → P t) → InPieces P (runs_of ts) → AllByRecursion P ts
from_runs P [] ends h = tt
from_runs P (t ∷ ts) ends h = by (from_runs P ts ends) (is_semicolon t) refl h
  where
    by : (InPieces P (runs_of ts) → AllByRecursion P ts) → (b : Bool) → is_semicolon t ≡ b → InPieces P (cond b ([] ∷ runs_of ts) (onto_first t (runs_of ts))) → P t × AllByRecursion P ts
    by rest true is h = (ends t is, rest h.1)
    by rest false is h = let parts = from_onto P t (runs_of ts) h in (parts.0, rest parts.1)

from_pieces : (P : Lexeme → Type 0) (ts : List Lexeme) → ((t : Lexeme) → is_semicolon t ≡ true → P t) → InPieces P (pieces_of ts) → AllByRecursion P ts
from_pieces P ts ends h = from_runs P ts ends (from_kept P (runs_of ts) h)

-- no fault, so each piece is a command

nothing : (one : Option Fault) (others : List Fault) → option_to_list one ++ others ≡ [] → (one ≡ None) × (others ≡ [])
nothing None others none = (refl, none)
nothing (Some f) others none = absurd cc

piece_command : (p : List Lexeme) (one : Option Fault) → PieceFault p one → one ≡ None → has_bad p ≡ false → (c : CommandTree) × IsCommandOf p c
piece_command p _ (spoiled few bad) none good = absurd cc
piece_command p _ (a_command {c = c} taken spelled) none good = (c, record { taken = taken; spelled = spelled })
piece_command p _ fault none good = absurd cc

all_found : (ps : List (List Lexeme)) (cs : List CommandTree) (fs : List Fault) → AreCommandsOf ps cs → PieceFaults ps fs → fs ≡ [] → InPieces IsGood ps → AreAllCommandsOf ps cs
all_found [] cs fs are faults none good = are
all_found (p ∷ ps) cs fs (inl are) faults none good =
    let parts = nothing faults.0 faults.1 (sym faults.4 ∙ none) in
    (are.0, are.1, are.2, are.3, all_found ps are.1 faults.1 are.4 faults.3 parts.1 good.1)
all_found (p ∷ ps) cs fs (inr are) faults none good =
    let parts = nothing faults.0 faults.1 (sym faults.4 ∙ none) in
    let is = piece_command p faults.0 faults.2 parts.0 (list_any_none (λ t. is_bad (kind_of t)) p (All-from_recursion IsGood p good.0)) in
    absurd (are.0 is.0 is.1)

pub all_commands : (tokens : List Lexeme) (cs : List CommandTree) (faults : List Fault) → AreCommandsOf (pieces_of tokens) cs → AreSyntaxFaults tokens faults → faults ≡ []
    → AreAllCommandsOf (pieces_of tokens) cs
all_commands tokens cs faults are of none =
    let both = sym of.all ∙ none in
    let good = all_good tokens (none_before (filter_map fault_of_token tokens) of.of_pieces both) in
    all_found (pieces_of tokens) cs of.of_pieces are of.pieces (none_behind (filter_map fault_of_token tokens) of.of_pieces both) (pieces_in IsGood tokens good)

-- each piece is a command, so there is no fault

good_pieces : (ps : List (List Lexeme)) (cs : List CommandTree) → AreAllCommandsOf ps cs → InPieces IsGood ps
good_pieces [] cs are = tt
good_pieces (p ∷ ps) cs are = (good_if_none_bad p are.3.taken.none_bad, good_pieces ps are.1 are.4)

no_piece_faults : (ps : List (List Lexeme)) (cs : List CommandTree) (fs : List Fault) → AreAllCommandsOf ps cs → PieceFaults ps fs → fs ≡ []
no_piece_faults [] cs fs are faults = faults
no_piece_faults (p ∷ ps) cs fs are faults =
    faults.4
    ∙ (λ i. option_to_list (one_piece_fault p faults.0 None faults.2 (a_command are.3.taken are.3.spelled) i) ++ no_piece_faults ps are.1 faults.1 are.4 faults.3 i)

faultless : (tokens : List Lexeme) (cs : List CommandTree) (faults : List Fault) → AreAllCommandsOf (pieces_of tokens) cs → AreSyntaxFaults tokens faults → faults ≡ []
faultless tokens cs faults are of =
    let good = from_pieces IsGood tokens (λ t ends. semicolon_good (kind_of t) ends) (good_pieces (pieces_of tokens) cs are) in
    of.all ∙ (λ i. no_faults tokens good i ++ no_piece_faults (pieces_of tokens) cs of.of_pieces are of.pieces i)

pub some_none : (tokens : List Lexeme) (cs : List CommandTree) (faults : List Fault) → AreCommandsOf (pieces_of tokens) cs → AreSyntaxFaults tokens faults → (faults ≡ [] → ⊥)
    → IsSomeNone (pieces_of tokens)
some_none tokens cs faults are of some = by (all_or_some (pieces_of tokens) cs are)
  where
    by : AreAllCommandsOf (pieces_of tokens) cs ⊎ IsSomeNone (pieces_of tokens) → IsSomeNone (pieces_of tokens)
    by (inl all) = absurd (some (faultless tokens cs faults all of))
    by (inr none) = none
