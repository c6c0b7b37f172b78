-- Every fault of a text has one of the known codes.
use Rattle.std.proofs.Common.{◌≡◌, refl, true, ℕ, ◌+◌, List, [], ◌∷◌, ◌++◌, map, Option, Some, None, sym, subst, inl, inr}
use Rattle.std.specs.Prelude.{All}
use Rattle.std.specs.List.{filter_map, cons_option, AllByRecursion}
use Rattle.std.specs.Option.{option_to_list}
use Rattle.std.proofs.lemmas.List.Elements.{All-from_recursion}
use Rattle.std.proofs.lemmas.List.Sorted.{All-permutation}
use Rattle.lam_rules.specs.Types.{Typ, bool, nat, unit, top, arrow, record_of}
use Rattle.lam_rules.specs.Terms.{Term, true_term, false_term, if_then_else, numeral, succ, pred, is_zero, variable, free, lambda, apply, unit_term, ascribe, let_in, record_term, project, fix}
use Rattle.lam_rules.specs.Texts.{Text}
use Rattle.lam_rules.specs.declared.rules.Dialect.{Dialect}
use Rattle.lam_token.specs.declared.kind.Kind.TheVariants as kind
use Rattle.lam_token.specs.Lexeme.{Lexeme, lexeme}
use Rattle.lam_syntax.specs.Trees.{CommandTree}
use Rattle.lam_syntax.specs.Answers.{pieces_of}
use Rattle.lam_scope.specs.Nameless.{faults}
use Rattle.lam_scope.specs.Places.{Scope, Place}
use Rattle.lam_scope.specs.declared.type_fault.TypeFault.{TypeFault}
use Rattle.lam_scope.specs.declared.type_fault.TypeFault.TheVariants.{UnboundTypeName, RepeatedLabel}
use Rattle.lam_typing.specs.Blaming.{Blamed, IsBlamedFor, application_code, AreBlamed}
use Rattle.lam_scope.proofs.EveryElement.{every_append}
use Rattle.lam_query.specs.Faults.{Fault, fault_codes, is_among, HasKnownCode}
use Rattle.lam_query.specs.Sizes.{places_in}
use Rattle.lam_query.specs.SyntaxFaults.{fault_of_token, PieceFault, too_long, spoiled, a_command, goes_wrong, ends_early, PieceFaults}
use Rattle.lam_query.specs.TextFaults.{written_fault, blame_fault, AreTypeFaults, too_large, small, AreFaults}

abbrev Have : List Fault → Type 0
Have = AllByRecursion HasKnownCode

-- ---- tokens and pieces

token_has : (t : Lexeme) → Have (option_to_list (fault_of_token t))
token_has (lexeme kind.BadCharacter x s) = (refl, tt)
token_has (lexeme kind.BadComment x s) = (refl, tt)
token_has t = tt

consed : (o : Option Fault) (fs : List Fault) → Have (option_to_list o) → Have fs → Have (cons_option o fs)
consed None fs one all = all
consed (Some f) fs one all = (one.0, all)

tokens_have : (ts : List Lexeme) → Have (filter_map fault_of_token ts)
tokens_have [] = tt
tokens_have (t ∷ ts) = consed (fault_of_token t) (filter_map fault_of_token ts) (token_has t) (tokens_have ts)

piece_has : (ts : List Lexeme) (one : Option Fault) → PieceFault ts one → Have (option_to_list one)
piece_has ts _ (too_long over first last) = (refl, tt)
piece_has ts _ (spoiled few bad) = tt
piece_has ts _ (a_command taken spells) = tt
piece_has ts _ (goes_wrong taken wrong at) = (refl, tt)
piece_has ts _ (ends_early taken early at) = (refl, tt)

pieces_have : (ps : List (List Lexeme)) (fs : List Fault) → PieceFaults ps fs → Have fs
pieces_have [] fs are = subst Have (sym are) tt
pieces_have (p ∷ ps) fs are = subst Have (sym are.4) (every_append HasKnownCode (option_to_list are.0) are.1 (piece_has p are.0 are.2) (pieces_have ps are.1 are.3))

-- ---- types

written_have : (fs : List TypeFault) → Have (map written_fault fs)
written_have [] = tt
written_have (UnboundTypeName s ∷ fs) = (refl, written_have fs)
written_have (RepeatedLabel s ∷ fs) = (refl, written_have fs)

application_has : (t : Typ) → is_among (application_code t) fault_codes ≡ true
application_has (arrow p r) = refl
application_has bool = refl
application_has nat = refl
application_has unit = refl
application_has top = refl
application_has (record_of fs) = refl

same_code : (a b : Text) → a ≡ b → is_among b fault_codes ≡ true → is_among a fault_codes ≡ true
same_code a b e h = subst (λ (x : Text). is_among x fault_codes ≡ true) (sym e) h

blame_has : (d : Dialect) (s : Scope) (e : Term) (code : Text) → IsBlamedFor s e code d → is_among code fault_codes ≡ true
blame_has d s (free x) code h = same_code code _ h refl
blame_has d s (variable n) code h = same_code code _ h refl
blame_has d s (apply f a) code h = same_code code _ h.2 (application_has h.0)
blame_has d s (project t l) code h = same_code code _ h refl
blame_has d s (if_then_else c a b) code h = same_code code _ h refl
blame_has d s (succ t) code h = same_code code _ h refl
blame_has d s (pred t) code h = same_code code _ h refl
blame_has d s (is_zero t) code h = same_code code _ h refl
blame_has d s (ascribe t w) code h = same_code code _ h refl
blame_has d s (fix t) code h = same_code code _ h refl
blame_has d s (record_term es) code h = same_code code _ h refl
blame_has d s true_term code h = absurd h
blame_has d s false_term code h = absurd h
blame_has d s unit_term code h = absurd h
blame_has d s (numeral digits) code h = absurd h
blame_has d s (lambda w t) code h = absurd h
blame_has d s (let_in a b) code h = absurd h

blames_have : (d : Dialect) (commands : List CommandTree) (n : ℕ) (ps : List Place) (blames : List Blamed) → AreBlamed n ps blames d → Have (map (blame_fault commands) blames)
blames_have d commands n [] blames are = subst (λ (bs : List Blamed). Have (map (blame_fault commands) bs)) (sym are) tt
blames_have d commands n (p ∷ ps) blames (inl are) = blames_have d commands (n + 1) ps blames are.1
blames_have d commands n (p ∷ ps) blames (inr are) =
    subst (λ (bs : List Blamed). Have (map (blame_fault commands) bs)) (sym are.2) (blame_has d p.scope p.here are.0 are.4, blames_have d commands (n + 1) ps are.1 are.5)

types_have : (commands : List CommandTree) (fs : List Fault) (d : Dialect) → AreTypeFaults commands fs d → Have fs
types_have commands _ d (too_large fault) = (refl, tt)
types_have commands _ d (small blames is are) =
    every_append HasKnownCode (map written_fault (faults [] commands)) (map (blame_fault commands) blames) (written_have (faults [] commands)) (blames_have d commands 0 (places_in commands) blames are)

-- ---- all

pub known_codes : (text : List ℕ) (fs : List Fault) (d : Dialect) → AreFaults text fs d → All HasKnownCode fs
known_codes text fs d are =
    let of_syntax =
    subst Have (sym are.are_of_syntax.all)
    (every_append HasKnownCode (filter_map fault_of_token are.tokens) are.are_of_syntax.of_pieces (tokens_have are.tokens) (pieces_have (pieces_of are.tokens) are.are_of_syntax.of_pieces are.are_of_syntax.pieces)) in
    let all = every_append HasKnownCode are.of_syntax are.of_types of_syntax (types_have are.commands are.of_types d are.are_of_types) in
    All-permutation HasKnownCode (are.of_syntax ++ are.of_types) fs are.in_order.same (All-from_recursion HasKnownCode (are.of_syntax ++ are.of_types) all)
