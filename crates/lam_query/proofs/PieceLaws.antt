-- Each piece has one answer: a fault of its own or none; so pieces have one list of faults. And each is a command or none.
use Rattle.std.proofs.Common.{Bool, true, false, ◌≡◌, ◌⊎◌, ℕ, zero, suc, ◌-◌, ◌≤◌, ◌<◌, List, [], ◌∷◌, ◌++◌, Option, Some, None, length, inl, inr, sym, refl, ap, ◌∙◌, arith}
use Rattle.std.proofs.lemmas.Bool.{cases_lt}
use Rattle.std.specs.Prelude.{slice_get, codes}
use Rattle.std.specs.List.{AllByRecursion}
use Rattle.std.specs.Option.{option_to_list}
use Rattle.lam_token.specs.Lexeme.{Lexeme, span_of}
use Rattle.lam_syntax.specs.Trees.{CommandTree, from_to}
use Rattle.lam_syntax.specs.Grammar.{Spells}
use Rattle.lam_syntax.specs.Answers.{token_limit, has_bad, IsLexed, GoesWrongAt, EndsEarly, runs_of, pieces_of}
use Rattle.lam_syntax.proofs.AnswerLaws.{some_answer, spelled_begins, not_wrong, one_wrong_place}
use Rattle.lam_syntax.proofs.Runs.{none_empty}
use Rattle.lam_query.specs.Faults.{Fault}
use Rattle.lam_query.specs.Commands.{IsCommandOf, AreCommandsOf}
use Rattle.lam_query.specs.SyntaxFaults.{fault_at, PieceFault, too_long, spoiled, a_command, goes_wrong, ends_early, PieceFaults}

-- ---- some fault or none

some_at : (ts : List Lexeme) (k : ℕ) → k < length ts → (t : Lexeme) × slice_get ts k ≡ Some t
some_at [] k inside = absurd (omega arith)
some_at (t ∷ ts) zero inside = (t, refl)
some_at (t ∷ ts) (suc k) inside = some_at ts k (omega arith)

long_piece : (ts : List Lexeme) → token_limit < length ts → (one : Option Fault) × PieceFault ts one
long_piece ts many =
    let first = some_at ts 0 (omega arith) in
    let last = some_at ts (length ts - 1) (omega arith) in
    (Some (fault_at (codes "L2") (from_to (span_of first.0) (span_of last.0))), too_long many first.1 last.1)

wrong_piece : (ts : List Lexeme) (k : ℕ) → IsLexed ts → GoesWrongAt ts k → (one : Option Fault) × PieceFault ts one
wrong_piece ts k taken wrong =
    let t = some_at ts k wrong.inside in
    (Some (fault_at (codes "P1") (span_of t.0)), goes_wrong taken wrong t.1)

early_piece : (ts : List Lexeme) → 0 < length ts → IsLexed ts → EndsEarly ts → (one : Option Fault) × PieceFault ts one
early_piece ts some taken early =
    let last = some_at ts (length ts - 1) (omega arith) in
    (Some (fault_at (codes "P2") (span_of last.0)), ends_early taken early last.1)

taken_piece : (ts : List Lexeme) → 0 < length ts → IsLexed ts → ((c : CommandTree) × Spells ts c) ⊎ (((k : ℕ) × GoesWrongAt ts k) ⊎ EndsEarly ts) → (one : Option Fault) × PieceFault ts one
taken_piece ts some taken (inl spelled) = (None, a_command taken spelled.1)
taken_piece ts some taken (inr (inl wrong)) = wrong_piece ts wrong.0 taken wrong.1
taken_piece ts some taken (inr (inr early)) = early_piece ts some taken early

few_piece : (ts : List Lexeme) (b : Bool) → 0 < length ts → length ts ≤ token_limit → has_bad ts ≡ b → (one : Option Fault) × PieceFault ts one
few_piece ts true some few bad = (None, spoiled few bad)
few_piece ts false some few good = taken_piece ts some (record { few = few; none_bad = good }) (some_answer ts)

sized_piece : (ts : List Lexeme) → 0 < length ts → (token_limit < length ts) ⊎ (length ts ≤ token_limit) → (one : Option Fault) × PieceFault ts one
sized_piece ts some (inl many) = long_piece ts many
sized_piece ts some (inr few) = few_piece ts (has_bad ts) some few refl

pub some_piece_fault : (ts : List Lexeme) → 0 < length ts → (one : Option Fault) × PieceFault ts one
some_piece_fault ts some = sized_piece ts some (cases_lt token_limit (length ts))

-- ---- no two

both_sizes : (n : ℕ) → token_limit < n → n ≤ token_limit → ⊥
both_sizes n many few = omega arith

both_bad : (b : Bool) → b ≡ true → b ≡ false → ⊥
both_bad true bad good = absurd cc
both_bad false bad good = absurd cc

one_at : (ts : List Lexeme) (j k : ℕ) (t u : Lexeme) → j ≡ k → slice_get ts j ≡ Some t → slice_get ts k ≡ Some u → t ≡ u
one_at ts j k t u same at_j at_k = cc

abbrev long_at : Lexeme → Lexeme → Option Fault
long_at first last = Some (fault_at (codes "L2") (from_to (span_of first) (span_of last)))

one_long : (first first' last last' : Lexeme) → first ≡ first' → last ≡ last' → long_at first last ≡ long_at first' last'
one_long first first' last last' same_first same_last = ap (λ t. long_at t last) same_first ∙ ap (λ t. long_at first' t) same_last

pub one_piece_fault : (ts : List Lexeme) (a b : Option Fault) → PieceFault ts a → PieceFault ts b → a ≡ b
one_piece_fault ts _ _ (too_long over first last) (too_long over' first' last') =
    one_long _ _ _ _ (one_at ts 0 0 _ _ refl first first') (one_at ts (length ts - 1) (length ts - 1) _ _ refl last last')
one_piece_fault ts _ _ (too_long over first last) (spoiled few bad) = absurd (both_sizes (length ts) over few)
one_piece_fault ts _ _ (too_long over first last) (a_command taken spells) = absurd (both_sizes (length ts) over taken.few)
one_piece_fault ts _ _ (too_long over first last) (goes_wrong taken wrong at) = absurd (both_sizes (length ts) over taken.few)
one_piece_fault ts _ _ (too_long over first last) (ends_early taken early at) = absurd (both_sizes (length ts) over taken.few)
one_piece_fault ts _ _ (spoiled few bad) (too_long over first last) = absurd (both_sizes (length ts) over few)
one_piece_fault ts _ _ (spoiled few bad) (spoiled few' bad') = refl
one_piece_fault ts _ _ (spoiled few bad) (a_command taken spells) = refl
one_piece_fault ts _ _ (spoiled few bad) (goes_wrong taken wrong at) = absurd (both_bad (has_bad ts) bad taken.none_bad)
one_piece_fault ts _ _ (spoiled few bad) (ends_early taken early at) = absurd (both_bad (has_bad ts) bad taken.none_bad)
one_piece_fault ts _ _ (a_command taken spells) (too_long over first last) = absurd (both_sizes (length ts) over taken.few)
one_piece_fault ts _ _ (a_command taken spells) (spoiled few bad) = refl
one_piece_fault ts _ _ (a_command taken spells) (a_command taken' spells') = refl
one_piece_fault ts _ _ (a_command taken spells) (goes_wrong taken' wrong at) = absurd (not_wrong ts _ (spelled_begins ts _ spells) wrong)
one_piece_fault ts _ _ (a_command taken spells) (ends_early taken' early at) = absurd (early.none _ spells)
one_piece_fault ts _ _ (goes_wrong taken wrong at) (too_long over first last) = absurd (both_sizes (length ts) over taken.few)
one_piece_fault ts _ _ (goes_wrong taken wrong at) (spoiled few bad) = absurd (both_bad (has_bad ts) bad taken.none_bad)
one_piece_fault ts _ _ (goes_wrong taken wrong at) (a_command taken' spells) = absurd (not_wrong ts _ (spelled_begins ts _ spells) wrong)
one_piece_fault ts _ _ (goes_wrong taken wrong at) (goes_wrong taken' wrong' at') =
    ap (λ t. Some (fault_at (codes "P1") (span_of t))) (one_at ts _ _ _ _ (one_wrong_place ts _ _ wrong wrong') at at')
one_piece_fault ts _ _ (goes_wrong taken wrong at) (ends_early taken' early at') = absurd (not_wrong ts _ early.begins wrong)
one_piece_fault ts _ _ (ends_early taken early at) (too_long over first last) = absurd (both_sizes (length ts) over taken.few)
one_piece_fault ts _ _ (ends_early taken early at) (spoiled few bad) = absurd (both_bad (has_bad ts) bad taken.none_bad)
one_piece_fault ts _ _ (ends_early taken early at) (a_command taken' spells) = absurd (early.none _ spells)
one_piece_fault ts _ _ (ends_early taken early at) (goes_wrong taken' wrong at') = absurd (not_wrong ts _ early.begins wrong)
one_piece_fault ts _ _ (ends_early taken early at) (ends_early taken' early' at') =
    ap (λ t. Some (fault_at (codes "P2") (span_of t))) (one_at ts (length ts - 1) (length ts - 1) _ _ refl at at')

-- ---- piece after piece

pub some_piece_faults : (ps : List (List Lexeme)) → AllByRecursion (λ p. 0 < length p) ps → (fs : List Fault) × PieceFaults ps fs
some_piece_faults [] all = ([], refl)
some_piece_faults (p ∷ ps) all =
    let one = some_piece_fault p all.0 in
    let others = some_piece_faults ps all.1 in
    (option_to_list one.0 ++ others.0, (one.0, others.0, one.1, others.1, refl))

pub one_piece_faults : (ps : List (List Lexeme)) (fs gs : List Fault) → PieceFaults ps fs → PieceFaults ps gs → fs ≡ gs
one_piece_faults [] fs gs are are' = are ∙ sym are'
one_piece_faults (p ∷ ps) fs gs are are' =
    are.4
    ∙ ap (λ one. option_to_list one ++ are.1) (one_piece_fault p are.0 are'.0 are.2 are'.2)
    ∙ ap (λ others. option_to_list are'.0 ++ others) (one_piece_faults ps are.1 are'.1 are.3 are'.3)
    ∙ sym are'.4

-- ---- the pieces of tokens

pub some_faults_of_pieces : (tokens : List Lexeme) → (fs : List Fault) × PieceFaults (pieces_of tokens) fs
some_faults_of_pieces tokens = some_piece_faults (pieces_of tokens) (none_empty (runs_of tokens))

pub one_list_of_pieces : (tokens : List Lexeme) (fs gs : List Fault) → PieceFaults (pieces_of tokens) fs → PieceFaults (pieces_of tokens) gs → fs ≡ gs
one_list_of_pieces tokens fs gs are are' = one_piece_faults (pieces_of tokens) fs gs are are'

-- ---- the commands of pieces

taken_or_not : (ts : List Lexeme) (b : Bool) → has_bad ts ≡ b → (token_limit < length ts) ⊎ (length ts ≤ token_limit) → IsLexed ts ⊎ (IsLexed ts → ⊥)
taken_or_not ts true bad few = inr (λ taken. both_bad (has_bad ts) bad taken.none_bad)
taken_or_not ts false good (inl many) = inr (λ taken. both_sizes (length ts) many taken.few)
taken_or_not ts false good (inr few) = inl (record { few = few; none_bad = good })

spelled_or_not : (ts : List Lexeme) → IsLexed ts → ((c : CommandTree) × Spells ts c) ⊎ (((k : ℕ) × GoesWrongAt ts k) ⊎ EndsEarly ts) → ((c : CommandTree) × IsCommandOf ts c) ⊎ ((c : CommandTree) → IsCommandOf ts c → ⊥)
spelled_or_not ts taken (inl spelled) = inl (spelled.0, record { taken = taken; spelled = spelled.1 })
spelled_or_not ts taken (inr (inl wrong)) = inr (λ c is. not_wrong ts wrong.0 (spelled_begins ts c is.spelled) wrong.1)
spelled_or_not ts taken (inr (inr early)) = inr (λ c is. early.none c is.spelled)

command_or_not : (ts : List Lexeme) → IsLexed ts ⊎ (IsLexed ts → ⊥) → ((c : CommandTree) × IsCommandOf ts c) ⊎ ((c : CommandTree) → IsCommandOf ts c → ⊥)
command_or_not ts (inl taken) = spelled_or_not ts taken (some_answer ts)
command_or_not ts (inr untaken) = inr (λ c is. untaken is.taken)

pub command_or_none : (ts : List Lexeme) → ((c : CommandTree) × IsCommandOf ts c) ⊎ ((c : CommandTree) → IsCommandOf ts c → ⊥)
command_or_none ts = command_or_not ts (taken_or_not ts (has_bad ts) refl (cases_lt token_limit (length ts)))

commands_more : (p : List Lexeme) (ps : List (List Lexeme)) (cs : List CommandTree) → ((c : CommandTree) × IsCommandOf p c) ⊎ ((c : CommandTree) → IsCommandOf p c → ⊥) → AreCommandsOf ps cs
    → (all : List CommandTree) × AreCommandsOf (p ∷ ps) all
commands_more p ps cs (inl is) rest = (is.0 ∷ cs, inl (is.0, cs, refl, is.1, rest))
commands_more p ps cs (inr none) rest = (cs, inr (none, rest))

pub some_commands : (ps : List (List Lexeme)) → (cs : List CommandTree) × AreCommandsOf ps cs
some_commands [] = ([], refl)
some_commands (p ∷ ps) =
    let rest = some_commands ps in
    commands_more p ps rest.0 (command_or_none p) rest.1
