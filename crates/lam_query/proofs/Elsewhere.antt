-- Tokens that all end in front of a byte, or all begin behind it, spell commands without a place there.
use Rattle.std.proofs.Common.{◌≡◌, ℕ, ◌+◌, ◌<◌, ◌≤◌, Bool, true, false, cond, ltb, List, [], ◌∷◌, Some, None, arith, refl, ap, ◌∙◌}
use Rattle.std.specs.List.{position_from}
use Rattle.std.proofs.lemmas.Bool.{le-ltb, lt-ltb}
use Rattle.std.proofs.lemmas.Iterator.Adapters.{position_from-zero}
use Rattle.lam_token.specs.declared.span.Span.{Span}
use Rattle.lam_token.specs.Lexeme.{Lexeme, lexeme}
use Rattle.lam_token.specs.Divided.{SemicolonEndsAt}
use Rattle.lam_syntax.specs.Trees.{CommandTree}
use Rattle.lam_syntax.specs.Answers.{pieces_of}
use Rattle.lam_scope.specs.Nesting.{TokensStand}
use Rattle.lam_scope.specs.Tables.{TextPlace, table, is_over, place_at}
use Rattle.lam_query.specs.Commands.{AreCommandsOf}
use Rattle.lam_query.proofs.TokensOfPieces.{pieces_in}
use Rattle.lam_query.proofs.Spans.{AtPlace, InTokens, Spreads}
use Rattle.lam_query.proofs.TextPlaces.{in_commands}
use Rattle.lam_query.proofs.TreePlaces.{InCommands}
use Rattle.lam_query.proofs.Within.{InRows, in_commands_rows}

-- ---- rows without a byte

abbrev has : ℕ → Span → Bool
has o s = cond (ltb o s.start) false (ltb o s.end)

row_without : (o : ℕ) (p : TextPlace) → has o p.span ≡ false → is_over o p ≡ false
row_without o p none = by p.derived
  where
    by : (b : Bool) → cond b false (has o p.span) ≡ false
    by true = refl
    by false = none

module _ (Q : Span → Type 0) (o : ℕ) (none : (s : Span) → Q s → has o s ≡ false) where
  no_row : (n : ℕ) (ps : List TextPlace) → InRows Q ps → position_from (is_over o) n ps ≡ None
  no_row n [] in_rows = refl
  no_row n (p ∷ ps) in_rows =
      ap (λ b. cond b (Some n) (position_from (is_over o) (n + 1) ps)) (row_without o p (none p.span in_rows.0))
      ∙ no_row (n + 1) ps in_rows.1

  nowhere : (commands : List CommandTree) → InCommands Q commands → place_at (table commands) o ≡ None
  nowhere commands there =
      position_from-zero (is_over o) (table commands).places
      ∙ no_row 0 (table commands).places (in_commands_rows Q [] [] 0 0 0 commands there)

  -- where Q spreads, so that it holds of each place in the commands of tokens if it holds of these
  nowhere_in_tokens : Spreads Q → (tokens : List Lexeme) (commands : List CommandTree)
      → InTokens Q tokens → AreCommandsOf (pieces_of tokens) commands → place_at (table commands) o ≡ None
  nowhere_in_tokens spreads tokens commands there are =
      nowhere commands (in_commands Q spreads (pieces_of tokens) commands (pieces_in (AtPlace Q) tokens there) are)

-- ---- in front of a byte, and behind it

abbrev pub EndsBy : ℕ → Span → Type 0
EndsBy o s = s.end ≤ o

abbrev pub BeginsBehind : ℕ → Span → Type 0
BeginsBehind o s = o < s.start

ended_without : (o : ℕ) (s : Span) → EndsBy o s → has o s ≡ false
ended_without o s ends = by (ltb o s.start)
  where
    by : (b : Bool) → cond b false (ltb o s.end) ≡ false
    by true = refl
    by false = le-ltb o s.end ends

unbegun_without : (o : ℕ) (s : Span) → BeginsBehind o s → has o s ≡ false
unbegun_without o s begins = ap (λ b. cond b false (ltb o s.end)) (lt-ltb o s.start begins)

pub nowhere_behind : (o : ℕ) (tokens : List Lexeme) (commands : List CommandTree)
    → InTokens (EndsBy o) tokens → AreCommandsOf (pieces_of tokens) commands → place_at (table commands) o ≡ None
nowhere_behind o = nowhere_in_tokens (EndsBy o) o (ended_without o) (λ a b first second. second)

pub nowhere_in_front : (o : ℕ) (tokens : List Lexeme) (commands : List CommandTree)
    → InTokens (BeginsBehind o) tokens → AreCommandsOf (pieces_of tokens) commands → place_at (table commands) o ≡ None
nowhere_in_front o = nowhere_in_tokens (BeginsBehind o) o (unbegun_without o) (λ a b first second. first)

-- ---- tokens of a text

-- those that stand behind a byte
pub all_begin : (o low high : ℕ) (ts : List Lexeme) → o < low → TokensStand low ts high → InTokens (BeginsBehind o) ts
all_begin o low high [] before stand = tt
all_begin o low high (lexeme k x s ∷ ts) before stand =
    (omega (arith, before, stand.0), all_begin o s.end high ts (omega (arith, before, stand.0, stand.1)) stand.2)

-- the end of the last one is behind the byte from which on they stand
goes_on : (low high end : ℕ) (ts : List Lexeme) → TokensStand low ts high → SemicolonEndsAt end ts → low ≤ end
goes_on low high end [] stand ends = absurd ends
goes_on low high end (lexeme k x s ∷ []) stand ends = omega (arith, stand.0, stand.1, ends.1)
goes_on low high end (lexeme k x s ∷ u ∷ ts) stand ends =
    let rest = goes_on s.end high end (u ∷ ts) stand.2 ends in
    omega (arith, stand.0, stand.1, rest)

-- those of which the last ends in front of a byte
pub all_end : (o low high end : ℕ) (ts : List Lexeme) → end ≤ o → TokensStand low ts high → SemicolonEndsAt end ts → InTokens (EndsBy o) ts
all_end o low high end [] before stand ends = tt
all_end o low high end (lexeme k x s ∷ []) before stand ends = (omega (arith, before, ends.1), tt)
all_end o low high end (lexeme k x s ∷ u ∷ ts) before stand ends =
    let rest = goes_on s.end high end (u ∷ ts) stand.2 ends in
    (omega (arith, before, rest), all_end o s.end high end (u ∷ ts) before stand.2 ends)
