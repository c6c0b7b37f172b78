-- The tokens of a text whose first byte has another offset.
use Rattle.std.proofs.Common.{◌≡◌, ℕ, ◌+◌, ◌-◌, ◌≤◌, List, [], ◌∷◌, length, map, sym, refl, ap, ◌∙◌, arith}
use Rattle.std.specs.Prelude.{encode_utf8_all}
use Rattle.lam_token.specs.declared.segment.Segment.{Segment}
use Rattle.lam_token.specs.declared.segment.Segment.TheVariants.{Blank, Comment, Token}
use Rattle.lam_token.specs.Lexeme.{Lexeme, lexeme}
use Rattle.lam_token.specs.Cut.{Part, with_token, tokens_of, AreTokensFrom, AreTokensOf}
use Rattle.lam_token.specs.Divided.{SemicolonEndsAt}
use Rattle.lam_token.specs.MovedTokens.{placed_by, moved_by, moved_from}
use Rattle.lam_token.proofs.Cuts.{one_list_from}
use Rattle.lam_token.proofs.SomeCut.{tokens_at, are_tokens_at}

module _ (place : ℕ → ℕ) where
  with_placed : (s : Segment) (bytes : List ℕ) (start there : ℕ) (ts us : List Lexeme) → there ≡ place start
      → there + length bytes ≡ place (start + length bytes)
      → us ≡ map (placed_by place) ts → with_token s bytes there us ≡ map (placed_by place) (with_token s bytes start ts)
  with_placed Blank bytes start there ts us first last others = others
  with_placed Comment bytes start there ts us first last others = others
  with_placed (Token k) bytes start there ts us first last others =
      (λ i. lexeme k bytes (record { start = first i; end = last i }) ∷ others i)

  -- if `start` moves to `there` and each later offset moves as far, the tokens from `there` on are those from `start` on, moved
  pub tokens_placed : (start there : ℕ) (ps : List Part) → ((o : ℕ) → start ≤ o → place o + start ≡ o + there)
      → tokens_of there ps ≡ map (placed_by place) (tokens_of start ps)
  tokens_placed start there [] moves = refl
  tokens_placed start there (p ∷ ps) moves =
      let bytes = encode_utf8_all p.characters in
      let first = moves start (omega arith) in
      let last = moves (start + length bytes) (omega arith) in
      with_placed p.sort bytes start there (tokens_of (start + length bytes) ps) (tokens_of (there + length bytes) ps)
      (omega arith) (omega arith)
      (tokens_placed (start + length bytes) (there + length bytes) ps (λ o from. let same = moves o (omega (arith, from)) in omega arith))

  tokens_are_placed : (start there : ℕ) (text : List ℕ) (tokens : List Lexeme) → ((o : ℕ) → start ≤ o → place o + start ≡ o + there)
      → AreTokensFrom start text tokens
      → AreTokensFrom there text (map (placed_by place) tokens)
  tokens_are_placed start there text tokens moves are = record {
    parts = are.parts;
    cut = are.cut;
    tokens_are = ap (map (placed_by place)) are.tokens_are ∙ sym (tokens_placed start there are.parts moves);
  }

-- the tokens of a text that begins that many bytes further on are those, moved
pub moved_further : (count : ℕ) (text : List ℕ) (tokens : List Lexeme) → AreTokensOf text tokens
    → AreTokensFrom count text (map (moved_by count) tokens)
moved_further count text tokens are = tokens_are_placed (λ o. o + count) 0 count text tokens (λ o from. omega arith) are

-- and all tokens of a text that begins at an offset are those of the text by itself, moved
pub moved_back : (count : ℕ) (text : List ℕ) (tokens : List Lexeme) → AreTokensFrom count text tokens
    → (others : List Lexeme) × AreTokensOf text others × (tokens ≡ map (moved_by count) others)
moved_back count text tokens are =
    let others = tokens_at 0 text in
    let alone = are_tokens_at 0 text in
    (others, alone, one_list_from count text (map (moved_by count) others) tokens (moved_further count text others alone) are)

-- the same from any offset to any other
pub moved_anywhere : (start other : ℕ) (text : List ℕ) (tokens : List Lexeme) → AreTokensFrom start text tokens
    → AreTokensFrom other text (map (moved_from start other) tokens)
moved_anywhere start other text tokens are =
    tokens_are_placed (λ o. (o - start) + other) start other text tokens (λ o from. omega (arith, from)) are

-- if the last one is a semicolon, it still is one, and ends where its end is moved to
pub ends_moved : (count end : ℕ) (tokens : List Lexeme) → SemicolonEndsAt end tokens → SemicolonEndsAt (end + count) (map (moved_by count) tokens)
ends_moved count end [] ends = absurd ends
ends_moved count end (lexeme k text s ∷ []) ends = (ends.0, ap (λ n. n + count) ends.1)
ends_moved count end (lexeme k text s ∷ t ∷ ts) ends = ends_moved count end (t ∷ ts) ends
