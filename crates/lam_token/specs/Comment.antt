-- What is between the mark that opens a comment and the one that closes it. A mark is two characters, and marks are read from the left: a slash and a star open a
-- nested comment, and a star and a slash close the innermost one.
use Rattle.std.specs.Prelude.{◌≡◌, ℕ, Bool, false, ◌||◌, List, [], ◌∷◌}
use Rattle.lam_token.specs.Shape.{is_opening, is_closing}

-- the characters begin with a mark
abbrev pub begins_mark : List ℕ → Bool
begins_mark [] = false
begins_mark (c ∷ []) = false
begins_mark (c ∷ d ∷ cs) = is_opening c d || is_closing c d

-- the characters are the inside of a comment, its closing mark, and then the rest
pub data Inside : List ℕ → List ℕ → Type 0 where
  closes : {rest : List ℕ} → Inside (42 ∷ 47 ∷ rest) rest
  nests : {cs mid rest : List ℕ} → Inside cs mid → Inside mid rest → Inside (47 ∷ 42 ∷ cs) rest
  goes_on : {c : ℕ} {cs rest : List ℕ} → begins_mark (c ∷ cs) ≡ false → Inside cs rest → Inside (c ∷ cs) rest
