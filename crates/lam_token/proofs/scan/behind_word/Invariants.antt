use Rattle.std.proofs.Common.{List, ℕ, length}
use Rattle.std.specs.Str.{IsUtf8}
use Rattle.lam_token.specs.Shape.{is_continuing}
use Rattle.lam_token.specs.inner.Reading.{RunIs}
use Rattle.lam_token.proofs.scan.behind_word.Given as goal

-- a run of what is left is the end of a run of the whole
abbrev pub invariant-loop-c : goal.invariant-loop-c
invariant-loop-c l = record {
  is_text : IsUtf8 l.rest;
  runs : (after : List ℕ) → RunIs is_continuing l.rest after → RunIs is_continuing l.fn.text after;
}

abbrev pub decreases-loop-c : goal.decreases-loop-c
decreases-loop-c l = length l.rest
