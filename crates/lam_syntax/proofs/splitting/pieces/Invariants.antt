use Rattle.std.proofs.Common.{◌≡◌, ◌++◌, length, map}
use Rattle.lam_syntax.specs.Answers.{pieces_of}
use Rattle.lam_syntax.proofs.splitting.pieces.Given as goal

abbrev pub invariant-loop-left : goal.invariant-loop-left
invariant-loop-left l = map (λ p. p.now) l.found.items ++ pieces_of l.left ≡ pieces_of l.fn.tokens

abbrev pub decreases-loop-left : goal.decreases-loop-left
decreases-loop-left l = length l.left
