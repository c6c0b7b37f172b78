use Rattle.std.proofs.Common.{◌≡◌, ◌+◌, length}
use Rattle.std.specs.Str.{IsUtf8}
use Rattle.lam_token.proofs.Cuts.{StandsBehind, Skips}
use Rattle.lam_token.proofs.lexer.first_token.Given as goal

abbrev pub invariant-loop-segment : goal.invariant-loop-segment
invariant-loop-segment l = record {
  is_text : IsUtf8 l.rest;
  place : l.offset + length l.rest ≡ l.fn.start + length l.fn.text;
  stands : StandsBehind l.fn.start l.fn.text l.offset l.rest;
  skips : Skips l.fn.start l.fn.text l.offset l.rest;
}

abbrev pub decreases-loop-segment : goal.decreases-loop-segment
decreases-loop-segment l = length l.rest
