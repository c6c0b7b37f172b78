use Rattle.std.proofs.Common.{◌≡◌, ◌+◌, ◌<◌, ◌^◌, None, IfSome, length}
use denote.Shadow.{shadow}
use denote.Text.{Utf8}
use Rattle.lam_token.proofs.SomeCut.{tokens_at}
use Rattle.lam_query.proofs.CursorTokens.{dot_from}
use Rattle.lam_query.proofs.cursor.dot_before.Given as goal

abbrev pub invariant-loop-token : goal.invariant-loop-token
invariant-loop-token l = record {
  is_text : shadow (Utf8 l.rest);
  place : l.start + length l.rest ≡ l.fn.from + length l.fn.piece;
  passed : dot_from None l.offset (tokens_at l.fn.from l.fn.piece) ≡ dot_from l.dot l.offset (tokens_at l.start l.rest);
  fits : IfSome l.dot (λ start. start + 1 < 2 ^ 64);
}

abbrev pub decreases-loop-token : goal.decreases-loop-token
decreases-loop-token l = length l.rest
