use Rattle.std.proofs.Common.{◌≡◌, ◌+◌, length}
use denote.Shadow.{shadow}
use denote.Text.{Utf8}
use Rattle.lam_token.proofs.SomeCut.{tokens_at}
use Rattle.lam_query.specs.inner.Reading.{AreHeldAround}
use Rattle.lam_query.proofs.ReadAround.{unended, named}
use Rattle.lam_query.proofs.reading.command_with_label.Given as goal

abbrev pub invariant-loop-token : goal.invariant-loop-token
invariant-loop-token l = record {
  is_text : shadow (Utf8 l.rest);
  place : l.place + length l.rest ≡ l.fn.start + length l.fn.piece;
  held : AreHeldAround (named l.offset l.dot (unended (tokens_at l.fn.start l.fn.piece))) l.offset l.dot l.taken l.reader.piece.items (unended (tokens_at l.place l.rest));
}

abbrev pub decreases-loop-token : goal.decreases-loop-token
decreases-loop-token l = length l.rest
