use Rattle.std.proofs.Common.{◌≡◌, ◌+◌, ◌++◌, length}
use denote.Shadow.{shadow}
use denote.Text.{Utf8}
use Rattle.lam_token.proofs.SomeCut.{tokens_at}
use Rattle.lam_query.specs.inner.OnePiece.{HaveNoSemicolon}
use Rattle.lam_query.proofs.reading.command_in.Given as goal

abbrev pub invariant-loop-token : goal.invariant-loop-token
invariant-loop-token l = record {
  is_text : shadow (Utf8 l.rest);
  place : l.place + length l.rest ≡ l.fn.start + length l.fn.piece;
  one_piece : HaveNoSemicolon l.reader.piece.items;
  are_all : tokens_at l.fn.start l.fn.piece ≡ l.reader.piece.items ++ tokens_at l.place l.rest;
}

abbrev pub decreases-loop-token : goal.decreases-loop-token
decreases-loop-token l = length l.rest
