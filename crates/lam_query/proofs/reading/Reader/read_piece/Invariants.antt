use Rattle.std.proofs.Common.{◌≡◌, ◌+◌, ◌++◌, [], length}
use denote.Shadow.{shadow}
use denote.Text.{Utf8}
use Rattle.lam_token.proofs.SomeCut.{tokens_at}
use Rattle.lam_query.specs.inner.Reading.{AreRead}
use Rattle.lam_query.proofs.reading.Reader.read_piece.Given as goal

abbrev pub invariant-loop-token : goal.invariant-loop-token
invariant-loop-token l = record {
  is_text : shadow (Utf8 l.left);
  place : l.place + length l.left ≡ length l.fn.text;
  read : AreRead [] [] l.self;
  are_all : tokens_at 0 l.fn.text ≡ l.self.piece.items ++ tokens_at l.place l.left;
}

abbrev pub decreases-loop-token : goal.decreases-loop-token
decreases-loop-token l = length l.left
