use Rattle.std.proofs.Common.{◌≡◌, ◌+◌, length}
use denote.Shadow.{shadow}
use denote.Text.{Utf8}
use Rattle.lam_token.proofs.SomeCut.{tokens_at}
use Rattle.lam_query.specs.Completions.{touched_word}
use Rattle.lam_query.proofs.cursor.touched_word.Given as goal

abbrev pub invariant-loop-token : goal.invariant-loop-token
invariant-loop-token l = record {
  is_text : shadow (Utf8 l.rest);
  place : l.start + length l.rest ≡ l.fn.from + length l.fn.piece;
  passed : touched_word l.offset (tokens_at l.fn.from l.fn.piece) ≡ touched_word l.offset (tokens_at l.start l.rest);
}

abbrev pub decreases-loop-token : goal.decreases-loop-token
decreases-loop-token l = length l.rest
