use Rattle.std.proofs.Common.{◌≡◌, ◌+◌, length}
use denote.Shadow.{shadow}
use denote.Text.{Utf8}
use Rattle.lam_token.proofs.Cuts.{GoesOn}
use Rattle.lam_token.proofs.lexer.lex.Given as goal

abbrev pub invariant-loop-token : goal.invariant-loop-token
invariant-loop-token l = record {
  is_text : shadow (Utf8 l.rest);
  place : l.start + length l.rest ≡ length l.fn.text;
  goes_on : GoesOn l.fn.text l.rest l.start l.tokens.items;
}

abbrev pub decreases-loop-token : goal.decreases-loop-token
decreases-loop-token l = length l.rest
