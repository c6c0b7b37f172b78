use Rattle.std.proofs.Common.{◌++◌, rules, sym, ap, ◌∙◌, subst, append-nil, arith}
use Rattle.lam_token.proofs.SomeCut.{tokens_at, first_told, none_told}
use Rattle.lam_query.specs.inner.OnePiece.{HaveNoSemicolon}
use Rattle.lam_query.proofs.DividedPieces.{other_pushed}
use Rattle.lam_query.proofs.OneCommand.{read_more, if_ended_own, if_last_own}
use Rattle.lam_query.proofs.reading.command_in.Goals as goal

pub loop-token-init : goal.loop-token-init
loop-token-init c = record {
  is_text = c.utf8.piece;
  place = omega arith;
  one_piece = c.new-reader.ensures.read.one_piece;
  are_all = ap (λ ts. ts ++ tokens_at c.args.start c.args.piece.now) (sym c.new-reader.ensures.no_piece);
}

pub loop-token-preserved : goal.loop-token-preserved
loop-token-preserved c =
    let so_far = c.loop-token.invariant in
    let first = first_told _ _ _ _ c.in-Some.ensures.first in
    let goes_on = sym c.is_semicolon.ensures ∙ c.if-is_semicolon.false in
    let pushed = c.in_ok-push.ensures.pushed in
    record {
      is_text = search rules;
      place = omega (arith, c.end-place.ensures, c.in-Some.ensures.behind, so_far.place);
      one_piece = subst HaveNoSemicolon (sym pushed) (other_pushed _ _ so_far.one_piece goes_on);
      are_all = rw c.end-place.ensures (read_more _ _ _ _ _ _ so_far.are_all first pushed);
    }

pub returns-then-is_semicolon : goal.returns-then-is_semicolon
returns-then-is_semicolon c =
    let so_far = c.loop-token.invariant in
    let found = c.loop-token.reader.piece.items in
    let first = first_told _ _ _ _ c.in-Some.ensures.first in
    let ends = sym c.is_semicolon.ensures ∙ c.if-is_semicolon.true in
    if_ended_own _ _ _ found _ _ so_far.one_piece ends (so_far.are_all ∙ ap (λ ts. found ++ ts) first) c.end_piece.ensures.own

pub returns : goal.returns
returns c =
    let so_far = c.loop-token.invariant in
    let found = c.loop-token.reader.piece.items in
    let all = so_far.are_all ∙ ap (λ ts. found ++ ts) (none_told _ _ c.in_default.ensures.none) ∙ append-nil found in
    if_last_own _ _ _ found so_far.one_piece all c.end_piece-2.ensures.own
