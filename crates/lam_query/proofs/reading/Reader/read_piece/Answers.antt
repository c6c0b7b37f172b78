use Rattle.std.proofs.Common.{◌++◌, [], refl, rules, sym, ap, ◌∙◌, append-nil, arith}
use Rattle.lam_token.proofs.SomeCut.{tokens_at, first_told, none_told}
use Rattle.lam_query.proofs.NextPieces.{next_ended, next_last}
use Rattle.lam_query.proofs.OneCommand.{read_more}
use Rattle.lam_query.proofs.reading.Reader.read_piece.Goals as goal

pub loop-token-init : goal.loop-token-init
loop-token-init c = record {
  is_text = c.utf8.text;
  place = omega arith;
  read = c.requires.read;
  are_all = ap (λ ts. ts ++ tokens_at 0 c.args.text.now) (sym c.requires.no_piece);
}

pub loop-token-preserved : goal.loop-token-preserved
loop-token-preserved c =
    let so_far = c.loop-token.invariant in
    let first = first_told _ _ _ _ c.in-Some.ensures.first in
    let pushed = c.in_ok-push.ensures.pushed in
    record {
      is_text = search rules;
      place = omega (arith, c.end-place.ensures, c.in-Some.ensures.behind, so_far.place);
      read = c.in_ok-push.ensures.read [] [] so_far.read;
      are_all = rw c.end-place.ensures (read_more _ _ _ _ _ _ so_far.are_all first pushed);
    }

pub returns-then-is_semicolon-clause-next : goal.returns-then-is_semicolon-clause-next
returns-then-is_semicolon-clause-next c =
    let so_far = c.loop-token.invariant in
    let found = c.loop-token.self.piece.items in
    let first = first_told _ _ _ _ c.in-Some.ensures.first in
    let ends = sym c.is_semicolon.ensures ∙ c.if-is_semicolon.true in
    next_ended c.args.text.now found _ c.in-Some.token _ c.utf8.text ends (so_far.are_all ∙ ap (λ ts. found ++ ts) first)
    (omega (arith, c.in-Some.ensures.behind, so_far.place)) c.end-place.ensures refl

pub returns-clause-next : goal.returns-clause-next
returns-clause-next c =
    let so_far = c.loop-token.invariant in
    let found = c.loop-token.self.piece.items in
    let all = so_far.are_all ∙ ap (λ ts. found ++ ts) (none_told _ _ c.in_default.ensures.none) ∙ append-nil found in
    next_last c.args.text.now found _ c.utf8.text so_far.read.one_piece all refl refl
