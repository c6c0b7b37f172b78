use Rattle.std.proofs.Common.{rules, subst, arith}
use Rattle.lam_token.proofs.Cuts.{tokens_stand}
use Rattle.lam_token.proofs.SomeCut.{tokens_at, are_tokens_at, first_told, none_told}
use Rattle.lam_query.specs.inner.Reading.{AreCollected}
use Rattle.lam_query.proofs.reading.read.Goals as goal

pub loop-token-init : goal.loop-token-init
loop-token-init c = record { is_text = c.utf8.text; place = omega arith; collected = c.new-collector.ensures (tokens_at 0 c.args.text.now) }

pub loop-token-preserved : goal.loop-token-preserved
loop-token-preserved c =
    let told = first_told _ _ _ _ c.in-Some.ensures.first in
    let before = subst (AreCollected (tokens_at 0 c.args.text.now) c.loop-token.collector) told c.loop-token.invariant.collected in
    record {
      is_text = search rules;
      place = omega (arith, c.end-start.ensures, c.in-Some.ensures.behind, c.loop-token.invariant.place);
      collected = rw c.end-start.ensures (c.in_ok-take.ensures _ _ before);
    }

pub returns : goal.returns
returns c =
    let all = tokens_at 0 c.args.text.now in
    let are = are_tokens_at 0 c.args.text.now in
    let collected = subst (AreCollected all c.loop-token.collector) (none_told _ _ c.in_default.ensures.none) c.loop-token.invariant.collected in
    let read = c.in_ok-end_piece.ensures all collected in
    record {
      tokens = all;
      are_tokens = are;
      whole = tokens_stand _ _ c.utf8.text are;
      commands = rw c.shrink_to_fit.ensures.items read.commands;
      faults = rw c.in_ok-take_faults.ensures.faults read.faults;
    }
