use Rattle.std.proofs.Common.{map}
use Rattle.lam_rules.specs.TermViews.{lent_of, term_of}
use Rattle.lam_rules.specs.TypingSteps.{subjects}
use Rattle.lam_rules.specs.TypingViews.{context_of}
use Rattle.lam_query.specs.Views.{step_of}
use Rattle.lam_query.specs.inner.Backwards.{said_at}
use Rattle.lam_query.proofs.PendingProofs.{known_more, one_pushed}
use Rattle.lam_query.proofs.wrong_steps.push_premises.Goals as goal

pub loop-k-preserved : goal.loop-k-preserved
loop-k-preserved c = (
  λ g deep.
      one_pushed g (subjects c.args.parent.rule (context_of g) (term_of c.args.parent.term.now) (lent_of c.args.parent.first)) (said_at (map step_of c.args.steps.now)) c.args.premises.now c.loop-k.k
      c.loop-k.pending.items c.push.new.self.items c.premise_of.result _ c.loop-k-test.true c.in_ok-push.ensures.items (rw c.step_at.ensures at c.premise_of.ensures.left g deep) (c.loop-k.invariant.0 g deep),
  λ g deep well_formed known.
      let own = c.premise_of.ensures.known g deep well_formed in
      rw c.in_ok-push.ensures.items (known_more g c.loop-k.pending.items c.premise_of.result (c.loop-k.invariant.1 g deep well_formed known) own.0 own.1),
)
