use Rattle.std.proofs.Common.{sym, ◌∙◌}
use Rattle.lam_session.proofs.Messages.{row_found, row_passed}
use Rattle.lam_session.proofs.values.diagnostics.message_beside.Goals as goal

pub returns-then-eq : goal.returns-then-eq
returns-then-eq c = sym (row_found c.args.code.now c.args.messages.now c.loop-known.known-index _ c.loop-known-test.true (sym c.eq.ensures ∙ c.if-eq.true)) ∙ c.loop-known.invariant

pub loop-known-preserved : goal.loop-known-preserved
loop-known-preserved c = sym (row_passed c.args.code.now c.args.messages.now c.loop-known.known-index _ c.loop-known-test.true (sym c.eq.ensures ∙ c.if-eq.false)) ∙ c.loop-known.invariant
