use Rattle.std.proofs.Common.{◌∙◌, ap, arith}
use Rattle.lam_rules.specs.TermViews.{written_of}
use Rattle.lam_query.specs.Views.{entry_of}
use Rattle.lam_query.proofs.Verifying.{entries_more, entries_all}
use Rattle.lam_query.proofs.verify.entries_of.Goals as goal

pub loop-i-preserved : goal.loop-i-preserved
loop-i-preserved c = entries_more written_of (λ e. written_of e.1) c.loop-i.entries.items c.push.new.self.items c.in_ok-copy_of_entry.field-0 c.args.context.now c.loop-i.i c.index-context-i.result (omega arith) c.index-context-i.is
    (c.in_ok-copy_of_entry.ensures ∙ ap written_of c.as_ref.ensures.value) c.in_ok-push.ensures.items c.loop-i.invariant

pub returns : goal.returns
returns c = entries_all written_of (λ e. e.type) entry_of c.loop-i.entries.items c.args.context.now c.loop-i.i (omega arith) c.loop-i.invariant
