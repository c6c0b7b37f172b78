use Rattle.std.proofs.Common.{map, refl}
use Rattle.lam_query.specs.Views.{explained_of}
use Rattle.lam_query.proofs.ExplainedLists.{one_told, all_told}
use Rattle.lam_query.proofs.mismatches.push_blames.Goals as goal

pub loop-i-preserved : goal.loop-i-preserved
loop-i-preserved c = λ commands d of are.
    one_told c.args.scopes.now c.args.types.now c.args.blames.now c.loop-i.i _ (map explained_of c.args.all.now.items) c.loop-i.all.items c.push.new.self.items _
    c.loop-i-test.true c.in_ok-push.ensures.items refl c.span_of.ensures c.in_ok-mismatch_at.ensures commands d of are (c.loop-i.invariant commands d of are)

pub returns : goal.returns
returns c = λ commands d of are.
    all_told c.args.scopes.now c.args.types.now c.args.blames.now c.loop-i.i (map explained_of c.args.all.now.items) (map explained_of c.loop-i.all.items) commands d
    c.loop-i-test.false (c.loop-i.invariant commands d of are)
