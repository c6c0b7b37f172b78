use Rattle.lam_query.proofs.BindersBehind.{AreSeenSoFar}
use Rattle.lam_query.proofs.analyses.Analysis.binders_before.Given as goal

abbrev pub invariant-loop-i : goal.invariant-loop-i
invariant-loop-i l = AreSeenSoFar l.text l.self l.i l.start l.binders.items
