use Rattle.std.proofs.Common.{◌≡◌, map, take}
use Rattle.lam_rules.specs.TermViews.{written_of}
use Rattle.lam_query.proofs.verify.entries_of.Given as goal

abbrev pub invariant-loop-i : goal.invariant-loop-i
invariant-loop-i l = map written_of l.entries.items ≡ map (λ e. written_of e.1) (take l.i l.context)
