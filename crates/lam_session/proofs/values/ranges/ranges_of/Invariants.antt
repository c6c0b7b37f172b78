use Rattle.std.proofs.Common.{◌≡◌, ◌++◌, drop, map}
use Rattle.lam_session.specs.Ranges.{range_of}
use Rattle.lam_session.proofs.values.ranges.ranges_of.Given as goal

-- the ranges so far, and those of the spans to come, are all
abbrev pub invariant-loop-span : goal.invariant-loop-span
invariant-loop-span l =
    l.ranges.items ++ map (range_of l.fn.doc.encoding l.fn.doc.text) (drop l.span-index l.spans) ≡ map (range_of l.fn.doc.encoding l.fn.doc.text) l.spans
