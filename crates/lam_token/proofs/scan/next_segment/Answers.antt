use Rattle.std.proofs.Common.{sym}
use Rattle.lam_token.proofs.Segments.{blank_segment, mark_segment, stray_segment}
use Rattle.lam_token.proofs.scan.next_segment.Goals as goal

pub returns-in-Blank : goal.returns-in-Blank
returns-in-Blank c = blank_segment _ _ _ c.in_ok-first.ensures (sym c.in-Blank.ensures)

pub returns-in-Mark : goal.returns-in-Mark
returns-in-Mark c = mark_segment _ _ _ _ c.in_ok-first.ensures (sym c.in-Mark.ensures)

pub returns-in-Stray : goal.returns-in-Stray
returns-in-Stray c = stray_segment _ _ _ c.in_ok-first.ensures (sym c.in-Stray.ensures)
