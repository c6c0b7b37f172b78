use Rattle.std.proofs.lemmas.Bool.{ne_eqb, eq-eqb}
use Rattle.lam_token.proofs.Segments.{lone_dash_segment, stray_dash_segment, arrow_segment}
use Rattle.lam_token.proofs.scan.dash_segment.Goals as goal

pub returns-in_default : goal.returns-in_default
returns-in_default c = lone_dash_segment _ _ _ c.requires.first c.requires.beginning c.in_default.ensures

pub returns-then-second-ne62 : goal.returns-then-second-ne62
returns-then-second-ne62 c =
    stray_dash_segment _ _ _ _ _ c.requires.first c.requires.beginning c.in-Some.ensures (ne_eqb _ _ c.if-second-ne62.true)

pub returns : goal.returns
returns c = arrow_segment _ _ _ _ _ c.requires.first c.requires.beginning c.in-Some.ensures (eq-eqb _ _ c.if-second-ne62.false)
