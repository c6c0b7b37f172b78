use Rattle.std.proofs.lemmas.Bool.{ne_eqb, eq-eqb}
use Rattle.lam_token.proofs.Segments.{lone_slash_segment, stray_slash_segment, comment_segment, unclosed_segment}
use Rattle.lam_token.proofs.scan.slash_segment.Goals as goal

pub returns-in_default : goal.returns-in_default
returns-in_default c = lone_slash_segment _ _ _ c.requires.first c.requires.beginning c.in_default.ensures

pub returns-then-second-ne42 : goal.returns-then-second-ne42
returns-then-second-ne42 c =
    stray_slash_segment _ _ _ _ _ c.requires.first c.requires.beginning c.in-Some.ensures (ne_eqb _ _ c.if-second-ne42.true)

pub returns-in-Some-behind_comment : goal.returns-in-Some-behind_comment
returns-in-Some-behind_comment c =
    comment_segment _ _ _ _ _ _ c.requires.first c.requires.beginning c.in-Some.ensures (eq-eqb _ _ c.if-second-ne42.false) c.in-Some-behind_comment.ensures

pub returns-in-None : goal.returns-in-None
returns-in-None c =
    unclosed_segment _ _ _ _ _ c.utf8.text c.requires.first c.requires.beginning c.in-Some.ensures (eq-eqb _ _ c.if-second-ne42.false) c.in-None.ensures
