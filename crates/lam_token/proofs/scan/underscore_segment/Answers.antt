use Rattle.lam_token.proofs.Segments.{underscore_segment, underscore_name_segment}
use Rattle.lam_token.proofs.scan.underscore_segment.Goals as goal

pub returns-then-after-rest : goal.returns-then-after-rest
returns-then-after-rest c =
    underscore_segment _ _ _ _ c.requires.first c.requires.beginning c.behind_word-after.ensures c.if-after-rest.true

pub returns-else-after-rest : goal.returns-else-after-rest
returns-else-after-rest c =
    underscore_name_segment _ _ _ _ c.requires.first c.requires.beginning c.behind_word-after.ensures c.if-after-rest.false
