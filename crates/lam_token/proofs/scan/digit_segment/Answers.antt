use Rattle.lam_token.proofs.Segments.{numeral_segment}
use Rattle.lam_token.proofs.scan.digit_segment.Goals as goal

pub returns : goal.returns
returns c = numeral_segment _ _ _ _ c.requires.first c.requires.beginning c.behind_digits.ensures
