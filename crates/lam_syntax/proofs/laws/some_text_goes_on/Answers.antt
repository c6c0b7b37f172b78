use Rattle.lam_syntax.proofs.ContinuedTexts.{whole_continued, last_continued, inside_continued, continued_begins}
use Rattle.lam_syntax.proofs.laws.some_text_goes_on.Goals as goal

pub returns : goal.returns
returns c = record { whole = whole_continued; last = last_continued; inside = inside_continued; only = continued_begins }
