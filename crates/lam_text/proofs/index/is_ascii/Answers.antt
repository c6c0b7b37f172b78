use Rattle.lam_text.proofs.Splices.{all_ascii-from_cases}
use Rattle.lam_text.proofs.index.is_ascii.Goals as goal

pub returns : goal.returns
returns c = all_ascii-from_cases c.is_ascii.result c.args.bytes.now c.is_ascii.ensures.cases
