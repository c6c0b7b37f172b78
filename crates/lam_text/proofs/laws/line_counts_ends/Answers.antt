use Rattle.lam_text.proofs.LawLemmas.{line_of-count}
use Rattle.lam_text.proofs.laws.line_counts_ends.Goals as goal

pub returns : goal.returns
returns c = line_of-count c.args.encoding c.args.text.now c.args.offset
