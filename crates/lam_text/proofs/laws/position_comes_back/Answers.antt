use Rattle.lam_text.proofs.LawLemmas.{comes_back}
use Rattle.lam_text.proofs.laws.position_comes_back.Goals as goal

pub returns : goal.returns
returns c = comes_back c.args.encoding c.args.text.now c.args.offset c.utf8.text c.requires.boundary c.requires.outside
