use Rattle.std.specs.Str.{chars}
use Rattle.lam_text.proofs.LawLemmas.{front_within-longest}
use Rattle.lam_text.proofs.laws.longest_front.Goals as goal

pub returns : goal.returns
returns c = front_within-longest c.args.encoding c.args.room (chars c.args.line.now)
