use Rattle.lam_check.proofs.SentValues.{one_readable}
use Rattle.lam_check.proofs.read_derivations.one_derivation.Goals as goal

pub returns : goal.returns
returns c = λ encoding. one_readable encoding c.args.text.now c.utf8.text
