use Rattle.std.proofs.Common.{refl}
use Rattle.lam_typing.proofs.Checking.{still_sound}
use Rattle.lam_typing.proofs.checker.TypeChecker.table_mut.Goals as goal

pub returns : goal.returns
returns c = ((refl, λ w. refl), record { lends = tt; table = refl; sound = λ types sound keeps. still_sound c.args.self.now types keeps sound })
