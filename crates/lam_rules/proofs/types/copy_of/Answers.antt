use Rattle.lam_rules.proofs.TypeShapes.{typ_of-Bool, typ_of-Nat, typ_of-Unit, typ_of-Top, typ_of-Arrow, typ_of-Record, typ_of-made}
use Rattle.std.proofs.Common.{arith}
use Rattle.lam_rules.proofs.types.copy_of.Goals as goal

pub returns-in-Bool : goal.returns-in-Bool
returns-in-Bool c = grind (arith, typ_of-Bool)

pub returns-in-Nat : goal.returns-in-Nat
returns-in-Nat c = grind (arith, typ_of-Nat)

pub returns-in-Unit : goal.returns-in-Unit
returns-in-Unit c = grind (arith, typ_of-Unit)

pub returns-in-Top : goal.returns-in-Top
returns-in-Top c = grind (arith, typ_of-Top)

pub returns-in_ok-items-in-Record : goal.returns-in_ok-items-in-Record
returns-in_ok-items-in-Record c = grind (arith, typ_of-Record, typ_of-made)

pub returns-in_ok-clone-in-Arrow-2 : goal.returns-in_ok-clone-in-Arrow-2
returns-in_ok-clone-in-Arrow-2 c = grind (arith, typ_of-Arrow)
