use Rattle.std.proofs.Common.{subst, sym}
use Rattle.lam_typing.specs.Answers.{StandsWhereFound}
use Rattle.lam_typing.proofs.Numbering.{stands_or_none}
use Rattle.lam_typing.proofs.entries.number_of.Goals as goal

pub returns-in-Some-Term-clause-stands : goal.returns-in-Some-Term-clause-stands
returns-in-Some-Term-clause-stands c =
    subst (λ o. StandsWhereFound c.args.table.now o) (sym c.found_at.ensures) (stands_or_none c.args.table.now c.args.found.now c.in-Some-Term.place.0 c.requires.found)
