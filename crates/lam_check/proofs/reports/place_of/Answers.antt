use Rattle.std.proofs.Common.{◌≡◌, ◌≤◌, length, arith}
use Rattle.lam_text.specs.declared.units.Encoding.TheVariants.{Utf32}
use Rattle.lam_text.specs.Positions.{position_of}
use Rattle.lam_check.proofs.LineEnds.{place_bounds}
use Rattle.lam_check.proofs.reports.place_of.Goals as goal
use Rattle.lam_check.proofs.reports.place_of.Goals.{After-position_of}

-- neither the line nor the column is past the length of the text
bounds : (c : After-position_of) → (c.position_of.result.line ≤ length c.text.result.now) × (c.position_of.result.character ≤ length c.text.result.now)
bounds c =
    let place : c.position_of.result ≡ position_of Utf32 c.text.result.now c.args.offset = rw (c.requires.encoding, ← c.text.ensures) at c.position_of.ensures in
    rw place (place_bounds c.text.result.now c.args.offset c.text.utf8)

pub returns-clause-line : goal.returns-clause-line
returns-clause-line c = omega (arith, (bounds c).0, c.past-past.ensures, c.past-past.type_inv)

pub returns-clause-column : goal.returns-clause-column
returns-clause-column c = omega (arith, (bounds c).1, c.past-past.ensures, c.past-past.type_inv)
