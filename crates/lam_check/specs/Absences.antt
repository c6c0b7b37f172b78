-- Why there is no derivation at a position.
use Rattle.std.specs.Prelude.{ℕ, List, codes}
use Rattle.lam_rules.specs.Texts.{Text}
use Rattle.lam_text.specs.declared.places.Position.{Position}
use Rattle.lam_check.specs.Drawings.{HasPlace}
use Rattle.lam_check.specs.declared.absences.Absence.{Absence}
use Rattle.lam_check.specs.declared.absences.Absence.TheVariants as absences

-- The text has a line with this index: its start is a position of the text.
abbrev pub HasLine : List ℕ → ℕ → Type 0
HasLine text line = HasPlace text (record { line = line; character = 0 })

-- The text has no such line; it has the line, but no such column; or it has the position, and if it has no derivation there, then for want of a type.
abbrev pub IsAbsence : List ℕ → Position → Absence → Type 0
IsAbsence text place absences.Line = HasLine text place.line → ⊥
IsAbsence text place absences.Column = HasLine text place.line × (HasPlace text place → ⊥)
IsAbsence text place absences.Type = HasPlace text place

-- the error message
unfoldable pub absence_text : Absence → Text
absence_text absences.Line = codes "the text has no such line"
absence_text absences.Column = codes "the line has no such column"
absence_text absences.Type = codes "no type is shown there"
