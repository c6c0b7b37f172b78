-- Parsing of types from their plain text. For private functions only.
use Rattle.std.specs.Prelude.{◌≡◌, ◌≢◌, ◌++◌, ◌+◌, ℕ, Option, Some, None, codes}
use Rattle.std.specs.Borrow.{Bor}
use Rattle.lam_rules.specs.Texts.{Text}
use Rattle.lam_rules.specs.Types.{Typ, arrow}
use Rattle.lam_rules.specs.TypeViews.{typ_of}
use Rattle.lam_rules.specs.declared.types.Ty.{Ty}
use Rattle.lam_check.specs.Readable.{depth}

-- The text does not begin with an arrow.
abbrev pub NoArrow : Text → Type 0
NoArrow rest = (more : Text) → rest ≢ codes "->" ++ more

-- This type was parsed, and this text follows it.
abbrev pub IsTypeRead : Option (Ty × Bor Text) → Typ → Text → Type 0
IsTypeRead None t rest = ⊥
IsTypeRead (Some f) t rest = (typ_of f.0 ≡ t) × (f.1.now ≡ rest)

-- the number of levels that the text of a type takes on the left of an arrow
abbrev pub levels_on_left : Typ → ℕ
levels_on_left (arrow s t) = depth (arrow s t) + 1
levels_on_left t = depth t
