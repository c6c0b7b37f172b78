-- A text shared by several types.
use Rattle.std.specs.Prelude.{◌≡◌}
use Rattle.lam_rules.specs.Types.{Typ}
use Rattle.lam_rules.specs.Texts.{Text, text}
use Rattle.lam_rules.specs.Subtyping.{IsBelow}
use Rattle.lam_rules.specs.declared.rules.Dialect.{Dialect}

-- the text is that of every type that is a subtype and a supertype of the given one, in either dialect
abbrev pub IsSharedText : Text → Typ → Type 0
IsSharedText x s = (t : Typ) (d : Dialect) → IsBelow s t d → IsBelow t s d → x ≡ text t
