-- Record subtyping, field by field.
use Rattle.lam_rules.specs.Types.{Typ, Fields, no_fields, field, Has}
use Rattle.lam_rules.specs.Subtyping.{IsBelow}
use Rattle.lam_rules.specs.declared.rules.Dialect.{Dialect}

-- for each field of the second list, the first has a field with its label and a subtype of its type
abbrev pub AreBelow : Fields → Fields → Dialect → Type 0
AreBelow fs no_fields d = Unit {0}
AreBelow fs (field l t rest) d = ((s : Typ) × Has l s fs × IsBelow s t d) × AreBelow fs rest d
