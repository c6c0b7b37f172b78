-- What each typing rule makes of the least types of a term's parts, in terms of types alone; none stands for no type.
use Rattle.std.specs.Prelude.{◌≡◌, ℕ, zero, suc, [], ◌∷◌, Option, Some, None}
use Rattle.lam_rules.specs.Types.{Label, Typ, bool, nat, arrow, record_of, Fields, field, Has, IsAbsent, AreWellFormed}
use Rattle.lam_rules.specs.Subtyping.{IsBelow}
use Rattle.lam_rules.specs.Terms.{Term, succ, pred, is_zero}
use Rattle.lam_rules.specs.Typing.{Context}
use Rattle.lam_rules.specs.declared.rules.Dialect.{Dialect}
use Rattle.lam_lattice.specs.inner.Bounds.{IsJoin}

-- the context entry at a de Bruijn index, or none past the last one
abbrev pub entry_at : ℕ → Context → Option Typ
entry_at n [] = None
entry_at zero (entry ∷ g) = entry
entry_at (suc n) (entry ∷ g) = entry_at n g

-- an operation on a number: its operand, and its type if the operand is below Nat
abbrev pub IsNumeric : Term → Term → Typ → Type 0
IsNumeric (succ e) operand t = (e ≡ operand) × (t ≡ nat)
IsNumeric (pred e) operand t = (e ≡ operand) × (t ≡ nat)
IsNumeric (is_zero e) operand t = (e ≡ operand) × (t ≡ bool)
IsNumeric _ operand t = ⊥

-- an operand below Nat, and the type of the whole
abbrev pub NatRule : Typ → Option Typ → Option Typ → Dialect → Type 0
NatRule outcome None o d = o ≡ None
NatRule outcome (Some s) (Some t) d = (t ≡ outcome) × IsBelow s nat d
NatRule outcome (Some s) None d = IsBelow s nat d → ⊥

-- a lambda with its written type
abbrev pub LambdaRule : Option Typ → Option Typ → Option Typ → Type 0
LambdaRule (Some w) (Some t) o = o ≡ Some (arrow w t)
LambdaRule (Some w) None o = o ≡ None
LambdaRule None y o = o ≡ None

-- a first term that is a function, and an argument below its parameter
abbrev pub ArrowRule : Typ → Typ → Option Typ → Dialect → Type 0
ArrowRule (arrow p r) s (Some t) d = (t ≡ r) × IsBelow s p d
ArrowRule (arrow p r) s None d = IsBelow s p d → ⊥
ArrowRule _ s o d = o ≡ None

-- a first term and an argument that both have types, the first a function that accepts the second
abbrev pub ApplyRule : Option Typ → Option Typ → Option Typ → Dialect → Type 0
ApplyRule None y o d = o ≡ None
ApplyRule (Some f) None o d = o ≡ None
ApplyRule (Some f) (Some s) o d = ArrowRule f s o d

-- a term below the type that is ascribed
abbrev pub AscribeRule : Option Typ → Option Typ → Option Typ → Dialect → Type 0
AscribeRule (Some w) (Some s) (Some t) d = (t ≡ w) × IsBelow s w d
AscribeRule (Some w) (Some s) None d = IsBelow s w d → ⊥
AscribeRule (Some w) None o d = o ≡ None
AscribeRule None x o d = o ≡ None

-- a let has the type of its second term if its first has one
abbrev pub LetRule : Option Typ → Option Typ → Option Typ → Type 0
LetRule (Some s) y o = o ≡ y
LetRule None y o = o ≡ None

-- a condition below Bool, and branches, which always have a join
abbrev pub IfRule : Option Typ → Option Typ → Option Typ → Option Typ → Dialect → Type 0
IfRule None y z o d = o ≡ None
IfRule (Some c) None z o d = o ≡ None
IfRule (Some c) (Some a) None o d = o ≡ None
IfRule (Some c) (Some a) (Some b) (Some j) d = IsBelow c bool d × IsJoin a b j d
IfRule (Some c) (Some a) (Some b) None d = IsBelow c bool d → ⊥

-- a function whose result fits its parameter
abbrev pub FixRule : Option Typ → Option Typ → Dialect → Type 0
FixRule None o d = o ≡ None
FixRule (Some (arrow p r)) (Some t) d = (t ≡ r) × IsBelow r p d
FixRule (Some (arrow p r)) None d = IsBelow r p d → ⊥
FixRule (Some _) o d = o ≡ None

-- the type of a field of a record type
abbrev pub FieldRule : Label → Typ → Option Typ → Type 0
FieldRule l (record_of fs) (Some t) = Has l t fs
FieldRule l (record_of fs) None = IsAbsent l fs
FieldRule l _ o = o ≡ None

-- a term that has a type, and the field of that type
abbrev pub ProjectRule : Label → Option Typ → Option Typ → Type 0
ProjectRule l None o = o ≡ None
ProjectRule l (Some t) o = FieldRule l t o

-- one more field prepended
abbrev pub MoreRule : Label → Option Typ → Option Fields → Option Fields → Type 0
MoreRule l None y o = o ≡ None
MoreRule l (Some t) None o = o ≡ None
MoreRule l (Some t) (Some fs) o = o ≡ Some (field l t fs)

-- a record of these fields, if no label is repeated
abbrev pub RecordRule : Option Fields → Option Typ → Type 0
RecordRule None o = o ≡ None
RecordRule (Some fs) (Some t) = (t ≡ record_of fs) × AreWellFormed fs
RecordRule (Some fs) None = AreWellFormed fs → ⊥
