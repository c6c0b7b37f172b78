-- Reading of JSON values. For private functions only.
use Rattle.std.specs.Prelude.{◌≢◌, ℕ, Result, Ok, Err}
use Rattle.serde_json.specs.Data.{Data, number, unsigned}
use Rattle.lam_check.specs.declared.read_derivations.Unread.{Unread}
use Rattle.lam_check.specs.declared.read_derivations.Unread.TheVariants.{Memory}

-- If the result is an error other than a failed allocation, `P` holds of it.
abbrev pub IfUnread : {T : Type 0} → Result T Unread → (Unread → Type 0) → Type 0
IfUnread (Ok x) P = Unit {0}
IfUnread (Err reason) P = reason ≢ Memory → P reason

-- a number as a JSON value
abbrev pub number_value : ℕ → Data
number_value n = number (unsigned n)
