-- A device with one failing call.
use Rattle.std.specs.Prelude.{◌≡◌, ◌≢◌, ℕ, ◌+◌, ◌-◌, ◌^◌, ◌&&◌, ◌==◌, if◌then◌else◌, min, nat_lt}

-- the wrapped device, the number of the call that fails (0 for none), and the number of calls made, counted up to that one
pub record Failing (D : Type 0) : Type 0 where
  pub inner : D
  pub call : ℕ
  pub made : ℕ

-- The next call is the one that fails.
abbrev pub IsDue : {D : Type 0} → Failing D → Type 0
IsDue s = s.made + 1 ≡ s.call

-- the device after one more call, with this wrapped device
abbrev pub after_call : {D : Type 0} → Failing D → D → Failing D
after_call s inner = record { inner = inner; call = s.call; made = min (s.made + 1) s.call }

-- 1 after the failing call was made, otherwise 0
abbrev pub own_failures : ℕ → ℕ → ℕ
own_failures call made = if nat_lt 0 call && made == call then 1 else 0

-- the failures of the wrapped device plus its own, saturating at the maximum of `u64`
abbrev pub failures_with : {D : Type 0} → (D → ℕ) → Failing D → ℕ
failures_with failed s = min (failed s.inner + own_failures s.call s.made) (2 ^ 64 - 1)

-- A call other than the failing one does to the wrapped device what a call of it may do, and is counted.
pub record Passes {D : Type 0} (Does : D → D → Type 0) (old new : Failing D) : Type 0 where
  pub other : old.made + 1 ≢ old.call
  pub does : Does old.inner new.inner
  pub counted : new ≡ after_call old new.inner

-- The failing call, and no other, fails without reaching the wrapped device; any other passes.
pub data FailsOrPasses {D : Type 0} (Fails : Type 0) (Does : D → D → Type 0) (old new : Failing D) : Type 0 where
  fails : IsDue old → Fails → new ≡ after_call old old.inner → FailsOrPasses Fails Does old new
  passes : Passes Does old new → FailsOrPasses Fails Does old new
