-- Laws of frames: every input splits into frames and a rest in exactly one way; open bytes are those that settle nothing; a frame that is written is read back.
use Rattle.std.specs.Prelude.{◌≡◌, ◌≤◌, ◌⊎◌, ◌↔◌, ℕ, List, ◌++◌, Option, length}
use Rattle.lam_frame.specs.declared.fault.FrameFault.{FrameFault}
use Rattle.lam_frame.specs.Header.{body_limit}
use Rattle.lam_frame.specs.Frame.{HasFault, HasFrame, IsOpen, IsReading, frame_text}

-- The input has a reading.
abbrev pub HasReading : List ℕ → Type 0
HasReading bytes = (bodies : List (List ℕ)) × (fault : Option FrameFault) × IsReading bytes bodies fault

-- Any two readings of the input are equal.
abbrev pub ReadsOneWay : List ℕ → Type 0
ReadsOneWay bytes = (b c : List (List ℕ)) (f g : Option FrameFault) → IsReading bytes b f → IsReading bytes c g → (b ≡ c) × (f ≡ g)

-- Whatever bytes follow, the input begins with a frame with this body.
abbrev pub SettlesFrame : List ℕ → List ℕ → Type 0
SettlesFrame bytes body = (more : List ℕ) → (after : List ℕ) × HasFrame (bytes ++ more) body after

-- Whatever bytes follow, the input has this error.
abbrev pub SettlesFault : List ℕ → FrameFault → Type 0
SettlesFault bytes fault = (more : List ℕ) → HasFault (bytes ++ more) fault

-- One of the two is settled.
abbrev pub Settles : List ℕ → Type 0
Settles bytes = ((body : List ℕ) × SettlesFrame bytes body) ⊎ ((fault : FrameFault) × SettlesFault bytes fault)

-- Bytes are open exactly if they settle nothing.
abbrev pub OpenSettlesNothing : List ℕ → Type 0
OpenSettlesNothing bytes = IsOpen bytes ↔ (Settles bytes → ⊥)

-- A frame that is written is the one that is read, whatever follows it.
abbrev pub IsReadBack : List ℕ → Type 0
IsReadBack body = length body ≤ body_limit → (more : List ℕ) → HasFrame (frame_text body ++ more) body more
