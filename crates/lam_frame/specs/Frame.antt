-- Frames of the base protocol (LSP 3.17, "Base Protocol"): a header part that gives a length, and a body of that many bytes.
use Rattle.std.specs.Prelude.{◌≡◌, ◌≢◌, ℕ, ◌<◌, List, [], ◌∷◌, ◌++◌, length, codes, decimal, Option, Some, None, Ok, Err}
use Rattle.lam_frame.specs.declared.fault.FrameFault.{FrameFault}
use Rattle.lam_frame.specs.declared.fault.FrameFault.TheVariants.{BadHeader, Truncated}
use Rattle.lam_frame.specs.Header.{HasHeader, IsSpoiled, IsTooLong, IsUnfinished, body_length, header_limit}

-- The bytes begin with a frame with this body, and these bytes follow it.
pub record HasFrame (bytes body after : List ℕ) : Type 0 where
  pub lines : List (List ℕ)
  pub header : HasHeader bytes lines (body ++ after)
  pub size : body_length lines ≡ Ok (length body)

-- The bytes cannot begin with a frame, whatever bytes follow.
pub data HasFault (bytes : List ℕ) (fault : FrameFault) : Type 0 where
  Spoiled : IsSpoiled bytes → fault ≡ BadHeader → HasFault bytes fault
  Endless : IsTooLong bytes → fault ≡ BadHeader → HasFault bytes fault
  BadFields : (lines : List (List ℕ)) (after : List ℕ) → HasHeader bytes lines after → body_length lines ≡ Err fault → HasFault bytes fault

-- Neither holds yet: the header part or the body is incomplete.
pub data IsOpen (bytes : List ℕ) : Type 0 where
  InHeader : IsUnfinished bytes → length bytes < header_limit → IsOpen bytes
  InBody : (lines : List (List ℕ)) (part : List ℕ) (size : ℕ) → HasHeader bytes lines part → body_length lines ≡ Ok size → length part < size → IsOpen bytes

-- ---- whole inputs

-- what remains after the last frame: nothing at a clean end, otherwise bytes with one error
abbrev pub IsRest : List ℕ → Option FrameFault → Type 0
IsRest bytes None = bytes ≡ []
IsRest bytes (Some Truncated) = IsOpen bytes × (bytes ≢ [])
IsRest bytes (Some fault) = HasFault bytes fault

-- The bytes are frames with these bodies, in order, and a rest with this error or none.
abbrev pub IsReading : List ℕ → List (List ℕ) → Option FrameFault → Type 0
IsReading bytes [] fault = IsRest bytes fault
IsReading bytes (body ∷ bodies) fault = (after : List ℕ) × HasFrame bytes body after × IsReading after bodies fault

-- ---- output

-- the header part for a body of this length
unfoldable pub header_line : ℕ → List ℕ
header_line len = codes "Content-Length: " ++ (decimal len ++ (13 ∷ 10 ∷ 13 ∷ 10 ∷ []))

-- the bytes of a frame
unfoldable pub frame_text : List ℕ → List ℕ
frame_text body = header_line (length body) ++ body
