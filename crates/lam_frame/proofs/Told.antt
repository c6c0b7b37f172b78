-- What a call says of the bytes that it heard, it says of all bytes; and what it does to the count of failures and to the work that is left.
use Rattle.std.proofs.Common.{◌≡◌, ◌≢◌, ◌<◌, length, ℕ, List, [], ◌∷◌, ◌++◌, Option, Some, None, Result, Ok, Err, IfOk, OnSome, sym, ap, ◌∙◌, subst, arith, append_assoc, append-nil, length-append}
use Rattle.std.specs.List.{concat}
use Rattle.std.specs.Io.KnownBytes.{Keeps, Consumes, IsAtEnd}
use Rattle.std.proofs.KnownBytes.{Consumes-kept, Keeps-refl}
use Rattle.lam_frame.specs.Device.{SourceView}
use Rattle.lam_frame.specs.declared.fault.FrameFault.{FrameFault}
use Rattle.lam_frame.specs.declared.fault.FrameFault.TheVariants.{NoLength, BadLength, TooLong, BadHeader, Truncated, Device, Memory, TooManyTurns, Spent}
use Rattle.lam_frame.specs.Frame.{HasFrame, HasFault, IsOpen}
use Rattle.lam_frame.specs.Frame.HasFault.{Spoiled as SpoiledFault, Endless, BadFields}
use Rattle.lam_frame.specs.Header.{HasHeader, IsTooLong, ended_lines, header_text}
use Rattle.lam_frame.specs.Next.{Reads, After, EndsEmpty, PulledWhile, Says, Answers, ReadsWhereTold, failures_after, work_left}
use Rattle.lam_frame.proofs.Pulls.{PulledWhile-bytes, PulledWhile-end, PulledWhile-failed, PulledWhile-short}
use Rattle.lam_frame.proofs.Starts.{HasHeader-more, IsSpoiled-more, header_within}

-- ---- more bytes behind

pub HasFrame-more : (bytes more body after : List ℕ) → HasFrame bytes body after → HasFrame (bytes ++ more) body (after ++ more)
HasFrame-more bytes more body after f = record {
  lines = f.lines;
  header = subst (HasHeader (bytes ++ more) f.lines) (append_assoc body after more) (HasHeader-more bytes more f.lines (body ++ after) f.header);
  size = f.size;
}

IsTooLong-more : (bytes more : List ℕ) → IsTooLong bytes → IsTooLong (bytes ++ more)
IsTooLong-more bytes more t = record {
  long = omega (arith, t.long, length-append bytes more);
  endless = λ lines after h. let inside = header_within bytes more lines after t.long h in t.endless lines inside.0 inside.1;
}

pub HasFault-more : (bytes more : List ℕ) (fault : FrameFault) → HasFault bytes fault → HasFault (bytes ++ more) fault
HasFault-more bytes more fault (SpoiledFault s e) = SpoiledFault (IsSpoiled-more bytes more s) e
HasFault-more bytes more fault (Endless t e) = Endless (IsTooLong-more bytes more t) e
HasFault-more bytes more fault (BadFields lines after h e) = BadFields lines (after ++ more) (HasHeader-more bytes more lines after h) e

-- ---- all bytes

module _ {V : Type 0} (items : V → List ℕ) where
  answers : (heard : List ℕ) (pieces : List (List ℕ)) (answer : Result (Option V) FrameFault) (held left : List ℕ) → Says items heard pieces answer held → (EndsEmpty pieces → left ≡ []) → Answers items (heard ++ left) answer (held ++ left)
  answers heard pieces (Ok (Some body)) held left s end = HasFrame-more heard left (items body) held s
  answers heard pieces (Ok None) held left s end = ap (λ (l : List ℕ). l ++ left) s.0 ∙ end s.1
  answers heard pieces (Err Truncated) held left s end =
      let same : heard ≡ heard ++ left = sym (append-nil heard) ∙ ap (λ (l : List ℕ). heard ++ l) (sym (end s.1.1)) in
      (subst IsOpen same s.0, subst (λ (l : List ℕ). l ≢ []) same s.1.0)
  answers heard pieces (Err Device) held left s end = tt
  answers heard pieces (Err TooManyTurns) held left s end = tt
  answers heard pieces (Err Memory) held left s end = tt
  answers heard pieces (Err Spent) held left s end = absurd s
  answers heard pieces (Err NoLength) held left s end = HasFault-more heard left NoLength s
  answers heard pieces (Err BadLength) held left s end = HasFault-more heard left BadLength s
  answers heard pieces (Err TooLong) held left s end = HasFault-more heard left TooLong s
  answers heard pieces (Err BadHeader) held left s end = HasFault-more heard left BadHeader s

  -- if the bytes to come were told before, none are left
  abbrev EndsWhereTold : Option (List ℕ) → Option (List ℕ) → Type 0
  EndsWhereTold None left = Unit {0}
  EndsWhereTold (Some xs) left = IsAtEnd left

  ends_where_told : (a b c : Option (List ℕ)) (bs : List ℕ) → Consumes a b bs → Keeps b c → IsAtEnd b → EndsWhereTold a c
  ends_where_told None b c bs p k e = tt
  ends_where_told (Some xs) None c bs p k e = absurd p
  ends_where_told (Some xs) (Some ys) None bs p k e = absurd k
  ends_where_told (Some xs) (Some ys) (Some zs) bs p k e = k ∙ e

  answers_told : (held : List ℕ) (pieces : List (List ℕ)) (answer : Result (Option V) FrameFault) (held_after : List ℕ) (coming left : Option (List ℕ))
      → Says items (held ++ concat pieces) pieces answer held_after → Consumes coming left (concat pieces) → (EndsEmpty pieces → EndsWhereTold coming left) → ReadsWhereTold items held coming answer held_after left
  answers_told held pieces answer held_after None left s c end = tt
  answers_told held pieces answer held_after (Some xs) None s c end = c
  answers_told held pieces answer held_after (Some xs) (Some ys) s c end =
      let all : (held ++ concat pieces) ++ ys ≡ held ++ xs = append_assoc held (concat pieces) ys ∙ ap (λ (l : List ℕ). held ++ l) (sym c) in
      subst (λ (l : List ℕ). Answers items l answer (held_after ++ ys)) all (answers (held ++ concat pieces) pieces answer held_after ys s end)

  module _ {S : Type 0} (from : SourceView S) where
    kept_after : (answer : Result (Option V) FrameFault) (last left : S) → After from last answer left → Keeps (from.coming last) (from.coming left) × (from.failed left ≡ failures_after answer (from.failed last))
    kept_after (Ok (Some body)) last left a = (subst (λ (s : S). Keeps (from.coming last) (from.coming s)) a (Keeps-refl (from.coming last)), ap from.failed (sym a))
    kept_after (Ok None) last left a = (subst (λ (s : S). Keeps (from.coming last) (from.coming s)) a (Keeps-refl (from.coming last)), ap from.failed (sym a))
    kept_after (Err Device) last left a = (a.kept, a.counted)
    kept_after (Err NoLength) last left a = (subst (λ (s : S). Keeps (from.coming last) (from.coming s)) a (Keeps-refl (from.coming last)), ap from.failed (sym a))
    kept_after (Err BadLength) last left a = (subst (λ (s : S). Keeps (from.coming last) (from.coming s)) a (Keeps-refl (from.coming last)), ap from.failed (sym a))
    kept_after (Err TooLong) last left a = (subst (λ (s : S). Keeps (from.coming last) (from.coming s)) a (Keeps-refl (from.coming last)), ap from.failed (sym a))
    kept_after (Err BadHeader) last left a = (subst (λ (s : S). Keeps (from.coming last) (from.coming s)) a (Keeps-refl (from.coming last)), ap from.failed (sym a))
    kept_after (Err Truncated) last left a = (subst (λ (s : S). Keeps (from.coming last) (from.coming s)) a (Keeps-refl (from.coming last)), ap from.failed (sym a))
    kept_after (Err Memory) last left a = (subst (λ (s : S). Keeps (from.coming last) (from.coming s)) a (Keeps-refl (from.coming last)), ap from.failed (sym a))
    kept_after (Err TooManyTurns) last left a = (subst (λ (s : S). Keeps (from.coming last) (from.coming s)) a (Keeps-refl (from.coming last)), ap from.failed (sym a))
    kept_after (Err Spent) last left a = (subst (λ (s : S). Keeps (from.coming last) (from.coming s)) a (Keeps-refl (from.coming last)), ap from.failed (sym a))

    pub reads_told : (held : List ℕ) (pulls : ℕ) (source : S) (answer : Result (Option V) FrameFault) (held_after : List ℕ) (pulls_after : ℕ) (left : S)
        → Reads from IsOpen (Says items) held pulls source answer held_after pulls_after left → ReadsWhereTold items held (from.coming source) answer held_after (from.coming left)
    reads_told held pulls source answer held_after pulls_after left r =
        let kept = (kept_after answer r.last left r.after).0 in
        let bytes = PulledWhile-bytes from IsOpen held source r.last r.pieces r.needed in
        answers_told held r.pieces answer held_after (from.coming source) (from.coming left) r.says
        (Consumes-kept (from.coming source) (from.coming r.last) (from.coming left) (concat r.pieces) bytes kept)
        (λ e. ends_where_told (from.coming source) (from.coming r.last) (from.coming left) (concat r.pieces) bytes kept
        (PulledWhile-end from IsOpen held source r.last e.0 (subst (λ (p : List (List ℕ)). PulledWhile from IsOpen held source p r.last) e.1 r.needed)))

    pub reads_failures : (held : List ℕ) (pulls : ℕ) (source : S) (answer : Result (Option V) FrameFault) (held_after : List ℕ) (pulls_after : ℕ) (left : S)
        → Reads from IsOpen (Says items) held pulls source answer held_after pulls_after left → from.failed left ≡ failures_after answer (from.failed source)
    reads_failures held pulls source answer held_after pulls_after left r =
        (kept_after answer r.last left r.after).1 ∙ ap (failures_after answer) (PulledWhile-failed from IsOpen held source r.last r.pieces r.needed)

    less_work : (heard : List ℕ) (pieces : List (List ℕ)) (answer : Result (Option V) FrameFault) (held_after : List ℕ) → Says items heard pieces answer held_after
        → IfOk answer (λ o. OnSome o (length held_after < length heard))
    less_work heard pieces (Ok (Some body)) held_after s =
        omega (arith, ap length s.header.text, length-append (header_text s.lines) (items body ++ held_after), length-append (items body) held_after, length-append (ended_lines s.lines) (13 ∷ 10 ∷ []))
    less_work heard pieces (Ok None) held_after s = tt
    less_work heard pieces (Err fault) held_after s = tt

    falls : (answer : Result (Option V) FrameFault) (a b c d : ℕ) → (a < b → c < d) → IfOk answer (λ o. OnSome o (a < b)) → IfOk answer (λ o. OnSome o (c < d))
    falls (Ok (Some body)) a b c d f h = f h
    falls (Ok None) a b c d f h = tt
    falls (Err fault) a b c d f h = tt

    pub reads_progress : (held : List ℕ) (pulls : ℕ) (source : S) (answer : Result (Option V) FrameFault) (held_after : List ℕ) (pulls_after : ℕ) (left : S)
        → Reads from IsOpen (Says items) held pulls source answer held_after pulls_after left
        → IfOk answer (λ o. OnSome o (work_left pulls_after held_after < work_left pulls held))
    reads_progress held pulls source answer held_after pulls_after left r =
        falls answer (length held_after) (length (held ++ concat r.pieces)) (work_left pulls_after held_after) (work_left pulls held)
        (λ h. omega (arith, h, r.counted, r.few, length-append held (concat r.pieces), PulledWhile-short from IsOpen held source r.last r.pieces r.needed))
        (less_work (held ++ concat r.pieces) r.pieces answer held_after r.says)
