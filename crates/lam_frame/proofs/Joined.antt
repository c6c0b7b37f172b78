-- A header part and then a body, each read by a chain of pulls, are one frame read by one chain.
use Rattle.std.proofs.Common.{◌≡◌, ◌≢◌, ◌<◌, length, ℕ, List, [], ◌∷◌, ◌++◌, Option, Some, Result, Ok, Err, refl, sym, ap, ◌∙◌, subst, arith, append_assoc, length-append}
use Rattle.std.specs.List.{concat}
use Rattle.std.proofs.lemmas.List.Folds.{concat-append}
use Rattle.lam_frame.specs.Device.{SourceView}
use Rattle.lam_frame.specs.declared.fault.FrameFault.{FrameFault}
use Rattle.lam_frame.specs.declared.fault.FrameFault.TheVariants.{NoLength, BadLength, TooLong, BadHeader, Truncated, Device, Memory, TooManyTurns, Spent}
use Rattle.lam_frame.specs.Frame.{IsOpen}
use Rattle.lam_frame.specs.Frame.IsOpen.{InBody}
use Rattle.lam_frame.specs.Header.{ended_lines, header_text}
use Rattle.lam_frame.specs.Next.{Reads, After, PulledWhile, Says, IsCutOff}
use Rattle.lam_frame.specs.inner.Steps.{HeaderIsRead, SaysBody, SaysHeader}
use Rattle.lam_frame.proofs.Pulls.{PulledWhile-append, PulledWhile-front, EndsEmpty-behind, not_ended_behind, stopped_behind}

-- the header part that is read, and then not all of its body: the bytes are open
body_open : (heard held part : List ℕ) (size : ℕ) (h : HeaderIsRead heard size held) → length part < size → IsOpen (header_text h.lines ++ part)
body_open heard held part size h less =
    InBody h.lines part size (record { are_lines = h.header.are_lines; text = refl; fits = h.header.fits }) h.says less

module _ {V : Type 0} (items : V → List ℕ) where
  -- the answer of a call, from that of reading the body
  abbrev pub with_body : Result V FrameFault → Result (Option V) FrameFault
  with_body (Ok body) = Ok (Some body)
  with_body (Err fault) = Err fault

  -- what a fault of reading the header part says, it says as the answer of a call
  says_header : (heard : List ℕ) (pieces : List (List ℕ)) (fault : FrameFault) (held : List ℕ) → SaysHeader heard pieces (Err fault) held → Says items heard pieces (Err fault) held
  says_header heard pieces NoLength held h = h.0
  says_header heard pieces BadLength held h = h.0
  says_header heard pieces TooLong held h = h.0
  says_header heard pieces BadHeader held h = h.0
  says_header heard pieces Truncated held h = h
  says_header heard pieces Device held h = h
  says_header heard pieces Memory held h = tt
  says_header heard pieces TooManyTurns held h = h
  says_header heard pieces Spent held h = absurd h.1

  says_body : (first heard held part left : List ℕ) (size : ℕ) (front back : List (List ℕ)) (answer : Result V FrameFault) → (h : HeaderIsRead first size held) → heard ≡ header_text h.lines ++ part
      → (heard ≢ []) → SaysBody items size part back answer left → Says items heard (front ++ back) (with_body answer) left
  says_body first heard held part left size front back (Ok body) h e some s = record {
    lines = h.lines;
    header = record { are_lines = h.header.are_lines; text = e ∙ ap (λ (l : List ℕ). header_text h.lines ++ l) s.0; fits = h.header.fits };
    size = h.says ∙ ap (λ (n : ℕ). Ok n) (sym s.1);
  }
  says_body first heard held part left size front back (Err Truncated) h e some s =
      (subst IsOpen (sym e) (body_open first held part size h s.0), (some, EndsEmpty-behind front back s.1))
  says_body first heard held part left size front back (Err Device) h e some s = subst IsOpen (sym e) (body_open first held part size h s)
  says_body first heard held part left size front back (Err TooManyTurns) h e some s = subst IsOpen (sym e) (body_open first held part size h s)
  says_body first heard held part left size front back (Err Memory) h e some s = tt
  says_body first heard held part left size front back (Err NoLength) h e some s = absurd s
  says_body first heard held part left size front back (Err BadLength) h e some s = absurd s
  says_body first heard held part left size front back (Err TooLong) h e some s = absurd s
  says_body first heard held part left size front back (Err BadHeader) h e some s = absurd s
  says_body first heard held part left size front back (Err Spent) h e some s = absurd s

  module _ {S : Type 0} (from : SourceView S) where
    after_header : (fault : FrameFault) (last left : S) → After {V = Option ℕ} from last (Err fault) left → After {V = Option V} from last (Err fault) left
    after_header NoLength last left a = a
    after_header BadLength last left a = a
    after_header TooLong last left a = a
    after_header BadHeader last left a = a
    after_header Truncated last left a = a
    after_header Device last left a = a
    after_header Memory last left a = a
    after_header TooManyTurns last left a = a
    after_header Spent last left a = a

    after_body : (answer : Result V FrameFault) (last left : S) → After from last answer left → After from last (with_body answer) left
    after_body (Ok body) last left a = a
    after_body (Err NoLength) last left a = a
    after_body (Err BadLength) last left a = a
    after_body (Err TooLong) last left a = a
    after_body (Err BadHeader) last left a = a
    after_body (Err Truncated) last left a = a
    after_body (Err Device) last left a = a
    after_body (Err Memory) last left a = a
    after_body (Err TooManyTurns) last left a = a
    after_body (Err Spent) last left a = a

    fault_body : (answer : Result V FrameFault) (other : FrameFault) → with_body answer ≡ Err other → answer ≡ Err other
    fault_body (Ok body) other e = absurd (cc e)
    fault_body (Err fault) other e = let same : fault ≡ other = cc e in ap (λ (f : FrameFault). Err f) same

    cut_header : (fault : FrameFault) → IsCutOff {V = Option V} (Err fault) → IsCutOff {V = Option ℕ} (Err fault)
    cut_header Device c = tt
    cut_header TooManyTurns c = tt
    cut_header NoLength c = c
    cut_header BadLength c = c
    cut_header TooLong c = c
    cut_header BadHeader c = c
    cut_header Truncated c = c
    cut_header Memory c = c
    cut_header Spent c = c

    cut_body : (answer : Result V FrameFault) → IsCutOff (with_body answer) → IsCutOff answer
    cut_body (Ok body) c = c
    cut_body (Err Device) c = tt
    cut_body (Err TooManyTurns) c = tt
    cut_body (Err NoLength) c = c
    cut_body (Err BadLength) c = c
    cut_body (Err TooLong) c = c
    cut_body (Err BadHeader) c = c
    cut_body (Err Truncated) c = c
    cut_body (Err Memory) c = c
    cut_body (Err Spent) c = c

    pub no_header : (held : List ℕ) (pulls : ℕ) (source : S) (fault : FrameFault) (held_after : List ℕ) (pulls_after : ℕ) (left : S)
        → Reads from IsOpen SaysHeader held pulls source (Err fault) held_after pulls_after left
        → Reads from IsOpen (Says items) held pulls source (Err fault) held_after pulls_after left
    no_header held pulls source fault held_after pulls_after left r = record {
      pieces = r.pieces;
      last = r.last;
      needed = r.needed;
      stopped = r.stopped;
      onward = λ cut e. r.onward (cut_header fault cut) e;
      after = after_header fault r.last left r.after;
      says = says_header (held ++ concat r.pieces) r.pieces fault held_after r.says;
      counted = r.counted;
      few = r.few;
      room = λ e. let same : fault ≡ Device = cc e in r.room (ap (λ (f : FrameFault). Err f) same);
      limit = λ e. let same : fault ≡ TooManyTurns = cc e in r.limit (ap (λ (f : FrameFault). Err f) same);
    }

    pub header_and_body : (held : List ℕ) (pulls : ℕ) (source : S) (size : ℕ) (held_between : List ℕ) (pulls_between : ℕ) (between : S) (answer : Result V FrameFault) (held_after : List ℕ) (pulls_after : ℕ) (left : S)
        → Reads from IsOpen SaysHeader held pulls source (Ok (Some size)) held_between pulls_between between
        → Reads from (λ (heard : List ℕ). length heard < size) (SaysBody items size) held_between pulls_between between answer held_after pulls_after left
        → Reads from IsOpen (Says items) held pulls source (with_body answer) held_after pulls_after left
    header_and_body held pulls source size held_between pulls_between between answer held_after pulls_after left h b =
        let text = header_text h.says.0.lines in
        let heard_is : held ++ concat h.pieces ≡ text ++ held_between = h.says.0.header.text in
        let part = held_between ++ concat b.pieces in
        let all : held ++ concat (h.pieces ++ b.pieces) ≡ text ++ part =
        ap (λ (l : List ℕ). held ++ l) (concat-append h.pieces b.pieces) ∙ sym (append_assoc held (concat h.pieces) (concat b.pieces)) ∙ ap (λ (l : List ℕ). l ++ concat b.pieces) heard_is
        ∙ append_assoc text held_between (concat b.pieces) in
        let behind : PulledWhile from IsOpen (text ++ held_between) between b.pieces b.last =
        PulledWhile-front from (λ (heard : List ℕ). length heard < size) IsOpen text held_between between b.last b.pieces
        (λ heard less. body_open (held ++ concat h.pieces) held_between heard size h.says.0 less) b.needed in
        record {
          pieces = h.pieces ++ b.pieces;
          last = b.last;
          needed = PulledWhile-append from IsOpen held source between b.last h.pieces b.pieces
              (subst (λ (s : S). PulledWhile from IsOpen held source h.pieces s) h.after h.needed)
              (subst (λ (l : List ℕ). PulledWhile from IsOpen l between b.pieces b.last) (sym heard_is) behind);
          stopped = stopped_behind h.pieces b.pieces h.says.1 b.stopped;
          onward = λ cut e. not_ended_behind h.pieces b.pieces h.says.1 (b.onward (cut_body answer cut)) e;
          after = after_body answer b.last left b.after;
          says = says_body (held ++ concat h.pieces) (held ++ concat (h.pieces ++ b.pieces)) held_between part held_after size h.pieces b.pieces answer h.says.0 all
              (λ none. let sizes = ap length (sym none ∙ all) in absurd (omega (arith, sizes, length-append text part, length-append (ended_lines h.says.0.lines) (13 ∷ 10 ∷ [])))) b.says;
          counted = omega (arith, h.counted, b.counted, length-append h.pieces b.pieces);
          few = b.few;
          room = λ e. b.room (fault_body answer Device e);
          limit = λ e. b.limit (fault_body answer TooManyTurns e);
        }
