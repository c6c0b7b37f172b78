-- What a call does, by its chain of pulls and the answer after it.
use Rattle.std.proofs.Common.{◌≡◌, ◌<◌, length, drop, ℕ, ◌+◌, ◌^◌, List, [], ◌∷◌, ◌++◌, Option, Some, None, Result, Ok, Err, refl, sym, ap, ◌∙◌, subst, arith, length-append}
use Rattle.lam_frame.specs.Device.{SourceView}
use Rattle.lam_frame.specs.declared.fault.FrameFault.{FrameFault}
use Rattle.lam_frame.specs.declared.fault.FrameFault.TheVariants.{NoLength, BadLength, TooLong, BadHeader, Truncated, Device, Memory, TooManyTurns, Spent}
use Rattle.lam_frame.specs.Frame.{HasFault, IsOpen}
use Rattle.lam_frame.specs.Next.{Reads, After, IsCutOff}
use Rattle.lam_frame.specs.inner.Steps.{IsByteFault, Moved, PulledPiece, PullsMore, SaysBody, SaysHeader, StartsBody, end_after}
use Rattle.lam_frame.proofs.Pulls.{Ended, Pulling, not_ended, pulling_end, stopped_none}

module _ {S V : Type 0} (from : SourceView S) where
  pub answered : (P : List ℕ → Type 0) (Said : List ℕ → List (List ℕ) → Result V FrameFault → List ℕ → Type 0) (held : List ℕ) (pulls : ℕ) (source : S) (heard : List ℕ) (count : ℕ) (last : S)
      (answer : Result V FrameFault) (held_after : List ℕ) (left : S) → (w : Pulling from P held pulls source heard count last) → After from last answer left
      → Said heard w.pieces answer held_after → (answer ≡ Err TooManyTurns → count ≡ 2 ^ 48) → (answer ≡ Err Device → count < 2 ^ 48)
      → Reads from P Said held pulls source answer held_after count left
  answered P Said held pulls source heard count last answer held_after left w after says limit room = record {
    pieces = w.pieces;
    last = last;
    needed = w.needed;
    after = after;
    says = subst (λ (h : List ℕ). Said h w.pieces answer held_after) w.heard_is says;
    stopped = stopped_none w.pieces w.some;
    onward = λ cut e. not_ended w.pieces w.some e;
    counted = w.counted;
    few = w.few;
    room = room;
    limit = limit;
  }

  pub answered_end : (P : List ℕ → Type 0) (Said : List ℕ → List (List ℕ) → Result V FrameFault → List ℕ → Type 0) (held : List ℕ) (pulls : ℕ) (source : S) (heard : List ℕ) (count : ℕ) (last : S)
      (answer : Result V FrameFault) (held_after : List ℕ) (left : S) → (w : Ended from P held pulls source heard count last) → After from last answer left
      → Said heard w.pieces answer held_after → (IsCutOff answer → ⊥) → (answer ≡ Err TooManyTurns → count ≡ 2 ^ 48) → (answer ≡ Err Device → count < 2 ^ 48)
      → Reads from P Said held pulls source answer held_after count left
  answered_end P Said held pulls source heard count last answer held_after left w after says uncut limit room = record {
    pieces = w.pieces;
    last = last;
    needed = w.needed;
    after = after;
    says = subst (λ (h : List ℕ). Said h w.pieces answer held_after) w.heard_is says;
    stopped = w.stopped;
    onward = λ cut e. uncut cut;
    counted = w.counted;
    few = w.few;
    room = room;
    limit = limit;
  }

pub after_byte_fault : {S : Type 0} (V : Type 0) (from : SourceView S) (fault : FrameFault) (last left : S) → IsByteFault fault → last ≡ left → After {V = V} from last (Err fault) left
after_byte_fault V from NoLength last left b e = e
after_byte_fault V from BadLength last left b e = e
after_byte_fault V from TooLong last left b e = e
after_byte_fault V from BadHeader last left b e = e
after_byte_fault V from Truncated last left b e = absurd b
after_byte_fault V from Device last left b e = absurd b
after_byte_fault V from Memory last left b e = absurd b
after_byte_fault V from TooManyTurns last left b e = absurd b
after_byte_fault V from Spent last left b e = absurd b

-- a fault of the bytes is none of the others
no_other : {V : Type 0} (fault other : FrameFault) → IsByteFault fault → (IsByteFault other → ⊥) → (let failure : Result V FrameFault = Err fault in failure ≡ Err other) → ⊥
no_other fault other b none e = let same : fault ≡ other = cc e in none (subst IsByteFault same b)

says_byte_fault : (heard : List ℕ) (pieces : List (List ℕ)) (fault : FrameFault) (held : List ℕ) → HasFault heard fault × IsByteFault fault → SaysHeader heard pieces (Err fault) held
says_byte_fault heard pieces NoLength held h = h
says_byte_fault heard pieces BadLength held h = h
says_byte_fault heard pieces TooLong held h = h
says_byte_fault heard pieces BadHeader held h = h
says_byte_fault heard pieces Truncated held h = absurd h.1
says_byte_fault heard pieces Device held h = absurd h.1
says_byte_fault heard pieces Memory held h = absurd h.1
says_byte_fault heard pieces TooManyTurns held h = absurd h.1
says_byte_fault heard pieces Spent held h = absurd h.1

pub moved_open : (body held : List ℕ) (size : ℕ) (body_after held_after : List ℕ) → Moved body held size body_after held_after → (length body_after ≡ size → ⊥) → length (body ++ held) < size
moved_open body held size body_after held_after m short =
    let less : length body_after < size = omega (arith, m.within, short) in
    omega (arith, less, ap length m.same, length-append body_after held_after, ap length (m.rest less))

module _ {S : Type 0} (from : SourceView S) where
  pub header_faulty : (held : List ℕ) (pulls : ℕ) (source : S) (heard : List ℕ) (count : ℕ) (last : S) (fault : FrameFault) → Pulling from IsOpen held pulls source heard count last
      → HasFault heard fault × IsByteFault fault → Reads from IsOpen SaysHeader held pulls source (Err fault) heard count last
  header_faulty held pulls source heard count last fault w h =
      answered from IsOpen SaysHeader held pulls source heard count last (Err fault) heard last w
      (after_byte_fault (Option ℕ) from fault last last h.1 refl) (says_byte_fault heard w.pieces fault heard h) (λ e. absurd (no_other fault TooManyTurns h.1 (λ b. b) e)) (λ e. absurd (no_other fault Device h.1 (λ b. b) e))

  header_end_at : (held : List ℕ) (pulls : ℕ) (source : S) (rest : List ℕ) (count : ℕ) (last : S) → Ended from IsOpen held pulls source rest count last → IsOpen rest
      → Reads from IsOpen SaysHeader held pulls source (end_after rest) rest count last
  header_end_at held pulls source [] count last w o =
      answered_end from IsOpen SaysHeader held pulls source [] count last (Ok None) [] last w refl (refl, w.ended) (λ t. t) (λ t. absurd (cc t)) (λ t. absurd (cc t))
  header_end_at held pulls source (b ∷ rest) count last w o =
      answered_end from IsOpen SaysHeader held pulls source (b ∷ rest) count last (Err Truncated) (b ∷ rest) last w refl (o, ((λ t. absurd (cc t)), w.ended)) (λ t. t) (λ t. absurd (cc t)) (λ t. absurd (cc t))

  pub header_end : (held : List ℕ) (pulls : ℕ) (source : S) (heard : List ℕ) (count : ℕ) (middle : S) (rest : List ℕ) (n : ℕ) (count_after : ℕ) (last : S) (answer : Result (Option ℕ) FrameFault)
      → Pulling from IsOpen held pulls source heard count middle → IsOpen heard → n ≡ 0 → PulledPiece from heard middle n rest last × ((count_after ≡ count + 1) × (count < 2 ^ 48))
      → answer ≡ end_after rest → Reads from IsOpen SaysHeader held pulls source answer rest count_after last
  header_end held pulls source heard count middle rest n count_after last answer w still zero p e =
      let more = pulling_end from IsOpen held pulls source heard count middle [] heard rest n last w still refl p.1.1 zero p.0 in
      subst (λ (a : Result (Option ℕ) FrameFault). Reads from IsOpen SaysHeader held pulls source a rest count_after last) (sym e)
      (subst (λ (k : ℕ). Reads from IsOpen SaysHeader held pulls source (end_after rest) rest k last) (sym p.1.0)
      (header_end_at held pulls source rest (count + 1) last more.0 (subst IsOpen (sym more.1) still)))

  pub body_end : {V : Type 0} (items : V → List ℕ) (size : ℕ) (held : List ℕ) (pulls : ℕ) (source : S) (heard : List ℕ) (count : ℕ) (middle : S) (front rest rest_after : List ℕ) (n count_after : ℕ) (last : S)
      → Pulling from (λ (h : List ℕ). length h < size) held pulls source heard count middle → length heard < size → heard ≡ front ++ rest → n ≡ 0
      → PulledPiece from rest middle n rest_after last × ((count_after ≡ count + 1) × (count < 2 ^ 48))
      → Reads from (λ (h : List ℕ). length h < size) (SaysBody items size) held pulls source (Err Truncated) rest_after count_after last
  body_end items size held pulls source heard count middle front rest rest_after n count_after last w still split zero p =
      let more = pulling_end from (λ (h : List ℕ). length h < size) held pulls source heard count middle front rest rest_after n last w still split p.1.1 zero p.0 in
      let same : front ++ rest_after ≡ heard = ap (λ (l : List ℕ). front ++ l) more.1 ∙ sym split in
      subst (λ (k : ℕ). Reads from (λ (h : List ℕ). length h < size) (SaysBody items size) held pulls source (Err Truncated) rest_after k last) (sym p.1.0)
      (answered_end from (λ (h : List ℕ). length h < size) (SaysBody items size) held pulls source (front ++ rest_after) (count + 1) last (Err Truncated) rest_after last more.0 refl
      (subst (λ (h : List ℕ). length h < size) (sym same) still, more.0.ended) (λ t. t) (λ t. absurd (cc t)) (λ t. absurd (cc t)))

  -- the header part is whole
  pub header_whole : (held : List ℕ) (pulls : ℕ) (source : S) (heard : List ℕ) (count : ℕ) (last : S) (len size : ℕ) → Pulling from IsOpen held pulls source heard count last
      → StartsBody heard len size → Reads from IsOpen SaysHeader held pulls source (Ok (Some size)) (drop len heard) count last
  header_whole held pulls source heard count last len size w h =
      answered from IsOpen SaysHeader held pulls source heard count last (Ok (Some size)) (drop len heard) last w refl
      (record { lines = h.lines; header = h.header; says = h.says }, w.some) (λ t. absurd (cc t)) (λ t. absurd (cc t))

  -- the pull failed, or was one too many
  pub header_cut : (held : List ℕ) (pulls : ℕ) (source : S) (heard : List ℕ) (count : ℕ) (middle : S) (fault : FrameFault) (rest : List ℕ) (count_after : ℕ) (left : S)
      → Pulling from IsOpen held pulls source heard count middle → IsOpen heard → PullsMore from heard count middle (Err fault) rest count_after left
      → Reads from IsOpen SaysHeader held pulls source (Err fault) rest count_after left
  header_cut held pulls source heard count middle Device rest count_after left w still p =
      subst (λ (k : ℕ). Reads from IsOpen SaysHeader held pulls source (Err Device) rest k left) (sym p.1.0)
      (answered from IsOpen SaysHeader held pulls source heard count middle (Err Device) rest left w p.0 still (λ t. absurd (cc t)) (λ t. p.1.1))
  header_cut held pulls source heard count middle TooManyTurns rest count_after left w still p =
      subst (λ (k : ℕ). Reads from IsOpen SaysHeader held pulls source (Err TooManyTurns) rest k left) (sym p.1.0)
      (answered from IsOpen SaysHeader held pulls source heard count middle (Err TooManyTurns) rest left w p.0 still (λ t. p.1.1) (λ t. absurd (cc t)))
  header_cut held pulls source heard count middle NoLength rest count_after left w still p = absurd p
  header_cut held pulls source heard count middle BadLength rest count_after left w still p = absurd p
  header_cut held pulls source heard count middle TooLong rest count_after left w still p = absurd p
  header_cut held pulls source heard count middle BadHeader rest count_after left w still p = absurd p
  header_cut held pulls source heard count middle Truncated rest count_after left w still p = absurd p
  header_cut held pulls source heard count middle Memory rest count_after left w still p = absurd p
  header_cut held pulls source heard count middle Spent rest count_after left w still p = absurd p

  pub body_cut : {V : Type 0} (items : V → List ℕ) (size : ℕ) (held : List ℕ) (pulls : ℕ) (source : S) (heard : List ℕ) (count : ℕ) (middle : S) (fault : FrameFault) (between rest : List ℕ) (count_after : ℕ) (left : S)
      → Pulling from (λ (h : List ℕ). length h < size) held pulls source heard count middle → length heard < size → PullsMore from between count middle (Err fault) rest count_after left
      → Reads from (λ (h : List ℕ). length h < size) (SaysBody items size) held pulls source (Err fault) rest count_after left
  body_cut items size held pulls source heard count middle Device between rest count_after left w still p =
      subst (λ (k : ℕ). Reads from (λ (h : List ℕ). length h < size) (SaysBody items size) held pulls source (Err Device) rest k left) (sym p.1.0)
      (answered from (λ (h : List ℕ). length h < size) (SaysBody items size) held pulls source heard count middle (Err Device) rest left w p.0 still (λ t. absurd (cc t)) (λ t. p.1.1))
  body_cut items size held pulls source heard count middle TooManyTurns between rest count_after left w still p =
      subst (λ (k : ℕ). Reads from (λ (h : List ℕ). length h < size) (SaysBody items size) held pulls source (Err TooManyTurns) rest k left) (sym p.1.0)
      (answered from (λ (h : List ℕ). length h < size) (SaysBody items size) held pulls source heard count middle (Err TooManyTurns) rest left w p.0 still (λ t. p.1.1) (λ t. absurd (cc t)))
  body_cut items size held pulls source heard count middle NoLength between rest count_after left w still p = absurd p
  body_cut items size held pulls source heard count middle BadLength between rest count_after left w still p = absurd p
  body_cut items size held pulls source heard count middle TooLong between rest count_after left w still p = absurd p
  body_cut items size held pulls source heard count middle BadHeader between rest count_after left w still p = absurd p
  body_cut items size held pulls source heard count middle Truncated between rest count_after left w still p = absurd p
  body_cut items size held pulls source heard count middle Memory between rest count_after left w still p = absurd p
  body_cut items size held pulls source heard count middle Spent between rest count_after left w still p = absurd p

  -- the body is whole, or found no room
  pub body_whole : {V : Type 0} (items : V → List ℕ) (size : ℕ) (held : List ℕ) (pulls : ℕ) (source : S) (heard : List ℕ) (count : ℕ) (last : S) (body : V) (rest : List ℕ)
      → Pulling from (λ (h : List ℕ). length h < size) held pulls source heard count last → items body ++ rest ≡ heard → length (items body) ≡ size
      → Reads from (λ (h : List ℕ). length h < size) (SaysBody items size) held pulls source (Ok body) rest count last
  body_whole items size held pulls source heard count last body rest w same long =
      answered from (λ (h : List ℕ). length h < size) (SaysBody items size) held pulls source heard count last (Ok body) rest last w refl (sym same, long) (λ t. absurd (cc t)) (λ t. absurd (cc t))

  pub body_without_room : {V : Type 0} (items : V → List ℕ) (size : ℕ) (held : List ℕ) (pulls : ℕ) (source : S) (heard : List ℕ) (count : ℕ) (last : S) (rest : List ℕ)
      → Pulling from (λ (h : List ℕ). length h < size) held pulls source heard count last
      → Reads from (λ (h : List ℕ). length h < size) (SaysBody items size) held pulls source (Err Memory) rest count last
  body_without_room items size held pulls source heard count last rest w =
      answered from (λ (h : List ℕ). length h < size) (SaysBody items size) held pulls source heard count last (Err Memory) rest last w refl tt (λ t. absurd (cc t)) (λ t. absurd (cc t))
