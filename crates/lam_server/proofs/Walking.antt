-- A run, as far as it has come: turn after turn, and then how it ends.
use Rattle.std.proofs.Common.{◌≡◌, ◌≢◌, ◌<◌, ◌≤◌, ℕ, ◌+◌, ◌^◌, List, [], ◌∷◌, ◌++◌, length, Option, Some, None, Result, Ok, Err, refl, sym, ap, ◌∙◌, subst, arith, append_assoc, append-nil, length-append}
use Rattle.std.specs.List.{concat}
use Rattle.std.proofs.KnownBytes.{Appends-trans}
use Rattle.std.proofs.lemmas.List.Folds.{concat-append}
use Rattle.lam_frame.specs.Device.{SourceView, SinkView}
use Rattle.lam_frame.specs.Frame.{HasFrame, IsOpen, IsRest}
use Rattle.lam_frame.specs.Next.{OnlyLastEmpty, PulledWhile}
use Rattle.lam_frame.specs.inner.Steps.{NoneEmpty}
use Rattle.lam_frame.proofs.Pulls.{NoneEmpty-append, PulledWhile-append, PulledWhile-failed, PulledWhile-front, EndsEmpty-behind, not_ended_behind, stopped_behind}
use Rattle.lam_frame.proofs.Readings.{open_no_frame}
use Rattle.lam_frame.proofs.Told.{HasFault-more}
use Rattle.lam_frame.specs.declared.fault.FrameFault.{FrameFault}
use Rattle.lam_frame.specs.declared.fault.FrameFault.TheVariants.{NoLength, BadLength, TooLong, BadHeader, Truncated, Device as DeviceFrame, Memory as MemoryFrame, TooManyTurns, Spent}
use Rattle.lam_session.specs.State.{State, ended_status}
use Rattle.lam_server.specs.Device.{Sends}
use Rattle.lam_server.specs.Output.{Takes, Turns, IsLive, Outcome, ComesTo, IsFront, IsAnsweredIn, frames_of}
use Rattle.lam_server.specs.Output.EndsInFrames.{behind_message, behind_value}
use Rattle.lam_server.specs.Output.Turns.{no_turn, next_turn}
use Rattle.lam_server.specs.Run.{Runs, RunSays, MayFollow, IsSettled, AwaitsMore}
use Rattle.lam_server.specs.Run.DeviceEnds.{at_pull, at_limit, at_sink}
use Rattle.lam_server.specs.inner.Turn.{WantsMore, IsBroken, TakesTurn, Ends, DeviceStops, MemoryStops}
use Rattle.lam_server.specs.inner.Turn.Ends.{by_message as turn_by_message, by_silence as turn_by_silence}
use Rattle.lam_server.specs.inner.Turn.DeviceStops.{at_pull as turn_at_pull, at_limit as turn_at_limit, at_sink as turn_at_sink}
use Rattle.lam_server.specs.inner.Turn.MemoryStops.{before_sending, while_sending}
use Rattle.lam_server.specs.inner.Waiting.{Waiting}
use Rattle.lam_server.specs.declared.faults.RunFault.{RunFault}
use Rattle.lam_server.specs.declared.faults.RunFault.TheVariants.{Header, Device, Memory}
use Rattle.lam_server.specs.declared.server.Turn.TheVariants.{More, End}
use Rattle.lam_server.proofs.Growing.{Turns-more, part_front, whole_front}
use Rattle.lam_server.proofs.Sending.{Sends-nothing, Sends-both, frames-append}

-- ---- pulls

-- what is answered stays answered, whatever is sent after it
answered_more : (start : State) (out more read : List ℕ) → IsAnsweredIn start out read → IsAnsweredIn start (out ++ more) read
answered_more start out more read a = record {
  done = a.done;
  more = a.more ++ more;
  awaiting = a.awaiting;
  begins = ap (λ (l : List ℕ). l ++ more) a.begins ∙ append_assoc a.done a.more more;
}

-- pulls that a turn needs are pulls that the run needs: what was complete before is answered
PulledWhile-run : {S : Type 0} (from : SourceView S) (start s : State) (read out more held : List ℕ) (source last : S) (pieces : List (List ℕ))
    → Turns start read out s held → IsLive s → PulledWhile from IsOpen held source pieces last → PulledWhile from (IsAnsweredIn start (out ++ more)) read source pieces last
PulledWhile-run from start s read out more held source last [] turns live p = p
PulledWhile-run from start s read out more held source last (piece ∷ pieces) turns live p = (
  record { done = out; more = more; awaiting = record { state = s; left = held; turns = turns; live = live; undecided = p.0 }; begins = refl },
  p.1,
  (p.2.0, p.2.1, PulledWhile-run from start s (read ++ piece) out more (held ++ piece) p.2.0 last pieces (Turns-more start read piece out s held turns) live p.2.2),
)

-- if a frame was found, no piece was empty: before the last one the bytes were open
found_pieces : {S : Type 0} (from : SourceView S) (held body left : List ℕ) (source last : S) (pieces : List (List ℕ))
    → PulledWhile from IsOpen held source pieces last → OnlyLastEmpty pieces → HasFrame (held ++ concat pieces) body left → NoneEmpty pieces
found_pieces from held body left source last [] p stopped frame = tt
found_pieces from held body left source last ([] ∷ []) p stopped frame = absurd (open_no_frame held body left p.0 (subst (λ (l : List ℕ). HasFrame l body left) (append-nil held) frame))
found_pieces from held body left source last ((b ∷ bs) ∷ []) p stopped frame = (omega arith, tt)
found_pieces from held body left source last (piece ∷ next ∷ pieces) p stopped frame = (
  stopped.0,
  found_pieces from (held ++ piece) body left p.2.0 last (next ∷ pieces) p.2.2 stopped.1
      (subst (λ (l : List ℕ). HasFrame l body left) (sym (append_assoc held piece (concat (next ∷ pieces)))) frame),
)

-- ---- what is settled

settled_status : (start s : State) (pieces : List (List ℕ)) (out left : List ℕ) (status : ℕ) → Turns start (concat pieces) out s left → ended_status s.life ≡ Some status → IsSettled start pieces out (Ok status)
settled_status start s pieces out left status turns over = λ more may. record {
  state = s;
  left = left ++ more;
  turns = Turns-more start (concat pieces) more out s left turns;
  comes_to = subst (λ (o : Option ℕ). ComesTo o (left ++ more) (Ok status)) (sym over) refl;
}

settled_rest : (start s : State) (pieces : List (List ℕ)) (out left : List ℕ) (outcome : Outcome) → Turns start (concat pieces) out s left → IsLive s
    → ((more : List ℕ) → MayFollow pieces more → ComesTo None (left ++ more) outcome) → IsSettled start pieces out outcome
settled_rest start s pieces out left outcome turns live comes = λ more may. record {
  state = s;
  left = left ++ more;
  turns = Turns-more start (concat pieces) more out s left turns;
  comes_to = subst (λ (o : Option ℕ). ComesTo o (left ++ more) outcome) (sym live) (comes more may);
}

silent_rest : (left more : List ℕ) (status : ℕ) → left ≡ [] → more ≡ [] → status ≡ 1 → ComesTo None (left ++ more) (Ok status)
silent_rest left more status nothing none one = (ap (λ (l : List ℕ). l ++ more) nothing ∙ none, one)

cut_rest : (left more : List ℕ) → IsOpen left → left ≢ [] → more ≡ [] → IsRest (left ++ more) (Some Truncated)
cut_rest left more undecided some none =
    let same : left ≡ left ++ more = sym (append-nil left) ∙ ap (λ (l : List ℕ). left ++ l) (sym none) in
    (subst IsOpen same undecided, subst (λ (l : List ℕ). l ≢ []) same some)

broken_rest : (left more : List ℕ) (front back : List (List ℕ)) (fault : FrameFault) → IsBroken left back fault → MayFollow (front ++ back) more → ComesTo None (left ++ more) (Err fault)
broken_rest left more front back NoLength b may = HasFault-more left more NoLength b
broken_rest left more front back BadLength b may = HasFault-more left more BadLength b
broken_rest left more front back TooLong b may = HasFault-more left more TooLong b
broken_rest left more front back BadHeader b may = HasFault-more left more BadHeader b
broken_rest left more front back Truncated b may = cut_rest left more b.0 b.1.0 (may (EndsEmpty-behind front back b.1.1))
broken_rest left more front back DeviceFrame b may = absurd b
broken_rest left more front back MemoryFrame b may = absurd b
broken_rest left more front back TooManyTurns b may = absurd b
broken_rest left more front back Spent b may = absurd b

-- ---- turn after turn

module _ {S W : Type 0} (from : SourceView S) (to : SinkView W) where
  -- some turns, each to a server that goes on
  pub record Walked (start : State) (source : S) (sink : W) (server : Waiting) (source_now : S) (sink_now : W) : Type 0 where
    pub pieces : List (List ℕ)
    pub out : List ℕ
    pub needed : PulledWhile from (IsAnsweredIn start out) [] source pieces source_now
    pub some : NoneEmpty pieces
    pub turns : Turns start (concat pieces) out server.state server.held
    pub live : IsLive server.state
    pub counted : server.pulls ≡ length pieces
    pub sends : Sends to sink out sink_now
    pub unfailed : from.failed source_now ≡ from.failed source

  pub no_walk : (start : State) (source : S) (sink : W) → IsLive start → Walked start source sink (record { held = []; pulls = 0; state = start }) source sink
  no_walk start source sink live = record {
    pieces = [];
    out = [];
    needed = refl;
    some = tt;
    turns = no_turn;
    live = live;
    counted = refl;
    sends = Sends-nothing to sink;
    unfailed = refl;
  }

  -- ---- one turn more

  module _ (start : State) (source : S) (sink : W) (server : Waiting) (source_now : S) (sink_now : W) (w : Walked start source sink server source_now sink_now) where
    heard_turns : (pieces : List (List ℕ)) → Turns start (concat (w.pieces ++ pieces)) w.out server.state (server.held ++ concat pieces)
    heard_turns pieces =
        subst (λ (l : List ℕ). Turns start l w.out server.state (server.held ++ concat pieces)) (sym (concat-append w.pieces pieces))
        (Turns-more start (concat w.pieces) (concat pieces) w.out server.state server.held w.turns)

    heard_needed : (pieces : List (List ℕ)) (last : S) (more : List ℕ) → PulledWhile from IsOpen server.held source_now pieces last
        → PulledWhile from (IsAnsweredIn start (w.out ++ more)) [] source (w.pieces ++ pieces) last
    heard_needed pieces last more p =
        PulledWhile-append from (IsAnsweredIn start (w.out ++ more)) [] source source_now last w.pieces pieces
        (PulledWhile-front from (IsAnsweredIn start w.out) (IsAnsweredIn start (w.out ++ more)) [] [] source source_now w.pieces (answered_more start w.out more) w.needed)
        (PulledWhile-run from start server.state (concat w.pieces) w.out more server.held source_now last pieces w.turns w.live p)

    heard_count : (pieces : List (List ℕ)) (n : ℕ) → n ≡ server.pulls + length pieces → n ≡ length (w.pieces ++ pieces)
    heard_count pieces n e = omega (arith, e, w.counted, length-append w.pieces pieces)

    heard_few : (pieces : List (List ℕ)) → server.pulls + length pieces ≤ 2 ^ 48 → length (w.pieces ++ pieces) ≤ 2 ^ 48
    heard_few pieces few = omega (arith, few, w.counted, length-append w.pieces pieces)

    heard_room : (pieces : List (List ℕ)) → server.pulls + length pieces < 2 ^ 48 → length (w.pieces ++ pieces) < 2 ^ 48
    heard_room pieces room = omega (arith, room, w.counted, length-append w.pieces pieces)

    -- the session goes on
    pub walk_on : (next : Waiting) (source_after : S) (sink_after : W) → TakesTurn from to server source_now sink_now (Ok (More next)) source_after sink_after
        → Walked start source sink next source_after sink_after
    walk_on next source_after sink_after t =
        let answers = t.says.0.answers in
        record {
          pieces = w.pieces ++ t.pieces;
          out = w.out ++ answers.out;
          needed = subst (λ (s : S). PulledWhile from (IsAnsweredIn start (w.out ++ answers.out)) [] source (w.pieces ++ t.pieces) s) t.says.1
              (heard_needed t.pieces t.last answers.out t.needed);
          some = NoneEmpty-append w.pieces t.pieces w.some
              (found_pieces from server.held answers.takes.body next.held source_now t.last t.pieces t.needed t.stopped answers.takes.frame);
          turns = next_turn (heard_turns t.pieces) w.live answers.takes;
          live = t.says.0.live;
          counted = heard_count t.pieces next.pulls t.says.0.counted;
          sends = Sends-both to sink sink_now sink_after w.out answers.out w.sends answers.sends;
          unfailed = ap from.failed (sym t.says.1) ∙ (PulledWhile-failed from IsOpen server.held source_now t.last t.pieces t.needed ∙ w.unfailed);
        }

    -- the run ends, with these bytes sent by its last turn
    ends : (pieces : List (List ℕ)) (last : S) (more : List ℕ) (answer : Result ℕ RunFault) (source_after : S) (sink_after : W) → PulledWhile from IsOpen server.held source_now pieces last
        → OnlyLastEmpty pieces → server.pulls + length pieces ≤ 2 ^ 48
        → RunSays from to start (w.pieces ++ pieces) last sink (w.out ++ more) answer source_after sink_after
        → Runs from to start source sink answer source_after sink_after
    ends pieces last more answer source_after sink_after needed stopped few says = record {
      pieces = w.pieces ++ pieces;
      last = last;
      out = w.out ++ more;
      needed = heard_needed pieces last more needed;
      stopped = stopped_behind w.pieces pieces w.some stopped;
      few = heard_few pieces few;
      says = says;
    }

    -- the sink is as it was
    still : (sink_after : W) → sink_now ≡ sink_after → Sends to sink w.out sink_after
    still sink_after same = subst (λ (s : W). Sends to sink w.out s) same w.sends

    -- its last turn sent nothing
    sends_nothing : (pieces : List (List ℕ)) (last : S) (answer : Result ℕ RunFault) (source_after : S) (sink_after : W)
        → RunSays from to start (w.pieces ++ pieces) last sink w.out answer source_after sink_after
        → (more : List ℕ) × RunSays from to start (w.pieces ++ pieces) last sink (w.out ++ more) answer source_after sink_after
    sends_nothing pieces last answer source_after sink_after says =
        ([], subst (λ (l : List ℕ). RunSays from to start (w.pieces ++ pieces) last sink l answer source_after sink_after) (sym (append-nil w.out)) says)

    says_status : (status : ℕ) (pieces : List (List ℕ)) (last source_after : S) (sink_after : W) → last ≡ source_after → Ends to server.state (server.held ++ concat pieces) pieces sink_now status sink_after
        → (more : List ℕ) × RunSays from to start (w.pieces ++ pieces) last sink (w.out ++ more) (Ok status) source_after sink_after
    says_status status pieces last source_after sink_after same (turn_by_message next left answers over) = (
      answers.out,
      (
        settled_status start next (w.pieces ++ pieces) (w.out ++ answers.out) left status (next_turn (heard_turns pieces) w.live answers.takes) over,
        (Sends-both to sink sink_now sink_after w.out answers.out w.sends answers.sends, same),
      ),
    )
    says_status status pieces last source_after sink_after same (turn_by_silence nothing end one unsent) = sends_nothing pieces last (Ok status) source_after sink_after (
      settled_rest start server.state (w.pieces ++ pieces) w.out (server.held ++ concat pieces) (Ok status) (heard_turns pieces) w.live
          (λ more may. silent_rest (server.held ++ concat pieces) more status nothing (may (EndsEmpty-behind w.pieces pieces end)) one),
      (still sink_after unsent, same),
    )

    pub walk_to_end : (status : ℕ) (source_after : S) (sink_after : W) → TakesTurn from to server source_now sink_now (Ok (End status)) source_after sink_after
        → Runs from to start source sink (Ok status) source_after sink_after
    walk_to_end status source_after sink_after t =
        let says = says_status status t.pieces t.last source_after sink_after t.says.1 t.says.0 in
        ends t.pieces t.last says.0 (Ok status) source_after sink_after t.needed t.stopped t.few says.1

    -- ---- faults

    front_of_part : (pieces : List (List ℕ)) (whole front rest left : List ℕ) (next : State) → Takes server.state (server.held ++ concat pieces) whole next left → whole ≡ front ++ rest
        → IsFront start (concat (w.pieces ++ pieces)) (w.out ++ front)
    front_of_part pieces whole front rest left next takes split =
        part_front start (concat (w.pieces ++ pieces)) w.out whole front rest (server.held ++ concat pieces) left server.state next (heard_turns pieces) w.live takes split

    awaits_more : (pieces : List (List ℕ)) → WantsMore (server.held ++ concat pieces) pieces → AwaitsMore start (w.pieces ++ pieces) w.out
    awaits_more pieces wants = (
      record { state = server.state; left = server.held ++ concat pieces; turns = heard_turns pieces; live = w.live; undecided = wants.0 },
      not_ended_behind w.pieces pieces w.some wants.1,
    )

    says_device : (pieces : List (List ℕ)) (last source_after : S) (sink_after : W) → DeviceStops from to server (server.held ++ concat pieces) pieces last sink_now source_after sink_after
        → (more : List ℕ) × RunSays from to start (w.pieces ++ pieces) last sink (w.out ++ more) (Err Device) source_after sink_after
    says_device pieces last source_after sink_after (turn_at_pull wants room failure unsent) =
        sends_nothing pieces last (Err Device) source_after sink_after
        (at_pull (awaits_more pieces wants) (heard_room pieces room) failure (still sink_after unsent))
    says_device pieces last source_after sink_after (turn_at_limit wants limit same unsent) =
        sends_nothing pieces last (Err Device) source_after sink_after
        (at_limit (awaits_more pieces wants) (sym (heard_count pieces (2 ^ 48) (sym limit))) same (still sink_after unsent))
    says_device pieces last source_after sink_after (turn_at_sink whole next left takes same failure) = (
      failure.front.front,
      at_sink (front_of_part pieces whole failure.front.front failure.front.rest left next takes failure.front.split)
          (record {
            done = w.out;
            state = server.state;
            left = server.held ++ concat pieces;
            turns = heard_turns pieces;
            live = w.live;
            answer = whole;
            next = next;
            after = left;
            takes = takes;
            front = failure.front.front;
            rest = failure.front.rest;
            split = failure.front.split;
            begins = refl;
          })
          (Appends-trans (to.taken sink) (to.taken sink_now) (to.taken sink_after) w.out failure.front.front w.sends.appended failure.front.appended)
          (failure.counted ∙ ap (λ (n : ℕ). n + 1) w.sends.unfailed) same,
    )

    says_memory : (pieces : List (List ℕ)) (last source_after : S) (sink_after : W) → last ≡ source_after → MemoryStops to server.state (server.held ++ concat pieces) sink_now sink_after
        → (more : List ℕ) × RunSays from to start (w.pieces ++ pieces) last sink (w.out ++ more) (Err Memory) source_after sink_after
    says_memory pieces last source_after sink_after same (before_sending unsent) =
        sends_nothing pieces last (Err Memory) source_after sink_after
        (record {
          front = whole_front start (concat (w.pieces ++ pieces)) w.out (server.held ++ concat pieces) server.state (heard_turns pieces);
          frames = behind_message (heard_turns pieces) w.live;
          sends = still sink_after unsent;
          same = same;
        })
    says_memory pieces last source_after sink_after same (while_sending whole next left takes stops) = (
      frames_of stops.done,
      record {
        front = front_of_part pieces whole (frames_of stops.done) (frames_of stops.others) left next takes
            (takes.frames ∙ ap frames_of stops.split ∙ frames-append stops.done stops.others);
        frames = behind_value (heard_turns pieces) w.live takes stops.done stops.others stops.split refl;
        sends = Sends-both to sink sink_now sink_after w.out (frames_of stops.done) w.sends stops.sends;
        same = same;
      },
    )

    pub walk_to_fault : (fault : RunFault) (source_after : S) (sink_after : W) → TakesTurn from to server source_now sink_now (Err fault) source_after sink_after
        → Runs from to start source sink (Err fault) source_after sink_after
    walk_to_fault (Header fault) source_after sink_after t =
        let says =
        sends_nothing t.pieces t.last (Err (Header fault)) source_after sink_after (
          settled_rest start server.state (w.pieces ++ t.pieces) w.out (server.held ++ concat t.pieces) (Err fault) (heard_turns t.pieces) w.live
              (λ more may. broken_rest (server.held ++ concat t.pieces) more w.pieces t.pieces fault t.says.0 may),
          (still sink_after t.says.1.1, t.says.1.0),
        ) in
        ends t.pieces t.last says.0 (Err (Header fault)) source_after sink_after t.needed t.stopped t.few says.1
    walk_to_fault Device source_after sink_after t =
        let says = says_device t.pieces t.last source_after sink_after t.says in
        ends t.pieces t.last says.0 (Err Device) source_after sink_after t.needed t.stopped t.few says.1
    walk_to_fault Memory source_after sink_after t =
        let says = says_memory t.pieces t.last source_after sink_after t.says.1 t.says.0 in
        ends t.pieces t.last says.0 (Err Memory) source_after sink_after t.needed t.stopped t.few says.1

  -- no server could be created
  pub no_run : (start : State) (source : S) (sink : W) → IsLive start → Runs from to start source sink (Err Memory) source sink
  no_run start source sink live = record {
    pieces = [];
    last = source;
    out = [];
    needed = refl;
    stopped = tt;
    few = omega arith;
    says = record { front = whole_front start [] [] [] start no_turn; frames = behind_message no_turn live; sends = Sends-nothing to sink; same = refl };
  }
