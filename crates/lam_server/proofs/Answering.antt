-- What a turn does, by the result of the reader and by what answering the message did.
use Rattle.std.proofs.Common.{◌≡◌, ◌<◌, ◌≤◌, ℕ, ◌^◌, List, ◌++◌, Option, Some, Result, Ok, Err, refl, sym, ◌∙◌, subst}
use Rattle.std.specs.List.{concat}
use Rattle.serde_json.specs.Data.{Data}
use Rattle.lam_frame.specs.Device.{SourceView, SinkView}
use Rattle.lam_frame.specs.Frame.{HasFrame, IsOpen}
use Rattle.lam_frame.specs.Next.{Reads, Says}
use Rattle.lam_frame.specs.declared.fault.FrameFault.{FrameFault}
use Rattle.lam_frame.specs.declared.fault.FrameFault.TheVariants.{NoLength, BadLength, TooLong, BadHeader, Truncated, Device, Memory, TooManyTurns, Spent}
use Rattle.lam_session.specs.State.{Snapshot, ended_status}
use Rattle.lam_rpc.specs.Kind.{Message, IsKindOf}
use Rattle.lam_session.specs.Step.{Answers}
use Rattle.lam_server.specs.inner.Answer.{AnswersBody, StepsBody, WritesValues}
use Rattle.lam_server.specs.inner.Answer.StopsAnswering.{before_sending as nothing_sent, while_sending as part_sent}
use Rattle.lam_server.specs.Output.{Takes, frames_of}
use Rattle.lam_server.specs.Program.{fault_of_run}
use Rattle.lam_server.specs.inner.Turn.{TakesTurn, TurnSays}
use Rattle.lam_server.specs.inner.Turn.Ends.{by_message}
use Rattle.lam_server.specs.inner.Turn.DeviceStops.{at_pull, at_limit, at_sink}
use Rattle.lam_server.specs.inner.Turn.MemoryStops.{before_sending, while_sending}
use Rattle.lam_server.specs.inner.Waiting.{Waiting}
use Rattle.lam_server.specs.declared.faults.RunFault.{RunFault}
use Rattle.lam_server.specs.declared.faults.RunFault.TheVariants.{Header, Device as DeviceRun, Memory as MemoryRun}
use Rattle.lam_server.specs.declared.server.Turn.{Turn}
use Rattle.lam_server.specs.declared.server.Turn.TheVariants.{End}

-- the session took the message, and its values were written or not
pub answers_body : {W : Type 0} (to : SinkView W) (old new : Snapshot) (body : List ℕ) (message : Message) (values : List Data) (sink sink_after : W) (answer : Result (Unit {0}) RunFault)
    → IsKindOf body message → Answers old message values new → WritesValues to values sink answer sink_after → AnswersBody to old body sink answer new sink_after
answers_body to old new body message values sink sink_after (Ok done) k a w = (values, record { message = message; kind = k; answers = a }, w)
answers_body to old new body message values sink sink_after (Err DeviceRun) k a w = (values, record { message = message; kind = k; answers = a }, w)
answers_body to old new body message values sink sink_after (Err MemoryRun) k a w = part_sent values (record { message = message; kind = k; answers = a }) w
answers_body to old new body message values sink sink_after (Err (Header fault)) k a w = absurd w

-- a server with these bytes held, these pulls made, and the session's state
abbrev pub waiting : List ℕ → ℕ → Snapshot → Waiting
waiting held pulls s = record { held = held; pulls = pulls; state = s.state }

abbrev takes_body : (old new : Snapshot) (heard body left : List ℕ) (values : List Data) → HasFrame heard body left → StepsBody old body values new → Takes old.state heard (frames_of values) new.state left
takes_body old new heard body left values f s = record {
  body = body;
  message = s.message;
  values = values;
  frame = f;
  kind = s.kind;
  steps = s.answers.steps;
  frames = refl;
}

module _ {S V W : Type 0} (items : V → List ℕ) (from : SourceView S) (to : SinkView W) where
  -- the chain of pulls is the reader's
  turn : (held : List ℕ) (pulls : ℕ) (old : Snapshot) (source : S) (sink : W) (read : Result (Option V) FrameFault) (held_after : List ℕ) (pulls_after : ℕ) (source_after : S) (sink_after : W) (answer : Result Turn RunFault)
      → (r : Reads from IsOpen (Says items) held pulls source read held_after pulls_after source_after)
      → TurnSays from to (waiting held pulls old) (held ++ concat r.pieces) r.pieces r.last sink answer source_after sink_after
      → TakesTurn from to (waiting held pulls old) source sink answer source_after sink_after
  turn held pulls old source sink read held_after pulls_after source_after sink_after answer r says = record {
    pieces = r.pieces;
    last = r.last;
    needed = r.needed;
    stopped = r.stopped;
    few = subst (λ (n : ℕ). n ≤ 2 ^ 48) r.counted r.few;
    says = says;
  }

  -- a message was answered, and the session is over
  pub turn_end : (held : List ℕ) (pulls : ℕ) (old : Snapshot) (source : S) (sink : W) (body : V) (held_after : List ℕ) (pulls_after : ℕ) (new : Snapshot) (source_after : S) (sink_after : W) (status : ℕ)
      → Reads from IsOpen (Says items) held pulls source (Ok (Some body)) held_after pulls_after source_after
      → AnswersBody to old (items body) sink (Ok tt) new sink_after → ended_status new.state.life ≡ Some status
      → TakesTurn from to (waiting held pulls old) source sink (Ok (End status)) source_after sink_after
  turn_end held pulls old source sink body held_after pulls_after new source_after sink_after status r a over =
      turn held pulls old source sink (Ok (Some body)) held_after pulls_after source_after sink_after (Ok (End status)) r (
        by_message new.state held_after
            (record { out = frames_of a.0; takes = takes_body old new (held ++ concat r.pieces) (items body) held_after a.0 r.says a.1; sends = a.2 }) over,
        r.after,
      )

  -- no frame was read
  pub turn_unread : (held : List ℕ) (pulls : ℕ) (old : Snapshot) (source : S) (sink : W) (fault : FrameFault) (held_after : List ℕ) (pulls_after : ℕ) (source_after : S)
      → Reads from IsOpen (Says items) held pulls source (Err fault) held_after pulls_after source_after
      → TakesTurn from to (waiting held pulls old) source sink (Err (fault_of_run fault)) source_after sink
  turn_unread held pulls old source sink NoLength held_after pulls_after source_after r = turn held pulls old source sink (Err NoLength) held_after pulls_after source_after sink (Err (Header NoLength)) r (r.says, (r.after, refl))
  turn_unread held pulls old source sink BadLength held_after pulls_after source_after r = turn held pulls old source sink (Err BadLength) held_after pulls_after source_after sink (Err (Header BadLength)) r (r.says, (r.after, refl))
  turn_unread held pulls old source sink TooLong held_after pulls_after source_after r = turn held pulls old source sink (Err TooLong) held_after pulls_after source_after sink (Err (Header TooLong)) r (r.says, (r.after, refl))
  turn_unread held pulls old source sink BadHeader held_after pulls_after source_after r = turn held pulls old source sink (Err BadHeader) held_after pulls_after source_after sink (Err (Header BadHeader)) r (r.says, (r.after, refl))
  turn_unread held pulls old source sink Truncated held_after pulls_after source_after r = turn held pulls old source sink (Err Truncated) held_after pulls_after source_after sink (Err (Header Truncated)) r (r.says, (r.after, refl))
  turn_unread held pulls old source sink Device held_after pulls_after source_after r = turn held pulls old source sink (Err Device) held_after pulls_after source_after sink (Err DeviceRun) r (at_pull (r.says, r.onward tt) (subst (λ (n : ℕ). n < 2 ^ 48) r.counted (r.room refl)) r.after refl)
  turn_unread held pulls old source sink Memory held_after pulls_after source_after r = turn held pulls old source sink (Err Memory) held_after pulls_after source_after sink (Err MemoryRun) r (before_sending refl, r.after)
  turn_unread held pulls old source sink TooManyTurns held_after pulls_after source_after r =
      turn held pulls old source sink (Err TooManyTurns) held_after pulls_after source_after sink (Err DeviceRun) r (at_limit (r.says, r.onward tt) (sym r.counted ∙ r.limit refl) r.after refl)
  turn_unread held pulls old source sink Spent held_after pulls_after source_after r = absurd r.says

  -- a message was taken, but not answered in full
  pub turn_unanswered : (held : List ℕ) (pulls : ℕ) (old : Snapshot) (source : S) (sink : W) (body : V) (held_after : List ℕ) (pulls_after : ℕ) (new : Snapshot) (source_after : S) (sink_after : W) (fault : RunFault)
      → Reads from IsOpen (Says items) held pulls source (Ok (Some body)) held_after pulls_after source_after
      → AnswersBody to old (items body) sink (Err fault) new sink_after
      → TakesTurn from to (waiting held pulls old) source sink (Err fault) source_after sink_after
  turn_unanswered held pulls old source sink body held_after pulls_after new source_after sink_after DeviceRun r a =
      turn held pulls old source sink (Ok (Some body)) held_after pulls_after source_after sink_after (Err DeviceRun) r
      (at_sink (frames_of a.0) new.state held_after (takes_body old new (held ++ concat r.pieces) (items body) held_after a.0 r.says a.1) r.after a.2)
  turn_unanswered held pulls old source sink body held_after pulls_after new source_after sink_after MemoryRun r (nothing_sent same) =
      turn held pulls old source sink (Ok (Some body)) held_after pulls_after source_after sink_after (Err MemoryRun) r (before_sending same, r.after)
  turn_unanswered held pulls old source sink body held_after pulls_after new source_after sink_after MemoryRun r (part_sent values s stops) =
      turn held pulls old source sink (Ok (Some body)) held_after pulls_after source_after sink_after (Err MemoryRun) r
      (while_sending (frames_of values) new.state held_after (takes_body old new (held ++ concat r.pieces) (items body) held_after values r.says s) stops, r.after)
  turn_unanswered held pulls old source sink body held_after pulls_after new source_after sink_after (Header fault) r a = absurd a
