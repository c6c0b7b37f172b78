-- More bytes only add messages: what was answered stays, and some output that is allowed begins with it.
use Rattle.std.proofs.Common.{◌≡◌, ℕ, List, [], ◌∷◌, ◌++◌, Option, Some, None, Ok, Err, refl, sym, ap, ◌∙◌, subst, append_assoc, append-nil}
use Rattle.lam_frame.specs.Frame.{IsReading, IsRest}
use Rattle.lam_frame.proofs.Readings.{has_reading}
use Rattle.lam_frame.proofs.Told.{HasFrame-more}
use Rattle.lam_frame.specs.declared.fault.FrameFault.{FrameFault}
use Rattle.lam_rpc.proofs.KindLaws.{some_kind}
use Rattle.lam_session.proofs.OneAnswer.{has_one_answer}
use Rattle.lam_session.specs.State.{State, ended_status}
use Rattle.lam_server.specs.Laws.{OutputGrows}
use Rattle.lam_server.specs.Output.{Takes, Turns, IsLive, Outcome, ComesTo, IsAllowed, IsFront, frames_of}
use Rattle.lam_server.specs.Output.Turns.{no_turn, next_turn}

-- ---- more bytes behind

Takes-more : (s next : State) (bytes out left more : List ℕ) → Takes s bytes out next left → Takes s (bytes ++ more) out next (left ++ more)
Takes-more s next bytes out left more t = record {
  body = t.body;
  message = t.message;
  values = t.values;
  frame = HasFrame-more bytes more t.body left t.frame;
  kind = t.kind;
  steps = t.steps;
  frames = t.frames;
}

pub Turns-more : (start : State) (bytes more out : List ℕ) (s : State) (left : List ℕ) → Turns start bytes out s left → Turns start (bytes ++ more) out s (left ++ more)
Turns-more start bytes more out s left no_turn = no_turn
Turns-more start bytes more out s left (next_turn {done = done} {first = first} {s = middle} {next = next} {left = between} {after = after} before live takes) =
    next_turn (Turns-more start bytes more done middle between before) live (Takes-more middle next between first after more takes)

-- ---- to an output that is allowed

module _ (start : State) (bytes : List ℕ) where
  allowed : (out left : List ℕ) (s : State) (outcome : Outcome) → Turns start bytes out s left → ComesTo (ended_status s.life) left outcome → IsFront start bytes out
  allowed out left s outcome turns comes = record {
    rest = [];
    outcome = outcome;
    allowed = record { state = s; left = left; turns = subst (λ (l : List ℕ). Turns start bytes l s left) (sym (append-nil out)) turns; comes_to = comes };
  }

  -- a prefix of a front is a front too
  behind : (out first : List ℕ) → IsFront start bytes (out ++ first) → IsFront start bytes out
  behind out first f = record {
    rest = first ++ f.rest;
    outcome = f.outcome;
    allowed = subst (λ (l : List ℕ). IsAllowed start bytes l f.outcome) (append_assoc out first f.rest) f.allowed;
  }

  rest_outcome : (fault : Option FrameFault) (left : List ℕ) → IsRest left fault → (outcome : Outcome) × ComesTo None left outcome
  rest_outcome None left rest = (Ok 1, (rest, refl))
  rest_outcome (Some fault) left rest = (Err fault, rest)

  -- by the bodies that are left, as long as the session has not ended
  to_the_end : (bodies : List (List ℕ)) (fault : Option FrameFault) (out left : List ℕ) (s : State) (life : Option ℕ) → ended_status s.life ≡ life → Turns start bytes out s left → IsReading left bodies fault → IsFront start bytes out
  to_the_end bodies fault out left s (Some status) e turns reading =
      allowed out left s (Ok status) turns (subst (λ (o : Option ℕ). ComesTo o left (Ok status)) (sym e) refl)
  to_the_end [] fault out left s None e turns reading =
      let comes = rest_outcome fault left reading in
      allowed out left s comes.0 turns (subst (λ (o : Option ℕ). ComesTo o left comes.0) (sym e) comes.1)
  to_the_end (body ∷ bodies) fault out left s None e turns reading =
      let kind = some_kind body in
      let answer = has_one_answer s kind.0 in
      let first = frames_of answer.values in
      let takes : Takes s left first answer.next reading.0 =
      record { body = body; message = kind.0; values = answer.values; frame = reading.1; kind = kind.1; steps = answer.steps; frames = refl } in
      behind out first (to_the_end bodies fault (out ++ first) reading.0 answer.next (ended_status answer.next.life) refl (next_turn turns e takes) reading.2)

  pub whole_front : (out left : List ℕ) (s : State) → Turns start bytes out s left → IsFront start bytes out
  whole_front out left s turns =
      let reading = has_reading left in
      to_the_end reading.0 reading.1 out left s (ended_status s.life) refl turns reading.2

  -- whole answers, and a part of the next one
  pub part_front : (done whole front rest left after : List ℕ) (s next : State) → Turns start bytes done s left → IsLive s → Takes s left whole next after → whole ≡ front ++ rest → IsFront start bytes (done ++ front)
  part_front done whole front rest left after s next turns live takes split =
      let all : (done ++ front) ++ rest ≡ done ++ whole = append_assoc done front rest ∙ ap (λ (l : List ℕ). done ++ l) (sym split) in
      behind (done ++ front) rest (subst (λ (l : List ℕ). IsFront start bytes l) (sym all) (whole_front (done ++ whole) after next (next_turn turns live takes)))

pub output_grows : (start : State) (bytes : List ℕ) → OutputGrows start bytes
output_grows start bytes = record {
  grows = λ more out f.
      let a = f.allowed in
      behind start (bytes ++ more) out f.rest
      (whole_front start (bytes ++ more) (out ++ f.rest) (a.left ++ more) a.state (Turns-more start bytes more (out ++ f.rest) a.state a.left a.turns));
}
