-- Every input has an output, and only one, except for which derivation is given.
use Rattle.std.proofs.Common.{◌≡◌, ℕ, List, [], ◌∷◌, ◌++◌, Option, Some, None, Ok, Err, sym, ap, ◌∙◌, subst, append_assoc, append-nil}
use Rattle.lam_frame.specs.Frame.{HasFrame, IsRest}
use Rattle.lam_frame.proofs.Readings.{frames_agree, has_reading, reads_one_way}
use Rattle.lam_frame.specs.declared.fault.FrameFault.{FrameFault}
use Rattle.lam_rpc.proofs.KindLaws.{one_kind}
use Rattle.lam_rpc.specs.Kind.{Message, IsKindOf}
use Rattle.lam_session.proofs.OneAnswer.{has_one_answer}
use Rattle.lam_session.specs.State.{State, ended_status}
use Rattle.lam_session.specs.Step.{Steps}
use Rattle.lam_server.specs.Laws.{AreAlikeOutputs, both_end, both_answer, HasOneOutput}
use Rattle.lam_server.specs.Output.{Takes, Turns, IsLive, Outcome, ComesTo, IsAllowed, frames_of}
use Rattle.lam_server.specs.Output.Turns.{no_turn, next_turn}
use Rattle.lam_server.proofs.Growing.{whole_front}

-- ---- one message

record Agree (s : State) (bytes first other : List ℕ) (next after : State) (left rest : List ℕ) : Type 0 where
  states : next ≡ after
  lefts : left ≡ rest
  joined : (out others : List ℕ) → AreAlikeOutputs next left out others → AreAlikeOutputs s bytes (first ++ out) (other ++ others)

takes_agree : (s : State) (bytes first other : List ℕ) (next after : State) (left rest : List ℕ) → Takes s bytes first next left → Takes s bytes other after rest → Agree s bytes first other next after left rest
takes_agree s bytes first other next after left rest t u =
    let frames = frames_agree bytes t.body u.body left rest t.frame u.frame in
    let kinds : u.message ≡ t.message = one_kind u.body u.message t.message u.kind (subst (λ (b : List ℕ). IsKindOf b t.message) frames.0 t.kind) in
    let answers = (has_one_answer s t.message).alone t.values u.values next after t.steps (subst (λ (m : Message). Steps s m u.values after) kinds u.steps) in
    record {
      states = answers.1;
      lefts = frames.1;
      joined = λ out others alike.
          subst (λ (l : List ℕ). AreAlikeOutputs s bytes (l ++ out) (other ++ others)) (sym t.frames)
          (subst (λ (l : List ℕ). AreAlikeOutputs s bytes (frames_of t.values ++ out) (l ++ others)) (sym u.frames) (both_answer t.frame t.kind t.steps answers.0 alike));
    }

-- ---- message after message, from the front

data Follows : State → List ℕ → List ℕ → Outcome → Type 0 where
  stops : {s : State} {bytes : List ℕ} {outcome : Outcome} → ComesTo (ended_status s.life) bytes outcome → Follows s bytes [] outcome
  follows : {s next : State} {bytes first left rest : List ℕ} {outcome : Outcome} → IsLive s → Takes s bytes first next left → Follows next left rest outcome → Follows s bytes (first ++ rest) outcome

from_front : (start : State) (bytes : List ℕ) (s : State) (done left rest : List ℕ) (outcome : Outcome) → Turns start bytes done s left → Follows s left rest outcome → Follows start bytes (done ++ rest) outcome
from_front start bytes s done left rest outcome no_turn f = f
from_front start bytes s done left rest outcome (next_turn {done = before} {first = first} {s = middle} {next = next} {left = between} {after = after} turns live takes) f =
    subst (λ (l : List ℕ). Follows start bytes l outcome) (sym (append_assoc before first rest))
    (from_front start bytes middle before between (first ++ rest) outcome turns (follows live takes f))

allowed_follows : (start : State) (input out : List ℕ) (outcome : Outcome) → IsAllowed start input out outcome → Follows start input out outcome
allowed_follows start input out outcome a =
    subst (λ (l : List ℕ). Follows start input l outcome) (append-nil out) (from_front start input a.state out a.left [] outcome a.turns (stops a.comes_to))

-- ---- the end

comes_to_one : (status : Option ℕ) (left : List ℕ) (a b : Outcome) → ComesTo status left a → ComesTo status left b → a ≡ b
comes_to_one (Some status) left a b p q = p ∙ sym q
comes_to_one None left (Ok a) (Ok b) p q = ap Ok (p.1 ∙ sym q.1)
comes_to_one None left (Ok a) (Err g) p q = let same = reads_one_way left [] [] None (Some g) p.0 q in let e = same.1 in cc
comes_to_one None left (Err f) (Ok b) p q = let same = reads_one_way left [] [] (Some f) None p q.0 in let e = same.1 in cc
comes_to_one None left (Err f) (Err g) p q = let same = reads_one_way left [] [] (Some f) (Some g) p q in let e = same.1 in let faults : f ≡ g = cc in ap Err faults

no_frame_left : (left body after : List ℕ) (fault : Option FrameFault) → IsRest left fault → HasFrame left body after → ⊥
no_frame_left left body after fault rest frame =
    let reading = has_reading after in
    let same = reads_one_way left [] (body ∷ reading.0) fault reading.1 rest (after, frame, reading.2) in
    let e = same.0 in cc

no_more : (left body after : List ℕ) (outcome : Outcome) → ComesTo None left outcome → HasFrame left body after → ⊥
no_more left body after (Ok status) comes frame = no_frame_left left body after None comes.0 frame
no_more left body after (Err fault) comes frame = no_frame_left left body after (Some fault) comes frame

stopped_and_live : (s next : State) (bytes first left : List ℕ) (outcome : Outcome) → ComesTo (ended_status s.life) bytes outcome → IsLive s → Takes s bytes first next left → ⊥
stopped_and_live s next bytes first left outcome comes live takes =
    no_more bytes takes.body left outcome (subst (λ (o : Option ℕ). ComesTo o bytes outcome) live comes) takes.frame

-- ---- the whole

one_end : (s : State) (bytes out other : List ℕ) (a b : Outcome) → Follows s bytes out a → Follows s bytes other b → AreAlikeOutputs s bytes out other × (a ≡ b)
one_end s bytes out other a b (stops p) (stops q) = (both_end, comes_to_one (ended_status s.life) bytes a b p q)
one_end s bytes out other a b (stops p) (follows {next = next} {first = first} {left = left} live takes f) = absurd (stopped_and_live s next bytes first left a p live takes)
one_end s bytes out other a b (follows {next = next} {first = first} {left = left} live takes f) (stops q) = absurd (stopped_and_live s next bytes first left b q live takes)
one_end s bytes out other a b (follows {next = next} {first = first} {left = left} {rest = rest} live takes f) (follows {next = next2} {first = first2} {left = left2} {rest = rest2} live2 takes2 g) =
    let agree = takes_agree s bytes first first2 next next2 left left2 takes takes2 in
    let later = one_end next left rest rest2 a b f
    (subst (λ (t : State). Follows t left rest2 b) (sym agree.states) (subst (λ (l : List ℕ). Follows next2 l rest2 b) (sym agree.lefts) g)) in
    (agree.joined rest rest2 later.0, later.1)

pub has_one_output : (start : State) (input : List ℕ) → HasOneOutput start input
has_one_output start input =
    let front = whole_front start input [] input start no_turn in
    record {
      out = front.rest;
      outcome = front.outcome;
      allowed = front.allowed;
      alone = λ one other end after a b. one_end start input one other end after (allowed_follows start input one end a) (allowed_follows start input other after b);
    }
