-- What holds of a run by the pieces that the source gave also holds by the bytes that the source tells.
use Rattle.std.proofs.Common.{◌≡◌, ℕ, List, [], ◌∷◌, ◌++◌, Option, Some, None, Result, Ok, Err, refl, sym, ap, ◌∙◌, subst, arith, append_assoc, append-nil}
use Rattle.std.specs.List.{concat}
use Rattle.std.specs.Io.KnownBytes.{Appends, Consumes, Keeps, IsAtEnd}
use Rattle.std.proofs.KnownBytes.{Keeps-refl}
use Rattle.lam_frame.specs.Device.{SourceView, SinkView}
use Rattle.lam_frame.specs.Frame.{IsOpen}
use Rattle.lam_frame.specs.Frame.IsOpen.{InHeader}
use Rattle.lam_frame.specs.Next.{EndsEmpty, PulledWhile}
use Rattle.lam_frame.proofs.Pulls.{PulledWhile-bytes, PulledWhile-end}
use Rattle.lam_session.specs.State.{State}
use Rattle.lam_server.specs.Output.{IsAllowed, IsAnsweredIn, IsFront, IsAwaiting, IsLive}
use Rattle.lam_server.specs.Output.Turns.{no_turn}
use Rattle.lam_server.specs.Run.{Runs, DeviceEnds, AnswersAllButOnePiece, AnswersFront, AnswersTold, AnswersWhereTold}
use Rattle.lam_server.specs.Run.DeviceEnds.{at_pull, at_limit, at_sink}
use Rattle.lam_server.specs.declared.faults.RunFault.{RunFault}
use Rattle.lam_server.specs.declared.faults.RunFault.TheVariants.{Header, Device, Memory}
use Rattle.lam_server.proofs.Growing.{whole_front}

nothing_is_open : IsOpen []
nothing_is_open = InHeader (record { lines = []; part = []; begun_end = []; are_lines = tt; plain = refl; begun = tt; text = refl }) (omega arith)

module _ {S W : Type 0} (from : SourceView S) (to : SinkView W) where
  -- before the last pull all that was whole was answered
  before_last : (start : State) (out held piece : List ℕ) (source last : S) (pieces : List (List ℕ)) → PulledWhile from (IsAnsweredIn start out) held source (piece ∷ pieces) last
      → AnswersAllButOnePiece start (held ++ concat (piece ∷ pieces)) out
  before_last start out held piece source last [] p = record {
    earlier = held;
    piece = piece;
    split = ap (λ (l : List ℕ). held ++ l) (append-nil piece);
    small = p.1;
    answered = p.0;
  }
  before_last start out held piece source last (next ∷ pieces) p =
      subst (λ (l : List ℕ). AnswersAllButOnePiece start l out) (append_assoc held piece (concat (next ∷ pieces)))
      (before_last start out (held ++ piece) next p.2.0 last pieces p.2.2)

  all_but_one : (start : State) (out : List ℕ) → IsLive start → (source last : S) (pieces : List (List ℕ)) → PulledWhile from (IsAnsweredIn start out) [] source pieces last
      → AnswersAllButOnePiece start (concat pieces) out
  all_but_one start out live source last [] p = record {
    earlier = [];
    piece = [];
    split = refl;
    small = omega arith;
    answered = record { done = []; more = out; awaiting = record { state = start; left = []; turns = no_turn; live = live; undecided = nothing_is_open }; begins = refl };
  }
  all_but_one start out live source last (piece ∷ pieces) p = before_last start out [] piece source last pieces p

  front_of : (start : State) (read out : List ℕ) → IsAwaiting start read out → IsFront start read out
  front_of start read out a = whole_front start read out a.left a.state a.turns

  front : (start : State) (input left read out : List ℕ) (before after : Option (List ℕ)) → input ≡ read ++ left → IsFront start read out → AnswersAllButOnePiece start read out → Appends before after out
      → AnswersFront start input left before after
  front start input left read out before after split f answered a = record { read = read; out = out; split = split; front = f; answered = answered; appended = a }

  device_front : (start : State) (pieces : List (List ℕ)) (out input left : List ℕ) (last source_after : S) (sink sink_after : W) → input ≡ concat pieces ++ left → AnswersAllButOnePiece start (concat pieces) out
      → DeviceEnds from to start pieces last sink out source_after sink_after → AnswersFront start input left (to.taken sink) (to.taken sink_after)
  device_front start pieces out input left last source_after sink sink_after split answered (at_pull a room failure sends) =
      front start input left (concat pieces) out (to.taken sink) (to.taken sink_after) split (front_of start (concat pieces) out a.0) answered sends.appended
  device_front start pieces out input left last source_after sink sink_after split answered (at_limit a limit same sends) =
      front start input left (concat pieces) out (to.taken sink) (to.taken sink_after) split (front_of start (concat pieces) out a.0) answered sends.appended
  device_front start pieces out input left last source_after sink sink_after split answered (at_sink f in_answer appended counted same) =
      front start input left (concat pieces) out (to.taken sink) (to.taken sink_after) split f answered appended

  -- after its last pull a run leaves the bytes that the source tells as they are
  kept_at : (last source_after : S) → last ≡ source_after → Keeps (from.coming last) (from.coming source_after)
  kept_at last source_after same = subst (λ (s : S). Keeps (from.coming last) (from.coming s)) same (Keeps-refl (from.coming last))

  kept_by_device : (start : State) (pieces : List (List ℕ)) (out : List ℕ) (last source_after : S) (sink sink_after : W) → DeviceEnds from to start pieces last sink out source_after sink_after
      → Keeps (from.coming last) (from.coming source_after)
  kept_by_device start pieces out last source_after sink sink_after (at_pull a room failure sends) = failure.kept
  kept_by_device start pieces out last source_after sink sink_after (at_limit a limit same sends) = kept_at last source_after same
  kept_by_device start pieces out last source_after sink sink_after (at_sink f in_answer appended counted same) = kept_at last source_after same

  kept : (start : State) (source : S) (sink : W) (answer : Result ℕ RunFault) (source_after : S) (sink_after : W) → (r : Runs from to start source sink answer source_after sink_after)
      → Keeps (from.coming r.last) (from.coming source_after)
  kept start source sink (Ok status) source_after sink_after r = kept_at r.last source_after r.says.1.1
  kept start source sink (Err (Header fault)) source_after sink_after r = kept_at r.last source_after r.says.1.1
  kept start source sink (Err Device) source_after sink_after r = kept_by_device start r.pieces r.out r.last source_after sink sink_after r.says
  kept start source sink (Err Memory) source_after sink_after r = kept_at r.last source_after r.says.same

  told : (start : State) (source : S) (sink : W) (answer : Result ℕ RunFault) (source_after : S) (sink_after : W) (input left : List ℕ) → IsLive start
      → (r : Runs from to start source sink answer source_after sink_after) → input ≡ concat r.pieces ++ left → (EndsEmpty r.pieces → left ≡ [])
      → AnswersTold start input left answer (to.taken sink) (to.taken sink_after)
  told start source sink (Ok status) source_after sink_after input left live r split end = record {
    out = r.out;
    allowed = subst (λ (l : List ℕ). IsAllowed start l r.out (Ok status)) (sym split) (r.says.0 left end);
    appended = r.says.1.0.appended;
  }
  told start source sink (Err (Header fault)) source_after sink_after input left live r split end = record {
    out = r.out;
    allowed = subst (λ (l : List ℕ). IsAllowed start l r.out (Err fault)) (sym split) (r.says.0 left end);
    appended = r.says.1.0.appended;
  }
  told start source sink (Err Device) source_after sink_after input left live r split end =
      device_front start r.pieces r.out input left r.last source_after sink sink_after split (all_but_one start r.out live source r.last r.pieces r.needed) r.says
  told start source sink (Err Memory) source_after sink_after input left live r split end =
      front start input left (concat r.pieces) r.out (to.taken sink) (to.taken sink_after) split r.says.front (all_but_one start r.out live source r.last r.pieces r.needed) r.says.sends.appended

  where_told : (start : State) (source : S) (sink : W) (answer : Result ℕ RunFault) (source_after : S) (sink_after : W) (before last after : Option (List ℕ)) → IsLive start
      → (r : Runs from to start source sink answer source_after sink_after)
      → Consumes before last (concat r.pieces) → Keeps last after → (EndsEmpty r.pieces → IsAtEnd last)
      → AnswersWhereTold start before after answer (to.taken sink) (to.taken sink_after)
  where_told start source sink answer source_after sink_after None last after live r c k end = tt
  where_told start source sink answer source_after sink_after (Some xs) None after live r c k end = absurd c
  where_told start source sink answer source_after sink_after (Some xs) (Some ys) None live r c k end = absurd k
  where_told start source sink answer source_after sink_after (Some xs) (Some ys) (Some zs) live r c k end =
      told start source sink answer source_after sink_after xs zs live r (c ∙ ap (λ (l : List ℕ). concat r.pieces ++ l) (sym k)) (λ e. k ∙ end e)

  pub run_told : (start : State) (source : S) (sink : W) (answer : Result ℕ RunFault) (source_after : S) (sink_after : W) → IsLive start
      → Runs from to start source sink answer source_after sink_after
      → AnswersWhereTold start (from.coming source) (from.coming source_after) answer (to.taken sink) (to.taken sink_after)
  run_told start source sink answer source_after sink_after live r =
      where_told start source sink answer source_after sink_after (from.coming source) (from.coming r.last) (from.coming source_after) live r
      (PulledWhile-bytes from (IsAnsweredIn start r.out) [] source r.last r.pieces r.needed) (kept start source sink answer source_after sink_after r)
      (λ e. PulledWhile-end from (IsAnsweredIn start r.out) [] source r.last e.0
      (subst (λ (p : List (List ℕ)). PulledWhile from (IsAnsweredIn start r.out) [] source p r.last) e.1 r.needed))
