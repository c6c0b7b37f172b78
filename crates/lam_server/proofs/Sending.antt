-- Bytes that are sent in several calls are sent as one.
use Rattle.std.proofs.Common.{◌≡◌, ◌<◌, ℕ, ◌+◌, List, [], ◌∷◌, ◌++◌, length, drop, map, false, IsSome, Err, refl, sym, ap, ◌∙◌, subst, append_assoc, append-nil, get_or, suc, drop-cons, add-one}
use Rattle.std.specs.List.{All}
use Rattle.std.specs.Io.KnownBytes.{Appends}
use Rattle.std.proofs.KnownBytes.{Appends-nil, Appends-trans}
use Rattle.serde_json.specs.Data.{Data}
use Rattle.serde_json.specs.Written.{compact_text, has_float}
use Rattle.lam_frame.specs.Device.{AppendsFront, IsFlushed, SinkView}
use Rattle.lam_frame.specs.Frame.{frame_text, header_line}
use Rattle.lam_frame.specs.Next.{failures_after}
use Rattle.lam_frame.specs.declared.fault.FrameFault.{FrameFault}
use Rattle.lam_frame.specs.declared.fault.FrameFault.TheVariants.{Device}
use Rattle.lam_session.specs.Outgoing.{data_of}
use Rattle.lam_session.specs.declared.outgoing.Outgoing.{Outgoing}
use Rattle.lam_server.specs.Device.{IsFlushedAfter, Sends, FailsToSend}
use Rattle.lam_server.specs.Output.{frames_of}

-- the frames of two lists of values together are those of the first and then those of the second
pub frames-append : (ds es : List Data) → frames_of (ds ++ es) ≡ frames_of ds ++ frames_of es
frames-append [] es = refl
frames-append (d ∷ ds) es = ap (λ (l : List ℕ). frame_text (compact_text d) ++ l) (frames-append ds es) ∙ sym (append_assoc (frame_text (compact_text d)) (frames_of ds) (frames_of es))

-- the values of the messages from this one on are its own and those of the messages behind it
pub values_from : (sent : List Outgoing) (i : ℕ) (outgoing : Outgoing) → i < length sent → outgoing ≡ get_or sent i outgoing
    → map data_of (drop i sent) ≡ data_of outgoing ∷ map data_of (drop (i + 1) sent)
values_from sent i outgoing below at = ap (map data_of) (drop-cons sent i outgoing below ∙ ap (λ (o : Outgoing). o ∷ drop (suc i) sent) (sym at)) ∙ rw add-one refl

-- the text of a message whose value holds no float
text_at : (sent : List Outgoing) (i : ℕ) (outgoing : Outgoing) (text : List ℕ) → i < length sent → outgoing ≡ get_or sent i outgoing → All (λ o. has_float (data_of o) ≡ false) sent
    → (has_float (data_of outgoing) ≡ false → text ≡ compact_text (data_of outgoing)) → text ≡ compact_text (data_of outgoing)
text_at sent i outgoing text below at plain is = is (subst (λ (o : Outgoing). has_float (data_of o) ≡ false) (sym at) (plain i outgoing below))

-- the only fault of sending a frame is counted as a failure
pub counts_failure : (V : Type 0) (fault : FrameFault) (n m : ℕ) → fault ≡ Device → n ≡ failures_after {V = V} (Err fault) m → n ≡ m + 1
counts_failure V fault n m is e = e ∙ ap (λ (f : FrameFault). failures_after {V = V} (Err f) m) is

module _ {W : Type 0} (to : SinkView W) where
  pub Sends-nothing : (sink : W) → Sends to sink [] sink
  Sends-nothing sink = record { appended = Appends-nil (to.taken sink); told = λ some. some; flushed_all = refl; unfailed = refl }

  flushed_on : (first second : List ℕ) (old middle new : W) → IsFlushedAfter to old first middle → IsFlushedAfter to middle second new → IsFlushedAfter to old (first ++ second) new
  flushed_on [] second old middle new p q = subst (λ (w : W). IsFlushedAfter to w second new) (sym p) q
  flushed_on (b ∷ bs) [] old middle new p q = subst (λ (w : W). IsFlushed (to.taken w) (to.flushed w)) q p
  flushed_on (b ∷ bs) (c ∷ cs) old middle new p q = q

  pub Sends-both : (old middle new : W) (first second : List ℕ) → Sends to old first middle → Sends to middle second new → Sends to old (first ++ second) new
  Sends-both old middle new first second p q = record {
    appended = Appends-trans (to.taken old) (to.taken middle) (to.taken new) first second p.appended q.appended;
    told = λ some. q.told (p.told some);
    flushed_all = flushed_on first second old middle new p.flushed_all q.flushed_all;
    unfailed = q.unfailed ∙ p.unfailed;
  }

  -- a front that is sent after some bytes makes a front of both
  pub front_behind : (old middle new : W) (first second : List ℕ) → Sends to old first middle → AppendsFront (to.taken middle) (to.taken new) second → AppendsFront (to.taken old) (to.taken new) (first ++ second)
  front_behind old middle new first second p q = record {
    front = first ++ q.front;
    rest = q.rest;
    split = ap (λ (l : List ℕ). first ++ l) q.split ∙ sym (append_assoc first q.front q.rest);
    appended = Appends-trans (to.taken old) (to.taken middle) (to.taken new) first q.front p.appended q.appended;
  }

  -- a front of some bytes is a front of more
  pub front_of_more : (old new : W) (bytes more : List ℕ) → AppendsFront (to.taken old) (to.taken new) bytes → AppendsFront (to.taken old) (to.taken new) (bytes ++ more)
  front_of_more old new bytes more p = record {
    front = p.front;
    rest = p.rest ++ more;
    split = ap (λ (l : List ℕ). l ++ more) p.split ∙ append_assoc p.front p.rest more;
    appended = p.appended;
  }

  -- all is flushed after a frame, since a frame is not empty
  flushed_frame : (old new : W) (body : List ℕ) → IsFlushed (to.taken new) (to.flushed new) → IsFlushedAfter to old (frame_text body) new
  unfolding frame_text header_line
  flushed_frame old new body p = p

  pub Sends-frame : (old new : W) (body : List ℕ) → Appends (to.taken old) (to.taken new) (frame_text body) → (IsSome (to.flushed old) → IsSome (to.flushed new)) → IsFlushed (to.taken new) (to.flushed new) → to.failed new ≡ to.failed old → Sends to old (frame_text body) new
  Sends-frame old new body p t q r = record { appended = p; told = t; flushed_all = flushed_frame old new body q; unfailed = r }

  -- ---- value after value

  -- the frames of the values before these are sent
  pub record SentBefore (values rest : List Data) (old now : W) : Type 0 where
    pub done : List Data
    pub sends : Sends to old (frames_of done) now
    pub all : values ≡ done ++ rest

  pub one_more_sent : (values rest : List Data) (value : Data) (old middle new : W) → SentBefore values (value ∷ rest) old middle
      → Sends to middle (frame_text (compact_text value)) new → SentBefore values rest old new
  one_more_sent values rest value old middle new s p = record {
    done = s.done ++ value ∷ [];
    sends = subst (λ (l : List ℕ). Sends to old l new)
        (sym (frames-append s.done (value ∷ []) ∙ ap (λ (l : List ℕ). frames_of s.done ++ l) (append-nil (frame_text (compact_text value)))))
        (Sends-both old middle new (frames_of s.done) (frame_text (compact_text value)) s.sends p);
    all = s.all ∙ sym (append_assoc s.done (value ∷ []) rest);
  }

  pub fails_to_send : (values rest : List Data) (value : Data) (old middle new : W) → SentBefore values (value ∷ rest) old middle
      → AppendsFront (to.taken middle) (to.taken new) (frame_text (compact_text value)) → to.failed new ≡ to.failed middle + 1 → FailsToSend to old (frames_of values) new
  fails_to_send values rest value old middle new s p f = record {
    front = subst (λ (l : List ℕ). AppendsFront (to.taken old) (to.taken new) l) (sym (ap frames_of s.all ∙ frames-append s.done (value ∷ rest)))
        (front_behind old middle new (frames_of s.done) (frames_of (value ∷ rest)) s.sends (front_of_more middle new (frame_text (compact_text value)) (frames_of rest) p));
    counted = f ∙ ap (λ (n : ℕ). n + 1) s.sends.unfailed;
  }

  -- ---- at the message at which the loop is

  pub sent_at : (sent : List Outgoing) (i : ℕ) (outgoing : Outgoing) (text : List ℕ) (old middle new : W) → i < length sent → outgoing ≡ get_or sent i outgoing
      → All (λ o. has_float (data_of o) ≡ false) sent → (has_float (data_of outgoing) ≡ false → text ≡ compact_text (data_of outgoing))
      → SentBefore (map data_of sent) (map data_of (drop i sent)) old middle
      → Appends (to.taken middle) (to.taken new) (frame_text text) → (IsSome (to.flushed middle) → IsSome (to.flushed new)) → IsFlushed (to.taken new) (to.flushed new) → to.failed new ≡ to.failed middle
      → SentBefore (map data_of sent) (map data_of (drop (i + 1) sent)) old new
  sent_at sent i outgoing text old middle new below at plain is s p t q r =
      let same = text_at sent i outgoing text below at plain is in
      one_more_sent (map data_of sent) (map data_of (drop (i + 1) sent)) (data_of outgoing) old middle new
      (subst (λ (l : List Data). SentBefore (map data_of sent) l old middle) (values_from sent i outgoing below at) s)
      (subst (λ (l : List ℕ). Sends to middle (frame_text l) new) same (Sends-frame middle new text p t q r))

  pub failed_at : (sent : List Outgoing) (i : ℕ) (outgoing : Outgoing) (text : List ℕ) (old middle new : W) → i < length sent → outgoing ≡ get_or sent i outgoing
      → All (λ o. has_float (data_of o) ≡ false) sent → (has_float (data_of outgoing) ≡ false → text ≡ compact_text (data_of outgoing))
      → SentBefore (map data_of sent) (map data_of (drop i sent)) old middle
      → AppendsFront (to.taken middle) (to.taken new) (frame_text text) → to.failed new ≡ to.failed middle + 1
      → FailsToSend to old (frames_of (map data_of sent)) new
  failed_at sent i outgoing text old middle new below at plain is s p f =
      let same = text_at sent i outgoing text below at plain is in
      fails_to_send (map data_of sent) (map data_of (drop (i + 1) sent)) (data_of outgoing) old middle new
      (subst (λ (l : List Data). SentBefore (map data_of sent) l old middle) (values_from sent i outgoing below at) s)
      (subst (λ (l : List ℕ). AppendsFront (to.taken middle) (to.taken new) (frame_text l)) same p) f
