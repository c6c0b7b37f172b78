-- Bytes begin with a frame, or have a fault, or are open: one of these, and in one way.
use Rattle.std.proofs.Common.{◌≡◌, ◌≢◌, ◌≤◌, ◌<◌, ◌⊎◌, inl, inr, length, take, drop, ℕ, zero, suc, Bool, true, false, ◌==◌, nat_lt, nat_le, List, [], ◌∷◌, ◌++◌, Option, Some, None, Result, Ok, Err, refl, sym, ap, ◌∙◌, subst, arith, append_assoc, append-nil, length-append, take-append-drop}
use Rattle.std.proofs.lemmas.Bool.Decides.{nat_tests}
use Rattle.std.proofs.lemmas.List.{length-take}
use Rattle.std.proofs.lemmas.List.Folds.{list_all-append}
use Rattle.lam_frame.specs.declared.fault.FrameFault.{FrameFault}
use Rattle.lam_frame.specs.declared.fault.FrameFault.TheVariants.{NoLength, BadLength, TooLong, BadHeader, Truncated, Device, Memory, TooManyTurns, Spent}
use Rattle.lam_frame.specs.Header.{AreLines, IsBegunEnd, IsPlain, HasHeader, IsSpoiled, IsUnfinished, IsMisplaced, is_header_byte, ended_lines, header_text, body_length}
use Rattle.lam_frame.specs.Frame.{HasFrame, HasFault, IsOpen, IsRest, IsReading}
use Rattle.lam_frame.specs.Frame.HasFault.{Spoiled as SpoiledFault, Endless, BadFields}
use Rattle.lam_frame.specs.Frame.IsOpen.{InHeader, InBody}
use Rattle.lam_frame.specs.Laws.{HasReading, ReadsOneWay, Settles, OpenSettlesNothing}
use Rattle.lam_frame.specs.inner.Steps.{IsByteFault}
use Rattle.lam_frame.proofs.Starts.Lines.{Whole}
use Rattle.lam_frame.proofs.Starts.{HasFault-byte, kind-lines, headers_agree, header_not_unfinished, header_not_spoiled, unfinished_not_spoiled}
use Rattle.lam_frame.proofs.Told.{HasFrame-more, HasFault-more}
use Rattle.lam_frame.proofs.Walk.{AreLines-append, ended_lines-append}

-- ---- one of the three

-- a header part of any length
record HasAnyHeader (bytes : List ℕ) : Type 0 where
  lines : List (List ℕ)
  after : List ℕ
  are_lines : AreLines lines
  text : bytes ≡ header_text lines ++ after

data Kind (bytes : List ℕ) : Type 0 where
  Header : HasAnyHeader bytes → Kind bytes
  Unfinished : IsUnfinished bytes → Kind bytes
  Spoiled : IsSpoiled bytes → Kind bytes

plain_more : (part : List ℕ) (b : ℕ) → IsPlain part → is_header_byte b ≡ true → IsPlain (part ++ b ∷ [])
plain_more part b p q = list_all-append is_header_byte part (b ∷ []) ∙ rw (p, q) refl

odd_byte : (b : ℕ) → is_header_byte b ≡ false → (b == 13) ≡ false → (128 ≤ b) ⊎ (b ≡ 10)
odd_byte b p q = grind (arith, nat_tests)

is_return : (b : ℕ) → (b == 13) ≡ true → b ≡ 13
is_return b q = grind (arith, nat_tests)

is_feed : (b : ℕ) → (b == 10) ≡ true → b ≡ 10
is_feed b q = grind (arith, nat_tests)

no_feed : (b : ℕ) → (b == 10) ≡ false → b ≢ 10
no_feed b q = λ e. let absurdity : ⊥ = grind (arith, nat_tests) in absurdity

line_ended : (lines : List (List ℕ)) (part rest : List ℕ) → ended_lines lines ++ (part ++ (13 ∷ 10 ∷ rest)) ≡ ended_lines (lines ++ part ∷ []) ++ rest
line_ended lines part rest =
    ap (λ (l : List ℕ). ended_lines lines ++ l) (sym (append_assoc part (13 ∷ 10 ∷ []) rest))
    ∙ sym (append_assoc (ended_lines lines) (part ++ (13 ∷ 10 ∷ [])) rest)
    ∙ ap (λ (l : List ℕ). l ++ rest) (sym (ended_lines-append lines (part ∷ [])))

module _ (bytes : List ℕ) where
  -- some lines and a part of one stand before the rest
  record Before (lines : List (List ℕ)) (part rest : List ℕ) : Type 0 where
    are_lines : AreLines lines
    plain : IsPlain part
    text : bytes ≡ ended_lines lines ++ (part ++ rest)

  ended_at : (lines : List (List ℕ)) (part rest : List ℕ) → Before lines part (13 ∷ 10 ∷ rest) → (Before (lines ++ part ∷ []) [] rest → Kind bytes) → Kind bytes
  ended_at lines [] rest w more =
      Header (record { lines = lines; after = rest; are_lines = w.are_lines; text = w.text ∙ sym (append_assoc (ended_lines lines) (13 ∷ 10 ∷ []) rest) })
  ended_at lines (b ∷ part) rest w more = more (record {
    are_lines = AreLines-append lines ((b ∷ part) ∷ []) w.are_lines ((omega arith, w.plain), tt);
    plain = refl;
    text = w.text ∙ line_ended lines (b ∷ part) rest;
  })

  spoiled_at : (lines : List (List ℕ)) (part rest : List ℕ) → Before lines part rest → IsMisplaced rest → Kind bytes
  spoiled_at lines part rest w m = Spoiled (record { lines = lines; part = part; rest = rest; are_lines = w.are_lines; plain = w.plain; misplaced = m; text = w.text })

  unfinished_at : (lines : List (List ℕ)) (part rest : List ℕ) → Before lines part rest → IsBegunEnd rest → Kind bytes
  unfinished_at lines part rest w b = Unfinished (record { lines = lines; part = part; begun_end = rest; are_lines = w.are_lines; plain = w.plain; begun = b; text = w.text })

  plain_at : (lines : List (List ℕ)) (part : List ℕ) (b : ℕ) (rest : List ℕ) → Before lines part (b ∷ rest) → is_header_byte b ≡ true → Before lines (part ++ b ∷ []) rest
  plain_at lines part b rest w p = record {
    are_lines = w.are_lines;
    plain = plain_more part b w.plain p;
    text = w.text ∙ ap (λ (l : List ℕ). ended_lines lines ++ l) (sym (append_assoc part (b ∷ []) rest));
  }

  -- one byte is left, and two or more
  last_byte : (lines : List (List ℕ)) (part : List ℕ) (b : ℕ) (plain return : Bool) → is_header_byte b ≡ plain → (b == 13) ≡ return → Before lines part (b ∷ []) → Kind bytes
  last_byte lines part b true return p q w = unfinished_at lines (part ++ b ∷ []) [] (plain_at lines part b [] w p) tt
  last_byte lines part b false true p q w = unfinished_at lines part (b ∷ []) w (is_return b q)
  last_byte lines part b false false p q w = spoiled_at lines part (b ∷ []) w (odd_byte b p q)

  two_bytes : (lines : List (List ℕ)) (part : List ℕ) (b c : ℕ) (rest : List ℕ) (plain return feed : Bool) → is_header_byte b ≡ plain → (b == 13) ≡ return → (c == 10) ≡ feed → Before lines part (b ∷ c ∷ rest)
      → (Before lines (part ++ b ∷ []) (c ∷ rest) → Kind bytes) → (Before (lines ++ part ∷ []) [] rest → Kind bytes) → Kind bytes
  two_bytes lines part b c rest true return feed p q r w onward line = onward (plain_at lines part b (c ∷ rest) w p)
  two_bytes lines part b c rest false true true p q r w onward line =
      ended_at lines part rest (subst (λ (d : ℕ). Before lines part (13 ∷ d ∷ rest)) (is_feed c r) (subst (λ (d : ℕ). Before lines part (d ∷ c ∷ rest)) (is_return b q) w)) line
  two_bytes lines part b c rest false true false p q r w onward line = spoiled_at lines part (b ∷ c ∷ rest) w (inr (is_return b q, no_feed c r))
  two_bytes lines part b c rest false false feed p q r w onward line = spoiled_at lines part (b ∷ c ∷ rest) w (inl (odd_byte b p q))

  kind_from : (rest : List ℕ) (lines : List (List ℕ)) (part : List ℕ) → Before lines part rest → Kind bytes
  kind_from [] lines part w = unfinished_at lines part [] w tt
  kind_from (b ∷ []) lines part w = last_byte lines part b (is_header_byte b) (b == 13) refl refl w
  kind_from (b ∷ c ∷ rest) lines part w =
      two_bytes lines part b c rest (is_header_byte b) (b == 13) (c == 10) refl refl refl w (kind_from (c ∷ rest) lines (part ++ b ∷ [])) (kind_from rest (lines ++ part ∷ []) [])

  kind_of : Kind bytes
  kind_of = kind_from bytes [] [] (record { are_lines = tt; plain = refl; text = refl })

data Begins (bytes : List ℕ) : Type 0 where
  WithFrame : (body after : List ℕ) → HasFrame bytes body after → Begins bytes
  WithFault : (fault : FrameFault) → HasFault bytes fault → Begins bytes
  Nowhere : IsOpen bytes → Begins bytes

begins_size : (bytes : List ℕ) (lines : List (List ℕ)) (after : List ℕ) (size : ℕ) (short : Bool) → HasHeader bytes lines after → body_length lines ≡ Ok size → nat_lt (length after) size ≡ short → Begins bytes
begins_size bytes lines after size true h e s = let less : length after < size = grind (arith, nat_tests) in Nowhere (InBody lines after size h e less)
begins_size bytes lines after size false h e s =
    let enough : size ≤ length after = grind (arith, nat_tests) in
    let long : length (take size after) ≡ size = omega (arith, length-take size after) in
    WithFrame (take size after) (drop size after) (record {
      lines = lines;
      header = subst (HasHeader bytes lines) (sym (take-append-drop size after)) h;
      size = e ∙ ap (λ (n : ℕ). Ok n) (sym long);
    })

begins_verdict : (bytes : List ℕ) (lines : List (List ℕ)) (after : List ℕ) (body : Result ℕ FrameFault) → HasHeader bytes lines after → body_length lines ≡ body → Begins bytes
begins_verdict bytes lines after (Err fault) h e = WithFault fault (BadFields lines after h e)
begins_verdict bytes lines after (Ok size) h e = begins_size bytes lines after size (nat_lt (length after) size) h e refl

begins_header : (bytes : List ℕ) (a : HasAnyHeader bytes) (fits : Bool) → nat_le (length (header_text a.lines)) 4096 ≡ fits → Begins bytes
begins_header bytes a true s =
    let small : length (header_text a.lines) ≤ 4096 = grind (arith, nat_tests) in
    begins_verdict bytes a.lines a.after (body_length a.lines) (record { are_lines = a.are_lines; text = a.text; fits = small }) refl
begins_header bytes a false s =
    let large : 4096 < length (header_text a.lines) = grind (arith, nat_tests) in
    WithFault BadHeader (Endless (record {
      long = omega (arith, large, ap length a.text, length-append (header_text a.lines) a.after);
      endless = λ lines after h.
          let e : Whole lines after ≡ Whole a.lines a.after = sym (kind-lines bytes lines after h.are_lines h.text) ∙ kind-lines bytes a.lines a.after a.are_lines a.text in
          let same : lines ≡ a.lines = cc e in
          absurd (omega (arith, h.fits, large, ap (λ (l : List (List ℕ)). length (header_text l)) same));
    }) refl)

begins_unfinished : (bytes : List ℕ) → IsUnfinished bytes → (short : Bool) → nat_lt (length bytes) 4096 ≡ short → Begins bytes
begins_unfinished bytes u true s = let less : length bytes < 4096 = grind (arith, nat_tests) in Nowhere (InHeader u less)
begins_unfinished bytes u false s =
    let long : 4096 ≤ length bytes = grind (arith, nat_tests) in
    WithFault BadHeader (Endless (record { long = long; endless = λ lines after h. header_not_unfinished bytes lines after h u }) refl)

begins_kind : (bytes : List ℕ) → Kind bytes → Begins bytes
begins_kind bytes (Header a) = begins_header bytes a (nat_le (length (header_text a.lines)) 4096) refl
begins_kind bytes (Unfinished u) = begins_unfinished bytes u (nat_lt (length bytes) 4096) refl
begins_kind bytes (Spoiled s) = WithFault BadHeader (SpoiledFault s refl)

begins : (bytes : List ℕ) → Begins bytes
begins bytes = begins_kind bytes (kind_of bytes)

-- ---- and no two of them

same_verdict : (bytes : List ℕ) (l k : List (List ℕ)) (a b : List ℕ) (v w : Result ℕ FrameFault) → HasHeader bytes l a → HasHeader bytes k b → body_length l ≡ v → body_length k ≡ w → (v ≡ w) × (a ≡ b)
same_verdict bytes l k a b v w h g e f = let same = headers_agree bytes l k a b h g in (sym e ∙ ap body_length same.0 ∙ f, same.1)

pub open_no_frame : (bytes body after : List ℕ) → IsOpen bytes → HasFrame bytes body after → ⊥
open_no_frame bytes body after (InHeader u less) f = header_not_unfinished bytes f.lines (body ++ after) f.header u
open_no_frame bytes body after (InBody lines part size h e less) f =
    let same = same_verdict bytes lines f.lines part (body ++ after) (Ok size) (Ok (length body)) h f.header e f.size in
    let sizes : size ≡ length body = cc same.0 in
    omega (arith, less, sizes, ap length same.1, length-append body after)

open_no_fault : (bytes : List ℕ) (fault : FrameFault) → IsOpen bytes → HasFault bytes fault → ⊥
open_no_fault bytes fault (InHeader u less) (SpoiledFault s e) = unfinished_not_spoiled bytes u s
open_no_fault bytes fault (InHeader u less) (Endless t e) = omega (arith, less, t.long)
open_no_fault bytes fault (InHeader u less) (BadFields lines after h e) = header_not_unfinished bytes lines after h u
open_no_fault bytes fault (InBody lines part size h e less) (SpoiledFault s f) = header_not_spoiled bytes lines part h s
open_no_fault bytes fault (InBody lines part size h e less) (Endless t f) = t.endless lines part h
open_no_fault bytes fault (InBody lines part size h e less) (BadFields k after g f) =
    let same = same_verdict bytes lines k part after (Ok size) (Err fault) h g e f in cc same.0

frame_no_fault : (bytes body after : List ℕ) (fault : FrameFault) → HasFrame bytes body after → HasFault bytes fault → ⊥
frame_no_fault bytes body after fault f (SpoiledFault s e) = header_not_spoiled bytes f.lines (body ++ after) f.header s
frame_no_fault bytes body after fault f (Endless t e) = t.endless f.lines (body ++ after) f.header
frame_no_fault bytes body after fault f (BadFields lines rest h e) =
    let same = same_verdict bytes f.lines lines (body ++ after) rest (Ok (length body)) (Err fault) f.header h f.size e in cc same.0

same_split : (a b c d : List ℕ) → a ++ b ≡ c ++ d → length a ≡ length c → (a ≡ c) × (b ≡ d)
same_split [] b [] d e s = (refl, e)
same_split [] b (y ∷ c) d e s = absurd (omega arith)
same_split (x ∷ a) b [] d e s = absurd (omega arith)
same_split (x ∷ a) b (y ∷ c) d e s =
    let heads : x ≡ y = cc e in
    let tails : a ++ b ≡ c ++ d = cc e in
    let more = same_split a b c d tails (omega arith) in
    (ap (λ (z : ℕ). z ∷ a) heads ∙ ap (λ (l : List ℕ). y ∷ l) more.0, more.1)

pub frames_agree : (bytes b c a d : List ℕ) → HasFrame bytes b a → HasFrame bytes c d → (b ≡ c) × (a ≡ d)
frames_agree bytes b c a d f g =
    let same = same_verdict bytes f.lines g.lines (b ++ a) (c ++ d) (Ok (length b)) (Ok (length c)) f.header g.header f.size g.size in
    let sizes : length b ≡ length c = cc same.0 in
    same_split b a c d same.1 sizes

faults_agree : (bytes : List ℕ) (f g : FrameFault) → HasFault bytes f → HasFault bytes g → f ≡ g
faults_agree bytes f g (SpoiledFault s e) (SpoiledFault t h) = e ∙ sym h
faults_agree bytes f g (SpoiledFault s e) (Endless t h) = e ∙ sym h
faults_agree bytes f g (SpoiledFault s e) (BadFields lines after h d) = absurd (header_not_spoiled bytes lines after h s)
faults_agree bytes f g (Endless s e) (SpoiledFault t h) = e ∙ sym h
faults_agree bytes f g (Endless s e) (Endless t h) = e ∙ sym h
faults_agree bytes f g (Endless s e) (BadFields lines after h d) = absurd (s.endless lines after h)
faults_agree bytes f g (BadFields lines after h e) (SpoiledFault t d) = absurd (header_not_spoiled bytes lines after h t)
faults_agree bytes f g (BadFields lines after h e) (Endless t d) = absurd (t.endless lines after h)
faults_agree bytes f g (BadFields lines after h e) (BadFields k rest i d) = let same = same_verdict bytes lines k after rest (Err f) (Err g) h i e d in cc same.0

-- ---- whole readings

data Rest (bytes : List ℕ) (fault : Option FrameFault) : Type 0 where
  Clean : bytes ≡ [] → fault ≡ None → Rest bytes fault
  Cut : IsOpen bytes → (bytes ≢ []) → fault ≡ Some Truncated → Rest bytes fault
  Faulty : (f : FrameFault) → HasFault bytes f → fault ≡ Some f → Rest bytes fault

rest_is : (bytes : List ℕ) (fault : Option FrameFault) → IsRest bytes fault → Rest bytes fault
rest_is bytes None r = Clean r refl
rest_is bytes (Some Truncated) r = Cut r.0 r.1 refl
rest_is bytes (Some NoLength) r = Faulty NoLength r refl
rest_is bytes (Some BadLength) r = Faulty BadLength r refl
rest_is bytes (Some TooLong) r = Faulty TooLong r refl
rest_is bytes (Some BadHeader) r = Faulty BadHeader r refl
rest_is bytes (Some Device) r = Faulty Device r refl
rest_is bytes (Some Memory) r = Faulty Memory r refl
rest_is bytes (Some TooManyTurns) r = Faulty TooManyTurns r refl
rest_is bytes (Some Spent) r = Faulty Spent r refl

fault_is_rest : (bytes : List ℕ) (fault : FrameFault) → HasFault bytes fault → IsByteFault fault → IsRest bytes (Some fault)
fault_is_rest bytes NoLength h b = h
fault_is_rest bytes BadLength h b = h
fault_is_rest bytes TooLong h b = h
fault_is_rest bytes BadHeader h b = h
fault_is_rest bytes Truncated h b = absurd b
fault_is_rest bytes Device h b = absurd b
fault_is_rest bytes Memory h b = absurd b
fault_is_rest bytes TooManyTurns h b = absurd b
fault_is_rest bytes Spent h b = absurd b

nothing_is_open : IsOpen []
nothing_is_open = InHeader (record { lines = []; part = []; begun_end = []; are_lines = tt; plain = refl; begun = tt; text = refl }) (omega arith)

rest_no_frame : (bytes body after : List ℕ) (fault : Option FrameFault) → Rest bytes fault → HasFrame bytes body after → ⊥
rest_no_frame bytes body after fault (Clean e f) h = open_no_frame [] body after nothing_is_open (subst (λ (b : List ℕ). HasFrame b body after) e h)
rest_no_frame bytes body after fault (Cut o n f) h = open_no_frame bytes body after o h
rest_no_frame bytes body after fault (Faulty g b f) h = frame_no_fault bytes body after g h b

rests_agree : (bytes : List ℕ) (f g : Option FrameFault) → Rest bytes f → Rest bytes g → f ≡ g
rests_agree bytes f g (Clean e p) (Clean d q) = p ∙ sym q
rests_agree bytes f g (Clean e p) (Cut o n q) = absurd (n e)
rests_agree bytes f g (Clean e p) (Faulty k h q) = absurd (open_no_fault [] k nothing_is_open (subst (λ (b : List ℕ). HasFault b k) e h))
rests_agree bytes f g (Cut o n p) (Clean d q) = absurd (n d)
rests_agree bytes f g (Cut o n p) (Cut i m q) = p ∙ sym q
rests_agree bytes f g (Cut o n p) (Faulty k h q) = absurd (open_no_fault bytes k o h)
rests_agree bytes f g (Faulty k h p) (Clean d q) = absurd (open_no_fault [] k nothing_is_open (subst (λ (b : List ℕ). HasFault b k) d h))
rests_agree bytes f g (Faulty k h p) (Cut o n q) = absurd (open_no_fault bytes k o h)
rests_agree bytes f g (Faulty k h p) (Faulty j i q) = p ∙ ap (λ (x : FrameFault). Some x) (faults_agree bytes k j h i) ∙ sym q

pub reads_one_way : (bytes : List ℕ) → ReadsOneWay bytes
reads_one_way bytes [] [] f g r s = (refl, rests_agree bytes f g (rest_is bytes f r) (rest_is bytes g s))
reads_one_way bytes [] (y ∷ c) f g r s = absurd (rest_no_frame bytes y s.0 f (rest_is bytes f r) s.1)
reads_one_way bytes (x ∷ b) [] f g r s = absurd (rest_no_frame bytes x r.0 g (rest_is bytes g s) r.1)
reads_one_way bytes (x ∷ b) (y ∷ c) f g r s =
    let same = frames_agree bytes x y r.0 s.0 r.1 s.1 in
    let more = reads_one_way r.0 b c f g r.2 (subst (λ (l : List ℕ). IsReading l c g) (sym same.1) s.2) in
    (ap (λ (z : List ℕ). z ∷ b) same.0 ∙ ap (λ (l : List (List ℕ)). y ∷ l) more.0, more.1)

frame_is_some : (bytes body after : List ℕ) → HasFrame bytes body after → length after < length bytes
frame_is_some bytes body after f =
    omega (arith, ap length f.header.text, length-append (header_text f.lines) (body ++ after), length-append body after, length-append (ended_lines f.lines) (13 ∷ 10 ∷ []))

open_reading : (bytes : List ℕ) → IsOpen bytes → HasReading bytes
open_reading [] o = ([], None, refl)
open_reading (b ∷ bytes) o = ([], Some Truncated, (o, λ e. cc e))

reading_within : (n : ℕ) (bytes : List ℕ) → length bytes ≤ n → Begins bytes → HasReading bytes
reading_within n bytes h (WithFault fault f) = ([], Some fault, fault_is_rest bytes fault f (HasFault-byte bytes fault f))
reading_within n bytes h (Nowhere o) = open_reading bytes o
reading_within zero bytes h (WithFrame body after f) = absurd (omega (arith, frame_is_some bytes body after f))
reading_within (suc n) bytes h (WithFrame body after f) =
    let more = reading_within n after (omega (arith, frame_is_some bytes body after f)) (begins after) in
    (body ∷ more.0, more.1, (after, f, more.2))

pub has_reading : (bytes : List ℕ) → HasReading bytes
has_reading bytes = reading_within (length bytes) bytes (omega arith) (begins bytes)

-- ---- what is settled

open_settles_no : (bytes : List ℕ) → IsOpen bytes → Settles bytes → ⊥
open_settles_no bytes o (inl s) = let now = s.1 [] in open_no_frame bytes s.0 now.0 o (subst (λ (b : List ℕ). HasFrame b s.0 now.0) (append-nil bytes) now.1)
open_settles_no bytes o (inr s) = open_no_fault bytes s.0 o (subst (λ (b : List ℕ). HasFault b s.0) (append-nil bytes) (s.1 []))

unsettled_is_open : (bytes : List ℕ) → (Settles bytes → ⊥) → Begins bytes → IsOpen bytes
unsettled_is_open bytes n (WithFrame body after f) = absurd (n (inl (body, λ more. (after ++ more, HasFrame-more bytes more body after f))))
unsettled_is_open bytes n (WithFault fault f) = absurd (n (inr (fault, λ more. HasFault-more bytes more fault f)))
unsettled_is_open bytes n (Nowhere o) = o

pub open_settles : (bytes : List ℕ) → OpenSettlesNothing bytes
open_settles bytes = (open_settles_no bytes, λ n. unsettled_is_open bytes n (begins bytes))
