-- Bytes begin with a header part, or with one that is not complete, or with one that is spoiled: only one of these.
use Rattle.std.proofs.Common.{◌≡◌, ◌≤◌, ◌<◌, ◌⊎◌, inl, inr, length, drop, ℕ, Bool, true, false, not, ◌==◌, cond, if◌then◌else◌, List, [], ◌∷◌, ◌++◌, Result, Ok, Err, refl, sym, ap, ◌∙◌, subst, arith, append_assoc, append-nil, length-append}
use Rattle.std.specs.List.{list_all, list_any, filter}
use Rattle.std.proofs.lemmas.Bool.Decides.{nat_tests}
use Rattle.std.proofs.lemmas.List.{drop-append-le}
use Rattle.std.proofs.lemmas.Bool.{and_parts}
use Rattle.lam_frame.specs.declared.fault.FrameFault.{FrameFault}
use Rattle.lam_frame.specs.declared.fault.FrameFault.TheVariants.{NoLength, BadLength, TooLong, BadHeader}
use Rattle.lam_frame.specs.Header.{AreLines, IsPlain, HasHeader, IsSpoiled, IsUnfinished, IsTooLong, IsMisplaced, IsBegunEnd, is_header_byte, ended_lines, header_text, body_length, one_length, has_colon, names_length}
use Rattle.lam_frame.specs.Frame.{HasFault}
use Rattle.lam_frame.specs.Frame.HasFault.{Spoiled as SpoiledFault, Endless, BadFields}
use Rattle.lam_frame.specs.inner.Scan.{HasLines}
use Rattle.lam_frame.specs.inner.Steps.{IsByteFault, StartsBody}

-- ---- reading byte by byte

pub data Lines : Type 0 where
  Whole : List (List ℕ) → List ℕ → Lines
  Open : Lines
  Wrong : Lines

abbrev with_lines : List (List ℕ) → Lines → Lines
with_lines front (Whole lines after) = Whole (front ++ lines) after
with_lines front Open = Open
with_lines front Wrong = Wrong

-- the lines of the bytes, if `line` was already read of the first one, and then perhaps a CR
abbrev read : Bool → List ℕ → List ℕ → Lines
read return line [] = Open
read false line (b ∷ bs) = if is_header_byte b then read false (line ++ b ∷ []) bs else (if b == 13 then read true line bs else Wrong)
read true line (b ∷ bs) = if b == 10 then (if length line == 0 then Whole [] bs else with_lines (line ∷ []) (read false [] bs)) else Wrong

read-plain : (line part rest : List ℕ) → IsPlain part → read false line (part ++ rest) ≡ read false (line ++ part) rest
read-plain line [] rest p = ap (λ (l : List ℕ). read false l rest) (sym (append-nil line))
read-plain line (b ∷ part) rest p =
    rw (and_parts (is_header_byte b) (list_all is_header_byte part) p).0
    (read-plain (line ++ b ∷ []) part rest (and_parts (is_header_byte b) (list_all is_header_byte part) p).1 ∙ ap (λ (l : List ℕ). read false l rest) (append_assoc line (b ∷ []) part))

with_lines-cons : (line : List ℕ) (front : List (List ℕ)) (lines : Lines) → with_lines (line ∷ []) (with_lines front lines) ≡ with_lines (line ∷ front) lines
with_lines-cons line front (Whole lines after) = refl
with_lines-cons line front Open = refl
with_lines-cons line front Wrong = refl

with_lines-nil : (lines : Lines) → with_lines [] lines ≡ lines
with_lines-nil (Whole lines after) = refl
with_lines-nil Open = refl
with_lines-nil Wrong = refl

read-line : (line rest : List ℕ) → 0 < length line → IsPlain line → read false [] (line ++ (13 ∷ 10 ∷ rest)) ≡ with_lines (line ∷ []) (read false [] rest)
read-line line rest some p =
    let empty : (length line == 0) ≡ false = grind (arith, nat_tests) in
    read-plain [] line (13 ∷ 10 ∷ rest) p ∙ ap (λ (e : Bool). cond e (Whole [] rest) (with_lines (line ∷ []) (read false [] rest))) empty

read-lines : (lines : List (List ℕ)) (rest : List ℕ) → AreLines lines → read false [] (ended_lines lines ++ rest) ≡ with_lines lines (read false [] rest)
read-lines [] rest a = sym (with_lines-nil (read false [] rest))
read-lines (line ∷ lines) rest a =
    ap (read false []) (append_assoc line (13 ∷ 10 ∷ ended_lines lines) rest)
    ∙ read-line line (ended_lines lines ++ rest) (a.0).0 (a.0).1
    ∙ ap (with_lines (line ∷ [])) (read-lines lines rest a.1)
    ∙ with_lines-cons line lines (read false [] rest)

pub kind : List ℕ → Lines
kind bytes = read false [] bytes

pub kind-lines : (bytes : List ℕ) (lines : List (List ℕ)) (after : List ℕ) → AreLines lines → bytes ≡ header_text lines ++ after → kind bytes ≡ Whole lines after
unfolding kind
kind-lines bytes lines after a e =
    ap (read false []) (e ∙ append_assoc (ended_lines lines) (13 ∷ 10 ∷ []) after)
    ∙ read-lines lines (13 ∷ 10 ∷ after) a
    ∙ ap (λ (l : List (List ℕ)). Whole l after) (append-nil lines)

kind-header : (bytes : List ℕ) (lines : List (List ℕ)) (after : List ℕ) → HasHeader bytes lines after → kind bytes ≡ Whole lines after
kind-header bytes lines after h = kind-lines bytes lines after h.are_lines h.text

read-unfinished : (part begun_end : List ℕ) → IsBegunEnd begun_end → read false part begun_end ≡ Open
read-unfinished part [] b = refl
read-unfinished part (c ∷ []) b = ap (λ (d : ℕ). read false part (d ∷ [])) b
read-unfinished part (c ∷ d ∷ e) b = absurd b

pub kind-unfinished : (bytes : List ℕ) → IsUnfinished bytes → kind bytes ≡ Open
unfolding kind
kind-unfinished bytes u =
    ap (read false []) u.text
    ∙ read-lines u.lines (u.part ++ u.begun_end) u.are_lines
    ∙ ap (with_lines u.lines) (read-plain [] u.part u.begun_end u.plain ∙ read-unfinished u.part u.begun_end u.begun)

read-odd : (part : List ℕ) (b : ℕ) (bs : List ℕ) → (128 ≤ b) ⊎ (b ≡ 10) → read false part (b ∷ bs) ≡ Wrong
read-odd part b bs (inl h) =
    let odd : is_header_byte b ≡ false = grind (arith, nat_tests) in
    let other : (b == 13) ≡ false = grind (arith, nat_tests) in
    rw (odd, other) refl
read-odd part b bs (inr h) = ap (λ (d : ℕ). read false part (d ∷ bs)) h

read-misplaced : (part rest : List ℕ) → IsMisplaced rest → read false part rest ≡ Wrong
read-misplaced part [] m = absurd m
read-misplaced part (b ∷ []) m = read-odd part b [] m
read-misplaced part (b ∷ c ∷ bs) (inl m) = read-odd part b (c ∷ bs) m
read-misplaced part (b ∷ c ∷ bs) (inr m) =
    let other : (c == 10) ≡ false = grind (arith, nat_tests, m.1) in
    ap (λ (d : ℕ). read false part (d ∷ c ∷ bs)) m.0 ∙ rw other refl

pub kind-spoiled : (bytes : List ℕ) → IsSpoiled bytes → kind bytes ≡ Wrong
unfolding kind
kind-spoiled bytes s =
    ap (read false []) s.text
    ∙ read-lines s.lines (s.part ++ s.rest) s.are_lines
    ∙ ap (with_lines s.lines) (read-plain [] s.part s.rest s.plain ∙ read-misplaced s.part s.rest s.misplaced)

pub headers_agree : (bytes : List ℕ) (l k : List (List ℕ)) (a b : List ℕ) → HasHeader bytes l a → HasHeader bytes k b → (l ≡ k) × (a ≡ b)
headers_agree bytes l k a b p q = let e : Whole l a ≡ Whole k b = sym (kind-header bytes l a p) ∙ kind-header bytes k b q in (cc e, cc e)

pub header_not_unfinished : (bytes : List ℕ) (lines : List (List ℕ)) (after : List ℕ) → HasHeader bytes lines after → IsUnfinished bytes → ⊥
header_not_unfinished bytes lines after h u = let e : Whole lines after ≡ Open = sym (kind-header bytes lines after h) ∙ kind-unfinished bytes u in cc e

pub header_not_spoiled : (bytes : List ℕ) (lines : List (List ℕ)) (after : List ℕ) → HasHeader bytes lines after → IsSpoiled bytes → ⊥
header_not_spoiled bytes lines after h s = let e : Whole lines after ≡ Wrong = sym (kind-header bytes lines after h) ∙ kind-spoiled bytes s in cc e

pub unfinished_not_spoiled : (bytes : List ℕ) → IsUnfinished bytes → IsSpoiled bytes → ⊥
unfinished_not_spoiled bytes u s = let e : Open ≡ Wrong = sym (kind-unfinished bytes u) ∙ kind-spoiled bytes s in cc e

-- ---- more bytes behind

pub HasHeader-more : (bytes more : List ℕ) (lines : List (List ℕ)) (after : List ℕ) → HasHeader bytes lines after → HasHeader (bytes ++ more) lines (after ++ more)
HasHeader-more bytes more lines after h = record {
  are_lines = h.are_lines;
  text = ap (λ (l : List ℕ). l ++ more) h.text ∙ append_assoc (header_text lines) after more;
  fits = h.fits;
}

IsMisplaced-more : (rest more : List ℕ) → IsMisplaced rest → IsMisplaced (rest ++ more)
IsMisplaced-more [] more m = absurd m
IsMisplaced-more (b ∷ []) [] m = m
IsMisplaced-more (b ∷ []) (c ∷ more) m = inl m
IsMisplaced-more (b ∷ c ∷ bs) more m = m

pub IsSpoiled-more : (bytes more : List ℕ) → IsSpoiled bytes → IsSpoiled (bytes ++ more)
IsSpoiled-more bytes more s = record {
  lines = s.lines;
  part = s.part;
  rest = s.rest ++ more;
  are_lines = s.are_lines;
  plain = s.plain;
  misplaced = IsMisplaced-more s.rest more s.misplaced;
  text = ap (λ (l : List ℕ). l ++ more) s.text ∙ append_assoc (ended_lines s.lines) (s.part ++ s.rest) more
      ∙ ap (λ (l : List ℕ). ended_lines s.lines ++ l) (append_assoc s.part s.rest more);
}

-- of two fronts of the same bytes, one that is no longer than the other is a front of it
pub front_within : (front window rest after : List ℕ) → window ++ rest ≡ front ++ after → length front ≤ length window → (middle : List ℕ) × (window ≡ front ++ middle)
front_within [] window rest after e h = (window, refl)
front_within (b ∷ front) [] rest after e h = absurd (omega arith)
front_within (b ∷ front) (c ∷ window) rest after e h =
    let heads : c ≡ b = cc e in
    let tails : window ++ rest ≡ front ++ after = cc e in
    let more = front_within front window rest after tails (omega arith) in
    (more.0, ap (λ (d : ℕ). d ∷ window) heads ∙ ap (λ (l : List ℕ). b ∷ l) more.1)

-- a header part within the limit stands within the first 4,096 bytes
pub header_within : (window rest : List ℕ) (lines : List (List ℕ)) (after : List ℕ) → 4096 ≤ length window → HasHeader (window ++ rest) lines after → (middle : List ℕ) × HasHeader window lines middle
header_within window rest lines after long h =
    let found = front_within (header_text lines) window rest after h.text (omega (arith, h.fits)) in
    (found.0, record { are_lines = h.are_lines; text = found.1; fits = h.fits })

pub IsTooLong-window : (window rest : List ℕ) → IsUnfinished window → 4096 ≤ length window → IsTooLong (window ++ rest)
IsTooLong-window window rest u long = record {
  long = omega (arith, length-append window rest);
  endless = λ lines after h. let inside = header_within window rest lines after long h in header_not_unfinished window lines inside.0 inside.1 u;
}

-- ---- what the lines say of the length

length_in-cases : (numeral long : Bool) (n : ℕ) (fault : FrameFault) → cond numeral (cond long (Err TooLong) (Ok n)) (Err BadLength) ≡ Err fault → IsByteFault fault
length_in-cases true true n fault e = let same : TooLong ≡ fault = cc e in subst IsByteFault same tt
length_in-cases true false n fault e = absurd (cc e)
length_in-cases false long n fault e = let same : BadLength ≡ fault = cc e in subst IsByteFault same tt

one_length-fault : (named : List (List ℕ)) (fault : FrameFault) → one_length named ≡ Err fault → IsByteFault fault
one_length-fault [] fault e = let same : NoLength ≡ fault = cc e in subst IsByteFault same tt
one_length-fault (line ∷ []) fault e = length_in-cases _ _ _ fault e
one_length-fault (line ∷ other ∷ named) fault e = let same : BadLength ≡ fault = cc e in subst IsByteFault same tt

verdict-fault : (bad : Bool) (named : List (List ℕ)) (fault : FrameFault) → cond bad (Err BadHeader) (one_length named) ≡ Err fault → IsByteFault fault
verdict-fault true named fault e = let same : BadHeader ≡ fault = cc e in subst IsByteFault same tt
verdict-fault false named fault e = one_length-fault named fault e

pub body_length-fault : (lines : List (List ℕ)) (fault : FrameFault) → body_length lines ≡ Err fault → IsByteFault fault
body_length-fault lines fault e = verdict-fault (list_any (λ (l : List ℕ). not (has_colon l)) lines) (filter names_length lines) fault e

pub HasFault-byte : (bytes : List ℕ) (fault : FrameFault) → HasFault bytes fault → IsByteFault fault
HasFault-byte bytes fault (SpoiledFault s e) = subst IsByteFault (sym e) tt
HasFault-byte bytes fault (Endless l e) = subst IsByteFault (sym e) tt
HasFault-byte bytes fault (BadFields lines after h e) = body_length-fault lines fault e

-- ---- what a scan of the first 4,096 bytes says of all

pub start_spoiled : (window rest bytes : List ℕ) → bytes ≡ window ++ rest → IsSpoiled window → HasFault bytes BadHeader × IsByteFault BadHeader
start_spoiled window rest bytes e s = (SpoiledFault (subst IsSpoiled (sym e) (IsSpoiled-more window rest s)) refl, tt)

pub start_long : (window rest bytes : List ℕ) → bytes ≡ window ++ rest → IsUnfinished window → length window ≡ 4096 → HasFault bytes BadHeader × IsByteFault BadHeader
start_long window rest bytes e u long = (Endless (subst IsTooLong (sym e) (IsTooLong-window window rest u (omega (arith, long)))) refl, tt)

header_of_lines : (window rest bytes : List ℕ) (len : ℕ) (body : Result ℕ FrameFault) → bytes ≡ window ++ rest → length window ≤ 4096 → (w : HasLines window len body) → HasHeader bytes w.lines (drop len window ++ rest)
header_of_lines window rest bytes len body e short w = record {
  are_lines = w.are_lines;
  text = e ∙ ap (λ (l : List ℕ). l ++ rest) w.text ∙ append_assoc (header_text w.lines) (drop len window) rest;
  fits = omega (arith, short, ap length w.text, length-append (header_text w.lines) (drop len window));
}

pub start_faulty : (window rest bytes : List ℕ) (len : ℕ) (body : Result ℕ FrameFault) (fault : FrameFault) → bytes ≡ window ++ rest → length window ≤ 4096 → body ≡ Err fault → HasLines window len body
    → HasFault bytes fault × IsByteFault fault
start_faulty window rest bytes len body fault e short b w =
    let says : body_length w.lines ≡ Err fault = sym w.says ∙ b in
    (BadFields w.lines (drop len window ++ rest) (header_of_lines window rest bytes len body e short w) says, body_length-fault w.lines fault says)

pub start_whole : (window rest bytes : List ℕ) (len size : ℕ) (body : Result ℕ FrameFault) → bytes ≡ window ++ rest → length window ≤ 4096 → body ≡ Ok size → HasLines window len body → StartsBody bytes len size
start_whole window rest bytes len size body e short b w =
    let within : len ≤ length window = omega (arith, w.size, ap length w.text, length-append (header_text w.lines) (drop len window)) in
    let behind : drop len bytes ≡ drop len window ++ rest = ap (drop len) e ∙ drop-append-le len window rest within in
    record {
      lines = w.lines;
      header = subst (HasHeader bytes w.lines) (sym behind) (header_of_lines window rest bytes len body e short w);
      says = sym w.says ∙ b;
      within = omega (arith, within, ap length e, length-append window rest);
    }
