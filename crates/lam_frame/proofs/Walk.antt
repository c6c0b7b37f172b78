-- Going along a header part line by line: what was read so far, and how it ends.
use Rattle.std.proofs.Common.{◌≡◌, ◌<◌, length, drop, ℕ, ◌-◌, Bool, true, false, not, ◌||◌, cond, nat_lt, List, [], ◌∷◌, ◌++◌, Result, Ok, Err, refl, sym, ap, ◌∙◌, subst, arith, append_assoc, append-nil, length-append, length-drop, length-take, take-append-drop}
use Rattle.std.specs.List.{list_any, filter, prefix_len, after_first}
use Rattle.std.specs.Str.Parse.{digits_value}
use Rattle.std.proofs.lemmas.List.Folds.{list_any-append}
use Rattle.std.proofs.lemmas.List.Sums.{prefix_len_passes, list_all-from_AllPass}
use Rattle.std.proofs.lemmas.List.Elements.{filter-append}
use Rattle.std.proofs.lemmas.List.{get_or-take, nil_from_length}
use Rattle.std.proofs.Math.Seq.{drop-append_seam}
use Rattle.lam_frame.specs.declared.fault.FrameFault.{FrameFault}
use Rattle.lam_frame.specs.declared.fault.FrameFault.TheVariants.{BadLength, TooLong, BadHeader}
use Rattle.lam_frame.specs.Header.{AreLines, IsPlain, IsSpoiled, IsUnfinished, IsMisplaced, IsBegunEnd, is_header_byte, is_colon, ended_lines, header_text, body_length, one_length, is_length, has_colon, names_length, trim}
use Rattle.lam_frame.specs.inner.Scan.{HasLines, plain_part, plain_rest, with_length_of, with_line_of}

-- ---- one line more

pub ended_lines-append : (front back : List (List ℕ)) → ended_lines (front ++ back) ≡ ended_lines front ++ ended_lines back
ended_lines-append [] back = refl
ended_lines-append (line ∷ front) back =
    ap (λ (l : List ℕ). line ++ (13 ∷ 10 ∷ l)) (ended_lines-append front back) ∙ sym (append_assoc line (13 ∷ 10 ∷ ended_lines front) (ended_lines back))

pub AreLines-append : (front back : List (List ℕ)) → AreLines front → AreLines back → AreLines (front ++ back)
AreLines-append [] back f b = b
AreLines-append (line ∷ front) back f b = (f.0, AreLines-append front back f.1 b)

pub plain_part_is_plain : (bytes : List ℕ) → IsPlain (plain_part bytes)
plain_part_is_plain bytes =
    list_all-from_AllPass is_header_byte (plain_part bytes)
    (λ k d h. let below : k < prefix_len is_header_byte bytes = omega (arith, length-take (prefix_len is_header_byte bytes) bytes) in
    ap is_header_byte (get_or-take _ _ _ _ below) ∙ prefix_len_passes is_header_byte bytes k d below)

-- after one line that gives the length another one is an error, whatever the first one gave
second_length : (numeral long : Bool) (n : ℕ) (value : List ℕ) → with_length_of (cond numeral (cond long (Err TooLong) (Ok n)) (Err BadLength)) value ≡ Err BadLength
second_length true true n value = refl
second_length true false n value = refl
second_length false long n value = refl

with_length-lines : (named : List (List ℕ)) (line : List ℕ) → one_length (named ++ line ∷ []) ≡ with_length_of (one_length named) (after_first is_colon line)
with_length-lines [] line = refl
with_length-lines (x ∷ []) line =
    let value = trim (after_first is_colon x) in
    sym (second_length (is_length value) (nat_lt 67108864 (digits_value 10 value)) (digits_value 10 value) (after_first is_colon line))
with_length-lines (x ∷ y ∷ named) line = refl

with_line-verdict : (bad colon names : Bool) (named : List (List ℕ)) (line : List ℕ)
    → cond (bad || (not colon || false)) (Err BadHeader) (one_length (named ++ cond names (line ∷ []) []))
    ≡ cond colon (cond names (with_length_of (cond bad (Err BadHeader) (one_length named)) (after_first is_colon line)) (cond bad (Err BadHeader) (one_length named))) (Err BadHeader)
with_line-verdict true true true named line = refl
with_line-verdict true true false named line = refl
with_line-verdict true false names named line = refl
with_line-verdict false false names named line = refl
with_line-verdict false true true named line = with_length-lines named line
with_line-verdict false true false named line = ap one_length (append-nil named)

pub body_length-push : (lines : List (List ℕ)) (line : List ℕ) → body_length (lines ++ line ∷ []) ≡ with_line_of (body_length lines) line
body_length-push lines line =
    rw (list_any-append (λ (l : List ℕ). not (has_colon l)) lines (line ∷ []), filter-append names_length lines (line ∷ []))
    (with_line-verdict (list_any (λ (l : List ℕ). not (has_colon l)) lines) (has_colon line) (names_length line) (filter names_length lines) line)

-- ---- the walk

-- some lines were read, which give this as the length of the body
pub record Walked (bytes rest : List ℕ) (body : Result ℕ FrameFault) : Type 0 where
  pub lines : List (List ℕ)
  pub are_lines : AreLines lines
  pub text : bytes ≡ ended_lines lines ++ rest
  pub says : body ≡ body_length lines

line_and_rest : (rest line after : List ℕ) → line ≡ plain_part rest → plain_rest rest ≡ 13 ∷ 10 ∷ after → rest ≡ line ++ (13 ∷ 10 ∷ after)
line_and_rest rest line after l a = sym (take-append-drop (prefix_len is_header_byte rest) rest) ∙ ap (λ (t : List ℕ). plain_part rest ++ t) a ∙ ap (λ (t : List ℕ). t ++ (13 ∷ 10 ∷ after)) (sym l)

pub walked_more : (bytes rest line after : List ℕ) (body more : Result ℕ FrameFault) → Walked bytes rest body → line ≡ plain_part rest → plain_rest rest ≡ 13 ∷ 10 ∷ after
    → 0 < length line → more ≡ with_line_of body line → Walked bytes after more
walked_more bytes rest line after body more w l a some m = record {
  lines = w.lines ++ line ∷ [];
  are_lines = AreLines-append w.lines (line ∷ []) w.are_lines ((some, subst IsPlain (sym l) (plain_part_is_plain rest)), tt);
  text = w.text ∙ ap (λ (t : List ℕ). ended_lines w.lines ++ t) (line_and_rest rest line after l a)
      ∙ ap (λ (t : List ℕ). ended_lines w.lines ++ t) (sym (append_assoc line (13 ∷ 10 ∷ []) after))
      ∙ sym (append_assoc (ended_lines w.lines) (line ++ (13 ∷ 10 ∷ [])) after)
      ∙ ap (λ (t : List ℕ). t ++ after) (sym (ended_lines-append w.lines (line ∷ [])));
  says = m ∙ ap (λ (b : Result ℕ FrameFault). with_line_of b line) w.says ∙ sym (body_length-push w.lines line);
}

pub walked_unfinished : (bytes rest : List ℕ) (body : Result ℕ FrameFault) → Walked bytes rest body → IsBegunEnd (plain_rest rest) → IsUnfinished bytes
walked_unfinished bytes rest body w b = record {
  lines = w.lines;
  part = plain_part rest;
  begun_end = plain_rest rest;
  are_lines = w.are_lines;
  plain = plain_part_is_plain rest;
  begun = b;
  text = w.text ∙ ap (λ (t : List ℕ). ended_lines w.lines ++ t) (sym (take-append-drop (prefix_len is_header_byte rest) rest));
}

pub walked_spoiled : (bytes rest : List ℕ) (body : Result ℕ FrameFault) → Walked bytes rest body → IsMisplaced (plain_rest rest) → IsSpoiled bytes
walked_spoiled bytes rest body w m = record {
  lines = w.lines;
  part = plain_part rest;
  rest = plain_rest rest;
  are_lines = w.are_lines;
  plain = plain_part_is_plain rest;
  misplaced = m;
  text = w.text ∙ ap (λ (t : List ℕ). ended_lines w.lines ++ t) (sym (take-append-drop (prefix_len is_header_byte rest) rest));
}

pub walked_whole : (bytes rest line after : List ℕ) (body : Result ℕ FrameFault) → Walked bytes rest body → line ≡ plain_part rest → plain_rest rest ≡ 13 ∷ 10 ∷ after
    → length line ≡ 0 → HasLines bytes (length bytes - length after) body
walked_whole bytes rest line after body w l a none =
    let text : bytes ≡ header_text w.lines ++ after =
    w.text ∙ ap (λ (t : List ℕ). ended_lines w.lines ++ t) (line_and_rest rest line after l a ∙ ap (λ (t : List ℕ). t ++ (13 ∷ 10 ∷ after)) (nil_from_length line none))
    ∙ sym (append_assoc (ended_lines w.lines) (13 ∷ 10 ∷ []) after) in
    let size : length bytes - length after ≡ length (header_text w.lines) = omega (arith, ap length text, length-append (header_text w.lines) after) in
    let behind : drop (length bytes - length after) bytes ≡ after =
    ap (λ (n : ℕ). drop n bytes) size ∙ ap (drop (length (header_text w.lines))) text ∙ drop-append_seam (header_text w.lines) after in
    record {
      lines = w.lines;
      are_lines = w.are_lines;
      text = text ∙ ap (λ (t : List ℕ). header_text w.lines ++ t) (sym behind);
      size = size;
      says = w.says;
    }

pub walked_shorter : (rest after : List ℕ) → plain_rest rest ≡ 13 ∷ 10 ∷ after → length after < length rest
walked_shorter rest after a = omega (arith, ap length a, length-drop (prefix_len is_header_byte rest) rest)
