-- The written frame is read back.
use Rattle.std.proofs.Common.{◌≡◌, ◌≤◌, ◌<◌, length, ℕ, true, false, nat_lt, List, [], ◌∷◌, ◌++◌, Ok, refl, ap, ◌∙◌, arith, append_assoc, length-append}
use Rattle.std.specs.Prelude.{codes, decimal}
use Rattle.std.specs.Char.{is_ascii_digit}
use Rattle.std.specs.List.{list_all}
use Rattle.std.specs.Str.Parse.{AllDigits, digits_value}
use Rattle.std.proofs.lemmas.Bool.Decides.{nat_tests}
use Rattle.std.proofs.lemmas.Fmt.{decimal_is_IsNumeral, length-decimal-le}
use Rattle.std.proofs.lemmas.List.Folds.{list_all-append}
use Rattle.std.proofs.lemmas.Str.Parse.{digit_from_value}
use Rattle.lam_frame.specs.Header.{IsPlain, body_length, ended_lines, header_text, is_blank_byte, is_length, is_header_byte, length_in, trim, trim_back}
use Rattle.lam_frame.specs.Frame.{frame_text, header_line}
use Rattle.lam_frame.specs.Laws.{IsReadBack}

-- ---- digits

digits_plain : (ds : List ℕ) → AllDigits 10 ds → list_all is_header_byte ds ≡ true
digits_plain [] a = refl
digits_plain (d ∷ ds) a =
    let within = digit_from_value d a.0 in
    let here : is_header_byte d ≡ true = grind (arith, nat_tests, within) in
    rw here (digits_plain ds a.1)

digits_ascii : (ds : List ℕ) → AllDigits 10 ds → list_all is_ascii_digit ds ≡ true
digits_ascii [] a = refl
digits_ascii (d ∷ ds) a =
    let within = digit_from_value d a.0 in
    let here : is_ascii_digit d ≡ true = grind (arith, nat_tests, within) in
    rw here (digits_ascii ds a.1)

digit_not_blank : (d : ℕ) → (48 ≤ d) × (d ≤ 57) → is_blank_byte d ≡ false
digit_not_blank d within = grind (arith, nat_tests, within)

digits_untrimmed : (ds : List ℕ) → AllDigits 10 ds → trim_back ds ≡ ds
digits_untrimmed [] a = refl
digits_untrimmed (d ∷ ds) a = rw (digit_not_blank d (digit_from_value d a.0)) (ap (λ (l : List ℕ). d ∷ l) (digits_untrimmed ds a.1))

digits_trimmed : (ds : List ℕ) → 0 < length ds → AllDigits 10 ds → trim (32 ∷ ds) ≡ ds
digits_trimmed [] some a = absurd (omega arith)
digits_trimmed (d ∷ ds) some a = rw (digit_not_blank d (digit_from_value d a.0)) (digits_untrimmed (d ∷ ds) a)

length_in-digits : (ds : List ℕ) (n : ℕ) → 0 < length ds → length ds ≤ 19 → AllDigits 10 ds → digits_value 10 ds ≡ n → n ≤ 67108864 → length_in ds ≡ Ok n
length_in-digits ds n some few a value small =
    let numeral : is_length ds ≡ true = grind (arith, nat_tests, digits_ascii ds a) in
    let fits : nat_lt 67108864 (digits_value 10 ds) ≡ false = grind (arith, nat_tests, value) in
    rw (numeral, fits) (ap (λ (k : ℕ). Ok k) value)

-- ---- the header part

line_plain : (ds : List ℕ) → AllDigits 10 ds → IsPlain (codes "Content-Length: " ++ ds)
line_plain ds a = list_all-append is_header_byte (codes "Content-Length: ") ds ∙ digits_plain ds a

line_length : (ds : List ℕ) → body_length ((codes "Content-Length: " ++ ds) ∷ []) ≡ length_in (trim (32 ∷ ds))
line_length ds = refl

frame_split : (ds body more : List ℕ) → ((codes "Content-Length: " ++ (ds ++ (13 ∷ 10 ∷ 13 ∷ 10 ∷ []))) ++ body) ++ more ≡ header_text ((codes "Content-Length: " ++ ds) ∷ []) ++ (body ++ more)
frame_split ds body more = simp append_assoc

pub is_read_back : (body : List ℕ) → IsReadBack body
unfolding frame_text header_line
is_read_back body small more =
    let ds = decimal (length body) in
    let numeral = decimal_is_IsNumeral (length body) (omega (arith, small)) in
    let few : length ds ≤ 19 = length-decimal-le 19 (length body) (omega arith) (omega (arith, small)) (omega (arith, small)) in
    record {
      lines = (codes "Content-Length: " ++ ds) ∷ [];
      header = record {
        are_lines = ((omega arith, line_plain ds numeral.0.1), tt);
        text = frame_split ds body more;
        fits = omega (arith, few, length-append (ended_lines ((codes "Content-Length: " ++ ds) ∷ [])) (13 ∷ 10 ∷ []), length-append (codes "Content-Length: " ++ ds) (13 ∷ 10 ∷ []), length-append (codes "Content-Length: ") ds);
      };
      size = line_length ds ∙ ap length_in (digits_trimmed ds numeral.0.0 numeral.0.1) ∙ length_in-digits ds (length body) numeral.0.0 few numeral.0.1 numeral.1 small;
    }
