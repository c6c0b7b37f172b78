-- Which ASCII characters may begin an identifier, and which may continue one.
use Rattle.std.proofs.lemmas.Str.{chars_from_encodes}
use Rattle.std.proofs.Common.{◌≡◌, ◌==◌, ◌||◌, IsUtf8, subst, length-append, ◌<◌, ℕ, true, false, sym, ◌∙◌, ap, refl, arith, codes, [], ◌∷◌, length, Some, if◌then◌else◌}
use Rattle.std.specs.Char.{is_ascii_alphabetic, is_ascii_alphanumeric}
use Rattle.unicode_ident.specs.Ident.{is_xid_start, is_xid_continue}
use Rattle.unicode_ident.proofs.IdentLemmas.{is_xid_start-ascii, is_xid_continue-ascii}
use Rattle.lam_token.specs.declared.kind.Kind.TheVariants.{Name}
use Rattle.lam_token.specs.declared.segment.Segment.TheVariants.{Token}
use Rattle.lam_token.specs.declared.segment.Beginning.TheVariants as first
use Rattle.lam_token.specs.Shape.{is_blank, is_digit, mark_of, beginning_of, begun, shape_of}
use Rattle.lam_token.specs.Words.{words, is_capital, word_kind}
use Rattle.lam_token.specs.Cut.{IsFirst, longest}
use Rattle.std.specs.Str.{chars}

pub alphabetic : (c : ℕ) → c < 128 → is_ascii_alphabetic c ≡ is_xid_start c
alphabetic c ascii = sym (is_xid_start-ascii c ascii)

pub alphanumeric : (c : ℕ) → c < 128 → is_ascii_alphanumeric c ≡ true → true ≡ is_xid_continue c
alphanumeric c ascii is = sym (is_xid_continue-ascii c ascii ∙ ap (λ b. b || (c == 95)) is)

pub underscore : (c : ℕ) → c < 128 → is_ascii_alphanumeric c ≡ false → (c == 95) ≡ is_xid_continue c
underscore c ascii is = sym (is_xid_continue-ascii c ascii ∙ ap (λ b. b || (c == 95)) is)

-- the letter a is a name
letter_begins : shape_of (codes "a") ≡ Some (Token Name)
unfolding beginning_of is_blank is_digit word_kind words is_capital lib.Utf8.encode
letter_begins = ap (λ b. begun (if b then first.Letter else mark_of 97) 97 []) (sym (alphabetic 97 (omega arith)))

letter_is_utf8 : IsUtf8 (codes "a")
unfolding lib.Utf8.encode
letter_is_utf8 = (97 ∷ [], (refl, refl))

letter_is_read : codes "a" ≡ chars (codes "a")
unfolding lib.Utf8.encode
letter_is_read = chars_from_encodes (97 ∷ []) (codes "a") letter_is_utf8 refl

pub letter_is_name : IsFirst (Token Name) (chars (codes "a")) []
letter_is_name =
    subst (λ l. IsFirst (Token Name) l []) letter_is_read (longest letter_begins (λ front after whole longer. absurd (omega (arith, longer, ap length whole, length-append front after))))

pub ruleset ascii_names = (alphabetic, alphanumeric, underscore)
