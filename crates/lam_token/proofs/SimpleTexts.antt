-- A text of blanks and simple lexemes, one of each kind that is wanted, and its tokens.
use Rattle.std.proofs.Common.{◌≡◌, ℕ, ◌<◌, Bool, true, false, cond, Some, None, List, [], ◌∷◌, ◌++◌, map, codes, refl, ap, ◌∙◌, arith}
use Rattle.std.specs.Prelude.{◌==◌, encode_utf8_all}
use Rattle.std.specs.List.{list_all}
use Rattle.std.specs.Str.{all_scalars}
use Rattle.std.specs.Char.{is_ascii_alphabetic}
use Rattle.std.proofs.lemmas.Bool.{or_right, and_from, and_parts}
use Rattle.unicode_ident.specs.Ident.{is_xid_start, is_xid_continue}
use Rattle.unicode_ident.proofs.IdentLemmas.{is_xid_start-ascii, is_xid_start-is_xid_continue}
use Rattle.lam_token.specs.declared.kind.Kind.{Kind}
use Rattle.lam_token.specs.declared.kind.Kind.TheVariants as kind
use Rattle.lam_token.specs.declared.segment.Segment.TheVariants.{Blank, Token}
use Rattle.lam_token.specs.declared.segment.Beginning.TheVariants as begin
use Rattle.lam_token.specs.Shape.{is_blank, is_digit, is_continuing, mark_of, beginning_of, begun, shape_of}
use Rattle.lam_token.specs.Words.{words, is_capital, word_kind}
use Rattle.lam_token.specs.Lexeme.{kind_of}
use Rattle.lam_token.specs.Cut.{NothingLonger, IsFirst, longest, Part, IsCut, tokens_of}
use Rattle.lam_token.proofs.Shapes.{not_alone}
use Rattle.lam_token.proofs.BlankEnds.{shaped_first}
use Rattle.lam_token.proofs.EditedTexts.{scalars_both}

-- ---- a lexeme of each kind

-- the kinds of tokens that are not lexemes
abbrev pub is_no_lexeme : Kind → Bool
is_no_lexeme kind.BadCharacter = true
is_no_lexeme kind.BadComment = true
is_no_lexeme k = false

-- the characters of a lexeme of this kind, if there is one
abbrev pub simple : Kind → List ℕ
simple kind.Name = codes "a"
simple kind.TypeName = codes "A"
simple kind.Numeral = codes "0"
simple kind.Lambda = codes "lambda"
simple kind.If = codes "if"
simple kind.Then = codes "then"
simple kind.Else = codes "else"
simple kind.Let = codes "let"
simple kind.Letrec = codes "letrec"
simple kind.In = codes "in"
simple kind.Fix = codes "fix"
simple kind.Succ = codes "succ"
simple kind.Pred = codes "pred"
simple kind.IsZero = codes "iszero"
simple kind.True = codes "true"
simple kind.False = codes "false"
simple kind.UnitTerm = codes "unit"
simple kind.As = codes "as"
simple kind.BoolType = codes "Bool"
simple kind.NatType = codes "Nat"
simple kind.UnitType = codes "Unit"
simple kind.TopType = codes "Top"
simple kind.Semicolon = codes ";"
simple kind.Equals = codes "="
simple kind.Colon = codes ":"
simple kind.Dot = codes "."
simple kind.Comma = codes ","
simple kind.OpenParen = codes "("
simple kind.CloseParen = codes ")"
simple kind.OpenBrace = codes "{"
simple kind.CloseBrace = codes "}"
simple kind.Arrow = codes "->"
simple kind.Underscore = codes "_"
simple kind.BadCharacter = []
simple kind.BadComment = []

-- words of the letters of ASCII

letter_is_ascii : (c : ℕ) → is_ascii_alphabetic c ≡ true → c < 128
letter_is_ascii c is = grind arith

letter_is_no_blank : (c : ℕ) → is_ascii_alphabetic c ≡ true → is_blank c ≡ false
unfolding is_blank
letter_is_no_blank c is = grind arith

letter_is_no_digit : (c : ℕ) → is_ascii_alphabetic c ≡ true → is_digit c ≡ false
unfolding is_digit
letter_is_no_digit c is = grind arith

letter_starts : (c : ℕ) → is_ascii_alphabetic c ≡ true → is_xid_start c ≡ true
letter_starts c is = is_xid_start-ascii c (letter_is_ascii c is) ∙ is

letter_begins : (c : ℕ) → is_ascii_alphabetic c ≡ true → beginning_of c ≡ begin.Letter
unfolding beginning_of
letter_begins c is = rw (letter_is_no_blank c is, letter_is_no_digit c is, letter_starts c is) refl

letters_continue : (cs : List ℕ) → list_all is_ascii_alphabetic cs ≡ true → list_all is_continuing cs ≡ true
unfolding is_continuing
letters_continue [] all = refl
letters_continue (c ∷ cs) all =
    let parts = and_parts (is_ascii_alphabetic c) (list_all is_ascii_alphabetic cs) all in
    and_from (is_continuing c) (list_all is_continuing cs)
    (or_right (c == 39) (is_xid_continue c) (is_xid_start-is_xid_continue c (letter_starts c parts.0)))
    (letters_continue cs parts.1)

word_shape : (c : ℕ) (cs : List ℕ) → list_all is_ascii_alphabetic (c ∷ cs) ≡ true → shape_of (c ∷ cs) ≡ Some (Token (word_kind c (encode_utf8_all (c ∷ cs))))
word_shape c cs all =
    let parts = and_parts (is_ascii_alphabetic c) (list_all is_ascii_alphabetic cs) all in
    ap (λ b. begun b c cs) (letter_begins c parts.0)
    ∙ ap (λ b. cond b (Some (Token (word_kind c (encode_utf8_all (c ∷ cs))))) None) (letters_continue cs parts.1)

-- marks

mark_begins : (c : ℕ) → c < 128 → is_blank c ≡ false → is_digit c ≡ false → is_ascii_alphabetic c ≡ false → beginning_of c ≡ mark_of c
unfolding beginning_of
mark_begins c ascii blank digit letter = rw (blank, digit, is_xid_start-ascii c ascii ∙ letter) refl

-- each is a lexeme of its kind
simple_shape : (k : Kind) → is_no_lexeme k ≡ false → shape_of (simple k) ≡ Some (Token k)
unfolding beginning_of mark_of is_blank is_digit word_kind words is_capital lib.Utf8.encode
simple_shape kind.Name good = word_shape 97 [] refl
simple_shape kind.TypeName good = word_shape 65 [] refl
simple_shape kind.Numeral good = refl
simple_shape kind.Lambda good = word_shape 108 (codes "ambda") refl
simple_shape kind.If good = word_shape 105 (codes "f") refl
simple_shape kind.Then good = word_shape 116 (codes "hen") refl
simple_shape kind.Else good = word_shape 101 (codes "lse") refl
simple_shape kind.Let good = word_shape 108 (codes "et") refl
simple_shape kind.Letrec good = word_shape 108 (codes "etrec") refl
simple_shape kind.In good = word_shape 105 (codes "n") refl
simple_shape kind.Fix good = word_shape 102 (codes "ix") refl
simple_shape kind.Succ good = word_shape 115 (codes "ucc") refl
simple_shape kind.Pred good = word_shape 112 (codes "red") refl
simple_shape kind.IsZero good = word_shape 105 (codes "szero") refl
simple_shape kind.True good = word_shape 116 (codes "rue") refl
simple_shape kind.False good = word_shape 102 (codes "alse") refl
simple_shape kind.UnitTerm good = word_shape 117 (codes "nit") refl
simple_shape kind.As good = word_shape 97 (codes "s") refl
simple_shape kind.BoolType good = word_shape 66 (codes "ool") refl
simple_shape kind.NatType good = word_shape 78 (codes "at") refl
simple_shape kind.UnitType good = word_shape 85 (codes "nit") refl
simple_shape kind.TopType good = word_shape 84 (codes "op") refl
simple_shape kind.Semicolon good = ap (λ b. begun b 59 []) (mark_begins 59 (omega arith) refl refl refl)
simple_shape kind.Equals good = ap (λ b. begun b 61 []) (mark_begins 61 (omega arith) refl refl refl)
simple_shape kind.Colon good = ap (λ b. begun b 58 []) (mark_begins 58 (omega arith) refl refl refl)
simple_shape kind.Dot good = ap (λ b. begun b 46 []) (mark_begins 46 (omega arith) refl refl refl)
simple_shape kind.Comma good = ap (λ b. begun b 44 []) (mark_begins 44 (omega arith) refl refl refl)
simple_shape kind.OpenParen good = ap (λ b. begun b 40 []) (mark_begins 40 (omega arith) refl refl refl)
simple_shape kind.CloseParen good = ap (λ b. begun b 41 []) (mark_begins 41 (omega arith) refl refl refl)
simple_shape kind.OpenBrace good = ap (λ b. begun b 123 []) (mark_begins 123 (omega arith) refl refl refl)
simple_shape kind.CloseBrace good = ap (λ b. begun b 125 []) (mark_begins 125 (omega arith) refl refl refl)
simple_shape kind.Arrow good = ap (λ b. begun b 45 (62 ∷ [])) (mark_begins 45 (omega arith) refl refl refl)
simple_shape kind.Underscore good = ap (λ b. begun b 95 []) (mark_begins 95 (omega arith) refl refl refl)
simple_shape kind.BadCharacter good = absurd cc
simple_shape kind.BadComment good = absurd cc

simple_scalars : (k : Kind) → all_scalars (simple k) ≡ true
simple_scalars kind.Name = refl
simple_scalars k = refl

-- ---- a text of them

-- each is the kind of lexemes
abbrev pub AllGood : List Kind → Type 0
AllGood [] = Unit {0}
AllGood (k ∷ ks) = (is_no_lexeme k ≡ false) × AllGood ks

-- a blank in front of each, and one behind the last
abbrev pub simple_text : List Kind → List ℕ
simple_text [] = 32 ∷ []
simple_text (k ∷ ks) = 32 ∷ simple k ++ simple_text ks

blank : Part
blank = record { sort = Blank; characters = 32 ∷ [] }

-- its segments
pub simple_parts : List Kind → List Part
simple_parts [] = blank ∷ []
simple_parts (k ∷ ks) = blank ∷ record { sort = Token k; characters = simple k } ∷ simple_parts ks

pub simple_begins : (ks : List Kind) → (more : List ℕ) × (simple_text ks ≡ 32 ∷ more)
simple_begins [] = ([], refl)
simple_begins (k ∷ ks) = (simple k ++ simple_text ks, refl)

blank_longest : (rest : List ℕ) → NothingLonger (32 ∷ rest) (32 ∷ [])
unfolding beginning_of is_blank
blank_longest rest [] after same longer = absurd (omega arith)
blank_longest rest (d ∷ front) after same longer =
    let head : d ≡ 32 = cc in
    ap (λ x. shape_of (x ∷ front)) head ∙ not_alone Blank front (omega arith)

blank_first : (rest : List ℕ) → IsFirst Blank (32 ∷ []) rest
unfolding beginning_of is_blank
blank_first rest = longest refl (blank_longest rest)

simple_first : (k : Kind) (ks : List Kind) → is_no_lexeme k ≡ false → IsFirst (Token k) (simple k) (simple_text ks)
simple_first k [] good = shaped_first (Token k) (simple k) [] (simple_shape k good)
simple_first k (j ∷ ks) good = shaped_first (Token k) (simple k) (simple j ++ simple_text ks) (simple_shape k good)

pub simple_cut : (ks : List Kind) → AllGood ks → IsCut (simple_text ks) (simple_parts ks)
unfolding simple_parts blank
simple_cut [] good = ([], refl, blank_first [], refl)
simple_cut (k ∷ ks) good = (simple k ++ simple_text ks, refl, blank_first _, (simple_text ks, refl, simple_first k ks good.0, simple_cut ks good.1))

-- its tokens have these kinds
pub simple_kinds : (ks : List Kind) (start : ℕ) → map kind_of (tokens_of start (simple_parts ks)) ≡ ks
unfolding simple_parts blank
simple_kinds [] start = refl
simple_kinds (k ∷ ks) start = ap (λ l. k ∷ l) (simple_kinds ks _)

pub simple_text-scalars : (ks : List Kind) → all_scalars (simple_text ks) ≡ true
simple_text-scalars [] = refl
simple_text-scalars (k ∷ ks) = scalars_both (simple k) (simple_text ks) (simple_scalars k) (simple_text-scalars ks)
