-- What a list of characters is by itself: a blank, a comment, a lexeme, or none of these.
use Rattle.std.specs.Prelude.{ℕ, ◌+◌, ◌-◌, Bool, false, ◌&&◌, ◌||◌, ◌==◌, nat_le, if◌then◌else◌, Option, Some, None, List, [], ◌∷◌, encode_utf8_all}
use Rattle.std.specs.List.{list_all}
use Rattle.unicode_ident.specs.Ident.{is_xid_start, is_xid_continue}
use Rattle.lam_token.specs.declared.kind.Kind.TheVariants.{Name, Numeral, Semicolon, Equals, Colon, Dot, Comma, OpenParen, CloseParen, OpenBrace, CloseBrace, Arrow, Underscore}
use Rattle.lam_token.specs.declared.segment.Segment.{Segment}
use Rattle.lam_token.specs.declared.segment.Segment.TheVariants as segment
use Rattle.lam_token.specs.declared.segment.Beginning.{Beginning}
use Rattle.lam_token.specs.declared.segment.Beginning.TheVariants as first
use Rattle.lam_token.specs.Words.{word_kind}

-- space, tab, line feed, carriage return
unfoldable pub is_blank : ℕ → Bool
is_blank c = (c == 32) || (c == 9) || (c == 10) || (c == 13)

-- 0 to 9
unfoldable pub is_digit : ℕ → Bool
is_digit c = nat_le 48 c && nat_le c 57

-- the characters that may continue an identifier: XID_Continue, or an apostrophe
unfoldable pub is_continuing : ℕ → Bool
is_continuing c = (c == 39) || is_xid_continue c

-- what may begin with a character that is not a blank, digit or letter
unfoldable pub mark_of : ℕ → Beginning
mark_of c =
    if c == 47 then first.Slash
    else if c == 95 then first.Underscore
    else if c == 45 then first.Dash
    else if c == 59 then first.Mark Semicolon
    else if c == 61 then first.Mark Equals
    else if c == 58 then first.Mark Colon
    else if c == 46 then first.Mark Dot
    else if c == 44 then first.Mark Comma
    else if c == 40 then first.Mark OpenParen
    else if c == 41 then first.Mark CloseParen
    else if c == 123 then first.Mark OpenBrace
    else if c == 125 then first.Mark CloseBrace
    else first.Stray

-- what may begin with a character
unfoldable pub beginning_of : ℕ → Beginning
beginning_of c =
    if is_blank c then first.Blank
    else if is_digit c then first.Digit
    else if is_xid_start c then first.Letter
    else mark_of c

-- a slash and a star open a comment
unfoldable pub is_opening : ℕ → ℕ → Bool
is_opening before c = (before == 47) && (c == 42)

-- a star and a slash close it
unfoldable pub is_closing : ℕ → ℕ → Bool
is_closing before c = (before == 42) && (c == 47)

-- What is left after a comment with this many open marks; None if the text ends before it closes.
-- Marks are two characters and are read from the left: `before` is the previous character, or a space if it was part of a mark.
unfoldable pub rest_of_comment : (depth before : ℕ) → List ℕ → Option (List ℕ)
rest_of_comment depth before [] = None
rest_of_comment depth before (c ∷ cs) =
    if is_opening before c then rest_of_comment (depth + 1) 32 cs
    else if is_closing before c then (if depth == 1 then Some cs else rest_of_comment (depth - 1) 32 cs)
    else rest_of_comment depth c cs

-- a segment of this sort, if nothing follows
abbrev pub alone : Segment → List ℕ → Option Segment
alone s [] = Some s
alone s (c ∷ cs) = None

-- a comment, if it closes where the text ends
abbrev pub closed_at_end : Option (List ℕ) → Option Segment
closed_at_end (Some rest) = alone segment.Comment rest
closed_at_end None = None

-- what the first character and the following ones are together, given what the first may begin
abbrev pub begun : Beginning → ℕ → List ℕ → Option Segment
begun first.Blank c cs = alone segment.Blank cs
begun first.Slash c [] = None
begun first.Slash c (d ∷ cs) = if d == 42 then closed_at_end (rest_of_comment 1 32 cs) else None
begun first.Digit c cs = if list_all is_digit cs then Some (segment.Token Numeral) else None
begun first.Letter c cs = if list_all is_continuing cs then Some (segment.Token (word_kind c (encode_utf8_all (c ∷ cs)))) else None
begun first.Underscore c [] = Some (segment.Token Underscore)
begun first.Underscore c (d ∷ cs) = if list_all is_continuing (d ∷ cs) then Some (segment.Token Name) else None
begun first.Dash c [] = None
begun first.Dash c (d ∷ cs) = if d == 62 then alone (segment.Token Arrow) cs else None
begun (first.Mark kind) c cs = alone (segment.Token kind) cs
begun first.Stray c cs = None

-- what a whole list of characters is
abbrev pub shape_of : List ℕ → Option Segment
shape_of [] = None
shape_of (c ∷ cs) = begun (beginning_of c) c cs

-- the first character is a slash and the second is a star
abbrev pub opened : Beginning → List ℕ → Bool
opened first.Slash (d ∷ cs) = d == 42
opened _ _ = false

-- the text begins with the mark that opens a comment
abbrev pub opens_comment : List ℕ → Bool
opens_comment [] = false
opens_comment (c ∷ cs) = opened (beginning_of c) cs
