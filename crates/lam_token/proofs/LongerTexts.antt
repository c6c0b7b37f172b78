-- A text, or its front up to a token, can go on with tokens of any kinds: after a blank come simple lexemes of these kinds.
use Rattle.std.proofs.Common.{◌≡◌, ℕ, ◌+◌, ◌<◌, true, List, [], ◌∷◌, ◌++◌, length, take, map, ◌⊎◌, inl, inr, ⊎_elim, sym, ap, ◌∙◌, subst, arith, length-append}
use Rattle.std.specs.Prelude.{encode_utf8_all}
use Rattle.std.specs.Str.{chars, IsUtf8, all_scalars}
use Rattle.std.proofs.lemmas.List.{append-nil, take_at}
use Rattle.std.proofs.lemmas.Str.{encodes-append, scalars-chars, chars_from_encodes}
use Rattle.lam_token.specs.declared.kind.Kind.{Kind}
use Rattle.lam_token.specs.declared.kind.Kind.TheVariants.{BadComment}
use Rattle.lam_token.specs.declared.segment.Segment.{Segment}
use Rattle.lam_token.specs.declared.segment.Segment.TheVariants.{Blank, Comment, Token}
use Rattle.lam_token.specs.Lexeme.{Lexeme, lexeme_at, kind_of, start_of}
use Rattle.lam_token.specs.Cut.{Part, IsCut, with_token, tokens_of, AreTokensOf}
use Rattle.lam_token.proofs.Cuts.{some_characters}
use Rattle.lam_token.proofs.Exchanged.{size, joined, cut_joined}
use Rattle.lam_token.proofs.EditedTexts.{scalars_both, scalars_parts}
use Rattle.lam_token.proofs.BlankEnds.{blank_ends}
use Rattle.lam_token.proofs.OtherEnds.{LastStays, other_end, tokens_joined, joined-append, whole_bytes, bytes_joined, in_front}
use Rattle.lam_token.proofs.SimpleTexts.{AllGood, simple_text, simple_parts, simple_begins, simple_cut, simple_kinds, simple_text-scalars}

-- ---- another end

-- the last segment is not an unclosed comment
abbrev LastCloses : List Part → Type 0
LastCloses [] = Unit {0}
LastCloses (p ∷ []) = p.sort ≡ Token BadComment → ⊥
LastCloses (p ∷ q ∷ ps) = LastCloses (q ∷ ps)

-- no unclosed comment comes just before the new end: there were segments after these, or the last of these is not one
abbrev MayEnd : List Part → List Part → Type 0
MayEnd ps qs = (0 < length qs) ⊎ LastCloses ps

-- a cut text with segments has characters
some_left : (text : List ℕ) (ps : List Part) → IsCut text ps → 0 < length ps → 0 < length text
some_left text [] cut some = absurd (omega arith)
some_left text (p ∷ ps) cut some = omega (arith, ap length cut.1, length-append p.characters cut.0, some_characters p.sort p.characters cut.0 cut.2)

last_closes : (p : Part) (rest : List ℕ) (qs : List Part) → IsCut rest qs → MayEnd (p ∷ []) qs → p.sort ≡ Token BadComment → rest ≡ [] → ⊥
last_closes p rest qs cut may is_open ended =
    ⊎_elim
    (λ (some : 0 < length qs). absurd (omega (arith, some_left rest qs cut some, ap length ended)))
    (λ (closed : p.sort ≡ Token BadComment → ⊥). closed is_open)
    may

-- so the last segment stays if a blank follows it
may_end-stays : (ps qs : List Part) (more : List ℕ) → MayEnd ps qs → LastStays qs (32 ∷ more) ps
may_end-stays [] qs more may = tt
may_end-stays (p ∷ []) qs more may = λ rest cut first. blank_ends p.sort p.characters rest more (last_closes p rest qs cut may) first
may_end-stays (p ∷ q ∷ ps) qs more may = may_end-stays (q ∷ ps) qs more may

-- ---- the text that goes on

-- Some text begins with these bytes, and its tokens are these and then others of those kinds.
pub record GoesOnTo (front : List ℕ) (tokens : List Lexeme) (kinds : List Kind) : Type 0 where
  pub more : List ℕ
  pub rest : List Lexeme
  pub is_text : IsUtf8 (front ++ more)
  pub are_tokens : AreTokensOf (front ++ more) (tokens ++ rest)
  pub are_kinds : map kind_of rest ≡ kinds

-- the characters of segments at the start of a text, and a new end, are a text
longer_scalars : (text : List ℕ) (ps qs : List Part) (end : List ℕ) → IsUtf8 text → IsCut (chars text) (ps ++ qs) → all_scalars end ≡ true → all_scalars (joined ps ++ end) ≡ true
longer_scalars text ps qs end is_text cut all =
    let whole : chars text ≡ joined ps ++ joined qs = cut_joined (chars text) (ps ++ qs) cut ∙ joined-append ps qs in
    scalars_both (joined ps) end (scalars_parts (joined ps) (joined qs) (sym (ap all_scalars whole) ∙ scalars-chars text is_text)).0 all

goes_on_to : (text front : List ℕ) (tokens : List Lexeme) (kinds : List Kind) (ps qs : List Part) → IsUtf8 text → IsCut (chars text) (ps ++ qs) → MayEnd ps qs → tokens_of 0 ps ≡ tokens → front ≡ encode_utf8_all (joined ps) → AllGood kinds
    → GoesOnTo front tokens kinds
goes_on_to text front tokens kinds ps qs is_text cut may are bytes good =
    let end = simple_text kinds in
    let there = 0 + length (encode_utf8_all (joined ps)) in
    let whole : encode_utf8_all (joined ps ++ end) ≡ front ++ encode_utf8_all end = encodes-append (joined ps) end ∙ ap (λ l. l ++ encode_utf8_all end) (sym bytes) in
    let is_longer : IsUtf8 (front ++ encode_utf8_all end) = (joined ps ++ end, (longer_scalars text ps qs end is_text cut (simple_text-scalars kinds), whole)) in
    let begins = simple_begins kinds in
    let stays = subst (λ l. LastStays qs l ps) (sym begins.1) (may_end-stays ps qs begins.0 may) in
    let new = other_end (chars text) ps qs (simple_parts kinds) end cut stays (simple_cut kinds good) in
    record {
      more = encode_utf8_all end;
      rest = tokens_of there (simple_parts kinds);
      is_text = is_longer;
      are_tokens = record {
        parts = ps ++ simple_parts kinds;
        cut = subst (λ l. IsCut l (ps ++ simple_parts kinds)) (chars_from_encodes (joined ps ++ end) (front ++ encode_utf8_all end) is_longer whole) new;
        tokens_are = sym (tokens_joined 0 ps (simple_parts kinds) ∙ ap (λ l. l ++ tokens_of there (simple_parts kinds)) are);
      };
      are_kinds = simple_kinds kinds there;
    }

-- ---- at the end of a text

-- the last token is not an unclosed comment
abbrev pub LastTokenCloses : List Lexeme → Type 0
LastTokenCloses [] = Unit {0}
LastTokenCloses (t ∷ []) = kind_of t ≡ BadComment → ⊥
LastTokenCloses (t ∷ u ∷ ts) = LastTokenCloses (u ∷ ts)

-- then the last segment is not one either
token_closes : (s : Segment) (bytes : List ℕ) (start : ℕ) → LastTokenCloses (with_token s bytes start []) → s ≡ Token BadComment → ⊥
token_closes Blank bytes start closes is = cc
token_closes Comment bytes start closes is = cc
token_closes (Token k) bytes start closes is = closes cc

-- the same without the first token
last_left : (t : Lexeme) (ts : List Lexeme) → LastTokenCloses (t ∷ ts) → LastTokenCloses ts
last_left t [] closes = tt
last_left t (u ∷ ts) closes = closes

others_last : (s : Segment) (bytes : List ℕ) (start : ℕ) (ts : List Lexeme) → LastTokenCloses (with_token s bytes start ts) → LastTokenCloses ts
others_last Blank bytes start ts closes = closes
others_last Comment bytes start ts closes = closes
others_last (Token k) bytes start ts closes = last_left (lexeme_at k bytes start) ts closes

segments_close : (start : ℕ) (ps : List Part) → LastTokenCloses (tokens_of start ps) → LastCloses ps
segments_close start [] closes = tt
segments_close start (p ∷ []) closes = token_closes p.sort (encode_utf8_all p.characters) start closes
segments_close start (p ∷ q ∷ ps) closes = segments_close (start + size p) (q ∷ ps) (others_last p.sort (encode_utf8_all p.characters) start _ closes)

-- a text that ends in no open comment goes on
pub text_goes_on : (text : List ℕ) (tokens : List Lexeme) (kinds : List Kind) → IsUtf8 text → AreTokensOf text tokens → LastTokenCloses tokens → AllGood kinds → GoesOnTo text tokens kinds
text_goes_on text tokens kinds is_text are closes good =
    let ps = are.parts in
    goes_on_to text text tokens kinds ps [] is_text (subst (IsCut (chars text)) (sym (append-nil ps)) are.cut) (inr (segments_close 0 ps (subst LastTokenCloses are.tokens_are closes)))
    (sym are.tokens_are) (whole_bytes text ps is_text are.cut) good

-- ---- in front of a token

-- the front of a text before one of its tokens goes on with other tokens
pub front_goes_on : (text : List ℕ) (tokens : List Lexeme) (t : Lexeme) (behind : List Lexeme) (kinds : List Kind) → IsUtf8 text → AreTokensOf text (tokens ++ (t ∷ behind)) → AllGood kinds → GoesOnTo (take (start_of t) text) tokens kinds
front_goes_on text tokens t behind kinds is_text are good =
    let found = in_front 0 are.parts tokens t behind (sym are.tokens_are) in
    let ps = found.front in
    let qs = found.first ∷ found.back in
    let cut : IsCut (chars text) (ps ++ qs) = subst (IsCut (chars text)) found.splits are.cut in
    let whole = bytes_joined text ps qs is_text cut in
    let front : take (start_of t) text ≡ encode_utf8_all (joined ps) =
    ap (take (start_of t)) whole ∙ take_at (encode_utf8_all (joined ps)) (encode_utf8_all (joined qs)) (start_of t) (omega (arith, found.starts)) in
    goes_on_to text (take (start_of t) text) tokens kinds ps qs is_text cut (inl (omega arith)) found.tokens front good
