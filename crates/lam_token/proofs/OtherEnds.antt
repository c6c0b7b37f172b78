-- The first segments of a text stay the same if another end follows them, and so do their tokens.
use Rattle.std.proofs.Common.{◌≡◌, ℕ, ◌+◌, List, [], ◌∷◌, ◌++◌, length, sym, refl, ap, ◌∙◌, subst, append_assoc, arith, length-append}
use Rattle.std.specs.Prelude.{encode_utf8_all}
use Rattle.std.specs.Str.{chars, IsUtf8}
use Rattle.std.proofs.lemmas.Str.{encodes-append, encodes-chars}
use Rattle.lam_token.specs.declared.segment.Segment.{Segment}
use Rattle.lam_token.specs.declared.segment.Segment.TheVariants.{Blank, Comment, Token}
use Rattle.lam_token.specs.Lexeme.{Lexeme, lexeme_at, kind_of, start_of, end_of}
use Rattle.lam_token.specs.Cut.{IsFirst, Part, IsCut, with_token, tokens_of}
use Rattle.lam_token.proofs.Cuts.{some_characters}
use Rattle.lam_token.proofs.NextSegment.{StartsAlike, first_alike, front_alike}
use Rattle.lam_token.proofs.Exchanged.{size, joined, cut_joined}

-- ---- the characters and the bytes of segments

pub joined-append : (ps qs : List Part) → joined (ps ++ qs) ≡ joined ps ++ joined qs
joined-append [] qs = refl
joined-append (p ∷ ps) qs = ap (λ l. p.characters ++ l) (joined-append ps qs) ∙ sym (append_assoc p.characters (joined ps) (joined qs))

-- how many bytes segments have
abbrev pub bytes_of : List Part → ℕ
bytes_of ps = length (encode_utf8_all (joined ps))

pub bytes_of-first : (p : Part) (ps : List Part) → bytes_of (p ∷ ps) ≡ size p + bytes_of ps
bytes_of-first p ps =
    ap length (encodes-append p.characters (joined ps)) ∙ length-append (encode_utf8_all p.characters) (encode_utf8_all (joined ps))

pub bytes_of-append : (ps qs : List Part) → bytes_of (ps ++ qs) ≡ bytes_of ps + bytes_of qs
bytes_of-append ps qs =
    ap (λ l. length (encode_utf8_all l)) (joined-append ps qs)
    ∙ ap length (encodes-append (joined ps) (joined qs))
    ∙ length-append (encode_utf8_all (joined ps)) (encode_utf8_all (joined qs))

-- a text is the bytes of its segments
pub whole_bytes : (text : List ℕ) (ps : List Part) → IsUtf8 text → IsCut (chars text) ps → text ≡ encode_utf8_all (joined ps)
whole_bytes text ps is_text cut = sym (encodes-chars text is_text) ∙ ap encode_utf8_all (cut_joined (chars text) ps cut)

pub bytes_joined : (text : List ℕ) (ps qs : List Part) → IsUtf8 text → IsCut (chars text) (ps ++ qs)
    → text ≡ encode_utf8_all (joined ps) ++ encode_utf8_all (joined qs)
bytes_joined text ps qs is_text cut =
    whole_bytes text (ps ++ qs) is_text cut ∙ ap encode_utf8_all (joined-append ps qs) ∙ encodes-append (joined ps) (joined qs)

-- ---- another end

-- the last of these segments, which the others followed, is the first segment also if this end follows it
abbrev pub LastStays : (others : List Part) → (end : List ℕ) → List Part → Type 0
LastStays others end [] = Unit {0}
LastStays others end (p ∷ []) = (rest : List ℕ) → IsCut rest others → IsFirst p.sort p.characters rest → IsFirst p.sort p.characters end
LastStays others end (p ∷ q ∷ ps) = LastStays others end (q ∷ ps)

-- the segments up to there stay, and those of the new end follow
pub other_end : (text : List ℕ) (ps qs rs : List Part) (end : List ℕ) → IsCut text (ps ++ qs) → LastStays qs end ps → IsCut end rs
    → IsCut (joined ps ++ end) (ps ++ rs)
other_end text [] qs rs end cut stays new = new
other_end text (p ∷ []) qs rs end cut stays new = (end, append_assoc p.characters [] end, stays cut.0 cut.3 cut.2, new)
other_end text (p ∷ q ∷ ps) qs rs end cut stays new =
    let behind = cut.3 in
    let alike : StartsAlike cut.0 (joined (q ∷ ps) ++ end) =
    subst (λ l. StartsAlike l (joined (q ∷ ps) ++ end)) (sym behind.1)
    (subst (StartsAlike (q.characters ++ behind.0)) (sym (append_assoc q.characters (joined ps) end))
    (front_alike q.characters behind.0 (joined ps ++ end) (some_characters q.sort q.characters behind.0 behind.2))) in (
      joined (q ∷ ps) ++ end,
      append_assoc p.characters (joined (q ∷ ps)) end,
      first_alike p.sort p.characters cut.0 (joined (q ∷ ps) ++ end) alike cut.2,
      other_end cut.0 (q ∷ ps) qs rs end behind stays new,
    )

-- and so do the tokens

with_joined : (s : Segment) (bytes : List ℕ) (start : ℕ) (ts us : List Lexeme)
    → with_token s bytes start (ts ++ us) ≡ with_token s bytes start ts ++ us
with_joined Blank bytes start ts us = refl
with_joined Comment bytes start ts us = refl
with_joined (Token k) bytes start ts us = refl

pub tokens_joined : (start : ℕ) (ps rs : List Part) → tokens_of start (ps ++ rs) ≡ tokens_of start ps ++ tokens_of (start + bytes_of ps) rs
tokens_joined start [] rs = let here : start ≡ start + bytes_of [] = omega arith in ap (λ n. tokens_of n rs) here
tokens_joined start (p ∷ ps) rs =
    let bytes = encode_utf8_all p.characters in
    let there : start + length bytes + bytes_of ps ≡ start + bytes_of (p ∷ ps) = omega (arith, bytes_of-first p ps) in
    ap (with_token p.sort bytes start) (tokens_joined (start + length bytes) ps rs)
    ∙ with_joined p.sort bytes start _ _
    ∙ ap (λ n. tokens_of start (p ∷ ps) ++ tokens_of n rs) there

-- the last segments are cut from their own characters
pub cut_back : (text : List ℕ) (ps qs : List Part) → IsCut text (ps ++ qs) → IsCut (joined qs) qs
cut_back text [] qs cut = subst (λ l. IsCut l qs) (cut_joined text qs cut) cut
cut_back text (p ∷ ps) qs cut = cut_back cut.0 ps qs cut.3

-- ---- a token among others

-- the segments in front of a token, its own, and those after it
pub record InFront (start : ℕ) (ps : List Part) (ts : List Lexeme) (t : Lexeme) (us : List Lexeme) : Type 0 where
  pub front : List Part
  pub first : Part
  pub back : List Part
  pub splits : ps ≡ front ++ (first ∷ back)
  pub tokens : tokens_of start front ≡ ts
  pub starts : start_of t ≡ start + bytes_of front
  pub sort : first.sort ≡ Token (kind_of t)
  pub is : t ≡ lexeme_at (kind_of t) (encode_utf8_all first.characters) (start_of t)
  pub others : tokens_of (end_of t) back ≡ us

one_more : (start : ℕ) (p : Part) (ps : List Part) (ts us : List Lexeme) (t : Lexeme) (vs : List Lexeme)
    → InFront (start + size p) ps ts t vs → with_token p.sort (encode_utf8_all p.characters) start ts ≡ us → InFront start (p ∷ ps) us t vs
one_more start p ps ts us t vs found is = record {
  front = p ∷ found.front;
  first = found.first;
  back = found.back;
  splits = ap (λ l. p ∷ l) found.splits;
  tokens = ap (with_token p.sort (encode_utf8_all p.characters) start) found.tokens ∙ is;
  starts = omega (arith, found.starts, bytes_of-first p found.front);
  sort = found.sort;
  is = found.is;
  others = found.others;
}

-- the segments around a token, case by case for the first segment of the text
further : (start : ℕ) (p : Part) (ps : List Part) (s : Segment) (ts : List Lexeme) (t : Lexeme) (us : List Lexeme) → p.sort ≡ s
    → ((xs : List Lexeme) → tokens_of (start + size p) ps ≡ xs ++ (t ∷ us) → InFront (start + size p) ps xs t us)
    → with_token s (encode_utf8_all p.characters) start (tokens_of (start + size p) ps) ≡ ts ++ (t ∷ us) → InFront start (p ∷ ps) ts t us
further start p ps Blank ts t us is behind are =
    one_more start p ps ts ts t us (behind ts are) (ap (λ s. with_token s (encode_utf8_all p.characters) start ts) is)
further start p ps Comment ts t us is behind are =
    one_more start p ps ts ts t us (behind ts are) (ap (λ s. with_token s (encode_utf8_all p.characters) start ts) is)
further start p ps (Token k) [] t us is behind are =
    let bytes = encode_utf8_all p.characters in
    let here : lexeme_at k bytes start ≡ t = cc in
    let others : tokens_of (start + size p) ps ≡ us = cc in
    let at : start ≡ start_of t = ap start_of here in
    record {
      front = [];
      first = p;
      back = ps;
      splits = refl;
      tokens = refl;
      starts = omega (arith, at);
      sort = is ∙ ap (λ u. Token (kind_of u)) here;
      is = sym here ∙ ap (λ u. lexeme_at (kind_of u) bytes (start_of u)) here;
      others = ap (λ u. tokens_of (end_of u) ps) (sym here) ∙ others;
    }
further start p ps (Token k) (x ∷ ts) t us is behind are =
    let here : lexeme_at k (encode_utf8_all p.characters) start ≡ x = cc in
    let others : tokens_of (start + size p) ps ≡ ts ++ (t ∷ us) = cc in
    one_more start p ps ts (x ∷ ts) t us (behind ts others)
    (ap (λ s. with_token s (encode_utf8_all p.characters) start ts) is ∙ ap (λ y. y ∷ ts) here)

pub in_front : (start : ℕ) (ps : List Part) (ts : List Lexeme) (t : Lexeme) (us : List Lexeme) → tokens_of start ps ≡ ts ++ (t ∷ us)
    → InFront start ps ts t us
in_front start [] [] t us are = absurd cc
in_front start [] (x ∷ ts) t us are = absurd cc
in_front start (p ∷ ps) ts t us are = further start p ps p.sort ts t us refl (λ xs rest. in_front (start + size p) ps xs t us rest) are
