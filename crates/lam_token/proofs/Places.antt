-- The spans of tokens of one kind are those of segments, which a name can replace.
use Rattle.std.proofs.Common.{◌≡◌, ℕ, zero, suc, ◌+◌, ◌<◌, ◌≤◌, List, [], ◌∷◌, length, ◌⊎◌, inl, inr, ⊎_elim, sym, ap, ◌∙◌, subst, arith}
use Rattle.std.specs.Prelude.{encode_utf8_all, Contains}
use Rattle.lam_token.specs.declared.kind.Kind.{Kind}
use Rattle.lam_token.specs.declared.segment.Segment.{Segment}
use Rattle.lam_token.specs.declared.segment.Segment.TheVariants.{Blank, Comment, Token}
use Rattle.lam_token.specs.declared.span.Span.{Span}
use Rattle.lam_token.specs.Lexeme.{Lexeme, lexeme_at, kind_of, span_of}
use Rattle.lam_token.specs.Cut.{Part, IsCut, with_token, tokens_of}
use Rattle.lam_token.specs.Edits.{AreSpansOf}
use Rattle.lam_token.proofs.Exchanged.{size, span_at, spelled, Exchanged, nothing, kept, renamed, first_size}

-- each segment has bytes
abbrev pub HaveBytes : List Part → Type 0
HaveBytes [] = Unit {0}
HaveBytes (p ∷ ps) = (0 < size p) × HaveBytes ps

pub have_bytes : (text : List ℕ) (ps : List Part) → IsCut text ps → HaveBytes ps
have_bytes text [] cut = tt
have_bytes text (p ∷ ps) cut = (first_size p cut.0 cut.2, have_bytes cut.0 ps cut.3)

-- one of these segments, of which the first begins at `start`, is of this kind and has this span
abbrev pub IsPlace : Kind → (start : ℕ) → List Part → Span → Type 0
IsPlace kind start [] s = ⊥
IsPlace kind start (p ∷ ps) s = ((p.sort ≡ Token kind) × (s ≡ span_at start p)) ⊎ IsPlace kind (start + size p) ps s

-- such places, one behind the other, from a byte on
abbrev pub ArePlaces : Kind → (start : ℕ) → List Part → (low : ℕ) → List Span → Type 0
ArePlaces kind start ps low [] = Unit {0}
ArePlaces kind start ps low (s ∷ spans) = (low ≤ s.start) × IsPlace kind start ps s × ArePlaces kind start ps s.end spans

-- ---- the spans of tokens are such places

contains_tail : (t u : Lexeme) (us : List Lexeme) → Contains (u ∷ us) t → (u ≡ t) ⊎ Contains us t
contains_tail t u us (zero, inside, here) = inl here
contains_tail t u us (suc k, inside, here) = inr (k, omega (arith, inside), here)

with_token_place : (s : Segment) (bytes : List ℕ) (start : ℕ) (others : List Lexeme) (t : Lexeme) → Contains (with_token s bytes start others) t
    → ((s ≡ Token (kind_of t)) × (span_of t ≡ record { start = start; end = start + length bytes })) ⊎ Contains others t
with_token_place Blank bytes start others t has = inr has
with_token_place Comment bytes start others t has = inr has
with_token_place (Token k) bytes start others t has =
    ⊎_elim
    (λ (first : lexeme_at k bytes start ≡ t). inl (ap (λ u. Token (kind_of u)) first, sym (ap span_of first)))
    (λ (later : Contains others t). inr later)
    (contains_tail t (lexeme_at k bytes start) others has)

token_place : (kind : Kind) (start : ℕ) (ps : List Part) (t : Lexeme) → Contains (tokens_of start ps) t → kind_of t ≡ kind → IsPlace kind start ps (span_of t)
token_place kind start [] t has is = absurd (omega (arith, has.1))
token_place kind start (p ∷ ps) t has is =
    ⊎_elim
    (λ (first : (p.sort ≡ Token (kind_of t)) × (span_of t ≡ span_at start p)). inl (first.0 ∙ ap Token is, first.1))
    (λ (later : Contains (tokens_of (start + size p) ps) t). inr (token_place kind (start + size p) ps t later is))
    (with_token_place p.sort (encode_utf8_all p.characters) start (tokens_of (start + size p) ps) t has)

pub span_places : (kind : Kind) (start : ℕ) (ps : List Part) (low : ℕ) (spans : List Span) → AreSpansOf kind (tokens_of start ps) low spans → ArePlaces kind start ps low spans
span_places kind start ps low [] are = tt
span_places kind start ps low (s ∷ spans) are =
    let t = are.1.0 in
    (are.0, subst (IsPlace kind start ps) are.1.3 (token_place kind start ps t are.1.1 are.1.2), span_places kind start ps s.end spans are.2)

-- ---- a name can be put in their place

place_inside : (kind : Kind) (start : ℕ) (ps : List Part) (s : Span) → HaveBytes ps → IsPlace kind start ps s → (start ≤ s.start) × (s.start < s.end)
place_inside kind start [] s have place = absurd place
place_inside kind start (p ∷ ps) s have place =
    ⊎_elim
    (λ (first : (p.sort ≡ Token kind) × (s ≡ span_at start p)).
    subst (λ (u : Span). (start ≤ u.start) × (u.start < u.end)) (sym first.1) (omega arith, omega (arith, have.0)))
    (λ (later : IsPlace kind (start + size p) ps s).
    let inside = place_inside kind (start + size p) ps s have.1 later in (omega (arith, inside.0), inside.1))
    place

-- such a span that begins after the first byte is that of a segment after the first
place_behind : (kind : Kind) (start : ℕ) (p : Part) (ps : List Part) (s : Span) → start < s.start → IsPlace kind start (p ∷ ps) s → IsPlace kind (start + size p) ps s
place_behind kind start p ps s behind place =
    ⊎_elim
    (λ (first : (p.sort ≡ Token kind) × (s ≡ span_at start p)). let begins : s.start ≡ start = ap (λ (u : Span). u.start) first.1 in absurd (omega arith))
    (λ (later : IsPlace kind (start + size p) ps s). later)
    place

places_behind : (kind : Kind) (start : ℕ) (p : Part) (ps : List Part) (low : ℕ) (spans : List Span) → HaveBytes (p ∷ ps) → start < low → ArePlaces kind start (p ∷ ps) low spans → ArePlaces kind (start + size p) ps low spans
places_behind kind start p ps low [] have behind places = tt
places_behind kind start p ps low (s ∷ spans) have behind places =
    let inside = place_inside kind start (p ∷ ps) s have places.1 in
    (places.0, place_behind kind start p ps s (omega (arith, places.0)) places.1, places_behind kind start p ps s.end spans have (omega arith) places.2)

pub exchange : (kind : Kind) (name : List ℕ) (start : ℕ) (ps : List Part) (spans : List Span) → HaveBytes ps → ArePlaces kind start ps start spans → (qs : List Part) × Exchanged kind name start ps spans qs
exchange kind name start [] [] have places = ([], nothing)
exchange kind name start [] (s ∷ spans) have places = absurd places.1
exchange kind name start (p ∷ ps) [] have places = let others = exchange kind name (start + size p) ps [] have.1 tt in (p ∷ others.0, kept have.0 others.1)
exchange kind name start (p ∷ ps) (s ∷ spans) have places =
    ⊎_elim
    (λ (first : (p.sort ≡ Token kind) × (s ≡ span_at start p)).
    let ends : s.end ≡ start + size p = ap (λ (u : Span). u.end) first.1 in
    let later = subst (λ low. ArePlaces kind (start + size p) ps low spans) ends (places_behind kind start p ps s.end spans have (omega (arith, have.0)) places.2) in
    let others = exchange kind name (start + size p) ps spans have.1 later in
    (spelled p name ∷ others.0, subst (λ u. Exchanged kind name start (p ∷ ps) (u ∷ spans) (spelled p name ∷ others.0)) (sym first.1) (renamed have.0 first.0 others.1)))
    (λ (later : IsPlace kind (start + size p) ps s).
    let inside = place_inside kind (start + size p) ps s have.1 later in
    let others = exchange kind name (start + size p) ps (s ∷ spans) have.1 (inside.0, later, places_behind kind start p ps s.end spans have (omega arith) places.2) in
    (p ∷ others.0, kept have.0 others.1))
    places.1
