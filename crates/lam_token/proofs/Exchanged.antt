-- Some segments of a text that are names are replaced by another name: what results are the segments of the new text.
use Rattle.std.proofs.Common.{◌≡◌, ℕ, ◌+◌, ◌<◌, List, [], ◌∷◌, ◌++◌, length, Some, sym, refl, ap, ◌∙◌, subst, arith}
use Rattle.std.specs.Prelude.{encode_utf8_all}
use Rattle.std.proofs.lemmas.Str.{length-le-encodes}
use Rattle.lam_token.specs.declared.kind.Kind.{Kind}
use Rattle.lam_token.specs.declared.segment.Segment.TheVariants.{Token}
use Rattle.lam_token.specs.declared.span.Span.{Span}
use Rattle.lam_token.specs.Shape.{shape_of}
use Rattle.lam_token.specs.Cut.{IsFirst, Part, IsCut}
use Rattle.lam_token.specs.Edits.{IsNameKind}
use Rattle.lam_token.proofs.Cuts.{some_characters}
use Rattle.lam_token.proofs.NextSegment.{StartsAlike, first_alike, name_longest, first_renamed, front_alike, names_alike}

-- how many bytes a segment has
abbrev pub size : Part → ℕ
size p = length (encode_utf8_all p.characters)

-- where a segment stands that begins at this byte
abbrev pub span_at : (start : ℕ) → Part → Span
span_at start p = record { start = start; end = start + size p }

-- the characters of segments
abbrev pub joined : List Part → List ℕ
joined [] = []
joined (p ∷ ps) = p.characters ++ joined ps

-- a segment with other characters
abbrev pub spelled : Part → List ℕ → Part
spelled p name = record p { characters = name }

-- Segments that begin at this byte; the spans of some of them, all of one kind; and the segments that result if a name replaces these.
pub data Exchanged (kind : Kind) (name : List ℕ) : (start : ℕ) → List Part → List Span → List Part → Type 0 where
  nothing : {start : ℕ} → Exchanged kind name start [] [] []
  kept : {start : ℕ} {p : Part} {ps qs : List Part} {spans : List Span} → 0 < size p → Exchanged kind name (start + size p) ps spans qs → Exchanged kind name start (p ∷ ps) spans (p ∷ qs)
  renamed : {start : ℕ} {p : Part} {ps qs : List Part} {spans : List Span} → 0 < size p → p.sort ≡ Token kind → Exchanged kind name (start + size p) ps spans qs
      → Exchanged kind name start (p ∷ ps) (span_at start p ∷ spans) (spelled p name ∷ qs)

pub first_size : (p : Part) (rest : List ℕ) → IsFirst p.sort p.characters rest → 0 < size p
first_size p rest first = omega (arith, some_characters p.sort p.characters rest first, length-le-encodes p.characters)

-- a cut text is the characters of its segments
pub cut_joined : (text : List ℕ) (ps : List Part) → IsCut text ps → text ≡ joined ps
cut_joined text [] cut = cut
cut_joined text (p ∷ ps) cut = cut.1 ∙ ap (λ l. p.characters ++ l) (cut_joined cut.0 ps cut.3)

module _ (kind : Kind) (name : List ℕ) (is : IsNameKind kind) (shape : shape_of name ≡ Some (Token kind)) where
  -- the new text starts as the old one
  exchanged_alike : {start : ℕ} {ps qs : List Part} {spans : List Span} → Exchanged kind name start ps spans qs → (text : List ℕ) → IsCut text ps → StartsAlike text (joined qs)
  exchanged_alike nothing text cut = subst (λ l. StartsAlike l []) (sym cut) tt
  exchanged_alike (kept {p = p} {qs = qs} some others) text cut =
      subst (λ l. StartsAlike l (p.characters ++ joined qs)) (sym cut.1)
      (front_alike p.characters cut.0 (joined qs) (some_characters p.sort p.characters cut.0 cut.2))
  exchanged_alike (renamed {p = p} {qs = qs} some sort others) text cut =
      subst (λ l. StartsAlike l (name ++ joined qs)) (sym cut.1)
      (names_alike kind p.characters name cut.0 (joined qs) is (name_longest kind p.characters cut.0 is (subst (λ s. IsFirst s p.characters cut.0) sort cut.2)).0 shape)

  -- and the new segments are cut from it
  pub exchanged_cut : {start : ℕ} {ps qs : List Part} {spans : List Span} → Exchanged kind name start ps spans qs → (text : List ℕ) → IsCut text ps → IsCut (joined qs) qs
  exchanged_cut nothing text cut = refl
  exchanged_cut (kept {p = p} {qs = qs} some others) text cut =
      (joined qs, refl, first_alike p.sort p.characters cut.0 (joined qs) (exchanged_alike others cut.0 cut.3) cut.2, exchanged_cut others cut.0 cut.3)
  exchanged_cut (renamed {p = p} {qs = qs} some sort others) text cut =
      let old = subst (λ s. IsFirst s p.characters cut.0) sort cut.2 in
      let first = first_renamed kind p.characters name cut.0 (joined qs) is shape (exchanged_alike others cut.0 cut.3) old in
      (joined qs, refl, subst (λ s. IsFirst s name (joined qs)) (sym sort) first, exchanged_cut others cut.0 cut.3)
