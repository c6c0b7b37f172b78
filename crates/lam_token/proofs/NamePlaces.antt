-- Where names stand in a text: they begin and end between two characters, and no byte of theirs ends a line.
use Rattle.std.proofs.Common.{◌≡◌, ℕ, ◌+◌, ◌<◌, ◌≤◌, true, Some, List, [], ◌∷◌, ◌++◌, length, get_or, ⊎_elim, refl, sym, ap, subst, ◌∙◌, append_assoc, arith, length-append}
use Rattle.std.specs.Prelude.{encode_utf8_all}
use Rattle.std.specs.Str.{chars, IsUtf8, all_scalars}
use Rattle.std.proofs.lemmas.Str.{encodes-append, encodes-chars, scalars-chars, length-le-encodes}
use Rattle.std.proofs.lemmas.Str.Pattern.{NoCharPasses-char}
use Rattle.lam_token.specs.declared.kind.Kind.{Kind}
use Rattle.lam_token.specs.declared.segment.Segment.TheVariants.{Token}
use Rattle.lam_token.specs.declared.span.Span.{Span}
use Rattle.lam_token.specs.Shape.{shape_of}
use Rattle.lam_token.specs.Lexeme.{Lexeme}
use Rattle.lam_token.specs.Cut.{IsFirst, Part, IsCut, AreTokensOf}
use Rattle.lam_token.specs.Edits.{IsNameKind, AreSpansOf}
use Rattle.lam_token.proofs.ForeignCharacters.{cr_continues_nothing, lf_continues_nothing, none_in_name}
use Rattle.lam_token.proofs.NextSegment.{name_longest}
use Rattle.lam_token.proofs.Exchanged.{size, span_at}
use Rattle.lam_token.proofs.EditedTexts.{scalars_parts}
use Rattle.lam_token.proofs.Places.{IsPlace, ArePlaces, span_places}

-- ---- the place of a name among the characters of a text

-- the characters are some others, then a name whose bytes have this span, and then others
record HasName (kind : Kind) (start : ℕ) (cs : List ℕ) (s : Span) : Type 0 where
  front : List ℕ
  name : List ℕ
  back : List ℕ
  splits : cs ≡ front ++ (name ++ back)
  starts : s.start ≡ start + length (encode_utf8_all front)
  ends : s.end ≡ s.start + length (encode_utf8_all name)
  shape : shape_of name ≡ Some (Token kind)

place_has_name : (kind : Kind) (start : ℕ) (ps : List Part) (cs : List ℕ) (s : Span) → IsNameKind kind → IsCut cs ps → IsPlace kind start ps s → HasName kind start cs s
place_has_name kind start [] cs s is cut place = absurd place
place_has_name kind start (p ∷ ps) cs s is cut place =
    ⊎_elim
    (λ (first : (p.sort ≡ Token kind) × (s ≡ span_at start p)).
    let starts : s.start ≡ start = ap (λ (u : Span). u.start) first.1 in
    let ends : s.end ≡ start + size p = ap (λ (u : Span). u.end) first.1 in
    record {
      front = [];
      name = p.characters;
      back = cut.0;
      splits = cut.1;
      starts = omega arith;
      ends = omega arith;
      shape = (name_longest kind p.characters cut.0 is (subst (λ k. IsFirst k p.characters cut.0) first.0 cut.2)).0;
    })
    (λ (later : IsPlace kind (start + size p) ps s).
    let found = place_has_name kind (start + size p) ps cut.0 s is cut.3 later in
    record {
      front = p.characters ++ found.front;
      name = found.name;
      back = found.back;
      splits = cut.1 ∙ ap (λ l. p.characters ++ l) found.splits ∙ sym (append_assoc p.characters found.front (found.name ++ found.back));
      starts = omega (arith, found.starts, ap length (encodes-append p.characters found.front), length-append (encode_utf8_all p.characters) (encode_utf8_all found.front));
      ends = found.ends;
      shape = found.shape;
    })
    place

-- ---- and among its bytes

-- the bytes with this span are those of a name, and those before it are a text
pub record HoldsName (text : List ℕ) (s : Span) : Type 0 where
  pub before : List ℕ
  pub name : List ℕ
  pub behind : List ℕ
  pub splits : text ≡ before ++ (name ++ behind)
  pub starts : length before ≡ s.start
  pub ends : length (before ++ name) ≡ s.end
  pub is_before : IsUtf8 before
  pub is_through : IsUtf8 (before ++ name)
  pub some : 0 < length name
  pub no_line_end : (i : ℕ) → i < length name → (get_or name i 0 ≡ 13 → ⊥) × (get_or name i 0 ≡ 10 → ⊥)

-- such places, one behind the other, from a byte on
abbrev pub AreNamePlaces : List ℕ → (low : ℕ) → List Span → Type 0
AreNamePlaces text low [] = Unit {0}
AreNamePlaces text low (s ∷ spans) = (low ≤ s.start) × HoldsName text s × AreNamePlaces text s.end spans

name_has_characters : (kind : Kind) (cs : List ℕ) → shape_of cs ≡ Some (Token kind) → 0 < length cs
name_has_characters kind [] shape = absurd cc
name_has_characters kind (c ∷ cs) shape = omega arith

holds_name : (kind : Kind) (text : List ℕ) (s : Span) → IsUtf8 text → IsNameKind kind → HasName kind 0 (chars text) s → HoldsName text s
holds_name kind text s is_text is found =
    let front = encode_utf8_all found.front in
    let bytes = encode_utf8_all found.name in
    let scalars = scalars_parts found.front (found.name ++ found.back) (sym (ap all_scalars found.splits) ∙ scalars-chars text is_text) in
    let through : front ++ bytes ≡ encode_utf8_all (found.front ++ found.name) = sym (encodes-append found.front found.name) in
    let both : all_scalars (found.front ++ found.name) ≡ true =
    (scalars_parts (found.front ++ found.name) found.back (ap all_scalars (append_assoc found.front found.name found.back ∙ sym found.splits) ∙ scalars-chars text is_text)).0 in
    let long = length-append front bytes in
    record {
      before = front;
      name = bytes;
      behind = encode_utf8_all found.back;
      splits = sym (encodes-chars text is_text) ∙ ap encode_utf8_all found.splits ∙ encodes-append found.front (found.name ++ found.back)
          ∙ ap (λ l. front ++ l) (encodes-append found.name found.back);
      starts = omega (arith, found.starts);
      ends = omega (arith, found.starts, found.ends);
      is_before = (found.front, (scalars.0, refl));
      is_through = (found.front ++ found.name, (both, sym through));
      some = omega (arith, name_has_characters kind found.name found.shape, length-le-encodes found.name);
      no_line_end = λ i inside. (
        NoCharPasses-char 13 bytes i (found.name, refl, none_in_name 13 cr_continues_nothing kind found.name is found.shape) (omega arith) inside,
        NoCharPasses-char 10 bytes i (found.name, refl, none_in_name 10 lf_continues_nothing kind found.name is found.shape) (omega arith) inside,
      );
    }

places_hold_names : (kind : Kind) (text : List ℕ) (ps : List Part) (low : ℕ) (spans : List Span) → IsUtf8 text → IsNameKind kind → IsCut (chars text) ps → ArePlaces kind 0 ps low spans → AreNamePlaces text low spans
places_hold_names kind text ps low [] is_text is cut places = tt
places_hold_names kind text ps low (s ∷ spans) is_text is cut places =
    (places.0, holds_name kind text s is_text is (place_has_name kind 0 ps (chars text) s is cut places.1), places_hold_names kind text ps s.end spans is_text is cut places.2)

-- the spans of names among the tokens are such places
pub name_places : (kind : Kind) (text : List ℕ) (tokens : List Lexeme) (low : ℕ) (spans : List Span) → IsUtf8 text → IsNameKind kind → AreTokensOf text tokens → AreSpansOf kind tokens low spans
    → AreNamePlaces text low spans
name_places kind text tokens low spans is_text is are places =
    places_hold_names kind text are.parts low spans is_text is are.cut (span_places kind 0 are.parts low spans (subst (λ ts. AreSpansOf kind ts low spans) are.tokens_are places))
