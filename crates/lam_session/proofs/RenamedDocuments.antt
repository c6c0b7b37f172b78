-- The text of a document in which a client has made the edits of a rename, from the last to the first.
use Rattle.std.proofs.Common.{◌≡◌, ℕ, ◌-◌, ◌+◌, ◌<◌, ◌≤◌, false, List, [], ◌∷◌, ◌++◌, length, get_or, take, drop, map, reverse, min, max, refl, sym, ap, ◌∙◌, append_assoc, arith, length-append}
use Rattle.std.specs.Str.{IsUtf8}
use Rattle.std.proofs.lemmas.Bool.{ne_eqb}
use Rattle.std.proofs.lemmas.List.{take_at, reverse-append, get_or-append-add}
use Rattle.std.proofs.lemmas.List.Sums.{fold-append}
use Rattle.lam_text.specs.declared.units.Encoding.{Encoding}
use Rattle.lam_text.specs.Lines.{begins_with_lf}
use Rattle.lam_text.specs.Positions.{offset_of, position_of}
use Rattle.lam_text.specs.Edits as change
use Rattle.lam_text.specs.Edits.{Edit, text_after}
use Rattle.lam_text.proofs.Fronts.{NoLfAfterCr, comes_back_to_front}
use Rattle.lam_token.specs.declared.span.Span.{Span}
use Rattle.lam_token.specs.Edits.{edited}
use Rattle.lam_token.proofs.NamePlaces.{HoldsName, AreNamePlaces}
use Rattle.lam_query.specs.Renames.{IsRenamed}
use Rattle.lam_query.proofs.RenamedRows.{renamed_places}
use Rattle.lam_session.specs.Renames.{change_of}

-- ---- no line end is cut where a name begins or ends

-- no byte of these is a CR or an LF
abbrev HasNoLineEnd : List ℕ → Type 0
HasNoLineEnd name = (i : ℕ) → i < length name → (get_or name i 0 ≡ 13 → ⊥) × (get_or name i 0 ≡ 10 → ⊥)

begins_with_none : (name more : List ℕ) → 0 < length name → HasNoLineEnd name → begins_with_lf (name ++ more) ≡ false
begins_with_none [] more some none = absurd (omega arith)
begins_with_none (b ∷ name) more some none = ne_eqb b 10 (none 0 (omega arith)).1

-- in front of a name
no_lf_in_front : (before name more : List ℕ) → 0 < length name → HasNoLineEnd name → NoLfAfterCr before (name ++ more)
no_lf_in_front before name more some none ahead e = begins_with_none name more some none

-- and behind it
no_cr_behind : (before name more : List ℕ) → 0 < length name → HasNoLineEnd name → NoLfAfterCr (before ++ name) more
no_cr_behind before name more some none ahead e =
    let k = length name - 1 in
    let at : length before + k ≡ length ahead + 0 = omega (arith, ap length e, length-append before name, length-append ahead (13 ∷ [])) in
    let last : get_or name k 0 ≡ 13 =
    sym (get_or-append-add before name k 0) ∙ (λ i. get_or (e i) (at i) 0) ∙ get_or-append-add ahead (13 ∷ []) 0 0 in
    absurd ((none k (omega arith)).0 last)

-- ---- one edit, made in a text that is still the old one up to the name's end

-- a longer front of the same text begins with a shorter one
longer_front : (front back before rest : List ℕ) → front ++ back ≡ before ++ rest → length front ≤ length before → (more : List ℕ) × (before ≡ front ++ more)
longer_front [] back before rest e le = (before, refl)
longer_front (x ∷ front) back [] rest e le = absurd (omega arith)
longer_front (x ∷ front) back (y ∷ before) rest e le =
    let head : y ≡ x = cc in
    let tail : front ++ back ≡ before ++ rest = cc in
    let found = longer_front front back before rest tail (omega arith) in
    (found.0, (λ i. head i ∷ found.1 i))

module _ (encoding : Encoding) (text new : List ℕ) where
  -- the position of a place in the old text means that place in a later one
  place_kept : (later front after other : List ℕ) (at : ℕ) → text ≡ front ++ after → later ≡ front ++ other → length front ≡ at → IsUtf8 front → NoLfAfterCr front after → NoLfAfterCr front other
      → offset_of encoding later (position_of encoding text at) ≡ at
  place_kept later front after other at old new long utf8 no_lf no_other =
      (λ i. offset_of encoding (new i) (position_of encoding (old i) (sym long i))) ∙ comes_back_to_front encoding front after other utf8 no_lf no_other ∙ long

  one_edit : (s : Span) (later back : List ℕ) (h : HoldsName text s) → later ≡ (h.before ++ h.name) ++ back
      → change.edited encoding later (change_of encoding text new s) ≡ take s.start later ++ new ++ drop s.end later
  one_edit s later back h splits =
      let first : offset_of encoding later (position_of encoding text s.start) ≡ s.start =
      place_kept later h.before (h.name ++ h.behind) (h.name ++ back) s.start h.splits (splits ∙ append_assoc h.before h.name back) h.starts h.is_before
      (no_lf_in_front h.before h.name h.behind h.some h.no_line_end) (no_lf_in_front h.before h.name back h.some h.no_line_end) in
      let last : offset_of encoding later (position_of encoding text s.end) ≡ s.end =
      place_kept later (h.before ++ h.name) h.behind back s.end (h.splits ∙ sym (append_assoc h.before h.name h.behind)) splits h.ends h.is_through
      (no_cr_behind h.before h.name h.behind h.some h.no_line_end) (no_cr_behind h.before h.name back h.some h.no_line_end) in
      let least : min s.start s.end ≡ s.start = omega (arith, h.starts, h.ends, length-append h.before h.name) in
      let greatest : max s.start s.end ≡ s.end = omega (arith, h.starts, h.ends, length-append h.before h.name) in
      (λ i. take (min (first i) (last i)) later ++ new ++ drop (max (first i) (last i)) later) ∙ (λ i. take (least i) later ++ new ++ drop (greatest i) later)

  -- ---- all edits

  -- what is in front of all spans stays
  front_stays : (low : ℕ) (spans : List Span) (front back : List ℕ) → AreNamePlaces text low spans → text ≡ front ++ back → length front ≡ low → (others : List ℕ) × (edited text spans new ≡ front ++ others)
  front_stays low [] front back places splits long = (back, splits)
  front_stays low (s ∷ spans) front back places splits long =
      let h = places.1 in
      let later = front_stays s.end spans (h.before ++ h.name) h.behind places.2 (h.splits ∙ sym (append_assoc h.before h.name h.behind)) h.ends in
      let kept : take s.start (edited text spans new) ≡ h.before = ap (take s.start) (later.1 ∙ append_assoc h.before h.name later.0) ∙ take_at h.before (h.name ++ later.0) s.start h.starts in
      let found = longer_front front back h.before (h.name ++ h.behind) (sym splits ∙ h.splits) (omega (arith, places.0, h.starts)) in
      let last = drop s.end (edited text spans new) in
      (found.0 ++ (new ++ last), ap (λ l. l ++ new ++ last) (kept ∙ found.1) ∙ append_assoc (front ++ found.0) new last ∙ append_assoc front found.0 (new ++ last))

  all_edits : (low : ℕ) (spans : List Span) → AreNamePlaces text low spans → text_after encoding text (reverse (map (change_of encoding text new) spans)) ≡ edited text spans new
  all_edits low [] places = refl
  all_edits low (s ∷ spans) places =
      let h = places.1 in
      let first = change_of encoding text new s in
      let changes : List Edit = map (change_of encoding text new) spans in
      let stays = front_stays s.end spans (h.before ++ h.name) h.behind places.2 (h.splits ∙ sym (append_assoc h.before h.name h.behind)) h.ends in
      ap (text_after encoding text) (reverse-append (first ∷ []) changes)
      ∙ fold-append (change.edited encoding) text (reverse changes) (first ∷ [])
      ∙ ap (λ t. change.edited encoding t first) (all_edits s.end spans places.2)
      ∙ one_edit s (edited text spans new) stays.0 h stays.1

pub edits_apply : (encoding : Encoding) (text new : List ℕ) (offset : ℕ) (spans : List Span) → IsUtf8 text → IsRenamed text offset new spans
    → text_after encoding text (reverse (map (change_of encoding text new) spans)) ≡ edited text spans new
edits_apply encoding text new offset spans is_text h = all_edits encoding text new 0 spans (renamed_places text offset new spans is_text h)
