-- The bytes and the tokens of a text in which some names are replaced by a new one.
use Rattle.std.proofs.Common.{◌≡◌, ℕ, ◌+◌, Bool, true, false, inl, inr, List, [], ◌∷◌, ◌++◌, length, take, drop, sym, refl, ap, ◌∙◌, subst, append_assoc, arith, length-append}
use Rattle.std.specs.Prelude.{encode_utf8_all, map, ◌&&◌, if◌then◌else◌}
use Rattle.std.specs.Str.{chars, IsUtf8, all_scalars}
use Rattle.std.proofs.lemmas.Bool.{and_parts}
use Rattle.std.proofs.lemmas.List.{take_at, drop_at}
use Rattle.std.proofs.lemmas.Str.{encodes-append, encodes-chars, scalars-chars, chars_from_encodes}
use Rattle.lam_token.specs.declared.kind.Kind.{Kind}
use Rattle.lam_token.specs.declared.segment.Segment.{Segment}
use Rattle.lam_token.specs.declared.segment.Segment.TheVariants.{Blank, Comment, Token}
use Rattle.lam_token.specs.declared.span.Span.{Span}
use Rattle.lam_token.specs.Lexeme.{Lexeme, lexeme}
use Rattle.lam_token.specs.Cut.{Part, IsCut, with_token, tokens_of, AreTokensOf}
use Rattle.lam_token.specs.Edits.{among, edited, moved, is_name_kind, renaming, retold, IsNameKind, AreSpansOf, IsNewName}
use Rattle.lam_token.proofs.Exchanged.{size, span_at, joined, spelled, Exchanged, nothing, kept, renamed, cut_joined, exchanged_cut}
use Rattle.lam_token.proofs.Places.{have_bytes, span_places, exchange}
use Rattle.lam_token.proofs.Moved.{AreApart, apart_lower, Agrees, agrees_all, agrees_kept, agrees_renamed, agrees_here, kept_among, renamed_among}

module _ {kind : Kind} {name : List ℕ} where
  exchanged_apart : {start : ℕ} {ps qs : List Part} {spans : List Span} → Exchanged kind name start ps spans qs → AreApart start spans
  exchanged_apart nothing = tt
  exchanged_apart (kept {start = start} {p = p} {spans = spans} some others) = apart_lower start (start + size p) spans (omega arith) (exchanged_apart others)
  exchanged_apart (renamed some sort others) = (omega arith, omega arith, exchanged_apart others)

-- ---- the bytes

encoded : (p : Part) (ps : List Part) (before : List ℕ) → before ++ encode_utf8_all (joined (p ∷ ps)) ≡ (before ++ encode_utf8_all p.characters) ++ encode_utf8_all (joined ps)
encoded p ps before =
    ap (λ l. before ++ l) (encodes-append p.characters (joined ps))
    ∙ sym (append_assoc before (encode_utf8_all p.characters) (encode_utf8_all (joined ps)))

-- new bytes in the place of those between two others
put_between : (before old new after later : List ℕ) (start end : ℕ) → later ≡ (before ++ old) ++ after → length before ≡ start → length (before ++ old) ≡ end
    → take start later ++ new ++ drop end later ≡ (before ++ new) ++ after
put_between before old new after later start end whole first last =
    let front : take start later ≡ before = ap (take start) (whole ∙ append_assoc before old after) ∙ take_at before (old ++ after) start first in
    let rest : drop end later ≡ after = ap (drop end) whole ∙ drop_at (before ++ old) after end last in
    (λ i. front i ++ new ++ rest i)

module _ {kind : Kind} {name : List ℕ} where
  edited_bytes : {start : ℕ} {ps qs : List Part} {spans : List Span} → Exchanged kind name start ps spans qs → (text before : List ℕ) → text ≡ before ++ encode_utf8_all (joined ps) → start ≡ length before
      → edited text spans (encode_utf8_all name) ≡ before ++ encode_utf8_all (joined qs)
  edited_bytes nothing text before whole at = whole
  edited_bytes (kept {p = p} {ps = ps} {qs = qs} some others) text before whole at =
      edited_bytes others text (before ++ encode_utf8_all p.characters) (whole ∙ encoded p ps before) (omega (arith, at, length-append before (encode_utf8_all p.characters)))
      ∙ sym (encoded p qs before)
  edited_bytes (renamed {p = p} {ps = ps} {qs = qs} some sort others) text before whole at =
      let long = length-append before (encode_utf8_all p.characters) in
      let later = edited_bytes others text (before ++ encode_utf8_all p.characters) (whole ∙ encoded p ps before) (omega (arith, at, long)) in
      put_between before (encode_utf8_all p.characters) (encode_utf8_all name) (encode_utf8_all (joined qs)) _ _ _ later (sym at) (omega (arith, at, long))
      ∙ sym (encoded (spelled p name) qs before)

-- ---- the bytes are a text

scalars-append : (xs ys : List ℕ) → all_scalars (xs ++ ys) ≡ (all_scalars xs && all_scalars ys)
scalars-append [] ys = refl
scalars-append (x ∷ xs) ys = let others = scalars-append xs ys in grind arith

pub scalars_both : (xs ys : List ℕ) → all_scalars xs ≡ true → all_scalars ys ≡ true → all_scalars (xs ++ ys) ≡ true
scalars_both xs ys first last = scalars-append xs ys ∙ rw (first, last) refl

pub scalars_parts : (xs ys : List ℕ) → all_scalars (xs ++ ys) ≡ true → (all_scalars xs ≡ true) × (all_scalars ys ≡ true)
scalars_parts xs ys all = and_parts (all_scalars xs) (all_scalars ys) (sym (scalars-append xs ys) ∙ all)

module _ {kind : Kind} {name : List ℕ} where
  exchanged_scalars : {start : ℕ} {ps qs : List Part} {spans : List Span} → Exchanged kind name start ps spans qs → all_scalars name ≡ true → all_scalars (joined ps) ≡ true → all_scalars (joined qs) ≡ true
  exchanged_scalars nothing letters all = refl
  exchanged_scalars (kept {p = p} {ps = ps} {qs = qs} some others) letters all =
      let parts = scalars_parts p.characters (joined ps) all in
      scalars_both p.characters (joined qs) parts.0 (exchanged_scalars others letters parts.1)
  exchanged_scalars (renamed {p = p} {ps = ps} {qs = qs} some sort others) letters all =
      let parts = scalars_parts p.characters (joined ps) all in
      scalars_both name (joined qs) letters (exchanged_scalars others letters parts.1)

-- ---- the tokens

not_both : {A : Type 0} (b : Bool) (x y : A) → (if b && false then x else y) ≡ y
not_both true x y = refl
not_both false x y = refl

named : (kind : Kind) → IsNameKind kind → is_name_kind kind ≡ true
named kind (inl is) = ap is_name_kind is
named kind (inr is) = ap is_name_kind is

module _ (all : List Span) (new : List ℕ) where
  -- a token that stays, in front of others
  kept_token : (s : Segment) (bytes : List ℕ) (start there : ℕ) (ts us : List Lexeme)
      → moved all new start ≡ there → moved all new (start + length bytes) ≡ there + length bytes → among all (record { start = start; end = start + length bytes }) ≡ false
      → us ≡ map (retold all new) ts → with_token s bytes there us ≡ map (retold all new) (with_token s bytes start ts)
  kept_token Blank bytes start there ts us first last none others = others
  kept_token Comment bytes start there ts us first last none others = others
  kept_token (Token k) bytes start there ts us first last none others =
      let letters = ap (λ b. if is_name_kind k && b then new else bytes) none ∙ not_both (is_name_kind k) new bytes in
      (λ i. lexeme k (sym letters i) (record { start = sym first i; end = sym last i }) ∷ others i)

  -- a token that gets the new name
  renamed_token : (s : Segment) (k : Kind) (bytes : List ℕ) (start there : ℕ) (ts us : List Lexeme)
      → s ≡ Token k → is_name_kind k ≡ true → moved all new start ≡ there → moved all new (start + length bytes) ≡ there + length new → among all (record { start = start; end = start + length bytes }) ≡ true
      → us ≡ map (retold all new) ts → with_token s new there us ≡ map (retold all new) (with_token s bytes start ts)
  renamed_token Blank k bytes start there ts us sort is_name first last one others = absurd cc
  renamed_token Comment k bytes start there ts us sort is_name first last one others = absurd cc
  renamed_token (Token j) k bytes start there ts us sort is_name first last one others =
      let same : j ≡ k = cc in
      let is_one = ap is_name_kind same ∙ is_name in
      let letters : renaming all new j bytes (record { start = start; end = start + length bytes }) ≡ new = (λ i. if is_one i && one i then new else bytes) in
      (λ i. lexeme j (sym letters i) (record { start = sym first i; end = sym last i }) ∷ others i)

module _ {kind : Kind} {name : List ℕ} (is_name : is_name_kind kind ≡ true) (all : List Span) where
  retold_tokens : {start : ℕ} {ps qs : List Part} {spans : List Span} → Exchanged kind name start ps spans qs → (there : ℕ) → Agrees all (encode_utf8_all name) start there spans
      → tokens_of there qs ≡ map (retold all (encode_utf8_all name)) (tokens_of start ps)
  retold_tokens nothing there agrees = refl
  retold_tokens (kept {start = start} {p = p} {ps = ps} {qs = qs} {spans = spans} some others) there agrees =
      let new = encode_utf8_all name in
      let apart = exchanged_apart others in
      let behind = agrees_kept all new start there (size p) spans agrees in
      kept_token all new p.sort (encode_utf8_all p.characters) start there (tokens_of (start + size p) ps) (tokens_of (there + size p) qs)
      (agrees_here all new start there spans (apart_lower start (start + size p) spans (omega arith) apart) agrees)
      (agrees_here all new (start + size p) (there + size p) spans apart behind)
      (kept_among all new start there (size p) spans some apart agrees)
      (retold_tokens others (there + size p) behind)
  retold_tokens (renamed {start = start} {p = p} {ps = ps} {qs = qs} {spans = spans} some sort others) there agrees =
      let new = encode_utf8_all name in
      let apart = exchanged_apart others in
      let behind = agrees_renamed all new start there (size p) spans some apart agrees in
      renamed_token all new p.sort kind (encode_utf8_all p.characters) start there (tokens_of (start + size p) ps) (tokens_of (there + length new) qs) sort is_name
      (agrees_here all new start there (span_at start p ∷ spans) (omega arith, omega (arith, some), apart) agrees)
      (agrees_here all new (start + size p) (there + length new) spans apart behind)
      (renamed_among all new start there (size p) spans agrees)
      (retold_tokens others (there + length new) behind)

-- ---- the law

pub names_change : (kind : Kind) (text new : List ℕ) (tokens : List Lexeme) (spans : List Span) → IsNewName kind text new tokens spans
    → AreTokensOf (edited text spans new) (map (retold spans new) tokens) × IsUtf8 (edited text spans new)
names_change kind text new tokens spans h =
    let are = h.are_tokens in
    let ps = are.parts in
    let found = exchange kind (chars new) 0 ps spans (have_bytes (chars text) ps are.cut)
    (span_places kind 0 ps 0 spans (subst (λ ts. AreSpansOf kind ts 0 spans) are.tokens_are h.are_spans)) in
    let qs = found.0 in
    let name : encode_utf8_all (chars new) ≡ new = encodes-chars new h.is_new in
    let whole : text ≡ encode_utf8_all (joined ps) = sym (encodes-chars text h.is_text) ∙ ap encode_utf8_all (cut_joined (chars text) ps are.cut) in
    let bytes : edited text spans new ≡ encode_utf8_all (joined qs) = ap (edited text spans) (sym name) ∙ edited_bytes found.1 text [] whole refl in
    let letters = exchanged_scalars found.1 (scalars-chars new h.is_new) (ap all_scalars (sym (cut_joined (chars text) ps are.cut)) ∙ scalars-chars text h.is_text) in
    let is_edited : IsUtf8 (edited text spans new) = (joined qs, (letters, sym bytes)) in
    let spelt = chars_from_encodes (joined qs) (edited text spans new) is_edited (sym bytes) in (
      record {
        parts = qs;
        cut = subst (λ l. IsCut l qs) spelt (exchanged_cut kind (chars new) h.of_names h.is_one found.1 (chars text) are.cut);
        tokens_are = ap (map (retold spans new)) are.tokens_are ∙ ap (λ l. map (retold spans l) (tokens_of 0 ps)) (sym name) ∙ sym (retold_tokens (named kind h.of_names) spans found.1 0 (agrees_all spans (encode_utf8_all (chars new))));
      },
      is_edited,
    )
