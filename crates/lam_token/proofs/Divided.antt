-- A semicolon divides the tokens of a text: it is the first segment whatever follows it.
use Rattle.std.proofs.Common.{◌≡◌, ℕ, ◌+◌, ◌<◌, Bool, true, false, Some, List, [], ◌∷◌, ◌++◌, length, take, drop, sym, refl, ap, ◌∙◌, subst, append_assoc, arith}
use Rattle.std.specs.Prelude.{encode_utf8_all, if◌then◌else◌}
use Rattle.std.specs.List.{list_all}
use Rattle.std.specs.Option.{unwrap_or}
use Rattle.std.specs.Str.{chars, IsUtf8, all_scalars, bytes_eq}
use Rattle.std.proofs.lemmas.Bool.{and_parts, cond_both}
use Rattle.std.proofs.lemmas.List.{append-nil, take_at, drop_at}
use Rattle.std.proofs.lemmas.Str.{scalars-chars, chars-append, chars_from_encodes}
use Rattle.lam_token.specs.declared.kind.Kind.{Kind}
use Rattle.lam_token.specs.declared.kind.Kind.TheVariants.{Name, TypeName, Semicolon}
use Rattle.lam_token.specs.declared.segment.Segment.{Segment}
use Rattle.lam_token.specs.declared.segment.Segment.TheVariants.{Blank, Comment, Token}
use Rattle.lam_token.specs.declared.segment.Beginning.{Beginning}
use Rattle.lam_token.specs.declared.segment.Beginning.TheVariants as begin
use Rattle.lam_token.specs.Words.{words, kind_among, is_capital, kind_of_name, word_kind}
use Rattle.lam_token.specs.Shape.{is_digit, is_continuing, beginning_of, begun}
use Rattle.lam_token.specs.Lexeme.{Lexeme, lexeme_at, kind_of, start_of, end_of}
use Rattle.lam_token.specs.inner.Reading.{EndsRun}
use Rattle.lam_token.specs.Cut.{IsFirst, longest, unclosed, stray, Part, IsCut, with_token, tokens_of, AreTokensFrom, AreTokensOf}
use Rattle.lam_token.specs.Divided.{SemicolonEndsAt, EndsInSemicolon, IsDividedAfter}
use Rattle.lam_token.proofs.Cuts.{one_list}
use Rattle.lam_token.proofs.SomeCut.{tokens_at, are_tokens_at}
use Rattle.lam_token.proofs.NextSegment.{chosen_is, goes_on, stays_longest}
use Rattle.lam_token.proofs.Exchanged.{size, joined, cut_joined, first_size}
use Rattle.lam_token.proofs.EditedTexts.{scalars_parts}
use Rattle.lam_token.proofs.OtherEnds.{LastStays, bytes_of, bytes_of-first, bytes_of-append, other_end, tokens_joined, joined-append, whole_bytes, bytes_joined, cut_back, in_front}

-- ---- no segment that is a semicolon goes on

abbrev pub is_other : Kind → Bool
is_other Semicolon = false
is_other _ = true

kind_among-other : (ws : List (List ℕ × Kind)) (text : List ℕ) (k : Kind) → list_all (λ w. is_other w.1) ws ≡ true → is_other k ≡ true
    → is_other (unwrap_or (kind_among ws text) k) ≡ true
kind_among-other [] text k all other = other
kind_among-other (w ∷ ws) text k all other =
    let parts = and_parts (is_other w.1) (list_all (λ v. is_other v.1) ws) all in
    cond_both (bytes_eq text w.0) (Some w.1) (kind_among ws text) (λ found. is_other (unwrap_or found k) ≡ true)
    (λ yes. parts.0)
    (λ no. kind_among-other ws text k parts.1 other)

name_is_other : (capital : Bool) → is_other (if capital then TypeName else Name) ≡ true
name_is_other true = refl
name_is_other false = refl

-- no word of letters is a semicolon
pub word_is_other : (c : ℕ) (word : List ℕ) → is_other (word_kind c word) ≡ true
unfolding words word_kind
word_is_other c word = kind_among-other words word (kind_of_name c) refl (name_is_other (is_capital c))

nothing_goes_on : (rest : List ℕ) → EndsRun (λ c. false) rest
nothing_goes_on [] = tt
nothing_goes_on (c ∷ rest) = refl

semicolon_ends : (b : Beginning) (c : ℕ) (cs rest : List ℕ) → begun b c cs ≡ Some (Token Semicolon) → EndsRun (goes_on b) rest
semicolon_ends begin.Blank c cs rest shape = nothing_goes_on rest
semicolon_ends begin.Slash c cs rest shape = nothing_goes_on rest
semicolon_ends begin.Digit c cs rest shape = let found = (chosen_is (list_all is_digit cs) _ (Token Semicolon) shape).1 in absurd cc
semicolon_ends begin.Letter c cs rest shape =
    let found = (chosen_is (list_all is_continuing cs) _ (Token Semicolon) shape).1 in
    let same : word_kind c (encode_utf8_all (c ∷ cs)) ≡ Semicolon = cc in
    let both : true ≡ false = sym (word_is_other c (encode_utf8_all (c ∷ cs))) ∙ ap is_other same in
    absurd cc
semicolon_ends begin.Underscore c [] rest shape = absurd cc
semicolon_ends begin.Underscore c (d ∷ cs) rest shape =
    let found = (chosen_is (list_all is_continuing (d ∷ cs)) _ (Token Semicolon) shape).1 in absurd cc
semicolon_ends begin.Dash c cs rest shape = nothing_goes_on rest
semicolon_ends (begin.Mark kind) c cs rest shape = nothing_goes_on rest
semicolon_ends begin.Stray c cs rest shape = nothing_goes_on rest

-- so a semicolon is the first segment whatever follows it
semicolon_first : (s : Segment) (cs rest other : List ℕ) → s ≡ Token Semicolon → IsFirst s cs rest → IsFirst s cs other
semicolon_first s [] rest other is (longest shape none) = absurd cc
semicolon_first s (c ∷ cs) rest other is (longest shape none) =
    longest shape (stays_longest c cs other s shape (semicolon_ends (beginning_of c) c cs other (shape ∙ ap (λ t. Some t) is)))
semicolon_first s cs rest other is (unclosed none is_open ended) = absurd cc
semicolon_first s cs rest other is (stray none not_open single) = absurd cc

-- ---- a semicolon as the last segment

abbrev LastIsSemicolon : List Part → Type 0
LastIsSemicolon [] = ⊥
LastIsSemicolon (p ∷ []) = p.sort ≡ Token Semicolon
LastIsSemicolon (p ∷ q ∷ ps) = LastIsSemicolon (q ∷ ps)

last_stays : (ps qs : List Part) (end : List ℕ) → LastIsSemicolon ps → LastStays qs end ps
last_stays [] qs end last = tt
last_stays (p ∷ []) qs end last = λ rest cut first. semicolon_first p.sort p.characters rest end last first
last_stays (p ∷ q ∷ ps) qs end last = last_stays (q ∷ ps) qs end last

last_at_end : (ps : List Part) (p : Part) → p.sort ≡ Token Semicolon → LastIsSemicolon (ps ++ (p ∷ []))
last_at_end [] p is = is
last_at_end (q ∷ []) p is = is
last_at_end (q ∷ r ∷ ps) p is = last_at_end (r ∷ ps) p is

-- a semicolon that ends with the text is its last segment

only_token : (s : Segment) (bytes : List ℕ) (start end : ℕ) → SemicolonEndsAt end (with_token s bytes start []) → s ≡ Token Semicolon
only_token Blank bytes start end ends = absurd ends
only_token Comment bytes start end ends = absurd ends
only_token (Token k) bytes start end ends = ap Token ends.0

tail_ends : (end : ℕ) (t : Lexeme) (ts : List Lexeme) → SemicolonEndsAt end (t ∷ ts) → end_of t < end → SemicolonEndsAt end ts
tail_ends end t [] ends before = absurd (omega (arith, ends.1))
tail_ends end t (u ∷ ts) ends before = ends

others_end : (s : Segment) (bytes : List ℕ) (start end : ℕ) (ts : List Lexeme) → SemicolonEndsAt end (with_token s bytes start ts)
    → start + length bytes < end → SemicolonEndsAt end ts
others_end Blank bytes start end ts ends before = ends
others_end Comment bytes start end ts ends before = ends
others_end (Token k) bytes start end ts ends before = tail_ends end (lexeme_at k bytes start) ts ends before

last_is : (start end : ℕ) (text : List ℕ) (ps : List Part) → IsCut text ps → end ≡ start + bytes_of ps
    → SemicolonEndsAt end (tokens_of start ps) → LastIsSemicolon ps
last_is start end text [] cut whole ends = absurd ends
last_is start end text (p ∷ []) cut whole ends = only_token p.sort (encode_utf8_all p.characters) start end ends
last_is start end text (p ∷ q ∷ ps) cut whole ends =
    let behind = cut.3 in
    let first = bytes_of-first p (q ∷ ps) in
    let second = bytes_of-first q ps in
    let some = first_size q behind.0 behind.2 in
    last_is (start + size p) end cut.0 (q ∷ ps) behind (omega arith)
    (others_end p.sort (encode_utf8_all p.characters) start end (tokens_of (start + size p) (q ∷ ps)) ends (omega arith))

-- ---- a front and a rest are joined

-- the tokens of a part of a text, and of what follows it
pub divided_from : (start : ℕ) (front rest : List ℕ) (before behind : List Lexeme) → IsUtf8 front → AreTokensFrom start front before
    → SemicolonEndsAt (start + length front) before
    → AreTokensFrom (start + length front) rest behind → AreTokensFrom start (front ++ rest) (before ++ behind)
divided_from start front rest before behind is_front are ends are_rest =
    let ps = are.parts in
    let qs = are_rest.parts in
    let end : start + length front ≡ start + bytes_of ps = ap (λ l. start + length l) (whole_bytes front ps is_front are.cut) in
    let ends' = subst (SemicolonEndsAt (start + length front)) are.tokens_are ends in
    let last = last_is start (start + length front) (chars front) ps are.cut end ends' in
    let whole : IsCut (chars front) (ps ++ []) = subst (IsCut (chars front)) (sym (append-nil ps)) are.cut in
    let cut = other_end (chars front) ps [] qs (chars rest) whole (last_stays ps [] (chars rest) last) are_rest.cut in
    let letters : joined ps ++ chars rest ≡ chars (front ++ rest) =
    ap (λ l. l ++ chars rest) (sym (cut_joined (chars front) ps are.cut)) ∙ sym (chars-append front rest is_front) in
    let tokens : before ++ behind ≡ tokens_of start ps ++ tokens_of (start + length front) qs =
    (λ i. are.tokens_are i ++ are_rest.tokens_are i) in
    record {
      parts = ps ++ qs;
      cut = subst (λ l. IsCut l (ps ++ qs)) letters cut;
      tokens_are = tokens ∙ ap (λ n. tokens_of start ps ++ tokens_of n qs) end ∙ sym (tokens_joined start ps qs);
    }

-- the same for a whole text
pub divided : (front rest : List ℕ) (before behind : List Lexeme) → IsUtf8 front → AreTokensOf front before → EndsInSemicolon front before
    → AreTokensFrom (length front) rest behind
    → AreTokensOf (front ++ rest) (before ++ behind)
divided front rest before behind is_front are ends are_rest =
    let at : length front ≡ 0 + length front = omega arith in
    divided_from 0 front rest before behind is_front are
    (subst (λ n. SemicolonEndsAt n before) at ends)
    (subst (λ n. AreTokensFrom n rest behind) at are_rest)

-- and these are all its tokens
pub divided_only : (front rest : List ℕ) (before all : List Lexeme) → IsUtf8 front → AreTokensOf front before
    → EndsInSemicolon front before → AreTokensOf (front ++ rest) all
    → (behind : List Lexeme) × (all ≡ before ++ behind) × AreTokensFrom (length front) rest behind
divided_only front rest before all is_front are ends are_all =
    let behind = tokens_at (length front) rest in
    let are_rest = are_tokens_at (length front) rest in
    let whole = divided front rest before behind is_front are ends are_rest in
    (behind, one_list (front ++ rest) (before ++ behind) all whole are_all, are_rest)

-- ---- a text is divided

-- tokens end in a semicolon if their last ones do

pub ends_append : (end : ℕ) (before behind : List Lexeme) → SemicolonEndsAt end behind → SemicolonEndsAt end (before ++ behind)
ends_append end [] behind ends = ends
ends_append end (t ∷ []) [] ends = absurd ends
ends_append end (t ∷ []) (u ∷ behind) ends = ends
ends_append end (t ∷ u ∷ before) behind ends = ends_append end (u ∷ before) behind ends

-- the bytes of the first segments and of the last ones are texts
texts : (text : List ℕ) (ps qs : List Part) → IsUtf8 text → IsCut (chars text) (ps ++ qs)
    → IsUtf8 (encode_utf8_all (joined ps)) × IsUtf8 (encode_utf8_all (joined qs))
texts text ps qs is_text cut =
    let whole : chars text ≡ joined ps ++ joined qs = cut_joined (chars text) (ps ++ qs) cut ∙ joined-append ps qs in
    let scalars = scalars_parts (joined ps) (joined qs) (sym (ap all_scalars whole) ∙ scalars-chars text is_text) in
    ((joined ps, (scalars.0, refl)), (joined qs, (scalars.1, refl)))

-- segments of which the last is a semicolon are cut from their own characters
cut_front : (text : List ℕ) (ps qs : List Part) → IsCut text (ps ++ qs) → LastIsSemicolon ps → IsCut (joined ps) ps
cut_front text ps qs cut last =
    subst (λ l. IsCut l ps) (append-nil (joined ps))
    (subst (IsCut (joined ps ++ [])) (append-nil ps) (other_end text ps qs [] [] cut (last_stays ps qs [] last) refl))

spelled_by : (start : ℕ) (ps : List Part) (ts : List Lexeme) → IsUtf8 (encode_utf8_all (joined ps)) → IsCut (joined ps) ps
    → ts ≡ tokens_of start ps → AreTokensFrom start (encode_utf8_all (joined ps)) ts
spelled_by start ps ts is_text cut are = record {
  parts = ps;
  cut = subst (λ l. IsCut l ps) (chars_from_encodes (joined ps) (encode_utf8_all (joined ps)) is_text refl) cut;
  tokens_are = are;
}

-- a text is divided after a semicolon, given the segments up to it and those after it
divided_at : (text : List ℕ) (before : List Lexeme) (t : Lexeme) (behind : List Lexeme) (ps qs : List Part) → IsUtf8 text
    → kind_of t ≡ Semicolon → IsCut (chars text) (ps ++ qs) → LastIsSemicolon ps
    → end_of t ≡ bytes_of ps → before ++ (t ∷ []) ≡ tokens_of 0 ps → behind ≡ tokens_of (end_of t) qs → IsDividedAfter text before t behind
divided_at text before t behind ps qs is_text kind cut last ends are are_rest =
    let front = encode_utf8_all (joined ps) in
    let rest = encode_utf8_all (joined qs) in
    let whole = bytes_joined text ps qs is_text cut in
    let first : take (end_of t) text ≡ front = ap (take (end_of t)) whole ∙ take_at front rest (end_of t) (sym ends) in
    let second : drop (end_of t) text ≡ rest = ap (drop (end_of t)) whole ∙ drop_at front rest (end_of t) (sym ends) in
    let is = texts text ps qs is_text cut in
    record {
      is_front = subst IsUtf8 (sym first) is.0;
      are_front = subst (λ l. AreTokensOf l (before ++ (t ∷ []))) (sym first)
          (spelled_by 0 ps _ is.0 (cut_front (chars text) ps qs cut last) are);
      ends = subst (λ l. EndsInSemicolon l (before ++ (t ∷ []))) (sym first) (ends_append (length front) before (t ∷ []) (kind, ends));
      are_rest = subst (λ l. AreTokensFrom (end_of t) l behind) (sym second)
          (spelled_by (end_of t) qs behind is.1 (cut_back (chars text) ps qs cut) are_rest);
    }

-- a text is divided after each of its semicolons
pub divided_after : (text : List ℕ) (before : List Lexeme) (t : Lexeme) (behind : List Lexeme) → IsUtf8 text
    → AreTokensOf text (before ++ (t ∷ behind)) → kind_of t ≡ Semicolon
    → IsDividedAfter text before t behind
divided_after text before t behind is_text are kind =
    let found = in_front 0 are.parts before t behind (sym are.tokens_are) in
    let p = found.first in
    let bytes = encode_utf8_all p.characters in
    let ps = found.front ++ (p ∷ []) in
    let splits : are.parts ≡ ps ++ found.back = found.splits ∙ sym (append_assoc found.front (p ∷ []) found.back) in
    let here = lexeme_at (kind_of t) bytes (start_of t) in
    let at : tokens_of 0 found.front ++ with_token p.sort bytes (0 + bytes_of found.front) [] ≡ before ++ (here ∷ []) =
    (λ i. found.tokens i ++ with_token (found.sort i) bytes (sym found.starts i) []) in
    let tokens : tokens_of 0 ps ≡ before ++ (t ∷ []) =
    tokens_joined 0 found.front (p ∷ []) ∙ at ∙ ap (λ u. before ++ (u ∷ [])) (sym found.is) in
    let long : end_of t ≡ start_of t + size p = ap end_of found.is in
    let ends : end_of t ≡ bytes_of ps = omega (arith, long, found.starts, bytes_of-append found.front (p ∷ []), bytes_of-first p []) in
    divided_at text before t behind ps found.back is_text kind (subst (IsCut (chars text)) splits are.cut)
    (last_at_end found.front p (found.sort ∙ ap Token kind)) ends (sym tokens) (sym found.others)
