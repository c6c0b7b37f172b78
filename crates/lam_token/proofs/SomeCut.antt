-- Each text has a cut.
use Rattle.std.proofs.Common.{◌≡◌, ℕ, zero, suc, ◌≤◌, ◌<◌, Bool, true, false, Option, Some, None, List, [], ◌∷◌, ◌++◌, length, take, drop, ⊎_elim, sym, refl, ap, ◌∙◌, subst, arith, length-append}
use Rattle.std.proofs.lemmas.Bool.{cases_order}
use Rattle.std.proofs.lemmas.List.{append-nil, take-append-drop, length-take-le, take_at}
use Rattle.lam_token.specs.declared.kind.Kind.TheVariants.{BadCharacter, BadComment}
use Rattle.lam_token.specs.declared.segment.Segment.{Segment}
use Rattle.lam_token.specs.declared.segment.Segment.TheVariants.{Token}
use Rattle.lam_token.specs.Shape.{shape_of, opens_comment}
use Rattle.std.specs.Str.{chars}
use Rattle.lam_token.specs.Lexeme.{Lexeme, end_of}
use Rattle.lam_token.specs.Cut.{NothingBegins, IsFirst, longest, unclosed, stray, Part, IsCut, tokens_of, AreTokensFrom}
use Rattle.lam_token.proofs.Cuts.{one_list_from}

-- a text begins with a first segment that has characters
record Begun (text : List ℕ) : Type 0 where
  sort : Segment
  segment : List ℕ
  rest : List ℕ
  cut : text ≡ segment ++ rest
  is_first : IsFirst sort segment rest
  some : 0 < length segment

-- no front of more characters than these has a shape
abbrev NoneOver : ℕ → List ℕ → Type 0
NoneOver n text = (front after : List ℕ) → text ≡ front ++ after → n < length front → shape_of front ≡ None

nothing : (text : List ℕ) → NoneOver 0 text → NothingBegins text
nothing text none [] after cut = refl
nothing text none (c ∷ front) after cut = none (c ∷ front) after cut (omega arith)

none_begins : (b : Bool) (c : ℕ) (cs : List ℕ) → opens_comment (c ∷ cs) ≡ b → NothingBegins (c ∷ cs) → Begun (c ∷ cs)
none_begins true c cs opens none =
    let whole : (c ∷ cs) ++ [] ≡ c ∷ cs = append-nil (c ∷ cs) in
    record {
      sort = Token BadComment;
      segment = c ∷ cs;
      rest = [];
      cut = sym whole;
      some = omega arith;
      is_first = unclosed (subst NothingBegins (sym whole) none) (ap opens_comment whole ∙ opens) refl;
    }
none_begins false c cs opens none = record { sort = Token BadCharacter; segment = c ∷ []; rest = cs; cut = refl; some = omega arith; is_first = stray none opens refl }

fewer : (n : ℕ) (text : List ℕ) → shape_of (take (suc n) text) ≡ None → NoneOver (suc n) text → NoneOver n text
fewer n text here none front after cut more =
    ⊎_elim (λ same. ap shape_of (sym (ap (take (suc n)) cut ∙ take_at front after (suc n) (sym same))) ∙ here)
    (λ other. ⊎_elim (λ over. none front after cut over) (λ under. absurd (omega (arith, under, more))) other)
    (cases_order (suc n) (length front))

found_at : (o : Option Segment) (n c : ℕ) (cs : List ℕ) → suc n ≤ length (c ∷ cs) → NoneOver (suc n) (c ∷ cs) → shape_of (take (suc n) (c ∷ cs)) ≡ o
    → (NoneOver n (c ∷ cs) → Begun (c ∷ cs)) → Begun (c ∷ cs)
found_at None n c cs le none is shorter = shorter (fewer n (c ∷ cs) is none)
found_at (Some s) n c cs le none is shorter =
    let counted = length-take-le (suc n) (c ∷ cs) le in
    record {
      sort = s;
      segment = take (suc n) (c ∷ cs);
      rest = drop (suc n) (c ∷ cs);
      cut = sym (take-append-drop (suc n) (c ∷ cs));
      some = omega (arith, counted);
      is_first = longest is (λ front after cut more. none front after (sym (take-append-drop (suc n) (c ∷ cs)) ∙ cut) (omega (arith, counted, more)));
    }

longest_from : (n c : ℕ) (cs : List ℕ) → n ≤ length (c ∷ cs) → NoneOver n (c ∷ cs) → Begun (c ∷ cs)
longest_from zero c cs le none = none_begins (opens_comment (c ∷ cs)) c cs refl (nothing (c ∷ cs) none)
longest_from (suc n) c cs le none = found_at (shape_of (take (suc n) (c ∷ cs))) n c cs le none refl (longest_from n c cs (omega (arith, le)))

cut_within : (n : ℕ) (text : List ℕ) → length text ≤ n → (ps : List Part) × IsCut text ps
cut_within n [] le = ([], refl)
cut_within zero (c ∷ cs) le = absurd (omega arith)
cut_within (suc n) (c ∷ cs) le =
    let first = longest_from (length (c ∷ cs)) c cs (omega arith) (λ front after cut more. absurd (omega (arith, more, ap length cut, length-append front after))) in
    let others = cut_within n first.rest (omega (arith, le, first.some, ap length first.cut, length-append first.segment first.rest)) in
    (record { sort = first.sort; characters = first.segment } ∷ others.0, (first.rest, first.cut, first.is_first, others.1))

pub some_cut : (text : List ℕ) → (ps : List Part) × IsCut text ps
some_cut text = cut_within (length text) text (omega arith)

-- the tokens of a text whose first byte has that offset
pub tokens_at : (start : ℕ) → List ℕ → List Lexeme
tokens_at start text = tokens_of start (some_cut (chars text)).0

pub are_tokens_at : (start : ℕ) (text : List ℕ) → AreTokensFrom start text (tokens_at start text)
unfolding tokens_at
are_tokens_at start text = let cut = some_cut (chars text) in record { parts = cut.0; cut = cut.1; tokens_are = refl }

-- they are the first token and those after it, or none
pub first_told : (start : ℕ) (text after : List ℕ) (t : Lexeme) → ((others : List Lexeme) → AreTokensFrom (end_of t) after others → AreTokensFrom start text (t ∷ others)) → tokens_at start text ≡ t ∷ tokens_at (end_of t) after
first_told start text after t first = one_list_from start text _ _ (first (tokens_at (end_of t) after) (are_tokens_at (end_of t) after)) (are_tokens_at start text)

pub none_told : (start : ℕ) (text : List ℕ) → AreTokensFrom start text [] → tokens_at start text ≡ []
none_told start text none = one_list_from start text _ _ none (are_tokens_at start text)
