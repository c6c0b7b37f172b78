-- Where the offsets of a text move if a name replaces spans that follow each other.
use Rattle.std.proofs.Common.{◌≡◌, ℕ, ◌+◌, ◌-◌, ◌<◌, ◌≤◌, true, false, List, [], ◌∷◌, length, refl, ap, ◌∙◌, arith}
use Rattle.std.specs.Prelude.{◌==◌, ◌||◌, nat_le}
use Rattle.std.proofs.lemmas.Bool.{leb-true, lt-leb, le-leb, eq-eqb, ne_eqb, cond-true, cond-false, cond_both, and_from, and_left, or_from, or_left}
use Rattle.lam_token.specs.declared.span.Span.{Span}
use Rattle.lam_token.specs.Edits.{is_span, among, moved}

-- spans that have bytes, one behind the other, from this byte on
abbrev pub AreApart : (low : ℕ) → List Span → Type 0
AreApart low [] = Unit {0}
AreApart low (s ∷ spans) = (low ≤ s.start) × (s.start < s.end) × AreApart s.end spans

pub apart_lower : (low high : ℕ) (spans : List Span) → low ≤ high → AreApart high spans → AreApart low spans
apart_lower low high [] below apart = tt
apart_lower low high (s ∷ spans) below apart = (omega (arith, apart.0), apart.1, apart.2)

-- what stands before all spans stays where it is
moved_before : (low o : ℕ) (spans : List Span) (new : List ℕ) → AreApart low spans → o ≤ low → moved spans new o ≡ o
moved_before low o [] new apart before = refl
moved_before low o (s ∷ spans) new apart before =
    cond-false (nat_le s.end o) _ _ (lt-leb s.end o (omega (arith, apart.0, apart.1)))
    ∙ moved_before s.end o spans new apart.2 (omega (arith, apart.0, apart.1))

-- and what is at this byte or after it does not move in front of it
moved_from : (low o : ℕ) (spans : List Span) (new : List ℕ) → AreApart low spans → low ≤ o → low ≤ moved spans new o
moved_from low o [] new apart from = from
moved_from low o (s ∷ spans) new apart from =
    cond_both (nat_le s.end o) ((moved spans new o + length new) - (s.end - s.start)) (moved spans new o) (λ n. low ≤ n)
    (λ ended. let later = moved_from s.end o spans new apart.2 (leb-true s.end o ended) in omega (arith, apart.0, apart.1))
    (λ not_ended. moved_from low o spans new (apart_lower low s.end spans (omega (arith, apart.0, apart.1)) apart.2) from)

among_none : (low : ℕ) (spans : List Span) (s : Span) → AreApart low spans → s.start < low → among spans s ≡ false
among_none low [] s apart before = refl
among_none low (t ∷ spans) s apart before =
    or_from (is_span s t) (among spans s)
    (and_left (s.start == t.start) (s.end == t.end) (ne_eqb s.start t.start (λ same. omega (arith, apart.0))))
    (among_none t.end spans s apart.2 (omega (arith, apart.0, apart.1)))

among_first : (s : Span) (spans : List Span) → among (s ∷ spans) s ≡ true
among_first s spans =
    or_left (is_span s s) (among spans s) (and_from (s.start == s.start) (s.end == s.end) (eq-eqb s.start s.start refl) (eq-eqb s.end s.end refl))

-- ---- from one byte on

-- From `start` on, which moves to `there`, only these last spans matter for how far offsets move and for which spans are among all.
pub record Agrees (all : List Span) (new : List ℕ) (start there : ℕ) (spans : List Span) : Type 0 where
  pub moves : (o : ℕ) → start ≤ o → moved all new o + start ≡ moved spans new o + there
  pub finds : (s : Span) → start ≤ s.start → among all s ≡ among spans s

pub agrees_all : (all : List Span) (new : List ℕ) → Agrees all new 0 0 all
agrees_all all new = record { moves = λ o from. refl; finds = λ s from. refl }

module _ (all : List Span) (new : List ℕ) where
  -- behind some bytes that stay
  pub agrees_kept : (start there count : ℕ) (spans : List Span) → Agrees all new start there spans → Agrees all new (start + count) (there + count) spans
  agrees_kept start there count spans agrees = record {
    moves = λ o from. let same = agrees.moves o (omega (arith, from)) in omega arith;
    finds = λ s from. agrees.finds s (omega (arith, from));
  }

  -- behind the first span
  pub agrees_renamed : (start there count : ℕ) (spans : List Span) → 0 < count → AreApart (start + count) spans → Agrees all new start there (record { start = start; end = start + count } ∷ spans)
      → Agrees all new (start + count) (there + length new) spans
  agrees_renamed start there count spans some apart agrees = record { moves = moves; finds = finds }
    where
      moves : (o : ℕ) → start + count ≤ o → moved all new o + (start + count) ≡ moved spans new o + (there + length new)
      moves o from =
          let same = agrees.moves o (omega (arith, from)) in
          let behind : moved (record { start = start; end = start + count } ∷ spans) new o ≡ (moved spans new o + length new) - (start + count - start) = cond-true (nat_le (start + count) o) _ _ (le-leb (start + count) o from) in
          let later = moved_from (start + count) o spans new apart from in
          omega arith

      finds : (s : Span) → start + count ≤ s.start → among all s ≡ among spans s
      finds s from =
          agrees.finds s (omega (arith, from))
          ∙ ap (λ b. b || among spans s) (and_left (s.start == start) (s.end == (start + count)) (ne_eqb s.start start (λ same. omega (arith, from, same))))

  -- `start` itself moves to `there`
  pub agrees_here : (start there : ℕ) (spans : List Span) → AreApart start spans → Agrees all new start there spans → moved all new start ≡ there
  agrees_here start there spans apart agrees = omega (arith, agrees.moves start (omega arith), moved_before start start spans new apart (omega arith))

  -- bytes that stay are none of the spans
  pub kept_among : (start there count : ℕ) (spans : List Span) → 0 < count → AreApart (start + count) spans → Agrees all new start there spans → among all (record { start = start; end = start + count }) ≡ false
  kept_among start there count spans some apart agrees =
      agrees.finds (record { start = start; end = start + count }) (omega arith) ∙ among_none (start + count) spans (record { start = start; end = start + count }) apart (omega arith)

  pub renamed_among : (start there count : ℕ) (spans : List Span) → Agrees all new start there (record { start = start; end = start + count } ∷ spans) → among all (record { start = start; end = start + count }) ≡ true
  renamed_among start there count spans agrees =
      agrees.finds (record { start = start; end = start + count }) (omega arith) ∙ among_first (record { start = start; end = start + count }) spans
