-- Whether a document has a size fault is decided, and so it is for the places in front of a term; and none has two.
use Rattle.std.proofs.Common.{◌≡◌, ◌⊎◌, ℕ, zero, suc, ◌<◌, ◌≤◌, List, [], ◌∷◌, take, Option, Some, None, refl, sym, ap, subst, ◌∙◌, inl, inr, arith}
use Rattle.std.proofs.lemmas.Bool.{cases_lt}
use Rattle.lam_rules.specs.Types.{Typ, nodes}
use Rattle.lam_rules.specs.declared.rules.Dialect.{Dialect}
use Rattle.lam_rules.proofs.SortedSizes.{one_size}
use Rattle.lam_token.specs.declared.span.Span.{Span}
use Rattle.lam_syntax.specs.Trees.{CommandTree}
use Rattle.lam_scope.specs.Places.{Place}
use Rattle.lam_scope.specs.Nameless.{first_too_large}
use Rattle.lam_scope.proofs.WellFormedForms.{document-wf}
use Rattle.lam_typing.specs.LeastTypes.{IsLeastAt}
use Rattle.lam_typing.specs.Analysis.{AreLeast, IsSmallType, AreSmall, IsTooLarge, IsFirstTooLarge}
use Rattle.lam_typing.proofs.Existing.{exists_at}
use Rattle.lam_query.specs.Sizes.{IsSizeFault, of_written_type, of_term, IsSmall, places_in, span_numbered}
use Rattle.lam_typing.proofs.WellFormedPlaces.{AreWellFormedPlaces, places_of_wf}
use Rattle.lam_scope.proofs.PlacedPlaces.{same_places}
use Rattle.lam_query.specs.WellTypedDocuments.{statements_in}
use Rattle.lam_query.specs.Completions.{IsSmallUpTo}
use Rattle.lam_query.proofs.Small.{is_small, none_too_large}

pub document_places_wf : (commands : List CommandTree) → AreWellFormedPlaces (places_in commands)
document_places_wf commands = subst AreWellFormedPlaces (same_places commands) (places_of_wf [] (statements_in commands) tt (document-wf commands))

-- ---- whether one is too large

pub large_or_small : (o : Option Typ) → ((t : Typ) × (o ≡ Some t) × (4096 < nodes t)) ⊎ IsSmallType o
large_or_small None = inr tt
large_or_small (Some t) = by (cases_lt 4096 (nodes t))
  where
    by : (4096 < nodes t) ⊎ (nodes t ≤ 4096) → ((u : Typ) × (Some t ≡ Some u) × (4096 < nodes u)) ⊎ IsSmallType (Some t)
    by (inl many) = inl (t, refl, many)
    by (inr few) = inr few

module _ (d : Dialect) where
  -- the first place that is too large, or a least type of each place, none too large
  abbrev FirstOrNone : List Place → Type 0
  FirstOrNone ps = ((n : ℕ) × IsFirstTooLarge ps n d) ⊎ ((os : List (Option Typ)) × AreLeast ps os d × AreSmall os)

  large_here : (p : Place) (ps : List Place) (o : Option Typ) (t : Typ) → IsLeastAt p.scope p.here o d → o ≡ Some t → 4096 < nodes t → FirstOrNone (p ∷ ps)
  large_here p ps None t least is over = absurd cc
  large_here p ps (Some u) t least is over = let same : u ≡ t = cc in inl (0, (u, least, rw same over))

  small_here : (p : Place) (ps : List Place) (o : Option Typ) → IsLeastAt p.scope p.here o d → IsSmallType o → FirstOrNone ps → FirstOrNone (p ∷ ps)
  small_here p ps o least small (inl first) = inl (suc first.0, (o, least, small, first.1))
  small_here p ps o least small (inr none) = inr (o ∷ none.0, (least, none.1), (small, none.2))

  sized_here : (p : Place) (ps : List Place) (o : Option Typ) → IsLeastAt p.scope p.here o d → ((t : Typ) × (o ≡ Some t) × (4096 < nodes t)) ⊎ IsSmallType o → FirstOrNone ps → FirstOrNone (p ∷ ps)
  sized_here p ps o least (inl large) rest = large_here p ps o large.0 least large.1 large.2
  sized_here p ps o least (inr small) rest = small_here p ps o least small rest

  first_or_none : (ps : List Place) → AreWellFormedPlaces ps → FirstOrNone ps
  first_or_none [] wf = inr ([], tt, tt)
  first_or_none (p ∷ ps) wf =
      let found = exists_at d p.scope p.here wf.0.0 wf.0.1 in
      sized_here p ps found.0 found.1 (large_or_small found.0) (first_or_none ps wf.1)

  pub fault_or_small : (commands : List CommandTree) → ((s : Span) × IsSizeFault commands s d) ⊎ IsSmall commands d
  fault_or_small commands = by (first_too_large [] commands) refl
    where
      by : (found : Option Span) → first_too_large [] commands ≡ found → ((s : Span) × IsSizeFault commands s d) ⊎ IsSmall commands d
      by (Some s) is = inl (s, of_written_type is)
      by None is = placed (first_or_none (places_in commands) (document_places_wf commands))
        where
          placed : FirstOrNone (places_in commands) → ((s : Span) × IsSizeFault commands s d) ⊎ IsSmall commands d
          placed (inl first) = inl (span_numbered commands first.0, of_term first.0 is first.1)
          placed (inr none) = inr (is_small commands none.0 d is none.1 none.2)

  -- ---- no two

  small_not_large : (p : Place) (o : Option Typ) → IsLeastAt p.scope p.here o d → IsSmallType o → IsTooLarge p d → ⊥
  small_not_large p None least small large = least large.0 large.1.0
  small_not_large p (Some u) least small large =
      let same = one_size u large.0 d (least.1 large.0 large.1.0) (large.1.1 u least.0) in
      let over = large.2 in
      omega arith

  one_first : (ps : List Place) (m n : ℕ) → IsFirstTooLarge ps m d → IsFirstTooLarge ps n d → m ≡ n
  one_first [] m n a b = absurd a
  one_first (p ∷ ps) zero zero a b = refl
  one_first (p ∷ ps) zero (suc n) a b = absurd (small_not_large p b.0 b.1 b.2 a)
  one_first (p ∷ ps) (suc m) zero a b = absurd (small_not_large p a.0 a.1 a.2 b)
  one_first (p ∷ ps) (suc m) (suc n) a b = ap suc (one_first ps m n a.3 b.3)

  pub one_size_fault : (commands : List CommandTree) (s r : Span) → IsSizeFault commands s d → IsSizeFault commands r d → s ≡ r
  one_size_fault commands s r (of_written_type a) (of_written_type b) = let same : Some s ≡ Some r = sym a ∙ b in cc
  one_size_fault commands s _ (of_written_type a) (of_term n none large) = let clash : Some s ≡ None = sym a ∙ none in absurd cc
  one_size_fault commands _ r (of_term n none large) (of_written_type b) = let clash : Some r ≡ None = sym b ∙ none in absurd cc
  one_size_fault commands _ _ (of_term m none large) (of_term n none' large') = ap (span_numbered commands) (one_first (places_in commands) m n large large')

-- ---- of any places, of a document, and in front of a term

pub large_or_none : (ps : List Place) (d : Dialect) → AreWellFormedPlaces ps → ((n : ℕ) × IsFirstTooLarge ps n d) ⊎ ((n : ℕ) → IsFirstTooLarge ps n d → ⊥)
large_or_none ps d wf = by (first_or_none d ps wf)
  where
    by : FirstOrNone d ps → ((n : ℕ) × IsFirstTooLarge ps n d) ⊎ ((n : ℕ) → IsFirstTooLarge ps n d → ⊥)
    by (inl first) = inl first
    by (inr none) = inr (λ n large. none_too_large ps none.0 n d none.1 none.2 large)

pub small_or_not : (commands : List CommandTree) (d : Dialect) → IsSmall commands d ⊎ (IsSmall commands d → ⊥)
small_or_not commands d = by (fault_or_small d commands)
  where
    by : ((s : Span) × IsSizeFault commands s d) ⊎ IsSmall commands d → IsSmall commands d ⊎ (IsSmall commands d → ⊥)
    by (inl fault) = inr (λ small. small fault.0 fault.1)
    by (inr small) = inl small

taken_wf : (n : ℕ) (ps : List Place) → AreWellFormedPlaces ps → AreWellFormedPlaces (take n ps)
taken_wf zero [] wf = tt
taken_wf zero (p ∷ ps) wf = tt
taken_wf (suc n) [] wf = tt
taken_wf (suc n) (p ∷ ps) wf = (wf.0, taken_wf n ps wf.1)

pub small_up_to_or_not : (commands : List CommandTree) (number : ℕ) (d : Dialect) → IsSmallUpTo commands number d ⊎ (IsSmallUpTo commands number d → ⊥)
small_up_to_or_not commands number d = by (first_too_large [] commands) refl
  where
    by : (found : Option Span) → first_too_large [] commands ≡ found → IsSmallUpTo commands number d ⊎ (IsSmallUpTo commands number d → ⊥)
    by (Some s) is = inr (λ small. let clash : Some s ≡ None = sym is ∙ small.written in cc)
    by None is = placed (large_or_none (take number (places_in commands)) d (taken_wf number (places_in commands) (document_places_wf commands)))
      where
        placed : ((k : ℕ) × IsFirstTooLarge (take number (places_in commands)) k d) ⊎ ((k : ℕ) → IsFirstTooLarge (take number (places_in commands)) k d → ⊥)
            → IsSmallUpTo commands number d ⊎ (IsSmallUpTo commands number d → ⊥)
        placed (inl first) = inr (λ small. small.terms first.0 first.1)
        placed (inr none) = inl (record { written = is; terms = none })
