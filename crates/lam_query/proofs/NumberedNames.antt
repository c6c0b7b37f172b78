-- A name that gets the next number: other names keep theirs, and for each name the same is kept as before.
use Rattle.std.proofs.Common.{◌≡◌, ◌<◌, ◌+◌, ℕ, zero, suc, Bool, true, false, List, [], ◌∷◌, ◌++◌, length, get_or, length-append, Option, Some, None, ◌⊎◌, inl, inr, refl, ap, sym, ◌∙◌, arith}
use Rattle.std.specs.Option.{option_and_then}
use Rattle.std.specs.Map.{update}
use Rattle.std.specs.Str.{bytes_eq}
use Rattle.std.proofs.lemmas.List.{get_or_push}
use Rattle.std.proofs.lemmas.Slice.Eq.{bytes_eq-Decides}
use Rattle.lam_rules.specs.declared.numbers.TyNo.{TyNo}
use Rattle.lam_scope.specs.Names.{Name}
use Rattle.lam_query.specs.declared.bound.Meanings.{Meanings}
use Rattle.lam_query.specs.inner.Bound.{number_of, kept_under, meaning_of, AreNumbered}

-- nothing more is kept where nothing is put behind what is kept
none_behind : (kept : List (Option (Option TyNo))) (n : ℕ) → get_or (kept ++ None ∷ []) n None ≡ get_or kept n None
none_behind [] zero = refl
none_behind [] (suc n) = refl
none_behind (k ∷ kept) zero = refl
none_behind (k ∷ kept) (suc n) = none_behind kept n

-- a name that has no number gets the next one
pub record IsNumberedNext (old now : Meanings) (y : Name) : Type 0 where
  pub fresh : number_of old y ≡ None
  pub one_more : now.entries.items ≡ old.entries.items ++ None ∷ []
  pub updates : (x : Name) → number_of now x ≡ update bytes_eq (number_of old) y (Some (length old.entries.items)) x

module _ (old now : Meanings) (y : Name) (next : IsNumberedNext old now y) where
  -- a name is the one that got the number, or has the number that it had
  new_or_old : (x : Name) → ((y ≡ x) × (number_of now x ≡ Some (length old.entries.items))) ⊎ (number_of now x ≡ number_of old x)
  new_or_old x = by (bytes_eq y x) refl (next.updates x)
    where
      by : (same : Bool) → bytes_eq y x ≡ same → number_of now x ≡ update bytes_eq (number_of old) y (Some (length old.entries.items)) x
          → ((y ≡ x) × (number_of now x ≡ Some (length old.entries.items))) ⊎ (number_of now x ≡ number_of old x)
      by true e is = inl ((bytes_eq-Decides y x).0 e, rw e at is)
      by false e is = inr (rw e at is)

  pub others_keep : (x : Name) (n : ℕ) → number_of old x ≡ Some n → number_of now x ≡ Some n
  others_keep x n is = by (new_or_old x)
    where
      by : ((y ≡ x) × (number_of now x ≡ Some (length old.entries.items))) ⊎ (number_of now x ≡ number_of old x) → number_of now x ≡ Some n
      by (inl p) = let both : None ≡ Some n = sym next.fresh ∙ ap (number_of old) p.0 ∙ is in absurd cc
      by (inr e) = e ∙ is

  kept_now : (n : ℕ) → kept_under now n ≡ kept_under old n
  kept_now n = ap (λ kept. get_or kept n None) next.one_more ∙ none_behind old.entries.items n

  kept_by : (o : Option ℕ) → option_and_then (kept_under now) o ≡ option_and_then (kept_under old) o
  kept_by None = refl
  kept_by (Some n) = kept_now n

  pub same_kept : (x : Name) → meaning_of now x ≡ meaning_of old x
  same_kept x = by (new_or_old x)
    where
      by : ((y ≡ x) × (number_of now x ≡ Some (length old.entries.items))) ⊎ (number_of now x ≡ number_of old x) → meaning_of now x ≡ meaning_of old x
      by (inl p) =
          ap (option_and_then (kept_under now)) p.1
          ∙ ap (λ kept. get_or kept (length old.entries.items) None) next.one_more
          ∙ get_or_push old.entries.items None None (length old.entries.items) refl
          ∙ ap (option_and_then (kept_under old)) (sym next.fresh ∙ ap (number_of old) p.0)
      by (inr e) = ap (option_and_then (kept_under now)) e ∙ kept_by (number_of old x)

  longer : length now.entries.items ≡ length old.entries.items + 1
  longer = ap length next.one_more ∙ length-append old.entries.items (None ∷ [])

  -- the number of a name now is the new one, and the name is the one that got it; or the name had it
  had_or_got : (x : Name) (n : ℕ) → number_of now x ≡ Some n → ((y ≡ x) × (n ≡ length old.entries.items)) ⊎ (number_of old x ≡ Some n)
  had_or_got x n is = by (new_or_old x)
    where
      by : ((y ≡ x) × (number_of now x ≡ Some (length old.entries.items))) ⊎ (number_of now x ≡ number_of old x)
          → ((y ≡ x) × (n ≡ length old.entries.items)) ⊎ (number_of old x ≡ Some n)
      by (inl p) = let both : Some n ≡ Some (length old.entries.items) = sym is ∙ p.1 in inl (p.0, cc)
      by (inr e) = inr (sym e ∙ is)

  pub still_numbered : AreNumbered old → AreNumbered now
  still_numbered before = record {
    inside = λ x n is. inside_now x n (had_or_got x n is);
    own = λ x z n one other. own_now x z n (had_or_got x n one) (had_or_got z n other);
  }
    where
      inside_now : (x : Name) (n : ℕ) → ((y ≡ x) × (n ≡ length old.entries.items)) ⊎ (number_of old x ≡ Some n) → n < length now.entries.items
      inside_now x n (inl p) = omega (arith, longer, p.1)
      inside_now x n (inr is) = omega (arith, longer, before.inside x n is)

      own_now : (x z : Name) (n : ℕ) → ((y ≡ x) × (n ≡ length old.entries.items)) ⊎ (number_of old x ≡ Some n)
          → ((y ≡ z) × (n ≡ length old.entries.items)) ⊎ (number_of old z ≡ Some n) → x ≡ z
      own_now x z n (inl p) (inl q) = sym p.0 ∙ q.0
      own_now x z n (inl p) (inr other) = absurd (omega (arith, p.1, before.inside z n other))
      own_now x z n (inr one) (inl q) = absurd (omega (arith, q.1, before.inside x n one))
      own_now x z n (inr one) (inr other) = before.own x z n one other
