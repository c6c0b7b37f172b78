-- Some names, each of them once: they are the same names.
use Rattle.std.proofs.Common.{◌≡◌, ◌⊎◌, inl, inr, List, [], ◌∷◌, Bool, true, false, Option, Some, refl, sym, ap, subst, ◌∙◌, Contains}
use Rattle.std.specs.Prelude.{if◌then◌else◌}
use Rattle.std.specs.Str.{bytes_eq}
use Rattle.std.proofs.lemmas.Slice.Eq.{bytes_eq-Decides}
use Rattle.lam_scope.specs.FreeNames.{without, each_once}
use Rattle.lam_scope.specs.Names.{Name, binds}
use Rattle.lam_scope.proofs.Contained.{first_in, later_in, first_or_later}

-- a name stays where another is taken away
other_stays : (y x : Name) (xs : List Name) → bytes_eq y x ≡ false → Contains xs x → Contains (without (Some y) xs) x
other_stays y x [] differ there = there
other_stays y x (z ∷ xs) differ there = by (λ rest. other_stays y x xs differ rest) (bytes_eq y z) refl (first_or_later z x xs there)
  where
    by : (Contains xs x → Contains (without (Some y) xs) x) → (same : Bool) → bytes_eq y z ≡ same → (z ≡ x) ⊎ Contains xs x
        → Contains (if same then without (Some y) xs else z ∷ without (Some y) xs) x
    by stays true same (inl here) = let both : true ≡ false = sym same ∙ ap (bytes_eq y) here ∙ differ in absurd cc
    by stays true same (inr later) = stays later
    by stays false same (inl here) = subst (λ n. Contains (z ∷ without (Some y) xs) n) here (first_in z (without (Some y) xs))
    by stays false same (inr later) = later_in z x (without (Some y) xs) (stays later)

-- each name is among those that come once
pub once_there : (xs : List Name) (x : Name) → Contains xs x → Contains (each_once xs) x
once_there [] x there = there
once_there (y ∷ xs) x there = by (λ rest. once_there xs x rest) (bytes_eq y x) refl (first_or_later y x xs there)
  where
    first : y ≡ x → Contains (y ∷ without (Some y) (each_once xs)) x
    first here = subst (λ n. Contains (y ∷ without (Some y) (each_once xs)) n) here (first_in y (without (Some y) (each_once xs)))

    by : (Contains xs x → Contains (each_once xs) x) → (same : Bool) → bytes_eq y x ≡ same → (y ≡ x) ⊎ Contains xs x
        → Contains (y ∷ without (Some y) (each_once xs)) x
    by once same is (inl here) = first here
    by once true is (inr later) = first ((bytes_eq-Decides y x).0 is)
    by once false is (inr later) = later_in y x (without (Some y) (each_once xs)) (other_stays y x (each_once xs) is (once later))

-- what is left where a name is taken away was there
rest_there : (o : Option Name) (x : Name) (xs : List Name) → Contains (without o xs) x → Contains xs x
rest_there o x [] there = there
rest_there o x (z ∷ xs) there = by (λ rest. rest_there o x xs rest) (binds o z) there
  where
    by : (Contains (without o xs) x → Contains xs x) → (same : Bool) → Contains (if same then without o xs else z ∷ without o xs) x → Contains (z ∷ xs) x
    by among true rest = later_in z x xs (among rest)
    by among false rest = one (first_or_later z x (without o xs) rest)
      where
        one : (z ≡ x) ⊎ Contains (without o xs) x → Contains (z ∷ xs) x
        one (inl here) = subst (λ n. Contains (z ∷ xs) n) here (first_in z xs)
        one (inr later) = later_in z x xs (among later)

-- each of those that come once is among all
pub there_once : (xs : List Name) (x : Name) → Contains (each_once xs) x → Contains xs x
there_once [] x there = there
there_once (y ∷ xs) x there = by (λ once. there_once xs x once) (first_or_later y x (without (Some y) (each_once xs)) there)
  where
    by : (Contains (each_once xs) x → Contains xs x) → (y ≡ x) ⊎ Contains (without (Some y) (each_once xs)) x → Contains (y ∷ xs) x
    by among (inl here) = subst (λ n. Contains (y ∷ xs) n) here (first_in y xs)
    by among (inr later) = later_in y x xs (among (rest_there (Some y) x (each_once xs) later))
