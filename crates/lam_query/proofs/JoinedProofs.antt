-- Proofs one behind the other, and what is found one after another.
use Rattle.std.proofs.Common.{◌≡◌, ℕ, ◌+◌, ◌++◌, Option, Some, None, option_map, refl, sym, arith, append_assoc}
use Rattle.std.specs.Option.{option_and_then}
use Rattle.lam_query.specs.Steps.{Proofs, no_proofs, proof_first, steps_before, number_of_steps, steps_of, steps_of_each}

pub then_found : {A B : Type 0} (f : A → Option B) (o : Option A) (y : B) → option_and_then f o ≡ Some y → (x : A) × (o ≡ Some x) × (f x ≡ Some y)
then_found f (Some x) y e = (x, refl, e)
then_found f None y e = let clash : None ≡ Some y = e in absurd cc

pub map_found : {A B : Type 0} (f : A → B) (o : Option A) (y : B) → option_map f o ≡ Some y → (x : A) × (o ≡ Some x) × (f x ≡ y)
map_found f (Some x) y e = let same : Some (f x) ≡ Some y = e in (x, refl, cc)
map_found f None y e = let clash : None ≡ Some y = e in absurd cc

abbrev pub joined : Proofs → Proofs → Proofs
joined no_proofs qs = qs
joined (proof_first p ps) qs = proof_first p (joined ps qs)

pub steps_joined : (n : ℕ) (ps qs : Proofs) → steps_of_each n (joined ps qs) ≡ steps_of_each n ps ++ steps_of_each (n + number_of_steps ps) qs
steps_joined n no_proofs qs = let z : n + 0 ≡ n = omega arith in rw z refl
steps_joined n (proof_first p ps) qs =
    let m : n + steps_before p + 1 + number_of_steps ps ≡ n + (steps_before p + 1 + number_of_steps ps) = omega arith in
    let rest = rw m at (steps_joined (n + steps_before p + 1) ps qs) in
    rw rest (sym (append_assoc (steps_of n p) (steps_of_each (n + steps_before p + 1) ps) (steps_of_each (n + (steps_before p + 1 + number_of_steps ps)) qs)))

pub number_joined : (ps qs : Proofs) → number_of_steps (joined ps qs) ≡ number_of_steps ps + number_of_steps qs
number_joined no_proofs qs = omega arith
number_joined (proof_first p ps) qs = let rest = number_joined ps qs in omega arith
