-- Steps tell the proof that they are of.
use Rattle.std.proofs.Common.{◌≡◌, ◌+◌, List, [], ◌∷◌, ◌++◌, length, sym, ap, ◌∙◌, refl, arith, append_assoc, append-nil, length-append}
use Rattle.std.proofs.lemmas.List.{same_from_push}
use Rattle.lam_query.specs.Steps.{Step, Proof, concludes, Proofs, no_proofs, proof_first, steps_before, last_steps, steps_of, steps_of_each}
use Rattle.lam_query.proofs.Flat.{length_of_steps}

-- lists that are put together from parts of one length
same_parts : (xs ys us vs : List Step) → length xs ≡ length us → xs ++ ys ≡ us ++ vs → (xs ≡ us) × (ys ≡ vs)
same_parts [] ys [] vs n e = (refl, e)
same_parts [] ys (u ∷ us) vs n e = absurd (omega arith)
same_parts (x ∷ xs) ys [] vs n e = absurd (omega arith)
same_parts (x ∷ xs) ys (u ∷ us) vs n e =
    let whole : x ∷ (xs ++ ys) ≡ u ∷ (us ++ vs) = e in
    let first : x ≡ u = cc in
    let rest : xs ++ ys ≡ us ++ vs = cc in
    let parts = same_parts xs ys us vs (omega arith) rest in
    (rw (first, parts.0), parts.1)

mutual
  -- proofs whose steps end one list are one proof, and begin at one place
  one_proof : (p q : Proof) (xs ys : List Step) → xs ++ steps_of (length xs) p ≡ ys ++ steps_of (length ys) q → (xs ≡ ys) × (p ≡ q)
  one_proof (concludes c ps) (concludes d qs) xs ys same =
      let own : Step = record { conclusion = c; premises = last_steps (length xs) ps } in
      let other : Step = record { conclusion = d; premises = last_steps (length ys) qs } in
      let pushed = append_assoc xs (steps_of_each (length xs) ps) (own ∷ []) ∙ same ∙ sym (append_assoc ys (steps_of_each (length ys) qs) (other ∷ [])) in
      let ends = same_from_push (xs ++ steps_of_each (length xs) ps) (ys ++ steps_of_each (length ys) qs) own other pushed in
      let conclusion : c ≡ d = ap (λ s. s.conclusion) ends.1 in
      let before = one_proofs ps qs xs ys ends.0 (ap (λ s. s.premises) ends.1) in
      (before.0, rw (conclusion, before.1))

  one_proofs : (ps qs : Proofs) (xs ys : List Step) → xs ++ steps_of_each (length xs) ps ≡ ys ++ steps_of_each (length ys) qs
      → last_steps (length xs) ps ≡ last_steps (length ys) qs → (xs ≡ ys) × (ps ≡ qs)
  one_proofs no_proofs no_proofs xs ys same last = (sym (append-nil xs) ∙ same ∙ append-nil ys, refl)
  one_proofs no_proofs (proof_first q qs) xs ys same last =
      let clash : [] ≡ (length ys + steps_before q) ∷ last_steps (length ys + steps_before q + 1) qs = last in
      absurd cc
  one_proofs (proof_first p ps) no_proofs xs ys same last =
      let clash : (length xs + steps_before p) ∷ last_steps (length xs + steps_before p + 1) ps ≡ [] = last in
      absurd cc
  one_proofs (proof_first p ps) (proof_first q qs) xs ys same last =
      let n = length xs + steps_before p in
      let m = length ys + steps_before q in
      let both : n ∷ last_steps (n + 1) ps ≡ m ∷ last_steps (m + 1) qs = last in
      let first : n ≡ m = cc in
      let rest : last_steps (n + 1) ps ≡ last_steps (m + 1) qs = cc in
      let us = xs ++ steps_of (length xs) p in
      let vs = ys ++ steps_of (length ys) q in
      let own = length-append xs (steps_of (length xs) p) in
      let own_steps = length_of_steps (length xs) p in
      let other = length-append ys (steps_of (length ys) q) in
      let other_steps = length_of_steps (length ys) q in
      let long : length us ≡ n + 1 = omega arith in
      let longer : length vs ≡ m + 1 = omega arith in
      let whole : us ++ steps_of_each (n + 1) ps ≡ vs ++ steps_of_each (m + 1) qs
      = append_assoc xs (steps_of (length xs) p) (steps_of_each (n + 1) ps) ∙ same ∙ sym (append_assoc ys (steps_of (length ys) q) (steps_of_each (m + 1) qs))
      in
      let parts = same_parts us (steps_of_each (n + 1) ps) vs (steps_of_each (m + 1) qs) (omega arith) whole in
      let here = one_proof p q xs ys parts.0 in
      let behind = one_proofs ps qs us vs (rw (long, longer) whole) (rw (long, longer) rest) in
      (here.0, rw (here.1, behind.1))

pub one_proof_of_steps : (p q : Proof) → steps_of 0 p ≡ steps_of 0 q → p ≡ q
one_proof_of_steps p q same = (one_proof p q [] [] same).1
