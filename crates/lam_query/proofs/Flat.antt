-- How many steps proofs have, and lists of steps while they grow.
use Rattle.std.proofs.Common.{◌≡◌, ℕ, ◌+◌, ◌≤◌, List, [], ◌∷◌, ◌++◌, map, length, drop, get_or, Some, refl, sym, ap, ◌∙◌, arith, zero, suc, length-append, append_assoc, append-nil}
use Rattle.std.proofs.lemmas.List.{length-map, map-append}
use Rattle.std.proofs.Math.ListN.{drop_of_length-le}
use Rattle.lam_rules.specs.Subtyping.{SubTree}
use Rattle.lam_rules.specs.TypingViews.{typings_of}
use Rattle.lam_rules.specs.declared.typing.TypeProof.{TypeProof}
use Rattle.lam_rules.specs.Typing.{TypingTree, TypingTrees, typing_first}
use Rattle.lam_scope.specs.Tables.{Table}
use Rattle.lam_scope.specs.TableViews.{place_number}
use Rattle.lam_scope.specs.declared.numbers.Place.{Place}
use Rattle.lam_query.specs.declared.answers.Step.{Step as RustStep}
use Rattle.lam_query.specs.Steps.{Conclusion, Proof, concludes, Proofs, no_proofs, proof_first, steps_before, number_of_steps, last_steps, steps_of, steps_of_each, sub_proof, with_side}
use Rattle.lam_query.specs.inner.RowSteps.{row_proof, row_proofs}
use Rattle.lam_query.specs.Views.{step_of}
use Rattle.lam_query.specs.inner.Listing.{AreListed}

mutual
  pub length_of_steps : (n : ℕ) (p : Proof) → length (steps_of n p) ≡ steps_before p + 1
  length_of_steps n (concludes c ps) =
      let a = length-append (steps_of_each n ps) (record { conclusion = c; premises = last_steps n ps } ∷ []) in
      let b = length_of_steps_of_each n ps in
      omega arith

  pub length_of_steps_of_each : (n : ℕ) (ps : Proofs) → length (steps_of_each n ps) ≡ number_of_steps ps
  length_of_steps_of_each n no_proofs = refl
  length_of_steps_of_each n (proof_first p ps) =
      let a = length-append (steps_of n p) (steps_of_each (n + steps_before p + 1) ps) in
      let b = length_of_steps n p in
      let c = length_of_steps_of_each (n + steps_before p + 1) ps in
      omega arith

-- of the proofs that are to be listed behind some steps, these are left
pub record IsLeft (start : List RustStep) (all : Proofs) (now : List RustStep) (numbers : List ℕ) (left : Proofs) : Type 0 where
  pub steps : map step_of now ++ steps_of_each (length now) left ≡ map step_of start ++ steps_of_each (length start) all
  pub last : numbers ++ last_steps (length now) left ≡ last_steps (length start) all

pub all_left : (start : List RustStep) (all : Proofs) → IsLeft start all start [] all
all_left start all = record { steps = refl; last = refl }

pub none_left : (start : List RustStep) (all : Proofs) (now : List RustStep) (numbers : List ℕ) (left : Proofs)
    → left ≡ no_proofs → IsLeft start all now numbers left → AreListed start all now numbers
none_left start all now numbers left e h = record {
  steps = let k = rw e at h.steps in sym (append-nil (map step_of now)) ∙ k;
  last = let k = rw e at h.last in sym (append-nil numbers) ∙ k;
}

-- a list that grew by the steps of one proof
pub length-grown : (steps_there now : List RustStep) (p : Proof) → map step_of now ≡ map step_of steps_there ++ steps_of (length steps_there) p
    → length now ≡ length steps_there + steps_before p + 1
length-grown there now p e =
    let a = length-map now step_of in
    let b = length-map there step_of in
    let c = length-append (map step_of there) (steps_of (length there) p) in
    let d = length_of_steps (length there) p in
    let f = ap length e in
    omega arith

pub one_less : (start : List RustStep) (all : Proofs) (there now : List RustStep) (numbers : List ℕ) (last : ℕ) (p : Proof) (left ps : Proofs)
    → left ≡ proof_first p ps → map step_of now ≡ map step_of there ++ steps_of (length there) p → last ≡ length there + steps_before p
    → IsLeft start all there numbers left → IsLeft start all now (numbers ++ last ∷ []) ps
one_less start all there now numbers last p left ps e grows is h =
    let grown = length-grown there now p grows in
    let before = rw e at h.steps in
    let before_last = rw e at h.last in
    record {
      steps = rw (grows, grown) (append_assoc (map step_of there) (steps_of (length there) p) (steps_of_each (length there + steps_before p + 1) ps) ∙ before);
      last = rw (is, grown) (append_assoc numbers ((length there + steps_before p) ∷ []) (last_steps (length there + steps_before p + 1) ps) ∙ before_last);
    }

pub length-listed : (start : List RustStep) (ps : Proofs) (now : List RustStep) (numbers : List ℕ) → AreListed start ps now numbers
    → length now ≡ length start + number_of_steps ps
length-listed start ps now numbers h =
    let a = length-map now step_of in
    let b = length-map start step_of in
    let c = length-append (map step_of start) (steps_of_each (length start) ps) in
    let d = length_of_steps_of_each (length start) ps in
    let f = ap length h.steps in
    omega arith

-- a proof's steps: those of its premises, and its own
pub concluded : (start listed now : List RustStep) (ps : Proofs) (numbers : List ℕ) (step : RustStep) (c : Conclusion)
    → AreListed start ps listed numbers → now ≡ listed ++ step ∷ [] → step_of step ≡ record { conclusion = c; premises = numbers }
    → map step_of now ≡ map step_of start ++ steps_of (length start) (concludes c ps)
concluded start listed now ps numbers step c h is seen =
    rw is (map-append step_of listed (step ∷ [])
    ∙ rw (seen, h.steps, h.last) (append_assoc (map step_of start) (steps_of_each (length start) ps) (record { conclusion = c; premises = last_steps (length start) ps } ∷ [])))

-- the premise of subtyping

with_side-is : (ps : Proofs) (q : SubTree) (n : ℕ)
    → (steps_of_each n (with_side ps (Some q)) ≡ steps_of_each n ps ++ steps_of (n + number_of_steps ps) (sub_proof q))
    × (last_steps n (with_side ps (Some q)) ≡ last_steps n ps ++ (n + number_of_steps ps + steps_before (sub_proof q)) ∷ [])
with_side-is no_proofs q n =
    let z : n + 0 ≡ n = omega arith in
    (rw z (append-nil (steps_of n (sub_proof q))), rw z refl)
with_side-is (proof_first p ps) q n =
    let rest = with_side-is ps q (n + steps_before p + 1) in
    let e : n + steps_before p + 1 + number_of_steps ps ≡ n + (steps_before p + 1 + number_of_steps ps) = omega arith in
    let first = rw e at rest.0 in
    let second = rw e at rest.1 in
    (rw first (sym (append_assoc (steps_of n p) (steps_of_each (n + steps_before p + 1) ps) (steps_of (n + (steps_before p + 1 + number_of_steps ps)) (sub_proof q)))), rw second refl)

pub side_listed : (start there now : List RustStep) (ps : Proofs) (numbers : List ℕ) (q : SubTree) (last : ℕ)
    → AreListed start ps there numbers → map step_of now ≡ map step_of there ++ steps_of (length there) (sub_proof q)
    → last ≡ length there + steps_before (sub_proof q)
    → AreListed start (with_side ps (Some q)) now (numbers ++ last ∷ [])
side_listed start there now ps numbers q last h grows is =
    let n = length-listed start ps there numbers h in
    let side = with_side-is ps q (length start) in
    let grows_so = rw n at grows in
    let is_so = rw n at is in
    record {
      steps = rw (grows_so, h.steps, side.0) (append_assoc (map step_of start) (steps_of_each (length start) ps) (steps_of (length start + number_of_steps ps) (sub_proof q)));
      last = rw (is_so, h.last, side.1) refl;
    }

-- proofs of typing with their places

pub row_proofs-next : (t : Table) (place : ℕ) (terms : List Place) (i : ℕ) (ps : TypingTrees) (p : TypingTree) (rest : TypingTrees) → ps ≡ typing_first p rest
    → row_proofs t place (map place_number (drop i terms)) ps
    ≡ proof_first (row_proof t (get_or (map place_number terms) i place) p) (row_proofs t place (map place_number (drop (i + 1) terms)) rest)
row_proofs-next t place [] i ps p rest e =
    rw (e, drop_of_length-le {A = Place} [] {i = i} (omega arith), drop_of_length-le {A = Place} [] {i = i + 1} (omega arith)) refl
row_proofs-next t place (u ∷ terms) zero ps p rest e = rw e refl
row_proofs-next t place (u ∷ terms) (suc i) ps p rest e =
    let next : suc i + 1 ≡ suc (i + 1) = omega arith in
    rw next (row_proofs-next t place terms i ps p rest e)

pub row_proofs-end : (t : Table) (place : ℕ) (terms : List ℕ) (proofs : List TypeProof) (i : ℕ) → length proofs ≤ i → row_proofs t place terms (typings_of (drop i proofs)) ≡ no_proofs
row_proofs-end t place terms proofs i le = rw (drop_of_length-le proofs le) refl
