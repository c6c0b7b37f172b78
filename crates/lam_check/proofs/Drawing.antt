-- Where the steps of a proof stand in a list, and how a proof is drawn from them.
use Rattle.std.proofs.Common.{◌≡◌, ℕ, ◌+◌, ◌<◌, ◌≤◌, List, [], ◌∷◌, ◌++◌, length, drop, map, get_or, refl, ap, sym, ◌∙◌, arith}
use Rattle.std.proofs.lemmas.List.{append_assoc, append-nil, drop-drop, drop_at, drop_more, drop-map}
use Rattle.lam_rules.specs.Texts.{Text}
use Rattle.lam_query.specs.Steps.{Step, Conclusion, Proof, concludes, Proofs, no_proofs, proof_first, steps_before, number_of_steps, last_steps, steps_of, steps_of_each}
use Rattle.lam_query.specs.Views.{step_of}
use Rattle.lam_query.specs.declared.answers.Step.{Step as RustStep}
use Rattle.lam_query.proofs.Flat.{length_of_steps, length_of_steps_of_each}
use Rattle.lam_check.specs.declared.forms.Form.{Form}
use Rattle.lam_check.specs.declared.terms.Role.{Role}
use Rattle.lam_check.specs.declared.terms.Role.TheVariants.{Other}
use Rattle.lam_check.specs.Terms.{first_role}
use Rattle.lam_check.specs.Drawings.{before, behind, count, drawn, drawn_each}
use Rattle.lam_check.specs.inner.Drawing.{Stands, AllStand, AreLeft}

-- ---- where steps stand

-- the steps of a proof are all there are
pub stands_alone : (steps : List Step) (p : Proof) → steps ≡ steps_of 0 p → Stands steps 0 p
stands_alone steps p e = record { after = []; are = e ∙ sym (append-nil (steps_of 0 p)) }

-- what stands behind a front
behind_front : (steps front rest : List Step) (start : ℕ) → drop start steps ≡ front ++ rest → drop (start + length front) steps ≡ rest
behind_front steps front rest start are = sym (drop-drop (length front) start steps) ∙ (ap (drop (length front)) are ∙ drop_at front rest (length front) refl)

-- the step of a conclusion, where its premises' steps begin at this number
abbrev concluding : ℕ → Conclusion → Proofs → Step
concluding start c ps = record { conclusion = c; premises = last_steps start ps }

module _ (steps : List Step) (start : ℕ) (c : Conclusion) (ps : Proofs) (s : Stands steps start (concludes c ps)) where
  split : drop start steps ≡ steps_of_each start ps ++ (concluding start c ps ∷ s.after)
  split = s.are ∙ append_assoc (steps_of_each start ps) (concluding start c ps ∷ []) s.after

  -- the steps of its premises
  pub premises_stand : AllStand steps start ps
  premises_stand = record { after = concluding start c ps ∷ s.after; are = split }

  -- and its own
  last_stands : drop (start + number_of_steps ps) steps ≡ concluding start c ps ∷ s.after
  last_stands = rw (length_of_steps_of_each start ps) at (behind_front steps (steps_of_each start ps) (concluding start c ps ∷ s.after) start split)

module _ (steps : List Step) (start : ℕ) (p : Proof) (ps : Proofs) (all : AllStand steps start (proof_first p ps)) where
  first_split : drop start steps ≡ steps_of start p ++ (steps_of_each (start + steps_before p + 1) ps ++ all.after)
  first_split = all.are ∙ append_assoc (steps_of start p) (steps_of_each (start + steps_before p + 1) ps) all.after

  -- the first of several proofs
  pub first_stands : Stands steps start p
  first_stands = record { after = steps_of_each (start + steps_before p + 1) ps ++ all.after; are = first_split }

  -- and those behind it
  pub others_stand : AllStand steps (start + steps_before p + 1) ps
  others_stand =
      let far : start + (steps_before p + 1) ≡ start + steps_before p + 1 = omega arith in
      let there = behind_front steps (steps_of start p) (steps_of_each (start + steps_before p + 1) ps ++ all.after) start first_split in
      record { after = all.after; are = rw (length_of_steps start p, far) at there }

-- ---- a step and its premises

length-last_steps : (start : ℕ) (ps : Proofs) → length (last_steps start ps) ≡ count ps
length-last_steps start no_proofs = refl
length-last_steps start (proof_first p ps) = omega (arith, length-last_steps (start + steps_before p + 1) ps)

-- the step where a proof ends
own_step : (steps : List RustStep) (number : ℕ) (x : RustStep) (start : ℕ) (c : Conclusion) (ps : Proofs) → number < length steps → x ≡ get_or steps number x
    → Stands (map step_of steps) start (concludes c ps) → number ≡ start + number_of_steps ps
    → step_of x ≡ concluding start c ps
own_step steps number x start c ps inside is s place =
    let there : drop number (map step_of steps) ≡ concluding start c ps ∷ s.after = ap (λ n. drop n (map step_of steps)) place ∙ last_stands (map step_of steps) start c ps s in
    let here : drop number (map step_of steps) ≡ step_of (get_or steps number x) ∷ map step_of (drop (number + 1) steps) =
    drop-map step_of number steps ∙ ap (map step_of) (drop_more steps number x inside) in
    let both : step_of (get_or steps number x) ∷ map step_of (drop (number + 1) steps) ≡ concluding start c ps ∷ s.after = sym here ∙ there in
    let same : step_of (get_or steps number x) ≡ concluding start c ps = cc in
    ap step_of is ∙ same

pub tree_drawn : (form : Form) (text : List ℕ) (depth : ℕ) (role next : Role) (steps : List RustStep) (number : ℕ) (x : RustStep) (was first second now : Text) (size : ℕ)
    → number < length steps → x ≡ get_or steps number x → size ≡ length (step_of x).premises → next ≡ first_role role (step_of x).conclusion
    → first ≡ was ++ before form text depth role (step_of x).conclusion
    → ((start : ℕ) (ps : Proofs) → AllStand (map step_of steps) start ps → (step_of x).premises ≡ last_steps start ps → start + number_of_steps ps ≤ number
    → second ≡ first ++ drawn_each form text (depth + 1) next ps)
    → now ≡ second ++ behind form text size role (step_of x).conclusion
    → (start : ℕ) (p : Proof) → Stands (map step_of steps) start p → number ≡ start + steps_before p → now ≡ was ++ drawn form text depth role p
tree_drawn form text depth role next steps number x was first second now size inside is size_is next_is opens draws closes start (concludes c ps) s place =
    let own = own_step steps number x start c ps inside is s place in
    let says : (step_of x).conclusion ≡ c = ap (λ (y : Step). y.conclusion) own in
    let from : (step_of x).premises ≡ last_steps start ps = ap (λ (y : Step). y.premises) own in
    let sized : size ≡ count ps = size_is ∙ (ap length from ∙ length-last_steps start ps) in
    let a = before form text depth role c in
    let b = drawn_each form text (depth + 1) (first_role role c) ps in
    let z = behind form text (count ps) role c in
    let onward : next ≡ first_role role c = next_is ∙ ap (first_role role) says in
    let middle : second ≡ first ++ b = draws start ps (premises_stand (map step_of steps) start c ps s) from (omega arith) ∙ ap (λ (r : Role). first ++ drawn_each form text (depth + 1) r ps) onward in
    let begun : first ≡ was ++ a = opens ∙ ap (λ (d : Conclusion). was ++ before form text depth role d) says in
    let ended : now ≡ second ++ z = closes ∙ (ap (λ (d : Conclusion). second ++ behind form text size role d) says ∙ ap (λ n. second ++ behind form text n role c) sized) in
    ended ∙ (ap (λ t. t ++ z) (middle ∙ (ap (λ t. t ++ b) begun ∙ append_assoc was a b)) ∙ append_assoc was (a ++ b) z)

-- ---- the premises, one behind the other

pub left_all : (form : Form) (text : List ℕ) (depth : ℕ) (first : Role) (steps : List Step) (end : ℕ) (numbers : List ℕ) (was : Text) (start : ℕ) (ps : Proofs)
    → AllStand steps start ps → numbers ≡ last_steps start ps → start + number_of_steps ps ≤ end
    → AreLeft form text depth first steps end numbers was (was ++ drawn_each form text depth first ps)
left_all form text depth first steps end numbers was start ps stand are within = record { start = start; proofs = ps; stand = stand; are_last = are; within = within; parts = refl }

-- the first one that is left
pub record IsNext (form : Form) (text : List ℕ) (depth : ℕ) (first : Role) (steps : List Step) (end number : ℕ) (rest : List ℕ) (written whole : Text) : Type 0 where
  pub start : ℕ
  pub proof : Proof
  pub stands : Stands steps start proof
  pub ends : number ≡ start + steps_before proof
  pub within : number < end
  pub others : (now : Text) → now ≡ written ++ drawn form text depth first proof → AreLeft form text depth Other steps end rest now whole

pub left_first : (form : Form) (text : List ℕ) (depth : ℕ) (first : Role) (steps : List Step) (end number : ℕ) (rest : List ℕ) (written whole : Text)
    → AreLeft form text depth first steps end (number ∷ rest) written whole → IsNext form text depth first steps end number rest written whole
left_first form text depth first steps end number rest written whole left = by left.proofs left.stand left.are_last left.within left.parts
  where
    by : (ps : Proofs) → AllStand steps left.start ps → number ∷ rest ≡ last_steps left.start ps → left.start + number_of_steps ps ≤ end
        → written ++ drawn_each form text depth first ps ≡ whole → IsNext form text depth first steps end number rest written whole
    by no_proofs stand are within parts = let clash : number ∷ rest ≡ [] = are in absurd cc
    by (proof_first p ps) stand are within parts =
        let both : number ∷ rest ≡ (left.start + steps_before p) ∷ last_steps (left.start + steps_before p + 1) ps = are in
        let own : number ≡ left.start + steps_before p = cc in
        let others : rest ≡ last_steps (left.start + steps_before p + 1) ps = cc in
        record {
          start = left.start;
          proof = p;
          stands = first_stands steps left.start p ps stand;
          ends = own;
          within = omega arith;
          others = λ now is. record {
            start = left.start + steps_before p + 1;
            proofs = ps;
            stand = others_stand steps left.start p ps stand;
            are_last = others;
            within = omega arith;
            parts = ap (λ t. t ++ drawn_each form text depth Other ps) is ∙ (append_assoc written (drawn form text depth first p) (drawn_each form text depth Other ps) ∙ parts);
          };
        }

pub left_none : (form : Form) (text : List ℕ) (depth : ℕ) (first : Role) (steps : List Step) (end : ℕ) (numbers : List ℕ) (written whole : Text) → numbers ≡ []
    → AreLeft form text depth first steps end numbers written whole → written ≡ whole
left_none form text depth first steps end numbers written whole none left = by left.proofs (sym none ∙ left.are_last) left.parts
  where
    by : (ps : Proofs) → [] ≡ last_steps left.start ps → written ++ drawn_each form text depth first ps ≡ whole → written ≡ whole
    by no_proofs are parts = sym (append-nil written) ∙ parts
    by (proof_first p ps) are parts = let clash : [] ≡ (left.start + steps_before p) ∷ last_steps (left.start + steps_before p + 1) ps = are in absurd cc
