-- Steps whose premises are the last steps of the proofs directly before them.
use Rattle.std.proofs.Common.{◌≡◌, ℕ, zero, suc, ◌+◌, ◌-◌, ◌<◌, List, [], ◌∷◌, ◌++◌, length, get_or, map, take, drop, Option, Some, None, option_map, Bool, IsTrue, Bor, slice_get, ◌↔◌, ◌≤◌, true, false, refl, sym, ap, subst, ◌∙◌, arith, append_assoc, append-nil, length-append, add-one, if◌then◌else◌}
use Rattle.std.specs.Option.{option_and_then, option_copied}
use Rattle.std.specs.Str.{bytes_eq}
use Rattle.std.proofs.lemmas.List.{take_at, drop_at, take_more, take_all, take-append-drop, length-map, length-take-le, get_or-map}
use Rattle.std.proofs.lemmas.Slice.Eq.{bytes_eq-Decides}
use Rattle.lam_query.specs.Steps.{Conclusion, typing, subtyping, Step, Proof, concludes, Proofs, no_proofs, proof_first, steps_before, number_of_steps, last_steps, steps_of, steps_of_each, last_conclusion}
use Rattle.lam_query.specs.Views.{step_of}
use Rattle.lam_query.specs.declared.answers.Step.{Step as RustStep}
use Rattle.lam_query.proofs.Flat.{length_of_steps, length_of_steps_of_each}
use Rattle.lam_query.proofs.JoinedProofs.{then_found, joined, steps_joined, number_joined}
use Rattle.lam_query.specs.ProofTrees.{Tree, of_typing, of_subtyping, if_typing, tree_in, trees_in, MakeTree}
use Rattle.std.proofs.lemmas.Option.{same_Some}
use Rattle.lam_rules.specs.Typing.{TypingTree}
use Rattle.lam_query.proofs.OneProof.{one_proof_of_steps}
use Rattle.lam_query.proofs.Backwards.{conclusion_of, conclusions_of, said_last, Alike, tree_alike, taken}
use Rattle.lam_query.proofs.TreesMade.{HaveTrees, one_more_tree, one_tree_less}
use Rattle.lam_query.specs.inner.Placing.{IsTypingSaid, MayHave}
use Rattle.lam_query.specs.inner.Backwards.{said_at, said_by}
use Rattle.lam_query.proofs.PendingProofs.{said_got}
use Rattle.lam_query.specs.FirstFaults.{AreOfOneProof, AreOfProofs, IsFirstMisplaced}

-- ---- proofs one after another

lasts_joined : (n : ℕ) (ps qs : Proofs) → last_steps n (joined ps qs) ≡ last_steps n ps ++ last_steps (n + number_of_steps ps) qs
lasts_joined n no_proofs qs = let z : n + 0 ≡ n = omega arith in rw z refl
lasts_joined n (proof_first p ps) qs =
    let m : n + steps_before p + 1 + number_of_steps ps ≡ n + (steps_before p + 1 + number_of_steps ps) = omega arith in
    let rest = rw m at (lasts_joined (n + steps_before p + 1) ps qs) in
    ap (λ l. (n + steps_before p) ∷ l) rest

-- proofs whose last steps are two lists, one after the other
record Apart (n : ℕ) (front top : List ℕ) (all : Proofs) : Type 0 where
  first : Proofs
  rest : Proofs
  whole : all ≡ joined first rest
  are_front : last_steps n first ≡ front
  are_top : last_steps (n + number_of_steps first) rest ≡ top

apart : (n : ℕ) (front top : List ℕ) (all : Proofs) → last_steps n all ≡ front ++ top → Apart n front top all
apart n [] top all e = record { first = no_proofs; rest = all; whole = refl; are_front = refl; are_top = (let z : n + 0 ≡ n = omega arith in rw z e) }
apart n (x ∷ front) top no_proofs e = let clash : [] ≡ x ∷ (front ++ top) = e in absurd cc
apart n (x ∷ front) top (proof_first p ps) e =
    let both : (n + steps_before p) ∷ last_steps (n + steps_before p + 1) ps ≡ x ∷ (front ++ top) = e in
    let here : n + steps_before p ≡ x = cc in
    let others : last_steps (n + steps_before p + 1) ps ≡ front ++ top = cc in
    let parts = apart (n + steps_before p + 1) front top ps others in
    let m : n + (steps_before p + 1 + number_of_steps parts.first) ≡ n + steps_before p + 1 + number_of_steps parts.first = omega arith in
    record {
      first = proof_first p parts.first;
      rest = parts.rest;
      whole = ap (λ qs. proof_first p qs) parts.whole;
      are_front = (λ i. here i ∷ parts.are_front i);
      are_top = rw m parts.are_top;
    }

-- ---- the last steps of the proofs so far, after each step

-- a list without its last elements, if they are these
abbrev without : List ℕ → List ℕ → Option (List ℕ)
without xs ys = if bytes_eq ys (drop (length xs - length ys) xs) then Some (take (length xs - length ys) xs) else None

abbrev after_one : ℕ → Step → List ℕ → Option (List ℕ)
after_one n s lasts = option_map (λ below. below ++ n ∷ []) (without lasts s.premises)

abbrev after_all : ℕ → List Step → List ℕ → Option (List ℕ)
after_all n [] lasts = Some lasts
after_all n (s ∷ steps) lasts = option_and_then (λ more. after_all (n + 1) steps more) (after_one n s lasts)

without_top : (xs ys : List ℕ) → without (xs ++ ys) ys ≡ Some xs
without_top xs ys =
    let long = length-append xs ys in
    let less : length (xs ++ ys) - length ys ≡ length xs = omega arith in
    let same = (bytes_eq-Decides ys ys).1 refl in
    rw (less, drop_at xs ys (length xs) refl, take_at xs ys (length xs) refl, same) refl

mutual
  of_proof : (n : ℕ) (p : Proof) (rest : List Step) (lasts : List ℕ) → after_all n (steps_of n p ++ rest) lasts ≡ after_all (n + steps_before p + 1) rest (lasts ++ (n + steps_before p) ∷ [])
  of_proof n (concludes c ps) rest lasts =
      let own : Step = record { conclusion = c; premises = last_steps n ps } in
      let split = append_assoc (steps_of_each n ps) (own ∷ []) rest in
      let before = of_proofs n ps (own ∷ rest) lasts in
      let here = without_top lasts (last_steps n ps) in
      ap (λ ss. after_all n ss lasts) split
      ∙ before
      ∙ ap (λ o. option_and_then (λ more. after_all (n + number_of_steps ps + 1) rest more) (option_map (λ below. below ++ (n + number_of_steps ps) ∷ []) o)) here

  of_proofs : (n : ℕ) (ps : Proofs) (rest : List Step) (lasts : List ℕ) → after_all n (steps_of_each n ps ++ rest) lasts ≡ after_all (n + number_of_steps ps) rest (lasts ++ last_steps n ps)
  of_proofs n no_proofs rest lasts = let z : n + 0 ≡ n = omega arith in rw (z, append-nil lasts) refl
  of_proofs n (proof_first p ps) rest lasts =
      let m = n + steps_before p + 1 in
      let far : m + number_of_steps ps ≡ n + (steps_before p + 1 + number_of_steps ps) = omega arith in
      ap (λ ss. after_all n ss lasts) (append_assoc (steps_of n p) (steps_of_each m ps) rest)
      ∙ of_proof n p (steps_of_each m ps ++ rest) lasts
      ∙ of_proofs m ps rest (lasts ++ (n + steps_before p) ∷ [])
      ∙ (λ i. after_all (far i) rest (append_assoc lasts ((n + steps_before p) ∷ []) (last_steps m ps) i))

-- proofs have these last steps
of_all : (ps : Proofs) → after_all 0 (steps_of_each 0 ps) [] ≡ Some (last_steps 0 ps)
of_all ps = ap (λ ss. after_all 0 ss []) (sym (append-nil (steps_of_each 0 ps))) ∙ of_proofs 0 ps [] []

then_then : {A B C : Type 0} (f : A → Option B) (g : B → Option C) (o : Option A) → option_and_then (λ x. option_and_then g (f x)) o ≡ option_and_then g (option_and_then f o)
then_then f g None = refl
then_then f g (Some x) = refl

then_rest : (n : ℕ) (steps more : List Step) (lasts : List ℕ) → after_all n (steps ++ more) lasts ≡ option_and_then (λ l. after_all (n + length steps) more l) (after_all n steps lasts)
then_rest n [] more lasts = let z : n + 0 ≡ n = omega arith in rw z refl
then_rest n (t ∷ steps) more lasts =
    let far : n + 1 + length steps ≡ n + suc (length steps) = omega arith in
    (λ i. option_and_then (λ l. then_rest (n + 1) steps more l i) (after_one n t lasts))
    ∙ then_then (λ l. after_all (n + 1) steps l) (λ l. after_all (n + 1 + length steps) more l) (after_one n t lasts)
    ∙ ap (λ m. option_and_then (λ l. after_all m more l) (option_and_then (λ l. after_all (n + 1) steps l) (after_one n t lasts))) far

-- ---- the code

-- The steps so far are of proofs with these last steps, and it is known whether each has a tree.
pub record AreSoFar (steps : List Step) (lasts : List ℕ) (have_trees : Bool) : Type 0 where
  pub proofs : Proofs
  pub are : steps ≡ steps_of_each 0 proofs
  pub lasts_are : lasts ≡ last_steps 0 proofs
  pub trees : IsTrue have_trees ↔ HaveTrees proofs

pub none_yet : AreSoFar [] [] true
none_yet = record { proofs = no_proofs; are = refl; lasts_are = refl; trees = ((λ t. ([], refl)), (λ h. refl)) }

one_further : (all steps : List Step) (s : Step) (rest : List Step) (front : List ℕ) (have next : Bool) → all ≡ steps ++ s ∷ rest
    → (IsTrue next ↔ (MayHave s.conclusion (map (said_at all) s.premises) × IsTrue have)) → AreSoFar steps (front ++ s.premises) have → AreSoFar (steps ++ s ∷ []) (front ++ length steps ∷ []) next
one_further all steps s rest front have next whole fits h =
    let parts = apart 0 front s.premises h.proofs (sym h.lasts_are) in
    let m = 0 + number_of_steps parts.first in
    let own = concludes s.conclusion parts.rest in
    let before = h.are ∙ ap (steps_of_each 0) parts.whole ∙ steps_joined 0 parts.first parts.rest in
    let long = length_of_steps_of_each 0 (joined parts.first parts.rest) in
    let many = number_joined parts.first parts.rest in
    let size : length steps ≡ length (steps_of_each 0 (joined parts.first parts.rest)) = ap length (h.are ∙ ap (steps_of_each 0) parts.whole) in
    let last : length steps ≡ m + number_of_steps parts.rest = omega arith in
    let step : record { conclusion = s.conclusion; premises = last_steps m parts.rest } ≡ s = (λ i. record { conclusion = s.conclusion; premises = parts.are_top i }) in
    let list : all ≡ steps_of_each 0 parts.first ++ (steps_of_each m parts.rest ++ s ∷ rest) =
    whole ∙ ap (λ ss. ss ++ s ∷ rest) before ∙ append_assoc (steps_of_each 0 parts.first) (steps_of_each m parts.rest) (s ∷ rest) in
    let front_size = length_of_steps_of_each 0 parts.first in
    let said : map (said_at all) s.premises ≡ map Some (conclusions_of parts.rest) =
    ap (map (said_at all)) (sym parts.are_top)
    ∙ ap (λ ss. map (said_at ss) (last_steps m parts.rest)) list
    ∙ said_last (steps_of_each 0 parts.first) parts.rest (s ∷ rest) m (omega arith) in
    record {
      proofs = joined parts.first (proof_first own no_proofs);
      are =
          ap (λ ss. ss ++ s ∷ []) before
          ∙ append_assoc (steps_of_each 0 parts.first) (steps_of_each m parts.rest) (s ∷ [])
          ∙ ap (λ t. steps_of_each 0 parts.first ++ (steps_of_each m parts.rest ++ t ∷ [])) (sym step)
          ∙ ap (λ ss. steps_of_each 0 parts.first ++ ss) (sym (append-nil (steps_of m own)))
          ∙ sym (steps_joined 0 parts.first (proof_first own no_proofs));
      lasts_are = (λ i. sym parts.are_front i ++ last i ∷ []) ∙ sym (lasts_joined 0 parts.first (proof_first own no_proofs));
      trees = (
        (λ t. (
            let both = fits.0 t in
            one_more_tree parts.first parts.rest s.conclusion (subst (MayHave s.conclusion) said both.0) (subst HaveTrees parts.whole (h.trees.0 both.1)))),
        (λ k. (
            let less = one_tree_less parts.first parts.rest s.conclusion k in
            fits.1 (subst (MayHave s.conclusion) (sym said) less.0, h.trees.1 (subst HaveTrees (sym parts.whole) less.1)))),
      );
    }

not_further : {A : Type 0} (steps : List Step) (s : Step) (lasts : List ℕ) (have : Bool) → AreSoFar steps lasts have → bytes_eq s.premises (drop (length lasts - length s.premises) lasts) ≡ false
    → AreOfProofs (steps ++ s ∷ []) → A
not_further steps s lasts have h other all =
    let so_far : after_all 0 steps [] ≡ Some lasts = ap (λ ss. after_all 0 ss []) h.are ∙ of_all h.proofs ∙ ap (λ l. Some l) (sym h.lasts_are) in
    let none : after_one (length steps) s lasts ≡ None = rw other refl in
    let none_more : 0 + length steps ≡ length steps = omega arith in
    let stuck : after_all 0 (steps ++ s ∷ []) [] ≡ None =
    then_rest 0 steps (s ∷ []) []
    ∙ ap (λ n. option_and_then (λ l. after_all n (s ∷ []) l) (after_all 0 steps [])) none_more
    ∙ ap (option_and_then (λ l. after_all (length steps) (s ∷ []) l)) so_far
    ∙ ap (option_and_then (λ l. after_all (length steps + 1) [] l)) none
    in
    let clash : None ≡ Some (last_steps 0 all.proofs) = sym stuck ∙ ap (λ ss. after_all 0 ss []) all.are ∙ of_all all.proofs in
    absurd cc

-- the first steps of a list, and one more
more_steps : (steps : List RustStep) (i : ℕ) (x : RustStep) → i < length steps → x ≡ get_or steps i x → take (i + 1) (map step_of steps) ≡ take i (map step_of steps) ++ step_of x ∷ []
more_steps steps i x inside is =
    let long = length-map steps step_of in
    take_more (map step_of steps) i (step_of x) (omega arith)
    ∙ ap (λ y. take i (map step_of steps) ++ y ∷ []) (get_or-map step_of steps i x (step_of x) inside ∙ ap step_of (sym is))

size_so_far : (steps : List RustStep) (i : ℕ) → i < length steps → length (take i (map step_of steps)) ≡ i
size_so_far steps i inside = length-take-le i (map step_of steps) (let long = length-map steps step_of in omega arith)

pub is_misplaced : (steps : List RustStep) (i : ℕ) (x : RustStep) (lasts premises : List ℕ) (have : Bool) → i < length steps → x ≡ get_or steps i x → premises ≡ (step_of x).premises
    → AreSoFar (take i (map step_of steps)) lasts have → bytes_eq premises (drop (length lasts - length premises) lasts) ≡ false → IsFirstMisplaced (map step_of steps) i
is_misplaced steps i x lasts premises have inside is are h other = record {
  inside = (let long = length-map steps step_of in omega arith);
  before = record { proofs = h.proofs; are = h.are };
  not_with_it = λ all.
      let front : take (suc i) (map step_of steps) ≡ take i (map step_of steps) ++ step_of x ∷ [] = rw add-one at (more_steps steps i x inside is) in
      not_further (take i (map step_of steps)) (step_of x) lasts have h (ap (λ ps. bytes_eq ps (drop (length lasts - length ps) lasts)) (sym are) ∙ other) (subst AreOfProofs front all);
}

pub is_placed : (steps : List RustStep) (i : ℕ) (x : RustStep) (lasts now premises : List ℕ) (have next : Bool) → i < length steps → x ≡ get_or steps i x → premises ≡ (step_of x).premises
    → (IsTrue next ↔ (MayHave (step_of x).conclusion (map (said_at (map step_of steps)) premises) × IsTrue have))
    → AreSoFar (take i (map step_of steps)) lasts have → bytes_eq premises (drop (length lasts - length premises) lasts) ≡ true
    → now ≡ take (length lasts - length premises) lasts ++ i ∷ [] → AreSoFar (take (i + 1) (map step_of steps)) now next
is_placed steps i x lasts now premises have next inside is are fits h same pushed =
    let front = take (length lasts - length premises) lasts in
    let top : premises ≡ drop (length lasts - length premises) lasts = (bytes_eq-Decides premises (drop (length lasts - length premises) lasts)).0 same in
    let whole : lasts ≡ front ++ (step_of x).premises = sym (take-append-drop (length lasts - length premises) lasts) ∙ ap (λ l. front ++ l) (sym top ∙ are) in
    let all = map step_of steps in
    let more = more_steps steps i x inside is in
    let list : all ≡ take i all ++ step_of x ∷ drop (i + 1) all =
    sym (take-append-drop (i + 1) all) ∙ ap (λ ss. ss ++ drop (i + 1) all) more ∙ append_assoc (take i all) (step_of x ∷ []) (drop (i + 1) all) in
    let further =
    one_further all (take i all) (step_of x) (drop (i + 1) all) front have next list
    (subst (λ ps. IsTrue next ↔ (MayHave (step_of x).conclusion (map (said_at all) ps) × IsTrue have)) are fits) (subst (λ l. AreSoFar (take i all) l have) whole h) in
    subst (λ l. AreSoFar (take (i + 1) all) l next) (sym (pushed ∙ ap (λ n. front ++ n ∷ []) (sym (size_so_far steps i inside))))
    (subst (λ ss. AreSoFar ss (front ++ length (take i all) ∷ []) next) (sym more) further)

-- ---- whole lists

-- the steps of one proof are those of proofs
pub of_one : (steps : List Step) (p : Proof) → steps ≡ steps_of 0 p → AreOfProofs steps
of_one steps p is = record { proofs = proof_first p no_proofs; are = is ∙ sym (append-nil (steps_of 0 p)) }

-- so are those before the last one
last_apart : (ps : Proofs) (n : ℕ) → number_of_steps ps ≡ suc n → (front : Proofs) × (p : Proof) × (ps ≡ joined front (proof_first p no_proofs))
last_apart no_proofs n many = absurd (omega (arith, many))
last_apart (proof_first p no_proofs) n many = (no_proofs, p, refl)
last_apart (proof_first p (proof_first q qs)) n many =
    let rest = last_apart (proof_first q qs) (steps_before q + number_of_steps qs) (omega arith) in
    (proof_first p rest.0, rest.1, ap (λ rs. proof_first p rs) rest.2)

one_less : (steps : List Step) (n : ℕ) → AreOfProofs (take (suc n) steps) → n < length steps → AreOfProofs (take n steps)
one_less steps n all inside =
    let long = length-take-le (suc n) steps (omega arith) in
    let many = length_of_steps_of_each 0 all.proofs in
    let same = ap length all.are in
    let apart = last_apart all.proofs n (omega arith) in
    let next : n + 1 ≡ suc n = omega arith in
    without_last apart.0 apart.1 (ap (λ k. take k steps) next ∙ all.are ∙ ap (steps_of_each 0) apart.2)
  where
    got : (xs : List Step) (k : ℕ) (d : Step) → k < length xs → get_or xs k (get_or xs k d) ≡ get_or xs k d
    got [] k d lt = absurd (omega arith)
    got (x ∷ xs) zero d lt = refl
    got (x ∷ xs) (suc k) d lt = got xs k d (omega arith)

    without_last : (front : Proofs) (p : Proof) → take (n + 1) steps ≡ steps_of_each 0 (joined front (proof_first p no_proofs)) → AreOfProofs (take n steps)
    without_last front (concludes c qs) are = record {
      proofs = joined front qs;
      are = (taken steps n (get_or steps n (record { conclusion = c; premises = [] })) inside (sym (got steps n (record { conclusion = c; premises = [] }) inside)) front c qs are).are;
    }

-- a longer beginning of the list is not, either
pub longer_misplaced : {A : Type 0} (steps : List Step) (number more : ℕ) → suc number + more ≤ length steps → IsFirstMisplaced steps number → AreOfProofs (take (suc number + more) steps) → A
longer_misplaced steps number zero le h all =
    let none : suc number + 0 ≡ suc number = omega arith in
    absurd (h.not_with_it (subst (λ n. AreOfProofs (take n steps)) none all))
longer_misplaced steps number (suc more) le h all =
    let next : suc number + suc more ≡ suc (suc number + more) = omega arith in
    longer_misplaced steps number more (omega (arith, le)) h (one_less steps (suc number + more) (subst (λ n. AreOfProofs (take n steps)) next all) (omega (arith, le)))

pub never_misplaced : {A : Type 0} (steps : List Step) (number : ℕ) → IsFirstMisplaced steps number → AreOfProofs steps → A
never_misplaced steps number h all =
    let inside = h.inside in
    let whole : length steps ≡ suc number + (length steps - suc number) = omega arith in
    longer_misplaced steps number (length steps - suc number) (omega arith) h
    (subst (λ n. AreOfProofs (take n steps)) whole (subst AreOfProofs (sym (take_all (length steps) steps (omega arith))) all))

pub one_is_placed : {A : Type 0} (steps : List Step) (p : Proof) (number : ℕ) → steps ≡ steps_of 0 p → IsFirstMisplaced steps number → A
one_is_placed steps p number is h = never_misplaced steps number h (of_one steps p is)

pub never_empty : {A : Type 0} (steps : List Step) (p : Proof) → steps ≡ steps_of 0 p → length steps ≡ 0 → A
never_empty steps p is none = let long = length_of_steps 0 p in let same = ap length is in absurd (omega arith)

-- ---- whether they are of one proof of typing

one_alone : (ps : Proofs) → length (last_steps 0 ps) ≡ 1 → (p : Proof) × (ps ≡ proof_first p no_proofs)
one_alone no_proofs is = absurd (omega arith)
one_alone (proof_first p no_proofs) is = (p, refl)
one_alone (proof_first p (proof_first q ps)) is = absurd (omega arith)

-- steps of one proof have one last step
one_last : (steps : List Step) (tree : TypingTree) (proofs : Proofs) → steps ≡ steps_of_each 0 proofs → MakeTree steps tree → length (last_steps 0 proofs) ≡ 1
one_last steps tree proofs are h =
    let all : steps_of_each 0 proofs ≡ steps_of_each 0 (proof_first h.whole no_proofs) = sym are ∙ h.are_steps ∙ sym (append-nil (steps_of 0 h.whole)) in
    let same : Some (last_steps 0 proofs) ≡ Some (last_steps 0 (proof_first h.whole no_proofs)) =
    sym (of_all proofs) ∙ ap (λ ss. after_all 0 ss []) all ∙ of_all (proof_first h.whole no_proofs) in
    ap length (same_Some (last_steps 0 proofs) (last_steps 0 (proof_first h.whole no_proofs)) same)

last_said : (n : ℕ) (p : Proof) → last_conclusion (steps_of n p) ≡ Some (conclusion_of p)
last_said n (concludes c ps) = last_pushed (steps_of_each n ps) (record { conclusion = c; premises = last_steps n ps })
  where
    last_pushed : (steps : List Step) (s : Step) → last_conclusion (steps ++ s ∷ []) ≡ Some s.conclusion
    last_pushed [] s = refl
    last_pushed (t ∷ []) s = refl
    last_pushed (t ∷ u ∷ steps) s = last_pushed (u ∷ steps) s

typing_tree : (c : Conclusion) (t : Tree) → Alike c t → IsTypingSaid (Some c) → (tree : TypingTree) × (if_typing t ≡ Some tree)
typing_tree (typing r s ty) (of_typing p) h is = (p, refl)
typing_tree (typing r s ty) (of_subtyping q) h is = absurd h
typing_tree (subtyping r l u) t h is = absurd is

typing_said : (c : Conclusion) (t : Tree) (tree : TypingTree) → Alike c t → if_typing t ≡ Some tree → IsTypingSaid (Some c)
typing_said (typing r s ty) t tree h is = tt
typing_said (subtyping r l u) (of_typing p) tree h is = absurd h
typing_said (subtyping r l u) (of_subtyping q) tree h is = let clash : None ≡ Some tree = is in absurd cc

pub of_one_typing : (steps : List Step) (lasts : List ℕ) (have : Bool) → AreSoFar steps lasts have → length lasts ≡ 1 → IsTrue have → IsTypingSaid (last_conclusion steps) → AreOfOneProof steps
of_one_typing steps lasts have h one t typing_last =
    let alone = one_alone h.proofs (sym (ap length h.lasts_are) ∙ one) in
    let p = alone.0 in
    let are : steps ≡ steps_of 0 p = h.are ∙ ap (steps_of_each 0) alone.1 ∙ append-nil (steps_of 0 p) in
    let trees = h.trees.0 t in
    let first = then_found (λ tree. option_map (λ trees. tree ∷ trees) (trees_in no_proofs)) (tree_in p) trees.0 (ap trees_in (sym alone.1) ∙ trees.1) in
    let own = typing_tree (conclusion_of p) first.0 (tree_alike p first.0 first.1) (subst IsTypingSaid (ap last_conclusion are ∙ last_said 0 p) typing_last) in
    record { tree = own.0; make = record { whole = p; are_steps = are; is_tree = ap (option_and_then if_typing) first.1 ∙ own.1 } }

-- if they are, all of it is so
pub all_so : (steps : List Step) (lasts : List ℕ) (have : Bool) (tree : TypingTree) → AreSoFar steps lasts have → MakeTree steps tree
    → (length lasts ≡ 1) × IsTrue have × IsTypingSaid (last_conclusion steps)
all_so steps lasts have tree h made =
    let one = one_last steps tree h.proofs h.are made in
    let alone = one_alone h.proofs one in
    let are : steps ≡ steps_of 0 alone.0 = h.are ∙ ap (steps_of_each 0) alone.1 ∙ append-nil (steps_of 0 alone.0) in
    let whole : made.whole ≡ alone.0 = one_proof_of_steps made.whole alone.0 (sym made.are_steps ∙ are) in
    let found = then_found if_typing (tree_in made.whole) tree made.is_tree in
    let trees : trees_in h.proofs ≡ Some (found.0 ∷ []) =
    ap trees_in alone.1 ∙ ap (λ p. option_and_then (λ t. Some (t ∷ [])) (tree_in p)) (sym whole) ∙ ap (option_and_then (λ t. Some (t ∷ []))) found.1 in (
      ap length h.lasts_are ∙ one,
      h.trees.1 (found.0 ∷ [], trees),
      subst IsTypingSaid (sym (ap last_conclusion made.are_steps ∙ last_said 0 made.whole)) (typing_said (conclusion_of made.whole) found.0 tree (tree_alike made.whole found.0 found.1) found.2),
    )

said_of_last : (steps : List Step) → said_at steps (length steps - 1) ≡ last_conclusion steps
said_of_last [] = refl
said_of_last (s ∷ []) = refl
said_of_last (s ∷ t ∷ steps) =
    let less : length (s ∷ t ∷ steps) - 1 ≡ suc (length (t ∷ steps) - 1) = omega arith in
    ap (said_at (s ∷ t ∷ steps)) less ∙ said_of_last (t ∷ steps)

pub last_got : (steps : List RustStep) (got : Option (Bor RustStep)) → option_copied got ≡ slice_get steps (length steps - 1) → said_by got ≡ last_conclusion (map step_of steps)
last_got steps got is =
    let same : length steps - 1 ≡ length (map step_of steps) - 1 = (let long = length-map steps step_of in omega arith) in
    said_got steps (length steps - 1) got is ∙ ap (said_at (map step_of steps)) same ∙ said_of_last (map step_of steps)

-- all steps have been read
pub whole_list : (steps : List RustStep) (i : ℕ) (lasts : List ℕ) (have : Bool) → length steps ≤ i → AreSoFar (take i (map step_of steps)) lasts have → AreSoFar (map step_of steps) lasts have
whole_list steps i lasts have past h = subst (λ ss. AreSoFar ss lasts have) (take_all i (map step_of steps) (let long = length-map steps step_of in omega arith)) h
