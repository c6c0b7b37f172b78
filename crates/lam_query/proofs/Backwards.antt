-- Steps of proofs, read from the last one down: the last proof gives way to those of its premises.
use Rattle.std.proofs.Common.{◌≡◌, ℕ, zero, suc, ◌+◌, ◌-◌, ◌<◌, List, [], ◌∷◌, ◌++◌, length, map, take, drop, get_or, Option, Some, None, option_map, slice_get, refl, sym, ap, subst, ◌∙◌, arith, append_assoc, append-nil, length-append, true, false}
use Rattle.std.specs.Option.{option_and_then}
use Rattle.std.proofs.lemmas.List.{take_more, take-append-drop, take_all, length-take-le, length-map, get_or-map}
use Rattle.std.proofs.lemmas.Option.{same_Some}
use Rattle.lam_rules.specs.Subtyping.{conclusion}
use Rattle.lam_rules.specs.Typing.{TypingTree, type_in}
use Rattle.lam_query.specs.ProofTrees.{Tree, of_typing, of_subtyping, typing_premises, sub_premises, tree_from, tree_in, trees_in, if_typing, MakeTree}
use Rattle.lam_query.specs.Steps.{Conclusion, typing, subtyping, Step, Proof, concludes, Proofs, no_proofs, proof_first, steps_before, number_of_steps, last_steps, steps_of, steps_of_each}
use Rattle.lam_query.specs.Views.{step_of}
use Rattle.lam_query.specs.declared.answers.Step.{Step as RustStep}
use Rattle.lam_query.specs.inner.Backwards.{size, said_at, SuitEach, says_each, AreRead}
use Rattle.lam_query.proofs.Counting.{sizes, proofs_size}
use Rattle.lam_query.proofs.Flat.{length_of_steps, length_of_steps_of_each}
use Rattle.lam_query.proofs.JoinedProofs.{then_found, map_found, joined, steps_joined}

-- ---- lists whose last element is taken

pub no_trees : (ps : Proofs) → trees_in ps ≡ Some [] → ps ≡ no_proofs
no_trees no_proofs e = refl
no_trees (proof_first p ps) e =
    let first = then_found (λ tree. option_map (λ trees. tree ∷ trees) (trees_in ps)) (tree_in p) [] e in
    let rest = map_found (λ trees. first.0 ∷ trees) (trees_in ps) [] first.2 in
    let clash : first.0 ∷ rest.0 ≡ [] = rest.2 in
    absurd cc

pub trees_apart : (ps : Proofs) (us : List Tree) (t : Tree) → trees_in ps ≡ Some (us ++ t ∷ [])
    → (front : Proofs) × (p : Proof) × (ps ≡ joined front (proof_first p no_proofs)) × (trees_in front ≡ Some us) × (tree_in p ≡ Some t)
trees_apart no_proofs [] t e = let clash : Some [] ≡ Some (t ∷ []) = e in absurd cc
trees_apart no_proofs (u ∷ us) t e = let clash : Some [] ≡ Some (u ∷ (us ++ t ∷ [])) = e in absurd cc
trees_apart (proof_first p ps) [] t e =
    let first = then_found (λ tree. option_map (λ trees. tree ∷ trees) (trees_in ps)) (tree_in p) (t ∷ []) e in
    let rest = map_found (λ trees. first.0 ∷ trees) (trees_in ps) (t ∷ []) first.2 in
    let both : first.0 ∷ rest.0 ≡ t ∷ [] = rest.2 in
    let own : first.0 ≡ t = cc in
    let none : rest.0 ≡ [] = cc in
    (no_proofs, p, ap (λ qs. proof_first p qs) (no_trees ps (rest.1 ∙ ap Some none)), refl, first.1 ∙ ap Some own)
trees_apart (proof_first p ps) (u ∷ us) t e =
    let first = then_found (λ tree. option_map (λ trees. tree ∷ trees) (trees_in ps)) (tree_in p) (u ∷ (us ++ t ∷ [])) e in
    let rest = map_found (λ trees. first.0 ∷ trees) (trees_in ps) (u ∷ (us ++ t ∷ [])) first.2 in
    let both : first.0 ∷ rest.0 ≡ u ∷ (us ++ t ∷ []) = rest.2 in
    let own : first.0 ≡ u = cc in
    let others : rest.0 ≡ us ++ t ∷ [] = cc in
    let more = trees_apart ps us t (rest.1 ∙ ap Some others) in
    let front =
    ap (option_and_then (λ tree. option_map (λ trees. tree ∷ trees) (trees_in more.0))) first.1
    ∙ ap (option_map (λ trees. first.0 ∷ trees)) more.3
    ∙ ap (λ x. Some (x ∷ us)) own in
    (proof_first p more.0, more.1, ap (λ qs. proof_first p qs) more.2, front, more.4)

pub trees_joined : (ps qs : Proofs) (ts us : List Tree) → trees_in ps ≡ Some ts → trees_in qs ≡ Some us → trees_in (joined ps qs) ≡ Some (ts ++ us)
trees_joined no_proofs qs ts us e k = let none : [] ≡ ts = same_Some [] ts e in k ∙ ap (λ l. Some (l ++ us)) none
trees_joined (proof_first p ps) qs ts us e k =
    let first = then_found (λ tree. option_map (λ trees. tree ∷ trees) (trees_in ps)) (tree_in p) ts e in
    let rest = map_found (λ trees. first.0 ∷ trees) (trees_in ps) ts first.2 in
    rw (first.1, trees_joined ps qs rest.0 us rest.1 k) (ap (λ l. Some (l ++ us)) rest.2)

pub last_same : {A : Type 0} (xs ys : List A) (x y : A) → xs ++ x ∷ [] ≡ ys ++ y ∷ [] → (xs ≡ ys) × (x ≡ y)
last_same [] [] x y e = let same : x ∷ [] ≡ y ∷ [] = e in (refl, cc)
last_same [] (b ∷ []) x y e = let clash : x ∷ [] ≡ b ∷ y ∷ [] = e in absurd cc
last_same [] (b ∷ c ∷ ys) x y e = let clash : x ∷ [] ≡ b ∷ c ∷ (ys ++ y ∷ []) = e in absurd cc
last_same (a ∷ []) [] x y e = let clash : a ∷ x ∷ [] ≡ y ∷ [] = e in absurd cc
last_same (a ∷ c ∷ xs) [] x y e = let clash : a ∷ c ∷ (xs ++ x ∷ []) ≡ y ∷ [] = e in absurd cc
last_same (a ∷ xs) (b ∷ ys) x y e =
    let both : a ∷ (xs ++ x ∷ []) ≡ b ∷ (ys ++ y ∷ []) = e in
    let own : a ≡ b = cc in
    let others : xs ++ x ∷ [] ≡ ys ++ y ∷ [] = cc in
    let rest = last_same xs ys x y others in
    ((λ i. own i ∷ rest.0 i), rest.1)

-- ---- what premises conclude, looked up by their indices

abbrev pub conclusion_of : Proof → Conclusion
conclusion_of (concludes c ps) = c

abbrev pub conclusions_of : Proofs → List Conclusion
conclusions_of no_proofs = []
conclusions_of (proof_first p ps) = conclusion_of p ∷ conclusions_of ps

got_behind : {A : Type 0} (xs : List A) (x : A) (ys : List A) (n : ℕ) → n ≡ length xs → slice_get (xs ++ x ∷ ys) n ≡ Some x
got_behind [] x ys zero e = refl
got_behind [] x ys (suc n) e = absurd (omega (arith, e))
got_behind (y ∷ xs) x ys zero e = absurd (omega (arith, e))
got_behind (y ∷ xs) x ys (suc n) e = got_behind xs x ys n (omega (arith, e))

pub said_last : (before : List Step) (ps : Proofs) (after : List Step) (n : ℕ) → n ≡ length before
    → map (said_at (before ++ (steps_of_each n ps ++ after))) (last_steps n ps) ≡ map Some (conclusions_of ps)
said_last before no_proofs after n e = refl
said_last before (proof_first (concludes c qs) ps) after n e =
    let own : Step = record { conclusion = c; premises = last_steps n qs } in
    let under = steps_of_each n qs in
    let m = n + number_of_steps qs in
    let rest = steps_of_each (m + 1) ps in
    let whole = before ++ (((under ++ own ∷ []) ++ rest) ++ after) in
    let inside : ((under ++ own ∷ []) ++ rest) ++ after ≡ under ++ own ∷ (rest ++ after) =
    append_assoc (under ++ own ∷ []) rest after ∙ append_assoc under (own ∷ []) (rest ++ after) in
    let to_own : whole ≡ (before ++ under) ++ own ∷ (rest ++ after) =
    ap (λ l. before ++ l) inside ∙ sym (append_assoc before under (own ∷ (rest ++ after))) in
    let to_rest : whole ≡ (before ++ (under ++ own ∷ [])) ++ (rest ++ after) =
    ap (λ l. before ++ l) (append_assoc (under ++ own ∷ []) rest after) ∙ sym (append_assoc before (under ++ own ∷ []) (rest ++ after)) in
    let a = length-append before under in
    let b = length_of_steps_of_each n qs in
    let c = length-append before (under ++ own ∷ []) in
    let d = length-append under (own ∷ []) in
    let here : said_at whole m ≡ Some own.conclusion =
    ap (λ l. said_at l m) to_own ∙ ap (option_map (λ (s : Step). s.conclusion)) (got_behind (before ++ under) own (rest ++ after) m (omega arith)) in
    let others : map (said_at whole) (last_steps (m + 1) ps) ≡ map Some (conclusions_of ps) =
    ap (λ l. map (said_at l) (last_steps (m + 1) ps)) to_rest ∙ said_last (before ++ (under ++ own ∷ [])) ps after (m + 1) (omega arith) in
    λ i. here i ∷ others i

-- ---- trees conclude what their proofs do

abbrev pub Alike : Conclusion → Tree → Type 0
Alike (typing r s t) (of_typing p) = type_in p ≡ t
Alike (typing r s t) (of_subtyping q) = ⊥
Alike (subtyping r l u) (of_subtyping q) = conclusion q ≡ record { lower = l; upper = u }
Alike (subtyping r l u) (of_typing p) = ⊥

abbrev pub AlikeEach : List Conclusion → List Tree → Type 0
AlikeEach [] [] = Unit {0}
AlikeEach (c ∷ cs) (t ∷ ts) = Alike c t × AlikeEach cs ts
AlikeEach _ _ = ⊥

pub tree_alike : (p : Proof) (t : Tree) → tree_in p ≡ Some t → Alike (conclusion_of p) t
tree_alike (concludes (typing r s ty) qs) t e =
    let us = then_found (tree_from (typing r s ty)) (trees_in qs) t e in
    let made = map_found _ (typing_premises us.0) t us.2 in
    subst (Alike (typing r s ty)) made.2 refl
tree_alike (concludes (subtyping r lo up) qs) t e =
    let us = then_found (tree_from (subtyping r lo up)) (trees_in qs) t e in
    let made = map_found _ (sub_premises us.0) t us.2 in
    subst (Alike (subtyping r lo up)) made.2 refl

pub trees_alike : (ps : Proofs) (ts : List Tree) → trees_in ps ≡ Some ts → AlikeEach (conclusions_of ps) ts
trees_alike no_proofs ts e = subst (AlikeEach []) (same_Some [] ts e) tt
trees_alike (proof_first p ps) ts e =
    let first = then_found (λ tree. option_map (λ trees. tree ∷ trees) (trees_in ps)) (tree_in p) ts e in
    let rest = map_found (λ trees. first.0 ∷ trees) (trees_in ps) ts first.2 in
    subst (AlikeEach (conclusion_of p ∷ conclusions_of ps)) rest.2 (tree_alike p first.0 first.1, trees_alike ps rest.0 rest.1)

-- ---- one step back

-- the last proof gives way to its premises
pub record IsTaken (steps : List Step) (i : ℕ) (step : Step) (front : Proofs) (c : Conclusion) (qs : Proofs) : Type 0 where
  pub are : take i steps ≡ steps_of_each 0 (joined front qs)
  pub is : step ≡ record { conclusion = c; premises = last_steps (0 + number_of_steps front) qs }
  pub said : map (said_at steps) step.premises ≡ map Some (conclusions_of qs)

pub taken : (steps : List Step) (i : ℕ) (step : Step) → i < length steps → step ≡ get_or steps i step → (front : Proofs) (c : Conclusion) (qs : Proofs)
    → take (i + 1) steps ≡ steps_of_each 0 (joined front (proof_first (concludes c qs) no_proofs)) → IsTaken steps i step front c qs
taken steps i step inside there front c qs are =
    let m = 0 + number_of_steps front in
    let own : Step = record { conclusion = c; premises = last_steps m qs } in
    let first = steps_of_each 0 front in
    let under = steps_of_each m qs in
    let split : take i steps ++ step ∷ [] ≡ (first ++ under) ++ own ∷ [] =
    ap (λ s. take i steps ++ s ∷ []) there ∙ sym (take_more steps i step inside) ∙ are ∙ steps_joined 0 front (proof_first (concludes c qs) no_proofs)
    ∙ ap (λ ss. first ++ ss) (append-nil (under ++ own ∷ [])) ∙ sym (append_assoc first under (own ∷ [])) in
    let same = last_same (take i steps) (first ++ under) step own split in
    let list : steps ≡ first ++ (under ++ drop i steps) =
    sym (take-append-drop i steps) ∙ ap (λ ss. ss ++ drop i steps) same.0 ∙ append_assoc first under (drop i steps) in
    let long = length_of_steps_of_each 0 front in
    record {
      are = same.0 ∙ sym (steps_joined 0 front qs);
      is = same.1;
      said =
          ap (λ (s : Step). map (said_at steps) s.premises) same.1
          ∙ ap (λ ss. map (said_at ss) (last_steps m qs)) list
          ∙ said_last first qs (drop i steps) m (omega arith);
    }

-- What the steps of a tree say about something is what those of its premises say, followed by what its last step says. `Own` tells what that is.
pub record IsParted (L X : Type 0) (Suits : L → Tree → Type 0) (says : ℕ → L → Tree → List X) (under : L → Conclusion → List (Option Conclusion) → List L)
    (Own : X → L → Conclusion → List (Option Conclusion) → List ℕ → Type 0) (n : ℕ) (l : L) (c : Conclusion) (qs : Proofs) (us : List Tree) (t : Tree) : Type 0 where
  pub own : X
  pub suit : SuitEach Suits (under l c (map Some (conclusions_of qs))) us
  pub they_say : says n l t ≡ says_each says n (under l c (map Some (conclusions_of qs))) us ++ own ∷ []
  pub is : Own own l c (map Some (conclusions_of qs)) (last_steps n qs)

module _ (L X : Type 0) (Suits : L → Tree → Type 0) (says : ℕ → L → Tree → List X) where
  suit_apart : (ls : List L) (l : L) (ts : List Tree) → SuitEach Suits (ls ++ l ∷ []) ts
      → (us : List Tree) × (t : Tree) × (ts ≡ us ++ t ∷ []) × SuitEach Suits ls us × Suits l t
  suit_apart [] l [] h = absurd h
  suit_apart [] l (t ∷ []) h = ([], t, refl, tt, h.0)
  suit_apart [] l (t ∷ u ∷ ts) h = absurd h.1
  suit_apart (k ∷ ls) l [] h = absurd h
  suit_apart (k ∷ ls) l (t ∷ ts) h =
      let rest = suit_apart ls l ts h.1 in
      (t ∷ rest.0, rest.1, ap (λ us. t ∷ us) rest.2, (h.0, rest.3), rest.4)

  suit_joined : (ls ms : List L) (ts us : List Tree) → SuitEach Suits ls ts → SuitEach Suits ms us → SuitEach Suits (ls ++ ms) (ts ++ us)
  suit_joined [] ms [] us h k = k
  suit_joined [] ms (t ∷ ts) us h k = absurd h
  suit_joined (l ∷ ls) ms [] us h k = absurd h
  suit_joined (l ∷ ls) ms (t ∷ ts) us h k = (h.0, suit_joined ls ms ts us h.1 k)

  says_joined : (n : ℕ) (ls ms : List L) (ts us : List Tree) → SuitEach Suits ls ts
      → says_each says n (ls ++ ms) (ts ++ us) ≡ says_each says n ls ts ++ says_each says (n + sizes ts) ms us
  says_joined n [] ms [] us h = let none : n + 0 ≡ n = omega arith in rw none refl
  says_joined n [] ms (t ∷ ts) us h = absurd h
  says_joined n (l ∷ ls) ms [] us h = absurd h
  says_joined n (l ∷ ls) ms (t ∷ ts) us h =
      let far : n + size t + sizes ts ≡ n + (size t + sizes ts) = omega arith in
      ap (λ r. says n l t ++ r) (says_joined (n + size t) ls ms ts us h.1)
      ∙ sym (append_assoc (says n l t) (says_each says (n + size t) ls ts) (says_each says (n + size t + sizes ts) ms us))
      ∙ ap (λ m. (says n l t ++ says_each says (n + size t) ls ts) ++ says_each says m ms us) far

module _ (L X : Type 0) (Suits : L → Tree → Type 0) (says : ℕ → L → Tree → List X) (under : L → Conclusion → List (Option Conclusion) → List L)
    (Own : X → L → Conclusion → List (Option Conclusion) → List ℕ → Type 0)
    (parts : (n : ℕ) (l : L) (c : Conclusion) (qs : Proofs) (us : List Tree) (t : Tree) → trees_in qs ≡ Some us → tree_from c us ≡ Some t → Suits l t
    → IsParted L X Suits says under Own n l c qs us t)
    (steps : List Step) (all : List X) (i : ℕ) (ls : List L) (l : L) (step : Step) (done : List X) (inside : i < length steps) (there : step ≡ get_or steps i step) where
  unwind : (front : Proofs) (p : Proof) (us : List Tree) (t : Tree)
      → take (i + 1) steps ≡ steps_of_each 0 (joined front (proof_first p no_proofs)) → trees_in front ≡ Some us → tree_in p ≡ Some t
      → SuitEach Suits ls us → Suits l t → all ≡ says_each says 0 (ls ++ l ∷ []) (us ++ t ∷ []) ++ done
      → (own : X) × AreRead L X Suits says steps all i (ls ++ under l step.conclusion (map (said_at steps) step.premises)) (own ∷ done)
      × Own own l step.conclusion (map (said_at steps) step.premises) step.premises
  unwind front (concludes c qs) us t are front_trees tree suit suits whole =
      let here = taken steps i step inside there front c qs are in
      let concluded : c ≡ step.conclusion = ap (λ (s : Step). s.conclusion) (sym here.is) in
      let said : map Some (conclusions_of qs) ≡ map (said_at steps) step.premises = sym here.said in
      let found = then_found (tree_from c) (trees_in qs) t tree in
      let m = 0 + number_of_steps front in
      let part = parts m l c qs found.0 t found.1 found.2 suits in
      let next = under l c (map Some (conclusions_of qs)) in
      let lefts : next ≡ under l step.conclusion (map (said_at steps) step.premises) = (λ j. under l (concluded j) (said j)) in
      let at : 0 + sizes us ≡ m = (let many = proofs_size front us front_trees in omega arith) in
      let listed : says_each says 0 (ls ++ l ∷ []) (us ++ t ∷ []) ≡ says_each says 0 (ls ++ next) (us ++ found.0) ++ part.own ∷ [] =
      says_joined L X Suits says 0 ls (l ∷ []) us (t ∷ []) suit
      ∙ ap (λ xs. says_each says 0 ls us ++ xs) (append-nil (says (0 + sizes us) l t) ∙ ap (λ k. says k l t) at ∙ part.they_say ∙ ap (λ k. says_each says k next found.0 ++ part.own ∷ []) (sym at))
      ∙ sym (append_assoc (says_each says 0 ls us) (says_each says (0 + sizes us) next found.0) (part.own ∷ []))
      ∙ ap (λ xs. xs ++ part.own ∷ []) (sym (says_joined L X Suits says 0 ls next us found.0 suit)) in (
        part.own,
        record {
          proofs = joined front qs;
          trees = us ++ found.0;
          are = here.are;
          are_trees = trees_joined front qs us found.0 front_trees found.1;
          suit = subst (λ ms. SuitEach Suits (ls ++ ms) (us ++ found.0)) lefts (suit_joined L X Suits says ls next us found.0 suit part.suit);
          whole =
              whole ∙ ap (λ xs. xs ++ done) listed
              ∙ append_assoc (says_each says 0 (ls ++ next) (us ++ found.0)) (part.own ∷ []) done
              ∙ ap (λ ms. says_each says 0 (ls ++ ms) (us ++ found.0) ++ part.own ∷ done) lefts;
        },
        subst (λ ns. Own part.own l step.conclusion (map (said_at steps) step.premises) ns) (ap (λ (s : Step). s.premises) (sym here.is))
            (subst (λ cs. Own part.own l step.conclusion cs (last_steps m qs)) said (subst (λ d. Own part.own l d (map Some (conclusions_of qs)) (last_steps m qs)) concluded part.is)),
      )

  -- the last proof is that of this step, about the last of these
  pub read_back : AreRead L X Suits says steps all (i + 1) (ls ++ l ∷ []) done
      → (own : X) × AreRead L X Suits says steps all i (ls ++ under l step.conclusion (map (said_at steps) step.premises)) (own ∷ done)
      × Own own l step.conclusion (map (said_at steps) step.premises) step.premises
  read_back h =
      let suit = suit_apart L X Suits says ls l h.trees h.suit in
      let trees = trees_apart h.proofs suit.0 suit.1 (h.are_trees ∙ ap Some suit.2) in
      unwind trees.0 trees.1 suit.0 suit.1 (h.are ∙ ap (steps_of_each 0) trees.2) trees.3 trees.4 suit.3 suit.4
      (h.whole ∙ ap (λ ts. says_each says 0 (ls ++ l ∷ []) ts ++ done) suit.2)

-- ---- the first and the last state

module _ (L X : Type 0) (Suits : L → Tree → Type 0) (says : ℕ → L → Tree → List X) where
  pub none_read : (steps : List Step) (l : L) (tree : TypingTree) → MakeTree steps tree → Suits l (of_typing tree)
      → AreRead L X Suits says steps (says 0 l (of_typing tree)) (length steps) (l ∷ []) []
  none_read steps l tree h suits = record {
    proofs = proof_first h.whole no_proofs;
    trees = of_typing tree ∷ [];
    are = take_all (length steps) steps (omega arith) ∙ h.are_steps ∙ sym (append-nil (steps_of 0 h.whole));
    are_trees = (let found = then_found if_typing (tree_in h.whole) tree h.is_tree in rw found.1 (ap (λ t. Some (t ∷ [])) (typing_tree found.0 found.2)));
    suit = (suits, tt);
    whole = sym (append-nil (says 0 l (of_typing tree))) ∙ sym (append-nil (says 0 l (of_typing tree) ++ []));
  }
    where
      typing_tree : (t : Tree) → if_typing t ≡ Some tree → t ≡ of_typing tree
      typing_tree (of_typing p) e = let same : Some p ≡ Some tree = e in ap (λ q. of_typing q) (same_Some p tree e)
      typing_tree (of_subtyping q) e = let clash : None ≡ Some tree = e in absurd cc

  -- while steps are left, so are proofs
  pub never_empty : {A : Type 0} (steps : List Step) (all : List X) (i : ℕ) (done : List X) → i < length steps → AreRead L X Suits says steps all (i + 1) [] done → A
  never_empty steps all i done inside h = go h.trees h.suit h.are_trees
    where
      empty : (ps : Proofs) → ps ≡ no_proofs → take (i + 1) steps ≡ steps_of_each 0 ps → length (take (i + 1) steps) ≡ 0
      empty ps is are = ap length are ∙ ap (λ qs. length (steps_of_each 0 qs)) is

      go : {A : Type 0} (ts : List Tree) → SuitEach Suits [] ts → trees_in h.proofs ≡ Some ts → A
      go [] suit e =
          let none = empty h.proofs (no_trees h.proofs e) h.are in
          let long = length-take-le (i + 1) steps (omega arith) in
          absurd (omega arith)
      go (t ∷ ts) suit e = absurd suit

  pub all_read : (steps : List Step) (all : List X) (ls : List L) (done : List X) → AreRead L X Suits says steps all 0 ls done → all ≡ done
  all_read steps all ls done h = h.whole ∙ ap (λ xs. xs ++ done) (none 0 ls h.trees h.suit (no_steps h.proofs h.are) h.are_trees)
    where
      no_steps : (ps : Proofs) → take 0 steps ≡ steps_of_each 0 ps → ps ≡ no_proofs
      no_steps no_proofs e = refl
      no_steps (proof_first p ps) e =
          let long = ap length e in
          let a = length-append (steps_of 0 p) (steps_of_each (0 + steps_before p + 1) ps) in
          let b = length_of_steps 0 p in
          absurd (omega arith)

      none : (n : ℕ) (ls : List L) (ts : List Tree) → SuitEach Suits ls ts → h.proofs ≡ no_proofs → trees_in h.proofs ≡ Some ts → says_each says n ls ts ≡ []
      none n [] [] suit is e = refl
      none n [] (t ∷ ts) suit is e = absurd suit
      none n (l ∷ ls) [] suit is e = absurd suit
      none n (l ∷ ls) (t ∷ ts) suit is e = let clash : Some [] ≡ Some (t ∷ ts) = sym (ap trees_in is) ∙ e in absurd cc

-- ---- by the code, which counts the steps that it has read

module _ (L X : Type 0) (Suits : L → Tree → Type 0) (says : ℕ → L → Tree → List X) (under : L → Conclusion → List (Option Conclusion) → List L)
    (Own : X → L → Conclusion → List (Option Conclusion) → List ℕ → Type 0)
    (parts : (n : ℕ) (l : L) (c : Conclusion) (qs : Proofs) (us : List Tree) (t : Tree) → trees_in qs ≡ Some us → tree_from c us ≡ Some t → Suits l t
    → IsParted L X Suits says under Own n l c qs us t)
    (steps : List RustStep) (all : List X) (back : ℕ) (done : List X) (inside : back < length steps) where
  abbrev number : ℕ
  number = length steps - 1 - back

  pub one_back : (ls ms rs : List L) (l : L) (x : RustStep) → ls ≡ ms ++ l ∷ [] → x ≡ get_or steps (length steps - 1 - back) x
      → rs ≡ ms ++ under l (step_of x).conclusion (map (said_at (map step_of steps)) (step_of x).premises)
      → AreRead L X Suits says (map step_of steps) all (length steps - back) ls done
      → (own : X) × AreRead L X Suits says (map step_of steps) all (length steps - (back + 1)) rs (own ∷ done)
      × Own own l (step_of x).conclusion (map (said_at (map step_of steps)) (step_of x).premises) (step_of x).premises
  one_back ls ms rs l x popped there pushed h =
      let many : number < length (map step_of steps) = (let long = length-map steps step_of in omega arith) in
      let here : step_of x ≡ get_or (map step_of steps) number (step_of x) = ap step_of there ∙ sym (get_or-map step_of steps number x (step_of x) (omega arith)) in
      let before : length steps - back ≡ number + 1 = omega arith in
      let after : number ≡ length steps - (back + 1) = omega arith in
      let read = read_back L X Suits says under Own parts (map step_of steps) all number ms l (step_of x) done many here
      (subst (λ ks. AreRead L X Suits says (map step_of steps) all (number + 1) ks done) popped (subst (λ n. AreRead L X Suits says (map step_of steps) all n ls done) before h)) in (
        read.0,
        subst (λ n. AreRead L X Suits says (map step_of steps) all n rs (read.0 ∷ done)) after
            (subst (λ ks. AreRead L X Suits says (map step_of steps) all number ks (read.0 ∷ done)) (sym pushed) read.1),
        read.2,
      )

pub none_pending : {A P : Type 0} (L X : Type 0) (Suits : L → Tree → Type 0) (says : ℕ → L → Tree → List X) (steps : List RustStep) (all : List X) (back : ℕ) (done : List X) (f : P → L) (ps : List P)
    → back < length steps → (0 < length ps → false ≡ true) → AreRead L X Suits says (map step_of steps) all (length steps - back) (map f ps) done → A
none_pending L X Suits says steps all back done f [] inside none h =
    let one : length steps - back ≡ length steps - 1 - back + 1 = omega arith in
    let long = length-map steps step_of in
    never_empty L X Suits says (map step_of steps) all (length steps - 1 - back) done (omega arith) (subst (λ n. AreRead L X Suits says (map step_of steps) all n [] done) one h)
none_pending L X Suits says steps all back done f (p ∷ ps) inside none h = let clash : false ≡ true = none (omega arith) in absurd cc
