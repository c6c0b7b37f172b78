-- Steps that are compared with those of a proof of the same tree that has the ranges of terms, from the last one down.
use Rattle.std.proofs.Common.{◌≡◌, ◌↔◌, ℕ, zero, suc, ◌+◌, ◌-◌, ◌<◌, List, [], ◌∷◌, ◌++◌, length, map, take, drop, get_or, Option, Some, None, option_map, slice_get, MatchOption, true, false, refl, sym, ap, subst, ◌∙◌, arith, append_assoc, drop-cons, add-one}
use Rattle.std.proofs.lemmas.List.{length-map, map-append, get_or-map}
use Rattle.std.proofs.lemmas.Option.{same_Some}
use Rattle.std.proofs.Math.ListN.{drop_of_length-le}
use Rattle.lam_rules.specs.Subtyping.{SubTree, sub_step, SubTrees, no_subs, sub_first}
use Rattle.lam_rules.specs.SubViews.{sub_trees_made}
use Rattle.lam_rules.specs.Typing.{TypingTree, typing_step, TypingTrees, no_typings, typing_first}
use Rattle.lam_rules.specs.TypingViews.{typings_made}
use Rattle.lam_scope.specs.Tables.{Table, place_row_numbered}
use Rattle.lam_query.specs.FirstFaults.{DifferFirst}
use Rattle.lam_query.specs.Judgements.{steps_in, steps_in_each, side_steps_in, sub_steps_in, sub_steps_in_each}
use Rattle.lam_query.specs.ProofTrees.{Tree, of_typing, of_subtyping, Premises, typing_premises, sub_premises, tree_from, tree_in, trees_in, MakeTree}
use Rattle.lam_query.specs.Steps.{Conclusion, typing, subtyping, Step, Proof, concludes, Proofs, no_proofs, proof_first, steps_before, number_of_steps, last_steps, steps_of, steps_of_each, sub_proof, sub_proofs, typing_proof, with_side}
use Rattle.lam_query.specs.Views.{step_of}
use Rattle.lam_scope.specs.PlacedTerms.{document_terms, tree_in as term_in}
use Rattle.lam_scope.specs.Views.{AreScopesOf, table_of}
use Rattle.lam_scope.specs.declared.numbers.Place.{Place}
use Rattle.lam_scope.specs.declared.scopes.Scopes.{Scopes}
use Rattle.lam_syntax.specs.Trees.{CommandTree}
use Rattle.lam_query.specs.declared.answers.Step.{Step as RustStep}
use Rattle.lam_query.specs.inner.RowSteps.{premise_places, row_proof, row_proofs}
use Rattle.lam_query.specs.inner.Ranges.{number_of, PlaceSuits, placed_proof, placed_steps, terms_under, others_of, place_for, places_for, IsRanged, DifferFrom, AreCompared}
use Rattle.lam_query.specs.inner.Backwards.{size, said_at, SuitEach, says_each, AreRead}
use Rattle.lam_query.proofs.Counting.{proof_size}
use Rattle.lam_query.proofs.PendingProofs.{drop_here}
use Rattle.lam_query.proofs.JoinedProofs.{then_found, map_found}
use Rattle.lam_query.proofs.RowsAndTerms.{same_proof}
use Rattle.lam_query.proofs.Backwards.{conclusions_of, AlikeEach, trees_alike, IsParted, one_back, none_read, none_pending, all_read}

-- ---- how many steps a placed proof has

mutual
  sub_size : (q : SubTree) → steps_before (sub_proof q) + 1 ≡ sub_steps_in q
  sub_size (sub_step r l u qs) = let rest = subs_size qs in omega arith

  subs_size : (qs : SubTrees) → number_of_steps (sub_proofs qs) ≡ sub_steps_in_each qs
  subs_size no_subs = refl
  subs_size (sub_first q qs) = let own = sub_size q in let rest = subs_size qs in omega arith

side_size : (ps : Proofs) (side : Option SubTree) → number_of_steps (with_side ps side) ≡ number_of_steps ps + side_steps_in side
side_size ps None = omega arith
side_size no_proofs (Some q) = let own = sub_size q in omega arith
side_size (proof_first p ps) (Some q) = let rest = side_size ps (Some q) in omega arith

mutual
  row_size : (t : Table) (place : ℕ) (p : TypingTree) → steps_before (row_proof t place p) + 1 ≡ steps_in p
  row_size t place (typing_step r ty ps side) =
      let a = side_size (row_proofs t place (premise_places t place r) ps) side in
      let b = rows_size t place (premise_places t place r) ps in
      omega arith

  rows_size : (t : Table) (place : ℕ) (terms : List ℕ) (ps : TypingTrees) → number_of_steps (row_proofs t place terms ps) ≡ steps_in_each ps
  rows_size t place [] no_typings = refl
  rows_size t place (n ∷ ns) no_typings = refl
  rows_size t place [] (typing_first p ps) = let own = row_size t place p in let rest = rows_size t place [] ps in omega arith
  rows_size t place (n ∷ ns) (typing_first p ps) = let own = row_size t n p in let rest = rows_size t place ns ps in omega arith

placed_size : (t : Table) (l : Option ℕ) (tree : Tree) → steps_before (placed_proof t l tree) + 1 ≡ size tree
placed_size t (Some place) (of_typing p) = row_size t place p
placed_size t None (of_typing p) = row_size t 0 p
placed_size t (Some place) (of_subtyping q) = sub_size q
placed_size t None (of_subtyping q) = sub_size q

-- the proofs of several trees, each about the next of these places
abbrev placed_proofs : Table → List (Option ℕ) → List Tree → Proofs
placed_proofs t (l ∷ ls) (tree ∷ trees) = proof_first (placed_proof t l tree) (placed_proofs t ls trees)
placed_proofs t _ _ = no_proofs

steps_placed : (t : Table) (n : ℕ) (ls : List (Option ℕ)) (us : List Tree) → says_each (placed_steps t) n ls us ≡ steps_of_each n (placed_proofs t ls us)
steps_placed t n [] [] = refl
steps_placed t n [] (u ∷ us) = refl
steps_placed t n (l ∷ ls) [] = refl
steps_placed t n (l ∷ ls) (u ∷ us) =
    let far : n + size u ≡ n + steps_before (placed_proof t l u) + 1 = (let own = placed_size t l u in omega arith) in
    ap (λ ss. placed_steps t n l u ++ ss) (ap (λ m. says_each (placed_steps t) m ls us) far ∙ steps_placed t (n + steps_before (placed_proof t l u) + 1) ls us)

-- where the premises of a placed proof end
same_lasts : (t : Table) (n : ℕ) (ls : List (Option ℕ)) (ps : Proofs) (ts : List Tree) → trees_in ps ≡ Some ts → SuitEach PlaceSuits ls ts → last_steps n (placed_proofs t ls ts) ≡ last_steps n ps
same_lasts t n [] no_proofs ts e suit = refl
same_lasts t n (l ∷ ls) no_proofs ts e suit = absurd (subst (SuitEach PlaceSuits (l ∷ ls)) (sym (same_Some [] ts e)) suit)
same_lasts t n ls (proof_first p ps) ts e suit =
    let first = then_found (λ tree. option_map (λ trees. tree ∷ trees) (trees_in ps)) (tree_in p) ts e in
    let rest = map_found (λ trees. first.0 ∷ trees) (trees_in ps) ts first.2 in
    subst (λ us. last_steps n (placed_proofs t ls us) ≡ (n + steps_before p) ∷ last_steps (n + steps_before p + 1) ps) rest.2
    (go ls first.0 rest.0 first.1 (λ ks k. same_lasts t (n + steps_before p + 1) ks ps rest.0 rest.1 k) (subst (SuitEach PlaceSuits ls) (sym rest.2) suit))
  where
    go : (ls : List (Option ℕ)) (u : Tree) (us : List Tree) → tree_in p ≡ Some u
        → ((ks : List (Option ℕ)) → SuitEach PlaceSuits ks us → last_steps (n + steps_before p + 1) (placed_proofs t ks us) ≡ last_steps (n + steps_before p + 1) ps) → SuitEach PlaceSuits ls (u ∷ us)
        → last_steps n (placed_proofs t ls (u ∷ us)) ≡ (n + steps_before p) ∷ last_steps (n + steps_before p + 1) ps
    go [] u us own others suit = absurd suit
    go (l ∷ ls) u us own others suit =
        let a = placed_size t l u in
        let b = proof_size p u own in
        let here : steps_before (placed_proof t l u) ≡ steps_before p = omega arith in
        ap (λ m. (n + m) ∷ last_steps (n + m + 1) (placed_proofs t ls us)) here ∙ ap (λ l. (n + steps_before p) ∷ l) (others ls suit.1)

-- ---- a step and its premises

-- what it concludes about its own term
abbrev ranged : Table → Option ℕ → Conclusion → Conclusion
ranged t (Some place) (typing r s ty) = typing r (place_row_numbered t place).span ty
ranged t (Some place) (subtyping r l u) = subtyping r l u
ranged t None c = c

span_same : (s u : _) (r : _) (ty : _) → typing r s ty ≡ typing r u ty → s ≡ u
span_same s u r ty e = cc

is_ranged : (t : Table) (l : Option ℕ) (c : Conclusion) → IsRanged t l c ↔ (ranged t l c ≡ c)
is_ranged t (Some place) (typing r s ty) = ((λ h. ap (λ u. typing r u ty) (sym h)), (λ h. sym (span_same (place_row_numbered t place).span s r ty h)))
is_ranged t (Some place) (subtyping r l u) = ((λ h. refl), (λ h. tt))
is_ranged t None c = ((λ h. refl), (λ h. tt))

side_behind : (p : Proof) (ps : Proofs) (side : Option SubTree) → with_side (proof_first p ps) side ≡ proof_first p (with_side ps side)
side_behind p ps None = refl
side_behind p ps (Some q) = refl

record PremisesPlaced (t : Table) (l : Option ℕ) (terms : List ℕ) (cs : List Conclusion) (us : List Tree) (placed : Proofs) : Type 0 where
  suit : SuitEach PlaceSuits (places_for l terms (map Some cs)) us
  are : placed_proofs t (places_for l terms (map Some cs)) us ≡ placed

none_placed : (t : Table) (place : ℕ) (terms : List ℕ) → no_proofs ≡ row_proofs t place terms no_typings
none_placed t place [] = refl
none_placed t place (n ∷ ns) = refl

typing_placed : (t : Table) (place : ℕ) (terms : List ℕ) (cs : List Conclusion) (us : List Tree) (ps : Premises) → AlikeEach cs us → typing_premises us ≡ Some ps
    → PremisesPlaced t (Some place) terms cs us (with_side (row_proofs t place terms (typings_made ps.typings)) ps.side)
typing_placed t place terms [] [] ps h e =
    subst (λ (qs : Premises). PremisesPlaced t (Some place) terms [] [] (with_side (row_proofs t place terms (typings_made qs.typings)) qs.side)) (same_Some (record { typings = []; side = None }) ps e)
    (record { suit = tt; are = none_placed t place terms })
typing_placed t place terms [] (u ∷ us) ps h e = absurd h
typing_placed t place terms (c ∷ cs) [] ps h e = absurd h
typing_placed t place terms (typing r s ty ∷ cs) (of_subtyping q ∷ us) ps h e = absurd h.0
typing_placed t place terms (subtyping r lo up ∷ cs) (of_typing p ∷ us) ps h e = absurd h.0
typing_placed t place terms (subtyping r lo up ∷ c ∷ cs) (of_subtyping q ∷ []) ps h e = absurd h.1
typing_placed t place terms (subtyping r lo up ∷ cs) (of_subtyping q ∷ u ∷ us) ps h e = let clash : None ≡ Some ps = e in absurd cc
typing_placed t place terms (subtyping r lo up ∷ []) (of_subtyping q ∷ []) ps h e =
    subst (λ (qs : Premises). PremisesPlaced t (Some place) terms (subtyping r lo up ∷ []) (of_subtyping q ∷ []) (with_side (row_proofs t place terms (typings_made qs.typings)) qs.side))
    (same_Some (record { typings = []; side = Some q }) ps e)
    (record { suit = (tt, tt); are = ap (λ qs. with_side qs (Some q)) (none_placed t place terms) })
typing_placed t place terms (typing r s ty ∷ cs) (of_typing p ∷ us) ps h e =
    let found = map_found (λ (qs : Premises). record { typings = p ∷ qs.typings; side = qs.side }) (typing_premises us) ps e in
    let more : Premises = found.0 in
    subst (λ (qs : Premises). PremisesPlaced t (Some place) terms (typing r s ty ∷ cs) (of_typing p ∷ us) (with_side (row_proofs t place terms (typings_made qs.typings)) qs.side)) found.2
    (go terms more (λ ns. typing_placed t place ns cs us more h.1 found.1))
  where
    go : (terms : List ℕ) (more : Premises)
        → ((ns : List ℕ) → PremisesPlaced t (Some place) ns cs us (with_side (row_proofs t place ns (typings_made more.typings)) more.side))
        → PremisesPlaced t (Some place) terms (typing r s ty ∷ cs) (of_typing p ∷ us) (with_side (row_proofs t place terms (typing_first p (typings_made more.typings))) more.side)
    go [] more rest =
        let own = rest [] in
        record { suit = (tt, own.suit); are = ap (λ qs. proof_first (row_proof t place p) qs) own.are ∙ sym (side_behind (row_proof t place p) (row_proofs t place [] (typings_made more.typings)) more.side) }
    go (n ∷ ns) more rest =
        let own = rest ns in
        record { suit = (tt, own.suit); are = ap (λ qs. proof_first (row_proof t n p) qs) own.are ∙ sym (side_behind (row_proof t n p) (row_proofs t place ns (typings_made more.typings)) more.side) }

sub_placed : (t : Table) (terms : List ℕ) (cs : List Conclusion) (us : List Tree) (qs : List SubTree) → AlikeEach cs us → sub_premises us ≡ Some qs
    → PremisesPlaced t None terms cs us (sub_proofs (sub_trees_made qs))
sub_placed t terms [] [] qs h e = subst (λ rs. PremisesPlaced t None terms [] [] (sub_proofs (sub_trees_made rs))) (same_Some [] qs e) (record { suit = tt; are = refl })
sub_placed t terms [] (u ∷ us) qs h e = absurd h
sub_placed t terms (c ∷ cs) [] qs h e = absurd h
sub_placed t terms (typing r s ty ∷ cs) (of_subtyping q ∷ us) qs h e = absurd h.0
sub_placed t terms (typing r s ty ∷ cs) (of_typing p ∷ us) qs h e = let clash : None ≡ Some qs = e in absurd cc
sub_placed t terms (subtyping r lo up ∷ cs) (of_typing p ∷ us) qs h e = absurd h.0
sub_placed t terms (subtyping r lo up ∷ cs) (of_subtyping q ∷ us) qs h e =
    let found = map_found (λ rs. q ∷ rs) (sub_premises us) qs e in
    let rest = sub_placed t (others_of terms) cs us found.0 h.1 found.1 in
    subst (λ rs. PremisesPlaced t None terms (subtyping r lo up ∷ cs) (of_subtyping q ∷ us) (sub_proofs (sub_trees_made rs))) found.2
    (record { suit = (tt, rest.suit); are = ap (λ ps. proof_first (sub_proof q) ps) rest.are })

-- The step of a placed proof has the range of its term, and the premises of the step that was read.
abbrev IsOwn : Table → Step → Option ℕ → Conclusion → List (Option Conclusion) → List ℕ → Type 0
IsOwn t own l c cs premises = own ≡ record { conclusion = ranged t l c; premises = premises }

abbrev under : Table → Option ℕ → Conclusion → List (Option Conclusion) → List (Option ℕ)
under t l c cs = places_for l (terms_under t l c) cs

parted_by : (t : Table) (n : ℕ) (l : Option ℕ) (c : Conclusion) (qs : Proofs) (us : List Tree) (tree : Tree) (premises : Proofs) → trees_in qs ≡ Some us
    → PremisesPlaced t l (terms_under t l c) (conclusions_of qs) us premises → placed_proof t l tree ≡ concludes (ranged t l c) premises
    → IsParted (Option ℕ) Step PlaceSuits (placed_steps t) (under t) (IsOwn t) n l c qs us tree
parted_by t n l c qs us tree premises are parts made =
    let next = under t l c (map Some (conclusions_of qs)) in
    record {
      own = record { conclusion = ranged t l c; premises = last_steps n qs };
      suit = parts.suit;
      they_say =
          ap (steps_of n) (made ∙ ap (λ ps. concludes (ranged t l c) ps) (sym parts.are))
          ∙ (λ j. sym (steps_placed t n next us) j ++ record { conclusion = ranged t l c; premises = same_lasts t n next qs us are parts.suit j } ∷ []);
      is = refl;
    }

placed : (t : Table) (n : ℕ) (l : Option ℕ) (c : Conclusion) (qs : Proofs) (us : List Tree) (tree : Tree) → trees_in qs ≡ Some us → tree_from c us ≡ Some tree → PlaceSuits l tree
    → IsParted (Option ℕ) Step PlaceSuits (placed_steps t) (under t) (IsOwn t) n l c qs us tree
placed t n (Some place) (subtyping r lo up) qs us tree are e suits =
    let made = map_found _ (sub_premises us) tree e in
    absurd (subst (PlaceSuits (Some place)) (sym made.2) suits)
placed t n None (typing r s ty) qs us tree are e suits =
    let made = map_found _ (typing_premises us) tree e in
    absurd (subst (PlaceSuits None) (sym made.2) suits)
placed t n (Some place) (typing r s ty) qs us tree are e suits =
    let made = map_found _ (typing_premises us) tree e in
    let ps : Premises = made.0 in
    let parts = typing_placed t place (premise_places t place r) (conclusions_of qs) us ps (trees_alike qs us are) made.1 in
    subst (IsParted (Option ℕ) Step PlaceSuits (placed_steps t) (under t) (IsOwn t) n (Some place) (typing r s ty) qs us) made.2
    (parted_by t n (Some place) (typing r s ty) qs us _ _ are parts refl)
placed t n None (subtyping r lo up) qs us tree are e suits =
    let made = map_found _ (sub_premises us) tree e in
    let parts = sub_placed t [] (conclusions_of qs) us made.0 (trees_alike qs us are) made.1 in
    subst (IsParted (Option ℕ) Step PlaceSuits (placed_steps t) (under t) (IsOwn t) n None (subtyping r lo up) qs us) made.2
    (parted_by t n None (subtyping r lo up) qs us _ _ are parts refl)

-- ---- the first step with another range

same_in_front : (i j : ℕ) (steps : List Step) (step own : Step) (done : List Step) (other : Option ℕ) → j ≡ i + 1 → drop i steps ≡ step ∷ drop j steps → step ≡ own
    → MatchOption other (drop j steps ≡ done) (λ n. DifferFrom j (drop j steps) done n)
    → MatchOption other (drop i steps ≡ own ∷ done) (λ n. DifferFrom i (drop i steps) (own ∷ done) n)
same_in_front i j steps step own done None next rest is h = rest ∙ (λ k. is k ∷ h k)
same_in_front i j steps step own done (Some n) next rest is h =
    let far : n - i ≡ suc (n - j) = (let le = h.0 in omega arith) in (
      (let le = h.0 in omega arith),
      ap (take (n - i)) rest ∙ ap (λ k. take k (step ∷ drop j steps)) far ∙ (λ k. is k ∷ h.1 k) ∙ sym (ap (λ k. take k (own ∷ done)) far),
      (λ e. h.2 (sym (ap (λ k. slice_get (step ∷ drop j steps) k) far) ∙ sym (ap (λ xs. slice_get xs (n - i)) rest) ∙ e ∙ ap (λ k. slice_get (own ∷ done) k) far)),
    )

other_here : (i : ℕ) (steps : List Step) (step own : Step) (behind done : List Step) → drop i steps ≡ step ∷ behind → (step ≡ own → ⊥) → DifferFrom i (drop i steps) (own ∷ done) i
other_here i steps step own behind done rest other =
    let none : i - i ≡ 0 = omega arith in (
      omega arith,
      ap (λ k. take k (drop i steps)) none ∙ sym (ap (λ k. take k (own ∷ done)) none),
      (λ e.
          let both : Some step ≡ Some own =
          sym (ap (λ xs. slice_get xs 0) rest) ∙ sym (ap (λ k. slice_get (drop i steps) k) none) ∙ e ∙ ap (λ k. slice_get (own ∷ done) k) none in
          other (same_Some step own both)),
    )

compared : (steps all : List Step) (other : Option ℕ) → MatchOption other (drop 0 steps ≡ all) (λ n. DifferFrom 0 (drop 0 steps) all n) → MatchOption other (steps ≡ all) (λ n. DifferFirst steps all n)
compared steps all None k = k
compared steps all (Some n) k =
    let same : n - 0 ≡ n = omega arith in
    record {
      same = subst (λ m. take m steps ≡ take m all) same k.1;
      differ = λ e. k.2 (ap (λ m. slice_get steps m) same ∙ e ∙ sym (ap (λ m. slice_get all m) same));
    }

-- ---- the code

pub one_placed : (own : Option ℕ) (terms : List ℕ) (said : ℕ → Option Conclusion) (ns : List ℕ) (k : ℕ) (ps qs : List (Option Place)) (p : Option Place) (all : List (Option ℕ))
    → k < length ns → qs ≡ ps ++ p ∷ [] → number_of p ≡ place_for own (drop k terms) (said (get_or ns k 0))
    → map number_of ps ++ places_for own (drop k terms) (map said (drop k ns)) ≡ all
    → map number_of qs ++ places_for own (drop (k + 1) terms) (map said (drop (k + 1) ns)) ≡ all
one_placed own terms said ns k ps qs p all inside pushed is before =
    let rest = places_for own (drop (k + 1) terms) (map said (drop (k + 1) ns)) in
    ap (λ xs. map number_of xs ++ rest) pushed
    ∙ ap (λ xs. xs ++ rest) (map-append number_of ps (p ∷ []))
    ∙ append_assoc (map number_of ps) (number_of p ∷ []) rest
    ∙ ap (λ l. map number_of ps ++ l ∷ rest) is
    ∙ ap (λ xs. map number_of ps ++ xs)
    ((λ i. place_for own (drop k terms) (said (get_or ns k 0)) ∷ places_for own (sym (others terms k) i) (map said (drop (k + 1) ns)))
    ∙ ap (λ ms. places_for own (drop k terms) (map said ms)) (sym (drop_here ns k inside)))
    ∙ before
  where
    others_from : (terms : List ℕ) (k : ℕ) → others_of (drop k terms) ≡ drop (suc k) terms
    others_from [] zero = refl
    others_from [] (suc k) = refl
    others_from (n ∷ ns) zero = refl
    others_from (n ∷ ns) (suc k) = others_from ns k

    others : (terms : List ℕ) (k : ℕ) → others_of (drop k terms) ≡ drop (k + 1) terms
    others terms k = rw add-one (others_from terms k)

pub begun_ranges : (t : Table) (steps : List RustStep) (place : ℕ) (tree : TypingTree) → MakeTree (map step_of steps) tree
    → AreCompared t (map step_of steps) (steps_of 0 (row_proof t place tree)) (length steps - 0) (Some place ∷ []) None
begun_ranges t steps place tree h =
    let long : length (map step_of steps) ≡ length steps - 0 = (let l = length-map steps step_of in omega arith) in
    record {
      done = [];
      are_read =
          subst (λ n. AreRead (Option ℕ) Step PlaceSuits (placed_steps t) (map step_of steps) (steps_of 0 (row_proof t place tree)) n (Some place ∷ []) []) long
          (none_read (Option ℕ) Step PlaceSuits (placed_steps t) (map step_of steps) (Some place) tree h tt);
      first = drop_of_length-le (map step_of steps) (omega (arith, long));
    }

module _ (t : Table) (steps : List RustStep) (all : List Step) (back : ℕ) (ps qs rs : List (Option Place)) (own : Option Place) (x : RustStep) (other : Option ℕ)
    (inside : back < length steps) (popped : ps ≡ qs ++ own ∷ []) (there : x ≡ get_or steps (length steps - 1 - back) x)
    (left : map number_of rs ≡ map number_of qs ++ under t (number_of own) (step_of x).conclusion (map (said_at (map step_of steps)) (step_of x).premises))
    (w : AreCompared t (map step_of steps) all (length steps - back) (map number_of ps) other) where
  one_more : (placed : Step) × AreRead (Option ℕ) Step PlaceSuits (placed_steps t) (map step_of steps) all (length steps - (back + 1)) (map number_of rs) (placed ∷ w.done)
      × IsOwn t placed (number_of own) (step_of x).conclusion (map (said_at (map step_of steps)) (step_of x).premises) (step_of x).premises
  one_more =
      one_back (Option ℕ) Step PlaceSuits (placed_steps t) (under t) (IsOwn t) (placed t) steps all back w.done inside (map number_of ps) (map number_of qs) (map number_of rs) (number_of own) x
      (ap (map number_of) popped ∙ map-append number_of qs (own ∷ [])) there left w.are_read

  next : length steps - back ≡ length steps - (back + 1) + 1
  next = omega arith

  rest : drop (length steps - (back + 1)) (map step_of steps) ≡ step_of x ∷ drop (length steps - back) (map step_of steps)
  rest =
      let number : length steps - 1 - back ≡ length steps - (back + 1) = omega arith in
      let here : step_of x ≡ get_or (map step_of steps) (length steps - (back + 1)) (step_of x) =
      ap step_of there ∙ sym (get_or-map step_of steps (length steps - 1 - back) x (step_of x) (omega arith)) ∙ ap (λ n. get_or (map step_of steps) n (step_of x)) number in
      let many : length steps - (back + 1) < length (map step_of steps) = (let long = length-map steps step_of in omega arith) in
      let behind : suc (length steps - (back + 1)) ≡ length steps - back = omega arith in
      drop-cons (map step_of steps) (length steps - (back + 1)) (step_of x) many
      ∙ (λ j. sym here j ∷ drop (behind j) (map step_of steps))

  pub stepped_same : IsRanged t (number_of own) (step_of x).conclusion → AreCompared t (map step_of steps) all (length steps - (back + 1)) (map number_of rs) other
  stepped_same is =
      let conclusion = (is_ranged t (number_of own) (step_of x).conclusion).0 is in
      record {
        done = one_more.0 ∷ w.done;
        are_read = one_more.1;
        first = same_in_front (length steps - (back + 1)) (length steps - back) (map step_of steps) (step_of x) one_more.0 w.done other next rest
            (sym (one_more.2 ∙ (λ j. record { conclusion = conclusion j; premises = (step_of x).premises }))) w.first;
      }

  pub stepped_other : (IsRanged t (number_of own) (step_of x).conclusion → ⊥)
      → AreCompared t (map step_of steps) all (length steps - (back + 1)) (map number_of rs) (Some (length steps - 1 - back))
  stepped_other not_is =
      let here : length steps - (back + 1) ≡ length steps - 1 - back = omega arith in
      record {
        done = one_more.0 ∷ w.done;
        are_read = one_more.1;
        first = subst (DifferFrom (length steps - (back + 1)) (drop (length steps - (back + 1)) (map step_of steps)) (one_more.0 ∷ w.done)) here
            (other_here (length steps - (back + 1)) (map step_of steps) (step_of x) one_more.0 (drop (length steps - back) (map step_of steps)) w.done rest
            (λ same. not_is ((is_ranged t (number_of own) (step_of x).conclusion).1 (sym (ap (λ (s : Step). s.conclusion) (same ∙ one_more.2))))));
      }

pub nothing_placed : {A : Type 0} (t : Table) (steps : List RustStep) (all : List Step) (back : ℕ) (ps : List (Option Place)) (other : Option ℕ)
    → back < length steps → (0 < length ps → false ≡ true) → AreCompared t (map step_of steps) all (length steps - back) (map number_of ps) other → A
nothing_placed t steps all back ps other inside none w = none_pending (Option ℕ) Step PlaceSuits (placed_steps t) steps all back w.done number_of ps inside none w.are_read

all_compared : (t : Table) (steps all : List Step) (n : ℕ) (ls : List (Option ℕ)) (other : Option ℕ) → n ≡ 0 → AreCompared t steps all n ls other
    → MatchOption other (steps ≡ all) (λ k. DifferFirst steps all k)
all_compared t steps all n ls other none w =
    let start = subst (λ m. AreRead (Option ℕ) Step PlaceSuits (placed_steps t) steps all m ls w.done) none w.are_read in
    let first = subst (λ m. MatchOption other (drop m steps ≡ w.done) (λ k. DifferFrom m (drop m steps) w.done k)) none w.first in
    compared steps all other
    (subst (λ ss. MatchOption other (drop 0 steps ≡ ss) (λ k. DifferFrom 0 (drop 0 steps) ss k)) (sym (all_read (Option ℕ) Step PlaceSuits (placed_steps t) steps all ls w.done start)) first)

-- of a term of a text
pub ranges_told : (commands : List CommandTree) (scopes : Scopes) (place : ℕ) (steps : List Step) (tree : TypingTree) (n : ℕ) (ls : List (Option ℕ)) (other : Option ℕ) → AreScopesOf scopes commands → n ≡ 0
    → AreCompared (table_of scopes) steps (steps_of 0 (row_proof (table_of scopes) place tree)) n ls other
    → let all = steps_of 0 (typing_proof (term_in (document_terms commands) place) tree) in MatchOption other (steps ≡ all) (λ k. DifferFirst steps all k)
ranges_told commands scopes place steps tree n ls other are none w =
    subst (λ all. MatchOption other (steps ≡ all) (λ k. DifferFirst steps all k))
    (ap (λ t. steps_of 0 (row_proof t place tree)) are.same_table ∙ ap (steps_of 0) (same_proof commands place tree))
    (all_compared (table_of scopes) steps (steps_of 0 (row_proof (table_of scopes) place tree)) n ls other none w)
