-- What a step says of its part of a term, and what its premises say of theirs.
use Rattle.std.proofs.Common.{◌≡◌, ◌↔◌, ℕ, zero, suc, ◌+◌, List, [], ◌∷◌, ◌++◌, length, map, replicate, Option, Some, None, option_map, MatchOption, refl, sym, ap, subst, ◌∙◌, arith, append_assoc, append-nil}
use Rattle.std.proofs.lemmas.Option.{same_Some}
use Rattle.lam_rules.specs.Terms.{Term}
use Rattle.lam_rules.specs.Subtyping.{SubTree, sub_step, conclusion, conclusions}
use Rattle.lam_rules.specs.SubViews.{sub_trees_made}
use Rattle.lam_rules.specs.Typing.{Context, TypingTree, typing_step, no_typings, typing_first}
use Rattle.lam_rules.specs.TypingSteps.{types_in, Subject, first_type, subjects}
use Rattle.lam_rules.specs.TypingViews.{typings_made}
use Rattle.lam_rules.specs.declared.rules.Dialect.{Dialect}
use Rattle.lam_query.specs.Judgements.{Judgement, typed, below, about_no_part, Each, IsFirstWithout, IsFirstFailing, judgements, judgements_each, side_judgements, sub_judgements, sub_judgements_each, steps_in, sub_steps_in}
use Rattle.lam_query.specs.ProofTrees.{Tree, of_typing, of_subtyping, Premises, typing_premises, sub_premises, tree_from, trees_in}
use Rattle.lam_query.specs.Steps.{Conclusion, typing, subtyping, Proofs}
use Rattle.lam_query.specs.inner.Backwards.{size, SuitEach, says_each}
use Rattle.lam_query.specs.inner.Walking.{Left, about_part, about_nothing, of_subtypes, says, Suits, types_said, claims_said, last_claim, first_said, lefts_for, lefts_under, IsRight, Holds, AllFollow}
use Rattle.lam_query.proofs.Backwards.{conclusions_of, AlikeEach, trees_alike, IsParted}
use Rattle.lam_query.proofs.Counting.{sizes, node_size}
use Rattle.lam_query.proofs.Following.{all_follow, first_failing}
use Rattle.lam_query.proofs.JoinedProofs.{map_found}

-- of a step of typing
record TypingSaid (cs : List Conclusion) (us : List Tree) (ps : Premises) : Type 0 where
  types : types_said (map Some cs) ≡ types_in (typings_made ps.typings)
  claim : last_claim (claims_said (map Some cs)) ≡ option_map conclusion ps.side
  first : first_said (map Some cs) ≡ first_type (typings_made ps.typings)
  suit : (ss : List Subject) → SuitEach Suits (lefts_for ss (map Some cs)) us
  they_say : (n : ℕ) (ss : List Subject) → says_each says n (lefts_for ss (map Some cs)) us ≡ judgements_each ss (typings_made ps.typings) ++ side_judgements ps.side

none_say : (ss : List Subject) (xs : List Judgement) → xs ≡ judgements_each ss no_typings ++ xs
none_say [] xs = refl
none_say (s ∷ ss) xs = refl

typing_said : (cs : List Conclusion) (us : List Tree) (ps : Premises) → AlikeEach cs us → typing_premises us ≡ Some ps → TypingSaid cs us ps
typing_said [] [] ps h e =
    subst (TypingSaid [] []) (same_Some (record { typings = []; side = None }) ps e)
    (record { types = refl; claim = refl; first = refl; suit = λ ss. tt; they_say = λ n ss. none_say ss [] })
typing_said [] (u ∷ us) ps h e = absurd h
typing_said (c ∷ cs) [] ps h e = absurd h
typing_said (typing r s t ∷ cs) (of_subtyping q ∷ us) ps h e = absurd h.0
typing_said (subtyping r lo up ∷ cs) (of_typing p ∷ us) ps h e = absurd h.0
typing_said (subtyping r lo up ∷ []) (of_subtyping q ∷ []) ps h e =
    subst (TypingSaid (subtyping r lo up ∷ []) (of_subtyping q ∷ [])) (same_Some (record { typings = []; side = Some q }) ps e)
    (record {
      types = refl;
      claim = ap Some (sym h.0);
      first = refl;
      suit = λ ss. (tt, tt);
      they_say = λ n ss. append-nil (sub_judgements q) ∙ none_say ss (sub_judgements q);
    })
typing_said (subtyping r lo up ∷ c ∷ cs) (of_subtyping q ∷ []) ps h e = absurd h.1
typing_said (subtyping r lo up ∷ cs) (of_subtyping q ∷ u ∷ us) ps h e = let clash : None ≡ Some ps = e in absurd cc
typing_said (typing r s t ∷ cs) (of_typing p ∷ us) ps h e =
    let found = map_found (λ (qs : Premises). record { typings = p ∷ qs.typings; side = qs.side }) (typing_premises us) ps e in
    let rest = typing_said cs us found.0 h.1 found.1 in
    let more = typings_made found.0.typings in
    let side = side_judgements found.0.side in
    subst (TypingSaid (typing r s t ∷ cs) (of_typing p ∷ us)) found.2
    (record {
      types = (λ i. sym h.0 i ∷ rest.types i);
      claim = rest.claim;
      first = ap Some (sym h.0);
      suit = λ ss. suits ss rest.suit;
      they_say = λ n ss. say n ss more side rest.they_say;
    })
  where
    suits : (ss : List Subject) → ((rs : List Subject) → SuitEach Suits (lefts_for rs (map Some cs)) us)
        → SuitEach Suits (lefts_for ss (map Some (typing r s t ∷ cs))) (of_typing p ∷ us)
    suits [] rest = (tt, rest [])
    suits (x ∷ ss) rest = (tt, rest ss)

    say : (n : ℕ) (ss : List Subject) (more : _) (side : List Judgement)
        → ((m : ℕ) (rs : List Subject) → says_each says m (lefts_for rs (map Some cs)) us ≡ judgements_each rs more ++ side)
        → says_each says n (lefts_for ss (map Some (typing r s t ∷ cs))) (of_typing p ∷ us) ≡ judgements_each ss (typing_first p more) ++ side
    say n [] more side rest =
        let own = replicate (steps_in p) about_no_part in
        ap (λ l. own ++ l) (rest (n + steps_in p) []) ∙ sym (append_assoc own (judgements_each [] more) side)
    say n (x ∷ ss) more side rest =
        let own = judgements x.context x.term p in
        ap (λ l. own ++ l) (rest (n + steps_in p) ss) ∙ sym (append_assoc own (judgements_each ss more) side)

-- of a step of subtyping
record SubSaid (cs : List Conclusion) (us : List Tree) (qs : List SubTree) : Type 0 where
  claims : claims_said (map Some cs) ≡ conclusions (sub_trees_made qs)
  suit : SuitEach Suits (replicate (length (map Some cs)) of_subtypes) us
  they_say : (n : ℕ) → says_each says n (replicate (length (map Some cs)) of_subtypes) us ≡ sub_judgements_each (sub_trees_made qs)

sub_said : (cs : List Conclusion) (us : List Tree) (qs : List SubTree) → AlikeEach cs us → sub_premises us ≡ Some qs → SubSaid cs us qs
sub_said [] [] qs h e = subst (SubSaid [] []) (same_Some [] qs e) (record { claims = refl; suit = tt; they_say = λ n. refl })
sub_said [] (u ∷ us) qs h e = absurd h
sub_said (c ∷ cs) [] qs h e = absurd h
sub_said (typing r s t ∷ cs) (of_subtyping q ∷ us) qs h e = absurd h.0
sub_said (typing r s t ∷ cs) (of_typing p ∷ us) qs h e = let clash : None ≡ Some qs = e in absurd cc
sub_said (subtyping r lo up ∷ cs) (of_typing p ∷ us) qs h e = absurd h.0
sub_said (subtyping r lo up ∷ cs) (of_subtyping q ∷ us) qs h e =
    let found = map_found (λ rs. q ∷ rs) (sub_premises us) qs e in
    let rest = sub_said cs us found.0 h.1 found.1 in
    subst (SubSaid (subtyping r lo up ∷ cs) (of_subtyping q ∷ us)) found.2
    (record {
      claims = (λ i. sym h.0 i ∷ rest.claims i);
      suit = (tt, rest.suit);
      they_say = λ n. ap (λ l. sub_judgements q ++ l) (rest.they_say (n + sub_steps_in q));
    })

-- of a step that is about nothing
pub replicate_more : {A : Type 0} (n m : ℕ) (x : A) → replicate (n + m) x ≡ replicate n x ++ replicate m x
replicate_more zero m x = let z : zero + m ≡ m = omega arith in ap (λ k. replicate k x) z
replicate_more (suc n) m x = let s : suc n + m ≡ suc (n + m) = omega arith in ap (λ k. replicate k x) s ∙ ap (λ l. x ∷ l) (replicate_more n m x)

nothing_suits : (cs : List Conclusion) (us : List Tree) → AlikeEach cs us → SuitEach Suits (replicate (length (map Some cs)) about_nothing) us
nothing_suits [] [] h = tt
nothing_suits [] (u ∷ us) h = absurd h
nothing_suits (c ∷ cs) [] h = absurd h
nothing_suits (c ∷ cs) (u ∷ us) h = (tt, nothing_suits cs us h.1)

nothing_says : (n : ℕ) (cs : List Conclusion) (us : List Tree) → AlikeEach cs us
    → says_each says n (replicate (length (map Some cs)) about_nothing) us ≡ replicate (sizes us) about_no_part
nothing_says n [] [] h = refl
nothing_says n [] (u ∷ us) h = absurd h
nothing_says n (c ∷ cs) [] h = absurd h
nothing_says n (c ∷ cs) (u ∷ us) h =
    ap (λ l. replicate (size u) about_no_part ++ l) (nothing_says (n + size u) cs us h.1) ∙ sym (replicate_more (size u) (sizes us) about_no_part)

-- ---- a step and its premises

-- The judgement of a step holds if the step follows by its rule from what its premises conclude.
abbrev pub IsOwn : Dialect → Judgement → Left → Conclusion → List (Option Conclusion) → List ℕ → Type 0
IsOwn d own l c cs premises = Holds d own ↔ IsRight d l c cs

pub parted : (d : Dialect) (n : ℕ) (l : Left) (c : Conclusion) (qs : Proofs) (us : List Tree) (t : Tree) → trees_in qs ≡ Some us → tree_from c us ≡ Some t → Suits l t
    → IsParted Left Judgement Suits says lefts_under (IsOwn d) n l c qs us t
parted d n about_nothing c qs us t are e suits =
    let cs = conclusions_of qs in
    let h = trees_alike qs us are in
    let one : size t ≡ sizes us + 1 = node_size c us t e in
    record {
      own = about_no_part;
      suit = nothing_suits cs us h;
      they_say =
          ap (λ n. replicate n about_no_part) one
          ∙ replicate_more (sizes us) 1 about_no_part
          ∙ ap (λ xs. xs ++ about_no_part ∷ []) (sym (nothing_says n cs us h));
      is = (λ x. x, λ x. x);
    }
parted d n (about_part s) (subtyping r lo up) qs us t are e suits =
    let made = map_found _ (sub_premises us) t e in
    absurd (subst (Suits (about_part s)) (sym made.2) suits)
parted d n of_subtypes (typing r sp ty) qs us t are e suits =
    let made = map_found _ (typing_premises us) t e in
    absurd (subst (Suits of_subtypes) (sym made.2) suits)
parted d n (about_part s) (typing r sp ty) qs us t are e suits =
    let cs = conclusions_of qs in
    let made = map_found _ (typing_premises us) t e in
    let ps : Premises = made.0 in
    let said = typing_said cs us ps (trees_alike qs us are) made.1 in
    let typings = typings_made ps.typings in
    let own = typed s.context s.term (typing_step r ty typings ps.side) in
    let ss = subjects r s.context s.term (first_said (map Some cs)) in
    subst (IsParted Left Judgement Suits says lefts_under (IsOwn d) n (about_part s) (typing r sp ty) qs us) made.2
    (record {
      own = own;
      suit = said.suit ss;
      they_say =
          ap (λ f. judgements_each (subjects r s.context s.term f) typings ++ side_judgements ps.side ++ own ∷ []) (sym said.first)
          ∙ ap (λ xs. xs ++ own ∷ []) (sym (said.they_say n ss));
      is = rw (said.types, said.claim) (λ k. (k.0, k.1.0, k.1.1), λ k. (k.0, (k.1, k.2)));
    })
parted d n of_subtypes (subtyping r lo up) qs us t are e suits =
    let made = map_found _ (sub_premises us) t e in
    let said = sub_said (conclusions_of qs) us made.0 (trees_alike qs us are) made.1 in
    let tree = sub_step r lo up (sub_trees_made made.0) in
    subst (IsParted Left Judgement Suits says lefts_under (IsOwn d) n of_subtypes (subtyping r lo up) qs us) made.2
    (record {
      own = below tree;
      suit = said.suit;
      they_say = ap (λ xs. xs ++ below tree ∷ []) (sym (said.they_say n));
      is = rw said.claims (λ k. k, λ k. k);
    })

-- ---- the first step that does not follow

pub first_before : (d : Dialect) (i j : ℕ) (own : Judgement) (done : List Judgement) (wrong : Option ℕ) → j ≡ i + 1 → Holds d own
    → MatchOption wrong (Each (Holds d) done) (λ n. IsFirstWithout (Holds d) j done n)
    → MatchOption wrong (Each (Holds d) (own ∷ done)) (λ n. IsFirstWithout (Holds d) i (own ∷ done) n)
first_before d i j own done None next holds h = (holds, h)
first_before d i j own done (Some n) next holds h = record {
  before = own ∷ h.before;
  own = h.own;
  after = h.after;
  are = ap (λ js. own ∷ js) h.are;
  follow = (holds, h.follow);
  fails = h.fails;
  counted = (let counted = h.counted in omega arith);
}

pub first_here : (d : Dialect) (i : ℕ) (own : Judgement) (done : List Judgement) → (Holds d own → ⊥) → IsFirstWithout (Holds d) i (own ∷ done) i
first_here d i own done fails = record { before = []; own = own; after = done; are = refl; follow = tt; fails = fails; counted = omega arith }

-- of a term
pub told : (d : Dialect) (g : Context) (e : Term) (tree : TypingTree) (wrong : Option ℕ)
    → MatchOption wrong (Each (Holds d) (judgements g e tree)) (λ n. IsFirstWithout (Holds d) 0 (judgements g e tree) n)
    → MatchOption wrong (AllFollow d (judgements g e tree)) (λ n. IsFirstFailing d 0 (judgements g e tree) n)
told d g e tree None h = all_follow d g e tree h
told d g e tree (Some n) h = first_failing d g e tree n h
