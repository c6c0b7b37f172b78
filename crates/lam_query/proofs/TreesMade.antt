-- Which proofs have trees.
use Rattle.std.proofs.Common.{◌≡◌, ◌↔◌, ℕ, ◌+◌, ◌<◌, ◌≤◌, length, get_or, drop, arith, List, [], ◌∷◌, ◌++◌, map, Option, Some, None, option_map, refl, sym, ap, ◌∙◌, subst}
use Rattle.std.specs.Option.{option_and_then}
use Rattle.lam_rules.specs.Subtyping.{SubTree, sub_step}
use Rattle.lam_rules.specs.SubViews.{sub_trees_made}
use Rattle.lam_rules.specs.Typing.{typing_step}
use Rattle.lam_rules.specs.TypingViews.{typings_made}
use Rattle.lam_query.specs.ProofTrees.{Tree, of_typing, of_subtyping, Premises, typing_premises, sub_premises, tree_from, tree_in, trees_in}
use Rattle.lam_query.specs.Steps.{Conclusion, typing, subtyping, concludes, Proofs, no_proofs, proof_first}
use Rattle.lam_query.specs.inner.Placing.{IsTypingSaid, IsSubtypingSaid, AreSubtypings, AreTypingsFirst, MayHave}
use Rattle.std.proofs.Math.ListN.{drop_of_length-le}
use Rattle.lam_query.proofs.PendingProofs.{drop_here}
use Rattle.lam_query.proofs.JoinedProofs.{then_found, map_found, joined}
use Rattle.lam_query.proofs.Backwards.{conclusions_of, AlikeEach, trees_alike, trees_joined}

abbrev pub HaveTrees : Proofs → Type 0
HaveTrees ps = (ts : List Tree) × (trees_in ps ≡ Some ts)

-- ---- premises one by one

pub subtypings_drop : (said : ℕ → Option Conclusion) (ns : List ℕ) (k : ℕ) → k < length ns
    → AreSubtypings (map said (drop k ns)) ↔ (IsSubtypingSaid (said (get_or ns k 0)) × AreSubtypings (map said (drop (k + 1) ns)))
subtypings_drop said ns k inside = rw (drop_here ns k inside) ((λ h. h), (λ h. h))

typing_in_front : (c : Option Conclusion) (cs : List (Option Conclusion)) → IsTypingSaid c → AreTypingsFirst (c ∷ cs) ↔ AreTypingsFirst cs
typing_in_front (Some (typing r s t)) cs is = ((λ h. h), (λ h. h))
typing_in_front (Some (subtyping r l u)) cs is = absurd is
typing_in_front None cs is = absurd is

pub typing_drop : (said : ℕ → Option Conclusion) (ns : List ℕ) (k : ℕ) → k < length ns → IsTypingSaid (said (get_or ns k 0))
    → AreTypingsFirst (map said (drop k ns)) ↔ AreTypingsFirst (map said (drop (k + 1) ns))
typing_drop said ns k inside own = rw (drop_here ns k inside) (typing_in_front (said (get_or ns k 0)) (map said (drop (k + 1) ns)) own)

more_behind : (c d : Option Conclusion) (cs : List (Option Conclusion)) → (IsTypingSaid c → ⊥) → AreTypingsFirst (c ∷ d ∷ cs) → ⊥
more_behind (Some (typing r s t)) d cs other h = other tt
more_behind (Some (subtyping r l u)) d cs other h = let clash : d ∷ cs ≡ [] = h in absurd cc
more_behind None d cs other h = h

pub not_last : (said : ℕ → Option Conclusion) (ns : List ℕ) (k : ℕ) → k + 1 < length ns → (IsTypingSaid (said (get_or ns k 0)) → ⊥) → AreTypingsFirst (map said (drop k ns)) → ⊥
not_last said ns k more other h =
    let here = drop_here ns k (omega arith) in
    let behind = drop_here ns (k + 1) more in
    more_behind (said (get_or ns k 0)) (said (get_or ns (k + 1) 0)) (map said (drop (k + 1 + 1) ns)) other
    (subst (λ ms. AreTypingsFirst (map said ms)) (here ∙ ap (λ l. get_or ns k 0 ∷ l) behind) h)

alone : (c : Option Conclusion) → (IsTypingSaid c → ⊥) → AreTypingsFirst (c ∷ []) ↔ IsSubtypingSaid c
alone (Some (typing r s t)) other = absurd (other tt)
alone (Some (subtyping r l u)) other = ((λ h. tt), (λ h. refl))
alone None other = ((λ h. h), (λ h. h))

pub is_last : (said : ℕ → Option Conclusion) (ns : List ℕ) (k : ℕ) → k < length ns → length ns ≤ k + 1 → (IsTypingSaid (said (get_or ns k 0)) → ⊥)
    → AreTypingsFirst (map said (drop k ns)) ↔ IsSubtypingSaid (said (get_or ns k 0))
is_last said ns k inside past other =
    let here : drop k ns ≡ get_or ns k 0 ∷ [] = drop_here ns k inside ∙ ap (λ l. get_or ns k 0 ∷ l) (drop_of_length-le ns past) in
    subst (λ ms. AreTypingsFirst (map said ms) ↔ IsSubtypingSaid (said (get_or ns k 0))) (sym here) (alone (said (get_or ns k 0)) other)

-- premises that a step may have

typings_first : (cs : List Conclusion) (us : List Tree) → AlikeEach cs us → AreTypingsFirst (map Some cs) → (ps : Premises) × (typing_premises us ≡ Some ps)
typings_first [] [] h k = (record { typings = []; side = None }, refl)
typings_first [] (u ∷ us) h k = absurd h
typings_first (c ∷ cs) [] h k = absurd h
typings_first (typing r s t ∷ cs) (of_subtyping q ∷ us) h k = absurd h.0
typings_first (subtyping r l u ∷ cs) (of_typing p ∷ us) h k = absurd h.0
typings_first (subtyping r l u ∷ []) (of_subtyping q ∷ []) h k = (record { typings = []; side = Some q }, refl)
typings_first (subtyping r l u ∷ []) (of_subtyping q ∷ v ∷ us) h k = absurd h.1
typings_first (subtyping r l u ∷ c ∷ cs) (of_subtyping q ∷ us) h k = let clash : Some c ∷ map Some cs ≡ [] = k in absurd cc
typings_first (typing r s t ∷ cs) (of_typing p ∷ us) h k =
    let rest = typings_first cs us h.1 k in
    let more : Premises = rest.0 in
    (record { typings = p ∷ more.typings; side = more.side }, ap (option_map (λ (qs : Premises). record { typings = p ∷ qs.typings; side = qs.side })) rest.1)

are_typings_first : (cs : List Conclusion) (us : List Tree) (ps : Premises) → AlikeEach cs us → typing_premises us ≡ Some ps → AreTypingsFirst (map Some cs)
are_typings_first [] [] ps h e = tt
are_typings_first [] (u ∷ us) ps h e = absurd h
are_typings_first (c ∷ cs) [] ps h e = absurd h
are_typings_first (typing r s t ∷ cs) (of_subtyping q ∷ us) ps h e = absurd h.0
are_typings_first (subtyping r l u ∷ cs) (of_typing p ∷ us) ps h e = absurd h.0
are_typings_first (subtyping r l u ∷ []) (of_subtyping q ∷ us) ps h e = refl
are_typings_first (subtyping r l u ∷ c ∷ cs) (of_subtyping q ∷ []) ps h e = absurd h.1
are_typings_first (subtyping r l u ∷ c ∷ cs) (of_subtyping q ∷ v ∷ us) ps h e = let clash : None ≡ Some ps = e in absurd cc
are_typings_first (typing r s t ∷ cs) (of_typing p ∷ us) ps h e =
    let found = map_found (λ (qs : Premises). record { typings = p ∷ qs.typings; side = qs.side }) (typing_premises us) ps e in
    are_typings_first cs us found.0 h.1 found.1

subtypings : (cs : List Conclusion) (us : List Tree) → AlikeEach cs us → AreSubtypings (map Some cs) → (qs : List SubTree) × (sub_premises us ≡ Some qs)
subtypings [] [] h k = ([], refl)
subtypings [] (u ∷ us) h k = absurd h
subtypings (c ∷ cs) [] h k = absurd h
subtypings (typing r s t ∷ cs) (u ∷ us) h k = absurd k.0
subtypings (subtyping r l u ∷ cs) (of_typing p ∷ us) h k = absurd h.0
subtypings (subtyping r l u ∷ cs) (of_subtyping q ∷ us) h k =
    let rest = subtypings cs us h.1 k.1 in
    (q ∷ rest.0, ap (option_map (λ qs. q ∷ qs)) rest.1)

are_subtypings : (cs : List Conclusion) (us : List Tree) (qs : List SubTree) → AlikeEach cs us → sub_premises us ≡ Some qs → AreSubtypings (map Some cs)
are_subtypings [] [] qs h e = tt
are_subtypings [] (u ∷ us) qs h e = absurd h
are_subtypings (c ∷ cs) [] qs h e = absurd h
are_subtypings (typing r s t ∷ cs) (of_subtyping q ∷ us) qs h e = absurd h.0
are_subtypings (typing r s t ∷ cs) (of_typing p ∷ us) qs h e = let clash : None ≡ Some qs = e in absurd cc
are_subtypings (subtyping r l u ∷ cs) (of_typing p ∷ us) qs h e = absurd h.0
are_subtypings (subtyping r l u ∷ cs) (of_subtyping q ∷ us) qs h e =
    let found = map_found (λ rs. q ∷ rs) (sub_premises us) qs e in
    (tt, are_subtypings cs us found.0 h.1 found.1)

has_tree : (c : Conclusion) (cs : List Conclusion) (us : List Tree) → AlikeEach cs us → MayHave c (map Some cs) → (t : Tree) × (tree_from c us ≡ Some t)
has_tree (typing r s t) cs us h k =
    let found = typings_first cs us h k in
    let ps : Premises = found.0 in
    (of_typing (typing_step r t (typings_made ps.typings) ps.side), ap (option_map (λ (qs : Premises). of_typing (typing_step r t (typings_made qs.typings) qs.side))) found.1)
has_tree (subtyping r l u) cs us h k =
    let found = subtypings cs us h k in
    (of_subtyping (sub_step r l u (sub_trees_made found.0)), ap (option_map (λ qs. of_subtyping (sub_step r l u (sub_trees_made qs)))) found.1)

may_have : (c : Conclusion) (cs : List Conclusion) (us : List Tree) (t : Tree) → AlikeEach cs us → tree_from c us ≡ Some t → MayHave c (map Some cs)
may_have (typing r s ty) cs us t h e = let made = map_found _ (typing_premises us) t e in are_typings_first cs us made.0 h made.1
may_have (subtyping r l u) cs us t h e = let made = map_found _ (sub_premises us) t e in are_subtypings cs us made.0 h made.1

-- proofs one behind the other

trees_split : (ps qs : Proofs) (ts : List Tree) → trees_in (joined ps qs) ≡ Some ts → HaveTrees ps × HaveTrees qs
trees_split no_proofs qs ts e = (([], refl), (ts, e))
trees_split (proof_first p ps) qs ts e =
    let first = then_found (λ tree. option_map (λ trees. tree ∷ trees) (trees_in (joined ps qs))) (tree_in p) ts e in
    let rest = map_found (λ trees. first.0 ∷ trees) (trees_in (joined ps qs)) ts first.2 in
    let parts = trees_split ps qs rest.0 rest.1 in
    ((first.0 ∷ parts.0.0, ap (option_and_then (λ tree. option_map (λ trees. tree ∷ trees) (trees_in ps))) first.1 ∙ ap (option_map (λ trees. first.0 ∷ trees)) parts.0.1), parts.1)

pub one_more_tree : (front top : Proofs) (c : Conclusion) → MayHave c (map Some (conclusions_of top)) → HaveTrees (joined front top) → HaveTrees (joined front (proof_first (concludes c top) no_proofs))
one_more_tree front top c may h =
    let parts = trees_split front top h.0 h.1 in
    let own = has_tree c (conclusions_of top) parts.1.0 (trees_alike top parts.1.0 parts.1.1) may in
    let tree : tree_in (concludes c top) ≡ Some own.0 = ap (option_and_then (tree_from c)) parts.1.1 ∙ own.1 in
    let alone : trees_in (proof_first (concludes c top) no_proofs) ≡ Some (own.0 ∷ []) = ap (option_and_then (λ tree. Some (tree ∷ []))) tree in
    (parts.0.0 ++ own.0 ∷ [], trees_joined front (proof_first (concludes c top) no_proofs) parts.0.0 (own.0 ∷ []) parts.0.1 alone)

pub one_tree_less : (front top : Proofs) (c : Conclusion) → HaveTrees (joined front (proof_first (concludes c top) no_proofs)) → MayHave c (map Some (conclusions_of top)) × HaveTrees (joined front top)
one_tree_less front top c h =
    let parts = trees_split front (proof_first (concludes c top) no_proofs) h.0 h.1 in
    let first = then_found (λ tree. option_map (λ trees. tree ∷ trees) (trees_in no_proofs)) (tree_in (concludes c top)) parts.1.0 parts.1.1 in
    let under = then_found (tree_from c) (trees_in top) first.0 first.1 in
    (may_have c (conclusions_of top) under.0 first.0 (trees_alike top under.0 under.1) under.2, (parts.0.0 ++ under.0, trees_joined front top parts.0.0 under.0 parts.0.1 under.1))
