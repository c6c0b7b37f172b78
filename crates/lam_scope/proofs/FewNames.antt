-- How a stack of a few names is seen, and how a name is found from its end.
use Rattle.std.proofs.Common.{◌≡◌, ℕ, ◌+◌, ◌-◌, ◌<◌, ◌≤◌, arith, true, false, List, [], ◌∷◌, ◌++◌, length, get_or, suc, refl, ap, ◌∙◌, Option, Some, None, Bor, drop}
use Rattle.std.specs.Prelude.{if◌then◌else◌}
use Rattle.std.specs.Option.{option_map}
use Rattle.lam_scope.specs.Names.{Name, binds, index_of}
use Rattle.lam_scope.specs.inner.FewNames.{few_names}
use Rattle.lam_scope.proofs.StackViews.{stacked-push, stacked-drop, stacked-drop_all}

pub few_names-push : (stack : List (Option (Bor (List ℕ)))) (b : Option (Bor (List ℕ))) → few_names (stack ++ b ∷ []) ≡ option_map (λ x. x.now) b ∷ few_names stack
few_names-push stack b = stacked-push (option_map (λ x. x.now)) [] stack b

pub ruleset entered = (few_names-push)

-- the index of a use, if it is found after the first n binders

abbrev pub found_behind : ℕ → Option ℕ → Option ℕ
found_behind n o = option_map (λ m. n + m) o

pub behind_none : (o : Option ℕ) → o ≡ found_behind 0 o
behind_none None = refl
behind_none (Some m) = ap (λ k. Some k) (omega arith)

behind_one : (n : ℕ) (o : Option ℕ) → found_behind n (option_map suc o) ≡ found_behind (n + 1) o
behind_one n None = refl
behind_one n (Some m) = ap (λ k. Some k) (omega arith)

here_found : (n : ℕ) → found_behind n (Some 0) ≡ Some n
here_found n = ap (λ k. Some k) (omega arith)

pub found_further : (x : Name) (stack : List (Option (Bor (List ℕ)))) (n : ℕ) (b : Option (Bor (List ℕ))) → n < length stack
    → ((d : Option (Bor (List ℕ))) → b ≡ get_or stack (length stack - 1 - n) d) → binds (option_map (λ y. y.now) b) x ≡ false
    → found_behind n (index_of x (drop n (few_names stack))) ≡ found_behind (n + 1) (index_of x (drop (n + 1) (few_names stack)))
found_further x stack n b lt is other =
    ap (λ bs. found_behind n (index_of x bs)) (stacked-drop (option_map (λ y. y.now)) stack n b lt is)
    ∙ ap (λ v. found_behind n (if v then Some 0 else option_map suc (index_of x (drop (n + 1) (few_names stack))))) other
    ∙ behind_one n (index_of x (drop (n + 1) (few_names stack)))

pub found_here : (x : Name) (stack : List (Option (Bor (List ℕ)))) (n : ℕ) (b : Option (Bor (List ℕ))) → n < length stack
    → ((d : Option (Bor (List ℕ))) → b ≡ get_or stack (length stack - 1 - n) d) → binds (option_map (λ y. y.now) b) x ≡ true
    → found_behind n (index_of x (drop n (few_names stack))) ≡ Some n
found_here x stack n b lt is same =
    ap (λ bs. found_behind n (index_of x bs)) (stacked-drop (option_map (λ y. y.now)) stack n b lt is)
    ∙ ap (λ v. found_behind n (if v then Some 0 else option_map suc (index_of x (drop (n + 1) (few_names stack))))) same
    ∙ here_found n

pub found_nowhere : (x : Name) (stack : List (Option (Bor (List ℕ)))) (n : ℕ) → length stack ≤ n → found_behind n (index_of x (drop n (few_names stack))) ≡ None
found_nowhere x stack n le = ap (λ bs. found_behind n (index_of x bs)) (stacked-drop_all (option_map (λ y. y.now)) stack n le)
