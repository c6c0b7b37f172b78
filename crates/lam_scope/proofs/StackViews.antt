-- How stacks are seen.
use Rattle.std.proofs.Common.{◌≡◌, ℕ, ◌+◌, ◌-◌, ◌<◌, arith, List, [], ◌∷◌, ◌++◌, length, get_or, zero, suc, refl, ap, sym, ◌∙◌, drop, ◌≤◌}
use Rattle.std.proofs.lemmas.List.{drop_more, drop_all}
use Rattle.lam_scope.specs.Stacks.{stacked, outside}

pub stacked-push : {X Y : Type 0} (f : X → Y) (ys : List Y) (xs : List X) (x : X) → stacked f ys (xs ++ x ∷ []) ≡ f x ∷ stacked f ys xs
stacked-push f ys [] x = refl
stacked-push f ys (y ∷ xs) x = stacked-push f (f y ∷ ys) xs x

pub stacked-length : {X Y : Type 0} (f : X → Y) (ys : List Y) (xs : List X) → length (stacked f ys xs) ≡ length xs + length ys
stacked-length f ys [] = omega arith
stacked-length f ys (x ∷ xs) = let more = stacked-length f (f x ∷ ys) xs in omega arith

-- one less is all but the innermost
pub stacked-popped : {X Y : Type 0} (f : X → Y) (xs more : List X) (x : X) → more ≡ xs ++ x ∷ [] → stacked f [] xs ≡ outside (stacked f [] more)
stacked-popped f xs more x e = sym (ap outside (ap (stacked f []) e ∙ stacked-push f [] xs x))

-- the item of a number, counted from the innermost

stacked-behind : {X Y : Type 0} (f : X → Y) (ys : List Y) (xs : List X) (n m : ℕ) (d : Y) → n ≡ length xs + m → get_or (stacked f ys xs) n d ≡ get_or ys m d
stacked-behind f ys [] n m d e = let same : n ≡ m = omega arith in ap (λ k. get_or ys k d) same
stacked-behind f ys (x ∷ xs) n m d e = stacked-behind f (f x ∷ ys) xs n (suc m) d (omega arith)

pub stacked-nth : {X Y : Type 0} (f : X → Y) (ys : List Y) (xs : List X) (n i : ℕ) (d : Y) (x : X) → i < length xs → n ≡ length xs - 1 - i → x ≡ get_or xs i x
    → get_or (stacked f ys xs) n d ≡ f x
stacked-nth f ys [] n i d x lt e is = absurd (omega arith)
stacked-nth f ys (y ∷ xs) n zero d x lt e is = stacked-behind f (f y ∷ ys) xs n 0 d (omega arith) ∙ ap f (sym is)
stacked-nth f ys (y ∷ xs) n (suc i) d x lt e is = stacked-nth f (f y ∷ ys) xs n i d x (omega arith) (omega arith) is

-- the items but for so many, the innermost first

pub stacked-drop : {X Y : Type 0} (f : X → Y) (xs : List X) (n : ℕ) (x : X) → n < length xs → ((d : X) → x ≡ get_or xs (length xs - 1 - n) d)
    → drop n (stacked f [] xs) ≡ f x ∷ drop (n + 1) (stacked f [] xs)
stacked-drop f xs n x lt is =
    let size = stacked-length f [] xs in
    drop_more (stacked f [] xs) n (f x) (omega (arith, lt, size))
    ∙ ap (λ y. y ∷ drop (n + 1) (stacked f [] xs)) (stacked-nth f [] xs n (length xs - 1 - n) (f x) x (omega (arith, lt)) (omega (arith, lt)) (is x))

pub stacked-drop_all : {X Y : Type 0} (f : X → Y) (xs : List X) (n : ℕ) → length xs ≤ n → drop n (stacked f [] xs) ≡ []
stacked-drop_all f xs n le = let size = stacked-length f [] xs in drop_all n (stacked f [] xs) (omega (arith, le, size))
