-- The elements of lists.
use Rattle.std.proofs.Common.{◌≡◌, ◌⊎◌, inl, inr, ⊎_elim, zero, suc, List, [], ◌∷◌, refl, ap, sym, ◌∙◌, subst, arith, map, Option, Some, None}
use Rattle.std.specs.Prelude.{Contains}
use Rattle.std.specs.List.{cons_option, filter_map}
use Rattle.std.proofs.lemmas.List.Elements.{Contains-append_right}

pub nothing_in : {A : Type 0} (x : A) → Contains [] x → ⊥
nothing_in x h = omega (arith, h.1)

pub first_in : {A : Type 0} (x : A) (xs : List A) → Contains (x ∷ xs) x
first_in x xs = (0, omega arith, refl)

pub later_in : {A : Type 0} (y x : A) (xs : List A) → Contains xs x → Contains (y ∷ xs) x
later_in y x xs h = Contains-append_right (y ∷ []) xs x h

pub first_or_later : {A : Type 0} (y x : A) (xs : List A) → Contains (y ∷ xs) x → (y ≡ x) ⊎ Contains xs x
first_or_later y x xs (zero, inside, here) = inl here
first_or_later y x xs (suc k, inside, here) = inr (k, omega (arith, inside), here)

-- the list of what a function makes of each element

pub mapped_in : {A B : Type 0} (f : A → B) (xs : List A) (x : A) → Contains xs x → Contains (map f xs) (f x)
mapped_in f [] x h = absurd (nothing_in x h)
mapped_in f (y ∷ xs) x h =
    ⊎_elim
    (λ (e : y ≡ x). subst (λ z. Contains (map f (y ∷ xs)) (f z)) e (first_in (f y) (map f xs)))
    (λ (rest : Contains xs x). later_in (f y) (f x) (map f xs) (mapped_in f xs x rest))
    (first_or_later y x xs h)

-- the list of what it makes of each element, if anything

option_in : {B : Type 0} (o : Option B) (y : B) (ys : List B) → Contains ys y → Contains (cons_option o ys) y
option_in None y ys h = h
option_in (Some z) y ys h = later_in z y ys h

pub filtered_in : {A B : Type 0} (f : A → Option B) (xs : List A) (x : A) (y : B) → Contains xs x → f x ≡ Some y → Contains (filter_map f xs) y
filtered_in f [] x y h e = absurd (nothing_in x h)
filtered_in f (z ∷ xs) x y h e =
    ⊎_elim
    (λ (same : z ≡ x). subst (λ o. Contains (cons_option o (filter_map f xs)) y) (sym (ap f same ∙ e)) (first_in y (filter_map f xs)))
    (λ (rest : Contains xs x). option_in (f z) y (filter_map f xs) (filtered_in f xs x y rest e))
    (first_or_later z x xs h)

option_cases : {B : Type 0} (o : Option B) (y : B) (ys : List B) → Contains (cons_option o ys) y → (o ≡ Some y) ⊎ Contains ys y
option_cases None y ys h = inr h
option_cases (Some z) y ys h = ⊎_elim (λ (same : z ≡ y). inl (ap Some same)) (λ (rest : Contains ys y). inr rest) (first_or_later z y ys h)

pub filtered_from : {A B : Type 0} (f : A → Option B) (xs : List A) (y : B) → Contains (filter_map f xs) y → (x : A) × Contains xs x × (f x ≡ Some y)
filtered_from f [] y h = absurd (nothing_in y h)
filtered_from f (z ∷ xs) y h =
    ⊎_elim
    (λ (here : f z ≡ Some y). (z, first_in z xs, here))
    (λ (rest : Contains (filter_map f xs) y). let there = filtered_from f xs y rest in (there.0, later_in z there.0 xs there.1, there.2))
    (option_cases (f z) y (filter_map f xs) h)
