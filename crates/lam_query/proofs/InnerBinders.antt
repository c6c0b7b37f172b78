-- Binders that are taken from a list, from one of them on.
use Rattle.std.proofs.Common.{◌≡◌, ℕ, ◌+◌, ◌<◌, ◌≤◌, suc, List, [], ◌∷◌, ◌++◌, map, length, drop, get_or, add-one, drop-cons, append_assoc, append-nil, Option, Some, None, IfSome, sym, ap, ◌∙◌}
use Rattle.std.proofs.lemmas.List.{map-append, drop-map}
use Rattle.std.proofs.lemmas.Simd.{map-map}
use Rattle.std.proofs.Math.ListN.{drop_of_length-le}
use Rattle.lam_scope.specs.declared.numbers.Binder.{Binder}
use Rattle.lam_scope.specs.TableViews.{binder_number}
use Rattle.lam_query.proofs.Collected.{IsCollected}

pub one_taken : {A B C : Type 0} (f : B → C) (g : A → C) (xs all : List A) (i : ℕ) (d : A) (done now : List B) (y : B)
    → i < length xs → now ≡ done ++ y ∷ [] → f y ≡ g (get_or xs i d) → IsCollected f g done (drop i xs) all → IsCollected f g now (drop (i + 1) xs) all
one_taken f g xs all i d done now y lt is seen before =
    let more = rw (drop-cons xs i d lt) at before in
    rw add-one (rw (is, map-append f done (y ∷ [])) (rw seen (append_assoc (map f done) (g (get_or xs i d) ∷ []) (map g (drop (suc i) xs)) ∙ more)))

-- by the numbers of binders
by_numbers : {C : Type 0} (g : ℕ → C) (bs : List Binder) (ns : List ℕ) (n : ℕ) → map binder_number bs ≡ ns → map (λ (b : Binder). g b.0) (drop n bs) ≡ map g (drop n ns)
by_numbers g bs ns n are = sym (map-map g binder_number (drop n bs)) ∙ ap (map g) (sym (drop-map binder_number n bs) ∙ ap (drop n) are)

pub all_taken : {B C : Type 0} (f : B → C) (g : ℕ → C) (bs : List Binder) (ns : List ℕ) (n i : ℕ) (done : List B) → map binder_number bs ≡ ns
    → length bs ≤ i → IsCollected f (λ (b : Binder). g b.0) done (drop i bs) (drop n bs) → map f done ≡ map g (drop n ns)
all_taken f g bs ns n i done are le h =
    let k = rw (drop_of_length-le bs le) at h in
    sym (append-nil (map f done)) ∙ k ∙ by_numbers g bs ns n are

-- what is known of something that may be there

pub if_both : {A : Type 0} (o : Option A) (P Q R : A → Type 0) → ((x : A) → P x → Q x → R x) → IfSome o P → IfSome o Q → IfSome o R
if_both None P Q R so p q = tt
if_both (Some x) P Q R so p q = so x p q

pub if_one : {A : Type 0} (o : Option A) (P R : A → Type 0) → ((x : A) → P x → R x) → IfSome o P → IfSome o R
if_one None P R so p = tt
if_one (Some x) P R so p = so x p
