-- Lists that are made item by item.
use Rattle.std.proofs.Common.{◌≡◌, ℕ, ◌+◌, ◌<◌, ◌≤◌, List, [], ◌∷◌, ◌++◌, map, length, drop, get_or, ◌∙◌, sym, suc, add-one, drop-cons, append_assoc, append-nil}
use Rattle.std.proofs.lemmas.List.{map-append}
use Rattle.std.proofs.Math.ListN.{drop_of_length-le}

-- what was made so far, seen by f, and what is left to be made, told by g
abbrev pub IsCollected : {A B C : Type 0} → (B → C) → (A → C) → List B → List A → List A → Type 0
IsCollected f g done left all = map f done ++ map g left ≡ map g all

pub one_collected : {A B C : Type 0} (f : B → C) (g : A → C) (all : List A) (i : ℕ) (d : A) (done now : List B) (y : B)
    → i < length all → now ≡ done ++ y ∷ [] → f y ≡ g (get_or all i d) → IsCollected f g done (drop i all) all → IsCollected f g now (drop (i + 1) all) all
one_collected f g all i d done now y lt is seen before =
    let more = rw (drop-cons all i d lt) at before in
    rw add-one (rw (is, map-append f done (y ∷ [])) (rw seen (append_assoc (map f done) (g (get_or all i d) ∷ []) (map g (drop (suc i) all)) ∙ more)))

pub all_collected : {A B C : Type 0} (f : B → C) (g : A → C) (all : List A) (i : ℕ) (done : List B)
    → length all ≤ i → IsCollected f g done (drop i all) all → map f done ≡ map g all
all_collected f g all i done le h = let k = rw (drop_of_length-le all le) at h in sym (append-nil (map f done)) ∙ k
