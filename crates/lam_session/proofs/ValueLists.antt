-- Lists of values that are built one value after the other.
use Rattle.std.proofs.Common.{◌≡◌, ℕ, ◌+◌, ◌<◌, List, [], ◌∷◌, ◌++◌, length, drop, map, get_or, drop-cons, add-one, sym, refl, ap, ◌∙◌, ◌≤◌, append-nil, append_assoc}
use Rattle.std.proofs.Math.ListN.{drop_of_length-le}
use Rattle.std.proofs.lemmas.Simd.{map-map}
use Rattle.serde_json.specs.Data.{Data}
use Rattle.serde_json.specs.View.{view}
use Rattle.serde_json.specs.declared.value.Value.{Value}

viewed : {V : Type 0} (told : V → Data) (values : List V) (v : V) (rest : List Data) → map told (values ++ v ∷ []) ++ rest ≡ map told values ++ told v ∷ rest
viewed told [] v rest = refl
viewed told (w ∷ values) v rest = ap (λ l. told w ∷ l) (viewed told values v rest)

pub told_more : {V A B : Type 0} (told : V → Data) (seen : A → B) (shown : B → Data) (values more : List V) (v : V) (xs : List A) (i : ℕ) (x : A)
    → i < length xs → told v ≡ shown (seen (get_or xs i x)) → more ≡ values ++ v ∷ []
    → map told values ++ map shown (map seen (drop i xs)) ≡ map shown (map seen xs) → map told more ++ map shown (map seen (drop (i + 1) xs)) ≡ map shown (map seen xs)
told_more told seen shown values more v xs i x inside shows pushed so_far =
    ap (λ l. map told l ++ map shown (map seen (drop (i + 1) xs))) pushed
    ∙ viewed told values v (map shown (map seen (drop (i + 1) xs)))
    ∙ ap (λ d. map told values ++ d ∷ map shown (map seen (drop (i + 1) xs))) shows
    ∙ ap (λ n. map told values ++ shown (seen (get_or xs i x)) ∷ map shown (map seen (drop n xs))) (add-one i)
    ∙ ap (λ l. map told values ++ map shown (map seen l)) (sym (drop-cons xs i x inside))
    ∙ so_far

pub value_more : {A B : Type 0} (seen : A → B) (shown : B → Data) (values more : List Value) (v : Value) (xs : List A) (i : ℕ) (x : A)
    → i < length xs → view v ≡ shown (seen (get_or xs i x)) → more ≡ values ++ v ∷ []
    → map view values ++ map shown (map seen (drop i xs)) ≡ map shown (map seen xs) → map view more ++ map shown (map seen (drop (i + 1) xs)) ≡ map shown (map seen xs)
value_more seen shown values more v xs i x inside shows pushed so_far = told_more view seen shown values more v xs i x inside shows pushed so_far

pub number_more : {A : Type 0} (shown : A → Data) (values more : List Value) (v : Value) (xs : List A) (i : ℕ) (x : A)
    → i < length xs → view v ≡ shown (get_or xs i x) → more ≡ values ++ v ∷ []
    → map view values ++ map shown (drop i xs) ≡ map shown xs → map view more ++ map shown (drop (i + 1) xs) ≡ map shown xs
number_more shown values more v xs i x inside shows pushed so_far =
    ap (λ l. map view l ++ map shown (drop (i + 1) xs)) pushed
    ∙ viewed view values v (map shown (drop (i + 1) xs))
    ∙ ap (λ d. map view values ++ d ∷ map shown (drop (i + 1) xs)) shows
    ∙ ap (λ n. map view values ++ shown (get_or xs i x) ∷ map shown (drop n xs)) (add-one i)
    ∙ ap (λ l. map view values ++ map shown l) (sym (drop-cons xs i x inside))
    ∙ so_far

-- the same for a list of anything
pub item_more : {A B : Type 0} (f : A → B) (done more : List B) (b : B) (xs : List A) (i : ℕ) (x : A)
    → i < length xs → b ≡ f (get_or xs i x) → more ≡ done ++ b ∷ []
    → done ++ map f (drop i xs) ≡ map f xs → more ++ map f (drop (i + 1) xs) ≡ map f xs
item_more f done more b xs i x inside is pushed so_far =
    ap (λ l. l ++ map f (drop (i + 1) xs)) pushed
    ∙ append_assoc done (b ∷ []) (map f (drop (i + 1) xs))
    ∙ ap (λ y. done ++ y ∷ map f (drop (i + 1) xs)) is
    ∙ ap (λ n. done ++ f (get_or xs i x) ∷ map f (drop n xs)) (add-one i)
    ∙ ap (λ l. done ++ map f l) (sym (drop-cons xs i x inside))
    ∙ so_far

pub all_items : {A B : Type 0} (f : A → B) (done : List B) (xs : List A) (i : ℕ) → length xs ≤ i → done ++ map f (drop i xs) ≡ map f xs → done ≡ map f xs
all_items f done xs i past so_far = sym (ap (λ l. done ++ map f l) (drop_of_length-le xs past) ∙ append-nil done) ∙ so_far

-- if none is to come, the values so far are all
pub all_told : {V A : Type 0} (told : V → Data) (shown : List A → List Data) (values : List V) (xs : List A) (i : ℕ) → shown [] ≡ [] → length xs ≤ i
    → map told values ++ shown (drop i xs) ≡ shown xs → map told values ≡ shown xs
all_told told shown values xs i none past so_far =
    sym (ap (λ l. map told values ++ l) (ap shown (drop_of_length-le xs past) ∙ none) ∙ append-nil (map told values))
    ∙ so_far

pub all_shown : {A : Type 0} (shown : List A → List Data) (values : List Value) (xs : List A) (i : ℕ) → shown [] ≡ [] → length xs ≤ i
    → map view values ++ shown (drop i xs) ≡ shown xs → map view values ≡ shown xs
all_shown shown values xs i none past so_far = all_told view shown values xs i none past so_far

-- what is shown of each `f x` is what `shown` after `f` shows of each x
pub shown_through : {A B : Type 0} (shown : B → Data) (f : A → B) (ys : List B) (xs : List A) → ys ≡ map f xs → map shown ys ≡ map (λ x. shown (f x)) xs
shown_through shown f ys xs is = ap (map shown) is ∙ map-map shown f xs
