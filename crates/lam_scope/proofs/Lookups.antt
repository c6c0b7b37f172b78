-- What a name stands for is found by the index of the name.
use Rattle.std.proofs.Common.{◌≡◌, ◌⊎◌, inl, inr, ℕ, ◌-◌, ◌<◌, arith, Bool, true, false, List, [], ◌∷◌, ◌++◌, length, get_or, suc, refl, ap, sym, ◌∙◌, Option, Some, None}
use Rattle.std.specs.Prelude.{if◌then◌else◌, IsSome}
use Rattle.std.proofs.lemmas.List.{append-nil, length-map}
use Rattle.std.specs.Option.{option_map, option_to_list}
use Rattle.std.specs.Str.{bytes_eq}
use Rattle.lam_rules.specs.Types.{Typ}
use Rattle.lam_rules.specs.TermViews.{written_of}
use Rattle.lam_scope.specs.declared.abbreviations.Abbreviation.{Abbreviation as RustAbbreviation}
use Rattle.lam_scope.specs.declared.seen.SeenBinder.{SeenBinder}
use Rattle.lam_scope.specs.Names.{Name, binds, index_of}
use Rattle.lam_scope.specs.Stacks.{stacked, outside}
use Rattle.lam_scope.specs.Abbreviations.{abbreviation_of, abbreviations_in, name_of_one, names_in}
use Rattle.lam_scope.specs.Expansions.{Abbreviation, stands_for, meaning, is_bound}
use Rattle.lam_scope.specs.Tables.{Entry, entry_names, bound_to}
use Rattle.lam_scope.specs.TableViews.{entry_of, entries_of}
use Rattle.lam_scope.proofs.StackViews.{stacked-length, stacked-nth, stacked-popped}

abbrev value_of : Option ℕ → ℕ
value_of None = 0
value_of (Some n) = n

-- the first of a list has the name, or another behind it

split : (b : Bool) (o : Option ℕ) (n : ℕ) → (if b then Some 0 else option_map suc o) ≡ Some n
    → ((b ≡ true) × (n ≡ 0)) ⊎ ((b ≡ false) × ((m : ℕ) × (o ≡ Some m) × (n ≡ suc m)))
split true o n e = inl (refl, sym (ap value_of e))
split false None n e = cc
split false (Some m) n e = inr (refl, (m, refl, sym (ap value_of e)))

split_none : (b : Bool) (o : Option ℕ) → (if b then Some 0 else option_map suc o) ≡ None → (b ≡ false) × (o ≡ None)
split_none true o e = cc
split_none false None e = (refl, refl)
split_none false (Some m) e = cc

-- entries

pub bound_by_index : (x : Name) (es : List Entry) (n : ℕ) (e : Entry) → index_of x (entry_names es) ≡ Some n → get_or es n e ≡ e → (n < length es) × (bound_to x es ≡ Some e.answer)
bound_by_index x [] n e found is = cc
bound_by_index x (f ∷ es) n e found is = by (λ m rest here. bound_by_index x es m e rest here) (split (binds f.name x) (index_of x (entry_names es)) n found)
  where
    by : ((m : ℕ) → index_of x (entry_names es) ≡ Some m → get_or es m e ≡ e → (m < length es) × (bound_to x es ≡ Some e.answer))
        → ((binds f.name x ≡ true) × (n ≡ 0)) ⊎ ((binds f.name x ≡ false) × ((m : ℕ) × (index_of x (entry_names es) ≡ Some m) × (n ≡ suc m)))
        → (n < length (f ∷ es)) × (bound_to x (f ∷ es) ≡ Some e.answer)
    by behind (inl (is_first, first)) = (
      omega (arith, first),
      ap (λ b. if b then Some f.answer else bound_to x es) is_first ∙ ap (λ g. Some g.answer) (sym (ap (λ k. get_or (f ∷ es) k e) first) ∙ is),
    )
    by behind (inr (no_match, (m, rest, next))) =
        let inner = behind m rest (sym (ap (λ k. get_or (f ∷ es) k e) next) ∙ is) in
        let within = inner.0 in
        (omega (arith, next, within), ap (λ b. if b then Some f.answer else bound_to x es) no_match ∙ inner.1)

pub unbound_by_index : (x : Name) (es : List Entry) → index_of x (entry_names es) ≡ None → bound_to x es ≡ None
unbound_by_index x [] none = refl
unbound_by_index x (f ∷ es) none =
    let both = split_none (binds f.name x) (index_of x (entry_names es)) none in
    ap (λ b. if b then Some f.answer else bound_to x es) both.0 ∙ unbound_by_index x es both.1

-- abbreviations

abbrev expansion_in : Abbreviation → Option Typ
expansion_in (stands_for x t) = t

pub meaning_by_index : (x : Name) (bs : List Abbreviation) (n : ℕ) (a : Abbreviation) → index_of x (names_in bs) ≡ Some n → get_or bs n a ≡ a
    → (n < length bs) × (is_bound x bs ≡ true) × (meaning x bs ≡ expansion_in a)
meaning_by_index x [] n a found is = cc
meaning_by_index x (stands_for y t ∷ bs) n a found is = by (λ m rest here. meaning_by_index x bs m a rest here) (split (bytes_eq y x) (index_of x (names_in bs)) n found)
  where
    by : ((m : ℕ) → index_of x (names_in bs) ≡ Some m → get_or bs m a ≡ a → (m < length bs) × (is_bound x bs ≡ true) × (meaning x bs ≡ expansion_in a))
        → ((bytes_eq y x ≡ true) × (n ≡ 0)) ⊎ ((bytes_eq y x ≡ false) × ((m : ℕ) × (index_of x (names_in bs) ≡ Some m) × (n ≡ suc m)))
        → (n < length (stands_for y t ∷ bs)) × (is_bound x (stands_for y t ∷ bs) ≡ true) × (meaning x (stands_for y t ∷ bs) ≡ expansion_in a)
    by behind (inl (is_first, first)) = (
      omega (arith, first),
      ap (λ b. if b then true else is_bound x bs) is_first,
      ap (λ b. if b then t else meaning x bs) is_first ∙ ap expansion_in (sym (ap (λ k. get_or (stands_for y t ∷ bs) k a) first) ∙ is),
    )
    by behind (inr (no_match, (m, rest, next))) =
        let inner = behind m rest (sym (ap (λ k. get_or (stands_for y t ∷ bs) k a) next) ∙ is) in
        let within = inner.0 in (
          omega (arith, next, within),
          ap (λ b. if b then true else is_bound x bs) no_match ∙ inner.1,
          ap (λ b. if b then t else meaning x bs) no_match ∙ inner.2,
        )

pub no_meaning_by_index : (x : Name) (bs : List Abbreviation) → index_of x (names_in bs) ≡ None → (is_bound x bs ≡ false) × (meaning x bs ≡ None)
no_meaning_by_index x [] none = (refl, refl)
no_meaning_by_index x (stands_for y t ∷ bs) none =
    let both = split_none (bytes_eq y x) (index_of x (names_in bs)) none in
    let inner = no_meaning_by_index x bs both.1 in
    (ap (λ b. if b then true else is_bound x bs) both.0 ∙ inner.0, ap (λ b. if b then t else meaning x bs) both.0 ∙ inner.1)

index-within : (x : Name) (bs : List (Option Name)) (n : ℕ) → index_of x bs ≡ Some n → n < length bs
index-within x [] n e = cc
index-within x (b ∷ bs) n e = by (λ m rest. index-within x bs m rest) (split (binds b x) (index_of x bs) n e)
  where
    by : ((m : ℕ) → index_of x bs ≡ Some m → m < length bs) → ((binds b x ≡ true) × (n ≡ 0)) ⊎ ((binds b x ≡ false) × ((m : ℕ) × (index_of x bs ≡ Some m) × (n ≡ suc m))) → n < length (b ∷ bs)
    by behind (inl (is_first, first)) = omega (arith, first)
    by behind (inr (no_match, (m, rest, next))) = let inner = behind m rest in omega (arith, next, inner)

-- the same for stacks

pub seen_within : (stack : List SeenBinder) (names : List (Option Name)) (x : Name) (n : ℕ) → names ≡ entry_names (entries_of stack) → index_of x names ≡ Some n → n < length stack
seen_within stack names x n named found =
    let within = index-within x (entry_names (entries_of stack)) n (ap (index_of x) (sym named) ∙ found) in
    let as_many = length-map (entries_of stack) (λ e. e.name) in
    let size = stacked-length entry_of [] stack in
    omega (arith, within, as_many, size)

pub seen_found : (stack : List SeenBinder) (names : List (Option Name)) (x : Name) (n : ℕ) (b : SeenBinder) → names ≡ entry_names (entries_of stack) → index_of x names ≡ Some n
    → ((d : SeenBinder) → b ≡ get_or stack (length stack - 1 - n) d) → Some b.answer.0 ≡ bound_to x (entries_of stack)
seen_found stack names x n b named found is =
    let within = seen_within stack names x n named found in
    sym (bound_by_index x (entries_of stack) n (entry_of b) (ap (index_of x) (sym named) ∙ found)
    (stacked-nth entry_of [] stack n (length stack - 1 - n) (entry_of b) b (omega (arith, within)) (omega (arith, within)) (is b))).1

pub seen_missed : (stack : List SeenBinder) (names : List (Option Name)) (x : Name) → names ≡ entry_names (entries_of stack) → index_of x names ≡ None → None ≡ bound_to x (entries_of stack)
seen_missed stack names x named none = sym (unbound_by_index x (entries_of stack) (ap (index_of x) (sym named) ∙ none))

pub abbreviation_within : (stack : List RustAbbreviation) (names : List (Option Name)) (x : Name) (n : ℕ) → names ≡ names_in (abbreviations_in stack) → index_of x names ≡ Some n
    → n < length stack
abbreviation_within stack names x n named found =
    let within = index-within x (names_in (abbreviations_in stack)) n (ap (index_of x) (sym named) ∙ found) in
    let as_many = length-map (abbreviations_in stack) name_of_one in
    let size = stacked-length abbreviation_of [] stack in
    omega (arith, within, as_many, size)

pub abbreviation_found : (stack : List RustAbbreviation) (names : List (Option Name)) (x : Name) (n : ℕ) (a : RustAbbreviation) → names ≡ names_in (abbreviations_in stack)
    → index_of x names ≡ Some n → ((d : RustAbbreviation) → a ≡ get_or stack (length stack - 1 - n) d)
    → (is_bound x (abbreviations_in stack) ≡ true) × (meaning x (abbreviations_in stack) ≡ written_of a.expansion)
abbreviation_found stack names x n a named found is =
    let within = abbreviation_within stack names x n named found in
    let all = meaning_by_index x (abbreviations_in stack) n (abbreviation_of a) (ap (index_of x) (sym named) ∙ found)
    (stacked-nth abbreviation_of [] stack n (length stack - 1 - n) (abbreviation_of a) a (omega (arith, within)) (omega (arith, within)) (is a)) in
    (all.1, all.2)

pub abbreviation_missed : (stack : List RustAbbreviation) (names : List (Option Name)) (x : Name) → names ≡ names_in (abbreviations_in stack) → index_of x names ≡ None
    → (is_bound x (abbreviations_in stack) ≡ false) × (meaning x (abbreviations_in stack) ≡ None)
abbreviation_missed stack names x named none = no_meaning_by_index x (abbreviations_in stack) (ap (index_of x) (sym named) ∙ none)

-- one item less

pub top_left : {X Y : Type 0} (f : X → Y) (more xs : List X) (o : Option X) (n : ℕ) → more ≡ xs ++ option_to_list o → n ≡ length more → (0 < n → IsSome o)
    → stacked f [] xs ≡ outside (stacked f [] more)
top_left f more xs (Some x) n e size some = stacked-popped f xs more x e
top_left f [] xs None n e size some = ap (stacked f []) (sym (e ∙ append-nil xs))
top_left f (y ∷ more) xs None n e size some = let wrong = some (omega (arith, size)) in cc

pub names_left : (es : List Entry) → outside (entry_names es) ≡ entry_names (outside es)
names_left [] = refl
names_left (e ∷ es) = refl
