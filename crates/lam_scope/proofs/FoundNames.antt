-- How the free names of a term are found one after the other, and that each is kept where it comes first.
use Rattle.std.proofs.Common.{◌≡◌, ℕ, List, [], ◌∷◌, ◌++◌, Bool, true, false, ◌||◌, Option, Some, None, refl, ap, sym, ◌∙◌, suc, append_assoc, Bor, map}
use Rattle.std.specs.Prelude.{if◌then◌else◌}
use Rattle.std.specs.Option.{option_map, is_some}
use Rattle.std.specs.Str.{bytes_eq}
use Rattle.std.proofs.lemmas.List.{append-nil, drop_all}
use Rattle.std.proofs.Math.Bool.{or-false, or_assoc}
use Rattle.std.proofs.lemmas.Slice.Eq.{bytes_eq-Decides}
use Rattle.lam_syntax.specs.Trees.{TypeTree}
use Rattle.lam_syntax.proofs.Shapes.{type_node_of-Bool, type_node_of-Nat, type_node_of-Unit, type_node_of-Top, type_node_of-Named, type_node_of-Arrow, type_node_of-Record, term_node_of-True, term_node_of-False, term_node_of-Unit, term_node_of-Variable, term_node_of-Numeral, term_node_of-Lambda, term_node_of-If, term_node_of-Let, term_node_of-Letrec, term_node_of-Prefixed, term_node_of-Apply, term_node_of-Project, term_node_of-Ascribe, term_node_of-Record}
use Rattle.lam_scope.specs.Names.{Name, binds, index_of}
use Rattle.lam_scope.specs.FreeNames.{without, each_once, free_type_names_in, free_type_names_in_types}
use Rattle.lam_scope.specs.inner.FoundNames.{letters_of, is_among, with_name, found_after, free_under}
use Rattle.lam_scope.proofs.Walks.{fields_of-drop}
use Rattle.lam_scope.proofs.WrittenTypes.{type_fields_of-drop}

-- names one after the other

pub found_after-append : (found xs ys : List Name) → found_after found (xs ++ ys) ≡ found_after (found_after found xs) ys
found_after-append found [] ys = refl
found_after-append found (x ∷ xs) ys = found_after-append (with_name x found) xs ys

keep_or_drop : (c : Bool) (x : Name) (xs ys : List Name) → (if c then xs ++ ys else x ∷ (xs ++ ys)) ≡ (if c then xs else x ∷ xs) ++ ys
keep_or_drop true x xs ys = refl
keep_or_drop false x xs ys = refl

pub without-append : (b : Option Name) (xs ys : List Name) → without b (xs ++ ys) ≡ without b xs ++ without b ys
without-append b [] ys = refl
without-append b (x ∷ xs) ys = ap (λ zs. if binds b x then zs else x ∷ zs) (without-append b xs ys) ∙ keep_or_drop (binds b x) x (without b xs) (without b ys)

pub free_under-append : (bs : List (Option Name)) (xs ys : List Name) → free_under bs (xs ++ ys) ≡ free_under bs xs ++ free_under bs ys
free_under-append [] xs ys = refl
free_under-append (b ∷ bs) xs ys = ap (free_under bs) (without-append b xs ys) ∙ free_under-append bs (without b xs) (without b ys)

pub free_under-none : (bs : List (Option Name)) → free_under bs [] ≡ []
free_under-none [] = refl
free_under-none (b ∷ bs) = free_under-none bs

pub type_names-append : (us vs : List TypeTree) → free_type_names_in_types (us ++ vs) ≡ free_type_names_in_types us ++ free_type_names_in_types vs
type_names-append [] vs = refl
type_names-append (u ∷ us) vs = ap (λ xs. free_type_names_in u ++ xs) (type_names-append us vs) ∙ sym (append_assoc (free_type_names_in u) (free_type_names_in_types us) (free_type_names_in_types vs))

-- one use

some_indexed : (c : Bool) (o : Option ℕ) → is_some (if c then Some 0 else option_map suc o) ≡ c || is_some o
some_indexed true o = refl
some_indexed false None = refl
some_indexed false (Some n) = refl

one_left : (bs : List (Option Name)) (c : Bool) (x : Name) → free_under bs (x ∷ []) ≡ (if is_some (index_of x bs) then [] else x ∷ [])
    → free_under bs (if c then [] else x ∷ []) ≡ (if c || is_some (index_of x bs) then [] else x ∷ [])
one_left bs true x e = free_under-none bs
one_left bs false x e = e

pub free_under-one : (bs : List (Option Name)) (x : Name) → free_under bs (x ∷ []) ≡ (if is_some (index_of x bs) then [] else x ∷ [])
free_under-one [] x = refl
free_under-one (b ∷ bs) x = one_left bs (binds b x) x (free_under-one bs x) ∙ ap (λ c. if c then [] else x ∷ []) (sym (some_indexed (binds b x) (index_of x bs)))

-- one more name

pub letters_of-push : (items : List (Bor (List ℕ))) (y : Bor (List ℕ)) → letters_of (items ++ y ∷ []) ≡ letters_of items ++ y.now ∷ []
letters_of-push [] y = refl
letters_of-push (z ∷ items) y = ap (λ xs. z.now ∷ xs) (letters_of-push items y)

-- each once

-- those of these names that are not among the ones found before
abbrev others : List Name → List Name → List Name
others found [] = []
others found (x ∷ xs) = if is_among x found then others found xs else x ∷ others found xs

others-known : (found : List Name) (x : Name) (zs : List Name) → is_among x found ≡ true → others found (without (Some x) zs) ≡ others found zs
others-known found x [] known = refl
others-known found x (z ∷ zs) known = by (others-known found x zs known) (bytes_eq x z) refl
  where
    by : others found (without (Some x) zs) ≡ others found zs → (c : Bool) → bytes_eq x z ≡ c
        → others found (if c then without (Some x) zs else z ∷ without (Some x) zs) ≡ (if is_among z found then others found zs else z ∷ others found zs)
    by rest true same = rest ∙ ap (λ c. if c then others found zs else z ∷ others found zs) (sym (ap (λ y. is_among y found) (sym ((bytes_eq-Decides x z).0 same)) ∙ known))
    by rest false same = ap (λ ys. if is_among z found then ys else z ∷ ys) rest

among-push : (z x : Name) (found : List Name) → is_among z (found ++ x ∷ []) ≡ is_among z found || bytes_eq x z
among-push z x [] = or-false (bytes_eq x z)
among-push z x (y ∷ found) = ap (λ c. bytes_eq y z || c) (among-push z x found) ∙ sym (or_assoc (bytes_eq y z) (is_among z found) (bytes_eq x z))

others-push : (found : List Name) (x : Name) (zs : List Name) → others (found ++ x ∷ []) zs ≡ others found (without (Some x) zs)
others-push found x [] = refl
others-push found x (z ∷ zs) =
    ap (λ c. if c then others (found ++ x ∷ []) zs else z ∷ others (found ++ x ∷ []) zs) (among-push z x found)
    ∙ ap (λ ys. if is_among z found || bytes_eq x z then ys else z ∷ ys) (others-push found x zs)
    ∙ by (bytes_eq x z)
  where
    by : (c : Bool)
        → (if is_among z found || c then others found (without (Some x) zs) else z ∷ others found (without (Some x) zs)) ≡ others found (if c then without (Some x) zs else z ∷ without (Some x) zs)
    by true = either_way (is_among z found)
      where
        either_way : (c : Bool) → (if c || true then others found (without (Some x) zs) else z ∷ others found (without (Some x) zs)) ≡ others found (without (Some x) zs)
        either_way true = refl
        either_way false = refl
    by false = ap (λ c. if c then others found (without (Some x) zs) else z ∷ others found (without (Some x) zs)) (or-false (is_among z found))

found_others : (found xs : List Name) → found_after found xs ≡ found ++ others found (each_once xs)
found_others found [] = sym (append-nil found)
found_others found (x ∷ xs) = by (found_others found xs) (found_others (found ++ x ∷ []) xs) (is_among x found) refl
  where
    by : found_after found xs ≡ found ++ others found (each_once xs) → found_after (found ++ x ∷ []) xs ≡ (found ++ x ∷ []) ++ others (found ++ x ∷ []) (each_once xs)
        → (c : Bool) → is_among x found ≡ c
        → found_after (if c then found else found ++ x ∷ []) xs ≡ found ++ (if c then others found (without (Some x) (each_once xs)) else x ∷ others found (without (Some x) (each_once xs)))
    by old more true known = old ∙ ap (λ ys. found ++ ys) (sym (others-known found x (each_once xs) known))
    by old more false new = more ∙ append_assoc found (x ∷ []) (others (found ++ x ∷ []) (each_once xs)) ∙ ap (λ ys. found ++ x ∷ ys) (others-push found x (each_once xs))

others-none : (xs : List Name) → others [] xs ≡ xs
others-none [] = refl
others-none (x ∷ xs) = ap (λ ys. x ∷ ys) (others-none xs)

pub found-once : (xs : List Name) → found_after [] xs ≡ each_once xs
found-once xs = found_others [] xs ∙ others-none (each_once xs)

pub ruleset found_names = (letters_of-push)

pub ruleset once = (found-once)

pub ruleset in_types = (type_node_of-Bool, type_node_of-Nat, type_node_of-Unit, type_node_of-Top, type_node_of-Named, type_node_of-Arrow, type_node_of-Record, type_fields_of-drop, found_after-append)

pub ruleset finding = (found_after-append, free_under-append, without-append, type_names-append, append-nil)

pub ruleset in_nodes = (term_node_of-True, term_node_of-False, term_node_of-Unit, term_node_of-Variable, term_node_of-Numeral, term_node_of-Lambda, term_node_of-If, term_node_of-Let, term_node_of-Letrec, term_node_of-Prefixed, term_node_of-Apply, term_node_of-Project, term_node_of-Ascribe, term_node_of-Record, free_under-none)

pub ruleset uses = (free_under-one)

pub ruleset in_fields = (fields_of-drop, free_under-none, finding)

pub ruleset commands = (free_under-none, append-nil)
