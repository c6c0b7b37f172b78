-- How a stack of type names is seen, how a name is sought in it, and the abbreviations that it is over a table.
use Rattle.std.proofs.Common.{◌≡◌, ℕ, ◌+◌, ◌-◌, ◌<◌, ◌≤◌, Bool, true, false, List, [], ◌∷◌, ◌++◌, length, get_or, drop, refl, ap, sym, ◌∙◌, Option, Some, None}
use Rattle.std.specs.Prelude.{if◌then◌else◌}
use Rattle.std.specs.Str.{bytes_eq}
use Rattle.lam_rules.specs.Types.{Typ}
use Rattle.lam_rules.specs.Numbers.{Keeps}
use Rattle.lam_rules.specs.declared.numbers.TyNo.{TyNo}
use Rattle.lam_scope.specs.declared.type_names.TypeName.{TypeName}
use Rattle.lam_scope.specs.Names.{Name}
use Rattle.lam_scope.specs.Expansions.{stands_for, meaning, is_bound}
use Rattle.lam_scope.specs.Numbered.{written_over, StandsIfAny}
use Rattle.lam_scope.specs.NumberedNames.{NumberedName, numbered_name_of, numbered_names_of, number_named, abbreviations_over, TypeIdsStand}
use Rattle.lam_scope.specs.inner.Interned.{number_of_named, is_named}
use Rattle.lam_scope.proofs.InternedTerms.{kept_written}
use Rattle.lam_scope.proofs.StackViews.{stacked-push, stacked-drop, stacked-drop_all}

pub numbered_names_of-push : (stack : List TypeName) (t : TypeName) → numbered_names_of (stack ++ t ∷ []) ≡ numbered_name_of t ∷ numbered_names_of stack
numbered_names_of-push stack t = stacked-push numbered_name_of [] stack t

pub ruleset type_names = (numbered_names_of-push)

-- a name is sought from the end of the stack

sought_in : (x : Name) (stack : List TypeName) (n : ℕ) (t : TypeName) → n < length stack → ((d : TypeName) → t ≡ get_or stack (length stack - 1 - n) d)
    → number_named x (drop n (numbered_names_of stack)) ≡ (if bytes_eq t.name.now x then Some t.number else number_named x (drop (n + 1) (numbered_names_of stack)))
sought_in x stack n t lt is = ap (number_named x) (stacked-drop numbered_name_of stack n t lt is)

pub sought_here : (x : Name) (stack : List TypeName) (n : ℕ) (t : TypeName) → n < length stack → ((d : TypeName) → t ≡ get_or stack (length stack - 1 - n) d)
    → bytes_eq t.name.now x ≡ true → number_named x (drop n (numbered_names_of stack)) ≡ Some t.number
sought_here x stack n t lt is same = sought_in x stack n t lt is ∙ ap (λ b. if b then Some t.number else number_named x (drop (n + 1) (numbered_names_of stack))) same

pub sought_further : (x : Name) (stack : List TypeName) (n : ℕ) (t : TypeName) → n < length stack → ((d : TypeName) → t ≡ get_or stack (length stack - 1 - n) d)
    → bytes_eq t.name.now x ≡ false → number_named x (drop n (numbered_names_of stack)) ≡ number_named x (drop (n + 1) (numbered_names_of stack))
sought_further x stack n t lt is other = sought_in x stack n t lt is ∙ ap (λ b. if b then Some t.number else number_named x (drop (n + 1) (numbered_names_of stack))) other

pub sought_in_vain : (x : Name) (stack : List TypeName) (n : ℕ) → length stack ≤ n → number_named x (drop n (numbered_names_of stack)) ≡ None
sought_in_vain x stack n le = ap (number_named x) (stacked-drop_all numbered_name_of stack n le)

-- the abbreviations over a table

either_number : (ts : List Typ) (b : Bool) (w : Option TyNo) (o : Option (Option TyNo))
    → written_over ts (number_of_named (if b then Some w else o)) ≡ (if b then written_over ts w else written_over ts (number_of_named o))
either_number ts true w o = refl
either_number ts false w o = refl

either_named : (b : Bool) (w : Option TyNo) (o : Option (Option TyNo)) → is_named (if b then Some w else o) ≡ (if b then true else is_named o)
either_named true w o = refl
either_named false w o = refl

either_stands : (ts : List Typ) (b : Bool) (w : Option TyNo) (o : Option (Option TyNo)) → StandsIfAny ts w → StandsIfAny ts (number_of_named o)
    → StandsIfAny ts (number_of_named (if b then Some w else o))
either_stands ts true w o h k = h
either_stands ts false w o h k = k

pub meaning_over : (ts : List Typ) (x : Name) (names : List NumberedName) → meaning x (abbreviations_over ts names) ≡ written_over ts (number_of_named (number_named x names))
meaning_over ts x [] = refl
meaning_over ts x (t ∷ names) =
    ap (λ o. if bytes_eq t.name x then written_over ts t.number else o) (meaning_over ts x names) ∙ sym (either_number ts (bytes_eq t.name x) t.number (number_named x names))

pub is_bound_over : (ts : List Typ) (x : Name) (names : List NumberedName) → is_bound x (abbreviations_over ts names) ≡ is_named (number_named x names)
is_bound_over ts x [] = refl
is_bound_over ts x (t ∷ names) = ap (λ b. if bytes_eq t.name x then true else b) (is_bound_over ts x names) ∙ sym (either_named (bytes_eq t.name x) t.number (number_named x names))

pub named_stands : (ts : List Typ) (x : Name) (names : List NumberedName) → TypeIdsStand ts names → StandsIfAny ts (number_of_named (number_named x names))
named_stands ts x [] h = tt
named_stands ts x (t ∷ names) h = either_stands ts (bytes_eq t.name x) t.number (number_named x names) h.0 (named_stands ts x names h.1)

pub kept_names : (old now : List Typ) (names : List NumberedName) → Keeps old now → TypeIdsStand old names → (abbreviations_over now names ≡ abbreviations_over old names) × TypeIdsStand now names
kept_names old now [] k h = (refl, tt)
kept_names old now (t ∷ names) k h =
    let one = kept_written old now t.number k h.0 in
    let all = kept_names old now names k h.1 in
    ((λ i. stands_for t.name (one.0 i) ∷ all.0 i), (one.1, all.1))
