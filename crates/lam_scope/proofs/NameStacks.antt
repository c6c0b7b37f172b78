-- How a stack of names and its index are kept.
use Rattle.std.proofs.Common.{◌≡◌, ℕ, ◌+◌, ◌-◌, ◌<◌, arith, subst, Bool, true, false, List, [], ◌∷◌, ◌++◌, length, suc, refl, ap, sym, ◌∙◌, Option, Some, None, Bor}
use Rattle.std.specs.Prelude.{if◌then◌else◌, cond, IsSome}
use Rattle.std.specs.Option.{option_map, option_to_list}
use Rattle.std.specs.Map.{lookup}
use Rattle.std.specs.HashMap.{get_by, UpdatesBy}
use Rattle.std.proofs.lemmas.Map.Text.{hash_map_updates_str}
use Rattle.std.specs.Str.{bytes_eq}
use Rattle.std.proofs.lemmas.Slice.Eq.{bytes_eq-Decides}
use Rattle.lam_scope.specs.declared.names.Named.{Named}
use Rattle.lam_scope.specs.Names.{Name, binds, index_of}
use Rattle.lam_scope.specs.Stacks.{stacked, outside}
use Rattle.lam_scope.proofs.StackViews.{stacked-push, stacked-popped}
use Rattle.lam_scope.specs.inner.NameStacks.{name_in, names_of, Standing, nowhere, with_binder, standing_on, standing, at_name, reset, AreShadowed, NameIndex, flattened, found_in, IsNameStack}

-- one more binder on top

pub names_of-push : (stack : List Named) (b : Named) → names_of (stack ++ b ∷ []) ≡ name_in b ∷ names_of stack
names_of-push stack b = stacked-push name_in [] stack b

standing-push : (f : Standing) (n m : ℕ) (stack : List Named) (b : Named) (x : Name) → m ≡ n + length stack
    → standing_on f n (stack ++ b ∷ []) x ≡ with_binder (name_in b) m (standing_on f n stack) x
standing-push f n m [] b x e = let here : n ≡ m = omega arith in ap (λ k. with_binder (name_in b) k f x) here
standing-push f n m (c ∷ stack) b x e = standing-push (with_binder (name_in c) n f) (n + 1) m stack b x (omega arith)

shadowed-push : (f : Standing) (n : ℕ) (stack : List Named) (b : Named) → AreShadowed f n stack → b.shadowed ≡ at_name (standing_on f n stack) (name_in b)
    → AreShadowed f n (stack ++ b ∷ [])
shadowed-push f n [] b h e = (e, tt)
shadowed-push f n (c ∷ stack) b h e = (h.0, shadowed-push (with_binder (name_in c) n f) (n + 1) stack b h.1 e)

same_name : (f g : Standing) (o : Option Name) → ((x : Name) → f x ≡ g x) → at_name f o ≡ at_name g o
same_name f g None same = refl
same_name f g (Some x) same = same x

with_same : (f g : Standing) (o : Option Name) (n : ℕ) (x : Name) → f x ≡ g x → with_binder o n f x ≡ with_binder o n g x
with_same f g o n x same = ap (λ p. if binds o x then Some n else p) same

pub stack_pushed : (stack more : List Named) (before after : NameIndex) (b : Named) (n : ℕ) → IsNameStack stack before → more ≡ stack ++ b ∷ [] → n ≡ length stack
    → b.shadowed ≡ at_name (found_in before) (name_in b) → ((x : Name) → found_in after x ≡ with_binder (name_in b) n (found_in before) x)
    → IsNameStack more after
stack_pushed stack more before after b n is pushed last shadowed set =
    let whole : IsNameStack (stack ++ b ∷ []) after = record {
      shadowed = shadowed-push nowhere 0 stack b is.shadowed (shadowed ∙ same_name (found_in before) (standing stack) (name_in b) is.found);
      found = λ x. set x ∙ with_same (found_in before) (standing stack) (name_in b) n x (is.found x) ∙ sym (standing-push nowhere 0 n stack b x (omega arith));
    } in
    subst (λ s. IsNameStack s after) (sym pushed) whole

set_by : (b : Bool) (i : ℕ) (o : Option (Option ℕ)) → flattened (cond b (Some (Some i)) o) ≡ (if b then Some i else flattened o)
set_by true i o = refl
set_by false i o = refl

pub innermost_set : (bs : List ℕ) (m n : NameIndex) (i : ℕ) → UpdatesBy (λ x y. bytes_eq x.now y.now) (λ k. bytes_eq bs k.now) m n (Some (Some i))
    → (x : Name) → found_in n x ≡ with_binder (Some bs) i (found_in m) x
innermost_set bs m n i updates x =
    ap flattened (hash_map_updates_str bs m n (Some (Some i)) updates x) ∙ set_by (bytes_eq bs x) i (get_by (λ k. bytes_eq x k.now) m)

-- one binder less

shadowed-front : (f : Standing) (n : ℕ) (stack : List Named) (b : Named) → AreShadowed f n (stack ++ b ∷ []) → AreShadowed f n stack
shadowed-front f n [] b h = tt
shadowed-front f n (c ∷ stack) b h = (h.0, shadowed-front (with_binder (name_in c) n f) (n + 1) stack b h.1)

shadowed-last : (f : Standing) (n : ℕ) (stack : List Named) (b : Named) → AreShadowed f n (stack ++ b ∷ []) → b.shadowed ≡ at_name (standing_on f n stack) (name_in b)
shadowed-last f n [] b h = h.0
shadowed-last f n (c ∷ stack) b h = shadowed-last (with_binder (name_in c) n f) (n + 1) stack b h.1

reset_back : (o : Option Name) (n : ℕ) (before : Option ℕ) (f : Standing) (x : Name) → before ≡ at_name f o → reset o before (with_binder o n f) x ≡ f x
reset_back None n before f x e = refl
reset_back (Some y) n before f x e = by (bytes_eq y x) refl
  where
    by : (b : Bool) → bytes_eq y x ≡ b → (if b then before else (if b then Some n else f x)) ≡ f x
    by true same = e ∙ ap f ((bytes_eq-Decides y x).0 same)
    by false same = refl

reset_same : (o : Option Name) (before : Option ℕ) (f g : Standing) (x : Name) → f x ≡ g x → reset o before f x ≡ reset o before g x
reset_same o before f g x same = ap (λ p. if binds o x then before else p) same

pub stack_popped : (stack more : List Named) (before after : NameIndex) (b : Named) → IsNameStack more before → more ≡ stack ++ b ∷ []
    → ((x : Name) → found_in after x ≡ reset (name_in b) b.shadowed (found_in before) x) → IsNameStack stack after
stack_popped stack more before after b is pushed set =
    let whole : IsNameStack (stack ++ b ∷ []) before = subst (λ s. IsNameStack s before) pushed is in
    record {
      shadowed = shadowed-front nowhere 0 stack b whole.shadowed;
      found = λ x.
          set x
          ∙ reset_same (name_in b) b.shadowed (found_in before) (with_binder (name_in b) (length stack) (standing stack)) x
          (whole.found x ∙ standing-push nowhere 0 (length stack) stack b x (omega arith))
          ∙ reset_back (name_in b) (length stack) b.shadowed (standing stack) x (shadowed-last nowhere 0 stack b whole.shadowed);
    }

reset_by : (b : Bool) (p : Option ℕ) (o : Option (Option ℕ)) → flattened (cond b (Some p) o) ≡ (if b then p else flattened o)
reset_by true p o = refl
reset_by false p o = refl

pub innermost_reset : (bs : List ℕ) (m n : NameIndex) (p : Option ℕ) → UpdatesBy (λ x y. bytes_eq x.now y.now) (λ k. bytes_eq bs k.now) m n (Some p)
    → (x : Name) → found_in n x ≡ reset (Some bs) p (found_in m) x
innermost_reset bs m n p updates x =
    ap flattened (hash_map_updates_str bs m n (Some p) updates x) ∙ reset_by (bytes_eq bs x) p (get_by (λ k. bytes_eq x k.now) m)

found_on_top : (o : Option Name) (n : ℕ) (f : Standing) (x : Name) → o ≡ Some x → with_binder o n f x ≡ Some n
found_on_top o n f x is = ap (λ p. with_binder p n f x) is ∙ ap (λ v. if v then Some n else f x) ((bytes_eq-Decides x x).1 refl)

pub top_is_found : (stack more : List Named) (before : NameIndex) (b : Named) (x : Name) → IsNameStack more before → more ≡ stack ++ b ∷ [] → name_in b ≡ Some x
    → found_in before x ≡ Some (length stack)
top_is_found stack more before b x is pushed name =
    is.found x ∙ ap (λ s. standing s x) pushed ∙ standing-push nowhere 0 (length stack) stack b x (omega arith) ∙ found_on_top (name_in b) (length stack) (standing stack) x name

pub names_popped : (stack more : List Named) (b : Named) → more ≡ stack ++ b ∷ [] → names_of stack ≡ outside (names_of more)
names_popped stack more b pushed = stacked-popped name_in stack more b pushed

-- what was popped
pub top_popped : (stack more : List Named) (o : Option Named) (b : Named) → more ≡ stack ++ option_to_list o → o ≡ Some b → more ≡ stack ++ b ∷ []
top_popped stack more o b e is = e ∙ ap (λ p. stack ++ option_to_list p) is

pub named_popped : (stack more : List Named) (before after : NameIndex) (b : Named) (x : Bor (List ℕ)) → IsNameStack more before → more ≡ stack ++ b ∷ [] → b.name ≡ Some x
    → ((y : Name) → found_in after y ≡ reset (Some x.now) b.shadowed (found_in before) y) → IsNameStack stack after
named_popped stack more before after b x is pushed name set =
    stack_popped stack more before after b is pushed (λ y. set y ∙ ap (λ o. reset (option_map (λ z. z.now) o) b.shadowed (found_in before) y) (sym name))

pub unnamed_popped : (stack more : List Named) (index : NameIndex) (b : Named) → IsNameStack more index → more ≡ stack ++ b ∷ [] → b.name ≡ None → IsNameStack stack index
unnamed_popped stack more index b is pushed none =
    stack_popped stack more index index b is pushed (λ y. ap (λ o. reset (option_map (λ z. z.now) o) b.shadowed (found_in index) y) (sym none))

pub some_is_found : (stack more : List Named) (before : NameIndex) (b : Named) (x : Bor (List ℕ)) → IsNameStack more before → more ≡ stack ++ b ∷ [] → b.name ≡ Some x
    → IsSome (found_in before x.now)
some_is_found stack more before b x is pushed name =
    subst IsSome (sym (top_is_found stack more before b x.now is pushed (ap (option_map (λ z. z.now)) name))) refl

-- the index of a use

abbrev IsWithin : ℕ → Option ℕ → Type 0
IsWithin n None = Unit {0}
IsWithin n (Some i) = i < n

abbrev pub indexed : ℕ → Option ℕ → Option ℕ
indexed n None = None
indexed n (Some i) = Some (n - 1 - i)

within_more : (v : Bool) (n : ℕ) (o : Option ℕ) → IsWithin n o → IsWithin (n + 1) (if v then Some n else o)
within_more true n o h = omega arith
within_more false n None h = tt
within_more false n (Some i) h = omega arith

indexed_more : (v : Bool) (n : ℕ) (o p : Option ℕ) → IsWithin n o → p ≡ indexed n o → (if v then Some 0 else option_map suc p) ≡ indexed (n + 1) (if v then Some n else o)
indexed_more true n o p h e = ap (λ k. Some k) (omega arith)
indexed_more false n None p h e = ap (option_map suc) e
indexed_more false n (Some i) p h e = ap (option_map suc) e ∙ ap (λ k. Some k) (omega arith)

index_on : (x : Name) (n : ℕ) (bs : List (Option Name)) (f : Standing) (stack : List Named) → IsWithin n (f x) → index_of x bs ≡ indexed n (f x)
    → index_of x (stacked name_in bs stack) ≡ indexed (n + length stack) (standing_on f n stack x)
index_on x n bs f [] h e = let same : n ≡ n + length {A = Named} [] = omega arith in e ∙ ap (λ k. indexed k (f x)) same
index_on x n bs f (b ∷ stack) h e =
    let same : n + 1 + length stack ≡ n + length (b ∷ stack) = omega arith in
    index_on x (n + 1) (name_in b ∷ bs) (with_binder (name_in b) n f) stack (within_more (binds (name_in b) x) n (f x) h) (indexed_more (binds (name_in b) x) n (f x) (index_of x bs) h e)
    ∙ ap (λ k. indexed k (standing_on (with_binder (name_in b) n f) (n + 1) stack x)) same

pub index_standing : (stack : List Named) (index : NameIndex) (x : Name) → IsNameStack stack index → index_of x (names_of stack) ≡ indexed (length stack) (found_in index x)
index_standing stack index x is =
    let same : 0 + length stack ≡ length stack = omega arith in
    index_on x 0 [] nowhere stack tt refl ∙ (λ i. indexed (same i) (sym (is.found x) i))

within_on : (x : Name) (n : ℕ) (f : Standing) (stack : List Named) → IsWithin n (f x) → IsWithin (n + length stack) (standing_on f n stack x)
within_on x n f [] h = let same : n ≡ n + length {A = Named} [] = omega arith in subst (λ k. IsWithin k (f x)) same h
within_on x n f (b ∷ stack) h =
    let same : n + 1 + length stack ≡ n + length (b ∷ stack) = omega arith in
    subst (λ k. IsWithin k (standing_on (with_binder (name_in b) n f) (n + 1) stack x)) same
    (within_on x (n + 1) (with_binder (name_in b) n f) stack (within_more (binds (name_in b) x) n (f x) h))

pub found_within : (stack : List Named) (index : NameIndex) (x : Name) (i : ℕ) → IsNameStack stack index → found_in index x ≡ Some i → i < length stack
found_within stack index x i is found =
    let within : IsWithin (0 + length stack) (Some i) = subst (IsWithin (0 + length stack)) (sym (is.found x) ∙ found) (within_on x 0 nowhere stack tt) in
    omega arith

pub empty_stack : (index : NameIndex) → index.entries ≡ [] → IsNameStack [] index
empty_stack index none = record { shadowed = tt; found = λ x. ap (λ es. flattened (lookup (λ k. bytes_eq x k.now) es)) none }

pub ruleset name_stacks = (names_of-push, empty_stack)
