-- The entries that a context lists, held against the least ones of the binders that a term sees: they fit if each is above the least one.
use Rattle.std.proofs.Common.{◌≡◌, ◌↔◌, ℕ, zero, suc, ◌+◌, ◌<◌, ◌≤◌, ◌⊎◌, inl, inr, List, [], ◌∷◌, ◌++◌, length, get_or, map, take, reverse, Option, Some, None, MatchOption, refl, sym, ap, subst, ◌∙◌, arith, append_assoc, append-nil}
use Rattle.std.specs.List.{AllZip}
use Rattle.std.proofs.lemmas.List.{reverse-append, reverse-reverse, length-reverse, length-map, take_more, take_all, take-map, map-append, get_or-map}
use Rattle.lam_rules.specs.Types.{Typ}
use Rattle.lam_rules.specs.Terms.{Term}
use Rattle.lam_rules.specs.Subtyping.{IsBelow, ProvesBelow}
use Rattle.lam_rules.specs.Typing.{Context, typing_step, typing_first, no_typings, HasType}
use Rattle.lam_rules.specs.declared.rules.Dialect.{Dialect}
use Rattle.lam_rules.specs.declared.rules.TypeRule.{TypeRule}
use Rattle.lam_rules.proofs.ByShape.{below_wf}
use Rattle.lam_syntax.specs.Trees.{CommandTree}
use Rattle.lam_scope.specs.Bindings.{IsOriginOf, AreOriginsOf}
use Rattle.lam_scope.specs.Names.{shown_name}
use Rattle.lam_scope.specs.Places.{Binding, written, of_term, Scope, Place, Statement, places_of, place_numbered}
use Rattle.lam_scope.specs.PlacedTerms.{document_terms, term_of, tree_in}
use Rattle.lam_scope.specs.Sights.{Sight, sight_numbered}
use Rattle.lam_scope.specs.Tables.{TextBinder, table, binder_numbered, visible_at}
use Rattle.lam_scope.specs.Views.{table_of, origins_of}
use Rattle.lam_scope.specs.declared.numbers.Origin.{Origin}
use Rattle.lam_scope.specs.declared.numbers.Origin.TheVariants.{Lambda, Term as TermAt, Declaration, TypeName}
use Rattle.lam_scope.proofs.PlacedPlaces.{same_places}
use Rattle.lam_scope.proofs.Reading.{map-reverse}
use Rattle.lam_scope.proofs.ScopeBindings.{sight_origins}
use Rattle.lam_scope.proofs.SeenOrigins.{visible_origins}
use Rattle.lam_scope.proofs.WellFormedForms.{document-wf}
use Rattle.lam_typing.specs.Analysis.{AreLeast}
use Rattle.lam_typing.specs.Contexts.{Fits, IsContext}
use Rattle.lam_typing.specs.Entries.{entry_from}
use Rattle.lam_typing.specs.LeastTypes.{IsLeastEntry, AreLeastEntries}
use Rattle.lam_typing.specs.Typings.{found_of, entries_in}
use Rattle.lam_typing.specs.inner.Notes.{notes_of}
use Rattle.lam_typing.specs.declared.typing.Typing.{Typing}
use Rattle.lam_typing.proofs.Sighted.{place_seen}
use Rattle.lam_typing.proofs.Together.{least_length}
use Rattle.lam_query.specs.WellTypedDocuments.{statements_in}
use Rattle.lam_query.proofs.RowsAndTerms.{number_told}
use Rattle.lam_query.proofs.Small.{least_at}
use Rattle.lam_query.proofs.Verifying.{as_long, names_there}
use Rattle.lam_query.specs.Derivations.{Derivation}
use Rattle.lam_query.specs.FirstFaults.{IsFirstUnfitEntry}
use Rattle.lam_query.specs.Verified.{HasContext, HasNames, entries_listed}
use Rattle.lam_typing.specs.Fitting.{FitsAt, FitsFound}
use Rattle.lam_query.specs.declared.verify.TypedText.{TypedText}
use Rattle.lam_query.specs.inner.Verifying.{IsFirstNot, IsTextOf}

-- ---- the types of one term

-- by subsumption a term has each type above one of its types
widened : (g : Context) (e : Term) (s t : Typ) (d : Dialect) → HasType g e s d → IsBelow s t d → HasType g e t d
widened g e s t d (typing_step r u ps q, (typing, is)) below = (
  typing_step TypeRule.Sub t (typing_first (typing_step r u ps q) no_typings) (Some below.0),
  ((typing.0, (below_wf s t d below).1, (typing, subst (λ z. ProvesBelow below.0 z t d) (sym is) below.1)), refl),
)

-- an entry fits by the least one found exactly if it fits
fits_found : (ss : List Statement) (o : Origin) (b : Binding) (outside : Scope) (found entry : Option Typ) (d : Dialect)
    → IsOriginOf ss o b outside → IsLeastEntry outside b found d → (FitsFound o found entry d ↔ Fits b (λ h. IsContext outside h d) entry d)
fits_found ss (Lambda p) (written w) outside found entry d origin least = (λ is. is ∙ least, λ is. is ∙ sym least)
fits_found ss (Declaration i) (written w) outside found entry d origin least = (λ is. is ∙ least, λ is. is ∙ sym least)
fits_found ss (TermAt p) (of_term e) outside (Some t) (Some u) d origin least = (
  λ below. (least.0.0, least.0.1, widened least.0.0 e t u d least.0.2 below),
  λ fits. least.1 u fits,
)
fits_found ss (TermAt p) (of_term e) outside (Some t) None d origin least = (λ no_way. absurd no_way, λ none. none least.0.0 t least.0.1 least.0.2)
fits_found ss (TermAt p) (of_term e) outside None (Some u) d origin least =
    (λ is. (let clash : Some u ≡ None = is in absurd cc), λ fits. absurd (least u fits))
fits_found ss (TermAt p) (of_term e) outside None None d origin least = (λ is g t is_context has. least t (g, is_context, has), λ none. refl)
fits_found ss (Lambda p) (of_term e) outside found entry d origin least = absurd origin
fits_found ss (Declaration i) (of_term e) outside found entry d origin least = absurd origin
fits_found ss (TermAt p) (written w) outside found entry d origin least = absurd origin
fits_found ss TypeName (written w) outside found entry d origin least = absurd origin
fits_found ss TypeName (of_term e) outside found entry d origin least = absurd origin

-- entries that fit by those found of each binder of a scope are a context of it
each_fits : (ss : List Statement) (f : Origin → Option Typ) (sight : Sight) (s : Scope) (g : Context) (d : Dialect) → AreOriginsOf ss sight s → AreLeastEntries s (map f sight) d
    → AllZip (λ o entry. FitsFound o (f o) entry d) sight g → IsContext s g d
each_fits ss f [] [] [] d origins least h = tt
each_fits ss f [] [] (entry ∷ g) d origins least h = absurd h
each_fits ss f (o ∷ sight) (b ∷ s) [] d origins least h = absurd h
each_fits ss f (o ∷ sight) (b ∷ s) (entry ∷ g) d origins least h =
    ((fits_found ss o b s (f o) entry d origins.0 least.0).0 h.0, each_fits ss f sight s g d origins.1 least.1 h.1)
each_fits ss f [] (b ∷ s) g d origins least h = absurd origins
each_fits ss f (o ∷ sight) [] g d origins least h = absurd origins

-- ---- two lists, element by element

pushed : {A B : Type 0} (R : A → B → Type 0) (xs : List A) (ys : List B) (x : A) (y : B) → AllZip R xs ys → R x y → AllZip R (xs ++ x ∷ []) (ys ++ y ∷ [])
pushed R [] [] x y h last = (last, tt)
pushed R (a ∷ xs) (b ∷ ys) x y h last = (h.0, pushed R xs ys x y h.1 last)
pushed R [] (b ∷ ys) x y h last = absurd h
pushed R (a ∷ xs) [] x y h last = absurd h

reversed : {A B : Type 0} (R : A → B → Type 0) (xs : List A) (ys : List B) → AllZip R xs ys → AllZip R (reverse xs) (reverse ys)
reversed R [] [] h = tt
reversed R (x ∷ xs) (y ∷ ys) h =
    subst (λ l. AllZip R l (reverse (y ∷ ys))) (sym (reverse-append (x ∷ []) xs))
    (subst (λ l. AllZip R (reverse xs ++ x ∷ []) l) (sym (reverse-append (y ∷ []) ys)) (pushed R (reverse xs) (reverse ys) x y (reversed R xs ys h.1) h.0))
reversed R [] (y ∷ ys) h = absurd h
reversed R (x ∷ xs) [] h = absurd h

-- lists that are compared one by one
pub zip_front : {A B C D : Type 0} (R : C → D → Type 0) (f : A → C) (g : B → D) (xs : List A) (ys : List B) (i : ℕ) (x : A) (y : B) → i < length xs → i < length ys
    → y ≡ get_or ys i y → R (f (get_or xs i x)) (g y) → AllZip R (map f (take i xs)) (map g (take i ys)) → AllZip R (map f (take (i + 1) xs)) (map g (take (i + 1) ys))
zip_front R f g xs ys i x y inside within at here so_far =
    let left : map f (take (i + 1) xs) ≡ map f (take i xs) ++ f (get_or xs i x) ∷ [] = ap (map f) (take_more xs i x inside) ∙ map-append f (take i xs) (get_or xs i x ∷ []) in
    let right : map g (take (i + 1) ys) ≡ map g (take i ys) ++ g y ∷ [] =
    ap (map g) (take_more ys i y within) ∙ map-append g (take i ys) (get_or ys i y ∷ []) ∙ ap (λ b. map g (take i ys) ++ g b ∷ []) (sym at) in
    subst (λ l. AllZip R l (map g (take (i + 1) ys))) (sym left)
    (subst (λ l. AllZip R (map f (take i xs) ++ f (get_or xs i x) ∷ []) l) (sym right) (pushed R (map f (take i xs)) (map g (take i ys)) (f (get_or xs i x)) (g y) so_far here))

pub zip_all : {A B C D : Type 0} (R : C → D → Type 0) (f : A → C) (g : B → D) (xs : List A) (ys : List B) (i : ℕ) → length xs ≤ i → length ys ≤ i
    → AllZip R (map f (take i xs)) (map g (take i ys)) → AllZip R (map f xs) (map g ys)
zip_all R f g xs ys i past beyond h =
    subst (λ l. AllZip R (map f xs) (map g l)) (take_all i ys beyond) (subst (λ l. AllZip R (map f l) (map g (take i ys))) (take_all i xs past) h)

-- along a map, where one relation leads to the other
mapped : {A B C : Type 0} (R : A → C → Type 0) (Q : B → C → Type 0) (f : A → B) (xs : List A) (ys : List C) → ((x : A) (y : C) → R x y → Q (f x) y) → AllZip R xs ys → AllZip Q (map f xs) ys
mapped R Q f [] [] each h = tt
mapped R Q f (x ∷ xs) (y ∷ ys) each h = (each x y h.0, mapped R Q f xs ys each h.1)
mapped R Q f [] (y ∷ ys) each h = absurd h
mapped R Q f (x ∷ xs) [] each h = absurd h

-- ---- the first that is not

-- the outermost of two lists, both innermost first, for which the relation does not hold has this index from the outside
abbrev FirstWrong : {A B : Type 0} → (A → B → Type 0) → List A → List B → ℕ → Type 0
FirstWrong R [] ys n = ⊥
FirstWrong R (x ∷ xs) [] n = ⊥
FirstWrong R (x ∷ xs) (y ∷ ys) n = FirstWrong R xs ys n ⊎ (AllZip R xs ys × (R x y → ⊥) × (n ≡ length xs))

further_in : {A B : Type 0} (R : A → B → Type 0) (ps : List A) (qs : List B) (xs : List A) (ys : List B) (n : ℕ) → length ps ≡ length qs → FirstWrong R xs ys n → FirstWrong R (ps ++ xs) (qs ++ ys) n
further_in R [] [] xs ys n long h = h
further_in R (p ∷ ps) (q ∷ qs) xs ys n long h = inl (further_in R ps qs xs ys n (omega arith) h)
further_in R [] (q ∷ qs) xs ys n long h = absurd (omega arith)
further_in R (p ∷ ps) [] xs ys n long h = absurd (omega arith)

-- the first one of two lists that are outermost first, behind others for which the relation holds, further on by their number
outward : {A B : Type 0} (R : A → B → Type 0) (us : List A) (vs : List B) (xs : List A) (ys : List B) (n : ℕ) → AllZip R us vs → AllZip R (take n xs) (take n ys) → length xs ≡ length ys → n < length xs
    → ((x : A) (y : B) → R (get_or xs n x) (get_or ys n y) → ⊥) → FirstWrong R (reverse xs ++ us) (reverse ys ++ vs) (n + length us)
outward R us vs [] ys n so_far before long inside not_there = absurd (omega arith)
outward R us vs (x ∷ xs) [] n so_far before long inside not_there = absurd (omega arith)
outward R us vs (x ∷ xs) (y ∷ ys) zero so_far before long inside not_there =
    let left : reverse (x ∷ xs) ++ us ≡ reverse xs ++ (x ∷ us) = ap (λ l. l ++ us) (reverse-append (x ∷ []) xs) ∙ append_assoc (reverse xs) (x ∷ []) us in
    let right : reverse (y ∷ ys) ++ vs ≡ reverse ys ++ (y ∷ vs) = ap (λ l. l ++ vs) (reverse-append (y ∷ []) ys) ∙ append_assoc (reverse ys) (y ∷ []) vs in
    let a = length-reverse xs in
    let b = length-reverse ys in
    let none : 0 + length us ≡ length us = omega arith in
    subst (λ l. FirstWrong R l (reverse (y ∷ ys) ++ vs) (0 + length us)) (sym left)
    (subst (λ l. FirstWrong R (reverse xs ++ (x ∷ us)) l (0 + length us)) (sym right)
    (further_in R (reverse xs) (reverse ys) (x ∷ us) (y ∷ vs) (0 + length us) (omega arith) (inr (so_far, not_there x y, none))))
outward R us vs (x ∷ xs) (y ∷ ys) (suc n) so_far before long inside not_there =
    let left : reverse (x ∷ xs) ++ us ≡ reverse xs ++ (x ∷ us) = ap (λ l. l ++ us) (reverse-append (x ∷ []) xs) ∙ append_assoc (reverse xs) (x ∷ []) us in
    let right : reverse (y ∷ ys) ++ vs ≡ reverse ys ++ (y ∷ vs) = ap (λ l. l ++ vs) (reverse-append (y ∷ []) ys) ∙ append_assoc (reverse ys) (y ∷ []) vs in
    let far : n + suc (length us) ≡ suc n + length us = omega arith in
    subst (λ l. FirstWrong R l (reverse (y ∷ ys) ++ vs) (suc n + length us)) (sym left)
    (subst (λ l. FirstWrong R (reverse xs ++ (x ∷ us)) l (suc n + length us)) (sym right)
    (subst (FirstWrong R (reverse xs ++ (x ∷ us)) (reverse ys ++ (y ∷ vs))) far
    (outward R (x ∷ us) (y ∷ vs) xs ys n (before.0, so_far) before.1 (omega arith) (omega arith) not_there)))

turned : {A B : Type 0} (R : A → B → Type 0) (xs : List A) (ys : List B) (n : ℕ) → length xs ≡ length ys → IsFirstNot R xs ys n → FirstWrong R (reverse xs) (reverse ys) n
turned R xs ys n long h =
    let none : n + 0 ≡ n = omega arith in
    subst (FirstWrong R (reverse xs) (reverse ys)) none
    (subst (λ l. FirstWrong R (reverse xs) l (n + 0)) (append-nil (reverse ys))
    (subst (λ l. FirstWrong R l (reverse ys ++ []) (n + 0)) (append-nil (reverse xs)) (outward R [] [] xs ys n tt h.before long h.inside h.not_there)))

mapped_wrong : {A B C : Type 0} (R : A → C → Type 0) (Q : B → C → Type 0) (f : A → B) (xs : List A) (ys : List C) (n : ℕ) → ((x : A) (y : C) → R x y → Q (f x) y) → ((x : A) (y : C) → Q (f x) y → R x y)
    → FirstWrong R xs ys n → FirstWrong Q (map f xs) ys n
mapped_wrong R Q f [] ys n there back h = absurd h
mapped_wrong R Q f (x ∷ xs) [] n there back h = absurd h
mapped_wrong R Q f (x ∷ xs) (y ∷ ys) n there back (inl h) = inl (mapped_wrong R Q f xs ys n there back h)
mapped_wrong R Q f (x ∷ xs) (y ∷ ys) n there back (inr h) = inr (mapped R Q f xs ys there h.0, (λ q. h.1 (back x y q)), h.2 ∙ sym (length-map xs f))

origins_long : (ss : List Statement) (sight : Sight) (s : Scope) → AreOriginsOf ss sight s → length sight ≡ length s
origins_long ss [] [] h = refl
origins_long ss (o ∷ sight) (b ∷ s) h = ap suc (origins_long ss sight s h.1)
origins_long ss [] (b ∷ s) h = absurd h
origins_long ss (o ∷ sight) [] h = absurd h

-- the first entry that does not fit by the one found is the first that does not fit
first_unfit : (ss : List Statement) (f : Origin → Option Typ) (sight : Sight) (s : Scope) (g : Context) (d : Dialect) (n : ℕ) → AreOriginsOf ss sight s → AreLeastEntries s (map f sight) d
    → FirstWrong (λ o entry. FitsFound o (f o) entry d) sight g n → IsFirstUnfitEntry s g d n
first_unfit ss f [] s g d n origins least h = absurd h
first_unfit ss f (o ∷ sight) s [] d n origins least h = absurd h
first_unfit ss f (o ∷ sight) [] (entry ∷ g) d n origins least h = absurd origins
first_unfit ss f (o ∷ sight) (b ∷ s) (entry ∷ g) d n origins least (inl h) = inl (first_unfit ss f sight s g d n origins.1 least.1 h)
first_unfit ss f (o ∷ sight) (b ∷ s) (entry ∷ g) d n origins least (inr h) =
    let one = fits_found ss o b s (f o) entry d origins.0 least.0 in
    inr (each_fits ss f sight s g d origins.1 least.1 h.0, (λ is. h.1 (one.1 is)), h.2 ∙ origins_long ss sight s origins.1)

pub unfit_no_context : {A : Type 0} (s : Scope) (g : Context) (d : Dialect) (n : ℕ) → IsFirstUnfitEntry s g d n → IsContext s g d → A
unfit_no_context [] g d n h context = absurd h
unfit_no_context (b ∷ s) [] d n h context = absurd h
unfit_no_context (b ∷ s) (entry ∷ g) d n (inl h) context = unfit_no_context s g d n h context.1
unfit_no_context (b ∷ s) (entry ∷ g) d n (inr h) context = absurd (h.1 context.0)

-- ---- what is wrong

pub first_not : {A B C D : Type 0} (R : C → D → Type 0) (f : A → C) (g : B → D) (xs : List A) (ys : List B) (i : ℕ) (x : A) (y : B) → i < length xs → i < length ys → y ≡ get_or ys i y
    → (R (f (get_or xs i x)) (g y) → ⊥) → AllZip R (map f (take i xs)) (map g (take i ys)) → IsFirstNot R (map f xs) (map g ys) i
first_not R f g xs ys i x y inside within at not_here so_far = record {
  inside = (let long = length-map xs f in omega arith);
  before = subst (λ l. AllZip R l (take i (map g ys))) (sym (take-map f i xs)) (subst (λ l. AllZip R (map f (take i xs)) l) (sym (take-map g i ys)) so_far);
  not_there = λ a b h. not_here
      (subst (λ z. R (f (get_or xs i x)) z) (get_or-map g ys i y b within ∙ ap g (sym at)) (subst (λ z. R z (get_or (map g ys) i b)) (get_or-map f xs i x a inside) h));
}

-- ---- by number

by_number : {T : Type 0} (f : Origin → T) (rows : List TextBinder) (n : ℕ) (default : TextBinder) (none : T) → f TypeName ≡ none → default.origin ≡ TypeName
    → get_or (map f (map (λ b. b.origin) rows)) n none ≡ f (get_or rows n default).origin
by_number f [] n default none at is = sym (ap f is ∙ at)
by_number f (r ∷ rows) zero default none at is = refl
by_number f (r ∷ rows) (suc n) default none at is = by_number f rows n default none at is

origin_there : (rows : List TextBinder) (n : ℕ) (default : TextBinder) → default.origin ≡ TypeName → get_or (map (λ b. b.origin) rows) n TypeName ≡ (get_or rows n default).origin
origin_there [] n default is = sym is
origin_there (r ∷ rows) zero default is = refl
origin_there (r ∷ rows) (suc n) default is = origin_there rows n default is

module _ (cs : List CommandTree) (text : TypedText) (is_text : IsTextOf cs text) where
  abbrev d : Dialect
  d = text.dialect

  abbrev typing : Typing
  typing = text.types.typing

  abbrev origins : List Origin
  origins = origins_of text.types.resolved

  abbrev Stated : List Statement
  Stated = statements_in cs

  -- the entry found of a binder with this origin
  abbrev Found : Origin → Option Typ
  Found = entry_from Stated (found_of typing)

  abbrev origin_of : ℕ → Origin
  origin_of b = (binder_numbered (table cs) b).origin

  origin_is : (b : ℕ) → get_or origins b TypeName ≡ origin_of b
  origin_is b = ap (λ os. get_or os b TypeName) is_text.are_types.origins ∙ origin_there (table cs).binders b _ refl

  entry_is : (b : ℕ) → get_or (entries_in typing) b None ≡ Found (origin_of b)
  entry_is b =
      let each : entries_in typing ≡ map Found (map (λ r. r.origin) (table cs).binders) =
      is_text.are_types.entries.each ∙ (λ i. map (entry_from (is_text.are_types.statements i) (found_of typing)) (is_text.are_types.origins i)) in
      ap (λ es. get_or es b None) each ∙ by_number Found (table cs).binders b _ None refl refl

  found_least : AreLeast (places_of [] Stated) (found_of typing) d
  found_least = subst (λ ps. AreLeast ps (found_of typing) d) (sym (same_places cs)) is_text.are_types.typed.least

  -- the entries found are the least ones of the scope of a place
  sight_least : (n : ℕ) → n < length (places_of [] Stated) → AreLeastEntries (place_numbered Stated n).scope (map Found (sight_numbered Stated n)) d
  sight_least n inside =
      let long = least_length (places_of [] Stated) (found_of typing) d found_least in
      (place_seen Stated (found_of typing) (notes_of 0 (found_of typing) [] Stated) d n
      (λ m lt. least_at (places_of [] Stated) (found_of typing) m _ d (omega (arith, long, lt)) found_least) (document-wf cs) refl inside).entries (omega (arith, long, inside))

  abbrev ByNumber : ℕ → Option Typ → Type 0
  ByNumber = FitsAt origins typing d

  abbrev ByOrigin : Origin → Option Typ → Type 0
  ByOrigin o entry = FitsFound o (Found o) entry d

  at_origin : (b : ℕ) (entry : Option Typ) → ByNumber b entry → ByOrigin (origin_of b) entry
  at_origin b entry h = subst (λ o. FitsFound o (Found (origin_of b)) entry d) (origin_is b) (subst (λ x. FitsFound (get_or origins b TypeName) x entry d) (entry_is b) h)

  at_number : (b : ℕ) (entry : Option Typ) → ByOrigin (origin_of b) entry → ByNumber b entry
  at_number b entry h = subst (λ x. FitsFound (get_or origins b TypeName) x entry d) (sym (entry_is b)) (subst (λ o. FitsFound o (Found (origin_of b)) entry d) (sym (origin_is b)) h)

  within : (n : ℕ) → n < length (document_terms cs) → n < length (places_of [] Stated)
  within n inside = let same = ap length (same_places cs) ∙ length-map (document_terms cs) (λ t. (term_of t).place) in omega (arith, same, inside)

  scope_is : (n : ℕ) → (place_numbered Stated n).scope ≡ (term_of (tree_in (document_terms cs) n)).place.scope
  scope_is n = ap (λ (p : Place). p.scope) (number_told cs n)

  seen_are : (n : ℕ) (bs : List ℕ) → bs ≡ visible_at (table_of text.scopes) n → map origin_of bs ≡ reverse (sight_numbered Stated n)
  seen_are n bs seen = ap (map origin_of) (seen ∙ ap (λ t. visible_at t n) is_text.are_scopes.same_table) ∙ visible_origins cs n

  -- entries that fit by those found of the binders in scope at a term are a context of it
  listed_context : (n : ℕ) (bs : List ℕ) (types : List (Option Typ)) → n < length (document_terms cs) → bs ≡ visible_at (table_of text.scopes) n
      → AllZip ByNumber bs types → IsContext (term_of (tree_in (document_terms cs) n)).place.scope (reverse types) d
  listed_context n bs types inside seen h =
      let sight = sight_numbered Stated n in
      let outward = subst (λ os. AllZip ByOrigin os types) (seen_are n bs seen) (mapped ByNumber ByOrigin origin_of bs types at_origin h) in
      let own = subst (λ os. AllZip ByOrigin os (reverse types)) (reverse-reverse sight) (reversed ByOrigin (reverse sight) types outward) in
      subst (λ s. IsContext s (reverse types) d) (scope_is n)
      (each_fits Stated Found sight (place_numbered Stated n).scope (reverse types) d (sight_origins cs n) (sight_least n (within n inside)) own)

  -- the first entry that does not fit by the one found is the first that does not fit
  listed_unfit : (n : ℕ) (bs : List ℕ) (types : List (Option Typ)) (k : ℕ) → n < length (document_terms cs) → bs ≡ visible_at (table_of text.scopes) n → length bs ≡ length types
      → IsFirstNot ByNumber bs types k → IsFirstUnfitEntry (term_of (tree_in (document_terms cs) n)).place.scope (reverse types) d k
  listed_unfit n bs types k inside seen long h =
      let sight = sight_numbered Stated n in
      let inward = mapped_wrong ByNumber ByOrigin origin_of (reverse bs) (reverse types) k at_origin at_number (turned ByNumber bs types k long h) in
      let own = subst (λ os. FirstWrong ByOrigin os (reverse types) k) (map-reverse origin_of bs ∙ ap reverse (seen_are n bs seen) ∙ reverse-reverse sight) inward in
      subst (λ s. IsFirstUnfitEntry s (reverse types) d k) (scope_is n)
      (first_unfit Stated Found sight (place_numbered Stated n).scope (reverse types) d k (sight_origins cs n) (sight_least n (within n inside)) own)

  -- what is found wrong with a context that lists the names in scope, if anything, by the numbers of the binders
  pub context_is : (n : ℕ) (bs : List ℕ) (x : Derivation) (unfit : Option ℕ) → n < length (document_terms cs) → bs ≡ visible_at (table_of text.scopes) n
      → map (λ e. e.name) x.context ≡ map (λ b. shown_name (binder_numbered (table_of text.scopes) b).name) (visible_at (table_of text.scopes) n)
      → MatchOption unfit (AllZip ByNumber bs (map (λ e. e.type) x.context)) (λ k. IsFirstNot ByNumber bs (map (λ e. e.type) x.context) k)
      → let term = tree_in (document_terms cs) n in
      MatchOption unfit (HasContext term x d) (λ k. HasNames term x × IsFirstUnfitEntry (term_of term).place.scope (entries_listed x) d k)
  context_is n bs x None inside seen named h = record {
    names = named ∙ names_there cs text.scopes n is_text.are_scopes;
    context = listed_context n bs (map (λ e. e.type) x.context) inside seen h;
  }
  context_is n bs x (Some k) inside seen named h =
      let long = ap length seen ∙ sym (as_long (λ e. e.name) (λ b. shown_name (binder_numbered (table_of text.scopes) b).name) x.context (visible_at (table_of text.scopes) n) named)
      ∙ sym (length-map x.context (λ e. e.type)) in
      (named ∙ names_there cs text.scopes n is_text.are_scopes, listed_unfit n bs (map (λ e. e.type) x.context) k inside seen long h)
