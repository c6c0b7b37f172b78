-- What a look-up finds of names is what they mean in an environment that is made by entering them, and how a command changes it.
use Rattle.std.proofs.Common.{◌≡◌, zero, suc, Bool, true, false, List, [], ◌∷◌, ◌++◌, length, refl, ap, sym, subst, ◌∙◌, arith, Option, Some, None, is_some, get_or, ◌⊎◌, inl, inr, Contains}
use Rattle.std.specs.Prelude.{if◌then◌else◌}
use Rattle.std.specs.List.{AllByRecursion}
use Rattle.std.specs.Str.{bytes_eq}
use Rattle.std.proofs.lemmas.List.Elements.{recursion_from_All, Contains-get_or, Contains-append_left, Contains-append_right}
use Rattle.std.proofs.lemmas.Slice.Eq.{bytes_eq-Decides}
use Rattle.lam_rules.specs.Types.{Typ}
use Rattle.lam_rules.specs.Typing.{Context, IsWellFormedEntry, IsWellFormedContext}
use Rattle.lam_syntax.specs.Trees as tree
use Rattle.lam_syntax.specs.Trees.{word, CommandTree, definition, declaration, evaluation}
use Rattle.lam_scope.specs.Names.{Name, binds}
use Rattle.lam_scope.specs.Expansions.{Abbreviation, stands_for, meaning, is_bound}
use Rattle.lam_scope.specs.FreeNames.{free_in_command, free_type_names_in_command}
use Rattle.lam_scope.specs.Meanings.{entry_named, MeanTheSame, StandForTheSame}
use Rattle.lam_scope.specs.Nameless.{abbreviations_after, names_after}
use Rattle.lam_scope.proofs.FreeNamesDecide.{alike_statements}
use Rattle.lam_query.specs.inner.Checked.{abbreviations_behind, names_behind, context_after, IsEnvironmentFor}
use Rattle.lam_query.specs.inner.Entered.{Lookup, type_named, entered_first, entered, names_onto, entries_onto, abbreviations_onto, name_bound, type_name_bound, type_bound}
use Rattle.lam_query.proofs.CheckedLists.{abbreviations_push, names_push}

-- ---- lists

first_or_later : {A : Type 0} (y : A) (ys : List A) (x : A) → Contains (y ∷ ys) x → (y ≡ x) ⊎ Contains ys x
first_or_later y ys x (zero, lt, is) = inl is
first_or_later y ys x (suc k, lt, is) = inr (k, omega (arith, lt), is)

each : {A : Type 0} (P : A → Type 0) (xs : List A) → ((x : A) → Contains xs x → P x) → AllByRecursion P xs
each P xs holds = recursion_from_All P xs (λ k d lt. holds (get_or xs k d) (Contains-get_or xs k d lt))

-- ---- names put onto whatever is looked up in

-- something that names are put onto, where the last of a name is the one that is found
module _ (S : Type 0) (put : Name → Option Typ → S → S) (named : Name → S → Option (Option Typ))
    (law : (x y : Name) (entry : Option Typ) (s : S) → named x (put y entry s) ≡ (if bytes_eq y x then Some entry else named x s)) where
  abbrev onto : S → List (Name × Option Typ) → S
  onto s [] = s
  onto s (p ∷ ps) = onto (put p.0 p.1 s) ps

  module _ (look : Lookup) (x : Name) where
    -- a name that is not found is not entered
    unentered : (list : List Name) → look x ≡ None → (s : S) → named x (onto s (entered look list)) ≡ named x s
    unentered [] none s = refl
    unentered (y ∷ list) none s = by (unentered list none) (look y) refl
      where
        other : (entry : Option Typ) → look y ≡ Some entry → (same : Bool) → bytes_eq y x ≡ same → (if same then Some entry else named x s) ≡ named x s
        other entry finds false differ = refl
        other entry finds true same =
            let both : None ≡ Some entry = sym none ∙ ap look (sym ((bytes_eq-Decides y x).0 same)) ∙ finds in
            absurd cc

        by : ((r : S) → named x (onto r (entered look list)) ≡ named x r) → (o : Option (Option Typ)) → look y ≡ o
            → named x (onto s (entered_first y o (entered look list))) ≡ named x s
        by later None finds = later s
        by later (Some entry) finds = later (put y entry s) ∙ law x y entry s ∙ other entry finds (bytes_eq y x) refl

    module _ (entry : Option Typ) (is : look x ≡ Some entry) where
      -- what is entered stays, also where it is entered again
      kept : (list : List Name) (s : S) → named x s ≡ Some entry → named x (onto s (entered look list)) ≡ Some entry
      kept [] s here = here
      kept (y ∷ list) s here = by (kept list) (look y) refl
        where
          again : (found : Option Typ) → look y ≡ Some found → (same : Bool) → bytes_eq y x ≡ same → (if same then Some found else named x s) ≡ Some entry
          again found finds false differ = here
          again found finds true same = sym finds ∙ ap look ((bytes_eq-Decides y x).0 same) ∙ is

          by : ((r : S) → named x r ≡ Some entry → named x (onto r (entered look list)) ≡ Some entry) → (o : Option (Option Typ)) → look y ≡ o
              → named x (onto s (entered_first y o (entered look list))) ≡ Some entry
          by later None finds = later s here
          by later (Some found) finds = later (put y found s) (law x y found s ∙ again found finds (bytes_eq y x) refl)

      entered_there : (list : List Name) → Contains list x → (s : S) → named x (onto s (entered look list)) ≡ Some entry
      entered_there [] there s = absurd (omega (arith, there.1))
      entered_there (y ∷ list) there s = by (λ later. entered_there list later) (look y) refl (first_or_later y list x there)
        where
          by : (Contains list x → (r : S) → named x (onto r (entered look list)) ≡ Some entry) → (o : Option (Option Typ)) → look y ≡ o
              → (y ≡ x) ⊎ Contains list x → named x (onto s (entered_first y o (entered look list))) ≡ Some entry
          by behind None finds (inl same) = let both : None ≡ Some entry = sym finds ∙ ap look same ∙ is in absurd cc
          by behind None finds (inr later) = behind later s
          by behind (Some other) finds (inr later) = behind later (put y other s)
          by behind (Some other) finds (inl same) =
              kept list (put y other s)
              (law x y other s
              ∙ ap (λ b. if b then Some other else named x s) ((bytes_eq-Decides y x).1 same)
              ∙ sym finds ∙ ap look same ∙ is)

    -- of each name that is looked up the environment tells what was found
    answered : (list : List Name) (s : S) → named x s ≡ None → Contains list x → named x (onto s (entered look list)) ≡ look x
    answered list s new there = by (look x) refl
      where
        by : (o : Option (Option Typ)) → look x ≡ o → named x (onto s (entered look list)) ≡ look x
        by None none = unentered list none s ∙ new ∙ sym none
        by (Some entry) is = entered_there entry is list there s ∙ sym is

-- ---- names in an environment of their own

abbrev Binders : Type 0
Binders = List (Option Name) × Context

binders_onto : (xs : List (Option Name)) (g : Context) (ps : List (Name × Option Typ))
    → onto Binders (λ y entry s. (Some y ∷ s.0, entry ∷ s.1)) (λ x s. entry_named x s.0 s.1) (λ x y entry s. refl) (xs, g) ps
    ≡ (names_onto xs ps, entries_onto g ps)
binders_onto xs g [] = refl
binders_onto xs g (p ∷ ps) = binders_onto (Some p.0 ∷ xs) (p.1 ∷ g) ps

pub entries_answer : (look : Lookup) (list : List Name) (x : Name) → Contains list x
    → entry_named x (names_onto [] (entered look list)) (entries_onto [] (entered look list)) ≡ look x
entries_answer look list x there =
    ap (λ s. entry_named x s.0 s.1) (sym (binders_onto [] [] (entered look list)))
    ∙ answered Binders (λ y entry s. (Some y ∷ s.0, entry ∷ s.1)) (λ x s. entry_named x s.0 s.1) (λ x y entry s. refl) look x list ([], []) refl there

pub entered_mean : (free list : List Name) (look : Lookup) (xs : List (Option Name)) (g : Context)
    → ((x : Name) → Contains free x → Contains list x) → ((x : Name) → Contains list x → look x ≡ entry_named x xs g)
    → MeanTheSame free xs g (names_onto [] (entered look list)) (entries_onto [] (entered look list))
entered_mean free list look xs g among agrees =
    each (λ x. entry_named x xs g ≡ entry_named x (names_onto [] (entered look list)) (entries_onto [] (entered look list))) free
    (λ x there. let inside = among x there in sym (entries_answer look list x inside ∙ agrees x inside))

-- it has an entry for each name

onto_lengths : (xs : List (Option Name)) (g : Context) (ps : List (Name × Option Typ))
    → length xs ≡ length g → length (names_onto xs ps) ≡ length (entries_onto g ps)
onto_lengths xs g [] same = same
onto_lengths xs g (p ∷ ps) same = onto_lengths (Some p.0 ∷ xs) (p.1 ∷ g) ps (ap suc same)

pub entered_lengths : (look : Lookup) (list : List Name) → length (names_onto [] (entered look list)) ≡ length (entries_onto [] (entered look list))
entered_lengths look list = onto_lengths [] [] (entered look list) refl

-- which has distinct labels at every depth, where it is one of a context that has them

named_wf : (x : Name) (xs : List (Option Name)) (g : Context) (entry : Option Typ)
    → IsWellFormedContext g → entry_named x xs g ≡ Some entry → IsWellFormedEntry entry
named_wf x [] g entry wf is = absurd cc
named_wf x (b ∷ xs) [] entry wf is = absurd cc
named_wf x (b ∷ xs) (other ∷ g) entry wf is = by (named_wf x xs g entry wf.1) (binds b x) is
  where
    by : (entry_named x xs g ≡ Some entry → IsWellFormedEntry entry) → (same : Bool)
        → (if same then Some other else entry_named x xs g) ≡ Some entry → IsWellFormedEntry entry
    by behind true here = let one : other ≡ entry = cc in subst IsWellFormedEntry one wf.0
    by behind false later = behind later

onto_wf : (look : Lookup) (list : List Name) (h : Context)
    → ((x : Name) → Contains list x → (entry : Option Typ) → look x ≡ Some entry → IsWellFormedEntry entry)
    → IsWellFormedContext h → IsWellFormedContext (entries_onto h (entered look list))
onto_wf look [] h each_wf wf = wf
onto_wf look (x ∷ list) h each_wf wf =
    by (λ r behind rest. onto_wf look list r behind rest) (look x) refl
  where
    later_wf : (y : Name) → Contains list y → (entry : Option Typ) → look y ≡ Some entry → IsWellFormedEntry entry
    later_wf y there entry is = each_wf y (Contains-append_right (x ∷ []) list y there) entry is

    by : ((r : Context) → ((y : Name) → Contains list y → (entry : Option Typ) → look y ≡ Some entry → IsWellFormedEntry entry)
        → IsWellFormedContext r → IsWellFormedContext (entries_onto r (entered look list)))
        → (o : Option (Option Typ)) → look x ≡ o → IsWellFormedContext (entries_onto h (entered_first x o (entered look list)))
    by later None finds = later h later_wf wf
    by later (Some entry) finds = later (entry ∷ h) later_wf (each_wf x (Contains-append_left (x ∷ []) list x (0, omega arith, refl)) entry finds, wf)

pub entered_wf : (look : Lookup) (list : List Name) (xs : List (Option Name)) (g : Context) → IsWellFormedContext g
    → ((x : Name) → Contains list x → look x ≡ entry_named x xs g) → IsWellFormedContext (entries_onto [] (entered look list))
entered_wf look list xs g wf agrees = onto_wf look list [] (λ x there entry finds. named_wf x xs g entry wf (sym (agrees x there) ∙ finds)) tt

-- ---- type names

bindings_onto : (bs : List Abbreviation) (ps : List (Name × Option Typ))
    → onto (List Abbreviation) (λ y t cs. stands_for y t ∷ cs) type_named (λ x y t cs. refl) bs ps ≡ abbreviations_onto bs ps
bindings_onto bs [] = refl
bindings_onto bs (p ∷ ps) = bindings_onto (stands_for p.0 p.1 ∷ bs) ps

pub types_answer : (look : Lookup) (list : List Name) (x : Name) → Contains list x → type_named x (abbreviations_onto [] (entered look list)) ≡ look x
types_answer look list x there =
    ap (type_named x) (sym (bindings_onto [] (entered look list)))
    ∙ answered (List Abbreviation) (λ y t cs. stands_for y t ∷ cs) type_named (λ x y t cs. refl) look x list [] refl there

-- what is found of a type name tells its meaning, and whether it is bound

abbrev type_found : Option (Option Typ) → Option Typ
type_found None = None
type_found (Some t) = t

meaning_found : (x : Name) (bs : List Abbreviation) → meaning x bs ≡ type_found (type_named x bs)
meaning_found x [] = refl
meaning_found x (stands_for y t ∷ bs) = by (meaning_found x bs) (bytes_eq y x)
  where
    by : meaning x bs ≡ type_found (type_named x bs) → (same : Bool) → (if same then t else meaning x bs) ≡ type_found (if same then Some t else type_named x bs)
    by rest true = refl
    by rest false = rest

bound_found : (x : Name) (bs : List Abbreviation) → is_bound x bs ≡ is_some (type_named x bs)
bound_found x [] = refl
bound_found x (stands_for y t ∷ bs) = by (bound_found x bs) (bytes_eq y x)
  where
    by : is_bound x bs ≡ is_some (type_named x bs) → (same : Bool) → (if same then true else is_bound x bs) ≡ is_some (if same then Some t else type_named x bs)
    by rest true = refl
    by rest false = rest

pub entered_stand : (free list : List Name) (look : Lookup) (bs : List Abbreviation)
    → ((x : Name) → Contains free x → Contains list x) → ((x : Name) → Contains list x → look x ≡ type_named x bs)
    → StandForTheSame free bs (abbreviations_onto [] (entered look list))
entered_stand free list look bs among agrees = each (λ x. (meaning x bs ≡ meaning x cs) × (is_bound x bs ≡ is_bound x cs)) free by
  where
    cs : List Abbreviation
    cs = abbreviations_onto [] (entered look list)

    by : (x : Name) → Contains free x → (meaning x bs ≡ meaning x cs) × (is_bound x bs ≡ is_bound x cs)
    by x there =
        let inside = among x there in
        let same : type_named x bs ≡ type_named x cs = sym (types_answer look list x inside ∙ agrees x inside) in (
          meaning_found x bs ∙ ap type_found same ∙ sym (meaning_found x cs),
          bound_found x bs ∙ ap is_some same ∙ sym (bound_found x cs),
        )

-- ---- a command's environment

-- it may be made by entering what was found of its free names and of its type names
pub environment_entered : (c : CommandTree) (done : List CommandTree) (g : Context) (look types : Lookup) (names type_names : List Name) → IsWellFormedContext g
    → ((x : Name) → Contains (free_in_command c) x → Contains names x)
    → ((x : Name) → Contains names x → look x ≡ entry_named x (names_behind done) g)
    → ((x : Name) → Contains (free_type_names_in_command c) x → Contains type_names x)
    → ((x : Name) → Contains type_names x → types x ≡ type_named x (abbreviations_behind done))
    → IsEnvironmentFor c done g (abbreviations_onto [] (entered types type_names)) (names_onto [] (entered look names)) (entries_onto [] (entered look names))
environment_entered c done g look types names type_names wf among agrees types_among types_agree = record {
  wf = entered_wf look names (names_behind done) g wf agrees;
  lengths = entered_lengths look names;
  names_mean = entered_mean (free_in_command c) names look (names_behind done) g among agrees;
  types_stand = entered_stand (free_type_names_in_command c) type_names types (abbreviations_behind done) types_among types_agree;
}

-- ---- what is found after a command

entry_after : (x : Name) (xs : List (Option Name)) (g : Context) (c : CommandTree) (entry : Option Typ)
    → entry_named x (names_after xs c) (context_after g c entry) ≡ (if binds (name_bound c) x then Some entry else entry_named x xs g)
entry_after x xs g (definition (word y s) t) entry = refl
entry_after x xs g (declaration (word y s) u) entry = refl
entry_after x xs g (tree.abbreviation w u) entry = refl
entry_after x xs g (evaluation t) entry = refl

pub entry_behind : (x : Name) (done : List CommandTree) (g : Context) (c : CommandTree) (entry : Option Typ)
    → entry_named x (names_behind (done ++ c ∷ [])) (context_after g c entry) ≡ (if binds (name_bound c) x then Some entry else entry_named x (names_behind done) g)
entry_behind x done g c entry = ap (λ xs. entry_named x xs (context_after g c entry)) (names_push done c) ∙ entry_after x (names_behind done) g c entry

pub type_after : (x : Name) (bs : List Abbreviation) (c : CommandTree)
    → type_named x (abbreviations_after bs c) ≡ (if binds (type_name_bound c) x then Some (type_bound bs c) else type_named x bs)
type_after x bs (definition w t) = refl
type_after x bs (declaration w u) = refl
type_after x bs (tree.abbreviation (word y s) u) = refl
type_after x bs (evaluation t) = refl

-- what its own environment tells of a type that it binds
pub same_type_bound : (bs cs : List Abbreviation) (c : CommandTree) → StandForTheSame (free_type_names_in_command c) bs cs → type_bound bs c ≡ type_bound cs c
same_type_bound bs cs (definition w t) same = refl
same_type_bound bs cs (declaration w u) same = refl
same_type_bound bs cs (tree.abbreviation w u) same = alike_statements bs cs [] [] [] [] (tree.abbreviation w u) refl refl tt same
same_type_bound bs cs (evaluation t) same = refl

pub type_behind : (x : Name) (done : List CommandTree) (types : List Abbreviation) (c : CommandTree)
    → StandForTheSame (free_type_names_in_command c) (abbreviations_behind done) types
    → type_named x (abbreviations_behind (done ++ c ∷ []))
    ≡ (if binds (type_name_bound c) x then Some (type_bound types c) else type_named x (abbreviations_behind done))
type_behind x done types c same =
    ap (type_named x) (abbreviations_push done c)
    ∙ type_after x (abbreviations_behind done) c
    ∙ ap (λ t. if binds (type_name_bound c) x then Some t else type_named x (abbreviations_behind done)) (same_type_bound (abbreviations_behind done) types c same)
