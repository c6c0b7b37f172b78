-- Among checked commands no name has a type that is too large: neither an entry of the context, nor what a type name stands for.
use Rattle.std.proofs.Common.{◌≡◌, ◌≤◌, List, [], ◌∷◌, Bool, true, false, Option, Some, None, map, fold, refl, sym, subst}
use Rattle.std.specs.Prelude.{if◌then◌else◌}
use Rattle.std.specs.List.{AllByRecursion}
use Rattle.std.specs.Str.{bytes_eq}
use Rattle.std.proofs.lemmas.Bool.{ltb-false}
use Rattle.lam_rules.specs.Types.{Typ, nodes}
use Rattle.lam_rules.specs.Terms.{Term}
use Rattle.lam_rules.specs.Typing.{Context, IsWellFormedEntry, IsWellFormedContext}
use Rattle.lam_rules.specs.declared.rules.Dialect.{Dialect}
use Rattle.lam_rules.proofs.SortedSizes.{one_size}
use Rattle.lam_syntax.specs.Trees as tree
use Rattle.lam_syntax.specs.Trees.{word, TypeTree, TermTree, term_tree, CommandTree, definition, declaration, evaluation, type_span}
use Rattle.lam_scope.specs.Expansions.{Abbreviation, stands_for, expansion, node_limit, is_over_limit}
use Rattle.lam_scope.specs.Meanings.{entry_named}
use Rattle.lam_scope.specs.Names.{Name, binds}
use Rattle.lam_scope.specs.Nameless.{nameless, abbreviations_after, names_after, written_in_command, first_over_limit, first_too_large}
use Rattle.lam_scope.specs.Places.{Scope, Place}
use Rattle.lam_scope.specs.PlacedTerms.{PlacedTree, term_of, placed_term, placed_parts, terms_in, terms_in_each, command_terms, scope_after, commands_terms, document_terms}
use Rattle.lam_scope.proofs.EveryElement.{every_parts}
use Rattle.lam_scope.proofs.WellFormedForms.{AreWellFormedMeanings, expansion-wf}
use Rattle.lam_typing.specs.Analysis.{AreLeast, IsSmallType, AreSmall}
use Rattle.lam_typing.specs.Blaming.{Blamed}
use Rattle.lam_typing.specs.LeastTypes.{IsLeastAt, AreLeastEntries}
use Rattle.lam_typing.specs.Narrowing.{IsNarrower}
use Rattle.lam_typing.proofs.LeastContexts.{least_entries}
use Rattle.lam_typing.proofs.PlaceProofs.{entries_lowest}
use Rattle.lam_query.specs.inner.Checked.{abbreviations_behind, scope_from, scope_behind, AreChecked}
use Rattle.lam_query.specs.inner.Entered.{type_named}
use Rattle.lam_query.proofs.NoneLarge.{none_of_both}
use Rattle.lam_query.proofs.SameTerms.{scope_wf}

-- an entry has distinct labels at every depth, and is not too large
pub record IsGood (entry : Option Typ) : Type 0 where
  pub wf : IsWellFormedEntry entry
  pub small : IsSmallType entry

-- ---- one term

-- of all least types of a term one is too large if another is
same_size : (s : Scope) (e : Term) (o u : Option Typ) (d : Dialect) → IsLeastAt s e o d → IsSmallType o → IsLeastAt s e u d → IsSmallType u
same_size s e o None d least small other = tt
same_size s e None (Some u) d least small other = absurd (least u other.0)
same_size s e (Some t) (Some u) d least small other =
    subst (λ n. n ≤ node_limit) (one_size t u d (least.1 u other.0) (other.1 t least.0)) small

-- its type is not too large
abbrev IsSmallPlace : Dialect → Place → Type 0
IsSmallPlace d p = (o : Option Typ) × IsLeastAt p.scope p.here o d × IsSmallType o

abbrev IsSmallTerm : Dialect → PlacedTree → Type 0
IsSmallTerm d t = IsSmallPlace d (term_of t).place

terms_small : (ts : List PlacedTree) (os : List (Option Typ)) (d : Dialect) → AreLeast (map (λ t. (term_of t).place) ts) os d → AreSmall os
    → AllByRecursion (IsSmallTerm d) ts
terms_small [] os d least small = tt
terms_small (t ∷ ts) [] d least small = absurd least
terms_small (t ∷ ts) (o ∷ os) d least small = ((o, least.0, small.0), terms_small ts os d least.1 small.1)

-- the last of the terms in a term is the term itself
own_small : (d : Dialect) (bs : List Abbreviation) (xs : List (Option Name)) (s : Scope) (t : TermTree) → AllByRecursion (IsSmallTerm d) (terms_in (placed_term bs xs s t))
    → IsSmallPlace d (record { scope = s; here = nameless bs xs t })
own_small d bs xs s (term_tree r n) all =
    (every_parts (IsSmallTerm d) (terms_in_each (placed_parts bs xs s n)) (placed_term bs xs s (term_tree r n) ∷ []) all).1.0

-- ---- what is not over the limit

within_small : (o : Option Typ) → is_over_limit o ≡ false → IsSmallType o
within_small None within = tt
within_small (Some t) within = ltb-false node_limit (nodes t) within

one_within : (bs : List Abbreviation) (u : TypeTree) → first_over_limit bs (u ∷ []) ≡ None → IsSmallType (expansion bs u)
one_within bs u none = within_small (expansion bs u) (by (is_over_limit (expansion bs u)) none)
  where
    by : (over : Bool) → (if over then Some (type_span u) else None) ≡ None → over ≡ false
    by true none = absurd cc
    by false none = refl

-- ---- type names

-- each abbreviation stands for such a type, or for none
abbrev StandGood : List Abbreviation → Type 0
StandGood [] = Unit {0}
StandGood (stands_for x t ∷ bs) = IsGood t × StandGood bs

meanings_wf : (bs : List Abbreviation) → StandGood bs → AreWellFormedMeanings bs
meanings_wf [] good = tt
meanings_wf (stands_for x t ∷ bs) good = (good.0.wf, meanings_wf bs good.1)

abbreviated_good : (bs : List Abbreviation) (u : TypeTree) → StandGood bs → first_over_limit bs (u ∷ []) ≡ None → IsGood (expansion bs u)
abbreviated_good bs u good within = record { wf = expansion-wf bs (meanings_wf bs good) u; small = one_within bs u within }

types_good_from : (bs : List Abbreviation) (cs : List CommandTree) → StandGood bs → first_too_large bs cs ≡ None → StandGood (fold abbreviations_after bs cs)
types_good_from bs [] good none = good
types_good_from bs (definition w t ∷ cs) good none = types_good_from bs cs good (none_of_both _ _ none).1
types_good_from bs (declaration w u ∷ cs) good none = types_good_from bs cs good (none_of_both _ _ none).1
types_good_from bs (tree.abbreviation (word x s) u ∷ cs) good none =
    let both = none_of_both (first_over_limit bs (u ∷ [])) (first_too_large (stands_for x (expansion bs u) ∷ bs) cs) none in
    types_good_from (stands_for x (expansion bs u) ∷ bs) cs (abbreviated_good bs u good both.0, good) both.1
types_good_from bs (evaluation t ∷ cs) good none = types_good_from bs cs good (none_of_both _ _ none).1

type_named_good : (x : Name) (bs : List Abbreviation) (entry : Option Typ) → StandGood bs → type_named x bs ≡ Some entry → IsGood entry
type_named_good x [] entry good is = absurd cc
type_named_good x (stands_for y t ∷ bs) entry good is = by (type_named_good x bs entry good.1) (bytes_eq y x) is
  where
    by : (type_named x bs ≡ Some entry → IsGood entry) → (same : Bool) → (if same then Some t else type_named x bs) ≡ Some entry → IsGood entry
    by rest true here = let one : t ≡ entry = cc in subst IsGood one good.0
    by rest false later = rest later

-- ---- names

-- each least entry of a scope is small
abbrev IsSmallScope : Dialect → Scope → Type 0
IsSmallScope d s = (k : Context) → AreLeastEntries s k d → AllByRecursion IsSmallType k

term_bound : (d : Dialect) (bs : List Abbreviation) (xs : List (Option Name)) (s : Scope) (c : CommandTree) → IsSmallScope d s
    → AllByRecursion (IsSmallTerm d) (command_terms bs xs s c) → first_over_limit bs (written_in_command c) ≡ None → IsSmallScope d (scope_after bs xs s c)
term_bound d bs xs s (definition w t) before terms within [] least = absurd least
term_bound d bs xs s (definition w t) before terms within (entry ∷ k) least =
    let own = own_small d bs xs s t terms in
    (same_size s (nameless bs xs t) own.0 entry d own.1 own.2 least.0, before k least.1)
term_bound d bs xs s (declaration w u) before terms within [] least = absurd least
term_bound d bs xs s (declaration w u) before terms within (entry ∷ k) least =
    (subst IsSmallType (sym least.0) (one_within bs u within), before k least.1)
term_bound d bs xs s (tree.abbreviation w u) before terms within k least = before k least
term_bound d bs xs s (evaluation t) before terms within k least = before k least

small_from : (d : Dialect) (bs : List Abbreviation) (xs : List (Option Name)) (s : Scope) (cs : List CommandTree) → IsSmallScope d s
    → AllByRecursion (IsSmallTerm d) (commands_terms bs xs s cs) → first_too_large bs cs ≡ None → IsSmallScope d (scope_from bs xs s cs)
small_from d bs xs s [] before terms none = before
small_from d bs xs s (c ∷ cs) before terms none =
    let both = none_of_both (first_over_limit bs (written_in_command c)) (first_too_large (abbreviations_after bs c) cs) none in
    let parts = every_parts (IsSmallTerm d) (command_terms bs xs s c) _ terms in
    small_from d (abbreviations_after bs c) (names_after xs c) (scope_after bs xs s c) cs (term_bound d bs xs s c before parts.0 both.0) parts.1 both.1

-- contexts that are narrower than each other have types of one size
narrow_small : (g k : Context) (d : Dialect) → IsNarrower g k d → IsNarrower k g d → AllByRecursion IsSmallType k → AllByRecursion IsSmallType g
narrow_small [] k d below above small = tt
narrow_small (a ∷ g) [] d below above small = absurd below
narrow_small (None ∷ g) (b ∷ k) d below above small = (tt, narrow_small g k d below.1 above.1 small.1)
narrow_small (Some t ∷ g) (None ∷ k) d below above small = absurd above.0
narrow_small (Some t ∷ g) (Some u ∷ k) d below above small =
    (subst (λ n. n ≤ node_limit) (one_size u t d above.0 below.0) small.0, narrow_small g k d below.1 above.1 small.1)

named_good : (x : Name) (xs : List (Option Name)) (g : Context) (entry : Option Typ)
    → IsWellFormedContext g → AllByRecursion IsSmallType g → entry_named x xs g ≡ Some entry → IsGood entry
named_good x [] g entry wf small is = absurd cc
named_good x (b ∷ xs) [] entry wf small is = absurd cc
named_good x (b ∷ xs) (other ∷ g) entry wf small is = by (named_good x xs g entry wf.1 small.1) (binds b x) is
  where
    by : (entry_named x xs g ≡ Some entry → IsGood entry) → (same : Bool) → (if same then Some other else entry_named x xs g) ≡ Some entry → IsGood entry
    by rest true here = let one : other ≡ entry = cc in subst IsGood one (record { wf = wf.0; small = small.0 })
    by rest false later = rest later

-- ---- behind checked commands

module _ (done : List CommandTree) (g : Context) (found : List (Option Typ)) (blames : List Blamed) (d : Dialect) (checked : AreChecked done g found blames d) where
  entries_small : AllByRecursion IsSmallType g
  entries_small =
      let wf = scope_wf [] [] [] done tt tt in
      let k = least_entries (scope_behind done) d wf in
      let low = entries_lowest (scope_behind done) k.0 d wf k.1 in
      let terms = terms_small (document_terms done) found d checked.shown.least checked.shown.small in
      let small = small_from d [] [] [] done nothing_small terms checked.none_too_large k.0 k.1 in
      narrow_small g k.0 d (checked.lowest.narrower k.0 low.is_context) (low.narrower g checked.lowest.is_context) small
    where
      nothing_small : IsSmallScope d []
      nothing_small [] least = tt
      nothing_small (entry ∷ k) least = absurd least

  pub name_good : (x : Name) (xs : List (Option Name)) (entry : Option Typ) → entry_named x xs g ≡ Some entry → IsGood entry
  name_good x xs entry is = named_good x xs g entry checked.lowest.wf entries_small is

  pub type_name_good : (x : Name) (entry : Option Typ) → type_named x (abbreviations_behind done) ≡ Some entry → IsGood entry
  type_name_good x entry is = type_named_good x (abbreviations_behind done) entry (types_good_from [] done tt checked.none_too_large) is
