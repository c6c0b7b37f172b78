-- What a command shows: the entry that it binds, or the type of its last term, which is the whole.
use Rattle.std.proofs.Common.{◌≡◌, ℕ, zero, suc, ◌+◌, ◌-◌, ◌<◌, ◌≤◌, List, [], ◌∷◌, ◌++◌, append-nil, length, map, drop, get_or, fold, refl, ap, sym, subst, ◌∙◌, Option, Some, None, option_map, arith}
use Rattle.std.proofs.lemmas.List.{map-append, length-map, drop_more, drop_all}
use Rattle.std.proofs.Math.ListN.{get_or-map}
use Rattle.lam_token.specs.declared.span.Span.{Span}
use Rattle.lam_rules.specs.Types.{Typ}
use Rattle.lam_rules.specs.Terms.{Term}
use Rattle.lam_rules.specs.Texts.{text}
use Rattle.lam_rules.specs.Typing.{Context}
use Rattle.lam_rules.specs.Numbers.{Keeps}
use Rattle.lam_rules.specs.declared.numbers.TyNo.{TyNo}
use Rattle.lam_rules.specs.declared.rules.Dialect.{Dialect}
use Rattle.lam_syntax.specs.Trees as tree
use Rattle.lam_syntax.specs.Trees.{word, term_tree, TermTree, CommandTree, definition, declaration, evaluation}
use Rattle.lam_syntax.specs.Views.{command_of}
use Rattle.lam_syntax.specs.declared.terms.Command.{Command}
use Rattle.lam_scope.specs.Names.{Name}
use Rattle.lam_scope.specs.Expansions.{Abbreviation}
use Rattle.lam_scope.specs.Nameless.{nameless, statement, abbreviations_after, names_after, first_too_large}
use Rattle.lam_scope.specs.Numbered.{StandsIfAny}
use Rattle.lam_scope.specs.Places.{of_term, Scope, Place, places_of}
use Rattle.lam_scope.specs.PlacedTerms.{term_of, terms_in_each, placed_parts, scope_after}
use Rattle.lam_typing.specs.Analysis.{AreLeast}
use Rattle.lam_typing.specs.Answers.{answer, answers, AllStandIn}
use Rattle.lam_typing.specs.Blaming.{Blamed, renumbered}
use Rattle.lam_typing.specs.Checking.{types_in, dialect_in}
use Rattle.lam_typing.specs.LeastTypes.{IsLeastAt}
use Rattle.lam_typing.specs.Progress.{IsLowest}
use Rattle.lam_typing.specs.declared.checker.TypeChecker.{TypeChecker}
use Rattle.lam_query.specs.declared.bound.Bound.{Bound}
use Rattle.lam_query.specs.declared.rows.Found.{Found as RustFound}
use Rattle.lam_query.specs.declared.rows.Found.TheVariants as rust
use Rattle.lam_query.specs.declared.rows.FoundTypes.{FoundTypes as RustFoundTypes}
use Rattle.lam_query.specs.CommandTypes.{CommandType, of_name, of_type_name, of_term, IsCommandType, AreCommandTypesFrom}
use Rattle.lam_query.specs.Sizes.{IsSizeFault, of_written_type, of_term as of_large_term, places_in, span_numbered}
use Rattle.lam_query.specs.inner.Analysts.{IsBoundAs}
use Rattle.lam_query.specs.inner.Bound.{found_over, AllStand, IsBoundAfter}
use Rattle.lam_query.specs.inner.Checked.{abbreviations_behind, names_behind, scope_from, scope_behind, context_after, AreChecked}
use Rattle.lam_query.specs.inner.ShownCommands.{IsKnown, shown_by, last_number}
use Rattle.lam_query.specs.inner.Entered.{Lookup, type_name_bound, type_bound}
use Rattle.lam_query.specs.inner.Kept.{Found, written_too_large, term_too_large, typed, FoundTypes, found_of}
use Rattle.lam_query.specs.inner.Rows.{entries_of, types_of, StandInFound, IsWrittenIn, IsLargeTermAt, AreTypesFound, IsFoundOf, IsFoundIn}
use Rattle.lam_query.proofs.BoundNames.{bound_as_kept, bound_as_after}
use Rattle.lam_query.proofs.Checked.{places_push}
use Rattle.lam_query.proofs.CheckedLists.{scope_push, command_places}
use Rattle.lam_query.proofs.FoundOfCommand.{written_stops}
use Rattle.lam_query.proofs.KnownFronts.{types_behind}
use Rattle.lam_query.proofs.Meanings.{entry_behind}

-- ---- the innermost entry of a lowest context is the least one of its binder

entry_least : (e : Term) (outside : Scope) (entry : Option Typ) (g : Context) (d : Dialect) → IsLowest (of_term e ∷ outside) (entry ∷ g) d → IsLeastAt outside e entry d
entry_least e outside (Some t) g d low = (low.is_context.0, λ u is. (low.narrower (Some u ∷ g) (is, low.is_context.1)).0)
entry_least e outside None g d low = λ u is. low.is_context.0 is.0 u is.1 is.2

-- ---- the last one of places

least_behind : (ps qs : List Place) (os us : List (Option Typ)) (d : Dialect) → AreLeast (ps ++ qs) (os ++ us) d → AreLeast ps os d → AreLeast qs us d
least_behind [] qs [] us d all front = all
least_behind (p ∷ ps) qs (o ∷ os) us d all front = least_behind ps qs os us d all.1 front.1
least_behind [] qs (o ∷ os) us d all front = absurd front
least_behind (p ∷ ps) qs [] us d all front = absurd front

least_last : (ps : List Place) (p : Place) (os : List (Option Typ)) (d : Dialect) → AreLeast (ps ++ p ∷ []) os d → IsLeastAt p.scope p.here (get_or os (length os - 1) None) d
least_last [] p [] d least = absurd least
least_last [] p (o ∷ []) d least = least.0
least_last [] p (o ∷ u ∷ os) d least = absurd least.1
least_last (q ∷ ps) p [] d least = absurd least
least_last (q ∷ ps) p (o ∷ []) d least = absurd (none_least ps p d least.1)
  where
    none_least : (ps : List Place) (p : Place) (d : Dialect) → AreLeast (ps ++ p ∷ []) [] d → ⊥
    none_least [] p d least = least
    none_least (q ∷ ps) p d least = least
least_last (q ∷ ps) p (o ∷ u ∷ os) d least =
    let place : length (o ∷ u ∷ os) - 1 ≡ suc (length (u ∷ os) - 1) = omega arith in
    rw place (least_last ps p (u ∷ os) d least.1)

-- the last type that was found is that of the last number

answer_last : (ts : List Typ) (os : List (Option TyNo)) → get_or (answers ts os) (length (answers ts os) - 1) None ≡ answer ts (last_number os)
answer_last ts os = ap (λ n. get_or (answers ts os) (n - 1) None) (length-map os (answer ts)) ∙ get_or-map (answer ts) os (length os - 1) None

pub stands_at : (ts : List Typ) (os : List (Option TyNo)) (n : ℕ) → AllStandIn ts os → StandsIfAny ts (get_or os n None)
stands_at ts [] n stand = tt
stands_at ts (o ∷ os) zero stand = stand.0
stands_at ts (o ∷ os) (suc n) stand = stands_at ts os n stand.1

-- ---- what a command shows behind others

module _ (done : List CommandTree) (g : Context) (found : List (Option Typ)) (blames : List Blamed) (d : Dialect) (ts : List Typ) (checked : AreChecked done g found blames d) where
  abbrev BS : List Abbreviation
  BS = abbreviations_behind done

  abbrev XS : List (Option Name)
  XS = names_behind done

  abbrev S : Scope
  S = scope_behind done

  -- the term of an evaluation is the last one in it
  whole_last : (e : TermTree) → (ps : List Place) × (places_of S (statement BS XS (evaluation e) ∷ []) ≡ ps ++ record { scope = S; here = nameless BS XS e } ∷ [])
  whole_last (term_tree r n) = (
    map (λ t. (term_of t).place) (terms_in_each (placed_parts BS XS S n)),
    command_places BS XS S (evaluation (term_tree r n)) ∙ map-append (λ t. (term_of t).place) (terms_in_each (placed_parts BS XS S n)) _,
  )

  -- so its type is the last one that was found
  whole_least : (e : TermTree) (t : FoundTypes) → AreTypesFound done g found blames (evaluation e) ts t d → IsLeastAt S (nameless BS XS e) (answer ts (last_number t.types)) d
  whole_least e t are =
      let os = t.types in
      let c = evaluation e in
      let all = subst (λ ps. AreLeast ps (found ++ answers ts os) d) (places_push done c) are.checked.shown.least in
      let own = least_behind (places_in done) (places_of S (statement BS XS c ∷ [])) found (answers ts os) d all checked.shown.least in
      let whole = whole_last e in
      subst (λ o. IsLeastAt S (nameless BS XS e) o d) (answer_last ts os)
      (least_last whole.0 (record { scope = S; here = nameless BS XS e }) (answers ts os) d (subst (λ ps. AreLeast ps (answers ts os) d) whole.1 own))

  bound_lowest : (c : CommandTree) (t : FoundTypes) → AreTypesFound done g found blames c ts t d → IsLowest (scope_after BS XS S c) (context_after g c (answer ts t.bound)) d
  bound_lowest c t are = subst (λ s. IsLowest s (context_after g c (answer ts t.bound)) d) (scope_push done c) are.checked.lowest

  is_shown : (c : CommandTree) (t : FoundTypes) → ((x : Name) → type_name_bound c ≡ Some x → answer ts t.bound ≡ type_bound BS c)
      → AreTypesFound done g found blames c ts t d
      → IsCommandType BS XS S c (shown_by c (answer ts t.bound) (answer ts (last_number t.types))) d
  is_shown (definition (word x r) e) t binding are =
      (answer ts t.bound, entry_least (nameless BS XS e) S (answer ts t.bound) g d (bound_lowest (definition (word x r) e) t are), refl)
  is_shown (declaration (word x r) u) t binding are = ap (λ o. of_name x (option_map text o)) (bound_lowest (declaration (word x r) u) t are).is_context.0
  is_shown (tree.abbreviation (word x r) u) t binding are = ap (λ o. of_type_name x (option_map text o)) (binding x refl)
  is_shown (evaluation e) t binding are = (answer ts (last_number t.types), whole_least e t are, refl)

-- ---- the commands that are left

-- there is one, and others behind it
pub command_comes : (done : List CommandTree) (commands : List Command) (n : ℕ) (command : Command) (all : List CommandTree) → n < length commands
    → command ≡ get_or commands n command → all ≡ done ++ map command_of (drop n commands)
    → all ≡ done ++ command_of command ∷ map command_of (drop (n + 1) commands)
command_comes done commands n command all inside is are =
    are
    ∙ ap (λ cs. done ++ map command_of cs) (drop_more commands n command inside)
    ∙ ap (λ c. done ++ command_of c ∷ map command_of (drop (n + 1) commands)) (sym is)

-- there is none
pub none_comes : (done : List CommandTree) (commands : List Command) (n : ℕ) (all : List CommandTree) → length commands ≤ n
    → all ≡ done ++ map command_of (drop n commands) → all ≡ done
none_comes done commands n all past are = are ∙ ap (λ cs. done ++ map command_of cs) (drop_all n commands past) ∙ append-nil done

-- ---- one command more

pub shown_push : (bs : List Abbreviation) (xs : List (Option Name)) (s : Scope) (done : List CommandTree) (c : CommandTree) (shown : List CommandType) (one : CommandType) (d : Dialect)
    → AreCommandTypesFrom bs xs s done shown d → IsCommandType (fold abbreviations_after bs done) (fold names_after xs done) (scope_from bs xs s done) c one d
    → AreCommandTypesFrom bs xs s (done ++ c ∷ []) (shown ++ one ∷ []) d
shown_push bs xs s [] c [] one d are is = (is, tt)
shown_push bs xs s [] c (o ∷ shown) one d are is = absurd are
shown_push bs xs s (b ∷ done) c [] one d are is = absurd are
shown_push bs xs s (b ∷ done) c (o ∷ shown) one d are is =
    (are.0, shown_push (abbreviations_after bs b) (names_after xs b) (scope_after bs xs s b) done c shown one d are.1 is)

module _ (done : List CommandTree) (c : CommandTree) (old now : TypeChecker) (b : Bound) (known : IsKnown done old b) where
  -- the entries of names behind the commands
  abbrev Names : Lookup
  Names = entries_of done known.context

  -- and their type names
  abbrev TypeNames : Lookup
  TypeNames = types_of (abbreviations_behind done)

  -- what was found of the command holds behind them
  module _ (f : Found) (is : IsFoundOf Names TypeNames c (types_in now) f (dialect_in old)) where
    pub written_here : IsWrittenIn (abbreviations_behind done) c (types_in now) f
    written_here = is.written (abbreviations_behind done) (λ x there. refl)

    pub found_here : IsFoundIn done known.context known.found known.blames c (types_in now) f (dialect_in old)
    found_here = is.found done known.context known.found known.blames known.checked (record { names = λ x there. refl; types = λ x there. refl })

  module _ (t : FoundTypes) (is : IsFoundOf Names TypeNames c (types_in now) (typed t) (dialect_in old)) where
    pub next_shown : IsCommandType (abbreviations_behind done) (names_behind done) (scope_behind done) c
        (shown_by c (answer (types_in now) t.bound) (answer (types_in now) (last_number t.types))) (dialect_in old)
    next_shown =
        is_shown done known.context known.found known.blames (dialect_in old) (types_in now) known.checked c t
        (written_here (typed t) is).1 (found_here (typed t) is)

    pub next_known : (after : Bound) → Keeps (types_in old) (types_in now) → dialect_in now ≡ dialect_in old → AllStand (types_in old) b
        → IsBoundAfter c t.bound b after → IsKnown (done ++ c ∷ []) now after
    next_known after keeps dialect stand binds =
        let ts = types_in now in
        let bound = bound_as_after Names TypeNames c ts t.bound b after (bound_as_kept Names TypeNames (types_in old) ts b keeps stand known.bound) binds in
        let more = found_here (typed t) is in
        record {
          context = context_after known.context c (answer ts t.bound);
          found = known.found ++ answers ts t.types;
          blames = known.blames ++ renumbered (length known.found) more.own;
          checked =
              subst
              (AreChecked (done ++ c ∷ []) (context_after known.context c (answer ts t.bound)) (known.found ++ answers ts t.types)
              (known.blames ++ renumbered (length known.found) more.own)) (sym dialect) more.checked;
          bound = record {
            names = λ x. bound.names x ∙ sym (entry_behind x done known.context c (answer ts t.bound));
            types = λ x. bound.types x ∙ types_behind done c ts t.bound TypeNames (λ y. refl) (written_here (typed t) is).1 x;
          };
        }

-- the numbers that were found stand for types of the table
pub found_stand : (c : CommandTree) (ts us : List Typ) (b : Bound) (f : RustFound) (t : RustFoundTypes) (d : Dialect) → f ≡ rust.Types t
    → ((names others : Lookup) → IsBoundAs names others ts b → IsFoundOf names others c us (found_of f) d) → AllStandIn us t.types.items × StandsIfAny us t.bound
found_stand c ts us b f t d is found =
    subst (λ g. StandInFound us (found_of g)) is (found (found_over ts b.names) (found_over ts b.type_names) (record { names = λ x. refl; types = λ x. refl })).stand

-- ---- a type that is too large, whatever comes behind the command

-- a term is the first one whose type is, unless some written type is
term_large : (done : List CommandTree) (c : CommandTree) (rest : List CommandTree) (k : ℕ) (at : Span) (d : Dialect) → IsLargeTermAt done k c at d
    → (s : Span) × IsSizeFault (done ++ c ∷ rest) s d
term_large done c rest k at d large = by (first_too_large [] (done ++ c ∷ rest)) refl
  where
    by : (o : Option Span) → first_too_large [] (done ++ c ∷ rest) ≡ o → (s : Span) × IsSizeFault (done ++ c ∷ rest) s d
    by None is = (span_numbered (done ++ c ∷ rest) (k + large.number), of_large_term (k + large.number) is (large.first rest))
    by (Some s) is = (s, of_written_type is)

pub untyped_large : (done : List CommandTree) (c : CommandTree) (old now : TypeChecker) (b : Bound) (known : IsKnown done old b) (f : RustFound)
    → ((t : RustFoundTypes) → f ≡ rust.Types t → ⊥)
    → IsFoundOf (entries_of done known.context) (types_of (abbreviations_behind done)) c (types_in now) (found_of f) (dialect_in old)
    → (rest : List CommandTree) → (s : Span) × IsSizeFault (done ++ c ∷ rest) s (dialect_in old)
untyped_large done c old now b known (rust.LargeWrittenType s) untyped is rest =
    (s, of_written_type (written_stops done c s rest known.checked.none_too_large (written_here done c old now b known (written_too_large s) is)))
untyped_large done c old now b known (rust.LargeTerm s) untyped is rest =
    term_large done c rest (length known.found) s (dialect_in old) (found_here done c old now b known (term_too_large s) is)
untyped_large done c old now b known (rust.Types t) untyped is rest = absurd (untyped t refl)
