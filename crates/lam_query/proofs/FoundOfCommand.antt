-- What is found of one command behind others, from what a checker says of it in an environment of its own.
use Rattle.std.proofs.Common.{◌≡◌, ◌<◌, ◌≤◌, ◌+◌, ℕ, List, [], ◌∷◌, ◌++◌, length, map, refl, ap, sym, subst, ◌∙◌, Option, Some, None, IsTrue, IsFalse, inl, inr, arith}
use Rattle.std.specs.List.{AllByRecursion}
use Rattle.std.specs.Option.{option_or}
use Rattle.std.proofs.lemmas.List.{length-map, length-append}
use Rattle.std.proofs.lemmas.List.Elements.{All-from_recursion}
use Rattle.lam_token.specs.declared.span.Span.{Span}
use Rattle.lam_rules.specs.Types.{Typ}
use Rattle.lam_rules.specs.Typing.{Context, IsWellFormedContext}
use Rattle.lam_rules.specs.Numbers.{Keeps}
use Rattle.lam_rules.specs.declared.numbers.TyNo.{TyNo}
use Rattle.lam_rules.specs.declared.rules.Dialect.{Dialect}
use Rattle.lam_syntax.specs.Trees as tree
use Rattle.lam_syntax.specs.Trees.{word, CommandTree, definition, declaration, evaluation}
use Rattle.lam_scope.specs.Names.{Name}
use Rattle.lam_scope.specs.Expansions.{Abbreviation}
use Rattle.lam_scope.specs.FreeNames.{free_type_names_in_command}
use Rattle.lam_scope.specs.InternedViews.{interned_statement, StandInStatement}
use Rattle.lam_scope.specs.declared.interned.InternedStatement.{InternedStatement}
use Rattle.lam_scope.specs.declared.interned.InternedStatement.TheVariants as interned
use Rattle.lam_scope.specs.Nameless.{statement, abbreviations_after, written_in_command, faults_in, first_over_limit, first_too_large}
use Rattle.lam_scope.specs.Numbered.{StandsIfAny}
use Rattle.lam_scope.specs.Places.{Scope, Place, abbreviates, Statement, places_of}
use Rattle.lam_scope.specs.PlacedTerms.{term_of, command_terms}
use Rattle.lam_scope.specs.Tables.{table, place_row_numbered}
use Rattle.lam_scope.proofs.FreeNamesDecide.{same_command_faults, same_command_limit}
use Rattle.lam_typing.specs.Answers.{answer, answers, AllStandIn, context_under}
use Rattle.lam_typing.specs.Blaming.{Blamed, AreBlamed, renumbered}
use Rattle.lam_typing.specs.Checking.{IsChecked}
use Rattle.lam_typing.specs.Progress.{Shown, next_is_too_large, NextIs, ShownFront}
use Rattle.lam_typing.specs.Analysis.{IsFirstTooLarge}
use Rattle.lam_typing.specs.Walk.{blames_of}
use Rattle.lam_typing.specs.WrittenScopes.{scope_of_entries}
use Rattle.lam_typing.specs.declared.blame.Blame.{Blame}
use Rattle.lam_typing.specs.declared.checker.Checked.{Checked}
use Rattle.lam_typing.proofs.AlikeStatements.{lowest_of_entries}
use Rattle.lam_typing.proofs.Growing.{answer_keep, stands_keep, length-answers}
use Rattle.lam_typing.proofs.Together.{least_length}
use Rattle.lam_query.specs.declared.bound.Bound.{Bound}
use Rattle.lam_query.specs.inner.Kept as found
use Rattle.lam_query.specs.declared.typed_commands.Stated.{Stated}
use Rattle.lam_query.specs.Sizes.{places_in}
use Rattle.lam_query.specs.SyntaxFaults.{fault_at}
use Rattle.lam_query.specs.TextFaults.{written_fault}
use Rattle.lam_query.specs.inner.Analysts.{IsBoundAs}
use Rattle.lam_query.specs.inner.Checked.{abbreviations_behind, context_after, AreChecked}
use Rattle.lam_query.specs.inner.Entered.{Lookup, type_name_bound, type_bound}
use Rattle.lam_query.specs.inner.Kept.{FoundTypes}
use Rattle.lam_query.specs.inner.Rows.{AgreeOn, types_of, own_fault, IsFoundOf}
use Rattle.lam_query.specs.inner.TypedCommands.{types_around, names_around, entries_around, IsStatedBy, bound_number}
use Rattle.lam_query.proofs.Checked.{command_checked, place_too_large}
use Rattle.lam_query.proofs.CheckedLists.{too_large_append, too_large_push, command_places}
use Rattle.lam_query.proofs.Meanings.{same_type_bound}
use Rattle.lam_query.proofs.Surroundings.{types_same, environment_around}
use Rattle.lam_query.proofs.TermsAlone.{command_size}

-- ---- its written types

pub written_stops : (done : List CommandTree) (c : CommandTree) (s : Span) (rest : List CommandTree) → first_too_large [] done ≡ None
    → first_over_limit (abbreviations_behind done) (written_in_command c) ≡ Some s → first_too_large [] (done ++ c ∷ rest) ≡ Some s
written_stops done c s rest none over =
    too_large_append done (c ∷ rest)
    ∙ ap (λ o. option_or o (first_too_large (abbreviations_behind done) (c ∷ rest))) none
    ∙ ap (λ o. option_or o (first_too_large (abbreviations_after (abbreviations_behind done) c) rest)) over

pub none_written : (done : List CommandTree) (c : CommandTree) → first_too_large [] done ≡ None
    → first_over_limit (abbreviations_behind done) (written_in_command c) ≡ None → first_too_large [] (done ++ c ∷ []) ≡ None
none_written done c none within =
    too_large_push done c ∙ ap (λ o. option_or o (first_over_limit (abbreviations_behind done) (written_in_command c))) none ∙ within

-- ---- the number of what it binds

-- what an abbreviation states
stated_abbreviation : (bs : List Abbreviation) (xs : List (Option Name)) (c : CommandTree) (x : Name) → type_name_bound c ≡ Some x
    → statement bs xs c ≡ abbreviates (type_bound bs c)
stated_abbreviation bs xs (definition w t) x is = cc
stated_abbreviation bs xs (declaration w u) x is = cc
stated_abbreviation bs xs (tree.abbreviation (word y s) u) x is = refl
stated_abbreviation bs xs (evaluation t) x is = cc

-- the type that it stands for
abbreviated : (mid now : List Typ) (a : InternedStatement) (entry : Option TyNo) (o : Option Typ) → Keeps mid now → StandInStatement mid a
    → interned_statement mid a ≡ abbreviates o → answer now (bound_number a entry) ≡ o
abbreviated mid now (interned.Definition e) entry o keeps stand is = absurd cc
abbreviated mid now (interned.Declaration w) entry o keeps stand is = absurd cc
abbreviated mid now (interned.Abbreviation w) entry o keeps stand is =
    let same : answer mid w ≡ o = cc in
    answer_keep mid now w keeps stand ∙ same
abbreviated mid now (interned.Evaluation e) entry o keeps stand is = absurd cc

bound_stands : (mid now : List Typ) (a : InternedStatement) (entry : Option TyNo) → Keeps mid now → StandInStatement mid a
    → StandsIfAny now entry → StandsIfAny now (bound_number a entry)
bound_stands mid now (interned.Definition e) entry keeps stand stands = stands
bound_stands mid now (interned.Declaration w) entry keeps stand stands = stands
bound_stands mid now (interned.Abbreviation w) entry keeps stand stands = stands_keep mid now w keeps stand
bound_stands mid now (interned.Evaluation e) entry keeps stand stands = stands

-- a type name has no entry in a context
context_same : (bs : List Abbreviation) (xs : List (Option Name)) (mid now : List Typ) (g : Context) (a : InternedStatement) (c : CommandTree) (entry : Option TyNo)
    → interned_statement mid a ≡ statement bs xs c → context_after g c (answer now entry) ≡ context_after g c (answer now (bound_number a entry))
context_same bs xs mid now g (interned.Definition e) c entry is = refl
context_same bs xs mid now g (interned.Declaration w) c entry is = refl
context_same bs xs mid now g (interned.Abbreviation w) (definition x t) entry is = absurd cc
context_same bs xs mid now g (interned.Abbreviation w) (declaration x u) entry is = absurd cc
context_same bs xs mid now g (interned.Abbreviation w) (tree.abbreviation x u) entry is = refl
context_same bs xs mid now g (interned.Abbreviation w) (evaluation t) entry is = refl
context_same bs xs mid now g (interned.Evaluation e) c entry is = refl

-- ---- the numbers of its places

places_counted : (bs : List Abbreviation) (xs : List (Option Name)) (s : Scope) (c : CommandTree)
    → length (places_of s (statement bs xs c ∷ [])) ≡ length (table (c ∷ [])).places
places_counted bs xs s c =
    ap length (command_places bs xs s c) ∙ length-map (command_terms bs xs s c) (λ t. (term_of t).place) ∙ command_size bs xs s c

blamed_below : (m n : ℕ) (ps : List Place) (blames : List Blamed) (d : Dialect) → n + length ps ≤ m → AreBlamed n ps blames d
    → AllByRecursion (λ b. b.number < m) blames
blamed_below m n [] blames d room are = subst (AllByRecursion (λ b. b.number < m)) (sym are) tt
blamed_below m n (p ∷ ps) blames d room are = by (λ xs h. blamed_below m (n + 1) ps xs d (omega arith) h) are
  where
    by : ((xs : List Blamed) → AreBlamed (n + 1) ps xs d → AllByRecursion (λ b. b.number < m) xs)
        → AreBlamed n (p ∷ ps) blames d → AllByRecursion (λ b. b.number < m) blames
    by further (inl h) = further blames h.1
    by further (inr h) = subst (AllByRecursion (λ b. b.number < m)) (sym h.2) (omega arith, further h.1 h.5)

-- where a place is too large, there is one
nowhere : (front rest : List Place) (d : Dialect) → [] ≡ front ++ rest → NextIs next_is_too_large rest d → ⊥
nowhere front [] d are next = next
nowhere [] (q ∷ qs) d are next = cc
nowhere (p ∷ front) (q ∷ qs) d are next = cc

names_no_type : (ts : List Typ) (b : Bound) (c : CommandTree) (more : List (Option Typ)) (codes : List Blamed) (d : Dialect)
    → (IsWellFormedContext (entries_around ts b c)
    → ShownFront (places_of (scope_of_entries (entries_around ts b c)) (statement (types_around ts b c) (names_around ts b c) c ∷ [])) 0 more codes next_is_too_large d)
    → type_name_bound c ≡ None
names_no_type ts b (definition w t) more codes d stopped = refl
names_no_type ts b (declaration w u) more codes d stopped = refl
names_no_type ts b (tree.abbreviation (word x q) u) more codes d stopped =
    let stop = stopped tt in
    absurd (nowhere stop.front stop.rest d stop.are stop.next)
names_no_type ts b (evaluation t) more codes d stopped = refl

stopped_inside : (ps : List Place) (found : List (Option Typ)) (codes : List Blamed) (d : Dialect)
    → ShownFront ps 0 found codes next_is_too_large d → length found < length ps
stopped_inside ps found codes d stopped = by stopped.rest stopped.are stopped.next
  where
    by : (rest : List Place) → ps ≡ stopped.front ++ rest → NextIs next_is_too_large rest d → length found < length ps
    by [] are next = absurd next
    by (q ∷ qs) are next =
        let same = least_length stopped.front found d stopped.shown.least in
        let all : length ps ≡ length stopped.front + length (q ∷ qs) = ap length are ∙ length-append stopped.front (q ∷ qs) in
        omega arith

-- ---- its faults

-- those of its terms that are to blame
pub own_faults : (c : CommandTree) (bs : List Blame)
    → map (λ b. fault_at b.code.now (place_row_numbered (table (c ∷ [])) b.place.0).span) bs ≡ map (own_fault c) (blames_of bs)
own_faults c [] = refl
own_faults c (b ∷ bs) = ap (λ fs. own_fault c (record { number = b.place.0; code = b.code.now }) ∷ fs) (own_faults c bs)

-- ---- all of it

module _ (names others : Lookup) (ts : List Typ) (b : Bound) (c : CommandTree) (bound : IsBoundAs names others ts b) where
  -- the first written type that is too large, where other abbreviations are in sight
  limit_same : (bs : List Abbreviation) → AgreeOn (free_type_names_in_command c) others (types_of bs)
      → first_over_limit bs (written_in_command c) ≡ first_over_limit (types_around ts b c) (written_in_command c)
  limit_same bs agree = same_command_limit bs (types_around ts b c) c (types_same names others ts b c bound bs agree)

  pub large_written_type : (now : List Typ) (s : Span) (d : Dialect) → first_over_limit (types_around ts b c) (written_in_command c) ≡ Some s
      → IsFoundOf names others c now (found.written_too_large s) d
  large_written_type now s d over = record {
    stand = tt;
    written = λ bs agree. limit_same bs agree ∙ over;
    found = λ done g found blames checked sees. tt;
  }

  module _ (mid now : List Typ) (s : Stated) (r : Checked) (d e : Dialect) (stated : IsStatedBy ts b c mid s)
      (within : first_over_limit (types_around ts b c) (written_in_command c) ≡ None)
      (told : IsChecked now (context_under mid s.entries.items) (interned_statement mid s.statement) r e) (same_dialect : e ≡ d) where
    -- the entries of the names that it sees
    abbrev Entries : Context
    Entries = entries_around ts b c

    -- what it states there
    abbrev Alone : Statement
    Alone = statement (types_around ts b c) (names_around ts b c) c

    -- what is found of its places
    abbrev More : List (Option Typ)
    More = answers now r.types.items

    -- and which of them are to blame
    abbrev Codes : List Blamed
    Codes = blames_of r.blames.items

    is : IsChecked now Entries Alone r d
    is =
        subst (IsChecked now Entries Alone r) same_dialect
        (subst (λ g. IsChecked now g Alone r e) stated.entries
        (subst (λ a. IsChecked now (context_under mid s.entries.items) a r e) stated.states told))

    shown : IsTrue r.complete → IsWellFormedContext Entries → Shown (places_of (scope_of_entries Entries) (Alone ∷ [])) 0 More Codes d
    shown complete wf = is.all complete (scope_of_entries Entries) (lowest_of_entries Entries d wf)

    stopped : IsFalse r.complete → IsWellFormedContext Entries
        → ShownFront (places_of (scope_of_entries Entries) (Alone ∷ [])) 0 More Codes next_is_too_large d
    stopped cut_off wf = is.front cut_off (scope_of_entries Entries) (lowest_of_entries Entries d wf)

    pub large_term : (n : ℕ) (place : Span) → n ≡ length r.types.items → place ≡ (place_row_numbered (table (c ∷ [])) n).span → IsFalse r.complete
        → IsFoundOf names others c now (found.term_too_large place) d
    large_term n place counted there cut_off = record {
      stand = tt;
      written = λ bs agree. (limit_same bs agree ∙ within, names_no_type ts b c More Codes d (stopped cut_off));
      found = λ done g found blames checked sees.
          let environment = environment_around names others ts b c bound done g checked.lowest.wf sees in
          let stop = stopped cut_off environment.wf in
          record {
            number = n;
            inside =
                let shorter = stopped_inside (places_of (scope_of_entries Entries) (Alone ∷ [])) More Codes d stop in
                let all = places_counted (types_around ts b c) (names_around ts b c) (scope_of_entries Entries) c in
                let same = length-answers now r.types.items in
                omega arith;
            first = λ rest. subst (λ m. IsFirstTooLarge (places_in (done ++ c ∷ rest)) (length found + m) d)
                (length-answers now r.types.items ∙ sym counted)
                (place_too_large done g found blames d checked c (types_around ts b c) (names_around ts b c) Entries environment More Codes rest stop);
            span = there;
          };
    }

    pub all_types : (t : FoundTypes) → Keeps mid now → t.types ≡ r.types.items → t.bound ≡ bound_number s.statement r.entry
        → t.faults ≡ map written_fault s.faults.items ++ map (own_fault c) Codes → IsTrue r.complete
        → IsFoundOf names others c now (found.typed t) d
    all_types t keeps types same faults complete = record {
      stand = (
        subst (AllStandIn now) (sym types) is.stand,
        subst (StandsIfAny now) (sym same) (bound_stands mid now s.statement r.entry keeps stated.statement_stands is.entry_stands),
      );
      written = λ bs agree. (
        limit_same bs agree ∙ within,
        λ x named.
            ap (answer now) same
            ∙ abbreviated mid now s.statement r.entry _ keeps stated.statement_stands
            (stated.states ∙ stated_abbreviation (types_around ts b c) (names_around ts b c) c x named)
            ∙ sym (same_type_bound bs (types_around ts b c) c (types_same names others ts b c bound bs agree)),
      );
      found = λ done g found blames checked sees.
          let environment = environment_around names others ts b c bound done g checked.lowest.wf sees in
          let every = shown complete environment.wf in
          record {
            own = Codes;
            inside =
                let all = places_counted (types_around ts b c) (names_around ts b c) (scope_of_entries Entries) c in
                All-from_recursion (λ b. b.number < length (table (c ∷ [])).places) Codes
                (blamed_below (length (table (c ∷ [])).places) 0 (places_of (scope_of_entries Entries) (Alone ∷ [])) Codes d (omega arith) every.blamed);
            checked =
                let entry : context_after g c (answer now r.entry) ≡ context_after g c (answer now t.bound) =
                context_same (types_around ts b c) (names_around ts b c) mid now g s.statement c r.entry stated.states
                ∙ ap (λ n. context_after g c (answer now n)) (sym same) in
                let more : More ≡ answers now t.types = ap (answers now) (sym types) in
                subst (λ h. AreChecked (done ++ c ∷ []) h (found ++ answers now t.types) (blames ++ renumbered (length found) Codes) d) entry
                (subst (λ os. AreChecked (done ++ c ∷ []) (context_after g c (answer now r.entry)) (found ++ os) (blames ++ renumbered (length found) Codes) d) more
                (command_checked done g found blames d checked c (types_around ts b c) (names_around ts b c) Entries environment More Codes (answer now r.entry)
                within every (is.entry complete (scope_of_entries Entries) (lowest_of_entries Entries d environment.wf))));
            faults =
                let written : s.faults.items ≡ faults_in (abbreviations_behind done) (written_in_command c) =
                stated.faults ∙ sym (same_command_faults (abbreviations_behind done) (types_around ts b c) c environment.types_stand) in
                faults ∙ ap (λ fs. map written_fault fs ++ map (own_fault c) Codes) written;
          };
    }
