-- What is told of the terms of one command that are to blame, from the command alone to its text.
use Rattle.std.proofs.Common.{◌≡◌, ℕ, ◌+◌, ◌<◌, List, [], ◌∷◌, ◌++◌, append_assoc, length, get_or, map, Option, refl, ap, sym, subst, ◌∙◌, arith}
use Rattle.std.specs.List.{AllByRecursion}
use Rattle.std.proofs.lemmas.List.{length-map, length-append, get_or_append_left}
use Rattle.std.proofs.lemmas.List.Elements.{All-from_recursion, recursion_from_All}
use Rattle.lam_token.specs.declared.span.Span.{Span}
use Rattle.lam_rules.specs.Types.{Typ}
use Rattle.lam_rules.specs.Typing.{Context}
use Rattle.lam_rules.specs.declared.rules.Dialect.{Dialect}
use Rattle.lam_syntax.specs.Trees.{CommandTree}
use Rattle.lam_scope.specs.FreeNames.{each_once, free_in_command}
use Rattle.lam_scope.specs.Labels.{place_in}
use Rattle.lam_scope.specs.Nameless.{written_in_command, faults_in}
use Rattle.lam_scope.specs.Places.{Place}
use Rattle.lam_scope.specs.PlacedTerms.{term_of, document_terms, commands_terms, tree_in}
use Rattle.lam_scope.specs.Tables.{table}
use Rattle.lam_scope.specs.declared.type_fault.TypeFault.{TypeFault}
use Rattle.lam_scope.specs.declared.type_fault.TypeFault.TheVariants.{UnboundTypeName, RepeatedLabel}
use Rattle.lam_scope.proofs.EveryElement.{every_parts, every_append}
use Rattle.lam_scope.proofs.PlacedRows.{as_many_rows}
use Rattle.lam_typing.specs.Blaming.{Blamed, IsBlamed, IsBlamedFor, renumbered}
use Rattle.lam_typing.specs.Progress.{Shown}
use Rattle.lam_typing.proofs.Together.{least_length}
use Rattle.lam_query.specs.Faults.{Fault}
use Rattle.lam_query.specs.Mismatches.{IsMismatch, ExplainedFault, IsExplained, of_term, of_no_term}
use Rattle.lam_query.specs.Sizes.{IsSizeFault, IsSmall, places_in, span_numbered}
use Rattle.lam_query.specs.SyntaxFaults.{fault_at}
use Rattle.lam_query.specs.TextFaults.{written_fault, blame_fault}
use Rattle.lam_query.specs.inner.Checked.{abbreviations_behind, names_behind, scope_behind, AreChecked}
use Rattle.lam_query.specs.inner.Entered.{entered, entries_onto}
use Rattle.lam_query.specs.inner.Explained.{unexplained, AreAdded, AreToldOf}
use Rattle.lam_query.specs.inner.Kept.{FoundTypes}
use Rattle.lam_query.specs.inner.PieceRows.{Sight}
use Rattle.lam_query.specs.inner.Rows.{SeesAs, own_fault, AreTypesFound}
use Rattle.lam_query.specs.inner.StandIns.{stand_ins}
use Rattle.lam_query.proofs.BlamesAlone.{IsBlameOf, each_blamed, own_blames, no_fault_alone}
use Rattle.lam_query.proofs.CheckedLists.{terms_append}
use Rattle.lam_query.proofs.CommandsToCome.{term_span}
use Rattle.lam_query.proofs.MismatchesAlike.{mismatch_same}
use Rattle.lam_query.proofs.PieceInDocument.{terms_counted_push}
use Rattle.lam_query.proofs.RowsAndTerms.{place_told}
use Rattle.lam_query.proofs.SameTerms.{same_terms}
use Rattle.lam_query.proofs.SeenAlike.{IsSeenAlike}
use Rattle.lam_query.proofs.StandInsSeen.{stand_ins_seen}

-- ---- faults of which nothing is told

-- those of written types are explained: they are of no term
written_explained : (commands : List CommandTree) (d : Dialect) (fs : List TypeFault) → AllByRecursion (IsExplained commands d) (map unexplained (map written_fault fs))
written_explained commands d [] = tt
written_explained commands d (UnboundTypeName s ∷ fs) = (of_no_term (6, omega arith, refl) refl, written_explained commands d fs)
written_explained commands d (RepeatedLabel s ∷ fs) = (of_no_term (7, omega arith, refl) refl, written_explained commands d fs)

pub faults_untold : (fs : List Fault) → map (λ e. e.fault) (map unexplained fs) ≡ fs
faults_untold [] = refl
faults_untold (f ∷ fs) = ap (λ gs. f ∷ gs) (faults_untold fs)

pub faults_joined : (es os : List ExplainedFault) → map (λ e. e.fault) (es ++ os) ≡ map (λ e. e.fault) es ++ map (λ e. e.fault) os
faults_joined [] os = refl
faults_joined (e ∷ es) os = ap (λ fs. e.fault ∷ fs) (faults_joined es os)

-- nothing is added
pub none_added : (commands : List CommandTree) (old : List ExplainedFault) (fs : List Fault) (d : Dialect) → fs ≡ [] → AreAdded commands fs old old d
none_added commands old fs d none = record { added = []; are = sym (append_none old); same = sym none; each = All-from_recursion (IsExplained commands d) [] tt }
  where
    append_none : (es : List ExplainedFault) → es ++ [] ≡ es
    append_none [] = refl
    append_none (e ∷ es) = ap (λ xs. e ∷ xs) (append_none es)

-- ---- places in front of more commands

place_before : (cs rest : List CommandTree) (n : ℕ) → n < length (document_terms cs) → place_in (cs ++ rest) n ≡ place_in cs n
place_before cs rest n lt =
    let others = commands_terms (abbreviations_behind cs) (names_behind cs) (scope_behind cs) rest in
    ap (λ ts. (term_of (tree_in ts n)).place) (terms_append cs rest) ∙ ap (λ t. (term_of t).place) (get_or_append_left (document_terms cs) others (tree_in [] 0) n lt)

-- ---- one command behind those of its text

module _ (done : List CommandTree) (g : Context) (found : List (Option Typ)) (blames : List Blamed) (d : Dialect) (checked : AreChecked done g found blames d)
    (s : Sight) (c : CommandTree) (sees : SeesAs c s.names s.types done g) (rest : List CommandTree) (ts : List Typ) (t : FoundTypes)
    (more : AreTypesFound done g found blames c ts t d) where
  abbrev pub Alone : List CommandTree
  Alone = stand_ins s c ++ c ∷ []

  abbrev pub Commands : List CommandTree
  Commands = done ++ c ∷ rest

  abbrev Entries : Context
  Entries = entries_onto [] (entered s.names (each_once (free_in_command c)))

  abbrev Whole : List CommandTree
  Whole = done ++ c ∷ []

  abbrev Before : ℕ
  Before = length (document_terms done)

  seen : IsSeenAlike done (stand_ins s c) g Entries c d
  seen = stand_ins_seen s c done g found blames d checked sees

  terms_counted : length found ≡ Before
  terms_counted = sym (least_length (places_in done) found d checked.shown.least) ∙ length-map (document_terms done) (λ t. (term_of t).place)

  whole_is : Commands ≡ Whole ++ rest
  whole_is = sym (append_assoc done (c ∷ []) rest)

  -- the blames of the command alone are the row's
  pub blames_are : (os : List (Option Typ)) (bs : List Blamed) → Shown (places_in Alone) 0 os bs d → bs ≡ more.own
  blames_are os bs alone =
      own_blames done (stand_ins s c) g Entries c d seen found os blames bs more.own checked.shown alone more.checked.shown.blamed

  -- no type of it is too large
  pub small_alone : (r : Span) → IsSizeFault Alone r d → ⊥
  small_alone r fault = no_fault_alone done (stand_ins s c) g Entries c d seen _ _ _ more.checked r fault

  -- one of its own terms that is to blame
  module _ (small : IsSmall Commands d) where
    one_told : (b : Blamed) (e : ExplainedFault) → b.number < length (table (c ∷ [])).places
        → IsBlameOf 0 (places_in Whole) d (record { number = b.number + length found; code = b.code })
        → e.fault ≡ blame_fault Alone b
        → IsMismatch (place_in Alone b.number).scope (place_in Alone b.number).here e.mismatch d
        → (e.fault ≡ own_fault c b) × IsExplained Commands d e
    one_told b e inside is fault mismatch =
        let n = b.number in
        let m = n + length found in
        let lt : n < length (document_terms (c ∷ [])) = omega (arith, inside, as_many_rows (c ∷ [])) in
        let no_terms : length (document_terms (stand_ins s c)) ≡ 0 = ap length seen.no_terms in
        let first : length (document_terms (stand_ins s c)) + n ≡ n = omega (arith, no_terms) in
        let alone_span = ap (span_numbered Alone) (sym first) ∙ term_span (stand_ins s c) c [] n inside in
        let number : Before + n ≡ m = omega (arith, terms_counted) in
        let text_span = ap (span_numbered Commands) (sym number) ∙ term_span done c rest n inside in
        let own : e.fault ≡ own_fault c b = fault ∙ ap (fault_at b.code) alone_span in
        let at : is.at ≡ m = omega (arith, is.number) in
        let there : Place = place_in Commands m in
        let among : m < length (document_terms Whole) = omega (arith, inside, terms_counted, terms_counted_push done c) in
        let place : get_or (places_in Whole) is.at (term_of (tree_in [] 0)).place ≡ there =
        ap (λ k. get_or (places_in Whole) k (term_of (tree_in [] 0)).place) at ∙ place_told Whole m
        ∙ sym (place_before Whole rest m among) ∙ ap (λ cs. place_in cs m) (sym whole_is) in
        let same = same_terms done (stand_ins s c) g Entries c rest d seen n lt in
        let told = mismatch_same done (stand_ins s c) g Entries (tree_in (document_terms Commands) (Before + n)) (tree_in (document_terms Alone) n) e.mismatch d same mismatch in (
          own,
          of_term (record { number = m; code = b.code }) small
              (subst (λ cs. m < length (places_in cs)) (sym whole_is)
              (omega (arith, among, length-map (document_terms (Whole ++ rest)) (λ t. (term_of t).place), ap length (terms_append Whole rest), length-append (document_terms Whole) (commands_terms (abbreviations_behind Whole) (names_behind Whole) (scope_behind Whole) rest))))
              (subst (λ (p : Place). IsBlamed p.scope p.here d) place is.blamed)
              (subst (λ (p : Place). IsBlamedFor p.scope p.here b.code d) place is.why)
              (own ∙ sym (ap (fault_at b.code) text_span))
              (subst (λ k. IsMismatch (place_in Commands k).scope (place_in Commands k).here e.mismatch d) number told),
        )

    all_told : (own : List Blamed) (told : List ExplainedFault) → AllByRecursion (λ b. b.number < length (table (c ∷ [])).places) own
        → AllByRecursion (IsBlameOf 0 (places_in Whole) d) (renumbered (length found) own) → AreToldOf Alone own told d
        → (map (λ e. e.fault) told ≡ map (own_fault c) own) × AllByRecursion (IsExplained Commands d) told
    all_told [] [] inside are told = (refl, tt)
    all_told [] (e ∷ es) inside are told = absurd told
    all_told (b ∷ own) [] inside are told = absurd told
    all_told (b ∷ own) (e ∷ es) inside are told =
        let one = one_told b e inside.0 are.0 told.0 told.1 in
        let others = all_told own es inside.1 are.1 told.2 in
        ((λ i. one.0 i ∷ others.0 i), (one.1, others.1))

    -- what was added of the command is what is to be told of its faults
    pub are_added : (os : List (Option Typ)) (bs : List Blamed) → Shown (places_in Alone) 0 os bs d → (old now told : List ExplainedFault) (fs : List Fault)
        → fs ≡ map written_fault (faults_in (abbreviations_behind done) (written_in_command c))
        → now ≡ (old ++ map unexplained fs) ++ told → AreToldOf Alone bs told d → AreAdded Commands t.faults old now d
    are_added os bs alone old now told fs written are of =
        let inside = recursion_from_All (λ b. b.number < length (table (c ∷ [])).places) more.own more.inside in
        let every = every_parts (IsBlameOf 0 (places_in Whole) d) blames (renumbered (length found) more.own)
        (each_blamed 0 (places_in Whole) (blames ++ renumbered (length found) more.own) d more.checked.shown.blamed) in
        let all = all_told more.own told inside every.1 (subst (λ xs. AreToldOf Alone xs told d) (blames_are os bs alone) of) in
        let in_written = subst (λ xs. AllByRecursion (IsExplained Commands d) (map unexplained xs)) (sym written)
        (written_explained Commands d (faults_in (abbreviations_behind done) (written_in_command c))) in
        record {
          added = map unexplained fs ++ told;
          are = are ∙ append_assoc old (map unexplained fs) told;
          same = faults_joined (map unexplained fs) told ∙ (λ i. (faults_untold fs ∙ written) i ++ all.0 i) ∙ sym more.faults;
          each = All-from_recursion (IsExplained Commands d) (map unexplained fs ++ told)
              (every_append (IsExplained Commands d) (map unexplained fs) told in_written all.1);
        }
