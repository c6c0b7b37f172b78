-- What is known of the commands up to a front, with one row more.
use Rattle.std.proofs.Common.{◌≡◌, ◌+◌, List, [], ◌∷◌, ◌++◌, length, map, ap, sym, subst, ◌∙◌, Option, Some, None}
use Rattle.std.specs.Prelude.{if◌then◌else◌}
use Rattle.std.specs.Option.{option_or}
use Rattle.std.specs.List.Sorted.{IsPermutation}
use Rattle.std.proofs.lemmas.List.{length-map, map-append}
use Rattle.std.proofs.lemmas.List.Sorted.{IsPermutation-append_left, IsPermutation-trans}
use Rattle.lam_token.specs.declared.span.Span.{Span}
use Rattle.lam_rules.specs.Types.{Typ}
use Rattle.lam_rules.specs.declared.numbers.TyNo.{TyNo}
use Rattle.lam_rules.specs.declared.rules.Dialect.{Dialect}
use Rattle.lam_syntax.specs.Trees.{CommandTree}
use Rattle.lam_scope.specs.Names.{Name, binds}
use Rattle.lam_scope.specs.Nameless.{written_in_command, faults_in, first_over_limit, faults, first_too_large}
use Rattle.lam_scope.specs.PlacedTerms.{term_of, document_terms}
use Rattle.lam_typing.specs.Analysis.{IsFirstTooLarge}
use Rattle.lam_typing.specs.Answers.{answer, answers}
use Rattle.lam_typing.specs.Blaming.{Blamed, renumbered}
use Rattle.lam_typing.proofs.Together.{least_length}
use Rattle.lam_query.specs.Sizes.{places_in, span_numbered}
use Rattle.lam_query.specs.TextFaults.{written_fault, blame_fault}
use Rattle.lam_query.specs.inner.Checked.{abbreviations_behind, context_after, AreChecked}
use Rattle.lam_query.specs.inner.Entered.{name_bound, type_name_bound, type_bound}
use Rattle.lam_query.specs.inner.Kept.{CommandRow, Found, written_too_large, term_too_large, typed, FoundTypes, Row, found_in, large_written_type, large_term, all_types, all_faults}
use Rattle.lam_query.specs.inner.Rows.{with_entry, own_fault, IsWrittenIn, IsLargeTermAt, AreTypesFound, IsFoundIn, IsFoundOf, IsKeptOf, Front, front_with, AreAllTyped}
use Rattle.lam_query.proofs.CheckedLists.{faults_push}
use Rattle.lam_query.proofs.FoundOfCommand.{none_written, written_stops}
use Rattle.lam_query.proofs.CommandsToCome.{one_comes, one_more, term_span, blames_told}
use Rattle.lam_query.proofs.KnownFronts.{IsTermTooLarge, IsKnownBy, types_more, faults_more, middle_swapped, types_behind, none_binding, with_command, no_command_known}
use Rattle.lam_query.proofs.Meanings.{entry_behind}

-- ---- a command

module _ (f : Front) (rows : List Row) (r : Row) (c : CommandTree) (ts : List Typ) (d : Dialect) where
  -- its first written type that is too large is the first of the document
  written_known : (s : Span) → first_too_large [] f.commands ≡ None → first_over_limit (abbreviations_behind f.commands) (written_in_command c) ≡ Some s
      → (rest : List CommandTree) → first_too_large [] ((f.commands ++ c ∷ []) ++ rest) ≡ Some s
  written_known s none over =
      one_comes (λ cs. first_too_large [] cs ≡ Some s) f.commands c (λ rest. written_stops f.commands c s rest none over)

  -- a term of a command before it is too large
  term_still : (s : Span) (number : Option TyNo) → IsTermTooLarge f.commands f.types s d
      → first_over_limit (abbreviations_behind f.commands) (written_in_command c) ≡ None
      → ((x : Name) → type_name_bound c ≡ Some x → answer ts number ≡ type_bound (abbreviations_behind f.commands) c)
      → IsTermTooLarge (f.commands ++ c ∷ []) (with_entry (type_name_bound c) (answer ts number) f.types) s d
  term_still s number known within binding = record {
    written = none_written f.commands c known.written within;
    types = types_behind f.commands c ts number f.types known.types binding;
    number = known.number;
    first = one_more (λ cs. IsFirstTooLarge (places_in cs) known.number d) f.commands c known.first;
    span = one_more (λ cs. span_numbered cs known.number ≡ s) f.commands c known.span;
  }

  module _ (known : AreAllTyped f rows ts d) where
    -- what was found has an entry for each term
    terms_counted : length (answers ts (all_types rows)) ≡ length (document_terms f.commands)
    terms_counted =
        sym (least_length (places_in f.commands) (answers ts (all_types rows)) d known.checked.shown.least)
        ∙ length-map (document_terms f.commands) (λ t. (term_of t).place)

    -- a term of it is too large
    term_known : (s : Span) → IsWrittenIn (abbreviations_behind f.commands) c ts (term_too_large s)
        → IsLargeTermAt f.commands (length (answers ts (all_types rows))) c s d
        → IsTermTooLarge (f.commands ++ c ∷ []) (with_entry (type_name_bound c) None f.types) s d
    term_known s written large =
        let before = document_terms f.commands in
        record {
          written = none_written f.commands c known.checked.none_too_large written.0;
          types = types_behind f.commands c ts None f.types known.types (none_binding (type_name_bound c) None _ written.1);
          number = length before + large.number;
          first =
              one_comes (λ cs. IsFirstTooLarge (places_in cs) (length before + large.number) d) f.commands c
              (λ rest. subst (λ k. IsFirstTooLarge (places_in (f.commands ++ c ∷ rest)) (k + large.number) d) terms_counted (large.first rest));
          span =
              one_comes (λ cs. span_numbered cs (length before + large.number) ≡ s) f.commands c
              (λ rest. term_span f.commands c rest large.number large.inside ∙ sym large.span);
        }

    -- none is
    module _ (k : CommandRow) (t : FoundTypes) (written : IsWrittenIn (abbreviations_behind f.commands) c ts (typed t))
        (more : AreTypesFound f.commands known.context (answers ts (all_types rows)) known.blames c ts t d) where
      -- the row
      abbrev Typed : Row
      Typed = with_command r (Some (record k { found = typed t }))

      -- those to blame, numbered in the document
      abbrev Codes : List Blamed
      Codes = renumbered (length (answers ts (all_types rows))) more.own

      typed_faults : (rest : List CommandTree)
          → IsPermutation (map written_fault (faults [] (f.commands ++ c ∷ [])) ++ map (blame_fault (f.commands ++ c ∷ rest)) (known.blames ++ Codes))
          (all_faults (rows ++ Typed ∷ []))
      typed_faults rest =
          let written_before = map written_fault (faults [] f.commands) in
          let written_here = map written_fault (faults_in (abbreviations_behind f.commands) (written_in_command c)) in
          let blamed_before = map (blame_fault (f.commands ++ c ∷ rest)) known.blames in
          let blamed_here = map (own_fault c) more.own in
          let all_written : map written_fault (faults [] (f.commands ++ c ∷ [])) ≡ written_before ++ written_here =
          ap (map written_fault) (faults_push f.commands c) ∙ map-append written_fault (faults [] f.commands) _ in
          let all_blamed : map (blame_fault (f.commands ++ c ∷ rest)) (known.blames ++ Codes) ≡ blamed_before ++ blamed_here =
          map-append (blame_fault (f.commands ++ c ∷ rest)) known.blames Codes
          ∙ ap (λ fs. blamed_before ++ fs) (sym (blames_told f.commands c rest (length (answers ts (all_types rows))) more.own terms_counted more.inside)) in
          let all : all_faults (rows ++ Typed ∷ []) ≡ all_faults rows ++ (written_here ++ blamed_here) =
          faults_more rows Typed ∙ ap (λ fs. all_faults rows ++ fs) more.faults in
          let here = written_here ++ blamed_here in
          subst (λ fs. IsPermutation fs (all_faults (rows ++ Typed ∷ []))) (sym (λ i. all_written i ++ all_blamed i))
          (subst (IsPermutation ((written_before ++ written_here) ++ (blamed_before ++ blamed_here))) (sym all)
          (IsPermutation-trans _ _ _ (middle_swapped written_before written_here blamed_before blamed_here)
          (IsPermutation-append_left here (written_before ++ blamed_before) (all_faults rows) (known.faults (c ∷ rest)))))

      all_typed : AreAllTyped (front_with f (c ∷ []) ts Typed) (rows ++ Typed ∷ []) ts d
      all_typed =
          let context = context_after known.context c (answer ts t.bound) in
          record {
            context = context;
            blames = known.blames ++ Codes;
            checked = subst (λ os. AreChecked (f.commands ++ c ∷ []) context os (known.blames ++ Codes) d) (sym (types_more ts rows Typed)) more.checked;
            names = λ x.
                ap (λ o. if binds (name_bound c) x then Some (answer ts t.bound) else o) (known.names x)
                ∙ sym (entry_behind x f.commands known.context c (answer ts t.bound));
            types = types_behind f.commands c ts t.bound f.types known.types written.1;
            faults = one_comes
                (λ cs. IsPermutation (map written_fault (faults [] (f.commands ++ c ∷ [])) ++ map (blame_fault cs) (known.blames ++ Codes))
                (all_faults (rows ++ Typed ∷ []))) f.commands c typed_faults;
          }

  -- whatever was found of it
  command_known : (w t : Option Span) (k : CommandRow) → IsKnownBy f rows ts w t d → IsFoundOf f.names f.types c ts k.found d
      → IsKnownBy (front_with f (c ∷ []) ts (with_command r (Some k))) (rows ++ with_command r (Some k) ∷ []) ts
      (option_or w (large_written_type (Some k.found))) (option_or t (large_term (Some k.found))) d
  command_known (Some s) t k known is = one_more (λ cs. first_too_large [] cs ≡ Some s) f.commands c known
  command_known None (Some s) k known is = by k.found (is.written (abbreviations_behind f.commands) (λ x there. known.types x))
    where
      by : (found : Found) → IsWrittenIn (abbreviations_behind f.commands) c ts found
          → IsKnownBy (front_with f (c ∷ []) ts (with_command r (Some (record k { found = found })))) (rows ++ with_command r (Some (record k { found = found })) ∷ []) ts
          (large_written_type (Some found)) (Some s) d
      by (written_too_large u) written = written_known u known.written written
      by (term_too_large u) written = term_still s None known written.0 (none_binding (type_name_bound c) None _ written.1)
      by (typed t) written = term_still s t.bound known written.0 written.1
  command_known None None k known is =
      by k.found (is.written (abbreviations_behind f.commands) (λ x there. known.types x))
      (is.found f.commands known.context (answers ts (all_types rows)) known.blames known.checked
      (record { names = λ x there. known.names x; types = λ x there. known.types x }))
    where
      by : (found : Found) → IsWrittenIn (abbreviations_behind f.commands) c ts found
          → IsFoundIn f.commands known.context (answers ts (all_types rows)) known.blames c ts found d
          → IsKnownBy (front_with f (c ∷ []) ts (with_command r (Some (record k { found = found })))) (rows ++ with_command r (Some (record k { found = found })) ∷ []) ts
          (large_written_type (Some found)) (large_term (Some found)) d
      by (written_too_large u) written here = written_known u known.checked.none_too_large written
      by (term_too_large u) written here = term_known known u written here
      by (typed t) written here = all_typed known k t written here

-- ---- a piece

-- that is a command, or none
piece_known : (f : Front) (rows : List Row) (r : Row) (own : List CommandTree) (command : Option CommandRow) (ts : List Typ) (d : Dialect)
    (w t : Option Span) → IsKnownBy f rows ts w t d → IsKeptOf f.names f.types own ts command d
    → IsKnownBy (front_with f own ts (with_command r command)) (rows ++ with_command r command ∷ []) ts
    (option_or w (large_written_type (found_in (with_command r command)))) (option_or t (large_term (found_in (with_command r command)))) d
piece_known f rows r [] None ts d w t known kept = no_command_known f rows r ts d w t known
piece_known f rows r [] (Some k) ts d w t known kept = absurd kept
piece_known f rows r (c ∷ []) None ts d w t known kept = absurd kept
piece_known f rows r (c ∷ []) (Some k) ts d w t known kept = command_known f rows r c ts d w t k known kept
piece_known f rows r (c ∷ e ∷ cs) command ts d w t known kept = absurd kept

pub row_more : (f : Front) (rows : List Row) (own : List CommandTree) (r : Row) (ts : List Typ) (d : Dialect) (w t : Option Span)
    → IsKnownBy f rows ts w t d → IsKeptOf f.names f.types own ts r.command d
    → IsKnownBy (front_with f own ts r) (rows ++ r ∷ []) ts (option_or w (large_written_type (found_in r))) (option_or t (large_term (found_in r))) d
row_more f rows own r ts d w t known kept = piece_known f rows r own r.command ts d w t known kept
