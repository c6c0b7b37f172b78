-- Lists of explained faults that are made one by one.
use Rattle.std.proofs.Common.{◌≡◌, ℕ, ◌+◌, ◌<◌, ◌≤◌, List, [], ◌∷◌, ◌++◌, append_assoc, append-nil, length, map, drop, get_or, None, refl, sym, ap, subst, ◌∙◌}
use Rattle.std.specs.Option.{option_map}
use Rattle.std.proofs.lemmas.List.{drop_more, map-append}
use Rattle.std.proofs.Math.ListN.{drop_of_length-le}
use Rattle.lam_rules.specs.declared.rules.Dialect.{Dialect}
use Rattle.lam_syntax.specs.Trees.{CommandTree}
use Rattle.lam_scope.specs.Labels.{place_in}
use Rattle.lam_scope.specs.Tables.{place_row_numbered}
use Rattle.lam_scope.specs.Views.{AreScopesOf, table_of}
use Rattle.lam_scope.specs.declared.scopes.Scopes.{Scopes}
use Rattle.lam_typing.specs.Walk.{blamed_of, blames_of}
use Rattle.lam_typing.specs.declared.blame.Blame.{Blame}
use Rattle.lam_query.specs.declared.answers.ExplainedFault.{ExplainedFault as RustExplainedFault}
use Rattle.lam_query.specs.declared.answers.Fault.{Fault as RustFault}
use Rattle.lam_query.specs.declared.typings.Types.{Types}
use Rattle.lam_query.specs.Mismatches.{IsMismatch, ExplainedFault}
use Rattle.lam_query.specs.Views.{fault_of, mismatch_of, explained_of}
use Rattle.lam_query.specs.TextFaults.{blame_fault}
use Rattle.lam_query.specs.inner.Explained.{unexplained, AreToldOf}
use Rattle.lam_query.specs.inner.Kept.{span_after, fault_after, Fits, AllFit}
use Rattle.lam_query.specs.inner.Typings.{AreTypesOf}
use Rattle.lam_query.proofs.FaultsPlaced.{fault_fits}
use Rattle.lam_query.proofs.RowsAndTerms.{span_told}

-- ---- of which nothing is told

-- one more
pub explained_pushed : (n : ℕ) (fs : List RustFault) (i : ℕ) (e : RustFault) (f : RustExplainedFault) → i < length fs → (found more : List RustExplainedFault)
    (all : List ExplainedFault)
    → f.fault.code ≡ (get_or fs i e).code → (Fits (span_after n (get_or fs i e).span) → f.fault.span ≡ span_after n (get_or fs i e).span) → f.mismatch ≡ None
    → more ≡ found ++ f ∷ []
    → (AllFit (map (λ f. fault_after n (fault_of f)) fs) → map explained_of found ++ map unexplained (map (λ f. fault_after n (fault_of f)) (drop i fs)) ≡ all)
    → AllFit (map (λ f. fault_after n (fault_of f)) fs) → map explained_of more ++ map unexplained (map (λ f. fault_after n (fault_of f)) (drop (i + 1) fs)) ≡ all
explained_pushed n fs i e f lt found more all code span none pushed so_far fit =
    let others = map unexplained (map (λ f. fault_after n (fault_of f)) (drop (i + 1) fs)) in
    let same_span = span (fault_fits n fs i e fit lt) in
    let same_fault : fault_of f.fault ≡ fault_after n (fault_of (get_or fs i e)) = rw (code, same_span) refl in
    let same : explained_of f ≡ unexplained (fault_after n (fault_of (get_or fs i e))) =
    λ j. record { fault = same_fault j; mismatch = option_map mismatch_of (none j) } in
    ap (λ fs. map explained_of fs ++ others) pushed
    ∙ ap (λ fs. fs ++ others) (map-append explained_of found (f ∷ []))
    ∙ append_assoc (map explained_of found) (explained_of f ∷ []) others
    ∙ ap (λ g. map explained_of found ++ g ∷ others) same
    ∙ ap (λ fs. map explained_of found ++ map unexplained (map (λ f. fault_after n (fault_of f)) fs)) (sym (drop_more fs i e lt))
    ∙ so_far fit

-- ---- of terms that are to blame

-- what is told of those so far was added, and with what is told of the others it is told of all
pub record AreToldSoFar (scopes : Scopes) (types : Types) (blames : List Blame) (i : ℕ) (old now : List ExplainedFault) (commands : List CommandTree) (d : Dialect) : Type 0 where
  pub added : List ExplainedFault
  pub are : now ≡ old ++ added
  pub told : (more : List ExplainedFault) → AreToldOf commands (blames_of (drop i blames)) more d → AreToldOf commands (blames_of blames) (added ++ more) d

pub none_told : (scopes : Scopes) (types : Types) (blames : List Blame) (old : List ExplainedFault) (commands : List CommandTree) (d : Dialect)
    → AreToldSoFar scopes types blames 0 old old commands d
none_told scopes types blames old commands d = record { added = []; are = sym (append-nil old); told = λ more are. are }

pub one_told : (scopes : Scopes) (types : Types) (blames : List Blame) (i : ℕ) (e : Blame) (old : List ExplainedFault) (found more : List RustExplainedFault)
    (f : RustExplainedFault) → i < length blames → more ≡ found ++ f ∷ []
    → f.fault.code ≡ (get_or blames i e).code → f.fault.span ≡ (place_row_numbered (table_of scopes) (get_or blames i e).place.0).span
    → ((commands : List CommandTree) (d : Dialect) → AreScopesOf scopes commands → AreTypesOf commands types d
    → IsMismatch (place_in commands (get_or blames i e).place.0).scope (place_in commands (get_or blames i e).place.0).here (option_map mismatch_of f.mismatch) d)
    → (commands : List CommandTree) (d : Dialect) → AreScopesOf scopes commands → AreTypesOf commands types d
    → AreToldSoFar scopes types blames i old (map explained_of found) commands d → AreToldSoFar scopes types blames (i + 1) old (map explained_of more) commands d
one_told scopes types blames i e old found more f lt pushed code span told commands d of are so_far =
    let b : Blame = get_or blames i e in
    let one = explained_of f in
    let fault : one.fault ≡ blame_fault commands (blamed_of b) =
    let spans = span ∙ ap (λ t. (place_row_numbered t b.place.0).span) of.same_table ∙ span_told commands b.place.0 in
    λ j. record { code = (code j).now; span = spans j } in
    record {
      added = so_far.added ++ one ∷ [];
      are =
          ap (map explained_of) pushed ∙ map-append explained_of found (f ∷ []) ∙ ap (λ es. es ++ one ∷ []) so_far.are
          ∙ append_assoc old so_far.added (one ∷ []);
      told = λ others rest.
          subst (λ es. AreToldOf commands (blames_of blames) es d) (sym (append_assoc so_far.added (one ∷ []) others))
          (so_far.told (one ∷ others)
          (subst (λ bs. AreToldOf commands (blames_of bs) (one ∷ others) d) (sym (drop_more blames i e lt))
          (fault, told commands d of are, rest)));
    }

pub all_told : (scopes : Scopes) (types : Types) (blames : List Blame) (i : ℕ) (old now : List ExplainedFault) (commands : List CommandTree) (d : Dialect)
    → length blames ≤ i → AreToldSoFar scopes types blames i old now commands d
    → (added : List ExplainedFault) × (now ≡ old ++ added) × AreToldOf commands (blames_of blames) added d
all_told scopes types blames i old now commands d le so_far = (
  so_far.added,
  so_far.are,
  subst (λ es. AreToldOf commands (blames_of blames) es d) (append-nil so_far.added)
      (so_far.told [] (subst (λ bs. AreToldOf commands (blames_of bs) [] d) (sym (drop_of_length-le blames le)) tt)),
)
