-- The entries of binders, one after the other, as numbers of a table that grows.
use Rattle.std.proofs.Common.{◌≡◌, ℕ, ◌+◌, ◌<◌, List, [], ◌∷◌, ◌++◌, length, map, drop, get_or, drop-cons, add-one, Option, None, zero, suc, ap, sym, subst, ◌∙◌, append_assoc, refl, ◌≤◌}
use Rattle.std.proofs.Math.ListN.{drop_of_length-le}
use Rattle.lam_rules.specs.Types.{Typ}
use Rattle.lam_rules.specs.Numbers.{Keeps}
use Rattle.lam_rules.specs.declared.numbers.TyNo.{TyNo}
use Rattle.lam_rules.proofs.Tables.{keeps_trans}
use Rattle.lam_scope.specs.declared.numbers.Origin.{Origin}
use Rattle.lam_rules.specs.Typing.{IsWellFormedEntry}
use Rattle.lam_scope.specs.Places.{Statement}
use Rattle.lam_scope.specs.WellFormed.{AreWellFormedStatements}
use Rattle.std.proofs.lemmas.List.{append-nil, map-append}
use Rattle.lam_typing.specs.Entries.{entry_from}
use Rattle.lam_typing.specs.inner.Notes.{entry_told}
use Rattle.lam_typing.specs.inner.Ends.{AreSourcesOf, AreWellFormedSources}
use Rattle.lam_typing.specs.declared.noting.Source.{Source}
use Rattle.lam_typing.proofs.WellFormedPlaces.{entry_wf}
use Rattle.lam_typing.specs.Answers.{answer, answers, StandsWhereFound, AllStandIn}
use Rattle.lam_typing.proofs.Growing.{answers_keep, answers-push, all_stand_keep, all_stand_push}

-- The first entries are numbered, and the others are to come.
pub record AreNumbered {X : Type 0} (first now : List Typ) (entry : X → Option Typ) (done : List (Option TyNo)) (left all : List X) : Type 0 where
  pub keeps : Keeps first now
  pub stand : AllStandIn now done
  pub told : answers now done ++ map entry left ≡ map entry all

pub numbered_more : {X : Type 0} (first old now : List Typ) (entry : X → Option Typ) (done more : List (Option TyNo)) (number : Option TyNo) (i : ℕ) (o : X) (all : List X)
    → i < length all → Keeps old now → StandsWhereFound now number → answer now number ≡ entry (get_or all i o) → more ≡ done ++ number ∷ []
    → AreNumbered first old entry done (drop i all) all → AreNumbered first now entry more (drop (i + 1) all) all
numbered_more first old now entry done more number i o all inside keeps stands is put numbered =
    let before : answers now done ≡ answers old done = answers_keep old now done keeps numbered.stand in
    let one : answers now more ≡ answers old done ++ entry (get_or all i o) ∷ [] =
    ap (answers now) put ∙ answers-push now done number ∙ ap (λ os. os ++ answer now number ∷ []) before ∙ ap (λ e. answers old done ++ e ∷ []) is in
    let rest : map entry (drop i all) ≡ entry (get_or all i o) ∷ map entry (drop (i + 1) all) =
    ap (map entry) (drop-cons all i o inside) ∙ ap (λ n. entry (get_or all i o) ∷ map entry (drop n all)) (sym (add-one i)) in
    record {
      keeps = keeps_trans first old now numbered.keeps keeps;
      stand = subst (λ os. AllStandIn now os) (sym put) (all_stand_push now done number (all_stand_keep old now done keeps numbered.stand) stands);
      told =
          ap (λ os. os ++ map entry (drop (i + 1) all)) one
          ∙ append_assoc (answers old done) (entry (get_or all i o) ∷ []) (map entry (drop (i + 1) all))
          ∙ ap (λ os. answers old done ++ os) (sym rest)
          ∙ numbered.told;
    }

-- a number that was found, or none
pub stands_or_none : (ts : List Typ) (os : List (Option TyNo)) (k : ℕ) → AllStandIn ts os → StandsWhereFound ts (get_or os k None)
stands_or_none ts [] k stand = tt
stands_or_none ts (o ∷ os) zero stand = stand.0
stands_or_none ts (o ∷ os) (suc k) stand = stands_or_none ts os k stand.1

-- the source of one more binder is put behind the others
pub sourced_more : (ss : List Statement) (done more : List (Option Source)) (source : Option Source) (i : ℕ) (o : Origin) (all : List Origin)
    → i < length all → ((found : List (Option Typ)) → entry_told found source ≡ entry_from ss found (get_or all i o)) → more ≡ done ++ source ∷ []
    → ((found : List (Option Typ)) → map (entry_told found) done ++ map (entry_from ss found) (drop i all) ≡ map (entry_from ss found) all)
    → (found : List (Option Typ)) → map (entry_told found) more ++ map (entry_from ss found) (drop (i + 1) all) ≡ map (entry_from ss found) all
sourced_more ss done more source i o all inside is put told found =
    let f = entry_told found in
    let g = entry_from ss found in
    let one : map f more ≡ map f done ++ g (get_or all i o) ∷ [] = ap (map f) put ∙ map-append f done (source ∷ []) ∙ ap (λ e. map f done ++ e ∷ []) (is found) in
    let rest : map g (drop i all) ≡ g (get_or all i o) ∷ map g (drop (i + 1) all) =
    ap (map g) (drop-cons all i o inside) ∙ ap (λ n. g (get_or all i o) ∷ map g (drop n all)) (sym (add-one i)) in
    ap (λ os. os ++ map g (drop (i + 1) all)) one
    ∙ append_assoc (map f done) (g (get_or all i o) ∷ []) (map g (drop (i + 1) all))
    ∙ ap (λ os. map f done ++ os) (sym rest)
    ∙ told found

told_at : (sources : List (Option Source)) (i : ℕ) → entry_told [] (get_or sources i None) ≡ get_or (map (entry_told []) sources) i None
told_at [] i = refl
told_at (s ∷ sources) zero = refl
told_at (s ∷ sources) (suc i) = told_at sources i

entries_wf : (ss : List Statement) (origins : List Origin) (i : ℕ) → AreWellFormedStatements ss → IsWellFormedEntry (get_or (map (entry_from ss []) origins) i None)
entries_wf ss [] i wf = tt
entries_wf ss (o ∷ origins) zero wf = entry_wf ss o wf
entries_wf ss (o ∷ origins) (suc i) wf = entries_wf ss origins i wf

pub sources_wf : (ss : List Statement) (origins : List Origin) (sources : List (Option Source)) → AreWellFormedStatements ss → AreSourcesOf ss origins sources → AreWellFormedSources sources
sources_wf ss origins sources wf told = λ i. subst IsWellFormedEntry (sym (told_at sources i ∙ ap (λ os. get_or os i None) (told []))) (entries_wf ss origins i wf)

-- the source of each binder is there
pub sourced_all : (ss : List Statement) (done : List (Option Source)) (i : ℕ) (all : List Origin) → length all ≤ i
    → ((found : List (Option Typ)) → map (entry_told found) done ++ map (entry_from ss found) (drop i all) ≡ map (entry_from ss found) all)
    → (found : List (Option Typ)) → map (entry_told found) done ≡ map (entry_from ss found) all
sourced_all ss done i all past told found =
    sym (append-nil (map (entry_told found) done)) ∙ ap (λ os. map (entry_told found) done ++ map (entry_from ss found) os) (sym (drop_of_length-le all past)) ∙ told found
