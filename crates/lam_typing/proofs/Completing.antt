-- What is promised of the typing that is made from a finished walk and the entries of the document's binders.
use Rattle.std.proofs.Common.{◌≡◌, ℕ, ◌+◌, List, [], ◌∷◌, length, map, take, Option, Some, None, Result, Ok, Err, IfOk, IfErr, ap, refl, sym, subst, ◌∙◌, arith, zero, suc}
use Rattle.lam_rules.specs.Types.{Typ}
use Rattle.lam_rules.specs.declared.rules.Dialect.{Dialect}
use Rattle.lam_scope.specs.Places.{Place, Statement, places_of}
use Rattle.lam_scope.specs.declared.numbers.Place.{Place as PlaceNumber}
use Rattle.lam_scope.specs.declared.numbers.Origin.{Origin}
use Rattle.lam_scope.specs.declared.numbers.Origin.TheVariants.{Lambda, Term as TermAt, Declaration, TypeName}
use Rattle.lam_typing.specs.Analysis.{AreLeast, IsFirstTooLarge}
use Rattle.lam_typing.specs.Answers.{answers}
use Rattle.lam_typing.specs.Entries.{IsLeastFrom, HasTermAmong, entry_from}
use Rattle.lam_typing.specs.Progress.{Went}
use Rattle.lam_typing.specs.inner.Seeing.{LeastAmong}
use Rattle.lam_typing.specs.Walk.{Grows, IsSoundWalk, progress_of, entries_of, HasStoppedAmong}
use Rattle.lam_typing.specs.Typings.{found_of, dialect_of, IsAnalysis, IsTypingOf, AreEntries, IsFaultOf}
use Rattle.lam_typing.specs.inner.Ends.{Begins, AreSourcesOf, Completes, IsEndOf, up_to}
use Rattle.lam_typing.specs.declared.noting.Source.{Source}
use Rattle.lam_typing.specs.declared.fault.TypingFault.{TypingFault}
use Rattle.lam_typing.specs.declared.typing.Typing.{Typing}
use Rattle.lam_typing.specs.declared.checker.TypeChecker.{TypeChecker}
use Rattle.lam_typing.specs.declared.walking.Stop.{Stop}
use Rattle.lam_typing.proofs.Growing.{answers_keep}
use Rattle.lam_typing.proofs.Glue.{progress_same, retabled_grows}
use Rattle.lam_typing.proofs.Together.{least_length}
use Rattle.lam_typing.proofs.Finishing.{HasWalked, analysed, stopped_behind_last, stopped_at_large}

-- the analysis, by the later table

has_walked : (w : TypeChecker) (ss : List Statement) (origins : List Origin) (t : Typing) → Completes w ss origins t → HasWalked (record w { table = t.table }) t
has_walked w ss origins t completes = record { table = refl; found = completes.found; blames = completes.blames }

pub analysis_of_all : (w0 w : TypeChecker) (last : Option PlaceNumber) (ss : List Statement) (origins : List Origin) (t : Typing) (d : Dialect) → Begins w0 last → Grows w0 w
    → Went (entries_of w0) (λ s. places_of s ss) (progress_of w0) (progress_of w) d → Completes w ss origins t → IsAnalysis (up_to last (places_of [] ss)) t d
analysis_of_all w0 w last ss origins t d begins grows went completes =
    let now = t.table in
    let keeps = completes.keeps in
    let same = progress_same w (record w { table = now }) grows.sound keeps refl refl in
    analysed w0 (record w { table = now }) last ss t d begins (retabled_grows grows keeps)
    (subst (λ p. Went (entries_of w0) (λ s. places_of s ss) (progress_of w0) p d) (sym same) went) (has_walked w ss origins t completes)

pub analysis_of_some : (w0 w : TypeChecker) (last : Option PlaceNumber) (ss : List Statement) (origins : List Origin) (t : Typing) (d : Dialect) → Begins w0 last → Grows w0 w
    → HasStoppedAmong Stop.Enough (entries_of w0) (λ s. places_of s ss) w0 w d → Completes w ss origins t → IsAnalysis (up_to last (places_of [] ss)) t d
analysis_of_some w0 w last ss origins t d begins grows stopped completes =
    let now = t.table in
    let keeps = completes.keeps in
    let same = progress_same w (record w { table = now }) grows.sound keeps refl refl in
    stopped_behind_last w0 (record w { table = now }) last ss t d begins (retabled_grows grows keeps)
    (rw same stopped.0, stopped.1) (has_walked w ss origins t completes)

-- a typing of the document

all_taken : (ps : List Place) (n : ℕ) → n ≡ length ps → take n ps ≡ ps
all_taken [] n e = rw e refl
all_taken (p ∷ ps) zero e = absurd (omega arith)
all_taken (p ∷ ps) (suc n) e = ap (λ qs. p ∷ qs) (all_taken ps n (omega arith))

taken_again : (ps : List Place) (m n : ℕ) → n ≡ length (take m ps) → take n ps ≡ take m ps
taken_again ps zero n e = rw e refl
taken_again [] (suc m) n e = rw e refl
taken_again (p ∷ ps) (suc m) zero e = absurd (omega arith)
taken_again (p ∷ ps) (suc m) (suc n) e = ap (λ qs. p ∷ qs) (taken_again ps m n (omega arith))

taken_up_to : (last : Option PlaceNumber) (ps : List Place) (n : ℕ) → n ≡ length (up_to last ps) → take n ps ≡ up_to last ps
taken_up_to None ps n e = all_taken ps n e
taken_up_to (Some last) ps n e = taken_again ps (last.0 + 1) n e

pub typing_of : (last : Option PlaceNumber) (ss : List Statement) (t : Typing) (d : Dialect) → IsAnalysis (up_to last (places_of [] ss)) t d → dialect_of t ≡ d → IsTypingOf ss t
typing_of last ss t d analysis is =
    let taken = taken_up_to last (places_of [] ss) (length (found_of t)) (sym (least_length (up_to last (places_of [] ss)) (found_of t) d analysis.least)) in
    record {
      least = subst (λ ps. AreLeast ps (found_of t) (dialect_of t)) (sym taken) (subst (λ e. AreLeast (up_to last (places_of [] ss)) (found_of t) e) (sym is) analysis.least);
    }

-- its entries

pub least_among : (ps : List Place) (found : List (Option Typ)) (d : Dialect) → AreLeast (take (length found) ps) found d → LeastAmong ps found d
least_among ps [] d least n lt = absurd (omega arith)
least_among [] (o ∷ found) d least n lt = absurd least
least_among (p ∷ ps) (o ∷ found) d least zero lt = least.0
least_among (p ∷ ps) (o ∷ found) d least (suc n) lt = least_among ps found d least.1 n (omega arith)

least_told : (ss : List Statement) (t : Typing) (o : Origin) → LeastAmong (places_of [] ss) (found_of t) (dialect_of t) → HasTermAmong o (length (found_of t)) → IsLeastFrom ss o (entry_from ss (found_of t) o) (dialect_of t)
least_told ss t (Lambda p) least among = refl
least_told ss t (TermAt p) least among = least p.0 among
least_told ss t (Declaration i) least among = refl
least_told ss t TypeName least among = refl

pub entries_of_typing : (w : TypeChecker) (ss : List Statement) (origins : List Origin) (t : Typing) → IsSoundWalk w → IsTypingOf ss t → Completes w ss origins t → AreEntries ss origins t
entries_of_typing w ss origins t sound typing completes =
    let same : found_of t ≡ answers w.table w.found.items = ap (λ os. answers t.table os) completes.found ∙ answers_keep w.table t.table w.found.items completes.keeps sound.found in
    record {
      each = completes.entries ∙ ap (λ found. map (entry_from ss found) origins) (sym same);
      least = λ o among. least_told ss t o (least_among (places_of [] ss) (found_of t) (dialect_of t) typing.least) among;
    }

-- what is answered at the end of a walk

pub record Answer (ss : List Statement) (origins : List Origin) (last : Option PlaceNumber) (r : Result Typing TypingFault) (d : Dialect) : Type 0 where
  pub analysis : IfOk r (λ t. IsAnalysis (up_to last (places_of [] ss)) t d)
  pub of : IfOk r (λ t. IsTypingOf ss t)
  pub entries : IfOk r (λ t. AreEntries ss origins t)
  pub dialect : IfOk r (λ t. dialect_of t ≡ d)
  pub fault : IfErr r (λ fault. IsFaultOf fault (up_to last (places_of [] ss)) d)

answer_ok : (w : TypeChecker) (last : Option PlaceNumber) (ss : List Statement) (origins : List Origin) (t : Typing) (d : Dialect) → IsSoundWalk w → w.verdicts.dialect ≡ d
    → IsAnalysis (up_to last (places_of [] ss)) t d → Completes w ss origins t → Answer ss origins last (Ok t) d
answer_ok w last ss origins t d sound same analysis completes =
    let is : dialect_of t ≡ d = completes.dialect ∙ same in
    let typing = typing_of last ss t d analysis is in
    record { analysis = analysis; of = typing; entries = entries_of_typing w ss origins t sound typing completes; dialect = is; fault = tt }

-- the result for these sources, whatever document they are of
pub told_ok : (r : Result Typing TypingFault) (w : TypeChecker) (ss : List Statement) (origins : List Origin) (sources : List (Option Source)) → AreSourcesOf ss origins sources
    → IfOk r (λ t. (all : List Statement) (every : List Origin) → AreSourcesOf all every sources → Completes w all every t) → IfOk r (λ t. Completes w ss origins t)
told_ok (Ok t) w ss origins sources are completes = completes ss origins are
told_ok (Err fault) w ss origins sources are completes = tt

-- the result if all that was requested was found
pub end_enough : (stop : Stop) (r : Result Typing TypingFault) (w : TypeChecker) (sources : List (Option Source)) → stop ≡ Stop.Enough
    → IfOk r (λ t. (all : List Statement) (every : List Origin) → AreSourcesOf all every sources → Completes w all every t) → IfErr r (λ fault. fault ≡ TypingFault.Memory)
    → (ss : List Statement) (origins : List Origin) → AreSourcesOf ss origins sources → IsEndOf stop w ss origins r
end_enough stop (Ok t) w sources is completes memory ss origins are = subst (λ s. IsEndOf s w ss origins (Ok t)) (sym is) (completes ss origins are)
end_enough stop (Err fault) w sources is completes memory ss origins are = rw (is, memory) tt

pub went_through : (w0 w : TypeChecker) (last : Option PlaceNumber) (ss : List Statement) (origins : List Origin) (r : Result Typing TypingFault) (d : Dialect) → Begins w0 last → w0.verdicts.dialect ≡ d → Grows w0 w
    → Went (entries_of w0) (λ s. places_of s ss) (progress_of w0) (progress_of w) w0.verdicts.dialect
    → IfOk r (λ t. Completes w ss origins t) → IfErr r (λ fault. fault ≡ TypingFault.Memory) → Answer ss origins last r d
went_through w0 w last ss origins (Ok t) d begins is grows went completes memory =
    rw (sym is) (answer_ok w last ss origins t w0.verdicts.dialect grows.sound grows.dialect (analysis_of_all w0 w last ss origins t w0.verdicts.dialect begins grows went completes) completes)
went_through w0 w last ss origins (Err fault) d begins is grows went completes memory =
    record { analysis = tt; of = tt; entries = tt; dialect = tt; fault = subst (λ f. IsFaultOf f (up_to last (places_of [] ss)) d) (sym memory) tt }

answer_memory : (last : Option PlaceNumber) (ss : List Statement) (origins : List Origin) (d : Dialect) → Answer ss origins last (Err TypingFault.Memory) d
answer_memory last ss origins d = record { analysis = tt; of = tt; entries = tt; dialect = tt; fault = tt }

pub ended : (stop : Stop) (w0 w : TypeChecker) (last : Option PlaceNumber) (ss : List Statement) (origins : List Origin) (r : Result Typing TypingFault) (d : Dialect) → Begins w0 last → w0.verdicts.dialect ≡ d → Grows w0 w
    → HasStoppedAmong stop (entries_of w0) (λ s. places_of s ss) w0 w w0.verdicts.dialect → IsEndOf stop w ss origins r → Answer ss origins last r d
ended Stop.Enough w0 w last ss origins (Ok t) d begins is grows stopped end =
    rw (sym is) (answer_ok w last ss origins t w0.verdicts.dialect grows.sound grows.dialect (analysis_of_some w0 w last ss origins t w0.verdicts.dialect begins grows stopped end) end)
ended Stop.TooLarge w0 w last ss origins (Err (TypingFault.TooLarge place)) d begins is grows stopped end =
    let first = subst (λ e. IsFirstTooLarge (up_to last (places_of [] ss)) (length w.found.items) e) is (stopped_at_large w0 w last ss w0.verdicts.dialect begins grows stopped) in
    record { analysis = tt; of = tt; entries = tt; dialect = tt; fault = subst (λ n. IsFirstTooLarge (up_to last (places_of [] ss)) n d) (sym end) first }
ended stop w0 w last ss origins (Err TypingFault.Memory) d begins is grows stopped end = answer_memory last ss origins d
ended _ w0 w last ss origins r d begins is grows stopped end = absurd end
