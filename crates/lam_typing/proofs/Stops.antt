-- Where a walk stops in a term: in one of its parts, behind those that it went over.
use Rattle.std.proofs.Common.{◌≡◌, List, [], ◌∷◌, ◌++◌, Option, Result, ap, refl, ◌∙◌}
use Rattle.std.specs.Result.{IsErrAnd}
use Rattle.lam_rules.specs.Types.{Typ}
use Rattle.lam_rules.specs.Terms.{Term}
use Rattle.lam_rules.specs.Typing.{IsWellFormedEntry}
use Rattle.lam_rules.specs.declared.numbers.TyNo.{TyNo}
use Rattle.lam_scope.specs.Places.{written, of_term, Scope, Place, places}
use Rattle.lam_typing.specs.Answers.{answer}
use Rattle.lam_typing.specs.Progress.{Went}
use Rattle.lam_typing.specs.Walk.{progress_of, entries_of, IsSoundWalk, Grows, WalkedOver, HasStoppedAmong, HasStopped, HasWalked}
use Rattle.lam_typing.specs.declared.checker.TypeChecker.{TypeChecker}
use Rattle.lam_typing.specs.declared.walking.Stop.{Stop}
use Rattle.lam_typing.proofs.LeastIn.{lowest_written}
use Rattle.lam_typing.proofs.Together.{went_both}
use Rattle.lam_typing.proofs.Forms.{lowest_let}
use Rattle.lam_typing.proofs.Glue.{IsUnder, entries_same, went_from, err_walked, among_front, among_behind, among_under, among_from, among_as}

-- parts that stand in one scope

-- it went over these places, and is under the same entries as before
pub record IsPast (old now : TypeChecker) (ps : Scope → List Place) : Type 0 where
  pub entries : entries_of now ≡ entries_of old
  pub dialect : now.verdicts.dialect ≡ old.verdicts.dialect
  pub went : Went (entries_of old) ps (progress_of old) (progress_of now) old.verdicts.dialect

pub past_term : {old now : TypeChecker} {e : Term} {found : Option TyNo} → IsSoundWalk old → Grows old now → WalkedOver old now e found → IsPast old now (λ s. places s e)
past_term {old = old} {now = now} sound grows over = record {
  entries = entries_same old now sound grows.keeps over.entries;
  dialect = grows.dialect;
  went = over.over.went;
}

pub past_both : {w0 w1 w2 : TypeChecker} {ps qs : Scope → List Place} → IsPast w0 w1 ps → IsPast w1 w2 qs → IsPast w0 w2 (λ s. ps s ++ qs s)
past_both {w0 = w0} {w1 = w1} {w2 = w2} {ps = ps} {qs = qs} first second = record {
  entries = second.entries ∙ first.entries;
  dialect = second.dialect ∙ first.dialect;
  went = went_both (entries_of w0) ps qs (progress_of w0) (progress_of w1) (progress_of w2) w0.verdicts.dialect first.went
      (went_from (entries_of w1) (entries_of w0) qs (progress_of w1) (progress_of w1) (progress_of w2) w1.verdicts.dialect w0.verdicts.dialect first.entries refl first.dialect second.went);
}

-- in a part behind the first ones
pub stopped_past : (stop : Stop) {w0 w1 : TypeChecker} (w2 : TypeChecker) {ps : Scope → List Place} (qs : Scope → List Place) → IsPast w0 w1 ps
    → HasStoppedAmong stop (entries_of w1) qs w1 w2 w1.verdicts.dialect → HasStoppedAmong stop (entries_of w0) (λ s. ps s ++ qs s) w0 w2 w0.verdicts.dialect
stopped_past stop {w0 = w0} {w1 = w1} w2 {ps = ps} qs past stopped =
    let d = w0.verdicts.dialect in
    among_behind stop (entries_of w0) ps qs w0 w1 w2 d past.went
    (among_from stop (entries_of w1) (entries_of w0) qs w1 w1 w2 w1.verdicts.dialect d past.entries refl past.dialect stopped)

-- a part under one more entry

-- in the body of a lambda
pub stopped_under_written : (stop : Stop) {w0 w2 : TypeChecker} (w3 : TypeChecker) {w : Option Typ} (e : Term) → IsWellFormedEntry w → IsUnder w0 w2 w
    → HasStopped stop w2 w3 e → HasStoppedAmong stop (entries_of w0) (λ s. places (written w ∷ s) e) w0 w3 w0.verdicts.dialect
stopped_under_written stop {w0 = w0} {w2 = w2} w3 {w = w} e wf under stopped =
    let d = w0.verdicts.dialect in
    among_under stop (written w) w (entries_of w0) (λ s. places s e) w0 w3 d (λ s low. lowest_written w s w (entries_of w0) d wf refl low)
    (among_from stop (entries_of w2) (w ∷ entries_of w0) (λ s. places s e) w2 w0 w3 w2.verdicts.dialect d under.entries under.progress under.dialect stopped)

-- in the second term of a let
pub stopped_under_bound : (stop : Stop) {w0 w1 w2 : TypeChecker} (w3 : TypeChecker) {a : Term} (b : Term) {x : Option TyNo} → IsSoundWalk w0 → Grows w0 w1 → WalkedOver w0 w1 a x → IsUnder w1 w2 (answer w1.table x)
    → HasStopped stop w2 w3 b → HasStoppedAmong stop (entries_of w0) (λ s. places s a ++ places (of_term a ∷ s) b) w0 w3 w0.verdicts.dialect
stopped_under_bound stop {w0 = w0} {w1 = w1} {w2 = w2} w3 {a = a} b {x = x} sound grows over under stopped =
    let d = w0.verdicts.dialect in
    let entry = answer w1.table x in
    among_behind stop (entries_of w0) (λ s. places s a) (λ s. places (of_term a ∷ s) b) w0 w1 w3 d over.over.went
    (among_under stop (of_term a) entry (entries_of w0) (λ s. places s b) w1 w3 d (lowest_let a (entries_of w0) entry d over.over.least)
    (among_from stop (entries_of w2) (entry ∷ entries_of w0) (λ s. places s b) w2 w1 w3 w2.verdicts.dialect d
    (under.entries ∙ ap (λ g. entry ∷ g) (entries_same w0 w1 sound grows.keeps over.entries)) under.progress (under.dialect ∙ grows.dialect) stopped))

-- so it stops in the term, whose own place comes after those of its parts
pub part_stopped : (r : Result (Option TyNo) Stop) (stop : Stop) (old now : TypeChecker) (e : Term) (ps : Scope → List Place) → IsErrAnd r (λ y. y ≡ stop)
    → HasStoppedAmong stop (entries_of old) ps old now old.verdicts.dialect → ((s : Scope) → ps s ++ record { scope = s; here = e } ∷ [] ≡ places s e) → HasWalked r old now e
part_stopped r stop old now e ps is stopped split =
    let d = old.verdicts.dialect in
    err_walked r stop old now e is
    (among_as stop (entries_of old) (λ s. ps s ++ record { scope = s; here = e } ∷ []) (λ s. places s e) old now d split
    (among_front stop (entries_of old) ps (λ s. record { scope = s; here = e } ∷ []) old now d stopped))
