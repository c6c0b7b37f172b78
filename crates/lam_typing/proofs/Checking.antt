-- What a walk over one command tells of it, and that a checker stays sound as its table grows.
use Rattle.std.proofs.Common.{◌≡◌, ℕ, List, [], ◌∷◌, ◌++◌, length, Option, None, Result, Ok, Err, IfOk, IfErr, OnOk, ap, sym, subst, ◌∙◌}
use Rattle.std.proofs.lemmas.Bool.{true≢false, false≢true}
use Rattle.std.specs.declared.alloc.AllocError.{AllocError}
use Rattle.lam_rules.specs.Types.{Typ, bool, nat, unit}
use Rattle.lam_rules.specs.Numbers.{Keeps}
use Rattle.lam_rules.specs.declared.rules.Dialect.{Dialect}
use Rattle.lam_rules.specs.declared.numbers.TyNo.{TyNo}
use Rattle.lam_rules.proofs.Tables.{kept_number}
use Rattle.lam_sub.proofs.Keeping.{right_kept}
use Rattle.lam_scope.specs.Places.{Scope, Place, Statement, places_of}
use Rattle.lam_scope.specs.InternedViews.{interned_statement}
use Rattle.lam_scope.specs.declared.interned.InternedStatement.{InternedStatement}
use Rattle.lam_scope.specs.declared.numbers.Place.{Place as PlaceNumber}
use Rattle.lam_typing.specs.Answers.{answer, StandsWhereFound, context_under}
use Rattle.lam_typing.specs.Progress.{IsLowest, Shown, Went, Cause, next_is_too_large, StoppedIn, ShownFront}
use Rattle.lam_typing.specs.Walk.{progress_of, entries_of, Grows, IsBehind, Binds, GoesOn, HasStoppedAt}
use Rattle.lam_typing.specs.Checking.{IsSoundChecker, with_types, IsChecked}
use Rattle.lam_typing.specs.inner.Ends.{HoldsTheSame, IsReadyFor, IsEndOfCheck}
use Rattle.lam_typing.specs.declared.checker.TypeChecker.{TypeChecker}
use Rattle.lam_typing.specs.declared.checker.Checked.{Checked}
use Rattle.lam_typing.specs.declared.walking.Stop.{Stop}
use Rattle.lam_typing.proofs.Together.{went_none}

-- a checker stays sound where the numbers that it had keep their types
pub still_sound : (c : TypeChecker) (ts : List Typ) → Keeps c.table ts → IsSoundChecker c → IsSoundChecker (with_types c ts)
still_sound c ts keeps sound = record {
  verdicts = right_kept c.table ts c.verdicts keeps sound.verdicts;
  boolean = kept_number c.table ts c.leaves.boolean bool keeps sound.boolean;
  natural = kept_number c.table ts c.leaves.natural nat keeps sound.natural;
  unit = kept_number c.table ts c.leaves.unit unit keeps sound.unit;
  last = sound.last;
}

nothing_yet : (w : TypeChecker) (entries : List (Option TyNo)) → IsReadyFor entries w → progress_of w ≡ record { found = []; blames = [] }
nothing_yet w entries ready = rw (ready.found, ready.blames)

module _ (w0 w : TypeChecker) (entries : List (Option TyNo)) (d : Dialect) (ready : IsReadyFor entries w0) where
  shown_all : (ps : Scope → List Place) → Went (entries_of w0) ps (progress_of w0) (progress_of w) d
      → (s : Scope) → IsLowest s (entries_of w0) d → Shown (ps s) 0 (progress_of w).found (progress_of w).blames d
  shown_all ps went s low =
      let start = nothing_yet w0 entries ready in
      let f : (progress_of w).found ≡ went.found = went.found_is ∙ ap (λ p. p.found ++ went.found) start in
      let b : (progress_of w).blames ≡ went.blames = went.blames_are ∙ ap (λ p. p.blames ++ went.blames) start in
      let n : length (progress_of w0).found ≡ 0 = ap (λ p. length p.found) start in
      rw (f, b) (subst (λ m. Shown (ps s) m went.found went.blames d) n (went.shown s low))

  shown_front : (ps : Scope → List Place) (cause : Cause) → StoppedIn (entries_of w0) ps (progress_of w0) (progress_of w) cause d
      → (s : Scope) → IsLowest s (entries_of w0) d → ShownFront (ps s) 0 (progress_of w).found (progress_of w).blames cause d
  shown_front ps cause stopped s low =
      let start = nothing_yet w0 entries ready in
      let f : (progress_of w).found ≡ stopped.found = stopped.found_is ∙ ap (λ p. p.found ++ stopped.found) start in
      let b : (progress_of w).blames ≡ stopped.blames = stopped.blames_are ∙ ap (λ p. p.blames ++ stopped.blames) start in
      let n : length (progress_of w0).found ≡ 0 = ap (λ p. length p.found) start in
      rw (f, b) (subst (λ m. ShownFront (ps s) m stopped.found stopped.blames cause d) n (stopped.shown s low))

behind_none : (last : Option PlaceNumber) (n : ℕ) → last ≡ None → IsBehind last n → ⊥
behind_none last n none behind = subst (λ o. IsBehind o n) none behind

-- what is returned for one command is what the walk found
pub checked_by : (outcome : Result (Option TyNo) Stop) (w0 w : TypeChecker) (entries : List (Option TyNo)) (statement : Statement) (c : Checked)
    → IsReadyFor entries w0 → w0.last ≡ None → Grows w0 w
    → IfOk outcome (λ entry. StandsWhereFound w.table entry)
    → IfOk outcome (λ entry. Binds (entries_of w0) statement (answer w.table entry) w0.verdicts.dialect)
    → OnOk outcome (GoesOn w0 w statement)
    → IfErr outcome (λ stop. HasStoppedAt stop w0 w statement)
    → IsEndOfCheck outcome w c
    → IsChecked w.table (entries_of w0) statement c w0.verdicts.dialect
checked_by (Ok entry) w0 w entries statement c ready all grows stands binds on stopped end =
    let d = w0.verdicts.dialect in
    let went = on.went [] w (went_none (entries_of w) (progress_of w) w.verdicts.dialect) in
    record {
      stand = rw end.types grows.sound.found;
      entry_stands = rw end.entry stands;
      entry = λ yes. rw end.entry binds;
      all = λ yes. rw (end.types, end.blames) (shown_all w0 w entries d ready (λ s. places_of s (statement ∷ [])) went);
      front = λ no. absurd (true≢false (sym end.complete ∙ no));
    }
checked_by (Err Stop.TooLarge) w0 w entries statement c ready all grows stands binds on stopped end =
    let d = w0.verdicts.dialect in
    record {
      stand = rw end.types grows.sound.found;
      entry_stands = rw end.entry tt;
      entry = λ yes. absurd (false≢true (sym end.complete ∙ yes));
      all = λ yes. absurd (false≢true (sym end.complete ∙ yes));
      front = λ no. rw (end.types, end.blames) (shown_front w0 w entries d ready (λ s. places_of s (statement ∷ [])) next_is_too_large (stopped []).0);
    }
checked_by (Err Stop.Enough) w0 w entries statement c ready all grows stands binds on stopped end =
    absurd (behind_none w.last (length w.found.items) (grows.last ∙ all) (stopped []).1)
checked_by (Err Stop.Memory) w0 w entries statement c ready all grows stands binds on stopped end = absurd end

-- the same, of what the checker held before it got ready
pub checked_as : (r : Result Checked AllocError) (outcome : Result (Option TyNo) Stop) (old w0 w : TypeChecker) (entries : List (Option TyNo)) (statement : InternedStatement)
    → HoldsTheSame old w0 → IsReadyFor entries w0 → old.last ≡ None → Grows w0 w
    → IfOk outcome (λ entry. StandsWhereFound w.table entry)
    → IfOk outcome (λ entry. Binds (entries_of w0) (interned_statement w0.table statement) (answer w.table entry) w0.verdicts.dialect)
    → OnOk outcome (GoesOn w0 w (interned_statement w0.table statement))
    → IfErr outcome (λ stop. HasStoppedAt stop w0 w (interned_statement w0.table statement))
    → IfOk r (IsEndOfCheck outcome w)
    → IfOk r (λ c. IsChecked w.table (context_under old.table entries) (interned_statement old.table statement) c old.verdicts.dialect)
checked_as (Err refused) outcome old w0 w entries statement same ready all grows stands binds on stopped end = tt
checked_as (Ok c) outcome old w0 w entries statement same ready all grows stands binds on stopped end =
    rw (sym same.table, sym same.verdicts, sym ready.entries)
    (checked_by outcome w0 w entries (interned_statement w0.table statement) c ready (same.last ∙ all) grows stands binds on stopped end)
