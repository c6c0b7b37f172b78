-- From statement to statement: what a walk finds for those that follow extends to all statements.
use Rattle.std.proofs.Common.{◌≡◌, ℕ, List, [], ◌∷◌, ◌++◌, length, map, drop, get_or, Vec, Option, Result, Ok, Err, IfErr, ap, refl, sym, subst, ◌∙◌, ◌+◌, ◌<◌, ◌≤◌}
use Rattle.std.specs.Result.{IsErrAnd}
use Rattle.std.proofs.lemmas.List.{drop_all}
use Rattle.std.specs.declared.alloc.Global.{Global}
use Rattle.lam_rules.specs.Types.{Typ}
use Rattle.lam_rules.specs.Terms.{Term}
use Rattle.lam_rules.specs.Typing.{IsWellFormedEntry}
use Rattle.lam_rules.specs.Numbers.{Keeps}
use Rattle.lam_rules.specs.declared.numbers.TyNo.{TyNo}
use Rattle.lam_rules.proofs.Tables.{keeps_same}
use Rattle.lam_scope.specs.Places.{Scope, written, of_term, places, Statement, defines, declares, states, places_of}
use Rattle.lam_scope.specs.WellFormed.{AreWellFormedStatements}
use Rattle.lam_scope.specs.Views.{statement_of}
use Rattle.lam_scope.specs.declared.statement.Statement.{Statement as RustStatement}
use Rattle.lam_scope.proofs.Resolving.{statements-drop}
use Rattle.lam_typing.specs.Answers.{answer}
use Rattle.lam_typing.specs.Progress.{IsLowest, Went}
use Rattle.lam_typing.specs.Walk.{entries_of, progress_of, IsSoundWalk, Grows, WalkedOver, HasStopped, HasStoppedAmong, HasStoppedAt, GoesOn}
use Rattle.lam_typing.specs.declared.checker.TypeChecker.{TypeChecker}
use Rattle.lam_typing.specs.declared.walking.Stop.{Stop}
use Rattle.lam_typing.proofs.LeastIn.{lowest_written}
use Rattle.lam_typing.proofs.Together.{went_none, went_both, went_under}
use Rattle.lam_typing.proofs.Forms.{lowest_let}
use Rattle.lam_typing.proofs.Glue.{grows_trans, went_from, entries_same, progress_same, under_entry, among_front, among_behind, among_under, among_from}

pub goes_on_stated : (w0 w1 : TypeChecker) (e : Term) (found : Option TyNo) → IsSoundWalk w0 → Grows w0 w1 → WalkedOver w0 w1 e found → GoesOn w0 w1 (states e)
goes_on_stated w0 w1 e found sound grows over =
    let d = w0.verdicts.dialect in
    let same = entries_same w0 w1 sound grows.keeps over.entries in
    record {
      went = λ rest now went.
          went_both (entries_of w0) (λ s. places s e) (λ s. places_of s rest) (progress_of w0) (progress_of w1) (progress_of now) d over.over.went
          (went_from (entries_of w1) (entries_of w0) (λ s. places_of s rest) (progress_of w1) (progress_of w1) (progress_of now) w1.verdicts.dialect d same refl grows.dialect went);
      stopped = λ rest stop now stopped.
          among_behind stop (entries_of w0) (λ s. places s e) (λ s. places_of s rest) w0 w1 now d over.over.went
          (among_from stop (entries_of w1) (entries_of w0) (λ s. places_of s rest) w1 w1 now w1.verdicts.dialect d same refl grows.dialect stopped);
    }

pub goes_on_defined : (w0 w1 : TypeChecker) (v : Vec (Option TyNo) Global) (e : Term) (found : Option TyNo) → IsSoundWalk w0 → Grows w0 w1 → WalkedOver w0 w1 e found
    → v.items ≡ w1.entries.items ++ found ∷ [] → GoesOn w0 (record w1 { entries = v }) (defines e)
goes_on_defined w0 w1 v e found sound grows over put =
    let d = w0.verdicts.dialect in
    let w2 = record w1 { entries = v } in
    let x = answer w1.table found in
    let same = entries_same w0 w1 sound grows.keeps over.entries in
    let under = under_entry w1 w1.table v found x grows.sound (keeps_same w1.table) put refl ∙ ap (λ g. x ∷ g) same in
    let lower = lowest_let e (entries_of w0) x d over.over.least in
    record {
      went = λ rest now went.
          went_both (entries_of w0) (λ s. places s e) (λ s. places_of (of_term e ∷ s) rest) (progress_of w0) (progress_of w1) (progress_of now) d over.over.went
          (went_under (of_term e) x (entries_of w0) (λ s. places_of s rest) (progress_of w1) (progress_of now) d lower
          (went_from (entries_of w2) (x ∷ entries_of w0) (λ s. places_of s rest) (progress_of w2) (progress_of w1) (progress_of now) w2.verdicts.dialect d under refl grows.dialect went));
      stopped = λ rest stop now stopped.
          among_behind stop (entries_of w0) (λ s. places s e) (λ s. places_of (of_term e ∷ s) rest) w0 w1 now d over.over.went
          (among_under stop (of_term e) x (entries_of w0) (λ s. places_of s rest) w1 now d lower
          (among_from stop (entries_of w2) (x ∷ entries_of w0) (λ s. places_of s rest) w2 w1 now w2.verdicts.dialect d under refl grows.dialect stopped));
    }

pub goes_on_declared : (w0 : TypeChecker) (t : List Typ) (v : Vec (Option TyNo) Global) (w : Option Typ) (entry : Option TyNo) → IsSoundWalk w0 → IsWellFormedEntry w → Keeps w0.table t
    → v.items ≡ w0.entries.items ++ entry ∷ [] → answer t entry ≡ w → GoesOn w0 (record w0 { table = t; entries = v }) (declares w)
goes_on_declared w0 t v w entry sound wf keeps put is =
    let d = w0.verdicts.dialect in
    let w1 = record w0 { table = t; entries = v } in
    let under = under_entry w0 t v entry w sound keeps put is in
    let same = progress_same w0 w1 sound keeps refl refl in
    let lower : (s : Scope) → IsLowest s (entries_of w0) d → IsLowest (written w ∷ s) (w ∷ entries_of w0) d = (λ s low. lowest_written w s w (entries_of w0) d wf refl low) in
    record {
      went = λ rest now went.
          went_under (written w) w (entries_of w0) (λ s. places_of s rest) (progress_of w0) (progress_of now) d lower
          (went_from (entries_of w1) (w ∷ entries_of w0) (λ s. places_of s rest) (progress_of w1) (progress_of w0) (progress_of now) d d under same refl went);
      stopped = λ rest stop now stopped.
          among_under stop (written w) w (entries_of w0) (λ s. places_of s rest) w0 now d lower
          (among_from stop (entries_of w1) (w ∷ entries_of w0) (λ s. places_of s rest) w1 w0 now d d under same refl stopped);
    }

pub stated_stopped : (w0 w1 : TypeChecker) (e : Term) (rest : List Statement) (stop : Stop) → HasStopped stop w0 w1 e → HasStoppedAmong stop (entries_of w0) (λ s. places_of s (states e ∷ rest)) w0 w1 w0.verdicts.dialect
stated_stopped w0 w1 e rest stop stopped = among_front stop (entries_of w0) (λ s. places s e) (λ s. places_of s rest) w0 w1 w0.verdicts.dialect stopped

pub defined_stopped : (w0 w1 : TypeChecker) (e : Term) (rest : List Statement) (stop : Stop) → HasStopped stop w0 w1 e → HasStoppedAmong stop (entries_of w0) (λ s. places_of s (defines e ∷ rest)) w0 w1 w0.verdicts.dialect
defined_stopped w0 w1 e rest stop stopped = among_front stop (entries_of w0) (λ s. places s e) (λ s. places_of (of_term e ∷ s) rest) w0 w1 w0.verdicts.dialect stopped

-- a statement whose numbers were put into the table first
pub goes_on_numbered : (w0 : TypeChecker) (t : List Typ) (w2 : TypeChecker) (statement : Statement) → IsSoundWalk w0 → Keeps w0.table t → GoesOn (record w0 { table = t }) w2 statement → GoesOn w0 w2 statement
goes_on_numbered w0 t w2 statement sound keeps on =
    let d = w0.verdicts.dialect in
    let w1 = record w0 { table = t } in
    let g = entries_same w0 w1 sound keeps refl in
    let p = progress_same w0 w1 sound keeps refl refl in
    record {
      went = λ rest end went. went_from (entries_of w1) (entries_of w0) (λ s. places_of s (statement ∷ rest)) (progress_of w1) (progress_of w0) (progress_of end) d d g p refl (on.went rest end went);
      stopped = λ rest stop end stopped. among_from stop (entries_of w1) (entries_of w0) (λ s. places_of s (statement ∷ rest)) w1 w0 end d d g p refl (on.stopped rest stop end stopped);
    }

pub numbered_stopped : (stop : Stop) (w0 : TypeChecker) (t : List Typ) (w2 : TypeChecker) (statement : Statement) → IsSoundWalk w0 → Keeps w0.table t
    → HasStoppedAt stop (record w0 { table = t }) w2 statement → HasStoppedAt stop w0 w2 statement
numbered_stopped stop w0 t w2 statement sound keeps stopped =
    let d = w0.verdicts.dialect in
    let w1 = record w0 { table = t } in
    λ rest. among_from stop (entries_of w1) (entries_of w0) (λ s. places_of s (statement ∷ rest)) w1 w0 w2 d d
    (entries_same w0 w1 sound keeps refl) (progress_same w0 w1 sound keeps refl refl) refl (stopped rest)

pub err_stopped_at : {A : Type 0} (r : Result A Stop) (stop : Stop) (w0 now : TypeChecker) (statement : Statement)
    → IsErrAnd r (λ y. y ≡ stop) → HasStoppedAt stop w0 now statement → IfErr r (λ s. HasStoppedAt s w0 now statement)
err_stopped_at (Ok x) stop w0 now statement is stopped = absurd is
err_stopped_at (Err s) stop w0 now statement is stopped = subst (λ x. HasStoppedAt x w0 now statement) (sym is) stopped

-- several statements, one after the other
pub record GoesThrough (old now : TypeChecker) (all rest : List Statement) : Type 0 where
  pub grows : Grows old now
  pub wf : AreWellFormedStatements rest
  pub went : (end : TypeChecker) → Went (entries_of now) (λ s. places_of s rest) (progress_of now) (progress_of end) now.verdicts.dialect → Went (entries_of old) (λ s. places_of s all) (progress_of old) (progress_of end) old.verdicts.dialect
  pub stopped : (stop : Stop) (end : TypeChecker) → HasStoppedAmong stop (entries_of now) (λ s. places_of s rest) now end now.verdicts.dialect → HasStoppedAmong stop (entries_of old) (λ s. places_of s all) old end old.verdicts.dialect

pub goes_further : (w0 w1 w2 : TypeChecker) (all : List Statement) (xs : List RustStatement) (i : ℕ) (x : RustStatement) → i < length xs → x ≡ get_or xs i x
    → GoesThrough w0 w1 all (map statement_of (drop i xs)) → Grows w1 w2 → GoesOn w1 w2 (statement_of x) → GoesThrough w0 w2 all (map statement_of (drop (i + 1) xs))
goes_further w0 w1 w2 all xs i x lt is through grows on =
    let next = statements-drop xs i x lt is in
    let rest = map statement_of (drop (i + 1) xs) in
    record {
      grows = grows_trans through.grows grows;
      wf = (subst AreWellFormedStatements next through.wf).1;
      went = λ end went. through.went end (subst (λ ss. Went (entries_of w1) (λ s. places_of s ss) (progress_of w1) (progress_of end) w1.verdicts.dialect) (sym next) (on.went rest end went));
      stopped = λ stop end stopped. through.stopped stop end (subst (λ ss. HasStoppedAmong stop (entries_of w1) (λ s. places_of s ss) w1 end w1.verdicts.dialect) (sym next) (on.stopped rest stop end stopped));
    }

pub stops_at : (r : Result (Unit {0}) Stop) (stop : Stop) (w0 w1 w2 : TypeChecker) (all : List Statement) (xs : List RustStatement) (i : ℕ) (x : RustStatement) → i < length xs → x ≡ get_or xs i x
    → GoesThrough w0 w1 all (map statement_of (drop i xs)) → IsErrAnd r (λ y. y ≡ stop) → HasStoppedAt stop w1 w2 (statement_of x)
    → IfErr r (λ s. HasStoppedAmong s (entries_of w0) (λ s. places_of s all) w0 w2 w0.verdicts.dialect)
stops_at (Ok y) stop w0 w1 w2 all xs i x lt is through err stopped = absurd err
stops_at (Err e) stop w0 w1 w2 all xs i x lt is through err stopped =
    subst (λ y. HasStoppedAmong y (entries_of w0) (λ s. places_of s all) w0 w2 w0.verdicts.dialect) (sym err)
    (through.stopped stop w2 (subst (λ ss. HasStoppedAmong stop (entries_of w1) (λ s. places_of s ss) w1 w2 w1.verdicts.dialect) (sym (statements-drop xs i x lt is)) (stopped (map statement_of (drop (i + 1) xs)))))

pub goes_to_end : (w0 w1 : TypeChecker) (all : List Statement) (xs : List RustStatement) (i : ℕ) → length xs ≤ i
    → GoesThrough w0 w1 all (map statement_of (drop i xs)) → Went (entries_of w0) (λ s. places_of s all) (progress_of w0) (progress_of w1) w0.verdicts.dialect
goes_to_end w0 w1 all xs i le through =
    let none : map statement_of (drop i xs) ≡ [] = ap (λ ys. map statement_of ys) (drop_all i xs le) in
    through.went w1 (subst (λ ss. Went (entries_of w1) (λ s. places_of s ss) (progress_of w1) (progress_of w1) w1.verdicts.dialect) (sym none) (went_none (entries_of w1) (progress_of w1) w1.verdicts.dialect))
