use Rattle.std.proofs.Common.{◌≡◌, ◌↔◌, ◌++◌, List, Option, IsTrue, length, map, drop}
use Rattle.lam_rules.specs.TermViews.{lent_of, term_of}
use Rattle.lam_rules.specs.Typing.{IsWellFormedContext}
use Rattle.lam_rules.specs.TypingSteps.{subjects}
use Rattle.lam_rules.specs.TypingViews.{context_of}
use Rattle.lam_rules.specs.declared.types.Ty.{Ty}
use Rattle.lam_query.specs.Views.{step_of}
use Rattle.lam_query.specs.inner.Backwards.{said_at}
use Rattle.lam_query.specs.inner.Walking.{AreKnown, left_of, lefts_for}
use Rattle.lam_query.proofs.wrong_steps.push_premises.Given as goal

abbrev pub invariant-loop-k : goal.invariant-loop-k
invariant-loop-k l =
    ((g : List (Option Ty)) → length g ≡ l.parent.depth →
    let ss = subjects l.parent.rule (context_of g) (term_of l.parent.term.now) (lent_of l.parent.first) in
    let said = said_at (map step_of l.steps) in
    map (left_of g) l.pending.items ++ lefts_for (drop l.k ss) (map said (drop l.k l.premises)) ≡ map (left_of g) l.fn.pending.items ++ lefts_for ss (map said l.premises))
    × ((g : List (Option Ty)) → length g ≡ l.parent.depth → (IsTrue l.parent.well_formed ↔ IsWellFormedContext (context_of g)) → AreKnown g l.fn.pending.items → AreKnown g l.pending.items)
