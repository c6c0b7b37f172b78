use Rattle.std.proofs.Common.{◌-◌, length, map}
use Rattle.lam_rules.specs.TermViews.{term_of}
use Rattle.lam_rules.specs.Typing.{TypingTree}
use Rattle.lam_rules.specs.TypingViews.{context_of}
use Rattle.lam_query.specs.Judgements.{judgements}
use Rattle.lam_query.specs.Views.{step_of}
use Rattle.lam_query.specs.inner.Walking.{AreKnown, IsWalked, left_of}
use Rattle.lam_query.proofs.wrong_steps.first_wrong.Given as goal
use Rattle.lam_query.specs.ProofTrees.{MakeTree}

abbrev pub invariant-loop-back : goal.invariant-loop-back
invariant-loop-back l =
    AreKnown l.state.entries.items l.state.pending.items
    × ((tree : TypingTree) → MakeTree (map step_of l.steps) tree
    → IsWalked (map step_of l.steps) l.dialect (judgements (context_of l.fn.entries.items) (term_of l.term) tree) (length l.steps - l.back) (map (left_of l.state.entries.items) l.state.pending.items) l.wrong)
