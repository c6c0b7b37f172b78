use Rattle.std.proofs.Common.{◌↔◌, drop}
use Rattle.lam_rules.specs.TermViews.{term_of}
use Rattle.lam_rules.specs.TypingSteps.{first_type, subjects, AreTypings}
use Rattle.lam_rules.specs.TypingViews.{entries_of, typings_of}
use Rattle.lam_rules.proofs.typing.+check_type.Given as goal

abbrev pub invariant-check_premises-loop-k : goal.invariant-check_premises-loop-k
invariant-check_premises-loop-k l =
    let ss = subjects l.rule (entries_of l.entries) (term_of l.term) (first_type (typings_of l.premises)) in
    AreTypings ss (typings_of l.premises) l.dialect ↔ AreTypings (drop l.k ss) (typings_of (drop l.k l.premises)) l.dialect
