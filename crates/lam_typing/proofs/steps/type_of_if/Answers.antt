use Rattle.std.proofs.Common.{subst}
use Rattle.lam_rules.specs.Subtyping.{IsBelow}
use Rattle.lam_rules.specs.Numbers.{type_of}
use Rattle.lam_lattice.specs.inner.Bounds.{IsJoin}
use Rattle.lam_typing.proofs.steps.type_of_if.Goals as goal

pub returns-clause-rule : goal.returns-clause-rule
returns-clause-rule c =
    let ts = c.args.table.now in
    rw (c.in-Some.is, c.in-Some-then_term.is, c.in-Some-else_term.is) (
      subst (λ t. IsBelow (type_of ts c.in-Some.condition_number) t c.args.verdicts.now.dialect) c.requires.bool_number.type (c.in_ok-is_sub_no.ensures.verdict.0 c.if-not-branch.false),
      subst (λ d. IsJoin (type_of ts c.in-Some-then_term.then_number) (type_of ts c.in-Some-else_term.else_number) (type_of c.join_no.new.table c.in_ok-number.number) d) c.is_sub_no.ensures.dialect c.in_ok-number.ensures.join,
    )
