use Rattle.std.proofs.Common.{drop}
use Rattle.lam_query.specs.declared.bound.NameNo.TheVariants.{Name}
use Rattle.lam_query.specs.inner.Bound.{AreListed, AreEntered}
use Rattle.lam_query.proofs.bound.Meanings.enter_names.Given as goal

abbrev pub invariant-loop-i : goal.invariant-loop-i
invariant-loop-i l = record {
  listed : AreListed (λ n. Name n) l.names (drop l.i l.names) l.initial.self l.self l.initial.numbers.items l.numbers.items;
  entered : AreEntered l.initial.self l.names (drop l.i l.names) l.initial.around l.around;
}
