use Rattle.std.proofs.Common.{drop}
use Rattle.lam_query.specs.declared.bound.NameNo.TheVariants.{TypeName}
use Rattle.lam_query.specs.inner.Bound.{AreListed, AreTypesEntered}
use Rattle.lam_query.proofs.bound.Meanings.enter_type_names.Given as goal

abbrev pub invariant-loop-i : goal.invariant-loop-i
invariant-loop-i l = record {
  listed : AreListed (λ n. TypeName n) l.names (drop l.i l.names) l.initial.self l.self l.initial.numbers.items l.numbers.items;
  entered : AreTypesEntered l.initial.self l.names (drop l.i l.names) l.initial.around l.around;
}
