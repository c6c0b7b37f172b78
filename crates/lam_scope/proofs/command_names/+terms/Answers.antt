use Rattle.std.proofs.Common.{ap, sym, ◌∙◌}
use Rattle.std.proofs.lemmas.List.{drop_all}
use Rattle.lam_scope.specs.inner.FoundNames.{found_after}
use Rattle.lam_scope.proofs.FoundNames.{free_under-none}
use Rattle.lam_scope.proofs.command_names.+terms.Goals as goal

pub find_in_fields-returns : goal.find_in_fields-returns
find_in_fields-returns t c = record {
  names = sym (ap (found_after c.loop-i.finding.names) (free_under-none c.loop-i.finding.bound)) ∙ (rw (drop_all c.loop-i.i c.args.fields.now c.loop-i-test.false) at c.loop-i.invariant.names);
  type_names = rw (drop_all c.loop-i.i c.args.fields.now c.loop-i-test.false) at c.loop-i.invariant.type_names;
  bound = c.loop-i.invariant.bound;
}
