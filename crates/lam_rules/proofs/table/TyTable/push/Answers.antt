use Rattle.std.proofs.Common.{◌∙◌, sym, ap, subst, length}
use Rattle.lam_rules.specs.Entries.{IsTable}
use Rattle.lam_rules.proofs.TableEntries.{length-types_of, next_entry, pushed_keeps, pushed_number}
use Rattle.lam_rules.proofs.table.TyTable.push.Goals as goal

pub invariant_of-self-2 : goal.invariant_of-self-2
invariant_of-self-2 c = (
  subst IsTable (sym c.in_ok-add_entry.ensures.pushed)
      (next_entry _ _ _ c.self.view_is c.self.invariant.0 c.requires.over c.requires.wf c.size_of-size.ensures c.requires.sorted_stands c.requires.sorted_type c.requires.fresh),
  c.add_entry.ensures.index,
)

pub returns-clause-keeps : goal.returns-clause-keeps
returns-clause-keeps c = pushed_keeps _ _ _ _ c.self.view_is c.in_ok-add_entry.ensures.pushed

pub returns-clause-number : goal.returns-clause-number
returns-clause-number c =
    pushed_number _ _ _ _ _ c.self.view_is c.in_ok-add_entry.ensures.pushed
    (c.next-number.ensures ∙ sym (ap length c.self.view_is) ∙ length-types_of c.self.inside.entries.items)
