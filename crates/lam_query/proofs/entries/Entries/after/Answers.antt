use Rattle.std.proofs.Common.{length, replicate, None, ap, ◌∙◌}
use Rattle.lam_query.specs.inner.Kept.{rows_of}
use Rattle.lam_query.proofs.MeaningsBehind.{meanings_behind}
use Rattle.lam_query.proofs.entries.Entries.after.Goals as goal

pub returns-clause-meanings : goal.returns-clause-meanings
returns-clause-meanings c = λ pieces s ts d are.
    meanings_behind c.args.bound.now (record { names = c.in_ok-unbound.field-0; type_names = c.in_ok-unbound-2.field-0 }) c.pass.new.self (rows_of c.args.rows.now) c.requires
    (c.in_ok-unbound.ensures ∙ ap (λ es. replicate (length es) None) c.entries.ensures) (c.in_ok-unbound-2.ensures ∙ ap (λ es. replicate (length es) None) c.entries-2.ensures)
    c.pass.ensures pieces s ts d are

pub returns-clause-passed : goal.returns-clause-passed
returns-clause-passed c = record {
  first = record { names = c.in_ok-unbound.field-0; type_names = c.in_ok-unbound-2.field-0 };
  names = c.in_ok-unbound.ensures ∙ ap (λ es. replicate (length es) None) c.entries.ensures;
  type_names = c.in_ok-unbound-2.ensures ∙ ap (λ es. replicate (length es) None) c.entries-2.ensures;
  passed = c.pass.ensures;
}
