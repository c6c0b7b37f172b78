use Rattle.std.proofs.Common.{rules, ◌++◌, sym, ◌∙◌, map, arith}
use Rattle.std.proofs.lemmas.List.{append-nil, drop_all}
use Rattle.lam_syntax.specs.Views.{command_of}
use Rattle.lam_scope.specs.Indexed.{statements_indexed}
use Rattle.lam_scope.specs.Views.{statement_of}
use Rattle.lam_scope.proofs.IndexedForms.{document_indexed}
use Rattle.lam_scope.proofs.Resolving.{commands}
use Rattle.lam_scope.proofs.document.resolve_all.Goals as goal

pub loop-i-init : goal.loop-i-init
loop-i-init c = record {
  statements =
      (λ i. c.in_ok-resolver.ensures.statements i ++ statements_indexed (c.in_ok-resolver.ensures.abbreviations i) (map command_of c.args.commands.now) (c.in_ok-resolver.ensures.uses i))
      ∙ document_indexed (map command_of c.args.commands.now) _ c.requires;
  faults = search rules;
  limit = search rules;
}

pub loop-i-preserved : goal.loop-i-preserved
loop-i-preserved c = grind (arith, commands)

pub returns-clause-statements : goal.returns-clause-statements
returns-clause-statements c = sym (append-nil (map statement_of c.loop-i.resolver.statements.items)) ∙ (rw (drop_all c.loop-i.i c.args.commands.now c.loop-i-test.false) at c.loop-i.invariant.statements)

pub returns-clause-faults : goal.returns-clause-faults
returns-clause-faults c = sym (append-nil c.loop-i.resolver.forming.faults.items) ∙ (rw (drop_all c.loop-i.i c.args.commands.now c.loop-i-test.false) at c.loop-i.invariant.faults)

pub returns-clause-limit : goal.returns-clause-limit
returns-clause-limit c = rw (drop_all c.loop-i.i c.args.commands.now c.loop-i-test.false) at c.loop-i.invariant.limit

pub returns-in_err-add-clause-limit : goal.returns-in_err-add-clause-limit
returns-in_err-add-clause-limit c = grind (arith, commands)
