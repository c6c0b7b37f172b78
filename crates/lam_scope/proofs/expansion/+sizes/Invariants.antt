use Rattle.std.proofs.Common.{◌≡◌, ◌+◌, ◌≤◌, drop}
use Rattle.lam_syntax.specs.Views.{type_fields_of}
use Rattle.lam_scope.specs.Expansions.{expansion_of_fields, node_limit, capped_nodes_in}
use Rattle.lam_scope.specs.Views.{abbreviations_of}
use Rattle.lam_scope.proofs.WrittenTypes.{plus_capped}
use Rattle.lam_scope.proofs.expansion.+sizes.Given as goal

abbrev pub invariant-expanded_fields_size-loop-i : goal.invariant-expanded_fields_size-loop-i
invariant-expanded_fields_size-loop-i l = record {
  capped : l.total ≤ node_limit + 1;
  sum : capped_nodes_in (expansion_of_fields (abbreviations_of l.seen) (type_fields_of l.fields))
      ≡ plus_capped l.total (capped_nodes_in (expansion_of_fields (abbreviations_of l.seen) (type_fields_of (drop l.i l.fields))));
}
