use Rattle.std.proofs.Common.{◌≡◌, drop}
use Rattle.lam_rules.specs.TypeViews.{fields_of}
use Rattle.lam_syntax.specs.Views.{type_fields_of}
use Rattle.lam_scope.specs.Expansions.{expansion_of_fields}
use Rattle.lam_scope.specs.Views.{abbreviations_of}
use Rattle.lam_scope.proofs.WrittenTypes.{behind_fields}
use Rattle.lam_scope.proofs.expansion.+expansions.Given as goal

abbrev pub invariant-expand_fields-loop-i : goal.invariant-expand_fields-loop-i
invariant-expand_fields-loop-i l =
    behind_fields (fields_of l.items.items) (expansion_of_fields (abbreviations_of l.seen) (type_fields_of (drop l.i l.fields)))
    ≡ expansion_of_fields (abbreviations_of l.seen) (type_fields_of l.fields)
