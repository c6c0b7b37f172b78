use Rattle.std.proofs.Common.{◌≡◌, drop}
use Rattle.lam_rules.specs.TypeViews.{fields_of}
use Rattle.lam_syntax.specs.Trees.{joined_types}
use Rattle.lam_syntax.specs.Views.{type_fields_of}
use Rattle.lam_query.specs.inner.StandIns.{written_fields}
use Rattle.lam_query.proofs.stand_ins.+written_type.Given as goal

abbrev pub invariant-written_fields-loop-i : goal.invariant-written_fields-loop-i
invariant-written_fields-loop-i l =
    joined_types (type_fields_of l.written.items) (written_fields (fields_of (drop l.i l.fields))) ≡ written_fields (fields_of l.fields)
