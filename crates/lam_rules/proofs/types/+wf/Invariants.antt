use Rattle.std.proofs.Common.{◌↔◌, drop}
use Rattle.lam_rules.specs.Types.{AreWellFormed}
use Rattle.lam_rules.specs.TypeViews.{fields_of}
use Rattle.lam_rules.proofs.types.+wf.Given as goal

abbrev pub invariant-wf_fields-loop-i : goal.invariant-wf_fields-loop-i
invariant-wf_fields-loop-i l = AreWellFormed (fields_of l.fields) ↔ AreWellFormed (fields_of (drop l.i l.fields))
