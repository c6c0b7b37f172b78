use Rattle.std.proofs.Common.{◌≡◌, ◌++◌, drop, string_bytes}
use Rattle.lam_rules.specs.Texts.{plain_fields}
use Rattle.lam_rules.specs.TypeViews.{fields_of}
use Rattle.lam_rules.proofs.texts.+write.Given as goal

abbrev pub invariant-write_fields-loop-i : goal.invariant-write_fields-loop-i
invariant-write_fields-loop-i l =
    string_bytes l.out ++ plain_fields (fields_of (drop l.i l.fields)) ≡ string_bytes l.initial.out ++ plain_fields (fields_of l.fields)
