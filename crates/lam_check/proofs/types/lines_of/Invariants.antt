use Rattle.std.proofs.Common.{◌≡◌, ◌++◌, map, flat_map, drop, string_bytes}
use Rattle.lam_query.specs.Views.{command_type_of}
use Rattle.lam_check.specs.Types.{line_of_type}
use Rattle.lam_check.proofs.types.lines_of.Given as goal

-- what is written, and the lines of the commands that are left, are all
abbrev pub invariant-loop-shown : goal.invariant-loop-shown
invariant-loop-shown l =
    string_bytes l.lines ++ flat_map line_of_type (map command_type_of (drop l.shown-index l.types)) ≡ flat_map line_of_type (map command_type_of l.types)
