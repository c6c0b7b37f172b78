use Rattle.std.proofs.Common.{◌≡◌, ◌++◌, string_bytes}
use Rattle.std.specs.List.{repeat}
use Rattle.lam_check.specs.Drawings.{pack_text}
use Rattle.lam_check.proofs.drawings.push_packs.Given as goal

abbrev pub invariant-loop-i : goal.invariant-loop-i
invariant-loop-i l = string_bytes l.out ≡ string_bytes l.initial.out ++ repeat l.i pack_text
