use Rattle.std.proofs.Common.{[], ◌∷◌, drop}
use Rattle.lam_syntax.specs.Views.{command_of}
use Rattle.lam_scope.specs.Tables.{table, place_row_numbered}
use Rattle.lam_query.specs.SyntaxFaults.{fault_at}
use Rattle.lam_query.specs.Views.{fault_of}
use Rattle.lam_query.proofs.Collected.{IsCollected}
use Rattle.lam_query.proofs.typed_commands.blame_faults.Given as goal

abbrev pub invariant-loop-i : goal.invariant-loop-i
invariant-loop-i l =
    IsCollected fault_of (λ b. fault_at b.code.now (place_row_numbered (table (command_of l.command ∷ [])) b.place.0).span) l.found.items (drop l.i l.blames) l.blames
