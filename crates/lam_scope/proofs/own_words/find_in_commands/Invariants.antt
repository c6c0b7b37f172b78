use Rattle.std.proofs.Common.{◌≡◌, drop, map}
use Rattle.lam_syntax.specs.Views.{command_of}
use Rattle.lam_scope.specs.declared.own_words.Reached.TheVariants.{Behind}
use Rattle.lam_scope.specs.inner.OwnWords.{commands_words, seek_on}
use Rattle.lam_scope.proofs.own_words.find_in_commands.Given as goal

abbrev pub invariant-loop-i : goal.invariant-loop-i
invariant-loop-i l =
    seek_on l.target l.reached (commands_words (map command_of (drop l.i l.commands))) ≡ seek_on l.target (Behind l.places) (commands_words (map command_of l.commands))
