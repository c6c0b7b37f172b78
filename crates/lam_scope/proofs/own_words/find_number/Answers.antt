use Rattle.std.proofs.Common.{◌∙◌, ap, map}
use Rattle.lam_syntax.specs.Views.{command_of}
use Rattle.lam_scope.specs.inner.OwnWords.{number_of}
use Rattle.lam_scope.proofs.OwnWords.{number_found}
use Rattle.lam_scope.proofs.own_words.find_number.Goals as goal

pub returns : goal.returns
returns c =
    c.number_of.ensures
    ∙ ap (number_of c.args.places) c.find_in_commands.ensures
    ∙ number_found c.args.target c.args.places (map command_of c.args.commands.now) c.requires
