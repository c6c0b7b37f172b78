use Rattle.std.proofs.Common.{◌∙◌, map}
use Rattle.lam_syntax.specs.Views.{command_of}
use Rattle.lam_scope.proofs.PlacedRows.{as_many_terms}
use Rattle.lam_scope.proofs.scopes.Scopes.place_of.Goals as goal

pub find_number-requires : goal.find_number-requires
find_number-requires c = c.place_count.ensures ∙ as_many_terms c.args.self.now.rows (map command_of c.args.commands.now) c.requires.same_table
