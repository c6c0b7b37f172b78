use Rattle.std.proofs.Common.{ap, sym, ◌∙◌, length}
use Rattle.lam_rules.proofs.TableEntries.{length-types_of}
use Rattle.lam_rules.proofs.table.TyTable.len.Goals as goal

pub returns : goal.returns
returns c = c.len.ensures ∙ c.self.inside.entries.ok.0 ∙ sym (length-types_of c.self.inside.entries.items) ∙ ap length c.self.view_is
