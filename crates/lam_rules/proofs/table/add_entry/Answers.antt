use Rattle.std.proofs.Common.{◌++◌, ◌∷◌, [], ◌∙◌, ap}
use Rattle.lam_rules.proofs.ShapeKeys.{index_push}
use Rattle.lam_rules.proofs.table.add_entry.Goals as goal

pub returns-clause-index : goal.returns-clause-index
returns-clause-index c =
    index_push c.args.index.now c.insert.new.self _ _ c.args.entry c.args.key (record { index = c.len.result }) c.requires.index c.in_ok-insert.ensures.updates
    c.requires.key (c.len.ensures ∙ c.args.entries.now.ok.0) (c.in_ok-push.ensures.items ∙ ap (λ x. x ++ c.args.entry ∷ []) c.in_ok-reserve.ensures.items)
