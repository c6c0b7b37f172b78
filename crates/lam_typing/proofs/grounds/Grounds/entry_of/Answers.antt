use Rattle.std.proofs.Common.{ap, ◌∙◌}
use Rattle.std.proofs.lemmas.Result.{IfOk-weaker}
use Rattle.lam_typing.specs.inner.Notes.{noted_by}
use Rattle.lam_typing.specs.inner.Seeing.{note_among}
use Rattle.lam_typing.specs.inner.Grounds.{found_in}
use Rattle.lam_typing.proofs.grounds.Grounds.entry_of.Goals as goal

pub returns : goal.returns
returns c =
    let found = found_in c.args.self.now in
    IfOk-weaker c.tree_of.result _ _
    (λ tree is. is ∙ c.bound_at-source.ensures found ∙ ap (λ ns. (note_among (noted_by found ns) c.args.place).bound) c.deref.ensures.value)
    c.tree_of.ensures
