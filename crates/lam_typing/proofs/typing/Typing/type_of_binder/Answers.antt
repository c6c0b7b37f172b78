use Rattle.std.proofs.Common.{get_or, None, ap, ◌∙◌, sym}
use Rattle.lam_typing.specs.Answers.{answer}
use Rattle.lam_typing.proofs.Finishing.{answers_at, stands_where}
use Rattle.lam_typing.proofs.typing.Typing.type_of_binder.Goals as goal

pub returns-clause-entry : goal.returns-clause-entry
returns-clause-entry c =
    ap (λ o. answer c.args.self.now.table o) (c.found_at.ensures ∙ ap (λ os. get_or os c.args.binder.0 None) c.deref.ensures.value)
    ∙ answers_at c.args.self.now.table c.args.self.now.entries.items c.args.binder.0

pub returns-clause-stands : goal.returns-clause-stands
returns-clause-stands c =
    stands_where c.args.self.now.table c.found_at.result
    (λ number is. c.args.self.now.each_entry c.args.binder.0 number (sym (c.found_at.ensures ∙ ap (λ os. get_or os c.args.binder.0 None) c.deref.ensures.value) ∙ is))
