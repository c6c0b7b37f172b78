use Rattle.std.proofs.Common.{◌↔◌, drop}
use Rattle.lam_rules.specs.Typing.{IsWellFormedContext}
use Rattle.lam_rules.specs.TypingViews.{context_of}
use Rattle.lam_rules.proofs.typing.wf_context.Given as goal

abbrev pub invariant-loop-entry : goal.invariant-loop-entry
invariant-loop-entry l = IsWellFormedContext (context_of l.context) ↔ IsWellFormedContext (context_of (drop l.entry-index l.context))
