use Rattle.std.proofs.Common.{rules}
use Rattle.lam_scope.proofs.RenamedBinders.{renamed_tokens, change_refused}
use Rattle.lam_scope.proofs.scopes.Scopes.rename.Goals as goal

pub returns-then-not-branch-clause-refused : goal.returns-then-not-branch-clause-refused
returns-then-not-branch-clause-refused c commands of named = change_refused c.args.self.now commands c.args.binder.0 c.args.new.now of (search rules) (search rules)

pub returns-clause-renamed : goal.returns-clause-renamed
returns-clause-renamed c commands of named = renamed_tokens c.args.self.now commands c.args.binder.0 c.args.new.now c.in_ok-spans.spans.items of named (search rules) (search rules) (search rules)
