use Rattle.std.proofs.Common.{◌≡◌, ◌++◌, take, drop, ap, ◌∙◌}
use Rattle.std.proofs.IntoIterSteps.{All-taken}
use Rattle.lam_query.proofs.analyses.Analyst.put_between.Goals as goal

pub returns-clause-rows : goal.returns-clause-rows
returns-clause-rows c =
    let put = c.in_ok-splice.ensures.items in
    let all : put.1 ≡ c.args.self.now.rows.items = All-taken put.0 put.1 put.3 ∙ put.2.0 ∙ ap (λ v. v.items) c.replace-read.ensures.value in
    put.4 ∙ ap (λ rows. take c.args.from c.args.rows.items ++ (rows ++ drop c.args.to c.args.rows.items)) all
