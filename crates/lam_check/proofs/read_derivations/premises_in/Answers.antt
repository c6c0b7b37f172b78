use Rattle.std.proofs.Common.{map}
use Rattle.serde_json.specs.View.{view}
use Rattle.lam_check.specs.inner.Read.{number_value}
use Rattle.lam_check.proofs.ReadValues.{unread_through, listed_there}
use Rattle.lam_check.proofs.read_derivations.premises_in.Goals as goal

pub returns-in-Some-clause-unread : goal.returns-in-Some-clause-unread
returns-in-Some-clause-unread c =
    unread_through c.numbers_in.result
    (λ reason wrong. (wrong.0, λ numbers is. wrong.1 numbers (listed_there (view c.args.value.now) c.in-Some.values.now.items c.deref.result.now (map number_value numbers) c.in-Some.ensures c.deref.ensures.value is)))
    c.numbers_in.ensures.unread
