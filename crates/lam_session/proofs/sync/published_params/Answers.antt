use Rattle.std.proofs.Common.{◌≡◌, rules}
use Rattle.serde_json.specs.Data.{number}
use Rattle.serde_json.specs.Find.{of_integer}
use Rattle.serde_json.specs.View.{view}
use Rattle.lam_session.proofs.sync.published_params.Goals as goal

pub returns-in-Some : goal.returns-in-Some
returns-in-Some c =
    let numbered : view c.from-in-Some.result ≡ number (of_integer c.in-Some.version) = search rules in
    rw c.in-Some.is
    (c.finish.ensures _ (c.value-in-Some.ensures _ _ (c.text-params.ensures _ (c.value.ensures _ _ c.new.ensures c.from.ensures)) numbered))

pub returns-in-None : goal.returns-in-None
returns-in-None c = rw c.in-None.is (c.finish-in-None.ensures _ (c.text-params.ensures _ (c.value.ensures _ _ c.new.ensures c.from.ensures)))
