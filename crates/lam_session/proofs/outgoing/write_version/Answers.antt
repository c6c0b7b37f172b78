use Rattle.std.proofs.Common.{◌≡◌, rules}
use Rattle.std.proofs.lemmas.Result.{on_ok_weaker}
use Rattle.serde_json.specs.Data.{number}
use Rattle.serde_json.specs.Find.{of_integer}
use Rattle.serde_json.specs.View.{view}
use Rattle.lam_session.proofs.SentTexts.{version_text}
use Rattle.lam_session.proofs.outgoing.write_version.Goals as goal

pub returns : goal.returns
returns c =
    let numbered : view c.from.result ≡ number (of_integer c.in-Some.version) = search rules in
    rw c.in-Some.is (on_ok_weaker c.write_value.result (version_text _ _ _ c.in-Some.version _ c.in_ok-push_str.ensures.bytes numbered) c.write_value.ensures)
