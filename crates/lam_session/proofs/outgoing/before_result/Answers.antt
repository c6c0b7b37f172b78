use Rattle.serde_json.specs.View.{view}
use Rattle.std.proofs.Common.{string_bytes}
use Rattle.lam_session.proofs.SentTexts.{reply_text}
use Rattle.lam_session.proofs.outgoing.before_result.Goals as goal

pub returns : goal.returns
returns c = λ answer. reply_text (view c.args.id.now) answer (string_bytes c.in_ok-written.written) _ c.in_ok-written.ensures.text (rw (c.in_ok-push_str-2.ensures.bytes, c.in_ok-push_str.ensures.bytes, c.in_ok-text.ensures.ok, c.deref.ensures))
