-- The contents of a `didChange` notification. For private contracts only.
use Rattle.std.specs.Prelude.{◌≡◌, [], Option, Some, None, IsSome, string_bytes}
use Rattle.serde_json.specs.Data.{Data}
use Rattle.lam_rpc.specs.Fields.{named_uri, listed_changes}
use Rattle.lam_session.specs.Documents.{open_text}
use Rattle.lam_session.specs.State.{State}
use Rattle.lam_session.specs.Sync.{Changes, given_version}
use Rattle.lam_session.specs.declared.conversation.DocumentChange.{DocumentChange}

-- The change is the one in the params, and its document is open.
pub record IsChangeIn (s : State) (params : Data) (change : DocumentChange) : Type 0 where
  pub named : Some (string_bytes change.uri) ≡ named_uri params
  pub listed : listed_changes params ≡ Some change.changes.items
  pub given : change.version ≡ given_version params
  pub is_open : IsSome (open_text (string_bytes change.uri) s.documents)

-- the change in the params; `None` if the notification is to be ignored
abbrev pub IsTold : State → Data → Option DocumentChange → Type 0
IsTold s params None = Changes s params [] s
IsTold s params (Some change) = IsChangeIn s params change
