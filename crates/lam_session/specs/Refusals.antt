-- Error responses: codes of JSON-RPC 2.0 and LSP 3.17, and this server's messages.
use Rattle.std.specs.Prelude.{ℕ, ℤ, negsuc, List, codes}
use Rattle.serde_json.specs.Data.{Data}
use Rattle.lam_rpc.specs.Reply.{refusal_reply}
use Rattle.lam_session.specs.declared.refusals.Refusal.{Refusal}
use Rattle.lam_session.specs.declared.refusals.Refusal.TheVariants.{UnreadableMessage, InvalidMessage, AlreadyInitialized, ShutDown, NotInitialized, MethodNotFound, InvalidParams, DocumentNotOpen, NotAName, UnparsedCommand, NoBoundName, WrongKind, ChangesBinding}

-- the error code; `negsuc n` is -1 - n, so -32700 is `negsuc 32699`
abbrev pub code_of : Refusal → ℤ
code_of UnreadableMessage = negsuc 32699
code_of InvalidMessage = negsuc 32599
code_of AlreadyInitialized = negsuc 32599
code_of ShutDown = negsuc 32599
code_of NotInitialized = negsuc 32001
code_of MethodNotFound = negsuc 32600
code_of InvalidParams = negsuc 32601
code_of DocumentNotOpen = negsuc 32601
code_of NotAName = negsuc 32601
code_of UnparsedCommand = negsuc 32802
code_of NoBoundName = negsuc 32802
code_of WrongKind = negsuc 32601
code_of ChangesBinding = negsuc 32802

-- the error message
abbrev pub refusal_text : Refusal → List ℕ
refusal_text UnreadableMessage = codes "unreadable message"
refusal_text InvalidMessage = codes "invalid message"
refusal_text AlreadyInitialized = codes "already initialized"
refusal_text ShutDown = codes "server is shut down"
refusal_text NotInitialized = codes "server not initialized"
refusal_text MethodNotFound = codes "method not found"
refusal_text InvalidParams = codes "invalid params"
refusal_text DocumentNotOpen = codes "document not open"
refusal_text NotAName = codes "new name is not a name"
refusal_text UnparsedCommand = codes "some command does not parse"
refusal_text NoBoundName = codes "no bound name here"
refusal_text WrongKind = codes "new name is of the wrong kind"
refusal_text ChangesBinding = codes "binding would change"

-- the error response to the request with this id
abbrev pub refused : Data → Refusal → Data
refused id refusal = refusal_reply id (code_of refusal) (refusal_text refusal)
