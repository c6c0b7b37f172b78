-- The messages to send: response and notification objects of JSON-RPC 2.0, with members in the order of their names.
use Rattle.std.specs.Prelude.{List, ℕ, ℤ, codes}
use Rattle.serde_json.specs.Data.{Data, number, string, object, member, no_members}
use Rattle.serde_json.specs.Find.{of_integer}

-- the version in each message
abbrev pub version : Data
version = string (codes "2.0")

-- the successful reply to the request with this id
abbrev pub result_reply : Data → Data → Data
result_reply id answer = object (member (codes "id") id (member (codes "jsonrpc") version (member (codes "result") answer no_members)))

-- the error object of an error reply
abbrev pub fault_value : ℤ → List ℕ → Data
fault_value code text = object (member (codes "code") (number (of_integer code)) (member (codes "message") (string text) no_members))

-- the error reply to the request with this id
abbrev pub refusal_reply : Data → ℤ → List ℕ → Data
refusal_reply id code text = object (member (codes "error") (fault_value code text) (member (codes "id") id (member (codes "jsonrpc") version no_members)))

-- a notification to the client, which requires no reply
abbrev pub sent_notice : List ℕ → Data → Data
sent_notice method params = object (member (codes "jsonrpc") version (member (codes "method") (string method) (member (codes "params") params no_members)))
