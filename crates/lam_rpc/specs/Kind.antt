-- The meaning of a body in the protocol: JSON-RPC 2.0 without batches, one message per body.
use Rattle.std.specs.Prelude.{◌≡◌, List, ℕ, Bool, false, not, ◌&&◌, ◌||◌, if◌then◌else◌, Option, Some, None, is_some, option_and_then, unwrap_or, codes, string_bytes}
use Rattle.std.specs.Str.{IsUtf8}
use Rattle.serde_json.specs.Data.{Data, null}
use Rattle.serde_json.specs.Find.{get, as_object, as_number, as_str, as_i64, as_u64}
use Rattle.serde_json.specs.Read.{read}
use Rattle.serde_json.specs.View.{view}
use Rattle.serde_json.specs.Written.{has_float}
use Rattle.lam_rpc.specs.declared.body.Incoming.{Incoming}
use Rattle.lam_rpc.specs.declared.body.Incoming.TheVariants.{Request, Notice, Reply, Unreadable, Invalid}

-- one message of a client
pub data Message : Type 0 where
  request : Data → List ℕ → Data → Message
  notice : List ℕ → Data → Message
  reply : Message
  unreadable : Message
  invalid : Message

-- the message in an `Incoming`
abbrev pub message_of : Incoming → Message
message_of (Request id method params) = request (view id) (string_bytes method) (view params)
message_of (Notice method params) = notice (string_bytes method) (view params)
message_of Reply = reply
message_of Unreadable = unreadable
message_of Invalid = invalid

-- An id is a 64-bit integer, signed or unsigned, or a string.
abbrev pub is_id : Data → Bool
is_id d = is_some (option_and_then as_i64 (as_number d)) || is_some (option_and_then as_u64 (as_number d)) || is_some (as_str d)

-- The value has no method, but a result or an error.
abbrev pub is_reply : Data → Bool
is_reply d = not (is_some (get (codes "method") d)) && (is_some (get (codes "result") d) || is_some (get (codes "error") d))

-- a message with this method and these params: a notice if it has no id
abbrev pub with_id : Option Data → List ℕ → Data → Message
with_id None method params = notice method params
with_id (Some id) method params = if is_id id then request id method params else invalid

-- a message with this method; missing params are null
abbrev pub with_method : Option (List ℕ) → Data → Message
with_method None d = invalid
with_method (Some method) d = with_id (get (codes "id") d) method (unwrap_or (get (codes "params") d) null)

-- the kind of a value: only objects are messages, and replies are recognized before the method is read
abbrev pub message_kind : Data → Message
message_kind d =
    if not (is_some (as_object d)) then invalid
    else (if is_reply d then reply
    else with_method (option_and_then as_str (get (codes "method") d)) d)

-- The body is UTF-8, and parsing it gives this value. Of several members with the same name the last one counts.
pub record IsTextOf (body : List ℕ) (d : Data) : Type 0 where
  pub utf8 : IsUtf8 body
  pub reads : read body ≡ Some d

-- The body is the text of a value of this kind.
pub record HasKind (body : List ℕ) (m : Message) : Type 0 where
  pub value : Data
  pub text : IsTextOf body value
  pub kind : m ≡ message_kind value

-- the kind of a body, which is unreadable if no value can be read
abbrev pub IsKindOf : List ℕ → Message → Type 0
IsKindOf body unreadable = (d : Data) → ¬ (IsTextOf body d)
IsKindOf body (request id method params) = HasKind body (request id method params)
IsKindOf body (notice method params) = HasKind body (notice method params)
IsKindOf body reply = HasKind body reply
IsKindOf body invalid = HasKind body invalid

-- The id of a request contains no float, so a reply to it sends none back.
abbrev pub HasPlainId : Message → Type 0
HasPlainId (request id method params) = has_float id ≡ false
HasPlainId (notice method params) = Unit {0}
HasPlainId reply = Unit {0}
HasPlainId unreadable = Unit {0}
HasPlainId invalid = Unit {0}
