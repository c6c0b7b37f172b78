-- A request that is read from a body has no float in its id: an id is a whole number or a text.
use Rattle.std.specs.Prelude.{not, is_some, option_and_then, unwrap_or, codes, if◌then◌else◌}
use Rattle.std.proofs.Common.{◌≡◌, List, ℕ, Bool, true, false, Option, Some, None, cond, refl, sym, subst}
use Rattle.serde_json.specs.Data.{Num, unsigned, negative, float, Data, null, boolean, number, string, array, object}
use Rattle.serde_json.specs.Find.{get, as_object, as_str}
use Rattle.serde_json.specs.Written.{has_float}
use Rattle.lam_rpc.specs.Kind.{Message, request, notice, reply, unreadable, invalid, IsKindOf, HasPlainId, message_kind, with_id, with_method, is_id, is_reply}

number_plain : (n : Num) → is_id (number n) ≡ true → has_float (number n) ≡ false
number_plain (unsigned n) is = refl
number_plain (negative z) is = refl
number_plain (float x) is = absurd cc

-- an id holds no float
id_plain : (id : Data) → is_id id ≡ true → has_float id ≡ false
id_plain null is = refl
id_plain (boolean b) is = refl
id_plain (number n) is = number_plain n is
id_plain (string s) is = refl
id_plain (array ds) is = absurd cc
id_plain (object ms) is = absurd cc

-- ---- the kind of a value

chosen : (b : Bool) (m n : Message) → HasPlainId m → HasPlainId n → HasPlainId (cond b m n)
chosen true m n h k = h
chosen false m n h k = k

asked : (b : Bool) (id : Data) (method : List ℕ) (params : Data) → is_id id ≡ b → HasPlainId (cond b (request id method params) invalid)
asked true id method params is = id_plain id is
asked false id method params is = tt

with_id_plain : (id : Option Data) (method : List ℕ) (params : Data) → HasPlainId (with_id id method params)
with_id_plain None method params = tt
with_id_plain (Some id) method params = asked (is_id id) id method params refl

with_method_plain : (method : Option (List ℕ)) (d : Data) → HasPlainId (with_method method d)
with_method_plain None d = tt
with_method_plain (Some method) d = with_id_plain (get (codes "id") d) method (unwrap_or (get (codes "params") d) null)

kind_plain : (d : Data) → HasPlainId (message_kind d)
kind_plain d =
    let text = option_and_then as_str (get (codes "method") d) in
    chosen (not (is_some (as_object d))) invalid (if is_reply d then reply else with_method text d) tt (chosen (is_reply d) reply (with_method text d) tt (with_method_plain text d))

-- ---- the kind of a body

pub read_plain : (body : List ℕ) (m : Message) → IsKindOf body m → HasPlainId m
read_plain body (request id method params) h = subst HasPlainId (sym h.kind) (kind_plain h.value)
read_plain body (notice method params) h = tt
read_plain body reply h = tt
read_plain body unreadable h = tt
read_plain body invalid h = tt
