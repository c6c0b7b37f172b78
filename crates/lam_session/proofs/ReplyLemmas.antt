-- What holds of a reply, whatever it answers.
use Rattle.std.proofs.Common.{◌≡◌, codes, None, false, refl}
use Rattle.serde_json.specs.Data.{Data}
use Rattle.serde_json.specs.Find.{get}
use Rattle.serde_json.specs.Written.{has_float}
use Rattle.lam_rpc.specs.Reply.{result_reply}
use Rattle.lam_session.specs.Refusals.{refused}
use Rattle.lam_session.specs.declared.refusals.Refusal.{Refusal}
use Rattle.lam_session.specs.declared.refusals.Refusal.TheVariants.{UnreadableMessage, InvalidMessage, AlreadyInitialized, ShutDown, NotInitialized, MethodNotFound, InvalidParams, DocumentNotOpen, NotAName, UnparsedCommand, NoBoundName, WrongKind, ChangesBinding}

-- the value has no method, so it is no notification
abbrev pub HasNoMethod : Data → Type 0
HasNoMethod d = get (codes "method") d ≡ None

pub result_has_no_method : (id value : Data) → HasNoMethod (result_reply id value)
result_has_no_method id value = refl

pub refusal_has_no_method : (id : Data) (refusal : Refusal) → HasNoMethod (refused id refusal)
refusal_has_no_method id refusal = refl

pub result_plain : (id value : Data) → has_float id ≡ false → has_float value ≡ false → has_float (result_reply id value) ≡ false
result_plain id value h k = rw (h, k) refl

pub refusal_plain : (id : Data) (refusal : Refusal) → has_float id ≡ false → has_float (refused id refusal) ≡ false
refusal_plain id UnreadableMessage h = rw h refl
refusal_plain id InvalidMessage h = rw h refl
refusal_plain id AlreadyInitialized h = rw h refl
refusal_plain id ShutDown h = rw h refl
refusal_plain id NotInitialized h = rw h refl
refusal_plain id MethodNotFound h = rw h refl
refusal_plain id InvalidParams h = rw h refl
refusal_plain id DocumentNotOpen h = rw h refl
refusal_plain id NotAName h = rw h refl
refusal_plain id UnparsedCommand h = rw h refl
refusal_plain id NoBoundName h = rw h refl
refusal_plain id WrongKind h = rw h refl
refusal_plain id ChangesBinding h = rw h refl
