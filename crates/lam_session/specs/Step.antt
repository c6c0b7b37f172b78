-- The effect of one message: the values sent in response, in order, and the state after it. All questions about a position in a document are one case, which `Questions`
-- defines; unsupported methods are unknown.
use Rattle.std.specs.Prelude.{◌≡◌, ℕ, List, [], ◌∷◌, true, false, None}
use Rattle.serde_json.specs.Data.{Data, null}
use Rattle.lam_rpc.specs.Kind.{Message, request, notice, reply, unreadable, invalid}
use Rattle.lam_rpc.specs.Reply.{result_reply}
use Rattle.lam_session.specs.declared.states.Lifecycle.{Lifecycle}
use Rattle.lam_session.specs.declared.states.Lifecycle.TheVariants.{Fresh, Running, Down, Over}
use Rattle.lam_session.specs.declared.methods.RequestMethod.{RequestMethod}
use Rattle.lam_session.specs.declared.methods.RequestMethod.TheVariants.{Initialize, Shutdown, Ask, Unknown as UnknownRequest}
use Rattle.lam_session.specs.declared.methods.NoticeMethod.{NoticeMethod}
use Rattle.lam_session.specs.declared.methods.NoticeMethod.TheVariants.{Exit, DidOpen, DidChange, DidClose, Unknown as UnknownNotice}
use Rattle.lam_session.specs.declared.refusals.Refusal.TheVariants.{UnreadableMessage, InvalidMessage, AlreadyInitialized, ShutDown, NotInitialized, MethodNotFound}
use Rattle.lam_session.specs.Does.{Does, Ignores, Refuses}
use Rattle.lam_session.specs.Initialize.{chosen, initialize_answer}
use Rattle.lam_session.specs.Methods.{request_method, notice_method}
use Rattle.lam_session.specs.Questions.{Asks}
use Rattle.lam_session.specs.Sync.{Opens, Changes, Closes}
use Rattle.lam_session.specs.State.{State, Snapshot, ended_status}

-- The session starts running with no document open, and replies with its capabilities.
abbrev pub Initializes : State → Data → Data → List Data → State → Type 0
Initializes s id params =
    Does (result_reply id (initialize_answer (chosen params)) ∷ [])
    (record s { life = Running; encoding = chosen params; documents = [] })

-- The session stops serving requests.
abbrev pub ShutsDown : State → Data → List Data → State → Type 0
ShutsDown s id = Does (result_reply id null ∷ []) (record s { life = Down })

-- The session ends with this status.
abbrev pub Ends : State → ℕ → List Data → State → Type 0
Ends s status = Does [] (record s { life = Over status })

-- a request while the session is running
abbrev pub Serves : State → Data → RequestMethod → Data → List Data → State → Type 0
Serves s id Initialize params = Refuses s id AlreadyInitialized
Serves s id Shutdown params = ShutsDown s id
Serves s id (Ask question) params = Asks question s id params
Serves s id UnknownRequest params = Refuses s id MethodNotFound

-- a request before the first `initialize`
abbrev pub Awaits : State → Data → RequestMethod → Data → List Data → State → Type 0
Awaits s id Initialize params = Initializes s id params
Awaits s id _ params = Refuses s id NotInitialized

-- a request in each lifecycle state
abbrev pub Requested : Lifecycle → State → Data → RequestMethod → Data → List Data → State → Type 0
Requested Fresh s id method params = Awaits s id method params
Requested Running s id method params = Serves s id method params
Requested Down s id method params = Refuses s id ShutDown
Requested (Over status) s id method params = Ignores s

-- `exit` succeeds only after `shutdown` (LSP 3.17, exit)
abbrev pub exit_status : Lifecycle → ℕ
exit_status Down = 0
exit_status _ = 1

-- a notification while the session is running
abbrev pub Heeds : State → NoticeMethod → Data → List Data → State → Type 0
Heeds s Exit params = Ends s (exit_status s.life)
Heeds s DidOpen params = Opens s params
Heeds s DidChange params = Changes s params
Heeds s DidClose params = Closes s params
Heeds s UnknownNotice params = Ignores s

-- a notification while the session is not running
abbrev pub Passes : State → NoticeMethod → List Data → State → Type 0
Passes s Exit = Ends s (exit_status s.life)
Passes s _ = Ignores s

-- a notification in each lifecycle state
abbrev pub Noticed : Lifecycle → State → NoticeMethod → Data → List Data → State → Type 0
Noticed Running s method params = Heeds s method params
Noticed (Over status) s method params = Ignores s
Noticed _ s method params = Passes s method

-- a message before the session has ended
abbrev pub Receives : State → Message → List Data → State → Type 0
Receives s (request id method params) = Requested s.life s id (request_method method) params
Receives s (notice method params) = Noticed s.life s (notice_method method) params
Receives s reply = Ignores s
Receives s unreadable = Refuses s null UnreadableMessage
Receives s invalid = Refuses s null InvalidMessage

-- After the session has ended, every message is ignored.
abbrev pub ReceivesIn : Lifecycle → State → Message → List Data → State → Type 0
ReceivesIn (Over status) s m = Ignores s
ReceivesIn _ s m = Receives s m

-- the effect of one message
abbrev pub Steps : State → Message → List Data → State → Type 0
Steps s m = ReceivesIn s.life s m

-- A session that has not given up handles the message.
pub record Answers (old : Snapshot) (m : Message) (sent : List Data) (new : Snapshot) : Type 0 where
  pub before : old.gave_up ≡ false
  pub after : new.gave_up ≡ false
  pub steps : Steps old.state m sent new.state

-- A session that has not ended gives up, or had already done so; its lifecycle state stays the same.
pub record GivesUp (old new : Snapshot) : Type 0 where
  pub lives : ended_status old.state.life ≡ None
  pub gave_up : new.gave_up ≡ true
  pub life : new.state.life ≡ old.state.life
