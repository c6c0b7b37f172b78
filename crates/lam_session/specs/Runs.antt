-- Runs of a session, and what they send about one document.
use Rattle.std.specs.Prelude.{◌≡◌, ℕ, ℤ, List, [], ◌∷◌, filter, map, codes, Bool, false, ◌||◌, if◌then◌else◌, Option, None, Some}
use Rattle.std.specs.Str.{bytes_eq}
use Rattle.std.specs.List.{AllByRecursion}
use Rattle.serde_json.specs.Data.{Data, Items}
use Rattle.lam_rpc.specs.Fields.{named_uri}
use Rattle.lam_rpc.specs.Kind.{Message, request, notice, reply, unreadable, invalid}
use Rattle.lam_rules.specs.declared.rules.Dialect.{Dialect}
use Rattle.lam_session.specs.Documents.{OpenDocument}
use Rattle.lam_session.specs.State.{State, fresh}
use Rattle.lam_session.specs.Step.{Steps}
use Rattle.lam_session.specs.OneAnswer.{AreAlike}
use Rattle.lam_session.specs.Sync.{published}

-- a message and the values sent for it
pub record Exchange : Type 0 where
  pub message : Message
  pub sent : List Data

-- the messages, in order
abbrev pub messages_of : List Exchange → List Message
messages_of exchanges = map (λ e. e.message) exchanges

-- These exchanges lead from the first state to the other.
abbrev pub AreExchanges : State → List Exchange → State → Type 0
AreExchanges s [] end = end ≡ s
AreExchanges s (e ∷ es) end = (next : State) × Steps s e.message e.sent next × AreExchanges next es end

-- The method belongs to the lifecycle of the session.
abbrev pub is_lifecycle : List ℕ → Bool
is_lifecycle method = bytes_eq method (codes "initialize") || (bytes_eq method (codes "shutdown") || bytes_eq method (codes "exit"))

-- The params name the document with this URI.
abbrev pub is_named : List ℕ → Option (List ℕ) → Bool
is_named uri None = false
is_named uri (Some other) = bytes_eq uri other

-- The message belongs to the lifecycle, or names the document with this URI.
abbrev pub concerns : List ℕ → Message → Bool
concerns uri (request id method params) = is_lifecycle method || is_named uri (named_uri params)
concerns uri (notice method params) = is_lifecycle method || is_named uri (named_uri params)
concerns uri reply = false
concerns uri unreadable = false
concerns uri invalid = false

-- the exchanges that concern the document with this URI, in order
abbrev pub concerning : List ℕ → List Exchange → List Exchange
concerning uri exchanges = filter (λ e. concerns uri e.message) exchanges

-- the open document with this URI
abbrev pub document_named : List ℕ → List OpenDocument → Option OpenDocument
document_named uri [] = None
document_named uri (d ∷ ds) = if bytes_eq uri d.uri then Some d else document_named uri ds

-- Two states with the same lifecycle state, encoding and dialect, in which this document has the same text and version or is open in neither.
pub record SameFor (uri : List ℕ) (s t : State) : Type 0 where
  pub life : s.life ≡ t.life
  pub encoding : s.encoding ≡ t.encoding
  pub dialect : s.dialect ≡ t.dialect
  pub document : document_named uri s.documents ≡ document_named uri t.documents

-- Without the exchanges that do not concern a document, the rest is still a run, which leaves that document as the whole run does.
pub record IsAlone (dialect : Dialect) (uri : List ℕ) (exchanges : List Exchange) (end : State) : Type 0 where
  pub alone : State
  pub run : AreExchanges (fresh dialect) (concerning uri exchanges) alone
  pub same : SameFor uri end alone

-- the same messages, each answered alike in both
pub data AnswerAlike : State → List Exchange → List Exchange → Type 0 where
  both_end : {s : State} → AnswerAlike s [] []
  both_go_on : {s next : State} {one other : Exchange} {exchanges others : List Exchange}
      → one.message ≡ other.message → Steps s one.message one.sent next → AreAlike s one.message one.sent other.sent → AnswerAlike next exchanges others
      → AnswerAlike s (one ∷ exchanges) (other ∷ others)

-- Two runs agree about a document: they answer what concerns it alike, and their last states cannot be told apart by questions about it.
pub record AgreeAbout (dialect : Dialect) (uri : List ℕ) (exchanges others : List Exchange) (end later : State) : Type 0 where
  pub answers : AnswerAlike (fresh dialect) (concerning uri exchanges) (concerning uri others)
  pub same : SameFor uri end later

-- The value publishes diagnostics of the document with this URI.
abbrev pub IsAbout : List ℕ → Data → Type 0
IsAbout uri d = (version : Option ℤ) × (faults : Items) × (d ≡ published uri version faults)

-- None of the values publishes diagnostics of the document with this URI.
abbrev pub SaysNothing : List ℕ → List Data → Type 0
SaysNothing uri sent = AllByRecursion (λ d. IsAbout uri d → ⊥) sent
