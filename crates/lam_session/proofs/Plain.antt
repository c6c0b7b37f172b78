-- What a step sends holds no float if the request's id holds none, so its text is known.
use Rattle.std.proofs.Common.{ℕ, ℤ, pos, negsuc, Option, None, Some, ◌≡◌, zero, suc, List, [], ◌∷◌, map, false, refl, subst, sym, arith}
use Rattle.std.specs.List.{All, AllByRecursion}
use Rattle.std.proofs.lemmas.List.Elements.{All-from_recursion}
use Rattle.serde_json.specs.Data.{Data, Items, null, no_items}
use Rattle.serde_json.specs.Written.{has_float, items_have_float}
use Rattle.lam_rpc.specs.Kind.{Message, request, notice, reply, unreadable, invalid, HasPlainId}
use Rattle.lam_rpc.specs.Reply.{result_reply}
use Rattle.lam_session.specs.declared.states.Lifecycle.{Lifecycle}
use Rattle.lam_session.specs.declared.states.Lifecycle.TheVariants.{Fresh, Running, Down, Over}
use Rattle.lam_text.specs.declared.units.Encoding.{Encoding}
use Rattle.lam_text.specs.declared.units.Encoding.TheVariants.{Utf8, Utf16, Utf32}
use Rattle.lam_text.specs.Edits.{Edit, text_after}
use Rattle.lam_session.specs.declared.methods.RequestMethod.{RequestMethod}
use Rattle.lam_session.specs.declared.methods.RequestMethod.TheVariants.{Initialize, Shutdown, Ask, Unknown as UnknownRequest}
use Rattle.lam_session.specs.declared.methods.NoticeMethod.{NoticeMethod}
use Rattle.lam_session.specs.declared.methods.NoticeMethod.TheVariants.{Exit, DidOpen, DidChange, DidClose, Unknown as UnknownNotice}
use Rattle.lam_session.specs.declared.refusals.Refusal.{Refusal}
use Rattle.lam_session.specs.declared.refusals.Refusal.TheVariants.{UnreadableMessage, InvalidMessage, AlreadyInitialized, ShutDown, NotInitialized, MethodNotFound, InvalidParams, DocumentNotOpen}
use Rattle.lam_session.specs.Initialize.{chosen, initialize_answer}
use Rattle.lam_session.specs.Methods.{request_method, notice_method}
use Rattle.lam_session.specs.Refusals.{refused}
use Rattle.lam_session.specs.State.{State, open_in}
use Rattle.lam_rpc.specs.Fields.{named_uri, listed_changes}
use Rattle.lam_session.specs.Does.{Does}
use Rattle.lam_session.specs.Documents.{OpenDocument, OpenDocuments, open_text}
use Rattle.lam_session.specs.Asked.{PlaceAsked, asked_place, asked_at}
use Rattle.lam_session.specs.Questions.{RepliesOpen, RepliesAt, Asks}
use Rattle.lam_session.specs.declared.questions.Question.{Question}
use Rattle.lam_session.specs.Diagnostics.{diagnostics}
use Rattle.lam_session.specs.Sync.{published, opened_text, given_version, Holds, OpensAs, ChangesText, ChangesAs, ClosesOpen, ClosesAs}
use Rattle.lam_session.proofs.Floatless.{diagnostics_floatless}
use Rattle.lam_session.proofs.QuestionLaws.{laws}
use Rattle.lam_session.proofs.ReplyLemmas.{refusal_plain}
use Rattle.lam_session.specs.Step.{Heeds, Passes, Serves, Awaits, Requested, Noticed, Receives, ReceivesIn, Steps}

-- no value of the list holds a float
abbrev pub NoFloats : List Data → Type 0
NoFloats values = AllByRecursion (λ d. has_float d ≡ false) values

refused_plain : (id : Data) (refusal : Refusal) → has_float id ≡ false → NoFloats (refused id refusal ∷ [])
refused_plain id refusal h = (refusal_plain id refusal h, tt)

initialized_plain : (id : Data) (encoding : Encoding) → has_float id ≡ false → NoFloats (result_reply id (initialize_answer encoding) ∷ [])
initialized_plain id Utf8 h = (rw h, tt)
initialized_plain id Utf16 h = (rw h, tt)
initialized_plain id Utf32 h = (rw h, tt)

does_plain : (values : List Data) (after : State) (sent : List Data) (next : State) → NoFloats values → Does values after sent next → NoFloats sent
does_plain values after sent next h d = subst NoFloats (sym d.0) h

-- ---- questions

replies_open_plain : (question : Question) (held : OpenDocuments) (id params : Data) (place : PlaceAsked) (found : Option (List ℕ)) (answer : Data) → has_float id ≡ false → RepliesOpen question held id params place found answer → has_float answer ≡ false
replies_open_plain question held id params place None answer h r = subst (λ (d : Data). has_float d ≡ false) (sym r) (refusal_plain id DocumentNotOpen h)
replies_open_plain question held id params place (Some text) answer h r = (laws question).plain (asked_at held params place text) id answer h r

replies_plain : (question : Question) (held : OpenDocuments) (id params : Data) (place : Option PlaceAsked) (answer : Data) → has_float id ≡ false → RepliesAt question held id params place answer → has_float answer ≡ false
replies_plain question held id params None answer h r = subst (λ (d : Data). has_float d ≡ false) (sym r) (refusal_plain id InvalidParams h)
replies_plain question held id params (Some place) answer h r = replies_open_plain question held id params place (open_text place.uri held.documents) answer h r

asks_plain : (question : Question) (s : State) (id params : Data) (sent : List Data) (next : State) → has_float id ≡ false → Asks question s id params sent next → NoFloats sent
asks_plain question s id params sent next h d = does_plain _ _ sent next (replies_plain question (open_in s) id params (asked_place question params) d.reply h d.replies, tt) d.does

serves_plain : (s : State) (id : Data) (method : RequestMethod) (params : Data) (sent : List Data) (next : State) → has_float id ≡ false → Serves s id method params sent next → NoFloats sent
serves_plain s id Initialize params sent next h d = does_plain _ _ sent next (refused_plain id AlreadyInitialized h) d
serves_plain s id Shutdown params sent next h d = does_plain _ _ sent next (rw h, tt) d
serves_plain s id (Ask question) params sent next h d = asks_plain question s id params sent next h d
serves_plain s id UnknownRequest params sent next h d = does_plain _ _ sent next (refused_plain id MethodNotFound h) d

awaits_plain : (s : State) (id : Data) (method : RequestMethod) (params : Data) (sent : List Data) (next : State) → has_float id ≡ false → Awaits s id method params sent next → NoFloats sent
awaits_plain s id Initialize params sent next h d = does_plain _ _ sent next (initialized_plain id (chosen params) h) d
awaits_plain s id _ params sent next h d = does_plain _ _ sent next (refused_plain id NotInitialized h) d

requested_plain : (life : Lifecycle) (s : State) (id : Data) (method : RequestMethod) (params : Data) (sent : List Data) (next : State) → has_float id ≡ false → Requested life s id method params sent next → NoFloats sent
requested_plain Fresh s id method params sent next h d = awaits_plain s id method params sent next h d
requested_plain Running s id method params sent next h d = serves_plain s id method params sent next h d
requested_plain Down s id method params sent next h d = does_plain _ _ sent next (refused_plain id ShutDown h) d
requested_plain (Over status) s id method params sent next h d = does_plain _ _ sent next tt d

published_plain : (uri : List ℕ) (version : Option ℤ) (faults : Items) → items_have_float faults ≡ false → NoFloats (published uri version faults ∷ [])
published_plain uri None faults h = (rw h refl, tt)
published_plain uri (Some (pos n)) faults h = (rw h refl, tt)
published_plain uri (Some (negsuc n)) faults h = (rw h refl, tt)

holds_plain : (s : State) (document : OpenDocument) (sent : List Data) (next : State) → Holds s document sent next → NoFloats sent
holds_plain s document sent next d =
    subst NoFloats (sym d.0.told) (published_plain document.uri document.version (diagnostics s.encoding document.text d.0.faults) (diagnostics_floatless s.encoding document.text d.0.faults))

opens_plain : (s : State) (uri text : Option (List ℕ)) (version : Option ℤ) (sent : List Data) (next : State) → OpensAs s uri text version sent next → NoFloats sent
opens_plain s None text version sent next d = does_plain _ _ sent next tt d
opens_plain s (Some uri) None version sent next d = does_plain _ _ sent next tt d
opens_plain s (Some uri) (Some text) version sent next d = holds_plain s (record { uri = uri; text = text; version = version }) sent next d

changes_text_plain : (s : State) (uri : List ℕ) (text : Option (List ℕ)) (edits : List Edit) (version : Option ℤ) (sent : List Data) (next : State) → ChangesText s uri text edits version sent next → NoFloats sent
changes_text_plain s uri None edits version sent next d = does_plain _ _ sent next tt d
changes_text_plain s uri (Some text) edits version sent next d = holds_plain s (record { uri = uri; text = text_after s.encoding text edits; version = version }) sent next d

changes_plain : (s : State) (uri : Option (List ℕ)) (edits : Option (List Edit)) (version : Option ℤ) (sent : List Data) (next : State) → ChangesAs s uri edits version sent next → NoFloats sent
changes_plain s None edits version sent next d = does_plain _ _ sent next tt d
changes_plain s (Some uri) None version sent next d = does_plain _ _ sent next tt d
changes_plain s (Some uri) (Some edits) version sent next d = changes_text_plain s uri (open_text uri s.documents) edits version sent next d

closes_open_plain : (s : State) (uri : List ℕ) (text : Option (List ℕ)) (sent : List Data) (next : State) → ClosesOpen s uri text sent next → NoFloats sent
closes_open_plain s uri None sent next d = does_plain _ _ sent next tt d
closes_open_plain s uri (Some text) sent next d = does_plain _ _ sent next (published_plain uri None no_items refl) d

closes_plain : (s : State) (uri : Option (List ℕ)) (sent : List Data) (next : State) → ClosesAs s uri sent next → NoFloats sent
closes_plain s None sent next d = does_plain _ _ sent next tt d
closes_plain s (Some uri) sent next d = closes_open_plain s uri (open_text uri s.documents) sent next d

heeds_plain : (s : State) (method : NoticeMethod) (params : Data) (sent : List Data) (next : State) → Heeds s method params sent next → NoFloats sent
heeds_plain s Exit params sent next d = does_plain _ _ sent next tt d
heeds_plain s DidOpen params sent next d = opens_plain s (named_uri params) (opened_text params) (given_version params) sent next d
heeds_plain s DidChange params sent next d = changes_plain s (named_uri params) (listed_changes params) (given_version params) sent next d
heeds_plain s DidClose params sent next d = closes_plain s (named_uri params) sent next d
heeds_plain s UnknownNotice params sent next d = does_plain _ _ sent next tt d

passes_plain : (s : State) (method : NoticeMethod) (sent : List Data) (next : State) → Passes s method sent next → NoFloats sent
passes_plain s Exit sent next d = does_plain _ _ sent next tt d
passes_plain s _ sent next d = does_plain _ _ sent next tt d

noticed_plain : (life : Lifecycle) (s : State) (method : NoticeMethod) (params : Data) (sent : List Data) (next : State) → Noticed life s method params sent next → NoFloats sent
noticed_plain Running s method params sent next d = heeds_plain s method params sent next d
noticed_plain (Over status) s method params sent next d = does_plain _ _ sent next tt d
noticed_plain _ s method params sent next d = passes_plain s method sent next d

receives_plain : (s : State) (m : Message) (sent : List Data) (next : State) → HasPlainId m → Receives s m sent next → NoFloats sent
receives_plain s (request id method params) sent next h d = requested_plain s.life s id (request_method method) params sent next h d
receives_plain s (notice method params) sent next h d = noticed_plain s.life s (notice_method method) params sent next d
receives_plain s reply sent next h d = does_plain _ _ sent next tt d
receives_plain s unreadable sent next h d = does_plain _ _ sent next (refused_plain null UnreadableMessage refl) d
receives_plain s invalid sent next h d = does_plain _ _ sent next (refused_plain null InvalidMessage refl) d

lives_plain : (life : Lifecycle) (s : State) (m : Message) (sent : List Data) (next : State) → HasPlainId m → ReceivesIn life s m sent next → NoFloats sent
lives_plain (Over status) s m sent next h d = does_plain _ _ sent next tt d
lives_plain _ s m sent next h d = receives_plain s m sent next h d

pub steps_plain : (s : State) (m : Message) (sent : List Data) (next : State) → HasPlainId m → Steps s m sent next → NoFloats sent
steps_plain s m sent next h d = lives_plain s.life s m sent next h d

-- the same for each value that is sent
pub sent_plain : (s : State) (m : Message) (sent : List Data) (next : State) → HasPlainId m → Steps s m sent next → All (λ (d : Data). has_float d ≡ false) sent
sent_plain s m sent next h d = All-from_recursion (λ (x : Data). has_float x ≡ false) sent (steps_plain s m sent next h d)

-- and for each item that stands for such a value
pub each_plain : {A : Type 0} (shown : A → Data) (items : List A) → NoFloats (map shown items) → All (λ x. has_float (shown x) ≡ false) items
each_plain shown [] h k d l = absurd (omega arith)
each_plain shown (x ∷ xs) h zero d l = h.0
each_plain shown (x ∷ xs) h (suc k) d l = each_plain shown xs h.1 k d (omega arith)
