-- Messages that do not concern a document do not change the answers about it.
use Rattle.std.proofs.Common.{not, option_and_then, ◌≡◌, ℕ, ℤ, List, [], ◌∷◌, codes, Bool, true, false, cond, ◌||◌, Option, None, Some, option_map, refl, sym, ap, ◌∙◌, subst, true≢false}
use Rattle.std.proofs.lemmas.Bool.{or_parts}
use Rattle.std.proofs.lemmas.Slice.Eq.{bytes_eq-Decides}
use Rattle.std.specs.Str.{bytes_eq}
use Rattle.serde_json.specs.Data.{Data, Items, null, string, no_items}
use Rattle.serde_json.specs.Find.{get}
use Rattle.lam_rpc.specs.Reply.{result_reply}
use Rattle.lam_rpc.specs.Fields.{asked_position, named_uri, listed_changes}
use Rattle.lam_rpc.specs.Kind.{Message, request, notice, reply, unreadable, invalid}
use Rattle.lam_rules.specs.declared.rules.Dialect.{Dialect}
use Rattle.lam_text.specs.declared.places.Position.{Position}
use Rattle.lam_text.specs.Edits.{Edit, text_after}
use Rattle.lam_session.specs.declared.states.Lifecycle.{Lifecycle}
use Rattle.lam_session.specs.declared.states.Lifecycle.TheVariants.{Fresh, Running, Down, Over}
use Rattle.lam_session.specs.declared.methods.RequestMethod.{RequestMethod}
use Rattle.lam_session.specs.declared.methods.RequestMethod.TheVariants.{Initialize, Shutdown, Ask, Unknown as UnknownRequest}
use Rattle.lam_session.specs.declared.methods.NoticeMethod.{NoticeMethod}
use Rattle.lam_session.specs.declared.methods.NoticeMethod.TheVariants.{Exit, DidOpen, DidChange, DidClose, Unknown as UnknownNotice}
use Rattle.lam_session.specs.Documents.{OpenDocument, OpenDocuments, open_text, with_document, without_document}
use Rattle.lam_session.specs.declared.refusals.Refusal.{Refusal}
use Rattle.lam_session.specs.declared.refusals.Refusal.TheVariants.{UnreadableMessage, InvalidMessage, AlreadyInitialized, ShutDown, NotInitialized, MethodNotFound, InvalidParams, DocumentNotOpen}
use Rattle.lam_session.specs.Does.{Does}
use Rattle.lam_session.specs.Initialize.{chosen, initialize_answer}
use Rattle.lam_session.specs.Asked.{PlaceAsked, place_of, has_rest, asked_place, asked_at}
use Rattle.lam_session.specs.Questions.{RepliesOpen, RepliesAt, Asks}
use Rattle.lam_session.specs.declared.questions.Question.{Question}
use Rattle.lam_session.specs.Refusals.{refused}
use Rattle.lam_session.specs.Methods.{request_method, notice_method}
use Rattle.lam_session.specs.Runs.{Exchange, AreExchanges, is_lifecycle, is_named, concerns, concerning, document_named, IsAlone, SaysNothing}
use Rattle.lam_session.specs.State.{State, open_in, fresh}
use Rattle.lam_session.specs.Step.{exit_status, Serves, Awaits, Requested, Heeds, Passes, Noticed, Receives, ReceivesIn, Steps}
use Rattle.lam_session.specs.Sync.{published, opened_text, given_version, Holds, OpensAs, ChangesText, ChangesAs, ClosesOpen, ClosesAs}
use Rattle.lam_session.specs.Diagnostics.{diagnostics}
use Rattle.lam_session.proofs.EntryLemmas.{same_text}
use Rattle.lam_session.proofs.MethodLemmas.{fits_request, request_fits, fits_notice, notice_fits}
use Rattle.lam_session.proofs.QuestionLaws.{laws}
use Rattle.lam_session.proofs.ReplyLemmas.{HasNoMethod, refusal_has_no_method}

-- ---- the documents

text_at : (uri : List ℕ) (b : Bool) (d : OpenDocument) (text : Option (List ℕ)) (named : Option OpenDocument) → text ≡ option_map (λ n. n.text) named
    → cond b (Some d.text) text ≡ option_map (λ n. n.text) (cond b (Some d) named)
text_at uri true d text named later = refl
text_at uri false d text named later = later

-- the open text is that of the open document
text_named : (uri : List ℕ) (ds : List OpenDocument) → open_text uri ds ≡ option_map (λ n. n.text) (document_named uri ds)
text_named uri [] = refl
text_named uri (d ∷ ds) = text_at uri (bytes_eq uri d.uri) d (open_text uri ds) (document_named uri ds) (text_named uri ds)

set_at : (b : Bool) (d e : OpenDocument) (ds es : List OpenDocument) → bytes_eq d.uri e.uri ≡ b → document_named d.uri es ≡ Some d → document_named d.uri (cond b (d ∷ ds) (e ∷ es)) ≡ Some d
set_at true d e ds es is later = rw same_text refl
set_at false d e ds es is later = rw is later

-- a document that is set is found
set_named : (d : OpenDocument) (ds : List OpenDocument) → document_named d.uri (with_document d ds) ≡ Some d
set_named d [] = rw same_text refl
set_named d (e ∷ es) = set_at (bytes_eq d.uri e.uri) d e es (with_document d es) refl (set_named d es)

-- another document stays
other_set : (uri : List ℕ) (b : Bool) (d e : OpenDocument) (es rest : List OpenDocument) → bytes_eq uri d.uri ≡ false → bytes_eq d.uri e.uri ≡ b → document_named uri rest ≡ document_named uri es
    → document_named uri (cond b (d ∷ es) (e ∷ rest)) ≡ document_named uri (e ∷ es)
other_set uri true d e es rest apart is later =
    let same : d.uri ≡ e.uri = (bytes_eq-Decides d.uri e.uri).0 is in
    let apart_too : bytes_eq uri e.uri ≡ false = rw (← same) apart in
    rw (apart, apart_too) refl
other_set uri false d e es rest apart is later = ap (λ r. cond (bytes_eq uri e.uri) (Some e) r) later

kept_set : (uri : List ℕ) (d : OpenDocument) (ds : List OpenDocument) → bytes_eq uri d.uri ≡ false → document_named uri (with_document d ds) ≡ document_named uri ds
kept_set uri d [] apart = rw apart refl
kept_set uri d (e ∷ es) apart = other_set uri (bytes_eq d.uri e.uri) d e es (with_document d es) apart refl (kept_set uri d es apart)

-- setting a document keeps agreement
agree_at : (uri : List ℕ) (b : Bool) (d : OpenDocument) (ds es : List OpenDocument) → bytes_eq uri d.uri ≡ b → document_named uri ds ≡ document_named uri es → document_named uri (with_document d ds) ≡ document_named uri (with_document d es)
agree_at uri true d ds es is agree =
    let same : uri ≡ d.uri = (bytes_eq-Decides uri d.uri).0 is in
    rw same (set_named d ds ∙ sym (set_named d es))
agree_at uri false d ds es is agree = kept_set uri d ds is ∙ (agree ∙ sym (kept_set uri d es is))

agree_set : (uri : List ℕ) (d : OpenDocument) (ds es : List OpenDocument) → document_named uri ds ≡ document_named uri es → document_named uri (with_document d ds) ≡ document_named uri (with_document d es)
agree_set uri d ds es agree = agree_at uri (bytes_eq uri d.uri) d ds es refl agree

gone_at : (uri : List ℕ) (b : Bool) (d : OpenDocument) (rest : List OpenDocument) → bytes_eq uri d.uri ≡ b → document_named uri rest ≡ None → document_named uri (cond (not b) (d ∷ rest) rest) ≡ None
gone_at uri true d rest is later = later
gone_at uri false d rest is later = rw is later

-- a closed document is not found
gone : (uri : List ℕ) (ds : List OpenDocument) → document_named uri (without_document uri ds) ≡ None
gone uri [] = refl
gone uri (d ∷ ds) = gone_at uri (bytes_eq uri d.uri) d (without_document uri ds) refl (gone uri ds)

other_closed : (uri other : List ℕ) (b : Bool) (d : OpenDocument) (ds rest : List OpenDocument) → bytes_eq uri other ≡ false → bytes_eq other d.uri ≡ b → document_named uri rest ≡ document_named uri ds
    → document_named uri (cond (not b) (d ∷ rest) rest) ≡ document_named uri (d ∷ ds)
other_closed uri other true d ds rest apart is later =
    let same : other ≡ d.uri = (bytes_eq-Decides other d.uri).0 is in
    let apart_too : bytes_eq uri d.uri ≡ false = rw (← same) apart in
    rw apart_too later
other_closed uri other false d ds rest apart is later = ap (λ r. cond (bytes_eq uri d.uri) (Some d) r) later

kept_close : (uri other : List ℕ) (ds : List OpenDocument) → bytes_eq uri other ≡ false → document_named uri (without_document other ds) ≡ document_named uri ds
kept_close uri other [] apart = refl
kept_close uri other (d ∷ ds) apart = other_closed uri other (bytes_eq other d.uri) d ds (without_document other ds) apart refl (kept_close uri other ds apart)

-- ---- one step, beside the same step of a session with other documents

-- the state with these documents
abbrev beside : State → List OpenDocument → State
beside s docs = record s { documents = docs }

-- the same step with other documents, and agreement after it
abbrev Goes : List ℕ → (List Data → State → Type 0) → List Data → State → Type 0
Goes uri Step sent next = (docs : List OpenDocument) × Step sent (beside next docs) × (document_named uri next.documents ≡ document_named uri docs)

does_same : (uri : List ℕ) (values : List Data) (after : State) (docs : List OpenDocument) (sent : List Data) (next : State)
    → document_named uri after.documents ≡ document_named uri docs → Does values after sent next → Goes uri (Does values (beside after docs)) sent next
does_same uri values after docs sent next agree d =
    (docs, (d.0, ap (λ (x : State). beside x docs) d.1), ap (λ (x : State). document_named uri x.documents) d.1 ∙ agree)

-- lists that agree about a document agree about its text
agree_text : (uri : List ℕ) (ds es : List OpenDocument) → document_named uri ds ≡ document_named uri es → open_text uri ds ≡ open_text uri es
agree_text uri ds es agree = text_named uri ds ∙ ap (option_map (λ n. n.text)) agree ∙ sym (text_named uri es)

-- lists that agree about a uri agree about the text of an equal one
agree_named : (uri other : List ℕ) (ds es : List OpenDocument) → bytes_eq uri other ≡ true → document_named uri ds ≡ document_named uri es → open_text other ds ≡ open_text other es
agree_named uri other ds es is agree = subst (λ (u : List ℕ). open_text u ds ≡ open_text u es) ((bytes_eq-Decides uri other).0 is) (agree_text uri ds es agree)

-- ---- questions

-- the document of a place is the one that the params name
place_named : (has : Bool) (position : Option Position) (named : Option (List ℕ)) (place : PlaceAsked) → cond has (place_of position named) None ≡ Some place → named ≡ Some place.uri
place_named false position named place is = absurd cc
place_named true None named place is = absurd cc
place_named true (Some position) None place is = absurd cc
place_named true (Some position) (Some uri) place is = let same : record { uri = uri; position = position } ≡ place = cc in ap (λ (p : PlaceAsked). Some p.uri) same

replies_open_same : (question : Question) (s : State) (docs : List OpenDocument) (id params : Data) (place : PlaceAsked) (found : Option (List ℕ)) (answer : Data)
    → RepliesOpen question (open_in s) id params place found answer → RepliesOpen question (open_in (beside s docs)) id params place found answer
replies_open_same question s docs id params place None answer r = r
replies_open_same question s docs id params place (Some text) answer r = r

replies_same : (uri : List ℕ) (question : Question) (s : State) (docs : List OpenDocument) (id params : Data) (place : Option PlaceAsked) (answer : Data)
    → document_named uri s.documents ≡ document_named uri docs → is_named uri (named_uri params) ≡ true → asked_place question params ≡ place
    → RepliesAt question (open_in s) id params place answer → RepliesAt question (open_in (beside s docs)) id params place answer
replies_same uri question s docs id params None answer agree is asked r = r
replies_same uri question s docs id params (Some place) answer agree is asked r =
    let named = place_named (has_rest question params) (asked_position params) (named_uri params) place asked in
    let names : bytes_eq uri place.uri ≡ true = subst (λ (o : Option (List ℕ)). is_named uri o ≡ true) named is in
    subst (λ (found : Option (List ℕ)). RepliesOpen question (open_in (beside s docs)) id params place found answer)
    (agree_named uri place.uri s.documents docs names agree)
    (replies_open_same question s docs id params place (open_text place.uri s.documents) answer r)

asks_same : (uri : List ℕ) (question : Question) (s : State) (docs : List OpenDocument) (id params : Data) (sent : List Data) (next : State)
    → document_named uri s.documents ≡ document_named uri docs → is_named uri (named_uri params) ≡ true → Asks question s id params sent next → Goes uri (Asks question (beside s docs) id params) sent next
asks_same uri question s docs id params sent next agree is d =
    let does = does_same uri (d.reply ∷ []) s docs sent next agree d.does in
    (does.0, record { reply = d.reply; replies = replies_same uri question s docs id params (asked_place question params) d.reply agree is refl d.replies; does = does.1 }, does.2)

-- ---- requests

-- a fact that only a question about a document needs
abbrev IfAsks : RequestMethod → Type 0 → Type 0
IfAsks (Ask question) P = P
IfAsks _ P = Unit {0}

serves_same : (uri : List ℕ) (s : State) (docs : List OpenDocument) (id : Data) (method : RequestMethod) (params : Data) (sent : List Data) (next : State)
    → document_named uri s.documents ≡ document_named uri docs → IfAsks method (is_named uri (named_uri params) ≡ true) → Serves s id method params sent next → Goes uri (Serves (beside s docs) id method params) sent next
serves_same uri s docs id Initialize params sent next agree is d = does_same uri (refused id AlreadyInitialized ∷ []) s docs sent next agree d
serves_same uri s docs id Shutdown params sent next agree is d = does_same uri (result_reply id null ∷ []) (record s { life = Down }) docs sent next agree d
serves_same uri s docs id (Ask question) params sent next agree is d = asks_same uri question s docs id params sent next agree is d
serves_same uri s docs id UnknownRequest params sent next agree is d = does_same uri (refused id MethodNotFound ∷ []) s docs sent next agree d

awaits_same : (uri : List ℕ) (s : State) (docs : List OpenDocument) (id : Data) (method : RequestMethod) (params : Data) (sent : List Data) (next : State)
    → document_named uri s.documents ≡ document_named uri docs → Awaits s id method params sent next → Goes uri (Awaits (beside s docs) id method params) sent next
awaits_same uri s docs id Initialize params sent next agree d =
    does_same uri (result_reply id (initialize_answer (chosen params)) ∷ []) (record s { life = Running; encoding = chosen params; documents = [] }) [] sent next refl d
awaits_same uri s docs id _ params sent next agree d = does_same uri (refused id NotInitialized ∷ []) s docs sent next agree d

requested_same : (uri : List ℕ) (life : Lifecycle) (s : State) (docs : List OpenDocument) (id : Data) (method : RequestMethod) (params : Data) (sent : List Data) (next : State)
    → document_named uri s.documents ≡ document_named uri docs → IfAsks method (is_named uri (named_uri params) ≡ true) → Requested life s id method params sent next → Goes uri (Requested life (beside s docs) id method params) sent next
requested_same uri Fresh s docs id method params sent next agree is d = awaits_same uri s docs id method params sent next agree d
requested_same uri Running s docs id method params sent next agree is d = serves_same uri s docs id method params sent next agree is d
requested_same uri Down s docs id method params sent next agree is d = does_same uri (refused id ShutDown ∷ []) s docs sent next agree d
requested_same uri (Over status) s docs id method params sent next agree is d = does_same uri [] s docs sent next agree d

holds_same : (uri : List ℕ) (s : State) (docs : List OpenDocument) (document : OpenDocument) (sent : List Data) (next : State)
    → document_named uri s.documents ≡ document_named uri docs → Holds s document sent next → Goes uri (Holds (beside s docs) document) sent next
holds_same uri s docs document sent next agree d =
    let does = does_same uri sent (beside s (with_document document s.documents)) (with_document document docs) sent next (agree_set uri document s.documents docs agree) (refl, d.1) in
    (does.0, (d.0, does.1.1), does.2)

opens_same : (uri : List ℕ) (s : State) (docs : List OpenDocument) (named text : Option (List ℕ)) (version : Option ℤ) (sent : List Data) (next : State)
    → document_named uri s.documents ≡ document_named uri docs → OpensAs s named text version sent next → Goes uri (OpensAs (beside s docs) named text version) sent next
opens_same uri s docs None text version sent next agree d = does_same uri [] s docs sent next agree d
opens_same uri s docs (Some other) None version sent next agree d = does_same uri [] s docs sent next agree d
opens_same uri s docs (Some other) (Some text) version sent next agree d = holds_same uri s docs (record { uri = other; text = text; version = version }) sent next agree d

changes_text_same : (uri : List ℕ) (s : State) (docs : List OpenDocument) (other : List ℕ) (found : Option (List ℕ)) (edits : List Edit) (version : Option ℤ) (sent : List Data) (next : State)
    → document_named uri s.documents ≡ document_named uri docs → ChangesText s other found edits version sent next → Goes uri (ChangesText (beside s docs) other found edits version) sent next
changes_text_same uri s docs other None edits version sent next agree d = does_same uri [] s docs sent next agree d
changes_text_same uri s docs other (Some text) edits version sent next agree d =
    holds_same uri s docs (record { uri = other; text = text_after s.encoding text edits; version = version }) sent next agree d

changes_same : (uri : List ℕ) (s : State) (docs : List OpenDocument) (named : Option (List ℕ)) (edits : Option (List Edit)) (version : Option ℤ) (sent : List Data) (next : State)
    → document_named uri s.documents ≡ document_named uri docs → is_named uri named ≡ true → ChangesAs s named edits version sent next → Goes uri (ChangesAs (beside s docs) named edits version) sent next
changes_same uri s docs None edits version sent next agree is d = does_same uri [] s docs sent next agree d
changes_same uri s docs (Some other) None version sent next agree is d = does_same uri [] s docs sent next agree d
changes_same uri s docs (Some other) (Some edits) version sent next agree is d =
    subst (λ (found : Option (List ℕ)). Goes uri (ChangesText (beside s docs) other found edits version) sent next)
    (agree_named uri other s.documents docs is agree)
    (changes_text_same uri s docs other (open_text other s.documents) edits version sent next agree d)

closed_agree : (uri other : List ℕ) (ds es : List OpenDocument) → bytes_eq uri other ≡ true → document_named uri (without_document other ds) ≡ document_named uri (without_document other es)
closed_agree uri other ds es is =
    subst (λ (u : List ℕ). document_named uri (without_document u ds) ≡ document_named uri (without_document u es)) ((bytes_eq-Decides uri other).0 is) (gone uri ds ∙ sym (gone uri es))

closes_open_same : (uri : List ℕ) (s : State) (docs : List OpenDocument) (other : List ℕ) (found : Option (List ℕ)) (sent : List Data) (next : State)
    → document_named uri s.documents ≡ document_named uri docs → bytes_eq uri other ≡ true → ClosesOpen s other found sent next → Goes uri (ClosesOpen (beside s docs) other found) sent next
closes_open_same uri s docs other None sent next agree is d = does_same uri [] s docs sent next agree d
closes_open_same uri s docs other (Some text) sent next agree is d =
    does_same uri (published other None no_items ∷ []) (beside s (without_document other s.documents)) (without_document other docs) sent next
    (closed_agree uri other s.documents docs is) d

closes_same : (uri : List ℕ) (s : State) (docs : List OpenDocument) (named : Option (List ℕ)) (sent : List Data) (next : State)
    → document_named uri s.documents ≡ document_named uri docs → is_named uri named ≡ true → ClosesAs s named sent next → Goes uri (ClosesAs (beside s docs) named) sent next
closes_same uri s docs None sent next agree is d = does_same uri [] s docs sent next agree d
closes_same uri s docs (Some other) sent next agree is d =
    subst (λ (found : Option (List ℕ)). Goes uri (ClosesOpen (beside s docs) other found) sent next)
    (agree_named uri other s.documents docs is agree)
    (closes_open_same uri s docs other (open_text other s.documents) sent next agree is d)

-- a fact that only a change and a close need
abbrev IfNamed : NoticeMethod → Type 0 → Type 0
IfNamed DidChange P = P
IfNamed DidClose P = P
IfNamed _ P = Unit {0}

heeds_same : (uri : List ℕ) (s : State) (docs : List OpenDocument) (method : NoticeMethod) (params : Data) (sent : List Data) (next : State)
    → document_named uri s.documents ≡ document_named uri docs → IfNamed method (is_named uri (named_uri params) ≡ true) → Heeds s method params sent next → Goes uri (Heeds (beside s docs) method params) sent next
heeds_same uri s docs Exit params sent next agree is d = does_same uri [] (record s { life = Over (exit_status s.life) }) docs sent next agree d
heeds_same uri s docs DidOpen params sent next agree is d = opens_same uri s docs (named_uri params) (opened_text params) (given_version params) sent next agree d
heeds_same uri s docs DidChange params sent next agree is d = changes_same uri s docs (named_uri params) (listed_changes params) (given_version params) sent next agree is d
heeds_same uri s docs DidClose params sent next agree is d = closes_same uri s docs (named_uri params) sent next agree is d
heeds_same uri s docs UnknownNotice params sent next agree is d = does_same uri [] s docs sent next agree d

passes_same : (uri : List ℕ) (s : State) (docs : List OpenDocument) (method : NoticeMethod) (sent : List Data) (next : State)
    → document_named uri s.documents ≡ document_named uri docs → Passes s method sent next → Goes uri (Passes (beside s docs) method) sent next
passes_same uri s docs Exit sent next agree d = does_same uri [] (record s { life = Over (exit_status s.life) }) docs sent next agree d
passes_same uri s docs _ sent next agree d = does_same uri [] s docs sent next agree d

noticed_same : (uri : List ℕ) (life : Lifecycle) (s : State) (docs : List OpenDocument) (method : NoticeMethod) (params : Data) (sent : List Data) (next : State)
    → document_named uri s.documents ≡ document_named uri docs → IfNamed method (is_named uri (named_uri params) ≡ true) → Noticed life s method params sent next → Goes uri (Noticed life (beside s docs) method params) sent next
noticed_same uri Running s docs method params sent next agree is d = heeds_same uri s docs method params sent next agree is d
noticed_same uri (Over status) s docs method params sent next agree is d = does_same uri [] s docs sent next agree d
noticed_same uri _ s docs method params sent next agree is d = passes_same uri s docs method sent next agree d

or_right : (a b : Bool) → not a ≡ true → (a || b) ≡ true → b ≡ true
or_right true b h either = absurd cc
or_right false b h either = either

if_named : (name : List ℕ) (method : NoticeMethod) (b : Bool) → fits_notice name method ≡ true → (is_lifecycle name || b) ≡ true → IfNamed method (b ≡ true)
if_named name Exit b fits h = tt
if_named name DidOpen b fits h = tt
if_named name DidChange b fits h = or_right (is_lifecycle name) b fits h
if_named name DidClose b fits h = or_right (is_lifecycle name) b fits h
if_named name UnknownNotice b fits h = tt

-- a change or a close that concerns a document names it
concerned : (name : List ℕ) (b : Bool) → (is_lifecycle name || b) ≡ true → IfNamed (notice_method name) (b ≡ true)
concerned name b h = if_named name (notice_method name) b (notice_fits name) h

if_asks : (name : List ℕ) (method : RequestMethod) (b : Bool) → fits_request name method ≡ true → (is_lifecycle name || b) ≡ true → IfAsks method (b ≡ true)
if_asks name Initialize b fits h = tt
if_asks name Shutdown b fits h = tt
if_asks name (Ask question) b fits h = or_right (is_lifecycle name) b fits h
if_asks name UnknownRequest b fits h = tt

-- a question that concerns a document names it
asks_concerned : (name : List ℕ) (b : Bool) → (is_lifecycle name || b) ≡ true → IfAsks (request_method name) (b ≡ true)
asks_concerned name b h = if_asks name (request_method name) b (request_fits name) h

receives_same : (uri : List ℕ) (s : State) (docs : List OpenDocument) (m : Message) (sent : List Data) (next : State)
    → document_named uri s.documents ≡ document_named uri docs → concerns uri m ≡ true → Receives s m sent next → Goes uri (Receives (beside s docs) m) sent next
receives_same uri s docs (request id method params) sent next agree is d =
    requested_same uri s.life s docs id (request_method method) params sent next agree (asks_concerned method (is_named uri (named_uri params)) is) d
receives_same uri s docs (notice method params) sent next agree is d =
    noticed_same uri s.life s docs (notice_method method) params sent next agree (concerned method (is_named uri (named_uri params)) is) d
receives_same uri s docs reply sent next agree is d = does_same uri [] s docs sent next agree d
receives_same uri s docs unreadable sent next agree is d = does_same uri (refused null UnreadableMessage ∷ []) s docs sent next agree d
receives_same uri s docs invalid sent next agree is d = does_same uri (refused null InvalidMessage ∷ []) s docs sent next agree d

lives_same : (uri : List ℕ) (life : Lifecycle) (s : State) (docs : List OpenDocument) (m : Message) (sent : List Data) (next : State)
    → document_named uri s.documents ≡ document_named uri docs → concerns uri m ≡ true → ReceivesIn life s m sent next → Goes uri (ReceivesIn life (beside s docs) m) sent next
lives_same uri (Over status) s docs m sent next agree is d = does_same uri [] s docs sent next agree d
lives_same uri _ s docs m sent next agree is d = receives_same uri s docs m sent next agree is d

-- ---- one step that does not concern a document

-- nothing but other documents changes, and nothing is published about this one
abbrev Quiet : List ℕ → State → List Data → State → Type 0
Quiet uri s sent next = (next ≡ beside s next.documents) × (document_named uri next.documents ≡ document_named uri s.documents) × SaysNothing uri sent

does_quiet : (uri : List ℕ) (s : State) (values : List Data) (docs : List OpenDocument) (sent : List Data) (next : State)
    → document_named uri docs ≡ document_named uri s.documents → SaysNothing uri values → Does values (beside s docs) sent next → Quiet uri s sent next
does_quiet uri s values docs sent next agree says d =
    subst (λ (x : State). Quiet uri s sent x) (sym d.1) (refl, agree, subst (λ (v : List Data). SaysNothing uri v) (sym d.0) says)

reply_says : (uri : List ℕ) (answer : Data) → HasNoMethod answer → SaysNothing uri (answer ∷ [])
reply_says uri answer no_method = (λ about. let clash : None ≡ Some (string (codes "textDocument/publishDiagnostics")) = sym no_method ∙ ap (get (codes "method")) about.2 in cc, tt)

refused_says : (uri : List ℕ) (id : Data) (refusal : Refusal) → SaysNothing uri (refused id refusal ∷ [])
refused_says uri id refusal = reply_says uri (refused id refusal) (refusal_has_no_method id refusal)

published_says : (uri other : List ℕ) (version : Option ℤ) (faults : Items) → bytes_eq uri other ≡ false → SaysNothing uri (published other version faults ∷ [])
published_says uri other version faults apart = (
  λ about.
      let found : Some (string other) ≡ Some (string uri) = ap (λ (d : Data). option_and_then (get (codes "uri")) (get (codes "params") d)) about.2 in
      let same : other ≡ uri = cc in
      true≢false (sym (subst (λ (u : List ℕ). bytes_eq uri u ≡ true) (sym same) (same_text uri)) ∙ apart),
  tt,
)

replies_open_quiet : (question : Question) (held : OpenDocuments) (id params : Data) (place : PlaceAsked) (found : Option (List ℕ)) (answer : Data) → RepliesOpen question held id params place found answer → HasNoMethod answer
replies_open_quiet question held id params place None answer r = subst HasNoMethod (sym r) (refusal_has_no_method id DocumentNotOpen)
replies_open_quiet question held id params place (Some text) answer r = (laws question).no_method (asked_at held params place text) id answer r

replies_quiet : (question : Question) (held : OpenDocuments) (id params : Data) (place : Option PlaceAsked) (answer : Data) → RepliesAt question held id params place answer → HasNoMethod answer
replies_quiet question held id params None answer r = subst HasNoMethod (sym r) (refusal_has_no_method id InvalidParams)
replies_quiet question held id params (Some place) answer r = replies_open_quiet question held id params place (open_text place.uri held.documents) answer r

asks_quiet : (uri : List ℕ) (question : Question) (s : State) (id params : Data) (sent : List Data) (next : State) → Asks question s id params sent next → Quiet uri s sent next
asks_quiet uri question s id params sent next d =
    does_quiet uri s (d.reply ∷ []) s.documents sent next refl (reply_says uri d.reply (replies_quiet question (open_in s) id params (asked_place question params) d.reply d.replies)) d.does

-- a request that does not belong to the lifecycle
abbrev IsOther : RequestMethod → Type 0
IsOther Initialize = ⊥
IsOther Shutdown = ⊥
IsOther _ = Unit {0}

serves_quiet : (uri : List ℕ) (s : State) (id : Data) (method : RequestMethod) (params : Data) (sent : List Data) (next : State) → IsOther method → Serves s id method params sent next → Quiet uri s sent next
serves_quiet uri s id Initialize params sent next other d = absurd other
serves_quiet uri s id Shutdown params sent next other d = absurd other
serves_quiet uri s id (Ask question) params sent next other d = asks_quiet uri question s id params sent next d
serves_quiet uri s id UnknownRequest params sent next other d = does_quiet uri s (refused id MethodNotFound ∷ []) s.documents sent next refl (refused_says uri id MethodNotFound) d

awaits_quiet : (uri : List ℕ) (s : State) (id : Data) (method : RequestMethod) (params : Data) (sent : List Data) (next : State) → IsOther method → Awaits s id method params sent next → Quiet uri s sent next
awaits_quiet uri s id Initialize params sent next other d = absurd other
awaits_quiet uri s id _ params sent next other d = does_quiet uri s (refused id NotInitialized ∷ []) s.documents sent next refl (refused_says uri id NotInitialized) d

requested_quiet : (uri : List ℕ) (life : Lifecycle) (s : State) (id : Data) (method : RequestMethod) (params : Data) (sent : List Data) (next : State) → IsOther method → Requested life s id method params sent next → Quiet uri s sent next
requested_quiet uri Fresh s id method params sent next other d = awaits_quiet uri s id method params sent next other d
requested_quiet uri Running s id method params sent next other d = serves_quiet uri s id method params sent next other d
requested_quiet uri Down s id method params sent next other d = does_quiet uri s (refused id ShutDown ∷ []) s.documents sent next refl (refused_says uri id ShutDown) d
requested_quiet uri (Over status) s id method params sent next other d = does_quiet uri s [] s.documents sent next refl tt d

is_other : (name : List ℕ) (method : RequestMethod) → fits_request name method ≡ true → is_lifecycle name ≡ false → IsOther method
is_other name Initialize fits is = true≢false (sym fits ∙ is)
is_other name Shutdown fits is = true≢false (sym fits ∙ is)
is_other name (Ask question) fits is = tt
is_other name UnknownRequest fits is = tt

other_request : (name : List ℕ) → is_lifecycle name ≡ false → IsOther (request_method name)
other_request name is = is_other name (request_method name) (request_fits name) is

holds_quiet : (uri : List ℕ) (s : State) (document : OpenDocument) (sent : List Data) (next : State) → bytes_eq uri document.uri ≡ false → Holds s document sent next → Quiet uri s sent next
holds_quiet uri s document sent next apart d =
    does_quiet uri s (published document.uri document.version (diagnostics s.encoding document.text d.0.faults) ∷ []) (with_document document s.documents) sent next
    (kept_set uri document s.documents apart) (published_says uri document.uri document.version _ apart) (d.0.told, d.1)

opens_quiet : (uri : List ℕ) (s : State) (named text : Option (List ℕ)) (version : Option ℤ) (sent : List Data) (next : State) → is_named uri named ≡ false → OpensAs s named text version sent next → Quiet uri s sent next
opens_quiet uri s None text version sent next apart d = does_quiet uri s [] s.documents sent next refl tt d
opens_quiet uri s (Some other) None version sent next apart d = does_quiet uri s [] s.documents sent next refl tt d
opens_quiet uri s (Some other) (Some text) version sent next apart d = holds_quiet uri s (record { uri = other; text = text; version = version }) sent next apart d

changes_text_quiet : (uri : List ℕ) (s : State) (other : List ℕ) (found : Option (List ℕ)) (edits : List Edit) (version : Option ℤ) (sent : List Data) (next : State)
    → bytes_eq uri other ≡ false → ChangesText s other found edits version sent next → Quiet uri s sent next
changes_text_quiet uri s other None edits version sent next apart d = does_quiet uri s [] s.documents sent next refl tt d
changes_text_quiet uri s other (Some text) edits version sent next apart d =
    holds_quiet uri s (record { uri = other; text = text_after s.encoding text edits; version = version }) sent next apart d

changes_quiet : (uri : List ℕ) (s : State) (named : Option (List ℕ)) (edits : Option (List Edit)) (version : Option ℤ) (sent : List Data) (next : State) → is_named uri named ≡ false → ChangesAs s named edits version sent next → Quiet uri s sent next
changes_quiet uri s None edits version sent next apart d = does_quiet uri s [] s.documents sent next refl tt d
changes_quiet uri s (Some other) None version sent next apart d = does_quiet uri s [] s.documents sent next refl tt d
changes_quiet uri s (Some other) (Some edits) version sent next apart d = changes_text_quiet uri s other (open_text other s.documents) edits version sent next apart d

closes_open_quiet : (uri : List ℕ) (s : State) (other : List ℕ) (found : Option (List ℕ)) (sent : List Data) (next : State) → bytes_eq uri other ≡ false → ClosesOpen s other found sent next → Quiet uri s sent next
closes_open_quiet uri s other None sent next apart d = does_quiet uri s [] s.documents sent next refl tt d
closes_open_quiet uri s other (Some text) sent next apart d =
    does_quiet uri s (published other None no_items ∷ []) (without_document other s.documents) sent next
    (kept_close uri other s.documents apart) (published_says uri other None no_items apart) d

closes_quiet : (uri : List ℕ) (s : State) (named : Option (List ℕ)) (sent : List Data) (next : State) → is_named uri named ≡ false → ClosesAs s named sent next → Quiet uri s sent next
closes_quiet uri s None sent next apart d = does_quiet uri s [] s.documents sent next refl tt d
closes_quiet uri s (Some other) sent next apart d = closes_open_quiet uri s other (open_text other s.documents) sent next apart d

heeds_quiet : (uri : List ℕ) (s : State) (method : NoticeMethod) (params : Data) (sent : List Data) (next : State) → (method ≡ Exit → ⊥) → is_named uri (named_uri params) ≡ false → Heeds s method params sent next → Quiet uri s sent next
heeds_quiet uri s Exit params sent next stays apart d = absurd (stays refl)
heeds_quiet uri s DidOpen params sent next stays apart d = opens_quiet uri s (named_uri params) (opened_text params) (given_version params) sent next apart d
heeds_quiet uri s DidChange params sent next stays apart d = changes_quiet uri s (named_uri params) (listed_changes params) (given_version params) sent next apart d
heeds_quiet uri s DidClose params sent next stays apart d = closes_quiet uri s (named_uri params) sent next apart d
heeds_quiet uri s UnknownNotice params sent next stays apart d = does_quiet uri s [] s.documents sent next refl tt d

passes_quiet : (uri : List ℕ) (s : State) (method : NoticeMethod) (sent : List Data) (next : State) → (method ≡ Exit → ⊥) → Passes s method sent next → Quiet uri s sent next
passes_quiet uri s Exit sent next stays d = absurd (stays refl)
passes_quiet uri s _ sent next stays d = does_quiet uri s [] s.documents sent next refl tt d

noticed_quiet : (uri : List ℕ) (life : Lifecycle) (s : State) (method : NoticeMethod) (params : Data) (sent : List Data) (next : State) → (method ≡ Exit → ⊥) → is_named uri (named_uri params) ≡ false → Noticed life s method params sent next → Quiet uri s sent next
noticed_quiet uri Running s method params sent next stays apart d = heeds_quiet uri s method params sent next stays apart d
noticed_quiet uri (Over status) s method params sent next stays apart d = does_quiet uri s [] s.documents sent next refl tt d
noticed_quiet uri _ s method params sent next stays apart d = passes_quiet uri s method sent next stays d

stays : (name : List ℕ) (method : NoticeMethod) → fits_notice name method ≡ true → is_lifecycle name ≡ false → method ≡ Exit → ⊥
stays name method fits is exits = true≢false (sym (subst (λ (m : NoticeMethod). fits_notice name m ≡ true) exits fits) ∙ is)

not_exit : (name : List ℕ) → is_lifecycle name ≡ false → notice_method name ≡ Exit → ⊥
not_exit name is = stays name (notice_method name) (notice_fits name) is

receives_quiet : (uri : List ℕ) (s : State) (m : Message) (sent : List Data) (next : State) → concerns uri m ≡ false → Receives s m sent next → Quiet uri s sent next
receives_quiet uri s (request id method params) sent next apart d =
    requested_quiet uri s.life s id (request_method method) params sent next (other_request method (or_parts (is_lifecycle method) (is_named uri (named_uri params)) apart).0) d
receives_quiet uri s (notice method params) sent next apart d =
    noticed_quiet uri s.life s (notice_method method) params sent next
    (not_exit method (or_parts (is_lifecycle method) (is_named uri (named_uri params)) apart).0) (or_parts (is_lifecycle method) (is_named uri (named_uri params)) apart).1 d
receives_quiet uri s reply sent next apart d = does_quiet uri s [] s.documents sent next refl tt d
receives_quiet uri s unreadable sent next apart d = does_quiet uri s (refused null UnreadableMessage ∷ []) s.documents sent next refl (refused_says uri null UnreadableMessage) d
receives_quiet uri s invalid sent next apart d = does_quiet uri s (refused null InvalidMessage ∷ []) s.documents sent next refl (refused_says uri null InvalidMessage) d

lives_quiet : (uri : List ℕ) (life : Lifecycle) (s : State) (m : Message) (sent : List Data) (next : State) → concerns uri m ≡ false → ReceivesIn life s m sent next → Quiet uri s sent next
lives_quiet uri (Over status) s m sent next apart d = does_quiet uri s [] s.documents sent next refl tt d
lives_quiet uri _ s m sent next apart d = receives_quiet uri s m sent next apart d

-- what does not concern a document publishes nothing about it
pub untold : (uri : List ℕ) (s : State) (m : Message) (sent : List Data) (next : State) → Steps s m sent next → concerns uri m ≡ false → SaysNothing uri sent
untold uri s m sent next d apart = (lives_quiet uri s.life s m sent next apart d).2

-- ---- whole runs

-- the rest of a run, beside its part that concerns a document
abbrev Rest : List ℕ → State → List OpenDocument → List Exchange → State → Type 0
Rest uri s docs es end = (ds : List OpenDocument) × AreExchanges (beside s docs) (concerning uri es) (beside end ds) × (document_named uri end.documents ≡ document_named uri ds)

run_more : (uri : List ℕ) (b : Bool) (s next end : State) (docs : List OpenDocument) (e : Exchange) (es : List Exchange)
    → concerns uri e.message ≡ b → document_named uri s.documents ≡ document_named uri docs → Steps s e.message e.sent next
    → ((ds : List OpenDocument) → document_named uri next.documents ≡ document_named uri ds → Rest uri next ds es end)
    → (ds : List OpenDocument) × AreExchanges (beside s docs) (cond b (e ∷ concerning uri es) (concerning uri es)) (beside end ds) × (document_named uri end.documents ≡ document_named uri ds)
run_more uri true s next end docs e es is agree step later =
    let here = lives_same uri s.life s docs e.message e.sent next agree is step in
    let rest = later here.0 here.2 in
    (rest.0, (beside next here.0, here.1, rest.1), rest.2)
run_more uri false s next end docs e es is agree step later =
    let quiet = lives_quiet uri s.life s e.message e.sent next is step in
    let rest = later docs (quiet.1 ∙ agree) in
    let same : beside next docs ≡ beside s docs = ap (λ (x : State). beside x docs) quiet.0 in
    (rest.0, subst (λ (x : State). AreExchanges x (concerning uri es) (beside end rest.0)) same rest.1, rest.2)

runs_same : (uri : List ℕ) (es : List Exchange) (s end : State) (docs : List OpenDocument) → document_named uri s.documents ≡ document_named uri docs → AreExchanges s es end → Rest uri s docs es end
runs_same uri [] s end docs agree r = (docs, ap (λ (x : State). beside x docs) r, ap (λ (x : State). document_named uri x.documents) r ∙ agree)
runs_same uri (e ∷ es) s end docs agree r =
    run_more uri (concerns uri e.message) s r.0 end docs e es refl agree r.1 (λ ds next_agree. runs_same uri es r.0 end ds next_agree r.2)

pub isolated : (dialect : Dialect) (uri : List ℕ) (exchanges : List Exchange) (end : State) → AreExchanges (fresh dialect) exchanges end → IsAlone dialect uri exchanges end
isolated dialect uri exchanges end r =
    let part = runs_same uri exchanges (fresh dialect) end [] refl r in
    record { alone = beside end part.0; run = part.1; same = record { life = refl; encoding = refl; dialect = refl; document = part.2 } }
