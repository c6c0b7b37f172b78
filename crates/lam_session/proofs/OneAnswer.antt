-- Each message has an answer, and only one, except for replies that may vary; the same is true of each list of messages.
use Rattle.std.proofs.Common.{◌≡◌, inl, inr, ℕ, ℤ, List, [], ◌∷◌, map, Option, None, Some, refl, sym, ap, subst, ◌∙◌}
use Rattle.serde_json.specs.Data.{Data}
use Rattle.lam_rpc.specs.Fields.{named_uri, listed_changes}
use Rattle.lam_rpc.specs.Kind.{Message, request, notice, reply, unreadable, invalid}
use Rattle.lam_text.specs.Edits.{Edit}
use Rattle.lam_query.proofs.SomeAnswers.{some_faults, one_faults}
use Rattle.lam_session.specs.declared.states.Lifecycle.{Lifecycle}
use Rattle.lam_session.specs.declared.states.Lifecycle.TheVariants.{Fresh, Running, Down, Over}
use Rattle.lam_session.specs.declared.methods.RequestMethod.{RequestMethod}
use Rattle.lam_session.specs.declared.methods.RequestMethod.TheVariants.{Initialize, Shutdown, Ask, Unknown as UnknownRequest}
use Rattle.lam_session.specs.declared.methods.NoticeMethod.{NoticeMethod}
use Rattle.lam_session.specs.declared.methods.NoticeMethod.TheVariants.{Exit, DidOpen, DidChange, DidClose, Unknown as UnknownNotice}
use Rattle.lam_session.specs.Diagnostics.{diagnostics}
use Rattle.lam_session.specs.Documents.{OpenDocument, open_text, with_document}
use Rattle.lam_session.specs.Does.{Does, Ignores}
use Rattle.lam_session.specs.Methods.{request_method, notice_method}
use Rattle.lam_session.specs.OneAnswer.{AreAlike, same, both_may_vary, HasOneAnswer}
use Rattle.lam_session.specs.Asked.{PlaceAsked, asked_place, asked_at}
use Rattle.lam_session.specs.Questions.{RepliesOpen, RepliesAt, Asks}
use Rattle.lam_session.specs.Refusals.{refused}
use Rattle.lam_session.specs.declared.questions.Question.{Question}
use Rattle.lam_session.specs.declared.refusals.Refusal.TheVariants.{InvalidParams, DocumentNotOpen}
use Rattle.lam_session.proofs.QuestionLaws.{laws}
use Rattle.lam_session.specs.State.{State, open_in}
use Rattle.lam_session.specs.Step.{Serves, Awaits, Requested, Heeds, Passes, Noticed, Receives, ReceivesIn, Steps}
use Rattle.lam_session.specs.Sync.{Holds, published, OpensAs, ChangesText, ChangesAs, ClosesOpen, ClosesAs, opened_text, given_version}
use Rattle.lam_session.specs.Runs.{Exchange, AreExchanges, AnswerAlike, both_end, both_go_on}

module _ (s : State) (m : Message) where
  -- a case of a step holds of some values and a state, and any two that it holds of are alike
  record IsOne (says : List Data → State → Type 0) : Type 0 where
    values : List Data
    next : State
    holds : says values next
    alone : (sent others : List Data) (after later : State) → says sent after → says others later → AreAlike s m sent others × (after ≡ later)

  does_one : (values : List Data) (end : State) → IsOne (Does values end)
  does_one values end = record { values = values; next = end; holds = (refl, refl); alone = λ sent others after later d e. (same (d.0 ∙ sym e.0), d.1 ∙ sym e.1) }

  ignores_one : IsOne (Ignores s)
  ignores_one = does_one [] s

  -- ---- requests

  -- two replies to a question
  alike_open : (question : Question) (id params : Data) (name : List ℕ) (place : PlaceAsked) (found : Option (List ℕ)) (one other : Data)
      → m ≡ request id name params → request_method name ≡ Ask question → asked_place question params ≡ Some place → open_text place.uri s.documents ≡ found
      → RepliesOpen question (open_in s) id params place found one → RepliesOpen question (open_in s) id params place found other → AreAlike s m (one ∷ []) (other ∷ [])
  alike_open question id params name place None one other asked meant named is_open a b = same (ap (λ d. d ∷ []) (a ∙ sym b))
  alike_open question id params name place (Some text) one other asked meant named is_open a b =
      let asked_about = asked_at (open_in s) params place text in
      elim ((laws question).alike asked_about id one other a b) [
        | inl is ↦ same (ap (λ d. d ∷ []) is)
        | inr vary ↦ both_may_vary (record {
          id = id;
          method = name;
          params = params;
          asked = asked;
          question = question;
          meant = meant;
          place = place;
          named = named;
          text = text;
          open_as = is_open;
          one = one;
          varies = vary.0;
          replied = refl;
          other = other;
          other_varies = vary.1;
          other_replied = refl;
        })
      ]

  alike_at : (question : Question) (id params : Data) (name : List ℕ) (place : Option PlaceAsked) (one other : Data) → m ≡ request id name params → request_method name ≡ Ask question → asked_place question params ≡ place
      → RepliesAt question (open_in s) id params place one → RepliesAt question (open_in s) id params place other → AreAlike s m (one ∷ []) (other ∷ [])
  alike_at question id params name None one other asked meant named a b = same (ap (λ d. d ∷ []) (a ∙ sym b))
  alike_at question id params name (Some place) one other asked meant named a b = alike_open question id params name place (open_text place.uri s.documents) one other asked meant named refl a b

  some_open : (question : Question) (id params : Data) (place : PlaceAsked) (found : Option (List ℕ)) → (reply : Data) × RepliesOpen question (open_in s) id params place found reply
  some_open question id params place None = (refused id DocumentNotOpen, refl)
  some_open question id params place (Some text) = (laws question).some (asked_at (open_in s) params place text) id

  some_at : (question : Question) (id params : Data) (place : Option PlaceAsked) → (reply : Data) × RepliesAt question (open_in s) id params place reply
  some_at question id params None = (refused id InvalidParams, refl)
  some_at question id params (Some place) = some_open question id params place (open_text place.uri s.documents)

  asks_one : (question : Question) (id params : Data) (name : List ℕ) → m ≡ request id name params → request_method name ≡ Ask question → IsOne (Asks question s id params)
  asks_one question id params name asked meant =
      let found = some_at question id params (asked_place question params) in
      record {
        values = found.0 ∷ [];
        next = s;
        holds = record { reply = found.0; replies = found.1; does = (refl, refl) };
        alone = λ sent others after later h k.
            let alike = alike_at question id params name (asked_place question params) h.reply k.reply asked meant refl h.replies k.replies in
            let told = subst (λ (v : List Data). AreAlike s m v (k.reply ∷ [])) (sym h.does.0) alike in
            (subst (λ (v : List Data). AreAlike s m sent v) (sym k.does.0) told, h.does.1 ∙ sym k.does.1);
      }

  serves_one : (id : Data) (name : List ℕ) (method : RequestMethod) (params : Data) → m ≡ request id name params → request_method name ≡ method → IsOne (Serves s id method params)
  serves_one id name Initialize params asked meant = does_one _ _
  serves_one id name Shutdown params asked meant = does_one _ _
  serves_one id name (Ask question) params asked meant = asks_one question id params name asked meant
  serves_one id name UnknownRequest params asked meant = does_one _ _

  awaits_one : (id : Data) (method : RequestMethod) (params : Data) → IsOne (Awaits s id method params)
  awaits_one id Initialize params = does_one _ _
  awaits_one id _ params = does_one _ _

  requested_one : (life : Lifecycle) (id : Data) (name : List ℕ) (params : Data) → m ≡ request id name params → IsOne (Requested life s id (request_method name) params)
  requested_one Fresh id name params asked = awaits_one id (request_method name) params
  requested_one Running id name params asked = serves_one id name (request_method name) params asked refl
  requested_one Down id name params asked = does_one _ _
  requested_one (Over status) id name params asked = ignores_one

  -- ---- notices

  holds_one : (document : OpenDocument) → IsOne (Holds s document)
  holds_one document =
      let found = some_faults document.text s.dialect in
      record {
        values = published document.uri document.version (diagnostics s.encoding document.text found.0) ∷ [];
        next = record s { documents = with_document document s.documents };
        holds = (record { faults = found.0; are = found.1; told = refl }, refl);
        alone = λ sent others after later h k.
            let faults = one_faults document.text h.0.faults k.0.faults s.dialect h.0.are k.0.are in
            (same (h.0.told ∙ ap (λ fs. published document.uri document.version (diagnostics s.encoding document.text fs) ∷ []) faults ∙ sym k.0.told), h.1 ∙ sym k.1);
      }

  opens_one : (uri text : Option (List ℕ)) (version : Option ℤ) → IsOne (OpensAs s uri text version)
  opens_one (Some uri) (Some text) version = holds_one (record { uri = uri; text = text; version = version })
  opens_one (Some uri) None version = ignores_one
  opens_one None text version = ignores_one

  changes_text_one : (uri : List ℕ) (text : Option (List ℕ)) (edits : List Edit) (version : Option ℤ) → IsOne (ChangesText s uri text edits version)
  changes_text_one uri None edits version = ignores_one
  changes_text_one uri (Some text) edits version = holds_one _

  changes_one : (uri : Option (List ℕ)) (edits : Option (List Edit)) (version : Option ℤ) → IsOne (ChangesAs s uri edits version)
  changes_one (Some uri) (Some edits) version = changes_text_one uri (open_text uri s.documents) edits version
  changes_one (Some uri) None version = ignores_one
  changes_one None edits version = ignores_one

  closes_open_one : (uri : List ℕ) (text : Option (List ℕ)) → IsOne (ClosesOpen s uri text)
  closes_open_one uri None = ignores_one
  closes_open_one uri (Some text) = does_one _ _

  closes_one : (uri : Option (List ℕ)) → IsOne (ClosesAs s uri)
  closes_one None = ignores_one
  closes_one (Some uri) = closes_open_one uri (open_text uri s.documents)

  heeds_one : (method : NoticeMethod) (params : Data) → IsOne (Heeds s method params)
  heeds_one Exit params = does_one _ _
  heeds_one DidOpen params = opens_one (named_uri params) (opened_text params) (given_version params)
  heeds_one DidChange params = changes_one (named_uri params) (listed_changes params) (given_version params)
  heeds_one DidClose params = closes_one (named_uri params)
  heeds_one UnknownNotice params = ignores_one

  passes_one : (method : NoticeMethod) → IsOne (Passes s method)
  passes_one Exit = does_one _ _
  passes_one _ = ignores_one

  noticed_one : (life : Lifecycle) (method : NoticeMethod) (params : Data) → IsOne (Noticed life s method params)
  noticed_one Running method params = heeds_one method params
  noticed_one (Over status) method params = ignores_one
  noticed_one _ method params = passes_one method

-- ---- messages

receives_one : (s : State) (m : Message) → IsOne s m (Receives s m)
receives_one s (request id method params) = requested_one s (request id method params) s.life id method params refl
receives_one s (notice method params) = noticed_one s (notice method params) s.life (notice_method method) params
receives_one s reply = ignores_one s reply
receives_one s unreadable = does_one s unreadable _ _
receives_one s invalid = does_one s invalid _ _

lives_one : (life : Lifecycle) (s : State) (m : Message) → IsOne s m (ReceivesIn life s m)
lives_one (Over status) s m = ignores_one s m
lives_one _ s m = receives_one s m

steps_one : (s : State) (m : Message) → IsOne s m (Steps s m)
steps_one s m = lives_one s.life s m

pub has_one_answer : (s : State) (m : Message) → HasOneAnswer s m
has_one_answer s m = let one = steps_one s m in record { values = one.values; next = one.next; steps = one.holds; alone = one.alone }

-- ---- whole runs

alike_more : (s next end later : State) (e o : Exchange) (es os : List Exchange) → o.message ≡ e.message → Steps s e.message e.sent next
    → (rest : State) → Steps s o.message o.sent rest → (rest ≡ next → AnswerAlike next es os × (end ≡ later)) → AnswerAlike s (e ∷ es) (o ∷ os) × (end ≡ later)
alike_more s next end later e o es os messages step rest other go_on =
    let there = subst (λ (m : Message). Steps s m o.sent rest) messages other in
    let alike = (has_one_answer s e.message).alone e.sent o.sent next rest step there in
    let more = go_on (sym alike.1) in
    (both_go_on (sym messages) step alike.0 more.0, more.1)

pub one_run : (s end later : State) (es os : List Exchange) → map (λ (e : Exchange). e.message) os ≡ map (λ (e : Exchange). e.message) es → AreExchanges s es end → AreExchanges s os later → AnswerAlike s es os × (end ≡ later)
one_run s end later [] [] messages r q = (both_end, r ∙ sym q)
one_run s end later [] (o ∷ os) messages r q = absurd cc
one_run s end later (e ∷ es) [] messages r q = absurd cc
one_run s end later (e ∷ es) (o ∷ os) messages r q =
    let first : o.message ≡ e.message = cc in
    let others : map (λ (x : Exchange). x.message) os ≡ map (λ (x : Exchange). x.message) es = cc in
    alike_more s r.0 end later e o es os first r.1 q.0 q.1
    (λ states. one_run r.0 end later es os others r.2 (subst (λ (t : State). AreExchanges t os later) states q.2))
