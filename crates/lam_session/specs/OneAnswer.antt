-- A law of steps: in each state each message has exactly one answer, except for replies that may vary, which are derivations.
use Rattle.std.specs.Prelude.{◌≡◌, ℕ, List, [], ◌∷◌, Some}
use Rattle.serde_json.specs.Data.{Data}
use Rattle.lam_rpc.specs.Kind.{Message, request}
use Rattle.lam_session.specs.declared.methods.RequestMethod.TheVariants.{Ask}
use Rattle.lam_session.specs.declared.questions.Question.{Question}
use Rattle.lam_session.specs.Asked.{PlaceAsked, asked_place, asked_at}
use Rattle.lam_session.specs.Documents.{open_text}
use Rattle.lam_session.specs.Methods.{request_method}
use Rattle.lam_session.specs.Questions.{MayVary}
use Rattle.lam_session.specs.State.{State, open_in}
use Rattle.lam_session.specs.Step.{Steps}

-- a question about a position in an open document, and two replies to it that may both vary
pub record BothMayVary (s : State) (m : Message) (values sent : List Data) : Type 0 where
  pub id : Data
  pub method : List ℕ
  pub params : Data
  pub asked : m ≡ request id method params
  pub question : Question
  pub meant : request_method method ≡ Ask question
  pub place : PlaceAsked
  pub named : asked_place question params ≡ Some place
  pub text : List ℕ
  pub open_as : open_text place.uri s.documents ≡ Some text
  pub one : Data
  pub varies : MayVary question (asked_at (open_in s) params place text) id one
  pub replied : values ≡ one ∷ []
  pub other : Data
  pub other_varies : MayVary question (asked_at (open_in s) params place text) id other
  pub other_replied : sent ≡ other ∷ []

-- Two answers to a message are equal, or both are replies that may vary.
pub data AreAlike (s : State) (m : Message) (values sent : List Data) : Type 0 where
  same : values ≡ sent → AreAlike s m values sent
  both_may_vary : BothMayVary s m values sent → AreAlike s m values sent

-- The values sent and the state after them exist, and any two answers to the message are alike and lead to the same state.
pub record HasOneAnswer (s : State) (m : Message) : Type 0 where
  pub values : List Data
  pub next : State
  pub steps : Steps s m values next
  pub alone : (sent others : List Data) (after later : State) → Steps s m sent after → Steps s m others later → AreAlike s m sent others × (after ≡ later)
