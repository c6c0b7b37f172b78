-- Replies to questions about a position in a document. A question whose params are incomplete is refused first, then one about a document that is not open.
use Rattle.std.specs.Prelude.{◌≡◌, ℕ, List, [], ◌∷◌, Option, None, Some}
use Rattle.serde_json.specs.Data.{Data}
use Rattle.lam_session.specs.Asked.{PlaceAsked, asked_place, Asked, asked_at}
use Rattle.lam_session.specs.Completions.{IsCompletionReply}
use Rattle.lam_session.specs.Derivations.{IsDerivationReply, GivesDerivation}
use Rattle.lam_session.specs.Definitions.{IsDefinitionReply}
use Rattle.lam_session.specs.Documents.{OpenDocuments, open_text}
use Rattle.lam_session.specs.Does.{Does}
use Rattle.lam_session.specs.Hovers.{IsHoverReply}
use Rattle.lam_session.specs.References.{includes_declaration, IsReferencesReply}
use Rattle.lam_session.specs.Refusals.{refused}
use Rattle.lam_session.specs.Renames.{new_name, IsRenameReply}
use Rattle.lam_session.specs.State.{State, open_in}
use Rattle.lam_session.specs.declared.questions.Question.{Question}
use Rattle.lam_session.specs.declared.questions.Question.TheVariants.{Hover, Derivation, Completion, Definition, References, Rename}
use Rattle.lam_session.specs.declared.refusals.Refusal.TheVariants.{InvalidParams, DocumentNotOpen}

-- The reply to the request with this id answers the question.
abbrev pub IsAnswerTo : Question → Asked → Data → Data → Type 0
IsAnswerTo Hover a id reply = IsHoverReply a.encoding a.dialect a.text a.offset id reply
IsAnswerTo Derivation a id reply = IsDerivationReply a.encoding a.dialect a.text a.offset id reply
IsAnswerTo Completion a id reply = IsCompletionReply a.dialect a.text a.offset id reply
IsAnswerTo Definition a id reply = IsDefinitionReply a.encoding a.uri a.text a.offset id reply
IsAnswerTo References a id reply = IsReferencesReply a.encoding a.uri a.text a.offset (includes_declaration a.params) id reply
IsAnswerTo Rename a id reply = IsRenameReply a.encoding a.uri a.text a.offset (new_name a.params) id reply

-- The reply is one of several that answer the question, which holds only for derivations.
abbrev pub MayVary : Question → Asked → Data → Data → Type 0
MayVary Derivation a id reply = GivesDerivation a.encoding a.dialect a.text a.offset id reply
MayVary _ a id reply = ⊥

-- the reply to a question about a document with this text; refused if the document is not open
abbrev pub RepliesOpen : Question → OpenDocuments → Data → Data → PlaceAsked → Option (List ℕ) → Data → Type 0
RepliesOpen question held id params place None reply = reply ≡ refused id DocumentNotOpen
RepliesOpen question held id params place (Some text) reply = IsAnswerTo question (asked_at held params place text) id reply

-- the reply to a question at this document position; refused if the params give none
abbrev pub RepliesAt : Question → OpenDocuments → Data → Data → Option PlaceAsked → Data → Type 0
RepliesAt question held id params None reply = reply ≡ refused id InvalidParams
RepliesAt question held id params (Some place) reply = RepliesOpen question held id params place (open_text place.uri held.documents) reply

-- the reply to a question with these params
abbrev pub Replies : Question → OpenDocuments → Data → Data → Data → Type 0
Replies question held id params reply = RepliesAt question held id params (asked_place question params) reply

-- The question is replied to, and nothing changes.
pub record Asks (question : Question) (s : State) (id params : Data) (sent : List Data) (next : State) : Type 0 where
  pub reply : Data
  pub replies : Replies question (open_in s) id params reply
  pub does : Does (reply ∷ []) s sent next
