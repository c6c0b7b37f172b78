-- What holds of the replies to every question, stated once for each question, so that the laws of steps have one case for all of them.
use Rattle.std.proofs.Common.{◌≡◌, ◌⊎◌, inl, false}
use Rattle.serde_json.specs.Data.{Data}
use Rattle.serde_json.specs.Written.{has_float}
use Rattle.lam_session.specs.Asked.{Asked}
use Rattle.lam_session.specs.Questions.{IsAnswerTo, MayVary}
use Rattle.lam_session.specs.declared.questions.Question.{Question}
use Rattle.lam_session.specs.declared.questions.Question.TheVariants.{Hover, Derivation, Completion, Definition, References, Rename}
use Rattle.lam_session.specs.References.{includes_declaration}
use Rattle.lam_session.specs.Renames.{new_name}
use Rattle.lam_session.proofs.CompletionLaws as completion
use Rattle.lam_session.proofs.DefinitionLaws as definition
use Rattle.lam_session.proofs.DerivationLaws as derivation
use Rattle.lam_session.proofs.HoverLaws as hover
use Rattle.lam_session.proofs.ReferencesLaws as references
use Rattle.lam_session.proofs.RenameLaws as rename
use Rattle.lam_session.proofs.ReplyLemmas.{HasNoMethod}

-- there is a reply, two replies are one or may vary, and a reply holds no float of its own and is no notice
pub record HasLaws (question : Question) : Type 0 where
  pub some : (a : Asked) (id : Data) → (reply : Data) × IsAnswerTo question a id reply
  pub alike : (a : Asked) (id one other : Data) → IsAnswerTo question a id one → IsAnswerTo question a id other → (one ≡ other) ⊎ (MayVary question a id one × MayVary question a id other)
  pub plain : (a : Asked) (id reply : Data) → has_float id ≡ false → IsAnswerTo question a id reply → has_float reply ≡ false
  pub no_method : (a : Asked) (id reply : Data) → IsAnswerTo question a id reply → HasNoMethod reply

pub laws : (question : Question) → HasLaws question
laws Hover = record {
  some = λ a id. hover.some_reply a.encoding a.dialect a.text a.offset id;
  alike = λ a id one other h k. inl (hover.one_reply a.encoding a.dialect a.text a.offset id one other h k);
  plain = λ a id. hover.plain a.encoding a.dialect a.text a.offset id;
  no_method = λ a id. hover.no_method a.encoding a.dialect a.text a.offset id;
}
laws Derivation = record {
  some = λ a id. derivation.some_reply a.encoding a.dialect a.text a.offset id;
  alike = λ a id. derivation.alike_replies a.encoding a.dialect a.text a.offset id;
  plain = λ a id. derivation.plain a.encoding a.dialect a.text a.offset id;
  no_method = λ a id. derivation.no_method a.encoding a.dialect a.text a.offset id;
}
laws Completion = record {
  some = λ a id. completion.some_reply a.dialect a.text a.offset id;
  alike = λ a id one other h k. inl (completion.one_reply a.dialect a.text a.offset id one other h k);
  plain = λ a id. completion.plain a.dialect a.text a.offset id;
  no_method = λ a id. completion.no_method a.dialect a.text a.offset id;
}
laws Definition = record {
  some = λ a id. definition.some_reply a.encoding a.uri a.text a.offset id;
  alike = λ a id one other h k. inl (definition.one_reply a.encoding a.uri a.text a.offset id one other h k);
  plain = λ a id. definition.plain a.encoding a.uri a.text a.offset id;
  no_method = λ a id. definition.no_method a.encoding a.uri a.text a.offset id;
}
laws References = record {
  some = λ a id. references.some_reply a.encoding a.uri a.text a.offset (includes_declaration a.params) id;
  alike = λ a id one other h k. inl (references.one_reply a.encoding a.uri a.text a.offset (includes_declaration a.params) id one other h k);
  plain = λ a id. references.plain a.encoding a.uri a.text a.offset (includes_declaration a.params) id;
  no_method = λ a id. references.no_method a.encoding a.uri a.text a.offset (includes_declaration a.params) id;
}
laws Rename = record {
  some = λ a id. rename.some_reply a.encoding a.uri a.text a.offset (new_name a.params) id;
  alike = λ a id one other h k. inl (rename.one_reply a.encoding a.uri a.text a.offset (new_name a.params) id one other h k);
  plain = λ a id. rename.plain a.encoding a.uri a.text a.offset (new_name a.params) id;
  no_method = λ a id. rename.no_method a.encoding a.uri a.text a.offset (new_name a.params) id;
}
