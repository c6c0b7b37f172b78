-- Two runs in which the messages that concern a document are the same agree about it.
use Rattle.std.proofs.Common.{◌≡◌, ℕ, List, sym, ap, ◌∙◌}
use Rattle.lam_rules.specs.declared.rules.Dialect.{Dialect}
use Rattle.lam_session.specs.Runs.{Exchange, messages_of, AreExchanges, concerning, document_named, SameFor, AgreeAbout}
use Rattle.lam_session.specs.State.{State, fresh}
use Rattle.lam_session.proofs.AloneRuns.{isolated}
use Rattle.lam_session.proofs.OneAnswer.{one_run}

-- states that are the same for a document as one and the same state are the same for it
same_through : (uri : List ℕ) (s t u v : State) → SameFor uri s t → t ≡ u → SameFor uri v u → SameFor uri s v
same_through uri s t u v h is k = record {
  life = h.life ∙ ap (λ (x : State). x.life) is ∙ sym k.life;
  encoding = h.encoding ∙ ap (λ (x : State). x.encoding) is ∙ sym k.encoding;
  dialect = h.dialect ∙ ap (λ (x : State). x.dialect) is ∙ sym k.dialect;
  document = h.document ∙ ap (λ (x : State). document_named uri x.documents) is ∙ sym k.document;
}

pub agree_about : (dialect : Dialect) (uri : List ℕ) (exchanges others : List Exchange) (end later : State)
    → messages_of (concerning uri others) ≡ messages_of (concerning uri exchanges) → AreExchanges (fresh dialect) exchanges end → AreExchanges (fresh dialect) others later
    → AgreeAbout dialect uri exchanges others end later
agree_about dialect uri exchanges others end later told r q =
    let one = isolated dialect uri exchanges end r in
    let other = isolated dialect uri others later q in
    let both = one_run (fresh dialect) one.alone other.alone (concerning uri exchanges) (concerning uri others) told one.run other.run in
    record { answers = both.0; same = same_through uri end one.alone other.alone later one.same both.1 other.same }
