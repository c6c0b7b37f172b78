-- The steps for opening and for changing a document, from what their parts found.
use Rattle.std.proofs.Common.{◌≡◌, ℕ, ℤ, List, true, Option, None, Some, is_some, option_map, refl, sym, ◌∙◌, ap, subst}
use Rattle.serde_json.specs.Data.{Data}
use Rattle.lam_rpc.specs.Fields.{named_uri}
use Rattle.lam_text.specs.Edits.{Edit, text_after}
use Rattle.lam_session.specs.Documents.{OpenDocument, open_text, with_document}
use Rattle.lam_session.specs.State.{State}
use Rattle.lam_session.specs.Sync.{Tells, Holds, given_version, opened_text, Opens, ChangesText}
use Rattle.lam_session.proofs.EntryLemmas.{found_set}

-- what is published about the open document is published about the one that was set, since they are the same
told_of_set : (s next : State) (document : OpenDocument) (sent : List Data) → next ≡ record s { documents = with_document document s.documents }
    → ((text : List ℕ) → open_text document.uri next.documents ≡ Some text → Tells next.encoding next.dialect (record { uri = document.uri; text = text; version = document.version }) sent)
    → Holds s document sent next
told_of_set s next document sent becomes tells =
    let held : open_text document.uri next.documents ≡ Some document.text = ap (λ (n : State). open_text document.uri n.documents) becomes ∙ found_set document s.documents in
    (subst (λ (n : State). Tells n.encoding n.dialect document sent) becomes (tells document.text held), becomes)

pub opens_found : (s : State) (params : Data) (uri text : List ℕ) (version : Option ℤ) (sent : List Data) (next : State)
    → Some uri ≡ named_uri params → Some text ≡ opened_text params → version ≡ given_version params
    → next ≡ record s { documents = with_document (record { uri = uri; text = text; version = version }) s.documents }
    → ((held : List ℕ) → open_text uri next.documents ≡ Some held → Tells next.encoding next.dialect (record { uri = uri; text = held; version = version }) sent)
    → Opens s params sent next
opens_found s params uri text version sent next named opened given becomes tells =
    rw (← named, ← opened, ← given) (told_of_set s next (record { uri = uri; text = text; version = version }) sent becomes tells)

-- a document that is there has a text
pub shown : {X : Type 0} (f : X → List ℕ) (o : Option X) (found : Option (List ℕ)) → option_map f o ≡ found → is_some o ≡ true → is_some found ≡ true
shown f None found are there = absurd cc
shown f (Some x) found are there = ap is_some (sym are)

pub changed : (s : State) (uri : List ℕ) (found : Option (List ℕ)) (edits : List Edit) (version : Option ℤ) (sent : List Data) (next : State)
    → is_some found ≡ true
    → ((text : List ℕ) → found ≡ Some text → next ≡ record s { documents = with_document (record { uri = uri; text = text_after s.encoding text edits; version = version }) s.documents })
    → ((text : List ℕ) → open_text uri next.documents ≡ Some text → Tells next.encoding next.dialect (record { uri = uri; text = text; version = version }) sent)
    → ChangesText s uri found edits version sent next
changed s uri None edits version sent next there becomes tells = absurd cc
changed s uri (Some text) edits version sent next there becomes tells =
    told_of_set s next (record { uri = uri; text = text_after s.encoding text edits; version = version }) sent (becomes text refl) tells

pub some_text : (found : Option (List ℕ)) → is_some found ≡ true → (text : List ℕ) × found ≡ Some text
some_text None there = absurd cc
some_text (Some text) there = (text, refl)
