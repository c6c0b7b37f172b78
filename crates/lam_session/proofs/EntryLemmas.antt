-- What a change of the map does to the list of documents that the map is seen as.
use Rattle.std.proofs.Common.{not, subst, true≢false, Bor, IfSome, ◌≡◌, ℕ, List, [], ◌∷◌, Bool, true, false, cond, Option, None, Some, option_map, is_some, String, Global, string_bytes, refl, sym, ap, ◌∙◌}
use Rattle.std.proofs.lemmas.Slice.Eq.{bytes_eq-Decides}
use Rattle.std.specs.Str.{bytes_eq}
use Rattle.std.specs.Option.{option_copied}
use Rattle.std.specs.String.{string_eq}
use Rattle.std.specs.Map.{lookup, set_value, remove_entry}
use Rattle.indexmap.specs.IndexMap.{insert_entry}
use Rattle.lam_text.specs.declared.units.Encoding.{Encoding}
use Rattle.lam_rules.specs.declared.rules.Dialect.{Dialect}
use Rattle.lam_session.specs.Documents.{OpenDocument, HeldDocument, open_text, with_document, without_document}
use Rattle.lam_session.specs.Entries.{document_of, documents_of, IsReady, AreReady}

abbrev Entry : Type 0
Entry = String Global × HeldDocument

-- the entry whose uri is this one
abbrev pub is_uri : List ℕ → String Global → Bool
is_uri uri key = bytes_eq uri (string_bytes key)

-- ---- an insert

inserted : (b : Bool) (k : String Global) (v : HeldDocument) (e : Entry) (es rest : List Entry) → (b ≡ true → string_bytes k ≡ string_bytes e.0)
    → documents_of (cond b ((e.0, v) ∷ es) (e ∷ rest)) ≡ cond b (document_of (k, v) ∷ documents_of es) (document_of e ∷ documents_of rest)
inserted true k v e es rest same = rw (same refl) refl
inserted false k v e es rest same = refl

pub documents_of-insert_entry : (es : List Entry) (k : String Global) (v : HeldDocument) → documents_of (insert_entry string_eq es k v) ≡ with_document (document_of (k, v)) (documents_of es)
documents_of-insert_entry [] k v = refl
documents_of-insert_entry (e ∷ es) k v =
    inserted (string_eq k e.0) k v e es (insert_entry string_eq es k v) (bytes_eq-Decides (string_bytes k) (string_bytes e.0)).0
    ∙ ap (λ rest. cond (string_eq k e.0) (document_of (k, v) ∷ documents_of es) (document_of e ∷ rest)) (documents_of-insert_entry es k v)

ready_either : (encoding : Encoding) (d : Dialect) (b : Bool) (xs ys : List Entry) → AreReady encoding d xs → AreReady encoding d ys → AreReady encoding d (cond b xs ys)
ready_either encoding d true xs ys h k = h
ready_either encoding d false xs ys h k = k

pub AreReady-insert_entry : (encoding : Encoding) (d : Dialect) (es : List Entry) (k : String Global) (v : HeldDocument) → IsReady encoding d v → AreReady encoding d es → AreReady encoding d (insert_entry string_eq es k v)
AreReady-insert_entry encoding d [] k v new all = (new, all)
AreReady-insert_entry encoding d (e ∷ es) k v new all =
    ready_either encoding d (string_eq k e.0) ((e.0, v) ∷ es) (e ∷ insert_entry string_eq es k v) (new, all.1) (all.0, AreReady-insert_entry encoding d es k v new all.1)

-- ---- a look-up

found : (b : Bool) (e : Entry) (rest : Option HeldDocument) → cond b (Some e.1.text) (option_map (λ o. o.text) rest) ≡ option_map (λ o. o.text) (cond b (Some e.1) rest)
found true e rest = refl
found false e rest = refl

pub open_text-lookup : (uri : List ℕ) (es : List Entry) → open_text uri (documents_of es) ≡ option_map (λ o. o.text) (lookup (is_uri uri) es)
open_text-lookup uri [] = refl
open_text-lookup uri (e ∷ es) =
    ap (λ rest. cond (is_uri uri e.0) (Some e.1.text) rest) (open_text-lookup uri es)
    ∙ found (is_uri uri e.0) e (lookup (is_uri uri) es)

some_text : (o : Option HeldDocument) → is_some (option_map (λ w. w.text) o) ≡ is_some o
some_text None = refl
some_text (Some o) = refl

-- a document is open where its uri is a key
pub is_open-lookup : (uri : List ℕ) (es : List Entry) → is_some (lookup (is_uri uri) es) ≡ is_some (open_text uri (documents_of es))
is_open-lookup uri es = sym (ap is_some (open_text-lookup uri es) ∙ some_text (lookup (is_uri uri) es))

ready_at : (encoding : Encoding) (d : Dialect) (b : Bool) (e : Entry) (rest : Option HeldDocument) (o : HeldDocument) → IsReady encoding d e.1 → (rest ≡ Some o → IsReady encoding d o) → cond b (Some e.1) rest ≡ Some o → IsReady encoding d o
ready_at encoding d true e rest o here later is = let same : e.1 ≡ o = cc in subst (λ (w : HeldDocument). IsReady encoding d w) same here
ready_at encoding d false e rest o here later is = later is

pub AreReady-lookup : (encoding : Encoding) (d : Dialect) (uri : List ℕ) (es : List Entry) (o : HeldDocument) → AreReady encoding d es → lookup (is_uri uri) es ≡ Some o → IsReady encoding d o
AreReady-lookup encoding d uri [] o all is = absurd cc
AreReady-lookup encoding d uri (e ∷ es) o all is = ready_at encoding d (is_uri uri e.0) e (lookup (is_uri uri) es) o all.0 (AreReady-lookup encoding d uri es o all.1) is

copied_text : (r : Option (Bor HeldDocument)) → option_map (λ d. d.now.text) r ≡ option_map (λ o. o.text) (option_copied r)
copied_text None = refl
copied_text (Some d) = refl

pub found_text : (uri : List ℕ) (es : List Entry) (r : Option (Bor HeldDocument)) → option_copied r ≡ lookup (is_uri uri) es → option_map (λ d. d.now.text) r ≡ open_text uri (documents_of es)
found_text uri es r is = copied_text r ∙ ap (option_map (λ o. o.text)) is ∙ sym (open_text-lookup uri es)

pub of_found : (P : HeldDocument → Type 0) (uri : List ℕ) (es : List Entry) (r : Option (Bor HeldDocument)) → option_copied r ≡ lookup (is_uri uri) es
    → ((o : HeldDocument) → lookup (is_uri uri) es ≡ Some o → P o) → IfSome r (λ d. P d.now)
of_found P uri es None is each = tt
of_found P uri es (Some d) is each = each d.now (sym is)

pub not_found : (uri : List ℕ) (es : List Entry) → lookup (is_uri uri) es ≡ None → is_some (open_text uri (documents_of es)) ≡ true → ⊥
not_found uri es none there = true≢false (sym there ∙ sym (is_open-lookup uri es) ∙ ap is_some none)

-- ---- a write to an open document

written_later : (b : Bool) (e : Entry) (rest : Option HeldDocument) (o : HeldDocument) → b ≡ false → cond b (Some e.1) rest ≡ Some o → rest ≡ Some o
written_later true e rest o h is = cc
written_later false e rest o h is = is

-- the document that is written to an entry of this uri
abbrev pub document_at : List ℕ → HeldDocument → OpenDocument
document_at uri w = record { uri = uri; text = w.text; version = w.version }

written : (uri : List ℕ) (b : Bool) (w : HeldDocument) (e : Entry) (es rest : List Entry) (docs : List OpenDocument) → (b ≡ true → uri ≡ string_bytes e.0) → (b ≡ false → documents_of rest ≡ docs)
    → documents_of (cond b ((e.0, w) ∷ es) (e ∷ rest)) ≡ cond b (document_at uri w ∷ documents_of es) (document_of e ∷ docs)
written uri true w e es rest docs same later = rw (same refl) refl
written uri false w e es rest docs same later = ap (λ ds. document_of e ∷ ds) (later refl)

pub documents_of-set_value : (uri : List ℕ) (es : List Entry) (o w : HeldDocument) → lookup (is_uri uri) es ≡ Some o
    → documents_of (set_value (is_uri uri) es w) ≡ with_document (document_at uri w) (documents_of es)
documents_of-set_value uri [] o w is = cc
documents_of-set_value uri (e ∷ es) o w is =
    written uri (is_uri uri e.0) w e es (set_value (is_uri uri) es w) (with_document (document_at uri w) (documents_of es))
    (bytes_eq-Decides uri (string_bytes e.0)).0
    (λ t. documents_of-set_value uri es o w (written_later (is_uri uri e.0) e (lookup (is_uri uri) es) o t is))

pub AreReady-set_value : (encoding : Encoding) (d : Dialect) (uri : List ℕ) (es : List Entry) (w : HeldDocument) → IsReady encoding d w → AreReady encoding d es → AreReady encoding d (set_value (is_uri uri) es w)
AreReady-set_value encoding d uri [] w new all = all
AreReady-set_value encoding d uri (e ∷ es) w new all =
    ready_either encoding d (is_uri uri e.0) ((e.0, w) ∷ es) (e ∷ set_value (is_uri uri) es w) (new, all.1) (all.0, AreReady-set_value encoding d uri es w new all.1)

-- ---- a removal

none_passes : (b : Bool) (e : Entry) (rest : Option HeldDocument) (docs kept : List OpenDocument) → (rest ≡ None → kept ≡ docs) → cond b (Some e.1) rest ≡ None → cond (not b) (document_of e ∷ kept) kept ≡ document_of e ∷ docs
none_passes true e rest docs kept later is = cc
none_passes false e rest docs kept later is = ap (λ ds. document_of e ∷ ds) (later is)

-- if there is no document of this uri, none is removed
none_goes : (uri : List ℕ) (es : List Entry) → lookup (is_uri uri) es ≡ None → without_document uri (documents_of es) ≡ documents_of es
none_goes uri [] is = refl
none_goes uri (e ∷ es) is = none_passes (is_uri uri e.0) e (lookup (is_uri uri) es) (documents_of es) (without_document uri (documents_of es)) (none_goes uri es) is

removed : (uri : List ℕ) (b : Bool) (e : Entry) (es rest : List Entry) (docs : List OpenDocument) → (lookup (is_uri uri) es ≡ None → docs ≡ documents_of es) → (lookup (is_uri uri) rest ≡ None → documents_of rest ≡ docs) → b ≡ is_uri uri e.0
    → lookup (is_uri uri) (cond b es (e ∷ rest)) ≡ None → documents_of (cond b es (e ∷ rest)) ≡ cond (not b) (document_of e ∷ docs) docs
removed uri true e es rest docs all later here is = sym (all is)
removed uri false e es rest docs all later here is =
    ap (λ ds. document_of e ∷ ds) (later (rw (← here) at is))

-- the first entry of this uri was the only one
pub documents_of-remove_entry : (uri : List ℕ) (es : List Entry) → lookup (is_uri uri) (remove_entry (is_uri uri) es) ≡ None
    → documents_of (remove_entry (is_uri uri) es) ≡ without_document uri (documents_of es)
documents_of-remove_entry uri [] is = refl
documents_of-remove_entry uri (e ∷ es) is =
    removed uri (is_uri uri e.0) e es (remove_entry (is_uri uri) es) (without_document uri (documents_of es))
    (none_goes uri es) (documents_of-remove_entry uri es) refl is

pub AreReady-remove_entry : (encoding : Encoding) (d : Dialect) (uri : List ℕ) (es : List Entry) → AreReady encoding d es → AreReady encoding d (remove_entry (is_uri uri) es)
AreReady-remove_entry encoding d uri [] all = all
AreReady-remove_entry encoding d uri (e ∷ es) all =
    ready_either encoding d (is_uri uri e.0) es (e ∷ remove_entry (is_uri uri) es) all.1 (all.0, AreReady-remove_entry encoding d uri es all.1)

-- ---- the change of an open document

-- the text of the entry of this uri is the open text
pub text_found : (uri : List ℕ) (es : List Entry) (o : HeldDocument) (text : List ℕ) → lookup (is_uri uri) es ≡ Some o → open_text uri (documents_of es) ≡ Some text → o.text ≡ text
text_found uri es o text is told =
    let same : Some o.text ≡ Some text = sym (open_text-lookup uri es ∙ ap (option_map (λ w. w.text)) is) ∙ told in cc

-- ---- the list of documents

pub same_text : (uri : List ℕ) → bytes_eq uri uri ≡ true
same_text uri = (bytes_eq-Decides uri uri).1 refl

-- a document that is set is found
set_found : (b : Bool) (d e : OpenDocument) (ds es : List OpenDocument) → bytes_eq d.uri e.uri ≡ b → open_text d.uri es ≡ Some d.text → open_text d.uri (cond b (d ∷ ds) (e ∷ es)) ≡ Some d.text
set_found true d e ds es is later = rw same_text refl
set_found false d e ds es is later = rw is later

pub found_set : (d : OpenDocument) (ds : List OpenDocument) → open_text d.uri (with_document d ds) ≡ Some d.text
found_set d [] = rw same_text refl
found_set d (e ∷ es) = set_found (bytes_eq d.uri e.uri) d e es (with_document d es) refl (found_set d es)
