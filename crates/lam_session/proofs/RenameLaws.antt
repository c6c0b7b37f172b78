-- What holds of the replies to a rename.
use Rattle.std.proofs.Common.{◌≡◌, ◌≢◌, ℕ, List, [], ◌∷◌, map, false, Option, None, Some, option_map, Result, Ok, Err, refl, sym, ap, subst, ◌∙◌}
use Rattle.serde_json.specs.Data.{Data}
use Rattle.serde_json.specs.View.{items_of}
use Rattle.serde_json.specs.Written.{has_float, items_have_float}
use Rattle.lam_rpc.specs.Reply.{result_reply}
use Rattle.lam_token.specs.declared.span.Span.{Span}
use Rattle.lam_text.specs.declared.units.Encoding.{Encoding}
use Rattle.lam_query.specs.declared.renames.RenameFault.{RenameFault}
use Rattle.lam_query.specs.declared.renames.RenameFault.TheVariants as fault
use Rattle.lam_query.specs.Renames.{IsRenameIn}
use Rattle.lam_query.proofs.RenameLaws.{some_rename, one_rename}
use Rattle.lam_session.specs.declared.refusals.Refusal.{Refusal}
use Rattle.lam_session.specs.declared.refusals.Refusal.TheVariants as refusal
use Rattle.lam_session.specs.Refusals.{refused}
use Rattle.lam_session.specs.Renames.{edit_value, rename_value, refusal_of, reply_for, IsRenameReply}
use Rattle.lam_session.proofs.ReplyLemmas.{HasNoMethod, result_plain, refusal_plain, result_has_no_method, refusal_has_no_method}

edits_plain : (encoding : Encoding) (text new : List ℕ) (spans : List Span) → items_have_float (items_of (map (edit_value encoding text new) spans)) ≡ false
edits_plain encoding text new [] = refl
edits_plain encoding text new (s ∷ ss) = edits_plain encoding text new ss

value_plain : (encoding : Encoding) (text uri new : List ℕ) (spans : List Span) → has_float (rename_value encoding text uri new spans) ≡ false
value_plain encoding text uri new spans = rw (edits_plain encoding text new spans) refl

-- each reason why a name is not renamed has a refusal
some_refusal : (text : List ℕ) (offset : ℕ) (new : List ℕ) (f : RenameFault) → IsRenameIn text offset new (Err f) → (r : Refusal) × refusal_of f ≡ Some r
some_refusal text offset new fault.NotAName right = (refusal.NotAName, refl)
some_refusal text offset new fault.UnparsedCommand right = (refusal.UnparsedCommand, refl)
some_refusal text offset new fault.NoBoundName right = (refusal.NoBoundName, refl)
some_refusal text offset new fault.WrongKind right = (refusal.WrongKind, refl)
some_refusal text offset new fault.ChangesBinding right = (refusal.ChangesBinding, refl)
some_refusal text offset new fault.Memory right = absurd right

-- a fault that has a refusal is not a failed allocation
not_memory : (f : RenameFault) (r : Refusal) → Some r ≡ refusal_of f → f ≢ fault.Memory
not_memory f r is memory = let clash : Some r ≡ None = is ∙ ap refusal_of memory in cc

-- what holds of each refusal holds of a reply that is one
of_refusal : (P : Data → Type 0) (id : Data) → ((r : Refusal) → P (refused id r)) → (told : Option Refusal) (reply : Data) → option_map (refused id) told ≡ Some reply → P reply
of_refusal P id each None reply is = absurd cc
of_refusal P id each (Some r) reply is = let same : refused id r ≡ reply = cc in subst P same (each r)

module _ (encoding : Encoding) (uri text : List ℕ) (offset : ℕ) (new : List ℕ) (id : Data) where
  -- a reply to this rename
  abbrev Tells : Data → Type 0
  Tells reply = IsRenameReply encoding uri text offset new id reply

  -- a reply with the edits is one
  pub tells_edits : (spans : List Span) (value reply : Data) → IsRenameIn text offset new (Ok spans) → value ≡ rename_value encoding text uri new spans → reply ≡ result_reply id value → Tells reply
  tells_edits spans value reply right shown told = record { found = Ok spans; right = right; replied = ap (λ d. Some d) (sym (told ∙ ap (result_reply id) shown)) }

  -- so is one that refuses it
  pub tells_refusal : (f : RenameFault) (r : Refusal) (reply : Data) → (f ≢ fault.Memory → IsRenameIn text offset new (Err f)) → Some r ≡ refusal_of f → reply ≡ refused id r → Tells reply
  tells_refusal f r reply right is refused_so = record {
    found = Err f;
    right = right (not_memory f r is);
    replied = ap (option_map (refused id)) (sym is) ∙ ap (λ d. Some d) (sym refused_so);
  }

  tells : (found : Result (List Span) RenameFault) → IsRenameIn text offset new found → (reply : Data) × Tells reply
  tells (Ok spans) right = (result_reply id (rename_value encoding text uri new spans), record { found = Ok spans; right = right; replied = refl })
  tells (Err f) right = let r = some_refusal text offset new f right in (refused id r.0, record { found = Err f; right = right; replied = ap (option_map (refused id)) r.1 })

  pub some_reply : (reply : Data) × Tells reply
  some_reply = let found = some_rename text offset new in tells found.0 found.1

  pub one_reply : (one other : Data) → Tells one → Tells other → one ≡ other
  one_reply one other h k =
      let found = one_rename text offset new h.found k.found h.right k.right in
      let same : Some one ≡ Some other = sym h.replied ∙ ap (reply_for encoding uri text new id) found ∙ k.replied in
      cc

  -- what holds of all edits and of each refusal holds of a reply
  of_reply : (P : Data → Type 0) → ((spans : List Span) → P (result_reply id (rename_value encoding text uri new spans))) → ((r : Refusal) → P (refused id r))
      → (found : Result (List Span) RenameFault) (reply : Data) → reply_for encoding uri text new id found ≡ Some reply → P reply
  of_reply P edited each (Ok spans) reply is = let same : result_reply id (rename_value encoding text uri new spans) ≡ reply = cc in subst P same (edited spans)
  of_reply P edited each (Err f) reply is = of_refusal P id each (refusal_of f) reply is

  pub plain : (reply : Data) → has_float id ≡ false → Tells reply → has_float reply ≡ false
  plain reply no_float h =
      of_reply (λ (r : Data). has_float r ≡ false) (λ spans. result_plain id (rename_value encoding text uri new spans) no_float (value_plain encoding text uri new spans))
      (λ r. refusal_plain id r no_float) h.found reply h.replied

  pub no_method : (reply : Data) → Tells reply → HasNoMethod reply
  no_method reply h =
      of_reply HasNoMethod (λ spans. result_has_no_method id (rename_value encoding text uri new spans)) (refusal_has_no_method id) h.found reply h.replied
