-- What is reported on a value.
use Rattle.std.proofs.Common.{◌≡◌, ◌↔◌, ℕ, List, [], ◌∷◌, map, Some, Result, Ok, Err, IfOk, string_bytes, sym, subst, ◌∙◌}
use Rattle.std.specs.List.{All}
use Rattle.std.specs.Str.{IsUtf8}
use Rattle.std.proofs.lemmas.List.Elements.{All-nil, All-cons, All-head, All-tail}
use Rattle.std.specs.declared.alloc.AllocError.{AllocError}
use Rattle.serde_json.specs.Data.{Data}
use Rattle.lam_rules.specs.Texts.{Text}
use Rattle.lam_rules.specs.declared.rules.Dialect.{Dialect}
use Rattle.lam_text.specs.declared.units.Encoding.{Encoding}
use Rattle.lam_query.specs.Derivations.{Derivation}
use Rattle.lam_query.specs.Views.{StepStandsIn, step_of}
use Rattle.lam_query.specs.declared.answers.Step.{Step as RustStep}
use Rattle.lam_query.specs.declared.answers.Step.TheVariants as rust
use Rattle.lam_session.specs.Derivations.{derivation_value}
use Rattle.lam_query.specs.FirstFaults.{IsFirstFault}
use Rattle.lam_query.specs.Verified.{IsVerified}
use Rattle.lam_check.specs.Readable.{HasReadableTypes, IsReadable, IsReadableConclusion}
use Rattle.lam_check.specs.Verdicts.{accepted_line, refused_line, message, unread_text, IsVerdict, accepts, refuses, reads_none}
use Rattle.lam_check.specs.Unreadable.{IsWrongFor}
use Rattle.lam_check.specs.Verified.{IsVerifiedValue}
use Rattle.lam_query.specs.declared.answers.FirstFault.{FirstFault}
use Rattle.lam_check.specs.declared.read_derivations.Unread.{Unread}
use Rattle.lam_check.specs.declared.reports.Checked.{Checked}
use Rattle.lam_check.proofs.SentValues.{one_readable}
use Rattle.lam_check.proofs.Unreadable.{wrong_for}
use Rattle.lam_check.proofs.VerifiedRanges.{verified_readable}

-- the steps of a readable derivation
pub steps_stand : (text : List ℕ) (steps : List RustStep) → All (λ s. IsReadableConclusion text s.conclusion) (map step_of steps) → All (StepStandsIn text) steps
steps_stand text [] readable = All-nil (StepStandsIn text)
steps_stand text (s ∷ steps) readable =
    let rest = steps_stand text steps (All-tail (λ t. IsReadableConclusion text t.conclusion) (step_of s) (map step_of steps) readable) in
    All-cons (StepStandsIn text) s steps (by s (All-head (λ t. IsReadableConclusion text t.conclusion) (step_of s) (map step_of steps) readable)) rest
  where
    by : (s : RustStep) → IsReadableConclusion text (step_of s).conclusion → StepStandsIn text s
    by (rust.Typing rule span ty premises) h = (h.0.start.boundary, h.0.end.boundary)
    by (rust.Sub rule lower upper premises) h = tt

-- what holds of the document of a text holds of the text
pub in_text : (P : Encoding → List ℕ → Type 0) {own encoding : Encoding} {there text : List ℕ} → own ≡ encoding → there ≡ text → P own there → P encoding text
in_text P {encoding = encoding} {there = there} like same h = subst (P encoding) same (subst (λ e. P e there) like h)

module _ (encoding : Encoding) (text : List ℕ) (value : Data) (d : Dialect) where
  -- the value is that of a verified derivation with readable types
  abbrev pub IsProof : Type 0
  IsProof = (sent : IsVerifiedValue encoding text value d) × HasReadableTypes sent.derivation

  pub proof_readable : IsUtf8 text → (proof : IsProof) → IsReadable text proof.0.derivation
  proof_readable utf8 proof = verified_readable text proof.0.derivation d utf8 proof.0.verified proof.1

  -- if a readable derivation of the value is not verified, none is: the value has no other one
  pub no_proof : (x : Derivation) → IsUtf8 text → value ≡ derivation_value encoding text (Some x) → IsReadable text x → (IsVerified text x d → ⊥) → IsProof → ⊥
  no_proof x utf8 is readable not_verified proof =
      let same = one_readable encoding text utf8 proof.0.derivation x (proof_readable utf8 proof) readable (sym proof.0.is_value ∙ is) in
      not_verified (subst (λ y. IsVerified text y d) same proof.0.verified)

  pub none_counted : (r : Result Checked AllocError) → IsProof → IfOk r (λ v. v.count ≡ 0) → IfOk r (λ v. (v.count ≡ 0) ↔ IsProof)
  none_counted (Ok v) proof none = ((λ e. proof), (λ p. none))
  none_counted (Err e) proof none = tt

  pub one_counted : (r : Result Checked AllocError) → (IsProof → ⊥) → IfOk r (λ v. v.count ≡ 1) → IfOk r (λ v. (v.count ≡ 0) ↔ IsProof)
  one_counted (Ok v) unproved one = ((λ none. (let clash : ◌≡◌ {A = ℕ} 0 1 = sym none ∙ one in absurd cc)), (λ proof. absurd (unproved proof)))
  one_counted (Err e) unproved one = tt

module _ (name : Text) (encoding : Encoding) (text : List ℕ) (value : Data) (d : Dialect) where
  abbrev IsReport : Checked → Type 0
  IsReport v = IsVerdict name encoding text value d (string_bytes v.report) v.count

  pub accepted_report : (r : Result Checked AllocError) (sent : IsVerifiedValue encoding text value d) → IsReadable text sent.derivation → IfOk r (λ v. v.count ≡ 0)
      → IfOk r (λ v. string_bytes v.report ≡ accepted_line name text sent.derivation) → IfOk r IsReport
  accepted_report (Ok v) sent readable none shown = subst (IsVerdict name encoding text value d (string_bytes v.report)) (sym none) (accepts (record { sent = sent; readable = readable; shown = shown }))
  accepted_report (Err e) sent readable none shown = tt

  pub refused_report : (r : Result Checked AllocError) (x : Derivation) → value ≡ derivation_value encoding text (Some x) → IsReadable text x → (IsVerified text x d → ⊥) → (fault : FirstFault) → IsFirstFault text x d fault
      → IfOk r (λ v. v.count ≡ 1) → IfOk r (λ v. string_bytes v.report ≡ refused_line name (message fault)) → IfOk r IsReport
  refused_report (Ok v) x is readable not_verified fault first one shown =
      subst (IsVerdict name encoding text value d (string_bytes v.report)) (sym one) (refuses (record { derivation = x; is_value = is; readable = readable; not_verified = not_verified; fault = fault; first = first; shown = shown }))
  refused_report (Err e) x is readable not_verified fault first one shown = tt

  pub unread_report : (r : Result Checked AllocError) (reason : Unread) → IsWrongFor encoding text value reason → IfOk r (λ v. v.count ≡ 1)
      → IfOk r (λ v. string_bytes v.report ≡ refused_line name (unread_text reason)) → IfOk r IsReport
  unread_report (Ok v) reason right one shown =
      let none = wrong_for encoding text value reason right in
      subst (IsVerdict name encoding text value d (string_bytes v.report)) (sym one) (reads_none (record { unreadable = none; reason = reason; right = right; shown = shown }))
  unread_report (Err e) reason right one shown = tt
