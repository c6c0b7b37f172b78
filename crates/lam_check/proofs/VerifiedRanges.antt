-- The ranges of a verified derivation begin and end with tokens, so they are readable.
use Rattle.std.proofs.Common.{ℕ, List, arith}
use Rattle.std.specs.List.{All}
use Rattle.std.specs.Str.{IsCharBoundary, IsUtf8}
use Rattle.std.proofs.lemmas.List.Elements.{recursion_from_All}
use Rattle.lam_rules.specs.declared.rules.Dialect.{Dialect}
use Rattle.lam_token.specs.Lexeme.{Lexeme, span_of, start_of, end_of}
use Rattle.lam_token.specs.Cut.{StandsIn, AreTokensOf, IsBetweenCrAndLf, KeepsLineEnds}
use Rattle.lam_token.proofs.Cuts.{tokens_stand}
use Rattle.lam_token.proofs.TokenEnds.{tokens_keep}
use Rattle.lam_query.specs.Derivations.{Derivation}
use Rattle.lam_query.specs.Steps.{Conclusion, typing, subtyping}
use Rattle.lam_query.specs.Verified.{IsVerified}
use Rattle.lam_query.proofs.Answering.{starts_stand}
use Rattle.lam_query.proofs.Spans.{AtPlace, InTokens, Spreads}
use Rattle.lam_query.proofs.StepPlaces.{InConclusion, InStep}
use Rattle.lam_query.proofs.VerifiedSpans.{verified_spans}
use Rattle.lam_check.specs.Readable.{ConcludesReadably, HasReadableTypes, IsReadable, IsReadableConclusion, IsReadableOffset, IsReadableSpan}

offset_readable : (text : List ℕ) (offset : ℕ) → IsCharBoundary text offset → (IsBetweenCrAndLf text offset → ⊥) → IsReadableOffset text offset
offset_readable text offset boundary outside = record {
  boundary = boundary;
  outside = λ inside. outside (record { after_start = inside.after_start; cr = inside.cr; lf = inside.lf });
}

token_readable : (text : List ℕ) (t : Lexeme) → StandsIn text t → KeepsLineEnds text t → IsReadableSpan text (span_of t)
token_readable text t stands kept = record {
  start = offset_readable text (start_of t) stands.0 kept.start;
  end = offset_readable text (end_of t) stands.1 kept.end;
}

tokens_readable : (text : List ℕ) (ts : List Lexeme) → IsUtf8 text → AreTokensOf text ts → InTokens (IsReadableSpan text) ts
tokens_readable text ts is_text are =
    let stand = tokens_stand text ts is_text are in
    let kept = tokens_keep text ts is_text are in
    recursion_from_All (AtPlace (IsReadableSpan text)) ts (λ k t inside. token_readable text _ (stand k t inside) (kept k t inside))

spread : (text : List ℕ) → Spreads (IsReadableSpan text)
spread text = λ a b p q. record { start = p.start; end = q.end }

start_readable : (text : List ℕ) → IsUtf8 text → IsReadableSpan text (record { start = 0; end = 0 })
start_readable text is_text =
    let stand = starts_stand text is_text in
    let start = offset_readable text 0 stand.0 (λ between. absurd (omega (arith, between.after_start))) in
    record { start = start; end = start }

steps_readable : (text : List ℕ) (x : Derivation) (d : Dialect) → IsUtf8 text → IsVerified text x d → All (InStep (IsReadableSpan text)) x.steps
steps_readable text x d is_text verified =
    verified_spans (IsReadableSpan text) text x d (spread text) (start_readable text is_text) (λ ts are. tokens_readable text ts is_text are) verified

both_readable : (text : List ℕ) (c : Conclusion) → InConclusion (IsReadableSpan text) c → ConcludesReadably c → IsReadableConclusion text c
both_readable text (typing rule s t) span types = (span, types)
both_readable text (subtyping rule s t) span types = types

types_alone : (text : List ℕ) (c : Conclusion) → IsReadableConclusion text c → ConcludesReadably c
types_alone text (typing rule s t) readable = readable.1
types_alone text (subtyping rule s t) readable = readable

pub verified_readable : (text : List ℕ) (x : Derivation) (d : Dialect) → IsUtf8 text → IsVerified text x d → HasReadableTypes x → IsReadable text x
verified_readable text x d is_text v types = record {
  context = types.context;
  steps = λ k s inside. both_readable text _ (steps_readable text x d is_text v k s inside) (types.steps k s inside);
}

pub readable_types : (text : List ℕ) (x : Derivation) → IsReadable text x → HasReadableTypes x
readable_types text x readable = record { context = readable.context; steps = λ k s inside. types_alone text _ (readable.steps k s inside) }
