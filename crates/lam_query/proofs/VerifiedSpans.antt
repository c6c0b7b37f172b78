-- The spans of a verified derivation are made of those of tokens.
use Rattle.std.proofs.Common.{ℕ, List, sym, ap, subst, ◌∙◌}
use Rattle.std.specs.List.{All}
use Rattle.std.proofs.lemmas.List.Elements.{All-from_recursion}
use Rattle.lam_token.specs.declared.span.Span.{Span}
use Rattle.lam_token.specs.Lexeme.{Lexeme}
use Rattle.lam_token.specs.Cut.{AreTokensOf}
use Rattle.lam_rules.specs.declared.rules.Dialect.{Dialect}
use Rattle.lam_syntax.specs.Answers.{pieces_of}
use Rattle.lam_scope.specs.Tables.{table}
use Rattle.lam_query.specs.Derivations.{Derivation}
use Rattle.lam_query.specs.Steps.{steps_of}
use Rattle.lam_query.specs.Verified.{IsVerified}
use Rattle.lam_query.proofs.RowsAndTerms.{same_proof}
use Rattle.lam_query.proofs.Spans.{AtPlace, InTokens, Spreads}
use Rattle.lam_query.proofs.StepPlaces.{InStep, InSteps, proof_steps}
use Rattle.lam_query.proofs.TextPlaces.{in_commands}
use Rattle.lam_query.proofs.TokensOfPieces.{pieces_in}
use Rattle.lam_query.proofs.Within.{in_place}

pub verified_spans : (Q : Span → Type 0) (text : List ℕ) (x : Derivation) (d : Dialect) → Spreads Q → Q (record { start = 0; end = 0 })
    → ((ts : List Lexeme) → AreTokensOf text ts → InTokens Q ts) → IsVerified text x d → All (InStep Q) x.steps
verified_spans Q text x d spread past in_tokens verified =
    let are = verified.are_commands in
    let proof = verified.is_proof in
    let pieces = pieces_in (AtPlace Q) are.tokens (in_tokens are.tokens are.are_tokens) in
    let rows = in_place Q verified.commands past (in_commands Q spread (pieces_of are.tokens) verified.commands pieces are.are_commands) in
    let same = proof.steps ∙ ap (steps_of 0) (sym (same_proof verified.commands verified.number proof.tree)) in
    All-from_recursion (InStep Q) x.steps (subst (InSteps Q) (sym same) (proof_steps Q (table verified.commands) verified.number proof.tree rows))
