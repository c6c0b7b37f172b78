-- What is found of the places of commands, and a type among them that is too large.
use Rattle.std.proofs.Common.{◌≡◌, ℕ, List, [], None, ap, subst, ◌∙◌}
use Rattle.std.specs.Str.{IsUtf8}
use Rattle.std.proofs.lemmas.Str.{IsCharBoundary-start}
use Rattle.lam_rules.specs.declared.rules.Dialect.{Dialect}
use Rattle.lam_token.specs.declared.span.Span.{Span}
use Rattle.lam_syntax.specs.Trees.{CommandTree}
use Rattle.lam_scope.specs.declared.resolved.Resolved.{Resolved}
use Rattle.lam_scope.specs.Nameless.{first_too_large}
use Rattle.lam_scope.specs.Places.{Statement, places_of}
use Rattle.lam_scope.specs.Tables.{no_span}
use Rattle.lam_scope.specs.Views.{statements_of}
use Rattle.lam_scope.proofs.PlacedPlaces.{same_places}
use Rattle.lam_typing.specs.declared.typing.Typing.{Typing}
use Rattle.lam_typing.specs.Analysis.{IsFirstTooLarge}
use Rattle.lam_typing.specs.Typings.{IsAnalysis}
use Rattle.lam_query.specs.Sizes.{IsSizeFault, of_term, span_numbered, places_in}
use Rattle.lam_query.specs.WellTypedDocuments.{statements_in}
use Rattle.lam_query.specs.Within.{IsSpanOfText}

-- the size fault of a place
pub large_place : (cs : List CommandTree) (ss : List Statement) (n : ℕ) (d : Dialect)
    → ss ≡ statements_in cs → first_too_large [] cs ≡ None → IsFirstTooLarge (places_of [] ss) n d → (s : Span) × IsSizeFault cs s d
large_place cs ss n d are none large = (span_numbered cs n, of_term n none (subst (λ ps. IsFirstTooLarge ps n d) (ap (places_of []) are ∙ same_places cs) large))

-- what is found of the places of statements is found of those of the terms
pub found_of_terms : (cs : List CommandTree) (resolved : Resolved) (typing : Typing) (d : Dialect)
    → statements_of resolved ≡ statements_in cs → IsAnalysis (places_of [] (statements_of resolved)) typing d → IsAnalysis (places_in cs) typing d
found_of_terms cs resolved typing d are found = subst (λ ps. IsAnalysis ps typing d) (ap (places_of []) are ∙ same_places cs) found

-- the span of what stands nowhere is that of the start of a text
pub starts_stand : (text : List ℕ) → IsUtf8 text → IsSpanOfText text no_span
starts_stand text is_text = (IsCharBoundary-start text is_text, IsCharBoundary-start text is_text)
