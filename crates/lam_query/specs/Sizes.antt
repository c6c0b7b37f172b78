-- The terms of a document, and its size diagnostic.
use Rattle.std.specs.Prelude.{◌≡◌, ℕ, List, [], map, Some, None}
use Rattle.lam_token.specs.declared.span.Span.{Span}
use Rattle.lam_rules.specs.declared.rules.Dialect.{Dialect}
use Rattle.lam_syntax.specs.Trees.{CommandTree}
use Rattle.lam_scope.specs.Places.{Place}
use Rattle.lam_scope.specs.Nameless.{first_too_large}
use Rattle.lam_scope.specs.PlacedTerms.{document_terms, term_of, tree_in}
use Rattle.lam_typing.specs.Analysis.{IsFirstTooLarge}

-- the places of the terms, in order
abbrev pub places_in : List CommandTree → List Place
places_in commands = map (λ t. (term_of t).place) (document_terms commands)

-- the span of the term with this zero-based number
abbrev pub span_numbered : List CommandTree → ℕ → Span
span_numbered commands n = (term_of (tree_in (document_terms commands) n)).span

-- The size diagnostic of a document: the first written type in the text whose expansion has more than 4,096 nodes, or else the first term whose least type has, where
-- each term comes after its parts.
pub data IsSizeFault : List CommandTree → Span → Dialect → Type 0 where
  of_written_type : {commands : List CommandTree} {s : Span} {d : Dialect} → first_too_large [] commands ≡ Some s → IsSizeFault commands s d
  of_term : {commands : List CommandTree} {d : Dialect} (n : ℕ)
      → first_too_large [] commands ≡ None → IsFirstTooLarge (places_in commands) n d → IsSizeFault commands (span_numbered commands n) d

-- there is no size diagnostic
abbrev pub IsSmall : List CommandTree → Dialect → Type 0
IsSmall commands d = (s : Span) → IsSizeFault commands s d → ⊥
