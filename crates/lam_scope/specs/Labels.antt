-- Replacing the label of a projection.
use Rattle.std.specs.Prelude.{◌≡◌, ◌==◌, ℕ, suc, List, [], map, take, if◌then◌else◌}
use Rattle.lam_token.specs.declared.kind.Kind.TheVariants as kind
use Rattle.lam_rules.specs.Types.{Label}
use Rattle.lam_rules.specs.Terms.{Term, project}
use Rattle.lam_syntax.specs.Trees.{CommandTree}
use Rattle.lam_syntax.specs.Respelled.{Letters, respelled_command}
use Rattle.lam_scope.specs.Nameless.{first_too_large}
use Rattle.lam_scope.specs.Places.{Place}
use Rattle.lam_scope.specs.PlacedTerms.{document_terms, term_of, tree_in}

-- this label in place of the name that begins at byte o
abbrev pub labelling : ℕ → Label → Letters
labelling o l kind.Name x s = if s.start == o then l else x
labelling o l k x s = x

-- commands with this label there
abbrev pub labelled : ℕ → Label → List CommandTree → List CommandTree
labelled o l cs = map (respelled_command (λ p. p) (labelling o l)) cs

-- the subterm with this zero-based index
abbrev pub place_in : List CommandTree → ℕ → Place
place_in cs n = (term_of (tree_in (document_terms cs) n)).place

-- the first n subterms
abbrev pub places_before : ℕ → List CommandTree → List Place
places_before n cs = take n (map (λ t. (term_of t).place) (document_terms cs))

-- The other commands differ from these in that the projection with this index asks for another label of the same term, which is the subterm just before it; all earlier
-- subterms are the same, and so is the first written type over the size limit.
pub record AreLabelled (cs others : List CommandTree) (n : ℕ) (l : Label) : Type 0 where
  pub before : places_before n others ≡ places_before n cs
  pub operand : Term
  pub label : Label
  pub asked : (place_in cs n).here ≡ project operand label
  pub asked_now : place_in others n ≡ record { scope = (place_in cs n).scope; here = project operand l }
  pub number : ℕ
  pub is_next : n ≡ suc number
  pub operand_there : place_in cs number ≡ record { scope = (place_in cs n).scope; here = operand }
  pub written : first_too_large [] others ≡ first_too_large [] cs
