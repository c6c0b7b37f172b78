-- What is found of a command behind its stand-ins is found of it behind the commands of its text.
use Rattle.std.proofs.Common.{◌≡◌, ℕ, ◌+◌, ◌<◌, List, [], ◌∷◌, ◌++◌, length, Option, Some, None, sym, ap, subst, ◌∙◌, refl, arith}
use Rattle.std.specs.Option.{option_map}
use Rattle.std.specs.List.{position}
use Rattle.std.proofs.lemmas.List.{length-map}
use Rattle.lam_rules.specs.Types.{Typ}
use Rattle.lam_rules.specs.Typing.{Context, TypingTree, IsTyping}
use Rattle.lam_rules.specs.declared.rules.Dialect.{Dialect}
use Rattle.lam_syntax.specs.Trees.{CommandTree}
use Rattle.lam_scope.specs.PlacedTerms.{PlacedTree, term_of, document_terms, tree_in}
use Rattle.lam_scope.specs.Tables.{table, place_at}
use Rattle.lam_typing.specs.LeastTypes.{IsLeastAt, AreLeastEntries}
use Rattle.lam_query.specs.Hovers.{has_byte, IsHover}
use Rattle.lam_query.proofs.Hovering.{place_inside, nothing_around}
use Rattle.lam_query.proofs.PieceInDocument.{place_between}
use Rattle.lam_query.proofs.RowsAndTerms.{row_at, innermost_row}
use Rattle.lam_query.proofs.SeenAlike.{IsSeenAlike, IsSameTerm}
use Rattle.lam_query.proofs.SizesAlone.{terms_alone}

-- a term of the command behind `done`, by its number in the command, and the same term behind `pre`
abbrev pub term_there : (done : List CommandTree) (c : CommandTree) (rest : List CommandTree) → ℕ → PlacedTree
term_there done c rest n = tree_in (document_terms (done ++ c ∷ rest)) (length (document_terms done) + n)

abbrev pub term_alone : (pre : List CommandTree) → CommandTree → ℕ → PlacedTree
term_alone pre c n = tree_in (document_terms (pre ++ c ∷ [])) n

-- Each term of the command behind `pre` is the same behind `done`; there it has the same least type, and what proves a type of it proves it there.
pub record AreTermsAlike (done pre : List CommandTree) (g h : Context) (c : CommandTree) (rest : List CommandTree) (d : Dialect) : Type 0 where
  pub same : (n : ℕ) → n < length (document_terms (c ∷ [])) → IsSameTerm done pre g h (term_there done c rest n) (term_alone pre c n) d
  pub least : (n : ℕ) → n < length (document_terms (c ∷ [])) → (o : Option Typ)
      → IsLeastAt (term_of (term_alone pre c n)).place.scope (term_of (term_alone pre c n)).place.here o d
      → IsLeastAt (term_of (term_there done c rest n)).place.scope (term_of (term_there done c rest n)).place.here o d
  pub proof : (n : ℕ) (inside : n < length (document_terms (c ∷ []))) (e : Context) (tree : TypingTree) → length e ≡ length (same n inside).own
      → AreLeastEntries (term_of (term_alone pre c n)).place.scope (e ++ h) d
      → IsTyping (e ++ h) (term_of (term_alone pre c n)).place.here tree d → IsTyping (e ++ g) (term_of (term_there done c rest n)).place.here tree d

no_steps : (k : ℕ) (x : Option ℕ) → k ≡ 0 → option_map (λ m. k + m) x ≡ x
no_steps k None none = refl
no_steps k (Some m) none = ap Some (omega arith)

module _ (done pre : List CommandTree) (g h : Context) (c : CommandTree) (rest : List CommandTree) (d : Dialect)
    (alike : IsSeenAlike done pre g h c d) (told : AreTermsAlike done pre g h c rest d) where
  abbrev pub Whole : List CommandTree
  Whole = done ++ c ∷ rest

  abbrev pub Alone : List CommandTree
  Alone = pre ++ c ∷ []

  -- ---- at an offset at which the other commands have no term

  nothing_in_front : (o : ℕ) → place_at (table pre) o ≡ None
  nothing_in_front o = row_at pre o ∙ ap (position (λ t. has_byte o (term_of t))) alike.no_terms

  own_place : (o : ℕ) → place_at (table Alone) o ≡ place_at (table (c ∷ [])) o
  own_place o = place_between pre o (nothing_in_front o) c [] refl ∙ no_steps (length (document_terms pre)) (place_at (table (c ∷ [])) o) (ap length alike.no_terms)

  pub number_inside : (o n : ℕ) → place_at (table Alone) o ≡ Some n → n < length (document_terms (c ∷ []))
  number_inside o n at =
      omega (arith, place_inside Alone o n at, terms_alone pre c alike.no_terms, length-map (document_terms Alone) (λ t. (term_of t).place))

  module _ (o : ℕ) (none_before : place_at (table done) o ≡ None) (none_after : place_at (table rest) o ≡ None) where
    place_there : place_at (table Whole) o ≡ option_map (λ n. length (document_terms done) + n) (place_at (table Alone) o)
    place_there = place_between done o none_before c rest none_after ∙ ap (option_map (λ n. length (document_terms done) + n)) (sym (own_place o))

    pub number_there : (n : ℕ) → place_at (table Alone) o ≡ Some n → place_at (table Whole) o ≡ Some (length (document_terms done) + n)
    number_there n at = place_there ∙ ap (option_map (λ n. length (document_terms done) + n)) at

    -- no term has the offset
    pub no_term_there : place_at (table Alone) o ≡ None → IsHover Whole o None d
    no_term_there at = nothing_around Whole o d (place_there ∙ ap (option_map (λ n. length (document_terms done) + n)) at)

    -- the term that has the offset has no type
    pub no_type_there : (n : ℕ) → place_at (table Alone) o ≡ Some n → IsLeastAt (term_of (term_alone pre c n)).place.scope (term_of (term_alone pre c n)).place.here None d
        → IsHover Whole o None d
    no_type_there n at none = λ term type typed.
        let both : Some term ≡ Some (term_there done c rest n) =
        sym typed.innermost ∙ innermost_row Whole o (length (document_terms done) + n) (number_there n at) in
        let same : term ≡ term_there done c rest n = cc in
        let least = subst (λ t. IsLeastAt (term_of t).place.scope (term_of t).place.here (Some type) d) same typed.least in
        told.least n (number_inside o n at) None none type least.0
