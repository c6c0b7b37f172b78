-- A document has no fault of types just where it is well typed.
use Rattle.std.proofs.Common.{◌≡◌, ◌↔◌, ℕ, ◌+◌, List, [], ◌∷◌, ◌++◌, map, refl, sym, ap, subst, ◌∙◌, inl, inr}
use Rattle.lam_rules.specs.declared.rules.Dialect.{Dialect}
use Rattle.lam_syntax.specs.Trees.{CommandTree}
use Rattle.lam_scope.specs.Places.{Place, places_of}
use Rattle.lam_scope.specs.Nameless.{faults}
use Rattle.lam_scope.proofs.Faultless.{none_left, none_right, faultless_expanded}
use Rattle.lam_scope.proofs.PlacedPlaces.{same_places}
use Rattle.lam_scope.proofs.WellFormedForms.{document-wf}
use Rattle.lam_typing.specs.Blaming.{Blamed, AreBlamed}
use Rattle.lam_typing.specs.WellTyped.{AreUnblamed}
use Rattle.lam_typing.proofs.Documents.{typed_where_unblamed}
use Rattle.lam_query.specs.Faults.{Fault}
use Rattle.lam_query.specs.Sizes.{places_in}
use Rattle.lam_query.specs.TextFaults.{written_fault, blame_fault, AreTypeFaults, too_large, small}
use Rattle.lam_query.specs.WellTypedDocuments.{statements_in, IsWellTyped}

-- lists with nothing in them

none_mapped : {A B : Type 0} (f : A → B) (xs : List A) → map f xs ≡ [] → xs ≡ []
none_mapped f [] none = refl
none_mapped f (x ∷ xs) none = absurd cc

-- no blame, and nobody to blame

unblamed : (n : ℕ) (ps : List Place) (blames : List Blamed) (d : Dialect) → blames ≡ [] → AreBlamed n ps blames d → AreUnblamed ps d
unblamed n [] blames d none blamed = tt
unblamed n (p ∷ ps) blames d none (inl passed) = (passed.0, unblamed (n + 1) ps blames d none passed.1)
unblamed n (p ∷ ps) blames d none (inr (code, rest, is, here, code_of, more)) = let clash : [] ≡ record { number = n; code = code } ∷ rest = sym none ∙ is in absurd cc

no_blames : (n : ℕ) (ps : List Place) (blames : List Blamed) (d : Dialect) → AreUnblamed ps d → AreBlamed n ps blames d → blames ≡ []
no_blames n [] blames d clear blamed = blamed
no_blames n (p ∷ ps) blames d clear (inl passed) = no_blames (n + 1) ps blames d clear.1 passed.1
no_blames n (p ∷ ps) blames d clear (inr (code, rest, is, here, code_of, more)) = absurd (clear.0 here)

module _ (commands : List CommandTree) (d : Dialect) where
  unblamed_places : AreUnblamed (places_in commands) d → AreUnblamed (places_of [] (statements_in commands)) d
  unblamed_places clear = subst (λ ps. AreUnblamed ps d) (sym (same_places commands)) clear

  well_typed : (found : List Fault) → AreTypeFaults commands found d → found ≡ [] → IsWellTyped commands d
  well_typed _ (too_large fault) none = absurd cc
  well_typed _ (small blames is_small blamed) none =
      let of_written = none_mapped written_fault (faults [] commands) (none_left (map written_fault (faults [] commands)) (map (blame_fault commands) blames) none) in
      let of_places = none_mapped (blame_fault commands) blames (none_right (map written_fault (faults [] commands)) (map (blame_fault commands) blames) none) in
      let expanded = (faultless_expanded commands).0 of_written in
      let typed = (typed_where_unblamed d (statements_in commands) (document-wf commands) expanded).0 (unblamed_places (unblamed 0 (places_in commands) blames d of_places blamed)) in
      record { expanded = expanded; typed = typed; small = is_small }

  faultless : (found : List Fault) → AreTypeFaults commands found d → IsWellTyped commands d → found ≡ []
  faultless _ (too_large fault) well = absurd (well.small _ fault)
  faultless _ (small blames is_small blamed) well =
      let of_written = (faultless_expanded commands).1 well.expanded in
      let clear = (typed_where_unblamed d (statements_in commands) (document-wf commands) well.expanded).1 well.typed in
      let of_places = no_blames 0 (places_in commands) blames d (subst (λ ps. AreUnblamed ps d) (same_places commands) clear) blamed in
      ap (λ ws. map written_fault ws ++ map (blame_fault commands) blames) of_written ∙ ap (λ bs. map (blame_fault commands) bs) of_places

  pub faultless_is_well_typed : (found : List Fault) → AreTypeFaults commands found d → (found ≡ []) ↔ IsWellTyped commands d
  faultless_is_well_typed found are = (well_typed found are, faultless found are)
