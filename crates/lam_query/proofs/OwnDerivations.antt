-- A derivation of the type that a hover shows is verified: its least entries are a context that the rules allow.
use Rattle.std.proofs.Common.{◌≡◌, ℕ, suc, ◌<◌, List, [], ◌∷◌, length, reverse, Option, Some, None, IfSome, option_map, Bool, true, false, if◌then◌else◌, refl, sym, ap, subst, ◌∙◌, arith}
use Rattle.std.proofs.lemmas.List.{reverse-reverse}
use Rattle.std.proofs.lemmas.Option.{same_Some}
use Rattle.lam_rules.specs.Typing.{IsTyping}
use Rattle.lam_typing.specs.Contexts.{IsContext}
use Rattle.lam_rules.specs.declared.rules.Dialect.{Dialect}
use Rattle.lam_scope.specs.PlacedTerms.{PlacedTree, document_terms, term_of, tree_in}
use Rattle.lam_typing.proofs.LeastContexts.{least_are_context, place_wf}
use Rattle.lam_typing.proofs.WellFormedPlaces.{IsWellFormedPlace}
use Rattle.lam_query.specs.Derivations.{Derivation, IsDerivedIn}
use Rattle.lam_query.specs.Hovers.{has_byte, innermost_at}
use Rattle.lam_query.specs.Views.{derivation_of}
use Rattle.lam_query.specs.declared.answers.Derivation.{Derivation as RustDerivation}
use Rattle.lam_query.specs.Verified.{IsProofOf, IsVerified, entries_listed}

-- a term of the list, in the text
record Found (ts : List PlacedTree) (term : PlacedTree) : Type 0 where
  number : ℕ
  inside : number < length ts
  is : tree_in ts number ≡ term
  written : (term_of term).is_written ≡ true

has_written : (written rest : Bool) → (if written then rest else false) ≡ true → written ≡ true
has_written true rest h = refl
has_written false rest h = h

found_among : (o : ℕ) (ts : List PlacedTree) (term : PlacedTree) → innermost_at o ts ≡ Some term → Found ts term
found_among o [] term h = let clash : None ≡ Some term = h in absurd cc
found_among o (t ∷ ts) term h = by_test (λ same. found_among o ts term same) (has_byte o (term_of t)) refl
  where
    by_test : (innermost_at o ts ≡ Some term → Found ts term) → (b : Bool) → has_byte o (term_of t) ≡ b → Found (t ∷ ts) term
    by_test further true here =
        let same : Some t ≡ Some term = sym (ap (λ b. if b then Some t else innermost_at o ts) here) ∙ h in
        let is = same_Some t term same in
        record {
          number = 0;
          inside = omega arith;
          is = is;
          written = subst (λ s. (term_of s).is_written ≡ true) is (has_written (term_of t).is_written _ here);
        }
    by_test further false here =
        let same : innermost_at o ts ≡ Some term = sym (ap (λ b. if b then Some t else innermost_at o ts) here) ∙ h in
        let rest = further same in
        record { number = suc rest.number; inside = (let lt = rest.inside in omega arith); is = rest.is; written = rest.written }

pub derived_verified : (text : List ℕ) (offset : ℕ) (x : Derivation) (d : Dialect) → IsDerivedIn text offset (Some x) d → IsVerified text x d
derived_verified text offset x d h =
    let a = h.answer in
    let found = found_among offset (document_terms h.commands) a.term a.typed.innermost in
    let wf : IsWellFormedPlace (term_of a.term).place = subst (λ t. IsWellFormedPlace (term_of t).place) found.is (place_wf h.commands found.number) in
    let listed : a.entries ≡ entries_listed x = sym (reverse-reverse a.entries) ∙ ap reverse (sym a.types) in
    let context = least_are_context (term_of a.term).place.scope a.entries d wf.0 a.least in
    let proof : IsProofOf a.term x d = record {
      written = found.written;
      has_context = record { names = a.names; context = subst (λ g. IsContext (term_of a.term).place.scope g d) listed context };
      tree = a.tree;
      proof = subst (λ g. IsTyping g (term_of a.term).place.here a.tree d) listed a.proof;
      steps = a.steps;
    } in
    record {
      commands = h.commands;
      are_commands = h.are_commands;
      small = a.typed.small;
      number = found.number;
      inside = found.inside;
      is_proof = subst (λ t. IsProofOf t x d) (sym found.is) proof;
    }

pub own_verified : (text : List ℕ) (offset : ℕ) (found : Option RustDerivation) (d : Dialect) → IsDerivedIn text offset (option_map derivation_of found) d → IfSome found (λ x. IsVerified text (derivation_of x) d)
own_verified text offset None d h = tt
own_verified text offset (Some x) d h = derived_verified text offset (derivation_of x) d h
