-- Terms that are never to blame.
use Rattle.std.proofs.Common.{ℕ, List, [], ◌∷◌, Option, Some, None, subst}
use Rattle.lam_rules.specs.Types.{Typ, bool, nat, unit}
use Rattle.lam_rules.specs.Terms.{Term, true_term, false_term, if_then_else, numeral, lambda, unit_term, let_in}
use Rattle.lam_rules.specs.Typing.{Context}
use Rattle.lam_rules.specs.declared.rules.Dialect.{Dialect}
use Rattle.lam_scope.specs.Places.{written, of_term, Scope}
use Rattle.lam_typing.specs.Contexts.{IsContext}
use Rattle.lam_typing.specs.LeastTypes.{IsTypeAt, IsTyped}
use Rattle.lam_typing.specs.Blaming.{IsBlamed}
use Rattle.lam_scope.specs.WellFormed.{IsWellFormedTerm, IsWellFormedScope}
use Rattle.lam_lattice.proofs.Existing.{joins_exist}
use Rattle.lam_typing.proofs.Derivations.{Derives, t_true, t_false, t_num, t_unit, t_abs, t_let, t_if, t_sub, derives, has_type, derives_wf}
use Rattle.lam_typing.proofs.Narrows.{narrow}
use Rattle.lam_typing.specs.Progress.{IsLowest}
use Rattle.lam_typing.proofs.LeastIn.{LeastIn, lowest_some, typed_in, typed_at}
use Rattle.lam_typing.proofs.Existing.{exists_in, lowest_exists}

-- a lambda has a type where its body has one
pub lambda_unblamed : (s : Scope) (w : Option Typ) (e : Term) (d : Dialect) → IsBlamed s (lambda w e) d → ⊥
lambda_unblamed s None e d blamed = blamed.unexcused tt
lambda_unblamed s (Some w) e d blamed = blamed.untyped (typed blamed.parts)
  where
    in_context : (t : Typ) (g : Context) → IsContext (written (Some w) ∷ s) g d → Derives g e t d → IsTyped s (lambda (Some w) e) d
    in_context t [] is x = absurd is
    in_context t (entry ∷ g) is x = by (t_abs (subst (λ o. Derives (o ∷ g) e t d) is.0 x))
      where
        by : {u : Typ} → Derives g (lambda (Some w) e) u d → IsTyped s (lambda (Some w) e) d
        by {u} y = (u, (g, is.1, has_type g (lambda (Some w) e) u d y))

    typed : IsTyped (written (Some w) ∷ s) e d → IsTyped s (lambda (Some w) e) d
    typed (t, is) = in_context t is.0 is.1 (derives is.0 e t d is.2)

-- a let has a type if both of its terms have
pub let_typed : (d : Dialect) (s : Scope) (g : Context) (a b : Term) (o : Option Typ) → IsLowest s g d → LeastIn g a o d → IsTyped s a d → IsTyped (of_term a ∷ s) b d → IsTyped s (let_in a b) d
let_typed d s g a b None low least ta tb = let x = typed_in s g a d low ta in absurd (least x.0 x.1)
let_typed d s g a b (Some t) low least ta tb =
    let y = typed_in (of_term a ∷ s) (Some t ∷ g) b d (lowest_some a s t g d least low) tb in
    typed_at s g (let_in a b) y.0 d low (t_let least.0 y.1)

module _ (d : Dialect) where
  pub true_unblamed : (s : Scope) → IsWellFormedScope s → IsBlamed s true_term d → ⊥
  true_unblamed s ws blamed = let g = lowest_exists d s ws in blamed.untyped (typed_at s g.0 true_term bool d g.1 (t_true g.1.wf))

  pub false_unblamed : (s : Scope) → IsWellFormedScope s → IsBlamed s false_term d → ⊥
  false_unblamed s ws blamed = let g = lowest_exists d s ws in blamed.untyped (typed_at s g.0 false_term bool d g.1 (t_false g.1.wf))

  pub unit_unblamed : (s : Scope) → IsWellFormedScope s → IsBlamed s unit_term d → ⊥
  unit_unblamed s ws blamed = let g = lowest_exists d s ws in blamed.untyped (typed_at s g.0 unit_term unit d g.1 (t_unit g.1.wf))

  pub numeral_unblamed : (s : Scope) (digits : List ℕ) → IsWellFormedScope s → IsBlamed s (numeral digits) d → ⊥
  numeral_unblamed s digits ws blamed = let g = lowest_exists d s ws in blamed.untyped (typed_at s g.0 (numeral digits) nat d g.1 (t_num g.1.wf))

  pub let_unblamed : (s : Scope) (a b : Term) → IsWellFormedScope s → IsWellFormedTerm (let_in a b) → IsBlamed s (let_in a b) d → ⊥
  let_unblamed s a b ws we blamed =
      let g = lowest_exists d s ws in
      let x = exists_in d a g.0 g.1.wf we.0 in
      blamed.untyped (let_typed d s g.0 a b x.0 g.1 x.1 blamed.parts.0 blamed.parts.1)

  -- an if has a type where its condition has Bool and both branches have one
  pub if_unblamed : (s : Scope) (c a b : Term) → IsWellFormedScope s → IsTypeAt s c bool d → IsBlamed s (if_then_else c a b) d → ⊥
  if_unblamed s c a b ws condition blamed =
      let g = lowest_exists d s ws in
      let x = typed_in s g.0 a d g.1 blamed.parts.1 in
      let y = typed_in s g.0 b d g.1 blamed.parts.2 in
      let j = joins_exist x.0 y.0 d (derives_wf g.0 a x.0 d x.1).1 (derives_wf g.0 b y.0 d y.1).1 in
      let z = condition_in g.0 g.1 in
      blamed.untyped (typed_at s g.0 (if_then_else c a b) j.0 d g.1 (t_if z (t_sub x.1 j.1.left) (t_sub y.1 j.1.right)))
    where
      condition_in : (g : Context) → IsLowest s g d → Derives g c bool d
      condition_in g low = narrow g condition.0 c bool d low.wf (low.narrower condition.0 condition.1) (derives condition.0 c bool d condition.2)
