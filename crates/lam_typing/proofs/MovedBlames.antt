-- Where places are counted from another number, the same ones are to blame.
use Rattle.std.proofs.Common.{ℕ, ◌+◌, List, [], ◌∷◌, Option, ap, subst, inl, inr, arith}
use Rattle.lam_rules.specs.Types.{Typ}
use Rattle.lam_rules.specs.declared.rules.Dialect.{Dialect}
use Rattle.lam_scope.specs.Places.{Place}
use Rattle.lam_typing.specs.Blaming.{Blamed, AreBlamed, renumbered}
use Rattle.lam_typing.specs.Progress.{Shown, Cause, ShownFront}

next_moved : (n k : ℕ) (ps : List Place) (blames : List Blamed) (d : Dialect) → AreBlamed (n + 1 + k) ps blames d → AreBlamed (n + k + 1) ps blames d
next_moved n k ps blames d blamed = subst (λ m. AreBlamed m ps blames d) (omega arith) blamed

pub blamed_moved : (n k : ℕ) (ps : List Place) (blames : List Blamed) (d : Dialect) → AreBlamed n ps blames d → AreBlamed (n + k) ps (renumbered k blames) d
blamed_moved n k [] blames d none = ap (renumbered k) none
blamed_moved n k (p ∷ ps) blames d (inl h) = inl (h.0, next_moved n k ps (renumbered k blames) d (blamed_moved (n + 1) k ps blames d h.1))
blamed_moved n k (p ∷ ps) blames d (inr h) =
    inr (h.0, renumbered k h.1, ap (renumbered k) h.2, h.3, h.4, next_moved n k ps (renumbered k h.1) d (blamed_moved (n + 1) k ps h.1 d h.5))

pub shown_moved : (ps : List Place) (k : ℕ) (found : List (Option Typ)) (blames : List Blamed) (d : Dialect)
    → Shown ps 0 found blames d → Shown ps k found (renumbered k blames) d
shown_moved ps k found blames d shown = record {
  least = shown.least;
  small = shown.small;
  blamed = subst (λ m. AreBlamed m ps (renumbered k blames) d) (omega arith) (blamed_moved 0 k ps blames d shown.blamed);
}

pub stopped_moved : (ps : List Place) (k : ℕ) (found : List (Option Typ)) (blames : List Blamed) (cause : Cause) (d : Dialect)
    → ShownFront ps 0 found blames cause d → ShownFront ps k found (renumbered k blames) cause d
stopped_moved ps k found blames cause d shown = record {
  front = shown.front;
  rest = shown.rest;
  are = shown.are;
  shown = shown_moved shown.front k found blames d shown.shown;
  next = shown.next;
}
