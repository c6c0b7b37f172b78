-- Least types in one context: that of the least entries. What is least there is least over all contexts of the scope.
use Rattle.std.proofs.Common.{◌≡◌, [], ◌∷◌, Option, Some, None, sym, subst}
use Rattle.lam_rules.specs.Types.{Typ}
use Rattle.lam_rules.specs.Terms.{Term}
use Rattle.lam_rules.specs.Subtyping.{IsBelow}
use Rattle.lam_rules.specs.Typing.{Context, IsWellFormedEntry}
use Rattle.lam_rules.specs.declared.rules.Dialect.{Dialect}
use Rattle.lam_rules.proofs.Composing.{below_refl}
use Rattle.lam_scope.specs.Places.{Binding, written, of_term, Scope}
use Rattle.lam_typing.specs.Contexts.{IsContext}
use Rattle.lam_typing.specs.LeastTypes.{IsTyped, IsLeastAt}
use Rattle.lam_scope.specs.WellFormed.{IsWellFormedScope}
use Rattle.lam_typing.specs.Progress.{IsLowest}
use Rattle.lam_typing.specs.Narrowing.{IsNarrowerEntry, IsNarrower}
use Rattle.lam_typing.proofs.Derivations.{Derives, derives, has_type, derives_wf}
use Rattle.lam_typing.proofs.Narrows.{narrow}

-- a type that the rules derive in the context and that is below each other one that they derive there; none, where they derive none
abbrev pub LeastIn : Context → Term → Option Typ → Dialect → Type 0
LeastIn g e (Some t) d = Derives g e t d × ((u : Typ) → Derives g e u d → IsBelow t u d)
LeastIn g e None d = (u : Typ) → Derives g e u d → ⊥

-- each entry is the least one that fits, in the context of those outside of it
abbrev pub LeastEntry : Binding → Context → Option Typ → Dialect → Type 0
LeastEntry (written w) g entry d = entry ≡ w
LeastEntry (of_term e) g entry d = LeastIn g e entry d

abbrev pub LeastContext : Scope → Context → Dialect → Type 0
LeastContext [] [] d = Unit {0}
LeastContext (b ∷ outside) (entry ∷ g) d = LeastEntry b g entry d × LeastContext outside g d
LeastContext [] (entry ∷ g) d = ⊥
LeastContext (b ∷ outside) [] d = ⊥

-- such a context is the lowest

narrower_same : (entry other w : Option Typ) (d : Dialect) → IsWellFormedEntry w → entry ≡ w → other ≡ w → IsNarrowerEntry entry other d
narrower_same entry other None d wf a b = subst (λ x. IsNarrowerEntry entry x d) (sym b) tt
narrower_same entry other (Some t) d wf a b = subst (λ x. IsNarrowerEntry x other d) (sym a) (subst (λ x. IsNarrowerEntry (Some t) x d) (sym b) (below_refl t d wf))

pub lowest_written : (w : Option Typ) (outside : Scope) (entry : Option Typ) (g : Context) (d : Dialect)
    → IsWellFormedEntry w → entry ≡ w → IsLowest outside g d → IsLowest (written w ∷ outside) (entry ∷ g) d
lowest_written w outside entry g d wf is low = record {
  wf = (subst IsWellFormedEntry (sym is) wf, low.wf);
  is_context = (is, low.is_context);
  narrower = go;
}
  where
    go : (h : Context) → IsContext (written w ∷ outside) h d → IsNarrower (entry ∷ g) h d
    go [] c = absurd c
    go (other ∷ h) c = (narrower_same entry other w d wf is c.0, low.narrower h c.1)

pub lowest_some : (e : Term) (outside : Scope) (t : Typ) (g : Context) (d : Dialect)
    → LeastIn g e (Some t) d → IsLowest outside g d → IsLowest (of_term e ∷ outside) (Some t ∷ g) d
lowest_some e outside t g d least low = record {
  wf = ((derives_wf g e t d least.0).1, low.wf);
  is_context = ((g, low.is_context, has_type g e t d least.0), low.is_context);
  narrower = go;
}
  where
    go : (h : Context) → IsContext (of_term e ∷ outside) h d → IsNarrower (Some t ∷ g) h d
    go [] c = absurd c
    go (None ∷ h) c = (tt, low.narrower h c.1)
    go (Some u ∷ h) c = (least.1 u (narrow g c.0.0 e u d low.wf (low.narrower c.0.0 c.0.1) (derives c.0.0 e u d c.0.2)), low.narrower h c.1)

pub lowest_none : (e : Term) (outside : Scope) (g : Context) (d : Dialect)
    → LeastIn g e None d → IsLowest outside g d → IsLowest (of_term e ∷ outside) (None ∷ g) d
lowest_none e outside g d least low = record {
  wf = (tt, low.wf);
  is_context = (λ h t c has. least t (narrow g h e t d low.wf (low.narrower h c) (derives h e t d has)), low.is_context);
  narrower = go;
}
  where
    go : (h : Context) → IsContext (of_term e ∷ outside) h d → IsNarrower (None ∷ g) h d
    go [] c = absurd c
    go (None ∷ h) c = (tt, low.narrower h c.1)
    go (Some u ∷ h) c = absurd (least u (narrow g c.0.0 e u d low.wf (low.narrower c.0.0 c.0.1) (derives c.0.0 e u d c.0.2)))

pub lowest : (s : Scope) (g : Context) (d : Dialect) → IsWellFormedScope s → LeastContext s g d → IsLowest s g d
lowest [] [] d wf least = record { wf = tt; is_context = tt; narrower = go }
  where
    go : (h : Context) → IsContext [] h d → IsNarrower [] h d
    go [] c = tt
    go (other ∷ h) c = absurd c
lowest (written w ∷ outside) (entry ∷ g) d wf least = lowest_written w outside entry g d wf.0 least.0 (lowest outside g d wf.1 least.1)
lowest (of_term e ∷ outside) (Some t ∷ g) d wf least = lowest_some e outside t g d least.0 (lowest outside g d wf.1 least.1)
lowest (of_term e ∷ outside) (None ∷ g) d wf least = lowest_none e outside g d least.0 (lowest outside g d wf.1 least.1)
lowest [] (entry ∷ g) d wf least = absurd least
lowest (b ∷ outside) [] d wf least = absurd least

-- least in that context, and least over all of them

pub least_at : (s : Scope) (g : Context) (e : Term) (o : Option Typ) (d : Dialect) → IsLowest s g d → LeastIn g e o d → IsLeastAt s e o d
least_at s g e (Some t) d low least = (
  (g, low.is_context, has_type g e t d least.0),
  λ u is. least.1 u (narrow g is.0 e u d low.wf (low.narrower is.0 is.1) (derives is.0 e u d is.2)),
)
least_at s g e None d low least = λ u is. least u (narrow g is.0 e u d low.wf (low.narrower is.0 is.1) (derives is.0 e u d is.2))

pub least_in : (s : Scope) (g : Context) (e : Term) (o : Option Typ) (d : Dialect) → IsLowest s g d → IsLeastAt s e o d → LeastIn g e o d
least_in s g e (Some t) d low least =
    let is = least.0 in
    (narrow g is.0 e t d low.wf (low.narrower is.0 is.1) (derives is.0 e t d is.2), λ u x. least.1 u (g, low.is_context, has_type g e u d x))
least_in s g e None d low least = λ u x. least u (g, low.is_context, has_type g e u d x)

-- a type in some context of the scope, and in that of least entries

pub typed_in : (s : Scope) (g : Context) (e : Term) (d : Dialect) → IsLowest s g d → IsTyped s e d → (t : Typ) × Derives g e t d
typed_in s g e d low (t, is) = (t, narrow g is.0 e t d low.wf (low.narrower is.0 is.1) (derives is.0 e t d is.2))

pub typed_at : (s : Scope) (g : Context) (e : Term) (t : Typ) (d : Dialect) → IsLowest s g d → Derives g e t d → IsTyped s e d
typed_at s g e t d low x = (t, (g, low.is_context, has_type g e t d x))

-- what is least is a type with distinct labels
pub least_wf : (g : Context) (e : Term) (o : Option Typ) (d : Dialect) → LeastIn g e o d → IsWellFormedEntry o
least_wf g e None d least = tt
least_wf g e (Some t) d least = (derives_wf g e t d least.0).1
