-- Among the places of a term without a type is one that is to blame or excused.
use Rattle.std.proofs.Common.{◌≡◌, ◌⊎◌, ℕ, ◌<◌, ◌≤◌, List, [], ◌∷◌, ◌++◌, length, Option, Some, None, refl, sym, inl, inr, arith}
use Rattle.std.proofs.lemmas.Bool.{cases_lt}
use Rattle.std.proofs.lemmas.List.Elements.{Contains-append_left, Contains-append_right, Contains-push}
use Rattle.lam_rules.specs.Types.{Typ}
use Rattle.lam_rules.specs.Terms.{Term, true_term, false_term, if_then_else, numeral, succ, pred, is_zero, variable, free, lambda, apply, unit_term, ascribe, let_in, record_term, project, fix, TermFields, no_terms, term_field}
use Rattle.lam_rules.specs.Typing.{Context}
use Rattle.lam_rules.specs.declared.rules.Dialect.{Dialect}
use Rattle.lam_scope.specs.Places.{written, of_term, Scope, Place, places, field_places}
use Rattle.lam_scope.specs.WellFormed.{IsWellFormedTerm, AreWellFormedTerms, IsWellFormedScope}
use Rattle.lam_typing.specs.LeastTypes.{IsTyped}
use Rattle.lam_typing.specs.Blaming.{ArePartsTyped, AreFieldsTyped, IsExcused, IsBlamed}
use Rattle.lam_typing.specs.Causes.{HasCause}
use Rattle.lam_typing.specs.Progress.{IsLowest}
use Rattle.lam_typing.specs.inner.Steps.{entry_at}
use Rattle.lam_typing.proofs.Existing.{lowest_exists, typed_or_not}
use Rattle.lam_typing.proofs.Forms.{no_type_within, has_no_type_within, context_length}
use Rattle.lam_typing.proofs.LeastIn.{least_at, typed_at}
use Rattle.lam_typing.proofs.LeastSteps.{variable_least}

-- among more places

cause_front : (ps qs : List Place) (d : Dialect) → HasCause ps d → HasCause (ps ++ qs) d
cause_front ps qs d h = record { place = h.place; among = Contains-append_left ps qs h.place h.among; untyped = h.untyped; cause = h.cause }

cause_back : (ps qs : List Place) (d : Dialect) → HasCause qs d → HasCause (ps ++ qs) d
cause_back ps qs d h = record { place = h.place; among = Contains-append_right ps qs h.place h.among; untyped = h.untyped; cause = h.cause }

-- the place of the term itself, which comes last
own_cause : (ps : List Place) (s : Scope) (e : Term) (d : Dialect) → (IsTyped s e d → ⊥) → IsBlamed s e d ⊎ IsExcused s e d → HasCause (ps ++ record { scope = s; here = e } ∷ []) d
own_cause ps s e d untyped cause = record {
  place = record { scope = s; here = e };
  among = Contains-push ps (record { scope = s; here = e });
  untyped = untyped;
  cause = cause;
}

-- a claim holds, or there is a cause among these places
abbrev OrCause : Type 0 → List Place → Dialect → Type 0
OrCause A ps d = A ⊎ HasCause ps d

both : {A B : Type 0} (ps qs : List Place) (d : Dialect) → OrCause A ps d → OrCause B qs d → OrCause (A × B) (ps ++ qs) d
both ps qs d (inl a) (inl b) = inl (a, b)
both ps qs d (inl a) (inr cause) = inr (cause_back ps qs d cause)
both ps qs d (inr cause) b = inr (cause_front ps qs d cause)

three : {A B C : Type 0} (ps qs rs : List Place) (d : Dialect) → OrCause A ps d → OrCause B qs d → OrCause C rs d → OrCause (A × B × C) ((ps ++ qs) ++ rs) d
three ps qs rs d (inl a) (inl b) (inl c) = inl (a, b, c)
three ps qs rs d (inr cause) b c = inr (cause_front (ps ++ qs) rs d (cause_front ps qs d cause))
three ps qs rs d (inl a) (inr cause) c = inr (cause_front (ps ++ qs) rs d (cause_back ps qs d cause))
three ps qs rs d (inl a) (inl b) (inr cause) = inr (cause_back (ps ++ qs) rs d cause)

-- a use of a binder, by the entry in the context of least entries

use_settled : (o : Option Typ) (s : Scope) (g : Context) (n : ℕ) (d : Dialect) → IsLowest s g d → o ≡ entry_at n g → OrCause (IsTyped s (variable n) d) (record { scope = s; here = variable n } ∷ []) d
use_settled (Some t) s g n d low e = inl (typed_at s g (variable n) t d low (variable_least g n (Some t) d low.wf e).0)
use_settled None s g n d low e = inr (own_cause [] s (variable n) d untyped (by (cases_lt n (length g))))
  where
    untyped : IsTyped s (variable n) d → ⊥
    untyped typed = least_at s g (variable n) None d low (variable_least g n None d low.wf e) typed.0 typed.1

    by : (n < length g) ⊎ (length g ≤ n) → IsBlamed s (variable n) d ⊎ IsExcused s (variable n) d
    by (inl lt) = inr (g, low.is_context, no_type_within n g lt (sym e))
    by (inr le) = inl record { untyped = untyped; parts = tt; unexcused = unexcused }
      where
        unexcused : IsExcused s (variable n) d → ⊥
        unexcused excused =
            let here = context_length s g d low.is_context in
            let there = context_length s excused.0 d excused.1 in
            let lt = has_no_type_within n excused.0 excused.2 in
            absurd (omega arith)

module _ (d : Dialect) where
  -- the term itself, where its parts have types or there is a cause among their places
  settled : (ps : List Place) (s : Scope) (e : Term) → IsWellFormedScope s → IsWellFormedTerm e → IsExcused s e d ⊎ (IsExcused s e d → ⊥) → OrCause (ArePartsTyped s e d) ps d
      → OrCause (IsTyped s e d) (ps ++ record { scope = s; here = e } ∷ []) d
  settled ps s e ws we excused parts = by (typed_or_not d s e ws we) parts excused
    where
      by : IsTyped s e d ⊎ (IsTyped s e d → ⊥) → OrCause (ArePartsTyped s e d) ps d → IsExcused s e d ⊎ (IsExcused s e d → ⊥) → OrCause (IsTyped s e d) (ps ++ record { scope = s; here = e } ∷ []) d
      by (inl typed) parts excused = inl typed
      by (inr untyped) (inr cause) excused = inr (cause_front ps (record { scope = s; here = e } ∷ []) d cause)
      by (inr untyped) (inl parts) (inl excused) = inr (own_cause ps s e d untyped (inr excused))
      by (inr untyped) (inl parts) (inr unexcused) = inr (own_cause ps s e d untyped (inl record { untyped = untyped; parts = parts; unexcused = unexcused }))

  mutual
    typed_or_cause : (e : Term) (s : Scope) → IsWellFormedScope s → IsWellFormedTerm e → OrCause (IsTyped s e d) (places s e) d
    typed_or_cause true_term s ws we = settled [] s true_term ws we (inr (λ x. x)) (inl tt)
    typed_or_cause false_term s ws we = settled [] s false_term ws we (inr (λ x. x)) (inl tt)
    typed_or_cause unit_term s ws we = settled [] s unit_term ws we (inr (λ x. x)) (inl tt)
    typed_or_cause (numeral digits) s ws we = settled [] s (numeral digits) ws we (inr (λ x. x)) (inl tt)
    typed_or_cause (free x) s ws we = settled [] s (free x) ws we (inr (λ x. x)) (inl tt)
    typed_or_cause (variable n) s ws we = let g = lowest_exists d s ws in use_settled (entry_at n g.0) s g.0 n d g.1 refl
    typed_or_cause (succ e) s ws we = settled (places s e) s (succ e) ws we (inr (λ x. x)) (typed_or_cause e s ws we)
    typed_or_cause (pred e) s ws we = settled (places s e) s (pred e) ws we (inr (λ x. x)) (typed_or_cause e s ws we)
    typed_or_cause (is_zero e) s ws we = settled (places s e) s (is_zero e) ws we (inr (λ x. x)) (typed_or_cause e s ws we)
    typed_or_cause (fix e) s ws we = settled (places s e) s (fix e) ws we (inr (λ x. x)) (typed_or_cause e s ws we)
    typed_or_cause (project e l) s ws we = settled (places s e) s (project e l) ws we (inr (λ x. x)) (typed_or_cause e s ws we)
    typed_or_cause (ascribe e None) s ws we = settled (places s e) s (ascribe e None) ws we (inl tt) (typed_or_cause e s ws we.0)
    typed_or_cause (ascribe e (Some w)) s ws we = settled (places s e) s (ascribe e (Some w)) ws we (inr (λ x. x)) (typed_or_cause e s ws we.0)
    typed_or_cause (lambda None e) s ws we = settled (places (written None ∷ s) e) s (lambda None e) ws we (inl tt) (typed_or_cause e (written None ∷ s) (we.0, ws) we.1)
    typed_or_cause (lambda (Some w) e) s ws we = settled (places (written (Some w) ∷ s) e) s (lambda (Some w) e) ws we (inr (λ x. x)) (typed_or_cause e (written (Some w) ∷ s) (we.0, ws) we.1)
    typed_or_cause (apply f a) s ws we =
        settled (places s f ++ places s a) s (apply f a) ws we (inr (λ x. x)) (both (places s f) (places s a) d (typed_or_cause f s ws we.0) (typed_or_cause a s ws we.1))
    typed_or_cause (let_in a b) s ws we =
        settled (places s a ++ places (of_term a ∷ s) b) s (let_in a b) ws we (inr (λ x. x))
        (both (places s a) (places (of_term a ∷ s) b) d (typed_or_cause a s ws we.0) (typed_or_cause b (of_term a ∷ s) (we.0, ws) we.1))
    typed_or_cause (if_then_else c a b) s ws we =
        settled ((places s c ++ places s a) ++ places s b) s (if_then_else c a b) ws we (inr (λ x. x))
        (three (places s c) (places s a) (places s b) d (typed_or_cause c s ws we.0) (typed_or_cause a s ws we.1) (typed_or_cause b s ws we.2))
    typed_or_cause (record_term es) s ws we = settled (field_places s es) s (record_term es) ws we (inr (λ x. x)) (fields_or_cause es s ws we)

    fields_or_cause : (es : TermFields) (s : Scope) → IsWellFormedScope s → AreWellFormedTerms es → OrCause (AreFieldsTyped s es d) (field_places s es) d
    fields_or_cause no_terms s ws we = inl tt
    fields_or_cause (term_field l e es) s ws we = both (places s e) (field_places s es) d (typed_or_cause e s ws we.0) (fields_or_cause es s ws we.1)

  pub untyped_cause : (s : Scope) (e : Term) → IsWellFormedScope s → IsWellFormedTerm e → (IsTyped s e d → ⊥) → HasCause (places s e) d
  untyped_cause s e ws we untyped = by (typed_or_cause e s ws we)
    where
      by : OrCause (IsTyped s e d) (places s e) d → HasCause (places s e) d
      by (inl typed) = absurd (untyped typed)
      by (inr cause) = cause
