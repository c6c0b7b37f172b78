-- In a document whose written types all stand for types, no place is to blame exactly where each command has a type.
use Rattle.std.proofs.Common.{◌≡◌, ◌⊎◌, ℕ, List, [], ◌∷◌, ◌++◌, Some, None, zero, suc, refl, sym, ◌∙◌, inl, inr}
use Rattle.lam_rules.specs.Types.{Typ, bool, nat, arrow, record_of, Fields}
use Rattle.lam_rules.specs.Terms.{Term, true_term, false_term, if_then_else, numeral, succ, pred, is_zero, variable, free, lambda, apply, unit_term, ascribe, let_in, record_term, project, fix, TermFields, no_terms, term_field}
use Rattle.lam_rules.specs.Typing.{Context}
use Rattle.lam_rules.specs.declared.rules.Dialect.{Dialect}
use Rattle.lam_scope.specs.Places.{written, of_term, Scope, Place, places, field_places, Statement, defines, declares, abbreviates, states, places_of}
use Rattle.lam_typing.specs.Contexts.{IsContext}
use Rattle.lam_typing.specs.LeastTypes.{IsTyped}
use Rattle.lam_typing.specs.Blaming.{ArePartsTyped, AreFieldsTyped, IsExcused, HasNoType, IsBlamed}
use Rattle.lam_scope.specs.WellFormed.{IsWellFormedTerm, AreWellFormedTerms, IsWellFormedScope, AreWellFormedStatements}
use Rattle.lam_scope.specs.Expanded.{HasExpansion, IsExpanded}
use Rattle.lam_scope.proofs.Faultless.{HasExpansions, HaveExpansions}
use Rattle.lam_typing.specs.WellTyped.{AreTyped, AreUnblamed, IsTypedWhereUnblamed}
use Rattle.lam_typing.proofs.Derivations.{Derives, FieldsDerive, derives, has_type}
use Rattle.lam_typing.proofs.Inversions.{of_succ, of_pred, of_is_zero, of_if, of_lambda, of_faulty_lambda, of_apply, of_ascribe, of_faulty_ascribe, of_let, of_record, of_project, of_fix, of_more}
use Rattle.lam_typing.proofs.Existing.{typed_or_not}

-- lists of places

unblamed_both : (ps qs : List Place) (d : Dialect) → AreUnblamed ps d → AreUnblamed qs d → AreUnblamed (ps ++ qs) d
unblamed_both [] qs d hp hq = hq
unblamed_both (p ∷ ps) qs d hp hq = (hp.0, unblamed_both ps qs d hp.1 hq)

unblamed_front : (ps qs : List Place) (d : Dialect) → AreUnblamed (ps ++ qs) d → AreUnblamed ps d
unblamed_front [] qs d h = tt
unblamed_front (p ∷ ps) qs d h = (h.0, unblamed_front ps qs d h.1)

unblamed_back : (ps qs : List Place) (d : Dialect) → AreUnblamed (ps ++ qs) d → AreUnblamed qs d
unblamed_back [] qs d h = h
unblamed_back (p ∷ ps) qs d h = unblamed_back ps qs d h.1

unblamed_last : (ps : List Place) (s : Scope) (e : Term) (d : Dialect) → AreUnblamed (ps ++ record { scope = s; here = e } ∷ []) d → IsBlamed s e d → ⊥
unblamed_last ps s e d h = (unblamed_back ps (record { scope = s; here = e } ∷ []) d h).0

with_here : (ps : List Place) (s : Scope) (e : Term) (d : Dialect) → AreUnblamed ps d → IsTyped s e d → AreUnblamed (ps ++ record { scope = s; here = e } ∷ []) d
with_here ps s e d h typed = unblamed_both ps (record { scope = s; here = e } ∷ []) d h (λ blamed. blamed.untyped typed, tt)

-- a scope each of whose binders has a type, so that no context of it has an entry without one

abbrev IsTypedScope : Scope → Dialect → Type 0
IsTypedScope [] d = Unit {0}
IsTypedScope (written w ∷ outside) d = HasExpansion w × IsTypedScope outside d
IsTypedScope (of_term e ∷ outside) d = IsTyped outside e d × IsTypedScope outside d

no_gap : (n : ℕ) (s : Scope) (g : Context) (d : Dialect) → IsTypedScope s d → IsContext s g d → HasNoType n g → ⊥
no_gap n s [] d typed is none = none
no_gap n [] (entry ∷ g) d typed is none = is
no_gap zero (written None ∷ outside) (entry ∷ g) d typed is none = typed.0
no_gap zero (written (Some w) ∷ outside) (entry ∷ g) d typed is none = let wrong : None ≡ Some w = sym none ∙ is.0 in absurd (cc)
no_gap zero (of_term e ∷ outside) (Some t ∷ g) d typed is none = absurd (cc)
no_gap zero (of_term e ∷ outside) (None ∷ g) d typed is none = is.0 typed.0.1.0 typed.0.0 typed.0.1.1 typed.0.1.2
no_gap (suc n) (written w ∷ outside) (entry ∷ g) d typed is none = no_gap n outside g d typed.1 is.1 none
no_gap (suc n) (of_term e ∷ outside) (entry ∷ g) d typed is none = no_gap n outside g d typed.1 is.1 none

module _ (d : Dialect) where
  -- if the parts have types and the term is neither excused nor to blame, it has a type
  by_parts : (s : Scope) (e : Term) → IsWellFormedScope s → IsWellFormedTerm e → ArePartsTyped s e d → (IsExcused s e d → ⊥) → (IsBlamed s e d → ⊥) → IsTyped s e d
  by_parts s e ws we parts unexcused unblamed = by (typed_or_not d s e ws we)
    where
      by : IsTyped s e d ⊎ (IsTyped s e d → ⊥) → IsTyped s e d
      by (inl typed) = typed
      by (inr untyped) = absurd (unblamed record { untyped = untyped; parts = parts; unexcused = unexcused })

  mutual
    unblamed_typed : (e : Term) (s : Scope) → IsTypedScope s d → IsWellFormedScope s → IsWellFormedTerm e → HasExpansions e → AreUnblamed (places s e) d → IsTyped s e d
    unblamed_typed true_term s ts ws we he u = by_parts s true_term ws we tt (λ x. x) u.0
    unblamed_typed false_term s ts ws we he u = by_parts s false_term ws we tt (λ x. x) u.0
    unblamed_typed unit_term s ts ws we he u = by_parts s unit_term ws we tt (λ x. x) u.0
    unblamed_typed (numeral digits) s ts ws we he u = by_parts s (numeral digits) ws we tt (λ x. x) u.0
    unblamed_typed (free x) s ts ws we he u = by_parts s (free x) ws we tt (λ x. x) u.0
    unblamed_typed (variable n) s ts ws we he u = by_parts s (variable n) ws we tt (λ x. no_gap n s x.0 d ts x.1 x.2) u.0
    unblamed_typed (succ e) s ts ws we he u =
        by_parts s (succ e) ws we (unblamed_typed e s ts ws we he (unblamed_front (places s e) _ d u)) (λ x. x) (unblamed_last (places s e) s (succ e) d u)
    unblamed_typed (pred e) s ts ws we he u =
        by_parts s (pred e) ws we (unblamed_typed e s ts ws we he (unblamed_front (places s e) _ d u)) (λ x. x) (unblamed_last (places s e) s (pred e) d u)
    unblamed_typed (is_zero e) s ts ws we he u =
        by_parts s (is_zero e) ws we (unblamed_typed e s ts ws we he (unblamed_front (places s e) _ d u)) (λ x. x) (unblamed_last (places s e) s (is_zero e) d u)
    unblamed_typed (fix e) s ts ws we he u =
        by_parts s (fix e) ws we (unblamed_typed e s ts ws we he (unblamed_front (places s e) _ d u)) (λ x. x) (unblamed_last (places s e) s (fix e) d u)
    unblamed_typed (project e l) s ts ws we he u =
        by_parts s (project e l) ws we (unblamed_typed e s ts ws we he (unblamed_front (places s e) _ d u)) (λ x. x) (unblamed_last (places s e) s (project e l) d u)
    unblamed_typed (ascribe e None) s ts ws we he u = absurd he.1
    unblamed_typed (ascribe e (Some w)) s ts ws we he u =
        by_parts s (ascribe e (Some w)) ws we (unblamed_typed e s ts ws we.0 he.0 (unblamed_front (places s e) _ d u)) (λ x. x) (unblamed_last (places s e) s (ascribe e (Some w)) d u)
    unblamed_typed (lambda None e) s ts ws we he u = absurd he.0
    unblamed_typed (lambda (Some w) e) s ts ws we he u =
        by_parts s (lambda (Some w) e) ws we
        (unblamed_typed e (written (Some w) ∷ s) (tt, ts) (we.0, ws) we.1 he.1 (unblamed_front (places (written (Some w) ∷ s) e) _ d u))
        (λ x. x)
        (unblamed_last (places (written (Some w) ∷ s) e) s (lambda (Some w) e) d u)
    unblamed_typed (apply f a) s ts ws we he u =
        let parts = unblamed_front (places s f ++ places s a) _ d u in
        by_parts s (apply f a) ws we
        (unblamed_typed f s ts ws we.0 he.0 (unblamed_front (places s f) (places s a) d parts), unblamed_typed a s ts ws we.1 he.1 (unblamed_back (places s f) (places s a) d parts))
        (λ x. x)
        (unblamed_last (places s f ++ places s a) s (apply f a) d u)
    unblamed_typed (let_in a b) s ts ws we he u =
        let parts = unblamed_front (places s a ++ places (of_term a ∷ s) b) _ d u in
        let typed = unblamed_typed a s ts ws we.0 he.0 (unblamed_front (places s a) (places (of_term a ∷ s) b) d parts) in
        by_parts s (let_in a b) ws we
        (typed, unblamed_typed b (of_term a ∷ s) (typed, ts) (we.0, ws) we.1 he.1 (unblamed_back (places s a) (places (of_term a ∷ s) b) d parts))
        (λ x. x)
        (unblamed_last (places s a ++ places (of_term a ∷ s) b) s (let_in a b) d u)
    unblamed_typed (if_then_else c a b) s ts ws we he u =
        let parts = unblamed_front ((places s c ++ places s a) ++ places s b) _ d u in
        let two = unblamed_front (places s c ++ places s a) (places s b) d parts in
        by_parts s (if_then_else c a b) ws we (
          unblamed_typed c s ts ws we.0 he.0 (unblamed_front (places s c) (places s a) d two),
          unblamed_typed a s ts ws we.1 he.1 (unblamed_back (places s c) (places s a) d two),
          unblamed_typed b s ts ws we.2 he.2 (unblamed_back (places s c ++ places s a) (places s b) d parts),
        )
        (λ x. x)
        (unblamed_last ((places s c ++ places s a) ++ places s b) s (if_then_else c a b) d u)
    unblamed_typed (record_term es) s ts ws we he u =
        by_parts s (record_term es) ws we (unblamed_fields es s ts ws we he (unblamed_front (field_places s es) _ d u)) (λ x. x) (unblamed_last (field_places s es) s (record_term es) d u)

    unblamed_fields : (es : TermFields) (s : Scope) → IsTypedScope s d → IsWellFormedScope s → AreWellFormedTerms es → HaveExpansions es → AreUnblamed (field_places s es) d → AreFieldsTyped s es d
    unblamed_fields no_terms s ts ws we he u = tt
    unblamed_fields (term_field l e es) s ts ws we he u =
        (unblamed_typed e s ts ws we.0 he.0 (unblamed_front (places s e) (field_places s es) d u), unblamed_fields es s ts ws we.1 he.1 (unblamed_back (places s e) (field_places s es) d u))

-- the other way: no place of a term that has a type is to blame

typed_by : (s : Scope) (g : Context) (e : Term) (t : Typ) (d : Dialect) → IsContext s g d → Derives g e t d → IsTyped s e d
typed_by s g e t d is x = (t, (g, is, has_type g e t d x))

mutual
  derived_unblamed : (e : Term) (s : Scope) (g : Context) (t : Typ) (d : Dialect) → IsContext s g d → Derives g e t d → AreUnblamed (places s e) d
  derived_unblamed true_term s g t d is x = with_here [] s true_term d tt (typed_by s g true_term t d is x)
  derived_unblamed false_term s g t d is x = with_here [] s false_term d tt (typed_by s g false_term t d is x)
  derived_unblamed unit_term s g t d is x = with_here [] s unit_term d tt (typed_by s g unit_term t d is x)
  derived_unblamed (numeral digits) s g t d is x = with_here [] s (numeral digits) d tt (typed_by s g (numeral digits) t d is x)
  derived_unblamed (variable n) s g t d is x = with_here [] s (variable n) d tt (typed_by s g (variable n) t d is x)
  derived_unblamed (free y) s g t d is x = with_here [] s (free y) d tt (typed_by s g (free y) t d is x)
  derived_unblamed (succ e) s g t d is x = with_here (places s e) s (succ e) d (derived_unblamed e s g nat d is (of_succ g e t d x).0) (typed_by s g (succ e) t d is x)
  derived_unblamed (pred e) s g t d is x = with_here (places s e) s (pred e) d (derived_unblamed e s g nat d is (of_pred g e t d x).0) (typed_by s g (pred e) t d is x)
  derived_unblamed (is_zero e) s g t d is x = with_here (places s e) s (is_zero e) d (derived_unblamed e s g nat d is (of_is_zero g e t d x).0) (typed_by s g (is_zero e) t d is x)
  derived_unblamed (fix e) s g t d is x =
      let h = of_fix g e t d x in
      with_here (places s e) s (fix e) d (derived_unblamed e s g (arrow h.fixed h.fixed) d is h.operand) (typed_by s g (fix e) t d is x)
  derived_unblamed (project e l) s g t d is x =
      let h = of_project g e l t d x in
      with_here (places s e) s (project e l) d (derived_unblamed e s g (record_of h.fields) d is h.operand) (typed_by s g (project e l) t d is x)
  derived_unblamed (ascribe e None) s g t d is x = absurd (of_faulty_ascribe g e t d x)
  derived_unblamed (ascribe e (Some w)) s g t d is x =
      with_here (places s e) s (ascribe e (Some w)) d (derived_unblamed e s g w d is (of_ascribe g e w t d x).0) (typed_by s g (ascribe e (Some w)) t d is x)
  derived_unblamed (lambda None e) s g t d is x = absurd (of_faulty_lambda g e t d x)
  derived_unblamed (lambda (Some w) e) s g t d is x =
      let h = of_lambda g w e t d x in
      with_here (places (written (Some w) ∷ s) e) s (lambda (Some w) e) d
      (derived_unblamed e (written (Some w) ∷ s) (Some w ∷ g) h.outcome d (refl, is) h.body)
      (typed_by s g (lambda (Some w) e) t d is x)
  derived_unblamed (apply f a) s g t d is x =
      let h = of_apply g f a t d x in
      with_here (places s f ++ places s a) s (apply f a) d
      (unblamed_both (places s f) (places s a) d (derived_unblamed f s g (arrow h.parameter h.outcome) d is h.function) (derived_unblamed a s g h.parameter d is h.argument))
      (typed_by s g (apply f a) t d is x)
  derived_unblamed (let_in a b) s g t d is x =
      let h = of_let g a b t d x in
      with_here (places s a ++ places (of_term a ∷ s) b) s (let_in a b) d
      (unblamed_both (places s a) (places (of_term a ∷ s) b) d
      (derived_unblamed a s g h.type_of_bound d is h.bound)
      (derived_unblamed b (of_term a ∷ s) (Some h.type_of_bound ∷ g) t d ((g, is, has_type g a h.type_of_bound d h.bound), is) h.body))
      (typed_by s g (let_in a b) t d is x)
  derived_unblamed (if_then_else c a b) s g t d is x =
      let h = of_if g c a b t d x in
      with_here ((places s c ++ places s a) ++ places s b) s (if_then_else c a b) d
      (unblamed_both (places s c ++ places s a) (places s b) d
      (unblamed_both (places s c) (places s a) d (derived_unblamed c s g bool d is h.condition) (derived_unblamed a s g t d is h.then_term))
      (derived_unblamed b s g t d is h.else_term))
      (typed_by s g (if_then_else c a b) t d is x)
  derived_unblamed (record_term es) s g t d is x =
      let h = of_record g es t d x in
      with_here (field_places s es) s (record_term es) d (derived_fields_unblamed es s g h.fields d is h.derive) (typed_by s g (record_term es) t d is x)

  derived_fields_unblamed : (es : TermFields) (s : Scope) (g : Context) (fs : Fields) (d : Dialect) → IsContext s g d → FieldsDerive g es fs d → AreUnblamed (field_places s es) d
  derived_fields_unblamed no_terms s g fs d is xs = tt
  derived_fields_unblamed (term_field l e es) s g fs d is xs =
      let h = of_more g l e es fs d xs in
      unblamed_both (places s e) (field_places s es) d (derived_unblamed e s g h.0 d is h.3) (derived_fields_unblamed es s g h.1 d is h.4)

typed_unblamed : (s : Scope) (e : Term) (d : Dialect) → IsTyped s e d → AreUnblamed (places s e) d
typed_unblamed s e d (t, is) = derived_unblamed e s is.0 t d is.1 (derives is.0 e t d is.2)

-- statement by statement

commands_unblamed : (s : Scope) (statements : List Statement) (d : Dialect) → AreTyped s statements d → AreUnblamed (places_of s statements) d
commands_unblamed s [] d typed = tt
commands_unblamed s (defines e ∷ rest) d typed =
    unblamed_both (places s e) (places_of (of_term e ∷ s) rest) d (typed_unblamed s e d typed.0) (commands_unblamed (of_term e ∷ s) rest d typed.1)
commands_unblamed s (declares w ∷ rest) d typed = commands_unblamed (written w ∷ s) rest d typed
commands_unblamed s (abbreviates w ∷ rest) d typed = commands_unblamed s rest d typed
commands_unblamed s (states e ∷ rest) d typed =
    unblamed_both (places s e) (places_of s rest) d (typed_unblamed s e d typed.0) (commands_unblamed s rest d typed.1)

module _ (d : Dialect) where
  commands_typed : (s : Scope) (statements : List Statement) → IsTypedScope s d → IsWellFormedScope s → AreWellFormedStatements statements → IsExpanded statements
      → AreUnblamed (places_of s statements) d → AreTyped s statements d
  commands_typed s [] ts ws wss expanded u = tt
  commands_typed s (defines e ∷ rest) ts ws wss expanded u =
      let typed = unblamed_typed d e s ts ws wss.0 expanded.0 (unblamed_front (places s e) (places_of (of_term e ∷ s) rest) d u) in
      (typed, commands_typed (of_term e ∷ s) rest (typed, ts) (wss.0, ws) wss.1 expanded.1 (unblamed_back (places s e) (places_of (of_term e ∷ s) rest) d u))
  commands_typed s (declares w ∷ rest) ts ws wss expanded u = commands_typed (written w ∷ s) rest (expanded.0, ts) (wss.0, ws) wss.1 expanded.1 u
  commands_typed s (abbreviates w ∷ rest) ts ws wss expanded u = commands_typed s rest ts ws wss.1 expanded.1 u
  commands_typed s (states e ∷ rest) ts ws wss expanded u =
      let typed = unblamed_typed d e s ts ws wss.0 expanded.0 (unblamed_front (places s e) (places_of s rest) d u) in
      (typed, commands_typed s rest ts ws wss.1 expanded.1 (unblamed_back (places s e) (places_of s rest) d u))

  pub typed_where_unblamed : (statements : List Statement) → AreWellFormedStatements statements → IsTypedWhereUnblamed statements d
  typed_where_unblamed statements wf expanded = (commands_typed [] statements tt tt wf expanded, commands_unblamed [] statements d)
