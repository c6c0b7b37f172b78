-- Alike terms as a family, a constructor for each form, and the law between it and the recursion on both terms.
use Rattle.std.proofs.Common.{◌≡◌, ℕ, List, ◌∷◌, Option, None, slice_get, refl, sym, subst}
use Rattle.lam_rules.specs.Types.{Label, Typ}
use Rattle.lam_rules.specs.Terms.{Term, true_term, false_term, if_then_else, numeral, succ, pred, is_zero, variable, free, lambda, apply, unit_term, ascribe, let_in, record_term, project, fix, TermFields, no_terms, term_field}
use Rattle.lam_rules.specs.Typing.{Context}
use Rattle.lam_scope.specs.WellFormed.{IsWellFormedTerm, AreWellFormedTerms}
use Rattle.lam_scope.specs.Alike.{AreAlike, AreAlikeTerms}

mutual
  pub data Alike : Context → Term → Context → Term → Type 0 where
    both_true : {g h : Context} → Alike g true_term h true_term
    both_false : {g h : Context} → Alike g false_term h false_term
    both_unit : {g h : Context} → Alike g unit_term h unit_term
    both_numeral : {g h : Context} {digits : List ℕ} → Alike g (numeral digits) h (numeral digits)
    both_free : {g h : Context} {x : List ℕ} → Alike g (free x) h (free x)
    both_variable : {g h : Context} {n m : ℕ} → slice_get g n ≡ slice_get h m → Alike g (variable n) h (variable m)
    both_if : {g h : Context} {c a b x y z : Term}
        → Alike g c h x → Alike g a h y → Alike g b h z → Alike g (if_then_else c a b) h (if_then_else x y z)
    both_succ : {g h : Context} {e f : Term} → Alike g e h f → Alike g (succ e) h (succ f)
    both_pred : {g h : Context} {e f : Term} → Alike g e h f → Alike g (pred e) h (pred f)
    both_is_zero : {g h : Context} {e f : Term} → Alike g e h f → Alike g (is_zero e) h (is_zero f)
    both_lambda : {g h : Context} {w : Option Typ} {e f : Term} → Alike (w ∷ g) e (w ∷ h) f → Alike g (lambda w e) h (lambda w f)
    both_apply : {g h : Context} {a b x y : Term} → Alike g a h x → Alike g b h y → Alike g (apply a b) h (apply x y)
    both_ascribe : {g h : Context} {w : Option Typ} {e f : Term} → Alike g e h f → Alike g (ascribe e w) h (ascribe f w)
    both_let : {g h : Context} {a b x y : Term}
        → Alike g a h x → ((entry : Option Typ) → Alike (entry ∷ g) b (entry ∷ h) y) → Alike g (let_in a b) h (let_in x y)
    both_record : {g h : Context} {es fs : TermFields} → FieldsAlike g es h fs → Alike g (record_term es) h (record_term fs)
    both_project : {g h : Context} {l : Label} {e f : Term} → Alike g e h f → Alike g (project e l) h (project f l)
    both_fix : {g h : Context} {e f : Term} → Alike g e h f → Alike g (fix e) h (fix f)

  pub data FieldsAlike : Context → TermFields → Context → TermFields → Type 0 where
    both_none : {g h : Context} → FieldsAlike g no_terms h no_terms
    both_more : {g h : Context} {l : Label} {e f : Term} {es fs : TermFields}
        → Alike g e h f → FieldsAlike g es h fs → FieldsAlike g (term_field l e es) h (term_field l f fs)

-- from the recursion

mutual
  pub alike : (g : Context) (e : Term) (h : Context) (f : Term) → AreAlike g e h f → Alike g e h f
  alike g true_term h true_term are = both_true
  alike g false_term h false_term are = both_false
  alike g unit_term h unit_term are = both_unit
  alike g (numeral digits) h (numeral others) are = subst (λ x. Alike g (numeral digits) h (numeral x)) are both_numeral
  alike g (free x) h (free y) are = subst (λ z. Alike g (free x) h (free z)) are both_free
  alike g (variable n) h (variable m) are = both_variable are
  alike g (if_then_else c a b) h (if_then_else x y z) are = both_if (alike g c h x are.0) (alike g a h y are.1) (alike g b h z are.2)
  alike g (succ e) h (succ f) are = both_succ (alike g e h f are)
  alike g (pred e) h (pred f) are = both_pred (alike g e h f are)
  alike g (is_zero e) h (is_zero f) are = both_is_zero (alike g e h f are)
  alike g (lambda w e) h (lambda u f) are =
      let body : AreAlike (w ∷ g) e (w ∷ h) f = subst (λ x. AreAlike (w ∷ g) e (x ∷ h) f) (sym are.0) are.1 in
      subst (λ x. Alike g (lambda w e) h (lambda x f)) are.0 (both_lambda (alike (w ∷ g) e (w ∷ h) f body))
  alike g (apply a b) h (apply x y) are = both_apply (alike g a h x are.0) (alike g b h y are.1)
  alike g (ascribe e w) h (ascribe f u) are = subst (λ x. Alike g (ascribe e w) h (ascribe f x)) are.1 (both_ascribe (alike g e h f are.0))
  alike g (let_in a b) h (let_in x y) are = both_let (alike g a h x are.0) (λ entry. alike (entry ∷ g) b (entry ∷ h) y (are.1 entry))
  alike g (record_term es) h (record_term fs) are = both_record (fields_alike g es h fs are)
  alike g (project e l) h (project f k) are = subst (λ x. Alike g (project e l) h (project f x)) are.1 (both_project (alike g e h f are.0))
  alike g (fix e) h (fix f) are = both_fix (alike g e h f are)
  alike g _ h _ are = absurd are

  fields_alike : (g : Context) (es : TermFields) (h : Context) (fs : TermFields) → AreAlikeTerms g es h fs → FieldsAlike g es h fs
  fields_alike g no_terms h no_terms are = both_none
  fields_alike g (term_field l e es) h (term_field k f fs) are =
      let more : FieldsAlike g (term_field l e es) h (term_field l f fs) = both_more (alike g e h f are.1) (fields_alike g es h fs are.2) in
      subst (λ x. FieldsAlike g (term_field l e es) h (term_field x f fs)) are.0 more
  fields_alike g _ h _ are = absurd are

-- to the recursion

mutual
  are_alike : {g h : Context} {e f : Term} → Alike g e h f → AreAlike g e h f
  are_alike both_true = tt
  are_alike both_false = tt
  are_alike both_unit = tt
  are_alike both_numeral = refl
  are_alike both_free = refl
  are_alike (both_variable same) = same
  are_alike (both_if i j k) = (are_alike i, are_alike j, are_alike k)
  are_alike (both_succ i) = are_alike i
  are_alike (both_pred i) = are_alike i
  are_alike (both_is_zero i) = are_alike i
  are_alike (both_lambda i) = (refl, are_alike i)
  are_alike (both_apply i j) = (are_alike i, are_alike j)
  are_alike (both_ascribe i) = (are_alike i, refl)
  are_alike (both_let i j) = (are_alike i, λ entry. are_alike (j entry))
  are_alike (both_record is) = are_fields_alike is
  are_alike (both_project i) = (are_alike i, refl)
  are_alike (both_fix i) = are_alike i

  are_fields_alike : {g h : Context} {es fs : TermFields} → FieldsAlike g es h fs → AreAlikeTerms g es h fs
  are_fields_alike both_none = tt
  are_fields_alike (both_more i is) = (refl, are_alike i, are_fields_alike is)

-- alike in either order

mutual
  pub alike_back : {g h : Context} {e f : Term} → Alike g e h f → Alike h f g e
  alike_back both_true = both_true
  alike_back both_false = both_false
  alike_back both_unit = both_unit
  alike_back both_numeral = both_numeral
  alike_back both_free = both_free
  alike_back (both_variable same) = both_variable (sym same)
  alike_back (both_if i j k) = both_if (alike_back i) (alike_back j) (alike_back k)
  alike_back (both_succ i) = both_succ (alike_back i)
  alike_back (both_pred i) = both_pred (alike_back i)
  alike_back (both_is_zero i) = both_is_zero (alike_back i)
  alike_back (both_lambda i) = both_lambda (alike_back i)
  alike_back (both_apply i j) = both_apply (alike_back i) (alike_back j)
  alike_back (both_ascribe i) = both_ascribe (alike_back i)
  alike_back (both_let i j) = both_let (alike_back i) (λ entry. alike_back (j entry))
  alike_back (both_record is) = both_record (fields_alike_back is)
  alike_back (both_project i) = both_project (alike_back i)
  alike_back (both_fix i) = both_fix (alike_back i)

  fields_alike_back : {g h : Context} {es fs : TermFields} → FieldsAlike g es h fs → FieldsAlike h fs g es
  fields_alike_back both_none = both_none
  fields_alike_back (both_more i is) = both_more (alike_back i) (fields_alike_back is)

pub alike_symmetric : (g h : Context) (e f : Term) → AreAlike g e h f → AreAlike h f g e
alike_symmetric g h e f are = are_alike (alike_back (alike g e h f are))

-- the same types are written in both

mutual
  pub alike_wf : {g h : Context} {e f : Term} → Alike g e h f → IsWellFormedTerm e → IsWellFormedTerm f
  alike_wf both_true we = tt
  alike_wf both_false we = tt
  alike_wf both_unit we = tt
  alike_wf both_numeral we = tt
  alike_wf both_free we = tt
  alike_wf (both_variable same) we = tt
  alike_wf (both_if i j k) we = (alike_wf i we.0, alike_wf j we.1, alike_wf k we.2)
  alike_wf (both_succ i) we = alike_wf i we
  alike_wf (both_pred i) we = alike_wf i we
  alike_wf (both_is_zero i) we = alike_wf i we
  alike_wf (both_lambda i) we = (we.0, alike_wf i we.1)
  alike_wf (both_apply i j) we = (alike_wf i we.0, alike_wf j we.1)
  alike_wf (both_ascribe i) we = (alike_wf i we.0, we.1)
  alike_wf (both_let i j) we = (alike_wf i we.0, alike_wf (j None) we.1)
  alike_wf (both_record is) we = fields_alike_wf is we
  alike_wf (both_project i) we = alike_wf i we
  alike_wf (both_fix i) we = alike_wf i we

  fields_alike_wf : {g h : Context} {es fs : TermFields} → FieldsAlike g es h fs → AreWellFormedTerms es → AreWellFormedTerms fs
  fields_alike_wf both_none we = tt
  fields_alike_wf (both_more i is) we = (alike_wf i we.0, fields_alike_wf is we.1)
