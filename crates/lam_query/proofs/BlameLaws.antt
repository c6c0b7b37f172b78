-- Whether a place is to blame is decided, and for what; so places have one list of blames.
use Rattle.std.proofs.Common.{◌≡◌, ◌⊎◌, ℕ, zero, suc, ◌+◌, List, [], ◌∷◌, Option, Some, None, refl, sym, ap, ◌∙◌, inl, inr}
use Rattle.std.specs.Prelude.{codes}
use Rattle.lam_rules.specs.Types.{Typ, bool, nat, unit, top, arrow, record_of}
use Rattle.lam_rules.specs.Terms.{Term, true_term, false_term, if_then_else, numeral, succ, pred, is_zero, variable, free, lambda, apply, unit_term, ascribe, let_in, record_term, project, fix, TermFields, no_terms, term_field}
use Rattle.lam_rules.specs.Texts.{Text, sorted}
use Rattle.lam_rules.specs.Typing.{Context}
use Rattle.lam_rules.specs.declared.rules.Dialect.{Dialect}
use Rattle.lam_rules.proofs.SharedTexts.{sorted_same}
use Rattle.lam_scope.specs.Places.{written, of_term, Scope, Place}
use Rattle.lam_scope.specs.WellFormed.{IsWellFormedTerm, AreWellFormedTerms, IsWellFormedScope}
use Rattle.lam_typing.specs.Contexts.{IsContext}
use Rattle.lam_typing.specs.LeastTypes.{IsTyped, IsLeastAt}
use Rattle.lam_typing.specs.Blaming.{ArePartsTyped, AreFieldsTyped, HasNoType, IsExcused, IsBlamed, application_code, IsBlamedFor, Blamed, AreBlamed}
use Rattle.lam_typing.proofs.Existing.{exists_at, typed_or_not, lowest_exists}
use Rattle.lam_typing.proofs.WellFormedPlaces.{IsWellFormedPlace, AreWellFormedPlaces}
use Rattle.lam_typing.proofs.NeverBlamed.{true_unblamed, false_unblamed, unit_unblamed, numeral_unblamed, lambda_unblamed, let_unblamed}

-- ---- whether a place is to blame

abbrev IsDecided : Type 0 → Type 0
IsDecided P = P ⊎ (P → ⊥)

both_decided : {P Q : Type 0} → IsDecided P → IsDecided Q → IsDecided (P × Q)
both_decided (inl p) (inl q) = inl (p, q)
both_decided (inl p) (inr n) = inr (λ h. n h.1)
both_decided (inr n) q = inr (λ h. n h.0)

all_decided : {P Q R : Type 0} → IsDecided P → IsDecided Q → IsDecided R → IsDecided (P × Q × R)
all_decided (inl p) (inl q) (inl r) = inl (p, q, r)
all_decided (inl p) (inl q) (inr n) = inr (λ h. n h.2)
all_decided (inl p) (inr n) r = inr (λ h. n h.1)
all_decided (inr n) q r = inr (λ h. n h.0)

-- in each context of a scope the same entries are none
same_gap : (n : ℕ) (s : Scope) (g h : Context) (d : Dialect) → IsContext s g d → IsContext s h d → HasNoType n g → HasNoType n h
same_gap n [] [] h d is other none = absurd none
same_gap n [] (x ∷ g) h d is other none = absurd is
same_gap n (b ∷ outside) [] h d is other none = absurd none
same_gap n (b ∷ outside) (x ∷ g) [] d is other none = absurd other
same_gap zero (written w ∷ outside) (x ∷ g) (y ∷ h) d is other none = other.0 ∙ sym is.0 ∙ none
same_gap zero (of_term e ∷ outside) (Some t ∷ g) (y ∷ h) d is other none = absurd cc
same_gap zero (of_term e ∷ outside) (None ∷ g) (None ∷ h) d is other none = refl
same_gap zero (of_term e ∷ outside) (None ∷ g) (Some u ∷ h) d is other none = absurd (is.0 other.0.0 u other.0.1 other.0.2)
same_gap (suc n) (written w ∷ outside) (x ∷ g) (y ∷ h) d is other none = same_gap n outside g h d is.1 other.1 none
same_gap (suc n) (of_term e ∷ outside) (x ∷ g) (y ∷ h) d is other none = same_gap n outside g h d is.1 other.1 none

gap_or_not : (n : ℕ) (g : Context) → IsDecided (HasNoType n g)
gap_or_not n [] = inr (λ h. h)
gap_or_not zero (None ∷ g) = inl refl
gap_or_not zero (Some t ∷ g) = inr (λ h. cc)
gap_or_not (suc n) (entry ∷ g) = gap_or_not n g

excused_or_not : (d : Dialect) (s : Scope) (e : Term) → IsWellFormedScope s → IsDecided (IsExcused s e d)
excused_or_not d s (variable n) ws = by (gap_or_not n (lowest_exists d s ws).0)
  where
    by : IsDecided (HasNoType n (lowest_exists d s ws).0) → IsDecided (IsExcused s (variable n) d)
    by (inl gap) = inl ((lowest_exists d s ws).0, (lowest_exists d s ws).1.is_context, gap)
    by (inr n') = inr (λ h. n' (same_gap n s h.0 (lowest_exists d s ws).0 d h.1 (lowest_exists d s ws).1.is_context h.2))
excused_or_not d s (lambda None e) ws = inl tt
excused_or_not d s (lambda (Some w) e) ws = inr (λ h. h)
excused_or_not d s (ascribe e None) ws = inl tt
excused_or_not d s (ascribe e (Some w)) ws = inr (λ h. h)
excused_or_not d s true_term ws = inr (λ h. h)
excused_or_not d s false_term ws = inr (λ h. h)
excused_or_not d s unit_term ws = inr (λ h. h)
excused_or_not d s (numeral digits) ws = inr (λ h. h)
excused_or_not d s (free x) ws = inr (λ h. h)
excused_or_not d s (if_then_else c a b) ws = inr (λ h. h)
excused_or_not d s (succ e) ws = inr (λ h. h)
excused_or_not d s (pred e) ws = inr (λ h. h)
excused_or_not d s (is_zero e) ws = inr (λ h. h)
excused_or_not d s (apply f a) ws = inr (λ h. h)
excused_or_not d s (let_in a b) ws = inr (λ h. h)
excused_or_not d s (record_term es) ws = inr (λ h. h)
excused_or_not d s (project e l) ws = inr (λ h. h)
excused_or_not d s (fix e) ws = inr (λ h. h)

module _ (d : Dialect) where
  fields_or_not : (s : Scope) (es : TermFields) → IsWellFormedScope s → AreWellFormedTerms es → IsDecided (AreFieldsTyped s es d)
  fields_or_not s no_terms ws we = inl tt
  fields_or_not s (term_field l e es) ws we = both_decided (typed_or_not d s e ws we.0) (fields_or_not s es ws we.1)

  parts_or_not : (s : Scope) (e : Term) → IsWellFormedScope s → IsWellFormedTerm e → IsDecided (ArePartsTyped s e d)
  parts_or_not s (if_then_else c a b) ws we = all_decided (typed_or_not d s c ws we.0) (typed_or_not d s a ws we.1) (typed_or_not d s b ws we.2)
  parts_or_not s (succ e) ws we = typed_or_not d s e ws we
  parts_or_not s (pred e) ws we = typed_or_not d s e ws we
  parts_or_not s (is_zero e) ws we = typed_or_not d s e ws we
  parts_or_not s (lambda w e) ws we = typed_or_not d (written w ∷ s) e (we.0, ws) we.1
  parts_or_not s (apply f a) ws we = both_decided (typed_or_not d s f ws we.0) (typed_or_not d s a ws we.1)
  parts_or_not s (ascribe e w) ws we = typed_or_not d s e ws we.0
  parts_or_not s (let_in a b) ws we = both_decided (typed_or_not d s a ws we.0) (typed_or_not d (of_term a ∷ s) b (we.0, ws) we.1)
  parts_or_not s (record_term es) ws we = fields_or_not s es ws we
  parts_or_not s (project e l) ws we = typed_or_not d s e ws we
  parts_or_not s (fix e) ws we = typed_or_not d s e ws we
  parts_or_not s true_term ws we = inl tt
  parts_or_not s false_term ws we = inl tt
  parts_or_not s unit_term ws we = inl tt
  parts_or_not s (numeral digits) ws we = inl tt
  parts_or_not s (variable n) ws we = inl tt
  parts_or_not s (free x) ws we = inl tt

  blamed_by : (s : Scope) (e : Term) → IsDecided (IsTyped s e d) → IsDecided (ArePartsTyped s e d) → IsDecided (IsExcused s e d) → IsDecided (IsBlamed s e d)
  blamed_by s e (inl typed) parts excused = inr (λ b. b.untyped typed)
  blamed_by s e (inr untyped) (inr n) excused = inr (λ b. n b.parts)
  blamed_by s e (inr untyped) (inl parts) (inl excused) = inr (λ b. b.unexcused excused)
  blamed_by s e (inr untyped) (inl parts) (inr unexcused) = inl (record { untyped = untyped; parts = parts; unexcused = unexcused })

  blamed_or_not : (s : Scope) (e : Term) → IsWellFormedScope s → IsWellFormedTerm e → IsDecided (IsBlamed s e d)
  blamed_or_not s e ws we = blamed_by s e (typed_or_not d s e ws we) (parts_or_not s e ws we) (excused_or_not d s e ws)

  -- ---- for what

  function_code : (s : Scope) (f a : Term) → IsTyped s f d → (o : Option Typ) × IsLeastAt s f o d → (code : Text) × IsBlamedFor s (apply f a) code d
  function_code s f a typed (Some t, least) = (application_code t, (t, least, refl))
  function_code s f a typed (None, least) = absurd (least typed.0 typed.1)

  some_code : (s : Scope) (e : Term) → IsWellFormedScope s → IsWellFormedTerm e → IsBlamed s e d → (code : Text) × IsBlamedFor s e code d
  some_code s (free x) ws we blamed = (codes "E1", refl)
  some_code s (variable n) ws we blamed = (codes "E1", refl)
  some_code s (apply f a) ws we blamed = function_code s f a blamed.parts.0 (exists_at d s f ws we.0)
  some_code s (project e l) ws we blamed = (codes "E4", refl)
  some_code s (if_then_else c a b) ws we blamed = (codes "E5", refl)
  some_code s (succ e) ws we blamed = (codes "E6", refl)
  some_code s (pred e) ws we blamed = (codes "E6", refl)
  some_code s (is_zero e) ws we blamed = (codes "E6", refl)
  some_code s (ascribe e w) ws we blamed = (codes "E7", refl)
  some_code s (fix e) ws we blamed = (codes "E8", refl)
  some_code s (record_term es) ws we blamed = (codes "E9", refl)
  some_code s true_term ws we blamed = absurd (true_unblamed d s ws blamed)
  some_code s false_term ws we blamed = absurd (false_unblamed d s ws blamed)
  some_code s unit_term ws we blamed = absurd (unit_unblamed d s ws blamed)
  some_code s (numeral digits) ws we blamed = absurd (numeral_unblamed d s digits ws blamed)
  some_code s (lambda w e) ws we blamed = absurd (lambda_unblamed s w e d blamed)
  some_code s (let_in a b) ws we blamed = absurd (let_unblamed d s a b ws we blamed)

  sorted_code : (t : Typ) → application_code (sorted t) ≡ application_code t
  sorted_code (arrow p r) = refl
  sorted_code bool = refl
  sorted_code nat = refl
  sorted_code unit = refl
  sorted_code top = refl
  sorted_code (record_of fs) = refl

  one_function_code : (s : Scope) (f : Term) (t u : Typ) → IsLeastAt s f (Some t) d → IsLeastAt s f (Some u) d → application_code t ≡ application_code u
  one_function_code s f t u a b =
      sym (sorted_code t) ∙ ap application_code (sorted_same t u d (a.1 u b.0) (b.1 t a.0)) ∙ sorted_code u

  one_code : (s : Scope) (e : Term) (x y : Text) → IsBlamedFor s e x d → IsBlamedFor s e y d → x ≡ y
  one_code s (free z) x y a b = a ∙ sym b
  one_code s (variable n) x y a b = a ∙ sym b
  one_code s (apply f e) x y a b = a.2 ∙ one_function_code s f a.0 b.0 a.1 b.1 ∙ sym b.2
  one_code s (project e l) x y a b = a ∙ sym b
  one_code s (if_then_else c t u) x y a b = a ∙ sym b
  one_code s (succ e) x y a b = a ∙ sym b
  one_code s (pred e) x y a b = a ∙ sym b
  one_code s (is_zero e) x y a b = a ∙ sym b
  one_code s (ascribe e w) x y a b = a ∙ sym b
  one_code s (fix e) x y a b = a ∙ sym b
  one_code s (record_term es) x y a b = a ∙ sym b
  one_code s true_term x y a b = absurd a
  one_code s false_term x y a b = absurd a
  one_code s unit_term x y a b = absurd a
  one_code s (numeral digits) x y a b = absurd a
  one_code s (lambda w e) x y a b = absurd a
  one_code s (let_in e f) x y a b = absurd a

  -- ---- place after place

  blames_more : (n : ℕ) (p : Place) (ps : List Place) (rest : List Blamed) → IsWellFormedPlace p → IsDecided (IsBlamed p.scope p.here d) → AreBlamed (n + 1) ps rest d → (all : List Blamed) × AreBlamed n (p ∷ ps) all d
  blames_more n p ps rest wf (inl blamed) are =
      let code = some_code p.scope p.here wf.0 wf.1 blamed in
      (record { number = n; code = code.0 } ∷ rest, inr (code.0, rest, refl, blamed, code.1, are))
  blames_more n p ps rest wf (inr unblamed) are = (rest, inl (unblamed, are))

  pub some_blames : (n : ℕ) (ps : List Place) → AreWellFormedPlaces ps → (blames : List Blamed) × AreBlamed n ps blames d
  some_blames n [] wf = ([], refl)
  some_blames n (p ∷ ps) wf =
      let rest = some_blames (n + 1) ps wf.1 in
      blames_more n p ps rest.0 wf.0 (blamed_or_not p.scope p.here wf.0.0 wf.0.1) rest.1

  pub one_blames : (n : ℕ) (ps : List Place) (xs ys : List Blamed) → AreBlamed n ps xs d → AreBlamed n ps ys d → xs ≡ ys
  one_blames n [] xs ys a b = a ∙ sym b
  one_blames n (p ∷ ps) xs ys (inl a) (inl b) = one_blames (n + 1) ps xs ys a.1 b.1
  one_blames n (p ∷ ps) xs ys (inl a) (inr b) = absurd (a.0 b.3)
  one_blames n (p ∷ ps) xs ys (inr a) (inl b) = absurd (b.0 a.3)
  one_blames n (p ∷ ps) xs ys (inr a) (inr b) =
      let codes_same = one_code p.scope p.here a.0 b.0 a.4 b.4 in
      let rest = one_blames (n + 1) ps a.1 b.1 a.5 b.5 in
      a.2 ∙ (λ i. record { number = n; code = codes_same i } ∷ rest i) ∙ sym b.2
