-- Form by form: what a walk records for a term, from what it found for the parts of the term and from the step of its rule.
use Rattle.std.proofs.Common.{◌≡◌, ◌&&◌, ℕ, ◌<◌, ◌≤◌, List, [], ◌∷◌, ◌++◌, length, Option, Some, None, is_some, Bool, true, false, IsTrue, zero, suc, refl, sym, subst, arith, codes}
use Rattle.lam_rules.specs.Types.{Label, Typ, bool, nat, unit, Fields, no_fields, field}
use Rattle.lam_rules.specs.Terms.{Term, true_term, false_term, if_then_else, numeral, succ, pred, is_zero, variable, free, lambda, apply, unit_term, ascribe, let_in, record_term, project, fix, TermFields, no_terms, term_field}
use Rattle.lam_rules.specs.Texts.{Text}
use Rattle.lam_rules.specs.Typing.{Context, IsWellFormedEntry, IsWellFormedContext}
use Rattle.lam_rules.specs.declared.rules.Dialect.{Dialect}
use Rattle.lam_scope.specs.Places.{written, of_term, Scope, places, field_places}
use Rattle.lam_typing.specs.Contexts.{IsContext}
use Rattle.lam_typing.specs.LeastTypes.{IsTyped, IsLeastAt}
use Rattle.lam_typing.specs.Blaming.{ArePartsTyped, AreFieldsTyped, IsExcused, HasNoType, IsBlamedFor, Blamed, AreBlamed}
use Rattle.lam_typing.specs.Progress.{IsLowest, Progress, Went, WentOver, blame_step, IsApplicationCode, AreFieldsAt, if_all}
use Rattle.lam_typing.specs.inner.Steps.{entry_at, IsNumeric, NatRule, LambdaRule, ApplyRule, AscribeRule, LetRule, IfRule, FixRule, ProjectRule, RecordRule}
use Rattle.lam_typing.proofs.LeastIn.{LeastIn, lowest_written, lowest_some, lowest_none, least_at, least_in}
use Rattle.lam_typing.proofs.LeastSteps.{true_least, false_least, unit_least, num_least, free_least, variable_least, succ_least, pred_least, is_zero_least, lambda_least, apply_least, ascribe_least, let_least, if_least, fix_least, project_least, LeastFields, none_least, more_least, record_least}
use Rattle.lam_typing.proofs.NeverBlamed.{lambda_unblamed, let_typed}
use Rattle.lam_typing.proofs.Together.{IsReady, went_none, went_both, went_under, here_blamed, unblamed_here}

-- a part has a type exactly where one was found
found_typed : (s : Scope) (e : Term) (x : Option Typ) (d : Dialect) → IsLeastAt s e x d → IsTrue (is_some x) → IsTyped s e d
found_typed s e (Some t) d least p = (t, least.0)
found_typed s e None d least p = absurd (cc)

typed_found : (s : Scope) (e : Term) (x : Option Typ) (d : Dialect) → IsLeastAt s e x d → IsTyped s e d → IsTrue (is_some x)
typed_found s e (Some t) d least typed = refl
typed_found s e None d least typed = absurd (least typed.0 typed.1)

both : (a b : Bool) → IsTrue a → IsTrue b → IsTrue (a && b)
both true true p q = refl
both false b p q = absurd (cc)
both true false p q = absurd (cc)

first_of_both : (a b : Bool) → IsTrue (a && b) → IsTrue a
first_of_both true b p = refl
first_of_both false b p = absurd (cc)

second_of_both : (a b : Bool) → IsTrue (a && b) → IsTrue b
second_of_both true b p = p
second_of_both false b p = absurd (cc)

-- terms without parts

leaf_ready : (g : Context) (e : Term) (now : Progress) (o : Option Typ) (blames : List Blamed) (d : Dialect)
    → ((s : Scope) → IsLowest s g d → IsLeastAt s e o d)
    → ((s : Scope) → IsLowest s g d → AreBlamed (length now.found) (record { scope = s; here = e } ∷ []) blames d)
    → IsReady g e (λ s. []) now now o blames d
leaf_ready g e now o blames d least blamed = record { went = went_none g now d; least = least; blamed = blamed }

typed_ready : (g : Context) (e : Term) (now : Progress) (t : Typ) (d : Dialect) → (IsWellFormedContext g → LeastIn g e (Some t) d) → IsReady g e (λ s. []) now now (Some t) [] d
typed_ready g e now t d least_here = leaf_ready g e now (Some t) [] d least (λ s low. unblamed_here (length now.found) s e d (λ blamed. blamed.untyped (t, (least s low).0)))
  where
    least : (s : Scope) → IsLowest s g d → IsLeastAt s e (Some t) d
    least s low = least_at s g e (Some t) d low (least_here low.wf)

pub true_ready : (g : Context) (now : Progress) (d : Dialect) → IsReady g true_term (λ s. []) now now (Some bool) [] d
true_ready g now d = typed_ready g true_term now bool d (true_least g d)

pub false_ready : (g : Context) (now : Progress) (d : Dialect) → IsReady g false_term (λ s. []) now now (Some bool) [] d
false_ready g now d = typed_ready g false_term now bool d (false_least g d)

pub unit_ready : (g : Context) (now : Progress) (d : Dialect) → IsReady g unit_term (λ s. []) now now (Some unit) [] d
unit_ready g now d = typed_ready g unit_term now unit d (unit_least g d)

pub numeral_ready : (g : Context) (digits : List ℕ) (now : Progress) (d : Dialect) → IsReady g (numeral digits) (λ s. []) now now (Some nat) [] d
numeral_ready g digits now d = typed_ready g (numeral digits) now nat d (num_least g digits d)

pub free_ready : (g : Context) (x : List ℕ) (now : Progress) (d : Dialect)
    → IsReady g (free x) (λ s. []) now now None (record { number = length now.found; code = codes "E1" } ∷ []) d
free_ready g x now d = leaf_ready g (free x) now None _ d least (λ s low. here_blamed (length now.found) s (free x) true None (codes "E1") d (least s low) (λ p. (tt, λ h. h)) (λ p q. refl) (λ e p. refl))
  where
    least : (s : Scope) → IsLowest s g d → IsLeastAt s (free x) None d
    least s low = least_at s g (free x) None d low (free_least g x d)

-- a variable

pub no_type_within : (n : ℕ) (g : Context) → n < length g → entry_at n g ≡ None → HasNoType n g
no_type_within n [] lt e = absurd (omega arith)
no_type_within zero (entry ∷ g) lt e = e
no_type_within (suc n) (entry ∷ g) lt e = no_type_within n g (omega arith) e

pub entry_beyond : (n : ℕ) (g : Context) → length g ≤ n → entry_at n g ≡ None
entry_beyond n [] le = refl
entry_beyond zero (entry ∷ g) le = absurd (omega arith)
entry_beyond (suc n) (entry ∷ g) le = entry_beyond n g (omega arith)

pub has_no_type_within : (n : ℕ) (g : Context) → HasNoType n g → n < length g
has_no_type_within n [] h = absurd h
has_no_type_within zero (entry ∷ g) h = omega arith
has_no_type_within (suc n) (entry ∷ g) h = let lt = has_no_type_within n g h in omega arith

pub context_length : (s : Scope) (g : Context) (d : Dialect) → IsContext s g d → length g ≡ length s
context_length [] [] d is = refl
context_length (b ∷ s) (entry ∷ g) d is = let e = context_length s g d is.1 in omega arith
context_length [] (entry ∷ g) d is = absurd is
context_length (b ∷ s) [] d is = absurd is

variable_within : (g : Context) (n : ℕ) (o : Option Typ) (now : Progress) (d : Dialect) → n < length g → o ≡ entry_at n g → IsReady g (variable n) (λ s. []) now now o [] d
variable_within g n (Some t) now d lt e = typed_ready g (variable n) now t d (λ wf. variable_least g n (Some t) d wf e)
variable_within g n None now d lt e =
    leaf_ready g (variable n) now None [] d
    (λ s low. least_at s g (variable n) None d low (variable_least g n None d low.wf e))
    (λ s low. unblamed_here (length now.found) s (variable n) d (λ blamed. blamed.unexcused (g, low.is_context, no_type_within n g lt (sym e))))

pub variable_ready : (g : Context) (n : ℕ) (o : Option Typ) (now : Progress) (d : Dialect) → n < length g → o ≡ entry_at n g → IsReady g (variable n) (λ s. []) now now o [] d
variable_ready g n o now d lt e = variable_within g n o now d lt e

pub unbound_ready : (g : Context) (n : ℕ) (now : Progress) (d : Dialect) → length g ≤ n
    → IsReady g (variable n) (λ s. []) now now None (record { number = length now.found; code = codes "E1" } ∷ []) d
unbound_ready g n now d le = leaf_ready g (variable n) now None _ d least (λ s low. here_blamed (length now.found) s (variable n) true None (codes "E1") d (least s low) (λ p. (tt, unexcused s low)) (λ p q. refl) (λ e p. refl))
  where
    least : (s : Scope) → IsLowest s g d → IsLeastAt s (variable n) None d
    least s low = least_at s g (variable n) None d low (variable_least g n None d low.wf (sym (entry_beyond n g le)))

    unexcused : (s : Scope) → IsLowest s g d → IsExcused s (variable n) d → ⊥
    unexcused s low excused =
        let here = context_length s g d low.is_context in
        let there = context_length s excused.0 d excused.1 in
        let lt = has_no_type_within n excused.0 excused.2 in
        omega arith

-- terms with one part, which are to blame if the part has a type and they have none

one_ready : (g : Context) (e part : Term) (old mid : Progress) (x o : Option Typ) (code : Text) (d : Dialect)
    → WentOver g part old mid x d
    → ((s : Scope) → IsLowest s g d → LeastIn g part x d → LeastIn g e o d)
    → ((s : Scope) → IsTyped s part d → ArePartsTyped s e d × (IsExcused s e d → ⊥))
    → ((s : Scope) → ArePartsTyped s e d → IsTyped s part d)
    → ((s : Scope) → IsBlamedFor s e code d)
    → IsReady g e (λ s. places s part) old mid o (blame_step (length mid.found) (is_some x) o code) d
one_ready g e part old mid x o code d over step there back why = record {
  went = over.went;
  least = least;
  blamed = λ s low.
      here_blamed (length mid.found) s e (is_some x) o code d (least s low)
      (λ p. there s (found_typed s part x d (over.least s low) p))
      (λ parts unexcused. typed_found s part x d (over.least s low) (back s parts))
      (λ none p. why s);
}
  where
    least : (s : Scope) → IsLowest s g d → IsLeastAt s e o d
    least s low = least_at s g e o d low (step s low (least_in s g part x d low (over.least s low)))

module _ (g : Context) (e : Term) (old mid : Progress) (x o : Option Typ) (d : Dialect) (over : WentOver g e old mid x d) where
  abbrev Ready : Term → Type 0
  Ready q = IsReady g q (λ s. places s e) old mid o (blame_step (length mid.found) (is_some x) o (codes "E6")) d

  -- an operation on a number
  pub numeric_ready : (q : Term) (t : Typ) → IsNumeric q e t → NatRule t x o d → Ready q
  numeric_ready (succ p) t is rule =
      subst (λ r. Ready (succ r)) (sym is.0) (one_ready g (succ e) e old mid x o (codes "E6") d over (λ s low least. succ_least g e x o d least (subst (λ u. NatRule u x o d) is.1 rule)) (λ s typed. (typed, λ h. h)) (λ s typed. typed) (λ s. refl))
  numeric_ready (pred p) t is rule =
      subst (λ r. Ready (pred r)) (sym is.0) (one_ready g (pred e) e old mid x o (codes "E6") d over (λ s low least. pred_least g e x o d least (subst (λ u. NatRule u x o d) is.1 rule)) (λ s typed. (typed, λ h. h)) (λ s typed. typed) (λ s. refl))
  numeric_ready (is_zero p) t is rule =
      subst (λ r. Ready (is_zero r)) (sym is.0) (one_ready g (is_zero e) e old mid x o (codes "E6") d over (λ s low least. is_zero_least g e x o d least (subst (λ u. NatRule u x o d) is.1 rule)) (λ s typed. (typed, λ h. h)) (λ s typed. typed) (λ s. refl))
  numeric_ready _ t is rule = absurd is

  pub fix_ready : FixRule x o d → IsReady g (fix e) (λ s. places s e) old mid o (blame_step (length mid.found) (is_some x) o (codes "E8")) d
  fix_ready rule = one_ready g (fix e) e old mid x o (codes "E8") d over (λ s low least. fix_least g e x o d least rule) (λ s typed. (typed, λ h. h)) (λ s typed. typed) (λ s. refl)

  pub project_ready : (l : Label) → ProjectRule l x o → IsReady g (project e l) (λ s. places s e) old mid o (blame_step (length mid.found) (is_some x) o (codes "E4")) d
  project_ready l rule = one_ready g (project e l) e old mid x o (codes "E4") d over (λ s low least. project_least g e l x o d least rule) (λ s typed. (typed, λ h. h)) (λ s typed. typed) (λ s. refl)

  -- an ascription is excused where what is written stands for no type
  pub ascribe_ready : (w : Option Typ) → AscribeRule w x o d → IsReady g (ascribe e w) (λ s. places s e) old mid o (blame_step (length mid.found) (is_some x && is_some w) o (codes "E7")) d
  ascribe_ready w rule = record {
    went = over.went;
    least = least;
    blamed = λ s low.
        here_blamed (length mid.found) s (ascribe e w) (is_some x && is_some w) o (codes "E7") d (least s low)
        (λ p. (found_typed s e x d (over.least s low) (first_of_both (is_some x) (is_some w) p), unexcused w (second_of_both (is_some x) (is_some w) p) s))
        (λ typed n. both (is_some x) (is_some w) (typed_found s e x d (over.least s low) typed) (is_written w s n))
        (λ none p. refl);
  }
    where
      least : (s : Scope) → IsLowest s g d → IsLeastAt s (ascribe e w) o d
      least s low = least_at s g (ascribe e w) o d low (ascribe_least g e w x o d (least_in s g e x d low (over.least s low)) rule)

      unexcused : (w : Option Typ) → IsTrue (is_some w) → (s : Scope) → IsExcused s (ascribe e w) d → ⊥
      unexcused (Some t) p s h = h
      unexcused None p s h = absurd (cc)

      is_written : (w : Option Typ) (s : Scope) → (IsExcused s (ascribe e w) d → ⊥) → IsTrue (is_some w)
      is_written (Some t) s n = refl
      is_written None s n = absurd (n tt)

-- a lambda and a let are never to blame

pub lambda_ready : (g : Context) (w : Option Typ) (e : Term) (old mid : Progress) (y o : Option Typ) (d : Dialect)
    → IsWellFormedEntry w → WentOver (w ∷ g) e old mid y d → LambdaRule w y o → IsReady g (lambda w e) (λ s. places (written w ∷ s) e) old mid o [] d
lambda_ready g w e old mid y o d wf over rule = record {
  went = went_under (written w) w g (λ s. places s e) old mid d lower over.went;
  least = λ s low. least_at s g (lambda w e) o d low (lambda_least g w e y o d (least_in (written w ∷ s) (w ∷ g) e y d (lower s low) (over.least (written w ∷ s) (lower s low))) rule);
  blamed = λ s low. unblamed_here (length mid.found) s (lambda w e) d (lambda_unblamed s w e d);
}
  where
    lower : (s : Scope) → IsLowest s g d → IsLowest (written w ∷ s) (w ∷ g) d
    lower s low = lowest_written w s w g d wf refl low

-- the scope of a let's second term
pub lowest_let : (a : Term) (g : Context) (x : Option Typ) (d : Dialect) → ((s : Scope) → IsLowest s g d → IsLeastAt s a x d)
    → (s : Scope) → IsLowest s g d → IsLowest (of_term a ∷ s) (x ∷ g) d
lowest_let a g (Some t) d least s low = lowest_some a s t g d (least_in s g a (Some t) d low (least s low)) low
lowest_let a g None d least s low = lowest_none a s g d (least_in s g a None d low (least s low)) low

pub let_ready : (g : Context) (a b : Term) (old mid now : Progress) (x y o : Option Typ) (d : Dialect)
    → WentOver g a old mid x d → WentOver (x ∷ g) b mid now y d → LetRule x y o → IsReady g (let_in a b) (λ s. places s a ++ places (of_term a ∷ s) b) old now o [] d
let_ready g a b old mid now x y o d over_a over_b rule = record {
  went = went_both g (λ s. places s a) (λ s. places (of_term a ∷ s) b) old mid now d over_a.went (went_under (of_term a) x g (λ s. places s b) mid now d lower over_b.went);
  least = λ s low. least_at s g (let_in a b) o d low (let_least g a b x y o d low.wf (least_in s g a x d low (over_a.least s low)) (body s low) rule);
  blamed = λ s low. unblamed_here (length now.found) s (let_in a b) d
      (λ blamed. blamed.untyped (let_typed d s g a b x low (least_in s g a x d low (over_a.least s low)) blamed.parts.0 blamed.parts.1));
}
  where
    lower : (s : Scope) → IsLowest s g d → IsLowest (of_term a ∷ s) (x ∷ g) d
    lower = lowest_let a g x d over_a.least

    body : (s : Scope) → IsLowest s g d → LeastIn (x ∷ g) b y d
    body s low = least_in (of_term a ∷ s) (x ∷ g) b y d (lower s low) (over_b.least (of_term a ∷ s) (lower s low))

-- terms with several parts in one scope

pub apply_ready : (g : Context) (f a : Term) (old mid now : Progress) (x y o : Option Typ) (code : Text) (d : Dialect)
    → WentOver g f old mid x d → WentOver g a mid now y d → ApplyRule x y o d → IsApplicationCode code x
    → IsReady g (apply f a) (λ s. places s f ++ places s a) old now o (blame_step (length now.found) (is_some x && is_some y) o code) d
apply_ready g f a old mid now x y o code d over_f over_a rule is_code = record {
  went = went_both g (λ s. places s f) (λ s. places s a) old mid now d over_f.went over_a.went;
  least = least;
  blamed = λ s low.
      here_blamed (length now.found) s (apply f a) (is_some x && is_some y) o code d (least s low)
      (λ p. (
        (found_typed s f x d (over_f.least s low) (first_of_both (is_some x) (is_some y) p), found_typed s a y d (over_a.least s low) (second_of_both (is_some x) (is_some y) p)),
        λ h. h,
      ))
      (λ typed n. both (is_some x) (is_some y) (typed_found s f x d (over_f.least s low) typed.0) (typed_found s a y d (over_a.least s low) typed.1))
      (λ none p. why x is_code s (over_f.least s low) (first_of_both (is_some x) (is_some y) p));
}
  where
    least : (s : Scope) → IsLowest s g d → IsLeastAt s (apply f a) o d
    least s low = least_at s g (apply f a) o d low (apply_least g f a d x y o (least_in s g f x d low (over_f.least s low)) (least_in s g a y d low (over_a.least s low)) rule)

    why : (x : Option Typ) → IsApplicationCode code x → (s : Scope) → IsLeastAt s f x d → IsTrue (is_some x) → IsBlamedFor s (apply f a) code d
    why (Some t) is s least p = (t, least, is)
    why None is s least p = absurd (cc)

pub if_ready : (g : Context) (e1 e2 e3 : Term) (p0 p1 p2 p3 : Progress) (x y z o : Option Typ) (d : Dialect)
    → WentOver g e1 p0 p1 x d → WentOver g e2 p1 p2 y d → WentOver g e3 p2 p3 z d → IfRule x y z o d
    → IsReady g (if_then_else e1 e2 e3) (λ s. (places s e1 ++ places s e2) ++ places s e3) p0 p3 o (blame_step (length p3.found) (is_some x && (is_some y && is_some z)) o (codes "E5")) d
if_ready g e1 e2 e3 p0 p1 p2 p3 x y z o d over1 over2 over3 rule = record {
  went = went_both g (λ s. places s e1 ++ places s e2) (λ s. places s e3) p0 p2 p3 d (went_both g (λ s. places s e1) (λ s. places s e2) p0 p1 p2 d over1.went over2.went) over3.went;
  least = least;
  blamed = λ s low.
      here_blamed (length p3.found) s (if_then_else e1 e2 e3) (is_some x && (is_some y && is_some z)) o (codes "E5") d (least s low)
      (λ p.
      let q = second_of_both (is_some x) (is_some y && is_some z) p in (
        (
          found_typed s e1 x d (over1.least s low) (first_of_both (is_some x) (is_some y && is_some z) p),
          found_typed s e2 y d (over2.least s low) (first_of_both (is_some y) (is_some z) q),
          found_typed s e3 z d (over3.least s low) (second_of_both (is_some y) (is_some z) q),
        ),
        λ h. h,
      ))
      (λ typed n. both (is_some x) (is_some y && is_some z) (typed_found s e1 x d (over1.least s low) typed.0) (both (is_some y) (is_some z) (typed_found s e2 y d (over2.least s low) typed.1) (typed_found s e3 z d (over3.least s low) typed.2)))
      (λ none p. refl);
}
  where
    least : (s : Scope) → IsLowest s g d → IsLeastAt s (if_then_else e1 e2 e3) o d
    least s low = least_at s g (if_then_else e1 e2 e3) o d low
        (if_least g e1 e2 e3 x y z o d (least_in s g e1 x d low (over1.least s low)) (least_in s g e2 y d low (over2.least s low)) (least_in s g e3 z d low (over3.least s low)) rule)

-- the terms of a record

pub fields_least : (s : Scope) (g : Context) (es : TermFields) (y : Option Fields) (d : Dialect) → IsLowest s g d → AreFieldsAt s es y d → LeastFields g es y d
fields_least s g no_terms y d low is = subst (λ o. LeastFields g no_terms o d) (sym is) (none_least g d low.wf)
fields_least s g (term_field l e es) y d low (x, z, least, rest, rule) = more_least g l e es x z y d (least_in s g e x d low least) (fields_least s g es z d low rest) rule

fields_typed : (s : Scope) (es : TermFields) (fs : Fields) (d : Dialect) → AreFieldsAt s es (Some fs) d → AreFieldsTyped s es d
fields_typed s no_terms fs d is = tt
fields_typed s (term_field l e es) fs d (Some t, Some gs, least, rest, rule) = ((t, least.0), fields_typed s es gs d rest)
fields_typed s (term_field l e es) fs d (None, z, least, rest, rule) = absurd (let wrong : Some fs ≡ None = rule in cc)
fields_typed s (term_field l e es) fs d (Some t, None, least, rest, rule) = absurd (let wrong : Some fs ≡ None = rule in cc)

typed_fields : (s : Scope) (es : TermFields) (d : Dialect) → AreFieldsTyped s es d → AreFieldsAt s es None d → ⊥
typed_fields s no_terms d typed is = absurd (let wrong : None ≡ Some no_fields = is in cc)
typed_fields s (term_field l e es) d typed (None, z, least, rest, rule) = least typed.0.0 typed.0.1
typed_fields s (term_field l e es) d typed (Some t, None, least, rest, rule) = typed_fields s es d typed.1 rest
typed_fields s (term_field l e es) d typed (Some t, Some gs, least, rest, rule) = absurd (let wrong : None ≡ Some (field l t gs) = rule in cc)

pub record_ready : (g : Context) (es : TermFields) (old mid : Progress) (all : Bool) (fs : Fields) (o : Option Typ) (d : Dialect)
    → Went g (λ s. field_places s es) old mid d → ((s : Scope) → IsLowest s g d → AreFieldsAt s es (if_all all fs) d) → RecordRule (if_all all fs) o
    → IsReady g (record_term es) (λ s. field_places s es) old mid o (blame_step (length mid.found) all o (codes "E9")) d
record_ready g es old mid all fs o d went fields rule = record {
  went = went;
  least = least;
  blamed = λ s low.
      here_blamed (length mid.found) s (record_term es) all o (codes "E9") d (least s low)
      (λ p. (all_typed all s (fields s low) p, λ h. h))
      (λ typed n. all_found all s (fields s low) typed)
      (λ none p. refl);
}
  where
    least : (s : Scope) → IsLowest s g d → IsLeastAt s (record_term es) o d
    least s low = least_at s g (record_term es) o d low (record_least g es (if_all all fs) o d (fields_least s g es (if_all all fs) d low (fields s low)) rule)

    all_typed : (all : Bool) (s : Scope) → AreFieldsAt s es (if_all all fs) d → IsTrue all → AreFieldsTyped s es d
    all_typed true s is p = fields_typed s es fs d is
    all_typed false s is p = absurd (cc)

    all_found : (all : Bool) (s : Scope) → AreFieldsAt s es (if_all all fs) d → AreFieldsTyped s es d → IsTrue all
    all_found true s is typed = refl
    all_found false s is typed = absurd (typed_fields s es d typed is)
