-- Terms over the numbers of a table keep what they stand for while the table grows, and are well formed where its types are.
use Rattle.std.proofs.Common.{◌≡◌, ◌⊎◌, inl, inr, ℕ, ◌<◌, ◌≤◌, List, Option, Some, None, length, ap, refl, subst, sym, arith}
use Rattle.std.proofs.lemmas.List.{get_or_past}
use Rattle.std.proofs.lemmas.Bool.{cases_lt}
use Rattle.lam_rules.specs.Types.{Typ, top, IsWellFormed}
use Rattle.lam_rules.specs.Typing.{IsWellFormedEntry}
use Rattle.lam_rules.specs.Numbers.{type_at, Keeps}
use Rattle.lam_rules.specs.Terms as rules
use Rattle.lam_rules.specs.declared.numbers.TyNo.{TyNo}
use Rattle.lam_rules.proofs.Tables.{kept_type, keeps_length}
use Rattle.lam_scope.specs.Numbered.{Numbered, true_term, false_term, if_then_else, numeral, succ, pred, is_zero, variable, free, lambda, apply, unit_term, ascribe, let_in, record_term, project, fix, NumberedFields, no_terms, term_field, term_over, terms_over, written_over, NumbersStand, NumbersStandInAll, StandsIfAny}
use Rattle.lam_scope.specs.InternedViews.{numbered_of, numbered_terms, interned_term, interned_terms, StandIn, StandInTerms}
use Rattle.lam_scope.specs.WellFormed.{IsWellFormedTerm, AreWellFormedTerms}
use Rattle.lam_scope.specs.declared.interned.InternedTerm.{InternedTerm}
use Rattle.lam_scope.specs.declared.interned.InternedField.{InternedField}

-- a table that grows

pub kept_written : (old now : List Typ) (w : Option TyNo) → Keeps old now → StandsIfAny old w → (written_over now w ≡ written_over old w) × StandsIfAny now w
kept_written old now None k h = (refl, tt)
kept_written old now (Some number) k h =
    let longer = keeps_length old now k in
    (ap (λ t. Some t) (kept_type old now number.index k h), omega arith)

mutual
  pub kept_over : (old now : List Typ) (e : Numbered) → Keeps old now → NumbersStand old e → (term_over now e ≡ term_over old e) × NumbersStand now e
  kept_over old now true_term k h = (refl, tt)
  kept_over old now false_term k h = (refl, tt)
  kept_over old now (if_then_else c a b) k h =
      let one = kept_over old now c k h.0 in
      let two = kept_over old now a k h.1 in
      let three = kept_over old now b k h.2 in
      ((λ i. rules.if_then_else (one.0 i) (two.0 i) (three.0 i)), (one.1, two.1, three.1))
  kept_over old now (numeral digits) k h = (refl, tt)
  kept_over old now (succ e) k h = let one = kept_over old now e k h in (ap rules.succ one.0, one.1)
  kept_over old now (pred e) k h = let one = kept_over old now e k h in (ap rules.pred one.0, one.1)
  kept_over old now (is_zero e) k h = let one = kept_over old now e k h in (ap rules.is_zero one.0, one.1)
  kept_over old now (variable n) k h = (refl, tt)
  kept_over old now (free x) k h = (refl, tt)
  kept_over old now (lambda w e) k h =
      let one = kept_written old now w k h.0 in
      let two = kept_over old now e k h.1 in
      ((λ i. rules.lambda (one.0 i) (two.0 i)), (one.1, two.1))
  kept_over old now (apply f a) k h =
      let one = kept_over old now f k h.0 in
      let two = kept_over old now a k h.1 in
      ((λ i. rules.apply (one.0 i) (two.0 i)), (one.1, two.1))
  kept_over old now unit_term k h = (refl, tt)
  kept_over old now (ascribe e w) k h =
      let one = kept_over old now e k h.0 in
      let two = kept_written old now w k h.1 in
      ((λ i. rules.ascribe (one.0 i) (two.0 i)), (one.1, two.1))
  kept_over old now (let_in a b) k h =
      let one = kept_over old now a k h.0 in
      let two = kept_over old now b k h.1 in
      ((λ i. rules.let_in (one.0 i) (two.0 i)), (one.1, two.1))
  kept_over old now (record_term es) k h = let all = kept_all_over old now es k h in (ap rules.record_term all.0, all.1)
  kept_over old now (project e l) k h = let one = kept_over old now e k h in (ap (λ f. rules.project f l) one.0, one.1)
  kept_over old now (fix e) k h = let one = kept_over old now e k h in (ap rules.fix one.0, one.1)

  pub kept_all_over : (old now : List Typ) (es : NumberedFields) → Keeps old now → NumbersStandInAll old es → (terms_over now es ≡ terms_over old es) × NumbersStandInAll now es
  kept_all_over old now no_terms k h = (refl, tt)
  kept_all_over old now (term_field l e es) k h =
      let one = kept_over old now e k h.0 in
      let all = kept_all_over old now es k h.1 in
      ((λ i. rules.term_field l (one.0 i) (all.0 i)), (one.1, all.1))

pub kept : (old now : List Typ) (e : InternedTerm) → Keeps old now → StandIn old e → (interned_term now e ≡ interned_term old e) × StandIn now e
kept old now e k h = kept_over old now (numbered_of e) k h

pub kept_terms : (old now : List Typ) (fs : List InternedField) → Keeps old now → StandInTerms old fs
    → (interned_terms now fs ≡ interned_terms old fs) × StandInTerms now fs
kept_terms old now fs k h = kept_all_over old now (numbered_terms fs) k h

-- the types of the table have distinct labels

-- each type of a table has distinct labels at every depth
abbrev pub EachIsWellFormed : List Typ → Type 0
EachIsWellFormed ts = (i : ℕ) → i < length ts → IsWellFormed (type_at ts i)

number_wf : (ts : List Typ) (n : ℕ) → EachIsWellFormed ts → IsWellFormed (type_at ts n)
number_wf ts n each = by (cases_lt n (length ts))
  where
    by : (n < length ts) ⊎ (length ts ≤ n) → IsWellFormed (type_at ts n)
    by (inl lt) = each n lt
    by (inr le) = subst IsWellFormed (sym (get_or_past ts n top le)) tt

written_wf : (ts : List Typ) (w : Option TyNo) → EachIsWellFormed ts → IsWellFormedEntry (written_over ts w)
written_wf ts None each = tt
written_wf ts (Some number) each = number_wf ts number.index each

mutual
  over_wf : (ts : List Typ) (e : Numbered) → EachIsWellFormed ts → IsWellFormedTerm (term_over ts e)
  over_wf ts true_term each = tt
  over_wf ts false_term each = tt
  over_wf ts (if_then_else c a b) each = (over_wf ts c each, over_wf ts a each, over_wf ts b each)
  over_wf ts (numeral digits) each = tt
  over_wf ts (succ e) each = over_wf ts e each
  over_wf ts (pred e) each = over_wf ts e each
  over_wf ts (is_zero e) each = over_wf ts e each
  over_wf ts (variable n) each = tt
  over_wf ts (free x) each = tt
  over_wf ts (lambda w e) each = (written_wf ts w each, over_wf ts e each)
  over_wf ts (apply f a) each = (over_wf ts f each, over_wf ts a each)
  over_wf ts unit_term each = tt
  over_wf ts (ascribe e w) each = (over_wf ts e each, written_wf ts w each)
  over_wf ts (let_in a b) each = (over_wf ts a each, over_wf ts b each)
  over_wf ts (record_term es) each = all_over_wf ts es each
  over_wf ts (project e l) each = over_wf ts e each
  over_wf ts (fix e) each = over_wf ts e each

  all_over_wf : (ts : List Typ) (es : NumberedFields) → EachIsWellFormed ts → AreWellFormedTerms (terms_over ts es)
  all_over_wf ts no_terms each = tt
  all_over_wf ts (term_field l e es) each = (over_wf ts e each, all_over_wf ts es each)
