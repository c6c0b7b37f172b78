-- Nameless terms whose written types are type ids.
use Rattle.std.specs.Prelude.{ℕ, List, Option, Some, None}
use Rattle.std.specs.Option.{option_map}
use Rattle.lam_rules.specs.Types.{Label, Typ}
use Rattle.lam_rules.specs.Numbers.{type_of, Stands}
use Rattle.lam_rules.specs.Terms as rules
use Rattle.lam_rules.specs.Terms.{Term, TermFields}
use Rattle.lam_rules.specs.declared.numbers.TyNo.{TyNo}

-- a term as in the rules, but with a type id for each written type, or none if that stands for no type
mutual
  pub data Numbered : Type 0 where
    true_term : Numbered
    false_term : Numbered
    if_then_else : (condition then_term else_term : Numbered) → Numbered
    numeral : (digits : List ℕ) → Numbered
    succ : (operand : Numbered) → Numbered
    pred : (operand : Numbered) → Numbered
    is_zero : (operand : Numbered) → Numbered
    variable : (index : ℕ) → Numbered
    free : (name : List ℕ) → Numbered
    lambda : (written : Option TyNo) (body : Numbered) → Numbered
    apply : (function argument : Numbered) → Numbered
    unit_term : Numbered
    ascribe : (operand : Numbered) (written : Option TyNo) → Numbered
    let_in : (bound body : Numbered) → Numbered
    record_term : (terms : NumberedFields) → Numbered
    project : (operand : Numbered) (label : Label) → Numbered
    fix : (operand : Numbered) → Numbered

  pub data NumberedFields : Type 0 where
    no_terms : NumberedFields
    term_field : (label : Label) (term : Numbered) (rest : NumberedFields) → NumberedFields

-- the type with this id, if there is one
abbrev pub written_over : List Typ → Option TyNo → Option Typ
written_over ts = option_map (type_of ts)

-- the term over the types of a table
abbrev mutual
  pub term_over : List Typ → Numbered → Term
  term_over ts true_term = rules.true_term
  term_over ts false_term = rules.false_term
  term_over ts (if_then_else c a b) = rules.if_then_else (term_over ts c) (term_over ts a) (term_over ts b)
  term_over ts (numeral digits) = rules.numeral digits
  term_over ts (succ e) = rules.succ (term_over ts e)
  term_over ts (pred e) = rules.pred (term_over ts e)
  term_over ts (is_zero e) = rules.is_zero (term_over ts e)
  term_over ts (variable n) = rules.variable n
  term_over ts (free x) = rules.free x
  term_over ts (lambda w e) = rules.lambda (written_over ts w) (term_over ts e)
  term_over ts (apply f a) = rules.apply (term_over ts f) (term_over ts a)
  term_over ts unit_term = rules.unit_term
  term_over ts (ascribe e w) = rules.ascribe (term_over ts e) (written_over ts w)
  term_over ts (let_in a b) = rules.let_in (term_over ts a) (term_over ts b)
  term_over ts (record_term es) = rules.record_term (terms_over ts es)
  term_over ts (project e l) = rules.project (term_over ts e) l
  term_over ts (fix e) = rules.fix (term_over ts e)

  pub terms_over : List Typ → NumberedFields → TermFields
  terms_over ts no_terms = rules.no_terms
  terms_over ts (term_field l e es) = rules.term_field l (term_over ts e) (terms_over ts es)

-- the type id, if there is one, is that of a type of the table
abbrev pub StandsIfAny : List Typ → Option TyNo → Type 0
StandsIfAny ts None = Unit {0}
StandsIfAny ts (Some number) = Stands ts number

-- each type id of a term is that of a type of the table
abbrev mutual
  pub NumbersStand : List Typ → Numbered → Type 0
  NumbersStand ts true_term = Unit {0}
  NumbersStand ts false_term = Unit {0}
  NumbersStand ts (if_then_else c a b) = NumbersStand ts c × NumbersStand ts a × NumbersStand ts b
  NumbersStand ts (numeral digits) = Unit {0}
  NumbersStand ts (succ e) = NumbersStand ts e
  NumbersStand ts (pred e) = NumbersStand ts e
  NumbersStand ts (is_zero e) = NumbersStand ts e
  NumbersStand ts (variable n) = Unit {0}
  NumbersStand ts (free x) = Unit {0}
  NumbersStand ts (lambda w e) = StandsIfAny ts w × NumbersStand ts e
  NumbersStand ts (apply f a) = NumbersStand ts f × NumbersStand ts a
  NumbersStand ts unit_term = Unit {0}
  NumbersStand ts (ascribe e w) = NumbersStand ts e × StandsIfAny ts w
  NumbersStand ts (let_in a b) = NumbersStand ts a × NumbersStand ts b
  NumbersStand ts (record_term es) = NumbersStandInAll ts es
  NumbersStand ts (project e l) = NumbersStand ts e
  NumbersStand ts (fix e) = NumbersStand ts e

  pub NumbersStandInAll : List Typ → NumberedFields → Type 0
  NumbersStandInAll ts no_terms = Unit {0}
  NumbersStandInAll ts (term_field l e es) = NumbersStand ts e × NumbersStandInAll ts es
