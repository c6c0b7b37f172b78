-- Nameless terms as plain trees: what a `Core` represents.
use Rattle.std.specs.Prelude.{ℕ, List, Option}
use Rattle.lam_rules.specs.Types.{Label, Typ}

-- The terms of TAPL chapters 8, 9 and 11. A variable is its de Bruijn index: the number of binders of names between it and its own.
-- A lambda or an ascription has the type written there, or None if what is written does not denote a type.
mutual
  pub data Term : Type 0 where
    true_term : Term
    false_term : Term
    if_then_else : (condition then_term else_term : Term) → Term
    numeral : (digits : List ℕ) → Term
    succ : (operand : Term) → Term
    pred : (operand : Term) → Term
    is_zero : (operand : Term) → Term
    variable : (index : ℕ) → Term
    free : (name : List ℕ) → Term
    lambda : (written : Option Typ) (body : Term) → Term
    apply : (function argument : Term) → Term
    unit_term : Term
    ascribe : (operand : Term) (written : Option Typ) → Term
    let_in : (bound body : Term) → Term
    record_term : (terms : TermFields) → Term
    project : (operand : Term) (label : Label) → Term
    fix : (operand : Term) → Term

  pub data TermFields : Type 0 where
    no_terms : TermFields
    term_field : (label : Label) (term : Term) (rest : TermFields) → TermFields

-- TAPL 11.11: letrec x:T = t1 in t2 abbreviates let x = fix (lambda x:T. t1) in t2
abbrev pub letrec_in : Option Typ → Term → Term → Term
letrec_in written bound body = let_in (fix (lambda written bound)) body
