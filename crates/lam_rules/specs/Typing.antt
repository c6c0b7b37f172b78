-- The declarative typing rules, TAPL chapters 8, 9, 11 and 15. This file has to be trusted: compare it with the book.
use Rattle.std.specs.Prelude.{◌≡◌, ℕ, zero, suc, List, [], ◌∷◌, Option, Some, None}
use Rattle.lam_rules.specs.Types.{Label, Typ, bool, nat, unit, arrow, record_of, no_fields, field, Has, IsWellFormed}
use Rattle.lam_rules.specs.Terms.{Term, true_term, false_term, if_then_else, numeral, succ, pred, is_zero, variable, lambda, apply, unit_term, ascribe, let_in, record_term, project, fix, no_terms, term_field}
use Rattle.lam_rules.specs.Subtyping.{SubTree, ProvesBelow}
use Rattle.lam_rules.specs.declared.rules.Dialect.{Dialect}
use Rattle.lam_rules.specs.declared.rules.TypeRule.{TypeRule}

-- A context has an entry for each binder of names, innermost first: its type, or None.
abbrev pub Context : Type 0
Context = List (Option Typ)

-- the entry of the variable with this index is this type
abbrev pub IsEntry : ℕ → Context → Typ → Type 0
IsEntry n [] t = ⊥
IsEntry zero (entry ∷ context) t = entry ≡ Some t
IsEntry (suc n) (entry ∷ context) t = IsEntry n context t

-- the type of an entry, if it has one, has distinct labels at every depth
abbrev pub IsWellFormedEntry : Option Typ → Type 0
IsWellFormedEntry None = Unit {0}
IsWellFormedEntry (Some t) = IsWellFormed t

-- the types in a context have distinct labels at every depth
abbrev pub IsWellFormedContext : Context → Type 0
IsWellFormedContext [] = Unit {0}
IsWellFormedContext (entry ∷ context) = IsWellFormedEntry entry × IsWellFormedContext context

-- the type is a record type with a field of this label and type
abbrev pub HasField : Typ → Label → Typ → Type 0
HasField (record_of fs) l t = Has l t fs
HasField _ l t = ⊥

-- A tree whose nodes have a rule, a type, typing premises, and for T-Sub a subtyping tree. It need not be a valid proof.
mutual
  pub data TypingTree : Type 0 where
    typing_step : (rule : TypeRule) (type : Typ) (premises : TypingTrees) (sub : Option SubTree) → TypingTree

  pub data TypingTrees : Type 0 where
    no_typings : TypingTrees
    typing_first : (first : TypingTree) (rest : TypingTrees) → TypingTrees

-- the type in the conclusion of a tree
abbrev pub type_in : TypingTree → Typ
type_in (typing_step r t ps s) = t

abbrev mutual
  -- A tree proves that a term has a type in a context if all types in it and in the contexts have distinct labels at every depth, and at each node the type follows
  -- by the rule from the premises.
  pub IsTyping : Context → Term → TypingTree → Dialect → Type 0
  IsTyping g e (typing_step r t ps s) d = IsWellFormedContext g × IsWellFormed t × ByTypeRule r s g e t ps d

  -- The rules: by this rule, with this subtyping proof if the rule is T-Sub, the term has the type in the context, given these typing proofs.
  pub ByTypeRule : TypeRule → Option SubTree → Context → Term → Typ → TypingTrees → Dialect → Type 0
  -- T-True, figure 8-1: true : Bool
  ByTypeRule TypeRule.True None g true_term t no_typings d = t ≡ bool
  -- T-False, figure 8-1: false : Bool
  ByTypeRule TypeRule.False None g false_term t no_typings d = t ≡ bool
  -- T-If, figure 8-1: from t1 : Bool, t2 : T and t3 : T, if t1 then t2 else t3 : T
  ByTypeRule TypeRule.If None g (if_then_else e1 e2 e3) t (typing_first p1 (typing_first p2 (typing_first p3 no_typings))) d =
      IsTyping g e1 p1 d × (type_in p1 ≡ bool) × IsTyping g e2 p2 d × (type_in p2 ≡ t) × IsTyping g e3 p3 d × (type_in p3 ≡ t)
  -- T-Num, in place of T-Zero of figure 8-2: each numeral : Nat
  ByTypeRule TypeRule.Num None g (numeral digits) t no_typings d = t ≡ nat
  -- T-Succ, figure 8-2: from t1 : Nat, succ t1 : Nat
  ByTypeRule TypeRule.Succ None g (succ e1) t (typing_first p1 no_typings) d = IsTyping g e1 p1 d × (type_in p1 ≡ nat) × (t ≡ nat)
  -- T-Pred, figure 8-2: from t1 : Nat, pred t1 : Nat
  ByTypeRule TypeRule.Pred None g (pred e1) t (typing_first p1 no_typings) d = IsTyping g e1 p1 d × (type_in p1 ≡ nat) × (t ≡ nat)
  -- T-IsZero, figure 8-2: from t1 : Nat, iszero t1 : Bool
  ByTypeRule TypeRule.IsZero None g (is_zero e1) t (typing_first p1 no_typings) d = IsTyping g e1 p1 d × (type_in p1 ≡ nat) × (t ≡ bool)
  -- T-Var, figure 9-1: from x:T in the context, x : T
  ByTypeRule TypeRule.Var None g (variable n) t no_typings d = IsEntry n g t
  -- T-Abs, figure 9-1: from t2 : T2 in the context with x:T1, lambda x:T1. t2 : T1->T2
  ByTypeRule TypeRule.Abs None g (lambda (Some t1) e2) t (typing_first p2 no_typings) d = IsTyping (Some t1 ∷ g) e2 p2 d × (t ≡ arrow t1 (type_in p2))
  -- T-App, figure 9-1: from t1 : T11->T12 and t2 : T11, t1 t2 : T12
  ByTypeRule TypeRule.App None g (apply e1 e2) t (typing_first p1 (typing_first p2 no_typings)) d =
      IsTyping g e1 p1 d × IsTyping g e2 p2 d × (type_in p1 ≡ arrow (type_in p2) t)
  -- T-Unit, figure 11-2: unit : Unit
  ByTypeRule TypeRule.Unit None g unit_term t no_typings d = t ≡ unit
  -- T-Ascribe, figure 11-3: from t1 : T, t1 as T : T
  ByTypeRule TypeRule.Ascribe None g (ascribe e1 (Some u)) t (typing_first p1 no_typings) d = IsTyping g e1 p1 d × (type_in p1 ≡ u) × (t ≡ u)
  -- T-Let, figure 11-4: from t1 : T1, and t2 : T2 in the context with x:T1, let x = t1 in t2 : T2
  ByTypeRule TypeRule.Let None g (let_in e1 e2) t (typing_first p1 (typing_first p2 no_typings)) d =
      IsTyping g e1 p1 d × IsTyping (Some (type_in p1) ∷ g) e2 p2 d × (type_in p2 ≡ t)
  -- T-Rcd, figure 11-7: from ti : Ti for each i, {l1=t1, .., ln=tn} : {l1:T1, .., ln:Tn}
  ByTypeRule TypeRule.Rcd None g (record_term no_terms) (record_of no_fields) no_typings d = Unit {0}
  ByTypeRule TypeRule.Rcd None g (record_term (term_field k e1 es)) (record_of (field l t1 ts)) (typing_first p1 ps) d =
      (k ≡ l) × IsTyping g e1 p1 d × (type_in p1 ≡ t1) × ByTypeRule TypeRule.Rcd None g (record_term es) (record_of ts) ps d
  -- T-Proj, figure 11-7: from t1 : {l1:T1, .., ln:Tn}, t1.lj : Tj
  ByTypeRule TypeRule.Proj None g (project e1 l) t (typing_first p1 no_typings) d = IsTyping g e1 p1 d × HasField (type_in p1) l t
  -- T-Fix, figure 11-12: from t1 : T1->T1, fix t1 : T1
  ByTypeRule TypeRule.Fix None g (fix e1) t (typing_first p1 no_typings) d = IsTyping g e1 p1 d × (type_in p1 ≡ arrow t t)
  -- T-Sub, figure 15-1: from t : S and S <: T, t : T
  ByTypeRule TypeRule.Sub (Some q) g e t (typing_first p1 no_typings) d = IsTyping g e p1 d × ProvesBelow q (type_in p1) t d
  ByTypeRule _ _ _ _ _ _ _ = ⊥

-- the tree proves that the term has the type in the context
abbrev pub ProvesTyping : TypingTree → Context → Term → Typ → Dialect → Type 0
ProvesTyping p g e t d = IsTyping g e p d × (type_in p ≡ t)

-- the term has the type in the context, as some tree proves
abbrev pub HasType : Context → Term → Typ → Dialect → Type 0
HasType g e t d = (p : TypingTree) × ProvesTyping p g e t d
