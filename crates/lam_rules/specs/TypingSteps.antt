-- The last step of a tree of typing, by itself, and what its premises are about.
use Rattle.std.specs.Prelude.{◌≡◌, List, [], ◌∷◌, Option, Some, None}
use Rattle.std.specs.Option.{option_map}
use Rattle.lam_rules.specs.Types.{Typ, bool, nat, unit, arrow, record_of, no_fields, field, IsWellFormed}
use Rattle.lam_rules.specs.Terms.{Term, true_term, false_term, if_then_else, numeral, succ, pred, is_zero, variable, lambda, apply, unit_term, ascribe, let_in, record_term, project, fix, TermFields, no_terms, term_field}
use Rattle.lam_rules.specs.Subtyping.{Claim, SubTree, conclusion, IsSubProof}
use Rattle.lam_rules.specs.Typing.{Context, IsEntry, HasField, TypingTree, typing_step, TypingTrees, no_typings, typing_first, type_in, IsTyping}
use Rattle.lam_rules.specs.declared.rules.Dialect.{Dialect}
use Rattle.lam_rules.specs.declared.rules.TypeRule.{TypeRule}

-- ---- the last step

-- the types concluded by several trees
abbrev pub types_in : TypingTrees → List Typ
types_in no_typings = []
types_in (typing_first p ps) = type_in p ∷ types_in ps

-- By this rule, with this claim of subtyping if the rule is T-Sub, the term has the type in the context if its parts have these types.
abbrev pub FitsRule : TypeRule → Option Claim → Context → Term → Typ → List Typ → Type 0
FitsRule TypeRule.True None g true_term t [] = t ≡ bool
FitsRule TypeRule.False None g false_term t [] = t ≡ bool
FitsRule TypeRule.If None g (if_then_else e1 e2 e3) t (t1 ∷ t2 ∷ t3 ∷ []) = (t1 ≡ bool) × (t2 ≡ t) × (t3 ≡ t)
FitsRule TypeRule.Num None g (numeral digits) t [] = t ≡ nat
FitsRule TypeRule.Succ None g (succ e1) t (t1 ∷ []) = (t1 ≡ nat) × (t ≡ nat)
FitsRule TypeRule.Pred None g (pred e1) t (t1 ∷ []) = (t1 ≡ nat) × (t ≡ nat)
FitsRule TypeRule.IsZero None g (is_zero e1) t (t1 ∷ []) = (t1 ≡ nat) × (t ≡ bool)
FitsRule TypeRule.Var None g (variable n) t [] = IsEntry n g t
FitsRule TypeRule.Abs None g (lambda (Some t1) e2) t (t2 ∷ []) = t ≡ arrow t1 t2
FitsRule TypeRule.App None g (apply e1 e2) t (t1 ∷ t2 ∷ []) = t1 ≡ arrow t2 t
FitsRule TypeRule.Unit None g unit_term t [] = t ≡ unit
FitsRule TypeRule.Ascribe None g (ascribe e1 (Some u)) t (t1 ∷ []) = (t1 ≡ u) × (t ≡ u)
FitsRule TypeRule.Let None g (let_in e1 e2) t (t1 ∷ t2 ∷ []) = t2 ≡ t
FitsRule TypeRule.Rcd None g (record_term no_terms) (record_of no_fields) [] = Unit {0}
FitsRule TypeRule.Rcd None g (record_term (term_field k e1 es)) (record_of (field l u us)) (t1 ∷ ts) =
    (k ≡ l) × (t1 ≡ u) × FitsRule TypeRule.Rcd None g (record_term es) (record_of us) ts
FitsRule TypeRule.Proj None g (project e1 l) t (t1 ∷ []) = HasField t1 l t
FitsRule TypeRule.Fix None g (fix e1) t (t1 ∷ []) = t1 ≡ arrow t t
FitsRule TypeRule.Sub (Some claim) g e t (t1 ∷ []) = claim ≡ record { lower = t1; upper = t }
FitsRule _ _ _ _ _ _ = ⊥

-- The last step of a tree follows by its rule from the conclusions of its premises, whether these are proved or not; the labels of its type are distinct.
abbrev pub IsTypingStep : Context → Term → TypingTree → Type 0
IsTypingStep g e (typing_step r t ps s) = IsWellFormed t × FitsRule r (option_map conclusion s) g e t (types_in ps)

-- the subtyping tree, if there is one, is a proof
abbrev pub IsSideProof : Option SubTree → Dialect → Type 0
IsSideProof None d = Unit {0}
IsSideProof (Some q) d = IsSubProof q d

-- ---- its premises

-- what a premise is about: a term in a context
pub record Subject : Type 0 where
  pub context : Context
  pub term : Term

abbrev pub about : Context → Term → Subject
about g e = record { context = g; term = e }

-- the terms of a record
abbrev pub fields_in : Context → TermFields → List Subject
fields_in g no_terms = []
fields_in g (term_field l e es) = about g e ∷ fields_in g es

-- the type concluded by the first premise
abbrev pub first_type : TypingTrees → Option Typ
first_type no_typings = None
first_type (typing_first p ps) = Some (type_in p)

-- the parts of a term, each in its context; the name of a let has the type that the first premise concludes
abbrev pub parts_in : Context → Term → (first : Option Typ) → List Subject
parts_in g (if_then_else e1 e2 e3) first = about g e1 ∷ about g e2 ∷ about g e3 ∷ []
parts_in g (succ e) first = about g e ∷ []
parts_in g (pred e) first = about g e ∷ []
parts_in g (is_zero e) first = about g e ∷ []
parts_in g (lambda written e) first = about (written ∷ g) e ∷ []
parts_in g (apply e1 e2) first = about g e1 ∷ about g e2 ∷ []
parts_in g (ascribe e written) first = about g e ∷ []
parts_in g (let_in e1 e2) first = about g e1 ∷ about (first ∷ g) e2 ∷ []
parts_in g (record_term es) first = fields_in g es
parts_in g (project e l) first = about g e ∷ []
parts_in g (fix e) first = about g e ∷ []
parts_in g _ first = []

-- what the premises of a step by this rule are about: the parts of the term or, for T-Sub, the term itself
abbrev pub subjects : TypeRule → Context → Term → (first : Option Typ) → List Subject
subjects TypeRule.Sub g e first = about g e ∷ []
subjects rule g e first = parts_in g e first

-- each of these trees is a proof about the next of these
abbrev pub AreTypings : List Subject → TypingTrees → Dialect → Type 0
AreTypings ss no_typings d = Unit {0}
AreTypings [] (typing_first p ps) d = ⊥
AreTypings (s ∷ ss) (typing_first p ps) d = IsTyping s.context s.term p d × AreTypings ss ps d
