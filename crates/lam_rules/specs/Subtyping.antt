-- The declarative subtyping rules, TAPL chapter 15. This file has to be trusted: compare it with the book.
use Rattle.std.specs.Prelude.{◌≡◌, List, [], ◌∷◌}
use Rattle.lam_rules.specs.Types.{Typ, bool, nat, top, arrow, record_of, Fields, no_fields, field, joined, IsWellFormed}
use Rattle.lam_rules.specs.declared.rules.Dialect.{Dialect}
use Rattle.lam_rules.specs.declared.rules.SubRule.{SubRule}

-- the statement that one type is a subtype of another: `lower <: upper`
pub record Claim : Type 0 where
  pub lower : Typ
  pub upper : Typ

-- the first list begins with the fields of the second
abbrev pub BeginsWith : Fields → Fields → Type 0
BeginsWith fs no_fields = Unit {0}
BeginsWith (field k s fs) (field l t gs) = (k ≡ l) × (s ≡ t) × BeginsWith fs gs
BeginsWith no_fields (field l t gs) = ⊥

-- the same labels in the same order, with a claim for each label that its first type is a subtype of its second
abbrev pub GoesFieldByField : Fields → Fields → List Claim → Type 0
GoesFieldByField no_fields no_fields [] = Unit {0}
GoesFieldByField (field k s fs) (field l t gs) (claim ∷ claims) =
    (k ≡ l) × (claim.lower ≡ s) × (claim.upper ≡ t) × GoesFieldByField fs gs claims
GoesFieldByField _ _ _ = ⊥

-- a permutation: the first field occurs somewhere in the second list, and the others are a permutation of what remains of it
abbrev pub IsPermutation : Fields → Fields → Type 0
IsPermutation no_fields gs = gs ≡ no_fields
IsPermutation (field l t rest) gs =
    (before : Fields) × (after : Fields) × (gs ≡ joined before (field l t after)) × IsPermutation rest (joined before after)

-- The rules: by this rule, the first type is a subtype of the second, given these premises.
abbrev pub BySubRule : SubRule → List Claim → Typ → Typ → Type 0
-- S-Refl, 15.2: S <: S
BySubRule SubRule.Refl [] s t = s ≡ t
-- S-Trans, 15.2: from S <: U and U <: T, S <: T
BySubRule SubRule.Trans (first ∷ second ∷ []) s t = (first.lower ≡ s) × (first.upper ≡ second.lower) × (second.upper ≡ t)
-- S-Top, 15.2: S <: Top
BySubRule SubRule.Top [] s t = t ≡ top
-- S-Arrow, 15.2: from T1 <: S1 and S2 <: T2, S1->S2 <: T1->T2
BySubRule SubRule.Arrow (first ∷ second ∷ []) (arrow s1 s2) (arrow t1 t2) =
    (first.lower ≡ t1) × (first.upper ≡ s1) × (second.lower ≡ s2) × (second.upper ≡ t2)
-- S-RcdWidth, 15.2: {l1:T1, .., ln:Tn, .., ln+k:Tn+k} <: {l1:T1, .., ln:Tn}
BySubRule SubRule.RcdWidth [] (record_of fs) (record_of gs) = BeginsWith fs gs
-- S-RcdDepth, 15.2: from Si <: Ti for each i, {l1:S1, .., ln:Sn} <: {l1:T1, .., ln:Tn}
BySubRule SubRule.RcdDepth premises (record_of fs) (record_of gs) = GoesFieldByField fs gs premises
-- S-RcdPerm, 15.2: {k1:S1, .., kn:Sn} <: {l1:T1, .., ln:Tn} where the one is a permutation of the other
BySubRule SubRule.RcdPerm [] (record_of fs) (record_of gs) = IsPermutation fs gs
-- S-BoolNat, 15.5: Bool <: Nat
BySubRule SubRule.BoolNat [] s t = (s ≡ bool) × (t ≡ nat)
BySubRule _ _ _ _ = ⊥

-- S-BoolNat is a rule of dialect 2 only; all other rules are rules of both dialects
abbrev pub IsRuleOf : SubRule → Dialect → Type 0
IsRuleOf SubRule.BoolNat Dialect.One = ⊥
IsRuleOf _ _ = Unit {0}

-- A tree whose nodes have a rule, a conclusion and premises. It need not be a valid proof.
mutual
  pub data SubTree : Type 0 where
    sub_step : (rule : SubRule) (lower upper : Typ) (premises : SubTrees) → SubTree

  pub data SubTrees : Type 0 where
    no_subs : SubTrees
    sub_first : (first : SubTree) (rest : SubTrees) → SubTrees

-- the conclusion of a tree
abbrev pub conclusion : SubTree → Claim
conclusion (sub_step r s t ps) = record { lower = s; upper = t }

-- the conclusions of several trees
abbrev pub conclusions : SubTrees → List Claim
conclusions no_subs = []
conclusions (sub_first p ps) = conclusion p ∷ conclusions ps

-- A tree is a valid proof if at each node both types have distinct labels at every depth, the rule is one of the dialect, and the conclusion follows by the rule
-- from the conclusions of the premises.
abbrev mutual
  pub IsSubProof : SubTree → Dialect → Type 0
  IsSubProof (sub_step r s t ps) d = IsWellFormed s × IsWellFormed t × IsRuleOf r d × BySubRule r (conclusions ps) s t × AreSubProofs ps d

  pub AreSubProofs : SubTrees → Dialect → Type 0
  AreSubProofs no_subs d = Unit {0}
  AreSubProofs (sub_first p ps) d = IsSubProof p d × AreSubProofs ps d

-- the tree proves that the first type is a subtype of the second
abbrev pub ProvesBelow : SubTree → Typ → Typ → Dialect → Type 0
ProvesBelow p s t d = IsSubProof p d × (conclusion p ≡ record { lower = s; upper = t })

-- the first type is a subtype of the second, as some tree proves
abbrev pub IsBelow : Typ → Typ → Dialect → Type 0
IsBelow s t d = (p : SubTree) × ProvesBelow p s t d
