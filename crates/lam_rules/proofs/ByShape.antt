-- Subtyping by the shape of the types, without rules for reflexivity and transitivity: it follows from each proof by the rules.
use Rattle.std.proofs.Common.{List, [], ◌∷◌, ap, sym, ◌∙◌, refl, subst, inl, inr}
use Rattle.lam_rules.specs.Types.{Label, Typ, bool, nat, unit, top, arrow, record_of, Fields, no_fields, field, Has, IsWellFormed}
use Rattle.lam_rules.specs.Subtyping.{Claim, BeginsWith, GoesFieldByField, BySubRule, IsRuleOf, SubTree, sub_step, SubTrees, no_subs, sub_first, conclusion, conclusions, IsSubProof, AreSubProofs, IsBelow}
use Rattle.lam_rules.specs.declared.rules.Dialect.{Dialect}
use Rattle.lam_rules.specs.declared.rules.SubRule.{SubRule}
use Rattle.lam_rules.proofs.Permutations.{permutation_has_back}

-- one type is below another, part by part; each field above has a field below with its label
mutual
  pub data Under : Dialect → Typ → Typ → Type 0 where
    under_bool : {d : Dialect} → Under d bool bool
    under_nat : {d : Dialect} → Under d nat nat
    under_unit : {d : Dialect} → Under d unit unit
    under_top : {d : Dialect} (s : Typ) → Under d s top
    under_arrow : {d : Dialect} {s1 s2 t1 t2 : Typ} → Under d t1 s1 → Under d s2 t2 → Under d (arrow s1 s2) (arrow t1 t2)
    under_record : {d : Dialect} {fs gs : Fields} → FieldsUnder d fs gs → Under d (record_of fs) (record_of gs)
    under_bool_nat : Under Dialect.Two bool nat

  pub data FieldsUnder : Dialect → Fields → Fields → Type 0 where
    fields_none : {d : Dialect} (fs : Fields) → FieldsUnder d fs no_fields
    fields_more : {d : Dialect} {fs gs : Fields} {l : Label} (s : Typ) {t : Typ} → Has l s fs → Under d s t → FieldsUnder d fs gs → FieldsUnder d fs (field l t gs)

-- a field above has one below
pub field_under : (d : Dialect) (fs gs : Fields) → FieldsUnder d fs gs → (l : Label) (t : Typ) → Has l t gs → (s : Typ) × Has l s fs × Under d s t
field_under d fs no_fields u l t has = absurd has
field_under d fs (field k v gs) (fields_more s here down more) l t (inl e) = (s, (rw (sym e.0) here), (rw (sym e.1) down))
field_under d fs (field k v gs) (fields_more s here down more) l t (inr has) = field_under d fs gs more l t has

-- the other way: it is enough that each field above has one below
pub fields_under : (d : Dialect) (fs gs : Fields) → ((l : Label) (t : Typ) → Has l t gs → (s : Typ) × Has l s fs × Under d s t) → FieldsUnder d fs gs
fields_under d fs no_fields each = fields_none fs
fields_under d fs (field l t gs) each =
    let here = each l t (inl (refl, refl)) in
    fields_more here.0 here.1 here.2 (fields_under d fs gs (λ k u has. each k u (inr has)))

-- reflexivity, part by part
mutual
  pub under_refl : (d : Dialect) (t : Typ) → Under d t t
  under_refl d bool = under_bool
  under_refl d nat = under_nat
  under_refl d unit = under_unit
  under_refl d top = under_top top
  under_refl d (arrow s t) = under_arrow (under_refl d s) (under_refl d t)
  under_refl d (record_of fs) = under_record (fields_under d fs fs (each_refl d fs))

  each_refl : (d : Dialect) (fs : Fields) (l : Label) (t : Typ) → Has l t fs → (s : Typ) × Has l s fs × Under d s t
  each_refl d no_fields l t has = absurd has
  each_refl d (field k u fs) l t (inl e) = (u, (inl (e.0, refl)), (rw (sym e.1) (under_refl d u)))
  each_refl d (field k u fs) l t (inr has) = let found = each_refl d fs l t has in (found.0, inr found.1, found.2)

-- transitivity, by induction on the middle type
abbrev Passes : Dialect → Typ → Type 0
Passes d u = (s t : Typ) → Under d s u → Under d u t → Under d s t

abbrev PassesAt : Dialect → Fields → Type 0
PassesAt d us = (l : Label) (u : Typ) → Has l u us → Passes d u

through_arrow : (d : Dialect) (u1 u2 : Typ) → Passes d u1 → Passes d u2 → (s t : Typ) → Under d s (arrow u1 u2) → Under d (arrow u1 u2) t → Under d s t
through_arrow d u1 u2 p1 p2 _ _ (under_arrow {s1 = s1} {s2 = s2} a b) (under_arrow {t1 = t1} {t2 = t2} x y) = under_arrow (p1 t1 s1 x a) (p2 s2 t2 b y)
through_arrow d u1 u2 p1 p2 s t a (under_top _) = under_top s

through_record : (d : Dialect) (us : Fields) → PassesAt d us → (s t : Typ) → Under d s (record_of us) → Under d (record_of us) t → Under d s t
through_record d us passes _ _ (under_record {fs = fs} a) (under_record {gs = gs} b) =
    under_record (fields_under d fs gs (λ l t has.
    let above = field_under d us gs b l t has in
    let below = field_under d fs us a l above.0 above.1 in
    (below.0, below.1, passes l above.0 above.1 below.0 t below.2 above.2)))
through_record d us passes s t a (under_top _) = under_top s

through_bool : (d : Dialect) → (s t : Typ) → Under d s bool → Under d bool t → Under d s t
through_bool d _ t under_bool b = b

through_nat : (d : Dialect) → (s t : Typ) → Under d s nat → Under d nat t → Under d s t
through_nat d _ t under_nat b = b
through_nat _ _ _ under_bool_nat under_nat = under_bool_nat
through_nat _ _ _ under_bool_nat (under_top _) = under_top bool

through_unit : (d : Dialect) → (s t : Typ) → Under d s unit → Under d unit t → Under d s t
through_unit d _ t under_unit b = b

through_top : (d : Dialect) → (s t : Typ) → Under d s top → Under d top t → Under d s t
through_top d s _ a (under_top _) = under_top s

mutual
  pub passes : (d : Dialect) (u : Typ) → Passes d u
  passes d bool = through_bool d
  passes d nat = through_nat d
  passes d unit = through_unit d
  passes d top = through_top d
  passes d (arrow u1 u2) = through_arrow d u1 u2 (passes d u1) (passes d u2)
  passes d (record_of us) = through_record d us (passes_at d us)

  passes_at : (d : Dialect) (us : Fields) → PassesAt d us
  passes_at d no_fields l u has = absurd has
  passes_at d (field k v us) l u (inl e) = rw (sym e.1) (passes d v)
  passes_at d (field k v us) l u (inr has) = passes_at d us l u has

-- each rule, part by part

begins_has : (fs gs : Fields) → BeginsWith fs gs → (l : Label) (t : Typ) → Has l t gs → Has l t fs
begins_has fs no_fields h l t has = absurd has
begins_has (field k s fs) (field j u gs) h l t (inl e) = inl (h.0 ∙ e.0, h.1 ∙ e.1)
begins_has (field k s fs) (field j u gs) h l t (inr has) = inr (begins_has fs gs h.2 l t has)
begins_has no_fields (field j u gs) h l t has = absurd h

-- what each of several claims says
abbrev AllUnder : Dialect → List Claim → Type 0
AllUnder d [] = Unit {0}
AllUnder d (c ∷ cs) = Under d c.lower c.upper × AllUnder d cs

depth_under : (d : Dialect) (fs gs : Fields) (cs : List Claim) → GoesFieldByField fs gs cs → AllUnder d cs → FieldsUnder d fs gs
depth_under d no_fields no_fields [] h us = fields_none no_fields
depth_under d (field k s fs) (field l t gs) (c ∷ cs) h us =
    let rest = depth_under d fs gs cs h.3 us.1 in
    fields_more s (inl (h.0, refl)) (rw (sym h.1, sym h.2) us.0)
    (fields_under d (field k s fs) gs (λ j u has. let found = field_under d fs gs rest j u has in (found.0, inr found.1, found.2)))
depth_under d no_fields no_fields (c ∷ cs) h us = absurd h
depth_under d no_fields (field l t gs) cs h us = absurd h
depth_under d (field k s fs) no_fields cs h us = absurd h
depth_under d (field k s fs) (field l t gs) [] h us = absurd h

rule_under : (d : Dialect) (r : SubRule) (cs : List Claim) (s t : Typ) → IsRuleOf r d → BySubRule r cs s t → AllUnder d cs → Under d s t
rule_under d SubRule.Refl [] s t of by us = rw by (under_refl d t)
rule_under d SubRule.Trans (a ∷ b ∷ []) s t of by us =
    subst (λ x. Under d x t) by.0 (subst (λ x. Under d a.lower x) by.2 (passes d b.lower a.lower b.upper (subst (λ x. Under d a.lower x) by.1 us.0) us.1.0))
rule_under d SubRule.Top [] s t of by us = rw by (under_top s)
rule_under d SubRule.Arrow (a ∷ b ∷ []) (arrow s1 s2) (arrow t1 t2) of by us =
    under_arrow (rw (sym by.0, sym by.1) us.0) (rw (sym by.2, sym by.3) us.1.0)
rule_under d SubRule.RcdWidth [] (record_of fs) (record_of gs) of by us =
    under_record (fields_under d fs gs (λ l t has. (t, begins_has fs gs by l t has, under_refl d t)))
rule_under d SubRule.RcdDepth cs (record_of fs) (record_of gs) of by us = under_record (depth_under d fs gs cs by us)
rule_under d SubRule.RcdPerm [] (record_of fs) (record_of gs) of by us =
    under_record (fields_under d fs gs (λ l t has. (t, permutation_has_back fs gs by l t has, under_refl d t)))
rule_under Dialect.Two SubRule.BoolNat [] s t of by us = rw (by.0, by.1) under_bool_nat
rule_under Dialect.One SubRule.BoolNat cs s t of by us = absurd of
rule_under _ _ _ _ _ of by us = absurd by

-- each proof, part by part
mutual
  pub proof_under : (d : Dialect) (p : SubTree) → IsSubProof p d → Under d (conclusion p).lower (conclusion p).upper
  proof_under d (sub_step r s t ps) h = rule_under d r (conclusions ps) s t h.2 h.3 (proofs_under d ps h.4)

  proofs_under : (d : Dialect) (ps : SubTrees) → AreSubProofs ps d → AllUnder d (conclusions ps)
  proofs_under d no_subs h = tt
  proofs_under d (sub_first p ps) h = (proof_under d p h.0, proofs_under d ps h.1)

pub below_under : (s t : Typ) (d : Dialect) → IsBelow s t d → Under d s t
below_under s t d (p, proves) = let u = proof_under d p proves.0 in
    rw (ap (λ c. c.lower) proves.1, ap (λ c. c.upper) proves.1) at u

-- types that are below another have distinct labels
pub below_wf : (s t : Typ) (d : Dialect) → IsBelow s t d → IsWellFormed s × IsWellFormed t
below_wf s t d (sub_step r lower upper ps, proves) =
    (rw (ap (λ c. c.lower) proves.1) at proves.0.0, rw (ap (λ c. c.upper) proves.1) at proves.0.1)
