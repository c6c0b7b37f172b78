-- How proofs of subtyping are put together.
use Rattle.std.proofs.Common.{◌≡◌, ap, sym, ◌∙◌, refl}
use Rattle.lam_rules.specs.Types.{Typ, top, arrow, record_of, Fields, no_fields, field, IsWellFormed, AreWellFormed}
use Rattle.lam_rules.specs.Subtyping.{BeginsWith, GoesFieldByField, IsPermutation, sub_step, SubTrees, no_subs, sub_first, conclusions, AreSubProofs, IsBelow}
use Rattle.lam_rules.specs.declared.rules.Dialect.{Dialect}
use Rattle.lam_rules.specs.declared.rules.SubRule.{SubRule}
use Rattle.lam_rules.proofs.ByShape.{below_wf}

pub below_refl : (t : Typ) (d : Dialect) → IsWellFormed t → IsBelow t t d
below_refl t d wf = (sub_step SubRule.Refl t t no_subs, ((wf, wf, tt, refl, tt), refl))

pub below_top : (s : Typ) (d : Dialect) → IsWellFormed s → IsBelow s top d
below_top s d wf = (sub_step SubRule.Top s top no_subs, ((wf, tt, tt, refl, tt), refl))

pub below_trans : (s u t : Typ) (d : Dialect) → IsBelow s u d → IsBelow u t d → IsBelow s t d
below_trans s u t d (p, a) (q, b) =
    let ws = below_wf s u d (p, a) in
    let wt = below_wf u t d (q, b) in (
      sub_step SubRule.Trans s t (sub_first p (sub_first q no_subs)),
      (
        (
          ws.0,
          wt.1,
          tt,
          (ap (λ c. c.lower) a.1, ap (λ c. c.upper) a.1 ∙ sym (ap (λ c. c.lower) b.1), ap (λ c. c.upper) b.1),
          (a.0, (b.0, tt)),
        ),
        refl,
      ),
    )

pub below_arrow : (s1 s2 t1 t2 : Typ) (d : Dialect) → IsBelow t1 s1 d → IsBelow s2 t2 d → IsBelow (arrow s1 s2) (arrow t1 t2) d
below_arrow s1 s2 t1 t2 d (p, a) (q, b) =
    let w1 = below_wf t1 s1 d (p, a) in
    let w2 = below_wf s2 t2 d (q, b) in (
      sub_step SubRule.Arrow (arrow s1 s2) (arrow t1 t2) (sub_first p (sub_first q no_subs)),
      (
        (
          (w1.1, w2.0),
          (w1.0, w2.1),
          tt,
          (ap (λ c. c.lower) a.1, ap (λ c. c.upper) a.1, ap (λ c. c.lower) b.1, ap (λ c. c.upper) b.1),
          (a.0, (b.0, tt)),
        ),
        refl,
      ),
    )

pub below_width : (fs gs : Fields) (d : Dialect) → AreWellFormed fs → AreWellFormed gs → BeginsWith fs gs → IsBelow (record_of fs) (record_of gs) d
below_width fs gs d wf wg begins = (sub_step SubRule.RcdWidth (record_of fs) (record_of gs) no_subs, ((wf, wg, tt, begins, tt), refl))

pub below_permutation : (fs gs : Fields) (d : Dialect) → AreWellFormed fs → AreWellFormed gs → IsPermutation fs gs → IsBelow (record_of fs) (record_of gs) d
below_permutation fs gs d wf wg same = (sub_step SubRule.RcdPerm (record_of fs) (record_of gs) no_subs, ((wf, wg, tt, same, tt), refl))

-- the same labels in the same order, and each type below the one at its place in the second list
abbrev pub EachBelow : Fields → Fields → Dialect → Type 0
EachBelow no_fields no_fields d = Unit {0}
EachBelow (field k s fs) (field l t gs) d = (k ≡ l) × IsBelow s t d × EachBelow fs gs d
EachBelow _ _ d = ⊥

-- the proofs of the fields, in their order
field_proofs : (fs gs : Fields) (d : Dialect) → EachBelow fs gs d → (ps : SubTrees) × AreSubProofs ps d × GoesFieldByField fs gs (conclusions ps)
field_proofs no_fields no_fields d h = (no_subs, tt, tt)
field_proofs (field k s fs) (field l t gs) d h =
    let rest = field_proofs fs gs d h.2 in
    (sub_first h.1.0 rest.0, (h.1.1.0, rest.1), (h.0, ap (λ c. c.lower) h.1.1.1, ap (λ c. c.upper) h.1.1.1, rest.2))
field_proofs no_fields (field l t gs) d h = absurd h
field_proofs (field k s fs) no_fields d h = absurd h

pub below_depth : (fs gs : Fields) (d : Dialect) → AreWellFormed fs → AreWellFormed gs → EachBelow fs gs d → IsBelow (record_of fs) (record_of gs) d
below_depth fs gs d wf wg each =
    let proofs = field_proofs fs gs d each in
    (sub_step SubRule.RcdDepth (record_of fs) (record_of gs) proofs.0, ((wf, wg, tt, proofs.2, proofs.1), refl))
