-- Trees of subtyping put together in code.
use Rattle.std.proofs.Common.{◌≡◌, ℕ, ◌+◌, ◌<◌, ◌++◌, List, [], ◌∷◌, ap, sym, ◌∙◌, refl, subst, Vec, length, get_or, drop, String, string_bytes, append_assoc, Result, IfOk}
use Rattle.std.specs.declared.alloc.Global.{Global}
use Rattle.std.specs.declared.alloc.AllocError.{AllocError}
use Rattle.std.proofs.lemmas.Result.{IfOk-weaker}
use Rattle.lam_rules.specs.Types.{Typ, record_of, Fields, joined, IsWellFormed, AreWellFormed}
use Rattle.lam_rules.specs.TypeViews.{typ_of, fields_of}
use Rattle.lam_rules.specs.Subtyping.{BySubRule, IsRuleOf, GoesFieldByField, SubTree, sub_step, no_subs, sub_first, IsSubProof, AreSubProofs, ProvesBelow}
use Rattle.lam_rules.specs.SubViews.{sub_tree_of, sub_trees_of, claim_of, claims_of}
use Rattle.lam_rules.specs.declared.rules.Dialect.{Dialect}
use Rattle.lam_rules.specs.declared.rules.SubRule.{SubRule}
use Rattle.lam_rules.specs.declared.subtyping.SubProof.{SubProof, out-SubProof, roll-SubProof, out-roll-SubProof}
use Rattle.lam_rules.specs.declared.types.Ty.{Ty}
use Rattle.lam_rules.proofs.SubShapes.{sub_tree_of-node, conclusion-sub_tree_of, conclusions-sub_trees_of}
use Rattle.lam_rules.proofs.ByShape.{below_wf}
use Rattle.lam_rules.proofs.TypeShapes.{fields_of-drop, joined-push}
use Rattle.lam_sub.specs.inner.Arranging.{HasLabelsOf, type_under, picked}
use Rattle.lam_sub.specs.OtherFields.{other_fields}
use Rattle.lam_sub.proofs.LookUps.{begins_with_first}
use Rattle.lam_sub.proofs.Arranging.{arranged, arranged_permutes}

-- the tree of a step that was made
pub sub_tree_of-made : (rule : SubRule) (lower upper : Ty) (premises : Vec SubProof Global)
    → sub_tree_of (roll-SubProof record { rule = rule; lower = lower; upper = upper; premises = premises }) ≡ sub_step rule (typ_of lower) (typ_of upper) (sub_trees_of premises.items)
sub_tree_of-made rule lower upper premises =
    sub_tree_of-node (roll-SubProof record { rule = rule; lower = lower; upper = upper; premises = premises })
    ∙ ap (λ o. sub_step o.rule (typ_of o.lower) (typ_of o.upper) (sub_trees_of o.premises.items)) (out-roll-SubProof record { rule = rule; lower = lower; upper = upper; premises = premises })

pub stepped : (rule : SubRule) (s t : Typ) (ps : List SubProof) (made : SubTree) (d : Dialect)
    → IsWellFormed s → IsWellFormed t → IsRuleOf rule d → BySubRule rule (claims_of ps) s t → AreSubProofs (sub_trees_of ps) d
    → made ≡ sub_step rule s t (sub_trees_of ps) → ProvesBelow made s t d
stepped rule s t ps made d ws wt of by all is =
    subst (λ m. ProvesBelow m s t d) (sym is)
    ((ws, wt, of, subst (λ cs. BySubRule rule cs s t) (sym (conclusions-sub_trees_of ps)) by, all), refl)

pub lower_is : (p : SubProof) (s t : Typ) (d : Dialect) → ProvesBelow (sub_tree_of p) s t d → typ_of (out-SubProof p).lower ≡ s
lower_is p s t d proves = ap (λ c. c.lower) (sym (conclusion-sub_tree_of p) ∙ proves.1)

pub upper_is : (p : SubProof) (s t : Typ) (d : Dialect) → ProvesBelow (sub_tree_of p) s t d → typ_of (out-SubProof p).upper ≡ t
upper_is p s t d proves = ap (λ c. c.upper) (sym (conclusion-sub_tree_of p) ∙ proves.1)

pub claim_is : (p : SubProof) (s t : Typ) (d : Dialect) → ProvesBelow (sub_tree_of p) s t d → (claim_of p).lower ≡ s × (claim_of p).upper ≡ t
claim_is p s t d proves = (lower_is p s t d proves, upper_is p s t d proves)

pub chained : (p q : SubProof) (lower upper : Ty) (made : SubTree) (s u t : Typ) (d : Dialect)
    → typ_of lower ≡ typ_of (out-SubProof p).lower → typ_of upper ≡ typ_of (out-SubProof q).upper
    → made ≡ sub_step SubRule.Trans (typ_of lower) (typ_of upper) (sub_first (sub_tree_of p) (sub_first (sub_tree_of q) no_subs))
    → ProvesBelow (sub_tree_of p) s u d → ProvesBelow (sub_tree_of q) u t d → ProvesBelow made s t d
chained p q lower upper made s u t d is_lower is_upper is first second =
    let starts = is_lower ∙ lower_is p s u d first in
    let ends = is_upper ∙ upper_is q u t d second in
    let wf = below_wf s u d (sub_tree_of p, first) in
    let wf_above = below_wf u t d (sub_tree_of q, second) in
    subst (λ m. ProvesBelow m s t d) (sym (is ∙ ap (λ x. sub_step SubRule.Trans x (typ_of upper) (sub_first (sub_tree_of p) (sub_first (sub_tree_of q) no_subs))) starts
    ∙ ap (λ x. sub_step SubRule.Trans s x (sub_first (sub_tree_of p) (sub_first (sub_tree_of q) no_subs))) ends)) (
      (
        wf.0,
        wf_above.1,
        tt,
        (ap (λ c. c.lower) first.1, ap (λ c. c.upper) first.1 ∙ sym (ap (λ c. c.lower) second.1), ap (λ c. c.upper) second.1),
        (first.0, (second.0, tt)),
      ),
      refl,
    )

-- the fields as they were copied

pub arranged_is : (ps ds copies more xs : List (String Global × Ty)) (fs gs : Fields) → fields_of ps ≡ picked fs gs → ds ≡ ps → fields_of copies ≡ fields_of ds
    → fields_of more ≡ joined (fields_of copies) (other_fields fs gs) → xs ≡ more → fields_of xs ≡ arranged fs gs
arranged_is ps ds copies more xs fs gs picks lent copied appended same =
    ap fields_of same ∙ appended ∙ ap (λ r. joined r (other_fields fs gs)) (copied ∙ ap fields_of lent ∙ picks)

pub picked_is : (ps xs : List (String Global × Ty)) (fs gs : Fields) → fields_of ps ≡ picked fs gs → xs ≡ ps → fields_of xs ≡ picked fs gs
picked_is ps xs fs gs picks same = ap fields_of same ∙ picks

pub permutation_by : (fs gs hs : Fields) (ps : List SubProof) → ps ≡ [] → hs ≡ arranged fs gs → AreWellFormed fs → AreWellFormed gs → HasLabelsOf fs gs
    → BySubRule SubRule.RcdPerm (claims_of ps) (record_of fs) (record_of hs)
permutation_by fs gs hs ps none is wf wg labels = rw (none, is) (arranged_permutes fs gs wf wg labels)

pub width_by : (fs gs hs ks : Fields) (ps : List SubProof) → ps ≡ [] → hs ≡ arranged fs gs → ks ≡ picked fs gs
    → BySubRule SubRule.RcdWidth (claims_of ps) (record_of hs) (record_of ks)
width_by fs gs hs ks ps none is picks = rw (none, is, picks) (begins_with_first (picked fs gs) (other_fields fs gs))

pub no_premises : (ps : List SubProof) (d : Dialect) → ps ≡ [] → AreSubProofs (sub_trees_of ps) d
no_premises ps d none = rw none tt

-- one more field picked, one more premise proved

pub picked_more : (copies more : List (String Global × Ty)) (fs : Fields) (gs : List (String Global × Ty)) (i : ℕ) (g c : String Global × Ty) (whole : Fields)
    → i < length gs → g ≡ get_or gs i g → more ≡ copies ++ c ∷ [] → string_bytes c.0 ≡ string_bytes g.0 → typ_of c.1 ≡ type_under (string_bytes g.0) fs
    → joined (fields_of copies) (picked fs (fields_of (drop i gs))) ≡ whole
    → joined (fields_of more) (picked fs (fields_of (drop (i + 1) gs))) ≡ whole
picked_more copies more fs gs i g c whole lt is pushed same_label same_type so_far =
    rw (pushed, joined-push copies c (picked fs (fields_of (drop (i + 1) gs))), same_label, same_type) (rw (fields_of-drop gs i g lt is) at so_far)

pub proofs_more : (made more : List SubProof) (p : SubProof) (d : Dialect) → more ≡ made ++ p ∷ [] → IsSubProof (sub_tree_of p) d
    → ((rest : List SubProof) → AreSubProofs (sub_trees_of rest) d → AreSubProofs (sub_trees_of (made ++ rest)) d)
    → (rest : List SubProof) → AreSubProofs (sub_trees_of rest) d → AreSubProofs (sub_trees_of (more ++ rest)) d
proofs_more made more p d pushed holds so_far rest all = rw (pushed, append_assoc made (p ∷ []) rest) (so_far (p ∷ rest) (holds, all))

pub claims_more : (made more : List SubProof) (p : SubProof) (fs whole_fs whole_gs : Fields) (gs : List (String Global × Ty)) (i : ℕ) (g : String Global × Ty)
    → i < length gs → g ≡ get_or gs i g → more ≡ made ++ p ∷ []
    → (claim_of p).lower ≡ type_under (string_bytes g.0) fs → (claim_of p).upper ≡ typ_of g.1
    → ((rest : List SubProof) → GoesFieldByField (picked fs (fields_of (drop i gs))) (fields_of (drop i gs)) (claims_of rest) → GoesFieldByField whole_fs whole_gs (claims_of (made ++ rest)))
    → (rest : List SubProof) → GoesFieldByField (picked fs (fields_of (drop (i + 1) gs))) (fields_of (drop (i + 1) gs)) (claims_of rest) → GoesFieldByField whole_fs whole_gs (claims_of (more ++ rest))
claims_more made more p fs whole_fs whole_gs gs i g lt is pushed starts ends so_far rest goes =
    rw (pushed, append_assoc made (p ∷ []) rest) (so_far (p ∷ rest) (rw (fields_of-drop gs i g lt is) (refl, starts, ends, goes)))

-- the last step, by its rule

pub concluded : (rule : SubRule) (s t : Typ) (ps : List SubProof) (d : Dialect) (r : Result SubProof AllocError)
    → ps ≡ [] → IsWellFormed s × IsWellFormed t → IsRuleOf rule d → BySubRule rule [] s t
    → IfOk r (λ made. sub_tree_of made ≡ sub_step rule s t (sub_trees_of ps)) → IfOk r (λ made. ProvesBelow (sub_tree_of made) s t d)
concluded rule s t ps d r none wf of by =
    IfOk-weaker r (λ made. sub_tree_of made ≡ sub_step rule s t (sub_trees_of ps)) (λ made. ProvesBelow (sub_tree_of made) s t d)
    (λ made is. stepped rule s t ps (sub_tree_of made) d wf.0 wf.1 of (subst (λ qs. BySubRule rule (claims_of qs) s t) (sym none) by) (no_premises ps d none) is)

pub step_made : (rule : SubRule) (lower upper : Ty) (premises : Vec SubProof Global) (s t : Typ) → typ_of lower ≡ s → typ_of upper ≡ t
    → sub_tree_of (roll-SubProof record { rule = rule; lower = lower; upper = upper; premises = premises }) ≡ sub_step rule s t (sub_trees_of premises.items)
step_made rule lower upper premises s t is_s is_t =
    sub_tree_of-made rule lower upper premises ∙ ap (λ x. sub_step rule x (typ_of upper) (sub_trees_of premises.items)) is_s ∙ ap (λ x. sub_step rule s x (sub_trees_of premises.items)) is_t

pub chain_made : (lower upper : Ty) (premises : Vec SubProof Global) (p q : SubProof) → premises.items ≡ p ∷ q ∷ []
    → sub_tree_of (roll-SubProof record { rule = SubRule.Trans; lower = lower; upper = upper; premises = premises })
    ≡ sub_step SubRule.Trans (typ_of lower) (typ_of upper) (sub_first (sub_tree_of p) (sub_first (sub_tree_of q) no_subs))
chain_made lower upper premises p q are =
    sub_tree_of-made SubRule.Trans lower upper premises ∙ ap (λ ps. sub_step SubRule.Trans (typ_of lower) (typ_of upper) (sub_trees_of ps)) are
