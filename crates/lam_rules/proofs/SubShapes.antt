-- How a `SubProof` is seen as a tree, and lists of them as premises.
use Rattle.std.proofs.Common.{◌≡◌, ℕ, ◌+◌, ◌<◌, ◌≢◌, List, [], ◌∷◌, map, length, drop, get_or, ap, sym, ◌∙◌, refl, drop-cons, add-one, suc, arith, ◌≤◌, String}
use Rattle.std.specs.declared.alloc.Global.{Global}
use Rattle.lam_rules.specs.Types.{Fields, no_fields, field}
use Rattle.lam_rules.specs.declared.types.Ty.{Ty}
use Rattle.lam_rules.proofs.TypeShapes.{field_count, field_count-fields_of}
use Rattle.lam_rules.specs.Subtyping.{BeginsWith, GoesFieldByField, Claim, SubTree, sub_step, sub_first, conclusion, conclusions}
use Rattle.lam_rules.specs.SubViews.{sub_trees_made, sub_tree_step, sub_tree_of, sub_trees_of, claim_of, claims_of}
use Rattle.lam_rules.specs.TypeViews.{typ_of, fields_of}
use Rattle.lam_rules.specs.declared.subtyping.SubProof.{SubProof, out-SubProof, fold_out-SubProof}

pub sub_trees_made-map : (ps : List SubProof) → sub_trees_made (map sub_tree_of ps) ≡ sub_trees_of ps
sub_trees_made-map [] = refl
sub_trees_made-map (p ∷ ps) = ap (λ rest. sub_first (sub_tree_of p) rest) (sub_trees_made-map ps)

-- a `SubProof` node by node
pub sub_tree_of-node : (p : SubProof) → sub_tree_of p
    ≡ sub_step (out-SubProof p).rule (typ_of (out-SubProof p).lower) (typ_of (out-SubProof p).upper) (sub_trees_of (out-SubProof p).premises.items)
unfolding sub_tree_of
sub_tree_of-node p =
    fold_out-SubProof SubTree sub_tree_step p
    ∙ ap (λ ps. sub_step (out-SubProof p).rule (typ_of (out-SubProof p).lower) (typ_of (out-SubProof p).upper) ps) (sub_trees_made-map (out-SubProof p).premises.items)

pub conclusion-sub_tree_of : (p : SubProof) → conclusion (sub_tree_of p) ≡ claim_of p
conclusion-sub_tree_of p = ap conclusion (sub_tree_of-node p)

pub conclusions-sub_trees_of : (ps : List SubProof) → conclusions (sub_trees_of ps) ≡ claims_of ps
conclusions-sub_trees_of [] = refl
conclusions-sub_trees_of (p ∷ ps) = rw (conclusion-sub_tree_of p, conclusions-sub_trees_of ps)

-- lists of premises

pub sub_trees_of-drop : (ps : List SubProof) (i : ℕ) (p : SubProof) → i < length ps → p ≡ get_or ps i p
    → sub_trees_of (drop i ps) ≡ sub_first (sub_tree_of p) (sub_trees_of (drop (i + 1) ps))
sub_trees_of-drop ps i p lt is = rw add-one (rw (drop-cons ps i p lt) (ap (λ q. sub_first (sub_tree_of q) (sub_trees_of (drop (suc i) ps))) (sym is)))

pub claims_of-drop : (ps : List SubProof) (i : ℕ) (p : SubProof) → i < length ps → p ≡ get_or ps i p
    → claims_of (drop i ps) ≡ claim_of p ∷ claims_of (drop (i + 1) ps)
claims_of-drop ps i p lt is = rw add-one (rw (drop-cons ps i p lt) (ap (λ q. claim_of q ∷ claims_of (drop (suc i) ps)) (sym is)))

pub length-claims_of : (ps : List SubProof) → length (claims_of ps) ≡ length ps
length-claims_of [] = refl
length-claims_of (p ∷ ps) = let e = length-claims_of ps in omega arith

pub claims_of-none : (ps : List SubProof) → length ps ≡ 0 → claims_of ps ≡ []
claims_of-none [] e = refl
claims_of-none (p ∷ ps) e = absurd (omega arith)

-- premises and fields that differ in number fit no rule on records

begins_with_fewer : (fs gs : Fields) → BeginsWith fs gs → field_count gs ≤ field_count fs
begins_with_fewer no_fields no_fields h = omega arith
begins_with_fewer (field k s fs) no_fields h = omega arith
begins_with_fewer (field k s fs) (field l t gs) h = let e = begins_with_fewer fs gs h.2 in omega arith
begins_with_fewer no_fields (field l t gs) h = absurd h

pub begins_with_not : (fs gs : List (String Global × Ty)) → length fs < length gs → BeginsWith (fields_of fs) (fields_of gs) → ⊥
begins_with_not fs gs lt h =
    let e = begins_with_fewer (fields_of fs) (fields_of gs) h in
    let a = field_count-fields_of fs in
    let b = field_count-fields_of gs in
    omega arith

goes_counts : (fs gs : Fields) (cs : List Claim) → GoesFieldByField fs gs cs → (field_count fs ≡ field_count gs) × (field_count fs ≡ length cs)
goes_counts no_fields no_fields [] h = (refl, refl)
goes_counts (field k s fs) (field l t gs) (c ∷ cs) h = let e = goes_counts fs gs cs h.3 in (omega arith, omega arith)
goes_counts no_fields no_fields (c ∷ cs) h = absurd h
goes_counts no_fields (field l t gs) cs h = absurd h
goes_counts (field k s fs) no_fields cs h = absurd h
goes_counts (field k s fs) (field l t gs) [] h = absurd h

pub goes_not_fields : (fs gs : List (String Global × Ty)) (cs : List Claim) → length fs ≢ length gs → GoesFieldByField (fields_of fs) (fields_of gs) cs → ⊥
goes_not_fields fs gs cs ne h =
    ne (sym (field_count-fields_of fs) ∙ (goes_counts (fields_of fs) (fields_of gs) cs h).0 ∙ field_count-fields_of gs)

pub goes_not_premises : (fs : List (String Global × Ty)) (gs : Fields) (ps : List SubProof) → length fs ≢ length ps → GoesFieldByField (fields_of fs) gs (claims_of ps) → ⊥
goes_not_premises fs gs ps ne h =
    ne (sym (field_count-fields_of fs) ∙ (goes_counts (fields_of fs) gs (claims_of ps) h).1 ∙ length-claims_of ps)

pub ruleset sub_nodes = (sub_tree_of-node, conclusions-sub_trees_of, sub_trees_of-drop)

pub ruleset sub_shapes = (begins_with_not, goes_not_fields, goes_not_premises, sub_trees_of-drop, claims_of-drop, length-claims_of, claims_of-none)
