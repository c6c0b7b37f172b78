-- Steps that change nothing.
use Rattle.std.proofs.Common.{◌≡◌, ◌≢◌, suc, List, [], ◌∷◌, length, refl, sym, ◌∙◌, ap, subst, inl, inr, String}
use Rattle.std.specs.declared.alloc.Global.{Global}
use Rattle.std.specs.declared.rc.Rc.{Rc}
use Rattle.lam_rules.specs.Types.{Label, Typ, arrow, record_of, Fields, no_fields, field, Has, AreWellFormed}
use Rattle.lam_rules.specs.Subtyping.{Claim, BySubRule, BeginsWith, GoesFieldByField, SubTrees, no_subs, sub_first, sub_step, AreSubProofs, conclusions}
use Rattle.lam_rules.specs.declared.rules.Dialect.{Dialect}
use Rattle.lam_rules.specs.declared.rules.SubRule.{SubRule}
use Rattle.lam_rules.specs.declared.types.Ty.{Ty}
use Rattle.lam_rules.specs.declared.types.Ty.TheVariants.{Arrow, Record}
use Rattle.lam_rules.specs.declared.types.Fields.{Fields as RustFields}
use Rattle.lam_rules.specs.TypeViews.{typ_of, fields_of}
use Rattle.lam_rules.proofs.TypeShapes.{ty_cases, typ_of-Bool, typ_of-Nat, typ_of-Unit, typ_of-Top, typ_of-Arrow, typ_of-Record}
use Rattle.lam_rules.proofs.Permutations.{permutation_has_back}
use Rattle.lam_rules.proofs.SharedTexts.{one_type}
use Rattle.lam_sub.specs.BoundOrder.{HasNoParts}
use Rattle.lam_sub.specs.inner.Unchanged.{AreByRefl, HaveSameLabels}

-- each claim is that a type is below itself
abbrev pub AreReflexive : List Claim → Type 0
AreReflexive [] = Unit {0}
AreReflexive (c ∷ cs) = (c.lower ≡ c.upper) × AreReflexive cs

-- what proofs by S-Refl claim
pub refl_claims : (ps : SubTrees) (d : Dialect) → AreByRefl ps → AreSubProofs ps d → AreReflexive (conclusions ps)
refl_claims no_subs d by all = tt
refl_claims (sub_first (sub_step SubRule.Refl s t no_subs) ps) d by all = (all.0.3, refl_claims ps d by.1 all.1)
refl_claims (sub_first (sub_step SubRule.Refl s t (sub_first q qs)) ps) d by all = absurd all.0.3
refl_claims (sub_first (sub_step rule s t qs) ps) d by all = absurd (cc by.0)

-- fields of one list of distinct labels that have the same labels have the same types
pub same_if : (all fs gs : Fields) → AreWellFormed all → ((l : Label) (t : Typ) → Has l t fs → Has l t all) → ((l : Label) (t : Typ) → Has l t gs → Has l t all)
    → HaveSameLabels fs gs → fs ≡ gs
same_if all no_fields no_fields wf a b same = refl
same_if all (field k s fs) (field l t gs) wf a b same =
    let types = one_type all wf l s t (a l s (inl (same.0, refl))) (b l t (inl (refl, refl))) in
    rw (same.0, types, same_if all fs gs wf (λ m u h. a m u (inr h)) (λ m u h. b m u (inr h)) same.1) refl
same_if all no_fields (field l t gs) wf a b same = absurd same
same_if all (field k s fs) no_fields wf a b same = absurd same

width_same : (fs gs : Fields) → BeginsWith fs gs → HaveSameLabels fs gs → fs ≡ gs
width_same no_fields no_fields by same = refl
width_same (field k s fs) (field l t gs) by same = rw (by.0, by.1, width_same fs gs by.2 same.1) refl
width_same no_fields (field l t gs) by same = absurd same
width_same (field k s fs) no_fields by same = absurd same

depth_same : (fs gs : Fields) (cs : List Claim) → GoesFieldByField fs gs cs → AreReflexive cs → fs ≡ gs
depth_same no_fields no_fields [] by own = refl
depth_same (field k s fs) (field l t gs) (c ∷ cs) by own = rw (by.0, sym by.1 ∙ own.0 ∙ by.2, depth_same fs gs cs by.3 own.1) refl
depth_same no_fields no_fields (c ∷ cs) by own = absurd by
depth_same no_fields (field l t gs) cs by own = absurd by
depth_same (field k s fs) no_fields cs by own = absurd by
depth_same (field k s fs) (field l t gs) [] by own = absurd by

-- lists of different lengths do not have the same labels
pub labels_not : (fs gs : List (String Global × Ty)) → length fs ≢ length gs → HaveSameLabels (fields_of fs) (fields_of gs) → ⊥
labels_not [] [] ne same = ne refl
labels_not (f ∷ fs) (g ∷ gs) ne same = labels_not fs gs (λ e. ne (ap suc e)) same.1
labels_not [] (g ∷ gs) ne same = same
labels_not (f ∷ fs) [] ne same = same

-- a type without parts

pub without_parts : (t : Ty) → ((x y : Rc Ty Global) → t ≡ Arrow x y → ⊥) → ((fs : RustFields) → t ≡ Record fs → ⊥) → HasNoParts (typ_of t)
without_parts = ty_cases (λ t. ((x y : Rc Ty Global) → t ≡ Arrow x y → ⊥) → ((fs : RustFields) → t ≡ Record fs → ⊥) → HasNoParts (typ_of t))
    (λ n m. rw typ_of-Bool tt) (λ n m. rw typ_of-Nat tt) (λ n m. rw typ_of-Unit tt) (λ n m. rw typ_of-Top tt) (λ x y n m. absurd (n x y refl)) (λ fs n m. absurd (m fs refl))

pub no_arrow_without_parts : (t : Ty) (x y : Rc Ty Global) → HasNoParts (typ_of t) → t ≡ Arrow x y → ⊥
no_arrow_without_parts t x y none is = subst HasNoParts (ap typ_of is ∙ typ_of-Arrow x y) none

pub no_record_without_parts : (t : Ty) (fs : RustFields) → HasNoParts (typ_of t) → t ≡ Record fs → ⊥
no_record_without_parts t fs none is = subst HasNoParts (ap typ_of is ∙ typ_of-Record fs) none

-- the fields of a record type
abbrev fields_under : Typ → Fields
fields_under (record_of fs) = fs
fields_under _ = no_fields

-- a step by any rule changes nothing if its labels are the same and its premises change nothing
pub unchanged : (rule : SubRule) (fs gs : Fields) (cs : List Claim) → AreWellFormed fs → BySubRule rule cs (record_of fs) (record_of gs)
    → HaveSameLabels fs gs → AreReflexive cs → fs ≡ gs
unchanged SubRule.Refl fs gs [] wf by same own = ap fields_under by
unchanged SubRule.Trans fs gs (c ∷ e ∷ []) wf by same own = ap fields_under (sym by.0 ∙ own.0 ∙ by.1 ∙ own.1.0 ∙ by.2)
unchanged SubRule.Top fs gs [] wf by same own = absurd (cc by)
unchanged SubRule.RcdWidth fs gs [] wf by same own = width_same fs gs by same
unchanged SubRule.RcdDepth fs gs cs wf by same own = depth_same fs gs cs by own
unchanged SubRule.RcdPerm fs gs [] wf by same own = same_if fs fs gs wf (λ l t h. h) (permutation_has_back fs gs by) same
unchanged SubRule.BoolNat fs gs [] wf by same own = absurd (cc by.0)
unchanged SubRule.Arrow fs gs [] wf by same own = absurd by
unchanged SubRule.Arrow fs gs (c ∷ []) wf by same own = absurd by
unchanged SubRule.Arrow fs gs (c ∷ e ∷ []) wf by same own = absurd by
unchanged SubRule.Arrow fs gs (c ∷ e ∷ f ∷ cs) wf by same own = absurd by
unchanged _ fs gs cs wf by same own = absurd by

pub arrows_unchanged : (s1 s2 t1 t2 : Typ) (cs : List Claim) → BySubRule SubRule.Arrow cs (arrow s1 s2) (arrow t1 t2) → AreReflexive cs → arrow s1 s2 ≡ arrow t1 t2
arrows_unchanged s1 s2 t1 t2 (c ∷ e ∷ []) by own = rw (sym by.1 ∙ sym own.0 ∙ by.0, sym by.2 ∙ own.1.0 ∙ by.3) refl
arrows_unchanged s1 s2 t1 t2 [] by own = absurd by
arrows_unchanged s1 s2 t1 t2 (c ∷ []) by own = absurd by
arrows_unchanged s1 s2 t1 t2 (c ∷ e ∷ f ∷ cs) by own = absurd by
