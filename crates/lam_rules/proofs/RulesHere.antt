-- Each rule of typing, at a term and premises whose forms are known.
use Rattle.std.proofs.Common.{◌≡◌, ◌<◌, ◌≤◌, ◌↔◌, List, [], ◌∷◌, String, string_bytes, Box, length, get_or, ap, ℕ, ◌+◌, drop, Some, None, arith}
use Rattle.std.specs.declared.alloc.Global.{Global}
use Rattle.lam_rules.specs.Types.{Typ, bool, arrow, record_of}
use Rattle.lam_rules.specs.TypeViews.{typ_of, fields_of}
use Rattle.lam_rules.specs.TermViews.{term_of, terms_of}
use Rattle.lam_rules.specs.Terms.{Term, record_term}
use Rattle.lam_rules.specs.SubViews.{claim_of}
use Rattle.lam_rules.specs.Typing.{Context}
use Rattle.lam_rules.specs.TypingSteps.{FitsRule}
use Rattle.lam_rules.specs.TypingViews.{types_concluded}
use Rattle.lam_rules.specs.declared.types.Ty.{Ty}
use Rattle.lam_rules.specs.declared.rules.TypeRule.{TypeRule}
use Rattle.lam_rules.specs.declared.terms.Core.{Core}
use Rattle.lam_rules.specs.declared.terms.Core.TheVariants.{If, App, Let}
use Rattle.lam_rules.specs.declared.subtyping.SubProof.{SubProof, out-SubProof}
use Rattle.lam_rules.specs.declared.typing.TypeProof.{TypeProof, out-TypeProof}
use Rattle.lam_rules.proofs.TermShapes.{term_of-If, term_of-App, term_of-Let, terms_of-drop}
use Rattle.lam_rules.proofs.TypingShapes.{one_type, two_types, three_types, types_concluded-drop}
use Rattle.lam_rules.proofs.TypeShapes.{fields_of-drop}

both_ways : {A : Type 0} → A ↔ A
both_ways = (λ a. a, λ a. a)

pub here_if : (term : Core) (e : Box (Core × Core × Core) Global) → term ≡ If e
    → (ps : List TypeProof) (p q r : TypeProof) → 3 ≤ length ps → length ps < 4 → p ≡ get_or ps 0 p → q ≡ get_or ps 1 q → r ≡ get_or ps 2 r
    → (g : Context) (t : Typ)
    → FitsRule TypeRule.If None g (term_of term) t (types_concluded ps)
    ↔ ((typ_of (out-TypeProof p).ty ≡ bool) × (typ_of (out-TypeProof q).ty ≡ t) × (typ_of (out-TypeProof r).ty ≡ t))
here_if term e is ps p q r low high is_p is_q is_r g t =
    rw (is, term_of-If e, three_types ps p q r low high is_p is_q is_r) both_ways

pub here_app : (term : Core) (e : Box (Core × Core) Global) → term ≡ App e
    → (ps : List TypeProof) (p q : TypeProof) → 2 ≤ length ps → length ps < 3 → p ≡ get_or ps 0 p → q ≡ get_or ps 1 q
    → (g : Context) (t : Typ)
    → FitsRule TypeRule.App None g (term_of term) t (types_concluded ps) ↔ (typ_of (out-TypeProof p).ty ≡ arrow (typ_of (out-TypeProof q).ty) t)
here_app term e is ps p q low high is_p is_q g t = rw (is, term_of-App e, two_types ps p q low high is_p is_q) both_ways

pub here_let : (term : Core) (e : Box (Core × Core) Global) → term ≡ Let e
    → (ps : List TypeProof) (q : TypeProof) → 2 ≤ length ps → length ps < 3 → q ≡ get_or ps 1 q
    → (g : Context) (t : Typ)
    → FitsRule TypeRule.Let None g (term_of term) t (types_concluded ps) ↔ (typ_of (out-TypeProof q).ty ≡ t)
here_let term e is [] q low high is_q g t = absurd (omega arith)
here_let term e is (x ∷ []) q low high is_q g t = absurd (omega arith)
here_let term e is (x ∷ y ∷ []) q low high is_q g t = rw (is, term_of-Let e, is_q) both_ways
here_let term e is (x ∷ y ∷ z ∷ ps) q low high is_q g t = absurd (omega arith)

-- T-Rcd: the field at an index
pub here_rcd : (es : List (String Global × Core)) (fs : List (String Global × Ty)) (ps : List TypeProof) (i : ℕ)
    (e : String Global × Core) (f : String Global × Ty) (p : TypeProof)
    → i < length es → i < length fs → i < length ps → e ≡ get_or es i e → f ≡ get_or fs i f → p ≡ get_or ps i p
    → (g : Context)
    → FitsRule TypeRule.Rcd None g (record_term (terms_of (drop i es))) (record_of (fields_of (drop i fs))) (types_concluded (drop i ps))
    ↔ ((string_bytes e.0 ≡ string_bytes f.0)
    × (typ_of (out-TypeProof p).ty ≡ typ_of f.1)
    × FitsRule TypeRule.Rcd None g (record_term (terms_of (drop (i + 1) es))) (record_of (fields_of (drop (i + 1) fs))) (types_concluded (drop (i + 1) ps)))
here_rcd es fs ps i e f p in_es in_fs in_ps is_e is_f is_p g =
    rw (terms_of-drop es i e in_es is_e, fields_of-drop fs i f in_fs is_f, types_concluded-drop ps i p in_ps is_p) both_ways

-- T-Sub: the claim of a tree, part by part
concludes : (q : SubProof) (s t : Typ)
    → (claim_of q ≡ record { lower = s; upper = t }) ↔ ((typ_of (out-SubProof q).lower ≡ s) × (typ_of (out-SubProof q).upper ≡ t))
concludes q s t = (λ e. (ap (λ c. c.lower) e, ap (λ c. c.upper) e), λ e. rw (e.0, e.1))

pub here_sub : (ps : List TypeProof) (p : TypeProof) → 1 ≤ length ps → length ps < 2 → p ≡ get_or ps 0 p
    → (q : SubProof) (g : Context) (e : Term) (t : Typ)
    → FitsRule TypeRule.Sub (Some (claim_of q)) g e t (types_concluded ps)
    ↔ ((typ_of (out-SubProof q).lower ≡ typ_of (out-TypeProof p).ty) × (typ_of (out-SubProof q).upper ≡ t))
here_sub ps p low high is_p q g e t = rw (one_type ps p low high is_p) (concludes q (typ_of (out-TypeProof p).ty) t)
