-- How the subterm with an index is found.
use Rattle.std.proofs.Common.{◌≡◌, ◌≢◌, ℕ, ◌+◌, ◌-◌, ◌<◌, List, [], ◌∷◌, ◌++◌, length, drop, get_or, zero, suc, refl, ap, sym, ◌∙◌, arith, String}
use Rattle.std.specs.declared.alloc.Global.{Global}
use Rattle.lam_rules.specs.Terms.{Term}
use Rattle.lam_rules.specs.TermViews.{term_of, terms_of}
use Rattle.lam_rules.specs.declared.terms.Core.{Core}
use Rattle.lam_rules.proofs.TermShapes.{term_of-True, term_of-False, term_of-If, term_of-Num, term_of-Succ, term_of-Pred, term_of-IsZero, term_of-Var, term_of-Free, term_of-Abs, term_of-App, term_of-Unit, term_of-Ascribe, term_of-Let, term_of-Record, term_of-Proj, term_of-Fix, terms_of-drop}
use Rattle.lam_scope.specs.inner.Found.{Sought, here, behind, seek, seek_on, terms_at, terms_at_fields}

pub seek-append : (ts us : List Term) (n : ℕ) → seek (ts ++ us) n ≡ seek_on (seek ts n) us
seek-append [] us n = refl
seek-append (t ∷ ts) us zero = refl
seek-append (t ∷ ts) us (suc n) = seek-append ts us n

pub seek_on-none : (s : Sought) → seek_on s [] ≡ s
seek_on-none (here t) = refl
seek_on-none (behind n) = refl

pub seek_on-append : (s : Sought) (ts us : List Term) → seek_on s (ts ++ us) ≡ seek_on (seek_on s ts) us
seek_on-append (here t) ts us = refl
seek_on-append (behind n) ts us = seek-append ts us n

pub seek-past : (t : Term) (n : ℕ) → n ≢ 0 → seek (t ∷ []) n ≡ behind (n - 1)
seek-past t zero some = absurd (some refl)
seek-past t (suc n) some = ap behind (omega arith)

-- one more field is searched
pub found_more : (fs : List (String Global × Core)) (i : ℕ) (f : String Global × Core) (s t all : Sought) → i < length fs → f ≡ get_or fs i f
    → t ≡ seek_on s (terms_at (term_of f.1)) → seek_on s (terms_at_fields (terms_of (drop i fs))) ≡ all
    → seek_on t (terms_at_fields (terms_of (drop (i + 1) fs))) ≡ all
found_more fs i f s t all lt is gone so_far =
    ap (λ u. seek_on u (terms_at_fields (terms_of (drop (i + 1) fs)))) gone
    ∙ sym (seek_on-append s (terms_at (term_of f.1)) (terms_at_fields (terms_of (drop (i + 1) fs))))
    ∙ ap (λ es. seek_on s (terms_at_fields es)) (sym (terms_of-drop fs i f lt is))
    ∙ so_far

pub ruleset finding = (term_of-True, term_of-False, term_of-If, term_of-Num, term_of-Succ, term_of-Pred, term_of-IsZero, term_of-Var, term_of-Free, term_of-Abs, term_of-App, term_of-Unit, term_of-Ascribe, term_of-Let, term_of-Record, term_of-Proj, term_of-Fix, terms_of-drop, seek-append, seek_on-none, seek_on-append, seek-past)
