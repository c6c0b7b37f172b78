-- The tree of a term in the arm of its variant, by what the arm takes out of the variant's box.
use Rattle.std.proofs.Common.{◌≡◌, Box, List, Vec, String, Option, ap, sym, ◌∙◌, string_bytes}
use Rattle.std.specs.declared.alloc.Global.{Global}
use Rattle.lam_rules.specs.Terms.{if_then_else, succ, pred, is_zero, lambda, apply, ascribe, let_in, record_term, project, fix}
use Rattle.lam_rules.specs.Texts.{Text}
use Rattle.lam_rules.specs.TermViews.{term_of, terms_of, written_of}
use Rattle.lam_rules.specs.declared.types.Ty.{Ty}
use Rattle.lam_rules.specs.declared.terms.Core.{Core}
use Rattle.lam_rules.specs.declared.terms.Core.TheVariants.{If, Succ, Pred, IsZero, Abs, App, Ascribe, Let, Record, Proj, Fix}
use Rattle.lam_rules.proofs.TermShapes.{term_of-If, term_of-Succ, term_of-Pred, term_of-IsZero, term_of-Abs, term_of-App, term_of-Ascribe, term_of-Let, term_of-Record, term_of-Proj, term_of-Fix}

pub if_arm : (e : Core) (parts : Box (Core × Core × Core) Global) (a b d : Core × Core × Core) → e ≡ If parts → a ≡ parts.value → b ≡ parts.value → d ≡ parts.value
    → term_of e ≡ if_then_else (term_of a.0) (term_of b.1) (term_of d.2)
if_arm e parts a b d is x y z = ap term_of is ∙ term_of-If parts ∙ (λ i. if_then_else (term_of (sym x i).0) (term_of (sym y i).1) (term_of (sym z i).2))

pub succ_arm : (e : Core) (part : Box Core Global) (a : Core) → e ≡ Succ part → a ≡ part.value → term_of e ≡ succ (term_of a)
succ_arm e part a is x = ap term_of is ∙ term_of-Succ part ∙ (λ i. succ (term_of (sym x i)))

pub pred_arm : (e : Core) (part : Box Core Global) (a : Core) → e ≡ Pred part → a ≡ part.value → term_of e ≡ pred (term_of a)
pred_arm e part a is x = ap term_of is ∙ term_of-Pred part ∙ (λ i. pred (term_of (sym x i)))

pub is_zero_arm : (e : Core) (part : Box Core Global) (a : Core) → e ≡ IsZero part → a ≡ part.value → term_of e ≡ is_zero (term_of a)
is_zero_arm e part a is x = ap term_of is ∙ term_of-IsZero part ∙ (λ i. is_zero (term_of (sym x i)))

pub lambda_arm : (e : Core) (parts : Box (Option Ty × Core) Global) (a b : Option Ty × Core) → e ≡ Abs parts → a ≡ parts.value → b ≡ parts.value
    → term_of e ≡ lambda (written_of a.0) (term_of b.1)
lambda_arm e parts a b is x y = ap term_of is ∙ term_of-Abs parts ∙ (λ i. lambda (written_of (sym x i).0) (term_of (sym y i).1))

pub apply_arm : (e : Core) (parts : Box (Core × Core) Global) (a b : Core × Core) → e ≡ App parts → a ≡ parts.value → b ≡ parts.value
    → term_of e ≡ apply (term_of a.0) (term_of b.1)
apply_arm e parts a b is x y = ap term_of is ∙ term_of-App parts ∙ (λ i. apply (term_of (sym x i).0) (term_of (sym y i).1))

pub ascribe_arm : (e : Core) (parts : Box (Core × Option Ty) Global) (a b : Core × Option Ty) → e ≡ Ascribe parts → a ≡ parts.value → b ≡ parts.value
    → term_of e ≡ ascribe (term_of a.0) (written_of b.1)
ascribe_arm e parts a b is x y = ap term_of is ∙ term_of-Ascribe parts ∙ (λ i. ascribe (term_of (sym x i).0) (written_of (sym y i).1))

pub let_arm : (e : Core) (parts : Box (Core × Core) Global) (a b : Core × Core) → e ≡ Let parts → a ≡ parts.value → b ≡ parts.value
    → term_of e ≡ let_in (term_of a.0) (term_of b.1)
let_arm e parts a b is x y = ap term_of is ∙ term_of-Let parts ∙ (λ i. let_in (term_of (sym x i).0) (term_of (sym y i).1))

pub record_arm : (e : Core) (fields : Vec (String Global × Core) Global) (fs : List (String Global × Core)) → e ≡ Record fields → fs ≡ fields.items → term_of e ≡ record_term (terms_of fs)
record_arm e fields fs is x = ap term_of is ∙ term_of-Record fields ∙ (λ i. record_term (terms_of (sym x i)))

pub project_arm : (e : Core) (parts : Box (Core × String Global) Global) (a b : Core × String Global) (label : Text) → e ≡ Proj parts → a ≡ parts.value → b ≡ parts.value → label ≡ string_bytes b.1
    → term_of e ≡ project (term_of a.0) label
project_arm e parts a b label is x y z = ap term_of is ∙ term_of-Proj parts ∙ (λ i. project (term_of (sym x i).0) ((ap (λ p. string_bytes p.1) (sym y) ∙ sym z) i))

pub fix_arm : (e : Core) (part : Box Core Global) (a : Core) → e ≡ Fix part → a ≡ part.value → term_of e ≡ fix (term_of a)
fix_arm e part a is x = ap term_of is ∙ term_of-Fix part ∙ (λ i. fix (term_of (sym x i)))
