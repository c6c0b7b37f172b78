-- The tree of a term over the numbers of a table in the arm of its variant, by what the arm takes out of the variant's box.
use Rattle.std.proofs.Common.{◌≡◌, Box, List, Vec, Option, ap, sym, ◌∙◌}
use Rattle.std.specs.declared.alloc.Global.{Global}
use denote.Ref.{Bor}
use Rattle.lam_rules.specs.Texts.{Text}
use Rattle.lam_rules.specs.declared.numbers.TyNo.{TyNo}
use Rattle.lam_scope.specs.Numbered.{if_then_else, succ, pred, is_zero, lambda, apply, ascribe, let_in, record_term, project, fix}
use Rattle.lam_scope.specs.InternedViews.{numbered_of, numbered_terms}
use Rattle.lam_scope.specs.declared.interned.InternedTerm.{InternedTerm}
use Rattle.lam_scope.specs.declared.interned.InternedField.{InternedField}
use Rattle.lam_scope.specs.declared.interned.InternedTerm.TheVariants.{If, Succ, Pred, IsZero, Abs, App, Ascribe, Let, Record, Proj, Fix}
use Rattle.lam_scope.proofs.InternedShapes.{numbered_of-If, numbered_of-Succ, numbered_of-Pred, numbered_of-IsZero, numbered_of-Abs, numbered_of-App, numbered_of-Ascribe, numbered_of-Let, numbered_of-Record, numbered_of-Proj, numbered_of-Fix}

pub if_arm : (e : InternedTerm) (parts : Box (InternedTerm × InternedTerm × InternedTerm) Global) (a b d : InternedTerm × InternedTerm × InternedTerm) → e ≡ If parts → a ≡ parts.value → b ≡ parts.value → d ≡ parts.value
    → numbered_of e ≡ if_then_else (numbered_of a.0) (numbered_of b.1) (numbered_of d.2)
if_arm e parts a b d is x y z = ap numbered_of is ∙ numbered_of-If parts ∙ (λ i. if_then_else (numbered_of (sym x i).0) (numbered_of (sym y i).1) (numbered_of (sym z i).2))

pub succ_arm : (e : InternedTerm) (part : Box InternedTerm Global) (a : InternedTerm) → e ≡ Succ part → a ≡ part.value → numbered_of e ≡ succ (numbered_of a)
succ_arm e part a is x = ap numbered_of is ∙ numbered_of-Succ part ∙ (λ i. succ (numbered_of (sym x i)))

pub pred_arm : (e : InternedTerm) (part : Box InternedTerm Global) (a : InternedTerm) → e ≡ Pred part → a ≡ part.value → numbered_of e ≡ pred (numbered_of a)
pred_arm e part a is x = ap numbered_of is ∙ numbered_of-Pred part ∙ (λ i. pred (numbered_of (sym x i)))

pub is_zero_arm : (e : InternedTerm) (part : Box InternedTerm Global) (a : InternedTerm) → e ≡ IsZero part → a ≡ part.value → numbered_of e ≡ is_zero (numbered_of a)
is_zero_arm e part a is x = ap numbered_of is ∙ numbered_of-IsZero part ∙ (λ i. is_zero (numbered_of (sym x i)))

pub lambda_arm : (e : InternedTerm) (w : Option TyNo) (part : Box InternedTerm Global) (a : InternedTerm) → e ≡ Abs w part → a ≡ part.value
    → numbered_of e ≡ lambda w (numbered_of a)
lambda_arm e w part a is x = ap numbered_of is ∙ numbered_of-Abs w part ∙ (λ i. lambda w (numbered_of (sym x i)))

pub apply_arm : (e : InternedTerm) (parts : Box (InternedTerm × InternedTerm) Global) (a b : InternedTerm × InternedTerm) → e ≡ App parts → a ≡ parts.value → b ≡ parts.value
    → numbered_of e ≡ apply (numbered_of a.0) (numbered_of b.1)
apply_arm e parts a b is x y = ap numbered_of is ∙ numbered_of-App parts ∙ (λ i. apply (numbered_of (sym x i).0) (numbered_of (sym y i).1))

pub ascribe_arm : (e : InternedTerm) (part : Box InternedTerm Global) (w : Option TyNo) (a : InternedTerm) → e ≡ Ascribe part w → a ≡ part.value
    → numbered_of e ≡ ascribe (numbered_of a) w
ascribe_arm e part w a is x = ap numbered_of is ∙ numbered_of-Ascribe part w ∙ (λ i. ascribe (numbered_of (sym x i)) w)

pub let_arm : (e : InternedTerm) (parts : Box (InternedTerm × InternedTerm) Global) (a b : InternedTerm × InternedTerm) → e ≡ Let parts → a ≡ parts.value → b ≡ parts.value
    → numbered_of e ≡ let_in (numbered_of a.0) (numbered_of b.1)
let_arm e parts a b is x y = ap numbered_of is ∙ numbered_of-Let parts ∙ (λ i. let_in (numbered_of (sym x i).0) (numbered_of (sym y i).1))

pub record_arm : (e : InternedTerm) (fields : Vec InternedField Global) (fs : List InternedField) → e ≡ Record fields → fs ≡ fields.items → numbered_of e ≡ record_term (numbered_terms fs)
record_arm e fields fs is x = ap numbered_of is ∙ numbered_of-Record fields ∙ (λ i. record_term (numbered_terms (sym x i)))

pub project_arm : (e : InternedTerm) (part : Box InternedTerm Global) (label : Bor Text) (a : InternedTerm) → e ≡ Proj part label → a ≡ part.value
    → numbered_of e ≡ project (numbered_of a) label.now
project_arm e part label a is x = ap numbered_of is ∙ numbered_of-Proj part label ∙ (λ i. project (numbered_of (sym x i)) label.now)

pub fix_arm : (e : InternedTerm) (part : Box InternedTerm Global) (a : InternedTerm) → e ≡ Fix part → a ≡ part.value → numbered_of e ≡ fix (numbered_of a)
fix_arm e part a is x = ap numbered_of is ∙ numbered_of-Fix part ∙ (λ i. fix (numbered_of (sym x i)))
