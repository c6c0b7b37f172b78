use Rattle.std.proofs.Common.{subst, arith}
use Rattle.std.proofs.lemmas.Option.{IfSome_then}
use Rattle.lam_rules.specs.Types.{Has}
use Rattle.lam_rules.specs.TypeViews.{typ_of, fields_of}
use Rattle.lam_sub.proofs.LookUps.{has_front, look_ups, first_of_two, seen_in_one, seen_in_other}
use Rattle.lam_sub.proofs.fields.field_type.Goals as goal

pub returns-clause-found : goal.returns-clause-found
returns-clause-found c =
    IfSome_then c.first_type-2.result c.first_type-2.ensures.found
    (λ ty has. has_front c.args.fields.now c.min.result c.args.label.now (typ_of ty.now)
    (subst (λ fs. Has c.args.label.now (typ_of ty.now) (fields_of fs)) c.split_at.ensures.front has))

pub returns-in-Some-clause-found : goal.returns-in-Some-clause-found
returns-in-Some-clause-found c = grind (arith, look_ups)

pub returns-clause-absent : goal.returns-clause-absent
returns-clause-absent c = grind (arith, look_ups)

pub returns-in-Some-clause-first : goal.returns-in-Some-clause-first
returns-in-Some-clause-first c =
    seen_in_one typ_of _ _ _ (typ_of c.in-Some.ty.now)
    (first_of_two c.args.label.now c.args.fields.now c.split_at.result.0.now c.split_at.result.1.now c.args.near c.min.result c.min.ensures c.split_at.ensures.front c.split_at.ensures.back)
    c.in-Some.ensures.first

pub returns-clause-first : goal.returns-clause-first
returns-clause-first c =
    seen_in_other typ_of _ _ _ _
    (first_of_two c.args.label.now c.args.fields.now c.split_at.result.0.now c.split_at.result.1.now c.args.near c.min.result c.min.ensures c.split_at.ensures.front c.split_at.ensures.back)
    c.in_default.ensures.first
    c.first_type-2.ensures.first
