use Rattle.std.proofs.Common.{sym, subst}
use Rattle.std.proofs.lemmas.Option.{IfSome_then}
use Rattle.lam_rules.specs.Types.{Has, IsAbsent}
use Rattle.lam_rules.specs.Numbers.{type_of, fields_over, AreEarlier}
use Rattle.lam_sub.proofs.TableVerdicts.{numbers_cut, number_in_front, number_in_back, number_in_neither}
use Rattle.lam_sub.proofs.numbers.field_number.Goals as goal
use Rattle.lam_sub.proofs.LookUps.{none_then, first_of_two, met_in_one, met_in_other}

pub returns-in-Some-clause-below : goal.returns-in-Some-clause-below
returns-in-Some-clause-below c = λ n below. c.in-Some.ensures.below n (subst (λ gs. AreEarlier n gs) (sym c.split_at.ensures.back) (numbers_cut n c.args.fields.now c.min.result below).1)

pub returns-in-Some-clause-found : goal.returns-in-Some-clause-found
returns-in-Some-clause-found c = λ ts.
    number_in_back ts c.args.fields.now c.min.result c.args.label.now (type_of ts c.in-Some.number)
    (subst (λ gs. Has c.args.label.now (type_of ts c.in-Some.number) (fields_over ts gs)) c.split_at.ensures.back (c.in-Some.ensures.some ts))

pub returns-clause-below : goal.returns-clause-below
returns-clause-below c =
    IfSome_then c.number_under-2.result c.number_under-2.ensures.below
    (λ number h n below. h n (subst (λ gs. AreEarlier n gs) (sym c.split_at.ensures.front) (numbers_cut n c.args.fields.now c.min.result below).0))

pub returns-clause-found : goal.returns-clause-found
returns-clause-found c =
    IfSome_then c.number_under-2.result c.number_under-2.ensures.some
    (λ number h ts. number_in_front ts c.args.fields.now c.min.result c.args.label.now (type_of ts number)
    (subst (λ gs. Has c.args.label.now (type_of ts number) (fields_over ts gs)) c.split_at.ensures.front (h ts)))

pub returns-clause-absent : goal.returns-clause-absent
returns-clause-absent c =
    none_then c.number_under-2.result c.number_under-2.ensures.none
    (λ h ts. number_in_neither ts c.args.fields.now c.min.result c.args.label.now
    (subst (λ gs. IsAbsent c.args.label.now (fields_over ts gs)) c.split_at.ensures.front (h ts))
    (subst (λ gs. IsAbsent c.args.label.now (fields_over ts gs)) c.split_at.ensures.back (c.in_default.ensures.none ts)))

pub returns-in-Some-clause-first : goal.returns-in-Some-clause-first
returns-in-Some-clause-first c =
    met_in_one _ _ _ c.in-Some.number
    (first_of_two c.args.label.now c.args.fields.now c.split_at.result.0.now c.split_at.result.1.now c.args.near c.min.result c.min.ensures c.split_at.ensures.front c.split_at.ensures.back)
    c.in-Some.ensures.first

pub returns-clause-first : goal.returns-clause-first
returns-clause-first c =
    met_in_other _ _ _ _
    (first_of_two c.args.label.now c.args.fields.now c.split_at.result.0.now c.split_at.result.1.now c.args.near c.min.result c.min.ensures c.split_at.ensures.front c.split_at.ensures.back)
    c.in_default.ensures.first
    c.number_under-2.ensures.first
