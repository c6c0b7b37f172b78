use Rattle.std.proofs.Common.{◌∙◌, IfNone, subst}
use Rattle.lam_rules.specs.TypeViews.{typ_of}
use Rattle.lam_rules.specs.Numbers.{type_of}
use Rattle.lam_rules.proofs.Tables.{kept_type}
use Rattle.lam_lattice.specs.inner.Bounds.{HaveNoMeet}
use Rattle.lam_lattice.proofs.Unlike.{no_meet_seen}
use Rattle.lam_lattice.proofs.bounds.meet.Goals as goal

pub meet_no-requires-clause-verdicts_right : goal.meet_no-requires-clause-verdicts_right
meet_no-requires-clause-verdicts_right c = c.new-verdicts.ensures.right c.add-2.new.self

pub returns-in_default-clause-none : goal.returns-in_default-clause-none
returns-in_default-clause-none c =
    let left = c.in_ok-left_number in
    let right = c.in_ok-right_number in
    let table = c.add-2.new.self in
    let none = subst (λ o. IfNone o (HaveNoMeet (type_of table left.left_number) (type_of table right.right_number) c.new-verdicts.result.dialect)) c.in_default.is c.in_ok-number.ensures.none in
    no_meet_seen (typ_of c.args.left.now) (typ_of c.args.right.now) _ _ c.args.dialect
    (kept_type c.add.new.self table left.left_number.index right.ensures.keeps left.ensures.number.stands ∙ left.ensures.number.type)
    right.ensures.number.type
    (subst (λ d. HaveNoMeet (type_of table left.left_number) (type_of table right.right_number) d) c.new-verdicts.ensures.dialect none)
