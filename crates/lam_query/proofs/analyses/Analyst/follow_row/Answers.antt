use Rattle.std.proofs.Common.{◌+◌, refl, ap, subst, arith}
use Rattle.lam_query.specs.inner.Bound.{IsBoundAfter}
use Rattle.lam_query.proofs.FollowedRows.{row_fits, one_row, no_command_followed, same_followed, same_sound}
use Rattle.lam_query.proofs.MarkedNames.{none_marked_among}
use Rattle.lam_query.proofs.analyses.Analyst.follow_row.Goals as goal

pub overflow_add-self : goal.overflow_add-self
overflow_add-self c =
    let f = c.requires.followed in
    let fits = row_fits c.args.text.now c.args.number f.0 f.1 c.args.changed.now c.args.self.now c.index.result.now f.2 c.requires.inside c.index.ensures in
    omega (arith, fits)

pub overflow_add-self-2 : goal.overflow_add-self-2
overflow_add-self-2 c =
    let f = c.requires.followed in
    let fits = row_fits c.args.text.now c.args.number f.0 f.1 c.args.changed.now c.args.self.now c.index.result.now f.2 c.requires.inside c.index.ensures in
    omega (arith, fits)

pub returns-in_default-clause-followed : goal.returns-in_default-clause-followed
returns-in_default-clause-followed c ts b f =
    let a = c.args.self.now in
    let same = one_row a.rows.items c.args.number c.index.result.now c.index-2.result.now c.requires.inside c.index.ensures c.index-2.ensures in
    no_command_followed c.args.text.now c.args.number ts b c.args.changed.now a c.index-2.result.now f c.requires.inside c.index-2.ensures
    _ c.in_default.is refl refl refl (ap (λ r. a.end + r.end) same)

pub returns-clause-followed : goal.returns-clause-followed
returns-clause-followed c ts b f =
    let a = c.args.self.now in
    let same = one_row a.rows.items c.args.number c.index.result.now c.index-2.result.now c.requires.inside c.index.ensures c.index-2.ensures in
    same_followed c.args.text.now c.args.number ts b c.args.changed.now a c.index-2.result.now f c.requires.inside c.index-2.ensures
    c.in-Some.command c.in-Some.is (rw c.deref.ensures.value at (none_marked_among _ c.args.changed.now c.has_any.result c.has_any.ensures c.if-has_any.false)) _ c.set.new.self
    refl refl (ap (λ r. a.end + r.end) same)
    (λ t binding. subst (λ n. IsBoundAfter t n a.bound c.rebind.new.self) c.bound-entry.ensures (c.rebind.ensures.bound t binding))
    c.rebind.ensures.keeps
    c.set.ensures

pub returns-clause-sound : goal.returns-clause-sound
returns-clause-sound c =
    let f = c.requires.followed in
    let a = c.args.self.now in
    same_sound c.args.text.now c.args.number f.0 f.1 c.args.changed.now a c.index-2.result.now f.2 c.requires.inside c.index-2.ensures
    c.in-Some.command c.in-Some.is (rw c.deref.ensures.value at (none_marked_among _ c.args.changed.now c.has_any.result c.has_any.ensures c.if-has_any.false)) _ refl c.requires.sound c.rebind.ensures.numbers
    (λ t binding. subst (λ n. IsBoundAfter t n a.bound c.rebind.new.self) c.bound-entry.ensures (c.rebind.ensures.bound t binding))
