use Rattle.std.proofs.Common.{map, length, arith}
use Rattle.lam_rules.specs.TypeViews.{typ_of}
use Rattle.lam_rules.specs.TermViews.{lent_of, term_of}
use Rattle.lam_query.specs.Views.{step_of}
use Rattle.lam_query.specs.declared.wrong_steps.Pending.TheVariants as pending
use Rattle.lam_query.specs.inner.Backwards.{said_at}
use Rattle.lam_query.proofs.PendingProofs.{each_known, each_left, if_right, not_right, on_ok, known_below, known_top, typing_known, typing_left, typing_right}
use Rattle.lam_query.proofs.wrong_steps.is_right_typing.Goals as goal

pub returns-in_default-clause-known : goal.returns-in_default-clause-known
returns-in_default-clause-known c =
    rw c.in_ok-push_each.ensures (each_known c.args.state.now.entries.items c.args.state.now.pending.items pending.Nothing (length c.args.premises.now) (known_below c.args.state.now.entries.items c.args.state.now.pending.items _ c.requires.known) tt tt)

pub returns-in_default-clause-left : goal.returns-in_default-clause-left
returns-in_default-clause-left c =
    rw (c.in_ok-push_each.ensures, c.in_default.is) (each_left c.args.state.now.entries.items c.args.state.now.pending.items pending.Nothing (said_at (map step_of c.args.steps.now)) c.args.premises.now)

pub enter-requires : goal.enter-requires
enter-requires c = (known_top c.args.state.now.entries.items c.args.state.now.pending.items _ c.requires.known).0

pub returns-then-not-well_formed-clause-known : goal.returns-then-not-well_formed-clause-known
returns-then-not-well_formed-clause-known c =
    typing_known c.args.state.now.entries.items c.enter.new.entries.items c.args.state.now.pending.items c.push_premises.new.pending.items c.args.seen (term_of c.in_ok-term.term.now)
    c.requires.known c.in_ok-term.ensures.subject c.in_ok-term.ensures.outside c.in_ok-term.well_formed c.in_ok-term.ensures.well_formed
    (c.in_ok-push_premises.ensures.known c.enter.new.entries.items (omega (arith, c.len.ensures)))

pub returns-then-not-well_formed-clause-left : goal.returns-then-not-well_formed-clause-left
returns-then-not-well_formed-clause-left c = rw c.in-Typing.is
    (typing_left c.args.state.now.entries.items c.enter.new.entries.items c.args.state.now.pending.items c.push_premises.new.pending.items c.args.seen (term_of c.in_ok-term.term.now)
    c.requires.known c.in_ok-term.ensures.subject c.in_ok-term.ensures.outside c.in-Typing.rule (lent_of c.first_type.result) (map (said_at (map step_of c.args.steps.now)) c.args.premises.now) c.in-Typing.span (typ_of c.in-Typing.ty)
    (c.in_ok-push_premises.ensures.left c.enter.new.entries.items (omega (arith, c.len.ensures))) c.first_type.ensures)

pub returns-then-not-well_formed-clause-right : goal.returns-then-not-well_formed-clause-right
returns-then-not-well_formed-clause-right c = rw c.in-Typing.is (not_right _ _ c.in_ok-term.well_formed
    (λ d. typing_right c.args.state.now.entries.items c.enter.new.entries.items c.args.state.now.pending.items c.push_premises.new.pending.items c.args.seen (term_of c.in_ok-term.term.now)
    c.requires.known c.in_ok-term.ensures.subject c.in_ok-term.ensures.outside c.in_ok-term.well_formed c.in-Typing.rule (map (said_at (map step_of c.args.steps.now)) c.args.premises.now) c.in-Typing.span (typ_of c.in-Typing.ty) d
    c.in_ok-term.ensures.well_formed) c.if-not-well_formed.true)

pub returns-clause-known : goal.returns-clause-known
returns-clause-known c = on_ok c.follows.result
    (typing_known c.args.state.now.entries.items c.enter.new.entries.items c.args.state.now.pending.items c.push_premises.new.pending.items c.args.seen (term_of c.in_ok-term.term.now)
    c.requires.known c.in_ok-term.ensures.subject c.in_ok-term.ensures.outside c.in_ok-term.well_formed c.in_ok-term.ensures.well_formed
    (c.in_ok-push_premises.ensures.known c.enter.new.entries.items (omega (arith, c.len.ensures))))

pub returns-clause-left : goal.returns-clause-left
returns-clause-left c = rw c.in-Typing.is (on_ok c.follows.result
    (typing_left c.args.state.now.entries.items c.enter.new.entries.items c.args.state.now.pending.items c.push_premises.new.pending.items c.args.seen (term_of c.in_ok-term.term.now)
    c.requires.known c.in_ok-term.ensures.subject c.in_ok-term.ensures.outside c.in-Typing.rule (lent_of c.first_type.result) (map (said_at (map step_of c.args.steps.now)) c.args.premises.now) c.in-Typing.span (typ_of c.in-Typing.ty)
    (c.in_ok-push_premises.ensures.left c.enter.new.entries.items (omega (arith, c.len.ensures))) c.first_type.ensures))

pub returns-clause-right : goal.returns-clause-right
returns-clause-right c = rw c.in-Typing.is (if_right _ _ c.in_ok-term.well_formed c.follows.result (rw c.deref.ensures.value at c.follows.ensures)
    (λ d. typing_right c.args.state.now.entries.items c.enter.new.entries.items c.args.state.now.pending.items c.push_premises.new.pending.items c.args.seen (term_of c.in_ok-term.term.now)
    c.requires.known c.in_ok-term.ensures.subject c.in_ok-term.ensures.outside c.in_ok-term.well_formed c.in-Typing.rule (map (said_at (map step_of c.args.steps.now)) c.args.premises.now) c.in-Typing.span (typ_of c.in-Typing.ty) d
    c.in_ok-term.ensures.well_formed) cc)
