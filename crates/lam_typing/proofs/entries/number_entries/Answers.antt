use Rattle.std.proofs.Common.{[], None, ap, refl, sym, subst, ◌∙◌}
use Rattle.std.proofs.lemmas.List.{get_or_default}
use Rattle.lam_rules.specs.Typing.{IsWellFormedEntry}
use Rattle.lam_rules.proofs.Tables.{keeps_same}
use Rattle.lam_typing.specs.Answers.{answers}
use Rattle.lam_typing.specs.inner.Notes.{entry_told}
use Rattle.lam_typing.proofs.Growing.{answers_keep, all_stand_keep}
use Rattle.lam_typing.proofs.Numbering.{numbered_more}
use Rattle.lam_typing.proofs.entries.number_entries.Goals as goal

pub loop-i-init : goal.loop-i-init
loop-i-init c = record {
  keeps = keeps_same c.args.table.now;
  stand = rw c.in_ok-entries.ensures.items tt;
  told = rw c.in_ok-entries.ensures.items refl;
}

pub number_of-requires-clause-found : goal.number_of-requires-clause-found
number_of-requires-clause-found c = all_stand_keep c.args.table.now c.loop-i.table c.args.found.now c.loop-i.invariant.keeps c.requires.found

pub number_of-requires-clause-wf : goal.number_of-requires-clause-wf
number_of-requires-clause-wf c =
    let source = c.index-sources-i.result in
    let at = c.index-sources-i.is ∙ get_or_default c.args.sources.now c.loop-i.i source None c.loop-i-test.true in
    subst (λ e. IsWellFormedEntry (entry_told [] e)) (sym at) (c.requires.wf c.loop-i.i)

pub loop-i-preserved : goal.loop-i-preserved
loop-i-preserved c =
    let same = answers_keep c.args.table.now c.loop-i.table c.args.found.now c.loop-i.invariant.keeps c.requires.found in
    let source = c.index-sources-i.result in
    let told = c.in_ok-number.ensures.told ∙ ap (λ os. entry_told os source) same ∙ ap (entry_told (answers c.args.table.now c.args.found.now)) c.index-sources-i.is in
    numbered_more c.args.table.now c.loop-i.table c.number_of.new.table (entry_told (answers c.args.table.now c.args.found.now))
    c.loop-i.entries.items c.push.new.self.items c.in_ok-number.number c.loop-i.i source c.args.sources.now
    c.loop-i-test.true c.number_of.ensures.keeps c.in_ok-number.ensures.stands told c.in_ok-push.ensures.items c.loop-i.invariant
