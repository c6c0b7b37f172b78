use Rattle.std.proofs.Common.{◌≡◌, ◌+◌, get_or, set, refl, ap, sym, ◌∙◌, arith}
use Rattle.std.specs.Prelude.{slice_range}
use Rattle.lam_query.proofs.FollowedRows.{row_fits, row_starts, row_stops, one_row, no_command_followed, anew_followed}
use Rattle.lam_query.proofs.MarkedNames.{same_entries, same_number}
use Rattle.lam_query.proofs.analyses.Analyst.type_again.Goals as goal

pub overflow_add-self : goal.overflow_add-self
overflow_add-self c =
    let f = c.requires.followed in
    let fits = row_fits c.args.text.now c.args.number f.0 f.1 c.args.changed.now c.args.self.now c.index.result.now f.2 c.requires.inside c.index.ensures in
    omega (arith, fits)

pub returns-in_default-clause-followed : goal.returns-in_default-clause-followed
returns-in_default-clause-followed c ts b f =
    let a = c.args.self.now in
    let same = one_row a.rows.items c.args.number c.index.result.now c.index-2.result.now c.requires.inside c.index.ensures c.index-2.ensures in
    no_command_followed c.args.text.now c.args.number ts b c.args.changed.now a c.index-2.result.now f c.requires.inside c.index-2.ensures
    _ c.in_default.is refl refl refl (ap (λ r. a.end + r.end) same)

pub range-requires-clause-start_boundary : goal.range-requires-clause-start_boundary
range-requires-clause-start_boundary c = λ positive.
    let f = c.requires.followed in
    row_starts c.args.text.now c.args.number f.0 f.1 c.args.changed.now c.args.self.now c.index.result.now f.2 c.requires.inside c.index.ensures

pub range-requires-clause-end_boundary : goal.range-requires-clause-end_boundary
range-requires-clause-end_boundary c =
    let f = c.requires.followed in
    row_stops c.args.text.now c.args.number f.0 f.1 c.args.changed.now c.args.self.now c.index.result.now f.2 c.requires.inside c.index.ensures

pub returns-clause-followed : goal.returns-clause-followed
returns-clause-followed c ts b f =
    let a = c.args.self.now in
    let n = c.args.number in
    let q = c.index-2.result.now in
    let r = c.index_mut.result.now in
    let o = c.in_ok-row.row in
    let by = c.in_ok-row.ensures.kept in
    let same = one_row a.rows.items n c.index.result.now q c.requires.inside c.index.ensures c.index-2.ensures in
    let again : r ≡ q =
    one_row a.rows.items n r q c.requires.inside (c.index_mut.ensures.value ∙ ap (λ v. get_or v.items n r) by.rows) c.index-2.ensures in
    anew_followed c.args.text.now n ts b c.args.changed.now a q f c.requires.inside c.index-2.ensures c.in-Some.command c.in-Some.is
    _ c.keep.new.self c.set.new.self c.ne.result _ o c.range.result.now
    (c.range.ensures.value ∙ ap (λ p. slice_range c.args.text.now a.end (a.end + p.end)) same)
    c.in_ok-command.ensures refl refl by c.keep.ensures.dialect _ refl refl
    (ap (λ v. set v.items n (record r { command = o })) by.rows ∙ ap (λ p. set a.rows.items n (record p { command = o })) again)
    (by.end ∙ ap (λ p. a.end + p.end) same)
    c.set.ensures
    (λ un. sym c.entry_of.ensures ∙ same_entries _ c.entry_of.result c.bound-entry.result (λ x y e. same_number x y e) (sym c.ne.ensures ∙ un) ∙ c.bound-entry.ensures)
