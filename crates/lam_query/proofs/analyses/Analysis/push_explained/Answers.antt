use Rattle.std.proofs.Common.{◌≡◌, ◌<◌, ◌^◌, length, map, refl, subst, ap, arith}
use Rattle.lam_typing.specs.Checking.{types_in}
use Rattle.lam_query.specs.Views.{explained_of}
use Rattle.lam_query.specs.inner.Entries.{IsPassedBy}
use Rattle.lam_query.specs.inner.Explained.{AreEntriesAround}
use Rattle.lam_query.specs.inner.Kept.{rows_of, row_of, row_after, placed, found_in, faults_found}
use Rattle.lam_query.specs.inner.Rows.{IsRowAround}
use Rattle.lam_query.proofs.ExplainedRows.{passed_more, none_explained, one_explained, all_explained, around, counted_on, entries_around}
use Rattle.lam_query.proofs.PieceAround.{ends_inside, starts_between, stops_between}
use Rattle.lam_query.proofs.analyses.Analysis.push_explained.Goals as goal
use Rattle.lam_query.proofs.analyses.Analysis.push_explained.Goals.{After-index-row, After-range}

pub loop-number-init : goal.loop-number-init
loop-number-init c = (
  omega arith,
  c.in_ok-entries.ensures.passed,
  λ commands of_text. none_explained commands c.args.self.now.rows.items (map explained_of c.args.all.now.items) c.args.self.now.dialect,
)

-- the row that is read
inside : (c : After-index-row) → c.loop-number.number < length c.args.self.now.rows.items
inside c = omega (arith, c.loop-number-test.true, c.len-number-end.ensures, c.args.self.now.rows.ok.0)

-- is that of the piece there
there : (c : After-index-row)
    → IsRowAround c.args.text.now c.loop-number.start (placed 0 (rows_of c.args.self.now.rows.items)) (record { start = c.loop-number.start; number = c.loop-number.number })
    (types_in c.args.self.now.types) c.args.self.now.dialect
there c = around c.args.text.now c.args.self.now c.requires.of c.loop-number.number c.loop-number.start c.index-row.result.now c.index-row.ensures (inside c) c.loop-number.invariant.0

-- and before it, names mean what the entries say
here : (c : After-range) → c.loop-number.number < length c.args.self.now.rows.items
    → (e : AreEntriesAround c.args.text.now c.args.self.now (record { text = c.range.result; start = c.loop-number.start; number = c.loop-number.number }) c.loop-number.entries)
    × (e.here.around.row ≡ row_after c.loop-number.start (row_of c.index-row.result.now))
here c lt =
    let short : length c.args.text.now < 2 ^ 64 = omega arith in
    entries_around c.args.text.now c.args.self.now c.requires.of c.loop-number.number c.loop-number.start c.index-row.result.now c.index-row.ensures lt c.loop-number.invariant.0
    _ c.loop-number.entries refl refl c.range.ensures.value short c.loop-number.invariant.1

pub overflow_add-start : goal.overflow_add-start
overflow_add-start c =
    omega (arith, ends_inside c.args.text.now c.args.self.now c.loop-number.start _ (there (goal.at.overflow_add-start c).After-index-row) c.index-row.result.now _ c.index-row.ensures)

pub range-requires-clause-start_boundary : goal.range-requires-clause-start_boundary
range-requires-clause-start_boundary c = λ positive.
    starts_between c.args.text.now c.args.self.now c.loop-number.start _ (there (goal.at.range-requires-clause-start_boundary c).After-index-row) c.index-row.result.now _ c.index-row.ensures c.requires.of.is_text

pub range-requires-clause-end_boundary : goal.range-requires-clause-end_boundary
range-requires-clause-end_boundary c =
    stops_between c.args.text.now c.args.self.now c.loop-number.start _ (there (goal.at.range-requires-clause-end_boundary c).After-index-row) c.index-row.result.now _ c.index-row.ensures c.requires.of.is_text

pub push_faults_of-requires-clause-there : goal.push_faults_of-requires-clause-there
push_faults_of-requires-clause-there c =
    let at = goal.at.push_faults_of-requires-clause-there c in
    (c.args.text.now, c.requires.of, (here at.After-range (inside at.After-index-row)).0)

pub loop-number-preserved : goal.loop-number-preserved
loop-number-preserved c =
    let at = goal.at.loop-number-preserved c in
    let text = c.args.text.now in
    let a = c.args.self.now in
    let rows = a.rows.items in
    let number = c.loop-number.number in
    let start = c.loop-number.start in
    let r = c.index-row.result.now in
    let lt = inside at.After-index-row in
    let around_it = here at.After-range lt in (
      counted_on text a c.requires.of number start r c.index-row.ensures lt c.loop-number.invariant.0,
      passed_more a.bound rows number r c.loop-number.entries c.pass.new.self c.index-row.ensures lt c.loop-number.invariant.1
          (subst (λ rs. IsPassedBy (rows_of rs) c.loop-number.entries c.pass.new.self) c.from_ref.ensures.value c.pass.ensures),
      λ commands of_text.
          one_explained commands rows number start r (map explained_of c.args.all.now.items) (map explained_of c.loop-number.all.items)
          (map explained_of c.push_faults_of.new.all.items) a.dialect _ c.index-row.ensures lt (ap (λ q. faults_found (found_in q)) around_it.1)
          (c.loop-number.invariant.2 commands of_text) (c.in_ok-push_faults_of.ensures text commands around_it.0 c.requires.of of_text),
    )

pub returns : goal.returns
returns c = λ commands of_text.
    all_explained commands c.args.self.now.rows.items c.loop-number.number c.loop-number.start _ _ c.args.self.now.dialect
    (omega (arith, c.loop-number-test.false, c.len-number-end.ensures, c.args.self.now.rows.ok.0))
    (c.loop-number.invariant.2 commands of_text)
