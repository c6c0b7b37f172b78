use Rattle.std.proofs.Common.{List, map, ap, arith}
use Rattle.lam_query.specs.declared.rows.Row.{Row as RustRow}
use Rattle.lam_query.specs.Faults.{Fault}
use Rattle.lam_query.specs.Views.{fault_of}
use Rattle.lam_query.specs.inner.Kept.{Row, found_in, faults_found, large_written_type, large_term}
use Rattle.lam_query.proofs.FaultsPlaced.{syntax_placed, types_placed, next_told}
use Rattle.lam_query.proofs.FirstLarge.{written_placed, term_placed, next_first}
use Rattle.lam_query.proofs.RowsPlaced.{next_counted}
use Rattle.lam_query.proofs.row_faults.collect_faults.Goals as goal

pub loop-i-preserved : goal.loop-i-preserved
loop-i-preserved c =
    let rows = c.args.rows.now in
    let i = c.loop-i.i in
    let start = c.loop-i.start in
    let r = c.index-rows-i.result in
    let is = c.index-rows-i.is in
    let lt = c.loop-i-test.true in
    let before = c.loop-i.invariant in
    let of_types : Row → List Fault = λ r. faults_found (found_in r) in
    let own = ap (map fault_of) c.deref.ensures.value in
    record {
      counted = omega (arith, next_counted rows i r lt start before.counted, ap (λ (q : RustRow). q.end) is);
      syntax = next_told (λ r. r.syntax) syntax_placed rows i r is lt start c.deref.result.now own _ _ _ c.in_ok-push_after.ensures before.syntax;
      types = next_told of_types types_placed rows i r is lt start c.faults.result.now c.faults.ensures _ _ _ c.in_ok-push_after-2.ensures before.types;
      written =
          next_first large_written_type written_placed rows i r is lt start c.loop-i.written c.first_of-written.result _
          (rw c.large_written_type.ensures at c.first_of-written.ensures) before.written;
      term = next_first large_term term_placed rows i r is lt start c.loop-i.term c.first_of-term.result _ (rw c.large_term.ensures at c.first_of-term.ensures) before.term;
    }
