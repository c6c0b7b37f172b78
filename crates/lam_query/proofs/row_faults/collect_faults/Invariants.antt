use Rattle.std.proofs.Common.{◌≡◌, ◌+◌, ◌++◌, map, drop}
use Rattle.std.specs.Option.{option_map, option_or}
use Rattle.lam_query.specs.Views.{fault_of}
use Rattle.lam_query.specs.inner.Kept.{rows_of, placed, bytes_of, place_after, AllFit, all_syntax, all_faults, large_written_type, large_term, first_in}
use Rattle.lam_query.proofs.row_faults.collect_faults.Given as goal

abbrev pub invariant-loop-i : goal.invariant-loop-i
invariant-loop-i l = record {
  counted : l.start + bytes_of (rows_of (drop l.i l.rows)) ≡ bytes_of (rows_of l.rows);
  syntax :
      AllFit (all_syntax (placed 0 (rows_of l.rows)))
      → map fault_of l.syntax.items ++ all_syntax (placed l.start (rows_of (drop l.i l.rows))) ≡ all_syntax (placed 0 (rows_of l.rows));
  types :
      AllFit (all_faults (placed 0 (rows_of l.rows)))
      → map fault_of l.types.items ++ all_faults (placed l.start (rows_of (drop l.i l.rows))) ≡ all_faults (placed 0 (rows_of l.rows));
  written :
      option_or (option_map place_after l.written) (first_in large_written_type (placed l.start (rows_of (drop l.i l.rows))))
      ≡ first_in large_written_type (placed 0 (rows_of l.rows));
  term :
      option_or (option_map place_after l.term) (first_in large_term (placed l.start (rows_of (drop l.i l.rows))))
      ≡ first_in large_term (placed 0 (rows_of l.rows));
}
