use Rattle.std.proofs.Common.{◌≡◌, ◌-◌, ℕ, List, [], length}
use Rattle.lam_typing.specs.Checking.{dialect_in}
use Rattle.lam_query.specs.inner.Analysts.{IsSound, IsReadTo}
use Rattle.lam_query.specs.inner.PieceRows.{outset}
use Rattle.lam_query.proofs.analyses.Analyst.read.Given as goal

abbrev pub invariant-loop : goal.invariant-loop
invariant-loop l = record {
  sound : IsSound l.self;
  dialect : dialect_in l.self.types ≡ dialect_in l.fn.self.types;
  rest : List ℕ;
  read : IsReadTo [] outset l.fn.text rest l.self;
}

abbrev pub decreases-loop : goal.decreases-loop
decreases-loop l = length l.fn.text - l.self.end
