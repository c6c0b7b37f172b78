use Rattle.std.proofs.Common.{◌≡◌, arith, rules}
use Rattle.std.specs.List.{prefix_len}
use Rattle.std.proofs.lemmas.List.Sorted.{IsPartitionPoint-from_clause, IsPartitionedBy-leb}
use Rattle.std.proofs.lemmas.List.Sums.{prefix_len-le-length}
use Rattle.lam_text.specs.inner.Search.{starts_by}
use Rattle.lam_text.proofs.Splices.{starts_rise-index, some_starts_by, prefix_len-point}
use Rattle.lam_text.proofs.index.line_at.Goals as goal
use Rattle.lam_text.proofs.index.line_at.Goals.{After-partition_point}

found : (c : After-partition_point) → prefix_len (starts_by c.args.offset) c.args.marks.now ≡ c.partition_point.result
found c =
    let parted = IsPartitionedBy-leb (λ mark. mark.start) _ c.args.offset (starts_rise-index c.args.marks.now c.requires) in
    let point = IsPartitionPoint-from_clause (starts_by c.args.offset) _ _ c.partition_point.ensures.partitioned parted (λ a r q k. search rules) in
    prefix_len-point c.args.offset c.args.marks.now c.partition_point.result c.partition_point.ensures.bound point

pub overflow_sub-result : goal.overflow_sub-result
overflow_sub-result c = omega (arith, found (goal.at.overflow_sub-result c).After-partition_point, some_starts_by c.args.offset c.args.marks.now c.requires)

pub returns-clause-within : goal.returns-clause-within
returns-clause-within c = omega (arith, found (goal.at.returns-clause-within c).After-partition_point, some_starts_by c.args.offset c.args.marks.now c.requires, prefix_len-le-length (starts_by c.args.offset) c.args.marks.now)

pub returns-clause-line : goal.returns-clause-line
returns-clause-line c = omega (arith, found (goal.at.returns-clause-line c).After-partition_point, some_starts_by c.args.offset c.args.marks.now c.requires)
