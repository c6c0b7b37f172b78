use Rattle.std.proofs.Common.{[], refl, arith}
use Rattle.lam_frame.specs.Device.{source_of}
use Rattle.lam_frame.specs.Frame.IsOpen.{InHeader}
use Rattle.lam_frame.proofs.Pulls.{pulling_more, pulling_failed}
use Rattle.lam_frame.proofs.Answered.{header_cut, header_end, header_faulty, header_whole}
use Rattle.lam_frame.proofs.reader.read_header.Goals as goal

pub returns-in-Faulty-clause-reads : goal.returns-in-Faulty-clause-reads
returns-in-Faulty-clause-reads g c =
    header_faulty (source_of g.S.Source.coming g.S.Source.failed g.S.Source.gave) _ _ _ _ _ _ _ c.loop-header.invariant (rw c.bytes.ensures at c.in-Faulty.ensures)

pub pull_more-requires-clause-failures : goal.pull_more-requires-clause-failures
pull_more-requires-clause-failures g c =
    omega (arith, c.requires.failures, pulling_failed (source_of g.S.Source.coming g.S.Source.failed g.S.Source.gave) _ _ _ _ _ _ _ c.loop-header.invariant)

pub returns-in-Ok-eq0-clause-reads : goal.returns-in-Ok-eq0-clause-reads
returns-in-Ok-eq0-clause-reads g c =
    let open_so_far = rw c.bytes.ensures at c.in-Open.ensures in
    header_end (source_of g.S.Source.coming g.S.Source.failed g.S.Source.gave) _ _ _ _ _ _ _ _ _ _ _ c.loop-header.invariant (InHeader open_so_far.0 open_so_far.1) c.in-Ok-eq0.field-0-test c.in-Ok-eq0.ensures c.end_of_input.ensures

pub loop-header-preserved : goal.loop-header-preserved
loop-header-preserved g c =
    let open_so_far = rw c.bytes.ensures at c.in-Open.ensures in
    let more = c.in-Ok.ensures in
    rw more.1.0 (pulling_more (source_of g.S.Source.coming g.S.Source.failed g.S.Source.gave) _ _ _ _ _ _ _ [] _ _ _ _ c.loop-header.invariant (InHeader open_so_far.0 open_so_far.1) refl more.1.1 c.in-Ok.field-0-test.1 more.0)

pub returns-in-Whole-clause-reads : goal.returns-in-Whole-clause-reads
returns-in-Whole-clause-reads g c =
    let start = rw c.bytes.ensures at c.in-Whole.ensures in
    rw c.drop_front.ensures (header_whole (source_of g.S.Source.coming g.S.Source.failed g.S.Source.gave) _ _ _ _ _ _ _ _ c.loop-header.invariant start)

pub returns-in-Err-clause-reads : goal.returns-in-Err-clause-reads
returns-in-Err-clause-reads g c =
    let open_so_far = rw c.bytes.ensures at c.in-Open.ensures in
    header_cut (source_of g.S.Source.coming g.S.Source.failed g.S.Source.gave) _ _ _ _ _ _ _ _ _ _ c.loop-header.invariant (InHeader open_so_far.0 open_so_far.1) c.in-Err.ensures
