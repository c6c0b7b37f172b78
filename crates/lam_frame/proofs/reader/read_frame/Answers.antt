use Rattle.std.proofs.Common.{Ok, Err, ap, arith}
use Rattle.lam_frame.specs.Device.{source_of}
use Rattle.lam_frame.specs.Frame.{IsOpen}
use Rattle.lam_frame.proofs.Joined.{no_header, header_and_body}
use Rattle.lam_frame.proofs.Pulls.{PulledWhile-failed}
use Rattle.lam_frame.proofs.reader.read_frame.Goals as goal

pub read_body-requires-clause-failures : goal.read_body-requires-clause-failures
read_body-requires-clause-failures g c =
    let r = rw c.in-Ok-Some.field-0-is at c.in-Ok-Some.ensures.reads in
    let unfailed = PulledWhile-failed (source_of g.S.Source.coming g.S.Source.failed g.S.Source.gave) IsOpen _ _ _ r.pieces r.needed in
    omega (arith, ap g.S.Source.failed r.after, unfailed, c.requires.failures)

pub returns-in-Ok : goal.returns-in-Ok
returns-in-Ok g c = record {
  reads = header_and_body (λ b. b.items) (source_of g.S.Source.coming g.S.Source.failed g.S.Source.gave) _ _ _ _ _ _ _ (Ok c.in-Ok.body) _ _ _ (rw c.in-Ok-Some.field-0-is at c.in-Ok-Some.ensures.reads) c.in-Ok.ensures;
}

pub returns-in-Err-read_body : goal.returns-in-Err-read_body
returns-in-Err-read_body g c = record {
  reads = header_and_body (λ b. b.items) (source_of g.S.Source.coming g.S.Source.failed g.S.Source.gave) _ _ _ _ _ _ _ (Err c.in-Err-read_body.fault) _ _ _ (rw c.in-Ok-Some.field-0-is at c.in-Ok-Some.ensures.reads) c.in-Err-read_body.ensures;
}

pub returns-in-Err : goal.returns-in-Err
returns-in-Err g c = record { reads = no_header (λ b. b.items) (source_of g.S.Source.coming g.S.Source.failed g.S.Source.gave) _ _ _ _ _ _ _ c.in-Err.ensures.reads }
