use Rattle.lam_frame.specs.Device.{source_of}
use Rattle.lam_frame.proofs.Told.{reads_told, reads_failures, reads_progress}
use Rattle.lam_frame.proofs.reader.FrameReader.next.Goals as goal

pub returns-after-answer-clause-told : goal.returns-after-answer-clause-told
returns-after-answer-clause-told g c =
    λ _. rw (← c.self.view_is) (reads_told (λ b. b.items) (source_of g.S.Source.coming g.S.Source.failed g.S.Source.gave) _ _ _ _ _ _ _ c.read_frame-answer.ensures.reads)

pub returns-after-answer-clause-failures : goal.returns-after-answer-clause-failures
returns-after-answer-clause-failures g c = reads_failures (λ b. b.items) (source_of g.S.Source.coming g.S.Source.failed g.S.Source.gave) _ _ _ _ _ _ _ c.read_frame-answer.ensures.reads

pub returns-after-answer-clause-progress : goal.returns-after-answer-clause-progress
returns-after-answer-clause-progress g c =
    rw (← c.self.view_is) (reads_progress (λ b. b.items) (source_of g.S.Source.coming g.S.Source.failed g.S.Source.gave) _ _ _ _ _ _ _ c.read_frame-answer.ensures.reads)
