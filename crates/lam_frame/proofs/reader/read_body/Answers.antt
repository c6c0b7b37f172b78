use Rattle.std.proofs.Common.{◌≡◌, length, sym, arith, ◌∙◌}
use Rattle.lam_frame.specs.Device.{source_of}
use Rattle.lam_frame.proofs.Pulls.{pulling_more, pulling_failed}
use Rattle.lam_frame.proofs.Answered.{body_cut, body_end, body_whole, body_without_room, moved_open}
use Rattle.lam_frame.proofs.reader.read_body.Goals as goal

pub pull_more-requires-clause-failures : goal.pull_more-requires-clause-failures
pull_more-requires-clause-failures g c =
    omega (arith, c.requires.failures, pulling_failed (source_of g.S.Source.coming g.S.Source.failed g.S.Source.gave) _ _ _ _ _ _ _ c.loop-body.invariant.pulling)

pub returns-in-Ok-eq0 : goal.returns-in-Ok-eq0
returns-in-Ok-eq0 g c =
    let short : length c.move_bytes.new.body.items ≡ c.args.size → ⊥ = λ e. c.if-len-size.false (c.len.ensures ∙ c.move_bytes.new.body.ok.0 ∙ e) in
    body_end (source_of g.S.Source.coming g.S.Source.failed g.S.Source.gave) _ _ _ _ _ _ _ _ _ _ _ _ _ _ c.loop-body.invariant.pulling (moved_open _ _ _ _ _ c.in-Ok.ensures short) (sym c.in-Ok.ensures.same)
    c.in-Ok-eq0.field-0-test c.in-Ok-eq0.ensures

pub loop-body-preserved : goal.loop-body-preserved
loop-body-preserved g c =
    let short : length c.move_bytes.new.body.items ≡ c.args.size → ⊥ = λ e. c.if-len-size.false (c.len.ensures ∙ c.move_bytes.new.body.ok.0 ∙ e) in
    let more = c.in-Ok-pull_more.ensures in
    record {
      pulling = rw more.1.0 (pulling_more (source_of g.S.Source.coming g.S.Source.failed g.S.Source.gave) _ _ _ _ _ _ _ _ _ _ _ _ c.loop-body.invariant.pulling (moved_open _ _ _ _ _ c.in-Ok.ensures short)
          (sym c.in-Ok.ensures.same) more.1.1 c.in-Ok-pull_more.field-0-test.1 more.0);
      within = c.in-Ok.ensures.within;
    }

pub returns-in_default : goal.returns-in_default
returns-in_default g c = body_without_room (source_of g.S.Source.coming g.S.Source.failed g.S.Source.gave) (λ b. b.items) _ _ _ _ _ _ _ _ c.loop-body.invariant.pulling

pub returns-then-len-size : goal.returns-then-len-size
returns-then-len-size g c =
    body_whole (source_of g.S.Source.coming g.S.Source.failed g.S.Source.gave) (λ b. b.items) _ _ _ _ _ _ _ c.move_bytes.new.body _ c.loop-body.invariant.pulling c.in-Ok.ensures.same
    (sym (c.len.ensures ∙ c.move_bytes.new.body.ok.0) ∙ c.if-len-size.true)

pub returns-in-Err : goal.returns-in-Err
returns-in-Err g c =
    let short : length c.move_bytes.new.body.items ≡ c.args.size → ⊥ = λ e. c.if-len-size.false (c.len.ensures ∙ c.move_bytes.new.body.ok.0 ∙ e) in
    body_cut (source_of g.S.Source.coming g.S.Source.failed g.S.Source.gave) (λ b. b.items) _ _ _ _ _ _ _ _ c.move_bytes.new.held _ _ _ c.loop-body.invariant.pulling (moved_open _ _ _ _ _ c.in-Ok.ensures short) c.in-Err.ensures
