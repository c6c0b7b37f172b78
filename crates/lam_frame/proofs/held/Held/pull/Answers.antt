use Rattle.std.proofs.Common.{◌≡◌, ◌-◌, ◌≤◌, ◌<◌, take, drop, length, length-take, length-drop, ap, ◌∙◌, arith}
use Rattle.lam_frame.proofs.Chunk.{length-moved, pulled_behind}
use Rattle.lam_frame.proofs.held.Held.pull.Goals as goal

pub returns-in-Ok : goal.returns-in-Ok
returns-in-Ok g c =
    let size : length c.args.self.now ≡ c.self.inside.end - c.self.inside.start =
    omega (
      arith,
      c.self.invariant,
      ap length c.self.view_is,
      length-take (c.self.inside.end - c.self.inside.start) (drop c.self.inside.start c.self.inside.chunk.items),
      length-drop c.self.inside.start c.self.inside.chunk.items,
    ) in
    let fits : c.self.inside.end - c.self.inside.start < 65536 = omega (arith, size, c.requires.room) in
    let moved_is = c.deref_mut.ensures.value ∙ c.copy_within.ensures.items in
    let within : c.self.inside.end ≤ length c.self.inside.chunk.items = omega (arith, c.self.invariant) in
    let kept : length c.deref_mut.result.now ≡ 65536 =
    length-moved c.self.inside.chunk.items c.deref_mut.result.now c.self.inside.start c.self.inside.end c.self.invariant.0 within moved_is ∙ c.self.invariant.1.1 in
    let room : length c.pull.new.into ≡ 65536 - (c.self.inside.end - c.self.inside.start) =
    omega (
      arith,
      kept,
      c.pull.auto.into,
      length-take (length c.deref_mut.result.now - (c.self.inside.end - c.self.inside.start)) (drop (c.self.inside.end - c.self.inside.start) c.deref_mut.result.now),
      length-drop (c.self.inside.end - c.self.inside.start) c.deref_mut.result.now,
    ) in
    record {
      piece = take c.in-Ok.count c.pull.new.into;
      given = c.in-Ok.ensures.1 (omega (arith, fits, room));
      counted = omega (arith, length-take c.in-Ok.count c.pull.new.into, c.in-Ok.ensures.0);
      small = omega (arith, c.in-Ok.ensures.0, room);
      added = pulled_behind c.self.inside.chunk.items c.deref_mut.result.now c.pull.new.into c.args.self.now c.self.inside.start c.self.inside.end c.in-Ok.count _ (length c.deref_mut.result.now - (c.self.inside.end - c.self.inside.start))
          c.self.invariant.0 within moved_is c.in-Ok.ensures.0 c.self.view_is (omega arith) _ _ (omega (arith, room, fits, c.in-Ok.ensures.0, c.copy_within.ensures.len, c.self.invariant));
    }
