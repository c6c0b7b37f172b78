use Rattle.std.proofs.Common.{◌-◌, ◌≤◌, drop, length, length-take, arith, ap, ◌∙◌}
use Rattle.lam_frame.proofs.Chunk.{dropped}
use Rattle.lam_frame.proofs.held.Held.drop_front.Goals as goal

pub returns : goal.returns
returns c =
    let fits : c.args.count ≤ c.self.inside.end - c.self.inside.start =
    omega (arith, c.self.invariant, ap length c.self.view_is, length-take (c.self.inside.end - c.self.inside.start) (drop c.self.inside.start c.self.inside.chunk.items)) in
    dropped c.self.inside.chunk.items c.self.inside.start c.self.inside.end c.args.count c.self.invariant.0 fits ∙ ap (drop c.args.count) c.self.view_is
