use Rattle.std.proofs.Common.{◌≡◌, ◌+◌, length, drop, ap, arith}
use Rattle.std.proofs.lemmas.Iterator.{YieldsList-from_chars}
use Rattle.std.proofs.lemmas.Iterator.Consumers.{YieldsList-turn, YieldsList-end}
use Rattle.std.proofs.lemmas.List.{length_push, drop_all}
use Rattle.std.proofs.lemmas.Str.{encodes-chars}
use Rattle.std.specs.Str.{chars}
use Rattle.lam_text.specs.Units.{units_of, units}
use Rattle.lam_text.proofs.Walks.{units-drop, units-le-length}
use Rattle.lam_text.proofs.units.units_in.Goals as goal
use Rattle.lam_text.proofs.units.units_in.Goals.{After-units_of-units}

-- the units of the characters that are left, by this one and those after it
step : (c : After-units_of-units) → units c.args.encoding (drop (length c.loop-c.yielded) (chars c.args.text.now))
    ≡ units_of c.args.encoding c.in-Some.c + units c.args.encoding (drop (length c.loop-c.yielded + 1) (chars c.args.text.now))
step c =
    let turn = YieldsList-turn (YieldsList-from_chars c.args.text.now c.utf8.text cc) c.loop-c.yielded _ c.loop-c.yielded_by _ _ c.in-Some.c c.in-Some.is c.next.ensures.steps in
    units-drop c.args.encoding (chars c.args.text.now) (length c.loop-c.yielded) c.in-Some.c turn

pub overflow_add-units : goal.overflow_add-units
overflow_add-units c =
    let whole = ap length (encodes-chars c.args.text.now c.utf8.text) in
    omega (arith, step (goal.at.overflow_add-units c).After-units_of-units, units-le-length c.args.encoding (chars c.args.text.now), whole, c.loop-c.invariant)

pub loop-c-preserved : goal.loop-c-preserved
loop-c-preserved c =
    rw (length_push c.loop-c.yielded c.in-Some.c) (omega (arith, step (goal.at.loop-c-preserved c).After-units_of-units, c.loop-c.invariant, c.units_of-units.ensures))

pub returns : goal.returns
returns c =
    let end = YieldsList-end (YieldsList-from_chars c.args.text.now c.utf8.text cc) c.loop-c.yielded _ c.loop-c.yielded_by _ _ c.in-None.is c.next.ensures.steps in
    let none = ap (units c.args.encoding) (drop_all (length c.loop-c.yielded) (chars c.args.text.now) (omega (arith, end.1))) in
    omega (arith, none, c.loop-c.invariant)
