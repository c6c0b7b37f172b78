use Rattle.std.proofs.Common.{◌≡◌, ◌+◌, ◌-◌, ◌<◌, length, get_or, drop, ap, arith}
use Rattle.std.proofs.lemmas.Iterator.{YieldsList-from_chars}
use Rattle.std.proofs.lemmas.Iterator.Consumers.{YieldsList-turn, YieldsList-end}
use Rattle.std.proofs.lemmas.List.{length_push, drop_all}
use Rattle.std.proofs.lemmas.Str.{encodes-chars}
use Rattle.std.specs.Char.{len_utf8}
use Rattle.std.specs.Str.{chars}
use Rattle.lam_text.specs.Units.{units_of}
use Rattle.lam_text.proofs.Walks.{front_bytes, front_bytes-stops, front_bytes-goes_on, front_bytes-le}
use Rattle.lam_text.proofs.units.bytes_within.Goals as goal
use Rattle.lam_text.proofs.units.bytes_within.Goals.{After-units_of-units, After-len_utf8-bytes}

-- this character is the next of the line
turn : (c : After-units_of-units) → (length c.loop-c.yielded < length (chars c.args.line.now)) × (c.in-Some.c ≡ get_or (chars c.args.line.now) (length c.loop-c.yielded) c.in-Some.c)
turn c =
    YieldsList-turn (YieldsList-from_chars c.args.line.now c.utf8.line cc) c.loop-c.yielded _ c.loop-c.yielded_by _ _ c.in-Some.c c.in-Some.is c.next.ensures.steps

-- the bytes that still fit, by this character and those after it
step : (c : After-len_utf8-bytes) → front_bytes c.args.encoding c.loop-c.left (drop (length c.loop-c.yielded) (chars c.args.line.now))
    ≡ len_utf8 c.in-Some.c + front_bytes c.args.encoding (c.loop-c.left - units_of c.args.encoding c.in-Some.c) (drop (length c.loop-c.yielded + 1) (chars c.args.line.now))
step c =
    let here = YieldsList-turn (YieldsList-from_chars c.args.line.now c.utf8.line cc) c.loop-c.yielded _ c.loop-c.yielded_by _ _ c.in-Some.c c.in-Some.is c.next.ensures.steps in
    front_bytes-goes_on c.args.encoding c.loop-c.left (chars c.args.line.now) (length c.loop-c.yielded) c.in-Some.c here (omega (arith, c.units_of-units.ensures))

pub returns-then-left-units : goal.returns-then-left-units
returns-then-left-units c =
    let stops = front_bytes-stops c.args.encoding c.loop-c.left (chars c.args.line.now) (length c.loop-c.yielded) c.in-Some.c (turn (goal.at.returns-then-left-units c).After-units_of-units) (omega (arith, c.units_of-units.ensures)) in
    omega (arith, stops, c.loop-c.invariant)

pub overflow_add-bytes : goal.overflow_add-bytes
overflow_add-bytes c =
    let whole = ap length (encodes-chars c.args.line.now c.utf8.line) in
    omega (arith, step (goal.at.overflow_add-bytes c).After-len_utf8-bytes, front_bytes-le c.args.encoding c.args.room (chars c.args.line.now), whole, c.loop-c.invariant, c.len_utf8-bytes.ensures.value)

pub loop-c-preserved : goal.loop-c-preserved
loop-c-preserved c =
    rw (c.units_of-units.ensures, length_push c.loop-c.yielded c.in-Some.c) (omega (arith, step (goal.at.loop-c-preserved c).After-len_utf8-bytes, c.loop-c.invariant, c.len_utf8-bytes.ensures.value))

pub returns : goal.returns
returns c =
    let end = YieldsList-end (YieldsList-from_chars c.args.line.now c.utf8.line cc) c.loop-c.yielded _ c.loop-c.yielded_by _ _ c.in-None.is c.next.ensures.steps in
    let none = ap (front_bytes c.args.encoding c.loop-c.left) (drop_all (length c.loop-c.yielded) (chars c.args.line.now) (omega (arith, end.1))) in
    omega (arith, none, c.loop-c.invariant)
