use Rattle.std.proofs.Common.{◌≡◌, ◌≤◌, ◌++◌, List, Vec, Global, length, take, drop, slice_range, sym, ap, subst, ◌∙◌, arith}
use Rattle.lam_typing.specs.Checking.{types_in}
use Rattle.lam_query.specs.declared.rows.Row.{Row as RustRow}
use Rattle.lam_query.specs.inner.Entries.{IsPassedBy}
use Rattle.lam_query.specs.inner.Fronts.{AreRowsWithin}
use Rattle.lam_query.specs.inner.Kept.{rows_of, bytes_of}
use Rattle.lam_query.proofs.ChangedTexts.{pieces_in, bytes_in, many_pieces, old_pieces, IsBegun, front_sight, ahead, rest_in, front_inside, count_inside, left_bytes, begun_read, begun_sound, begun_met, met_inside, all_read, some_left_of}
use Rattle.lam_query.proofs.RowsPutBetween.{same_sound, HasReadOn, IsPutBetween, all_put, left_from, some_left}
use Rattle.lam_query.proofs.analyses.Analysis.changed.Goals as goal
use Rattle.lam_query.proofs.analyses.Analysis.changed.Goals.{After-deref-2}

-- ---- behind the pieces in front of the change

begun : (c : After-deref-2) → IsBegun c.args.old.now c.args.new.now c.args.self c.rows_within-front.result c.after-analyst.result.0
begun c =
    let behind = c.after-analyst.ensures in
    record {
      of = c.requires;
      bytes = c.common_front.result;
      both = c.common_front.ensures;
      within = subst (λ (rs : List RustRow). AreRowsWithin c.common_front.result c.rows_within-front.result (rows_of rs)) c.deref.ensures.value c.rows_within-front.ensures;
      types = behind.types;
      none = behind.none;
      end = behind.end;
      between = behind.between;
      bound = behind.bound;
      stand = behind.stand;
      keeps = behind.keeps;
      numbers = behind.numbers;
    }

-- the rows are those of the old text
items : (c : After-deref-2) → c.deref-2.result.now ≡ c.args.self.rows.items
items c = c.deref-2.ensures.value ∙ ap (λ (v : Vec RustRow Global). v.items) c.after-analyst.ensures.rows

pub rows_within-front-requires : goal.rows_within-front-requires
rows_within-front-requires c =
    let all = ap (λ (rs : List RustRow). bytes_of (rows_of rs)) c.deref.ensures.value ∙ bytes_in c.requires in
    omega (arith, all)

pub after-analyst-requires-clause-inside : goal.after-analyst-requires-clause-inside
after-analyst-requires-clause-inside c =
    let within = subst (λ (rs : List RustRow). AreRowsWithin c.common_front.result c.rows_within-front.result (rows_of rs)) c.deref.ensures.value c.rows_within-front.ensures in
    front_inside c.common_front.result c.rows_within-front.result c.args.self.rows.items within

pub new-old_pieces-requires-clause-inside : goal.new-old_pieces-requires-clause-inside
new-old_pieces-requires-clause-inside c =
    let at = (goal.at.new-old_pieces-requires-clause-inside c).After-deref-2 in
    omega (arith, count_inside (begun at), ap length (items at))

pub new-old_pieces-requires-clause-counted : goal.new-old_pieces-requires-clause-counted
new-old_pieces-requires-clause-counted c =
    let at = (goal.at.new-old_pieces-requires-clause-counted c).After-deref-2 in
    left_bytes (begun at) ∙ ap (λ (rs : List RustRow). bytes_of (drop c.rows_within-front.result.count (rows_of rs))) (sym (items at))

pub read_until-requires-clause-sound : goal.read_until-requires-clause-sound
read_until-requires-clause-sound c = begun_sound (begun (goal.at.read_until-requires-clause-sound c).After-deref-2)

pub read_until-requires-clause-read : goal.read_until-requires-clause-read
read_until-requires-clause-read c =
    let h = begun (goal.at.read_until-requires-clause-read c).After-deref-2 in
    (ahead h, front_sight h, rest_in h, begun_read h)

pub read_until-requires-clause-old : goal.read_until-requires-clause-old
read_until-requires-clause-old c =
    let left = c.new-old_pieces.ensures in
    let are = old_pieces c.requires c.args.new.now c.new-old_pieces.result _ _ (items (goal.at.read_until-requires-clause-old c).After-deref-2)
    left.left left.common c.common_end-common.ensures in
    (c.args.old.now, pieces_in c.requires, are)

-- ---- behind the pieces that were read

pub slice_bounds-pass-end : goal.slice_bounds-pass-end
slice_bounds-pass-end c =
    let at = (goal.at.slice_bounds-pass-end c).After-deref-2 in
    let h = begun at in
    let left = c.new-old_pieces.ensures in
    let met = begun_met h c.new-old_pieces.result _ _ (items at) left.left left.common c.common_end-common.ensures _ _ c.in_ok-read_until.ensures.met in
    omega (arith, met_inside h _ _ met, many_pieces h.of, ap length (items at))

pub put_between-requires-clause-inside : goal.put_between-requires-clause-inside
put_between-requires-clause-inside c =
    let at = (goal.at.put_between-requires-clause-inside c).After-deref-2 in
    let h = begun at in
    let left = c.new-old_pieces.ensures in
    let met = begun_met h c.new-old_pieces.result _ _ (items at) left.left left.common c.common_end-common.ensures _ _ c.in_ok-read_until.ensures.met in
    let many = ap (λ (v : Vec RustRow Global). length v.items) c.after-analyst.ensures.rows in
    omega (arith, met_inside h _ _ met, many_pieces h.of, many)

pub finish-requires-clause-sound : goal.finish-requires-clause-sound
finish-requires-clause-sound c =
    same_sound c.read_until.new.self c.put_between.new.self c.in_ok-next.ensures.types c.in_ok-next.ensures.bound c.in_ok-read_until.ensures.sound

pub finish-requires-clause-read : goal.finish-requires-clause-read
finish-requires-clause-read c =
    let a = c.args.self in
    let at = (goal.at.finish-requires-clause-read c).After-deref-2 in
    let h = begun at in
    let left = c.new-old_pieces.ensures in
    let now = c.read_until.new.self in
    let to = c.read_until.new.old.next in
    let read = c.in_ok-read_until.ensures in
    let met = begun_met h c.new-old_pieces.result _ _ (items at) left.left left.common c.common_end-common.ensures _ _ c.in_ok-read_until.ensures.met in
    let rows = c.after-analyst.ensures.rows in
    let long = c.len-count.ensures ∙ c.after-analyst.result.1.ok.0 ∙ ap (λ (v : Vec RustRow Global). length v.items) rows in
    let y = c.put_between.new.self in
    let done = c.in_ok-next.ensures in
    let on : HasReadOn c.after-analyst.result.0 now = record { keeps = read.keeps; numbers = read.numbers; dialect = read.dialect } in
    let put : IsPutBetween a c.rows_within-front.result.count to now y = record {
      rows = done.rows ∙ ap (λ (v : Vec RustRow Global). take c.rows_within-front.result.count v.items ++ (now.rows.items ++ drop to v.items)) rows;
      types = done.types;
      bound = done.bound;
      end = done.end;
    } in
    let is = c.if-met-count.true ∙ long ∙ many_pieces h.of in
    all_put h on y to put is (all_read h to now met is)

pub follow-requires-clause-sound : goal.follow-requires-clause-sound
follow-requires-clause-sound c =
    same_sound c.read_until.new.self c.put_between.new.self c.in_ok-next.ensures.types c.in_ok-next.ensures.bound c.in_ok-read_until.ensures.sound

pub follow-requires-clause-followed : goal.follow-requires-clause-followed
follow-requires-clause-followed c =
    let a = c.args.self in
    let at = (goal.at.follow-requires-clause-followed c).After-deref-2 in
    let h = begun at in
    let front = c.rows_within-front.result in
    let x = c.after-analyst.result.0 in
    let left = c.new-old_pieces.ensures in
    let now = c.read_until.new.self in
    let to = c.read_until.new.old.next in
    let read = c.in_ok-read_until.ensures in
    let met = begun_met h c.new-old_pieces.result _ _ (items at) left.left left.common c.common_end-common.ensures _ _ c.in_ok-read_until.ensures.met in
    let rows = c.after-analyst.ensures.rows in
    let long = c.len-count.ensures ∙ c.after-analyst.result.1.ok.0 ∙ ap (λ (v : Vec RustRow Global). length v.items) rows in
    let y = c.put_between.new.self in
    let done = c.in_ok-next.ensures in
    let on : HasReadOn x now = record { keeps = read.keeps; numbers = read.numbers; dialect = read.dialect } in
    let put : IsPutBetween a front.count to now y = record {
      rows = done.rows ∙ ap (λ (v : Vec RustRow Global). take front.count v.items ++ (now.rows.items ++ drop to v.items)) rows;
      types = done.types;
      bound = done.bound;
      end = done.end;
    } in
    let some = some_left_of h to now met (λ is. absurd (c.if-met-count.false (is ∙ sym (long ∙ many_pieces h.of)))) in
    let earlier = c.in_ok-earlier.earlier in
    let third : c.deref-3.result.now ≡ a.rows.items = c.deref-3.ensures.value ∙ ap (λ (v : Vec RustRow Global). v.items) rows in
    let passed = subst (λ (rs : List RustRow). IsPassedBy (rows_of (slice_range rs front.count to)) earlier c.pass.new.self) third c.pass.ensures in
    let forward : front.count ≤ to = omega (arith, read.forward, left.next) in
    let from = left_from h on y to earlier c.pass.new.self forward c.in_ok-earlier.ensures.names c.in_ok-earlier.ensures.type_names passed in
    (types_in a.types, x.bound, some_left h on y to c.in_ok-next.next c.pass.new.self put done.next some.0 some.1 from)
