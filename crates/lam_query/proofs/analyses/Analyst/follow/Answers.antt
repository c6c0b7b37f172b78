use Rattle.std.proofs.Common.{refl, ◌∙◌, sym, arith}
use Rattle.lam_query.proofs.FollowedRows.{all_followed, begun_followed, end_followed}
use Rattle.lam_query.proofs.analyses.Analyst.follow.Goals as goal

pub returns-then-is_now-clause-read : goal.returns-then-is_now-clause-read
returns-then-is_now-clause-read c =
    let f = c.requires.followed in
    all_followed c.args.text.now c.args.next f.0 f.1 c.args.earlier.now c.args.self.now f.2 (c.is_now.ensures c.if-is_now.true)

pub loop-i-init : goal.loop-i-init
loop-i-init c = record {
  sound = c.requires.sound;
  dialect = refl;
  count = sym (c.len-i-end.ensures ∙ c.args.self.now.rows.ok.0);
  bytes_read = omega arith;
  followed =
      let f = c.requires.followed in
      (f.0, f.1, begun_followed c.args.text.now c.args.next f.0 f.1 c.args.earlier.now c.in_ok-changed.changed c.args.self.now f.2 c.in_ok-changed.ensures.same);
}

pub loop-i-preserved : goal.loop-i-preserved
loop-i-preserved c =
    let before = c.loop-i.invariant in
    let f = before.followed in
    record {
      sound = c.in_ok-follow_row.ensures.sound;
      dialect = c.follow_row.ensures.dialect ∙ before.dialect;
      count = c.in_ok-follow_row.ensures.count ∙ before.count;
      bytes_read = omega (arith, before.bytes_read, c.in_ok-follow_row.ensures.bytes_read);
      followed = (f.0, f.1, c.in_ok-follow_row.ensures.followed f.0 f.1 f.2);
    }

pub returns-clause-read : goal.returns-clause-read
returns-clause-read c =
    let before = c.loop-i.invariant in
    let f = before.followed in
    end_followed c.args.text.now c.loop-i.i f.0 f.1 _ c.loop-i.self f.2 (omega (arith, before.count))
