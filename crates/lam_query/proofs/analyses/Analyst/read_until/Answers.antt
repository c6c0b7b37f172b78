use Rattle.std.proofs.Common.{◌-◌, ◌<◌, length, refl, ◌∙◌, arith}
use Rattle.lam_rules.proofs.Tables.{keeps_same, keeps_trans}
use Rattle.lam_typing.specs.Checking.{types_in}
use Rattle.lam_query.specs.inner.Kept.{rows_of}
use Rattle.lam_query.proofs.Analysts.{rest_counted}
use Rattle.lam_query.proofs.ChangedTexts.{read_more, read_last, still_old, met_here, none_met, inside_left}
use Rattle.lam_query.proofs.BoundNames.{numbers_same, numbers_trans}
use Rattle.lam_query.proofs.analyses.Analyst.read_until.Goals as goal

pub loop-self-init : goal.loop-self-init
loop-self-init c = record {
  sound = c.requires.sound;
  dialect = refl;
  keeps = keeps_same (types_in c.args.self.now.types);
  numbers = numbers_same c.args.self.now.bound;
  forward = omega arith;
  pieces = λ before pieces are. are;
  read = λ ahead s rest read. (rest, read);
}

pub overflow_sub-text : goal.overflow_sub-text
overflow_sub-text c =
    let first = c.requires.read in
    let now = c.loop-self.invariant.read first.0 first.1 first.2 first.3 in
    omega (arith, rest_counted first.0 first.1 c.args.text.now now.0 c.loop-self.self now.1)

pub is_met-requires : goal.is_met-requires
is_met-requires c =
    let first = c.requires.old in
    let are = c.loop-self.invariant.pieces first.0 first.1 first.2 in
    (rows_of c.loop-self.old.rows.now, are.left)

pub read_piece-requires-clause-sound : goal.read_piece-requires-clause-sound
read_piece-requires-clause-sound c = c.loop-self.invariant.sound

pub read_piece-requires-clause-read : goal.read_piece-requires-clause-read
read_piece-requires-clause-read c =
    let first = c.requires.read in
    let now = c.loop-self.invariant.read first.0 first.1 first.2 first.3 in
    (first.0, first.1, now.0, now.1)

pub returns-in_err-read_piece-clause-dialect : goal.returns-in_err-read_piece-clause-dialect
returns-in_err-read_piece-clause-dialect c = c.in_err-read_piece.ensures.dialect ∙ c.loop-self.invariant.dialect

pub returns-then-not-branch-clause-met : goal.returns-then-not-branch-clause-met
returns-then-not-branch-clause-met c ahead s rest before pieces read are =
    let text = c.args.text.now in
    let now = c.loop-self.invariant.read ahead s rest read in
    let at = still_old before text pieces c.loop-self.old (c.loop-self.invariant.pieces before pieces are) c.is_met.new.self c.is_met.ensures.left c.is_met.ensures.common in
    none_met before text pieces c.is_met.new.self at ahead s c.read_piece.new.self c.pass_all.new.self.next
    (read_last c.in_ok-read_piece.field-0 ahead s text now.0 c.read_piece.new.self c.if-not-branch.true (c.in_ok-read_piece.ensures.read ahead s now.0 now.1))
    c.pass_all.ensures.next

pub returns-then-not-branch-clause-forward : goal.returns-then-not-branch-clause-forward
returns-then-not-branch-clause-forward c =
    let first = c.requires.old in
    let are = c.loop-self.invariant.pieces first.0 first.1 first.2 in
    let at = still_old first.0 c.args.text.now first.1 c.loop-self.old are c.is_met.new.self c.is_met.ensures.left c.is_met.ensures.common in
    omega (arith, c.loop-self.invariant.forward, c.is_met.ensures.forward, c.pass_all.ensures.next, inside_left first.0 c.args.text.now first.1 c.is_met.new.self at)

pub returns-then-not-branch-clause-keeps : goal.returns-then-not-branch-clause-keeps
returns-then-not-branch-clause-keeps c = keeps_trans _ _ _ c.loop-self.invariant.keeps c.in_ok-read_piece.ensures.keeps

pub returns-then-not-branch-clause-numbers : goal.returns-then-not-branch-clause-numbers
returns-then-not-branch-clause-numbers c =
    numbers_trans c.args.self.now.bound c.loop-self.self.bound c.read_piece.new.self.bound c.loop-self.invariant.numbers c.in_ok-read_piece.ensures.numbers

pub returns-then-not-branch-clause-sound : goal.returns-then-not-branch-clause-sound
returns-then-not-branch-clause-sound c = c.in_ok-read_piece.ensures.sound

pub returns-then-not-branch-clause-dialect : goal.returns-then-not-branch-clause-dialect
returns-then-not-branch-clause-dialect c = c.in_ok-read_piece.ensures.dialect ∙ c.loop-self.invariant.dialect

pub loop-self-smaller : goal.loop-self-smaller
loop-self-smaller c =
    let text = c.args.text.now in
    let first = c.requires.read in
    let now = c.loop-self.invariant.read first.0 first.1 first.2 first.3 in
    let on = read_more c.in_ok-read_piece.field-0 first.0 first.1 text now.0 c.read_piece.new.self c.if-not-branch.false
    (c.in_ok-read_piece.ensures.read first.0 first.1 now.0 now.1) in
    let smaller : length text - c.read_piece.new.self.end < length text - c.loop-self.self.end =
    omega (arith, on.1, rest_counted first.0 first.1 text now.0 c.loop-self.self now.1, rest_counted first.0 first.1 text on.0 c.read_piece.new.self on.2) in
    smaller

pub loop-self-preserved : goal.loop-self-preserved
loop-self-preserved c = record {
  sound = c.in_ok-read_piece.ensures.sound;
  dialect = c.in_ok-read_piece.ensures.dialect ∙ c.loop-self.invariant.dialect;
  keeps = keeps_trans _ _ _ c.loop-self.invariant.keeps c.in_ok-read_piece.ensures.keeps;
  numbers = numbers_trans c.args.self.now.bound c.loop-self.self.bound c.read_piece.new.self.bound c.loop-self.invariant.numbers c.in_ok-read_piece.ensures.numbers;
  forward = omega (arith, c.loop-self.invariant.forward, c.is_met.ensures.forward);
  pieces = λ before pieces are.
      still_old before c.args.text.now pieces c.loop-self.old (c.loop-self.invariant.pieces before pieces are) c.is_met.new.self
      c.is_met.ensures.left c.is_met.ensures.common;
  read = λ ahead s rest read.
      let now = c.loop-self.invariant.read ahead s rest read in
      let on = read_more c.in_ok-read_piece.field-0 ahead s c.args.text.now now.0 c.read_piece.new.self c.if-not-branch.false
      (c.in_ok-read_piece.ensures.read ahead s now.0 now.1) in
      (on.0, on.2);
}

pub returns-clause-met : goal.returns-clause-met
returns-clause-met c ahead s rest before pieces read are =
    let text = c.args.text.now in
    let now = c.loop-self.invariant.read ahead s rest read in
    let at = still_old before text pieces c.loop-self.old (c.loop-self.invariant.pieces before pieces are) c.is_met.new.self c.is_met.ensures.left c.is_met.ensures.common in
    met_here before text pieces c.is_met.new.self at ahead s now.0 c.loop-self.self now.1 (c.is_met.ensures.met c.loop-self-test.false)

pub returns-clause-forward : goal.returns-clause-forward
returns-clause-forward c = omega (arith, c.loop-self.invariant.forward, c.is_met.ensures.forward)

pub returns-clause-keeps : goal.returns-clause-keeps
returns-clause-keeps c = c.loop-self.invariant.keeps

pub returns-clause-numbers : goal.returns-clause-numbers
returns-clause-numbers c = c.loop-self.invariant.numbers

pub returns-clause-sound : goal.returns-clause-sound
returns-clause-sound c = c.loop-self.invariant.sound

pub returns-clause-dialect : goal.returns-clause-dialect
returns-clause-dialect c = c.loop-self.invariant.dialect
