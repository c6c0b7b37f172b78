use Rattle.std.proofs.Common.{sym, ◌∙◌, subst, arith}
use Rattle.std.specs.Prelude.{Some, None}
use Rattle.std.proofs.lemmas.Bool.{ne_eqb}
use Rattle.lam_token.specs.inner.Reading.{IsBehind}
use Rattle.lam_token.proofs.Reading.{first_shorter, step_behind, end_behind, last_behind, behind_opening, behind_closing, behind_other}
use Rattle.lam_token.proofs.scan.behind_comment.Goals as goal

pub loop-c-smaller-then-is_opening : goal.loop-c-smaller-then-is_opening
loop-c-smaller-then-is_opening c = first_shorter _ _ _ c.in-Some.ensures

pub loop-c-preserved-then-is_opening : goal.loop-c-preserved-then-is_opening
loop-c-preserved-then-is_opening c =
    let shorter = first_shorter _ _ _ c.in-Some.ensures in
    record {
      is_text = c.in-Some.ensures.is_text;
      some_mark = omega arith;
      open_marks = omega arith;
      comment = λ r is. c.loop-c.invariant.comment r (step_behind _ _ _ _ _ _ _ r c.in-Some.ensures (behind_opening _ _ _ _ (sym c.is_opening.ensures ∙ c.if-is_opening.true)) is);
    }

pub loop-c-smaller-then-is_closing : goal.loop-c-smaller-then-is_closing
loop-c-smaller-then-is_closing c = first_shorter _ _ _ c.in-Some.ensures

pub loop-c-preserved-then-is_closing : goal.loop-c-preserved-then-is_closing
loop-c-preserved-then-is_closing c =
    let shorter = first_shorter _ _ _ c.in-Some.ensures in
    record {
      is_text = c.in-Some.ensures.is_text;
      some_mark = omega arith;
      open_marks = omega arith;
      comment = λ r is. c.loop-c.invariant.comment r (step_behind _ _ _ _ _ _ _ r c.in-Some.ensures (behind_closing _ _ _ _ (sym c.is_opening.ensures ∙ c.if-is_opening.false) (sym c.is_closing.ensures ∙ c.if-is_closing.true) (ne_eqb _ _ c.if-depth-eq1.false)) is);
    }

pub loop-c-smaller : goal.loop-c-smaller
loop-c-smaller c = first_shorter _ _ _ c.in-Some.ensures

pub loop-c-preserved : goal.loop-c-preserved
loop-c-preserved c =
    let shorter = first_shorter _ _ _ c.in-Some.ensures in
    record {
      is_text = c.in-Some.ensures.is_text;
      some_mark = omega arith;
      open_marks = omega arith;
      comment = λ r is. c.loop-c.invariant.comment r (step_behind _ _ _ _ _ _ _ r c.in-Some.ensures (behind_other _ _ _ _ (sym c.is_opening.ensures ∙ c.if-is_opening.false) (sym c.is_closing.ensures ∙ c.if-is_closing.false)) is);
    }

pub returns-then-depth-eq1 : goal.returns-then-depth-eq1
returns-then-depth-eq1 c =
    let last = last_behind _ _ _ _ c.in-Some.ensures (sym c.is_opening.ensures ∙ c.if-is_opening.false) (sym c.is_closing.ensures ∙ c.if-is_closing.true) in
    c.loop-c.invariant.comment (Some c.in-Some.after.now)
    (subst (λ d. IsBehind d c.loop-c.before c.loop-c.rest.now (Some c.in-Some.after.now)) (sym c.if-depth-eq1.true) last)

pub returns : goal.returns
returns c = c.loop-c.invariant.comment None (end_behind _ _ _ c.in_default.ensures)
