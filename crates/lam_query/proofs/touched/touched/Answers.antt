use Rattle.std.proofs.Common.{rules, Some, sym, ap, ◌∙◌, arith}
use Rattle.std.specs.Option.{option_map}
use Rattle.lam_token.specs.Lexeme.{start_of}
use Rattle.lam_token.proofs.Cuts.{one_list}
use Rattle.lam_token.proofs.SomeCut.{tokens_at, are_tokens_at, first_told, none_told}
use Rattle.lam_query.specs.Touched.{touched}
use Rattle.lam_query.proofs.TouchedNames.{IsPassed, touched_told, over_passed, other_passed, first_passed, later_passed, all_passed}
use Rattle.lam_query.proofs.touched.touched.Goals as goal
use Rattle.lam_query.proofs.touched.touched.Goals.{then-is_none, else-is_none}

pub returns-then-is_name_over : goal.returns-then-is_name_over
returns-then-is_name_over c tokens are =
    let o = c.args.offset in
    let text = c.args.text.now in
    let told = first_told _ _ _ _ c.in-Some.ensures.first in
    let here = over_passed c.loop-token.before o c.in-Some.token _ _ told (sym c.is_name_over.ensures ∙ c.if-is_name_over.true) in
    let found = touched_told o (tokens_at 0 text) _ (c.loop-token.invariant.passed ∙ here) in
    ap Some c.start.ensures ∙ found ∙ ap (λ ts. option_map start_of (touched o ts)) (one_list text tokens (tokens_at 0 text) are (are_tokens_at 0 text))

pub loop-token-preserved : goal.loop-token-preserved
loop-token-preserved c =
    let o = c.args.offset in
    let told = first_told _ _ _ _ c.in-Some.ensures.first in
    let not_over = sym c.is_name_over.ensures ∙ c.if-is_name_over.false in
    let passed : IsPassed c.loop-token.before c.if-is_none.before o c.in-Some.token =
    elim c.if-is_none.branch [
      | then-is_none w ↦ first_passed c.loop-token.before _ o c.in-Some.token _ c.is_none.ensures w.if-is_none.true (w.before-is ∙ w.name_before-before.ensures)
      | else-is_none w ↦ later_passed c.loop-token.before _ o c.in-Some.token _ c.is_none.ensures w.if-is_none.false w.before-is
    ] in
    record {
      is_text = search rules;
      place = omega (arith, c.end-start.ensures, c.in-Some.ensures.behind, c.loop-token.invariant.place);
      passed = rw c.end-start.ensures (c.loop-token.invariant.passed ∙ other_passed c.loop-token.before c.if-is_none.before o c.in-Some.token _ _ told not_over passed);
    }

pub returns : goal.returns
returns c tokens are =
    let o = c.args.offset in
    let text = c.args.text.now in
    let none = all_passed c.loop-token.before o _ (none_told _ _ c.in_default.ensures.none) in
    let found = touched_told o (tokens_at 0 text) _ (c.loop-token.invariant.passed ∙ none) in
    found ∙ ap (λ ts. option_map start_of (touched o ts)) (one_list text tokens (tokens_at 0 text) are (are_tokens_at 0 text))
