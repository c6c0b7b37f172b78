use Rattle.std.proofs.Common.{rules, Some, sym, ap, ◌∙◌, arith}
use Rattle.std.specs.Option.{option_map}
use Rattle.lam_token.specs.Lexeme.{start_of}
use Rattle.lam_token.proofs.Cuts.{one_list_from}
use Rattle.lam_token.proofs.SomeCut.{tokens_at, are_tokens_at, first_told, none_told}
use Rattle.lam_query.specs.Completions.{touched_word}
use Rattle.lam_query.proofs.CursorTokens.{touched_here, touched_later, none_touched}
use Rattle.lam_query.proofs.cursor.touched_word.Goals as goal

pub returns-then-is_touched : goal.returns-then-is_touched
returns-then-is_touched c tokens are =
    let o = c.args.offset in
    let piece = c.args.piece.now in
    let from = c.args.from in
    let told = first_told _ _ _ _ c.in-Some.ensures.first in
    let here = touched_here o c.in-Some.token _ _ told (sym c.is_touched.ensures ∙ c.if-is_touched.true) in
    ap Some c.start.ensures ∙ sym (ap (option_map start_of) (c.loop-token.invariant.passed ∙ here)) ∙ ap (λ ts. option_map start_of (touched_word o ts)) (one_list_from from piece tokens (tokens_at from piece) are (are_tokens_at from piece))

pub loop-token-preserved : goal.loop-token-preserved
loop-token-preserved c =
    let o = c.args.offset in
    let told = first_told _ _ _ _ c.in-Some.ensures.first in
    let later = touched_later o c.in-Some.token _ _ told (sym c.is_touched.ensures ∙ c.if-is_touched.false) in
    record {
      is_text = search rules;
      place = omega (arith, c.end-start.ensures, c.in-Some.ensures.behind, c.loop-token.invariant.place);
      passed = rw c.end-start.ensures (c.loop-token.invariant.passed ∙ later);
    }

pub returns : goal.returns
returns c tokens are =
    let o = c.args.offset in
    let piece = c.args.piece.now in
    let from = c.args.from in
    let none = none_touched o _ (none_told _ _ c.in_default.ensures.none) in
    sym (ap (option_map start_of) (c.loop-token.invariant.passed ∙ none)) ∙ ap (λ ts. option_map start_of (touched_word o ts)) (one_list_from from piece tokens (tokens_at from piece) are (are_tokens_at from piece))
