use Rattle.std.proofs.Common.{◌≡◌, ◌+◌, ◌<◌, ◌^◌, rules, refl, sym, subst, ap, ◌∙◌, arith, IfSome}
use Rattle.std.specs.Option.{option_map}
use Rattle.lam_token.specs.Lexeme.{start_of, end_of}
use Rattle.lam_token.proofs.Cuts.{one_list_from}
use Rattle.lam_token.proofs.SomeCut.{tokens_at, are_tokens_at, first_told, none_told}
use Rattle.lam_scope.specs.Nesting.{TokensStand}
use Rattle.lam_query.specs.Completions.{dot_before}
use Rattle.lam_query.proofs.StandingTokens.{stands_at, first_stands}
use Rattle.lam_query.proofs.CursorTokens.{dot_behind, dot_told, around_passed, other_passed, next_there, next_kept, dot_fits, all_passed}
use Rattle.lam_query.proofs.cursor.dot_before.Goals as goal
use Rattle.lam_query.proofs.cursor.dot_before.Goals.{then-is_in_front, else-is_in_front}

pub returns-then-is_around-clause-dot : goal.returns-then-is_around-clause-dot
returns-then-is_around-clause-dot c tokens are =
    let o = c.args.offset in
    let piece = c.args.piece.now in
    let from = c.args.from in
    let told = first_told _ _ _ _ c.in-Some.ensures.first in
    let here = around_passed c.loop-token.dot o c.in-Some.token _ _ told (sym c.is_around.ensures ∙ c.if-is_around.true) in
    dot_told o (tokens_at from piece) _ (c.loop-token.invariant.passed ∙ here)
    ∙ ap (λ ts. option_map start_of (dot_before o ts)) (one_list_from from piece tokens (tokens_at from piece) are (are_tokens_at from piece))

pub loop-token-init : goal.loop-token-init
loop-token-init c = record { is_text = c.utf8.piece; place = refl; passed = refl; fits = tt }

pub loop-token-preserved : goal.loop-token-preserved
loop-token-preserved c =
    let o = c.args.offset in
    let token = c.in-Some.token in
    let told = first_told _ _ _ _ c.in-Some.ensures.first in
    let other = sym c.is_around.ensures ∙ c.if-is_around.false in
    let stand = stands_at c.loop-token.start c.loop-token.rest.now in
    let first = first_stands c.loop-token.start stand.0 token _ (subst (λ ts. TokensStand c.loop-token.start ts stand.0) told stand.1) in
    let some : start_of token < end_of token = first.1 in
    let fits : start_of token + 1 < 2 ^ 64 = omega (arith, some, c.in-Some.ensures.behind, c.loop-token.invariant.place) in
    let next : c.if-is_in_front.dot ≡ dot_behind c.loop-token.dot o token =
    elim c.if-is_in_front.branch [
      | then-is_in_front w ↦ next_there c.loop-token.dot _ o token (sym c.is_in_front.ensures ∙ w.if-is_in_front.true) (w.dot-is ∙ w.start_of_dot-dot.ensures)
      | else-is_in_front w ↦ next_kept c.loop-token.dot _ o token (sym c.is_in_front.ensures ∙ w.if-is_in_front.false) w.dot-is
    ] in
    let next_fits : IfSome c.if-is_in_front.dot (λ start. start + 1 < 2 ^ 64) =
    elim c.if-is_in_front.branch [
      | then-is_in_front w ↦ subst (λ dot. IfSome dot (λ start. start + 1 < 2 ^ 64)) (sym (w.dot-is ∙ w.start_of_dot-dot.ensures)) (dot_fits token (2 ^ 64) fits)
      | else-is_in_front w ↦ subst (λ dot. IfSome dot (λ start. start + 1 < 2 ^ 64)) (sym w.dot-is) c.loop-token.invariant.fits
    ] in
    record {
      is_text = search rules;
      place = omega (arith, c.end-start.ensures, c.in-Some.ensures.behind, c.loop-token.invariant.place);
      passed = rw c.end-start.ensures (c.loop-token.invariant.passed ∙ other_passed c.loop-token.dot c.if-is_in_front.dot o token _ _ told other next);
      fits = next_fits;
    }

pub returns-clause-dot : goal.returns-clause-dot
returns-clause-dot c tokens are =
    let o = c.args.offset in
    let piece = c.args.piece.now in
    let from = c.args.from in
    let none = all_passed c.loop-token.dot o _ (none_told _ _ c.in_default.ensures.none) in
    dot_told o (tokens_at from piece) _ (c.loop-token.invariant.passed ∙ none)
    ∙ ap (λ ts. option_map start_of (dot_before o ts)) (one_list_from from piece tokens (tokens_at from piece) are (are_tokens_at from piece))
