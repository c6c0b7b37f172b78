use Rattle.std.proofs.Common.{◌≡◌, [], rules, sym, ap, ◌∙◌, subst, arith}
use Rattle.std.proofs.lemmas.Result.{IfOk-weaker}
use Rattle.lam_token.proofs.SomeCut.{tokens_at, first_told, none_told}
use Rattle.lam_query.specs.inner.OnePiece.{IsOwnOf}
use Rattle.lam_query.specs.inner.Reading.{own_of, AreHeldAround}
use Rattle.lam_query.proofs.ReadAround.{unended, none_unended, unended_more, unended_ends, next_stands, named, own_named, none_held, with_name, name_pushed, name_there, all_held}
use Rattle.lam_query.proofs.reading.command_with_label.Goals as goal
use Rattle.lam_query.proofs.reading.command_with_label.Goals.{in-Some+then-is_semicolon, in_default, then-not-taken+in_ok-push, else-not-taken}

pub loop-token-init : goal.loop-token-init
loop-token-init c = record {
  is_text = c.utf8.piece;
  place = omega arith;
  held = none_held c.args.offset c.args.dot (unended (tokens_at c.args.start c.args.piece.now)) _ c.new-reader.ensures.no_piece;
}

pub loop-token-preserved : goal.loop-token-preserved
loop-token-preserved c =
    let so_far = c.loop-token.invariant in
    let first = first_told _ _ _ _ c.in-Some.ensures.first in
    let goes_on = sym c.is_semicolon.ensures ∙ c.if-is_semicolon.false in
    let all = named c.args.offset c.args.dot (unended (tokens_at c.args.start c.args.piece.now)) in
    let before = subst (AreHeldAround all c.args.offset c.args.dot c.loop-token.taken c.loop-token.reader.piece.items) (unended_more _ _ _ first goes_on) so_far.held in
    let stand = next_stands c.loop-token.place c.loop-token.rest.now _ c.in-Some.token first goes_on in
    record {
      is_text = search rules;
      place = omega (arith, c.end-place.ensures, c.in-Some.ensures.behind, so_far.place);
      held = rw c.end-place.ensures (c.in_ok-taken.ensures all _ _ _ stand before);
    }

pub returns : goal.returns
returns c =
    let start = c.args.start in
    let piece = c.args.piece.now in
    let o = c.args.offset in
    let dot = c.args.dot in
    let held = c.loop-token.reader.piece.items in
    let all = named o dot (unended (tokens_at start piece)) in
    let none : unended (tokens_at c.loop-token.place c.loop-token.rest.now) ≡ [] =
    elim c.match-first_token.branch [
      | in-Some+then-is_semicolon w ↦ unended_ends _ _ _ (first_told _ _ _ _ w.in-Some.ensures.first) (sym w.is_semicolon.ensures ∙ w.if-is_semicolon.true)
      | in_default w ↦ none_unended _ (none_told _ _ w.in_default.ensures.none)
    ] in
    let names : c.if-not-taken.reader.piece.items ≡ with_name c.loop-token.taken dot held =
    elim c.if-not-taken.branch [
      | then-not-taken+in_ok-push w ↦ ap (λ reader. reader.piece.items) w.reader-is
          ∙ name_pushed c.loop-token.taken dot held _ _ w.if-not-taken.true w.placeholder.ensures w.in_ok-push.ensures.pushed
      | else-not-taken w ↦ ap (λ reader. reader.piece.items) w.reader-is ∙ name_there c.loop-token.taken dot held w.if-not-taken.false
    ] in
    let same : c.if-not-taken.reader.piece.items ≡ all = all_held all held c.if-not-taken.reader.piece.items _ o dot c.loop-token.taken none names c.loop-token.invariant.held in
    IfOk-weaker c.end_piece.result _ _
    (λ command is rest tokens t are one_piece at. own_named start piece rest tokens o dot t (own_of command) are one_piece at (subst (λ ts. IsOwnOf ts (own_of command)) same is))
    c.end_piece.ensures.own
