use Rattle.std.proofs.Common.{subst, sym, ◌∙◌, arith}
use Rattle.std.specs.Option.{option_map}
use Rattle.std.specs.Result.{IfOk}
use Rattle.std.proofs.lemmas.Result.{IfOk-weaker}
use Rattle.lam_query.specs.Hovers.{IsShownIn}
use Rattle.lam_query.specs.Views.{shown_of}
use Rattle.lam_query.specs.inner.OnePiece.{IsOwnOf}
use Rattle.lam_query.specs.inner.Reading.{own_of}
use Rattle.lam_query.proofs.HoverByPiece.{large_shown, no_command_shown, no_types_shown, types_stand, types_inside, command_shown, hover_stands}
use Rattle.lam_query.proofs.PieceAround.{piece_inside}
use Rattle.lam_query.proofs.analyses.Analysis.hover.Goals as goal

pub returns-then-is_some-clause-shown : goal.returns-then-is_some-clause-shown
returns-then-is_some-clause-shown c = large_shown c.args.text.now c.args.self.now c.args.offset c.requires (sym c.is_some.ensures ∙ c.if-is_some.true)

pub index-requires : goal.index-requires
index-requires c = omega (arith, c.piece_around-piece.ensures.inside, c.args.self.now.rows.ok.0)

pub returns-in_default-clause-shown : goal.returns-in_default-clause-shown
returns-in_default-clause-shown c =
    no_types_shown c.args.text.now c.args.self.now c.args.offset c.piece_around-piece.result c.requires c.piece_around-piece.ensures
    c.index.result.now _ c.index.ensures (sym c.is_some.ensures ∙ c.if-is_some.false) c.in_default.ensures.none

pub command_in-requires : goal.command_in-requires
command_in-requires c = omega (arith, piece_inside c.args.text.now c.args.self.now c.args.offset c.piece_around-piece.result c.piece_around-piece.ensures)

pub returns-in_default-2-clause-shown : goal.returns-in_default-2-clause-shown
returns-in_default-2-clause-shown c =
    no_command_shown c.args.text.now c.args.self.now c.args.offset c.piece_around-piece.result c.requires c.piece_around-piece.ensures
    c.index.result.now _ c.index.ensures (sym c.is_some.ensures ∙ c.if-is_some.false)
    (λ rest tokens are none. subst (λ command. IsOwnOf tokens (own_of command)) c.in_default-2.is (c.in_ok-command.ensures rest tokens are none))

pub shown_in-requires-clause-stand : goal.shown_in-requires-clause-stand
shown_in-requires-clause-stand c =
    let kept = c.in-Some.ensures.some in
    rw (c.table.ensures, kept.2)
    (types_stand c.args.text.now c.args.self.now c.args.offset c.piece_around-piece.result c.requires c.piece_around-piece.ensures
    c.index.result.now _ c.index.ensures (sym c.is_some.ensures ∙ c.if-is_some.false) kept.0 kept.1)

pub shown_in-requires-clause-inside : goal.shown_in-requires-clause-inside
shown_in-requires-clause-inside c =
    let kept = c.in-Some.ensures.some in
    rw kept.2
    (types_inside c.args.text.now c.args.self.now c.args.offset c.piece_around-piece.result c.requires c.piece_around-piece.ensures
    c.index.result.now _ c.index.ensures (sym c.is_some.ensures ∙ c.if-is_some.false) kept.0 kept.1 _
    (λ rest tokens are none. subst (λ command. IsOwnOf tokens (own_of command)) c.in-Some-2.is (c.in_ok-command.ensures rest tokens are none)))

pub returns : goal.returns
returns c =
    let text = c.args.text.now in
    let d = c.args.self.now.dialect in
    let kept = c.in-Some.ensures.some in
    let shown : IfOk c.shown_in.result (λ found. IsShownIn text c.args.offset (option_map shown_of found) d) = IfOk-weaker c.shown_in.result _ _
    (λ found shown.
    command_shown c.args.text.now c.args.self.now c.args.offset c.piece_around-piece.result c.requires c.piece_around-piece.ensures
    c.index.result.now _ c.index.ensures (sym c.is_some.ensures ∙ c.if-is_some.false) kept.0 kept.1 _
    (λ rest tokens are none. subst (λ command. IsOwnOf tokens (own_of command)) c.in-Some-2.is (c.in_ok-command.ensures rest tokens are none)) _
    (rw (c.table.ensures, kept.2) at shown))
    c.shown_in.ensures in
    record {
      shown = shown;
      whole_characters = IfOk-weaker c.shown_in.result _ _ (λ found is. hover_stands text c.args.offset found d c.utf8.text is) shown;
    }
