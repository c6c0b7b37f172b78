use Rattle.std.proofs.Common.{sym, subst}
use Rattle.std.specs.Str.{chars}
use Rattle.lam_token.specs.Cut.{IsWholeKind}
use Rattle.lam_token.proofs.Cuts.{empty_is_none, more_is_none, all_is_first}
use Rattle.lam_token.proofs.names.whole_kind.Goals as goal

pub returns-in_err-segment : goal.returns-in_err-segment
returns-in_err-segment c =
    subst (IsWholeKind (chars c.args.text.now)) (sym c.from_residual.ensures) (empty_is_none _ c.in_err-segment.ensures)

pub returns-then-not-is_empty : goal.returns-then-not-is_empty
returns-then-not-is_empty c = more_is_none _ _ _ c.in_ok-segment.ensures c.if-not-is_empty.ensures

pub returns-in-Token : goal.returns-in-Token
returns-in-Token c = all_is_first _ _ _ _ c.in_ok-segment.ensures c.if-not-is_empty.ensures c.in-Token.is
