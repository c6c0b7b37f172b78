use Rattle.std.proofs.Common.{subst, sym, ◌∷◌, [], ◌∙◌, arith}
use Rattle.lam_syntax.specs.Views.{command_of}
use Rattle.lam_query.specs.inner.OnePiece.{IsOwnOf}
use Rattle.lam_query.specs.inner.Reading.{own_of}
use Rattle.lam_query.proofs.DerivedByPiece.{derived_nothing, bytes_fit, own_read, no_command_derived}
use Rattle.lam_query.proofs.HoverByPiece.{large_shown}
use Rattle.lam_query.proofs.analyses.Analysis.derivation.Goals as goal

pub returns-then-is_some-clause-derived : goal.returns-then-is_some-clause-derived
returns-then-is_some-clause-derived c =
    derived_nothing c.args.text.now c.args.offset c.args.self.now.dialect
    (large_shown c.args.text.now c.args.self.now c.args.offset c.requires (sym c.is_some.ensures ∙ c.if-is_some.true))

pub command_in-requires : goal.command_in-requires
command_in-requires c = bytes_fit c.args.text.now c.args.offset c.args.self.now c.piece_around-piece.result c.requires c.piece_around-piece.ensures (omega arith)

pub derivation_in-requires-clause-there : goal.derivation_in-requires-clause-there
derivation_in-requires-clause-there c = record {
  here = c.piece_around-piece.ensures;
  own = own_read c.args.text.now c.args.offset c.args.self.now c.piece_around-piece.result c.requires c.piece_around-piece.ensures (command_of c.in-Some.command ∷ [])
      (λ rest tokens are none. subst (λ command. IsOwnOf tokens (own_of command)) c.in-Some.is (c.in_ok-command.ensures rest tokens are none));
}

pub returns-in-None-clause-derived : goal.returns-in-None-clause-derived
returns-in-None-clause-derived c =
    no_command_derived c.args.text.now c.args.offset c.args.self.now c.piece_around-piece.result c.requires c.piece_around-piece.ensures
    (own_read c.args.text.now c.args.offset c.args.self.now c.piece_around-piece.result c.requires c.piece_around-piece.ensures []
    (λ rest tokens are none. subst (λ command. IsOwnOf tokens (own_of command)) c.in-None.is (c.in_ok-command.ensures rest tokens are none)))
