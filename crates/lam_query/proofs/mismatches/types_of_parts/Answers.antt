use Rattle.lam_typing.specs.Typings.{types_of, found_of}
use Rattle.lam_query.proofs.BlamedParts.{parts_collected}
use Rattle.lam_query.proofs.mismatches.types_of_parts.Goals as goal

pub returns-clause-some : goal.returns-clause-some
returns-clause-some c =
    parts_collected (types_of c.args.typing.now) (found_of c.args.typing.now) _ _ c.loop-i.i c.loop-i.parts.items c.loop-i-test.false c.loop-i.invariant.0
    c.terms_of-places.ensures
