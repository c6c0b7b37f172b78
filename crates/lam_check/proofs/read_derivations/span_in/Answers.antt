use Rattle.lam_session.specs.Ranges.{position_value, range_of}
use Rattle.lam_check.proofs.read_derivations.span_in.Goals as goal

pub returns-in_default-clause-none : goal.returns-in_default-clause-none
returns-in_default-clause-none c = λ s readable is.
    let range = range_of c.args.doc.now.encoding c.args.doc.now.text s in
    c.in_default.ensures.none (position_value range.end) (position_value range.start) is
