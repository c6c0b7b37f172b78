use Rattle.std.proofs.Common.{None, ap, sym, ◌∙◌, arith}
use Rattle.lam_typing.specs.inner.Notes.{context_in, entry_of_source}
use Rattle.lam_typing.proofs.Forms.{entry_beyond}
use Rattle.lam_typing.proofs.NotedParts.{length-context, entry_of_index}
use Rattle.lam_typing.proofs.noting.note_of_index.Goals as goal

pub returns-then-index-sources : goal.returns-then-index-sources
returns-then-index-sources c = λ found.
    let same = length-context found c.args.sources.now in
    λ i. record { written = None; bound = sym (entry_beyond c.args.index (context_in found c.args.sources.now) (omega (arith, same, c.if-index-sources.true))) i }

pub returns : goal.returns
returns c = λ found i. record { written = None; bound = (ap (entry_of_source found) c.index-sources-sources.is ∙ entry_of_index found c.args.sources.now c.args.index _ (omega (arith, c.if-index-sources.false))) i }
