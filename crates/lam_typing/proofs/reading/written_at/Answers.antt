use Rattle.std.proofs.Common.{ap, sym, arith}
use Rattle.lam_typing.proofs.NotedParts.{note_is, no_note}
use Rattle.lam_typing.proofs.reading.written_at.Goals as goal

pub returns-then-number-notes : goal.returns-then-number-notes
returns-then-number-notes c = λ found. sym (ap (λ n. n.written) (no_note found c.args.notes.now c.args.number (omega (arith, c.if-number-notes.true))))

pub returns-in-Lambda : goal.returns-in-Lambda
returns-in-Lambda c = λ found. sym (ap (λ n. n.written) (note_is found c.args.notes.now c.args.number _ _ (omega (arith, c.if-number-notes.false)) c.in-Lambda.is))

pub returns-in-Variable : goal.returns-in-Variable
returns-in-Variable c = λ found. sym (ap (λ n. n.written) (note_is found c.args.notes.now c.args.number _ _ (omega (arith, c.if-number-notes.false)) c.in-Variable.is))

pub returns-in-Nothing : goal.returns-in-Nothing
returns-in-Nothing c = λ found. sym (ap (λ n. n.written) (note_is found c.args.notes.now c.args.number _ _ (omega (arith, c.if-number-notes.false)) c.in-Nothing.is))
