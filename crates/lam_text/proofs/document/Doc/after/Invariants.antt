-- The changes that are left make of the text so far what all make of the text as it was.
use Rattle.std.proofs.Common.{◌≡◌, drop}
use Rattle.lam_text.specs.Edits.{text_after}
use Rattle.lam_text.proofs.document.Doc.after.Given as goal

abbrev pub invariant-loop-change : goal.invariant-loop-change
invariant-loop-change l =
    (text_after l.self.encoding l.next.text (drop l.change-index l.rest) ≡ text_after l.self.encoding l.self.text l.changes) × (l.next.encoding ≡ l.self.encoding)
