-- The effect of a change on a text (LSP 3.17, "TextDocumentContentChangeEvent").
use Rattle.std.specs.Prelude.{ℕ, List, ◌++◌, take, drop, min, max, fold, Option, None, Some}
use Rattle.lam_text.specs.declared.units.Encoding.{Encoding}
use Rattle.lam_text.specs.declared.places.Range.{Range}
use Rattle.lam_text.specs.Positions.{offset_of}

-- the new text, and the range that it replaces; `None` for the whole text
pub record Edit : Type 0 where
  pub range : Option Range
  pub text : List ℕ

-- a text with the bytes between two offsets replaced, whichever is smaller
abbrev pub replaced : List ℕ → ℕ → ℕ → List ℕ → List ℕ
replaced text from to new = take (min from to) text ++ new ++ drop (max from to) text

-- the text with this range replaced, or the whole text
abbrev pub edited_in : Encoding → List ℕ → Option Range → List ℕ → List ℕ
edited_in encoding text None new = new
edited_in encoding text (Some range) new =
    replaced text (offset_of encoding text range.start) (offset_of encoding text range.end) new

-- the text after one change
abbrev pub edited : Encoding → List ℕ → Edit → List ℕ
edited encoding text edit = edited_in encoding text edit.range edit.text

-- the text after a list of changes, each applied to the result of the one before
abbrev pub text_after : Encoding → List ℕ → List Edit → List ℕ
text_after encoding text edits = fold (edited encoding) text edits
