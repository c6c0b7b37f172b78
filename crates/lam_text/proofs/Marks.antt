-- The marks of the lines on either side of a byte.
use Rattle.std.proofs.Common.{ℕ, ◌+◌, List, [], ◌∷◌, length, take, drop}
use Rattle.std.specs.Prelude.{Bool, if◌then◌else◌}
use Rattle.lam_text.specs.declared.index.Mark.{Mark}
use Rattle.lam_text.specs.Lines.{Lines, Cut, begins_with_lf, line_bytes}
use Rattle.lam_text.specs.inner.Index.{marks_in}
use Rattle.lam_text.specs.inner.Search.{fresh, grown, ends, lf_after}

-- the marks of the lines that end among these bytes, which an LF follows or not
abbrev pub ended_in : Mark → ℕ → List ℕ → Bool → List Mark
ended_in open_line at [] lf = []
ended_in open_line at (b ∷ bytes) lf =
    if ends b (lf_after bytes lf) then open_line ∷ ended_in (fresh (at + 1)) (at + 1) bytes lf
    else ended_in (grown open_line b) (at + 1) bytes lf

-- the marks of the lines that end before the byte `at`
abbrev pub ended_by : List ℕ → ℕ → List Mark
ended_by text at = ended_in (fresh 0) 0 (take at text) (begins_with_lf (drop at text))

-- the marks of all lines but the first
abbrev pub later_on : ℕ → Lines → List Mark
later_on at (Cut [] last) = []
later_on at (Cut (line ∷ lines) last) = marks_in (at + length (line_bytes line)) lines last
