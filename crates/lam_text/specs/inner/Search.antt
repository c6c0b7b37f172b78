-- The state of the search for line endings. For private contracts only.
use Rattle.std.specs.Prelude.{◌≡◌, ℕ, ◌+◌, Bool, true, not, ◌&&◌, ◌||◌, ◌==◌, nat_lt, nat_le, List, [], ◌∷◌, take, drop, if◌then◌else◌}
use Rattle.lam_text.specs.declared.index.Mark.{Mark}
use Rattle.lam_text.specs.Lines.{begins_with_lf}
use Rattle.lam_text.specs.inner.Index.{all_ascii, index_of}

-- The marks are the index of some text.
abbrev pub IsIndex : List Mark → Type 0
IsIndex marks = (text : List ℕ) × (marks ≡ index_of text)

-- the line that starts at a byte, before any of its bytes is read
abbrev pub fresh : ℕ → Mark
fresh at = record { start = at; ascii = true }

-- an open line after its next byte
abbrev pub grown : Mark → ℕ → Mark
grown open_line b = record { start = open_line.start; ascii = open_line.ascii && nat_lt b 128 }

-- an open line extended by more of its bytes
abbrev pub lengthened : Mark → List ℕ → Mark
lengthened open_line bytes = record { start = open_line.start; ascii = open_line.ascii && all_ascii bytes }

-- whether a byte ends a line, given whether an LF follows
abbrev pub ends : ℕ → Bool → Bool
ends b lf = b == 10 || (b == 13 && not lf)

-- the marks from the line that is open at byte `at` on, if these bytes follow
abbrev pub marks_from : Mark → ℕ → List ℕ → List Mark
marks_from open_line at [] = open_line ∷ []
marks_from open_line at (b ∷ bytes) =
    if ends b (begins_with_lf bytes) then open_line ∷ marks_from (fresh (at + 1)) (at + 1) bytes
    else marks_from (grown open_line b) (at + 1) bytes

-- whether an LF follows the first of these bytes; `lf` is the answer after the last one
abbrev pub lf_after : List ℕ → Bool → Bool
lf_after [] lf = lf
lf_after (b ∷ bytes) lf = b == 10

-- the line that is open after these bytes
abbrev pub open_after : Mark → ℕ → List ℕ → Bool → Mark
open_after open_line at [] lf = open_line
open_after open_line at (b ∷ bytes) lf =
    if ends b (lf_after bytes lf) then open_after (fresh (at + 1)) (at + 1) bytes lf
    else open_after (grown open_line b) (at + 1) bytes lf

-- The line starts at byte `k` or before.
abbrev pub starts_by : ℕ → Mark → Bool
starts_by k mark = nat_le mark.start k

-- the line that is open at byte `at`, up to that byte
abbrev pub open_at : List ℕ → ℕ → Mark
open_at text at = open_after (fresh 0) 0 (take at text) (begins_with_lf (drop at text))
