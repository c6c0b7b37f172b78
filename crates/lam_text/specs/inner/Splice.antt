-- The effect of a splice on a text and its index. For private contracts only.
use Rattle.std.specs.Prelude.{◌≡◌, ℕ, ◌+◌, ◌-◌, ◌≤◌, Bool, ◌&&◌, List, [], ◌∷◌, length, take, drop}
use Rattle.std.specs.List.{prefix_len}
use Rattle.lam_text.specs.declared.index.Mark.{Mark}
use Rattle.lam_text.specs.declared.splice.Seam.{Seam}
use Rattle.lam_text.specs.declared.splice.Splice.{Splice}
use Rattle.lam_text.specs.Lines.{Lines, Cut, content, lines_of}
use Rattle.lam_text.specs.inner.Index.{all_ascii, index_of}
use Rattle.lam_text.specs.inner.Search.{starts_by, open_at}

-- whether the first line is all ASCII
abbrev pub first_ascii_on : Lines → Bool
first_ascii_on (Cut [] last) = all_ascii last
first_ascii_on (Cut (line ∷ lines) last) = all_ascii (content line)

-- an open line with its end, which is all ASCII or not
abbrev pub closed : Mark → Bool → Mark
closed open_line ascii = record { start = open_line.start; ascii = open_line.ascii && ascii }

-- the start of the first of these lines, or the end of the text
abbrev pub first_start : List Mark → ℕ → ℕ
first_start [] end = end
first_start (mark ∷ marks) end = mark.start

-- a mark that moves with its text from byte `from` to byte `to`
abbrev pub moved : ℕ → ℕ → Mark → Mark
moved from to mark = record { start = mark.start - from + to; ascii = mark.ascii }

-- `inserted` bytes replace the bytes from `start` to `end` of a text.
pub record IsSplice (old new : List ℕ) (start end inserted : ℕ) : Type 0 where
  pub ordered : start ≤ end
  pub within_old : end ≤ length old
  pub within_new : start + inserted ≤ length new
  pub before : take start new ≡ take start old
  pub after : drop (start + inserted) new ≡ drop end old

-- The seam is what the index of the text says of the two ends of a splice.
pub record IsSeam (old : List ℕ) (splice : Splice) (seam : Seam) : Type 0 where
  pub from : seam.from ≡ splice.start - 1
  pub first : seam.first + 1 ≡ prefix_len (starts_by (splice.start - 1)) (index_of old)
  pub open_line : seam.open ≡ open_at old (splice.start - 1)
  pub last : seam.last + 1 ≡ prefix_len (starts_by splice.end) (index_of old)
  pub ascii : seam.ascii ≡ first_ascii_on (lines_of (drop splice.end old))

-- The marks and the seam are those of a text that is `new` after the splice.
pub record IsIndexBefore (marks : List Mark) (new : List ℕ) (splice : Splice) (seam : Seam) : Type 0 where
  pub old : List ℕ
  pub index : marks ≡ index_of old
  pub is_splice : IsSplice old new splice.start splice.end splice.inserted
  pub is_seam : IsSeam old splice seam
