use Rattle.std.proofs.Common.{List, ℕ, ◌+◌, ◌≤◌, Option, length}
use Rattle.std.specs.Str.{IsUtf8}
use Rattle.lam_token.specs.inner.Reading.{IsBehind}
use Rattle.lam_token.proofs.scan.behind_comment.Given as goal

-- what is behind the comment from here is what is behind the whole of it
abbrev pub invariant-loop-c : goal.invariant-loop-c
invariant-loop-c l = record {
  is_text : IsUtf8 l.rest;
  some_mark : 1 ≤ l.depth;
  open_marks : l.depth + length l.rest ≤ 1 + length l.fn.text;
  comment : (r : Option (List ℕ)) → IsBehind l.depth l.before l.rest r → IsBehind 1 32 l.fn.text r;
}

abbrev pub decreases-loop-c : goal.decreases-loop-c
decreases-loop-c l = length l.rest
