-- The uses of each binder as a linked list in text order. A link is the number of uses from its target to the last use, both included; 0 is the end.
use Rattle.std.specs.Prelude.{◌≡◌, ℕ, suc, ◌-◌, ◌<◌, ◌≤◌, List, [], ◌∷◌, length, map, slice_index_or}
use Rattle.lam_token.specs.declared.span.Span.{Span}
use Rattle.lam_scope.specs.declared.rows.UseRow.{UseRow}
use Rattle.lam_scope.specs.Tables.{use_tokens}
use Rattle.lam_scope.specs.TableViews.{text_use}

-- the chain from a link has these tokens, given the next link of each use, that of the last use first
pub data IsChain (us : List UseRow) (nexts : List ℕ) : ℕ → List Span → Type 0 where
  no_more : IsChain us nexts 0 []
  one_more : (n next : ℕ) (u : UseRow) {ts : List Span} → n < length us → n < length nexts → u ≡ slice_index_or us (length us - suc n) u → next ≡ slice_index_or nexts n 0 → next ≤ n
      → IsChain us nexts next ts → IsChain us nexts (suc n) (u.token ∷ ts)

-- from the first use of each binder, the chain of its uses among these
abbrev pub AreChains : (firsts nexts : List ℕ) (us these : List UseRow) → Type 0
AreChains firsts nexts us these = (b : ℕ) → b < length firsts → IsChain us nexts (slice_index_or firsts b 0) (use_tokens b (map text_use these))
