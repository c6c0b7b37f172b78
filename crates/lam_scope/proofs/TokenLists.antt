-- Lists of tokens that stand one behind the other.
use Rattle.std.proofs.Common.{◌≡◌, ℕ, ◌+◌, ◌-◌, ◌<◌, ◌≤◌, List, [], ◌∷◌, ◌++◌, length, length-append, drop, get_or, zero, suc, ap, sym, ◌∙◌, append_assoc, arith, add-one}
use Rattle.std.specs.Prelude.{slice_index_or}
use Rattle.std.proofs.lemmas.List.{append-nil}
use Rattle.lam_token.specs.declared.span.Span.{Span}
use Rattle.std.specs.List.{slice_range}
use Rattle.lam_scope.specs.Slices.{first_start, sliced, AreInOrder}
use Rattle.lam_scope.proofs.Slices.{first_start-at, first_start-past, in_order-longer, in_order-pushed, in_order-at, in_order-within, sliced-pushed, sliced-at, sliced-past}
use Rattle.lam_scope.specs.Tables.{TextUse, use_tokens, tokens_by}
use Rattle.lam_scope.specs.TableViews.{list_start, listed}

-- the list of a binder

pub tokens_by-at : (us : List TextUse) (m count n : ℕ) → n < count → slice_index_or (tokens_by m count us) n [] ≡ use_tokens (m + n) us
tokens_by-at us m zero n within = absurd (omega arith)
tokens_by-at us m (suc count) zero within = let same : m ≡ m + 0 = omega arith in ap (λ k. use_tokens k us) same
tokens_by-at us m (suc count) (suc n) within =
    let same : m + 1 + n ≡ m + suc n = omega arith in
    tokens_by-at us (m + 1) count n (omega (arith, within)) ∙ ap (λ k. use_tokens k us) same

-- a list more

by_more : (n m count : ℕ) (us : List TextUse) → count ≡ suc m → tokens_by n count us ≡ use_tokens n us ∷ tokens_by (n + 1) m us
by_more n m count us e = ap (λ k. tokens_by n k us) e

pub lists_more : (before after all : List (List Span)) (i count : ℕ) (us : List TextUse) → i < count → after ≡ before ++ use_tokens i us ∷ []
    → before ++ tokens_by i (count - i) us ≡ all → after ++ tokens_by (i + 1) (count - (i + 1)) us ≡ all
lists_more before after all i count us lt added so_far =
    ap (λ ks. ks ++ tokens_by (i + 1) (count - (i + 1)) us) added
    ∙ append_assoc before (use_tokens i us ∷ []) (tokens_by (i + 1) (count - (i + 1)) us)
    ∙ ap (λ ks. before ++ ks) (sym (by_more i (count - (i + 1)) (count - i) us (omega arith)))
    ∙ so_far

pub lists_all : (before all : List (List Span)) (i count : ℕ) (us : List TextUse) → count ≤ i → before ++ tokens_by i (count - i) us ≡ all → before ≡ all
lists_all before all i count us le so_far =
    let none : count - i ≡ 0 = omega arith in
    sym (append-nil before) ∙ ap (λ k. before ++ tokens_by i k us) (sym none) ∙ so_far

pub list-pushed : (ts longer new : List Span) (starts more : List ℕ) (s : ℕ) → AreInOrder list_start (length ts) starts → more ≡ starts ++ s ∷ [] → longer ≡ ts ++ new → s ≡ length ts
    → sliced list_start listed longer more ≡ sliced list_start listed ts starts ++ new ∷ []
list-pushed ts longer new starts more s order pushed grown is =
    (λ i. sliced list_start listed (grown i) (pushed i)) ∙ sliced-pushed list_start listed ts new starts s order is

pub starts-more : (ts longer new : List Span) (starts more : List ℕ) (s : ℕ) → AreInOrder list_start (length ts) starts → more ≡ starts ++ s ∷ [] → longer ≡ ts ++ new → s ≡ length ts
    → AreInOrder list_start (length longer) more
starts-more ts longer new starts more s order pushed grown is =
    let all = length-append ts new in
    let same = ap length grown in
    rw pushed (in_order-longer list_start (length ts) (length longer) (starts ++ s ∷ []) (omega arith) (in_order-pushed list_start (length ts) starts s is order))

-- the list of a number, or none

pub list-at : (ts : List Span) (starts : List ℕ) (n s : ℕ) → n < length starts → s ≡ get_or starts n s
    → get_or (sliced list_start listed ts starts) n [] ≡ slice_range ts s (first_start list_start (drop (n + 1) starts) (length ts))
list-at ts starts n s lt is = rw add-one (sliced-at list_start listed ts starts n s [] lt is)

pub list-past : (ts : List Span) (starts : List ℕ) (n : ℕ) → length starts ≤ n → get_or (sliced list_start listed ts starts) n [] ≡ []
list-past ts starts n le = sliced-past list_start listed ts starts n [] le

pub starts-at : (starts : List ℕ) (end n s : ℕ) → n < length starts → s ≡ get_or starts n s → first_start list_start (drop n starts) end ≡ s
starts-at starts end n s lt is = first_start-at list_start end starts n s lt is

pub starts-past : (starts : List ℕ) (end n : ℕ) → length starts ≤ n → first_start list_start (drop n starts) end ≡ end
starts-past starts end n le = first_start-past list_start end starts n le

pub starts-order : (starts : List ℕ) (end n s : ℕ) → AreInOrder list_start end starts → n < length starts → s ≡ get_or starts n s → s ≤ first_start list_start (drop (n + 1) starts) end
starts-order starts end n s order lt is = rw add-one (in_order-at list_start end starts n s order lt is)

pub starts-within : (starts : List ℕ) (end n : ℕ) → AreInOrder list_start end starts → first_start list_start (drop n starts) end ≤ end
starts-within starts end n order = in_order-within list_start end starts n order

pub ruleset listing = (list-at, list-past, starts-at, starts-past, starts-order, starts-within)
