-- What two texts have in common in front and at their ends, many bytes more; and the pieces at the ends, one more that is passed.
use Rattle.std.proofs.Common.{◌≡◌, ◌<◌, ◌≤◌, ◌+◌, ◌-◌, ℕ, List, [], ◌++◌, length, get_or, take, drop, slice_range, take-add, take-append-drop, Bor, sym, ap, ◌∙◌, arith}
use Rattle.std.proofs.lemmas.List.{drop_all, drop-drop}
use Rattle.lam_query.specs.declared.ends.OldPieces.{OldPieces}
use Rattle.lam_query.specs.declared.rows.Row.{Row as RustRow}
use Rattle.lam_query.specs.inner.Ends.{IsLeftOf}
use Rattle.lam_query.specs.inner.Kept.{Row, rows_of, bytes_of}
use Rattle.lam_query.proofs.RowBytes.{bytes_fewer, many}

-- the last 0 bytes are none
no_end : (xs : List ℕ) → drop (length xs - 0) xs ≡ []
no_end xs = drop_all (length xs - 0) xs (omega arith)

pub none_at_end : (old new : List ℕ) → drop (length old - 0) old ≡ drop (length new - 0) new
none_at_end old new = no_end old ∙ sym (no_end new)

-- ---- the pieces that are left

-- the next one has no more bytes than all
pub piece_inside : (all : List Row) (b : OldPieces) (d : RustRow) → IsLeftOf all b → b.next < length b.rows.now → (get_or b.rows.now b.next d).end ≤ b.bytes
piece_inside all b d left lt =
    omega (arith, left.counted ∙ ap (λ rs. bytes_of (drop b.next rs)) left.rows ∙ bytes_fewer b.rows.now b.next d lt)

-- it is passed
pub one_passed : (all : List Row) (b now : OldPieces) (d : RustRow) → IsLeftOf all b → b.next < length b.rows.now → now.rows ≡ b.rows → now.next ≡ b.next + 1
    → now.bytes ≡ b.bytes - (get_or b.rows.now b.next d).end → IsLeftOf all now
one_passed all b now d left lt rows next bytes =
    let counted = left.counted ∙ ap (λ rs. bytes_of (drop b.next rs)) left.rows ∙ bytes_fewer b.rows.now b.next d lt in
    let fewer : now.bytes ≡ bytes_of (drop (b.next + 1) (rows_of b.rows.now)) = omega (arith, bytes, counted) in
    record {
      rows = left.rows ∙ ap (λ (r : Bor (List RustRow)). rows_of r.now) (sym rows);
      inside = omega (arith, next, lt, ap length left.rows, many b.rows.now);
      counted = fewer ∙ ap (λ rs. bytes_of (drop (b.next + 1) rs)) (sym left.rows) ∙ ap (λ n. bytes_of (drop n all)) (sym next);
    }

-- ---- many bytes at once

-- so many more in front
pub front_more_by : (old new : List ℕ) (front more : ℕ) → take front old ≡ take front new
    → slice_range old front (front + more) ≡ slice_range new front (front + more) → take (front + more) old ≡ take (front + more) new
front_more_by old new front more so_far here = apart old ∙ (λ k. so_far k ++ here k) ∙ sym (apart new)
  where
    apart : (xs : List ℕ) → take (front + more) xs ≡ take front xs ++ slice_range xs front (front + more)
    apart xs =
        let on : more ≡ front + more - front = omega arith in
        take-add front more xs ∙ ap (λ n. take front xs ++ take n (drop front xs)) on

-- so many more from behind
pub end_more_by : (old new : List ℕ) (end more : ℕ) → end + more ≤ length old → end + more ≤ length new
    → drop (length old - end) old ≡ drop (length new - end) new
    → slice_range old (length old - (end + more)) (length old - end) ≡ slice_range new (length new - (end + more)) (length new - end)
    → drop (length old - (end + more)) old ≡ drop (length new - (end + more)) new
end_more_by old new end more in_old in_new so_far here = apart old in_old ∙ (λ k. here k ++ so_far k) ∙ sym (apart new in_new)
  where
    apart : (xs : List ℕ) → end + more ≤ length xs
        → drop (length xs - (end + more)) xs ≡ slice_range xs (length xs - (end + more)) (length xs - end) ++ drop (length xs - end) xs
    apart xs inside =
        let from = length xs - (end + more) in
        let many = length xs - end - from in
        let on : from + many ≡ length xs - end = omega (arith, inside) in
        sym (take-append-drop many (drop from xs)) ∙ ap (λ ys. take many (drop from xs) ++ ys) (drop-drop many from xs ∙ ap (λ n. drop n xs) on)
