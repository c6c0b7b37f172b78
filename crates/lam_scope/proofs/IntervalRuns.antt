-- How rows are searched, run by run.
use Rattle.std.proofs.Common.{◌≡◌, ℕ, ◌+◌, ◌<◌, ◌≤◌, arith, Bool, true, false, cond, ltb, List, [], ◌∷◌, ◌++◌, length, take, drop, get_or, zero, suc, refl, ap, sym, ◌∙◌, subst, append_assoc, Option, Some, None, position, map}
use Rattle.std.specs.Prelude.{if◌then◌else◌}
use Rattle.std.specs.List.{position_from}
use Rattle.std.proofs.lemmas.Iterator.Adapters.{position_from-zero}
use Rattle.std.proofs.lemmas.List.{append-nil, drop_all, drop-drop, take_more, take-append-drop, length-drop, get_or-map, length-map, length-take, take-map, drop-map, take_all}
use Rattle.std.proofs.lemmas.Bool.{ltb-false, le-ltb}
use Rattle.lam_rules.proofs.TableEntries.{drop_more_read}
use Rattle.lam_scope.specs.declared.intervals.Interval.{Interval}
use Rattle.lam_scope.specs.Intervals.{has, IsPart, AreParts, AreRuns}

-- rows and their intervals

row_mapped : {X : Type 0} (f : X → Interval) (xs : List X) (i : ℕ) (x : X) → i < length xs → x ≡ get_or xs i x → f x ≡ get_or (map f xs) i (f x)
row_mapped f xs i x lt is = ap f is ∙ sym (get_or-map f xs i x (f x) lt)

run_mapped : {X : Type 0} (f : X → Interval) (xs run : List X) (n : ℕ) → run ≡ take 64 (drop n xs) → map f run ≡ take 64 (drop n (map f xs))
run_mapped f xs run n is = ap (map f) is ∙ sym (take-map f 64 (drop n xs)) ∙ ap (take 64) (sym (drop-map f n xs))

behind_mapped : {X : Type 0} (f : X → Interval) (run : List X) (n m : ℕ) → m ≡ n + length run → m ≡ n + length (map f run)
behind_mapped f run n m last = last ∙ ap (λ k. n + k) (sym (length-map run f))

-- parts

parts_more : (ss : List Interval) (t u : Interval) → AreParts ss t → IsPart t u → AreParts ss u
parts_more [] t u h p = tt
parts_more (s ∷ ss) t u h p = ((omega (arith, h.0.0, p.0), omega (arith, h.0.1, p.1)), parts_more ss t u h.1 p)

parts_push : (ss : List Interval) (s u : Interval) → AreParts ss u → IsPart s u → AreParts (ss ++ s ∷ []) u
parts_push [] s u h p = (p, tt)
parts_push (r ∷ ss) s u h p = (h.0, parts_push ss s u h.1 p)

-- one more interval is within the whole
around_more : (ss : List Interval) (i : ℕ) (s t u : Interval) → i < length ss → s ≡ get_or ss i s → AreParts (take i ss) t → IsPart t u → IsPart s u → AreParts (take (i + 1) ss) u
around_more ss i s t u lt is h whole part =
    let longer : take (i + 1) ss ≡ take i ss ++ s ∷ [] = take_more ss i s lt ∙ ap (λ x. take i ss ++ x ∷ []) (sym is) in
    subst (λ rs. AreParts rs u) (sym longer) (parts_push (take i ss) s u (parts_more (take i ss) t u h whole) part)

-- the same for a row that is read
pub around_row : {X : Type 0} (f : X → Interval) (xs : List X) (i : ℕ) (x : X) (s t u : Interval) → i < length xs → x ≡ get_or xs i x → s ≡ f x → AreParts (take i (map f xs)) t → IsPart t u → IsPart s u
    → AreParts (take (i + 1) (map f xs)) u
around_row f xs i x s t u lt is same h whole part =
    around_more (map f xs) i (f x) t u (subst (λ n. i < n) (sym (length-map xs f)) lt) (row_mapped f xs i x lt is) h whole (subst (λ r. IsPart r u) same part)

pub around_all : {X : Type 0} (f : X → Interval) (xs : List X) (i : ℕ) (t : Interval) → length xs ≤ i → AreParts (take i (map f xs)) t → AreParts (map f xs) t
around_all f xs i t le h = subst (λ rs. AreParts rs t) (take_all i (map f xs) (subst (λ n. n ≤ i) (sym (length-map xs f)) le)) h

pub short_run : {X : Type 0} (xs : List X) → length xs < 64 → xs ≡ take 64 xs
short_run xs lt = sym (take_all 64 xs (omega (arith, lt)))

pub ruleset whole_runs = (short_run)

-- runs

drop_run : (ss : List Interval) (n : ℕ) → drop (length (take n ss)) ss ≡ drop n ss
drop_run ss zero = refl
drop_run [] (suc n) = refl
drop_run (s ∷ ss) (suc n) = drop_run ss n

behind_run : (ss : List Interval) (n m : ℕ) → m ≡ n + length (take 64 (drop n ss)) → drop m ss ≡ drop 64 (drop n ss)
behind_run ss n m e = ap (λ k. drop k ss) e ∙ sym (drop-drop (length (take 64 (drop n ss))) n ss) ∙ drop_run (drop n ss) 64

-- how many rows there are up to the end of a run
pub run_within : {X : Type 0} (xs run : List X) (n m : ℕ) → n ≤ length xs → run ≡ take 64 (drop n xs) → m ≡ n + length run → m ≤ length xs
run_within xs run n m le is last =
    let size = length-take 64 (drop n xs) in
    let rest = length-drop n xs in
    let same = ap length is in
    omega (arith, size, rest, same, last)

runs_more : (ss runs more run : List Interval) (n m : ℕ) (whole : Interval) → run ≡ take 64 (drop n ss) → m ≡ n + length run → AreParts run whole → more ≡ runs ++ whole ∷ []
    → ((rs : List Interval) → AreRuns rs (drop n ss) → AreRuns (runs ++ rs) ss) → (rs : List Interval) → AreRuns rs (drop m ss) → AreRuns (more ++ rs) ss
runs_more ss runs more run n m whole is last parts pushed so_far rs rest =
    subst (λ qs. AreRuns qs ss) (sym (ap (λ qs. qs ++ rs) pushed ∙ append_assoc runs (whole ∷ []) rs))
    (so_far (whole ∷ rs) (subst (λ qs. AreParts qs whole) is parts, subst (AreRuns rs) (behind_run ss n m (last ∙ ap (λ qs. n + length qs) is)) rest))

runs_all : (ss runs : List Interval) (n : ℕ) → length ss ≤ n → ((rs : List Interval) → AreRuns rs (drop n ss) → AreRuns (runs ++ rs) ss) → AreRuns runs ss
runs_all ss runs n le so_far = subst (λ qs. AreRuns qs ss) (append-nil runs) (so_far [] (subst (AreRuns []) (sym (drop_all n ss le)) tt))

pub rows_more : {X : Type 0} (f : X → Interval) (xs run : List X) (runs more : List Interval) (n m : ℕ) (whole : Interval) → run ≡ take 64 (drop n xs) → m ≡ n + length run → AreParts (map f run) whole
    → more ≡ runs ++ whole ∷ [] → ((rs : List Interval) → AreRuns rs (drop n (map f xs)) → AreRuns (runs ++ rs) (map f xs))
    → (rs : List Interval) → AreRuns rs (drop m (map f xs)) → AreRuns (more ++ rs) (map f xs)
rows_more f xs run runs more n m whole is last parts pushed so_far = runs_more (map f xs) runs more (map f run) n m whole (run_mapped f xs run n is) (behind_mapped f run n m last) parts pushed so_far

pub rows_all : {X : Type 0} (f : X → Interval) (xs : List X) (runs : List Interval) (n : ℕ) → length xs ≤ n
    → ((rs : List Interval) → AreRuns rs (drop n (map f xs)) → AreRuns (runs ++ rs) (map f xs)) → AreRuns runs (map f xs)
rows_all f xs runs n le so_far = runs_all (map f xs) runs n (subst (λ k. k ≤ n) (sym (length-map xs f)) le) so_far

-- the first that has a byte

has_between : (o : ℕ) (s : Interval) → s.lowest ≤ o → o ≤ s.highest → has o s ≡ true
has_between o s low high = ap (λ a. if a then false else (if ltb s.highest o then false else true)) (le-ltb o s.lowest low) ∙ ap (λ b. if b then false else true) (le-ltb s.highest o high)

part_has_not : (o : ℕ) (s t : Interval) → IsPart s t → has o t ≡ false → has o s ≡ false
part_has_not o s t part none = by (ltb o s.lowest) (ltb s.highest o) refl refl
  where
    by : (a b : Bool) → ltb o s.lowest ≡ a → ltb s.highest o ≡ b → (if a then false else (if b then false else true)) ≡ false
    by true b e f = refl
    by false true e f = refl
    by false false e f =
        let low = ltb-false o s.lowest e in
        let high = ltb-false s.highest o f in
        let inside = has_between o t (omega (arith, part.0, low)) (omega (arith, part.1, high)) in
        sym inside ∙ none

pub none_in_run : (o i : ℕ) (ss : List Interval) (t : Interval) → AreParts ss t → has o t ≡ false → position_from (has o) i ss ≡ None
none_in_run o i [] t h none = refl
none_in_run o i (s ∷ ss) t h none = ap (λ b. cond b (Some i) (position_from (has o) (i + 1) ss)) (part_has_not o s t h.0 none) ∙ none_in_run o (i + 1) ss t h.1 none

pub position_by_steps : (o : ℕ) (ss : List Interval) → position (has o) ss ≡ position_from (has o) 0 ss
position_by_steps o ss = position_from-zero (has o) ss

first_passes : (o i : ℕ) (s : Interval) (ss : List Interval) → has o s ≡ true → position_from (has o) i (s ∷ ss) ≡ Some i
first_passes o i s ss e = ap (λ b. cond b (Some i) (position_from (has o) (i + 1) ss)) e

first_fails : (o i : ℕ) (s : Interval) (ss : List Interval) → has o s ≡ false → position_from (has o) i (s ∷ ss) ≡ position_from (has o) (i + 1) ss
first_fails o i s ss e = ap (λ b. cond b (Some i) (position_from (has o) (i + 1) ss)) e

pub found_in_run : {X : Type 0} (f : X → Interval) (o before i : ℕ) (xs : List X) (x : X) (s : Interval) → i < length xs → x ≡ get_or xs i x → s ≡ f x → has o s ≡ true
    → position_from (has o) before (map f xs) ≡ position_from (has o) (before + i) (drop i (map f xs)) → Some (before + i) ≡ position_from (has o) before (map f xs)
found_in_run f o before i xs x s lt is same hit so_far =
    sym (so_far
    ∙ ap (position_from (has o) (before + i)) (drop_more_read (map f xs) i (f x) (subst (λ n. i < n) (sym (length-map xs f)) lt) (row_mapped f xs i x lt is))
    ∙ first_passes o (before + i) (f x) (drop (i + 1) (map f xs)) (ap (has o) (sym same) ∙ hit))

pub missed_in_run : {X : Type 0} (f : X → Interval) (o before i : ℕ) (xs : List X) (x : X) (s : Interval) → i < length xs → x ≡ get_or xs i x → s ≡ f x → has o s ≡ false
    → position_from (has o) before (map f xs) ≡ position_from (has o) (before + i) (drop i (map f xs))
    → position_from (has o) before (map f xs) ≡ position_from (has o) (before + (i + 1)) (drop (i + 1) (map f xs))
missed_in_run f o before i xs x s lt is same no_byte so_far =
    let next : before + i + 1 ≡ before + (i + 1) = omega arith in
    so_far
    ∙ ap (position_from (has o) (before + i)) (drop_more_read (map f xs) i (f x) (subst (λ n. i < n) (sym (length-map xs f)) lt) (row_mapped f xs i x lt is))
    ∙ first_fails o (before + i) (f x) (drop (i + 1) (map f xs)) (ap (has o) (sym same) ∙ no_byte)
    ∙ ap (λ k. position_from (has o) k (drop (i + 1) (map f xs))) next

skip_run : (o i j : ℕ) (ss ts : List Interval) → j ≡ i + length ss → position_from (has o) i ss ≡ None → position_from (has o) i (ss ++ ts) ≡ position_from (has o) j ts
skip_run o i j [] ts e none = let same : i ≡ j = omega arith in ap (λ k. position_from (has o) k ts) same
skip_run o i j (s ∷ ss) ts e none = by (λ n. skip_run o (i + 1) j ss ts (omega arith) n) (has o s) refl none
  where
    by : (position_from (has o) (i + 1) ss ≡ None → position_from (has o) (i + 1) (ss ++ ts) ≡ position_from (has o) j ts)
        → (b : Bool) → has o s ≡ b → cond b (Some i) (position_from (has o) (i + 1) ss) ≡ None → cond (has o s) (Some i) (position_from (has o) (i + 1) (ss ++ ts)) ≡ position_from (has o) j ts
    by behind true is n = cc
    by behind false is n = ap (λ c. cond c (Some i) (position_from (has o) (i + 1) (ss ++ ts))) is ∙ behind n

hit_run : (o i k : ℕ) (ss ts : List Interval) → position_from (has o) i ss ≡ Some k → position_from (has o) i (ss ++ ts) ≡ Some k
hit_run o i k [] ts some = cc
hit_run o i k (s ∷ ss) ts some = by (λ n. hit_run o (i + 1) k ss ts n) (has o s) refl some
  where
    by : (position_from (has o) (i + 1) ss ≡ Some k → position_from (has o) (i + 1) (ss ++ ts) ≡ Some k)
        → (b : Bool) → has o s ≡ b → cond b (Some i) (position_from (has o) (i + 1) ss) ≡ Some k → cond (has o s) (Some i) (position_from (has o) (i + 1) (ss ++ ts)) ≡ Some k
    by behind true is n = ap (λ c. cond c (Some i) (position_from (has o) (i + 1) (ss ++ ts))) is ∙ n
    by behind false is n = ap (λ c. cond c (Some i) (position_from (has o) (i + 1) (ss ++ ts))) is ∙ behind n

split_rest : (ss run : List Interval) (n : ℕ) → run ≡ take 64 (drop n ss) → drop n ss ≡ run ++ drop 64 (drop n ss)
split_rest ss run n is = sym (take-append-drop 64 (drop n ss)) ∙ ap (λ rs. rs ++ drop 64 (drop n ss)) (sym is)

-- a run that contains it, and one that does not

pub hit_runs : {X : Type 0} (f : X → Interval) (o n : ℕ) (xs run : List X) (found : Option ℕ) (k : ℕ) → run ≡ take 64 (drop n xs) → found ≡ position_from (has o) n (map f run) → found ≡ Some k
    → position (has o) (map f xs) ≡ position_from (has o) n (drop n (map f xs)) → found ≡ position (has o) (map f xs)
hit_runs f o n xs run found k is search some so_far =
    some
    ∙ sym (so_far
    ∙ ap (position_from (has o) n) (split_rest (map f xs) (map f run) n (run_mapped f xs run n is))
    ∙ hit_run o n k (map f run) (drop 64 (drop n (map f xs))) (sym search ∙ some))

pub miss_runs : {X : Type 0} (f : X → Interval) (o n m : ℕ) (xs run : List X) (found : Option ℕ) → run ≡ take 64 (drop n xs) → m ≡ n + length run → found ≡ position_from (has o) n (map f run)
    → found ≡ None → position (has o) (map f xs) ≡ position_from (has o) n (drop n (map f xs)) → position (has o) (map f xs) ≡ position_from (has o) m (drop m (map f xs))
miss_runs f o n m xs run found is last search none so_far =
    let same = run_mapped f xs run n is in
    let behind = behind_mapped f run n m last in
    so_far
    ∙ ap (position_from (has o) n) (split_rest (map f xs) (map f run) n same)
    ∙ skip_run o n m (map f run) (drop 64 (drop n (map f xs))) behind (sym search ∙ none)
    ∙ ap (position_from (has o) m) (sym (behind_run (map f xs) n m (behind ∙ ap (λ rs. n + length rs) same)))

next_runs : (ss runs : List Interval) (i : ℕ) (whole : Interval) → i < length runs → whole ≡ get_or runs i whole → AreRuns (drop i runs) ss → AreRuns (whole ∷ drop (i + 1) runs) ss
next_runs ss runs i whole lt is rest = subst (λ rs. AreRuns rs ss) (drop_more_read runs i whole lt is) rest

pub next_run : {X : Type 0} (f : X → Interval) (xs run : List X) (runs : List Interval) (n i : ℕ) (whole : Interval) → i < length runs → whole ≡ get_or runs i whole
    → AreRuns (drop i runs) (drop n (map f xs)) → run ≡ take 64 (drop n xs) → AreParts (map f run) whole
next_run f xs run runs n i whole lt is rest same =
    subst (λ rs. AreParts rs whole) (sym (run_mapped f xs run n same)) (next_runs (drop n (map f xs)) runs i whole lt is rest).0

pub runs_left : {X : Type 0} (f : X → Interval) (xs run : List X) (runs : List Interval) (n m i : ℕ) (whole : Interval) → i < length runs → whole ≡ get_or runs i whole
    → AreRuns (drop i runs) (drop n (map f xs)) → run ≡ take 64 (drop n xs) → m ≡ n + length run → AreRuns (drop (i + 1) runs) (drop m (map f xs))
runs_left f xs run runs n m i whole lt is rest same last =
    let behind = behind_mapped f run n m last ∙ ap (λ rs. n + length rs) (run_mapped f xs run n same) in
    subst (AreRuns (drop (i + 1) runs)) (sym (behind_run (map f xs) n m behind)) (next_runs (drop n (map f xs)) runs i whole lt is rest).1
