-- The rows that were read are put between those in front of a change and those behind it.
use Rattle.std.proofs.Common.{◌≡◌, ◌<◌, ◌≤◌, ◌+◌, ◌-◌, ℕ, List, [], ◌∷◌, ◌++◌, append_assoc, append-nil, length, take, drop, slice_range, sym, ap, subst, ◌∙◌, arith}
use Rattle.std.specs.List.{All}
use Rattle.std.proofs.lemmas.List.{length-append, length-take-le, take_at, drop_at, drop-drop, drop_all, take-map, drop-map, map-append, drop-append-le}
use Rattle.std.proofs.lemmas.List.Elements.{All-append, All-drop}
use Rattle.lam_rules.specs.Numbers.{Keeps}
use Rattle.lam_rules.proofs.Tables.{keeps_same}
use Rattle.lam_typing.specs.Checking.{types_in, dialect_in, IsSoundChecker}
use Rattle.lam_query.specs.declared.analyses.Analysis.{Analysis}
use Rattle.lam_query.specs.declared.analyses.Analyst.{Analyst}
use Rattle.lam_query.specs.declared.entries.Entries.{Entries}
use Rattle.lam_query.specs.declared.fronts.FrontRows.{FrontRows}
use Rattle.lam_query.specs.declared.rows.Row.{Row as RustRow}
use Rattle.lam_query.specs.inner.Analysts.{IsSound, IsBoundAs, IsReadTo, IsReadThrough}
use Rattle.lam_query.specs.inner.Bound.{HaveNumbers, KeepsNumbers, AllStand}
use Rattle.lam_query.specs.inner.Changes.{IsFollowedTo}
use Rattle.lam_query.specs.inner.Entries.{IsPassedBy, IsMeantBy}
use Rattle.lam_query.specs.inner.Kept.{row_of, rows_of}
use Rattle.lam_query.specs.inner.PieceRows.{Sight, outset, IsEnded, AreRows, joined}
use Rattle.lam_query.proofs.BoundNames.{numbers_trans}
use Rattle.lam_query.proofs.ChangedTexts.{IsBegun, Pieces, First, many_pieces, ended_within, front_split, front_sight, ahead, count_inside, count_ended, begun_bound, begun_stands}
use Rattle.lam_query.proofs.EarlierNames.{rows_passed, meant_now}
use Rattle.lam_query.proofs.PieceRowLists.{joined_append, rows_split, rows_join, as_many, rows_keep}
use Rattle.lam_query.proofs.RowBytes.{many}

-- ---- lists

-- a list with other elements put between its first and its last ones: what it has up to their end, and behind it
module _ {X : Type 0} (xs ys : List X) (from to next : ℕ) (inside : from ≤ length xs) (is : next ≡ from + length ys) where
  long : length (take from xs ++ ys) ≡ next
  long = length-append (take from xs) ys ∙ ap (λ n. n + length ys) (length-take-le from xs inside) ∙ sym is

  pub first_put : take next (take from xs ++ (ys ++ drop to xs)) ≡ take from xs ++ ys
  first_put = ap (take next) (sym (append_assoc (take from xs) ys (drop to xs))) ∙ take_at (take from xs ++ ys) (drop to xs) next long

  pub behind_put : drop next (take from xs ++ (ys ++ drop to xs)) ≡ drop to xs
  behind_put = ap (drop next) (sym (append_assoc (take from xs) ys (drop to xs))) ∙ drop_at (take from xs ++ ys) (drop to xs) next long

-- the part of a list between two numbers is passed
part_passed : {X : Type 0} (xs : List X) (from to : ℕ) → from ≤ to → drop (to - from) (drop from xs) ≡ drop to xs
part_passed xs from to le = drop-drop (to - from) from xs ∙ (let on : from + (to - from) ≡ to = omega arith in ap (λ n. drop n xs) on)

-- rows of the first and of those that were read
rows_of_both : (xs ys : List RustRow) (n : ℕ) → rows_of (take n xs ++ ys) ≡ take n (rows_of xs) ++ rows_of ys
rows_of_both xs ys n = map-append row_of (take n xs) ys ∙ ap (λ rs. rs ++ rows_of ys) (sym (take-map row_of n xs))

pub same_sound : (now y : Analyst) → y.types ≡ now.types → y.bound ≡ now.bound → IsSound now → IsSound y
same_sound now y types bound sound = record {
  types = subst IsSoundChecker (sym types) sound.types;
  stand = subst (λ t. AllStand (types_in t) y.bound) (sym types) (subst (AllStand (types_in now.types)) (sym bound) sound.stand);
  numbers = subst HaveNumbers (sym bound) sound.numbers;
}

-- ---- the rows of the new text

-- how the rows of an analyst, and all else, are after those that it read were put between the old ones
pub record IsPutBetween (a : Analysis) (from to : ℕ) (now y : Analyst) : Type 0 where
  pub rows : y.rows.items ≡ take from a.rows.items ++ (now.rows.items ++ drop to a.rows.items)
  pub types : y.types ≡ now.types
  pub bound : y.bound ≡ now.bound
  pub end : y.end ≡ now.end

-- an analyst that has read on
pub record HasReadOn (x now : Analyst) : Type 0 where
  pub keeps : Keeps (types_in x.types) (types_in now.types)
  pub numbers : KeepsNumbers x.bound now.bound
  pub dialect : dialect_in now.types ≡ dialect_in x.types

module _ {old new : List ℕ} {a : Analysis} {front : FrontRows} {x : Analyst} (h : IsBegun old new a front x) {now : Analyst} (on : HasReadOn x now) (y : Analyst) where
  same_dialect : dialect_in now.types ≡ a.dialect
  same_dialect = on.dialect ∙ ap dialect_in h.types ∙ h.of.dialect

  keeps_all : Keeps (types_in a.types) (types_in now.types)
  keeps_all = subst (λ t. Keeps (types_in t) (types_in now.types)) h.types on.keeps

  first_ended : All IsEnded (First h)
  first_ended = ended_within h.of.ended h.of.last front.count (count_ended h) h.of.made_up.all_ended

  -- the rows of the first pieces, and those that were read
  both_rows : (pieces : List (List ℕ)) (last : Sight) → AreRows (front_sight h) pieces (rows_of now.rows.items) last (types_in now.types) now.bound (dialect_in now.types)
      → y.types ≡ now.types → y.bound ≡ now.bound
      → AreRows outset (First h ++ pieces) (rows_of (take front.count a.rows.items ++ now.rows.items)) last (types_in y.types) y.bound (dialect_in y.types)
  both_rows pieces last rows types bound =
      let split = front_split h in
      let kept = rows_keep outset (First h) (take front.count (rows_of a.rows.items)) (front_sight h) (types_in a.types) (types_in now.types) a.bound now.bound a.dialect
      keeps_all (numbers_trans a.bound x.bound now.bound h.keeps on.numbers) split.1 in
      let here = subst (λ d. AreRows outset (First h) (take front.count (rows_of a.rows.items)) (front_sight h) (types_in now.types) now.bound d) (sym same_dialect) kept in
      let all = rows_join outset (First h) (take front.count (rows_of a.rows.items)) (front_sight h) pieces (rows_of now.rows.items) last
      (types_in now.types) now.bound (dialect_in now.types) here rows in
      let put = subst (λ rs. AreRows outset (First h ++ pieces) rs last (types_in now.types) now.bound (dialect_in now.types))
      (sym (rows_of_both a.rows.items now.rows.items front.count)) all in
      subst (λ t. AreRows outset (First h ++ pieces) (rows_of (take front.count a.rows.items ++ now.rows.items)) last (types_in t) y.bound (dialect_in t)) (sym types)
      (subst (λ b. AreRows outset (First h ++ pieces) (rows_of (take front.count a.rows.items ++ now.rows.items)) last (types_in now.types) b (dialect_in now.types))
      (sym bound) put)

  -- ---- all was read

  pub all_put : (to : ℕ) → IsPutBetween a front.count to now y → to ≡ length (Pieces h) → IsReadThrough (ahead h) (front_sight h) new now
      → IsReadThrough [] outset new y
  all_put to put is through =
      let none : drop to a.rows.items ≡ [] = drop_all to a.rows.items (omega (arith, is, many_pieces h.of)) in
      let items : y.rows.items ≡ take front.count a.rows.items ++ now.rows.items =
      put.rows ∙ ap (λ rs. take front.count a.rows.items ++ (now.rows.items ++ rs)) none ∙ ap (λ rs. take front.count a.rows.items ++ rs) (append-nil now.rows.items) in
      let apart = append_assoc (First h) through.ended (through.last ∷ []) in
      record {
        ended = First h ++ through.ended;
        last = through.last;
        divides = through.divides ∙ sym (joined_append (First h) (through.ended ++ through.last ∷ [])) ∙ ap joined (sym apart);
        all_ended = All-append IsEnded (First h) through.ended first_ended through.all_ended;
        not_ended = through.not_ended;
        sight = through.sight;
        rows =
            subst (λ ps. AreRows outset ps (rows_of y.rows.items) through.sight (types_in y.types) y.bound (dialect_in y.types)) (sym apart)
            (subst (λ rs. AreRows outset (First h ++ (through.ended ++ through.last ∷ [])) (rows_of rs) through.sight (types_in y.types) y.bound (dialect_in y.types))
            (sym items) (both_rows (through.ended ++ through.last ∷ []) through.sight through.rows put.types put.bound));
      }

  -- ---- some pieces are left

  -- in front of the first row that is left, names meant this in the old text
  pub record IsLeftFrom (to : ℕ) (e : Entries) : Type 0 where
    pub sight : Sight
    pub rows : AreRows sight (drop to (Pieces h)) (drop to (rows_of a.rows.items)) h.of.sight (types_in a.types) x.bound a.dialect
    pub meant : IsMeantBy sight (types_in a.types) x.bound e

  pub left_from : (to : ℕ) (e passed : Entries) → front.count ≤ to → e.names.items ≡ x.bound.names.entries.items → e.type_names.items ≡ x.bound.type_names.entries.items
      → IsPassedBy (rows_of (slice_range a.rows.items front.count to)) e passed → IsLeftFrom to passed
  left_from to e passed le names types by =
      let d = a.dialect in
      let ts = types_in a.types in
      let rows = rows_of a.rows.items in
      let more = to - front.count in
      let split = front_split h in
      let meant = meant_now (front_sight h) ts x.bound e (begun_bound h) (begun_stands h) h.numbers names types in
      let kept = rows_keep (front_sight h) (drop front.count (Pieces h)) (drop front.count rows) h.of.sight ts ts a.bound x.bound d (keeps_same ts) h.keeps split.2 in
      let second = rows_split more (front_sight h) (drop front.count (Pieces h)) (drop front.count rows) h.of.sight ts x.bound d kept in
      let part : rows_of (slice_range a.rows.items front.count to) ≡ take more (drop front.count rows) =
      sym (ap (take more) (drop-map row_of front.count a.rows.items) ∙ take-map row_of more (drop front.count a.rows.items)) in
      record {
        sight = second.0;
        rows =
            subst (λ ps. AreRows second.0 ps (drop to rows) h.of.sight ts x.bound d) (part_passed (Pieces h) front.count to le)
            (subst (λ rs. AreRows second.0 (drop more (drop front.count (Pieces h))) rs h.of.sight ts x.bound d) (part_passed rows front.count to le) second.2);
        meant = rows_passed (front_sight h) (take more (drop front.count (Pieces h))) (take more (drop front.count rows)) second.0 ts x.bound d e passed h.numbers second.1 meant
            (subst (λ rs. IsPassedBy rs e passed) part by);
      }

  pub some_left : (to next : ℕ) (e : Entries) → IsPutBetween a front.count to now y → next ≡ front.count + length now.rows.items → to < length (Pieces h)
      → IsReadTo (ahead h) (front_sight h) new (joined (drop to (Pieces h))) now → IsLeftFrom to e
      → IsFollowedTo new next (types_in a.types) x.bound (λ was now. IsMeantBy was (types_in a.types) x.bound e) y
  some_left to next e put is lt read left =
      let inside = count_inside h in
      let under : to ≤ length h.of.ended = omega (arith, lt, length-append h.of.ended (h.of.last ∷ [])) in
      let behind : drop to (Pieces h) ≡ drop to h.of.ended ++ h.of.last ∷ [] = drop-append-le to h.of.ended (h.of.last ∷ []) under in
      let done = First h ++ read.pieces in
      let ended = done ++ drop to h.of.ended in
      let parts : ended ++ h.of.last ∷ [] ≡ done ++ drop to (Pieces h) = append_assoc done (drop to h.of.ended) (h.of.last ∷ []) ∙ ap (λ ps. done ++ ps) (sym behind) in
      let first_bytes = joined_append (First h) read.pieces in
      let firsts : take next y.rows.items ≡ take front.count a.rows.items ++ now.rows.items =
      ap (take next) put.rows ∙ first_put a.rows.items now.rows.items front.count to next inside is in
      let others : drop next y.rows.items ≡ drop to a.rows.items = ap (drop next) put.rows ∙ behind_put a.rows.items now.rows.items front.count to next inside is in
      let as_read = as_many (front_sight h) read.pieces (rows_of now.rows.items) read.sight (types_in now.types) now.bound (dialect_in now.types) read.rows in
      record {
        ended = ended;
        last = h.of.last;
        made_up = record {
          whole =
              read.divides ∙ sym (append_assoc (joined (First h)) (joined read.pieces) (joined (drop to (Pieces h))))
              ∙ ap (λ xs. xs ++ joined (drop to (Pieces h))) (sym first_bytes) ∙ sym (joined_append done (drop to (Pieces h))) ∙ ap joined (sym parts);
          all_ended = All-append IsEnded done (drop to h.of.ended) (All-append IsEnded (First h) read.pieces first_ended read.all_ended) (All-drop IsEnded to h.of.ended h.of.made_up.all_ended);
          not_ended = h.of.made_up.not_ended;
        };
        done = done;
        left = drop to (Pieces h);
        parts = parts;
        counted =
            length-append (First h) read.pieces
            ∙ (λ i. length-take-le front.count (Pieces h) (omega (arith, inside, many_pieces h.of)) i + (sym as_read ∙ many now.rows.items) i) ∙ sym is;
        end = put.end ∙ read.end ∙ ap length (sym first_bytes);
        sight = read.sight;
        rows = subst (λ rs. AreRows outset done (rows_of rs) read.sight (types_in y.types) y.bound (dialect_in y.types)) (sym firsts)
            (both_rows read.pieces read.sight read.rows put.types put.bound);
        bound = subst (λ t. IsBoundAs read.sight.names read.sight.types (types_in t) y.bound) (sym put.types)
            (subst (λ b. IsBoundAs read.sight.names read.sight.types (types_in now.types) b) (sym put.bound) read.bound);
        old_sight = left.sight;
        old_last = h.of.sight;
        old_rows =
            subst (λ d. AreRows left.sight (drop to (Pieces h)) (rows_of (drop next y.rows.items)) h.of.sight (types_in a.types) x.bound d)
            (sym (ap dialect_in put.types ∙ same_dialect))
            (subst (λ rs. AreRows left.sight (drop to (Pieces h)) rs h.of.sight (types_in a.types) x.bound a.dialect)
            (drop-map row_of to a.rows.items ∙ ap rows_of (sym others)) left.rows);
        related = left.meant;
        old_numbers = h.numbers;
        keeps = subst (λ t. Keeps (types_in a.types) (types_in t)) (sym put.types) keeps_all;
        numbers = subst (KeepsNumbers x.bound) (sym put.bound) on.numbers;
      }
