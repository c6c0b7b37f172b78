-- A text that was changed: the pieces in front of the change, and where the new text goes on as the old one does.
use Rattle.std.proofs.Common.{◌≡◌, ◌⊎◌, inl, inr, ◌<◌, ◌≤◌, ◌+◌, ◌-◌, ℕ, zero, suc, Bool, true, false, List, [], ◌∷◌, ◌++◌, append-nil, length, take, drop, take-append-drop, take-take, refl, sym, ap, subst, ◌∙◌, arith}
use Rattle.std.specs.List.{All, AllZip}
use Rattle.std.proofs.lemmas.List.{length-append, take_at, drop_at, drop-drop, take-map}
use Rattle.std.proofs.lemmas.List.Elements.{All-nil, All-cons, All-head, All-tail}
use Rattle.lam_typing.specs.Checking.{types_in, dialect_in, IsSoundChecker}
use Rattle.lam_query.specs.declared.analyses.Analysis.{Analysis}
use Rattle.lam_query.specs.declared.analyses.Analyst.{Analyst}
use Rattle.lam_query.specs.declared.ends.OldPieces.{OldPieces}
use Rattle.lam_query.specs.declared.fronts.FrontRows.{FrontRows}
use Rattle.lam_query.specs.declared.rows.Row.{Row as RustRow}
use Rattle.lam_query.specs.Analyses.{IsAnalysisOf}
use Rattle.lam_query.specs.inner.Analysts.{IsSound, IsBoundAs, IsBetweenPieces, IsReadTo, IsReadThrough, IsReadOn}
use Rattle.lam_query.specs.inner.Bound.{HaveNumbers, KeepsNumbers, AllStand}
use Rattle.lam_query.specs.inner.Changes.{IsMet, AreOldPieces}
use Rattle.lam_query.specs.inner.Ends.{IsEndOfBoth, IsLeftOf, IsMetAt}
use Rattle.lam_query.specs.inner.Fronts.{IsFrontOfBoth, AreRowsWithin, AreBoundBy, StandBy}
use Rattle.lam_query.specs.inner.Kept.{Row, row_of, rows_of, bytes_of}
use Rattle.lam_query.specs.inner.PieceRows.{Sight, outset, IsEnded, AreRows, joined}
use Rattle.lam_query.proofs.Analysts.{read_and_left, rest_counted}
use Rattle.lam_query.proofs.PieceRowLists.{joined_append, rows_split, rows_lengths, as_many, bytes_counted, bytes_are, joined_is_text}
use Rattle.lam_query.proofs.RowBytes.{bytes_split, many}

-- ---- what is left of a text

-- one piece more was read, and more is left; or it was the last
pub read_more : (more : Bool) (ahead : List ℕ) (s : Sight) (text rest : List ℕ) (a : Analyst) → more ≡ true → IsReadOn more ahead s text rest a
    → (left : List ℕ) × (length left < length rest) × IsReadTo ahead s text left a
read_more more ahead s text rest a is = subst (λ b. IsReadOn b ahead s text rest a) is

pub read_last : (more : Bool) (ahead : List ℕ) (s : Sight) (text rest : List ℕ) (a : Analyst) → more ≡ false → IsReadOn more ahead s text rest a
    → IsReadThrough ahead s text a
read_last more ahead s text rest a is = subst (λ b. IsReadOn b ahead s text rest a) is

last_part : (xs ys : List ℕ) → drop (length (xs ++ ys) - length ys) (xs ++ ys) ≡ ys
last_part xs ys = drop_at xs ys (length (xs ++ ys) - length ys) (omega (arith, length-append xs ys))

-- the last `left` bytes of a text are the last of its last `common` bytes
further : (xs : List ℕ) (common left : ℕ) → common ≤ length xs → left ≤ common → drop (length xs - left) xs ≡ drop (common - left) (drop (length xs - common) xs)
further xs common left inside le =
    let on : length xs - left ≡ length xs - common + (common - left) = omega arith in
    ap (λ n. drop n xs) on ∙ sym (drop-drop (common - left) (length xs - common) xs)

-- where the last bytes are the same, fewer are too
fewer_last : (old new : List ℕ) (common left : ℕ) → common ≤ length old → common ≤ length new
    → drop (length old - common) old ≡ drop (length new - common) new → left ≤ common → drop (length old - left) old ≡ drop (length new - left) new
fewer_last old new common left in_old in_new same le =
    further old common left in_old le ∙ ap (drop (common - left)) same ∙ sym (further new common left in_new le)

-- ---- rows and pieces

abbrev HaveLengths : List Row → List (List ℕ) → Type 0
HaveLengths rows pieces = AllZip (λ r p. r.end ≡ length p) rows pieces

as_long : (rows : List Row) (pieces : List (List ℕ)) → HaveLengths rows pieces → length rows ≡ length pieces
as_long [] [] lengths = refl
as_long [] (p ∷ pieces) lengths = absurd lengths
as_long (r ∷ rows) [] lengths = absurd lengths
as_long (r ∷ rows) (p ∷ pieces) lengths = ap suc (as_long rows pieces lengths.1)

lengths_behind : (n : ℕ) (rows : List Row) (pieces : List (List ℕ)) → HaveLengths rows pieces → HaveLengths (drop n rows) (drop n pieces)
lengths_behind zero rows pieces lengths = lengths
lengths_behind (suc n) [] [] lengths = tt
lengths_behind (suc n) [] (p ∷ pieces) lengths = absurd lengths
lengths_behind (suc n) (r ∷ rows) [] lengths = absurd lengths
lengths_behind (suc n) (r ∷ rows) (p ∷ pieces) lengths = lengths_behind n rows pieces lengths.1

pub joined_split : (n : ℕ) (pieces : List (List ℕ)) → joined pieces ≡ joined (take n pieces) ++ joined (drop n pieces)
joined_split n pieces = ap joined (sym (take-append-drop n pieces)) ∙ joined_append (take n pieces) (drop n pieces)

-- all pieces but the last are ended, and so are any first ones without the last
pub ended_within : (ended : List (List ℕ)) (last : List ℕ) (n : ℕ) → n ≤ length ended → All IsEnded ended → All IsEnded (take n (ended ++ last ∷ []))
ended_within [] last zero le h = All-nil IsEnded
ended_within [] last (suc n) le h = absurd (omega (arith, le))
ended_within (p ∷ ended) last zero le h = All-nil IsEnded
ended_within (p ∷ ended) last (suc n) le h =
    All-cons IsEnded p (take n (ended ++ last ∷ [])) (All-head IsEnded p ended h) (ended_within ended last n (omega (arith, le)) (All-tail IsEnded p ended h))

-- ---- the old pieces while the new text is read

module _ (before text : List ℕ) (pieces : List (List ℕ)) (old : OldPieces) (are : AreOldPieces before text pieces old) where
  pub as_many_left : length old.rows.now ≡ length pieces
  as_many_left = sym (many old.rows.now) ∙ as_long (rows_of old.rows.now) pieces are.lengths

  left_counted : old.bytes ≡ length (joined (drop old.next pieces))
  left_counted = are.left.counted ∙ bytes_counted (drop old.next (rows_of old.rows.now)) (drop old.next pieces) (lengths_behind old.next (rows_of old.rows.now) pieces are.lengths)

  pub inside_left : old.next ≤ length old.rows.now
  inside_left = omega (arith, are.left.inside, many old.rows.now)

  pub still_old : (now : OldPieces) → ((all : List Row) → IsLeftOf all old → IsLeftOf all now) → now.common ≡ old.common → AreOldPieces before text pieces now
  still_old now keeps common =
      let left = keeps (rows_of old.rows.now) are.left in
      record {
        whole = are.whole;
        lengths = subst (λ rs. HaveLengths rs pieces) left.rows are.lengths;
        left = subst (λ rs. IsLeftOf rs now) left.rows left;
        common = subst (λ n. n ≤ length before) (sym common) are.common;
        fits = subst (λ n. n ≤ length text) (sym common) are.fits;
        same = subst (λ n. drop (length before - n) before ≡ drop (length text - n) text) (sym common) are.same;
      }

  -- the rest of the new text is that of the old one
  pub met_here : (ahead : List ℕ) (s : Sight) (rest : List ℕ) (a : Analyst) → IsReadTo ahead s text rest a → IsMetAt (length text - a.end) old
      → IsMet ahead s text pieces old.next a
  met_here ahead s rest a read met =
      let left = joined (drop old.next pieces) in
      let front = joined (take old.next pieces) in
      let counted = rest_counted ahead s text rest a read in
      let long : length rest ≡ length left = omega (arith, counted, left_counted, met.same) in
      let of_new : drop (length text - length rest) text ≡ rest =
      ap (λ xs. drop (length xs - length rest) xs) (read_and_left ahead s text rest a read) ∙ last_part (ahead ++ joined read.pieces) rest in
      let of_old : drop (length before - length left) before ≡ left =
      ap (λ xs. drop (length xs - length left) xs) (are.whole ∙ joined_split old.next pieces) ∙ last_part front left in
      let within : length left ≤ old.common = omega (arith, left_counted, met.same, met.common) in
      let same = fewer_last before text old.common (length left) are.common are.fits are.same within in
      let one : rest ≡ left = sym of_new ∙ ap (λ n. drop (length text - n) text) long ∙ sym same ∙ of_old in
      inl (omega (arith, met.some, as_many_left), subst (λ r. IsReadTo ahead s text r a) one read)

  -- all of it was read
  pub none_met : (ahead : List ℕ) (s : Sight) (a : Analyst) (next : ℕ) → IsReadThrough ahead s text a → next ≡ length old.rows.now → IsMet ahead s text pieces next a
  none_met ahead s a next through is = inr (is ∙ as_many_left, through)

-- ---- the pieces of the old text

module _ {old : List ℕ} {a : Analysis} (of : IsAnalysisOf old a) where
  abbrev pub pieces_in : List (List ℕ)
  pieces_in = of.ended ++ of.last ∷ []

  pub bytes_in : bytes_of (rows_of a.rows.items) ≡ length old
  bytes_in = bytes_are outset pieces_in (rows_of a.rows.items) of.sight (types_in a.types) a.bound a.dialect of.rows ∙ ap length (sym of.made_up.whole)

  pub many_pieces : length a.rows.items ≡ length pieces_in
  many_pieces = sym (many a.rows.items) ∙ as_many outset pieces_in (rows_of a.rows.items) of.sight (types_in a.types) a.bound a.dialect of.rows

  pub old_pieces : (new : List ℕ) (b : OldPieces) (rows : List RustRow) (common : ℕ) → rows ≡ a.rows.items → IsLeftOf (rows_of rows) b → b.common ≡ common
      → IsEndOfBoth common old new → AreOldPieces old new pieces_in b
  old_pieces new b rows common items left_of is both =
      let left = subst (λ (rs : List RustRow). IsLeftOf (rows_of rs) b) items left_of in
      record {
        whole = of.made_up.whole;
        lengths = subst (λ rs. HaveLengths rs pieces_in) left.rows (rows_lengths outset pieces_in (rows_of a.rows.items) of.sight (types_in a.types) a.bound a.dialect of.rows);
        left = subst (λ rs. IsLeftOf rs b) left.rows left;
        common = rw is both.in_old;
        fits = rw is both.in_new;
        same = rw is both.same;
      }

-- ---- the pieces in front of the change

-- the first pieces are no more than all
pub front_inside : (n : ℕ) (front : FrontRows) (rows : List RustRow) → AreRowsWithin n front (rows_of rows) → front.count ≤ length rows
front_inside n front rows within = by within.not_last
  where
    by : (front.count ≡ 0) ⊎ (front.count < length (rows_of rows)) → front.count ≤ length rows
    by (inl none) = omega (arith, none)
    by (inr lt) = omega (arith, lt, many rows)

-- Of a text that was changed the first pieces are those of the new text too: what they bind is bound, and nothing was read yet.
pub record IsBegun (old new : List ℕ) (a : Analysis) (front : FrontRows) (x : Analyst) : Type 0 where
  pub of : IsAnalysisOf old a
  pub bytes : ℕ
  pub both : IsFrontOfBoth bytes old new
  pub within : AreRowsWithin bytes front (rows_of a.rows.items)
  pub types : x.types ≡ a.types
  pub none : x.rows.items ≡ []
  pub end : x.end ≡ front.end
  pub between : IsBetweenPieces x
  pub bound : AreBoundBy (rows_of (take front.count a.rows.items)) a.bound x.bound
  pub stand : StandBy (rows_of (take front.count a.rows.items)) a.bound x.bound
  pub keeps : KeepsNumbers a.bound x.bound
  pub numbers : HaveNumbers x.bound

module _ {old new : List ℕ} {a : Analysis} {front : FrontRows} {x : Analyst} (h : IsBegun old new a front x) where
  abbrev pub Pieces : List (List ℕ)
  Pieces = pieces_in h.of

  abbrev pub First : List (List ℕ)
  First = take front.count Pieces

  -- the rows of the first pieces, and of the others
  pub front_split : (mid : Sight)
      × AreRows outset First (take front.count (rows_of a.rows.items)) mid (types_in a.types) a.bound a.dialect
      × AreRows mid (drop front.count Pieces) (drop front.count (rows_of a.rows.items)) h.of.sight (types_in a.types) a.bound a.dialect
  front_split = rows_split front.count outset Pieces (rows_of a.rows.items) h.of.sight (types_in a.types) a.bound a.dialect h.of.rows

  abbrev pub front_sight : Sight
  front_sight = front_split.0

  abbrev pub ahead : List ℕ
  ahead = joined First

  abbrev pub rest_in : List ℕ
  rest_in = drop (length ahead) new

  front_items : take front.count (rows_of a.rows.items) ≡ rows_of (take front.count a.rows.items)
  front_items = take-map row_of front.count a.rows.items

  front_rows : AreRows outset First (rows_of (take front.count a.rows.items)) front_sight (types_in a.types) a.bound a.dialect
  front_rows = subst (λ rs. AreRows outset First rs front_sight (types_in a.types) a.bound a.dialect) front_items front_split.1

  ahead_counted : front.end ≡ length ahead
  ahead_counted =
      h.within.counted
      ∙ bytes_are outset First (take front.count (rows_of a.rows.items)) front_sight (types_in a.types) a.bound a.dialect front_split.1

  pub count_inside : front.count ≤ length a.rows.items
  count_inside = front_inside h.bytes front a.rows.items h.within

  -- the last piece is not one of them
  pub count_ended : front.count ≤ length h.of.ended
  count_ended = by h.within.not_last
    where
      by : (front.count ≡ 0) ⊎ (front.count < length (rows_of a.rows.items)) → front.count ≤ length h.of.ended
      by (inl none) = omega (arith, none)
      by (inr lt) = omega (arith, lt, many a.rows.items, many_pieces h.of, length-append h.of.ended (h.of.last ∷ []))

  pub left_bytes : length old - front.end ≡ bytes_of (drop front.count (rows_of a.rows.items))
  left_bytes = omega (arith, h.within.counted, bytes_in h.of, bytes_split front.count (rows_of a.rows.items))

  same_front : (m : ℕ) → m ≤ h.bytes → take m old ≡ take m new
  same_front m le = sym (take-take m h.bytes old le) ∙ ap (take m) h.both.same ∙ take-take m h.bytes new le

  ahead_new : ahead ≡ take (length ahead) new
  ahead_new =
      sym (take_at ahead (joined (drop front.count Pieces)) (length ahead) refl)
      ∙ ap (take (length ahead)) (sym (h.of.made_up.whole ∙ joined_split front.count Pieces))
      ∙ same_front (length ahead) (omega (arith, ahead_counted, h.within.within))

  new_divides : new ≡ ahead ++ rest_in
  new_divides = sym (take-append-drop (length ahead) new) ∙ ap (λ xs. xs ++ rest_in) (sym ahead_new)

  pub begun_bound : IsBoundAs front_sight.names front_sight.types (types_in a.types) x.bound
  begun_bound = h.bound First front_sight (types_in a.types) a.dialect front_rows

  pub begun_stands : AllStand (types_in a.types) x.bound
  begun_stands = h.stand First front_sight (types_in a.types) a.dialect front_rows

  -- in the new text they count as read
  pub begun_read : IsReadTo ahead front_sight new rest_in x
  begun_read = record {
    ahead_is_text = joined_is_text outset First (take front.count (rows_of a.rows.items)) front_sight (types_in a.types) a.bound a.dialect front_split.1;
    pieces = [];
    divides = new_divides;
    all_ended = All-nil IsEnded;
    end = h.end ∙ ahead_counted ∙ ap length (sym (append-nil ahead));
    sight = front_sight;
    rows = subst (λ (rs : List RustRow). AreRows front_sight [] (rows_of rs) front_sight (types_in x.types) x.bound (dialect_in x.types)) (sym h.none) refl;
    bound = subst (λ t. IsBoundAs front_sight.names front_sight.types (types_in t) x.bound) (sym h.types) begun_bound;
    between = h.between;
  }

  pub begun_sound : IsSound x
  begun_sound = record {
    types = subst IsSoundChecker (sym h.types) h.of.sound;
    stand = subst (λ t. AllStand (types_in t) x.bound) (sym h.types) begun_stands;
    numbers = h.numbers;
  }

  -- read on up to a piece that the old text has too
  pub begun_met : (b : OldPieces) (rows : List RustRow) (common : ℕ) → rows ≡ a.rows.items → IsLeftOf (rows_of rows) b → b.common ≡ common → IsEndOfBoth common old new
      → (next : ℕ) (now : Analyst)
      → ((ahead : List ℕ) (s : Sight) (rest before : List ℕ) (pieces : List (List ℕ)) → IsReadTo ahead s new rest x → AreOldPieces before new pieces b
      → IsMet ahead s new pieces next now)
      → IsMet ahead front_sight new Pieces next now
  begun_met b rows common items left is both next now met =
      met ahead front_sight rest_in old Pieces begun_read (old_pieces h.of new b rows common items left is both)

  -- there is such a piece, or all of the new text was read
  module _ (next : ℕ) (now : Analyst) (met : IsMet ahead front_sight new Pieces next now) where
    abbrev Some : Type 0
    Some = (next < length Pieces) × IsReadTo ahead front_sight new (joined (drop next Pieces)) now

    abbrev None : Type 0
    None = (next ≡ length Pieces) × IsReadThrough ahead front_sight new now

    pub met_inside : next ≤ length Pieces
    met_inside = by met
      where
        by : Some ⊎ None → next ≤ length Pieces
        by (inl some) = omega (arith, some.0)
        by (inr none) = omega (arith, none.0)

    pub all_read : next ≡ length Pieces → IsReadThrough ahead front_sight new now
    all_read is = by met
      where
        by : Some ⊎ None → IsReadThrough ahead front_sight new now
        by (inl some) = absurd (omega (arith, some.0, is))
        by (inr none) = none.1

    pub some_left_of : (next ≡ length Pieces → ⊥) → Some
    some_left_of other = by met
      where
        by : Some ⊎ None → Some
        by (inl some) = some
        by (inr none) = absurd (other none.0)
