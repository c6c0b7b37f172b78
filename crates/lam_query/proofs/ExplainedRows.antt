-- Piece after piece: what names mean in front of each, and the explained faults so far.
use Rattle.std.proofs.Common.{◌≡◌, ◌⊎◌, inl, inr, ℕ, zero, suc, ◌+◌, ◌<◌, ◌≤◌, ◌^◌, List, [], ◌∷◌, ◌++◌, append_assoc, append-nil, drop, take, length, get_or, slice_range, refl, ap, sym, subst, ◌∙◌, arith}
use Rattle.std.specs.List.{AllByRecursion}
use Rattle.std.proofs.lemmas.Bool.{cases_lt}
use Rattle.std.proofs.lemmas.List.{length-map, map-append, take_more, get_or-map}
use Rattle.std.proofs.lemmas.List.Elements.{All-from_recursion, recursion_from_All}
use Rattle.std.proofs.Math.ListN.{drop_of_length-le}
use Rattle.lam_scope.proofs.EveryElement.{every_append}
use Rattle.lam_rules.specs.Types.{Typ}
use Rattle.lam_rules.specs.declared.rules.Dialect.{Dialect}
use Rattle.lam_syntax.specs.Trees.{CommandTree}
use Rattle.lam_typing.specs.Checking.{types_in}
use Rattle.lam_query.specs.declared.analyses.Analysis.{Analysis}
use Rattle.lam_query.specs.declared.bound.Bound.{Bound}
use Rattle.lam_query.specs.declared.entries.Entries.{Entries}
use Rattle.lam_query.specs.declared.pieces.PieceAt.{PieceAt}
use Rattle.lam_query.specs.declared.rows.PlacedRow.{PlacedRow}
use Rattle.lam_query.specs.declared.rows.Row.{Row as RustRow}
use Rattle.lam_query.specs.Analyses.{IsAnalysisOf}
use Rattle.lam_query.specs.Faults.{Fault}
use Rattle.lam_query.specs.Mismatches.{ExplainedFault, IsExplained}
use Rattle.lam_query.specs.inner.Around.{IsPieceAround}
use Rattle.lam_query.specs.inner.Entries.{IsPassedBy, IsPassedBehind}
use Rattle.lam_query.specs.inner.Explained.{AreAdded, AreEntriesAround}
use Rattle.lam_query.specs.inner.Kept.{Row, row_of, rows_of, found_in, faults_found, all_faults, row_after, placed, bytes_of}
use Rattle.lam_query.specs.inner.PieceRows.{Sight, outset, sight_with, IsEnded, AreRows}
use Rattle.lam_query.specs.inner.Rows.{IsRowAround}
use Rattle.lam_query.proofs.ExplainedByPiece.{faults_joined}
use Rattle.lam_query.proofs.MeaningsBehind.{meanings_behind}
use Rattle.lam_query.proofs.PieceAround.{piece_is, row_same}
use Rattle.lam_query.proofs.NextPieces.{some_bytes}
use Rattle.lam_query.proofs.RowAround.{row_around}
use Rattle.lam_query.proofs.RowsInText.{in_text}
use Rattle.lam_query.proofs.RowsPlaced.{next_row, next_counted}

-- ---- what names mean

passed_joined : (rows more : List Row) (first e now : Entries) → IsPassedBy rows first e → IsPassedBy more e now → IsPassedBy (rows ++ more) first now
passed_joined [] more first e now one two = subst (λ x. IsPassedBy more x now) (sym one) two
passed_joined (r ∷ rows) more first e now (mid, one, rest) two = (mid, one, passed_joined rows more mid e now rest two)

-- behind one row more
pub passed_more : (b : Bound) (rows : List RustRow) (i : ℕ) (r : RustRow) (e now : Entries) → r ≡ get_or rows i r → i < length rows
    → IsPassedBehind b (rows_of (take i rows)) e → IsPassedBy (row_of r ∷ []) e now → IsPassedBehind b (rows_of (take (i + 1) rows)) now
passed_more b rows i r e now is lt behind one = record {
  first = behind.first;
  names = behind.names;
  type_names = behind.type_names;
  passed =
      let more : rows_of (take (i + 1) rows) ≡ rows_of (take i rows) ++ row_of r ∷ [] =
      ap rows_of (take_more rows i r lt) ∙ map-append row_of (take i rows) (get_or rows i r ∷ []) ∙ ap (λ q. rows_of (take i rows) ++ row_of q ∷ []) (sym is) in
      subst (λ rs. IsPassedBy rs behind.first now) (sym more) (passed_joined (rows_of (take i rows)) (row_of r ∷ []) behind.first e now behind.passed one);
}

-- ---- the pieces that a semicolon ends are not empty

some_there : (s : Sight) (ended : List (List ℕ)) (last : List ℕ) (rows : List Row) (behind : Sight) (ts : List Typ) (b : Bound) (d : Dialect) (i : ℕ) (e : Row)
    → AreRows s (ended ++ last ∷ []) rows behind ts b d → AllByRecursion IsEnded ended → i + 1 < length rows → 0 < (get_or rows i e).end
some_there s [] last [] behind ts b d i e are all lt = absurd are
some_there s [] last (r ∷ []) behind ts b d i e are all lt = absurd (omega (arith, lt))
some_there s [] last (r ∷ q ∷ rows) behind ts b d i e are all lt = absurd are.2
some_there s (p ∷ ended) last [] behind ts b d i e are all lt = absurd are
some_there s (p ∷ ended) last (r ∷ rows) behind ts b d zero e are all lt = let some = some_bytes p all.0 in omega (arith, are.1.counted, some)
some_there s (p ∷ ended) last (r ∷ rows) behind ts b d (suc i) e are all lt =
    some_there (sight_with s are.0 ts r.command) ended last rows behind ts b d i e are.2 all.1 (omega (arith, lt))

-- ---- the next piece

-- what is known in front of the piece with this number
pub record AreExplainedUpTo (commands : List CommandTree) (rows : List RustRow) (number start : ℕ) (old now : List ExplainedFault) (d : Dialect) : Type 0 where
  pub so_far : List Fault
  pub divides : all_faults (placed 0 (rows_of rows)) ≡ so_far ++ all_faults (placed start (rows_of (drop number rows)))
  pub added : AreAdded commands so_far old now d

pub none_explained : (commands : List CommandTree) (rows : List RustRow) (old : List ExplainedFault) (d : Dialect) → AreExplainedUpTo commands rows 0 0 old old d
none_explained commands rows old d = record {
  so_far = [];
  divides = refl;
  added = record { added = []; are = sym (append-nil old); same = refl; each = All-from_recursion (IsExplained commands d) [] tt };
}

added_joined : (commands : List CommandTree) (fs gs : List Fault) (old mid now : List ExplainedFault) (d : Dialect) → AreAdded commands fs old mid d → AreAdded commands gs mid now d
    → AreAdded commands (fs ++ gs) old now d
added_joined commands fs gs old mid now d one two = record {
  added = one.added ++ two.added;
  are = two.are ∙ ap (λ es. es ++ two.added) one.are ∙ append_assoc old one.added two.added;
  same = faults_joined one.added two.added ∙ (λ i. one.same i ++ two.same i);
  each = All-from_recursion (IsExplained commands d) (one.added ++ two.added)
      (every_append (IsExplained commands d) one.added two.added
      (recursion_from_All (IsExplained commands d) one.added one.each) (recursion_from_All (IsExplained commands d) two.added two.each));
}

pub one_explained : (commands : List CommandTree) (rows : List RustRow) (number start : ℕ) (r : RustRow) (old mid now : List ExplainedFault) (d : Dialect) (fs : List Fault)
    → r ≡ get_or rows number r → number < length rows → fs ≡ faults_found (found_in (row_after start (row_of r)))
    → AreExplainedUpTo commands rows number start old mid d → AreAdded commands fs mid now d → AreExplainedUpTo commands rows (number + 1) (start + r.end) old now d
one_explained commands rows number start r old mid now d fs is lt own before here = record {
  so_far = before.so_far ++ fs;
  divides =
      let end : r.end + start ≡ start + r.end = omega arith in
      before.divides
      ∙ ap (λ rs. before.so_far ++ all_faults (placed start rs)) (next_row rows number r lt ∙ ap (λ (q : RustRow). row_of q ∷ rows_of (drop (number + 1) rows)) (sym is))
      ∙ (λ i. before.so_far ++ (sym own i ++ all_faults (placed (end i) (rows_of (drop (number + 1) rows)))))
      ∙ sym (append_assoc before.so_far fs (all_faults (placed (start + r.end) (rows_of (drop (number + 1) rows)))));
  added = added_joined commands before.so_far fs old mid now d before.added here;
}

pub all_explained : (commands : List CommandTree) (rows : List RustRow) (number start : ℕ) (old now : List ExplainedFault) (d : Dialect) → length rows ≤ number
    → AreExplainedUpTo commands rows number start old now d → AreAdded commands (all_faults (placed 0 (rows_of rows))) old now d
all_explained commands rows number start old now d le before =
    let none : all_faults (placed start (rows_of (drop number rows))) ≡ [] = ap (λ rs. all_faults (placed start (rows_of rs))) (drop_of_length-le rows le) in
    subst (λ fs. AreAdded commands fs old now d) (sym (before.divides ∙ ap (λ fs. before.so_far ++ fs) none ∙ append-nil before.so_far)) before.added

module _ (text : List ℕ) (a : Analysis) (h : IsAnalysisOf text a) (number start : ℕ) (r : RustRow) (is : r ≡ get_or a.rows.items number r) (lt : number < length a.rows.items)
    (counted : start + bytes_of (rows_of (drop number a.rows.items)) ≡ bytes_of (rows_of a.rows.items)) where
  in_or_last : (start < start + (get_or a.rows.items number r).end) ⊎ (number + 1 ≡ length a.rows.items)
  in_or_last = by (cases_lt (number + 1) (length a.rows.items))
    where
      by : (number + 1 < length a.rows.items) ⊎ (length a.rows.items ≤ number + 1) → (start < start + (get_or a.rows.items number r).end) ⊎ (number + 1 ≡ length a.rows.items)
      by (inl inside) =
          let some = some_there outset h.ended h.last (rows_of a.rows.items) h.sight (types_in a.types) a.bound a.dialect number (row_of r) h.rows
          (recursion_from_All IsEnded h.ended h.made_up.all_ended) (omega (arith, inside, length-map a.rows.items row_of)) in
          inl (omega (arith, some, ap (λ (q : Row). q.end) (get_or-map row_of a.rows.items number r (row_of r) lt)))
      by (inr past) = inr (omega (arith, past, lt))

  pub around : IsRowAround text start (placed 0 (rows_of a.rows.items)) (record { start = start; number = number }) (types_in a.types) a.dialect
  around =
      let there = in_text text a h in
      row_around text start a.rows.items number r start lt counted (omega arith) in_or_last there.front (types_in a.types) a.dialect there.rows there.whole

  -- behind it
  pub counted_on : (start + r.end) + bytes_of (rows_of (drop (number + 1) a.rows.items)) ≡ bytes_of (rows_of a.rows.items)
  counted_on = omega (arith, next_counted a.rows.items number r lt start counted, ap (λ (q : RustRow). q.end) is)

  -- what names mean in front of it
  pub entries_around : (p : PieceAt) (e : Entries) → p.start ≡ start → p.number ≡ number → p.text.now ≡ slice_range text start (start + r.end) → length text < 2 ^ 64
      → IsPassedBehind a.bound (rows_of (take number a.rows.items)) e → (here : AreEntriesAround text a p e) × (here.here.around.row ≡ row_after start (row_of r))
  entries_around p e same_start same_number letters short behind =
      let there : IsRowAround text start (placed 0 (rows_of a.rows.items)) (record { start = p.start; number = p.number }) (types_in a.types) a.dialect =
      subst (λ (q : PlacedRow). IsRowAround text start (placed 0 (rows_of a.rows.items)) q (types_in a.types) a.dialect)
      (λ i. record { start = sym same_start i; number = sym same_number i }) around in
      let is_there : r ≡ get_or a.rows.items p.number r = is ∙ ap (λ n. get_or a.rows.items n r) (sym same_number) in
      let here : IsPieceAround text start a p =
      piece_is text a start p there r r is_there h (letters ∙ ap (λ n. slice_range text n (n + r.end)) (sym same_start)) in
      let entries = subst (λ n. IsPassedBehind a.bound (rows_of (take n a.rows.items)) e) (sym same_number) behind in (
        record {
          offset = start;
          here = here;
          fits = short;
          are = meanings_behind a.bound entries.first e (rows_of (take p.number a.rows.items)) h.numbers entries.names entries.type_names entries.passed
              here.pieces here.sight (types_in a.types) a.dialect here.before;
        },
        row_same text a start (record { start = p.start; number = p.number }) here.around r r is_there ∙ ap (λ n. row_after n (row_of r)) same_start,
      )
