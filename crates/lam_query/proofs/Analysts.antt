-- A text that is read piece by piece: nothing yet, one command more, one piece more, and all of them.
use Rattle.std.proofs.Common.{◌≡◌, ◌<◌, ◌+◌, ℕ, Bool, true, false, arith, List, [], ◌∷◌, ◌++◌, append-nil, append_assoc, length, map, take, drop, refl, sym, ap, subst, ◌∙◌, Some, None}
use Rattle.std.specs.Str.{IsUtf8, IsCharBoundary}
use Rattle.std.proofs.lemmas.List.{length-append, map-append, take_at, drop_at}
use Rattle.std.proofs.lemmas.List.Elements.{All-nil, All-append, All-from_recursion}
use Rattle.std.proofs.lemmas.Str.{IsUtf8-nil, IsUtf8-append, IsCharBoundary-from_take}
use Rattle.lam_token.specs.Lexeme.{Lexeme}
use Rattle.lam_rules.specs.Numbers.{Keeps}
use Rattle.lam_syntax.specs.Trees.{CommandTree}
use Rattle.lam_scope.specs.Names.{Name}
use Rattle.lam_typing.specs.Checking.{types_in, dialect_in, IsSoundChecker}
use Rattle.lam_query.specs.declared.analyses.Analysis.{Analysis}
use Rattle.lam_query.specs.declared.analyses.Analyst.{Analyst}
use Rattle.lam_query.specs.declared.answers.Fault.{Fault as RustFault}
use Rattle.lam_query.specs.declared.bound.Bound.{Bound}
use Rattle.lam_query.specs.declared.reading.PieceEnd.{PieceEnd}
use Rattle.lam_query.specs.declared.reading.Reader.{Reader}
use Rattle.lam_query.specs.declared.rows.Row.{Row as RustRow}
use Rattle.lam_query.specs.Analyses.{IsAnalysisOf}
use Rattle.lam_query.specs.SyntaxFaults.{AreSyntaxFaults}
use Rattle.lam_query.specs.Views.{fault_of}
use Rattle.lam_query.specs.inner.Analysts.{IsSound, IsBoundAs, IsKeptBy, IsRowAdded, IsPieceEnded, IsReadTo, IsReadThrough, IsReadOn}
use Rattle.lam_query.specs.inner.Bound.{meaning_of, MeanTheSame, found_over, HaveNumbers, KeepsNumbers, IsBinding, IsBoundAfter}
use Rattle.lam_query.specs.inner.Entered.{Lookup}
use Rattle.lam_query.specs.inner.Kept.{CommandRow, bound_by, row_of, rows_of, placed, first_large, all_syntax, all_faults}
use Rattle.lam_query.specs.inner.OnePiece.{IsOwnOf}
use Rattle.lam_query.specs.inner.PieceRows.{Sight, outset, sight_with, IsEnded, AreFreeNumbers, AreRows, joined}
use Rattle.lam_query.specs.inner.Reading.{AreRead, AreAllRead, IsNextPiece}
use Rattle.lam_query.specs.inner.Rows.{IsFoundOf}
use Rattle.lam_query.proofs.BoundNames.{unbound_as, stand_kept, bound_as_kept, bound_as_after, same_after, stand_after, bound_stands, numbers_trans}
use Rattle.lam_query.proofs.NextPieces.{some_bytes}
use Rattle.lam_query.proofs.PieceRowLists.{joined_append, rows_push, rows_keep, joined_is_text, asked_keep}

-- ---- nothing was read yet

pub nothing_read : (text : List ℕ) (a : Analyst) → AreRead [] [] a.reader → a.reader.piece.items ≡ [] → a.rows.items ≡ [] → a.end ≡ 0
    → ((x : Name) → (meaning_of a.bound.names x ≡ None) × (meaning_of a.bound.type_names x ≡ None)) → IsReadTo [] outset text text a
nothing_read text a read piece rows end none = record {
  ahead_is_text = IsUtf8-nil;
  pieces = [];
  divides = refl;
  all_ended = All-nil IsEnded;
  end = end;
  sight = outset;
  rows = subst (λ rs. AreRows outset [] (rows_of rs) outset (types_in a.types) a.bound (dialect_in a.types)) (sym rows) refl;
  bound = unbound_as (types_in a.types) a.bound none;
  between = record { nothing_read = read; no_piece = piece };
}

-- ---- one command more

-- its names were numbered, it was typed, and what it binds was bound
module _ (c : CommandTree) (row : CommandRow) (old now : Analyst) (numbered : Bound) (sound : IsSound old) (types : IsSoundChecker now.types)
    (asked : AreFreeNumbers numbered c row.free_numbers) (same : MeanTheSame old.bound numbered) (first : KeepsNumbers old.bound numbered)
    (found : (names others : Lookup) → IsBoundAs names others (types_in old.types) old.bound → IsFoundOf names others c (types_in now.types) row.found (dialect_in old.types))
    (keeps : Keeps (types_in old.types) (types_in now.types)) (dialect : dialect_in now.types ≡ dialect_in old.types)
    (binding : IsBinding now.bound c row.binds) (after : IsBoundAfter c (bound_by row.found) numbered now.bound)
    (second : KeepsNumbers numbered now.bound) (numbers : HaveNumbers now.bound) where
  pub command_kept : now.rows ≡ old.rows → now.reader ≡ old.reader → now.end ≡ old.end → now.bytes_read ≡ old.bytes_read → IsKeptBy (c ∷ []) (Some row) old now
  command_kept rows reader end bytes_read = record {
    keeps = keeps;
    numbers = numbers_trans old.bound numbered now.bound first second;
    kept = λ names others bound. subst (IsFoundOf names others c (types_in now.types) row.found) (sym dialect) (found names others bound);
    its_numbers = (binding, asked_keep numbered now.bound c row.free_numbers second asked);
    bound = λ names others bound.
        bound_as_after names others c (types_in now.types) (bound_by row.found) old.bound now.bound
        (bound_as_kept names others (types_in old.types) (types_in now.types) old.bound keeps sound.stand bound)
        (same_after c (bound_by row.found) old.bound numbered now.bound same after);
    rows = rows;
    reader = reader;
    end = end;
    bytes_read = bytes_read;
  }

  pub command_sound : IsSound now
  command_sound = record {
    types = types;
    stand =
        let own = found (found_over (types_in old.types) old.bound.names) (found_over (types_in old.types) old.bound.type_names)
        (record { names = λ x. refl; types = λ x. refl }) in
        stand_after c (types_in now.types) (bound_by row.found) old.bound now.bound
        (stand_kept (types_in old.types) (types_in now.types) old.bound keeps sound.stand) (same_after c (bound_by row.found) old.bound numbered now.bound same after)
        (bound_stands (types_in now.types) row.found own.stand);
    numbers = numbers;
  }

-- ---- one piece more

-- the faults of its tokens and of the grammar
pub faults_taken : (old ended kept : Reader) (own : List CommandTree) (syntax : List RustFault)
    → ((front : List Lexeme) (done : List CommandTree) → AreRead front done old → AreAllRead (front ++ old.piece.items) (done ++ own) ended)
    → kept ≡ ended → map fault_of syntax ≡ map fault_of kept.token_faults.items ++ map fault_of kept.piece_faults.items
    → AreRead [] [] old → AreSyntaxFaults old.piece.items (map fault_of syntax)
faults_taken old ended kept own syntax read same taken before =
    let told = taken ∙ ap (λ (r : Reader). map fault_of r.token_faults.items ++ map fault_of r.piece_faults.items) same in
    subst (AreSyntaxFaults old.piece.items) (sym told) (read [] [] before).faults

-- no token is left of it
pub none_left_of : (ended kept now : Reader) → ended.piece.items ≡ [] → kept ≡ ended → now.piece ≡ kept.piece → now.piece.items ≡ []
none_left_of ended kept now none same piece = ap (λ v. v.items) piece ∙ ap (λ (r : Reader). r.piece.items) same ∙ none

-- its row is kept
pub row_kept : (old kept now : Analyst) (reader : Reader) (own : List CommandTree) (r : RustRow) → IsOwnOf old.reader.piece.items own
    → (AreRead [] [] old.reader → AreSyntaxFaults old.reader.piece.items (map fault_of r.syntax.items))
    → IsKeptBy own (row_of r).command (record old { reader = reader }) kept → now.types ≡ kept.types → now.bound ≡ kept.bound
    → now.rows.items ≡ kept.rows.items ++ r ∷ [] → now.end ≡ kept.end + r.end
    → AreRead [] [] now.reader → now.reader.piece.items ≡ [] → IsPieceEnded r.end old now
row_kept old kept now reader own r is_own syntax by types bound rows end read none_left = record {
  between = record { nothing_read = read; no_piece = none_left };
  end = end ∙ ap (λ n. n + r.end) by.end;
  keeps = rw types by.keeps;
  numbers = rw bound by.numbers;
  added = λ piece s counted is_text are before means. record {
    own = own;
    row = row_of r;
    rows = ap rows_of rows ∙ map-append row_of kept.rows.items (r ∷ []) ∙ ap (λ v. rows_of v.items ++ row_of r ∷ []) by.rows;
    is_row = rw (types, bound) (record {
      counted = counted;
      is_text = is_text;
      tokens = old.reader.piece.items;
      are = are;
      one_piece = before.one_piece;
      is_own = is_own;
      syntax = syntax before;
      kept = by.kept s.names s.types means;
      numbers = by.its_numbers;
    });
    bound = rw (types, bound) (by.bound s.names s.types means);
  };
}

-- ---- what is left of the text

pub read_and_left : (ahead : List ℕ) (s : Sight) (text rest : List ℕ) (a : Analyst) (h : IsReadTo ahead s text rest a)
    → text ≡ (ahead ++ joined h.pieces) ++ rest
read_and_left ahead s text rest a h = h.divides ∙ sym (append_assoc ahead (joined h.pieces) rest)

pub is_left : (ahead : List ℕ) (s : Sight) (text rest : List ℕ) (a : Analyst) → IsReadTo ahead s text rest a → drop a.end text ≡ rest
is_left ahead s text rest a h =
    ap (drop a.end) (read_and_left ahead s text rest a h) ∙ drop_at (ahead ++ joined h.pieces) rest a.end (sym h.end)

pub rest_counted : (ahead : List ℕ) (s : Sight) (text rest : List ℕ) (a : Analyst) → IsReadTo ahead s text rest a → length text ≡ a.end + length rest
rest_counted ahead s text rest a h =
    omega (arith, ap length (read_and_left ahead s text rest a h), length-append (ahead ++ joined h.pieces) rest, h.end)

-- it begins between two characters
pub left_begins : (ahead : List ℕ) (s : Sight) (text rest : List ℕ) (a : Analyst) → IsUtf8 text → IsReadTo ahead s text rest a → IsCharBoundary text a.end
left_begins ahead s text rest a is_text h =
    let front : take a.end text ≡ ahead ++ joined h.pieces =
    ap (take a.end) (read_and_left ahead s text rest a h) ∙ take_at (ahead ++ joined h.pieces) rest a.end (sym h.end) in
    let whole = joined_is_text s h.pieces (rows_of a.rows.items) h.sight (types_in a.types) a.bound (dialect_in a.types) h.rows in
    IsCharBoundary-from_take text a.end is_text (omega (arith, rest_counted ahead s text rest a h))
    (subst IsUtf8 (sym front) (IsUtf8-append ahead (joined h.pieces) h.ahead_is_text whole))

-- ---- the next piece of it

one_joined : (ps : List (List ℕ)) (p : List ℕ) → joined (ps ++ p ∷ []) ≡ joined ps ++ p
one_joined ps p = joined_append ps (p ∷ []) ∙ ap (λ bytes. joined ps ++ bytes) (append-nil p)

module _ (ahead : List ℕ) (s : Sight) (text rest : List ℕ) (a now : Analyst) (reader : Reader) (end : PieceEnd) (h : IsReadTo ahead s text rest a)
    (next : IsNextPiece rest end reader.piece.items) (read : AreRead [] [] reader) (dialect : dialect_in now.types ≡ dialect_in a.types)
    (ended : IsPieceEnded end.bytes (record a { reader = reader }) now) where
  added : IsRowAdded next.piece h.sight (record a { reader = reader }) now
  added = ended.added next.piece h.sight next.counted next.is_text next.are read h.bound

  abbrev Through : List (List ℕ)
  Through = h.pieces ++ next.piece ∷ []

  rows_through : AreRows s Through (rows_of now.rows.items) (sight_with h.sight added.own (types_in now.types) added.row.command) (types_in now.types) now.bound (dialect_in now.types)
  rows_through =
      let rows = rows_of a.rows.items in
      let ts = types_in now.types in
      let d = dialect_in now.types in
      let before = subst (λ e. AreRows s h.pieces rows h.sight (types_in a.types) a.bound e) (sym dialect) h.rows in
      let grown = rows_keep s h.pieces rows h.sight (types_in a.types) ts a.bound now.bound d ended.keeps ended.numbers before in
      rw added.rows (rows_push s h.pieces rows h.sight next.piece added.own added.row ts now.bound d grown added.is_row)

  divides_behind : text ≡ ahead ++ (joined Through ++ next.behind)
  divides_behind =
      h.divides
      ∙ ap (λ bytes. ahead ++ (joined h.pieces ++ bytes)) next.divides
      ∙ ap (λ bytes. ahead ++ bytes) (sym (append_assoc (joined h.pieces) next.piece next.behind))
      ∙ ap (λ bytes. ahead ++ (bytes ++ next.behind)) (sym (one_joined h.pieces next.piece))

  end_behind : now.end ≡ length (ahead ++ joined Through)
  end_behind =
      omega (
        arith,
        ended.end,
        h.end,
        next.counted,
        length-append ahead (joined h.pieces),
        length-append ahead (joined Through),
        ap length (one_joined h.pieces next.piece),
        length-append (joined h.pieces) next.piece,
      )

  less_left : IsEnded next.piece → length next.behind < length rest
  less_left is = omega (arith, some_bytes next.piece is, ap length next.divides, length-append next.piece next.behind)

  pub read_on : IsReadOn end.semicolon ahead s text rest now
  read_on = by end.semicolon refl
    where
      by : (more : Bool) → end.semicolon ≡ more → IsReadOn more ahead s text rest now
      by true is = (
        next.behind,
        less_left (next.ended is),
        record {
          ahead_is_text = h.ahead_is_text;
          pieces = Through;
          divides = divides_behind;
          all_ended = All-append IsEnded h.pieces (next.piece ∷ []) h.all_ended (All-from_recursion IsEnded (next.piece ∷ []) (next.ended is, tt));
          end = end_behind;
          sight = sight_with h.sight added.own (types_in now.types) added.row.command;
          rows = rows_through;
          bound = added.bound;
          between = ended.between;
        },
      )
      by false is = record {
        ended = h.pieces;
        last = next.piece;
        divides = divides_behind ∙ ap (λ bytes. ahead ++ (joined Through ++ bytes)) (next.last is).0 ∙ ap (λ bytes. ahead ++ bytes) (append-nil (joined Through));
        all_ended = h.all_ended;
        not_ended = (next.last is).1;
        sight = sight_with h.sight added.own (types_in now.types) added.row.command;
        rows = rows_through;
      }

-- ---- all pieces were read

pub all_read : (text : List ℕ) (a : Analyst) (made : Analysis) → IsUtf8 text → IsReadThrough [] outset text a → IsSound a
    → made.rows ≡ a.rows → made.types ≡ a.types → made.bound ≡ a.bound → made.dialect ≡ dialect_in a.types
    → made.row_faults.large ≡ first_large (placed 0 (rows_of a.rows.items)) → map fault_of made.row_faults.syntax.items ≡ all_syntax (placed 0 (rows_of a.rows.items))
    → (made.row_faults.large ≡ None → map fault_of made.row_faults.types.items ≡ all_faults (placed 0 (rows_of a.rows.items))) → IsAnalysisOf text made
all_read text a made is_text h sound rows types bound dialect large syntax found = record {
  is_text = is_text;
  ended = h.ended;
  last = h.last;
  made_up = record { whole = h.divides; all_ended = h.all_ended; not_ended = h.not_ended };
  sight = h.sight;
  rows = rw (rows, types, bound, dialect) h.rows;
  large = large ∙ ap (λ v. first_large (placed 0 (rows_of v.items))) (sym rows);
  syntax = syntax ∙ ap (λ v. all_syntax (placed 0 (rows_of v.items))) (sym rows);
  found = λ none. found none ∙ ap (λ v. all_faults (placed 0 (rows_of v.items))) (sym rows);
  sound = rw types sound.types;
  dialect = ap dialect_in types ∙ sym dialect;
  numbers = rw bound sound.numbers;
}
