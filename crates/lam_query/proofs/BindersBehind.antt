-- The binders of the commands of the first pieces, while they are listed row by row.
use Rattle.std.proofs.Common.{◌≡◌, ℕ, suc, ◌+◌, ◌<◌, ◌≤◌, List, [], ◌∷◌, ◌++◌, append-nil, append_assoc, length, take, drop, reverse, map, get_or, slice_range, Option, Some, None, refl, sym, ap, subst, ◌∙◌, arith}
use Rattle.std.specs.List.{All}
use Rattle.std.specs.Option.{option_map}
use Rattle.std.specs.Prelude.{IfSome, IfNone, if◌then◌else◌}
use Rattle.std.specs.Str.{IsUtf8, IsCharBoundary}
use Rattle.std.proofs.lemmas.List.{length-append, map-append, reverse-append, take-append-drop, take_at, drop_at, drop-map, take-map}
use Rattle.std.proofs.lemmas.List.Elements.{All-nil, All-push}
use Rattle.std.proofs.Math.Seq.{take-suc}
use Rattle.std.proofs.lemmas.Slice.{between_is}
use Rattle.std.proofs.lemmas.Str.{IsUtf8-append, IsCharBoundary-from_take}
use Rattle.lam_token.specs.declared.kind.Kind.TheVariants as kind
use Rattle.lam_token.specs.declared.span.Span.{Span}
use Rattle.lam_token.specs.Cut.{AreTokensOf}
use Rattle.lam_token.specs.Lexeme.{Lexeme, lexeme, text_of}
use Rattle.lam_token.specs.MovedTokens.{moved_by}
use Rattle.lam_token.proofs.Cuts.{one_list, one_list_from}
use Rattle.lam_token.proofs.MovedTokens.{moved_further}
use Rattle.lam_rules.specs.Types.{Typ}
use Rattle.lam_rules.specs.Typing.{Context}
use Rattle.lam_rules.specs.declared.numbers.TyNo.{TyNo}
use Rattle.lam_rules.specs.declared.rules.Dialect.{Dialect}
use Rattle.lam_syntax.specs.Trees.{word, CommandTree, definition, declaration, abbreviation, evaluation}
use Rattle.lam_syntax.specs.Answers.{ends_piece, is_semicolon}
use Rattle.lam_syntax.specs.Grammar.{Spells, definition_command, declaration_command, abbreviation_command, evaluation_command}
use Rattle.lam_scope.specs.Names.{Name, binds}
use Rattle.lam_scope.specs.Numbered.{StandsIfAny}
use Rattle.lam_scope.specs.Nameless.{names_after}
use Rattle.lam_typing.specs.Answers.{answer, answers}
use Rattle.lam_typing.specs.Blaming.{Blamed, renumbered}
use Rattle.lam_typing.specs.Checking.{types_in}
use Rattle.lam_query.specs.declared.analyses.Analysis.{Analysis}
use Rattle.lam_query.specs.declared.binders.SeenBinder.{SeenBinder}
use Rattle.lam_query.specs.declared.bound.Bound.{Bound}
use Rattle.lam_query.specs.declared.bound.NameNo.{NameNo}
use Rattle.lam_query.specs.declared.bound.NameNo.TheVariants as number
use Rattle.lam_query.specs.declared.rows.CommandRow.{CommandRow as RustCommandRow}
use Rattle.lam_query.specs.declared.rows.Row.{Row as RustRow}
use Rattle.lam_query.specs.Analyses.{IsAnalysisOf}
use Rattle.lam_query.specs.inner.Bound.{IsBinding}
use Rattle.lam_query.specs.inner.Checked.{abbreviations_behind, names_behind, context_after, AreChecked}
use Rattle.lam_query.specs.inner.Entered.{name_bound}
use Rattle.lam_query.specs.inner.Kept.{CommandRow, Found, written_too_large, term_too_large, typed, Row, found_of, command_row_of, row_of, rows_of, row_after, command_after, command_row_after, placed, bytes_of, bound_by, found_in, large_written_type, large_term, first_in, first_large}
use Rattle.lam_query.specs.inner.OnePiece.{HaveNoSemicolon, IsOwnOf, one_command, no_command, ArePieceTokens, before_semicolon, at_end}
use Rattle.lam_query.specs.inner.PieceRows.{Sight, outset, AreTokensIn, alone, AreItsNumbers, IsPieceRow, AreRows, joined}
use Rattle.lam_query.specs.inner.PieceRows.{before_semicolon as with_semicolon}
use Rattle.lam_query.specs.inner.Rows.{Front, nothing, front_with, StandInFound, IsFoundOf, IsKeptOf, IsRow, AreRowsFrom, types_of, entries_of}
use Rattle.lam_query.specs.inner.SeenBinders.{name_seen, entries_seen, AreBindersBehind, AreEntriesBehind}
use Rattle.lam_query.proofs.Checked.{none_checked}
use Rattle.lam_query.proofs.CheckedLists.{names_push}
use Rattle.lam_query.proofs.CommandsAfter.{own_after, name_bound_after}
use Rattle.lam_query.proofs.KnownFronts.{types_behind}
use Rattle.lam_query.proofs.Meanings.{entry_behind}
use Rattle.lam_query.proofs.OneCommand.{none_within, one_front}
use Rattle.lam_query.proofs.PieceAround.{own_same}
use Rattle.lam_query.proofs.PieceRowLists.{joined_append, bytes_are, joined_is_text}
use Rattle.lam_query.proofs.PieceRowLists.{rows_split as pieces_split}
use Rattle.lam_query.proofs.RowLists.{rows_split}
use Rattle.lam_query.proofs.RowsInText.{bound_after, none_moved}
use Rattle.lam_query.proofs.RowsPlaced.{placed_append, placed_ends, next_row, around_row, next_counted, starts_there}
use Rattle.lam_query.proofs.NoneLarge.{none_first, none_second, none_there}

-- ---- the name that a command binds

-- it is put in front of the names that the command sees
abbrev name_onto : Option Name → List (Option Name) → List (Option Name)
name_onto None xs = xs
name_onto (Some x) xs = Some x ∷ xs

names_by : (xs : List (Option Name)) (c : CommandTree) → names_after xs c ≡ name_onto (name_bound c) xs
names_by xs (definition (word x s) t) = refl
names_by xs (declaration (word x s) u) = refl
names_by xs (abbreviation (word x s) u) = refl
names_by xs (evaluation t) = refl

-- and its entry in front of theirs
abbrev entry_onto : Option Name → Option Typ → Context → Context
entry_onto None entry g = g
entry_onto (Some x) entry g = entry ∷ g

context_by : (g : Context) (c : CommandTree) (entry : Option Typ) → context_after g c entry ≡ entry_onto (name_bound c) entry g
context_by g (definition (word x s) t) entry = refl
context_by g (declaration (word x s) u) entry = refl
context_by g (abbreviation (word x s) u) entry = refl
context_by g (evaluation t) entry = refl

-- the tokens of a command that binds a name begin with it
tokens_named : (x : Name) {ts : List Lexeme} {c : CommandTree} → Spells ts c → name_bound c ≡ Some x
    → (s : Span) × (others : List Lexeme) × (ts ≡ lexeme kind.Name x s ∷ others)
tokens_named x (definition_command {ts = ts} {x = y} {y = z} {s = s} {q = q} d) named =
    let same : y ≡ x = cc in
    (s, lexeme kind.Equals z q ∷ ts, ap (λ w. lexeme kind.Name w s ∷ lexeme kind.Equals z q ∷ ts) same)
tokens_named x (declaration_command {ts = ts} {x = y} {y = z} {s = s} {c = c} d) named =
    let same : y ≡ x = cc in
    (s, lexeme kind.Colon z c ∷ ts, ap (λ w. lexeme kind.Name w s ∷ lexeme kind.Colon z c ∷ ts) same)
tokens_named x (abbreviation_command d) named = absurd cc
tokens_named x (evaluation_command d) named = absurd cc

piece_named : (piece : List ℕ) (x : Name) (tokens : List Lexeme) (c : CommandTree) → AreTokensIn piece tokens → Spells tokens c → name_bound c ≡ Some x
    → (s : Span) × (others : List Lexeme) × AreTokensOf piece (lexeme kind.Name x s ∷ others)
piece_named piece x tokens c (with_semicolon t are kind ends) spelled named =
    let is = tokens_named x spelled named in
    (is.0, is.1 ++ t ∷ [], subst (λ ts. AreTokensOf piece (ts ++ t ∷ [])) is.2 are)
piece_named piece x tokens c (alone are) spelled named =
    let is = tokens_named x spelled named in
    (is.0, is.1, subst (AreTokensOf piece) is.2 are)

-- the name that the one command of a piece binds, if there is one
abbrev name_of_own : List CommandTree → Option Name
name_of_own (c ∷ []) = name_bound c
name_of_own own = None

own_named : (piece : List ℕ) (x : Name) (tokens : List Lexeme) (own : List CommandTree) → AreTokensIn piece tokens → IsOwnOf tokens own → name_of_own own ≡ Some x
    → (s : Span) × (others : List Lexeme) × AreTokensOf piece (lexeme kind.Name x s ∷ others)
own_named piece x tokens _ are (one_command {c = c} is) named = piece_named piece x tokens c are is.spelled named
own_named piece x tokens _ are (no_command none) named = absurd cc

-- so it is the first word of the piece
module _ {W : Type 0} (letters : W → List ℕ) (piece : List ℕ) (x : Name) where
  pub word_is : (first : Option W) → (s : Span) × (others : List Lexeme) × AreTokensOf piece (lexeme kind.Name x s ∷ others)
      → IfSome first (λ w. (t : Lexeme) × (others : List Lexeme) × AreTokensOf piece (t ∷ others) × (letters w ≡ text_of t))
      → IfNone first (AreTokensOf piece []) → option_map letters first ≡ Some x
  word_is (Some w) is some none =
      let same : lexeme kind.Name x is.0 ∷ is.1 ≡ some.0 ∷ some.1 = one_list piece (some.0 ∷ some.1) (lexeme kind.Name x is.0 ∷ is.1) some.2 is.2 in
      let first : lexeme kind.Name x is.0 ≡ some.0 = cc in
      ap Some (some.3 ∙ ap text_of (sym first))
  word_is None is some none =
      let same : [] ≡ lexeme kind.Name x is.0 ∷ is.1 = one_list piece (lexeme kind.Name x is.0 ∷ is.1) [] is.2 none in
      absurd cc

-- ---- a piece by itself and in its text

semicolon_moved : (n : ℕ) (t : Lexeme) → is_semicolon (moved_by n t) ≡ is_semicolon t
semicolon_moved n (lexeme k x s) = refl

-- its tokens there are its own, so much further on
tokens_same : (n : ℕ) (piece rest : List ℕ) (tokens us : List Lexeme) → HaveNoSemicolon tokens → HaveNoSemicolon us
    → ArePieceTokens n piece rest tokens → AreTokensIn piece us
    → map (moved_by n) us ≡ tokens
tokens_same n piece rest tokens us none none' (before_semicolon t are kind ends) (with_semicolon u are' kind' ends') =
    let same : map (moved_by n) us ++ moved_by n u ∷ [] ≡ tokens ++ t ∷ [] =
    sym (map-append (moved_by n) us (u ∷ []))
    ∙ one_list_from n piece (tokens ++ t ∷ []) (map (moved_by n) (us ++ u ∷ [])) are (moved_further n piece (us ++ u ∷ []) are') in
    one_front (map (moved_by n) us) [] tokens [] (moved_by n u) t (none_moved n us none') none (semicolon_moved n u ∙ ap ends_piece kind') (ap ends_piece kind) same
tokens_same n piece rest tokens us none none' (before_semicolon t are kind ends) (alone are') =
    let same : map (moved_by n) us ≡ tokens ++ t ∷ [] = one_list_from n piece (tokens ++ t ∷ []) (map (moved_by n) us) are (moved_further n piece us are') in
    absurd (none_within tokens [] t (subst HaveNoSemicolon same (none_moved n us none')) (ap ends_piece kind))
tokens_same n piece rest tokens us none none' (at_end are last) (with_semicolon u are' kind' ends') =
    let same : tokens ≡ map (moved_by n) us ++ moved_by n u ∷ [] =
    one_list_from n piece (map (moved_by n) (us ++ u ∷ [])) tokens (moved_further n piece (us ++ u ∷ []) are') are ∙ map-append (moved_by n) us (u ∷ []) in
    absurd (none_within (map (moved_by n) us) [] (moved_by n u) (subst HaveNoSemicolon same none) (semicolon_moved n u ∙ ap ends_piece kind'))
tokens_same n piece rest tokens us none none' (at_end are last) (alone are') =
    one_list_from n piece tokens (map (moved_by n) us) are (moved_further n piece us are')

-- ---- what the commands of a piece bind

-- the commands of a piece bind a name just where its row has the number of one
module _ (b : Bound) where
  name_told : (own : List CommandTree) (k : CommandRow) (n : ℕ) → AreItsNumbers b own (Some k) → k.binds ≡ Some (number.Name n)
      → (x : Name) × (name_of_own own ≡ Some x)
  name_told [] k n are is = absurd are
  name_told (c ∷ []) k n are is = let told = subst (IsBinding b c) is are.0 in (told.0, told.1)
  name_told (c ∷ e ∷ own) k n are is = absurd are

  none_told : (own : List CommandTree) (k : CommandRow) → AreItsNumbers b own (Some k) → ((n : ℕ) → k.binds ≡ Some (number.Name n) → ⊥) → name_of_own own ≡ None
  none_told [] k are is = absurd are
  none_told (c ∷ []) k are is = by k.binds refl (are.0)
    where
      by : (o : Option NameNo) → k.binds ≡ o → IsBinding b c o → name_bound c ≡ None
      by None binds told = told.0
      by (Some (number.Name n)) binds told = absurd (is n binds)
      by (Some (number.TypeName n)) binds told = told.1
  none_told (c ∷ e ∷ own) k are is = absurd are

  none_without : (own : List CommandTree) → AreItsNumbers b own None → name_of_own own ≡ None
  none_without [] are = refl
  none_without (c ∷ []) are = absurd are
  none_without (c ∷ e ∷ own) are = refl

-- it is the same further on in a text
name_after : (n : ℕ) (own others : List CommandTree) → own ≡ map (command_after n) others → name_of_own own ≡ name_of_own others
name_after n own others are = ap name_of_own are ∙ by others
  where
    by : (cs : List CommandTree) → name_of_own (map (command_after n) cs) ≡ name_of_own cs
    by [] = refl
    by (c ∷ []) = name_bound_after n c
    by (c ∷ e ∷ cs) = refl

-- the names behind one piece more
names_more : (done own : List CommandTree) (tokens : List Lexeme) → IsOwnOf tokens own → names_behind (done ++ own) ≡ name_onto (name_of_own own) (names_behind done)
names_more done _ tokens (one_command {c = c} is) = names_push done c ∙ names_by (names_behind done) c
names_more done _ tokens (no_command none) = ap names_behind (append-nil done)

-- ---- entries

-- None of the types up to a front is too large, this is the context there, and names mean what it tells.
record HasContext (f : Front) (g : Context) (d : Dialect) : Type 0 where
  found : List (Option Typ)
  blames : List Blamed
  checked : AreChecked f.commands g found blames d
  names : (x : Name) → f.names x ≡ entries_of f.commands g x
  types : (x : Name) → f.types x ≡ types_of (abbreviations_behind f.commands) x

none_known : (d : Dialect) → HasContext nothing [] d
none_known d = record { found = []; blames = []; checked = none_checked d; names = λ x. refl; types = λ x. refl }

-- the entry of what a command binds, by its row
abbrev bound_in : Option CommandRow → Option TyNo
bound_in None = None
bound_in (Some k) = bound_by k.found

abbrev found_of_row : Option CommandRow → Option Found
found_of_row o = option_map (λ k. k.found) o

-- one more command, in which no type is too large
module _ (f : Front) (g : Context) (c : CommandTree) (r : Row) (k : CommandRow) (ts : List Typ) (d : Dialect) (known : HasContext f g d) where
  abbrev Through : Found → Front
  Through found = front_with f (c ∷ []) ts (record r { command = Some (record k { found = found }) })

  command_known : (found : Found) → IsFoundOf f.names f.types c ts found d → large_written_type (Some found) ≡ None → large_term (Some found) ≡ None
      → HasContext (Through found) (entry_onto (name_bound c) (answer ts (bound_by found)) g) d
  command_known (written_too_large s) is written term = absurd cc
  command_known (term_too_large s) is written term = absurd cc
  command_known (typed t) is written term =
      let entry = answer ts t.bound in
      let after = context_by g c entry in
      let here = is.written (abbreviations_behind f.commands) (λ x there. known.types x) in
      let more = is.found f.commands g known.found known.blames known.checked (record { names = λ x there. known.names x; types = λ x there. known.types x }) in
      let found = known.found ++ answers ts t.types in
      let blames = known.blames ++ renumbered (length known.found) more.own in
      record {
        found = found;
        blames = blames;
        checked = subst (λ e. AreChecked (f.commands ++ c ∷ []) e found blames d) after more.checked;
        names = λ x.
            ap (λ o. if binds (name_bound c) x then Some entry else o) (known.names x)
            ∙ sym (entry_behind x f.commands g c entry)
            ∙ ap (λ e. entries_of (f.commands ++ c ∷ []) e x) after;
        types = types_behind f.commands c ts t.bound f.types known.types here.1;
      }

-- one more piece
own_known : (f : Front) (g : Context) (own : List CommandTree) (r : Row) (o : Option CommandRow) (ts : List Typ) (d : Dialect) → HasContext f g d
    → IsKeptOf f.names f.types own ts o d → large_written_type (found_of_row o) ≡ None → large_term (found_of_row o) ≡ None
    → HasContext (front_with f own ts (record r { command = o })) (entry_onto (name_of_own own) (answer ts (bound_in o)) g) d
own_known f g [] r None ts d known kept written term = record {
  found = known.found;
  blames = known.blames;
  checked = subst (λ cs. AreChecked cs g known.found known.blames d) (sym (append-nil f.commands)) known.checked;
  names = subst (λ cs. (x : Name) → f.names x ≡ entries_of cs g x) (sym (append-nil f.commands)) known.names;
  types = subst (λ cs. (x : Name) → f.types x ≡ types_of (abbreviations_behind cs) x) (sym (append-nil f.commands)) known.types;
}
own_known f g [] r (Some k) ts d known kept written term = absurd kept
own_known f g (c ∷ []) r None ts d known kept written term = absurd kept
own_known f g (c ∷ []) r (Some k) ts d known kept written term = command_known f g c r k ts d known k.found kept written term
own_known f g (c ∷ e ∷ own) r o ts d known kept written term = absurd kept

-- what it binds stands for a type of the table
kept_stands : (f : Sight) (own : List CommandTree) (k : CommandRow) (ts : List Typ) (d : Dialect) → IsKeptOf f.names f.types own ts (Some k) d
    → StandsIfAny ts (bound_by k.found)
kept_stands f [] k ts d kept = absurd kept
kept_stands f (c ∷ []) k ts d kept = by k.found kept.stand
  where
    by : (found : Found) → StandInFound ts found → StandsIfAny ts (bound_by found)
    by (written_too_large s) stand = tt
    by (term_too_large s) stand = tt
    by (typed t) stand = stand.1
kept_stands f (c ∷ e ∷ own) k ts d kept = absurd kept

-- ---- the row of a number

-- the row is that of the first of these pieces
record IsFirstOf (s : Sight) (pieces : List (List ℕ)) (r : Row) (ts : List Typ) (b : Bound) (d : Dialect) : Type 0 where
  piece : List ℕ
  more : List (List ℕ)
  own : List CommandTree
  are : pieces ≡ piece ∷ more
  is : IsPieceRow piece s own r ts b d

first_piece : (s : Sight) (pieces : List (List ℕ)) (r : Row) (rows : List Row) (last : Sight) (ts : List Typ) (b : Bound) (d : Dialect)
    → AreRows s pieces (r ∷ rows) last ts b d → IsFirstOf s pieces r ts b d
first_piece s [] r rows last ts b d are = absurd are
first_piece s (p ∷ pieces) r rows last ts b d are = record { piece = p; more = pieces; own = are.0; are = refl; is = are.1 }

-- one row more
one_more : (rows : List RustRow) (i : ℕ) (e : RustRow) → i < length rows → rows_of (take (i + 1) rows) ≡ rows_of (take i rows) ++ row_of (get_or rows i e) ∷ []
one_more rows i e lt =
    let next : i + 1 ≡ suc i = omega arith in
    ap (λ n. rows_of (take n rows)) next ∙ ap rows_of (take-suc rows i e lt) ∙ map-append row_of (take i rows) (get_or rows i e ∷ [])

-- what it binds is the same further on in a text
entry_after : (n : ℕ) (o : Option CommandRow) → bound_in (option_map (command_row_after n) o) ≡ bound_in o
entry_after n None = refl
entry_after n (Some k) = bound_after n k.found

module _ (text : List ℕ) (a : Analysis) (h : IsAnalysisOf text a) (i : ℕ) (e : RustRow) (lt : i < length a.rows.items) (start : ℕ)
    (counted : start + bytes_of (rows_of (drop i a.rows.items)) ≡ bytes_of (rows_of a.rows.items)) where
  abbrev Rows : List RustRow
  Rows = a.rows.items

  abbrev Types : List Typ
  Types = types_in a.types

  abbrev Here : Row
  Here = row_of (get_or Rows i e)

  abbrev Ahead : List Row
  Ahead = rows_of (take i Rows)

  abbrev Pieces : List (List ℕ)
  Pieces = h.ended ++ h.last ∷ []

  split : (mid : Sight) × AreRows outset (take i Pieces) (take i (rows_of Rows)) mid Types a.bound a.dialect
      × AreRows mid (drop i Pieces) (drop i (rows_of Rows)) h.sight Types a.bound a.dialect
  split = pieces_split i outset Pieces (rows_of Rows) h.sight Types a.bound a.dialect h.rows

  here : IsFirstOf split.0 (drop i Pieces) Here Types a.bound a.dialect
  here =
      first_piece split.0 (drop i Pieces) Here (rows_of (drop (i + 1) Rows)) h.sight Types a.bound a.dialect
      (subst (λ rs. AreRows split.0 (drop i Pieces) rs h.sight Types a.bound a.dialect) (drop-map row_of i Rows ∙ next_row Rows i e lt) split.2)

  -- ---- where it stands

  abbrev Before : List ℕ
  Before = joined (take i Pieces)

  abbrev End : ℕ
  End = start + (get_or Rows i e).end

  divides : text ≡ Before ++ (here.piece ++ joined here.more)
  divides =
      h.made_up.whole ∙ ap joined (sym (take-append-drop i Pieces)) ∙ joined_append (take i Pieces) (drop i Pieces)
      ∙ ap (λ ps. Before ++ joined ps) here.are

  starts : start ≡ length Before
  starts =
      starts_there Rows i e lt start counted ∙ ap bytes_of (sym (take-map row_of i Rows))
      ∙ bytes_are outset (take i Pieces) (take i (rows_of Rows)) split.0 Types a.bound a.dialect split.1

  ends : End ≡ length (Before ++ here.piece)
  ends = omega (arith, starts, here.is.counted, length-append Before here.piece)

  pub ends_inside : End ≤ length text
  ends_inside =
      omega (arith, ends, ap length divides, length-append Before (here.piece ++ joined here.more), length-append here.piece (joined here.more), length-append Before here.piece)

  front_is : take start text ≡ Before
  front_is = ap (take start) divides ∙ take_at Before (here.piece ++ joined here.more) start (sym starts)

  through_is : take End text ≡ Before ++ here.piece
  through_is =
      ap (take End) (divides ∙ sym (append_assoc Before here.piece (joined here.more))) ∙ take_at (Before ++ here.piece) (joined here.more) End (sym ends)

  front_text : IsUtf8 Before
  front_text = joined_is_text outset (take i Pieces) (take i (rows_of Rows)) split.0 Types a.bound a.dialect split.1

  -- it begins and ends between characters

  pub starts_between : IsCharBoundary text start
  starts_between = IsCharBoundary-from_take text start h.is_text (omega (arith, ends_inside)) (subst IsUtf8 (sym front_is) front_text)

  pub stops_between : IsCharBoundary text End
  stops_between =
      IsCharBoundary-from_take text End h.is_text ends_inside (subst IsUtf8 (sym through_is) (IsUtf8-append Before here.piece front_text here.is.is_text))

  piece_is : slice_range text start End ≡ here.piece
  piece_is = between_is text start End ∙ ap (drop start) through_is ∙ drop_at Before here.piece start (sym starts)

  -- ---- behind it

  module _ (f : Front) (are : AreRowsFrom text nothing (placed 0 (rows_of (take (i + 1) Rows))) f Types a.dialect) where
    abbrev There : Row
    There = row_after (bytes_of Ahead + 0) Here

    placed_more : placed 0 (rows_of (take (i + 1) Rows)) ≡ placed 0 Ahead ++ There ∷ []
    placed_more = ap (placed 0) (one_more Rows i e lt) ∙ placed_append 0 Ahead (Here ∷ [])

    divided : (mid : Front) × AreRowsFrom text nothing (placed 0 Ahead) mid Types a.dialect × AreRowsFrom text mid (There ∷ []) f Types a.dialect
    divided =
        rows_split text nothing (placed 0 Ahead) (There ∷ []) f Types a.dialect
        (subst (λ rs. AreRowsFrom text nothing rs f Types a.dialect) placed_more are)

    abbrev Own : List CommandTree
    Own = divided.2.0

    there : IsRow text divided.0 Own There Types a.dialect
    there = divided.2.1

    through : front_with divided.0 Own Types There ≡ f
    through = divided.2.2

    starts_at : divided.0.end ≡ start
    starts_at = omega (arith, placed_ends text nothing Ahead divided.0 Types a.dialect divided.1, starts_there Rows i e lt start counted)

    ends_at : There.end ≡ End
    ends_at = omega (arith, starts_there Rows i e lt start counted)

    slice_same : slice_range text divided.0.end There.end ≡ here.piece
    slice_same = (λ j. slice_range text (starts_at j) (ends_at j)) ∙ piece_is

    -- its commands are those of the row, so much further on
    abbrev Further : ℕ
    Further = length (take divided.0.end text)

    own_is : Own ≡ map (command_after Further) here.own
    own_is =
        let tokens = there.tokens in
        let same =
        tokens_same Further here.piece (drop There.end text) tokens here.is.tokens there.piece.one_piece here.is.one_piece
        (subst (λ p. ArePieceTokens Further p (drop There.end text) tokens) slice_same there.piece.are_own) here.is.are in
        own_same tokens Own (map (command_after Further) here.own) there.is_own
        (subst (λ us. IsOwnOf us (map (command_after Further) here.own)) same (own_after Further here.is.tokens here.own here.is.is_own))

    name_same : name_of_own Own ≡ name_of_own here.own
    name_same = name_after Further Own here.own own_is

    names_there : names_behind f.commands ≡ name_onto (name_of_own here.own) (names_behind divided.0.commands)
    names_there =
        ap (λ (g : Front). names_behind g.commands) (sym through)
        ∙ names_more divided.0.commands Own there.tokens there.is_own
        ∙ ap (λ o. name_onto o (names_behind divided.0.commands)) name_same

    -- where no type is too large
    module _ (small : a.row_faults.large ≡ None) where
      abbrev Behind : List Row
      Behind = placed (Here.end + (bytes_of Ahead + 0)) (rows_of (drop (i + 1) Rows))

      all_small : first_large (placed 0 Ahead ++ There ∷ Behind) ≡ None
      all_small =
          ap first_large (sym (ap (placed 0) (around_row Rows i e lt) ∙ placed_append 0 Ahead (Here ∷ rows_of (drop (i + 1) Rows)))) ∙ sym h.large ∙ small

      no_written : large_written_type (found_in There) ≡ None
      no_written =
          let rows = placed 0 Ahead ++ There ∷ Behind in
          none_there large_written_type (placed 0 Ahead) There Behind (none_first (first_in large_written_type rows) (first_in large_term rows) all_small)

      no_term : large_term (found_in There) ≡ None
      no_term =
          let rows = placed 0 Ahead ++ There ∷ Behind in
          none_there large_term (placed 0 Ahead) There Behind (none_second (first_in large_written_type rows) (first_in large_term rows) all_small)

      context_there : (g : Context) → HasContext divided.0 g a.dialect
          → HasContext f (entry_onto (name_of_own here.own) (answer Types (bound_in Here.command)) g) a.dialect
      context_there g known =
          let made = own_known divided.0 g Own There There.command Types a.dialect known there.kept no_written no_term in
          subst (λ e. HasContext f e a.dialect)
          (λ j. entry_onto (name_same j) (answer Types (entry_after (bytes_of Ahead + 0) Here.command j)) g)
          (subst (λ u. HasContext u (entry_onto (name_of_own Own) (answer Types (bound_in There.command)) g) a.dialect) through made)

-- ---- the binders so far

-- The first pieces of a text, up to a byte: their commands have these binders, whose types are numbers of the table.
pub record AreSeenSoFar (text : List ℕ) (a : Analysis) (count start : ℕ) (bs : List SeenBinder) : Type 0 where
  pub counted : start + bytes_of (rows_of (drop count a.rows.items)) ≡ bytes_of (rows_of a.rows.items)
  pub names : (f : Front) → AreRowsFrom text nothing (placed 0 (rows_of (take count a.rows.items))) f (types_in a.types) a.dialect → AreBindersBehind f bs
  pub entries : (f : Front) → AreRowsFrom text nothing (placed 0 (rows_of (take count a.rows.items))) f (types_in a.types) a.dialect → a.row_faults.large ≡ None
      → AreEntriesBehind f bs (types_in a.types) a.dialect
  pub stand : All (λ b. StandsIfAny (types_in a.types) b.entry) bs

entries_are : (f : Front) (bs : List SeenBinder) (ts : List Typ) (d : Dialect) → HasContext f (reverse (entries_seen ts bs)) d → AreEntriesBehind f bs ts d
entries_are f bs ts d known = record { found = known.found; blames = known.blames; checked = known.checked; names = known.names; types = known.types }

context_is : (f : Front) (bs : List SeenBinder) (ts : List Typ) (d : Dialect) → AreEntriesBehind f bs ts d → HasContext f (reverse (entries_seen ts bs)) d
context_is f bs ts d known = record { found = known.found; blames = known.blames; checked = known.checked; names = known.names; types = known.types }

-- none at the beginning
pub none_seen : (text : List ℕ) (a : Analysis) → AreSeenSoFar text a 0 0 []
none_seen text a = record {
  counted = omega arith;
  names = λ f are. subst (λ g. AreBindersBehind g []) are refl;
  entries = λ f are small. subst (λ g. AreEntriesBehind g [] (types_in a.types) a.dialect) are (entries_are nothing [] (types_in a.types) a.dialect (none_known a.dialect));
  stand = All-nil (λ b. StandsIfAny (types_in a.types) b.entry);
}

-- one more from the outside in
pushed_reversed : {A B : Type 0} (f : A → B) (xs : List A) (x : A) → reverse (map f (xs ++ x ∷ [])) ≡ f x ∷ reverse (map f xs)
pushed_reversed f xs x = ap reverse (map-append f xs (x ∷ [])) ∙ reverse-append (map f xs) (f x ∷ [])

module _ (text : List ℕ) (a : Analysis) (h : IsAnalysisOf text a) (i : ℕ) (e : RustRow) (lt : i < length a.rows.items) (start : ℕ) (bs : List SeenBinder)
    (so_far : AreSeenSoFar text a i start bs) where
  abbrev Next : RustRow
  Next = get_or a.rows.items i e

  abbrev First : IsFirstOf (split text a h i e lt start so_far.counted).0 (drop i (h.ended ++ h.last ∷ [])) (row_of Next) (types_in a.types) a.bound a.dialect
  First = here text a h i e lt start so_far.counted

  -- the command binds no name, or there is none
  skipped : name_of_own First.own ≡ None → AreSeenSoFar text a (i + 1) (start + Next.end) bs
  skipped none = record {
    counted = next_counted a.rows.items i e lt start so_far.counted;
    names = λ f are.
        let mid = divided text a h i e lt start so_far.counted f are in
        names_there text a h i e lt start so_far.counted f are ∙ ap (λ o. name_onto o (names_behind mid.0.commands)) none ∙ so_far.names mid.0 mid.1;
    entries = λ f are small.
        let mid = divided text a h i e lt start so_far.counted f are in
        let g = reverse (entries_seen (types_in a.types) bs) in
        let known = context_is mid.0 bs (types_in a.types) a.dialect (so_far.entries mid.0 mid.1 small) in
        entries_are f bs (types_in a.types) a.dialect
        (subst (λ o. HasContext f (entry_onto o (answer (types_in a.types) (bound_in (row_of Next).command)) g) a.dialect) none
        (context_there text a h i e lt start so_far.counted f are small g known));
    stand = so_far.stand;
  }

  pub without_command : option_map command_row_of Next.command ≡ None → AreSeenSoFar text a (i + 1) (start + Next.end) bs
  without_command without = skipped (none_without a.bound First.own (subst (AreItsNumbers a.bound First.own) without First.is.numbers))

  module _ (k : RustCommandRow) (command : option_map command_row_of Next.command ≡ Some (command_row_of k)) where
    pub without_name : ((n : ℕ) → k.binds ≡ Some (number.Name n) → ⊥) → AreSeenSoFar text a (i + 1) (start + Next.end) bs
    without_name without =
        skipped (none_told a.bound First.own (command_row_of k) (subst (AreItsNumbers a.bound First.own) command First.is.numbers) without)

    -- it binds one, the first word of its piece
    pub with_name : (n : ℕ) → k.binds ≡ Some (number.Name n) → (b : SeenBinder) → (piece : List ℕ) → piece ≡ slice_range text start (start + Next.end)
        → IfSome b.name (λ w. (t : Lexeme) × (others : List Lexeme) × AreTokensOf piece (t ∷ others) × (w.now ≡ text_of t))
        → IfNone b.name (AreTokensOf piece [])
        → b.entry ≡ bound_by (found_of k.found)
        → AreSeenSoFar text a (i + 1) (start + Next.end) (bs ++ b ∷ [])
    with_name n binds b piece letters some none entry = record {
      counted = next_counted a.rows.items i e lt start so_far.counted;
      names = λ f are.
          let mid = divided text a h i e lt start so_far.counted f are in
          names_there text a h i e lt start so_far.counted f are ∙ ap (λ o. name_onto o (names_behind mid.0.commands)) told.1
          ∙ (λ j. sym seen j ∷ so_far.names mid.0 mid.1 j) ∙ sym (pushed_reversed name_seen bs b);
      entries = λ f are small.
          let mid = divided text a h i e lt start so_far.counted f are in
          let g = reverse (entries_seen (types_in a.types) bs) in
          let known = context_is mid.0 bs (types_in a.types) a.dialect (so_far.entries mid.0 mid.1 small) in
          entries_are f (bs ++ b ∷ []) (types_in a.types) a.dialect
          (subst (λ c. HasContext f c a.dialect) (ap (λ o. answer (types_in a.types) o ∷ g) number_is ∙ sym (pushed_reversed (λ s. answer (types_in a.types) s.entry) bs b))
          (subst (λ o. HasContext f (entry_onto o (answer (types_in a.types) (bound_in (row_of Next).command)) g) a.dialect) told.1
          (context_there text a h i e lt start so_far.counted f are small g known)));
      stand = All-push (λ s. StandsIfAny (types_in a.types) s.entry) bs b so_far.stand (subst (StandsIfAny (types_in a.types)) (sym entry) stands);
    }
      where
        told : (x : Name) × (name_of_own First.own ≡ Some x)
        told = name_told a.bound First.own (command_row_of k) n (subst (AreItsNumbers a.bound First.own) command First.is.numbers) binds

        seen : name_seen b ≡ Some told.0
        seen =
            word_is (λ w. w.now) piece told.0 b.name
            (own_named piece told.0 First.is.tokens First.own
            (subst (λ p. AreTokensIn p First.is.tokens) (sym (letters ∙ piece_is text a h i e lt start so_far.counted)) First.is.are) First.is.is_own told.1)
            some none

        number_is : bound_in (row_of Next).command ≡ b.entry
        number_is = ap bound_in command ∙ sym entry

        stands : StandsIfAny (types_in a.types) (bound_by (found_of k.found))
        stands =
            let sight = (split text a h i e lt start so_far.counted).0 in
            kept_stands sight First.own (command_row_of k) (types_in a.types) a.dialect
            (subst (λ o. IsKeptOf sight.names sight.types First.own (types_in a.types) o a.dialect) command First.is.kept)

-- ---- the row that is read

module _ (text : List ℕ) (a : Analysis) (h : IsAnalysisOf text a) (i : ℕ) (lt : i < length a.rows.items) (start : ℕ) (bs : List SeenBinder)
    (so_far : AreSeenSoFar text a i start bs) (r e : RustRow) (is : r ≡ get_or a.rows.items i e) where
  -- its piece stands in the text, between characters

  pub row_inside : start + r.end ≤ length text
  row_inside = subst (λ (q : RustRow). start + q.end ≤ length text) (sym is) (ends_inside text a h i e lt start so_far.counted)

  pub row_starts : IsCharBoundary text start
  row_starts = starts_between text a h i e lt start so_far.counted

  pub row_ends : IsCharBoundary text (start + r.end)
  row_ends = subst (λ (q : RustRow). IsCharBoundary text (start + q.end)) (sym is) (stops_between text a h i e lt start so_far.counted)

  -- the binders so far and its own, if its command binds a name

  no_command_seen : r.command ≡ None → AreSeenSoFar text a (i + 1) (start + r.end) bs
  no_command_seen without =
      subst (λ (q : RustRow). AreSeenSoFar text a (i + 1) (start + q.end) bs) (sym is)
      (without_command text a h i e lt start bs so_far (ap (λ (q : RustRow). option_map command_row_of q.command) (sym is) ∙ ap (option_map command_row_of) without))

  module _ (k : RustCommandRow) (command : r.command ≡ Some k) where
    kept : option_map command_row_of (get_or a.rows.items i e).command ≡ Some (command_row_of k)
    kept = ap (λ (q : RustRow). option_map command_row_of q.command) (sym is) ∙ ap (option_map command_row_of) command

    no_name_seen : ((n : ℕ) → k.binds ≡ Some (number.Name n) → ⊥) → AreSeenSoFar text a (i + 1) (start + r.end) bs
    no_name_seen without =
        subst (λ (q : RustRow). AreSeenSoFar text a (i + 1) (start + q.end) bs) (sym is) (without_name text a h i e lt start bs so_far k kept without)

    pub name_seen_there : (n : ℕ) → k.binds ≡ Some (number.Name n) → (b : SeenBinder) → (piece : List ℕ) → piece ≡ slice_range text start (start + r.end)
        → IfSome b.name (λ w. (t : Lexeme) × (others : List Lexeme) × AreTokensOf piece (t ∷ others) × (w.now ≡ text_of t))
        → IfNone b.name (AreTokensOf piece [])
        → b.entry ≡ bound_by (found_of k.found)
        → AreSeenSoFar text a (i + 1) (start + r.end) (bs ++ b ∷ [])
    name_seen_there n binds b piece letters some none entry =
        subst (λ (q : RustRow). AreSeenSoFar text a (i + 1) (start + q.end) (bs ++ b ∷ [])) (sym is)
        (with_name text a h i e lt start bs so_far k kept n binds b piece (letters ∙ ap (λ (q : RustRow). slice_range text start (start + q.end)) is) some none entry)

  -- the piece binds no name
  pub without_seen : ((k : RustCommandRow) (n : ℕ) → r.command ≡ Some k → k.binds ≡ Some (number.Name n) → ⊥) → AreSeenSoFar text a (i + 1) (start + r.end) bs
  without_seen without = by r.command refl
    where
      by : (o : Option RustCommandRow) → r.command ≡ o → AreSeenSoFar text a (i + 1) (start + r.end) bs
      by None command = no_command_seen command
      by (Some k) command = no_name_seen k command (λ n binds. without k n command binds)
