-- The rows of a text's pieces, with offsets relative to the start of the text. For private functions only.
use Rattle.std.specs.Prelude.{◌≡◌, ◌⊎◌, ◌≤◌, ◌<◌, ◌+◌, ℕ, List, [], ◌∷◌, ◌++◌, length, map, take, drop, slice_range, All, Contains, Option, Some, None, if◌then◌else◌}
use Rattle.std.specs.List.Sorted.{IsPermutation}
use Rattle.lam_token.specs.declared.span.Span.{Span}
use Rattle.lam_token.specs.Cut.{AreTokensOf}
use Rattle.lam_token.specs.Lexeme.{Lexeme}
use Rattle.lam_rules.specs.Types.{Typ}
use Rattle.lam_rules.specs.Typing.{Context}
use Rattle.lam_rules.specs.declared.rules.Dialect.{Dialect}
use Rattle.lam_syntax.specs.Answers.{pieces_of}
use Rattle.lam_syntax.specs.Trees.{CommandTree}
use Rattle.lam_scope.specs.Expansions.{Abbreviation}
use Rattle.lam_scope.specs.FreeNames.{free_in_command, free_type_names_in_command}
use Rattle.lam_scope.specs.Meanings.{entry_named}
use Rattle.lam_scope.specs.Nameless.{written_in_command, faults_in, faults, first_over_limit}
use Rattle.lam_scope.specs.Names.{Name, binds}
use Rattle.lam_scope.specs.Numbered.{StandsIfAny}
use Rattle.lam_scope.specs.Tables.{table, place_row_numbered}
use Rattle.lam_typing.specs.Analysis.{IsFirstTooLarge}
use Rattle.lam_typing.specs.Answers.{answer, answers, AllStandIn}
use Rattle.lam_typing.specs.Blaming.{Blamed, renumbered}
use Rattle.lam_query.specs.declared.rows.PlacedRow.{PlacedRow}
use Rattle.lam_query.specs.Commands.{AreCommandsOf}
use Rattle.lam_query.specs.Faults.{Fault}
use Rattle.lam_query.specs.Sizes.{places_in, IsSizeFault, IsSmall}
use Rattle.lam_query.specs.SyntaxFaults.{fault_at, AreSyntaxFaults}
use Rattle.lam_query.specs.TextFaults.{written_fault, blame_fault}
use Rattle.lam_query.specs.inner.Checked.{abbreviations_behind, names_behind, context_after, AreChecked}
use Rattle.lam_query.specs.inner.Entered.{Lookup, type_named, name_bound, type_name_bound, type_bound}
use Rattle.lam_query.specs.inner.Kept.{FoundTypes, Found, written_too_large, term_too_large, typed, CommandRow, Row, bound_by, all_types, all_faults, all_syntax}
use Rattle.lam_query.specs.inner.OnePiece.{IsOwnOf, IsOffsetIn}
use Rattle.lam_query.specs.inner.Pieces.{IsPieceBetween}

-- ---- lookups of names

-- nothing is bound
abbrev pub unbound : Lookup
unbound x = None

-- a lookup with this entry for one more name, if there is one
abbrev pub with_entry : Option Name → Option Typ → Lookup → Lookup
with_entry b entry look x = if binds b x then Some entry else look x

-- both lookups give the same for these names
abbrev pub AgreeOn : List Name → Lookup → Lookup → Type 0
AgreeOn xs f g = (x : Name) → Contains xs x → f x ≡ g x

-- the entries of names after these commands, which have this context
abbrev pub entries_of : List CommandTree → Context → Lookup
entries_of done g x = entry_named x (names_behind done) g

-- what type names stand for with these abbreviations in scope
abbrev pub types_of : List Abbreviation → Lookup
types_of bs x = type_named x bs

-- for the free names and type names of a command, the same is found after these commands
pub record SeesAs (c : CommandTree) (of_names of_types : Lookup) (done : List CommandTree) (g : Context) : Type 0 where
  pub names : AgreeOn (free_in_command c) of_names (entries_of done g)
  pub types : AgreeOn (free_type_names_in_command c) of_types (types_of (abbreviations_behind done))

-- ---- one command

-- its written types, with these abbreviations in scope: the first over the size limit; or none is, and this is what its type name stands for
abbrev pub IsWrittenIn : List Abbreviation → CommandTree → List Typ → Found → Type 0
IsWrittenIn bs c ts (written_too_large s) = first_over_limit bs (written_in_command c) ≡ Some s
IsWrittenIn bs c ts (term_too_large s) = (first_over_limit bs (written_in_command c) ≡ None) × (type_name_bound c ≡ None)
IsWrittenIn bs c ts (typed t) =
    (first_over_limit bs (written_in_command c) ≡ None) × ((x : Name) → type_name_bound c ≡ Some x → answer ts t.bound ≡ type_bound bs c)

-- its first term whose type is over the size limit is the first of the document, whatever follows the command; this many terms precede the command, and this is the span
pub record IsLargeTermAt (done : List CommandTree) (before : ℕ) (c : CommandTree) (s : Span) (d : Dialect) : Type 0 where
  pub number : ℕ
  pub inside : number < length (table (c ∷ [])).places
  pub first : (rest : List CommandTree) → IsFirstTooLarge (places_in (done ++ c ∷ rest)) (before + number) d
  pub span : s ≡ (place_row_numbered (table (c ∷ [])) number).span

-- the diagnostic of a term at fault in one command
abbrev pub own_fault : CommandTree → Blamed → Fault
own_fault c b = fault_at b.code (place_row_numbered (table (c ∷ [])) b.number).span

-- with those of the commands before this one, these are the types and the terms at fault of all of them
pub record AreTypesFound (done : List CommandTree) (g : Context) (found : List (Option Typ)) (blames : List Blamed)
    (c : CommandTree) (ts : List Typ) (t : FoundTypes) (d : Dialect) : Type 0 where
  pub own : List Blamed
  pub inside : All (λ b. b.number < length (table (c ∷ [])).places) own
  pub checked : AreChecked (done ++ c ∷ []) (context_after g c (answer ts t.bound)) (found ++ answers ts t.types) (blames ++ renumbered (length found) own) d
  pub faults : t.faults ≡ map written_fault (faults_in (abbreviations_behind done) (written_in_command c)) ++ map (own_fault c) own

-- what was found for a command after these commands
abbrev pub IsFoundIn : (done : List CommandTree) (g : Context) (found : List (Option Typ)) (blames : List Blamed)
    → CommandTree → List Typ → Found → Dialect → Type 0
IsFoundIn done g found blames c ts (written_too_large s) d = Unit {0}
IsFoundIn done g found blames c ts (term_too_large s) d = IsLargeTermAt done (length found) c s d
IsFoundIn done g found blames c ts (typed t) d = AreTypesFound done g found blames c ts t d

-- the type ids in what was found stand for types of the table
abbrev pub StandInFound : List Typ → Found → Type 0
StandInFound ts (typed t) = AllStandIn ts t.types × StandsIfAny ts t.bound
StandInFound ts f = Unit {0}

-- This was found for a command where names and type names have these meanings. It holds after all commands that give these meanings to its free names.
pub record IsFoundOf (names types : Lookup) (c : CommandTree) (ts : List Typ) (f : Found) (d : Dialect) : Type 0 where
  pub stand : StandInFound ts f
  pub written : (bs : List Abbreviation) → AgreeOn (free_type_names_in_command c) types (types_of bs) → IsWrittenIn bs c ts f
  pub found : (done : List CommandTree) (g : Context) (found : List (Option Typ)) (blames : List Blamed)
      → AreChecked done g found blames d → SeesAs c names types done g → IsFoundIn done g found blames c ts f d

-- ---- one piece

-- what precedes a byte of a text: the commands, and the meanings of names and type names after them
pub record Front : Type 0 where
  pub end : ℕ
  pub commands : List CommandTree
  pub names : Lookup
  pub types : Lookup

-- the empty front
abbrev pub nothing : Front
nothing = record { end = 0; commands = []; names = unbound; types = unbound }

-- the meanings of names after the command of a piece
abbrev pub names_with : List CommandTree → List Typ → Option CommandRow → Lookup → Lookup
names_with (c ∷ []) ts (Some r) names = with_entry (name_bound c) (answer ts (bound_by r.found)) names
names_with own ts r names = names

-- the meanings of type names after it
abbrev pub types_with : List CommandTree → List Typ → Option CommandRow → Lookup → Lookup
types_with (c ∷ []) ts (Some r) types = with_entry (type_name_bound c) (answer ts (bound_by r.found)) types
types_with own ts r types = types

-- a front extended by a piece that has these commands
abbrev pub front_with : Front → List CommandTree → List Typ → Row → Front
front_with f own ts r = record {
  end = r.end;
  commands = f.commands ++ own;
  names = names_with own ts r.command f.names;
  types = types_with own ts r.command f.types;
}

-- what is kept of the only command of a piece, or nothing if it has none
abbrev pub IsKeptOf : (names types : Lookup) → List CommandTree → List Typ → Option CommandRow → Dialect → Type 0
IsKeptOf names types [] ts None d = Unit {0}
IsKeptOf names types (c ∷ []) ts (Some r) d = IsFoundOf names types c ts r.found d
IsKeptOf names types own ts r d = ⊥

-- The row of the piece that starts where the front ends, with its commands: one, or none.
pub record IsRow (text : List ℕ) (f : Front) (own : List CommandTree) (r : Row) (ts : List Typ) (d : Dialect) : Type 0 where
  pub forward : f.end ≤ r.end
  pub inside : r.end ≤ length text
  pub tokens : List Lexeme
  pub piece : IsPieceBetween text f.end r.end tokens
  pub is_own : IsOwnOf tokens own
  pub syntax : AreSyntaxFaults tokens r.syntax
  pub kept : IsKeptOf f.names f.types own ts r.command d

-- ---- several pieces

-- the rows of the pieces between one front and another
abbrev pub AreRowsFrom : (text : List ℕ) → Front → List Row → Front → List Typ → Dialect → Type 0
AreRowsFrom text f [] last ts d = f ≡ last
AreRowsFrom text f (r ∷ rows) last ts d =
    (own : List CommandTree) × IsRow text f own r ts d × AreRowsFrom text (front_with f own ts r) rows last ts d

-- ---- the contents of rows

-- the commands have this size diagnostic, or none
abbrev pub IsSizedBy : List CommandTree → Option Span → Dialect → Type 0
IsSizedBy commands (Some s) d = IsSizeFault commands s d
IsSizedBy commands None d = IsSmall commands d

-- No type up to a front is over the size limit; this is known of its commands and of the meanings of names after them. Their diagnostics are those of the rows; the span
-- of a term does not depend on later commands.
pub record AreAllTyped (f : Front) (rows : List Row) (ts : List Typ) (d : Dialect) : Type 0 where
  pub context : Context
  pub blames : List Blamed
  pub checked : AreChecked f.commands context (answers ts (all_types rows)) blames d
  pub names : (x : Name) → f.names x ≡ entries_of f.commands context x
  pub types : (x : Name) → f.types x ≡ types_of (abbreviations_behind f.commands) x
  pub faults : (rest : List CommandTree) → IsPermutation (map written_fault (faults [] f.commands) ++ map (blame_fault (f.commands ++ rest)) blames) (all_faults rows)

-- the tokens up to a front derive its commands, and their diagnostics are those of the rows
pub record AreSpelled (text : List ℕ) (f : Front) (rows : List Row) : Type 0 where
  pub tokens : List Lexeme
  pub are_tokens : AreTokensOf (take f.end text) tokens
  pub are_commands : AreCommandsOf (pieces_of tokens) f.commands
  pub of_syntax : List Fault
  pub are_of_syntax : AreSyntaxFaults tokens of_syntax
  pub same : IsPermutation of_syntax (all_syntax rows)

-- The piece around an offset, by the index of its row; the last one covers every offset from its start on.
pub record IsRowAround (text : List ℕ) (offset : ℕ) (rows : List Row) (p : PlacedRow) (ts : List Typ) (d : Dialect) : Type 0 where
  pub before : List Row
  pub row : Row
  pub after : List Row
  pub are : rows ≡ before ++ row ∷ after
  pub counted : p.number ≡ length before
  pub front : Front
  pub rows_before : AreRowsFrom text nothing before front ts d
  pub starts : p.start ≡ front.end
  pub own : List CommandTree
  pub is_row : IsRow text front own row ts d
  pub is_there : IsOffsetIn offset (take front.end text) (slice_range text front.end row.end) (drop row.end text)
  pub in_or_last : (offset < row.end) ⊎ (after ≡ [])
