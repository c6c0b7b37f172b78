-- Completions at an offset: after a dot the labels whose projections have a type, and on a variable the names in scope.
use Rattle.std.specs.Prelude.{◌≡◌, ℕ, ◌+◌, List, [], ◌∷◌, ◌++◌, map, take, filter, get_or, Bool, true, false, not, ◌&&◌, if◌then◌else◌, Option, Some, None, All, Contains, option_map, ltb}
use Rattle.std.specs.Option.{option_and_then}
use Rattle.std.specs.List.{find, list_any, last_or}
use Rattle.std.specs.List.Sorted.{IsStrictlySortedBy}
use Rattle.std.specs.Cmp.Lexicographic.{slice_cmp}
use Rattle.std.specs.Ordering.{nat_cmp}
use Rattle.lam_token.specs.declared.kind.Kind.{Kind}
use Rattle.lam_token.specs.declared.kind.Kind.TheVariants as kind
use Rattle.lam_token.specs.declared.span.Span.{Span}
use Rattle.lam_token.specs.Lexeme.{Lexeme, lexeme, kind_of, start_of, end_of}
use Rattle.lam_token.specs.Cut.{AreTokensOf}
use Rattle.lam_rules.specs.Types.{Label, Typ}
use Rattle.lam_rules.specs.Texts.{Text, text}
use Rattle.lam_rules.specs.Typing.{Context}
use Rattle.lam_rules.specs.declared.rules.Dialect.{Dialect}
use Rattle.lam_syntax.specs.Trees.{CommandTree}
use Rattle.lam_syntax.specs.Answers.{pieces_of}
use Rattle.lam_scope.specs.Labels.{place_in}
use Rattle.lam_scope.specs.Names.{Name, index_of}
use Rattle.lam_scope.specs.Nameless.{first_too_large}
use Rattle.lam_scope.specs.Places.{Place}
use Rattle.lam_scope.specs.PlacedTerms.{document_terms, term_of, tree_in, variable_at, projection_at}
use Rattle.lam_typing.specs.Analysis.{IsFirstTooLarge}
use Rattle.lam_typing.specs.LeastTypes.{IsLeastAt, AreLeastEntries}
use Rattle.lam_query.specs.Commands.{AreCommandsOf}
use Rattle.lam_query.specs.Sizes.{places_in, IsSizeFault, IsSmall}

-- The position of the cursor among the tokens.

-- whether tokens of this kind are words: names, type names and keywords
abbrev pub is_word_kind : Kind → Bool
is_word_kind kind.Numeral = false
is_word_kind kind.Semicolon = false
is_word_kind kind.Equals = false
is_word_kind kind.Colon = false
is_word_kind kind.Dot = false
is_word_kind kind.Comma = false
is_word_kind kind.OpenParen = false
is_word_kind kind.CloseParen = false
is_word_kind kind.OpenBrace = false
is_word_kind kind.CloseBrace = false
is_word_kind kind.Arrow = false
is_word_kind kind.Underscore = false
is_word_kind kind.BadCharacter = false
is_word_kind kind.BadComment = false
is_word_kind k = true

-- whether offset o is in a token, or just after it
abbrev pub reaches : ℕ → Lexeme → Bool
reaches o t = not (ltb o (start_of t)) && not (ltb (end_of t) o)

-- whether a token is a word that the cursor at offset o touches: it is inside, or at its start or end
abbrev pub is_touched : ℕ → Lexeme → Bool
is_touched o t = is_word_kind (kind_of t) && reaches o t

-- whether another token has the cursor strictly inside
abbrev pub is_around : ℕ → Lexeme → Bool
is_around o t = not (is_touched o t) && (ltb (start_of t) o && ltb o (end_of t))

-- whether another token ends before the cursor, or at it
abbrev pub is_in_front : ℕ → Lexeme → Bool
is_in_front o t = not (is_touched o t) && not (ltb o (end_of t))

-- whether another token starts after the cursor, or at it
abbrev pub is_behind : ℕ → Lexeme → Bool
is_behind o t = not (is_touched o t) && not (ltb (start_of t) o)

-- the word that the cursor touches
abbrev pub touched_word : ℕ → List Lexeme → Option Lexeme
touched_word o tokens = find (is_touched o) tokens

-- the token, if it is a dot
abbrev pub if_dot : Lexeme → Option Lexeme
if_dot (lexeme kind.Dot x s) = Some (lexeme kind.Dot x s)
if_dot t = None

-- the last token before the cursor and before the word that it touches, if that token is a dot; none where the cursor is strictly inside another token
abbrev pub dot_before : ℕ → List Lexeme → Option Lexeme
dot_before o tokens = if list_any (is_around o) tokens then None else option_and_then if_dot (last_or None (filter (is_in_front o) tokens))

-- Labels after a dot.

-- The tokens with a label after the dot, in place of the touched word. Its span is the dot's byte, whatever its letters, so no other token moves; the span is never
-- reported.
abbrev pub with_label : ℕ → (dot : Lexeme) → Label → List Lexeme → List Lexeme
with_label o dot l tokens = filter (is_in_front o) tokens ++ lexeme kind.Name l (record { start = start_of dot; end = start_of dot + 1 }) ∷ filter (is_behind o) tokens

-- With this label after the dot, these are the commands, and the label is that of a projection, the term with this number. Other pieces need not be commands. Whether
-- this holds, and what precedes the projection, is the same for every label.
pub record IsProjected (tokens : List Lexeme) (o : ℕ) (l : Label) : Type 0 where
  pub dot : Lexeme
  pub is_before : dot_before o tokens ≡ Some dot
  pub commands : List CommandTree
  pub are_commands : AreCommandsOf (pieces_of (with_label o dot l tokens)) commands
  pub number : ℕ
  pub there : projection_at (start_of dot) commands ≡ Some number

-- no written type anywhere in these commands is over the size limit, and neither is the least type of any term before this one
pub record IsSmallUpTo (commands : List CommandTree) (number : ℕ) (d : Dialect) : Type 0 where
  pub written : first_too_large [] commands ≡ None
  pub terms : (k : ℕ) → IsFirstTooLarge (take number (places_in commands)) k d → ⊥

-- the projection with this label has this least type
pub record IsTypable (tokens : List Lexeme) (o : ℕ) (l : Label) (t : Typ) (d : Dialect) : Type 0 where
  pub projected : IsProjected tokens o l
  pub least : IsLeastAt (place_in projected.commands projected.number).scope (place_in projected.commands projected.number).here (Some t) d

-- a completion item: a label or a name, a type as text or none, and whether it is a label after a dot
pub record Item : Type 0 where
  pub label : List ℕ
  pub detail : Option Text
  pub is_field : Bool

-- the items are strictly ascending by the bytes of their labels, so that none is listed twice
abbrev pub AreAscending : List Item → Type 0
AreAscending items = IsStrictlySortedBy (slice_cmp nat_cmp) (map (λ i. i.label) items)

-- exactly the labels whose projections have a type, each with its least type as text
pub record AreLabels (tokens : List Lexeme) (o : ℕ) (items : List Item) (d : Dialect) : Type 0 where
  pub ascending : AreAscending items
  pub each : All (λ i. (t : Typ) × IsTypable tokens o i.label t d × (i ≡ record { label = i.label; detail = Some (text t); is_field = true })) items
  pub every : (l : Label) (t : Typ) → IsTypable tokens o l t d → Contains (map (λ i. i.label) items) l

-- Names in scope at a variable.

-- the names of the binders in scope at a term, innermost first; an underscore has none
abbrev pub names_in_sight : List CommandTree → ℕ → List (Option Name)
names_in_sight commands n = (term_of (tree_in (document_terms commands) n)).names

-- the least context entry of the binder with this de Bruijn index, as seen from the place
abbrev pub IsEntryAt : Place → (index : ℕ) → Option Typ → Dialect → Type 0
IsEntryAt place k entry d = (g : Context) × AreLeastEntries place.scope g d × (entry ≡ get_or g k None)

-- the detail of the binder with this de Bruijn index: its least entry as text; nothing if there is none, or a type of the commands is over the size limit
pub data IsDetail : List CommandTree → (number index : ℕ) → Option Text → Dialect → Type 0 where
  of_entry : {commands : List CommandTree} {n k : ℕ} {d : Dialect} (entry : Option Typ)
      → IsSmall commands d → IsEntryAt (place_in commands n) k entry d → IsDetail commands n k (option_map text entry) d
  untold : {commands : List CommandTree} {n k : ℕ} {d : Dialect} (s : Span) → IsSizeFault commands s d → IsDetail commands n k None d

-- an item is a name in scope at a term, with the detail of its innermost binder
pub record IsVisible (commands : List CommandTree) (number : ℕ) (i : Item) (d : Dialect) : Type 0 where
  pub index : ℕ
  pub indexed : index_of i.label (names_in_sight commands number) ≡ Some index
  pub detail : IsDetail commands number index i.detail d
  pub no_field : i.is_field ≡ false

-- exactly the names in scope at a term
pub record AreNames (commands : List CommandTree) (number : ℕ) (items : List Item) (d : Dialect) : Type 0 where
  pub ascending : AreAscending items
  pub each : All (λ i. IsVisible commands number i d) items
  pub every : (x : Name) (k : ℕ) → index_of x (names_in_sight commands number) ≡ Some k → Contains (map (λ i. i.label) items) x

-- the touched word is a variable of the commands, the term with this number
pub record IsOnVariable (commands : List CommandTree) (tokens : List Lexeme) (o : ℕ) (number : ℕ) : Type 0 where
  pub word : Lexeme
  pub touches : touched_word o tokens ≡ Some word
  pub there : variable_at (start_of word) commands ≡ Some number

-- The completion list.

-- The completions at an offset. Where a label can follow a dot before the cursor: the labels, or none if a type of the commands is over the size limit or, with the label
-- there, a written type or the type of a term before the projection is. Otherwise the names in scope if the cursor touches a variable, else nothing.
pub data AreItems : List CommandTree → List Lexeme → (o : ℕ) → List Item → Dialect → Type 0 where
  labels : {commands : List CommandTree} {tokens : List Lexeme} {o : ℕ} {items : List Item} {d : Dialect} (l : Label) (h : IsProjected tokens o l)
      → IsSmall commands d → IsSmallUpTo h.commands h.number d → AreLabels tokens o items d → AreItems commands tokens o items d
  too_large : {commands : List CommandTree} {tokens : List Lexeme} {o : ℕ} {d : Dialect} (l : Label) (h : IsProjected tokens o l)
      → (IsSmall commands d → IsSmallUpTo h.commands h.number d → ⊥) → AreItems commands tokens o [] d
  names : {commands : List CommandTree} {tokens : List Lexeme} {o : ℕ} {items : List Item} {d : Dialect} (number : ℕ)
      → ((l : Label) → IsProjected tokens o l → ⊥) → IsOnVariable commands tokens o number → AreNames commands number items d → AreItems commands tokens o items d
  nothing : {commands : List CommandTree} {tokens : List Lexeme} {o : ℕ} {d : Dialect}
      → ((l : Label) → IsProjected tokens o l → ⊥) → ((number : ℕ) → IsOnVariable commands tokens o number → ⊥) → AreItems commands tokens o [] d

-- the completions at an offset of a text
pub record AreCompletions (text : List ℕ) (offset : ℕ) (items : List Item) (d : Dialect) : Type 0 where
  pub tokens : List Lexeme
  pub are_tokens : AreTokensOf text tokens
  pub commands : List CommandTree
  pub are_commands : AreCommandsOf (pieces_of tokens) commands
  pub listed : AreItems commands tokens offset items d
