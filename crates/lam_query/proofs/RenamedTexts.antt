-- A bound name and its references with a new name: they are tokens of one kind, so the edited text has the same tokens, pieces and commands but for that name.
use Rattle.std.proofs.Common.{◌≡◌, ℕ, ◌==◌, List, [], ◌∷◌, map, Bool, true, false, Option, Some, None, inl, inr, refl, sym, ap, subst, ◌∙◌}
use Rattle.std.specs.Prelude.{if◌then◌else◌}
use Rattle.std.specs.Option.{option_map}
use Rattle.std.specs.Str.{IsUtf8}
use Rattle.std.specs.List.{AllByRecursion, Contains, cons_option}
use Rattle.std.proofs.lemmas.Bool.{eqb-true}
use Rattle.std.proofs.lemmas.List.{get_or_default}
use Rattle.std.proofs.lemmas.List.Elements.{recursion_from_All}
use Rattle.lam_token.specs.declared.kind.Kind.{Kind}
use Rattle.lam_token.specs.declared.kind.Kind.TheVariants as kind
use Rattle.lam_token.specs.declared.span.Span.{Span}
use Rattle.lam_token.specs.Edits.{is_span, is_name_kind, edited, moved, respelled, renaming, retold, IsNameKind, IsOne, AreSpansOf}
use Rattle.lam_token.specs.Lexeme.{Lexeme, kind_of, span_of, start_of}
use Rattle.lam_token.specs.Cut.{AreTokensOf}
use Rattle.lam_token.proofs.EditedTexts.{names_change}
use Rattle.lam_syntax.specs.Trees.{CommandTree}
use Rattle.lam_syntax.specs.Respelled.{Letters, respelled_command}
use Rattle.lam_syntax.specs.Answers.{pieces_of}
use Rattle.lam_syntax.proofs.RespelledTrees.{command_is_respelled}
use Rattle.lam_syntax.proofs.RespelledPieces.{pieces_respelled, taken_respelled}
use Rattle.lam_scope.specs.Mentions as mention
use Rattle.lam_scope.specs.Mentions.{Mention, uses_at, token_of, binder_of, mentions, bound_at, uses_of, Ascend}
use Rattle.lam_scope.specs.Nesting.{AreSpelledFrom}
use Rattle.lam_scope.specs.Forms.{forms}
use Rattle.lam_scope.specs.Tables.{table, binder_numbered, binder_at, use_tokens}
use Rattle.lam_scope.specs.Renames.{kind_of_binder, renamed}
use Rattle.lam_scope.proofs.BindersBefore.{AscendFrom, references_ascend}
use Rattle.lam_scope.proofs.BoundMentions.{bound_told, kinds_told, binder_holds}
use Rattle.lam_scope.proofs.PlacelessForms.{forms_elsewhere}
use Rattle.lam_query.specs.Commands.{AreCommandsOf}
use Rattle.lam_query.specs.Touched.{touched}
use Rattle.lam_query.specs.Renames.{AreAllCommandsOf, IsBound, spans_bound, KeepsForm, retold_command, IsRenamedText, IsOtherText}
use Rattle.lam_query.proofs.Innermost.{text_stands, text_spelled}
use Rattle.lam_query.proofs.NameTokens.{IfName, InNames, names_in}
use Rattle.lam_query.proofs.Defining.{text_ascends}
use Rattle.lam_query.proofs.ParsedPieces.{all_are_commands}
use Rattle.lam_query.proofs.RenameLaws.{is_name, spans_told, form_told}
use Rattle.lam_query.proofs.SharedDefinitions.{each, both_of, FoundFrom, found_each, found_touched, touched_holds, one_token}

-- ---- pieces that are spelled otherwise

respelled_pieces : (place : ℕ → ℕ) (letters : Letters) (ps : List (List Lexeme)) (cs : List CommandTree) → AreAllCommandsOf ps cs
    → AreAllCommandsOf (map (map (respelled place letters)) ps) (map (respelled_command place letters) cs)
respelled_pieces place letters [] cs all = ap (map (respelled_command place letters)) all
respelled_pieces place letters (p ∷ ps) cs all =
    let is = all.3 in (
      respelled_command place letters all.0,
      map (respelled_command place letters) all.1,
      ap (map (respelled_command place letters)) all.2,
      record { taken = (taken_respelled place letters p).1 is.taken; spelled = command_is_respelled place letters p all.0 is.spelled },
      respelled_pieces place letters ps all.1 all.4,
    )

-- ---- the token of a mention

-- a token of this kind and place is one of these, and is touched at its first byte
abbrev IsTokenAt : List Lexeme → Kind → Span → Type 0
IsTokenAt ts k s = (t : Lexeme) × Contains ts t × (kind_of t ≡ k) × (span_of t ≡ s) × (touched s.start ts ≡ Some t)

names_stand : (text : List ℕ) (ts : List Lexeme) → AreTokensOf text ts → InNames (IsTokenAt ts) ts
names_stand text ts are =
    let stand = text_stands text ts are in
    let found = found_each 0 stand.0 ts stand.1 in
    let own = recursion_from_All (Contains ts) ts (λ n d lt. (n, lt, get_or_default ts n _ d lt)) in
    each (λ t. Contains ts t × FoundFrom 0 ts t) (IfName (IsTokenAt ts)) ts (λ t h name. (t, h.0, refl, refl, found_touched ts t (h.1.1 name))) (both_of (Contains ts) (FoundFrom 0 ts) ts own found)

-- what holds of each mention holds of the one that is bound at a byte
bound_holds : (P : Mention → Type 0) (o : ℕ) (b : Span) (ms : List Mention) → AllByRecursion P ms → bound_at o ms ≡ Some b → (m : Mention) × P m × ((token_of m).start ≡ o) × (binder_of m ≡ Some b)
bound_holds P o b [] h is = absurd cc
bound_holds P o b (m ∷ ms) h is = by (λ behind. bound_holds P o b ms h.1 behind) ((token_of m).start == o) refl is
  where
    by : (bound_at o ms ≡ Some b → (m : Mention) × P m × ((token_of m).start ≡ o) × (binder_of m ≡ Some b)) → (here : Bool) → ((token_of m).start == o) ≡ here → (if here then binder_of m else bound_at o ms) ≡ Some b
        → (n : Mention) × P n × ((token_of n).start ≡ o) × (binder_of n ≡ Some b)
    by rest true e first = (m, h.0, eqb-true (token_of m).start o e, first)
    by rest false e behind = rest behind

-- ---- the spans of a binder and of its uses are those of tokens of one kind

-- a mention that is bound there is of that kind, and has its token
abbrev IsOf : List Lexeme → Kind → Span → Mention → Type 0
IsOf ts k b m = (binder_of m ≡ Some b → mention.kind_of m ≡ k) × IsTokenAt ts (mention.kind_of m) (token_of m)

abbrev IsSpanOf : List Lexeme → Kind → Span → Type 0
IsSpanOf ts k s = (t : Lexeme) × Contains ts t × (kind_of t ≡ k) × (span_of t ≡ s)

span_of_kind : (ts : List Lexeme) (j k : Kind) (s : Span) → j ≡ k → IsTokenAt ts j s → IsSpanOf ts k s
span_of_kind ts j k s same h = (h.0, h.1, h.2 ∙ same, h.3)

use_of_kind : (ts : List Lexeme) (k : Kind) (b c s : Span) (us : List Span) (is : Bool) → is_span b c ≡ is → (c ≡ b → IsSpanOf ts k s) → AllByRecursion (IsSpanOf ts k) us
    → AllByRecursion (IsSpanOf ts k) (cons_option (if is then Some s else None) us)
use_of_kind ts k b c s us true is own h = (own (sym (one_token b c is)), h)
use_of_kind ts k b c s us false is own h = h

uses_of_kind : (ts : List Lexeme) (k : Kind) (b : Span) (ms : List Mention) → AllByRecursion (IsOf ts k b) ms → AllByRecursion (IsSpanOf ts k) (uses_of b ms)
uses_of_kind ts k b [] h = tt
uses_of_kind ts k b (uses_at j s (Some c) ∷ ms) h =
    use_of_kind ts k b c s (uses_of b ms) (is_span b c) refl (λ e. span_of_kind ts j k s (h.0.0 (ap Some e)) h.0.1) (uses_of_kind ts k b ms h.1)
uses_of_kind ts k b (m ∷ ms) h = uses_of_kind ts k b ms h.1

all_spans : (ts : List Lexeme) (k : Kind) (low : ℕ) (ss : List Span) → AscendFrom low ss → AllByRecursion (IsSpanOf ts k) ss → AreSpansOf k ts low ss
all_spans ts k low [] ascend h = tt
all_spans ts k low (s ∷ ss) ascend h = (ascend.0, h.0, all_spans ts k s.end ss ascend.2 h.1)

-- ---- a bound name

bound_row : (cs : List CommandTree) (start : ℕ) (b : Span) (found : Option ℕ) → option_map (λ n. (binder_numbered (table cs) n).token) found ≡ Some b → (n : ℕ) × (found ≡ Some n) × ((binder_numbered (table cs) n).token ≡ b)
bound_row cs start b None is = absurd cc
bound_row cs start b (Some n) is = (n, refl, cc)

pub name_bound_as : (k : Kind) → is_name_kind k ≡ true → IsNameKind k
name_bound_as kind.Name is = inl refl
name_bound_as kind.TypeName is = inr refl
name_bound_as k is = absurd cc

module _ (text : List ℕ) (offset : ℕ) (bound : IsBound text offset) where
  abbrev tokens : List Lexeme
  tokens = bound.parsed.tokens

  abbrev commands : List CommandTree
  commands = bound.parsed.commands

  abbrev start : ℕ
  start = start_of bound.name

  abbrev spans : List Span
  spans = spans_bound bound

  pub bound_commands : AreCommandsOf (pieces_of tokens) commands
  bound_commands = all_are_commands (pieces_of tokens) commands bound.parsed.are_commands

  ascends : (high : ℕ) × Ascend 0 (mentions commands) high
  ascends = text_ascends text tokens commands bound.parsed.are_tokens bound_commands

  spelled : AreSpelledFrom 0 commands
  spelled = text_spelled text commands (record { tokens = tokens; are_tokens = bound.parsed.are_tokens; are_commands = bound_commands })

  -- the row of its binder
  pub row_of_bound : (n : ℕ) × (binder_at (table commands) start ≡ Some n) × ((binder_numbered (table commands) n).token ≡ bound.binder)
  row_of_bound = bound_row commands start bound.binder (binder_at (table commands) start) (bound_told commands ascends.0 start ascends.1 ∙ bound.is_bound)

  module _ (n : ℕ) (is : binder_at (table commands) start ≡ Some n) where
    binder_is : (binder_numbered (table commands) n).token ≡ bound.binder
    binder_is = let both : Some (binder_numbered (table commands) n).token ≡ Some bound.binder = ap (option_map (λ m. (binder_numbered (table commands) m).token)) (sym is) ∙ bound_told commands ascends.0 start ascends.1 ∙ bound.is_bound in cc

    pub spans_are_told : spans ≡ (binder_numbered (table commands) n).token ∷ use_tokens n (table commands).uses
    spans_are_told = spans_told commands start n bound.binder spelled is binder_is

    all_of_kind : AllByRecursion (IsOf tokens (kind_of_binder commands n) bound.binder) (mentions commands)
    all_of_kind =
        both_of (λ m. binder_of m ≡ Some bound.binder → mention.kind_of m ≡ kind_of_binder commands n) (λ m. IsTokenAt tokens (mention.kind_of m) (token_of m)) (mentions commands)
        (subst (λ (b : Span). AllByRecursion (λ m. binder_of m ≡ Some b → mention.kind_of m ≡ kind_of_binder commands n) (mentions commands)) binder_is (kinds_told commands ascends.0 start n ascends.1 is))
        (names_in (IsTokenAt tokens) tokens commands bound_commands (names_stand text tokens bound.parsed.are_tokens))

    -- the name is of the kind that its binder binds
    pub kind_told : kind_of bound.name ≡ kind_of_binder commands n
    kind_told =
        let held = touched_holds (IfName (IsTokenAt tokens)) offset tokens bound.name (names_stand text tokens bound.parsed.are_tokens) bound.is_touched in
        let own = held.0 held.1 in
        let there = bound_holds (IsOf tokens (kind_of_binder commands n) bound.binder) start bound.binder (mentions commands) all_of_kind bound.is_bound in
        let other = there.1.1 in
        let one : Some own.0 ≡ Some other.0 = sym own.4 ∙ ap (λ o. touched o tokens) (sym there.2) ∙ other.4 in
        let same : own.0 ≡ other.0 = cc in
        sym own.2 ∙ ap kind_of same ∙ other.2 ∙ there.1.0 there.3

    pub spans_stand : AreSpansOf (kind_of bound.name) tokens 0 spans
    spans_stand =
        let k = kind_of_binder commands n in
        let first = binder_holds (IsOf tokens k bound.binder) commands ascends.0 start bound.binder ascends.1 bound.is_bound all_of_kind in
        subst (λ j. AreSpansOf j tokens 0 spans) (sym kind_told)
        (all_spans tokens k 0 spans (references_ascend commands ascends.0 start bound.binder ascends.1 bound.is_bound)
        (span_of_kind tokens first.0 k bound.binder (first.1.0 refl) first.1.1, uses_of_kind tokens k bound.binder (mentions commands) all_of_kind))

    -- with the new name at the spans the commands have the form that they have with the binder renamed
    pub form_is_told : (new : List ℕ) → forms (map (respelled_command (λ o. o) (renaming spans new)) commands) ≡ forms (renamed n new commands)
    form_is_told new = form_told commands start n bound.binder new spelled is binder_is

    -- what the edited text is read as
    edited_read : (new : List ℕ) → IsUtf8 text → IsUtf8 new → IsOne (kind_of bound.name) new
        → AreTokensOf (edited text spans new) (map (retold spans new) tokens) × AreAllCommandsOf (pieces_of (map (retold spans new) tokens)) (map (retold_command spans new) commands)
    edited_read new is_text is_new one =
        let change = names_change (kind_of bound.name) text new tokens spans (
        record {
          of_names = name_bound_as (kind_of bound.name) (is_name text offset bound);
          is_text = is_text;
          are_tokens = bound.parsed.are_tokens;
          are_spans = spans_stand;
          is_new = is_new;
          is_one = one;
        })
        in (
          change.0,
          subst (λ ps. AreAllCommandsOf ps (map (retold_command spans new) commands)) (sym (pieces_respelled (moved spans new) (renaming spans new) tokens))
              (respelled_pieces (moved spans new) (renaming spans new) (pieces_of tokens) commands bound.parsed.are_commands),
        )

    pub text_renamed : (new : List ℕ) → IsUtf8 text → IsUtf8 new → IsOne (kind_of bound.name) new → KeepsForm spans new commands → IsRenamedText text spans new
    text_renamed new is_text is_new one keeps =
        let after = edited_read new is_text is_new one in
        record { before = bound.parsed; tokens = after.0; commands = after.1; same_form = forms_elsewhere commands (moved spans new) (renaming spans new) ∙ keeps }

    pub text_changed : (new : List ℕ) → IsUtf8 text → IsUtf8 new → IsOne (kind_of bound.name) new → (KeepsForm spans new commands → ⊥) → IsOtherText text spans new
    text_changed new is_text is_new one changes =
        let after = edited_read new is_text is_new one in
        record {
          commands = commands;
          before = record { tokens = tokens; are_tokens = bound.parsed.are_tokens; are_commands = bound_commands };
          others = map (retold_command spans new) commands;
          after = record { tokens = map (retold spans new) tokens; are_tokens = after.0; are_commands = all_are_commands (pieces_of (map (retold spans new) tokens)) (map (retold_command spans new) commands) after.1 };
          other_form = λ same. changes (sym (forms_elsewhere commands (moved spans new) (renaming spans new)) ∙ same);
        }
