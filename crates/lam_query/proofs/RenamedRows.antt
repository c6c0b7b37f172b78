-- What the rows of a text's table say of a rename at an offset is what its tokens and commands say.
use Rattle.std.proofs.Common.{◌≡◌, true, ℕ, List, [], ◌∷◌, Option, Some, None, map, length, arith, inl, inr, refl, sym, ap, subst, ◌∙◌}
use Rattle.std.specs.Str.{IsUtf8}
use Rattle.std.specs.List.{All, AllByRecursion}
use Rattle.std.proofs.lemmas.List.Elements.{All-from_recursion}
use Rattle.std.specs.Option.{option_map, option_and_then}
use Rattle.lam_token.specs.declared.kind.Kind.{Kind}
use Rattle.lam_token.specs.declared.kind.Kind.TheVariants as kind
use Rattle.lam_token.specs.Cut as token
use Rattle.lam_token.specs.declared.span.Span.{Span}
use Rattle.lam_token.specs.Edits.{IsOne, AreSpansOf}
use Rattle.lam_token.specs.Lexeme.{Lexeme, kind_of, start_of}
use Rattle.lam_token.proofs.NamePlaces.{AreNamePlaces, name_places}
use Rattle.lam_syntax.specs.Trees.{CommandTree}
use Rattle.lam_scope.specs.Tables.{table, binder_numbered, binder_at, use_tokens}
use Rattle.lam_scope.specs.Mentions.{mentions, bound_at, other_kind}
use Rattle.lam_scope.specs.Renames.{HasName, KeepsBinding, answer_for, kind_of_binder, AreRenamed, IsRefused}
use Rattle.lam_scope.specs.Views.{AreScopesOf, table_of}
use Rattle.lam_scope.specs.declared.scopes.Scopes.{Scopes}
use Rattle.lam_scope.specs.declared.rename_fault.RenameFault.{RenameFault as BinderFault}
use Rattle.lam_scope.proofs.BoundMentions.{bound_told, own_answer}
use Rattle.lam_query.specs.declared.answers.Fault.{Fault as RustFault}
use Rattle.lam_query.specs.declared.reading.Parsed.{Parsed}
use Rattle.lam_query.specs.Touched.{touched}
use Rattle.lam_query.specs.Definitions.{AreReferencesIn, references_to}
use Rattle.lam_query.specs.inner.Reading.{IsRead}
use Rattle.lam_query.specs.Views.{fault_of}
use Rattle.lam_query.specs.Renames.{IsAnyName, IsUnparsed, IsParsed, IsBound, IsUnbound, spans_bound, KeepsForm, IsRenamed, IsOfWrongKind, IsChanged, IsRenamedText, IsOtherText}
use Rattle.lam_query.specs.Within.{IsSpanOfText}
use Rattle.lam_query.proofs.Defining.{IsTouched, text_ascends, commands_read, bound_nowhere, bound_there}
use Rattle.lam_query.proofs.ParsedPieces.{all_commands, some_none}
use Rattle.lam_query.proofs.RenameLaws.{is_name}
use Rattle.lam_query.proofs.RenamedTexts.{name_bound_as, row_of_bound, bound_commands, spans_are_told, spans_stand, kind_told, form_is_told, text_renamed, text_changed}

-- no fault was read
abbrev pub NoFaults : Parsed → Type 0
NoFaults parsed = length parsed.faults.items ≡ 0

none_told : (fs : List RustFault) → map fault_of fs ≡ [] → length fs ≡ 0
none_told [] e = refl
none_told (f ∷ fs) e = cc

none_tell : (fs : List RustFault) → length fs ≡ 0 → map fault_of fs ≡ []
none_tell [] e = refl
none_tell (f ∷ fs) e = absurd (omega arith)

pub unparsed : (text : List ℕ) (parsed : Parsed) → IsRead text parsed → (NoFaults parsed → ⊥) → IsUnparsed text
unparsed text parsed read some = record {
  tokens = read.tokens;
  are_tokens = read.are_tokens;
  none = some_none read.tokens (commands_read parsed) (map fault_of parsed.faults.items) read.commands read.faults (λ e. some (none_told parsed.faults.items e));
}

-- each piece of a text without such a fault is a command
abbrev whole : (text : List ℕ) (parsed : Parsed) → IsRead text parsed → NoFaults parsed → IsParsed text
whole text parsed read none = record {
  tokens = read.tokens;
  are_tokens = read.are_tokens;
  commands = commands_read parsed;
  are_commands = all_commands read.tokens (commands_read parsed) (map fault_of parsed.faults.items) read.commands read.faults (none_tell parsed.faults.items none);
}

-- a text that is refused as no name
pub no_name : (new : List ℕ) → (IsOne kind.Name new → ⊥) × (IsOne kind.TypeName new → ⊥) → IsAnyName new → ⊥
no_name new neither (inl one) = neither.0 one
no_name new neither (inr one) = neither.1 one

-- ---- no name is bound there

pub untouched : (text : List ℕ) (o : ℕ) (parsed : Parsed) → IsRead text parsed → NoFaults parsed → IsTouched text o None → IsUnbound text o
untouched text o parsed read none nowhere = record { parsed = whole text parsed read none; unbound = sym (bound_nowhere (commands_read parsed) (touched o read.tokens) (nowhere read.tokens read.are_tokens)) }

pub unbound_row : (text : List ℕ) (o start : ℕ) (parsed : Parsed) (scopes : Scopes) → IsRead text parsed → NoFaults parsed → AreScopesOf scopes (commands_read parsed) → IsTouched text o (Some start)
    → None ≡ binder_at (table_of scopes) start → IsUnbound text o
unbound_row text o start parsed scopes read none of is_touched at =
    let cs = commands_read parsed in
    let ascend = text_ascends text read.tokens cs read.are_tokens read.commands in
    let free = ap (option_map (λ n. (binder_numbered (table cs) n).token)) (at ∙ ap (λ t. binder_at t start) of.same_table) ∙ bound_told cs ascend.0 start ascend.1 in
    record { parsed = whole text parsed read none; unbound = sym (free ∙ bound_there cs start (touched o read.tokens) (is_touched read.tokens read.are_tokens)) }

-- ---- a bound name

name_there : (start : ℕ) (t : Option Lexeme) → Some start ≡ option_map start_of t → (name : Lexeme) × (t ≡ Some name) × (start ≡ start_of name)
name_there start None is = absurd cc
name_there start (Some t) is = (t, refl, cc)

-- the spans of tokens begin and end between two characters, as the tokens do
spans_whole : (text : List ℕ) (ts : List Lexeme) (k : Kind) (low : ℕ) (ss : List Span) → All (token.StandsIn text) ts → AreSpansOf k ts low ss → AllByRecursion (IsSpanOfText text) ss
spans_whole text ts k low [] whole h = tt
spans_whole text ts k low (s ∷ ss) whole h =
    let t = h.1.0 in
    let at = h.1.1 in
    let stands : token.StandsIn text t = subst (token.StandsIn text) at.2 (whole at.0 t at.1) in
    (subst (λ (r : Span). IsSpanOfText text r) h.1.3 stands, spans_whole text ts k s.end ss whole h.2)

-- what is known of a text once the binder of the name at an offset is found among the rows
pub record HasRow (text : List ℕ) (o : ℕ) (parsed : Parsed) (scopes : Scopes) (n : ℕ) : Type 0 where
  pub read : IsRead text parsed
  pub none : NoFaults parsed
  pub of : AreScopesOf scopes (commands_read parsed)
  pub start : ℕ
  pub is_touched : IsTouched text o (Some start)
  pub at : Some n ≡ binder_at (table_of scopes) start

module _ (text : List ℕ) (o : ℕ) (new : List ℕ) (parsed : Parsed) (scopes : Scopes) (n : ℕ) (row : HasRow text o parsed scopes n) where
  abbrev read : IsRead text parsed
  read = row.read

  abbrev cs : List CommandTree
  cs = commands_read parsed

  touches : (name : Lexeme) × (touched o read.tokens ≡ Some name) × (row.start ≡ start_of name)
  touches = name_there row.start (touched o read.tokens) (row.is_touched read.tokens read.are_tokens)

  here : binder_at (table cs) (start_of touches.0) ≡ Some n
  here = ap (binder_at (table cs)) (sym touches.2) ∙ sym (row.at ∙ ap (λ t. binder_at t row.start) row.of.same_table)

  names : bound_at (start_of touches.0) (mentions cs) ≡ Some (binder_numbered (table cs) n).token
  names =
      let ascend = text_ascends text read.tokens cs read.are_tokens read.commands in
      sym (bound_told cs ascend.0 (start_of touches.0) ascend.1) ∙ ap (option_map (λ m. (binder_numbered (table cs) m).token)) here

  abbrev bound : IsBound text o
  bound = record { parsed = whole text parsed read row.none; name = touches.0; is_touched = touches.1; binder = (binder_numbered (table cs) n).token; is_bound = names }

  own : HasName cs n × (answer_for cs n ≡ n)
  own = own_answer cs (start_of touches.0) n here

  kind_here : kind_of touches.0 ≡ kind_of_binder cs n
  kind_here = kind_told text o bound n here

  kept_form : KeepsBinding (answer_for cs n) new cs → KeepsForm (spans_bound bound) new cs
  kept_form keeps = form_is_told text o bound n here new ∙ subst (λ m. KeepsBinding m new cs) own.1 keeps

  kept_binding : KeepsForm (spans_bound bound) new cs → KeepsBinding (answer_for cs n) new cs
  kept_binding keeps = subst (λ m. KeepsBinding m new cs) (sym own.1) (sym (form_is_told text o bound n here new) ∙ keeps)

  are_spans : (spans : List Span) → AreRenamed cs n new spans → spans ≡ spans_bound bound
  are_spans spans renamed = renamed.tokens ∙ ap (λ m. (binder_numbered (table cs) n).token ∷ use_tokens m (table cs).uses) own.1 ∙ sym (spans_are_told text o bound n here)

  -- what the scopes say, of all commands that they may be of, they say of those of the text
  pub renamed_here : (spans : List Span) → ((commands : List CommandTree) → AreScopesOf scopes commands → HasName commands n → AreRenamed commands n new spans) → AreRenamed cs n new spans
  renamed_here spans told = told cs row.of own.0

  pub refused_here : (f : BinderFault) → ((commands : List CommandTree) → AreScopesOf scopes commands → HasName commands n → IsRefused commands n new f) → IsRefused cs n new f
  refused_here f told = told cs row.of own.0

  pub row_renamed : (spans : List Span) → AreRenamed cs n new spans → IsRenamed text o new spans
  row_renamed spans renamed = record {
    bound = bound;
    kind = subst (λ k. IsOne k new) (sym kind_here) renamed.kind;
    are_all = are_spans spans renamed;
    keeps = subst (λ ss. KeepsForm ss new cs) (sym (are_spans spans renamed)) (kept_form renamed.keeps);
  }

  pub row_wrong_kind : IsOne (other_kind (kind_of_binder cs n)) new → IsOfWrongKind text o new
  row_wrong_kind other = record { bound = bound; kind = subst (λ k. IsOne (other_kind k) new) (sym kind_here) other }

  pub row_changed : IsOne (kind_of_binder cs n) new → (KeepsBinding (answer_for cs n) new cs → ⊥) → IsChanged text o new
  row_changed kind changes = record { bound = bound; kind = subst (λ k. IsOne k new) (sym kind_here) kind; changes = λ keeps. changes (kept_binding keeps) }

  pub row_whole : (spans : List Span) → AreRenamed cs n new spans → All (IsSpanOfText text) spans
  row_whole spans renamed =
      All-from_recursion (IsSpanOfText text) spans
      (subst (AllByRecursion (IsSpanOfText text)) (sym (are_spans spans renamed)) (spans_whole text read.tokens (kind_of touches.0) 0 (spans_bound bound) read.whole (spans_stand text o bound n here)))

-- ---- what a rename does to the text

-- the new name comes where names stand, one behind the other
pub renamed_places : (text : List ℕ) (o : ℕ) (new : List ℕ) (spans : List Span) → IsUtf8 text → IsRenamed text o new spans → AreNamePlaces text 0 spans
renamed_places text o new spans is_text h =
    let row = row_of_bound text o h.bound in
    let kind = kind_of h.bound.name in
    subst (AreNamePlaces text 0) (sym h.are_all)
    (name_places kind text h.bound.parsed.tokens 0 (spans_bound h.bound) is_text (name_bound_as kind (is_name text o h.bound)) h.bound.parsed.are_tokens (spans_stand text o h.bound row.0 row.1))

pub renamed_text : (text : List ℕ) (o : ℕ) (new : List ℕ) (spans : List Span) → IsUtf8 text → IsUtf8 new → IsRenamed text o new spans → IsRenamedText text spans new
renamed_text text o new spans is_text is_new h =
    let row = row_of_bound text o h.bound in
    subst (λ ss. IsRenamedText text ss new) (sym h.are_all)
    (text_renamed text o h.bound row.0 row.1 new is_text is_new h.kind (subst (λ ss. KeepsForm ss new h.bound.parsed.commands) h.are_all h.keeps))

pub other_text : (text : List ℕ) (o : ℕ) (new : List ℕ) → IsUtf8 text → IsUtf8 new → IsChanged text o new → (spans : List Span) × AreReferencesIn text o true (Some spans) × IsOtherText text spans new
other_text text o new is_text is_new h =
    let row = row_of_bound text o h.bound in
    let tokens = h.bound.parsed.tokens in
    let commands = h.bound.parsed.commands in (
      spans_bound h.bound,
      record {
        tokens = tokens;
        are_tokens = h.bound.parsed.are_tokens;
        commands = commands;
        are_commands = bound_commands text o h.bound;
        told = sym (ap (option_map (references_to commands true)) (ap (option_and_then (λ t. bound_at (start_of t) (mentions commands))) h.bound.is_touched ∙ h.bound.is_bound));
      },
      text_changed text o h.bound row.0 row.1 new is_text is_new h.kind h.changes,
    )
