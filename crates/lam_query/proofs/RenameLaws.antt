-- Each rename has one answer.
use Rattle.std.proofs.Common.{◌≡◌, ◌⊎◌, ℕ, ◌<◌, List, [], ◌∷◌, map, Bool, true, false, Option, Some, None, Result, Ok, Err, inl, inr, ⊎_elim, refl, sym, ap, subst, ◌∙◌, arith}
use Rattle.std.specs.List.{AllByRecursion}
use Rattle.std.specs.Option.{option_map, option_and_then}
use Rattle.std.specs.Str.{chars}
use Rattle.std.proofs.lemmas.Bool.{both_ways}
use Rattle.lam_token.specs.declared.kind.Kind.{Kind}
use Rattle.lam_token.specs.declared.kind.Kind.TheVariants as kind
use Rattle.lam_token.specs.declared.segment.Segment.{Segment}
use Rattle.lam_token.specs.declared.segment.Segment.TheVariants.{Token}
use Rattle.lam_token.specs.declared.span.Span.{Span}
use Rattle.lam_token.specs.Lexeme.{Lexeme, kind_of, start_of}
use Rattle.lam_token.specs.Shape.{shape_of}
use Rattle.lam_token.specs.Edits.{is_name_kind, renaming, IsOne}
use Rattle.lam_token.proofs.Cuts.{one_list}
use Rattle.lam_token.proofs.SomeCut.{tokens_at, are_tokens_at}
use Rattle.lam_syntax.specs.Trees.{CommandTree}
use Rattle.lam_syntax.specs.Respelled.{respelled_command}
use Rattle.lam_syntax.specs.Answers.{pieces_of}
use Rattle.lam_scope.specs.Nesting.{AreSpelledFrom}
use Rattle.lam_scope.specs.Forms.{forms}
use Rattle.lam_scope.specs.Mentions.{mentions, bound_at, uses_of, other_kind}
use Rattle.lam_scope.specs.Tables.{table, binder_numbered, binder_at, use_tokens}
use Rattle.lam_scope.specs.Renames.{renamed}
use Rattle.lam_scope.specs.inner.Bearers.{all_keep}
use Rattle.lam_scope.proofs.SpelledMentions.{spelled_ascend}
use Rattle.lam_scope.proofs.BoundMentions.{bound_told, uses_told}
use Rattle.lam_scope.proofs.TokenRenames.{tokens_renamed}
use Rattle.lam_scope.proofs.KeptForms.{keeps_if_all, all_if_keeps}
use Rattle.lam_query.specs.declared.renames.RenameFault.{RenameFault}
use Rattle.lam_query.specs.declared.renames.RenameFault.TheVariants as fault
use Rattle.lam_query.specs.Commands.{AreCommandsOf}
use Rattle.lam_query.specs.Touched.{touched}
use Rattle.lam_query.specs.Definitions.{definition_in, references_to}
use Rattle.lam_query.specs.Renames.{IsAnyName, AreAllCommandsOf, IsSomeNone, IsUnparsed, IsParsed, IsBound, IsUnbound, spans_bound, KeepsForm, IsRenamed, IsChanged, IsRenameIn}
use Rattle.lam_query.proofs.Innermost.{text_spelled}
use Rattle.lam_query.proofs.PieceLaws.{some_commands}
use Rattle.lam_query.proofs.ParsedPieces.{all_are_commands, none_left, all_or_some}
use Rattle.lam_query.proofs.DefinitionLaws.{one_told}
use Rattle.lam_query.proofs.SharedDefinitions.{touched_holds}

-- ---- the new name

-- of a name's kind, or of the other one, it is a name or a type name
any_of : (k : Kind) (new : List ℕ) → is_name_kind k ≡ true → IsOne k new → IsAnyName new
any_of kind.Name new name is = inl is
any_of kind.TypeName new name is = inr is
any_of k new name is = absurd cc

other_is_name : (k : Kind) → is_name_kind (other_kind k) ≡ true
other_is_name kind.Name = refl
other_is_name k = refl

-- it is of one kind alone
kinds_apart : (k : Kind) (new : List ℕ) → IsOne k new → IsOne (other_kind k) new → ⊥
kinds_apart kind.Name new is other = cc
kinds_apart k new is other = cc

this_or_other : (k : Kind) (new : List ℕ) → is_name_kind k ≡ true → IsAnyName new → IsOne k new ⊎ IsOne (other_kind k) new
this_or_other kind.Name new name any = any
this_or_other kind.TypeName new name (inl is) = inr is
this_or_other kind.TypeName new name (inr is) = inl is
this_or_other k new name any = absurd cc

name_or_not : (new : List ℕ) (shape : Option Segment) → shape_of (chars new) ≡ shape → IsAnyName new ⊎ (IsAnyName new → ⊥)
name_or_not new (Some (Token kind.Name)) is = inl (inl is)
name_or_not new (Some (Token kind.TypeName)) is = inl (inr is)
name_or_not new shape is = inr (λ any. ⊎_elim (λ (e : IsOne kind.Name new). cc) (λ (e : IsOne kind.TypeName new). cc) any)

-- ---- the text

-- what is told of the tokens and the commands of a text is one
parsed_told : {A : Type 0} (f : List Lexeme → List CommandTree → A) (text : List ℕ) (a b : IsParsed text) → f a.tokens a.commands ≡ f b.tokens b.commands
parsed_told f text a b =
    one_told f text a.tokens b.tokens a.commands b.commands a.are_tokens (all_are_commands (pieces_of a.tokens) a.commands a.are_commands) b.are_tokens
    (all_are_commands (pieces_of b.tokens) b.commands b.are_commands)

-- each piece of a text is a command, or one is none, and never both
parsed_apart : (text : List ℕ) → IsParsed text → IsUnparsed text → ⊥
parsed_apart text a b =
    let there = subst (λ ts. AreAllCommandsOf (pieces_of ts) a.commands) (one_list text b.tokens a.tokens b.are_tokens a.are_tokens) a.are_commands in
    none_left (pieces_of b.tokens) a.commands there b.none

parsed_or_not : (text : List ℕ) → IsParsed text ⊎ IsUnparsed text
parsed_or_not text = by (all_or_some (pieces_of ts) cs.0 cs.1)
  where
    ts : List Lexeme
    ts = tokens_at 0 text

    cs : (all : List CommandTree) × AreCommandsOf (pieces_of ts) all
    cs = some_commands (pieces_of ts)

    by : AreAllCommandsOf (pieces_of ts) cs.0 ⊎ IsSomeNone (pieces_of ts) → IsParsed text ⊎ IsUnparsed text
    by (inl all) = inl (record { tokens = ts; are_tokens = are_tokens_at 0 text; commands = cs.0; are_commands = all })
    by (inr none) = inr (record { tokens = ts; are_tokens = are_tokens_at 0 text; none = none })

-- ---- the name under the cursor and its binder

-- a claim that holds of every token
all_tokens : (ts : List Lexeme) → AllByRecursion (λ t. Unit {0}) ts
all_tokens [] = tt
all_tokens (t ∷ ts) = (tt, all_tokens ts)

module _ (text : List ℕ) (o : ℕ) where
  -- it is a name or a type name
  pub is_name : (b : IsBound text o) → is_name_kind (kind_of b.name) ≡ true
  is_name b = (touched_holds (λ t. Unit {0}) o b.parsed.tokens b.name (all_tokens b.parsed.tokens) b.is_touched).1

  is_definition : (b : IsBound text o) → definition_in b.parsed.tokens b.parsed.commands o ≡ Some b.binder
  is_definition b = ap (option_and_then (λ t. bound_at (start_of t) (mentions b.parsed.commands))) b.is_touched ∙ b.is_bound

  -- what is told of the name, the commands and the binder is one
  one_bound : {A : Type 0} (f : Lexeme → List CommandTree → Span → A) (a b : IsBound text o) → f a.name a.parsed.commands a.binder ≡ f b.name b.parsed.commands b.binder
  one_bound f a b =
      let touch : Some a.name ≡ Some b.name = sym a.is_touched ∙ parsed_told (λ ts cs. touched o ts) text a.parsed b.parsed ∙ b.is_touched in
      let name : a.name ≡ b.name = cc in
      let commands = parsed_told (λ ts cs. cs) text a.parsed b.parsed in
      let definition : Some a.binder ≡ Some b.binder = sym (is_definition a) ∙ parsed_told (λ ts cs. definition_in ts cs o) text a.parsed b.parsed ∙ is_definition b in
      let binder : a.binder ≡ b.binder = cc in
      λ i. f (name i) (commands i) (binder i)

  -- there is one, or there is none, and never both
  bound_apart : IsBound text o → IsUnbound text o → ⊥
  bound_apart a b =
      let both : Some a.binder ≡ None = sym (is_definition a) ∙ parsed_told (λ ts cs. definition_in ts cs o) text a.parsed b.parsed ∙ b.unbound in
      cc

  bound_or_not : (parsed : IsParsed text) → IsBound text o ⊎ IsUnbound text o
  bound_or_not parsed = by (touched o parsed.tokens) refl
    where
      by_binder : (t : Lexeme) → touched o parsed.tokens ≡ Some t → (b : Option Span) → bound_at (start_of t) (mentions parsed.commands) ≡ b → IsBound text o ⊎ IsUnbound text o
      by_binder t is (Some b) told = inl (record { parsed = parsed; name = t; is_touched = is; binder = b; is_bound = told })
      by_binder t is None told = inr (record { parsed = parsed; unbound = ap (option_and_then (λ u. bound_at (start_of u) (mentions parsed.commands))) is ∙ told })

      by : (t : Option Lexeme) → touched o parsed.tokens ≡ t → IsBound text o ⊎ IsUnbound text o
      by (Some t) is = by_binder t is (bound_at (start_of t) (mentions parsed.commands)) refl
      by None is = inr (record { parsed = parsed; unbound = ap (option_and_then (λ u. bound_at (start_of u) (mentions parsed.commands))) is })

-- ---- whether binding stays

-- the tokens of the binder at a byte and of its uses are those that its row tells
pub spans_told : (cs : List CommandTree) (o n : ℕ) (b : Span) → AreSpelledFrom 0 cs → binder_at (table cs) o ≡ Some n → (binder_numbered (table cs) n).token ≡ b
    → references_to cs true b ≡ (binder_numbered (table cs) n).token ∷ use_tokens n (table cs).uses
spans_told cs o n b spelled at is =
    let ascend = spelled_ascend cs spelled in
    let uses = uses_told cs ascend.0 o n ascend.1 at ∙ ap (λ s. uses_of s (mentions cs)) is in
    sym (λ i. is i ∷ uses i)

-- with the new name at them, the commands are those in which that binder is renamed
pub form_told : (cs : List CommandTree) (o n : ℕ) (b : Span) (new : List ℕ) → AreSpelledFrom 0 cs → binder_at (table cs) o ≡ Some n → (binder_numbered (table cs) n).token ≡ b
    → forms (map (respelled_command (λ p. p) (renaming (references_to cs true b) new)) cs) ≡ forms (renamed n new cs)
form_told cs o n b new spelled at is =
    ap (λ spans. forms (map (respelled_command (λ p. p) (renaming spans new)) cs)) (spans_told cs o n b spelled at is) ∙ ap forms (tokens_renamed cs o n new spelled at)

-- the row of a binder
row_of : (f : ℕ → Span) (row : Option ℕ) (b : Span) → option_map f row ≡ Some b → (n : ℕ) × (row ≡ Some n) × (f n ≡ b)
row_of f None b is = absurd cc
row_of f (Some n) b is = (n, refl, cc)

keeps_or_not : (text : List ℕ) (o : ℕ) (new : List ℕ) (b : IsBound text o) → KeepsForm (spans_bound b) new b.parsed.commands ⊎ (KeepsForm (spans_bound b) new b.parsed.commands → ⊥)
keeps_or_not text o new b = by (all_keep row.0 new (table cs).binders (table cs).uses) refl
  where
    cs : List CommandTree
    cs = b.parsed.commands

    spelled : AreSpelledFrom 0 cs
    spelled = text_spelled text cs (record { tokens = b.parsed.tokens; are_tokens = b.parsed.are_tokens; are_commands = all_are_commands (pieces_of b.parsed.tokens) cs b.parsed.are_commands })

    row : (n : ℕ) × (binder_at (table cs) (start_of b.name) ≡ Some n) × ((binder_numbered (table cs) n).token ≡ b.binder)
    row =
        let ascend = spelled_ascend cs spelled in
        row_of (λ n. (binder_numbered (table cs) n).token) (binder_at (table cs) (start_of b.name)) b.binder (bound_told cs ascend.0 (start_of b.name) ascend.1 ∙ b.is_bound)

    same : forms (map (respelled_command (λ p. p) (renaming (spans_bound b) new)) cs) ≡ forms (renamed row.0 new cs)
    same = form_told cs (start_of b.name) row.0 b.binder new spelled row.1 row.2

    by : (all : Bool) → all_keep row.0 new (table cs).binders (table cs).uses ≡ all → KeepsForm (spans_bound b) new cs ⊎ (KeepsForm (spans_bound b) new cs → ⊥)
    by true all = inl (same ∙ keeps_if_all row.0 new cs all)
    by false not_all = inr (λ keeps. both_ways _ not_all (all_if_keeps row.0 new cs (sym same ∙ keeps)))

-- ---- no two answers

-- which of the answers that have a cause is given: the first
abbrev place : Result (List Span) RenameFault → ℕ
place (Err fault.NotAName) = 0
place (Err fault.UnparsedCommand) = 1
place (Err fault.NoBoundName) = 2
place (Err fault.WrongKind) = 3
place (Err fault.ChangesBinding) = 4
place (Ok spans) = 5
place (Err fault.Memory) = 6

module _ (text : List ℕ) (o : ℕ) (new : List ℕ) where
  -- a new name that is of one of both kinds is a name or a type name
  named : (a : IsBound text o) → IsOne (kind_of a.name) new → IsAnyName new
  named a is = any_of (kind_of a.name) new (is_name text o a) is

  named_otherwise : (a : IsBound text o) → IsOne (other_kind (kind_of a.name)) new → IsAnyName new
  named_otherwise a is = any_of (other_kind (kind_of a.name)) new (other_is_name (kind_of a.name)) is

  -- it is never of the kind that stands there and of the other
  wrong_apart : (a b : IsBound text o) → IsOne (other_kind (kind_of a.name)) new → IsOne (kind_of b.name) new → ⊥
  wrong_apart a b wrong is = kinds_apart (kind_of a.name) new (subst (λ k. IsOne k new) (one_bound text o (λ t cs s. kind_of t) b a) is) wrong

  same_spans : (a b : IsBound text o) → spans_bound a ≡ spans_bound b
  same_spans a b = one_bound text o (λ t cs s. references_to cs true s) a b

  -- binding never both stays and changes
  keeps_too : (a b : IsBound text o) → KeepsForm (spans_bound a) new a.parsed.commands → KeepsForm (spans_bound b) new b.parsed.commands
  keeps_too a b keeps =
      one_bound text o (λ t cs s. forms (map (respelled_command (λ p. p) (renaming (references_to cs true s) new)) cs)) b a ∙ keeps ∙ one_bound text o (λ t cs s. forms cs) a b

  changes_apart : (a : IsChanged text o new) (spans : List Span) (b : IsRenamed text o new spans) → ⊥
  changes_apart a spans b = a.changes (keeps_too b.bound a.bound (subst (λ ss. KeepsForm ss new b.bound.parsed.commands) b.are_all b.keeps))

  -- of two answers, the second is the first, or comes before it
  same_or_sooner : (a b : Result (List Span) RenameFault) → IsRenameIn text o new a → IsRenameIn text o new b → (a ≡ b) ⊎ (place b < place a)
  same_or_sooner (Err fault.Memory) b h k = absurd h
  same_or_sooner a (Err fault.Memory) h k = absurd k
  same_or_sooner (Err fault.NotAName) (Err fault.NotAName) h k = inl refl
  same_or_sooner (Err fault.NotAName) (Err fault.UnparsedCommand) h k = absurd (h k.0)
  same_or_sooner (Err fault.NotAName) (Err fault.NoBoundName) h k = absurd (h k.0)
  same_or_sooner (Err fault.NotAName) (Err fault.WrongKind) h k = absurd (h (named_otherwise k.bound k.kind))
  same_or_sooner (Err fault.NotAName) (Err fault.ChangesBinding) h k = absurd (h (named k.bound k.kind))
  same_or_sooner (Err fault.NotAName) (Ok spans) h k = absurd (h (named k.bound k.kind))
  same_or_sooner (Err fault.UnparsedCommand) (Err fault.UnparsedCommand) h k = inl refl
  same_or_sooner (Err fault.UnparsedCommand) (Err fault.NoBoundName) h k = absurd (parsed_apart text k.1.parsed h.1)
  same_or_sooner (Err fault.UnparsedCommand) (Err fault.WrongKind) h k = absurd (parsed_apart text k.bound.parsed h.1)
  same_or_sooner (Err fault.UnparsedCommand) (Err fault.ChangesBinding) h k = absurd (parsed_apart text k.bound.parsed h.1)
  same_or_sooner (Err fault.UnparsedCommand) (Ok spans) h k = absurd (parsed_apart text k.bound.parsed h.1)
  same_or_sooner (Err fault.NoBoundName) (Err fault.NoBoundName) h k = inl refl
  same_or_sooner (Err fault.NoBoundName) (Err fault.WrongKind) h k = absurd (bound_apart text o k.bound h.1)
  same_or_sooner (Err fault.NoBoundName) (Err fault.ChangesBinding) h k = absurd (bound_apart text o k.bound h.1)
  same_or_sooner (Err fault.NoBoundName) (Ok spans) h k = absurd (bound_apart text o k.bound h.1)
  same_or_sooner (Err fault.WrongKind) (Err fault.WrongKind) h k = inl refl
  same_or_sooner (Err fault.WrongKind) (Err fault.ChangesBinding) h k = absurd (wrong_apart h.bound k.bound h.kind k.kind)
  same_or_sooner (Err fault.WrongKind) (Ok spans) h k = absurd (wrong_apart h.bound k.bound h.kind k.kind)
  same_or_sooner (Err fault.ChangesBinding) (Err fault.ChangesBinding) h k = inl refl
  same_or_sooner (Err fault.ChangesBinding) (Ok spans) h k = absurd (changes_apart h spans k)
  same_or_sooner (Ok spans) (Ok others) h k = inl (ap Ok (h.are_all ∙ same_spans h.bound k.bound ∙ sym k.are_all))
  same_or_sooner a b h k = inr (omega arith)

  pub one_rename : (found other : Result (List Span) RenameFault) → IsRenameIn text o new found → IsRenameIn text o new other → found ≡ other
  one_rename a b h k = by (same_or_sooner a b h k) (same_or_sooner b a k h)
    where
      by : (a ≡ b) ⊎ (place b < place a) → (b ≡ a) ⊎ (place a < place b) → a ≡ b
      by (inl same) other = same
      by (inr sooner) (inl same) = sym same
      by (inr sooner) (inr later) = absurd (omega arith)

  -- ---- some answer

  abbrev Answer : Type 0
  Answer = (found : Result (List Span) RenameFault) × IsRenameIn text o new found

  of_right_kind : (b : IsBound text o) → IsOne (kind_of b.name) new → KeepsForm (spans_bound b) new b.parsed.commands ⊎ (KeepsForm (spans_bound b) new b.parsed.commands → ⊥) → Answer
  of_right_kind b is (inl keeps) = (Ok (spans_bound b), record { bound = b; kind = is; are_all = refl; keeps = keeps })
  of_right_kind b is (inr changes) = (Err fault.ChangesBinding, record { bound = b; kind = is; changes = changes })

  of_kind : (b : IsBound text o) → IsOne (kind_of b.name) new ⊎ IsOne (other_kind (kind_of b.name)) new → Answer
  of_kind b (inl is) = of_right_kind b is (keeps_or_not text o new b)
  of_kind b (inr wrong) = (Err fault.WrongKind, record { bound = b; kind = wrong })

  of_bound : IsAnyName new → IsBound text o ⊎ IsUnbound text o → Answer
  of_bound any (inl b) = of_kind b (this_or_other (kind_of b.name) new (is_name text o b) any)
  of_bound any (inr unbound) = (Err fault.NoBoundName, (any, unbound))

  of_parsed : IsAnyName new → IsParsed text ⊎ IsUnparsed text → Answer
  of_parsed any (inl parsed) = of_bound any (bound_or_not text o parsed)
  of_parsed any (inr unparsed) = (Err fault.UnparsedCommand, (any, unparsed))

  of_name : IsAnyName new ⊎ (IsAnyName new → ⊥) → Answer
  of_name (inl any) = of_parsed any (parsed_or_not text)
  of_name (inr none) = (Err fault.NotAName, none)

  pub some_rename : (found : Result (List Span) RenameFault) × IsRenameIn text o new found
  some_rename = of_name (name_or_not new (shape_of (chars new)) refl)
