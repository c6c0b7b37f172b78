-- To a new name for a binder there is just one answer: its tokens, or one of the three refusals that have a cause.
use Rattle.std.proofs.Common.{◌≡◌, ◌≢◌, ◌⊎◌, ℕ, List, Bool, true, false, Option, Some, inl, inr, refl, sym, ◌∙◌}
use Rattle.std.specs.Str.{chars}
use Rattle.std.proofs.lemmas.Bool.{both_ways}
use Rattle.lam_token.specs.declared.kind.Kind.{Kind}
use Rattle.lam_token.specs.declared.kind.Kind.TheVariants as kind
use Rattle.lam_token.specs.declared.segment.Segment.{Segment}
use Rattle.lam_token.specs.declared.segment.Segment.TheVariants.{Token}
use Rattle.lam_token.specs.declared.span.Span.{Span}
use Rattle.lam_token.specs.Shape.{shape_of}
use Rattle.lam_token.specs.Edits.{IsNameKind, IsOne}
use Rattle.lam_syntax.specs.Trees.{CommandTree}
use Rattle.lam_scope.specs.declared.rename_fault.RenameFault.{RenameFault}
use Rattle.lam_scope.specs.declared.rename_fault.RenameFault.TheVariants as fault
use Rattle.lam_scope.specs.Names.{Name}
use Rattle.lam_scope.specs.Tables.{table, binder_numbered}
use Rattle.lam_scope.specs.Renames.{KeepsBinding, answer_for, kind_of_binder, AreRenamed, IsRefused}
use Rattle.lam_scope.specs.inner.Bearers.{all_keep}
use Rattle.lam_scope.proofs.KeptForms.{keeps_if_all, all_if_keeps}
use Rattle.lam_scope.proofs.RenamedBinders.{bound_kind}
use Rattle.lam_scope.specs.Mentions.{other_kind}

-- ---- what a text can name

-- neither a name nor a type name
abbrev IsNoName : Name → Type 0
IsNoName text = (IsOne kind.Name text → ⊥) × (IsOne kind.TypeName text → ⊥)

name_or_not : (text : Name) (shape : Option Segment) → shape_of (chars text) ≡ shape → IsOne kind.Name text ⊎ (IsOne kind.TypeName text ⊎ IsNoName text)
name_or_not text (Some (Token kind.Name)) is = inl is
name_or_not text (Some (Token kind.TypeName)) is = inr (inl is)
name_or_not text shape is = inr (inr ((λ e. cc), (λ e. cc)))

-- a text is of this kind of names, of the other one, or of neither
this_other_none : (k : Kind) (text : Name) → IsNameKind k → IsOne k text ⊎ (IsOne (other_kind k) text ⊎ IsNoName text)
this_other_none k text names = by k names (name_or_not text (shape_of (chars text)) refl)
  where
    by : (k : Kind) → IsNameKind k → IsOne kind.Name text ⊎ (IsOne kind.TypeName text ⊎ IsNoName text) → IsOne k text ⊎ (IsOne (other_kind k) text ⊎ IsNoName text)
    by kind.Name names which = which
    by kind.TypeName names (inl is) = inr (inl is)
    by kind.TypeName names (inr (inl is)) = inl is
    by kind.TypeName names (inr (inr none)) = inr (inr none)
    by k (inl is) which = absurd cc
    by k (inr is) which = absurd cc

-- and never two of these
kinds_apart : (k : Kind) (text : Name) → IsOne k text → IsOne (other_kind k) text → ⊥
kinds_apart kind.Name text is other = cc
kinds_apart k text is other = cc

none_apart : (k : Kind) (text : Name) → IsNameKind k → IsNoName text → IsOne k text → ⊥
none_apart kind.Name text names none is = none.0 is
none_apart kind.TypeName text names none is = none.1 is
none_apart k text (inl wrong) none is = absurd cc
none_apart k text (inr wrong) none is = absurd cc

other_names : (k : Kind) → IsNameKind (other_kind k)
other_names kind.Name = inr refl
other_names k = inl refl

-- ---- the answers

keeps_or_not : (b : ℕ) (new : Name) (cs : List CommandTree) → KeepsBinding b new cs ⊎ (KeepsBinding b new cs → ⊥)
keeps_or_not b new cs = by (all_keep b new (table cs).binders (table cs).uses) refl
  where
    by : (all : Bool) → all_keep b new (table cs).binders (table cs).uses ≡ all → KeepsBinding b new cs ⊎ (KeepsBinding b new cs → ⊥)
    by true all = inl (keeps_if_all b new cs all)
    by false not_all = inr (λ keeps. both_ways _ not_all (all_if_keeps b new cs keeps))

module _ (cs : List CommandTree) (n : ℕ) (new : Name) where
  names : IsNameKind (kind_of_binder cs n)
  names = bound_kind (binder_numbered (table cs) n).origin

  abbrev Answer : Type 0
  Answer = ((spans : List Span) × AreRenamed cs n new spans) ⊎ ((f : RenameFault) × (f ≢ fault.Memory) × IsRefused cs n new f)

  pub some_answer : Answer
  some_answer = by (this_other_none (kind_of_binder cs n) new names)
    where
      of_kind : IsOne (kind_of_binder cs n) new → KeepsBinding (answer_for cs n) new cs ⊎ (KeepsBinding (answer_for cs n) new cs → ⊥) → Answer
      of_kind is (inl keeps) = inl (_, record { kind = is; keeps = keeps; tokens = refl })
      of_kind is (inr changes) = inr (fault.ChangesBinding, (λ e. cc), (is, changes))

      by : IsOne (kind_of_binder cs n) new ⊎ (IsOne (other_kind (kind_of_binder cs n)) new ⊎ IsNoName new) → Answer
      by (inl is) = of_kind is (keeps_or_not (answer_for cs n) new cs)
      by (inr (inl other)) = inr (fault.WrongKind, (λ e. cc), other)
      by (inr (inr none)) = inr (fault.NotAName, (λ e. cc), none)

  pub same_tokens : (spans others : List Span) → AreRenamed cs n new spans → AreRenamed cs n new others → spans ≡ others
  same_tokens spans others a b = a.tokens ∙ sym b.tokens

  wrong_apart : IsOne (other_kind (kind_of_binder cs n)) new → IsOne (kind_of_binder cs n) new → ⊥
  wrong_apart other is = kinds_apart (kind_of_binder cs n) new is other

  -- what is no name is of neither kind
  not_this : IsNoName new → IsOne (kind_of_binder cs n) new → ⊥
  not_this none is = none_apart (kind_of_binder cs n) new names none is

  not_other : IsNoName new → IsOne (other_kind (kind_of_binder cs n)) new → ⊥
  not_other none other = none_apart (other_kind (kind_of_binder cs n)) new (other_names (kind_of_binder cs n)) none other

  pub same_fault : (f g : RenameFault) → f ≢ fault.Memory → g ≢ fault.Memory → IsRefused cs n new f → IsRefused cs n new g → f ≡ g
  same_fault fault.Memory g caused also h k = absurd (caused refl)
  same_fault f fault.Memory caused also h k = absurd (also refl)
  same_fault fault.NotAName fault.NotAName caused also h k = refl
  same_fault fault.NotAName fault.WrongKind caused also h k = absurd (not_other h k)
  same_fault fault.NotAName fault.ChangesBinding caused also h k = absurd (not_this h k.0)
  same_fault fault.WrongKind fault.NotAName caused also h k = absurd (not_other k h)
  same_fault fault.WrongKind fault.WrongKind caused also h k = refl
  same_fault fault.WrongKind fault.ChangesBinding caused also h k = absurd (wrong_apart h k.0)
  same_fault fault.ChangesBinding fault.NotAName caused also h k = absurd (not_this k h.0)
  same_fault fault.ChangesBinding fault.WrongKind caused also h k = absurd (wrong_apart k h.0)
  same_fault fault.ChangesBinding fault.ChangesBinding caused also h k = refl

  pub memory_alone : (spans : List Span) (f : RenameFault) → AreRenamed cs n new spans → IsRefused cs n new f → f ≡ fault.Memory
  memory_alone spans fault.NotAName a h = absurd (not_this h a.kind)
  memory_alone spans fault.WrongKind a h = absurd (wrong_apart h a.kind)
  memory_alone spans fault.ChangesBinding a h = absurd (h.1 a.keeps)
  memory_alone spans fault.Memory a h = refl
