-- Derivations that can be read back from their JSON form.
use Rattle.std.specs.Prelude.{◌≤◌, ◌+◌, max, ℕ, List, Some, All, IfSome}
use Rattle.std.specs.Str.{chars, IsCharBoundary, IsUtf8}
use Rattle.lam_rules.specs.ReadableLabels.{HasReadableLabels}
use Rattle.lam_rules.specs.Types.{Label, Typ, bool, nat, unit, top, arrow, record_of, Fields, no_fields, field}
use Rattle.lam_text.specs.Positions.{IsInsideCrLf}
use Rattle.lam_token.specs.declared.kind.Kind.TheVariants.{Name}
use Rattle.lam_token.specs.declared.span.Span.{Span}
use Rattle.lam_token.specs.Cut.{IsWholeKind}
use Rattle.lam_query.specs.Derivations.{Derivation}
use Rattle.lam_query.specs.Steps.{Conclusion, typing, subtyping}

-- the depth of a type as a tree: how many nodes its longest branch has
abbrev mutual
  pub depth : Typ → ℕ
  depth bool = 1
  depth nat = 1
  depth unit = 1
  depth top = 1
  depth (arrow s t) = max (depth s) (depth t) + 1
  depth (record_of fs) = depth_in fs + 1

  -- that of the deepest field, or 0 if there is none
  pub depth_in : Fields → ℕ
  depth_in no_fields = 0
  depth_in (field l t fs) = max (depth t) (depth_in fs)

-- The labels of the type can be recovered from its text, and it is no deeper than 4,096.
pub record IsReadableType (t : Typ) : Type 0 where
  pub labels : HasReadableLabels t
  pub not_deep : depth t ≤ 4096

-- the label is a name of the language
pub record IsName (l : Label) : Type 0 where
  pub is_text : IsUtf8 l
  pub kind : IsWholeKind (chars l) (Some Name)

-- the labels of each record type are names, at every depth
abbrev mutual
  pub HasNamesAsLabels : Typ → Type 0
  HasNamesAsLabels (arrow s t) = HasNamesAsLabels s × HasNamesAsLabels t
  HasNamesAsLabels (record_of fs) = HaveNamesAsLabels fs
  HasNamesAsLabels t = Unit {0}

  pub HaveNamesAsLabels : Fields → Type 0
  HaveNamesAsLabels no_fields = Unit {0}
  HaveNamesAsLabels (field l t fs) = IsName l × HasNamesAsLabels t × HaveNamesAsLabels fs

-- The offset is at a character boundary, but not between a CR and its LF: the position there means the CR.
pub record IsReadableOffset (text : List ℕ) (offset : ℕ) : Type 0 where
  pub boundary : IsCharBoundary text offset
  pub outside : ¬ (IsInsideCrLf text offset)

-- both ends of a span
pub record IsReadableSpan (text : List ℕ) (s : Span) : Type 0 where
  pub start : IsReadableOffset text s.start
  pub end : IsReadableOffset text s.end

-- the types and the range of a conclusion
abbrev pub IsReadableConclusion : List ℕ → Conclusion → Type 0
IsReadableConclusion text (typing rule s type) = IsReadableSpan text s × IsReadableType type
IsReadableConclusion text (subtyping rule lower upper) = IsReadableType lower × IsReadableType upper

-- the types of a conclusion
abbrev pub ConcludesReadably : Conclusion → Type 0
ConcludesReadably (typing rule s type) = IsReadableType type
ConcludesReadably (subtyping rule lower upper) = IsReadableType lower × IsReadableType upper

-- The types of the context and of each step are readable.
pub record HasReadableTypes (d : Derivation) : Type 0 where
  pub context : All (λ e. IfSome e.type IsReadableType) d.context
  pub steps : All (λ s. ConcludesReadably s.conclusion) d.steps

-- The types of the context, and the types and the range of each step, are readable.
pub record IsReadable (text : List ℕ) (d : Derivation) : Type 0 where
  pub context : All (λ e. IfSome e.type IsReadableType) d.context
  pub steps : All (λ s. IsReadableConclusion text s.conclusion) d.steps
