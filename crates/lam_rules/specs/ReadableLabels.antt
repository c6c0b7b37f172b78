-- Labels that can be recognized in the text of a type.
use Rattle.std.specs.Prelude.{◌≢◌, ◌++◌, All, codes}
use Rattle.std.specs.Str.{byte}
use Rattle.lam_rules.specs.Types.{Label, Typ, bool, nat, unit, top, arrow, record_of, Fields, no_fields, field}
use Rattle.lam_rules.specs.Texts.{Text}

-- the label can be told apart from the surrounding text
pub record IsReadable (l : Label) : Type 0 where
  -- so it ends at the first colon
  pub no_colon : All (λ b. b ≢ byte ":") l
  -- so it cannot be taken for the end of a record type without fields
  pub no_brace_first : (rest : Text) → l ≢ codes "}" ++ rest

-- the labels of each record type are readable, at every depth
abbrev mutual
  pub HasReadableLabels : Typ → Type 0
  HasReadableLabels bool = Unit {0}
  HasReadableLabels nat = Unit {0}
  HasReadableLabels unit = Unit {0}
  HasReadableLabels top = Unit {0}
  HasReadableLabels (arrow s t) = HasReadableLabels s × HasReadableLabels t
  HasReadableLabels (record_of fs) = HaveReadableLabels fs

  pub HaveReadableLabels : Fields → Type 0
  HaveReadableLabels no_fields = Unit {0}
  HaveReadableLabels (field l t rest) = IsReadable l × HasReadableLabels t × HaveReadableLabels rest
