-- The plain trees that a `Ty` and its `Fields` represent.
use Rattle.std.specs.Prelude.{List, [], ◌∷◌, String, string_bytes}
use Rattle.std.specs.declared.alloc.Global.{Global}
use Rattle.lam_rules.specs.Types.{Typ, bool, nat, unit, top, arrow, record_of, Fields, no_fields, field}
use Rattle.lam_rules.specs.declared.types.Ty.{Ty, fold-Ty}
use Rattle.lam_rules.specs.declared.types.Ty.TheOpen.{Ty-F}
use Rattle.lam_rules.specs.declared.types.Fields.{Fields-F}

-- labeled types as fields
abbrev pub fields_made : List (String Global × Typ) → Fields
fields_made [] = no_fields
fields_made (f ∷ fs) = field (string_bytes f.0) f.1 (fields_made fs)

-- one level, whose parts are already trees
abbrev pub typ_step : Ty-F Typ Fields → Typ
typ_step Ty-F.Bool = bool
typ_step Ty-F.Nat = nat
typ_step Ty-F.Unit = unit
typ_step Ty-F.Top = top
typ_step (Ty-F.Arrow s t) = arrow s.value t.value
typ_step (Ty-F.Record fs) = record_of fs

-- the fields of one level, whose types are already trees
abbrev pub fields_step : Fields-F Typ Fields → Fields
fields_step fs = fields_made fs.items.value.items

-- the tree of a type
unfoldable pub typ_of : Ty → Typ
typ_of = fold-Ty Typ Fields typ_step fields_step

-- the fields of a list of labeled types
abbrev pub fields_of : List (String Global × Ty) → Fields
fields_of [] = no_fields
fields_of (f ∷ fs) = field (string_bytes f.0) (typ_of f.1) (fields_of fs)
