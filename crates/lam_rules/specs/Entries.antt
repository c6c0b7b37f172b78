-- What a type table stores for each id.
use Rattle.std.specs.Prelude.{◌≡◌, ℕ, ◌<◌, ◌≤◌, min, List, [], ◌∷◌, ◌++◌, length, String, string_bytes}
use Rattle.std.specs.List.{slice_index_or}
use Rattle.lam_rules.specs.Types.{Typ, nodes, IsWellFormed}
use Rattle.lam_rules.specs.Texts.{sorted}
use Rattle.lam_rules.specs.Numbers.{type_at, type_of, shaped, IsOver}
use Rattle.lam_rules.specs.declared.table.Entry.{Entry}
use Rattle.lam_rules.specs.declared.numbers.TyNo.{TyNo}
use Rattle.lam_rules.specs.declared.numbers.Shape.{Shape}
use Rattle.std.specs.declared.alloc.Global.{Global}
use denote.Ref.{Bor}

-- the types of all ids, in order: each shape refers to the types before it
abbrev pub types_from : List Typ → List Entry → List Typ
types_from ts [] = ts
types_from ts (e ∷ es) = types_from (ts ++ shaped ts e.shape ∷ []) es

-- the types of all ids of a table
unfoldable pub types_of : List Entry → List Typ
types_of es = types_from [] es

-- the entry with id i is correct for its type
pub record IsEntryOf (ts : List Typ) (i : ℕ) (e : Entry) : Type 0 where
  pub earlier : IsOver i e.shape
  pub type : type_at ts i ≡ shaped ts e.shape
  pub wf : IsWellFormed (type_at ts i)
  pub size : e.size ≡ min (nodes (type_at ts i)) 4097
  pub sorted_stands : e.sorted.index ≤ i
  pub sorted_type : type_of ts e.sorted ≡ sorted (type_at ts i)

-- every entry is correct, and no two ids have equal types
pub record IsTable (es : List Entry) : Type 0 where
  pub each : (i : ℕ) (e : Entry) → i < length es → e ≡ slice_index_or es i e → IsEntryOf (types_of es) i e
  pub distinct : (i j : ℕ) → i < length es → j < length es → type_at (types_of es) i ≡ type_at (types_of es) j → i ≡ j

-- equal labels and equal ids
abbrev pub IsSameField : String Global × TyNo → String Global × TyNo → Type 0
IsSameField f g = (string_bytes f.0 ≡ string_bytes g.0) × (f.1.index ≡ g.1.index)

-- the same fields in the same order
abbrev pub AreSame : List (String Global × TyNo) → List (String Global × TyNo) → Type 0
AreSame [] [] = Unit {0}
AreSame (f ∷ fs) (g ∷ gs) = IsSameField f g × AreSame fs gs
AreSame _ _ = ⊥

-- the same outermost form over the same ids
abbrev pub IsSame : Shape → Shape → Type 0
IsSame Shape.Bool Shape.Bool = Unit {0}
IsSame Shape.Nat Shape.Nat = Unit {0}
IsSame Shape.Unit Shape.Unit = Unit {0}
IsSame Shape.Top Shape.Top = Unit {0}
IsSame (Shape.Arrow p q) (Shape.Arrow u v) = (p.index ≡ u.index) × (q.index ≡ v.index)
IsSame (Shape.Record fs) (Shape.Record gs) = AreSame fs.items gs.items
IsSame _ _ = ⊥

-- the entry with this id has the shape
pub record IsAt (es : List Entry) (i : ℕ) (s : Shape) : Type 0 where
  pub within : i < length es
  pub same : (e : Entry) → e ≡ slice_index_or es i e → IsSame e.shape s

-- no entry has the shape
abbrev pub IsNowhere : List Entry → Shape → Type 0
IsNowhere es s = (i : ℕ) (e : Entry) → i < length es → e ≡ slice_index_or es i e → IsSame e.shape s → ⊥

-- the same labels and ids, with owned labels
abbrev pub AreCopies : List (String Global × TyNo) → List (Bor (List ℕ) × TyNo) → Type 0
AreCopies [] [] = Unit {0}
AreCopies (f ∷ fs) (g ∷ gs) = (string_bytes f.0 ≡ g.0.now) × (f.1 ≡ g.1) × AreCopies fs gs
AreCopies _ _ = ⊥
