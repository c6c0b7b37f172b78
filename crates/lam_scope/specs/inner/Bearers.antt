-- For private contracts: which binders have the new name after a rename of binder b, and so whether each use still finds its binder, by the rows of a table alone; and
-- why a text can't be the new name.
use Rattle.std.specs.Prelude.{ℕ, ◌==◌, List, [], ◌∷◌, ◌++◌, Bool, true, false, Option, Some, None, if◌then◌else◌, get_or}
use Rattle.std.specs.List.{list_all}
use Rattle.lam_token.specs.declared.kind.Kind.{Kind}
use Rattle.lam_token.specs.declared.kind.Kind.TheVariants as kind
use Rattle.lam_token.specs.Edits.{IsOne}
use Rattle.lam_scope.specs.declared.rename_fault.RenameFault.{RenameFault}
use Rattle.lam_scope.specs.declared.rename_fault.RenameFault.TheVariants as fault
use Rattle.lam_scope.specs.Names.{Name, binds}
use Rattle.lam_scope.specs.Tables.{TextBinder, TextUse, binder_in, is_number}
use Rattle.lam_scope.specs.Renames.{renamed_binder}
use Rattle.lam_scope.specs.Mentions.{other_kind}

-- whether a binder then has the new name
abbrev pub bears : (b : ℕ) → (new : Name) → TextBinder → Bool
bears b new r = binds (renamed_binder b new r.answer r.name) new

-- the entry of a list for a binder index, if there is one
abbrev pub told_of : List (Option ℕ) → Option ℕ → Option ℕ
told_of told None = None
told_of told (Some n) = get_or told n None

-- the answer of the innermost binder with the new name from this one outwards, given those of the binders before it
abbrev pub bearer : (b : ℕ) → (new : Name) → List (Option ℕ) → TextBinder → Option ℕ
bearer b new told r = if bears b new r then Some r.answer else told_of told r.outer

-- the same for each of these binders, appended to those of the binders before them
abbrev pub bearers_behind : (b : ℕ) → (new : Name) → List (Option ℕ) → List TextBinder → List (Option ℕ)
bearers_behind b new told [] = told
bearers_behind b new told (r ∷ rows) = bearers_behind b new (told ++ bearer b new told r ∷ []) rows

-- the same for each binder of a document
abbrev pub bearers : (b : ℕ) → (new : Name) → List TextBinder → List (Option ℕ)
bearers b new rows = bearers_behind b new [] rows

-- the name of a use: that of its binder, or its own if it is free
abbrev pub name_by : List TextBinder → (free : Option Name) → (binder : Option ℕ) → Option Name
name_by rows free None = free
name_by rows free (Some n) = (binder_in rows n).name

-- whether a use then has the new name
abbrev pub takes : (b : ℕ) → (new : Name) → List TextBinder → TextUse → Bool
takes b new rows u = if is_number b u.binder then true else binds (name_by rows u.free u.binder) new

-- whether two answers are the same, or there is neither
abbrev pub is_answer : Option ℕ → Option ℕ → Bool
is_answer None None = true
is_answer (Some m) (Some n) = m == n
is_answer _ _ = false

-- whether a use then finds its binder: if it has the new name, the innermost binder with that name is its own
abbrev pub keeps : (b : ℕ) → (new : Name) → List TextBinder → (told : List (Option ℕ)) → TextUse → Bool
keeps b new rows told u = if takes b new rows u then is_answer (told_of told u.inner) u.binder else true

-- whether all uses do
abbrev pub all_keep : (b : ℕ) → (new : Name) → List TextBinder → List TextUse → Bool
all_keep b new rows us = list_all (keeps b new rows (bearers b new rows)) us

-- why a text that is not of this kind can't be the new name: it is of the other kind, or not a name at all
abbrev pub IsUnfit : Kind → (text : Name) → RenameFault → Type 0
IsUnfit k text fault.NotAName = (IsOne kind.Name text → ⊥) × (IsOne kind.TypeName text → ⊥)
IsUnfit k text fault.WrongKind = IsOne (other_kind k) text
IsUnfit k text f = ⊥
