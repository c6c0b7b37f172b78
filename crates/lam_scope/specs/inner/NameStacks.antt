-- How the names of the binders in scope are stored: a stack, and an index of the position of the innermost binder of each name.
use Rattle.std.specs.Prelude.{◌≡◌, ℕ, ◌+◌, List, [], ◌∷◌, Option, None, Some, if◌then◌else◌}
use Rattle.std.specs.Option.{option_map}
use Rattle.std.specs.Str.{bytes_eq}
use Rattle.std.specs.Borrow.{Bor}
use Rattle.std.specs.HashMap.{HashMap, get_by}
use Rattle.std.specs.declared.hash.FoldHasher.{FoldHasher}
use Rattle.std.specs.declared.hash.BuildHasherDefault.{BuildHasherDefault}
use Rattle.lam_scope.specs.declared.names.Named.{Named}
use Rattle.lam_scope.specs.Names.{Name, binds}
use Rattle.lam_scope.specs.Stacks.{stacked}

-- the name of a binder; an underscore has none
abbrev pub name_in : Named → Option Name
name_in b = option_map (λ x. x.now) b.name

-- the names of a stack, innermost first
abbrev pub names_of : List Named → List (Option Name)
names_of = stacked name_in []

-- the position on a stack of the innermost binder of each name, 0 being the outermost binder, or none if no binder has the name
abbrev pub Standing : Type 0
Standing = Name → Option ℕ

-- no name has a binder
abbrev pub nowhere : Standing
nowhere x = None

-- one more binder at position n
abbrev pub with_binder : Option Name → (n : ℕ) → Standing → Standing
with_binder b n f x = if binds b x then Some n else f x

-- more binders from position n on, outermost first
abbrev pub standing_on : Standing → (n : ℕ) → List Named → Standing
standing_on f n [] = f
standing_on f n (b ∷ more) = standing_on (with_binder (name_in b) n f) (n + 1) more

-- the positions in this stack
abbrev pub standing : List Named → Standing
standing stack = standing_on nowhere 0 stack

-- the position of the name of a binder, if it has one
abbrev pub at_name : Standing → Option Name → Option ℕ
at_name f None = None
at_name f (Some x) = f x

-- a binder goes out of scope, and its name has the position that it had before
abbrev pub reset : Option Name → (before : Option ℕ) → Standing → Standing
reset b before f x = if binds b x then before else f x

-- each binder of a stack stores the position that its name had before
abbrev pub AreShadowed : Standing → (n : ℕ) → List Named → Type 0
AreShadowed f n [] = Unit {0}
AreShadowed f n (b ∷ more) = (b.shadowed ≡ at_name f (name_in b)) × AreShadowed (with_binder (name_in b) n f) (n + 1) more

-- The index. A name whose binders are all out of scope stays in it, with none.
abbrev pub NameIndex : Type 0
NameIndex = HashMap (Bor (List ℕ)) (Option ℕ) (BuildHasherDefault FoldHasher)

-- the position that an entry of the index gives; a name without an entry has no binder either
abbrev pub flattened : Option (Option ℕ) → Option ℕ
flattened None = None
flattened (Some o) = o

-- the positions that the index gives
abbrev pub found_in : NameIndex → Standing
found_in index x = flattened (get_by (λ k. bytes_eq x k.now) index)

-- the binders store what they shadow, and the index gives the position of each name in the stack
pub record IsNameStack (stack : List Named) (index : NameIndex) : Type 0 where
  pub shadowed : AreShadowed nowhere 0 stack
  pub found : (x : Name) → found_in index x ≡ standing stack x
