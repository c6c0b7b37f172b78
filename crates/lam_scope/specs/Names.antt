-- Names, and the binders in scope for a use, innermost first.
use Rattle.std.specs.Prelude.{ℕ, suc, List, [], ◌∷◌, Bool, false, Option, Some, None, codes, if◌then◌else◌}
use Rattle.std.specs.Option.{option_map}
use Rattle.std.specs.Str.{bytes_eq}

-- a name or a type name, as its bytes
abbrev pub Name : Type 0
Name = List ℕ

-- whether a binder binds this name; an underscore binds none
abbrev pub binds : Option Name → Name → Bool
binds None x = false
binds (Some y) x = bytes_eq y x

-- the de Bruijn index of a use of a name: the number of binders inside of the innermost one of that name; none if it is unbound
abbrev pub index_of : Name → List (Option Name) → Option ℕ
index_of x [] = None
index_of x (b ∷ bs) = if binds b x then Some 0 else option_map suc (index_of x bs)

-- the displayed name of a binder
abbrev pub shown_name : Option Name → Name
shown_name None = codes "_"
shown_name (Some x) = x
