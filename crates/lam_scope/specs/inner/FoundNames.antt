-- Names in the order in which they are first found. For private contracts only.
use Rattle.std.specs.Prelude.{ℕ, List, [], ◌∷◌, ◌++◌, map, Bool, false, ◌||◌, Option, if◌then◌else◌}
use Rattle.std.specs.Str.{bytes_eq}
use denote.Ref.{Bor}
use Rattle.lam_scope.specs.Names.{Name}
use Rattle.lam_scope.specs.FreeNames.{without}

-- the letters of names
abbrev pub letters_of : List (Bor (List ℕ)) → List Name
letters_of = map (λ x. x.now)

-- whether a name is one of these
abbrev pub is_among : Name → List Name → Bool
is_among x [] = false
is_among x (y ∷ ys) = bytes_eq y x || is_among x ys

-- the names with one more appended, unless it is one of them
abbrev pub with_name : Name → List Name → List Name
with_name x found = if is_among x found then found else found ++ x ∷ []

-- the names with others appended, each once
abbrev pub found_after : List Name → List Name → List Name
found_after found [] = found
found_after found (x ∷ xs) = found_after (with_name x found) xs

-- the names among these that none of the binders binds
abbrev pub free_under : List (Option Name) → List Name → List Name
free_under [] xs = xs
free_under (b ∷ bs) xs = free_under bs (without b xs)
