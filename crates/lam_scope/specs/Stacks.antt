-- Stacks: lists that grow at their end, read from there.
use Rattle.std.specs.Prelude.{List, [], ◌∷◌}

-- the images of a stack's items under f, the last one first, followed by others
abbrev pub stacked : {X Y : Type 0} → (X → Y) → List Y → List X → List Y
stacked f ys [] = ys
stacked f ys (x ∷ xs) = stacked f (f x ∷ ys) xs

-- all but the innermost
abbrev pub outside : {Y : Type 0} → List Y → List Y
outside [] = []
outside (y ∷ ys) = ys
