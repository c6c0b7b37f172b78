-- Changes that are read one after another.
use Rattle.std.proofs.Common.{List, ◌++◌, Option, option_map}
use Rattle.lam_text.specs.Edits.{Edit}

-- these edits and then the others, if the others could be read
abbrev pub after : List Edit → Option (List Edit) → Option (List Edit)
after done rest = option_map (λ edits. done ++ edits) rest
