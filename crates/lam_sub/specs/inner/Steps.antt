-- A subtyping step that is left out if it would change nothing.
use Rattle.std.specs.Prelude.{◌≡◌, Option, Some, None}
use Rattle.lam_rules.specs.Types.{Typ}
use Rattle.lam_rules.specs.Subtyping.{ProvesBelow}
use Rattle.lam_rules.specs.SubViews.{sub_tree_of}
use Rattle.lam_rules.specs.declared.rules.Dialect.{Dialect}
use Rattle.lam_rules.specs.declared.subtyping.SubProof.{SubProof}

-- the proof leads from the first type to the second; if there is no proof, they are equal
abbrev pub LeadsTo : Option SubProof → Typ → Typ → Dialect → Type 0
LeadsTo None s t d = s ≡ t
LeadsTo (Some p) s t d = ProvesBelow (sub_tree_of p) s t d
