-- A projection has no type if the type before the dot has no field with its label.
use Rattle.std.proofs.Common.{List, Some, None, refl}
use Rattle.lam_rules.specs.Types.{Label, Typ, bool, nat, unit, top, arrow, record_of}
use Rattle.lam_rules.specs.Typing.{HasField}
use Rattle.lam_sub.proofs.LookUps.{absent_from}
use Rattle.lam_typing.specs.inner.Steps.{FieldRule, ProjectRule}

no_field_rule : (l : Label) (t : Typ) → ((u : Typ) → HasField t l u → ⊥) → FieldRule l t None
no_field_rule l (record_of fs) n = absent_from l fs n
no_field_rule l bool n = refl
no_field_rule l nat n = refl
no_field_rule l unit n = refl
no_field_rule l top n = refl
no_field_rule l (arrow a b) n = refl

pub no_field_found : (ts : List Typ) (l : Label) (t : Typ) → ((u : Typ) → HasField t l u → ⊥) → ProjectRule l (Some t) None
no_field_found ts l t n = no_field_rule l t n
