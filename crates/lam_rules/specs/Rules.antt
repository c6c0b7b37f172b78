-- The names of the rules, as printed in derivations.
use Rattle.std.specs.Prelude.{codes}
use Rattle.lam_rules.specs.Texts.{Text}
use Rattle.lam_rules.specs.declared.rules.SubRule.{SubRule}
use Rattle.lam_rules.specs.declared.rules.TypeRule.{TypeRule}

-- the names of the subtyping rules
abbrev pub name_of_sub_rule : SubRule → Text
name_of_sub_rule SubRule.Refl = codes "S-Refl"
name_of_sub_rule SubRule.Trans = codes "S-Trans"
name_of_sub_rule SubRule.Top = codes "S-Top"
name_of_sub_rule SubRule.Arrow = codes "S-Arrow"
name_of_sub_rule SubRule.RcdWidth = codes "S-RcdWidth"
name_of_sub_rule SubRule.RcdDepth = codes "S-RcdDepth"
name_of_sub_rule SubRule.RcdPerm = codes "S-RcdPerm"
name_of_sub_rule SubRule.BoolNat = codes "S-BoolNat"

-- the names of the typing rules
abbrev pub name_of_type_rule : TypeRule → Text
name_of_type_rule TypeRule.True = codes "T-True"
name_of_type_rule TypeRule.False = codes "T-False"
name_of_type_rule TypeRule.If = codes "T-If"
name_of_type_rule TypeRule.Num = codes "T-Num"
name_of_type_rule TypeRule.Succ = codes "T-Succ"
name_of_type_rule TypeRule.Pred = codes "T-Pred"
name_of_type_rule TypeRule.IsZero = codes "T-IsZero"
name_of_type_rule TypeRule.Var = codes "T-Var"
name_of_type_rule TypeRule.Abs = codes "T-Abs"
name_of_type_rule TypeRule.App = codes "T-App"
name_of_type_rule TypeRule.Unit = codes "T-Unit"
name_of_type_rule TypeRule.Ascribe = codes "T-Ascribe"
name_of_type_rule TypeRule.Let = codes "T-Let"
name_of_type_rule TypeRule.Rcd = codes "T-Rcd"
name_of_type_rule TypeRule.Proj = codes "T-Proj"
name_of_type_rule TypeRule.Fix = codes "T-Fix"
name_of_type_rule TypeRule.Sub = codes "T-Sub"
