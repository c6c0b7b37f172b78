use Rattle.lam_rules.proofs.subtyping.follows.Goals as goal

pub returns-in-Refl : goal.returns-in-Refl
returns-in-Refl c = rw c.in-Refl.is c.by_refl.ensures

pub returns-in-Trans : goal.returns-in-Trans
returns-in-Trans c = rw c.in-Trans.is c.by_trans.ensures

pub returns-in-Top : goal.returns-in-Top
returns-in-Top c = rw c.in-Top.is c.by_top.ensures

pub returns-in-Arrow : goal.returns-in-Arrow
returns-in-Arrow c = rw c.in-Arrow.is c.by_arrow.ensures

pub returns-in-RcdWidth : goal.returns-in-RcdWidth
returns-in-RcdWidth c = rw c.in-RcdWidth.is c.by_width.ensures

pub returns-in-RcdDepth : goal.returns-in-RcdDepth
returns-in-RcdDepth c = rw c.in-RcdDepth.is c.by_depth.ensures

pub returns-in-RcdPerm : goal.returns-in-RcdPerm
returns-in-RcdPerm c = rw c.in-RcdPerm.is c.by_permutation.ensures

pub returns-in-BoolNat : goal.returns-in-BoolNat
returns-in-BoolNat c = rw c.in-BoolNat.is c.by_bool_nat.ensures
