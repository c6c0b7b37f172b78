use Rattle.std.proofs.Common.{refl}
use Rattle.lam_rules.proofs.TableEntries.{found_at, nowhere_at, shape_wf}
use Rattle.lam_rules.proofs.ShapeKeys.{index_found, index_lacks}
use Rattle.lam_rules.proofs.table.TyTable.find.Goals as goal

pub returns-in-Some-clause-some : goal.returns-in-Some-clause-some
returns-in-Some-clause-some c =
    found_at _ _ _ _ _ c.self.view_is refl c.self.invariant.0 (index_found c.self.inside.index _ _ _ _ c.self.invariant.1 c.get.ensures.value c.in-Some.is)

pub returns-in-None-clause-none : goal.returns-in-None-clause-none
returns-in-None-clause-none c =
    nowhere_at _ _ _ _ c.self.view_is refl c.self.invariant.0 c.requires (index_lacks c.self.inside.index _ _ _ c.self.invariant.1 c.get.ensures.value c.in-None.is)

pub returns-in-Some-clause-wf : goal.returns-in-Some-clause-wf
returns-in-Some-clause-wf c = shape_wf _ _ _ c.self.view_is c.self.invariant.0 c.requires

pub returns-in-None-clause-wf : goal.returns-in-None-clause-wf
returns-in-None-clause-wf c = shape_wf _ _ _ c.self.view_is c.self.invariant.0 c.requires
