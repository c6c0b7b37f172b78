use Rattle.lam_query.proofs.Entering.{free_asked, surroundings_made}
use Rattle.lam_query.proofs.bound.Bound.around.Goals as goal

pub returns-clause-asked : goal.returns-clause-asked
returns-clause-asked c = λ command free.
    free_asked command c.args.free.now c.deref.result.now c.deref-2.result.now free c.deref.ensures.value c.deref-2.ensures.value c.args.self.now _ _ _ _
    c.in_ok-enter_names.ensures.listed c.in_ok-enter_type_names.ensures.listed

pub returns-clause-seen : goal.returns-clause-seen
returns-clause-seen c = λ ts command free stand.
    surroundings_made command c.args.free.now c.deref.result.now c.deref-2.result.now free c.deref.ensures.value c.deref-2.ensures.value
    ts c.args.self.now _ _ c.enter_type_names.new.around stand c.new.ensures.names (c.new.ensures.type_names ts) (c.new.ensures.stand ts) c.new-2.ensures.items
    c.in_ok-enter_names.ensures.entered c.in_ok-enter_type_names.ensures.entered
