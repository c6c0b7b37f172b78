use Rattle.lam_scope.proofs.Finding.{found_more}
use Rattle.lam_scope.specs.inner.Found.{sought_of}
use Rattle.lam_scope.proofs.search.+search.Goals as goal

pub find_in_fields-loop-i-preserved : goal.find_in_fields-loop-i-preserved
find_in_fields-loop-i-preserved t c =
    found_more c.args.fields.now c.loop-i.i c.index-fields-i.result (sought_of c.loop-i.found) _ _ c.loop-i-test.true c.index-fields-i.is c.find_behind-found.ensures c.loop-i.invariant
