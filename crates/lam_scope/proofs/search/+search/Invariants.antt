use Rattle.std.proofs.Common.{◌≡◌, drop}
use Rattle.lam_rules.specs.TermViews.{terms_of}
use Rattle.lam_scope.specs.inner.Found.{seek, seek_on, sought_of, terms_at_fields}
use Rattle.lam_scope.proofs.search.+search.Given as goal

abbrev pub invariant-find_in_fields-loop-i : goal.invariant-find_in_fields-loop-i
invariant-find_in_fields-loop-i l =
    seek_on (sought_of l.found) (terms_at_fields (terms_of (drop l.i l.fields))) ≡ seek (terms_at_fields (terms_of l.fields)) l.number
