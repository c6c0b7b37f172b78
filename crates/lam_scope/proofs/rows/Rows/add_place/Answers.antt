use Rattle.std.proofs.Common.{rules, ◌≤◌, length}
use Rattle.lam_scope.proofs.TableRows.{new_place, terms-longer, terms-pushed}
use Rattle.lam_scope.proofs.rows.Rows.add_place.Goals as goal

pub invariant_of-self-2 : goal.invariant_of-self-2
invariant_of-self-2 c =
    let longer : length c.args.self.now.terms.items ≤ length c.extend_from_slice.new.self.items = search rules in
    record {
      terms_in_order = terms-longer c.push.new.self.items _ _ longer
          (terms-pushed c.args.self.now.places.items _ _ (length c.args.self.now.terms.items) c.in_ok-push.ensures.items (search rules) c.args.self.now.terms_in_order);
    }

pub returns-clause-table : goal.returns-clause-table
returns-clause-table c =
    new_place _ _ _ _ _ _ _ _ _ c.args.self.now.terms_in_order c.in_ok-push.ensures.items (search rules) (search rules) c.innermost.ensures
