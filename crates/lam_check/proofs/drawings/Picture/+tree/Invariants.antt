use Rattle.std.proofs.Common.{◌≡◌, ℕ, ◌+◌, ◌*◌, ◌≤◌, ◌++◌, drop, map, string_bytes}
use Rattle.lam_query.specs.Steps.{Proofs, last_steps, number_of_steps}
use Rattle.lam_query.specs.Views.{step_of}
use Rattle.lam_check.specs.Drawings.{drawn_each}
use Rattle.lam_check.specs.inner.Drawing.{AllStand, AreLeft}
use Rattle.lam_check.specs.inner.Roles.{RoleStandsIn}
use Rattle.lam_check.proofs.drawings.Picture.+tree.Given as goal

-- what is written, and the proofs that are left, are all
abbrev pub invariant-push_trees-loop-i : goal.invariant-push_trees-loop-i
invariant-push_trees-loop-i l =
    RoleStandsIn l.self.text.now l.role
    × ((start : ℕ) (ps : Proofs) → AllStand (map step_of l.self.steps.now) start ps → l.numbers ≡ last_steps start ps → start + number_of_steps ps ≤ l.end
    → AreLeft l.self.form l.self.text.now l.depth l.role (map step_of l.self.steps.now) l.end (drop l.i l.numbers) (string_bytes l.out) (string_bytes l.initial.out ++ drawn_each l.self.form l.self.text.now l.depth l.fn.first ps))

abbrev pub decreases-push_tree : goal.decreases-push_tree
decreases-push_tree l = 2 * l.number + 1

abbrev pub decreases-push_trees : goal.decreases-push_trees
decreases-push_trees l = 2 * l.end
