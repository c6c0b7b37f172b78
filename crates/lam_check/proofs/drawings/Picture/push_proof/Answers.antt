use Rattle.std.proofs.Common.{◌≡◌, map, length, ap, arith}
use Rattle.std.proofs.lemmas.List.{length-map}
use Rattle.std.proofs.lemmas.Result.{on_ok_weaker}
use Rattle.lam_query.specs.Views.{step_of}
use Rattle.lam_query.proofs.Flat.{length_of_steps}
use Rattle.std.proofs.lemmas.Bool.Decides.{nat_tests}
use Rattle.lam_check.proofs.Drawing.{stands_alone}
use Rattle.lam_check.proofs.drawings.Picture.push_proof.Goals as goal

pub returns-then-is_empty : goal.returns-then-is_empty
returns-then-is_empty c = λ p e.
    let none : length c.args.self.now.steps.now ≡ 0 = grind (arith, nat_tests) in
    absurd (omega (arith, length_of_steps 0 p, ap length e, length-map c.args.self.now.steps.now step_of))

pub returns : goal.returns
returns c =
    on_ok_weaker c.push_tree.result
    (λ draws p e.
    let size = length_of_steps 0 p in
    let long = ap length e in
    let own = length-map c.args.self.now.steps.now step_of in
    draws 0 p (stands_alone (map step_of c.args.self.now.steps.now) p e) (omega arith))
    c.push_tree.ensures
