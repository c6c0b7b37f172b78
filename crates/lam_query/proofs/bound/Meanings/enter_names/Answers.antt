use Rattle.std.proofs.Common.{Bor, ℕ, List, [], ◌∙◌}
use Rattle.lam_query.specs.declared.bound.NameNo.TheVariants.{Name}
use Rattle.lam_query.proofs.Entering.{name_at, kept_meaning, one_listed, unknown_passed, name_entered}
use Rattle.lam_query.proofs.bound.Meanings.enter_names.Goals as goal
use Rattle.lam_query.proofs.bound.Meanings.enter_names.Goals.{in-Some+in_ok-enter_name+in_ok-push-2, in_default}

pub loop-i-preserved : goal.loop-i-preserved
loop-i-preserved c =
    let d : Bor (List ℕ) = record { ref_ptr = (0, 0); now = [] } in
    let names = c.args.names.now in
    let known = c.args.self.now in
    let x = name_at names c.loop-i.i d in
    let kept = kept_meaning known c.loop-i.self c.number_for.new.self x c.in_ok-number.number c.in_ok-number.ensures.number (c.number_for.ensures.same x)
    (c.loop-i.invariant.listed.same x) in
    record {
      listed =
          one_listed names c.loop-i.i d c.loop-i-test.true (λ n. Name n) known c.loop-i.self c.number_for.new.self
          c.args.numbers.now.items c.loop-i.numbers.items c.push.new.self.items c.in_ok-number.number c.in_ok-number.ensures.number
          c.number_for.ensures.keeps c.number_for.ensures.same c.in_ok-number.ensures.numbers c.in_ok-push.ensures.items c.loop-i.invariant.listed;
      entered = elim c.match-under.branch [
        | in-Some+in_ok-enter_name+in_ok-push-2 w ↦
            rw w.around-is
            (name_entered names c.loop-i.i d c.loop-i-test.true known c.args.around.now c.loop-i.around _ w.in-Some.entry (w.in-Some.ensures ∙ kept)
            w.in_ok-enter_name.ensures.entered w.in_ok-enter_name.ensures.type_names w.in_ok-enter_name.ensures.stand w.in_ok-push-2.ensures.items
            c.loop-i.invariant.entered)
        | in_default w ↦
            rw w.around-is
            (unknown_passed names c.loop-i.i d c.loop-i-test.true known c.args.around.now c.loop-i.around (w.in_default.ensures ∙ kept) c.loop-i.invariant.entered)
      ];
    }
