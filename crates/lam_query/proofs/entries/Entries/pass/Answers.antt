use Rattle.std.proofs.Common.{◌≡◌, ◌+◌, List, [], ◌∷◌, ◌++◌, get_or, take, Option, Some, None, refl, sym, subst, arith}
use Rattle.std.specs.Option.{option_map}
use Rattle.std.proofs.lemmas.List.{map_more}
use Rattle.lam_rules.specs.declared.numbers.TyNo.{TyNo}
use Rattle.lam_query.specs.declared.entries.Entries.{Entries}
use Rattle.lam_query.specs.declared.rows.CommandRow.{CommandRow as RustCommandRow}
use Rattle.lam_query.specs.inner.Entries.{IsPassedWith, IsPassedOver, IsPassedBy}
use Rattle.lam_query.specs.inner.Kept.{Row, bound_by, found_of, command_row_of, row_of, rows_of}
use Rattle.lam_query.proofs.entries.Entries.pass.Goals as goal
use Rattle.lam_query.proofs.entries.Entries.pass.Goals.{in-Some, in_default}

one_more : (rows : List Row) (r : Row) (old mid now : Entries) → IsPassedBy rows old mid → IsPassedOver r.command mid now → IsPassedBy (rows ++ r ∷ []) old now
one_more [] r old mid now same passed = (now, subst (λ e. IsPassedOver r.command e now) (sym same) passed, refl)
one_more (q ∷ rows) r old mid now before passed = (before.0, before.1, one_more rows r before.0 mid now before.2 passed)

over_command : (o : Option RustCommandRow) (k : RustCommandRow) (entry : Option TyNo) (old now : Entries) → o ≡ Some k → entry ≡ bound_by (found_of k.found)
    → IsPassedWith k.binds entry old now → IsPassedOver (option_map command_row_of o) old now
over_command o k entry old now is same passed =
    subst (λ p. IsPassedOver (option_map command_row_of p) old now) (sym is) (subst (λ n. IsPassedWith k.binds n old now) same passed)

over_none : (o : Option RustCommandRow) (e : Entries) → o ≡ None → IsPassedOver (option_map command_row_of o) e e
over_none o e none = subst (λ p. IsPassedOver (option_map command_row_of p) e e) (sym none) refl

pub loop-i-preserved : goal.loop-i-preserved
loop-i-preserved c =
    let rows = c.args.rows.now in
    let i = c.loop-i.i in
    let row = get_or rows i c.index-rows-i.result in
    let first = c.args.self.now in
    let old = c.loop-i.self in
    let split : rows_of (take i rows) ++ row_of row ∷ [] ≡ rows_of (take (i + 1) rows) = sym (map_more row_of rows i c.index-rows-i.result (omega arith)) in
    elim c.match-rows-i.branch [
      | in-Some w ↦
          let passed = over_command row.command w.in-Some.command w.bound.result old w.rebind.new.self w.in-Some.is w.bound.ensures
          (record { set = w.rebind.ensures.set; others = w.rebind.ensures.others; room = w.rebind.ensures.room }) in
          rw w.self-is
          (subst (λ rs. IsPassedBy rs first w.rebind.new.self) split
          (one_more (rows_of (take i rows)) (row_of row) first old w.rebind.new.self c.loop-i.invariant passed))
      | in_default w ↦
          rw w.self-is
          (subst (λ rs. IsPassedBy rs first old) split
          (one_more (rows_of (take i rows)) (row_of row) first old old c.loop-i.invariant (over_none row.command old w.in_default.is)))
    ]
