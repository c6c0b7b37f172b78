use Rattle.std.proofs.Common.{sym, ◌∙◌, ap, map, length, ◌≡◌, ◌+◌, ◌∷◌, arith}
use Rattle.lam_syntax.specs.Letters.{letters}
use Rattle.std.specs.Option.{option_map}
use Rattle.lam_syntax.specs.Trees.{lambda}
use Rattle.lam_syntax.specs.Views.{term_of, bound_of, type_of}
use Rattle.lam_scope.specs.declared.numbers.Origin.TheVariants.{TypeName}
use Rattle.lam_scope.specs.Sights.{lambda_at, term_at}
use Rattle.lam_scope.specs.Tables.{◌⊕◌, entry, root, behind, binders_in, binder_row, term_table, node_table}
use Rattle.std.proofs.lemmas.List.{append-nil, drop_all, length-map}
use Rattle.lam_scope.specs.TableViews.{rows_of, place_number, text_binder}
use Rattle.lam_scope.proofs.TableRows.{walks, plus_assoc, fields_more, roots_more, binders_more, places_more, fields_walked, bound_rows, lambda_rows, letrec_walked}
use Rattle.lam_scope.proofs.TreeSizes.{field_size}
use Rattle.lam_scope.proofs.walk.+terms.Goals as goal

pub walk_fields-loop-i-preserved : goal.walk_fields-loop-i-preserved
walk_fields-loop-i-preserved t c =
    let fs = c.args.fields.now in
    let i = c.loop-i.i in
    let f = c.index-fields-i.result in
    let lt = c.loop-i-test.true in
    let is = c.index-fields-i.is in
    let e = c.in_ok-place.ensures.walked in
    record {
      table = fields_more (rows_of c.loop-i.rows) _ _ _ _ _ _ _ _ _ fs i f lt is e.table c.in_ok-place.ensures.names e.binders e.places c.loop-i.invariant.table;
      terms = roots_more c.loop-i.terms.items _ c.in_ok-place.place _ _ fs i f _ lt is c.in_ok-push.ensures.items e.place e.places c.loop-i.invariant.terms;
      binders = binders_more (length c.loop-i.rows.binders.items) _ _ fs i f lt is e.binders c.loop-i.invariant.binders;
      places = places_more (length c.loop-i.rows.places.items) _ _ fs i f lt is e.places c.loop-i.invariant.places;
      names = c.in_ok-place.ensures.names ∙ c.loop-i.invariant.names;
    }

pub walk_fields-returns-clause-table : goal.walk_fields-returns-clause-table
walk_fields-returns-clause-table t c = fields_walked (rows_of c.loop-i.rows) _ c.args.types.now _ _ _ c.args.fields.now c.loop-i.i c.loop-i-test.false c.loop-i.invariant.table

pub walk_fields-returns-clause-terms : goal.walk_fields-returns-clause-terms
walk_fields-returns-clause-terms t c = sym (append-nil (map place_number c.loop-i.terms.items)) ∙ (rw (drop_all c.loop-i.i c.args.fields.now c.loop-i-test.false) at c.loop-i.invariant.terms)

pub walk_fields-returns-clause-binders : goal.walk_fields-returns-clause-binders
walk_fields-returns-clause-binders t c = let whole = rw (drop_all c.loop-i.i c.args.fields.now c.loop-i-test.false) at c.loop-i.invariant.binders in omega arith

pub walk_fields-returns-clause-places : goal.walk_fields-returns-clause-places
walk_fields-returns-clause-places t c = let whole = rw (drop_all c.loop-i.i c.args.fields.now c.loop-i-test.false) at c.loop-i.invariant.places in omega arith

pub walk_bound-returns-clause-walked : goal.walk_bound-returns-clause-walked
walk_bound-returns-clause-walked t c =
    let old = c.args.rows.now in
    let added = c.in_ok-add_binder.ensures in
    let walked = c.in_ok-place.ensures.walked in
    let tree = term_of c.args.bound.now in
    record {
      table = bound_rows (rows_of old) _ _ _ _ _ _ _ _ _ _ _ _ _
          (added.table ∙ ap (λ a. rows_of old ⊕ binder_row (option_map (λ x. letters x.now) c.args.name) c.args.token c.args.names.now a TypeName) c.binder_count.ensures)
          walked.table c.set_origin.ensures.table (c.binder_count.ensures ∙ sym (length-map old.binders.items text_binder))
          (λ i. term_table c.args.types.now c.args.names.now (added.binders i) (length (added.places i).items) tree)
          (ap (λ m. term_at m) (walked.place ∙ ap (λ v. root (length v.items) tree) added.places));
      place = walked.place ∙ ap (λ v. root (length v.items) tree) added.places;
      binders = c.set_origin.ensures.binders ∙ walked.binders ∙ ap (λ n. n + binders_in tree) added.binders;
      places = ap (λ v. length v.items) c.set_origin.ensures.places ∙ walked.places ∙ ap (λ v. behind (length v.items) tree) added.places;
    }

pub walk_lambda-returns-clause-walked : goal.walk_lambda-returns-clause-walked
walk_lambda-returns-clause-walked t c =
    let old = c.args.rows.now in
    let nm = c.args.names.now in
    let added = c.in_ok-add_binder.ensures in
    let typed = c.in_ok-walk_type.ensures in
    let walked = c.in_ok-body.ensures.walked in
    let named = c.seen_as-seen.ensures in
    let tree = term_of c.args.term.now.body in
    let same_places = typed.places ∙ added.places in
    let before_its_place : rows_of c.set_origin.new.self ≡ rows_of old ⊕ node_table c.args.types.now nm (length old.binders.items) (length old.places.items) (lambda (bound_of c.args.term.now.binder) (type_of c.args.term.now.ty) tree) =
    lambda_rows (rows_of old) _ _ _ _ _ _ _ _ _ _ _ _ _ _ _
    (added.table ∙ (λ i. rows_of old ⊕ binder_row (named.name i) c.args.term.now.binder.span nm (c.binder_count.ensures i) TypeName))
    typed.table walked.table c.set_origin.ensures.table (c.binder_count.ensures ∙ sym (length-map old.binders.items text_binder))
    (λ i. term_table c.args.types.now
    ((named.entry ∙ ap (λ m. entry (option_map (λ s. letters s) c.args.term.now.binder.name) m m) c.binder_count.ensures) i ∷ nm)
    ((ap (λ v. length v.items) typed.binders ∙ added.binders) i) (length (same_places i).items) tree)
    (ap (λ m. lambda_at m) (c.place_count.ensures ∙ walked.places ∙ ap (λ v. behind (length v.items) tree) same_places)) in
    grind (arith, plus_assoc)

pub walk_fix-returns-clause-walked : goal.walk_fix-returns-clause-walked
walk_fix-returns-clause-walked t c =
    let old = c.args.rows.now in
    let first = c.in_ok-add_binder.ensures in
    let second = c.in_ok-add_binder-2.ensures in
    let typed = c.in_ok-walk_type.ensures in
    let walked = c.in_ok-place.ensures.walked in
    let derived = c.in_ok-fixed.ensures in
    let tree = term_of c.args.term.now.bound in
    let n = length old.binders.items in
    let two_more : n + 1 + 1 ≡ n + 2 = omega arith in
    let same_places = ap (λ v. length v.items) (typed.places ∙ second.places ∙ first.places) in
    let same_binders = ap (λ v. length v.items) typed.binders ∙ second.binders ∙ ap (λ m. m + 1) first.binders ∙ two_more in
    let above = walked.places ∙ ap (λ m. behind m tree) same_places in
    record {
      table = letrec_walked c.args.types.now c.args.names.now c.walk_under.new.names (rows_of old) (rows_of c.add_binder.new.self) (rows_of c.add_binder-2.new.self)
          (rows_of c.walk_type.new.rows) (rows_of c.walk_under.new.rows) (rows_of c.add_derived.new.rows) _ _ _ _ c.args.term.now.bound.span c.binder_count.result n
          (length c.walk_type.new.rows.binders.items) (length old.places.items) (length c.walk_type.new.rows.places.items) (length c.walk_under.new.rows.places.items) c.in_ok-place.place.0 tree
          c.name_of.ensures c.binder_count.ensures first.table second.table typed.table walked.table derived.table c.in_ok-place.ensures.names
          same_binders same_places above (walked.place ∙ ap (λ m. root m tree) same_places) (sym (length-map old.binders.items text_binder));
      place = omega (arith, derived.place, above);
      binders = derived.binders ∙ walked.binders ∙ ap (λ m. m + binders_in tree) same_binders;
      places = omega (arith, derived.places, above);
    }

pub walk_fields-walk_term-requires : goal.walk_fields-walk_term-requires
walk_fields-walk_term-requires t c = omega (arith, c.decreases, field_size c.args.fields.now c.loop-i.i c.index-fields-i.result c.loop-i-test.true c.index-fields-i.is)

-- each form of a term

pub walk_term-returns-in-True-clause-walked : goal.walk_term-returns-in-True-clause-walked
walk_term-returns-in-True-clause-walked t c = grind (arith, walks)

pub walk_term-returns-in-False-clause-walked : goal.walk_term-returns-in-False-clause-walked
walk_term-returns-in-False-clause-walked t c = grind (arith, walks)

pub walk_term-returns-in-Unit-clause-walked : goal.walk_term-returns-in-Unit-clause-walked
walk_term-returns-in-Unit-clause-walked t c = grind (arith, walks)

pub walk_term-returns-in-Numeral-clause-walked : goal.walk_term-returns-in-Numeral-clause-walked
walk_term-returns-in-Numeral-clause-walked t c = grind (arith, walks)

pub walk_term-returns-in-Variable-clause-walked : goal.walk_term-returns-in-Variable-clause-walked
walk_term-returns-in-Variable-clause-walked t c = grind (arith, walks)

pub walk_term-returns-in-Lambda-clause-walked : goal.walk_term-returns-in-Lambda-clause-walked
walk_term-returns-in-Lambda-clause-walked t c = grind (arith, walks)

pub walk_term-returns-in-If-clause-walked : goal.walk_term-returns-in-If-clause-walked
walk_term-returns-in-If-clause-walked t c = grind (arith, walks)

pub walk_term-returns-in-Let-clause-walked : goal.walk_term-returns-in-Let-clause-walked
walk_term-returns-in-Let-clause-walked t c = grind (arith, walks)

pub walk_term-returns-in-Letrec-clause-walked : goal.walk_term-returns-in-Letrec-clause-walked
walk_term-returns-in-Letrec-clause-walked t c = grind (arith, walks)

pub walk_term-returns-in-Prefixed-clause-walked : goal.walk_term-returns-in-Prefixed-clause-walked
walk_term-returns-in-Prefixed-clause-walked t c = grind (arith, walks)

pub walk_term-returns-in-Apply-clause-walked : goal.walk_term-returns-in-Apply-clause-walked
walk_term-returns-in-Apply-clause-walked t c = grind (arith, walks)

pub walk_term-returns-in-Project-clause-walked : goal.walk_term-returns-in-Project-clause-walked
walk_term-returns-in-Project-clause-walked t c = grind (arith, walks)

pub walk_term-returns-in-Ascribe-clause-walked : goal.walk_term-returns-in-Ascribe-clause-walked
walk_term-returns-in-Ascribe-clause-walked t c = grind (arith, walks)

pub walk_term-returns-in-Record-clause-walked : goal.walk_term-returns-in-Record-clause-walked
walk_term-returns-in-Record-clause-walked t c = grind (arith, walks)

-- its rows

pub walk_if-returns-clause-walked : goal.walk_if-returns-clause-walked
walk_if-returns-clause-walked t c = grind (arith, walks)

pub walk_let-returns-clause-walked : goal.walk_let-returns-clause-walked
walk_let-returns-clause-walked t c = grind (arith, walks)

pub walk_letrec-returns-clause-walked : goal.walk_letrec-returns-clause-walked
walk_letrec-returns-clause-walked t c = grind (arith, walks)

pub walk_apply-returns-clause-walked : goal.walk_apply-returns-clause-walked
walk_apply-returns-clause-walked t c = grind (arith, walks)

pub walk_operand-returns-clause-table : goal.walk_operand-returns-clause-table
walk_operand-returns-clause-table t c = grind (arith, walks)

pub walk_ascribe-returns-clause-walked : goal.walk_ascribe-returns-clause-walked
walk_ascribe-returns-clause-walked t c = grind (arith, walks)

pub walk_record-returns-clause-walked : goal.walk_record-returns-clause-walked
walk_record-returns-clause-walked t c = grind (arith, walks)
