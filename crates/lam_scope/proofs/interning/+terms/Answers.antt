use Rattle.std.proofs.Common.{refl, sym, ◌∙◌, ap, ◌++◌, ◌∷◌, [], Err, append_assoc, drop, ◌+◌, arith}
use Rattle.std.proofs.lemmas.List.{append-nil}
use Rattle.std.proofs.lemmas.Result.{err_from_is_err_and}
use Rattle.lam_rules.proofs.Tables.{keeps_trans}
use Rattle.lam_syntax.specs.Views.{term_of as tree_of, type_of, fields_of}
use Rattle.lam_scope.specs.Nameless.{written_in, written_in_fields, faults_in, first_over_limit}
use Rattle.lam_scope.specs.NumberedNames.{abbreviations_over}
use Rattle.lam_scope.proofs.TreeSizes.{field_size}
use Rattle.lam_scope.proofs.TypeNames.{kept_names}
use Rattle.lam_scope.proofs.InternedForms.{refused_first, refused_second, refused_third, apply_interned, ascribe_interned, if_interned, lambda_interned, let_interned, letrec_interned, record_interned, terms_more, term_faults_more, term_limit_more, written_next, terms_refused, terms_all}
use Rattle.lam_scope.proofs.interning.+terms.Goals as goal

-- an application

pub apply_of-returns-in_err-first-clause-interned : goal.apply_of-returns-in_err-first-clause-interned
apply_of-returns-in_err-first-clause-interned t c =
    let p = err_from_is_err_and c.from_residual.result c.from_residual.ensures.1 in
    refused_first c.args.seen.now c.args.names.now _ _ _ _ _ _ _ _ _ (p.1 ∙ ap (λ y. Err y) p.2) refl c.in_err-first.ensures.interned.types

pub apply_of-intern_term-requires-2 : goal.apply_of-intern_term-requires-2
apply_of-intern_term-requires-2 t c =
    (omega (arith, c.decreases), (kept_names c.args.table.now c.intern_term.new.table c.args.seen.now c.in_ok-first.ensures.interned.types.keeps c.requires).1)

pub apply_of-returns-in_err-second-clause-interned : goal.apply_of-returns-in_err-second-clause-interned
apply_of-returns-in_err-second-clause-interned t c =
    let p = err_from_is_err_and c.from_residual-in_err-second.result c.from_residual-in_err-second.ensures.1 in
    refused_second c.args.seen.now c.args.names.now _ _ _ [] _ _ _ _ _ _ _ _ _ c.requires (p.1 ∙ ap (λ y. Err y) p.2) (sym (append-nil _)) c.in_ok-first.ensures.interned.types c.in_err-second.ensures.interned.types

pub apply_of-returns-clause-interned : goal.apply_of-returns-clause-interned
apply_of-returns-clause-interned t c =
    apply_interned c.args.seen.now c.args.names.now c.intern_term.new.names _ _ _ _ c.args.table.now c.intern_term.new.table c.intern_term-2.new.table _ _ _ _ _ _
    c.requires c.in_ok-first.ensures.interned c.in_ok-first.ensures.names c.in_ok-second.ensures.interned c.in_ok-make_application.ensures

-- an ascription

pub ascribe_of-returns-in_err-form-clause-interned : goal.ascribe_of-returns-in_err-form-clause-interned
ascribe_of-returns-in_err-form-clause-interned t c =
    let p = err_from_is_err_and c.from_residual.result c.from_residual.ensures.1 in
    refused_first c.args.seen.now c.args.names.now _ _ _ _ _ _ _ _ _ (p.1 ∙ ap (λ y. Err y) p.2) refl c.in_err-form.ensures.interned.types

pub ascribe_of-intern_written-requires : goal.ascribe_of-intern_written-requires
ascribe_of-intern_written-requires t c =
    (kept_names c.args.table.now c.intern_term.new.table c.args.seen.now c.in_ok-form.ensures.interned.types.keeps c.requires).1

pub ascribe_of-returns-in_err-written-clause-interned : goal.ascribe_of-returns-in_err-written-clause-interned
ascribe_of-returns-in_err-written-clause-interned t c =
    let p = err_from_is_err_and c.from_residual-in_err-written.result c.from_residual-in_err-written.ensures.1 in
    refused_second c.args.seen.now c.args.names.now _ _ (type_of c.args.term.now.ty ∷ []) [] _ _ _ _ _ _ _ _ _ c.requires (p.1 ∙ ap (λ y. Err y) p.2) (sym (append-nil _)) c.in_ok-form.ensures.interned.types c.in_err-written.ensures.types

pub ascribe_of-returns-clause-interned : goal.ascribe_of-returns-clause-interned
ascribe_of-returns-clause-interned t c =
    ascribe_interned c.args.seen.now c.args.names.now _ _ _ c.args.table.now c.intern_term.new.table c.intern_written.new.table _ _ _ _ _ _
    c.requires c.in_ok-form.ensures.interned c.in_ok-written.ensures c.in_ok-make_ascription.ensures

-- an if

pub if_of-returns-in_err-first-clause-interned : goal.if_of-returns-in_err-first-clause-interned
if_of-returns-in_err-first-clause-interned t c =
    let p = err_from_is_err_and c.from_residual.result c.from_residual.ensures.1 in
    refused_first c.args.seen.now c.args.names.now _ (written_in (tree_of c.args.term.now.condition)) ((written_in (tree_of c.args.term.now.then_term)) ++ (written_in (tree_of c.args.term.now.else_term))) _ _ _ _ _ _ (p.1 ∙ ap (λ y. Err y) p.2) (append_assoc (written_in (tree_of c.args.term.now.condition)) (written_in (tree_of c.args.term.now.then_term)) (written_in (tree_of c.args.term.now.else_term))) c.in_err-first.ensures.interned.types

pub if_of-intern_term-requires-2 : goal.if_of-intern_term-requires-2
if_of-intern_term-requires-2 t c =
    (omega (arith, c.decreases), (kept_names c.args.table.now c.intern_term.new.table c.args.seen.now c.in_ok-first.ensures.interned.types.keeps c.requires).1)

pub if_of-returns-in_err-second-clause-interned : goal.if_of-returns-in_err-second-clause-interned
if_of-returns-in_err-second-clause-interned t c =
    let p = err_from_is_err_and c.from_residual-in_err-second.result c.from_residual-in_err-second.ensures.1 in
    refused_second c.args.seen.now c.args.names.now _ (written_in (tree_of c.args.term.now.condition)) (written_in (tree_of c.args.term.now.then_term)) (written_in (tree_of c.args.term.now.else_term)) _ _ _ _ _ _ _ _ _ c.requires (p.1 ∙ ap (λ y. Err y) p.2) refl c.in_ok-first.ensures.interned.types c.in_err-second.ensures.interned.types

pub if_of-intern_term-requires-3 : goal.if_of-intern_term-requires-3
if_of-intern_term-requires-3 t c =
    (omega (arith, c.decreases), (kept_names c.args.table.now c.intern_term-2.new.table c.args.seen.now (keeps_trans c.args.table.now c.intern_term.new.table c.intern_term-2.new.table c.in_ok-first.ensures.interned.types.keeps c.in_ok-second.ensures.interned.types.keeps) c.requires).1)

pub if_of-returns-in_err-third-clause-interned : goal.if_of-returns-in_err-third-clause-interned
if_of-returns-in_err-third-clause-interned t c =
    let p = err_from_is_err_and c.from_residual-in_err-third.result c.from_residual-in_err-third.ensures.1 in
    refused_third c.args.seen.now c.args.names.now _ (written_in (tree_of c.args.term.now.condition)) (written_in (tree_of c.args.term.now.then_term)) (written_in (tree_of c.args.term.now.else_term)) _ _ _ _ _ _ _ _ _ _ _ _ c.requires (p.1 ∙ ap (λ y. Err y) p.2) refl c.in_ok-first.ensures.interned.types c.in_ok-second.ensures.interned.types
    c.in_err-third.ensures.interned.types

pub if_of-returns-clause-interned : goal.if_of-returns-clause-interned
if_of-returns-clause-interned t c =
    if_interned c.args.seen.now c.args.names.now c.intern_term.new.names c.intern_term-2.new.names _ _ _ _ _ _ c.args.table.now c.intern_term.new.table c.intern_term-2.new.table c.intern_term-3.new.table _ _ _ _ _ _ _ _
    c.requires c.in_ok-first.ensures.interned c.in_ok-first.ensures.names c.in_ok-second.ensures.interned c.in_ok-second.ensures.names c.in_ok-third.ensures.interned c.in_ok-make_if.ensures

-- a lambda

pub lambda_of-intern_under-requires : goal.lambda_of-intern_under-requires
lambda_of-intern_under-requires t c =
    (omega (arith, c.decreases), (kept_names c.args.table.now c.intern_written.new.table c.args.seen.now c.in_ok-written.ensures.types.keeps c.requires).1)

pub lambda_of-returns-in_err-body-clause-interned : goal.lambda_of-returns-in_err-body-clause-interned
lambda_of-returns-in_err-body-clause-interned t c =
    let p = err_from_is_err_and c.from_residual-in_err-body.result c.from_residual-in_err-body.ensures.1 in
    refused_second c.args.seen.now c.args.names.now _ (type_of c.args.term.now.ty ∷ []) (written_in (tree_of c.args.term.now.body)) [] _ _ _ _ _ _ _ _ _ c.requires (p.1 ∙ ap (λ y. Err y) p.2) (sym (append-nil _)) c.in_ok-written.ensures.types c.in_err-body.ensures.interned.types

pub lambda_of-returns-clause-interned : goal.lambda_of-returns-clause-interned
lambda_of-returns-clause-interned t c =
    lambda_interned c.args.seen.now c.args.names.now _ _ _ _ _ c.args.table.now c.intern_written.new.table c.intern_under.new.table _ _ _ _ _ _
    c.requires c.in_ok-written.ensures c.in_ok-body.ensures.interned c.in_ok-make_lambda.ensures

-- a let

pub let_of-returns-in_err-first-clause-interned : goal.let_of-returns-in_err-first-clause-interned
let_of-returns-in_err-first-clause-interned t c =
    let p = err_from_is_err_and c.from_residual.result c.from_residual.ensures.1 in
    refused_first c.args.seen.now c.args.names.now _ _ _ _ _ _ _ _ _ (p.1 ∙ ap (λ y. Err y) p.2) refl c.in_err-first.ensures.interned.types

pub let_of-intern_under-requires : goal.let_of-intern_under-requires
let_of-intern_under-requires t c =
    (omega (arith, c.decreases), (kept_names c.args.table.now c.intern_term.new.table c.args.seen.now c.in_ok-first.ensures.interned.types.keeps c.requires).1)

pub let_of-returns-in_err-second-clause-interned : goal.let_of-returns-in_err-second-clause-interned
let_of-returns-in_err-second-clause-interned t c =
    let p = err_from_is_err_and c.from_residual-in_err-second.result c.from_residual-in_err-second.ensures.1 in
    refused_second c.args.seen.now c.args.names.now _ _ _ [] _ _ _ _ _ _ _ _ _ c.requires (p.1 ∙ ap (λ y. Err y) p.2) (sym (append-nil _)) c.in_ok-first.ensures.interned.types c.in_err-second.ensures.interned.types

pub let_of-returns-clause-interned : goal.let_of-returns-clause-interned
let_of-returns-clause-interned t c =
    let_interned c.args.seen.now c.args.names.now c.intern_term.new.names _ _ _ _ _ _ c.args.table.now c.intern_term.new.table c.intern_under.new.table _ _ _ _ _ _
    c.requires c.in_ok-first.ensures.interned c.in_ok-first.ensures.names c.in_ok-second.ensures.interned c.in_ok-make_let.ensures

-- a letrec

pub letrec_of-intern_under-requires : goal.letrec_of-intern_under-requires
letrec_of-intern_under-requires t c =
    (omega (arith, c.decreases), (kept_names c.args.table.now c.intern_written.new.table c.args.seen.now c.in_ok-written.ensures.types.keeps c.requires).1)

pub letrec_of-returns-in_err-first-clause-interned : goal.letrec_of-returns-in_err-first-clause-interned
letrec_of-returns-in_err-first-clause-interned t c =
    let p = err_from_is_err_and c.from_residual-in_err-first.result c.from_residual-in_err-first.ensures.1 in
    refused_second c.args.seen.now c.args.names.now _ (type_of c.args.term.now.ty ∷ []) (written_in (tree_of c.args.term.now.bound)) (written_in (tree_of c.args.term.now.body)) _ _ _ _ _ _ _ _ _ c.requires (p.1 ∙ ap (λ y. Err y) p.2) refl c.in_ok-written.ensures.types c.in_err-first.ensures.interned.types

pub letrec_of-intern_under-requires-2 : goal.letrec_of-intern_under-requires-2
letrec_of-intern_under-requires-2 t c =
    (omega (arith, c.decreases), (kept_names c.args.table.now c.intern_under.new.table c.args.seen.now (keeps_trans c.args.table.now c.intern_written.new.table c.intern_under.new.table c.in_ok-written.ensures.types.keeps c.in_ok-first.ensures.interned.types.keeps) c.requires).1)

pub letrec_of-returns-in_err-second-clause-interned : goal.letrec_of-returns-in_err-second-clause-interned
letrec_of-returns-in_err-second-clause-interned t c =
    let p = err_from_is_err_and c.from_residual-in_err-second.result c.from_residual-in_err-second.ensures.1 in
    refused_third c.args.seen.now c.args.names.now _ (type_of c.args.term.now.ty ∷ []) (written_in (tree_of c.args.term.now.bound)) (written_in (tree_of c.args.term.now.body)) _ _ _ _ _ _ _ _ _ _ _ _ c.requires (p.1 ∙ ap (λ y. Err y) p.2) refl c.in_ok-written.ensures.types c.in_ok-first.ensures.interned.types
    c.in_err-second.ensures.interned.types

pub letrec_of-returns-clause-interned : goal.letrec_of-returns-clause-interned
letrec_of-returns-clause-interned t c =
    letrec_interned c.args.seen.now c.args.names.now c.intern_under.new.names _ _ _ _ _ _ _ c.args.table.now c.intern_written.new.table c.intern_under.new.table c.intern_under-2.new.table _ _ _ _ _ _ _ _
    c.requires c.in_ok-written.ensures c.in_ok-first.ensures.interned c.in_ok-first.ensures.names c.in_ok-second.ensures.interned c.in_ok-make_letrec.ensures

-- a record

pub record_of-returns-clause-interned : goal.record_of-returns-clause-interned
record_of-returns-clause-interned t c =
    record_interned c.args.seen.now c.args.names.now _ c.args.table.now c.intern_fields.new.table _ _ _ _ c.in_ok-forms.ensures.interned refl

pub intern_fields-intern_term-requires : goal.intern_fields-intern_term-requires
intern_fields-intern_term-requires t c =
    (omega (arith, c.decreases, field_size c.args.fields.now c.loop-i.i c.index-fields-i.result c.loop-i-test.true c.index-fields-i.is), (kept_names c.args.table.now c.loop-i.table c.args.seen.now c.loop-i.invariant.keeps c.requires).1)

pub intern_fields-loop-i-preserved : goal.intern_fields-loop-i-preserved
intern_fields-loop-i-preserved t c =
    let old = c.args.table.now in
    let fs = c.args.fields.now in
    let f = c.index-fields-i.result in
    let one = c.in_ok-form.ensures.interned in
    let so_far = c.loop-i.invariant in
    let next = written_next fs c.loop-i.i f c.loop-i-test.true c.index-fields-i.is in
    let us = written_in (tree_of f.term) in
    let vs = written_in_fields (fields_of (drop (c.loop-i.i + 1) fs)) in
    let bs = abbreviations_over old c.args.seen.now in
    let more =
    terms_more c.args.seen.now c.args.names.now c.loop-i.names fs c.loop-i.i f old c.loop-i.table c.intern_term.new.table c.loop-i.interning.faults.items c.intern_term.new.interning.faults.items
    c.loop-i.forms.items c.push.new.self.items c.in_ok-form.form _ _ c.loop-i-test.true c.index-fields-i.is c.requires so_far.keeps so_far.names so_far.stand so_far.forms
    one c.in_ok-push.ensures.items refl c.as_str.ensures in
    record {
      keeps = keeps_trans old c.loop-i.table c.intern_term.new.table so_far.keeps one.types.keeps;
      stand = more.0;
      forms = more.1;
      faults = term_faults_more c.args.seen.now us vs old c.loop-i.table c.loop-i.interning.faults.items c.intern_term.new.interning.faults.items _ c.requires so_far.keeps one.types.faults
          (ap (λ ws. c.loop-i.interning.faults.items ++ faults_in bs ws) (sym next) ∙ so_far.faults);
      limit = term_limit_more c.args.seen.now us vs old c.loop-i.table _ c.requires so_far.keeps one.types.limit (so_far.limit ∙ ap (first_over_limit bs) next);
      names = c.in_ok-form.ensures.names ∙ so_far.names;
    }

pub intern_fields-returns-in_err-form-clause-interned : goal.intern_fields-returns-in_err-form-clause-interned
intern_fields-returns-in_err-form-clause-interned t c =
    let p = err_from_is_err_and c.from_residual-in_err-form.result c.from_residual-in_err-form.ensures.1 in
    let old = c.args.table.now in
    let fs = c.args.fields.now in
    let f = c.index-fields-i.result in
    let next = written_next fs c.loop-i.i f c.loop-i-test.true c.index-fields-i.is in
    let us = written_in (tree_of f.term) in
    let vs = written_in_fields (fields_of (drop (c.loop-i.i + 1) fs)) in
    terms_refused c.args.seen.now c.args.names.now _ us vs old c.loop-i.table c.intern_term.new.table _ _ _ _ _ c.requires c.loop-i.invariant.keeps (p.1 ∙ ap (λ y. Err y) p.2)
    (c.loop-i.invariant.limit ∙ ap (first_over_limit (abbreviations_over old c.args.seen.now)) next) c.in_err-form.ensures.interned.types

pub intern_fields-returns-clause-interned : goal.intern_fields-returns-clause-interned
intern_fields-returns-clause-interned t c =
    let so_far = c.loop-i.invariant in
    terms_all c.args.seen.now c.args.names.now c.args.fields.now c.loop-i.i c.args.table.now c.loop-i.table _ _ c.loop-i.forms c.loop-i-test.false so_far.keeps so_far.stand so_far.forms so_far.faults so_far.limit
