use Rattle.std.proofs.Common.{sym, ◌∙◌, ap, ◌++◌, ◌∷◌}
use Rattle.std.proofs.lemmas.Result.{err_from_is_err_and}
use Rattle.lam_syntax.specs.inner.Run.{look}
use Rattle.lam_syntax.specs.Trees.{no_type_fields}
use Rattle.lam_syntax.specs.Views.{type_fields_of}
use Rattle.lam_syntax.specs.inner.Reads.{type_fields_next}
use Rattle.lam_syntax.proofs.Steps.{reads_stop, some_type_fields, type_label_stop, colon_stop}
use Rattle.lam_syntax.proofs.parse_types.+types.Goals as goal

pub parse_record_type-returns-in_err-field-clause-read : goal.parse_record_type-returns-in_err-field-clause-read
parse_record_type-returns-in_err-field-clause-read t c =
    let p = err_from_is_err_and c.from_residual.result c.from_residual.ensures.1 in
    rw (p.1, p.2)
    (λ k. reads_stop c.in_err-field.field-0.0 _ _ _ _ (some_type_fields _ _ k c.in_default.ensures.takes) (c.in_err-field.ensures.read c.args.first no_type_fields k))

pub parse_record_type-loop-next-init : goal.parse_record_type-loop-next-init
parse_record_type-loop-next-init t c =
    let items = c.in_ok-push.ensures.items ∙ ap (λ l. l ++ c.in_ok-field.field ∷ _) c.new-fields.ensures.items in
    record {
      read = λ k.
          some_type_fields _ _ k c.in_default.ensures.takes
          ∙ c.in_ok-field.ensures.read c.args.first no_type_fields k
          ∙ ap (λ fs. look c.in_ok-field.rest.now (λ o. type_fields_next o c.args.first fs k)) (sym (ap type_fields_of items));
      shorter = c.in_ok-field.ensures.shorter;
    }

pub parse_type_field-returns-in_err-label-clause-read : goal.parse_type_field-returns-in_err-label-clause-read
parse_type_field-returns-in_err-label-clause-read t c =
    let p = err_from_is_err_and c.from_residual.result c.from_residual.ensures.1 in
    rw (p.1, p.2) (λ s before k. type_label_stop _ c.in_err-label.field-0.0 s before k _ c.in_err-label.ensures.named)

pub parse_type_field-returns-in_err-rest-clause-read : goal.parse_type_field-returns-in_err-rest-clause-read
parse_type_field-returns-in_err-rest-clause-read t c =
    let p = err_from_is_err_and c.from_residual-in_err-rest.result c.from_residual-in_err-rest.ensures.1 in
    let named = c.in_ok-label.ensures.named in
    rw (p.1, p.2) (λ s before k. colon_stop _ _ c.in_err-rest.field-0.0 s before _ _ k _ named.2 c.in_err-rest.ensures.expects)
