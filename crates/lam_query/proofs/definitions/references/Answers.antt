use Rattle.std.proofs.Common.{◌≡◌, None, refl, ap, ◌∙◌}
use Rattle.lam_query.proofs.Defining.{no_definition, no_references, row_defines, token_in, behind_token, token_put, nothing_put, row_references, rows_stand}
use Rattle.lam_query.proofs.definitions.references.Goals as goal
use Rattle.lam_query.proofs.definitions.references.Goals.{then-declared+in_ok-push, else-declared}

pub returns-in_default-clause-references : goal.returns-in_default-clause-references
returns-in_default-clause-references c = no_references c.args.text.now c.args.offset c.args.declared (no_definition c.args.text.now c.args.offset (rw c.in_default.is at c.touched.ensures))

pub returns-in_default-binder_at-clause-references : goal.returns-in_default-binder_at-clause-references
returns-in_default-binder_at-clause-references c =
    let of = rw c.deref.ensures.value at c.in_ok-scopes.ensures in
    no_references c.args.text.now c.args.offset c.args.declared
    (row_defines c.args.text.now c.args.offset c.in-Some.start None None _ c.in_ok-scopes.scopes c.in_ok-parsed.ensures of c.in-Some.ensures c.in_default-binder_at.ensures refl)

pub returns : goal.returns
returns c =
    let of = rw c.deref.ensures.value at c.in_ok-scopes.ensures in
    let scopes = c.in_ok-scopes.scopes in
    let binder = c.in-Some-binder_at.binder.0 in
    let declared = c.args.declared in
    let front : c.if-declared.spans.items ≡ behind_token declared (token_in scopes binder) =
    elim c.if-declared.branch [
      | then-declared+in_ok-push w ↦ token_put declared _ _ _ _ w.if-declared.true c.new-spans.ensures.items (ap (λ v. v.items) w.spans-is ∙ w.in_ok-push.ensures.items) w.token_of.ensures
      | else-declared w ↦ nothing_put declared _ _ _ w.if-declared.false c.new-spans.ensures.items (ap (λ v. v.items) w.spans-is)
    ] in
    let joined = c.in_ok-extend_from_slice.ensures.items in
    record {
      references = row_references c.args.text.now c.args.offset c.in-Some.start binder declared _ _ _ _ scopes c.in_ok-parsed.ensures of c.in-Some.ensures c.in-Some-binder_at.ensures c.uses_of.ensures front joined;
      whole_characters = rows_stand c.args.text.now c.in-Some.start binder declared _ _ _ _ scopes c.in_ok-parsed.ensures of c.in-Some-binder_at.ensures c.uses_of.ensures front joined;
    }
