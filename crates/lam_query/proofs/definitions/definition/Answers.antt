use Rattle.std.proofs.Common.{None, Some, refl, ap}
use Rattle.lam_query.proofs.Defining.{no_definition, row_defines, row_stands}
use Rattle.lam_query.proofs.definitions.definition.Goals as goal

pub returns-in_default-clause-definition : goal.returns-in_default-clause-definition
returns-in_default-clause-definition c = no_definition c.args.text.now c.args.offset (rw c.in_default.is at c.touched.ensures)

pub returns-in_default-binder_at-clause-definition : goal.returns-in_default-binder_at-clause-definition
returns-in_default-binder_at-clause-definition c =
    let of = rw c.deref.ensures.value at c.in_ok-scopes.ensures in
    row_defines c.args.text.now c.args.offset c.in-Some.start None None _ c.in_ok-scopes.scopes c.in_ok-parsed.ensures of c.in-Some.ensures c.in_default-binder_at.ensures refl

pub returns-clause-definition : goal.returns-clause-definition
returns-clause-definition c =
    let of = rw c.deref.ensures.value at c.in_ok-scopes.ensures in
    row_defines c.args.text.now c.args.offset c.in-Some.start (Some c.in-Some-binder_at.binder.0) (Some _) _ c.in_ok-scopes.scopes c.in_ok-parsed.ensures of c.in-Some.ensures c.in-Some-binder_at.ensures (ap Some c.token_of.ensures)

pub returns-clause-whole_characters : goal.returns-clause-whole_characters
returns-clause-whole_characters c =
    let of = rw c.deref.ensures.value at c.in_ok-scopes.ensures in
    row_stands c.args.text.now c.in-Some.start c.in-Some-binder_at.binder.0 _ _ c.in_ok-scopes.scopes c.in_ok-parsed.ensures of c.in-Some-binder_at.ensures c.token_of.ensures
