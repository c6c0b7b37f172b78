use Rattle.std.proofs.Common.{map, refl}
use Rattle.std.proofs.lemmas.Result.{err_from_is_err_and}
use Rattle.serde_json.specs.View.{view}
use Rattle.lam_query.specs.Views.{entry_of}
use Rattle.lam_check.specs.Unreadable.{in_context, in_steps}
use Rattle.lam_check.proofs.Unreadable.{all_entries, listed_array, with_lists}
use Rattle.lam_check.proofs.read_derivations.derivation_in.Goals as goal

pub returns-in_err-context-clause-unread : goal.returns-in_err-context-clause-unread
returns-in_err-context-clause-unread c =
    let told = err_from_is_err_and c.from_residual.result c.from_residual.ensures.1 in
    let first = c.in-Some.context.now in
    let second = c.in-Some.steps.now in
    let cs = c.deref.result.now in
    let ss = c.in-Some-as_array-2.steps.now.items in
    let lists = with_lists (view c.args.value.now) (view first) (view second) (map view cs) (map view ss) c.in-Some.ensures.some
    (listed_array (view first) c.in-Some-as_array.context.now.items cs c.in-Some-as_array.ensures c.deref.ensures.value) (listed_array (view second) ss ss c.in-Some-as_array-2.ensures refl) in
    rw (told.1, told.2) (λ other. in_context (map view cs) (map view ss) lists (c.in_err-context.ensures.unread other))

pub returns-in_err-steps-clause-unread : goal.returns-in_err-steps-clause-unread
returns-in_err-steps-clause-unread c =
    let told = err_from_is_err_and c.from_residual-in_err-steps.result c.from_residual-in_err-steps.ensures.1 in
    let first = c.in-Some.context.now in
    let second = c.in-Some.steps.now in
    let cs = c.deref.result.now in
    let ss = c.deref-2.result.now in
    let lists = with_lists (view c.args.value.now) (view first) (view second) (map view cs) (map view ss) c.in-Some.ensures.some
    (listed_array (view first) c.in-Some-as_array.context.now.items cs c.in-Some-as_array.ensures c.deref.ensures.value)
    (listed_array (view second) c.in-Some-as_array-2.steps.now.items ss c.in-Some-as_array-2.ensures c.deref-2.ensures.value) in
    rw (told.1, told.2) (λ other. in_steps (map view cs) (map view ss) lists (all_entries (map view cs) (map entry_of c.in_ok-context.context.items) c.in_ok-context.ensures.read c.in_ok-context.ensures.readable) (c.in_err-steps.ensures.unread other))
