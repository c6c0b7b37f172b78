use Rattle.std.proofs.Common.{string_bytes, rules}
use Rattle.std.specs.Cmp.Lexicographic.{nat_list_cmp_total}
use Rattle.std.proofs.lemmas.List.Sorted.{ranks_by, answers_always}
use Rattle.std.proofs.lemmas.Result.{on_ok_weaker}
use Rattle.lam_rules.proofs.LabelOrder.{is_before, stable_sorting}
use Rattle.lam_rules.proofs.sorting.sort_by_label.Goals as goal

pub returns-clause-sorting : goal.returns-clause-sorting
returns-clause-sorting g c =
    let order = ranks_by nat_list_cmp_total (λ x. string_bytes x.0) in
    let compares = answers_always _ _ _ (λ f a r next called. search rules) in
    on_ok_weaker c.sort_by.result
    (λ up typ. stable_sorting typ _ _ (up is_before order compares) (c.sort_by.ensures.stable is_before order compares))
    c.sort_by.ensures.sorted
