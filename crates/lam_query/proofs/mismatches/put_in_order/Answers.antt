use Rattle.std.proofs.Common.{rules}
use Rattle.std.proofs.lemmas.List.Sorted.{IsPermutation-map, answers_always}
use Rattle.lam_query.specs.Views.{fault_of, explained_of}
use Rattle.lam_query.proofs.Ordered.{explained_sorted}
use Rattle.lam_query.proofs.mismatches.put_in_order.Goals as goal

pub returns : goal.returns
returns c = record {
  same = IsPermutation-map explained_of _ _ c.in_ok-sort_by_key.ensures.permutation;
  order = record {
    same = IsPermutation-map (λ e. fault_of e.fault) _ _ c.in_ok-sort_by_key.ensures.permutation;
    sorted =
        explained_sorted _
        (c.in_ok-sort_by_key.ensures.sorted (λ e. (e.fault.span.start, e.fault.span.end, e.fault.code)) (answers_always _ _ _ (λ e a r g k. search rules)));
  };
}
