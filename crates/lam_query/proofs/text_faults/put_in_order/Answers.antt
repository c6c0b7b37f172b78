use Rattle.std.proofs.Common.{rules}
use Rattle.std.proofs.lemmas.List.Sorted.{IsPermutation-map, answers_always}
use Rattle.lam_query.specs.Views.{fault_of}
use Rattle.lam_query.proofs.Ordered.{sorted_seen}
use Rattle.lam_query.proofs.text_faults.put_in_order.Goals as goal

pub returns : goal.returns
returns c = record {
  same = IsPermutation-map fault_of _ _ c.in_ok-sort_by_key.ensures.permutation;
  sorted = sorted_seen _ (c.in_ok-sort_by_key.ensures.sorted (λ f. (f.span.start, f.span.end, f.code)) (answers_always _ _ _ (λ f a r g k. search rules)));
}
