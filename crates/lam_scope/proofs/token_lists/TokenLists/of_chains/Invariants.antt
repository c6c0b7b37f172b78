use Rattle.std.proofs.Common.{◌≡◌, ◌-◌, ◌++◌, length, map}
use Rattle.lam_scope.specs.Slices.{sliced, AreInOrder}
use Rattle.lam_scope.specs.Tables.{tokens_by}
use Rattle.lam_scope.specs.TableViews.{text_use, list_start, listed}
use Rattle.lam_scope.proofs.token_lists.TokenLists.of_chains.Given as goal

abbrev pub invariant-loop-binder : goal.invariant-loop-binder
invariant-loop-binder l = record {
  in_order : AreInOrder list_start (length l.tokens.items) l.starts.items;
  lists : sliced list_start listed l.tokens.items l.starts.items ++ tokens_by l.binder (length l.chains.firsts.items - l.binder) (map text_use l.uses)
      ≡ tokens_by 0 (length l.chains.firsts.items) (map text_use l.uses);
}
