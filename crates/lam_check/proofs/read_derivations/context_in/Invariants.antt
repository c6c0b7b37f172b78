use Rattle.std.specs.List.{All}
use Rattle.std.specs.Option.{IfSome}
use Rattle.lam_query.specs.Views.{entry_of}
use Rattle.lam_session.specs.Derivations.{entry_value}
use Rattle.lam_check.specs.Readable.{IsReadableType}
use Rattle.lam_check.proofs.ReadValues.{AreReadTo}
use Rattle.lam_check.proofs.read_derivations.context_in.Given as goal

abbrev pub invariant-loop-i : goal.invariant-loop-i
invariant-loop-i l = record {
  read : AreReadTo (λ e. entry_value (entry_of e)) l.values l.i l.context.items;
  readable : All (λ e. IfSome (entry_of e).type IsReadableType) l.context.items;
}
