use Rattle.std.proofs.Common.{refl, arith}
use Rattle.std.proofs.lemmas.Result.{err_from_is_err_and}
use Rattle.std.proofs.lemmas.List.Elements.{All-map}
use Rattle.std.specs.Option.{IfSome}
use Rattle.lam_query.specs.Views.{entry_of}
use Rattle.lam_session.specs.Derivations.{entry_value}
use Rattle.lam_check.specs.Readable.{IsReadableType}
use Rattle.lam_check.specs.Unreadable.{IsReadableEntry, IsWrongEntry}
use Rattle.lam_check.proofs.ReadValues.{one_more, one_more_readable, all_read_through}
use Rattle.lam_check.proofs.Unreadable.{first_wrong}
use Rattle.lam_check.proofs.read_derivations.context_in.Goals as goal

pub returns-in_err-entry-clause-unread : goal.returns-in_err-entry-clause-unread
returns-in_err-entry-clause-unread c =
    let told = err_from_is_err_and c.from_residual.result c.from_residual.ensures.1 in
    rw (told.1, told.2) (λ other.
    first_wrong IsReadableEntry IsWrongEntry (λ e. entry_value (entry_of e)) (λ e. IfSome (entry_of e).type IsReadableType) (λ e h. (entry_of e, h, refl))
    c.args.values.now c.loop-i.i c.index-values-i.result c.loop-i.context.items c.in_err-entry.field-0.0 (omega arith) c.index-values-i.is c.loop-i.invariant.read c.loop-i.invariant.readable (c.in_err-entry.ensures.unread other))

pub returns-clause-read : goal.returns-clause-read
returns-clause-read c = all_read_through entry_value entry_of c.args.values.now c.loop-i.i c.loop-i.context.items (omega arith) c.loop-i.invariant.read

pub returns-clause-readable : goal.returns-clause-readable
returns-clause-readable c = All-map (λ e. IfSome e.type IsReadableType) entry_of c.loop-i.context.items c.loop-i.invariant.readable

pub loop-i-preserved : goal.loop-i-preserved
loop-i-preserved c = record {
  read = one_more (λ e. entry_value (entry_of e)) c.args.values.now c.loop-i.i c.index-values-i.result c.loop-i.context.items c.push.new.self.items c.in_ok-entry.entry
      (omega arith) c.index-values-i.is c.in_ok-entry.ensures.read c.in_ok-push.ensures.items c.loop-i.invariant.read;
  readable = one_more_readable (λ e. IfSome (entry_of e).type IsReadableType) c.loop-i.context.items c.push.new.self.items c.in_ok-entry.entry
      c.in_ok-push.ensures.items c.loop-i.invariant.readable c.in_ok-entry.ensures.readable;
}
