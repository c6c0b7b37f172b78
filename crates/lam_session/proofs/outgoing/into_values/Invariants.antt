use Rattle.std.proofs.Common.{◌≡◌, ◌++◌, length, map}
use Rattle.std.specs.Vec.Iter.{into_iter_items, into_iter_len}
use Rattle.serde_json.specs.View.{view}
use Rattle.lam_session.specs.Outgoing.{data_of}
use Rattle.lam_session.proofs.outgoing.into_values.Given as goal

-- the values so far, and those of the messages to come, are all
abbrev pub invariant-loop-outgoing : goal.invariant-loop-outgoing
invariant-loop-outgoing l = record {
  all : map view l.values.items ++ map data_of (into_iter_items l.outgoing-iterator) ≡ map data_of l.fn.sent.items;
  counted : into_iter_len l.outgoing-iterator ≡ length (into_iter_items l.outgoing-iterator);
}
