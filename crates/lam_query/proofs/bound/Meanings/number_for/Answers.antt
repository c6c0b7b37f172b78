use Rattle.std.proofs.Common.{Some, string_bytes, ap, sym, ◌∙◌}
use Rattle.std.specs.Map.{update}
use Rattle.std.specs.Str.{bytes_eq}
use Rattle.std.proofs.lemmas.Map.Text.{hash_map_updates_text}
use Rattle.lam_query.specs.inner.Bound.{number_of}
use Rattle.lam_query.proofs.NumberedNames.{IsNumberedNext, others_keep, same_kept, still_numbered}
use Rattle.lam_query.proofs.bound.Meanings.number_for.Goals as goal

next : (c : goal.In_ok-insert) → IsNumberedNext c.args.self.now (record { numbers = c.insert.new.self; entries = c.push.new.self }) c.args.name.now
next c = record {
  fresh = sym c.in_default.ensures.value;
  one_more = c.in_ok-push.ensures.items;
  updates = λ x.
      hash_map_updates_text (string_bytes c.in_ok-from_str.field-0) c.args.self.now.numbers c.insert.new.self (Some c.len-count.result) c.in_ok-insert.ensures.updates x
      ∙ ap (λ y. update bytes_eq (number_of c.args.self.now) y (Some c.len-count.result) x) c.in_ok-from_str.ensures.ok
      ∙ ap (λ n. update bytes_eq (number_of c.args.self.now) c.args.name.now (Some n) x) (c.len-count.ensures ∙ c.args.self.now.entries.ok.0);
}

pub returns-clause-keeps : goal.returns-clause-keeps
returns-clause-keeps c = others_keep c.args.self.now _ c.args.name.now (next c)

pub returns-clause-same : goal.returns-clause-same
returns-clause-same c = same_kept c.args.self.now _ c.args.name.now (next c)

pub returns-clause-numbers : goal.returns-clause-numbers
returns-clause-numbers c = still_numbered c.args.self.now _ c.args.name.now (next c) c.requires
