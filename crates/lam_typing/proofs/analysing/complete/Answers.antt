use Rattle.std.proofs.Common.{map, refl, ap, sym, subst, ◌∙◌}
use Rattle.lam_typing.specs.Answers.{answers, AllStandIn}
use Rattle.lam_typing.specs.inner.Notes.{entry_told}
use Rattle.lam_typing.proofs.Finishing.{each_stands}
use Rattle.lam_typing.proofs.Growing.{all_stand_keep}
use Rattle.lam_typing.proofs.analysing.complete.Goals as goal

pub invariant_of-result : goal.invariant_of-result
invariant_of-result c =
    let now = c.number_entries.new.table in
    record {
      each_found = each_stands now c.shrink_to_fit.new.self.items
          (subst (λ os. AllStandIn now os) (sym c.shrink_to_fit.ensures.items) (all_stand_keep c.args.walk.table now c.args.walk.found.items c.number_entries.ensures.keeps c.requires.sound.found));
      each_entry = each_stands now c.in-Ok.entries.items c.in-Ok.ensures.stand;
    }

pub returns-clause-completes : goal.returns-clause-completes
returns-clause-completes c = λ ss origins told. record {
  keeps = c.number_entries.ensures.keeps;
  found = c.shrink_to_fit.ensures.items;
  entries =
      c.in-Ok.ensures.entries
      ∙ ap (λ os. map (entry_told (answers c.args.walk.table os)) c.args.sources.now) (c.deref.ensures.value ∙ c.shrink_to_fit.ensures.items)
      ∙ told (answers c.args.walk.table c.args.walk.found.items);
  blames = refl;
  dialect = refl;
}
