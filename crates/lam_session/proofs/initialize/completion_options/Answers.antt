use Rattle.std.proofs.Common.{map, [], ◌∷◌, ap, ◌∙◌}
use Rattle.serde_json.specs.Data.{array}
use Rattle.serde_json.specs.View.{view, items_of}
use Rattle.serde_json.proofs.Views.{view-Array}
use Rattle.lam_session.proofs.initialize.completion_options.Goals as goal

pub returns : goal.returns
returns c =
    let pushed = rw c.new-characters.ensures.items at c.in_ok-push.ensures.items in
    let dot = c.in_ok-try_from_str.ensures in
    let characters = view-Array _ ∙ ap (λ vs. array (items_of (map view vs))) pushed ∙ ap (λ v. array (items_of (v ∷ []))) dot in
    c.finish.ensures _ (c.value.ensures _ _ c.new.ensures characters)
