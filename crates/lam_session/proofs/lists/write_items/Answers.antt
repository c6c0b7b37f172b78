use Rattle.std.proofs.Common.{[], ◌∷◌, refl, ap, ◌∙◌, string_bytes}
use Rattle.serde_json.specs.Written.{compact_text, has_float}
use Rattle.lam_session.proofs.SentTexts.{text_more}
use Rattle.lam_session.proofs.lists.write_items.Goals as goal

pub write_value-requires : goal.write_value-requires
write_value-requires g c = ap has_float c.in_ok-value.ensures ∙ g.met.S.Shape.plain c.args.shape.now c.element-item.result

pub loop-element-preserved : goal.loop-element-preserved
unfolding lib.Utf8.encode
loop-element-preserved g c =
    let shown = g.S.Shape.shown c.args.shape.now in
    record {
      is_text = (44 ∷ [], (refl, refl));
      all = rw (c.in_ok-write_value.ensures, c.in_ok-push_str.ensures.bytes)
          (text_more shown (string_bytes c.loop-element.text) c.loop-element.separator.now _ c.args.elements.now c.loop-element.element-index c.element-item.result c.loop-element-test.true
          (ap compact_text (c.in_ok-value.ensures ∙ ap shown c.element-item.is))
          ∙ c.loop-element.invariant.all);
    }
