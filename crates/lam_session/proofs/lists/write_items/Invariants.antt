use Rattle.std.proofs.Common.{◌≡◌, ◌++◌, drop, map, string_bytes, false}
use denote.Shadow.{shadow}
use denote.Text.{Utf8}
use Rattle.serde_json.specs.View.{items_of}
use Rattle.serde_json.specs.Written.{items_text}
use Rattle.lam_session.proofs.SentTexts.{text_behind}
use Rattle.lam_session.proofs.lists.write_items.Given as goal

-- the text so far, and that of the elements to come, are the text of all
abbrev pub invariant-loop-element : goal.invariant-loop-element
invariant-loop-element g l = record {
  is_text : shadow (Utf8 l.separator);
  all : string_bytes l.text ++ text_behind l.separator (map (g.S.Shape.shown l.fn.shape) (drop l.element-index l.elements)) ≡ string_bytes l.initial.text ++ items_text false (items_of (map (g.S.Shape.shown l.fn.shape) l.elements));
}
