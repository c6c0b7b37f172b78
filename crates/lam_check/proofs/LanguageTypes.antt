-- Names can be read as labels, and no type has more levels than nodes.
use Rattle.std.proofs.Common.{◌≤◌, length, get_or, ap, ◌∙◌, arith}
use Rattle.std.proofs.lemmas.List.{get_or_default}
use Rattle.std.proofs.lemmas.Str.Pattern.{NoCharPasses-char}
use Rattle.lam_token.proofs.ForeignCharacters.{colon_continues_nothing, brace_continues_nothing, name_without}
use Rattle.lam_rules.specs.ReadableLabels.{IsReadable, HasReadableLabels, HaveReadableLabels}
use Rattle.lam_rules.specs.Types.{Label, Typ, bool, nat, unit, top, arrow, record_of, Fields, no_fields, field, nodes, nodes_in}
use Rattle.lam_check.specs.Readable.{depth, depth_in, HasNamesAsLabels, HaveNamesAsLabels, IsName}

-- ---- labels

name_readable : (l : Label) → IsName l → IsReadable l
name_readable l name = record {
  no_colon = λ k d inside. λ e. NoCharPasses-char 58 l k (name_without 58 colon_continues_nothing l name.is_text name.kind) (omega arith) inside (get_or_default l k 0 d inside ∙ e);
  no_brace_first = λ rest e. NoCharPasses-char 125 l 0 (name_without 125 brace_continues_nothing l name.is_text name.kind) (omega arith) (omega (arith, ap length e)) (ap (λ x. get_or x 0 0) e);
}

mutual
  pub names_readable : (t : Typ) → HasNamesAsLabels t → HasReadableLabels t
  names_readable bool h = tt
  names_readable nat h = tt
  names_readable unit h = tt
  names_readable top h = tt
  names_readable (arrow s t) h = (names_readable s h.0, names_readable t h.1)
  names_readable (record_of fs) h = names_in_readable fs h

  names_in_readable : (fs : Fields) → HaveNamesAsLabels fs → HaveReadableLabels fs
  names_in_readable no_fields h = tt
  names_in_readable (field l t fs) h = (name_readable l h.0, names_readable t h.1, names_in_readable fs h.2)

-- ---- sizes

mutual
  pub depth-nodes : (t : Typ) → depth t ≤ nodes t
  depth-nodes bool = omega arith
  depth-nodes nat = omega arith
  depth-nodes unit = omega arith
  depth-nodes top = omega arith
  depth-nodes (arrow s t) = let one = depth-nodes s in let other = depth-nodes t in omega arith
  depth-nodes (record_of fs) = let inside = depth_in-nodes_in fs in omega arith

  depth_in-nodes_in : (fs : Fields) → depth_in fs ≤ nodes_in fs
  depth_in-nodes_in no_fields = omega arith
  depth_in-nodes_in (field l t fs) = let one = depth-nodes t in let other = depth_in-nodes_in fs in omega arith
