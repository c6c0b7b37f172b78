-- A type as it would be written stands for itself, and so does an entry, whatever abbreviations are in sight.
use Rattle.std.proofs.Common.{◌≡◌, ◌≢◌, List, [], ◌∷◌, Bool, true, false, ◌||◌, Option, Some, None, refl, sym, ap, ◌∙◌}
use Rattle.std.specs.Prelude.{if◌then◌else◌}
use Rattle.std.specs.Option.{option_map}
use Rattle.std.specs.Str.{bytes_eq}
use Rattle.std.proofs.lemmas.Bool.{le-ltb}
use Rattle.std.proofs.lemmas.Slice.Eq.{bytes_eq-Decides}
use Rattle.lam_rules.specs.Types as type
use Rattle.lam_rules.specs.Types.{Label, Typ, Fields, IsAbsent, IsWellFormed, AreWellFormed, nodes}
use Rattle.lam_rules.specs.Typing.{IsWellFormedEntry}
use Rattle.lam_syntax.specs.Trees.{type_span}
use Rattle.lam_scope.specs.Expansions.{Abbreviation, has_label, both, expansion, expansion_of_node, expansion_of_fields, node_limit, is_over_limit}
use Rattle.lam_scope.specs.Nameless.{first_over_limit}
use Rattle.lam_typing.specs.Analysis.{IsSmallType}
use Rattle.lam_query.specs.inner.StandIns.{written_node, written_fields, written_entry}

-- ---- types

different : (k l : Label) → l ≢ k → bytes_eq k l ≡ false
different k l other = by (bytes_eq k l) refl
  where
    by : (b : Bool) → bytes_eq k l ≡ b → bytes_eq k l ≡ false
    by true same = absurd (other (sym ((bytes_eq-Decides k l).0 same)))
    by false differ = differ

absent_back : (l : Label) (fs : Fields) → IsAbsent l fs → has_label l (written_fields fs) ≡ false
absent_back l type.no_fields absent = refl
absent_back l (type.field k t fs) absent =
    ap (λ b. b || has_label l (written_fields fs)) (different k l absent.0) ∙ absent_back l fs absent.1

mutual
  pub node_back : (bs : List Abbreviation) (t : Typ) → IsWellFormed t → expansion_of_node bs (written_node t) ≡ Some t
  node_back bs type.bool wf = refl
  node_back bs type.nat wf = refl
  node_back bs type.unit wf = refl
  node_back bs type.top wf = refl
  node_back bs (type.arrow a b) wf = let first = node_back bs a wf.0 in let second = node_back bs b wf.1 in λ i. both type.arrow (first i) (second i)
  node_back bs (type.record_of fs) wf = ap (option_map type.record_of) (fields_back bs fs wf)

  pub fields_back : (bs : List Abbreviation) (fs : Fields) → AreWellFormed fs → expansion_of_fields bs (written_fields fs) ≡ Some fs
  fields_back bs type.no_fields wf = refl
  fields_back bs (type.field l t fs) wf =
      let first = node_back bs t wf.0 in
      let rest = fields_back bs fs wf.2 in
      ap (λ b. if b then None else both (type.field l) (expansion_of_node bs (written_node t)) (expansion_of_fields bs (written_fields fs))) (absent_back l fs wf.1)
      ∙ (λ i. both (type.field l) (first i) (rest i))

-- ---- entries

pub entry_back : (bs : List Abbreviation) (entry : Option Typ) → IsWellFormedEntry entry → expansion bs (written_entry entry) ≡ entry
entry_back bs None wf = refl
entry_back bs (Some t) wf = node_back bs t wf

small_within : (entry : Option Typ) → IsSmallType entry → is_over_limit entry ≡ false
small_within None small = refl
small_within (Some t) small = le-ltb node_limit (nodes t) small

-- it is not too large where the entry is small
pub entry_within : (bs : List Abbreviation) (entry : Option Typ) → IsWellFormedEntry entry → IsSmallType entry → first_over_limit bs (written_entry entry ∷ []) ≡ None
entry_within bs entry wf small =
    ap (λ b. if b then Some (type_span (written_entry entry)) else None) (ap is_over_limit (entry_back bs entry wf) ∙ small_within entry small)
