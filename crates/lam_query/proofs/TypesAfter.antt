-- Written types whose words are elsewhere, with the same letters: they stand for the same types, name the same type names, and have the same
-- faults, elsewhere.
use Rattle.std.proofs.Common.{◌≡◌, ℕ, List, [], ◌∷◌, ◌++◌, map, Bool, true, false, ◌||◌, if◌then◌else◌, refl, ap, sym, ◌∙◌, Option, Some, None}
use Rattle.std.specs.Option.{option_map}
use Rattle.std.specs.Str.{bytes_eq}
use Rattle.std.proofs.lemmas.List.{map-append}
use Rattle.lam_token.specs.declared.kind.Kind.TheVariants as kind
use Rattle.lam_token.specs.declared.span.Span.{Span}
use Rattle.lam_token.specs.Edits.{span_placed}
use Rattle.lam_rules.specs.Types as rules
use Rattle.lam_rules.specs.Types.{Label}
use Rattle.lam_syntax.specs.Respelled.{respelled_word, respelled_type, respelled_type_node, respelled_type_fields}
use Rattle.lam_syntax.specs.Trees.{Word, word, TypeTree, type_tree, TypeNode, bool, nat, unit, top, named, arrow, record_type, TypeFields, no_type_fields, type_field, joined_types}
use Rattle.lam_scope.specs.declared.type_fault.TypeFault.{TypeFault}
use Rattle.lam_scope.specs.declared.type_fault.TypeFault.TheVariants.{UnboundTypeName, RepeatedLabel}
use Rattle.lam_scope.specs.Expansions.{Abbreviation, is_bound, has_label, both, expansion, expansion_of_node, expansion_of_fields, label_fault, type_faults, node_faults, field_faults, is_over_limit}
use Rattle.lam_scope.specs.FreeNames.{free_type_names_in, free_type_names_in_node, free_type_names_in_fields, free_type_names_in_types}
use Rattle.lam_scope.specs.Nameless.{faults_in, first_over_limit}

-- ---- elsewhere, with the same letters

abbrev pub word_there : (ℕ → ℕ) → Word → Word
word_there place = respelled_word kind.Name place (λ kind text span. text)

abbrev pub type_there : (ℕ → ℕ) → TypeTree → TypeTree
type_there place = respelled_type place (λ kind text span. text)

abbrev node_there : (ℕ → ℕ) → TypeNode → TypeNode
node_there place = respelled_type_node place (λ kind text span. text)

abbrev fields_there : (ℕ → ℕ) → TypeFields → TypeFields
fields_there place = respelled_type_fields place (λ kind text span. text)

-- the same fault of a written type
abbrev pub type_fault_there : (ℕ → ℕ) → TypeFault → TypeFault
type_fault_there place (UnboundTypeName s) = UnboundTypeName (span_placed place s)
type_fault_there place (RepeatedLabel s) = RepeatedLabel (span_placed place s)

-- two lists that are told of two others one by one are told of both together
pub told_both : {A B : Type 0} (f : A → B) (xs ys : List A) (us vs : List B) → us ≡ map f xs → vs ≡ map f ys → us ++ vs ≡ map f (xs ++ ys)
told_both f xs ys us vs first second = (λ i. first i ++ second i) ∙ sym (map-append f xs ys)

module _ (place : ℕ → ℕ) where
  -- ---- what they stand for

  labels_kept : (l : Label) (fs : TypeFields) → has_label l (fields_there place fs) ≡ has_label l fs
  labels_kept l no_type_fields = refl
  labels_kept l (type_field (word k s) t rest) = ap (λ b. bytes_eq k l || b) (labels_kept l rest)

  mutual
    pub expansion_kept : (bs : List Abbreviation) (u : TypeTree) → expansion bs (type_there place u) ≡ expansion bs u
    expansion_kept bs (type_tree s n) = node_kept bs n

    node_kept : (bs : List Abbreviation) (n : TypeNode) → expansion_of_node bs (node_there place n) ≡ expansion_of_node bs n
    node_kept bs bool = refl
    node_kept bs nat = refl
    node_kept bs unit = refl
    node_kept bs top = refl
    node_kept bs (named (word x s)) = refl
    node_kept bs (arrow a b) = λ i. both rules.arrow (expansion_kept bs a i) (expansion_kept bs b i)
    node_kept bs (record_type fs) = ap (option_map rules.record_of) (fields_kept bs fs)

    fields_kept : (bs : List Abbreviation) (fs : TypeFields) → expansion_of_fields bs (fields_there place fs) ≡ expansion_of_fields bs fs
    fields_kept bs no_type_fields = refl
    fields_kept bs (type_field (word l s) t rest) =
        let twice = labels_kept l rest in
        let first = expansion_kept bs t in
        let others = fields_kept bs rest in
        λ i. if twice i then None else both (rules.field l) (first i) (others i)

  -- ---- the type names in them

  mutual
    type_names_kept : (u : TypeTree) → free_type_names_in (type_there place u) ≡ free_type_names_in u
    type_names_kept (type_tree s n) = node_names_kept n

    node_names_kept : (n : TypeNode) → free_type_names_in_node (node_there place n) ≡ free_type_names_in_node n
    node_names_kept bool = refl
    node_names_kept nat = refl
    node_names_kept unit = refl
    node_names_kept top = refl
    node_names_kept (named (word x s)) = refl
    node_names_kept (arrow a b) = λ i. type_names_kept a i ++ type_names_kept b i
    node_names_kept (record_type fs) = field_names_kept fs

    field_names_kept : (fs : TypeFields) → free_type_names_in_fields (fields_there place fs) ≡ free_type_names_in_fields fs
    field_names_kept no_type_fields = refl
    field_names_kept (type_field l t rest) = λ i. type_names_kept t i ++ field_names_kept rest i

  pub names_of_types_kept : (us : List TypeTree) → free_type_names_in_types (map (type_there place) us) ≡ free_type_names_in_types us
  names_of_types_kept [] = refl
  names_of_types_kept (u ∷ us) = λ i. type_names_kept u i ++ names_of_types_kept us i

  -- ---- their faults

  joined_there : (fs gs : TypeFields) → fields_there place (joined_types fs gs) ≡ joined_types (fields_there place fs) (fields_there place gs)
  joined_there no_type_fields gs = refl
  joined_there (type_field l t fs) gs = ap (type_field (word_there place l) (type_there place t)) (joined_there fs gs)

  one_there : (b : Bool) (f : TypeFault) → (if b then type_fault_there place f ∷ [] else []) ≡ map (type_fault_there place) (if b then f ∷ [] else [])
  one_there true f = refl
  one_there false f = refl

  none_there : (b : Bool) (f : TypeFault) → (if b then [] else type_fault_there place f ∷ []) ≡ map (type_fault_there place) (if b then [] else f ∷ [])
  none_there true f = refl
  none_there false f = refl

  label_fault_there : (w : Word) (earlier : TypeFields)
      → label_fault (word_there place w) (fields_there place earlier) ≡ map (type_fault_there place) (label_fault w earlier)
  label_fault_there (word l s) earlier =
      ap (λ b. if b then RepeatedLabel (span_placed place s) ∷ [] else []) (labels_kept l earlier) ∙ one_there (has_label l earlier) (RepeatedLabel s)

  mutual
    type_faults_there : (bs : List Abbreviation) (u : TypeTree) → type_faults bs (type_there place u) ≡ map (type_fault_there place) (type_faults bs u)
    type_faults_there bs (type_tree s n) = node_faults_there bs n

    node_faults_there : (bs : List Abbreviation) (n : TypeNode) → node_faults bs (node_there place n) ≡ map (type_fault_there place) (node_faults bs n)
    node_faults_there bs bool = refl
    node_faults_there bs nat = refl
    node_faults_there bs unit = refl
    node_faults_there bs top = refl
    node_faults_there bs (named (word x s)) = none_there (is_bound x bs) (UnboundTypeName s)
    node_faults_there bs (arrow a b) =
        told_both (type_fault_there place) (type_faults bs a) (type_faults bs b) _ _ (type_faults_there bs a) (type_faults_there bs b)
    node_faults_there bs (record_type fs) = field_faults_there bs no_type_fields fs

    field_faults_there : (bs : List Abbreviation) (earlier fs : TypeFields)
        → field_faults bs (fields_there place earlier) (fields_there place fs) ≡ map (type_fault_there place) (field_faults bs earlier fs)
    field_faults_there bs earlier no_type_fields = refl
    field_faults_there bs earlier (type_field l t rest) =
        let before = joined_types earlier (type_field l t no_type_fields) in
        let others = ap (λ e. field_faults bs e (fields_there place rest)) (sym (joined_there earlier (type_field l t no_type_fields)))
        ∙ field_faults_there bs before rest in
        told_both (type_fault_there place) (label_fault l earlier ++ type_faults bs t) (field_faults bs before rest) _ _
        (told_both (type_fault_there place) (label_fault l earlier) (type_faults bs t) _ _ (label_fault_there l earlier) (type_faults_there bs t))
        others

  pub faults_there : (bs : List Abbreviation) (us : List TypeTree) → faults_in bs (map (type_there place) us) ≡ map (type_fault_there place) (faults_in bs us)
  faults_there bs [] = refl
  faults_there bs (u ∷ us) = told_both (type_fault_there place) (type_faults bs u) (faults_in bs us) _ _ (type_faults_there bs u) (faults_there bs us)

  -- ---- the first that is too large

  first_there : (b : Bool) (s : Span) (o : Option Span)
      → (if b then Some (span_placed place s) else option_map (span_placed place) o) ≡ option_map (span_placed place) (if b then Some s else o)
  first_there true s o = refl
  first_there false s o = refl

  pub over_limit_there : (bs : List Abbreviation) (us : List TypeTree)
      → first_over_limit bs (map (type_there place) us) ≡ option_map (span_placed place) (first_over_limit bs us)
  over_limit_there bs [] = refl
  over_limit_there bs (type_tree s n ∷ us) =
      let here = expansion_kept bs (type_tree s n) in
      let others = over_limit_there bs us in
      (λ i. if is_over_limit (here i) then Some (span_placed place s) else others i)
      ∙ first_there (is_over_limit (expansion bs (type_tree s n))) s (first_over_limit bs us)
