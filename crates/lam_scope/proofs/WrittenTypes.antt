-- How stacks of abbreviations and lists of fields of written types are seen, and what is counted of them.
use Rattle.std.proofs.Common.{◌≡◌, ℕ, ◌+◌, ◌<◌, ◌≤◌, min, List, [], ◌∷◌, ◌++◌, length, take, drop, get_or, suc, refl, ap, sym, ◌∙◌, drop-cons, add-one, append_assoc, Option, Some, None, String, string_bytes, false}
use Rattle.lam_syntax.specs.Letters.{letters}
use Rattle.std.specs.declared.alloc.Global.{Global}
use Rattle.lam_token.specs.declared.span.Span.{Span}
use Rattle.lam_rules.specs.declared.types.Ty.{Ty}
use Rattle.lam_rules.specs.TypeViews.{typ_of, fields_of}
use Rattle.std.proofs.lemmas.List.{append-nil, drop_all}
use Rattle.lam_rules.proofs.TypeShapes.{typ_of-Bool, typ_of-Nat, typ_of-Unit, typ_of-Top, joined-none, joined-push}
use Rattle.std.proofs.Math.Seq.{take-suc}
use Rattle.std.specs.Option.{option_map}
use Rattle.lam_rules.specs.Types as rules
use Rattle.lam_rules.specs.Types.{Fields, Label, joined}
use Rattle.lam_syntax.specs.declared.types.TyField.{TyField}
use Rattle.lam_syntax.specs.Trees.{word, TypeTree, TypeFields, type_field, no_type_fields, joined_types}
use Rattle.lam_syntax.specs.Views.{word_of, type_of, type_fields_of}
use Rattle.lam_syntax.proofs.Shapes.{type_node_of-Bool, type_node_of-Nat, type_node_of-Unit, type_node_of-Top, type_node_of-Named, type_node_of-Arrow, type_node_of-Record, type_fields_of-push}
use Rattle.lam_scope.specs.Expansions.{Abbreviation, both, has_label, expansion, expansion_of_fields, node_limit}

pub type_fields_of-drop : (fs : List TyField) (i : ℕ) (f : TyField) → i < length fs → f ≡ get_or fs i f
    → type_fields_of (drop i fs) ≡ type_field (word_of f.label) (type_of f.ty) (type_fields_of (drop (i + 1) fs))
type_fields_of-drop fs i f lt is = rw add-one (rw (drop-cons fs i f lt) (ap (λ g. type_field (word_of g.label) (type_of g.ty) (type_fields_of (drop (suc i) fs))) (sym is)))

pub type_fields_of-take : (fs : List TyField) (i : ℕ) (f : TyField) → i < length fs → f ≡ get_or fs i f
    → type_fields_of (take (i + 1) fs) ≡ joined_types (type_fields_of (take i fs)) (type_field (word_of f.label) (type_of f.ty) no_type_fields)
type_fields_of-take fs i f lt is =
    rw add-one (rw (take-suc fs i f lt) (type_fields_of-push (take i fs) (get_or fs i f) ∙ ap (λ g. joined_types (type_fields_of (take i fs)) (type_field (word_of g.label) (type_of g.ty) no_type_fields)) (sym is)))

-- a number, and what is counted after it
abbrev pub plus_capped : ℕ → Option ℕ → Option ℕ
plus_capped n None = None
plus_capped n (Some m) = Some (min (n + m) (node_limit + 1))

-- fields, followed by those of a record type
abbrev pub behind_fields : Fields → Option Fields → Option Fields
behind_fields gs = option_map (λ hs. joined gs hs)

behind_fields-push : (items : List (String Global × Ty)) (f : String Global × Ty) (rest : Option Fields)
    → behind_fields (fields_of (items ++ f ∷ [])) rest ≡ behind_fields (fields_of items) (both (rules.field (string_bytes f.0)) (Some (typ_of f.1)) rest)
behind_fields-push items f None = refl
behind_fields-push items f (Some gs) = ap (λ hs. Some hs) (joined-push items f gs)

first_field : (bs : List Abbreviation) (l : Label) (s : Span) (t : TypeTree) (rest : TypeFields) → has_label l rest ≡ false
    → expansion_of_fields bs (type_field (word l s) t rest) ≡ both (rules.field l) (expansion bs t) (expansion_of_fields bs rest)
first_field bs l s t rest e = rw e refl

-- one more field is expanded
pub expanded_more : (bs : List Abbreviation) (items more : List (String Global × Ty)) (fs : List TyField) (i : ℕ) (f : TyField) (label : String Global) (t : Ty) (all : Option Fields)
    → i < length fs → f ≡ get_or fs i f → has_label (letters f.label.text) (type_fields_of (drop (i + 1) fs)) ≡ false
    → more ≡ items ++ (label, t) ∷ [] → string_bytes label ≡ letters f.label.text → Some (typ_of t) ≡ expansion bs (type_of f.ty)
    → behind_fields (fields_of items) (expansion_of_fields bs (type_fields_of (drop i fs))) ≡ all
    → behind_fields (fields_of more) (expansion_of_fields bs (type_fields_of (drop (i + 1) fs))) ≡ all
expanded_more bs items more fs i f label t all lt is once pushed same_label same_type so_far =
    rw pushed
    (behind_fields-push items (label, t) (expansion_of_fields bs (type_fields_of (drop (i + 1) fs)))
    ∙ ap (λ l. behind_fields (fields_of items) (both (rules.field l) (Some (typ_of t)) (expansion_of_fields bs (type_fields_of (drop (i + 1) fs))))) same_label
    ∙ ap (λ o. behind_fields (fields_of items) (both (rules.field (letters f.label.text)) o (expansion_of_fields bs (type_fields_of (drop (i + 1) fs))))) same_type
    ∙ ap (behind_fields (fields_of items)) (sym (first_field bs (letters f.label.text) f.label.span (type_of f.ty) (type_fields_of (drop (i + 1) fs)) once))
    ∙ ap (λ gs. behind_fields (fields_of items) (expansion_of_fields bs gs)) (sym (type_fields_of-drop fs i f lt is))
    ∙ so_far)

pub expanded_all : (bs : List Abbreviation) (items : List (String Global × Ty)) (fs : List TyField) (i : ℕ) (all : Option Fields) → length fs ≤ i
    → behind_fields (fields_of items) (expansion_of_fields bs (type_fields_of (drop i fs))) ≡ all → Some (fields_of items) ≡ all
expanded_all bs items fs i all le so_far = ap (λ hs. Some hs) (sym (joined-none (fields_of items))) ∙ (rw (drop_all i fs le) at so_far)

pub ruleset written_types = (type_node_of-Bool, type_node_of-Nat, type_node_of-Unit, type_node_of-Top, type_node_of-Named, type_node_of-Arrow, type_node_of-Record, type_fields_of-drop, type_fields_of-take)

-- lists of faults
pub ruleset fault_lists = (type_node_of-Bool, type_node_of-Nat, type_node_of-Unit, type_node_of-Top, type_node_of-Named, type_node_of-Arrow, type_node_of-Record, type_fields_of-drop, type_fields_of-take, append-nil, append_assoc)

-- types and fields that are made
pub ruleset made_types = (type_node_of-Bool, type_node_of-Nat, type_node_of-Unit, type_node_of-Top, type_node_of-Named, type_node_of-Arrow, type_node_of-Record, type_fields_of-drop, typ_of-Bool, typ_of-Nat, typ_of-Unit, typ_of-Top, joined-none, joined-push)
