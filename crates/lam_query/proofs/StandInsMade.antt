-- How the stand-ins of a command are made one by one, and the types in them.
use Rattle.std.proofs.Common.{◌≡◌, ℕ, ◌+◌, ◌<◌, ◌≤◌, List, [], ◌∷◌, ◌++◌, append_assoc, append-nil, length, get_or, map, drop, Option, Some, None, Bor, String, string_bytes, codes, refl, ap, sym, ◌∙◌}
use Rattle.std.specs.declared.alloc.Global.{Global}
use Rattle.std.proofs.lemmas.List.{at_drop_more, drop_all, map_push, length-map}
use Rattle.lam_rules.specs.Types.{Typ, unit}
use Rattle.lam_rules.specs.TypeViews.{typ_of, fields_of}
use Rattle.lam_rules.specs.declared.types.Ty.{Ty}
use Rattle.lam_rules.proofs.TypeShapes.{fields_of-drop}
use Rattle.lam_syntax.specs.Letters.{letters}
use Rattle.lam_syntax.specs.Trees.{word, type_tree, record_type, TypeFields, no_type_fields, type_field, joined_types, CommandTree, declaration, abbreviation}
use Rattle.lam_syntax.specs.Views.{word_of, type_of, type_node_of, type_fields_of, command_of}
use Rattle.lam_syntax.specs.declared.identifier.Identifier.{Identifier}
use Rattle.lam_syntax.specs.declared.terms.Command.{Command}
use Rattle.lam_syntax.specs.declared.terms.Command.TheVariants as command
use Rattle.lam_syntax.specs.declared.types.TyField.{TyField}
use Rattle.lam_syntax.specs.declared.types.TyNode.{TyNode}
use Rattle.lam_syntax.specs.declared.types.WrittenTy.{WrittenTy}
use Rattle.lam_scope.specs.FreeNames.{each_once, free_in_command, free_type_names_in_command}
use Rattle.lam_scope.specs.Names.{Name}
use Rattle.lam_query.specs.declared.stand_ins.Alone.{Alone}
use Rattle.lam_query.specs.inner.Entered.{Lookup, entered_first, entered}
use Rattle.lam_query.specs.inner.PieceRows.{Sight}
use Rattle.lam_query.specs.inner.StandIns.{nowhere, written_node, written_type, written_fields, written_entry, declared, abbreviated, stand_ins, AreStandIns, IsAlone}
use Rattle.lam_query.specs.inner.Bound.{names_in}
use Rattle.lam_query.proofs.Entering.{name_at}

-- ---- one by one

-- the stand-ins that were made, and behind them those of the names that are left, are all stand-ins
abbrev pub AreMade : (make : Name × Option Typ → CommandTree) → Lookup → (names left : List (Bor (List ℕ))) → (old now : List Command) → Type 0
AreMade make look names left old now = map command_of now ++ map make (entered look (names_in left)) ≡ map command_of old ++ map make (entered look (names_in names))

module _ (make : Name × Option Typ → CommandTree) (look : Lookup) (names : List (Bor (List ℕ))) (i : ℕ) (old now : List Command) where
  module _ (d : Bor (List ℕ)) (inside : i < length names) where
    next_found : (o : Option (Option Typ)) → look (name_at names i d) ≡ o
        → entered look (names_in (drop i names)) ≡ entered_first (name_at names i d) o (entered look (names_in (drop (i + 1) names)))
    next_found o finds =
        at_drop_more (λ ns. entered look (names_in ns)) names i d inside
        ∙ ap (λ p. entered_first (name_at names i d) p (entered look (names_in (drop (i + 1) names)))) finds

    -- a name that is not bound
    pub unbound_passed : look (name_at names i d) ≡ None → AreMade make look names (drop i names) old now → AreMade make look names (drop (i + 1) names) old now
    unbound_passed none so_far = ap (λ ps. map command_of now ++ map make ps) (sym (next_found None none)) ∙ so_far

    -- one that is
    pub one_made : (entry : Option Typ) (more : List Command) (k : Command) → look (name_at names i d) ≡ Some entry → command_of k ≡ make (name_at names i d, entry)
        → more ≡ now ++ k ∷ [] → AreMade make look names (drop i names) old now → AreMade make look names (drop (i + 1) names) old more
    one_made entry more k finds is pushed so_far =
        let rest = map make (entered look (names_in (drop (i + 1) names))) in
        ap (λ xs. map command_of xs ++ rest) pushed
        ∙ ap (λ xs. xs ++ rest) (map_push command_of now k)
        ∙ append_assoc (map command_of now) (command_of k ∷ []) rest
        ∙ ap (λ x. map command_of now ++ (x ∷ rest)) is
        ∙ ap (λ ps. map command_of now ++ map make ps) (sym (next_found (Some entry) finds))
        ∙ so_far

  -- no name is left
  pub all_made : length names ≤ i → AreMade make look names (drop i names) old now
      → map command_of now ≡ map command_of old ++ map make (entered look (names_in names))
  all_made le so_far =
      sym (append-nil (map command_of now))
      ∙ ap (λ ns. map command_of now ++ map make (entered look (names_in ns))) (sym (drop_all i names le))
      ∙ so_far

-- ---- one stand-in

-- the word that was made
word_made : (made : Identifier) (x : Name) → letters made.text ≡ x → made.span ≡ nowhere → word_of made ≡ word x nowhere
word_made made x text span = λ i. word (text i) (span i)

module _ (made : Identifier) (x : Name) (text : letters made.text ≡ x) (span : made.span ≡ nowhere) (t : WrittenTy) (entry : Option Typ)
    (type : type_of t ≡ written_entry entry) where
  pub declaration_made : command_of (command.Declaration made t) ≡ declared (x, entry)
  declaration_made = let first = word_made made x text span in λ i. declaration (first i) (type i)

  pub abbreviation_made : command_of (command.Abbreviation made t) ≡ abbreviated (x, entry)
  abbreviation_made = let first = word_made made x text span in λ i. abbreviation (first i) (type i)

-- ---- fields that are written

written_push : (made : List TyField) (f : TyField) (gs : TypeFields)
    → joined_types (type_fields_of (made ++ f ∷ [])) gs ≡ joined_types (type_fields_of made) (type_field (word_of f.label) (type_of f.ty) gs)
written_push [] f gs = refl
written_push (g ∷ made) f gs = ap (type_field (word_of g.label) (type_of g.ty)) (written_push made f gs)

joined_none : (fs : TypeFields) → joined_types fs no_type_fields ≡ fs
joined_none no_type_fields = refl
joined_none (type_field l t fs) = ap (type_field l t) (joined_none fs)

-- one more field
pub written_more : (made more : List TyField) (fs : List (String Global × Ty)) (i : ℕ) (f : String Global × Ty) (own : TyField) (gs : TypeFields)
    → i < length fs → f ≡ get_or fs i f → more ≡ made ++ own ∷ []
    → letters own.label.text ≡ string_bytes f.0 → own.label.span ≡ nowhere → type_of own.ty ≡ written_type (typ_of f.1)
    → joined_types (type_fields_of made) (written_fields (fields_of (drop i fs))) ≡ gs
    → joined_types (type_fields_of more) (written_fields (fields_of (drop (i + 1) fs))) ≡ gs
written_more made more fs i f own gs inside is pushed text span type so_far =
    let rest = written_fields (fields_of (drop (i + 1) fs)) in
    let first = word_made own.label (string_bytes f.0) text span in
    ap (λ ts. joined_types (type_fields_of ts) rest) pushed
    ∙ written_push made own rest
    ∙ (λ j. joined_types (type_fields_of made) (type_field (first j) (type j) rest))
    ∙ ap (λ ts. joined_types (type_fields_of made) (written_fields ts)) (sym (fields_of-drop fs i f inside is))
    ∙ so_far

-- all
pub written_all : (made : List TyField) (fs : List (String Global × Ty)) (i : ℕ) (gs : TypeFields) → length fs ≤ i
    → joined_types (type_fields_of made) (written_fields (fields_of (drop i fs))) ≡ gs → type_fields_of made ≡ gs
written_all made fs i gs le so_far =
    sym (joined_none (type_fields_of made))
    ∙ ap (λ ts. joined_types (type_fields_of made) (written_fields (fields_of ts))) (sym (drop_all i fs le))
    ∙ so_far

-- ---- types that are written

-- the form that was made is that of the type
pub type_made : (made : WrittenTy) (node : TyNode) (ty variant : Ty) (t : Typ) → type_of made ≡ type_tree nowhere (type_node_of node)
    → ty ≡ variant → typ_of variant ≡ t → type_node_of node ≡ written_node t → type_of made ≡ written_type (typ_of ty)
type_made made node ty variant t standing is view form = standing ∙ ap (type_tree nowhere) (form ∙ ap written_node (sym (ap typ_of is ∙ view)))

-- the label twice
pub no_type_made : (none one all : List TyField) (f g : TyField) → none ≡ [] → one ≡ none ++ f ∷ [] → all ≡ one ++ g ∷ []
    → (letters f.label.text ≡ codes "a") × (f.label.span ≡ nowhere) → type_of f.ty ≡ written_type unit
    → (letters g.label.text ≡ codes "a") × (g.label.span ≡ nowhere) → type_of g.ty ≡ written_type unit
    → type_tree nowhere (record_type (type_fields_of all)) ≡ written_entry None
no_type_made none one all f g empty first second label type other_label other_type =
    let items : all ≡ f ∷ g ∷ [] = second ∙ ap (λ fs. fs ++ g ∷ []) (first ∙ ap (λ fs. fs ++ f ∷ []) empty) in
    let one_word = word_made f.label (codes "a") label.0 label.1 in
    let two_word = word_made g.label (codes "a") other_label.0 other_label.1 in
    ap (λ fs. type_tree nowhere (record_type (type_fields_of fs))) items
    ∙ (λ i. type_tree nowhere (record_type (type_field (one_word i) (type i) (type_field (two_word i) (other_type i) no_type_fields))))

-- ---- all stand-ins

-- what is found of the names of the command by the numbers of names is what they mean
module _ (s : Sight) (c : CommandTree) (names types : Lookup) (same_names : (x : Name) → names x ≡ s.names x) (same_types : (x : Name) → types x ≡ s.types x)
    (free free_types : List Name) (are_free : free ≡ each_once (free_in_command c)) (are_types : free_types ≡ each_once (free_type_names_in_command c))
    (declarations all : List Command) (made : map command_of declarations ≡ map declared (entered names free))
    (more : map command_of all ≡ map command_of declarations ++ map abbreviated (entered types free_types)) where
  names_entered : entered names free ≡ entered s.names (each_once (free_in_command c))
  names_entered = λ i. entered (λ x. same_names x i) (are_free i)

  types_entered : entered types free_types ≡ entered s.types (each_once (free_type_names_in_command c))
  types_entered = λ i. entered (λ x. same_types x i) (are_types i)

  pub commands_are : map command_of all ≡ stand_ins s c
  commands_are =
      more ∙ ap (λ xs. xs ++ map abbreviated (entered types free_types)) made
      ∙ (λ i. map declared (names_entered i) ++ map abbreviated (types_entered i))

  pub names_are : length declarations ≡ length (entered s.names (each_once (free_in_command c)))
  names_are =
      sym (length-map declarations command_of) ∙ ap length (made ∙ ap (map declared) names_entered)
      ∙ length-map (entered s.names (each_once (free_in_command c))) declared

-- the command behind them
pub alone_made : (s : Sight) (c : Command) (before after : Alone) → AreStandIns s (command_of c) before → after.commands.items ≡ before.commands.items ++ c ∷ []
    → after.names ≡ before.names → IsAlone s (command_of c) after
alone_made s c before after are pushed same = record {
  commands = ap (map command_of) pushed ∙ map_push command_of before.commands.items c ∙ ap (λ xs. xs ++ command_of c ∷ []) are.commands;
  names = same ∙ are.names;
}
