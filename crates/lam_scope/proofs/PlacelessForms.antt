-- The nameless form of trees is that of the same trees at other places.
use Rattle.std.proofs.Common.{◌≡◌, ℕ, List, [], ◌∷◌, map, refl, ap, Option, Some, None}
use Rattle.lam_token.specs.declared.kind.Kind.TheVariants as kind
use Rattle.lam_syntax.specs.Trees.{word, bound, TypeTree, type_tree, TypeNode, bool, nat, unit, top, named, arrow, record_type, TypeFields, no_type_fields, type_field, TermTree, term_tree, TermNode, true_term, false_term, unit_term, variable, numeral, lambda, if_term, let_term, letrec_term, prefixed, apply, project, ascribe, record_term, FieldTrees, no_fields, field, CommandTree, definition, declaration, abbreviation, evaluation}
use Rattle.lam_syntax.specs.Respelled.{Letters, respelled_type, respelled_type_node, respelled_type_fields, respelled_term, respelled_node, respelled_fields, respelled_command}
use Rattle.lam_scope.specs.Names.{Name}
use Rattle.lam_scope.specs.Forms.{type_form, type_node_form, type_field_forms, term_form, node_form, field_forms, type_field_form, arrow_form, record_type_form, lambda_form, if_form, let_form, letrec_form, prefixed_form, apply_form, project_form, ascribe_form, record_form, field_form, definition_form, declaration_form, abbreviation_form, evaluation_form, forms, forms_from}

module _ (place other : ℕ → ℕ) (letters : Letters) where
  -- written types

  mutual
    type_elsewhere : (types : List (Option Name)) (u : TypeTree) → type_form types (respelled_type place letters u) ≡ type_form types (respelled_type other letters u)
    type_elsewhere types (type_tree s n) = type_node_elsewhere types n

    type_node_elsewhere : (types : List (Option Name)) (n : TypeNode) → type_node_form types (respelled_type_node place letters n) ≡ type_node_form types (respelled_type_node other letters n)
    type_node_elsewhere types bool = refl
    type_node_elsewhere types nat = refl
    type_node_elsewhere types unit = refl
    type_node_elsewhere types top = refl
    type_node_elsewhere types (named (word x s)) = refl
    type_node_elsewhere types (arrow a b) = λ i. arrow_form (type_elsewhere types a i) (type_elsewhere types b i)
    type_node_elsewhere types (record_type fs) = ap record_type_form (type_fields_elsewhere types fs)

    type_fields_elsewhere : (types : List (Option Name)) (fs : TypeFields) → type_field_forms types (respelled_type_fields place letters fs) ≡ type_field_forms types (respelled_type_fields other letters fs)
    type_fields_elsewhere types no_type_fields = refl
    type_fields_elsewhere types (type_field (word l s) t fs) = λ i. type_field_form (letters kind.Name l s) (type_elsewhere types t i) (type_fields_elsewhere types fs i)

  -- terms

  mutual
    term_elsewhere : (types names : List (Option Name)) (t : TermTree) → term_form types names (respelled_term place letters t) ≡ term_form types names (respelled_term other letters t)
    term_elsewhere types names (term_tree s n) = node_elsewhere types names n

    node_elsewhere : (types names : List (Option Name)) (n : TermNode) → node_form types names (respelled_node place letters n) ≡ node_form types names (respelled_node other letters n)
    node_elsewhere types names true_term = refl
    node_elsewhere types names false_term = refl
    node_elsewhere types names unit_term = refl
    node_elsewhere types names (variable (word x s)) = refl
    node_elsewhere types names (numeral (word x s)) = refl
    node_elsewhere types names (lambda (bound None s) u t) = λ i. lambda_form (type_elsewhere types u i) (term_elsewhere types (None ∷ names) t i)
    node_elsewhere types names (lambda (bound (Some x) s) u t) = λ i. lambda_form (type_elsewhere types u i) (term_elsewhere types (Some (letters kind.Name x s) ∷ names) t i)
    node_elsewhere types names (if_term c t u) = λ i. if_form (term_elsewhere types names c i) (term_elsewhere types names t i) (term_elsewhere types names u i)
    node_elsewhere types names (let_term (bound None s) t u) = λ i. let_form (term_elsewhere types names t i) (term_elsewhere types (None ∷ names) u i)
    node_elsewhere types names (let_term (bound (Some x) s) t u) = λ i. let_form (term_elsewhere types names t i) (term_elsewhere types (Some (letters kind.Name x s) ∷ names) u i)
    node_elsewhere types names (letrec_term (bound None s) w t u) = λ i. letrec_form (type_elsewhere types w i) (term_elsewhere types (None ∷ names) t i) (term_elsewhere types (None ∷ names) u i)
    node_elsewhere types names (letrec_term (bound (Some x) s) w t u) = λ i. letrec_form (type_elsewhere types w i) (term_elsewhere types (Some (letters kind.Name x s) ∷ names) t i) (term_elsewhere types (Some (letters kind.Name x s) ∷ names) u i)
    node_elsewhere types names (prefixed p t) = ap (prefixed_form p) (term_elsewhere types names t)
    node_elsewhere types names (apply t u) = λ i. apply_form (term_elsewhere types names t i) (term_elsewhere types names u i)
    node_elsewhere types names (project t (word l s)) = λ i. project_form (term_elsewhere types names t i) (letters kind.Name l s)
    node_elsewhere types names (ascribe t u) = λ i. ascribe_form (term_elsewhere types names t i) (type_elsewhere types u i)
    node_elsewhere types names (record_term fs) = ap record_form (fields_elsewhere types names fs)

    fields_elsewhere : (types names : List (Option Name)) (fs : FieldTrees) → field_forms types names (respelled_fields place letters fs) ≡ field_forms types names (respelled_fields other letters fs)
    fields_elsewhere types names no_fields = refl
    fields_elsewhere types names (field (word l s) t fs) = λ i. field_form (letters kind.Name l s) (term_elsewhere types names t i) (fields_elsewhere types names fs i)

  -- commands

  commands_elsewhere : (types names : List (Option Name)) (cs : List CommandTree) → forms_from types names (map (respelled_command place letters) cs) ≡ forms_from types names (map (respelled_command other letters) cs)
  commands_elsewhere types names [] = refl
  commands_elsewhere types names (definition (word x s) t ∷ cs) = λ i. definition_form (term_elsewhere types names t i) ∷ commands_elsewhere types (Some (letters kind.Name x s) ∷ names) cs i
  commands_elsewhere types names (declaration (word x s) u ∷ cs) = λ i. declaration_form (type_elsewhere types u i) ∷ commands_elsewhere types (Some (letters kind.Name x s) ∷ names) cs i
  commands_elsewhere types names (abbreviation (word x s) u ∷ cs) = λ i. abbreviation_form (type_elsewhere types u i) ∷ commands_elsewhere (Some (letters kind.TypeName x s) ∷ types) names cs i
  commands_elsewhere types names (evaluation t ∷ cs) = λ i. evaluation_form (term_elsewhere types names t i) ∷ commands_elsewhere types names cs i

pub forms_elsewhere : (cs : List CommandTree) (place : ℕ → ℕ) (letters : Letters) → forms (map (respelled_command place letters) cs) ≡ forms (map (respelled_command (λ o. o) letters) cs)
forms_elsewhere cs place letters = commands_elsewhere place (λ o. o) letters [] [] cs
