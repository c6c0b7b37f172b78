-- Tokens of the same kinds, with any letters and at any places, spell the tree with these letters and places.
use Rattle.std.proofs.Common.{ℕ, List, map}
use Rattle.lam_token.specs.Lexeme.{Lexeme}
use Rattle.lam_token.specs.Edits.{respelled}
use Rattle.lam_syntax.specs.Trees.{Bound, TypeTree, type_tree, TypeFields, TermTree, term_tree, FieldTrees, CommandTree}
use Rattle.lam_syntax.specs.Grammar.{BinderIs, name_binder, blank_binder, TypeIs, atype_type, arrow_type, ATypeIs, parens_atype, bool_atype, nat_atype, unit_atype, top_atype, name_atype, empty_atype, record_atype, TypeFieldsAre, last_type_field, more_type_fields, TermIs, lambda_is, if_is, let_is, letrec_is, app_is, AppIs, head_app, argument_app, HeadIs, path_head, fix_head, succ_head, pred_head, iszero_head, PathIs, asc_path, label_path, AscIs, atom_asc, typed_asc, AtomIs, parens_atom, true_atom, false_atom, unit_atom, name_atom, numeral_atom, empty_atom, record_atom, FieldsAre, last_field, more_fields, Spells, definition_command, declaration_command, abbreviation_command, evaluation_command}
use Rattle.lam_syntax.specs.Respelled.{Letters, respelled_bound, respelled_type, respelled_type_fields, respelled_term, respelled_fields, respelled_command}

module _ (place : ℕ → ℕ) (letters : Letters) where
  -- all these tokens with the other letters, at the other places
  abbrev respelled_all : List Lexeme → List Lexeme
  respelled_all ts = map (respelled place letters) ts

  -- what binds a name: a name stays one, and an underscore stays one
  respelled_binder : {ts rest : List Lexeme} {b : Bound} → BinderIs ts b rest → BinderIs (respelled_all ts) (respelled_bound place letters b) (respelled_all rest)
  respelled_binder name_binder = name_binder
  respelled_binder blank_binder = blank_binder

  -- Each tree is spelled by the same production as before. Where a production names the span of a tree, the tree is taken apart, so that its span computes.

  mutual
    -- a written type
    type_is_respelled : {ts rest : List Lexeme} {t : TypeTree} → TypeIs ts t rest → TypeIs (respelled_all ts) (respelled_type place letters t) (respelled_all rest)
    type_is_respelled (atype_type d) = atype_type (atype_is_respelled d)
    type_is_respelled (arrow_type {a = type_tree p m} {b = type_tree q n} d e) = arrow_type (atype_is_respelled d) (type_is_respelled e)

    -- an atomic type
    atype_is_respelled : {ts rest : List Lexeme} {t : TypeTree} → ATypeIs ts t rest → ATypeIs (respelled_all ts) (respelled_type place letters t) (respelled_all rest)
    atype_is_respelled (parens_atype {t = type_tree p m} d) = parens_atype (type_is_respelled d)
    atype_is_respelled bool_atype = bool_atype
    atype_is_respelled nat_atype = nat_atype
    atype_is_respelled unit_atype = unit_atype
    atype_is_respelled top_atype = top_atype
    atype_is_respelled name_atype = name_atype
    atype_is_respelled empty_atype = empty_atype
    atype_is_respelled (record_atype d) = record_atype (type_fields_are_respelled d)

    -- labels with their types
    type_fields_are_respelled : {ts rest : List Lexeme} {fs : TypeFields} → TypeFieldsAre ts fs rest → TypeFieldsAre (respelled_all ts) (respelled_type_fields place letters fs) (respelled_all rest)
    type_fields_are_respelled (last_type_field d) = last_type_field (type_is_respelled d)
    type_fields_are_respelled (more_type_fields d e) = more_type_fields (type_is_respelled d) (type_fields_are_respelled e)

  mutual
    -- a term
    term_is_respelled : {ts rest : List Lexeme} {t : TermTree} → TermIs ts t rest → TermIs (respelled_all ts) (respelled_term place letters t) (respelled_all rest)
    term_is_respelled (lambda_is {t = term_tree p m} b d e) = lambda_is (respelled_binder b) (type_is_respelled d) (term_is_respelled e)
    term_is_respelled (if_is {e = term_tree p m} d e f) = if_is (term_is_respelled d) (term_is_respelled e) (term_is_respelled f)
    term_is_respelled (let_is {u = term_tree p m} b d e) = let_is (respelled_binder b) (term_is_respelled d) (term_is_respelled e)
    term_is_respelled (letrec_is {u = term_tree p m} b d e f) = letrec_is (respelled_binder b) (type_is_respelled d) (term_is_respelled e) (term_is_respelled f)
    term_is_respelled (app_is d) = app_is (app_is_respelled d)

    -- an application
    app_is_respelled : {ts rest : List Lexeme} {t : TermTree} → AppIs ts t rest → AppIs (respelled_all ts) (respelled_term place letters t) (respelled_all rest)
    app_is_respelled (head_app d) = head_app (head_is_respelled d)
    app_is_respelled (argument_app {f = term_tree p m} {a = term_tree q n} d e) = argument_app (app_is_respelled d) (path_is_respelled e)

    -- a head
    head_is_respelled : {ts rest : List Lexeme} {t : TermTree} → HeadIs ts t rest → HeadIs (respelled_all ts) (respelled_term place letters t) (respelled_all rest)
    head_is_respelled (path_head d) = path_head (path_is_respelled d)
    head_is_respelled (fix_head {t = term_tree p m} d) = fix_head (path_is_respelled d)
    head_is_respelled (succ_head {t = term_tree p m} d) = succ_head (path_is_respelled d)
    head_is_respelled (pred_head {t = term_tree p m} d) = pred_head (path_is_respelled d)
    head_is_respelled (iszero_head {t = term_tree p m} d) = iszero_head (path_is_respelled d)

    -- a path
    path_is_respelled : {ts rest : List Lexeme} {t : TermTree} → PathIs ts t rest → PathIs (respelled_all ts) (respelled_term place letters t) (respelled_all rest)
    path_is_respelled (asc_path d) = asc_path (asc_is_respelled d)
    path_is_respelled (label_path {t = term_tree p m} d) = label_path (path_is_respelled d)

    -- an ascription
    asc_is_respelled : {ts rest : List Lexeme} {t : TermTree} → AscIs ts t rest → AscIs (respelled_all ts) (respelled_term place letters t) (respelled_all rest)
    asc_is_respelled (atom_asc d) = atom_asc (atom_is_respelled d)
    asc_is_respelled (typed_asc {t = term_tree p m} {u = type_tree q n} d e) = typed_asc (atom_is_respelled d) (type_is_respelled e)

    -- an atom
    atom_is_respelled : {ts rest : List Lexeme} {t : TermTree} → AtomIs ts t rest → AtomIs (respelled_all ts) (respelled_term place letters t) (respelled_all rest)
    atom_is_respelled (parens_atom {t = term_tree p m} d) = parens_atom (term_is_respelled d)
    atom_is_respelled true_atom = true_atom
    atom_is_respelled false_atom = false_atom
    atom_is_respelled unit_atom = unit_atom
    atom_is_respelled name_atom = name_atom
    atom_is_respelled numeral_atom = numeral_atom
    atom_is_respelled empty_atom = empty_atom
    atom_is_respelled (record_atom d) = record_atom (fields_are_respelled d)

    -- labels with their terms
    fields_are_respelled : {ts rest : List Lexeme} {fs : FieldTrees} → FieldsAre ts fs rest → FieldsAre (respelled_all ts) (respelled_fields place letters fs) (respelled_all rest)
    fields_are_respelled (last_field d) = last_field (term_is_respelled d)
    fields_are_respelled (more_fields d e) = more_fields (term_is_respelled d) (fields_are_respelled e)

  -- a command; nothing is left behind it
  pub command_is_respelled : (ts : List Lexeme) (c : CommandTree) → Spells ts c → Spells (map (respelled place letters) ts) (respelled_command place letters c)
  command_is_respelled ts c (definition_command d) = definition_command (term_is_respelled d)
  command_is_respelled ts c (declaration_command d) = declaration_command (type_is_respelled d)
  command_is_respelled ts c (abbreviation_command d) = abbreviation_command (type_is_respelled d)
  command_is_respelled ts c (evaluation_command d) = evaluation_command (term_is_respelled d)
