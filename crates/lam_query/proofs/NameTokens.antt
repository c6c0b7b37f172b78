-- What holds of the kind and the place of each token of a text that is a name or a type name holds of the kind and the token of each mention, labels among them.
use Rattle.std.proofs.Common.{◌≡◌, List, [], ◌∷◌, ◌++◌, true, refl, subst, inl, inr}
use Rattle.std.specs.List.{AllByRecursion}
use Rattle.lam_token.specs.declared.kind.Kind.{Kind}
use Rattle.lam_token.specs.declared.kind.Kind.TheVariants as kind
use Rattle.lam_token.specs.declared.span.Span.{Span}
use Rattle.lam_token.specs.Edits.{is_name_kind}
use Rattle.lam_token.specs.Lexeme.{Lexeme, kind_of, span_of}
use Rattle.lam_syntax.specs.Trees.{Bound, TypeTree, TypeFields, TermTree, FieldTrees, CommandTree, from_to}
use Rattle.lam_syntax.specs.Grammar.{BinderIs, name_binder, blank_binder, TypeIs, atype_type, arrow_type, ATypeIs, parens_atype, bool_atype, nat_atype, unit_atype, top_atype, name_atype, empty_atype, record_atype, TypeFieldsAre, last_type_field, more_type_fields, TermIs, lambda_is, if_is, let_is, letrec_is, app_is, AppIs, head_app, argument_app, HeadIs, path_head, fix_head, succ_head, pred_head, iszero_head, PathIs, asc_path, label_path, AscIs, atom_asc, typed_asc, AtomIs, parens_atom, true_atom, false_atom, unit_atom, name_atom, numeral_atom, empty_atom, record_atom, FieldsAre, last_field, more_fields, Spells, definition_command, declaration_command, abbreviation_command, evaluation_command}
use Rattle.lam_syntax.specs.Answers.{pieces_of}
use Rattle.lam_scope.specs.Mentions.{Binder, seen_of, Mention, labels_at, token_of, kind_of as kind_of_mention, mention_of, mentions_of_type, mentions_of_type_fields, mentions_of, mentions_of_fields, mentions_of_command, types_behind, names_behind, mentions_from, mentions}
use Rattle.lam_scope.proofs.SpelledMentions.{in_parentheses, term_in_parentheses}
use Rattle.lam_scope.proofs.EveryElement.{every_append}
use Rattle.lam_query.specs.Commands.{AreCommandsOf}
use Rattle.lam_query.proofs.TokensOfPieces.{InPieces, pieces_in}

-- Q holds of the kind and the place of a token, if it is a name or a type name
abbrev pub IfName : (Kind → Span → Type 0) → Lexeme → Type 0
IfName Q t = is_name_kind (kind_of t) ≡ true → Q (kind_of t) (span_of t)

abbrev pub InNames : (Kind → Span → Type 0) → List Lexeme → Type 0
InNames Q ts = AllByRecursion (IfName Q) ts

-- Q holds of the kind and the token of each mention
abbrev pub IsIn : (Kind → Span → Type 0) → Mention → Type 0
IsIn Q m = Q (kind_of_mention m) (token_of m)

abbrev pub AreIn : (Kind → Span → Type 0) → List Mention → Type 0
AreIn Q ms = AllByRecursion (IsIn Q) ms

-- those of a front, and the tokens behind it
abbrev Passes : (Kind → Span → Type 0) → List Mention → List Lexeme → Type 0
Passes Q ms rest = AreIn Q ms × InNames Q rest

join : (Q : Kind → Span → Type 0) (ms ns : List Mention) (rest : List Lexeme) → AreIn Q ms → Passes Q ns rest → Passes Q (ms ++ ns) rest
join Q ms ns rest h k = (every_append (IsIn Q) ms ns h k.0, k.1)

-- a label before them
labelled : (Q : Kind → Span → Type 0) (s : Span) (ms : List Mention) (rest : List Lexeme) → Q kind.Name s → Passes Q ms rest → Passes Q (labels_at s ∷ ms) rest
labelled Q s ms rest own h = ((own, h.0), h.1)

-- by the productions of the grammar

binder_passes : (Q : Kind → Span → Type 0) {ts rest : List Lexeme} {b : Bound} → BinderIs ts b rest → InNames Q ts → Passes Q (mention_of b) rest
binder_passes Q name_binder h = ((h.0 refl, tt), h.1)
binder_passes Q blank_binder h = (tt, h.1)

mutual
  type_passes : (Q : Kind → Span → Type 0) (types : List Binder) {ts rest : List Lexeme} {u : TypeTree} → TypeIs ts u rest → InNames Q ts → Passes Q (mentions_of_type types u) rest
  type_passes Q types (atype_type d) h = atype_passes Q types d h
  type_passes Q types (arrow_type {rest = rest} {a = a} {b = b} d e) h =
      let one = atype_passes Q types d h in
      join Q (mentions_of_type types a) (mentions_of_type types b) rest one.0 (type_passes Q types e one.1.1)

  atype_passes : (Q : Kind → Span → Type 0) (types : List Binder) {ts rest : List Lexeme} {u : TypeTree} → ATypeIs ts u rest → InNames Q ts → Passes Q (mentions_of_type types u) rest
  atype_passes Q types (parens_atype {rest = rest} {t = t} {s = s} {e = e} d) h =
      let inner = type_passes Q types d h.1 in
      subst (λ ms. Passes Q ms rest) (in_parentheses types (from_to s e) t) (inner.0, inner.1.1)
  atype_passes Q types bool_atype h = (tt, h.1)
  atype_passes Q types nat_atype h = (tt, h.1)
  atype_passes Q types unit_atype h = (tt, h.1)
  atype_passes Q types top_atype h = (tt, h.1)
  atype_passes Q types name_atype h = ((h.0 refl, tt), h.1)
  atype_passes Q types empty_atype h = (tt, h.1.1)
  atype_passes Q types (record_atype d) h = let fields = type_fields_pass Q types d h.1 in (fields.0, fields.1.1)

  type_fields_pass : (Q : Kind → Span → Type 0) (types : List Binder) {ts rest : List Lexeme} {fs : TypeFields} → TypeFieldsAre ts fs rest → InNames Q ts → Passes Q (mentions_of_type_fields types fs) rest
  type_fields_pass Q types (last_type_field {rest = rest} {t = t} {s = s} d) h =
      let own = type_passes Q types d h.1.1 in
      labelled Q s (mentions_of_type types t ++ []) rest (h.0 refl) (join Q (mentions_of_type types t) [] rest own.0 (tt, own.1))
  type_fields_pass Q types (more_type_fields {rest = rest} {t = t} {fs = fs} {s = s} d e) h =
      let own = type_passes Q types d h.1.1 in
      labelled Q s (mentions_of_type types t ++ mentions_of_type_fields types fs) rest (h.0 refl)
      (join Q (mentions_of_type types t) (mentions_of_type_fields types fs) rest own.0 (type_fields_pass Q types e own.1.1))

mutual
  term_passes : (Q : Kind → Span → Type 0) (types names : List Binder) {ts rest : List Lexeme} {t : TermTree} → TermIs ts t rest → InNames Q ts → Passes Q (mentions_of types names t) rest
  term_passes Q types names (lambda_is {rest = rest} {b = b} {u = u} {t = t} n d e) h =
      let binder = binder_passes Q n h.1 in
      let type = type_passes Q types d binder.1.1 in
      join Q (mention_of b ++ mentions_of_type types u) (mentions_of types (seen_of b ∷ names) t) rest (every_append (IsIn Q) (mention_of b) (mentions_of_type types u) binder.0 type.0)
      (term_passes Q types (seen_of b ∷ names) e type.1.1)
  term_passes Q types names (if_is {rest = rest} {c = c} {t = t} {e = u} d e f) h =
      let one = term_passes Q types names d h.1 in
      let two = term_passes Q types names e one.1.1 in
      join Q (mentions_of types names c ++ mentions_of types names t) (mentions_of types names u) rest (every_append (IsIn Q) (mentions_of types names c) (mentions_of types names t) one.0 two.0)
      (term_passes Q types names f two.1.1)
  term_passes Q types names (let_is {rest = rest} {b = b} {t = t} {u = u} n d e) h =
      let binder = binder_passes Q n h.1 in
      let one = term_passes Q types names d binder.1.1 in
      join Q (mention_of b ++ mentions_of types names t) (mentions_of types (seen_of b ∷ names) u) rest (every_append (IsIn Q) (mention_of b) (mentions_of types names t) binder.0 one.0)
      (term_passes Q types (seen_of b ∷ names) e one.1.1)
  term_passes Q types names (letrec_is {rest = rest} {b = b} {y = y} {t = t} {u = u} n d e f) h =
      let inside = seen_of b ∷ names in
      let binder = binder_passes Q n h.1 in
      let type = type_passes Q types d binder.1.1 in
      let one = term_passes Q types (seen_of b ∷ names) e type.1.1 in
      join Q (mention_of b ++ mentions_of_type types y ++ mentions_of types inside t) (mentions_of types inside u) rest
      (every_append (IsIn Q) (mention_of b ++ mentions_of_type types y) (mentions_of types inside t) (every_append (IsIn Q) (mention_of b) (mentions_of_type types y) binder.0 type.0) one.0)
      (term_passes Q types (seen_of b ∷ names) f one.1.1)
  term_passes Q types names (app_is d) h = app_passes Q types names d h

  app_passes : (Q : Kind → Span → Type 0) (types names : List Binder) {ts rest : List Lexeme} {t : TermTree} → AppIs ts t rest → InNames Q ts → Passes Q (mentions_of types names t) rest
  app_passes Q types names (head_app d) h = head_passes Q types names d h
  app_passes Q types names (argument_app {rest = rest} {f = f} {a = a} d e) h =
      let one = app_passes Q types names d h in
      join Q (mentions_of types names f) (mentions_of types names a) rest one.0 (path_passes Q types names e one.1)

  head_passes : (Q : Kind → Span → Type 0) (types names : List Binder) {ts rest : List Lexeme} {t : TermTree} → HeadIs ts t rest → InNames Q ts → Passes Q (mentions_of types names t) rest
  head_passes Q types names (path_head d) h = path_passes Q types names d h
  head_passes Q types names (fix_head d) h = path_passes Q types names d h.1
  head_passes Q types names (succ_head d) h = path_passes Q types names d h.1
  head_passes Q types names (pred_head d) h = path_passes Q types names d h.1
  head_passes Q types names (iszero_head d) h = path_passes Q types names d h.1

  path_passes : (Q : Kind → Span → Type 0) (types names : List Binder) {ts rest : List Lexeme} {t : TermTree} → PathIs ts t rest → InNames Q ts → Passes Q (mentions_of types names t) rest
  path_passes Q types names (asc_path d) h = asc_passes Q types names d h
  path_passes Q types names (label_path {rest = rest} {t = t} {s = s} d) h =
      let one = path_passes Q types names d h in
      join Q (mentions_of types names t) (labels_at s ∷ []) rest one.0 ((one.1.1.0 refl, tt), one.1.1.1)

  asc_passes : (Q : Kind → Span → Type 0) (types names : List Binder) {ts rest : List Lexeme} {t : TermTree} → AscIs ts t rest → InNames Q ts → Passes Q (mentions_of types names t) rest
  asc_passes Q types names (atom_asc d) h = atom_passes Q types names d h
  asc_passes Q types names (typed_asc {rest = rest} {t = t} {u = u} d e) h =
      let one = atom_passes Q types names d h in
      join Q (mentions_of types names t) (mentions_of_type types u) rest one.0 (type_passes Q types e one.1.1)

  atom_passes : (Q : Kind → Span → Type 0) (types names : List Binder) {ts rest : List Lexeme} {t : TermTree} → AtomIs ts t rest → InNames Q ts → Passes Q (mentions_of types names t) rest
  atom_passes Q types names (parens_atom {rest = rest} {t = t} {s = s} {e = e} d) h =
      let inner = term_passes Q types names d h.1 in
      subst (λ ms. Passes Q ms rest) (term_in_parentheses types names (from_to s e) t) (inner.0, inner.1.1)
  atom_passes Q types names true_atom h = (tt, h.1)
  atom_passes Q types names false_atom h = (tt, h.1)
  atom_passes Q types names unit_atom h = (tt, h.1)
  atom_passes Q types names name_atom h = ((h.0 refl, tt), h.1)
  atom_passes Q types names numeral_atom h = (tt, h.1)
  atom_passes Q types names empty_atom h = (tt, h.1.1)
  atom_passes Q types names (record_atom d) h = let fields = fields_pass Q types names d h.1 in (fields.0, fields.1.1)

  fields_pass : (Q : Kind → Span → Type 0) (types names : List Binder) {ts rest : List Lexeme} {fs : FieldTrees} → FieldsAre ts fs rest → InNames Q ts → Passes Q (mentions_of_fields types names fs) rest
  fields_pass Q types names (last_field {rest = rest} {t = t} {s = s} d) h =
      let own = term_passes Q types names d h.1.1 in
      labelled Q s (mentions_of types names t ++ []) rest (h.0 refl) (join Q (mentions_of types names t) [] rest own.0 (tt, own.1))
  fields_pass Q types names (more_fields {rest = rest} {t = t} {fs = fs} {s = s} d e) h =
      let own = term_passes Q types names d h.1.1 in
      labelled Q s (mentions_of types names t ++ mentions_of_fields types names fs) rest (h.0 refl)
      (join Q (mentions_of types names t) (mentions_of_fields types names fs) rest own.0 (fields_pass Q types names e own.1.1))

-- pieces and their commands

command_in : (Q : Kind → Span → Type 0) (types names : List Binder) {ts : List Lexeme} {c : CommandTree} → Spells ts c → InNames Q ts → AreIn Q (mentions_of_command types names c)
command_in Q types names (definition_command d) h = (h.0 refl, (term_passes Q types names d h.1.1).0)
command_in Q types names (declaration_command d) h = (h.0 refl, (type_passes Q types d h.1.1).0)
command_in Q types names (abbreviation_command d) h = (h.0 refl, (type_passes Q types d h.1.1).0)
command_in Q types names (evaluation_command d) h = (term_passes Q types names d h).0

commands_in : (Q : Kind → Span → Type 0) (types names : List Binder) (ps : List (List Lexeme)) (cs : List CommandTree) → InPieces (IfName Q) ps → AreCommandsOf ps cs → AreIn Q (mentions_from types names cs)
commands_in Q types names [] cs h are = rw are tt
commands_in Q types names (p ∷ ps) cs h (inl are) =
    let types_then = types_behind types are.0 in
    let names_then = names_behind names are.0 in
    rw are.2
    (every_append (IsIn Q) (mentions_of_command types names are.0) (mentions_from types_then names_then are.1) (command_in Q types names are.3.spelled h.0) (commands_in Q types_then names_then ps are.1 h.1 are.4))
commands_in Q types names (p ∷ ps) cs h (inr are) = commands_in Q types names ps cs h.1 are.1

pub names_in : (Q : Kind → Span → Type 0) (ts : List Lexeme) (cs : List CommandTree) → AreCommandsOf (pieces_of ts) cs → InNames Q ts → AreIn Q (mentions cs)
names_in Q ts cs are h = commands_in Q [] [] (pieces_of ts) cs (pieces_in (IfName Q) ts h) are
