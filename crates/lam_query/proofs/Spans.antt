-- The places in a tree are made of those of its tokens.
use Rattle.std.proofs.Common.{List}
use Rattle.std.specs.List.{AllByRecursion}
use Rattle.lam_token.specs.declared.span.Span.{Span}
use Rattle.lam_token.specs.Lexeme.{Lexeme, span_of}
use Rattle.lam_syntax.specs.Trees.{Bound, TypeTree, type_tree, TypeFields, TermTree, term_tree, FieldTrees, CommandTree, from_to, type_span, term_span, spanning_type, spanning_term}
use Rattle.lam_syntax.specs.Grammar.{BinderIs, name_binder, blank_binder, TypeIs, atype_type, arrow_type, ATypeIs, parens_atype, bool_atype, nat_atype, unit_atype, top_atype, name_atype, empty_atype, record_atype, TypeFieldsAre, last_type_field, more_type_fields, TermIs, lambda_is, if_is, let_is, letrec_is, app_is, AppIs, head_app, argument_app, HeadIs, path_head, fix_head, succ_head, pred_head, iszero_head, PathIs, asc_path, label_path, AscIs, atom_asc, typed_asc, AtomIs, parens_atom, true_atom, false_atom, unit_atom, name_atom, numeral_atom, empty_atom, record_atom, FieldsAre, last_field, more_fields, Spells, definition_command, declaration_command, abbreviation_command, evaluation_command}
use Rattle.lam_query.proofs.TreePlaces.{InBound, InType, InTypeFields, InTerm, InFields, InCommand}

-- Q holds of the place of a token
abbrev pub AtPlace : (Span → Type 0) → Lexeme → Type 0
AtPlace Q t = Q (span_of t)

abbrev pub InTokens : (Span → Type 0) → List Lexeme → Type 0
InTokens Q ts = AllByRecursion (AtPlace Q) ts

-- a test that goes on from two places to the one from the start of the first to the end of the second
abbrev pub Spreads : (Span → Type 0) → Type 0
Spreads Q = (a b : Span) → Q a → Q b → Q (from_to a b)

pub type_place : (Q : Span → Type 0) (t : TypeTree) → InType Q t → Q (type_span t)
type_place Q (type_tree s n) h = h.0

pub term_place : (Q : Span → Type 0) (t : TermTree) → InTerm Q t → Q (term_span t)
term_place Q (term_tree s n) h = h.0

type_spanned : (Q : Span → Type 0) (s : Span) (t : TypeTree) → Q s → InType Q t → InType Q (spanning_type s t)
type_spanned Q s (type_tree r n) q h = (q, h.1)

term_spanned : (Q : Span → Type 0) (s : Span) (t : TermTree) → Q s → InTerm Q t → InTerm Q (spanning_term s t)
term_spanned Q s (term_tree r n) q h = (q, h.1)

in_binder : (Q : Span → Type 0) {ts rest : List Lexeme} {b : Bound} → BinderIs ts b rest → InTokens Q ts → InBound Q b × InTokens Q rest
in_binder Q name_binder h = h
in_binder Q blank_binder h = h

mutual
  in_type : (Q : Span → Type 0) → Spreads Q → {ts rest : List Lexeme} {t : TypeTree} → TypeIs ts t rest → InTokens Q ts → InType Q t × InTokens Q rest
  in_type Q w (atype_type k) h = in_atype Q w k h
  in_type Q w (arrow_type {a = a} {b = b} k l) h =
      let one = in_atype Q w k h in
      let two = in_type Q w l one.1.1 in
      ((w (type_span a) (type_span b) (type_place Q a one.0) (type_place Q b two.0), (one.0, two.0)), two.1)

  in_atype : (Q : Span → Type 0) → Spreads Q → {ts rest : List Lexeme} {t : TypeTree} → ATypeIs ts t rest → InTokens Q ts → InType Q t × InTokens Q rest
  in_atype Q w (parens_atype {t = t} {s = s} {e = e} k) h =
      let one = in_type Q w k h.1 in
      (type_spanned Q (from_to s e) t (w s e h.0 one.1.0) one.0, one.1.1)
  in_atype Q w bool_atype h = ((h.0, tt), h.1)
  in_atype Q w nat_atype h = ((h.0, tt), h.1)
  in_atype Q w unit_atype h = ((h.0, tt), h.1)
  in_atype Q w top_atype h = ((h.0, tt), h.1)
  in_atype Q w name_atype h = ((h.0, h.0), h.1)
  in_atype Q w (empty_atype {s = s} {e = e}) h = ((w s e h.0 h.1.0, tt), h.1.1)
  in_atype Q w (record_atype {s = s} {e = e} k) h = let one = in_type_fields Q w k h.1 in ((w s e h.0 one.1.0, one.0), one.1.1)

  in_type_fields : (Q : Span → Type 0) → Spreads Q → {ts rest : List Lexeme} {fs : TypeFields} → TypeFieldsAre ts fs rest → InTokens Q ts → InTypeFields Q fs × InTokens Q rest
  in_type_fields Q w (last_type_field k) h = let one = in_type Q w k h.1.1 in ((h.0, one.0, tt), one.1)
  in_type_fields Q w (more_type_fields k l) h =
      let one = in_type Q w k h.1.1 in
      let two = in_type_fields Q w l one.1.1 in
      ((h.0, one.0, two.0), two.1)

mutual
  in_term : (Q : Span → Type 0) → Spreads Q → {ts rest : List Lexeme} {t : TermTree} → TermIs ts t rest → InTokens Q ts → InTerm Q t × InTokens Q rest
  in_term Q w (lambda_is {t = t} {s = s} b k l) h =
      let own = in_binder Q b h.1 in
      let one = in_type Q w k own.1.1 in
      let two = in_term Q w l one.1.1 in
      ((w s (term_span t) h.0 (term_place Q t two.0), (own.0, one.0, two.0)), two.1)
  in_term Q w (if_is {e = e} {s = s} k l m) h =
      let one = in_term Q w k h.1 in
      let two = in_term Q w l one.1.1 in
      let three = in_term Q w m two.1.1 in
      ((w s (term_span e) h.0 (term_place Q e three.0), (one.0, two.0, three.0)), three.1)
  in_term Q w (let_is {u = u} {s = s} b k l) h =
      let own = in_binder Q b h.1 in
      let one = in_term Q w k own.1.1 in
      let two = in_term Q w l one.1.1 in
      ((w s (term_span u) h.0 (term_place Q u two.0), (own.0, one.0, two.0)), two.1)
  in_term Q w (letrec_is {u = u} {s = s} b k l m) h =
      let own = in_binder Q b h.1 in
      let one = in_type Q w k own.1.1 in
      let two = in_term Q w l one.1.1 in
      let three = in_term Q w m two.1.1 in
      ((w s (term_span u) h.0 (term_place Q u three.0), (own.0, one.0, two.0, three.0)), three.1)
  in_term Q w (app_is k) h = in_app Q w k h

  in_app : (Q : Span → Type 0) → Spreads Q → {ts rest : List Lexeme} {t : TermTree} → AppIs ts t rest → InTokens Q ts → InTerm Q t × InTokens Q rest
  in_app Q w (head_app k) h = in_head Q w k h
  in_app Q w (argument_app {f = f} {a = a} k l) h =
      let one = in_app Q w k h in
      let two = in_path Q w l one.1 in
      ((w (term_span f) (term_span a) (term_place Q f one.0) (term_place Q a two.0), (one.0, two.0)), two.1)

  in_head : (Q : Span → Type 0) → Spreads Q → {ts rest : List Lexeme} {t : TermTree} → HeadIs ts t rest → InTokens Q ts → InTerm Q t × InTokens Q rest
  in_head Q w (path_head k) h = in_path Q w k h
  in_head Q w (fix_head {t = t} {s = s} k) h = let one = in_path Q w k h.1 in ((w s (term_span t) h.0 (term_place Q t one.0), one.0), one.1)
  in_head Q w (succ_head {t = t} {s = s} k) h = let one = in_path Q w k h.1 in ((w s (term_span t) h.0 (term_place Q t one.0), one.0), one.1)
  in_head Q w (pred_head {t = t} {s = s} k) h = let one = in_path Q w k h.1 in ((w s (term_span t) h.0 (term_place Q t one.0), one.0), one.1)
  in_head Q w (iszero_head {t = t} {s = s} k) h = let one = in_path Q w k h.1 in ((w s (term_span t) h.0 (term_place Q t one.0), one.0), one.1)

  in_path : (Q : Span → Type 0) → Spreads Q → {ts rest : List Lexeme} {t : TermTree} → PathIs ts t rest → InTokens Q ts → InTerm Q t × InTokens Q rest
  in_path Q w (asc_path k) h = in_asc Q w k h
  in_path Q w (label_path {t = t} {s = s} k) h =
      let one = in_path Q w k h in
      ((w (term_span t) s (term_place Q t one.0) one.1.1.0, (one.0, one.1.1.0)), one.1.1.1)

  in_asc : (Q : Span → Type 0) → Spreads Q → {ts rest : List Lexeme} {t : TermTree} → AscIs ts t rest → InTokens Q ts → InTerm Q t × InTokens Q rest
  in_asc Q w (atom_asc k) h = in_atom Q w k h
  in_asc Q w (typed_asc {t = t} {u = u} k l) h =
      let one = in_atom Q w k h in
      let two = in_type Q w l one.1.1 in
      ((w (term_span t) (type_span u) (term_place Q t one.0) (type_place Q u two.0), (one.0, two.0)), two.1)

  in_atom : (Q : Span → Type 0) → Spreads Q → {ts rest : List Lexeme} {t : TermTree} → AtomIs ts t rest → InTokens Q ts → InTerm Q t × InTokens Q rest
  in_atom Q w (parens_atom {t = t} {s = s} {e = e} k) h =
      let one = in_term Q w k h.1 in
      (term_spanned Q (from_to s e) t (w s e h.0 one.1.0) one.0, one.1.1)
  in_atom Q w true_atom h = ((h.0, tt), h.1)
  in_atom Q w false_atom h = ((h.0, tt), h.1)
  in_atom Q w unit_atom h = ((h.0, tt), h.1)
  in_atom Q w name_atom h = ((h.0, h.0), h.1)
  in_atom Q w numeral_atom h = ((h.0, h.0), h.1)
  in_atom Q w (empty_atom {s = s} {e = e}) h = ((w s e h.0 h.1.0, tt), h.1.1)
  in_atom Q w (record_atom {s = s} {e = e} k) h = let one = in_fields Q w k h.1 in ((w s e h.0 one.1.0, one.0), one.1.1)

  in_fields : (Q : Span → Type 0) → Spreads Q → {ts rest : List Lexeme} {fs : FieldTrees} → FieldsAre ts fs rest → InTokens Q ts → InFields Q fs × InTokens Q rest
  in_fields Q w (last_field k) h = let one = in_term Q w k h.1.1 in ((h.0, one.0, tt), one.1)
  in_fields Q w (more_fields k l) h =
      let one = in_term Q w k h.1.1 in
      let two = in_fields Q w l one.1.1 in
      ((h.0, one.0, two.0), two.1)

pub in_command : (Q : Span → Type 0) → Spreads Q → (ts : List Lexeme) (c : CommandTree) → Spells ts c → InTokens Q ts → InCommand Q c
in_command Q w ts c (definition_command k) h = (h.0, (in_term Q w k h.1.1).0)
in_command Q w ts c (declaration_command k) h = (h.0, (in_type Q w k h.1.1).0)
in_command Q w ts c (abbreviation_command k) h = (h.0, (in_type Q w k h.1.1).0)
in_command Q w ts c (evaluation_command k) h = (in_term Q w k h).0
