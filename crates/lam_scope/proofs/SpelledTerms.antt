-- Tokens that stand one behind the other spell terms that nest.
use Rattle.std.proofs.Common.{ℕ, ◌≤◌, List, [], ◌∷◌, arith}
use Rattle.lam_token.specs.declared.span.Span.{Span}
use Rattle.lam_token.specs.Lexeme.{Lexeme, lexeme}
use Rattle.lam_syntax.specs.Trees.{Bound, TypeTree, type_tree, TypeFields, TermTree, term_tree, TermNode, FieldTrees, CommandTree, definition, declaration, abbreviation, evaluation, type_span, term_span, spanning_type, spanning_term, from_to}
use Rattle.lam_syntax.specs.Grammar.{BinderIs, name_binder, blank_binder, TypeIs, atype_type, arrow_type, ATypeIs, parens_atype, bool_atype, nat_atype, unit_atype, top_atype, name_atype, empty_atype, record_atype, TypeFieldsAre, last_type_field, more_type_fields, TermIs, lambda_is, if_is, let_is, letrec_is, app_is, AppIs, head_app, argument_app, HeadIs, path_head, fix_head, succ_head, pred_head, iszero_head, PathIs, asc_path, label_path, AscIs, atom_asc, typed_asc, AtomIs, parens_atom, true_atom, false_atom, unit_atom, name_atom, numeral_atom, empty_atom, record_atom, FieldsAre, last_field, more_fields, Spells, definition_command, declaration_command, abbreviation_command, evaluation_command}
use Rattle.lam_scope.specs.Nesting.{TokensStand, AreSpelledFrom}

-- a term that stands between two bytes, with its parts within it, each behind those before it
abbrev mutual
  pub StandsBetween : (low high : ℕ) → TermTree → Type 0
  StandsBetween low high (term_tree s n) = (low ≤ s.start) × (s.start ≤ s.end) × (s.end ≤ high) × PartsStand s.start s.end n

  -- the parts of a term, between two bytes
  pub PartsStand : (low high : ℕ) → TermNode → Type 0
  PartsStand low high (TermNode.lambda b u t) = StandsBetween low high t
  PartsStand low high (TermNode.if_term c t u) = StandsBetween low high c × StandsBetween (term_span c).end high t × StandsBetween (term_span t).end high u
  PartsStand low high (TermNode.let_term b t u) = StandsBetween low high t × StandsBetween (term_span t).end high u
  PartsStand low high (TermNode.letrec_term b w t u) = StandsBetween low high t × StandsBetween (term_span t).end high u
  PartsStand low high (TermNode.prefixed p t) = StandsBetween low high t
  PartsStand low high (TermNode.apply t u) = StandsBetween low high t × StandsBetween (term_span t).end high u
  PartsStand low high (TermNode.project t l) = StandsBetween low high t
  PartsStand low high (TermNode.ascribe t u) = StandsBetween low high t
  PartsStand low high (TermNode.record_term fs) = FieldsStand low high fs
  PartsStand low high n = Unit {0}

  -- the terms of a record, between two bytes
  pub FieldsStand : (low high : ℕ) → FieldTrees → Type 0
  FieldsStand low high FieldTrees.no_fields = Unit {0}
  FieldsStand low high (FieldTrees.field l t fs) = StandsBetween low high t × FieldsStand (term_span t).end high fs

-- the terms of commands, each behind those before it
abbrev pub CommandsStand : (low : ℕ) → List CommandTree → Type 0
CommandsStand low [] = Unit {0}
CommandsStand low (definition w t ∷ cs) = StandsBetween low (term_span t).end t × CommandsStand (term_span t).end cs
CommandsStand low (declaration w u ∷ cs) = CommandsStand low cs
CommandsStand low (abbreviation w u ∷ cs) = CommandsStand low cs
CommandsStand low (evaluation t ∷ cs) = StandsBetween low (term_span t).end t × CommandsStand (term_span t).end cs

abbrev node_in : TermTree → TermNode
node_in (term_tree s n) = n

-- what is spelled from a byte on, and the tokens behind it

abbrev TypeStands : (low : ℕ) → TypeTree → List Lexeme → (high : ℕ) → Type 0
TypeStands low u rest high = (low ≤ (type_span u).start) × ((type_span u).start ≤ (type_span u).end) × TokensStand (type_span u).end rest high

abbrev TermStands : (low : ℕ) → TermTree → List Lexeme → (high : ℕ) → Type 0
TermStands low t rest high =
    (low ≤ (term_span t).start) × ((term_span t).start ≤ (term_span t).end) × PartsStand (term_span t).start (term_span t).end (node_in t) × TokensStand (term_span t).end rest high

abbrev RestStands : (low : ℕ) → List Lexeme → (high : ℕ) → Type 0
RestStands low rest high = (mid : ℕ) × (low ≤ mid) × TokensStand mid rest high

-- the same term, or type, with parentheses round it

type_spanned : (low high : ℕ) (s : Span) (u : TypeTree) (rest : List Lexeme) → low ≤ s.start → s.start ≤ s.end → TokensStand s.end rest high → TypeStands low (spanning_type s u) rest high
type_spanned low high s (type_tree r n) rest first own behind = (first, own, behind)

more_between : (a b c d : ℕ) (t : TermTree) → c ≤ a → b ≤ d → StandsBetween a b t → StandsBetween c d t
more_between a b c d (term_tree s n) first last h = let starts = h.0 in let ends = h.2 in (omega (arith, first, h.0), h.1, omega (arith, last, h.2), h.3)

more_behind : (a b d : ℕ) (t : TermTree) → b ≤ d → StandsBetween a b t → StandsBetween a d t
more_behind a b d t last h = more_between a b a d t (omega arith) last h

more_fields_between : (a b c d : ℕ) (fs : FieldTrees) → c ≤ a → b ≤ d → FieldsStand a b fs → FieldsStand c d fs
more_fields_between a b c d FieldTrees.no_fields first last h = tt
more_fields_between a b c d (FieldTrees.field l t fs) first last h =
    (more_between a b c d t first last h.0, more_fields_between (term_span t).end b (term_span t).end d fs (omega arith) last h.1)

more_parts : (a b c d : ℕ) (n : TermNode) → c ≤ a → b ≤ d → PartsStand a b n → PartsStand c d n
more_parts a b c d (TermNode.lambda x u t) first last h = more_between a b c d t first last h
more_parts a b c d (TermNode.if_term x t u) first last h = (more_between a b c d x first last h.0, more_behind (term_span x).end b d t last h.1, more_behind (term_span t).end b d u last h.2)
more_parts a b c d (TermNode.let_term x t u) first last h = (more_between a b c d t first last h.0, more_behind (term_span t).end b d u last h.1)
more_parts a b c d (TermNode.letrec_term x w t u) first last h = (more_between a b c d t first last h.0, more_behind (term_span t).end b d u last h.1)
more_parts a b c d (TermNode.prefixed p t) first last h = more_between a b c d t first last h
more_parts a b c d (TermNode.apply t u) first last h = (more_between a b c d t first last h.0, more_behind (term_span t).end b d u last h.1)
more_parts a b c d (TermNode.project t l) first last h = more_between a b c d t first last h
more_parts a b c d (TermNode.ascribe t u) first last h = more_between a b c d t first last h
more_parts a b c d (TermNode.record_term fs) first last h = more_fields_between a b c d fs first last h
more_parts a b c d TermNode.true_term first last h = tt
more_parts a b c d TermNode.false_term first last h = tt
more_parts a b c d TermNode.unit_term first last h = tt
more_parts a b c d (TermNode.variable x) first last h = tt
more_parts a b c d (TermNode.numeral x) first last h = tt

term_spanned : (low high : ℕ) (s : Span) (t : TermTree) (rest : List Lexeme) → low ≤ s.start → s.start ≤ s.end → s.start ≤ (term_span t).start → (term_span t).end ≤ s.end
    → PartsStand (term_span t).start (term_span t).end (node_in t) → TokensStand s.end rest high → TermStands low (spanning_term s t) rest high
term_spanned low high s (term_tree r n) rest first own starts ends parts behind = (first, own, more_parts r.start r.end s.start s.end n starts ends parts, behind)

between : (low high : ℕ) (t : TermTree) → low ≤ (term_span t).start → (term_span t).start ≤ (term_span t).end → (term_span t).end ≤ high
    → PartsStand (term_span t).start (term_span t).end (node_in t) → StandsBetween low high t
between low high (term_tree s n) first own last parts = (first, own, last, parts)

-- by the productions of the grammar

binder_stands : (low high : ℕ) {ts rest : List Lexeme} {b : Bound} → BinderIs ts b rest → TokensStand low ts high → RestStands low rest high
binder_stands low high (name_binder {s = s}) o = (s.end, omega (arith, o.0, o.1), o.2)
binder_stands low high (blank_binder {s = s}) o = (s.end, omega (arith, o.0, o.1), o.2)

mutual
  type_stands : (low high : ℕ) {ts rest : List Lexeme} {u : TypeTree} → TypeIs ts u rest → TokensStand low ts high → TypeStands low u rest high
  type_stands low high (atype_type d) o = atype_stands low high d o
  type_stands low high (arrow_type {a = a} {b = b} {s = s} d e) o =
      let one = atype_stands low high d o in
      let two = type_stands s.end high e one.2.2 in
      (one.0, omega (arith, one.1, one.2.0, one.2.1, two.0, two.1), two.2)

  atype_stands : (low high : ℕ) {ts rest : List Lexeme} {u : TypeTree} → ATypeIs ts u rest → TokensStand low ts high → TypeStands low u rest high
  atype_stands low high (parens_atype {rest = rest} {t = t} {s = s} {e = e} d) o =
      let inner = type_stands s.end high d o.2 in
      type_spanned low high (from_to s e) t rest o.0 (omega (arith, o.1, inner.0, inner.1, inner.2.0, inner.2.1)) inner.2.2
  atype_stands low high bool_atype o = (o.0, omega (arith, o.1), o.2)
  atype_stands low high nat_atype o = (o.0, omega (arith, o.1), o.2)
  atype_stands low high unit_atype o = (o.0, omega (arith, o.1), o.2)
  atype_stands low high top_atype o = (o.0, omega (arith, o.1), o.2)
  atype_stands low high name_atype o = (o.0, omega (arith, o.1), o.2)
  atype_stands low high empty_atype o = (o.0, omega (arith, o.1, o.2.0, o.2.1), o.2.2)
  atype_stands low high (record_atype {s = s} d) o =
      let fields = type_fields_stand s.end high d o.2 in
      (o.0, omega (arith, o.1, fields.1, fields.2.0, fields.2.1), fields.2.2)

  type_fields_stand : (low high : ℕ) {ts rest : List Lexeme} {fs : TypeFields} → TypeFieldsAre ts fs rest → TokensStand low ts high → RestStands low rest high
  type_fields_stand low high (last_type_field {t = t} {c = c} d) o =
      let own = type_stands c.end high d o.2.2 in
      ((type_span t).end, omega (arith, o.0, o.1, o.2.0, o.2.1, own.0, own.1), own.2)
  type_fields_stand low high (more_type_fields {c = c} {d = comma} d e) o =
      let own = type_stands c.end high d o.2.2 in
      let others = type_fields_stand comma.end high e own.2.2 in
      (others.0, omega (arith, o.0, o.1, o.2.0, o.2.1, own.0, own.1, own.2.0, own.2.1, others.1), others.2)

mutual
  term_stands : (low high : ℕ) {ts rest : List Lexeme} {t : TermTree} → TermIs ts t rest → TokensStand low ts high → TermStands low t rest high
  term_stands low high (lambda_is {u = u} {t = t} {s = s} {c = c} {d = dot} n d e) o =
      let binder = binder_stands s.end high n o.2 in
      let type = type_stands c.end high d binder.2.2 in
      let body = term_stands dot.end high e type.2.2 in
      let before : s.start ≤ (term_span t).start = omega (arith, o.1, binder.1, binder.2.0, binder.2.1, type.0, type.1, type.2.0, type.2.1, body.0) in
      (o.0, omega (arith, before, body.1), between s.start (term_span t).end t before body.1 (omega arith) body.2, body.3)
  term_stands low high (if_is {c = c} {t = t} {e = e} {s = s} {n = n} {o = m} d f g) o =
      let one = term_stands s.end high d o.2 in
      let two = term_stands n.end high f one.3.2 in
      let three = term_stands m.end high g two.3.2 in
      let first : s.start ≤ (term_span c).start = omega (arith, o.1, one.0) in
      let second : (term_span c).end ≤ (term_span t).start = omega (arith, one.3.0, one.3.1, two.0) in
      let third : (term_span t).end ≤ (term_span e).start = omega (arith, two.3.0, two.3.1, three.0) in (
        o.0,
        omega (arith, first, one.1, second, two.1, third, three.1),
        (
          between s.start (term_span e).end c first one.1 (omega (arith, second, two.1, third, three.1)) one.2,
          between (term_span c).end (term_span e).end t second two.1 (omega (arith, third, three.1)) two.2,
          between (term_span t).end (term_span e).end e third three.1 (omega arith) three.2,
        ),
        three.3,
      )
  term_stands low high (let_is {t = t} {u = u} {s = s} {q = q} {i = i} n d e) o =
      let binder = binder_stands s.end high n o.2 in
      let one = term_stands q.end high d binder.2.2 in
      let two = term_stands i.end high e one.3.2 in
      let first : s.start ≤ (term_span t).start = omega (arith, o.1, binder.1, binder.2.0, binder.2.1, one.0) in
      let second : (term_span t).end ≤ (term_span u).start = omega (arith, one.3.0, one.3.1, two.0) in (
        o.0,
        omega (arith, first, one.1, second, two.1),
        (between s.start (term_span u).end t first one.1 (omega (arith, second, two.1)) one.2, between (term_span t).end (term_span u).end u second two.1 (omega arith) two.2),
        two.3,
      )
  term_stands low high (letrec_is {y = y} {t = t} {u = u} {s = s} {m = m} {n = q} {o = i} n d e f) o =
      let binder = binder_stands s.end high n o.2 in
      let type = type_stands m.end high d binder.2.2 in
      let one = term_stands q.end high e type.2.2 in
      let two = term_stands i.end high f one.3.2 in
      let first : s.start ≤ (term_span t).start = omega (arith, o.1, binder.1, binder.2.0, binder.2.1, type.0, type.1, type.2.0, type.2.1, one.0) in
      let second : (term_span t).end ≤ (term_span u).start = omega (arith, one.3.0, one.3.1, two.0) in (
        o.0,
        omega (arith, first, one.1, second, two.1),
        (between s.start (term_span u).end t first one.1 (omega (arith, second, two.1)) one.2, between (term_span t).end (term_span u).end u second two.1 (omega arith) two.2),
        two.3,
      )
  term_stands low high (app_is d) o = app_stands low high d o

  app_stands : (low high : ℕ) {ts rest : List Lexeme} {t : TermTree} → AppIs ts t rest → TokensStand low ts high → TermStands low t rest high
  app_stands low high (head_app d) o = head_stands low high d o
  app_stands low high (argument_app {f = f} {a = a} d e) o =
      let one = app_stands low high d o in
      let two = path_stands (term_span f).end high e one.3 in (
        one.0,
        omega (arith, one.1, two.0, two.1),
        (between (term_span f).start (term_span a).end f (omega arith) one.1 (omega (arith, two.0, two.1)) one.2, between (term_span f).end (term_span a).end a two.0 two.1 (omega arith) two.2),
        two.3,
      )

  head_stands : (low high : ℕ) {ts rest : List Lexeme} {t : TermTree} → HeadIs ts t rest → TokensStand low ts high → TermStands low t rest high
  head_stands low high (path_head d) o = path_stands low high d o
  head_stands low high (fix_head {t = t} {s = s} d) o =
      let one = path_stands s.end high d o.2 in
      let first : s.start ≤ (term_span t).start = omega (arith, o.1, one.0) in
      (o.0, omega (arith, first, one.1), between s.start (term_span t).end t first one.1 (omega arith) one.2, one.3)
  head_stands low high (succ_head {t = t} {s = s} d) o =
      let one = path_stands s.end high d o.2 in
      let first : s.start ≤ (term_span t).start = omega (arith, o.1, one.0) in
      (o.0, omega (arith, first, one.1), between s.start (term_span t).end t first one.1 (omega arith) one.2, one.3)
  head_stands low high (pred_head {t = t} {s = s} d) o =
      let one = path_stands s.end high d o.2 in
      let first : s.start ≤ (term_span t).start = omega (arith, o.1, one.0) in
      (o.0, omega (arith, first, one.1), between s.start (term_span t).end t first one.1 (omega arith) one.2, one.3)
  head_stands low high (iszero_head {t = t} {s = s} d) o =
      let one = path_stands s.end high d o.2 in
      let first : s.start ≤ (term_span t).start = omega (arith, o.1, one.0) in
      (o.0, omega (arith, first, one.1), between s.start (term_span t).end t first one.1 (omega arith) one.2, one.3)

  path_stands : (low high : ℕ) {ts rest : List Lexeme} {t : TermTree} → PathIs ts t rest → TokensStand low ts high → TermStands low t rest high
  path_stands low high (asc_path d) o = asc_stands low high d o
  path_stands low high (label_path {t = t} {s = s} d) o =
      let one = path_stands low high d o in
      let last : (term_span t).end ≤ s.end = omega (arith, one.3.0, one.3.1, one.3.2.0, one.3.2.1) in
      (one.0, omega (arith, one.1, last), between (term_span t).start s.end t (omega arith) one.1 last one.2, one.3.2.2)

  asc_stands : (low high : ℕ) {ts rest : List Lexeme} {t : TermTree} → AscIs ts t rest → TokensStand low ts high → TermStands low t rest high
  asc_stands low high (atom_asc d) o = atom_stands low high d o
  asc_stands low high (typed_asc {t = t} {u = u} {s = s} d e) o =
      let one = atom_stands low high d o in
      let type = type_stands s.end high e one.3.2 in
      let last : (term_span t).end ≤ (type_span u).end = omega (arith, one.3.0, one.3.1, type.0, type.1) in
      (one.0, omega (arith, one.1, last), between (term_span t).start (type_span u).end t (omega arith) one.1 last one.2, type.2)

  atom_stands : (low high : ℕ) {ts rest : List Lexeme} {t : TermTree} → AtomIs ts t rest → TokensStand low ts high → TermStands low t rest high
  atom_stands low high (parens_atom {rest = rest} {t = t} {s = s} {e = e} d) o =
      let inner = term_stands s.end high d o.2 in
      term_spanned low high (from_to s e) t rest o.0 (omega (arith, o.1, inner.0, inner.1, inner.3.0, inner.3.1)) (omega (arith, o.1, inner.0)) (omega (arith, inner.3.0, inner.3.1)) inner.2 inner.3.2
  atom_stands low high true_atom o = (o.0, omega (arith, o.1), tt, o.2)
  atom_stands low high false_atom o = (o.0, omega (arith, o.1), tt, o.2)
  atom_stands low high unit_atom o = (o.0, omega (arith, o.1), tt, o.2)
  atom_stands low high name_atom o = (o.0, omega (arith, o.1), tt, o.2)
  atom_stands low high numeral_atom o = (o.0, omega (arith, o.1), tt, o.2)
  atom_stands low high empty_atom o = (o.0, omega (arith, o.1, o.2.0, o.2.1), tt, o.2.2)
  atom_stands low high (record_atom {fs = fs} {s = s} {e = e} d) o =
      let fields = fields_stand s.end high d o.2 in
      let last : fields.0 ≤ e.end = omega (arith, fields.3.0, fields.3.1) in
      (o.0, omega (arith, o.1, fields.1, last), more_fields_between s.end fields.0 s.start e.end fs (omega (arith, o.1)) last fields.2, fields.3.2)

  -- fields, up to the byte where the last one ends
  fields_stand : (low high : ℕ) {ts rest : List Lexeme} {fs : FieldTrees} → FieldsAre ts fs rest → TokensStand low ts high
      → (mid : ℕ) × (low ≤ mid) × FieldsStand low mid fs × TokensStand mid rest high
  fields_stand low high (last_field {t = t} {c = c} d) o =
      let own = term_stands c.end high d o.2.2 in
      let before : low ≤ (term_span t).start = omega (arith, o.0, o.1, o.2.0, o.2.1, own.0) in
      ((term_span t).end, omega (arith, before, own.1), (between low (term_span t).end t before own.1 (omega arith) own.2, tt), own.3)
  fields_stand low high (more_fields {t = t} {c = c} {d = comma} d e) o =
      let own = term_stands c.end high d o.2.2 in
      let others = fields_stand comma.end high e own.3.2 in
      let before : low ≤ (term_span t).start = omega (arith, o.0, o.1, o.2.0, o.2.1, own.0) in
      let behind : (term_span t).end ≤ comma.end = omega (arith, own.3.0, own.3.1) in (
        others.0,
        omega (arith, before, own.1, behind, others.1),
        (between low others.0 t before own.1 (omega (arith, behind, others.1)) own.2, more_fields_between comma.end others.0 (term_span t).end others.0 _ behind (omega arith) others.2),
        others.3,
      )

-- commands

lower : (low high : ℕ) (cs : List CommandTree) → low ≤ high → CommandsStand high cs → CommandsStand low cs
lower low high [] le h = tt
lower low high (definition w t ∷ cs) le h = (more_between high (term_span t).end low (term_span t).end t le (omega arith) h.0, h.1)
lower low high (declaration w u ∷ cs) le h = lower low high cs le h
lower low high (abbreviation w u ∷ cs) le h = lower low high cs le h
lower low high (evaluation t ∷ cs) le h = (more_between high (term_span t).end low (term_span t).end t le (omega arith) h.0, h.1)

pub tokens_go_on : (low high : ℕ) (ts : List Lexeme) → TokensStand low ts high → low ≤ high
tokens_go_on low high [] o = o
tokens_go_on low high (lexeme k x s ∷ ts) o = let rest = tokens_go_on s.end high ts o.2 in omega (arith, o.0, o.1, rest)

command_stands : (low high : ℕ) {ts : List Lexeme} (c : CommandTree) (cs : List CommandTree) → Spells ts c → TokensStand low ts high → CommandsStand high cs → CommandsStand low (c ∷ cs)
command_stands low high (definition w t) cs (definition_command {q = q} d) o h =
    let own = term_stands q.end high d o.2.2 in
    (between low (term_span t).end t (omega (arith, o.0, o.1, o.2.0, o.2.1, own.0)) own.1 (omega arith) own.2, lower (term_span t).end high cs own.3 h)
command_stands low high (declaration w u) cs (declaration_command {ts = ts} {c = c} d) o h =
    let own = tokens_go_on c.end high ts o.2.2 in
    lower low high cs (omega (arith, o.0, o.1, o.2.0, o.2.1, own)) h
command_stands low high (abbreviation w u) cs (abbreviation_command {ts = ts} {q = q} d) o h =
    let own = tokens_go_on q.end high ts o.2.2 in
    lower low high cs (omega (arith, o.0, o.1, o.2.0, o.2.1, own)) h
command_stands low high (evaluation t) cs (evaluation_command d) o h =
    let own = term_stands low high d o in
    (between low (term_span t).end t own.0 own.1 (omega arith) own.2, lower (term_span t).end high cs own.3 h)

pub spelled_stand : (low : ℕ) (cs : List CommandTree) → AreSpelledFrom low cs → CommandsStand low cs
spelled_stand low [] h = tt
spelled_stand low (c ∷ cs) h = command_stands low h.1 c cs h.2 h.3 (spelled_stand h.1 cs h.4)
