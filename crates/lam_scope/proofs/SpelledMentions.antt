-- If the names among tokens come one after another, as they do if all tokens do, the names and labels that they spell ascend, whatever is in scope.
use Rattle.std.proofs.Common.{◌≡◌, ℕ, ◌<◌, ◌≤◌, List, [], ◌∷◌, ◌++◌, refl, subst, arith}
use Rattle.lam_token.specs.Lexeme.{Lexeme, lexeme}
use Rattle.lam_token.specs.declared.kind.Kind.{Kind}
use Rattle.lam_token.specs.declared.kind.Kind.TheVariants as kind
use Rattle.lam_token.specs.declared.span.Span.{Span}
use Rattle.lam_syntax.specs.Trees.{Bound, TypeTree, type_tree, TypeFields, TermTree, term_tree, FieldTrees, CommandTree, from_to, spanning_type, spanning_term}
use Rattle.lam_syntax.specs.Grammar.{BinderIs, name_binder, blank_binder, TypeIs, atype_type, arrow_type, ATypeIs, parens_atype, bool_atype, nat_atype, unit_atype, top_atype, name_atype, empty_atype, record_atype, TypeFieldsAre, last_type_field, more_type_fields, TermIs, lambda_is, if_is, let_is, letrec_is, app_is, AppIs, head_app, argument_app, HeadIs, path_head, fix_head, succ_head, pred_head, iszero_head, PathIs, asc_path, label_path, AscIs, atom_asc, typed_asc, AtomIs, parens_atom, true_atom, false_atom, unit_atom, name_atom, numeral_atom, empty_atom, record_atom, FieldsAre, last_field, more_fields, Spells, definition_command, declaration_command, abbreviation_command, evaluation_command}
use Rattle.lam_scope.specs.Mentions.{Binder, seen_of, token_bound_to, Mention, binds_at, uses_at, labels_at, token_of, mention_of, mentions_of_type, mentions_of_type_fields, mentions_of, mentions_of_fields, mentions_of_command, types_behind, names_behind, mentions_from, mentions, Ascend}
use Rattle.lam_scope.specs.Nesting.{TokensStand, AreSpelledFrom, NamesStand, AreNamedFrom}

-- mentions that ascend

pub ascend_from_lower : (low next high : ℕ) (ms : List Mention) → low ≤ next → Ascend next ms high → Ascend low ms high
ascend_from_lower low next high [] le h = omega (arith, le, h)
ascend_from_lower low next high (m ∷ ms) le h = (omega (arith, le, h.0), h.1, h.2)

ascend_to_higher : (low high next : ℕ) (ms : List Mention) → high ≤ next → Ascend low ms high → Ascend low ms next
ascend_to_higher low high next [] le h = omega (arith, le, h)
ascend_to_higher low high next (m ∷ ms) le h = (h.0, h.1, ascend_to_higher (token_of m).end high next ms le h.2)

ascend_append : (low mid high : ℕ) (ms ns : List Mention) → Ascend low ms mid → Ascend mid ns high → Ascend low (ms ++ ns) high
ascend_append low mid high [] ns g h = ascend_from_lower low mid high ns g h
ascend_append low mid high (m ∷ ms) ns g h = (g.0, g.1, ascend_append (token_of m).end mid high ms ns g.2 h)

-- from each byte at which P holds, these mentions ascend to a byte at which Q holds
abbrev Leads : (P : ℕ → Type 0) → List Mention → (Q : ℕ → Type 0) → Type 0
Leads P ms Q = (low : ℕ) → P low → (mid : ℕ) × Ascend low ms mid × Q mid

none : {P : ℕ → Type 0} → Leads P [] P
none low here = (low, omega arith, here)

both : {P Q R : ℕ → Type 0} (ms ns : List Mention) → Leads P ms Q → Leads Q ns R → Leads P (ms ++ ns) R
both ms ns one two low here =
    let front = one low here in
    let behind = two front.0 front.2 in
    (behind.0, ascend_append low front.0 behind.0 ms ns front.1 behind.1, behind.2)

-- a mention before them
first : {P Q : ℕ → Type 0} (m : Mention) (ms : List Mention) → Leads P ms Q → Leads (λ low. (low ≤ (token_of m).start) × ((token_of m).start < (token_of m).end) × P (token_of m).end) (m ∷ ms) Q
first m ms rest low here = let behind = rest (token_of m).end here.2 in (behind.0, (here.0, here.1, behind.1), behind.2)

-- from each byte from which the names of tokens stand, these mentions ascend to one from which those of the tokens that are left do; other tokens drop out by computation
abbrev Passes : (high : ℕ) → (ts : List Lexeme) → List Mention → (rest : List Lexeme) → Type 0
Passes high ts ms rest = Leads (λ low. NamesStand low ts high) ms (λ mid. NamesStand mid rest high)

-- parentheses round a type, or a term, change no mention

pub in_parentheses : (types : List Binder) (s : Span) (u : TypeTree) → mentions_of_type types u ≡ mentions_of_type types (spanning_type s u)
in_parentheses types s (type_tree r n) = refl

pub term_in_parentheses : (types names : List Binder) (s : Span) (t : TermTree) → mentions_of types names t ≡ mentions_of types names (spanning_term s t)
term_in_parentheses types names s (term_tree r n) = refl

-- by the productions of the grammar

binder_passes : (high : ℕ) {ts rest : List Lexeme} {b : Bound} → BinderIs ts b rest → Passes high ts (mention_of b) rest
binder_passes high (name_binder {s = s}) = first (binds_at kind.Name s) [] none
binder_passes high blank_binder = none

mutual
  type_passes : (types : List Binder) (high : ℕ) {ts rest : List Lexeme} {u : TypeTree} → TypeIs ts u rest → Passes high ts (mentions_of_type types u) rest
  type_passes types high (atype_type d) = atype_passes types high d
  type_passes types high (arrow_type {a = a} {b = b} d e) = both (mentions_of_type types a) (mentions_of_type types b) (atype_passes types high d) (type_passes types high e)

  atype_passes : (types : List Binder) (high : ℕ) {ts rest : List Lexeme} {u : TypeTree} → ATypeIs ts u rest → Passes high ts (mentions_of_type types u) rest
  atype_passes types high (parens_atype {ts = ts} {rest = rest} {t = t} {s = s} {e = e} d) = subst (λ ms. Passes high ts ms rest) (in_parentheses types (from_to s e) t) (type_passes types high d)
  atype_passes types high bool_atype = none
  atype_passes types high nat_atype = none
  atype_passes types high unit_atype = none
  atype_passes types high top_atype = none
  atype_passes types high (name_atype {x = x} {s = s}) = first (uses_at kind.TypeName s (token_bound_to x types)) [] none
  atype_passes types high empty_atype = none
  atype_passes types high (record_atype d) = type_fields_pass types high d

  type_fields_pass : (types : List Binder) (high : ℕ) {ts rest : List Lexeme} {fs : TypeFields} → TypeFieldsAre ts fs rest → Passes high ts (mentions_of_type_fields types fs) rest
  type_fields_pass types high (last_type_field {t = t} {s = s} d) = let own = mentions_of_type types t in first (labels_at s) (own ++ []) (both own [] (type_passes types high d) none)
  type_fields_pass types high (more_type_fields {t = t} {fs = fs} {s = s} d e) =
      let own = mentions_of_type types t in
      let others = mentions_of_type_fields types fs in
      first (labels_at s) (own ++ others) (both own others (type_passes types high d) (type_fields_pass types high e))

mutual
  term_passes : (types names : List Binder) (high : ℕ) {ts rest : List Lexeme} {t : TermTree} → TermIs ts t rest → Passes high ts (mentions_of types names t) rest
  term_passes types names high (lambda_is {b = b} {u = u} {t = t} n d e) =
      let front = both (mention_of b) (mentions_of_type types u) (binder_passes high n) (type_passes types high d) in
      both (mention_of b ++ mentions_of_type types u) (mentions_of types (seen_of b ∷ names) t) front (term_passes types (seen_of b ∷ names) high e)
  term_passes types names high (if_is {c = c} {t = t} {e = u} d e f) =
      let one = mentions_of types names c in
      let two = mentions_of types names t in
      both (one ++ two) (mentions_of types names u) (both one two (term_passes types names high d) (term_passes types names high e)) (term_passes types names high f)
  term_passes types names high (let_is {b = b} {t = t} {u = u} n d e) =
      let one = mentions_of types names t in
      let inside = seen_of b ∷ names in
      both (mention_of b ++ one) (mentions_of types inside u) (both (mention_of b) one (binder_passes high n) (term_passes types names high d)) (term_passes types inside high e)
  term_passes types names high (letrec_is {b = b} {y = y} {t = t} {u = u} n d e f) =
      let inside = seen_of b ∷ names in
      let one = mention_of b ++ mentions_of_type types y in
      let two = mentions_of types inside t in
      let front = both (mention_of b) (mentions_of_type types y) (binder_passes high n) (type_passes types high d) in
      both (one ++ two) (mentions_of types inside u) (both one two front (term_passes types inside high e)) (term_passes types inside high f)
  term_passes types names high (app_is d) = app_passes types names high d

  app_passes : (types names : List Binder) (high : ℕ) {ts rest : List Lexeme} {t : TermTree} → AppIs ts t rest → Passes high ts (mentions_of types names t) rest
  app_passes types names high (head_app d) = head_passes types names high d
  app_passes types names high (argument_app {f = f} {a = a} d e) = both (mentions_of types names f) (mentions_of types names a) (app_passes types names high d) (path_passes types names high e)

  head_passes : (types names : List Binder) (high : ℕ) {ts rest : List Lexeme} {t : TermTree} → HeadIs ts t rest → Passes high ts (mentions_of types names t) rest
  head_passes types names high (path_head d) = path_passes types names high d
  head_passes types names high (fix_head d) = path_passes types names high d
  head_passes types names high (succ_head d) = path_passes types names high d
  head_passes types names high (pred_head d) = path_passes types names high d
  head_passes types names high (iszero_head d) = path_passes types names high d

  path_passes : (types names : List Binder) (high : ℕ) {ts rest : List Lexeme} {t : TermTree} → PathIs ts t rest → Passes high ts (mentions_of types names t) rest
  path_passes types names high (asc_path d) = asc_passes types names high d
  path_passes types names high (label_path {t = t} {s = s} d) = both (mentions_of types names t) (labels_at s ∷ []) (path_passes types names high d) (first (labels_at s) [] none)

  asc_passes : (types names : List Binder) (high : ℕ) {ts rest : List Lexeme} {t : TermTree} → AscIs ts t rest → Passes high ts (mentions_of types names t) rest
  asc_passes types names high (atom_asc d) = atom_passes types names high d
  asc_passes types names high (typed_asc {t = t} {u = u} d e) = both (mentions_of types names t) (mentions_of_type types u) (atom_passes types names high d) (type_passes types high e)

  atom_passes : (types names : List Binder) (high : ℕ) {ts rest : List Lexeme} {t : TermTree} → AtomIs ts t rest → Passes high ts (mentions_of types names t) rest
  atom_passes types names high (parens_atom {ts = ts} {rest = rest} {t = t} {s = s} {e = e} d) =
      subst (λ ms. Passes high ts ms rest) (term_in_parentheses types names (from_to s e) t) (term_passes types names high d)
  atom_passes types names high true_atom = none
  atom_passes types names high false_atom = none
  atom_passes types names high unit_atom = none
  atom_passes types names high (name_atom {x = x} {s = s}) = first (uses_at kind.Name s (token_bound_to x names)) [] none
  atom_passes types names high numeral_atom = none
  atom_passes types names high empty_atom = none
  atom_passes types names high (record_atom d) = fields_pass types names high d

  fields_pass : (types names : List Binder) (high : ℕ) {ts rest : List Lexeme} {fs : FieldTrees} → FieldsAre ts fs rest → Passes high ts (mentions_of_fields types names fs) rest
  fields_pass types names high (last_field {t = t} {s = s} d) = let own = mentions_of types names t in first (labels_at s) (own ++ []) (both own [] (term_passes types names high d) none)
  fields_pass types names high (more_fields {t = t} {fs = fs} {s = s} d e) =
      let own = mentions_of types names t in
      let others = mentions_of_fields types names fs in
      first (labels_at s) (own ++ others) (both own others (term_passes types names high d) (fields_pass types names high e))

-- commands

command_passes : (types names : List Binder) (high : ℕ) {ts : List Lexeme} {c : CommandTree} → Spells ts c → Passes high ts (mentions_of_command types names c) []
command_passes types names high (definition_command {t = t} {s = s} d) = first (binds_at kind.Name s) (mentions_of types names t) (term_passes types names high d)
command_passes types names high (declaration_command {t = u} {s = s} d) = first (binds_at kind.Name s) (mentions_of_type types u) (type_passes types high d)
command_passes types names high (abbreviation_command {t = u} {s = s} d) = first (binds_at kind.TypeName s) (mentions_of_type types u) (type_passes types high d)
command_passes types names high (evaluation_command d) = term_passes types names high d

command_ascends : (types names : List Binder) (low high : ℕ) {ts : List Lexeme} (c : CommandTree) → Spells ts c → NamesStand low ts high → Ascend low (mentions_of_command types names c) high
command_ascends types names low high c d stand = let passed = command_passes types names high d low stand in ascend_to_higher low passed.0 high (mentions_of_command types names c) passed.2 passed.1

commands_ascend : (types names : List Binder) (low : ℕ) (cs : List CommandTree) → AreNamedFrom low cs → (high : ℕ) × Ascend low (mentions_from types names cs) high
commands_ascend types names low [] h = (low, omega arith)
commands_ascend types names low (c ∷ cs) h =
    let rest = commands_ascend (types_behind types c) (names_behind names c) h.1 cs h.4 in
    (rest.0, ascend_append low h.1 rest.0 (mentions_of_command types names c) (mentions_from (types_behind types c) (names_behind names c) cs) (command_ascends types names low h.1 c h.2 h.3) rest.1)

pub named_ascend : (cs : List CommandTree) → AreNamedFrom 0 cs → (high : ℕ) × Ascend 0 (mentions cs) high
named_ascend cs h = commands_ascend [] [] 0 cs h

-- where all tokens stand one behind the other, their names do

-- a token that stands so, before tokens whose names stand from its end and from any byte before that
token_named : (k : Kind) (x : List ℕ) (low high : ℕ) (s : Span) (ts : List Lexeme) → low ≤ s.start → s.start < s.end → ((next : ℕ) → next ≤ s.end → NamesStand next ts high)
    → NamesStand low (lexeme k x s ∷ ts) high
token_named kind.Name x low high s ts start some behind = (start, some, behind s.end (omega arith))
token_named kind.TypeName x low high s ts start some behind = (start, some, behind s.end (omega arith))
token_named k x low high s ts start some behind = behind low (omega (arith, start, some))

-- from any byte before them on
names_from : (low next high : ℕ) (ts : List Lexeme) → low ≤ next → TokensStand next ts high → NamesStand low ts high
names_from low next high [] le h = omega (arith, le, h)
names_from low next high (lexeme k x s ∷ ts) le h = token_named k x low high s ts (omega (arith, le, h.0)) h.1 (λ before lower. names_from before s.end high ts lower h.2)

pub names_stand : (low high : ℕ) (ts : List Lexeme) → TokensStand low ts high → NamesStand low ts high
names_stand low high ts h = names_from low low high ts (omega arith) h

pub spelled_named : (low : ℕ) (cs : List CommandTree) → AreSpelledFrom low cs → AreNamedFrom low cs
spelled_named low [] h = h
spelled_named low (c ∷ cs) h = (h.0, h.1, h.2, names_stand low h.1 h.0 h.3, spelled_named h.1 cs h.4)

pub spelled_ascend : (cs : List CommandTree) → AreSpelledFrom 0 cs → (high : ℕ) × Ascend 0 (mentions cs) high
spelled_ascend cs h = named_ascend cs (spelled_named 0 cs h)
