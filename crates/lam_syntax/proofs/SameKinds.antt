-- Tokens spell a command by their kinds: others of these kinds, with whatever letters and places, spell one too; and none of them is bad.
use Rattle.std.proofs.Common.{◌≡◌, ℕ, zero, suc, false, List, [], ◌∷◌, ◌++◌, map, refl, subst}
use Rattle.lam_token.specs.declared.kind.Kind.TheVariants as kind
use Rattle.lam_token.specs.Lexeme.{Lexeme, lexeme, kind_of, text_of, span_of}
use Rattle.lam_syntax.specs.Trees.{Bound, TypeTree, TypeFields, TermTree, FieldTrees, CommandTree}
use Rattle.lam_syntax.specs.Grammar.{BinderIs, name_binder, blank_binder, TypeIs, atype_type, arrow_type, ATypeIs, parens_atype, bool_atype, nat_atype, unit_atype, top_atype, name_atype, empty_atype, record_atype, TypeFieldsAre, last_type_field, more_type_fields, TermIs, lambda_is, if_is, let_is, letrec_is, app_is, AppIs, head_app, argument_app, HeadIs, path_head, fix_head, succ_head, pred_head, iszero_head, PathIs, asc_path, label_path, AscIs, atom_asc, typed_asc, AtomIs, parens_atom, true_atom, false_atom, unit_atom, name_atom, numeral_atom, empty_atom, record_atom, FieldsAre, last_field, more_fields, Spells, definition_command, declaration_command, abbreviation_command, evaluation_command}
use Rattle.lam_syntax.specs.Answers.{is_bad}

-- ---- other tokens of these kinds

-- tokens one after another, without end
abbrev Supply : Type 0
Supply = ℕ → Lexeme

-- those behind the first
abbrev later : Supply → Supply
later f = λ n. f (suc n)

-- tokens of these kinds with the letters and the places of the supply
abbrev refilled : List Lexeme → Supply → List Lexeme
refilled [] f = []
refilled (lexeme k x s ∷ ts) f = lexeme k (text_of (f 0)) (span_of (f 0)) ∷ refilled ts (later f)

-- The refilled tokens are spelled by the same production, with some tree, up to the rest, which is filled from what is left of the supply.

binder_again : {ts rest : List Lexeme} {b : Bound} → BinderIs ts b rest → (f : Supply) → (g : Supply) × (c : Bound) × BinderIs (refilled ts f) c (refilled rest g)
binder_again name_binder f = (later f, _, name_binder)
binder_again blank_binder f = (later f, _, blank_binder)

mutual
  -- a written type
  type_again : {ts rest : List Lexeme} {t : TypeTree} → TypeIs ts t rest → (f : Supply) → (g : Supply) × (u : TypeTree) × TypeIs (refilled ts f) u (refilled rest g)
  type_again (atype_type d) f = let a = atype_again d f in (a.0, _, atype_type a.2)
  type_again (arrow_type d e) f = let a = atype_again d f in let b = type_again e (later a.0) in (b.0, _, arrow_type a.2 b.2)

  -- an atomic type
  atype_again : {ts rest : List Lexeme} {t : TypeTree} → ATypeIs ts t rest → (f : Supply) → (g : Supply) × (u : TypeTree) × ATypeIs (refilled ts f) u (refilled rest g)
  atype_again (parens_atype d) f = let a = type_again d (later f) in (later a.0, _, parens_atype a.2)
  atype_again bool_atype f = (later f, _, bool_atype)
  atype_again nat_atype f = (later f, _, nat_atype)
  atype_again unit_atype f = (later f, _, unit_atype)
  atype_again top_atype f = (later f, _, top_atype)
  atype_again name_atype f = (later f, _, name_atype)
  atype_again empty_atype f = (later (later f), _, empty_atype)
  atype_again (record_atype d) f = let a = type_fields_again d (later f) in (later a.0, _, record_atype a.2)

  -- labels with their types
  type_fields_again : {ts rest : List Lexeme} {fs : TypeFields} → TypeFieldsAre ts fs rest → (f : Supply) → (g : Supply) × (u : TypeFields) × TypeFieldsAre (refilled ts f) u (refilled rest g)
  type_fields_again (last_type_field d) f = let a = type_again d (later (later f)) in (a.0, _, last_type_field a.2)
  type_fields_again (more_type_fields d e) f = let a = type_again d (later (later f)) in let b = type_fields_again e (later a.0) in (b.0, _, more_type_fields a.2 b.2)

mutual
  -- a term
  term_again : {ts rest : List Lexeme} {t : TermTree} → TermIs ts t rest → (f : Supply) → (g : Supply) × (u : TermTree) × TermIs (refilled ts f) u (refilled rest g)
  term_again (lambda_is b d e) f =
      let a = binder_again b (later f) in
      let c = type_again d (later a.0) in
      let h = term_again e (later c.0) in
      (h.0, _, lambda_is a.2 c.2 h.2)
  term_again (if_is d e i) f =
      let a = term_again d (later f) in
      let c = term_again e (later a.0) in
      let h = term_again i (later c.0) in
      (h.0, _, if_is a.2 c.2 h.2)
  term_again (let_is b d e) f =
      let a = binder_again b (later f) in
      let c = term_again d (later a.0) in
      let h = term_again e (later c.0) in
      (h.0, _, let_is a.2 c.2 h.2)
  term_again (letrec_is b d e i) f =
      let a = binder_again b (later f) in
      let c = type_again d (later a.0) in
      let h = term_again e (later c.0) in
      let j = term_again i (later h.0) in
      (j.0, _, letrec_is a.2 c.2 h.2 j.2)
  term_again (app_is d) f = let a = app_again d f in (a.0, _, app_is a.2)

  -- an application
  app_again : {ts rest : List Lexeme} {t : TermTree} → AppIs ts t rest → (f : Supply) → (g : Supply) × (u : TermTree) × AppIs (refilled ts f) u (refilled rest g)
  app_again (head_app d) f = let a = head_again d f in (a.0, _, head_app a.2)
  app_again (argument_app d e) f = let a = app_again d f in let b = path_again e a.0 in (b.0, _, argument_app a.2 b.2)

  -- a head
  head_again : {ts rest : List Lexeme} {t : TermTree} → HeadIs ts t rest → (f : Supply) → (g : Supply) × (u : TermTree) × HeadIs (refilled ts f) u (refilled rest g)
  head_again (path_head d) f = let a = path_again d f in (a.0, _, path_head a.2)
  head_again (fix_head d) f = let a = path_again d (later f) in (a.0, _, fix_head a.2)
  head_again (succ_head d) f = let a = path_again d (later f) in (a.0, _, succ_head a.2)
  head_again (pred_head d) f = let a = path_again d (later f) in (a.0, _, pred_head a.2)
  head_again (iszero_head d) f = let a = path_again d (later f) in (a.0, _, iszero_head a.2)

  -- a path
  path_again : {ts rest : List Lexeme} {t : TermTree} → PathIs ts t rest → (f : Supply) → (g : Supply) × (u : TermTree) × PathIs (refilled ts f) u (refilled rest g)
  path_again (asc_path d) f = let a = asc_again d f in (a.0, _, asc_path a.2)
  path_again (label_path d) f = let a = path_again d f in (later (later a.0), _, label_path a.2)

  -- an ascription
  asc_again : {ts rest : List Lexeme} {t : TermTree} → AscIs ts t rest → (f : Supply) → (g : Supply) × (u : TermTree) × AscIs (refilled ts f) u (refilled rest g)
  asc_again (atom_asc d) f = let a = atom_again d f in (a.0, _, atom_asc a.2)
  asc_again (typed_asc d e) f = let a = atom_again d f in let b = type_again e (later a.0) in (b.0, _, typed_asc a.2 b.2)

  -- an atom
  atom_again : {ts rest : List Lexeme} {t : TermTree} → AtomIs ts t rest → (f : Supply) → (g : Supply) × (u : TermTree) × AtomIs (refilled ts f) u (refilled rest g)
  atom_again (parens_atom d) f = let a = term_again d (later f) in (later a.0, _, parens_atom a.2)
  atom_again true_atom f = (later f, _, true_atom)
  atom_again false_atom f = (later f, _, false_atom)
  atom_again unit_atom f = (later f, _, unit_atom)
  atom_again name_atom f = (later f, _, name_atom)
  atom_again numeral_atom f = (later f, _, numeral_atom)
  atom_again empty_atom f = (later (later f), _, empty_atom)
  atom_again (record_atom d) f = let a = fields_again d (later f) in (later a.0, _, record_atom a.2)

  -- labels with their terms
  fields_again : {ts rest : List Lexeme} {fs : FieldTrees} → FieldsAre ts fs rest → (f : Supply) → (g : Supply) × (u : FieldTrees) × FieldsAre (refilled ts f) u (refilled rest g)
  fields_again (last_field d) f = let a = term_again d (later (later f)) in (a.0, _, last_field a.2)
  fields_again (more_fields d e) f = let a = term_again d (later (later f)) in let b = fields_again e (later a.0) in (b.0, _, more_fields a.2 b.2)

command_again : {ts : List Lexeme} {c : CommandTree} → Spells ts c → (f : Supply) → (d : CommandTree) × Spells (refilled ts f) d
command_again (definition_command d) f = (_, definition_command (term_again d (later (later f))).2)
command_again (declaration_command d) f = (_, declaration_command (type_again d (later (later f))).2)
command_again (abbreviation_command d) f = (_, abbreviation_command (type_again d (later (later f))).2)
command_again (evaluation_command d) f = (_, evaluation_command (term_again d f).2)

-- ---- tokens as a supply

-- these tokens, and then this one without end
abbrev supply : List Lexeme → Lexeme → Supply
supply [] last n = last
supply (u ∷ us) last zero = u
supply (u ∷ us) last (suc n) = supply us last n

filled : (ts us : List Lexeme) (last : Lexeme) → map kind_of ts ≡ map kind_of us → refilled ts (supply us last) ≡ us
filled [] [] last same = refl
filled [] (u ∷ us) last same = absurd cc
filled (t ∷ ts) [] last same = absurd cc
filled (lexeme k x s ∷ ts) (lexeme j y e ∷ us) last same =
    let first : k ≡ j = cc in
    let others : map kind_of ts ≡ map kind_of us = cc in
    (λ i. lexeme (first i) y e ∷ filled ts us last others i)

-- some token
any_token : Lexeme
any_token = lexeme kind.Name [] (record { start = 0; end = 0 })

pub same_kinds_spell : (ts us : List Lexeme) (c : CommandTree) → map kind_of ts ≡ map kind_of us → Spells ts c → (d : CommandTree) × Spells us d
same_kinds_spell ts us c same spells =
    let found = command_again spells (supply us any_token) in
    (found.0, subst (λ l. Spells l found.0) (filled ts us any_token same) found.1)

-- ---- none is bad

-- each token is a lexeme
abbrev pub NoneBad : List Lexeme → Type 0
NoneBad [] = Unit {0}
NoneBad (t ∷ ts) = (is_bad (kind_of t) ≡ false) × NoneBad ts

-- If all tokens of the rest are lexemes, so are the tokens spelled before it.

binder_good : {ts rest : List Lexeme} {b : Bound} → BinderIs ts b rest → NoneBad rest → NoneBad ts
binder_good name_binder g = (refl, g)
binder_good blank_binder g = (refl, g)

mutual
  type_good : {ts rest : List Lexeme} {t : TypeTree} → TypeIs ts t rest → NoneBad rest → NoneBad ts
  type_good (atype_type d) g = atype_good d g
  type_good (arrow_type d e) g = atype_good d (refl, type_good e g)

  atype_good : {ts rest : List Lexeme} {t : TypeTree} → ATypeIs ts t rest → NoneBad rest → NoneBad ts
  atype_good (parens_atype d) g = (refl, type_good d (refl, g))
  atype_good bool_atype g = (refl, g)
  atype_good nat_atype g = (refl, g)
  atype_good unit_atype g = (refl, g)
  atype_good top_atype g = (refl, g)
  atype_good name_atype g = (refl, g)
  atype_good empty_atype g = (refl, (refl, g))
  atype_good (record_atype d) g = (refl, type_fields_good d (refl, g))

  type_fields_good : {ts rest : List Lexeme} {fs : TypeFields} → TypeFieldsAre ts fs rest → NoneBad rest → NoneBad ts
  type_fields_good (last_type_field d) g = (refl, (refl, type_good d g))
  type_fields_good (more_type_fields d e) g = (refl, (refl, type_good d (refl, type_fields_good e g)))

mutual
  term_good : {ts rest : List Lexeme} {t : TermTree} → TermIs ts t rest → NoneBad rest → NoneBad ts
  term_good (lambda_is b d e) g = (refl, binder_good b (refl, type_good d (refl, term_good e g)))
  term_good (if_is d e i) g = (refl, term_good d (refl, term_good e (refl, term_good i g)))
  term_good (let_is b d e) g = (refl, binder_good b (refl, term_good d (refl, term_good e g)))
  term_good (letrec_is b d e i) g = (refl, binder_good b (refl, type_good d (refl, term_good e (refl, term_good i g))))
  term_good (app_is d) g = app_good d g

  app_good : {ts rest : List Lexeme} {t : TermTree} → AppIs ts t rest → NoneBad rest → NoneBad ts
  app_good (head_app d) g = head_good d g
  app_good (argument_app d e) g = app_good d (path_good e g)

  head_good : {ts rest : List Lexeme} {t : TermTree} → HeadIs ts t rest → NoneBad rest → NoneBad ts
  head_good (path_head d) g = path_good d g
  head_good (fix_head d) g = (refl, path_good d g)
  head_good (succ_head d) g = (refl, path_good d g)
  head_good (pred_head d) g = (refl, path_good d g)
  head_good (iszero_head d) g = (refl, path_good d g)

  path_good : {ts rest : List Lexeme} {t : TermTree} → PathIs ts t rest → NoneBad rest → NoneBad ts
  path_good (asc_path d) g = asc_good d g
  path_good (label_path d) g = path_good d (refl, (refl, g))

  asc_good : {ts rest : List Lexeme} {t : TermTree} → AscIs ts t rest → NoneBad rest → NoneBad ts
  asc_good (atom_asc d) g = atom_good d g
  asc_good (typed_asc d e) g = atom_good d (refl, type_good e g)

  atom_good : {ts rest : List Lexeme} {t : TermTree} → AtomIs ts t rest → NoneBad rest → NoneBad ts
  atom_good (parens_atom d) g = (refl, term_good d (refl, g))
  atom_good true_atom g = (refl, g)
  atom_good false_atom g = (refl, g)
  atom_good unit_atom g = (refl, g)
  atom_good name_atom g = (refl, g)
  atom_good numeral_atom g = (refl, g)
  atom_good empty_atom g = (refl, (refl, g))
  atom_good (record_atom d) g = (refl, fields_good d (refl, g))

  fields_good : {ts rest : List Lexeme} {fs : FieldTrees} → FieldsAre ts fs rest → NoneBad rest → NoneBad ts
  fields_good (last_field d) g = (refl, (refl, term_good d g))
  fields_good (more_fields d e) g = (refl, (refl, term_good d (refl, fields_good e g)))

pub command_good : (ts : List Lexeme) (c : CommandTree) → Spells ts c → NoneBad ts
command_good ts c (definition_command d) = (refl, (refl, term_good d tt))
command_good ts c (declaration_command d) = (refl, (refl, type_good d tt))
command_good ts c (abbreviation_command d) = (refl, (refl, type_good d tt))
command_good ts c (evaluation_command d) = term_good d tt

pub good_parts : (ts us : List Lexeme) → NoneBad (ts ++ us) → NoneBad ts × NoneBad us
good_parts [] us g = (tt, g)
good_parts (t ∷ ts) us g = let found = good_parts ts us g.1 in ((g.0, found.0), found.1)
