-- What is spelled is read, and nothing else is: a token list spells one tree at most.
use Rattle.std.proofs.Common.{◌≡◌, ℕ, List, [], ◌∷◌, refl, ap, sym, ◌∙◌, subst}
use Rattle.lam_token.specs.declared.kind.Kind.TheVariants as kind
use Rattle.lam_token.specs.declared.span.Span.{Span}
use Rattle.lam_token.specs.Lexeme.{Lexeme, lexeme}
use Rattle.lam_syntax.specs.declared.terms.Prefix.TheVariants as prefix
use Rattle.lam_syntax.specs.Trees.{word, Bound, TypeTree, type_tree, record_type, TypeFields, no_type_fields, type_field, TermTree, term_tree, project, record_term, FieldTrees, no_fields, field, CommandTree, evaluation, from_to, term_span, joined_types, joined}
use Rattle.lam_syntax.specs.Grammar.{BinderIs, name_binder, blank_binder, TypeIs, atype_type, arrow_type, ATypeIs, parens_atype, bool_atype, nat_atype, unit_atype, top_atype, name_atype, empty_atype, record_atype, TypeFieldsAre, last_type_field, more_type_fields, TermIs, lambda_is, if_is, let_is, letrec_is, app_is, AppIs, head_app, argument_app, HeadIs, path_head, fix_head, succ_head, pred_head, iszero_head, PathIs, asc_path, label_path, AscIs, atom_asc, typed_asc, AtomIs, parens_atom, true_atom, false_atom, unit_atom, name_atom, numeral_atom, empty_atom, record_atom, FieldsAre, last_field, more_fields, Spells, definition_command, declaration_command, abbreviation_command, evaluation_command}
use Rattle.lam_syntax.specs.inner.Run.{Purpose, for_lambda, for_let, for_letrec, InTerm, of_evaluation, of_definition, in_lambda, in_condition, in_then, in_else, in_let, in_let_body, in_letrec, in_letrec_body, in_parens, in_field, InPath, as_head, as_operand, as_argument, InType, of_declaration, of_abbreviation, of_lambda, of_letrec, of_ascription, right_of, in_type_parens, in_type_field, need_command, need_type, after_atype, need_type_field, next_type_field, need_binder, after_binder, need_term, need_path, after_atom, after_asc, need_field, next_field, ended_type, ended_asc, ended_app, ended_term, begin_atom, begin_term, tree, run, look}
use Rattle.lam_syntax.specs.inner.Reads.{Starts}
use Rattle.lam_syntax.proofs.Ends.{TypeEnds, AscEnds, PathEnds, TermEnds, asc_type, path_asc, term_path, start_path, run-look, type_ended, atom_ended, path_ended, app_ended, head_begun, argument_begun}

run_binder : {ts rest : List Lexeme} {b : Bound} → BinderIs ts b rest → (p : Purpose) (s : Span) (k : InTerm) → run ts (need_binder p s k) ≡ run rest (after_binder p s b k)
run_binder name_binder p s k = refl
run_binder blank_binder p s k = refl

pub joined_types-joined : (fs : TypeFields) (l : _) (t : TypeTree) (gs : TypeFields) → joined_types (joined_types fs (type_field l t no_type_fields)) gs ≡ joined_types fs (type_field l t gs)
joined_types-joined no_type_fields l t gs = refl
joined_types-joined (type_field m u fs) l t gs = ap (type_field m u) (joined_types-joined fs l t gs)

pub joined-joined : (fs : FieldTrees) (l : _) (t : TermTree) (gs : FieldTrees) → joined (joined fs (field l t no_fields)) gs ≡ joined fs (field l t gs)
joined-joined no_fields l t gs = refl
joined-joined (field m u fs) l t gs = ap (field m u) (joined-joined fs l t gs)

-- types

type_fields_begin : {ts rest : List Lexeme} {fs : TypeFields} → TypeFieldsAre ts fs rest → (s : Span) (k : InType) → run ts (need_type_field s k) ≡ run ts (next_type_field s no_type_fields k)
type_fields_begin (last_type_field d) s k = refl
type_fields_begin (more_type_fields d e) s k = refl

mutual
  pub run_type : {ts rest : List Lexeme} {t : TypeTree} → TypeIs ts t rest → (k : InType) → TypeEnds rest → run ts (need_type k) ≡ look rest (λ o. ended_type o t k)
  run_type {ts} {rest} {t} (atype_type d) k ends = run_atype d k ∙ type_ended rest t k ends
  run_type (arrow_type {a = a} d e) k ends = run_atype d k ∙ run_type e (right_of a k) ends

  run_atype : {ts rest : List Lexeme} {t : TypeTree} → ATypeIs ts t rest → (k : InType) → run ts (need_type k) ≡ run rest (after_atype t k)
  run_atype (parens_atype {s = s} d) k = run_type d (in_type_parens s k) tt
  run_atype bool_atype k = refl
  run_atype nat_atype k = refl
  run_atype unit_atype k = refl
  run_atype top_atype k = refl
  run_atype name_atype k = refl
  run_atype empty_atype k = refl
  run_atype (record_atype {s = s} d) k = type_fields_begin d s k ∙ run_type_fields d s no_type_fields k refl

  run_type_fields : {ts left rest : List Lexeme} {fs : TypeFields} {y : List ℕ} {e : Span} → TypeFieldsAre ts fs left → (s : Span) (before : TypeFields) (k : InType) → left ≡ lexeme kind.CloseBrace y e ∷ rest → run ts (next_type_field s before k) ≡ run rest (after_atype (type_tree (from_to s e) (record_type (joined_types before fs))) k)
  run_type_fields (last_type_field {t = t} {l = l} {s = r} d) s before k is =
      run_type d (in_type_field s before (word l r) k) (subst TypeEnds (sym is) tt)
      ∙ ap (λ left. look left (λ o. ended_type o t (in_type_field s before (word l r) k))) is
  run_type_fields {rest = rest} {e = e} (more_type_fields {t = t} {fs = fs} {l = l} {s = r} d f) s before k is =
      run_type d (in_type_field s before (word l r) k) tt
      ∙ run_type_fields f s (joined_types before (type_field (word l r) t no_type_fields)) k is
      ∙ ap (λ gs. run rest (after_atype (type_tree (from_to s e) (record_type gs)) k)) (joined_types-joined before (word l r) t fs)

-- terms

fields_begin : {ts rest : List Lexeme} {fs : FieldTrees} → FieldsAre ts fs rest → (s : Span) (k : InPath) → run ts (need_field s k) ≡ run ts (next_field s no_fields k)
fields_begin (last_field d) s k = refl
fields_begin (more_fields d e) s k = refl

atom_starts : {ts rest : List Lexeme} {t : TermTree} → AtomIs ts t rest → Starts ts
atom_starts (parens_atom d) = tt
atom_starts true_atom = tt
atom_starts false_atom = tt
atom_starts unit_atom = tt
atom_starts name_atom = tt
atom_starts numeral_atom = tt
atom_starts empty_atom = tt
atom_starts (record_atom d) = tt

asc_starts : {ts rest : List Lexeme} {t : TermTree} → AscIs ts t rest → Starts ts
asc_starts (atom_asc d) = atom_starts d
asc_starts (typed_asc d e) = atom_starts d

path_starts : {ts rest : List Lexeme} {t : TermTree} → PathIs ts t rest → Starts ts
path_starts (asc_path d) = asc_starts d
path_starts (label_path d) = path_starts d

mutual
  pub run_term : {ts rest : List Lexeme} {t : TermTree} → TermIs ts t rest → (k : InTerm) → TermEnds rest → run ts (need_term k) ≡ look rest (λ o. ended_term o t k)
  run_term (lambda_is {b = b} {u = u} {s = s} n d e) k ends =
      run_binder n for_lambda s k ∙ run_type d (of_lambda s b k) tt ∙ run_term e (in_lambda s b u k) ends
  run_term (if_is {c = c} {t = t} {s = s} d e f) k ends =
      run_term d (in_condition s k) tt ∙ run_term e (in_then s c k) tt ∙ run_term f (in_else s c t k) ends
  run_term (let_is {b = b} {t = t} {s = s} n d e) k ends =
      run_binder n for_let s k ∙ run_term d (in_let s b k) tt ∙ run_term e (in_let_body s b t k) ends
  run_term (letrec_is {b = b} {y = y} {t = t} {s = s} n d e f) k ends =
      run_binder n for_letrec s k ∙ run_type d (of_letrec s b k) tt ∙ run_term e (in_letrec s b y k) tt ∙ run_term f (in_letrec_body s b y t k) ends
  run_term {ts} {rest} {t} (app_is d) k ends =
      run-look ts (need_term k) ∙ run_app d k (term_path rest ends) ∙ app_ended rest t k ends

  run_app : {ts rest : List Lexeme} {t : TermTree} → AppIs ts t rest → (k : InTerm) → PathEnds rest → look ts (λ o. begin_term o k) ≡ look rest (λ o. ended_app o t k)
  run_app (head_app d) k ends = run_head d k ends
  run_app {rest = rest} (argument_app {us = us} {f = f} {a = a} d e) k ends =
      run_app d k (start_path us (path_starts e))
      ∙ argument_begun us f k (path_starts e)
      ∙ run_path e (as_argument f k) (path_asc rest ends)
      ∙ path_ended rest a (as_argument f k) ends

  run_head : {ts rest : List Lexeme} {t : TermTree} → HeadIs ts t rest → (k : InTerm) → PathEnds rest → look ts (λ o. begin_term o k) ≡ look rest (λ o. ended_app o t k)
  run_head {ts} {rest} {t} (path_head d) k ends =
      head_begun ts k (path_starts d) ∙ run_path d (as_head k) (path_asc rest ends) ∙ path_ended rest t (as_head k) ends
  run_head {rest = rest} (fix_head {ts = us} {t = t} {s = s} d) k ends =
      run-look us (need_path (as_operand s prefix.Fix k)) ∙ run_path d (as_operand s prefix.Fix k) (path_asc rest ends) ∙ path_ended rest t (as_operand s prefix.Fix k) ends
  run_head {rest = rest} (succ_head {ts = us} {t = t} {s = s} d) k ends =
      run-look us (need_path (as_operand s prefix.Succ k)) ∙ run_path d (as_operand s prefix.Succ k) (path_asc rest ends) ∙ path_ended rest t (as_operand s prefix.Succ k) ends
  run_head {rest = rest} (pred_head {ts = us} {t = t} {s = s} d) k ends =
      run-look us (need_path (as_operand s prefix.Pred k)) ∙ run_path d (as_operand s prefix.Pred k) (path_asc rest ends) ∙ path_ended rest t (as_operand s prefix.Pred k) ends
  run_head {rest = rest} (iszero_head {ts = us} {t = t} {s = s} d) k ends =
      run-look us (need_path (as_operand s prefix.IsZero k)) ∙ run_path d (as_operand s prefix.IsZero k) (path_asc rest ends) ∙ path_ended rest t (as_operand s prefix.IsZero k) ends

  run_path : {ts rest : List Lexeme} {t : TermTree} → PathIs ts t rest → (k : InPath) → AscEnds rest → look ts (λ o. begin_atom o k) ≡ look rest (λ o. ended_asc o t k)
  run_path (asc_path d) k ends = run_asc d k ends
  run_path {rest = rest} (label_path {t = t} {l = l} {s = s} d) k ends =
      run_path d k tt ∙ run-look rest (after_asc (term_tree (from_to (term_span t) s) (project t (word l s))) k)

  run_asc : {ts rest : List Lexeme} {t : TermTree} → AscIs ts t rest → (k : InPath) → AscEnds rest → look ts (λ o. begin_atom o k) ≡ look rest (λ o. ended_asc o t k)
  run_asc {rest = rest} {t = t} (atom_asc d) k ends = run_atom d k ∙ atom_ended rest t k ends
  run_asc {rest = rest} (typed_asc {t = t} d e) k ends = run_atom d k ∙ run_type e (of_ascription t k) (asc_type rest ends)

  run_atom : {ts rest : List Lexeme} {t : TermTree} → AtomIs ts t rest → (k : InPath) → look ts (λ o. begin_atom o k) ≡ run rest (after_atom t k)
  run_atom (parens_atom {s = s} d) k = run_term d (in_parens s k) tt
  run_atom true_atom k = refl
  run_atom false_atom k = refl
  run_atom unit_atom k = refl
  run_atom name_atom k = refl
  run_atom numeral_atom k = refl
  run_atom empty_atom k = refl
  run_atom (record_atom {s = s} d) k = fields_begin d s k ∙ run_fields d s no_fields k refl

  run_fields : {ts left rest : List Lexeme} {fs : FieldTrees} {y : List ℕ} {e : Span} → FieldsAre ts fs left → (s : Span) (before : FieldTrees) (k : InPath) → left ≡ lexeme kind.CloseBrace y e ∷ rest → run ts (next_field s before k) ≡ run rest (after_atom (term_tree (from_to s e) (record_term (joined before fs))) k)
  run_fields (last_field {t = t} {l = l} {s = r} d) s before k is =
      run_term d (in_field s before (word l r) k) (subst TermEnds (sym is) tt)
      ∙ ap (λ left. look left (λ o. ended_term o t (in_field s before (word l r) k))) is
  run_fields {rest = rest} {e = e} (more_fields {t = t} {fs = fs} {l = l} {s = r} d f) s before k is =
      run_term d (in_field s before (word l r) k) tt
      ∙ run_fields f s (joined before (field (word l r) t no_fields)) k is
      ∙ ap (λ gs. run rest (after_atom (term_tree (from_to s e) (record_term gs)) k)) (joined-joined before (word l r) t fs)

-- commands

-- a term that is read to the end is no definition and no declaration
evaluation_begun : (ts : List Lexeme) (c : CommandTree) → run ts (need_term of_evaluation) ≡ tree c → run ts need_command ≡ tree c
evaluation_begun [] c h = h
evaluation_begun (lexeme kind.Name x s ∷ []) c h = h
evaluation_begun (lexeme kind.Name x s ∷ lexeme kind.Equals y q ∷ ts) c h = absurd cc
evaluation_begun (lexeme kind.Name x s ∷ lexeme kind.Colon y q ∷ ts) c h = absurd cc
evaluation_begun (lexeme kind.Name x s ∷ lexeme _ y q ∷ ts) c h = h
evaluation_begun (lexeme kind.TypeName x s ∷ ts) c h = absurd cc
evaluation_begun (lexeme _ x s ∷ ts) c h = h

pub complete : {ts : List Lexeme} {c : CommandTree} → Spells ts c → run ts need_command ≡ tree c
complete (definition_command {x = x} {s = s} d) = run_term d (of_definition (word x s)) tt
complete (declaration_command {x = x} {s = s} d) = run_type d (of_declaration (word x s)) tt
complete (abbreviation_command {x = x} {s = s} d) = run_type d (of_abbreviation (word x s)) tt
complete {ts} (evaluation_command {t = t} d) = evaluation_begun ts (evaluation t) (run_term d of_evaluation tt)

-- one list of tokens spells one tree
pub one_tree : {ts : List Lexeme} {c d : CommandTree} → Spells ts c → Spells ts d → c ≡ d
one_tree one other = let same = sym (complete one) ∙ complete other in cc
