-- What is read is spelled.
use Rattle.std.proofs.Common.{◌≡◌, ℕ, List, [], ◌∷◌, subst}
use Rattle.lam_token.specs.declared.kind.Kind.{Kind}
use Rattle.lam_token.specs.declared.kind.Kind.TheVariants as kind
use Rattle.lam_token.specs.declared.span.Span.{Span}
use Rattle.lam_token.specs.Lexeme.{Lexeme, lexeme}
use Rattle.lam_syntax.specs.declared.terms.Prefix.{Prefix}
use Rattle.lam_syntax.specs.declared.terms.Prefix.TheVariants as prefix
use Rattle.lam_syntax.specs.Trees.{word, Bound, TypeTree, type_tree, record_type, TypeFields, no_type_fields, type_field, TermTree, term_tree, record_term, FieldTrees, no_fields, field, CommandTree, evaluation, definition, declaration, abbreviation, from_to, joined_types, joined}
use Rattle.lam_syntax.specs.Grammar.{BinderIs, name_binder, blank_binder, TypeIs, atype_type, arrow_type, ATypeIs, parens_atype, bool_atype, nat_atype, unit_atype, top_atype, name_atype, empty_atype, record_atype, TypeFieldsAre, last_type_field, more_type_fields, TermIs, lambda_is, if_is, let_is, letrec_is, app_is, AppIs, head_app, argument_app, path_head, fix_head, succ_head, pred_head, iszero_head, PathIs, asc_path, label_path, atom_asc, typed_asc, AtomIs, parens_atom, true_atom, false_atom, unit_atom, name_atom, numeral_atom, empty_atom, record_atom, FieldsAre, last_field, more_fields, Spells, definition_command, declaration_command, abbreviation_command, evaluation_command}
use Rattle.lam_syntax.specs.inner.Run.{Purpose, for_lambda, for_let, for_letrec, InTerm, of_evaluation, of_definition, in_lambda, in_condition, in_then, in_else, in_let, in_let_body, in_letrec, in_letrec_body, in_parens, in_field, InPath, as_head, as_operand, as_argument, InType, of_declaration, of_abbreviation, of_lambda, of_letrec, of_ascription, right_of, in_type_parens, in_type_field, State, need_command, after_name, after_type_name, need_type, after_atype, need_type_field, next_type_field, after_type_label, need_binder, after_binder, need_term, need_path, after_atom, after_asc, need_label, need_field, next_field, after_label, step, ended_type, ended_atype, ended_asc, ended_atom, ended_app, ended_term, begin_atom, begin_term, begin_type, begin_command, name_next, type_name_next, binder_next, bound_next, begin_type_field, more_type_field, type_label_next, begin_field, more_field, label_next, projected, applied, outside, tree, fault, run, look}
use Rattle.lam_syntax.proofs.Complete.{joined_types-joined, joined-joined}

abbrev prefix_kind : Prefix → Kind
prefix_kind prefix.Fix = kind.Fix
prefix_kind prefix.Succ = kind.Succ
prefix_kind prefix.Pred = kind.Pred
prefix_kind prefix.IsZero = kind.IsZero

abbrev purpose_kind : Purpose → Kind
purpose_kind for_lambda = kind.Lambda
purpose_kind for_let = kind.Let
purpose_kind for_letrec = kind.Letrec

-- Fields are spelled up to a closing brace, and the record of the fields before and these ones fits.

abbrev TypeFieldsNeed : Span → TypeFields → (TypeTree → List Lexeme → Type 0) → List Lexeme → Type 0
TypeFieldsNeed s before fits ts =
    (fs : TypeFields) × (y : List ℕ) × (e : Span) × (rest : List Lexeme) × TypeFieldsAre ts fs (lexeme kind.CloseBrace y e ∷ rest) × fits (type_tree (from_to s e) (record_type (joined_types before fs))) rest

abbrev FieldsNeed : Span → FieldTrees → (TermTree → List Lexeme → Type 0) → List Lexeme → Type 0
FieldsNeed s before fits ts =
    (fs : FieldTrees) × (y : List ℕ) × (e : Span) × (rest : List Lexeme) × FieldsAre ts fs (lexeme kind.CloseBrace y e ∷ rest) × fits (term_tree (from_to s e) (record_term (joined before fs))) rest

-- Whatever tokens spelled what is unfinished, they and these, in their order, spell the command.

abbrev mutual
  TermNeeds : InTerm → List Lexeme → CommandTree → Type 0
  TermNeeds of_evaluation ts c = Spells ts c
  TermNeeds (of_definition (word x s)) ts c = (y : List ℕ) (q : Span) → Spells (lexeme kind.Name x s ∷ lexeme kind.Equals y q ∷ ts) c
  TermNeeds (in_lambda s b u k) ts c =
      (x y z : List ℕ) (m n : Span) (us vs : List Lexeme) → BinderIs us b (lexeme kind.Colon y m ∷ vs) → TypeIs vs u (lexeme kind.Dot z n ∷ ts) → TermNeeds k (lexeme kind.Lambda x s ∷ us) c
  TermNeeds (in_condition s k) ts c = (x : List ℕ) → TermNeeds k (lexeme kind.If x s ∷ ts) c
  TermNeeds (in_then s t k) ts c =
      (x y : List ℕ) (m : Span) (us : List Lexeme) → TermIs us t (lexeme kind.Then y m ∷ ts) → TermNeeds k (lexeme kind.If x s ∷ us) c
  TermNeeds (in_else s t a k) ts c =
      (x y z : List ℕ) (m n : Span) (us vs : List Lexeme) → TermIs us t (lexeme kind.Then y m ∷ vs) → TermIs vs a (lexeme kind.Else z n ∷ ts) → TermNeeds k (lexeme kind.If x s ∷ us) c
  TermNeeds (in_let s b k) ts c =
      (x y : List ℕ) (m : Span) (us : List Lexeme) → BinderIs us b (lexeme kind.Equals y m ∷ ts) → TermNeeds k (lexeme kind.Let x s ∷ us) c
  TermNeeds (in_let_body s b t k) ts c =
      (x y z : List ℕ) (m n : Span) (us vs : List Lexeme) → BinderIs us b (lexeme kind.Equals y m ∷ vs) → TermIs vs t (lexeme kind.In z n ∷ ts) → TermNeeds k (lexeme kind.Let x s ∷ us) c
  TermNeeds (in_letrec s b u k) ts c =
      (x y z : List ℕ) (m n : Span) (us vs : List Lexeme) → BinderIs us b (lexeme kind.Colon y m ∷ vs) → TypeIs vs u (lexeme kind.Equals z n ∷ ts) → TermNeeds k (lexeme kind.Letrec x s ∷ us) c
  TermNeeds (in_letrec_body s b u t k) ts c =
      (x y z i : List ℕ) (m n o : Span) (us vs ws : List Lexeme) → BinderIs us b (lexeme kind.Colon y m ∷ vs) → TypeIs vs u (lexeme kind.Equals z n ∷ ws) → TermIs ws t (lexeme kind.In i o ∷ ts) → TermNeeds k (lexeme kind.Letrec x s ∷ us) c
  TermNeeds (in_parens s k) ts c = (x : List ℕ) → PathNeeds k (lexeme kind.OpenParen x s ∷ ts) c
  TermNeeds (in_field s before (word l r) k) ts c =
      (x : List ℕ) (m : Span) → FieldsNeed s before (λ a rest. (mid : List Lexeme) → AtomIs mid a rest → PathNeeds k mid c) (lexeme kind.Name l r ∷ lexeme kind.Equals x m ∷ ts)

  PathNeeds : InPath → List Lexeme → CommandTree → Type 0
  PathNeeds (as_head k) ts c = TermNeeds k ts c
  PathNeeds (as_operand s p k) ts c = (x : List ℕ) → TermNeeds k (lexeme (prefix_kind p) x s ∷ ts) c
  PathNeeds (as_argument f k) ts c = (mid : List Lexeme) → AppIs mid f ts → TermNeeds k mid c

abbrev TypeNeeds : InType → List Lexeme → CommandTree → Type 0
TypeNeeds (of_declaration (word x s)) ts c = (y : List ℕ) (q : Span) → Spells (lexeme kind.Name x s ∷ lexeme kind.Colon y q ∷ ts) c
TypeNeeds (of_abbreviation (word x s)) ts c = (y : List ℕ) (q : Span) → Spells (lexeme kind.TypeName x s ∷ lexeme kind.Equals y q ∷ ts) c
TypeNeeds (of_lambda s b k) ts c =
    (x y : List ℕ) (m : Span) (us : List Lexeme) → BinderIs us b (lexeme kind.Colon y m ∷ ts) → TermNeeds k (lexeme kind.Lambda x s ∷ us) c
TypeNeeds (of_letrec s b k) ts c =
    (x y : List ℕ) (m : Span) (us : List Lexeme) → BinderIs us b (lexeme kind.Colon y m ∷ ts) → TermNeeds k (lexeme kind.Letrec x s ∷ us) c
TypeNeeds (of_ascription t k) ts c =
    (x : List ℕ) (m : Span) (mid : List Lexeme) → AtomIs mid t (lexeme kind.As x m ∷ ts) → PathNeeds k mid c
TypeNeeds (right_of a k) ts c =
    (x : List ℕ) (m : Span) (mid : List Lexeme) → ATypeIs mid a (lexeme kind.Arrow x m ∷ ts) → TypeNeeds k mid c
TypeNeeds (in_type_parens s k) ts c = (x : List ℕ) → TypeNeeds k (lexeme kind.OpenParen x s ∷ ts) c
TypeNeeds (in_type_field s before (word l r) k) ts c =
    (x : List ℕ) (m : Span) → TypeFieldsNeed s before (λ a rest. (mid : List Lexeme) → ATypeIs mid a rest → TypeNeeds k mid c) (lexeme kind.Name l r ∷ lexeme kind.Colon x m ∷ ts)

-- the same after what has been read

abbrev ATypeGoes : InType → TypeTree → List Lexeme → CommandTree → Type 0
ATypeGoes k t rest c = (mid : List Lexeme) → ATypeIs mid t rest → TypeNeeds k mid c

abbrev TypeGoes : InType → TypeTree → List Lexeme → CommandTree → Type 0
TypeGoes k t rest c = (mid : List Lexeme) → TypeIs mid t rest → TypeNeeds k mid c

abbrev TermGoes : InTerm → TermTree → List Lexeme → CommandTree → Type 0
TermGoes k t rest c = (mid : List Lexeme) → TermIs mid t rest → TermNeeds k mid c

abbrev AppGoes : InTerm → TermTree → List Lexeme → CommandTree → Type 0
AppGoes k t rest c = (mid : List Lexeme) → AppIs mid t rest → TermNeeds k mid c

abbrev PathGoes : InPath → TermTree → List Lexeme → CommandTree → Type 0
PathGoes k t rest c = (mid : List Lexeme) → PathIs mid t rest → PathNeeds k mid c

abbrev AtomGoes : InPath → TermTree → List Lexeme → CommandTree → Type 0
AtomGoes k t rest c = (mid : List Lexeme) → AtomIs mid t rest → PathNeeds k mid c

-- in each state
abbrev Goes : State → List Lexeme → CommandTree → Type 0
Goes need_command ts c = Spells ts c
Goes (after_name (word x s)) ts c = Spells (lexeme kind.Name x s ∷ ts) c
Goes (after_type_name (word x s)) ts c = Spells (lexeme kind.TypeName x s ∷ ts) c
Goes (need_type k) ts c = TypeNeeds k ts c
Goes (after_atype t k) ts c = ATypeGoes k t ts c
Goes (need_type_field s k) ts c = (x : List ℕ) → TypeNeeds k (lexeme kind.OpenBrace x s ∷ ts) c
Goes (next_type_field s before k) ts c = TypeFieldsNeed s before (λ a rest. ATypeGoes k a rest c) ts
Goes (after_type_label s before (word l r) k) ts c = TypeFieldsNeed s before (λ a rest. ATypeGoes k a rest c) (lexeme kind.Name l r ∷ ts)
Goes (need_binder p s k) ts c = (x : List ℕ) → TermNeeds k (lexeme (purpose_kind p) x s ∷ ts) c
Goes (after_binder p s b k) ts c = (x : List ℕ) (us : List Lexeme) → BinderIs us b ts → TermNeeds k (lexeme (purpose_kind p) x s ∷ us) c
Goes (need_term k) ts c = TermNeeds k ts c
Goes (need_path k) ts c = PathNeeds k ts c
Goes (after_atom t k) ts c = AtomGoes k t ts c
Goes (after_asc t k) ts c = PathGoes k t ts c
Goes (need_label t k) ts c = (x : List ℕ) (m : Span) → PathGoes k t (lexeme kind.Dot x m ∷ ts) c
Goes (need_field s k) ts c = (x : List ℕ) → PathNeeds k (lexeme kind.OpenBrace x s ∷ ts) c
Goes (next_field s before k) ts c = FieldsNeed s before (λ a rest. AtomGoes k a rest c) ts
Goes (after_label s before (word l r) k) ts c = FieldsNeed s before (λ a rest. AtomGoes k a rest c) (lexeme kind.Name l r ∷ ts)

-- what is known of the tokens after the first
abbrev Known : List Lexeme → CommandTree → Type 0
Known [] c = Unit {0}
Known (t ∷ ts) c = (s : State) → run ts s ≡ tree c → Goes s ts c

-- a fault is no command
no_tree : (left : List Lexeme) (c : CommandTree) → fault left ≡ tree c → ⊥
no_tree left c h = cc

-- one step back, by what was read last

term_goes : (ts : List Lexeme) (t : TermTree) (k : InTerm) (c : CommandTree) → Known ts c → look ts (λ o. ended_term o t k) ≡ tree c → TermGoes k t ts c
term_goes ts t (in_lambda s b u k) c known h = λ mid d x y z m n us vs e f. term_goes ts _ k c known h _ (lambda_is e f d)
term_goes ts t (in_else s b a k) c known h = λ mid d x y z m n us vs e f. term_goes ts _ k c known h _ (if_is e f d)
term_goes ts t (in_let_body s b a k) c known h = λ mid d x y z m n us vs e f. term_goes ts _ k c known h _ (let_is e f d)
term_goes ts t (in_letrec_body s b u a k) c known h = λ mid d x y z i m n o us vs ws e f g. term_goes ts _ k c known h _ (letrec_is e f g d)
term_goes [] t of_evaluation c known h = λ mid d. let same : evaluation t ≡ c = cc in subst (Spells mid) same (evaluation_command d)
term_goes [] t (of_definition (word x s)) c known h = λ mid d y q. let same : definition (word x s) t ≡ c = cc in subst (Spells _) same (definition_command d)
term_goes (lexeme kind.Then y m ∷ ts) t (in_condition s k) c known h = λ mid d x. known (need_term (in_then s t k)) h x y m mid d
term_goes (lexeme kind.Else z n ∷ ts) t (in_then s a k) c known h = λ mid d x y m us e. known (need_term (in_else s a t k)) h x y z m n us mid e d
term_goes (lexeme kind.In z n ∷ ts) t (in_let s b k) c known h = λ mid d x y m us e. known (need_term (in_let_body s b t k)) h x y z m n us mid e d
term_goes (lexeme kind.In i o ∷ ts) t (in_letrec s b u k) c known h = λ mid d x y z m n us vs e f. known (need_term (in_letrec_body s b u t k)) h x y z i m n o us vs mid e f d
term_goes (lexeme kind.CloseParen y e ∷ ts) t (in_parens s k) c known h = λ mid d x. known (after_atom _ k) h _ (parens_atom d)
term_goes (lexeme kind.Comma y e ∷ ts) t (in_field s before (word l r) k) c known h = λ mid d x m.
    let found = known (next_field s (joined before (field (word l r) t no_fields)) k) h in
    (field (word l r) t found.0, found.1, found.2, found.3, more_fields d found.4, subst (λ fs. AtomGoes k (term_tree (from_to s found.2) (record_term fs)) found.3 c) (joined-joined before (word l r) t found.0) found.5)
term_goes (lexeme kind.CloseBrace y e ∷ ts) t (in_field s before (word l r) k) c known h = λ mid d x m.
    (field (word l r) t no_fields, y, e, ts, last_field d, known (after_atom _ k) h)
term_goes ts t k c known h = absurd (no_tree _ _ h)

-- an atom begins, in each place of a path

atom_begun : (ts : List Lexeme) (k : InPath) (c : CommandTree) → Known ts c → look ts (λ o. begin_atom o k) ≡ tree c → PathNeeds k ts c
atom_begun (lexeme kind.OpenParen x s ∷ ts) k c known h = known (need_term (in_parens s k)) h x
atom_begun (lexeme kind.True x s ∷ ts) k c known h = known (after_atom _ k) h _ true_atom
atom_begun (lexeme kind.False x s ∷ ts) k c known h = known (after_atom _ k) h _ false_atom
atom_begun (lexeme kind.UnitTerm x s ∷ ts) k c known h = known (after_atom _ k) h _ unit_atom
atom_begun (lexeme kind.Name x s ∷ ts) k c known h = known (after_atom _ k) h _ name_atom
atom_begun (lexeme kind.Numeral x s ∷ ts) k c known h = known (after_atom _ k) h _ numeral_atom
atom_begun (lexeme kind.OpenBrace x s ∷ ts) k c known h = known (need_field s k) h x
atom_begun ts k c known h = absurd (no_tree _ _ h)

app_goes : (ts : List Lexeme) (t : TermTree) (k : InTerm) (c : CommandTree) → Known ts c → look ts (λ o. ended_app o t k) ≡ tree c → AppGoes k t ts c
app_goes (lexeme kind.OpenParen x s ∷ ts) t k c known h = atom_begun (lexeme kind.OpenParen x s ∷ ts) (as_argument t k) c known h
app_goes (lexeme kind.True x s ∷ ts) t k c known h = atom_begun (lexeme kind.True x s ∷ ts) (as_argument t k) c known h
app_goes (lexeme kind.False x s ∷ ts) t k c known h = atom_begun (lexeme kind.False x s ∷ ts) (as_argument t k) c known h
app_goes (lexeme kind.UnitTerm x s ∷ ts) t k c known h = atom_begun (lexeme kind.UnitTerm x s ∷ ts) (as_argument t k) c known h
app_goes (lexeme kind.Name x s ∷ ts) t k c known h = atom_begun (lexeme kind.Name x s ∷ ts) (as_argument t k) c known h
app_goes (lexeme kind.Numeral x s ∷ ts) t k c known h = atom_begun (lexeme kind.Numeral x s ∷ ts) (as_argument t k) c known h
app_goes (lexeme kind.OpenBrace x s ∷ ts) t k c known h = atom_begun (lexeme kind.OpenBrace x s ∷ ts) (as_argument t k) c known h
app_goes [] t k c known h = λ mid d. term_goes [] t k c known h mid (app_is d)
app_goes (lexeme j x s ∷ ts) t k c known h = λ mid d. term_goes (lexeme j x s ∷ ts) t k c known h mid (app_is d)

-- a path in its place
path_placed : (ts : List Lexeme) (t : TermTree) (k : InPath) (c : CommandTree) → AppGoes (outside k) (applied t k) ts c → PathGoes k t ts c
path_placed ts t (as_head k) c goes = λ mid d. goes mid (head_app (path_head d))
path_placed ts t (as_operand s prefix.Fix k) c goes = λ mid d x. goes _ (head_app (fix_head d))
path_placed ts t (as_operand s prefix.Succ k) c goes = λ mid d x. goes _ (head_app (succ_head d))
path_placed ts t (as_operand s prefix.Pred k) c goes = λ mid d x. goes _ (head_app (pred_head d))
path_placed ts t (as_operand s prefix.IsZero k) c goes = λ mid d x. goes _ (head_app (iszero_head d))
path_placed ts t (as_argument f k) c goes = λ mid d from e. goes from (argument_app e d)

path_goes : (ts : List Lexeme) (t : TermTree) (k : InPath) (c : CommandTree) → Known ts c → look ts (λ o. ended_asc o t k) ≡ tree c → PathGoes k t ts c
path_goes (lexeme kind.Dot x m ∷ ts) t k c known h = known (need_label t k) h x m
path_goes [] t k c known h = path_placed [] t k c (app_goes [] (applied t k) (outside k) c known h)
path_goes (lexeme j x s ∷ ts) t k c known h = path_placed (lexeme j x s ∷ ts) t k c (app_goes (lexeme j x s ∷ ts) (applied t k) (outside k) c known h)

atom_goes : (ts : List Lexeme) (t : TermTree) (k : InPath) (c : CommandTree) → Known ts c → look ts (λ o. ended_atom o t k) ≡ tree c → AtomGoes k t ts c
atom_goes (lexeme kind.As x m ∷ ts) t k c known h = λ mid d. known (need_type (of_ascription t k)) h x m mid d
atom_goes [] t k c known h = λ mid d. path_goes [] t k c known h mid (asc_path (atom_asc d))
atom_goes (lexeme j x s ∷ ts) t k c known h = λ mid d. path_goes (lexeme j x s ∷ ts) t k c known h mid (asc_path (atom_asc d))

type_goes : (ts : List Lexeme) (t : TypeTree) (k : InType) (c : CommandTree) → Known ts c → look ts (λ o. ended_type o t k) ≡ tree c → TypeGoes k t ts c
type_goes ts b (right_of a k) c known h = λ mid d x m from e. type_goes ts _ k c known h from (arrow_type e d)
type_goes ts u (of_ascription t k) c known h = λ mid d x m from e. path_goes ts _ k c known h from (asc_path (typed_asc e d))
type_goes [] t (of_declaration (word x s)) c known h = λ mid d y q. let same : declaration (word x s) t ≡ c = cc in subst (Spells _) same (declaration_command d)
type_goes [] t (of_abbreviation (word x s)) c known h = λ mid d y q. let same : abbreviation (word x s) t ≡ c = cc in subst (Spells _) same (abbreviation_command d)
type_goes (lexeme kind.Dot z n ∷ ts) t (of_lambda s b k) c known h = λ mid d x y m us e. known (need_term (in_lambda s b t k)) h x y z m n us mid e d
type_goes (lexeme kind.Equals z n ∷ ts) t (of_letrec s b k) c known h = λ mid d x y m us e. known (need_term (in_letrec s b t k)) h x y z m n us mid e d
type_goes (lexeme kind.CloseParen y e ∷ ts) t (in_type_parens s k) c known h = λ mid d x. known (after_atype _ k) h _ (parens_atype d)
type_goes (lexeme kind.Comma y e ∷ ts) t (in_type_field s before (word l r) k) c known h = λ mid d x m.
    let found = known (next_type_field s (joined_types before (type_field (word l r) t no_type_fields)) k) h in
    (type_field (word l r) t found.0, found.1, found.2, found.3, more_type_fields d found.4, subst (λ fs. ATypeGoes k (type_tree (from_to s found.2) (record_type fs)) found.3 c) (joined_types-joined before (word l r) t found.0) found.5)
type_goes (lexeme kind.CloseBrace y e ∷ ts) t (in_type_field s before (word l r) k) c known h = λ mid d x m.
    (type_field (word l r) t no_type_fields, y, e, ts, last_type_field d, known (after_atype _ k) h)
type_goes ts t k c known h = absurd (no_tree _ _ h)

atype_goes : (ts : List Lexeme) (t : TypeTree) (k : InType) (c : CommandTree) → Known ts c → look ts (λ o. ended_atype o t k) ≡ tree c → ATypeGoes k t ts c
atype_goes (lexeme kind.Arrow x m ∷ ts) t k c known h = λ mid d. known (need_type (right_of t k)) h x m mid d
atype_goes [] t k c known h = λ mid d. type_goes [] t k c known h mid (atype_type d)
atype_goes (lexeme j x s ∷ ts) t k c known h = λ mid d. type_goes (lexeme j x s ∷ ts) t k c known h mid (atype_type d)

type_begun : (ts : List Lexeme) (k : InType) (c : CommandTree) → Known ts c → look ts (λ o. begin_type o k) ≡ tree c → TypeNeeds k ts c
type_begun (lexeme kind.OpenParen x s ∷ ts) k c known h = known (need_type (in_type_parens s k)) h x
type_begun (lexeme kind.BoolType x s ∷ ts) k c known h = known (after_atype _ k) h _ bool_atype
type_begun (lexeme kind.NatType x s ∷ ts) k c known h = known (after_atype _ k) h _ nat_atype
type_begun (lexeme kind.UnitType x s ∷ ts) k c known h = known (after_atype _ k) h _ unit_atype
type_begun (lexeme kind.TopType x s ∷ ts) k c known h = known (after_atype _ k) h _ top_atype
type_begun (lexeme kind.TypeName x s ∷ ts) k c known h = known (after_atype _ k) h _ name_atype
type_begun (lexeme kind.OpenBrace x s ∷ ts) k c known h = known (need_type_field s k) h x
type_begun ts k c known h = absurd (no_tree _ _ h)

term_begun : (ts : List Lexeme) (k : InTerm) (c : CommandTree) → Known ts c → look ts (λ o. begin_term o k) ≡ tree c → TermNeeds k ts c
term_begun (lexeme kind.Lambda x s ∷ ts) k c known h = known (need_binder for_lambda s k) h x
term_begun (lexeme kind.If x s ∷ ts) k c known h = known (need_term (in_condition s k)) h x
term_begun (lexeme kind.Let x s ∷ ts) k c known h = known (need_binder for_let s k) h x
term_begun (lexeme kind.Letrec x s ∷ ts) k c known h = known (need_binder for_letrec s k) h x
term_begun (lexeme kind.Fix x s ∷ ts) k c known h = known (need_path (as_operand s prefix.Fix k)) h x
term_begun (lexeme kind.Succ x s ∷ ts) k c known h = known (need_path (as_operand s prefix.Succ k)) h x
term_begun (lexeme kind.Pred x s ∷ ts) k c known h = known (need_path (as_operand s prefix.Pred k)) h x
term_begun (lexeme kind.IsZero x s ∷ ts) k c known h = known (need_path (as_operand s prefix.IsZero k)) h x
term_begun [] k c known h = atom_begun [] (as_head k) c known h
term_begun (lexeme j x s ∷ ts) k c known h = atom_begun (lexeme j x s ∷ ts) (as_head k) c known h

binder_goes : (ts : List Lexeme) (p : Purpose) (s : Span) (k : InTerm) (c : CommandTree) → Known ts c → look ts (λ o. binder_next o p s k) ≡ tree c → Goes (need_binder p s k) ts c
binder_goes (lexeme kind.Name x r ∷ ts) p s k c known h = λ y. known (after_binder p s _ k) h y _ name_binder
binder_goes (lexeme kind.Underscore x r ∷ ts) p s k c known h = λ y. known (after_binder p s _ k) h y _ blank_binder
binder_goes ts p s k c known h = absurd (no_tree _ _ h)

bound_goes : (ts : List Lexeme) (p : Purpose) (s : Span) (b : Bound) (k : InTerm) (c : CommandTree) → Known ts c → look ts (λ o. bound_next o p s b k) ≡ tree c → Goes (after_binder p s b k) ts c
bound_goes (lexeme kind.Colon y m ∷ ts) for_lambda s b k c known h = λ x us d. known (need_type (of_lambda s b k)) h x y m us d
bound_goes (lexeme kind.Equals y m ∷ ts) for_let s b k c known h = λ x us d. known (need_term (in_let s b k)) h x y m us d
bound_goes (lexeme kind.Colon y m ∷ ts) for_letrec s b k c known h = λ x us d. known (need_type (of_letrec s b k)) h x y m us d
bound_goes ts p s b k c known h = absurd (no_tree _ _ h)

command_begun : (ts : List Lexeme) (c : CommandTree) → Known ts c → look ts begin_command ≡ tree c → Spells ts c
command_begun (lexeme kind.Name x s ∷ ts) c known h = known (after_name (word x s)) h
command_begun (lexeme kind.TypeName x s ∷ ts) c known h = known (after_type_name (word x s)) h
command_begun [] c known h = term_begun [] of_evaluation c known h
command_begun (lexeme j x s ∷ ts) c known h = term_begun (lexeme j x s ∷ ts) of_evaluation c known h

name_goes : (ts : List Lexeme) (x : List ℕ) (s : Span) (c : CommandTree) → Known ts c → look ts (λ o. name_next o (word x s)) ≡ tree c → Spells (lexeme kind.Name x s ∷ ts) c
name_goes (lexeme kind.Equals y q ∷ ts) x s c known h = known (need_term (of_definition (word x s))) h y q
name_goes (lexeme kind.Colon y q ∷ ts) x s c known h = known (need_type (of_declaration (word x s))) h y q
name_goes [] x s c known h = atom_goes [] _ (as_head of_evaluation) c known h _ name_atom
name_goes (lexeme j y q ∷ ts) x s c known h = atom_goes (lexeme j y q ∷ ts) _ (as_head of_evaluation) c known h _ name_atom

type_name_goes : (ts : List Lexeme) (x : List ℕ) (s : Span) (c : CommandTree) → Known ts c → look ts (λ o. type_name_next o (word x s)) ≡ tree c → Spells (lexeme kind.TypeName x s ∷ ts) c
type_name_goes (lexeme kind.Equals y q ∷ ts) x s c known h = known (need_type (of_abbreviation (word x s))) h y q
type_name_goes ts x s c known h = absurd (no_tree _ _ h)

type_field_begun : (ts : List Lexeme) (s : Span) (k : InType) (c : CommandTree) → Known ts c → look ts (λ o. begin_type_field o s k) ≡ tree c → Goes (need_type_field s k) ts c
type_field_begun (lexeme kind.CloseBrace y e ∷ ts) s k c known h = λ x. known (after_atype _ k) h _ empty_atype
type_field_begun (lexeme kind.Name l r ∷ ts) s k c known h = λ x.
    let found = known (after_type_label s no_type_fields (word l r) k) h in found.5 _ (record_atype found.4)
type_field_begun ts s k c known h = absurd (no_tree _ _ h)

type_field_more : (ts : List Lexeme) (s : Span) (before : TypeFields) (k : InType) (c : CommandTree) → Known ts c → look ts (λ o. more_type_field o s before k) ≡ tree c → Goes (next_type_field s before k) ts c
type_field_more (lexeme kind.Name l r ∷ ts) s before k c known h = known (after_type_label s before (word l r) k) h
type_field_more ts s before k c known h = absurd (no_tree _ _ h)

type_label_goes : (ts : List Lexeme) (s : Span) (before : TypeFields) (l : List ℕ) (r : Span) (k : InType) (c : CommandTree) → Known ts c → look ts (λ o. type_label_next o s before (word l r) k) ≡ tree c → Goes (after_type_label s before (word l r) k) ts c
type_label_goes (lexeme kind.Colon x m ∷ ts) s before l r k c known h = known (need_type (in_type_field s before (word l r) k)) h x m
type_label_goes ts s before l r k c known h = absurd (no_tree _ _ h)

field_begun : (ts : List Lexeme) (s : Span) (k : InPath) (c : CommandTree) → Known ts c → look ts (λ o. begin_field o s k) ≡ tree c → Goes (need_field s k) ts c
field_begun (lexeme kind.CloseBrace y e ∷ ts) s k c known h = λ x. known (after_atom _ k) h _ empty_atom
field_begun (lexeme kind.Name l r ∷ ts) s k c known h = λ x.
    let found = known (after_label s no_fields (word l r) k) h in found.5 _ (record_atom found.4)
field_begun ts s k c known h = absurd (no_tree _ _ h)

field_more : (ts : List Lexeme) (s : Span) (before : FieldTrees) (k : InPath) (c : CommandTree) → Known ts c → look ts (λ o. more_field o s before k) ≡ tree c → Goes (next_field s before k) ts c
field_more (lexeme kind.Name l r ∷ ts) s before k c known h = known (after_label s before (word l r) k) h
field_more ts s before k c known h = absurd (no_tree _ _ h)

label_goes : (ts : List Lexeme) (s : Span) (before : FieldTrees) (l : List ℕ) (r : Span) (k : InPath) (c : CommandTree) → Known ts c → look ts (λ o. label_next o s before (word l r) k) ≡ tree c → Goes (after_label s before (word l r) k) ts c
label_goes (lexeme kind.Equals x m ∷ ts) s before l r k c known h = known (need_term (in_field s before (word l r) k)) h x m
label_goes ts s before l r k c known h = absurd (no_tree _ _ h)

projected_goes : (ts : List Lexeme) (t : TermTree) (k : InPath) (c : CommandTree) → Known ts c → look ts (λ o. projected o t k) ≡ tree c → Goes (need_label t k) ts c
projected_goes (lexeme kind.Name l s ∷ ts) t k c known h = λ x m mid d. known (after_asc _ k) h mid (label_path d)
projected_goes ts t k c known h = absurd (no_tree _ _ h)

step_goes : (ts : List Lexeme) (s : State) (c : CommandTree) → Known ts c → look ts (step s) ≡ tree c → Goes s ts c
step_goes ts need_command c known h = command_begun ts c known h
step_goes ts (after_name (word x s)) c known h = name_goes ts x s c known h
step_goes ts (after_type_name (word x s)) c known h = type_name_goes ts x s c known h
step_goes ts (need_type k) c known h = type_begun ts k c known h
step_goes ts (after_atype t k) c known h = atype_goes ts t k c known h
step_goes ts (need_type_field s k) c known h = type_field_begun ts s k c known h
step_goes ts (next_type_field s before k) c known h = type_field_more ts s before k c known h
step_goes ts (after_type_label s before (word l r) k) c known h = type_label_goes ts s before l r k c known h
step_goes ts (need_binder p s k) c known h = binder_goes ts p s k c known h
step_goes ts (after_binder p s b k) c known h = bound_goes ts p s b k c known h
step_goes ts (need_term k) c known h = term_begun ts k c known h
step_goes ts (need_path k) c known h = atom_begun ts k c known h
step_goes ts (after_atom t k) c known h = atom_goes ts t k c known h
step_goes ts (after_asc t k) c known h = path_goes ts t k c known h
step_goes ts (need_label t k) c known h = projected_goes ts t k c known h
step_goes ts (need_field s k) c known h = field_begun ts s k c known h
step_goes ts (next_field s before k) c known h = field_more ts s before k c known h
step_goes ts (after_label s before (word l r) k) c known h = label_goes ts s before l r k c known h

run_goes : (ts : List Lexeme) (s : State) (c : CommandTree) → run ts s ≡ tree c → Goes s ts c
run_goes [] s c h = step_goes [] s c tt h
run_goes (t ∷ ts) s c h = step_goes (t ∷ ts) s c (λ r g. run_goes ts r c g) h

pub sound : (ts : List Lexeme) (c : CommandTree) → run ts need_command ≡ tree c → Spells ts c
sound ts c h = run_goes ts need_command c h
