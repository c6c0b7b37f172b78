-- The grammar: which lists of tokens derive which trees.
--
-- `XIs tokens tree rest` says that the tokens begin with a derivation of the tree, followed by the rest. Each constructor is a production. The span of a tree goes
-- from its first token to its last, including parentheses around it.
use Rattle.std.specs.Prelude.{ℕ, Some, None, List, [], ◌∷◌, ◌++◌}
use Rattle.lam_token.specs.declared.kind.Kind.TheVariants as kind
use Rattle.lam_token.specs.declared.span.Span.{Span}
use Rattle.lam_token.specs.Lexeme.{Lexeme, lexeme}
use Rattle.lam_syntax.specs.declared.terms.Prefix.TheVariants as prefix
use Rattle.lam_syntax.specs.Trees.{word, Bound, bound, TypeTree, type_tree, bool, nat, unit, top, named, arrow, record_type, TypeFields, no_type_fields, type_field, TermTree, term_tree, true_term, false_term, unit_term, variable, numeral, lambda, if_term, let_term, letrec_term, prefixed, apply, project, ascribe, record_term, FieldTrees, no_fields, field, CommandTree, definition, declaration, abbreviation, evaluation, from_to, type_span, term_span, spanning_type, spanning_term}

-- a binder is a name or an underscore
pub data BinderIs : List Lexeme → Bound → List Lexeme → Type 0 where
  name_binder : {x : List ℕ} {s : Span} {rest : List Lexeme} → BinderIs (lexeme kind.Name x s ∷ rest) (bound (Some x) s) rest
  blank_binder : {x : List ℕ} {s : Span} {rest : List Lexeme} → BinderIs (lexeme kind.Underscore x s ∷ rest) (bound None s) rest

mutual
  -- A type is an atomic type, or an arrow from an atomic type to any type, so arrows associate to the right.
  pub data TypeIs : List Lexeme → TypeTree → List Lexeme → Type 0 where
    atype_type : {ts rest : List Lexeme} {t : TypeTree} → ATypeIs ts t rest → TypeIs ts t rest
    arrow_type : {ts us rest : List Lexeme} {a b : TypeTree} {x : List ℕ} {s : Span}
        → ATypeIs ts a (lexeme kind.Arrow x s ∷ us) → TypeIs us b rest
        → TypeIs ts (type_tree (from_to (type_span a) (type_span b)) (arrow a b)) rest

  -- An atomic type is a parenthesized type, a keyword, a type name, or a record type.
  pub data ATypeIs : List Lexeme → TypeTree → List Lexeme → Type 0 where
    parens_atype : {ts rest : List Lexeme} {t : TypeTree} {x y : List ℕ} {s e : Span}
        → TypeIs ts t (lexeme kind.CloseParen y e ∷ rest)
        → ATypeIs (lexeme kind.OpenParen x s ∷ ts) (spanning_type (from_to s e) t) rest
    bool_atype : {rest : List Lexeme} {x : List ℕ} {s : Span} → ATypeIs (lexeme kind.BoolType x s ∷ rest) (type_tree s bool) rest
    nat_atype : {rest : List Lexeme} {x : List ℕ} {s : Span} → ATypeIs (lexeme kind.NatType x s ∷ rest) (type_tree s nat) rest
    unit_atype : {rest : List Lexeme} {x : List ℕ} {s : Span} → ATypeIs (lexeme kind.UnitType x s ∷ rest) (type_tree s unit) rest
    top_atype : {rest : List Lexeme} {x : List ℕ} {s : Span} → ATypeIs (lexeme kind.TopType x s ∷ rest) (type_tree s top) rest
    name_atype : {rest : List Lexeme} {x : List ℕ} {s : Span} → ATypeIs (lexeme kind.TypeName x s ∷ rest) (type_tree s (named (word x s))) rest
    empty_atype : {rest : List Lexeme} {x y : List ℕ} {s e : Span}
        → ATypeIs (lexeme kind.OpenBrace x s ∷ lexeme kind.CloseBrace y e ∷ rest) (type_tree (from_to s e) (record_type no_type_fields)) rest
    record_atype : {ts rest : List Lexeme} {fs : TypeFields} {x y : List ℕ} {s e : Span}
        → TypeFieldsAre ts fs (lexeme kind.CloseBrace y e ∷ rest)
        → ATypeIs (lexeme kind.OpenBrace x s ∷ ts) (type_tree (from_to s e) (record_type fs)) rest

  -- one label with its type, or more separated by commas; there is no trailing comma
  pub data TypeFieldsAre : List Lexeme → TypeFields → List Lexeme → Type 0 where
    last_type_field : {ts rest : List Lexeme} {t : TypeTree} {l x : List ℕ} {s c : Span}
        → TypeIs ts t rest
        → TypeFieldsAre (lexeme kind.Name l s ∷ lexeme kind.Colon x c ∷ ts) (type_field (word l s) t no_type_fields) rest
    more_type_fields : {ts us rest : List Lexeme} {t : TypeTree} {fs : TypeFields} {l x y : List ℕ} {s c d : Span}
        → TypeIs ts t (lexeme kind.Comma y d ∷ us) → TypeFieldsAre us fs rest
        → TypeFieldsAre (lexeme kind.Name l s ∷ lexeme kind.Colon x c ∷ ts) (type_field (word l s) t fs) rest

mutual
  -- A term begins with a keyword and ends with a whole term, or is an application.
  pub data TermIs : List Lexeme → TermTree → List Lexeme → Type 0 where
    lambda_is : {ts us vs rest : List Lexeme} {b : Bound} {u : TypeTree} {t : TermTree} {x y z : List ℕ} {s c d : Span}
        → BinderIs ts b (lexeme kind.Colon y c ∷ us) → TypeIs us u (lexeme kind.Dot z d ∷ vs) → TermIs vs t rest
        → TermIs (lexeme kind.Lambda x s ∷ ts) (term_tree (from_to s (term_span t)) (lambda b u t)) rest
    if_is : {ts us vs rest : List Lexeme} {c t e : TermTree} {x y z : List ℕ} {s n o : Span}
        → TermIs ts c (lexeme kind.Then y n ∷ us) → TermIs us t (lexeme kind.Else z o ∷ vs) → TermIs vs e rest
        → TermIs (lexeme kind.If x s ∷ ts) (term_tree (from_to s (term_span e)) (if_term c t e)) rest
    let_is : {ts us vs rest : List Lexeme} {b : Bound} {t u : TermTree} {x y z : List ℕ} {s q i : Span}
        → BinderIs ts b (lexeme kind.Equals y q ∷ us) → TermIs us t (lexeme kind.In z i ∷ vs) → TermIs vs u rest
        → TermIs (lexeme kind.Let x s ∷ ts) (term_tree (from_to s (term_span u)) (let_term b t u)) rest
    letrec_is : {ts us vs ws rest : List Lexeme} {b : Bound} {y : TypeTree} {t u : TermTree} {x c q i : List ℕ} {s m n o : Span}
        → BinderIs ts b (lexeme kind.Colon c m ∷ us) → TypeIs us y (lexeme kind.Equals q n ∷ vs) → TermIs vs t (lexeme kind.In i o ∷ ws) → TermIs ws u rest
        → TermIs (lexeme kind.Letrec x s ∷ ts) (term_tree (from_to s (term_span u)) (letrec_term b y t u)) rest
    app_is : {ts rest : List Lexeme} {t : TermTree} → AppIs ts t rest → TermIs ts t rest

  -- An application is a head, or an application with one more path as its argument, so applications associate to the left.
  pub data AppIs : List Lexeme → TermTree → List Lexeme → Type 0 where
    head_app : {ts rest : List Lexeme} {t : TermTree} → HeadIs ts t rest → AppIs ts t rest
    argument_app : {ts us rest : List Lexeme} {f a : TermTree}
        → AppIs ts f us → PathIs us a rest
        → AppIs ts (term_tree (from_to (term_span f) (term_span a)) (apply f a)) rest

  -- A head is a path, perhaps after one of four keywords; arguments have no such keyword.
  pub data HeadIs : List Lexeme → TermTree → List Lexeme → Type 0 where
    path_head : {ts rest : List Lexeme} {t : TermTree} → PathIs ts t rest → HeadIs ts t rest
    fix_head : {ts rest : List Lexeme} {t : TermTree} {x : List ℕ} {s : Span} → PathIs ts t rest
        → HeadIs (lexeme kind.Fix x s ∷ ts) (term_tree (from_to s (term_span t)) (prefixed prefix.Fix t)) rest
    succ_head : {ts rest : List Lexeme} {t : TermTree} {x : List ℕ} {s : Span} → PathIs ts t rest
        → HeadIs (lexeme kind.Succ x s ∷ ts) (term_tree (from_to s (term_span t)) (prefixed prefix.Succ t)) rest
    pred_head : {ts rest : List Lexeme} {t : TermTree} {x : List ℕ} {s : Span} → PathIs ts t rest
        → HeadIs (lexeme kind.Pred x s ∷ ts) (term_tree (from_to s (term_span t)) (prefixed prefix.Pred t)) rest
    iszero_head : {ts rest : List Lexeme} {t : TermTree} {x : List ℕ} {s : Span} → PathIs ts t rest
        → HeadIs (lexeme kind.IsZero x s ∷ ts) (term_tree (from_to s (term_span t)) (prefixed prefix.IsZero t)) rest

  -- A path is an ascription, or a path followed by a dot and a label.
  pub data PathIs : List Lexeme → TermTree → List Lexeme → Type 0 where
    asc_path : {ts rest : List Lexeme} {t : TermTree} → AscIs ts t rest → PathIs ts t rest
    label_path : {ts rest : List Lexeme} {t : TermTree} {x l : List ℕ} {d s : Span}
        → PathIs ts t (lexeme kind.Dot x d ∷ lexeme kind.Name l s ∷ rest)
        → PathIs ts (term_tree (from_to (term_span t) s) (project t (word l s))) rest

  -- An ascription is an atom, perhaps with one `as` and a type.
  pub data AscIs : List Lexeme → TermTree → List Lexeme → Type 0 where
    atom_asc : {ts rest : List Lexeme} {t : TermTree} → AtomIs ts t rest → AscIs ts t rest
    typed_asc : {ts us rest : List Lexeme} {t : TermTree} {u : TypeTree} {x : List ℕ} {s : Span}
        → AtomIs ts t (lexeme kind.As x s ∷ us) → TypeIs us u rest
        → AscIs ts (term_tree (from_to (term_span t) (type_span u)) (ascribe t u)) rest

  -- An atom is a parenthesized term, a single token, or a record.
  pub data AtomIs : List Lexeme → TermTree → List Lexeme → Type 0 where
    parens_atom : {ts rest : List Lexeme} {t : TermTree} {x y : List ℕ} {s e : Span}
        → TermIs ts t (lexeme kind.CloseParen y e ∷ rest)
        → AtomIs (lexeme kind.OpenParen x s ∷ ts) (spanning_term (from_to s e) t) rest
    true_atom : {rest : List Lexeme} {x : List ℕ} {s : Span} → AtomIs (lexeme kind.True x s ∷ rest) (term_tree s true_term) rest
    false_atom : {rest : List Lexeme} {x : List ℕ} {s : Span} → AtomIs (lexeme kind.False x s ∷ rest) (term_tree s false_term) rest
    unit_atom : {rest : List Lexeme} {x : List ℕ} {s : Span} → AtomIs (lexeme kind.UnitTerm x s ∷ rest) (term_tree s unit_term) rest
    name_atom : {rest : List Lexeme} {x : List ℕ} {s : Span} → AtomIs (lexeme kind.Name x s ∷ rest) (term_tree s (variable (word x s))) rest
    numeral_atom : {rest : List Lexeme} {x : List ℕ} {s : Span} → AtomIs (lexeme kind.Numeral x s ∷ rest) (term_tree s (numeral (word x s))) rest
    empty_atom : {rest : List Lexeme} {x y : List ℕ} {s e : Span}
        → AtomIs (lexeme kind.OpenBrace x s ∷ lexeme kind.CloseBrace y e ∷ rest) (term_tree (from_to s e) (record_term no_fields)) rest
    record_atom : {ts rest : List Lexeme} {fs : FieldTrees} {x y : List ℕ} {s e : Span}
        → FieldsAre ts fs (lexeme kind.CloseBrace y e ∷ rest)
        → AtomIs (lexeme kind.OpenBrace x s ∷ ts) (term_tree (from_to s e) (record_term fs)) rest

  -- one label with its term, or more separated by commas; there is no trailing comma
  pub data FieldsAre : List Lexeme → FieldTrees → List Lexeme → Type 0 where
    last_field : {ts rest : List Lexeme} {t : TermTree} {l x : List ℕ} {s c : Span}
        → TermIs ts t rest
        → FieldsAre (lexeme kind.Name l s ∷ lexeme kind.Equals x c ∷ ts) (field (word l s) t no_fields) rest
    more_fields : {ts us rest : List Lexeme} {t : TermTree} {fs : FieldTrees} {l x y : List ℕ} {s c d : Span}
        → TermIs ts t (lexeme kind.Comma y d ∷ us) → FieldsAre us fs rest
        → FieldsAre (lexeme kind.Name l s ∷ lexeme kind.Equals x c ∷ ts) (field (word l s) t fs) rest

-- A command defines a name, declares the type of a name, abbreviates a type, or is a term on its own. It uses all the tokens.
pub data Spells : List Lexeme → CommandTree → Type 0 where
  definition_command : {ts : List Lexeme} {t : TermTree} {x y : List ℕ} {s q : Span}
      → TermIs ts t [] → Spells (lexeme kind.Name x s ∷ lexeme kind.Equals y q ∷ ts) (definition (word x s) t)
  declaration_command : {ts : List Lexeme} {t : TypeTree} {x y : List ℕ} {s c : Span}
      → TypeIs ts t [] → Spells (lexeme kind.Name x s ∷ lexeme kind.Colon y c ∷ ts) (declaration (word x s) t)
  abbreviation_command : {ts : List Lexeme} {t : TypeTree} {x y : List ℕ} {s q : Span}
      → TypeIs ts t [] → Spells (lexeme kind.TypeName x s ∷ lexeme kind.Equals y q ∷ ts) (abbreviation (word x s) t)
  evaluation_command : {ts : List Lexeme} {t : TermTree} → TermIs ts t [] → Spells ts (evaluation t)

-- these tokens, followed by some others, form a command
abbrev pub Begins : List Lexeme → Type 0
Begins ts = (more : List Lexeme) × (c : CommandTree) × Spells (ts ++ more) c
