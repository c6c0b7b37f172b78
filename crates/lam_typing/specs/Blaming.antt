-- Which subterms are at fault for having no type, and for what.
use Rattle.std.specs.Prelude.{◌≡◌, ◌≢◌, ◌⊎◌, ℕ, zero, suc, ◌+◌, List, [], ◌∷◌, Some, None, codes}
use Rattle.lam_rules.specs.Types.{Label, Typ, arrow}
use Rattle.lam_rules.specs.Terms.{Term, if_then_else, succ, pred, is_zero, variable, free, lambda, apply, ascribe, let_in, record_term, project, fix, TermFields, no_terms, term_field}
use Rattle.lam_rules.specs.Texts.{Text}
use Rattle.lam_rules.specs.Typing.{Context}
use Rattle.lam_rules.specs.declared.rules.Dialect.{Dialect}
use Rattle.lam_scope.specs.Places.{written, of_term, Scope, Place}
use Rattle.lam_typing.specs.Contexts.{IsContext}
use Rattle.lam_typing.specs.LeastTypes.{IsTyped, IsLeastAt}

-- each immediate subterm has a type
abbrev mutual
  pub ArePartsTyped : Scope → Term → Dialect → Type 0
  ArePartsTyped s (if_then_else c a b) d = IsTyped s c d × IsTyped s a d × IsTyped s b d
  ArePartsTyped s (succ e) d = IsTyped s e d
  ArePartsTyped s (pred e) d = IsTyped s e d
  ArePartsTyped s (is_zero e) d = IsTyped s e d
  ArePartsTyped s (lambda w e) d = IsTyped (written w ∷ s) e d
  ArePartsTyped s (apply f a) d = IsTyped s f d × IsTyped s a d
  ArePartsTyped s (ascribe e w) d = IsTyped s e d
  ArePartsTyped s (let_in a b) d = IsTyped s a d × IsTyped (of_term a ∷ s) b d
  ArePartsTyped s (record_term es) d = AreFieldsTyped s es d
  ArePartsTyped s (project e l) d = IsTyped s e d
  ArePartsTyped s (fix e) d = IsTyped s e d
  ArePartsTyped s _ d = Unit {0}

  -- each term of a record has a type
  pub AreFieldsTyped : Scope → TermFields → Dialect → Type 0
  AreFieldsTyped s no_terms d = Unit {0}
  AreFieldsTyped s (term_field l e es) d = IsTyped s e d × AreFieldsTyped s es d

-- the context entry at this de Bruijn index is none
abbrev pub HasNoType : ℕ → Context → Type 0
HasNoType n [] = ⊥
HasNoType zero (entry ∷ g) = entry ≡ None
HasNoType (suc n) (entry ∷ g) = HasNoType n g

-- a term is excused: the use of a binder without a type, and a lambda or an ascription whose written type is faulty
abbrev pub IsExcused : Scope → Term → Dialect → Type 0
IsExcused s (variable n) d = (g : Context) × IsContext s g d × HasNoType n g
IsExcused s (lambda None e) d = Unit {0}
IsExcused s (ascribe e None) d = Unit {0}
IsExcused s _ d = ⊥

-- a term is at fault: it has no type, each of its immediate subterms has one, and it is not excused
pub record IsBlamed (s : Scope) (e : Term) (d : Dialect) : Type 0 where
  pub untyped : IsTyped s e d → ⊥
  pub parts : ArePartsTyped s e d
  pub unexcused : IsExcused s e d → ⊥

-- the code for an application at fault, by the least type of its first term
abbrev pub application_code : Typ → Text
application_code (arrow p r) = codes "E3"
application_code _ = codes "E2"

-- The code for a term at fault: an unbound name (or an index past all binders), a first term that is no function or an argument that does not fit, a missing field, a
-- condition, an operand of arithmetic, an ascription, a fix, a repeated label.
abbrev pub IsBlamedFor : Scope → Term → Text → Dialect → Type 0
IsBlamedFor s (free x) code d = code ≡ codes "E1"
IsBlamedFor s (variable n) code d = code ≡ codes "E1"
IsBlamedFor s (apply f a) code d = (t : Typ) × IsLeastAt s f (Some t) d × (code ≡ application_code t)
IsBlamedFor s (project e l) code d = code ≡ codes "E4"
IsBlamedFor s (if_then_else c a b) code d = code ≡ codes "E5"
IsBlamedFor s (succ e) code d = code ≡ codes "E6"
IsBlamedFor s (pred e) code d = code ≡ codes "E6"
IsBlamedFor s (is_zero e) code d = code ≡ codes "E6"
IsBlamedFor s (ascribe e w) code d = code ≡ codes "E7"
IsBlamedFor s (fix e) code d = code ≡ codes "E8"
IsBlamedFor s (record_term es) code d = code ≡ codes "E9"
IsBlamedFor s _ code d = ⊥

-- a subterm at fault, by its index, and its code
pub record Blamed : Type 0 where
  pub number : ℕ
  pub code : Text

-- exactly the subterms at fault among these, in order, where the first has this index
abbrev pub AreBlamed : ℕ → List Place → List Blamed → Dialect → Type 0
AreBlamed n [] blames d = blames ≡ []
AreBlamed n (p ∷ ps) blames d =
    ((IsBlamed p.scope p.here d → ⊥) × AreBlamed (n + 1) ps blames d)
    ⊎ ((code : Text) × (rest : List Blamed) × (blames ≡ record { number = n; code = code } ∷ rest)
    × IsBlamed p.scope p.here d × IsBlamedFor p.scope p.here code d × AreBlamed (n + 1) ps rest d)

-- the same faults, with indices shifted by this much
abbrev pub renumbered : ℕ → List Blamed → List Blamed
renumbered k [] = []
renumbered k (b ∷ bs) = record { number = b.number + k; code = b.code } ∷ renumbered k bs

-- no term has this label
abbrev pub IsNoLabelOf : Label → TermFields → Type 0
IsNoLabelOf l no_terms = Unit {0}
IsNoLabelOf l (term_field k e es) = (l ≢ k) × IsNoLabelOf l es

-- no label is repeated
abbrev pub DifferInLabels : TermFields → Type 0
DifferInLabels no_terms = Unit {0}
DifferInLabels (term_field l e es) = IsNoLabelOf l es × DifferInLabels es
