-- What the proofs built for the subterms of a document guarantee, in every context of least entries.
use Rattle.std.specs.Prelude.{◌≡◌, ◌<◌, ◌≤◌, ℕ, ◌+◌, List, reverse, length, Option, Some, None, get_or, IfSome}
use Rattle.std.specs.Option.{option_map}
use Rattle.lam_rules.specs.Types.{Typ, bool, nat, unit, record_of, Fields, field}
use Rattle.lam_rules.specs.TypeViews.{fields_of}
use Rattle.lam_rules.specs.Terms.{Term, true_term, false_term, numeral, unit_term, succ, pred, is_zero, record_term, TermFields}
use Rattle.lam_rules.specs.Subtyping.{IsBelow}
use Rattle.lam_rules.specs.Texts.{Text}
use Rattle.lam_rules.specs.Typing.{Context, TypingTree, TypingTrees, typing_first, type_in, IsTyping, ByTypeRule, ProvesTyping, HasType}
use Rattle.lam_rules.specs.TypingViews.{typing_tree_of, typings_of}
use Rattle.lam_rules.specs.declared.rules.Dialect.{Dialect}
use Rattle.lam_rules.specs.declared.rules.TypeRule.{TypeRule}
use Rattle.lam_scope.specs.Places.{Scope, Place}
use Rattle.lam_scope.specs.Sights.{inside, inside_fields, place_of_term, behind_term}
use Rattle.lam_typing.specs.Progress.{IsLowest, AreFieldsAt}
use Rattle.lam_typing.specs.inner.Seeing.{LeastAmong, Sees, SeesFields}
use Rattle.lam_typing.specs.inner.Grounds.{found_in, noted_in, dialect_in}
use Rattle.lam_typing.specs.declared.grounds.Grounds.{Grounds}
use Rattle.lam_typing.specs.declared.proving.Proven.{Proven}
use Rattle.lam_typing.specs.declared.proving.ProvenFields.{ProvenFields}

-- the tree of a proof that was built
abbrev pub tree_in : Proven → TypingTree
tree_in m = typing_tree_of m.proof

-- The context is the lowest of the scope, and the types found for the subterms are their least types.
pub record IsSetting (t : Grounds) (all : List Place) (s : Scope) (g : Context) : Type 0 where
  pub least : LeastAmong all (found_in t) (dialect_in t)
  pub low : IsLowest s g (dialect_in t)

-- a proof exactly if a type was found, and of this very type
abbrev pub ProvesFound : Option TypingTree → Option Typ → Context → Term → Dialect → Type 0
ProvesFound (Some p) (Some t) g e d = ProvesTyping p g e t d
ProvesFound None None g e d = Unit {0}
ProvesFound _ _ g e d = ⊥

-- what is built for a term, whose subterms were analysed and end before this index: a proof exactly if a type was found for it, and of this very type
abbrev pub IsProvenTerm : Grounds → Term → ℕ → Option TypingTree → Type 0
IsProvenTerm t e behind o =
    (all : List Place) (k : ℕ) (s : Scope) (g : Context) → IsSetting t all s g → Sees all (found_in t) (noted_in t) k s g e → behind ≡ behind_term k e → behind ≤ length (found_in t)
    → ProvesFound o (get_or (found_in t) (place_of_term k e) None) g e (dialect_in t)

-- there is a proof, and it is of this type
abbrev pub ProvesThis : Option TypingTree → Typ → Context → Term → Dialect → Type 0
ProvesThis (Some p) t g e d = ProvesTyping p g e t d
ProvesThis None t g e d = ⊥

-- what is built for the term at this index, for which this type was found: a proof of it
abbrev pub IsProvenForm : Grounds → Term → ℕ → Typ → Option TypingTree → Type 0
IsProvenForm t e place type o =
    (all : List Place) (k : ℕ) (s : Scope) (g : Context) → IsSetting t all s g → Sees all (found_in t) (noted_in t) k s g e → place ≡ place_of_term k e → place < length (found_in t)
    → get_or (found_in t) place None ≡ Some type → ProvesThis o type g e (dialect_in t)

-- a proof of this type, if the term has it
abbrev pub ProvesWide : Option TypingTree → Typ → Context → Term → Dialect → Type 0
ProvesWide (Some p) t g e d = ProvesTyping p g e t d
ProvesWide None t g e d = HasType g e t d → ⊥

-- what is built for a term, whose subterms were analysed and end before this index: a proof that it has this type, or none if it does not
abbrev pub IsProvenAs : Grounds → Term → ℕ → Typ → Option TypingTree → Type 0
IsProvenAs t e behind type o =
    (all : List Place) (k : ℕ) (s : Scope) (g : Context) → IsSetting t all s g → Sees all (found_in t) (noted_in t) k s g e → behind ≡ behind_term k e → behind ≤ length (found_in t)
    → ProvesWide o type g e (dialect_in t)

-- the first proof is widened to this type by the second, if its type is below it
abbrev pub IsWidened : TypingTree → Typ → Option TypingTree → Dialect → Type 0
IsWidened p t (Some q) d = (g : Context) (e : Term) → IsTyping g e p d → ProvesTyping q g e t d
IsWidened p t None d = (g : Context) (e : Term) → IsTyping g e p d → IsBelow (type_in p) t d → ⊥

-- a rule without premises, other than that of variables, concludes this type of this term
abbrev pub IsLeafBy : TypeRule → Term → Typ → Type 0
IsLeafBy TypeRule.True true_term t = t ≡ bool
IsLeafBy TypeRule.False false_term t = t ≡ bool
IsLeafBy TypeRule.Num (numeral digits) t = t ≡ nat
IsLeafBy TypeRule.Unit unit_term t = t ≡ unit
IsLeafBy _ _ t = ⊥

-- T-Succ, T-Pred or T-IsZero concludes this type of this term, which has this operand
abbrev pub IsNatBy : TypeRule → Term → Term → Typ → Type 0
IsNatBy TypeRule.Succ (succ e) operand t = (e ≡ operand) × (t ≡ nat)
IsNatBy TypeRule.Pred (pred e) operand t = (e ≡ operand) × (t ≡ nat)
IsNatBy TypeRule.IsZero (is_zero e) operand t = (e ≡ operand) × (t ≡ bool)
IsNatBy _ _ operand t = ⊥

-- The proofs of the terms of a record and their types, label by label, if each of them has a type.
pub record FieldTrees : Type 0 where
  pub trees : TypingTrees
  pub types : Fields

-- the proofs and the types of a record's terms, in the order of the terms
abbrev pub trees_in : ProvenFields → FieldTrees
trees_in m = record { trees = typings_of (reverse m.proofs.items); types = fields_of (reverse m.types.items) }

-- by T-Rcd the proofs give the record these types, which are the least ones of its terms; none if one of the terms has no type
abbrev pub ProveFields : Option FieldTrees → Scope → Context → TermFields → Dialect → Type 0
ProveFields (Some ps) s g es d = ByTypeRule TypeRule.Rcd None g (record_term es) (record_of ps.types) ps.trees d × AreFieldsAt s es (Some ps.types) d
ProveFields None s g es d = AreFieldsAt s es None d

-- what is built for the terms of a record, whose subterms were analysed and end before this index: proofs if all of them have types
abbrev pub AreProvenFields : Grounds → TermFields → ℕ → Option FieldTrees → Type 0
AreProvenFields t es behind o =
    (all : List Place) (k : ℕ) (s : Scope) (g : Context) → IsSetting t all s g → SeesFields all (found_in t) (noted_in t) k s g es → behind ≡ k + inside_fields es → behind ≤ length (found_in t)
    → ProveFields o s g es (dialect_in t)

-- what is built for a term whose subterms end before this index, and the index of its first subterm
pub record BuildsTerm (t : Grounds) (e : Term) (behind : ℕ) (made : Option Proven) : Type 0 where
  pub first : IfSome made (λ m. m.first + inside e + 1 ≡ behind)
  pub proves : IsProvenTerm t e behind (option_map tree_in made)

-- what is built for the term at this index, for which this type was found, and the index of its first subterm
pub record BuildsForm (t : Grounds) (e : Term) (place : ℕ) (type : Typ) (made : Option Proven) : Type 0 where
  pub first : IfSome made (λ m. m.first + inside e ≡ place)
  pub proves : IsProvenForm t e place type (option_map tree_in made)

-- what is built for a term whose subterms end before this index, of this type, and the index of its first subterm
pub record BuildsAs (t : Grounds) (e : Term) (behind : ℕ) (type : Typ) (made : Option Proven) : Type 0 where
  pub first : IfSome made (λ m. m.first + inside e + 1 ≡ behind)
  pub proves : IsProvenAs t e behind type (option_map tree_in made)

-- what is built for the terms of a record whose subterms end before this index, and the index of the first subterm
pub record BuildsFields (t : Grounds) (es : TermFields) (behind : ℕ) (made : Option ProvenFields) : Type 0 where
  pub first : IfSome made (λ m. m.first + inside_fields es ≡ behind)
  pub proves : AreProvenFields t es behind (option_map trees_in made)

-- the proof of a term with this label was prepended to those of the others
pub record IsFieldPut (before after : ProvenFields) (label : Text) (own : Proven) : Type 0 where
  pub trees : typings_of (reverse after.proofs.items) ≡ typing_first (tree_in own) (typings_of (reverse before.proofs.items))
  pub types : fields_of (reverse after.types.items) ≡ field label (type_in (tree_in own)) (fields_of (reverse before.types.items))
  pub first : after.first ≡ own.first

-- the step is widened to this type, and the first subterm has this index
pub record Finishes (step : TypingTree) (type : Typ) (place : ℕ) (d : Dialect) (made : Option Proven) : Type 0 where
  pub first : IfSome made (λ m. m.first ≡ place)
  pub wide : IsWidened step type (option_map tree_in made) d
