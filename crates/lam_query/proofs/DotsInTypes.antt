-- A written type has no dot among its tokens, so a command with a dot binds no type name.
use Rattle.std.proofs.Common.{◌≡◌, List, [], ◌∷◌, None, refl, All}
use Rattle.std.specs.List.{AllByRecursion}
use Rattle.std.proofs.lemmas.List.Elements.{All-from_recursion}
use Rattle.lam_token.specs.declared.kind.Kind.TheVariants as kind
use Rattle.lam_token.specs.Lexeme.{Lexeme, kind_of}
use Rattle.lam_syntax.specs.Trees.{TypeTree, TypeFields, CommandTree}
use Rattle.lam_syntax.specs.Grammar.{TypeIs, atype_type, arrow_type, ATypeIs, parens_atype, bool_atype, nat_atype, unit_atype, top_atype, name_atype, empty_atype, record_atype, TypeFieldsAre, last_type_field, more_type_fields, Spells, definition_command, declaration_command, abbreviation_command, evaluation_command}
use Rattle.lam_query.specs.inner.Entered.{type_name_bound}
use Rattle.lam_query.specs.inner.OnePiece.{IsOwnOf, one_command, no_command}

-- no dot
abbrev pub IsOther : Lexeme → Type 0
IsOther t = kind_of t ≡ kind.Dot → ⊥

abbrev HaveNoDot : List Lexeme → Type 0
HaveNoDot = AllByRecursion IsOther

mutual
  type_none : {ts rest : List Lexeme} {u : TypeTree} → TypeIs ts u rest → HaveNoDot rest → HaveNoDot ts
  type_none (atype_type k) h = atype_none k h
  type_none (arrow_type k l) h = atype_none k (λ is. absurd cc, type_none l h)

  atype_none : {ts rest : List Lexeme} {u : TypeTree} → ATypeIs ts u rest → HaveNoDot rest → HaveNoDot ts
  atype_none (parens_atype k) h = (λ is. absurd cc, type_none k (λ is. absurd cc, h))
  atype_none bool_atype h = (λ is. absurd cc, h)
  atype_none nat_atype h = (λ is. absurd cc, h)
  atype_none unit_atype h = (λ is. absurd cc, h)
  atype_none top_atype h = (λ is. absurd cc, h)
  atype_none name_atype h = (λ is. absurd cc, h)
  atype_none empty_atype h = (λ is. absurd cc, (λ is. absurd cc, h))
  atype_none (record_atype k) h = (λ is. absurd cc, type_fields_none k (λ is. absurd cc, h))

  type_fields_none : {ts rest : List Lexeme} {fs : TypeFields} → TypeFieldsAre ts fs rest → HaveNoDot rest → HaveNoDot ts
  type_fields_none (last_type_field k) h = (λ is. absurd cc, (λ is. absurd cc, type_none k h))
  type_fields_none (more_type_fields k l) h = (λ is. absurd cc, (λ is. absurd cc, type_none k (λ is. absurd cc, type_fields_none l h)))

binds_none : (ts : List Lexeme) (c : CommandTree) → Spells ts c → (HaveNoDot ts → ⊥) → type_name_bound c ≡ None
binds_none _ _ (definition_command k) dot = refl
binds_none _ _ (declaration_command k) dot = refl
binds_none _ _ (abbreviation_command k) dot = absurd (dot (λ is. absurd cc, (λ is. absurd cc, type_none k tt)))
binds_none _ _ (evaluation_command k) dot = refl

-- the command of tokens with a dot, if they are one
pub own_binds_none : (ts : List Lexeme) (own : List CommandTree) → IsOwnOf ts own → (AllByRecursion IsOther ts → ⊥) → All (λ c. type_name_bound c ≡ None) own
own_binds_none ts _ (one_command {c = c} is) dot = All-from_recursion (λ d. type_name_bound d ≡ None) (c ∷ []) (binds_none ts c is.spelled dot, tt)
own_binds_none ts _ (no_command none) dot = All-from_recursion (λ d. type_name_bound d ≡ None) [] tt
