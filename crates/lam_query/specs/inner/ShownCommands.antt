-- What commands show, found one by one. For private functions only.
use Rattle.std.specs.Prelude.{◌-◌, List, [], ◌∷◌, ◌++◌, length, get_or, Option, Some, None, option_map}
use Rattle.lam_token.specs.declared.span.Span.{Span}
use Rattle.lam_rules.specs.Types.{Typ}
use Rattle.lam_rules.specs.Texts.{text}
use Rattle.lam_rules.specs.Typing.{Context}
use Rattle.lam_rules.specs.declared.numbers.TyNo.{TyNo}
use Rattle.lam_syntax.specs.Trees.{word, CommandTree, definition, declaration, abbreviation, evaluation}
use Rattle.lam_typing.specs.Blaming.{Blamed}
use Rattle.lam_typing.specs.Checking.{types_in, dialect_in}
use Rattle.lam_typing.specs.declared.checker.TypeChecker.{TypeChecker}
use Rattle.lam_query.specs.declared.answers.CommandType.{CommandType as RustCommandType}
use Rattle.lam_query.specs.declared.bound.Bound.{Bound}
use Rattle.lam_query.specs.CommandTypes.{CommandType, of_name, of_type_name, of_term, IsCommandType}
use Rattle.lam_query.specs.Sizes.{IsSizeFault}
use Rattle.lam_query.specs.Views.{command_type_of}
use Rattle.lam_query.specs.inner.Analysts.{IsBoundAs}
use Rattle.lam_query.specs.inner.Checked.{abbreviations_behind, names_behind, scope_behind, AreChecked}
use Rattle.lam_query.specs.inner.Rows.{entries_of, types_of}

-- no type of these commands is over the size limit, and this is what they bound
pub record IsKnown (done : List CommandTree) (types : TypeChecker) (b : Bound) : Type 0 where
  pub context : Context
  pub found : List (Option Typ)
  pub blames : List Blamed
  pub checked : AreChecked done context found blames (dialect_in types)
  pub bound : IsBoundAs (entries_of done context) (types_of (abbreviations_behind done)) (types_in types) b

-- The next command shows this, and the same is known with it. Or some type is over the size limit, whatever follows.
abbrev pub IsNext : List CommandTree → CommandTree → Option RustCommandType → TypeChecker → Bound → Type 0
IsNext done c (Some shown) types b =
    IsKnown (done ++ c ∷ []) types b × IsCommandType (abbreviations_behind done) (names_behind done) (scope_behind done) c (command_type_of shown) (dialect_in types)
IsNext done c None types b = (rest : List CommandTree) → (s : Span) × IsSizeFault (done ++ c ∷ rest) s (dialect_in types)

-- what a command shows that binds the first of these types and whose last term has the second
abbrev pub shown_by : CommandTree → (bound last : Option Typ) → CommandType
shown_by (definition (word x r) t) bound last = of_name x (option_map text bound)
shown_by (declaration (word x r) u) bound last = of_name x (option_map text bound)
shown_by (abbreviation (word x r) u) bound last = of_type_name x (option_map text bound)
shown_by (evaluation t) bound last = of_term (option_map text last)

-- the last type id, if there is one
abbrev pub last_number : List (Option TyNo) → Option TyNo
last_number os = get_or os (length os - 1) None
