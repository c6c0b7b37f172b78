-- What the values of this crate stand for.
use Rattle.std.specs.Prelude.{List, length, map, Option, Some, None, Result, Ok, Err, ◌≡◌, Vec, String}
use Rattle.std.specs.Option.{option_map}
use Rattle.std.specs.declared.alloc.Global.{Global}
use Rattle.lam_rules.specs.Types.{Fields}
use Rattle.lam_rules.specs.TypeViews.{fields_of}
use Rattle.lam_rules.specs.declared.types.Ty.{Ty}
use Rattle.lam_scope.specs.declared.abbreviations.Abbreviations.{Abbreviations}
use Rattle.lam_syntax.specs.Trees.{CommandTree}
use Rattle.lam_token.specs.declared.span.Span.{Span}
use Rattle.lam_scope.specs.declared.scope_fault.ScopeFault.{ScopeFault}
use Rattle.lam_scope.specs.declared.scope_fault.ScopeFault.TheVariants as faults
use Rattle.lam_scope.specs.declared.type_fault.TypeFault.{TypeFault}
use Rattle.lam_scope.specs.declared.numbers.Origin.{Origin}
use Rattle.lam_scope.specs.declared.resolved.Resolved.{Resolved}
use Rattle.lam_scope.specs.declared.scopes.Scopes.{Scopes}
use Rattle.lam_scope.specs.Tables.{Table, table, tokens_by}
use Rattle.lam_scope.specs.TableViews.{rows_of, lists_in}
use Rattle.lam_scope.specs.Expansions.{Abbreviation}
use Rattle.lam_scope.specs.Abbreviations.{abbreviations_in}
use Rattle.lam_scope.specs.Places.{Statement}
pub use Rattle.lam_scope.specs.StatementViews.{statement_of}

-- what the commands of a nameless document state, in order
abbrev pub statements_of : Resolved → List Statement
statements_of r = map statement_of r.statements.items

-- where each binder of a nameless document takes its type from, by binder index
abbrev pub origins_of : Resolved → List Origin
origins_of r = r.origins.items

-- the diagnostics of the written types of a nameless document, in text order
abbrev pub faults_of : Resolved → List TypeFault
faults_of r = r.faults.items

-- the table that `Scopes` hold
abbrev pub table_of : Scopes → Table
table_of s = rows_of s.rows

-- for each binder, by index, the tokens of the uses that are reported as its own
abbrev pub uses_in : Scopes → List (List Span)
uses_in s = lists_in s.tokens

-- these are the scopes of these commands
pub record AreScopesOf (s : Scopes) (cs : List CommandTree) : Type 0 where
  pub same_table : table_of s ≡ table cs
  pub same_uses : uses_in s ≡ tokens_by 0 (length (table cs).binders) (table cs).uses

-- the abbreviations in scope for a written type, innermost first
abbrev pub abbreviations_of : Abbreviations → List Abbreviation
abbreviations_of a = abbreviations_in a.items.items

-- the fields of a record type, if it is not faulty
abbrev pub expanded_fields_of : Option (Vec (String Global × Ty) Global) → Option Fields
expanded_fields_of = option_map (λ v. fields_of v.items)

-- what a result says of the first written type over the size limit: an error names it, a value says that there is none
abbrev pub IsLimit : {T : Type 0} → Option Span → Result T ScopeFault → Type 0
IsLimit o (Ok x) = o ≡ None
IsLimit o (Err (faults.TooLarge s)) = o ≡ Some s
IsLimit o (Err faults.Memory) = Unit {0}
