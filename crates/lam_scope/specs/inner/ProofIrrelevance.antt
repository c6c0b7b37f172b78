-- That labels are distinct has at most one proof, as an invariant must have: documents that agree in all else are equal.
use Rattle.std.specs.Prelude.{List, [], ◌∷◌, Option, Some, None}
use Rattle.std.specs.Coded.{×_prop, Unit-prop}
use Rattle.lam_rules.specs.Types.{Label, Typ, bool, nat, unit, top, arrow, record_of, Fields, no_fields, field, IsAbsent, IsWellFormed, AreWellFormed}
use Rattle.lam_rules.specs.Terms.{Term, true_term, false_term, if_then_else, numeral, succ, pred, is_zero, variable, free, lambda, apply, unit_term, ascribe, let_in, record_term, project, fix, TermFields, no_terms, term_field}
use Rattle.lam_rules.specs.Typing.{IsWellFormedEntry}
use Rattle.lam_scope.specs.Places.{Statement, defines, declares, abbreviates, states}
use Rattle.lam_scope.specs.WellFormed.{IsWellFormedTerm, AreWellFormedTerms, IsWellFormedStatement, AreWellFormedStatements}

IsAbsent-prop : (l : Label) (fs : Fields) → IsProp (IsAbsent l fs)
IsAbsent-prop l no_fields = Unit-prop
IsAbsent-prop l (field k t rest) = hlevel (IsAbsent-prop l rest)

mutual
  IsWellFormed-prop : (t : Typ) → IsProp (IsWellFormed t)
  IsWellFormed-prop bool = Unit-prop
  IsWellFormed-prop nat = Unit-prop
  IsWellFormed-prop unit = Unit-prop
  IsWellFormed-prop top = Unit-prop
  IsWellFormed-prop (arrow s t) = ×_prop (IsWellFormed-prop s) (IsWellFormed-prop t)
  IsWellFormed-prop (record_of fs) = AreWellFormed-prop fs

  AreWellFormed-prop : (fs : Fields) → IsProp (AreWellFormed fs)
  AreWellFormed-prop no_fields = Unit-prop
  AreWellFormed-prop (field l t rest) = hlevel (IsWellFormed-prop t, IsAbsent-prop l rest, AreWellFormed-prop rest)

IsWellFormedEntry-prop : (w : Option Typ) → IsProp (IsWellFormedEntry w)
IsWellFormedEntry-prop None = Unit-prop
IsWellFormedEntry-prop (Some t) = IsWellFormed-prop t

mutual
  IsWellFormedTerm-prop : (e : Term) → IsProp (IsWellFormedTerm e)
  IsWellFormedTerm-prop (if_then_else c a b) = hlevel (IsWellFormedTerm-prop c, IsWellFormedTerm-prop a, IsWellFormedTerm-prop b)
  IsWellFormedTerm-prop (succ e) = IsWellFormedTerm-prop e
  IsWellFormedTerm-prop (pred e) = IsWellFormedTerm-prop e
  IsWellFormedTerm-prop (is_zero e) = IsWellFormedTerm-prop e
  IsWellFormedTerm-prop (lambda w e) = ×_prop (IsWellFormedEntry-prop w) (IsWellFormedTerm-prop e)
  IsWellFormedTerm-prop (apply f a) = ×_prop (IsWellFormedTerm-prop f) (IsWellFormedTerm-prop a)
  IsWellFormedTerm-prop (ascribe e w) = ×_prop (IsWellFormedTerm-prop e) (IsWellFormedEntry-prop w)
  IsWellFormedTerm-prop (let_in a b) = ×_prop (IsWellFormedTerm-prop a) (IsWellFormedTerm-prop b)
  IsWellFormedTerm-prop (record_term es) = AreWellFormedTerms-prop es
  IsWellFormedTerm-prop (project e l) = IsWellFormedTerm-prop e
  IsWellFormedTerm-prop (fix e) = IsWellFormedTerm-prop e
  IsWellFormedTerm-prop true_term = Unit-prop
  IsWellFormedTerm-prop false_term = Unit-prop
  IsWellFormedTerm-prop unit_term = Unit-prop
  IsWellFormedTerm-prop (numeral digits) = Unit-prop
  IsWellFormedTerm-prop (variable n) = Unit-prop
  IsWellFormedTerm-prop (free x) = Unit-prop

  AreWellFormedTerms-prop : (es : TermFields) → IsProp (AreWellFormedTerms es)
  AreWellFormedTerms-prop no_terms = Unit-prop
  AreWellFormedTerms-prop (term_field l e es) = ×_prop (IsWellFormedTerm-prop e) (AreWellFormedTerms-prop es)

IsWellFormedStatement-prop : (statement : Statement) → IsProp (IsWellFormedStatement statement)
IsWellFormedStatement-prop (defines e) = IsWellFormedTerm-prop e
IsWellFormedStatement-prop (declares w) = IsWellFormedEntry-prop w
IsWellFormedStatement-prop (abbreviates w) = IsWellFormedEntry-prop w
IsWellFormedStatement-prop (states e) = IsWellFormedTerm-prop e

-- for all statements of a document, as in `Resolved`
pub AreWellFormedStatements-prop : (statements : List Statement) → IsProp (AreWellFormedStatements statements)
AreWellFormedStatements-prop [] = Unit-prop
AreWellFormedStatements-prop (statement ∷ rest) = ×_prop (IsWellFormedStatement-prop statement) (AreWellFormedStatements-prop rest)
