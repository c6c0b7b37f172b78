-- A claim about each written type in terms and statements; `None` is a faulty written type.
use Rattle.std.specs.Prelude.{List, [], ◌∷◌, Option}
use Rattle.lam_rules.specs.Types.{Typ}
use Rattle.lam_rules.specs.Terms.{Term, true_term, false_term, if_then_else, numeral, succ, pred, is_zero, variable, free, lambda, apply, unit_term, ascribe, let_in, record_term, project, fix, TermFields, no_terms, term_field}
use Rattle.lam_scope.specs.Places.{Statement, defines, declares, abbreviates, states}

-- the claim holds of each written type of a term
abbrev mutual
  pub EachWrittenInTerm : (Option Typ → Type 0) → Term → Type 0
  EachWrittenInTerm Claim (if_then_else c a b) = EachWrittenInTerm Claim c × EachWrittenInTerm Claim a × EachWrittenInTerm Claim b
  EachWrittenInTerm Claim (succ e) = EachWrittenInTerm Claim e
  EachWrittenInTerm Claim (pred e) = EachWrittenInTerm Claim e
  EachWrittenInTerm Claim (is_zero e) = EachWrittenInTerm Claim e
  EachWrittenInTerm Claim (lambda w e) = Claim w × EachWrittenInTerm Claim e
  EachWrittenInTerm Claim (apply f a) = EachWrittenInTerm Claim f × EachWrittenInTerm Claim a
  EachWrittenInTerm Claim (ascribe e w) = EachWrittenInTerm Claim e × Claim w
  EachWrittenInTerm Claim (let_in a b) = EachWrittenInTerm Claim a × EachWrittenInTerm Claim b
  EachWrittenInTerm Claim (record_term es) = EachWrittenInTerms Claim es
  EachWrittenInTerm Claim (project e l) = EachWrittenInTerm Claim e
  EachWrittenInTerm Claim (fix e) = EachWrittenInTerm Claim e
  EachWrittenInTerm Claim true_term = Unit {0}
  EachWrittenInTerm Claim false_term = Unit {0}
  EachWrittenInTerm Claim unit_term = Unit {0}
  EachWrittenInTerm Claim (numeral digits) = Unit {0}
  EachWrittenInTerm Claim (variable n) = Unit {0}
  EachWrittenInTerm Claim (free x) = Unit {0}

  -- the claim holds of each in the terms of a record
  pub EachWrittenInTerms : (Option Typ → Type 0) → TermFields → Type 0
  EachWrittenInTerms Claim no_terms = Unit {0}
  EachWrittenInTerms Claim (term_field l e es) = EachWrittenInTerm Claim e × EachWrittenInTerms Claim es

-- the claim holds of each in a statement
abbrev pub EachWrittenInStatement : (Option Typ → Type 0) → Statement → Type 0
EachWrittenInStatement Claim (defines e) = EachWrittenInTerm Claim e
EachWrittenInStatement Claim (declares w) = Claim w
EachWrittenInStatement Claim (abbreviates w) = Claim w
EachWrittenInStatement Claim (states e) = EachWrittenInTerm Claim e

-- the claim holds of each in statements
abbrev pub EachWrittenInStatements : (Option Typ → Type 0) → List Statement → Type 0
EachWrittenInStatements Claim [] = Unit {0}
EachWrittenInStatements Claim (statement ∷ rest) = EachWrittenInStatement Claim statement × EachWrittenInStatements Claim rest
