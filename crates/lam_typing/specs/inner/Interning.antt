-- Forms over type ids, and the commands and terms that they stand for.
use Rattle.std.specs.Prelude.{◌≡◌, List, ◌++◌}
use Rattle.lam_rules.specs.Types.{Typ}
use Rattle.lam_rules.specs.Terms.{Term, TermFields}
use Rattle.lam_scope.specs.Places.{Statement}
use Rattle.lam_scope.specs.InternedViews.{interned_term, interned_terms, interned_statement, StandIn, StandInTerms, StandInStatement}
use Rattle.lam_scope.specs.declared.interned.InternedTerm.{InternedTerm}
use Rattle.lam_scope.specs.declared.interned.InternedField.{InternedField}
use Rattle.lam_scope.specs.declared.interned.InternedStatement.{InternedStatement}

-- the form stands for this term, and its type ids are in the table
pub record IsForm (ts : List Typ) (form : InternedTerm) (e : Term) : Type 0 where
  pub stand : StandIn ts form
  pub same : interned_term ts form ≡ e

-- the form stands for this command
pub record IsStatementForm (ts : List Typ) (form : InternedStatement) (statement : Statement) : Type 0 where
  pub stand : StandInStatement ts form
  pub same : interned_statement ts form ≡ statement

-- what was appended to the forms stands for the terms of this record
pub record AreMoreForms (ts : List Typ) (before after : List InternedField) (es : TermFields) : Type 0 where
  pub more : List InternedField
  pub are : after ≡ before ++ more
  pub stand : StandInTerms ts more
  pub same : interned_terms ts more ≡ es
