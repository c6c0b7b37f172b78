-- What a term and a statement over type ids stand for, and that each of their ids is that of a type of the table.
use Rattle.std.specs.Prelude.{List, [], ◌∷◌}
use Rattle.lam_rules.specs.Types.{Label, Typ}
use Rattle.lam_rules.specs.Terms.{Term, TermFields}
use Rattle.lam_scope.specs.Numbered.{Numbered, true_term, false_term, if_then_else, numeral, succ, pred, is_zero, variable, free, lambda, apply, unit_term, ascribe, let_in, record_term, project, fix, NumberedFields, no_terms, term_field, term_over, terms_over, written_over, NumbersStand, NumbersStandInAll, StandsIfAny}
use Rattle.lam_scope.specs.Places.{Statement, defines, declares, abbreviates, states}
use Rattle.lam_scope.specs.declared.interned.InternedTerm.{InternedTerm, fold-InternedTerm}
use Rattle.lam_scope.specs.declared.interned.InternedTerm.TheOpen.{InternedTerm-F, InternedField-F}
use Rattle.lam_scope.specs.declared.interned.InternedField.{InternedField}
use Rattle.lam_scope.specs.declared.interned.InternedStatement.{InternedStatement}
use Rattle.lam_scope.specs.declared.interned.InternedStatement.TheVariants as interned

-- labeled terms as the fields of a record
abbrev pub numbered_made : List (Label × Numbered) → NumberedFields
numbered_made [] = no_terms
numbered_made (f ∷ fs) = term_field f.0 f.1 (numbered_made fs)

-- one level, given the trees of the terms inside
abbrev pub numbered_step : InternedTerm-F Numbered (Label × Numbered) → Numbered
numbered_step InternedTerm-F.True = true_term
numbered_step InternedTerm-F.False = false_term
numbered_step (InternedTerm-F.If p) = if_then_else p.value.0 p.value.1 p.value.2
numbered_step (InternedTerm-F.Num s) = numeral s.now
numbered_step (InternedTerm-F.Succ e) = succ e.value
numbered_step (InternedTerm-F.Pred e) = pred e.value
numbered_step (InternedTerm-F.IsZero e) = is_zero e.value
numbered_step (InternedTerm-F.Var n) = variable n
numbered_step (InternedTerm-F.Free s) = free s.now
numbered_step (InternedTerm-F.Abs w e) = lambda w e.value
numbered_step (InternedTerm-F.App p) = apply p.value.0 p.value.1
numbered_step InternedTerm-F.Unit = unit_term
numbered_step (InternedTerm-F.Ascribe e w) = ascribe e.value w
numbered_step (InternedTerm-F.Let p) = let_in p.value.0 p.value.1
numbered_step (InternedTerm-F.Record fs) = record_term (numbered_made fs.items)
numbered_step (InternedTerm-F.Proj e l) = project e.value l.now
numbered_step (InternedTerm-F.Fix e) = fix e.value

-- a label and its term
abbrev pub numbered_field_step : InternedField-F Numbered (Label × Numbered) → Label × Numbered
numbered_field_step f = (f.label.now, f.term)

-- the tree of a term, with its type ids
unfoldable pub numbered_of : InternedTerm → Numbered
numbered_of = fold-InternedTerm Numbered (Label × Numbered) numbered_step numbered_field_step

-- the trees of labeled terms
abbrev pub numbered_terms : List InternedField → NumberedFields
numbered_terms [] = no_terms
numbered_terms (f ∷ fs) = term_field f.label.now (numbered_of f.term) (numbered_terms fs)

-- the term over the types of a table
abbrev pub interned_term : List Typ → InternedTerm → Term
interned_term ts e = term_over ts (numbered_of e)

-- labeled terms, as the fields of a record
abbrev pub interned_terms : List Typ → List InternedField → TermFields
interned_terms ts fs = terms_over ts (numbered_terms fs)

-- the statement over the types of a table
abbrev pub interned_statement : List Typ → InternedStatement → Statement
interned_statement ts (interned.Definition e) = defines (interned_term ts e)
interned_statement ts (interned.Declaration w) = declares (written_over ts w)
interned_statement ts (interned.Abbreviation w) = abbreviates (written_over ts w)
interned_statement ts (interned.Evaluation e) = states (interned_term ts e)

-- each type id of a term is that of a type of the table
abbrev pub StandIn : List Typ → InternedTerm → Type 0
StandIn ts e = NumbersStand ts (numbered_of e)

-- the same for labeled terms
abbrev pub StandInTerms : List Typ → List InternedField → Type 0
StandInTerms ts fs = NumbersStandInAll ts (numbered_terms fs)

-- the same for a statement
abbrev pub StandInStatement : List Typ → InternedStatement → Type 0
StandInStatement ts (interned.Definition e) = StandIn ts e
StandInStatement ts (interned.Declaration w) = StandsIfAny ts w
StandInStatement ts (interned.Abbreviation w) = StandsIfAny ts w
StandInStatement ts (interned.Evaluation e) = StandIn ts e
