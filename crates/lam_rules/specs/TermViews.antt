-- The plain tree that a `Core` represents.
use Rattle.std.specs.Prelude.{List, [], ◌∷◌, String, string_bytes, Option}
use Rattle.std.specs.Borrow.{Bor}
use Rattle.std.specs.Option.{option_map, option_copied}
use Rattle.std.specs.declared.alloc.Global.{Global}
use Rattle.lam_rules.specs.Types.{Typ}
use Rattle.lam_rules.specs.TypeViews.{typ_of}
use Rattle.lam_rules.specs.Terms.{Term, true_term, false_term, if_then_else, numeral, succ, pred, is_zero, variable, free, lambda, apply, unit_term, ascribe, let_in, record_term, project, fix, TermFields, no_terms, term_field}
use Rattle.lam_rules.specs.declared.types.Ty.{Ty}
use Rattle.lam_rules.specs.declared.terms.Core.{Core, fold-Core}
use Rattle.lam_rules.specs.declared.terms.Core.TheOpen.{Core-F}

-- the written type, if there is one
abbrev pub written_of : Option Ty → Option Typ
written_of = option_map typ_of

-- the type behind a reference, if there is one
abbrev pub lent_of : Option (Bor Ty) → Option Typ
lent_of entry = written_of (option_copied entry)

-- labeled terms as the fields of a record
abbrev pub terms_made : List (String Global × Term) → TermFields
terms_made [] = no_terms
terms_made (f ∷ fs) = term_field (string_bytes f.0) f.1 (terms_made fs)

-- one level, whose parts are already trees
abbrev pub term_step : Core-F Term → Term
term_step Core-F.True = true_term
term_step Core-F.False = false_term
term_step (Core-F.If p) = if_then_else p.value.0 p.value.1 p.value.2
term_step (Core-F.Num s) = numeral (string_bytes s)
term_step (Core-F.Succ e) = succ e.value
term_step (Core-F.Pred e) = pred e.value
term_step (Core-F.IsZero e) = is_zero e.value
term_step (Core-F.Var n) = variable n
term_step (Core-F.Free s) = free (string_bytes s)
term_step (Core-F.Abs p) = lambda (written_of p.value.0) p.value.1
term_step (Core-F.App p) = apply p.value.0 p.value.1
term_step Core-F.Unit = unit_term
term_step (Core-F.Ascribe p) = ascribe p.value.0 (written_of p.value.1)
term_step (Core-F.Let p) = let_in p.value.0 p.value.1
term_step (Core-F.Record fs) = record_term (terms_made fs.items)
term_step (Core-F.Proj p) = project p.value.0 (string_bytes p.value.1)
term_step (Core-F.Fix e) = fix e.value

-- the tree of a term
unfoldable pub term_of : Core → Term
term_of = fold-Core Term term_step

-- the fields of a list of labeled terms
abbrev pub terms_of : List (String Global × Core) → TermFields
terms_of [] = no_terms
terms_of (f ∷ fs) = term_field (string_bytes f.0) (term_of f.1) (terms_of fs)
