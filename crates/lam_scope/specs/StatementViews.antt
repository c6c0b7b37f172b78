-- What a statement stands for. Apart from the other views, since `Resolved` uses it to state its invariants.
use Rattle.lam_rules.specs.TermViews.{term_of, written_of}
use Rattle.lam_scope.specs.declared.statement.Statement.{Statement as RustStatement}
use Rattle.lam_scope.specs.declared.statement.Statement.TheVariants as rust
use Rattle.lam_scope.specs.Places.{Statement, defines, declares, abbreviates, states}

-- what a `Statement` stands for: a term, or a type, which is none if the written one is faulty
abbrev pub statement_of : RustStatement → Statement
statement_of (rust.Definition e) = defines (term_of e)
statement_of (rust.Declaration w) = declares (written_of w)
statement_of (rust.Abbreviation w) = abbreviates (written_of w)
statement_of (rust.Evaluation e) = states (term_of e)
