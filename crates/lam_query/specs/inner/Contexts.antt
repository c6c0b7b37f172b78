-- The context entries of a derivation. For private functions only.
use Rattle.std.specs.Prelude.{List}
use Rattle.lam_rules.specs.Types.{Typ}
use Rattle.lam_scope.specs.Names.{shown_name}
use Rattle.lam_typing.specs.Answers.{answer}
use Rattle.lam_query.specs.declared.binders.SeenBinder.{SeenBinder}
use Rattle.lam_query.specs.Derivations.{ContextEntry}
use Rattle.lam_query.specs.inner.SeenBinders.{name_seen}

-- the name of a binder, and its entry over the types of a table
abbrev pub entry_shown : List Typ → SeenBinder → ContextEntry
entry_shown ts b = record { name = shown_name (name_seen b); type = answer ts b.entry }
