-- The binders in scope at a term. For private functions only.
use Rattle.std.specs.Prelude.{◌≡◌, List, map, reverse, Option}
use Rattle.std.specs.Option.{option_map}
use Rattle.lam_rules.specs.Types.{Typ}
use Rattle.lam_rules.specs.declared.rules.Dialect.{Dialect}
use Rattle.lam_scope.specs.Names.{Name}
use Rattle.lam_typing.specs.Answers.{answer}
use Rattle.lam_typing.specs.Blaming.{Blamed}
use Rattle.lam_query.specs.declared.binders.SeenBinder.{SeenBinder}
use Rattle.lam_query.specs.inner.Checked.{abbreviations_behind, names_behind, AreChecked}
use Rattle.lam_query.specs.inner.Rows.{Front, entries_of, types_of}

-- the name of a binder, if it has one
abbrev pub name_seen : SeenBinder → Option Name
name_seen b = option_map (λ x. x.now) b.name

-- the entries of binders, over the types of a table
abbrev pub entries_seen : List Typ → List SeenBinder → List (Option Typ)
entries_seen ts bs = map (λ b. answer ts b.entry) bs

-- the commands up to a front bind these names, in order
abbrev pub AreBindersBehind : Front → List SeenBinder → Type 0
AreBindersBehind f bs = names_behind f.commands ≡ reverse (map name_seen bs)

-- No type of the commands up to a front is over the size limit, the binders have their entries, and names mean what these tell.
pub record AreEntriesBehind (f : Front) (bs : List SeenBinder) (ts : List Typ) (d : Dialect) : Type 0 where
  pub found : List (Option Typ)
  pub blames : List Blamed
  pub checked : AreChecked f.commands (reverse (entries_seen ts bs)) found blames d
  pub names : (x : Name) → f.names x ≡ entries_of f.commands (reverse (entries_seen ts bs)) x
  pub types : (x : Name) → f.types x ≡ types_of (abbreviations_behind f.commands) x
