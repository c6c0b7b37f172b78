-- What a search for free names adds to those found before. For private contracts only.
use Rattle.std.specs.Prelude.{◌≡◌, List, Result, OnOk}
use Rattle.std.specs.declared.alloc.AllocError.{AllocError}
use Rattle.lam_syntax.specs.Trees.{TypeTree}
use Rattle.lam_scope.specs.declared.command_names.Finding.{Finding}
use Rattle.lam_scope.specs.Names.{Name}
use Rattle.lam_scope.specs.FreeNames.{free_type_names_in_types}
use Rattle.lam_scope.specs.inner.FoundNames.{found_after, free_under}

-- These names, except those that are bound, and the type names of these written types are appended to those found before, each once; unless allocation fails.
pub record AreFound {T : Type 0} (xs : List Name) (us : List TypeTree) (old new : Finding) (answer : Result T AllocError) : Type 0 where
  pub names : OnOk answer (new.names ≡ found_after old.names (free_under old.bound xs))
  pub type_names : OnOk answer (new.type_names ≡ found_after old.type_names (free_type_names_in_types us))
  pub bound : OnOk answer (new.bound ≡ old.bound)
