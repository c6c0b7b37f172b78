-- What commands have bound: names and type names as numbers, each with a type id of a type table. For private functions only.
use Rattle.std.specs.Prelude.{◌≡◌, ◌<◌, ◌⊎◌, ℕ, List, [], length, map, get_or, Contains, Option, Some, None, string_bytes, IfSome, if◌then◌else◌}
use Rattle.std.specs.Borrow.{Bor}
use Rattle.std.specs.Option.{option_map, option_and_then}
use Rattle.std.specs.Str.{bytes_eq}
use Rattle.std.specs.HashMap.{get_by}
use Rattle.lam_rules.specs.Types.{Typ}
use Rattle.lam_rules.specs.declared.numbers.TyNo.{TyNo}
use Rattle.lam_syntax.specs.Trees.{CommandTree}
use Rattle.lam_scope.specs.Environments.{names_seen, abbreviations_seen, TypeNamesStand}
use Rattle.lam_scope.specs.FreeNames.{each_once, free_in_command, free_type_names_in_command}
use Rattle.lam_scope.specs.declared.command_names.FreeNames.{FreeNames}
use Rattle.lam_scope.specs.Names.{Name, binds}
use Rattle.lam_scope.specs.Numbered.{StandsIfAny}
use Rattle.lam_typing.specs.Answers.{answer, AllStandIn, context_under}
use Rattle.lam_query.specs.declared.bound.NameNo.{NameNo}
use Rattle.lam_query.specs.declared.bound.NameNo.TheVariants as binding
use Rattle.lam_query.specs.declared.bound.Bound.{Bound}
use Rattle.lam_query.specs.declared.bound.Meanings.{Meanings}
use Rattle.lam_query.specs.declared.bound.Surroundings.{Surroundings}
use Rattle.lam_query.specs.inner.Entered.{Lookup, entered, names_onto, entries_onto, abbreviations_onto, name_bound, type_name_bound}

-- the number of a name, if it has one
abbrev pub number_of : Meanings → Name → Option ℕ
number_of m x = get_by (λ k. bytes_eq x (string_bytes k)) m.numbers

-- what is bound under a number, or nothing if the name is unbound
abbrev pub kept_under : Meanings → ℕ → Option (Option TyNo)
kept_under m n = get_or m.entries.items n None

-- what is bound under the number of a name or of a type name
abbrev pub means : Bound → NameNo → Option (Option TyNo)
means b (binding.Name n) = kept_under b.names n
means b (binding.TypeName n) = kept_under b.type_names n

-- what is bound for a name
abbrev pub meaning_of : Meanings → Name → Option (Option TyNo)
meaning_of m x = option_and_then (kept_under m) (number_of m x)

-- names mean the same under their numbers
abbrev pub MeanTheSame : (old now : Bound) → Type 0
MeanTheSame old now = (x : Name) → (meaning_of now.names x ≡ meaning_of old.names x) × (meaning_of now.type_names x ≡ meaning_of old.type_names x)

-- each name has a number of its own, which is an index of the entries
pub record AreNumbered (m : Meanings) : Type 0 where
  pub inside : (x : Name) (n : ℕ) → number_of m x ≡ Some n → n < length m.entries.items
  pub own : (x y : Name) (n : ℕ) → number_of m x ≡ Some n → number_of m y ≡ Some n → x ≡ y

-- the same for names and for type names
pub record HaveNumbers (b : Bound) : Type 0 where
  pub names : AreNumbered b.names
  pub type_names : AreNumbered b.type_names

-- names keep their numbers
pub record KeepsNumbers (old now : Bound) : Type 0 where
  pub names : (x : Name) (n : ℕ) → number_of old.names x ≡ Some n → number_of now.names x ≡ Some n
  pub type_names : (x : Name) (n : ℕ) → number_of old.type_names x ≡ Some n → number_of now.type_names x ≡ Some n

-- the number of the name that a command binds
abbrev pub IsBinding : Bound → CommandTree → Option NameNo → Type 0
IsBinding b c None = (name_bound c ≡ None) × (type_name_bound c ≡ None)
IsBinding b c (Some (binding.Name n)) = (x : Name) × (name_bound c ≡ Some x) × (type_name_bound c ≡ None) × (number_of b.names x ≡ Some n)
IsBinding b c (Some (binding.TypeName n)) = (x : Name) × (name_bound c ≡ None) × (type_name_bound c ≡ Some x) × (number_of b.type_names x ≡ Some n)

-- the meaning of a name over the types of a table
abbrev pub found_over : List Typ → Meanings → Lookup
found_over ts m x = option_map (answer ts) (meaning_of m x)

-- each type id that is bound stands for a type of the table
abbrev pub NumbersStandIn : List Typ → Meanings → Type 0
NumbersStandIn ts m = (x : Name) → IfSome (meaning_of m x) (StandsIfAny ts)

-- the same for names and for type names
pub record AllStand (ts : List Typ) (b : Bound) : Type 0 where
  pub names : NumbersStandIn ts b.names
  pub type_names : NumbersStandIn ts b.type_names

-- the free names and type names of a command, each once
pub record AreFreeIn (c : CommandTree) (free : FreeNames) : Type 0 where
  pub names : map (λ x. x.now) free.names.items ≡ each_once (free_in_command c)
  pub type_names : map (λ x. x.now) free.type_names.items ≡ each_once (free_type_names_in_command c)

-- The free names of a command that are bound, each entered once, with their entries; and its free type names.
pub record IsSurroundedBy (ts : List Typ) (b : Bound) (c : CommandTree) (s : Surroundings) : Type 0 where
  pub names : names_seen s.environment ≡ names_onto [] (entered (found_over ts b.names) (each_once (free_in_command c)))
  pub entries : context_under ts s.entries.items ≡ entries_onto [] (entered (found_over ts b.names) (each_once (free_in_command c)))
  pub type_names : abbreviations_seen ts s.environment ≡ abbreviations_onto [] (entered (found_over ts b.type_names) (each_once (free_type_names_in_command c)))
  pub type_names_stand : TypeNamesStand ts s.environment
  pub entries_stand : AllStandIn ts s.entries.items

-- ---- names that are entered one by one

-- the names that are borrowed
abbrev pub names_in : List (Bor (List ℕ)) → List Name
names_in = map (λ x. x.now)

-- those of them that are bound, over the types of a table
abbrev pub found_among : List Typ → Meanings → List (Bor (List ℕ)) → List (Name × Option Typ)
found_among ts known names = entered (found_over ts known) (names_in names)

-- a name has a number, and that is listed
abbrev pub IsListed : (ℕ → NameNo) → Meanings → List NameNo → Name → Type 0
IsListed of m numbers x = (n : ℕ) × (number_of m x ≡ Some n) × Contains numbers (of n)

-- all names but those that are left have numbers, which are listed along with those that were listed before
pub record AreListed (of : ℕ → NameNo) (names left : List (Bor (List ℕ))) (old now : Meanings) (before numbers : List NameNo) : Type 0 where
  pub asked : (x : Name) → Contains (names_in names) x → Contains (names_in left) x ⊎ IsListed of now numbers x
  pub others : (n : NameNo) → Contains before n → Contains numbers n
  pub keeps : (x : Name) (n : ℕ) → number_of old x ≡ Some n → number_of now x ≡ Some n
  pub same : (x : Name) → meaning_of now x ≡ meaning_of old x
  pub numbered : AreNumbered now

-- entering the names that are left, with their entries, gives the same now as entering all of them gave before
pub record AreEntered (known : Meanings) (names left : List (Bor (List ℕ))) (old now : Surroundings) : Type 0 where
  pub names_all : (ts : List Typ) → names_onto (names_seen now.environment) (found_among ts known left) ≡ names_onto (names_seen old.environment) (found_among ts known names)
  pub entries_all : (ts : List Typ)
      → entries_onto (context_under ts now.entries.items) (found_among ts known left) ≡ entries_onto (context_under ts old.entries.items) (found_among ts known names)
  pub stand : (ts : List Typ) → NumbersStandIn ts known → AllStandIn ts old.entries.items → AllStandIn ts now.entries.items
  pub type_names : (ts : List Typ) → abbreviations_seen ts now.environment ≡ abbreviations_seen ts old.environment
  pub type_names_stand : (ts : List Typ) → TypeNamesStand ts old.environment → TypeNamesStand ts now.environment

-- the same for type names, with what they stand for
pub record AreTypesEntered (known : Meanings) (names left : List (Bor (List ℕ))) (old now : Surroundings) : Type 0 where
  pub types_all : (ts : List Typ)
      → abbreviations_onto (abbreviations_seen ts now.environment) (found_among ts known left) ≡ abbreviations_onto (abbreviations_seen ts old.environment) (found_among ts known names)
  pub stand : (ts : List Typ) → NumbersStandIn ts known → TypeNamesStand ts old.environment → TypeNamesStand ts now.environment
  pub names_same : names_seen now.environment ≡ names_seen old.environment
  pub entries_same : now.entries ≡ old.entries

-- ---- what a command binds

-- the entry of this name, if there is one, is set
abbrev pub IsSetIn : Option Name → Option TyNo → Meanings → Meanings → Type 0
IsSetIn b number old now = (x : Name) → meaning_of now x ≡ (if binds b x then Some number else meaning_of old x)

-- the entry of what a command binds is set
pub record IsBoundAfter (c : CommandTree) (number : Option TyNo) (old now : Bound) : Type 0 where
  pub names : IsSetIn (name_bound c) number old.names now.names
  pub type_names : IsSetIn (type_name_bound c) number old.type_names now.type_names
