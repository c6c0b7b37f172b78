-- A command behind its stand-ins sees what it sees behind the commands that these stand in for.
use Rattle.std.proofs.Common.{◌≡◌, ◌+◌, List, [], ◌∷◌, ◌++◌, length, map, fold, Option, Some, None, refl, sym, ap, subst, ◌∙◌, arith, Contains}
use Rattle.std.specs.List.{AllByRecursion}
use Rattle.std.specs.Option.{option_or}
use Rattle.std.proofs.lemmas.List.Elements.{Contains-append_left, Contains-append_right}
use Rattle.lam_rules.specs.Types.{Typ}
use Rattle.lam_rules.specs.Typing.{Context}
use Rattle.lam_rules.specs.declared.rules.Dialect.{Dialect}
use Rattle.lam_syntax.specs.Trees.{CommandTree}
use Rattle.lam_scope.specs.Expansions.{Abbreviation, stands_for, expansion}
use Rattle.lam_scope.specs.FreeNames.{each_once, free_in_command, free_type_names_in_command}
use Rattle.lam_scope.specs.Meanings.{MeanTheSame, StandForTheSame}
use Rattle.lam_scope.specs.Names.{Name}
use Rattle.lam_scope.specs.Nameless.{abbreviations_after, names_after, first_too_large}
use Rattle.lam_scope.specs.Places.{written, Scope}
use Rattle.lam_scope.specs.PlacedTerms.{commands_terms, document_terms}
use Rattle.lam_typing.specs.Blaming.{Blamed}
use Rattle.lam_typing.specs.LeastTypes.{AreLeastEntries}
use Rattle.lam_typing.specs.Progress.{IsLowest}
use Rattle.lam_typing.specs.WrittenScopes.{scope_of_entries}
use Rattle.lam_typing.proofs.AlikeStatements.{lowest_of_entries}
use Rattle.lam_query.specs.inner.Checked.{abbreviations_behind, names_behind, scope_from, scope_behind, AreChecked, IsEnvironmentFor}
use Rattle.lam_query.specs.inner.Entered.{Lookup, entered_first, entered, names_onto, entries_onto, abbreviations_onto}
use Rattle.lam_query.specs.inner.PieceRows.{Sight}
use Rattle.lam_query.specs.inner.Rows.{SeesAs}
use Rattle.lam_query.specs.inner.StandIns.{declared, abbreviated, written_entry, stand_ins}
use Rattle.lam_query.proofs.EachOnce.{once_there, there_once}
use Rattle.lam_query.proofs.Meanings.{environment_entered}
use Rattle.lam_query.proofs.SeenAlike.{IsSeenAlike}
use Rattle.lam_query.proofs.SmallEntries.{IsGood, name_good, type_name_good}
use Rattle.lam_query.proofs.WrittenBack.{entry_back, entry_within}

abbrev Pairs : Type 0
Pairs = List (Name × Option Typ)

-- declarations of these names, and behind them abbreviations of these type names
abbrev standing : Pairs → Pairs → List CommandTree
standing ps qs = map declared ps ++ map abbreviated qs

-- the entries of the names are good
abbrev AreGood : Pairs → Type 0
AreGood ps = AllByRecursion (λ p. IsGood p.1) ps

entered_good : (look : Lookup) (list : List Name) → ((x : Name) → Contains list x → (entry : Option Typ) → look x ≡ Some entry → IsGood entry) → AreGood (entered look list)
entered_good look [] each = tt
entered_good look (x ∷ list) each = by (entered_good look list later) (look x) refl
  where
    later : (y : Name) → Contains list y → (entry : Option Typ) → look y ≡ Some entry → IsGood entry
    later y there entry is = each y (Contains-append_right (x ∷ []) list y there) entry is

    by : AreGood (entered look list) → (o : Option (Option Typ)) → look x ≡ o → AreGood (entered_first x o (entered look list))
    by rest None finds = rest
    by rest (Some entry) finds = (each x (Contains-append_left (x ∷ []) list x (0, omega arith, refl)) entry finds, rest)

-- ---- what the command sees behind them

-- names

names_abbreviated : (xs : List (Option Name)) (qs : Pairs) → fold names_after xs (map abbreviated qs) ≡ xs
names_abbreviated xs [] = refl
names_abbreviated xs (q ∷ qs) = names_abbreviated xs qs

names_standing : (xs : List (Option Name)) (ps qs : Pairs) → fold names_after xs (standing ps qs) ≡ names_onto xs ps
names_standing xs [] qs = names_abbreviated xs qs
names_standing xs (p ∷ ps) qs = names_standing (Some p.0 ∷ xs) ps qs

-- type names

types_abbreviated : (bs : List Abbreviation) (qs : Pairs) → AreGood qs → fold abbreviations_after bs (map abbreviated qs) ≡ abbreviations_onto bs qs
types_abbreviated bs [] good = refl
types_abbreviated bs (q ∷ qs) good =
    ap (λ t. fold abbreviations_after (stands_for q.0 t ∷ bs) (map abbreviated qs)) (entry_back bs q.1 good.0.wf)
    ∙ types_abbreviated (stands_for q.0 q.1 ∷ bs) qs good.1

types_standing : (bs : List Abbreviation) (ps qs : Pairs) → AreGood qs → fold abbreviations_after bs (standing ps qs) ≡ abbreviations_onto bs qs
types_standing bs [] qs good = types_abbreviated bs qs good
types_standing bs (p ∷ ps) qs good = types_standing bs ps qs good

-- what its names take their types from

scope_abbreviated : (bs : List Abbreviation) (xs : List (Option Name)) (s : Scope) (qs : Pairs) → scope_from bs xs s (map abbreviated qs) ≡ s
scope_abbreviated bs xs s [] = refl
scope_abbreviated bs xs s (q ∷ qs) = scope_abbreviated (stands_for q.0 (expansion bs (written_entry q.1)) ∷ bs) xs s qs

scope_standing : (bs : List Abbreviation) (xs : List (Option Name)) (g : Context) (ps qs : Pairs) → AreGood ps
    → scope_from bs xs (scope_of_entries g) (standing ps qs) ≡ scope_of_entries (entries_onto g ps)
scope_standing bs xs g [] qs good = scope_abbreviated bs xs (scope_of_entries g) qs
scope_standing bs xs g (p ∷ ps) qs good =
    ap (λ t. scope_from bs (Some p.0 ∷ xs) (written t ∷ scope_of_entries g) (standing ps qs)) (entry_back bs p.1 good.0.wf)
    ∙ scope_standing bs (Some p.0 ∷ xs) (p.1 ∷ g) ps qs good.1

-- ---- what they have themselves

-- no terms

abbreviated_terms : (bs : List Abbreviation) (xs : List (Option Name)) (s : Scope) (qs : Pairs) → commands_terms bs xs s (map abbreviated qs) ≡ []
abbreviated_terms bs xs s [] = refl
abbreviated_terms bs xs s (q ∷ qs) = abbreviated_terms (stands_for q.0 (expansion bs (written_entry q.1)) ∷ bs) xs s qs

standing_terms : (bs : List Abbreviation) (xs : List (Option Name)) (s : Scope) (ps qs : Pairs) → commands_terms bs xs s (standing ps qs) ≡ []
standing_terms bs xs s [] qs = abbreviated_terms bs xs s qs
standing_terms bs xs s (p ∷ ps) qs = standing_terms bs (Some p.0 ∷ xs) (written (expansion bs (written_entry p.1)) ∷ s) ps qs

-- none of their types is too large

abbreviated_within : (bs : List Abbreviation) (qs : Pairs) → AreGood qs → first_too_large bs (map abbreviated qs) ≡ None
abbreviated_within bs [] good = refl
abbreviated_within bs (q ∷ qs) good =
    let after = stands_for q.0 (expansion bs (written_entry q.1)) ∷ bs in
    ap (λ o. option_or o (first_too_large after (map abbreviated qs))) (entry_within bs q.1 good.0.wf good.0.small)
    ∙ abbreviated_within after qs good.1

standing_within : (bs : List Abbreviation) (ps qs : Pairs) → AreGood ps → AreGood qs → first_too_large bs (standing ps qs) ≡ None
standing_within bs [] qs good others = abbreviated_within bs qs others
standing_within bs (p ∷ ps) qs good others =
    ap (λ o. option_or o (first_too_large bs (standing ps qs))) (entry_within bs p.1 good.0.wf good.0.small)
    ∙ standing_within bs ps qs good.1 others

-- no other entries than those that are written
only_written : (h k : Context) (d : Dialect) → AreLeastEntries (scope_of_entries h) k d → k ≡ h
only_written [] [] d least = refl
only_written [] (o ∷ k) d least = absurd least
only_written (entry ∷ h) [] d least = absurd least
only_written (entry ∷ h) (o ∷ k) d least = let rest = only_written h k d least.1 in let first = least.0 in λ i. first i ∷ rest i

-- ---- the command behind its stand-ins

module _ (s : Sight) (c : CommandTree) where
  -- the names that it takes from outside and that are bound, and such type names
  abbrev Names : Pairs
  Names = entered s.names (each_once (free_in_command c))

  abbrev TypeNames : Pairs
  TypeNames = entered s.types (each_once (free_type_names_in_command c))

  pub stand_ins_terms : document_terms (stand_ins s c) ≡ []
  stand_ins_terms = standing_terms [] [] [] Names TypeNames

  pub stand_ins_names : names_behind (stand_ins s c) ≡ names_onto [] Names
  stand_ins_names = names_standing [] Names TypeNames

  onto_count : (xs : List (Option Name)) (ps : Pairs) → length (names_onto xs ps) ≡ length ps + length xs
  onto_count xs [] = omega arith
  onto_count xs (p ∷ ps) = let rest = onto_count (Some p.0 ∷ xs) ps in omega arith

  pub stand_ins_count : length (names_behind (stand_ins s c)) ≡ length (entered s.names (each_once (free_in_command c)))
  stand_ins_count = ap length stand_ins_names ∙ (let all = onto_count [] Names in omega arith)

  module _ (done : List CommandTree) (g : Context) (found : List (Option Typ)) (blames : List Blamed) (d : Dialect) (checked : AreChecked done g found blames d)
      (sees : SeesAs c s.names s.types done g) where
    names_good : AreGood Names
    names_good =
        let free = free_in_command c in
        entered_good s.names (each_once free)
        (λ x there entry is. name_good done g found blames d checked x (names_behind done) entry (sym (sees.names x (there_once free x there)) ∙ is))

    type_names_good : AreGood TypeNames
    type_names_good =
        let free = free_type_names_in_command c in
        entered_good s.types (each_once free)
        (λ x there entry is. type_name_good done g found blames d checked x entry (sym (sees.types x (there_once free x there)) ∙ is))

    environment : IsEnvironmentFor c done g (abbreviations_onto [] TypeNames) (names_onto [] Names) (entries_onto [] Names)
    environment =
        let free = free_in_command c in
        let types = free_type_names_in_command c in
        environment_entered c done g s.names s.types (each_once free) (each_once types) checked.lowest.wf
        (once_there free) (λ x there. sees.names x (there_once free x there))
        (once_there types) (λ x there. sees.types x (there_once types x there))

    scope_is : scope_behind (stand_ins s c) ≡ scope_of_entries (entries_onto [] Names)
    scope_is = scope_standing [] [] [] Names TypeNames names_good

    seen_alike : IsSeenAlike done (stand_ins s c) g (entries_onto [] Names) c d
    seen_alike = record {
      lowest = checked.lowest;
      lengths = checked.lengths;
      alone_lowest = subst (λ r. IsLowest r (entries_onto [] Names) d) (sym scope_is) (lowest_of_entries (entries_onto [] Names) d environment.wf);
      alone_lengths = ap length stand_ins_names ∙ environment.lengths;
      written = λ k least. only_written (entries_onto [] Names) k d (subst (λ r. AreLeastEntries r k d) scope_is least);
      names_mean = subst (λ xs. MeanTheSame (free_in_command c) (names_behind done) g xs (entries_onto [] Names)) (sym stand_ins_names) environment.names_mean;
      types_stand =
          subst (StandForTheSame (free_type_names_in_command c) (abbreviations_behind done))
          (sym (types_standing [] Names TypeNames type_names_good)) environment.types_stand;
      no_terms = stand_ins_terms;
      none_too_large = standing_within [] Names TypeNames names_good type_names_good;
    }

pub stand_ins_seen : (s : Sight) (c : CommandTree) (done : List CommandTree) (g : Context) (found : List (Option Typ)) (blames : List Blamed) (d : Dialect)
    → AreChecked done g found blames d → SeesAs c s.names s.types done g
    → IsSeenAlike done (stand_ins s c) g (entries_onto [] (entered s.names (each_once (free_in_command c)))) c d
stand_ins_seen s c done g found blames d checked sees = seen_alike s c done g found blames d checked sees

-- ---- the binders of its own
