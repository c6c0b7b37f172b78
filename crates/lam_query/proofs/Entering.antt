-- How names are numbered and entered one by one, each with what is kept for it.
use Rattle.std.proofs.Common.{◌≡◌, ℕ, ◌+◌, ◌<◌, List, [], ◌∷◌, ◌++◌, length, get_or, drop, Option, Some, None, Bor, Contains, ◌⊎◌, inl, inr, ap, sym, ◌∙◌, subst}
use Rattle.std.specs.Prelude.{IfSome}
use Rattle.std.specs.Option.{option_map, option_and_then}
use Rattle.std.proofs.lemmas.List.{at_drop_more}
use Rattle.std.proofs.lemmas.List.Elements.{Contains-append_left, Contains-append_right}
use Rattle.lam_rules.specs.Types.{Typ}
use Rattle.lam_rules.specs.declared.numbers.TyNo.{TyNo}
use Rattle.lam_syntax.specs.Trees.{CommandTree}
use Rattle.lam_scope.specs.declared.command_names.FreeNames.{FreeNames}
use Rattle.lam_scope.specs.Environments.{names_seen, abbreviations_seen, TypeNamesStand}
use Rattle.lam_scope.specs.Expansions.{stands_for}
use Rattle.lam_scope.specs.FreeNames.{free_in_command, free_type_names_in_command}
use Rattle.lam_scope.specs.Names.{Name}
use Rattle.lam_scope.specs.Numbered.{StandsIfAny}
use Rattle.lam_scope.proofs.Contained.{nothing_in, first_in, first_or_later}
use Rattle.lam_typing.specs.Answers.{answer, AllStandIn, context_under}
use Rattle.lam_typing.proofs.Growing.{context-push, all_stand_push}
use Rattle.lam_query.specs.declared.bound.Bound.{Bound}
use Rattle.lam_query.specs.declared.bound.Meanings.{Meanings}
use Rattle.lam_query.specs.declared.bound.NameNo.{NameNo}
use Rattle.lam_query.specs.declared.bound.NameNo.TheVariants as number
use Rattle.lam_query.specs.declared.bound.Surroundings.{Surroundings}
use Rattle.lam_query.specs.inner.Bound.{number_of, kept_under, meaning_of, AreNumbered, found_over, NumbersStandIn, AllStand, AreFreeIn, IsSurroundedBy, names_in, found_among, IsListed, AreListed, AreEntered, AreTypesEntered}
use Rattle.lam_query.specs.inner.Entered.{entered_first, entered, names_onto, entries_onto, abbreviations_onto}
use Rattle.lam_query.specs.inner.PieceRows.{AreFreeNumbers}
use Rattle.lam_query.proofs.EachOnce.{once_there}

-- the name at an index
abbrev pub name_at : List (Bor (List ℕ)) → ℕ → Bor (List ℕ) → Name
name_at names i d = (get_or names i d).now

-- what is kept under the number of a name is what the name meant all along
pub kept_meaning : (old now more : Meanings) (x : Name) (n : ℕ) → number_of more x ≡ Some n → meaning_of more x ≡ meaning_of now x → meaning_of now x ≡ meaning_of old x
    → kept_under more n ≡ meaning_of old x
kept_meaning old now more x n has same before = sym (ap (option_and_then (kept_under more)) has) ∙ same ∙ before

-- what is kept for a name stands for a type
kept_stands : (ts : List Typ) (known : Meanings) (x : Name) (entry : Option TyNo) → NumbersStandIn ts known → Some entry ≡ meaning_of known x → StandsIfAny ts entry
kept_stands ts known x entry stand here = subst (λ o. IfSome o (StandsIfAny ts)) (sym here) (stand x)

-- ---- one name more

module _ (names : List (Bor (List ℕ))) (i : ℕ) (d : Bor (List ℕ)) (inside : i < length names) where
  next_found : (known : Meanings) (ts : List Typ) (o : Option (Option TyNo)) → o ≡ meaning_of known (name_at names i d)
      → found_among ts known (drop i names) ≡ entered_first (name_at names i d) (option_map (answer ts) o) (found_among ts known (drop (i + 1) names))
  next_found known ts o here =
      at_drop_more (found_among ts known) names i d inside
      ∙ ap (λ p. entered_first (name_at names i d) (option_map (answer ts) p) (found_among ts known (drop (i + 1) names))) (sym here)

  pub one_listed : (of : ℕ → NameNo) (old now more : Meanings) (before numbers longer : List NameNo) (n : ℕ) → number_of more (name_at names i d) ≡ Some n
      → ((x : Name) (k : ℕ) → number_of now x ≡ Some k → number_of more x ≡ Some k) → ((x : Name) → meaning_of more x ≡ meaning_of now x) → AreNumbered more
      → longer ≡ numbers ++ of n ∷ [] → AreListed of names (drop i names) old now before numbers → AreListed of names (drop (i + 1) names) old more before longer
  one_listed of old now more before numbers longer n has keeps same numbered pushed so_far = record {
    asked = λ x there. left x (so_far.asked x there);
    others = λ k there. stays k (so_far.others k there);
    keeps = λ x k is. keeps x k (so_far.keeps x k is);
    same = λ x. same x ∙ so_far.same x;
    numbered = numbered;
  }
    where
      stays : (k : NameNo) → Contains numbers k → Contains longer k
      stays k there = subst (λ ks. Contains ks k) (sym pushed) (Contains-append_left numbers (of n ∷ []) k there)

      got : Contains longer (of n)
      got = subst (λ ks. Contains ks (of n)) (sym pushed) (Contains-append_right numbers (of n ∷ []) (of n) (first_in (of n) []))

      next : (x : Name) → (name_at names i d ≡ x) ⊎ Contains (names_in (drop (i + 1) names)) x → Contains (names_in (drop (i + 1) names)) x ⊎ IsListed of more longer x
      next x (inl here) = inr (n, ap (number_of more) (sym here) ∙ has, got)
      next x (inr later) = inl later

      left : (x : Name) → Contains (names_in (drop i names)) x ⊎ IsListed of now numbers x → Contains (names_in (drop (i + 1) names)) x ⊎ IsListed of more longer x
      left x (inl there) =
          next x (first_or_later (name_at names i d) x (names_in (drop (i + 1) names)) (subst (λ xs. Contains xs x) (at_drop_more names_in names i d inside) there))
      left x (inr (k, is, there)) = inr (k, keeps x k is, stays (of k) there)

  pub unknown_passed : (known : Meanings) (old now : Surroundings) → None ≡ meaning_of known (name_at names i d)
      → AreEntered known names (drop i names) old now → AreEntered known names (drop (i + 1) names) old now
  unknown_passed known old now here so_far = record {
    names_all = λ ts. ap (names_onto (names_seen now.environment)) (sym (next_found known ts None here)) ∙ so_far.names_all ts;
    entries_all = λ ts. ap (entries_onto (context_under ts now.entries.items)) (sym (next_found known ts None here)) ∙ so_far.entries_all ts;
    stand = so_far.stand;
    type_names = so_far.type_names;
    type_names_stand = so_far.type_names_stand;
  }

  pub name_entered : (known : Meanings) (old now more : Surroundings) (entry : Option TyNo) → Some entry ≡ meaning_of known (name_at names i d)
      → names_seen more.environment ≡ Some (name_at names i d) ∷ names_seen now.environment
      → ((ts : List Typ) → abbreviations_seen ts more.environment ≡ abbreviations_seen ts now.environment)
      → ((ts : List Typ) → TypeNamesStand ts now.environment → TypeNamesStand ts more.environment)
      → more.entries.items ≡ now.entries.items ++ entry ∷ []
      → AreEntered known names (drop i names) old now → AreEntered known names (drop (i + 1) names) old more
  name_entered known old now more entry here entered_more same still pushed so_far = record {
    names_all = λ ts.
        ap (λ xs. names_onto xs (found_among ts known (drop (i + 1) names))) entered_more
        ∙ ap (names_onto (names_seen now.environment)) (sym (next_found known ts (Some entry) here))
        ∙ so_far.names_all ts;
    entries_all = λ ts.
        ap (λ g. entries_onto g (found_among ts known (drop (i + 1) names))) (ap (context_under ts) pushed ∙ context-push ts now.entries.items entry)
        ∙ ap (entries_onto (context_under ts now.entries.items)) (sym (next_found known ts (Some entry) here))
        ∙ so_far.entries_all ts;
    stand = λ ts numbers before.
        subst (AllStandIn ts) (sym pushed)
        (all_stand_push ts now.entries.items entry (so_far.stand ts numbers before) (kept_stands ts known (name_at names i d) entry numbers here));
    type_names = λ ts. same ts ∙ so_far.type_names ts;
    type_names_stand = λ ts stand. still ts (so_far.type_names_stand ts stand);
  }

  pub unknown_type_passed : (known : Meanings) (old now : Surroundings) → None ≡ meaning_of known (name_at names i d)
      → AreTypesEntered known names (drop i names) old now → AreTypesEntered known names (drop (i + 1) names) old now
  unknown_type_passed known old now here so_far = record {
    types_all = λ ts. ap (abbreviations_onto (abbreviations_seen ts now.environment)) (sym (next_found known ts None here)) ∙ so_far.types_all ts;
    stand = so_far.stand;
    names_same = so_far.names_same;
    entries_same = so_far.entries_same;
  }

  pub type_name_entered : (known : Meanings) (old now more : Surroundings) (entry : Option TyNo) → Some entry ≡ meaning_of known (name_at names i d)
      → ((ts : List Typ) → abbreviations_seen ts more.environment ≡ stands_for (name_at names i d) (answer ts entry) ∷ abbreviations_seen ts now.environment)
      → ((ts : List Typ) → TypeNamesStand ts now.environment → StandsIfAny ts entry → TypeNamesStand ts more.environment)
      → names_seen more.environment ≡ names_seen now.environment → more.entries ≡ now.entries
      → AreTypesEntered known names (drop i names) old now → AreTypesEntered known names (drop (i + 1) names) old more
  type_name_entered known old now more entry here entered_more still same entries so_far = record {
    types_all = λ ts.
        ap (λ bs. abbreviations_onto bs (found_among ts known (drop (i + 1) names))) (entered_more ts)
        ∙ ap (abbreviations_onto (abbreviations_seen ts now.environment)) (sym (next_found known ts (Some entry) here))
        ∙ so_far.types_all ts;
    stand = λ ts numbers stand. still ts (so_far.stand ts numbers stand) (kept_stands ts known (name_at names i d) entry numbers here);
    names_same = same ∙ so_far.names_same;
    entries_same = entries ∙ so_far.entries_same;
  }

-- ---- all names

pub listed_of : (of : ℕ → NameNo) (names : List (Bor (List ℕ))) (old now : Meanings) (before numbers : List NameNo) → AreListed of names [] old now before numbers
    → (x : Name) → Contains (names_in names) x → IsListed of now numbers x
listed_of of names old now before numbers listed x there = by (listed.asked x there)
  where
    by : Contains [] x ⊎ IsListed of now numbers x → IsListed of now numbers x
    by (inl left) = absurd (nothing_in x left)
    by (inr found) = found

-- what a command takes from outside
module _ (c : CommandTree) (free : FreeNames) (names type_names : List (Bor (List ℕ))) (are : AreFreeIn c free) (all : names ≡ free.names.items) (all_types : type_names ≡ free.type_names.items) where
  pub free_asked : (old now : Bound) (before numbers more : List NameNo) → AreListed (λ n. number.Name n) names [] old.names now.names before numbers
      → AreListed (λ n. number.TypeName n) type_names [] old.type_names now.type_names numbers more → AreFreeNumbers now c more
  free_asked old now before numbers more listed types = record {
    names = λ x there.
        let p = listed_of (λ n. number.Name n) names old.names now.names before numbers listed x
        (subst (λ xs. Contains xs x) (sym (ap names_in all ∙ are.names)) (once_there (free_in_command c) x there)) in
        (p.0, p.1, types.others (number.Name p.0) p.2);
    types = λ x there.
        listed_of (λ n. number.TypeName n) type_names old.type_names now.type_names numbers more types x
        (subst (λ xs. Contains xs x) (sym (ap names_in all_types ∙ are.type_names)) (once_there (free_type_names_in_command c) x there));
  }

  pub surroundings_made : (ts : List Typ) (b : Bound) (empty named s : Surroundings) → AllStand ts b
      → names_seen empty.environment ≡ [] → abbreviations_seen ts empty.environment ≡ [] → TypeNamesStand ts empty.environment → empty.entries.items ≡ []
      → AreEntered b.names names [] empty named → AreTypesEntered b.type_names type_names [] named s → IsSurroundedBy ts b c s
  surroundings_made ts b empty named s stand none no_types types_stand no_entries entered_names entered_types =
      let look = found_over ts b.names in
      let types = found_over ts b.type_names in
      let same = ap (λ v. v.items) entered_types.entries_same in
      record {
        names =
            entered_types.names_same
            ∙ entered_names.names_all ts
            ∙ ap (λ xs. names_onto xs (found_among ts b.names names)) none
            ∙ ap (λ xs. names_onto [] (entered look xs)) (ap names_in all ∙ are.names);
        entries =
            ap (context_under ts) same
            ∙ entered_names.entries_all ts
            ∙ ap (λ es. entries_onto (context_under ts es) (found_among ts b.names names)) no_entries
            ∙ ap (λ xs. entries_onto [] (entered look xs)) (ap names_in all ∙ are.names);
        type_names =
            entered_types.types_all ts
            ∙ ap (λ bs. abbreviations_onto bs (found_among ts b.type_names type_names)) (entered_names.type_names ts ∙ no_types)
            ∙ ap (λ xs. abbreviations_onto [] (entered types xs)) (ap names_in all_types ∙ are.type_names);
        type_names_stand = entered_types.stand ts stand.type_names (entered_names.type_names_stand ts types_stand);
        entries_stand = subst (AllStandIn ts) (sym same) (entered_names.stand ts stand.names (subst (AllStandIn ts) (sym no_entries) tt));
      }
