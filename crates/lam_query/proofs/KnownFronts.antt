-- What is known of the commands up to a front, by the rows of their pieces; and with a piece more that is no command.
use Rattle.std.proofs.Common.{◌≡◌, ℕ, List, [], ◌∷◌, ◌++◌, append-nil, append_assoc, map, refl, ap, sym, subst, ◌∙◌, Option, Some, None}
use Rattle.std.specs.Prelude.{if◌then◌else◌}
use Rattle.std.specs.Option.{option_or}
use Rattle.std.specs.List.Sorted.{IsPermutation}
use Rattle.std.specs.Str.{bytes_eq}
use Rattle.std.proofs.lemmas.List.{map-append}
use Rattle.std.proofs.lemmas.List.Concat.{flat_map-append}
use Rattle.std.proofs.lemmas.List.Sorted.{IsPermutation-refl, IsPermutation-append_left, IsPermutation-append_right, IsPermutation-append_comm}
use Rattle.lam_token.specs.declared.span.Span.{Span}
use Rattle.lam_rules.specs.Types.{Typ}
use Rattle.lam_rules.specs.declared.numbers.TyNo.{TyNo}
use Rattle.lam_rules.specs.declared.rules.Dialect.{Dialect}
use Rattle.lam_syntax.specs.Trees.{CommandTree}
use Rattle.lam_scope.specs.Names.{Name, binds}
use Rattle.lam_scope.specs.Nameless.{faults, first_too_large}
use Rattle.lam_typing.specs.Analysis.{IsFirstTooLarge}
use Rattle.lam_typing.specs.Answers.{answer, answers}
use Rattle.lam_query.specs.Sizes.{places_in, span_numbered}
use Rattle.lam_query.specs.TextFaults.{written_fault, blame_fault}
use Rattle.lam_query.specs.inner.Checked.{abbreviations_behind, AreChecked}
use Rattle.lam_query.specs.inner.Entered.{Lookup, type_named, type_name_bound, type_bound}
use Rattle.lam_query.specs.inner.Kept.{CommandRow, Row, found_in, types_found, faults_found, all_types, all_faults}
use Rattle.lam_query.specs.inner.Rows.{types_of, entries_of, with_entry, Front, nothing, front_with, AreAllTyped}
use Rattle.lam_query.proofs.Checked.{none_checked}
use Rattle.lam_query.proofs.CheckedLists.{abbreviations_push}
use Rattle.lam_query.proofs.Meanings.{type_after}

-- ---- what is known up to a front

-- type names mean what they mean behind these commands
abbrev pub AreTypeNames : List CommandTree → Lookup → Type 0
AreTypeNames done types = (x : Name) → types x ≡ types_of (abbreviations_behind done) x

-- A term of these commands has a type that is too large, the first one of the document. So far no written type is.
pub record IsTermTooLarge (done : List CommandTree) (of_types : Lookup) (s : Span) (d : Dialect) : Type 0 where
  pub written : first_too_large [] done ≡ None
  pub types : AreTypeNames done of_types
  pub number : ℕ
  pub first : (rest : List CommandTree) → IsFirstTooLarge (places_in (done ++ rest)) number d
  pub span : (rest : List CommandTree) → span_numbered (done ++ rest) number ≡ s

-- what is known, by the first written type that is too large and the first such term
abbrev pub IsKnownBy : Front → List Row → List Typ → (written term : Option Span) → Dialect → Type 0
IsKnownBy f rows ts (Some s) term d = (rest : List CommandTree) → first_too_large [] (f.commands ++ rest) ≡ Some s
IsKnownBy f rows ts None (Some s) d = IsTermTooLarge f.commands f.types s d
IsKnownBy f rows ts None None d = AreAllTyped f rows ts d

-- ---- at the beginning

pub nothing_known : (ts : List Typ) (d : Dialect) → AreAllTyped nothing [] ts d
nothing_known ts d = record {
  context = [];
  blames = [];
  checked = none_checked d;
  names = λ x. refl;
  types = λ x. refl;
  faults = λ rest. IsPermutation-refl [];
}

-- ---- lists

-- the types of one row more come behind the others
pub types_more : (ts : List Typ) (rows : List Row) (r : Row) → answers ts (all_types (rows ++ r ∷ [])) ≡ answers ts (all_types rows) ++ answers ts (types_found (found_in r))
types_more ts rows r =
    ap (answers ts) (flat_map-append (λ q. types_found (found_in q)) rows (r ∷ []) ∙ ap (λ os. all_types rows ++ os) (append-nil (types_found (found_in r))))
    ∙ map-append (answer ts) (all_types rows) (types_found (found_in r))

-- so do its faults
pub faults_more : (rows : List Row) (r : Row) → all_faults (rows ++ r ∷ []) ≡ all_faults rows ++ faults_found (found_in r)
faults_more rows r = flat_map-append (λ q. faults_found (found_in q)) rows (r ∷ []) ∙ ap (λ fs. all_faults rows ++ fs) (append-nil (faults_found (found_in r)))

-- two lists in the middle change places
pub middle_swapped : {X : Type 0} (a b c e : List X) → IsPermutation ((a ++ b) ++ (c ++ e)) ((a ++ c) ++ (b ++ e))
middle_swapped {X} a b c e =
    let apart : (u v : List X) → (a ++ u) ++ (v ++ e) ≡ a ++ ((u ++ v) ++ e) =
    λ u v. append_assoc a u (v ++ e) ∙ ap (λ xs. a ++ xs) (sym (append_assoc u v e)) in
    subst (λ xs. IsPermutation xs ((a ++ c) ++ (b ++ e))) (sym (apart b c))
    (subst (IsPermutation (a ++ ((b ++ c) ++ e))) (sym (apart c b))
    (IsPermutation-append_right a ((b ++ c) ++ e) ((c ++ b) ++ e) (IsPermutation-append_left e (b ++ c) (c ++ b) (IsPermutation-append_comm b c))))

-- ---- names

-- what is put for the name that a command binds is what it binds
put_for : (b : Option Name) (found entry : Option Typ) (rest : Option (Option Typ)) (x : Name) → ((y : Name) → b ≡ Some y → found ≡ entry)
    → (if binds b x then Some found else rest) ≡ (if binds b x then Some entry else rest)
put_for None found entry rest x is = refl
put_for (Some y) found entry rest x is = ap (λ t. if bytes_eq y x then Some t else rest) (is y refl)

-- what a command binds is put in front of what type names mean
pub types_behind : (done : List CommandTree) (c : CommandTree) (ts : List Typ) (number : Option TyNo) (types : Lookup) → AreTypeNames done types
    → ((x : Name) → type_name_bound c ≡ Some x → answer ts number ≡ type_bound (abbreviations_behind done) c)
    → AreTypeNames (done ++ c ∷ []) (with_entry (type_name_bound c) (answer ts number) types)
types_behind done c ts number types are binding x =
    let bs = abbreviations_behind done in
    let b = type_name_bound c in
    ap (λ o. if binds b x then Some (answer ts number) else o) (are x)
    ∙ put_for b (answer ts number) (type_bound bs c) (type_named x bs) x binding
    ∙ sym (ap (type_named x) (abbreviations_push done c) ∙ type_after x bs c)

-- a command that binds no type name
pub none_binding : (o : Option Name) (found bound : Option Typ) → o ≡ None → (x : Name) → o ≡ Some x → found ≡ bound
none_binding o found bound none x named = let clash : None ≡ Some x = sym none ∙ named in absurd cc

-- ---- a piece that is no command

-- a row, with this kept of its command
abbrev pub with_command : Row → Option CommandRow → Row
with_command r command = record r { command = command }

module _ (f : Front) (rows : List Row) (r : Row) (ts : List Typ) (d : Dialect) where
  -- the row of a piece that is no command
  abbrev Bare : Row
  Bare = with_command r None

  no_command_typed : AreAllTyped f rows ts d → AreAllTyped (front_with f [] ts Bare) (rows ++ Bare ∷ []) ts d
  no_command_typed known = record {
    context = known.context;
    blames = known.blames;
    checked =
        subst (λ cs. AreChecked cs known.context (answers ts (all_types (rows ++ Bare ∷ []))) known.blames d) (sym (append-nil f.commands))
        (subst (λ os. AreChecked f.commands known.context os known.blames d) (sym (types_more ts rows Bare ∙ append-nil (answers ts (all_types rows)))) known.checked);
    names = subst (λ cs. (x : Name) → f.names x ≡ entries_of cs known.context x) (sym (append-nil f.commands)) known.names;
    types = subst (λ cs. AreTypeNames cs f.types) (sym (append-nil f.commands)) known.types;
    faults = λ rest.
        subst (λ cs. IsPermutation (map written_fault (faults [] cs) ++ map (blame_fault (cs ++ rest)) known.blames) (all_faults (rows ++ Bare ∷ [])))
        (sym (append-nil f.commands))
        (subst (IsPermutation (map written_fault (faults [] f.commands) ++ map (blame_fault (f.commands ++ rest)) known.blames))
        (sym (faults_more rows Bare ∙ append-nil (all_faults rows))) (known.faults rest));
  }

  pub no_command_known : (w t : Option Span) → IsKnownBy f rows ts w t d
      → IsKnownBy (front_with f [] ts Bare) (rows ++ Bare ∷ []) ts (option_or w None) (option_or t None) d
  no_command_known (Some s) t known = subst (λ cs. (rest : List CommandTree) → first_too_large [] (cs ++ rest) ≡ Some s) (sym (append-nil f.commands)) known
  no_command_known None (Some s) known = subst (λ cs. IsTermTooLarge cs f.types s d) (sym (append-nil f.commands)) known
  no_command_known None None known = no_command_typed known
