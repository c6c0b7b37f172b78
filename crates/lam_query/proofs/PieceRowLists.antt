-- The rows of pieces, wherever these stand: cut in two, joined, one row more, how long they are, and as the table of types and the numbers of names grow.
use Rattle.std.proofs.Common.{◌≡◌, ◌+◌, ℕ, zero, suc, List, [], ◌∷◌, ◌++◌, append_assoc, length, take, drop, Option, Some, None, refl, ap, sym, subst, ◌∙◌}
use Rattle.std.specs.List.{AllZip}
use Rattle.std.specs.Str.{IsUtf8}
use Rattle.std.proofs.lemmas.List.{length-append}
use Rattle.std.proofs.lemmas.Str.{IsUtf8-nil, IsUtf8-append}
use Rattle.lam_rules.specs.Types.{Typ}
use Rattle.lam_rules.specs.Typing.{Context}
use Rattle.lam_rules.specs.Numbers.{Keeps}
use Rattle.lam_rules.specs.declared.rules.Dialect.{Dialect}
use Rattle.lam_syntax.specs.Trees.{CommandTree}
use Rattle.lam_scope.specs.Expansions.{Abbreviation}
use Rattle.lam_typing.specs.Answers.{answer, answers}
use Rattle.lam_typing.specs.Blaming.{Blamed, renumbered}
use Rattle.lam_typing.proofs.Growing.{answer_keep, answers_keep, all_stand_keep, stands_keep}
use Rattle.lam_query.specs.declared.bound.Bound.{Bound}
use Rattle.lam_query.specs.declared.bound.NameNo.{NameNo}
use Rattle.lam_query.specs.inner.Bound.{KeepsNumbers}
use Rattle.lam_query.specs.inner.Checked.{context_after, AreChecked}
use Rattle.lam_query.specs.inner.Entered.{Lookup, name_bound, type_name_bound}
use Rattle.lam_query.specs.inner.Kept.{Found, written_too_large, term_too_large, typed, CommandRow, Row, bound_by, bytes_of}
use Rattle.lam_query.specs.inner.PieceRows.{Sight, sight_with, AreFreeNumbers, AreItsNumbers, IsPieceRow, AreRows, joined}
use Rattle.lam_query.specs.inner.Rows.{with_entry, IsWrittenIn, IsFoundIn, StandInFound, IsFoundOf, names_with, types_with, IsKeptOf}
use Rattle.lam_query.proofs.BoundNames.{binding_kept}

-- ---- bytes

pub joined_append : (ps qs : List (List ℕ)) → joined (ps ++ qs) ≡ joined ps ++ joined qs
joined_append [] qs = refl
joined_append (p ∷ ps) qs = ap (λ bytes. p ++ bytes) (joined_append ps qs) ∙ sym (append_assoc p (joined ps) (joined qs))

-- ---- cut in two, joined, one more

pub rows_push : (s : Sight) (pieces : List (List ℕ)) (rows : List Row) (mid : Sight) (piece : List ℕ) (own : List CommandTree) (r : Row) (ts : List Typ) (b : Bound) (d : Dialect)
    → AreRows s pieces rows mid ts b d → IsPieceRow piece mid own r ts b d
    → AreRows s (pieces ++ piece ∷ []) (rows ++ r ∷ []) (sight_with mid own ts r.command) ts b d
rows_push s [] [] mid piece own r ts b d are is =
    (own, subst (λ g. IsPieceRow piece g own r ts b d) (sym are) is, ap (λ g. sight_with g own ts r.command) are)
rows_push s [] (q ∷ rows) mid piece own r ts b d are is = absurd are
rows_push s (p ∷ pieces) [] mid piece own r ts b d are is = absurd are
rows_push s (p ∷ pieces) (q ∷ rows) mid piece own r ts b d are is =
    (are.0, are.1, rows_push (sight_with s are.0 ts q.command) pieces rows mid piece own r ts b d are.2 is)

pub rows_join : (s : Sight) (ps : List (List ℕ)) (rows : List Row) (mid : Sight) (qs : List (List ℕ)) (others : List Row) (last : Sight)
    (ts : List Typ) (b : Bound) (d : Dialect) → AreRows s ps rows mid ts b d → AreRows mid qs others last ts b d → AreRows s (ps ++ qs) (rows ++ others) last ts b d
rows_join s [] [] mid qs others last ts b d are more = subst (λ g. AreRows g qs others last ts b d) (sym are) more
rows_join s [] (q ∷ rows) mid qs others last ts b d are more = absurd are
rows_join s (p ∷ ps) [] mid qs others last ts b d are more = absurd are
rows_join s (p ∷ ps) (q ∷ rows) mid qs others last ts b d are more =
    (are.0, are.1, rows_join (sight_with s are.0 ts q.command) ps rows mid qs others last ts b d are.2 more)

pub rows_split : (n : ℕ) (s : Sight) (pieces : List (List ℕ)) (rows : List Row) (last : Sight) (ts : List Typ) (b : Bound) (d : Dialect)
    → AreRows s pieces rows last ts b d
    → (mid : Sight) × AreRows s (take n pieces) (take n rows) mid ts b d × AreRows mid (drop n pieces) (drop n rows) last ts b d
rows_split zero s pieces rows last ts b d are = (s, refl, are)
rows_split (suc n) s [] [] last ts b d are = (last, are, refl)
rows_split (suc n) s [] (r ∷ rows) last ts b d are = absurd are
rows_split (suc n) s (p ∷ pieces) [] last ts b d are = absurd are
rows_split (suc n) s (p ∷ pieces) (r ∷ rows) last ts b d are =
    let rest = rows_split n (sight_with s are.0 ts r.command) pieces rows last ts b d are.2 in
    (rest.0, (are.0, are.1, rest.1), rest.2)

-- ---- how long they are

pub rows_lengths : (s : Sight) (pieces : List (List ℕ)) (rows : List Row) (last : Sight) (ts : List Typ) (b : Bound) (d : Dialect)
    → AreRows s pieces rows last ts b d → AllZip (λ r p. r.end ≡ length p) rows pieces
rows_lengths s [] [] last ts b d are = tt
rows_lengths s [] (r ∷ rows) last ts b d are = absurd are
rows_lengths s (p ∷ pieces) [] last ts b d are = absurd are
rows_lengths s (p ∷ pieces) (r ∷ rows) last ts b d are = (are.1.counted, rows_lengths (sight_with s are.0 ts r.command) pieces rows last ts b d are.2)

pub as_many : (s : Sight) (pieces : List (List ℕ)) (rows : List Row) (last : Sight) (ts : List Typ) (b : Bound) (d : Dialect)
    → AreRows s pieces rows last ts b d → length rows ≡ length pieces
as_many s [] [] last ts b d are = refl
as_many s [] (r ∷ rows) last ts b d are = absurd are
as_many s (p ∷ pieces) [] last ts b d are = absurd are
as_many s (p ∷ pieces) (r ∷ rows) last ts b d are = ap suc (as_many (sight_with s are.0 ts r.command) pieces rows last ts b d are.2)

-- rows count the bytes of their pieces
pub bytes_counted : (rows : List Row) (pieces : List (List ℕ)) → AllZip (λ r p. r.end ≡ length p) rows pieces → bytes_of rows ≡ length (joined pieces)
bytes_counted [] [] same = refl
bytes_counted [] (p ∷ pieces) same = absurd same
bytes_counted (r ∷ rows) [] same = absurd same
bytes_counted (r ∷ rows) (p ∷ pieces) same =
    (λ i. same.0 i + bytes_counted rows pieces same.1 i) ∙ sym (length-append p (joined pieces))

pub bytes_are : (s : Sight) (pieces : List (List ℕ)) (rows : List Row) (last : Sight) (ts : List Typ) (b : Bound) (d : Dialect)
    → AreRows s pieces rows last ts b d → bytes_of rows ≡ length (joined pieces)
bytes_are s pieces rows last ts b d are = bytes_counted rows pieces (rows_lengths s pieces rows last ts b d are)

pub joined_is_text : (s : Sight) (pieces : List (List ℕ)) (rows : List Row) (last : Sight) (ts : List Typ) (b : Bound) (d : Dialect)
    → AreRows s pieces rows last ts b d → IsUtf8 (joined pieces)
joined_is_text s [] [] last ts b d are = IsUtf8-nil
joined_is_text s [] (r ∷ rows) last ts b d are = absurd are
joined_is_text s (p ∷ pieces) [] last ts b d are = absurd are
joined_is_text s (p ∷ pieces) (r ∷ rows) last ts b d are =
    IsUtf8-append p (joined pieces) are.1.is_text (joined_is_text (sight_with s are.0 ts r.command) pieces rows last ts b d are.2)

-- ---- names keep their numbers

pub asked_keep : (old now : Bound) (c : CommandTree) (free_numbers : List NameNo) → KeepsNumbers old now → AreFreeNumbers old c free_numbers → AreFreeNumbers now c free_numbers
asked_keep old now c free_numbers numbers are = record {
  names = λ x free. let is = are.names x free in (is.0, numbers.names x is.0 is.1, is.2);
  types = λ x free. let is = are.types x free in (is.0, numbers.type_names x is.0 is.1, is.2);
}

-- ---- a table that grows

module _ (ts us : List Typ) (old now : Bound) (d : Dialect) (keeps : Keeps ts us) (numbers : KeepsNumbers old now) where
  answer_kept : (f : Found) → StandInFound ts f → answer us (bound_by f) ≡ answer ts (bound_by f)
  answer_kept (written_too_large s) stand = refl
  answer_kept (term_too_large s) stand = refl
  answer_kept (typed t) stand = answer_keep ts us t.bound keeps stand.1

  stand_kept : (f : Found) → StandInFound ts f → StandInFound us f
  stand_kept (written_too_large s) stand = tt
  stand_kept (term_too_large s) stand = tt
  stand_kept (typed t) stand = (all_stand_keep ts us t.types keeps stand.0, stands_keep ts us t.bound keeps stand.1)

  written_kept : (bs : List Abbreviation) (c : CommandTree) (f : Found) → StandInFound ts f → IsWrittenIn bs c ts f → IsWrittenIn bs c us f
  written_kept bs c (written_too_large s) stand is = is
  written_kept bs c (term_too_large s) stand is = is
  written_kept bs c (typed t) stand is = (is.0, λ x binds. answer_keep ts us t.bound keeps stand.1 ∙ is.1 x binds)

  found_kept : (done : List CommandTree) (g : Context) (found : List (Option Typ)) (blames : List Blamed) (c : CommandTree) (f : Found)
      → StandInFound ts f → IsFoundIn done g found blames c ts f d → IsFoundIn done g found blames c us f d
  found_kept done g found blames c (written_too_large s) stand is = tt
  found_kept done g found blames c (term_too_large s) stand is = is
  found_kept done g found blames c (typed t) stand is =
      let entry : answer ts t.bound ≡ answer us t.bound = sym (answer_keep ts us t.bound keeps stand.1) in
      let types : answers ts t.types ≡ answers us t.types = sym (answers_keep ts us t.types keeps stand.0) in
      let all = blames ++ renumbered (length found) is.own in
      record {
        own = is.own;
        inside = is.inside;
        checked =
            subst (λ e. AreChecked (done ++ c ∷ []) (context_after g c e) (found ++ answers us t.types) all d) entry
            (subst (λ os. AreChecked (done ++ c ∷ []) (context_after g c (answer ts t.bound)) (found ++ os) all d) types is.checked);
        faults = is.faults;
      }

  found_of_kept : (names types : Lookup) (c : CommandTree) (f : Found) → IsFoundOf names types c ts f d → IsFoundOf names types c us f d
  found_of_kept names types c f is = record {
    stand = stand_kept f is.stand;
    written = λ bs agree. written_kept bs c f is.stand (is.written bs agree);
    found = λ done g found blames checked sees. found_kept done g found blames c f is.stand (is.found done g found blames checked sees);
  }

  its_numbers_kept : (own : List CommandTree) (o : Option CommandRow) → AreItsNumbers old own o → AreItsNumbers now own o
  its_numbers_kept [] None are = tt
  its_numbers_kept [] (Some k) are = absurd are
  its_numbers_kept (c ∷ []) None are = absurd are
  its_numbers_kept (c ∷ []) (Some k) are = (binding_kept old now c k.binds numbers are.0, asked_keep old now c k.free_numbers numbers are.1)
  its_numbers_kept (c ∷ e ∷ own) None are = absurd are
  its_numbers_kept (c ∷ e ∷ own) (Some k) are = absurd are

  kept_kept : (names types : Lookup) (own : List CommandTree) (o : Option CommandRow) → IsKeptOf names types own ts o d → IsKeptOf names types own us o d
  kept_kept names types [] None is = tt
  kept_kept names types [] (Some k) is = absurd is
  kept_kept names types (c ∷ []) None is = absurd is
  kept_kept names types (c ∷ []) (Some k) is = found_of_kept names types c k.found is
  kept_kept names types (c ∷ e ∷ own) None is = absurd is
  kept_kept names types (c ∷ e ∷ own) (Some k) is = absurd is

  row_kept : (piece : List ℕ) (s : Sight) (own : List CommandTree) (r : Row) → IsPieceRow piece s own r ts old d → IsPieceRow piece s own r us now d
  row_kept piece s own r is = record {
    counted = is.counted;
    is_text = is.is_text;
    tokens = is.tokens;
    are = is.are;
    one_piece = is.one_piece;
    is_own = is.is_own;
    syntax = is.syntax;
    kept = kept_kept s.names s.types own r.command is.kept;
    numbers = its_numbers_kept own r.command is.numbers;
  }

  -- so names mean the same behind it

  names_kept : (names types : Lookup) (own : List CommandTree) (o : Option CommandRow) → IsKeptOf names types own ts o d
      → names_with own ts o names ≡ names_with own us o names
  names_kept names types [] None is = refl
  names_kept names types [] (Some r) is = refl
  names_kept names types (c ∷ []) None is = refl
  names_kept names types (c ∷ []) (Some r) is = ap (λ entry. with_entry (name_bound c) entry names) (sym (answer_kept r.found is.stand))
  names_kept names types (c ∷ e ∷ own) None is = refl
  names_kept names types (c ∷ e ∷ own) (Some r) is = refl

  types_kept : (names types : Lookup) (own : List CommandTree) (o : Option CommandRow) → IsKeptOf names types own ts o d
      → types_with own ts o types ≡ types_with own us o types
  types_kept names types [] None is = refl
  types_kept names types [] (Some r) is = refl
  types_kept names types (c ∷ []) None is = refl
  types_kept names types (c ∷ []) (Some r) is = ap (λ entry. with_entry (type_name_bound c) entry types) (sym (answer_kept r.found is.stand))
  types_kept names types (c ∷ e ∷ own) None is = refl
  types_kept names types (c ∷ e ∷ own) (Some r) is = refl

  sight_kept : (s : Sight) (own : List CommandTree) (o : Option CommandRow) → IsKeptOf s.names s.types own ts o d → sight_with s own ts o ≡ sight_with s own us o
  sight_kept s own o is = λ i. record { names = names_kept s.names s.types own o is i; types = types_kept s.names s.types own o is i }

  all_kept : (s : Sight) (pieces : List (List ℕ)) (rows : List Row) (last : Sight) → AreRows s pieces rows last ts old d → AreRows s pieces rows last us now d
  all_kept s [] [] last are = are
  all_kept s [] (r ∷ rows) last are = absurd are
  all_kept s (p ∷ pieces) [] last are = absurd are
  all_kept s (p ∷ pieces) (r ∷ rows) last are =
      let own = are.0 in
      let rest = all_kept (sight_with s own ts r.command) pieces rows last are.2 in
      (own, row_kept p s own r are.1, subst (λ g. AreRows g pieces rows last us now d) (sight_kept s own r.command are.1.kept) rest)

pub row_keep : (piece : List ℕ) (s : Sight) (own : List CommandTree) (r : Row) (ts us : List Typ) (b c : Bound) (d : Dialect)
    → Keeps ts us → KeepsNumbers b c → IsPieceRow piece s own r ts b d → IsPieceRow piece s own r us c d
row_keep piece s own r ts us b c d keeps numbers is = row_kept ts us b c d keeps numbers piece s own r is

pub rows_keep : (s : Sight) (pieces : List (List ℕ)) (rows : List Row) (last : Sight) (ts us : List Typ) (b c : Bound) (d : Dialect)
    → Keeps ts us → KeepsNumbers b c → AreRows s pieces rows last ts b d → AreRows s pieces rows last us c d
rows_keep s pieces rows last ts us b c d keeps numbers are = all_kept ts us b c d keeps numbers s pieces rows last are
