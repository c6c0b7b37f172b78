-- The rows behind a change: each is right at its new place where names mean what they meant, or it is made anew.
use Rattle.std.proofs.Common.{◌≡◌, ◌<◌, ◌≤◌, ◌+◌, ◌-◌, ℕ, zero, suc, Bool, true, false, List, [], ◌∷◌, ◌++◌, append-nil, append_assoc, length, get_or, set, take, drop, take-append-drop, Option, Some, None, refl, ap, sym, subst, ◌∙◌, arith}
use Rattle.std.specs.Prelude.{if◌then◌else◌, slice_range}
use Rattle.std.specs.List.{Contains}
use Rattle.std.specs.Option.{option_map, option_and_then}
use Rattle.std.specs.Str.{IsUtf8, IsCharBoundary, bytes_eq}
use Rattle.std.proofs.lemmas.Slice.Eq.{bytes_eq-Decides}
use Rattle.std.proofs.lemmas.List.{length-append, get_or-set_other, drop_more, take_more_set, drop-set-lt, set-get_or, get_or_default, map_push, map-append, drop_all, take_all, take_at, drop_at}
use Rattle.std.proofs.lemmas.Str.{IsUtf8-append, IsCharBoundary-at_seam}
use Rattle.lam_rules.specs.Types.{Typ}
use Rattle.lam_rules.specs.Numbers.{Keeps}
use Rattle.lam_rules.specs.declared.rules.Dialect.{Dialect}
use Rattle.lam_rules.proofs.Tables.{keeps_same, keeps_trans}
use Rattle.lam_token.specs.Lexeme.{Lexeme}
use Rattle.lam_syntax.specs.Trees.{CommandTree}
use Rattle.lam_scope.specs.FreeNames.{free_in_command, free_type_names_in_command}
use Rattle.lam_scope.specs.Names.{Name, binds}
use Rattle.lam_typing.specs.Answers.{answer}
use Rattle.lam_typing.specs.Checking.{types_in, dialect_in}
use Rattle.lam_typing.proofs.Growing.{answer_keep}
use Rattle.lam_query.specs.declared.analyses.Analyst.{Analyst}
use Rattle.lam_query.specs.declared.bound.Bound.{Bound}
use Rattle.lam_query.specs.declared.bound.NameNo.{NameNo}
use Rattle.lam_query.specs.declared.bound.NameNo.TheVariants as number
use Rattle.lam_query.specs.declared.bound.Meanings.{Meanings}
use Rattle.lam_query.specs.declared.changed_names.ChangedNames.{ChangedNames}
use Rattle.lam_query.specs.declared.entries.Entries.{Entries}
use Rattle.lam_query.specs.declared.rows.CommandRow.{CommandRow as RustCommandRow}
use Rattle.lam_query.specs.declared.rows.Row.{Row as RustRow}
use Rattle.lam_query.specs.inner.Analysts.{IsSound, IsBoundAs, IsKeptBy, IsReadThrough}
use Rattle.lam_query.specs.inner.Bound.{number_of, kept_under, means, AreNumbered, HaveNumbers, KeepsNumbers, IsBinding, AllStand, IsBoundAfter}
use Rattle.lam_query.specs.inner.ChangedNames.{is_changed, IsMarked, AgreeOnUnchanged}
use Rattle.lam_query.specs.inner.Changes.{IsFollowedTo}
use Rattle.lam_query.specs.inner.Entries.{meant, HasRoomFor, IsMeantBy}
use Rattle.lam_query.specs.inner.Entered.{Lookup, name_bound, type_name_bound}
use Rattle.lam_query.specs.inner.Kept.{Found, CommandRow, Row, bound_by, entry_in, command_row_of, row_of, rows_of}
use Rattle.lam_query.specs.inner.OnePiece.{HaveNoSemicolon, IsOwnOf, ArePieceTokens, before_semicolon as ended_piece, at_end as last_piece}
use Rattle.lam_query.specs.inner.PieceRows.{Sight, outset, sight_with, AreTokensIn, before_semicolon, alone, AreItsNumbers, IsPieceRow, AreRows, joined}
use Rattle.lam_query.specs.inner.Rows.{AgreeOn, IsFoundOf, with_entry, names_with, types_with, IsKeptOf}
use Rattle.lam_query.proofs.BoundNames.{answer_kept, bound_as_after, stand_after, bound_stands, numbers_same, numbers_trans}
use Rattle.lam_query.proofs.PieceAround.{own_same}
use Rattle.lam_query.proofs.PieceRowLists.{joined_append, rows_push, rows_join, joined_is_text, row_keep, rows_keep}

-- ---- a command where names mean the same

pub found_elsewhere : (names types others other_types : Lookup) (c : CommandTree) (ts : List Typ) (f : Found) (d : Dialect)
    → AgreeOn (free_in_command c) names others → AgreeOn (free_type_names_in_command c) types other_types
    → IsFoundOf names types c ts f d → IsFoundOf others other_types c ts f d
found_elsewhere names types others other_types c ts f d same same_types is = record {
  stand = is.stand;
  written = λ bs agree. is.written bs (λ x free. same_types x free ∙ agree x free);
  found = λ done g found blames checked sees. is.found done g found blames checked (record {
    names = λ x free. same x free ∙ sees.names x free;
    types = λ x free. same_types x free ∙ sees.types x free;
  });
}

-- both sights give the same to all that the commands take from outside
abbrev pub AgreeFor : List CommandTree → Sight → Sight → Type 0
AgreeFor [] s z = Unit {0}
AgreeFor (c ∷ own) s z = AgreeOn (free_in_command c) s.names z.names × AgreeOn (free_type_names_in_command c) s.types z.types

kept_elsewhere : (s z : Sight) (own : List CommandTree) (ts : List Typ) (o : Option CommandRow) (d : Dialect) → AgreeFor own s z
    → IsKeptOf s.names s.types own ts o d → IsKeptOf z.names z.types own ts o d
kept_elsewhere s z [] ts None d agree is = tt
kept_elsewhere s z [] ts (Some k) d agree is = absurd is
kept_elsewhere s z (c ∷ []) ts None d agree is = absurd is
kept_elsewhere s z (c ∷ []) ts (Some k) d agree is = found_elsewhere s.names s.types z.names z.types c ts k.found d agree.0 agree.1 is
kept_elsewhere s z (c ∷ e ∷ own) ts None d agree is = absurd is
kept_elsewhere s z (c ∷ e ∷ own) ts (Some k) d agree is = absurd is

pub row_elsewhere : (piece : List ℕ) (s z : Sight) (own : List CommandTree) (r : Row) (ts : List Typ) (b : Bound) (d : Dialect) → AgreeFor own s z
    → IsPieceRow piece s own r ts b d → IsPieceRow piece z own r ts b d
row_elsewhere piece s z own r ts b d agree is = record {
  counted = is.counted;
  is_text = is.is_text;
  tokens = is.tokens;
  are = is.are;
  one_piece = is.one_piece;
  is_own = is.is_own;
  syntax = is.syntax;
  kept = kept_elsewhere s z own ts r.command d agree is.kept;
  numbers = is.numbers;
}

-- ---- all names mean the same

-- both sights give the same to each name that has a number
pub record AgreeOnNumbered (b : Bound) (s z : Sight) : Type 0 where
  pub names : (x : Name) (n : ℕ) → number_of b.names x ≡ Some n → s.names x ≡ z.names x
  pub types : (x : Name) (n : ℕ) → number_of b.type_names x ≡ Some n → s.types x ≡ z.types x

agree_for : (b : Bound) (s z : Sight) (own : List CommandTree) (o : Option CommandRow) → AgreeOnNumbered b s z → AreItsNumbers b own o → AgreeFor own s z
agree_for b s z [] o agree are = tt
agree_for b s z (c ∷ []) None agree are = absurd are
agree_for b s z (c ∷ []) (Some k) agree are = (
  λ x free. let is = are.1.names x free in agree.names x is.0 is.1,
  λ x free. let is = are.1.types x free in agree.types x is.0 is.1,
)
agree_for b s z (c ∷ e ∷ own) None agree are = absurd are
agree_for b s z (c ∷ e ∷ own) (Some k) agree are = absurd are

agree_behind : (b : Bound) (s z : Sight) (own : List CommandTree) (ts : List Typ) (o : Option CommandRow) → AgreeOnNumbered b s z
    → AgreeOnNumbered b (sight_with s own ts o) (sight_with z own ts o)
agree_behind b s z [] ts None agree = record { names = agree.names; types = agree.types }
agree_behind b s z [] ts (Some k) agree = record { names = agree.names; types = agree.types }
agree_behind b s z (c ∷ []) ts None agree = record { names = agree.names; types = agree.types }
agree_behind b s z (c ∷ []) ts (Some k) agree =
    let put : Option Name → Name → Option (Option Typ) → Option (Option Typ) = λ b x o. if binds b x then Some (answer ts (bound_by k.found)) else o in
    record { names = λ x n is. ap (put (name_bound c) x) (agree.names x n is); types = λ x n is. ap (put (type_name_bound c) x) (agree.types x n is) }
agree_behind b s z (c ∷ e ∷ own) ts None agree = record { names = agree.names; types = agree.types }
agree_behind b s z (c ∷ e ∷ own) ts (Some k) agree = record { names = agree.names; types = agree.types }

pub rows_elsewhere : (s z : Sight) (pieces : List (List ℕ)) (rows : List Row) (last : Sight) (ts : List Typ) (b : Bound) (d : Dialect)
    → AgreeOnNumbered b s z → AreRows s pieces rows last ts b d → (end : Sight) × AreRows z pieces rows end ts b d
rows_elsewhere s z [] [] last ts b d agree are = (z, refl)
rows_elsewhere s z [] (r ∷ rows) last ts b d agree are = absurd are
rows_elsewhere s z (p ∷ pieces) [] last ts b d agree are = absurd are
rows_elsewhere s z (p ∷ pieces) (r ∷ rows) last ts b d agree are =
    let own = are.0 in
    let is = are.1 in
    let more = rows_elsewhere (sight_with s own ts r.command) (sight_with z own ts r.command) pieces rows last ts b d (agree_behind b s z own ts r.command agree) are.2 in
    (more.0, (own, row_elsewhere p s z own r ts b d (agree_for b s z own r.command agree is.numbers) is, more.1))

-- ---- what names mean now, and what they meant

module _ (ts us : List Typ) (b now : Bound) (e : Entries) (s z : Sight) (is_meant : IsMeantBy s ts b e) (keeps : Keeps ts us) (numbers : KeepsNumbers b now)
    (bound : IsBoundAs z.names z.types us now) where
  name_agrees : (x : Name) (n : ℕ) → number_of b.names x ≡ Some n → meant e (number.Name n) ≡ means now (number.Name n) → s.names x ≡ z.names x
  name_agrees x n is same =
      sym (is_meant.names x n is) ∙ sym (answer_kept ts us keeps (meant e (number.Name n)) (is_meant.stand x n is))
      ∙ ap (option_map (answer us)) same
      ∙ ap (λ o. option_map (answer us) (option_and_then (kept_under now.names) o)) (sym (numbers.names x n is))
      ∙ bound.names x

  type_name_agrees : (x : Name) (n : ℕ) → number_of b.type_names x ≡ Some n → meant e (number.TypeName n) ≡ means now (number.TypeName n) → s.types x ≡ z.types x
  type_name_agrees x n is same =
      sym (is_meant.types x n is) ∙ sym (answer_kept ts us keeps (meant e (number.TypeName n)) (is_meant.type_stand x n is))
      ∙ ap (option_map (answer us)) same
      ∙ ap (λ o. option_map (answer us) (option_and_then (kept_under now.type_names) o)) (sym (numbers.type_names x n is))
      ∙ bound.types x

  all_agree : ((name : NameNo) → HasRoomFor name e → meant e name ≡ means now name) → AgreeOnNumbered b s z
  all_agree same = record {
    names = λ x n is. name_agrees x n is (same (number.Name n) (is_meant.room x n is));
    types = λ x n is. type_name_agrees x n is (same (number.TypeName n) (is_meant.type_room x n is));
  }

  unchanged_agree : (changed : ChangedNames) → ((name : NameNo) → is_changed changed name ≡ false → meant e name ≡ means now name) → AgreeOnUnchanged b changed s z
  unchanged_agree changed same = record {
    names = λ x n is un. name_agrees x n is (same (number.Name n) un);
    types = λ x n is un. type_name_agrees x n is (same (number.TypeName n) un);
  }

-- ---- what is not marked as changed

agree_asked : (b : Bound) (changed : ChangedNames) (s z : Sight) (own : List CommandTree) (k : CommandRow) → AgreeOnUnchanged b changed s z → AreItsNumbers b own (Some k)
    → ((name : NameNo) → Contains k.free_numbers name → is_changed changed name ≡ false) → AgreeFor own s z
agree_asked b changed s z [] k agree are same = tt
agree_asked b changed s z (c ∷ []) k agree are same = (
  λ x free. let is = are.1.names x free in agree.names x is.0 is.1 (same (number.Name is.0) is.2),
  λ x free. let is = are.1.types x free in agree.types x is.0 is.1 (same (number.TypeName is.0) is.2),
)
agree_asked b changed s z (c ∷ e ∷ own) k agree are same = absurd are

marked_here : (marks : List Bool) (n : ℕ) (v : Bool) → get_or (set marks n v) n true ≡ false → v ≡ false
marked_here [] n v un = let clash : true ≡ false = un in absurd cc
marked_here (m ∷ marks) zero v un = un
marked_here (m ∷ marks) (suc n) v un = marked_here marks n v un

-- names of one kind that are not marked agree
abbrev AgreeByMarks : Meanings → List Bool → Lookup → Lookup → Type 0
AgreeByMarks m marks s z = (x : Name) (n : ℕ) → number_of m x ≡ Some n → get_or marks n true ≡ false → s x ≡ z x

none_marked : (m : Meanings) (marks : List Bool) (s z : Lookup) (bound : Option Name) (was now : Option Typ) → bound ≡ None → AgreeByMarks m marks s z
    → AgreeByMarks m marks (with_entry bound was s) (with_entry bound now z)
none_marked m marks s z bound was now none agree x n is un =
    sym (ap (λ o. with_entry o was s x) (sym none)) ∙ agree x n is un ∙ ap (λ o. with_entry o now z x) (sym none)

one_marked : (m : Meanings) (marks : List Bool) (s z : Lookup) (y : Name) (n : ℕ) (v : Bool) (was now : Option Typ) → AreNumbered m → number_of m y ≡ Some n
    → (v ≡ false → was ≡ now) → AgreeByMarks m marks s z
    → AgreeByMarks m (set marks n v) (with_entry (Some y) was s) (with_entry (Some y) now z)
one_marked m marks s z y n v was now numbers at same agree x k is un = by (bytes_eq y x) refl
  where
    by : (b : Bool) → bytes_eq y x ≡ b → (if b then Some was else s x) ≡ (if b then Some now else z x)
    by true e =
        let both : Some k ≡ Some n = sym is ∙ ap (number_of m) (sym ((bytes_eq-Decides y x).0 e)) ∙ at in
        let here : k ≡ n = cc in
        ap Some (same (marked_here marks n v (ap (λ j. get_or (set marks n v) j true) (sym here) ∙ un)))
    by false e =
        let differ : n ≡ k → ⊥ = λ one.
        let names : y ≡ x = numbers.own y x k (at ∙ ap Some one) is in
        let both : true ≡ false = sym ((bytes_eq-Decides y x).1 names) ∙ e in
        cc in
        agree x k is (sym (get_or-set_other marks n k v true (λ one. differ (sym one))) ∙ un)

-- A command binds one name, which has an entry now and had one then: it is marked, unless both are the same.
agree_bound : (b : Bound) (old now : ChangedNames) (s z : Sight) (c : CommandTree) (binds : Option NameNo) (v : Bool) (before after : Option Typ) → HaveNumbers b
    → IsBinding b c binds → IsMarked binds v old now → (v ≡ false → before ≡ after) → AgreeOnUnchanged b old s z
    → AgreeOnUnchanged b now (record { names = with_entry (name_bound c) before s.names; types = with_entry (type_name_bound c) before s.types })
    (record { names = with_entry (name_bound c) after z.names; types = with_entry (type_name_bound c) after z.types })
agree_bound b old now s z c None v before after numbers binding marked same agree = record {
  names = none_marked b.names now.names.items s.names z.names (name_bound c) before after binding.0
      (subst (λ m. AgreeByMarks b.names m.names.items s.names z.names) marked agree.names);
  types = none_marked b.type_names now.type_names.items s.types z.types (type_name_bound c) before after binding.1
      (subst (λ m. AgreeByMarks b.type_names m.type_names.items s.types z.types) marked agree.types);
}
agree_bound b old now s z c (Some (number.Name n)) v before after numbers (y, name, no_type, is) marked same agree = record {
  names =
      subst (λ o. AgreeByMarks b.names now.names.items (with_entry o before s.names) (with_entry o after z.names)) (sym name)
      (subst (λ marks. AgreeByMarks b.names marks (with_entry (Some y) before s.names) (with_entry (Some y) after z.names)) (sym marked.0)
      (one_marked b.names old.names.items s.names z.names y n v before after numbers.names is same agree.names));
  types = none_marked b.type_names now.type_names.items s.types z.types (type_name_bound c) before after no_type
      (subst (λ marks. AgreeByMarks b.type_names marks.items s.types z.types) (sym marked.1) agree.types);
}
agree_bound b old now s z c (Some (number.TypeName n)) v before after numbers (y, no_name, name, is) marked same agree = record {
  names = none_marked b.names now.names.items s.names z.names (name_bound c) before after no_name
      (subst (λ marks. AgreeByMarks b.names marks.items s.names z.names) (sym marked.1) agree.names);
  types =
      subst (λ o. AgreeByMarks b.type_names now.type_names.items (with_entry o before s.types) (with_entry o after z.types)) (sym name)
      (subst (λ marks. AgreeByMarks b.type_names marks (with_entry (Some y) before s.types) (with_entry (Some y) after z.types)) (sym marked.0)
      (one_marked b.type_names old.type_names.items s.types z.types y n v before after numbers.type_names is same agree.types));
}

-- it stays so behind a piece that is a command, or none
agree_on : (b : Bound) (old now : ChangedNames) (s z : Sight) (own : List CommandTree) (ts us : List Typ) (o p : Option CommandRow) (binds : Option NameNo) (v : Bool) (d : Dialect)
    → HaveNumbers b → AreItsNumbers b own o → option_and_then (λ k. k.binds) o ≡ binds → IsKeptOf s.names s.types own ts o d → IsKeptOf z.names z.types own us p d
    → IsMarked binds v old now → Keeps ts us → (v ≡ false → entry_in p ≡ entry_in o) → AgreeOnUnchanged b old s z
    → AgreeOnUnchanged b now (sight_with s own ts o) (sight_with z own us p)
agree_on b old now s z [] ts us None None binds v d numbers its is kept new marked keeps same agree =
    let none : None ≡ binds = is in
    let same : old ≡ now = subst (λ x. IsMarked x v old now) (sym none) marked in
    subst (λ m. AgreeOnUnchanged b m (sight_with s [] ts None) (sight_with z [] us None)) same (record { names = agree.names; types = agree.types })
agree_on b old now s z [] ts us None (Some k) binds v d numbers its is kept new marked keeps same agree = absurd new
agree_on b old now s z [] ts us (Some k) p binds v d numbers its is kept new marked keeps same agree = absurd kept
agree_on b old now s z (c ∷ []) ts us None p binds v d numbers its is kept new marked keeps same agree = absurd its
agree_on b old now s z (c ∷ []) ts us (Some k) None binds v d numbers its is kept new marked keeps same agree = absurd new
agree_on b old now s z (c ∷ []) ts us (Some k) (Some l) binds v d numbers its is kept new marked keeps same agree =
    let stands = bound_stands ts k.found kept.stand in
    agree_bound b old now s z c k.binds v (answer ts (bound_by k.found)) (answer us (bound_by l.found)) numbers its.0
    (subst (λ x. IsMarked x v old now) (sym is) marked)
    (λ un. sym (answer_keep ts us (bound_by k.found) keeps stands) ∙ ap (answer us) (sym (same un)))
    agree
agree_on b old now s z (c ∷ e ∷ own) ts us None p binds v d numbers its is kept new marked keeps same agree = absurd its
agree_on b old now s z (c ∷ e ∷ own) ts us (Some k) p binds v d numbers its is kept new marked keeps same agree = absurd its

-- ---- the next row

-- the first of these pieces has this row, and the others have the rest
record BeginWith (s : Sight) (pieces : List (List ℕ)) (r : Row) (rows : List Row) (last : Sight) (ts : List Typ) (b : Bound) (d : Dialect) : Type 0 where
  pub piece : List ℕ
  pub behind : List (List ℕ)
  pub are : pieces ≡ piece ∷ behind
  pub own : List CommandTree
  pub is_row : IsPieceRow piece s own r ts b d
  pub others : AreRows (sight_with s own ts r.command) behind rows last ts b d

first_of : (s : Sight) (pieces : List (List ℕ)) (r : Row) (rows : List Row) (last : Sight) (ts : List Typ) (b : Bound) (d : Dialect)
    → AreRows s pieces (r ∷ rows) last ts b d → BeginWith s pieces r rows last ts b d
first_of s [] r rows last ts b d are = absurd are
first_of s (p ∷ pieces) r rows last ts b d are = record { piece = p; behind = pieces; are = refl; own = are.0; is_row = are.1; others = are.2 }

-- the tokens of a piece are those that are read from it alone
piece_tokens : (piece : List ℕ) (tokens : List Lexeme) → AreTokensIn piece tokens → (rest : List ℕ) × ArePieceTokens 0 piece rest tokens
piece_tokens piece tokens (before_semicolon t are kind ends) =
    let none : 0 + length piece ≡ length piece = omega arith in
    ([], ended_piece t are kind (ends ∙ sym none))
piece_tokens piece tokens (alone are) = ([], last_piece are refl)

-- a piece that is no command has none
none_own : (b : Bound) (own : List CommandTree) → AreItsNumbers b own None → own ≡ []
none_own b [] are = refl
none_own b (c ∷ []) are = absurd are
none_own b (c ∷ e ∷ own) are = absurd are

module _ (text : List ℕ) (n : ℕ) (ts : List Typ) (b : Bound) (changed : ChangedNames) (a : Analyst) (q : RustRow) (f : IsFollowedTo text n ts b (AgreeOnUnchanged b changed) a)
    (inside : n < length a.rows.items) (at : q ≡ get_or a.rows.items n q) where
  abbrev Rows : List RustRow
  Rows = a.rows.items

  abbrev ItsDialect : Dialect
  ItsDialect = dialect_in a.types

  here : BeginWith f.old_sight f.left (row_of q) (rows_of (drop (n + 1) Rows)) f.old_last ts b ItsDialect
  here =
      let split : drop n Rows ≡ q ∷ drop (n + 1) Rows = drop_more Rows n q inside ∙ ap (λ r. r ∷ drop (n + 1) Rows) (sym at) in
      first_of f.old_sight f.left (row_of q) (rows_of (drop (n + 1) Rows)) f.old_last ts b ItsDialect
      (subst (λ rows. AreRows f.old_sight f.left (rows_of rows) f.old_last ts b ItsDialect) split f.old_rows)

  behind_is_text : IsUtf8 (joined here.behind)
  behind_is_text =
      joined_is_text (sight_with f.old_sight here.own ts (row_of q).command) here.behind (rows_of (drop (n + 1) Rows)) f.old_last ts b ItsDialect here.others

  text_is : text ≡ joined f.done ++ (here.piece ++ joined here.behind)
  text_is = f.made_up.whole ∙ ap joined f.parts ∙ joined_append f.done f.left ∙ ap (λ ps. joined f.done ++ joined ps) here.are

  lengths : length text ≡ a.end + (q.end + length (joined here.behind))
  lengths =
      let all = ap length text_is in
      let one = length-append (joined f.done) (here.piece ++ joined here.behind) in
      let other = length-append here.piece (joined here.behind) in
      let at = f.end in
      let counted : q.end ≡ length here.piece = here.is_row.counted in
      omega arith

  pub row_fits : a.end + q.end ≤ length text
  row_fits = let all = lengths in omega arith

  pub row_starts : IsCharBoundary text a.end
  row_starts =
      subst (IsCharBoundary text) (sym f.end)
      (IsCharBoundary-at_seam text (joined f.done) (here.piece ++ joined here.behind) text_is
      (IsUtf8-append here.piece (joined here.behind) here.is_row.is_text behind_is_text))

  pub row_stops : IsCharBoundary text (a.end + q.end)
  row_stops =
      let split : text ≡ (joined f.done ++ here.piece) ++ joined here.behind = text_is ∙ sym (append_assoc (joined f.done) here.piece (joined here.behind)) in
      let counted : q.end ≡ length here.piece = here.is_row.counted in
      let long = length-append (joined f.done) here.piece in
      let end = f.end in
      let at : length (joined f.done ++ here.piece) ≡ a.end + q.end = omega arith in
      subst (IsCharBoundary text) at (IsCharBoundary-at_seam text (joined f.done ++ here.piece) (joined here.behind) split behind_is_text)

  row_piece : slice_range text a.end (a.end + q.end) ≡ here.piece
  row_piece =
      let counted : q.end ≡ length here.piece = here.is_row.counted in
      let long : length here.piece ≡ a.end + q.end - a.end = omega arith in
      let rest : drop a.end text ≡ here.piece ++ joined here.behind =
      ap (drop a.end) text_is ∙ drop_at (joined f.done) (here.piece ++ joined here.behind) a.end (sym f.end) in
      ap (take (a.end + q.end - a.end)) rest ∙ take_at here.piece (joined here.behind) (a.end + q.end - a.end) long

  -- ---- one row more

  -- this row is right where it is now, and after it names mean what is bound
  one_followed : (z : Analyst) (after : ChangedNames) (own : List CommandTree) (r : RustRow) → z.rows.items ≡ set Rows n r → z.end ≡ a.end + q.end
      → dialect_in z.types ≡ ItsDialect → Keeps (types_in a.types) (types_in z.types) → KeepsNumbers a.bound z.bound
      → IsPieceRow here.piece f.sight own (row_of r) (types_in z.types) z.bound ItsDialect
      → IsBoundAs (names_with own (types_in z.types) (row_of r).command f.sight.names) (types_with own (types_in z.types) (row_of r).command f.sight.types) (types_in z.types) z.bound
      → AgreeOnUnchanged b after (sight_with f.old_sight here.own ts (row_of q).command) (sight_with f.sight own (types_in z.types) (row_of r).command)
      → IsFollowedTo text (n + 1) ts b (AgreeOnUnchanged b after) z
  one_followed z after own r rows end dialect keeps numbers is_row bound related =
      let us = types_in z.types in
      let grown = rows_keep outset f.done (rows_of (take n Rows)) f.sight (types_in a.types) us a.bound z.bound ItsDialect keeps numbers f.rows in
      let more = rows_push outset f.done (rows_of (take n Rows)) f.sight here.piece own (row_of r) us z.bound ItsDialect grown is_row in
      let first : rows_of (take (n + 1) z.rows.items) ≡ rows_of (take n Rows) ++ row_of r ∷ [] =
      ap (λ rs. rows_of (take (n + 1) rs)) rows ∙ ap rows_of (take_more_set Rows n r inside) ∙ map_push row_of (take n Rows) r in
      let others : drop (n + 1) Rows ≡ drop (n + 1) z.rows.items = sym (ap (drop (n + 1)) rows ∙ drop-set-lt (n + 1) Rows n r (omega arith)) in
      let counted : q.end ≡ length here.piece = here.is_row.counted in
      record {
        ended = f.ended;
        last = f.last;
        made_up = f.made_up;
        done = f.done ++ here.piece ∷ [];
        left = here.behind;
        parts = f.parts ∙ ap (λ ps. f.done ++ ps) here.are ∙ sym (append_assoc f.done (here.piece ∷ []) here.behind);
        counted = length-append f.done (here.piece ∷ []) ∙ ap (λ m. m + 1) f.counted;
        end =
            let long = length-append (joined f.done) here.piece in
            let all : length (joined (f.done ++ here.piece ∷ [])) ≡ length (joined f.done ++ here.piece) =
            ap length (joined_append f.done (here.piece ∷ []) ∙ ap (λ bytes. joined f.done ++ bytes) (append-nil here.piece)) in
            let at = f.end in
            omega arith;
        sight = sight_with f.sight own us (row_of r).command;
        rows =
            subst (λ d. AreRows outset (f.done ++ here.piece ∷ []) (rows_of (take (n + 1) z.rows.items)) (sight_with f.sight own us (row_of r).command) us z.bound d) (sym dialect)
            (subst (λ rs. AreRows outset (f.done ++ here.piece ∷ []) rs (sight_with f.sight own us (row_of r).command) us z.bound ItsDialect) (sym first) more);
        bound = bound;
        old_sight = sight_with f.old_sight here.own ts (row_of q).command;
        old_last = f.old_last;
        old_rows =
            subst (λ d. AreRows (sight_with f.old_sight here.own ts (row_of q).command) here.behind (rows_of (drop (n + 1) z.rows.items)) f.old_last ts b d) (sym dialect)
            (subst (λ rs. AreRows (sight_with f.old_sight here.own ts (row_of q).command) here.behind (rows_of rs) f.old_last ts b ItsDialect) others here.others);
        related = related;
        old_numbers = f.old_numbers;
        keeps = keeps_trans ts (types_in a.types) us f.keeps keeps;
        numbers = numbers_trans b a.bound z.bound f.numbers numbers;
      }

  same_rows : (z : Analyst) → z.rows ≡ a.rows → z.rows.items ≡ set Rows n q
  same_rows z rows = ap (λ v. v.items) rows ∙ sym (set-get_or Rows n q) ∙ ap (set Rows n) (sym at)

  -- the row stays, with its own command
  row_stays : AgreeFor here.own f.old_sight f.sight → IsPieceRow here.piece f.sight here.own (row_of q) (types_in a.types) a.bound ItsDialect
  row_stays agree =
      row_keep here.piece f.sight here.own (row_of q) ts (types_in a.types) b a.bound ItsDialect f.keeps f.numbers
      (row_elsewhere here.piece f.old_sight f.sight here.own (row_of q) ts b ItsDialect agree here.is_row)

  -- what a name means after a row that stays is what it meant, unless it is marked
  stays_related : (us : List Typ) (c : Bound) (after : ChangedNames) (binds : Option NameNo) → Keeps ts us → IsPieceRow here.piece f.sight here.own (row_of q) us c ItsDialect
      → option_and_then (λ k. k.binds) (row_of q).command ≡ binds → IsMarked binds false changed after
      → AgreeOnUnchanged b after (sight_with f.old_sight here.own ts (row_of q).command) (sight_with f.sight here.own us (row_of q).command)
  stays_related us c after binds keeps is_row its marked =
      agree_on b changed after f.old_sight f.sight here.own ts us (row_of q).command (row_of q).command binds false ItsDialect f.old_numbers here.is_row.numbers its
      here.is_row.kept is_row.kept marked keeps (λ un. refl) f.related

  -- it has no command
  pub no_command_followed : (z : Analyst) → q.command ≡ None → z.types ≡ a.types → z.bound ≡ a.bound → z.rows ≡ a.rows → z.end ≡ a.end + q.end
      → IsFollowedTo text (n + 1) ts b (AgreeOnUnchanged b changed) z
  no_command_followed z none types bound rows end =
      let no_row : (row_of q).command ≡ None = ap (option_map command_row_of) none in
      let no_own : here.own ≡ [] = none_own b here.own (subst (AreItsNumbers b here.own) no_row here.is_row.numbers) in
      let stays = row_stays (subst (λ own. AgreeFor own f.old_sight f.sight) (sym no_own) tt) in
      let is_row =
      subst (λ t. IsPieceRow here.piece f.sight here.own (row_of q) (types_in t) z.bound ItsDialect) (sym types)
      (subst (λ c. IsPieceRow here.piece f.sight here.own (row_of q) (types_in a.types) c ItsDialect) (sym bound) stays) in
      one_followed z changed here.own q (same_rows z rows) end (ap dialect_in types)
      (subst (λ t. Keeps (types_in a.types) (types_in t)) (sym types) (keeps_same (types_in a.types)))
      (subst (KeepsNumbers a.bound) (sym bound) (numbers_same a.bound))
      is_row
      (rw (no_own, types, bound) f.bound)
      (stays_related (types_in z.types) z.bound changed None (subst (λ t. Keeps ts (types_in t)) (sym types) f.keeps) is_row
      (ap (option_and_then (λ k. k.binds)) no_row) refl)

  module _ (k : RustCommandRow) (is : q.command ≡ Some k) where
    abbrev Kept : CommandRow
    Kept = command_row_of k

    is_row_of : (row_of q).command ≡ Some Kept
    is_row_of = ap (option_map command_row_of) is

    its_binding : option_and_then (λ k. k.binds) (row_of q).command ≡ k.binds
    its_binding = ap (option_and_then (λ k. k.binds)) is_row_of

    -- what it binds is bound again
    abbrev IsBoundAgain : Bound → Type 0
    IsBoundAgain c = (t : CommandTree) → IsBinding a.bound t k.binds → IsBoundAfter t (bound_by Kept.found) a.bound c

    command_bound : (own : List CommandTree) (c : Bound) → IsKeptOf f.sight.names f.sight.types own (types_in a.types) (Some Kept) ItsDialect
        → AreItsNumbers a.bound own (Some Kept) → IsBoundAgain c
        → IsBoundAs (names_with own (types_in a.types) (Some Kept) f.sight.names) (types_with own (types_in a.types) (Some Kept) f.sight.types) (types_in a.types) c
    command_bound [] c kept are after = absurd are
    command_bound (t ∷ []) c kept are after =
        bound_as_after f.sight.names f.sight.types t (types_in a.types) (bound_by Kept.found) a.bound c f.bound (after t are.0)
    command_bound (t ∷ u ∷ own) c kept are after = absurd are

    command_stands : (own : List CommandTree) (c : Bound) → IsKeptOf f.sight.names f.sight.types own (types_in a.types) (Some Kept) ItsDialect
        → AreItsNumbers a.bound own (Some Kept) → IsBoundAgain c
        → AllStand (types_in a.types) a.bound → AllStand (types_in a.types) c
    command_stands [] c kept are after stand = absurd are
    command_stands (t ∷ []) c kept are after stand =
        stand_after t (types_in a.types) (bound_by Kept.found) a.bound c stand (after t are.0) (bound_stands (types_in a.types) Kept.found kept.stand)
    command_stands (t ∷ u ∷ own) c kept are after stand = absurd are

    -- its free names mean what they meant
    module _ (same : (name : NameNo) → Contains k.free_numbers.items name → is_changed changed name ≡ false) where
      stays : IsPieceRow here.piece f.sight here.own (row_of q) (types_in a.types) a.bound ItsDialect
      stays = row_stays (agree_asked b changed f.old_sight f.sight here.own Kept f.related (subst (AreItsNumbers b here.own) is_row_of here.is_row.numbers) same)

      kept_now : IsKeptOf f.sight.names f.sight.types here.own (types_in a.types) (Some Kept) ItsDialect
      kept_now = subst (λ o. IsKeptOf f.sight.names f.sight.types here.own (types_in a.types) o ItsDialect) is_row_of stays.kept

      numbers_now : AreItsNumbers a.bound here.own (Some Kept)
      numbers_now = subst (AreItsNumbers a.bound here.own) is_row_of stays.numbers

      pub same_followed : (z : Analyst) (after : ChangedNames) → z.types ≡ a.types → z.rows ≡ a.rows → z.end ≡ a.end + q.end
          → IsBoundAgain z.bound → KeepsNumbers a.bound z.bound
          → IsMarked k.binds false changed after → IsFollowedTo text (n + 1) ts b (AgreeOnUnchanged b after) z
      same_followed z after types rows end again numbers marked =
          let kept = row_keep here.piece f.sight here.own (row_of q) (types_in a.types) (types_in a.types) a.bound z.bound ItsDialect (keeps_same (types_in a.types)) numbers stays in
          let is_row = subst (λ t. IsPieceRow here.piece f.sight here.own (row_of q) (types_in t) z.bound ItsDialect) (sym types) kept in
          let bound = command_bound here.own z.bound kept_now numbers_now again in
          one_followed z after here.own q (same_rows z rows) end (ap dialect_in types)
          (subst (λ t. Keeps (types_in a.types) (types_in t)) (sym types) (keeps_same (types_in a.types))) numbers
          is_row
          (rw (is_row_of, types) bound)
          (stays_related (types_in z.types) z.bound after k.binds (subst (λ t. Keeps ts (types_in t)) (sym types) f.keeps) is_row its_binding marked)

      pub same_sound : (z : Analyst) → z.types ≡ a.types → IsSound a → HaveNumbers z.bound
          → IsBoundAgain z.bound → IsSound z
      same_sound z types sound numbers after = record {
        types = rw types sound.types;
        stand = rw types (command_stands here.own z.bound kept_now numbers_now after sound.stand);
        numbers = numbers;
      }

    -- the row is made anew
    pub anew_followed : (m z : Analyst) (after : ChangedNames) (v : Bool) (own : List CommandTree) (o : Option RustCommandRow) (bytes : List ℕ) → bytes ≡ slice_range text a.end (a.end + q.end)
        → ((rest : List ℕ) (tokens : List Lexeme) → ArePieceTokens 0 bytes rest tokens → HaveNoSemicolon tokens → IsOwnOf tokens own)
        → m.types ≡ a.types → m.bound ≡ a.bound → IsKeptBy own (option_map command_row_of o) m z → dialect_in z.types ≡ dialect_in m.types
        → (w : Analyst) → w.types ≡ z.types → w.bound ≡ z.bound → w.rows.items ≡ set Rows n (record q { command = o }) → w.end ≡ a.end + q.end
        → IsMarked k.binds v changed after → (v ≡ false → entry_in (option_map command_row_of o) ≡ bound_by Kept.found)
        → IsFollowedTo text (n + 1) ts b (AgreeOnUnchanged b after) w
    anew_followed m z after v own o bytes are_bytes read m_types m_bound by dialect w types bound rows end marked same =
        let r : RustRow = record q { command = o } in
        let before : IsBoundAs f.sight.names f.sight.types (types_in m.types) m.bound = rw (m_types, m_bound) f.bound in
        let whole : dialect_in z.types ≡ ItsDialect = dialect ∙ ap dialect_in m_types in
        let alone = piece_tokens here.piece here.is_row.tokens here.is_row.are in
        let is_own : IsOwnOf here.is_row.tokens own =
        read alone.0 here.is_row.tokens (subst (λ p. ArePieceTokens 0 p alone.0 here.is_row.tokens) (sym (are_bytes ∙ row_piece)) alone.1)
        here.is_row.one_piece in
        let one : here.own ≡ own = own_same here.is_row.tokens here.own own here.is_row.is_own is_own in
        let is_row : IsPieceRow here.piece f.sight own (row_of r) (types_in z.types) z.bound ItsDialect = record {
          counted = here.is_row.counted;
          is_text = here.is_row.is_text;
          tokens = here.is_row.tokens;
          are = here.is_row.are;
          one_piece = here.is_row.one_piece;
          is_own = is_own;
          syntax = here.is_row.syntax;
          kept =
              subst (λ d. IsKeptOf f.sight.names f.sight.types own (types_in z.types) (option_map command_row_of o) d) whole
              (by.kept f.sight.names f.sight.types before);
          numbers = by.its_numbers;
        } in
        let grown : Keeps (types_in a.types) (types_in z.types) = subst (λ t. Keeps (types_in t) (types_in z.types)) m_types by.keeps in
        let related =
        agree_on b changed after f.old_sight f.sight here.own ts (types_in z.types) (row_of q).command (option_map command_row_of o) k.binds v ItsDialect f.old_numbers
        here.is_row.numbers its_binding here.is_row.kept
        (subst (λ cs. IsKeptOf f.sight.names f.sight.types cs (types_in z.types) (option_map command_row_of o) ItsDialect) (sym one) is_row.kept)
        marked (keeps_trans ts (types_in a.types) (types_in z.types) f.keeps grown) (λ un. same un ∙ sym (ap entry_in is_row_of)) f.related in
        let behind : AgreeOnUnchanged b after (sight_with f.old_sight here.own ts (row_of q).command) (sight_with f.sight own (types_in z.types) (option_map command_row_of o)) =
        subst (λ cs. AgreeOnUnchanged b after (sight_with f.old_sight here.own ts (row_of q).command) (sight_with f.sight cs (types_in z.types) (option_map command_row_of o))) one related in
        one_followed w after own r rows end (ap dialect_in types ∙ whole)
        (rw types grown)
        (rw bound (subst (λ c. KeepsNumbers c z.bound) m_bound by.numbers))
        (rw (types, bound) is_row)
        (rw (types, bound) (by.bound f.sight.names f.sight.types before))
        (rw types behind)

-- ---- all rows

-- what is read twice is the same
pub one_row : (xs : List RustRow) (i : ℕ) (q p : RustRow) → i < length xs → q ≡ get_or xs i q → p ≡ get_or xs i p → q ≡ p
one_row xs i q p inside is_q is_p = is_q ∙ get_or_default xs i q p inside ∙ sym is_p

pub all_followed : (text : List ℕ) (n : ℕ) (ts : List Typ) (b : Bound) (e : Entries) (a : Analyst) → IsFollowedTo text n ts b (λ was now. IsMeantBy was ts b e) a
    → ((name : NameNo) → HasRoomFor name e → meant e name ≡ means a.bound name) → IsReadThrough [] outset text a
all_followed text n ts b e a f same =
    let us = types_in a.types in
    let d = dialect_in a.types in
    let xs = a.rows.items in
    let agree = all_agree ts us b a.bound e f.old_sight f.sight f.related f.keeps f.numbers f.bound same in
    let more = rows_elsewhere f.old_sight f.sight f.left (rows_of (drop n xs)) f.old_last ts b d agree f.old_rows in
    let grown = rows_keep f.sight f.left (rows_of (drop n xs)) more.0 ts us b a.bound d f.keeps f.numbers more.1 in
    let all = rows_join outset f.done (rows_of (take n xs)) f.sight f.left (rows_of (drop n xs)) more.0 us a.bound d f.rows grown in
    let rows : rows_of (take n xs) ++ rows_of (drop n xs) ≡ rows_of xs = sym (map-append row_of (take n xs) (drop n xs)) ∙ ap rows_of (take-append-drop n xs) in
    record {
      ended = f.ended;
      last = f.last;
      divides = f.made_up.whole;
      all_ended = f.made_up.all_ended;
      not_ended = f.made_up.not_ended;
      sight = more.0;
      rows =
          subst (λ ps. AreRows outset ps (rows_of xs) more.0 us a.bound d) (sym f.parts)
          (subst (λ rs. AreRows outset (f.done ++ f.left) rs more.0 us a.bound d) rows all);
    }

-- before the first row that is left, names that are not marked mean what they meant
pub begun_followed : (text : List ℕ) (n : ℕ) (ts : List Typ) (b : Bound) (e : Entries) (changed : ChangedNames) (a : Analyst)
    → IsFollowedTo text n ts b (λ was now. IsMeantBy was ts b e) a
    → ((name : NameNo) → is_changed changed name ≡ false → meant e name ≡ means a.bound name) → IsFollowedTo text n ts b (AgreeOnUnchanged b changed) a
begun_followed text n ts b e changed a f same = record {
  ended = f.ended;
  last = f.last;
  made_up = f.made_up;
  done = f.done;
  left = f.left;
  parts = f.parts;
  counted = f.counted;
  end = f.end;
  sight = f.sight;
  rows = f.rows;
  bound = f.bound;
  old_sight = f.old_sight;
  old_last = f.old_last;
  old_rows = f.old_rows;
  related = unchanged_agree ts (types_in a.types) b a.bound e f.old_sight f.sight f.related f.keeps f.numbers f.bound changed same;
  old_numbers = f.old_numbers;
  keeps = f.keeps;
  numbers = f.numbers;
}

none_left : (s : Sight) (pieces : List (List ℕ)) (last : Sight) (ts : List Typ) (b : Bound) (d : Dialect) → AreRows s pieces [] last ts b d → pieces ≡ []
none_left s [] last ts b d are = refl
none_left s (p ∷ pieces) last ts b d are = absurd are

-- no row is left
pub end_followed : (text : List ℕ) (n : ℕ) (ts : List Typ) (b : Bound) (R : (was now : Sight) → Type 0) (a : Analyst) → IsFollowedTo text n ts b R a → length a.rows.items ≤ n
    → IsReadThrough [] outset text a
end_followed text n ts b R a f all =
    let us = types_in a.types in
    let d = dialect_in a.types in
    let xs = a.rows.items in
    let none : f.left ≡ [] =
    none_left f.old_sight f.left f.old_last ts b d (subst (λ rs. AreRows f.old_sight f.left (rows_of rs) f.old_last ts b d) (drop_all n xs all) f.old_rows) in
    let parts : f.done ≡ f.ended ++ f.last ∷ [] = sym (append-nil f.done) ∙ ap (λ ps. f.done ++ ps) (sym none) ∙ sym f.parts in
    record {
      ended = f.ended;
      last = f.last;
      divides = f.made_up.whole;
      all_ended = f.made_up.all_ended;
      not_ended = f.made_up.not_ended;
      sight = f.sight;
      rows =
          subst (λ ps. AreRows outset ps (rows_of xs) f.sight us a.bound d) parts
          (subst (λ rs. AreRows outset f.done (rows_of rs) f.sight us a.bound d) (take_all n xs all) f.rows);
    }
