-- The innermost term at a byte of one piece is that of the piece's own command; the terms before it are added to its number there.
use Rattle.std.proofs.Common.{◌≡◌, ℕ, ◌+◌, Bool, true, false, cond, List, [], ◌∷◌, ◌++◌, length, Option, Some, None, refl, ap, sym, ◌∙◌, arith}
use Rattle.std.specs.List.{find, position, position_from}
use Rattle.std.specs.Option.{option_map, option_or}
use Rattle.std.proofs.lemmas.Iterator.Adapters.{position_from-zero}
use Rattle.std.proofs.lemmas.List.{length-append}
use Rattle.std.proofs.lemmas.List.Folds.{find-append}
use Rattle.lam_syntax.specs.Trees.{CommandTree}
use Rattle.lam_scope.specs.Names.{Name}
use Rattle.lam_scope.specs.Expansions.{Abbreviation}
use Rattle.lam_scope.specs.Nameless.{abbreviations_after, names_after}
use Rattle.lam_scope.specs.Places.{Scope}
use Rattle.lam_scope.specs.PlacedTerms.{PlacedTree, term_of, command_terms, scope_after, commands_terms, document_terms}
use Rattle.lam_scope.specs.Tables.{table, place_at}
use Rattle.lam_query.specs.Hovers.{has_byte, innermost_at}
use Rattle.lam_query.specs.inner.Checked.{abbreviations_behind, names_behind, scope_behind}
use Rattle.lam_query.proofs.CheckedLists.{terms_append, terms_push, first_or_none}
use Rattle.lam_query.proofs.RowsAndTerms.{found_nowhere}
use Rattle.lam_query.proofs.TermsAlone.{number_at, place_alone, command_place, command_size}

-- ---- the first that passes, in lists one behind the other

module _ {A : Type 0} (f : A → Bool) where
  steps_on : (k n : ℕ) (xs : List A) → position_from f (k + n) xs ≡ option_map (λ m. k + m) (position_from f n xs)
  steps_on k n [] = refl
  steps_on k n (x ∷ xs) = by (ap (λ m. position_from f m xs) (omega arith) ∙ steps_on k (n + 1) xs) (f x)
    where
      by : position_from f (k + n + 1) xs ≡ option_map (λ m. k + m) (position_from f (n + 1) xs) → (b : Bool)
          → cond b (Some (k + n)) (position_from f (k + n + 1) xs) ≡ option_map (λ m. k + m) (cond b (Some n) (position_from f (n + 1) xs))
      by rest true = refl
      by rest false = rest

  none_first : (n : ℕ) (xs ys : List A) → position_from f n xs ≡ None → position_from f n (xs ++ ys) ≡ position_from f (n + length xs) ys
  none_first n [] ys none = ap (λ m. position_from f m ys) (omega arith)
  none_first n (x ∷ xs) ys none = by (none_first (n + 1) xs ys) (f x) none
    where
      by : (position_from f (n + 1) xs ≡ None → position_from f (n + 1) (xs ++ ys) ≡ position_from f (n + 1 + length xs) ys) → (b : Bool)
          → cond b (Some n) (position_from f (n + 1) xs) ≡ None
          → cond b (Some n) (position_from f (n + 1) (xs ++ ys)) ≡ position_from f (n + length (x ∷ xs)) ys
      by rest true none = absurd cc
      by rest false none = rest none ∙ ap (λ m. position_from f m ys) (omega arith)

  none_last : (n : ℕ) (xs ys : List A) → ((m : ℕ) → position_from f m ys ≡ None) → position_from f n (xs ++ ys) ≡ position_from f n xs
  none_last n [] ys none = none n
  none_last n (x ∷ xs) ys none = ap (cond (f x) (Some n)) (none_last (n + 1) xs ys none)

  pub position_behind : (xs ys : List A) → position f xs ≡ None → position f (xs ++ ys) ≡ option_map (λ n. length xs + n) (position f ys)
  position_behind xs ys none =
      position_from-zero f (xs ++ ys)
      ∙ none_first 0 xs ys (sym (position_from-zero f xs) ∙ none)
      ∙ ap (λ m. position_from f m ys) (omega arith)
      ∙ steps_on (length xs) 0 ys
      ∙ ap (option_map (λ n. length xs + n)) (sym (position_from-zero f ys))

  pub position_in_front : (xs ys : List A) → position f ys ≡ None → position f (xs ++ ys) ≡ position f xs
  position_in_front xs ys none =
      position_from-zero f (xs ++ ys)
      ∙ none_last 0 xs ys (λ m. ap (λ k. position_from f k ys) (omega arith) ∙ steps_on m 0 ys ∙ ap (option_map (λ n. m + n)) nowhere)
      ∙ sym (position_from-zero f xs)
    where
      nowhere : position_from f 0 ys ≡ None
      nowhere = sym (position_from-zero f ys) ∙ none

-- ---- how many terms there are with one command more

pub terms_counted_push : (done : List CommandTree) (c : CommandTree)
    → length (document_terms (done ++ c ∷ [])) ≡ length (document_terms done) + length (table (c ∷ [])).places
terms_counted_push done c =
    ap length (terms_push done c)
    ∙ length-append (document_terms done) (command_terms (abbreviations_behind done) (names_behind done) (scope_behind done) c)
    ∙ ap (λ n. length (document_terms done) + n) (command_size (abbreviations_behind done) (names_behind done) (scope_behind done) c)

-- ---- where the commands before have no place

module _ (before : List CommandTree) (o : ℕ) (none_before : place_at (table before) o ≡ None) where
  abbrev Types : List Abbreviation
  Types = abbreviations_behind before

  abbrev Names : List (Option Name)
  Names = names_behind before

  abbrev Seen : Scope
  Seen = scope_behind before

  -- the number of a term behind theirs, by its number among those behind
  abbrev Further : ℕ → ℕ
  Further n = length (document_terms before) + n

  none_there : number_at o (document_terms before) ≡ None
  none_there = sym (place_alone [] [] [] before o) ∙ none_before

  pub number_behind : (more : List CommandTree)
      → number_at o (document_terms (before ++ more)) ≡ option_map Further (number_at o (commands_terms Types Names Seen more))
  number_behind more =
      ap (number_at o) (terms_append before more)
      ∙ position_behind (λ t. has_byte o (term_of t)) (document_terms before) (commands_terms Types Names Seen more) none_there

  innermost_behind : (more : List CommandTree)
      → innermost_at o (document_terms (before ++ more)) ≡ innermost_at o (commands_terms Types Names Seen more)
  innermost_behind more =
      let f : PlacedTree → Bool = λ t. has_byte o (term_of t) in
      ap (innermost_at o) (terms_append before more)
      ∙ find-append f (document_terms before) (commands_terms Types Names Seen more)
      ∙ ap (λ p. option_or p (find f (commands_terms Types Names Seen more))) (found_nowhere f (document_terms before) none_there)

  -- if the others have none either, there is none
  pub number_nowhere : (after : List CommandTree) → place_at (table after) o ≡ None → number_at o (document_terms (before ++ after)) ≡ None
  number_nowhere after none =
      number_behind after ∙ ap (option_map Further) (sym (place_alone Types Names Seen after o) ∙ none)

  pub none_between : (after : List CommandTree) → place_at (table after) o ≡ None → place_at (table (before ++ after)) o ≡ None
  none_between after none = place_alone [] [] [] (before ++ after) o ∙ number_nowhere after none

  module _ (c : CommandTree) (after : List CommandTree) (none_after : place_at (table after) o ≡ None) where
    abbrev Own : List PlacedTree
    Own = command_terms Types Names Seen c

    abbrev Others : List PlacedTree
    Others = commands_terms (abbreviations_after Types c) (names_after Names c) (scope_after Types Names Seen c) after

    none_in_others : number_at o Others ≡ None
    none_in_others =
        sym (place_alone (abbreviations_after Types c) (names_after Names c) (scope_after Types Names Seen c) after o) ∙ none_after

    -- if only the command between has one, it is that one
    pub number_between : number_at o (document_terms (before ++ c ∷ after)) ≡ option_map Further (number_at o Own)
    number_between =
        number_behind (c ∷ after)
        ∙ ap (option_map Further) (position_in_front (λ t. has_byte o (term_of t)) Own Others none_in_others)

    pub innermost_between : innermost_at o (document_terms (before ++ c ∷ after)) ≡ innermost_at o Own
    innermost_between =
        let f : PlacedTree → Bool = λ t. has_byte o (term_of t) in
        innermost_behind (c ∷ after)
        ∙ find-append f Own Others
        ∙ ap (option_or (find f Own)) (found_nowhere f Others none_in_others)
        ∙ first_or_none (find f Own)

    -- the place of the offset in the command's own table, further on by the number of the terms before
    pub place_between : place_at (table (before ++ c ∷ after)) o ≡ option_map Further (place_at (table (c ∷ [])) o)
    place_between =
        place_alone [] [] [] (before ++ c ∷ after) o
        ∙ number_between
        ∙ ap (option_map Further) (sym (command_place Types Names Seen c o))
