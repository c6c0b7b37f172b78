-- What is shown of an offset is what its piece shows by itself, with the types that were found of all terms.
use Rattle.std.proofs.Common.{◌≡◌, ℕ, ◌+◌, List, [], ◌∷◌, ◌++◌, length, Option, Some, None, sym, ap, subst, ◌∙◌}
use Rattle.std.specs.Option.{option_map}
use Rattle.lam_rules.specs.Types.{Typ}
use Rattle.lam_rules.specs.declared.rules.Dialect.{Dialect}
use Rattle.lam_token.specs.Lexeme.{Lexeme}
use Rattle.lam_syntax.specs.Trees.{CommandTree}
use Rattle.lam_scope.specs.PlacedTerms.{term_of, command_terms, document_terms, tree_in}
use Rattle.lam_scope.specs.Tables.{table, place_at, place_row_numbered}
use Rattle.lam_typing.specs.Analysis.{AreLeast}
use Rattle.lam_query.specs.Commands.{AreCommandsOfText}
use Rattle.lam_query.specs.Hovers.{has_byte, innermost_at, Shown, IsHover, IsShownIn}
use Rattle.lam_query.specs.Sizes.{IsSmall, places_in}
use Rattle.lam_query.specs.inner.Checked.{abbreviations_behind, names_behind, scope_behind}
use Rattle.lam_query.specs.inner.OnePiece.{one_command, no_command, IsPieceOf, IsOffsetIn, IsShownByPiece, by_no_command, by_command, by_no_term, by_no_type, by_type}
use Rattle.lam_query.proofs.Hovering.{typed_there, untyped_there, nothing_around}
use Rattle.lam_query.proofs.PieceInDocument.{place_between, innermost_between, none_between}
use Rattle.lam_query.proofs.PieceOfText.{commands_of_piece}
use Rattle.lam_query.proofs.RowsAndTerms.{innermost_row, found_at}
use Rattle.lam_query.proofs.TermsAlone.{command_place, command_row}

-- ---- commands between others that have no place there

module _ (before after : List CommandTree) (c : CommandTree) (o : ℕ)
    (none_before : place_at (table before) o ≡ None) (none_after : place_at (table after) o ≡ None) where
  abbrev Whole : List CommandTree
  Whole = before ++ c ∷ after

  there : (n : ℕ) → place_at (table (c ∷ [])) o ≡ Some n → place_at (table Whole) o ≡ Some (length (document_terms before) + n)
  there n at = place_between before o none_before c after none_after ∙ ap (option_map (λ m. length (document_terms before) + m)) at

  -- the span of the term is that in the command's own table
  own_span : (n : ℕ) → place_at (table (c ∷ [])) o ≡ Some n
      → (place_row_numbered (table (c ∷ [])) n).span ≡ (term_of (tree_in (document_terms Whole) (length (document_terms before) + n))).span
  own_span n at =
      let bs = abbreviations_behind before in
      let xs = names_behind before in
      let s = scope_behind before in
      let own = command_terms bs xs s c in
      let m = length (document_terms before) + n in
      let one : innermost_at o own ≡ Some (tree_in own n) =
      found_at (λ t. has_byte o (term_of t)) own n (tree_in [] 0) (sym (command_place bs xs s c o) ∙ at) in
      let both : Some (tree_in own n) ≡ Some (tree_in (document_terms Whole) m) =
      sym one ∙ sym (innermost_between before o none_before c after none_after) ∙ innermost_row Whole o m (there n at) in
      let same : tree_in own n ≡ tree_in (document_terms Whole) m = cc in
      command_row bs xs s c n ∙ ap (λ t. (term_of t).span) same

-- ---- what is shown

hover_by_piece : (whole ahead piece rest : List ℕ) (tokens : List Lexeme) (commands before : List CommandTree)
    (found : List (Option Typ)) (o : ℕ) (shown : Option Shown) (d : Dialect)
    → IsPieceOf whole ahead piece rest tokens → AreCommandsOfText whole commands → AreCommandsOfText ahead before
    → IsOffsetIn o ahead piece rest
    → IsSmall commands d → AreLeast (places_in commands) found d
    → IsShownByPiece tokens (length (document_terms before)) found o shown → IsHover commands o shown d
hover_by_piece whole ahead piece rest tokens commands before found o _ d is are are_before inside small least
    (by_no_command none) =
    let around = commands_of_piece whole ahead piece rest tokens commands before [] o is are are_before (no_command none) inside in
    subst (λ cs. IsHover cs o None d) (sym around.1)
    (nothing_around (before ++ around.0) o d (none_between before o around.2 around.0 around.3))
hover_by_piece whole ahead piece rest tokens commands before found o _ d is are are_before inside small least
    (by_command {c = c} command (by_no_term none)) =
    let own = one_command command in
    let around = commands_of_piece whole ahead piece rest tokens commands before (c ∷ []) o is are are_before own inside in
    subst (λ cs. IsHover cs o None d) (sym around.1)
    (nothing_around (before ++ c ∷ around.0) o d
    (place_between before o around.2 c around.0 around.3 ∙ ap (option_map (λ m. length (document_terms before) + m)) none))
hover_by_piece whole ahead piece rest tokens commands before found o _ d is are are_before inside small least
    (by_command {c = c} command (by_no_type {n = n} at none)) =
    let own = one_command command in
    let around = commands_of_piece whole ahead piece rest tokens commands before (c ∷ []) o is are are_before own inside in
    untyped_there commands found o (length (document_terms before) + n) d least
    (ap (λ cs. place_at (table cs) o) around.1 ∙ there before around.0 c o around.2 around.3 n at) none
hover_by_piece whole ahead piece rest tokens commands before found o _ d is are are_before inside small least
    (by_command {c = c} command (by_type {n = n} {type = type} {shown = shown} at is_type is_text is_span)) =
    let own = one_command command in
    let around = commands_of_piece whole ahead piece rest tokens commands before (c ∷ []) o is are are_before own inside in
    let m = length (document_terms before) + n in (
      tree_in (document_terms commands) m,
      type,
      typed_there commands found o m type d small least
          (ap (λ cs. place_at (table cs) o) around.1 ∙ there before around.0 c o around.2 around.3 n at) is_type,
      is_text,
      is_span ∙ own_span before around.0 c o around.2 around.3 n at
          ∙ ap (λ cs. (term_of (tree_in (document_terms cs) m)).span) (sym around.1),
    )

pub shown_by_piece : (whole ahead piece rest : List ℕ) (tokens : List Lexeme) (commands before : List CommandTree)
    (found : List (Option Typ)) (o : ℕ) (shown : Option Shown) (d : Dialect)
    → IsPieceOf whole ahead piece rest tokens → AreCommandsOfText whole commands → AreCommandsOfText ahead before
    → IsOffsetIn o ahead piece rest
    → IsSmall commands d → AreLeast (places_in commands) found d
    → IsShownByPiece tokens (length (document_terms before)) found o shown → IsShownIn whole o shown d
shown_by_piece whole ahead piece rest tokens commands before found o shown d is are are_before inside small least by_piece = record {
  commands = commands;
  are_commands = are;
  answer = hover_by_piece whole ahead piece rest tokens commands before found o shown d is are are_before inside small least by_piece;
}
