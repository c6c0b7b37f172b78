-- Answers about a text, from the rows of its analysis.
use Rattle.std.proofs.Common.{◌≡◌, ℕ, List, [], ◌∷◌, ◌++◌, Some, None, sym, subst, ◌∙◌}
use Rattle.std.specs.Prelude.{codes}
use Rattle.std.specs.List.Sorted.{IsPermutation}
use Rattle.std.proofs.lemmas.List.Sorted.{IsPermutation-refl, IsPermutation-append, IsPermutation-trans}
use Rattle.lam_token.specs.declared.span.Span.{Span}
use Rattle.lam_token.specs.Lexeme.{Lexeme}
use Rattle.lam_token.specs.Cut.{AreTokensOf}
use Rattle.lam_token.proofs.Cuts.{one_list}
use Rattle.lam_syntax.specs.Trees.{CommandTree}
use Rattle.lam_syntax.specs.Answers.{pieces_of}
use Rattle.lam_typing.specs.Checking.{types_in}
use Rattle.lam_query.specs.declared.analyses.Analysis.{Analysis}
use Rattle.lam_query.specs.Analyses.{IsAnalysisOf}
use Rattle.lam_query.specs.Commands.{AreCommandsOf}
use Rattle.lam_query.specs.Completions.{Item, AreItems, AreCompletions}
use Rattle.lam_query.specs.Faults.{Fault, AreInOrder}
use Rattle.lam_query.specs.SyntaxFaults.{fault_at}
use Rattle.lam_query.specs.TextFaults.{AreTypeFaults, too_large, AreFaults}
use Rattle.lam_query.specs.inner.Kept.{Row, rows_of, placed, all_syntax, all_faults}
use Rattle.lam_query.specs.inner.Rows.{IsSizedBy}
use Rattle.lam_query.proofs.KnownRows.{known_through, size_told, sized, type_faults_told}
use Rattle.lam_query.proofs.OneAnswer.{one_commands}
use Rattle.lam_query.proofs.RowsInText.{AreInText, in_text}
use Rattle.lam_query.proofs.SpelledRows.{IsAllSpelled, whole_spelled}

-- the rows of an analysis, where they are in its text
abbrev pub rows_in : Analysis → List Row
rows_in a = placed 0 (rows_of a.rows.items)

-- the text's tokens and commands
pub text_spelled : (text : List ℕ) (a : Analysis) → IsAnalysisOf text a → (there : AreInText text a) → IsAllSpelled text there.front.commands (rows_in a)
text_spelled text a h there = whole_spelled text (rows_in a) there.front (types_in a.types) a.dialect h.is_text there.rows there.whole

-- ---- faults

-- the faults that tokens and the grammar decide, and behind them those that types decide
text_faults : (text : List ℕ) (a : Analysis) (of_types : List Fault) (of_rows found ordered : List Fault) → IsAnalysisOf text a → (there : AreInText text a)
    → AreTypeFaults there.front.commands of_types a.dialect → IsPermutation of_types of_rows → found ≡ all_syntax (rows_in a) ++ of_rows
    → AreInOrder found ordered → AreFaults text ordered a.dialect
text_faults text a of_types of_rows found ordered h there types same joined order =
    let spelled = text_spelled text a h there in
    let both : IsPermutation (spelled.of_syntax ++ of_types) (all_syntax (rows_in a) ++ of_rows) =
    IsPermutation-append spelled.of_syntax (all_syntax (rows_in a)) of_types of_rows spelled.same same in
    record {
      tokens = spelled.tokens;
      are_tokens = spelled.are_tokens;
      commands = there.front.commands;
      are_commands = spelled.are_commands;
      of_syntax = spelled.of_syntax;
      are_of_syntax = spelled.are_of_syntax;
      of_types = of_types;
      are_of_types = types;
      in_order = record {
        same = IsPermutation-trans (spelled.of_syntax ++ of_types) found ordered (subst (IsPermutation (spelled.of_syntax ++ of_types)) (sym joined) both) order.same;
        sorted = order.sorted;
      };
    }

-- a type is too large
pub large_faults : (text : List ℕ) (a : Analysis) (s : Span) (found ordered : List Fault) → IsAnalysisOf text a → a.row_faults.large ≡ Some s
    → found ≡ all_syntax (rows_in a) ++ fault_at (codes "L1") s ∷ [] → AreInOrder found ordered → AreFaults text ordered a.dialect
large_faults text a s found ordered h large joined order =
    let there = in_text text a h in
    let of_types = fault_at (codes "L1") s ∷ [] in
    text_faults text a of_types of_types found ordered h there
    (too_large (size_told text (rows_in a) there.front (types_in a.types) a.dialect s there.rows (sym h.large ∙ large)))
    (IsPermutation-refl of_types) joined order

-- none is
pub small_faults : (text : List ℕ) (a : Analysis) (found ordered : List Fault) → IsAnalysisOf text a → a.row_faults.large ≡ None
    → found ≡ all_syntax (rows_in a) ++ all_faults (rows_in a) → AreInOrder found ordered → AreFaults text ordered a.dialect
small_faults text a found ordered h none joined order =
    let there = in_text text a h in
    let known = known_through text (rows_in a) there.front (types_in a.types) a.dialect there.rows (sym h.large ∙ none) in
    let told = type_faults_told there.front (rows_in a) (types_in a.types) a.dialect known in
    text_faults text a told.0 (all_faults (rows_in a)) found ordered h there told.1 told.2 joined order

-- ---- completions

-- what is listed among the text's tokens and commands
pub text_items : (text : List ℕ) (a : Analysis) (o : ℕ) (items : List Item) → IsAnalysisOf text a
    → ((tokens : List Lexeme) (commands : List CommandTree) → AreTokensOf text tokens → AreCommandsOf (pieces_of tokens) commands
    → AreItems commands tokens o items a.dialect)
    → AreCompletions text o items a.dialect
text_items text a o items h listed =
    let there = in_text text a h in
    let spelled = text_spelled text a h there in
    record {
      tokens = spelled.tokens;
      are_tokens = spelled.are_tokens;
      commands = there.front.commands;
      are_commands = spelled.are_commands;
      listed = listed spelled.tokens there.front.commands spelled.are_tokens spelled.are_commands;
    }

-- the type that is too large is too large in the commands of the text's tokens
pub sizes_hold : (text : List ℕ) (a : Analysis) (tokens : List Lexeme) (commands : List CommandTree) → IsAnalysisOf text a
    → AreTokensOf text tokens → AreCommandsOf (pieces_of tokens) commands → IsSizedBy commands a.row_faults.large a.dialect
sizes_hold text a tokens commands h are are_commands =
    let there = in_text text a h in
    let spelled = text_spelled text a h there in
    let same_tokens = one_list text tokens spelled.tokens are spelled.are_tokens in
    let here = subst (λ ts. AreCommandsOf (pieces_of ts) there.front.commands) same_tokens spelled.are_commands in
    let same = one_commands (pieces_of tokens) there.front.commands commands here are_commands in
    subst (λ cs. IsSizedBy cs a.row_faults.large a.dialect) same
    (subst (λ large. IsSizedBy there.front.commands large a.dialect) (sym h.large)
    (sized text (rows_in a) there.front (types_in a.types) a.dialect there.rows))
