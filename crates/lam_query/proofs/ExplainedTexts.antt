-- The explained faults of a whole text.
use Rattle.std.proofs.Common.{◌≡◌, ℕ, ◌+◌, ◌<◌, ◌^◌, List, [], ◌∷◌, ◌++◌, length, map, Option, Some, None, refl, ap, sym, subst, ◌∙◌, arith}
use Rattle.std.specs.Prelude.{All, Contains, codes}
use Rattle.std.specs.List.{filter_map, cons_option, AllByRecursion}
use Rattle.std.specs.Option.{option_to_list}
use Rattle.std.specs.List.Sorted.{IsPermutation}
use Rattle.std.specs.Str.{IsUtf8}
use Rattle.std.proofs.lemmas.List.Elements.{All-from_recursion, recursion_from_All}
use Rattle.std.proofs.lemmas.List.Sorted.{All-permutation}
use Rattle.std.proofs.lemmas.Simd.{map-map}
use Rattle.lam_token.specs.declared.kind.Kind.TheVariants as kind
use Rattle.lam_token.specs.declared.span.Span.{Span}
use Rattle.lam_token.specs.Lexeme.{Lexeme, lexeme}
use Rattle.lam_rules.specs.declared.rules.Dialect.{Dialect}
use Rattle.lam_syntax.specs.Answers.{pieces_of}
use Rattle.lam_syntax.specs.Trees.{CommandTree}
use Rattle.lam_scope.proofs.EveryElement.{every_append}
use Rattle.lam_query.specs.declared.analyses.Analysis.{Analysis}
use Rattle.lam_query.specs.declared.answers.ExplainedFault.{ExplainedFault as RustExplainedFault}
use Rattle.lam_query.specs.declared.answers.Fault.{Fault as RustFault}
use Rattle.lam_query.specs.Analyses.{IsAnalysisOf}
use Rattle.lam_query.specs.Commands.{AreCommandsOfText}
use Rattle.lam_query.specs.Faults.{Fault, AreInOrder}
use Rattle.lam_query.specs.Mismatches.{ExplainedFault, codes_of_no_term, IsExplained, of_no_term, AreExplained}
use Rattle.lam_query.specs.SyntaxFaults.{fault_at, fault_of_token, PieceFault, too_long, spoiled, a_command, goes_wrong, ends_early, PieceFaults, AreSyntaxFaults}
use Rattle.lam_query.specs.TextFaults.{AreFaults}
use Rattle.lam_query.specs.Views.{fault_of, explained_of}
use Rattle.lam_query.specs.Within.{IsSpanOfText}
use Rattle.lam_query.specs.inner.Explained.{unexplained, AreAdded}
use Rattle.lam_query.specs.inner.Kept.{all_syntax, all_faults, fault_after, AllFit}
use Rattle.lam_query.proofs.AnalysisAnswers.{rows_in, text_spelled, large_faults, small_faults}
use Rattle.lam_query.proofs.ExplainedByPiece.{faults_untold, faults_joined}
use Rattle.lam_query.proofs.FaultPlaces.{faults_stand}
use Rattle.lam_query.proofs.RowsInText.{AreInText, in_text}
use Rattle.lam_query.proofs.SpansInText.{all_syntax_fit}
use Rattle.lam_query.proofs.SpelledRows.{IsAllSpelled}

-- ---- faults of no term

abbrev HasNoTerm : Fault → Type 0
HasNoTerm f = Contains codes_of_no_term f.code

abbrev HaveNoTerm : List Fault → Type 0
HaveNoTerm = AllByRecursion HasNoTerm

token_has : (t : Lexeme) → HaveNoTerm (option_to_list (fault_of_token t))
token_has (lexeme kind.BadCharacter x s) = ((0, omega arith, refl), tt)
token_has (lexeme kind.BadComment x s) = ((1, omega arith, refl), tt)
token_has t = tt

consed : (o : Option Fault) (fs : List Fault) → HaveNoTerm (option_to_list o) → HaveNoTerm fs → HaveNoTerm (cons_option o fs)
consed None fs one all = all
consed (Some f) fs one all = (one.0, all)

tokens_have : (ts : List Lexeme) → HaveNoTerm (filter_map fault_of_token ts)
tokens_have [] = tt
tokens_have (t ∷ ts) = consed (fault_of_token t) (filter_map fault_of_token ts) (token_has t) (tokens_have ts)

piece_has : (ts : List Lexeme) (one : Option Fault) → PieceFault ts one → HaveNoTerm (option_to_list one)
piece_has ts _ (too_long over first last) = ((3, omega arith, refl), tt)
piece_has ts _ (spoiled few bad) = tt
piece_has ts _ (a_command taken spells) = tt
piece_has ts _ (goes_wrong taken wrong at) = ((4, omega arith, refl), tt)
piece_has ts _ (ends_early taken early at) = ((5, omega arith, refl), tt)

pieces_have : (ps : List (List Lexeme)) (fs : List Fault) → PieceFaults ps fs → HaveNoTerm fs
pieces_have [] fs are = subst HaveNoTerm (sym are) tt
pieces_have (p ∷ ps) fs are =
    subst HaveNoTerm (sym are.4) (every_append HasNoTerm (option_to_list are.0) are.1 (piece_has p are.0 are.2) (pieces_have ps are.1 are.3))

syntax_has : (tokens : List Lexeme) (fs : List Fault) → AreSyntaxFaults tokens fs → HaveNoTerm fs
syntax_has tokens fs are =
    subst HaveNoTerm (sym are.all) (every_append HasNoTerm (filter_map fault_of_token tokens) are.of_pieces (tokens_have tokens) (pieces_have (pieces_of tokens) are.of_pieces are.pieces))

untold : (commands : List CommandTree) (d : Dialect) (fs : List Fault) → HaveNoTerm fs → AllByRecursion (IsExplained commands d) (map unexplained fs)
untold commands d [] have = tt
untold commands d (f ∷ fs) have = (of_no_term have.0 refl, untold commands d fs have.1)

-- ---- no byte further on

unmoved : (f : Fault) → fault_after 0 f ≡ f
unmoved f =
    let start : f.span.start + 0 ≡ f.span.start = omega arith in
    let end : f.span.end + 0 ≡ f.span.end = omega arith in
    λ i. record { code = f.code; span = record { start = start i; end = end i } }

pub all_unmoved : (fs : List RustFault) → map (λ f. fault_after 0 (fault_of f)) fs ≡ map fault_of fs
all_unmoved [] = refl
all_unmoved (f ∷ fs) = let first = unmoved (fault_of f) in let rest = all_unmoved fs in λ i. first i ∷ rest i

-- ---- all

module _ (text : List ℕ) (a : Analysis) (h : IsAnalysisOf text a) where
  there : AreInText text a
  there = in_text text a h

  spelled : IsAllSpelled text there.front.commands (rows_in a)
  spelled = text_spelled text a h there

  abbrev Commands : List CommandTree
  Commands = there.front.commands

  of_text : AreCommandsOfText text Commands
  of_text = record { tokens = spelled.tokens; are_tokens = spelled.are_tokens; are_commands = spelled.are_commands }

  pub told_fit : length text < 2 ^ 64 → AllFit (map (λ f. fault_after 0 (fault_of f)) a.row_faults.syntax.items)
  told_fit short =
      subst AllFit (sym (all_unmoved a.row_faults.syntax.items ∙ h.syntax))
      (all_syntax_fit text a short h)

  of_syntax : AllByRecursion (IsExplained Commands a.dialect) (map unexplained (all_syntax (rows_in a)))
  of_syntax =
      let first = All-from_recursion HasNoTerm spelled.of_syntax (syntax_has spelled.tokens spelled.of_syntax spelled.are_of_syntax) in
      untold Commands a.dialect (all_syntax (rows_in a))
      (recursion_from_All HasNoTerm (all_syntax (rows_in a)) (All-permutation HasNoTerm spelled.of_syntax (all_syntax (rows_in a)) spelled.same first))

  explained : (found ordered : List ExplainedFault) → AreFaults text (map (λ e. e.fault) ordered) a.dialect → IsPermutation found ordered
      → AllByRecursion (IsExplained Commands a.dialect) found → AreExplained text ordered a.dialect
  explained found ordered faults same each = record {
    are_faults = faults;
    commands = Commands;
    are_commands = of_text;
    each = All-permutation (IsExplained Commands a.dialect) found ordered same (All-from_recursion (IsExplained Commands a.dialect) found each);
  }

  -- a type is too large
  pub large_explained : (s : Span) (found ordered : List ExplainedFault) → a.row_faults.large ≡ Some s
      → found ≡ map unexplained (map (λ f. fault_after 0 (fault_of f)) a.row_faults.syntax.items) ++ unexplained (fault_at (codes "L1") s) ∷ []
      → IsPermutation found ordered → AreInOrder (map (λ e. e.fault) found) (map (λ e. e.fault) ordered) → AreExplained text ordered a.dialect
  large_explained s found ordered large joined same order =
      let last = unexplained (fault_at (codes "L1") s) ∷ [] in
      let all : found ≡ map unexplained (all_syntax (rows_in a)) ++ last =
      joined ∙ ap (λ fs. map unexplained fs ++ last) (all_unmoved a.row_faults.syntax.items ∙ h.syntax) in
      let told : map (λ e. e.fault) found ≡ all_syntax (rows_in a) ++ fault_at (codes "L1") s ∷ [] =
      ap (map (λ e. e.fault)) all ∙ faults_joined (map unexplained (all_syntax (rows_in a))) last
      ∙ ap (λ fs. fs ++ fault_at (codes "L1") s ∷ []) (faults_untold (all_syntax (rows_in a))) in
      explained found ordered (large_faults text a s (map (λ e. e.fault) found) (map (λ e. e.fault) ordered) h large told order) same
      (subst (AllByRecursion (IsExplained Commands a.dialect)) (sym all)
      (every_append (IsExplained Commands a.dialect) (map unexplained (all_syntax (rows_in a))) last of_syntax (of_no_term (2, omega arith, refl) refl, tt)))

  -- none is
  pub small_explained : (mid found ordered : List ExplainedFault) → a.row_faults.large ≡ None
      → mid ≡ map unexplained (map (λ f. fault_after 0 (fault_of f)) a.row_faults.syntax.items)
      → ((commands : List CommandTree) → AreCommandsOfText text commands → AreAdded commands (all_faults (rows_in a)) mid found a.dialect)
      → IsPermutation found ordered → AreInOrder (map (λ e. e.fault) found) (map (λ e. e.fault) ordered) → AreExplained text ordered a.dialect
  small_explained mid found ordered none joined more same order =
      let added = more Commands of_text in
      let first : mid ≡ map unexplained (all_syntax (rows_in a)) = joined ∙ ap (map unexplained) (all_unmoved a.row_faults.syntax.items ∙ h.syntax) in
      let all : found ≡ map unexplained (all_syntax (rows_in a)) ++ added.added = added.are ∙ ap (λ es. es ++ added.added) first in
      let told : map (λ e. e.fault) found ≡ all_syntax (rows_in a) ++ all_faults (rows_in a) =
      ap (map (λ e. e.fault)) all ∙ faults_joined (map unexplained (all_syntax (rows_in a))) added.added
      ∙ (λ i. faults_untold (all_syntax (rows_in a)) i ++ added.same i) in
      explained found ordered (small_faults text a (map (λ e. e.fault) found) (map (λ e. e.fault) ordered) h none told order) same
      (subst (AllByRecursion (IsExplained Commands a.dialect)) (sym all)
      (every_append (IsExplained Commands a.dialect) (map unexplained (all_syntax (rows_in a))) added.added of_syntax
      (recursion_from_All (IsExplained Commands a.dialect) added.added added.each)))

-- ---- as the code has them

pub order_seen : (old now : List RustExplainedFault) → AreInOrder (map (λ (e : RustExplainedFault). fault_of e.fault) old) (map (λ (e : RustExplainedFault). fault_of e.fault) now)
    → AreInOrder (map (λ e. e.fault) (map explained_of old)) (map (λ e. e.fault) (map explained_of now))
order_seen old now order =
    subst (λ fs. AreInOrder fs (map (λ e. e.fault) (map explained_of now))) (sym (map-map (λ e. e.fault) explained_of old))
    (subst (AreInOrder (map (λ (e : RustExplainedFault). fault_of e.fault) old)) (sym (map-map (λ e. e.fault) explained_of now)) order)

-- they begin and end between characters
pub explained_stand : (text : List ℕ) (all : List RustExplainedFault) (d : Dialect) → IsUtf8 text → AreExplained text (map explained_of all) d
    → All (λ (e : RustExplainedFault). IsSpanOfText text e.fault.span) all
explained_stand text all d is_text are =
    let faults = map (λ (e : RustExplainedFault). e.fault) all in
    let seen : map fault_of faults ≡ map (λ e. e.fault) (map explained_of all) =
    map-map fault_of (λ (e : RustExplainedFault). e.fault) all ∙ sym (map-map (λ e. e.fault) explained_of all) in
    let stand = faults_stand text faults d is_text (subst (λ fs. AreFaults text fs d) (sym seen) are.are_faults) in
    All-from_recursion (λ (e : RustExplainedFault). IsSpanOfText text e.fault.span) all
    (each all (recursion_from_All (λ (f : RustFault). IsSpanOfText text f.span) faults stand))
  where
    each : (es : List RustExplainedFault) → AllByRecursion (λ (f : RustFault). IsSpanOfText text f.span) (map (λ (e : RustExplainedFault). e.fault) es)
        → AllByRecursion (λ (e : RustExplainedFault). IsSpanOfText text e.fault.span) es
    each [] stand = tt
    each (e ∷ es) stand = (stand.0, each es stand.1)
