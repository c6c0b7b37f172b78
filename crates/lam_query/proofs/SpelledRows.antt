-- The tokens up to a front spell its commands, and their faults of syntax are those of the rows.
use Rattle.std.proofs.Common.{◌≡◌, ◌⊎◌, ℕ, true, List, [], ◌∷◌, ◌++◌, append-nil, append_assoc, length, take, take_all, arith, drop, slice_range, refl, sym, ap, subst, ◌∙◌}
use Rattle.std.specs.List.{filter_map, cons_option}
use Rattle.std.specs.List.Sorted.{IsPermutation}
use Rattle.std.specs.Str.{IsUtf8}
use Rattle.std.proofs.lemmas.Grind.{flat_map-append}
use Rattle.std.proofs.lemmas.List.Elements.{filter_map-append}
use Rattle.std.proofs.lemmas.List.Sorted.{IsPermutation-refl, IsPermutation-trans, IsPermutation-append_left, IsPermutation-append_right, IsPermutation-append_comm}
use Rattle.lam_token.specs.Lexeme.{Lexeme}
use Rattle.lam_token.specs.Cut.{AreTokensFrom, AreTokensOf}
use Rattle.lam_token.specs.Divided.{EndsInSemicolon}
use Rattle.lam_token.proofs.Cuts.{one_list}
use Rattle.lam_rules.specs.Types.{Typ}
use Rattle.lam_rules.specs.declared.rules.Dialect.{Dialect}
use Rattle.lam_syntax.specs.Trees.{CommandTree}
use Rattle.lam_syntax.specs.Answers.{ends_piece, is_semicolon, pieces_of}
use Rattle.lam_syntax.specs.inner.Reads.{with_piece}
use Rattle.lam_query.specs.Commands.{AreCommandsOf}
use Rattle.lam_query.specs.Faults.{Fault}
use Rattle.lam_query.specs.SyntaxFaults.{fault_of_token, PieceFaults, AreSyntaxFaults}
use Rattle.lam_query.specs.inner.OnePiece.{EndInSemicolon, HaveNoSemicolon, ArePieceTokens, before_semicolon, at_end}
use Rattle.lam_query.specs.inner.Kept.{Row, all_syntax}
use Rattle.lam_query.specs.inner.Rows.{Front, nothing, front_with, IsRow, AreRowsFrom, AreSpelled}
use Rattle.lam_query.proofs.DividedPieces.{ended_pieces, last_pieces, commands_joined, own_last}
use Rattle.lam_query.proofs.FaultLists.{faults_joined}
use Rattle.lam_query.proofs.PieceOfText.{empty_text, front_ends, front_joined}
use Rattle.lam_query.proofs.ReadPieces.{semicolon_faultless}
use Rattle.lam_query.proofs.RowPieces.{parts}

-- ---- the tokens of a piece and its semicolon

-- behind them there is a semicolon, or nothing: no more pieces, and no fault
record AreToItsEnd (start : ℕ) (piece : List ℕ) (tokens : List Lexeme) : Type 0 where
  behind : List Lexeme
  are : AreTokensFrom start piece (tokens ++ behind)
  pieces : (front : List Lexeme) → EndInSemicolon front → HaveNoSemicolon tokens
      → pieces_of (front ++ (tokens ++ behind)) ≡ pieces_of front ++ with_piece tokens []
  faultless : filter_map fault_of_token behind ≡ []

to_its_end : (start : ℕ) (piece rest : List ℕ) (tokens : List Lexeme) → ArePieceTokens start piece rest tokens → AreToItsEnd start piece tokens
to_its_end start piece rest tokens (before_semicolon t are kind ends) =
    let is : is_semicolon t ≡ true = ap ends_piece kind in
    record {
      behind = t ∷ [];
      are = are;
      pieces = λ front ends none. ended_pieces front tokens t ends none is;
      faultless = ap (λ o. cons_option o []) (semicolon_faultless t is);
    }
to_its_end start piece rest tokens (at_end are none) = record {
  behind = [];
  are = subst (AreTokensFrom start piece) (sym (append-nil tokens)) are;
  pieces = λ front ends none. ap (λ ts. pieces_of (front ++ ts)) (append-nil tokens) ∙ last_pieces front tokens ends none;
  faultless = refl;
}

-- ---- faults of tokens, and faults of pieces

regrouped : (a x y z : List Fault) → a ++ ((x ++ y) ++ z) ≡ (a ++ x) ++ (y ++ z)
regrouped a x y z = ap (λ fs. a ++ fs) (append_assoc x y z) ∙ sym (append_assoc a x (y ++ z))

exchanged : (a b p q : List Fault) → IsPermutation ((a ++ b) ++ (p ++ q)) ((a ++ p) ++ (b ++ q))
exchanged a b p q =
    subst (λ fs. IsPermutation fs ((a ++ p) ++ (b ++ q))) (regrouped a b p q)
    (subst (λ fs. IsPermutation (a ++ ((b ++ p) ++ q)) fs) (regrouped a p b q)
    (IsPermutation-append_right a ((b ++ p) ++ q) ((p ++ b) ++ q) (IsPermutation-append_left q (b ++ p) (p ++ b) (IsPermutation-append_comm b p))))

-- those of all tokens, and then those of all pieces, are those of a front, and then those of a piece
both_told : (a b p q before own told : List Fault) → before ≡ a ++ p → own ≡ b ++ q → IsPermutation before told
    → IsPermutation ((a ++ b) ++ (p ++ q)) (told ++ own)
both_told a b p q before own told is_before is_own same =
    let found = (a ++ b) ++ (p ++ q) in
    IsPermutation-trans found (before ++ own) (told ++ own)
    (subst (IsPermutation found) (λ i. sym is_before i ++ sym is_own i) (exchanged a b p q))
    (IsPermutation-append_left own before told same)

-- ---- a piece more

module _ (text : List ℕ) (f : Front) (before : List Row) (own : List CommandTree) (r : Row) (ts : List Typ) (d : Dialect)
    (h : AreSpelled text f before) (is : IsRow text f own r ts d) where
  abbrev Ahead : List ℕ
  Ahead = take f.end text

  to : AreToItsEnd (length Ahead) (slice_range text f.end r.end) is.tokens
  to = to_its_end (length Ahead) (slice_range text f.end r.end) (drop r.end text) is.tokens is.piece.are_own

  abbrev Through : List Lexeme
  Through = h.tokens ++ (is.tokens ++ to.behind)

  ends : (Ahead ≡ []) ⊎ EndsInSemicolon Ahead h.tokens
  ends = subst (λ ts. (Ahead ≡ []) ⊎ EndsInSemicolon Ahead ts) (one_list Ahead h.tokens is.piece.front h.are_tokens is.piece.are_front) is.piece.ends

  through : AreTokensOf (take r.end text) Through
  through =
      subst (λ bytes. AreTokensOf bytes Through) (sym (parts text f.end r.end is.forward))
      (front_joined Ahead (slice_range text f.end r.end) h.tokens (is.tokens ++ to.behind) is.piece.is_front h.are_tokens ends to.are)

  cut : pieces_of Through ≡ pieces_of h.tokens ++ with_piece is.tokens []
  cut = to.pieces h.tokens (front_ends Ahead h.tokens h.are_tokens ends) is.piece.one_piece

  commands : AreCommandsOf (pieces_of Through) (f.commands ++ own)
  commands =
      subst (λ ps. AreCommandsOf ps (f.commands ++ own)) (sym cut)
      (commands_joined (pieces_of h.tokens) (with_piece is.tokens []) f.commands own h.are_commands (own_last is.tokens own is.is_own))

  abbrev OfPieces : List Fault
  OfPieces = h.are_of_syntax.of_pieces ++ is.syntax.of_pieces

  of_pieces : PieceFaults (pieces_of Through) OfPieces
  of_pieces =
      subst (λ ps. PieceFaults ps OfPieces) (sym cut)
      (faults_joined (pieces_of h.tokens) (with_piece is.tokens []) h.are_of_syntax.of_pieces is.syntax.of_pieces h.are_of_syntax.pieces
      (subst (λ ps. PieceFaults ps is.syntax.of_pieces) (last_pieces [] is.tokens tt is.piece.one_piece) is.syntax.pieces))

  of_tokens : filter_map fault_of_token Through ≡ filter_map fault_of_token h.tokens ++ filter_map fault_of_token is.tokens
  of_tokens =
      filter_map-append fault_of_token h.tokens (is.tokens ++ to.behind)
      ∙ ap (λ fs. filter_map fault_of_token h.tokens ++ fs)
      (filter_map-append fault_of_token is.tokens to.behind
      ∙ ap (λ fs. filter_map fault_of_token is.tokens ++ fs) to.faultless
      ∙ append-nil (filter_map fault_of_token is.tokens))

  of_rows : all_syntax (before ++ r ∷ []) ≡ all_syntax before ++ r.syntax
  of_rows =
      flat_map-append (λ s. s.syntax) before (r ∷ [])
      ∙ ap (λ fs. all_syntax before ++ fs) (append-nil r.syntax)

  same_faults : IsPermutation (filter_map fault_of_token Through ++ OfPieces) (all_syntax (before ++ r ∷ []))
  same_faults =
      subst (λ fs. IsPermutation (fs ++ OfPieces) (all_syntax (before ++ r ∷ []))) (sym of_tokens)
      (subst (IsPermutation ((filter_map fault_of_token h.tokens ++ filter_map fault_of_token is.tokens) ++ OfPieces)) (sym of_rows)
      (both_told (filter_map fault_of_token h.tokens) (filter_map fault_of_token is.tokens) h.are_of_syntax.of_pieces is.syntax.of_pieces
      h.of_syntax r.syntax (all_syntax before) h.are_of_syntax.all is.syntax.all h.same))

  pub spelled_more : AreSpelled text (front_with f own ts r) (before ++ r ∷ [])
  spelled_more = record {
    tokens = Through;
    are_tokens = through;
    are_commands = commands;
    of_syntax = filter_map fault_of_token Through ++ OfPieces;
    are_of_syntax = record { of_pieces = OfPieces; pieces = of_pieces; all = refl };
    same = same_faults;
  }

-- ---- all pieces

pub none_spelled : (text : List ℕ) → AreSpelled text nothing []
none_spelled text = record {
  tokens = [];
  are_tokens = empty_text 0;
  are_commands = refl;
  of_syntax = [];
  are_of_syntax = record { of_pieces = []; pieces = refl; all = refl };
  same = IsPermutation-refl [];
}

spelled_from : (text : List ℕ) (before : List Row) (f : Front) (rows : List Row) (last : Front) (ts : List Typ) (d : Dialect)
    → AreSpelled text f before → AreRowsFrom text f rows last ts d → AreSpelled text last (before ++ rows)
spelled_from text before f [] last ts d h are =
    subst (λ g. AreSpelled text g (before ++ [])) are (subst (AreSpelled text f) (sym (append-nil before)) h)
spelled_from text before f (r ∷ rows) last ts d h are =
    let more = spelled_more text f before are.0 r ts d h are.1 in
    subst (AreSpelled text last) (append_assoc before (r ∷ []) rows)
    (spelled_from text (before ++ r ∷ []) (front_with f are.0 ts r) rows last ts d more are.2)

pub spelled_through : (text : List ℕ) (rows : List Row) (f : Front) (ts : List Typ) (d : Dialect) → IsUtf8 text → AreRowsFrom text nothing rows f ts d
    → AreSpelled text f rows
spelled_through text rows f ts d is_text are = spelled_from text [] nothing rows f ts d (none_spelled text) are

-- the tokens of a text spell these commands, and their faults are those of the rows
pub record IsAllSpelled (text : List ℕ) (commands : List CommandTree) (rows : List Row) : Type 0 where
  pub tokens : List Lexeme
  pub are_tokens : AreTokensOf text tokens
  pub are_commands : AreCommandsOf (pieces_of tokens) commands
  pub of_syntax : List Fault
  pub are_of_syntax : AreSyntaxFaults tokens of_syntax
  pub same : IsPermutation of_syntax (all_syntax rows)

pub whole_spelled : (text : List ℕ) (rows : List Row) (f : Front) (ts : List Typ) (d : Dialect) → IsUtf8 text → AreRowsFrom text nothing rows f ts d
    → f.end ≡ length text → IsAllSpelled text f.commands rows
whole_spelled text rows f ts d is_text are ends =
    let h = spelled_through text rows f ts d is_text are in
    let whole : take f.end text ≡ text = take_all f.end text (omega (arith, ends)) in
    record {
      tokens = h.tokens;
      are_tokens = subst (λ bytes. AreTokensOf bytes h.tokens) whole h.are_tokens;
      are_commands = h.are_commands;
      of_syntax = h.of_syntax;
      are_of_syntax = h.are_of_syntax;
      same = h.same;
    }
