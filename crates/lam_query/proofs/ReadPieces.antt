-- Tokens and pieces while they are read, one after another.
use Rattle.std.proofs.Common.{◌≡◌, true, false, List, [], ◌∷◌, ◌++◌, Some, None, length, map, refl, sym, ap, ◌∙◌, subst, append_assoc, append-nil}
use Rattle.std.proofs.lemmas.List.{map-append}
use Rattle.std.specs.List.{filter_map}
use Rattle.std.specs.Option.{option_to_list}
use Rattle.lam_token.specs.declared.kind.Kind.TheVariants as kind
use Rattle.lam_token.specs.Lexeme.{Lexeme, lexeme}
use Rattle.lam_syntax.specs.Trees.{CommandTree}
use Rattle.lam_syntax.specs.Answers.{is_semicolon, pieces_of}
use Rattle.lam_syntax.specs.inner.Reads.{with_piece}
use Rattle.lam_syntax.proofs.Runs.{no_piece}
use Rattle.lam_query.specs.declared.answers.Fault.{Fault as RustFault}
use Rattle.lam_query.specs.declared.reading.Reader.{Reader}
use Rattle.lam_query.specs.Commands.{AreCommandsOf}
use Rattle.lam_query.specs.Faults.{Fault}
use Rattle.lam_query.specs.SyntaxFaults.{fault_of_token, PieceFault, PieceFaults}
use Rattle.lam_query.specs.Views.{fault_of}
use Rattle.lam_query.specs.inner.OnePiece.{EndInSemicolon, HaveNoSemicolon, IsOwnOf}
use Rattle.lam_query.specs.inner.Reading.{AreRead, AreAllRead, IsNoted, AreReadBut}
use Rattle.lam_query.proofs.DividedPieces.{ended_pieces, last_pieces, semicolon_pushed, other_pushed, commands_joined, own_last}
use Rattle.lam_query.proofs.FaultLists.{own_fault, faults_joined, token_noted}

-- nothing was read yet
pub nothing_read : (reader : Reader) → reader.piece.items ≡ [] → reader.piece_faults.items ≡ [] → reader.token_faults.items ≡ [] → AreRead [] [] reader
nothing_read reader piece piece_faults token_faults = record {
  ends = tt;
  one_piece = subst HaveNoSemicolon (sym piece) tt;
  commands = refl;
  piece_faults = ap (map fault_of) piece_faults;
  token_faults = ap (map fault_of) token_faults ∙ ap (filter_map fault_of_token) (sym piece);
}

-- ---- the end of a piece

-- the faults of the piece were told, and no others
pub record IsPieceTold (before now : Reader) : Type 0 where
  pub faults : List Fault
  pub are_own : PieceFaults (with_piece before.piece.items []) faults
  pub piece_faults : map fault_of now.piece_faults.items ≡ map fault_of before.piece_faults.items ++ faults
  pub token_faults : now.token_faults ≡ before.token_faults

-- a fault of its own, and none

pub one_more : (before now : Reader) (f : RustFault) → (length before.piece.items ≡ 0 → ⊥) → PieceFault before.piece.items (Some (fault_of f))
    → now.piece_faults.items ≡ before.piece_faults.items ++ f ∷ [] → now.token_faults ≡ before.token_faults → IsPieceTold before now
one_more before now f some is pushed same = record {
  faults = fault_of f ∷ [];
  are_own = own_fault before.piece.items (Some (fault_of f)) some is;
  piece_faults = ap (map fault_of) pushed ∙ map-append fault_of before.piece_faults.items (f ∷ []);
  token_faults = same;
}

none_told : (before now : Reader) → PieceFaults (with_piece before.piece.items []) [] → now.piece_faults ≡ before.piece_faults → now.token_faults ≡ before.token_faults
    → IsPieceTold before now
none_told before now none same same_tokens = record {
  faults = [];
  are_own = none;
  piece_faults = ap (λ v. map fault_of v.items) same ∙ sym (append-nil (map fault_of before.piece_faults.items));
  token_faults = same_tokens;
}

pub none_more : (before now : Reader) → (length before.piece.items ≡ 0 → ⊥) → PieceFault before.piece.items None
    → now.piece_faults ≡ before.piece_faults → now.token_faults ≡ before.token_faults → IsPieceTold before now
none_more before now some is = none_told before now (own_fault before.piece.items None some is)

-- no tokens are no piece
pub no_tokens_told : (reader : Reader) → length reader.piece.items ≡ 0 → IsPieceTold reader reader
no_tokens_told reader none =
    none_told reader reader (subst (λ ps. PieceFaults ps []) (sym (no_piece reader.piece.items [] none)) refl) refl refl

-- the commands and the faults of a front, and of a piece behind it

commands_read : (front piece : List Lexeme) (ps : List (List Lexeme)) (done own : List CommandTree) → ps ≡ pieces_of front ++ with_piece piece []
    → AreCommandsOf (pieces_of front) done → IsOwnOf piece own → AreCommandsOf ps (done ++ own)
commands_read front piece ps done own cut are is =
    subst (λ qs. AreCommandsOf qs (done ++ own)) (sym cut) (commands_joined (pieces_of front) (with_piece piece []) done own are (own_last piece own is))

faults_read : (front piece : List Lexeme) (ps : List (List Lexeme)) (before own now : List Fault) → ps ≡ pieces_of front ++ with_piece piece []
    → PieceFaults (pieces_of front) before → PieceFaults (with_piece piece []) own → now ≡ before ++ own → PieceFaults ps now
faults_read front piece ps before own now cut are are_own is =
    rw (cut, is) (faults_joined (pieces_of front) (with_piece piece []) before own are are_own)

pub all_read : (front : List Lexeme) (done own : List CommandTree) (before now : Reader) → IsOwnOf before.piece.items own → IsPieceTold before now
    → AreRead front done before → AreAllRead (front ++ before.piece.items) (done ++ own) now
all_read front done own before now is_own told h =
    let piece = before.piece.items in
    let cut = last_pieces front piece h.ends h.one_piece in
    let found = map fault_of before.piece_faults.items in
    let of_pieces = map fault_of now.piece_faults.items in
    record {
      commands = commands_read front piece (pieces_of (front ++ piece)) done own cut h.commands is_own;
      faults = record {
        of_pieces = of_pieces;
        pieces = faults_read front piece (pieces_of (front ++ piece)) found told.faults of_pieces cut h.piece_faults told.are_own told.piece_faults;
        all = ap (λ fs. fs ++ of_pieces) (ap (λ v. map fault_of v.items) told.token_faults ∙ h.token_faults);
      };
    }

-- ---- a token

pub semicolon_faultless : (t : Lexeme) → is_semicolon t ≡ true → fault_of_token t ≡ None
semicolon_faultless (lexeme kind.BadCharacter text span) is = absurd cc
semicolon_faultless (lexeme kind.BadComment text span) is = absurd cc
semicolon_faultless t is = refl

pub semicolon_read : (front : List Lexeme) (done own : List CommandTree) (t : Lexeme) (before now : Reader) → is_semicolon t ≡ true
    → IsOwnOf before.piece.items own → IsPieceTold before now → now.piece.items ≡ []
    → AreRead front done before → AreRead (front ++ (before.piece.items ++ t ∷ [])) (done ++ own) now
semicolon_read front done own t before now ends is_own told none_left h =
    let piece = before.piece.items in
    let found = map fault_of before.token_faults.items in
    let all = front ++ (piece ++ t ∷ []) in
    let cut = ended_pieces front piece t h.ends h.one_piece ends in
    let behind : (front ++ piece) ++ t ∷ [] ≡ all = append_assoc front piece (t ∷ []) in
    let tokens : (front ++ piece) ++ t ∷ [] ≡ all ++ now.piece.items = behind ∙ sym (append-nil all) ∙ ap (λ ts. all ++ ts) (sym none_left) in
    let noted : found ≡ found ++ option_to_list (fault_of_token t) = sym (append-nil found) ∙ ap (λ f. found ++ option_to_list f) (sym (semicolon_faultless t ends)) in
    record {
      ends = subst EndInSemicolon behind (semicolon_pushed (front ++ piece) t ends);
      one_piece = subst HaveNoSemicolon (sym none_left) tt;
      commands = commands_read front piece (pieces_of all) done own cut h.commands is_own;
      piece_faults = faults_read front piece (pieces_of all) (map fault_of before.piece_faults.items) told.faults (map fault_of now.piece_faults.items) cut h.piece_faults
          told.are_own told.piece_faults;
      token_faults =
          ap (λ v. map fault_of v.items) told.token_faults
          ∙ token_noted before.token_faults.items before.token_faults.items (front ++ piece) t noted h.token_faults
          ∙ ap (filter_map fault_of_token) tokens;
    }

pub other_read : (front : List Lexeme) (done : List CommandTree) (t : Lexeme) (before noted now : Reader) → is_semicolon t ≡ false → IsNoted t before noted
    → now.piece.items ≡ before.piece.items ++ t ∷ [] → now.piece_faults ≡ noted.piece_faults → now.token_faults ≡ noted.token_faults
    → AreRead front done before → AreRead front done now
other_read front done t before noted now goes_on is pushed piece_faults token_faults h =
    let piece = before.piece.items in
    let tokens : (front ++ piece) ++ t ∷ [] ≡ front ++ now.piece.items = append_assoc front piece (t ∷ []) ∙ ap (λ ts. front ++ ts) (sym pushed) in
    record {
      ends = h.ends;
      one_piece = subst HaveNoSemicolon (sym pushed) (other_pushed piece t h.one_piece goes_on);
      commands = h.commands;
      piece_faults = subst (λ v. PieceFaults (pieces_of front) (map fault_of v.items)) (sym (piece_faults ∙ is.piece_faults)) h.piece_faults;
      token_faults =
          ap (λ v. map fault_of v.items) token_faults
          ∙ token_noted before.token_faults.items noted.token_faults.items (front ++ piece) t is.token_faults h.token_faults
          ∙ ap (filter_map fault_of_token) tokens;
    }

-- ---- all tokens, of which some are left

-- nothing was read of them yet
pub all_left : (all : List Lexeme) (reader : Reader) → reader.piece.items ≡ [] → AreRead [] [] reader → AreReadBut all all [] reader
all_left all reader no_piece h = record { front = []; read = h; are_all = ap (λ ts. ts ++ all) (sym no_piece) }

-- one more semicolon was read
pub semicolon_passed : (all left : List Lexeme) (done own : List CommandTree) (t : Lexeme) (before now : Reader)
    → ((front : List Lexeme) (done : List CommandTree) → AreRead front done before → AreRead (front ++ (before.piece.items ++ t ∷ [])) (done ++ own) now)
    → now.piece.items ≡ [] → AreReadBut all (t ∷ left) done before → AreReadBut all left (done ++ own) now
semicolon_passed all left done own t before now read no_piece h =
    let piece = before.piece.items in
    let front = h.front ++ (piece ++ t ∷ []) in
    let kept : front ++ left ≡ h.front ++ (piece ++ t ∷ left) =
    append_assoc h.front (piece ++ t ∷ []) left ∙ ap (λ ts. h.front ++ ts) (append_assoc piece (t ∷ []) left) in
    record {
      front = front;
      read = read h.front done h.read;
      are_all = h.are_all ∙ sym kept ∙ ap (λ ts. front ++ (ts ++ left)) (sym no_piece);
    }

-- none is left
pub none_left : (all : List Lexeme) (done own : List CommandTree) (before now : Reader)
    → ((front : List Lexeme) (done : List CommandTree) → AreRead front done before → AreAllRead (front ++ before.piece.items) (done ++ own) now)
    → AreReadBut all [] done before → AreAllRead all (done ++ own) now
none_left all done own before now read h =
    let are_all = h.are_all ∙ ap (λ ts. h.front ++ ts) (append-nil before.piece.items) in
    subst (λ ts. AreAllRead ts (done ++ own) now) (sym are_all) (read h.front done h.read)
