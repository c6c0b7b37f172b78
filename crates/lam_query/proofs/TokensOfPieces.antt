-- What holds of each token of a text holds of each token of its pieces.
use Rattle.std.proofs.Common.{List, [], ◌∷◌, Bool, true, false, cond}
use Rattle.std.specs.Prelude.{filter}
use Rattle.std.specs.List.{AllByRecursion}
use Rattle.lam_token.specs.Lexeme.{Lexeme}
use Rattle.lam_syntax.specs.Answers.{is_semicolon, onto_first, runs_of, has_tokens, pieces_of}

abbrev pub InPieces : (Lexeme → Type 0) → List (List Lexeme) → Type 0
InPieces P = AllByRecursion (AllByRecursion P)

onto_in : (P : Lexeme → Type 0) (t : Lexeme) (runs : List (List Lexeme)) → P t → InPieces P runs → InPieces P (onto_first t runs)
onto_in P t [] p h = ((p, tt), tt)
onto_in P t (run ∷ runs) p h = ((p, h.0), h.1)

one_of : (P : Lexeme → Type 0) (b : Bool) (ps qs : List (List Lexeme)) → InPieces P ps → InPieces P qs → InPieces P (cond b ps qs)
one_of P true ps qs h k = h
one_of P false ps qs h k = k

runs_in : (P : Lexeme → Type 0) (ts : List Lexeme) → AllByRecursion P ts → InPieces P (runs_of ts)
runs_in P [] h = (tt, tt)
runs_in P (t ∷ ts) h =
    let rest = runs_in P ts h.1 in
    one_of P (is_semicolon t) ([] ∷ runs_of ts) (onto_first t (runs_of ts)) (tt, rest) (onto_in P t (runs_of ts) h.0 rest)

kept_in : (P : Lexeme → Type 0) (runs : List (List Lexeme)) → InPieces P runs → InPieces P (filter has_tokens runs)
kept_in P [] h = tt
kept_in P (run ∷ runs) h = one_of P (has_tokens run) (run ∷ filter has_tokens runs) (filter has_tokens runs) (h.0, kept_in P runs h.1) (kept_in P runs h.1)

pub pieces_in : (P : Lexeme → Type 0) (ts : List Lexeme) → AllByRecursion P ts → InPieces P (pieces_of ts)
pieces_in P ts h = kept_in P (runs_of ts) (runs_in P ts h)
