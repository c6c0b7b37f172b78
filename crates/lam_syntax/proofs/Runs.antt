-- The pieces of tokens, one run at a time.
use Rattle.std.proofs.Common.{◌≡◌, ℕ, zero, suc, ◌<◌, Bool, true, false, cond, List, [], ◌∷◌, ◌++◌, length, take, drop, map, sym, refl, ap, ◌∙◌, subst, arith}
use Rattle.std.proofs.lemmas.List.{append-nil}
use Rattle.std.specs.Prelude.{filter, All, ◌==◌}
use Rattle.std.specs.List.{AllByRecursion}
use Rattle.std.proofs.lemmas.List.Elements.{All-from_recursion, recursion_from_All}
use Rattle.std.specs.Borrow.{Bor}
use Rattle.std.proofs.lemmas.Bool.{eqb-true, eqb-false}
use Rattle.lam_token.specs.Lexeme.{Lexeme}
use Rattle.lam_syntax.specs.Answers.{is_semicolon, onto_first, runs_of, has_tokens, pieces_of}
use Rattle.lam_syntax.specs.inner.Reads.{run_len, with_piece}

-- the runs behind the first
abbrev others : List Lexeme → List (List Lexeme)
others [] = []
others (t ∷ ts) = cond (is_semicolon t) (runs_of ts) (others ts)

runs_of-head : (ts : List Lexeme) → runs_of ts ≡ take (run_len ts) ts ∷ others ts
runs_of-head [] = refl
runs_of-head (t ∷ ts) = by (runs_of-head ts) (is_semicolon t)
  where
    by : runs_of ts ≡ take (run_len ts) ts ∷ others ts → (b : Bool) → cond b ([] ∷ runs_of ts) (onto_first t (runs_of ts)) ≡ take (cond b 0 (suc (run_len ts))) (t ∷ ts) ∷ cond b (runs_of ts) (others ts)
    by head true = refl
    by head false = ap (onto_first t) head

behind-others : (ts : List Lexeme) → filter has_tokens (others ts) ≡ pieces_of (drop (suc (run_len ts)) ts)
behind-others [] = refl
behind-others (t ∷ ts) = by (behind-others ts) (is_semicolon t)
  where
    by : filter has_tokens (others ts) ≡ pieces_of (drop (suc (run_len ts)) ts) → (b : Bool) → filter has_tokens (cond b (runs_of ts) (others ts)) ≡ pieces_of (drop (suc (cond b 0 (suc (run_len ts)))) (t ∷ ts))
    by behind true = refl
    by behind false = behind

pub pieces_of-run : (ts : List Lexeme) → pieces_of ts ≡ with_piece (take (run_len ts) ts) (pieces_of (drop (suc (run_len ts)) ts))
pieces_of-run ts =
    ap (filter has_tokens) (runs_of-head ts)
    ∙ ap (with_piece (take (run_len ts) ts)) (behind-others ts)

-- the next run, and a piece if it is not empty
pub run_more : (ts piece behind : List Lexeme) (found : List (List Lexeme)) (n : ℕ) (all : List (List Lexeme)) → n ≡ run_len ts → piece ≡ take n ts → behind ≡ drop 1 (drop n ts) → found ++ pieces_of ts ≡ all → found ++ with_piece piece (pieces_of behind) ≡ all
run_more ts piece behind found n all at is behind_is so_far =
    let piece_is : piece ≡ take (run_len ts) ts = is ∙ ap (λ m. take m ts) at in
    let behind_is' : behind ≡ drop (suc (run_len ts)) ts = behind_is ∙ drop_one n ts ∙ ap (λ m. drop (suc m) ts) at in
    ap (λ p. found ++ with_piece p (pieces_of behind)) piece_is
    ∙ ap (λ l. found ++ with_piece (take (run_len ts) ts) (pieces_of l)) behind_is'
    ∙ ap (λ ps. found ++ ps) (sym (pieces_of-run ts))
    ∙ so_far
  where
    drop_one : (m : ℕ) (l : List Lexeme) → drop 1 (drop m l) ≡ drop (suc m) l
    drop_one zero [] = refl
    drop_one zero (t ∷ l) = refl
    drop_one (suc m) [] = refl
    drop_one (suc m) (t ∷ l) = drop_one m l

pub some_piece : (piece : List Lexeme) (ps : List (List Lexeme)) → (length piece ≡ 0 → ⊥) → with_piece piece ps ≡ piece ∷ ps
some_piece [] ps some = absurd (some refl)
some_piece (t ∷ piece) ps some = refl

pub no_piece : (piece : List Lexeme) (ps : List (List Lexeme)) → length piece ≡ 0 → with_piece piece ps ≡ ps
no_piece [] ps none = refl
no_piece (t ∷ piece) ps none = absurd (omega arith)

-- tokens without a semicolon, in front of one and at the end

-- the token ends no piece
abbrev pub GoesOn : Lexeme → Type 0
GoesOn t = is_semicolon t ≡ false

ended_run : (piece left : List Lexeme) (t : Lexeme) → AllByRecursion GoesOn piece → is_semicolon t ≡ true → runs_of (piece ++ t ∷ left) ≡ piece ∷ runs_of left
ended_run [] left t none ends = ap (λ b. cond b ([] ∷ runs_of left) (onto_first t (runs_of left))) ends
ended_run (p ∷ piece) left t none ends =
    ap (λ b. cond b ([] ∷ runs_of (piece ++ t ∷ left)) (onto_first p (runs_of (piece ++ t ∷ left)))) none.0
    ∙ ap (onto_first p) (ended_run piece left t none.1 ends)

last_run : (piece : List Lexeme) → AllByRecursion GoesOn piece → runs_of piece ≡ piece ∷ []
last_run [] none = refl
last_run (p ∷ piece) none =
    ap (λ b. cond b ([] ∷ runs_of piece) (onto_first p (runs_of piece))) none.0 ∙ ap (onto_first p) (last_run piece none.1)

pub piece_ended : (piece left : List Lexeme) (t : Lexeme) → All GoesOn piece → is_semicolon t ≡ true → pieces_of (piece ++ t ∷ left) ≡ with_piece piece (pieces_of left)
piece_ended piece left t none ends = ap (filter has_tokens) (ended_run piece left t (recursion_from_All GoesOn piece none) ends)

pub last_piece : (piece : List Lexeme) → All GoesOn piece → pieces_of piece ≡ with_piece piece []
last_piece piece none = ap (filter has_tokens) (last_run piece (recursion_from_All GoesOn piece none))

-- a run that is put at the end of the pieces found, and one that is not, as it is empty

pushed : (found : List (Bor (List Lexeme))) (piece : Bor (List Lexeme)) (ps : List (List Lexeme)) → map (λ p. p.now) (found ++ piece ∷ []) ++ ps ≡ map (λ p. p.now) found ++ piece.now ∷ ps
pushed [] piece ps = refl
pushed (f ∷ found) piece ps = ap (λ l. f.now ∷ l) (pushed found piece ps)

pub piece_kept : (found more : List (Bor (List Lexeme))) (piece : Bor (List Lexeme)) (ps all : List (List Lexeme)) → more ≡ found ++ piece ∷ [] → false ≡ (length piece.now == 0) → map (λ p. p.now) found ++ with_piece piece.now ps ≡ all → map (λ p. p.now) more ++ ps ≡ all
piece_kept found more piece ps all is some so_far =
    ap (λ l. map (λ p. p.now) l ++ ps) is
    ∙ pushed found piece ps
    ∙ ap (λ l. map (λ p. p.now) found ++ l) (sym (some_piece piece.now ps (eqb-false (length piece.now) 0 (sym some))))
    ∙ so_far

pub piece_left_out : (found more : List (Bor (List Lexeme))) (piece : List Lexeme) (ps all : List (List Lexeme)) → more ≡ found → true ≡ (length piece == 0) → map (λ p. p.now) found ++ with_piece piece ps ≡ all → map (λ p. p.now) more ++ ps ≡ all
piece_left_out found more piece ps all is none so_far =
    ap (λ l. map (λ p. p.now) l ++ ps) is
    ∙ ap (λ l. map (λ p. p.now) found ++ l) (sym (no_piece piece ps (eqb-true (length piece) 0 (sym none))))
    ∙ so_far

-- a piece has tokens

some_kept : (b : Bool) (p : List Lexeme) (rest : List (List Lexeme)) → has_tokens p ≡ b → AllByRecursion (λ q. 0 < length q) rest → AllByRecursion (λ q. 0 < length q) (cond b (p ∷ rest) rest)
some_kept true [] rest is all = absurd cc
some_kept true (t ∷ ts) rest is all = (omega arith, all)
some_kept false p rest is all = all

pub none_empty : (runs : List (List Lexeme)) → AllByRecursion (λ q. 0 < length q) (filter has_tokens runs)
none_empty [] = tt
none_empty (p ∷ ps) = some_kept (has_tokens p) p (filter has_tokens ps) refl (none_empty ps)

each_some : (ps : List (Bor (List Lexeme))) → AllByRecursion (λ q. 0 < length q) (map (λ p. p.now) ps) → AllByRecursion (λ p. 0 < length p.now) ps
each_some [] all = tt
each_some (p ∷ ps) all = (all.0, each_some ps all.1)

all_read : (found : List (List Lexeme)) (left ts : List Lexeme) → found ++ pieces_of left ≡ pieces_of ts → length left ≡ 0 → found ≡ pieces_of ts
all_read found [] ts are none = sym (append-nil found) ∙ are
all_read found (t ∷ left) ts are none = absurd (omega arith)

pub pieces_some : (ps : List (Bor (List Lexeme))) (left ts : List Lexeme) → map (λ p. p.now) ps ++ pieces_of left ≡ pieces_of ts → true ≡ (length left == 0) → All (λ p. 0 < length p.now) ps
pieces_some ps left ts are none =
    All-from_recursion (λ p. 0 < length p.now) ps
    (each_some ps (subst (AllByRecursion (λ q. 0 < length q)) (sym (all_read (map (λ p. p.now) ps) left ts are (eqb-true (length left) 0 (sym none)))) (none_empty (runs_of ts))))
