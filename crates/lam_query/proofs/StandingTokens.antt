-- Tokens that stand one behind the other, and where the cursor is among them.
use Rattle.std.proofs.Common.{◌≡◌, ℕ, ◌+◌, ◌<◌, ◌≤◌, List, [], ◌∷◌, Bool, true, false, not, ltb, cond, refl, ap, arith}
use Rattle.std.specs.Prelude.{◌&&◌, filter}
use Rattle.std.proofs.lemmas.Bool.{ltb-false, lt-ltb}
use Rattle.lam_token.specs.Lexeme.{Lexeme, lexeme, start_of, end_of}
use Rattle.lam_token.proofs.SomeCut.{tokens_at, are_tokens_at}
use Rattle.lam_scope.specs.Nesting.{TokensStand}
use Rattle.lam_query.specs.Completions.{is_touched, is_in_front, is_behind}
use Rattle.lam_query.proofs.Innermost.{tokens_from_lower, tokens_stand_from}

-- a token, and those behind it

pub stands_at : (start : ℕ) (text : List ℕ) → (high : ℕ) × TokensStand start (tokens_at start text) high
stands_at start text = tokens_stand_from start text (tokens_at start text) (are_tokens_at start text)

pub first_stands : (low high : ℕ) (t : Lexeme) (ts : List Lexeme) → TokensStand low (t ∷ ts) high → (low ≤ start_of t) × (start_of t < end_of t) × TokensStand (end_of t) ts high
first_stands low high (lexeme k x s) ts h = h

pub stands_alone : (low high next : ℕ) (t : Lexeme) (ts : List Lexeme) → next ≤ start_of t → TokensStand low (t ∷ ts) high → TokensStand next (t ∷ ts) high
stands_alone low high next (lexeme k x s) ts le h = (le, h.1, h.2)

pub tokens_to_higher : (low high more : ℕ) (ts : List Lexeme) → TokensStand low ts high → TokensStand low ts (high + more)
tokens_to_higher low high more [] h = omega (arith, h)
tokens_to_higher low high more (lexeme k x s ∷ ts) h = (h.0, h.1, tokens_to_higher s.end high more ts h.2)

-- some of the tokens

kept : (b : Bool) (low next high : ℕ) (ts us : List Lexeme) → low ≤ next → TokensStand low ts high → TokensStand next us high → TokensStand low (cond b ts us) high
kept true low next high ts us le h k = h
kept false low next high ts us le h k = tokens_from_lower low next high us le k

pub some_stand : (test : Lexeme → Bool) (low high : ℕ) (ts : List Lexeme) → TokensStand low ts high → TokensStand low (filter test ts) high
some_stand test low high [] h = h
some_stand test low high (lexeme k x s ∷ ts) h =
    let rest = some_stand test s.end high ts h.2 in
    kept (test (lexeme k x s)) low s.end high (lexeme k x s ∷ filter test ts) (filter test ts) (omega (arith, h.0, h.1)) (h.0, h.1, rest) rest

-- where the cursor is

pub ends_in_front : (o : ℕ) (t : Lexeme) → is_in_front o t ≡ true → end_of t ≤ o
ends_in_front o t is = by (is_touched o t) (ltb o (end_of t)) refl is
  where
    by : (a b : Bool) → ltb o (end_of t) ≡ b → (not a && not b) ≡ true → end_of t ≤ o
    by false false e both = ltb-false o (end_of t) e
    by a b e both = absurd cc

pub begins_behind : (o : ℕ) (t : Lexeme) → is_behind o t ≡ true → o ≤ start_of t
begins_behind o t is = by (is_touched o t) (ltb (start_of t) o) refl is
  where
    by : (a b : Bool) → ltb (start_of t) o ≡ b → (not a && not b) ≡ true → o ≤ start_of t
    by false false e both = ltb-false (start_of t) o e
    by a b e both = absurd cc

no_end : (a b : Bool) → b ≡ true → (not a && not b) ≡ false
no_end true b is = refl
no_end false b is = ap not is

pub not_in_front : (o : ℕ) (t : Lexeme) → o < end_of t → is_in_front o t ≡ false
not_in_front o t lt = no_end (is_touched o t) (ltb o (end_of t)) (lt-ltb o (end_of t) lt)

pub not_behind : (o : ℕ) (t : Lexeme) → start_of t < o → is_behind o t ≡ false
not_behind o t lt = no_end (is_touched o t) (ltb (start_of t) o) (lt-ltb (start_of t) o lt)

-- no token in front of the cursor stands behind it
pub none_in_front : (o low high : ℕ) (ts : List Lexeme) → o ≤ low → TokensStand low ts high → filter (is_in_front o) ts ≡ []
none_in_front o low high [] le h = refl
none_in_front o low high (lexeme k x s ∷ ts) le h =
    rw (not_in_front o (lexeme k x s) (omega (arith, le, h.0, h.1))) (none_in_front o s.end high ts (omega (arith, le, h.0, h.1)) h.2)

-- the tokens behind the cursor stand behind each byte in front of it
pub behind_stand : (o next low high : ℕ) (ts : List Lexeme) → next ≤ o → next ≤ high → TokensStand low ts high → TokensStand next (filter (is_behind o) ts) high
behind_stand o next low high [] le under h = under
behind_stand o next low high (lexeme k x s ∷ ts) le under h = by (behind_stand o next s.end high ts le under h.2) (is_behind o (lexeme k x s)) refl
  where
    by : TokensStand next (filter (is_behind o) ts) high → (b : Bool) → is_behind o (lexeme k x s) ≡ b → TokensStand next (cond b (lexeme k x s ∷ filter (is_behind o) ts) (filter (is_behind o) ts)) high
    by rest true is = let behind = begins_behind o (lexeme k x s) is in (omega (arith, le, behind), h.1, some_stand (is_behind o) s.end high ts h.2)
    by rest false is = rest
