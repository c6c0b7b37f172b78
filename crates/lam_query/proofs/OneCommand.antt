-- The command of a piece by itself: of its tokens no other than the last is a semicolon.
use Rattle.std.proofs.Common.{◌≡◌, ℕ, true, false, List, [], ◌∷◌, ◌++◌, Option, Result, IfOk, append_assoc, refl, sym, ap, subst, ◌∙◌}
use Rattle.std.proofs.lemmas.Result.{IfOk-weaker}
use Rattle.lam_token.specs.Lexeme.{Lexeme}
use Rattle.lam_token.proofs.Cuts.{one_list_from}
use Rattle.lam_token.proofs.SomeCut.{tokens_at, are_tokens_at}
use Rattle.lam_syntax.specs.Trees.{CommandTree}
use Rattle.lam_syntax.specs.Answers.{ends_piece, is_semicolon}
use Rattle.lam_syntax.specs.declared.terms.Command.{Command}
use Rattle.lam_query.specs.inner.OnePiece.{HaveNoSemicolon, IsOwnOf, ArePieceTokens, before_semicolon, at_end}
use Rattle.lam_query.specs.inner.Reading.{own_of}

-- ---- where a list of tokens has a semicolon

both : (t : Lexeme) → is_semicolon t ≡ true → is_semicolon t ≡ false → ⊥
both t is is_not = let clash : true ≡ false = sym is ∙ is_not in absurd cc

pub none_within : (ts us : List Lexeme) (t : Lexeme) → HaveNoSemicolon (ts ++ t ∷ us) → is_semicolon t ≡ true → ⊥
none_within [] us t none is = both t is none.0
none_within (u ∷ ts) us t none is = none_within ts us t none.1 is

-- the tokens in front of the first one
pub one_front : (ts us vs ws : List Lexeme) (t v : Lexeme) → HaveNoSemicolon ts → HaveNoSemicolon vs → is_semicolon t ≡ true → is_semicolon v ≡ true
    → ts ++ t ∷ us ≡ vs ++ v ∷ ws → ts ≡ vs
one_front [] us [] ws t v none none' is is' same = refl
one_front [] us (x ∷ vs) ws t v none none' is is' same = let first : t ≡ x = cc in absurd (both x (ap is_semicolon (sym first) ∙ is) none'.0)
one_front (x ∷ ts) us [] ws t v none none' is is' same = let first : x ≡ v = cc in absurd (both x (ap is_semicolon first ∙ is') none.0)
one_front (x ∷ ts) us (y ∷ vs) ws t v none none' is is' same =
    let first : x ≡ y = cc in
    let others : ts ++ t ∷ us ≡ vs ++ v ∷ ws = cc in
    let rest = one_front ts us vs ws t v none.1 none'.1 is is' others in
    (λ i. first i ∷ rest i)

-- ---- the tokens that were read of the piece

-- one more of all the tokens was read
pub read_more : (all before now left behind : List Lexeme) (t : Lexeme) → all ≡ before ++ left → left ≡ t ∷ behind → now ≡ before ++ t ∷ [] → all ≡ now ++ behind
read_more all before now left behind t are_all first pushed =
    are_all ∙ ap (λ ts. before ++ ts) first ∙ sym (append_assoc before (t ∷ []) behind) ∙ ap (λ ts. ts ++ behind) (sym pushed)

-- its command is theirs
module _ (start : ℕ) (piece rest : List ℕ) (tokens found : List Lexeme) (own : List CommandTree)
    (are : ArePieceTokens start piece rest tokens) (none : HaveNoSemicolon tokens) (none_found : HaveNoSemicolon found) (is_own : IsOwnOf found own) where
  -- those in front of a semicolon
  ended_own : (t : Lexeme) (behind : List Lexeme) → is_semicolon t ≡ true → tokens_at start piece ≡ found ++ t ∷ behind → IsOwnOf tokens own
  ended_own t behind is all = by are
    where
      by : ArePieceTokens start piece rest tokens → IsOwnOf tokens own
      by (before_semicolon s are kind ends) =
          let same = sym all ∙ one_list_from start piece (tokens ++ s ∷ []) (tokens_at start piece) are (are_tokens_at start piece) in
          subst (λ ts. IsOwnOf ts own) (one_front found behind tokens [] t s none_found none is (ap ends_piece kind) same) is_own
      by (at_end are ends) =
          let same = sym (one_list_from start piece tokens (tokens_at start piece) are (are_tokens_at start piece)) ∙ all in
          absurd (none_within found behind t (subst HaveNoSemicolon same none) is)

  -- all of them
  last_own : tokens_at start piece ≡ found → IsOwnOf tokens own
  last_own all = by are
    where
      by : ArePieceTokens start piece rest tokens → IsOwnOf tokens own
      by (before_semicolon s are kind ends) =
          let same = sym all ∙ one_list_from start piece (tokens ++ s ∷ []) (tokens_at start piece) are (are_tokens_at start piece) in
          absurd (none_within tokens [] s (subst HaveNoSemicolon same none_found) (ap ends_piece kind))
      by (at_end are ends) =
          let same = sym all ∙ one_list_from start piece tokens (tokens_at start piece) are (are_tokens_at start piece) in
          subst (λ ts. IsOwnOf ts own) same is_own

pub if_last_own : {E : Type 0} (r : Result (Option Command) E) (start : ℕ) (piece : List ℕ) (found : List Lexeme) → HaveNoSemicolon found → tokens_at start piece ≡ found
    → IfOk r (λ command. IsOwnOf found (own_of command))
    → IfOk r (λ command. (rest : List ℕ) (tokens : List Lexeme) → ArePieceTokens start piece rest tokens → HaveNoSemicolon tokens → IsOwnOf tokens (own_of command))
if_last_own r start piece found none_found all own =
    IfOk-weaker r (λ command. IsOwnOf found (own_of command))
    (λ command. (rest : List ℕ) (tokens : List Lexeme) → ArePieceTokens start piece rest tokens → HaveNoSemicolon tokens → IsOwnOf tokens (own_of command))
    (λ command is rest tokens are none. last_own start piece rest tokens found (own_of command) are none none_found is all) own

pub if_ended_own : {E : Type 0} (r : Result (Option Command) E) (start : ℕ) (piece : List ℕ) (found behind : List Lexeme) (t : Lexeme)
    → HaveNoSemicolon found → is_semicolon t ≡ true → tokens_at start piece ≡ found ++ t ∷ behind
    → IfOk r (λ command. IsOwnOf found (own_of command))
    → IfOk r (λ command. (rest : List ℕ) (tokens : List Lexeme) → ArePieceTokens start piece rest tokens → HaveNoSemicolon tokens → IsOwnOf tokens (own_of command))
if_ended_own r start piece found behind t none_found ends all own =
    IfOk-weaker r (λ command. IsOwnOf found (own_of command))
    (λ command. (rest : List ℕ) (tokens : List Lexeme) → ArePieceTokens start piece rest tokens → HaveNoSemicolon tokens → IsOwnOf tokens (own_of command))
    (λ command is rest tokens are none. ended_own start piece rest tokens found (own_of command) are none none_found is t behind ends all) own
