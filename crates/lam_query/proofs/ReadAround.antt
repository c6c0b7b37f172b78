-- The tokens of a piece around a cursor, with a name between them, while they are read.
use Rattle.std.proofs.Common.{◌≡◌, ℕ, ◌+◌, List, [], ◌∷◌, ◌++◌, append_assoc, Bool, true, false, cond, refl, sym, ap, ◌∙◌, subst, arith}
use Rattle.std.specs.Prelude.{filter, codes}
use Rattle.lam_token.specs.declared.kind.Kind.TheVariants as kind
use Rattle.lam_token.specs.Lexeme.{Lexeme, lexeme, lexeme_at, start_of, end_of}
use Rattle.lam_token.proofs.Cuts.{one_list_from}
use Rattle.lam_token.proofs.SomeCut.{tokens_at, are_tokens_at}
use Rattle.lam_syntax.specs.Answers.{ends_piece, is_semicolon}
use Rattle.lam_syntax.specs.Trees.{CommandTree}
use Rattle.lam_scope.specs.Nesting.{TokensStand}
use Rattle.lam_scope.proofs.SpelledTerms.{tokens_go_on}
use Rattle.lam_query.specs.Completions.{is_in_front, is_behind, with_label}
use Rattle.lam_query.specs.inner.OnePiece.{HaveNoSemicolon, IsOwnOf, ArePieceTokens, before_semicolon, at_end}
use Rattle.lam_query.specs.inner.Reading.{with_name_unless, AreHeldAround}
use Rattle.lam_query.proofs.StandingTokens.{first_stands, stands_alone, ends_in_front, begins_behind, not_behind, none_in_front, stands_at}

-- ---- a piece up to its semicolon

-- the tokens in front of the first semicolon
abbrev pub unended : List Lexeme → List Lexeme
unended [] = []
unended (t ∷ ts) = cond (is_semicolon t) [] (t ∷ unended ts)

pub none_unended : (tokens : List Lexeme) → tokens ≡ [] → unended tokens ≡ []
none_unended tokens none = ap unended none

pub unended_more : (tokens left : List Lexeme) (t : Lexeme) → tokens ≡ t ∷ left → is_semicolon t ≡ false → unended tokens ≡ t ∷ unended left
unended_more tokens left t first is = ap unended first ∙ ap (λ b. cond b [] (t ∷ unended left)) is

pub unended_ends : (tokens left : List Lexeme) (t : Lexeme) → tokens ≡ t ∷ left → is_semicolon t ≡ true → unended tokens ≡ []
unended_ends tokens left t first is = ap unended first ∙ ap (λ b. cond b [] (t ∷ unended left)) is

unended_stands : (low high : ℕ) (ts : List Lexeme) → TokensStand low ts high → TokensStand low (unended ts) high
unended_stands low high [] h = h
unended_stands low high (lexeme k x s ∷ ts) h = by (unended_stands s.end high ts h.2) (is_semicolon (lexeme k x s))
  where
    by : TokensStand s.end (unended ts) high → (b : Bool) → TokensStand low (cond b [] (lexeme k x s ∷ unended ts)) high
    by rest true = tokens_go_on low high (lexeme k x s ∷ ts) h
    by rest false = (h.0, h.1, rest)

-- where a text goes on with a token that is no semicolon, those up to the semicolon stand
pub next_stands : (place : ℕ) (rest : List ℕ) (left : List Lexeme) (t : Lexeme) → tokens_at place rest ≡ t ∷ left → is_semicolon t ≡ false
    → TokensStand place (t ∷ unended left) (stands_at place rest).0
next_stands place rest left t first is =
    let stand = stands_at place rest in
    subst (λ ts. TokensStand place ts stand.0) (unended_more (tokens_at place rest) left t first is) (unended_stands place stand.0 (tokens_at place rest) stand.1)

unended_all : (ts : List Lexeme) → HaveNoSemicolon ts → unended ts ≡ ts
unended_all [] h = refl
unended_all (t ∷ ts) h = ap (λ b. cond b [] (t ∷ unended ts)) h.0 ∙ ap (λ us. t ∷ us) (unended_all ts h.1)

unended_front : (ts : List Lexeme) (t : Lexeme) → HaveNoSemicolon ts → is_semicolon t ≡ true → unended (ts ++ t ∷ []) ≡ ts
unended_front [] t h is = ap (λ b. cond b [] (t ∷ [])) is
unended_front (u ∷ ts) t h is = ap (λ b. cond b [] (u ∷ unended (ts ++ t ∷ []))) h.0 ∙ ap (λ us. u ∷ us) (unended_front ts t h.1 is)

unended_piece : (start : ℕ) (piece rest : List ℕ) (tokens : List Lexeme) → ArePieceTokens start piece rest tokens → HaveNoSemicolon tokens → unended (tokens_at start piece) ≡ tokens
unended_piece start piece rest tokens (before_semicolon t are kind ends) none =
    ap unended (one_list_from start piece (tokens ++ t ∷ []) (tokens_at start piece) are (are_tokens_at start piece)) ∙ unended_front tokens t none (ap ends_piece kind)
unended_piece start piece rest tokens (at_end are ends) none =
    ap unended (one_list_from start piece tokens (tokens_at start piece) are (are_tokens_at start piece)) ∙ unended_all tokens none

-- ---- all tokens around the cursor, and the name

abbrev pub named : (offset dot : ℕ) → List Lexeme → List Lexeme
named o dot tokens = filter (is_in_front o) tokens ++ with_name_unless false dot (filter (is_behind o) tokens)

-- they are the tokens with that label behind the dot
pub own_named : (start : ℕ) (piece rest : List ℕ) (tokens : List Lexeme) (o dot : ℕ) (t : Lexeme) (own : List CommandTree)
    → ArePieceTokens start piece rest tokens → HaveNoSemicolon tokens → dot ≡ start_of t
    → IsOwnOf (named o dot (unended (tokens_at start piece))) own → IsOwnOf (with_label o t (codes "a") tokens) own
own_named start piece rest tokens o dot t own are none is is_own =
    let here : named o dot (unended (tokens_at start piece)) ≡ named o dot tokens = ap (named o dot) (unended_piece start piece rest tokens are none) in
    let there : named o dot tokens ≡ with_label o t (codes "a") tokens =
    ap (λ start. filter (is_in_front o) tokens ++ lexeme kind.Name (codes "a") (record { start = start; end = start + 1 }) ∷ filter (is_behind o) tokens) is in
    subst (λ ts. IsOwnOf ts own) (here ∙ there) is_own

-- nothing was read yet
pub none_held : (o dot : ℕ) (tokens held : List Lexeme) → held ≡ [] → AreHeldAround (named o dot tokens) o dot false held tokens
none_held o dot tokens held none = record { are_all = ap (λ ts. ts ++ named o dot tokens) (sym none); none_in_front = λ taken. absurd cc }

-- one in front of the cursor
pub front_held : (all left held now : List Lexeme) (o dot low high : ℕ) (taken : Bool) (t : Lexeme) → is_in_front o t ≡ true → now ≡ held ++ t ∷ []
    → TokensStand low (t ∷ left) high → AreHeldAround all o dot taken held (t ∷ left) → AreHeldAround all o dot taken now left
front_held all left held now o dot low high taken t front pushed stands h =
    let stand = first_stands low high t left stands in
    let some = stand.1 in
    let ends = ends_in_front o t front in
    let other = not_behind o t (omega (arith, some, ends)) in
    let others = filter (is_in_front o) left ++ with_name_unless taken dot (filter (is_behind o) left) in
    let before : all ≡ held ++ t ∷ others = rw (front, other) at h.are_all in
    record {
      are_all = before ∙ sym (append_assoc held (t ∷ []) others) ∙ ap (λ ts. ts ++ others) (sym pushed);
      none_in_front = λ is. let clash : t ∷ filter (is_in_front o) left ≡ [] = rw front at (h.none_in_front is) in absurd cc;
    }

-- one that is neither in front of it nor behind it
pub other_held : (all left held : List Lexeme) (o dot : ℕ) (taken : Bool) (t : Lexeme) → is_in_front o t ≡ false → is_behind o t ≡ false
    → AreHeldAround all o dot taken held (t ∷ left) → AreHeldAround all o dot taken held left
other_held all left held o dot taken t front behind h = record {
  are_all = rw (front, behind) at h.are_all;
  none_in_front = λ is. rw front at (h.none_in_front is);
}

-- the tokens that are held, with the name unless it was taken
abbrev pub with_name : (taken : Bool) → (dot : ℕ) → List Lexeme → List Lexeme
with_name true dot held = held
with_name false dot held = held ++ lexeme_at kind.Name (codes "a") dot ∷ []

pub name_pushed : (taken : Bool) (dot : ℕ) (held now : List Lexeme) (t : Lexeme) → taken ≡ false → t ≡ lexeme_at kind.Name (codes "a") dot → now ≡ held ++ t ∷ [] → now ≡ with_name taken dot held
name_pushed taken dot held now t is name pushed = rw is (pushed ∙ ap (λ u. held ++ u ∷ []) name)

pub name_there : (taken : Bool) (dot : ℕ) (held : List Lexeme) → taken ≡ true → held ≡ with_name taken dot held
name_there taken dot held is = rw is refl

name_held : (taken : Bool) (dot : ℕ) (held left : List Lexeme) → held ++ with_name_unless taken dot left ≡ with_name taken dot held ++ left
name_held true dot held left = refl
name_held false dot held left = sym (append_assoc held (lexeme_at kind.Name (codes "a") dot ∷ []) left)

-- one behind it
pub behind_held : (all left held named_by now : List Lexeme) (o dot low high : ℕ) (taken : Bool) (t : Lexeme) → is_behind o t ≡ true
    → named_by ≡ with_name taken dot held → now ≡ named_by ++ t ∷ []
    → TokensStand low (t ∷ left) high → AreHeldAround all o dot taken held (t ∷ left) → AreHeldAround all o dot true now left
behind_held all left held named_by now o dot low high taken t behind names pushed stands h =
    let stand = first_stands low high t left stands in
    let some = stand.1 in
    let begins = begins_behind o t behind in
    let none : filter (is_in_front o) (t ∷ left) ≡ [] = none_in_front o (start_of t) high (t ∷ left) begins (stands_alone low high (start_of t) t left (omega arith) stands) in
    let none_later : filter (is_in_front o) left ≡ [] = none_in_front o (end_of t) high left (omega (arith, some, begins)) stand.2 in
    let later = filter (is_behind o) left in
    let all_behind : filter (is_behind o) (t ∷ left) ≡ t ∷ later = rw behind refl in
    let before : all ≡ held ++ with_name_unless taken dot (t ∷ later) =
    h.are_all ∙ (λ i. held ++ (none i ++ with_name_unless taken dot (all_behind i))) in
    let after : all ≡ now ++ later =
    before ∙ name_held taken dot held (t ∷ later) ∙ ap (λ ts. ts ++ t ∷ later) (sym names) ∙ sym (append_assoc named_by (t ∷ []) later) ∙ ap (λ ts. ts ++ later) (sym pushed) in
    record { are_all = after ∙ ap (λ us. now ++ (us ++ later)) (sym none_later); none_in_front = λ is. none_later }

-- no token is left
pub all_held : (all held now left : List Lexeme) (o dot : ℕ) (taken : Bool) → left ≡ [] → now ≡ with_name taken dot held → AreHeldAround all o dot taken held left → now ≡ all
all_held all held now left o dot taken none names h =
    let before : all ≡ held ++ with_name_unless taken dot [] = rw none at h.are_all in
    names ∙ sym (before ∙ name_held taken dot held [] ∙ append_nil (with_name taken dot held))
  where
    append_nil : (ts : List Lexeme) → ts ++ [] ≡ ts
    append_nil [] = refl
    append_nil (t ∷ ts) = ap (λ us. t ∷ us) (append_nil ts)
