-- Tokens that are divided at semicolons: their pieces are those of the parts, and so are their commands.
use Rattle.std.proofs.Common.{◌≡◌, Bool, true, false, cond, List, [], ◌∷◌, ◌++◌, append-nil, filter, length, refl, sym, ap, subst, ◌∙◌, inl, inr, arith}
use Rattle.std.proofs.lemmas.List.Elements.{filter-append, All-from_recursion}
use Rattle.lam_token.specs.Lexeme.{Lexeme}
use Rattle.lam_syntax.specs.Trees.{word, CommandTree, definition, declaration, abbreviation, evaluation}
use Rattle.lam_syntax.specs.Grammar.{Spells}
use Rattle.lam_syntax.specs.Answers.{is_semicolon, onto_first, runs_of, has_tokens, pieces_of}
use Rattle.lam_syntax.specs.inner.Reads.{with_piece}
use Rattle.lam_syntax.proofs.Runs.{GoesOn, piece_ended, last_piece}
use Rattle.lam_query.specs.Commands.{AreCommandsOf}
use Rattle.lam_query.specs.inner.OnePiece.{EndInSemicolon, BeginWithSemicolon, HaveNoSemicolon, IsOwnOf, one_command, no_command}
use Rattle.lam_query.proofs.OneAnswer.{one_commands}
use Rattle.lam_query.proofs.Spans.{term_place, in_command}
use Rattle.lam_query.proofs.TreePlaces.{InCommand}

-- ---- pieces

-- The runs of tokens and of others behind them: these runs, and then those of the others.
abbrev AreRunsBefore : Lexeme → List Lexeme → Type 0
AreRunsBefore t ts =
    (run : List Lexeme) × (runs : List (List Lexeme)) × ((more : List Lexeme) → runs_of (t ∷ (ts ++ more)) ≡ (run ∷ runs) ++ runs_of more)

-- there are such runs where the last token is a semicolon
ended : (t : Lexeme) (ts : List Lexeme) → EndInSemicolon (t ∷ ts) → AreRunsBefore t ts
ended t [] ends = ([], [], λ more. ap (λ b. cond b ([] ∷ runs_of more) (onto_first t (runs_of more))) ends)
ended t (u ∷ ts) ends = by (ended u ts ends) (is_semicolon t) refl
  where
    here : (more : List Lexeme) {b : Bool} → is_semicolon t ≡ b
        → runs_of (t ∷ (u ∷ (ts ++ more))) ≡ cond b ([] ∷ runs_of (u ∷ (ts ++ more))) (onto_first t (runs_of (u ∷ (ts ++ more))))
    here more is = let others = runs_of (u ∷ (ts ++ more)) in ap (λ b. cond b ([] ∷ others) (onto_first t others)) is

    by : AreRunsBefore u ts → (b : Bool) → is_semicolon t ≡ b → AreRunsBefore t (u ∷ ts)
    by rest true is = ([], rest.0 ∷ rest.1, λ more. here more is ∙ ap (λ rs. [] ∷ rs) (rest.2 more))
    by rest false is = (t ∷ rest.0, rest.1, λ more. here more is ∙ ap (onto_first t) (rest.2 more))

pub pieces_joined : (front more : List Lexeme) → EndInSemicolon front → pieces_of (front ++ more) ≡ pieces_of front ++ pieces_of more
pieces_joined [] more ends = refl
pieces_joined (t ∷ ts) more ends =
    let rest = ended t ts ends in
    let runs = rest.0 ∷ rest.1 in
    let alone : pieces_of (t ∷ ts) ≡ filter has_tokens runs =
    ap pieces_of (sym (append-nil (t ∷ ts))) ∙ ap (filter has_tokens) (rest.2 [])
    ∙ filter-append has_tokens runs ([] ∷ []) ∙ append-nil (filter has_tokens runs) in
    ap (filter has_tokens) (rest.2 more) ∙ filter-append has_tokens runs (runs_of more) ∙ ap (λ ps. ps ++ pieces_of more) (sym alone)

-- a semicolon in front is no part of a piece
pub semicolon_passed : (t : Lexeme) (ts : List Lexeme) → is_semicolon t ≡ true → pieces_of (t ∷ ts) ≡ pieces_of ts
semicolon_passed t ts ends = ap (λ b. filter has_tokens (cond b ([] ∷ runs_of ts) (onto_first t (runs_of ts)))) ends

pub piece_first : (piece behind : List Lexeme) → HaveNoSemicolon piece → BeginWithSemicolon behind
    → pieces_of (piece ++ behind) ≡ with_piece piece (pieces_of behind)
piece_first piece [] none begins = ap pieces_of (append-nil piece) ∙ last_piece piece (All-from_recursion GoesOn piece none)
piece_first piece (t ∷ behind) none begins =
    piece_ended piece behind t (All-from_recursion GoesOn piece none) begins
    ∙ ap (with_piece piece) (sym (semicolon_passed t behind begins))

pub pieces_behind : (front piece behind : List Lexeme) → EndInSemicolon front → HaveNoSemicolon piece → BeginWithSemicolon behind
    → pieces_of (front ++ (piece ++ behind)) ≡ pieces_of front ++ with_piece piece (pieces_of behind)
pieces_behind front piece behind ends none begins =
    pieces_joined front (piece ++ behind) ends ∙ ap (λ ps. pieces_of front ++ ps) (piece_first piece behind none begins)

-- the last piece, before a semicolon and at the end

pub ended_pieces : (front piece : List Lexeme) (t : Lexeme) → EndInSemicolon front → HaveNoSemicolon piece → is_semicolon t ≡ true
    → pieces_of (front ++ (piece ++ t ∷ [])) ≡ pieces_of front ++ with_piece piece []
ended_pieces front piece t ends none is =
    pieces_behind front piece (t ∷ []) ends none is ∙ ap (λ ps. pieces_of front ++ with_piece piece ps) (semicolon_passed t [] is)

pub last_pieces : (front piece : List Lexeme) → EndInSemicolon front → HaveNoSemicolon piece
    → pieces_of (front ++ piece) ≡ pieces_of front ++ with_piece piece []
last_pieces front piece ends none =
    ap (λ ts. pieces_of (front ++ ts)) (sym (append-nil piece)) ∙ pieces_behind front piece [] ends none tt

-- one token more

pub semicolon_pushed : (ts : List Lexeme) (t : Lexeme) → is_semicolon t ≡ true → EndInSemicolon (ts ++ t ∷ [])
semicolon_pushed [] t is = is
semicolon_pushed (u ∷ []) t is = is
semicolon_pushed (u ∷ v ∷ ts) t is = semicolon_pushed (v ∷ ts) t is

pub other_pushed : (ts : List Lexeme) (t : Lexeme) → HaveNoSemicolon ts → is_semicolon t ≡ false → HaveNoSemicolon (ts ++ t ∷ [])
other_pushed [] t none is = (is, tt)
other_pushed (u ∷ ts) t none is = (none.0, other_pushed ts t none.1 is)

-- ---- commands

pub commands_joined : (ps qs : List (List Lexeme)) (before after : List CommandTree) → AreCommandsOf ps before → AreCommandsOf qs after
    → AreCommandsOf (ps ++ qs) (before ++ after)
commands_joined [] qs before after are rest = subst (λ cs. AreCommandsOf qs (cs ++ after)) (sym are) rest
commands_joined (p ∷ ps) qs before after (inl are) rest =
    inl (are.0, are.1 ++ after, ap (λ cs. cs ++ after) are.2, are.3, commands_joined ps qs are.1 after are.4 rest)
commands_joined (p ∷ ps) qs before after (inr are) rest = inr (are.0, commands_joined ps qs before after are.1 rest)

-- no tokens are no command

placed_nowhere : (c : CommandTree) → InCommand (λ s. ⊥) c → ⊥
placed_nowhere (definition (word x s) t) h = h.0
placed_nowhere (declaration (word x s) u) h = h.0
placed_nowhere (abbreviation (word x s) u) h = h.0
placed_nowhere (evaluation t) h = term_place (λ s. ⊥) t h

nothing_spelled : (c : CommandTree) → Spells [] c → ⊥
nothing_spelled c spelled = placed_nowhere c (in_command (λ s. ⊥) (λ a b none also. none) [] c spelled tt)

pub own_first : (piece : List Lexeme) (ps : List (List Lexeme)) (own after : List CommandTree) → IsOwnOf piece own → AreCommandsOf ps after
    → AreCommandsOf (with_piece piece ps) (own ++ after)
own_first [] ps _ after (one_command {c = c} is) are = absurd (nothing_spelled c is.spelled)
own_first [] ps _ after (no_command none) are = are
own_first (t ∷ ts) ps _ after (one_command {c = c} is) are = inl (c, after, refl, is, are)
own_first (t ∷ ts) ps _ after (no_command none) are = inr (none, are)

pub own_last : (piece : List Lexeme) (own : List CommandTree) → IsOwnOf piece own → AreCommandsOf (with_piece piece []) own
own_last piece own is = subst (AreCommandsOf (with_piece piece [])) (append-nil own) (own_first piece [] own [] is refl)

pub no_tokens_own : (piece : List Lexeme) → length piece ≡ 0 → IsOwnOf piece []
no_tokens_own [] none = no_command (λ c is. nothing_spelled c is.spelled)
no_tokens_own (t ∷ ts) none = absurd (omega arith)

-- the commands of tokens in front of a piece, its own and those behind it are all
pub commands_around : (front piece behind : List Lexeme) (commands before own after : List CommandTree)
    → EndInSemicolon front → HaveNoSemicolon piece → BeginWithSemicolon behind
    → AreCommandsOf (pieces_of front) before → IsOwnOf piece own → AreCommandsOf (pieces_of behind) after
    → AreCommandsOf (pieces_of (front ++ (piece ++ behind))) commands → commands ≡ before ++ (own ++ after)
commands_around front piece behind commands before own after ends none begins are_before is_own are_after are =
    let cut = pieces_behind front piece behind ends none begins in
    let ps = pieces_of front ++ with_piece piece (pieces_of behind) in
    let joined = commands_joined (pieces_of front) (with_piece piece (pieces_of behind)) before (own ++ after) are_before
    (own_first piece (pieces_of behind) own after is_own are_after) in
    one_commands ps commands (before ++ (own ++ after)) (subst (λ qs. AreCommandsOf qs commands) cut are) joined
