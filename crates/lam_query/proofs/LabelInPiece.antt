-- The dot before the cursor and a label behind it, among the tokens of the cursor's piece and among those of the whole text.
use Rattle.std.proofs.Common.{◌≡◌, ◌⊎◌, inl, inr, ℕ, ◌+◌, ◌<◌, ◌≤◌, arith, Bool, true, false, cond, not, ltb, List, [], ◌∷◌, ◌++◌, append-nil, append_assoc, length, take, drop, slice_range, Option, Some, None, if◌then◌else◌, refl, ap, sym, subst, ◌∙◌}
use Rattle.std.specs.Prelude.{◌&&◌, ◌||◌, filter}
use Rattle.std.specs.Option.{option_map, option_and_then}
use Rattle.std.specs.List.{AllByRecursion, last_or, list_any}
use Rattle.std.specs.Str.{IsUtf8}
use Rattle.std.proofs.lemmas.List.{length-append, length-take-le}
use Rattle.std.proofs.lemmas.List.Elements.{filter-append}
use Rattle.std.proofs.lemmas.List.Folds.{list_any-append}
use Rattle.lam_token.specs.declared.kind.Kind.TheVariants as kind
use Rattle.lam_token.specs.Lexeme.{Lexeme, lexeme, kind_of, start_of, end_of}
use Rattle.lam_token.specs.Cut.{AreTokensFrom, AreTokensOf}
use Rattle.lam_token.proofs.Cuts.{one_list}
use Rattle.lam_token.proofs.Divided.{divided_from, ends_append}
use Rattle.lam_token.proofs.SomeCut.{tokens_at, are_tokens_at}
use Rattle.lam_rules.specs.Types.{Label}
use Rattle.lam_syntax.specs.Answers.{is_semicolon, ends_piece}
use Rattle.lam_syntax.specs.Trees.{CommandTree}
use Rattle.lam_scope.specs.Nesting.{TokensStand}
use Rattle.lam_scope.proofs.EveryElement.{every_append, every_parts}
use Rattle.lam_query.specs.declared.analyses.Analysis.{Analysis}
use Rattle.lam_query.specs.declared.pieces.PieceAt.{PieceAt}
use Rattle.lam_query.specs.Completions.{is_touched, is_around, is_in_front, is_behind, if_dot, dot_before, with_label}
use Rattle.lam_query.specs.inner.Around.{IsPieceAround}
use Rattle.lam_query.specs.inner.OnePiece.{EndInSemicolon, HaveNoSemicolon, ArePieceTokens, before_semicolon, at_end}
use Rattle.lam_query.proofs.InText.{IsInText}
use Rattle.lam_query.proofs.Innermost.{text_stands}
use Rattle.lam_query.proofs.LabelledTokens.{dot_is_last}
use Rattle.lam_query.proofs.PieceOfText.{front_joined, no_tokens}
use Rattle.lam_query.proofs.StandingTokens.{ends_in_front, begins_behind, not_in_front, not_behind}

-- ---- where all tokens are in front of the cursor, or all behind it

abbrev Passes : (Lexeme → Bool) → List Lexeme → Type 0
Passes test = AllByRecursion (λ t. test t ≡ true)

abbrev Fails : (Lexeme → Bool) → List Lexeme → Type 0
Fails test = AllByRecursion (λ t. test t ≡ false)

abbrev AreSome : List Lexeme → Type 0
AreSome = AllByRecursion (λ t. start_of t < end_of t)

all_some : (low high : ℕ) (ts : List Lexeme) → TokensStand low ts high → AreSome ts
all_some low high [] h = tt
all_some low high (lexeme k x s ∷ ts) h = (h.1, all_some s.end high ts h.2)

filter_all : (test : Lexeme → Bool) (ts : List Lexeme) → Passes test ts → filter test ts ≡ ts
filter_all test [] h = refl
filter_all test (t ∷ ts) h = (λ i. cond (h.0 i) (t ∷ filter test ts) (filter test ts)) ∙ ap (λ us. t ∷ us) (filter_all test ts h.1)

filter_none : (test : Lexeme → Bool) (ts : List Lexeme) → Fails test ts → filter test ts ≡ []
filter_none test [] h = refl
filter_none test (t ∷ ts) h = (λ i. cond (h.0 i) (t ∷ filter test ts) (filter test ts)) ∙ filter_none test ts h.1

any_none : (test : Lexeme → Bool) (ts : List Lexeme) → Fails test ts → list_any test ts ≡ false
any_none test [] h = refl
any_none test (t ∷ ts) h = (λ i. h.0 i || list_any test ts) ∙ any_none test ts h.1

-- the cursor is not inside of such tokens

front_apart : (o : ℕ) (t : Lexeme) → is_in_front o t ≡ true → is_around o t ≡ false
front_apart o t is = by (is_touched o t) (ltb o (end_of t)) (ltb (start_of t) o) is
  where
    by : (a b c : Bool) → (not a && not b) ≡ true → (not a && (c && b)) ≡ false
    by false false false both = refl
    by false false true both = refl
    by false true c both = absurd cc
    by true b c both = refl

behind_apart : (o : ℕ) (t : Lexeme) → is_behind o t ≡ true → is_around o t ≡ false
behind_apart o t is = by (is_touched o t) (ltb (start_of t) o) (ltb o (end_of t)) is
  where
    by : (a b c : Bool) → (not a && not b) ≡ true → (not a && (b && c)) ≡ false
    by false false c both = refl
    by false true c both = absurd cc
    by true b c both = refl

all_front_apart : (o : ℕ) (ts : List Lexeme) → Passes (is_in_front o) ts → Fails (is_around o) ts
all_front_apart o [] h = tt
all_front_apart o (t ∷ ts) h = (front_apart o t h.0, all_front_apart o ts h.1)

all_behind_apart : (o : ℕ) (ts : List Lexeme) → Passes (is_behind o) ts → Fails (is_around o) ts
all_behind_apart o [] h = tt
all_behind_apart o (t ∷ ts) h = (behind_apart o t h.0, all_behind_apart o ts h.1)

-- none is both in front of it and behind it

behind_not_front : (o : ℕ) (t : Lexeme) → start_of t < end_of t → is_behind o t ≡ true → is_in_front o t ≡ false
behind_not_front o t some is = not_in_front o t (omega (arith, some, begins_behind o t is))

none_front : (o : ℕ) (ts : List Lexeme) → AreSome ts → Passes (is_behind o) ts → Fails (is_in_front o) ts
none_front o [] some h = tt
none_front o (t ∷ ts) some h = (behind_not_front o t some.0 h.0, none_front o ts some.1 h.1)

none_behind : (o : ℕ) (ts : List Lexeme) → AreSome ts → Passes (is_in_front o) ts → Fails (is_behind o) ts
none_behind o [] some h = tt
none_behind o (t ∷ ts) some h = (not_behind o t (omega (arith, some.0, ends_in_front o t h.0)), none_behind o ts some.1 h.1)

-- ---- the dot before the cursor

last_dot : (p q : Option Lexeme) (ts : List Lexeme) → option_and_then if_dot p ≡ None → option_and_then if_dot q ≡ None
    → option_and_then if_dot (last_or p ts) ≡ option_and_then if_dot (last_or q ts)
last_dot p q [] none none' = none ∙ sym none'
last_dot p q (t ∷ ts) none none' = refl

no_dot : (t : Lexeme) → is_semicolon t ≡ true → if_dot t ≡ None
no_dot (lexeme kind.Dot x s) is = absurd cc
no_dot t is = refl

ends_without : (ts : List Lexeme) → EndInSemicolon ts → option_and_then if_dot (last_or None ts) ≡ None
ends_without [] ends = refl
ends_without (t ∷ []) ends = no_dot t ends
ends_without (t ∷ u ∷ ts) ends = ends_without (u ∷ ts) ends

last_append : (p : Option Lexeme) (ts us : List Lexeme) → last_or p (ts ++ us) ≡ last_or (last_or p ts) us
last_append p [] us = refl
last_append p (t ∷ ts) us = last_append (Some t) ts us

-- what is found among tokens, by whether the cursor is inside of one and by those in front of it
abbrev found_by : Bool → List Lexeme → Option Lexeme
found_by around front = if around then None else option_and_then if_dot (last_or None front)

none_found : (around : Bool) → found_by around [] ≡ None
none_found true = refl
none_found false = refl

module _ (o : ℕ) (front own behind : List Lexeme) (some : AreSome (front ++ (own ++ behind))) (in_front : Passes (is_in_front o) front) (are_behind : Passes (is_behind o) behind) where
  parts : AreSome front × AreSome own × AreSome behind
  parts =
      let one = every_parts (λ t. start_of t < end_of t) front (own ++ behind) some in
      let two = every_parts (λ t. start_of t < end_of t) own behind one.1 in
      (one.0, two.0, two.1)

  fronts : filter (is_in_front o) (front ++ (own ++ behind)) ≡ front ++ filter (is_in_front o) own
  fronts =
      filter-append (is_in_front o) front (own ++ behind)
      ∙ ap (λ ts. ts ++ filter (is_in_front o) (own ++ behind)) (filter_all (is_in_front o) front in_front)
      ∙ ap (λ ts. front ++ ts)
      (filter-append (is_in_front o) own behind ∙ ap (λ ts. filter (is_in_front o) own ++ ts) (filter_none (is_in_front o) behind (none_front o behind parts.2 are_behind))
      ∙ append-nil (filter (is_in_front o) own))

  behinds : filter (is_behind o) (front ++ (own ++ behind)) ≡ filter (is_behind o) own ++ behind
  behinds =
      filter-append (is_behind o) front (own ++ behind)
      ∙ ap (λ ts. ts ++ filter (is_behind o) (own ++ behind)) (filter_none (is_behind o) front (none_behind o front parts.0 in_front))
      ∙ filter-append (is_behind o) own behind
      ∙ ap (λ ts. filter (is_behind o) own ++ ts) (filter_all (is_behind o) behind are_behind)

  arounds : list_any (is_around o) (front ++ (own ++ behind)) ≡ list_any (is_around o) own
  arounds =
      list_any-append (is_around o) front (own ++ behind)
      ∙ ap (λ b. b || list_any (is_around o) (own ++ behind)) (any_none (is_around o) front (all_front_apart o front in_front))
      ∙ list_any-append (is_around o) own behind
      ∙ ap (λ b. list_any (is_around o) own || b) (any_none (is_around o) behind (all_behind_apart o behind are_behind))
      ∙ or_false (list_any (is_around o) own)
    where
      or_false : (b : Bool) → (b || false) ≡ b
      or_false true = refl
      or_false false = refl

  -- the dot before the cursor is the one among the tokens of the piece
  pub dot_within : EndInSemicolon front → dot_before o (front ++ (own ++ behind)) ≡ dot_before o own
  dot_within ends =
      (λ i. found_by (arounds i) (fronts i))
      ∙ ap (λ p. if list_any (is_around o) own then None else option_and_then if_dot p) (last_append None front (filter (is_in_front o) own))
      ∙ ap (λ d. if list_any (is_around o) own then None else d) (last_dot (last_or None front) None (filter (is_in_front o) own) (ends_without front ends) refl)

  -- and the label comes among these
  pub label_within : (t : Lexeme) (l : Label) → with_label o t l (front ++ (own ++ behind)) ≡ front ++ (with_label o t l own ++ behind)
  label_within t l =
      let name = lexeme kind.Name l (record { start = start_of t; end = start_of t + 1 }) in
      let us = filter (is_in_front o) own in
      let vs = filter (is_behind o) own in
      (λ i. fronts i ++ name ∷ behinds i)
      ∙ append_assoc front us (name ∷ (vs ++ behind))
      ∙ ap (λ ts. front ++ ts) (sym (append_assoc us (name ∷ vs) behind))

-- what holds of all tokens holds of the dot

last_holds : (P : Lexeme → Type 0) (test : Lexeme → Bool) (before : Option Lexeme) (ts : List Lexeme) (t : Lexeme) → ((u : Lexeme) → before ≡ Some u → P u) → AllByRecursion P ts
    → last_or before (filter test ts) ≡ Some t → P t
last_holds P test before [] t own h is = own t is
last_holds P test before (u ∷ ts) t own h is =
    by (last_holds P test (Some u) ts t (λ v same. let e : u ≡ v = cc in subst P e h.0) h.1) (last_holds P test before ts t own h.1) (test u) is
  where
    by : (last_or (Some u) (filter test ts) ≡ Some t → P t) → (last_or before (filter test ts) ≡ Some t → P t)
        → (b : Bool) → last_or before (cond b (u ∷ filter test ts) (filter test ts)) ≡ Some t → P t
    by with without true found = with found
    by with without false found = without found

pub dot_holds : (P : Lexeme → Type 0) (o : ℕ) (ts : List Lexeme) (t : Lexeme) → AllByRecursion P ts → dot_before o ts ≡ Some t → P t
dot_holds P o ts t h is = last_holds P (is_in_front o) None ts t (λ u same. absurd cc) h (dot_is_last o ts t is).last

pub dot_kind : (o : ℕ) (ts : List Lexeme) (t : Lexeme) → dot_before o ts ≡ Some t → kind_of t ≡ kind.Dot
dot_kind o ts t is = (dot_is_last o ts t is).dot

-- with a label tokens have no semicolon if they had none

some_go_on : (test : Lexeme → Bool) (ts : List Lexeme) → HaveNoSemicolon ts → HaveNoSemicolon (filter test ts)
some_go_on test [] h = tt
some_go_on test (t ∷ ts) h = by (some_go_on test ts h.1) (test t)
  where
    by : HaveNoSemicolon (filter test ts) → (b : Bool) → HaveNoSemicolon (cond b (t ∷ filter test ts) (filter test ts))
    by rest true = (h.0, rest)
    by rest false = rest

pub label_goes_on : (o : ℕ) (t : Lexeme) (l : Label) (ts : List Lexeme) → HaveNoSemicolon ts → HaveNoSemicolon (with_label o t l ts)
label_goes_on o t l ts none =
    every_append (λ u. is_semicolon u ≡ false) (filter (is_in_front o) ts) (lexeme kind.Name l (record { start = start_of t; end = start_of t + 1 }) ∷ filter (is_behind o) ts)
    (some_go_on (is_in_front o) ts none) (refl, some_go_on (is_behind o) ts none)

-- ---- with the semicolon that ends the piece

-- one that is behind the cursor, or ends a text in which nothing else follows
module _ (o : ℕ) (own : List Lexeme) (t : Lexeme) (semicolon : is_semicolon t ≡ true) where
  behind_passed : start_of t < end_of t → is_behind o t ≡ true → dot_before o (own ++ t ∷ []) ≡ dot_before o own
  behind_passed some is =
      let front : filter (is_in_front o) (own ++ t ∷ []) ≡ filter (is_in_front o) own =
      filter-append (is_in_front o) own (t ∷ []) ∙ ap (λ ts. filter (is_in_front o) own ++ ts) (filter_none (is_in_front o) (t ∷ []) (behind_not_front o t some is, tt))
      ∙ append-nil (filter (is_in_front o) own) in
      let around : list_any (is_around o) (own ++ t ∷ []) ≡ list_any (is_around o) own =
      list_any-append (is_around o) own (t ∷ []) ∙ ap (λ b. list_any (is_around o) own || b) (any_none (is_around o) (t ∷ []) (behind_apart o t is, tt))
      ∙ or_false (list_any (is_around o) own) in
      λ i. found_by (around i) (front i)
    where
      or_false : (b : Bool) → (b || false) ≡ b
      or_false true = refl
      or_false false = refl

  alone_passed : own ≡ [] → dot_before o (own ++ t ∷ []) ≡ dot_before o own
  alone_passed none = ap (λ ts. dot_before o (ts ++ t ∷ [])) none ∙ by (is_around o t) (is_in_front o t) ∙ ap (dot_before o) (sym none)
    where
      by : (a b : Bool) → found_by (a || false) (cond b (t ∷ []) []) ≡ None
      by true b = refl
      by false true = no_dot t semicolon
      by false false = refl

middle_holds : (P : Lexeme → Type 0) (ts us : List Lexeme) (t : Lexeme) → AllByRecursion P (ts ++ t ∷ us) → P t
middle_holds P [] us t h = h.0
middle_holds P (u ∷ ts) us t h = middle_holds P ts us t h.1

last_of : (P : Lexeme → Type 0) (u : Lexeme) (ts : List Lexeme) → AllByRecursion P (u ∷ ts) → (t : Lexeme) → last_or (Some u) ts ≡ Some t → P t
last_of P u [] h t is = let e : u ≡ t = cc in subst P e h.0
last_of P u (v ∷ ts) h t is = last_of P v ts h.1 t is

-- The tokens of a text are divided in two ways: into those in front of the cursor, the piece's own and those behind it; and around the piece's own and its semicolon.
module _ (o : ℕ) (front own behind others more : List Lexeme) (t : Lexeme) (semicolon : is_semicolon t ≡ true) (goes_on : HaveNoSemicolon own)
    (some : AreSome (front ++ (own ++ behind))) (in_front : Passes (is_in_front o) front) (are_behind : Passes (is_behind o) behind)
    (same : front ++ (own ++ behind) ≡ others ++ (own ++ t ∷ more)) where
  abbrev IsPlaced : Lexeme → Type 0
  IsPlaced u = (is_in_front o u ≡ true) ⊎ ((is_semicolon u ≡ false) ⊎ (is_behind o u ≡ true))

  front_placed : (ts : List Lexeme) → Passes (is_in_front o) ts → AllByRecursion IsPlaced ts
  front_placed [] h = tt
  front_placed (u ∷ ts) h = (inl h.0, front_placed ts h.1)

  own_placed : (ts : List Lexeme) → HaveNoSemicolon ts → AllByRecursion IsPlaced ts
  own_placed [] h = tt
  own_placed (u ∷ ts) h = (inr (inl h.0), own_placed ts h.1)

  behind_placed : (ts : List Lexeme) → Passes (is_behind o) ts → AllByRecursion IsPlaced ts
  behind_placed [] h = tt
  behind_placed (u ∷ ts) h = (inr (inr h.0), behind_placed ts h.1)

  there : others ++ (own ++ t ∷ more) ≡ (others ++ own) ++ t ∷ more
  there = sym (append_assoc others own (t ∷ more))

  placed : IsPlaced t
  placed =
      middle_holds IsPlaced (others ++ own) more t
      (subst (AllByRecursion IsPlaced) (same ∙ there)
      (every_append IsPlaced front (own ++ behind) (front_placed front in_front) (every_append IsPlaced own behind (own_placed own goes_on) (behind_placed behind are_behind))))

  is_some : start_of t < end_of t
  is_some = middle_holds (λ u. start_of u < end_of u) (others ++ own) more t (subst AreSome (same ∙ there) some)

  last : more ≡ [] → last_or None (front ++ (own ++ behind)) ≡ Some t
  last none = ap (last_or None) (same ∙ there ∙ ap (λ ts. (others ++ own) ++ t ∷ ts) none) ∙ last_append None (others ++ own) (t ∷ [])

  at_last : (ts us : List Lexeme) → HaveNoSemicolon ts → Passes (is_behind o) us → last_or None (front ++ (ts ++ us)) ≡ Some t → (ts ≡ []) ⊎ (is_behind o t ≡ true)
  at_last [] us none h is = inl refl
  at_last (u ∷ ts) [] none h is =
      let found = sym (last_append None front ((u ∷ ts) ++ [])) ∙ is in
      let clash : true ≡ false = sym semicolon ∙ last_of (λ v. is_semicolon v ≡ false) u (ts ++ []) (none.0, subst HaveNoSemicolon (sym (append-nil ts)) none.1) t found in
      absurd cc
  at_last (u ∷ ts) (v ∷ us) none h is =
      let found = sym (last_append None front ((u ∷ ts) ++ v ∷ us) ∙ last_append (last_or None front) (u ∷ ts) (v ∷ us)) ∙ is in
      inr (last_of (λ w. is_behind o w ≡ true) v us h t found)

  passed : (ended : (o < end_of t) ⊎ (more ≡ [])) → dot_before o (own ++ t ∷ []) ≡ dot_before o own
  passed ended = by placed ended
    where
      by : IsPlaced t → (o < end_of t) ⊎ (more ≡ []) → dot_before o (own ++ t ∷ []) ≡ dot_before o own
      by (inl is) (inl lt) = let ends = ends_in_front o t is in absurd (omega (arith, ends, lt))
      by (inl is) (inr none) = at_end_of (at_last own behind goes_on are_behind (last none))
        where
          at_end_of : (own ≡ []) ⊎ (is_behind o t ≡ true) → dot_before o (own ++ t ∷ []) ≡ dot_before o own
          at_end_of (inl empty) = alone_passed o own t semicolon empty
          at_end_of (inr is') = behind_passed o own t semicolon is_some is'
      by (inr (inl is)) ended' = let clash : true ≡ false = sym semicolon ∙ is in absurd cc
      by (inr (inr is)) ended' = behind_passed o own t semicolon is_some is

-- ---- the piece in its text

-- its first byte is the one behind those in front of it
pub piece_starts : {text : List ℕ} {offset : ℕ} {a : Analysis} {p : PieceAt} (here : IsPieceAround text offset a p) → length (take here.around.front.end text) ≡ p.start
piece_starts {text} here =
    let inside = here.around.is_row.inside in
    let forward = here.around.is_row.forward in
    length-take-le here.around.front.end text (omega (arith, inside, forward)) ∙ sym here.around.starts

-- it ends in the text
pub piece_fits : {text : List ℕ} {offset : ℕ} {a : Analysis} {p : PieceAt} (here : IsPieceAround text offset a p) → p.start + length p.text.now ≤ length text
piece_fits {text} here =
    let ahead = take here.around.front.end text in
    let piece = slice_range text here.around.front.end here.around.row.end in
    let rest = drop here.around.row.end text in
    omega (
      arith,
      ap length here.around.is_row.piece.divides,
      length-append ahead (piece ++ rest),
      length-append piece rest,
      piece_starts here,
      ap length here.letters,
    )

-- and these are its tokens
pub piece_tokens : {text : List ℕ} {offset : ℕ} {a : Analysis} {p : PieceAt} (here : IsPieceAround text offset a p)
    → ArePieceTokens p.start p.text.now (drop here.around.row.end text) here.around.is_row.tokens
piece_tokens {text} {offset} {a} {p} here =
    let rest = drop here.around.row.end text in
    let own = here.around.is_row.tokens in
    subst (λ bytes. ArePieceTokens p.start bytes rest own) (sym here.letters)
    (subst (λ n. ArePieceTokens n (slice_range text here.around.front.end here.around.row.end) rest own) (piece_starts here) here.around.is_row.piece.are_own)

module _ {text : List ℕ} {offset : ℕ} {a : Analysis} {p : PieceAt} (here : IsPieceAround text offset a p) (tokens : List Lexeme) (commands : List CommandTree)
    (are : AreTokensOf text tokens) (is : IsInText here tokens commands) where
  abbrev Own : List Lexeme
  Own = here.around.is_row.tokens

  abbrev Ahead : List ℕ
  Ahead = take here.around.front.end text

  abbrev Rest : List ℕ
  Rest = drop here.around.row.end text

  all_are_some : AreSome (is.before ++ (Own ++ is.after))
  all_are_some = let stand = text_stands text tokens are in subst AreSome is.divides (all_some 0 stand.0 tokens stand.1)

  pub text_dot : dot_before offset tokens ≡ dot_before offset Own
  text_dot = ap (dot_before offset) is.divides ∙ dot_within offset is.before Own is.after all_are_some is.in_front is.behind is.ends

  pub text_label : (t : Lexeme) (l : Label) → with_label offset t l tokens ≡ is.before ++ (with_label offset t l Own ++ is.after)
  text_label t l = ap (with_label offset t l) is.divides ∙ label_within offset is.before Own is.after all_are_some is.in_front is.behind t l

  -- the tokens of the text, where a semicolon ends the piece
  ended_tokens : (t : Lexeme) → AreTokensFrom p.start p.text.now (Own ++ t ∷ []) → kind_of t ≡ kind.Semicolon → end_of t ≡ p.start + length p.text.now
      → is.before ++ (Own ++ is.after) ≡ here.around.is_row.piece.front ++ (Own ++ t ∷ tokens_at (p.start + length p.text.now) Rest)
  ended_tokens t are_own kind ends =
      let piece = here.around.is_row.piece in
      let end = p.start + length p.text.now in
      let more = tokens_at end Rest in
      let is_piece = subst IsUtf8 (sym here.letters) piece.is_piece in
      let joined = divided_from p.start p.text.now Rest (Own ++ t ∷ []) more is_piece are_own (ends_append end Own (t ∷ []) (kind, ends)) (are_tokens_at end Rest) in
      let behind = subst (λ n. AreTokensFrom n (p.text.now ++ Rest) ((Own ++ t ∷ []) ++ more)) (sym (piece_starts here)) joined in
      let whole = front_joined Ahead (p.text.now ++ Rest) piece.front ((Own ++ t ∷ []) ++ more) piece.is_front piece.are_front piece.ends behind in
      let divides : Ahead ++ (p.text.now ++ Rest) ≡ text = ap (λ bytes. Ahead ++ (bytes ++ Rest)) here.letters ∙ sym piece.divides in
      sym is.divides ∙ one_list text (piece.front ++ ((Own ++ t ∷ []) ++ more)) tokens (subst (λ bytes. AreTokensOf bytes (piece.front ++ ((Own ++ t ∷ []) ++ more))) divides whole) are
      ∙ ap (λ ts. piece.front ++ ts) (append_assoc Own (t ∷ []) more)

  -- what is found among the tokens of the piece, its semicolon among them, is found in the text
  pub dot_found : (found : Option ℕ) → ((ts : List Lexeme) → AreTokensFrom p.start p.text.now ts → found ≡ option_map start_of (dot_before offset ts))
      → found ≡ option_map start_of (dot_before offset tokens)
  dot_found found told = by (piece_tokens here)
    where
      by : ArePieceTokens p.start p.text.now Rest Own → found ≡ option_map start_of (dot_before offset tokens)
      by (at_end are_own none) = told Own are_own ∙ ap (option_map start_of) (sym text_dot)
      by (before_semicolon t are_own kind ends) =
          let end = p.start + length p.text.now in
          told (Own ++ t ∷ []) are_own
          ∙ ap (option_map start_of)
          (passed offset is.before Own is.after here.around.is_row.piece.front (tokens_at end Rest) t (ap ends_piece kind) here.around.is_row.piece.one_piece
          all_are_some is.in_front is.behind (ended_tokens t are_own kind ends) (ended here.around.is_there.to_its_end)
          ∙ sym text_dot)
        where
          ended : (offset < length Ahead + length (slice_range text here.around.front.end here.around.row.end)) ⊎ (Rest ≡ [])
              → (offset < end_of t) ⊎ (tokens_at (p.start + length p.text.now) Rest ≡ [])
          ended (inl lt) = inl (omega (arith, lt, piece_starts here, ap length here.letters, ends))
          ended (inr none) = inr (no_tokens (p.start + length p.text.now) Rest (tokens_at (p.start + length p.text.now) Rest) none (are_tokens_at (p.start + length p.text.now) Rest))
