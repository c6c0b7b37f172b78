-- The words that make terms variables and projections: they are tokens of the terms' own commands. So one that begins at a byte of a piece belongs to a term of the
-- piece's command, and none belongs to a term of a command in front of it or behind it.
use Rattle.std.proofs.Common.{◌≡◌, ℕ, ◌+◌, ◌<◌, ◌≤◌, Bool, true, false, cond, List, [], ◌∷◌, ◌++◌, length, map, Option, Some, None, arith, refl, sym, ap, subst, ◌∙◌, inl, inr, ◌⊎◌}
use Rattle.std.specs.Prelude.{◌==◌}
use Rattle.std.specs.List.{AllByRecursion, position, position_from}
use Rattle.std.specs.Option.{option_map}
use Rattle.std.proofs.lemmas.Bool.Decides.{nat_tests}
use Rattle.std.proofs.lemmas.Iterator.Adapters.{position_from-zero}
use Rattle.lam_token.specs.declared.span.Span.{Span}
use Rattle.lam_token.specs.Cut.{AreTokensOf}
use Rattle.lam_token.specs.Divided.{EndsInSemicolon}
use Rattle.lam_token.specs.Lexeme.{Lexeme, lexeme, start_of}
use Rattle.lam_rules.specs.Terms.{fix}
use Rattle.lam_syntax.specs.Trees as tree
use Rattle.lam_syntax.specs.Trees.{word, bound, TermTree, term_tree, TermNode, CommandTree, definition, declaration, evaluation, term_span}
use Rattle.lam_syntax.specs.Answers.{pieces_of}
use Rattle.lam_scope.specs.Names.{Name}
use Rattle.lam_scope.specs.Expansions.{Abbreviation, expansion}
use Rattle.lam_scope.specs.Nameless.{nameless, abbreviations_after, names_after}
use Rattle.lam_scope.specs.Nesting.{TokensStand}
use Rattle.lam_scope.specs.Places.{written, of_term, Scope}
use Rattle.lam_scope.specs.PlacedTerms.{OwnWord, no_word, name_at, label_at, own_word, PlacedTree, one_part, two_parts, term_of, letrec_function, letrec_fix, placed_term, placed_parts, placed_fields, terms_in, terms_in_each, command_terms, scope_after, commands_terms, document_terms, is_variable_at, is_projection_at, variable_at, projection_at}
use Rattle.lam_scope.proofs.EveryElement.{every_append}
use Rattle.lam_query.specs.Commands.{AreCommandsOf}
use Rattle.lam_query.specs.inner.Checked.{abbreviations_behind, names_behind, scope_behind}
use Rattle.lam_query.proofs.CheckedLists.{terms_append}
use Rattle.lam_query.proofs.Elsewhere.{EndsBy, all_end}
use Rattle.lam_query.proofs.Innermost.{text_stands}
use Rattle.lam_query.proofs.PieceOfText.{no_tokens}
use Rattle.lam_query.proofs.TokensOfPieces.{pieces_in}
use Rattle.lam_query.proofs.Spans.{AtPlace, InTokens}
use Rattle.lam_query.proofs.TermsAlone.{bare, same_own, commands_alone}
use Rattle.lam_query.proofs.TextPlaces.{in_commands}
use Rattle.lam_query.proofs.TreePlaces.{InTerm, InNode, InFields, InCommand, InCommands}

-- ---- the words of terms are among the places of their tree

-- Q holds of the token of such a word, if there is one
abbrev InOwn : (Span → Type 0) → OwnWord → Type 0
InOwn Q no_word = Unit {0}
InOwn Q (name_at s) = Q s
InOwn Q (label_at s) = Q s

abbrev HasIn : (Span → Type 0) → PlacedTree → Type 0
HasIn Q p = InOwn Q (term_of p).own

abbrev HaveIn : (Span → Type 0) → List PlacedTree → Type 0
HaveIn Q ts = AllByRecursion (HasIn Q) ts

-- of one part, and of two
in_one : (Q : Span → Type 0) (p : PlacedTree) → HaveIn Q (terms_in p) → HaveIn Q (terms_in_each (one_part p))
in_one Q p h = every_append (HasIn Q) (terms_in p) [] h tt

in_two : (Q : Span → Type 0) (p q : PlacedTree) → HaveIn Q (terms_in p) → HaveIn Q (terms_in q) → HaveIn Q (terms_in_each (two_parts p q))
in_two Q p q h k = every_append (HasIn Q) (terms_in p) (terms_in_each (one_part q)) h (in_one Q q k)

-- a letrec's fix has no word, and neither has its function
in_fix : (Q : Span → Type 0) (bs : List Abbreviation) (xs : List (Option Name)) (s : Scope) (w : tree.TypeTree) (t : TermTree) (b : Option Name) (first : PlacedTree)
    → HaveIn Q (terms_in first) → HaveIn Q (terms_in (letrec_fix bs xs s w (term_span t) (nameless bs (b ∷ xs) t) first))
in_fix Q bs xs s w t b first h =
    let inner = terms_in_each (one_part first) in
    every_append (HasIn Q) _ (_ ∷ []) (every_append (HasIn Q) _ [] (every_append (HasIn Q) inner (_ ∷ []) (in_one Q first h) (tt, tt)) tt) (tt, tt)

own_in : (Q : Span → Type 0) (n : TermNode) → InNode Q n → InOwn Q (own_word n)
own_in Q tree.true_term h = tt
own_in Q tree.false_term h = tt
own_in Q tree.unit_term h = tt
own_in Q (tree.variable (word x s)) h = h
own_in Q (tree.numeral w) h = tt
own_in Q (tree.lambda b u t) h = tt
own_in Q (tree.if_term c t u) h = tt
own_in Q (tree.let_term b t u) h = tt
own_in Q (tree.letrec_term b w t u) h = tt
own_in Q (tree.prefixed p t) h = tt
own_in Q (tree.apply t u) h = tt
own_in Q (tree.project t (word l s)) h = h.1
own_in Q (tree.ascribe t u) h = tt
own_in Q (tree.record_term fs) h = tt

module _ (Q : Span → Type 0) (bs : List Abbreviation) where
  mutual
    in_term : (xs : List (Option Name)) (s : Scope) (t : TermTree) → InTerm Q t → HaveIn Q (terms_in (placed_term bs xs s t))
    in_term xs s (term_tree q n) h =
        every_append (HasIn Q) (terms_in_each (placed_parts bs xs s n)) (placed_term bs xs s (term_tree q n) ∷ []) (in_parts xs s n h.1) (own_in Q n h.1, tt)

    in_parts : (xs : List (Option Name)) (s : Scope) (n : TermNode) → InNode Q n → HaveIn Q (terms_in_each (placed_parts bs xs s n))
    in_parts xs s tree.true_term h = tt
    in_parts xs s tree.false_term h = tt
    in_parts xs s tree.unit_term h = tt
    in_parts xs s (tree.variable w) h = tt
    in_parts xs s (tree.numeral w) h = tt
    in_parts xs s (tree.lambda (bound b q) u t) h =
        in_one Q (placed_term bs (b ∷ xs) (written (expansion bs u) ∷ s) t) (in_term (b ∷ xs) (written (expansion bs u) ∷ s) t h.2)
    in_parts xs s (tree.if_term c t u) h =
        every_append (HasIn Q) (terms_in (placed_term bs xs s c)) (terms_in_each (two_parts (placed_term bs xs s t) (placed_term bs xs s u))) (in_term xs s c h.0)
        (in_two Q (placed_term bs xs s t) (placed_term bs xs s u) (in_term xs s t h.1) (in_term xs s u h.2))
    in_parts xs s (tree.let_term (bound b q) t u) h =
        let inside : Scope = of_term (nameless bs xs t) ∷ s in
        in_two Q (placed_term bs xs s t) (placed_term bs (b ∷ xs) inside u) (in_term xs s t h.1) (in_term (b ∷ xs) inside u h.2)
    in_parts xs s (tree.letrec_term (bound b q) w t u) h =
        let here : Scope = written (expansion bs w) ∷ s in
        let inside : Scope = of_term (fix (letrec_function bs w (nameless bs (b ∷ xs) t))) ∷ s in
        let first = placed_term bs (b ∷ xs) here t in
        in_two Q (letrec_fix bs xs s w (term_span t) (nameless bs (b ∷ xs) t) first) (placed_term bs (b ∷ xs) inside u)
        (in_fix Q bs xs s w t b first (in_term (b ∷ xs) here t h.2)) (in_term (b ∷ xs) inside u h.3)
    in_parts xs s (tree.prefixed p t) h = in_one Q (placed_term bs xs s t) (in_term xs s t h)
    in_parts xs s (tree.apply t u) h = in_two Q (placed_term bs xs s t) (placed_term bs xs s u) (in_term xs s t h.0) (in_term xs s u h.1)
    in_parts xs s (tree.project t l) h = in_one Q (placed_term bs xs s t) (in_term xs s t h.0)
    in_parts xs s (tree.ascribe t u) h = in_one Q (placed_term bs xs s t) (in_term xs s t h.0)
    in_parts xs s (tree.record_term fs) h = in_fields xs s fs h

    in_fields : (xs : List (Option Name)) (s : Scope) (fs : tree.FieldTrees) → InFields Q fs → HaveIn Q (terms_in_each (placed_fields bs xs s fs))
    in_fields xs s tree.no_fields h = tt
    in_fields xs s (tree.field l t fs) h =
        every_append (HasIn Q) (terms_in (placed_term bs xs s t)) (terms_in_each (placed_fields bs xs s fs)) (in_term xs s t h.1) (in_fields xs s fs h.2)

in_command : (Q : Span → Type 0) (bs : List Abbreviation) (xs : List (Option Name)) (s : Scope) (c : CommandTree) → InCommand Q c
    → HaveIn Q (command_terms bs xs s c)
in_command Q bs xs s (definition w t) h = in_term Q bs xs s t h.1
in_command Q bs xs s (declaration w u) h = tt
in_command Q bs xs s (tree.abbreviation w u) h = tt
in_command Q bs xs s (evaluation t) h = in_term Q bs xs s t h

in_terms : (Q : Span → Type 0) (bs : List Abbreviation) (xs : List (Option Name)) (s : Scope) (cs : List CommandTree) → InCommands Q cs
    → HaveIn Q (commands_terms bs xs s cs)
in_terms Q bs xs s [] h = tt
in_terms Q bs xs s (c ∷ cs) h =
    every_append (HasIn Q) (command_terms bs xs s c) (commands_terms (abbreviations_after bs c) (names_after xs c) (scope_after bs xs s c) cs) (in_command Q bs xs s c h.0)
    (in_terms Q (abbreviations_after bs c) (names_after xs c) (scope_after bs xs s c) cs h.1)

-- ---- the first term whose word passes a test

module _ (is : OwnWord → Bool) where
  abbrev Passes : PlacedTree → Bool
  Passes t = is (term_of t).own

  abbrev Fails : PlacedTree → Type 0
  Fails t = Passes t ≡ false

  abbrev from : ℕ → List PlacedTree → Option ℕ
  from n ts = position_from Passes n ts

  abbrev number : List PlacedTree → Option ℕ
  number ts = position Passes ts

  number_is : (ts : List PlacedTree) → number ts ≡ from 0 ts
  number_is ts = position_from-zero Passes ts

  -- it does not depend on what the terms see
  bare_from : (n : ℕ) (ts : List PlacedTree) → from n (map bare ts) ≡ from n ts
  bare_from n [] = refl
  bare_from n (t ∷ ts) =
      let here = ap is (same_own t) in
      let rest = bare_from (n + 1) ts in
      λ i. cond (here i) (Some n) (rest i)

  from_alone : (n : ℕ) (ts us : List PlacedTree) → map bare ts ≡ map bare us → from n ts ≡ from n us
  from_alone n ts us same = sym (bare_from n ts) ∙ ap (from n) same ∙ bare_from n us

  -- none passes
  none_from : (n : ℕ) (ts : List PlacedTree) → AllByRecursion Fails ts → from n ts ≡ None
  none_from n [] none = refl
  none_from n (t ∷ ts) none = ap (λ b. cond b (Some n) (from (n + 1) ts)) none.0 ∙ none_from (n + 1) ts none.1

  -- of those in front none passes
  front_passed : (n : ℕ) (ts us : List PlacedTree) → AllByRecursion Fails ts → from n (ts ++ us) ≡ from (length ts + n) us
  front_passed n [] us none = ap (λ m. from m us) (omega arith)
  front_passed n (t ∷ ts) us none =
      let further : length ts + (n + 1) ≡ length (t ∷ ts) + n = omega arith in
      ap (λ b. cond b (Some n) (from (n + 1) (ts ++ us))) none.0 ∙ front_passed (n + 1) ts us none.1 ∙ ap (λ m. from m us) further

  -- of those behind none passes
  behind_left : (n : ℕ) (ts us : List PlacedTree) → AllByRecursion Fails us → from n (ts ++ us) ≡ from n ts
  behind_left n [] us none = none_from n us none
  behind_left n (t ∷ ts) us none = ap (λ o. cond (Passes t) (Some n) o) (behind_left (n + 1) ts us none)

  -- counted from another number on
  one_further : (m n k : ℕ) (b : Bool) (first rest : Option ℕ) → m + n ≡ k → first ≡ option_map (λ j. m + j) rest
      → cond b (Some k) first ≡ option_map (λ j. m + j) (cond b (Some n) rest)
  one_further m n k true first rest at same = ap Some (sym at)
  one_further m n k false first rest at same = same

  further_on : (m n k : ℕ) (ts : List PlacedTree) → m + n ≡ k → from k ts ≡ option_map (λ j. m + j) (from n ts)
  further_on m n k [] at = refl
  further_on m n k (t ∷ ts) at = one_further m n k (Passes t) (from (k + 1) ts) (from (n + 1) ts) at (further_on m (n + 1) (k + 1) ts (omega (arith, at)))

  -- among the terms of commands, if of those in front and behind none passes
  among : (done rest : List CommandTree) (c : CommandTree)
      → AllByRecursion Fails (document_terms done)
      → ((bs : List Abbreviation) (xs : List (Option Name)) (s : Scope) → AllByRecursion Fails (commands_terms bs xs s rest))
      → number (document_terms (done ++ (c ∷ rest))) ≡ option_map (λ n. length (document_terms done) + n) (number (document_terms (c ∷ [])))
  among done rest c in_front behind =
      let bs = abbreviations_behind done in
      let xs = names_behind done in
      let s = scope_behind done in
      let before = document_terms done in
      let own = command_terms bs xs s c in
      let others = commands_terms (abbreviations_after bs c) (names_after xs c) (scope_after bs xs s c) rest in
      let none = behind (abbreviations_after bs c) (names_after xs c) (scope_after bs xs s c) in
      number_is (document_terms (done ++ (c ∷ rest)))
      ∙ ap (from 0) (terms_append done (c ∷ rest))
      ∙ front_passed 0 before (own ++ others) in_front
      ∙ behind_left (length before + 0) own others none
      ∙ further_on (length before) 0 (length before + 0) own refl
      ∙ ap (option_map (λ n. length before + n))
      (sym (behind_left 0 own [] tt) ∙ from_alone 0 (own ++ []) (document_terms (c ∷ [])) (commands_alone bs [] xs [] s [] (c ∷ []))
      ∙ sym (number_is (document_terms (c ∷ []))))

  nowhere : (done rest : List CommandTree)
      → AllByRecursion Fails (document_terms done)
      → ((bs : List Abbreviation) (xs : List (Option Name)) (s : Scope) → AllByRecursion Fails (commands_terms bs xs s rest))
      → number (document_terms (done ++ rest)) ≡ None
  nowhere done rest in_front behind =
      let others = commands_terms (abbreviations_behind done) (names_behind done) (scope_behind done) rest in
      number_is (document_terms (done ++ rest))
      ∙ ap (from 0) (terms_append done rest)
      ∙ none_from 0 (document_terms done ++ others)
      (every_append Fails (document_terms done) others in_front (behind (abbreviations_behind done) (names_behind done) (scope_behind done)))

-- ---- words that do not begin at a byte

abbrev IsElsewhere : ℕ → Span → Type 0
IsElsewhere o s = (s.start == o) ≡ false

-- neither test finds them

module _ (o : ℕ) where
  no_variable : (w : OwnWord) → InOwn (IsElsewhere o) w → is_variable_at o w ≡ false
  no_variable no_word h = refl
  no_variable (name_at s) h = h
  no_variable (label_at s) h = refl

  no_projection : (w : OwnWord) → InOwn (IsElsewhere o) w → is_projection_at o w ≡ false
  no_projection no_word h = refl
  no_projection (name_at s) h = refl
  no_projection (label_at s) h = h

  module _ (is : OwnWord → Bool) (none : (w : OwnWord) → InOwn (IsElsewhere o) w → is w ≡ false) where
    all_fail : (ts : List PlacedTree) → HaveIn (IsElsewhere o) ts → AllByRecursion (Fails is) ts
    all_fail [] h = tt
    all_fail (t ∷ ts) h = (none (term_of t).own h.0, all_fail ts h.1)

    -- of the terms of commands whose tokens all begin elsewhere
    commands_fail : (tokens : List Lexeme) (commands : List CommandTree) → InTokens (IsElsewhere o) tokens → AreCommandsOf (pieces_of tokens) commands
        → (bs : List Abbreviation) (xs : List (Option Name)) (s : Scope) → AllByRecursion (Fails is) (commands_terms bs xs s commands)
    commands_fail tokens commands elsewhere are bs xs s =
        let there = in_commands (IsElsewhere o) (λ a b first second. first) (pieces_of tokens) commands (pieces_in (AtPlace (IsElsewhere o)) tokens elsewhere) are in
        all_fail (commands_terms bs xs s commands) (in_terms (IsElsewhere o) bs xs s commands there)

-- tokens in front of it, and behind it

in_front_elsewhere : (start o : ℕ) (ts : List Lexeme) → start ≤ o → AllByRecursion (λ t. start_of t < start) ts → InTokens (IsElsewhere o) ts
in_front_elsewhere start o [] le h = tt
in_front_elsewhere start o (t ∷ ts) le h = (grind (arith, nat_tests, le, h.0), in_front_elsewhere start o ts le h.1)

behind_elsewhere : (o : ℕ) (ts : List Lexeme) → AllByRecursion (λ t. o < start_of t) ts → InTokens (IsElsewhere o) ts
behind_elsewhere o [] h = tt
behind_elsewhere o (t ∷ ts) h = (grind (arith, nat_tests, h.0), behind_elsewhere o ts h.1)

-- ---- those of commands in front of a piece, and behind it

-- The tokens in front all begin in front of a byte, at which the piece begins; these are their commands and those of the tokens behind.
module _ (start : ℕ) (before after : List Lexeme) (done rest : List CommandTree) (in_front : AllByRecursion (λ t. start_of t < start) before)
    (are_done : AreCommandsOf (pieces_of before) done) (are_rest : AreCommandsOf (pieces_of after) rest) where
  module _ (t : Lexeme) (inside : start ≤ start_of t) (behind : AllByRecursion (λ u. start_of t < start_of u) after) where
    before_elsewhere : InTokens (IsElsewhere (start_of t)) before
    before_elsewhere = in_front_elsewhere start (start_of t) before inside in_front

    after_elsewhere : InTokens (IsElsewhere (start_of t)) after
    after_elsewhere = behind_elsewhere (start_of t) after behind

    -- the variable whose token begins here is one of the piece's own command, as the projection is
    pub variable_among : (c : CommandTree)
        → variable_at (start_of t) (done ++ (c ∷ rest)) ≡ option_map (λ n. length (document_terms done) + n) (variable_at (start_of t) (c ∷ []))
    variable_among c =
        let o = start_of t in
        among (is_variable_at o) done rest c
        (commands_fail o (is_variable_at o) (no_variable o) before done before_elsewhere are_done [] [] [])
        (commands_fail o (is_variable_at o) (no_variable o) after rest after_elsewhere are_rest)

    pub projection_among : (c : CommandTree)
        → projection_at (start_of t) (done ++ (c ∷ rest)) ≡ option_map (λ n. length (document_terms done) + n) (projection_at (start_of t) (c ∷ []))
    projection_among c =
        let o = start_of t in
        among (is_projection_at o) done rest c
        (commands_fail o (is_projection_at o) (no_projection o) before done before_elsewhere are_done [] [] [])
        (commands_fail o (is_projection_at o) (no_projection o) after rest after_elsewhere are_rest)

    -- the others have none
    pub no_variable_among : variable_at (start_of t) (done ++ rest) ≡ None
    no_variable_among =
        let o = start_of t in
        nowhere (is_variable_at o) done rest
        (commands_fail o (is_variable_at o) (no_variable o) before done before_elsewhere are_done [] [] [])
        (commands_fail o (is_variable_at o) (no_variable o) after rest after_elsewhere are_rest)

    pub no_projection_among : projection_at (start_of t) (done ++ rest) ≡ None
    no_projection_among =
        let o = start_of t in
        nowhere (is_projection_at o) done rest
        (commands_fail o (is_projection_at o) (no_projection o) before done before_elsewhere are_done [] [] [])
        (commands_fail o (is_projection_at o) (no_projection o) after rest after_elsewhere are_rest)

-- ---- the tokens in front of a piece

begun : (o low high : ℕ) (ts : List Lexeme) → TokensStand low ts high → InTokens (EndsBy o) ts → AllByRecursion (λ t. start_of t < o) ts
begun o low high [] stand h = tt
begun o low high (lexeme k x s ∷ ts) stand h = (omega (arith, stand.1, h.0), begun o s.end high ts stand.2 h.1)

-- they begin in front of each byte from the end of their text on, where that text is empty, or its last token is a semicolon
pub begin_in_front : (ahead : List ℕ) (front : List Lexeme) (o : ℕ) → AreTokensOf ahead front → (ahead ≡ []) ⊎ EndsInSemicolon ahead front → length ahead ≤ o
    → AllByRecursion (λ t. start_of t < o) front
begin_in_front ahead front o are (inl none) le = subst (AllByRecursion (λ t. start_of t < o)) (sym (no_tokens 0 ahead front none are)) tt
begin_in_front ahead front o are (inr ends) le =
    let stand = text_stands ahead front are in
    begun o 0 stand.0 front stand.1 (all_end o 0 stand.0 (length ahead) front le stand.1 ends)
