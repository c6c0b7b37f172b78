-- A projection that asks for another label: no other word of the commands changes, and so no term before that projection does.
use Rattle.std.proofs.Common.{◌≡◌, ℕ, zero, suc, ◌+◌, ◌<◌, ◌≤◌, ◌==◌, ◌⊎◌, inl, inr, arith, Bool, true, false, cond, not, nat_lt, List, [], ◌∷◌, ◌++◌, length, take, get_or, map, append_assoc, refl, ap, sym, ◌∙◌, subst, Option, Some, None, position}
use Rattle.std.specs.Prelude.{if◌then◌else◌}
use Rattle.std.specs.List.{position_or_len}
use Rattle.std.specs.Option.{option_or}
use Rattle.std.proofs.lemmas.Bool.Decides.{nat_tests}
use Rattle.std.proofs.lemmas.List.{append-nil, length-append, length-map, map-append}
use Rattle.std.proofs.lemmas.List.Quantifiers.{position-Some}
use Rattle.std.proofs.Math.Seq.{get_or-append_seam}
use Rattle.lam_token.specs.declared.kind.Kind.TheVariants as kind
use Rattle.lam_token.specs.declared.span.Span.{Span}
use Rattle.lam_rules.specs.Types.{Label}
use Rattle.lam_rules.specs.Terms.{project, fix}
use Rattle.lam_syntax.specs.Trees as tree
use Rattle.lam_syntax.specs.Trees.{Bound, word, bound, TypeTree, type_tree, TypeNode, named, arrow, record_type, TypeFields, no_type_fields, type_field, TermTree, term_tree, TermNode, CommandTree, definition, declaration, evaluation, term_span}
use Rattle.lam_syntax.specs.Respelled.{Letters, respelled_bound, respelled_type, respelled_type_node, respelled_type_fields, respelled_term, respelled_node, respelled_fields, respelled_command}
use Rattle.lam_scope.specs.Names.{Name}
use Rattle.lam_scope.specs.Expansions.{Abbreviation, expansion}
use Rattle.lam_scope.specs.Nameless.{nameless, abbreviations_after, names_after, written_in, written_in_node, written_in_fields, written_in_command, first_over_limit, first_too_large}
use Rattle.lam_scope.specs.Places.{written, of_term, Scope}
use Rattle.lam_scope.specs.PlacedTerms.{OwnWord, no_word, own_word, PlacedTree, term_of, one_part, placed_at, letrec_function, letrec_fix, placed_term, placed_parts, placed_fields, terms_in, terms_in_each, command_terms, scope_after, commands_terms, document_terms, tree_in, is_projection_at, projection_at}
use Rattle.lam_scope.specs.Mentions.{Binder, Mention, labels_at, token_of, mention_of, seen_of, mentions_of_type, mentions_of_type_node, mentions_of_type_fields, mentions_of, mentions_of_node, mentions_of_fields, mentions_of_command, types_behind, names_behind, mentions_from, mentions, Ascend}
use Rattle.lam_scope.specs.Labels.{labelling, labelled, place_in, AreLabelled}

-- ---- the first term whose own word passes a test

front_map : {X Y : Type 0} (g : X → Y) (p : Y → Bool) (xs : List X) → position_or_len (λ x. p (g x)) xs ≡ position_or_len p (map g xs)
front_map g p [] = refl
front_map g p (x ∷ xs) = ap (λ n. cond (not (p (g x))) (1 + n) 0) (front_map g p xs)

position_map : {X Y : Type 0} (g : X → Y) (p : Y → Bool) (xs : List X) → position (λ x. p (g x)) xs ≡ position p (map g xs)
position_map g p xs = λ i. cond (nat_lt (front_map g p xs i) (sym (length-map xs g) i)) (Some (front_map g p xs i)) None

-- the terms of two lists have the same own words, one by one
record SameOwn (ts us : List PlacedTree) : Type 0 where
  owns : map (λ t. (term_of t).own) ts ≡ map (λ t. (term_of t).own) us

same_position : (p : OwnWord → Bool) (ts us : List PlacedTree) → SameOwn ts us → position (λ t. p (term_of t).own) ts ≡ position (λ t. p (term_of t).own) us
same_position p ts us same = position_map (λ t. (term_of t).own) p ts ∙ ap (position p) same.owns ∙ sym (position_map (λ t. (term_of t).own) p us)

no_own : SameOwn [] []
no_own = record { owns = refl }

both_own : {ts us vs ws : List PlacedTree} → SameOwn ts us → SameOwn vs ws → SameOwn (ts ++ vs) (us ++ ws)
both_own {ts} {us} {vs} {ws} g h = record { owns = map-append (λ t. (term_of t).own) ts vs ∙ (λ i. g.owns i ++ h.owns i) ∙ sym (map-append (λ t. (term_of t).own) us ws) }

-- a term behind its parts
last_own : {ts us : List PlacedTree} (p q : PlacedTree) → SameOwn ts us → (term_of p).own ≡ (term_of q).own → SameOwn (ts ++ p ∷ []) (us ++ q ∷ [])
last_own p q g e = both_own g (record { owns = ap (λ w. w ∷ []) e })

-- Trees with other letters have their own words at the same tokens, whatever is in scope.
module _ (letters : Letters) where
  -- the name that a binder binds with these letters
  abbrev bound_name : Option Name → Span → Option Name
  bound_name None s = None
  bound_name (Some x) s = Some (letters kind.Name x s)

  bound_is : (x : Option Name) (s : Span) → bound (bound_name x s) s ≡ respelled_bound (λ p. p) letters (bound x s)
  bound_is None s = refl
  bound_is (Some x) s = refl

  own_stays : (n : TermNode) → own_word (respelled_node (λ p. p) letters n) ≡ own_word n
  own_stays (tree.variable (word x s)) = refl
  own_stays (tree.project t (word k s)) = refl
  own_stays n = refl

  mutual
    term_owns : (bs cs : List Abbreviation) (xs ys : List (Option Name)) (s r : Scope) (t : TermTree)
        → SameOwn (terms_in (placed_term bs xs s (respelled_term (λ p. p) letters t))) (terms_in (placed_term cs ys r t))
    term_owns bs cs xs ys s r (term_tree q n) =
        last_own (placed_term bs xs s (term_tree q (respelled_node (λ p. p) letters n))) (placed_term cs ys r (term_tree q n)) (node_owns bs cs xs ys s r n) (own_stays n)

    node_owns : (bs cs : List Abbreviation) (xs ys : List (Option Name)) (s r : Scope) (n : TermNode)
        → SameOwn (terms_in_each (placed_parts bs xs s (respelled_node (λ p. p) letters n))) (terms_in_each (placed_parts cs ys r n))
    node_owns bs cs xs ys s r (tree.lambda (bound b q) u t) =
        let v = respelled_type (λ p. p) letters u in
        let w = respelled_term (λ p. p) letters t in
        subst (λ d. SameOwn (terms_in_each (placed_parts bs xs s (tree.lambda d v w))) (terms_in_each (placed_parts cs ys r (tree.lambda (bound b q) u t)))) (bound_is b q)
        (both_own (term_owns bs cs (bound_name b q ∷ xs) (b ∷ ys) (written (expansion bs v) ∷ s) (written (expansion cs u) ∷ r) t) no_own)
    node_owns bs cs xs ys s r (tree.if_term c t u) =
        both_own (term_owns bs cs xs ys s r c) (both_own (term_owns bs cs xs ys s r t) (both_own (term_owns bs cs xs ys s r u) no_own))
    node_owns bs cs xs ys s r (tree.let_term (bound b q) t u) =
        let v = respelled_term (λ p. p) letters t in
        let w = respelled_term (λ p. p) letters u in
        subst (λ d. SameOwn (terms_in_each (placed_parts bs xs s (tree.let_term d v w))) (terms_in_each (placed_parts cs ys r (tree.let_term (bound b q) t u)))) (bound_is b q)
        (both_own (term_owns bs cs xs ys s r t)
        (both_own (term_owns bs cs (bound_name b q ∷ xs) (b ∷ ys) (of_term (nameless bs xs v) ∷ s) (of_term (nameless cs ys t) ∷ r) u) no_own))
    node_owns bs cs xs ys s r (tree.letrec_term (bound b q) w t u) =
        let v = respelled_type (λ p. p) letters w in
        let d = respelled_term (λ p. p) letters t in
        let e = respelled_term (λ p. p) letters u in
        let x = bound_name b q in
        let f = letrec_function bs v (nameless bs (x ∷ xs) d) in
        let g = letrec_function cs w (nameless cs (b ∷ ys) t) in
        let p = placed_term bs (x ∷ xs) (written (expansion bs v) ∷ s) d in
        let k = placed_term cs (b ∷ ys) (written (expansion cs w) ∷ r) t in
        subst (λ c. SameOwn (terms_in_each (placed_parts bs xs s (tree.letrec_term c v d e))) (terms_in_each (placed_parts cs ys r (tree.letrec_term (bound b q) w t u)))) (bound_is b q)
        (both_own
        (last_own (letrec_fix bs xs s v (term_span d) (nameless bs (x ∷ xs) d) p) (letrec_fix cs ys r w (term_span t) (nameless cs (b ∷ ys) t) k)
        (both_own
        (last_own (placed_at (term_span d) no_word false xs s f (one_part p)) (placed_at (term_span t) no_word false ys r g (one_part k))
        (both_own (term_owns bs cs (x ∷ xs) (b ∷ ys) (written (expansion bs v) ∷ s) (written (expansion cs w) ∷ r) t) no_own) refl)
        no_own) refl)
        (both_own (term_owns bs cs (x ∷ xs) (b ∷ ys) (of_term (fix f) ∷ s) (of_term (fix g) ∷ r) u) no_own))
    node_owns bs cs xs ys s r (tree.prefixed p t) = both_own (term_owns bs cs xs ys s r t) no_own
    node_owns bs cs xs ys s r (tree.apply t u) = both_own (term_owns bs cs xs ys s r t) (both_own (term_owns bs cs xs ys s r u) no_own)
    node_owns bs cs xs ys s r (tree.project t l) = both_own (term_owns bs cs xs ys s r t) no_own
    node_owns bs cs xs ys s r (tree.ascribe t u) = both_own (term_owns bs cs xs ys s r t) no_own
    node_owns bs cs xs ys s r (tree.record_term fs) = fields_owns bs cs xs ys s r fs
    node_owns bs cs xs ys s r n = no_own

    fields_owns : (bs cs : List Abbreviation) (xs ys : List (Option Name)) (s r : Scope) (fs : tree.FieldTrees)
        → SameOwn (terms_in_each (placed_fields bs xs s (respelled_fields (λ p. p) letters fs))) (terms_in_each (placed_fields cs ys r fs))
    fields_owns bs cs xs ys s r tree.no_fields = no_own
    fields_owns bs cs xs ys s r (tree.field l t fs) = both_own (term_owns bs cs xs ys s r t) (fields_owns bs cs xs ys s r fs)

  command_owns : (bs cs : List Abbreviation) (xs ys : List (Option Name)) (s r : Scope) (c : CommandTree)
      → SameOwn (command_terms bs xs s (respelled_command (λ p. p) letters c)) (command_terms cs ys r c)
  command_owns bs cs xs ys s r (definition w t) = term_owns bs cs xs ys s r t
  command_owns bs cs xs ys s r (declaration w u) = no_own
  command_owns bs cs xs ys s r (tree.abbreviation w u) = no_own
  command_owns bs cs xs ys s r (evaluation t) = term_owns bs cs xs ys s r t

  commands_owns : (bs cs : List Abbreviation) (xs ys : List (Option Name)) (s r : Scope) (ds : List CommandTree)
      → SameOwn (commands_terms bs xs s (map (respelled_command (λ p. p) letters) ds)) (commands_terms cs ys r ds)
  commands_owns bs cs xs ys s r [] = no_own
  commands_owns bs cs xs ys s r (d ∷ ds) =
      let e = respelled_command (λ p. p) letters d in
      both_own (command_owns bs cs xs ys s r d)
      (commands_owns (abbreviations_after bs e) (abbreviations_after cs d) (names_after xs e) (names_after ys d) (scope_after bs xs s e) (scope_after cs ys r d) ds)

pub same_number : (cs : List CommandTree) (o : ℕ) (l : Label) → projection_at o (labelled o l cs) ≡ projection_at o cs
same_number cs o l = same_position (is_projection_at o) (document_terms (labelled o l cs)) (document_terms cs) (commands_owns (labelling o l) [] [] [] [] [] [] cs)

-- ---- how many of the mentions of a tree begin at byte o

module _ (o : ℕ) where
  abbrev at : Span → ℕ
  at s = if s.start == o then 1 else 0

  abbrev at_each : List Mention → ℕ
  at_each [] = 0
  at_each (m ∷ ms) = at (token_of m) + at_each ms

  at-append : (ms ns : List Mention) → at_each (ms ++ ns) ≡ at_each ms + at_each ns
  at-append [] ns = omega arith
  at-append (m ∷ ms) ns = omega (arith, at-append ms ns)

  -- of mentions that ascend at most one does

  is_off : (s : Span) → o < s.start → at s ≡ 0
  is_off s lt = grind (arith, nat_tests)

  is_there : (s : Span) → (at s ≡ 0) ⊎ ((at s ≡ 1) × (s.start ≡ o))
  is_there s = grind (arith, nat_tests)

  none_before : (low high : ℕ) (ms : List Mention) → Ascend low ms high → o < low → at_each ms ≡ 0
  none_before low high [] ascend lt = refl
  none_before low high (m ∷ ms) ascend lt =
      let first = ascend.0 in
      let some = ascend.1 in
      omega (arith, is_off (token_of m) (omega arith), none_before (token_of m).end high ms ascend.2 (omega arith))

  at_most_one : (low high : ℕ) (ms : List Mention) → Ascend low ms high → at_each ms ≤ 1
  at_most_one low high [] ascend = omega arith
  at_most_one low high (m ∷ ms) ascend =
      let some = ascend.1 in
      let rest = at_most_one (token_of m).end high ms ascend.2 in
      elim (is_there (token_of m)) [
        | inl off ↦ omega (arith, off, rest)
        | inr here ↦ let start = here.1 in omega (arith, here.0, none_before (token_of m).end high ms ascend.2 (omega arith))
      ]

  -- in trees

  abbrev in_word : tree.Word → ℕ
  in_word (word x s) = at s

  abbrev in_bound : Bound → ℕ
  in_bound (bound None s) = 0
  in_bound (bound (Some x) s) = at s

  abbrev mutual
    in_type : TypeTree → ℕ
    in_type (type_tree s n) = in_type_node n

    in_type_node : TypeNode → ℕ
    in_type_node (named w) = in_word w
    in_type_node (arrow t u) = in_type t + in_type u
    in_type_node (record_type fs) = in_type_fields fs
    in_type_node n = 0

    in_type_fields : TypeFields → ℕ
    in_type_fields no_type_fields = 0
    in_type_fields (type_field l t fs) = in_word l + in_type t + in_type_fields fs

  abbrev mutual
    in_term : TermTree → ℕ
    in_term (term_tree s n) = in_node n

    in_node : TermNode → ℕ
    in_node (tree.variable w) = in_word w
    in_node (tree.lambda b u t) = in_bound b + in_type u + in_term t
    in_node (tree.if_term c t u) = in_term c + (in_term t + in_term u)
    in_node (tree.let_term b t u) = in_bound b + in_term t + in_term u
    in_node (tree.letrec_term b w t u) = in_bound b + in_type w + in_term t + in_term u
    in_node (tree.prefixed p t) = in_term t
    in_node (tree.apply t u) = in_term t + in_term u
    in_node (tree.project t l) = in_word l + in_term t
    in_node (tree.ascribe t u) = in_term t + in_type u
    in_node (tree.record_term fs) = in_fields fs
    in_node n = 0

    in_fields : tree.FieldTrees → ℕ
    in_fields tree.no_fields = 0
    in_fields (tree.field l t fs) = in_word l + in_term t + in_fields fs

  abbrev in_command : CommandTree → ℕ
  in_command (definition w t) = in_word w + in_term t
  in_command (declaration w u) = in_word w + in_type u
  in_command (tree.abbreviation w u) = in_word w + in_type u
  in_command (evaluation t) = in_term t

  abbrev in_commands : List CommandTree → ℕ
  in_commands [] = 0
  in_commands (c ∷ cs) = in_command c + in_commands cs

  -- as many of their mentions begin there, whatever is in scope

  bound_mentions : (b : Bound) → at_each (mention_of b) ≡ in_bound b
  bound_mentions (bound None s) = refl
  bound_mentions (bound (Some x) s) = omega arith

  both_at : (ms ns : List Mention) (m n : ℕ) → at_each ms ≡ m → at_each ns ≡ n → at_each (ms ++ ns) ≡ m + n
  both_at ms ns m n e f = omega (arith, at-append ms ns)

  mutual
    type_mentions : (types : List Binder) (u : TypeTree) → at_each (mentions_of_type types u) ≡ in_type u
    type_mentions types (type_tree s n) = type_node_mentions types n

    type_node_mentions : (types : List Binder) (n : TypeNode) → at_each (mentions_of_type_node types n) ≡ in_type_node n
    type_node_mentions types tree.bool = refl
    type_node_mentions types tree.nat = refl
    type_node_mentions types tree.unit = refl
    type_node_mentions types tree.top = refl
    type_node_mentions types (named (word x s)) = omega arith
    type_node_mentions types (arrow t u) = both_at (mentions_of_type types t) (mentions_of_type types u) (in_type t) (in_type u) (type_mentions types t) (type_mentions types u)
    type_node_mentions types (record_type fs) = type_fields_mentions types fs

    type_fields_mentions : (types : List Binder) (fs : TypeFields) → at_each (mentions_of_type_fields types fs) ≡ in_type_fields fs
    type_fields_mentions types no_type_fields = refl
    type_fields_mentions types (type_field (word l s) t fs) =
        omega (arith, at-append (mentions_of_type types t) (mentions_of_type_fields types fs), type_mentions types t, type_fields_mentions types fs)

  mutual
    term_mentions : (types names : List Binder) (t : TermTree) → at_each (mentions_of types names t) ≡ in_term t
    term_mentions types names (term_tree s n) = node_mentions types names n

    node_mentions : (types names : List Binder) (n : TermNode) → at_each (mentions_of_node types names n) ≡ in_node n
    node_mentions types names (tree.variable (word x s)) = omega arith
    node_mentions types names (tree.lambda b u t) =
        let inner = seen_of b ∷ names in
        both_at (mention_of b ++ mentions_of_type types u) (mentions_of types inner t) (in_bound b + in_type u) (in_term t)
        (both_at (mention_of b) (mentions_of_type types u) (in_bound b) (in_type u) (bound_mentions b) (type_mentions types u)) (term_mentions types inner t)
    node_mentions types names (tree.if_term c t u) =
        omega (
          arith,
          at-append (mentions_of types names c ++ mentions_of types names t) (mentions_of types names u),
          at-append (mentions_of types names c) (mentions_of types names t),
          term_mentions types names c,
          term_mentions types names t,
          term_mentions types names u,
        )
    node_mentions types names (tree.let_term b t u) =
        let inner = seen_of b ∷ names in
        both_at (mention_of b ++ mentions_of types names t) (mentions_of types inner u) (in_bound b + in_term t) (in_term u)
        (both_at (mention_of b) (mentions_of types names t) (in_bound b) (in_term t) (bound_mentions b) (term_mentions types names t)) (term_mentions types inner u)
    node_mentions types names (tree.letrec_term b w t u) =
        let inner = seen_of b ∷ names in
        both_at (mention_of b ++ mentions_of_type types w ++ mentions_of types inner t) (mentions_of types inner u) (in_bound b + in_type w + in_term t) (in_term u)
        (both_at (mention_of b ++ mentions_of_type types w) (mentions_of types inner t) (in_bound b + in_type w) (in_term t)
        (both_at (mention_of b) (mentions_of_type types w) (in_bound b) (in_type w) (bound_mentions b) (type_mentions types w)) (term_mentions types inner t))
        (term_mentions types inner u)
    node_mentions types names (tree.prefixed p t) = term_mentions types names t
    node_mentions types names (tree.apply t u) = both_at (mentions_of types names t) (mentions_of types names u) (in_term t) (in_term u) (term_mentions types names t) (term_mentions types names u)
    node_mentions types names (tree.project t (word l s)) = omega (arith, at-append (mentions_of types names t) (labels_at s ∷ []), term_mentions types names t)
    node_mentions types names (tree.ascribe t u) = both_at (mentions_of types names t) (mentions_of_type types u) (in_term t) (in_type u) (term_mentions types names t) (type_mentions types u)
    node_mentions types names (tree.record_term fs) = fields_mentions types names fs
    node_mentions types names n = refl

    fields_mentions : (types names : List Binder) (fs : tree.FieldTrees) → at_each (mentions_of_fields types names fs) ≡ in_fields fs
    fields_mentions types names tree.no_fields = refl
    fields_mentions types names (tree.field (word l s) t fs) =
        omega (arith, at-append (mentions_of types names t) (mentions_of_fields types names fs), term_mentions types names t, fields_mentions types names fs)

  command_mentions : (types names : List Binder) (c : CommandTree) → at_each (mentions_of_command types names c) ≡ in_command c
  command_mentions types names (definition (word x s) t) = ap (λ n. at s + n) (term_mentions types names t)
  command_mentions types names (declaration (word x s) u) = ap (λ n. at s + n) (type_mentions types u)
  command_mentions types names (tree.abbreviation (word x s) u) = ap (λ n. at s + n) (type_mentions types u)
  command_mentions types names (evaluation t) = term_mentions types names t

  commands_mentions : (types names : List Binder) (cs : List CommandTree) → at_each (mentions_from types names cs) ≡ in_commands cs
  commands_mentions types names [] = refl
  commands_mentions types names (c ∷ cs) =
      both_at (mentions_of_command types names c) (mentions_from (types_behind types c) (names_behind names c) cs) (in_command c) (in_commands cs) (command_mentions types names c)
      (commands_mentions (types_behind types c) (names_behind names c) cs)

-- ---- lists of terms that differ in that one projection asks for another label

module _ (o : ℕ) (l : Label) where
  -- the term with this index is a projection whose label begins at byte o
  abbrev IsAt : List PlacedTree → ℕ → Type 0
  IsAt [] n = ⊥
  IsAt (t ∷ ts) zero = is_projection_at o (term_of t).own ≡ true
  IsAt (t ∷ ts) (suc n) = IsAt ts n

  is_at : (ts : List PlacedTree) (n : ℕ) (d : PlacedTree) → n < length ts → is_projection_at o (term_of (get_or ts n d)).own ≡ true → IsAt ts n
  is_at [] n d lt is = absurd (omega arith)
  is_at (t ∷ ts) zero d lt is = is
  is_at (t ∷ ts) (suc n) d lt is = is_at ts n d (omega arith) is

  at_either : (ts us : List PlacedTree) (n : ℕ) → IsAt (ts ++ us) n → IsAt ts n ⊎ ((m : ℕ) × IsAt us m × (n ≡ length ts + m))
  at_either [] us n is = inr (n, is, omega arith)
  at_either (t ∷ ts) us zero is = inl is
  at_either (t ∷ ts) us (suc n) is = elim (at_either ts us n is) [ inl there ↦ inl there | inr there ↦ inr (there.0, there.1, omega (arith, there.2)) ]

  -- In the other list, the term with this index, a projection of the term before it, asks for that label. The terms before both are the same.
  record AskAnew (ts us : List PlacedTree) (n : ℕ) : Type 0 where
    front : List PlacedTree
    operand : PlacedTree
    label : Label
    asks : PlacedTree
    asks_now : PlacedTree
    back : List PlacedTree
    back_now : List PlacedTree
    was : ts ≡ front ++ operand ∷ asks ∷ back
    now : us ≡ front ++ operand ∷ asks_now ∷ back_now
    number : n ≡ suc (length front)
    asked : (term_of asks).place ≡ record { scope = (term_of operand).place.scope; here = project (term_of operand).place.here label }
    asked_now : (term_of asks_now).place ≡ record { scope = (term_of operand).place.scope; here = project (term_of operand).place.here l }

  anew_behind : {ts us : List PlacedTree} {n : ℕ} (vs ws : List PlacedTree) → AskAnew ts us n → AskAnew (ts ++ vs) (us ++ ws) n
  anew_behind vs ws r = record {
    front = r.front;
    operand = r.operand;
    label = r.label;
    asks = r.asks;
    asks_now = r.asks_now;
    back = r.back ++ vs;
    back_now = r.back_now ++ ws;
    was = ap (λ xs. xs ++ vs) r.was ∙ append_assoc r.front (r.operand ∷ r.asks ∷ r.back) vs;
    now = ap (λ xs. xs ++ ws) r.now ∙ append_assoc r.front (r.operand ∷ r.asks_now ∷ r.back_now) ws;
    number = r.number;
    asked = r.asked;
    asked_now = r.asked_now;
  }

  anew_in_front : {ts us : List PlacedTree} {m : ℕ} (n : ℕ) (vs ws : List PlacedTree) → AskAnew ts us m → ws ≡ vs ++ us → n ≡ length vs + m → AskAnew (vs ++ ts) ws n
  anew_in_front n vs ws r same is = record {
    front = vs ++ r.front;
    operand = r.operand;
    label = r.label;
    asks = r.asks;
    asks_now = r.asks_now;
    back = r.back;
    back_now = r.back_now;
    was = ap (λ xs. vs ++ xs) r.was ∙ sym (append_assoc vs r.front (r.operand ∷ r.asks ∷ r.back));
    now = same ∙ ap (λ xs. vs ++ xs) r.now ∙ sym (append_assoc vs r.front (r.operand ∷ r.asks_now ∷ r.back_now));
    number = omega (arith, is, r.number, length-append vs r.front);
    asked = r.asked;
    asked_now = r.asked_now;
  }

  -- A tree with c mentions that begin at byte o has the terms ts, and with that label in their place the terms us. Without such a mention these are the same.
  -- The label of a projection there is such a mention; if it is the only one, just that projection asks for another label. In both cases the rest holds too.
  record Piece (c : ℕ) (ts us : List PlacedTree) (Rest : Type 0) : Type 0 where
    still : c ≡ 0 → (ts ≡ us) × Rest
    anew : (n : ℕ) → IsAt ts n → (1 ≤ c) × (c ≤ 1 → AskAnew ts us n × Rest)

  -- a tree without terms
  no_terms : {Rest : Type 0} (c : ℕ) → (c ≡ 0 → Rest) → Piece c [] [] Rest
  no_terms c rest = record { still = λ none. (refl, rest none); anew = λ n is. absurd is }

  -- the same with k more mentions
  more : {c : ℕ} {ts us : List PlacedTree} {Rest : Type 0} (k : ℕ) → Piece c ts us Rest → Piece (k + c) ts us Rest
  more k p = record {
    still = λ none. p.still (omega arith);
    anew = λ n is. let r = p.anew n is in (omega (arith, r.0), λ le. r.1 (omega arith));
  }

  -- the same with what follows from the rest
  so : {c : ℕ} {ts us : List PlacedTree} {A B : Type 0} → (A → B) → Piece c ts us A → Piece c ts us B
  so f p = record {
    still = λ none. let r = p.still none in (r.0, f r.1);
    anew = λ n is. let r = p.anew n is in (r.0, λ le. let own = r.1 le in (own.0, f own.1));
  }

  -- a tree and another one after it, whose terms are then `now`: those with the label, if the first tree has no such mention
  both : {c d : ℕ} {ts us vs ws : List PlacedTree} {A B : Type 0} (now : List PlacedTree) → Piece c ts us A → Piece d vs ws B → (c ≡ 0 → ws ≡ now) → Piece (c + d) (ts ++ vs) (us ++ now) (A × B)
  both {c} {d} {ts} {us} {vs} {ws} now p q same = record {
    still = λ none. let first = p.still (omega arith) in let last = q.still (omega arith) in ((λ i. first.0 i ++ (last.0 ∙ same (omega arith)) i), (first.1, last.1));
    anew = λ n is. elim (at_either ts vs n is) [
      | inl there ↦ let r = p.anew n there in (
        omega (arith, r.0),
        λ le. let own = r.1 (omega (arith, le)) in (anew_behind vs now own.0, (own.1, (q.still (omega (arith, le, r.0))).1)),
      )
      | inr there ↦ let r = q.anew there.0 there.1 in (
        omega (arith, r.0),
        λ le.
            let none : c ≡ 0 = omega (arith, le, r.0) in
            let own = r.1 (omega (arith, le)) in
            let first = p.still none in
            (anew_in_front n ts (us ++ now) own.0 (λ i. sym first.0 i ++ sym (same none) i) there.2, (first.1, own.1)),
      )
    ];
  }

  -- the only part of a term
  one : {c : ℕ} {Rest : Type 0} (p q : PlacedTree) → Piece c (terms_in p) (terms_in q) Rest → Piece c (terms_in_each (one_part p)) (terms_in_each (one_part q)) Rest
  one {c} {Rest} p q h =
      subst (λ ts. Piece c ts (terms_in q ++ []) Rest) (sym (append-nil (terms_in p))) (subst (λ us. Piece c (terms_in p) us Rest) (sym (append-nil (terms_in q))) h)

  -- a term behind its parts
  last : {c : ℕ} {ts us : List PlacedTree} {Rest : Type 0} (p q : PlacedTree) → Piece c ts us Rest → (c ≡ 0 → ts ++ p ∷ [] ≡ us ++ q ∷ [])
      → (is_projection_at o (term_of p).own ≡ true → (1 ≤ c) × (c ≤ 1 → AskAnew (ts ++ p ∷ []) (us ++ q ∷ []) (length ts) × Rest)) → Piece c (ts ++ p ∷ []) (us ++ q ∷ []) Rest
  last {c} {ts} {us} {Rest} p q h same own = record {
    still = λ none. (same none, (h.still none).1);
    anew = λ n is. elim (at_either ts (p ∷ []) n is) [
      | inl there ↦ let r = h.anew n there in (r.0, λ le. let parts = r.1 le in (anew_behind (p ∷ []) (q ∷ []) parts.0, parts.1))
      | inr there ↦ own_anew n there.0 there.1 there.2
    ];
  } where
    own_anew : (n m : ℕ) → IsAt (p ∷ []) m → n ≡ length ts + m → (1 ≤ c) × (c ≤ 1 → AskAnew (ts ++ p ∷ []) (us ++ q ∷ []) n × Rest)
    own_anew n zero is e = subst (λ k. (1 ≤ c) × (c ≤ 1 → AskAnew (ts ++ p ∷ []) (us ++ q ∷ []) k × Rest)) (omega (arith, e)) (own is)
    own_anew n (suc m) is e = absurd is

  -- ---- trees with that label for the name that begins at byte o

  abbrev now_type : TypeTree → TypeTree
  now_type u = respelled_type (λ p. p) (labelling o l) u

  abbrev now_type_node : TypeNode → TypeNode
  now_type_node n = respelled_type_node (λ p. p) (labelling o l) n

  abbrev now_type_fields : TypeFields → TypeFields
  now_type_fields fs = respelled_type_fields (λ p. p) (labelling o l) fs

  abbrev now_term : TermTree → TermTree
  now_term t = respelled_term (λ p. p) (labelling o l) t

  abbrev now_node : TermNode → TermNode
  now_node n = respelled_node (λ p. p) (labelling o l) n

  abbrev now_fields : tree.FieldTrees → tree.FieldTrees
  now_fields fs = respelled_fields (λ p. p) (labelling o l) fs

  abbrev now_command : CommandTree → CommandTree
  now_command c = respelled_command (λ p. p) (labelling o l) c

  -- without a mention at that byte they stay as they were

  other : (b : Bool) (x : Label) → ◌≡◌ {A = ℕ} (if b then 1 else 0) 0 → (if b then l else x) ≡ x
  other true x none = absurd (omega arith)
  other false x none = refl

  letters_stay : (x : Label) (s : Span) → at o s ≡ 0 → (if s.start == o then l else x) ≡ x
  letters_stay x s none = other (s.start == o) x none

  name_stays : (x : Option Name) (s : Span) → in_bound o (bound x s) ≡ 0 → bound_name (labelling o l) x s ≡ x
  name_stays None s none = refl
  name_stays (Some x) s none = ap Some (letters_stay x s none)

  bound_stays : (b : Bound) → in_bound o b ≡ 0 → respelled_bound (λ p. p) (labelling o l) b ≡ b
  bound_stays (bound x s) none = sym (bound_is (labelling o l) x s) ∙ ap (λ y. bound y s) (name_stays x s none)

  mutual
    type_stays : (u : TypeTree) → in_type o u ≡ 0 → now_type u ≡ u
    type_stays (type_tree s n) none = ap (type_tree s) (type_node_stays n none)

    type_node_stays : (n : TypeNode) → in_type_node o n ≡ 0 → now_type_node n ≡ n
    type_node_stays (named (word x s)) none = refl
    type_node_stays (arrow t u) none = λ i. arrow (type_stays t (omega (arith, none)) i) (type_stays u (omega (arith, none)) i)
    type_node_stays (record_type fs) none = ap record_type (type_fields_stay fs none)
    type_node_stays n none = refl

    type_fields_stay : (fs : TypeFields) → in_type_fields o fs ≡ 0 → now_type_fields fs ≡ fs
    type_fields_stay no_type_fields none = refl
    type_fields_stay (type_field (word k s) t fs) none =
        λ i. type_field (word (letters_stay k s (omega (arith, none)) i) s) (type_stays t (omega (arith, none)) i) (type_fields_stay fs (omega (arith, none)) i)

  mutual
    term_stays : (t : TermTree) → in_term o t ≡ 0 → now_term t ≡ t
    term_stays (term_tree s n) none = ap (term_tree s) (node_stays n none)

    node_stays : (n : TermNode) → in_node o n ≡ 0 → now_node n ≡ n
    node_stays (tree.variable (word x s)) none = ap (λ y. tree.variable (word y s)) (letters_stay x s none)
    node_stays (tree.numeral (word x s)) none = refl
    node_stays (tree.lambda b u t) none = λ i. tree.lambda (bound_stays b (omega (arith, none)) i) (type_stays u (omega (arith, none)) i) (term_stays t (omega (arith, none)) i)
    node_stays (tree.if_term c t u) none = λ i. tree.if_term (term_stays c (omega (arith, none)) i) (term_stays t (omega (arith, none)) i) (term_stays u (omega (arith, none)) i)
    node_stays (tree.let_term b t u) none = λ i. tree.let_term (bound_stays b (omega (arith, none)) i) (term_stays t (omega (arith, none)) i) (term_stays u (omega (arith, none)) i)
    node_stays (tree.letrec_term b w t u) none =
        λ i. tree.letrec_term (bound_stays b (omega (arith, none)) i) (type_stays w (omega (arith, none)) i) (term_stays t (omega (arith, none)) i) (term_stays u (omega (arith, none)) i)
    node_stays (tree.prefixed p t) none = ap (tree.prefixed p) (term_stays t none)
    node_stays (tree.apply t u) none = λ i. tree.apply (term_stays t (omega (arith, none)) i) (term_stays u (omega (arith, none)) i)
    node_stays (tree.project t (word k s)) none = λ i. tree.project (term_stays t (omega (arith, none)) i) (word (letters_stay k s (omega (arith, none)) i) s)
    node_stays (tree.ascribe t u) none = λ i. tree.ascribe (term_stays t (omega (arith, none)) i) (type_stays u (omega (arith, none)) i)
    node_stays (tree.record_term fs) none = ap tree.record_term (fields_stay fs none)
    node_stays n none = refl

    fields_stay : (fs : tree.FieldTrees) → in_fields o fs ≡ 0 → now_fields fs ≡ fs
    fields_stay tree.no_fields none = refl
    fields_stay (tree.field (word k s) t fs) none =
        λ i. tree.field (word (letters_stay k s (omega (arith, none)) i) s) (term_stays t (omega (arith, none)) i) (fields_stay fs (omega (arith, none)) i)

  command_stays : (c : CommandTree) → in_command o c ≡ 0 → now_command c ≡ c
  command_stays (definition (word x s) t) none = λ i. definition (word (letters_stay x s (omega (arith, none)) i) s) (term_stays t (omega (arith, none)) i)
  command_stays (declaration (word x s) u) none = λ i. declaration (word (letters_stay x s (omega (arith, none)) i) s) (type_stays u (omega (arith, none)) i)
  command_stays (tree.abbreviation (word x s) u) none = ap (tree.abbreviation (word x s)) (type_stays u (omega (arith, none)))
  command_stays (evaluation t) none = ap evaluation (term_stays t none)

  -- ---- the terms of a tree

  -- a projection whose label begins there asks anew
  projection_anew : (bs : List Abbreviation) (xs : List (Option Name)) (s : Scope) (r : Span) (t : TermTree) (k : Label) (q : Span) → (q.start == o) ≡ true
      → in_word o (word k q) + in_term o t ≤ 1
      → AskAnew (terms_in (placed_term bs xs s (term_tree r (tree.project t (word k q))))) (terms_in (placed_term bs xs s (now_term (term_tree r (tree.project t (word k q))))))
      (length (terms_in_each (one_part (placed_term bs xs s t)))) × (written_in (now_term t) ≡ written_in t)
  projection_anew bs xs s r (term_tree v m) k q is le =
      let t = term_tree v m in
      let there : at o q ≡ 1 = ap (λ b. if b then 1 else 0) is in
      let stays = term_stays t (omega (arith, there, le)) in
      let front = terms_in_each (placed_parts bs xs s m) in
      let p = placed_term bs xs s t in
      let old = placed_term bs xs s (term_tree r (tree.project t (word k q))) in
      let new = placed_term bs xs s (now_term (term_tree r (tree.project t (word k q)))) in
      let flat = λ (x : PlacedTree). ap (λ ts. ts ++ x ∷ []) (append-nil (front ++ p ∷ [])) ∙ append_assoc front (p ∷ []) (x ∷ []) in (
        record {
          front = front;
          operand = p;
          label = k;
          asks = old;
          asks_now = new;
          back = [];
          back_now = [];
          was = flat old;
          now = ap (λ u. terms_in_each (one_part (placed_term bs xs s u)) ++ new ∷ []) stays ∙ flat new;
          number = omega (arith, length-append (front ++ p ∷ []) [], length-append front (p ∷ []));
          asked = refl;
          asked_now = λ i. record { scope = s; here = project (nameless bs xs (stays i)) (if is i then l else k) };
        },
        ap written_in stays,
      )

  own_anew : (bs : List Abbreviation) (xs : List (Option Name)) (s : Scope) (r : Span) (n : TermNode) → is_projection_at o (own_word n) ≡ true
      → (1 ≤ in_node o n)
      × (in_node o n ≤ 1
      → AskAnew (terms_in (placed_term bs xs s (term_tree r n))) (terms_in (placed_term bs xs s (now_term (term_tree r n)))) (length (terms_in_each (placed_parts bs xs s n)))
      × (written_in_node (now_node n) ≡ written_in_node n))
  own_anew bs xs s r (tree.variable (word x q)) is = absurd cc
  own_anew bs xs s r (tree.project t (word k q)) is =
      let there : at o q ≡ 1 = ap (λ b. if b then 1 else 0) is in (omega (arith, there), λ le. projection_anew bs xs s r t k q is le)
  own_anew bs xs s r n is = absurd cc

  -- if one projection asks anew, the written types stay the same
  abbrev TermPiece : List Abbreviation → List (Option Name) → Scope → TermTree → Type 0
  TermPiece bs xs s t = Piece (in_term o t) (terms_in (placed_term bs xs s t)) (terms_in (placed_term bs xs s (now_term t))) (written_in (now_term t) ≡ written_in t)

  -- the last part of a term
  part : (bs : List Abbreviation) (xs : List (Option Name)) (s : Scope) (t : TermTree) → TermPiece bs xs s t
      → Piece (in_term o t) (terms_in_each (one_part (placed_term bs xs s t))) (terms_in_each (one_part (placed_term bs xs s (now_term t)))) (written_in (now_term t) ≡ written_in t)
  part bs xs s t h = one (placed_term bs xs s t) (placed_term bs xs s (now_term t)) h

  -- a written type has no term
  type_piece : (u : TypeTree) → Piece (in_type o u) [] [] (now_type u ≡ u)
  type_piece u = no_terms (in_type o u) (type_stays u)

  -- what a letrec stands for
  fix_piece : (bs : List Abbreviation) (xs : List (Option Name)) (s : Scope) (b : Option Name) (w : TypeTree) (t : TermTree) → TermPiece bs (b ∷ xs) (written (expansion bs w) ∷ s) t
      → Piece (in_term o t) (terms_in (letrec_fix bs xs s w (term_span t) (nameless bs (b ∷ xs) t) (placed_term bs (b ∷ xs) (written (expansion bs w) ∷ s) t)))
      (terms_in (letrec_fix bs xs s w (term_span (now_term t)) (nameless bs (b ∷ xs) (now_term t)) (placed_term bs (b ∷ xs) (written (expansion bs w) ∷ s) (now_term t))))
      (written_in (now_term t) ≡ written_in t)
  fix_piece bs xs s b w t h =
      let inner = λ (v : TermTree). placed_term bs (b ∷ xs) (written (expansion bs w) ∷ s) v in
      let function = λ (v : TermTree). placed_at (term_span v) no_word false xs s (letrec_function bs w (nameless bs (b ∷ xs) v)) (one_part (inner v)) in
      let whole = λ (v : TermTree). letrec_fix bs xs s w (term_span v) (nameless bs (b ∷ xs) v) (inner v) in
      last (whole t) (whole (now_term t))
      (one (function t) (function (now_term t))
      (last (function t) (function (now_term t)) (part bs (b ∷ xs) (written (expansion bs w) ∷ s) t h) (λ none. ap (λ v. terms_in (function v)) (sym (term_stays t none))) (λ is. absurd cc)))
      (λ none. ap (λ v. terms_in (whole v)) (sym (term_stays t none))) (λ is. absurd cc)

  mutual
    term_piece : (bs : List Abbreviation) (xs : List (Option Name)) (s : Scope) (t : TermTree) → TermPiece bs xs s t
    term_piece bs xs s (term_tree r n) =
        last (placed_term bs xs s (term_tree r n)) (placed_term bs xs s (now_term (term_tree r n))) (node_piece bs xs s n)
        (λ none. ap (λ m. terms_in (placed_term bs xs s (term_tree r m))) (sym (node_stays n none))) (own_anew bs xs s r n)

    node_piece : (bs : List Abbreviation) (xs : List (Option Name)) (s : Scope) (n : TermNode)
        → Piece (in_node o n) (terms_in_each (placed_parts bs xs s n)) (terms_in_each (placed_parts bs xs s (now_node n)))
        (written_in_node (now_node n) ≡ written_in_node n)
    node_piece bs xs s (tree.lambda (bound b q) u t) =
        so (λ e i. e.0 i ∷ e.1 i)
        (both (terms_in_each (placed_parts bs xs s (now_node (tree.lambda (bound b q) u t)))) (more (in_bound o (bound b q)) (type_piece u))
        (part bs (b ∷ xs) (written (expansion bs u) ∷ s) t (term_piece bs (b ∷ xs) (written (expansion bs u) ∷ s) t))
        (λ none. sym (λ i. terms_in_each (placed_parts bs xs s (tree.lambda (bound_stays (bound b q) (omega (arith, none)) i) (type_stays u (omega (arith, none)) i) (now_term t))))))
    node_piece bs xs s (tree.if_term c t u) =
        so (λ e i. e.0 i ++ e.1.0 i ++ e.1.1 i)
        (both (terms_in_each (placed_parts bs xs s (tree.apply (now_term t) (now_term u)))) (term_piece bs xs s c)
        (both (terms_in_each (one_part (placed_term bs xs s (now_term u)))) (term_piece bs xs s t) (part bs xs s u (term_piece bs xs s u)) (λ none. refl)) (λ none. refl))
    node_piece bs xs s (tree.let_term (bound b q) t u) =
        let c = bound_name (labelling o l) b q in
        let e = nameless bs xs t in
        subst (λ d. Piece (in_node o (tree.let_term (bound b q) t u)) (terms_in_each (placed_parts bs xs s (tree.let_term (bound b q) t u)))
        (terms_in_each (placed_parts bs xs s (tree.let_term d (now_term t) (now_term u))))
        (written_in (now_term t) ++ written_in (now_term u) ≡ written_in t ++ written_in u)) (bound_is (labelling o l) b q)
        (so (λ e i. e.0 i ++ e.1 i)
        (both (terms_in_each (one_part (placed_term bs (c ∷ xs) (of_term (nameless bs xs (now_term t)) ∷ s) (now_term u)))) (more (in_bound o (bound b q)) (term_piece bs xs s t))
        (part bs (b ∷ xs) (of_term e ∷ s) u (term_piece bs (b ∷ xs) (of_term e ∷ s) u))
        (λ none. sym (λ i. terms_in_each (one_part (placed_term bs (name_stays b q (omega (arith, none)) i ∷ xs) (of_term (nameless bs xs (term_stays t (omega (arith, none)) i)) ∷ s) (now_term u)))))))
    node_piece bs xs s (tree.letrec_term (bound b q) w t u) =
        let c = bound_name (labelling o l) b q in
        let first = λ (x : Option Name) (v : TypeTree).
        letrec_fix bs xs s v (term_span (now_term t)) (nameless bs (x ∷ xs) (now_term t)) (placed_term bs (x ∷ xs) (written (expansion bs v) ∷ s) (now_term t)) in
        let body = λ (x : Option Name) (v : TypeTree) (e : TermTree). placed_term bs (x ∷ xs) (of_term (fix (letrec_function bs v (nameless bs (x ∷ xs) e))) ∷ s) (now_term u) in
        let scope = of_term (fix (letrec_function bs w (nameless bs (b ∷ xs) t))) ∷ s in
        subst (λ d. Piece (in_node o (tree.letrec_term (bound b q) w t u)) (terms_in_each (placed_parts bs xs s (tree.letrec_term (bound b q) w t u)))
        (terms_in_each (placed_parts bs xs s (tree.letrec_term d (now_type w) (now_term t) (now_term u))))
        (now_type w ∷ (written_in (now_term t) ++ written_in (now_term u)) ≡ w ∷ (written_in t ++ written_in u))) (bound_is (labelling o l) b q)
        (so (λ e i. e.0.0 i ∷ (e.0.1 i ++ e.1 i))
        (both (terms_in_each (one_part (body c (now_type w) (now_term t))))
        (both (terms_in (first c (now_type w))) (more (in_bound o (bound b q)) (type_piece w)) (fix_piece bs xs s b w t (term_piece bs (b ∷ xs) (written (expansion bs w) ∷ s) t))
        (λ none. sym (λ i. terms_in (first (name_stays b q (omega (arith, none)) i) (type_stays w (omega (arith, none)) i)))))
        (part bs (b ∷ xs) scope u (term_piece bs (b ∷ xs) scope u))
        (λ none. sym (λ i. terms_in_each (one_part (body (name_stays b q (omega (arith, none)) i) (type_stays w (omega (arith, none)) i) (term_stays t (omega (arith, none)) i)))))))
    node_piece bs xs s (tree.prefixed p t) = part bs xs s t (term_piece bs xs s t)
    node_piece bs xs s (tree.apply t u) =
        so (λ e i. e.0 i ++ e.1 i) (both (terms_in_each (one_part (placed_term bs xs s (now_term u)))) (term_piece bs xs s t) (part bs xs s u (term_piece bs xs s u)) (λ none. refl))
    node_piece bs xs s (tree.project t k) = more (in_word o k) (part bs xs s t (term_piece bs xs s t))
    node_piece bs xs s (tree.ascribe t u) = so (λ e i. e.0 i ++ e.1 i ∷ []) (both [] (term_piece bs xs s t) (type_piece u) (λ none. refl))
    node_piece bs xs s (tree.record_term fs) = fields_piece bs xs s fs
    node_piece bs xs s (tree.variable w) = no_terms (in_word o w) (λ none. refl)
    node_piece bs xs s n = no_terms 0 (λ none. refl)

    fields_piece : (bs : List Abbreviation) (xs : List (Option Name)) (s : Scope) (fs : tree.FieldTrees)
        → Piece (in_fields o fs) (terms_in_each (placed_fields bs xs s fs)) (terms_in_each (placed_fields bs xs s (now_fields fs)))
        (written_in_fields (now_fields fs) ≡ written_in_fields fs)
    fields_piece bs xs s tree.no_fields = no_terms 0 (λ none. refl)
    fields_piece bs xs s (tree.field k t fs) =
        so (λ e i. e.0 i ++ e.1 i)
        (both (terms_in_each (placed_fields bs xs s (now_fields fs))) (more (in_word o k) (term_piece bs xs s t)) (fields_piece bs xs s fs) (λ none. refl))

  -- ---- the terms of commands

  -- the written types of a command, and the abbreviations behind it
  abbrev SameTypes : List Abbreviation → (c d : CommandTree) → Type 0
  SameTypes bs c d = (written_in_command c ≡ written_in_command d) × (abbreviations_after bs c ≡ abbreviations_after bs d)

  command_piece : (bs : List Abbreviation) (xs : List (Option Name)) (s : Scope) (c : CommandTree)
      → Piece (in_command o c) (command_terms bs xs s c) (command_terms bs xs s (now_command c)) (SameTypes bs (now_command c) c)
  command_piece bs xs s (definition w t) = so (λ e. (e, refl)) (more (in_word o w) (term_piece bs xs s t))
  command_piece bs xs s (declaration w u) = so (λ e. (ap (λ v. v ∷ []) e, refl)) (more (in_word o w) (type_piece u))
  command_piece bs xs s (tree.abbreviation (word x q) u) =
      so (λ e. (ap (λ v. v ∷ []) e, ap (λ v. abbreviations_after bs (tree.abbreviation (word x q) v)) e)) (more (at o q) (type_piece u))
  command_piece bs xs s (evaluation t) = so (λ e. (e, refl)) (term_piece bs xs s t)

  commands_piece : (bs : List Abbreviation) (xs : List (Option Name)) (s : Scope) (cs : List CommandTree)
      → Piece (in_commands o cs) (commands_terms bs xs s cs) (commands_terms bs xs s (labelled o l cs)) (first_too_large bs (labelled o l cs) ≡ first_too_large bs cs)
  commands_piece bs xs s [] = no_terms 0 (λ none. refl)
  commands_piece bs xs s (c ∷ cs) =
      let rest = λ (d : CommandTree). commands_terms (abbreviations_after bs d) (names_after xs d) (scope_after bs xs s d) (labelled o l cs) in
      so (λ e. (λ i. option_or (first_over_limit bs (e.0.0 i)) (first_too_large (e.0.1 i) (labelled o l cs))) ∙ ap (option_or (first_over_limit bs (written_in_command c))) e.1)
      (both (rest (now_command c)) (command_piece bs xs s c) (commands_piece (abbreviations_after bs c) (names_after xs c) (scope_after bs xs s c) cs)
      (λ none. ap rest (sym (command_stays c none))))

-- ---- documents

second : {A : Type 0} (xs : List A) (x y : A) (ys : List A) (d : A) → get_or (xs ++ x ∷ y ∷ ys) (suc (length xs)) d ≡ y
second [] x y ys d = refl
second (z ∷ xs) x y ys d = second xs x y ys d

-- the first elements do not depend on what comes behind them
front_alone : {A B : Type 0} (f : A → B) (xs : List A) (x : A) (ys zs : List A) → take (suc (length xs)) (map f (xs ++ x ∷ ys)) ≡ take (suc (length xs)) (map f (xs ++ x ∷ zs))
front_alone f [] x ys zs = refl
front_alone f (w ∷ xs) x ys zs = ap (λ rest. f w ∷ rest) (front_alone f xs x ys zs)

anew_labelled : (cs others : List CommandTree) (o n : ℕ) (l : Label) → AskAnew o l (document_terms cs) (document_terms others) n → first_too_large [] others ≡ first_too_large [] cs
    → AreLabelled cs others n l
anew_labelled cs others o n l r types =
    let nowhere = tree_in [] 0 in
    let own : tree_in (document_terms cs) n ≡ r.asks = (λ i. get_or (r.was i) (r.number i) nowhere) ∙ second r.front r.operand r.asks r.back nowhere in
    let new : tree_in (document_terms others) n ≡ r.asks_now = (λ i. get_or (r.now i) (r.number i) nowhere) ∙ second r.front r.operand r.asks_now r.back_now nowhere in
    let before : tree_in (document_terms cs) (length r.front) ≡ r.operand =
    ap (λ ts. get_or ts (length r.front) nowhere) r.was ∙ get_or-append_seam r.front r.operand (r.asks ∷ r.back) nowhere in
    let asked : place_in cs n ≡ record { scope = (term_of r.operand).place.scope; here = project (term_of r.operand).place.here r.label } = ap (λ t. (term_of t).place) own ∙ r.asked in
    record {
      before = (λ i. take (r.number i) (map (λ t. (term_of t).place) (r.now i))) ∙ front_alone (λ t. (term_of t).place) r.front r.operand (r.asks_now ∷ r.back_now) (r.asks ∷ r.back)
          ∙ sym (λ i. take (r.number i) (map (λ t. (term_of t).place) (r.was i)));
      operand = (term_of r.operand).place.here;
      label = r.label;
      asked = ap (λ p. p.here) asked;
      asked_now = ap (λ t. (term_of t).place) new ∙ r.asked_now ∙ (λ i. record { scope = (sym asked i).scope; here = project (term_of r.operand).place.here l });
      number = length r.front;
      is_next = r.number;
      operand_there = ap (λ t. (term_of t).place) before ∙ (λ i. record { scope = (sym asked i).scope; here = (term_of r.operand).place.here });
      written = types;
    }

pub asks_other : (cs : List CommandTree) (high o n : ℕ) (l : Label) → Ascend 0 (mentions cs) high → projection_at o cs ≡ Some n → AreLabelled cs (labelled o l cs) n l
asks_other cs high o n l ascend is =
    let ts = document_terms cs in
    let nowhere = tree_in [] 0 in
    let found = position-Some (λ t. is_projection_at o (term_of t).own) ts n nowhere is in
    let anew = (commands_piece o l [] [] [] cs).anew n (is_at o l ts n nowhere found.0 found.1) in
    let both = anew.1 (omega (arith, at_most_one o 0 high (mentions cs) ascend, commands_mentions o [] [] cs)) in
    anew_labelled cs (labelled o l cs) o n l both.0 both.1
