-- The binders that the table gives a place take their types from where the nameless form says.
use Rattle.std.proofs.Common.{◌≡◌, ℕ, ◌+◌, List, [], ◌∷◌, ◌++◌, length, zero, suc, refl, ap, sym, ◌∙◌, subst, arith, map, reverse, get_or, Option, Some, None, true, false}
use Rattle.lam_rules.specs.Terms.{Term}
use Rattle.lam_syntax.specs.declared.terms.Prefix.{Prefix}
use Rattle.lam_syntax.specs.declared.terms.Prefix.TheVariants as prefix
use Rattle.lam_syntax.specs.Trees as tree
use Rattle.lam_syntax.specs.Trees.{word, bound, TermTree, term_tree, TermNode, CommandTree, definition, declaration, evaluation, term_span}
use Rattle.lam_token.specs.declared.span.Span.{Span}
use Rattle.lam_scope.specs.declared.numbers.Origin.{Origin}
use Rattle.lam_scope.specs.declared.numbers.Origin.TheVariants.{Declaration, TypeName}
use Rattle.lam_scope.specs.Names.{Name, index_of}
use Rattle.lam_scope.specs.Expansions.{Abbreviation}
use Rattle.lam_scope.specs.Nameless.{use_indexed, prefixed, nameless, nameless_node, nameless_fields, statements, abbreviations_after}
use Rattle.lam_scope.specs.Sights.{Sight, inside, place_of_term, behind_term, lambda_at, term_at, sights, sights_in, sights_of, sight_numbered}
use Rattle.lam_scope.specs.Tables.{TextBinder, TextPlace, Table, ◌⊕◌, Entry, entry, binder_row, place_row, root, behind, roots, below, binders_in, type_uses, term_table, node_table, fields_table, letrec_rows, commands_table, table, binder_in, place_at_number, seen_in, visible_at}
use Rattle.lam_scope.proofs.PlaceCounts.{type_places, inside-nameless, places-plus}
use Rattle.lam_scope.proofs.Reading.{map-reverse}
use Rattle.lam_scope.proofs.BinderRows.{Along, both, front_alone, back_alone, plus, type_binders, letrec_binders, term_binders, BindersStand, all_stand, rows_left, rows_right, AreUnder, under_more, AreSeen, one_more, read_from, read_seen, letrec_first}

abbrev origin : TextBinder → Origin
origin b = b.origin

-- a place sees binders of those origins
abbrev SeesOrigins : List TextBinder → TextPlace → Sight → Type 0
SeesOrigins bs p s = read_from origin bs (length bs) p.inner ≡ s

-- the places of a term

same_root : (bs : List Abbreviation) (xs : List (Option Name)) (k : ℕ) (t : TermTree) → root k t ≡ place_of_term k (nameless bs xs t)
same_root bs xs k t = ap (λ m. k + m) (sym (inside-nameless bs xs t))

same_behind : (bs : List Abbreviation) (xs : List (Option Name)) (k : ℕ) (t : TermTree) → behind k t ≡ behind_term k (nameless bs xs t)
same_behind bs xs k t = ap (λ m. m + 1) (same_root bs xs k t)

use_sight : (k : ℕ) (s : Sight) (x : Name) (o : Option ℕ) → sights k s (use_indexed x o) ≡ s ∷ []
use_sight k s x None = refl
use_sight k s x (Some n) = refl

prefixed_sight : (k : ℕ) (s : Sight) (p : Prefix) (e : Term) → sights k s (prefixed p e) ≡ sights k s e ++ s ∷ []
prefixed_sight k s prefix.Fix e = refl
prefixed_sight k s prefix.Succ e = refl
prefixed_sight k s prefix.Pred e = refl
prefixed_sight k s prefix.IsZero e = refl

-- a table whose places see what the subterms of a term see, except for the term itself
abbrev SeeInside : List TextBinder → ℕ → Sight → Table → Term → Type 0
SeeInside bs k s t e = (ss : List Sight) × Along (SeesOrigins bs) t.places ss × (sights k s e ≡ ss ++ s ∷ [])

-- the derived lambda and fix of a letrec see what it sees
letrec_sees : (bs : List TextBinder) (x : Option Name) (r span : Span) (names : List Entry) (n p : ℕ) (u t : Table) (ss : List Sight) (s : Sight) → length u.places ≡ 0
    → AreSeen origin bs names s → Along (SeesOrigins bs) t.places ss → Along (SeesOrigins bs) (letrec_rows x r names n p span u t).places (ss ++ s ∷ [] ++ s ∷ [])
letrec_sees bs x r span names n p u t ss s e seen first =
    let one = binder_row x r names (n + 1) (lambda_at (p + 1)) in
    let two = binder_row x r names (n + 1) (term_at (p + 2)) in
    let function = place_row span true (p ∷ []) names in
    let fixed = place_row span true ((p + 1) ∷ []) names in
    let here = read_seen origin bs names s seen in
    both (SeesOrigins bs) (one ⊕ two ⊕ u ⊕ t ⊕ function) fixed _ _
    (both (SeesOrigins bs) (one ⊕ two ⊕ u ⊕ t) function _ _ (back_alone (SeesOrigins bs) (one ⊕ two ⊕ u) t _ (places-plus (one ⊕ two) u 0 0 (places-plus one two 0 0 refl refl) e) first) (here, tt)) (here, tt)

mutual
  term_sees : (bs : List TextBinder) (types names : List Entry) (n k : ℕ) (known : List Abbreviation) (xs : List (Option Name)) (s : Sight) (t : TermTree)
      → AreUnder names n → AreSeen origin bs names s → BindersStand bs n (term_table types names n k t).binders → Along (SeesOrigins bs) (term_table types names n k t).places (sights k s (nameless known xs t))
  term_sees bs types names n k known xs s (term_tree r node) under seen stand =
      let own = place_row r false (roots k node) names in
      let inner = node_sees bs types names n k known xs s node under seen (rows_left bs n (node_table types names n k node) own stand) in
      subst (λ ss. Along (SeesOrigins bs) (node_table types names n k node ⊕ own).places ss) (sym inner.2)
      (both (SeesOrigins bs) (node_table types names n k node) own inner.0 (s ∷ []) inner.1 (read_seen origin bs names s seen, tt))

  node_sees : (bs : List TextBinder) (types names : List Entry) (n k : ℕ) (known : List Abbreviation) (xs : List (Option Name)) (s : Sight) (node : TermNode)
      → AreUnder names n → AreSeen origin bs names s → BindersStand bs n (node_table types names n k node).binders → SeeInside bs k s (node_table types names n k node) (nameless_node known xs node)
  node_sees bs types names n k known xs s tree.true_term under seen stand = ([], tt, refl)
  node_sees bs types names n k known xs s tree.false_term under seen stand = ([], tt, refl)
  node_sees bs types names n k known xs s tree.unit_term under seen stand = ([], tt, refl)
  node_sees bs types names n k known xs s (tree.variable (word x r)) under seen stand = ([], tt, use_sight k s x (index_of x xs))
  node_sees bs types names n k known xs s (tree.numeral (word x r)) under seen stand = ([], tt, refl)
  node_sees bs types names n k known xs s (tree.lambda (bound b r) u t) under seen stand =
      let own = binder_row b r names n (lambda_at (behind k t)) in
      let body = term_table types (entry b n n ∷ names) (n + 1) k t in
      let count = plus own (type_uses types u) 1 0 refl (type_binders types u) in
      let front = rows_left bs n own (type_uses types u) (rows_left bs n (own ⊕ type_uses types u) body stand) in
      let inside_of = term_sees bs types (entry b n n ∷ names) (n + 1) k known (b ∷ xs) (lambda_at (behind k t) ∷ s) t (omega arith)
      (one_more origin bs b r names n n n (lambda_at (behind k t)) (lambda_at (behind k t)) s [] refl under front seen)
      (rows_right bs n (n + 1) (own ⊕ type_uses types u) body (omega arith) stand) in (
        sights k (lambda_at (behind k t) ∷ s) (nameless known (b ∷ xs) t),
        back_alone (SeesOrigins bs) (own ⊕ type_uses types u) body _ (places-plus own (type_uses types u) 0 0 refl (type_places types u)) inside_of,
        (λ i. sights k (lambda_at (sym (same_behind known (b ∷ xs) k t) i) ∷ s) (nameless known (b ∷ xs) t) ++ s ∷ []),
      )
  node_sees bs types names n k known xs s (tree.if_term c t u) under seen stand =
      let second = n + binders_in c in
      let third = n + binders_in c + binders_in t in
      let one = term_table types names n k c in
      let two = term_table types names second (behind k c) t in
      let three = term_table types names third (behind (behind k c) t) u in
      let count_one = term_binders types names n k c in
      let count_two = plus one two (binders_in c) (binders_in t) count_one (term_binders types names second (behind k c) t) in
      let front = rows_left bs n (one ⊕ two) three stand in
      let first = term_sees bs types names n k known xs s c under seen (rows_left bs n one two front) in
      let other = term_sees bs types names second (behind k c) known xs s t (under_more names n second (omega arith) under) seen (rows_right bs n second one two (omega arith) front) in
      let last = term_sees bs types names third (behind (behind k c) t) known xs s u (under_more names n third (omega arith) under) seen (rows_right bs n third (one ⊕ two) three (omega arith) stand) in
      let at_two = sym (same_behind known xs k c) in
      let at_three = ap (λ j. behind_term j (nameless known xs t)) at_two ∙ sym (same_behind known xs (behind k c) t) in (
        sights k s (nameless known xs c) ++ sights (behind k c) s (nameless known xs t) ++ sights (behind (behind k c) t) s (nameless known xs u),
        both (SeesOrigins bs) (one ⊕ two) three _ _ (both (SeesOrigins bs) one two _ _ first other) last,
        (λ i. sights k s (nameless known xs c) ++ sights (at_two i) s (nameless known xs t) ++ sights (at_three i) s (nameless known xs u) ++ s ∷ []),
      )
  node_sees bs types names n k known xs s (tree.let_term (bound b r) t u) under seen stand =
      let own = binder_row b r names n (term_at (root k t)) in
      let one = term_table types names (n + 1) k t in
      let after = n + 1 + binders_in t in
      let two = term_table types (entry b n n ∷ names) after (behind k t) u in
      let count = plus own one 1 (binders_in t) refl (term_binders types names (n + 1) k t) in
      let front = rows_left bs n (own ⊕ one) two stand in
      let first = term_sees bs types names (n + 1) k known xs s t (under_more names n (n + 1) (omega arith) under) seen (rows_right bs n (n + 1) own one refl front) in
      let second = term_sees bs types (entry b n n ∷ names) after (behind k t) known (b ∷ xs) (term_at (root k t) ∷ s) u (omega arith)
      (one_more origin bs b r names n n n (term_at (root k t)) (term_at (root k t)) s [] refl under (rows_left bs n own one front) seen)
      (rows_right bs n after (own ⊕ one) two (omega arith) stand) in (
        sights k s (nameless known xs t) ++ sights (behind k t) (term_at (root k t) ∷ s) (nameless known (b ∷ xs) u),
        both (SeesOrigins bs) (own ⊕ one) two _ _ (back_alone (SeesOrigins bs) own one _ refl first) second,
        (λ i. sights k s (nameless known xs t) ++ sights (sym (same_behind known xs k t) i) (term_at (sym (same_root known xs k t) i) ∷ s) (nameless known (b ∷ xs) u) ++ s ∷ []),
      )
  node_sees bs types names n k known xs s (tree.letrec_term (bound b r) w t u) under seen stand =
      let first = term_table types (entry b n (n + 1) ∷ names) (n + 2) k t in
      let rows = letrec_rows b r names n (root k t) (term_span t) (type_uses types w) first in
      let after = n + 2 + binders_in t in
      let body = term_table types (entry b (n + 1) (n + 1) ∷ names) after (root k t + 3) u in
      let count = letrec_binders b r (term_span t) names n (root k t) (binders_in t) (type_uses types w) first (type_binders types w) (term_binders types (entry b n (n + 1) ∷ names) (n + 2) k t) in
      let own = letrec_first bs b r (term_span t) names n (root k t) (type_uses types w) first (type_binders types w) (rows_left bs n rows body stand) in
      let inner = term_sees bs types (entry b n (n + 1) ∷ names) (n + 2) k known (b ∷ xs) (lambda_at (root k t + 1) ∷ s) t (omega arith)
      (one_more origin bs b r names n (n + 1) (n + 1) (lambda_at (root k t + 1)) (lambda_at (root k t + 1)) s [] refl under own.0 seen) own.2 in
      let last = term_sees bs types (entry b (n + 1) (n + 1) ∷ names) after (root k t + 3) known (b ∷ xs) (term_at (root k t + 2) ∷ s) u (omega arith)
      (one_more origin bs b r names (n + 1) (n + 1) (n + 1) (term_at (root k t + 2)) (term_at (root k t + 2)) s [] refl (under_more names n (n + 1) (omega arith) under) own.1 seen)
      (rows_right bs n after rows body (omega arith) stand) in
      let below_it = inside-nameless known (b ∷ xs) t in
      let at_lambda : root k t + 1 ≡ behind_term k (nameless known (b ∷ xs) t) = omega arith in
      let at_fix : root k t + 2 ≡ k + (inside (nameless known (b ∷ xs) t) + 1 + 1) = omega arith in
      let at_body : root k t + 3 ≡ k + (inside (nameless known (b ∷ xs) t) + 1 + 1) + 1 = omega arith in
      let derived = letrec_sees bs b r (term_span t) names n (root k t) (type_uses types w) first (sights k (lambda_at (root k t + 1) ∷ s) (nameless known (b ∷ xs) t)) s (type_places types w) seen inner in (
        sights k (lambda_at (root k t + 1) ∷ s) (nameless known (b ∷ xs) t) ++ s ∷ [] ++ s ∷ [] ++ sights (root k t + 3) (term_at (root k t + 2) ∷ s) (nameless known (b ∷ xs) u),
        both (SeesOrigins bs) rows body _ _ derived last,
        (λ i. sights k (lambda_at (sym at_lambda i) ∷ s) (nameless known (b ∷ xs) t) ++ s ∷ [] ++ s ∷ [] ++ sights (sym at_body i) (term_at (sym at_fix i) ∷ s) (nameless known (b ∷ xs) u) ++ s ∷ []),
      )
  node_sees bs types names n k known xs s (tree.prefixed p t) under seen stand =
      (sights k s (nameless known xs t), term_sees bs types names n k known xs s t under seen stand, prefixed_sight k s p (nameless known xs t))
  node_sees bs types names n k known xs s (tree.apply t u) under seen stand =
      let second = n + binders_in t in
      let one = term_table types names n k t in
      let two = term_table types names second (behind k t) u in
      let count = term_binders types names n k t in
      let first = term_sees bs types names n k known xs s t under seen (rows_left bs n one two stand) in
      let other = term_sees bs types names second (behind k t) known xs s u (under_more names n second (omega arith) under) seen (rows_right bs n second one two (omega arith) stand) in (
        sights k s (nameless known xs t) ++ sights (behind k t) s (nameless known xs u),
        both (SeesOrigins bs) one two _ _ first other,
        (λ i. sights k s (nameless known xs t) ++ sights (sym (same_behind known xs k t) i) s (nameless known xs u) ++ s ∷ []),
      )
  node_sees bs types names n k known xs s (tree.project t (word l r)) under seen stand =
      (sights k s (nameless known xs t), term_sees bs types names n k known xs s t under seen stand, refl)
  node_sees bs types names n k known xs s (tree.ascribe t u) under seen stand =
      let one = term_table types names n k t in
      (sights k s (nameless known xs t), front_alone (SeesOrigins bs) one (type_uses types u) _ (type_places types u) (term_sees bs types names n k known xs s t under seen (rows_left bs n one (type_uses types u) stand)), refl)
  node_sees bs types names n k known xs s (tree.record_term fs) under seen stand =
      (sights_in k s (nameless_fields known xs fs), fields_see bs types names n k known xs s fs under seen stand, refl)

  fields_see : (bs : List TextBinder) (types names : List Entry) (n k : ℕ) (known : List Abbreviation) (xs : List (Option Name)) (s : Sight) (fs : tree.FieldTrees)
      → AreUnder names n → AreSeen origin bs names s → BindersStand bs n (fields_table types names n k fs).binders → Along (SeesOrigins bs) (fields_table types names n k fs).places (sights_in k s (nameless_fields known xs fs))
  fields_see bs types names n k known xs s tree.no_fields under seen stand = tt
  fields_see bs types names n k known xs s (tree.field (word l r) t fs) under seen stand =
      let second = n + binders_in t in
      let one = term_table types names n k t in
      let two = fields_table types names second (behind k t) fs in
      let count = term_binders types names n k t in
      let first = term_sees bs types names n k known xs s t under seen (rows_left bs n one two stand) in
      let other = fields_see bs types names second (behind k t) known xs s fs (under_more names n second (omega arith) under) seen (rows_right bs n second one two (omega arith) stand) in
      subst (λ j. Along (SeesOrigins bs) (one ⊕ two).places (sights k s (nameless known xs t) ++ sights_in j s (nameless_fields known xs fs))) (same_behind known xs k t)
      (both (SeesOrigins bs) one two _ _ first other)

-- the places of the commands, one by one

commands_see : (bs : List TextBinder) (types names : List Entry) (n k i : ℕ) (known : List Abbreviation) (xs : List (Option Name)) (s : Sight) (cs : List CommandTree)
    → AreUnder names n → AreSeen origin bs names s → BindersStand bs n (commands_table types names n k i cs).binders → Along (SeesOrigins bs) (commands_table types names n k i cs).places (sights_of k i s (statements known xs cs))
commands_see bs types names n k i known xs s [] under seen stand = tt
commands_see bs types names n k i known xs s (definition (word x r) t ∷ cs) under seen stand =
    let own = binder_row (Some x) r names n (term_at (root k t)) in
    let one = term_table types names (n + 1) k t in
    let after = n + (1 + binders_in t) in
    let rest = commands_table types (entry (Some x) n n ∷ names) after (k + (below t + 1)) (i + 1) cs in
    let count = plus own one 1 (binders_in t) refl (term_binders types names (n + 1) k t) in
    let front = rows_left bs n (own ⊕ one) rest stand in
    let first = term_sees bs types names (n + 1) k known xs s t (under_more names n (n + 1) (omega arith) under) seen (rows_right bs n (n + 1) own one refl front) in
    let others = commands_see bs types (entry (Some x) n n ∷ names) after (k + (below t + 1)) (i + 1) known (Some x ∷ xs) (term_at (root k t) ∷ s) cs (omega arith)
    (one_more origin bs (Some x) r names n n n (term_at (root k t)) (term_at (root k t)) s [] refl under (rows_left bs n own one front) seen)
    (rows_right bs n after (own ⊕ one) rest (omega arith) stand) in
    let inner = inside-nameless known xs t in
    let next : k + (below t + 1) ≡ behind_term k (nameless known xs t) = omega arith in
    subst (λ ss. Along (SeesOrigins bs) ((own ⊕ one) ⊕ rest).places ss)
    (λ j. sights k s (nameless known xs t) ++ sights_of (next j) (i + 1) (term_at (same_root known xs k t j) ∷ s) (statements known (Some x ∷ xs) cs))
    (both (SeesOrigins bs) (own ⊕ one) rest _ _ (back_alone (SeesOrigins bs) own one _ refl first) others)
commands_see bs types names n k i known xs s (declaration (word x r) u ∷ cs) under seen stand =
    let own = binder_row (Some x) r names n (Declaration i) in
    let rest = commands_table types (entry (Some x) n n ∷ names) (n + 1) (k + 0) (i + 1) cs in
    let count = plus own (type_uses types u) 1 0 refl (type_binders types u) in
    let others = commands_see bs types (entry (Some x) n n ∷ names) (n + 1) (k + 0) (i + 1) known (Some x ∷ xs) (Declaration i ∷ s) cs (omega arith)
    (one_more origin bs (Some x) r names n n n (Declaration i) (Declaration i) s [] refl under (rows_left bs n own (type_uses types u) (rows_left bs n (own ⊕ type_uses types u) rest stand)) seen)
    (rows_right bs n (n + 1) (own ⊕ type_uses types u) rest (omega arith) stand) in
    let same : k + 0 ≡ k = omega arith in
    subst (λ j. Along (SeesOrigins bs) ((own ⊕ type_uses types u) ⊕ rest).places (sights_of j (i + 1) (Declaration i ∷ s) (statements known (Some x ∷ xs) cs))) same
    (back_alone (SeesOrigins bs) (own ⊕ type_uses types u) rest _ (places-plus own (type_uses types u) 0 0 refl (type_places types u)) others)
commands_see bs types names n k i known xs s (tree.abbreviation (word x r) u ∷ cs) under seen stand =
    let c = tree.abbreviation (word x r) u in
    let own = binder_row (Some x) r types n TypeName in
    let rest = commands_table (entry (Some x) n n ∷ types) names (n + 1) (k + 0) (i + 1) cs in
    let count = plus own (type_uses types u) 1 0 refl (type_binders types u) in
    let others = commands_see bs (entry (Some x) n n ∷ types) names (n + 1) (k + 0) (i + 1) (abbreviations_after known c) xs s cs (under_more names n (n + 1) (omega arith) under) seen
    (rows_right bs n (n + 1) (own ⊕ type_uses types u) rest (omega arith) stand) in
    let same : k + 0 ≡ k = omega arith in
    subst (λ j. Along (SeesOrigins bs) ((own ⊕ type_uses types u) ⊕ rest).places (sights_of j (i + 1) s (statements (abbreviations_after known c) xs cs))) same
    (back_alone (SeesOrigins bs) (own ⊕ type_uses types u) rest _ (places-plus own (type_uses types u) 0 0 refl (type_places types u)) others)
commands_see bs types names n k i known xs s (evaluation t ∷ cs) under seen stand =
    let one = term_table types names n k t in
    let after = n + binders_in t in
    let rest = commands_table types names after (k + (below t + 1)) (i + 1) cs in
    let count = term_binders types names n k t in
    let first = term_sees bs types names n k known xs s t under seen (rows_left bs n one rest stand) in
    let others = commands_see bs types names after (k + (below t + 1)) (i + 1) known xs s cs (under_more names n after (omega arith) under) seen (rows_right bs n after one rest (omega arith) stand) in
    let inner = inside-nameless known xs t in
    let next : k + (below t + 1) ≡ behind_term k (nameless known xs t) = omega arith in
    subst (λ j. Along (SeesOrigins bs) (one ⊕ rest).places (sights k s (nameless known xs t) ++ sights_of j (i + 1) s (statements known xs cs))) next
    (both (SeesOrigins bs) one rest _ _ first others)

-- what the place of a number sees

sees_numbered : (bs : List TextBinder) (ps : List TextPlace) (ss : List Sight) (n : ℕ) → Along (SeesOrigins bs) ps ss → read_from origin bs (length bs) (place_at_number ps n).inner ≡ get_or ss n []
sees_numbered bs [] [] n h = refl
sees_numbered bs (p ∷ ps) (s ∷ ss) zero h = h.0
sees_numbered bs (p ∷ ps) (s ∷ ss) (suc n) h = sees_numbered bs ps ss n h.1
sees_numbered bs [] (s ∷ ss) n h = absurd h
sees_numbered bs (p ∷ ps) [] n h = absurd h

pub visible_origins : (cs : List CommandTree) (n : ℕ)
    → map (λ b. (binder_in (table cs).binders b).origin) (visible_at (table cs) n) ≡ reverse (sight_numbered (statements [] [] cs) n)
visible_origins cs n =
    let bs = (table cs).binders in
    map-reverse (λ b. (binder_in bs b).origin) (seen_in bs (length bs) (place_at_number (table cs).places n).inner)
    ∙ ap reverse (sees_numbered bs (table cs).places (sights_of 0 0 [] (statements [] [] cs)) n (commands_see bs [] [] 0 0 0 [] [] [] cs tt tt (all_stand bs)))
