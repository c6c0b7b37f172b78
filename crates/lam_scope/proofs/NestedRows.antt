-- If terms lie within one another, their places nest, and of the places that contain a byte the first lies within all others.
use Rattle.std.proofs.Common.{◌≡◌, ℕ, ◌+◌, ◌<◌, ◌≤◌, List, [], ◌∷◌, ◌++◌, length, zero, suc, refl, ap, sym, ◌∙◌, subst, arith, inl, inr, Option, Some, None, Bool, true, false, ltb}
use Rattle.std.specs.Prelude.{◌⊎◌, if◌then◌else◌}
use Rattle.std.proofs.lemmas.List.{append-nil}
use Rattle.std.proofs.lemmas.List.Quantifiers.{position-Some}
use Rattle.std.proofs.lemmas.Bool.{cases_lt, ltb-true, ltb-false}
use Rattle.std.proofs.Math.ListN.{get_or-eq_default}
use Rattle.lam_token.specs.declared.span.Span.{Span}
use Rattle.lam_syntax.specs.Trees as tree
use Rattle.lam_syntax.specs.Trees.{word, bound, TermTree, term_tree, TermNode, CommandTree, definition, declaration, evaluation, term_span}
use Rattle.lam_scope.specs.declared.numbers.Origin.TheVariants.{Declaration, TypeName}
use Rattle.lam_scope.specs.Sights.{lambda_at, term_at}
use Rattle.lam_scope.specs.Tables.{TextPlace, Table, ◌⊕◌, Entry, entry, binder_row, place_row, root, behind, roots, below, binders_in, type_uses, term_table, node_table, fields_table, letrec_rows, commands_table, table, is_over, place_at_number, place_at, no_span}
use Rattle.lam_scope.specs.Nesting.{IsWithin, Nests, NestsInAll, AreNested, AreSpelledFrom, IsInnermost}
use Rattle.lam_scope.proofs.SpelledTerms.{StandsBetween, PartsStand, FieldsStand, CommandsStand, spelled_stand}
use Rattle.lam_scope.proofs.PlaceCounts.{type_places, places-plus}

-- places between two bytes

abbrev AreBetween : (low high : ℕ) → List TextPlace → Type 0
AreBetween low high [] = Unit {0}
AreBetween low high (p ∷ ps) = (low ≤ p.span.start) × (p.span.end ≤ high) × AreBetween low high ps

between_more : (a b c d : ℕ) (ps : List TextPlace) → c ≤ a → b ≤ d → AreBetween a b ps → AreBetween c d ps
between_more a b c d [] first last h = tt
between_more a b c d (p ∷ ps) first last h = (omega (arith, first, h.0), omega (arith, last, h.1), between_more a b c d ps first last h.2)

between_append : (a b : ℕ) (ps qs : List TextPlace) → AreBetween a b ps → AreBetween a b qs → AreBetween a b (ps ++ qs)
between_append a b [] qs g h = h
between_append a b (p ∷ ps) qs g h = (g.0, g.1, between_append a b ps qs g.2 h)

nests_behind : (p : TextPlace) (mid high : ℕ) (qs : List TextPlace) → p.span.end ≤ mid → AreBetween mid high qs → NestsInAll p qs
nests_behind p mid high [] le h = tt
nests_behind p mid high (q ∷ qs) le h = (inr (omega (arith, le, h.0)), nests_behind p mid high qs le h.2)

nests_append : (p : TextPlace) (qs rs : List TextPlace) → NestsInAll p qs → NestsInAll p rs → NestsInAll p (qs ++ rs)
nests_append p [] rs g h = h
nests_append p (q ∷ qs) rs g h = (g.0, nests_append p qs rs g.1 h)

nested_append : (low mid next high : ℕ) (ps qs : List TextPlace) → mid ≤ next → AreBetween low mid ps → AreBetween next high qs → AreNested ps → AreNested qs → AreNested (ps ++ qs)
nested_append low mid next high [] qs le g h m n = n
nested_append low mid next high (p ∷ ps) qs le g h m n =
    (nests_append p ps qs m.0 (nests_behind p next high qs (omega (arith, le, g.1)) h), nested_append low mid next high ps qs le g.2 h m.1 n)

nested_own : (ps : List TextPlace) (own : TextPlace) → AreBetween own.span.start own.span.end ps → AreNested ps → AreNested (ps ++ own ∷ [])
nested_own [] own g m = (tt, tt)
nested_own (p ∷ ps) own g m = (nests_append p ps (own ∷ []) m.0 (inl (g.0, g.1), tt), nested_own ps own g.2 m.1)

-- tables whose places nest between two bytes

abbrev NestBetween : (low high : ℕ) → Table → Type 0
NestBetween low high t = AreBetween low high t.places × AreNested t.places

nest_more : (a b c d : ℕ) (t : Table) → c ≤ a → b ≤ d → NestBetween a b t → NestBetween c d t
nest_more a b c d t first last h = (between_more a b c d t.places first last h.0, h.1)

nest_both : (a b c d : ℕ) (s t : Table) → a ≤ b → b ≤ c → c ≤ d → NestBetween a b s → NestBetween c d t → NestBetween a d (s ⊕ t)
unfolding ◌⊕◌
nest_both a b c d s t first le last g h = (
  between_append a d s.places t.places (between_more a b a d s.places (omega arith) (omega (arith, le, last)) g.0) (between_more c d a d t.places (omega (arith, first, le)) (omega arith) h.0),
  nested_append a b c d s.places t.places le g.0 h.0 g.1 h.1,
)

nest_own : (s : Span) (derived : Bool) (ts : List ℕ) (names : List Entry) (t : Table) → NestBetween s.start s.end t → NestBetween s.start s.end (t ⊕ place_row s derived ts names)
unfolding ◌⊕◌
nest_own s derived ts names t h =
    let own = place_row s derived ts names in
    (between_append s.start s.end t.places own.places h.0 (omega arith, omega arith, tt), nested_own t.places _ h.0 h.1)

none_right : (ps qs : List TextPlace) → length qs ≡ 0 → ps ++ qs ≡ ps
none_right ps [] e = append-nil ps
none_right ps (q ∷ qs) e = absurd (omega arith)

none_left : (ps qs : List TextPlace) → length ps ≡ 0 → ps ++ qs ≡ qs
none_left [] qs e = refl
none_left (p ∷ ps) qs e = absurd (omega arith)

nest_right : (low high : ℕ) (s t : Table) → length s.places ≡ 0 → NestBetween low high t → NestBetween low high (s ⊕ t)
unfolding ◌⊕◌
nest_right low high s t e h = subst (λ ps. AreBetween low high ps × AreNested ps) (sym (none_left s.places t.places e)) h

nest_left : (low high : ℕ) (s t : Table) → length t.places ≡ 0 → NestBetween low high s → NestBetween low high (s ⊕ t)
unfolding ◌⊕◌
nest_left low high s t e h = subst (λ ps. AreBetween low high ps × AreNested ps) (sym (none_right s.places t.places e)) h

letrec_nest : (s : Span) (x : Option (List ℕ)) (r : Span) (names : List Entry) (n p : ℕ) (u t : Table) → length u.places ≡ 0 → NestBetween s.start s.end t
    → NestBetween s.start s.end (letrec_rows x r names n p s u t)
letrec_nest s x r names n p u t e h =
    let one = binder_row x r names (n + 1) (lambda_at (p + 1)) in
    let two = binder_row x r names (n + 1) (term_at (p + 2)) in
    let function = place_row s true (p ∷ []) names in
    nest_own s true ((p + 1) ∷ []) names (one ⊕ two ⊕ u ⊕ t ⊕ function)
    (nest_own s true (p ∷ []) names (one ⊕ two ⊕ u ⊕ t) (nest_right s.start s.end (one ⊕ two ⊕ u) t (places-plus (one ⊕ two) u 0 0 (places-plus one two 0 0 refl refl) e) h))

-- the places of a term

begins : (low high : ℕ) (t : TermTree) → StandsBetween low high t → low ≤ (term_span t).start
begins low high (term_tree s n) h = h.0

spans : (low high : ℕ) (t : TermTree) → StandsBetween low high t → (term_span t).start ≤ (term_span t).end
spans low high (term_tree s n) h = h.1

ends : (low high : ℕ) (t : TermTree) → StandsBetween low high t → (term_span t).end ≤ high
ends low high (term_tree s n) h = h.2

mutual
  term_nests : (types names : List Entry) (n k low high : ℕ) (t : TermTree) → StandsBetween low high t → NestBetween (term_span t).start (term_span t).end (term_table types names n k t)
  term_nests types names n k low high (term_tree s node) h =
      nest_own s false (roots k node) names (node_table types names n k node) (node_nests types names n k s.start s.end node h.1 h.3)

  node_nests : (types names : List Entry) (n k low high : ℕ) (node : TermNode) → low ≤ high → PartsStand low high node → NestBetween low high (node_table types names n k node)
  node_nests types names n k low high tree.true_term le h = (tt, tt)
  node_nests types names n k low high tree.false_term le h = (tt, tt)
  node_nests types names n k low high tree.unit_term le h = (tt, tt)
  node_nests types names n k low high (tree.variable (word x r)) le h = (tt, tt)
  node_nests types names n k low high (tree.numeral w) le h = (tt, tt)
  node_nests types names n k low high (tree.lambda (bound b r) u t) le h =
      let own = binder_row b r names n (lambda_at (behind k t)) in
      let body = term_table types (entry b n n ∷ names) (n + 1) k t in
      nest_right low high (own ⊕ type_uses types u) body (places-plus own (type_uses types u) 0 0 refl (type_places types u))
      (nest_more (term_span t).start (term_span t).end low high body (begins low high t h) (ends low high t h) (term_nests types (entry b n n ∷ names) (n + 1) k low high t h))
  node_nests types names n k low high (tree.if_term c t u) le h =
      let second = n + binders_in c in
      let third = n + binders_in c + binders_in t in
      let one = term_table types names n k c in
      let two = term_table types names second (behind k c) t in
      let three = term_table types names third (behind (behind k c) t) u in
      let spans_c = spans low high c h.0 in
      let spans_t = spans (term_span c).end high t h.1 in
      let spans_u = spans (term_span t).end high u h.2 in
      let begins_t = begins (term_span c).end high t h.1 in
      let begins_u = begins (term_span t).end high u h.2 in
      nest_more (term_span c).start (term_span u).end low high (one ⊕ two ⊕ three) (begins low high c h.0) (ends (term_span t).end high u h.2)
      (nest_both (term_span c).start (term_span t).end (term_span u).start (term_span u).end (one ⊕ two) three (omega (arith, spans_c, begins_t, spans_t)) begins_u spans_u
      (nest_both (term_span c).start (term_span c).end (term_span t).start (term_span t).end one two spans_c begins_t spans_t
      (term_nests types names n k low high c h.0) (term_nests types names second (behind k c) (term_span c).end high t h.1))
      (term_nests types names third (behind (behind k c) t) (term_span t).end high u h.2))
  node_nests types names n k low high (tree.let_term (bound b r) t u) le h =
      let own = binder_row b r names n (term_at (root k t)) in
      let one = term_table types names (n + 1) k t in
      let after = n + 1 + binders_in t in
      let two = term_table types (entry b n n ∷ names) after (behind k t) u in
      let spans_t = spans low high t h.0 in
      nest_more (term_span t).start (term_span u).end low high ((own ⊕ one) ⊕ two) (begins low high t h.0) (ends (term_span t).end high u h.1)
      (nest_both (term_span t).start (term_span t).end (term_span u).start (term_span u).end (own ⊕ one) two spans_t (begins (term_span t).end high u h.1) (spans (term_span t).end high u h.1)
      (nest_right (term_span t).start (term_span t).end own one refl (term_nests types names (n + 1) k low high t h.0))
      (term_nests types (entry b n n ∷ names) after (behind k t) (term_span t).end high u h.1))
  node_nests types names n k low high (tree.letrec_term (bound b r) w t u) le h =
      let first = term_table types (entry b n (n + 1) ∷ names) (n + 2) k t in
      let rows = letrec_rows b r names n (root k t) (term_span t) (type_uses types w) first in
      let after = n + 2 + binders_in t in
      let body = term_table types (entry b (n + 1) (n + 1) ∷ names) after (root k t + 3) u in
      nest_more (term_span t).start (term_span u).end low high (rows ⊕ body) (begins low high t h.0) (ends (term_span t).end high u h.1)
      (nest_both (term_span t).start (term_span t).end (term_span u).start (term_span u).end rows body (spans low high t h.0) (begins (term_span t).end high u h.1) (spans (term_span t).end high u h.1)
      (letrec_nest (term_span t) b r names n (root k t) (type_uses types w) first (type_places types w) (term_nests types (entry b n (n + 1) ∷ names) (n + 2) k low high t h.0))
      (term_nests types (entry b (n + 1) (n + 1) ∷ names) after (root k t + 3) (term_span t).end high u h.1))
  node_nests types names n k low high (tree.prefixed p t) le h =
      nest_more (term_span t).start (term_span t).end low high (term_table types names n k t) (begins low high t h) (ends low high t h) (term_nests types names n k low high t h)
  node_nests types names n k low high (tree.apply t u) le h =
      let one = term_table types names n k t in
      let two = term_table types names (n + binders_in t) (behind k t) u in
      nest_more (term_span t).start (term_span u).end low high (one ⊕ two) (begins low high t h.0) (ends (term_span t).end high u h.1)
      (nest_both (term_span t).start (term_span t).end (term_span u).start (term_span u).end one two (spans low high t h.0) (begins (term_span t).end high u h.1) (spans (term_span t).end high u h.1)
      (term_nests types names n k low high t h.0) (term_nests types names (n + binders_in t) (behind k t) (term_span t).end high u h.1))
  node_nests types names n k low high (tree.project t l) le h =
      nest_more (term_span t).start (term_span t).end low high (term_table types names n k t) (begins low high t h) (ends low high t h) (term_nests types names n k low high t h)
  node_nests types names n k low high (tree.ascribe t u) le h =
      let one = term_table types names n k t in
      nest_left low high one (type_uses types u) (type_places types u)
      (nest_more (term_span t).start (term_span t).end low high one (begins low high t h) (ends low high t h) (term_nests types names n k low high t h))
  node_nests types names n k low high (tree.record_term fs) le h = fields_nest types names n k low high fs le h

  fields_nest : (types names : List Entry) (n k low high : ℕ) (fs : tree.FieldTrees) → low ≤ high → FieldsStand low high fs → NestBetween low high (fields_table types names n k fs)
  fields_nest types names n k low high tree.no_fields le h = (tt, tt)
  fields_nest types names n k low high (tree.field l t fs) le h =
      let one = term_table types names n k t in
      let two = fields_table types names (n + binders_in t) (behind k t) fs in
      let spans_t = spans low high t h.0 in
      let begins_t = begins low high t h.0 in
      let ends_t = ends low high t h.0 in
      nest_more (term_span t).start high low high (one ⊕ two) begins_t (omega arith)
      (nest_both (term_span t).start (term_span t).end (term_span t).end high one two spans_t (omega arith) ends_t
      (term_nests types names n k low high t h.0) (fields_nest types names (n + binders_in t) (behind k t) (term_span t).end high fs ends_t h.1))

-- the places of commands: no bound behind the last

abbrev AreFrom : (low : ℕ) → List TextPlace → Type 0
AreFrom low [] = Unit {0}
AreFrom low (p ∷ ps) = (low ≤ p.span.start) × AreFrom low ps

abbrev NestFrom : (low : ℕ) → Table → Type 0
NestFrom low t = AreFrom low t.places × AreNested t.places

from_more : (low next : ℕ) (ps : List TextPlace) → low ≤ next → AreFrom next ps → AreFrom low ps
from_more low next [] le h = tt
from_more low next (p ∷ ps) le h = (omega (arith, le, h.0), from_more low next ps le h.1)

from_append : (low high next : ℕ) (ps qs : List TextPlace) → low ≤ next → AreBetween low high ps → AreFrom next qs → AreFrom low (ps ++ qs)
from_append low high next [] qs le g h = from_more low next qs le h
from_append low high next (p ∷ ps) qs le g h = (g.0, from_append low high next ps qs le g.2 h)

nests_from : (p : TextPlace) (next : ℕ) (qs : List TextPlace) → p.span.end ≤ next → AreFrom next qs → NestsInAll p qs
nests_from p next [] le h = tt
nests_from p next (q ∷ qs) le h = (inr (omega (arith, le, h.0)), nests_from p next qs le h.1)

nested_from : (low next : ℕ) (ps qs : List TextPlace) → AreBetween low next ps → AreFrom next qs → AreNested ps → AreNested qs → AreNested (ps ++ qs)
nested_from low next [] qs g h m n = n
nested_from low next (p ∷ ps) qs g h m n = (nests_append p ps qs m.0 (nests_from p next qs g.1 h), nested_from low next ps qs g.2 h m.1 n)

from_both : (low next : ℕ) (s t : Table) → low ≤ next → NestBetween low next s → NestFrom next t → NestFrom low (s ⊕ t)
unfolding ◌⊕◌
from_both low next s t le g h = (from_append low next next s.places t.places le g.0 h.0, nested_from low next s.places t.places g.0 h.0 g.1 h.1)

from_right : (low : ℕ) (s t : Table) → length s.places ≡ 0 → NestFrom low t → NestFrom low (s ⊕ t)
unfolding ◌⊕◌
from_right low s t e h = subst (λ ps. AreFrom low ps × AreNested ps) (sym (none_left s.places t.places e)) h

of_command : (types names : List Entry) (n k low : ℕ) (t : TermTree) → StandsBetween low (term_span t).end t → NestBetween low (term_span t).end (term_table types names n k t)
of_command types names n k low t h =
    nest_more (term_span t).start (term_span t).end low (term_span t).end (term_table types names n k t) (begins low (term_span t).end t h) (omega arith) (term_nests types names n k low (term_span t).end t h)

goes_on : (low : ℕ) (t : TermTree) → StandsBetween low (term_span t).end t → low ≤ (term_span t).end
goes_on low t h = let first = begins low (term_span t).end t h in let own = spans low (term_span t).end t h in omega (arith, first, own)

commands_nest : (types names : List Entry) (n k i low : ℕ) (cs : List CommandTree) → CommandsStand low cs → NestFrom low (commands_table types names n k i cs)
commands_nest types names n k i low [] h = (tt, tt)
commands_nest types names n k i low (definition (word x r) t ∷ cs) h =
    let own = binder_row (Some x) r names n (term_at (root k t)) in
    let one = term_table types names (n + 1) k t in
    let rest = commands_table types (entry (Some x) n n ∷ names) (n + (1 + binders_in t)) (k + (below t + 1)) (i + 1) cs in
    from_both low (term_span t).end (own ⊕ one) rest (goes_on low t h.0) (nest_right low (term_span t).end own one refl (of_command types names (n + 1) k low t h.0))
    (commands_nest types (entry (Some x) n n ∷ names) (n + (1 + binders_in t)) (k + (below t + 1)) (i + 1) (term_span t).end cs h.1)
commands_nest types names n k i low (declaration (word x r) u ∷ cs) h =
    let own = binder_row (Some x) r names n (Declaration i) in
    from_right low (own ⊕ type_uses types u) (commands_table types (entry (Some x) n n ∷ names) (n + 1) (k + 0) (i + 1) cs) (places-plus own (type_uses types u) 0 0 refl (type_places types u))
    (commands_nest types (entry (Some x) n n ∷ names) (n + 1) (k + 0) (i + 1) low cs h)
commands_nest types names n k i low (tree.abbreviation (word x r) u ∷ cs) h =
    let own = binder_row (Some x) r types n TypeName in
    from_right low (own ⊕ type_uses types u) (commands_table (entry (Some x) n n ∷ types) names (n + 1) (k + 0) (i + 1) cs) (places-plus own (type_uses types u) 0 0 refl (type_places types u))
    (commands_nest (entry (Some x) n n ∷ types) names (n + 1) (k + 0) (i + 1) low cs h)
commands_nest types names n k i low (evaluation t ∷ cs) h =
    let one = term_table types names n k t in
    let rest = commands_table types names (n + binders_in t) (k + (below t + 1)) (i + 1) cs in
    from_both low (term_span t).end one rest (goes_on low t h.0) (of_command types names n k low t h.0)
    (commands_nest types names (n + binders_in t) (k + (below t + 1)) (i + 1) (term_span t).end cs h.1)

pub spelled_nest : (cs : List CommandTree) → AreSpelledFrom 0 cs → AreNested (table cs).places
spelled_nest cs h = (commands_nest [] [] 0 0 0 0 cs (spelled_stand 0 cs h)).1

-- the first place that has a byte

over_bounds_by : (d a b : Bool) (s : Span) (o : ℕ) → ltb o s.start ≡ a → ltb o s.end ≡ b → (if d then false else (if a then false else b)) ≡ true → (s.start ≤ o) × (o < s.end)
over_bounds_by true a b s o e f h = cc
over_bounds_by false true b s o e f h = cc
over_bounds_by false false false s o e f h = cc
over_bounds_by false false true s o e f h = (ltb-false o s.start e, ltb-true o s.end f)

over_bounds : (o : ℕ) (p : TextPlace) → is_over o p ≡ true → (p.span.start ≤ o) × (o < p.span.end)
over_bounds o p h = over_bounds_by p.derived (ltb o p.span.start) (ltb o p.span.end) p.span o refl refl h

nests_at : (p : TextPlace) (qs : List TextPlace) (q : ℕ) → NestsInAll p qs → q < length qs → Nests p (place_at_number qs q)
nests_at p [] q n lt = absurd (omega arith)
nests_at p (r ∷ qs) zero n lt = n.0
nests_at p (r ∷ qs) (suc q) n lt = nests_at p qs q n.1 (omega arith)

nested_at : (ps : List TextPlace) (i q : ℕ) → AreNested ps → i < q → q < length ps → Nests (place_at_number ps i) (place_at_number ps q)
nested_at [] i q n lt within = absurd (omega arith)
nested_at (p ∷ ps) zero zero n lt within = absurd (omega arith)
nested_at (p ∷ ps) zero (suc q) n lt within = nests_at p ps q n.0 (omega arith)
nested_at (p ∷ ps) (suc i) zero n lt within = absurd (omega arith)
nested_at (p ∷ ps) (suc i) (suc q) n lt within = nested_at ps i q n.1 (omega arith) (omega arith)

abbrev no_place : TextPlace
no_place = record { span = no_span; derived = true; terms = []; inner = None }

over_within : (o : ℕ) (ps : List TextPlace) (q : ℕ) → is_over o (place_at_number ps q) ≡ true → q < length ps
over_within o ps q there = by (cases_lt q (length ps))
  where
    by : (q < length ps) ⊎ (length ps ≤ q) → q < length ps
    by (inl lt) = lt
    by (inr le) = let nowhere : place_at_number ps q ≡ no_place = get_or-eq_default ps no_place le in let wrong : false ≡ true = sym (ap (is_over o) nowhere) ∙ there in cc

pub first_is_innermost : (t : Table) (o i : ℕ) → AreNested t.places → place_at t o ≡ Some i → IsInnermost o t i
first_is_innermost t o i nested found q there = by (cases_lt q i) (cases_lt i q)
  where
    first : (i < length t.places) × (is_over o (place_at_number t.places i) ≡ true) × ((k : ℕ) → k < i → is_over o (place_at_number t.places k) ≡ false)
    first = position-Some (is_over o) t.places i no_place found

    apart : Nests (place_at_number t.places i) (place_at_number t.places q) → IsWithin (place_at_number t.places i).span (place_at_number t.places q).span
    apart (inl within) = within
    apart (inr behind) =
        let mine = over_bounds o (place_at_number t.places i) first.1 in
        let theirs = over_bounds o (place_at_number t.places q) there in
        absurd (omega (arith, behind, mine.1, theirs.0))

    by : (q < i) ⊎ (i ≤ q) → (i < q) ⊎ (q ≤ i) → IsWithin (place_at_number t.places i).span (place_at_number t.places q).span
    by (inl before) b = let not_yet = first.2 q before in let wrong : true ≡ false = sym there ∙ not_yet in cc
    by (inr le) (inl behind) = apart (nested_at t.places i q nested behind (over_within o t.places q there))
    by (inr le) (inr more) =
        let same : i ≡ q = omega (arith, le, more) in
        subst (λ k. IsWithin (place_at_number t.places i).span (place_at_number t.places k).span) same (omega arith, omega arith)
