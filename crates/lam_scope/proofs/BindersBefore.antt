-- Where the mentions of a text stand one behind the other, each use stands behind its binder, and so the tokens of a binder and of its uses ascend.
use Rattle.std.proofs.Common.{◌≡◌, ℕ, ◌<◌, ◌≤◌, ◌==◌, List, [], ◌∷◌, ◌++◌, refl, arith, Option, Some, None, Bool, true, false}
use Rattle.std.specs.Prelude.{if◌then◌else◌}
use Rattle.std.specs.List.{AllByRecursion, cons_option}
use Rattle.std.proofs.lemmas.Bool.{and_parts, eqb-true}
use Rattle.lam_syntax.specs.Trees as tree
use Rattle.lam_syntax.specs.Trees.{word, Bound, bound, TypeTree, type_tree, TypeNode, TypeFields, TermTree, term_tree, TermNode, FieldTrees, CommandTree}
use Rattle.lam_token.specs.declared.kind.Kind.{Kind}
use Rattle.lam_token.specs.declared.kind.Kind.TheVariants as kind
use Rattle.lam_token.specs.declared.span.Span.{Span}
use Rattle.lam_token.specs.Edits.{is_span}
use Rattle.lam_scope.specs.Names.{Name, binds}
use Rattle.lam_scope.specs.Mentions.{Binder, binder, seen_of, token_bound_to, Mention, binds_at, uses_at, labels_at, token_of, mention_of, mentions_of_type, mentions_of_type_node, mentions_of_type_fields, mentions_of, mentions_of_node, mentions_of_fields, mentions_of_command, types_behind, names_behind, mentions_from, mentions, bound_at, uses_of, Ascend, IsBehindBinder}
use Rattle.lam_scope.proofs.EveryElement.{every_append}
use Rattle.lam_scope.proofs.BoundMentions.{binder_holds}

-- parts of mentions that ascend

ascend_parts : (low high : ℕ) (ms ns : List Mention) → Ascend low (ms ++ ns) high → (mid : ℕ) × Ascend low ms mid × Ascend mid ns high
ascend_parts low high [] ns h = (low, omega arith, h)
ascend_parts low high (m ∷ ms) ns h = let rest = ascend_parts (token_of m).end high ms ns h.2 in (rest.0, (h.0, h.1, rest.1), rest.2)

ascend_orders : (low high : ℕ) (ms : List Mention) → Ascend low ms high → low ≤ high
ascend_orders low high [] h = h
ascend_orders low high (m ∷ ms) h = omega (arith, h.0, h.1, ascend_orders (token_of m).end high ms h.2)

-- if these mentions ascend from this byte, the uses among them come after their binders
abbrev AreBehind : (low : ℕ) → List Mention → Type 0
AreBehind low ms = (high : ℕ) → Ascend low ms high → AllByRecursion IsBehindBinder ms

-- mentions, and those that follow them
in_order : (low : ℕ) (ms ns : List Mention) → AreBehind low ms → ((mid : ℕ) → low ≤ mid → Ascend low ms mid → AreBehind mid ns) → AreBehind low (ms ++ ns)
in_order low ms ns first rest high ascend =
    let parts = ascend_parts low high ms ns ascend in
    every_append IsBehindBinder ms ns (first parts.0 parts.1) (rest parts.0 (ascend_orders low parts.0 ms parts.1) parts.1 high parts.2)

-- a mention that is no use, or stands behind its binder, and those that follow it
first_behind : (low : ℕ) (m : Mention) (ms : List Mention) → IsBehindBinder m → ((mid : ℕ) → low ≤ mid → AreBehind mid ms) → AreBehind low (m ∷ ms)
first_behind low m ms own rest high ascend =
    let first = ascend.0 in
    let some = ascend.1 in
    (own, rest (token_of m).end (omega arith) high ascend.2)

-- binders that end before a byte

-- a binder, if there is one, ends at this byte or before it
abbrev Ends : (high : ℕ) → Option Span → Type 0
Ends high None = Unit {0}
Ends high (Some b) = b.end ≤ high

-- so does the binder of each name
abbrev AllEnd : (high : ℕ) → List Binder → Type 0
AllEnd high bs = (x : Name) → Ends high (token_bound_to x bs)

ends_later : (high next : ℕ) (b : Option Span) → high ≤ next → Ends high b → Ends next b
ends_later high next None le h = tt
ends_later high next (Some b) le h = omega arith

all_later : (high next : ℕ) (bs : List Binder) → high ≤ next → AllEnd high bs → AllEnd next bs
all_later high next bs le h x = ends_later high next (token_bound_to x bs) le (h x)

ends_here : (high : ℕ) (here : Bool) (s : Span) (b : Option Span) → s.end ≤ high → Ends high b → Ends high (if here then Some s else b)
ends_here high true s b le h = le
ends_here high false s b le h = h

-- one more binder in scope, which is mentioned before these mentions
one_more : (low high : ℕ) (k : Kind) (x : Name) (s : Span) (ms : List Mention) (bs : List Binder) → Ascend low (binds_at k s ∷ ms) high → AllEnd low bs → AllEnd high (binder (Some x) s ∷ bs)
one_more low high k x s ms bs ascend h y =
    ends_here high (binds (Some x) y) s (token_bound_to y bs) (ascend_orders s.end high ms ascend.2)
    (all_later low high bs (ascend_orders low high (binds_at k s ∷ ms) ascend) h y)

-- both kinds of binders in sight
abbrev BothEnd : (high : ℕ) → (types names : List Binder) → Type 0
BothEnd high types names = AllEnd high types × AllEnd high names

both_later : (high next : ℕ) (types names : List Binder) → high ≤ next → BothEnd high types names → BothEnd next types names
both_later high next types names le h = (all_later high next types le h.0, all_later high next names le h.1)

-- what is in scope inside a binder of a term, after these mentions
seen_inside : (low high : ℕ) (types names : List Binder) (b : Bound) (ms : List Mention) → low ≤ high → Ascend low (mention_of b ++ ms) high → BothEnd low types names → BothEnd high types (seen_of b ∷ names)
seen_inside low high types names (bound None s) ms le ascend h = both_later low high types names le h
seen_inside low high types names (bound (Some x) s) ms le ascend h = (all_later low high types le h.0, one_more low high kind.Name x s ms names ascend h.1)

-- a binder of a term, and the mentions that follow it
binder_behind : (low : ℕ) (b : Bound) (ms : List Mention) → ((mid : ℕ) → low ≤ mid → AreBehind mid ms) → AreBehind low (mention_of b ++ ms)
binder_behind low (bound None s) ms rest = rest low (omega arith)
binder_behind low (bound (Some x) s) ms rest = first_behind low (binds_at kind.Name s) ms tt rest

-- written types

mutual
  type_behind : (types : List Binder) (low : ℕ) (t : TypeTree) → AllEnd low types → AreBehind low (mentions_of_type types t)
  type_behind types low (type_tree s n) h = type_node_behind types low n h

  type_node_behind : (types : List Binder) (low : ℕ) (n : TypeNode) → AllEnd low types → AreBehind low (mentions_of_type_node types n)
  type_node_behind types low (tree.named (word x s)) h = λ high ascend. (ends_later low s.start (token_bound_to x types) ascend.0 (h x), tt)
  type_node_behind types low (tree.arrow a b) h =
      in_order low (mentions_of_type types a) (mentions_of_type types b) (type_behind types low a h) (λ mid le front. type_behind types mid b (all_later low mid types le h))
  type_node_behind types low (tree.record_type fs) h = type_fields_behind types low fs h
  type_node_behind types low n h = λ high ascend. tt

  type_fields_behind : (types : List Binder) (low : ℕ) (fs : TypeFields) → AllEnd low types → AreBehind low (mentions_of_type_fields types fs)
  type_fields_behind types low tree.no_type_fields h = λ high ascend. tt
  type_fields_behind types low (tree.type_field (word l s) t fs) h =
      first_behind low (labels_at s) (mentions_of_type types t ++ mentions_of_type_fields types fs) tt
      (λ start more.
      in_order start (mentions_of_type types t) (mentions_of_type_fields types fs) (type_behind types start t (all_later low start types more h))
      (λ mid le front. type_fields_behind types mid fs (all_later low mid types (omega arith) h)))

-- terms

mutual
  term_behind : (types names : List Binder) (low : ℕ) (t : TermTree) → BothEnd low types names → AreBehind low (mentions_of types names t)
  term_behind types names low (term_tree s n) h = node_behind types names low n h

  node_behind : (types names : List Binder) (low : ℕ) (n : TermNode) → BothEnd low types names → AreBehind low (mentions_of_node types names n)
  node_behind types names low (tree.variable (word x s)) h = λ high ascend. (ends_later low s.start (token_bound_to x names) ascend.0 (h.1 x), tt)
  node_behind types names low (tree.lambda b u t) h =
      in_order low (mention_of b ++ mentions_of_type types u) (mentions_of types (seen_of b ∷ names) t)
      (binder_behind low b (mentions_of_type types u) (λ mid le. type_behind types mid u (all_later low mid types le h.0)))
      (λ mid le front. term_behind types (seen_of b ∷ names) mid t (seen_inside low mid types names b (mentions_of_type types u) le front h))
  node_behind types names low (tree.if_term c t u) h =
      in_order low (mentions_of types names c ++ mentions_of types names t) (mentions_of types names u)
      (in_order low (mentions_of types names c) (mentions_of types names t) (term_behind types names low c h) (λ mid le front. term_behind types names mid t (both_later low mid types names le h)))
      (λ mid le front. term_behind types names mid u (both_later low mid types names le h))
  node_behind types names low (tree.let_term b t u) h =
      in_order low (mention_of b ++ mentions_of types names t) (mentions_of types (seen_of b ∷ names) u)
      (binder_behind low b (mentions_of types names t) (λ mid le. term_behind types names mid t (both_later low mid types names le h)))
      (λ mid le front. term_behind types (seen_of b ∷ names) mid u (seen_inside low mid types names b (mentions_of types names t) le front h))
  node_behind types names low (tree.letrec_term b w t u) h =
      let inner = seen_of b ∷ names in
      let before = mentions_of_type types w in
      in_order low (mention_of b ++ before ++ mentions_of types inner t) (mentions_of types inner u)
      (in_order low (mention_of b ++ before) (mentions_of types inner t)
      (binder_behind low b before (λ mid le. type_behind types mid w (all_later low mid types le h.0)))
      (λ mid le front. term_behind types inner mid t (seen_inside low mid types names b before le front h)))
      (λ mid le front.
      let parts = ascend_parts low mid (mention_of b ++ before) (mentions_of types inner t) front in
      let one = ascend_orders low parts.0 (mention_of b ++ before) parts.1 in
      let two = ascend_orders parts.0 mid (mentions_of types inner t) parts.2 in
      term_behind types inner mid u (both_later parts.0 mid types inner two (seen_inside low parts.0 types names b before one parts.1 h)))
  node_behind types names low (tree.prefixed p t) h = term_behind types names low t h
  node_behind types names low (tree.apply t u) h =
      in_order low (mentions_of types names t) (mentions_of types names u) (term_behind types names low t h) (λ mid le front. term_behind types names mid u (both_later low mid types names le h))
  node_behind types names low (tree.project t (word l s)) h =
      in_order low (mentions_of types names t) (labels_at s ∷ []) (term_behind types names low t h) (λ mid le front high ascend. (tt, tt))
  node_behind types names low (tree.ascribe t u) h =
      in_order low (mentions_of types names t) (mentions_of_type types u) (term_behind types names low t h) (λ mid le front. type_behind types mid u (all_later low mid types le h.0))
  node_behind types names low (tree.record_term fs) h = fields_behind types names low fs h
  node_behind types names low n h = λ high ascend. tt

  fields_behind : (types names : List Binder) (low : ℕ) (fs : FieldTrees) → BothEnd low types names → AreBehind low (mentions_of_fields types names fs)
  fields_behind types names low tree.no_fields h = λ high ascend. tt
  fields_behind types names low (tree.field (word l s) t fs) h =
      first_behind low (labels_at s) (mentions_of types names t ++ mentions_of_fields types names fs) tt
      (λ start more.
      in_order start (mentions_of types names t) (mentions_of_fields types names fs) (term_behind types names start t (both_later low start types names more h))
      (λ mid le front. fields_behind types names mid fs (both_later low mid types names (omega arith) h)))

-- commands

command_behind : (types names : List Binder) (low : ℕ) (c : CommandTree) → BothEnd low types names → AreBehind low (mentions_of_command types names c)
command_behind types names low (tree.definition (word x s) t) h =
    first_behind low (binds_at kind.Name s) (mentions_of types names t) tt (λ mid le. term_behind types names mid t (both_later low mid types names le h))
command_behind types names low (tree.declaration (word x s) u) h =
    first_behind low (binds_at kind.Name s) (mentions_of_type types u) tt (λ mid le. type_behind types mid u (all_later low mid types le h.0))
command_behind types names low (tree.abbreviation (word x s) u) h =
    first_behind low (binds_at kind.TypeName s) (mentions_of_type types u) tt (λ mid le. type_behind types mid u (all_later low mid types le h.0))
command_behind types names low (tree.evaluation t) h = term_behind types names low t h

-- what the commands behind one see
seen_behind : (types names : List Binder) (low high : ℕ) (c : CommandTree) → low ≤ high → Ascend low (mentions_of_command types names c) high → BothEnd low types names
    → BothEnd high (types_behind types c) (names_behind names c)
seen_behind types names low high (tree.definition (word x s) t) le ascend h = (all_later low high types le h.0, one_more low high kind.Name x s (mentions_of types names t) names ascend h.1)
seen_behind types names low high (tree.declaration (word x s) u) le ascend h = (all_later low high types le h.0, one_more low high kind.Name x s (mentions_of_type types u) names ascend h.1)
seen_behind types names low high (tree.abbreviation (word x s) u) le ascend h = (one_more low high kind.TypeName x s (mentions_of_type types u) types ascend h.0, all_later low high names le h.1)
seen_behind types names low high (tree.evaluation t) le ascend h = both_later low high types names le h

commands_behind : (types names : List Binder) (low : ℕ) (cs : List CommandTree) → BothEnd low types names → AreBehind low (mentions_from types names cs)
commands_behind types names low [] h = λ high ascend. tt
commands_behind types names low (c ∷ cs) h =
    in_order low (mentions_of_command types names c) (mentions_from (types_behind types c) (names_behind names c) cs) (command_behind types names low c h)
    (λ mid le front. commands_behind (types_behind types c) (names_behind names c) mid cs (seen_behind types names low mid c le front h))

pub uses_behind : (cs : List CommandTree) (high : ℕ) → Ascend 0 (mentions cs) high → AllByRecursion IsBehindBinder (mentions cs)
uses_behind cs = commands_behind [] [] 0 cs ((λ x. tt), (λ x. tt))

-- the tokens of a binder and of its uses

-- each span ends where the next begins, or before it, and none is empty
abbrev pub AscendFrom : (low : ℕ) → List Span → Type 0
AscendFrom low [] = Unit {0}
AscendFrom low (s ∷ ss) = (low ≤ s.start) × (s.start < s.end) × AscendFrom s.end ss

-- spans that ascend from a byte do so from an earlier one
from_lower : (low next : ℕ) (ss : List Span) → low ≤ next → AscendFrom next ss → AscendFrom low ss
from_lower low next [] le h = tt
from_lower low next (s ∷ ss) le h = (omega (arith, h.0), h.1, h.2)

-- a span before others if there is one, or just the others
one_before : (low : ℕ) (here : Bool) (s : Span) (ss : List Span) → (here ≡ true → low ≤ s.start) → s.start < s.end → AscendFrom s.end ss → AscendFrom low ss
    → AscendFrom low (cons_option (if here then Some s else None) ss)
one_before low true s ss first some inside rest = (first refl, some, inside)
one_before low false s ss first some inside rest = rest

same_end : (b c : Span) → is_span b c ≡ true → b.end ≡ c.end
same_end b c e = eqb-true b.end c.end (and_parts (b.start == c.start) (b.end == c.end) e).1

-- the uses of a binder ascend from where the mentions do, and from where the binder ends
uses_ascend : (b : Span) (low high : ℕ) (ms : List Mention) → Ascend low ms high → AllByRecursion IsBehindBinder ms → AscendFrom low (uses_of b ms) × AscendFrom b.end (uses_of b ms)
uses_ascend b low high [] ascend behind = (tt, tt)
uses_ascend b low high (uses_at k s (Some c) ∷ ms) ascend behind =
    let rest = uses_ascend b s.end high ms ascend.2 behind.1 in
    let first = ascend.0 in
    let some = ascend.1 in (
      one_before low (is_span b c) s (uses_of b ms) (λ e. first) some rest.0 (from_lower low s.end (uses_of b ms) (omega arith) rest.0),
      one_before b.end (is_span b c) s (uses_of b ms) (λ e. omega (arith, behind.0, same_end b c e)) some rest.0 rest.1,
    )
uses_ascend b low high (m ∷ ms) ascend behind =
    let rest = uses_ascend b (token_of m).end high ms ascend.2 behind.1 in
    let first = ascend.0 in
    let some = ascend.1 in
    (from_lower low (token_of m).end (uses_of b ms) (omega arith) rest.0, rest.1)

-- no token of a mention is empty
abbrev HasByte : Mention → Type 0
HasByte m = (token_of m).start < (token_of m).end

all_have_bytes : (low high : ℕ) (ms : List Mention) → Ascend low ms high → AllByRecursion HasByte ms
all_have_bytes low high [] ascend = tt
all_have_bytes low high (m ∷ ms) ascend = (ascend.1, all_have_bytes (token_of m).end high ms ascend.2)

pub references_ascend : (cs : List CommandTree) (high o : ℕ) (b : Span) → Ascend 0 (mentions cs) high → bound_at o (mentions cs) ≡ Some b → AscendFrom 0 (b ∷ uses_of b (mentions cs))
references_ascend cs high o b ascend is =
    (omega arith, (binder_holds HasByte cs high o b ascend is (all_have_bytes 0 high (mentions cs) ascend)).1, (uses_ascend b 0 high (mentions cs) ascend (uses_behind cs high ascend)).1)
