-- To put the new name at the tokens of a binder and its uses is to rename that binder by its index, as no two mentions of a text have the same token.
use Rattle.std.proofs.Common.{◌≡◌, ℕ, ◌+◌, ◌<◌, ◌≤◌, ◌==◌, List, [], ◌∷◌, ◌++◌, map, refl, ap, sym, ◌∙◌, subst, arith, Option, Some, None, Bool, true, false}
use Rattle.std.specs.Prelude.{if◌then◌else◌, ◌&&◌, ◌||◌, is_some}
use Rattle.std.specs.List.{AllByRecursion, filter_map, cons_option}
use Rattle.std.proofs.lemmas.Bool.{or_from, or_parts}
use Rattle.std.proofs.lemmas.Bool.Decides.{nat_tests}
use Rattle.std.proofs.Math.Bool.{or-false}
use Rattle.lam_syntax.specs.Trees as tree
use Rattle.lam_syntax.specs.Trees.{word, bound, TypeTree, type_tree, TypeNode, named, arrow, record_type, TypeFields, no_type_fields, type_field, TermTree, term_tree, TermNode, CommandTree, term_span}
use Rattle.lam_syntax.specs.Respelled.{respelled_bound, respelled_type, respelled_type_node, respelled_type_fields, respelled_term, respelled_node, respelled_fields, respelled_command}
use Rattle.lam_token.specs.declared.kind.Kind.{Kind}
use Rattle.lam_token.specs.declared.kind.Kind.TheVariants as kind
use Rattle.lam_token.specs.declared.span.Span.{Span}
use Rattle.lam_token.specs.Edits.{is_span, among, renaming}
use Rattle.lam_scope.specs.declared.numbers.Origin.{Origin}
use Rattle.lam_scope.specs.declared.numbers.Origin.TheVariants.{Declaration, TypeName}
use Rattle.lam_scope.specs.Names.{Name}
use Rattle.lam_scope.specs.Nesting.{AreSpelledFrom}
use Rattle.lam_scope.specs.Sights.{lambda_at, term_at}
use Rattle.lam_scope.specs.Tables.{TextBinder, ◌⊕◌, Entry, entry, bound_to as number_bound_to, is_number, binder_row, place_row, root, behind, roots, below, binders_in, type_uses, term_table, node_table, fields_table, letrec_rows, commands_table, table, binder_in, binder_numbered, binder_at, use_tokens}
use Rattle.lam_scope.specs.Mentions.{Binder, binder, token_bound_to, Mention, binds_at, uses_at, labels_at, token_of, binder_of, mention_of, mentions_of_type, mentions_of_type_node, mentions_of_type_fields, mentions_of, mentions_of_node, mentions_of_fields, mentions_from, mentions, use_bound_to, uses_of, Ascend}
use Rattle.lam_scope.specs.Renames.{kind_bound, renamed_binder, renamed_type, renamed_type_node, renamed_type_fields, renamed_term, renamed_node, renamed_fields, renamed_from, renamed}
use Rattle.lam_scope.proofs.BinderRows.{plus, type_binders, letrec_binders, term_binders, BindersStand, all_stand, rows_left, rows_right, letrec_first}
use Rattle.lam_scope.proofs.SpelledMentions.{spelled_ascend}
use Rattle.lam_scope.proofs.MentionRows.{bindings_in, AreTold, told_bound, row_told, seen_told, table_mentioned}
use Rattle.lam_scope.proofs.EveryElement.{every_parts}
use Rattle.lam_scope.proofs.BoundMentions.{same_token, other_token, is_at, same_binder, use_is, IsAlone, is_answer_at, alone_at, answer_holds, uses_told}

-- the tokens of mentions that ascend

-- what is listed for a mention is its token, or nothing
abbrev IsOwn : Option Span → Mention → Type 0
IsOwn None m = Unit {0}
IsOwn (Some s) m = s ≡ token_of m

-- another mention's token is among these just where it is among those behind the first
passed : (s : Span) (m : Mention) (o : Option Span) (ss : List Span) → IsOwn o m → is_span s (token_of m) ≡ false → among (cons_option o ss) s ≡ among ss s
passed s m None ss own off = refl
passed s m (Some t) ss own off = ap (λ b. b || among ss s) (ap (is_span s) own ∙ off)

-- a mention's own token is among these exactly if it is listed for the mention
reached : (m : Mention) (o : Option Span) (ss : List Span) → IsOwn o m → among ss (token_of m) ≡ false → among (cons_option o ss) (token_of m) ≡ is_some o
reached m None ss own none = none
reached m (Some t) ss own none = ap (λ b. b || among ss (token_of m)) (same_token (token_of m) t (sym own))

module _ (f : Mention → Option Span) (own : (m : Mention) → IsOwn (f m) m) where
  none_behind : (low high : ℕ) (s : Span) (ms : List Mention) → Ascend low ms high → s.start < low → among (filter_map f ms) s ≡ false
  none_behind low high s [] ascend lt = refl
  none_behind low high s (m ∷ ms) ascend lt =
      let first = ascend.0 in
      let some = ascend.1 in
      passed s m (f m) (filter_map f ms) (own m) (other_token s (token_of m) (λ e. absurd (omega arith))) ∙ none_behind (token_of m).end high s ms ascend.2 (omega arith)

  -- each mention's token is among those listed for all exactly if it is listed for that mention
  each_among : (all : List Span) (low high : ℕ) (ms : List Mention) → Ascend low ms high → ((s : Span) → low ≤ s.start → among all s ≡ among (filter_map f ms) s)
      → AllByRecursion (λ m. among all (token_of m) ≡ is_some (f m)) ms
  each_among all low high [] ascend same = tt
  each_among all low high (m ∷ ms) ascend same =
      let first = ascend.0 in
      let some = ascend.1 in (
        same (token_of m) first ∙ reached m (f m) (filter_map f ms) (own m) (none_behind (token_of m).end high (token_of m) ms ascend.2 some),
        each_among all (token_of m).end high ms ascend.2 (λ s le. same s (omega arith) ∙ passed s m (f m) (filter_map f ms) (own m) (other_token s (token_of m) (λ e. absurd (omega arith)))),
      )

-- the tokens of binders

abbrev token_bound : Mention → Option Span
token_bound (binds_at k s) = Some s
token_bound m = None

binder_own : (m : Mention) → IsOwn (token_bound m) m
binder_own (binds_at k s) = refl
binder_own m = tt

binders_apart : (s : Span) (ms : List Mention) → among (filter_map token_bound ms) s ≡ false → AllByRecursion (λ m. is_span s (token_of m) ≡ false) (bindings_in ms)
binders_apart s [] none = tt
binders_apart s (binds_at k t ∷ ms) none = let both = or_parts (is_span s t) (among (filter_map token_bound ms) s) none in (both.0, binders_apart s ms both.1)
binders_apart s (m ∷ ms) none = binders_apart s ms none

-- the token of a binder that some name is bound to is among them
bound_apart : (cs : List CommandTree) (o n : ℕ) (s : Span) → binder_at (table cs) o ≡ Some n → among (filter_map token_bound (mentions cs)) s ≡ false → is_span s (binder_numbered (table cs) n).token ≡ false
bound_apart cs o n s is none =
    let bs = (table cs).binders in
    let IsApart : Mention → Type 0 = λ m. is_span s (token_of m) ≡ false in
    answer_holds IsApart bs 0 n bs (all_stand bs, omega arith) (is_answer_at cs o n is) (omega arith) (subst (AllByRecursion IsApart) (sym (table_mentioned cs).answers) (binders_apart s (mentions cs) none))

-- the tokens of uses

if_own : (b : Bool) (k : Kind) (s : Span) (c : Option Span) → IsOwn (if b then Some s else None) (uses_at k s c)
if_own true k s c = refl
if_own false k s c = tt

use_own : (b : Span) (m : Mention) → IsOwn (use_bound_to b m) m
use_own b (uses_at k s (Some c)) = if_own (is_span b c) k s (Some c)
use_own b (uses_at k s None) = tt
use_own b m = tt

some_if : (b : Bool) (s : Span) → is_some (if b then Some s else None) ≡ b
some_if true s = refl
some_if false s = refl

some_use : (b : Span) (k : Kind) (s : Span) (c : Option Span) → is_some (use_bound_to b (uses_at k s c)) ≡ is_at b c
some_use b k s c = ap is_some (use_is b k s c) ∙ some_if (is_at b c) s

-- the tokens of a binder and its uses: a mention's is among these just where the mention is that binder, or uses it

abbrev IsMarked : List Span → Span → Mention → Type 0
IsMarked spans b m = among spans (token_of m) ≡ is_at b (binder_of m)

abbrev AreMarked : List Span → Span → List Mention → Type 0
AreMarked spans b = AllByRecursion (IsMarked spans b)

number_swap : (m n : ℕ) → (m == n) ≡ (n == m)
number_swap m n = grind (arith, nat_tests)

span_swap : (s t : Span) → is_span s t ≡ is_span t s
span_swap s t = λ i. number_swap s.start t.start i && number_swap s.end t.end i

module _ (b : Span) (all : List Mention) (binds : (s : Span) → among (filter_map token_bound all) s ≡ false → is_span s b ≡ false) where
  is_marked : (m : Mention) → among (filter_map token_bound all) (token_of m) ≡ is_some (token_bound m) → among (uses_of b all) (token_of m) ≡ is_some (use_bound_to b m) → IsMarked (b ∷ uses_of b all) b m
  is_marked (binds_at k s) told used = ap (λ c. is_span s b || c) used ∙ or-false (is_span s b) ∙ span_swap s b
  is_marked (uses_at k s c) told used = ap (λ d. d || among (uses_of b all) s) (binds s told) ∙ used ∙ some_use b k s c
  is_marked (labels_at s) told used = or_from (is_span s b) (among (uses_of b all) s) (binds s told) used

  are_marked : (ms : List Mention) → AllByRecursion (λ m. among (filter_map token_bound all) (token_of m) ≡ is_some (token_bound m)) ms
      → AllByRecursion (λ m. among (uses_of b all) (token_of m) ≡ is_some (use_bound_to b m)) ms → AreMarked (b ∷ uses_of b all) b ms
  are_marked [] told used = tt
  are_marked (m ∷ ms) told used = (is_marked m told.0 used.0, are_marked ms told.1 used.1)

  all_marked : (high : ℕ) → Ascend 0 all high → AreMarked (b ∷ uses_of b all) b all
  all_marked high ascend =
      are_marked all (each_among token_bound binder_own (filter_map token_bound all) 0 high all ascend (λ s le. refl))
      (each_among (use_bound_to b) (use_own b) (uses_of b all) 0 high all ascend (λ s le. refl))

-- the new name at marked tokens

module _ (bs : List TextBinder) (n : ℕ) (new : Name) (spans : List Span) (alone : IsAlone bs n) where
  split : (ms ns : List Mention) → AreMarked spans (binder_in bs n).token (ms ++ ns) → AreMarked spans (binder_in bs n).token ms × AreMarked spans (binder_in bs n).token ns
  split = every_parts (IsMarked spans (binder_in bs n).token)

  use_marked : (k : Kind) (x : Name) (s : Span) (es : List Entry) (seen : List Binder) → AreTold bs k es seen → IsMarked spans (binder_in bs n).token (uses_at k s (token_bound_to x seen))
      → among spans s ≡ is_number n (number_bound_to x es)
  use_marked k x s es seen told marked = marked ∙ same_binder bs n (number_bound_to x es) (token_bound_to x seen) alone (told_bound bs k x es seen told).0

  name_marked : (m : ℕ) (k : Kind) (x : Name) (s : Span) (names : List Entry) (o : Origin) → kind_bound o ≡ k → BindersStand bs m (binder_row (Some x) s names m o).binders
      → IsMarked spans (binder_in bs n).token (binds_at k s) → among spans s ≡ (m == n)
  name_marked m k x s names o is stand marked = marked ∙ same_binder bs n (Some m) (Some s) alone (row_told bs m k x s names o is stand).0

  bound_renamed : (m : ℕ) (x : Option Name) (s : Span) (names : List Entry) (o : Origin) → kind_bound o ≡ kind.Name → BindersStand bs m (binder_row x s names m o).binders
      → AreMarked spans (binder_in bs n).token (mention_of (bound x s)) → respelled_bound (λ p. p) (renaming spans new) (bound x s) ≡ bound (renamed_binder n new m x) s
  bound_renamed m None s names o is stand marked = refl
  bound_renamed m (Some x) s names o is stand marked = ap (λ c. bound (Some (if c then new else x)) s) (name_marked m kind.Name x s names o is stand marked.0)

  -- written types

  mutual
    type_renamed : (types : List Entry) (seen : List Binder) (u : TypeTree) → AreTold bs kind.TypeName types seen → AreMarked spans (binder_in bs n).token (mentions_of_type seen u)
        → respelled_type (λ p. p) (renaming spans new) u ≡ renamed_type n new types u
    type_renamed types seen (type_tree s node) told marked = ap (type_tree s) (type_node_renamed types seen node told marked)

    type_node_renamed : (types : List Entry) (seen : List Binder) (node : TypeNode) → AreTold bs kind.TypeName types seen → AreMarked spans (binder_in bs n).token (mentions_of_type_node seen node)
        → respelled_type_node (λ p. p) (renaming spans new) node ≡ renamed_type_node n new types node
    type_node_renamed types seen tree.bool told marked = refl
    type_node_renamed types seen tree.nat told marked = refl
    type_node_renamed types seen tree.unit told marked = refl
    type_node_renamed types seen tree.top told marked = refl
    type_node_renamed types seen (named (word x s)) told marked = ap (λ c. named (word (if c then new else x) s)) (use_marked kind.TypeName x s types seen told marked.0)
    type_node_renamed types seen (arrow a b) told marked =
        let both = split (mentions_of_type seen a) (mentions_of_type seen b) marked in
        λ i. arrow (type_renamed types seen a told both.0 i) (type_renamed types seen b told both.1 i)
    type_node_renamed types seen (record_type fs) told marked = ap record_type (type_fields_renamed types seen fs told marked)

    type_fields_renamed : (types : List Entry) (seen : List Binder) (fs : TypeFields) → AreTold bs kind.TypeName types seen → AreMarked spans (binder_in bs n).token (mentions_of_type_fields seen fs)
        → respelled_type_fields (λ p. p) (renaming spans new) fs ≡ renamed_type_fields n new types fs
    type_fields_renamed types seen no_type_fields told marked = refl
    type_fields_renamed types seen (type_field (word l s) t fs) told marked =
        let both = split (mentions_of_type seen t) (mentions_of_type_fields seen fs) marked.1 in
        λ i. type_field (word (if marked.0 i then new else l) s) (type_renamed types seen t told both.0 i) (type_fields_renamed types seen fs told both.1 i)

  -- terms

  mutual
    term_renamed : (types names : List Entry) (types_seen names_seen : List Binder) (m k : ℕ) (t : TermTree) → AreTold bs kind.TypeName types types_seen → AreTold bs kind.Name names names_seen
        → BindersStand bs m (term_table types names m k t).binders → AreMarked spans (binder_in bs n).token (mentions_of types_seen names_seen t)
        → respelled_term (λ p. p) (renaming spans new) t ≡ renamed_term n new types names m t
    term_renamed types names types_seen names_seen m k (term_tree r node) told seen stand marked =
        ap (term_tree r)
        (node_renamed types names types_seen names_seen m k node told seen (rows_left bs m (node_table types names m k node) (place_row r false (roots k node) names) stand) marked)

    node_renamed : (types names : List Entry) (types_seen names_seen : List Binder) (m k : ℕ) (node : TermNode) → AreTold bs kind.TypeName types types_seen → AreTold bs kind.Name names names_seen
        → BindersStand bs m (node_table types names m k node).binders → AreMarked spans (binder_in bs n).token (mentions_of_node types_seen names_seen node)
        → respelled_node (λ p. p) (renaming spans new) node ≡ renamed_node n new types names m node
    node_renamed types names types_seen names_seen m k tree.true_term told seen stand marked = refl
    node_renamed types names types_seen names_seen m k tree.false_term told seen stand marked = refl
    node_renamed types names types_seen names_seen m k tree.unit_term told seen stand marked = refl
    node_renamed types names types_seen names_seen m k (tree.variable (word x r)) told seen stand marked =
        ap (λ c. tree.variable (word (if c then new else x) r)) (use_marked kind.Name x r names names_seen seen marked.0)
    node_renamed types names types_seen names_seen m k (tree.numeral (word x r)) told seen stand marked = refl
    node_renamed types names types_seen names_seen m k (tree.lambda (bound x r) u t) told seen stand marked =
        let place = lambda_at (behind k t) in
        let own = binder_row x r names m place in
        let body = term_table types (entry x m m ∷ names) (m + 1) k t in
        let count = plus own (type_uses types u) 1 0 refl (type_binders types u) in
        let front = rows_left bs m own (type_uses types u) (rows_left bs m (own ⊕ type_uses types u) body stand) in
        let behind_type = rows_right bs m (m + 1) (own ⊕ type_uses types u) body (omega arith) stand in
        let inner = binder x r ∷ names_seen in
        let both = split (mention_of (bound x r) ++ mentions_of_type types_seen u) (mentions_of types_seen inner t) marked in
        let first = split (mention_of (bound x r)) (mentions_of_type types_seen u) both.0 in
        λ i. tree.lambda (bound_renamed m x r names place refl front first.0 i) (type_renamed types types_seen u told first.1 i)
        (term_renamed types (entry x m m ∷ names) types_seen inner (m + 1) k t told (seen_told bs m m kind.Name x r names place names_seen refl front seen) behind_type both.1 i)
    node_renamed types names types_seen names_seen m k (tree.if_term c t u) told seen stand marked =
        let second = m + binders_in c in
        let third = m + binders_in c + binders_in t in
        let one = term_table types names m k c in
        let two = term_table types names second (behind k c) t in
        let three = term_table types names third (behind (behind k c) t) u in
        let count_one = term_binders types names m k c in
        let count_two = plus one two (binders_in c) (binders_in t) count_one (term_binders types names second (behind k c) t) in
        let front = rows_left bs m (one ⊕ two) three stand in
        let stand_two = rows_right bs m second one two (omega arith) front in
        let stand_three = rows_right bs m third (one ⊕ two) three (omega arith) stand in
        let both = split (mentions_of types_seen names_seen c ++ mentions_of types_seen names_seen t) (mentions_of types_seen names_seen u) marked in
        let first = split (mentions_of types_seen names_seen c) (mentions_of types_seen names_seen t) both.0 in
        λ i. tree.if_term (term_renamed types names types_seen names_seen m k c told seen (rows_left bs m one two front) first.0 i)
        (term_renamed types names types_seen names_seen second (behind k c) t told seen stand_two first.1 i)
        (term_renamed types names types_seen names_seen third (behind (behind k c) t) u told seen stand_three both.1 i)
    node_renamed types names types_seen names_seen m k (tree.let_term (bound x r) t u) told seen stand marked =
        let place = term_at (root k t) in
        let own = binder_row x r names m place in
        let one = term_table types names (m + 1) k t in
        let after = m + 1 + binders_in t in
        let two = term_table types (entry x m m ∷ names) after (behind k t) u in
        let count = plus own one 1 (binders_in t) refl (term_binders types names (m + 1) k t) in
        let front = rows_left bs m (own ⊕ one) two stand in
        let own_stands = rows_left bs m own one front in
        let stand_two = rows_right bs m after (own ⊕ one) two (omega arith) stand in
        let inner = binder x r ∷ names_seen in
        let both = split (mention_of (bound x r) ++ mentions_of types_seen names_seen t) (mentions_of types_seen inner u) marked in
        let first = split (mention_of (bound x r)) (mentions_of types_seen names_seen t) both.0 in
        λ i. tree.let_term (bound_renamed m x r names place refl own_stands first.0 i)
        (term_renamed types names types_seen names_seen (m + 1) k t told seen (rows_right bs m (m + 1) own one refl front) first.1 i)
        (term_renamed types (entry x m m ∷ names) types_seen inner after (behind k t) u told (seen_told bs m m kind.Name x r names place names_seen refl own_stands seen) stand_two both.1 i)
    node_renamed types names types_seen names_seen m k (tree.letrec_term (bound x r) w t u) told seen stand marked =
        let first_names = entry x m (m + 1) ∷ names in
        let last_names = entry x (m + 1) (m + 1) ∷ names in
        let first = term_table types first_names (m + 2) k t in
        let rows = letrec_rows x r names m (root k t) (term_span t) (type_uses types w) first in
        let after = m + 2 + binders_in t in
        let body = term_table types last_names after (root k t + 3) u in
        let count = letrec_binders x r (term_span t) names m (root k t) (binders_in t) (type_uses types w) first (type_binders types w) (term_binders types first_names (m + 2) k t) in
        let own = letrec_first bs x r (term_span t) names m (root k t) (type_uses types w) first (type_binders types w) (rows_left bs m rows body stand) in
        let stand_body = rows_right bs m after rows body (omega arith) stand in
        let place = term_at (root k t + 2) in
        let inner = binder x r ∷ names_seen in
        let all = split (mention_of (bound x r) ++ mentions_of_type types_seen w ++ mentions_of types_seen inner t) (mentions_of types_seen inner u) marked in
        let three = split (mention_of (bound x r) ++ mentions_of_type types_seen w) (mentions_of types_seen inner t) all.0 in
        let two = split (mention_of (bound x r)) (mentions_of_type types_seen w) three.0 in
        λ i. tree.letrec_term (bound_renamed (m + 1) x r names place refl own.1 two.0 i) (type_renamed types types_seen w told two.1 i)
        (term_renamed types first_names types_seen inner (m + 2) k t told (seen_told bs m (m + 1) kind.Name x r names place names_seen refl own.1 seen) own.2 three.1 i)
        (term_renamed types last_names types_seen inner after (root k t + 3) u told (seen_told bs (m + 1) (m + 1) kind.Name x r names place names_seen refl own.1 seen) stand_body all.1 i)
    node_renamed types names types_seen names_seen m k (tree.prefixed p t) told seen stand marked = ap (tree.prefixed p) (term_renamed types names types_seen names_seen m k t told seen stand marked)
    node_renamed types names types_seen names_seen m k (tree.apply t u) told seen stand marked =
        let second = m + binders_in t in
        let one = term_table types names m k t in
        let two = term_table types names second (behind k t) u in
        let count = term_binders types names m k t in
        let stand_two = rows_right bs m second one two (omega arith) stand in
        let both = split (mentions_of types_seen names_seen t) (mentions_of types_seen names_seen u) marked in
        λ i. tree.apply (term_renamed types names types_seen names_seen m k t told seen (rows_left bs m one two stand) both.0 i)
        (term_renamed types names types_seen names_seen second (behind k t) u told seen stand_two both.1 i)
    node_renamed types names types_seen names_seen m k (tree.project t (word l r)) told seen stand marked =
        let both = split (mentions_of types_seen names_seen t) (labels_at r ∷ []) marked in
        λ i. tree.project (term_renamed types names types_seen names_seen m k t told seen stand both.0 i) (word (if both.1.0 i then new else l) r)
    node_renamed types names types_seen names_seen m k (tree.ascribe t u) told seen stand marked =
        let both = split (mentions_of types_seen names_seen t) (mentions_of_type types_seen u) marked in
        λ i. tree.ascribe (term_renamed types names types_seen names_seen m k t told seen (rows_left bs m (term_table types names m k t) (type_uses types u) stand) both.0 i)
        (type_renamed types types_seen u told both.1 i)
    node_renamed types names types_seen names_seen m k (tree.record_term fs) told seen stand marked = ap tree.record_term (fields_renamed types names types_seen names_seen m k fs told seen stand marked)

    fields_renamed : (types names : List Entry) (types_seen names_seen : List Binder) (m k : ℕ) (fs : tree.FieldTrees) → AreTold bs kind.TypeName types types_seen → AreTold bs kind.Name names names_seen
        → BindersStand bs m (fields_table types names m k fs).binders → AreMarked spans (binder_in bs n).token (mentions_of_fields types_seen names_seen fs)
        → respelled_fields (λ p. p) (renaming spans new) fs ≡ renamed_fields n new types names m fs
    fields_renamed types names types_seen names_seen m k tree.no_fields told seen stand marked = refl
    fields_renamed types names types_seen names_seen m k (tree.field (word l r) t fs) told seen stand marked =
        let second = m + binders_in t in
        let one = term_table types names m k t in
        let two = fields_table types names second (behind k t) fs in
        let count = term_binders types names m k t in
        let stand_two = rows_right bs m second one two (omega arith) stand in
        let both = split (mentions_of types_seen names_seen t) (mentions_of_fields types_seen names_seen fs) marked.1 in
        λ i. tree.field (word (if marked.0 i then new else l) r) (term_renamed types names types_seen names_seen m k t told seen (rows_left bs m one two stand) both.0 i)
        (fields_renamed types names types_seen names_seen second (behind k t) fs told seen stand_two both.1 i)

  -- commands

  commands_renamed : (types names : List Entry) (types_seen names_seen : List Binder) (m k j : ℕ) (cs : List CommandTree) → AreTold bs kind.TypeName types types_seen → AreTold bs kind.Name names names_seen
      → BindersStand bs m (commands_table types names m k j cs).binders → AreMarked spans (binder_in bs n).token (mentions_from types_seen names_seen cs)
      → map (respelled_command (λ p. p) (renaming spans new)) cs ≡ renamed_from n new types names m cs
  commands_renamed types names types_seen names_seen m k j [] told seen stand marked = refl
  commands_renamed types names types_seen names_seen m k j (tree.definition (word x r) t ∷ cs) told seen stand marked =
      let place = term_at (root k t) in
      let own = binder_row (Some x) r names m place in
      let one = term_table types names (m + 1) k t in
      let after = m + (1 + binders_in t) in
      let rest = commands_table types (entry (Some x) m m ∷ names) after (k + (below t + 1)) (j + 1) cs in
      let count = plus own one 1 (binders_in t) refl (term_binders types names (m + 1) k t) in
      let front = rows_left bs m (own ⊕ one) rest stand in
      let own_stands = rows_left bs m own one front in
      let stand_rest = rows_right bs m after (own ⊕ one) rest (omega arith) stand in
      let inner = binder (Some x) r ∷ names_seen in
      let both = split (mentions_of types_seen names_seen t) (mentions_from types_seen inner cs) marked.1 in
      λ i. tree.definition (word (if name_marked m kind.Name x r names place refl own_stands marked.0 i then new else x) r)
      (term_renamed types names types_seen names_seen (m + 1) k t told seen (rows_right bs m (m + 1) own one refl front) both.0 i)
      ∷ commands_renamed types (entry (Some x) m m ∷ names) types_seen inner after (k + (below t + 1)) (j + 1) cs told
      (seen_told bs m m kind.Name (Some x) r names place names_seen refl own_stands seen) stand_rest both.1 i
  commands_renamed types names types_seen names_seen m k j (tree.declaration (word x r) u ∷ cs) told seen stand marked =
      let own = binder_row (Some x) r names m (Declaration j) in
      let rest = commands_table types (entry (Some x) m m ∷ names) (m + 1) (k + 0) (j + 1) cs in
      let count = plus own (type_uses types u) 1 0 refl (type_binders types u) in
      let own_stands = rows_left bs m own (type_uses types u) (rows_left bs m (own ⊕ type_uses types u) rest stand) in
      let stand_rest = rows_right bs m (m + 1) (own ⊕ type_uses types u) rest (omega arith) stand in
      let inner = binder (Some x) r ∷ names_seen in
      let both = split (mentions_of_type types_seen u) (mentions_from types_seen inner cs) marked.1 in
      λ i. tree.declaration (word (if name_marked m kind.Name x r names (Declaration j) refl own_stands marked.0 i then new else x) r) (type_renamed types types_seen u told both.0 i)
      ∷ commands_renamed types (entry (Some x) m m ∷ names) types_seen inner (m + 1) (k + 0) (j + 1) cs told
      (seen_told bs m m kind.Name (Some x) r names (Declaration j) names_seen refl own_stands seen) stand_rest both.1 i
  commands_renamed types names types_seen names_seen m k j (tree.abbreviation (word x r) u ∷ cs) told seen stand marked =
      let own = binder_row (Some x) r types m TypeName in
      let rest = commands_table (entry (Some x) m m ∷ types) names (m + 1) (k + 0) (j + 1) cs in
      let count = plus own (type_uses types u) 1 0 refl (type_binders types u) in
      let own_stands = rows_left bs m own (type_uses types u) (rows_left bs m (own ⊕ type_uses types u) rest stand) in
      let stand_rest = rows_right bs m (m + 1) (own ⊕ type_uses types u) rest (omega arith) stand in
      let inner = binder (Some x) r ∷ types_seen in
      let both = split (mentions_of_type types_seen u) (mentions_from inner names_seen cs) marked.1 in
      λ i. tree.abbreviation (word (if name_marked m kind.TypeName x r types TypeName refl own_stands marked.0 i then new else x) r) (type_renamed types types_seen u told both.0 i)
      ∷ commands_renamed (entry (Some x) m m ∷ types) names inner names_seen (m + 1) (k + 0) (j + 1) cs
      (seen_told bs m m kind.TypeName (Some x) r types TypeName types_seen refl own_stands told) seen stand_rest both.1 i
  commands_renamed types names types_seen names_seen m k j (tree.evaluation t ∷ cs) told seen stand marked =
      let one = term_table types names m k t in
      let after = m + binders_in t in
      let rest = commands_table types names after (k + (below t + 1)) (j + 1) cs in
      let count = term_binders types names m k t in
      let stand_rest = rows_right bs m after one rest (omega arith) stand in
      let both = split (mentions_of types_seen names_seen t) (mentions_from types_seen names_seen cs) marked in
      λ i. tree.evaluation (term_renamed types names types_seen names_seen m k t told seen (rows_left bs m one rest stand) both.0 i)
      ∷ commands_renamed types names types_seen names_seen after (k + (below t + 1)) (j + 1) cs told seen stand_rest both.1 i

pub tokens_renamed : (cs : List CommandTree) (o n : ℕ) (new : Name) → AreSpelledFrom 0 cs → binder_at (table cs) o ≡ Some n
    → map (respelled_command (λ p. p) (renaming ((binder_numbered (table cs) n).token ∷ use_tokens n (table cs).uses) new)) cs ≡ renamed n new cs
tokens_renamed cs o n new spelled is =
    let bs = (table cs).binders in
    let ms = mentions cs in
    let b = (binder_in bs n).token in
    let ascend = spelled_ascend cs spelled in
    commands_renamed bs n new (b ∷ use_tokens n (table cs).uses) (alone_at cs ascend.0 o n ascend.1 is) [] [] [] [] 0 0 0 cs tt tt (all_stand bs)
    (subst (λ spans. AreMarked (b ∷ spans) b ms) (sym (uses_told cs ascend.0 o n ascend.1 is)) (all_marked b ms (λ s. bound_apart cs o n s is) ascend.0 ascend.1))
