-- The rows of the table of some commands and the mentions in these commands: their binders and their uses match, one by one.
use Rattle.std.proofs.Common.{◌≡◌, ℕ, ◌+◌, ◌<◌, ◌==◌, List, [], ◌∷◌, ◌++◌, length, refl, ap, sym, ◌∙◌, subst, arith, Option, Some, None, Bool, true, false}
use Rattle.std.specs.Prelude.{if◌then◌else◌}
use Rattle.std.specs.List.{cons_option, filter_map}
use Rattle.std.specs.Option.{option_or}
use Rattle.std.proofs.lemmas.List.{append-nil}
use Rattle.std.proofs.lemmas.List.Elements.{filter_map-append}
use Rattle.lam_syntax.specs.Trees as tree
use Rattle.lam_syntax.specs.Trees.{word, bound, TypeTree, type_tree, TypeNode, named, arrow, record_type, TypeFields, no_type_fields, type_field, TermTree, term_tree, TermNode, CommandTree, definition, declaration, evaluation, term_span}
use Rattle.lam_token.specs.declared.kind.Kind.{Kind}
use Rattle.lam_token.specs.declared.kind.Kind.TheVariants as kind
use Rattle.lam_token.specs.declared.span.Span.{Span}
use Rattle.lam_scope.specs.declared.numbers.Origin.{Origin}
use Rattle.lam_scope.specs.declared.numbers.Origin.TheVariants.{Declaration, TypeName}
use Rattle.lam_scope.specs.Names.{Name, binds}
use Rattle.lam_scope.specs.Sights.{lambda_at, term_at}
use Rattle.lam_scope.specs.Tables.{TextBinder, TextUse, Table, ◌⊕◌, empty_table, Entry, entry, bound_to as number_bound_to, binder_row, use_row, place_row, has_name, root, behind, roots, below, binders_in, type_uses, node_uses, field_uses, term_table, node_table, fields_table, letrec_rows, commands_table, table, binder_in, is_token_at, binder_token_at}
use Rattle.lam_scope.specs.Mentions.{Binder, binder, token_bound_to, Mention, binds_at, uses_at, labels_at, mention_of, mentions_of_type, mentions_of_type_node, mentions_of_type_fields, mentions_of, mentions_of_node, mentions_of_fields, mentions_from, mentions, bound_at}
use Rattle.lam_scope.specs.Renames.{kind_bound}
use Rattle.lam_scope.proofs.UseChains.{same_number, other_number}
use Rattle.lam_scope.proofs.BinderRows.{Along, along_append, plus, type_binders, letrec_binders, term_binders, BindersStand, all_stand, rows_left, rows_right, letrec_first}

-- whether a row's binder has a name and is itself the answer for it
abbrev pub is_answer : ℕ → TextBinder → Bool
is_answer n b = if has_name b.name then b.answer == n else false

-- whether the binder of a number is an answer
abbrev pub IsAnswer : List TextBinder → ℕ → Type 0
IsAnswer bs n = (n < length bs) × (is_answer n (binder_in bs n) ≡ true)

-- a binder, by its number among those of a table and by its token; or none
abbrev pub Told : List TextBinder → Option ℕ → Option Span → Type 0
Told bs None None = Unit {0}
Told bs (Some n) (Some s) = ((binder_in bs n).token ≡ s) × IsAnswer bs n
Told bs _ _ = ⊥

-- the kind of the names that a binder binds, where there is one
abbrev pub KindTold : List TextBinder → Kind → Option ℕ → Type 0
KindTold bs k None = Unit {0}
KindTold bs k (Some n) = kind_bound (binder_in bs n).origin ≡ k

-- a use, by its row and by its mention
abbrev pub UseTold : List TextBinder → TextUse → Mention → Type 0
UseTold bs u (uses_at k s b) = (u.token ≡ s) × Told bs u.binder b × KindTold bs k u.binder
UseTold bs u m = ⊥

-- the uses among mentions, and the binders among them; labels are neither

abbrev use_in : Mention → Option Mention
use_in (uses_at k s b) = Some (uses_at k s b)
use_in m = None

abbrev binding_in : Mention → Option Mention
binding_in (binds_at k s) = Some (binds_at k s)
binding_in m = None

abbrev pub uses_in : List Mention → List Mention
uses_in ms = filter_map use_in ms

abbrev pub bindings_in : List Mention → List Mention
bindings_in ms = filter_map binding_in ms

-- the mention of the binder that a row tells of
abbrev pub binding_of : TextBinder → Mention
binding_of b = binds_at (kind_bound b.origin) b.token

-- those of the rows that are answers, if the first row has index n
abbrev pub answer_bindings : ℕ → List TextBinder → List Mention
answer_bindings n [] = []
answer_bindings n (b ∷ rows) = if is_answer n b then binding_of b ∷ answer_bindings (n + 1) rows else answer_bindings (n + 1) rows

-- a table whose first binder has the number n, and mentions: the same uses, the same binder at each byte, and the same answers
pub record AreMentioned (bs : List TextBinder) (n : ℕ) (t : Table) (ms : List Mention) : Type 0 where
  pub at : (o : ℕ) → Told bs (binder_token_at o t.binders) (bound_at o (bindings_in ms))
  pub uses : Along (UseTold bs) t.uses (uses_in ms)
  pub answers : answer_bindings n t.binders ≡ bindings_in ms

-- one table behind another

pub if_or : {A : Type 0} (b : Bool) (x : A) (o p : Option A) → (if b then Some x else option_or o p) ≡ option_or (if b then Some x else o) p
if_or true x o p = refl
if_or false x o p = refl

if_more : {A : Type 0} (b : Bool) (x : A) (xs ys : List A) → (if b then x ∷ (xs ++ ys) else (xs ++ ys)) ≡ (if b then x ∷ xs else xs) ++ ys
if_more true x xs ys = refl
if_more false x xs ys = refl

pub told_or : (bs : List TextBinder) (a c : Option ℕ) (b d : Option Span) → Told bs a b → Told bs c d → Told bs (option_or a c) (option_or b d)
told_or bs None c None d g h = h
told_or bs (Some n) c (Some s) d g h = g
told_or bs None c (Some s) d g h = absurd g
told_or bs (Some n) c None d g h = absurd g

token_at_append : (o : ℕ) (xs ys : List TextBinder) → binder_token_at o (xs ++ ys) ≡ option_or (binder_token_at o xs) (binder_token_at o ys)
token_at_append o [] ys = refl
token_at_append o (b ∷ xs) ys = ap (λ a. if is_token_at o b then Some b.answer else a) (token_at_append o xs ys) ∙ if_or (is_token_at o b) b.answer (binder_token_at o xs) (binder_token_at o ys)

bound_append : (o : ℕ) (ms ns : List Mention) → bound_at o (bindings_in ms ++ ns) ≡ option_or (bound_at o (bindings_in ms)) (bound_at o ns)
bound_append o [] ns = refl
bound_append o (binds_at k s ∷ ms) ns = ap (λ a. if s.start == o then Some s else a) (bound_append o ms ns) ∙ if_or (s.start == o) s (bound_at o (bindings_in ms)) (bound_at o ns)
bound_append o (m ∷ ms) ns = bound_append o ms ns

answers_append : (n m : ℕ) (xs ys : List TextBinder) → n + length xs ≡ m → answer_bindings n (xs ++ ys) ≡ answer_bindings n xs ++ answer_bindings m ys
answers_append n m [] ys e = let here : n ≡ m = omega arith in ap (λ j. answer_bindings j ys) here
answers_append n m (b ∷ xs) ys e =
    ap (λ ms. if is_answer n b then binding_of b ∷ ms else ms) (answers_append (n + 1) m xs ys (omega arith))
    ∙ if_more (is_answer n b) (binding_of b) (answer_bindings (n + 1) xs) (answer_bindings m ys)

one_behind : (bs : List TextBinder) (n m : ℕ) (s t : Table) (ms ns : List Mention) → n + length s.binders ≡ m → AreMentioned bs n s ms → AreMentioned bs m t ns → AreMentioned bs n (s ⊕ t) (ms ++ ns)
unfolding ◌⊕◌
one_behind bs n m s t ms ns e g h = record {
  at = λ o.
      subst (λ os. Told bs (binder_token_at o (s.binders ++ t.binders)) (bound_at o os)) (sym (filter_map-append binding_in ms ns))
      (subst (λ b. Told bs (binder_token_at o (s.binders ++ t.binders)) b) (sym (bound_append o ms (bindings_in ns)))
      (subst (λ a. Told bs a (option_or (bound_at o (bindings_in ms)) (bound_at o (bindings_in ns)))) (sym (token_at_append o s.binders t.binders))
      (told_or bs _ _ _ _ (g.at o) (h.at o))));
  uses = subst (λ us. Along (UseTold bs) (s.uses ++ t.uses) us) (sym (filter_map-append use_in ms ns)) (along_append (UseTold bs) s.uses t.uses (uses_in ms) (uses_in ns) g.uses h.uses);
  answers = answers_append n m s.binders t.binders e ∙ (λ i. g.answers i ++ h.answers i) ∙ sym (filter_map-append binding_in ms ns);
}

two_behind : (bs : List TextBinder) (n m l : ℕ) (s t u : Table) (ms ns os : List Mention) → n + length s.binders ≡ m → n + length (s ⊕ t).binders ≡ l
    → AreMentioned bs n s ms → AreMentioned bs m t ns → AreMentioned bs l u os → AreMentioned bs n (s ⊕ t ⊕ u) (ms ++ ns ++ os)
two_behind bs n m l s t u ms ns os e f g h k = one_behind bs n l (s ⊕ t) u (ms ++ ns) os f (one_behind bs n m s t ms ns e g h) k

none_mentioned : (bs : List TextBinder) (n : ℕ) → AreMentioned bs n empty_table []
none_mentioned bs n = record { at = λ o. tt; uses = tt; answers = refl }

place_behind : (bs : List TextBinder) (n : ℕ) (t : Table) (ms : List Mention) (s : Span) (derived : Bool) (ts : List ℕ) (names : List Entry) → AreMentioned bs n t ms → AreMentioned bs n (t ⊕ place_row s derived ts names) ms
place_behind bs n t ms s derived ts names h =
    let own = place_row s derived ts names in
    subst (AreMentioned bs n (t ⊕ own)) (append-nil ms) (one_behind bs n (n + length t.binders) t own ms [] refl h (record { at = λ o. tt; uses = tt; answers = refl }))

-- a label, of which no row tells

label_before : (bs : List TextBinder) (n : ℕ) (t : Table) (s : Span) (ms : List Mention) → AreMentioned bs n t ms → AreMentioned bs n t (labels_at s ∷ ms)
label_before bs n t s ms h = record { at = h.at; uses = h.uses; answers = h.answers }

label_left : (f : Mention → Option Mention) (ms : List Mention) (s : Span) → f (labels_at s) ≡ None → filter_map f ms ≡ filter_map f (ms ++ labels_at s ∷ [])
label_left f ms s e = sym (filter_map-append f ms (labels_at s ∷ []) ∙ ap (λ o. filter_map f ms ++ cons_option o []) e ∙ append-nil (filter_map f ms))

label_behind : (bs : List TextBinder) (n : ℕ) (t : Table) (ms : List Mention) (s : Span) → AreMentioned bs n t ms → AreMentioned bs n t (ms ++ labels_at s ∷ [])
label_behind bs n t ms s h =
    let same = label_left binding_in ms s refl in
    record {
      at = λ o. subst (λ ns. Told bs (binder_token_at o t.binders) (bound_at o ns)) same (h.at o);
      uses = subst (Along (UseTold bs) t.uses) (label_left use_in ms s refl) h.uses;
      answers = h.answers ∙ same;
    }

-- binders of one kind that are seen, by their numbers and by their tokens

abbrev BothTold : List TextBinder → Kind → Option ℕ → Option Span → Type 0
BothTold bs k a b = Told bs a b × KindTold bs k a

abbrev pub AreTold : List TextBinder → Kind → List Entry → List Binder → Type 0
AreTold bs k [] [] = Unit {0}
AreTold bs k (e ∷ es) (b ∷ seen) = (e.name ≡ b.name) × ((x : Name) → binds e.name x ≡ true → BothTold bs k (Some e.answer) (Some b.token)) × AreTold bs k es seen
AreTold bs k _ _ = ⊥

told_either : (R : Option ℕ → Option Span → Type 0) (b : Bool) (n : ℕ) (s : Span) (o : Option ℕ) (p : Option Span) → (b ≡ true → R (Some n) (Some s)) → R o p
    → R (if b then Some n else o) (if b then Some s else p)
told_either R true n s o p g h = g refl
told_either R false n s o p g h = h

pub told_bound : (bs : List TextBinder) (k : Kind) (x : Name) (es : List Entry) (seen : List Binder) → AreTold bs k es seen → BothTold bs k (number_bound_to x es) (token_bound_to x seen)
told_bound bs k x [] [] h = (tt, tt)
told_bound bs k x (e ∷ es) (b ∷ seen) h =
    subst (λ y. BothTold bs k (if binds e.name x then Some e.answer else number_bound_to x es) (if binds y x then Some b.token else token_bound_to x seen)) h.0
    (told_either (BothTold bs k) (binds e.name x) e.answer b.token (number_bound_to x es) (token_bound_to x seen) (h.1 x) (told_bound bs k x es seen h.2))
told_bound bs k x [] (b ∷ seen) h = absurd h
told_bound bs k x (e ∷ es) [] h = absurd h

use_mentioned : (bs : List TextBinder) (n : ℕ) (k : Kind) (x : Name) (s : Span) (es : List Entry) (seen : List Binder) → AreTold bs k es seen
    → AreMentioned bs n (use_row x s es) (uses_at k s (token_bound_to x seen) ∷ [])
use_mentioned bs n k x s es seen h = let told = told_bound bs k x es seen h in record { at = λ o. tt; uses = ((refl, told.0, told.1), tt); answers = refl }

-- the row of a binder that is itself the answer for it

pub row_told : (bs : List TextBinder) (n : ℕ) (k : Kind) (x : Name) (s : Span) (es : List Entry) (o : Origin) → kind_bound o ≡ k → BindersStand bs n (binder_row (Some x) s es n o).binders
    → BothTold bs k (Some n) (Some s)
row_told bs n k x s es o is stand = ((ap (λ b. b.token) stand.1, (stand.0, ap (is_answer n) stand.1 ∙ same_number n n refl)), ap (λ b. kind_bound b.origin) stand.1 ∙ is)

pub seen_told : (bs : List TextBinder) (m n : ℕ) (k : Kind) (x : Option Name) (s : Span) (names : List Entry) (o : Origin) (seen : List Binder) → kind_bound o ≡ k
    → BindersStand bs n (binder_row x s names n o).binders → AreTold bs k names seen → AreTold bs k (entry x m n ∷ names) (binder x s ∷ seen)
seen_told bs m n k None s names o seen is stand h = (refl, (λ x e. absurd cc), h)
seen_told bs m n k (Some x) s names o seen is stand h = (refl, (λ y e. row_told bs n k x s names o is stand), h)

named_mentioned : (bs : List TextBinder) (n : ℕ) (k : Kind) (x : Name) (s : Span) (names : List Entry) (o : Origin) → kind_bound o ≡ k → BindersStand bs n (binder_row (Some x) s names n o).binders
    → AreMentioned bs n (binder_row (Some x) s names n o) (binds_at k s ∷ [])
named_mentioned bs n k x s names o is stand = record {
  at = λ p. told_either (Told bs) (s.start == p) n s None None (λ e. (row_told bs n k x s names o is stand).0) tt;
  uses = tt;
  answers = (λ i. if same_number n n refl i then binds_at (is i) s ∷ [] else []);
}

row_mentioned : (bs : List TextBinder) (n : ℕ) (x : Option Name) (s : Span) (names : List Entry) (o : Origin) → kind_bound o ≡ kind.Name → BindersStand bs n (binder_row x s names n o).binders
    → AreMentioned bs n (binder_row x s names n o) (mention_of (bound x s))
row_mentioned bs n None s names o is stand = record { at = λ p. tt; uses = tt; answers = refl }
row_mentioned bs n (Some x) s names o is stand = named_mentioned bs n kind.Name x s names o is stand

-- the two rows of a letrec's binder

told_twice : (bs : List TextBinder) (b : Bool) (n : ℕ) (s : Span) → Told bs (Some n) (Some s) → Told bs (if b then Some n else (if b then Some n else None)) (if b then Some s else None)
told_twice bs true n s h = h
told_twice bs false n s h = tt

both_mentioned : (bs : List TextBinder) (n : ℕ) (x : Option Name) (s : Span) (names : List Entry) (o p : Origin) → kind_bound p ≡ kind.Name
    → BindersStand bs (n + 1) (binder_row x s names (n + 1) p).binders
    → AreMentioned bs n (binder_row x s names (n + 1) o ⊕ binder_row x s names (n + 1) p) (mention_of (bound x s))
unfolding ◌⊕◌
both_mentioned bs n None s names o p is stand = record { at = λ q. tt; uses = tt; answers = refl }
both_mentioned bs n (Some x) s names o p is stand = record {
  at = λ q. told_twice bs (s.start == q) (n + 1) s (row_told bs (n + 1) kind.Name x s names p is stand).0;
  uses = tt;
  answers = ap (λ b. if b then binds_at (kind_bound o) s ∷ answer_bindings (n + 1) (binder_row (Some x) s names (n + 1) p).binders else answer_bindings (n + 1) (binder_row (Some x) s names (n + 1) p).binders) (other_number (n + 1) n (λ e. absurd (omega arith)))
      ∙ (named_mentioned bs (n + 1) kind.Name x s names p is stand).answers;
}

letrec_mentioned : (bs : List TextBinder) (x : Option Name) (r span : Span) (names : List Entry) (n p : ℕ) (u t : Table) (ms ns : List Mention) → length u.binders ≡ 0
    → BindersStand bs (n + 1) (binder_row x r names (n + 1) (term_at (p + 2))).binders → AreMentioned bs (n + 2) u ms → AreMentioned bs (n + 2) t ns
    → AreMentioned bs n (letrec_rows x r names n p span u t) (mention_of (bound x r) ++ ms ++ ns)
letrec_mentioned bs x r span names n p u t ms ns e stand g h =
    let one = binder_row x r names (n + 1) (lambda_at (p + 1)) in
    let two = binder_row x r names (n + 1) (term_at (p + 2)) in
    let function = place_row span true (p ∷ []) names in
    let fixed = place_row span true ((p + 1) ∷ []) names in
    let own = plus one two 1 1 refl refl in
    let count = plus (one ⊕ two) u 2 0 own e in
    let all = mention_of (bound x r) ++ ms ++ ns in
    place_behind bs n (one ⊕ two ⊕ u ⊕ t ⊕ function) all span true ((p + 1) ∷ []) names
    (place_behind bs n (one ⊕ two ⊕ u ⊕ t) all span true (p ∷ []) names
    (two_behind bs n (n + 2) (n + 2) (one ⊕ two) u t (mention_of (bound x r)) ms ns (omega arith) (omega arith) (both_mentioned bs n x r names (lambda_at (p + 1)) (term_at (p + 2)) refl stand) g h))

-- written types

mutual
  type_mentioned : (bs : List TextBinder) (n : ℕ) (types : List Entry) (seen : List Binder) (u : TypeTree) → AreTold bs kind.TypeName types seen → AreMentioned bs n (type_uses types u) (mentions_of_type seen u)
  type_mentioned bs n types seen (type_tree s node) told = type_node_mentioned bs n types seen node told

  type_node_mentioned : (bs : List TextBinder) (n : ℕ) (types : List Entry) (seen : List Binder) (node : TypeNode) → AreTold bs kind.TypeName types seen → AreMentioned bs n (node_uses types node) (mentions_of_type_node seen node)
  type_node_mentioned bs n types seen tree.bool told = none_mentioned bs n
  type_node_mentioned bs n types seen tree.nat told = none_mentioned bs n
  type_node_mentioned bs n types seen tree.unit told = none_mentioned bs n
  type_node_mentioned bs n types seen tree.top told = none_mentioned bs n
  type_node_mentioned bs n types seen (named (word x s)) told = use_mentioned bs n kind.TypeName x s types seen told
  type_node_mentioned bs n types seen (arrow a b) told =
      let count = type_binders types a in
      one_behind bs n n (type_uses types a) (type_uses types b) _ _ (omega arith) (type_mentioned bs n types seen a told) (type_mentioned bs n types seen b told)
  type_node_mentioned bs n types seen (record_type fs) told = type_fields_mentioned bs n types seen fs told

  type_fields_mentioned : (bs : List TextBinder) (n : ℕ) (types : List Entry) (seen : List Binder) (fs : TypeFields) → AreTold bs kind.TypeName types seen → AreMentioned bs n (field_uses types fs) (mentions_of_type_fields seen fs)
  type_fields_mentioned bs n types seen no_type_fields told = none_mentioned bs n
  type_fields_mentioned bs n types seen (type_field (word l s) t fs) told =
      let count = type_binders types t in
      label_before bs n (type_uses types t ⊕ field_uses types fs) s _
      (one_behind bs n n (type_uses types t) (field_uses types fs) _ _ (omega arith) (type_mentioned bs n types seen t told) (type_fields_mentioned bs n types seen fs told))

-- terms

mutual
  term_mentioned : (bs : List TextBinder) (types names : List Entry) (types_seen names_seen : List Binder) (n k : ℕ) (t : TermTree) → AreTold bs kind.TypeName types types_seen → AreTold bs kind.Name names names_seen
      → BindersStand bs n (term_table types names n k t).binders → AreMentioned bs n (term_table types names n k t) (mentions_of types_seen names_seen t)
  term_mentioned bs types names types_seen names_seen n k (term_tree r node) told seen stand =
      place_behind bs n (node_table types names n k node) _ r false (roots k node) names
      (node_mentioned bs types names types_seen names_seen n k node told seen (rows_left bs n (node_table types names n k node) (place_row r false (roots k node) names) stand))

  node_mentioned : (bs : List TextBinder) (types names : List Entry) (types_seen names_seen : List Binder) (n k : ℕ) (node : TermNode) → AreTold bs kind.TypeName types types_seen → AreTold bs kind.Name names names_seen
      → BindersStand bs n (node_table types names n k node).binders → AreMentioned bs n (node_table types names n k node) (mentions_of_node types_seen names_seen node)
  node_mentioned bs types names types_seen names_seen n k tree.true_term told seen stand = none_mentioned bs n
  node_mentioned bs types names types_seen names_seen n k tree.false_term told seen stand = none_mentioned bs n
  node_mentioned bs types names types_seen names_seen n k tree.unit_term told seen stand = none_mentioned bs n
  node_mentioned bs types names types_seen names_seen n k (tree.variable (word x r)) told seen stand = use_mentioned bs n kind.Name x r names names_seen seen
  node_mentioned bs types names types_seen names_seen n k (tree.numeral w) told seen stand = none_mentioned bs n
  node_mentioned bs types names types_seen names_seen n k (tree.lambda (bound b r) u t) told seen stand =
      let own = binder_row b r names n (lambda_at (behind k t)) in
      let body = term_table types (entry b n n ∷ names) (n + 1) k t in
      let count = plus own (type_uses types u) 1 0 refl (type_binders types u) in
      let front = rows_left bs n own (type_uses types u) (rows_left bs n (own ⊕ type_uses types u) body stand) in
      two_behind bs n (n + 1) (n + 1) own (type_uses types u) body _ _ _ refl (omega arith)
      (row_mentioned bs n b r names (lambda_at (behind k t)) refl front)
      (type_mentioned bs (n + 1) types types_seen u told)
      (term_mentioned bs types (entry b n n ∷ names) types_seen (binder b r ∷ names_seen) (n + 1) k t told (seen_told bs n n kind.Name b r names (lambda_at (behind k t)) names_seen refl front seen)
      (rows_right bs n (n + 1) (own ⊕ type_uses types u) body (omega arith) stand))
  node_mentioned bs types names types_seen names_seen n k (tree.if_term c t u) told seen stand =
      let second = n + binders_in c in
      let third = n + binders_in c + binders_in t in
      let one = term_table types names n k c in
      let two = term_table types names second (behind k c) t in
      let three = term_table types names third (behind (behind k c) t) u in
      let count_one = term_binders types names n k c in
      let count_two = plus one two (binders_in c) (binders_in t) count_one (term_binders types names second (behind k c) t) in
      let front = rows_left bs n (one ⊕ two) three stand in
      two_behind bs n second third one two three _ _ _ (omega arith) (omega arith)
      (term_mentioned bs types names types_seen names_seen n k c told seen (rows_left bs n one two front))
      (term_mentioned bs types names types_seen names_seen second (behind k c) t told seen (rows_right bs n second one two (omega arith) front))
      (term_mentioned bs types names types_seen names_seen third (behind (behind k c) t) u told seen (rows_right bs n third (one ⊕ two) three (omega arith) stand))
  node_mentioned bs types names types_seen names_seen n k (tree.let_term (bound b r) t u) told seen stand =
      let own = binder_row b r names n (term_at (root k t)) in
      let one = term_table types names (n + 1) k t in
      let after = n + 1 + binders_in t in
      let two = term_table types (entry b n n ∷ names) after (behind k t) u in
      let count = plus own one 1 (binders_in t) refl (term_binders types names (n + 1) k t) in
      let front = rows_left bs n (own ⊕ one) two stand in
      let own_stands = rows_left bs n own one front in
      two_behind bs n (n + 1) after own one two _ _ _ refl (omega arith)
      (row_mentioned bs n b r names (term_at (root k t)) refl own_stands)
      (term_mentioned bs types names types_seen names_seen (n + 1) k t told seen (rows_right bs n (n + 1) own one refl front))
      (term_mentioned bs types (entry b n n ∷ names) types_seen (binder b r ∷ names_seen) after (behind k t) u told (seen_told bs n n kind.Name b r names (term_at (root k t)) names_seen refl own_stands seen)
      (rows_right bs n after (own ⊕ one) two (omega arith) stand))
  node_mentioned bs types names types_seen names_seen n k (tree.letrec_term (bound b r) w t u) told seen stand =
      let first = term_table types (entry b n (n + 1) ∷ names) (n + 2) k t in
      let rows = letrec_rows b r names n (root k t) (term_span t) (type_uses types w) first in
      let after = n + 2 + binders_in t in
      let body = term_table types (entry b (n + 1) (n + 1) ∷ names) after (root k t + 3) u in
      let count = letrec_binders b r (term_span t) names n (root k t) (binders_in t) (type_uses types w) first (type_binders types w) (term_binders types (entry b n (n + 1) ∷ names) (n + 2) k t) in
      let own = letrec_first bs b r (term_span t) names n (root k t) (type_uses types w) first (type_binders types w) (rows_left bs n rows body stand) in
      let place = term_at (root k t + 2) in
      let inner = binder b r ∷ names_seen in
      let name = mention_of (bound b r) in
      let typed = mentions_of_type types_seen w in
      let function = mentions_of types_seen inner t in
      let last = mentions_of types_seen inner u in
      one_behind bs n after rows body (name ++ typed ++ function) last (omega arith)
      (letrec_mentioned bs b r (term_span t) names n (root k t) (type_uses types w) first typed function (type_binders types w) own.1 (type_mentioned bs (n + 2) types types_seen w told)
      (term_mentioned bs types (entry b n (n + 1) ∷ names) types_seen inner (n + 2) k t told (seen_told bs n (n + 1) kind.Name b r names place names_seen refl own.1 seen) own.2))
      (term_mentioned bs types (entry b (n + 1) (n + 1) ∷ names) types_seen inner after (root k t + 3) u told (seen_told bs (n + 1) (n + 1) kind.Name b r names place names_seen refl own.1 seen)
      (rows_right bs n after rows body (omega arith) stand))
  node_mentioned bs types names types_seen names_seen n k (tree.prefixed p t) told seen stand = term_mentioned bs types names types_seen names_seen n k t told seen stand
  node_mentioned bs types names types_seen names_seen n k (tree.apply t u) told seen stand =
      let second = n + binders_in t in
      let one = term_table types names n k t in
      let two = term_table types names second (behind k t) u in
      let count = term_binders types names n k t in
      one_behind bs n second one two _ _ (omega arith)
      (term_mentioned bs types names types_seen names_seen n k t told seen (rows_left bs n one two stand))
      (term_mentioned bs types names types_seen names_seen second (behind k t) u told seen (rows_right bs n second one two (omega arith) stand))
  node_mentioned bs types names types_seen names_seen n k (tree.project t (word l r)) told seen stand =
      label_behind bs n (term_table types names n k t) _ r (term_mentioned bs types names types_seen names_seen n k t told seen stand)
  node_mentioned bs types names types_seen names_seen n k (tree.ascribe t u) told seen stand =
      let one = term_table types names n k t in
      one_behind bs n (n + length one.binders) one (type_uses types u) _ _ refl
      (term_mentioned bs types names types_seen names_seen n k t told seen (rows_left bs n one (type_uses types u) stand))
      (type_mentioned bs (n + length one.binders) types types_seen u told)
  node_mentioned bs types names types_seen names_seen n k (tree.record_term fs) told seen stand = fields_mentioned bs types names types_seen names_seen n k fs told seen stand

  fields_mentioned : (bs : List TextBinder) (types names : List Entry) (types_seen names_seen : List Binder) (n k : ℕ) (fs : tree.FieldTrees) → AreTold bs kind.TypeName types types_seen → AreTold bs kind.Name names names_seen
      → BindersStand bs n (fields_table types names n k fs).binders → AreMentioned bs n (fields_table types names n k fs) (mentions_of_fields types_seen names_seen fs)
  fields_mentioned bs types names types_seen names_seen n k tree.no_fields told seen stand = none_mentioned bs n
  fields_mentioned bs types names types_seen names_seen n k (tree.field (word l r) t fs) told seen stand =
      let second = n + binders_in t in
      let one = term_table types names n k t in
      let two = fields_table types names second (behind k t) fs in
      let count = term_binders types names n k t in
      label_before bs n (one ⊕ two) r _
      (one_behind bs n second one two _ _ (omega arith)
      (term_mentioned bs types names types_seen names_seen n k t told seen (rows_left bs n one two stand))
      (fields_mentioned bs types names types_seen names_seen second (behind k t) fs told seen (rows_right bs n second one two (omega arith) stand)))

-- commands

commands_mentioned : (bs : List TextBinder) (types names : List Entry) (types_seen names_seen : List Binder) (n k i : ℕ) (cs : List CommandTree) → AreTold bs kind.TypeName types types_seen → AreTold bs kind.Name names names_seen
    → BindersStand bs n (commands_table types names n k i cs).binders → AreMentioned bs n (commands_table types names n k i cs) (mentions_from types_seen names_seen cs)
commands_mentioned bs types names types_seen names_seen n k i [] told seen stand = none_mentioned bs n
commands_mentioned bs types names types_seen names_seen n k i (definition (word x r) t ∷ cs) told seen stand =
    let own = binder_row (Some x) r names n (term_at (root k t)) in
    let one = term_table types names (n + 1) k t in
    let after = n + (1 + binders_in t) in
    let rest = commands_table types (entry (Some x) n n ∷ names) after (k + (below t + 1)) (i + 1) cs in
    let count = plus own one 1 (binders_in t) refl (term_binders types names (n + 1) k t) in
    let front = rows_left bs n (own ⊕ one) rest stand in
    let own_stands = rows_left bs n own one front in
    two_behind bs n (n + 1) after own one rest _ _ _ refl (omega arith)
    (named_mentioned bs n kind.Name x r names (term_at (root k t)) refl own_stands)
    (term_mentioned bs types names types_seen names_seen (n + 1) k t told seen (rows_right bs n (n + 1) own one refl front))
    (commands_mentioned bs types (entry (Some x) n n ∷ names) types_seen (binder (Some x) r ∷ names_seen) after (k + (below t + 1)) (i + 1) cs told
    (seen_told bs n n kind.Name (Some x) r names (term_at (root k t)) names_seen refl own_stands seen) (rows_right bs n after (own ⊕ one) rest (omega arith) stand))
commands_mentioned bs types names types_seen names_seen n k i (declaration (word x r) u ∷ cs) told seen stand =
    let own = binder_row (Some x) r names n (Declaration i) in
    let rest = commands_table types (entry (Some x) n n ∷ names) (n + 1) (k + 0) (i + 1) cs in
    let count = plus own (type_uses types u) 1 0 refl (type_binders types u) in
    let own_stands = rows_left bs n own (type_uses types u) (rows_left bs n (own ⊕ type_uses types u) rest stand) in
    two_behind bs n (n + 1) (n + 1) own (type_uses types u) rest _ _ _ refl (omega arith)
    (named_mentioned bs n kind.Name x r names (Declaration i) refl own_stands)
    (type_mentioned bs (n + 1) types types_seen u told)
    (commands_mentioned bs types (entry (Some x) n n ∷ names) types_seen (binder (Some x) r ∷ names_seen) (n + 1) (k + 0) (i + 1) cs told
    (seen_told bs n n kind.Name (Some x) r names (Declaration i) names_seen refl own_stands seen) (rows_right bs n (n + 1) (own ⊕ type_uses types u) rest (omega arith) stand))
commands_mentioned bs types names types_seen names_seen n k i (tree.abbreviation (word x r) u ∷ cs) told seen stand =
    let own = binder_row (Some x) r types n TypeName in
    let rest = commands_table (entry (Some x) n n ∷ types) names (n + 1) (k + 0) (i + 1) cs in
    let count = plus own (type_uses types u) 1 0 refl (type_binders types u) in
    let own_stands = rows_left bs n own (type_uses types u) (rows_left bs n (own ⊕ type_uses types u) rest stand) in
    two_behind bs n (n + 1) (n + 1) own (type_uses types u) rest _ _ _ refl (omega arith)
    (named_mentioned bs n kind.TypeName x r types TypeName refl own_stands)
    (type_mentioned bs (n + 1) types types_seen u told)
    (commands_mentioned bs (entry (Some x) n n ∷ types) names (binder (Some x) r ∷ types_seen) names_seen (n + 1) (k + 0) (i + 1) cs
    (seen_told bs n n kind.TypeName (Some x) r types TypeName types_seen refl own_stands told) seen (rows_right bs n (n + 1) (own ⊕ type_uses types u) rest (omega arith) stand))
commands_mentioned bs types names types_seen names_seen n k i (evaluation t ∷ cs) told seen stand =
    let one = term_table types names n k t in
    let after = n + binders_in t in
    let rest = commands_table types names after (k + (below t + 1)) (i + 1) cs in
    let count = term_binders types names n k t in
    one_behind bs n after one rest _ _ (omega arith)
    (term_mentioned bs types names types_seen names_seen n k t told seen (rows_left bs n one rest stand))
    (commands_mentioned bs types names types_seen names_seen after (k + (below t + 1)) (i + 1) cs told seen (rows_right bs n after one rest (omega arith) stand))

pub table_mentioned : (cs : List CommandTree) → AreMentioned (table cs).binders 0 (table cs) (mentions cs)
table_mentioned cs = commands_mentioned (table cs).binders [] [] [] [] 0 0 0 cs tt tt (all_stand (table cs).binders)
