-- The binder that is reported for a type name is that of the abbreviation that it stands for.
use Rattle.std.proofs.Common.{◌≡◌, ◌≢◌, ◌⊎◌, inl, inr, ⊎_elim, ℕ, ◌≤◌, List, [], ◌∷◌, ◌++◌, length, refl, ap, sym, ◌∙◌, subst, arith, map, Bool, true, false, Option, Some, None}
use Rattle.std.specs.Prelude.{if◌then◌else◌, Contains, fold, flat_map}
use Rattle.std.specs.List.{AllByRecursion, filter_map}
use Rattle.std.specs.Option.{is_some}
use Rattle.std.specs.Str.{bytes_eq}
use Rattle.std.proofs.lemmas.Grind.{flat_map-append}
use Rattle.std.proofs.lemmas.List.{append-nil, map-append}
use Rattle.std.proofs.lemmas.List.Elements.{filter_map-append, Contains-append_left, Contains-append_right}
use Rattle.std.proofs.lemmas.Slice.Eq.{bytes_eq-Decides}
use Rattle.lam_token.specs.declared.kind.Kind.TheVariants as kind
use Rattle.lam_token.specs.declared.span.Span.{Span}
use Rattle.lam_syntax.specs.Trees as tree
use Rattle.lam_syntax.specs.Trees.{Word, word, Bound, bound, TypeTree, type_tree, TypeNode, TypeFields, TermTree, term_tree, TermNode, CommandTree, definition, declaration, evaluation}
use Rattle.lam_scope.specs.Names.{Name}
use Rattle.lam_scope.specs.Expansions.{Abbreviation, meaning, is_bound, expansion}
use Rattle.lam_scope.specs.Nameless.{statement, statements, abbreviations_after, names_after, written_in, written_in_node, written_in_fields}
use Rattle.lam_scope.specs.Places.{statement_numbered}
use Rattle.lam_scope.specs.Tables.{TextBinder, table, binder_in, binder_numbered, binder_at}
use Rattle.lam_scope.specs.Mentions.{Binder, token_bound_to, Mention, uses_at, labels_at, token_of, binder_of, mention_of, seen_of, mentions_of_type, mentions_of_type_node, mentions_of_type_fields, mentions_of, mentions_of_node, mentions_of_fields, mentions_of_command, types_behind, names_behind, mentions_from, mentions, bound_at, Ascend}
use Rattle.lam_scope.specs.TypeNames.{type_names, type_names_in, type_names_in_fields, type_names_in_command, IsTypeNameIn, abbreviations_seen_after, meant_after, binders_seen_after, IsNoAbbreviationOf, IsLastAbbreviation, IsNotAbbreviated}
use Rattle.lam_scope.proofs.BoundMentions.{all_told}
use Rattle.lam_scope.proofs.Contained.{nothing_in, first_or_later, mapped_in, filtered_from}
use Rattle.lam_scope.proofs.MentionRows.{Told}
use Rattle.lam_scope.proofs.UseChains.{same_number, other_number}

-- the uses of type names among mentions

abbrev type_use_in : Mention → Option Mention
type_use_in (uses_at kind.TypeName s b) = Some (uses_at kind.TypeName s b)
type_use_in m = None

same_use : (m n : Mention) → type_use_in m ≡ Some n → m ≡ n
same_use (uses_at kind.TypeName s b) n e = cc
same_use m n e = absurd cc

used_in : (ms : List Mention) (n : Mention) → Contains (filter_map type_use_in ms) n → Contains ms n
used_in ms n h = let there = filtered_from type_use_in ms n h in subst (λ m. Contains ms m) (same_use there.0 n there.2) there.1

-- the mention of a type name that sees these binders
abbrev use_of_type : List Binder → Word → Mention
use_of_type types (word x s) = uses_at kind.TypeName s (token_bound_to x types)

-- the uses of type names among mentions are of these
abbrev AreTypeUses : List Binder → List Mention → List Word → Type 0
AreTypeUses types ms ws = filter_map type_use_in ms ≡ map (use_of_type types) ws

both_used : (types : List Binder) (ms ns : List Mention) (ws vs : List Word) → AreTypeUses types ms ws → AreTypeUses types ns vs → AreTypeUses types (ms ++ ns) (ws ++ vs)
both_used types ms ns ws vs e f = filter_map-append type_use_in ms ns ∙ (λ i. e i ++ f i) ∙ sym (map-append (use_of_type types) ws vs)

mutual
  names_of_type : (types : List Binder) (u : TypeTree) → AreTypeUses types (mentions_of_type types u) (type_names u)
  names_of_type types (type_tree s n) = names_of_node types n

  names_of_node : (types : List Binder) (n : TypeNode) → AreTypeUses types (mentions_of_type_node types n) (type_names_in n)
  names_of_node types (tree.named (word x s)) = refl
  names_of_node types (tree.arrow a b) = both_used types (mentions_of_type types a) (mentions_of_type types b) (type_names a) (type_names b) (names_of_type types a) (names_of_type types b)
  names_of_node types (tree.record_type fs) = names_of_fields types fs
  names_of_node types n = refl

  names_of_fields : (types : List Binder) (fs : TypeFields) → AreTypeUses types (mentions_of_type_fields types fs) (type_names_in_fields fs)
  names_of_fields types tree.no_type_fields = refl
  names_of_fields types (tree.type_field (word l s) t fs) =
      both_used types (mentions_of_type types t) (mentions_of_type_fields types fs) (type_names t) (type_names_in_fields fs) (names_of_type types t) (names_of_fields types fs)

-- the uses of type names in terms and in commands: those of their written types

abbrev AreUsesOf : List Binder → List Mention → List TypeTree → Type 0
AreUsesOf types ms us = AreTypeUses types ms (flat_map type_names us)

both_written : (types : List Binder) (ms ns : List Mention) (us vs : List TypeTree) → AreUsesOf types ms us → AreUsesOf types ns vs → AreUsesOf types (ms ++ ns) (us ++ vs)
both_written types ms ns us vs e f =
    both_used types ms ns (flat_map type_names us) (flat_map type_names vs) e f ∙ ap (map (use_of_type types)) (sym (flat_map-append type_names us vs))

type_written : (types : List Binder) (u : TypeTree) → AreUsesOf types (mentions_of_type types u) (u ∷ [])
type_written types u = names_of_type types u ∙ ap (map (use_of_type types)) (sym (append-nil (type_names u)))

binder_written : (types : List Binder) (b : Bound) → AreUsesOf types (mention_of b) []
binder_written types (bound None s) = refl
binder_written types (bound (Some x) s) = refl

label_written : (types : List Binder) (ms : List Mention) (s : Span) (us : List TypeTree) → AreUsesOf types ms us → AreUsesOf types (ms ++ labels_at s ∷ []) us
label_written types ms s us e = filter_map-append type_use_in ms (labels_at s ∷ []) ∙ append-nil (filter_map type_use_in ms) ∙ e

mutual
  term_written : (types names : List Binder) (t : TermTree) → AreUsesOf types (mentions_of types names t) (written_in t)
  term_written types names (term_tree s n) = node_written types names n

  node_written : (types names : List Binder) (n : TermNode) → AreUsesOf types (mentions_of_node types names n) (written_in_node n)
  node_written types names (tree.variable (word x s)) = refl
  node_written types names (tree.lambda b u t) =
      both_written types (mention_of b ++ mentions_of_type types u) (mentions_of types (seen_of b ∷ names) t) (u ∷ []) (written_in t)
      (both_written types (mention_of b) (mentions_of_type types u) [] (u ∷ []) (binder_written types b) (type_written types u))
      (term_written types (seen_of b ∷ names) t)
  node_written types names (tree.if_term c t u) =
      both_written types (mentions_of types names c ++ mentions_of types names t) (mentions_of types names u) (written_in c ++ written_in t) (written_in u)
      (both_written types (mentions_of types names c) (mentions_of types names t) (written_in c) (written_in t) (term_written types names c) (term_written types names t))
      (term_written types names u)
  node_written types names (tree.let_term b t u) =
      both_written types (mention_of b ++ mentions_of types names t) (mentions_of types (seen_of b ∷ names) u) (written_in t) (written_in u)
      (both_written types (mention_of b) (mentions_of types names t) [] (written_in t) (binder_written types b) (term_written types names t))
      (term_written types (seen_of b ∷ names) u)
  node_written types names (tree.letrec_term b w t u) =
      let inner = seen_of b ∷ names in
      both_written types (mention_of b ++ mentions_of_type types w ++ mentions_of types inner t) (mentions_of types inner u) (w ∷ written_in t) (written_in u)
      (both_written types (mention_of b ++ mentions_of_type types w) (mentions_of types inner t) (w ∷ []) (written_in t)
      (both_written types (mention_of b) (mentions_of_type types w) [] (w ∷ []) (binder_written types b) (type_written types w))
      (term_written types inner t))
      (term_written types inner u)
  node_written types names (tree.prefixed p t) = term_written types names t
  node_written types names (tree.apply t u) =
      both_written types (mentions_of types names t) (mentions_of types names u) (written_in t) (written_in u) (term_written types names t) (term_written types names u)
  node_written types names (tree.project t (word l s)) = label_written types (mentions_of types names t) s (written_in t) (term_written types names t)
  node_written types names (tree.ascribe t u) =
      both_written types (mentions_of types names t) (mentions_of_type types u) (written_in t) (u ∷ []) (term_written types names t) (type_written types u)
  node_written types names (tree.record_term fs) = fields_written types names fs
  node_written types names n = refl

  fields_written : (types names : List Binder) (fs : tree.FieldTrees) → AreUsesOf types (mentions_of_fields types names fs) (written_in_fields fs)
  fields_written types names tree.no_fields = refl
  fields_written types names (tree.field (word l s) t fs) =
      both_written types (mentions_of types names t) (mentions_of_fields types names fs) (written_in t) (written_in_fields fs) (term_written types names t) (fields_written types names fs)

command_written : (types names : List Binder) (c : CommandTree) → AreTypeUses types (mentions_of_command types names c) (type_names_in_command c)
command_written types names (definition (word x s) t) = term_written types names t
command_written types names (declaration (word x s) u) = type_written types u
command_written types names (tree.abbreviation (word x s) u) = type_written types u
command_written types names (evaluation t) = term_written types names t

-- a type name that a command uses is mentioned there

in_command : (types names : List Binder) (c : CommandTree) (x : Name) (s : Span) → Contains (type_names_in_command c) (word x s) → Contains (mentions_of_command types names c) (uses_at kind.TypeName s (token_bound_to x types))
in_command types names c x s h =
    used_in (mentions_of_command types names c) (uses_at kind.TypeName s (token_bound_to x types))
    (subst (λ ms. Contains ms (uses_at kind.TypeName s (token_bound_to x types))) (sym (command_written types names c)) (mapped_in (use_of_type types) (type_names_in_command c) (word x s) h))

in_document : (types names : List Binder) (before : List CommandTree) (c : CommandTree) (after : List CommandTree) (x : Name) (s : Span) → Contains (type_names_in_command c) (word x s)
    → Contains (mentions_from types names (before ++ c ∷ after)) (uses_at kind.TypeName s (token_bound_to x (fold types_behind types before)))
in_document types names [] c after x s h =
    Contains-append_left (mentions_of_command types names c) (mentions_from (types_behind types c) (names_behind names c) after) (uses_at kind.TypeName s (token_bound_to x types)) (in_command types names c x s h)
in_document types names (d ∷ before) c after x s h =
    Contains-append_right (mentions_of_command types names d) (mentions_from (types_behind types d) (names_behind names d) (before ++ c ∷ after)) (uses_at kind.TypeName s (token_bound_to x (fold types_behind (types_behind types d) before)))
    (in_document (types_behind types d) (names_behind names d) before c after x s h)

-- what a mention is bound to is what is bound at its first byte, where the mentions stand one behind the other

bound_there : (low high : ℕ) (ms : List Mention) (m : Mention) → Ascend low ms high → Contains ms m → (low ≤ (token_of m).start) × (bound_at (token_of m).start ms ≡ binder_of m)
bound_there low high [] m ascend h = absurd (nothing_in m h)
bound_there low high (a ∷ ms) m ascend h =
    ⊎_elim
    (λ (same : a ≡ m).
    subst (λ z. (low ≤ (token_of z).start) × (bound_at (token_of z).start (a ∷ ms) ≡ binder_of z)) same
    (ascend.0, ap (λ b. if b then binder_of a else bound_at (token_of a).start ms) (same_number (token_of a).start (token_of a).start refl)))
    (λ (rest : Contains ms m).
    let first = ascend.0 in
    let some = ascend.1 in
    let there = bound_there (token_of a).end high ms m ascend.2 rest in
    let behind = there.0 in
    (omega arith, ap (λ b. if b then binder_of a else bound_at (token_of m).start ms) (other_number (token_of a).start (token_of m).start (λ e. absurd (omega arith))) ∙ there.1))
    (first_or_later a m ms h)

-- the last abbreviation of a type name in commands, by its token and by what it stands for

-- there is one, behind commands that see these binders of type names and these abbreviations
record IsFound (types : List Binder) (bs : List Abbreviation) (cs : List CommandTree) (x : Name) : Type 0 where
  before : List CommandTree
  token : Span
  type : TypeTree
  after : List CommandTree
  commands : cs ≡ before ++ tree.abbreviation (word x token) type ∷ after
  is_last : AllByRecursion (IsNoAbbreviationOf x) after
  means : meaning x (fold abbreviations_after bs cs) ≡ expansion (fold abbreviations_after bs before) type
  binds_it : is_bound x (fold abbreviations_after bs cs) ≡ true
  is_told : token_bound_to x (fold types_behind types cs) ≡ Some token

-- there is none, so that the name stands for what it stood for before
record IsMissed (types : List Binder) (bs : List Abbreviation) (cs : List CommandTree) (x : Name) : Type 0 where
  none : AllByRecursion (IsNoAbbreviationOf x) cs
  means : meaning x (fold abbreviations_after bs cs) ≡ meaning x bs
  binds_it : is_bound x (fold abbreviations_after bs cs) ≡ is_bound x bs
  is_told : token_bound_to x (fold types_behind types cs) ≡ token_bound_to x types

one_before : (types : List Binder) (bs : List Abbreviation) (c : CommandTree) (cs : List CommandTree) (x : Name) → IsFound (types_behind types c) (abbreviations_after bs c) cs x → IsFound types bs (c ∷ cs) x
one_before types bs c cs x h = record {
  before = c ∷ h.before;
  token = h.token;
  type = h.type;
  after = h.after;
  commands = ap (λ ds. c ∷ ds) h.commands;
  is_last = h.is_last;
  means = h.means;
  binds_it = h.binds_it;
  is_told = h.is_told;
}

is_first : (types : List Binder) (bs : List Abbreviation) (y : Name) (s : Span) (u : TypeTree) (cs : List CommandTree) (x : Name) → bytes_eq y x ≡ true
    → IsMissed (types_behind types (tree.abbreviation (word y s) u)) (abbreviations_after bs (tree.abbreviation (word y s) u)) cs x → IsFound types bs (tree.abbreviation (word y s) u ∷ cs) x
is_first types bs y s u cs x is h = record {
  before = [];
  token = s;
  type = u;
  after = cs;
  commands = ap (λ z. tree.abbreviation (word z s) u ∷ cs) ((bytes_eq-Decides y x).0 is);
  is_last = h.none;
  means = h.means ∙ ap (λ b. if b then expansion bs u else meaning x bs) is;
  binds_it = h.binds_it ∙ ap (λ b. if b then true else is_bound x bs) is;
  is_told = h.is_told ∙ ap (λ b. if b then Some s else token_bound_to x types) is;
}

other_name : (y x : Name) → bytes_eq y x ≡ false → y ≢ x
other_name y x is e = let same = (bytes_eq-Decides y x).1 e in let wrong : true ≡ false = sym same ∙ is in cc

is_other : (types : List Binder) (bs : List Abbreviation) (y : Name) (s : Span) (u : TypeTree) (cs : List CommandTree) (x : Name) → bytes_eq y x ≡ false
    → IsMissed (types_behind types (tree.abbreviation (word y s) u)) (abbreviations_after bs (tree.abbreviation (word y s) u)) cs x → IsMissed types bs (tree.abbreviation (word y s) u ∷ cs) x
is_other types bs y s u cs x is h = record {
  none = (other_name y x is, h.none);
  means = h.means ∙ ap (λ b. if b then expansion bs u else meaning x bs) is;
  binds_it = h.binds_it ∙ ap (λ b. if b then true else is_bound x bs) is;
  is_told = h.is_told ∙ ap (λ b. if b then Some s else token_bound_to x types) is;
}

either : (types : List Binder) (bs : List Abbreviation) (y : Name) (s : Span) (u : TypeTree) (cs : List CommandTree) (x : Name) (here : Bool) → bytes_eq y x ≡ here
    → IsMissed (types_behind types (tree.abbreviation (word y s) u)) (abbreviations_after bs (tree.abbreviation (word y s) u)) cs x
    → IsFound types bs (tree.abbreviation (word y s) u ∷ cs) x ⊎ IsMissed types bs (tree.abbreviation (word y s) u ∷ cs) x
either types bs y s u cs x true is h = inl (is_first types bs y s u cs x is h)
either types bs y s u cs x false is h = inr (is_other types bs y s u cs x is h)

one_missed : (types : List Binder) (bs : List Abbreviation) (c : CommandTree) (cs : List CommandTree) (x : Name) → IsMissed (types_behind types c) (abbreviations_after bs c) cs x
    → IsFound types bs (c ∷ cs) x ⊎ IsMissed types bs (c ∷ cs) x
one_missed types bs (tree.abbreviation (word y s) u) cs x h = either types bs y s u cs x (bytes_eq y x) refl h
one_missed types bs (definition (word y s) t) cs x h = inr (record { none = (tt, h.none); means = h.means; binds_it = h.binds_it; is_told = h.is_told })
one_missed types bs (declaration (word y s) u) cs x h = inr (record { none = (tt, h.none); means = h.means; binds_it = h.binds_it; is_told = h.is_told })
one_missed types bs (evaluation t) cs x h = inr (record { none = (tt, h.none); means = h.means; binds_it = h.binds_it; is_told = h.is_told })

found_or_missed : (types : List Binder) (bs : List Abbreviation) (cs : List CommandTree) (x : Name) → IsFound types bs cs x ⊎ IsMissed types bs cs x
found_or_missed types bs [] x = inr (record { none = tt; means = refl; binds_it = refl; is_told = refl })
found_or_missed types bs (c ∷ cs) x =
    ⊎_elim
    (λ (found : IsFound (types_behind types c) (abbreviations_after bs c) cs x). inl (one_before types bs c cs x found))
    (λ (missed : IsMissed (types_behind types c) (abbreviations_after bs c) cs x). one_missed types bs c cs x missed)
    (found_or_missed (types_behind types c) (abbreviations_after bs c) cs x)

-- what the table tells of a type name

told_there : (cs before : List CommandTree) (x : Name) (s : Span) (high : ℕ) → Ascend 0 (mentions cs) high → IsTypeNameIn cs before x s
    → Told (table cs).binders (binder_at (table cs) s.start) (token_bound_to x (fold types_behind [] before))
told_there cs before x s high ascend used =
    let m = uses_at kind.TypeName s (token_bound_to x (fold types_behind [] before)) in
    let there = subst (λ ds. Contains (mentions ds) m) (sym used.document) (in_document [] [] before used.command used.after x s used.is_used) in
    subst (Told (table cs).binders (binder_at (table cs) s.start)) (bound_there 0 high (mentions cs) m ascend there).1 (all_told cs high s.start ascend)

told_token : (bs : List TextBinder) (a : Option ℕ) (b : Option Span) (n : ℕ) (token : Span) → Told bs a b → a ≡ Some n → b ≡ Some token → token ≡ (binder_in bs n).token
told_token bs (Some m) (Some s) n token h is told =
    let number : m ≡ n = cc in
    let same : s ≡ token = cc in
    sym same ∙ sym h.0 ∙ ap (λ k. (binder_in bs k).token) number
told_token bs None b n token h is told = absurd cc
told_token bs (Some m) None n token h is told = absurd h

some_told : (bs : List TextBinder) (a : Option ℕ) (b : Option Span) (token : Span) → Told bs a b → b ≡ Some token → is_some a ≡ true
some_told bs (Some m) b token h told = refl
some_told bs None None token h told = absurd cc
some_told bs None (Some s) token h told = absurd h

none_told : (bs : List TextBinder) (a : Option ℕ) (b : Option Span) → Told bs a b → b ≡ None → is_some a ≡ false
none_told bs None b h none = refl
none_told bs (Some m) None h none = absurd h
none_told bs (Some m) (Some s) h none = absurd cc

none_is : (a : Option ℕ) (n : ℕ) → a ≡ Some n → is_some a ≡ false → ⊥
none_is a n is none = let wrong : true ≡ false = sym (ap is_some is) ∙ none in cc

some_is : (a : Option ℕ) → a ≡ None → is_some a ≡ true → ⊥
some_is a is some = let wrong : false ≡ true = sym (ap is_some is) ∙ some in cc

pub told_bound : (cs before : List CommandTree) (x : Name) (s : Span) (high n : ℕ) → Ascend 0 (mentions cs) high → IsTypeNameIn cs before x s → binder_at (table cs) s.start ≡ Some n
    → IsLastAbbreviation before x (binder_numbered (table cs) n).token (meant_after before x s)
told_bound cs before x s high n ascend used is =
    let bs = (table cs).binders in
    let told = told_there cs before x s high ascend used in
    ⊎_elim
    (λ (found : IsFound [] [] before x).
    let same : found.token ≡ (binder_in bs n).token = told_token bs (binder_at (table cs) s.start) (token_bound_to x (fold types_behind [] before)) n found.token told is found.is_told in
    record {
      before = found.before;
      written = found.type;
      after = found.after;
      commands = found.commands ∙ ap (λ r. found.before ++ tree.abbreviation (word x r) found.type ∷ found.after) same;
      is_last = found.is_last;
      is_meant = found.means;
    })
    (λ (missed : IsMissed [] [] before x). absurd (none_is (binder_at (table cs) s.start) n is (none_told bs (binder_at (table cs) s.start) (token_bound_to x (fold types_behind [] before)) told missed.is_told)))
    (found_or_missed [] [] before x)

pub told_unbound : (cs before : List CommandTree) (x : Name) (s : Span) (high : ℕ) → Ascend 0 (mentions cs) high → IsTypeNameIn cs before x s → binder_at (table cs) s.start ≡ None
    → IsNotAbbreviated before x (meant_after before x s)
told_unbound cs before x s high ascend used is =
    let bs = (table cs).binders in
    let told = told_there cs before x s high ascend used in
    ⊎_elim
    (λ (found : IsFound [] [] before x).
    absurd (some_is (binder_at (table cs) s.start) is (some_told bs (binder_at (table cs) s.start) (token_bound_to x (fold types_behind [] before)) found.token told found.is_told)))
    (λ (missed : IsMissed [] [] before x). record { none = missed.none; is_meant = missed.means })
    (found_or_missed [] [] before x)

pub told_as_bound : (cs before : List CommandTree) (x : Name) (s : Span) (high : ℕ) → Ascend 0 (mentions cs) high → IsTypeNameIn cs before x s
    → is_bound x (abbreviations_seen_after before) ≡ is_some (binder_at (table cs) s.start)
told_as_bound cs before x s high ascend used =
    let bs = (table cs).binders in
    let told = told_there cs before x s high ascend used in
    let types = fold types_behind [] before in
    ⊎_elim
    (λ (found : IsFound [] [] before x). found.binds_it ∙ sym (some_told bs (binder_at (table cs) s.start) (token_bound_to x types) found.token told found.is_told))
    (λ (missed : IsMissed [] [] before x). missed.binds_it ∙ sym (none_told bs (binder_at (table cs) s.start) (token_bound_to x types) told missed.is_told))
    (found_or_missed [] [] before x)

-- a command states what it does under the abbreviations in scope after the commands before it

stated_from : (bs : List Abbreviation) (xs : List (Option Name)) (before : List CommandTree) (c : CommandTree) (after : List CommandTree)
    → statement_numbered (statements bs xs (before ++ c ∷ after)) (length before) ≡ statement (fold abbreviations_after bs before) (fold names_after xs before) c
stated_from bs xs [] c after = refl
stated_from bs xs (d ∷ before) c after = stated_from (abbreviations_after bs d) (names_after xs d) before c after

pub stated_after : (before after : List CommandTree) (c : CommandTree)
    → statement_numbered (statements [] [] (before ++ c ∷ after)) (length before) ≡ statement (abbreviations_seen_after before) (binders_seen_after before) c
stated_after before after c = stated_from [] [] before c after
