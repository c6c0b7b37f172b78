-- What holds of each place in a tree holds of the token of each mention in it, labels among them, and of each binder's.
use Rattle.std.proofs.Common.{◌≡◌, ℕ, List, [], ◌∷◌, ◌++◌, Bool, true, false, cond, Option, Some, None, subst}
use Rattle.std.specs.Prelude.{◌==◌}
use Rattle.std.specs.List.{AllByRecursion, cons_option}
use Rattle.lam_token.specs.declared.span.Span.{Span}
use Rattle.lam_token.specs.Edits.{is_span}
use Rattle.lam_syntax.specs.Trees.{word, Bound, bound, TypeTree, type_tree, TypeNode, bool, nat, unit, top, named, arrow, record_type, TypeFields, no_type_fields, type_field, TermTree, term_tree, TermNode, true_term, false_term, unit_term, variable, numeral, lambda, if_term, let_term, letrec_term, prefixed, apply, project, ascribe, record_term, FieldTrees, no_fields, field, CommandTree, definition, declaration, abbreviation, evaluation}
use Rattle.lam_scope.specs.Names.{Name, binds}
use Rattle.lam_scope.specs.Mentions.{Binder, seen_of, token_bound_to, Mention, uses_at, labels_at, token_of, binder_of, mention_of, mentions_of_type, mentions_of_type_node, mentions_of_type_fields, mentions_of, mentions_of_node, mentions_of_fields, mentions_of_command, types_behind, names_behind, mentions_from, mentions, bound_at, use_bound_to, uses_of}
use Rattle.lam_scope.proofs.EveryElement.{every_append}
use Rattle.lam_query.proofs.TreePlaces.{InBound, InType, InTypeNode, InTypeFields, InTerm, InNode, InFields, InCommand, InCommands}

-- Q holds of the tokens of mentions and of those of their binders; and of those of the binders that are seen.

abbrev InToken : (Span → Type 0) → Option Span → Type 0
InToken Q None = Unit {0}
InToken Q (Some s) = Q s

abbrev InMention : (Span → Type 0) → Mention → Type 0
InMention Q m = Q (token_of m) × InToken Q (binder_of m)

abbrev InMentions : (Span → Type 0) → List Mention → Type 0
InMentions Q = AllByRecursion (InMention Q)

abbrev InBinders : (Span → Type 0) → List Binder → Type 0
InBinders Q [] = Unit {0}
InBinders Q (b ∷ bs) = Q b.token × InBinders Q bs

in_one_of : (Q : Span → Type 0) (b : Bool) (s t : Option Span) → InToken Q s → InToken Q t → InToken Q (cond b s t)
in_one_of Q true s t h k = h
in_one_of Q false s t h k = k

in_bound_to : (Q : Span → Type 0) (x : Name) (bs : List Binder) → InBinders Q bs → InToken Q (token_bound_to x bs)
in_bound_to Q x [] h = tt
in_bound_to Q x (b ∷ bs) h = in_one_of Q (binds b.name x) (Some b.token) (token_bound_to x bs) h.0 (in_bound_to Q x bs h.1)

in_mention : (Q : Span → Type 0) (b : Bound) → InBound Q b → InMentions Q (mention_of b)
in_mention Q (bound None s) h = tt
in_mention Q (bound (Some x) s) h = ((h, h), tt)

in_seen : (Q : Span → Type 0) (b : Bound) (bs : List Binder) → InBound Q b → InBinders Q bs → InBinders Q (seen_of b ∷ bs)
in_seen Q (bound x s) bs h k = (h, k)

-- the mentions of trees

mutual
  in_type : (Q : Span → Type 0) (types : List Binder) (u : TypeTree) → InBinders Q types → InType Q u → InMentions Q (mentions_of_type types u)
  in_type Q types (type_tree s n) seen h = in_type_node Q types n seen h.1

  in_type_node : (Q : Span → Type 0) (types : List Binder) (n : TypeNode) → InBinders Q types → InTypeNode Q n → InMentions Q (mentions_of_type_node types n)
  in_type_node Q types bool seen h = tt
  in_type_node Q types nat seen h = tt
  in_type_node Q types unit seen h = tt
  in_type_node Q types top seen h = tt
  in_type_node Q types (named (word x s)) seen h = ((h, in_bound_to Q x types seen), tt)
  in_type_node Q types (arrow a b) seen h = every_append (InMention Q) (mentions_of_type types a) (mentions_of_type types b) (in_type Q types a seen h.0) (in_type Q types b seen h.1)
  in_type_node Q types (record_type fs) seen h = in_type_fields Q types fs seen h

  in_type_fields : (Q : Span → Type 0) (types : List Binder) (fs : TypeFields) → InBinders Q types → InTypeFields Q fs → InMentions Q (mentions_of_type_fields types fs)
  in_type_fields Q types no_type_fields seen h = tt
  in_type_fields Q types (type_field (word l s) t fs) seen h =
      ((h.0, tt), every_append (InMention Q) (mentions_of_type types t) (mentions_of_type_fields types fs) (in_type Q types t seen h.1) (in_type_fields Q types fs seen h.2))

mutual
  in_term : (Q : Span → Type 0) (types names : List Binder) (t : TermTree) → InBinders Q types → InBinders Q names → InTerm Q t → InMentions Q (mentions_of types names t)
  in_term Q types names (term_tree s n) seen seen_names h = in_node Q types names n seen seen_names h.1

  in_node : (Q : Span → Type 0) (types names : List Binder) (n : TermNode) → InBinders Q types → InBinders Q names → InNode Q n → InMentions Q (mentions_of_node types names n)
  in_node Q types names true_term seen seen_names h = tt
  in_node Q types names false_term seen seen_names h = tt
  in_node Q types names unit_term seen seen_names h = tt
  in_node Q types names (numeral w) seen seen_names h = tt
  in_node Q types names (variable (word x s)) seen seen_names h = ((h, in_bound_to Q x names seen_names), tt)
  in_node Q types names (lambda b u t) seen seen_names h =
      every_append (InMention Q) (mention_of b ++ mentions_of_type types u) (mentions_of types (seen_of b ∷ names) t)
      (every_append (InMention Q) (mention_of b) (mentions_of_type types u) (in_mention Q b h.0) (in_type Q types u seen h.1))
      (in_term Q types (seen_of b ∷ names) t seen (in_seen Q b names h.0 seen_names) h.2)
  in_node Q types names (if_term c t u) seen seen_names h =
      every_append (InMention Q) (mentions_of types names c ++ mentions_of types names t) (mentions_of types names u)
      (every_append (InMention Q) (mentions_of types names c) (mentions_of types names t) (in_term Q types names c seen seen_names h.0) (in_term Q types names t seen seen_names h.1))
      (in_term Q types names u seen seen_names h.2)
  in_node Q types names (let_term b t u) seen seen_names h =
      every_append (InMention Q) (mention_of b ++ mentions_of types names t) (mentions_of types (seen_of b ∷ names) u)
      (every_append (InMention Q) (mention_of b) (mentions_of types names t) (in_mention Q b h.0) (in_term Q types names t seen seen_names h.1))
      (in_term Q types (seen_of b ∷ names) u seen (in_seen Q b names h.0 seen_names) h.2)
  in_node Q types names (letrec_term b w t u) seen seen_names h =
      let names_inside = seen_of b ∷ names in
      let seen_inside : InBinders Q (seen_of b ∷ names) = in_seen Q b names h.0 seen_names in
      every_append (InMention Q) (mention_of b ++ mentions_of_type types w ++ mentions_of types names_inside t) (mentions_of types names_inside u)
      (every_append (InMention Q) (mention_of b ++ mentions_of_type types w) (mentions_of types names_inside t)
      (every_append (InMention Q) (mention_of b) (mentions_of_type types w) (in_mention Q b h.0) (in_type Q types w seen h.1)) (in_term Q types names_inside t seen seen_inside h.2))
      (in_term Q types names_inside u seen seen_inside h.3)
  in_node Q types names (prefixed p t) seen seen_names h = in_term Q types names t seen seen_names h
  in_node Q types names (apply t u) seen seen_names h = every_append (InMention Q) (mentions_of types names t) (mentions_of types names u) (in_term Q types names t seen seen_names h.0) (in_term Q types names u seen seen_names h.1)
  in_node Q types names (project t (word l s)) seen seen_names h = every_append (InMention Q) (mentions_of types names t) (labels_at s ∷ []) (in_term Q types names t seen seen_names h.0) ((h.1, tt), tt)
  in_node Q types names (ascribe t u) seen seen_names h = every_append (InMention Q) (mentions_of types names t) (mentions_of_type types u) (in_term Q types names t seen seen_names h.0) (in_type Q types u seen h.1)
  in_node Q types names (record_term fs) seen seen_names h = in_fields Q types names fs seen seen_names h

  in_fields : (Q : Span → Type 0) (types names : List Binder) (fs : FieldTrees) → InBinders Q types → InBinders Q names → InFields Q fs → InMentions Q (mentions_of_fields types names fs)
  in_fields Q types names no_fields seen seen_names h = tt
  in_fields Q types names (field (word l s) t fs) seen seen_names h =
      ((h.0, tt), every_append (InMention Q) (mentions_of types names t) (mentions_of_fields types names fs) (in_term Q types names t seen seen_names h.1) (in_fields Q types names fs seen seen_names h.2))

-- the mentions of commands

in_command : (Q : Span → Type 0) (types names : List Binder) (c : CommandTree) → InBinders Q types → InBinders Q names → InCommand Q c → InMentions Q (mentions_of_command types names c)
in_command Q types names (definition (word x s) t) seen seen_names h = ((h.0, h.0), in_term Q types names t seen seen_names h.1)
in_command Q types names (declaration (word x s) u) seen seen_names h = ((h.0, h.0), in_type Q types u seen h.1)
in_command Q types names (abbreviation (word x s) u) seen seen_names h = ((h.0, h.0), in_type Q types u seen h.1)
in_command Q types names (evaluation t) seen seen_names h = in_term Q types names t seen seen_names h

types_in : (Q : Span → Type 0) (types : List Binder) (c : CommandTree) → InBinders Q types → InCommand Q c → InBinders Q (types_behind types c)
types_in Q types (definition (word x s) t) seen h = seen
types_in Q types (declaration (word x s) u) seen h = seen
types_in Q types (abbreviation (word x s) u) seen h = (h.0, seen)
types_in Q types (evaluation t) seen h = seen

names_in : (Q : Span → Type 0) (names : List Binder) (c : CommandTree) → InBinders Q names → InCommand Q c → InBinders Q (names_behind names c)
names_in Q names (definition (word x s) t) seen h = (h.0, seen)
names_in Q names (declaration (word x s) u) seen h = (h.0, seen)
names_in Q names (abbreviation (word x s) u) seen h = seen
names_in Q names (evaluation t) seen h = seen

in_mentions : (Q : Span → Type 0) (types names : List Binder) (cs : List CommandTree) → InBinders Q types → InBinders Q names → InCommands Q cs → InMentions Q (mentions_from types names cs)
in_mentions Q types names [] seen seen_names h = tt
in_mentions Q types names (c ∷ cs) seen seen_names h =
    let types_then = types_behind types c in
    let names_then = names_behind names c in
    every_append (InMention Q) (mentions_of_command types names c) (mentions_from types_then names_then cs) (in_command Q types names c seen seen_names h.0)
    (in_mentions Q types_then names_then cs (types_in Q types c seen h.0) (names_in Q names c seen_names h.0) h.1)

-- what is bound to what

in_told : (Q : Span → Type 0) (told : Option Span) (s : Span) → InToken Q told → told ≡ Some s → Q s
in_told Q told s h e = let claim : Option Span → Type 0 = InToken Q in subst claim e h

in_bound_at : (Q : Span → Type 0) (o : ℕ) (ms : List Mention) → InMentions Q ms → InToken Q (bound_at o ms)
in_bound_at Q o [] h = tt
in_bound_at Q o (m ∷ ms) h = in_one_of Q ((token_of m).start == o) (binder_of m) (bound_at o ms) h.0.1 (in_bound_at Q o ms h.1)

in_use : (Q : Span → Type 0) (b : Span) (m : Mention) → Q (token_of m) → InToken Q (use_bound_to b m)
in_use Q b (uses_at k s (Some c)) h = in_one_of Q (is_span b c) (Some s) None h tt
in_use Q b m h = tt

in_kept : (Q : Span → Type 0) (kept : Option Span) (ss : List Span) → InToken Q kept → AllByRecursion Q ss → AllByRecursion Q (cons_option kept ss)
in_kept Q None ss h k = k
in_kept Q (Some s) ss h k = (h, k)

in_uses : (Q : Span → Type 0) (b : Span) (ms : List Mention) → InMentions Q ms → AllByRecursion Q (uses_of b ms)
in_uses Q b [] h = tt
in_uses Q b (m ∷ ms) h = in_kept Q (use_bound_to b m) (uses_of b ms) (in_use Q b m h.0.0) (in_uses Q b ms h.1)

pub binder_in : (Q : Span → Type 0) (cs : List CommandTree) → InCommands Q cs → (o : ℕ) (s : Span) → bound_at o (mentions cs) ≡ Some s → Q s
binder_in Q cs h o s e = in_told Q (bound_at o (mentions cs)) s (in_bound_at Q o (mentions cs) (in_mentions Q [] [] cs tt tt h)) e

pub uses_in : (Q : Span → Type 0) (cs : List CommandTree) → InCommands Q cs → (b : Span) → AllByRecursion Q (uses_of b (mentions cs))
uses_in Q cs h b = in_uses Q b (mentions cs) (in_mentions Q [] [] cs tt tt h)
