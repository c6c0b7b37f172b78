-- A projection asks for a label of the term that comes just before it, whatever its commands see.
use Rattle.std.proofs.Common.{◌≡◌, ℕ, zero, suc, ◌<◌, arith, true, false, List, [], ◌∷◌, ◌++◌, length, refl, ap, sym, ◌∙◌, subst, Option, Some, None}
use Rattle.std.proofs.lemmas.List.{append-nil}
use Rattle.std.proofs.lemmas.List.Quantifiers.{position-Some}
use Rattle.lam_token.specs.declared.span.Span.{Span}
use Rattle.lam_rules.specs.Types.{Label}
use Rattle.lam_rules.specs.Terms.{project, fix}
use Rattle.lam_syntax.specs.Trees as tree
use Rattle.lam_syntax.specs.Trees.{word, bound, TermTree, term_tree, TermNode, CommandTree, definition, declaration, evaluation, term_span}
use Rattle.lam_scope.specs.Names.{Name}
use Rattle.lam_scope.specs.Expansions.{Abbreviation, expansion}
use Rattle.lam_scope.specs.Labels.{place_in}
use Rattle.lam_scope.specs.Nameless.{nameless, abbreviations_after, names_after}
use Rattle.lam_scope.specs.Places.{written, of_term, Scope}
use Rattle.lam_scope.specs.PlacedTerms.{OwnWord, no_word, name_at, label_at, PlacedTree, one_part, two_parts, placed_at, term_of, letrec_function, letrec_fix, placed_term, placed_parts, placed_fields, terms_in, terms_in_each, command_terms, scope_after, commands_terms, document_terms, tree_in, is_projection_at, projection_at}
use Rattle.lam_query.specs.inner.Listed.{IsProjection}

-- ---- terms one behind the other

-- if the term is a projection, it asks for a label of the one before it
abbrev Asks : Option PlacedTree → PlacedTree → Type 0
Asks before t =
    (s : Span) → (term_of t).own ≡ label_at s
    → (p : PlacedTree) × (l : Label) × (before ≡ Some p) × ((term_of t).place ≡ record { scope = (term_of p).place.scope; here = project (term_of p).place.here l })

-- each of these terms does, where the first comes behind `before`
abbrev AllAsk : Option PlacedTree → List PlacedTree → Type 0
AllAsk before [] = Unit {0}
AllAsk before (t ∷ ts) = Asks before t × AllAsk (Some t) ts

-- the term is no projection
abbrev IsNone : PlacedTree → Type 0
IsNone t = (s : Span) → (term_of t).own ≡ label_at s → ⊥

-- where the first is no projection, it may stand behind any term
behind_any : (before : Option PlacedTree) (ts : List PlacedTree) → AllAsk None ts → AllAsk before ts
behind_any before [] h = tt
behind_any before (t ∷ ts) h = (λ s is. let found = h.0 s is in let clash : None ≡ Some found.0 = found.2 in absurd cc, h.1)

both_ask : (before : Option PlacedTree) (ts us : List PlacedTree) → AllAsk before ts → AllAsk None us → AllAsk before (ts ++ us)
both_ask before [] us h k = behind_any before us k
both_ask before (t ∷ ts) us h k = (h.0, both_ask (Some t) ts us h.1 k)

-- the terms of one part
one_asks : (p : PlacedTree) → AllAsk None (terms_in p) → AllAsk None (terms_in_each (one_part p))
one_asks p h = both_ask None (terms_in p) [] h tt

-- a term behind its parts: another one, or a projection behind its only part

other_asks : (before : Option PlacedTree) (ts : List PlacedTree) (t : PlacedTree) → IsNone t → AllAsk before ts → AllAsk before (ts ++ t ∷ [])
other_asks before [] t none h = (λ s is. absurd (none s is), tt)
other_asks before (u ∷ ts) t none h = (h.0, other_asks (Some u) ts t none h.1)

last_asks : (before : Option PlacedTree) (ts : List PlacedTree) (p t : PlacedTree) → Asks (Some p) t → AllAsk before (ts ++ p ∷ []) → AllAsk before ((ts ++ p ∷ []) ++ t ∷ [])
last_asks before [] p t own h = (h.0, (own, tt))
last_asks before (u ∷ ts) p t own h = (h.0, last_asks (Some u) ts p t own h.1)

-- ---- the terms of a tree

no_own : (s : Span) → no_word ≡ label_at s → ⊥
no_own s is = absurd cc

-- a term behind its parts, of which each asks
own_asks : (bs : List Abbreviation) (xs : List (Option Name)) (s : Scope) (r : Span) (n : TermNode) → AllAsk None (terms_in_each (placed_parts bs xs s n))
    → AllAsk None (terms_in (placed_term bs xs s (term_tree r n)))
own_asks bs xs s r (tree.variable (word x q)) h = (λ v is. absurd cc, tt)
own_asks bs xs s r (tree.project (term_tree q m) (word l w)) h =
    let p = placed_term bs xs s (term_tree q m) in
    let t = placed_term bs xs s (term_tree r (tree.project (term_tree q m) (word l w))) in
    subst (λ ts. AllAsk None (ts ++ t ∷ [])) (sym (append-nil (terms_in p)))
    (last_asks None (terms_in_each (placed_parts bs xs s m)) p t (λ v is. (p, l, refl, refl)) (subst (AllAsk None) (append-nil (terms_in p)) h))
own_asks bs xs s r n h = other_asks None (terms_in_each (placed_parts bs xs s n)) (placed_term bs xs s (term_tree r n)) no_own h

mutual
  term_asks : (bs : List Abbreviation) (xs : List (Option Name)) (s : Scope) (t : TermTree) → AllAsk None (terms_in (placed_term bs xs s t))
  term_asks bs xs s (term_tree r n) = own_asks bs xs s r n (parts_ask bs xs s n)

  parts_ask : (bs : List Abbreviation) (xs : List (Option Name)) (s : Scope) (n : TermNode) → AllAsk None (terms_in_each (placed_parts bs xs s n))
  parts_ask bs xs s (tree.lambda (bound b q) u t) = one_asks (placed_term bs (b ∷ xs) (written (expansion bs u) ∷ s) t) (term_asks bs (b ∷ xs) (written (expansion bs u) ∷ s) t)
  parts_ask bs xs s (tree.if_term c t u) =
      both_ask None (terms_in (placed_term bs xs s c)) (terms_in_each (two_parts (placed_term bs xs s t) (placed_term bs xs s u))) (term_asks bs xs s c)
      (both_ask None (terms_in (placed_term bs xs s t)) (terms_in_each (one_part (placed_term bs xs s u))) (term_asks bs xs s t) (one_asks (placed_term bs xs s u) (term_asks bs xs s u)))
  parts_ask bs xs s (tree.let_term (bound b q) t u) =
      let body = placed_term bs (b ∷ xs) (of_term (nameless bs xs t) ∷ s) u in
      both_ask None (terms_in (placed_term bs xs s t)) (terms_in_each (one_part body)) (term_asks bs xs s t) (one_asks body (term_asks bs (b ∷ xs) (of_term (nameless bs xs t) ∷ s) u))
  parts_ask bs xs s (tree.letrec_term (bound b q) w t u) =
      let e = nameless bs (b ∷ xs) t in
      let first = placed_term bs (b ∷ xs) (written (expansion bs w) ∷ s) t in
      let function = placed_at (term_span t) no_word false xs s (letrec_function bs w e) (one_part first) in
      let whole = letrec_fix bs xs s w (term_span t) e first in
      let body = placed_term bs (b ∷ xs) (of_term (fix (letrec_function bs w e)) ∷ s) u in
      both_ask None (terms_in whole) (terms_in_each (one_part body))
      (other_asks None (terms_in_each (one_part function)) whole no_own
      (one_asks function (other_asks None (terms_in_each (one_part first)) function no_own (one_asks first (term_asks bs (b ∷ xs) (written (expansion bs w) ∷ s) t)))))
      (one_asks body (term_asks bs (b ∷ xs) (of_term (fix (letrec_function bs w e)) ∷ s) u))
  parts_ask bs xs s (tree.prefixed p t) = one_asks (placed_term bs xs s t) (term_asks bs xs s t)
  parts_ask bs xs s (tree.apply t u) =
      both_ask None (terms_in (placed_term bs xs s t)) (terms_in_each (one_part (placed_term bs xs s u))) (term_asks bs xs s t) (one_asks (placed_term bs xs s u) (term_asks bs xs s u))
  parts_ask bs xs s (tree.project t l) = one_asks (placed_term bs xs s t) (term_asks bs xs s t)
  parts_ask bs xs s (tree.ascribe t u) = one_asks (placed_term bs xs s t) (term_asks bs xs s t)
  parts_ask bs xs s (tree.record_term fs) = fields_ask bs xs s fs
  parts_ask bs xs s n = tt

  fields_ask : (bs : List Abbreviation) (xs : List (Option Name)) (s : Scope) (fs : tree.FieldTrees) → AllAsk None (terms_in_each (placed_fields bs xs s fs))
  fields_ask bs xs s tree.no_fields = tt
  fields_ask bs xs s (tree.field l t fs) =
      both_ask None (terms_in (placed_term bs xs s t)) (terms_in_each (placed_fields bs xs s fs)) (term_asks bs xs s t) (fields_ask bs xs s fs)

-- ---- the terms of commands

command_asks : (bs : List Abbreviation) (xs : List (Option Name)) (s : Scope) (c : CommandTree) → AllAsk None (command_terms bs xs s c)
command_asks bs xs s (definition w t) = term_asks bs xs s t
command_asks bs xs s (declaration w u) = tt
command_asks bs xs s (tree.abbreviation w u) = tt
command_asks bs xs s (evaluation t) = term_asks bs xs s t

commands_ask : (bs : List Abbreviation) (xs : List (Option Name)) (s : Scope) (cs : List CommandTree) → AllAsk None (commands_terms bs xs s cs)
commands_ask bs xs s [] = tt
commands_ask bs xs s (c ∷ cs) =
    both_ask None (command_terms bs xs s c) (commands_terms (abbreviations_after bs c) (names_after xs c) (scope_after bs xs s c) cs) (command_asks bs xs s c)
    (commands_ask (abbreviations_after bs c) (names_after xs c) (scope_after bs xs s c) cs)

-- ---- by numbers

-- the term before the one of a number
abbrev before_at : Option PlacedTree → List PlacedTree → ℕ → Option PlacedTree
before_at before ts zero = before
before_at before [] (suc n) = None
before_at before (t ∷ ts) (suc n) = before_at (Some t) ts n

asks_at : (before : Option PlacedTree) (ts : List PlacedTree) (n : ℕ) → n < length ts → AllAsk before ts → Asks (before_at before ts n) (tree_in ts n)
asks_at before [] n lt h = absurd (omega arith)
asks_at before (t ∷ ts) zero lt h = h.0
asks_at before (t ∷ ts) (suc n) lt h = asks_at (Some t) ts n (omega arith) h.1

before_told : (before : Option PlacedTree) (ts : List PlacedTree) (n : ℕ) → n < length ts → before_at before ts (suc n) ≡ Some (tree_in ts n)
before_told before [] n lt = absurd (omega arith)
before_told before (t ∷ ts) zero lt = refl
before_told before (t ∷ ts) (suc n) lt = before_told (Some t) ts n (omega arith)

-- a term whose own word is a label is a projection
pub projection_of : (cs : List CommandTree) (n : ℕ) (s : Span) → n < length (document_terms cs) → (term_of (tree_in (document_terms cs) n)).own ≡ label_at s → IsProjection cs n
projection_of cs zero s lt is =
    let found = asks_at None (document_terms cs) zero lt (commands_ask [] [] [] cs) s is in
    let clash : None ≡ Some found.0 = found.2 in
    absurd cc
projection_of cs (suc n) s lt is =
    let ts = document_terms cs in
    let found = asks_at None ts (suc n) lt (commands_ask [] [] [] cs) s is in
    let both : Some (tree_in ts n) ≡ Some found.0 = sym (before_told None ts n (omega arith)) ∙ found.2 in
    let same : found.0 ≡ tree_in ts n = cc in
    let place = found.3 ∙ ap (λ p. record { scope = (term_of p).place.scope; here = project (term_of p).place.here found.1 }) same in
    record {
      operand = (place_in cs n).here;
      label = found.1;
      asked = ap (λ p. p.here) place;
      before = n;
      is_next = refl;
      operand_there = λ i. record { scope = (sym place i).scope; here = (place_in cs n).here };
    }

pub label_told : (o : ℕ) (w : OwnWord) → is_projection_at o w ≡ true → (s : Span) × (w ≡ label_at s)
label_told o (label_at s) is = (s, refl)
label_told o (name_at s) is = absurd cc
label_told o no_word is = absurd cc

-- so is the one whose label begins at a byte
pub projection_told : (cs : List CommandTree) (o n : ℕ) → projection_at o cs ≡ Some n → IsProjection cs n
projection_told cs o n is =
    let ts = document_terms cs in
    let found = position-Some (λ t. is_projection_at o (term_of t).own) ts n (tree_in [] 0) is in
    let own = label_told o (term_of (tree_in ts n)).own found.1 in
    projection_of cs n own.0 found.0 own.1
