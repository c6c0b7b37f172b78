-- The table of a document has as many places as its nameless form.
use Rattle.std.proofs.Common.{◌≡◌, ℕ, ◌+◌, List, [], ◌∷◌, ◌++◌, length, length-append, refl, ap, sym, ◌∙◌, arith, Option, Some, None, true, false}
use Rattle.lam_rules.specs.Terms.{Term, true_term, false_term, if_then_else, numeral, succ, pred, is_zero, variable, free, lambda, apply, unit_term, ascribe, let_in, record_term, project, fix, TermFields, no_terms, term_field}
use Rattle.lam_syntax.specs.declared.terms.Prefix.{Prefix}
use Rattle.lam_syntax.specs.declared.terms.Prefix.TheVariants as prefix
use Rattle.lam_syntax.specs.Trees as tree
use Rattle.lam_syntax.specs.Trees.{word, bound, TypeTree, type_tree, TypeNode, bool, nat, unit, top, named, arrow, record_type, TypeFields, no_type_fields, type_field, TermTree, term_tree, TermNode, CommandTree, definition, declaration, evaluation, term_span}
use Rattle.lam_scope.specs.declared.numbers.Origin.TheVariants.{Declaration, TypeName}
use Rattle.lam_scope.specs.declared.rows.Rows.{Rows}
use Rattle.lam_scope.specs.Names.{Name, index_of}
use Rattle.lam_scope.specs.Expansions.{Abbreviation, expansion}
use Rattle.lam_scope.specs.Nameless.{use_indexed, prefixed, nameless, nameless_node, nameless_fields, statements, abbreviations_after, names_after}
use Rattle.lam_scope.specs.Places.{written, of_term, Scope, places, field_places, places_of}
use Rattle.lam_scope.specs.TableViews.{rows_of, terms_start, text_place}
use Rattle.lam_scope.specs.Sights.{inside, inside_fields, lambda_at, term_at}
use Rattle.lam_scope.specs.Tables.{Table, ◌⊕◌, Entry, entry, binder_row, place_row, root, behind, roots, below, below_node, below_fields, binders_in, type_uses, node_uses, field_uses, term_table, node_table, fields_table, command_table, commands_table, table, types_seen_after, names_seen_after, binders_in_command, places_in_command}
use Rattle.lam_scope.proofs.Slices.{sliced-length}

-- of tables behind one another

pub places-plus : (s t : Table) (a b : ℕ) → length s.places ≡ a → length t.places ≡ b → length (s ⊕ t).places ≡ a + b
unfolding ◌⊕◌
places-plus s t a b e f = length-append s.places t.places ∙ (λ i. e i + f i)

-- of what stands in the text

mutual
  pub type_places : (types : List Entry) (u : TypeTree) → length (type_uses types u).places ≡ 0
  type_places types (type_tree s n) = node_of_type types n

  node_of_type : (types : List Entry) (n : TypeNode) → length (node_uses types n).places ≡ 0
  node_of_type types bool = refl
  node_of_type types nat = refl
  node_of_type types unit = refl
  node_of_type types top = refl
  node_of_type types (named (word x s)) = refl
  node_of_type types (arrow a b) = places-plus (type_uses types a) (type_uses types b) 0 0 (type_places types a) (type_places types b)
  node_of_type types (record_type fs) = fields_of_type types fs

  fields_of_type : (types : List Entry) (fs : TypeFields) → length (field_uses types fs).places ≡ 0
  fields_of_type types no_type_fields = refl
  fields_of_type types (type_field l t fs) = places-plus (type_uses types t) (field_uses types fs) 0 0 (type_places types t) (fields_of_type types fs)

mutual
  term_places : (types names : List Entry) (n k : ℕ) (t : TermTree) → length (term_table types names n k t).places ≡ below t + 1
  term_places types names n k (term_tree s node) = places-plus (node_table types names n k node) (place_row s false (roots k node) names) (below_node node) 1 (node_places types names n k node) refl

  node_places : (types names : List Entry) (n k : ℕ) (node : TermNode) → length (node_table types names n k node).places ≡ below_node node
  node_places types names n k tree.true_term = refl
  node_places types names n k tree.false_term = refl
  node_places types names n k tree.unit_term = refl
  node_places types names n k (tree.variable (word x r)) = refl
  node_places types names n k (tree.numeral w) = refl
  node_places types names n k (tree.lambda (bound b r) u t) =
      let whole = places-plus (binder_row b r names n (lambda_at (behind k t)) ⊕ type_uses types u) (term_table types (entry b n n ∷ names) (n + 1) k t) (0 + 0) (below t + 1)
      (places-plus (binder_row b r names n (lambda_at (behind k t))) (type_uses types u) 0 0 refl (type_places types u)) (term_places types (entry b n n ∷ names) (n + 1) k t) in
      omega arith
  node_places types names n k (tree.if_term c t u) =
      let second = n + binders_in c in
      let third = n + binders_in c + binders_in t in
      let whole = places-plus (term_table types names n k c ⊕ term_table types names second (behind k c) t) (term_table types names third (behind (behind k c) t) u) (below c + 1 + (below t + 1)) (below u + 1)
      (places-plus (term_table types names n k c) (term_table types names second (behind k c) t) (below c + 1) (below t + 1) (term_places types names n k c) (term_places types names second (behind k c) t))
      (term_places types names third (behind (behind k c) t) u) in
      omega arith
  node_places types names n k (tree.let_term (bound b r) t u) =
      let whole = places-plus (binder_row b r names n (term_at (root k t)) ⊕ term_table types names (n + 1) k t) (term_table types (entry b n n ∷ names) (n + 1 + binders_in t) (behind k t) u) (0 + (below t + 1)) (below u + 1)
      (places-plus (binder_row b r names n (term_at (root k t))) (term_table types names (n + 1) k t) 0 (below t + 1) refl (term_places types names (n + 1) k t))
      (term_places types (entry b n n ∷ names) (n + 1 + binders_in t) (behind k t) u) in
      omega arith
  node_places types names n k (tree.letrec_term (bound b r) w t u) =
      let first = term_table types (entry b n (n + 1) ∷ names) (n + 2) k t in
      let one = binder_row b r names (n + 1) (lambda_at (root k t + 1)) in
      let two = binder_row b r names (n + 1) (term_at (root k t + 2)) in
      let function = place_row (term_span t) true (root k t ∷ []) names in
      let fixed = place_row (term_span t) true ((root k t + 1) ∷ []) names in
      let body = term_table types (entry b (n + 1) (n + 1) ∷ names) (n + 2 + binders_in t) (root k t + 3) u in
      let whole = places-plus (one ⊕ two ⊕ type_uses types w ⊕ first ⊕ function ⊕ fixed) body (0 + 0 + 0 + (below t + 1) + 1 + 1) (below u + 1)
      (places-plus (one ⊕ two ⊕ type_uses types w ⊕ first ⊕ function) fixed (0 + 0 + 0 + (below t + 1) + 1) 1
      (places-plus (one ⊕ two ⊕ type_uses types w ⊕ first) function (0 + 0 + 0 + (below t + 1)) 1
      (places-plus (one ⊕ two ⊕ type_uses types w) first (0 + 0 + 0) (below t + 1)
      (places-plus (one ⊕ two) (type_uses types w) (0 + 0) 0 (places-plus one two 0 0 refl refl) (type_places types w))
      (term_places types (entry b n (n + 1) ∷ names) (n + 2) k t)) refl) refl)
      (term_places types (entry b (n + 1) (n + 1) ∷ names) (n + 2 + binders_in t) (root k t + 3) u) in
      omega arith
  node_places types names n k (tree.prefixed p t) = term_places types names n k t
  node_places types names n k (tree.apply t u) =
      let whole = places-plus (term_table types names n k t) (term_table types names (n + binders_in t) (behind k t) u) (below t + 1) (below u + 1)
      (term_places types names n k t) (term_places types names (n + binders_in t) (behind k t) u) in
      omega arith
  node_places types names n k (tree.project t l) = term_places types names n k t
  node_places types names n k (tree.ascribe t u) =
      let whole = places-plus (term_table types names n k t) (type_uses types u) (below t + 1) 0 (term_places types names n k t) (type_places types u) in
      omega arith
  node_places types names n k (tree.record_term fs) = fields_places types names n k fs

  fields_places : (types names : List Entry) (n k : ℕ) (fs : tree.FieldTrees) → length (fields_table types names n k fs).places ≡ below_fields fs
  fields_places types names n k tree.no_fields = refl
  fields_places types names n k (tree.field l t fs) =
      places-plus (term_table types names n k t) (fields_table types names (n + binders_in t) (behind k t) fs) (below t + 1) (below_fields fs)
      (term_places types names n k t) (fields_places types names (n + binders_in t) (behind k t) fs)

-- of the nameless form

use_inside : (x : Name) (o : Option ℕ) → inside (use_indexed x o) ≡ 0
use_inside x None = refl
use_inside x (Some n) = refl

prefixed_inside : (p : Prefix) (e : Term) → inside (prefixed p e) ≡ inside e + 1
prefixed_inside prefix.Fix e = refl
prefixed_inside prefix.Succ e = refl
prefixed_inside prefix.Pred e = refl
prefixed_inside prefix.IsZero e = refl

mutual
  pub inside-nameless : (bs : List Abbreviation) (xs : List (Option Name)) (t : TermTree) → inside (nameless bs xs t) ≡ below t
  inside-nameless bs xs (term_tree s n) = inside-node bs xs n

  inside-node : (bs : List Abbreviation) (xs : List (Option Name)) (n : TermNode) → inside (nameless_node bs xs n) ≡ below_node n
  inside-node bs xs tree.true_term = refl
  inside-node bs xs tree.false_term = refl
  inside-node bs xs tree.unit_term = refl
  inside-node bs xs (tree.variable (word x s)) = use_inside x (index_of x xs)
  inside-node bs xs (tree.numeral (word x s)) = refl
  inside-node bs xs (tree.lambda (bound b s) u t) = ap (λ m. m + 1) (inside-nameless bs (b ∷ xs) t)
  inside-node bs xs (tree.if_term c t u) = λ i. inside-nameless bs xs c i + 1 + inside-nameless bs xs t i + 1 + inside-nameless bs xs u i + 1
  inside-node bs xs (tree.let_term (bound b s) t u) = λ i. inside-nameless bs xs t i + 1 + inside-nameless bs (b ∷ xs) u i + 1
  inside-node bs xs (tree.letrec_term (bound b s) w t u) =
      let first = inside-nameless bs (b ∷ xs) t in
      let second = inside-nameless bs (b ∷ xs) u in
      omega arith
  inside-node bs xs (tree.prefixed p t) = prefixed_inside p (nameless bs xs t) ∙ ap (λ m. m + 1) (inside-nameless bs xs t)
  inside-node bs xs (tree.apply t u) = λ i. inside-nameless bs xs t i + 1 + inside-nameless bs xs u i + 1
  inside-node bs xs (tree.project t (word l s)) = ap (λ m. m + 1) (inside-nameless bs xs t)
  inside-node bs xs (tree.ascribe t u) = ap (λ m. m + 1) (inside-nameless bs xs t)
  inside-node bs xs (tree.record_term fs) = inside-fields bs xs fs

  inside-fields : (bs : List Abbreviation) (xs : List (Option Name)) (fs : tree.FieldTrees) → inside_fields (nameless_fields bs xs fs) ≡ below_fields fs
  inside-fields bs xs tree.no_fields = refl
  inside-fields bs xs (tree.field (word l s) t fs) = λ i. inside-nameless bs xs t i + 1 + inside-fields bs xs fs i

-- of its places

pub length-joined : {X : Type 0} (xs ys : List X) (a b : ℕ) → length xs ≡ a → length ys ≡ b → length (xs ++ ys) ≡ a + b
length-joined xs ys a b e f = length-append xs ys ∙ (λ i. e i + f i)

mutual
  pub places-length : (s : Scope) (e : Term) → length (places s e) ≡ inside e + 1
  places-length s (if_then_else c a b) =
      let whole = length-joined (places s c ++ places s a ++ places s b) (record { scope = s; here = if_then_else c a b } ∷ []) (inside c + 1 + (inside a + 1) + (inside b + 1)) 1
      (length-joined (places s c ++ places s a) (places s b) (inside c + 1 + (inside a + 1)) (inside b + 1) (length-joined (places s c) (places s a) (inside c + 1) (inside a + 1) (places-length s c) (places-length s a)) (places-length s b)) refl in
      omega arith
  places-length s (succ e) = length-joined (places s e) (record { scope = s; here = succ e } ∷ []) (inside e + 1) 1 (places-length s e) refl
  places-length s (pred e) = length-joined (places s e) (record { scope = s; here = pred e } ∷ []) (inside e + 1) 1 (places-length s e) refl
  places-length s (is_zero e) = length-joined (places s e) (record { scope = s; here = is_zero e } ∷ []) (inside e + 1) 1 (places-length s e) refl
  places-length s (lambda w e) = length-joined (places (written w ∷ s) e) (record { scope = s; here = lambda w e } ∷ []) (inside e + 1) 1 (places-length (written w ∷ s) e) refl
  places-length s (apply f a) =
      let whole = length-joined (places s f ++ places s a) (record { scope = s; here = apply f a } ∷ []) (inside f + 1 + (inside a + 1)) 1
      (length-joined (places s f) (places s a) (inside f + 1) (inside a + 1) (places-length s f) (places-length s a)) refl in
      omega arith
  places-length s (ascribe e w) = length-joined (places s e) (record { scope = s; here = ascribe e w } ∷ []) (inside e + 1) 1 (places-length s e) refl
  places-length s (let_in a b) =
      let whole = length-joined (places s a ++ places (of_term a ∷ s) b) (record { scope = s; here = let_in a b } ∷ []) (inside a + 1 + (inside b + 1)) 1
      (length-joined (places s a) (places (of_term a ∷ s) b) (inside a + 1) (inside b + 1) (places-length s a) (places-length (of_term a ∷ s) b)) refl in
      omega arith
  places-length s (record_term es) = length-joined (field_places s es) (record { scope = s; here = record_term es } ∷ []) (inside_fields es) 1 (places_in-length s es) refl
  places-length s (project e l) = length-joined (places s e) (record { scope = s; here = project e l } ∷ []) (inside e + 1) 1 (places-length s e) refl
  places-length s (fix e) = length-joined (places s e) (record { scope = s; here = fix e } ∷ []) (inside e + 1) 1 (places-length s e) refl
  places-length s true_term = refl
  places-length s false_term = refl
  places-length s unit_term = refl
  places-length s (numeral d) = refl
  places-length s (variable n) = refl
  places-length s (free x) = refl

  places_in-length : (s : Scope) (es : TermFields) → length (field_places s es) ≡ inside_fields es
  places_in-length s no_terms = refl
  places_in-length s (term_field l e es) = length-joined (places s e) (field_places s es) (inside e + 1) (inside_fields es) (places-length s e) (places_in-length s es)

-- of the commands, one by one

of_statement : (s : Scope) (bs : List Abbreviation) (xs : List (Option Name)) (t : TermTree) → length (places s (nameless bs xs t)) ≡ below t + 1
of_statement s bs xs t = places-length s (nameless bs xs t) ∙ ap (λ m. m + 1) (inside-nameless bs xs t)

same_places : (types names : List Entry) (n k i : ℕ) (s : Scope) (bs : List Abbreviation) (xs : List (Option Name)) (cs : List CommandTree)
    → length (commands_table types names n k i cs).places ≡ length (places_of s (statements bs xs cs))
same_places types names n k i s bs xs [] = refl
same_places types names n k i s bs xs (definition (word x r) t ∷ cs) =
    let c = definition (word x r) t in
    let e = nameless bs xs t in
    let rest = same_places (types_seen_after n types c) (names_seen_after n names c) (n + binders_in_command c) (k + places_in_command c) (i + 1) (of_term e ∷ s) (abbreviations_after bs c) (names_after xs c) cs in
    places-plus (command_table types names n k i c) (commands_table (types_seen_after n types c) (names_seen_after n names c) (n + binders_in_command c) (k + places_in_command c) (i + 1) cs) (0 + (below t + 1)) _
    (places-plus (binder_row (Some x) r names n (term_at (root k t))) (term_table types names (n + 1) k t) 0 (below t + 1) refl (term_places types names (n + 1) k t)) rest
    ∙ (let whole = length-joined (places s e) (places_of (of_term e ∷ s) (statements (abbreviations_after bs c) (names_after xs c) cs)) (below t + 1) _ (of_statement s bs xs t) refl in omega arith)
same_places types names n k i s bs xs (declaration (word x r) u ∷ cs) =
    let c = declaration (word x r) u in
    let rest = same_places (types_seen_after n types c) (names_seen_after n names c) (n + binders_in_command c) (k + places_in_command c) (i + 1) (written (expansion bs u) ∷ s) (abbreviations_after bs c) (names_after xs c) cs in
    places-plus (command_table types names n k i c) (commands_table (types_seen_after n types c) (names_seen_after n names c) (n + binders_in_command c) (k + places_in_command c) (i + 1) cs) (0 + 0) _
    (places-plus (binder_row (Some x) r names n (Declaration i)) (type_uses types u) 0 0 refl (type_places types u)) rest
    ∙ omega arith
same_places types names n k i s bs xs (tree.abbreviation (word x r) u ∷ cs) =
    let c = tree.abbreviation (word x r) u in
    let rest = same_places (types_seen_after n types c) (names_seen_after n names c) (n + binders_in_command c) (k + places_in_command c) (i + 1) s (abbreviations_after bs c) (names_after xs c) cs in
    places-plus (command_table types names n k i c) (commands_table (types_seen_after n types c) (names_seen_after n names c) (n + binders_in_command c) (k + places_in_command c) (i + 1) cs) (0 + 0) _
    (places-plus (binder_row (Some x) r types n TypeName) (type_uses types u) 0 0 refl (type_places types u)) rest
    ∙ omega arith
same_places types names n k i s bs xs (evaluation t ∷ cs) =
    let c = evaluation t in
    let e = nameless bs xs t in
    let rest = same_places (types_seen_after n types c) (names_seen_after n names c) (n + binders_in_command c) (k + places_in_command c) (i + 1) s (abbreviations_after bs c) (names_after xs c) cs in
    places-plus (command_table types names n k i c) (commands_table (types_seen_after n types c) (names_seen_after n names c) (n + binders_in_command c) (k + places_in_command c) (i + 1) cs) (below t + 1) _
    (term_places types names n k t) rest
    ∙ (let whole = length-joined (places s e) (places_of s (statements (abbreviations_after bs c) (names_after xs c) cs)) (below t + 1) _ (of_statement s bs xs t) refl in omega arith)

pub as_many_places : (cs : List CommandTree) → length (places_of [] (statements [] [] cs)) ≡ length (table cs).places
as_many_places cs = sym (same_places [] [] 0 0 0 [] [] [] cs)

pub rows_counted : (r : Rows) (cs : List CommandTree) → rows_of r ≡ table cs → length r.places.items ≡ length (places_of [] (statements [] [] cs))
rows_counted r cs same = sym (sliced-length terms_start text_place r.terms.items r.places.items) ∙ ap (λ t. length t.places) same ∙ sym (as_many_places cs)
