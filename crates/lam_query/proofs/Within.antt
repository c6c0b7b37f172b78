-- The places of a document's table, and of its faults, are those in the trees of its commands.
use Rattle.std.proofs.Common.{◌≡◌, ℕ, zero, suc, ◌+◌, List, [], ◌∷◌, ◌++◌, get_or, Bool, true, false, if◌then◌else◌, Option, Some, None, refl}
use Rattle.std.specs.Option.{option_or}
use Rattle.std.specs.List.{AllByRecursion}
use Rattle.lam_token.specs.declared.span.Span.{Span}
use Rattle.lam_syntax.specs.Trees.{word, bound, TypeTree, type_tree, TypeNode, bool, nat, unit, top, named, arrow, record_type, TypeFields, no_type_fields, type_field, joined_types, TermTree, term_tree, TermNode, true_term, false_term, unit_term, variable, numeral, lambda, if_term, let_term, letrec_term, prefixed, apply, project, ascribe, record_term, FieldTrees, no_fields, field, CommandTree, definition, declaration, abbreviation, evaluation, type_span, term_span}
use Rattle.lam_scope.specs.Expansions.{Abbreviation, expansion, is_bound, has_label, label_fault, type_faults, node_faults, field_faults, is_over_limit}
use Rattle.lam_scope.specs.Nameless.{written_in, written_in_node, written_in_fields, written_in_command, faults_in, first_over_limit, faults, first_too_large, abbreviations_after}
use Rattle.lam_scope.specs.declared.type_fault.TypeFault.{TypeFault}
use Rattle.lam_scope.specs.declared.type_fault.TypeFault.TheVariants.{UnboundTypeName, RepeatedLabel}
use Rattle.lam_scope.specs.declared.numbers.Origin.TheVariants.{Declaration, TypeName}
use Rattle.lam_scope.specs.Names.{Name}
use Rattle.lam_scope.specs.Sights.{lambda_at, term_at}
use Rattle.lam_scope.specs.Tables.{Entry, entry, TextPlace, Table, ◌⊕◌, binder_row, place_row, letrec_rows, binders_in, root, behind, type_uses, node_uses, field_uses, term_table, node_table, fields_table, command_table, types_seen_after, names_seen_after, binders_in_command, places_in_command, commands_table, table, roots, no_span, place_row_numbered}
use Rattle.lam_scope.proofs.EveryElement.{every_append}
use Rattle.lam_query.proofs.TreePlaces.{InType, InTypeNode, InTypeFields, InTerm, InNode, InFields, InCommand, InCommands}
use Rattle.lam_query.proofs.Spans.{type_place, term_place}

-- the rows of a table

abbrev InRow : (Span → Type 0) → TextPlace → Type 0
InRow Q p = Q p.span

abbrev pub InRows : (Span → Type 0) → List TextPlace → Type 0
InRows Q = AllByRecursion (InRow Q)

in_tables : (Q : Span → Type 0) (a b : Table) → InRows Q a.places → InRows Q b.places → InRows Q (a ⊕ b).places
unfolding ◌⊕◌
in_tables Q a b p q = every_append (InRow Q) a.places b.places p q

-- written types have no places

two_empty : (a b : Table) → a.places ≡ [] → b.places ≡ [] → (a ⊕ b).places ≡ []
unfolding ◌⊕◌
two_empty a b p q = rw (p, q) refl

mutual
  no_type_rows : (types : List Entry) (u : TypeTree) → (type_uses types u).places ≡ []
  no_type_rows types (type_tree s n) = no_type_node_rows types n

  no_type_node_rows : (types : List Entry) (n : TypeNode) → (node_uses types n).places ≡ []
  no_type_node_rows types bool = refl
  no_type_node_rows types nat = refl
  no_type_node_rows types unit = refl
  no_type_node_rows types top = refl
  no_type_node_rows types (named (word x s)) = refl
  no_type_node_rows types (arrow a b) = two_empty (type_uses types a) (type_uses types b) (no_type_rows types a) (no_type_rows types b)
  no_type_node_rows types (record_type fs) = no_type_field_rows types fs

  no_type_field_rows : (types : List Entry) (fs : TypeFields) → (field_uses types fs).places ≡ []
  no_type_field_rows types no_type_fields = refl
  no_type_field_rows types (type_field l t fs) = two_empty (type_uses types t) (field_uses types fs) (no_type_rows types t) (no_type_field_rows types fs)

in_type_rows : (Q : Span → Type 0) (types : List Entry) (u : TypeTree) → InRows Q (type_uses types u).places
in_type_rows Q types u = rw (no_type_rows types u) tt

in_letrec_rows : (Q : Span → Type 0) (x : Option Name) (r : Span) (names : List Entry) (n p : ℕ) (s : Span) (u t : Table)
    → Q s → InRows Q u.places → InRows Q t.places → InRows Q (letrec_rows x r names n p s u t).places
in_letrec_rows Q x r names n p s u t place written inner =
    let lambda_binder = binder_row x r names (n + 1) (lambda_at (p + 1)) in
    let fix_binder = binder_row x r names (n + 1) (term_at (p + 2)) in
    let lambda_row = place_row s true (p ∷ []) names in
    let fix_row = place_row s true ((p + 1) ∷ []) names in
    in_tables Q (lambda_binder ⊕ fix_binder ⊕ u ⊕ t ⊕ lambda_row) fix_row
    (in_tables Q (lambda_binder ⊕ fix_binder ⊕ u ⊕ t) lambda_row
    (in_tables Q (lambda_binder ⊕ fix_binder ⊕ u) t
    (in_tables Q (lambda_binder ⊕ fix_binder) u (in_tables Q lambda_binder fix_binder tt tt) written)
    inner)
    (place, tt))
    (place, tt)

mutual
  in_term_rows : (Q : Span → Type 0) (types names : List Entry) (n k : ℕ) (t : TermTree) → InTerm Q t → InRows Q (term_table types names n k t).places
  in_term_rows Q types names n k (term_tree s node) h =
      in_tables Q (node_table types names n k node) (place_row s false (roots k node) names) (in_node_rows Q types names n k node h.1) (h.0, tt)

  in_node_rows : (Q : Span → Type 0) (types names : List Entry) (n k : ℕ) (node : TermNode) → InNode Q node → InRows Q (node_table types names n k node).places
  in_node_rows Q types names n k true_term h = tt
  in_node_rows Q types names n k false_term h = tt
  in_node_rows Q types names n k unit_term h = tt
  in_node_rows Q types names n k (variable (word x r)) h = tt
  in_node_rows Q types names n k (numeral (word x r)) h = tt
  in_node_rows Q types names n k (lambda (bound b r) u t) h =
      in_tables Q (binder_row b r names n (lambda_at (behind k t)) ⊕ type_uses types u) (term_table types (entry b n n ∷ names) (n + 1) k t)
      (in_tables Q (binder_row b r names n (lambda_at (behind k t))) (type_uses types u) tt (in_type_rows Q types u)) (in_term_rows Q types (entry b n n ∷ names) (n + 1) k t h.2)
  in_node_rows Q types names n k (if_term c t u) h =
      in_tables Q (term_table types names n k c ⊕ term_table types names (n + binders_in c) (behind k c) t)
      (term_table types names (n + binders_in c + binders_in t) (behind (behind k c) t) u)
      (in_tables Q (term_table types names n k c) (term_table types names (n + binders_in c) (behind k c) t)
      (in_term_rows Q types names n k c h.0) (in_term_rows Q types names (n + binders_in c) (behind k c) t h.1))
      (in_term_rows Q types names (n + binders_in c + binders_in t) (behind (behind k c) t) u h.2)
  in_node_rows Q types names n k (let_term (bound b r) t u) h =
      in_tables Q (binder_row b r names n (term_at (root k t)) ⊕ term_table types names (n + 1) k t)
      (term_table types (entry b n n ∷ names) (n + 1 + binders_in t) (behind k t) u)
      (in_tables Q (binder_row b r names n (term_at (root k t))) (term_table types names (n + 1) k t) tt (in_term_rows Q types names (n + 1) k t h.1))
      (in_term_rows Q types (entry b n n ∷ names) (n + 1 + binders_in t) (behind k t) u h.2)
  in_node_rows Q types names n k (letrec_term (bound b r) w t u) h =
      in_tables Q (letrec_rows b r names n (root k t) (term_span t) (type_uses types w) (term_table types (entry b n (n + 1) ∷ names) (n + 2) k t))
      (term_table types (entry b (n + 1) (n + 1) ∷ names) (n + 2 + binders_in t) (root k t + 3) u)
      (in_letrec_rows Q b r names n (root k t) (term_span t) (type_uses types w) (term_table types (entry b n (n + 1) ∷ names) (n + 2) k t)
      (term_place Q t h.2) (in_type_rows Q types w) (in_term_rows Q types (entry b n (n + 1) ∷ names) (n + 2) k t h.2))
      (in_term_rows Q types (entry b (n + 1) (n + 1) ∷ names) (n + 2 + binders_in t) (root k t + 3) u h.3)
  in_node_rows Q types names n k (prefixed p t) h = in_term_rows Q types names n k t h
  in_node_rows Q types names n k (apply t u) h =
      in_tables Q (term_table types names n k t) (term_table types names (n + binders_in t) (behind k t) u)
      (in_term_rows Q types names n k t h.0) (in_term_rows Q types names (n + binders_in t) (behind k t) u h.1)
  in_node_rows Q types names n k (project t l) h = in_term_rows Q types names n k t h.0
  in_node_rows Q types names n k (ascribe t u) h =
      in_tables Q (term_table types names n k t) (type_uses types u) (in_term_rows Q types names n k t h.0) (in_type_rows Q types u)
  in_node_rows Q types names n k (record_term fs) h = in_field_rows Q types names n k fs h

  in_field_rows : (Q : Span → Type 0) (types names : List Entry) (n k : ℕ) (fs : FieldTrees) → InFields Q fs → InRows Q (fields_table types names n k fs).places
  in_field_rows Q types names n k no_fields h = tt
  in_field_rows Q types names n k (field l t fs) h =
      in_tables Q (term_table types names n k t) (fields_table types names (n + binders_in t) (behind k t) fs)
      (in_term_rows Q types names n k t h.1) (in_field_rows Q types names (n + binders_in t) (behind k t) fs h.2)

in_command_rows : (Q : Span → Type 0) (types names : List Entry) (n k i : ℕ) (c : CommandTree) → InCommand Q c → InRows Q (command_table types names n k i c).places
in_command_rows Q types names n k i (definition (word x r) t) h =
    in_tables Q (binder_row (Some x) r names n (term_at (root k t))) (term_table types names (n + 1) k t) tt (in_term_rows Q types names (n + 1) k t h.1)
in_command_rows Q types names n k i (declaration (word x r) u) h = in_tables Q (binder_row (Some x) r names n (Declaration i)) (type_uses types u) tt (in_type_rows Q types u)
in_command_rows Q types names n k i (abbreviation (word x r) u) h = in_tables Q (binder_row (Some x) r types n TypeName) (type_uses types u) tt (in_type_rows Q types u)
in_command_rows Q types names n k i (evaluation t) h = in_term_rows Q types names n k t h

pub in_commands_rows : (Q : Span → Type 0) (types names : List Entry) (n k i : ℕ) (cs : List CommandTree) → InCommands Q cs → InRows Q (commands_table types names n k i cs).places
in_commands_rows Q types names n k i [] h = tt
in_commands_rows Q types names n k i (c ∷ cs) h =
    in_tables Q (command_table types names n k i c)
    (commands_table (types_seen_after n types c) (names_seen_after n names c) (n + binders_in_command c) (k + places_in_command c) (i + 1) cs)
    (in_command_rows Q types names n k i c h.0)
    (in_commands_rows Q (types_seen_after n types c) (names_seen_after n names c) (n + binders_in_command c) (k + places_in_command c) (i + 1) cs h.1)

in_row : (Q : Span → Type 0) (ps : List TextPlace) (n : ℕ) (d : TextPlace) → Q d.span → InRows Q ps → Q (get_or ps n d).span
in_row Q [] n d past h = past
in_row Q (p ∷ ps) zero d past h = h.0
in_row Q (p ∷ ps) (suc n) d past h = in_row Q ps n d past h.1

pub in_place : (Q : Span → Type 0) (cs : List CommandTree) → Q no_span → InCommands Q cs → (n : ℕ) → Q (place_row_numbered (table cs) n).span
in_place Q cs past h n = in_row Q (table cs).places n _ past (in_commands_rows Q [] [] 0 0 0 cs h)

-- the faults of written types

abbrev pub fault_span : TypeFault → Span
fault_span (UnboundTypeName s) = s
fault_span (RepeatedLabel s) = s

abbrev InFault : (Span → Type 0) → TypeFault → Type 0
InFault Q f = Q (fault_span f)

abbrev pub InFaults : (Span → Type 0) → List TypeFault → Type 0
InFaults Q = AllByRecursion (InFault Q)

in_either : (Q : Span → Type 0) (b : Bool) (xs ys : List TypeFault) → InFaults Q xs → InFaults Q ys → InFaults Q (if b then xs else ys)
in_either Q true xs ys p q = p
in_either Q false xs ys p q = q

mutual
  in_type_faults : (Q : Span → Type 0) (bs : List Abbreviation) (u : TypeTree) → InType Q u → InFaults Q (type_faults bs u)
  in_type_faults Q bs (type_tree s n) h = in_node_faults Q bs n h.1

  in_node_faults : (Q : Span → Type 0) (bs : List Abbreviation) (n : TypeNode) → InTypeNode Q n → InFaults Q (node_faults bs n)
  in_node_faults Q bs bool h = tt
  in_node_faults Q bs nat h = tt
  in_node_faults Q bs unit h = tt
  in_node_faults Q bs top h = tt
  in_node_faults Q bs (named (word x s)) h = in_either Q (is_bound x bs) [] (UnboundTypeName s ∷ []) tt (h, tt)
  in_node_faults Q bs (arrow a b) h = every_append (InFault Q) (type_faults bs a) (type_faults bs b) (in_type_faults Q bs a h.0) (in_type_faults Q bs b h.1)
  in_node_faults Q bs (record_type fs) h = in_field_faults Q bs no_type_fields fs h

  in_field_faults : (Q : Span → Type 0) (bs : List Abbreviation) (earlier fs : TypeFields) → InTypeFields Q fs → InFaults Q (field_faults bs earlier fs)
  in_field_faults Q bs earlier no_type_fields h = tt
  in_field_faults Q bs earlier (type_field (word l s) t rest) h =
      every_append (InFault Q) (label_fault (word l s) earlier ++ type_faults bs t) (field_faults bs (joined_types earlier (type_field (word l s) t no_type_fields)) rest)
      (every_append (InFault Q) (label_fault (word l s) earlier) (type_faults bs t) (in_either Q (has_label l earlier) (RepeatedLabel s ∷ []) [] (h.0, tt) tt) (in_type_faults Q bs t h.1))
      (in_field_faults Q bs (joined_types earlier (type_field (word l s) t no_type_fields)) rest h.2)

abbrev pub InTypes : (Span → Type 0) → List TypeTree → Type 0
InTypes Q = AllByRecursion (InType Q)

mutual
  in_written : (Q : Span → Type 0) (t : TermTree) → InTerm Q t → InTypes Q (written_in t)
  in_written Q (term_tree s n) h = in_written_node Q n h.1

  in_written_node : (Q : Span → Type 0) (n : TermNode) → InNode Q n → InTypes Q (written_in_node n)
  in_written_node Q true_term h = tt
  in_written_node Q false_term h = tt
  in_written_node Q unit_term h = tt
  in_written_node Q (variable x) h = tt
  in_written_node Q (numeral x) h = tt
  in_written_node Q (lambda b u t) h = (h.1, in_written Q t h.2)
  in_written_node Q (if_term c t u) h =
      every_append (InType Q) (written_in c ++ written_in t) (written_in u)
      (every_append (InType Q) (written_in c) (written_in t) (in_written Q c h.0) (in_written Q t h.1)) (in_written Q u h.2)
  in_written_node Q (let_term b t u) h = every_append (InType Q) (written_in t) (written_in u) (in_written Q t h.1) (in_written Q u h.2)
  in_written_node Q (letrec_term b w t u) h = (h.1, every_append (InType Q) (written_in t) (written_in u) (in_written Q t h.2) (in_written Q u h.3))
  in_written_node Q (prefixed p t) h = in_written Q t h
  in_written_node Q (apply t u) h = every_append (InType Q) (written_in t) (written_in u) (in_written Q t h.0) (in_written Q u h.1)
  in_written_node Q (project t l) h = in_written Q t h.0
  in_written_node Q (ascribe t u) h = every_append (InType Q) (written_in t) (u ∷ []) (in_written Q t h.0) (h.1, tt)
  in_written_node Q (record_term fs) h = in_written_fields Q fs h

  in_written_fields : (Q : Span → Type 0) (fs : FieldTrees) → InFields Q fs → InTypes Q (written_in_fields fs)
  in_written_fields Q no_fields h = tt
  in_written_fields Q (field l t fs) h = every_append (InType Q) (written_in t) (written_in_fields fs) (in_written Q t h.1) (in_written_fields Q fs h.2)

in_written_command : (Q : Span → Type 0) (c : CommandTree) → InCommand Q c → InTypes Q (written_in_command c)
in_written_command Q (definition x t) h = in_written Q t h.1
in_written_command Q (declaration x u) h = (h.1, tt)
in_written_command Q (abbreviation x u) h = (h.1, tt)
in_written_command Q (evaluation t) h = in_written Q t h

in_faults_in : (Q : Span → Type 0) (bs : List Abbreviation) (us : List TypeTree) → InTypes Q us → InFaults Q (faults_in bs us)
in_faults_in Q bs [] h = tt
in_faults_in Q bs (u ∷ us) h = every_append (InFault Q) (type_faults bs u) (faults_in bs us) (in_type_faults Q bs u h.0) (in_faults_in Q bs us h.1)

pub in_faults : (Q : Span → Type 0) (bs : List Abbreviation) (cs : List CommandTree) → InCommands Q cs → InFaults Q (faults bs cs)
in_faults Q bs [] h = tt
in_faults Q bs (c ∷ cs) h =
    every_append (InFault Q) (faults_in bs (written_in_command c)) (faults (abbreviations_after bs c) cs)
    (in_faults_in Q bs (written_in_command c) (in_written_command Q c h.0)) (in_faults Q (abbreviations_after bs c) cs h.1)

-- the first written type that is too large

abbrev pub InOption : (Span → Type 0) → Option Span → Type 0
InOption Q None = Unit {0}
InOption Q (Some s) = Q s

in_if_over : (Q : Span → Type 0) (b : Bool) (x y : Option Span) → InOption Q x → InOption Q y → InOption Q (if b then x else y)
in_if_over Q true x y p q = p
in_if_over Q false x y p q = q

in_first_over : (Q : Span → Type 0) (bs : List Abbreviation) (us : List TypeTree) → InTypes Q us → InOption Q (first_over_limit bs us)
in_first_over Q bs [] h = tt
in_first_over Q bs (u ∷ us) h =
    in_if_over Q (is_over_limit (expansion bs u)) (Some (type_span u)) (first_over_limit bs us) (type_place Q u h.0) (in_first_over Q bs us h.1)

in_one_or_other : (Q : Span → Type 0) (x y : Option Span) → InOption Q x → InOption Q y → InOption Q (option_or x y)
in_one_or_other Q None y p q = q
in_one_or_other Q (Some s) y p q = p

in_first : (Q : Span → Type 0) (bs : List Abbreviation) (cs : List CommandTree) → InCommands Q cs → InOption Q (first_too_large bs cs)
in_first Q bs [] h = tt
in_first Q bs (c ∷ cs) h =
    in_one_or_other Q (first_over_limit bs (written_in_command c)) (first_too_large (abbreviations_after bs c) cs)
    (in_first_over Q bs (written_in_command c) (in_written_command Q c h.0)) (in_first Q (abbreviations_after bs c) cs h.1)

pub in_too_large : (Q : Span → Type 0) (cs : List CommandTree) (s : Span) → first_too_large [] cs ≡ Some s → InCommands Q cs → Q s
in_too_large Q cs s e h = let k = in_first Q [] cs h in rw e at k
