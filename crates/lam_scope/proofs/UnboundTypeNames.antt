-- A type name gets a diagnostic, as unbound, exactly if the table has no binder for it.
use Rattle.std.proofs.Common.{◌≡◌, ⊎_elim, ℕ, List, [], ◌∷◌, ◌++◌, refl, ap, sym, ◌∙◌, subst, Bool, true, false, Option, Some, None}
use Rattle.std.specs.Prelude.{◌↔◌, if◌then◌else◌, Contains, fold, flat_map}
use Rattle.std.specs.List.{cons_option, filter_map}
use Rattle.std.specs.Option.{is_some}
use Rattle.std.proofs.lemmas.List.Elements.{filter_map-append, Contains-append_left, Contains-append_right, Contains-append_cases}
use Rattle.lam_token.specs.declared.span.Span.{Span}
use Rattle.lam_syntax.specs.Trees as tree
use Rattle.lam_syntax.specs.Trees.{Word, word, TypeTree, type_tree, TypeNode, TypeFields, joined_types, CommandTree}
use Rattle.lam_scope.specs.declared.type_fault.TypeFault.{TypeFault}
use Rattle.lam_scope.specs.declared.type_fault.TypeFault.TheVariants.{UnboundTypeName, RepeatedLabel}
use Rattle.lam_scope.specs.Names.{Name}
use Rattle.lam_scope.specs.Expansions.{Abbreviation, is_bound, has_label, label_fault, type_faults, node_faults, field_faults}
use Rattle.lam_scope.specs.Mentions.{mentions, Ascend}
use Rattle.lam_scope.specs.Nameless.{abbreviations_after, written_in_command, faults_in, faults}
use Rattle.lam_scope.specs.Tables.{table, binder_at}
use Rattle.lam_scope.specs.TypeNames.{type_names, type_names_in, type_names_in_fields, type_names_in_command, IsTypeNameIn, abbreviations_seen_after}
use Rattle.lam_scope.proofs.Contained.{nothing_in, filtered_in, filtered_from}
use Rattle.lam_scope.proofs.ToldAbbreviations.{told_as_bound}

-- the tokens of the unbound type names: among faults, and among type names that see these abbreviations

abbrev fault_token : TypeFault → Option Span
fault_token (UnboundTypeName s) = Some s
fault_token (RepeatedLabel s) = None

abbrev unbound_token : List Abbreviation → Word → Option Span
unbound_token bs (word x s) = if is_bound x bs then None else Some s

abbrev SameTokens : List Abbreviation → List TypeFault → List Word → Type 0
SameTokens bs fs ws = filter_map fault_token fs ≡ filter_map (unbound_token bs) ws

both_tokens : (bs : List Abbreviation) (fs gs : List TypeFault) (ws vs : List Word) → SameTokens bs fs ws → SameTokens bs gs vs → SameTokens bs (fs ++ gs) (ws ++ vs)
both_tokens bs fs gs ws vs e f = filter_map-append fault_token fs gs ∙ (λ i. e i ++ f i) ∙ sym (filter_map-append (unbound_token bs) ws vs)

one_token : (here : Bool) (s : Span) → filter_map fault_token (if here then [] else UnboundTypeName s ∷ []) ≡ cons_option (if here then None else Some s) []
one_token true s = refl
one_token false s = refl

no_token : (here : Bool) (s : Span) → filter_map fault_token (if here then RepeatedLabel s ∷ [] else []) ≡ []
no_token true s = refl
no_token false s = refl

mutual
  type_tokens : (bs : List Abbreviation) (u : TypeTree) → SameTokens bs (type_faults bs u) (type_names u)
  type_tokens bs (type_tree s n) = node_tokens bs n

  node_tokens : (bs : List Abbreviation) (n : TypeNode) → SameTokens bs (node_faults bs n) (type_names_in n)
  node_tokens bs (tree.named (word x s)) = one_token (is_bound x bs) s
  node_tokens bs (tree.arrow a b) = both_tokens bs (type_faults bs a) (type_faults bs b) (type_names a) (type_names b) (type_tokens bs a) (type_tokens bs b)
  node_tokens bs (tree.record_type fs) = field_tokens bs tree.no_type_fields fs
  node_tokens bs n = refl

  field_tokens : (bs : List Abbreviation) (earlier fs : TypeFields) → SameTokens bs (field_faults bs earlier fs) (type_names_in_fields fs)
  field_tokens bs earlier tree.no_type_fields = refl
  field_tokens bs earlier (tree.type_field (word l s) t rest) =
      let more = joined_types earlier (tree.type_field (word l s) t tree.no_type_fields) in
      both_tokens bs (label_fault (word l s) earlier ++ type_faults bs t) (field_faults bs more rest) (type_names t) (type_names_in_fields rest)
      (both_tokens bs (label_fault (word l s) earlier) (type_faults bs t) [] (type_names t) (no_token (has_label l earlier) s) (type_tokens bs t))
      (field_tokens bs more rest)

tokens_in : (bs : List Abbreviation) (us : List TypeTree) → SameTokens bs (faults_in bs us) (flat_map type_names us)
tokens_in bs [] = refl
tokens_in bs (u ∷ us) = both_tokens bs (type_faults bs u) (faults_in bs us) (type_names u) (flat_map type_names us) (type_tokens bs u) (tokens_in bs us)

-- the faults of one command

fault_of : (f : TypeFault) (s : Span) → fault_token f ≡ Some s → f ≡ UnboundTypeName s
fault_of (UnboundTypeName r) s e = cc
fault_of (RepeatedLabel r) s e = absurd cc

unbound_word : (bs : List Abbreviation) (x : Name) (r s : Span) (here : Bool) → is_bound x bs ≡ here → (if here then None else Some r) ≡ Some s → (here ≡ false) × (r ≡ s)
unbound_word bs x r s true is e = absurd cc
unbound_word bs x r s false is e = (refl, cc)

faulted_in : (bs : List Abbreviation) (c : CommandTree) (x : Name) (s : Span) → Contains (type_names_in_command c) (word x s) → is_bound x bs ≡ false → Contains (faults_in bs (written_in_command c)) (UnboundTypeName s)
faulted_in bs c x s h is =
    let us = written_in_command c in
    let token = filtered_in (unbound_token bs) (flat_map type_names us) (word x s) s h (ap (λ b. if b then None else Some s) is) in
    let there = filtered_from fault_token (faults_in bs us) s (subst (λ ss. Contains ss s) (sym (tokens_in bs us)) token) in
    subst (λ f. Contains (faults_in bs us) f) (fault_of there.0 s there.2) there.1

-- a type name is unbound there
abbrev HasUnbound : List Abbreviation → CommandTree → Span → Type 0
HasUnbound bs c s = (x : Name) × Contains (type_names_in_command c) (word x s) × (is_bound x bs ≡ false)

word_unbound : (bs : List Abbreviation) (c : CommandTree) (s : Span) (w : Word) → Contains (type_names_in_command c) w → unbound_token bs w ≡ Some s → HasUnbound bs c s
word_unbound bs c s (word x r) h e =
    let both = unbound_word bs x r s (is_bound x bs) refl e in
    (x, subst (λ t. Contains (type_names_in_command c) (word x t)) both.1 h, both.0)

unbound_in : (bs : List Abbreviation) (c : CommandTree) (s : Span) → Contains (faults_in bs (written_in_command c)) (UnboundTypeName s) → HasUnbound bs c s
unbound_in bs c s h =
    let us = written_in_command c in
    let token = filtered_in fault_token (faults_in bs us) (UnboundTypeName s) s h refl in
    let there = filtered_from (unbound_token bs) (flat_map type_names us) s (subst (λ ss. Contains ss s) (tokens_in bs us) token) in
    word_unbound bs c s there.0 there.1 there.2

-- the faults of a document

faulted_after : (bs : List Abbreviation) (before : List CommandTree) (c : CommandTree) (after : List CommandTree) (f : TypeFault) → Contains (faults_in (fold abbreviations_after bs before) (written_in_command c)) f
    → Contains (faults bs (before ++ c ∷ after)) f
faulted_after bs [] c after f h = Contains-append_left (faults_in bs (written_in_command c)) (faults (abbreviations_after bs c) after) f h
faulted_after bs (d ∷ before) c after f h =
    Contains-append_right (faults_in bs (written_in_command d)) (faults (abbreviations_after bs d) (before ++ c ∷ after)) f (faulted_after (abbreviations_after bs d) before c after f h)

-- a fault of commands, and the command that has it
record IsFaultOf (bs : List Abbreviation) (cs : List CommandTree) (f : TypeFault) : Type 0 where
  before : List CommandTree
  command : CommandTree
  after : List CommandTree
  commands : cs ≡ before ++ command ∷ after
  there : Contains (faults_in (fold abbreviations_after bs before) (written_in_command command)) f

fault_found : (bs : List Abbreviation) (cs : List CommandTree) (f : TypeFault) → Contains (faults bs cs) f → IsFaultOf bs cs f
fault_found bs [] f h = absurd (nothing_in f h)
fault_found bs (c ∷ cs) f h =
    ⊎_elim
    (λ (here : Contains (faults_in bs (written_in_command c)) f). record { before = []; command = c; after = cs; commands = refl; there = here })
    (λ (later : Contains (faults (abbreviations_after bs c) cs) f).
    let rest = fault_found (abbreviations_after bs c) cs f later in
    record { before = c ∷ rest.before; command = rest.command; after = rest.after; commands = ap (λ ds. c ∷ ds) rest.commands; there = rest.there })
    (Contains-append_cases (faults_in bs (written_in_command c)) (faults (abbreviations_after bs c) cs) f h)

none_there : (a : Option ℕ) → false ≡ is_some a → a ≡ None
none_there None e = refl
none_there (Some n) e = absurd cc

pub fault_told : (cs before : List CommandTree) (x : Name) (s : Span) (high : ℕ) → Ascend 0 (mentions cs) high → IsTypeNameIn cs before x s
    → (Contains (faults [] cs) (UnboundTypeName s) ↔ (binder_at (table cs) s.start ≡ None))
fault_told cs before x s high ascend used = (
  (λ h.
      let fault = fault_found [] cs (UnboundTypeName s) h in
      let unbound = unbound_in (abbreviations_seen_after fault.before) fault.command s fault.there in
      let there : IsTypeNameIn cs fault.before unbound.0 s = record { command = fault.command; after = fault.after; document = fault.commands; is_used = unbound.1 } in
      none_there (binder_at (table cs) s.start) (sym unbound.2 ∙ told_as_bound cs fault.before unbound.0 s high ascend there)),
  (λ none.
      let is = told_as_bound cs before x s high ascend used ∙ ap is_some none in
      subst (λ ds. Contains (faults [] ds) (UnboundTypeName s)) (sym used.document)
      (faulted_after [] before used.command used.after (UnboundTypeName s) (faulted_in (abbreviations_seen_after before) used.command x s used.is_used is))),
)
