-- Each text has a list of faults, and one alone. Of each offset a type is shown or none, and a derivation is there exactly where a type is shown.
use Rattle.std.proofs.Common.{◌≡◌, ◌⊎◌, ℕ, suc, List, [], ◌∷◌, ◌++◌, map, Option, Some, None, refl, sym, ap, subst, ◌∙◌, inl, inr, length, reverse, arith}
use Rattle.std.proofs.lemmas.List.{length-map, length-reverse}
use Rattle.std.specs.Prelude.{codes}
use Rattle.std.specs.List.{filter_map}
use Rattle.std.specs.Str.{chars}
use Rattle.lam_rules.specs.Types.{Typ}
use Rattle.lam_rules.specs.Texts.{Text, text as text_of_type}
use Rattle.lam_rules.specs.Typing.{Context}
use Rattle.lam_rules.specs.declared.rules.Dialect.{Dialect}
use Rattle.lam_token.specs.declared.span.Span.{Span}
use Rattle.lam_token.specs.Lexeme.{Lexeme}
use Rattle.lam_token.specs.Cut.{AreTokensOf, tokens_of}
use Rattle.lam_token.proofs.Cuts.{one_list}
use Rattle.lam_token.proofs.SomeCut.{some_cut}
use Rattle.lam_syntax.specs.Trees.{CommandTree}
use Rattle.lam_syntax.specs.Answers.{pieces_of}
use Rattle.lam_scope.specs.Nameless.{faults}
use Rattle.lam_scope.specs.Places.{Binding, written, of_term, Scope}
use Rattle.lam_scope.specs.WellFormed.{IsWellFormedScope}
use Rattle.lam_scope.specs.Sights.{sight_numbered}
use Rattle.lam_scope.proofs.SeenOrigins.{visible_origins}
use Rattle.lam_scope.specs.Names.{shown_name}
use Rattle.lam_scope.specs.Tables.{table, binder_numbered, visible_at}
use Rattle.lam_scope.specs.PlacedTerms.{PlacedTree, term_of, document_terms, tree_in}
use Rattle.lam_typing.specs.LeastTypes.{IsLeastAt, IsLeastEntry, AreLeastEntries}
use Rattle.lam_typing.proofs.Derivations.{has_type}
use Rattle.lam_typing.proofs.LeastIn.{LeastContext, lowest, least_at, least_in}
use Rattle.lam_typing.proofs.WellFormedPlaces.{IsWellFormedPlace, wf_at}
use Rattle.lam_typing.proofs.Existing.{exists_at, context_exists}
use Rattle.lam_query.specs.Faults.{Fault, AreInOrder}
use Rattle.lam_query.specs.SyntaxFaults.{fault_at, fault_of_token, AreSyntaxFaults}
use Rattle.lam_query.specs.TextFaults.{written_fault, blame_fault, AreTypeFaults, too_large, small, AreFaults}
use Rattle.lam_query.specs.Commands.{AreCommandsOfText}
use Rattle.lam_query.specs.Sizes.{IsSizeFault, IsSmall, places_in}
use Rattle.lam_query.specs.WellTypedDocuments.{statements_in}
use Rattle.lam_query.specs.Steps.{steps_of, typing_proof}
use Rattle.lam_query.specs.Derivations.{ContextEntry, Derivation, names_seen, IsDerivation, IsDerivedIn}
use Rattle.lam_query.proofs.SightLengths.{sight_length}
use Rattle.lam_query.specs.Hovers.{Shown, innermost_at, IsTypedAround, IsHover, IsShownIn}
use Rattle.lam_query.proofs.RowsAndTerms.{place_told, number_told, names_told, innermost_number}
use Rattle.lam_query.proofs.OneAnswer.{one_document}
use Rattle.lam_query.proofs.PieceLaws.{some_commands, some_faults_of_pieces, one_list_of_pieces}
use Rattle.lam_query.proofs.SortedFaults.{some_order, one_order}
use Rattle.lam_query.proofs.BlameLaws.{some_blames, one_blames}
use Rattle.lam_query.proofs.SizeLaws.{document_places_wf, fault_or_small, one_size_fault}

-- faults

some_tokens : (text : List ℕ) → (tokens : List Lexeme) × AreTokensOf text tokens
some_tokens text = let cut = some_cut (chars text) in (tokens_of 0 cut.0, record { parts = cut.0; cut = cut.1; tokens_are = refl })

some_commands_of : (text : List ℕ) → (commands : List CommandTree) × AreCommandsOfText text commands
some_commands_of text =
    let tokens = some_tokens text in
    let commands = some_commands (pieces_of tokens.0) in
    (commands.0, record { tokens = tokens.0; are_tokens = tokens.1; are_commands = commands.1 })

some_type_faults : (commands : List CommandTree) (d : Dialect) → (found : List Fault) × AreTypeFaults commands found d
some_type_faults commands d = by (fault_or_small d commands)
  where
    by : ((s : Span) × IsSizeFault commands s d) ⊎ IsSmall commands d → (found : List Fault) × AreTypeFaults commands found d
    by (inl fault) = (fault_at (codes "L1") fault.0 ∷ [], too_large fault.1)
    by (inr is) =
        let blames = some_blames d 0 (places_in commands) (document_places_wf commands) in
        (map written_fault (faults [] commands) ++ map (blame_fault commands) blames.0, small blames.0 is blames.1)

one_type_faults : (commands : List CommandTree) (a b : List Fault) (d : Dialect) → AreTypeFaults commands a d → AreTypeFaults commands b d → a ≡ b
one_type_faults commands _ _ d (too_large x) (too_large y) = ap (λ s. fault_at (codes "L1") s ∷ []) (one_size_fault d commands _ _ x y)
one_type_faults commands _ _ d (too_large x) (small blames is are) = absurd (is _ x)
one_type_faults commands _ _ d (small blames is are) (too_large y) = absurd (is _ y)
one_type_faults commands _ _ d (small blames is are) (small others is' are') =
    ap (λ bs. map written_fault (faults [] commands) ++ map (blame_fault commands) bs) (one_blames d 0 (places_in commands) blames others are are')

pub some_faults : (text : List ℕ) (d : Dialect) → (found : List Fault) × AreFaults text found d
some_faults text d =
    let tokens = some_tokens text in
    let commands = some_commands (pieces_of tokens.0) in
    let of_pieces = some_faults_of_pieces tokens.0 in
    let of_syntax = filter_map fault_of_token tokens.0 ++ of_pieces.0 in
    let of_types = some_type_faults commands.0 d in
    let ordered = some_order (of_syntax ++ of_types.0) in (
      ordered.0,
      record {
        tokens = tokens.0;
        are_tokens = tokens.1;
        commands = commands.0;
        are_commands = commands.1;
        of_syntax = of_syntax;
        are_of_syntax = record { of_pieces = of_pieces.0; pieces = of_pieces.1; all = refl };
        of_types = of_types.0;
        are_of_types = of_types.1;
        in_order = ordered.1;
      },
    )

one_syntax_faults : (ts us : List Lexeme) (a b : List Fault) → ts ≡ us → AreSyntaxFaults ts a → AreSyntaxFaults us b → a ≡ b
one_syntax_faults ts us a b same x y =
    let there = subst (λ (vs : List Lexeme). AreSyntaxFaults vs b) (sym same) y in
    x.all ∙ ap (λ fs. filter_map fault_of_token ts ++ fs) (one_list_of_pieces ts x.of_pieces there.of_pieces x.pieces there.pieces) ∙ sym there.all

pub one_faults : (text : List ℕ) (a b : List Fault) (d : Dialect) → AreFaults text a d → AreFaults text b d → a ≡ b
one_faults text a b d x y =
    let tokens = one_list text x.tokens y.tokens x.are_tokens y.are_tokens in
    let commands =
    one_document text x.commands y.commands (record { tokens = x.tokens; are_tokens = x.are_tokens; are_commands = x.are_commands })
    (record { tokens = y.tokens; are_tokens = y.are_tokens; are_commands = y.are_commands }) in
    let of_syntax = one_syntax_faults x.tokens y.tokens x.of_syntax y.of_syntax (sym tokens) x.are_of_syntax y.are_of_syntax in
    let there = subst (λ (cs : List CommandTree). AreTypeFaults cs y.of_types d) (sym commands) y.are_of_types in
    let of_types = one_type_faults x.commands x.of_types y.of_types d x.are_of_types there in
    let all : y.of_syntax ++ y.of_types ≡ x.of_syntax ++ x.of_types = sym (λ i. of_syntax i ++ of_types i) in
    one_order (x.of_syntax ++ x.of_types) a b x.in_order (subst (λ fs. AreInOrder fs b) all y.in_order)

-- what is shown

pub number_wf : (commands : List CommandTree) (n : ℕ) → IsWellFormedPlace (term_of (tree_in (document_terms commands) n)).place
number_wf commands n = subst IsWellFormedPlace (place_told commands n) (wf_at (places_in commands) n (document_places_wf commands))

term_wf : (commands : List CommandTree) (offset : ℕ) (term : PlacedTree) → innermost_at offset (document_terms commands) ≡ Some term → IsWellFormedPlace (term_of term).place
term_wf commands offset term found =
    let here = innermost_number commands offset term found in
    subst (λ t. IsWellFormedPlace (term_of t).place) here.2 (number_wf commands here.0)

-- the innermost term and its least type, or none
abbrev TypedOrNot : List CommandTree → ℕ → Dialect → Type 0
TypedOrNot commands offset d = ((term : PlacedTree) × (type : Typ) × IsTypedAround commands offset term type d) ⊎ ((term : PlacedTree) (type : Typ) → IsTypedAround commands offset term type d → ⊥)

typed_at_term : (commands : List CommandTree) (offset : ℕ) (term : PlacedTree) (d : Dialect) → IsSmall commands d → innermost_at offset (document_terms commands) ≡ Some term → TypedOrNot commands offset d
typed_at_term commands offset term d is_small at = by (exists_at d (term_of term).place.scope (term_of term).place.here (term_wf commands offset term at).0 (term_wf commands offset term at).1)
  where
    by : (o : Option Typ) × IsLeastAt (term_of term).place.scope (term_of term).place.here o d → TypedOrNot commands offset d
    by (Some t, least) = inl (term, t, record { small = is_small; innermost = at; least = least })
    by (None, least) = inr none
      where
        none : (other : PlacedTree) (type : Typ) → IsTypedAround commands offset other type d → ⊥
        none other type typed =
            let both : Some other ≡ Some term = sym typed.innermost ∙ at in
            let same : other ≡ term = cc in
            let here = subst (λ (t : PlacedTree). IsLeastAt (term_of t).place.scope (term_of t).place.here (Some type) d) same typed.least in
            least type here.0

typed_or_none : (commands : List CommandTree) (offset : ℕ) (d : Dialect) → TypedOrNot commands offset d
typed_or_none commands offset d = sized (fault_or_small d commands)
  where
    sized : ((s : Span) × IsSizeFault commands s d) ⊎ IsSmall commands d → TypedOrNot commands offset d
    sized (inl fault) = inr (λ term type typed. typed.small fault.0 fault.1)
    sized (inr is_small) = around (innermost_at offset (document_terms commands)) refl
      where
        around : (o : Option PlacedTree) → innermost_at offset (document_terms commands) ≡ o → TypedOrNot commands offset d
        around None at = inr (λ term type typed. let clash : Some term ≡ None = sym typed.innermost ∙ at in cc)
        around (Some term) at = typed_at_term commands offset term d is_small at

some_shown : (commands : List CommandTree) (offset : ℕ) (d : Dialect) → (shown : Option Shown) × IsHover commands offset shown d
some_shown commands offset d = by (typed_or_none commands offset d)
  where
    by : TypedOrNot commands offset d → (shown : Option Shown) × IsHover commands offset shown d
    by (inl (term, type, typed)) = (Some (record { text = text_of_type type; span = (term_of term).span }), (term, type, typed, refl, refl))
    by (inr none) = (None, none)

pub some_hover : (text : List ℕ) (offset : ℕ) (d : Dialect) → (shown : Option Shown) × IsShownIn text offset shown d
some_hover text offset d =
    let commands = some_commands_of text in
    let shown = some_shown commands.0 offset d in
    (shown.0, record { commands = commands.0; are_commands = commands.1; answer = shown.1 })

-- a derivation of it

least_entry : (b : Binding) (outside : Scope) (g : Context) (entry : Option Typ) (d : Dialect) → IsWellFormedScope outside → LeastContext outside g d → LeastContext (b ∷ outside) (entry ∷ g) d → IsLeastEntry outside b entry d
least_entry (written w) outside g entry d wf least h = h.0
least_entry (of_term e) outside g entry d wf least h = least_at outside g e entry d (lowest outside g d wf least) h.0

pub least_entries : (s : Scope) (g : Context) (d : Dialect) → IsWellFormedScope s → LeastContext s g d → AreLeastEntries s g d
least_entries [] [] d wf least = tt
least_entries (b ∷ outside) (entry ∷ g) d wf least = (least_entry b outside g entry d wf.1 least.1 least, least_entries outside g d wf.1 least.1)
least_entries [] (entry ∷ g) d wf least = absurd least
least_entries (b ∷ outside) [] d wf least = absurd least

context_length : (s : Scope) (g : Context) (d : Dialect) → LeastContext s g d → length g ≡ length s
context_length [] [] d h = refl
context_length (b ∷ s) (entry ∷ g) d h = ap suc (context_length s g d h.1)
context_length [] (entry ∷ g) d h = absurd h
context_length (b ∷ s) [] d h = absurd h

-- names with their types

abbrev named : List Text → List (Option Typ) → List ContextEntry
named [] types = []
named (x ∷ names) [] = []
named (x ∷ names) (t ∷ types) = record { name = x; type = t } ∷ named names types

names_named : (names : List Text) (types : List (Option Typ)) → length names ≡ length types → map (λ e. e.name) (named names types) ≡ names
names_named [] types h = refl
names_named (x ∷ names) [] h = absurd cc
names_named (x ∷ names) (t ∷ types) h = ap (λ (xs : List Text). x ∷ xs) (names_named names types (let e : length names ≡ length types = omega arith in e))

types_named : (names : List Text) (types : List (Option Typ)) → length names ≡ length types → map (λ e. e.type) (named names types) ≡ types
types_named [] [] h = refl
types_named [] (t ∷ types) h = absurd cc
types_named (x ∷ names) [] h = absurd cc
types_named (x ∷ names) (t ∷ types) h = ap (λ (xs : List (Option Typ)). t ∷ xs) (types_named names types (let e : length names ≡ length types = omega arith in e))

-- a term sees as many names as its context has entries

number_names : (commands : List CommandTree) (n : ℕ) → length (names_seen (tree_in (document_terms commands) n)) ≡ length (term_of (tree_in (document_terms commands) n)).place.scope
number_names commands n =
    let bs = visible_at (table commands) n in
    let a = ap length (names_told commands n) in
    let b = length-map bs (λ b. shown_name (binder_numbered (table commands) b).name) in
    let c = length-map bs (λ b. (binder_numbered (table commands) b).origin) in
    let e = ap length (visible_origins commands n) in
    let f = length-reverse (sight_numbered (statements_in commands) n) in
    let g = sight_length (statements_in commands) n in
    let h = ap (λ p. length p.scope) (number_told commands n) in
    omega arith

names_length : (commands : List CommandTree) (offset : ℕ) (term : PlacedTree) (g : Context) (d : Dialect) → innermost_at offset (document_terms commands) ≡ Some term
    → LeastContext (term_of term).place.scope g d → length (names_seen term) ≡ length (reverse g)
names_length commands offset term g d found least =
    let here = innermost_number commands offset term found in
    let names = subst (λ t. length (names_seen t) ≡ length (term_of t).place.scope) here.2 (number_names commands here.0) in
    let entries = context_length (term_of term).place.scope g d least in
    let turned = length-reverse g in
    omega arith

some_derived : (commands : List CommandTree) (offset : ℕ) (d : Dialect) → (derived : Option Derivation) × IsDerivation commands offset derived d
some_derived commands offset d = by (typed_or_none commands offset d)
  where
    by : TypedOrNot commands offset d → (derived : Option Derivation) × IsDerivation commands offset derived d
    by (inl (term, type, typed)) =
        let place = (term_of term).place in
        let wf = term_wf commands offset term typed.innermost in
        let context = context_exists d place.scope wf.0 in
        let low = lowest place.scope context.0 d wf.0 context.1 in
        let least = least_in place.scope context.0 place.here (Some type) d low typed.least in
        let proof = has_type context.0 place.here type d least.0 in
        let names = names_seen term in
        let as_many = names_length commands offset term context.0 d typed.innermost context.1 in (
          Some (record { context = named names (reverse context.0); steps = steps_of 0 (typing_proof term proof.0) }),
          record {
            term = term;
            type = type;
            typed = typed;
            entries = context.0;
            least = least_entries place.scope context.0 d wf.0 context.1;
            names = names_named names (reverse context.0) as_many;
            types = types_named names (reverse context.0) as_many;
            tree = proof.0;
            proof = proof.1.0;
            concluded = proof.1.1;
            steps = refl;
          },
        )
    by (inr none) = (None, none)

pub some_derivation : (text : List ℕ) (offset : ℕ) (d : Dialect) → (derived : Option Derivation) × IsDerivedIn text offset derived d
some_derivation text offset d =
    let commands = some_commands_of text in
    let derived = some_derived commands.0 offset d in
    (derived.0, record { commands = commands.0; are_commands = commands.1; answer = derived.1 })

-- a derivation is there only where a type is shown
pub shown_of_derived : (text : List ℕ) (offset : ℕ) (derived : Derivation) (d : Dialect) → IsDerivedIn text offset (Some derived) d → (shown : Shown) × IsShownIn text offset (Some shown) d
shown_of_derived text offset derived d h =
    let a = h.answer in (
      record { text = text_of_type a.type; span = (term_of a.term).span },
      record { commands = h.commands; are_commands = h.are_commands; answer = (a.term, a.type, a.typed, refl, refl) },
    )

-- where none is derived, nothing is shown
pub nothing_derived : (text : List ℕ) (offset : ℕ) (d : Dialect) → IsDerivedIn text offset None d → IsShownIn text offset None d
nothing_derived text offset d h = record { commands = h.commands; are_commands = h.are_commands; answer = h.answer }
