-- Derivations that are held against a text.
use Rattle.std.proofs.Common.{◌≡◌, ℕ, ◌+◌, ◌-◌, ◌<◌, ◌≤◌, zero, suc, List, [], ◌∷◌, ◌++◌, length, get_or, map, take, reverse, Option, Some, None, option_map, Result, Ok, Err, IfOk, Bool, true, false, not, IsTrue, true≢false, refl, sym, ap, subst, ◌∙◌, arith}
use Rattle.std.proofs.lemmas.List.{length-map, reverse-append, take_more, take_all, map-append}
use Rattle.std.proofs.lemmas.Simd.{map-map}
use Rattle.std.proofs.lemmas.Option.{same_Some}
use Rattle.std.specs.Str.{bytes_eq}
use Rattle.std.proofs.lemmas.Slice.Eq.{bytes_eq-Decides}
use Rattle.lam_rules.specs.Texts.{Text}
use Rattle.lam_rules.specs.TermViews.{written_of}
use Rattle.lam_rules.specs.Typing.{TypingTree, typing_step, IsTyping}
use Rattle.lam_rules.specs.Terms.{Term}
use Rattle.lam_rules.specs.TypingViews.{context_of}
use Rattle.lam_rules.specs.declared.rules.Dialect.{Dialect}
use Rattle.lam_rules.specs.declared.types.Ty.{Ty}
use Rattle.lam_syntax.specs.Trees.{CommandTree}
use Rattle.lam_syntax.specs.Views.{command_of}
use Rattle.lam_token.specs.declared.span.Span.{Span}
use Rattle.lam_scope.specs.Names.{shown_name}
use Rattle.lam_scope.specs.Places.{Place, places_of, place_numbered}
use Rattle.lam_scope.specs.PlacedTerms.{PlacedTree, document_terms, term_of, tree_in}
use Rattle.lam_scope.specs.Tables.{place_row_numbered, binder_numbered, table, visible_at}
use Rattle.lam_scope.specs.Views.{table_of, statements_of, AreScopesOf}
use Rattle.lam_scope.specs.declared.resolved.Resolved.{Resolved}
use Rattle.lam_scope.specs.declared.scopes.Scopes.{Scopes}
use Rattle.lam_scope.proofs.PlacedPlaces.{same_places}
use Rattle.lam_scope.proofs.PlacedRows.{row_told}
use Rattle.std.specs.List.{slice_get}
use Rattle.lam_query.specs.declared.answers.Step.{Step as RustStep}
use Rattle.lam_query.specs.Views.{step_of}
use Rattle.lam_query.specs.Derivations.{Derivation, names_seen}
use Rattle.lam_query.specs.ProofTrees.{typing_tree_in, MakeTree}
use Rattle.lam_query.specs.Steps.{typing, Step, steps_of, steps_of_each, last_steps, typing_proof, typing_proofs, premise_terms, with_side, span_in, last_conclusion, last_span}
use Rattle.lam_query.specs.WellTypedDocuments.{statements_in}
use Rattle.lam_query.specs.Commands.{AreCommandsOfText}
use Rattle.lam_query.specs.declared.reading.Parsed.{Parsed}
use Rattle.lam_query.specs.inner.Reading.{IsRead}
use Rattle.lam_query.specs.Sizes.{IsSizeFault}
use Rattle.lam_query.proofs.OneAnswer.{one_document}
use Rattle.lam_query.proofs.OneProof.{one_proof_of_steps}
use Rattle.lam_query.proofs.ReadTrees.{tree_read}
use Rattle.lam_query.proofs.RowsAndTerms.{span_told, names_told, number_told}
use Rattle.lam_query.specs.Verified.{IsProofOf, IsVerified, HasContext, entries_listed}

-- the context of entries
context_reversed : (entries : List (Option Ty)) → context_of entries ≡ reverse (map written_of entries)
context_reversed [] = refl
context_reversed (e ∷ entries) = ap (λ g. g ++ written_of e ∷ []) (context_reversed entries) ∙ sym (reverse-append (written_of e ∷ []) (map written_of entries))

-- the tree that steps make is that of each proof of typing that has these steps
one_tree : (steps : List Step) (made tree : TypingTree) (term : PlacedTree) → MakeTree steps made → steps ≡ steps_of 0 (typing_proof term tree) → tree ≡ made
one_tree steps made tree term h is =
    let same = one_proof_of_steps (typing_proof term tree) h.whole (sym is ∙ h.are_steps) in
    same_Some tree made (sym (tree_read term tree) ∙ ap typing_tree_in same ∙ h.is_tree)

last_pushed : (steps : List Step) (s : Step) → last_conclusion (steps ++ s ∷ []) ≡ Some s.conclusion
last_pushed [] s = refl
last_pushed (t ∷ []) s = refl
last_pushed (t ∷ u ∷ steps) s = last_pushed (u ∷ steps) s

-- the last step of a proof about a term has the term's span
pub ends_with_span : (term : PlacedTree) (tree : TypingTree) → span_in (last_conclusion (steps_of 0 (typing_proof term tree))) ≡ Some (term_of term).span
ends_with_span term (typing_step rule type premises side) =
    ap span_in (last_pushed (steps_of_each 0 (with_side (typing_proofs term (premise_terms rule term) premises) side))
    (record { conclusion = typing rule (term_of term).span type; premises = last_steps 0 (with_side (typing_proofs term (premise_terms rule term) premises) side) }))

pub span_there : (commands : List CommandTree) (scopes : Scopes) (n : ℕ) → AreScopesOf scopes commands → (place_row_numbered (table_of scopes) n).span ≡ (term_of (tree_in (document_terms commands) n)).span
span_there commands scopes n h = ap (λ t. (place_row_numbered t n).span) h.same_table ∙ span_told commands n

-- a term is in the text if its row says so
written_row : (b : Bool) (derived : Bool) → derived ≡ not b → derived ≡ false → b ≡ true
written_row true derived is none = refl
written_row false derived is none = let clash : false ≡ true = sym none ∙ is in absurd cc

pub written_there : (commands : List CommandTree) (scopes : Scopes) (n : ℕ) → AreScopesOf scopes commands → (place_row_numbered (table_of scopes) n).derived ≡ false
    → (term_of (tree_in (document_terms commands) n)).is_written ≡ true
written_there commands scopes n h none =
    written_row (term_of (tree_in (document_terms commands) n)).is_written (place_row_numbered (table commands) n).derived (row_told commands n).derived
    (ap (λ t. (place_row_numbered t n).derived) (sym h.same_table) ∙ none)

-- and its row says so if it is
pub row_written : (commands : List CommandTree) (scopes : Scopes) (n : ℕ) → AreScopesOf scopes commands → (term_of (tree_in (document_terms commands) n)).is_written ≡ true
    → (place_row_numbered (table_of scopes) n).derived ≡ false
row_written commands scopes n h written = ap (λ t. (place_row_numbered t n).derived) h.same_table ∙ (row_told commands n).derived ∙ ap not written

-- the names in scope, by the rows
pub names_there : (commands : List CommandTree) (scopes : Scopes) (n : ℕ) → AreScopesOf scopes commands
    → map (λ b. shown_name (binder_numbered (table_of scopes) b).name) (visible_at (table_of scopes) n) ≡ names_seen (tree_in (document_terms commands) n)
names_there commands scopes n h = ap (λ t. map (λ b. shown_name (binder_numbered t b).name) (visible_at t n)) h.same_table ∙ names_told commands n

-- the commands that were read are those of the text
pub commands_read : (text : List ℕ) (parsed : Parsed) → IsRead text parsed → AreCommandsOfText text (map command_of parsed.commands.items)
commands_read text parsed h = record { tokens = h.tokens; are_tokens = h.are_tokens; are_commands = h.commands }

-- as many places as terms
pub as_many : (commands : List CommandTree) (resolved : Resolved) → statements_of resolved ≡ statements_in commands → length (places_of [] (statements_of resolved)) ≡ length (document_terms commands)
as_many commands resolved are =
    ap (λ ss. length (places_of [] ss)) are ∙ ap length (same_places commands) ∙ length-map (document_terms commands) (λ t. (term_of t).place)

-- what the checker of proofs takes
pub typed_there : (commands : List CommandTree) (resolved : Resolved) (n : ℕ) (e : Term) → statements_of resolved ≡ statements_in commands → e ≡ (place_numbered (statements_of resolved) n).here
    → e ≡ (term_of (tree_in (document_terms commands) n)).place.here
typed_there commands resolved n e are is = is ∙ ap (λ ss. (place_numbered ss n).here) are ∙ ap (λ (p : Place). p.here) (number_told commands n)

-- the entries that are listed, as the checker of proofs takes them
pub entries_are_listed : (entries : List (Option Ty)) (derivation : Derivation) → map written_of entries ≡ map (λ x. x.type) derivation.context → context_of entries ≡ entries_listed derivation
entries_are_listed entries derivation types = context_reversed entries ∙ ap reverse types

-- ---- a derivation about this term, and what the tests say of it

module _ (term : PlacedTree) (derivation : Derivation) (d : Dialect) where
  pub proof_is : (made : TypingTree) → MakeTree derivation.steps made → IsProofOf term derivation d → IsTyping (entries_listed derivation) (term_of term).place.here made d
  proof_is made makes h = rw (one_tree derivation.steps made h.tree term makes h.steps) at h.proof

  pub steps_are : (made : TypingTree) → MakeTree derivation.steps made → IsProofOf term derivation d → derivation.steps ≡ steps_of 0 (typing_proof term made)
  steps_are made makes h = h.steps ∙ ap (λ t. steps_of 0 (typing_proof term t)) (one_tree derivation.steps made h.tree term makes h.steps)

  pub is_proof : (made : TypingTree) → (term_of term).is_written ≡ true → HasContext term derivation d → IsTyping (entries_listed derivation) (term_of term).place.here made d
      → derivation.steps ≡ steps_of 0 (typing_proof term made) → IsProofOf term derivation d
  is_proof made written has proof steps = record {
    written = written;
    has_context = has;
    tree = made;
    proof = proof;
    steps = steps;
  }

-- ---- lists that are compared one by one

pub same_front : {A B C : Type 0} (f : A → C) (g : B → C) (xs : List A) (ys : List B) (i : ℕ) (x : A) (y : B) → i < length xs → i < length ys
    → f (get_or xs i x) ≡ g (get_or ys i y) → map f (take i xs) ≡ map g (take i ys) → map f (take (i + 1) xs) ≡ map g (take (i + 1) ys)
same_front f g xs ys i x y inside within same so_far =
    ap (map f) (take_more xs i x inside)
    ∙ map-append f (take i xs) (get_or xs i x ∷ [])
    ∙ (λ k. so_far k ++ same k ∷ [])
    ∙ sym (map-append g (take i ys) (get_or ys i y ∷ []))
    ∙ ap (map g) (sym (take_more ys i y within))

pub same_lists : {A B C : Type 0} (f : A → C) (g : B → C) (xs : List A) (ys : List B) (i : ℕ) → length xs ≤ i → length ys ≤ i → map f (take i xs) ≡ map g (take i ys) → map f xs ≡ map g ys
same_lists f g xs ys i past beyond same = ap (map f) (sym (take_all i xs past)) ∙ same ∙ ap (map g) (take_all i ys beyond)

pub same_there : {A B C : Type 0} (f : A → C) (g : B → C) (xs : List A) (ys : List B) (i : ℕ) (x : A) (y : B) → i < length xs → map f xs ≡ map g ys → f (get_or xs i x) ≡ g (get_or ys i y)
same_there f g [] ys i x y inside same = absurd (omega arith)
same_there f g (a ∷ xs) [] i x y inside same = let clash : f a ∷ map f xs ≡ [] = same in absurd cc
same_there f g (a ∷ xs) (b ∷ ys) zero x y inside same = let both : f a ∷ map f xs ≡ g b ∷ map g ys = same in cc
same_there f g (a ∷ xs) (b ∷ ys) (suc i) x y inside same =
    let both : f a ∷ map f xs ≡ g b ∷ map g ys = same in
    let rest : map f xs ≡ map g ys = cc in
    same_there f g xs ys i x y (omega arith) rest

pub as_long : {A B C : Type 0} (f : A → C) (g : B → C) (xs : List A) (ys : List B) → map f xs ≡ map g ys → length xs ≡ length ys
as_long f g xs ys same = sym (length-map xs f) ∙ ap length same ∙ length-map ys g

-- the same of lists that are mapped twice
pub through : {A B C D E : Type 0} (f : B → C) (h : A → B) (g : E → C) (k : D → E) (xs : List A) (ys : List D) → map (λ x. f (h x)) xs ≡ map (λ y. g (k y)) ys → map f (map h xs) ≡ map g (map k ys)
through f h g k xs ys same = map-map f h xs ∙ same ∙ sym (map-map g k ys)

pub straight : {A B C D E : Type 0} (f : B → C) (h : A → B) (g : E → C) (k : D → E) (xs : List A) (ys : List D) → map f (map h xs) ≡ map g (map k ys) → map (λ x. f (h x)) xs ≡ map (λ y. g (k y)) ys
straight f h g k xs ys same = sym (map-map f h xs) ∙ same ∙ map-map g k ys

pub entries_all : {A B C D : Type 0} (f : A → D) (h : C → D) (k : B → C) (xs : List A) (ys : List B) (i : ℕ) → length ys ≤ i → map f xs ≡ map (λ y. h (k y)) (take i ys) → map f xs ≡ map h (map k ys)
entries_all f h k xs ys i past same = same ∙ ap (map (λ y. h (k y))) (take_all i ys past) ∙ sym (map-map h k ys)

-- ---- what a test says

pub never : {A : Type 0} → IsTrue false → A
never t = let clash : false ≡ true = t in absurd cc

pub not_so : {A : Type 0} (b : Bool) → b ≡ false → IsTrue b → A
not_so b is so = let clash : false ≡ true = sym is ∙ so in absurd cc

pub equal_texts : (x y : Text) → false ≡ not (bytes_eq x y) → x ≡ y
equal_texts x y same = (bytes_eq-Decides x y).0 (by (bytes_eq x y) same)
  where
    by : (b : Bool) → false ≡ not b → b ≡ true
    by true e = refl
    by false e = absurd (true≢false (sym e))

pub other_texts : (x y : Text) → true ≡ not (bytes_eq x y) → x ≡ y → ⊥
other_texts x y differ same =
    let equal : bytes_eq x y ≡ true = (bytes_eq-Decides x y).1 same in
    true≢false (differ ∙ ap not equal)

pub entries_more : {A B D : Type 0} (f : A → D) (g : B → D) (xs more : List A) (x : A) (ys : List B) (i : ℕ) (y : B) → i < length ys → y ≡ get_or ys i y → f x ≡ g y → more ≡ xs ++ x ∷ []
    → map f xs ≡ map g (take i ys) → map f more ≡ map g (take (i + 1) ys)
entries_more f g xs more x ys i y inside at is pushed so_far =
    ap (map f) pushed
    ∙ map-append f xs (x ∷ [])
    ∙ (λ k. so_far k ++ ((is ∙ ap g at) k) ∷ [])
    ∙ sym (map-append g (take i ys) (get_or ys i y ∷ []))
    ∙ ap (map g) (sym (take_more ys i y inside))

-- ---- the span of the last step

abbrev pub span_of_step : Option RustStep → Option Span
span_of_step None = None
span_of_step (Some s) = span_in (Some (step_of s).conclusion)

last_got : (steps : List RustStep) → span_in (last_conclusion (map step_of steps)) ≡ span_of_step (slice_get steps (length steps - 1))
last_got [] = refl
last_got (s ∷ []) = refl
last_got (s ∷ t ∷ steps) =
    let less : suc (length (t ∷ steps) - 1) ≡ length (s ∷ t ∷ steps) - 1 = omega arith in
    last_got (t ∷ steps) ∙ ap (λ n. span_of_step (slice_get (s ∷ t ∷ steps) n)) less

pub last_concluded : (steps : List RustStep) (found : Option RustStep) → found ≡ slice_get steps (length steps - 1) → last_conclusion (map step_of steps) ≡ option_map (λ s. (step_of s).conclusion) found
last_concluded steps found is = go steps ∙ ap (option_map (λ s. (step_of s).conclusion)) (sym is)
  where
    go : (steps : List RustStep) → last_conclusion (map step_of steps) ≡ option_map (λ s. (step_of s).conclusion) (slice_get steps (length steps - 1))
    go [] = refl
    go (s ∷ []) = refl
    go (s ∷ t ∷ steps) =
        let less : suc (length (t ∷ steps) - 1) ≡ length (s ∷ t ∷ steps) - 1 = omega arith in
        go (t ∷ steps) ∙ ap (λ n. option_map (λ s. (step_of s).conclusion) (slice_get (s ∷ t ∷ steps) n)) less

pub last_found : (steps : List RustStep) (found : Option RustStep) → found ≡ slice_get steps (length steps - 1) → last_span (map step_of steps) ≡ span_of_step found
last_found steps found is = last_got steps ∙ ap span_of_step (sym is)

-- ---- whole texts

-- a derivation is not verified in a text with a type that is too large
pub too_large : (text : List ℕ) (commands : List CommandTree) (derivation : Derivation) (d : Dialect) (s : Span) → AreCommandsOfText text commands → IsSizeFault commands s d
    → IsVerified text derivation d → ⊥
too_large text commands derivation d s are fault v =
    v.small s (subst (λ cs. IsSizeFault cs s d) (one_document text commands v.commands are v.are_commands) fault)

pub if_ok : {T E : Type 0} {P Q : T → Type 0} (r : Result T E) → ((x : T) → P x → Q x) → IfOk r P → IfOk r Q
if_ok (Ok x) f h = f x h
if_ok (Err e) f h = tt
