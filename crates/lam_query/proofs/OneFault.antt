-- Only one thing is wrong first with a derivation.
use Rattle.std.proofs.Common.{◌≡◌, ℕ, zero, suc, ◌+◌, ◌-◌, ◌<◌, inl, inr, List, [], ◌∷◌, ◌++◌, length, take, slice_get, refl, sym, ap, subst, ◌∙◌, arith}
use Rattle.std.proofs.lemmas.Option.{same_Some}
use Rattle.lam_rules.specs.Typing.{Context, TypingTree, IsTyping}
use Rattle.lam_rules.specs.declared.rules.Dialect.{Dialect}
use Rattle.lam_syntax.specs.Trees.{CommandTree}
use Rattle.lam_scope.specs.Places.{Scope}
use Rattle.lam_scope.specs.PlacedTerms.{PlacedTree, document_terms, term_of, tree_in}
use Rattle.lam_query.specs.Derivations.{Derivation}
use Rattle.lam_query.specs.ProofTrees.{typing_tree_in, MakeTree}
use Rattle.lam_query.specs.Steps.{Step, steps_of, typing_proof}
use Rattle.lam_query.proofs.OneAnswer.{one_document}
use Rattle.lam_query.proofs.OneProof.{one_proof_of_steps}
use Rattle.lam_query.specs.Sizes.{IsSizeFault}
use Rattle.lam_query.specs.FirstFaults.{AreOfOneProof, AreOfProofs, DifferFirst, HasRange, IsFaultAt, IsFaultIn, IsFaultInText, IsFirstFault, IsFirstMisplaced, IsFirstUnfitEntry, IsFirstWithRange, IsTooLarge}
use Rattle.lam_query.specs.Judgements.{Judgement, Follows, IsFirstFailing, judgements}
use Rattle.lam_query.specs.declared.answers.FirstFault.{FirstFault}
use Rattle.lam_query.specs.declared.answers.FirstFault.TheVariants as faults
use Rattle.lam_query.proofs.Following.{follows}
use Rattle.lam_query.proofs.ListedEntries.{unfit_no_context}
use Rattle.lam_query.proofs.Misplaced.{longer_misplaced, never_empty, never_misplaced, one_is_placed}
use Rattle.lam_query.specs.Verified.{HasContext, HasNames, entries_listed}
use Rattle.lam_query.specs.inner.Walking.{AllFollow}

-- ---- the first of a kind

-- two numbers of which neither can be the smaller one
one_number : (P : ℕ → Type 0) (n m : ℕ) → ((i j : ℕ) → i < j → P i → P j → ⊥) → P n → P m → n ≡ m
one_number P zero zero never h k = refl
one_number P zero (suc m) never h k = absurd (never zero (suc m) (omega arith) h k)
one_number P (suc n) zero never h k = absurd (never zero (suc n) (omega arith) k h)
one_number P (suc n) (suc m) never h k = ap suc (one_number (λ i. P (suc i)) n m (λ i j lt. never (suc i) (suc j) (omega arith)) h k)

one_misplaced : (steps : List Step) (n m : ℕ) → IsFirstMisplaced steps n → IsFirstMisplaced steps m → n ≡ m
one_misplaced steps n m = one_number (IsFirstMisplaced steps) n m (λ i j lt h k.
    let inside = k.inside in
    let longer : j ≡ suc i + (j - suc i) = omega arith in
    longer_misplaced steps i (j - suc i) (omega arith) h (subst (λ l. AreOfProofs (take l steps)) longer k.before))

one_with_range : (commands : List CommandTree) (steps : List Step) (n m : ℕ) → IsFirstWithRange commands steps n → IsFirstWithRange commands steps m → n ≡ m
one_with_range commands steps n m = one_number (IsFirstWithRange commands steps) n m (λ i j lt h k. k.first i lt h.here)

got_in_front : {A : Type 0} (xs : List A) (j i : ℕ) → i < j → slice_get xs i ≡ slice_get (take j xs) i
got_in_front xs zero i lt = absurd (omega arith)
got_in_front [] (suc j) i lt = refl
got_in_front (x ∷ xs) (suc j) zero lt = refl
got_in_front (x ∷ xs) (suc j) (suc i) lt = got_in_front xs j i (omega arith)

one_difference : (xs ys : List Step) (n m : ℕ) → DifferFirst xs ys n → DifferFirst xs ys m → n ≡ m
one_difference xs ys n m =
    one_number (DifferFirst xs ys) n m (λ i j lt h k. h.differ (got_in_front xs j i lt ∙ ap (λ l. slice_get l i) k.same ∙ sym (got_in_front ys j i lt)))

one_unfit : (s : Scope) (g : Context) (d : Dialect) (n m : ℕ) → IsFirstUnfitEntry s g d n → IsFirstUnfitEntry s g d m → n ≡ m
one_unfit [] g d n m h k = absurd h
one_unfit (b ∷ s) [] d n m h k = absurd h
one_unfit (b ∷ s) (entry ∷ g) d n m (inl h) (inl k) = one_unfit s g d n m h k
one_unfit (b ∷ s) (entry ∷ g) d n m (inl h) (inr k) = unfit_no_context s g d n h k.0
one_unfit (b ∷ s) (entry ∷ g) d n m (inr h) (inl k) = unfit_no_context s g d m k h.0
one_unfit (b ∷ s) (entry ∷ g) d n m (inr h) (inr k) = h.2 ∙ sym k.2

same_before : (d : Dialect) (xs ys : List Judgement) (a b : Judgement) (more others : List Judgement) → xs ++ a ∷ more ≡ ys ++ b ∷ others → AllFollow d xs → AllFollow d ys
    → (Follows d a → ⊥) → (Follows d b → ⊥) → length xs ≡ length ys
same_before d [] [] a b more others same left right h k = refl
same_before d [] (y ∷ ys) a b more others same left right h k =
    let both : a ∷ more ≡ y ∷ (ys ++ b ∷ others) = same in
    let here : y ≡ a = cc in
    absurd (h (subst (Follows d) here right.0))
same_before d (x ∷ xs) [] a b more others same left right h k =
    let both : x ∷ (xs ++ a ∷ more) ≡ b ∷ others = same in
    let here : x ≡ b = cc in
    absurd (k (subst (Follows d) here left.0))
same_before d (x ∷ xs) (y ∷ ys) a b more others same left right h k =
    let both : x ∷ (xs ++ a ∷ more) ≡ y ∷ (ys ++ b ∷ others) = same in
    let rest : xs ++ a ∷ more ≡ ys ++ b ∷ others = cc in
    ap suc (same_before d xs ys a b more others rest left.1 right.1 h k)

one_failing : (d : Dialect) (all : List Judgement) (n m : ℕ) → IsFirstFailing d 0 all n → IsFirstFailing d 0 all m → n ≡ m
one_failing d all n m h k = h.counted ∙ ap (λ l. 0 + l) (same_before d h.before k.before h.own k.own h.after k.after (sym h.are ∙ k.are) h.follow k.follow h.fails k.fails) ∙ sym k.counted

found_among : (d : Dialect) (before : List Judgement) (own : Judgement) (after : List Judgement) → AllFollow d (before ++ own ∷ after) → Follows d own
found_among d [] own after h = h.0
found_among d (j ∷ before) own after h = found_among d before own after h.1

-- what a valid proof says follows
none_failing : {A : Type 0} (d : Dialect) (all : List Judgement) (n : ℕ) → AllFollow d all → IsFirstFailing d 0 all n → A
none_failing d all n follow h = absurd (h.fails (found_among d h.before h.own h.after (subst (AllFollow d) h.are follow)))

-- one tree at most is made of steps
pub one_made : (steps : List Step) (tree also : TypingTree) → MakeTree steps tree → MakeTree steps also → tree ≡ also
one_made steps tree also h k =
    same_Some tree also (sym h.is_tree ∙ ap typing_tree_in (one_proof_of_steps h.whole k.whole (sym h.are_steps ∙ k.are_steps)) ∙ k.is_tree)

-- ---- as a derivation about one term

data AtTerm (term : PlacedTree) (x : Derivation) (d : Dialect) (fault : FirstFault) : Type 0 where
  names : fault ≡ faults.Names → (HasNames term x → ⊥) → AtTerm term x d fault
  entry : (n : ℕ) → fault ≡ faults.Entry n → HasNames term x → IsFirstUnfitEntry (term_of term).place.scope (entries_listed x) d n → AtTerm term x d fault
  step : (n : ℕ) (tree : TypingTree) → fault ≡ faults.Step n → HasContext term x d → MakeTree x.steps tree
      → IsFirstFailing d 0 (judgements (entries_listed x) (term_of term).place.here tree) n → AtTerm term x d fault
  range : (n : ℕ) (tree : TypingTree) → fault ≡ faults.Range n → HasContext term x d → MakeTree x.steps tree → IsTyping (entries_listed x) (term_of term).place.here tree d
      → DifferFirst x.steps (steps_of 0 (typing_proof term tree)) n → AtTerm term x d fault

at_term : (term : PlacedTree) (x : Derivation) (d : Dialect) (fault : FirstFault) → IsFaultAt term x d fault → AtTerm term x d fault
at_term term x d faults.Names h = names refl h
at_term term x d (faults.Entry n) h = entry n refl h.0 h.1
at_term term x d (faults.Step n) h = step n h.1 refl h.0 h.2 h.3
at_term term x d (faults.Range n) h = range n h.1 refl h.0 h.2 h.3 h.4
at_term term x d faults.NoStep h = absurd h
at_term term x d (faults.Premises n) h = absurd h
at_term term x d (faults.Loose n) h = absurd h
at_term term x d faults.TooLarge h = absurd h
at_term term x d (faults.NoTerm n) h = absurd h

-- a valid tree and a step that does not follow
pub valid_and_failing : {A : Type 0} (term : PlacedTree) (x : Derivation) (d : Dialect) (n : ℕ) (tree also : TypingTree) → MakeTree x.steps tree → MakeTree x.steps also
    → IsTyping (entries_listed x) (term_of term).place.here tree d → IsFirstFailing d 0 (judgements (entries_listed x) (term_of term).place.here also) n → A
valid_and_failing term x d n tree also made too valid failing =
    let same = one_made x.steps tree also made too in
    none_failing d (judgements (entries_listed x) (term_of term).place.here also) n
    (follows d (entries_listed x) (term_of term).place.here also (subst (λ t. IsTyping (entries_listed x) (term_of term).place.here t d) same valid)) failing

one_at : (term : PlacedTree) (x : Derivation) (d : Dialect) (a b : FirstFault) → AtTerm term x d a → AtTerm term x d b → a ≡ b
one_at term x d a b (names is h) (names also k) = is ∙ sym also
one_at term x d a b (names is h) (entry m also named k) = absurd (h named)
one_at term x d a b (names is h) (step m tree also context made k) = absurd (h context.names)
one_at term x d a b (names is h) (range m tree also context made valid k) = absurd (h context.names)
one_at term x d a b (entry n is named h) (names also k) = absurd (k named)
one_at term x d a b (entry n is named h) (entry m also too k) = is ∙ ap (λ i. faults.Entry i) (one_unfit (term_of term).place.scope (entries_listed x) d n m h k) ∙ sym also
one_at term x d a b (entry n is named h) (step m tree also context made k) = unfit_no_context (term_of term).place.scope (entries_listed x) d n h context.context
one_at term x d a b (entry n is named h) (range m tree also context made valid k) = unfit_no_context (term_of term).place.scope (entries_listed x) d n h context.context
one_at term x d a b (step n tree is context made h) (names also k) = absurd (k context.names)
one_at term x d a b (step n tree is context made h) (entry m also named k) = unfit_no_context (term_of term).place.scope (entries_listed x) d m k context.context
one_at term x d a b (step n tree is context made h) (step m other also too makes k) =
    let same = one_made x.steps tree other made makes in
    let all = judgements (entries_listed x) (term_of term).place.here other in
    is ∙ ap (λ i. faults.Step i) (one_failing d all n m (subst (λ t. IsFirstFailing d 0 (judgements (entries_listed x) (term_of term).place.here t) n) same h) k) ∙ sym also
one_at term x d a b (step n tree is context made h) (range m other also too makes valid k) = valid_and_failing term x d n other tree makes made valid h
one_at term x d a b (range n tree is context made valid h) (names also k) = absurd (k context.names)
one_at term x d a b (range n tree is context made valid h) (entry m also named k) = unfit_no_context (term_of term).place.scope (entries_listed x) d m k context.context
one_at term x d a b (range n tree is context made valid h) (step m other also too makes k) = valid_and_failing term x d m tree other made makes valid k
one_at term x d a b (range n tree is context made valid h) (range m other also too makes valid_too k) =
    let same = one_made x.steps tree other made makes in
    let steps = steps_of 0 (typing_proof term other) in
    is ∙ ap (λ i. faults.Range i) (one_difference x.steps steps n m (subst (λ t. DifferFirst x.steps (steps_of 0 (typing_proof term t)) n) same h) k) ∙ sym also

-- ---- among the terms of a text

data AmongTerms (commands : List CommandTree) (x : Derivation) (d : Dialect) (fault : FirstFault) : Type 0 where
  no_term : (n : ℕ) → fault ≡ faults.NoTerm n → suc n ≡ length x.steps → ((i : ℕ) → i < length (document_terms commands) → HasRange commands x.steps i → ⊥) → AmongTerms commands x d fault
  of_term : (number : ℕ) → IsFirstWithRange commands x.steps number → IsFaultAt (tree_in (document_terms commands) number) x d fault → AmongTerms commands x d fault

among_terms : (commands : List CommandTree) (x : Derivation) (d : Dialect) (fault : FirstFault) → IsFaultIn commands x d fault → AmongTerms commands x d fault
among_terms commands x d (faults.NoTerm n) h = no_term n refl h.0 h.1
among_terms commands x d faults.Names h = of_term h.0 h.1 h.2
among_terms commands x d (faults.Entry n) h = of_term h.0 h.1 h.2
among_terms commands x d (faults.Step n) h = of_term h.0 h.1 h.2
among_terms commands x d (faults.Range n) h = of_term h.0 h.1 h.2
among_terms commands x d faults.NoStep h = of_term h.0 h.1 h.2
among_terms commands x d (faults.Premises n) h = of_term h.0 h.1 h.2
among_terms commands x d (faults.Loose n) h = of_term h.0 h.1 h.2
among_terms commands x d faults.TooLarge h = of_term h.0 h.1 h.2

one_length : (n m l : ℕ) → suc n ≡ l → suc m ≡ l → n ≡ m
one_length n m l h k = omega arith

one_among : (commands : List CommandTree) (x : Derivation) (d : Dialect) (a b : FirstFault) → AmongTerms commands x d a → AmongTerms commands x d b → a ≡ b
one_among commands x d a b (no_term n is long h) (no_term m also far k) = is ∙ ap (λ i. faults.NoTerm i) (one_length n m (length x.steps) long far) ∙ sym also
one_among commands x d a b (no_term n is long h) (of_term number first k) = absurd (h number first.inside first.here)
one_among commands x d a b (of_term number first h) (no_term m also far k) = absurd (k number first.inside first.here)
one_among commands x d a b (of_term number first h) (of_term other too k) =
    let same = one_with_range commands x.steps number other first too in
    let term = tree_in (document_terms commands) other in
    one_at term x d a b (at_term term x d a (subst (λ i. IsFaultAt (tree_in (document_terms commands) i) x d a) same h)) (at_term term x d b k)

-- ---- in a text

data InText (text : List ℕ) (x : Derivation) (d : Dialect) (fault : FirstFault) : Type 0 where
  no_step : fault ≡ faults.NoStep → x.steps ≡ [] → InText text x d fault
  misplaced : (n : ℕ) → fault ≡ faults.Premises n → IsFirstMisplaced x.steps n → InText text x d fault
  loose : (n : ℕ) → fault ≡ faults.Loose n → AreOfProofs x.steps → suc n ≡ length x.steps → ((tree : TypingTree) → MakeTree x.steps tree → ⊥) → InText text x d fault
  too_large : fault ≡ faults.TooLarge → AreOfOneProof x.steps → IsTooLarge text d → InText text x d fault
  in_text : IsFaultInText text x d fault → InText text x d fault

in_a_text : (text : List ℕ) (x : Derivation) (d : Dialect) (fault : FirstFault) → IsFirstFault text x d fault → InText text x d fault
in_a_text text x d faults.NoStep h = no_step refl h
in_a_text text x d (faults.Premises n) h = misplaced n refl h
in_a_text text x d (faults.Loose n) h = loose n refl h.0 h.1 h.2
in_a_text text x d faults.TooLarge h = too_large refl h.0 h.1
in_a_text text x d (faults.NoTerm n) h = in_text h
in_a_text text x d faults.Names h = in_text h
in_a_text text x d (faults.Entry n) h = in_text h
in_a_text text x d (faults.Step n) h = in_text h
in_a_text text x d (faults.Range n) h = in_text h

-- a list with a step at some index is not empty
not_empty_inside : {A : Type 0} (steps : List Step) (n : ℕ) → steps ≡ [] → n < length steps → A
not_empty_inside steps n none inside = let empty = ap length none in absurd (omega (arith, empty))

not_empty_one : {A : Type 0} (steps : List Step) → steps ≡ [] → AreOfOneProof steps → A
not_empty_one steps none one = never_empty steps one.make.whole one.make.are_steps (ap length none)

-- no step of one proof is misplaced
misplaced_of_one : {A : Type 0} (steps : List Step) (n : ℕ) → IsFirstMisplaced steps n → AreOfOneProof steps → A
misplaced_of_one steps n h one = one_is_placed steps one.make.whole n one.make.are_steps h

-- a text with a type that is too large is not small
large_not_small : {A : Type 0} (text : List ℕ) (x : Derivation) (d : Dialect) (fault : FirstFault) → IsTooLarge text d → IsFaultInText text x d fault → A
large_not_small text x d fault large h =
    let same = one_document text large.commands h.commands large.are_commands h.are_commands in
    absurd (h.small large.span (subst (λ cs. IsSizeFault cs large.span d) same large.is_fault))

one_in_text : (text : List ℕ) (x : Derivation) (d : Dialect) (a b : FirstFault) → IsFaultInText text x d a → IsFaultInText text x d b → a ≡ b
one_in_text text x d a b h k =
    let same = one_document text h.commands k.commands h.are_commands k.are_commands in
    one_among k.commands x d a b (among_terms k.commands x d a (subst (λ cs. IsFaultIn cs x d a) same h.is_fault)) (among_terms k.commands x d b k.is_fault)

one_stage : (text : List ℕ) (x : Derivation) (d : Dialect) (a b : FirstFault) → InText text x d a → InText text x d b → a ≡ b
one_stage text x d a b (no_step is h) (no_step also k) = is ∙ sym also
one_stage text x d a b (no_step is h) (misplaced m also k) = not_empty_inside x.steps m h k.inside
one_stage text x d a b (no_step is h) (loose m also placed long k) = not_empty_inside x.steps m h (omega arith)
one_stage text x d a b (no_step is h) (too_large also one k) = not_empty_one x.steps h one
one_stage text x d a b (no_step is h) (in_text k) = not_empty_one x.steps h k.of_one_proof
one_stage text x d a b (misplaced n is h) (no_step also k) = not_empty_inside x.steps n k h.inside
one_stage text x d a b (misplaced n is h) (misplaced m also k) = is ∙ ap (λ i. faults.Premises i) (one_misplaced x.steps n m h k) ∙ sym also
one_stage text x d a b (misplaced n is h) (loose m also placed long k) = never_misplaced x.steps n h placed
one_stage text x d a b (misplaced n is h) (too_large also one k) = misplaced_of_one x.steps n h one
one_stage text x d a b (misplaced n is h) (in_text k) = misplaced_of_one x.steps n h k.of_one_proof
one_stage text x d a b (loose n is placed long h) (no_step also k) = not_empty_inside x.steps n k (omega arith)
one_stage text x d a b (loose n is placed long h) (misplaced m also k) = never_misplaced x.steps m k placed
one_stage text x d a b (loose n is placed long h) (loose m also well far k) = is ∙ ap (λ i. faults.Loose i) (one_length n m (length x.steps) long far) ∙ sym also
one_stage text x d a b (loose n is placed long h) (too_large also one k) = absurd (h one.tree one.make)
one_stage text x d a b (loose n is placed long h) (in_text k) = absurd (h k.of_one_proof.tree k.of_one_proof.make)
one_stage text x d a b (too_large is one h) (no_step also k) = not_empty_one x.steps k one
one_stage text x d a b (too_large is one h) (misplaced m also k) = misplaced_of_one x.steps m k one
one_stage text x d a b (too_large is one h) (loose m also placed long k) = absurd (k one.tree one.make)
one_stage text x d a b (too_large is one h) (too_large also too k) = is ∙ sym also
one_stage text x d a b (too_large is one h) (in_text k) = large_not_small text x d b h k
one_stage text x d a b (in_text h) (no_step also k) = not_empty_one x.steps k h.of_one_proof
one_stage text x d a b (in_text h) (misplaced m also k) = misplaced_of_one x.steps m k h.of_one_proof
one_stage text x d a b (in_text h) (loose m also placed long k) = absurd (k h.of_one_proof.tree h.of_one_proof.make)
one_stage text x d a b (in_text h) (too_large also one k) = large_not_small text x d a k h
one_stage text x d a b (in_text h) (in_text k) = one_in_text text x d a b h k

pub one_fault : (text : List ℕ) (x : Derivation) (d : Dialect) (a b : FirstFault) → IsFirstFault text x d a → IsFirstFault text x d b → a ≡ b
one_fault text x d a b h k = one_stage text x d a b (in_a_text text x d a h) (in_a_text text x d b k)
