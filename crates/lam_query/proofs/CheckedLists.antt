-- Commands in front of others: what these see, and what both have of terms, faults and types that are too large.
use Rattle.std.proofs.Common.{◌≡◌, suc, List, [], ◌∷◌, ◌++◌, append-nil, append_assoc, length, map, refl, ap, sym, ◌∙◌, Option, Some, None, fold}
use Rattle.std.specs.Option.{option_or}
use Rattle.std.proofs.lemmas.List.Sums.{fold_push}
use Rattle.lam_rules.specs.Types.{Typ}
use Rattle.lam_rules.specs.Typing.{Context}
use Rattle.lam_syntax.specs.Trees as tree
use Rattle.lam_syntax.specs.Trees.{word, CommandTree, definition, declaration, evaluation}
use Rattle.lam_scope.specs.Names.{Name}
use Rattle.lam_scope.specs.Expansions.{Abbreviation}
use Rattle.lam_scope.specs.Nameless.{statement, statements, abbreviations_after, names_after, written_in_command, faults_in, first_over_limit, faults, first_too_large}
use Rattle.lam_scope.specs.Places.{Scope, places_of}
use Rattle.lam_scope.specs.PlacedTerms.{term_of, command_terms, scope_after, commands_terms, document_terms}
use Rattle.lam_scope.specs.WellFormed.{IsWellFormedStatement, AreWellFormedStatements}
use Rattle.lam_scope.proofs.PlacedPlaces.{commands_told}
use Rattle.lam_scope.proofs.WellFormedForms.{document-wf}
use Rattle.lam_typing.specs.Binds.{scope_with, context_with}
use Rattle.lam_query.specs.inner.Checked.{abbreviations_behind, names_behind, scope_from, scope_behind, context_after}

-- ---- what the others see

pub abbreviations_push : (done : List CommandTree) (c : CommandTree) → abbreviations_behind (done ++ c ∷ []) ≡ abbreviations_after (abbreviations_behind done) c
abbreviations_push done c = fold_push abbreviations_after [] done c

pub names_push : (done : List CommandTree) (c : CommandTree) → names_behind (done ++ c ∷ []) ≡ names_after (names_behind done) c
names_push done c = fold_push names_after [] done c

scope_pushed : (bs : List Abbreviation) (xs : List (Option Name)) (s : Scope) (done : List CommandTree) (c : CommandTree)
    → scope_from bs xs s (done ++ c ∷ []) ≡ scope_after (fold abbreviations_after bs done) (fold names_after xs done) (scope_from bs xs s done) c
scope_pushed bs xs s [] c = refl
scope_pushed bs xs s (b ∷ done) c = scope_pushed (abbreviations_after bs b) (names_after xs b) (scope_after bs xs s b) done c

pub scope_push : (done : List CommandTree) (c : CommandTree)
    → scope_behind (done ++ c ∷ []) ≡ scope_after (abbreviations_behind done) (names_behind done) (scope_behind done) c
scope_push done c = scope_pushed [] [] [] done c

-- what a command binds is what its statement binds

pub scope_bound : (bs : List Abbreviation) (xs : List (Option Name)) (s : Scope) (c : CommandTree) → scope_after bs xs s c ≡ scope_with s (statement bs xs c)
scope_bound bs xs s (definition w t) = refl
scope_bound bs xs s (declaration w u) = refl
scope_bound bs xs s (tree.abbreviation w u) = refl
scope_bound bs xs s (evaluation t) = refl

pub context_bound : (bs : List Abbreviation) (xs : List (Option Name)) (g : Context) (c : CommandTree) (entry : Option Typ)
    → context_after g c entry ≡ context_with g (statement bs xs c) entry
context_bound bs xs g (definition w t) entry = refl
context_bound bs xs g (declaration w u) entry = refl
context_bound bs xs g (tree.abbreviation w u) entry = refl
context_bound bs xs g (evaluation t) entry = refl

pub lengths_after : (xs : List (Option Name)) (g : Context) (c : CommandTree) (entry : Option Typ) → length xs ≡ length g
    → length (names_after xs c) ≡ length (context_after g c entry)
lengths_after xs g (definition (word x s) t) entry same = ap suc same
lengths_after xs g (declaration (word x s) u) entry same = ap suc same
lengths_after xs g (tree.abbreviation w u) entry same = same
lengths_after xs g (evaluation t) entry same = same

-- ---- terms

terms_joined : (bs : List Abbreviation) (xs : List (Option Name)) (s : Scope) (done more : List CommandTree)
    → commands_terms bs xs s (done ++ more)
    ≡ commands_terms bs xs s done ++ commands_terms (fold abbreviations_after bs done) (fold names_after xs done) (scope_from bs xs s done) more
terms_joined bs xs s [] more = refl
terms_joined bs xs s (c ∷ done) more =
    ap (λ ts. command_terms bs xs s c ++ ts) (terms_joined (abbreviations_after bs c) (names_after xs c) (scope_after bs xs s c) done more)
    ∙ sym (append_assoc (command_terms bs xs s c) _ _)

-- the terms of commands and of the ones after them
pub terms_append : (done more : List CommandTree)
    → document_terms (done ++ more) ≡ document_terms done ++ commands_terms (abbreviations_behind done) (names_behind done) (scope_behind done) more
terms_append done more = terms_joined [] [] [] done more

pub terms_push : (done : List CommandTree) (c : CommandTree)
    → document_terms (done ++ c ∷ []) ≡ document_terms done ++ command_terms (abbreviations_behind done) (names_behind done) (scope_behind done) c
terms_push done c = terms_append done (c ∷ []) ∙ ap (λ ts. document_terms done ++ ts) (append-nil _)

-- the places of one command's terms are those of what it states
pub command_places : (bs : List Abbreviation) (xs : List (Option Name)) (s : Scope) (c : CommandTree)
    → places_of s (statement bs xs c ∷ []) ≡ map (λ t. (term_of t).place) (command_terms bs xs s c)
command_places bs xs s c = commands_told bs xs s (c ∷ []) ∙ ap (map (λ t. (term_of t).place)) (append-nil (command_terms bs xs s c))

-- ---- faults of written types

faults_joined : (bs : List Abbreviation) (done more : List CommandTree) → faults bs (done ++ more) ≡ faults bs done ++ faults (fold abbreviations_after bs done) more
faults_joined bs [] more = refl
faults_joined bs (c ∷ done) more =
    ap (λ fs. faults_in bs (written_in_command c) ++ fs) (faults_joined (abbreviations_after bs c) done more)
    ∙ sym (append_assoc (faults_in bs (written_in_command c)) _ _)

pub faults_push : (done : List CommandTree) (c : CommandTree)
    → faults [] (done ++ c ∷ []) ≡ faults [] done ++ faults_in (abbreviations_behind done) (written_in_command c)
faults_push done c = faults_joined [] done (c ∷ []) ∙ ap (λ fs. faults [] done ++ fs) (append-nil _)

-- ---- the first written type that is too large

pub first_assoc : {A : Type 0} (a b c : Option A) → option_or a (option_or b c) ≡ option_or (option_or a b) c
first_assoc None b c = refl
first_assoc (Some x) b c = refl

pub first_or_none : {A : Type 0} (a : Option A) → option_or a None ≡ a
first_or_none None = refl
first_or_none (Some x) = refl

too_large_joined : (bs : List Abbreviation) (done more : List CommandTree)
    → first_too_large bs (done ++ more) ≡ option_or (first_too_large bs done) (first_too_large (fold abbreviations_after bs done) more)
too_large_joined bs [] more = refl
too_large_joined bs (c ∷ done) more =
    ap (option_or (first_over_limit bs (written_in_command c))) (too_large_joined (abbreviations_after bs c) done more)
    ∙ first_assoc (first_over_limit bs (written_in_command c)) _ _

pub too_large_append : (done more : List CommandTree)
    → first_too_large [] (done ++ more) ≡ option_or (first_too_large [] done) (first_too_large (abbreviations_behind done) more)
too_large_append done more = too_large_joined [] done more

pub too_large_push : (done : List CommandTree) (c : CommandTree)
    → first_too_large [] (done ++ c ∷ []) ≡ option_or (first_too_large [] done) (first_over_limit (abbreviations_behind done) (written_in_command c))
too_large_push done c = too_large_append done (c ∷ []) ∙ ap (option_or (first_too_large [] done)) (first_or_none _)

-- ---- what the next command states

stated_wf : (bs : List Abbreviation) (xs : List (Option Name)) (done : List CommandTree) (c : CommandTree)
    → AreWellFormedStatements (statements bs xs (done ++ c ∷ []))
    → IsWellFormedStatement (statement (fold abbreviations_after bs done) (fold names_after xs done) c)
stated_wf bs xs [] c wf = wf.0
stated_wf bs xs (b ∷ done) c wf = stated_wf (abbreviations_after bs b) (names_after xs b) done c wf.1

pub next_wf : (done : List CommandTree) (c : CommandTree) → IsWellFormedStatement (statement (abbreviations_behind done) (names_behind done) c)
next_wf done c = stated_wf [] [] done c (document-wf (done ++ c ∷ []))
