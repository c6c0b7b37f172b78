-- Where the terms of a command are, and what is known of commands whatever comes behind them.
use Rattle.std.proofs.Common.{◌≡◌, ◌<◌, ◌+◌, ℕ, List, [], ◌∷◌, ◌++◌, append-nil, append_assoc, length, map, refl, ap, sym, subst, ◌∙◌, arith}
use Rattle.std.specs.List.{All}
use Rattle.std.proofs.lemmas.List.{get_or_append_left, get_or-append-add}
use Rattle.std.proofs.lemmas.List.Elements.{All-head, All-tail}
use Rattle.lam_token.specs.declared.span.Span.{Span}
use Rattle.lam_syntax.specs.Trees.{CommandTree}
use Rattle.lam_scope.specs.Nameless.{abbreviations_after, names_after}
use Rattle.lam_scope.specs.PlacedTerms.{PlacedTree, term_of, command_terms, scope_after, commands_terms, document_terms, tree_in}
use Rattle.lam_scope.specs.Tables.{table, place_row_numbered}
use Rattle.lam_typing.specs.Blaming.{Blamed, renumbered}
use Rattle.lam_query.specs.Sizes.{span_numbered}
use Rattle.lam_query.specs.SyntaxFaults.{fault_at}
use Rattle.lam_query.specs.TextFaults.{blame_fault}
use Rattle.lam_query.specs.inner.Checked.{abbreviations_behind, names_behind, scope_behind}
use Rattle.lam_query.specs.inner.Rows.{own_fault}
use Rattle.lam_query.proofs.CheckedLists.{terms_append}
use Rattle.lam_query.proofs.TermsAlone.{command_row, command_size}

-- ---- the commands that are to come

-- one of them comes first
pub one_comes : (P : List CommandTree → Type 0) (done : List CommandTree) (c : CommandTree) → ((rest : List CommandTree) → P (done ++ c ∷ rest))
    → (rest : List CommandTree) → P ((done ++ c ∷ []) ++ rest)
one_comes P done c all rest = subst P (sym (append_assoc done (c ∷ []) rest)) (all rest)

-- there is one more
pub one_more : (P : List CommandTree → Type 0) (done : List CommandTree) (c : CommandTree) → ((rest : List CommandTree) → P (done ++ rest))
    → (rest : List CommandTree) → P ((done ++ c ∷ []) ++ rest)
one_more P done c all = one_comes P done c (λ rest. all (c ∷ rest))

-- there are none
pub none_come : (P : List CommandTree → Type 0) (done : List CommandTree) → ((rest : List CommandTree) → P (done ++ rest)) → P done
none_come P done all = subst P (append-nil done) (all [])

-- ---- where the terms of a command are

pub term_span : (done : List CommandTree) (c : CommandTree) (rest : List CommandTree) (n : ℕ) → n < length (table (c ∷ [])).places
    → span_numbered (done ++ c ∷ rest) (length (document_terms done) + n) ≡ (place_row_numbered (table (c ∷ [])) n).span
term_span done c rest n inside =
    let bs = abbreviations_behind done in
    let xs = names_behind done in
    let s = scope_behind done in
    let own = command_terms bs xs s c in
    let others = commands_terms (abbreviations_after bs c) (names_after xs c) (scope_after bs xs s c) rest in
    let size : length own ≡ length (table (c ∷ [])).places = command_size bs xs s c in
    let among : n < length own = omega arith in
    let span : PlacedTree → Span = λ t. (term_of t).span in
    ap (λ ts. span (tree_in ts (length (document_terms done) + n))) (terms_append done (c ∷ rest))
    ∙ ap span (get_or-append-add (document_terms done) (own ++ others) n (tree_in [] 0))
    ∙ ap span (get_or_append_left own others (tree_in [] 0) n among)
    ∙ sym (command_row bs xs s c n)

-- the faults of those that are to blame, whose numbers come behind those of the terms before
pub blames_told : (done : List CommandTree) (c : CommandTree) (rest : List CommandTree) (k : ℕ) (own : List Blamed) → k ≡ length (document_terms done)
    → All (λ b. b.number < length (table (c ∷ [])).places) own → map (own_fault c) own ≡ map (blame_fault (done ++ c ∷ rest)) (renumbered k own)
blames_told done c rest k [] same inside = refl
blames_told done c rest k (b ∷ own) same inside =
    let n = b.number in
    let here : n < length (table (c ∷ [])).places = All-head (λ (m : Blamed). m.number < length (table (c ∷ [])).places) b own inside in
    let number : length (document_terms done) + n ≡ n + k = omega arith in
    let span = sym (term_span done c rest n here) ∙ ap (span_numbered (done ++ c ∷ rest)) number in
    let others = blames_told done c rest k own same (All-tail (λ (m : Blamed). m.number < length (table (c ∷ [])).places) b own inside) in
    λ i. fault_at b.code (span i) ∷ others i
