-- The terms of a command behind the commands of its text are those of the same command behind others, one by one.
use Rattle.std.proofs.Common.{◌≡◌, ℕ, ◌+◌, ◌<◌, zero, suc, Bool, true, false, List, [], ◌∷◌, ◌++◌, length, Option, Some, refl, ap, sym, subst, ◌∙◌, fold, if◌then◌else◌, arith}
use Rattle.std.proofs.lemmas.List.{length-append, get_or_append_left, get_or-append-add}
use Rattle.lam_rules.specs.Types.{Typ}
use Rattle.lam_rules.specs.Terms.{fix}
use Rattle.lam_rules.specs.Typing.{Context, IsWellFormedContext, TypingTree, IsTyping}
use Rattle.lam_rules.specs.declared.rules.Dialect.{Dialect}
use Rattle.lam_syntax.specs.Trees as tree
use Rattle.lam_syntax.specs.Trees.{bound, TypeTree, TermTree, term_tree, TermNode, CommandTree, definition, declaration, evaluation, term_span}
use Rattle.lam_scope.specs.Expansions.{Abbreviation, meaning, is_bound, expansion}
use Rattle.lam_scope.specs.FreeNames.{without, free_in, free_in_node, free_in_fields, free_type_names_in, free_type_names_in_types, free_in_command}
use Rattle.lam_scope.specs.Meanings.{entry_named, MeanTheSame, StandForTheSame}
use Rattle.lam_scope.specs.Nameless.{nameless, abbreviations_after, names_after, written_in, written_in_node, written_in_fields, written_in_command}
use Rattle.lam_scope.specs.Names.{Name, binds}
use Rattle.lam_scope.specs.Places.{written, of_term, Scope}
use Rattle.lam_scope.specs.PlacedTerms.{no_word, PlacedTerm, PlacedTree, placed, one_part, placed_at, term_of, parts_of, letrec_function, placed_term, placed_parts, placed_fields, terms_in, terms_in_each, command_terms, scope_after, commands_terms, document_terms, tree_in}
use Rattle.lam_scope.specs.WellFormed.{IsWellFormedScope}
use Rattle.lam_scope.proofs.EveryElement.{every_append, every_parts}
use Rattle.lam_scope.proofs.FreeNamesDecide.{EachStandsForTheSame, same_expansion, alike_forms}
use Rattle.lam_scope.proofs.PlacedRows.{as_many_rows}
use Rattle.lam_scope.proofs.WellFormedForms.{AreWellFormedMeanings, expansion-wf, nameless-wf, after-wf}
use Rattle.lam_typing.specs.LeastTypes.{IsLeastAt, AreLeastEntries}
use Rattle.lam_typing.specs.Progress.{IsLowest}
use Rattle.lam_typing.proofs.AlikePlaces.{least_alike}
use Rattle.lam_typing.proofs.AlikeProofs.{alike_typing}
use Rattle.lam_typing.proofs.AlikeTerms.{alike, alike_back, alike_symmetric}
use Rattle.lam_typing.proofs.LeastContexts.{least_entries}
use Rattle.lam_typing.proofs.PlaceProofs.{entries_lowest}
use Rattle.lam_query.specs.inner.Checked.{abbreviations_behind, names_behind, scope_from, scope_behind}
use Rattle.lam_query.proofs.CheckedLists.{terms_append, terms_push}
use Rattle.lam_query.proofs.LeastEntries.{lowest_entries}
use Rattle.lam_query.proofs.SameScopes.{AreSameScopes, AreAlikeUnder, scopes_under_written, scopes_under_term}
use Rattle.lam_query.proofs.SeenAlike.{IsSeenAlike, IsSameTerm}
use Rattle.lam_query.proofs.TermsAlone.{bare, numbered_alone, command_alone, command_size}

-- ---- the types that a scope behind commands was given

scope_after_wf : (bs : List Abbreviation) → AreWellFormedMeanings bs → (xs : List (Option Name)) (s : Scope) (c : CommandTree)
    → IsWellFormedScope s → IsWellFormedScope (scope_after bs xs s c)
scope_after_wf bs wf xs s (definition w t) ws = (nameless-wf bs wf xs t, ws)
scope_after_wf bs wf xs s (declaration w u) ws = (expansion-wf bs wf u, ws)
scope_after_wf bs wf xs s (tree.abbreviation w u) ws = ws
scope_after_wf bs wf xs s (evaluation t) ws = ws

abbreviations_wf : (bs : List Abbreviation) (cs : List CommandTree) → AreWellFormedMeanings bs → AreWellFormedMeanings (fold abbreviations_after bs cs)
abbreviations_wf bs [] wf = wf
abbreviations_wf bs (c ∷ cs) wf = abbreviations_wf (abbreviations_after bs c) cs (after-wf bs wf c)

pub scope_wf : (bs : List Abbreviation) (xs : List (Option Name)) (s : Scope) (cs : List CommandTree)
    → AreWellFormedMeanings bs → IsWellFormedScope s → IsWellFormedScope (scope_from bs xs s cs)
scope_wf bs xs s [] wf ws = ws
scope_wf bs xs s (c ∷ cs) wf ws =
    scope_wf (abbreviations_after bs c) (names_after xs c) (scope_after bs xs s c) cs (after-wf bs wf c) (scope_after_wf bs wf xs s c ws)

-- ---- names under binders of the command's own

module _ (xs ys : List (Option Name)) (g h : Context) where
  -- these names mean the same under these binders of the command's own, whatever entries the binders have
  abbrev MeanTheSameUnder : List (Option Name) → List Name → Type 0
  MeanTheSameUnder own ns = (e : Context) → length e ≡ length own → MeanTheSame ns (own ++ xs) (e ++ g) (own ++ ys) (e ++ h)

  -- the names of parts
  mean_parts : (own : List (Option Name)) (ns ms : List Name) → MeanTheSameUnder own (ns ++ ms) → MeanTheSameUnder own ns × MeanTheSameUnder own ms
  mean_parts own ns ms mean = (λ e count. (parts e count).0, λ e count. (parts e count).1)
    where
      parts : (e : Context) → length e ≡ length own
          → MeanTheSame ns (own ++ xs) (e ++ g) (own ++ ys) (e ++ h) × MeanTheSame ms (own ++ xs) (e ++ g) (own ++ ys) (e ++ h)
      parts e count = every_parts (λ x. entry_named x (own ++ xs) (e ++ g) ≡ entry_named x (own ++ ys) (e ++ h)) ns ms (mean e count)

  -- the names inside of one binder more
  mean_inside : (own : List (Option Name)) (b : Option Name) (ns : List Name) → MeanTheSameUnder own (without b ns) → MeanTheSameUnder (b ∷ own) ns
  mean_inside own b ns mean [] count = absurd (omega (arith, count))
  mean_inside own b ns mean (entry ∷ e) count = inside ns (mean e (omega (arith, count)))
    where
      inside : (ms : List Name) → MeanTheSame (without b ms) (own ++ xs) (e ++ g) (own ++ ys) (e ++ h)
          → MeanTheSame ms (b ∷ own ++ xs) (entry ∷ e ++ g) (b ∷ own ++ ys) (entry ∷ e ++ h)
      inside [] same = tt
      inside (m ∷ ms) same = by (binds b m) (λ rest. inside ms rest) same
        where
          by : (c : Bool)
              → (MeanTheSame (without b ms) (own ++ xs) (e ++ g) (own ++ ys) (e ++ h)
              → MeanTheSame ms (b ∷ own ++ xs) (entry ∷ e ++ g) (b ∷ own ++ ys) (entry ∷ e ++ h))
              → MeanTheSame (if c then without b ms else m ∷ without b ms) (own ++ xs) (e ++ g) (own ++ ys) (e ++ h)
              → ((if c then Some entry else entry_named m (own ++ xs) (e ++ g)) ≡ (if c then Some entry else entry_named m (own ++ ys) (e ++ h)))
              × MeanTheSame ms (b ∷ own ++ xs) (entry ∷ e ++ g) (b ∷ own ++ ys) (entry ∷ e ++ h)
          by true others rest = (refl, others rest)
          by false others rest = (rest.0, others rest.1)

-- ---- written types

module _ (bs cs : List Abbreviation) where
  each_stands : (us : List TypeTree) → StandForTheSame (free_type_names_in_types us) bs cs → EachStandsForTheSame bs cs us
  each_stands [] same = tt
  each_stands (u ∷ us) same =
      let apart = every_parts (λ x. (meaning x bs ≡ meaning x cs) × (is_bound x bs ≡ is_bound x cs)) (free_type_names_in u) (free_type_names_in_types us) same in
      (apart.0, each_stands us apart.1)

  all_stand : (us : List TypeTree) → EachStandsForTheSame bs cs us → StandForTheSame (free_type_names_in_types us) bs cs
  all_stand [] each = tt
  all_stand (u ∷ us) each =
      every_append (λ x. (meaning x bs ≡ meaning x cs) × (is_bound x bs ≡ is_bound x cs)) (free_type_names_in u) (free_type_names_in_types us) each.0 (all_stand us each.1)

  stand_parts : (us vs : List TypeTree) → EachStandsForTheSame bs cs (us ++ vs) → EachStandsForTheSame bs cs us × EachStandsForTheSame bs cs vs
  stand_parts us vs each = every_parts (λ u. StandForTheSame (free_type_names_in u) bs cs) us vs each

-- ---- terms in pairs

-- The command sees abbreviations bs and names xs behind the commands of its text, cs and ys behind the others. A tells that they mean the same.
module _ (bs cs : List Abbreviation) (xs ys : List (Option Name)) (g h : Context) (d : Dialect) (A : Type 0) where
  -- Terms p and q see the same binders of the command's own. Where A holds, their scopes are the same for these, and they are alike.
  record ArePair (p q : PlacedTerm) : Type 0 where
    own : List (Option Name)
    names : p.names ≡ own ++ xs
    alone_names : q.names ≡ own ++ ys
    scopes : A → AreSameScopes g h d own p.place.scope q.place.scope
    are_alike : A → AreAlikeUnder g h d own p.place.here q.place.here

  -- as many terms as others, one by one
  data AllPairs : List PlacedTree → List PlacedTree → Type 0 where
    no_pairs : AllPairs [] []
    pair_first : {p q : PlacedTree} {ps qs : List PlacedTree} → ArePair (term_of p) (term_of q) → AllPairs ps qs → AllPairs (p ∷ ps) (q ∷ qs)

  pairs_before : {ps qs us vs : List PlacedTree} → AllPairs ps qs → AllPairs us vs → AllPairs (ps ++ us) (qs ++ vs)
  pairs_before no_pairs rest = rest
  pairs_before (pair_first pair pairs) rest = pair_first pair (pairs_before pairs rest)

  -- the terms in two terms: those in their parts, and themselves
  pairs_in : (p q : PlacedTree) → AllPairs (terms_in_each (parts_of p)) (terms_in_each (parts_of q)) → ArePair (term_of p) (term_of q) → AllPairs (terms_in p) (terms_in q)
  pairs_in (placed t ps) (placed u qs) parts pair = pairs_before parts (pair_first pair no_pairs)

  -- the terms of one number
  pair_at : {ps qs : List PlacedTree} (n : ℕ) → AllPairs ps qs → n < length qs → ArePair (term_of (tree_in ps n)) (term_of (tree_in qs n))
  pair_at n no_pairs lt = absurd (omega (arith, lt))
  pair_at zero (pair_first pair pairs) lt = pair
  pair_at (suc n) (pair_first pair pairs) lt = pair_at n pairs (omega (arith, lt))

  -- what is known of a name's meanings and of written types, where A holds
  abbrev Mean : List (Option Name) → List Name → Type 0
  Mean own ns = A → MeanTheSameUnder xs ys g h own ns

  abbrev Stand : List TypeTree → Type 0
  Stand us = A → EachStandsForTheSame bs cs us

  abbrev Scopes : List (Option Name) → Scope → Scope → Type 0
  Scopes own s r = A → AreSameScopes g h d own s r

  means_apart : (own : List (Option Name)) (ns ms : List Name) → Mean own (ns ++ ms) → Mean own ns × Mean own ms
  means_apart own ns ms mean = (λ a. (mean_parts xs ys g h own ns ms (mean a)).0, λ a. (mean_parts xs ys g h own ns ms (mean a)).1)

  stand_apart : (us vs : List TypeTree) → Stand (us ++ vs) → Stand us × Stand vs
  stand_apart us vs stand = (λ a. (stand_parts bs cs us vs (stand a)).0, λ a. (stand_parts bs cs us vs (stand a)).1)

  module _ (wf : AreWellFormedMeanings cs) (lengths : A → length xs ≡ length g) (alone_lengths : A → length ys ≡ length h) where
    counted : (own zs : List (Option Name)) (e k : Context) → length e ≡ length own → length zs ≡ length k → length (own ++ zs) ≡ length (e ++ k)
    counted own zs e k count same = length-append own zs ∙ (λ i. sym count i + same i) ∙ sym (length-append e k)

    -- the nameless forms of a term
    forms_alike : (own : List (Option Name)) (t : TermTree) → Mean own (free_in t) → Stand (written_in t)
        → A → AreAlikeUnder g h d own (nameless bs (own ++ xs) t) (nameless cs (own ++ ys) t)
    forms_alike own t mean stand a e count =
        alike_forms bs cs (own ++ xs) (e ++ g) (own ++ ys) (e ++ h) t (counted own xs e g count (lengths a)) (counted own ys e h count (alone_lengths a))
        (mean a e count) (all_stand bs cs (written_in t) (stand a))

    -- under one binder more
    under_written : (own : List (Option Name)) (b : Option Name) (s r : Scope) (u : TypeTree) → (A → StandForTheSame (free_type_names_in u) bs cs) → Scopes own s r
        → Scopes (b ∷ own) (written (expansion bs u) ∷ s) (written (expansion cs u) ∷ r)
    under_written own b s r u stands same a =
        scopes_under_written g h d own b s r (expansion bs u) (expansion cs u) (same_expansion bs cs u (stands a)) (expansion-wf cs wf u) (same a)

    mutual
      pairs_of_term : (own : List (Option Name)) (s r : Scope) → Scopes own s r → (t : TermTree) → Mean own (free_in t) → Stand (written_in t)
          → AllPairs (terms_in (placed_term bs (own ++ xs) s t)) (terms_in (placed_term cs (own ++ ys) r t))
      pairs_of_term own s r same (term_tree q n) mean stand =
          pairs_in (placed_term bs (own ++ xs) s (term_tree q n)) (placed_term cs (own ++ ys) r (term_tree q n)) (pairs_of_parts own s r same n mean stand)
          (record { own = own; names = refl; alone_names = refl; scopes = same; are_alike = forms_alike own (term_tree q n) mean stand })

      pairs_of_parts : (own : List (Option Name)) (s r : Scope) → Scopes own s r → (n : TermNode) → Mean own (free_in_node n) → Stand (written_in_node n)
          → AllPairs (terms_in_each (placed_parts bs (own ++ xs) s n)) (terms_in_each (placed_parts cs (own ++ ys) r n))
      pairs_of_parts own s r same tree.true_term mean stand = no_pairs
      pairs_of_parts own s r same tree.false_term mean stand = no_pairs
      pairs_of_parts own s r same tree.unit_term mean stand = no_pairs
      pairs_of_parts own s r same (tree.variable w) mean stand = no_pairs
      pairs_of_parts own s r same (tree.numeral w) mean stand = no_pairs
      pairs_of_parts own s r same (tree.lambda (bound b q) u t) mean stand =
          let inner = under_written own b s r u (λ a. (stand a).0) same in
          pairs_before
          (pairs_of_term (b ∷ own) (written (expansion bs u) ∷ s) (written (expansion cs u) ∷ r) inner t (λ a. mean_inside xs ys g h own b (free_in t) (mean a)) (λ a. (stand a).1))
          no_pairs
      pairs_of_parts own s r same (tree.if_term c t u) mean stand =
          let last = means_apart own (free_in c ++ free_in t) (free_in u) mean in
          let names = means_apart own (free_in c) (free_in t) last.0 in
          let last_types = stand_apart (written_in c ++ written_in t) (written_in u) stand in
          let types = stand_apart (written_in c) (written_in t) last_types.0 in
          pairs_before (pairs_of_term own s r same c names.0 types.0)
          (pairs_before (pairs_of_term own s r same t names.1 types.1) (pairs_before (pairs_of_term own s r same u last.1 last_types.1) no_pairs))
      pairs_of_parts own s r same (tree.let_term (bound b q) t u) mean stand =
          let names = means_apart own (free_in t) (without b (free_in u)) mean in
          let types = stand_apart (written_in t) (written_in u) stand in
          let x = nameless bs (own ++ xs) t in
          let y = nameless cs (own ++ ys) t in
          let inner : Scopes (b ∷ own) (of_term x ∷ s) (of_term y ∷ r) =
          λ a. scopes_under_term g h d own b s r x y (nameless-wf cs wf (own ++ ys) t) (forms_alike own t names.0 types.0 a) (same a) in
          pairs_before (pairs_of_term own s r same t names.0 types.0)
          (pairs_before (pairs_of_term (b ∷ own) (of_term x ∷ s) (of_term y ∷ r) inner u (λ a. mean_inside xs ys g h own b (free_in u) (names.1 a)) types.1) no_pairs)
      pairs_of_parts own s r same (tree.letrec_term (bound b q) w t u) mean stand =
          let types = stand_apart (written_in t) (written_in u) (λ a. (stand a).1) in
          let names = means_apart (b ∷ own) (free_in t) (free_in u) (λ a. mean_inside xs ys g h own b (free_in t ++ free_in u) (mean a)) in
          let x = letrec_function bs w (nameless bs (b ∷ (own ++ xs)) t) in
          let y = letrec_function cs w (nameless cs (b ∷ (own ++ ys)) t) in
          let are : A → AreAlikeUnder g h d own x y = λ a e count. (forms_alike own (term_tree q (tree.letrec_term (bound b q) w t u)) mean stand a e count).0 in
          let inner : Scopes (b ∷ own) (of_term (fix x) ∷ s) (of_term (fix y) ∷ r) =
          λ a. scopes_under_term g h d own b s r (fix x) (fix y) (expansion-wf cs wf w, nameless-wf cs wf (b ∷ (own ++ ys)) t) (are a) (same a) in
          let first = placed_term bs (b ∷ (own ++ xs)) (written (expansion bs w) ∷ s) t in
          let alone_first = placed_term cs (b ∷ (own ++ ys)) (written (expansion cs w) ∷ r) t in
          let function = placed_at (term_span t) no_word false (own ++ xs) s x (one_part first) in
          let alone_function = placed_at (term_span t) no_word false (own ++ ys) r y (one_part alone_first) in
          let fixed = placed_at (term_span t) no_word false (own ++ xs) s (fix x) (one_part function) in
          let alone_fixed = placed_at (term_span t) no_word false (own ++ ys) r (fix y) (one_part alone_function) in
          let in_first : AllPairs (terms_in first) (terms_in alone_first) =
          pairs_of_term (b ∷ own) (written (expansion bs w) ∷ s) (written (expansion cs w) ∷ r) (under_written own b s r w (λ a. (stand a).0) same) t names.0 types.0 in
          let in_function : AllPairs (terms_in function) (terms_in alone_function) =
          pairs_in function alone_function (pairs_before in_first no_pairs) (record { own = own; names = refl; alone_names = refl; scopes = same; are_alike = are }) in
          let in_fixed : AllPairs (terms_in fixed) (terms_in alone_fixed) =
          pairs_in fixed alone_fixed (pairs_before in_function no_pairs) (record { own = own; names = refl; alone_names = refl; scopes = same; are_alike = are }) in
          pairs_before in_fixed (pairs_before (pairs_of_term (b ∷ own) (of_term (fix x) ∷ s) (of_term (fix y) ∷ r) inner u names.1 types.1) no_pairs)
      pairs_of_parts own s r same (tree.prefixed p t) mean stand = pairs_before (pairs_of_term own s r same t mean stand) no_pairs
      pairs_of_parts own s r same (tree.apply t u) mean stand =
          let names = means_apart own (free_in t) (free_in u) mean in
          let types = stand_apart (written_in t) (written_in u) stand in
          pairs_before (pairs_of_term own s r same t names.0 types.0) (pairs_before (pairs_of_term own s r same u names.1 types.1) no_pairs)
      pairs_of_parts own s r same (tree.project t l) mean stand = pairs_before (pairs_of_term own s r same t mean stand) no_pairs
      pairs_of_parts own s r same (tree.ascribe t u) mean stand =
          pairs_before (pairs_of_term own s r same t mean (stand_apart (written_in t) (u ∷ []) stand).0) no_pairs
      pairs_of_parts own s r same (tree.record_term fs) mean stand = pairs_of_fields own s r same fs mean stand

      pairs_of_fields : (own : List (Option Name)) (s r : Scope) → Scopes own s r → (fs : tree.FieldTrees) → Mean own (free_in_fields fs) → Stand (written_in_fields fs)
          → AllPairs (terms_in_each (placed_fields bs (own ++ xs) s fs)) (terms_in_each (placed_fields cs (own ++ ys) r fs))
      pairs_of_fields own s r same tree.no_fields mean stand = no_pairs
      pairs_of_fields own s r same (tree.field l t fs) mean stand =
          let names = means_apart own (free_in t) (free_in_fields fs) mean in
          let types = stand_apart (written_in t) (written_in_fields fs) stand in
          pairs_before (pairs_of_term own s r same t names.0 types.0) (pairs_of_fields own s r same fs names.1 types.1)

    -- those of the command
    pairs_of_command : (s r : Scope) → Scopes [] s r → (c : CommandTree) → Mean [] (free_in_command c) → Stand (written_in_command c)
        → AllPairs (command_terms bs xs s c) (command_terms cs ys r c)
    pairs_of_command s r same (definition w t) mean stand = pairs_of_term [] s r same t mean stand
    pairs_of_command s r same (declaration w u) mean stand = no_pairs
    pairs_of_command s r same (tree.abbreviation w u) mean stand = no_pairs
    pairs_of_command s r same (evaluation t) mean stand = pairs_of_term [] s r same t mean stand

-- ---- the command in its text, and behind the others

module _ (done pre : List CommandTree) (c : CommandTree) (rest : List CommandTree) where
  -- its terms in the text
  abbrev Here : List PlacedTree
  Here = command_terms (abbreviations_behind done) (names_behind done) (scope_behind done) c

  -- and those behind the others
  abbrev There : List PlacedTree
  There = command_terms (abbreviations_behind pre) (names_behind pre) (scope_behind pre) c

  as_many : (bs : List Abbreviation) (xs : List (Option Name)) (s : Scope) (n : ℕ) → n < length (document_terms (c ∷ [])) → n < length (command_terms bs xs s c)
  as_many bs xs s n lt = subst (λ k. n < k) (sym (as_many_rows (c ∷ [])) ∙ sym (command_size bs xs s c)) lt

  -- they are among those of all commands
  term_here : (n : ℕ) → n < length (document_terms (c ∷ []))
      → tree_in (document_terms (done ++ (c ∷ rest))) (length (document_terms done) + n) ≡ tree_in Here n
  term_here n lt =
      let bs = abbreviations_behind done in
      let xs = names_behind done in
      let s = scope_behind done in
      let others = commands_terms (abbreviations_after bs c) (names_after xs c) (scope_after bs xs s c) rest in
      ap (λ ts. tree_in ts (length (document_terms done) + n)) (terms_append done (c ∷ rest))
      ∙ get_or-append-add (document_terms done) (Here ++ others) n (tree_in [] 0)
      ∙ get_or_append_left Here others (tree_in [] 0) n (as_many bs xs s n lt)

  term_there : document_terms pre ≡ [] → (n : ℕ) → tree_in (document_terms (pre ++ c ∷ [])) n ≡ tree_in There n
  term_there none n = ap (λ ts. tree_in ts n) (terms_push pre c ∙ ap (λ ts. ts ++ There) none)

  there_wf : AreWellFormedMeanings (abbreviations_behind pre)
  there_wf = abbreviations_wf [] pre tt

  -- ---- the same terms

  module _ (g h : Context) (d : Dialect) where
    -- what the command sees
    scopes_behind : IsSeenAlike done pre g h c d → AreSameScopes g h d [] (scope_behind done) (scope_behind pre)
    scopes_behind seen = record {
      wf = scope_wf [] [] [] pre tt tt;
      alone_entries = λ k are. ([], refl, seen.written k are);
      least = least;
      lowest = low;
    }
      where
        least : (e : Context) → length e ≡ 0 → AreLeastEntries (scope_behind pre) (e ++ h) d → AreLeastEntries (scope_behind done) (e ++ g) d
        least [] count are = lowest_entries (scope_behind done) g d seen.lowest
        least (entry ∷ e) count are = absurd (omega (arith, count))

        low : (e : Context) → length e ≡ 0 → IsLowest (scope_behind pre) (e ++ h) d → IsLowest (scope_behind done) (e ++ g) d
        low [] count is = seen.lowest
        low (entry ∷ e) count is = absurd (omega (arith, count))

    names_mean : IsSeenAlike done pre g h c d → MeanTheSameUnder (names_behind done) (names_behind pre) g h [] (free_in_command c)
    names_mean seen [] count = seen.names_mean
    names_mean seen (entry ∷ e) count = absurd (omega (arith, count))

    pair_is : (p q : PlacedTree)
        → ArePair (abbreviations_behind done) (abbreviations_behind pre) (names_behind done) (names_behind pre) g h d (Unit {0}) (term_of p) (term_of q)
        → bare p ≡ bare q → IsSameTerm done pre g h p q d
    pair_is p q pair same = record {
      own = pair.own;
      names = pair.names;
      alone_names = pair.alone_names;
      alone_wf = (pair.scopes tt).wf;
      alone_entries = (pair.scopes tt).alone_entries;
      least = (pair.scopes tt).least;
      lowest = (pair.scopes tt).lowest;
      alike = pair.are_alike tt;
      same = same;
    }

    here_and_there : IsSeenAlike done pre g h c d → (n : ℕ) → n < length (document_terms (c ∷ [])) → IsSameTerm done pre g h (tree_in Here n) (tree_in There n) d
    here_and_there seen n lt =
        let bs = abbreviations_behind done in
        let cs = abbreviations_behind pre in
        let xs = names_behind done in
        let ys = names_behind pre in
        let s = scope_behind done in
        let r = scope_behind pre in
        let pairs = pairs_of_command bs cs xs ys g h d (Unit {0}) there_wf (λ a. seen.lengths) (λ a. seen.alone_lengths) s r (λ a. scopes_behind seen) c
        (λ a. names_mean seen) (λ a. each_stands bs cs (written_in_command c) seen.types_stand) in
        pair_is (tree_in Here n) (tree_in There n) (pair_at bs cs xs ys g h d (Unit {0}) n pairs (as_many cs ys r n lt))
        (numbered_alone Here There n (command_alone bs cs xs ys s r c))

pub same_terms : (done pre : List CommandTree) (g h : Context) (c : CommandTree) (rest : List CommandTree) (d : Dialect) → IsSeenAlike done pre g h c d
    → (n : ℕ) → n < length (document_terms (c ∷ []))
    → IsSameTerm done pre g h (tree_in (document_terms (done ++ (c ∷ rest))) (length (document_terms done) + n)) (tree_in (document_terms (pre ++ c ∷ [])) n) d
same_terms done pre g h c rest d seen n lt =
    let there = tree_in (There done pre c rest) n in
    subst (λ p. IsSameTerm done pre g h p (tree_in (document_terms (pre ++ c ∷ [])) n) d) (sym (term_here done pre c rest n lt))
    (subst (λ q. IsSameTerm done pre g h (tree_in (Here done pre c rest) n) q d) (sym (term_there done pre c rest seen.no_terms n))
    (here_and_there done pre c rest g h d seen n lt))

-- the binders that the terms see, whatever the names mean
pub same_names : (done pre : List CommandTree) (c : CommandTree) (rest : List CommandTree) → document_terms pre ≡ [] → (n : ℕ) → n < length (document_terms (c ∷ []))
    → (own : List (Option Name)) × ((term_of (tree_in (document_terms (done ++ (c ∷ rest))) (length (document_terms done) + n))).names ≡ own ++ names_behind done)
    × ((term_of (tree_in (document_terms (pre ++ c ∷ [])) n)).names ≡ own ++ names_behind pre)
same_names done pre c rest none n lt =
    let bs = abbreviations_behind done in
    let cs = abbreviations_behind pre in
    let xs = names_behind done in
    let ys = names_behind pre in
    let pairs = pairs_of_command bs cs xs ys [] [] Dialect.One ⊥ (there_wf done pre c rest) (λ a. absurd a) (λ a. absurd a) (scope_behind done) (scope_behind pre)
    (λ a. absurd a) c (λ a. absurd a) (λ a. absurd a) in
    let pair = pair_at bs cs xs ys [] [] Dialect.One ⊥ n pairs (as_many done pre c rest cs ys (scope_behind pre) n lt) in (
      pair.own,
      ap (λ p. (term_of p).names) (term_here done pre c rest n lt) ∙ pair.names,
      ap (λ p. (term_of p).names) (term_there done pre c rest none n) ∙ pair.alone_names,
    )

-- ---- what is known of the one is known of the other

-- the same entries of the command's own binders give both their least entries
pub record AreEntriesOfBoth (done pre : List CommandTree) (g h : Context) (p q : PlacedTree) (d : Dialect) (same : IsSameTerm done pre g h p q d) (k : Context) : Type 0 where
  pub own : Context
  pub count : length own ≡ length same.own
  pub are : k ≡ own ++ h
  pub least : AreLeastEntries (term_of p).place.scope (own ++ g) d
  pub lowest : IsLowest (term_of p).place.scope (own ++ g) d
  pub alone_lowest : IsLowest (term_of q).place.scope (own ++ h) d

pub entries_of_both : (done pre : List CommandTree) (g h : Context) (p q : PlacedTree) (d : Dialect) (same : IsSameTerm done pre g h p q d) (k : Context)
    → AreLeastEntries (term_of q).place.scope k d → AreEntriesOfBoth done pre g h p q d same k
entries_of_both done pre g h p q d same k each =
    let own = same.alone_entries k each in
    let there : AreLeastEntries (term_of q).place.scope (own.0 ++ h) d = subst (λ x. AreLeastEntries (term_of q).place.scope x d) own.2 each in
    let low = entries_lowest (term_of q).place.scope (own.0 ++ h) d same.alone_wf there in
    record {
      own = own.0;
      count = own.1;
      are = own.2;
      least = same.least own.0 own.1 there;
      lowest = same.lowest own.0 own.1 low;
      alone_lowest = low;
    }

pub both_lowest : (done pre : List CommandTree) (g h : Context) (p q : PlacedTree) (d : Dialect) (same : IsSameTerm done pre g h p q d)
    → (k : Context) × AreEntriesOfBoth done pre g h p q d same k
both_lowest done pre g h p q d same =
    let k = least_entries (term_of q).place.scope d same.alone_wf in
    (k.0, entries_of_both done pre g h p q d same k.0 k.1)

-- the least type of a term of the command alone is that of the same term in the text
pub least_same : (done pre : List CommandTree) (g h : Context) (p q : PlacedTree) (o : Option Typ) (d : Dialect) → IsSameTerm done pre g h p q d
    → IsLeastAt (term_of q).place.scope (term_of q).place.here o d → IsLeastAt (term_of p).place.scope (term_of p).place.here o d
least_same done pre g h p q o d same least =
    let both = (both_lowest done pre g h p q d same).1 in
    let are = alike (both.own ++ g) (term_of p).place.here (both.own ++ h) (term_of q).place.here (same.alike both.own both.count) in
    least_alike o (alike_back are) both.alone_lowest both.lowest least

-- and the other way
pub least_back : (done pre : List CommandTree) (g h : Context) (p q : PlacedTree) (o : Option Typ) (d : Dialect) → IsSameTerm done pre g h p q d
    → IsLeastAt (term_of p).place.scope (term_of p).place.here o d → IsLeastAt (term_of q).place.scope (term_of q).place.here o d
least_back done pre g h p q o d same least =
    let both = (both_lowest done pre g h p q d same).1 in
    let are = alike (both.own ++ g) (term_of p).place.here (both.own ++ h) (term_of q).place.here (same.alike both.own both.count) in
    least_alike o are both.lowest both.alone_lowest least

-- a proof for the term of the command alone is a proof for the same term in the text
pub proof_same : (done pre : List CommandTree) (g h : Context) (p q : PlacedTree) (proof : TypingTree) (d : Dialect) (same : IsSameTerm done pre g h p q d)
    → (e : Context) → length e ≡ length same.own → IsWellFormedContext (e ++ g)
    → IsTyping (e ++ h) (term_of q).place.here proof d → IsTyping (e ++ g) (term_of p).place.here proof d
proof_same done pre g h p q proof d same e count wf typing =
    alike_typing (e ++ h) (e ++ g) (term_of q).place.here (term_of p).place.here proof d
    (alike_symmetric (e ++ g) (e ++ h) (term_of p).place.here (term_of q).place.here (same.alike e count)) wf typing
