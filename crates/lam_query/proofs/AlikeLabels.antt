-- What is listed behind a dot in a command that stands alone, behind its stand-ins, is listed there in its text.
use Rattle.std.proofs.Common.{◌≡◌, ℕ, zero, suc, ◌+◌, ◌<◌, ◌≤◌, arith, List, [], ◌∷◌, ◌++◌, append-nil, length, map, take, get_or, refl, ap, sym, subst, ◌∙◌, Option, Some, None, true}
use Rattle.std.specs.Option.{option_or}
use Rattle.std.proofs.lemmas.List.{length-map, length-append, map-append, get_or-append-add}
use Rattle.std.proofs.lemmas.List.Elements.{All-weaker}
use Rattle.lam_token.specs.declared.span.Span.{Span}
use Rattle.lam_rules.specs.Types.{Label, Typ}
use Rattle.lam_rules.specs.Terms.{Term, project}
use Rattle.lam_rules.specs.Texts.{text as text_of_type}
use Rattle.lam_rules.specs.Typing.{Context}
use Rattle.lam_rules.specs.declared.rules.Dialect.{Dialect}
use Rattle.lam_syntax.specs.Trees.{CommandTree}
use Rattle.lam_scope.specs.Alike.{AreAlike}
use Rattle.lam_scope.specs.Expansions.{Abbreviation}
use Rattle.lam_scope.specs.Labels.{place_in}
use Rattle.lam_scope.specs.Nameless.{abbreviations_after, names_after, written_in_command, first_over_limit, first_too_large}
use Rattle.lam_scope.specs.Names.{Name}
use Rattle.lam_scope.specs.Places.{Scope, Place}
use Rattle.lam_scope.specs.PlacedTerms.{label_at, PlacedTree, placed, term_of, parts_of, scope_after, command_terms, commands_terms, document_terms, tree_in}
use Rattle.lam_scope.proofs.FreeNamesDecide.{same_command_limit}
use Rattle.lam_typing.specs.Analysis.{AreLeast, AreSmall, IsFirstTooLarge}
use Rattle.lam_typing.specs.Blaming.{Blamed}
use Rattle.lam_typing.specs.LeastTypes.{IsLeastAt}
use Rattle.lam_query.specs.Completions.{Item, IsSmallUpTo}
use Rattle.lam_query.specs.Sizes.{places_in}
use Rattle.lam_query.specs.inner.Checked.{abbreviations_behind, names_behind, scope_behind, AreChecked}
use Rattle.lam_query.specs.inner.Listed.{IsProjection, HasLeast, AreFields, AreListed, fields, too_large}
use Rattle.lam_query.proofs.AskedTerms.{projection_of}
use Rattle.lam_query.proofs.CheckedLists.{terms_append, too_large_append, too_large_push}
use Rattle.lam_query.proofs.RowsAndTerms.{place_told, get_or-told}
use Rattle.lam_query.proofs.SameTerms.{same_terms, least_same, least_back}
use Rattle.lam_query.proofs.SeenAlike.{IsSeenAlike, IsSameTerm}
use Rattle.lam_query.proofs.Small.{none_too_large}
use Rattle.lam_query.proofs.TermsAlone.{bare, same_own, commands_alone}
use Rattle.lam_query.proofs.NoneLarge.{none_of_both}

-- ---- places that have the same least types

abbrev HaveOneLeast : Dialect → Place → Place → Type 0
HaveOneLeast d p q = (o : Option Typ) → IsLeastAt p.scope p.here o d → IsLeastAt q.scope q.here o d

abbrev AllHaveOneLeast : Dialect → List Place → List Place → Type 0
AllHaveOneLeast d [] [] = Unit {0}
AllHaveOneLeast d (p ∷ ps) (q ∷ qs) = HaveOneLeast d p q × AllHaveOneLeast d ps qs
AllHaveOneLeast d [] (q ∷ qs) = ⊥
AllHaveOneLeast d (p ∷ ps) [] = ⊥

first_there : (d : Dialect) (ps qs : List Place) (n : ℕ) → AllHaveOneLeast d ps qs → IsFirstTooLarge ps n d → IsFirstTooLarge qs n d
first_there d [] [] n same first = first
first_there d [] (q ∷ qs) n same first = absurd same
first_there d (p ∷ ps) [] n same first = absurd same
first_there d (p ∷ ps) (q ∷ qs) zero same first = (first.0, same.0 (Some first.0) first.1, first.2)
first_there d (p ∷ ps) (q ∷ qs) (suc n) same first = (first.0, same.0 first.0 first.1, first.2, first_there d ps qs n same.1 first.3)

-- the first places of two lists have the same least types if each pair of them has
all_same : (d : Dialect) (n : ℕ) (ps qs : List Place) (default : Place) → n ≤ length ps → n ≤ length qs
    → ((k : ℕ) → k < n → HaveOneLeast d (get_or ps k default) (get_or qs k default)) → AllHaveOneLeast d (take n ps) (take n qs)
all_same d zero [] [] default le le' same = tt
all_same d zero [] (q ∷ qs) default le le' same = tt
all_same d zero (p ∷ ps) [] default le le' same = tt
all_same d zero (p ∷ ps) (q ∷ qs) default le le' same = tt
all_same d (suc n) [] qs default le le' same = absurd (omega arith)
all_same d (suc n) (p ∷ ps) [] default le le' same = absurd (omega arith)
all_same d (suc n) (p ∷ ps) (q ∷ qs) default le le' same =
    (same 0 (omega arith), all_same d n ps qs default (omega arith) (omega arith) (λ k lt. same (suc k) (omega arith)))

-- ---- places behind others of which none is too large

first_later : (ps qs : List Place) (os : List (Option Typ)) (n : ℕ) (d : Dialect) → AreLeast ps os d → AreSmall os → IsFirstTooLarge (ps ++ qs) n d
    → (m : ℕ) × IsFirstTooLarge qs m d
first_later [] qs [] n d least small first = (n, first)
first_later [] qs (o ∷ os) n d least small first = absurd least
first_later (p ∷ ps) qs [] n d least small first = absurd least
first_later (p ∷ ps) qs (o ∷ os) zero d least small first = absurd (none_too_large (p ∷ []) (o ∷ []) 0 d (least.0, tt) (small.0, tt) first)
first_later (p ∷ ps) qs (o ∷ os) (suc n) d least small first = first_later ps qs os n d least.1 small.1 first.3

later_first : (ps qs : List Place) (os : List (Option Typ)) (n : ℕ) (d : Dialect) → AreLeast ps os d → AreSmall os → IsFirstTooLarge qs n d
    → (m : ℕ) × IsFirstTooLarge (ps ++ qs) m d
later_first [] qs [] n d least small first = (n, first)
later_first [] qs (o ∷ os) n d least small first = absurd least
later_first (p ∷ ps) qs [] n d least small first = absurd least
later_first (p ∷ ps) qs (o ∷ os) n d least small first =
    let rest = later_first ps qs os n d least.1 small.1 first in
    (suc rest.0, (o, least.0, small.0, rest.1))

take_behind : {X : Type 0} (xs ys : List X) (k n : ℕ) → k ≡ length xs + n → take k (xs ++ ys) ≡ xs ++ take n ys
take_behind [] ys k n is = ap (λ m. take m ys) (omega (arith, is))
take_behind (x ∷ xs) ys zero n is = absurd (omega (arith, is))
take_behind (x ∷ xs) ys (suc k) n is = ap (λ zs. x ∷ zs) (take_behind xs ys k n (omega (arith, is)))

both_none : (x y : Option Span) → x ≡ None → y ≡ None → option_or x y ≡ None
both_none x y none none' = ap (λ o. option_or o y) none ∙ none'

-- ---- a projection of any label

-- a term in the place of another
abbrev with_here : PlacedTree → Term → PlacedTree
with_here p e = placed (record (term_of p) { place = record { scope = (term_of p).place.scope; here = e } }) (parts_of p)

same_bare : (p : PlacedTree) (e : Term) → bare (with_here p e) ≡ bare p
same_bare (placed t ps) e = refl

-- ---- the command behind its stand-ins, and in its text

abbrev place_of : PlacedTree → Place
place_of t = (term_of t).place

module _ (done pre : List CommandTree) (g h : Context) (c : CommandTree) (rest : List CommandTree) (found : List (Option Typ)) (blames : List Blamed) (d : Dialect)
    (checked : AreChecked done g found blames d) (alike : IsSeenAlike done pre g h c d) where
  -- the commands of the text
  abbrev Whole : List CommandTree
  Whole = done ++ (c ∷ rest)

  -- the command and its stand-ins
  abbrev Alone : List CommandTree
  Alone = pre ++ c ∷ []

  -- how many terms stand before it in the text
  abbrev before : ℕ
  before = length (document_terms done)

  -- and how many it has
  abbrev count : ℕ
  count = length (document_terms (c ∷ []))

  -- its terms in the text, and those behind it
  abbrev More : List PlacedTree
  More = commands_terms (abbreviations_behind done) (names_behind done) (scope_behind done) (c ∷ rest)

  alone_terms : document_terms Alone ≡ commands_terms (abbreviations_behind pre) (names_behind pre) (scope_behind pre) (c ∷ [])
  alone_terms = terms_append pre (c ∷ []) ∙ ap (λ ts. ts ++ commands_terms (abbreviations_behind pre) (names_behind pre) (scope_behind pre) (c ∷ [])) alike.no_terms

  one_count : (bs : List Abbreviation) (xs : List (Option Name)) (s : Scope) → length (commands_terms bs xs s (c ∷ [])) ≡ count
  one_count bs xs s =
      sym (length-map (commands_terms bs xs s (c ∷ [])) bare) ∙ ap length (commands_alone bs [] xs [] s [] (c ∷ [])) ∙ length-map (document_terms (c ∷ [])) bare

  alone_count : length (places_in Alone) ≡ count
  alone_count =
      length-map (document_terms Alone) place_of ∙ ap length alone_terms ∙ one_count (abbreviations_behind pre) (names_behind pre) (scope_behind pre)

  more_count : count ≤ length (map place_of More)
  more_count =
      let bs = abbreviations_behind done in
      let xs = names_behind done in
      let s = scope_behind done in
      let own = command_terms bs xs s c in
      let others = commands_terms (abbreviations_after bs c) (names_after xs c) (scope_after bs xs s c) rest in
      omega (arith, one_count bs xs s, ap length (append-nil own), length-append own others, length-map More place_of)

  -- the places in the text

  whole_places : places_in Whole ≡ places_in done ++ map place_of More
  whole_places = ap (map place_of) (terms_append done (c ∷ rest)) ∙ map-append place_of (document_terms done) More

  whole_front : (n : ℕ) → take (before + n) (places_in Whole) ≡ places_in done ++ take n (map place_of More)
  whole_front n =
      ap (take (before + n)) whole_places
      ∙ take_behind (places_in done) (map place_of More) (before + n) n (omega (arith, length-map (document_terms done) place_of))

  more_place : (k : ℕ) → get_or (map place_of More) k (place_of (tree_in [] 0)) ≡ place_in Whole (before + k)
  more_place k =
      get_or-told place_of More k (tree_in [] 0)
      ∙ ap place_of (sym (ap (λ ts. tree_in ts (before + k)) (terms_append done (c ∷ rest)) ∙ get_or-append-add (document_terms done) More k (tree_in [] 0)))

  -- the terms have the same least types there and where the command stands alone

  same : (k : ℕ) → k < count → IsSameTerm done pre g h (tree_in (document_terms Whole) (before + k)) (tree_in (document_terms Alone) k) d
  same k lt = same_terms done pre g h c rest d alike k lt

  least_there : (p q : PlacedTree) → IsSameTerm done pre g h p q d → HaveOneLeast d (place_of q) (place_of p)
  least_there p q is o = least_same done pre g h p q o d is

  least_here : (p q : PlacedTree) → IsSameTerm done pre g h p q d → HaveOneLeast d (place_of p) (place_of q)
  least_here p q is o = least_back done pre g h p q o d is

  all_there : (n : ℕ) → n ≤ count → AllHaveOneLeast d (take n (places_in Alone)) (take n (map place_of More))
  all_there n le =
      all_same d n (places_in Alone) (map place_of More) (place_of (tree_in [] 0)) (omega (arith, le, alone_count)) (omega (arith, le, more_count))
      (λ k lt.
      subst (λ p. HaveOneLeast d (get_or (places_in Alone) k (place_of (tree_in [] 0))) p) (sym (more_place k))
      (subst (λ p. HaveOneLeast d p (place_in Whole (before + k))) (sym (place_told Alone k))
      (least_there (tree_in (document_terms Whole) (before + k)) (tree_in (document_terms Alone) k) (same k (omega (arith, lt, le))))))

  all_here : (n : ℕ) → n ≤ count → AllHaveOneLeast d (take n (map place_of More)) (take n (places_in Alone))
  all_here n le =
      all_same d n (map place_of More) (places_in Alone) (place_of (tree_in [] 0)) (omega (arith, le, more_count)) (omega (arith, le, alone_count))
      (λ k lt.
      subst (λ p. HaveOneLeast d p (get_or (places_in Alone) k (place_of (tree_in [] 0)))) (sym (more_place k))
      (subst (λ p. HaveOneLeast d (place_in Whole (before + k)) p) (sym (place_told Alone k))
      (least_here (tree_in (document_terms Whole) (before + k)) (tree_in (document_terms Alone) k) (same k (omega (arith, lt, le))))))

  -- ---- what is small up to a term

  -- the written types of the command
  abbrev limit : List Abbreviation → Option Span
  limit bs = first_over_limit bs (written_in_command c)

  -- and of the commands behind it
  abbrev behind : Option Span
  behind = first_too_large (abbreviations_after (abbreviations_behind done) c) rest

  limits : limit (abbreviations_behind done) ≡ limit (abbreviations_behind pre)
  limits = same_command_limit (abbreviations_behind done) (abbreviations_behind pre) c alike.types_stand

  whole_written : first_too_large [] Whole ≡ option_or (first_too_large [] done) (option_or (limit (abbreviations_behind done)) behind)
  whole_written = too_large_append done (c ∷ rest)

  small_there : (n : ℕ) → n ≤ count → behind ≡ None → IsSmallUpTo Alone n d → IsSmallUpTo Whole (before + n) d
  small_there n le none small = record {
    written =
        let own = none_of_both (first_too_large [] pre) (limit (abbreviations_behind pre)) (sym (too_large_push pre c) ∙ small.written) in
        whole_written
        ∙ both_none (first_too_large [] done) (option_or (limit (abbreviations_behind done)) behind) checked.none_too_large
        (both_none (limit (abbreviations_behind done)) behind (limits ∙ own.1) none);
    terms = λ k large.
        let later = first_later (places_in done) (take n (map place_of More)) found k d checked.shown.least checked.shown.small
        (subst (λ ps. IsFirstTooLarge ps k d) (whole_front n) large) in
        small.terms later.0 (first_there d (take n (map place_of More)) (take n (places_in Alone)) later.0 (all_here n le) later.1);
  }

  small_here : (n : ℕ) → n ≤ count → IsSmallUpTo Whole (before + n) d → IsSmallUpTo Alone n d
  small_here n le small = record {
    written =
        let own = none_of_both (first_too_large [] done) (option_or (limit (abbreviations_behind done)) behind) (sym whole_written ∙ small.written) in
        too_large_push pre c
        ∙ both_none (first_too_large [] pre) (limit (abbreviations_behind pre)) alike.none_too_large
        (sym limits ∙ (none_of_both (limit (abbreviations_behind done)) behind own.1).0);
    terms = λ k large.
        let there = first_there d (take n (places_in Alone)) (take n (map place_of More)) k (all_there n le) large in
        let later = later_first (places_in done) (take n (map place_of More)) found k d checked.shown.least checked.shown.small there in
        small.terms later.0 (subst (λ ps. IsFirstTooLarge ps later.0 d) (sym (whole_front n)) later.1);
  }

  -- ---- the labels with which a projection has a type

  module _ (n : ℕ) (lt : n < count) (p : IsProjection Alone n) (q : IsProjection Whole (before + n)) where
    -- the projection in the text, if it asked for this label
    abbrev asks_there : Label → PlacedTree
    asks_there l = with_here (tree_in (document_terms Whole) (before + n)) (project q.operand l)

    -- and where the command stands alone
    abbrev asks_here : Label → PlacedTree
    asks_here l = with_here (tree_in (document_terms Alone) n) (project p.operand l)

    same_asked : (l : Label) → IsSameTerm done pre g h (asks_there l) (asks_here l) d
    same_asked l =
        let is = same n lt in
        record {
          own = is.own;
          names = is.names;
          alone_names = is.alone_names;
          alone_wf = is.alone_wf;
          alone_entries = is.alone_entries;
          least = is.least;
          lowest = is.lowest;
          alike = λ e long.
              let both : AreAlike (e ++ g) (project q.operand q.label) (e ++ h) (project p.operand p.label) =
              subst (λ t. AreAlike (e ++ g) (project q.operand q.label) (e ++ h) t) p.asked
              (subst (λ t. AreAlike (e ++ g) t (e ++ h) (place_in Alone n).here) q.asked (is.alike e long)) in
              (both.0, refl);
          same = same_bare (tree_in (document_terms Whole) (before + n)) (project q.operand l) ∙ is.same
              ∙ sym (same_bare (tree_in (document_terms Alone) n) (project p.operand l));
        }

    fields_there : (items : List Item) → AreFields p items d → AreFields q items d
    fields_there items are = record {
      ascending = are.ascending;
      each =
          All-weaker
          (λ i. (t : Typ) × HasLeast p i.label t d × (i ≡ record { label = i.label; detail = Some (text_of_type t); is_field = true }))
          (λ i. (t : Typ) × HasLeast q i.label t d × (i ≡ record { label = i.label; detail = Some (text_of_type t); is_field = true }))
          (λ i is. (is.0, least_there (asks_there i.label) (asks_here i.label) (same_asked i.label) (Some is.0) is.1, is.2))
          items
          are.each;
      every = λ l t least.
          are.every l t (least_here (asks_there l) (asks_here l) (same_asked l) (Some t) least);
    }

  -- ---- what is listed

  -- the term that is a projection in the command alone is one in the text
  pub projection_there : (n : ℕ) (s : Span) → n < count → (term_of (tree_in (document_terms Alone) n)).own ≡ label_at s → IsProjection Whole (before + n)
  projection_there n s lt is =
      let p = tree_in (document_terms Whole) (before + n) in
      let q = tree_in (document_terms Alone) n in
      let inside : before + n < length (document_terms Whole) =
      omega (arith, lt, more_count, length-map More place_of, ap length (terms_append done (c ∷ rest)), length-append (document_terms done) More) in
      projection_of Whole (before + n) s inside (sym (same_own p) ∙ ap (λ t. (term_of t).own) (same n lt).same ∙ same_own q ∙ is)

  pub listed_there : (n : ℕ) (items : List Item) → n < count → IsProjection Whole (before + n) → behind ≡ None → AreListed Alone n items d → AreListed Whole (before + n) items d
  listed_there n items lt q none (fields p small are) = fields q (small_there n (omega (arith, lt)) none small) (fields_there n lt p q items are)
  listed_there n _ lt q none (too_large large) = too_large (λ small. large (small_here n (omega (arith, lt)) small))
