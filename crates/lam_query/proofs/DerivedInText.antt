-- A derivation for a command behind its stand-ins is one for it in its text, where the binders of the commands before it come from elsewhere.
use Rattle.std.proofs.Common.{◌≡◌, ℕ, ◌+◌, List, ◌∷◌, [], ◌++◌, length, map, reverse, drop, get_or, Option, Some, None, refl, sym, ap, subst, ◌∙◌}
use Rattle.std.proofs.lemmas.List.{drop-map, length-reverse, map-append, reverse-append, reverse-reverse}
use Rattle.std.proofs.lemmas.Simd.{map-map}
use Rattle.std.proofs.Math.Seq.{drop-append_seam}
use Rattle.lam_rules.specs.Types.{Typ}
use Rattle.lam_rules.specs.Typing.{Context, TypingTree, type_in, IsTyping}
use Rattle.lam_rules.specs.declared.rules.Dialect.{Dialect}
use Rattle.lam_syntax.specs.Trees.{CommandTree}
use Rattle.lam_scope.specs.Names.{Name, shown_name}
use Rattle.lam_scope.specs.Places.{Place, place_numbered}
use Rattle.lam_scope.specs.PlacedTerms.{term_of, document_terms}
use Rattle.lam_scope.specs.Tables.{table, place_at, place_row_numbered, binder_numbered, seen_in, visible_at}
use Rattle.lam_scope.specs.Views.{statements_of}
use Rattle.lam_scope.specs.declared.resolved.Resolved.{Resolved}
use Rattle.lam_scope.proofs.PlacedRows.{row_told}
use Rattle.lam_scope.proofs.Reading.{map-reverse}
use Rattle.lam_typing.specs.LeastTypes.{IsLeastAt, AreLeastEntries}
use Rattle.lam_typing.specs.Typings.{types_of, found_of, entries_in, context_at, IsProofAt}
use Rattle.lam_typing.specs.declared.typing.Typing.{Typing}
use Rattle.lam_query.specs.declared.binders.SeenBinder.{SeenBinder}
use Rattle.lam_query.specs.Derivations.{ContextEntry, Derivation, IsDerivationAround}
use Rattle.lam_query.specs.Sizes.{IsSmall}
use Rattle.lam_query.specs.Steps.{steps_of, typing_proof}
use Rattle.lam_query.specs.WellTypedDocuments.{statements_in}
use Rattle.lam_query.specs.inner.Checked.{names_behind}
use Rattle.lam_query.specs.inner.Contexts.{entry_shown}
use Rattle.lam_query.specs.inner.SeenBinders.{name_seen, entries_seen}
use Rattle.lam_query.specs.inner.Typings.{AreFoundOf}
use Rattle.lam_query.proofs.AloneInText.{term_there, term_alone, AreTermsAlike, number_inside, number_there}
use Rattle.lam_query.proofs.BareProofs.{proof_of_bare}
use Rattle.lam_query.proofs.Deriving.{entries_told}
use Rattle.lam_query.proofs.Hovering.{least_found}
use Rattle.lam_query.proofs.RowsAndTerms.{number_told, innermost_row}
use Rattle.lam_query.proofs.SeenAlike.{IsSeenAlike, IsSameTerm}

-- ---- lists

names_shown : (ts : List Typ) (bs : List SeenBinder) → map (λ e. e.name) (map (entry_shown ts) bs) ≡ map shown_name (map name_seen bs)
names_shown ts bs = map-map (λ e. e.name) (entry_shown ts) bs ∙ sym (map-map shown_name name_seen bs)

types_shown : (ts : List Typ) (bs : List SeenBinder) → map (λ e. e.type) (map (entry_shown ts) bs) ≡ entries_seen ts bs
types_shown ts bs = map-map (λ e. e.type) (entry_shown ts) bs

-- what is left of a reversed list without its outer part
inner_left : {A : Type 0} (own outer : List A) (n : ℕ) → n ≡ length outer → drop n (reverse (own ++ outer)) ≡ reverse own
inner_left own outer n is =
    ap (drop n) (reverse-append own outer)
    ∙ ap (λ k. drop k (reverse outer ++ reverse own)) (is ∙ sym (length-reverse outer))
    ∙ drop-append_seam (reverse outer) (reverse own)

-- reversed back
turned_back : {A : Type 0} (xs ys : List A) → xs ≡ reverse ys → ys ≡ reverse xs
turned_back xs ys is = sym (reverse-reverse ys) ∙ ap reverse (sym is)

module _ (done pre : List CommandTree) (g h : Context) (c : CommandTree) (rest : List CommandTree) (d : Dialect)
    (alike : IsSeenAlike done pre g h c d) (told : AreTermsAlike done pre g h c rest d)
    (resolved : Resolved) (typing : Typing) (found : AreFoundOf (pre ++ c ∷ []) resolved typing d)
    (o n : ℕ) (at : place_at (table (pre ++ c ∷ [])) o ≡ Some n) where
  abbrev Whole : List CommandTree
  Whole = done ++ c ∷ rest

  abbrev Alone : List CommandTree
  Alone = pre ++ c ∷ []

  same : IsSameTerm done pre g h (term_there done c rest n) (term_alone pre c n) d
  same = told.same n (number_inside done pre g h c rest d alike told o n at)

  -- what was found of it is its least type

  pub least_alone : IsLeastAt (term_of (term_alone pre c n)).place.scope (term_of (term_alone pre c n)).place.here (get_or (found_of typing) n None) d
  least_alone = least_found Alone resolved typing d o n found at

  module _ (tree : TypingTree) (proof : IsProofAt (statements_of resolved) typing n tree) where
    abbrev Seen : Context
    Seen = context_at (statements_in Alone) typing n

    there : IsProofAt (statements_in Alone) typing n tree
    there = subst (λ ss. IsProofAt ss typing n tree) found.statements proof

    least_entries : AreLeastEntries (term_of (term_alone pre c n)).place.scope Seen d
    least_entries =
        subst (λ (p : Place). AreLeastEntries p.scope Seen d) (number_told Alone n)
        (subst (λ e. AreLeastEntries (place_numbered (statements_in Alone) n).scope Seen e) found.dialect there.least)

    proved : IsTyping Seen (term_of (term_alone pre c n)).place.here tree d
    proved =
        subst (λ (p : Place). IsTyping Seen p.here tree d) (number_told Alone n)
        (subst (λ e. IsTyping Seen (place_numbered (statements_in Alone) n).here tree e) found.dialect there.proof)

    -- its own entries
    own : (e : Context) × (length e ≡ length same.own) × (Seen ≡ e ++ h)
    own = same.alone_entries Seen least_entries

    own_least : AreLeastEntries (term_of (term_alone pre c n)).place.scope (own.0 ++ h) d
    own_least = subst (λ k. AreLeastEntries (term_of (term_alone pre c n)).place.scope k d) own.2 least_entries

    typed_alone : IsLeastAt (term_of (term_alone pre c n)).place.scope (term_of (term_alone pre c n)).place.here (Some (type_in tree)) d
    typed_alone = subst (λ t. IsLeastAt (term_of (term_alone pre c n)).place.scope (term_of (term_alone pre c n)).place.here t d) there.type least_alone

    -- the binders of the commands before it, and its command's own
    module _ (outer inner : List SeenBinder) (ts : List Typ) (count : ℕ)
        (counted : count ≡ length (names_behind pre))
        (outer_names : names_behind done ≡ reverse (map name_seen outer)) (outer_entries : g ≡ reverse (entries_seen ts outer))
        (inner_names : map name_seen inner ≡ map (λ b. (binder_numbered (table Alone) b).name) (drop count (visible_at (table Alone) n)))
        (inner_entries : entries_seen (types_of typing) inner ≡ map (λ b. get_or (entries_in typing) b None) (drop count (visible_at (table Alone) n))) where
      names_inside : map name_seen inner ≡ reverse same.own
      names_inside =
          let name : ℕ → Option Name = λ b. (binder_numbered (table Alone) b).name in
          let seen = seen_in (table Alone).binders (length (table Alone).binders) (place_row_numbered (table Alone) n).inner in
          inner_names
          ∙ sym (drop-map name count (visible_at (table Alone) n))
          ∙ ap (drop count) (map-reverse name seen ∙ ap reverse ((row_told Alone n).names ∙ same.alone_names))
          ∙ inner_left same.own (names_behind pre) count counted

      entries_inside : entries_seen (types_of typing) inner ≡ reverse own.0
      entries_inside =
          let entry : ℕ → Option Typ = λ b. get_or (entries_in typing) b None in
          inner_entries
          ∙ sym (drop-map entry count (visible_at (table Alone) n))
          ∙ ap (drop count) (entries_told Alone resolved typing d n found ∙ ap reverse own.2)
          ∙ inner_left own.0 h count (counted ∙ alike.alone_lengths)

      abbrev Told : List ContextEntry
      Told = map (entry_shown ts) outer ++ map (entry_shown (types_of typing)) inner

      names_told : map (λ e. e.name) Told ≡ map shown_name (reverse (term_of (term_there done c rest n)).names)
      names_told =
          map-append (λ e. e.name) (map (entry_shown ts) outer) (map (entry_shown (types_of typing)) inner)
          ∙ (λ i. names_shown ts outer i ++ names_shown (types_of typing) inner i)
          ∙ sym (map-append shown_name (map name_seen outer) (map name_seen inner))
          ∙ ap (map shown_name)
          ((λ i. turned_back (names_behind done) (map name_seen outer) outer_names i ++ names_inside i)
          ∙ sym (reverse-append same.own (names_behind done)) ∙ ap reverse (sym same.names))

      entries_shown : map (λ e. e.type) Told ≡ reverse (own.0 ++ g)
      entries_shown =
          map-append (λ e. e.type) (map (entry_shown ts) outer) (map (entry_shown (types_of typing)) inner)
          ∙ (λ i. types_shown ts outer i ++ types_shown (types_of typing) inner i)
          ∙ (λ i. turned_back g (entries_seen ts outer) outer_entries i ++ entries_inside i)
          ∙ sym (reverse-append own.0 g)

      pub derivation_there : place_at (table done) o ≡ None → place_at (table rest) o ≡ None → IsSmall Whole d → (derived : Derivation)
          → derived.context ≡ Told → derived.steps ≡ steps_of 0 (typing_proof (term_alone pre c n) tree) → IsDerivationAround Whole o derived d
      unfolding same
      derivation_there none_before none_after small derived told_context told_steps =
          let inside = number_inside done pre g h c rest d alike told o n at in
          record {
            term = term_there done c rest n;
            type = type_in tree;
            typed = record {
              small = small;
              innermost = innermost_row Whole o (length (document_terms done) + n)
                  (number_there done pre g h c rest d alike told o none_before none_after n at);
              least = told.least n inside (Some (type_in tree)) typed_alone;
            };
            entries = own.0 ++ g;
            least = same.least own.0 own.1 own_least;
            names = ap (map (λ e. e.name)) told_context ∙ names_told;
            types = ap (map (λ e. e.type)) told_context ∙ entries_shown;
            tree = tree;
            proof = told.proof n inside own.0 tree own.1 own_least
                (subst (λ k. IsTyping k (term_of (term_alone pre c n)).place.here tree d) own.2 proved);
            concluded = refl;
            steps = told_steps ∙ ap (steps_of 0) (proof_of_bare (term_alone pre c n) (term_there done c rest n) tree (sym same.same));
          }
