-- What a term of a command sees is told by the binders of the commands in front of it in the text, and by its own binders where the command stands alone.
use Rattle.std.proofs.Common.{◌≡◌, ℕ, ◌+◌, ◌<◌, List, [], ◌∷◌, ◌++◌, length, map, reverse, get_or, take, drop, zero, suc, true, false, String, BTreeMap, Global, string_cmp, Option, Some, None, refl, sym, ap, subst, ◌∙◌, arith}
use Rattle.std.specs.BTreeMap.{IsOrdered}
use Rattle.std.specs.Option.{option_map, is_some}
use Rattle.std.proofs.Math.Seq.{drop-append_seam}
use Rattle.std.proofs.lemmas.List.{drop-map, length-reverse, map-append, reverse-append, reverse-reverse}
use Rattle.std.proofs.lemmas.Simd.{map-map}
use Rattle.lam_token.specs.declared.span.Span.{Span}
use Rattle.lam_rules.specs.Texts.{Text, text as text_of_type}
use Rattle.lam_rules.specs.Types.{Typ}
use Rattle.lam_rules.specs.Typing.{Context}
use Rattle.lam_rules.specs.declared.rules.Dialect.{Dialect}
use Rattle.lam_syntax.specs.Trees.{CommandTree}
use Rattle.lam_syntax.specs.Views.{command_of}
use Rattle.lam_scope.specs.FreeNames.{each_once, free_in_command}
use Rattle.lam_scope.specs.Labels.{place_in}
use Rattle.lam_scope.specs.Names.{Name}
use Rattle.lam_scope.specs.PlacedTerms.{document_terms}
use Rattle.lam_scope.specs.Tables.{Table, table, binder_numbered, visible_at}
use Rattle.lam_scope.specs.Views.{AreScopesOf, table_of}
use Rattle.lam_scope.specs.declared.scopes.Scopes.{Scopes}
use Rattle.lam_scope.proofs.PlacedRows.{row_told, as_many_rows}
use Rattle.lam_scope.proofs.Reading.{map-reverse}
use Rattle.lam_typing.specs.Answers.{answer}
use Rattle.lam_typing.specs.Checking.{types_in}
use Rattle.lam_typing.specs.LeastTypes.{AreLeastEntries}
use Rattle.lam_typing.specs.Typings.{types_of, entries_in}
use Rattle.lam_query.specs.declared.analyses.Analysis.{Analysis}
use Rattle.lam_query.specs.declared.binders.SeenBinder.{SeenBinder}
use Rattle.lam_query.specs.declared.pieces.PieceAt.{PieceAt}
use Rattle.lam_query.specs.declared.stand_ins.Alone.{Alone}
use Rattle.lam_query.specs.declared.typings.Types.{Types}
use Rattle.lam_query.specs.Analyses.{IsAnalysisOf}
use Rattle.lam_query.specs.Commands.{AreCommandsOfText}
use Rattle.lam_query.specs.Completions.{Item, names_in_sight, IsDetail, of_entry, untold, AreNames}
use Rattle.lam_query.specs.Sizes.{IsSizeFault, IsSmall}
use Rattle.lam_query.specs.inner.Around.{IsAloneAround, first_term}
use Rattle.lam_query.specs.inner.Checked.{names_behind}
use Rattle.lam_query.specs.inner.Entered.{entered, entries_onto}
use Rattle.lam_query.specs.inner.Kept.{rows_of, placed}
use Rattle.lam_query.specs.inner.Rows.{nothing, AreRowsFrom, IsSizedBy, SeesAs}
use Rattle.lam_query.specs.inner.SeenBinders.{name_seen, entries_seen, AreBindersBehind, AreEntriesBehind}
use Rattle.lam_query.specs.inner.Sight.{detail_after, detail_for, item_seen}
use Rattle.lam_query.specs.inner.StandIns.{stand_ins}
use Rattle.lam_query.specs.inner.Typings.{AreFoundOf, AreTypesOf}
use Rattle.lam_query.proofs.AnalysisAnswers.{sizes_hold}
use Rattle.lam_query.proofs.InText.{IsInText}
use Rattle.lam_query.proofs.PieceInText.{piece_in_text}
use Rattle.lam_query.proofs.RowsAndTerms.{get_or-told}
use Rattle.lam_query.proofs.SameTerms.{same_terms, same_names}
use Rattle.lam_query.proofs.SeenAlike.{IsSeenAlike}
use Rattle.lam_query.proofs.SightEntries.{binders_seen, least_seen}
use Rattle.lam_query.proofs.SightNames.{Told, told, told_names, told_texts, told_inside_out, names_listed}
use Rattle.lam_query.proofs.SizesAlone.{small_alone}
use Rattle.lam_query.proofs.StandInsSeen.{stand_ins_seen, stand_ins_terms, stand_ins_count}
use Rattle.lam_query.proofs.NoneLarge.{none_from}

-- ---- lists from the inside out

module _ {A : Type 0} where
  own_alone : (own behind : List A) (k : ℕ) → k ≡ length behind → drop k (reverse (own ++ behind)) ≡ reverse own
  own_alone own behind k is =
      ap (drop k) (reverse-append own behind)
      ∙ ap (λ n. drop n (reverse behind ++ reverse own)) (is ∙ sym (length-reverse behind))
      ∙ drop-append_seam (reverse behind) (reverse own)

  turned : (outer inner own behind : List A) → inner ≡ reverse own → behind ≡ reverse outer → reverse (outer ++ inner) ≡ own ++ behind
  turned outer inner own behind inside outside =
      reverse-append outer inner
      ∙ ap (λ xs. reverse xs ++ reverse outer) inside
      ∙ ap (λ xs. xs ++ reverse outer) (reverse-reverse own)
      ∙ ap (λ xs. own ++ xs) (sym outside)

-- ---- behind the commands of the text, and behind others that have no terms

module _ (done pre : List CommandTree) (c : CommandTree) (rest : List CommandTree) (n : ℕ) (lt : n < length (document_terms (c ∷ [])))
    (k : ℕ) (counted : k ≡ length (names_behind pre)) where
  -- in both the term sees the same binders of its own command by their names
  pub names_alike : document_terms pre ≡ [] → (t : Table) → t ≡ table (pre ++ c ∷ []) → (outer inner : List (Option Name)) → names_behind done ≡ reverse outer
      → inner ≡ map (λ b. (binder_numbered t b).name) (drop k (visible_at t n))
      → reverse (outer ++ inner) ≡ names_in_sight (done ++ c ∷ rest) (length (document_terms done) + n)
  names_alike none t is outer inner outside inside =
      let alone = pre ++ c ∷ [] in
      let both = same_names done pre c rest none n lt in
      let name : ℕ → Option Name = λ b. (binder_numbered (table alone) b).name in
      let own : inner ≡ reverse both.0 =
      inside
      ∙ ap (λ u. map (λ b. (binder_numbered u b).name) (drop k (visible_at u n))) is
      ∙ sym (drop-map name k (visible_at (table alone) n))
      ∙ ap (drop k) (map-reverse name (binders_seen alone n) ∙ ap reverse ((row_told alone n).names ∙ both.2))
      ∙ own_alone both.0 (names_behind pre) k counted in
      turned outer inner both.0 (names_behind done) own outside ∙ sym both.1

  -- and by their least entries
  pub entries_alike : (g h : Context) (d : Dialect) → IsSeenAlike done pre g h c d → (seen : Context) → AreLeastEntries (place_in (pre ++ c ∷ []) n).scope seen d
      → (outer inner : Context) → g ≡ reverse outer → inner ≡ drop k (reverse seen)
      → AreLeastEntries (place_in (done ++ c ∷ rest) (length (document_terms done) + n)).scope (reverse (outer ++ inner)) d
  entries_alike g h d alike seen least outer inner outside inside =
      let alone = place_in (pre ++ c ∷ []) n in
      let whole = place_in (done ++ c ∷ rest) (length (document_terms done) + n) in
      let same = same_terms done pre g h c rest d alike n lt in
      let parts = same.alone_entries seen least in
      let own : inner ≡ reverse parts.0 =
      inside ∙ ap (λ xs. drop k (reverse xs)) parts.2 ∙ own_alone parts.0 h k (counted ∙ alike.alone_lengths) in
      let there = same.least parts.0 parts.1 (subst (λ xs. AreLeastEntries alone.scope xs d) parts.2 least) in
      subst (λ xs. AreLeastEntries whole.scope xs d) (sym (turned outer inner parts.0 g own outside)) there

-- ---- what is told of binders

names_of_told : (ts us : Option (List Typ)) (outer inner : List SeenBinder)
    → told_names (told_inside_out ts us outer inner) ≡ reverse (map name_seen outer ++ map name_seen inner)
names_of_told ts us outer inner =
    let name : Told → Option Name = λ b. b.0 in
    let bs = map (told ts) outer in
    let cs = map (told us) inner in
    map-reverse name (bs ++ cs)
    ∙ ap reverse (map-append name bs cs)
    ∙ (λ i. reverse (map-map name (told ts) outer i ++ map-map name (told us) inner i))

texts_seen : (ts : List Typ) (bs : List SeenBinder) → told_texts (map (told (Some ts)) bs) ≡ map (option_map text_of_type) (entries_seen ts bs)
texts_seen ts [] = refl
texts_seen ts (b ∷ bs) = ap (λ (xs : List (Option Text)). option_map text_of_type (answer ts b.entry) ∷ xs) (texts_seen ts bs)

texts_of_told : (ts us : List Typ) (outer inner : List SeenBinder)
    → told_texts (told_inside_out (Some ts) (Some us) outer inner) ≡ map (option_map text_of_type) (reverse (entries_seen ts outer ++ entries_seen us inner))
texts_of_told ts us outer inner =
    let detail : Told → Option Text = λ b. b.1 in
    let bs = map (told (Some ts)) outer in
    let cs = map (told (Some us)) inner in
    map-reverse detail (bs ++ cs)
    ∙ ap reverse (map-append detail bs cs ∙ (λ i. texts_seen ts outer i ++ texts_seen us inner i) ∙ sym (map-append (option_map text_of_type) (entries_seen ts outer) (entries_seen us inner)))
    ∙ sym (map-reverse (option_map text_of_type) (entries_seen ts outer ++ entries_seen us inner))

no_text : (bs : List SeenBinder) (k : ℕ) → get_or (told_texts (map (told None) bs)) k None ≡ None
no_text [] k = refl
no_text (b ∷ bs) zero = refl
no_text (b ∷ bs) (suc k) = no_text bs k

none_told : (outer inner : List SeenBinder) (k : ℕ) → get_or (told_texts (told_inside_out None None outer inner)) k None ≡ None
none_told outer inner k =
    ap (λ bs. get_or (told_texts (reverse bs)) k None) (sym (map-append (told None) outer inner))
    ∙ ap (λ bs. get_or (told_texts bs) k None) (sym (map-reverse (told None) (outer ++ inner)))
    ∙ no_text (reverse (outer ++ inner)) k

-- ---- of a command that stands alone

last_same : {A : Type 0} (xs ys : List A) (x y : A) → xs ++ x ∷ [] ≡ ys ++ y ∷ [] → x ≡ y
last_same xs ys x y same =
    let both : y ∷ reverse ys ≡ x ∷ reverse xs = sym (reverse-append ys (y ∷ [])) ∙ ap reverse (sym same) ∙ reverse-append xs (x ∷ []) in
    cc

module _ (text : List ℕ) (offset : ℕ) (a : Analysis) (p : PieceAt) (c : CommandTree) (alone : Alone) (h : IsAloneAround text offset a p c alone) where
  abbrev Done : List CommandTree
  Done = h.there.here.around.front.commands

  abbrev Before : List CommandTree
  Before = stand_ins h.there.here.sight c

  -- it is the command of which this is known
  pub number_inside : (other : ℕ) (o : CommandTree) → IsAloneAround text other a p o alone → (n : ℕ) → n < length (table (o ∷ [])).places → n < length (document_terms (c ∷ []))
  number_inside other o there n lt =
      let same : o ≡ c = last_same (stand_ins there.there.here.sight o) Before o c (sym there.is_alone.commands ∙ h.is_alone.commands) in
      let inside = subst (λ e. n < length (table (e ∷ [])).places) same lt in
      omega (arith, as_many_rows (c ∷ []))

  counted : alone.names ≡ length (names_behind Before)
  counted = h.is_alone.names ∙ sym (stand_ins_count h.there.here.sight c)

  pub rows_ahead : AreRowsFrom text nothing (placed 0 (rows_of (take p.number a.rows.items))) h.there.here.around.front (types_in a.types) a.dialect
  rows_ahead = subst (λ rs. AreRowsFrom text nothing rs h.there.here.around.front (types_in a.types) a.dialect) h.there.here.rows_before h.there.here.around.rows_before

  module _ (of : IsAnalysisOf text a) (commands : List CommandTree) (are : AreCommandsOfText text commands) where
    in_text : IsInText h.there.here are.tokens commands
    in_text = piece_in_text text offset a p are.tokens commands of h.there.here are.are_tokens are.are_commands

    whole : commands ≡ Done ++ c ∷ in_text.rest
    whole = in_text.are ∙ ap (λ own. Done ++ (own ++ in_text.rest)) h.there.own

    sized : IsSizedBy commands a.row_faults.large a.dialect
    sized = sizes_hold text a are.tokens commands of are.are_tokens are.are_commands

    small_whole : a.row_faults.large ≡ None → IsSmall commands a.dialect
    small_whole none = subst (λ o. IsSizedBy commands o a.dialect) none sized

    module _ (outer : List SeenBinder) (entries : AreEntriesBehind h.there.here.around.front outer (types_in a.types) a.dialect) where
      -- what the names of the command mean in front of it, they mean behind the stand-ins
      seen_alike : IsSeenAlike Done Before (reverse (entries_seen (types_in a.types) outer)) (entries_onto [] (entered h.there.here.sight.names (each_once (free_in_command c)))) c a.dialect
      seen_alike =
          let sees : SeesAs c h.there.here.sight.names h.there.here.sight.types Done (reverse (entries_seen (types_in a.types) outer)) = record {
            names = λ x free. sym (h.there.here.names x) ∙ entries.names x;
            types = λ x free. sym (h.there.here.types x) ∙ entries.types x;
          } in
          stand_ins_seen h.there.here.sight c Done (reverse (entries_seen (types_in a.types) outer)) entries.found entries.blames a.dialect entries.checked sees

      -- so it has no type that is too large
      pub none_too_large : a.row_faults.large ≡ None → (s : Span) → IsSizeFault (map command_of alone.commands.items) s a.dialect → ⊥
      none_too_large none s fault =
          small_alone Done Before _ _ c in_text.rest a.dialect seen_alike (subst (λ cs. IsSmall cs a.dialect) whole (small_whole none)) s
          (subst (λ cs. IsSizeFault cs s a.dialect) h.is_alone.commands fault)

    module _ (scopes : Scopes) (of_it : AreScopesOf scopes (map command_of alone.commands.items)) (n : ℕ) (lt : n < length (document_terms (c ∷ [])))
        (outer inner : List SeenBinder) (behind : AreBindersBehind h.there.here.around.front outer)
        (inside : map name_seen inner ≡ map (λ b. (binder_numbered (table_of scopes) b).name) (drop alone.names (visible_at (table_of scopes) n))) where
      abbrev Number : ℕ
      Number = first_term h.there.here + n

      own_table : table_of scopes ≡ table (Before ++ c ∷ [])
      own_table = of_it.same_table ∙ ap table h.is_alone.commands

      names_are : (ts us : Option (List Typ)) → told_names (told_inside_out ts us outer inner) ≡ names_in_sight commands Number
      names_are ts us =
          names_of_told ts us outer inner
          ∙ names_alike Done Before c in_text.rest n lt alone.names counted (stand_ins_terms h.there.here.sight c) (table_of scopes) own_table
          (map name_seen outer) (map name_seen inner) behind inside
          ∙ ap (λ cs. names_in_sight cs Number) (sym whole)

      -- some type of the text is too large
      large_detail : (o : Option Span) → a.row_faults.large ≡ o → is_some o ≡ true → (k : ℕ) → IsDetail commands Number k (get_or (told_texts (told_inside_out None None outer inner)) k None) a.dialect
      large_detail None is some k = absurd cc
      large_detail (Some s) is some k =
          subst (λ t. IsDetail commands Number k t a.dialect) (sym (none_told outer inner k)) (untold s (subst (λ o. IsSizedBy commands o a.dialect) is sized))

      -- or none is
      small_detail : (types : Types) → AreTypesOf (map command_of alone.commands.items) types a.dialect → IsSmall commands a.dialect
          → AreEntriesBehind h.there.here.around.front outer (types_in a.types) a.dialect
          → entries_seen (types_of types.typing) inner ≡ map (λ b. get_or (entries_in types.typing) b None) (drop alone.names (visible_at (table_of scopes) n))
          → (k : ℕ) → IsDetail commands Number k (get_or (told_texts (told_inside_out (Some (types_in a.types)) (Some (types_of types.typing)) outer inner)) k None) a.dialect
      small_detail types found small entries entered_inside k =
          let ts = types_in a.types in
          let us = types_of types.typing in
          let cs = Before ++ c ∷ [] in
          let entry : ℕ → Option Typ = λ b. get_or (entries_in types.typing) b None in
          let typed = subst (λ cs. AreFoundOf cs types.resolved types.typing a.dialect) h.is_alone.commands found in
          let seen = map entry (binders_seen cs n) in
          let least = least_seen cs types.resolved types.typing a.dialect n typed in
          let own : entries_seen us inner ≡ drop alone.names (reverse seen) =
          entered_inside
          ∙ ap (λ t. map entry (drop alone.names (visible_at t n))) own_table
          ∙ sym (drop-map entry alone.names (visible_at (table cs) n))
          ∙ ap (drop alone.names) (map-reverse entry (binders_seen cs n)) in
          let all = reverse (entries_seen ts outer ++ entries_seen us inner) in
          let there = entries_alike Done Before c in_text.rest n lt alone.names counted _ _ a.dialect (seen_alike outer entries) seen least
          (entries_seen ts outer) (entries_seen us inner) refl own in
          let here = subst (λ cs. AreLeastEntries (place_in cs Number).scope all a.dialect) (sym whole) there in
          subst (λ t. IsDetail commands Number k t a.dialect)
          (sym (ap (λ xs. get_or xs k None) (texts_of_told ts us outer inner) ∙ get_or-told (option_map text_of_type) all k None))
          (of_entry (get_or all k None) small (all, here, refl))

      -- the list for what was put into a map
      module _ (none some all : BTreeMap (String Global) (Option (String Global))) (items : List Item) (begins : (x : Name) → detail_for none x ≡ None)
          (told_all : items ≡ map item_seen all.entries) (ordered : IsOrdered string_cmp all) where
        pub large_listed : is_some a.row_faults.large ≡ true → ((x : Name) → detail_for some x ≡ detail_after None x (detail_for none x) outer)
            → ((x : Name) → detail_for all x ≡ detail_after None x (detail_for some x) inner) → AreNames commands Number items a.dialect
        large_listed large first then =
            names_listed commands a.dialect Number None None outer inner none some all items (names_are None None) (large_detail a.row_faults.large refl large)
            begins first then told_all ordered

        pub small_listed : (types : Types) → is_some a.row_faults.large ≡ false → AreTypesOf (map command_of alone.commands.items) types a.dialect
            → AreEntriesBehind h.there.here.around.front outer (types_in a.types) a.dialect
            → entries_seen (types_of types.typing) inner ≡ map (λ b. get_or (entries_in types.typing) b None) (drop alone.names (visible_at (table_of scopes) n))
            → ((x : Name) → detail_for some x ≡ detail_after (Some (types_in a.types)) x (detail_for none x) outer)
            → ((x : Name) → detail_for all x ≡ detail_after (Some (types_of types.typing)) x (detail_for some x) inner) → AreNames commands Number items a.dialect
        small_listed types small found entries entered_inside first then =
            let ts = Some (types_in a.types) in
            let us = Some (types_of types.typing) in
            names_listed commands a.dialect Number ts us outer inner none some all items (names_are ts us)
            (small_detail types found (small_whole (none_from a.row_faults.large small)) entries entered_inside)
            begins first then told_all ordered
