-- What is listed for an offset: the names in sight of a term have one list that ascends, and so have the labels behind a dot.
use Rattle.std.proofs.Common.{◌≡◌, ◌⊎◌, ℕ, zero, suc, Bool, true, false, if◌then◌else◌, List, [], ◌∷◌, map, get_or, All, Contains, Option, Some, None, option_map, unwrap_or, bytes_eq, refl, sym, ap, subst, ◌∙◌, inl, inr}
use Rattle.std.specs.List.{AllByRecursion}
use Rattle.std.proofs.lemmas.Slice.Eq.{bytes_eq-Decides}
use Rattle.std.proofs.lemmas.List.Elements.{All-from_recursion, All-map}
use Rattle.lam_token.specs.declared.span.Span.{Span}
use Rattle.lam_token.specs.Lexeme.{Lexeme, start_of}
use Rattle.lam_rules.specs.Types.{Label, Typ}
use Rattle.lam_rules.specs.Texts.{Text, text}
use Rattle.lam_rules.specs.Typing.{Context}
use Rattle.lam_rules.specs.declared.rules.Dialect.{Dialect}
use Rattle.lam_rules.proofs.SharedTexts.{text_same}
use Rattle.lam_syntax.specs.Trees.{CommandTree}
use Rattle.lam_syntax.specs.Answers.{pieces_of}
use Rattle.lam_scope.specs.Labels.{place_in}
use Rattle.lam_scope.specs.Names.{Name, binds, index_of}
use Rattle.lam_scope.specs.Places.{Binding, written, of_term, Scope, Place}
use Rattle.lam_scope.specs.PlacedTerms.{projection_at}
use Rattle.lam_typing.specs.LeastTypes.{IsLeastAt, IsLeastEntry, AreLeastEntries}
use Rattle.lam_typing.proofs.Existing.{context_exists}
use Rattle.lam_query.specs.Commands.{AreCommandsOf}
use Rattle.lam_query.specs.Sizes.{IsSizeFault, IsSmall}
use Rattle.lam_query.specs.Completions.{with_label, IsProjected, IsTypable, Item, AreLabels, names_in_sight, IsEntryAt, IsDetail, of_entry, untold, IsVisible, AreNames}
use Rattle.lam_query.proofs.OneAnswer.{one_commands}
use Rattle.lam_query.proofs.SizeLaws.{fault_or_small}
use Rattle.lam_query.proofs.SomeAnswers.{least_entries, number_wf}
use Rattle.lam_query.proofs.Ascending.{Ascend, weaker, one_ascending, put, each_put, put_there, put_keeps, none_ascend, put_ascends}

-- least entries have one text

one_entry : (outside : Scope) (b : Binding) (o p : Option Typ) (d : Dialect) → IsLeastEntry outside b o d → IsLeastEntry outside b p d → option_map text o ≡ option_map text p
one_entry outside (written w) o p d h k = ap (option_map text) (h ∙ sym k)
one_entry outside (of_term e) None None d h k = refl
one_entry outside (of_term e) None (Some u) d h k = absurd (h u k.0)
one_entry outside (of_term e) (Some t) None d h k = absurd (k t h.0)
one_entry outside (of_term e) (Some t) (Some u) d h k = ap Some (text_same t u d (h.1 u k.0) (k.1 t h.0))

one_entry_at : (s : Scope) (g h : Context) (k : ℕ) (d : Dialect) → AreLeastEntries s g d → AreLeastEntries s h d → option_map text (get_or g k None) ≡ option_map text (get_or h k None)
one_entry_at [] [] [] k d least other = refl
one_entry_at [] [] (p ∷ h) k d least other = absurd other
one_entry_at [] (o ∷ g) h k d least other = absurd least
one_entry_at (b ∷ outside) [] h k d least other = absurd least
one_entry_at (b ∷ outside) (o ∷ g) [] k d least other = absurd other
one_entry_at (b ∷ outside) (o ∷ g) (p ∷ h) zero d least other = one_entry outside b o p d least.0 other.0
one_entry_at (b ∷ outside) (o ∷ g) (p ∷ h) (suc k) d least other = one_entry_at outside g h k d least.1 other.1

one_text : (place : Place) (k : ℕ) (o p : Option Typ) (d : Dialect) → IsEntryAt place k o d → IsEntryAt place k p d → option_map text o ≡ option_map text p
one_text place k o p d (g, least, is) (h, other, same) = ap (option_map text) is ∙ one_entry_at place.scope g h k d least other ∙ ap (option_map text) (sym same)

-- the names in sight have one list

one_detail : (commands : List CommandTree) (n k : ℕ) (a b : Option Text) (d : Dialect) → IsDetail commands n k a d → IsDetail commands n k b d → a ≡ b
one_detail commands n k _ _ d (of_entry o small at) (of_entry p small' at') = one_text (place_in commands n) k o p d at at'
one_detail commands n k _ _ d (of_entry o small at) (untold s fault) = absurd (small s fault)
one_detail commands n k _ _ d (untold s fault) (of_entry o small at) = absurd (small s fault)
one_detail commands n k _ _ d (untold s fault) (untold s' fault') = refl

one_visible : (commands : List CommandTree) (n : ℕ) (d : Dialect) (i j : Item) → IsVisible commands n i d → IsVisible commands n j d → i.label ≡ j.label → i ≡ j
one_visible commands n d i j a b labels =
    let both : Some b.index ≡ Some a.index = sym b.indexed ∙ ap (λ x. index_of x (names_in_sight commands n)) (sym labels) ∙ a.indexed in
    let indices : b.index ≡ a.index = cc in
    let there = subst (λ k. IsDetail commands n k j.detail d) indices b.detail in
    let details = one_detail commands n a.index i.detail j.detail d a.detail there in
    let fields : i.is_field ≡ j.is_field = a.no_field ∙ sym b.no_field in
    λ k. record { label = labels k; detail = details k; is_field = fields k }

-- a name that one of these binders binds
abbrev HasIndex : List (Option Name) → Name → Type 0
HasIndex binders x = (k : ℕ) × (index_of x binders ≡ Some k)

pub one_list_of_names : (commands : List CommandTree) (number : ℕ) (items others : List Item) (d : Dialect) → AreNames commands number items d → AreNames commands number others d → items ≡ others
one_list_of_names commands n items others d a b =
    one_ascending (λ i. IsVisible commands n i d) (HasIndex (names_in_sight commands n)) (λ i is. (is.index, is.indexed)) (one_visible commands n d)
    items others a.ascending b.ascending a.each b.each (λ x is. a.every x is.0 is.1) (λ x is. b.every x is.0 is.1)

-- the labels behind a dot have one list

module _ (tokens : List Lexeme) (o : ℕ) (l : Label) (h k : IsProjected tokens o l) where
  one_dot : k.dot ≡ h.dot
  one_dot = let both : Some k.dot ≡ Some h.dot = sym k.is_before ∙ h.is_before in cc

  one_projected : k.commands ≡ h.commands
  one_projected =
      let there = subst (λ dot. AreCommandsOf (pieces_of (with_label o dot l tokens)) k.commands) one_dot k.are_commands in
      one_commands (pieces_of (with_label o h.dot l tokens)) k.commands h.commands there h.are_commands

  one_number : k.number ≡ h.number
  one_number =
      let same : projection_at (start_of k.dot) k.commands ≡ projection_at (start_of h.dot) h.commands = λ i. projection_at (start_of (one_dot i)) (one_projected i) in
      let both : Some k.number ≡ Some h.number = sym k.there ∙ same ∙ h.there in
      cc

  one_place : place_in k.commands k.number ≡ place_in h.commands h.number
  one_place = λ i. place_in (one_projected i) (one_number i)

one_label_text : (tokens : List Lexeme) (o : ℕ) (l : Label) (t u : Typ) (d : Dialect) → IsTypable tokens o l t d → IsTypable tokens o l u d → text t ≡ text u
one_label_text tokens o l t u d a b =
    let there = subst (λ (p : Place). IsLeastAt p.scope p.here (Some u) d) (one_place tokens o l a.projected b.projected) b.least in
    text_same t u d (a.least.1 u there.0) (there.1 t a.least.0)

abbrev labelled : Label → Text → Item
labelled l shown = record { label = l; detail = Some shown; is_field = true }

-- an item is a label whose projection has a type
abbrev IsLabelled : List Lexeme → ℕ → Dialect → Item → Type 0
IsLabelled tokens o d i = (t : Typ) × IsTypable tokens o i.label t d × (i ≡ labelled i.label (text t))

one_labelled : (tokens : List Lexeme) (o : ℕ) (d : Dialect) (i j : Item) → IsLabelled tokens o d i → IsLabelled tokens o d j → i.label ≡ j.label → i ≡ j
one_labelled tokens o d i j (t, a, is) (u, b, same) labels =
    let there = subst (λ l. IsTypable tokens o l u d) (sym labels) b in
    let texts = one_label_text tokens o i.label t u d a there in
    let both : labelled i.label (text t) ≡ labelled j.label (text u) = λ k. labelled (labels k) (texts k) in
    is ∙ both ∙ sym same

pub one_list_of_labels : (tokens : List Lexeme) (o : ℕ) (items others : List Item) (d : Dialect) → AreLabels tokens o items d → AreLabels tokens o others d → items ≡ others
one_list_of_labels tokens o items others d a b =
    one_ascending (IsLabelled tokens o d) (λ l. (t : Typ) × IsTypable tokens o l t d) (λ i is. (is.0, is.1)) (one_labelled tokens o d)
    items others a.ascending b.ascending a.each b.each (λ l is. a.every l is.0 is.1) (λ l is. b.every l is.0 is.1)

-- names that binders bind

indexed_first : (y : Name) (binders : List (Option Name)) → HasIndex (Some y ∷ binders) y
indexed_first y binders = (0, ap (λ b. if b then Some 0 else option_map suc (index_of y binders)) ((bytes_eq-Decides y y).1 refl))

indexed_more : (b : Option Name) (binders : List (Option Name)) (x : Name) → HasIndex binders x → HasIndex (b ∷ binders) x
indexed_more b binders x (k, is) = by (binds b x)
  where
    by : (bound : Bool) → (j : ℕ) × ((if bound then Some 0 else option_map suc (index_of x binders)) ≡ Some j)
    by true = (0, refl)
    by false = (suc k, ap (option_map suc) is)

indexed_behind : (x : Name) (binders : List (Option Name)) (k : ℕ) → option_map suc (index_of x binders) ≡ Some k → HasIndex binders x
indexed_behind x binders k is = by (index_of x binders) refl is
  where
    by : (found : Option ℕ) → index_of x binders ≡ found → option_map suc found ≡ Some k → HasIndex binders x
    by None at clash = absurd cc
    by (Some j) at more = (j, at)

first_or_behind : (y x : Name) (binders : List (Option Name)) → HasIndex (Some y ∷ binders) x → (y ≡ x) ⊎ HasIndex binders x
first_or_behind y x binders (k, is) = by (bytes_eq y x) refl is
  where
    by : (bound : Bool) → bytes_eq y x ≡ bound → (if bound then Some 0 else option_map suc (index_of x binders)) ≡ Some k → (y ≡ x) ⊎ HasIndex binders x
    by true same at = inl ((bytes_eq-Decides y x).0 same)
    by false other at = inr (indexed_behind x binders k at)

none_indexed : (x : Name) → HasIndex [] x → ⊥
none_indexed x (k, is) = cc

-- they can be listed

record AreBound (binders : List (Option Name)) (names : List Name) : Type 0 where
  ascending : Ascend names
  each : AllByRecursion (HasIndex binders) names
  every : (x : Name) → HasIndex binders x → Contains names x

no_binder : AreBound [] []
no_binder = record { ascending = none_ascend; each = tt; every = λ x is. absurd (none_indexed x is) }

hidden : (binders : List (Option Name)) (names : List Name) → AreBound binders names → AreBound (None ∷ binders) names
hidden binders names are = record {
  ascending = are.ascending;
  each = weaker (HasIndex binders) (HasIndex (None ∷ binders)) (indexed_more None binders) names are.each;
  every = λ x is. are.every x (indexed_behind x binders is.0 is.1);
}

bound : (y : Name) (binders : List (Option Name)) (names : List Name) → AreBound binders names → AreBound (Some y ∷ binders) (put y names)
bound y binders names are = record {
  ascending = put_ascends y names are.ascending;
  each =
      each_put (HasIndex (Some y ∷ binders)) y names (indexed_first y binders)
      (weaker (HasIndex binders) (HasIndex (Some y ∷ binders)) (indexed_more (Some y) binders) names are.each);
  every = λ x is. there x (first_or_behind y x binders is);
}
  where
    there : (x : Name) → (y ≡ x) ⊎ HasIndex binders x → Contains (put y names) x
    there x (inl same) = subst (λ z. Contains (put y names) z) same (put_there y names)
    there x (inr is) = put_keeps y x names (are.every x is)

some_bound : (binders : List (Option Name)) → (names : List Name) × AreBound binders names
some_bound [] = ([], no_binder)
some_bound (None ∷ binders) = let rest = some_bound binders in (rest.0, hidden binders rest.0 rest.1)
some_bound (Some y ∷ binders) = let rest = some_bound binders in (put y rest.0, bound y binders rest.0 rest.1)

-- something is told of each binder

some_details : (commands : List CommandTree) (n : ℕ) (d : Dialect) → (told : ℕ → Option Text) × ((k : ℕ) → IsDetail commands n k (told k) d)
some_details commands n d = by (fault_or_small d commands)
  where
    by : ((s : Span) × IsSizeFault commands s d) ⊎ IsSmall commands d → (told : ℕ → Option Text) × ((k : ℕ) → IsDetail commands n k (told k) d)
    by (inl fault) = ((λ k. None), (λ k. untold fault.0 fault.1))
    by (inr small) =
        let scope = (place_in commands n).scope in
        let wf = number_wf commands n in
        let context = context_exists d scope wf.0 in
        let least = least_entries scope context.0 d wf.0 context.1 in
        ((λ k. option_map text (get_or context.0 k None)), (λ k. of_entry (get_or context.0 k None) small (context.0, least, refl)))

-- so the names in sight of a term have a list

module _ (told : ℕ → Option Text) (binders : List (Option Name)) where
  abbrev named : Name → Item
  named x = record { label = x; detail = told (unwrap_or (index_of x binders) 0); is_field = false }

  labels_named : (names : List Name) → map (λ (i : Item). i.label) (map named names) ≡ names
  labels_named [] = refl
  labels_named (x ∷ names) = ap (λ (xs : List Name). x ∷ xs) (labels_named names)

module _ (commands : List CommandTree) (n : ℕ) (d : Dialect) (told : ℕ → Option Text) (is_told : (k : ℕ) → IsDetail commands n k (told k) d) where
  name_visible : (x : Name) → HasIndex (names_in_sight commands n) x → IsVisible commands n (named told (names_in_sight commands n) x) d
  name_visible x (k, is) =
      let there = subst (λ j. IsDetail commands n k (told j) d) (sym (ap (λ o. unwrap_or o 0) is)) (is_told k) in
      record { index = k; indexed = is; detail = there; no_field = refl }

  names_visible : (names : List Name) → AllByRecursion (HasIndex (names_in_sight commands n)) names → All (λ i. IsVisible commands n i d) (map (named told (names_in_sight commands n)) names)
  names_visible names each =
      let item = named told (names_in_sight commands n) in
      let visible = weaker (HasIndex (names_in_sight commands n)) (λ x. IsVisible commands n (item x) d) name_visible names each in
      All-map (λ i. IsVisible commands n i d) item names (All-from_recursion (λ x. IsVisible commands n (item x) d) names visible)

pub some_names : (commands : List CommandTree) (number : ℕ) (d : Dialect) → (items : List Item) × AreNames commands number items d
some_names commands n d =
    let binders = names_in_sight commands n in
    let told = some_details commands n d in
    let names = some_bound binders in
    let labels = labels_named told.0 binders names.0 in (
      map (named told.0 binders) names.0,
      record {
        ascending = subst Ascend (sym labels) names.1.ascending;
        each = names_visible commands n d told.0 told.1 names.0 names.1.each;
        every = λ x k is. subst (λ (ls : List Name). Contains ls x) (sym labels) (names.1.every x (k, is));
      },
    )
