-- The names that a term sees are listed, by what is told of the binders that it sees.
use Rattle.std.proofs.Common.{◌≡◌, ℕ, suc, List, [], ◌∷◌, ◌++◌, map, reverse, get_or, Bool, true, false, cond, Option, Some, None, option_map, String, BTreeMap, Global, Result, Ok, Err, IfOk, string_bytes, string_cmp, is_eq, nat_cmp, Less, refl, sym, ap, subst, ◌∙◌, arith}
use Rattle.std.specs.BTreeMap.{get_by_text, IsOrdered}
use Rattle.std.specs.Cmp.Lexicographic.{slice_cmp}
use Rattle.std.specs.List.{All, AllByRecursion, Contains}
use Rattle.std.specs.List.Sorted.{IsStrictlySortedBy}
use Rattle.std.specs.Map.{keys_of, lookup}
use Rattle.std.specs.String.{string_cmp_total}
use Rattle.std.proofs.lemmas.List.{reverse-append, reverse-reverse}
use Rattle.std.proofs.lemmas.List.Elements.{All-map}
use Rattle.std.proofs.lemmas.Map.Entries.{btree_map_get_place}
use Rattle.std.proofs.lemmas.Map.Text.{is_eq-slice_cmp}
use Rattle.std.proofs.lemmas.Option.{slice_get-get_or}
use Rattle.std.proofs.lemmas.Slice.Eq.{bytes_eq-Decides}
use Rattle.lam_rules.specs.Texts.{Text}
use Rattle.lam_rules.specs.Types.{Typ}
use Rattle.lam_rules.specs.declared.rules.Dialect.{Dialect}
use Rattle.lam_syntax.specs.Trees.{CommandTree}
use Rattle.lam_scope.specs.Names.{Name, binds, index_of}
use Rattle.lam_query.specs.declared.binders.SeenBinder.{SeenBinder}
use Rattle.lam_query.specs.Completions.{Item, AreAscending, names_in_sight, IsDetail, IsVisible, AreNames}
use Rattle.lam_query.specs.inner.SeenBinders.{name_seen}
use Rattle.lam_query.specs.inner.Sight.{detail_seen, detail_with, detail_after, detail_for, item_seen}

-- what is told of a binder: its name, if it has one, and the text of its entry
abbrev pub Told : Type 0
Told = Option Name × Option Text

abbrev pub told : Option (List Typ) → SeenBinder → Told
told types b = (name_seen b, detail_seen types b.entry)

-- the names of such binders
abbrev pub told_names : List Told → List (Option Name)
told_names bs = map (λ (b : Told). b.0) bs

-- and the texts
abbrev pub told_texts : List Told → List (Option Text)
told_texts bs = map (λ (b : Told). b.1) bs

-- binders from the outside in

abbrev told_with : Name → Option (Option Text) → Told → Option (Option Text)
told_with x before b = cond (binds b.0 x) (Some b.1) before

abbrev told_after : Name → Option (Option Text) → List Told → Option (Option Text)
told_after x before [] = before
told_after x before (b ∷ bs) = told_after x (told_with x before b) bs

details_told : (types : Option (List Typ)) (x : Name) (before : Option (Option Text)) (bs : List SeenBinder) → detail_after types x before bs ≡ told_after x before (map (told types) bs)
details_told types x before [] = refl
details_told types x before (b ∷ bs) = details_told types x (detail_with types x before b) bs

told_behind : (x : Name) (before : Option (Option Text)) (bs cs : List Told) → told_after x before (bs ++ cs) ≡ told_after x (told_after x before bs) cs
told_behind x before [] cs = refl
told_behind x before (b ∷ bs) cs = told_behind x (told_with x before b) bs cs

-- from the inside out

abbrev told_first : Name → List Told → Option (Option Text)
told_first x [] = None
told_first x (b ∷ bs) = cond (binds b.0 x) (Some b.1) (told_first x bs)

from_inside : (x : Name) (bs : List Told) → told_after x None (reverse bs) ≡ told_first x bs
from_inside x [] = refl
from_inside x (b ∷ bs) =
    ap (told_after x None) (reverse-append (b ∷ []) bs)
    ∙ told_behind x None (reverse bs) (b ∷ [])
    ∙ ap (λ o. told_with x o b) (from_inside x bs)

-- the innermost one of a name is the one of the name's index

record HasIndex (x : Name) (bs : List Told) (t : Option Text) : Type 0 where
  index : ℕ
  indexed : index_of x (told_names bs) ≡ Some index
  there : t ≡ get_or (told_texts bs) index None

first_has_index : (x : Name) (bs : List Told) (t : Option Text) → told_first x bs ≡ Some t → HasIndex x bs t
first_has_index x [] t e = let no_way : ⊥ = cc in absurd no_way
first_has_index x (b ∷ bs) t e = by (binds b.0 x) refl e (first_has_index x bs t)
  where
    by : (is : Bool) → binds b.0 x ≡ is → cond is (Some b.1) (told_first x bs) ≡ Some t → (told_first x bs ≡ Some t → HasIndex x bs t) → HasIndex x (b ∷ bs) t
    by true is e rest =
        let same : t ≡ b.1 = cc in
        record { index = 0; indexed = ap (λ k. cond k (Some 0) (option_map suc (index_of x (told_names bs)))) is; there = same }
    by false is e rest =
        let h = rest e in
        record {
          index = suc h.index;
          indexed = ap (λ k. cond k (Some 0) (option_map suc (index_of x (told_names bs)))) is ∙ ap (option_map suc) h.indexed;
          there = h.there;
        }

indexed_is_first : (x : Name) (bs : List Told) (k : ℕ) → index_of x (told_names bs) ≡ Some k → (t : Option Text) × (told_first x bs ≡ Some t)
indexed_is_first x [] k e = absurd cc
indexed_is_first x (b ∷ bs) k e = by (binds b.0 x) refl (index_of x (told_names bs)) e (indexed_is_first x bs)
  where
    by : (is : Bool) → binds b.0 x ≡ is → (further : Option ℕ) → cond (binds b.0 x) (Some 0) (option_map suc further) ≡ Some k
        → ((j : ℕ) → further ≡ Some j → (t : Option Text) × (told_first x bs ≡ Some t)) → (t : Option Text) × (told_first x (b ∷ bs) ≡ Some t)
    by true is further e rest = (b.1, ap (λ k. cond k (Some b.1) (told_first x bs)) is)
    by false is (Some j) e rest = let h = rest j refl in (h.0, ap (λ k. cond k (Some b.1) (told_first x bs)) is ∙ h.1)
    by false is None e rest = let no_way : None ≡ Some k = sym (ap (λ b. cond b (Some 0) None) is) ∙ e in absurd cc

-- the entries of the list

abbrev Entry : Type 0
Entry = String Global × Option (String Global)

ascending_labels : (es : List Entry) → IsStrictlySortedBy string_cmp (keys_of es) → AreAscending (map item_seen es)
unfolding IsStrictlySortedBy
ascending_labels [] h = tt
ascending_labels (e ∷ es) h = (below e es h.0, ascending_labels es h.1)
  where
    below : (e : Entry) (es : List Entry) → AllByRecursion (λ k. string_cmp e.0 k ≡ Less) (keys_of es)
        → AllByRecursion (λ l. slice_cmp nat_cmp (string_bytes e.0) l ≡ Less) (map (λ i. i.label) (map item_seen es))
    below e [] h = tt
    below e (f ∷ es) h = (h.0, below e es h.1)

is_listed : (x : Name) (es : List Entry) (o : Option (String Global)) → lookup (λ k. is_eq (slice_cmp nat_cmp x (string_bytes k))) es ≡ Some o
    → Contains (map (λ i. i.label) (map item_seen es)) x
is_listed x [] o found = absurd cc
is_listed x (e ∷ es) o found = by (is_eq (slice_cmp nat_cmp x (string_bytes e.0))) refl found (is_listed x es o)
  where
    by : (is : Bool) → is_eq (slice_cmp nat_cmp x (string_bytes e.0)) ≡ is → cond is (Some e.1) (lookup (λ k. is_eq (slice_cmp nat_cmp x (string_bytes k))) es) ≡ Some o
        → (lookup (λ k. is_eq (slice_cmp nat_cmp x (string_bytes k))) es ≡ Some o → Contains (map (λ i. i.label) (map item_seen es)) x)
        → Contains (map (λ i. i.label) (map item_seen (e ∷ es))) x
    by true is found rest = (0, omega arith, sym ((bytes_eq-Decides x (string_bytes e.0)).0 (sym (is_eq-slice_cmp x (string_bytes e.0)) ∙ is)))
    by false is found rest = let h = rest found in let lt = h.1 in (suc h.0, omega arith, h.2)

module _ (cs : List CommandTree) (d : Dialect) (n : ℕ) (bs : List Told) (m : BTreeMap (String Global) (Option (String Global)))
    (names : told_names bs ≡ names_in_sight cs n) (details : (k : ℕ) → IsDetail cs n k (get_or (told_texts bs) k None) d)
    (each : (x : Name) → detail_for m x ≡ told_first x bs) where
  visible_entry : (e : Entry) → get_by_text m (string_bytes e.0) ≡ Some e.1 → IsVisible cs n (item_seen e) d
  visible_entry e found =
      let x = string_bytes e.0 in
      let t = option_map (λ (s : String Global). string_bytes s) e.1 in
      let h = first_has_index x bs t (sym (each x) ∙ ap (option_map (option_map (λ (s : String Global). string_bytes s))) found) in
      record {
        index = h.index;
        indexed = ap (index_of x) (sym names) ∙ h.indexed;
        detail = subst (λ (o : Option Text). IsDetail cs n h.index o d) (sym h.there) (details h.index);
        no_field = refl;
      }

  all_visible : IsOrdered string_cmp m → All (λ i. IsVisible cs n i d) (map item_seen m.entries)
  all_visible ordered =
      All-map (λ i. IsVisible cs n i d) item_seen m.entries
      (λ k e lt. visible_entry (get_or m.entries k e) (btree_map_get_place string_cmp_total m k (get_or m.entries k e).0 (get_or m.entries k e).1 ordered (slice_get-get_or m.entries k e lt)))

  every_name : (x : Name) (k : ℕ) → index_of x (names_in_sight cs n) ≡ Some k → Contains (map (λ i. i.label) (map item_seen m.entries)) x
  every_name x k indexed =
      let h = indexed_is_first x bs k (ap (index_of x) names ∙ indexed) in
      by (get_by_text m x) refl (each x ∙ h.1)
    where
      by : (o : Option (Option (String Global))) → get_by_text m x ≡ o → {t : Option Text} → option_map (option_map (λ (s : String Global). string_bytes s)) o ≡ Some t
          → Contains (map (λ i. i.label) (map item_seen m.entries)) x
      by None is e = absurd cc
      by (Some found) is e = is_listed x m.entries found is

  are_names : IsOrdered string_cmp m → AreNames cs n (map item_seen m.entries) d
  are_names ordered = record { ascending = ascending_labels m.entries ordered; each = all_visible ordered; every = every_name }

-- all of it

-- binders from the outside in, over the types of one table and of another, as they are told from the inside out
abbrev pub told_inside_out : (outer_types inner_types : Option (List Typ)) → (outer inner : List SeenBinder) → List Told
told_inside_out ts us outer inner = reverse (map (told ts) outer ++ map (told us) inner)

each_told : (ts us : Option (List Typ)) (outer inner : List SeenBinder) (x : Name)
    → detail_after us x (detail_after ts x None outer) inner ≡ told_first x (told_inside_out ts us outer inner)
each_told ts us outer inner x =
    let bs = map (told ts) outer in
    let cs = map (told us) inner in
    details_told us x (detail_after ts x None outer) inner
    ∙ ap (λ o. told_after x o cs) (details_told ts x None outer)
    ∙ sym (told_behind x None bs cs)
    ∙ ap (told_after x None) (sym (reverse-reverse (bs ++ cs)))
    ∙ from_inside x (reverse (bs ++ cs))

pub both_ok : {A B : Type 0} (r : Result A B) (P Q R : A → Type 0) → ((x : A) → P x → Q x → R x) → IfOk r P → IfOk r Q → IfOk r R
both_ok (Ok x) P Q R joined p q = joined x p q
both_ok (Err y) P Q R joined p q = tt

pub names_listed : (cs : List CommandTree) (d : Dialect) (n : ℕ) (ts us : Option (List Typ)) (outer inner : List SeenBinder)
    (none some all : BTreeMap (String Global) (Option (String Global))) (items : List Item)
    → told_names (told_inside_out ts us outer inner) ≡ names_in_sight cs n
    → ((k : ℕ) → IsDetail cs n k (get_or (told_texts (told_inside_out ts us outer inner)) k None) d)
    → ((x : Name) → detail_for none x ≡ None) → ((x : Name) → detail_for some x ≡ detail_after ts x (detail_for none x) outer)
    → ((x : Name) → detail_for all x ≡ detail_after us x (detail_for some x) inner)
    → items ≡ map item_seen all.entries → IsOrdered string_cmp all → AreNames cs n items d
names_listed cs d n ts us outer inner none some all items names details begins first then told ordered =
    let each : (x : Name) → detail_for all x ≡ told_first x (told_inside_out ts us outer inner) = λ x.
    then x
    ∙ ap (λ o. detail_after us x o inner) (first x ∙ ap (λ o. detail_after ts x o outer) (begins x))
    ∙ each_told ts us outer inner x in
    subst (λ is. AreNames cs n is d) (sym told) (are_names cs d n (told_inside_out ts us outer inner) all names details each ordered)
