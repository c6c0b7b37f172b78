-- Whether a use finds its binder once a binder has a new name: the rows of a table decide it as the names in sight do.
use Rattle.std.proofs.Common.{◌≡◌, ℕ, ◌+◌, ◌<◌, ◌≤◌, ◌==◌, zero, suc, List, [], ◌∷◌, ◌++◌, length, length-append, get_or, map, refl, ap, sym, ◌∙◌, subst, arith, Bool, true, false, Option, Some, None}
use Rattle.std.specs.Prelude.{if◌then◌else◌}
use Rattle.std.specs.Option.{option_map}
use Rattle.std.specs.Str.{bytes_eq}
use Rattle.std.proofs.lemmas.Slice.Eq.{bytes_eq-Decides}
use lib.ListN.{get_or-append}
use lib.Seq.{get_or-append_seam}
use Rattle.lam_token.specs.declared.span.Span.{Span}
use Rattle.lam_scope.specs.Names.{Name, binds, index_of}
use Rattle.lam_scope.specs.Tables.{TextBinder, Entry, entry, entry_names, innermost, bound_to, use_of, free_name, binder_in, is_number}
use Rattle.lam_scope.specs.Forms.{unbound, use_form}
use Rattle.lam_scope.specs.Renames.{renamed_use, renamed_binder}
use Rattle.lam_scope.specs.inner.Bearers.{bears, told_of, bearer, bearers_behind, bearers, name_by, takes, is_answer, keeps}
use Rattle.lam_scope.proofs.Lookups.{unbound_by_index}
use Rattle.lam_scope.proofs.UseChains.{same_number}

-- the binders in sight after the rename
abbrev pub renamed_entry : (b : ℕ) → Name → Entry → Entry
renamed_entry b new e = entry (renamed_binder b new e.answer e.name) e.number e.answer

abbrev pub renamed_entries : (b : ℕ) → Name → List Entry → List Entry
renamed_entries b new es = map (renamed_entry b new) es

-- a binder in sight stands for a row of the table, and its answer is before n
pub record StandsFor (bs : List TextBinder) (n : ℕ) (e : Entry) (outer : Option ℕ) : Type 0 where
  pub inside : e.number < length bs
  pub own : e.number ≤ e.answer
  pub before : e.answer < n
  pub outer_is : (binder_in bs e.number).outer ≡ outer
  pub name_is : (binder_in bs e.number).name ≡ e.name
  pub answer_is : (binder_in bs e.number).answer ≡ e.answer
  pub shared : (binder_in bs e.answer).name ≡ e.name

-- the binders in sight, each inside of the next
abbrev pub AreInSight : List TextBinder → ℕ → List Entry → Type 0
AreInSight bs n [] = Unit {0}
AreInSight bs n (e ∷ es) = StandsFor bs n e (innermost es) × AreInSight bs e.number es

pub in_sight_more : (bs : List TextBinder) (n m : ℕ) (es : List Entry) → n ≤ m → AreInSight bs n es → AreInSight bs m es
in_sight_more bs n m [] le h = tt
in_sight_more bs n m (e ∷ es) le h =
    let s = h.0 in
    let before = s.before in
    (record { inside = s.inside; own = s.own; before = omega arith; outer_is = s.outer_is; name_is = s.name_is; answer_is = s.answer_is; shared = s.shared }, h.1)

-- ---- who bears the new name, by the rows

-- the binder of a number is before n, if there is one
abbrev IsUnder : Option ℕ → ℕ → Type 0
IsUnder None n = Unit {0}
IsUnder (Some m) n = m < n

module _ (b : ℕ) (new : Name) where
  told_stays : (told : List (Option ℕ)) (rows : List TextBinder) (k : ℕ) → k < length told → get_or (bearers_behind b new told rows) k None ≡ get_or told k None
  told_stays told [] k lt = refl
  told_stays told (r ∷ rows) k lt =
      let one = bearer b new told r ∷ [] in
      told_stays (told ++ one) rows k (omega (arith, length-append told one)) ∙ get_or-append told one None k lt

  told_under : (told : List (Option ℕ)) (rows : List TextBinder) (o : Option ℕ) → IsUnder o (length told) → told_of (bearers_behind b new told rows) o ≡ told_of told o
  told_under told rows None under = refl
  told_under told rows (Some k) under = told_stays told rows k under

  told_row : (told : List (Option ℕ)) (rows : List TextBinder) (k : ℕ) (d : TextBinder) → k < length rows → IsUnder (get_or rows k d).outer (length told + k)
      → get_or (bearers_behind b new told rows) (length told + k) None ≡ bearer b new (bearers_behind b new told rows) (get_or rows k d)
  told_row told [] k d lt under = absurd (omega arith)
  told_row told (r ∷ rows) zero d lt under =
      let x = bearer b new told r in
      let all = bearers_behind b new (told ++ x ∷ []) rows in
      let here : length told + zero ≡ length told = omega arith in
      let inside : length told < length (told ++ x ∷ []) = omega (arith, length-append told (x ∷ [])) in
      ap (λ j. get_or all j None) here ∙ told_stays (told ++ x ∷ []) rows (length told) inside ∙ get_or-append_seam told x [] None
      ∙ ap (λ o. if bears b new r then Some r.answer else o) (sym (told_under told (r ∷ rows) r.outer (subst (IsUnder r.outer) here under)))
  told_row told (r ∷ rows) (suc k) d lt under =
      let x = bearer b new told r in
      let all = bearers_behind b new (told ++ x ∷ []) rows in
      let here : length told + suc k ≡ length (told ++ x ∷ []) + k = omega (arith, length-append told (x ∷ [])) in
      ap (λ j. get_or all j None) here ∙ told_row (told ++ x ∷ []) rows k d (omega arith) (subst (IsUnder (get_or rows k d).outer) here under)

  told_numbered : (rows : List TextBinder) (k : ℕ) → k < length rows → IsUnder (binder_in rows k).outer k → get_or (bearers b new rows) k None ≡ bearer b new (bearers b new rows) (binder_in rows k)
  told_numbered rows k lt under =
      let here : 0 + k ≡ k = omega arith in
      ap (λ j. get_or (bearers b new rows) j None) (sym here) ∙ told_row [] rows k _ lt (subst (IsUnder (binder_in rows k).outer) (sym here) under)

under_next : (bs : List TextBinder) (n : ℕ) (es : List Entry) → AreInSight bs n es → IsUnder (innermost es) n
under_next bs n [] h = tt
under_next bs n (e ∷ es) h = let own = h.0.own in let before = h.0.before in omega arith

-- ---- names

binds_is : (o : Option Name) (x : Name) → binds o x ≡ true → o ≡ Some x
binds_is None x e = cc
binds_is (Some y) x e = ap Some ((bytes_eq-Decides y x).0 e)

self : (x : Name) → bytes_eq x x ≡ true
self x = (bytes_eq-Decides x x).1 refl

other_way : (x y : Name) → bytes_eq x y ≡ false → bytes_eq y x ≡ false
other_way x y e = by (bytes_eq y x) refl
  where
    by : (c : Bool) → bytes_eq y x ≡ c → bytes_eq y x ≡ false
    by true f = let same = (bytes_eq-Decides x y).1 (sym ((bytes_eq-Decides y x).0 f)) in let wrong : true ≡ false = sym same ∙ e in cc
    by false f = f

is_answer_same : (o p : Option ℕ) → is_answer o p ≡ true → o ≡ p
is_answer_same None None e = refl
is_answer_same (Some m) (Some n) e = ap Some (grind (arith, e))
is_answer_same None (Some n) e = cc
is_answer_same (Some m) None e = cc

same_is_answer : (o p : Option ℕ) → o ≡ p → is_answer o p ≡ true
same_is_answer None p e = ap (is_answer None) (sym e)
same_is_answer (Some m) p e = ap (is_answer (Some m)) (sym e) ∙ same_number m m refl

-- ---- a use

module _ (b : ℕ) (new : Name) (bs : List TextBinder) where
  bearer_found : (n : ℕ) (es : List Entry) → AreInSight bs n es → told_of (bearers b new bs) (innermost es) ≡ bound_to new (renamed_entries b new es)
  bearer_found n [] h = refl
  bearer_found n (e ∷ es) h =
      let own = h.0 in
      let told = bearers b new bs in
      told_numbered b new bs e.number own.inside (subst (λ o. IsUnder o e.number) (sym own.outer_is) (under_next bs e.number es h.1))
      ∙ (λ i. if binds (renamed_binder b new (own.answer_is i) (own.name_is i)) new then Some (own.answer_is i) else told_of told (own.outer_is i))
      ∙ ap (λ o. if binds (renamed_binder b new e.answer e.name) new then Some e.answer else o) (bearer_found e.number es h.1)

  -- the answer for a use is before n, and has its name
  answer_named : (n : ℕ) (x : Name) (es : List Entry) (a : ℕ) → AreInSight bs n es → bound_to x es ≡ Some a → (a < n) × ((binder_in bs a).name ≡ Some x)
  answer_named n x [] a h e = cc
  answer_named n x (f ∷ es) a h e = by (λ found. answer_named f.number x es a h.1 found) (binds f.name x) refl e
    where
      by : (bound_to x es ≡ Some a → (a < f.number) × ((binder_in bs a).name ≡ Some x)) → (c : Bool) → binds f.name x ≡ c → (if c then Some f.answer else bound_to x es) ≡ Some a
          → (a < n) × ((binder_in bs a).name ≡ Some x)
      by outside true is found =
          let same : f.answer ≡ a = cc in
          let before = h.0.before in
          (omega arith, subst (λ m. (binder_in bs m).name ≡ Some x) same (h.0.shared ∙ binds_is f.name x is))
      by outside false is found =
          let rest = outside found in
          let below = rest.0 in
          let own = h.0.own in
          let before = h.0.before in
          (omega arith, rest.1)

  takes_new : (n : ℕ) (x : Name) (s : Span) (es : List Entry) → AreInSight bs n es → takes b new bs (use_of x s es) ≡ bytes_eq (renamed_use b new es x) new
  takes_new n x s es h = by (bound_to x es) (λ a e. (answer_named n x es a h e).1)
    where
      by : (o : Option ℕ) → ((a : ℕ) → o ≡ Some a → (binder_in bs a).name ≡ Some x)
          → (if is_number b o then true else binds (name_by bs (free_name x o) o) new) ≡ bytes_eq (if is_number b o then new else x) new
      by None named = refl
      by (Some a) named = pick (a == b)
        where
          pick : (c : Bool) → (if c then true else binds (binder_in bs a).name new) ≡ bytes_eq (if c then new else x) new
          pick true = sym (self new)
          pick false = ap (λ o. binds o new) (named a refl)

  -- a use that does not bear the new name finds the binder that it had
  other_stays : (x : Name) (es : List Entry) → bytes_eq x new ≡ false → is_number b (bound_to x es) ≡ false → bound_to x (renamed_entries b new es) ≡ bound_to x es
  other_stays x [] other unbound_here = refl
  other_stays x (e ∷ es) other none = by (λ rest. other_stays x es other rest) e.name none
    where
      Stays : Type 0
      Stays = is_number b (bound_to x es) ≡ false → bound_to x (renamed_entries b new es) ≡ bound_to x es

      step : Stays → (c d : Bool) (y : Name) → (e.answer == b) ≡ c → bytes_eq y x ≡ d → is_number b (if d then Some e.answer else bound_to x es) ≡ false
          → (if bytes_eq (if c then new else y) x then Some e.answer else bound_to x (renamed_entries b new es)) ≡ (if d then Some e.answer else bound_to x es)
      step outside true true y is same differs = let wrong : true ≡ false = sym is ∙ differs in cc
      step outside true false y is same differs = ap (λ f. if f then Some e.answer else bound_to x (renamed_entries b new es)) (other_way x new other) ∙ outside differs
      step outside false true y is same differs = ap (λ f. if f then Some e.answer else bound_to x (renamed_entries b new es)) same
      step outside false false y is same differs = ap (λ f. if f then Some e.answer else bound_to x (renamed_entries b new es)) same ∙ outside differs

      by : Stays → (o : Option Name) → is_number b (if binds o x then Some e.answer else bound_to x es) ≡ false
          → (if binds (renamed_binder b new e.answer o) x then Some e.answer else bound_to x (renamed_entries b new es)) ≡ (if binds o x then Some e.answer else bound_to x es)
      by outside None differs = outside differs
      by outside (Some y) differs = step outside (e.answer == b) (bytes_eq y x) y refl refl differs

-- ---- one binder is found just where one index is

abbrev Descend : ℕ → List Entry → Type 0
Descend n [] = Unit {0}
Descend n (e ∷ es) = (e.answer < n) × Descend e.answer es

descend_more : (n m : ℕ) (es : List Entry) → n ≤ m → Descend n es → Descend m es
descend_more n m [] le h = tt
descend_more n m (e ∷ es) le h = (omega (arith, h.0), h.1)

sight_descends : (bs : List TextBinder) (n : ℕ) (es : List Entry) → AreInSight bs n es → Descend n es
sight_descends bs n [] h = tt
sight_descends bs n (e ∷ es) h = (h.0.before, descend_more e.number e.answer es h.0.own (sight_descends bs e.number es h.1))

renamed_descend : (b : ℕ) (new : Name) (n : ℕ) (es : List Entry) → Descend n es → Descend n (renamed_entries b new es)
renamed_descend b new n [] h = tt
renamed_descend b new n (e ∷ es) h = (h.0, renamed_descend b new e.answer es h.1)

bound_below : (n : ℕ) (x : Name) (es : List Entry) (a : ℕ) → Descend n es → bound_to x es ≡ Some a → a < n
bound_below n x [] a h e = cc
bound_below n x (f ∷ es) a h e = by (λ found. bound_below f.answer x es a h.1 found) (binds f.name x) e
  where
    by : (bound_to x es ≡ Some a → a < f.answer) → (c : Bool) → (if c then Some f.answer else bound_to x es) ≡ Some a → a < n
    by outside true found = let same : f.answer ≡ a = cc in omega (arith, h.0)
    by outside false found = omega (arith, h.0, outside found)

never_here : (n : ℕ) (x : Name) (es : List Entry) → Descend n es → Some n ≡ bound_to x es → ⊥
never_here n x es h e = let below = bound_below n x es n h (sym e) in absurd (omega arith)

suc_same : (o p : Option ℕ) → option_map suc o ≡ option_map suc p → o ≡ p
suc_same None None e = refl
suc_same (Some m) (Some n) e = ap Some cc
suc_same None (Some n) e = cc
suc_same (Some m) None e = cc

not_first : (o : Option ℕ) → Some 0 ≡ option_map suc o → ⊥
not_first None e = cc
not_first (Some n) e = cc

module _ (b : ℕ) (new x y : Name) where
  indices_agree : (n : ℕ) (es : List Entry) → Descend n es → bound_to x (renamed_entries b new es) ≡ bound_to y es → index_of x (entry_names (renamed_entries b new es)) ≡ index_of y (entry_names es)
  indices_agree n [] h e = refl
  indices_agree n (f ∷ es) h e = by (λ same. indices_agree f.answer es h.1 same) (binds (renamed_binder b new f.answer f.name) x) (binds f.name y) e
    where
      by : (bound_to x (renamed_entries b new es) ≡ bound_to y es → index_of x (entry_names (renamed_entries b new es)) ≡ index_of y (entry_names es)) → (c d : Bool) → (if c then Some f.answer else bound_to x (renamed_entries b new es)) ≡ (if d then Some f.answer else bound_to y es)
          → (if c then Some 0 else option_map suc (index_of x (entry_names (renamed_entries b new es)))) ≡ (if d then Some 0 else option_map suc (index_of y (entry_names es)))
      by outside true true same = refl
      by outside true false same = absurd (never_here f.answer y es h.1 same)
      by outside false true same = absurd (never_here f.answer x (renamed_entries b new es) (renamed_descend b new f.answer es h.1) (sym same))
      by outside false false same = ap (option_map suc) (outside same)

  binders_agree : (es : List Entry) → index_of x (entry_names (renamed_entries b new es)) ≡ index_of y (entry_names es) → bound_to x (renamed_entries b new es) ≡ bound_to y es
  binders_agree [] e = refl
  binders_agree (f ∷ es) e = by (λ same. binders_agree es same) (binds (renamed_binder b new f.answer f.name) x) (binds f.name y) e
    where
      by : (index_of x (entry_names (renamed_entries b new es)) ≡ index_of y (entry_names es) → bound_to x (renamed_entries b new es) ≡ bound_to y es) → (c d : Bool) → (if c then Some 0 else option_map suc (index_of x (entry_names (renamed_entries b new es)))) ≡ (if d then Some 0 else option_map suc (index_of y (entry_names es)))
          → (if c then Some f.answer else bound_to x (renamed_entries b new es)) ≡ (if d then Some f.answer else bound_to y es)
      by outside true true same = refl
      by outside true false same = absurd (not_first (index_of y (entry_names es)) same)
      by outside false true same = absurd (not_first (index_of x (entry_names (renamed_entries b new es))) (sym same))
      by outside false false same = outside (suc_same _ _ same)

-- ---- the form of a use

indices_of_forms : (x y : Name) (o p : Option ℕ) → use_form x o ≡ use_form y p → o ≡ p
indices_of_forms x y None None e = refl
indices_of_forms x y (Some m) (Some n) e = ap Some cc
indices_of_forms x y None (Some n) e = cc
indices_of_forms x y (Some m) None e = cc

module _ (b : ℕ) (new : Name) (bs : List TextBinder) (n : ℕ) (x : Name) (s : Span) (es : List Entry) (sight : AreInSight bs n es) where
  abbrev told : Name
  told = renamed_use b new es x

  abbrev kept : Bool
  kept = keeps b new bs (bearers b new bs) (use_of x s es)

  decided : kept ≡ (if bytes_eq told new then is_answer (bound_to new (renamed_entries b new es)) (bound_to x es) else true)
  decided = λ i. if takes_new b new bs n x s es sight i then is_answer (bearer_found b new bs n es sight i) (bound_to x es) else true

  bound_if_kept : kept ≡ true → bound_to told (renamed_entries b new es) ≡ bound_to x es
  bound_if_kept is = by (bytes_eq told new) refl (sym decided ∙ is)
    where
      unchanged : bytes_eq told new ≡ false → (is_number b (bound_to x es) ≡ false) × (told ≡ x)
      unchanged other = pick (is_number b (bound_to x es)) other
        where
          pick : (c : Bool) → bytes_eq (if c then new else x) new ≡ false → (c ≡ false) × ((if c then new else x) ≡ x)
          pick true differs = let wrong : true ≡ false = sym (self new) ∙ differs in cc
          pick false differs = (refl, refl)

      by : (c : Bool) → bytes_eq told new ≡ c → (if c then is_answer (bound_to new (renamed_entries b new es)) (bound_to x es) else true) ≡ true
          → bound_to told (renamed_entries b new es) ≡ bound_to x es
      by true same answered = ap (λ y. bound_to y (renamed_entries b new es)) ((bytes_eq-Decides told new).0 same) ∙ is_answer_same _ _ answered
      by false other answered =
          let stays = unchanged other in
          ap (λ y. bound_to y (renamed_entries b new es)) stays.1 ∙ other_stays b new bs x es (ap (λ y. bytes_eq y new) (sym stays.1) ∙ other) stays.0

  kept_if_bound : bound_to told (renamed_entries b new es) ≡ bound_to x es → kept ≡ true
  kept_if_bound same = decided ∙ by (bytes_eq told new) refl
    where
      by : (c : Bool) → bytes_eq told new ≡ c → (if c then is_answer (bound_to new (renamed_entries b new es)) (bound_to x es) else true) ≡ true
      by true is = same_is_answer _ _ (ap (λ y. bound_to y (renamed_entries b new es)) (sym ((bytes_eq-Decides told new).0 is)) ∙ same)
      by false is = refl

  -- a use is kept just where it has the form that it had
  pub form_if_kept : keeps b new bs (bearers b new bs) (use_of x s es) ≡ true → use_form (renamed_use b new es x) (index_of (renamed_use b new es x) (entry_names (renamed_entries b new es))) ≡ use_form x (index_of x (entry_names es))
  form_if_kept is = by (index_of x (entry_names es)) refl
    where
      indices : index_of told (entry_names (renamed_entries b new es)) ≡ index_of x (entry_names es)
      indices = indices_agree b new told x n es (sight_descends bs n es sight) (bound_if_kept is)

      by : (o : Option ℕ) → index_of x (entry_names es) ≡ o → use_form told (index_of told (entry_names (renamed_entries b new es))) ≡ use_form x o
      by None none =
          let free = unbound_by_index x es none in
          ap (use_form told) (indices ∙ none) ∙ ap (λ o. unbound (if is_number b o then new else x)) free
      by (Some m) some = ap (use_form told) (indices ∙ some)

  pub kept_if_form : use_form (renamed_use b new es x) (index_of (renamed_use b new es x) (entry_names (renamed_entries b new es))) ≡ use_form x (index_of x (entry_names es)) → keeps b new bs (bearers b new bs) (use_of x s es) ≡ true
  kept_if_form same = kept_if_bound (binders_agree b new told x es (indices_of_forms told x _ _ same))
