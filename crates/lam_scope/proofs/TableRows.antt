-- How rows are added to tables.
use Rattle.std.proofs.Common.{◌≡◌, ℕ, ◌+◌, ◌<◌, ◌≤◌, List, [], ◌∷◌, ◌++◌, length, drop, get_or, slice_set, zero, suc, refl, ap, sym, ◌∙◌, append_assoc, length-append, map, arith, Option, true, Some}
use Rattle.lam_syntax.specs.Letters.{letters}
use Rattle.std.proofs.lemmas.List.{append-nil, map-append, drop_all}
use Rattle.std.specs.Option.{option_map}
use Rattle.lam_token.specs.declared.span.Span.{Span}
use Rattle.lam_syntax.specs.declared.terms.Command.{Command}
use Rattle.lam_syntax.specs.declared.terms.TmField.{TmField}
use Rattle.lam_syntax.specs.declared.types.TyField.{TyField}
use Rattle.lam_syntax.specs.Trees.{TermTree}
use Rattle.lam_syntax.specs.Views.{type_fields_of, term_of, fields_of, command_of}
use Rattle.lam_syntax.proofs.Shapes.{type_node_of-Bool, type_node_of-Nat, type_node_of-Unit, type_node_of-Top, type_node_of-Named, type_node_of-Arrow, type_node_of-Record, term_node_of-True, term_node_of-False, term_node_of-Unit, term_node_of-Variable, term_node_of-Numeral, term_node_of-Lambda, term_node_of-If, term_node_of-Let, term_node_of-Letrec, term_node_of-Prefixed, term_node_of-Apply, term_node_of-Project, term_node_of-Ascribe, term_node_of-Record}
use Rattle.lam_scope.specs.declared.numbers.Origin.{Origin}
use Rattle.lam_scope.specs.declared.numbers.Origin.TheVariants.{TypeName}
use Rattle.lam_scope.specs.declared.numbers.Place.{Place}
use Rattle.lam_scope.specs.declared.rows.BinderRow.{BinderRow}
use Rattle.lam_scope.specs.declared.rows.UseRow.{UseRow}
use Rattle.lam_scope.specs.declared.rows.PlaceRow.{PlaceRow}
use Rattle.lam_scope.specs.Names.{Name, index_of}
use Rattle.lam_scope.specs.Slices.{AreInOrder}
use Rattle.lam_scope.specs.Sights.{lambda_at, term_at}
use Rattle.lam_scope.specs.Tables.{TextBinder, Table, ◌⊕◌, empty_table, Entry, entry, entry_names, letrec_rows, innermost, bound_to, binder_row, use_row, free_name, place_row, root, behind, roots_of_fields, binders_in, binders_in_fields, below_fields, field_uses, term_table, fields_table, command_table, types_seen_after, names_seen_after, binders_in_command, places_in_command, commands_table}
use Rattle.lam_scope.specs.TableViews.{binder_number, binder_of, between_of, place_number, text_binder, text_use, text_place, text_places, terms_start, rows_table, originated, with_origin, origin_of}
use Rattle.lam_scope.proofs.Resolving.{commands-drop}
use Rattle.lam_scope.proofs.Slices.{in_order-longer, in_order-pushed, sliced-pushed}
use Rattle.lam_scope.proofs.Walks.{fields_of-drop}
use Rattle.lam_scope.proofs.WrittenTypes.{type_fields_of-drop}

-- tables behind one another

pub plus_assoc : (s t u : Table) → (s ⊕ t) ⊕ u ≡ s ⊕ (t ⊕ u)
unfolding ◌⊕◌
plus_assoc s t u = λ i. record { binders = append_assoc s.binders t.binders u.binders i; uses = append_assoc s.uses t.uses u.uses i; places = append_assoc s.places t.places u.places i }

pub plus_empty : (s : Table) → s ⊕ empty_table ≡ s
unfolding ◌⊕◌
plus_empty s = λ i. record { binders = append-nil s.binders i; uses = append-nil s.uses i; places = append-nil s.places i }

pub empty_plus : (s : Table) → empty_table ⊕ s ≡ s
unfolding ◌⊕◌
empty_plus s = refl

-- one more row

pub new_binder : (bs more : List BinderRow) (us : List UseRow) (ps : List PlaceRow) (ts : List Place) (b : BinderRow) (x : Option Name) (seen : List Entry)
    → more ≡ bs ++ b ∷ [] → option_map (λ s. letters s) b.name ≡ x → option_map binder_number b.outer ≡ innermost seen
    → rows_table more us ps ts ≡ rows_table bs us ps ts ⊕ binder_row x b.token seen b.answer.0 (origin_of b.origin)
unfolding ◌⊕◌
new_binder bs more us ps ts b x seen pushed named outer = λ i. record {
  binders = (ap (map text_binder) pushed ∙ map-append text_binder bs (b ∷ []) ∙ (λ j. map text_binder bs ++ record { name = named j; token = b.token; outer = outer j; answer = b.answer.0; origin = origin_of b.origin } ∷ [])) i;
  uses = sym (append-nil (map text_use us)) i;
  places = sym (append-nil (text_places ts ps)) i;
}

pub new_use : (bs : List BinderRow) (us more : List UseRow) (ps : List PlaceRow) (ts : List Place) (u : UseRow) (x : Name) (seen : List Entry)
    → more ≡ us ++ u ∷ [] → option_map binder_of u.bound ≡ bound_to x seen → option_map between_of u.bound ≡ index_of x (entry_names seen)
    → option_map binder_number u.inner ≡ innermost seen → option_map (λ s. letters s) u.free ≡ free_name x (option_map binder_of u.bound)
    → rows_table bs more ps ts ≡ rows_table bs us ps ts ⊕ use_row x u.token seen
unfolding ◌⊕◌
new_use bs us more ps ts u x seen pushed own indexed inner free = λ i. record {
  binders = sym (append-nil (map text_binder bs)) i;
  uses = (ap (map text_use) pushed ∙ map-append text_use us (u ∷ [])
      ∙ (λ j. map text_use us ++ record { token = u.token; binder = own j; between = indexed j; inner = inner j; free = (free ∙ ap (free_name x) own) j } ∷ [])) i;
  places = sym (append-nil (text_places ts ps)) i;
}

pub new_place : (bs : List BinderRow) (us : List UseRow) (ps more : List PlaceRow) (ts longer new : List Place) (p : PlaceRow) (seen : List Entry)
    → AreInOrder terms_start (length ts) ps → more ≡ ps ++ p ∷ [] → longer ≡ ts ++ new → p.terms_start ≡ length ts → option_map binder_number p.inner ≡ innermost seen
    → rows_table bs us more longer ≡ rows_table bs us ps ts ⊕ place_row p.span p.derived (map place_number new) seen
unfolding ◌⊕◌
new_place bs us ps more ts longer new p seen order pushed grown start inner = λ i. record {
  binders = sym (append-nil (map text_binder bs)) i;
  uses = sym (append-nil (map text_use us)) i;
  places = ((λ j. text_places (grown j) (pushed j))
      ∙ sliced-pushed terms_start text_place ts new ps p order start
      ∙ (λ j. text_places ts ps ++ record { span = p.span; derived = p.derived; terms = map place_number new; inner = inner j } ∷ [])) i;
}

-- the immediate terms stay in order

pub terms-longer : (ps : List PlaceRow) (n m : ℕ) → n ≤ m → AreInOrder terms_start n ps → AreInOrder terms_start m ps
terms-longer ps n m le order = in_order-longer terms_start n m ps le order

pub terms-pushed : (ps more : List PlaceRow) (p : PlaceRow) (n : ℕ) → more ≡ ps ++ p ∷ [] → p.terms_start ≡ n → AreInOrder terms_start n ps → AreInOrder terms_start n more
terms-pushed ps more p n pushed is order = rw pushed (in_order-pushed terms_start n ps p is order)

-- the origin of a binder

originated-here : (bs : List TextBinder) (b : TextBinder) (rest : List TextBinder) (o : Origin) → originated (length bs) o (bs ++ b ∷ rest) ≡ bs ++ record b { origin = o } ∷ rest
originated-here [] b rest o = refl
originated-here (c ∷ bs) b rest o = ap (λ cs. c ∷ cs) (originated-here bs b rest o)

pub origin-set : (bs : List BinderRow) (n : ℕ) (b : BinderRow) (o : Origin) → n < length bs → b ≡ get_or bs n b
    → map text_binder (slice_set bs n (record b { origin = Some o })) ≡ originated n o (map text_binder bs)
origin-set [] n b o lt is = absurd (omega arith)
origin-set (c ∷ bs) zero b o lt is = ap (λ d. record (text_binder d) { origin = o } ∷ map text_binder bs) is
origin-set (c ∷ bs) (suc n) b o lt is = ap (λ cs. text_binder c ∷ cs) (origin-set bs n b o (omega arith) is)

-- the origin of the binder that comes after a table is set
origin_told : (r a : Table) (x : Option Name) (s : Span) (seen : List Entry) (answer : ℕ) (before o : Origin) (n : ℕ) → n ≡ length r.binders
    → with_origin n o ((r ⊕ binder_row x s seen answer before) ⊕ a) ≡ r ⊕ (binder_row x s seen answer o ⊕ a)
unfolding ◌⊕◌
origin_told r a x s seen answer before o n last = λ i. record {
  binders = (ap (originated n o) (append_assoc r.binders (record { name = x; token = s; outer = innermost seen; answer = answer; origin = before } ∷ []) a.binders)
      ∙ ap (λ m. originated m o (r.binders ++ record { name = x; token = s; outer = innermost seen; answer = answer; origin = before } ∷ a.binders)) last
      ∙ originated-here r.binders (record { name = x; token = s; outer = innermost seen; answer = answer; origin = before }) a.binders o) i;
  uses = append_assoc r.uses [] a.uses i;
  places = append_assoc r.places [] a.places i;
}

three : (s a b c : Table) → s ⊕ a ⊕ b ⊕ c ≡ s ⊕ (a ⊕ b ⊕ c)
three s a b c = ap (λ t. t ⊕ c) (plus_assoc s a b) ∙ plus_assoc s (a ⊕ b) c

four : (s a b c d : Table) → s ⊕ a ⊕ b ⊕ c ⊕ d ≡ s ⊕ (a ⊕ b ⊕ c ⊕ d)
four s a b c d = ap (λ t. t ⊕ d) (three s a b c) ∙ plus_assoc s (a ⊕ b ⊕ c) d

five : (s a b c d e : Table) → s ⊕ a ⊕ b ⊕ c ⊕ d ⊕ e ≡ s ⊕ (a ⊕ b ⊕ c ⊕ d ⊕ e)
five s a b c d e = ap (λ t. t ⊕ e) (four s a b c d) ∙ plus_assoc s (a ⊕ b ⊕ c ⊕ d) e

six : (s a b c d e f : Table) → s ⊕ a ⊕ b ⊕ c ⊕ d ⊕ e ⊕ f ≡ s ⊕ (a ⊕ b ⊕ c ⊕ d ⊕ e ⊕ f)
six s a b c d e f = ap (λ t. t ⊕ f) (five s a b c d e) ∙ plus_assoc s (a ⊕ b ⊕ c ⊕ d ⊕ e) f

-- the rows of a binder that takes its type from the term behind it
pub bound_rows : (r0 r1 r2 r3 t u : Table) (x : Option Name) (s : Span) (seen : List Entry) (answer n : ℕ) (before o p : Origin)
    → r1 ≡ r0 ⊕ binder_row x s seen answer before → r2 ≡ r1 ⊕ t → r3 ≡ with_origin n o r2 → n ≡ length r0.binders → t ≡ u → o ≡ p
    → r3 ≡ r0 ⊕ (binder_row x s seen answer p ⊕ u)
bound_rows r0 r1 r2 r3 t u x s seen answer n before o p e1 e2 e3 last same told =
    e3
    ∙ ap (with_origin n o) (e2 ∙ ap (λ r. r ⊕ t) e1)
    ∙ origin_told r0 t x s seen answer before o n last
    ∙ (λ i. r0 ⊕ (binder_row x s seen answer (told i) ⊕ same i))

-- the rows of a lambda
pub lambda_rows : (r0 r1 r2 r3 r4 u t v : Table) (x : Option Name) (s : Span) (seen : List Entry) (answer n : ℕ) (before o p : Origin)
    → r1 ≡ r0 ⊕ binder_row x s seen answer before → r2 ≡ r1 ⊕ u → r3 ≡ r2 ⊕ t → r4 ≡ with_origin n o r3 → n ≡ length r0.binders → t ≡ v → o ≡ p
    → r4 ≡ r0 ⊕ (binder_row x s seen answer p ⊕ u ⊕ v)
lambda_rows r0 r1 r2 r3 r4 u t v x s seen answer n before o p e1 e2 e3 e4 last same told =
    e4
    ∙ ap (with_origin n o) (e3 ∙ ap (λ r. r ⊕ t) e2 ∙ plus_assoc r1 u t ∙ ap (λ r. r ⊕ (u ⊕ t)) e1)
    ∙ origin_told r0 (u ⊕ t) x s seen answer before o n last
    ∙ ap (λ r. r0 ⊕ r) (sym (plus_assoc (binder_row x s seen answer o) u t))
    ∙ (λ i. r0 ⊕ (binder_row x s seen answer (told i) ⊕ u ⊕ same i))

one_longer : (r : Table) (x : Option Name) (s : Span) (seen : List Entry) (answer : ℕ) (o : Origin) (n : ℕ) → n ≡ length r.binders → n + 1 ≡ length (r ⊕ binder_row x s seen answer o).binders
unfolding ◌⊕◌
one_longer r x s seen answer o n e = omega (arith, length-append r.binders (record { name = x; token = s; outer = innermost seen; answer = answer; origin = o } ∷ []), e)

-- the rows of a letrec up to its body
pub letrec_told : (r0 r1 r2 r3 r4 r5 u t p q : Table) (x : Option Name) (s : Span) (seen : List Entry) (answer n : ℕ) (before o1 o2 : Origin)
    → r1 ≡ r0 ⊕ binder_row x s seen answer before → r2 ≡ r1 ⊕ binder_row x s seen answer before → r3 ≡ r2 ⊕ u → r4 ≡ r3 ⊕ t
    → r5 ≡ with_origin (n + 1) o2 (with_origin n o1 (r4 ⊕ p ⊕ q)) → n ≡ length r0.binders
    → r5 ≡ r0 ⊕ (binder_row x s seen answer o1 ⊕ binder_row x s seen answer o2 ⊕ u ⊕ t ⊕ p ⊕ q)
letrec_told r0 r1 r2 r3 r4 r5 u t p q x s seen answer n before o1 o2 e1 e2 e3 e4 e5 last =
    let b : Origin → Table = λ o. binder_row x s seen answer o in
    let all = e4 ∙ ap (λ r. r ⊕ t) (e3 ∙ ap (λ r. r ⊕ u) (e2 ∙ ap (λ r. r ⊕ b before) e1)) in
    e5
    ∙ ap (λ r. with_origin (n + 1) o2 (with_origin n o1 (r ⊕ p ⊕ q))) all
    ∙ ap (λ r. with_origin (n + 1) o2 (with_origin n o1 r)) (five (r0 ⊕ b before) (b before) u t p q)
    ∙ ap (with_origin (n + 1) o2) (origin_told r0 (b before ⊕ u ⊕ t ⊕ p ⊕ q) x s seen answer before o1 n last)
    ∙ ap (with_origin (n + 1) o2)
    (sym (plus_assoc r0 (b o1) (b before ⊕ u ⊕ t ⊕ p ⊕ q))
    ∙ sym (five (r0 ⊕ b o1) (b before) u t p q)
    ∙ four (r0 ⊕ b o1 ⊕ b before) u t p q)
    ∙ origin_told (r0 ⊕ b o1) (u ⊕ t ⊕ p ⊕ q) x s seen answer before o2 (n + 1) (one_longer r0 x s seen answer o1 n last)
    ∙ sym (plus_assoc (r0 ⊕ b o1) (b o2) (u ⊕ t ⊕ p ⊕ q))
    ∙ sym (four (r0 ⊕ b o1 ⊕ b o2) u t p q)
    ∙ six r0 (b o1) (b o2) u t p q

pub letrec_walked : (types names after : List Entry) (r0 r1 r2 r3 r4 r5 u : Table) (named x : Option Name) (s span : Span) (number n n3 k k3 k4 place : ℕ) (t : TermTree)
    → named ≡ x → number ≡ n
    → r1 ≡ r0 ⊕ binder_row named s names (number + 1) TypeName → r2 ≡ r1 ⊕ binder_row named s names (number + 1) TypeName → r3 ≡ r2 ⊕ u
    → r4 ≡ r3 ⊕ term_table types (entry named number (number + 1) ∷ names) n3 k3 t
    → r5 ≡ with_origin (number + 1) (term_at (k4 + 1)) (with_origin number (lambda_at k4) (r4 ⊕ place_row span true (place ∷ []) after ⊕ place_row span true (k4 ∷ []) after))
    → after ≡ names → n3 ≡ n + 2 → k3 ≡ k → k4 ≡ root k t + 1 → place ≡ root k t → n ≡ length r0.binders
    → r5 ≡ r0 ⊕ letrec_rows x s names n (root k t) span u (term_table types (entry x n (n + 1) ∷ names) (n + 2) k t)
letrec_walked types names after r0 r1 r2 r3 r4 r5 u named x s span number n n3 k k3 k4 place t name is first second typed walked derived kept binders places last here count =
    let next : k4 + 1 ≡ root k t + 2 = omega arith in
    letrec_told r0 r1 r2 r3 r4 r5 u (term_table types (entry named number (number + 1) ∷ names) n3 k3 t) (place_row span true (place ∷ []) after) (place_row span true (k4 ∷ []) after)
    named s names (number + 1) number TypeName (lambda_at k4) (term_at (k4 + 1)) first second typed walked derived (is ∙ count)
    ∙ (λ i. r0 ⊕
    (binder_row (name i) s names (is i + 1) (lambda_at (last i))
    ⊕ binder_row (name i) s names (is i + 1) (term_at (next i))
    ⊕ u
    ⊕ term_table types (entry (name i) (is i) (is i + 1) ∷ names) (binders i) (places i) t
    ⊕ place_row span true (here i ∷ []) (kept i)
    ⊕ place_row span true (last i ∷ []) (kept i)))

-- fields of a record type and of a record

pub types_walked : (r all : Table) (types : List Entry) (fs : List TyField) (i : ℕ) → length fs ≤ i → r ⊕ field_uses types (type_fields_of (drop i fs)) ≡ all → r ≡ all
types_walked r all types fs i le so_far = sym (plus_empty r) ∙ (rw (drop_all i fs le) at so_far)

pub fields_walked : (r all : Table) (types names : List Entry) (n k : ℕ) (fs : List TmField) (i : ℕ) → length fs ≤ i
    → r ⊕ fields_table types names n k (fields_of (drop i fs)) ≡ all → r ≡ all
fields_walked r all types names n k fs i le so_far = sym (plus_empty r) ∙ (rw (drop_all i fs le) at so_far)

pub fields_more : (r0 r1 all : Table) (types names0 names1 : List Entry) (n0 n1 k0 k1 : ℕ) (fs : List TmField) (i : ℕ) (f : TmField) → i < length fs → f ≡ get_or fs i f
    → r1 ≡ r0 ⊕ term_table types names0 n0 k0 (term_of f.term) → names1 ≡ names0 → n1 ≡ n0 + binders_in (term_of f.term) → k1 ≡ behind k0 (term_of f.term)
    → r0 ⊕ fields_table types names0 n0 k0 (fields_of (drop i fs)) ≡ all → r1 ⊕ fields_table types names1 n1 k1 (fields_of (drop (i + 1) fs)) ≡ all
fields_more r0 r1 all types names0 names1 n0 n1 k0 k1 fs i f lt is e same binders places so_far =
    (λ j. e j ⊕ fields_table types (same j) (binders j) (places j) (fields_of (drop (i + 1) fs)))
    ∙ plus_assoc r0 (term_table types names0 n0 k0 (term_of f.term)) (fields_table types names0 (n0 + binders_in (term_of f.term)) (behind k0 (term_of f.term)) (fields_of (drop (i + 1) fs)))
    ∙ ap (λ gs. r0 ⊕ fields_table types names0 n0 k0 gs) (sym (fields_of-drop fs i f lt is))
    ∙ so_far

pub roots_more : (ps more : List Place) (p : Place) (k0 k1 : ℕ) (fs : List TmField) (i : ℕ) (f : TmField) (all : List ℕ) → i < length fs → f ≡ get_or fs i f
    → more ≡ ps ++ p ∷ [] → p.0 ≡ root k0 (term_of f.term) → k1 ≡ behind k0 (term_of f.term)
    → map place_number ps ++ roots_of_fields k0 (fields_of (drop i fs)) ≡ all → map place_number more ++ roots_of_fields k1 (fields_of (drop (i + 1) fs)) ≡ all
roots_more ps more p k0 k1 fs i f all lt is pushed at places so_far =
    ap (λ qs. map place_number qs ++ roots_of_fields k1 (fields_of (drop (i + 1) fs))) pushed
    ∙ ap (λ qs. qs ++ roots_of_fields k1 (fields_of (drop (i + 1) fs))) (map-append place_number ps (p ∷ []))
    ∙ append_assoc (map place_number ps) (p.0 ∷ []) (roots_of_fields k1 (fields_of (drop (i + 1) fs)))
    ∙ (λ j. map place_number ps ++ at j ∷ roots_of_fields (places j) (fields_of (drop (i + 1) fs)))
    ∙ ap (λ gs. map place_number ps ++ roots_of_fields k0 gs) (sym (fields_of-drop fs i f lt is))
    ∙ so_far

pub binders_more : (n0 n1 all : ℕ) (fs : List TmField) (i : ℕ) (f : TmField) → i < length fs → f ≡ get_or fs i f → n1 ≡ n0 + binders_in (term_of f.term)
    → n0 + binders_in_fields (fields_of (drop i fs)) ≡ all → n1 + binders_in_fields (fields_of (drop (i + 1) fs)) ≡ all
binders_more n0 n1 all fs i f lt is more so_far = let whole = ap binders_in_fields (fields_of-drop fs i f lt is) in omega arith

pub places_more : (k0 k1 all : ℕ) (fs : List TmField) (i : ℕ) (f : TmField) → i < length fs → f ≡ get_or fs i f → k1 ≡ behind k0 (term_of f.term)
    → k0 + below_fields (fields_of (drop i fs)) ≡ all → k1 + below_fields (fields_of (drop (i + 1) fs)) ≡ all
places_more k0 k1 all fs i f lt is more so_far = let whole = ap below_fields (fields_of-drop fs i f lt is) in omega arith

-- commands

pub commands_walked : (r all : Table) (types names : List Entry) (n k j : ℕ) (cs : List Command) (i : ℕ) → length cs ≤ i
    → r ⊕ commands_table types names n k j (map command_of (drop i cs)) ≡ all → r ≡ all
commands_walked r all types names n k j cs i le so_far = sym (plus_empty r) ∙ (rw (drop_all i cs le) at so_far)

pub commands_more : (r0 r1 all : Table) (types0 types1 names0 names1 : List Entry) (n0 n1 k0 k1 : ℕ) (cs : List Command) (i : ℕ) (c : Command) → i < length cs → c ≡ get_or cs i c
    → r1 ≡ r0 ⊕ command_table types0 names0 n0 k0 i (command_of c) → types1 ≡ types_seen_after n0 types0 (command_of c) → names1 ≡ names_seen_after n0 names0 (command_of c)
    → n1 ≡ n0 + binders_in_command (command_of c) → k1 ≡ k0 + places_in_command (command_of c)
    → r0 ⊕ commands_table types0 names0 n0 k0 i (map command_of (drop i cs)) ≡ all
    → r1 ⊕ commands_table types1 names1 n1 k1 (i + 1) (map command_of (drop (i + 1) cs)) ≡ all
commands_more r0 r1 all types0 types1 names0 names1 n0 n1 k0 k1 cs i c lt is e types names binders places so_far =
    (λ j. e j ⊕ commands_table (types j) (names j) (binders j) (places j) (i + 1) (map command_of (drop (i + 1) cs)))
    ∙ plus_assoc r0 (command_table types0 names0 n0 k0 i (command_of c))
    (commands_table (types_seen_after n0 types0 (command_of c)) (names_seen_after n0 names0 (command_of c)) (n0 + binders_in_command (command_of c)) (k0 + places_in_command (command_of c)) (i + 1) (map command_of (drop (i + 1) cs)))
    ∙ ap (λ ds. r0 ⊕ commands_table types0 names0 n0 k0 i ds) (sym (commands-drop cs i c lt is))
    ∙ so_far

pub ruleset walks = (plus_assoc, plus_empty, empty_plus, type_node_of-Bool, type_node_of-Nat, type_node_of-Unit, type_node_of-Top, type_node_of-Named, type_node_of-Arrow, type_node_of-Record, term_node_of-True, term_node_of-False, term_node_of-Unit, term_node_of-Variable, term_node_of-Numeral, term_node_of-Lambda, term_node_of-If, term_node_of-Let, term_node_of-Letrec, term_node_of-Prefixed, term_node_of-Apply, term_node_of-Project, term_node_of-Ascribe, term_node_of-Record, fields_of-drop, type_fields_of-drop)
