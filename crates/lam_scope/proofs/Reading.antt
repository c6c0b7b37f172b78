-- How tables are read.
use Rattle.std.proofs.Common.{◌≡◌, ℕ, ◌+◌, ◌-◌, ◌<◌, ◌≤◌, append_assoc, reverse, Option, Some, zero, arith, None, true, List, [], ◌∷◌, ◌++◌, length, drop, get_or, suc, refl, ap, sym, ◌∙◌, map, add-one, drop-cons}
use Rattle.std.proofs.lemmas.List.{drop_all, length-map, map-append, reverse-append}
use Rattle.std.specs.Option.{option_map}
use Rattle.lam_scope.specs.declared.numbers.Binder.{Binder}
use Rattle.lam_scope.specs.declared.numbers.Place.{Place}
use Rattle.std.proofs.Math.ListN.{get_or-eq_default}
use Rattle.lam_scope.specs.declared.numbers.Origin.TheVariants.{TypeName}
use Rattle.std.specs.List.{slice_range}
use Rattle.lam_scope.specs.Slices.{first_start, AreInOrder}
use Rattle.lam_scope.specs.Tables.{TextBinder, binder_in, place_at_number, seen_in, no_span}
use Rattle.lam_scope.specs.declared.rows.BinderRow.{BinderRow}
use Rattle.lam_scope.specs.declared.rows.PlaceRow.{PlaceRow}
use Rattle.lam_scope.specs.declared.rows.UseRow.{UseRow}
use Rattle.lam_scope.specs.TableViews.{binder_number, text_binder, text_use, text_place, text_places, terms_start}
use Rattle.lam_scope.proofs.Slices.{first_start-at, first_start-past, in_order-at, in_order-within, sliced-at, sliced-past}

pub uses-drop : (us : List UseRow) (i : ℕ) (u : UseRow) → i < length us → u ≡ get_or us i u
    → map text_use (drop i us) ≡ text_use u ∷ map text_use (drop (i + 1) us)
uses-drop us i u lt is = rw add-one (rw (drop-cons us i u lt) (ap (λ v. text_use v ∷ map text_use (drop (suc i) us)) (sym is)))

pub binders-drop : (bs : List BinderRow) (i : ℕ) (b : BinderRow) → i < length bs → b ≡ get_or bs i b
    → map text_binder (drop i bs) ≡ text_binder b ∷ map text_binder (drop (i + 1) bs)
binders-drop bs i b lt is = rw add-one (rw (drop-cons bs i b lt) (ap (λ c. text_binder c ∷ map text_binder (drop (suc i) bs)) (sym is)))

pub get_or-mapped : {A B : Type 0} (f : A → B) (xs : List A) (n : ℕ) (x : A) (d : B) → n < length xs → x ≡ get_or xs n x → get_or (map f xs) n d ≡ f x
get_or-mapped f [] n x d lt is = absurd (omega arith)
get_or-mapped f (y ∷ xs) zero x d lt is = ap f (sym is)
get_or-mapped f (y ∷ xs) (suc n) x d lt is = get_or-mapped f xs n x d (omega arith) is

-- the row of a number, or none

pub binder-at : (bs : List BinderRow) (n : ℕ) (b : BinderRow) → n < length bs → b ≡ get_or bs n b → binder_in (map text_binder bs) n ≡ text_binder b
binder-at bs n b lt is = get_or-mapped text_binder bs n b _ lt is

pub binder-past : (bs : List BinderRow) (n : ℕ) → length bs ≤ n → binder_in (map text_binder bs) n ≡ record { name = None; token = no_span; outer = None; answer = n; origin = TypeName }
binder-past bs n le = get_or-eq_default (map text_binder bs) _ (rw (length-map bs text_binder) le)

pub place-at : (ts : List Place) (ps : List PlaceRow) (n : ℕ) (p : PlaceRow) → n < length ps → p ≡ get_or ps n p
    → place_at_number (text_places ts ps) n ≡ text_place p (slice_range ts p.terms_start (first_start terms_start (drop (n + 1) ps) (length ts)))
place-at ts ps n p lt is = rw add-one (sliced-at terms_start text_place ts ps n p _ lt is)

pub place-span : (ts : List Place) (ps : List PlaceRow) (n : ℕ) (p : PlaceRow) → n < length ps → p ≡ get_or ps n p → (place_at_number (text_places ts ps) n).span ≡ p.span
place-span ts ps n p lt is = ap (λ q. q.span) (place-at ts ps n p lt is)

pub place-derived : (ts : List Place) (ps : List PlaceRow) (n : ℕ) (p : PlaceRow) → n < length ps → p ≡ get_or ps n p → (place_at_number (text_places ts ps) n).derived ≡ p.derived
place-derived ts ps n p lt is = ap (λ q. q.derived) (place-at ts ps n p lt is)

pub place-inner : (ts : List Place) (ps : List PlaceRow) (n : ℕ) (p : PlaceRow) → n < length ps → p ≡ get_or ps n p → (place_at_number (text_places ts ps) n).inner ≡ option_map binder_number p.inner
place-inner ts ps n p lt is = ap (λ q. q.inner) (place-at ts ps n p lt is)

pub place-past : (ts : List Place) (ps : List PlaceRow) (n : ℕ) → length ps ≤ n → place_at_number (text_places ts ps) n ≡ record { span = no_span; derived = true; terms = []; inner = None }
place-past ts ps n le = sliced-past terms_start text_place ts ps n _ le

-- where the immediate terms of a place end

pub terms-start : (ps : List PlaceRow) (end n : ℕ) (p : PlaceRow) → n < length ps → p ≡ get_or ps n p → first_start terms_start (drop n ps) end ≡ p.terms_start
terms-start ps end n p lt is = first_start-at terms_start end ps n p lt is

pub terms-end : (ps : List PlaceRow) (end n : ℕ) → length ps ≤ n → first_start terms_start (drop n ps) end ≡ end
terms-end ps end n le = first_start-past terms_start end ps n le

pub terms-order : (ps : List PlaceRow) (end n : ℕ) (p : PlaceRow) → AreInOrder terms_start end ps → n < length ps → p ≡ get_or ps n p → p.terms_start ≤ first_start terms_start (drop (n + 1) ps) end
terms-order ps end n p order lt is = rw add-one (in_order-at terms_start end ps n p order lt is)

pub terms-within : (ps : List PlaceRow) (end n : ℕ) → AreInOrder terms_start end ps → first_start terms_start (drop n ps) end ≤ end
terms-within ps end n order = in_order-within terms_start end ps n order

pub map-reverse : {A B : Type 0} (f : A → B) (xs : List A) → map f (reverse xs) ≡ reverse (map f xs)
map-reverse f [] = refl
map-reverse f (x ∷ xs) =
    ap (map f) (reverse-append (x ∷ []) xs)
    ∙ map-append f (reverse xs) (x ∷ [])
    ∙ ap (λ ys. ys ++ f x ∷ []) (map-reverse f xs)
    ∙ sym (reverse-append (f x ∷ []) (map f xs))

-- one more binder of a chain
pub chain_more : (rows : List TextBinder) (found more : List Binder) (b : Binder) (next : Option Binder) (now : Option Binder) (len i : ℕ) (all : List ℕ) → i < len → now ≡ Some b
    → more ≡ found ++ b ∷ [] → option_map binder_number next ≡ (binder_in rows b.0).outer
    → map binder_number found ++ seen_in rows (len - i) (option_map binder_number now) ≡ all
    → map binder_number more ++ seen_in rows (len - (i + 1)) (option_map binder_number next) ≡ all
chain_more rows found more b next now len i all lt is pushed outer so_far =
    let one_less : suc (len - (i + 1)) ≡ len - i = omega arith in
    ap (λ bs. map binder_number bs ++ seen_in rows (len - (i + 1)) (option_map binder_number next)) pushed
    ∙ ap (λ ns. ns ++ seen_in rows (len - (i + 1)) (option_map binder_number next)) (map-append binder_number found (b ∷ []))
    ∙ append_assoc (map binder_number found) (b.0 ∷ []) (seen_in rows (len - (i + 1)) (option_map binder_number next))
    ∙ ap (λ o. map binder_number found ++ b.0 ∷ seen_in rows (len - (i + 1)) o) outer
    ∙ (λ j. map binder_number found ++ seen_in rows (one_less j) (option_map binder_number (sym is j)))
    ∙ so_far

pub ruleset reading = (binders-drop, uses-drop, drop_all, binder-at, binder-past, place-span, place-inner, place-past)

pub ruleset derived_reading = (place-derived, place-past)

pub ruleset terms_reading = (place-at, place-past, terms-start, terms-end, terms-order, terms-within)
