-- Of two paired places, one has what the other has: the least type, a type that is too large, the blame and its reason. The same for lists of pairs.
use Rattle.std.proofs.Common.{◌≡◌, ℕ, ◌+◌, ◌<◌, List, [], ◌∷◌, length, get_or, Option, Some, None, slice_get, refl, subst, ◌∙◌, inl, inr, arith}
use Rattle.std.proofs.lemmas.Option.{slice_get-get_or, slice_get_within}
use Rattle.lam_rules.specs.Types.{Typ}
use Rattle.lam_rules.specs.Terms.{Term, ascribe, TermFields}
use Rattle.lam_rules.specs.Texts.{Text}
use Rattle.lam_rules.specs.Typing.{Context}
use Rattle.lam_rules.specs.declared.rules.Dialect.{Dialect}
use Rattle.lam_scope.specs.Places.{Scope, Place, places}
use Rattle.lam_scope.specs.WellFormed.{IsWellFormedTerm}
use Rattle.lam_scope.specs.Alike.{AreAlike}
use Rattle.lam_typing.specs.Analysis.{AreLeast, IsTooLarge}
use Rattle.lam_typing.specs.Blaming.{ArePartsTyped, AreFieldsTyped, IsExcused, IsBlamed, IsBlamedFor, Blamed, AreBlamed}
use Rattle.lam_typing.specs.LeastTypes.{IsLeastAt}
use Rattle.lam_typing.specs.Progress.{IsLowest, Shown, Cause, next_is_too_large, enough, NextIs, ShownFront}
use Rattle.lam_typing.specs.inner.Steps.{entry_at}
use Rattle.lam_typing.proofs.AlikeTerms.{Alike, FieldsAlike, both_true, both_false, both_unit, both_numeral, both_free, both_variable, both_if, both_succ, both_pred, both_is_zero, both_lambda, both_apply, both_ascribe, both_let, both_record, both_project, both_fix, both_none, both_more, alike, alike_back, alike_wf}
use Rattle.lam_typing.proofs.AlikePlaces.{typed_alike, least_alike, lowest_in_lambda, lowest_in_let, ArePaired, paired_back, AllPaired, no_pairs, pair_first, paired_parts, places_paired}
use Rattle.lam_typing.proofs.Forms.{has_no_type_within, context_length}
use Rattle.lam_typing.proofs.JustBlames.{unblamed_by}
use Rattle.lam_typing.proofs.NeverBlamed.{lambda_unblamed}

-- if the parts of one of two alike terms have types, so have those of the other

fields_typed : {s r : Scope} {g h : Context} {es fs : TermFields} {d : Dialect}
    → FieldsAlike g es h fs → IsLowest s g d → IsLowest r h d → AreFieldsTyped s es d → AreFieldsTyped r fs d
fields_typed both_none ls lr typed = tt
fields_typed (both_more i is) ls lr typed = (typed_alike i ls lr typed.0, fields_typed is ls lr typed.1)

parts_typed : {s r : Scope} {g h : Context} {e f : Term} {d : Dialect}
    → Alike g e h f → IsLowest s g d → IsLowest r h d → IsWellFormedTerm e → ArePartsTyped s e d → ArePartsTyped r f d
parts_typed both_true ls lr we typed = tt
parts_typed both_false ls lr we typed = tt
parts_typed both_unit ls lr we typed = tt
parts_typed both_numeral ls lr we typed = tt
parts_typed both_free ls lr we typed = tt
parts_typed (both_variable same) ls lr we typed = tt
parts_typed (both_if i j k) ls lr we typed = (typed_alike i ls lr typed.0, typed_alike j ls lr typed.1, typed_alike k ls lr typed.2)
parts_typed (both_succ i) ls lr we typed = typed_alike i ls lr typed
parts_typed (both_pred i) ls lr we typed = typed_alike i ls lr typed
parts_typed (both_is_zero i) ls lr we typed = typed_alike i ls lr typed
parts_typed (both_lambda i) ls lr we typed = typed_alike i (lowest_in_lambda we.0 ls) (lowest_in_lambda we.0 lr) typed
parts_typed (both_apply i j) ls lr we typed = (typed_alike i ls lr typed.0, typed_alike j ls lr typed.1)
parts_typed (both_ascribe i) ls lr we typed = typed_alike i ls lr typed
parts_typed (both_let i j) ls lr we typed = let o = lowest_in_let i ls lr we.0 in (typed_alike i ls lr typed.0, typed_alike (j o.0) o.1 o.2 typed.1)
parts_typed (both_record is) ls lr we typed = fields_typed is ls lr typed
parts_typed (both_project i) ls lr we typed = typed_alike i ls lr typed
parts_typed (both_fix i) ls lr we typed = typed_alike i ls lr typed

-- if one is to blame, nothing excuses the other

within_alike : (g h : Context) (n m : ℕ) → slice_get g n ≡ slice_get h m → m < length h → n < length g
within_alike g h n m same lt = slice_get_within g n (get_or h m None) (same ∙ slice_get-get_or h m None lt)

as_written : (w : Option Typ) (s r : Scope) (e f : Term) (d : Dialect) → IsExcused r (ascribe f w) d → IsExcused s (ascribe e w) d
as_written None s r e f d excused = tt
as_written (Some t) s r e f d excused = excused

unexcused : {s r : Scope} {g h : Context} {e f : Term} {d : Dialect}
    → Alike g e h f → IsLowest s g d → IsLowest r h d → IsBlamed s e d → IsExcused r f d → ⊥
unexcused {s = s} {r = r} {g = g} {h = h} {d = d} (both_variable {n = n} {m = m} same) ls lr blamed excused =
    let here = context_length r h d lr.is_context in
    let there = context_length r excused.0 d excused.1 in
    let bound = has_no_type_within m excused.0 excused.2 in
    unblamed_by (entry_at n g) s g n d ls (within_alike g h n m same (omega (arith, here, there, bound))) refl blamed
unexcused {s = s} {d = d} (both_lambda {w = w} {e = e} i) ls lr blamed excused = lambda_unblamed s w e d blamed
unexcused {s = s} {r = r} {d = d} (both_ascribe {w = w} {e = e} {f = f} i) ls lr blamed excused = blamed.unexcused (as_written w s r e f d excused)
unexcused _ ls lr blamed excused = excused

-- what they are to blame for

code_alike : {s r : Scope} {g h : Context} {e f : Term} {d : Dialect} (code : Text)
    → Alike g e h f → IsLowest s g d → IsLowest r h d → IsBlamedFor s e code d → IsBlamedFor r f code d
code_alike code (both_apply i j) ls lr why = (why.0, least_alike (Some why.0) i ls lr why.1, why.2)
code_alike code _ ls lr why = why

-- all this for a pair

module _ {d : Dialect} where
  paired_least : {p q : Place} (o : Option Typ) → ArePaired d p q → IsLeastAt p.scope p.here o d → IsLeastAt q.scope q.here o d
  paired_least o pair least = least_alike o pair.are pair.first_lowest pair.second_lowest least

  paired_large : {p q : Place} → ArePaired d p q → IsTooLarge p d → IsTooLarge q d
  paired_large pair large = (large.0, paired_least (Some large.0) pair large.1, large.2)

  paired_blamed : {p q : Place} → ArePaired d p q → IsBlamed p.scope p.here d → IsBlamed q.scope q.here d
  paired_blamed pair blamed = record {
    untyped = λ typed. blamed.untyped (typed_alike (alike_back pair.are) pair.second_lowest pair.first_lowest typed);
    parts = parts_typed pair.are pair.first_lowest pair.second_lowest pair.first_wf blamed.parts;
    unexcused = unexcused pair.are pair.first_lowest pair.second_lowest blamed;
  }

  paired_blamed_for : {p q : Place} (code : Text) → ArePaired d p q → IsBlamedFor p.scope p.here code d → IsBlamedFor q.scope q.here code d
  paired_blamed_for code pair why = code_alike code pair.are pair.first_lowest pair.second_lowest why

  -- and for lists of pairs

  all_least : {ps qs : List Place} (os : List (Option Typ)) → AllPaired d ps qs → AreLeast ps os d → AreLeast qs os d
  all_least os no_pairs least = least
  all_least (o ∷ os) (pair_first pair pairs) least = (paired_least o pair least.0, all_least os pairs least.1)
  all_least [] (pair_first pair pairs) least = absurd least

  all_blamed : {ps qs : List Place} (n : ℕ) (blames : List Blamed) → AllPaired d ps qs → AreBlamed n ps blames d → AreBlamed n qs blames d
  all_blamed n blames no_pairs blamed = blamed
  all_blamed n blames (pair_first pair pairs) (inl h) =
      inl ((λ blamed. h.0 (paired_blamed (paired_back pair) blamed)), all_blamed (n + 1) blames pairs h.1)
  all_blamed n blames (pair_first pair pairs) (inr h) =
      inr (h.0, h.1, h.2, paired_blamed pair h.3, paired_blamed_for h.0 pair h.4, all_blamed (n + 1) h.1 pairs h.5)

  all_shown : {ps qs : List Place} (n : ℕ) (found : List (Option Typ)) (blames : List Blamed)
      → AllPaired d ps qs → Shown ps n found blames d → Shown qs n found blames d
  all_shown n found blames pairs shown = record {
    least = all_least found pairs shown.least;
    small = shown.small;
    blamed = all_blamed n blames pairs shown.blamed;
  }

  next_alike : {ps qs : List Place} (cause : Cause) → AllPaired d ps qs → NextIs cause ps d → NextIs cause qs d
  next_alike next_is_too_large no_pairs next = next
  next_alike next_is_too_large (pair_first pair pairs) next = paired_large pair next
  next_alike enough pairs next = tt

  front_shown : {ps qs : List Place} (n : ℕ) (found : List (Option Typ)) (blames : List Blamed) (cause : Cause)
      → AllPaired d ps qs → ShownFront ps n found blames cause d → ShownFront qs n found blames cause d
  front_shown {qs = qs} n found blames cause pairs shown =
      let parts = paired_parts shown.front shown.rest (subst (λ xs. AllPaired d xs qs) shown.are pairs) in
      record {
        front = parts.before;
        rest = parts.behind;
        are = parts.are;
        shown = all_shown n found blames parts.fronts shown.shown;
        next = next_alike cause parts.rests shown.next;
      }

-- all this for alike terms in scopes with these lowest contexts

module _ (s r : Scope) (g h : Context) (e f : Term) (d : Dialect) (ls : IsLowest s g d) (lr : IsLowest r h d) (are : AreAlike g e h f) where
  pub least_by_free_names : (o : Option Typ) → IsLeastAt s e o d → IsLeastAt r f o d
  least_by_free_names o least = least_alike o (alike g e h f are) ls lr least

  places_by_free_names : IsWellFormedTerm e → AllPaired d (places s e) (places r f)
  places_by_free_names we = let i = alike g e h f are in places_paired i ls lr we (alike_wf i we)

  pub shown_by_free_names : (n : ℕ) (found : List (Option Typ)) (blames : List Blamed)
      → IsWellFormedTerm e → Shown (places s e) n found blames d → Shown (places r f) n found blames d
  shown_by_free_names n found blames we shown = all_shown n found blames (places_by_free_names we) shown

  pub stopped_by_free_names : (n : ℕ) (found : List (Option Typ)) (blames : List Blamed) (cause : Cause)
      → IsWellFormedTerm e → ShownFront (places s e) n found blames cause d → ShownFront (places r f) n found blames cause d
  stopped_by_free_names n found blames cause we shown = front_shown n found blames cause (places_by_free_names we) shown
