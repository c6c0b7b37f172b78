-- What a walk over a whole document has found, whether it finished or stopped, is the analysis that was requested.
use Rattle.std.proofs.Common.{◌≡◌, ℕ, ◌+◌, ◌<◌, List, [], ◌∷◌, ◌++◌, length, take, get_or, Option, Some, None, zero, suc, ap, refl, sym, subst, ◌∙◌, arith}
use Rattle.std.proofs.lemmas.List.{take_all, take_at}
use Rattle.lam_rules.specs.Types.{Typ}
use Rattle.lam_rules.specs.declared.rules.Dialect.{Dialect}
use Rattle.lam_rules.specs.declared.numbers.TyNo.{TyNo}
use Rattle.lam_scope.specs.Places.{Place, Statement, places_of}
use Rattle.lam_scope.specs.declared.numbers.Place.{Place as PlaceNumber}
use Rattle.lam_typing.specs.Blaming.{Blamed, AreBlamed}
use Rattle.lam_typing.specs.Analysis.{AreLeast, AreSmall, IsTooLarge, IsFirstTooLarge}
use Rattle.lam_typing.specs.Answers.{answer, answers, StandsWhereFound, AllStandIn}
use Rattle.lam_typing.specs.Progress.{IsLowest, Shown, Went, next_is_too_large, NextIs}
use Rattle.lam_typing.specs.Walk.{blames_of, entries_of, progress_of, Grows, IsBehind, IsUpTo, IsWithin, HasStoppedAmong}
use Rattle.lam_typing.specs.Typings.{found_of, IsAnalysis}
use Rattle.lam_typing.specs.inner.Ends.{up_to, Begins}
use Rattle.lam_typing.specs.declared.typing.Typing.{Typing}
use Rattle.lam_typing.specs.declared.checker.TypeChecker.{TypeChecker}
use Rattle.lam_typing.specs.declared.walking.Stop.{Stop}
use Rattle.lam_typing.proofs.LeastIn.{lowest}
use Rattle.lam_typing.proofs.Growing.{length-answers}
use Rattle.lam_typing.proofs.Together.{least_length}

pub first_behind : (ps qs : List Place) (os : List (Option Typ)) (q : Place) (d : Dialect) → AreLeast ps os d → AreSmall os → IsTooLarge q d → IsFirstTooLarge (ps ++ q ∷ qs) (length os) d
first_behind [] qs [] q d least small large = large
first_behind (p ∷ ps) qs (o ∷ os) q d least small large = (o, least.0, small.0, first_behind ps qs os q d least.1 small.1 large)
first_behind [] qs (o ∷ os) q d least small large = absurd least
first_behind (p ∷ ps) qs [] q d least small large = absurd least

first_in_front : (ps : List Place) (n m : ℕ) (d : Dialect) → n < m → IsFirstTooLarge ps n d → IsFirstTooLarge (take m ps) n d
first_in_front [] n zero d lt first = absurd (omega arith)
first_in_front [] n (suc m) d lt first = first
first_in_front (p ∷ ps) n zero d lt first = absurd (omega arith)
first_in_front (p ∷ ps) zero (suc m) d lt first = first
first_in_front (p ∷ ps) (suc n) (suc m) d lt first = (first.0, first.1, first.2, first_in_front ps n m d (omega arith) first.3)

-- at the beginning there is one scope and one context, of no binders
no_entries : (w : TypeChecker) (last : Option PlaceNumber) → Begins w last → entries_of w ≡ []
no_entries w last begins = rw begins.entries

no_progress : (w : TypeChecker) (last : Option PlaceNumber) → Begins w last → progress_of w ≡ record { found = []; blames = [] }
no_progress w last begins = rw (begins.found, begins.blames)

outermost : (w : TypeChecker) (last : Option PlaceNumber) (d : Dialect) → Begins w last → IsLowest [] (entries_of w) d
outermost w last d begins = subst (λ g. IsLowest [] g d) (sym (no_entries w last begins)) (lowest [] [] d tt tt)

-- what the walk has found is right for these places, which are the first ones
Shows : List Place → TypeChecker → Dialect → Type 0
Shows ps w d = Shown ps 0 (progress_of w).found (progress_of w).blames d

shows_all : (w0 w : TypeChecker) (last : Option PlaceNumber) (ps : List Place) (found : List (Option Typ)) (blames : List Blamed) (d : Dialect) → Begins w0 last
    → (progress_of w).found ≡ (progress_of w0).found ++ found → (progress_of w).blames ≡ (progress_of w0).blames ++ blames
    → Shown ps (length (progress_of w0).found) found blames d → Shows ps w d
unfolding Shows
shows_all w0 w last ps found blames d begins found_is blames_are shown =
    let none = no_progress w0 last begins in
    let f : (progress_of w).found ≡ found = found_is ∙ ap (λ p. p.found ++ found) none in
    let b : (progress_of w).blames ≡ blames = blames_are ∙ ap (λ p. p.blames ++ blames) none in
    let n : length (progress_of w0).found ≡ 0 = ap (λ p. length p.found) none in
    rw (f, b) (subst (λ m. Shown ps m found blames d) n shown)

-- the typing has what the walk found
pub record HasWalked (w : TypeChecker) (t : Typing) : Type 0 where
  pub table : t.table ≡ w.table
  pub found : t.found.items ≡ w.found.items
  pub blames : t.blames.items ≡ w.blames.items

analysis : (ps : List Place) (w : TypeChecker) (t : Typing) (d : Dialect) → HasWalked w t → Shows ps w d → IsAnalysis ps t d
unfolding Shows
analysis ps w t d has shows = record {
  least = subst (λ os. AreLeast ps os d) (sym found_is) shows.least;
  small = subst (λ os. AreSmall os) (sym found_is) shows.small;
  blames = subst (λ bs. AreBlamed 0 ps bs d) (sym (ap (λ bs. blames_of bs) has.blames)) shows.blamed;
}
  where
    found_is : found_of t ≡ (progress_of w).found
    found_is = λ i. answers (has.table i) (has.found i)

found_length : (ps : List Place) (w : TypeChecker) (d : Dialect) → Shows ps w d → length ps ≡ length w.found.items
unfolding Shows
found_length ps w d shows = least_length ps (progress_of w).found d shows.least ∙ length-answers w.table w.found.items

whole : (last : Option PlaceNumber) (ps : List Place) (n : ℕ) → length ps ≡ n → IsWithin last n → up_to last ps ≡ ps
whole None ps n count within = refl
whole (Some last) ps n count within = take_all (last.0 + 1) ps (omega arith)

front_of : (last : Option PlaceNumber) (ps qs : List Place) (n : ℕ) → length ps ≡ n → IsWithin last n → IsBehind last n → up_to last (ps ++ qs) ≡ ps
front_of None ps qs n count within behind = absurd behind
front_of (Some last) ps qs n count within behind = take_at ps qs (last.0 + 1) (omega arith)

next_first : (front rest : List Place) (w : TypeChecker) (d : Dialect) → Shows front w d → NextIs next_is_too_large rest d → IsFirstTooLarge (front ++ rest) (length w.found.items) d
unfolding Shows
next_first front [] w d shows next = absurd next
next_first front (q ∷ rest) w d shows next =
    subst (λ n. IsFirstTooLarge (front ++ q ∷ rest) n d) (length-answers w.table w.found.items) (first_behind front rest (progress_of w).found q d shows.least shows.small next)

-- it went through
pub analysed : (w0 w : TypeChecker) (last : Option PlaceNumber) (statements : List Statement) (t : Typing) (d : Dialect) → Begins w0 last → Grows w0 w
    → Went (entries_of w0) (λ s. places_of s statements) (progress_of w0) (progress_of w) d → HasWalked w t
    → IsAnalysis (up_to last (places_of [] statements)) t d
analysed w0 w last statements t d begins grows went has =
    let ps = places_of [] statements in
    let shows : Shows ps w d = shows_all w0 w last ps went.found went.blames d begins went.found_is went.blames_are (went.shown [] (outermost w0 last d begins)) in
    let same : w.last ≡ last = grows.last ∙ begins.last in
    let within : IsWithin last (length w.found.items) = subst (λ l. IsWithin l (length w.found.items)) same grows.sound.room in
    subst (λ qs. IsAnalysis qs t d) (sym (whole last ps (length w.found.items) (found_length ps w d shows) within))
    (analysis ps w t d has shows)

-- it stopped behind the last place that was asked for
pub stopped_behind_last : (w0 w : TypeChecker) (last : Option PlaceNumber) (statements : List Statement) (t : Typing) (d : Dialect) → Begins w0 last → Grows w0 w
    → HasStoppedAmong Stop.Enough (entries_of w0) (λ s. places_of s statements) w0 w d → HasWalked w t → IsAnalysis (up_to last (places_of [] statements)) t d
stopped_behind_last w0 w last statements t d begins grows stopped has =
    let h = stopped.0.shown [] (outermost w0 last d begins) in
    let shows : Shows h.front w d = shows_all w0 w last h.front stopped.0.found stopped.0.blames d begins stopped.0.found_is stopped.0.blames_are h.shown in
    let same : w.last ≡ last = grows.last ∙ begins.last in
    let within : IsWithin last (length w.found.items) = subst (λ l. IsWithin l (length w.found.items)) same grows.sound.room in
    let behind : IsBehind last (length w.found.items) = subst (λ l. IsBehind l (length w.found.items)) same stopped.1 in
    let asked : up_to last (places_of [] statements) ≡ h.front = ap (λ ps. up_to last ps) h.are ∙ front_of last h.front h.rest (length w.found.items) (found_length h.front w d shows) within behind in
    subst (λ qs. IsAnalysis qs t d) (sym asked) (analysis h.front w t d has shows)

-- it stopped at a place that is too large
pub stopped_at_large : (w0 w : TypeChecker) (last : Option PlaceNumber) (statements : List Statement) (d : Dialect) → Begins w0 last → Grows w0 w
    → HasStoppedAmong Stop.TooLarge (entries_of w0) (λ s. places_of s statements) w0 w d → IsFirstTooLarge (up_to last (places_of [] statements)) (length w.found.items) d
stopped_at_large w0 w last statements d begins grows stopped =
    let h = stopped.0.shown [] (outermost w0 last d begins) in
    let shows : Shows h.front w d = shows_all w0 w last h.front stopped.0.found stopped.0.blames d begins stopped.0.found_is stopped.0.blames_are h.shown in
    let same : w.last ≡ last = grows.last ∙ begins.last in
    let here : IsUpTo last (length w.found.items) = subst (λ l. IsUpTo l (length w.found.items)) same stopped.1 in
    asked_first last (length w.found.items) here (subst (λ ps. IsFirstTooLarge ps (length w.found.items) d) (sym h.are) (next_first h.front h.rest w d shows h.next))
  where
    asked_first : (last : Option PlaceNumber) (n : ℕ) → IsUpTo last n → IsFirstTooLarge (places_of [] statements) n d → IsFirstTooLarge (up_to last (places_of [] statements)) n d
    asked_first None n here first = first
    asked_first (Some p) n here first = first_in_front (places_of [] statements) n (p.0 + 1) d (omega arith) first

pub answers_at : (ts : List Typ) (os : List (Option TyNo)) (k : ℕ) → answer ts (get_or os k None) ≡ get_or (answers ts os) k None
answers_at ts [] k = refl
answers_at ts (o ∷ os) zero = refl
answers_at ts (o ∷ os) (suc k) = answers_at ts os k

pub each_stands : (ts : List Typ) (os : List (Option TyNo)) → AllStandIn ts os → (i : ℕ) (number : TyNo) → get_or os i None ≡ Some number → number.index < length ts
each_stands ts [] stand i number is = absurd (let wrong : None ≡ Some number = is in cc)
each_stands ts (o ∷ os) stand zero number is = subst (λ p. StandsWhereFound ts p) is stand.0
each_stands ts (o ∷ os) stand (suc i) number is = each_stands ts os stand.1 i number is

pub stands_where : (ts : List Typ) (o : Option TyNo) → ((number : TyNo) → o ≡ Some number → number.index < length ts) → StandsWhereFound ts o
stands_where ts None each = tt
stands_where ts (Some number) each = each number refl
