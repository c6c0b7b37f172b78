-- What type ids stand for stays the same as a table grows; and what one more id adds to answers and to a context.
use Rattle.std.proofs.Common.{◌≡◌, ℕ, ◌+◌, ◌-◌, ◌<◌, List, [], ◌∷◌, ◌++◌, length, get_or, Option, Some, None, is_some, zero, suc, ap, refl, arith}
use Rattle.lam_rules.specs.Types.{Typ}
use Rattle.lam_rules.specs.Typing.{Context}
use Rattle.lam_rules.specs.Numbers.{Keeps}
use Rattle.lam_rules.specs.declared.numbers.TyNo.{TyNo}
use Rattle.lam_rules.proofs.Tables.{kept_type, keeps_length}
use Rattle.lam_typing.specs.inner.Steps.{entry_at}
use Rattle.lam_typing.specs.Answers.{answer, answers, StandsWhereFound, AllStandIn, under_entries, context_under}

pub answer_keep : (old now : List Typ) (o : Option TyNo) → Keeps old now → StandsWhereFound old o → answer now o ≡ answer old o
answer_keep old now None keeps stands = refl
answer_keep old now (Some number) keeps stands = ap Some (kept_type old now number.index keeps stands)

pub stands_keep : (old now : List Typ) (o : Option TyNo) → Keeps old now → StandsWhereFound old o → StandsWhereFound now o
stands_keep old now None keeps stands = tt
stands_keep old now (Some number) keeps stands = let longer = keeps_length old now keeps in omega arith

pub answers_keep : (old now : List Typ) (os : List (Option TyNo)) → Keeps old now → AllStandIn old os → answers now os ≡ answers old os
answers_keep old now [] keeps stand = refl
answers_keep old now (o ∷ os) keeps stand = rw (answer_keep old now o keeps stand.0, answers_keep old now os keeps stand.1)

pub all_stand_keep : (old now : List Typ) (os : List (Option TyNo)) → Keeps old now → AllStandIn old os → AllStandIn now os
all_stand_keep old now [] keeps stand = tt
all_stand_keep old now (o ∷ os) keeps stand = (stands_keep old now o keeps stand.0, all_stand_keep old now os keeps stand.1)

under_keep : (old now : List Typ) (g : Context) (os : List (Option TyNo)) → Keeps old now → AllStandIn old os → under_entries now g os ≡ under_entries old g os
under_keep old now g [] keeps stand = refl
under_keep old now g (o ∷ os) keeps stand = rw (answer_keep old now o keeps stand.0) (under_keep old now (answer old o ∷ g) os keeps stand.1)

pub context_keep : (old now : List Typ) (os : List (Option TyNo)) → Keeps old now → AllStandIn old os → context_under now os ≡ context_under old os
context_keep old now os keeps stand = under_keep old now [] os keeps stand

pub answers-push : (ts : List Typ) (os : List (Option TyNo)) (o : Option TyNo) → answers ts (os ++ o ∷ []) ≡ answers ts os ++ answer ts o ∷ []
answers-push ts [] o = refl
answers-push ts (p ∷ os) o = ap (λ xs. answer ts p ∷ xs) (answers-push ts os o)

pub length-answers : (ts : List Typ) (os : List (Option TyNo)) → length (answers ts os) ≡ length os
length-answers ts [] = refl
length-answers ts (o ∷ os) = let e = length-answers ts os in omega arith

pub all_stand_push : (ts : List Typ) (os : List (Option TyNo)) (o : Option TyNo) → AllStandIn ts os → StandsWhereFound ts o → AllStandIn ts (os ++ o ∷ [])
all_stand_push ts [] o stand stands = (stands, tt)
all_stand_push ts (p ∷ os) o stand stands = (stand.0, all_stand_push ts os o stand.1 stands)

under-push : (ts : List Typ) (g : Context) (os : List (Option TyNo)) (o : Option TyNo) → under_entries ts g (os ++ o ∷ []) ≡ answer ts o ∷ under_entries ts g os
under-push ts g [] o = refl
under-push ts g (p ∷ os) o = under-push ts (answer ts p ∷ g) os o

pub context-push : (ts : List Typ) (os : List (Option TyNo)) (o : Option TyNo) → context_under ts (os ++ o ∷ []) ≡ answer ts o ∷ context_under ts os
context-push ts os o = under-push ts [] os o

length-under : (ts : List Typ) (g : Context) (os : List (Option TyNo)) → length (under_entries ts g os) ≡ length os + length g
length-under ts g [] = omega arith
length-under ts g (o ∷ os) = let e = length-under ts (answer ts o ∷ g) os in omega arith

pub length-context : (ts : List Typ) (os : List (Option TyNo)) → length (context_under ts os) ≡ length os
length-context ts os = let e = length-under ts [] os in omega arith

-- the entry at an index, and the item that it is, counted from the end

entry_behind : (ts : List Typ) (g : Context) (os : List (Option TyNo)) (n : ℕ) → entry_at (length os + n) (under_entries ts g os) ≡ entry_at n g
entry_behind ts g [] n = let e : 0 + n ≡ n = omega arith in rw e
entry_behind ts g (o ∷ os) n =
    let e : length (o ∷ os) + n ≡ length os + suc n = omega arith in
    rw e (entry_behind ts (answer ts o ∷ g) os (suc n))

entry_under : (ts : List Typ) (g : Context) (os : List (Option TyNo)) (n k : ℕ) (o : Option TyNo) → k + n + 1 ≡ length os → o ≡ get_or os k o
    → answer ts o ≡ entry_at n (under_entries ts g os)
entry_under ts g [] n k o e is = absurd (omega arith)
entry_under ts g (p ∷ os) n zero o e is =
    let here : n ≡ length os + 0 = omega arith in
    let there : entry_at (length os + 0) (under_entries ts (answer ts p ∷ g) os) ≡ answer ts p = entry_behind ts (answer ts p ∷ g) os 0 in
    rw here (rw there (ap (λ x. answer ts x) is))
entry_under ts g (p ∷ os) n (suc k) o e is = entry_under ts (answer ts p ∷ g) os n k o (omega arith) is

pub entry_of_index : (ts : List Typ) (os : List (Option TyNo)) (n : ℕ) (o : Option TyNo) → n < length os → o ≡ get_or os (length os - 1 - n) o
    → answer ts o ≡ entry_at n (context_under ts os)
entry_of_index ts os n o lt is = entry_under ts [] os n (length os - 1 - n) o (omega arith) is

pub stands_at : (ts : List Typ) (os : List (Option TyNo)) (k : ℕ) (o : Option TyNo) → k < length os → o ≡ get_or os k o → AllStandIn ts os → StandsWhereFound ts o
stands_at ts [] k o lt is stand = absurd (omega arith)
stands_at ts (p ∷ os) zero o lt is stand = rw is stand.0
stands_at ts (p ∷ os) (suc k) o lt is stand = stands_at ts os k o (omega arith) is stand.1

pub some_answer : (ts : List Typ) (o : Option TyNo) → is_some (answer ts o) ≡ is_some o
some_answer ts None = refl
some_answer ts (Some number) = refl
