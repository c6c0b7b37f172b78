-- Answers that are kept stay right when one more is kept, and when the table grows.
use Rattle.std.proofs.Common.{◌≡◌, ◌↔◌, List, Bool, true, false, cond, IsTrue, sym, refl, subst, arith, Option, Some, None, IfSome}
use Rattle.std.specs.Prelude.{eqb}
use Rattle.std.proofs.lemmas.Bool.{and_parts}
use Rattle.std.specs.HashMap.{HashMap, get, Updates}
use Rattle.std.specs.declared.hash.FoldHasher.{FoldHasher}
use Rattle.std.specs.declared.hash.BuildHasherDefault.{BuildHasherDefault}
use Rattle.std.proofs.lemmas.Option.{IfSome_then}
use borrow.Author.Tests.{eqb-true}
use Rattle.lam_rules.specs.Types.{Typ}
use Rattle.lam_rules.specs.Numbers.{type_of, Stands, Keeps}
use Rattle.lam_rules.specs.Subtyping.{IsBelow}
use Rattle.lam_rules.specs.declared.rules.Dialect.{Dialect}
use Rattle.lam_rules.specs.declared.numbers.TyNo.{TyNo}
use Rattle.lam_rules.proofs.Tables.{kept_type, keeps_length}
use Rattle.lam_sub.specs.BoundOrder.{JoinsInOrder, MeetsInOrder}
use Rattle.lam_sub.specs.Bounds.{IsJoin, IsMeet, HaveNoMeet}
use Rattle.lam_sub.specs.Remembered.{BothStand, IsVerdict, IsJoinOf, IsMeetOf, equal_pairs, AllKept, AreRight}
use Rattle.lam_sub.specs.declared.verdicts.Verdicts.{Verdicts}
use Rattle.lam_sub.proofs.LookUps.{none_then}

same_pair : (p q : TyNo × TyNo) → equal_pairs p q ≡ true → p ≡ q
same_pair p q e =
    let both = and_parts (eqb p.0.index q.0.index) (eqb p.1.index q.1.index) e in
    λ i. (record { index = eqb-true p.0.index q.0.index both.0 i }, record { index = eqb-true p.1.index q.1.index both.1 i })

-- one more answer

pub kept_more : {X : Type 0} (IsAnswer : TyNo × TyNo → X → Type 0) (m n : HashMap (TyNo × TyNo) X (BuildHasherDefault FoldHasher)) (pair : TyNo × TyNo) (x : X)
    → Updates equal_pairs m n pair (Some x) → AllKept IsAnswer m → IsAnswer pair x → AllKept IsAnswer n
kept_more IsAnswer m n pair x updates all here q = subst (λ o. IfSome o (IsAnswer q)) (sym (updates.0 q)) (by (equal_pairs pair q) refl)
  where
    by : (b : Bool) → equal_pairs pair q ≡ b → IfSome (cond b (Some x) (get equal_pairs m q)) (IsAnswer q)
    by true eq = subst (λ p. IsAnswer p x) (same_pair pair q eq) here
    by false eq = all q

-- a table that grows

pub both_kept : (old now : List Typ) (pair : TyNo × TyNo) → Keeps old now → BothStand old pair → BothStand now pair
both_kept old now pair keeps stand =
    let longer = keeps_length old now keeps in
    let one = stand.0 in
    let other = stand.1 in
    (omega arith, omega arith)

-- what holds of the types of two numbers still holds when the table has grown
pub pair_kept : (old now : List Typ) (pair : TyNo × TyNo) (P : Typ → Typ → Type 0) → Keeps old now → BothStand old pair
    → P (type_of old pair.0) (type_of old pair.1) → P (type_of now pair.0) (type_of now pair.1)
pair_kept old now pair P keeps stand p =
    subst (λ s. P s (type_of now pair.1)) (sym (kept_type old now pair.0.index keeps stand.0))
    (subst (λ t. P (type_of old pair.0) t) (sym (kept_type old now pair.1.index keeps stand.1)) p)

verdict_kept : (old now : List Typ) (d : Dialect) (pair : TyNo × TyNo) (is_below : Bool) → Keeps old now → IsVerdict old d pair is_below → IsVerdict now d pair is_below
verdict_kept old now d pair is_below keeps is = record {
  stand = both_kept old now pair keeps is.stand;
  verdict = pair_kept old now pair (λ s t. IsTrue is_below ↔ IsBelow s t d) keeps is.stand is.verdict;
}

join_kept : (old now : List Typ) (d : Dialect) (pair : TyNo × TyNo) (number : TyNo) → Keeps old now → IsJoinOf old d pair number → IsJoinOf now d pair number
join_kept old now d pair number keeps is = record {
  stand = both_kept old now pair keeps is.stand;
  stands = let longer = keeps_length old now keeps in let here = is.stands in omega arith;
  join = pair_kept old now pair (λ s t. IsJoin s t (type_of now number) d) keeps is.stand
      (subst (λ j. IsJoin (type_of old pair.0) (type_of old pair.1) j d) (sym (kept_type old now number.index keeps is.stands)) is.join);
  order = pair_kept old now pair (λ s t. JoinsInOrder s t (type_of now number)) keeps is.stand
      (subst (λ j. JoinsInOrder (type_of old pair.0) (type_of old pair.1) j) (sym (kept_type old now number.index keeps is.stands)) is.order);
}

some_kept : (old now : List Typ) (found : Option TyNo) (P : Typ → Type 0) → Keeps old now → IfSome found (Stands old)
    → IfSome found (λ number. P (type_of old number)) → IfSome found (λ number. P (type_of now number))
some_kept old now (Some number) P keeps stands p = subst P (sym (kept_type old now number.index keeps stands)) p
some_kept old now None P keeps stands p = tt

meet_kept : (old now : List Typ) (d : Dialect) (pair : TyNo × TyNo) (found : Option TyNo) → Keeps old now → IsMeetOf old d pair found → IsMeetOf now d pair found
meet_kept old now d pair found keeps is = record {
  stand = both_kept old now pair keeps is.stand;
  stands = IfSome_then found is.stands (λ number here. let longer = keeps_length old now keeps in omega arith);
  some = pair_kept old now pair (λ s t. IfSome found (λ number. IsMeet s t (type_of now number) d)) keeps is.stand
      (some_kept old now found (λ m. IsMeet (type_of old pair.0) (type_of old pair.1) m d) keeps is.stands is.some);
  order = pair_kept old now pair (λ s t. IfSome found (λ number. MeetsInOrder s t (type_of now number))) keeps is.stand
      (some_kept old now found (λ m. MeetsInOrder (type_of old pair.0) (type_of old pair.1) m) keeps is.stands is.order);
  none = none_then found is.none (pair_kept old now pair (λ s t. HaveNoMeet s t d) keeps is.stand);
}

pub right_kept : (old now : List Typ) (verdicts : Verdicts) → Keeps old now → AreRight old verdicts → AreRight now verdicts
right_kept old now verdicts keeps right = record {
  below = λ pair. IfSome_then (get equal_pairs verdicts.below pair) (right.below pair) (λ is_below. verdict_kept old now verdicts.dialect pair is_below keeps);
  joins = λ pair. IfSome_then (get equal_pairs verdicts.joins pair) (right.joins pair) (λ number. join_kept old now verdicts.dialect pair number keeps);
  meets = λ pair. IfSome_then (get equal_pairs verdicts.meets pair) (right.meets pair) (λ found. meet_kept old now verdicts.dialect pair found keeps);
}

pub ruleset kept_verdicts = (right_kept)
