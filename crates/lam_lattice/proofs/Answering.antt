-- The join or the meet that is found for two numbers is an answer that may be kept for them.
use Rattle.std.proofs.Common.{◌≡◌, ◌<◌, List, length, sym, subst, Option, IfSome, IfNone}
use Rattle.lam_rules.specs.Types.{Typ}
use Rattle.lam_rules.specs.Numbers.{type_of, Stands, Keeps}
use Rattle.lam_rules.specs.declared.rules.Dialect.{Dialect}
use Rattle.lam_rules.specs.declared.numbers.TyNo.{TyNo}
use Rattle.lam_sub.specs.Remembered.{IsJoinOf, IsMeetOf}
use Rattle.lam_sub.proofs.Keeping.{both_kept, pair_kept}
use Rattle.lam_lattice.specs.inner.Bounds.{IsJoin, IsMeet, HaveNoMeet, JoinsInOrder, MeetsInOrder}

pub join_found : (old now : List Typ) (left right number : TyNo) (d e : Dialect) → Keeps old now → left.index < length old → right.index < length old → e ≡ d → Stands now number
    → IsJoin (type_of old left) (type_of old right) (type_of now number) d → JoinsInOrder (type_of old left) (type_of old right) (type_of now number) → IsJoinOf now e (left, right) number
join_found old now left right number d e keeps one other same stands join order = record {
  stand = both_kept old now (left, right) keeps (one, other);
  stands = stands;
  join = subst (λ x. IsJoin (type_of now left) (type_of now right) (type_of now number) x) (sym same)
      (pair_kept old now (left, right) (λ s t. IsJoin s t (type_of now number) d) keeps (one, other) join);
  order = pair_kept old now (left, right) (λ s t. JoinsInOrder s t (type_of now number)) keeps (one, other) order;
}

pub meet_found : (old now : List Typ) (left right : TyNo) (found : Option TyNo) (d e : Dialect) → Keeps old now → left.index < length old → right.index < length old → e ≡ d
    → IfSome found (λ number. Stands now number) → IfSome found (λ number. IsMeet (type_of old left) (type_of old right) (type_of now number) d)
    → IfSome found (λ number. MeetsInOrder (type_of old left) (type_of old right) (type_of now number)) → IfNone found (HaveNoMeet (type_of old left) (type_of old right) d) → IsMeetOf now e (left, right) found
meet_found old now left right found d e keeps one other same stands some order none = record {
  stand = both_kept old now (left, right) keeps (one, other);
  stands = stands;
  some = subst (λ x. IfSome found (λ number. IsMeet (type_of now left) (type_of now right) (type_of now number) x)) (sym same)
      (pair_kept old now (left, right) (λ s t. IfSome found (λ number. IsMeet s t (type_of now number) d)) keeps (one, other) some);
  order = pair_kept old now (left, right) (λ s t. IfSome found (λ number. MeetsInOrder s t (type_of now number))) keeps (one, other) order;
  none = subst (λ x. IfNone found (HaveNoMeet (type_of now left) (type_of now right) x)) (sym same)
      (pair_kept old now (left, right) (λ s t. IfNone found (HaveNoMeet s t d)) keeps (one, other) none);
}
