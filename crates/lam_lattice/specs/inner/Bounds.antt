-- Joins and meets, and the order of their fields, as used for the memoized results.
pub use Rattle.lam_sub.specs.Bounds.{IsJoin, IsMeet, HaveNoMeet}
pub use Rattle.lam_sub.specs.BoundOrder.{JoinsInOrder, MeetsInOrder}
