-- Bounds of two arrows.
use Rattle.std.proofs.Common.{◌≡◌, ◌⊎◌, sym, inl, inr, subst}
use Rattle.lam_rules.specs.Types.{Typ, top, arrow, IsWellFormed}
use Rattle.lam_rules.specs.Subtyping.{IsBelow}
use Rattle.lam_rules.specs.declared.rules.Dialect.{Dialect}
use Rattle.lam_rules.proofs.ByShape.{below_wf}
use Rattle.lam_rules.proofs.Composing.{below_refl, below_top, below_arrow}
use Rattle.lam_sub.proofs.Below.{below_arrow_is, above_arrow_is, arrow_inside}
use Rattle.lam_lattice.specs.inner.Bounds.{IsJoin, IsMeet, HaveNoMeet}

pub arrows_join : (s1 s2 t1 t2 m j : Typ) (d : Dialect) → IsMeet s1 t1 m d → IsJoin s2 t2 j d → IsJoin (arrow s1 s2) (arrow t1 t2) (arrow m j) d
arrows_join s1 s2 t1 t2 m j d meet join = record {
  left = below_arrow s1 s2 m j d meet.left join.left;
  right = below_arrow t1 t2 m j d meet.right join.right;
  least = λ u a b. by u a b (above_arrow_is s1 s2 u d a);
}
  where
    by : (u : Typ) → IsBelow (arrow s1 s2) u d → IsBelow (arrow t1 t2) u d
        → (u ≡ top) ⊎ ((u1 : Typ) × (u2 : Typ) × (u ≡ arrow u1 u2) × IsBelow u1 s1 d × IsBelow s2 u2 d) → IsBelow (arrow m j) u d
    by u a b (inl e) = subst (λ v. IsBelow (arrow m j) v d) (sym e) (below_top (arrow m j) d ((below_wf m s1 d meet.left).0, (below_wf s2 j d join.left).1))
    by u a b (inr is) =
        let other = arrow_inside t1 t2 is.0 is.1 d (subst (λ v. IsBelow (arrow t1 t2) v d) is.2 b) in
        subst (λ v. IsBelow (arrow m j) v d) (sym is.2) (below_arrow m j is.0 is.1 d (meet.greatest is.0 is.3 other.0) (join.least is.1 is.4 other.1))

pub arrows_join_top : (s1 s2 t1 t2 : Typ) (d : Dialect) → IsWellFormed (arrow s1 s2) → IsWellFormed (arrow t1 t2) → HaveNoMeet s1 t1 d → IsJoin (arrow s1 s2) (arrow t1 t2) top d
arrows_join_top s1 s2 t1 t2 d ws wt none = record {
  left = below_top (arrow s1 s2) d ws;
  right = below_top (arrow t1 t2) d wt;
  least = λ u a b. by u b (above_arrow_is s1 s2 u d a);
}
  where
    by : (u : Typ) → IsBelow (arrow t1 t2) u d
        → (u ≡ top) ⊎ ((u1 : Typ) × (u2 : Typ) × (u ≡ arrow u1 u2) × IsBelow u1 s1 d × IsBelow s2 u2 d) → IsBelow top u d
    by u b (inl e) = subst (λ v. IsBelow top v d) (sym e) (below_refl top d tt)
    by u b (inr is) = absurd (none is.0 is.3 (arrow_inside t1 t2 is.0 is.1 d (subst (λ v. IsBelow (arrow t1 t2) v d) is.2 b)).0)

pub arrows_meet : (s1 s2 t1 t2 j m : Typ) (d : Dialect) → IsJoin s1 t1 j d → IsMeet s2 t2 m d → IsMeet (arrow s1 s2) (arrow t1 t2) (arrow j m) d
arrows_meet s1 s2 t1 t2 j m d join meet = record {
  left = below_arrow j m s1 s2 d join.left meet.left;
  right = below_arrow j m t1 t2 d join.right meet.right;
  greatest = λ u a b.
      let is = below_arrow_is u s1 s2 d a in
      let other = arrow_inside is.0 is.1 t1 t2 d (subst (λ v. IsBelow v (arrow t1 t2) d) is.2 b) in
      subst (λ v. IsBelow v (arrow j m) d) (sym is.2) (below_arrow is.0 is.1 j m d (join.least is.0 is.3 other.0) (meet.greatest is.1 is.4 other.1));
}

pub arrows_no_meet : (s1 s2 t1 t2 : Typ) (d : Dialect) → HaveNoMeet s2 t2 d → HaveNoMeet (arrow s1 s2) (arrow t1 t2) d
arrows_no_meet s1 s2 t1 t2 d none = λ u a b.
    let is = below_arrow_is u s1 s2 d a in
    none is.1 is.4 (arrow_inside is.0 is.1 t1 t2 d (subst (λ v. IsBelow v (arrow t1 t2) d) is.2 b)).1

-- the parts of a type that is known to be an arrow
