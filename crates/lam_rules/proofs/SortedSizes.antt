-- A sorted type has as many nodes as the type.
use Rattle.std.proofs.Common.{◌≡◌, ◌+◌, ◌∙◌, Bool, true, false, if◌then◌else◌, ap, refl, sym, arith}
use Rattle.lam_rules.specs.Types.{Label, Typ, bool, nat, unit, top, arrow, record_of, Fields, no_fields, field, nodes, nodes_in}
use Rattle.lam_rules.specs.Texts.{is_not_after, placed, sorted, sorted_fields}
use Rattle.lam_rules.specs.Subtyping.{IsBelow}
use Rattle.lam_rules.specs.declared.rules.Dialect.{Dialect}
use Rattle.lam_rules.proofs.SharedTexts.{sorted_same}

nodes_placed : (l : Label) (t : Typ) (fs : Fields) → nodes_in (placed l t fs) ≡ nodes t + nodes_in fs
nodes_placed l t no_fields = refl
nodes_placed l t (field k u fs) = by (is_not_after l k) (nodes_placed l t fs)
  where
    by : (b : Bool) → nodes_in (placed l t fs) ≡ nodes t + nodes_in fs
        → nodes_in (if b then field l t (field k u fs) else field k u (placed l t fs)) ≡ nodes t + (nodes u + nodes_in fs)
    by true e = refl
    by false e = omega (arith, e)

mutual
  pub nodes_sorted : (t : Typ) → nodes (sorted t) ≡ nodes t
  nodes_sorted bool = refl
  nodes_sorted nat = refl
  nodes_sorted unit = refl
  nodes_sorted top = refl
  nodes_sorted (arrow s t) = let a = nodes_sorted s in let b = nodes_sorted t in omega (arith, a, b)
  nodes_sorted (record_of fs) = let a = nodes_sorted_fields fs in omega (arith, a)

  nodes_sorted_fields : (fs : Fields) → nodes_in (sorted_fields fs) ≡ nodes_in fs
  nodes_sorted_fields no_fields = refl
  nodes_sorted_fields (field l t fs) =
      let a = nodes_placed l (sorted t) (sorted_fields fs) in
      let b = nodes_sorted t in
      let c = nodes_sorted_fields fs in
      omega (arith, a, b, c)

pub one_size : (s t : Typ) (d : Dialect) → IsBelow s t d → IsBelow t s d → nodes s ≡ nodes t
one_size s t d below above = sym (nodes_sorted s) ∙ ap nodes (sorted_same s t d below above) ∙ nodes_sorted t
