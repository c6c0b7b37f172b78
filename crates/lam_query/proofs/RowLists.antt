-- Rows one after another in a text: cut in two, and one row more.
use Rattle.std.proofs.Common.{ℕ, List, [], ◌∷◌, ◌++◌, refl, ap, sym, subst}
use Rattle.lam_rules.specs.Types.{Typ}
use Rattle.lam_rules.specs.declared.rules.Dialect.{Dialect}
use Rattle.lam_syntax.specs.Trees.{CommandTree}
use Rattle.lam_query.specs.inner.Kept.{Row}
use Rattle.lam_query.specs.inner.Rows.{Front, front_with, IsRow, AreRowsFrom}

pub rows_split : (text : List ℕ) (f : Front) (front behind : List Row) (last : Front) (ts : List Typ) (d : Dialect)
    → AreRowsFrom text f (front ++ behind) last ts d
    → (mid : Front) × AreRowsFrom text f front mid ts d × AreRowsFrom text mid behind last ts d
rows_split text f [] behind last ts d are = (f, refl, are)
rows_split text f (r ∷ front) behind last ts d are =
    let rest = rows_split text (front_with f are.0 ts r) front behind last ts d are.2 in
    (rest.0, (are.0, are.1, rest.1), rest.2)

pub rows_push : (text : List ℕ) (f : Front) (rows : List Row) (mid : Front) (own : List CommandTree) (r : Row) (ts : List Typ) (d : Dialect)
    → AreRowsFrom text f rows mid ts d → IsRow text mid own r ts d → AreRowsFrom text f (rows ++ r ∷ []) (front_with mid own ts r) ts d
rows_push text f [] mid own r ts d are is =
    (own, subst (λ g. IsRow text g own r ts d) (sym are) is, ap (λ g. front_with g own ts r) are)
rows_push text f (s ∷ rows) mid own r ts d are is =
    (are.0, are.1, rows_push text (front_with f are.0 ts s) rows mid own r ts d are.2 is)
