-- What commands bind is bound again, row after row.
use Rattle.std.proofs.Common.{◌≡◌, ◌<◌, ◌≤◌, ◌+◌, ℕ, List, [], ◌∷◌, length, get_or, drop, Option, Some, None, sym, subst}
use Rattle.std.specs.Option.{option_map}
use Rattle.std.proofs.lemmas.List.{drop_more, drop_all}
use Rattle.lam_rules.specs.Types.{Typ}
use Rattle.lam_rules.specs.declared.numbers.TyNo.{TyNo}
use Rattle.lam_rules.specs.declared.rules.Dialect.{Dialect}
use Rattle.lam_syntax.specs.Trees.{CommandTree}
use Rattle.lam_query.specs.declared.bound.Bound.{Bound}
use Rattle.lam_query.specs.declared.rows.Row.{Row as RustRow}
use Rattle.lam_query.specs.declared.rows.CommandRow.{CommandRow as RustCommandRow}
use Rattle.lam_query.specs.inner.Analysts.{IsBoundAs}
use Rattle.lam_query.specs.inner.Bound.{HaveNumbers, KeepsNumbers, IsBinding, AllStand, IsBoundAfter}
use Rattle.lam_query.specs.inner.Fronts.{AreBoundBy, StandBy}
use Rattle.lam_query.specs.inner.Kept.{CommandRow, Row, command_row_of, row_of, rows_of, bound_by}
use Rattle.lam_query.specs.inner.PieceRows.{Sight, outset, sight_with, AreItsNumbers, AreRows}
use Rattle.lam_query.specs.inner.Rows.{names_with, types_with, IsKeptOf}
use Rattle.lam_query.proofs.BoundNames.{binding_kept, bound_as_after, stand_after, bound_stands, numbers_same, numbers_trans}

-- behind the rows in front of these, names mean what they mean there
pub record AreBehind (left : List Row) (last : Sight) (ts : List Typ) (old now : Bound) (d : Dialect) : Type 0 where
  pub sight : Sight
  pub pieces : List (List ℕ)
  pub rows : AreRows sight pieces left last ts old d
  pub bound : IsBoundAs sight.names sight.types ts now
  pub stand : AllStand ts now

-- what the rows in front of these bind is bound
pub record AreRebound (rows left : List Row) (old now : Bound) : Type 0 where
  pub behind : (pieces : List (List ℕ)) (last : Sight) (ts : List Typ) (d : Dialect) → AreRows outset pieces rows last ts old d → AreBehind left last ts old now d
  pub keeps : KeepsNumbers old now
  pub numbers : HaveNumbers now

-- ---- all rows

-- no row is left
last_sight : (pieces : List (List ℕ)) (s last : Sight) (ts : List Typ) (old : Bound) (d : Dialect) → AreRows s pieces [] last ts old d → s ≡ last
last_sight [] s last ts old d are = are
last_sight (p ∷ pieces) s last ts old d are = absurd are

module _ (rows : List Row) (old now : Bound) (rebound : AreRebound rows [] old now) where
  pub all_bound : AreBoundBy rows old now
  all_bound pieces last ts d are =
      let behind = rebound.behind pieces last ts d are in
      subst (λ (g : Sight). IsBoundAs g.names g.types ts now) (last_sight behind.pieces behind.sight last ts old d behind.rows) behind.bound

  pub all_stand : StandBy rows old now
  all_stand pieces last ts d are = (rebound.behind pieces last ts d are).stand

-- ---- one row more

-- where this is kept of a piece, names mean after the step what they mean behind the piece
abbrev pub IsStepOver : Option CommandRow → (old now more : Bound) → Type 0
IsStepOver o old now more =
    (own : List CommandTree) (s : Sight) (ts : List Typ) (d : Dialect) → IsKeptOf s.names s.types own ts o d → AreItsNumbers old own o
    → IsBoundAs s.names s.types ts now → AllStand ts now
    → IsBoundAs (names_with own ts o s.names) (types_with own ts o s.types) ts more × AllStand ts more

no_command : (old now : Bound) → IsStepOver None old now now
no_command old now [] s ts d kept its bound stand = (bound, stand)
no_command old now (c ∷ []) s ts d kept its bound stand = absurd kept
no_command old now (c ∷ e ∷ own) s ts d kept its bound stand = absurd kept

command_bound : (old now more : Bound) (k : CommandRow) → KeepsNumbers old now
    → ((c : CommandTree) → IsBinding now c k.binds → IsBoundAfter c (bound_by k.found) now more) → IsStepOver (Some k) old now more
command_bound old now more k keeps binds [] s ts d kept its bound stand = absurd kept
command_bound old now more k keeps binds (c ∷ []) s ts d kept its bound stand =
    let after = binds c (binding_kept old now c k.binds keeps its.0) in (
      bound_as_after s.names s.types c ts (bound_by k.found) now more bound after,
      stand_after c ts (bound_by k.found) now more stand after (bound_stands ts k.found kept.stand),
    )
command_bound old now more k keeps binds (c ∷ e ∷ own) s ts d kept its bound stand = absurd kept

-- the next row is the one of that index
pub at_row : (rows : List RustRow) (i : ℕ) (d : RustRow) (old now : Bound) → i < length rows
    → AreRebound (rows_of rows) (rows_of (drop i rows)) old now → AreRebound (rows_of rows) (row_of (get_or rows i d) ∷ rows_of (drop (i + 1) rows)) old now
at_row rows i d old now inside = subst (λ left. AreRebound (rows_of rows) (rows_of left) old now) (drop_more rows i d inside)

-- no row is left behind the last
pub at_end : (rows : List RustRow) (i : ℕ) (old now : Bound) → length rows ≤ i
    → AreRebound (rows_of rows) (rows_of (drop i rows)) old now → AreRebound (rows_of rows) [] old now
at_end rows i old now over = subst (λ left. AreRebound (rows_of rows) (rows_of left) old now) (drop_all i rows over)

more_behind : (left : List Row) (r : Row) (last : Sight) (ts : List Typ) (old now more : Bound) (d : Dialect) (s : Sight) (pieces : List (List ℕ))
    → AreRows s pieces (r ∷ left) last ts old d → IsBoundAs s.names s.types ts now → AllStand ts now → IsStepOver r.command old now more
    → AreBehind left last ts old more d
more_behind left r last ts old now more d s [] are bound stand step = absurd are
more_behind left r last ts old now more d s (p ∷ pieces) are bound stand step =
    let own = are.0 in
    let now_bound = step own s ts d are.1.kept are.1.numbers bound stand in
    record { sight = sight_with s own ts r.command; pieces = pieces; rows = are.2; bound = now_bound.0; stand = now_bound.1 }

module _ (rows : List Row) (r : Row) (rest : List Row) (old now : Bound) (rebound : AreRebound rows (r ∷ rest) old now) where
  one_more : (more : Bound) → IsStepOver r.command old now more → KeepsNumbers now more → HaveNumbers more → AreRebound rows rest old more
  one_more more step keeps numbers = record {
    behind = λ pieces last ts d are.
        let before = rebound.behind pieces last ts d are in
        more_behind rest r last ts old now more d before.sight before.pieces before.rows before.bound before.stand step;
    keeps = numbers_trans old now more rebound.keeps keeps;
    numbers = numbers;
  }

  pub row_skipped : (o : Option RustCommandRow) → r.command ≡ option_map command_row_of o → o ≡ None → AreRebound rows rest old now
  row_skipped o is none =
      let no_row : r.command ≡ None = rw none at is in
      one_more now (subst (λ k. IsStepOver k old now now) (sym no_row) (no_command old now)) (numbers_same now) rebound.numbers

  pub row_rebound : (k : CommandRow) (number : Option TyNo) (more : Bound) → r.command ≡ Some k → number ≡ bound_by k.found
      → ((c : CommandTree) → IsBinding now c k.binds → IsBoundAfter c number now more) → KeepsNumbers now more → HaveNumbers more
      → AreRebound rows rest old more
  row_rebound k number more is same binds =
      one_more more
      (subst (λ o. IsStepOver o old now more) (sym is)
      (command_bound old now more k rebound.keeps (λ c binding. subst (λ n. IsBoundAfter c n now more) same (binds c binding))))
