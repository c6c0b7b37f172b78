-- Rows that are right tell the types and the faults of a document, or its size fault.
use Rattle.std.proofs.Common.{◌≡◌, ℕ, List, [], ◌∷◌, ◌++◌, append-nil, append_assoc, map, refl, sym, subst, Option, Some, None}
use Rattle.std.specs.Option.{option_or}
use Rattle.std.specs.List.Sorted.{IsPermutation}
use Rattle.lam_token.specs.declared.span.Span.{Span}
use Rattle.lam_rules.specs.Types.{Typ}
use Rattle.lam_rules.specs.declared.rules.Dialect.{Dialect}
use Rattle.lam_syntax.specs.Trees.{CommandTree}
use Rattle.lam_scope.specs.Nameless.{faults, first_too_large}
use Rattle.lam_typing.specs.Analysis.{IsFirstTooLarge}
use Rattle.lam_typing.specs.Answers.{answers}
use Rattle.lam_query.specs.Faults.{Fault}
use Rattle.lam_query.specs.Sizes.{places_in, span_numbered, IsSizeFault, of_written_type, of_term}
use Rattle.lam_query.specs.TextFaults.{written_fault, blame_fault, AreTypeFaults}
use Rattle.lam_query.specs.inner.Kept.{Row, found_in, large_written_type, large_term, first_in, first_large, all_types, all_faults}
use Rattle.lam_query.specs.inner.Rows.{Front, nothing, front_with, AreRowsFrom, IsSizedBy, AreAllTyped}
use Rattle.lam_query.proofs.Checked.{checked_small, checked_faults}
use Rattle.lam_query.proofs.CheckedLists.{first_assoc, first_or_none}
use Rattle.lam_query.proofs.CommandsToCome.{none_come}
use Rattle.lam_query.proofs.KnownFronts.{IsTermTooLarge, IsKnownBy, nothing_known}
use Rattle.lam_query.proofs.OneMoreRow.{row_more}

-- ---- row after row

-- the same is known of equal rows and spans
same_known : (f : Front) (rows others : List Row) (ts : List Typ) (w v t u : Option Span) (d : Dialect) → rows ≡ others → w ≡ v → t ≡ u
    → IsKnownBy f rows ts w t d → IsKnownBy f others ts v u d
same_known f rows others ts w v t u d same written term known =
    subst (λ o. IsKnownBy f others ts v o d) term
    (subst (λ o. IsKnownBy f others ts o t d) written (subst (λ rs. IsKnownBy f rs ts w t d) same known))

-- behind rows of which it is known
rows_more : (text : List ℕ) (done rows : List Row) (f last : Front) (ts : List Typ) (d : Dialect) (w t : Option Span)
    → AreRowsFrom text f rows last ts d → IsKnownBy f done ts w t d
    → IsKnownBy last (done ++ rows) ts (option_or w (first_in large_written_type rows)) (option_or t (first_in large_term rows)) d
rows_more text done [] f last ts d w t same known =
    subst (λ g. IsKnownBy g (done ++ []) ts (option_or w None) (option_or t None) d) same
    (same_known f done (done ++ []) ts w (option_or w None) t (option_or t None) d
    (sym (append-nil done)) (sym (first_or_none w)) (sym (first_or_none t)) known)
rows_more text done (r ∷ rows) f last ts d w t (own, is, are) known =
    same_known last _ _ ts _ _ _ _ d (append_assoc done (r ∷ []) rows)
    (sym (first_assoc w (large_written_type (found_in r)) (first_in large_written_type rows)))
    (sym (first_assoc t (large_term (found_in r)) (first_in large_term rows)))
    (rows_more text (done ++ r ∷ []) rows (front_with f own ts r) last ts d _ _ are (row_more f done own r ts d w t known is.kept))

module _ (text : List ℕ) (rows : List Row) (f : Front) (ts : List Typ) (d : Dialect) (are : AreRowsFrom text nothing rows f ts d) where
  all_known : IsKnownBy f rows ts (first_in large_written_type rows) (first_in large_term rows) d
  all_known = rows_more text [] rows nothing f ts d None None are (nothing_known ts d)

-- ---- at the end

-- no type is too large
typed_ends : (f : Front) (rows : List Row) (ts : List Typ) (d : Dialect) (w t : Option Span) → IsKnownBy f rows ts w t d → option_or w t ≡ None → AreAllTyped f rows ts d
typed_ends f rows ts d (Some s) t known none = absurd cc
typed_ends f rows ts d None (Some s) known none = absurd cc
typed_ends f rows ts d None None known none = known

-- one is
written_ends : (commands : List CommandTree) (s : Span) (d : Dialect) → ((rest : List CommandTree) → first_too_large [] (commands ++ rest) ≡ Some s)
    → IsSizeFault commands s d
written_ends commands s d large = of_written_type (none_come (λ cs. first_too_large [] cs ≡ Some s) commands large)

term_ends : (f : Front) (s : Span) (d : Dialect) → IsTermTooLarge f.commands f.types s d → IsSizeFault f.commands s d
term_ends f s d large =
    let first = none_come (λ cs. IsFirstTooLarge (places_in cs) large.number d) f.commands large.first in
    let span = none_come (λ cs. span_numbered cs large.number ≡ s) f.commands large.span in
    subst (λ r. IsSizeFault f.commands r d) span (of_term large.number large.written first)

large_ends : (f : Front) (rows : List Row) (ts : List Typ) (d : Dialect) (w t : Option Span) (s : Span) → IsKnownBy f rows ts w t d → option_or w t ≡ Some s
    → IsSizeFault f.commands s d
large_ends f rows ts d (Some u) t s known is = let same : u ≡ s = cc in subst (λ r. IsSizeFault f.commands r d) same (written_ends f.commands u d known)
large_ends f rows ts d None (Some u) s known is = let same : u ≡ s = cc in subst (λ r. IsSizeFault f.commands r d) same (term_ends f u d known)
large_ends f rows ts d None None s known is = absurd cc

-- ---- of all rows

pub known_through : (text : List ℕ) (rows : List Row) (f : Front) (ts : List Typ) (d : Dialect) → AreRowsFrom text nothing rows f ts d
    → first_large rows ≡ None → AreAllTyped f rows ts d
known_through text rows f ts d are none =
    typed_ends f rows ts d (first_in large_written_type rows) (first_in large_term rows) (all_known text rows f ts d are) none

pub size_told : (text : List ℕ) (rows : List Row) (f : Front) (ts : List Typ) (d : Dialect) (s : Span) → AreRowsFrom text nothing rows f ts d
    → first_large rows ≡ Some s → IsSizeFault f.commands s d
size_told text rows f ts d s are is =
    large_ends f rows ts d (first_in large_written_type rows) (first_in large_term rows) s (all_known text rows f ts d are) is

pub sized : (text : List ℕ) (rows : List Row) (f : Front) (ts : List Typ) (d : Dialect) → AreRowsFrom text nothing rows f ts d
    → IsSizedBy f.commands (first_large rows) d
sized text rows f ts d are = by (first_large rows) refl
  where
    by : (o : Option Span) → first_large rows ≡ o → IsSizedBy f.commands o d
    by (Some s) is = size_told text rows f ts d s are is
    by None none =
        let known = known_through text rows f ts d are none in
        checked_small f.commands known.context (answers ts (all_types rows)) known.blames d known.checked

-- where no type is too large, the faults of the rows are those that types decide
pub type_faults_told : (f : Front) (rows : List Row) (ts : List Typ) (d : Dialect) → AreAllTyped f rows ts d
    → (of_types : List Fault) × AreTypeFaults f.commands of_types d × IsPermutation of_types (all_faults rows)
type_faults_told f rows ts d known = (
  map written_fault (faults [] f.commands) ++ map (blame_fault f.commands) known.blames,
  checked_faults f.commands known.context (answers ts (all_types rows)) known.blames d known.checked,
  subst (λ cs. IsPermutation (map written_fault (faults [] f.commands) ++ map (blame_fault cs) known.blames) (all_faults rows)) (append-nil f.commands) (known.faults []),
)
