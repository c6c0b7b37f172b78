-- Types and documents that are small enough.
use Rattle.std.proofs.Common.{◌≡◌, ℕ, zero, suc, ◌<◌, List, [], ◌∷◌, length, get_or, Option, Some, None, sym, ◌∙◌, arith}
use Rattle.lam_rules.specs.Types.{Typ}
use Rattle.lam_rules.specs.declared.rules.Dialect.{Dialect}
use Rattle.lam_rules.proofs.SortedSizes.{one_size}
use Rattle.lam_syntax.specs.Trees.{CommandTree}
use Rattle.lam_scope.specs.Places.{Place}
use Rattle.lam_scope.specs.Nameless.{first_too_large}
use Rattle.lam_typing.specs.LeastTypes.{IsLeastAt}
use Rattle.lam_typing.specs.Analysis.{AreLeast, IsSmallType, AreSmall, IsTooLarge, IsFirstTooLarge}
use Rattle.lam_query.specs.Sizes.{of_written_type, of_term, IsSmall, places_in}

-- what is found of places

pub small_not_large : (p : Place) (o : Option Typ) (d : Dialect) → IsLeastAt p.scope p.here o d → IsSmallType o → IsTooLarge p d → ⊥
small_not_large p None d least small large = least large.0 large.1.0
small_not_large p (Some u) d least small large =
    let same = one_size u large.0 d (least.1 large.0 large.1.0) (large.1.1 u least.0) in
    let over = large.2 in
    omega arith

pub none_too_large : (ps : List Place) (os : List (Option Typ)) (n : ℕ) (d : Dialect) → AreLeast ps os d → AreSmall os → IsFirstTooLarge ps n d → ⊥
none_too_large [] [] n d least small h = h
none_too_large [] (o ∷ os) n d least small h = h
none_too_large (p ∷ ps) [] n d least small h = least
none_too_large (p ∷ ps) (o ∷ os) zero d least small h = small_not_large p o d least.0 small.0 h
none_too_large (p ∷ ps) (o ∷ os) (suc n) d least small h = none_too_large ps os n d least.1 small.1 h.3

pub least_at : (ps : List Place) (os : List (Option Typ)) (n : ℕ) (default : Place) (d : Dialect) → n < length ps → AreLeast ps os d
    → IsLeastAt (get_or ps n default).scope (get_or ps n default).here (get_or os n None) d
least_at [] [] n default d lt h = let no_way : ⊥ = omega arith in absurd no_way
least_at [] (o ∷ os) n default d lt h = absurd h
least_at (p ∷ ps) [] n default d lt h = absurd h
least_at (p ∷ ps) (o ∷ os) zero default d lt h = h.0
least_at (p ∷ ps) (o ∷ os) (suc n) default d lt h = least_at ps os n default d (omega arith) h.1

-- a document without a size fault
pub is_small : (commands : List CommandTree) (os : List (Option Typ)) (d : Dialect)
    → first_too_large [] commands ≡ None → AreLeast (places_in commands) os d → AreSmall os → IsSmall commands d
is_small commands os d no_written least small s (of_written_type is) = let no_way : Some s ≡ None = sym is ∙ no_written in cc
is_small commands os d no_written least small s (of_term n none large) = none_too_large (places_in commands) os n d least small large
