-- What is told of a term of a command alone is what is to be told of the same term in its text.
use Rattle.std.proofs.Common.{List, ◌++◌, Option, Some, None}
use Rattle.lam_rules.specs.Types.{Typ}
use Rattle.lam_rules.specs.Terms.{Term, ascribe}
use Rattle.lam_rules.specs.Typing.{Context}
use Rattle.lam_rules.specs.declared.rules.Dialect.{Dialect}
use Rattle.lam_syntax.specs.Trees.{CommandTree}
use Rattle.lam_scope.specs.Places.{Scope}
use Rattle.lam_scope.specs.PlacedTerms.{PlacedTree, term_of}
use Rattle.lam_typing.specs.Progress.{IsLowest}
use Rattle.lam_typing.proofs.AlikePlaces.{least_alike}
use Rattle.lam_typing.proofs.AlikeTerms.{Alike, both_true, both_false, both_unit, both_numeral, both_free, both_variable, both_if, both_succ, both_pred, both_is_zero, both_lambda, both_apply, both_ascribe, both_let, both_record, both_project, both_fix, alike, alike_back}
use Rattle.lam_query.specs.Mismatches.{Mismatch, IsMismatch}
use Rattle.lam_query.proofs.SameTerms.{both_lowest}
use Rattle.lam_query.proofs.SeenAlike.{IsSameTerm}

mismatch_of_ascribed : {s r : Scope} {g h : Context} {e f : Term} {d : Dialect} (m : Option Mismatch) (w : Option Typ)
    → Alike g e h f → IsLowest s g d → IsLowest r h d → IsMismatch s (ascribe e w) m d → IsMismatch r (ascribe f w) m d
mismatch_of_ascribed m None i ls lr is = is
mismatch_of_ascribed m (Some w) i ls lr is = (is.0, least_alike (Some is.0) i ls lr is.1, is.2)

mismatch_alike : {s r : Scope} {g h : Context} {e f : Term} {d : Dialect} (m : Option Mismatch)
    → Alike g e h f → IsLowest s g d → IsLowest r h d → IsMismatch s e m d → IsMismatch r f m d
mismatch_alike m both_true ls lr is = is
mismatch_alike m both_false ls lr is = is
mismatch_alike m both_unit ls lr is = is
mismatch_alike m both_numeral ls lr is = is
mismatch_alike m both_free ls lr is = is
mismatch_alike m (both_variable same) ls lr is = is
mismatch_alike m (both_if i j k) ls lr is = (is.0, least_alike (Some is.0) i ls lr is.1, is.2)
mismatch_alike m (both_succ i) ls lr is = (is.0, least_alike (Some is.0) i ls lr is.1, is.2)
mismatch_alike m (both_pred i) ls lr is = (is.0, least_alike (Some is.0) i ls lr is.1, is.2)
mismatch_alike m (both_is_zero i) ls lr is = (is.0, least_alike (Some is.0) i ls lr is.1, is.2)
mismatch_alike m (both_lambda i) ls lr is = is
mismatch_alike m (both_apply i j) ls lr is =
    (is.0, is.1, least_alike (Some is.0) i ls lr is.2, least_alike (Some is.1) j ls lr is.3, is.4)
mismatch_alike m (both_ascribe {w = w} i) ls lr is = mismatch_of_ascribed m w i ls lr is
mismatch_alike m (both_let i j) ls lr is = is
mismatch_alike m (both_record is_alike) ls lr is = is
mismatch_alike m (both_project i) ls lr is = (is.0, least_alike (Some is.0) i ls lr is.1, is.2)
mismatch_alike m (both_fix i) ls lr is = (is.0, least_alike (Some is.0) i ls lr is.1, is.2)

pub mismatch_same : (done pre : List CommandTree) (g h : Context) (p q : PlacedTree) (m : Option Mismatch) (d : Dialect) → IsSameTerm done pre g h p q d
    → IsMismatch (term_of q).place.scope (term_of q).place.here m d → IsMismatch (term_of p).place.scope (term_of p).place.here m d
mismatch_same done pre g h p q m d same is =
    let both = (both_lowest done pre g h p q d same).1 in
    let are = alike (both.own ++ g) (term_of p).place.here (both.own ++ h) (term_of q).place.here (same.alike both.own both.count) in
    mismatch_alike m (alike_back are) both.alone_lowest both.lowest is
