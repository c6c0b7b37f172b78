-- The entries of the binders that a place sees, by what was found of places.
use Rattle.std.proofs.Common.{◌≡◌, ℕ, zero, suc, List, [], ◌∷◌, map, reverse, get_or, Option, None, refl, sym, ap, ◌∙◌}
use Rattle.lam_rules.specs.Types.{Typ}
use Rattle.lam_rules.specs.declared.rules.Dialect.{Dialect}
use Rattle.lam_syntax.specs.Trees.{CommandTree}
use Rattle.lam_scope.specs.declared.resolved.Resolved.{Resolved}
use Rattle.lam_scope.specs.declared.numbers.Origin.{Origin}
use Rattle.lam_scope.specs.declared.numbers.Origin.TheVariants.{TypeName}
use Rattle.lam_scope.specs.Sights.{sight_numbered}
use Rattle.lam_scope.specs.Tables.{Table, TextBinder, table, binder_numbered, visible_at}
use Rattle.lam_scope.proofs.SeenOrigins.{visible_origins}
use Rattle.lam_scope.proofs.Reading.{map-reverse}
use Rattle.lam_typing.specs.declared.typing.Typing.{Typing}
use Rattle.lam_typing.specs.Entries.{entry_from}
use Rattle.lam_typing.specs.Typings.{found_of, entries_in, context_at}
use Rattle.lam_query.specs.WellTypedDocuments.{statements_in}
use Rattle.lam_query.specs.inner.Typings.{AreFoundOf}

type_told : (f : Origin → Option Typ) (rows : List TextBinder) (n : ℕ) (default : TextBinder) → f TypeName ≡ None → default.origin ≡ TypeName
    → get_or (map f (map (λ b. b.origin) rows)) n None ≡ f (get_or rows n default).origin
type_told f [] n default none is = sym (ap f is ∙ none)
type_told f (r ∷ rows) zero default none is = refl
type_told f (r ∷ rows) (suc n) default none is = type_told f rows n default none is

types_told : (t : Table) (f : Origin → Option Typ) (types : List (Option Typ)) (bs : List ℕ) → f TypeName ≡ None → types ≡ map f (map (λ b. b.origin) t.binders)
    → map (λ b. get_or types b None) bs ≡ map f (map (λ b. (binder_numbered t b).origin) bs)
types_told t f types [] none are = refl
types_told t f types (b ∷ bs) none are =
    let one : get_or types b None ≡ f (binder_numbered t b).origin = ap (λ (xs : List (Option Typ)). get_or xs b None) are ∙ type_told f t.binders b _ none refl in
    let rest = types_told t f types bs none are in
    λ i. one i ∷ rest i

-- the entries of a place are those of the binders that it sees, the outermost first
pub entries_told : (cs : List CommandTree) (resolved : Resolved) (typing : Typing) (d : Dialect) (n : ℕ) → AreFoundOf cs resolved typing d
    → map (λ b. get_or (entries_in typing) b None) (visible_at (table cs) n) ≡ reverse (context_at (statements_in cs) typing n)
entries_told cs resolved typing d n h =
    let f = entry_from (statements_in cs) (found_of typing) in
    let each : entries_in typing ≡ map f (map (λ b. b.origin) (table cs).binders) = h.entries.each ∙ (λ i. map (entry_from (h.statements i) (found_of typing)) (h.origins i)) in
    types_told (table cs) f (entries_in typing) (visible_at (table cs) n) refl each
    ∙ ap (map f) (visible_origins cs n)
    ∙ map-reverse f (sight_numbered (statements_in cs) n)
