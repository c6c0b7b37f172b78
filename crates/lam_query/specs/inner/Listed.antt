-- The completions after a dot, from commands with one label put there. For private functions only.
use Rattle.std.specs.Prelude.{◌≡◌, ℕ, ◌+◌, suc, List, [], ◌∷◌, ◌++◌, map, true, Some, None, All, Contains}
use Rattle.lam_token.specs.declared.span.Span.{Span}
use Rattle.lam_rules.specs.Types.{Label, Typ}
use Rattle.lam_rules.specs.Terms.{Term, project}
use Rattle.lam_rules.specs.Texts.{text}
use Rattle.lam_rules.specs.declared.rules.Dialect.{Dialect}
use Rattle.lam_syntax.specs.Trees.{CommandTree}
use Rattle.lam_scope.specs.Labels.{place_in}
use Rattle.lam_scope.specs.PlacedTerms.{projection_at}
use Rattle.lam_typing.specs.LeastTypes.{IsLeastAt}
use Rattle.lam_query.specs.declared.analyses.Analysis.{Analysis}
use Rattle.lam_query.specs.declared.pieces.PieceAt.{PieceAt}
use Rattle.lam_query.specs.Commands.{AreCommandsOfText}
use Rattle.lam_query.specs.Completions.{Item, AreAscending, IsSmallUpTo}
use Rattle.lam_query.specs.Sizes.{IsSizeFault, IsSmall}
use Rattle.lam_query.specs.inner.Around.{IsPieceAround, first_term}
use Rattle.lam_query.specs.inner.Entered.{type_name_bound}

-- the term with this number is a projection, and the one before it is its operand
pub record IsProjection (commands : List CommandTree) (number : ℕ) : Type 0 where
  pub operand : Term
  pub label : Label
  pub asked : (place_in commands number).here ≡ project operand label
  pub before : ℕ
  pub is_next : number ≡ suc before
  pub operand_there : place_in commands before ≡ record { scope = (place_in commands number).scope; here = operand }

-- the projection with this number, if it selected this label, would have this least type
abbrev pub HasLeast : {commands : List CommandTree} {number : ℕ} → IsProjection commands number → Label → Typ → Dialect → Type 0
HasLeast {commands} {number} p l t d = IsLeastAt (place_in commands number).scope (project p.operand l) (Some t) d

-- exactly the labels with which it has a type, each with its least type as text
pub record AreFields {commands : List CommandTree} {number : ℕ} (p : IsProjection commands number) (items : List Item) (d : Dialect) : Type 0 where
  pub ascending : AreAscending items
  pub each : All (λ i. (t : Typ) × HasLeast p i.label t d × (i ≡ record { label = i.label; detail = Some (text t); is_field = true })) items
  pub every : (l : Label) (t : Typ) → HasLeast p l t d → Contains (map (λ i. i.label) items) l

-- these items, or none if something before the projection is over the size limit
pub data AreListed : (commands : List CommandTree) (number : ℕ) → List Item → Dialect → Type 0 where
  fields : {commands : List CommandTree} {number : ℕ} {items : List Item} {d : Dialect} (p : IsProjection commands number)
      → IsSmallUpTo commands number d → AreFields p items d → AreListed commands number items d
  too_large : {commands : List CommandTree} {number : ℕ} {d : Dialect} → (IsSmallUpTo commands number d → ⊥) → AreListed commands number [] d

-- The same, given also the commands without the label: no items if a type of them is over the size limit.
pub data AreListedFor : (commands others : List CommandTree) (number : ℕ) → List Item → Dialect → Type 0 where
  small : {commands others : List CommandTree} {number : ℕ} {items : List Item} {d : Dialect} → IsSmall commands d → AreListed others number items d → AreListedFor commands others number items d
  large : {commands others : List CommandTree} {number : ℕ} {d : Dialect} (s : Span) → IsSizeFault commands s d → AreListedFor commands others number [] d

-- With a label after a dot, this is the command of the piece, and the label is that of a projection. Among the commands of the text with this one in place of the piece's
-- own, the projection has these labels, provided the piece's own command binds no type name.
pub record IsListedBehind {text : List ℕ} {offset : ℕ} {a : Analysis} {p : PieceAt} (here : IsPieceAround text offset a p) (dot : ℕ) (c : CommandTree) (items : List Item) : Type 0 where
  pub number : ℕ
  pub there : projection_at dot (c ∷ []) ≡ Some number
  pub listed : (whole behind : List CommandTree) → AreCommandsOfText text whole → whole ≡ here.around.front.commands ++ here.around.own ++ behind
      → All (λ o. type_name_bound o ≡ None) here.around.own → AreListedFor whole (here.around.front.commands ++ c ∷ behind) (first_term here + number) items a.dialect
