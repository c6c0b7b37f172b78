-- A text has one list of commands, and one type is shown of an offset.
use Rattle.std.proofs.Common.{◌≡◌, ℕ, List, [], ◌∷◌, Option, Some, None, refl, sym, ap, subst, ◌∙◌, inl, inr}
use Rattle.lam_typing.specs.LeastTypes.{IsLeastAt}
use Rattle.lam_rules.specs.Types.{Typ}
use Rattle.lam_rules.specs.declared.rules.Dialect.{Dialect}
use Rattle.lam_rules.proofs.SharedTexts.{text_same}
use Rattle.lam_token.specs.Lexeme.{Lexeme}
use Rattle.lam_token.proofs.Cuts.{one_list}
use Rattle.lam_syntax.specs.Trees.{CommandTree}
use Rattle.lam_syntax.specs.Answers.{pieces_of}
use Rattle.lam_syntax.proofs.Complete.{one_tree}
use Rattle.lam_query.specs.Commands.{AreCommandsOf, AreCommandsOfText}
use Rattle.lam_scope.specs.PlacedTerms.{PlacedTree, term_of}
use Rattle.lam_query.specs.Hovers.{IsTypedAround, Shown, IsHover, IsShownIn}

pub one_commands : (ps : List (List Lexeme)) (cs ds : List CommandTree) → AreCommandsOf ps cs → AreCommandsOf ps ds → cs ≡ ds
one_commands [] cs ds h k = h ∙ sym k
one_commands (p ∷ ps) cs ds (inl h) (inl k) =
    let first = one_tree h.3.spelled k.3.spelled in
    let rest = one_commands ps h.1 k.1 h.4 k.4 in
    h.2 ∙ (λ i. first i ∷ rest i) ∙ sym k.2
one_commands (p ∷ ps) cs ds (inl h) (inr k) = absurd (k.0 h.0 h.3)
one_commands (p ∷ ps) cs ds (inr h) (inl k) = absurd (h.0 k.0 k.3)
one_commands (p ∷ ps) cs ds (inr h) (inr k) = one_commands ps cs ds h.1 k.1

pub one_document : (text : List ℕ) (cs ds : List CommandTree) → AreCommandsOfText text cs → AreCommandsOfText text ds → cs ≡ ds
one_document text cs ds h k =
    let same = one_list text h.tokens k.tokens h.are_tokens k.are_tokens in
    let there = rw same at k.are_commands in
    one_commands (pieces_of h.tokens) cs ds h.are_commands there

same_term : (cs : List CommandTree) (o : ℕ) (a b : PlacedTree) (s t : Typ) (d : Dialect) → IsTypedAround cs o a s d → IsTypedAround cs o b t d → b ≡ a
same_term cs o a b s t d h k = let both : Some b ≡ Some a = sym k.innermost ∙ h.innermost in cc

one_shown : (cs : List CommandTree) (o : ℕ) (a b : Option Shown) (d : Dialect) → IsHover cs o a d → IsHover cs o b d → a ≡ b
one_shown cs o None None d h k = refl
one_shown cs o None (Some b) d h k = absurd (h k.0 k.1 k.2)
one_shown cs o (Some a) None d h k = absurd (k h.0 h.1 h.2)
one_shown cs o (Some a) (Some b) d h k =
    let same = same_term cs o h.0 k.0 h.1 k.1 d h.2 k.2 in
    let least = subst (λ t. IsLeastAt (term_of t).place.scope (term_of t).place.here (Some k.1) d) same k.2.least in
    let below = h.2.least.1 k.1 least.0 in
    let above = least.1 h.1 h.2.least.0 in
    let texts : a.text ≡ b.text = h.3 ∙ text_same h.1 k.1 d below above ∙ sym k.3 in
    let spans : a.span ≡ b.span = h.4 ∙ ap (λ t. (term_of t).span) (sym same) ∙ sym k.4 in
    ap Some (λ i. record { text = texts i; span = spans i })

pub one_hover : (text : List ℕ) (o : ℕ) (a b : Option Shown) (d : Dialect) → IsShownIn text o a d → IsShownIn text o b d → a ≡ b
one_hover text o a b d h k =
    let same = one_document text k.commands h.commands k.are_commands h.are_commands in
    let there = rw same at k.answer in
    one_shown h.commands o a b d h.answer there
