-- What the scopes of commands answer where a binder is to have a new name.
use Rattle.std.proofs.Common.{◌≡◌, ℕ, ◌+◌, ◌<◌, List, [], ◌∷◌, length, refl, ap, sym, ◌∙◌, subst, arith, true, false, inl, inr}
use Rattle.std.specs.Prelude.{slice_index_or}
use Rattle.lam_token.specs.declared.span.Span.{Span}
use Rattle.lam_token.specs.Edits.{IsNameKind, IsOne}
use Rattle.lam_syntax.specs.Trees.{CommandTree}
use Rattle.lam_scope.specs.declared.numbers.Origin.{Origin}
use Rattle.lam_scope.specs.declared.numbers.Origin.TheVariants as origin
use Rattle.lam_scope.specs.declared.rename_fault.RenameFault.TheVariants as fault
use Rattle.lam_scope.specs.declared.scopes.Scopes.{Scopes}
use Rattle.lam_scope.specs.Names.{Name}
use Rattle.lam_scope.specs.Tables.{Table, table, binder_numbered, use_tokens, tokens_by}
use Rattle.lam_scope.specs.Views.{AreScopesOf, table_of, uses_in}
use Rattle.lam_scope.specs.Renames.{kind_bound, HasName, AreRenamed, IsRefused, answer_for}
use Rattle.lam_scope.specs.inner.Bearers.{all_keep}
use Rattle.lam_scope.proofs.AnswerNumbers.{answer_within}
use Rattle.lam_scope.proofs.TokenLists.{tokens_by-at}
use Rattle.lam_scope.proofs.KeptForms.{keeps_if_all, all_if_keeps}

-- a binder is one of names or of type names
pub bound_kind : (o : Origin) → IsNameKind (kind_bound o)
bound_kind (origin.Lambda p) = inl refl
bound_kind (origin.Term p) = inl refl
bound_kind (origin.Declaration n) = inl refl
bound_kind origin.TypeName = inr refl

-- the uses of a binder, as the scopes list them
uses_listed : (cs : List CommandTree) (t : Table) (lists : List (List Span)) (n : ℕ) → t ≡ table cs → lists ≡ tokens_by 0 (length (table cs).binders) (table cs).uses → n < length (table cs).binders
    → slice_index_or lists (binder_numbered t n).answer [] ≡ use_tokens (answer_for cs n) (table cs).uses
uses_listed cs t lists n same listed inside =
    (λ i. slice_index_or (listed i) (binder_numbered (same i) n).answer [])
    ∙ tokens_by-at (table cs).uses 0 (length (table cs).binders) (answer_for cs n) (answer_within cs n inside)
    ∙ ap (λ k. use_tokens k (table cs).uses) zero_more
  where
    zero_more : 0 + answer_for cs n ≡ answer_for cs n
    zero_more = omega arith

pub renamed_tokens : (s : Scopes) (cs : List CommandTree) (n : ℕ) (new : Name) (spans : List Span) → AreScopesOf s cs → HasName cs n → IsOne (kind_bound (binder_numbered (table_of s) n).origin) new
    → all_keep (binder_numbered (table_of s) n).answer new (table_of s).binders (table_of s).uses ≡ true
    → spans ≡ (binder_numbered (table_of s) n).token ∷ slice_index_or (uses_in s) (binder_numbered (table_of s) n).answer []
    → AreRenamed cs n new spans
renamed_tokens s cs n new spans of named kind keeps told = record {
  kind = subst (λ (t : Table). IsOne (kind_bound (binder_numbered t n).origin) new) of.same_table kind;
  keeps = keeps_if_all (answer_for cs n) new cs (subst (λ (t : Table). all_keep (binder_numbered t n).answer new t.binders t.uses ≡ true) of.same_table keeps);
  tokens = told ∙ (λ i. (binder_numbered (of.same_table i) n).token ∷ uses_listed cs (table_of s) (uses_in s) n of.same_table of.same_uses named.inside i);
}

pub change_refused : (s : Scopes) (cs : List CommandTree) (n : ℕ) (new : Name) → AreScopesOf s cs → IsOne (kind_bound (binder_numbered (table_of s) n).origin) new
    → all_keep (binder_numbered (table_of s) n).answer new (table_of s).binders (table_of s).uses ≡ false → IsRefused cs n new fault.ChangesBinding
change_refused s cs n new of kind keeps = (
  subst (λ (t : Table). IsOne (kind_bound (binder_numbered t n).origin) new) of.same_table kind,
  λ stays.
      let all = all_if_keeps (answer_for cs n) new cs stays in
      let some : all_keep (answer_for cs n) new (table cs).binders (table cs).uses ≡ false = subst (λ (t : Table). all_keep (binder_numbered t n).answer new t.binders t.uses ≡ false) of.same_table keeps in
      let wrong : true ≡ false = sym all ∙ some in
      absurd cc,
)
