-- A tree that proves a type of a term also proves it of any term that is alike, since trees contain no contexts.
use Rattle.std.proofs.Common.{◌∷◌, Option, Some, None}
use Rattle.lam_rules.specs.Types.{Typ, record_of, no_fields, field}
use Rattle.lam_rules.specs.Terms.{Term, TermFields, record_term}
use Rattle.lam_rules.specs.Subtyping.{SubTree}
use Rattle.lam_rules.specs.Typing.{Context, IsWellFormedContext, TypingTree, typing_step, TypingTrees, no_typings, typing_first, IsTyping, ByTypeRule}
use Rattle.lam_rules.specs.declared.rules.Dialect.{Dialect}
use Rattle.lam_rules.specs.declared.rules.TypeRule.{TypeRule}
use Rattle.lam_scope.specs.Alike.{AreAlike}
use Rattle.lam_typing.proofs.AlikeTerms.{Alike, FieldsAlike, both_true, both_false, both_unit, both_numeral, both_variable, both_if, both_succ, both_pred, both_is_zero, both_lambda, both_apply, both_ascribe, both_let, both_record, both_project, both_fix, both_none, both_more, alike}
use Rattle.lam_typing.proofs.AlikeTypes.{entry_alike}

-- the context of a proof has distinct labels
context_wf : (p : TypingTree) (g : Context) (e : Term) (d : Dialect) → IsTyping g e p d → IsWellFormedContext g
context_wf (typing_step r t ps s) g e d x = x.0

-- the premises of a record's proof
abbrev AreRecordPremises : Context → TermFields → Typ → TypingTrees → Dialect → Type 0
AreRecordPremises g es t ps d = ByTypeRule TypeRule.Rcd None g (record_term es) t ps d

mutual
  tree_alike : {g h : Context} {e f : Term} (d : Dialect) (p : TypingTree) → Alike g e h f → IsWellFormedContext h → IsTyping g e p d → IsTyping h f p d
  tree_alike d (typing_step r t ps s) i wh x =
      (wh, x.1, rule_alike d r s i t ps (λ es fs is by. trees_alike d ps t is wh by) wh x.2)

  rule_alike : {g h : Context} {e f : Term} (d : Dialect) (r : TypeRule) (s : Option SubTree) → Alike g e h f → (t : Typ) (ps : TypingTrees)
      → ((es fs : TermFields) → FieldsAlike g es h fs → AreRecordPremises g es t ps d → AreRecordPremises h fs t ps d)
      → IsWellFormedContext h → ByTypeRule r s g e t ps d → ByTypeRule r s h f t ps d
  rule_alike d TypeRule.Sub (Some q) i t (typing_first p no_typings) fields wh x = (tree_alike d p i wh x.0, x.1)
  rule_alike d TypeRule.True None both_true t no_typings fields wh x = x
  rule_alike d TypeRule.False None both_false t no_typings fields wh x = x
  rule_alike d TypeRule.Unit None both_unit t no_typings fields wh x = x
  rule_alike d TypeRule.Num None both_numeral t no_typings fields wh x = x
  rule_alike {g = g} {h = h} d TypeRule.Var None (both_variable {n = n} {m = m} same) t no_typings fields wh x = entry_alike g h n m t same x
  rule_alike d TypeRule.If None (both_if i j k) t (typing_first p (typing_first q (typing_first r no_typings))) fields wh x =
      (tree_alike d p i wh x.0, x.1, tree_alike d q j wh x.2, x.3, tree_alike d r k wh x.4, x.5)
  rule_alike d TypeRule.Succ None (both_succ i) t (typing_first p no_typings) fields wh x = (tree_alike d p i wh x.0, x.1, x.2)
  rule_alike d TypeRule.Pred None (both_pred i) t (typing_first p no_typings) fields wh x = (tree_alike d p i wh x.0, x.1, x.2)
  rule_alike d TypeRule.IsZero None (both_is_zero i) t (typing_first p no_typings) fields wh x = (tree_alike d p i wh x.0, x.1, x.2)
  rule_alike {g = g} d TypeRule.Abs None (both_lambda {w = Some u} {e = e} i) t (typing_first p no_typings) fields wh x =
      (tree_alike d p i ((context_wf p (Some u ∷ g) e d x.0).0, wh) x.0, x.1)
  rule_alike d TypeRule.App None (both_apply i j) t (typing_first p (typing_first q no_typings)) fields wh x =
      (tree_alike d p i wh x.0, tree_alike d q j wh x.1, x.2)
  rule_alike d TypeRule.Ascribe None (both_ascribe {w = Some u} i) t (typing_first p no_typings) fields wh x = (tree_alike d p i wh x.0, x.1, x.2)
  rule_alike {g = g} d TypeRule.Let None (both_let {b = b} i j) t (typing_first p (typing_first q no_typings)) fields wh x =
      (tree_alike d p i wh x.0, tree_alike d q (j _) ((context_wf q _ b d x.1).0, wh) x.1, x.2)
  rule_alike d TypeRule.Rcd None (both_record {es = es} {fs = fs} is) t ps fields wh x = fields es fs is x
  rule_alike d TypeRule.Proj None (both_project i) t (typing_first p no_typings) fields wh x = (tree_alike d p i wh x.0, x.1)
  rule_alike d TypeRule.Fix None (both_fix i) t (typing_first p no_typings) fields wh x = (tree_alike d p i wh x.0, x.1)
  rule_alike _ _ _ _ _ _ fields wh x = absurd x

  trees_alike : {g h : Context} {es fs : TermFields} (d : Dialect) (ps : TypingTrees) (t : Typ)
      → FieldsAlike g es h fs → IsWellFormedContext h → AreRecordPremises g es t ps d → AreRecordPremises h fs t ps d
  trees_alike d no_typings (record_of no_fields) both_none wh x = tt
  trees_alike d (typing_first p ps) (record_of (field l t ts)) (both_more i is) wh x = (x.0, tree_alike d p i wh x.1, x.2, trees_alike d ps (record_of ts) is wh x.3)
  trees_alike d (typing_first p ps) (record_of no_fields) both_none wh x = absurd x
  trees_alike d no_typings (record_of (field l t ts)) (both_more i is) wh x = absurd x
  trees_alike _ _ _ both_none wh x = absurd x
  trees_alike _ _ _ (both_more i is) wh x = absurd x

pub alike_typing : (g h : Context) (e f : Term) (p : TypingTree) (d : Dialect) → AreAlike g e h f → IsWellFormedContext h → IsTyping g e p d → IsTyping h f p d
alike_typing g h e f p d are wh x = tree_alike d p (alike g e h f are) wh x
