-- What is found for a statement in the scope of one context is found for an alike one in the scope of another.
use Rattle.std.proofs.Common.{ℕ, List, [], ◌∷◌, ◌++◌, append-nil, Option, Some, None, refl, sym, subst, ◌∙◌}
use Rattle.lam_rules.specs.Types.{Typ}
use Rattle.lam_rules.specs.Terms.{Term}
use Rattle.lam_rules.specs.Typing.{Context, IsWellFormedEntry, IsWellFormedContext}
use Rattle.lam_rules.specs.declared.rules.Dialect.{Dialect}
use Rattle.lam_scope.specs.Places.{Scope, Place, places, Statement, defines, declares, abbreviates, states, places_of}
use Rattle.lam_scope.specs.WellFormed.{IsWellFormedTerm, IsWellFormedStatement}
use Rattle.lam_scope.specs.Alike.{AreAlike, AreAlikeStatements}
use Rattle.lam_typing.specs.Binds.{BindsEntry, scope_with, context_with}
use Rattle.lam_typing.specs.Blaming.{Blamed}
use Rattle.lam_typing.specs.Progress.{IsLowest, Shown, Cause, ShownFront}
use Rattle.lam_typing.specs.WrittenScopes.{scope_of_entries}
use Rattle.lam_typing.proofs.AlikeTerms.{alike, alike_symmetric, alike_wf}
use Rattle.lam_typing.proofs.AlikeBlames.{least_by_free_names, shown_by_free_names, stopped_by_free_names}
use Rattle.lam_typing.proofs.LeastIn.{lowest, lowest_written, lowest_some, lowest_none, least_in}

-- a context is the lowest one of the scope in which its entries are written
pub lowest_of_entries : (h : Context) (d : Dialect) → IsWellFormedContext h → IsLowest (scope_of_entries h) h d
lowest_of_entries [] d wf = lowest [] [] d tt tt
lowest_of_entries (entry ∷ h) d wf = lowest_written entry (scope_of_entries h) entry h d wf.0 refl (lowest_of_entries h d wf.1)

-- a lowest context is still one with the binder of a statement added
pub lowest_with : (s : Scope) (g : Context) (a : Statement) (entry : Option Typ) (d : Dialect) → IsWellFormedStatement a
    → IsLowest s g d → BindsEntry s a entry d → IsLowest (scope_with s a) (context_with g a entry) d
lowest_with s g (defines e) (Some t) d wf low binds = lowest_some e s t g d (least_in s g e (Some t) d low binds) low
lowest_with s g (defines e) None d wf low binds = lowest_none e s g d (least_in s g e None d low binds) low
lowest_with s g (declares w) entry d wf low binds = lowest_written w s entry g d wf binds low
lowest_with s g (abbreviates w) entry d wf low binds = low
lowest_with s g (states e) entry d wf low binds = low

-- the same types are written in both
alike_statement_wf : (g : Context) (a : Statement) (h : Context) (b : Statement) → AreAlikeStatements g a h b → IsWellFormedStatement a → IsWellFormedStatement b
alike_statement_wf g (defines e) h (defines f) are wf = alike_wf (alike g e h f are) wf
alike_statement_wf g (declares w) h (declares u) are wf = subst IsWellFormedEntry are wf
alike_statement_wf g (abbreviates w) h (abbreviates u) are wf = subst IsWellFormedEntry are wf
alike_statement_wf g (states e) h (states f) are wf = alike_wf (alike g e h f are) wf
alike_statement_wf g _ h _ are wf = absurd are

-- A claim holds of the places of a statement if it holds of those of an alike one, provided that it carries over from term to term.
module _ (s r : Scope) (g h : Context) (Claim : List Place → Type 0)
    (carry : (e f : Term) → AreAlike g e h f → IsWellFormedTerm f → Claim (places r f) → Claim (places s e)) where
  carry_term : (e f : Term) → AreAlike g e h f → IsWellFormedTerm f → Claim (places r f ++ []) → Claim (places s e ++ [])
  carry_term e f are wf claim = subst Claim (sym (append-nil (places s e))) (carry e f are wf (subst Claim (append-nil (places r f)) claim))

  carry_statement : (a b : Statement) → AreAlikeStatements g a h b → IsWellFormedStatement b → Claim (places_of r (b ∷ [])) → Claim (places_of s (a ∷ []))
  carry_statement (defines e) (defines f) are wf claim = carry_term e f are wf claim
  carry_statement (declares w) (declares u) are wf claim = claim
  carry_statement (abbreviates w) (abbreviates u) are wf claim = claim
  carry_statement (states e) (states f) are wf claim = carry_term e f are wf claim
  carry_statement _ _ are wf claim = absurd are

-- statements that say the same, in scopes with these lowest contexts
module _ (s r : Scope) (g h : Context) (d : Dialect) (ls : IsLowest s g d) (lr : IsLowest r h d) (a b : Statement) (are : AreAlikeStatements g a h b) where
  pub statement_shown : (n : ℕ) (found : List (Option Typ)) (blames : List Blamed) → IsWellFormedStatement a
      → Shown (places_of r (b ∷ [])) n found blames d → Shown (places_of s (a ∷ [])) n found blames d
  statement_shown n found blames wf shown =
      carry_statement s r g h (λ ps. Shown ps n found blames d)
      (λ e f is we one. shown_by_free_names r s h g f e d lr ls (alike_symmetric g h e f is) n found blames we one)
      a b are (alike_statement_wf g a h b are wf) shown

  pub statement_stopped : (n : ℕ) (found : List (Option Typ)) (blames : List Blamed) (cause : Cause) → IsWellFormedStatement a
      → ShownFront (places_of r (b ∷ [])) n found blames cause d → ShownFront (places_of s (a ∷ [])) n found blames cause d
  statement_stopped n found blames cause wf stopped =
      carry_statement s r g h (λ ps. ShownFront ps n found blames cause d)
      (λ e f is we one. stopped_by_free_names r s h g f e d lr ls (alike_symmetric g h e f is) n found blames cause we one)
      a b are (alike_statement_wf g a h b are wf) stopped

-- they bind the same entry
pub statement_binds : (s r : Scope) (g h : Context) (d : Dialect) → IsLowest s g d → IsLowest r h d → (a b : Statement) (entry : Option Typ)
    → AreAlikeStatements g a h b → BindsEntry r b entry d → BindsEntry s a entry d
statement_binds s r g h d ls lr (defines e) (defines f) entry are binds = least_by_free_names r s h g f e d lr ls (alike_symmetric g h e f are) entry binds
statement_binds s r g h d ls lr (declares w) (declares u) entry are binds = binds ∙ sym are
statement_binds s r g h d ls lr (abbreviates w) (abbreviates u) entry are binds = binds
statement_binds s r g h d ls lr (states e) (states f) entry are binds = binds
statement_binds s r g h d ls lr _ _ entry are binds = absurd are
