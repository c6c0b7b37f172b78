-- When two nameless terms are alike, each in its own context: they differ at most in their de Bruijn indices, and each variable of one has the same context entry as that
-- of the other.
use Rattle.std.specs.Prelude.{◌≡◌, ◌∷◌, Option, slice_get}
use Rattle.lam_rules.specs.Types.{Typ}
use Rattle.lam_rules.specs.Terms.{Term, true_term, false_term, if_then_else, numeral, succ, pred, is_zero, variable, free, lambda, apply, unit_term, ascribe, let_in, record_term, project, fix, TermFields, no_terms, term_field}
use Rattle.lam_rules.specs.Typing.{Context}
use Rattle.lam_scope.specs.Places.{Statement, defines, declares, abbreviates, states}

-- Two terms, each in its context. Variables have equal entries, or both are past all binders. The bodies of lets are alike whatever entry their binders have.
abbrev mutual
  pub AreAlike : Context → Term → Context → Term → Type 0
  AreAlike g true_term h true_term = Unit {0}
  AreAlike g false_term h false_term = Unit {0}
  AreAlike g unit_term h unit_term = Unit {0}
  AreAlike g (numeral digits) h (numeral others) = digits ≡ others
  AreAlike g (variable n) h (variable m) = slice_get g n ≡ slice_get h m
  AreAlike g (free x) h (free y) = x ≡ y
  AreAlike g (if_then_else a b c) h (if_then_else d e f) = AreAlike g a h d × AreAlike g b h e × AreAlike g c h f
  AreAlike g (succ a) h (succ b) = AreAlike g a h b
  AreAlike g (pred a) h (pred b) = AreAlike g a h b
  AreAlike g (is_zero a) h (is_zero b) = AreAlike g a h b
  AreAlike g (fix a) h (fix b) = AreAlike g a h b
  AreAlike g (lambda w a) h (lambda u b) = (w ≡ u) × AreAlike (w ∷ g) a (u ∷ h) b
  AreAlike g (apply a b) h (apply c d) = AreAlike g a h c × AreAlike g b h d
  AreAlike g (ascribe a w) h (ascribe b u) = AreAlike g a h b × (w ≡ u)
  AreAlike g (let_in a b) h (let_in c d) = AreAlike g a h c × ((entry : Option Typ) → AreAlike (entry ∷ g) b (entry ∷ h) d)
  AreAlike g (record_term es) h (record_term fs) = AreAlikeTerms g es h fs
  AreAlike g (project a l) h (project b k) = AreAlike g a h b × (l ≡ k)
  AreAlike g a h b = ⊥

  -- the terms of two records, one by one, under the same labels
  pub AreAlikeTerms : Context → TermFields → Context → TermFields → Type 0
  AreAlikeTerms g no_terms h no_terms = Unit {0}
  AreAlikeTerms g (term_field l a es) h (term_field k b fs) = (l ≡ k) × AreAlike g a h b × AreAlikeTerms g es h fs
  AreAlikeTerms g es h fs = ⊥

-- two statements are alike: of the same form, with terms alike or the same written type
abbrev pub AreAlikeStatements : Context → Statement → Context → Statement → Type 0
AreAlikeStatements g (defines a) h (defines b) = AreAlike g a h b
AreAlikeStatements g (declares w) h (declares u) = w ≡ u
AreAlikeStatements g (abbreviates w) h (abbreviates u) = w ≡ u
AreAlikeStatements g (states a) h (states b) = AreAlike g a h b
AreAlikeStatements g a h b = ⊥
