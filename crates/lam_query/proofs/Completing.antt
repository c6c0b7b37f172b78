-- What the steps of a completion on a variable find is what is listed.
use Rattle.std.proofs.Common.{◌≡◌, ℕ, List, [], Option, Some, None, refl, sym, ap, ◌∙◌}
use Rattle.std.specs.Option.{option_map}
use Rattle.lam_token.specs.Lexeme.{Lexeme, start_of}
use Rattle.lam_rules.specs.Types.{Label}
use Rattle.lam_rules.specs.declared.rules.Dialect.{Dialect}
use Rattle.lam_syntax.specs.Trees.{CommandTree}
use Rattle.lam_scope.specs.PlacedTerms.{variable_at}
use Rattle.lam_query.specs.Completions.{touched_word, IsProjected, Item, AreNames, AreItems, names, nothing}

-- a token that begins at a byte
pub begins : (found : Option Lexeme) (start : ℕ) → Some start ≡ option_map start_of found → (t : Lexeme) × (found ≡ Some t) × (start ≡ start_of t)
begins None start is = absurd cc
begins (Some t) start is = (t, refl, cc)

-- names in sight

module _ (tokens : List Lexeme) (commands : List CommandTree) (o : ℕ) (d : Dialect) (none : (l : Label) → IsProjected tokens o l → ⊥) where
  pub off_word : (found : Option ℕ) → found ≡ option_map start_of (touched_word o tokens) → found ≡ None → AreItems commands tokens o [] d
  off_word found told off =
      nothing none (λ n h. let clash : None ≡ Some (start_of h.word) = sym off ∙ told ∙ ap (option_map start_of) h.touches in absurd cc)

  pub off_variable : (start : ℕ) → Some start ≡ option_map start_of (touched_word o tokens) → variable_at start commands ≡ None → AreItems commands tokens o [] d
  off_variable start told off =
      nothing none (λ n h.
      let both : Some start ≡ Some (start_of h.word) = told ∙ ap (option_map start_of) h.touches in
      let same : start ≡ start_of h.word = cc in
      let clash : None ≡ Some n = sym off ∙ ap (λ p. variable_at p commands) same ∙ h.there in
      absurd cc)

  pub on_variable : (start n : ℕ) (items : List Item) → Some start ≡ option_map start_of (touched_word o tokens) → variable_at start commands ≡ Some n → AreNames commands n items d
      → AreItems commands tokens o items d
  on_variable start n items told there are_names =
      let w = begins (touched_word o tokens) start told in
      names n none (record { word = w.0; touches = w.1; there = ap (λ p. variable_at p commands) (sym w.2) ∙ there }) are_names
