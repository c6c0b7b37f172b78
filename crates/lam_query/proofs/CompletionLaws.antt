-- Each offset of a text has one list of completions.
use Rattle.std.proofs.Common.{◌≡◌, ◌⊎◌, ℕ, List, [], Option, Some, None, inl, inr, refl, sym, ap, subst, ◌∙◌}
use Rattle.lam_token.specs.Lexeme.{Lexeme, start_of}
use Rattle.lam_token.specs.Cut.{AreTokensOf}
use Rattle.lam_token.proofs.Cuts.{one_list}
use Rattle.lam_token.proofs.SomeCut.{tokens_at, are_tokens_at}
use Rattle.lam_rules.specs.Types.{Label}
use Rattle.lam_rules.specs.declared.rules.Dialect.{Dialect}
use Rattle.lam_syntax.specs.Trees.{CommandTree}
use Rattle.lam_syntax.specs.Answers.{pieces_of}
use Rattle.lam_scope.specs.Labels.{labelled, place_in}
use Rattle.lam_scope.specs.PlacedTerms.{variable_at, projection_at}
use Rattle.lam_scope.proofs.FreeLabels.{same_number}
use Rattle.lam_typing.specs.LeastTypes.{IsLeastAt}
use Rattle.lam_typing.proofs.Existing.{exists_at}
use Rattle.lam_query.specs.Commands.{AreCommandsOf, AreCommandsOfText}
use Rattle.lam_query.specs.Completions.{touched_word, dot_before, with_label, IsProjected, IsSmallUpTo, Item, IsOnVariable, AreNames, AreItems, labels, too_large, names, nothing, AreCompletions}
use Rattle.lam_query.specs.inner.Listed.{fields, too_large as listed_too_large}
use Rattle.lam_query.specs.Sizes.{IsSmall}
use Rattle.lam_query.proofs.FoundFields.{fields_found}
use Rattle.lam_query.proofs.LabelledTokens.{label_changed}
use Rattle.lam_query.proofs.NamesInSight.{one_list_of_names, one_list_of_labels, some_names}
use Rattle.lam_query.proofs.OneAnswer.{one_document}
use Rattle.lam_query.proofs.PieceLaws.{some_commands}
use Rattle.lam_query.proofs.Projected.{one_label, none_projected, small_in, small_out, projected, projection, items_listed, none_listed}
use Rattle.lam_query.proofs.SizeLaws.{small_or_not, small_up_to_or_not}
use Rattle.lam_query.proofs.SomeAnswers.{number_wf}

-- ---- at most one list

-- a projection's dot with one label is one with any other
pub projected_with_other : (text : List ℕ) (tokens : List Lexeme) (o : ℕ) (l m : Label) → AreTokensOf text tokens → IsProjected tokens o l → IsProjected tokens o m
projected_with_other text tokens o l m are h =
    let t = h.dot in
    let cs = labelled (start_of t) one_label h.commands in
    let reading = label_changed text tokens o t l one_label h.commands are h.is_before h.are_commands in
    let there : projection_at (start_of t) cs ≡ Some h.number = same_number h.commands (start_of t) one_label ∙ h.there in
    projected text tokens o t are h.is_before cs reading h.number there m

-- what is small up to the projection with one label is so with any other
pub small_with_other : (text : List ℕ) (tokens : List Lexeme) (o : ℕ) (l m : Label) (h : IsProjected tokens o l) (k : IsProjected tokens o m) (d : Dialect) → AreTokensOf text tokens
    → IsSmallUpTo h.commands h.number d → IsSmallUpTo k.commands k.number d
small_with_other text tokens o l m h k d are small =
    let t = h.dot in
    let cs = labelled (start_of t) one_label h.commands in
    let reading = label_changed text tokens o t l one_label h.commands are h.is_before h.are_commands in
    let there : projection_at (start_of t) cs ≡ Some h.number = same_number h.commands (start_of t) one_label ∙ h.there in
    small_in text tokens o t are h.is_before cs reading h.number there m k d (small_out text tokens o t are h.is_before cs reading h.number there l h d small)

one_variable : (commands : List CommandTree) (tokens : List Lexeme) (o n m : ℕ) → IsOnVariable commands tokens o n → IsOnVariable commands tokens o m → n ≡ m
one_variable commands tokens o n m h k =
    let words : Some h.word ≡ Some k.word = sym h.touches ∙ k.touches in
    let word : h.word ≡ k.word = cc in
    let both : Some n ≡ Some m = sym h.there ∙ ap (λ w. variable_at (start_of w) commands) word ∙ k.there in
    cc

one_listed : (text : List ℕ) (tokens : List Lexeme) (commands : List CommandTree) (o : ℕ) (items others : List Item) (d : Dialect) → AreTokensOf text tokens
    → AreItems commands tokens o items d → AreItems commands tokens o others d → items ≡ others
one_listed text tokens commands o items others d are (labels l h small up_to told) (labels m k small' up_to' told') = one_list_of_labels tokens o items others d told told'
one_listed text tokens commands o items _ d are (labels l h small up_to told) (too_large m k large) = absurd (large small (small_with_other text tokens o l m h k d are up_to))
one_listed text tokens commands o items others d are (labels l h small up_to told) (names n none on told') = absurd (none l h)
one_listed text tokens commands o items _ d are (labels l h small up_to told) (nothing none off) = absurd (none l h)
one_listed text tokens commands o _ others d are (too_large l h large) (labels m k small up_to told) = absurd (large small (small_with_other text tokens o m l k h d are up_to))
one_listed text tokens commands o _ _ d are (too_large l h large) (too_large m k large') = refl
one_listed text tokens commands o _ others d are (too_large l h large) (names n none on told) = absurd (none l h)
one_listed text tokens commands o _ _ d are (too_large l h large) (nothing none off) = absurd (none l h)
one_listed text tokens commands o items others d are (names n none on told) (labels m k small up_to told') = absurd (none m k)
one_listed text tokens commands o items _ d are (names n none on told) (too_large m k large) = absurd (none m k)
one_listed text tokens commands o items others d are (names n none on told) (names m none' on' told') =
    one_list_of_names commands n items others d told (subst (λ k. AreNames commands k others d) (sym (one_variable commands tokens o n m on on')) told')
one_listed text tokens commands o items _ d are (names n none on told) (nothing none' off) = absurd (off n on)
one_listed text tokens commands o _ others d are (nothing none off) (labels m k small up_to told) = absurd (none m k)
one_listed text tokens commands o _ _ d are (nothing none off) (too_large m k large) = absurd (none m k)
one_listed text tokens commands o _ others d are (nothing none off) (names n none' on told) = absurd (off n on)
one_listed text tokens commands o _ _ d are (nothing none off) (nothing none' off') = refl

pub one_list_of_completions : (text : List ℕ) (o : ℕ) (items others : List Item) (d : Dialect) → AreCompletions text o items d → AreCompletions text o others d → items ≡ others
one_list_of_completions text o items others d h k =
    let tokens = one_list text h.tokens k.tokens h.are_tokens k.are_tokens in
    let own : AreCommandsOfText text h.commands = record { tokens = h.tokens; are_tokens = h.are_tokens; are_commands = h.are_commands } in
    let other : AreCommandsOfText text k.commands = record { tokens = k.tokens; are_tokens = k.are_tokens; are_commands = k.are_commands } in
    let commands = one_document text k.commands h.commands other own in
    let there = subst (λ ts. AreItems k.commands ts o others d) tokens k.listed in
    one_listed text h.tokens h.commands o items others d h.are_tokens h.listed (subst (λ cs. AreItems cs h.tokens o others d) commands there)

-- ---- some list

module _ (text : List ℕ) (tokens : List Lexeme) (commands : List CommandTree) (o : ℕ) (d : Dialect) (are : AreTokensOf text tokens) where
  abbrev SomeItems : Type 0
  SomeItems = (items : List Item) × AreItems commands tokens o items d

  -- where no label can stand, the names in sight or nothing
  names_or_nothing : ((l : Label) → IsProjected tokens o l → ⊥) → SomeItems
  names_or_nothing none = by_word (touched_word o tokens) refl
    where
      off_word : touched_word o tokens ≡ None → (n : ℕ) → IsOnVariable commands tokens o n → ⊥
      off_word off n h = let clash : None ≡ Some h.word = sym off ∙ h.touches in absurd cc

      by_number : (w : Lexeme) → touched_word o tokens ≡ Some w → (found : Option ℕ) → variable_at (start_of w) commands ≡ found → SomeItems
      by_number w touches (Some n) there = let told = some_names commands n d in (told.0, names n none (record { word = w; touches = touches; there = there }) told.1)
      by_number w touches None nowhere = (
        [],
        nothing none (λ n h.
            let words : Some w ≡ Some h.word = sym touches ∙ h.touches in
            let word : w ≡ h.word = cc in
            let clash : None ≡ Some n = sym nowhere ∙ ap (λ v. variable_at (start_of v) commands) word ∙ h.there in
            absurd cc),
      )

      by_word : (found : Option Lexeme) → touched_word o tokens ≡ found → SomeItems
      by_word None off = ([], nothing none (off_word off))
      by_word (Some w) touches = by_number w touches (variable_at (start_of w) commands) refl

  -- the labels of this projection
  labels_of : (t : Lexeme) (before : dot_before o tokens ≡ Some t) (cs : List CommandTree) (reading : AreCommandsOf (pieces_of (with_label o t one_label tokens)) cs) (n : ℕ)
      → projection_at (start_of t) cs ≡ Some n → SomeItems
  labels_of t before cs reading n there = by_size (small_or_not commands d)
    where
      by_front : IsSmall commands d → IsSmallUpTo cs n d ⊎ (IsSmallUpTo cs n d → ⊥) → SomeItems
      by_front small (inl up_to) =
          let p = projection text tokens o t are before cs reading n there in
          let wf = number_wf cs p.before in
          let least = exists_at d (place_in cs p.before).scope (place_in cs p.before).here wf.0 wf.1 in
          let operand = subst (λ q. IsLeastAt q.scope q.here least.0 d) p.operand_there least.1 in
          let found = fields_found p d least.0 operand in
          (_, items_listed text tokens o t are before cs reading n there commands _ d small (fields p up_to found))
      by_front small (inr large) = ([], items_listed text tokens o t are before cs reading n there commands [] d small (listed_too_large large))

      by_size : IsSmall commands d ⊎ (IsSmall commands d → ⊥) → SomeItems
      by_size (inl small) = by_front small (small_up_to_or_not cs n d)
      by_size (inr large) = ([], none_listed text tokens o t are before cs reading n there commands d large)

  some_listed : SomeItems
  some_listed = by_dot (dot_before o tokens) refl
    where
      by_projection : (t : Lexeme) (before : dot_before o tokens ≡ Some t) (cs : List CommandTree) (reading : AreCommandsOf (pieces_of (with_label o t one_label tokens)) cs)
          → (found : Option ℕ) → projection_at (start_of t) cs ≡ found → SomeItems
      by_projection t before cs reading (Some n) there = labels_of t before cs reading n there
      by_projection t before cs reading None nowhere = names_or_nothing (none_projected text tokens o t are before cs reading nowhere)

      by_dot : (found : Option Lexeme) → dot_before o tokens ≡ found → SomeItems
      by_dot None none = names_or_nothing (λ l h. let clash : None ≡ Some h.dot = sym none ∙ h.is_before in absurd cc)
      by_dot (Some t) before =
          let cs = some_commands (pieces_of (with_label o t one_label tokens)) in
          by_projection t before cs.0 cs.1 (projection_at (start_of t) cs.0) refl

pub some_completions : (text : List ℕ) (o : ℕ) (d : Dialect) → (items : List Item) × AreCompletions text o items d
some_completions text o d =
    let tokens = tokens_at 0 text in
    let are = are_tokens_at 0 text in
    let commands = some_commands (pieces_of tokens) in
    let listed = some_listed text tokens commands.0 o d are in
    (listed.0, record { tokens = tokens; are_tokens = are; commands = commands.0; are_commands = commands.1; listed = listed.1 })
