-- From the run to the answers of `parse`.
use Rattle.std.proofs.Common.{◌≡◌, ◌+◌, ◌-◌, ◌≤◌, ◌<◌, List, [], ◌∷◌, ◌++◌, length, take, sym, refl, ap, ◌∙◌, subst, append_assoc, arith, length-append}
use Rattle.std.proofs.lemmas.List.{append-nil, take_at}
use Rattle.lam_token.specs.Lexeme.{Lexeme}
use Rattle.lam_syntax.specs.Trees.{CommandTree}
use Rattle.lam_syntax.specs.Grammar.{Spells, Begins}
use Rattle.lam_syntax.specs.inner.Run.{need_command, fault, run}
use Rattle.lam_syntax.specs.Answers.{GoesWrongAt, EndsEarly}
use Rattle.lam_syntax.proofs.Complete.{complete}
use Rattle.lam_syntax.proofs.Wrong.{goes_wrong}

pub left_within : (ts left : List Lexeme) → run ts need_command ≡ fault left → length left ≤ length ts
left_within ts left h = let at = goes_wrong ts left h in omega (arith, ap length at.cut, length-append at.front left)

pub ends_early : (ts left : List Lexeme) → run ts need_command ≡ fault left → length left ≡ 0 → EndsEarly ts
ends_early ts [] h none =
    let at = goes_wrong ts [] h in
    let whole : at.front ≡ ts = sym (append-nil at.front) ∙ sym at.cut in
    record { begins = subst Begins whole at.begins; none = λ c spells. let read = complete spells in absurd cc }
ends_early ts (t ∷ left) h none = absurd (omega arith)

pub goes_wrong_at : (ts left : List Lexeme) → run ts need_command ≡ fault left → 0 < length left → GoesWrongAt ts (length ts - length left)
goes_wrong_at ts [] h some = absurd (omega arith)
goes_wrong_at ts (t ∷ left) h some =
    let at = goes_wrong ts (t ∷ left) h in
    let counted = ap length at.cut ∙ length-append at.front (t ∷ left) in
    let before : length ts - length (t ∷ left) ≡ length at.front = omega (arith, counted) in
    let cut' : ts ≡ (at.front ++ t ∷ []) ++ left = at.cut ∙ sym (append_assoc at.front (t ∷ []) left) in
    let through : length ts - length (t ∷ left) + 1 ≡ length (at.front ++ t ∷ []) = omega (arith, counted, length-append at.front (t ∷ [])) in
    record {
      inside = omega (arith, counted);
      before = subst Begins (sym (ap (take (length ts - length (t ∷ left))) at.cut ∙ take_at at.front (t ∷ left) _ (sym before))) at.begins;
      through = λ begins.
          let some_more = subst Begins (ap (take (length ts - length (t ∷ left) + 1)) cut' ∙ take_at (at.front ++ t ∷ []) left _ (sym through)) begins in
          at.none t left refl some_more.0 some_more.1 (subst (λ l. Spells l some_more.1) (append_assoc at.front (t ∷ []) some_more.0) some_more.2);
    }

-- what is spelled has no fault
pub not_both : (ts left : List Lexeme) (c : CommandTree) → Spells ts c → run ts need_command ≡ fault left → ⊥
not_both ts left c spells stops = let read = complete spells in absurd cc
