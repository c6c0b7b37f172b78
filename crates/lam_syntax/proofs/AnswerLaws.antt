-- Each list of tokens is a command, goes wrong at one place, or ends early, and no two of these.
use Rattle.std.proofs.Common.{◌≡◌, ◌⊎◌, ℕ, ◌+◌, ◌≤◌, ◌<◌, List, [], ◌∷◌, ◌++◌, take, drop, ⊎_elim, inl, inr, sym, refl, subst, append_assoc, arith}
use Rattle.std.proofs.lemmas.Bool.{cases_order}
use Rattle.std.proofs.lemmas.List.{append-nil, take-append-drop, take-take}
use Rattle.lam_token.specs.Lexeme.{Lexeme}
use Rattle.lam_syntax.specs.Trees.{CommandTree}
use Rattle.lam_syntax.specs.Grammar.{Spells, Begins}
use Rattle.lam_syntax.specs.inner.Run.{need_command, Outcome, tree, fault, run}
use Rattle.lam_syntax.specs.Answers.{GoesWrongAt, EndsEarly}
use Rattle.lam_syntax.proofs.Sound.{sound}
use Rattle.lam_syntax.proofs.Answer.{ends_early, goes_wrong_at}

-- ---- some answer

answered : (ts : List Lexeme) (o : Outcome) → run ts need_command ≡ o → ((c : CommandTree) × Spells ts c) ⊎ (((k : ℕ) × GoesWrongAt ts k) ⊎ EndsEarly ts)
answered ts (tree c) is = inl (c, sound ts c is)
answered ts (fault []) is = inr (inr (ends_early ts [] is refl))
answered ts (fault (t ∷ left)) is = inr (inl (_, goes_wrong_at ts (t ∷ left) is (omega arith)))

pub some_answer : (ts : List Lexeme) → ((c : CommandTree) × Spells ts c) ⊎ (((k : ℕ) × GoesWrongAt ts k) ⊎ EndsEarly ts)
some_answer ts = answered ts (run ts need_command) refl

-- ---- one answer

begins_front : (xs ys : List Lexeme) → Begins (xs ++ ys) → Begins xs
begins_front xs ys b = (ys ++ b.0, b.1, subst (λ l. Spells l b.1) (append_assoc xs ys b.0) b.2)

begins_taken : (n : ℕ) (ts : List Lexeme) → Begins ts → Begins (take n ts)
begins_taken n ts b = begins_front (take n ts) (drop n ts) (subst Begins (sym (take-append-drop n ts)) b)

begins_less : (m n : ℕ) (ts : List Lexeme) → m ≤ n → Begins (take n ts) → Begins (take m ts)
begins_less m n ts le b = subst Begins (take-take m n ts le) (begins_taken m (take n ts) b)

pub spelled_begins : (ts : List Lexeme) (c : CommandTree) → Spells ts c → Begins ts
spelled_begins ts c spells = ([], c, subst (λ l. Spells l c) (sym (append-nil ts)) spells)

pub not_wrong : (ts : List Lexeme) (k : ℕ) → Begins ts → GoesWrongAt ts k → ⊥
not_wrong ts k begins wrong = wrong.through (begins_taken (k + 1) ts begins)

not_later : (ts : List Lexeme) (j k : ℕ) → GoesWrongAt ts j → GoesWrongAt ts k → j < k → ⊥
not_later ts j k first other later = first.through (begins_less (j + 1) k ts (omega (arith, later)) other.before)

pub one_wrong_place : (ts : List Lexeme) (j k : ℕ) → GoesWrongAt ts j → GoesWrongAt ts k → j ≡ k
one_wrong_place ts j k first other =
    ⊎_elim (λ same. same)
    (λ apart. ⊎_elim (λ later. absurd (not_later ts j k first other later)) (λ sooner. absurd (not_later ts k j other first sooner)) apart)
    (cases_order j k)
