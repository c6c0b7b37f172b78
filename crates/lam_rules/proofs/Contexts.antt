-- A context that is given from the outermost binder to the innermost.
use Rattle.std.proofs.Common.{◌≡◌, ℕ, ◌+◌, ◌-◌, ◌<◌, ◌≤◌, ◌↔◌, List, [], ◌∷◌, ◌++◌, Option, Some, length, drop, get_or, ap, sym, refl, drop-cons, add-one, zero, suc, arith}
use Rattle.std.proofs.lemmas.List.{length-append}
use Rattle.lam_rules.specs.Types.{Typ}
use Rattle.lam_rules.specs.TermViews.{written_of}
use Rattle.lam_rules.specs.Typing.{Context, IsEntry, IsWellFormedEntry, IsWellFormedContext}
use Rattle.lam_rules.specs.TypingViews.{context_of}
use Rattle.lam_rules.specs.declared.types.Ty.{Ty}

pub context_of-drop : (xs : List (Option Ty)) (i : ℕ) (x : Option Ty) → i < length xs → x ≡ get_or xs i x
    → context_of (drop i xs) ≡ context_of (drop (i + 1) xs) ++ written_of x ∷ []
context_of-drop xs i x lt is = rw add-one (rw (drop-cons xs i x lt) (ap (λ y. context_of (drop (suc i) xs) ++ written_of y ∷ []) (sym is)))

pub wf_more : (g : Context) (o : Option Typ) → IsWellFormedContext (g ++ o ∷ []) ↔ (IsWellFormedEntry o × IsWellFormedContext g)
wf_more [] o = (λ h. (h.0, tt), λ h. (h.0, tt))
wf_more (p ∷ g) o = (λ h. let k = (wf_more g o).0 h.1 in (k.0, (h.0, k.1)), λ h. (h.1.0, (wf_more g o).1 (h.0, h.1.1)))

-- one more entry of a context that is given
pub wf_drop : (xs : List (Option Ty)) (i : ℕ) (x : Option Ty) → i < length xs → x ≡ get_or xs i x
    → IsWellFormedContext (context_of (drop i xs)) ↔ (IsWellFormedEntry (written_of x) × IsWellFormedContext (context_of (drop (i + 1) xs)))
wf_drop xs i x lt is = rw (context_of-drop xs i x lt is) (wf_more (context_of (drop (i + 1) xs)) (written_of x))

length-context_of : (xs : List (Option Ty)) → length (context_of xs) ≡ length xs
length-context_of [] = refl
length-context_of (x ∷ xs) = let e = length-context_of xs in let a = length-append (context_of xs) (written_of x ∷ []) in omega arith

entry_within : (n : ℕ) (g : Context) (t : Typ) → IsEntry n g t → n < length g
entry_within n [] t h = absurd h
entry_within zero (o ∷ g) t h = omega arith
entry_within (suc n) (o ∷ g) t h = let k = entry_within n g t h in omega arith

pub given_within : (xs : List (Option Ty)) (n : ℕ) (t : Typ) → length xs ≤ n → IsEntry n (context_of xs) t → ⊥
given_within xs n t le h = let k = entry_within n (context_of xs) t h in let e = length-context_of xs in absurd (omega arith)

entry_before : (n : ℕ) (g h : Context) (t : Typ) → n < length g → IsEntry n (g ++ h) t ↔ IsEntry n g t
entry_before n [] h t lt = absurd (omega arith)
entry_before zero (o ∷ g) h t lt = (λ e. e, λ e. e)
entry_before (suc n) (o ∷ g) h t lt = entry_before n g h t (omega arith)

entry_last : (n : ℕ) (g : Context) (o : Option Typ) (t : Typ) → n ≡ length g → IsEntry n (g ++ o ∷ []) t ↔ (o ≡ Some t)
entry_last zero [] o t e = (λ h. h, λ h. h)
entry_last (suc n) [] o t e = absurd (omega arith)
entry_last zero (p ∷ g) o t e = absurd (omega arith)
entry_last (suc n) (p ∷ g) o t e = entry_last n g o t (omega arith)

given_at : (xs : List (Option Ty)) (k n : ℕ) (x : Option Ty) (t : Typ) → k + n + 1 ≡ length xs → x ≡ get_or xs k x
    → IsEntry n (context_of xs) t ↔ (written_of x ≡ Some t)
given_at [] k n x t e is = absurd (omega arith)
given_at (o ∷ xs) zero n x t e is =
    let c = length-context_of xs in
    rw is (entry_last n (context_of xs) (written_of o) t (omega arith))
given_at (o ∷ xs) (suc k) n x t e is =
    let c = length-context_of xs in
    let b = entry_before n (context_of xs) (written_of o ∷ []) t (omega arith) in
    let r = given_at xs k n x t (omega arith) is in
    (λ h. r.0 (b.0 h), λ h. b.1 (r.1 h))

pub given_entry : (xs : List (Option Ty)) (n : ℕ) (x : Option Ty) (t : Typ) → n < length xs → x ≡ get_or xs (length xs - 1 - n) x
    → IsEntry n (context_of xs) t ↔ (written_of x ≡ Some t)
given_entry xs n x t lt is = given_at xs (length xs - 1 - n) n x t (omega arith) is

pub ruleset contexts = (context_of-drop, wf_more, given_within, given_entry)
