-- Two lists of fields with distinct labels are permutations of each other exactly if each includes the other.
use Rattle.std.proofs.Common.{◌≡◌, ◌≢◌, ◌⊎◌, ◌↔◌, ap, sym, refl, inl, inr}
use Rattle.lam_rules.specs.Types.{Label, Typ, Fields, no_fields, field, joined, IsAbsent, AreWellFormed, Has, Includes}
use Rattle.lam_rules.specs.Subtyping.{IsPermutation}

-- inclusion, said of each field
pub includes_each : (fs gs : Fields) → Includes fs gs → (l : Label) (t : Typ) → Has l t fs → Has l t gs
includes_each no_fields gs h l t has = absurd has
includes_each (field k u rest) gs h l t (inl e) = rw (sym e.0, sym e.1) h.0
includes_each (field k u rest) gs h l t (inr has) = includes_each rest gs h.1 l t has

pub includes_from : (fs gs : Fields) → ((l : Label) (t : Typ) → Has l t fs → Has l t gs) → Includes fs gs
includes_from no_fields gs each = tt
includes_from (field k u rest) gs each = (each k u (inl (refl, refl)), includes_from rest gs (λ l t has. each l t (inr has)))

-- one field among others
has_split : (l : Label) (t : Typ) (gs : Fields) → Has l t gs → (before : Fields) × (after : Fields) × (gs ≡ joined before (field l t after))
has_split l t no_fields has = absurd has
has_split l t (field k u rest) (inl e) = (no_fields, rest, rw (e.0, e.1))
has_split l t (field k u rest) (inr has) =
    let found = has_split l t rest has in
    (field k u found.0, found.1, ap (λ r. field k u r) found.2)

has_there : (before : Fields) (l : Label) (t : Typ) (after : Fields) → Has l t (joined before (field l t after))
has_there no_fields l t after = inl (refl, refl)
has_there (field k u rest) l t after = inr (has_there rest l t after)

has_more : (before : Fields) (k : Label) (u : Typ) (after : Fields) (l : Label) (t : Typ) → Has l t (joined before after) → Has l t (joined before (field k u after))
has_more no_fields k u after l t has = inr has
has_more (field j s rest) k u after l t (inl e) = inl e
has_more (field j s rest) k u after l t (inr has) = inr (has_more rest k u after l t has)

has_or : (before : Fields) (k : Label) (u : Typ) (after : Fields) (l : Label) (t : Typ) → Has l t (joined before (field k u after)) → ((k ≡ l) × (u ≡ t)) ⊎ Has l t (joined before after)
has_or no_fields k u after l t has = has
has_or (field j s rest) k u after l t (inl e) = inr (inl e)
has_or (field j s rest) k u after l t (inr has) = further (has_or rest k u after l t has)
  where
    further : ((k ≡ l) × (u ≡ t)) ⊎ Has l t (joined rest after) → ((k ≡ l) × (u ≡ t)) ⊎ Has l t (joined (field j s rest) after)
    further (inl e) = inl e
    further (inr h) = inr (inr h)

-- a label that is absent is still absent without one of the fields, and distinct labels are still distinct
absent_without : (m : Label) (before : Fields) (k : Label) (u : Typ) (after : Fields) → IsAbsent m (joined before (field k u after)) → IsAbsent m (joined before after)
absent_without m no_fields k u after absent = absent.1
absent_without m (field j s rest) k u after absent = (absent.0, absent_without m rest k u after absent.1)

wf_without : (before : Fields) (k : Label) (u : Typ) (after : Fields) → AreWellFormed (joined before (field k u after)) → AreWellFormed (joined before after)
wf_without no_fields k u after wf = wf.2
wf_without (field j s rest) k u after wf = (wf.0, absent_without j rest k u after wf.1, wf_without rest k u after wf.2)

absent_there : (m : Label) (before : Fields) (k : Label) (u : Typ) (after : Fields) → IsAbsent m (joined before (field k u after)) → m ≢ k
absent_there m no_fields k u after absent = absent.0
absent_there m (field j s rest) k u after absent = absent_there m rest k u after absent.1

absent_alone : (before : Fields) (k : Label) (u : Typ) (after : Fields) → AreWellFormed (joined before (field k u after)) → IsAbsent k (joined before after)
absent_alone no_fields k u after wf = wf.1
absent_alone (field j s rest) k u after wf = (λ e. absent_there j rest k u after wf.1 (sym e), absent_alone rest k u after wf.2)

pub absent_not : (k : Label) (fs : Fields) (t : Typ) → IsAbsent k fs → Has k t fs → ⊥
absent_not k no_fields t absent has = has
absent_not k (field j s rest) t absent (inl e) = absent.0 (sym e.0)
absent_not k (field j s rest) t absent (inr has) = absent_not k rest t absent.1 has

-- a permutation has the same fields, both ways
pub permutation_has : (fs gs : Fields) → IsPermutation fs gs → (l : Label) (t : Typ) → Has l t fs → Has l t gs
permutation_has no_fields gs p l t has = absurd has
permutation_has (field k u rest) gs (before, after, e, p) l t (inl s) = rw (e, sym s.0, sym s.1) (has_there before k u after)
permutation_has (field k u rest) gs (before, after, e, p) l t (inr has) =
    rw e (has_more before k u after l t (permutation_has rest (joined before after) p l t has))

pub permutation_has_back : (fs gs : Fields) → IsPermutation fs gs → (l : Label) (t : Typ) → Has l t gs → Has l t fs
permutation_has_back no_fields gs p l t has = rw p at has
permutation_has_back (field k u rest) gs (before, after, e, p) l t has = back (has_or before k u after l t (rw e at has)) (permutation_has_back rest (joined before after) p l t)
  where
    back : ((k ≡ l) × (u ≡ t)) ⊎ Has l t (joined before after) → (Has l t (joined before after) → Has l t rest) → Has l t (field k u rest)
    back (inl s) further = inl s
    back (inr h) further = inr (further h)

permutation_of : (fs gs : Fields) → AreWellFormed fs → AreWellFormed gs
    → ((l : Label) (t : Typ) → Has l t fs → Has l t gs) → ((l : Label) (t : Typ) → Has l t gs → Has l t fs) → IsPermutation fs gs
permutation_of no_fields no_fields wf wg there back = refl
permutation_of no_fields (field k u rest) wf wg there back = absurd (back k u (inl (refl, refl)))
permutation_of (field k u rest) gs wf wg there back =
    let found = has_split k u gs (there k u (inl (refl, refl))) in
    let wg' = rw found.2 at wg in (
      found.0,
      found.1,
      found.2,
      permutation_of rest (joined found.0 found.1) wf.2 (wf_without found.0 k u found.1 wg')
          (λ l t has. kept found.0 found.1 l t (has_or found.0 k u found.1 l t (let h : Has l t gs = there l t (inr has) in rw found.2 at h)) has)
          (λ l t has. left found.0 found.1 (absent_alone found.0 k u found.1 wg') l t has (back l t (rw found.2 (has_more found.0 k u found.1 l t has)))),
    )
  where
    kept : (before after : Fields) (l : Label) (t : Typ) → ((k ≡ l) × (u ≡ t)) ⊎ Has l t (joined before after) → Has l t rest → Has l t (joined before after)
    kept before after l t (inl e) has = absurd (absent_not k rest t wf.1 (rw (sym e.0) at has))
    kept before after l t (inr h) has = h

    left : (before after : Fields) → IsAbsent k (joined before after) → (l : Label) (t : Typ) → Has l t (joined before after) → ((k ≡ l) × (u ≡ t)) ⊎ Has l t rest → Has l t rest
    left before after absent l t has (inl e) = absurd (absent_not k (joined before after) t absent (rw (sym e.0) at has))
    left before after absent l t has (inr h) = h

pub permutation_iff : (fs gs : Fields) → AreWellFormed fs → AreWellFormed gs → (Includes fs gs × Includes gs fs) ↔ IsPermutation fs gs
permutation_iff fs gs wf wg = (
  λ both. permutation_of fs gs wf wg (includes_each fs gs both.0) (includes_each gs fs both.1),
  λ p. (includes_from fs gs (permutation_has fs gs p), includes_from gs fs (permutation_has_back fs gs p)),
)

pub ruleset permutations = (permutation_iff)
