-- How the steps of a walk go together: one part after the other, under a binder, and the term itself behind its parts.
use Rattle.std.proofs.Common.{◌≡◌, ℕ, ◌+◌, ◌<◌, List, [], ◌∷◌, ◌++◌, length, Option, Some, None, Bool, true, false, IsTrue, ap, refl, sym, subst, ◌∙◌, inl, inr, append_assoc, arith}
use Rattle.std.proofs.lemmas.List.{length-append, append-nil}
use Rattle.lam_rules.specs.Types.{Typ, nodes}
use Rattle.lam_rules.specs.Terms.{Term}
use Rattle.lam_rules.specs.Texts.{Text}
use Rattle.lam_rules.specs.Typing.{Context}
use Rattle.lam_rules.specs.declared.rules.Dialect.{Dialect}
use Rattle.lam_scope.specs.Expansions.{node_limit}
use Rattle.lam_scope.specs.Places.{Binding, Scope, Place}
use Rattle.lam_typing.specs.LeastTypes.{IsLeastAt}
use Rattle.lam_typing.specs.Blaming.{ArePartsTyped, IsExcused, IsBlamed, IsBlamedFor, Blamed, AreBlamed}
use Rattle.lam_typing.specs.Analysis.{AreLeast, IsSmallType, AreSmall}
use Rattle.lam_typing.specs.Progress.{IsLowest, Progress, Shown, Went, Cause, next_is_too_large, enough, NextIs, StoppedIn, blame_step}

-- lists side by side

least_both : (ps qs : List Place) (os vs : List (Option Typ)) (d : Dialect) → AreLeast ps os d → AreLeast qs vs d → AreLeast (ps ++ qs) (os ++ vs) d
least_both [] qs [] vs d a b = b
least_both (p ∷ ps) qs (o ∷ os) vs d a b = (a.0, least_both ps qs os vs d a.1 b)
least_both [] qs (o ∷ os) vs d a b = absurd a
least_both (p ∷ ps) qs [] vs d a b = absurd a

pub least_length : (ps : List Place) (os : List (Option Typ)) (d : Dialect) → AreLeast ps os d → length ps ≡ length os
least_length [] [] d a = refl
least_length (p ∷ ps) (o ∷ os) d a = let e = least_length ps os d a.1 in omega arith
least_length [] (o ∷ os) d a = absurd a
least_length (p ∷ ps) [] d a = absurd a

small_both : (os vs : List (Option Typ)) → AreSmall os → AreSmall vs → AreSmall (os ++ vs)
small_both [] vs a b = b
small_both (o ∷ os) vs a b = (a.0, small_both os vs a.1 b)

blamed_both : (n : ℕ) (ps qs : List Place) (bs cs : List Blamed) (d : Dialect) → AreBlamed n ps bs d → AreBlamed (n + length ps) qs cs d → AreBlamed n (ps ++ qs) (bs ++ cs) d
blamed_both n [] qs bs cs d a b =
    let here : n + 0 ≡ n = omega arith in
    subst (λ xs. AreBlamed n qs (xs ++ cs) d) (sym a) (subst (λ m. AreBlamed m qs cs d) here b)
blamed_both n (p ∷ ps) qs bs cs d a b =
    let e : n + length (p ∷ ps) ≡ n + 1 + length ps = omega arith in
    let later : AreBlamed (n + 1 + length ps) qs cs d = subst (λ m. AreBlamed m qs cs d) e b in
    by (λ xs h. blamed_both (n + 1) ps qs xs cs d h later) a
  where
    by : ((xs : List Blamed) → AreBlamed (n + 1) ps xs d → AreBlamed (n + 1) (ps ++ qs) (xs ++ cs) d)
        → AreBlamed n (p ∷ ps) bs d → AreBlamed n ((p ∷ ps) ++ qs) (bs ++ cs) d
    by further (inl h) = inl (h.0, further bs h.1)
    by further (inr h) = inr (h.0, h.1 ++ cs, ap (λ xs. xs ++ cs) h.2, h.3, h.4, further h.1 h.5)

pub shown_both : (ps qs : List Place) (n m : ℕ) (os vs : List (Option Typ)) (bs cs : List Blamed) (d : Dialect)
    → m ≡ n + length os → Shown ps n os bs d → Shown qs m vs cs d → Shown (ps ++ qs) n (os ++ vs) (bs ++ cs) d
shown_both ps qs n m os vs bs cs d e a b = record {
  least = least_both ps qs os vs d a.least b.least;
  small = small_both os vs a.small b.small;
  blamed = blamed_both n ps qs bs cs d a.blamed
      (let same = least_length ps os d a.least in
      let number : m ≡ n + length ps = omega (arith, e, same) in
      subst (λ k. AreBlamed k qs cs d) number b.blamed);
}

pub shown_none : (n : ℕ) (d : Dialect) → Shown [] n [] [] d
shown_none n d = record { least = tt; small = tt; blamed = refl }

-- nothing yet
pub went_none : (g : Context) (now : Progress) (d : Dialect) → Went g (λ s. []) now now d
went_none g now d = record {
  found = [];
  blames = [];
  found_is = sym (append-nil now.found);
  blames_are = sym (append-nil now.blames);
  shown = λ s low. shown_none (length now.found) d;
}

-- one part, then another
pub went_both : (g : Context) (ps qs : Scope → List Place) (old mid now : Progress) (d : Dialect)
    → Went g ps old mid d → Went g qs mid now d → Went g (λ s. ps s ++ qs s) old now d
went_both g ps qs old mid now d a b = record {
  found = a.found ++ b.found;
  blames = a.blames ++ b.blames;
  found_is = b.found_is ∙ ap (λ xs. xs ++ b.found) a.found_is ∙ append_assoc old.found a.found b.found;
  blames_are = b.blames_are ∙ ap (λ xs. xs ++ b.blames) a.blames_are ∙ append_assoc old.blames a.blames b.blames;
  shown = λ s low. shown_both (ps s) (qs s) (length old.found) (length mid.found) a.found b.found a.blames b.blames d
      (ap length a.found_is ∙ length-append old.found a.found) (a.shown s low) (b.shown s low);
}

-- a part under a binder
pub went_under : (b : Binding) (entry : Option Typ) (g : Context) (ps : Scope → List Place) (old now : Progress) (d : Dialect)
    → ((s : Scope) → IsLowest s g d → IsLowest (b ∷ s) (entry ∷ g) d) → Went (entry ∷ g) ps old now d → Went g (λ s. ps (b ∷ s)) old now d
went_under b entry g ps old now d lower a = record {
  found = a.found;
  blames = a.blames;
  found_is = a.found_is;
  blames_are = a.blames_are;
  shown = λ s low. a.shown (b ∷ s) (lower s low);
}

-- stopped in a part, or in one behind it

next_more : (cause : Cause) (rest qs : List Place) (d : Dialect) → NextIs cause rest d → NextIs cause (rest ++ qs) d
next_more next_is_too_large [] qs d h = absurd h
next_more next_is_too_large (p ∷ rest) qs d h = h
next_more enough rest qs d h = tt

pub stopped_front : (g : Context) (ps qs : Scope → List Place) (old now : Progress) (cause : Cause) (d : Dialect)
    → StoppedIn g ps old now cause d → StoppedIn g (λ s. ps s ++ qs s) old now cause d
stopped_front g ps qs old now cause d a = record {
  found = a.found;
  blames = a.blames;
  found_is = a.found_is;
  blames_are = a.blames_are;
  shown = λ s low.
      let h = a.shown s low in
      record {
        front = h.front;
        rest = h.rest ++ qs s;
        are = ap (λ xs. xs ++ qs s) h.are ∙ append_assoc h.front h.rest (qs s);
        shown = h.shown;
        next = next_more cause h.rest (qs s) d h.next;
      };
}

pub stopped_behind : (g : Context) (ps qs : Scope → List Place) (old mid now : Progress) (cause : Cause) (d : Dialect)
    → Went g ps old mid d → StoppedIn g qs mid now cause d → StoppedIn g (λ s. ps s ++ qs s) old now cause d
stopped_behind g ps qs old mid now cause d a b = record {
  found = a.found ++ b.found;
  blames = a.blames ++ b.blames;
  found_is = b.found_is ∙ ap (λ xs. xs ++ b.found) a.found_is ∙ append_assoc old.found a.found b.found;
  blames_are = b.blames_are ∙ ap (λ xs. xs ++ b.blames) a.blames_are ∙ append_assoc old.blames a.blames b.blames;
  shown = λ s low.
      let h = b.shown s low in
      record {
        front = ps s ++ h.front;
        rest = h.rest;
        are = ap (λ xs. ps s ++ xs) h.are ∙ sym (append_assoc (ps s) h.front h.rest);
        shown = shown_both (ps s) h.front (length old.found) (length mid.found) a.found b.found a.blames b.blames d
            (ap length a.found_is ∙ length-append old.found a.found) (a.shown s low) h.shown;
        next = h.next;
      };
}

pub stopped_under : (b : Binding) (entry : Option Typ) (g : Context) (ps : Scope → List Place) (old now : Progress) (cause : Cause) (d : Dialect)
    → ((s : Scope) → IsLowest s g d → IsLowest (b ∷ s) (entry ∷ g) d) → StoppedIn (entry ∷ g) ps old now cause d → StoppedIn g (λ s. ps (b ∷ s)) old now cause d
stopped_under b entry g ps old now cause d lower a = record {
  found = a.found;
  blames = a.blames;
  found_is = a.found_is;
  blames_are = a.blames_are;
  shown = λ s low. a.shown (b ∷ s) (lower s low);
}

-- the term itself

pub here_blamed : (n : ℕ) (s : Scope) (e : Term) (parts : Bool) (o : Option Typ) (code : Text) (d : Dialect)
    → IsLeastAt s e o d
    → (IsTrue parts → ArePartsTyped s e d × (IsExcused s e d → ⊥))
    → (ArePartsTyped s e d → (IsExcused s e d → ⊥) → IsTrue parts)
    → (o ≡ None → IsTrue parts → IsBlamedFor s e code d)
    → AreBlamed n (record { scope = s; here = e } ∷ []) (blame_step n parts o code) d
here_blamed n s e true None code d least there back why =
    let parts = there refl in
    inr (code, [], refl, record { untyped = (λ h. least h.0 h.1); parts = parts.0; unexcused = parts.1 }, why refl refl, refl)
here_blamed n s e true (Some t) code d least there back why = inl ((λ blamed. blamed.untyped (t, least.0)), refl)
here_blamed n s e false None code d least there back why = inl ((λ blamed. let wrong : IsTrue false = back blamed.parts blamed.unexcused in cc), refl)
here_blamed n s e false (Some t) code d least there back why = inl ((λ blamed. blamed.untyped (t, least.0)), refl)

pub went_here : (g : Context) (e : Term) (o : Option Typ) (blames : List Blamed) (old now : Progress) (d : Dialect)
    → now.found ≡ old.found ++ o ∷ [] → now.blames ≡ old.blames ++ blames → IsSmallType o
    → ((s : Scope) → IsLowest s g d → IsLeastAt s e o d)
    → ((s : Scope) → IsLowest s g d → AreBlamed (length old.found) (record { scope = s; here = e } ∷ []) blames d)
    → Went g (λ s. record { scope = s; here = e } ∷ []) old now d
went_here g e o blames old now d found_is blames_are small least blamed = record {
  found = o ∷ [];
  blames = blames;
  found_is = found_is;
  blames_are = blames_are;
  shown = λ s low. record { least = (least s low, tt); small = (small, tt); blamed = blamed s low };
}

-- its type is too large
pub stopped_here : (g : Context) (e : Term) (t : Typ) (now : Progress) (d : Dialect) → node_limit < nodes t
    → ((s : Scope) → IsLowest s g d → IsLeastAt s e (Some t) d)
    → StoppedIn g (λ s. record { scope = s; here = e } ∷ []) now now next_is_too_large d
stopped_here g e t now d large least = record {
  found = [];
  blames = [];
  found_is = sym (append-nil now.found);
  blames_are = sym (append-nil now.blames);
  shown = λ s low. record {
    front = [];
    rest = record { scope = s; here = e } ∷ [];
    are = refl;
    shown = shown_none (length now.found) d;
    next = (t, least s low, large);
  };
}

-- the term comes after the last place that was requested
pub stopped_before : (g : Context) (e : Term) (now : Progress) (d : Dialect) → StoppedIn g (λ s. record { scope = s; here = e } ∷ []) now now enough d
stopped_before g e now d = record {
  found = [];
  blames = [];
  found_is = sym (append-nil now.found);
  blames_are = sym (append-nil now.blames);
  shown = λ s low. record {
    front = [];
    rest = record { scope = s; here = e } ∷ [];
    are = refl;
    shown = shown_none (length now.found) d;
    next = tt;
  };
}

-- a term that is not to blame
pub unblamed_here : (n : ℕ) (s : Scope) (e : Term) (d : Dialect) → (IsBlamed s e d → ⊥) → AreBlamed n (record { scope = s; here = e } ∷ []) [] d
unblamed_here n s e d unblamed = inl (unblamed, refl)

-- A term whose parts the walk went over: only the term's own place is left to be recorded.
pub record IsReady (g : Context) (e : Term) (ps : Scope → List Place) (old mid : Progress) (o : Option Typ) (blames : List Blamed) (d : Dialect) : Type 0 where
  pub went : Went g ps old mid d
  pub least : (s : Scope) → IsLowest s g d → IsLeastAt s e o d
  pub blamed : (s : Scope) → IsLowest s g d → AreBlamed (length mid.found) (record { scope = s; here = e } ∷ []) blames d

pub ready_went : (g : Context) (e : Term) (ps : Scope → List Place) (old mid now : Progress) (o : Option Typ) (blames : List Blamed) (d : Dialect)
    → IsReady g e ps old mid o blames d → now.found ≡ mid.found ++ o ∷ [] → now.blames ≡ mid.blames ++ blames → IsSmallType o
    → Went g (λ s. ps s ++ record { scope = s; here = e } ∷ []) old now d
ready_went g e ps old mid now o blames d ready found_is blames_are small =
    went_both g ps (λ s. record { scope = s; here = e } ∷ []) old mid now d ready.went
    (went_here g e o blames mid now d found_is blames_are small ready.least ready.blamed)

pub ready_too_large : (g : Context) (e : Term) (ps : Scope → List Place) (old mid : Progress) (t : Typ) (blames : List Blamed) (d : Dialect)
    → IsReady g e ps old mid (Some t) blames d → node_limit < nodes t
    → StoppedIn g (λ s. ps s ++ record { scope = s; here = e } ∷ []) old mid next_is_too_large d
ready_too_large g e ps old mid t blames d ready large =
    stopped_behind g ps (λ s. record { scope = s; here = e } ∷ []) old mid mid next_is_too_large d ready.went (stopped_here g e t mid d large ready.least)

pub ready_enough : (g : Context) (e : Term) (ps : Scope → List Place) (old mid : Progress) (o : Option Typ) (blames : List Blamed) (d : Dialect)
    → IsReady g e ps old mid o blames d → StoppedIn g (λ s. ps s ++ record { scope = s; here = e } ∷ []) old mid enough d
ready_enough g e ps old mid o blames d ready =
    stopped_behind g ps (λ s. record { scope = s; here = e } ∷ []) old mid mid enough d ready.went (stopped_before g e mid d)
