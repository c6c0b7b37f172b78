-- What follows among the steps of a proof: all of them if the last one does; and a step that follows from what its premises conclude, once those before it follow.
use Rattle.std.proofs.Common.{◌≤◌, ℕ, zero, suc, List, [], ◌∷◌, ◌++◌, length, replicate, Option, Some, None, sym, subst, arith, append_assoc, append-nil}
use Rattle.lam_rules.specs.Terms.{Term}
use Rattle.lam_rules.specs.Subtyping.{SubTree, sub_step, SubTrees, no_subs, sub_first, IsSubProof, AreSubProofs}
use Rattle.lam_rules.specs.Typing.{Context, TypingTree, typing_step, TypingTrees, no_typings, typing_first, IsTyping}
use Rattle.lam_rules.specs.TypingSteps.{types_in, IsSideProof, Subject, first_type, subjects, AreTypings}
use Rattle.lam_rules.specs.declared.rules.Dialect.{Dialect}
use Rattle.lam_rules.proofs.TypingSteps.{by_parts, enough_parts}
use Rattle.lam_query.specs.Judgements.{Judgement, typed, below, about_no_part, Follows, Each, IsFirstWithout, IsFirstFailing, sub_judgements, sub_judgements_each, side_judgements, judgements, judgements_each, steps_in}
use Rattle.lam_query.specs.inner.Walking.{Holds, AllFollow}

pub each_append : (P : Judgement → Type 0) (xs ys : List Judgement) → Each P xs → Each P ys → Each P (xs ++ ys)
each_append P [] ys h k = k
each_append P (x ∷ xs) ys h k = (h.0, each_append P xs ys h.1 k)

pub each_split : (P : Judgement → Type 0) (xs ys : List Judgement) → Each P (xs ++ ys) → Each P xs × Each P ys
each_split P [] ys h = (tt, h)
each_split P (x ∷ xs) ys h = let rest = each_split P xs ys h.1 in ((h.0, rest.0), rest.1)

-- ---- all steps follow if the last one does

mutual
  sub_follows : (d : Dialect) (q : SubTree) → IsSubProof q d → AllFollow d (sub_judgements q)
  sub_follows d (sub_step r s t ps) h = each_append (Follows d) (sub_judgements_each ps) (below (sub_step r s t ps) ∷ []) (subs_follow d ps h.4) (h, tt)

  subs_follow : (d : Dialect) (qs : SubTrees) → AreSubProofs qs d → AllFollow d (sub_judgements_each qs)
  subs_follow d no_subs h = tt
  subs_follow d (sub_first p ps) h = each_append (Follows d) (sub_judgements p) (sub_judgements_each ps) (sub_follows d p h.0) (subs_follow d ps h.1)

side_follows : (d : Dialect) (side : Option SubTree) → IsSideProof side d → AllFollow d (side_judgements side)
side_follows d None h = tt
side_follows d (Some q) h = sub_follows d q h

mutual
  pub follows : (d : Dialect) (g : Context) (e : Term) (p : TypingTree) → IsTyping g e p d → AllFollow d (judgements g e p)
  follows d g e (typing_step r t ps side) h =
      let parts = (by_parts r side g e t ps d).0 h in
      let ss = subjects r g e (first_type ps) in
      each_append (Follows d) (judgements_each ss ps ++ side_judgements side) (typed g e (typing_step r t ps side) ∷ [])
      (each_append (Follows d) (judgements_each ss ps) (side_judgements side) (each_follows d ss ps parts.3) (side_follows d side parts.2))
      (h, tt)

  each_follows : (d : Dialect) (ss : List Subject) (ps : TypingTrees) → AreTypings ss ps d → AllFollow d (judgements_each ss ps)
  each_follows d [] no_typings h = tt
  each_follows d (s ∷ ss) no_typings h = tt
  each_follows d [] (typing_first p ps) h = absurd h
  each_follows d (s ∷ ss) (typing_first p ps) h =
      each_append (Follows d) (judgements s.context s.term p) (judgements_each ss ps) (follows d s.context s.term p h.0) (each_follows d ss ps h.1)

-- ---- a tree is a proof if all of its steps follow

sub_proved : (d : Dialect) (q : SubTree) → AllFollow d (sub_judgements q) → IsSubProof q d
sub_proved d (sub_step r s t ps) h = (each_split (Follows d) (sub_judgements_each ps) (below (sub_step r s t ps) ∷ []) h).1.0

subs_proved : (d : Dialect) (qs : SubTrees) → AllFollow d (sub_judgements_each qs) → AreSubProofs qs d
subs_proved d no_subs h = tt
subs_proved d (sub_first p qs) h =
    let parts = each_split (Follows d) (sub_judgements p) (sub_judgements_each qs) h in
    (sub_proved d p parts.0, subs_proved d qs parts.1)

side_proved : (d : Dialect) (side : Option SubTree) → AllFollow d (side_judgements side) → IsSideProof side d
side_proved d None h = tt
side_proved d (Some q) h = sub_proved d q h

pub typing_proved : (d : Dialect) (g : Context) (e : Term) (p : TypingTree) → AllFollow d (judgements g e p) → IsTyping g e p d
typing_proved d g e (typing_step r t ps side) h =
    (each_split (Follows d) (judgements_each (subjects r g e (first_type ps)) ps ++ side_judgements side) (typed g e (typing_step r t ps side) ∷ []) h).1.0

typings_proved : (d : Dialect) (ss : List Subject) (ps : TypingTrees) → length (types_in ps) ≤ length ss → AllFollow d (judgements_each ss ps) → AreTypings ss ps d
typings_proved d [] no_typings far h = tt
typings_proved d (s ∷ ss) no_typings far h = tt
typings_proved d [] (typing_first p ps) far h = absurd (omega arith)
typings_proved d (s ∷ ss) (typing_first p ps) far h =
    let parts = each_split (Follows d) (judgements s.context s.term p) (judgements_each ss ps) h in
    (typing_proved d s.context s.term p parts.0, typings_proved d ss ps (omega arith) parts.1)

-- ---- each step that holds follows, once those before it do

abbrev Supported : Dialect → (before js : List Judgement) → Type 0
Supported d before [] = Unit {0}
Supported d before (j ∷ js) = (AllFollow d before → Holds d j → Follows d j) × Supported d (before ++ j ∷ []) js

more_before : (d : Dialect) (xs before js : List Judgement) → Supported d before js → Supported d (xs ++ before) js
more_before d xs before [] h = tt
more_before d xs before (j ∷ js) h = (
  λ follow holds. h.0 (each_split (Follows d) xs before follow).1 holds,
  subst (λ l. Supported d l js) (sym (append_assoc xs before (j ∷ []))) (more_before d xs (before ++ j ∷ []) js h.1),
)

both : (d : Dialect) (before xs ys : List Judgement) → Supported d before xs → Supported d (before ++ xs) ys → Supported d before (xs ++ ys)
both d before [] ys h k = subst (λ l. Supported d l ys) (append-nil before) k
both d before (x ∷ xs) ys h k =
    (h.0, both d (before ++ x ∷ []) xs ys h.1 (subst (λ l. Supported d l ys) (sym (append_assoc before (x ∷ []) xs)) k))

apart : (d : Dialect) (xs ys : List Judgement) → Supported d [] xs → Supported d [] ys → Supported d [] (xs ++ ys)
apart d xs ys h k = both d [] xs ys h (subst (λ l. Supported d l ys) (append-nil xs) (more_before d xs [] ys k))

mutual
  sub_supported : (d : Dialect) (q : SubTree) → Supported d [] (sub_judgements q)
  sub_supported d (sub_step r s t ps) =
      both d [] (sub_judgements_each ps) (below (sub_step r s t ps) ∷ []) (subs_supported d ps)
      ((λ follow holds. (holds.0, holds.1, holds.2, holds.3, subs_proved d ps follow)), tt)

  subs_supported : (d : Dialect) (qs : SubTrees) → Supported d [] (sub_judgements_each qs)
  subs_supported d no_subs = tt
  subs_supported d (sub_first p ps) = apart d (sub_judgements p) (sub_judgements_each ps) (sub_supported d p) (subs_supported d ps)

side_supported : (d : Dialect) (side : Option SubTree) → Supported d [] (side_judgements side)
side_supported d None = tt
side_supported d (Some q) = sub_supported d q

no_part_supported : (d : Dialect) (before : List Judgement) (n : ℕ) → Supported d before (replicate n about_no_part)
no_part_supported d before zero = tt
no_part_supported d before (suc n) = ((λ follow holds. tt), no_part_supported d (before ++ about_no_part ∷ []) n)

mutual
  supported : (d : Dialect) (g : Context) (e : Term) (p : TypingTree) → Supported d [] (judgements g e p)
  supported d g e (typing_step r t ps side) =
      let ss = subjects r g e (first_type ps) in
      both d [] (judgements_each ss ps ++ side_judgements side) (typed g e (typing_step r t ps side) ∷ [])
      (apart d (judgements_each ss ps) (side_judgements side) (each_supported d ss ps) (side_supported d side)) (
        (λ follow holds.
            let parts = each_split (Follows d) (judgements_each ss ps) (side_judgements side) follow in
            let enough = enough_parts r _ g e t (types_in ps) (first_type ps) holds.1.1 in
            (by_parts r side g e t ps d).1 (holds.0, holds.1, side_proved d side parts.1, typings_proved d ss ps enough parts.0)),
        tt,
      )

  each_supported : (d : Dialect) (ss : List Subject) (ps : TypingTrees) → Supported d [] (judgements_each ss ps)
  each_supported d [] no_typings = tt
  each_supported d (s ∷ ss) no_typings = tt
  each_supported d [] (typing_first p ps) =
      apart d (replicate (steps_in p) about_no_part) (judgements_each [] ps) (no_part_supported d [] (steps_in p)) (each_supported d [] ps)
  each_supported d (s ∷ ss) (typing_first p ps) =
      apart d (judgements s.context s.term p) (judgements_each ss ps) (supported d s.context s.term p) (each_supported d ss ps)

-- ---- so the first step that does not hold is the first that does not follow

all_of_those : (d : Dialect) (before js : List Judgement) → Supported d before js → AllFollow d before → Each (Holds d) js → AllFollow d js
all_of_those d before [] h follow holds = tt
all_of_those d before (j ∷ js) h follow holds =
    let own = h.0 follow holds.0 in
    (own, all_of_those d (before ++ j ∷ []) js h.1 (each_append (Follows d) before (j ∷ []) follow (own, tt)) holds.1)

front : (d : Dialect) (before xs ys : List Judgement) → Supported d before (xs ++ ys) → Supported d before xs
front d before [] ys h = tt
front d before (x ∷ xs) ys h = (h.0, front d (before ++ x ∷ []) xs ys h.1)

holds_too : (d : Dialect) (j : Judgement) → Follows d j → Holds d j
holds_too d (typed g e (typing_step r t ps side)) h = let parts = (by_parts r side g e t ps d).0 h in (parts.0, parts.1)
holds_too d (below (sub_step r s t ps)) h = (h.0, h.1, h.2, h.3)
holds_too d about_no_part h = tt

pub all_follow : (d : Dialect) (g : Context) (e : Term) (p : TypingTree) → Each (Holds d) (judgements g e p) → AllFollow d (judgements g e p)
all_follow d g e p holds = all_of_those d [] (judgements g e p) (supported d g e p) tt holds

pub first_failing : (d : Dialect) (g : Context) (e : Term) (p : TypingTree) (n : ℕ)
    → IsFirstWithout (Holds d) 0 (judgements g e p) n → IsFirstFailing d 0 (judgements g e p) n
first_failing d g e p n h = record {
  before = h.before;
  own = h.own;
  after = h.after;
  are = h.are;
  follow = all_of_those d [] h.before (front d [] h.before (h.own ∷ h.after) (subst (Supported d []) h.are (supported d g e p))) tt h.follow;
  fails = λ f. h.fails (holds_too d h.own f);
  counted = h.counted;
}
