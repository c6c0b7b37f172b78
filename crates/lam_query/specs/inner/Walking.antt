-- Steps that are checked one by one, from the last one down. For private functions alone.
use Rattle.std.specs.Prelude.{◌≡◌, ◌↔◌, ◌≤◌, ℕ, List, [], ◌∷◌, length, replicate, slice_get, take, Option, Some, None, MatchOption, IsTrue}
use Rattle.lam_rules.specs.Types.{Typ, IsWellFormed}
use Rattle.lam_rules.specs.Parts.{subject_in}
use Rattle.lam_rules.specs.Subtyping.{Claim, BySubRule, IsRuleOf}
use Rattle.lam_rules.specs.SubSteps.{IsSubStep}
use Rattle.lam_rules.specs.Typing.{IsWellFormedContext}
use Rattle.lam_rules.specs.TypingSteps.{FitsRule, IsTypingStep, Subject, subjects}
use Rattle.lam_rules.specs.TypingViews.{context_of}
use Rattle.lam_rules.specs.declared.rules.Dialect.{Dialect}
use Rattle.lam_rules.specs.declared.types.Ty.{Ty}
use Rattle.lam_query.specs.Judgements.{Judgement, typed, below, about_no_part, Follows, Each, IsFirstWithout, judgements, sub_judgements}
use Rattle.lam_query.specs.ProofTrees.{Tree, of_typing, of_subtyping}
use Rattle.lam_query.specs.Steps.{Conclusion, typing, subtyping, Step}
use Rattle.lam_query.specs.declared.wrong_steps.Seen.{Seen}
use Rattle.lam_query.specs.declared.wrong_steps.Pending.{Pending}
use Rattle.lam_query.specs.declared.wrong_steps.Pending.TheVariants as pending
use Rattle.lam_query.specs.inner.Backwards.{size, AreRead}

-- ---- what proofs that are still to be checked are about

-- a part of a term, no part of one, or nothing but types
pub data Left : Type 0 where
  about_part : Subject → Left
  about_nothing : Left
  of_subtypes : Left

-- what the steps of a tree say that is about this, whatever index its first step has
abbrev pub says : ℕ → Left → Tree → List Judgement
says n about_nothing t = replicate (size t) about_no_part
says n (about_part s) (of_typing p) = judgements s.context s.term p
says n (about_part s) (of_subtyping q) = []
says n of_subtypes (of_subtyping q) = sub_judgements q
says n of_subtypes (of_typing p) = []

-- the tree may be about this
abbrev pub Suits : Left → Tree → Type 0
Suits about_nothing t = Unit {0}
Suits (about_part s) (of_typing p) = Unit {0}
Suits (about_part s) (of_subtyping q) = ⊥
Suits of_subtypes (of_subtyping q) = Unit {0}
Suits of_subtypes (of_typing p) = ⊥

-- ---- what premises conclude

-- the types of the typings
abbrev pub types_said : List (Option Conclusion) → List Typ
types_said [] = []
types_said (Some (typing rule s t) ∷ cs) = t ∷ types_said cs
types_said (Some (subtyping rule l u) ∷ cs) = types_said cs
types_said (None ∷ cs) = types_said cs

-- the claims of subtyping
abbrev pub claims_said : List (Option Conclusion) → List Claim
claims_said [] = []
claims_said (Some (typing rule s t) ∷ cs) = claims_said cs
claims_said (Some (subtyping rule l u) ∷ cs) = record { lower = l; upper = u } ∷ claims_said cs
claims_said (None ∷ cs) = claims_said cs

-- the last of these
abbrev pub last_claim : List Claim → Option Claim
last_claim [] = None
last_claim (c ∷ []) = Some c
last_claim (c ∷ d ∷ cs) = last_claim (d ∷ cs)

-- the type of the first one, if it is a typing
abbrev pub first_said : List (Option Conclusion) → Option Typ
first_said [] = None
first_said (Some (typing rule s t) ∷ cs) = Some t
first_said (Some (subtyping rule l u) ∷ cs) = None
first_said (None ∷ cs) = None

-- ---- a step by itself

-- what the next premise is about, if it concludes this and the part is left for it
abbrev pub left_for : Option Subject → Option Conclusion → Left
left_for part (Some (subtyping rule l u)) = of_subtypes
left_for (Some s) (Some (typing rule sp t)) = about_part s
left_for _ _ = about_nothing

-- the subjects behind the first
abbrev pub without_first : List Subject → List Subject
without_first [] = []
without_first (s ∷ ss) = ss

-- what the premises that conclude these are about, where these parts are left
abbrev pub lefts_for : List Subject → List (Option Conclusion) → List Left
lefts_for ss [] = []
lefts_for ss (c ∷ cs) = left_for (slice_get ss 0) c ∷ lefts_for (without_first ss) cs

-- what the premises of a step that concludes this are about
abbrev pub lefts_under : Left → Conclusion → List (Option Conclusion) → List Left
lefts_under about_nothing c cs = replicate (length cs) about_nothing
lefts_under of_subtypes c cs = replicate (length cs) of_subtypes
lefts_under (about_part s) (typing rule sp t) cs = lefts_for (subjects rule s.context s.term (first_said cs)) cs
lefts_under (about_part s) (subtyping rule l u) cs = replicate (length cs) about_nothing

-- the step follows by its rule from these conclusions of its premises
abbrev pub IsRight : Dialect → Left → Conclusion → List (Option Conclusion) → Type 0
IsRight d about_nothing c cs = Unit {0}
IsRight d (about_part s) (typing rule sp t) cs = IsWellFormedContext s.context × IsWellFormed t × FitsRule rule (last_claim (claims_said cs)) s.context s.term t (types_said cs)
IsRight d of_subtypes (subtyping rule l u) cs = IsWellFormed l × IsWellFormed u × IsRuleOf rule d × BySubRule rule (claims_said cs) l u
IsRight d (about_part s) (subtyping rule l u) cs = Unit {0}
IsRight d of_subtypes (typing rule sp t) cs = Unit {0}

-- all of these judgements follow
abbrev pub AllFollow : Dialect → List Judgement → Type 0
AllFollow d js = Each (Follows d) js

-- the last step of a proof follows by its rule from the conclusions of its premises
abbrev pub Holds : Dialect → Judgement → Type 0
Holds d (typed g e p) = IsWellFormedContext g × IsTypingStep g e p
Holds d (below q) = IsSubStep q d
Holds d about_no_part = Unit {0}

-- ---- the state between two steps

-- The first steps are of proofs that are about these; those behind them were checked, and this is the first of them that does not follow by its rule.
pub record IsWalked (steps : List Step) (d : Dialect) (all : List Judgement) (number : ℕ) (ls : List Left) (wrong : Option ℕ) : Type 0 where
  pub done : List Judgement
  pub are_read : AreRead Left Judgement Suits says steps all number ls done
  pub first : MatchOption wrong (Each (Holds d) done) (λ n. IsFirstWithout (Holds d) number done n)

-- ---- what the code keeps

-- a proof about this part
abbrev pub typing_of : Seen → Pending
typing_of seen = pending.Typing seen

-- what a proof is about, in this context
abbrev pub left_of : List (Option Ty) → Pending → Left
left_of context (pending.Typing seen) = about_part (subject_in (context_of (take seen.depth context)) seen.part)
left_of context pending.Nothing = about_nothing
left_of context pending.Subtyping = of_subtypes

-- the number of entries that it needs
abbrev pub depth_of : Pending → ℕ
depth_of (pending.Typing seen) = seen.depth
depth_of _ = 0

-- Whether the types in its context have distinct labels is known.
abbrev pub IsKnown : List (Option Ty) → Pending → Type 0
IsKnown context (pending.Typing seen) = (seen.depth ≤ length context) × (IsTrue seen.well_formed ↔ IsWellFormedContext (context_of (take seen.depth context)))
IsKnown context _ = Unit {0}

-- It needs all entries, if it needs some.
abbrev pub IsTop : List (Option Ty) → Pending → Type 0
IsTop context (pending.Typing seen) = seen.depth ≡ length context
IsTop context _ = Unit {0}

-- each needs at least so many entries, if it needs some
abbrev pub NeedAtLeast : ℕ → List Pending → Type 0
NeedAtLeast n [] = Unit {0}
NeedAtLeast n (pending.Typing seen ∷ ps) = (n ≤ seen.depth) × NeedAtLeast n ps
NeedAtLeast n (pending.Nothing ∷ ps) = NeedAtLeast n ps
NeedAtLeast n (pending.Subtyping ∷ ps) = NeedAtLeast n ps

-- Each is known, and needs no more entries than those above it, which are behind it in the list.
abbrev pub AreKnown : List (Option Ty) → List Pending → Type 0
AreKnown context [] = Unit {0}
AreKnown context (p ∷ ps) = IsKnown context p × NeedAtLeast (depth_of p) ps × AreKnown context ps
