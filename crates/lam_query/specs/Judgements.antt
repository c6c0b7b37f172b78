-- What the steps of a typing proof say, one by one.
use Rattle.std.specs.Prelude.{◌≡◌, ℕ, ◌+◌, List, [], ◌∷◌, ◌++◌, length, replicate, Option, Some, None}
use Rattle.lam_rules.specs.Terms.{Term}
use Rattle.lam_rules.specs.Subtyping.{SubTree, sub_step, SubTrees, no_subs, sub_first, IsSubProof}
use Rattle.lam_rules.specs.Typing.{Context, TypingTree, typing_step, TypingTrees, no_typings, typing_first, IsTyping}
use Rattle.lam_rules.specs.TypingSteps.{Subject, first_type, subjects}
use Rattle.lam_rules.specs.declared.rules.Dialect.{Dialect}

-- ---- how many steps

-- the number of steps of a subtyping proof
abbrev mutual
  pub sub_steps_in : SubTree → ℕ
  sub_steps_in (sub_step rule lower upper premises) = sub_steps_in_each premises + 1

  pub sub_steps_in_each : SubTrees → ℕ
  sub_steps_in_each no_subs = 0
  sub_steps_in_each (sub_first p ps) = sub_steps_in p + sub_steps_in_each ps

-- the number of steps of the subtyping premise, if there is one
abbrev pub side_steps_in : Option SubTree → ℕ
side_steps_in None = 0
side_steps_in (Some q) = sub_steps_in q

-- the number of steps of a typing proof
abbrev mutual
  pub steps_in : TypingTree → ℕ
  steps_in (typing_step rule type premises side) = steps_in_each premises + side_steps_in side + 1

  pub steps_in_each : TypingTrees → ℕ
  steps_in_each no_typings = 0
  steps_in_each (typing_first p ps) = steps_in p + steps_in_each ps

-- ---- what they say

-- What a step says by the proof that ends in it: that the term has the concluded type in the context; that a type is a subtype of another; or nothing, if it is about no
-- part of the term.
pub data Judgement : Type 0 where
  typed : Context → Term → TypingTree → Judgement
  below : SubTree → Judgement
  about_no_part : Judgement

-- a judgement follows by the rules
abbrev pub Follows : Dialect → Judgement → Type 0
Follows d (typed g e p) = IsTyping g e p d
Follows d (below q) = IsSubProof q d
Follows d about_no_part = Unit {0}

-- each of these judgements is so
abbrev pub Each : (Judgement → Type 0) → List Judgement → Type 0
Each P [] = Unit {0}
Each P (j ∷ js) = P j × Each P js

-- what the steps of a subtyping proof say, in their order
abbrev mutual
  pub sub_judgements : SubTree → List Judgement
  sub_judgements (sub_step rule lower upper premises) = sub_judgements_each premises ++ below (sub_step rule lower upper premises) ∷ []

  pub sub_judgements_each : SubTrees → List Judgement
  sub_judgements_each no_subs = []
  sub_judgements_each (sub_first p ps) = sub_judgements p ++ sub_judgements_each ps

-- what the steps of a proof of subtyping say, if there is one
abbrev pub side_judgements : Option SubTree → List Judgement
side_judgements None = []
side_judgements (Some q) = sub_judgements q

-- what the steps of a typing proof about this term in this context say, in their order
abbrev mutual
  pub judgements : Context → Term → TypingTree → List Judgement
  judgements g e (typing_step rule type premises side) =
      judgements_each (subjects rule g e (first_type premises)) premises ++ side_judgements side ++ typed g e (typing_step rule type premises side) ∷ []

  -- what the steps of its premises say, each premise about the next of these; about no part if none is left
  pub judgements_each : List Subject → TypingTrees → List Judgement
  judgements_each ss no_typings = []
  judgements_each [] (typing_first p ps) = replicate (steps_in p) about_no_part ++ judgements_each [] ps
  judgements_each (s ∷ ss) (typing_first p ps) = judgements s.context s.term p ++ judgements_each ss ps

-- The first of these that is not so has this number, counted from `start`.
pub record IsFirstWithout (P : Judgement → Type 0) (start : ℕ) (all : List Judgement) (number : ℕ) : Type 0 where
  pub before : List Judgement
  pub own : Judgement
  pub after : List Judgement
  pub are : all ≡ before ++ own ∷ after
  pub follow : Each P before
  pub fails : P own → ⊥
  pub counted : number ≡ start + length before

-- The first of these that does not follow has this number, counted from `start`.
abbrev pub IsFirstFailing : Dialect → (start : ℕ) → List Judgement → (number : ℕ) → Type 0
IsFirstFailing d start all number = IsFirstWithout (Follows d) start all number
