-- How steps follow from each other. For private functions alone.
use Rattle.std.specs.Prelude.{◌≡◌, List, [], ◌∷◌, Option, Some, None}
use Rattle.lam_query.specs.FirstFaults.{AreOfOneProof, AreOfProofs, IsFirstMisplaced}
use Rattle.lam_query.specs.Steps.{Conclusion, typing, subtyping, Step}
use Rattle.lam_query.specs.declared.misplaced_steps.Placing.{Placing}
use Rattle.lam_query.specs.declared.misplaced_steps.Placing.TheVariants as placing
use Rattle.lam_rules.specs.Typing.{TypingTree}
use Rattle.lam_query.specs.ProofTrees.{MakeTree}

-- something was concluded, of typing
abbrev pub IsTypingSaid : Option Conclusion → Type 0
IsTypingSaid (Some (typing rule s t)) = Unit {0}
IsTypingSaid (Some (subtyping rule l u)) = ⊥
IsTypingSaid None = ⊥

-- something was concluded, of subtyping
abbrev pub IsSubtypingSaid : Option Conclusion → Type 0
IsSubtypingSaid (Some (subtyping rule l u)) = Unit {0}
IsSubtypingSaid (Some (typing rule s t)) = ⊥
IsSubtypingSaid None = ⊥

-- these conclusions are all of subtyping
abbrev pub AreSubtypings : List (Option Conclusion) → Type 0
AreSubtypings [] = Unit {0}
AreSubtypings (c ∷ cs) = IsSubtypingSaid c × AreSubtypings cs

-- these conclusions are of typing, but for the last one, which may be of subtyping
abbrev pub AreTypingsFirst : List (Option Conclusion) → Type 0
AreTypingsFirst [] = Unit {0}
AreTypingsFirst (Some (typing rule s t) ∷ cs) = AreTypingsFirst cs
AreTypingsFirst (Some (subtyping rule l u) ∷ cs) = cs ≡ []
AreTypingsFirst (None ∷ cs) = ⊥

-- a step that concludes this may have premises that conclude these
abbrev pub MayHave : Conclusion → List (Option Conclusion) → Type 0
MayHave (typing rule s t) cs = AreTypingsFirst cs
MayHave (subtyping rule l u) cs = AreSubtypings cs

-- how the steps follow from each other
abbrev pub IsPlacing : List Step → Placing → Type 0
IsPlacing steps (placing.Misplaced number) = IsFirstMisplaced steps number
IsPlacing steps placing.Loose = AreOfProofs steps × ((tree : TypingTree) → MakeTree steps tree → ⊥)
IsPlacing steps placing.OneTyping = AreOfOneProof steps
