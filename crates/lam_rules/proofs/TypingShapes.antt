-- How a `TypeProof` is seen as a tree, and entries as a context.
use Rattle.std.proofs.Common.{◌≡◌, ℕ, ◌+◌, ◌<◌, ◌≤◌, List, [], ◌∷◌, map, Option, length, drop, get_or, ap, sym, ◌∙◌, refl, drop-cons, add-one, suc, arith, Bor}
use Rattle.std.specs.Option.{option_map}
use Rattle.lam_rules.specs.Types.{IsWellFormed}
use Rattle.lam_rules.proofs.SubShapes.{conclusion-sub_tree_of}
use Rattle.lam_rules.specs.TypeViews.{typ_of}
use Rattle.lam_rules.specs.SubViews.{sub_tree_of}
use Rattle.lam_rules.specs.TermViews.{lent_of}
use Rattle.lam_rules.specs.Typing.{Context, TypingTree, typing_step, no_typings, typing_first, type_in, IsTyping}
use Rattle.lam_rules.specs.TypingViews.{context_of, entries_step, entries_of, typings_made, typing_tree_step, typing_tree_of, typings_of, types_concluded}
use Rattle.lam_rules.specs.TypingSteps.{types_in}
use Rattle.lam_rules.specs.declared.types.Ty.{Ty}
use Rattle.lam_rules.specs.declared.rules.Dialect.{Dialect}
use Rattle.lam_rules.specs.Terms.{Term}
use Rattle.lam_rules.specs.declared.typing.TypeProof.{TypeProof, out-TypeProof, fold_out-TypeProof}
use Rattle.lam_rules.specs.declared.typing.Entries.{Entries, fold-roll-Entries}
use Rattle.lam_rules.specs.declared.typing.Entries.TheOpen.{Entries-F}
use Rattle.lam_rules.specs.declared.typing.Entries.TheVariants.{Given, Under, rolls-Given, rolls-Under}

pub typings_made-map : (ps : List TypeProof) → typings_made (map typing_tree_of ps) ≡ typings_of ps
typings_made-map [] = refl
typings_made-map (p ∷ ps) = ap (λ rest. typing_first (typing_tree_of p) rest) (typings_made-map ps)

-- a `TypeProof` node by node
pub typing_tree_of-node : (p : TypeProof) → typing_tree_of p
    ≡ typing_step (out-TypeProof p).rule (typ_of (out-TypeProof p).ty) (typings_of (out-TypeProof p).typing.items) (option_map (λ q. sub_tree_of q.value) (out-TypeProof p).sub)
unfolding typing_tree_of
typing_tree_of-node p =
    fold_out-TypeProof TypingTree typing_tree_step p
    ∙ ap (λ ps. typing_step (out-TypeProof p).rule (typ_of (out-TypeProof p).ty) ps (option_map (λ q. sub_tree_of q.value) (out-TypeProof p).sub)) (typings_made-map (out-TypeProof p).typing.items)

pub type_in-typing_tree_of : (p : TypeProof) → type_in (typing_tree_of p) ≡ typ_of (out-TypeProof p).ty
type_in-typing_tree_of p = ap type_in (typing_tree_of-node p)

-- the type that a proof concludes has distinct labels
typing_wf : (g : Context) (e : Term) (p : TypingTree) (d : Dialect) → IsTyping g e p d → IsWellFormed (type_in p)
typing_wf g e (typing_step r t ps s) d h = h.1

pub typing_wf_of : (g : Context) (e : Term) (p : TypeProof) (d : Dialect) → IsTyping g e (typing_tree_of p) d → IsWellFormed (typ_of (out-TypeProof p).ty)
typing_wf_of g e p d h = rw (type_in-typing_tree_of p) at (typing_wf g e (typing_tree_of p) d h)

-- lists of premises

pub typings_of-drop : (ps : List TypeProof) (i : ℕ) (p : TypeProof) → i < length ps → p ≡ get_or ps i p
    → typings_of (drop i ps) ≡ typing_first (typing_tree_of p) (typings_of (drop (i + 1) ps))
typings_of-drop ps i p lt is = rw add-one (rw (drop-cons ps i p lt) (ap (λ q. typing_first (typing_tree_of q) (typings_of (drop (suc i) ps))) (sym is)))

pub typings_of-none : (ps : List TypeProof) → length ps ≡ 0 → typings_of ps ≡ no_typings
typings_of-none [] e = refl
typings_of-none (p ∷ ps) e = absurd (omega arith)

-- the types that premises conclude

pub types_in-typings_of : (ps : List TypeProof) → types_in (typings_of ps) ≡ types_concluded ps
types_in-typings_of [] = refl
types_in-typings_of (p ∷ ps) = rw (type_in-typing_tree_of p, types_in-typings_of ps)

pub types_concluded-drop : (ps : List TypeProof) (i : ℕ) (p : TypeProof) → i < length ps → p ≡ get_or ps i p
    → types_concluded (drop i ps) ≡ typ_of (out-TypeProof p).ty ∷ types_concluded (drop (i + 1) ps)
types_concluded-drop ps i p lt is =
    rw add-one (rw (drop-cons ps i p lt) (ap (λ q. typ_of (out-TypeProof q).ty ∷ types_concluded (drop (suc i) ps)) (sym is)))

pub types_concluded-none : (ps : List TypeProof) → length ps ≡ 0 → types_concluded ps ≡ []
types_concluded-none [] e = refl
types_concluded-none (p ∷ ps) e = absurd (omega arith)

pub length-types_concluded : (ps : List TypeProof) → length (types_concluded ps) ≡ length ps
length-types_concluded [] = refl
length-types_concluded (p ∷ ps) = let e = length-types_concluded ps in omega arith

-- of one, two or three premises, each known by its index

pub one_type : (ps : List TypeProof) (p : TypeProof) → 1 ≤ length ps → length ps < 2 → p ≡ get_or ps 0 p
    → types_concluded ps ≡ typ_of (out-TypeProof p).ty ∷ []
one_type [] p low high is = absurd (omega arith)
one_type (q ∷ []) p low high is = rw is
one_type (q ∷ r ∷ ps) p low high is = absurd (omega arith)

pub two_types : (ps : List TypeProof) (p q : TypeProof) → 2 ≤ length ps → length ps < 3 → p ≡ get_or ps 0 p → q ≡ get_or ps 1 q
    → types_concluded ps ≡ typ_of (out-TypeProof p).ty ∷ typ_of (out-TypeProof q).ty ∷ []
two_types [] p q low high is_p is_q = absurd (omega arith)
two_types (x ∷ []) p q low high is_p is_q = absurd (omega arith)
two_types (x ∷ y ∷ []) p q low high is_p is_q = rw (is_p, is_q)
two_types (x ∷ y ∷ z ∷ ps) p q low high is_p is_q = absurd (omega arith)

pub three_types : (ps : List TypeProof) (p q r : TypeProof) → 3 ≤ length ps → length ps < 4
    → p ≡ get_or ps 0 p → q ≡ get_or ps 1 q → r ≡ get_or ps 2 r
    → types_concluded ps ≡ typ_of (out-TypeProof p).ty ∷ typ_of (out-TypeProof q).ty ∷ typ_of (out-TypeProof r).ty ∷ []
three_types [] p q r low high is_p is_q is_r = absurd (omega arith)
three_types (x ∷ []) p q r low high is_p is_q is_r = absurd (omega arith)
three_types (x ∷ y ∷ []) p q r low high is_p is_q is_r = absurd (omega arith)
three_types (x ∷ y ∷ z ∷ []) p q r low high is_p is_q is_r = rw (is_p, is_q, is_r)
three_types (x ∷ y ∷ z ∷ v ∷ ps) p q r low high is_p is_q is_r = absurd (omega arith)

-- entries

pub entries_of-Given : (outer : Bor (List (Option Ty))) → entries_of (Given outer) ≡ context_of outer.now
unfolding entries_of
entries_of-Given outer = ap entries_of (sym (rolls-Given outer)) ∙ fold-roll-Entries Context entries_step (Entries-F.Given outer)

pub entries_of-Under : (entry : Option (Bor Ty)) (rest : Bor Entries) → entries_of (Under entry rest) ≡ lent_of entry ∷ entries_of rest.now
unfolding entries_of
entries_of-Under entry rest = ap entries_of (sym (rolls-Under entry rest)) ∙ fold-roll-Entries Context entries_step (Entries-F.Under entry rest)

pub ruleset typing_nodes = (typing_tree_of-node)

pub ruleset typing_steps = (typing_tree_of-node, types_in-typings_of, conclusion-sub_tree_of)

pub ruleset typing_shapes = (type_in-typing_tree_of, typing_wf_of, typings_of-drop, typings_of-none, entries_of-Given, entries_of-Under)
