-- The steps of proofs as values, and the one of subsumption.
use Rattle.std.proofs.Common.{◌≡◌, ℕ, ◌+◌, ◌-◌, arith, List, [], ◌∷◌, ◌++◌, length, get_or, reverse, Vec, Box, String, string_bytes, Option, Some, None, IfSome, ap, refl, sym, subst, ◌∙◌}
use Rattle.std.specs.Option.{option_map}
use Rattle.std.specs.declared.alloc.Global.{Global}
use Rattle.std.specs.declared.rc.Rc.{Rc}
use Rattle.std.proofs.lemmas.List.{reverse-append}
use Rattle.lam_rules.specs.Types.{Typ, Fields, field, arrow, record_of}
use Rattle.lam_rules.specs.TypeViews.{typ_of, fields_of}
use Rattle.lam_rules.specs.SubViews.{sub_tree_of}
use Rattle.lam_rules.specs.Subtyping.{ProvesBelow}
use Rattle.lam_rules.specs.Terms.{Term, true_term, false_term, numeral, unit_term, succ, pred, is_zero, no_terms}
use Rattle.lam_rules.specs.TermViews.{terms_of}
use Rattle.lam_rules.specs.declared.terms.Core.{Core}
use Rattle.lam_rules.specs.declared.types.Fields.{Fields as RustFields, out-Fields}
use Rattle.lam_rules.specs.declared.types.Ty.TheVariants.{Arrow, Record}
use Rattle.lam_rules.proofs.TypeShapes.{typ_of-Arrow, typ_of-Record, no_arrow, no_record}
use Rattle.lam_rules.specs.Typing.{Context, IsWellFormedContext, TypingTree, typing_step, TypingTrees, no_typings, typing_first, type_in, IsTyping, ProvesTyping}
use Rattle.lam_rules.specs.TypingViews.{typing_tree_of, typings_of}
use Rattle.lam_rules.specs.declared.types.Ty.{Ty}
use Rattle.lam_rules.specs.declared.subtyping.SubProof.{SubProof}
use Rattle.lam_rules.specs.declared.rules.Dialect.{Dialect}
use Rattle.lam_rules.specs.declared.rules.TypeRule.{TypeRule}
use Rattle.lam_rules.specs.declared.typing.TypeProof.{TypeProof, roll-TypeProof, out-TypeProof, out-roll-TypeProof}
use Rattle.lam_rules.proofs.ByShape.{below_wf}
use Rattle.lam_rules.proofs.TypingShapes.{typing_tree_of-node, type_in-typing_tree_of}
use Rattle.lam_scope.specs.Sights.{inside, place_of_term}
use Rattle.lam_typing.specs.inner.Grounds.{found_in, dialect_in}
use Rattle.lam_typing.specs.inner.Proving.{tree_in, ProvesFound, ProvesThis, IsProvenTerm, IsProvenForm, IsWidened, IsLeafBy, IsNatBy}
use Rattle.lam_typing.specs.declared.proving.Proven.{Proven}
use Rattle.lam_typing.specs.declared.grounds.Grounds.{Grounds}

pub step_tree : (rule : TypeRule) (ty : Ty) (premises : Vec TypeProof Global) (sub : Option (Box SubProof Global))
    → typing_tree_of (roll-TypeProof record { rule = rule; ty = ty; typing = premises; sub = sub }) ≡ typing_step rule (typ_of ty) (typings_of premises.items) (option_map (λ q. sub_tree_of q.value) sub)
step_tree rule ty premises sub =
    typing_tree_of-node (roll-TypeProof record { rule = rule; ty = ty; typing = premises; sub = sub })
    ∙ ap (λ o. typing_step o.rule (typ_of o.ty) (typings_of o.typing.items) (option_map (λ q. sub_tree_of q.value) o.sub)) (out-roll-TypeProof record { rule = rule; ty = ty; typing = premises; sub = sub })

-- one more step, of subsumption
pub sub_widened : (p : TypeProof) (ty : Ty) (premises : Vec TypeProof Global) (sub : Box SubProof Global) (t : Typ) (d : Dialect) → premises.items ≡ p ∷ [] → typ_of ty ≡ t
    → ProvesBelow (sub_tree_of sub.value) (typ_of (out-TypeProof p).ty) t d
    → IsWidened (typing_tree_of p) t (Some (typing_tree_of (roll-TypeProof record { rule = TypeRule.Sub; ty = ty; typing = premises; sub = Some sub }))) d
sub_widened p ty premises sub t d one same below g e typing =
    let node : typing_tree_of (roll-TypeProof record { rule = TypeRule.Sub; ty = ty; typing = premises; sub = Some sub }) ≡ typing_step TypeRule.Sub t (typing_first (typing_tree_of p) no_typings) (Some (sub_tree_of sub.value)) =
    step_tree TypeRule.Sub ty premises (Some sub) ∙ (λ i. typing_step TypeRule.Sub (same i) (typings_of (one i)) (Some (sub_tree_of sub.value))) in
    let wf = (below_wf (typ_of (out-TypeProof p).ty) t d (sub_tree_of sub.value, below)).1 in
    let here = context_wf (typing_tree_of p) g e d typing in
    subst (λ q. ProvesTyping q g e t d) (sym node) ((here, wf, (typing, subst (λ s. ProvesBelow (sub_tree_of sub.value) s t d) (sym (type_in-typing_tree_of p)) below)), refl)
  where
    context_wf : (q : TypingTree) (g : Context) (e : Term) (d : Dialect) → IsTyping g e q d → IsWellFormedContext g
    context_wf (typing_step r u ps s) g e d h = h.0

-- lists that were filled from the last to the first

pub trees_pushed : (ps : List TypeProof) (p : TypeProof) → typings_of (reverse (ps ++ p ∷ [])) ≡ typing_first (typing_tree_of p) (typings_of (reverse ps))
trees_pushed ps p = ap typings_of (reverse-append ps (p ∷ []))

pub types_pushed : (fs : List (String Global × Ty)) (f : String Global × Ty) → fields_of (reverse (fs ++ f ∷ [])) ≡ field (string_bytes f.0) (typ_of f.1) (fields_of (reverse fs))
types_pushed fs f = ap fields_of (reverse-append fs (f ∷ []))

-- a step whose parts are equal to those of another

pub step_as : (rule : TypeRule) (u v : Typ) (ps qs : TypingTrees) (t : Typ) (o : Option TypingTree) (d : Dialect) → u ≡ v → ps ≡ qs → IsWidened (typing_step rule u ps None) t o d → IsWidened (typing_step rule v qs None) t o d
step_as rule u v ps qs t o d e f wide = subst (λ n. IsWidened n t o d) (λ i. typing_step rule (e i) (f i) None) wide

-- what options hold

pub some_holds : {A : Type 0} (o : Option A) (x : A) (P : A → Type 0) → o ≡ Some x → IfSome o P → P x
some_holds o x P e h = subst (λ q. IfSome q P) e h

pub some_term : (t : Grounds) (e : Term) (n : ℕ) (o : Option Proven) (m : Proven) → o ≡ Some m → IsProvenTerm t e n (option_map tree_in o) → IsProvenTerm t e n (Some (tree_in m))
some_term t e n o m is proves = subst (λ q. IsProvenTerm t e n (option_map tree_in q)) is proves

pub none_term : (t : Grounds) (e : Term) (n : ℕ) (o : Option Proven) → o ≡ None → IsProvenTerm t e n (option_map tree_in o) → IsProvenTerm t e n None
none_term t e n o is proves = subst (λ q. IsProvenTerm t e n (option_map tree_in q)) is proves

pub some_wide : (p : TypingTree) (u : Typ) (o : Option TypeProof) (m : TypeProof) (d : Dialect) → o ≡ Some m → IsWidened p u (option_map typing_tree_of o) d → IsWidened p u (Some (typing_tree_of m)) d
some_wide p u o m d is wide = subst (λ q. IsWidened p u (option_map typing_tree_of q) d) is wide

pub none_wide : (p : TypingTree) (u : Typ) (o : Option TypeProof) (d : Dialect) → o ≡ None → IsWidened p u (option_map typing_tree_of o) d → IsWidened p u None d
none_wide p u o d is wide = subst (λ q. IsWidened p u (option_map typing_tree_of q) d) is wide

-- from a form to the term, by what was found

this_found : (o : Option TypingTree) (type : Typ) (g : Context) (e : Term) (d : Dialect) → ProvesThis o type g e d → ProvesFound o (Some type) g e d
this_found (Some p) type g e d h = h
this_found None type g e d h = absurd h

pub term_of_form : (t : Grounds) (e : Term) (behind : ℕ) (type : Typ) (o : Option TypingTree) → get_or (found_in t) (behind - 1) None ≡ Some type → IsProvenForm t e (behind - 1) type o → IsProvenTerm t e behind o
term_of_form t e behind type o found form all k s g setting sees at le =
    let place : behind - 1 ≡ place_of_term k e = omega (arith, at) in
    let proves = this_found o type g e (dialect_in t) (form all k s g setting sees place (omega (arith, at, le)) found) in
    subst (λ x. ProvesFound o x g e (dialect_in t)) (sym found ∙ ap (λ n. get_or (found_in t) n None) place) proves

pub term_none : (t : Grounds) (e : Term) (behind : ℕ) → get_or (found_in t) (behind - 1) None ≡ None → IsProvenTerm t e behind None
term_none t e behind found all k s g setting sees at le =
    let place : behind - 1 ≡ place_of_term k e = omega (arith, at) in
    subst (λ x. ProvesFound None x g e (dialect_in t)) (sym found ∙ ap (λ n. get_or (found_in t) n None) place) tt

-- the types of proofs, by their form

pub arrow_in : (m : Proven) (p r : Rc Ty Global) → (out-TypeProof m.proof).ty ≡ Arrow p r → type_in (tree_in m) ≡ arrow (typ_of p.value) (typ_of r.value)
arrow_in m p r is = type_in-typing_tree_of m.proof ∙ ap typ_of is ∙ typ_of-Arrow p r

pub no_arrow_in : (m : Proven) → ((p r : Rc Ty Global) → (out-TypeProof m.proof).ty ≡ Arrow p r → ⊥) → (p r : Typ) → type_in (tree_in m) ≡ arrow p r → ⊥
no_arrow_in m other p r is = no_arrow (out-TypeProof m.proof).ty p r other (sym (type_in-typing_tree_of m.proof) ∙ is)

pub record_in : (m : Proven) (fs : RustFields) → (out-TypeProof m.proof).ty ≡ Record fs → type_in (tree_in m) ≡ record_of (fields_of (out-Fields fs).items.value.items)
record_in m fs is = type_in-typing_tree_of m.proof ∙ ap typ_of is ∙ typ_of-Record fs

pub no_record_in : (m : Proven) → ((fs : RustFields) → (out-TypeProof m.proof).ty ≡ Record fs → ⊥) → (gs : Fields) → type_in (tree_in m) ≡ record_of gs → ⊥
no_record_in m other gs is = no_record (out-TypeProof m.proof).ty gs other (sym (type_in-typing_tree_of m.proof) ∙ is)

pub no_terms_of : (fs : List (String Global × Core)) → length fs ≡ 0 → terms_of fs ≡ no_terms
no_terms_of [] e = refl
no_terms_of (f ∷ fs) e = absurd (omega arith)

-- the index of the first place, counted back from the place of the term

pub first_before : (made : Option Proven) (n k place : ℕ) → IfSome made (λ m. m.first ≡ n) → n + k ≡ place → IfSome made (λ m. m.first + k ≡ place)
first_before None n k place same sum = tt
first_before (Some m) n k place same sum = omega arith

pub first_behind : (made : Option Proven) (k place behind : ℕ) → IfSome made (λ m. m.first + k ≡ place) → place + 1 ≡ behind → IfSome made (λ m. m.first + k + 1 ≡ behind)
first_behind None k place behind sum is = tt
first_behind (Some m) k place behind sum is = omega arith

-- a term that gets its type from a rule without premises has no other places
pub inside_leaf : (rule : TypeRule) (e : Term) (t : Typ) → IsLeafBy rule e t → inside e ≡ 0
inside_leaf TypeRule.True true_term t is = refl
inside_leaf TypeRule.False false_term t is = refl
inside_leaf TypeRule.Num (numeral digits) t is = refl
inside_leaf TypeRule.Unit unit_term t is = refl
inside_leaf _ _ t is = absurd is

-- an operation on a number has one place more than its operand
pub inside_number : (rule : TypeRule) (e operand : Term) (t : Typ) → IsNatBy rule e operand t → inside e ≡ inside operand + 1
inside_number TypeRule.Succ (succ e) operand t is = ap (λ x. inside x + 1) is.0
inside_number TypeRule.Pred (pred e) operand t is = ap (λ x. inside x + 1) is.0
inside_number TypeRule.IsZero (is_zero e) operand t is = ap (λ x. inside x + 1) is.0
inside_number _ _ operand t is = absurd is
