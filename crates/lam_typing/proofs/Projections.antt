-- A projection has a type just where the least type of the term before the dot is a record type with that label.
use Rattle.std.proofs.Common.{Some, None, sym, subst}
use Rattle.lam_rules.specs.Types.{Label, Typ, record_of, Fields, Has}
use Rattle.lam_rules.specs.Terms.{Term, project}
use Rattle.lam_rules.specs.Subtyping.{IsBelow}
use Rattle.lam_rules.specs.Typing.{Context, HasField}
use Rattle.lam_rules.specs.declared.rules.Dialect.{Dialect}
use Rattle.lam_rules.proofs.Composing.{below_trans}
use Rattle.lam_rules.proofs.SharedTexts.{one_type}
use Rattle.lam_sub.proofs.Arranging.{field_below}
use Rattle.lam_sub.proofs.Below.{below_record_is}
use Rattle.lam_scope.specs.Places.{Scope}
use Rattle.lam_typing.specs.LeastTypes.{IsTypeAt, IsLeastAt}
use Rattle.lam_typing.proofs.Derivations.{Derives, derives, derives_wf, has_type, t_proj}
use Rattle.lam_typing.proofs.Inversions.{of_project}

-- a type of the projection is above that of a field of a record type that the term before the dot has

record OperandAt (s : Scope) (e : Term) (l : Label) (t : Typ) (d : Dialect) : Type 0 where
  fields : Fields
  type_of_field : Typ
  operand : IsTypeAt s e (record_of fields) d
  has : Has l type_of_field fields
  below : IsBelow type_of_field t d

operand_at : (s : Scope) (e : Term) (l : Label) (t : Typ) (d : Dialect) → IsTypeAt s (project e l) t d → OperandAt s e l t d
operand_at s e l t d is =
    let h = of_project is.0 e l t d (derives is.0 (project e l) t d is.2) in
    record {
      fields = h.fields;
      type_of_field = h.type_of_field;
      operand = (is.0, is.1, has_type is.0 e (record_of h.fields) d h.operand);
      has = h.has;
      below = h.below;
    }

pub untyped_operand : (s : Scope) (e : Term) (l : Label) (t : Typ) (d : Dialect) → IsLeastAt s e None d → IsTypeAt s (project e l) t d → ⊥
untyped_operand s e l t d none is = let h = operand_at s e l t d is in none (record_of h.fields) h.operand

-- the least type has that label too, and its field is below each type of the projection
pub field_of_least : (s : Scope) (e : Term) (l : Label) (u t : Typ) (d : Dialect)
    → IsLeastAt s e (Some u) d → IsTypeAt s (project e l) t d → (v : Typ) × HasField u l v × IsBelow v t d
field_of_least s e l u t d least is =
    let h = operand_at s e l t d is in
    let k = below_record_is u h.fields d (least.1 (record_of h.fields) h.operand) in
    let f = field_below k.0 h.fields d k.3 l h.type_of_field h.has in
    (f.0, subst (λ z. HasField z l f.0) (sym k.1) f.1, below_trans f.0 h.type_of_field t d f.2 h.below)

-- the type of that field is the least of the projection: a record type has one field of a label
pub field_is_least : (s : Scope) (e : Term) (l : Label) (fs : Fields) (t : Typ) (d : Dialect)
    → IsLeastAt s e (Some (record_of fs)) d → Has l t fs → IsLeastAt s (project e l) (Some t) d
field_is_least s e l fs t d least has = ((g, least.0.1, has_type g (project e l) t d (t_proj operand has)), above)
  where
    g : Context
    g = least.0.0

    operand : Derives g e (record_of fs) d
    operand = derives g e (record_of fs) d least.0.2

    above : (u : Typ) → IsTypeAt s (project e l) u d → IsBelow t u d
    above u is =
        let f = field_of_least s e l (record_of fs) u d least is in
        let same = one_type fs (derives_wf g e (record_of fs) d operand).1 l f.0 t f.1 has in
        subst (λ z. IsBelow z u d) same f.2
