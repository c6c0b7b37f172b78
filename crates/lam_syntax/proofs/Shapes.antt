-- How written types and terms are seen as trees: the tree of each variant.
use Rattle.std.proofs.Common.{◌≡◌, List, [], ◌∷◌, ◌++◌, map, ap, sym, ◌∙◌, refl, Vec, Box}
use Rattle.std.specs.declared.alloc.Global.{Global}
use Rattle.lam_syntax.specs.declared.identifier.Identifier.{Identifier}
use Rattle.lam_syntax.specs.declared.types.WrittenTy.{WrittenTy, fold-WrittenTy, fold_out-WrittenTy}
use Rattle.lam_syntax.specs.declared.types.ArrowTy.{ArrowTy, fold-ArrowTy, fold_out-ArrowTy}
use Rattle.lam_syntax.specs.declared.types.TyField.{TyField, fold-TyField, fold_out-TyField}
use Rattle.lam_syntax.specs.declared.types.TyNode.{fold-roll-TyNode}
use Rattle.lam_syntax.specs.declared.types.TyNode.TheOpen.{TyNode-F}
use Rattle.lam_syntax.specs.declared.types.TyNode.TheVariants as types
use Rattle.lam_syntax.specs.declared.terms.Prefix.{Prefix}
use Rattle.lam_syntax.specs.declared.terms.Application.{Application, fold-Application, fold_out-Application}
use Rattle.lam_syntax.specs.declared.terms.Ascription.{Ascription, fold-Ascription, fold_out-Ascription}
use Rattle.lam_syntax.specs.declared.terms.Conditional.{Conditional, fold-Conditional, fold_out-Conditional}
use Rattle.lam_syntax.specs.declared.terms.Lambda.{Lambda, fold-Lambda, fold_out-Lambda}
use Rattle.lam_syntax.specs.declared.terms.Let.{Let, fold-Let, fold_out-Let}
use Rattle.lam_syntax.specs.declared.terms.Letrec.{Letrec, fold-Letrec, fold_out-Letrec}
use Rattle.lam_syntax.specs.declared.terms.Projection.{Projection, fold-Projection, fold_out-Projection}
use Rattle.lam_syntax.specs.declared.terms.Tm.{Tm, fold-Tm, fold_out-Tm}
use Rattle.lam_syntax.specs.declared.terms.TmField.{TmField, fold-TmField, fold_out-TmField}
use Rattle.lam_syntax.specs.declared.terms.TmNode.{fold-roll-TmNode}
use Rattle.lam_syntax.specs.declared.terms.TmNode.TheOpen.{TmNode-F}
use Rattle.lam_syntax.specs.declared.terms.TmNode.TheVariants as terms
use Rattle.lam_syntax.specs.Trees.{Word, TypeTree, TypeNode, bool, nat, unit, top, named, arrow, record_type, no_type_fields, type_field, TermTree, TermNode, true_term, false_term, unit_term, variable, numeral, lambda, if_term, let_term, letrec_term, prefixed, apply, project, ascribe, record_term, no_fields, field, joined_types, joined}
use Rattle.lam_syntax.specs.Views.{word_of, bound_of, type_fields_made, type_node_step, arrow_step, type_field_step, type_tree_step, type_node_of, type_of, type_fields_of, fields_made, application_step, ascription_step, conditional_step, lambda_step, let_step, letrec_step, projection_step, node_step, field_step, tree_step, term_node_of, term_of, fields_of}

-- written types

type_of-fold : (t : WrittenTy) → fold-WrittenTy TypeNode TypeNode (Word × TypeTree) TypeTree type_node_step arrow_step type_field_step type_tree_step t ≡ type_of t
unfolding type_node_of
type_of-fold t = fold_out-WrittenTy TypeNode TypeNode (Word × TypeTree) TypeTree type_node_step arrow_step type_field_step type_tree_step t

type_field-fold : (f : TyField) → fold-TyField TypeNode TypeNode (Word × TypeTree) TypeTree type_node_step arrow_step type_field_step type_tree_step f ≡ (word_of f.label, type_of f.ty)
unfolding type_node_of
type_field-fold f = fold_out-TyField TypeNode TypeNode (Word × TypeTree) TypeTree type_node_step arrow_step type_field_step type_tree_step f ∙ ap (λ t. (word_of f.label, t)) (type_of-fold f.ty)

type_fields-fold : (fs : List TyField) → type_fields_made (map (fold-TyField TypeNode TypeNode (Word × TypeTree) TypeTree type_node_step arrow_step type_field_step type_tree_step) fs) ≡ type_fields_of fs
type_fields-fold [] = refl
type_fields-fold (f ∷ fs) = (λ i. type_field ((type_field-fold f i).0) ((type_field-fold f i).1) (type_fields-fold fs i))

arrow-fold : (a : ArrowTy) → fold-ArrowTy TypeNode TypeNode (Word × TypeTree) TypeTree type_node_step arrow_step type_field_step type_tree_step a ≡ arrow (type_of a.parameter) (type_of a.outcome)
unfolding type_node_of
arrow-fold a = fold_out-ArrowTy TypeNode TypeNode (Word × TypeTree) TypeTree type_node_step arrow_step type_field_step type_tree_step a ∙ (λ i. arrow (type_of-fold a.parameter i) (type_of-fold a.outcome i))

pub type_node_of-Bool : type_node_of types.Bool ≡ bool
unfolding type_node_of
type_node_of-Bool = ap type_node_of (sym types.rolls-Bool) ∙ fold-roll-TyNode TypeNode TypeNode (Word × TypeTree) TypeTree type_node_step arrow_step type_field_step type_tree_step TyNode-F.Bool

pub type_node_of-Nat : type_node_of types.Nat ≡ nat
unfolding type_node_of
type_node_of-Nat = ap type_node_of (sym types.rolls-Nat) ∙ fold-roll-TyNode TypeNode TypeNode (Word × TypeTree) TypeTree type_node_step arrow_step type_field_step type_tree_step TyNode-F.Nat

pub type_node_of-Unit : type_node_of types.Unit ≡ unit
unfolding type_node_of
type_node_of-Unit = ap type_node_of (sym types.rolls-Unit) ∙ fold-roll-TyNode TypeNode TypeNode (Word × TypeTree) TypeTree type_node_step arrow_step type_field_step type_tree_step TyNode-F.Unit

pub type_node_of-Top : type_node_of types.Top ≡ top
unfolding type_node_of
type_node_of-Top = ap type_node_of (sym types.rolls-Top) ∙ fold-roll-TyNode TypeNode TypeNode (Word × TypeTree) TypeTree type_node_step arrow_step type_field_step type_tree_step TyNode-F.Top

pub type_node_of-Named : (x : Identifier) → type_node_of (types.Named x) ≡ named (word_of x)
unfolding type_node_of
type_node_of-Named x = ap type_node_of (sym (types.rolls-Named x)) ∙ fold-roll-TyNode TypeNode TypeNode (Word × TypeTree) TypeTree type_node_step arrow_step type_field_step type_tree_step (TyNode-F.Named x)

pub type_node_of-Arrow : (a : Box ArrowTy Global) → type_node_of (types.Arrow a) ≡ arrow (type_of a.value.parameter) (type_of a.value.outcome)
unfolding type_node_of
type_node_of-Arrow a = ap type_node_of (sym (types.rolls-Arrow a)) ∙ fold-roll-TyNode TypeNode TypeNode (Word × TypeTree) TypeTree type_node_step arrow_step type_field_step type_tree_step (TyNode-F.Arrow a) ∙ arrow-fold a.value

pub type_node_of-Record : (fs : Vec TyField Global) → type_node_of (types.Record fs) ≡ record_type (type_fields_of fs.items)
unfolding type_node_of
type_node_of-Record fs = ap type_node_of (sym (types.rolls-Record fs)) ∙ fold-roll-TyNode TypeNode TypeNode (Word × TypeTree) TypeTree type_node_step arrow_step type_field_step type_tree_step (TyNode-F.Record fs) ∙ ap record_type (type_fields-fold fs.items)

pub type_fields_of-push : (fs : List TyField) (f : TyField) → type_fields_of (fs ++ f ∷ []) ≡ joined_types (type_fields_of fs) (type_field (word_of f.label) (type_of f.ty) no_type_fields)
type_fields_of-push [] f = refl
type_fields_of-push (g ∷ fs) f = ap (type_field (word_of g.label) (type_of g.ty)) (type_fields_of-push fs f)

-- terms

term_of-fold : (t : Tm) → fold-Tm TermNode TermNode TermNode TermNode TermNode TermNode TermNode TermNode TermTree (Word × TermTree) node_step application_step ascription_step conditional_step lambda_step let_step letrec_step projection_step tree_step field_step t ≡ term_of t
unfolding term_node_of
term_of-fold t = fold_out-Tm TermNode TermNode TermNode TermNode TermNode TermNode TermNode TermNode TermTree (Word × TermTree) node_step application_step ascription_step conditional_step lambda_step let_step letrec_step projection_step tree_step field_step t

field-fold : (f : TmField) → fold-TmField TermNode TermNode TermNode TermNode TermNode TermNode TermNode TermNode TermTree (Word × TermTree) node_step application_step ascription_step conditional_step lambda_step let_step letrec_step projection_step tree_step field_step f ≡ (word_of f.label, term_of f.term)
unfolding term_node_of
field-fold f = fold_out-TmField TermNode TermNode TermNode TermNode TermNode TermNode TermNode TermNode TermTree (Word × TermTree) node_step application_step ascription_step conditional_step lambda_step let_step letrec_step projection_step tree_step field_step f ∙ ap (λ t. (word_of f.label, t)) (term_of-fold f.term)

fields-fold : (fs : List TmField) → fields_made (map (fold-TmField TermNode TermNode TermNode TermNode TermNode TermNode TermNode TermNode TermTree (Word × TermTree) node_step application_step ascription_step conditional_step lambda_step let_step letrec_step projection_step tree_step field_step) fs) ≡ fields_of fs
fields-fold [] = refl
fields-fold (f ∷ fs) = (λ i. field ((field-fold f i).0) ((field-fold f i).1) (fields-fold fs i))

application-fold : (a : Application) → fold-Application TermNode TermNode TermNode TermNode TermNode TermNode TermNode TermNode TermTree (Word × TermTree) node_step application_step ascription_step conditional_step lambda_step let_step letrec_step projection_step tree_step field_step a ≡ apply (term_of a.function) (term_of a.argument)
unfolding term_node_of
application-fold a = fold_out-Application TermNode TermNode TermNode TermNode TermNode TermNode TermNode TermNode TermTree (Word × TermTree) node_step application_step ascription_step conditional_step lambda_step let_step letrec_step projection_step tree_step field_step a ∙ (λ i. apply (term_of-fold a.function i) (term_of-fold a.argument i))

ascription-fold : (a : Ascription) → fold-Ascription TermNode TermNode TermNode TermNode TermNode TermNode TermNode TermNode TermTree (Word × TermTree) node_step application_step ascription_step conditional_step lambda_step let_step letrec_step projection_step tree_step field_step a ≡ ascribe (term_of a.operand) (type_of a.ty)
unfolding term_node_of
ascription-fold a = fold_out-Ascription TermNode TermNode TermNode TermNode TermNode TermNode TermNode TermNode TermTree (Word × TermTree) node_step application_step ascription_step conditional_step lambda_step let_step letrec_step projection_step tree_step field_step a ∙ ap (λ t. ascribe t (type_of a.ty)) (term_of-fold a.operand)

conditional-fold : (c : Conditional) → fold-Conditional TermNode TermNode TermNode TermNode TermNode TermNode TermNode TermNode TermTree (Word × TermTree) node_step application_step ascription_step conditional_step lambda_step let_step letrec_step projection_step tree_step field_step c ≡ if_term (term_of c.condition) (term_of c.then_term) (term_of c.else_term)
unfolding term_node_of
conditional-fold c = fold_out-Conditional TermNode TermNode TermNode TermNode TermNode TermNode TermNode TermNode TermTree (Word × TermTree) node_step application_step ascription_step conditional_step lambda_step let_step letrec_step projection_step tree_step field_step c ∙ (λ i. if_term (term_of-fold c.condition i) (term_of-fold c.then_term i) (term_of-fold c.else_term i))

lambda-fold : (l : Lambda) → fold-Lambda TermNode TermNode TermNode TermNode TermNode TermNode TermNode TermNode TermTree (Word × TermTree) node_step application_step ascription_step conditional_step lambda_step let_step letrec_step projection_step tree_step field_step l ≡ lambda (bound_of l.binder) (type_of l.ty) (term_of l.body)
unfolding term_node_of
lambda-fold l = fold_out-Lambda TermNode TermNode TermNode TermNode TermNode TermNode TermNode TermNode TermTree (Word × TermTree) node_step application_step ascription_step conditional_step lambda_step let_step letrec_step projection_step tree_step field_step l ∙ ap (lambda (bound_of l.binder) (type_of l.ty)) (term_of-fold l.body)

let-fold : (l : Let) → fold-Let TermNode TermNode TermNode TermNode TermNode TermNode TermNode TermNode TermTree (Word × TermTree) node_step application_step ascription_step conditional_step lambda_step let_step letrec_step projection_step tree_step field_step l ≡ let_term (bound_of l.binder) (term_of l.bound) (term_of l.body)
unfolding term_node_of
let-fold l = fold_out-Let TermNode TermNode TermNode TermNode TermNode TermNode TermNode TermNode TermTree (Word × TermTree) node_step application_step ascription_step conditional_step lambda_step let_step letrec_step projection_step tree_step field_step l ∙ (λ i. let_term (bound_of l.binder) (term_of-fold l.bound i) (term_of-fold l.body i))

letrec-fold : (l : Letrec) → fold-Letrec TermNode TermNode TermNode TermNode TermNode TermNode TermNode TermNode TermTree (Word × TermTree) node_step application_step ascription_step conditional_step lambda_step let_step letrec_step projection_step tree_step field_step l ≡ letrec_term (bound_of l.binder) (type_of l.ty) (term_of l.bound) (term_of l.body)
unfolding term_node_of
letrec-fold l = fold_out-Letrec TermNode TermNode TermNode TermNode TermNode TermNode TermNode TermNode TermTree (Word × TermTree) node_step application_step ascription_step conditional_step lambda_step let_step letrec_step projection_step tree_step field_step l ∙ (λ i. letrec_term (bound_of l.binder) (type_of l.ty) (term_of-fold l.bound i) (term_of-fold l.body i))

projection-fold : (p : Projection) → fold-Projection TermNode TermNode TermNode TermNode TermNode TermNode TermNode TermNode TermTree (Word × TermTree) node_step application_step ascription_step conditional_step lambda_step let_step letrec_step projection_step tree_step field_step p ≡ project (term_of p.record) (word_of p.label)
unfolding term_node_of
projection-fold p = fold_out-Projection TermNode TermNode TermNode TermNode TermNode TermNode TermNode TermNode TermTree (Word × TermTree) node_step application_step ascription_step conditional_step lambda_step let_step letrec_step projection_step tree_step field_step p ∙ ap (λ t. project t (word_of p.label)) (term_of-fold p.record)

pub term_node_of-True : term_node_of terms.True ≡ true_term
unfolding term_node_of
term_node_of-True = ap term_node_of (sym terms.rolls-True) ∙ fold-roll-TmNode TermNode TermNode TermNode TermNode TermNode TermNode TermNode TermNode TermTree (Word × TermTree) node_step application_step ascription_step conditional_step lambda_step let_step letrec_step projection_step tree_step field_step TmNode-F.True

pub term_node_of-False : term_node_of terms.False ≡ false_term
unfolding term_node_of
term_node_of-False = ap term_node_of (sym terms.rolls-False) ∙ fold-roll-TmNode TermNode TermNode TermNode TermNode TermNode TermNode TermNode TermNode TermTree (Word × TermTree) node_step application_step ascription_step conditional_step lambda_step let_step letrec_step projection_step tree_step field_step TmNode-F.False

pub term_node_of-Unit : term_node_of terms.Unit ≡ unit_term
unfolding term_node_of
term_node_of-Unit = ap term_node_of (sym terms.rolls-Unit) ∙ fold-roll-TmNode TermNode TermNode TermNode TermNode TermNode TermNode TermNode TermNode TermTree (Word × TermTree) node_step application_step ascription_step conditional_step lambda_step let_step letrec_step projection_step tree_step field_step TmNode-F.Unit

pub term_node_of-Variable : (x : Identifier) → term_node_of (terms.Variable x) ≡ variable (word_of x)
unfolding term_node_of
term_node_of-Variable x = ap term_node_of (sym (terms.rolls-Variable x)) ∙ fold-roll-TmNode TermNode TermNode TermNode TermNode TermNode TermNode TermNode TermNode TermTree (Word × TermTree) node_step application_step ascription_step conditional_step lambda_step let_step letrec_step projection_step tree_step field_step (TmNode-F.Variable x)

pub term_node_of-Numeral : (x : Identifier) → term_node_of (terms.Numeral x) ≡ numeral (word_of x)
unfolding term_node_of
term_node_of-Numeral x = ap term_node_of (sym (terms.rolls-Numeral x)) ∙ fold-roll-TmNode TermNode TermNode TermNode TermNode TermNode TermNode TermNode TermNode TermTree (Word × TermTree) node_step application_step ascription_step conditional_step lambda_step let_step letrec_step projection_step tree_step field_step (TmNode-F.Numeral x)

pub term_node_of-Lambda : (l : Box Lambda Global) → term_node_of (terms.Lambda l) ≡ lambda (bound_of l.value.binder) (type_of l.value.ty) (term_of l.value.body)
unfolding term_node_of
term_node_of-Lambda l = ap term_node_of (sym (terms.rolls-Lambda l)) ∙ fold-roll-TmNode TermNode TermNode TermNode TermNode TermNode TermNode TermNode TermNode TermTree (Word × TermTree) node_step application_step ascription_step conditional_step lambda_step let_step letrec_step projection_step tree_step field_step (TmNode-F.Lambda l) ∙ lambda-fold l.value

pub term_node_of-If : (c : Box Conditional Global) → term_node_of (terms.If c) ≡ if_term (term_of c.value.condition) (term_of c.value.then_term) (term_of c.value.else_term)
unfolding term_node_of
term_node_of-If c = ap term_node_of (sym (terms.rolls-If c)) ∙ fold-roll-TmNode TermNode TermNode TermNode TermNode TermNode TermNode TermNode TermNode TermTree (Word × TermTree) node_step application_step ascription_step conditional_step lambda_step let_step letrec_step projection_step tree_step field_step (TmNode-F.If c) ∙ conditional-fold c.value

pub term_node_of-Let : (l : Box Let Global) → term_node_of (terms.Let l) ≡ let_term (bound_of l.value.binder) (term_of l.value.bound) (term_of l.value.body)
unfolding term_node_of
term_node_of-Let l = ap term_node_of (sym (terms.rolls-Let l)) ∙ fold-roll-TmNode TermNode TermNode TermNode TermNode TermNode TermNode TermNode TermNode TermTree (Word × TermTree) node_step application_step ascription_step conditional_step lambda_step let_step letrec_step projection_step tree_step field_step (TmNode-F.Let l) ∙ let-fold l.value

pub term_node_of-Letrec : (l : Box Letrec Global) → term_node_of (terms.Letrec l) ≡ letrec_term (bound_of l.value.binder) (type_of l.value.ty) (term_of l.value.bound) (term_of l.value.body)
unfolding term_node_of
term_node_of-Letrec l = ap term_node_of (sym (terms.rolls-Letrec l)) ∙ fold-roll-TmNode TermNode TermNode TermNode TermNode TermNode TermNode TermNode TermNode TermTree (Word × TermTree) node_step application_step ascription_step conditional_step lambda_step let_step letrec_step projection_step tree_step field_step (TmNode-F.Letrec l) ∙ letrec-fold l.value

pub term_node_of-Prefixed : (p : Prefix) (t : Box Tm Global) → term_node_of (terms.Prefixed p t) ≡ prefixed p (term_of t.value)
unfolding term_node_of
term_node_of-Prefixed p t = ap term_node_of (sym (terms.rolls-Prefixed p t)) ∙ fold-roll-TmNode TermNode TermNode TermNode TermNode TermNode TermNode TermNode TermNode TermTree (Word × TermTree) node_step application_step ascription_step conditional_step lambda_step let_step letrec_step projection_step tree_step field_step (TmNode-F.Prefixed p t) ∙ ap (prefixed p) (term_of-fold t.value)

pub term_node_of-Apply : (a : Box Application Global) → term_node_of (terms.Apply a) ≡ apply (term_of a.value.function) (term_of a.value.argument)
unfolding term_node_of
term_node_of-Apply a = ap term_node_of (sym (terms.rolls-Apply a)) ∙ fold-roll-TmNode TermNode TermNode TermNode TermNode TermNode TermNode TermNode TermNode TermTree (Word × TermTree) node_step application_step ascription_step conditional_step lambda_step let_step letrec_step projection_step tree_step field_step (TmNode-F.Apply a) ∙ application-fold a.value

pub term_node_of-Project : (p : Box Projection Global) → term_node_of (terms.Project p) ≡ project (term_of p.value.record) (word_of p.value.label)
unfolding term_node_of
term_node_of-Project p = ap term_node_of (sym (terms.rolls-Project p)) ∙ fold-roll-TmNode TermNode TermNode TermNode TermNode TermNode TermNode TermNode TermNode TermTree (Word × TermTree) node_step application_step ascription_step conditional_step lambda_step let_step letrec_step projection_step tree_step field_step (TmNode-F.Project p) ∙ projection-fold p.value

pub term_node_of-Ascribe : (a : Box Ascription Global) → term_node_of (terms.Ascribe a) ≡ ascribe (term_of a.value.operand) (type_of a.value.ty)
unfolding term_node_of
term_node_of-Ascribe a = ap term_node_of (sym (terms.rolls-Ascribe a)) ∙ fold-roll-TmNode TermNode TermNode TermNode TermNode TermNode TermNode TermNode TermNode TermTree (Word × TermTree) node_step application_step ascription_step conditional_step lambda_step let_step letrec_step projection_step tree_step field_step (TmNode-F.Ascribe a) ∙ ascription-fold a.value

pub term_node_of-Record : (fs : Vec TmField Global) → term_node_of (terms.Record fs) ≡ record_term (fields_of fs.items)
unfolding term_node_of
term_node_of-Record fs = ap term_node_of (sym (terms.rolls-Record fs)) ∙ fold-roll-TmNode TermNode TermNode TermNode TermNode TermNode TermNode TermNode TermNode TermTree (Word × TermTree) node_step application_step ascription_step conditional_step lambda_step let_step letrec_step projection_step tree_step field_step (TmNode-F.Record fs) ∙ ap record_term (fields-fold fs.items)

pub fields_of-push : (fs : List TmField) (f : TmField) → fields_of (fs ++ f ∷ []) ≡ joined (fields_of fs) (field (word_of f.label) (term_of f.term) no_fields)
fields_of-push [] f = refl
fields_of-push (g ∷ fs) f = ap (field (word_of g.label) (term_of g.term)) (fields_of-push fs f)

pub ruleset type_shapes = (type_node_of-Bool, type_node_of-Nat, type_node_of-Unit, type_node_of-Top, type_node_of-Named, type_node_of-Arrow, type_node_of-Record, type_fields_of-push)

pub ruleset term_shapes = (term_node_of-True, term_node_of-False, term_node_of-Unit, term_node_of-Variable, term_node_of-Numeral, term_node_of-Lambda, term_node_of-If, term_node_of-Let, term_node_of-Letrec, term_node_of-Prefixed, term_node_of-Apply, term_node_of-Project, term_node_of-Ascribe, term_node_of-Record, fields_of-push)
