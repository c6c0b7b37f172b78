-- How nameless forms are made.
use Rattle.std.proofs.Common.{◌≡◌, ℕ, ◌+◌, ◌≤◌, min, ltb, Bool, true, false, Option, Some, None, List, [], ◌∷◌, ◌++◌, length, drop, refl, ap, sym, ◌∙◌, append_assoc, arith, String, string_bytes}
use Rattle.std.specs.Prelude.{if◌then◌else◌}
use Rattle.std.specs.Option.{option_or}
use Rattle.std.proofs.lemmas.List.{append-nil, drop_all}
use Rattle.std.proofs.lemmas.Bool.Decides.{nat_tests}
use Rattle.lam_token.specs.declared.span.Span.{Span}
use Rattle.lam_rules.specs.Types.{Typ, nodes}
use Rattle.lam_syntax.specs.Trees.{TypeTree, type_span}
use Rattle.std.specs.declared.alloc.Global.{Global}
use Rattle.lam_rules.specs.declared.terms.Core.{Core}
use Rattle.lam_rules.specs.Terms.{TermFields, no_terms, term_field}
use Rattle.lam_rules.specs.TermViews.{term_of, terms_of}
use Rattle.lam_rules.proofs.TermShapes.{term_of-True, term_of-False, term_of-If, term_of-Num, term_of-Succ, term_of-Pred, term_of-IsZero, term_of-Var, term_of-Free, term_of-Abs, term_of-App, term_of-Unit, term_of-Ascribe, term_of-Let, term_of-Record, term_of-Proj, term_of-Fix}
use Rattle.lam_syntax.proofs.Shapes.{term_node_of-True, term_node_of-False, term_node_of-Unit, term_node_of-Variable, term_node_of-Numeral, term_node_of-Lambda, term_node_of-If, term_node_of-Let, term_node_of-Letrec, term_node_of-Prefixed, term_node_of-Apply, term_node_of-Project, term_node_of-Ascribe, term_node_of-Record}
use Rattle.lam_syntax.specs.declared.terms.TmField.{TmField}
use Rattle.lam_syntax.specs.Views.{fields_of}
use Rattle.lam_scope.specs.Expansions.{Abbreviation, node_limit, expansion, type_faults, is_over_limit, capped_nodes, is_capped}
use Rattle.lam_scope.specs.Nameless.{faults_in, first_over_limit}
use Rattle.lam_scope.specs.Indexed.{indexed_fields}
use Rattle.lam_scope.specs.Tables.{TextUse}
use Rattle.lam_scope.proofs.Walks.{fields_of-drop}

-- fields of a record, and more behind them
abbrev pub joined_terms : TermFields → TermFields → TermFields
joined_terms no_terms gs = gs
joined_terms (term_field l e fs) gs = term_field l e (joined_terms fs gs)

pub joined_terms-none : (fs : TermFields) → joined_terms fs no_terms ≡ fs
joined_terms-none no_terms = refl
joined_terms-none (term_field l e fs) = ap (λ r. term_field l e r) (joined_terms-none fs)

pub joined_terms-push : (fs : List (String Global × Core)) (f : String Global × Core) (gs : TermFields)
    → joined_terms (terms_of (fs ++ f ∷ [])) gs ≡ joined_terms (terms_of fs) (term_field (string_bytes f.0) (term_of f.1) gs)
joined_terms-push [] f gs = refl
joined_terms-push (g ∷ fs) f gs = ap (λ r. term_field (string_bytes g.0) (term_of g.1) r) (joined_terms-push fs f gs)

pub forms_all : (bs : List Abbreviation) (us : List TextUse) (forms : List (String Global × Core)) (fs : List TmField) (i : ℕ) (all : TermFields) → length fs ≤ i
    → joined_terms (terms_of forms) (indexed_fields bs (fields_of (drop i fs)) us) ≡ all → terms_of forms ≡ all
forms_all bs us forms fs i all le so_far = sym (joined_terms-none (terms_of forms)) ∙ (rw (drop_all i fs le) at so_far)

-- the written types of a term

pub ltb-capped : (n : ℕ) → ltb node_limit (min n (node_limit + 1)) ≡ ltb node_limit n
ltb-capped n = grind (arith, nat_tests)

pub is_capped-nodes : (o : Option Typ) → is_capped (capped_nodes o) ≡ is_over_limit o
is_capped-nodes None = refl
is_capped-nodes (Some t) = ltb-capped (nodes t)

pub faults_in-append : (bs : List Abbreviation) (us vs : List TypeTree) → faults_in bs (us ++ vs) ≡ faults_in bs us ++ faults_in bs vs
faults_in-append bs [] vs = refl
faults_in-append bs (u ∷ us) vs = ap (λ fs. type_faults bs u ++ fs) (faults_in-append bs us vs) ∙ sym (append_assoc (type_faults bs u) (faults_in bs us) (faults_in bs vs))

-- the first that is too large, or else another one
or_else : (c : Bool) (s : Span) (o p : Option Span) → (if c then Some s else option_or o p) ≡ option_or (if c then Some s else o) p
or_else true s o p = refl
or_else false s o p = refl

pub over_limit-append : (bs : List Abbreviation) (us vs : List TypeTree) → first_over_limit bs (us ++ vs) ≡ option_or (first_over_limit bs us) (first_over_limit bs vs)
over_limit-append bs [] vs = refl
over_limit-append bs (u ∷ us) vs =
    ap (λ o. if is_over_limit (expansion bs u) then Some (type_span u) else o) (over_limit-append bs us vs)
    ∙ or_else (is_over_limit (expansion bs u)) (type_span u) (first_over_limit bs us) (first_over_limit bs vs)

pub ruleset joining = (over_limit-append, faults_in-append, append-nil, append_assoc)

-- what each step of a nameless form needs

pub ruleset node_forms = (term_node_of-True, term_node_of-False, term_node_of-Unit, term_node_of-Variable, term_node_of-Numeral, term_node_of-Lambda, term_node_of-If, term_node_of-Let, term_node_of-Letrec, term_node_of-Prefixed, term_node_of-Apply, term_node_of-Project, term_node_of-Ascribe, term_node_of-Record, term_of-True, term_of-False, term_of-Unit, append-nil)

pub ruleset type_forms = (is_capped-nodes, append-nil)

pub ruleset use_forms = (term_of-Var, term_of-Free, term_of-Num)

pub ruleset lambda_form = (term_of-Abs, joining)

pub ruleset if_form = (term_of-If, joining)

pub ruleset let_form = (term_of-Let, joining)

pub ruleset prefixed_forms = (term_of-Fix, term_of-Succ, term_of-Pred, term_of-IsZero)

pub ruleset apply_form = (term_of-App, joining)

pub ruleset project_form = (term_of-Proj, joining)

pub ruleset ascribe_form = (term_of-Ascribe, joining)

pub ruleset record_form = (term_of-Record, append-nil)

pub ruleset field_forms = (fields_of-drop, joined_terms-none, joined_terms-push, joining)
