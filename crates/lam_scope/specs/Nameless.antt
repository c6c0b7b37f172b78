-- The document in nameless form: each use of a name is a de Bruijn index, or the name itself if it is unbound. A written type is its expansion, so no type name is left in a term.
use Rattle.std.specs.Prelude.{ℕ, List, [], ◌∷◌, ◌++◌, Option, Some, None, if◌then◌else◌}
use Rattle.std.specs.Option.{option_or}
use Rattle.lam_token.specs.declared.span.Span.{Span}
use Rattle.lam_rules.specs.Terms.{Term, true_term, false_term, if_then_else, numeral, succ, pred, is_zero, variable, free, lambda, apply, unit_term, ascribe, let_in, record_term, project, fix, TermFields, no_terms, term_field, letrec_in}
use Rattle.lam_syntax.specs.declared.terms.Prefix.{Prefix}
use Rattle.lam_syntax.specs.declared.terms.Prefix.TheVariants as prefix
use Rattle.lam_syntax.specs.Trees as tree
use Rattle.lam_syntax.specs.Trees.{word, bound, TypeTree, TermTree, term_tree, TermNode, CommandTree, definition, declaration, evaluation, type_span}
use Rattle.lam_scope.specs.declared.type_fault.TypeFault.{TypeFault}
use Rattle.lam_scope.specs.Names.{Name, index_of}
use Rattle.lam_scope.specs.Expansions.{Abbreviation, stands_for, expansion, type_faults, is_over_limit}
use Rattle.lam_scope.specs.Places.{Statement, defines, declares, abbreviates, states}

-- a use of a name: its de Bruijn index, or the name itself if it is unbound
abbrev pub use_indexed : Name → Option ℕ → Term
use_indexed x None = free x
use_indexed x (Some n) = variable n

-- a term with a prefix keyword
abbrev pub prefixed : Prefix → Term → Term
prefixed prefix.Fix e = fix e
prefixed prefix.Succ e = succ e
prefixed prefix.Pred e = pred e
prefixed prefix.IsZero e = is_zero e

-- The nameless form of a term under these abbreviations and these binders of names. A letrec stands for a let of a fix.
abbrev mutual
  pub nameless : List Abbreviation → List (Option Name) → TermTree → Term
  nameless bs xs (term_tree s n) = nameless_node bs xs n

  -- that of the form of a term
  pub nameless_node : List Abbreviation → List (Option Name) → TermNode → Term
  nameless_node bs xs tree.true_term = true_term
  nameless_node bs xs tree.false_term = false_term
  nameless_node bs xs tree.unit_term = unit_term
  nameless_node bs xs (tree.variable (word x s)) = use_indexed x (index_of x xs)
  nameless_node bs xs (tree.numeral (word x s)) = numeral x
  nameless_node bs xs (tree.lambda (bound b s) u t) = lambda (expansion bs u) (nameless bs (b ∷ xs) t)
  nameless_node bs xs (tree.if_term c t u) = if_then_else (nameless bs xs c) (nameless bs xs t) (nameless bs xs u)
  nameless_node bs xs (tree.let_term (bound b s) t u) = let_in (nameless bs xs t) (nameless bs (b ∷ xs) u)
  nameless_node bs xs (tree.letrec_term (bound b s) w t u) = letrec_in (expansion bs w) (nameless bs (b ∷ xs) t) (nameless bs (b ∷ xs) u)
  nameless_node bs xs (tree.prefixed p t) = prefixed p (nameless bs xs t)
  nameless_node bs xs (tree.apply t u) = apply (nameless bs xs t) (nameless bs xs u)
  nameless_node bs xs (tree.project t (word l s)) = project (nameless bs xs t) l
  nameless_node bs xs (tree.ascribe t u) = ascribe (nameless bs xs t) (expansion bs u)
  nameless_node bs xs (tree.record_term fs) = record_term (nameless_fields bs xs fs)

  -- that of the terms of a record, with their labels
  pub nameless_fields : List Abbreviation → List (Option Name) → tree.FieldTrees → TermFields
  nameless_fields bs xs tree.no_fields = no_terms
  nameless_fields bs xs (tree.field (word l s) t fs) = term_field l (nameless bs xs t) (nameless_fields bs xs fs)

-- what a command states under these abbreviations and binders of names
abbrev pub statement : List Abbreviation → List (Option Name) → CommandTree → Statement
statement bs xs (definition w t) = defines (nameless bs xs t)
statement bs xs (declaration w u) = declares (expansion bs u)
statement bs xs (tree.abbreviation w u) = abbreviates (expansion bs u)
statement bs xs (evaluation t) = states (nameless bs xs t)

-- the abbreviations in scope after a command
abbrev pub abbreviations_after : List Abbreviation → CommandTree → List Abbreviation
abbreviations_after bs (tree.abbreviation (word x s) u) = stands_for x (expansion bs u) ∷ bs
abbreviations_after bs c = bs

-- the binders of names in scope after a command
abbrev pub names_after : List (Option Name) → CommandTree → List (Option Name)
names_after xs (definition (word x s) t) = Some x ∷ xs
names_after xs (declaration (word x s) u) = Some x ∷ xs
names_after xs c = xs

-- a document: in scope for each command are the binders of those before it, not its own
abbrev pub statements : List Abbreviation → List (Option Name) → List CommandTree → List Statement
statements bs xs [] = []
statements bs xs (c ∷ cs) = statement bs xs c ∷ statements (abbreviations_after bs c) (names_after xs c) cs

-- The written types of a term in text order: the type of a lambda comes before its body, that of an ascription after its term.
abbrev mutual
  pub written_in : TermTree → List TypeTree
  written_in (term_tree s n) = written_in_node n

  -- those in the form of a term
  pub written_in_node : TermNode → List TypeTree
  written_in_node (tree.lambda b u t) = u ∷ written_in t
  written_in_node (tree.if_term c t u) = written_in c ++ written_in t ++ written_in u
  written_in_node (tree.let_term b t u) = written_in t ++ written_in u
  written_in_node (tree.letrec_term b w t u) = w ∷ (written_in t ++ written_in u)
  written_in_node (tree.prefixed p t) = written_in t
  written_in_node (tree.apply t u) = written_in t ++ written_in u
  written_in_node (tree.project t l) = written_in t
  written_in_node (tree.ascribe t u) = written_in t ++ u ∷ []
  written_in_node (tree.record_term fs) = written_in_fields fs
  written_in_node n = []

  -- those in the terms of a record
  pub written_in_fields : tree.FieldTrees → List TypeTree
  written_in_fields tree.no_fields = []
  written_in_fields (tree.field l t fs) = written_in t ++ written_in_fields fs

-- the written types of a command, in text order
abbrev pub written_in_command : CommandTree → List TypeTree
written_in_command (definition w t) = written_in t
written_in_command (declaration w u) = u ∷ []
written_in_command (tree.abbreviation w u) = u ∷ []
written_in_command (evaluation t) = written_in t

-- the diagnostics of some written types under the same abbreviations, in order
abbrev pub faults_in : List Abbreviation → List TypeTree → List TypeFault
faults_in bs [] = []
faults_in bs (u ∷ us) = type_faults bs u ++ faults_in bs us

-- the first of them whose expansion is over the size limit
abbrev pub first_over_limit : List Abbreviation → List TypeTree → Option Span
first_over_limit bs [] = None
first_over_limit bs (u ∷ us) = if is_over_limit (expansion bs u) then Some (type_span u) else first_over_limit bs us

-- the diagnostics of the written types of a document, in text order
abbrev pub faults : List Abbreviation → List CommandTree → List TypeFault
faults bs [] = []
faults bs (c ∷ cs) = faults_in bs (written_in_command c) ++ faults (abbreviations_after bs c) cs

-- the first written type of a document whose expansion is over the size limit
abbrev pub first_too_large : List Abbreviation → List CommandTree → Option Span
first_too_large bs [] = None
first_too_large bs (c ∷ cs) = option_or (first_over_limit bs (written_in_command c)) (first_too_large (abbreviations_after bs c) cs)
