-- The types in a nameless form have distinct labels at every depth.
use Rattle.std.proofs.Common.{◌≡◌, ◌≢◌, ℕ, refl, List, [], ◌∷◌, Bool, true, false, Option, Some, None, sym, if◌then◌else◌}
use Rattle.std.specs.Option.{option_map}
use Rattle.std.specs.Str.{bytes_eq}
use Rattle.std.proofs.lemmas.Bool.{or_parts}
use Rattle.std.proofs.lemmas.Slice.Eq.{bytes_eq-Decides}
use Rattle.lam_rules.specs.Types as rules
use Rattle.lam_rules.specs.Types.{Typ, Fields, Label, AreWellFormed, IsAbsent}
use Rattle.lam_rules.specs.Typing.{IsWellFormedEntry}
use Rattle.lam_syntax.specs.declared.terms.Prefix.{Prefix}
use Rattle.lam_syntax.specs.declared.terms.Prefix.TheVariants as prefix
use Rattle.lam_rules.specs.Terms.{Term}
use Rattle.lam_syntax.specs.Trees as tree
use Rattle.lam_syntax.specs.Trees.{word, bound, TypeTree, type_tree, TypeNode, bool, nat, unit, top, named, arrow, record_type, TypeFields, no_type_fields, type_field, TermTree, term_tree, TermNode, CommandTree, definition, declaration, evaluation}
use Rattle.lam_scope.specs.Names.{Name, index_of}
use Rattle.lam_scope.specs.Expansions.{Abbreviation, stands_for, meaning, has_label, both, expansion, expansion_of_node, expansion_of_fields}
use Rattle.lam_scope.specs.Nameless.{use_indexed, prefixed, nameless, nameless_node, nameless_fields, statement, statements, abbreviations_after, names_after}
use Rattle.lam_scope.specs.WellFormed.{IsWellFormedTerm, AreWellFormedTerms, IsWellFormedStatement, AreWellFormedStatements}

-- what the abbreviations stand for has distinct labels
abbrev pub AreWellFormedMeanings : List Abbreviation → Type 0
AreWellFormedMeanings [] = Unit {0}
AreWellFormedMeanings (stands_for x t ∷ bs) = IsWellFormedEntry t × AreWellFormedMeanings bs

-- fields, where there are some

abbrev AreWellFormedIfAny : Option Fields → Type 0
AreWellFormedIfAny None = Unit {0}
AreWellFormedIfAny (Some fs) = AreWellFormed fs

abbrev IsAbsentIfAny : Label → Option Fields → Type 0
IsAbsentIfAny l None = Unit {0}
IsAbsentIfAny l (Some fs) = IsAbsent l fs

either-wf : (b : Bool) (t u : Option Typ) → IsWellFormedEntry t → IsWellFormedEntry u → IsWellFormedEntry (if b then t else u)
either-wf true t u v w = v
either-wf false t u v w = w

meaning-wf : (x : Name) (bs : List Abbreviation) → AreWellFormedMeanings bs → IsWellFormedEntry (meaning x bs)
meaning-wf x [] w = tt
meaning-wf x (stands_for y t ∷ bs) w = either-wf (bytes_eq y x) t (meaning x bs) w.0 (meaning-wf x bs w.1)

arrow-wf : (s t : Option Typ) → IsWellFormedEntry s → IsWellFormedEntry t → IsWellFormedEntry (both rules.arrow s t)
arrow-wf None t v w = tt
arrow-wf (Some s) None v w = tt
arrow-wf (Some s) (Some t) v w = (v, w)

record-wf : (fs : Option Fields) → AreWellFormedIfAny fs → IsWellFormedEntry (option_map rules.record_of fs)
record-wf None w = tt
record-wf (Some fs) w = w

pub apart : (l k : Label) → bytes_eq k l ≡ false → l ≢ k
apart l k e same = let yes_it_is : bytes_eq k l ≡ true = (bytes_eq-Decides k l).1 (sym same) in cc

absent-field : (l k : Label) (t : Option Typ) (fs : Option Fields) → l ≢ k → IsAbsentIfAny l fs → IsAbsentIfAny l (both (rules.field k) t fs)
absent-field l k None fs n a = tt
absent-field l k (Some t) None n a = tt
absent-field l k (Some t) (Some fs) n a = (n, a)

absent-unless : (l : Label) (b : Bool) (fs : Option Fields) → IsAbsentIfAny l fs → IsAbsentIfAny l (if b then None else fs)
absent-unless l true fs a = tt
absent-unless l false fs a = a

absent : (bs : List Abbreviation) (l : Label) (fs : TypeFields) → has_label l fs ≡ false → IsAbsentIfAny l (expansion_of_fields bs fs)
absent bs l no_type_fields e = tt
absent bs l (type_field (word k s) t rest) e =
    let neither = or_parts (bytes_eq k l) (has_label l rest) e in
    absent-unless l (has_label k rest) (both (rules.field k) (expansion bs t) (expansion_of_fields bs rest))
    (absent-field l k (expansion bs t) (expansion_of_fields bs rest) (apart l k neither.0) (absent bs l rest neither.1))

field-wf : (l : Label) (t : Option Typ) (fs : Option Fields) → IsWellFormedEntry t → IsAbsentIfAny l fs → AreWellFormedIfAny fs → AreWellFormedIfAny (both (rules.field l) t fs)
field-wf l None fs w a ws = tt
field-wf l (Some t) None w a ws = tt
field-wf l (Some t) (Some fs) w a ws = (w, a, ws)

first-wf : (bs : List Abbreviation) (l : Label) (t : TypeTree) (rest : TypeFields) → IsWellFormedEntry (expansion bs t) → AreWellFormedIfAny (expansion_of_fields bs rest)
    → (b : Bool) → has_label l rest ≡ b → AreWellFormedIfAny (if b then None else both (rules.field l) (expansion bs t) (expansion_of_fields bs rest))
first-wf bs l t rest w ws true e = tt
first-wf bs l t rest w ws false e = field-wf l (expansion bs t) (expansion_of_fields bs rest) w (absent bs l rest e) ws

mutual
  pub expansion-wf : (bs : List Abbreviation) → AreWellFormedMeanings bs → (t : TypeTree) → IsWellFormedEntry (expansion bs t)
  expansion-wf bs w (type_tree s n) = node-wf bs w n

  node-wf : (bs : List Abbreviation) → AreWellFormedMeanings bs → (n : TypeNode) → IsWellFormedEntry (expansion_of_node bs n)
  node-wf bs w bool = tt
  node-wf bs w nat = tt
  node-wf bs w unit = tt
  node-wf bs w top = tt
  node-wf bs w (named (word x s)) = meaning-wf x bs w
  node-wf bs w (arrow a b) = arrow-wf (expansion bs a) (expansion bs b) (expansion-wf bs w a) (expansion-wf bs w b)
  node-wf bs w (record_type fs) = record-wf (expansion_of_fields bs fs) (fields-wf bs w fs)

  fields-wf : (bs : List Abbreviation) → AreWellFormedMeanings bs → (fs : TypeFields) → AreWellFormedIfAny (expansion_of_fields bs fs)
  fields-wf bs w no_type_fields = tt
  fields-wf bs w (type_field (word l s) t rest) = first-wf bs l t rest (expansion-wf bs w t) (fields-wf bs w rest) (has_label l rest) refl

use-wf : (x : Name) (o : Option ℕ) → IsWellFormedTerm (use_indexed x o)
use-wf x None = tt
use-wf x (Some n) = tt

prefixed-wf : (p : Prefix) (e : Term) → IsWellFormedTerm e → IsWellFormedTerm (prefixed p e)
prefixed-wf prefix.Fix e w = w
prefixed-wf prefix.Succ e w = w
prefixed-wf prefix.Pred e w = w
prefixed-wf prefix.IsZero e w = w

mutual
  pub nameless-wf : (bs : List Abbreviation) → AreWellFormedMeanings bs → (xs : List (Option Name)) (t : TermTree) → IsWellFormedTerm (nameless bs xs t)
  nameless-wf bs w xs (term_tree s n) = nameless_node-wf bs w xs n

  nameless_node-wf : (bs : List Abbreviation) → AreWellFormedMeanings bs → (xs : List (Option Name)) (n : TermNode) → IsWellFormedTerm (nameless_node bs xs n)
  nameless_node-wf bs w xs tree.true_term = tt
  nameless_node-wf bs w xs tree.false_term = tt
  nameless_node-wf bs w xs tree.unit_term = tt
  nameless_node-wf bs w xs (tree.variable (word x s)) = use-wf x (index_of x xs)
  nameless_node-wf bs w xs (tree.numeral (word x s)) = tt
  nameless_node-wf bs w xs (tree.lambda (bound b s) u t) = (expansion-wf bs w u, nameless-wf bs w (b ∷ xs) t)
  nameless_node-wf bs w xs (tree.if_term c t u) = (nameless-wf bs w xs c, nameless-wf bs w xs t, nameless-wf bs w xs u)
  nameless_node-wf bs w xs (tree.let_term (bound b s) t u) = (nameless-wf bs w xs t, nameless-wf bs w (b ∷ xs) u)
  nameless_node-wf bs w xs (tree.letrec_term (bound b s) y t u) = ((expansion-wf bs w y, nameless-wf bs w (b ∷ xs) t), nameless-wf bs w (b ∷ xs) u)
  nameless_node-wf bs w xs (tree.prefixed p t) = prefixed-wf p (nameless bs xs t) (nameless-wf bs w xs t)
  nameless_node-wf bs w xs (tree.apply t u) = (nameless-wf bs w xs t, nameless-wf bs w xs u)
  nameless_node-wf bs w xs (tree.project t (word l s)) = nameless-wf bs w xs t
  nameless_node-wf bs w xs (tree.ascribe t u) = (nameless-wf bs w xs t, expansion-wf bs w u)
  nameless_node-wf bs w xs (tree.record_term fs) = nameless_fields-wf bs w xs fs

  nameless_fields-wf : (bs : List Abbreviation) → AreWellFormedMeanings bs → (xs : List (Option Name)) (fs : tree.FieldTrees) → AreWellFormedTerms (nameless_fields bs xs fs)
  nameless_fields-wf bs w xs tree.no_fields = tt
  nameless_fields-wf bs w xs (tree.field (word l s) t fs) = (nameless-wf bs w xs t, nameless_fields-wf bs w xs fs)

statement-wf : (bs : List Abbreviation) → AreWellFormedMeanings bs → (xs : List (Option Name)) (c : CommandTree) → IsWellFormedStatement (statement bs xs c)
statement-wf bs w xs (definition x t) = nameless-wf bs w xs t
statement-wf bs w xs (declaration x u) = expansion-wf bs w u
statement-wf bs w xs (tree.abbreviation x u) = expansion-wf bs w u
statement-wf bs w xs (evaluation t) = nameless-wf bs w xs t

pub after-wf : (bs : List Abbreviation) → AreWellFormedMeanings bs → (c : CommandTree) → AreWellFormedMeanings (abbreviations_after bs c)
after-wf bs w (definition x t) = w
after-wf bs w (declaration x u) = w
after-wf bs w (tree.abbreviation (word x s) u) = (expansion-wf bs w u, w)
after-wf bs w (evaluation t) = w

statements-wf : (bs : List Abbreviation) → AreWellFormedMeanings bs → (xs : List (Option Name)) (cs : List CommandTree) → AreWellFormedStatements (statements bs xs cs)
statements-wf bs w xs [] = tt
statements-wf bs w xs (c ∷ cs) = (statement-wf bs w xs c, statements-wf (abbreviations_after bs c) (after-wf bs w c) (names_after xs c) cs)

pub document-wf : (cs : List CommandTree) → AreWellFormedStatements (statements [] [] cs)
document-wf cs = statements-wf [] tt [] cs
