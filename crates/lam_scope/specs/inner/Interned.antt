-- What interning written types and terms adds to a table and to the diagnostics before, and its result. For private contracts only.
use Rattle.std.specs.Prelude.{◌≡◌, ℕ, List, [], ◌∷◌, ◌++◌, Bool, true, false, Option, None, Some, Result, Vec, IfOk, OnOk}
use Rattle.std.specs.Option.{option_map}
use Rattle.std.specs.declared.alloc.Global.{Global}
use Rattle.std.specs.declared.alloc.AllocError.{AllocError}
use denote.Ref.{Bor}
use Rattle.lam_rules.specs.Types.{Typ, Fields}
use Rattle.lam_rules.specs.Numbers.{Keeps, fields_given, AllStand}
use Rattle.lam_rules.specs.declared.numbers.TyNo.{TyNo}
use Rattle.lam_syntax.specs.declared.terms.Prefix.{Prefix}
use Rattle.lam_syntax.specs.declared.terms.Prefix.TheVariants as prefix
use Rattle.lam_syntax.specs.Trees.{TypeTree, TypeNode, TypeFields, no_type_fields, TermNode, FieldTrees, CommandTree}
use Rattle.lam_scope.specs.declared.type_fault.TypeFault.{TypeFault}
use Rattle.lam_scope.specs.declared.scope_fault.ScopeFault.{ScopeFault}
use Rattle.lam_scope.specs.declared.interned.InternedTerm.{InternedTerm}
use Rattle.lam_scope.specs.declared.interned.InternedField.{InternedField}
use Rattle.lam_scope.specs.declared.interned.InternedStatement.{InternedStatement}
use Rattle.lam_scope.specs.Names.{Name}
use Rattle.lam_scope.specs.Nameless.{nameless_node, nameless_fields, written_in_node, written_in_fields, written_in_command, statement, faults_in, first_over_limit}
use Rattle.lam_scope.specs.InternedViews.{interned_term, interned_terms, interned_statement, StandIn, StandInTerms, StandInStatement}
use Rattle.lam_scope.specs.Views.{IsLimit}
use Rattle.lam_scope.specs.Expansions.{expansion, expansion_of_node, expansion_of_fields, node_faults, field_faults}
use Rattle.lam_scope.specs.Numbered.{Numbered, succ, pred, is_zero, fix, written_over, StandsIfAny}
use Rattle.lam_scope.specs.NumberedNames.{NumberedName, abbreviations_over}

-- the type id of what a type name stands for, if it is bound and stands for a type
abbrev pub number_of_named : Option (Option TyNo) → Option TyNo
number_of_named None = None
number_of_named (Some w) = w

-- whether a type name is bound
abbrev pub is_named : Option (Option TyNo) → Bool
is_named None = false
is_named (Some w) = true

-- a term with a prefix keyword
abbrev pub prefixed_numbers : Prefix → Numbered → Numbered
prefixed_numbers prefix.Fix e = fix e
prefixed_numbers prefix.Succ e = succ e
prefixed_numbers prefix.Pred e = pred e
prefixed_numbers prefix.IsZero e = is_zero e

-- labeled type ids, if there are any
abbrev pub items_in : Option (Vec (Bor (List ℕ) × TyNo) Global) → Option (List (Bor (List ℕ) × TyNo))
items_in = option_map (λ v. v.items)

-- the fields of labeled type ids, if there are any
abbrev pub given_over : List Typ → Option (List (Bor (List ℕ) × TyNo)) → Option Fields
given_over ts = option_map (fields_given ts)

-- each of the type ids is that of a type of the table
abbrev pub GivenStand : List Typ → Option (List (Bor (List ℕ) × TyNo)) → Type 0
GivenStand ts None = Unit {0}
GivenStand ts (Some items) = AllStand ts items

-- labeled type ids with one more appended
abbrev pub with_given : Bor (List ℕ) → List (Bor (List ℕ) × TyNo) → TyNo → List (Bor (List ℕ) × TyNo)
with_given label items number = items ++ (label, number) ∷ []

-- The answer is the type id of what a written type of this form stands for, and its diagnostics are appended, unless allocation fails.
pub record IsTypeInterned (names : List NumberedName) (n : TypeNode) (old new : List Typ) (before after : List TypeFault) (answer : Result (Option TyNo) AllocError) : Type 0 where
  pub keeps : Keeps old new
  pub number : IfOk answer (λ w. written_over new w ≡ expansion_of_node (abbreviations_over old names) n)
  pub stands : IfOk answer (λ w. StandsIfAny new w)
  pub faults : OnOk answer (after ≡ before ++ node_faults (abbreviations_over old names) n)

-- The answer has the type ids of what the types of these fields stand for, if they all do and no label is repeated.
pub record AreFieldsInterned (names : List NumberedName) (fs : TypeFields) (old new : List Typ) (before after : List TypeFault) (answer : Result (Option (Vec (Bor (List ℕ) × TyNo) Global)) AllocError) : Type 0 where
  pub keeps : Keeps old new
  pub numbers : IfOk answer (λ o. given_over new (items_in o) ≡ expansion_of_fields (abbreviations_over old names) fs)
  pub stand : IfOk answer (λ o. GivenStand new (items_in o))
  pub faults : OnOk answer (after ≡ before ++ field_faults (abbreviations_over old names) no_type_fields fs)

-- These written types are interned and their diagnostics appended, unless one of them is over the size limit, in which case the error names the first, or allocation
-- fails.
pub record AreTypesInterned {T : Type 0} (names : List NumberedName) (us : List TypeTree) (old new : List Typ) (before after : List TypeFault) (answer : Result T ScopeFault) : Type 0 where
  pub keeps : Keeps old new
  pub faults : OnOk answer (after ≡ before ++ faults_in (abbreviations_over old names) us)
  pub limit : IsLimit (first_over_limit (abbreviations_over old names) us) answer

-- The answer is the type id of what a written type stands for.
pub record IsWrittenInterned (names : List NumberedName) (u : TypeTree) (old new : List Typ) (before after : List TypeFault) (answer : Result (Option TyNo) ScopeFault) : Type 0 where
  pub types : AreTypesInterned names (u ∷ []) old new before after answer
  pub number : IfOk answer (λ w. written_over new w ≡ expansion (abbreviations_over old names) u)
  pub stands : IfOk answer (λ w. StandsIfAny new w)

-- The answer is the nameless form of a term of this form under these type names and these binders of names.
pub record IsInterned (names : List NumberedName) (xs : List (Option Name)) (n : TermNode) (old new : List Typ) (before after : List TypeFault) (answer : Result InternedTerm ScopeFault) : Type 0 where
  pub types : AreTypesInterned names (written_in_node n) old new before after answer
  pub form : IfOk answer (λ e. interned_term new e ≡ nameless_node (abbreviations_over old names) xs n)
  pub stands : IfOk answer (λ e. StandIn new e)

-- The answer has the nameless forms of the terms of a record.
pub record AreInterned (names : List NumberedName) (xs : List (Option Name)) (fs : FieldTrees) (old new : List Typ) (before after : List TypeFault) (answer : Result (Vec InternedField Global) ScopeFault) : Type 0 where
  pub types : AreTypesInterned names (written_in_fields fs) old new before after answer
  pub forms : IfOk answer (λ es. interned_terms new es.items ≡ nameless_fields (abbreviations_over old names) xs fs)
  pub stand : IfOk answer (λ es. StandInTerms new es.items)

-- The answer is what a command states.
pub record IsStated (names : List NumberedName) (xs : List (Option Name)) (c : CommandTree) (old new : List Typ) (before after : List TypeFault) (answer : Result InternedStatement ScopeFault) : Type 0 where
  pub types : AreTypesInterned names (written_in_command c) old new before after answer
  pub form : IfOk answer (λ s. interned_statement new s ≡ statement (abbreviations_over old names) xs c)
  pub stands : IfOk answer (λ s. StandInStatement new s)
