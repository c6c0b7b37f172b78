-- What a command means depends on nothing but what its free names and its type names mean.
use Rattle.std.proofs.Common.{◌≡◌, ℕ, suc, Bool, true, false, List, [], ◌∷◌, ◌++◌, length, refl, ap, sym, ◌∙◌, subst, arith, Option, Some, None}
use Rattle.std.specs.Prelude.{if◌then◌else◌, slice_get}
use Rattle.std.specs.List.{AllByRecursion}
use Rattle.std.specs.Option.{option_map}
use Rattle.lam_rules.specs.Types as rules
use Rattle.lam_rules.specs.Types.{Typ}
use Rattle.lam_rules.specs.Terms.{Term}
use Rattle.lam_rules.specs.Typing.{Context}
use Rattle.lam_syntax.specs.declared.terms.Prefix.{Prefix}
use Rattle.lam_syntax.specs.declared.terms.Prefix.TheVariants as prefix
use Rattle.lam_syntax.specs.Trees as tree
use Rattle.lam_syntax.specs.Trees.{word, bound, TypeTree, type_tree, TypeNode, named, arrow, record_type, TypeFields, no_type_fields, type_field, joined_types, TermTree, term_tree, TermNode, CommandTree, definition, declaration, evaluation, type_span}
use Rattle.lam_scope.specs.declared.type_fault.TypeFault.TheVariants.{UnboundTypeName}
use Rattle.lam_scope.specs.Names.{Name, binds, index_of}
use Rattle.lam_scope.specs.Expansions.{Abbreviation, meaning, is_bound, has_label, both, expansion, expansion_of_node, expansion_of_fields, label_fault, type_faults, node_faults, field_faults, is_over_limit}
use Rattle.lam_scope.specs.Nameless.{use_indexed, prefixed, nameless, nameless_node, nameless_fields, statement, written_in, written_in_node, written_in_fields, written_in_command, faults_in, first_over_limit}
use Rattle.lam_scope.specs.FreeNames.{without, free_in, free_in_node, free_in_fields, free_type_names_in, free_type_names_in_node, free_type_names_in_fields, free_type_names_in_types, free_in_command, free_type_names_in_command}
use Rattle.lam_scope.specs.Meanings.{entry_named, MeanTheSame, StandForTheSame}
use Rattle.lam_scope.specs.Alike.{AreAlike, AreAlikeTerms, AreAlikeStatements}
use Rattle.lam_scope.proofs.EveryElement.{every_parts}

-- ---- written types

module _ (bs cs : List Abbreviation) where
  abbrev Stands : Name → Type 0
  Stands x = (meaning x bs ≡ meaning x cs) × (is_bound x bs ≡ is_bound x cs)

  stand_apart : (xs ys : List Name) → StandForTheSame (xs ++ ys) bs cs → StandForTheSame xs bs cs × StandForTheSame ys bs cs
  stand_apart xs ys same = every_parts Stands xs ys same

  mutual
    pub same_expansion : (u : TypeTree) → StandForTheSame (free_type_names_in u) bs cs → expansion bs u ≡ expansion cs u
    same_expansion (type_tree s n) same = same_node_expansion n same

    same_node_expansion : (n : TypeNode) → StandForTheSame (free_type_names_in_node n) bs cs → expansion_of_node bs n ≡ expansion_of_node cs n
    same_node_expansion (named (word x s)) same = same.0.0
    same_node_expansion (arrow a b) same =
        let apart = stand_apart (free_type_names_in a) (free_type_names_in b) same in
        λ i. both rules.arrow (same_expansion a apart.0 i) (same_expansion b apart.1 i)
    same_node_expansion (record_type fs) same = ap (option_map rules.record_of) (same_fields_expansion fs same)
    same_node_expansion n same = refl

    same_fields_expansion : (fs : TypeFields) → StandForTheSame (free_type_names_in_fields fs) bs cs → expansion_of_fields bs fs ≡ expansion_of_fields cs fs
    same_fields_expansion no_type_fields same = refl
    same_fields_expansion (type_field (word l s) t rest) same =
        let apart = stand_apart (free_type_names_in t) (free_type_names_in_fields rest) same in
        λ i. if has_label l rest then None else both (rules.field l) (same_expansion t apart.0 i) (same_fields_expansion rest apart.1 i)

  mutual
    pub same_faults : (u : TypeTree) → StandForTheSame (free_type_names_in u) bs cs → type_faults bs u ≡ type_faults cs u
    same_faults (type_tree s n) same = same_node_faults n same

    same_node_faults : (n : TypeNode) → StandForTheSame (free_type_names_in_node n) bs cs → node_faults bs n ≡ node_faults cs n
    same_node_faults (named (word x s)) same = ap (λ b. if b then [] else UnboundTypeName s ∷ []) same.0.1
    same_node_faults (arrow a b) same =
        let apart = stand_apart (free_type_names_in a) (free_type_names_in b) same in
        λ i. same_faults a apart.0 i ++ same_faults b apart.1 i
    same_node_faults (record_type fs) same = same_field_faults no_type_fields fs same
    same_node_faults n same = refl

    same_field_faults : (earlier fs : TypeFields) → StandForTheSame (free_type_names_in_fields fs) bs cs → field_faults bs earlier fs ≡ field_faults cs earlier fs
    same_field_faults earlier no_type_fields same = refl
    same_field_faults earlier (type_field l t rest) same =
        let apart = stand_apart (free_type_names_in t) (free_type_names_in_fields rest) same in
        let more = joined_types earlier (type_field l t no_type_fields) in
        λ i. label_fault l earlier ++ same_faults t apart.0 i ++ same_field_faults more rest apart.1 i

  -- several written types

  -- the type names of each of them stand for the same
  abbrev pub EachStandsForTheSame : List TypeTree → Type 0
  EachStandsForTheSame us = AllByRecursion (λ u. StandForTheSame (free_type_names_in u) bs cs) us

  each_apart : (us : List TypeTree) → StandForTheSame (free_type_names_in_types us) bs cs → EachStandsForTheSame us
  each_apart [] same = tt
  each_apart (u ∷ us) same =
      let apart = stand_apart (free_type_names_in u) (free_type_names_in_types us) same in
      (apart.0, each_apart us apart.1)

  same_faults_in : (us : List TypeTree) → EachStandsForTheSame us → faults_in bs us ≡ faults_in cs us
  same_faults_in [] each = refl
  same_faults_in (u ∷ us) each = λ i. same_faults u each.0 i ++ same_faults_in us each.1 i

  same_over_limit : (us : List TypeTree) → EachStandsForTheSame us → first_over_limit bs us ≡ first_over_limit cs us
  same_over_limit [] each = refl
  same_over_limit (u ∷ us) each = λ i. if is_over_limit (same_expansion u each.0 i) then Some (type_span u) else same_over_limit us each.1 i

  pub same_command_faults : (c : CommandTree) → StandForTheSame (free_type_names_in_command c) bs cs
      → faults_in bs (written_in_command c) ≡ faults_in cs (written_in_command c)
  same_command_faults c same = same_faults_in (written_in_command c) (each_apart (written_in_command c) same)

  pub same_command_limit : (c : CommandTree) → StandForTheSame (free_type_names_in_command c) bs cs
      → first_over_limit bs (written_in_command c) ≡ first_over_limit cs (written_in_command c)
  same_command_limit c same = same_over_limit (written_in_command c) (each_apart (written_in_command c) same)

-- ---- a use of a name

-- an index comes to an entry, or there is neither
abbrev ComesTo : Context → Option ℕ → Option (Option Typ) → Type 0
ComesTo g None None = Unit {0}
ComesTo g (Some n) (Some entry) = slice_get g n ≡ Some entry
ComesTo g o e = ⊥

index_comes_to : (x : Name) (xs : List (Option Name)) (g : Context) → length xs ≡ length g → ComesTo g (index_of x xs) (entry_named x xs g)
index_comes_to x [] g sizes = tt
index_comes_to x (b ∷ xs) [] sizes = absurd (omega (arith, sizes))
index_comes_to x (b ∷ xs) (entry ∷ g) sizes = pick (binds b x) (index_of x xs) (entry_named x xs g) (index_comes_to x xs g (omega (arith, sizes)))
  where
    pick : (c : Bool) (o : Option ℕ) (e : Option (Option Typ)) → ComesTo g o e
        → ComesTo (entry ∷ g) (if c then Some 0 else option_map suc o) (if c then Some entry else e)
    pick true o e comes = refl
    pick false None None comes = tt
    pick false None (Some other) comes = comes
    pick false (Some n) None comes = comes
    pick false (Some n) (Some other) comes = comes

alike_indices : (x : Name) (g : Context) (p : Option ℕ) (h : Context) (q : Option ℕ) (e : Option (Option Typ)) → ComesTo g p e → ComesTo h q e
    → AreAlike g (use_indexed x p) h (use_indexed x q)
alike_indices x g None h None None comes other = refl
alike_indices x g None h (Some m) None comes other = absurd other
alike_indices x g None h q (Some entry) comes other = absurd comes
alike_indices x g (Some n) h q None comes other = absurd comes
alike_indices x g (Some n) h None (Some entry) comes other = absurd other
alike_indices x g (Some n) h (Some m) (Some entry) comes other = comes ∙ sym other

alike_use : (x : Name) (xs : List (Option Name)) (g : Context) (ys : List (Option Name)) (h : Context) → length xs ≡ length g → length ys ≡ length h
    → entry_named x xs g ≡ entry_named x ys h → AreAlike g (use_indexed x (index_of x xs)) h (use_indexed x (index_of x ys))
alike_use x xs g ys h m n same =
    alike_indices x g (index_of x xs) h (index_of x ys) (entry_named x xs g) (index_comes_to x xs g m) (subst (ComesTo h (index_of x ys)) (sym same) (index_comes_to x ys h n))

-- ---- under a binder

module _ (xs : List (Option Name)) (g : Context) (ys : List (Option Name)) (h : Context) where
  abbrev Means : Name → Type 0
  Means x = entry_named x xs g ≡ entry_named x ys h

  mean_apart : (ns ms : List Name) → MeanTheSame (ns ++ ms) xs g ys h → MeanTheSame ns xs g ys h × MeanTheSame ms xs g ys h
  mean_apart ns ms same = every_parts Means ns ms same

  -- with one more binder, whose entry is the same on both sides
  mean_within : (b : Option Name) (entry : Option Typ) (ns : List Name) → MeanTheSame (without b ns) xs g ys h
      → MeanTheSame ns (b ∷ xs) (entry ∷ g) (b ∷ ys) (entry ∷ h)
  mean_within b entry [] same = tt
  mean_within b entry (n ∷ ns) same = by (binds b n) (λ rest. mean_within b entry ns rest) same
    where
      by : (c : Bool) → (MeanTheSame (without b ns) xs g ys h → MeanTheSame ns (b ∷ xs) (entry ∷ g) (b ∷ ys) (entry ∷ h))
          → MeanTheSame (if c then without b ns else n ∷ without b ns) xs g ys h
          → ((if c then Some entry else entry_named n xs g) ≡ (if c then Some entry else entry_named n ys h)) × MeanTheSame ns (b ∷ xs) (entry ∷ g) (b ∷ ys) (entry ∷ h)
      by true within rest = (refl, within rest)
      by false within rest = (rest.0, within rest.1)

both_within : (xs : List (Option Name)) (g : Context) (ys : List (Option Name)) (h : Context) (b : Option Name) (entry : Option Typ) (ns ms : List Name)
    → MeanTheSame (without b (ns ++ ms)) xs g ys h → MeanTheSame ns (b ∷ xs) (entry ∷ g) (b ∷ ys) (entry ∷ h) × MeanTheSame ms (b ∷ xs) (entry ∷ g) (b ∷ ys) (entry ∷ h)
both_within xs g ys h b entry ns ms same = mean_apart (b ∷ xs) (entry ∷ g) (b ∷ ys) (entry ∷ h) ns ms (mean_within xs g ys h b entry (ns ++ ms) same)

-- ---- terms

-- a word before terms that are alike
alike_prefixed : (p : Prefix) (g : Context) (a : Term) (h : Context) (b : Term) → AreAlike g a h b → AreAlike g (prefixed p a) h (prefixed p b)
alike_prefixed prefix.Fix g a h b alike = alike
alike_prefixed prefix.Succ g a h b alike = alike
alike_prefixed prefix.Pred g a h b alike = alike
alike_prefixed prefix.IsZero g a h b alike = alike

module _ (bs cs : List Abbreviation) where
  -- the bodies of two lambdas with the same written type
  alike_body : (g : Context) (w : Option Typ) (a : Term) (h : Context) (u : Option Typ) (b : Term) → w ≡ u
      → AreAlike (w ∷ g) a (w ∷ h) b → AreAlike (w ∷ g) a (u ∷ h) b
  alike_body g w a h u b same alike = subst (λ v. AreAlike (w ∷ g) a (v ∷ h) b) same alike

  types_apart : (us vs : List TypeTree) → EachStandsForTheSame bs cs (us ++ vs) → EachStandsForTheSame bs cs us × EachStandsForTheSame bs cs vs
  types_apart us vs each = every_parts (λ u. StandForTheSame (free_type_names_in u) bs cs) us vs each

  mutual
    alike_terms : (xs : List (Option Name)) (g : Context) (ys : List (Option Name)) (h : Context) → length xs ≡ length g → length ys ≡ length h
        → (t : TermTree) → MeanTheSame (free_in t) xs g ys h → EachStandsForTheSame bs cs (written_in t) → AreAlike g (nameless bs xs t) h (nameless cs ys t)
    alike_terms xs g ys h m n (term_tree s node) same each = alike_nodes xs g ys h m n node same each

    alike_nodes : (xs : List (Option Name)) (g : Context) (ys : List (Option Name)) (h : Context) → length xs ≡ length g → length ys ≡ length h
        → (node : TermNode) → MeanTheSame (free_in_node node) xs g ys h → EachStandsForTheSame bs cs (written_in_node node)
        → AreAlike g (nameless_node bs xs node) h (nameless_node cs ys node)
    alike_nodes xs g ys h m n tree.true_term same each = tt
    alike_nodes xs g ys h m n tree.false_term same each = tt
    alike_nodes xs g ys h m n tree.unit_term same each = tt
    alike_nodes xs g ys h m n (tree.variable (word x s)) same each = alike_use x xs g ys h m n same.0
    alike_nodes xs g ys h m n (tree.numeral (word x s)) same each = refl
    alike_nodes xs g ys h m n (tree.lambda (bound b s) u t) same each =
        let written = same_expansion bs cs u each.0 in
        let w = expansion bs u in (
          written,
          alike_body g w (nameless bs (b ∷ xs) t) h (expansion cs u) (nameless cs (b ∷ ys) t) written
              (alike_terms (b ∷ xs) (w ∷ g) (b ∷ ys) (w ∷ h) (ap suc m) (ap suc n) t (mean_within xs g ys h b w (free_in t) same) each.1),
        )
    alike_nodes xs g ys h m n (tree.if_term c t u) same each =
        let last = mean_apart xs g ys h (free_in c ++ free_in t) (free_in u) same in
        let names = mean_apart xs g ys h (free_in c) (free_in t) last.0 in
        let last_types = types_apart (written_in c ++ written_in t) (written_in u) each in
        let types = types_apart (written_in c) (written_in t) last_types.0 in
        (alike_terms xs g ys h m n c names.0 types.0, alike_terms xs g ys h m n t names.1 types.1, alike_terms xs g ys h m n u last.1 last_types.1)
    alike_nodes xs g ys h m n (tree.let_term (bound b s) t u) same each =
        let apart = mean_apart xs g ys h (free_in t) (without b (free_in u)) same in
        let types = types_apart (written_in t) (written_in u) each in (
          alike_terms xs g ys h m n t apart.0 types.0,
          λ entry. alike_terms (b ∷ xs) (entry ∷ g) (b ∷ ys) (entry ∷ h) (ap suc m) (ap suc n) u (mean_within xs g ys h b entry (free_in u) apart.1) types.1,
        )
    alike_nodes xs g ys h m n (tree.letrec_term (bound b s) v t u) same each =
        let written = same_expansion bs cs v each.0 in
        let w = expansion bs v in
        let types = types_apart (written_in t) (written_in u) each.1 in (
          (
            written,
            alike_body g w (nameless bs (b ∷ xs) t) h (expansion cs v) (nameless cs (b ∷ ys) t) written
                (alike_terms (b ∷ xs) (w ∷ g) (b ∷ ys) (w ∷ h) (ap suc m) (ap suc n) t (both_within xs g ys h b w (free_in t) (free_in u) same).0 types.0),
          ),
          λ entry. alike_terms (b ∷ xs) (entry ∷ g) (b ∷ ys) (entry ∷ h) (ap suc m) (ap suc n) u (both_within xs g ys h b entry (free_in t) (free_in u) same).1 types.1,
        )
    alike_nodes xs g ys h m n (tree.prefixed p t) same each = alike_prefixed p g (nameless bs xs t) h (nameless cs ys t) (alike_terms xs g ys h m n t same each)
    alike_nodes xs g ys h m n (tree.apply t u) same each =
        let apart = mean_apart xs g ys h (free_in t) (free_in u) same in
        let types = types_apart (written_in t) (written_in u) each in
        (alike_terms xs g ys h m n t apart.0 types.0, alike_terms xs g ys h m n u apart.1 types.1)
    alike_nodes xs g ys h m n (tree.project t (word l s)) same each = (alike_terms xs g ys h m n t same each, refl)
    alike_nodes xs g ys h m n (tree.ascribe t u) same each =
        let types = types_apart (written_in t) (u ∷ []) each in
        (alike_terms xs g ys h m n t same types.0, same_expansion bs cs u types.1.0)
    alike_nodes xs g ys h m n (tree.record_term fs) same each = alike_fields xs g ys h m n fs same each

    alike_fields : (xs : List (Option Name)) (g : Context) (ys : List (Option Name)) (h : Context) → length xs ≡ length g → length ys ≡ length h
        → (fs : tree.FieldTrees) → MeanTheSame (free_in_fields fs) xs g ys h → EachStandsForTheSame bs cs (written_in_fields fs)
        → AreAlikeTerms g (nameless_fields bs xs fs) h (nameless_fields cs ys fs)
    alike_fields xs g ys h m n tree.no_fields same each = tt
    alike_fields xs g ys h m n (tree.field (word l s) t fs) same each =
        let apart = mean_apart xs g ys h (free_in t) (free_in_fields fs) same in
        let types = types_apart (written_in t) (written_in_fields fs) each in
        (refl, alike_terms xs g ys h m n t apart.0 types.0, alike_fields xs g ys h m n fs apart.1 types.1)

pub alike_forms : (bs cs : List Abbreviation) (xs : List (Option Name)) (g : Context) (ys : List (Option Name)) (h : Context) (t : TermTree)
    → length xs ≡ length g → length ys ≡ length h → MeanTheSame (free_in t) xs g ys h → StandForTheSame (free_type_names_in_types (written_in t)) bs cs
    → AreAlike g (nameless bs xs t) h (nameless cs ys t)
alike_forms bs cs xs g ys h t m n same types = alike_terms bs cs xs g ys h m n t same (each_apart bs cs (written_in t) types)

-- ---- commands

pub alike_statements : (bs cs : List Abbreviation) (xs : List (Option Name)) (g : Context) (ys : List (Option Name)) (h : Context) (c : CommandTree)
    → length xs ≡ length g → length ys ≡ length h → MeanTheSame (free_in_command c) xs g ys h → StandForTheSame (free_type_names_in_command c) bs cs
    → AreAlikeStatements g (statement bs xs c) h (statement cs ys c)
alike_statements bs cs xs g ys h (definition w t) m n same types = alike_forms bs cs xs g ys h t m n same types
alike_statements bs cs xs g ys h (declaration w u) m n same types = same_expansion bs cs u (each_apart bs cs (u ∷ []) types).0
alike_statements bs cs xs g ys h (tree.abbreviation w u) m n same types = same_expansion bs cs u (each_apart bs cs (u ∷ []) types).0
alike_statements bs cs xs g ys h (evaluation t) m n same types = alike_forms bs cs xs g ys h t m n same types
