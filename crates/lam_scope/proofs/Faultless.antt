-- No written type is at fault just where each stands for a type.
use Rattle.std.proofs.Common.{◌≡◌, ℕ, Bool, true, false, ◌||◌, List, [], ◌∷◌, ◌++◌, refl, ap, sym, ◌∙◌, subst, Option, Some, None}
use Rattle.std.specs.Prelude.{◌↔◌, if◌then◌else◌}
use Rattle.std.specs.Option.{option_map}
use Rattle.std.specs.Str.{bytes_eq}
use Rattle.std.proofs.lemmas.Bool.{or_parts}
use Rattle.std.proofs.lemmas.Slice.Eq.{bytes_eq-Decides}
use Rattle.lam_token.specs.declared.span.Span.{Span}
use Rattle.lam_rules.specs.Types as rules
use Rattle.lam_rules.specs.Types.{Typ, Fields, Label}
use Rattle.lam_rules.specs.Terms.{Term, TermFields}
use Rattle.lam_syntax.specs.declared.terms.Prefix.{Prefix}
use Rattle.lam_syntax.specs.declared.terms.Prefix.TheVariants as prefix
use Rattle.lam_syntax.specs.Trees as tree
use Rattle.lam_syntax.specs.Trees.{word, bound, TypeTree, type_tree, TypeNode, bool, nat, unit, top, named, arrow, record_type, TypeFields, no_type_fields, type_field, joined_types, TermTree, term_tree, TermNode, CommandTree, definition, declaration, evaluation}
use Rattle.lam_scope.specs.declared.type_fault.TypeFault.TheVariants.{UnboundTypeName, RepeatedLabel}
use Rattle.lam_scope.specs.Names.{Name, index_of}
use Rattle.lam_scope.specs.Expansions.{Abbreviation, stands_for, meaning, is_bound, has_label, both, expansion, expansion_of_node, expansion_of_fields, label_fault, type_faults, node_faults, field_faults}
use Rattle.lam_scope.specs.Nameless.{use_indexed, prefixed, nameless, nameless_node, nameless_fields, statements, written_in, written_in_node, written_in_fields, faults_in, faults}
use Rattle.lam_scope.specs.EachWritten.{EachWrittenInTerm, EachWrittenInTerms}
use Rattle.lam_scope.specs.Expanded.{HasExpansion, IsExpanded}
use Rattle.lam_scope.proofs.Forms.{faults_in-append}

-- each type that is written in a term stands for a type
abbrev pub HasExpansions : Term → Type 0
HasExpansions e = EachWrittenInTerm HasExpansion e

-- each that is written in the terms of a record
abbrev pub HaveExpansions : TermFields → Type 0
HaveExpansions es = EachWrittenInTerms HasExpansion es

-- lists that together are empty

pub none_left : {X : Type 0} (xs ys : List X) → xs ++ ys ≡ [] → xs ≡ []
none_left [] ys e = refl
none_left (x ∷ xs) ys e = cc

pub none_right : {X : Type 0} (xs ys : List X) → xs ++ ys ≡ [] → ys ≡ []
none_right [] ys e = e
none_right (x ∷ xs) ys e = cc

none_both : {X : Type 0} (xs ys : List X) → xs ≡ [] → ys ≡ [] → xs ++ ys ≡ []
none_both xs ys e f = λ i. e i ++ f i

-- abbreviations all of which stand for a type

abbrev AreExpanded : List Abbreviation → Type 0
AreExpanded [] = Unit {0}
AreExpanded (stands_for x t ∷ bs) = HasExpansion t × AreExpanded bs

meaning_there : (x : Name) (bs : List Abbreviation) → AreExpanded bs → is_bound x bs ≡ true → HasExpansion (meaning x bs)
meaning_there x [] h e = cc
meaning_there x (stands_for y t ∷ bs) h e = by (bytes_eq y x) (λ f. meaning_there x bs h.1 f) e
  where
    by : (c : Bool) → (is_bound x bs ≡ true → HasExpansion (meaning x bs)) → (if c then true else is_bound x bs) ≡ true → HasExpansion (if c then t else meaning x bs)
    by true behind f = h.0
    by false behind f = behind f

unbound_means : (x : Name) (bs : List Abbreviation) → is_bound x bs ≡ false → meaning x bs ≡ None
unbound_means x [] e = refl
unbound_means x (stands_for y t ∷ bs) e = by (bytes_eq y x) (λ f. unbound_means x bs f) e
  where
    by : (c : Bool) → (is_bound x bs ≡ false → meaning x bs ≡ None) → (if c then true else is_bound x bs) ≡ false → (if c then t else meaning x bs) ≡ None
    by true behind f = cc
    by false behind f = behind f

-- types made of others

abbrev AreFields : Option Fields → Type 0
AreFields (Some fs) = Unit {0}
AreFields None = ⊥

arrow_there : (a b : Option Typ) → HasExpansion a → HasExpansion b → HasExpansion (both rules.arrow a b)
arrow_there (Some a) (Some b) p q = tt
arrow_there (Some a) None p q = absurd q
arrow_there None b p q = absurd p

there_left : (a b : Option Typ) → HasExpansion (both rules.arrow a b) → HasExpansion a
there_left (Some a) b p = tt
there_left None b p = absurd p

there_right : (a b : Option Typ) → HasExpansion (both rules.arrow a b) → HasExpansion b
there_right (Some a) (Some b) p = tt
there_right (Some a) None p = absurd p
there_right None b p = absurd p

record_there : (o : Option Fields) → AreFields o → HasExpansion (option_map rules.record_of o)
record_there (Some fs) p = tt
record_there None p = absurd p

there_fields : (o : Option Fields) → HasExpansion (option_map rules.record_of o) → AreFields o
there_fields (Some fs) p = tt
there_fields None p = absurd p

field_there : (l : Label) (a : Option Typ) (o : Option Fields) → HasExpansion a → AreFields o → AreFields (both (rules.field l) a o)
field_there l (Some a) (Some fs) p q = tt
field_there l (Some a) None p q = absurd q
field_there l None o p q = absurd p

field_type : (l : Label) (a : Option Typ) (o : Option Fields) → AreFields (both (rules.field l) a o) → HasExpansion a
field_type l (Some a) o p = tt
field_type l None o p = absurd p

field_rest : (l : Label) (a : Option Typ) (o : Option Fields) → AreFields (both (rules.field l) a o) → AreFields o
field_rest l (Some a) (Some fs) p = tt
field_rest l (Some a) None p = absurd p
field_rest l None o p = absurd p

-- labels: none of these fields has a label of the earlier ones

abbrev AreApart : (earlier : TypeFields) → TypeFields → Type 0
AreApart earlier no_type_fields = Unit {0}
AreApart earlier (type_field (word l s) t rest) = (has_label l earlier ≡ false) × AreApart earlier rest

other_way : (a b : List ℕ) → bytes_eq a b ≡ false → bytes_eq b a ≡ false
other_way a b e = by (bytes_eq b a) refl
  where
    by : (c : Bool) → bytes_eq b a ≡ c → bytes_eq b a ≡ false
    by true f = let same = (bytes_eq-Decides a b).1 (sym ((bytes_eq-Decides b a).0 f)) in let wrong : true ≡ false = sym same ∙ e in cc
    by false f = f

label_joined : (k : Label) (earlier : TypeFields) (l : Label) (s : Span) (t : TypeTree) → has_label k (joined_types earlier (type_field (word l s) t no_type_fields)) ≡ false
    → (has_label k earlier ≡ false) × (bytes_eq l k ≡ false)
label_joined k no_type_fields l s t e = (refl, (or_parts (bytes_eq l k) false e).0)
label_joined k (type_field (word m r) u rest) l s t e = by (bytes_eq m k) (λ f. label_joined k rest l s t f) e
  where
    by : (c : Bool) → (has_label k (joined_types rest (type_field (word l s) t no_type_fields)) ≡ false → (has_label k rest ≡ false) × (bytes_eq l k ≡ false))
        → (c || has_label k (joined_types rest (type_field (word l s) t no_type_fields))) ≡ false → ((c || has_label k rest) ≡ false) × (bytes_eq l k ≡ false)
    by true behind f = cc
    by false behind f = behind f

joined_label : (k : Label) (earlier : TypeFields) (l : Label) (s : Span) (t : TypeTree) → has_label k earlier ≡ false → bytes_eq l k ≡ false
    → has_label k (joined_types earlier (type_field (word l s) t no_type_fields)) ≡ false
joined_label k no_type_fields l s t e f = ap (λ b. b || false) f
joined_label k (type_field (word m r) u rest) l s t e f = by (bytes_eq m k) (λ g. joined_label k rest l s t g f) e
  where
    by : (c : Bool) → (has_label k rest ≡ false → has_label k (joined_types rest (type_field (word l s) t no_type_fields)) ≡ false)
        → (c || has_label k rest) ≡ false → (c || has_label k (joined_types rest (type_field (word l s) t no_type_fields))) ≡ false
    by true behind g = cc
    by false behind g = behind g

apart_less : (earlier fs : TypeFields) (l : Label) (s : Span) (t : TypeTree) → AreApart (joined_types earlier (type_field (word l s) t no_type_fields)) fs
    → AreApart earlier fs × (has_label l fs ≡ false)
apart_less earlier no_type_fields l s t h = (tt, refl)
apart_less earlier (type_field (word k r) u rest) l s t h =
    let both_not = label_joined k earlier l s t h.0 in
    let behind = apart_less earlier rest l s t h.1 in
    ((both_not.0, behind.0), (λ i. other_way l k both_not.1 i || behind.1 i))

apart_more : (earlier fs : TypeFields) (l : Label) (s : Span) (t : TypeTree) → AreApart earlier fs → has_label l fs ≡ false
    → AreApart (joined_types earlier (type_field (word l s) t no_type_fields)) fs
apart_more earlier no_type_fields l s t h e = tt
apart_more earlier (type_field (word k r) u rest) l s t h e =
    let neither = or_parts (bytes_eq k l) (has_label l rest) e in
    (joined_label k earlier l s t h.0 (other_way k l neither.0), apart_more earlier rest l s t h.1 neither.1)

not_repeated : (l : Label) (s : Span) (earlier : TypeFields) → label_fault (word l s) earlier ≡ [] → has_label l earlier ≡ false
not_repeated l s earlier e = by (has_label l earlier) e
  where
    by : (c : Bool) → (if c then RepeatedLabel s ∷ [] else []) ≡ [] → c ≡ false
    by true f = cc
    by false f = refl

once : (l : Label) (s : Span) (earlier : TypeFields) → has_label l earlier ≡ false → label_fault (word l s) earlier ≡ []
once l s earlier e = ap (λ c. if c then RepeatedLabel s ∷ [] else []) e

-- written types

is_named : (c : Bool) (s : Span) → (if c then [] else UnboundTypeName s ∷ []) ≡ [] → c ≡ true
is_named true s e = refl
is_named false s e = cc

split_once : (c : Bool) (o : Option Fields) → AreFields (if c then None else o) → (c ≡ false) × AreFields o
split_once true o h = absurd h
split_once false o h = (refl, h)

fields_once : (bs : List Abbreviation) (l : Label) (t : TypeTree) (rest : TypeFields)
    → AreFields (if has_label l rest then None else both (rules.field l) (expansion bs t) (expansion_of_fields bs rest))
    → (has_label l rest ≡ false) × AreFields (both (rules.field l) (expansion bs t) (expansion_of_fields bs rest))
fields_once bs l t rest h = split_once (has_label l rest) (both (rules.field l) (expansion bs t) (expansion_of_fields bs rest)) h

none_apart : (fs : TypeFields) → AreApart no_type_fields fs
none_apart no_type_fields = tt
none_apart (type_field (word l s) t rest) = (refl, none_apart rest)

bound_or : (c : Bool) (x : Name) (bs : List Abbreviation) (s : Span) → is_bound x bs ≡ c → HasExpansion (meaning x bs) → (if is_bound x bs then [] else UnboundTypeName s ∷ []) ≡ []
bound_or true x bs s e h = ap (λ c. if c then [] else UnboundTypeName s ∷ []) e
bound_or false x bs s e h = absurd (subst HasExpansion (unbound_means x bs e) h)

means_bound : (x : Name) (bs : List Abbreviation) (s : Span) → HasExpansion (meaning x bs) → (if is_bound x bs then [] else UnboundTypeName s ∷ []) ≡ []
means_bound x bs s h = bound_or (is_bound x bs) x bs s refl h

mutual
  type_there : (bs : List Abbreviation) → AreExpanded bs → (u : TypeTree) → type_faults bs u ≡ [] → HasExpansion (expansion bs u)
  type_there bs h (type_tree s n) e = node_there bs h n e

  node_there : (bs : List Abbreviation) → AreExpanded bs → (n : TypeNode) → node_faults bs n ≡ [] → HasExpansion (expansion_of_node bs n)
  node_there bs h bool e = tt
  node_there bs h nat e = tt
  node_there bs h unit e = tt
  node_there bs h top e = tt
  node_there bs h (named (word x s)) e = meaning_there x bs h (is_named (is_bound x bs) s e)
  node_there bs h (arrow a b) e =
      arrow_there (expansion bs a) (expansion bs b) (type_there bs h a (none_left (type_faults bs a) (type_faults bs b) e)) (type_there bs h b (none_right (type_faults bs a) (type_faults bs b) e))
  node_there bs h (record_type fs) e = record_there (expansion_of_fields bs fs) (fields_there bs h no_type_fields fs e).0

  fields_there : (bs : List Abbreviation) → AreExpanded bs → (earlier fs : TypeFields) → field_faults bs earlier fs ≡ [] → AreFields (expansion_of_fields bs fs) × AreApart earlier fs
  fields_there bs h earlier no_type_fields e = (tt, tt)
  fields_there bs h earlier (type_field (word l s) t rest) e =
      let next = joined_types earlier (type_field (word l s) t no_type_fields) in
      let front = none_left (label_fault (word l s) earlier ++ type_faults bs t) (field_faults bs next rest) e in
      let own = type_there bs h t (none_right (label_fault (word l s) earlier) (type_faults bs t) front) in
      let others = fields_there bs h next rest (none_right (label_fault (word l s) earlier ++ type_faults bs t) (field_faults bs next rest) e) in
      let apart = apart_less earlier rest l s t others.1 in (
        subst (λ c. AreFields (if c then None else both (rules.field l) (expansion bs t) (expansion_of_fields bs rest))) (sym apart.1)
            (field_there l (expansion bs t) (expansion_of_fields bs rest) own others.0),
        (not_repeated l s earlier (none_left (label_fault (word l s) earlier) (type_faults bs t) front), apart.0),
      )

mutual
  type_faultless : (bs : List Abbreviation) (u : TypeTree) → HasExpansion (expansion bs u) → type_faults bs u ≡ []
  type_faultless bs (type_tree s n) h = node_faultless bs n h

  node_faultless : (bs : List Abbreviation) (n : TypeNode) → HasExpansion (expansion_of_node bs n) → node_faults bs n ≡ []
  node_faultless bs bool h = refl
  node_faultless bs nat h = refl
  node_faultless bs unit h = refl
  node_faultless bs top h = refl
  node_faultless bs (named (word x s)) h = means_bound x bs s h
  node_faultless bs (arrow a b) h =
      none_both (type_faults bs a) (type_faults bs b) (type_faultless bs a (there_left (expansion bs a) (expansion bs b) h)) (type_faultless bs b (there_right (expansion bs a) (expansion bs b) h))
  node_faultless bs (record_type fs) h = fields_faultless bs no_type_fields fs (none_apart fs) (there_fields (expansion_of_fields bs fs) h)

  fields_faultless : (bs : List Abbreviation) (earlier fs : TypeFields) → AreApart earlier fs → AreFields (expansion_of_fields bs fs) → field_faults bs earlier fs ≡ []
  fields_faultless bs earlier no_type_fields a h = refl
  fields_faultless bs earlier (type_field (word l s) t rest) a h =
      let next = joined_types earlier (type_field (word l s) t no_type_fields) in
      let only = fields_once bs l t rest h in
      none_both (label_fault (word l s) earlier ++ type_faults bs t) (field_faults bs next rest)
      (none_both (label_fault (word l s) earlier) (type_faults bs t) (once l s earlier a.0) (type_faultless bs t (field_type l (expansion bs t) (expansion_of_fields bs rest) only.1)))
      (fields_faultless bs next rest (apart_more earlier rest l s t a.1 only.0) (field_rest l (expansion bs t) (expansion_of_fields bs rest) only.1))

-- the written types of a term, and of commands

in_left : (bs : List Abbreviation) (us vs : List TypeTree) → faults_in bs (us ++ vs) ≡ [] → faults_in bs us ≡ []
in_left bs us vs e = none_left (faults_in bs us) (faults_in bs vs) (sym (faults_in-append bs us vs) ∙ e)

in_right : (bs : List Abbreviation) (us vs : List TypeTree) → faults_in bs (us ++ vs) ≡ [] → faults_in bs vs ≡ []
in_right bs us vs e = none_right (faults_in bs us) (faults_in bs vs) (sym (faults_in-append bs us vs) ∙ e)

in_none : (bs : List Abbreviation) (us vs : List TypeTree) → faults_in bs us ≡ [] → faults_in bs vs ≡ [] → faults_in bs (us ++ vs) ≡ []
in_none bs us vs e f = faults_in-append bs us vs ∙ none_both (faults_in bs us) (faults_in bs vs) e f

in_first : (bs : List Abbreviation) (u : TypeTree) (us : List TypeTree) → faults_in bs (u ∷ us) ≡ [] → type_faults bs u ≡ []
in_first bs u us e = none_left (type_faults bs u) (faults_in bs us) e

in_rest : (bs : List Abbreviation) (u : TypeTree) (us : List TypeTree) → faults_in bs (u ∷ us) ≡ [] → faults_in bs us ≡ []
in_rest bs u us e = none_right (type_faults bs u) (faults_in bs us) e

use_expands : (x : Name) (o : Option ℕ) → HasExpansions (use_indexed x o)
use_expands x None = tt
use_expands x (Some n) = tt

prefixed_expands : (p : Prefix) (e : Term) → HasExpansions e → HasExpansions (prefixed p e)
prefixed_expands prefix.Fix e h = h
prefixed_expands prefix.Succ e h = h
prefixed_expands prefix.Pred e h = h
prefixed_expands prefix.IsZero e h = h

prefixed_expanded : (p : Prefix) (e : Term) → HasExpansions (prefixed p e) → HasExpansions e
prefixed_expanded prefix.Fix e h = h
prefixed_expanded prefix.Succ e h = h
prefixed_expanded prefix.Pred e h = h
prefixed_expanded prefix.IsZero e h = h

mutual
  term_expands : (bs : List Abbreviation) → AreExpanded bs → (xs : List (Option Name)) (t : TermTree) → faults_in bs (written_in t) ≡ [] → HasExpansions (nameless bs xs t)
  term_expands bs h xs (term_tree s n) e = node_expands bs h xs n e

  node_expands : (bs : List Abbreviation) → AreExpanded bs → (xs : List (Option Name)) (n : TermNode) → faults_in bs (written_in_node n) ≡ [] → HasExpansions (nameless_node bs xs n)
  node_expands bs h xs tree.true_term e = tt
  node_expands bs h xs tree.false_term e = tt
  node_expands bs h xs tree.unit_term e = tt
  node_expands bs h xs (tree.variable (word x s)) e = use_expands x (index_of x xs)
  node_expands bs h xs (tree.numeral (word x s)) e = tt
  node_expands bs h xs (tree.lambda (bound b s) u t) e = (type_there bs h u (in_first bs u (written_in t) e), term_expands bs h (b ∷ xs) t (in_rest bs u (written_in t) e))
  node_expands bs h xs (tree.if_term c t u) e =
      let front = in_left bs (written_in c ++ written_in t) (written_in u) e in (
        term_expands bs h xs c (in_left bs (written_in c) (written_in t) front),
        term_expands bs h xs t (in_right bs (written_in c) (written_in t) front),
        term_expands bs h xs u (in_right bs (written_in c ++ written_in t) (written_in u) e),
      )
  node_expands bs h xs (tree.let_term (bound b s) t u) e =
      (term_expands bs h xs t (in_left bs (written_in t) (written_in u) e), term_expands bs h (b ∷ xs) u (in_right bs (written_in t) (written_in u) e))
  node_expands bs h xs (tree.letrec_term (bound b s) w t u) e =
      let rest = in_rest bs w (written_in t ++ written_in u) e in (
        (type_there bs h w (in_first bs w (written_in t ++ written_in u) e), term_expands bs h (b ∷ xs) t (in_left bs (written_in t) (written_in u) rest)),
        term_expands bs h (b ∷ xs) u (in_right bs (written_in t) (written_in u) rest),
      )
  node_expands bs h xs (tree.prefixed p t) e = prefixed_expands p (nameless bs xs t) (term_expands bs h xs t e)
  node_expands bs h xs (tree.apply t u) e = (term_expands bs h xs t (in_left bs (written_in t) (written_in u) e), term_expands bs h xs u (in_right bs (written_in t) (written_in u) e))
  node_expands bs h xs (tree.project t (word l s)) e = term_expands bs h xs t e
  node_expands bs h xs (tree.ascribe t u) e =
      (term_expands bs h xs t (in_left bs (written_in t) (u ∷ []) e), type_there bs h u (in_first bs u [] (in_right bs (written_in t) (u ∷ []) e)))
  node_expands bs h xs (tree.record_term fs) e = fields_expand bs h xs fs e

  fields_expand : (bs : List Abbreviation) → AreExpanded bs → (xs : List (Option Name)) (fs : tree.FieldTrees) → faults_in bs (written_in_fields fs) ≡ [] → HaveExpansions (nameless_fields bs xs fs)
  fields_expand bs h xs tree.no_fields e = tt
  fields_expand bs h xs (tree.field (word l s) t fs) e =
      (term_expands bs h xs t (in_left bs (written_in t) (written_in_fields fs) e), fields_expand bs h xs fs (in_right bs (written_in t) (written_in_fields fs) e))

mutual
  term_faultless : (bs : List Abbreviation) (xs : List (Option Name)) (t : TermTree) → HasExpansions (nameless bs xs t) → faults_in bs (written_in t) ≡ []
  term_faultless bs xs (term_tree s n) h = node_of_faultless bs xs n h

  node_of_faultless : (bs : List Abbreviation) (xs : List (Option Name)) (n : TermNode) → HasExpansions (nameless_node bs xs n) → faults_in bs (written_in_node n) ≡ []
  node_of_faultless bs xs tree.true_term h = refl
  node_of_faultless bs xs tree.false_term h = refl
  node_of_faultless bs xs tree.unit_term h = refl
  node_of_faultless bs xs (tree.variable (word x s)) h = refl
  node_of_faultless bs xs (tree.numeral (word x s)) h = refl
  node_of_faultless bs xs (tree.lambda (bound b s) u t) h = none_both (type_faults bs u) (faults_in bs (written_in t)) (type_faultless bs u h.0) (term_faultless bs (b ∷ xs) t h.1)
  node_of_faultless bs xs (tree.if_term c t u) h =
      in_none bs (written_in c ++ written_in t) (written_in u) (in_none bs (written_in c) (written_in t) (term_faultless bs xs c h.0) (term_faultless bs xs t h.1)) (term_faultless bs xs u h.2)
  node_of_faultless bs xs (tree.let_term (bound b s) t u) h = in_none bs (written_in t) (written_in u) (term_faultless bs xs t h.0) (term_faultless bs (b ∷ xs) u h.1)
  node_of_faultless bs xs (tree.letrec_term (bound b s) w t u) h =
      none_both (type_faults bs w) (faults_in bs (written_in t ++ written_in u)) (type_faultless bs w h.0.0)
      (in_none bs (written_in t) (written_in u) (term_faultless bs (b ∷ xs) t h.0.1) (term_faultless bs (b ∷ xs) u h.1))
  node_of_faultless bs xs (tree.prefixed p t) h = term_faultless bs xs t (prefixed_expanded p (nameless bs xs t) h)
  node_of_faultless bs xs (tree.apply t u) h = in_none bs (written_in t) (written_in u) (term_faultless bs xs t h.0) (term_faultless bs xs u h.1)
  node_of_faultless bs xs (tree.project t (word l s)) h = term_faultless bs xs t h
  node_of_faultless bs xs (tree.ascribe t u) h = in_none bs (written_in t) (u ∷ []) (term_faultless bs xs t h.0) (none_both (type_faults bs u) [] (type_faultless bs u h.1) refl)
  node_of_faultless bs xs (tree.record_term fs) h = fields_of_faultless bs xs fs h

  fields_of_faultless : (bs : List Abbreviation) (xs : List (Option Name)) (fs : tree.FieldTrees) → HaveExpansions (nameless_fields bs xs fs) → faults_in bs (written_in_fields fs) ≡ []
  fields_of_faultless bs xs tree.no_fields h = refl
  fields_of_faultless bs xs (tree.field (word l s) t fs) h = in_none bs (written_in t) (written_in_fields fs) (term_faultless bs xs t h.0) (fields_of_faultless bs xs fs h.1)

commands_expand : (bs : List Abbreviation) → AreExpanded bs → (xs : List (Option Name)) (cs : List CommandTree) → faults bs cs ≡ [] → IsExpanded (statements bs xs cs)
commands_expand bs h xs [] e = tt
commands_expand bs h xs (definition (word x s) t ∷ cs) e =
    (term_expands bs h xs t (none_left (faults_in bs (written_in t)) (faults bs cs) e), commands_expand bs h (Some x ∷ xs) cs (none_right (faults_in bs (written_in t)) (faults bs cs) e))
commands_expand bs h xs (declaration (word x s) u ∷ cs) e =
    let own = none_left (faults_in bs (u ∷ [])) (faults bs cs) e in
    (type_there bs h u (in_first bs u [] own), commands_expand bs h (Some x ∷ xs) cs (none_right (faults_in bs (u ∷ [])) (faults bs cs) e))
commands_expand bs h xs (tree.abbreviation (word x s) u ∷ cs) e =
    let after = stands_for x (expansion bs u) ∷ bs in
    let own = type_there bs h u (in_first bs u [] (none_left (faults_in bs (u ∷ [])) (faults after cs) e)) in
    (own, commands_expand after (own, h) xs cs (none_right (faults_in bs (u ∷ [])) (faults after cs) e))
commands_expand bs h xs (evaluation t ∷ cs) e =
    (term_expands bs h xs t (none_left (faults_in bs (written_in t)) (faults bs cs) e), commands_expand bs h xs cs (none_right (faults_in bs (written_in t)) (faults bs cs) e))

commands_faultless : (bs : List Abbreviation) (xs : List (Option Name)) (cs : List CommandTree) → IsExpanded (statements bs xs cs) → faults bs cs ≡ []
commands_faultless bs xs [] h = refl
commands_faultless bs xs (definition (word x s) t ∷ cs) h = none_both (faults_in bs (written_in t)) (faults bs cs) (term_faultless bs xs t h.0) (commands_faultless bs (Some x ∷ xs) cs h.1)
commands_faultless bs xs (declaration (word x s) u ∷ cs) h =
    none_both (faults_in bs (u ∷ [])) (faults bs cs) (none_both (type_faults bs u) [] (type_faultless bs u h.0) refl) (commands_faultless bs (Some x ∷ xs) cs h.1)
commands_faultless bs xs (tree.abbreviation (word x s) u ∷ cs) h =
    let after = stands_for x (expansion bs u) ∷ bs in
    none_both (faults_in bs (u ∷ [])) (faults after cs) (none_both (type_faults bs u) [] (type_faultless bs u h.0) refl) (commands_faultless after xs cs h.1)
commands_faultless bs xs (evaluation t ∷ cs) h = none_both (faults_in bs (written_in t)) (faults bs cs) (term_faultless bs xs t h.0) (commands_faultless bs xs cs h.1)

pub faultless_expanded : (cs : List CommandTree) → (faults [] cs ≡ []) ↔ IsExpanded (statements [] [] cs)
faultless_expanded cs = (commands_expand [] tt [] cs, commands_faultless [] [] cs)
