-- How nameless forms over the numbers of a table are made.
use Rattle.std.proofs.Common.{◌≡◌, ℕ, ◌+◌, ◌<◌, ◌≤◌, Option, None, List, [], ◌∷◌, ◌++◌, length, drop, get_or, refl, ap, sym, subst, ◌∙◌, append_assoc, Result, Ok, Err, Vec}
use Rattle.std.proofs.lemmas.List.{append-nil, drop_all}
use Rattle.std.specs.Prelude.{OnOk}
use Rattle.std.specs.Option.{option_or}
use Rattle.std.specs.declared.alloc.Global.{Global}
use Rattle.lam_token.specs.declared.span.Span.{Span}
use Rattle.lam_rules.specs.Types.{Typ}
use Rattle.lam_rules.specs.Terms as rules
use Rattle.lam_rules.specs.Terms.{TermFields}
use Rattle.lam_rules.specs.Numbers.{Keeps}
use Rattle.lam_rules.specs.declared.numbers.TyNo.{TyNo}
use Rattle.lam_rules.proofs.Tables.{keeps_same, keeps_trans}
use Rattle.lam_syntax.specs.Letters.{letters}
use Rattle.lam_syntax.specs.declared.terms.TmField.{TmField}
use Rattle.lam_syntax.specs.Views.{term_node_of, fields_of}
use Rattle.lam_syntax.specs.Trees as tree
use Rattle.lam_syntax.specs.Trees.{bound, TypeTree, TermNode, term_tree, FieldTrees}
use Rattle.lam_syntax.proofs.Shapes.{term_node_of-True, term_node_of-False, term_node_of-Unit, term_node_of-Variable, term_node_of-Numeral, term_node_of-Lambda, term_node_of-If, term_node_of-Let, term_node_of-Letrec, term_node_of-Prefixed, term_node_of-Apply, term_node_of-Project, term_node_of-Ascribe, term_node_of-Record}
use Rattle.lam_scope.specs.declared.type_fault.TypeFault.{TypeFault}
use Rattle.lam_scope.specs.declared.scope_fault.ScopeFault.{ScopeFault}
use Rattle.lam_scope.specs.declared.scope_fault.ScopeFault.TheVariants.{TooLarge, Memory}
use Rattle.lam_scope.specs.declared.interned.InternedTerm.{InternedTerm}
use Rattle.lam_scope.specs.declared.interned.InternedTerm.TheVariants.{Record}
use Rattle.lam_scope.specs.declared.interned.InternedField.{InternedField}
use Rattle.lam_scope.specs.Names.{Name}
use Rattle.lam_scope.specs.Expansions.{Abbreviation, expansion}
use Rattle.lam_scope.specs.Nameless.{nameless_node, nameless_fields, written_in_node, written_in_fields, faults_in, first_over_limit}
use Rattle.lam_scope.specs.Numbered.{if_then_else, lambda, apply, ascribe, let_in, fix, term_over, written_over, NumbersStand, StandsIfAny}
use Rattle.lam_scope.specs.NumberedNames.{NumberedName, abbreviations_over, TypeIdsStand}
use Rattle.lam_scope.specs.InternedViews.{numbered_of, interned_term, interned_terms, StandIn, StandInTerms}
use Rattle.lam_scope.specs.Views.{IsLimit}
use Rattle.lam_scope.specs.inner.Interned.{AreTypesInterned, IsWrittenInterned, IsInterned, AreInterned}
use Rattle.lam_scope.proofs.Forms.{faults_in-append, over_limit-append, ltb-capped, joined_terms, joined_terms-none}
use Rattle.lam_scope.proofs.InternedShapes.{numbered_of-True, numbered_of-False, numbered_of-Num, numbered_of-Var, numbered_of-Free, numbered_of-Unit, numbered_of-Record}
use Rattle.lam_scope.proofs.InternedTerms.{kept, kept_terms, kept_written}
use Rattle.lam_scope.proofs.TypeNames.{kept_names}
use Rattle.lam_scope.proofs.Walks.{fields_of-drop}

-- some written types, and more behind them

limit_front : (T V : Type 0) (o p : Option Span) (x : ScopeFault) → IsLimit {T = T} o (Err x) → IsLimit {T = V} (option_or o p) (Err x)
limit_front T V o p (TooLarge s) e = ap (λ q. option_or q p) e
limit_front T V o p Memory e = tt

limit_behind : {T : Type 0} (o p : Option Span) (answer : Result T ScopeFault) → o ≡ None → IsLimit p answer → IsLimit (option_or o p) answer
limit_behind o p (Ok a) e h = ap (λ q. option_or q p) e ∙ h
limit_behind o p (Err (TooLarge s)) e h = ap (λ q. option_or q p) e ∙ h
limit_behind o p (Err Memory) e h = tt

pub types_stop : {T V : Type 0} (names : List NumberedName) (us vs : List TypeTree) (old new : List Typ) (before after : List TypeFault) (x : ScopeFault)
    → AreTypesInterned {T = T} names us old new before after (Err x) → AreTypesInterned {T = V} names (us ++ vs) old new before after (Err x)
types_stop {T} {V} names us vs old new before after x one =
    let bs = abbreviations_over old names in
    record {
      keeps = one.keeps;
      faults = tt;
      limit = subst (λ o. IsLimit {T = V} o (Err x)) (sym (over_limit-append bs us vs)) (limit_front T V (first_over_limit bs us) (first_over_limit bs vs) x one.limit);
    }

faults_then : {T : Type 0} (answer : Result T ScopeFault) (bs cs : List Abbreviation) (us vs : List TypeTree) (before between after : List TypeFault)
    → cs ≡ bs → between ≡ before ++ faults_in bs us → OnOk answer (after ≡ between ++ faults_in cs vs) → OnOk answer (after ≡ before ++ faults_in bs (us ++ vs))
faults_then (Ok a) bs cs us vs before between after same one two =
    two ∙ (λ i. one i ++ faults_in (same i) vs) ∙ append_assoc before (faults_in bs us) (faults_in bs vs) ∙ ap (λ es. before ++ es) (sym (faults_in-append bs us vs))
faults_then (Err x) bs cs us vs before between after same one two = tt

pub types_then : {T V : Type 0} (names : List NumberedName) (us vs : List TypeTree) (old mid new : List Typ) (before between after : List TypeFault) (a : T) (answer : Result V ScopeFault)
    → TypeIdsStand old names → AreTypesInterned names us old mid before between (Ok a) → AreTypesInterned names vs mid new between after answer
    → AreTypesInterned names (us ++ vs) old new before after answer
types_then names us vs old mid new before between after a answer stand one two =
    let bs = abbreviations_over old names in
    let cs = abbreviations_over mid names in
    let same = (kept_names old mid names one.keeps stand).0 in
    record {
      keeps = keeps_trans old mid new one.keeps two.keeps;
      faults = faults_then answer bs cs us vs before between after same one.faults two.faults;
      limit = subst (λ o. IsLimit o answer) (sym (over_limit-append bs us vs))
          (limit_behind (first_over_limit bs us) (first_over_limit bs vs) answer one.limit (subst (λ ds. IsLimit (first_over_limit ds vs) answer) same two.limit));
    }

-- the same written types, with another value
pub types_again : {T V : Type 0} (names : List NumberedName) (us : List TypeTree) (old new : List Typ) (before after : List TypeFault) (a : T) (b : V)
    → AreTypesInterned names us old new before after (Ok a) → AreTypesInterned names us old new before after (Ok b)
types_again names us old new before after a b one = record { keeps = one.keeps; faults = one.faults; limit = one.limit }

limit_as : (T V : Type 0) (o : Option Span) (x : ScopeFault) → IsLimit {T = T} o (Err x) → IsLimit {T = V} o (Err x)
limit_as T V o (TooLarge s) e = e
limit_as T V o Memory e = tt

-- a term of which a written type is refused
pub refused : {T : Type 0} (names : List NumberedName) (xs : List (Option Name)) (n : TermNode) (old new : List Typ) (before after : List TypeFault) (x : ScopeFault) (answer : Result InternedTerm ScopeFault)
    → answer ≡ Err x → AreTypesInterned {T = T} names (written_in_node n) old new before after (Err x) → IsInterned names xs n old new before after answer
refused {T} names xs n old new before after x answer is one =
    let whole : IsInterned names xs n old new before after (Err x) = record {
      types = record { keeps = one.keeps; faults = tt; limit = limit_as T InternedTerm (first_over_limit (abbreviations_over old names) (written_in_node n)) x one.limit };
      form = tt;
      stands = tt;
    } in
    subst (λ a. IsInterned names xs n old new before after a) (sym is) whole

pub refused_first : {T : Type 0} (names : List NumberedName) (xs : List (Option Name)) (n : TermNode) (us vs : List TypeTree) (old new : List Typ) (before after : List TypeFault) (x : ScopeFault)
    (answer : Result InternedTerm ScopeFault) → answer ≡ Err x → written_in_node n ≡ us ++ vs → AreTypesInterned {T = T} names us old new before after (Err x) → IsInterned names xs n old new before after answer
refused_first names xs n us vs old new before after x answer is all one =
    let whole : AreTypesInterned {T = InternedTerm} names (us ++ vs) old new before after (Err x) = types_stop names us vs old new before after x one in
    refused names xs n old new before after x answer is (subst (λ ws. AreTypesInterned {T = InternedTerm} names ws old new before after (Err x)) (sym all) whole)

pub refused_second : {T V : Type 0} (names : List NumberedName) (xs : List (Option Name)) (n : TermNode) (us vs ws : List TypeTree) (old mid new : List Typ) (before between after : List TypeFault)
    (a : T) (x : ScopeFault) (answer : Result InternedTerm ScopeFault) → TypeIdsStand old names → answer ≡ Err x → written_in_node n ≡ us ++ vs ++ ws
    → AreTypesInterned names us old mid before between (Ok a) → AreTypesInterned {T = V} names vs mid new between after (Err x) → IsInterned names xs n old new before after answer
refused_second {T} {V} names xs n us vs ws old mid new before between after a x answer stand is all one two =
    refused_first names xs n (us ++ vs) ws old new before after x answer is all (types_then names us vs old mid new before between after a (Err x) stand one two)

pub refused_third : {T V W : Type 0} (names : List NumberedName) (xs : List (Option Name)) (n : TermNode) (us vs ws : List TypeTree) (old mid low new : List Typ) (before between behind after : List TypeFault)
    (a : T) (b : V) (x : ScopeFault) (answer : Result InternedTerm ScopeFault) → TypeIdsStand old names → answer ≡ Err x → written_in_node n ≡ us ++ vs ++ ws
    → AreTypesInterned names us old mid before between (Ok a) → AreTypesInterned names vs mid low between behind (Ok b) → AreTypesInterned {T = W} names ws low new behind after (Err x)
    → IsInterned names xs n old new before after answer
refused_third {T} {V} {W} names xs n us vs ws old mid low new before between behind after a b x answer stand is all one two three =
    let front = types_then names us vs old mid low before between behind a (Ok b) stand one two in
    let whole = types_then names (us ++ vs) ws old low new before behind after b (Err x) stand front three in
    refused names xs n old new before after x answer is (subst (λ ts. AreTypesInterned {T = W} names ts old new before after (Err x)) (sym all) whole)

-- the form of a term and the number of a written type, between an earlier and a later table

form_between : (names : List NumberedName) (xs ys : List (Option Name)) (n : TermNode) (old mid low new : List Typ) (before after : List TypeFault) (e : InternedTerm)
    → TypeIdsStand old names → Keeps old mid → ys ≡ xs → IsInterned names ys n mid low before after (Ok e) → Keeps low new
    → (interned_term new e ≡ nameless_node (abbreviations_over old names) xs n) × StandIn new e
form_between names xs ys n old mid low new before after e stand earlier same one later =
    let kept_one = kept low new e later one.stands in
    let seen = (kept_names old mid names earlier stand).0 in
    (kept_one.0 ∙ one.form ∙ (λ i. nameless_node (seen i) (same i) n), kept_one.1)

number_between : (names : List NumberedName) (u : TypeTree) (old mid low new : List Typ) (before after : List TypeFault) (w : Option TyNo)
    → TypeIdsStand old names → Keeps old mid → IsWrittenInterned names u mid low before after (Ok w) → Keeps low new
    → (written_over new w ≡ expansion (abbreviations_over old names) u) × StandsIfAny new w
number_between names u old mid low new before after w stand earlier one later =
    let kept_one = kept_written low new w later one.stands in
    let seen = (kept_names old mid names earlier stand).0 in
    (kept_one.0 ∙ one.number ∙ (λ i. expansion (seen i) u), kept_one.1)

-- the form of each kind of term, from the forms of its parts

pub lambda_interned : (names : List NumberedName) (xs : List (Option Name)) (b : Option Name) (s r : Span) (u : TypeTree) (n : TermNode) (old mid new : List Typ) (before between after : List TypeFault)
    (w : Option TyNo) (e made : InternedTerm) → TypeIdsStand old names → IsWrittenInterned names u old mid before between (Ok w) → IsInterned names (b ∷ xs) n mid new between after (Ok e)
    → numbered_of made ≡ lambda w (numbered_of e) → IsInterned names xs (tree.lambda (bound b s) u (term_tree r n)) old new before after (Ok made)
lambda_interned names xs b s r u n old mid new before between after w e made stand one two is =
    let first = number_between names u old old mid new before between w stand (keeps_same old) one two.types.keeps in
    let second = form_between names (b ∷ xs) (b ∷ xs) n old mid new new between after e stand one.types.keeps refl two (keeps_same new) in
    record {
      types = types_again names (u ∷ written_in_node n) old new before after e made (types_then names (u ∷ []) (written_in_node n) old mid new before between after w (Ok e) stand one.types two.types);
      form = ap (term_over new) is ∙ (λ i. rules.lambda (first.0 i) (second.0 i));
      stands = subst (NumbersStand new) (sym is) (first.1, second.1);
    }

pub if_interned : (names : List NumberedName) (xs ys zs : List (Option Name)) (s r q : Span) (c t u : TermNode) (old mid low new : List Typ) (before between behind after : List TypeFault)
    (e f g made : InternedTerm) → TypeIdsStand old names → IsInterned names xs c old mid before between (Ok e) → ys ≡ xs → IsInterned names ys t mid low between behind (Ok f)
    → zs ≡ ys → IsInterned names zs u low new behind after (Ok g)
    → numbered_of made ≡ if_then_else (numbered_of e) (numbered_of f) (numbered_of g) → IsInterned names xs (tree.if_term (term_tree s c) (term_tree r t) (term_tree q u)) old new before after (Ok made)
if_interned names xs ys zs s r q c t u old mid low new before between behind after e f g made stand one same two alike three is =
    let front = keeps_trans old mid low one.types.keeps two.types.keeps in
    let first = form_between names xs xs c old old mid new before between e stand (keeps_same old) refl one (keeps_trans mid low new two.types.keeps three.types.keeps) in
    let second = form_between names xs ys t old mid low new between behind f stand one.types.keeps same two three.types.keeps in
    let third = form_between names xs zs u old low new new behind after g stand front (alike ∙ same) three (keeps_same new) in
    let both_types = types_then names (written_in_node c) (written_in_node t) old mid low before between behind e (Ok f) stand one.types two.types in
    record {
      types = types_again names (written_in_node c ++ written_in_node t ++ written_in_node u) old new before after g made
          (types_then names (written_in_node c ++ written_in_node t) (written_in_node u) old low new before behind after f (Ok g) stand both_types three.types);
      form = ap (term_over new) is ∙ (λ i. rules.if_then_else (first.0 i) (second.0 i) (third.0 i));
      stands = subst (NumbersStand new) (sym is) (first.1, second.1, third.1);
    }

pub let_interned : (names : List NumberedName) (xs ys : List (Option Name)) (b : Option Name) (p s r : Span) (t u : TermNode) (old mid new : List Typ) (before between after : List TypeFault)
    (e f made : InternedTerm) → TypeIdsStand old names → IsInterned names xs t old mid before between (Ok e) → ys ≡ xs → IsInterned names (b ∷ ys) u mid new between after (Ok f)
    → numbered_of made ≡ let_in (numbered_of e) (numbered_of f) → IsInterned names xs (tree.let_term (bound b p) (term_tree s t) (term_tree r u)) old new before after (Ok made)
let_interned names xs ys b p s r t u old mid new before between after e f made stand one same two is =
    let first = form_between names xs xs t old old mid new before between e stand (keeps_same old) refl one two.types.keeps in
    let second = form_between names (b ∷ xs) (b ∷ ys) u old mid new new between after f stand one.types.keeps (ap (λ zs. b ∷ zs) same) two (keeps_same new) in
    record {
      types = types_again names (written_in_node t ++ written_in_node u) old new before after f made
          (types_then names (written_in_node t) (written_in_node u) old mid new before between after e (Ok f) stand one.types two.types);
      form = ap (term_over new) is ∙ (λ i. rules.let_in (first.0 i) (second.0 i));
      stands = subst (NumbersStand new) (sym is) (first.1, second.1);
    }

pub letrec_interned : (names : List NumberedName) (xs ys : List (Option Name)) (b : Option Name) (p s r : Span) (w : TypeTree) (t u : TermNode) (old mid low new : List Typ)
    (before between behind after : List TypeFault) (o : Option TyNo) (e f made : InternedTerm)
    → TypeIdsStand old names → IsWrittenInterned names w old mid before between (Ok o) → IsInterned names (b ∷ xs) t mid low between behind (Ok e) → ys ≡ xs
    → IsInterned names (b ∷ ys) u low new behind after (Ok f)
    → numbered_of made ≡ let_in (fix (lambda o (numbered_of e))) (numbered_of f) → IsInterned names xs (tree.letrec_term (bound b p) w (term_tree s t) (term_tree r u)) old new before after (Ok made)
letrec_interned names xs ys b p s r w t u old mid low new before between behind after o e f made stand one two same three is =
    let front = keeps_trans old mid low one.types.keeps two.types.keeps in
    let first = number_between names w old old mid new before between o stand (keeps_same old) one (keeps_trans mid low new two.types.keeps three.types.keeps) in
    let second = form_between names (b ∷ xs) (b ∷ xs) t old mid low new between behind e stand one.types.keeps refl two three.types.keeps in
    let third = form_between names (b ∷ xs) (b ∷ ys) u old low new new behind after f stand front (ap (λ zs. b ∷ zs) same) three (keeps_same new) in
    let both_types = types_then names (w ∷ []) (written_in_node t) old mid low before between behind o (Ok e) stand one.types two.types in
    record {
      types = types_again names (w ∷ (written_in_node t ++ written_in_node u)) old new before after f made
          (types_then names (w ∷ written_in_node t) (written_in_node u) old low new before behind after e (Ok f) stand both_types three.types);
      form = ap (term_over new) is ∙ (λ i. rules.let_in (rules.fix (rules.lambda (first.0 i) (second.0 i))) (third.0 i));
      stands = subst (NumbersStand new) (sym is) ((first.1, second.1), third.1);
    }

pub apply_interned : (names : List NumberedName) (xs ys : List (Option Name)) (s r : Span) (t u : TermNode) (old mid new : List Typ) (before between after : List TypeFault)
    (e f made : InternedTerm) → TypeIdsStand old names → IsInterned names xs t old mid before between (Ok e) → ys ≡ xs → IsInterned names ys u mid new between after (Ok f)
    → numbered_of made ≡ apply (numbered_of e) (numbered_of f) → IsInterned names xs (tree.apply (term_tree s t) (term_tree r u)) old new before after (Ok made)
apply_interned names xs ys s r t u old mid new before between after e f made stand one same two is =
    let first = form_between names xs xs t old old mid new before between e stand (keeps_same old) refl one two.types.keeps in
    let second = form_between names xs ys u old mid new new between after f stand one.types.keeps same two (keeps_same new) in
    record {
      types = types_again names (written_in_node t ++ written_in_node u) old new before after f made
          (types_then names (written_in_node t) (written_in_node u) old mid new before between after e (Ok f) stand one.types two.types);
      form = ap (term_over new) is ∙ (λ i. rules.apply (first.0 i) (second.0 i));
      stands = subst (NumbersStand new) (sym is) (first.1, second.1);
    }

pub ascribe_interned : (names : List NumberedName) (xs : List (Option Name)) (s : Span) (t : TermNode) (u : TypeTree) (old mid new : List Typ) (before between after : List TypeFault)
    (e : InternedTerm) (w : Option TyNo) (made : InternedTerm) → TypeIdsStand old names → IsInterned names xs t old mid before between (Ok e) → IsWrittenInterned names u mid new between after (Ok w)
    → numbered_of made ≡ ascribe (numbered_of e) w → IsInterned names xs (tree.ascribe (term_tree s t) u) old new before after (Ok made)
ascribe_interned names xs s t u old mid new before between after e w made stand one two is =
    let first = form_between names xs xs t old old mid new before between e stand (keeps_same old) refl one two.types.keeps in
    let second = number_between names u old mid new new between after w stand one.types.keeps two (keeps_same new) in
    record {
      types = types_again names (written_in_node t ++ u ∷ []) old new before after w made
          (types_then names (written_in_node t) (u ∷ []) old mid new before between after e (Ok w) stand one.types two.types);
      form = ap (term_over new) is ∙ (λ i. rules.ascribe (first.0 i) (second.0 i));
      stands = subst (NumbersStand new) (sym is) (first.1, second.1);
    }

pub record_interned : (names : List NumberedName) (xs : List (Option Name)) (fs : FieldTrees) (old new : List Typ) (before after : List TypeFault) (es : Vec InternedField Global) (made : InternedTerm)
    → AreInterned names xs fs old new before after (Ok es) → made ≡ Record es → IsInterned names xs (tree.record_term fs) old new before after (Ok made)
record_interned names xs fs old new before after es made all is =
    let made_of = ap numbered_of is ∙ numbered_of-Record es in
    record {
      types = types_again names (written_in_fields fs) old new before after es made all.types;
      form = ap (term_over new) made_of ∙ ap rules.record_term all.forms;
      stands = subst (NumbersStand new) (sym made_of) all.stand;
    }

-- the terms of a record

interned_terms-push : (ts : List Typ) (es : List InternedField) (f : InternedField) (gs : TermFields)
    → joined_terms (interned_terms ts (es ++ f ∷ [])) gs ≡ joined_terms (interned_terms ts es) (rules.term_field f.label.now (interned_term ts f.term) gs)
interned_terms-push ts [] f gs = refl
interned_terms-push ts (g ∷ es) f gs = ap (λ rest. rules.term_field g.label.now (interned_term ts g.term) rest) (interned_terms-push ts es f gs)

stand_terms-push : (ts : List Typ) (es : List InternedField) (f : InternedField) → StandInTerms ts es → StandIn ts f.term → StandInTerms ts (es ++ f ∷ [])
stand_terms-push ts [] f all one = (one, tt)
stand_terms-push ts (g ∷ es) f all one = (all.0, stand_terms-push ts es f all.1 one)

pub terms_more : (names : List NumberedName) (xs ys : List (Option Name)) (fs : List TmField) (i : ℕ) (f : TmField) (old mid new : List Typ) (between after : List TypeFault)
    (es more : List InternedField) (e : InternedTerm) (g : InternedField) (all : TermFields) → i < length fs → f ≡ get_or fs i f → TypeIdsStand old names → Keeps old mid → ys ≡ xs
    → StandInTerms mid es → joined_terms (interned_terms mid es) (nameless_fields (abbreviations_over old names) xs (fields_of (drop i fs))) ≡ all
    → IsInterned names ys (term_node_of f.term.node) mid new between after (Ok e) → more ≡ es ++ g ∷ [] → g.term ≡ e → g.label.now ≡ letters f.label.text
    → StandInTerms new more × (joined_terms (interned_terms new more) (nameless_fields (abbreviations_over old names) xs (fields_of (drop (i + 1) fs))) ≡ all)
terms_more names xs ys fs i f old mid new between after es more e g all lt is stand earlier same given so_far one pushed term label =
    let bs = abbreviations_over old names in
    let rest = nameless_fields bs xs (fields_of (drop (i + 1) fs)) in
    let one_form = form_between names xs ys (term_node_of f.term.node) old mid new new between after e stand earlier same one (keeps_same new) in
    let kept_all = kept_terms mid new es one.types.keeps given in (
      subst (StandInTerms new) (sym pushed) (stand_terms-push new es g kept_all.1 (subst (StandIn new) (sym term) one_form.1)),
      ap (λ v. joined_terms (interned_terms new v) rest) pushed
          ∙ interned_terms-push new es g rest
          ∙ (λ j. joined_terms (kept_all.0 j) (rules.term_field (label j) ((ap (interned_term new) term ∙ one_form.0) j) rest))
          ∙ ap (λ ts. joined_terms (interned_terms mid es) (nameless_fields bs xs ts)) (sym (fields_of-drop fs i f lt is))
          ∙ so_far,
    )

-- the faults of the written types of one more term
pub term_faults_more : (names : List NumberedName) (us vs : List TypeTree) (old mid : List Typ) (between after all : List TypeFault)
    → TypeIdsStand old names → Keeps old mid → after ≡ between ++ faults_in (abbreviations_over mid names) us
    → between ++ faults_in (abbreviations_over old names) (us ++ vs) ≡ all → after ++ faults_in (abbreviations_over old names) vs ≡ all
term_faults_more names us vs old mid between after all stand earlier one so_far =
    let bs = abbreviations_over old names in
    let same = (kept_names old mid names earlier stand).0 in
    ap (λ es. es ++ faults_in bs vs) (one ∙ ap (λ cs. between ++ faults_in cs us) same)
    ∙ append_assoc between (faults_in bs us) (faults_in bs vs)
    ∙ ap (λ es. between ++ es) (sym (faults_in-append bs us vs))
    ∙ so_far

pub term_limit_more : (names : List NumberedName) (us vs : List TypeTree) (old mid : List Typ) (all : Option Span)
    → TypeIdsStand old names → Keeps old mid → first_over_limit (abbreviations_over mid names) us ≡ None
    → all ≡ first_over_limit (abbreviations_over old names) (us ++ vs) → all ≡ first_over_limit (abbreviations_over old names) vs
term_limit_more names us vs old mid all stand earlier one so_far =
    let bs = abbreviations_over old names in
    let same = (kept_names old mid names earlier stand).0 in
    so_far ∙ over_limit-append bs us vs ∙ ap (λ o. option_or o (first_over_limit bs vs)) (ap (λ cs. first_over_limit cs us) (sym same) ∙ one)

pub written_next : (fs : List TmField) (i : ℕ) (f : TmField) → i < length fs → f ≡ get_or fs i f
    → written_in_fields (fields_of (drop i fs)) ≡ written_in_node (term_node_of f.term.node) ++ written_in_fields (fields_of (drop (i + 1) fs))
written_next fs i f lt is = ap written_in_fields (fields_of-drop fs i f lt is)

-- a term of a record of which a written type is refused
pub terms_refused : {T : Type 0} (names : List NumberedName) (xs : List (Option Name)) (fs : FieldTrees) (us vs : List TypeTree) (old mid new : List Typ) (before between after : List TypeFault) (x : ScopeFault)
    (answer : Result (Vec InternedField Global) ScopeFault) → TypeIdsStand old names → Keeps old mid → answer ≡ Err x
    → first_over_limit (abbreviations_over old names) (written_in_fields fs) ≡ first_over_limit (abbreviations_over old names) (us ++ vs)
    → AreTypesInterned {T = T} names us mid new between after (Err x) → AreInterned names xs fs old new before after answer
terms_refused {T} names xs fs us vs old mid new before between after x answer stand earlier is so_far one =
    let bs = abbreviations_over old names in
    let same = (kept_names old mid names earlier stand).0 in
    let front : IsLimit {T = T} (first_over_limit bs us) (Err x) = subst (λ cs. IsLimit {T = T} (first_over_limit cs us) (Err x)) same one.limit in
    let whole : IsLimit {T = Vec InternedField Global} (first_over_limit bs (us ++ vs)) (Err x) =
    subst (λ o. IsLimit {T = Vec InternedField Global} o (Err x)) (sym (over_limit-append bs us vs)) (limit_front T (Vec InternedField Global) (first_over_limit bs us) (first_over_limit bs vs) x front) in
    let all : AreInterned names xs fs old new before after (Err x) = record {
      types = record {
        keeps = keeps_trans old mid new earlier one.keeps;
        faults = tt;
        limit = subst (λ o. IsLimit {T = Vec InternedField Global} o (Err x)) (sym so_far) whole;
      };
      forms = tt;
      stand = tt;
    } in
    subst (λ a. AreInterned names xs fs old new before after a) (sym is) all

pub terms_all : (names : List NumberedName) (xs : List (Option Name)) (fs : List TmField) (i : ℕ) (old new : List Typ) (before after : List TypeFault) (es : Vec InternedField Global) → length fs ≤ i
    → Keeps old new → StandInTerms new es.items
    → joined_terms (interned_terms new es.items) (nameless_fields (abbreviations_over old names) xs (fields_of (drop i fs))) ≡ nameless_fields (abbreviations_over old names) xs (fields_of fs)
    → after ++ faults_in (abbreviations_over old names) (written_in_fields (fields_of (drop i fs))) ≡ before ++ faults_in (abbreviations_over old names) (written_in_fields (fields_of fs))
    → first_over_limit (abbreviations_over old names) (written_in_fields (fields_of fs)) ≡ first_over_limit (abbreviations_over old names) (written_in_fields (fields_of (drop i fs)))
    → AreInterned names xs (fields_of fs) old new before after (Ok es)
terms_all names xs fs i old new before after es le k stand forms faults limit = record {
  types = record {
    keeps = k;
    faults = sym (append-nil after) ∙ (rw (drop_all i fs le) at faults);
    limit = rw (drop_all i fs le) at limit;
  };
  forms = sym (joined_terms-none (interned_terms new es.items)) ∙ (rw (drop_all i fs le) at forms);
  stand = stand;
}

pub ruleset written_types = (ltb-capped, append-nil, keeps_same, keeps_trans)

pub ruleset node_forms = (term_node_of-True, term_node_of-False, term_node_of-Unit, term_node_of-Variable, term_node_of-Numeral, term_node_of-Lambda, term_node_of-If, term_node_of-Let, term_node_of-Letrec, term_node_of-Prefixed, term_node_of-Apply, term_node_of-Project, term_node_of-Ascribe, term_node_of-Record, numbered_of-True, numbered_of-False, numbered_of-Num, numbered_of-Unit, append-nil, keeps_same)

pub ruleset use_forms = (numbered_of-Var, numbered_of-Free)

pub ruleset commands = (append-nil, keeps_same)
