-- How written types get their numbers.
use Rattle.std.proofs.Common.{◌≡◌, ◌≢◌, ℕ, ◌+◌, ◌<◌, ◌≤◌, List, [], ◌∷◌, ◌++◌, Bool, true, false, Option, Some, None, refl, ap, sym, ◌∙◌, subst, length, take, drop, get_or, Bor, append_assoc, arith, Result, Ok, Err}
use Rattle.std.specs.Prelude.{if◌then◌else◌, IfOk}
use Rattle.std.specs.Str.{bytes_eq}
use Rattle.std.specs.declared.alloc.AllocError.{AllocError}
use Rattle.std.proofs.lemmas.List.{append-nil, drop_all}
use Rattle.std.proofs.lemmas.Bool.{or_parts}
use Rattle.lam_token.specs.declared.span.Span.{Span}
use Rattle.lam_rules.specs.Types as rules
use Rattle.lam_rules.specs.Types.{Typ, Fields, Label, joined}
use Rattle.lam_rules.specs.Numbers.{type_of, Keeps, Stands, fields_given, AllStand, IsNotGiven, AreGivenApart}
use Rattle.lam_rules.specs.declared.numbers.TyNo.{TyNo}
use Rattle.lam_rules.proofs.Tables.{keeps_same, keeps_trans, kept_type, keeps_length}
use Rattle.lam_rules.proofs.TypeShapes.{joined-none}
use Rattle.lam_syntax.specs.Letters.{letters}
use Rattle.lam_syntax.specs.declared.types.TyField.{TyField}
use Rattle.lam_syntax.specs.Trees.{word, type_tree, TypeNode, arrow, TypeFields, type_field, no_type_fields, joined_types}
use Rattle.lam_syntax.specs.Views.{word_of, type_of as type_tree_of, type_fields_of}
use Rattle.lam_syntax.proofs.Shapes.{type_node_of-Bool, type_node_of-Nat, type_node_of-Unit, type_node_of-Top, type_node_of-Named, type_node_of-Arrow, type_node_of-Record}
use Rattle.lam_scope.specs.declared.type_fault.TypeFault.{TypeFault}
use Rattle.lam_scope.specs.Expansions.{Abbreviation, both, has_label, expansion, expansion_of_node, expansion_of_fields, node_faults, type_faults, field_faults, label_fault}
use Rattle.lam_scope.specs.Numbered.{written_over, StandsIfAny}
use Rattle.lam_scope.specs.NumberedNames.{NumberedName, abbreviations_over, TypeIdsStand}
use Rattle.lam_scope.specs.inner.Interned.{given_over, GivenStand, with_given, IsTypeInterned}
use Rattle.lam_scope.proofs.InternedTerms.{kept_written}
use Rattle.lam_scope.proofs.TypeNames.{meaning_over, is_bound_over, named_stands, kept_names}
use Rattle.lam_scope.proofs.WellFormedForms.{apart}
use Rattle.lam_scope.proofs.WrittenTypes.{type_fields_of-drop, type_fields_of-take}

-- an arrow

pub arrow_interned : (names : List NumberedName) (s t : Span) (a b : TypeNode) (old mid low new : List Typ) (before between after : List TypeFault) (p q : Option TyNo) (answer : Result (Option TyNo) AllocError)
    → TypeIdsStand old names → IsTypeInterned names a old mid before between (Ok p) → IsTypeInterned names b mid low between after (Ok q) → Keeps low new
    → IfOk answer (λ w. written_over new w ≡ both rules.arrow (written_over low p) (written_over low q)) → IfOk answer (λ w. StandsIfAny new w)
    → IsTypeInterned names (arrow (type_tree s a) (type_tree t b)) old new before after answer
arrow_interned names s t a b old mid low new before between after p q (Ok w) stand one two keeps number stands =
    let seen = kept_names old mid names one.keeps stand in
    let left = kept_written mid low p two.keeps one.stands in
    record {
      keeps = keeps_trans old low new (keeps_trans old mid low one.keeps two.keeps) keeps;
      number = number ∙ (λ i. both rules.arrow ((left.0 ∙ one.number) i) ((two.number ∙ ap (λ bs. expansion_of_node bs b) seen.0) i));
      stands = stands;
      faults = two.faults ∙ (λ i. one.faults i ++ node_faults (seen.0 i) b) ∙ append_assoc before (node_faults (abbreviations_over old names) a) (node_faults (abbreviations_over old names) b);
    }
arrow_interned names s t a b old mid low new before between after p q (Err x) stand one two keeps number stands =
    record { keeps = keeps_trans old low new (keeps_trans old mid low one.keeps two.keeps) keeps; number = tt; stands = tt; faults = tt }

-- labeled numbers

pub kept_given : (old now : List Typ) (items : List (Bor (List ℕ) × TyNo)) → Keeps old now → AllStand old items → (fields_given now items ≡ fields_given old items) × AllStand now items
kept_given old now [] k h = (refl, tt)
kept_given old now (f ∷ items) k h =
    let longer = keeps_length old now k in
    let here = h.0 in
    let all = kept_given old now items k h.1 in
    ((λ i. rules.field f.0.now (kept_type old now f.1.index k here i) (all.0 i)), (omega arith, all.1))

given-push : (ts : List Typ) (items : List (Bor (List ℕ) × TyNo)) (label : Bor (List ℕ)) (n : TyNo) (gs : Fields)
    → joined (fields_given ts (with_given label items n)) gs ≡ joined (fields_given ts items) (rules.field label.now (type_of ts n) gs)
given-push ts [] label n gs = refl
given-push ts (f ∷ items) label n gs = ap (λ rest. rules.field f.0.now (type_of ts f.1) rest) (given-push ts items label n gs)

stand-push : (ts : List Typ) (items : List (Bor (List ℕ) × TyNo)) (label : Bor (List ℕ)) (n : TyNo) → AllStand ts items → Stands ts n → AllStand ts (with_given label items n)
stand-push ts [] label n h s = (s, tt)
stand-push ts (f ∷ items) label n h s = (h.0, stand-push ts items label n h.1 s)

-- the fields that labeled numbers stand for, with one more before the others
one_more : (ts : List Typ) (o : Option (List (Bor (List ℕ) × TyNo))) (label : Bor (List ℕ)) (c : Bool) (w : Option TyNo) (r : Option Fields)
    → both joined (given_over ts (both (with_given label) o (if c then None else w))) r
    ≡ both joined (given_over ts o) (if c then None else both (rules.field label.now) (written_over ts w) r)
one_more ts None label c w r = refl
one_more ts (Some items) label true w r = refl
one_more ts (Some items) label false None r = refl
one_more ts (Some items) label false (Some n) None = refl
one_more ts (Some items) label false (Some n) (Some gs) = ap (λ fs. Some fs) (given-push ts items label n gs)

one_more_stands : (ts : List Typ) (o : Option (List (Bor (List ℕ) × TyNo))) (label : Bor (List ℕ)) (c : Bool) (w : Option TyNo)
    → GivenStand ts o → StandsIfAny ts w → GivenStand ts (both (with_given label) o (if c then None else w))
one_more_stands ts None label c w h s = tt
one_more_stands ts (Some items) label true w h s = tt
one_more_stands ts (Some items) label false None h s = tt
one_more_stands ts (Some items) label false (Some n) h s = stand-push ts items label n h s

kept_given_over : (old now : List Typ) (o : Option (List (Bor (List ℕ) × TyNo))) → Keeps old now → GivenStand old o → (given_over now o ≡ given_over old o) × GivenStand now o
kept_given_over old now None k h = (refl, tt)
kept_given_over old now (Some items) k h = let all = kept_given old now items k h in (ap (λ fs. Some fs) all.0, all.1)

-- one more field has its number
pub numbered_more : (names : List NumberedName) (fs : List TyField) (i : ℕ) (f : TyField) (old mid new : List Typ) (items more : Option (List (Bor (List ℕ) × TyNo))) (w : Option TyNo)
    (label : Bor (List ℕ)) (all : Option Fields) → i < length fs → f ≡ get_or fs i f → TypeIdsStand old names → Keeps old mid → Keeps mid new
    → written_over new w ≡ expansion (abbreviations_over mid names) (type_tree_of f.ty) → StandsIfAny new w → GivenStand mid items → label.now ≡ letters f.label.text
    → more ≡ both (with_given label) items (if has_label (letters f.label.text) (type_fields_of (drop (i + 1) fs)) then None else w)
    → both joined (given_over mid items) (expansion_of_fields (abbreviations_over old names) (type_fields_of (drop i fs))) ≡ all
    → (both joined (given_over new more) (expansion_of_fields (abbreviations_over old names) (type_fields_of (drop (i + 1) fs))) ≡ all) × GivenStand new more
numbered_more names fs i f old mid new items more w label all lt is stand earlier later number stands given labelled pushed so_far =
    let bs = abbreviations_over old names in
    let rest = type_fields_of (drop (i + 1) fs) in
    let repeated = has_label (letters f.label.text) rest in
    let kept = kept_given_over mid new items later given in
    let same = (kept_names old mid names earlier stand).0 in
    let type = number ∙ ap (λ cs. expansion cs (type_tree_of f.ty)) same in (
      ap (λ o. both joined (given_over new o) (expansion_of_fields bs rest)) pushed
          ∙ one_more new items label repeated w (expansion_of_fields bs rest)
          ∙ (λ j. both joined (kept.0 j) (if repeated then None else both (rules.field (labelled j)) (type j) (expansion_of_fields bs rest)))
          ∙ ap (λ gs. both joined (given_over mid items) (expansion_of_fields bs gs)) (sym (type_fields_of-drop fs i f lt is))
          ∙ so_far,
      subst (GivenStand new) (sym pushed) (one_more_stands new items label repeated w kept.1 stands),
    )

-- the faults of one more field
pub faults_more : (bs : List Abbreviation) (fs : List TyField) (i : ℕ) (f : TyField) (before between after all : List TypeFault) → i < length fs → f ≡ get_or fs i f
    → between ≡ before ++ label_fault (word_of f.label) (type_fields_of (take i fs)) → after ≡ between ++ type_faults bs (type_tree_of f.ty)
    → before ++ field_faults bs (type_fields_of (take i fs)) (type_fields_of (drop i fs)) ≡ all
    → after ++ field_faults bs (type_fields_of (take (i + 1) fs)) (type_fields_of (drop (i + 1) fs)) ≡ all
faults_more bs fs i f before between after all lt is labelled typed so_far =
    let front = type_fields_of (take i fs) in
    let own = label_fault (word_of f.label) front in
    let next = joined_types front (type_field (word_of f.label) (type_tree_of f.ty) no_type_fields) in
    let rest = field_faults bs next (type_fields_of (drop (i + 1) fs)) in
    (λ j. (typed ∙ ap (λ es. es ++ type_faults bs (type_tree_of f.ty)) labelled) j ++ field_faults bs (type_fields_of-take fs i f lt is j) (type_fields_of (drop (i + 1) fs)))
    ∙ ap (λ es. es ++ rest) (append_assoc before own (type_faults bs (type_tree_of f.ty)))
    ∙ append_assoc before (own ++ type_faults bs (type_tree_of f.ty)) rest
    ∙ ap (λ gs. before ++ field_faults bs front gs) (sym (type_fields_of-drop fs i f lt is))
    ∙ so_far

pub faults_all : (bs : List Abbreviation) (fs : List TyField) (i : ℕ) (front : TypeFields) (before all : List TypeFault) → length fs ≤ i
    → before ++ field_faults bs front (type_fields_of (drop i fs)) ≡ all → before ≡ all
faults_all bs fs i front before all le so_far = sym (append-nil before) ∙ (rw (drop_all i fs le) at so_far)

both_none : (o : Option Fields) → both joined o (Some rules.no_fields) ≡ o
both_none None = refl
both_none (Some gs) = ap (λ hs. Some hs) (joined-none gs)

pub numbered_all : (bs : List Abbreviation) (fs : List TyField) (i : ℕ) (o all : Option Fields) → length fs ≤ i
    → both joined o (expansion_of_fields bs (type_fields_of (drop i fs))) ≡ all → o ≡ all
numbered_all bs fs i o all le so_far = sym (both_none o) ∙ (rw (drop_all i fs le) at so_far)

-- fields that stand for types have distinct labels

these : (c : Bool) (o : Option Fields) (gs : Fields) → (if c then None else o) ≡ Some gs → (c ≡ false) × (o ≡ Some gs)
these true o gs e = cc
these false o gs e = (refl, e)

field_parts : (l k : Label) (t : Option Typ) (r : Option Fields) (u : Typ) (gs : Fields) → both (rules.field l) t r ≡ Some (rules.field k u gs) → (l ≡ k) × (r ≡ Some gs)
field_parts l k None r u gs e = cc
field_parts l k (Some t) None u gs e = cc
field_parts l k (Some t) (Some hs) u gs e = (cc, cc)

not_given : (bs : List Abbreviation) (ts : List Typ) (l : Label) (fs : TypeFields) (items : List (Bor (List ℕ) × TyNo)) → has_label l fs ≡ false
    → expansion_of_fields bs fs ≡ Some (fields_given ts items) → IsNotGiven l items
not_given bs ts l fs [] none e = tt
not_given bs ts l no_type_fields (f ∷ items) none e = cc
not_given bs ts l (type_field (word k s) t rest) (f ∷ items) none e =
    let one = these (has_label k rest) (both (rules.field k) (expansion bs t) (expansion_of_fields bs rest)) (fields_given ts (f ∷ items)) e in
    let parts = field_parts k f.0.now (expansion bs t) (expansion_of_fields bs rest) (type_of ts f.1) (fields_given ts items) one.1 in
    let once = or_parts (bytes_eq k l) (has_label l rest) none in
    (subst (λ m. l ≢ m) parts.0 (apart l k once.0), not_given bs ts l rest items once.1 parts.1)

pub given_apart : (bs : List Abbreviation) (ts : List Typ) (fs : TypeFields) (items : List (Bor (List ℕ) × TyNo)) → expansion_of_fields bs fs ≡ Some (fields_given ts items) → AreGivenApart items
given_apart bs ts fs [] e = tt
given_apart bs ts no_type_fields (f ∷ items) e = cc
given_apart bs ts (type_field (word k s) t rest) (f ∷ items) e =
    let one = these (has_label k rest) (both (rules.field k) (expansion bs t) (expansion_of_fields bs rest)) (fields_given ts (f ∷ items)) e in
    let parts = field_parts k f.0.now (expansion bs t) (expansion_of_fields bs rest) (type_of ts f.1) (fields_given ts items) one.1 in
    (subst (λ m. IsNotGiven m items) parts.0 (not_given bs ts k rest items one.0 parts.1), given_apart bs ts rest items parts.1)

pub ruleset interned_types = (type_node_of-Bool, type_node_of-Nat, type_node_of-Unit, type_node_of-Top, type_node_of-Named, type_node_of-Arrow, type_node_of-Record, append-nil, meaning_over, is_bound_over, named_stands, keeps_same, keeps_trans)
