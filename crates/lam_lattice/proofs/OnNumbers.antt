-- Bounds of two types that are given by numbers of a table, while the table grows.
use Rattle.std.proofs.Common.{◌≡◌, ◌∙◌, ℕ, ◌<◌, ◌++◌, List, [], ◌∷◌, String, length, ap, sym, refl, subst}
use Rattle.std.specs.declared.alloc.Global.{Global}
use Rattle.lam_rules.specs.Types.{Typ, top, arrow, record_of, joined, IsWellFormed}
use Rattle.lam_rules.specs.Numbers.{type_of, Keeps, fields_over, shaped, IsOver, AreEarlier, HaveDistinctLabels}
use Rattle.lam_rules.specs.declared.rules.Dialect.{Dialect}
use Rattle.lam_rules.specs.declared.numbers.TyNo.{TyNo}
use Rattle.lam_rules.specs.declared.numbers.Shape.{Shape}
use Rattle.lam_rules.proofs.ByShape.{below_wf}
use Rattle.lam_rules.proofs.Tables.{kept_type, kept_fields}
use Rattle.lam_rules.proofs.TableFields.{distinct_of}
use Rattle.lam_sub.specs.OtherFields.{other_fields}
use Rattle.lam_sub.specs.BoundOrder.{join_of_arrows, join_of_records, meet_of_arrows, meet_of_records}
use Rattle.lam_sub.proofs.TableVerdicts.{fields_over-append}
use Rattle.lam_lattice.specs.inner.Bounds.{IsJoin, IsMeet, HaveNoMeet, JoinsInOrder, MeetsInOrder}
use Rattle.lam_lattice.specs.inner.Records.{OrderlyJoins, OrderlyMeets, AreJoined, AreMet}
use Rattle.lam_lattice.proofs.Unlike.{join_seen, meet_seen, no_meet_seen}
use Rattle.lam_lattice.proofs.Arrows.{arrows_join, arrows_join_top, arrows_meet, arrows_no_meet}
use Rattle.lam_lattice.proofs.FieldBounds.{records_join, records_meet}
use Rattle.lam_lattice.proofs.Orders.{are_joins, joins_are_ordered, are_meets, meets_are_ordered, order_seen}

-- the bounds on numbers

-- two arrows

pub arrow_parts : (n : ℕ) (x : Shape) (p o : TyNo) → IsOver n x → x ≡ Shape.Arrow p o → (p.index < n) × (o.index < n)
arrow_parts n x p o over is_x = subst (λ s. IsOver n s) is_x over

pub arrow_told : (ts : List Typ) (s : Typ) (x : Shape) (p o : TyNo) → s ≡ shaped ts x → x ≡ Shape.Arrow p o → s ≡ arrow (type_of ts p) (type_of ts o)
arrow_told ts s x p o is_s is_x = is_s ∙ ap (shaped ts) is_x

-- the join of two numbers that stood before the table grew
join_before : (old now : List Typ) (left right : TyNo) (j : Typ) (d e : Dialect) → Keeps old now → left.index < length old → right.index < length old → e ≡ d
    → IsJoin (type_of now left) (type_of now right) j e → IsJoin (type_of old left) (type_of old right) j d
join_before old now left right j d e keeps one other same join =
    subst (λ x. IsJoin (type_of old left) (type_of old right) j x) same
    (subst (λ s. IsJoin s (type_of old right) j e) (kept_type old now left.index keeps one)
    (subst (λ t. IsJoin (type_of now left) t j e) (kept_type old now right.index keeps other) join))

pub arrow_join : (old mid now : List Typ) (s t u : Typ) (p o q r m j : TyNo) (d e : Dialect) → s ≡ arrow (type_of old p) (type_of old o) → t ≡ arrow (type_of old q) (type_of old r)
    → Keeps old mid → Keeps mid now → o.index < length old → r.index < length old → m.index < length mid
    → IsMeet (type_of old p) (type_of old q) (type_of mid m) d → e ≡ d → IsJoin (type_of mid o) (type_of mid r) (type_of now j) e
    → u ≡ arrow (type_of now m) (type_of now j) → IsJoin s t u d
arrow_join old mid now s t u p o q r m j d e is_s is_t first second stands_o stands_r stands_m meet same join is_u =
    join_seen s t u _ _ _ d (sym is_s) (sym is_t) (sym is_u)
    (arrows_join (type_of old p) (type_of old o) (type_of old q) (type_of old r) (type_of now m) (type_of now j) d
    (subst (λ x. IsMeet (type_of old p) (type_of old q) x d) (sym (kept_type mid now m.index second stands_m)) meet)
    (join_before old mid o r (type_of now j) d e first stands_o stands_r same join))

pub arrow_top : (old : List Typ) (s t u : Typ) (p o q r : TyNo) (d : Dialect) → s ≡ arrow (type_of old p) (type_of old o) → t ≡ arrow (type_of old q) (type_of old r)
    → IsWellFormed s → IsWellFormed t → HaveNoMeet (type_of old p) (type_of old q) d → u ≡ top → IsJoin s t u d
arrow_top old s t u p o q r d is_s is_t ws wt none is_u =
    join_seen s t u _ _ _ d (sym is_s) (sym is_t) (sym is_u)
    (arrows_join_top (type_of old p) (type_of old o) (type_of old q) (type_of old r) d (subst (λ x. IsWellFormed x) is_s ws) (subst (λ x. IsWellFormed x) is_t wt) none)

pub arrow_meet : (old mid now : List Typ) (s t u : Typ) (p o q r m j : TyNo) (d e : Dialect) → s ≡ arrow (type_of old p) (type_of old o) → t ≡ arrow (type_of old q) (type_of old r)
    → Keeps old mid → Keeps mid now → p.index < length old → q.index < length old → m.index < length mid
    → IsMeet (type_of old o) (type_of old r) (type_of mid m) d → e ≡ d → IsJoin (type_of mid p) (type_of mid q) (type_of now j) e
    → u ≡ arrow (type_of now j) (type_of now m) → IsMeet s t u d
arrow_meet old mid now s t u p o q r m j d e is_s is_t first second stands_p stands_q stands_m meet same join is_u =
    meet_seen s t u _ _ _ d (sym is_s) (sym is_t) (sym is_u)
    (arrows_meet (type_of old p) (type_of old o) (type_of old q) (type_of old r) (type_of now j) (type_of now m) d
    (join_before old mid p q (type_of now j) d e first stands_p stands_q same join)
    (subst (λ x. IsMeet (type_of old o) (type_of old r) x d) (sym (kept_type mid now m.index second stands_m)) meet))

pub arrow_no_meet : (old : List Typ) (s t : Typ) (p o q r : TyNo) (d : Dialect) → s ≡ arrow (type_of old p) (type_of old o) → t ≡ arrow (type_of old q) (type_of old r)
    → HaveNoMeet (type_of old o) (type_of old r) d → HaveNoMeet s t d
arrow_no_meet old s t p o q r d is_s is_t none =
    no_meet_seen s t _ _ d (sym is_s) (sym is_t) (arrows_no_meet (type_of old p) (type_of old o) (type_of old q) (type_of old r) d none)

-- two record types

pub record_join : (old now : List Typ) (s t u : Typ) (fs gs items : List (String Global × TyNo)) (d : Dialect) → s ≡ record_of (fields_over old fs) → t ≡ record_of (fields_over old gs)
    → IsWellFormed s → IsWellFormed t → AreJoined (OrderlyJoins d) (fields_over old gs) (fields_over old fs) (fields_over now items)
    → u ≡ record_of (fields_over now items) → IsJoin s t u d
record_join old now s t u fs gs items d is_s is_t ws wt are is_u =
    join_seen s t u _ _ _ d (sym is_s) (sym is_t) (sym is_u)
    (records_join d (fields_over old fs) (fields_over old gs) (fields_over now items) (subst (λ x. IsWellFormed x) is_s ws) (subst (λ x. IsWellFormed x) is_t wt)
    (are_joins d (fields_over old gs) (fields_over old fs) (fields_over now items) are))

pub join_labels : (old now : List Typ) (s t : Typ) (fs gs items : List (String Global × TyNo)) (d : Dialect) → s ≡ record_of (fields_over old fs) → t ≡ record_of (fields_over old gs)
    → IsWellFormed s → IsWellFormed t → AreJoined (OrderlyJoins d) (fields_over old gs) (fields_over old fs) (fields_over now items) → HaveDistinctLabels items
join_labels old now s t fs gs items d is_s is_t ws wt are =
    let join = record_join old now s t (record_of (fields_over now items)) fs gs items d is_s is_t ws wt are refl in
    distinct_of now items (below_wf s (record_of (fields_over now items)) d join.left).1

fields_met : (old now : List Typ) (fs gs met more items : List (String Global × TyNo)) → Keeps old now → AreEarlier (length old) more
    → fields_over old more ≡ other_fields (fields_over old gs) (fields_over old fs) → items ≡ met ++ more
    → joined (fields_over now met) (other_fields (fields_over old gs) (fields_over old fs)) ≡ fields_over now items
fields_met old now fs gs met more items keeps below others is =
    sym (ap (λ xs. fields_over now xs) is ∙ fields_over-append now met more ∙ ap (λ x. joined (fields_over now met) x) (kept_fields old now more keeps below ∙ others))

pub record_meet : (old now : List Typ) (s t u : Typ) (fs gs met more items : List (String Global × TyNo)) (d : Dialect) → s ≡ record_of (fields_over old fs) → t ≡ record_of (fields_over old gs)
    → IsWellFormed s → IsWellFormed t → Keeps old now → AreMet (OrderlyMeets d) (fields_over old gs) (fields_over old fs) (fields_over now met) → AreEarlier (length old) more
    → fields_over old more ≡ other_fields (fields_over old gs) (fields_over old fs) → items ≡ met ++ more
    → u ≡ record_of (fields_over now items) → IsMeet s t u d
record_meet old now s t u fs gs met more items d is_s is_t ws wt keeps are below others is is_u =
    meet_seen s t u _ _ _ d (sym is_s) (sym is_t) (ap record_of (fields_met old now fs gs met more items keeps below others is) ∙ sym is_u)
    (records_meet d (fields_over old fs) (fields_over old gs) (fields_over now met) (subst (λ x. IsWellFormed x) is_s ws) (subst (λ x. IsWellFormed x) is_t wt)
    (are_meets d (fields_over old gs) (fields_over old fs) (fields_over now met) are))

pub meet_labels : (old now : List Typ) (s t : Typ) (fs gs met more items : List (String Global × TyNo)) (d : Dialect) → s ≡ record_of (fields_over old fs) → t ≡ record_of (fields_over old gs)
    → IsWellFormed s → IsWellFormed t → Keeps old now → AreMet (OrderlyMeets d) (fields_over old gs) (fields_over old fs) (fields_over now met) → AreEarlier (length old) more
    → fields_over old more ≡ other_fields (fields_over old gs) (fields_over old fs) → items ≡ met ++ more → HaveDistinctLabels items
meet_labels old now s t fs gs met more items d is_s is_t ws wt keeps are below others is =
    let meet = record_meet old now s t (record_of (fields_over now items)) fs gs met more items d is_s is_t ws wt keeps are below others is refl in
    distinct_of now items (below_wf (record_of (fields_over now items)) s d meet.left).0

-- the order of bounds on numbers

-- what holds of the types of two numbers held before the table grew
before : (old now : List Typ) (left right : TyNo) (P : Typ → Typ → Type 0) → Keeps old now → left.index < length old → right.index < length old
    → P (type_of now left) (type_of now right) → P (type_of old left) (type_of old right)
before old now left right P keeps one other p =
    subst (λ s. P s (type_of old right)) (kept_type old now left.index keeps one)
    (subst (λ t. P (type_of now left) t) (kept_type old now right.index keeps other) p)

pub arrow_join_order : (old mid now : List Typ) (s t u : Typ) (p o q r m j : TyNo) → s ≡ arrow (type_of old p) (type_of old o) → t ≡ arrow (type_of old q) (type_of old r)
    → Keeps old mid → Keeps mid now → o.index < length old → r.index < length old → m.index < length mid
    → MeetsInOrder (type_of old p) (type_of old q) (type_of mid m) → JoinsInOrder (type_of mid o) (type_of mid r) (type_of now j)
    → u ≡ arrow (type_of now m) (type_of now j) → JoinsInOrder s t u
arrow_join_order old mid now s t u p o q r m j is_s is_t first second stands_o stands_r stands_m meet join is_u =
    order_seen JoinsInOrder s t u _ _ _ (sym is_s) (sym is_t) (sym is_u)
    (join_of_arrows (subst (λ x. MeetsInOrder (type_of old p) (type_of old q) x) (sym (kept_type mid now m.index second stands_m)) meet)
    (before old mid o r (λ a b. JoinsInOrder a b (type_of now j)) first stands_o stands_r join))

pub arrow_meet_order : (old mid now : List Typ) (s t u : Typ) (p o q r m j : TyNo) → s ≡ arrow (type_of old p) (type_of old o) → t ≡ arrow (type_of old q) (type_of old r)
    → Keeps old mid → Keeps mid now → p.index < length old → q.index < length old → m.index < length mid
    → MeetsInOrder (type_of old o) (type_of old r) (type_of mid m) → JoinsInOrder (type_of mid p) (type_of mid q) (type_of now j)
    → u ≡ arrow (type_of now j) (type_of now m) → MeetsInOrder s t u
arrow_meet_order old mid now s t u p o q r m j is_s is_t first second stands_p stands_q stands_m meet join is_u =
    order_seen MeetsInOrder s t u _ _ _ (sym is_s) (sym is_t) (sym is_u)
    (meet_of_arrows (before old mid p q (λ a b. JoinsInOrder a b (type_of now j)) first stands_p stands_q join)
    (subst (λ x. MeetsInOrder (type_of old o) (type_of old r) x) (sym (kept_type mid now m.index second stands_m)) meet))

pub record_join_order : (old now : List Typ) (s t u : Typ) (fs gs items : List (String Global × TyNo)) (d : Dialect) → s ≡ record_of (fields_over old fs) → t ≡ record_of (fields_over old gs)
    → AreJoined (OrderlyJoins d) (fields_over old gs) (fields_over old fs) (fields_over now items) → u ≡ record_of (fields_over now items) → JoinsInOrder s t u
record_join_order old now s t u fs gs items d is_s is_t are is_u =
    order_seen JoinsInOrder s t u _ _ _ (sym is_s) (sym is_t) (sym is_u) (join_of_records (joins_are_ordered d (fields_over old gs) (fields_over old fs) (fields_over now items) are))

pub record_meet_order : (old now : List Typ) (s t u : Typ) (fs gs met more items : List (String Global × TyNo)) (d : Dialect) → s ≡ record_of (fields_over old fs) → t ≡ record_of (fields_over old gs)
    → Keeps old now → AreMet (OrderlyMeets d) (fields_over old gs) (fields_over old fs) (fields_over now met) → AreEarlier (length old) more
    → fields_over old more ≡ other_fields (fields_over old gs) (fields_over old fs) → items ≡ met ++ more
    → u ≡ record_of (fields_over now items) → MeetsInOrder s t u
record_meet_order old now s t u fs gs met more items d is_s is_t keeps are below others is is_u =
    order_seen MeetsInOrder s t u _ _ _ (sym is_s) (sym is_t) (ap record_of (fields_met old now fs gs met more items keeps below others is) ∙ sym is_u)
    (meet_of_records (meets_are_ordered d (fields_over old gs) (fields_over old fs) (fields_over now met) are))

pub below_append : (n : ℕ) (fs gs : List (String Global × TyNo)) → AreEarlier n fs → AreEarlier n gs → AreEarlier n (fs ++ gs)
below_append n [] gs one other = other
below_append n (f ∷ fs) gs one other = (one.0, below_append n fs gs one.1 other)
