-- Fields of two record types of a table side by side, and what is made of them one after the other.
use Rattle.std.proofs.Common.{◌≡◌, ◌∙◌, ℕ, ◌+◌, ◌<◌, ◌≤◌, ◌++◌, List, [], ◌∷◌, String, string_bytes, length, take, drop, get_or, max, zero, suc, ap, sym, refl, subst, arith, Some, None, IfSome, IfNone, inl}
use Rattle.std.proofs.lemmas.List.{drop_all, take_more}
use Rattle.std.specs.declared.alloc.Global.{Global}
use Rattle.std.proofs.lemmas.Option.{IfSome_then}
use Rattle.lam_rules.specs.Types.{Label, Typ, record_of, Fields, no_fields, field, joined, Has, IsAbsent}
use Rattle.lam_rules.specs.Numbers.{type_of, Keeps, fields_over, AreEarlier}
use Rattle.lam_rules.specs.declared.rules.Dialect.{Dialect}
use Rattle.lam_rules.specs.declared.numbers.TyNo.{TyNo}
use Rattle.lam_rules.proofs.Tables.{keeps_same, kept_type, kept_fields}
use Rattle.lam_rules.proofs.TableFields.{fields_over-push}
use Rattle.lam_rules.proofs.TypeShapes.{joined-none}
use Rattle.lam_rules.proofs.TableEntries.{fields_over-drop}
use Rattle.lam_sub.specs.OtherFields.{other_fields}
use Rattle.lam_sub.proofs.LookUps.{others_without, others_with}
use Rattle.lam_sub.proofs.TableVerdicts.{number_in_back}
use Rattle.lam_lattice.specs.inner.Bounds.{HaveNoMeet}
use Rattle.lam_lattice.specs.inner.Matches.{IsMatch, AreMatches, AreMatchesBelow}
use Rattle.lam_lattice.specs.inner.Records.{AreJoined, joined_none, joined_both, joined_left_out, AreMet, met_none, met_both, met_alone}
use Rattle.lam_lattice.specs.declared.matching.Match.{Match}
use Rattle.lam_lattice.proofs.FieldBounds.{records_no_meet}

-- matches, from the front

matches_push : (right fs : List (String Global × TyNo)) (ms : List Match) (f : String Global × TyNo) (m : Match) → AreMatches right fs ms → IsMatch right f m → AreMatches right (fs ++ f ∷ []) (ms ++ m ∷ [])
matches_push right [] [] f m are here = (here, tt)
matches_push right (g ∷ fs) (n ∷ ms) f m are here = (are.0, matches_push right fs ms f m are.1 here)
matches_push right [] (n ∷ ms) f m are here = absurd are
matches_push right (g ∷ fs) [] f m are here = absurd are

pub matched_next : (right left : List (String Global × TyNo)) (made more : List Match) (i : ℕ) (f : String Global × TyNo) (m : Match)
    → AreMatches right (take i left) made → i < length left → f ≡ get_or left i f → more ≡ made ++ m ∷ [] → IsMatch right f m → AreMatches right (take (i + 1) left) more
matched_next right left made more i f m so_far lt is pushed here =
    let longer : take (i + 1) left ≡ take i left ++ f ∷ [] = take_more left i f lt ∙ ap (λ x. take i left ++ x ∷ []) (sym is) in
    rw (pushed, longer) (matches_push right (take i left) made f m so_far here)

-- the match at a place is that of the field at it
match_at : (right left : List (String Global × TyNo)) (ms : List Match) (i : ℕ) (m : Match) → AreMatches right left ms → i < length ms → m ≡ get_or ms i m
    → (f : String Global × TyNo) × (drop i left ≡ f ∷ drop (i + 1) left) × IsMatch right f m
match_at right [] [] i m are lt is = let no_way : ⊥ = omega arith in absurd no_way
match_at right (f ∷ fs) (n ∷ ms) zero m are lt is = (f, refl, subst (IsMatch right f) (sym is) are.0)
match_at right (f ∷ fs) (n ∷ ms) (suc i) m are lt is =
    let rest = match_at right fs ms i m are.1 (omega arith) is in
    let step : suc i + 1 ≡ suc (i + 1) = omega arith in
    (rest.0, subst (λ k. drop i fs ≡ rest.0 ∷ drop k (f ∷ fs)) (sym step) rest.1, rest.2)
match_at right [] (n ∷ ms) i m are lt is = absurd are
match_at right (f ∷ fs) [] i m are lt is = absurd are

matches_length : (right left : List (String Global × TyNo)) (ms : List Match) → AreMatches right left ms → length left ≡ length ms
matches_length right [] [] are = refl
matches_length right (f ∷ fs) (m ∷ ms) are = let rest = matches_length right fs ms are.1 in omega arith
matches_length right [] (m ∷ ms) are = absurd are
matches_length right (f ∷ fs) [] are = absurd are

-- numbers below a bound

pub matches_below : (n : ℕ) (right left : List (String Global × TyNo)) (ms : List Match) → AreMatches right left ms → AreEarlier n left → AreEarlier n right → AreMatchesBelow n ms
matches_below n right [] [] are one other = tt
matches_below n right (f ∷ fs) (m ∷ ms) are one other = (
  let same = ap (λ x. x.index) are.0.left in let here = one.0 in omega arith,
  IfSome_then m.right are.0.below (λ number below. below n other),
  matches_below n right fs ms are.1 one.1 other,
)
matches_below n right [] (m ∷ ms) are one other = absurd are
matches_below n right (f ∷ fs) [] are one other = absurd are

pub match_below : (n : ℕ) (ms : List Match) (i : ℕ) (m : Match) → AreMatchesBelow n ms → i < length ms → m ≡ get_or ms i m → (m.left.index < n) × IfSome m.right (λ number. number.index < n)
match_below n [] i m below lt is = let no_way : ⊥ = omega arith in absurd no_way
match_below n (o ∷ ms) zero m below lt is = subst (λ x. (x.left.index < n) × IfSome x.right (λ number. number.index < n)) (sym is) (below.0, below.1)
match_below n (o ∷ ms) (suc i) m below lt is = match_below n ms i m below.2 (omega arith) is

-- the number that a match has from the second type is below the bound
pub right_below : (n : ℕ) (ms : List Match) (i : ℕ) (m : Match) (r : TyNo) → AreMatchesBelow n ms → i < length ms → m ≡ get_or ms i m → m.right ≡ Some r → r.index < n
right_below n ms i m r below lt is is_r = subst (λ o. IfSome o (λ number. number.index < n)) is_r (match_below n ms i m below lt is).1

-- the least number that is above each number of the first type
abbrev pub bound_of : List Match → ℕ
bound_of [] = 0
bound_of (m ∷ ms) = max (m.left.index + 1) (bound_of ms)

pub matches_bound : (n : ℕ) (right left : List (String Global × TyNo)) (ms : List Match) → AreMatches right left ms → AreEarlier n left → bound_of ms ≤ n
matches_bound n right [] [] are below = omega arith
matches_bound n right (f ∷ fs) (m ∷ ms) are below =
    let rest = matches_bound n right fs ms are.1 below.1 in
    let same = ap (λ x. x.index) are.0.left in
    let here = below.0 in
    omega arith
matches_bound n right [] (m ∷ ms) are below = absurd are
matches_bound n right (f ∷ fs) [] are below = absurd are

pub match_bound : (ms : List Match) (i : ℕ) (m : Match) → i < length ms → m ≡ get_or ms i m → m.left.index < bound_of ms
match_bound [] i m lt is = let no_way : ⊥ = omega arith in absurd no_way
match_bound (o ∷ ms) zero m lt is = let e = ap (λ x. x.left.index) is in omega arith
match_bound (o ∷ ms) (suc i) m lt is = let rest = match_bound ms i m (omega arith) is in omega arith

-- what is made, with what will be made of the rest, is made of the whole

pushed_number : (before now : List Typ) (made more : List (String Global × TyNo)) (label : String Global) (number : TyNo) (l : Label) (hs : Fields)
    → Keeps before now → AreEarlier (length before) made → more ≡ made ++ (label, number) ∷ [] → string_bytes label ≡ l
    → joined (fields_over now more) hs ≡ joined (fields_over before made) (field l (type_of now number) hs)
pushed_number before now made more label number l hs keeps below pushed same =
    ap (λ xs. joined (fields_over now xs) hs) pushed
    ∙ fields_over-push now made (label, number) hs
    ∙ ap (λ fs. joined fs (field (string_bytes label) (type_of now number) hs)) (kept_fields before now made keeps below)
    ∙ ap (λ k. joined (fields_over before made) (field k (type_of now number) hs)) same

abbrev pub JoinsSoFar : (Typ → Typ → Typ → Type 0) → List Typ → List Typ → List Match → ℕ → List (String Global × TyNo) → Type 0
JoinsSoFar IsMade old now ms i made = (left right : List (String Global × TyNo)) → AreMatches right left ms → (hs : Fields)
    → AreJoined IsMade (fields_over old right) (fields_over old (drop i left)) hs
    → AreJoined IsMade (fields_over old right) (fields_over old left) (joined (fields_over now made) hs)

pub joins_more : (IsMade : Typ → Typ → Typ → Type 0) (old before now : List Typ) (ms : List Match) (i : ℕ) (m : Match) (made more : List (String Global × TyNo)) (label : String Global) (r number : TyNo)
    → AreMatchesBelow (length old) ms → i < length ms → m ≡ get_or ms i m → m.right ≡ Some r
    → Keeps old before → Keeps before now → AreEarlier (length before) made
    → IsMade (type_of before m.left) (type_of before r) (type_of now number)
    → more ≡ made ++ (label, number) ∷ [] → string_bytes label ≡ string_bytes m.label
    → JoinsSoFar IsMade old before ms i made → JoinsSoFar IsMade old now ms (i + 1) more
joins_more IsMade old before now ms i m made more label r number stand lt is is_r first keeps below join pushed same so_far left right are hs rest =
    let at = match_at right left ms i m are lt is in
    let has : Has (string_bytes at.0.0) (type_of old r) (fields_over old right) =
    subst (λ o. IfSome o (λ x. (ts : List Typ) → Has (string_bytes at.0.0) (type_of ts x) (fields_over ts right))) is_r at.2.some old in
    let same_left : type_of before m.left ≡ type_of old at.0.1 = kept_type old before m.left.index first (match_below (length old) ms i m stand lt is).0 ∙ ap (type_of old) at.2.left in
    let same_right = kept_type old before r.index first (right_below (length old) ms i m r stand lt is is_r) in
    let here : IsMade (type_of old at.0.1) (type_of old r) (type_of now number) =
    subst (λ s. IsMade s (type_of old r) (type_of now number)) same_left (subst (λ t. IsMade (type_of before m.left) t (type_of now number)) same_right join) in
    subst (λ x. AreJoined IsMade (fields_over old right) (fields_over old left) x)
    (sym (pushed_number before now made more label number (string_bytes at.0.0) hs keeps below pushed (same ∙ at.2.label)))
    (so_far left right are (field (string_bytes at.0.0) (type_of now number) hs)
    (subst (λ fs. AreJoined IsMade (fields_over old right) (fields_over old fs) (field (string_bytes at.0.0) (type_of now number) hs)) (sym at.1)
    (joined_both (string_bytes at.0.0) (type_of old at.0.1) (type_of old r) (type_of now number) has here rest)))

pub joins_without : (IsMade : Typ → Typ → Typ → Type 0) (old now : List Typ) (ms : List Match) (i : ℕ) (m : Match) (made : List (String Global × TyNo)) → i < length ms → m ≡ get_or ms i m → m.right ≡ None
    → JoinsSoFar IsMade old now ms i made → JoinsSoFar IsMade old now ms (i + 1) made
joins_without IsMade old now ms i m made lt is is_none so_far left right are hs rest =
    let at = match_at right left ms i m are lt is in
    let absent : IsAbsent (string_bytes at.0.0) (fields_over old right) =
    subst (λ o. IfNone o ((ts : List Typ) → IsAbsent (string_bytes at.0.0) (fields_over ts right))) is_none at.2.none old in
    so_far left right are hs
    (subst (λ fs. AreJoined IsMade (fields_over old right) (fields_over old fs) hs) (sym at.1) (joined_left_out (string_bytes at.0.0) (type_of old at.0.1) absent rest))

pub joins_all : (IsMade : Typ → Typ → Typ → Type 0) (old now : List Typ) (ms : List Match) (i : ℕ) (made : List (String Global × TyNo)) → length ms ≤ i → JoinsSoFar IsMade old now ms i made
    → (left right : List (String Global × TyNo)) → AreMatches right left ms → AreJoined IsMade (fields_over old right) (fields_over old left) (fields_over now made)
joins_all IsMade old now ms i made le so_far left right are =
    let long = matches_length right left ms are in
    let over : length left ≤ i = omega arith in
    subst (λ x. AreJoined IsMade (fields_over old right) (fields_over old left) x) (joined-none (fields_over now made))
    (so_far left right are no_fields (subst (λ fs. AreJoined IsMade (fields_over old right) (fields_over old fs) no_fields) (sym (drop_all i left over)) joined_none))

abbrev pub MeetsSoFar : (Typ → Typ → Typ → Type 0) → List Typ → List Typ → List Match → ℕ → List (String Global × TyNo) → Type 0
MeetsSoFar IsMade old now ms i made = (left right : List (String Global × TyNo)) → AreMatches right left ms → (hs : Fields)
    → AreMet IsMade (fields_over old right) (fields_over old (drop i left)) hs
    → AreMet IsMade (fields_over old right) (fields_over old left) (joined (fields_over now made) hs)

pub meets_more : (IsMade : Typ → Typ → Typ → Type 0) (old before now : List Typ) (ms : List Match) (i : ℕ) (m : Match) (made more : List (String Global × TyNo)) (label : String Global) (r number : TyNo)
    → AreMatchesBelow (length old) ms → i < length ms → m ≡ get_or ms i m → m.right ≡ Some r
    → Keeps old before → Keeps before now → AreEarlier (length before) made
    → IsMade (type_of before m.left) (type_of before r) (type_of now number)
    → more ≡ made ++ (label, number) ∷ [] → string_bytes label ≡ string_bytes m.label
    → MeetsSoFar IsMade old before ms i made → MeetsSoFar IsMade old now ms (i + 1) more
meets_more IsMade old before now ms i m made more label r number stand lt is is_r first keeps below meet pushed same so_far left right are hs rest =
    let at = match_at right left ms i m are lt is in
    let has : Has (string_bytes at.0.0) (type_of old r) (fields_over old right) =
    subst (λ o. IfSome o (λ x. (ts : List Typ) → Has (string_bytes at.0.0) (type_of ts x) (fields_over ts right))) is_r at.2.some old in
    let same_left : type_of before m.left ≡ type_of old at.0.1 = kept_type old before m.left.index first (match_below (length old) ms i m stand lt is).0 ∙ ap (type_of old) at.2.left in
    let same_right = kept_type old before r.index first (right_below (length old) ms i m r stand lt is is_r) in
    let here : IsMade (type_of old at.0.1) (type_of old r) (type_of now number) =
    subst (λ s. IsMade s (type_of old r) (type_of now number)) same_left (subst (λ t. IsMade (type_of before m.left) t (type_of now number)) same_right meet) in
    subst (λ x. AreMet IsMade (fields_over old right) (fields_over old left) x)
    (sym (pushed_number before now made more label number (string_bytes at.0.0) hs keeps below pushed (same ∙ at.2.label)))
    (so_far left right are (field (string_bytes at.0.0) (type_of now number) hs)
    (subst (λ fs. AreMet IsMade (fields_over old right) (fields_over old fs) (field (string_bytes at.0.0) (type_of now number) hs)) (sym at.1)
    (met_both (string_bytes at.0.0) (type_of old at.0.1) (type_of old r) (type_of now number) has here rest)))

pub meets_alone : (IsMade : Typ → Typ → Typ → Type 0) (old now : List Typ) (ms : List Match) (i : ℕ) (m : Match) (made more : List (String Global × TyNo)) (label : String Global)
    → AreMatchesBelow (length old) ms → i < length ms → m ≡ get_or ms i m → m.right ≡ None
    → Keeps old now → AreEarlier (length now) made → more ≡ made ++ (label, m.left) ∷ [] → string_bytes label ≡ string_bytes m.label
    → MeetsSoFar IsMade old now ms i made → MeetsSoFar IsMade old now ms (i + 1) more
meets_alone IsMade old now ms i m made more label stand lt is is_none first below pushed same so_far left right are hs rest =
    let at = match_at right left ms i m are lt is in
    let absent : IsAbsent (string_bytes at.0.0) (fields_over old right) =
    subst (λ o. IfNone o ((ts : List Typ) → IsAbsent (string_bytes at.0.0) (fields_over ts right))) is_none at.2.none old in
    let same_left : type_of now m.left ≡ type_of old at.0.1 = kept_type old now m.left.index first (match_below (length old) ms i m stand lt is).0 ∙ ap (type_of old) at.2.left in
    subst (λ x. AreMet IsMade (fields_over old right) (fields_over old left) x)
    (sym (pushed_number now now made more label m.left (string_bytes at.0.0) hs (keeps_same now) below pushed (same ∙ at.2.label)
    ∙ ap (λ t. joined (fields_over now made) (field (string_bytes at.0.0) t hs)) same_left))
    (so_far left right are (field (string_bytes at.0.0) (type_of old at.0.1) hs)
    (subst (λ fs. AreMet IsMade (fields_over old right) (fields_over old fs) (field (string_bytes at.0.0) (type_of old at.0.1) hs)) (sym at.1)
    (met_alone (string_bytes at.0.0) (type_of old at.0.1) absent rest)))

pub meets_all : (IsMade : Typ → Typ → Typ → Type 0) (old now : List Typ) (ms : List Match) (i : ℕ) (made : List (String Global × TyNo)) → length ms ≤ i → MeetsSoFar IsMade old now ms i made
    → (left right : List (String Global × TyNo)) → AreMatches right left ms → AreMet IsMade (fields_over old right) (fields_over old left) (fields_over now made)
meets_all IsMade old now ms i made le so_far left right are =
    let long = matches_length right left ms are in
    let over : length left ≤ i = omega arith in
    subst (λ x. AreMet IsMade (fields_over old right) (fields_over old left) x) (joined-none (fields_over now made))
    (so_far left right are no_fields (subst (λ fs. AreMet IsMade (fields_over old right) (fields_over old fs) no_fields) (sym (drop_all i left over)) met_none))

-- two fields with one label and nothing below both of their types: so the record types have no meet
pub meet_missing : (d : Dialect) (old before : List Typ) (ms : List Match) (i : ℕ) (m : Match) (r : TyNo) → AreMatchesBelow (length old) ms → i < length ms → m ≡ get_or ms i m → m.right ≡ Some r
    → Keeps old before → HaveNoMeet (type_of before m.left) (type_of before r) d
    → (left right : List (String Global × TyNo)) → AreMatches right left ms → HaveNoMeet (record_of (fields_over old left)) (record_of (fields_over old right)) d
meet_missing d old before ms i m r stand lt is is_r first none left right are =
    let at = match_at right left ms i m are lt is in
    let has : Has (string_bytes at.0.0) (type_of old r) (fields_over old right) =
    subst (λ o. IfSome o (λ x. (ts : List Typ) → Has (string_bytes at.0.0) (type_of ts x) (fields_over ts right))) is_r at.2.some old in
    let has_left : Has (string_bytes at.0.0) (type_of old at.0.1) (fields_over old left) =
    number_in_back old left i (string_bytes at.0.0) (type_of old at.0.1)
    (subst (λ fs. Has (string_bytes at.0.0) (type_of old at.0.1) (fields_over old fs)) (sym at.1) (inl (refl, refl))) in
    let same_left : type_of before m.left ≡ type_of old at.0.1 = kept_type old before m.left.index first (match_below (length old) ms i m stand lt is).0 ∙ ap (type_of old) at.2.left in
    let same_right = kept_type old before r.index first (right_below (length old) ms i m r stand lt is is_r) in
    records_no_meet d (fields_over old left) (fields_over old right) (string_bytes at.0.0) (type_of old at.0.1) (type_of old r) has_left has
    (subst (λ s. HaveNoMeet s (type_of old r) d) same_left (subst (λ t. HaveNoMeet (type_of before m.left) t d) same_right none))

-- the other fields of the second

pub others_known : (ts : List Typ) (made right left : List (String Global × TyNo)) (i : ℕ) (f : String Global × TyNo) (t : Typ) → i < length right → f ≡ get_or right i f
    → Has (string_bytes f.0) t (fields_over ts left)
    → joined (fields_over ts made) (other_fields (fields_over ts (drop i right)) (fields_over ts left)) ≡ other_fields (fields_over ts right) (fields_over ts left)
    → joined (fields_over ts made) (other_fields (fields_over ts (drop (i + 1) right)) (fields_over ts left)) ≡ other_fields (fields_over ts right) (fields_over ts left)
others_known ts made right left i f t lt is has so_far =
    ap (λ fs. joined (fields_over ts made) fs) (sym (others_without (string_bytes f.0) (type_of ts f.1) t (fields_over ts (drop (i + 1) right)) (fields_over ts left) has))
    ∙ ap (λ fs. joined (fields_over ts made) (other_fields fs (fields_over ts left))) (sym (fields_over-drop ts right i f lt is))
    ∙ so_far

pub others_new : (ts : List Typ) (made more right left : List (String Global × TyNo)) (i : ℕ) (f : String Global × TyNo) (label : String Global) → i < length right → f ≡ get_or right i f
    → IsAbsent (string_bytes f.0) (fields_over ts left) → more ≡ made ++ (label, f.1) ∷ [] → string_bytes label ≡ string_bytes f.0
    → joined (fields_over ts made) (other_fields (fields_over ts (drop i right)) (fields_over ts left)) ≡ other_fields (fields_over ts right) (fields_over ts left)
    → joined (fields_over ts more) (other_fields (fields_over ts (drop (i + 1) right)) (fields_over ts left)) ≡ other_fields (fields_over ts right) (fields_over ts left)
others_new ts made more right left i f label lt is absent pushed same so_far =
    ap (λ xs. joined (fields_over ts xs) (other_fields (fields_over ts (drop (i + 1) right)) (fields_over ts left))) pushed
    ∙ fields_over-push ts made (label, f.1) (other_fields (fields_over ts (drop (i + 1) right)) (fields_over ts left))
    ∙ ap (λ l. joined (fields_over ts made) (field l (type_of ts f.1) (other_fields (fields_over ts (drop (i + 1) right)) (fields_over ts left)))) same
    ∙ ap (λ fs. joined (fields_over ts made) fs) (sym (others_with (string_bytes f.0) (type_of ts f.1) (fields_over ts (drop (i + 1) right)) (fields_over ts left) absent))
    ∙ ap (λ fs. joined (fields_over ts made) (other_fields fs (fields_over ts left))) (sym (fields_over-drop ts right i f lt is))
    ∙ so_far

pub others_all : (ts : List Typ) (made right left : List (String Global × TyNo)) (i : ℕ) → length right ≤ i
    → joined (fields_over ts made) (other_fields (fields_over ts (drop i right)) (fields_over ts left)) ≡ other_fields (fields_over ts right) (fields_over ts left)
    → fields_over ts made ≡ other_fields (fields_over ts right) (fields_over ts left)
others_all ts made right left i le so_far =
    sym (joined-none (fields_over ts made))
    ∙ ap (λ gs. joined (fields_over ts made) (other_fields (fields_over ts gs) (fields_over ts left))) (sym (drop_all i right le))
    ∙ so_far
