-- The entries of a table: their types, when two shapes are one type, and that a table with a new entry at its end is still a table.
use Rattle.std.proofs.Common.{◌≡◌, ◌↔◌, ◌⊎◌, inl, inr, zero, suc, drop, ℕ, ◌+◌, ◌<◌, ◌≤◌, List, [], ◌∷◌, ◌++◌, length, get_or, ap, sym, Bool, eq-eqb, ◌∙◌, refl, subst, arith, length-append, String, string_bytes}
use Rattle.std.specs.Prelude.{min, IsTrue, eqb}
use borrow.Author.Tests.{eqb-true}
use Rattle.std.specs.declared.alloc.Global.{Global}
use Rattle.std.proofs.lemmas.List.{get_or_append_left, get_or_push, get_or_default, drop_more}
use Rattle.std.proofs.lemmas.Bool.{cases_lt}
use Rattle.lam_rules.specs.Types.{Typ, top, record_of, field, nodes, IsAbsent, IsWellFormed, AreWellFormed}
use Rattle.lam_rules.specs.Texts.{sorted}
use Rattle.lam_rules.specs.Numbers.{type_at, type_of, IsNumberOf, Keeps, fields_over, shaped, AreEarlier, IsOver, IsNotAmong, HaveDistinctLabels, HasDistinctLabels}
use Rattle.lam_rules.specs.Entries.{types_from, types_of, IsEntryOf, IsTable, AreSame, IsSame, IsAt, IsNowhere}
use Rattle.lam_rules.specs.declared.numbers.TyNo.{TyNo}
use Rattle.lam_rules.specs.declared.numbers.Shape.{Shape}
use Rattle.lam_rules.specs.declared.table.Entry.{Entry}
use Rattle.lam_rules.specs.Subtyping.{IsBelow}
use Rattle.lam_rules.specs.declared.rules.Dialect.{Dialect}
use Rattle.lam_rules.proofs.SortedBelow.{alike_below}
use Rattle.lam_rules.proofs.Tables.{keeps_push, kept_type, kept_shaped, over_more}

-- the types of entries

types_from-append : (ts : List Typ) (es fs : List Entry) → types_from ts (es ++ fs) ≡ types_from (types_from ts es) fs
types_from-append ts [] fs = refl
types_from-append ts (e ∷ es) fs = types_from-append (ts ++ shaped ts e.shape ∷ []) es fs

pub types_of-none : types_of [] ≡ []
unfolding types_of
types_of-none = refl

pub types_of-push : (es : List Entry) (e : Entry) → types_of (es ++ e ∷ []) ≡ types_of es ++ shaped (types_of es) e.shape ∷ []
unfolding types_of
types_of-push es e = types_from-append [] es (e ∷ [])

length-types_from : (ts : List Typ) (es : List Entry) → length (types_from ts es) ≡ length ts + length es
length-types_from ts [] = omega arith
length-types_from ts (e ∷ es) =
    let rest = length-types_from (ts ++ shaped ts e.shape ∷ []) es in
    let longer = length-append ts (shaped ts e.shape ∷ []) in
    omega arith

pub length-types_of : (es : List Entry) → length (types_of es) ≡ length es
unfolding types_of
length-types_of es = let e = length-types_from [] es in omega arith

-- shapes over numbers of distinct types are one type only if they are the same

pub fields_same : (ts : List Typ) (fs gs : List (String Global × TyNo)) → AreSame fs gs → fields_over ts fs ≡ fields_over ts gs
fields_same ts [] [] same = refl
fields_same ts (f ∷ fs) (g ∷ gs) same = rw (same.0.0, same.0.1, fields_same ts fs gs same.1)
fields_same ts [] (g ∷ gs) same = absurd same
fields_same ts (f ∷ fs) [] same = absurd same

pub shaped_same : (ts : List Typ) (a b : Shape) → IsSame a b → shaped ts a ≡ shaped ts b
shaped_same ts Shape.Bool Shape.Bool same = refl
shaped_same ts Shape.Nat Shape.Nat same = refl
shaped_same ts Shape.Unit Shape.Unit same = refl
shaped_same ts Shape.Top Shape.Top same = refl
shaped_same ts (Shape.Arrow p q) (Shape.Arrow u v) same = rw (same.0, same.1)
shaped_same ts (Shape.Record fs) (Shape.Record gs) same = ap record_of (fields_same ts fs.items gs.items same)
shaped_same ts _ _ same = absurd same

-- no two numbers below the bound have one type
abbrev AreDistinct : List Typ → ℕ → Type 0
AreDistinct ts n = (i j : ℕ) → i < n → j < n → type_at ts i ≡ type_at ts j → i ≡ j

same_fields_over : (ts : List Typ) (n : ℕ) → AreDistinct ts n → (fs gs : List (String Global × TyNo)) → AreEarlier n fs → AreEarlier n gs
    → fields_over ts fs ≡ fields_over ts gs → AreSame fs gs
same_fields_over ts n distinct [] [] bf bg e = tt
same_fields_over ts n distinct (f ∷ fs) (g ∷ gs) bf bg e =
    let labels : string_bytes f.0 ≡ string_bytes g.0 = cc in
    let types : type_of ts f.1 ≡ type_of ts g.1 = cc in
    let rest : fields_over ts fs ≡ fields_over ts gs = cc in
    ((labels, distinct f.1.index g.1.index bf.0 bg.0 types), same_fields_over ts n distinct fs gs bf.1 bg.1 rest)
same_fields_over ts n distinct [] (g ∷ gs) bf bg e = cc
same_fields_over ts n distinct (f ∷ fs) [] bf bg e = cc

pub same_shaped : (ts : List Typ) (n : ℕ) → AreDistinct ts n → (a b : Shape) → IsOver n a → IsOver n b → shaped ts a ≡ shaped ts b → IsSame a b
same_shaped ts n distinct Shape.Bool Shape.Bool oa ob e = tt
same_shaped ts n distinct Shape.Nat Shape.Nat oa ob e = tt
same_shaped ts n distinct Shape.Unit Shape.Unit oa ob e = tt
same_shaped ts n distinct Shape.Top Shape.Top oa ob e = tt
same_shaped ts n distinct (Shape.Arrow p q) (Shape.Arrow u v) oa ob e =
    let first : type_of ts p ≡ type_of ts u = cc in
    let second : type_of ts q ≡ type_of ts v = cc in
    (distinct p.index u.index oa.0 ob.0 first, distinct q.index v.index oa.1 ob.1 second)
same_shaped ts n distinct (Shape.Record fs) (Shape.Record gs) oa ob e =
    let fields : fields_over ts fs.items ≡ fields_over ts gs.items = cc in
    same_fields_over ts n distinct fs.items gs.items oa ob fields
same_shaped ts n distinct _ _ oa ob e = cc

-- a shape that is found, and one that is not

pub found_number : (es : List Entry) (number : TyNo) (s : Shape) → IsTable es → IsAt es number.index s → IsNumberOf (types_of es) number (shaped (types_of es) s)
found_number [] number s table at = let within = at.within in let no_way : ⊥ = omega arith in absurd no_way
found_number (first ∷ rest) number s table at =
    let es = first ∷ rest in
    let e = get_or es number.index first in
    let within = at.within in
    let is : e ≡ get_or es number.index e = get_or_default es number.index first e within in
    let long = length-types_of es in
    record {
      stands = omega arith;
      type = (table.each number.index e within is).type ∙ shaped_same (types_of es) e.shape s (at.same e is);
    }

pub nowhere_fresh : (es : List Entry) (s : Shape) → IsTable es → IsOver (length es) s → IsNowhere es s
    → (i : ℕ) → i < length es → type_at (types_of es) i ≡ shaped (types_of es) s → ⊥
nowhere_fresh [] s table over nowhere i lt e = omega arith
nowhere_fresh (first ∷ rest) s table over nowhere i lt e =
    let es = first ∷ rest in
    let x = get_or es i first in
    let is : x ≡ get_or es i x = get_or_default es i first x lt in
    let here = table.each i x lt is in
    nowhere i x lt is
    (same_shaped (types_of es) (length es) table.distinct x.shape s (over_more i (length es) x.shape here.earlier (omega arith)) over (sym here.type ∙ e))

-- one more entry

-- an entry that may be put at the end
pub record IsNext (es : List Entry) (e : Entry) : Type 0 where
  pub over : IsOver (length es) e.shape
  pub wf : IsWellFormed (shaped (types_of es) e.shape)
  pub size : e.size ≡ min (nodes (shaped (types_of es) e.shape)) 4097
  pub sorted_stands : e.sorted.index ≤ length es
  pub sorted_type : type_of (types_of es ++ shaped (types_of es) e.shape ∷ []) e.sorted ≡ sorted (shaped (types_of es) e.shape)
  pub fresh : (i : ℕ) → i < length es → type_at (types_of es) i ≡ shaped (types_of es) e.shape → ⊥

entry_kept : (old now : List Typ) (i : ℕ) (e : Entry) → Keeps old now → i < length old → IsEntryOf old i e → IsEntryOf now i e
entry_kept old now i e keeps lt h =
    let here = kept_type old now i keeps lt in
    let over : IsOver (length old) e.shape = over_more i (length old) e.shape h.earlier (omega arith) in
    let le = h.sorted_stands in
    let sorted_lt : e.sorted.index < length old = omega arith in
    record {
      earlier = h.earlier;
      type = here ∙ h.type ∙ sym (kept_shaped old now e.shape keeps over);
      wf = subst IsWellFormed (sym here) h.wf;
      size = h.size ∙ ap (λ t. min (nodes t) 4097) (sym here);
      sorted_stands = h.sorted_stands;
      sorted_type = kept_type old now e.sorted.index keeps sorted_lt ∙ h.sorted_type ∙ ap sorted (sym here);
    }

pub table_push : (es : List Entry) (e : Entry) → IsTable es → IsNext es e → IsTable (es ++ e ∷ [])
table_push es e table next = record { each = each; distinct = distinct }
  where
    long : length (types_of es) ≡ length es
    long = length-types_of es

    last : type_at (types_of es ++ shaped (types_of es) e.shape ∷ []) (length es) ≡ shaped (types_of es) e.shape
    last = get_or_push (types_of es) (shaped (types_of es) e.shape) top (length es) long

    early : (i : ℕ) → i < length es → type_at (types_of es ++ shaped (types_of es) e.shape ∷ []) i ≡ type_at (types_of es) i
    early i lt = kept_type (types_of es) (types_of es ++ shaped (types_of es) e.shape ∷ []) i (keeps_push (types_of es) (shaped (types_of es) e.shape)) (omega (arith, long))

    at_end : IsEntryOf (types_of es ++ shaped (types_of es) e.shape ∷ []) (length es) e
    at_end =
        let kept = kept_shaped (types_of es) (types_of es ++ shaped (types_of es) e.shape ∷ []) e.shape (keeps_push (types_of es) (shaped (types_of es) e.shape)) (rw long next.over) in
        record {
          earlier = next.over;
          type = last ∙ sym kept;
          wf = subst IsWellFormed (sym last) next.wf;
          size = next.size ∙ ap (λ t. min (nodes t) 4097) (sym last);
          sorted_stands = next.sorted_stands;
          sorted_type = next.sorted_type ∙ ap sorted (sym last);
        }

    each_at : (i : ℕ) (x : Entry) → x ≡ get_or (es ++ e ∷ []) i x → (i < length es) ⊎ (length es ≤ i) → i ≤ length es
        → IsEntryOf (types_of es ++ shaped (types_of es) e.shape ∷ []) i x
    each_at i x is (inl lt) le =
        entry_kept (types_of es) (types_of es ++ shaped (types_of es) e.shape ∷ []) i x (keeps_push (types_of es) (shaped (types_of es) e.shape)) (omega (arith, long))
        (table.each i x lt (is ∙ get_or_append_left es (e ∷ []) x i lt))
    each_at i x is (inr ge) le =
        let here : i ≡ length es = omega arith in
        let same : x ≡ e = is ∙ get_or_push es e x i (sym here) in
        rw (same, here) at_end

    each : (i : ℕ) (x : Entry) → i < length (es ++ e ∷ []) → x ≡ get_or (es ++ e ∷ []) i x → IsEntryOf (types_of (es ++ e ∷ [])) i x
    each i x lt is =
        let longer = length-append es (e ∷ []) in
        rw (types_of-push es e) (each_at i x is (cases_lt i (length es)) (omega arith))

    apart : (i j : ℕ) → (i < length es) ⊎ (length es ≤ i) → (j < length es) ⊎ (length es ≤ j) → i ≤ length es → j ≤ length es
        → type_at (types_of es ++ shaped (types_of es) e.shape ∷ []) i ≡ type_at (types_of es ++ shaped (types_of es) e.shape ∷ []) j → i ≡ j
    apart i j (inl p) (inl q) li lj same = table.distinct i j p q (sym (early i p) ∙ same ∙ early j q)
    apart i j (inl p) (inr q) li lj same =
        let here : j ≡ length es = omega arith in
        absurd (next.fresh i p (sym (early i p) ∙ same ∙ ap (type_at (types_of es ++ shaped (types_of es) e.shape ∷ [])) here ∙ last))
    apart i j (inr p) (inl q) li lj same =
        let here : i ≡ length es = omega arith in
        absurd (next.fresh j q (sym (early j q) ∙ sym same ∙ ap (type_at (types_of es ++ shaped (types_of es) e.shape ∷ [])) here ∙ last))
    apart i j (inr p) (inr q) li lj same = omega arith

    distinct : (i j : ℕ) → i < length (es ++ e ∷ []) → j < length (es ++ e ∷ []) → type_at (types_of (es ++ e ∷ [])) i ≡ type_at (types_of (es ++ e ∷ [])) j → i ≡ j
    distinct i j p q same =
        let longer = length-append es (e ∷ []) in
        apart i j (cases_lt i (length es)) (cases_lt j (length es)) (omega arith) (omega arith) (rw (types_of-push es e) at same)

-- a list from its front

pub drop_more_read : {X : Type 0} (xs : List X) (i : ℕ) (x : X) → i < length xs → x ≡ get_or xs i x → drop i xs ≡ x ∷ drop (i + 1) xs
drop_more_read xs i x lt is = drop_more xs i x lt ∙ ap (λ y. y ∷ drop (i + 1) xs) (sym is)

-- a table by the value that contracts see

pub entry_at : (es : List Entry) (ts : List Typ) (i : ℕ) (e : Entry) → types_of es ≡ ts → IsTable es → i < length ts → e ≡ get_or es i e → IsEntryOf ts i e
entry_at es ts i e view table lt is =
    let long = length-types_of es in
    let same = ap length view in
    subst (λ x. IsEntryOf x i e) view (table.each i e (omega arith) is)

pub found_at : (es xs : List Entry) (ts : List Typ) (number : TyNo) (s : Shape) → types_of es ≡ ts → xs ≡ es → IsTable es → IsAt xs number.index s → IsNumberOf ts number (shaped ts s)
found_at es xs ts number s view same table at =
    subst (λ x. IsNumberOf x number (shaped x s)) view (found_number es number s table (subst (λ x. IsAt x number.index s) same at))

pub nowhere_at : (es xs : List Entry) (ts : List Typ) (s : Shape) → types_of es ≡ ts → xs ≡ es → IsTable es → IsOver (length ts) s → IsNowhere xs s
    → (i : ℕ) → i < length ts → type_at ts i ≡ shaped ts s → ⊥
nowhere_at es xs ts s view same table over nowhere =
    let long : length ts ≡ length es = sym (ap length view) ∙ length-types_of es in
    let over_entries : IsOver (length es) s = rw long at over in
    let fresh = nowhere_fresh es s table over_entries (subst (λ x. IsNowhere x s) same nowhere) in
    λ i lt e. fresh i (rw long at lt) (subst (λ x. type_at x i ≡ shaped x s) (sym view) e)

pub wf_at : (es : List Entry) (ts : List Typ) (i : ℕ) → types_of es ≡ ts → IsTable es → i < length ts → IsWellFormed (type_at ts i)
wf_at [] ts i view table lt = let long = length-types_of [] in let same = ap length view in let no_way : ⊥ = omega arith in absurd no_way
wf_at (first ∷ rest) ts i view table lt =
    let long = length-types_of (first ∷ rest) in
    let same = ap length view in
    (entry_at (first ∷ rest) ts i (get_or (first ∷ rest) i first) view table lt (get_or_default (first ∷ rest) i first (get_or (first ∷ rest) i first) (omega arith))).wf

pub distinct_at : (es : List Entry) (ts : List Typ) (i j : ℕ) → types_of es ≡ ts → IsTable es → i < length ts → j < length ts → type_at ts i ≡ type_at ts j → i ≡ j
distinct_at es ts i j view table li lj e =
    let long : length ts ≡ length es = sym (ap length view) ∙ length-types_of es in
    table.distinct i j (rw long at li) (rw long at lj) (subst (λ x. type_at x i ≡ type_at x j) (sym view) e)

fields_wf : (ts : List Typ) → ((i : ℕ) → i < length ts → IsWellFormed (type_at ts i)) → (fs : List (String Global × TyNo)) → AreEarlier (length ts) fs → HaveDistinctLabels fs → AreWellFormed (fields_over ts fs)
fields_wf ts each [] below distinct = tt
fields_wf ts each (f ∷ fs) below distinct = (each f.1.index below.0, absent fs distinct.0, fields_wf ts each fs below.1 distinct.1)
  where
    absent : (gs : List (String Global × TyNo)) → IsNotAmong (string_bytes f.0) gs → IsAbsent (string_bytes f.0) (fields_over ts gs)
    absent [] h = tt
    absent (g ∷ gs) h = (h.0, absent gs h.1)

shaped_wf : (ts : List Typ) → ((i : ℕ) → i < length ts → IsWellFormed (type_at ts i)) → (s : Shape) → IsOver (length ts) s → HasDistinctLabels s → IsWellFormed (shaped ts s)
shaped_wf ts each Shape.Bool over distinct = tt
shaped_wf ts each Shape.Nat over distinct = tt
shaped_wf ts each Shape.Unit over distinct = tt
shaped_wf ts each Shape.Top over distinct = tt
shaped_wf ts each (Shape.Arrow p q) over distinct = (each p.index over.0, each q.index over.1)
shaped_wf ts each (Shape.Record fs) over distinct = fields_wf ts each fs.items over distinct

pub shape_wf : (es : List Entry) (ts : List Typ) (s : Shape) → types_of es ≡ ts → IsTable es → IsOver (length ts) s → HasDistinctLabels s → IsWellFormed (shaped ts s)
shape_wf es ts s view table over distinct = shaped_wf ts (λ i lt. wf_at es ts i view table lt) s over distinct

-- numbers of one sorted form stand for types below each other
pub same_below : (es : List Entry) (ts : List Typ) (l r sl sr : TyNo) → types_of es ≡ ts → IsTable es → l.index < length ts → r.index < length ts
    → sl.index ≤ l.index → type_of ts sl ≡ sorted (type_of ts l) → sr.index ≤ r.index → type_of ts sr ≡ sorted (type_of ts r)
    → (b : Bool) → b ≡ eqb sl.index sr.index → (d : Dialect)
    → IsTrue b ↔ (IsBelow (type_of ts l) (type_of ts r) d × IsBelow (type_of ts r) (type_of ts l) d)
same_below es ts l r sl sr view table ll lr lsl el lsr er b is d =
    let alike = alike_below (type_of ts l) (type_of ts r) (wf_at es ts l.index view table ll) (wf_at es ts r.index view table lr) d in (
      λ yes. alike.0 (sym el ∙ ap (type_at ts) (eqb-true sl.index sr.index (sym is ∙ yes)) ∙ er),
      λ both. is ∙ eq-eqb sl.index sr.index (distinct_at es ts sl.index sr.index view table (omega arith) (omega arith) (el ∙ alike.1 both ∙ sym er)),
    )

-- what a push leaves

pub next_entry : (es : List Entry) (ts : List Typ) (e : Entry) → types_of es ≡ ts → IsTable es
    → IsOver (length ts) e.shape → IsWellFormed (shaped ts e.shape) → e.size ≡ min (nodes (shaped ts e.shape)) 4097
    → e.sorted.index ≤ length ts → type_of (ts ++ shaped ts e.shape ∷ []) e.sorted ≡ sorted (shaped ts e.shape)
    → ((i : ℕ) → i < length ts → type_at ts i ≡ shaped ts e.shape → ⊥) → IsTable (es ++ e ∷ [])
next_entry es ts e view table over wf size stands sorted_type fresh =
    let long : length ts ≡ length es = sym (ap length view) ∙ length-types_of es in
    table_push es e table record {
      over = rw long at over;
      wf = subst (λ x. IsWellFormed (shaped x e.shape)) (sym view) wf;
      size = size ∙ ap (λ x. min (nodes (shaped x e.shape)) 4097) (sym view);
      sorted_stands = rw long at stands;
      sorted_type = subst (λ x. type_of (x ++ shaped x e.shape ∷ []) e.sorted ≡ sorted (shaped x e.shape)) (sym view) sorted_type;
      fresh = λ i lt same. fresh i (rw (sym long) at lt) (subst (λ x. type_at x i ≡ shaped x e.shape) view same);
    }

pub pushed_keeps : (es more : List Entry) (ts : List Typ) (e : Entry) → types_of es ≡ ts → more ≡ es ++ e ∷ [] → Keeps ts (types_of more)
pushed_keeps es more ts e view pushed =
    record { more = shaped ts e.shape ∷ []; is = ap types_of pushed ∙ types_of-push es e ∙ ap (λ x. x ++ shaped x e.shape ∷ []) view }

pub pushed_number : (es more : List Entry) (ts : List Typ) (e : Entry) (number : TyNo) → types_of es ≡ ts → more ≡ es ++ e ∷ [] → number.index ≡ length es
    → IsNumberOf (types_of more) number (shaped ts e.shape)
pushed_number es more ts e number view pushed at =
    let is : types_of more ≡ ts ++ shaped ts e.shape ∷ [] = ap types_of pushed ∙ types_of-push es e ∙ ap (λ x. x ++ shaped x e.shape ∷ []) view in
    let long : length ts ≡ length es = sym (ap length view) ∙ length-types_of es in
    let longer = ap length is ∙ length-append ts (shaped ts e.shape ∷ []) in
    record { stands = omega arith; type = ap (λ x. type_at x number.index) is ∙ get_or_push ts (shaped ts e.shape) top number.index (long ∙ sym at) }

pub ruleset entry_lists = (types_of-none, types_of-push, length-types_of)

-- fields over a table from their front

pub fields_over-drop : (ts : List Typ) (fs : List (String Global × TyNo)) (i : ℕ) (f : String Global × TyNo)
    → i < length fs → f ≡ get_or fs i f → fields_over ts (drop i fs) ≡ field (string_bytes f.0) (type_of ts f.1) (fields_over ts (drop (i + 1) fs))
fields_over-drop ts fs i f lt is = ap (fields_over ts) (drop_more_read fs i f lt is)

pub below_read : (n : ℕ) (fs : List (String Global × TyNo)) (i : ℕ) (f : String Global × TyNo) → AreEarlier n fs → i < length fs → f ≡ get_or fs i f → f.1.index < n
below_read n [] i f below lt is = omega arith
below_read n (g ∷ fs) zero f below lt is = rw is below.0
below_read n (g ∷ fs) (suc i) f below lt is = below_read n fs i f below.1 (omega arith) is
