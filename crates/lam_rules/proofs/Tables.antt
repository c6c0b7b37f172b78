-- Numbers keep their types while a table grows.
use Rattle.std.proofs.Common.{◌≡◌, ℕ, ◌<◌, ◌≤◌, List, [], ◌∷◌, ◌++◌, length, ap, sym, ◌∙◌, refl, append_assoc, arith, length-append, String}
use Rattle.std.specs.declared.alloc.Global.{Global}
use Rattle.std.proofs.lemmas.List.{append-nil, get_or_append_left}
use Rattle.lam_rules.specs.Types.{Typ, top, record_of}
use Rattle.lam_rules.specs.Numbers.{type_at, IsNumberOf, Keeps, fields_over, shaped, AreEarlier, IsOver}
use Rattle.lam_rules.specs.declared.numbers.TyNo.{TyNo}
use Rattle.lam_rules.specs.declared.numbers.Shape.{Shape}

-- a table that grows

pub keeps_same : (ts : List Typ) → Keeps ts ts
keeps_same ts = record { more = []; is = sym (append-nil ts) }

pub keeps_push : (ts : List Typ) (t : Typ) → Keeps ts (ts ++ t ∷ [])
keeps_push ts t = record { more = t ∷ []; is = refl }

pub keeps_trans : (a b c : List Typ) → Keeps a b → Keeps b c → Keeps a c
keeps_trans a b c p q = record { more = p.more ++ q.more; is = q.is ∙ ap (λ x. x ++ q.more) p.is ∙ append_assoc a p.more q.more }

pub keeps_length : (old now : List Typ) → Keeps old now → length old ≤ length now
keeps_length old now k = let e = ap length k.is ∙ length-append old k.more in omega arith

-- a number keeps its type

pub kept_type : (old now : List Typ) (n : ℕ) → Keeps old now → n < length old → type_at now n ≡ type_at old n
kept_type old now n k lt = rw k.is (get_or_append_left old k.more top n lt)

pub kept_number : (old now : List Typ) (number : TyNo) (t : Typ) → Keeps old now → IsNumberOf old number t → IsNumberOf now number t
kept_number old now number t k h =
    let longer = keeps_length old now k in
    let here = h.stands in
    record { stands = omega arith; type = kept_type old now number.index k here ∙ h.type }

pub kept_fields : (old now : List Typ) (fs : List (String Global × TyNo)) → Keeps old now → AreEarlier (length old) fs → fields_over now fs ≡ fields_over old fs
kept_fields old now [] k below = refl
kept_fields old now (f ∷ fs) k below = rw (kept_type old now f.1.index k below.0, kept_fields old now fs k below.1)

pub kept_shaped : (old now : List Typ) (s : Shape) → Keeps old now → IsOver (length old) s → shaped now s ≡ shaped old s
kept_shaped old now Shape.Bool k over = refl
kept_shaped old now Shape.Nat k over = refl
kept_shaped old now Shape.Unit k over = refl
kept_shaped old now Shape.Top k over = refl
kept_shaped old now (Shape.Arrow p q) k over = rw (kept_type old now p.index k over.0, kept_type old now q.index k over.1)
kept_shaped old now (Shape.Record fs) k over = ap record_of (kept_fields old now fs.items k over)

-- numbers below one bound are below a greater one

pub below_more : (m n : ℕ) (fs : List (String Global × TyNo)) → AreEarlier m fs → m ≤ n → AreEarlier n fs
below_more m n [] below le = tt
below_more m n (f ∷ fs) below le = let here = below.0 in (omega arith, below_more m n fs below.1 le)

pub over_more : (m n : ℕ) (s : Shape) → IsOver m s → m ≤ n → IsOver n s
over_more m n Shape.Bool over le = tt
over_more m n Shape.Nat over le = tt
over_more m n Shape.Unit over le = tt
over_more m n Shape.Top over le = tt
over_more m n (Shape.Arrow p q) over le = let a = over.0 in let b = over.1 in (omega arith, omega arith)
over_more m n (Shape.Record fs) over le = below_more m n fs.items over le

pub ruleset numbers = (keeps_same, keeps_trans, keeps_length, kept_type, kept_number, kept_fields, kept_shaped, below_more, over_more)
