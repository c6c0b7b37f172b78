-- Shapes as keys: `==` tells whether they are the same, and an index stays one when an entry is added.
use Rattle.std.proofs.Common.{◌≡◌, ◌⊎◌, inl, inr, ℕ, ◌+◌, ◌<◌, ◌≤◌, List, [], ◌∷◌, ◌++◌, Bool, true, false, cond, length, take, get_or, ap, Vec, sym, ◌∙◌, refl, subst, arith, length-append, String, string_bytes, Option, Some, None}
use Rattle.std.specs.Prelude.{MatchOption, eqb}
use Rattle.std.specs.Option.{option_copied}
use Rattle.std.specs.declared.alloc.Global.{Global}
use Rattle.std.specs.HashMap.{HashMap, get, Updates}
use Rattle.std.specs.declared.hash.FoldHasher.{FoldHasher}
use Rattle.std.specs.declared.hash.BuildHasherDefault.{BuildHasherDefault}
use Rattle.std.proofs.lemmas.List.{get_or_append_left, get_or_push, take_more}
use Rattle.std.specs.Str.{bytes_eq}
use Rattle.std.specs.Cmp.Lexicographic.{pointwise}
use Rattle.std.proofs.lemmas.Bool.{cases_lt, and_parts, and_from}
use Rattle.std.proofs.lemmas.Slice.Eq.{bytes_eq-Decides}
use borrow.Author.Tests.{eqb-true, eq-eqb}
use denote.Ref.{Bor}
use Rattle.lam_rules.specs.Entries.{IsSameField, AreSame, IsSame, IsAt, IsNowhere}
use Rattle.lam_rules.specs.ShapeIndex.{equal_shapes, IsIndexOf}
use Rattle.lam_rules.specs.declared.numbers.TyNo.{TyNo}
use Rattle.lam_rules.specs.declared.numbers.Shape.{Shape}
use Rattle.lam_rules.specs.declared.table.Entry.{Entry}

-- two that are the same as a third are the same

numbers_same_both : (fs gs hs : List (String Global × TyNo)) → AreSame fs gs → AreSame fs hs → AreSame gs hs
numbers_same_both [] [] [] p q = tt
numbers_same_both (f ∷ fs) (g ∷ gs) (h ∷ hs) p q = ((sym p.0.0 ∙ q.0.0, sym p.0.1 ∙ q.0.1), numbers_same_both fs gs hs p.1 q.1)
numbers_same_both [] (g ∷ gs) hs p q = absurd p
numbers_same_both (f ∷ fs) [] hs p q = absurd p
numbers_same_both [] gs (h ∷ hs) p q = absurd q
numbers_same_both (f ∷ fs) gs [] p q = absurd q

arrow_same_both : (a b u v : TyNo) (c : Shape) → IsSame (Shape.Arrow a b) (Shape.Arrow u v) → IsSame (Shape.Arrow a b) c → IsSame (Shape.Arrow u v) c
arrow_same_both a b u v (Shape.Arrow x y) p q = (sym p.0 ∙ q.0, sym p.1 ∙ q.1)
arrow_same_both a b u v _ p q = absurd q

record_same_both : (fs gs : Vec (String Global × TyNo) Global) (c : Shape) → IsSame (Shape.Record fs) (Shape.Record gs) → IsSame (Shape.Record fs) c → IsSame (Shape.Record gs) c
record_same_both fs gs (Shape.Record hs) p q = numbers_same_both fs.items gs.items hs.items p q
record_same_both fs gs _ p q = absurd q

same_both : (a b c : Shape) → IsSame a b → IsSame a c → IsSame b c
same_both Shape.Bool Shape.Bool c p q = q
same_both Shape.Nat Shape.Nat c p q = q
same_both Shape.Unit Shape.Unit c p q = q
same_both Shape.Top Shape.Top c p q = q
same_both (Shape.Arrow a b) (Shape.Arrow u v) c p q = arrow_same_both a b u v c p q
same_both (Shape.Record fs) (Shape.Record gs) c p q = record_same_both fs gs c p q
same_both _ _ c p q = absurd p

numbers_same_itself : (fs : List (String Global × TyNo)) → AreSame fs fs
numbers_same_itself [] = tt
numbers_same_itself (f ∷ fs) = ((refl, refl), numbers_same_itself fs)

same_itself : (a : Shape) → IsSame a a
same_itself Shape.Bool = tt
same_itself Shape.Nat = tt
same_itself Shape.Unit = tt
same_itself Shape.Top = tt
same_itself (Shape.Arrow a b) = (refl, refl)
same_itself (Shape.Record fs) = numbers_same_itself fs.items

same_turned : (a b : Shape) → IsSame a b → IsSame b a
same_turned a b p = same_both a b a p (same_itself a)

same_trans : (a b c : Shape) → IsSame a b → IsSame b c → IsSame a c
same_trans a b c p q = same_both b a c (same_turned a b p) q

-- what `==` answers

equal_items : (E : String Global × TyNo → String Global × TyNo → Bool) → ((f g : String Global × TyNo) → E f g ≡ true → IsSameField f g)
    → (fs gs : List (String Global × TyNo)) → pointwise E fs gs ≡ true → AreSame fs gs
equal_items E each [] [] e = tt
equal_items E each (f ∷ fs) (g ∷ gs) e = let both = and_parts (E f g) (pointwise E fs gs) e in (each f g both.0, equal_items E each fs gs both.1)
equal_items E each [] (g ∷ gs) e = cc
equal_items E each (f ∷ fs) [] e = cc

items_equal : (E : String Global × TyNo → String Global × TyNo → Bool) → ((f g : String Global × TyNo) → IsSameField f g → E f g ≡ true)
    → (fs gs : List (String Global × TyNo)) → AreSame fs gs → pointwise E fs gs ≡ true
items_equal E each [] [] h = refl
items_equal E each (f ∷ fs) (g ∷ gs) h = and_from (E f g) (pointwise E fs gs) (each f g h.0) (items_equal E each fs gs h.1)
items_equal E each [] (g ∷ gs) h = absurd h
items_equal E each (f ∷ fs) [] h = absurd h

equal_same : (a b : Shape) → equal_shapes a b ≡ true → IsSame a b
equal_same Shape.Bool Shape.Bool e = tt
equal_same Shape.Nat Shape.Nat e = tt
equal_same Shape.Unit Shape.Unit e = tt
equal_same Shape.Top Shape.Top e = tt
equal_same (Shape.Arrow p q) (Shape.Arrow u v) e =
    let both = and_parts (eqb p.index u.index) (eqb q.index v.index) e in
    (eqb-true p.index u.index both.0, eqb-true q.index v.index both.1)
equal_same (Shape.Record fs) (Shape.Record gs) e =
    equal_items _
    (λ f g h. let both = and_parts (bytes_eq (string_bytes f.0) (string_bytes g.0)) (eqb f.1.index g.1.index) h in
    ((bytes_eq-Decides (string_bytes f.0) (string_bytes g.0)).0 both.0, eqb-true f.1.index g.1.index both.1))
    fs.items gs.items e
equal_same _ _ e = cc

same_equal : (a b : Shape) → IsSame a b → equal_shapes a b ≡ true
same_equal Shape.Bool Shape.Bool h = refl
same_equal Shape.Nat Shape.Nat h = refl
same_equal Shape.Unit Shape.Unit h = refl
same_equal Shape.Top Shape.Top h = refl
same_equal (Shape.Arrow p q) (Shape.Arrow u v) h =
    and_from (eqb p.index u.index) (eqb q.index v.index) (eq-eqb p.index u.index h.0) (eq-eqb q.index v.index h.1)
same_equal (Shape.Record fs) (Shape.Record gs) h =
    items_equal _
    (λ f g same. and_from (bytes_eq (string_bytes f.0) (string_bytes g.0)) (eqb f.1.index g.1.index)
    ((bytes_eq-Decides (string_bytes f.0) (string_bytes g.0)).1 same.0) (eq-eqb f.1.index g.1.index same.1))
    fs.items gs.items h
same_equal _ _ h = absurd h

-- the index of a table when an entry is added

abbrev Index : Type 0
Index = HashMap Shape TyNo (BuildHasherDefault FoldHasher)

pub index_push : (m n : Index) (es more : List Entry) (e : Entry) (key : Shape) (number : TyNo) → IsIndexOf m es → Updates equal_shapes m n key (Some number)
    → IsSame key e.shape → number.index ≡ length es → more ≡ es ++ e ∷ [] → IsIndexOf n more
index_push m n es more e key number index updates same at pushed s =
    subst (λ x. MatchOption (get equal_shapes n s) (IsNowhere x s) (λ k. IsAt x k.index s)) (sym pushed)
    (subst (λ o. MatchOption o (IsNowhere (es ++ e ∷ []) s) (λ k. IsAt (es ++ e ∷ []) k.index s)) (sym (updates.0 s))
    (by (equal_shapes key s) refl (get equal_shapes m s) (index s)))
  where
    longer : length (es ++ e ∷ []) ≡ length es + 1
    longer = length-append es (e ∷ [])

    kept : (k : ℕ) → IsAt es k s → IsAt (es ++ e ∷ []) k s
    kept k at_k = record {
      within = let w = at_k.within in let l = longer in omega arith;
      same = λ x is. at_k.same x (is ∙ get_or_append_left es (e ∷ []) x k at_k.within);
    }

    at_end : IsSame key s → IsAt (es ++ e ∷ []) number.index s
    at_end key_s = record {
      within = let l = longer in omega arith;
      same = λ x is. subst (λ y. IsSame y.shape s) (sym (is ∙ get_or_push es e x number.index (sym at))) (same_both key e.shape s same key_s);
    }

    still : (IsSame key s → ⊥) → IsNowhere es s → IsNowhere (es ++ e ∷ []) s
    still other nowhere i x lt is same_x = split (cases_lt i (length es))
      where
        split : (i < length es) ⊎ (length es ≤ i) → ⊥
        split (inl p) = nowhere i x p (is ∙ get_or_append_left es (e ∷ []) x i p) same_x
        split (inr p) =
            let l = length-append es (e ∷ []) in
            let here : length es ≡ i = omega arith in
            other (same_trans key e.shape s same (subst (λ y. IsSame y.shape s) (is ∙ get_or_push es e x i here) same_x))

    by : (b : Bool) → equal_shapes key s ≡ b → (o : Option TyNo) → MatchOption o (IsNowhere es s) (λ k. IsAt es k.index s)
        → MatchOption (cond b (Some number) o) (IsNowhere (es ++ e ∷ []) s) (λ k. IsAt (es ++ e ∷ []) k.index s)
    by true eq o h = at_end (equal_same key s eq)
    by false eq None h = still (λ k. let yes = same_equal key s k in cc (yes, eq)) h
    by false eq (Some k) h = kept k.index h

pub index_found : (m : Index) (es : List Entry) (s : Shape) (r : Option (Bor TyNo)) (x : Bor TyNo) → IsIndexOf m es → option_copied r ≡ get equal_shapes m s → r ≡ Some x → IsAt es x.now.index s
index_found m es s r x index value is = subst (λ o. MatchOption o (IsNowhere es s) (λ k. IsAt es k.index s)) (sym value ∙ ap option_copied is) (index s)

pub index_lacks : (m : Index) (es : List Entry) (s : Shape) (r : Option (Bor TyNo)) → IsIndexOf m es → option_copied r ≡ get equal_shapes m s → r ≡ None → IsNowhere es s
index_lacks m es s r index value is = subst (λ o. MatchOption o (IsNowhere es s) (λ k. IsAt es k.index s)) (sym value ∙ ap option_copied is) (index s)

-- a list that is copied from its front

numbers_push : (fs gs : List (String Global × TyNo)) (f g : String Global × TyNo) → AreSame fs gs → IsSameField f g → AreSame (fs ++ f ∷ []) (gs ++ g ∷ [])
numbers_push [] [] f g same here = (here, tt)
numbers_push (x ∷ fs) (y ∷ gs) f g same here = (same.0, numbers_push fs gs f g same.1 here)
numbers_push [] (y ∷ gs) f g same here = absurd same
numbers_push (x ∷ fs) [] f g same here = absurd same

pub copied_number : (copies more fs : List (String Global × TyNo)) (i : ℕ) (f : String Global × TyNo) (label : String Global)
    → AreSame copies (take i fs) → i < length fs → f ≡ get_or fs i f → more ≡ copies ++ (label, f.1) ∷ [] → string_bytes label ≡ string_bytes f.0
    → AreSame more (take (i + 1) fs)
copied_number copies more fs i f label so_far lt is pushed same =
    let longer : take (i + 1) fs ≡ take i fs ++ f ∷ [] = take_more fs i f lt ∙ ap (λ x. take i fs ++ x ∷ []) (sym is) in
    rw (pushed, longer) (numbers_push copies (take i fs) (label, f.1) f so_far (same, refl))
