-- Rows and what they stand for, one by one; where the binders of a part of a document are among all; and what is read off the binders in scope.
use Rattle.std.proofs.Common.{◌≡◌, ℕ, ◌+◌, ◌<◌, ◌≤◌, List, [], ◌∷◌, ◌++◌, length, length-append, zero, suc, refl, ap, sym, ◌∙◌, subst, arith, map, get_or, Option, true, false}
use Rattle.std.proofs.lemmas.List.{append-nil, get_or_default}
use Rattle.lam_syntax.specs.Trees as tree
use Rattle.lam_syntax.specs.Trees.{word, bound, TypeTree, type_tree, TypeNode, bool, nat, unit, top, named, arrow, record_type, TypeFields, no_type_fields, type_field, TermTree, term_tree, TermNode, term_span}
use Rattle.lam_token.specs.declared.span.Span.{Span}
use Rattle.lam_scope.specs.declared.numbers.Origin.{Origin}
use Rattle.lam_scope.specs.Names.{Name}
use Rattle.lam_scope.specs.Sights.{lambda_at, term_at}
use Rattle.lam_scope.specs.Tables.{TextBinder, TextPlace, Table, ◌⊕◌, Entry, entry, innermost, binder_row, place_row, root, behind, roots, binders_in, binders_in_node, binders_in_fields, type_uses, node_uses, field_uses, term_table, node_table, fields_table, letrec_rows, binder_in, seen_in}

-- the elements of two lists, paired by their indices

abbrev pub Along : {A B : Type 0} → (A → B → Type 0) → List A → List B → Type 0
Along R [] [] = Unit {0}
Along R (x ∷ xs) (y ∷ ys) = R x y × Along R xs ys
Along R _ _ = ⊥

pub along_append : {A B : Type 0} (R : A → B → Type 0) (xs vs : List A) (ys ws : List B) → Along R xs ys → Along R vs ws → Along R (xs ++ vs) (ys ++ ws)
along_append R [] vs [] ws g h = h
along_append R (x ∷ xs) vs (y ∷ ys) ws g h = (g.0, along_append R xs vs ys ws g.1 h)
along_append R [] vs (y ∷ ys) ws g h = absurd g
along_append R (x ∷ xs) vs [] ws g h = absurd g

along_front : {A B : Type 0} (R : A → B → Type 0) (xs vs : List A) (ys : List B) → length vs ≡ 0 → Along R xs ys → Along R (xs ++ vs) ys
along_front R xs [] ys e h = subst (λ zs. Along R zs ys) (sym (append-nil xs)) h
along_front R xs (v ∷ vs) ys e h = absurd (omega arith)

along_back : {A B : Type 0} (R : A → B → Type 0) (xs vs : List A) (ys : List B) → length xs ≡ 0 → Along R vs ys → Along R (xs ++ vs) ys
along_back R [] vs ys e h = h
along_back R (x ∷ xs) vs ys e h = absurd (omega arith)

-- the places of two tables, one after the other; or of one table, if the other has none

pub both : {B : Type 0} (R : TextPlace → B → Type 0) (s t : Table) (ys zs : List B) → Along R s.places ys → Along R t.places zs → Along R (s ⊕ t).places (ys ++ zs)
unfolding ◌⊕◌
both R s t ys zs g h = along_append R s.places t.places ys zs g h

pub front_alone : {B : Type 0} (R : TextPlace → B → Type 0) (s t : Table) (ys : List B) → length t.places ≡ 0 → Along R s.places ys → Along R (s ⊕ t).places ys
unfolding ◌⊕◌
front_alone R s t ys e h = along_front R s.places t.places ys e h

pub back_alone : {B : Type 0} (R : TextPlace → B → Type 0) (s t : Table) (ys : List B) → length s.places ≡ 0 → Along R t.places ys → Along R (s ⊕ t).places ys
unfolding ◌⊕◌
back_alone R s t ys e h = along_back R s.places t.places ys e h

-- how many binders the tables of the parts of a text have

pub plus : (s t : Table) (a b : ℕ) → length s.binders ≡ a → length t.binders ≡ b → length (s ⊕ t).binders ≡ a + b
unfolding ◌⊕◌
plus s t a b e f = length-append s.binders t.binders ∙ (λ i. e i + f i)

mutual
  pub type_binders : (types : List Entry) (u : TypeTree) → length (type_uses types u).binders ≡ 0
  type_binders types (type_tree s n) = node_of_type types n

  node_of_type : (types : List Entry) (n : TypeNode) → length (node_uses types n).binders ≡ 0
  node_of_type types bool = refl
  node_of_type types nat = refl
  node_of_type types unit = refl
  node_of_type types top = refl
  node_of_type types (named (word x s)) = refl
  node_of_type types (arrow a b) = plus (type_uses types a) (type_uses types b) 0 0 (type_binders types a) (type_binders types b)
  node_of_type types (record_type fs) = fields_of_type types fs

  fields_of_type : (types : List Entry) (fs : TypeFields) → length (field_uses types fs).binders ≡ 0
  fields_of_type types no_type_fields = refl
  fields_of_type types (type_field l t fs) = plus (type_uses types t) (field_uses types fs) 0 0 (type_binders types t) (fields_of_type types fs)

pub letrec_binders : (x : Option Name) (r span : Span) (names : List Entry) (n p m : ℕ) (u t : Table) → length u.binders ≡ 0 → length t.binders ≡ m
    → length (letrec_rows x r names n p span u t).binders ≡ 2 + m
letrec_binders x r span names n p m u t e f =
    let one = binder_row x r names (n + 1) (lambda_at (p + 1)) in
    let two = binder_row x r names (n + 1) (term_at (p + 2)) in
    let function = place_row span true (p ∷ []) names in
    let fixed = place_row span true ((p + 1) ∷ []) names in
    let whole = plus (one ⊕ two ⊕ u ⊕ t ⊕ function) fixed (1 + 1 + 0 + m + 0) 0
    (plus (one ⊕ two ⊕ u ⊕ t) function (1 + 1 + 0 + m) 0
    (plus (one ⊕ two ⊕ u) t (1 + 1 + 0) m (plus (one ⊕ two) u (1 + 1) 0 (plus one two 1 1 refl refl) e) f) refl) refl in
    omega arith

mutual
  pub term_binders : (types names : List Entry) (n k : ℕ) (t : TermTree) → length (term_table types names n k t).binders ≡ binders_in t
  term_binders types names n k (term_tree s node) =
      let whole = plus (node_table types names n k node) (place_row s false (roots k node) names) (binders_in_node node) 0 (node_binders types names n k node) refl in
      omega arith

  node_binders : (types names : List Entry) (n k : ℕ) (node : TermNode) → length (node_table types names n k node).binders ≡ binders_in_node node
  node_binders types names n k tree.true_term = refl
  node_binders types names n k tree.false_term = refl
  node_binders types names n k tree.unit_term = refl
  node_binders types names n k (tree.variable (word x r)) = refl
  node_binders types names n k (tree.numeral w) = refl
  node_binders types names n k (tree.lambda (bound b r) u t) =
      let whole = plus (binder_row b r names n (lambda_at (behind k t)) ⊕ type_uses types u) (term_table types (entry b n n ∷ names) (n + 1) k t) (1 + 0) (binders_in t)
      (plus (binder_row b r names n (lambda_at (behind k t))) (type_uses types u) 1 0 refl (type_binders types u)) (term_binders types (entry b n n ∷ names) (n + 1) k t) in
      omega arith
  node_binders types names n k (tree.if_term c t u) =
      let second = n + binders_in c in
      let third = n + binders_in c + binders_in t in
      plus (term_table types names n k c ⊕ term_table types names second (behind k c) t) (term_table types names third (behind (behind k c) t) u) (binders_in c + binders_in t) (binders_in u)
      (plus (term_table types names n k c) (term_table types names second (behind k c) t) (binders_in c) (binders_in t) (term_binders types names n k c) (term_binders types names second (behind k c) t))
      (term_binders types names third (behind (behind k c) t) u)
  node_binders types names n k (tree.let_term (bound b r) t u) =
      plus (binder_row b r names n (term_at (root k t)) ⊕ term_table types names (n + 1) k t) (term_table types (entry b n n ∷ names) (n + 1 + binders_in t) (behind k t) u) (1 + binders_in t) (binders_in u)
      (plus (binder_row b r names n (term_at (root k t))) (term_table types names (n + 1) k t) 1 (binders_in t) refl (term_binders types names (n + 1) k t))
      (term_binders types (entry b n n ∷ names) (n + 1 + binders_in t) (behind k t) u)
  node_binders types names n k (tree.letrec_term (bound b r) w t u) =
      let first = term_table types (entry b n (n + 1) ∷ names) (n + 2) k t in
      let body = term_table types (entry b (n + 1) (n + 1) ∷ names) (n + 2 + binders_in t) (root k t + 3) u in
      let whole = plus (letrec_rows b r names n (root k t) (term_span t) (type_uses types w) first) body (2 + binders_in t) (binders_in u)
      (letrec_binders b r (term_span t) names n (root k t) (binders_in t) (type_uses types w) first (type_binders types w) (term_binders types (entry b n (n + 1) ∷ names) (n + 2) k t))
      (term_binders types (entry b (n + 1) (n + 1) ∷ names) (n + 2 + binders_in t) (root k t + 3) u) in
      omega arith
  node_binders types names n k (tree.prefixed p t) = term_binders types names n k t
  node_binders types names n k (tree.apply t u) =
      plus (term_table types names n k t) (term_table types names (n + binders_in t) (behind k t) u) (binders_in t) (binders_in u)
      (term_binders types names n k t) (term_binders types names (n + binders_in t) (behind k t) u)
  node_binders types names n k (tree.project t l) = term_binders types names n k t
  node_binders types names n k (tree.ascribe t u) =
      let whole = plus (term_table types names n k t) (type_uses types u) (binders_in t) 0 (term_binders types names n k t) (type_binders types u) in
      omega arith
  node_binders types names n k (tree.record_term fs) = fields_binders types names n k fs

  fields_binders : (types names : List Entry) (n k : ℕ) (fs : tree.FieldTrees) → length (fields_table types names n k fs).binders ≡ binders_in_fields fs
  fields_binders types names n k tree.no_fields = refl
  fields_binders types names n k (tree.field l t fs) =
      plus (term_table types names n k t) (fields_table types names (n + binders_in t) (behind k t) fs) (binders_in t) (binders_in_fields fs)
      (term_binders types names n k t) (fields_binders types names (n + binders_in t) (behind k t) fs)

-- elements at their indices, from n on

abbrev pub StandAt : {A : Type 0} → (ℕ → A) → (size n : ℕ) → List A → Type 0
StandAt at size n [] = Unit {0}
StandAt at size n (x ∷ xs) = (n < size) × (at n ≡ x) × StandAt at size (n + 1) xs

pub stand_left : {A : Type 0} (at : ℕ → A) (size n : ℕ) (front back : List A) → StandAt at size n (front ++ back) → StandAt at size n front
stand_left at size n [] back h = tt
stand_left at size n (x ∷ front) back h = (h.0, h.1, stand_left at size (n + 1) front back h.2)

pub stand_right : {A : Type 0} (at : ℕ → A) (size n m : ℕ) (front back : List A) → n + length front ≡ m → StandAt at size n (front ++ back) → StandAt at size m back
stand_right at size n m [] back e h = let here : n ≡ m = omega arith in subst (λ j. StandAt at size j back) here h
stand_right at size n m (x ∷ front) back e h = stand_right at size (n + 1) m front back (omega arith) h.2

stand_shift : {A : Type 0} (d x : A) (xs : List A) (n : ℕ) (part : List A) → StandAt (λ k. get_or xs k d) (length xs) n part → StandAt (λ k. get_or (x ∷ xs) k d) (suc (length xs)) (suc n) part
stand_shift d x xs n [] h = tt
stand_shift d x xs n (y ∷ part) h =
    let within = h.0 in
    let next : suc (n + 1) ≡ suc n + 1 = omega arith in
    (omega arith, h.1, subst (λ m. StandAt (λ k. get_or (x ∷ xs) k d) (suc (length xs)) m part) next (stand_shift d x xs (n + 1) part h.2))

pub stand_all : {A : Type 0} (d : A) (xs : List A) → StandAt (λ k. get_or xs k d) (length xs) 0 xs
stand_all d [] = tt
stand_all d (x ∷ xs) =
    let first : suc 0 ≡ 0 + 1 = omega arith in
    (omega arith, refl, subst (λ m. StandAt (λ k. get_or (x ∷ xs) k d) (suc (length xs)) m xs) first (stand_shift d x xs 0 xs (stand_all d xs)))

-- binders at their indices in a table

abbrev pub BindersStand : List TextBinder → ℕ → List TextBinder → Type 0
BindersStand bs = StandAt (binder_in bs) (length bs)

pub stand_defaults : (bs : List TextBinder) (d : TextBinder) (n : ℕ) (part : List TextBinder) → StandAt (λ k. get_or bs k d) (length bs) n part → BindersStand bs n part
stand_defaults bs d n [] h = tt
stand_defaults bs d n (b ∷ part) h = let within = h.0 in (h.0, get_or_default bs n _ _ h.0 ∙ h.1, stand_defaults bs d (n + 1) part h.2)

pub all_stand : (bs : List TextBinder) → BindersStand bs 0 bs
all_stand bs = stand_defaults bs (binder_in [] 0) 0 bs (stand_all (binder_in [] 0) bs)

pub rows_left : (bs : List TextBinder) (n : ℕ) (s t : Table) → BindersStand bs n (s ⊕ t).binders → BindersStand bs n s.binders
unfolding ◌⊕◌
rows_left bs n s t h = stand_left (binder_in bs) (length bs) n s.binders t.binders h

pub rows_right : (bs : List TextBinder) (n m : ℕ) (s t : Table) → n + length s.binders ≡ m → BindersStand bs n (s ⊕ t).binders → BindersStand bs m t.binders
unfolding ◌⊕◌
rows_right bs n m s t e h = stand_right (binder_in bs) (length bs) n m s.binders t.binders e h

-- binders in scope: each is just inside of the next, and what is read off each is given

abbrev pub AreUnder : List Entry → ℕ → Type 0
AreUnder [] n = Unit {0}
AreUnder (e ∷ es) n = e.number < n

pub under_more : (es : List Entry) (m n : ℕ) → m ≤ n → AreUnder es m → AreUnder es n
under_more [] m n le h = tt
under_more (e ∷ es) m n le h = omega arith

abbrev pub AreSeen : {A : Type 0} → (TextBinder → A) → List TextBinder → List Entry → List A → Type 0
AreSeen f bs [] [] = Unit {0}
AreSeen f bs (e ∷ es) (x ∷ xs) =
    (e.number < length bs) × AreUnder es e.number × (innermost es ≡ (binder_in bs e.number).outer) × (f (binder_in bs e.number) ≡ x) × AreSeen f bs es xs
AreSeen f bs _ _ = ⊥

pub one_more : {A : Type 0} (f : TextBinder → A) (bs : List TextBinder) (x : Option Name) (r : Span) (names : List Entry) (n m a : ℕ) (o : Origin) (told : A) (all : List A) (rest : List TextBinder)
    → f (record { name = x; token = r; outer = innermost names; answer = a; origin = o }) ≡ told → AreUnder names n
    → BindersStand bs n ((binder_row x r names a o).binders ++ rest) → AreSeen f bs names all → AreSeen f bs (entry x n m ∷ names) (told ∷ all)
one_more f bs x r names n m a o told all rest e under stand seen =
    (stand.0, under, sym (ap (λ b. b.outer) stand.1), ap f stand.1 ∙ e, seen)

abbrev pub read_from : {A : Type 0} → (TextBinder → A) → List TextBinder → ℕ → Option ℕ → List A
read_from f bs n b = map (λ m. f (binder_in bs m)) (seen_in bs n b)

read_under : {A : Type 0} (f : TextBinder → A) (bs : List TextBinder) (m : ℕ) (es : List Entry) (xs : List A) → AreUnder es m → AreSeen f bs es xs → read_from f bs m (innermost es) ≡ xs
read_under f bs m [] [] under seen = refl
read_under f bs zero (e ∷ es) xs under seen = absurd (omega arith)
read_under f bs (suc m) (e ∷ es) (x ∷ xs) under seen = λ i.
    seen.3 i ∷ (ap (read_from f bs m) (sym seen.2) ∙ read_under f bs m es xs (under_more es e.number m (omega arith) seen.1) seen.4) i
read_under f bs m [] (x ∷ xs) under seen = absurd seen
read_under f bs m (e ∷ es) [] under seen = absurd seen

all_under : {A : Type 0} (f : TextBinder → A) (bs : List TextBinder) (es : List Entry) (xs : List A) → AreSeen f bs es xs → AreUnder es (length bs)
all_under f bs [] xs seen = tt
all_under f bs (e ∷ es) (x ∷ xs) seen = seen.0
all_under f bs (e ∷ es) [] seen = absurd seen

-- what is read from the innermost of them on
pub read_seen : {A : Type 0} (f : TextBinder → A) (bs : List TextBinder) (es : List Entry) (xs : List A) → AreSeen f bs es xs → read_from f bs (length bs) (innermost es) ≡ xs
read_seen f bs es xs seen = read_under f bs (length bs) es xs (all_under f bs es xs seen) seen

-- the rows of a letrec except for its body: its two binders and those of its first term are at their indices

pub letrec_first : (bs : List TextBinder) (x : Option Name) (r span : Span) (names : List Entry) (n p : ℕ) (u t : Table) → length u.binders ≡ 0
    → BindersStand bs n (letrec_rows x r names n p span u t).binders
    → BindersStand bs n (binder_row x r names (n + 1) (lambda_at (p + 1))).binders × BindersStand bs (n + 1) (binder_row x r names (n + 1) (term_at (p + 2))).binders × BindersStand bs (n + 2) t.binders
letrec_first bs x r span names n p u t e stand =
    let one = binder_row x r names (n + 1) (lambda_at (p + 1)) in
    let two = binder_row x r names (n + 1) (term_at (p + 2)) in
    let function = place_row span true (p ∷ []) names in
    let fixed = place_row span true ((p + 1) ∷ []) names in
    let count = plus (one ⊕ two) u 2 0 (plus one two 1 1 refl refl) e in
    let with_first = rows_left bs n (one ⊕ two ⊕ u ⊕ t) function (rows_left bs n (one ⊕ two ⊕ u ⊕ t ⊕ function) fixed stand) in
    let both = rows_left bs n (one ⊕ two) u (rows_left bs n (one ⊕ two ⊕ u) t with_first) in
    (rows_left bs n one two both, rows_right bs n (n + 1) one two refl both, rows_right bs n (n + 2) (one ⊕ two ⊕ u) t (omega arith) with_first)
