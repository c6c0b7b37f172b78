-- What is read of values, one after another.
use Rattle.std.proofs.Common.{◌≡◌, Some, None, Result, Ok, Err, ℕ, ◌+◌, ◌<◌, ◌≤◌, zero, suc, List, [], ◌∷◌, ◌++◌, length, get_or, map, take, refl, sym, ap, ◌∙◌, arith}
use Rattle.std.specs.List.{All}
use Rattle.std.proofs.lemmas.List.{take_more, take_all, map-append}
use Rattle.std.proofs.lemmas.List.Elements.{All-push, All-same}
use Rattle.std.proofs.lemmas.Simd.{map-map}
use Rattle.std.specs.Str.{IsUtf8}
use Rattle.std.specs.Option.{option_and_then}
use Rattle.serde_json.specs.Data.{Data, array, object, member, no_members, item, no_items}
use Rattle.serde_json.specs.Find.{as_array, as_number, as_u64}
use Rattle.serde_json.specs.View.{view, items_of, items_view}
use Rattle.serde_json.specs.declared.value.Value.{Value}
use Rattle.lam_text.specs.declared.places.Position.{Position}
use Rattle.lam_text.specs.declared.units.Encoding.{Encoding}
use Rattle.lam_text.specs.Positions.{position_of, offset_of}
use Rattle.lam_text.proofs.LawLemmas.{comes_back}
use Rattle.lam_session.specs.Ranges.{position_value}
use Rattle.lam_check.specs.Readable.{IsReadableOffset}
use Rattle.lam_check.specs.declared.read_derivations.Unread.{Unread}
use Rattle.lam_check.specs.inner.Read.{IfUnread, number_value}

-- ---- the values so far

abbrev pub AreReadTo : {A : Type 0} → (A → Data) → List Value → ℕ → List A → Type 0
AreReadTo f values i items = map view (take i values) ≡ map f items

pub one_more : {A : Type 0} (f : A → Data) (values : List Value) (i : ℕ) (v : Value) (items more : List A) (x : A)
    → i < length values → v ≡ get_or values i v → view v ≡ f x → more ≡ items ++ x ∷ [] → AreReadTo f values i items → AreReadTo f values (i + 1) more
one_more f values i v items more x inside at is pushed so_far =
    ap (map view) (take_more values i v inside)
    ∙ map-append view (take i values) (get_or values i v ∷ [])
    ∙ (λ k. so_far k ++ ((ap view (sym at) ∙ is) k) ∷ [])
    ∙ sym (map-append f items (x ∷ []))
    ∙ ap (map f) (sym pushed)

pub all_read : {A : Type 0} (f : A → Data) (values : List Value) (i : ℕ) (items : List A) → length values ≤ i → AreReadTo f values i items → map view values ≡ map f items
all_read f values i items past so_far = ap (map view) (sym (take_all i values past)) ∙ so_far

pub all_read_through : {A B : Type 0} (f : B → Data) (g : A → B) (values : List Value) (i : ℕ) (items : List A) → length values ≤ i → AreReadTo (λ x. f (g x)) values i items
    → map view values ≡ map f (map g items)
all_read_through f g values i items past so_far = all_read (λ x. f (g x)) values i items past so_far ∙ sym (map-map f g items)

pub one_more_readable : {A : Type 0} (P : A → Type 0) (items more : List A) (x : A) → more ≡ items ++ x ∷ [] → All P items → P x → All P more
one_more_readable P items more x pushed all here = All-same P more (items ++ x ∷ []) pushed (All-push P items x all here)

-- ---- one of the values

pub value_there : {A : Type 0} (f : A → Data) (values : List Value) (xs : List A) (i : ℕ) (v : Value) → i < length values → map view values ≡ map f xs
    → (x : A) × (view (get_or values i v) ≡ f x)
value_there f [] xs i v inside are = absurd (omega arith)
value_there f (w ∷ values) [] i v inside are = let clash : view w ∷ map view values ≡ [] = are in absurd cc
value_there f (w ∷ values) (x ∷ xs) zero v inside are = let both : view w ∷ map view values ≡ f x ∷ map f xs = are in (x, cc)
value_there f (w ∷ values) (x ∷ xs) (suc i) v inside are =
    let both : view w ∷ map view values ≡ f x ∷ map f xs = are in
    let rest : map view values ≡ map f xs = cc in
    value_there f values xs i v (omega arith) rest

-- ---- positions

pub same_position : (p q : Position) → position_value p ≡ position_value q → p ≡ q
same_position p q is =
    let character : p.character ≡ q.character = cc in
    let line : p.line ≡ q.line = cc in
    λ i. record { line = line i; character = character i }

pub position_is : (encoding : Encoding) (text : List ℕ) (value : Data) (offset : ℕ) (p : Position) → IsUtf8 text → IsReadableOffset text offset
    → value ≡ position_value p → value ≡ position_value (position_of encoding text offset) → position_of encoding text (offset_of encoding text p) ≡ p
position_is encoding text value offset p utf8 readable is there =
    let same = same_position p (position_of encoding text offset) (sym is ∙ there) in
    ap (λ q. position_of encoding text (offset_of encoding text q)) same
    ∙ ap (position_of encoding text) (comes_back encoding text offset utf8 readable.boundary readable.outside)
    ∙ sym same

-- ---- what was not read

pub not_a_number : (d : Data) (n : ℕ) → d ≡ number_value n → None ≡ option_and_then as_u64 (as_number d) → ⊥
not_a_number d n is none = let clash : None ≡ Some n = none ∙ ap (λ e. option_and_then as_u64 (as_number e)) is in absurd cc

pub unread_through : {T : Type 0} {P Q : Unread → Type 0} (r : Result T Unread) → ((reason : Unread) → P reason → Q reason) → IfUnread r P → IfUnread r Q
unread_through (Ok x) f h = tt
unread_through (Err reason) f h = λ other. f reason (h other)

pub items_same : (xs ys : List Data) → items_of xs ≡ items_of ys → xs ≡ ys
items_same [] [] e = refl
items_same [] (y ∷ ys) e = let clash : no_items ≡ item y (items_of ys) = e in absurd cc
items_same (x ∷ xs) [] e = let clash : item x (items_of xs) ≡ no_items = e in absurd cc
items_same (x ∷ xs) (y ∷ ys) e =
    let whole : item x (items_of xs) ≡ item y (items_of ys) = e in
    let first : x ≡ y = cc in
    let rest : items_of xs ≡ items_of ys = cc in
    let others = items_same xs ys rest in
    λ i. first i ∷ others i

pub listed : (value : Data) (values : List Value) (xs : List Data) → Some (items_view values) ≡ as_array value → value ≡ array (items_of xs) → map view values ≡ xs
listed value values xs found is =
    let both : Some (items_of (map view values)) ≡ Some (items_of xs) = found ∙ ap as_array is in
    let same : items_of (map view values) ≡ items_of xs = cc in
    items_same (map view values) xs same

pub listed_there : (value : Data) (values there : List Value) (xs : List Data) → Some (items_view values) ≡ as_array value → there ≡ values → value ≡ array (items_of xs) → map view there ≡ xs
listed_there value values there xs found same is = ap (map view) same ∙ listed value values xs found is

pub two_views : {d w x y z : Data} {k l : List ℕ} → d ≡ object (member k w (member l x no_members)) → d ≡ object (member k y (member l z no_members)) → (w ≡ y) × (x ≡ z)
two_views {w = w} {x = x} {y = y} {z = z} {k = k} {l = l} e f =
    let both : object (member k w (member l x no_members)) ≡ object (member k y (member l z no_members)) = sym e ∙ f in
    let first : w ≡ y = cc in
    let second : x ≡ z = cc in
    (first, second)
