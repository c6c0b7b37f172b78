-- Chains of pulls: one more, two chains in a row, and what they do to the bytes and to the count of failures.
use Rattle.std.proofs.Common.{◌≡◌, ◌≤◌, ◌<◌, length, ℕ, ◌+◌, ◌*◌, ◌^◌, List, [], ◌∷◌, ◌++◌, refl, sym, ap, ◌∙◌, subst, arith, append_assoc, append-nil, length-append}
use Rattle.std.specs.List.{concat}
use Rattle.std.specs.Io.KnownBytes.{Consumes, IsAtEnd}
use Rattle.std.proofs.lemmas.List.{nil_from_length}
use Rattle.std.proofs.KnownBytes.{Consumes-nil, Consumes-trans}
use Rattle.std.proofs.lemmas.List.Folds.{concat-append}
use Rattle.lam_frame.specs.Device.{SourceView}
use Rattle.lam_frame.specs.Next.{EndsEmpty, OnlyLastEmpty, PulledWhile}
use Rattle.lam_frame.specs.inner.Steps.{NoneEmpty, PulledPiece}

-- ---- which pieces are empty

pub NoneEmpty-append : (front back : List (List ℕ)) → NoneEmpty front → NoneEmpty back → NoneEmpty (front ++ back)
NoneEmpty-append [] back f b = b
NoneEmpty-append (piece ∷ front) back f b = (f.0, NoneEmpty-append front back f.1 b)

last_has_bytes : (front : List (List ℕ)) (piece : List ℕ) → NoneEmpty (front ++ piece ∷ []) → 0 < length piece
last_has_bytes [] piece n = n.0
last_has_bytes (p ∷ front) piece n = last_has_bytes front piece n.1

pub not_ended : (pieces : List (List ℕ)) → NoneEmpty pieces → EndsEmpty pieces → ⊥
not_ended pieces n e = let some = last_has_bytes e.0 [] (subst NoneEmpty e.1 n) in omega arith

pub EndsEmpty-behind : (front back : List (List ℕ)) → EndsEmpty back → EndsEmpty (front ++ back)
EndsEmpty-behind front back e = (front ++ e.0, ap (λ (l : List (List ℕ)). front ++ l) e.1 ∙ sym (append_assoc front e.0 ([] ∷ [])))

pub stopped_behind : (front back : List (List ℕ)) → NoneEmpty front → OnlyLastEmpty back → OnlyLastEmpty (front ++ back)
stopped_behind [] back f b = b
stopped_behind (piece ∷ []) [] f b = tt
stopped_behind (piece ∷ []) (next ∷ back) f b = (f.0, b)
stopped_behind (piece ∷ next ∷ front) back f b = (f.0, stopped_behind (next ∷ front) back f.1 b)

pub stopped_none : (pieces : List (List ℕ)) → NoneEmpty pieces → OnlyLastEmpty pieces
stopped_none pieces n = subst OnlyLastEmpty (append-nil pieces) (stopped_behind pieces [] n tt)

same_last : (a : List (List ℕ)) (x : List ℕ) (b front : List (List ℕ)) → a ++ (x ∷ b) ≡ front ++ ([] ∷ []) → EndsEmpty (x ∷ b)
same_last [] x b front e = (front, e)
same_last (p ∷ a) x b [] e = absurd (omega (arith, ap length e, length-append a (x ∷ b)))
same_last (p ∷ a) x b (q ∷ front) e = let tails : a ++ (x ∷ b) ≡ front ++ ([] ∷ []) = cc e in same_last a x b front tails

pub not_ended_behind : (front back : List (List ℕ)) → NoneEmpty front → (EndsEmpty back → ⊥) → EndsEmpty (front ++ back) → ⊥
not_ended_behind front [] f b e = not_ended front f (subst EndsEmpty (append-nil front) e)
not_ended_behind front (x ∷ back) f b e = b (same_last front x back e.0 e.1)

-- pulls while P holds, from these bytes held and this source to these bytes heard and that source
pub record Pulling {S : Type 0} (from : SourceView S) (P : List ℕ → Type 0)
    (held : List ℕ) (pulls : ℕ) (source : S) (heard : List ℕ) (count : ℕ) (last : S) : Type 0 where
  pub pieces : List (List ℕ)
  pub needed : PulledWhile from P held source pieces last
  pub some : NoneEmpty pieces
  pub heard_is : heard ≡ held ++ concat pieces
  pub counted : count ≡ pulls + length pieces
  pub few : count ≤ 2 ^ 48

-- the same, and then a pull that gave nothing
pub record Ended {S : Type 0} (from : SourceView S) (P : List ℕ → Type 0)
    (held : List ℕ) (pulls : ℕ) (source : S) (heard : List ℕ) (count : ℕ) (last : S) : Type 0 where
  pub pieces : List (List ℕ)
  pub needed : PulledWhile from P held source pieces last
  pub stopped : OnlyLastEmpty pieces
  pub ended : EndsEmpty pieces
  pub heard_is : heard ≡ held ++ concat pieces
  pub counted : count ≡ pulls + length pieces
  pub few : count ≤ 2 ^ 48

module _ {S : Type 0} (from : SourceView S) where
  pub PulledWhile-append : (P : List ℕ → Type 0) (held : List ℕ) (source middle last : S) (front back : List (List ℕ))
      → PulledWhile from P held source front middle → PulledWhile from P (held ++ concat front) middle back last
      → PulledWhile from P held source (front ++ back) last
  PulledWhile-append P held source middle last [] back f b =
      subst (λ (s : S). PulledWhile from P held s back last) (sym f) (subst (λ (h : List ℕ). PulledWhile from P h middle back last) (append-nil held) b)
  PulledWhile-append P held source middle last (piece ∷ front) back f b = (
    f.0,
    f.1,
    (
      f.2.0,
      f.2.1,
      PulledWhile-append P (held ++ piece) f.2.0 middle last front back f.2.2
          (subst (λ (h : List ℕ). PulledWhile from P h middle back last) (sym (append_assoc held piece (concat front))) b),
    ),
  )

  -- pulls while P are pulls while Q with some bytes in front, if P of the bytes heard gives Q of both
  pub PulledWhile-front : (P Q : List ℕ → Type 0) (front held : List ℕ) (source last : S) (pieces : List (List ℕ)) → ((heard : List ℕ) → P heard → Q (front ++ heard))
      → PulledWhile from P held source pieces last → PulledWhile from Q (front ++ held) source pieces last
  PulledWhile-front P Q front held source last [] into p = p
  PulledWhile-front P Q front held source last (piece ∷ pieces) into p = (
    into held p.0,
    p.1,
    (
      p.2.0,
      p.2.1,
      subst (λ (h : List ℕ). PulledWhile from Q h p.2.0 pieces last) (sym (append_assoc front held piece))
          (PulledWhile-front P Q front (held ++ piece) p.2.0 last pieces into p.2.2),
    ),
  )

  pub PulledWhile-failed : (P : List ℕ → Type 0) (held : List ℕ) (source last : S) (pieces : List (List ℕ)) → PulledWhile from P held source pieces last → from.failed last ≡ from.failed source
  PulledWhile-failed P held source last [] p = ap from.failed (sym p)
  PulledWhile-failed P held source last (piece ∷ pieces) p = PulledWhile-failed P (held ++ piece) p.2.0 last pieces p.2.2 ∙ p.2.1.unfailed

  pub PulledWhile-bytes : (P : List ℕ → Type 0) (held : List ℕ) (source last : S) (pieces : List (List ℕ)) → PulledWhile from P held source pieces last
      → Consumes (from.coming source) (from.coming last) (concat pieces)
  PulledWhile-bytes P held source last [] p = subst (λ (s : S). Consumes (from.coming source) (from.coming s) []) p (Consumes-nil (from.coming source))
  PulledWhile-bytes P held source last (piece ∷ pieces) p =
      Consumes-trans (from.coming source) (from.coming p.2.0) (from.coming last) piece (concat pieces) p.2.1.bytes (PulledWhile-bytes P (held ++ piece) p.2.0 last pieces p.2.2)

  pub PulledWhile-short : (P : List ℕ → Type 0) (held : List ℕ) (source last : S) (pieces : List (List ℕ)) → PulledWhile from P held source pieces last
      → length (concat pieces) ≤ 65536 * length pieces
  PulledWhile-short P held source last [] p = omega arith
  PulledWhile-short P held source last (piece ∷ pieces) p =
      omega (arith, p.1, length-append piece (concat pieces), PulledWhile-short P (held ++ piece) p.2.0 last pieces p.2.2)

  -- the source is at its end behind an empty piece
  pub PulledWhile-end : (P : List ℕ → Type 0) (held : List ℕ) (source last : S) (front : List (List ℕ)) → PulledWhile from P held source (front ++ ([] ∷ [])) last → IsAtEnd (from.coming last)
  PulledWhile-end P held source last [] p = subst (λ (s : S). IsAtEnd (from.coming s)) p.2.2 (p.2.1.ended refl)
  PulledWhile-end P held source last (piece ∷ front) p = PulledWhile-end P (held ++ piece) p.2.0 last front p.2.2

  pub pulling_more : (P : List ℕ → Type 0) (held : List ℕ) (pulls : ℕ) (source : S) (heard : List ℕ) (count : ℕ) (middle : S) (front rest rest_after : List ℕ) (n : ℕ) (last : S)
      → Pulling from P held pulls source heard count middle → P heard → heard ≡ front ++ rest → count < 2 ^ 48 → (n ≡ 0 → ⊥) → (p : PulledPiece from rest middle n rest_after last)
      → Pulling from P held pulls source (front ++ rest_after) (count + 1) last
  pulling_more P held pulls source heard count middle front rest rest_after n last w still split below some p = record {
    pieces = w.pieces ++ (p.piece ∷ []);
    needed = PulledWhile-append P held source middle last w.pieces (p.piece ∷ []) w.needed
        (subst P w.heard_is still, omega (arith, p.counted, p.small), (last, p.given, refl));
    some = NoneEmpty-append w.pieces (p.piece ∷ []) w.some (omega (arith, some, p.counted), tt);
    heard_is = ap (λ (l : List ℕ). front ++ l) p.added ∙ sym (append_assoc front rest p.piece) ∙ ap (λ (l : List ℕ). l ++ p.piece) (sym split ∙ w.heard_is) ∙ append_assoc held (concat w.pieces) p.piece
        ∙ ap (λ (l : List ℕ). held ++ l) (ap (λ (l : List ℕ). concat w.pieces ++ l) (sym (append-nil p.piece)) ∙ sym (concat-append w.pieces (p.piece ∷ [])));
    counted = omega (arith, w.counted, length-append w.pieces (p.piece ∷ []));
    few = omega arith;
  }

  pub pulling_failed : (P : List ℕ → Type 0) (held : List ℕ) (pulls : ℕ) (source : S) (heard : List ℕ) (count : ℕ) (last : S) → Pulling from P held pulls source heard count last → from.failed last ≡ from.failed source
  pulling_failed P held pulls source heard count last w = PulledWhile-failed P held source last w.pieces w.needed

  -- a pull that gave nothing

  -- a pull that gave nothing leaves the bytes as they were
  pub pulling_end : (P : List ℕ → Type 0) (held : List ℕ) (pulls : ℕ) (source : S) (heard : List ℕ) (count : ℕ) (middle : S) (front rest rest_after : List ℕ) (n : ℕ) (last : S)
      → Pulling from P held pulls source heard count middle → P heard → heard ≡ front ++ rest → count < 2 ^ 48 → n ≡ 0 → PulledPiece from rest middle n rest_after last
      → Ended from P held pulls source (front ++ rest_after) (count + 1) last × (rest_after ≡ rest)
  pulling_end P held pulls source heard count middle front rest rest_after n last w still split below zero p =
      let none : p.piece ≡ [] = nil_from_length p.piece (p.counted ∙ zero) in
      let same : rest_after ≡ rest = p.added ∙ ap (λ (l : List ℕ). rest ++ l) none ∙ append-nil rest in (
        record {
          pieces = w.pieces ++ (p.piece ∷ []);
          needed = PulledWhile-append P held source middle last w.pieces (p.piece ∷ []) w.needed
              (subst P w.heard_is still, omega (arith, p.counted, p.small), (last, p.given, refl));
          stopped = stopped_behind w.pieces (p.piece ∷ []) w.some tt;
          ended = (w.pieces, ap (λ (l : List ℕ). w.pieces ++ (l ∷ [])) none);
          heard_is = ap (λ (l : List ℕ). front ++ l) same ∙ sym split ∙ w.heard_is
              ∙ ap (λ (l : List ℕ). held ++ l) (sym (append-nil (concat w.pieces)) ∙ ap (λ (l : List ℕ). concat w.pieces ++ (l ++ [])) (sym none) ∙ sym (concat-append w.pieces (p.piece ∷ [])));
          counted = omega (arith, w.counted, length-append w.pieces (p.piece ∷ []));
          few = omega arith;
        },
        same,
      )
