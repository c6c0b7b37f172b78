use Rattle.std.proofs.Common.{◌≡◌, ℕ, true, List, length, Option, refl, ap}
use Rattle.std.proofs.lemmas.Option.{slice_get-get_or}
use Rattle.std.specs.List.{slice_get}
use Rattle.std.specs.Option.{option_map}
use Rattle.std.specs.Iterator.{Drains}
use Rattle.std.specs.Iterator.Runs.{Run, Trigger, YieldsRun, EveryRun, ItemsAre}
use Rattle.lam_text.proofs.splice.put.Goals as goal

seen : (n : ℕ) → Trigger n
unfolding Trigger
seen n = tt

-- an iterator that gave these items and then ended
module _ {S A : Type 0} (steps : S → Option A → S → Type 0) (s : S) (xs : List A) (drained : Drains steps s xs) where
  gave : YieldsRun steps s xs true (slice_get xs)
  unfolding YieldsRun
  gave = ((drained.1.0, drained.1.1, λ _. (drained.0, drained.1.2)), λ k. refl)

  all_of_it : Run steps
  all_of_it = record {
    from = s;
    items = xs;
    whole = true;
    len = length xs;
    at = slice_get xs;
    seen = seen (length xs);
    long = refl;
    reads = λ k d h. ap (option_map (λ y. y)) (slice_get-get_or xs k d h);
    gave = gave;
  }

  -- gave all that it had
  items-is : (rest : S → List A) → EveryRun steps (λ p. ItemsAre p (rest p.from)) → xs ≡ rest s
  unfolding all_of_it
  items-is rest every = (every all_of_it (seen (length xs))).4 refl

pub returns : goal.returns
returns c =
    let put = (c.in_ok-splice.ensures {u = tt}).items in
    rw (put.4, items-is _ put.0 put.1 put.3 _ put.2.3, put.2.0) refl
