use Rattle.std.proofs.Common.{◌≡◌, ℕ, List, map, string_bytes, Ok, ap, ◌∙◌, subst, rules}
use Rattle.std.specs.Borrow.{Bor}
use Rattle.std.specs.declared.alloc.AllocError.{AllocError}
use Rattle.std.proofs.lemmas.Iterator.{YieldsList-from_slice, YieldsList-from_map_by}
use Rattle.std.proofs.lemmas.Iterator.Consumers.{map_from_collect}
use Rattle.lam_server.specs.Words.{ReadsWords}
use Rattle.lam_server.proofs.read_words.Goals as goal

pub returns : goal.returns
returns c =
    let texts : map (λ (slice : Bor (List ℕ)). slice.now) c.in-Ok.slices.items ≡ map string_bytes c.args.words.now =
    map_from_collect {E = AllocError} {v = λ (slice : Bor (List ℕ)). slice.now} (Ok c.in-Ok.slices) c.in-Ok.ensures.ran (YieldsList-from_map_by _ (λ (slice : Bor (List ℕ)). slice.now) string_bytes (YieldsList-from_slice c.args.words.now cc) c.map.ensures.closure (λ x r q k. search rules)) in
    let same = ap (λ (slices : List (Bor (List ℕ))). map (λ slice. slice.now) slices) c.as_slice.ensures.value ∙ texts in
    subst (λ (l : List (List ℕ)). ReadsWords l c.read_args.result) same c.read_args.ensures
