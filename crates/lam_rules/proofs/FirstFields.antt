-- Looking through labeled values for the first one with a given label.
use Rattle.std.proofs.Common.{◌≡◌, ℕ, ◌+◌, ◌<◌, ◌≤◌, List, String, string_bytes, Bool, true, false, cond, length, drop, get_or, ap, ◌∙◌, Some, None}
use Rattle.std.specs.Option.{option_map}
use Rattle.std.specs.List.{find}
use Rattle.std.specs.Str.{bytes_eq}
use Rattle.std.specs.declared.alloc.Global.{Global}
use Rattle.std.proofs.lemmas.List.{drop_all}
use Rattle.lam_rules.specs.Types.{Label}
use Rattle.lam_rules.specs.Numbers.{first_under}
use Rattle.lam_rules.proofs.TableEntries.{drop_more_read}

module _ {X : Type 0} (l : Label) (fs : List (String Global × X)) where
  first_of_rest : (i : ℕ) (f : String Global × X) (b : Bool) → i < length fs → f ≡ get_or fs i f → bytes_eq (string_bytes f.0) l ≡ b
      → first_under l (drop i fs) ≡ option_map (λ g. g.1) (cond b (Some f) (find (λ g. bytes_eq (string_bytes g.0) l) (drop (i + 1) fs)))
  first_of_rest i f b lt is tested =
      ap (first_under l) (drop_more_read fs i f lt is)
      ∙ ap (λ c. option_map (λ g. g.1) (cond c (Some f) (find (λ g. bytes_eq (string_bytes g.0) l) (drop (i + 1) fs)))) tested

  -- the next field has the label
  pub first_here : (i : ℕ) (f : String Global × X) → i < length fs → f ≡ get_or fs i f → bytes_eq (string_bytes f.0) l ≡ true → first_under l (drop i fs) ≡ Some f.1
  first_here i f lt is tested = first_of_rest i f true lt is tested

  -- the next field has another label
  pub first_later : (i : ℕ) (f : String Global × X) → i < length fs → f ≡ get_or fs i f → bytes_eq (string_bytes f.0) l ≡ false → first_under l (drop i fs) ≡ first_under l (drop (i + 1) fs)
  first_later i f lt is tested = first_of_rest i f false lt is tested

  -- there are no more fields
  pub first_of_none : (i : ℕ) → length fs ≤ i → first_under l (drop i fs) ≡ None
  first_of_none i le = ap (first_under l) (drop_all i fs le)
