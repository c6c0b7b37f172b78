-- Every fault of a text has a message.
use Rattle.std.proofs.Common.{◌≡◌, ◌≢◌, refl, ℕ, Bool, true, false, List, [], ◌∷◌, map, if◌then◌else◌}
use Rattle.std.specs.Prelude.{All}
use Rattle.std.specs.Str.{bytes_eq}
use Rattle.std.proofs.lemmas.List.Elements.{All-weaker}
use Rattle.lam_rules.specs.declared.rules.Dialect.{Dialect}
use Rattle.lam_query.specs.Faults.{Fault, is_among, HasKnownCode}
use Rattle.lam_query.specs.TextFaults.{AreFaults}
use Rattle.lam_query.proofs.KnownCodes.{known_codes}
use Rattle.lam_session.specs.Diagnostics.{messages, message_beside, message_of}

abbrev Row : Type 0
Row = List ℕ × List ℕ

abbrev is_full : List ℕ → Bool
is_full [] = false
is_full (c ∷ cs) = true

abbrev are_full : List Row → Bool
are_full [] = true
are_full (m ∷ ms) = if is_full m.1 then are_full ms else false

full_is_nonempty : (text : List ℕ) → is_full text ≡ true → text ≢ []
full_is_nonempty [] full e = cc
full_is_nonempty (c ∷ cs) full e = cc

first_full : (b rest : Bool) → (if b then rest else false) ≡ true → b ≡ true
first_full true rest both = refl
first_full false rest both = both

others_full : (b rest : Bool) → (if b then rest else false) ≡ true → rest ≡ true
others_full true rest both = both
others_full false rest both = absurd cc

chosen : (b known : Bool) (text more : List ℕ) → text ≢ [] → (known ≡ true → more ≢ []) → (if b then true else known) ≡ true → (if b then text else more) ≢ []
chosen true known text more here behind is = here
chosen false known text more here behind is = behind is

beside : (code : List ℕ) (ms : List Row) → are_full ms ≡ true → is_among code (map (λ (m : Row). m.0) ms) ≡ true → message_beside code ms ≢ []
beside code [] full among = absurd cc
beside code (m ∷ ms) full among =
    chosen (bytes_eq code m.0) (is_among code (map (λ (m : Row). m.0) ms)) m.1 (message_beside code ms)
    (full_is_nonempty m.1 (first_full (is_full m.1) (are_full ms) full))
    (beside code ms (others_full (is_full m.1) (are_full ms) full))
    among

pub have_messages : (text : List ℕ) (found : List Fault) (d : Dialect) → AreFaults text found d → All (λ (f : Fault). message_of f.code ≢ []) found
have_messages text found d are =
    All-weaker HasKnownCode (λ (f : Fault). message_of f.code ≢ []) (λ f known. beside f.code messages refl known) found (known_codes text found d are)
