-- Values that are verified derivations.
use Rattle.std.specs.Prelude.{◌≡◌, ℕ, List, Some}
use Rattle.serde_json.specs.Data.{Data}
use Rattle.lam_rules.specs.declared.rules.Dialect.{Dialect}
use Rattle.lam_text.specs.declared.units.Encoding.{Encoding}
use Rattle.lam_query.specs.Derivations.{Derivation}
use Rattle.lam_query.specs.Verified.{IsVerified}
use Rattle.lam_session.specs.Derivations.{derivation_value}

-- The value is a derivation in the form that the language server sends to a client with this position encoding, and a valid proof about a term of the text.
pub record IsVerifiedValue (encoding : Encoding) (text : List ℕ) (value : Data) (d : Dialect) : Type 0 where
  pub derivation : Derivation
  pub is_value : value ≡ derivation_value encoding text (Some derivation)
  pub verified : IsVerified text derivation d
