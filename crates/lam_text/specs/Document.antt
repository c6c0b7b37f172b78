-- An open document as contracts see it.
use Rattle.std.specs.Prelude.{ℕ, List}
use Rattle.lam_text.specs.declared.units.Encoding.{Encoding}

-- the bytes of the text, and the encoding of its positions
pub record Document : Type 0 where
  pub text : List ℕ
  pub encoding : Encoding
