-- The content of a `Text`, as bytes.
use Rattle.std.specs.Prelude.{ℕ, List}
use Rattle.std.specs.Rc.{rc_str_bytes}
use Rattle.lam_syntax.specs.declared.text.Text.{Text}
use Rattle.lam_syntax.specs.declared.text.Kept.{Kept}
use Rattle.lam_syntax.specs.declared.text.Kept.TheVariants as kept

-- the bytes of a short text, or of a long one on the heap
abbrev pub letters_kept : Kept → List ℕ
letters_kept (kept.Short s) = s
letters_kept (kept.Long s) = rc_str_bytes s

-- the UTF-8 bytes of the text
abbrev pub letters : Text → List ℕ
letters t = letters_kept t.kept
