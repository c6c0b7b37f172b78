use Rattle.std.proofs.Common.{sym, ◌∙◌, ap, ◌++◌}
use Rattle.std.specs.Prelude.{encode_utf8}
use Rattle.lam_token.proofs.Reading.{first_is}
use Rattle.lam_token.proofs.characters.split_first.Goals as goal

pub returns : goal.returns
returns c =
    first_is _ _ _ c.utf8.text (sym c.chars-characters.ensures.rest ∙ c.in_ok-first.ensures.steps.0 ∙ ap (λ l. encode_utf8 c.in_ok-first.first ++ l) (sym c.as_str.ensures))
