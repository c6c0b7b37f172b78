use Rattle.std.proofs.Common.{[], ap, refl, ◌∙◌}
use Rattle.lam_typing.specs.inner.Notes.{notes_of}
use Rattle.lam_typing.specs.Typings.{found_of}
use Rattle.lam_typing.proofs.grounds.Grounds.new.Goals as goal

pub returns : goal.returns
returns c = record {
  are = record {
    typing = c.requires;
    noted = c.in_ok-noted.ensures (found_of c.args.typing.now) ∙ ap (λ ss. notes_of 0 (found_of c.args.typing.now) [] ss) c.statements.ensures;
  };
  resolved = refl;
  typing = refl;
}
