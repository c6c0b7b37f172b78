use Rattle.std.proofs.Common.{◌∷◌, [], ◌++◌, ap, ◌∙◌, refl}
use Rattle.lam_query.proofs.ReadPieces.{other_read}
use Rattle.lam_query.proofs.reading.Reader.push.Goals as goal

pub returns : goal.returns
returns c =
    let pushed = c.in_ok-push.ensures.items ∙ ap (λ v. v.items ++ c.args.token ∷ []) c.in_ok-note.ensures.piece in
    record {
      read = λ front done h. other_read front done _ _ _ _ c.requires c.in_ok-note.ensures pushed refl refl h;
      pushed = pushed;
    }
