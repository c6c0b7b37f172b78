use Rattle.std.proofs.Common.{refl}
use Rattle.lam_session.proofs.RenamedDocuments.{edits_apply}
use Rattle.lam_session.proofs.laws.rename_edits_apply.Goals as goal

pub returns : goal.returns
returns c = record {
  made = λ encoding text new offset spans is_text renamed. edits_apply encoding text new offset spans is_text renamed;
  told = λ encoding text new span. refl;
}
