use Rattle.lam_query.proofs.RenamedRows.{renamed_text, other_text}
use Rattle.lam_query.proofs.laws.renames_keep_binding.Goals as goal

pub returns : goal.returns
returns c = record {
  renamed = λ text offset new spans is_text is_new. renamed_text text offset new spans is_text is_new;
  changed = λ text offset new is_text is_new. other_text text offset new is_text is_new;
}
