use Rattle.std.proofs.Common.{length, sym, ◌∙◌, arith}
use Rattle.std.proofs.lemmas.List.{drop_all}
use Rattle.lam_text.proofs.Scan.{index_of-marks_from}
use Rattle.lam_text.proofs.index.index_of.Goals as goal

pub returns : goal.returns
returns c =
    let found = rw (drop_all (length c.args.text.now) c.args.text.now (omega arith), c.new-marks.ensures.items) at (c.in_ok-last.ensures {u = tt}) in
    (c.in_ok-push.ensures {u = tt}).items ∙ (found ∙ sym (index_of-marks_from c.args.text.now))
