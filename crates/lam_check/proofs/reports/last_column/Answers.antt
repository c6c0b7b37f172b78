use Rattle.std.proofs.Common.{◌≡◌, length, arith}
use Rattle.std.specs.Str.{chars}
use Rattle.std.proofs.lemmas.Iterator.{YieldsList-from_chars}
use Rattle.std.proofs.lemmas.Iterator.Consumers.{count_from_yields_List}
use Rattle.std.proofs.lemmas.Bool.Decides.{nat_tests}
use Rattle.lam_check.proofs.reports.last_column.Goals as goal

pub returns : goal.returns
returns c =
    let all : c.count.result ≡ length (chars c.args.line.now) = count_from_yields_List c.chars.result _ c.count.ensures.ran (YieldsList-from_chars c.args.line.now c.utf8.line cc) in
    grind (arith, nat_tests, all)
