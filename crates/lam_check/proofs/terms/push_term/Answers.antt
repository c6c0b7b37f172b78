use Rattle.std.proofs.Common.{◌≡◌, ◌-◌, sym, arith}
use Rattle.std.proofs.lemmas.List.{append-nil}
use Rattle.std.proofs.lemmas.Str.{chars-nil}
use Rattle.lam_check.proofs.terms.push_term.Goals as goal

pub returns-then-span : goal.returns-then-span
returns-then-span c =
    let none : c.args.span.end - c.args.span.start ≡ 0 = omega arith in
    rw (none, chars-nil) (sym (append-nil _))
