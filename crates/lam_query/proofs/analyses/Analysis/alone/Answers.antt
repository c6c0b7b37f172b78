use Rattle.std.proofs.Common.{subst}
use Rattle.std.proofs.lemmas.Result.{IfOk-weaker}
use Rattle.lam_typing.specs.Checking.{types_in}
use Rattle.lam_query.proofs.MeaningsBehind.{AreBehind, entries_stand}
use Rattle.lam_query.proofs.analyses.Analysis.alone.Goals as goal

pub alone_by-requires : goal.alone_by-requires
alone_by-requires c =
    let a = c.args.self.now in
    let e = c.in_ok-entries.entries in
    entries_stand c.requires.of.0 a c.args.number e c.requires.of.1 (subst (AreBehind a.bound e c.args.number) c.deref.ensures.value c.in_ok-entries.ensures.meanings)

pub returns : goal.returns
returns c =
    let a = c.args.self.now in
    let e = c.in_ok-entries.entries in
    let behind = subst (AreBehind a.bound e c.args.number) c.deref.ensures.value c.in_ok-entries.ensures.meanings in
    IfOk-weaker c.alone_by.result _ _ (λ alone is pieces s are. is s (behind pieces s (types_in a.types) a.dialect are)) c.alone_by.ensures
