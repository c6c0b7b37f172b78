use Rattle.std.proofs.Common.{length, map, subst, sym, ◌∙◌, arith}
use Rattle.std.proofs.lemmas.Bool.{eqb-true}
use Rattle.std.proofs.lemmas.Result.{on_ok_weaker}
use Rattle.lam_token.specs.declared.span.Span.{Span}
use Rattle.lam_syntax.specs.Views.{command_of}
use Rattle.lam_scope.specs.Views.{AreScopesOf}
use Rattle.lam_query.specs.Sizes.{IsSizeFault}
use Rattle.lam_query.specs.Views.{explained_of}
use Rattle.lam_query.specs.inner.Typings.{AreTypesOf}
use Rattle.lam_query.proofs.ExplainedPieces.{empty_list, no_faults, no_command, no_types, all_added, blamed_there}
use Rattle.lam_query.proofs.PieceAround.{piece_inside}
use Rattle.lam_query.proofs.analyses.Analysis.push_faults_of.Goals as goal

pub index-requires : goal.index-requires
index-requires c = omega (arith, c.requires.there.2.here.inside, c.args.self.now.rows.ok.0)

pub returns-then-is_empty : goal.returns-then-is_empty
returns-then-is_empty c =
    let none = eqb-true (length c.faults-faults.result.now) 0 (sym c.is_empty.ensures ∙ c.if-is_empty.true) in
    no_faults c.args.self.now c.args.piece c.args.entries.now c.index.result.now _ c.index.ensures c.faults-faults.result.now c.faults-faults.ensures c.requires.small
    _ (empty_list c.faults-faults.result.now none)

pub command_in-requires : goal.command_in-requires
command_in-requires c =
    let there = c.requires.there in
    omega (arith, piece_inside there.0 c.args.self.now there.2.offset c.args.piece there.2.here, there.2.fits)

pub returns-in_default : goal.returns-in_default
returns-in_default c =
    no_command c.args.self.now c.args.piece c.args.entries.now c.index.result.now _ c.index.ensures c.faults-faults.result.now c.faults-faults.ensures c.requires.small
    c.in_ok-command.field-0 c.in_ok-command.ensures _ c.in_default.is

pub alone_by-requires : goal.alone_by-requires
alone_by-requires c = c.requires.there.2.are.stand

pub returns-in_default-2 : goal.returns-in_default-2
returns-in_default-2 c =
    let none = rw c.in_default-2.is at c.in_ok-types.ensures.none in
    no_types c.args.self.now c.args.piece c.args.entries.now c.index.result.now _ c.index.ensures c.faults-faults.result.now c.faults-faults.ensures c.requires.small
    c.in_ok-command.field-0 c.in_ok-command.ensures c.in-Some.command c.in-Some.is c.in_ok-alone.alone c.in_ok-alone.ensures _
    (subst (λ cs. (s : Span) × IsSizeFault (map command_of cs) s c.args.self.now.dialect) c.deref-2.ensures.value none)

pub push_blames-requires : goal.push_blames-requires
push_blames-requires c =
    let scopes = c.in_ok-scopes.scopes in
    let types = c.in-Some-2.types in
    let d = c.args.self.now.dialect in
    let some = rw c.in-Some-2.is at c.in_ok-types.ensures.some in
    blamed_there scopes types (map command_of c.in_ok-alone.alone.commands.items) d
    (subst (λ cs. AreScopesOf scopes (map command_of cs)) c.deref.ensures.value c.in_ok-scopes.ensures)
    (subst (λ cs. AreTypesOf (map command_of cs) types d) c.deref-2.ensures.value some)
    c.blamed-blames.result.now c.blamed-blames.ensures

pub returns : goal.returns
returns c =
    let scopes = c.in_ok-scopes.scopes in
    let types = c.in-Some-2.types in
    let d = c.args.self.now.dialect in
    let some = rw c.in-Some-2.is at c.in_ok-types.ensures.some in
    on_ok_weaker c.push_blames.result
    (λ told. all_added c.args.self.now c.args.piece c.args.entries.now c.index.result.now _ c.index.ensures c.faults-faults.result.now c.faults-faults.ensures c.requires.small
    c.in_ok-command.field-0 c.in_ok-command.ensures c.in-Some.command c.in-Some.is c.in_ok-alone.alone c.in_ok-alone.ensures scopes types
    (subst (λ cs. AreScopesOf scopes (map command_of cs)) c.deref.ensures.value c.in_ok-scopes.ensures)
    (subst (λ cs. AreTypesOf (map command_of cs) types d) c.deref-2.ensures.value some)
    c.blamed-blames.result.now c.blamed-blames.ensures _ c.saturating_sub-written.ensures
    (map explained_of c.args.all.now.items) (map explained_of c.push_unexplained.new.all.items) (map explained_of c.push_blames.new.all.items)
    c.in_ok-push_unexplained.ensures told)
    c.push_blames.ensures
