use Rattle.std.proofs.Common.{map, ap, subst}
use Rattle.lam_syntax.specs.Views.{command_of}
use Rattle.lam_scope.specs.Views.{AreScopesOf}
use Rattle.lam_typing.specs.Typings.{found_of}
use Rattle.lam_query.specs.Views.{derivation_of}
use Rattle.lam_query.specs.Sizes.{IsSizeFault}
use Rattle.lam_query.specs.inner.Typings.{AreTypesOf}
use Rattle.lam_query.proofs.Small.{is_small}
use Rattle.lam_query.proofs.Results.{result_in_text, result_too_large}
use Rattle.lam_query.proofs.Verifying.{commands_read, if_ok}
use Rattle.lam_query.proofs.verify.fault_in_text.Goals as goal

pub returns-in_default : goal.returns-in_default
returns-in_default c =
    let x = derivation_of c.args.derivation.now in
    let large = rw c.in_default.is at c.in_ok-types.ensures.none in
    let fault = subst (λ cs. IsSizeFault cs large.0 c.args.dialect) (ap (map command_of) c.deref-2.ensures.value) large.1 in
    result_too_large c.args.text.now x (map command_of c.in_ok-parsed.parsed.commands.items) c.args.dialect large.0 c.requires (commands_read c.args.text.now c.in_ok-parsed.parsed c.in_ok-parsed.ensures) fault

pub returns : goal.returns
returns c =
    let cs = map command_of c.in_ok-parsed.parsed.commands.items in
    let x = derivation_of c.args.derivation.now in
    let d = c.args.dialect in
    let scopes = subst (AreScopesOf c.in_ok-scopes.scopes) (ap (map command_of) c.deref.ensures.value) c.in_ok-scopes.ensures in
    let found = rw c.in-Some.is at c.in_ok-types.ensures.some in
    let types = subst (λ ds. AreTypesOf ds c.in-Some.types d) (ap (map command_of) c.deref-2.ensures.value) found in
    if_ok c.fault_of.result
    (λ fault h. result_in_text c.args.text.now x cs d fault c.requires (commands_read c.args.text.now c.in_ok-parsed.parsed c.in_ok-parsed.ensures) (is_small cs (found_of c.in-Some.types.typing) d types.none_too_large types.typed.least types.typed.small)
    (h cs (record { are_scopes = scopes; are_types = types })))
    c.fault_of.ensures
