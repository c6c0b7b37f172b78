use Rattle.std.proofs.Common.{◌≡◌, ap, sym, ◌∙◌, true≢false}
use Rattle.lam_rules.specs.Texts.{plain_text}
use Rattle.lam_check.proofs.PlainTypes.{no_type, the_type}
use Rattle.lam_query.proofs.Verifying.{other_texts}
use Rattle.lam_check.proofs.plain_types.type_of_text.Goals as goal

pub returns-in_default-clause-none : goal.returns-in_default-clause-none
returns-in_default-clause-none c = no_type c.args.text.now c.in_ok-ty.field-0 c.in_ok-ty.ensures.read c.in_default.is

pub returns-then-not-is_readable-clause-none : goal.returns-then-not-is_readable-clause-none
returns-then-not-is_readable-clause-none c = λ t readable is.
    let type = the_type c.args.text.now c.in_ok-ty.field-0 c.in_ok-ty.ensures.read (c.in-Some.ty, c.in-Some.field-0-1) c.in-Some.is t readable is in
    let sound = c.is_readable.ensures.1 (rw type (readable.labels, readable.not_deep)) in
    true≢false (sym sound ∙ c.if-not-is_readable.true)

pub returns-then-ne-clause-none : goal.returns-then-ne-clause-none
returns-then-ne-clause-none c = λ t readable is.
    let type = the_type c.args.text.now c.in_ok-ty.field-0 c.in_ok-ty.ensures.read (c.in-Some.ty, c.in-Some.field-0-1) c.in-Some.is t readable is in
    let same : c.as_str.result.now ≡ c.args.text.now = c.as_str.ensures.value ∙ c.in_ok-again.ensures ∙ ap plain_text type ∙ sym is in
    other_texts c.as_str.result.now c.args.text.now c.if-ne.ensures same
