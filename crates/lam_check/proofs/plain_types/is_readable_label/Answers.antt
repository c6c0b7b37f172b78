use Rattle.std.proofs.Common.{sym, ◌∙◌, arith, true≢false}
use Rattle.std.proofs.lemmas.Bool.Decides.{Decides-not}
use Rattle.std.proofs.lemmas.Str.Pattern.{contains_char, starts_char}
use Rattle.lam_check.proofs.PlainTypes.{readable_label}
use Rattle.lam_check.proofs.plain_types.is_readable_label.Goals as goal

pub returns-then-contains : goal.returns-then-contains
returns-then-contains c =
    let colon = (contains_char 58 c.args.label.now c.contains.result c.contains.ensures.cases (omega arith)).0 c.if-contains.true in
    ((λ e. absurd (true≢false (sym e))), (λ readable. absurd (readable.no_colon colon.0 0 colon.1 colon.2)))

pub returns : goal.returns
returns c =
    let colon = (contains_char 58 c.args.label.now c.contains.result c.contains.ensures.cases (omega arith)).1 in
    let brace = Decides-not c.starts_with.result (starts_char 125 c.args.label.now c.starts_with.result c.starts_with.ensures.cases (omega arith) (omega arith)) in
    let label = readable_label c.args.label.now (λ k inside is. true≢false (sym (colon k inside is) ∙ c.if-contains.false)) in
    ((λ e. label.0 (brace.0 e)), (λ readable. brace.1 (label.1 readable)))
