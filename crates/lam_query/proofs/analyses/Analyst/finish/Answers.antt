use Rattle.std.proofs.Common.{◌<◌, ◌^◌, length, arith, refl, sym, ◌∙◌}
use Rattle.lam_query.proofs.Analysts.{all_read}
use Rattle.lam_query.proofs.SpansInText.{read_bytes_fit, read_large_fits, read_syntax_fits, read_types_fit}
use Rattle.lam_query.proofs.analyses.Analyst.finish.Goals as goal

pub collect_faults-requires : goal.collect_faults-requires
collect_faults-requires c =
    let text = c.args.text.now in
    let short : length text < 2 ^ 64 = omega arith in
    rw c.deref.ensures.value (read_bytes_fit text c.args.self c.utf8.text short c.requires.read)

pub returns-clause-of : goal.returns-clause-of
returns-clause-of c =
    let text = c.args.text.now in
    let a = c.args.self in
    let short : length text < 2 ^ 64 = omega arith in
    let told = rw c.deref.ensures.value at c.in_ok-row_faults.ensures in
    let large = told.large (read_large_fits text a c.utf8.text short c.requires.read) in
    all_read text a _ c.utf8.text c.requires.read c.requires.sound refl refl refl (sym c.requires.dialect)
    large
    (told.syntax (read_syntax_fits text a c.utf8.text short c.requires.read))
    (λ none. told.types (read_types_fit text a c.utf8.text short c.requires.read (sym large ∙ none)))
