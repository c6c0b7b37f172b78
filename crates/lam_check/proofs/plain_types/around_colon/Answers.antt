use Rattle.lam_check.proofs.PlainTypes.{label_found}
use Rattle.lam_check.proofs.plain_types.around_colon.Goals as goal

pub returns-clause-around : goal.returns-clause-around
returns-clause-around c = label_found c.args.text.now _ c.split_once.ensures.cases
