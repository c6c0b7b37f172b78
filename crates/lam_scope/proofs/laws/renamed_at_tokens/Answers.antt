use Rattle.lam_scope.proofs.TokenRenames.{tokens_renamed}
use Rattle.lam_scope.proofs.laws.renamed_at_tokens.Goals as goal

pub returns : goal.returns
returns c = tokens_renamed
