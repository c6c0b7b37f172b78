use Rattle.lam_token.proofs.AsciiNames.{letter_is_name}
use Rattle.lam_token.proofs.names.placeholder.Goals as goal

pub token_at-requires-clause-kind : goal.token_at-requires-clause-kind
token_at-requires-clause-kind c = letter_is_name
