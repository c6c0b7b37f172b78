use Rattle.lam_token.specs.Lexeme.{end_of}
use Rattle.lam_token.proofs.SomeCut.{tokens_at, are_tokens_at}
use Rattle.lam_query.proofs.binders.first_word.Goals as goal

pub returns-clause-some : goal.returns-clause-some
returns-clause-some c =
    let token = c.in_ok-token.token in
    let after = c.in_ok-token.field-0-1.now in
    let others = tokens_at (end_of token) after in
    (token, others, c.in_ok-token.ensures.first others (are_tokens_at (end_of token) after), c.text.ensures.text)
