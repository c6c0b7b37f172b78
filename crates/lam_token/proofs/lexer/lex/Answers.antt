use Rattle.lam_token.proofs.Cuts.{goes_no_further, one_list, tokens_slices, tokens_stand, tokens_ascend}
use Rattle.lam_token.proofs.lexer.lex.Goals as goal

pub returns-clause-tokens : goal.returns-clause-tokens
returns-clause-tokens c = goes_no_further _ _ _ _ c.in_default.ensures.none c.loop-token.invariant.goes_on

pub returns-clause-only : goal.returns-clause-only
returns-clause-only c others are = one_list _ _ _ (goes_no_further _ _ _ _ c.in_default.ensures.none c.loop-token.invariant.goes_on) are

pub returns-clause-slices : goal.returns-clause-slices
returns-clause-slices c = tokens_slices _ _ c.utf8.text (goes_no_further _ _ _ _ c.in_default.ensures.none c.loop-token.invariant.goes_on)

pub returns-clause-whole_characters : goal.returns-clause-whole_characters
returns-clause-whole_characters c = tokens_stand _ _ c.utf8.text (goes_no_further _ _ _ _ c.in_default.ensures.none c.loop-token.invariant.goes_on)

pub returns-clause-ascend : goal.returns-clause-ascend
returns-clause-ascend c = tokens_ascend _ _ (goes_no_further _ _ _ _ c.in_default.ensures.none c.loop-token.invariant.goes_on)
