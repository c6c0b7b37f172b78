use Rattle.std.proofs.Common.{sym, ◌∙◌, ap, subst}
use Rattle.lam_token.specs.declared.segment.Segment.TheVariants.{Token}
use Rattle.lam_token.specs.Words.{word_kind}
use Rattle.lam_token.specs.inner.Reading.{SegmentIs}
use Rattle.lam_token.proofs.Reading.{front_behind, cut_behind, take_front}
use Rattle.lam_token.proofs.Segments.{word_segment}
use Rattle.lam_token.proofs.scan.letter_segment.Goals as goal

-- the word may be cut off behind its run
pub split_at-requires : goal.split_at-requires
split_at-requires c = cut_behind _ _ _ (front_behind _ _ _ _ _ c.requires.first c.behind_word-after.ensures.front)

pub returns : goal.returns
returns c =
    let run = c.behind_word-after.ensures in
    let word = c.split_at.ensures.front ∙ take_front _ _ _ (front_behind _ _ _ _ _ c.requires.first run.front) in
    let kind = c.word_kind.ensures ∙ ap (word_kind c.args.first) word in
    subst (λ k. SegmentIs c.args.text.now (Token k) c.behind_word-after.result.now) (sym kind)
    (word_segment _ _ _ _ c.requires.first c.requires.beginning run)
