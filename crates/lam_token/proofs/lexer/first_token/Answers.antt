use Rattle.std.proofs.Common.{◌≡◌, ℕ, ◌+◌, ◌-◌, List, length, ◌∙◌, ap, arith}
use Rattle.std.specs.Prelude.{encode_utf8_all}
use Rattle.lam_token.specs.Lexeme.{end_of}
use Rattle.lam_token.proofs.Reading.{cut_behind, take_front, length_front}
use Rattle.lam_token.proofs.Cuts.{stands_further, rest_of_text, segment_alone, skip_more, token_first, none_left, segment_shorter}
use Rattle.lam_token.proofs.lexer.first_token.Goals as goal

pub split_at-requires : goal.split_at-requires
split_at-requires c = cut_behind _ _ _ c.in-Some.ensures.front

pub token_at-requires-clause-kind : goal.token_at-requires-clause-kind
token_at-requires-clause-kind c =
    segment_alone _ _ _ _ _ c.loop-segment.invariant.is_text c.in-Some.ensures c.in-Token.is (c.split_at.ensures.front ∙ take_front _ _ _ c.in-Some.ensures.front)

pub loop-segment-smaller : goal.loop-segment-smaller
loop-segment-smaller c = segment_shorter _ _ _ c.in-Some.ensures

pub loop-segment-preserved : goal.loop-segment-preserved
loop-segment-preserved c =
    let read = c.in-Some.ensures in
    let whole = length_front _ _ _ read.front in
    let next : c.loop-segment.offset + (length c.loop-segment.rest.now - length c.in-Some.after.now) ≡ c.loop-segment.offset + length (encode_utf8_all read.segment) =
    omega (arith, whole) in
    record {
      is_text = read.front.is_text;
      place = omega (arith, whole, c.loop-segment.invariant.place);
      stands = stands_further _ _ _ _ _ _ _ read next c.loop-segment.invariant.stands;
      skips = skip_more _ _ _ _ _ _ _ read c.in_default-segment.not-Token next c.loop-segment.invariant.skips;
    }

pub returns-in-Token-clause-first : goal.returns-in-Token-clause-first
returns-in-Token-clause-first c others are =
    token_first _ _ _ _ _ _ _ _ _ _ c.in-Some.ensures c.in-Token.is (c.split_at.ensures.front ∙ take_front _ _ _ c.in-Some.ensures.front) c.token_at.ensures c.loop-segment.invariant.skips are

pub returns-in-Token-clause-rest : goal.returns-in-Token-clause-rest
returns-in-Token-clause-rest c =
    let front = c.split_at.ensures.front ∙ take_front _ _ _ c.in-Some.ensures.front in
    let end = ap end_of c.token_at.ensures ∙ ap (λ (l : List ℕ). c.loop-segment.offset + length l) front in
    rest_of_text _ _ _ _ (stands_further _ _ _ _ _ _ _ c.in-Some.ensures end c.loop-segment.invariant.stands)

pub returns-in-Token-clause-shorter : goal.returns-in-Token-clause-shorter
returns-in-Token-clause-shorter c =
    omega (arith, segment_shorter _ _ _ c.in-Some.ensures, c.loop-segment.invariant.place, c.loop-segment.invariant.stands.at)

pub returns-clause-none : goal.returns-clause-none
returns-clause-none c = none_left _ _ _ _ c.in_default.ensures c.loop-segment.invariant.skips
