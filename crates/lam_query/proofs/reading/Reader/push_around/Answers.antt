use Rattle.std.proofs.Common.{◌≡◌, sym, ap, ◌∙◌}
use Rattle.lam_query.proofs.ReadAround.{front_held, other_held, with_name, name_pushed, name_there, behind_held}
use Rattle.lam_query.proofs.reading.Reader.push_around.Goals as goal
use Rattle.lam_query.proofs.reading.Reader.push_around.Goals.{then-not-taken+in_ok-push-2, else-not-taken}

pub returns-then-is_in_front : goal.returns-then-is_in_front
returns-then-is_in_front c all left low high stands h =
    front_held all left _ _ _ _ low high _ c.args.token (sym c.is_in_front.ensures ∙ c.if-is_in_front.true) c.in_ok-push.ensures.pushed stands h

pub returns-then-not-is_behind : goal.returns-then-not-is_behind
returns-then-not-is_behind c all left low high stands h =
    other_held all left _ _ _ _ c.args.token (sym c.is_in_front.ensures ∙ c.if-is_in_front.false) (sym c.is_behind.ensures ∙ c.if-not-is_behind.true) h

pub returns : goal.returns
returns c all left low high stands h =
    let held = c.args.self.now.piece.items in
    let names : c.if-not-taken.self.piece.items ≡ with_name c.args.taken c.args.dot held =
    elim c.if-not-taken.branch [
      | then-not-taken+in_ok-push-2 w ↦ ap (λ reader. reader.piece.items) w.self-is
          ∙ name_pushed c.args.taken c.args.dot held _ _ w.if-not-taken.true w.placeholder.ensures w.in_ok-push-2.ensures.pushed
      | else-not-taken w ↦ ap (λ reader. reader.piece.items) w.self-is ∙ name_there c.args.taken c.args.dot held w.if-not-taken.false
    ] in
    behind_held all left held c.if-not-taken.self.piece.items _ _ _ low high c.args.taken c.args.token (sym c.is_behind.ensures ∙ c.if-not-is_behind.false) names
    c.in_ok-push-3.ensures.pushed stands h
