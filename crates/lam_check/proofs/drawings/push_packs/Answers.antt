use Rattle.std.proofs.Common.{◌++◌, string_bytes, ap, sym, ◌∙◌}
use Rattle.std.proofs.lemmas.List.{append_assoc}
use Rattle.std.specs.List.{repeat}
use Rattle.lam_check.specs.Drawings.{pack_text}
use Rattle.lam_check.proofs.Writing.{repeat_more}
use Rattle.lam_check.proofs.drawings.push_packs.Goals as goal

pub loop-i-preserved : goal.loop-i-preserved
loop-i-preserved c =
    c.in_ok-push_str.ensures.bytes
    ∙ ap (λ text. string_bytes c.loop-i.out ++ text) c.text.ensures
    ∙ ap (λ text. text ++ pack_text) c.loop-i.invariant
    ∙ append_assoc (string_bytes c.args.out.now) (repeat c.loop-i.i pack_text) pack_text
    ∙ ap (λ text. string_bytes c.args.out.now ++ text) (sym (repeat_more c.loop-i.i pack_text))
