use Rattle.std.proofs.Common.{◌≡◌, [], length, sym, ap, ◌∙◌}
use Rattle.std.specs.Vec.{vec_len}
use Rattle.std.proofs.lemmas.Bool.{eqb-true, eqb-false}
use Rattle.std.proofs.lemmas.List.{nil_from_length}
use Rattle.lam_query.specs.declared.reading.Reader.{Reader}
use Rattle.lam_query.specs.inner.OnePiece.{IsOwnOf, one_command, no_command}
use Rattle.lam_query.specs.inner.Reading.{own_of}
use Rattle.lam_query.proofs.DividedPieces.{no_tokens_own}
use Rattle.lam_query.proofs.ReadPieces.{IsPieceTold, no_tokens_told, none_more, one_more, all_read, semicolon_read}
use Rattle.lam_query.proofs.reading.Reader.end_piece.Goals as goal
use Rattle.lam_query.proofs.reading.Reader.end_piece.Goals.{in-Command, in-Fault+in_ok-push-in-Fault, in-Spoiled}

pub returns-then-is_empty : goal.returns-then-is_empty
returns-then-is_empty c =
    let self = c.args.self.now in
    let piece = self.piece in
    let none : length piece.items ≡ 0 = sym piece.ok.0 ∙ eqb-true (vec_len piece) 0 (sym c.is_empty.ensures ∙ c.if-is_empty.true) in
    let own = no_tokens_own piece.items none in
    let told = no_tokens_told self none in
    record {
      all = λ front done h. all_read front done [] self self own told h;
      read = λ front done t ends h. semicolon_read front done [] t self self ends own told (nil_from_length piece.items none) h;
      own = own;
      none_left = nil_from_length piece.items none;
    }

pub returns : goal.returns
returns c =
    let before = c.args.self.now in
    let found = c.match-branch-2.found in
    let now : Reader = record c.match-branch-2.self { piece = c.clear.new.self } in
    let ts = before.piece.items in
    let some : length ts ≡ 0 → ⊥ = λ none. eqb-false (vec_len before.piece) 0 (sym c.is_empty.ensures ∙ c.if-is_empty.false) (before.piece.ok.0 ∙ none) in
    let command = rw c.deref.ensures.value at c.in_ok-command.ensures.command in
    let fault = rw c.deref.ensures.value at c.in_ok-command.ensures.fault in
    let own : IsOwnOf ts (own_of found) = elim c.match-branch-2.branch [
      | in-Command w ↦ rw w.found-is (one_command (rw w.in-Command.is at command))
      | in-Fault+in_ok-push-in-Fault w ↦ rw w.found-is (no_command (rw w.in-Fault.is at command))
      | in-Spoiled w ↦ rw w.found-is (no_command (rw w.in-Spoiled.is at command))
    ] in
    let told : IsPieceTold before now = elim c.match-branch-2.branch [
      | in-Command w ↦ none_more before now some (rw w.in-Command.is at fault) (ap (λ r. r.piece_faults) w.self-is) (ap (λ r. r.token_faults) w.self-is)
      | in-Fault+in_ok-push-in-Fault w ↦
          one_more before now w.in-Fault.fault some (rw w.in-Fault.is at fault)
          (ap (λ r. r.piece_faults.items) w.self-is ∙ w.in_ok-push-in-Fault.ensures.items) (ap (λ r. r.token_faults) w.self-is)
      | in-Spoiled w ↦ none_more before now some (rw w.in-Spoiled.is at fault) (ap (λ r. r.piece_faults) w.self-is) (ap (λ r. r.token_faults) w.self-is)
    ] in
    record {
      all = λ front done h. all_read front done (own_of found) before now own told h;
      read = λ front done t ends h. semicolon_read front done (own_of found) t before now ends own told c.clear.ensures.items h;
      own = own;
      none_left = c.clear.ensures.items;
    }
