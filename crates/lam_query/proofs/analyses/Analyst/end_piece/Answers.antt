use Rattle.std.proofs.Common.{refl}
use Rattle.lam_query.specs.inner.Reading.{own_of}
use Rattle.lam_query.proofs.Analysts.{faults_taken, none_left_of, row_kept}
use Rattle.lam_query.proofs.ReadPieces.{nothing_read}
use Rattle.lam_query.proofs.analyses.Analyst.end_piece.Goals as goal

pub returns-clause-read : goal.returns-clause-read
returns-clause-read c =
    let own = own_of c.in_ok-command.command in
    let told = c.in_ok-command.ensures in
    let by = c.in_ok-command-2.ensures.kept in
    let taken = c.in_ok-syntax.ensures in
    let none_left = none_left_of c.end_piece.new.self c.keep.new.self.reader c.take_faults.new.self told.none_left by.reader c.take_faults.ensures.piece in
    row_kept c.args.self.now c.keep.new.self _ c.end_piece.new.self own
    (record { end = c.args.bytes; syntax = c.in_ok-syntax.syntax; command = c.in_ok-command-2.command }) told.own
    (faults_taken c.args.self.now.reader c.end_piece.new.self c.keep.new.self.reader own c.in_ok-syntax.syntax.items told.all by.reader taken.faults)
    by refl refl c.in_ok-push.ensures.items refl
    (nothing_read c.take_faults.new.self none_left taken.none_left.1 taken.none_left.0) none_left
