use Rattle.lam_frame.proofs.Writing.{header_written}
use Rattle.lam_frame.proofs.writer.write_header.Goals as goal

pub returns-clause-text : goal.returns-clause-text
returns-clause-text c =
    let d = c.write_digits-digits.ensures in
    header_written c.args.room.now c.write_digits-digits.new.room _ _ c.args.length c.write_digits-digits.result c.told-room c.write_digits-digits.array_long d.low d.high
    c.copy_from_slice.ensures.after c.copy_from_slice-2.ensures.after d.text
