use Rattle.lam_query.specs.SyntaxFaults.{spoiled, a_command}
use Rattle.lam_query.proofs.FaultLists.{long_fault, wrong_fault, early_fault}
use Rattle.lam_query.proofs.reading.read_piece.Goals as goal

pub returns-in-Ok-clause-fault : goal.returns-in-Ok-clause-fault
returns-in-Ok-clause-fault c = a_command c.in-Ok.ensures.taken c.in-Ok.ensures.spelled

pub returns-in-Err-TooManyTokens-clause-fault : goal.returns-in-Err-TooManyTokens-clause-fault
returns-in-Err-TooManyTokens-clause-fault c =
    let over = rw c.in-Err-TooManyTokens.field-0-is at c.in-Err-TooManyTokens.ensures.fault in
    long_fault _ _ _ _ _ over c.index-piece-0.is c.index-piece-piece.is c.span-first.ensures c.span-last.ensures

pub returns-in-Err-BadToken-clause-fault : goal.returns-in-Err-BadToken-clause-fault
returns-in-Err-BadToken-clause-fault c =
    let bad = rw c.in-Err-BadToken.field-0-is at c.in-Err-BadToken.ensures.fault in
    spoiled bad.0 bad.1

pub returns-in-Err-WrongToken-clause-fault : goal.returns-in-Err-WrongToken-clause-fault
returns-in-Err-WrongToken-clause-fault c =
    let wrong = rw c.in-Err-WrongToken.field-0-is at c.in-Err-WrongToken.ensures.fault in
    wrong_fault _ _ _ _ wrong.0 wrong.1 c.index-piece-k.is c.span.ensures

pub returns-in-Err-WrongEnd-clause-fault : goal.returns-in-Err-WrongEnd-clause-fault
returns-in-Err-WrongEnd-clause-fault c =
    let early = rw c.in-Err-WrongEnd.field-0-is at c.in-Err-WrongEnd.ensures.fault in
    early_fault _ _ _ c.requires early.0 early.1 c.index-piece-piece.is c.span-last.ensures
