use Rattle.std.proofs.Common.{ap, refl}
use Rattle.lam_rules.specs.TermViews.{term_of, written_of}
use Rattle.lam_scope.specs.Views.{statement_of}
use Rattle.lam_typing.specs.declared.noting.Source.TheVariants.{Written}
use Rattle.lam_typing.proofs.NotedParts.{stated_done, defined_done, declared_done}
use Rattle.lam_typing.proofs.noting.note_statement.Goals as goal

pub returns-in_ok-push-in-Definition : goal.returns-in_ok-push-in-Definition
returns-in_ok-push-in-Definition c = rw (ap statement_of c.in-Definition.is)
    (defined_done c.args.notes.now c.note_term.new.notes c.push.new.self (term_of c.in-Definition.core) c.in_ok-place-in-Definition.place c.in_ok-place-in-Definition.ensures c.in_ok-push-in-Definition.ensures.items)

pub returns-in_ok-push-in-Declaration : goal.returns-in_ok-push-in-Declaration
returns-in_ok-push-in-Declaration c = rw (ap statement_of c.in-Declaration.is)
    (declared_done c.args.notes.now c.push-in-Declaration.new.self (Written _) (written_of c.in-Declaration.written) (λ found. refl) c.in_ok-push-in-Declaration.ensures.items)

pub returns-in-Abbreviation : goal.returns-in-Abbreviation
returns-in-Abbreviation c = rw (ap statement_of c.in-Abbreviation.is) (λ found rest. refl)

pub returns-in_ok-note_term-in-Evaluation : goal.returns-in_ok-note_term-in-Evaluation
returns-in_ok-note_term-in-Evaluation c = rw (ap statement_of c.in-Evaluation.is)
    (stated_done c.args.notes.now c.note_term-in-Evaluation.new.notes (term_of c.in-Evaluation.core) _ c.in_ok-note_term-in-Evaluation.ensures)
