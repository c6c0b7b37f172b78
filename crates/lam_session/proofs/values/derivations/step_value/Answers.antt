use Rattle.lam_session.proofs.values.derivations.step_value.Goals as goal

pub returns-in-Sub : goal.returns-in-Sub
returns-in-Sub c = rw c.in-Sub.is (rw c.deref-in-Sub.ensures.value at (c.subtyping_value.ensures c.args.doc.now.encoding c.args.doc.now.text))
