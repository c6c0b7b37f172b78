-- What a premise of typing is about, as the checker passes it.
use Rattle.std.specs.Prelude.{◌∷◌}
use Rattle.lam_rules.specs.TermViews.{lent_of, term_of}
use Rattle.lam_rules.specs.Typing.{Context}
use Rattle.lam_rules.specs.TypingSteps.{Subject, about}
use Rattle.lam_rules.specs.declared.parts.Part.{Part}
use Rattle.lam_rules.specs.declared.parts.Part.TheVariants as part

-- the part of a term in its own context, inside this one
abbrev pub subject_in : Context → Part → Subject
subject_in g (part.Plain term) = about g (term_of term.now)
subject_in g (part.Under entry term) = about (lent_of entry ∷ g) (term_of term.now)
