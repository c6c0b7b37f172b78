-- What `Grounds` hold. For private contracts only.
use Rattle.std.specs.Prelude.{◌≡◌, List, [], Option}
use Rattle.lam_rules.specs.Types.{Typ}
use Rattle.lam_rules.specs.declared.rules.Dialect.{Dialect}
use Rattle.lam_scope.specs.Views.{statements_of}
use Rattle.lam_scope.specs.declared.resolved.Resolved.{Resolved}
use Rattle.lam_typing.specs.inner.Notes.{Noted, noted_by, notes_of}
use Rattle.lam_typing.specs.Typings.{found_of, dialect_of, IsTypingOf}
use Rattle.lam_typing.specs.declared.typing.Typing.{Typing}
use Rattle.lam_typing.specs.declared.grounds.Grounds.{Grounds}

-- the types found for the subterms, in order
abbrev pub found_in : Grounds → List (Option Typ)
found_in g = found_of g.typing.now

-- the dialect that they were found in
abbrev pub dialect_in : Grounds → Dialect
dialect_in g = dialect_of g.typing.now

-- the note of each subterm, in order
abbrev pub noted_in : Grounds → List Noted
noted_in g = noted_by (found_in g) g.noted.items

-- the typing is one of the document, and the notes are those of all its subterms
pub record AreGrounds (g : Grounds) : Type 0 where
  pub typing : IsTypingOf (statements_of g.resolved.now) g.typing.now
  pub noted : noted_in g ≡ notes_of 0 (found_in g) [] (statements_of g.resolved.now)

-- these are grounds of this document and this typing
pub record AreGroundsOf (document : Resolved) (t : Typing) (g : Grounds) : Type 0 where
  pub are : AreGrounds g
  pub resolved : g.resolved.now ≡ document
  pub typing : g.typing.now ≡ t
