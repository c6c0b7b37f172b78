-- The note of each subterm: for a lambda the entry of its binder, for a variable that of the binder that it refers to.
use Rattle.std.specs.Prelude.{◌≡◌, ℕ, ◌+◌, List, [], ◌∷◌, ◌++◌, length, Option, Some, None, get_or}
use Rattle.lam_rules.specs.Types.{Typ}
use Rattle.lam_rules.specs.Terms.{Term, true_term, false_term, if_then_else, numeral, succ, pred, is_zero, variable, free, lambda, apply, unit_term, ascribe, let_in, record_term, project, fix, TermFields, no_terms, term_field}
use Rattle.lam_rules.specs.Typing.{Context}
use Rattle.lam_rules.specs.TermViews.{written_of}
use Rattle.lam_scope.specs.Places.{Statement, defines, declares, abbreviates, states}
use Rattle.lam_scope.specs.Sights.{inside, inside_fields, place_of_term, behind_term}
use Rattle.lam_typing.specs.inner.Steps.{entry_at}
use Rattle.lam_typing.specs.declared.noting.Note.{Note}
use Rattle.lam_typing.specs.declared.noting.Note.TheVariants.{Lambda, Variable, Nothing}
use Rattle.lam_typing.specs.declared.noting.Source.{Source}
use Rattle.lam_typing.specs.declared.noting.Source.TheVariants.{Written, Term as TermAt}
use Rattle.lam_typing.specs.declared.noting.Notes.{Notes}
use Rattle.lam_scope.specs.Bindings.{lambda_type}

-- the note of a subterm: for a lambda the written type, for a variable the entry of its binder
pub record Noted : Type 0 where
  pub written : Option Typ
  pub bound : Option Typ

-- the entry of the binder of a variable; none for other terms
abbrev pub bound_in : Context → Term → Option Typ
bound_in g (variable n) = entry_at n g
bound_in g _ = None

-- the note of a term in this context
abbrev pub note : Context → Term → Noted
note g e = record { written = lambda_type e; bound = bound_in g e }

-- the notes of the subterms of a term in this context, given the index k of the first one and the types found for all subterms
abbrev mutual
  pub notes : (k : ℕ) → List (Option Typ) → Context → Term → List Noted
  notes k found g (if_then_else c a b) =
      notes k found g c ++ notes (behind_term k c) found g a ++ notes (behind_term (behind_term k c) a) found g b ++ note g (if_then_else c a b) ∷ []
  notes k found g (succ e) = notes k found g e ++ note g (succ e) ∷ []
  notes k found g (pred e) = notes k found g e ++ note g (pred e) ∷ []
  notes k found g (is_zero e) = notes k found g e ++ note g (is_zero e) ∷ []
  notes k found g (lambda w e) = notes k found (w ∷ g) e ++ note g (lambda w e) ∷ []
  notes k found g (apply f a) = notes k found g f ++ notes (behind_term k f) found g a ++ note g (apply f a) ∷ []
  notes k found g (ascribe e w) = notes k found g e ++ note g (ascribe e w) ∷ []
  notes k found g (let_in a b) = notes k found g a ++ notes (behind_term k a) found (get_or found (place_of_term k a) None ∷ g) b ++ note g (let_in a b) ∷ []
  notes k found g (record_term es) = notes_in k found g es ++ note g (record_term es) ∷ []
  notes k found g (project e l) = notes k found g e ++ note g (project e l) ∷ []
  notes k found g (fix e) = notes k found g e ++ note g (fix e) ∷ []
  notes k found g e = note g e ∷ []

  -- those of the subterms of a record's terms
  pub notes_in : (k : ℕ) → List (Option Typ) → Context → TermFields → List Noted
  notes_in k found g no_terms = []
  notes_in k found g (term_field l e es) = notes k found g e ++ notes_in (behind_term k e) found g es

-- the notes of the subterms of statements in this context
abbrev pub notes_of : (k : ℕ) → List (Option Typ) → Context → List Statement → List Noted
notes_of k found g [] = []
notes_of k found g (defines e ∷ rest) = notes k found g e ++ notes_of (behind_term k e) found (get_or found (place_of_term k e) None ∷ g) rest
notes_of k found g (declares w ∷ rest) = notes_of k found (w ∷ g) rest
notes_of k found g (abbreviates w ∷ rest) = notes_of k found g rest
notes_of k found g (states e ∷ rest) = notes k found g e ++ notes_of (behind_term k e) found g rest

-- the entry from this source, given the types found for the subterms
abbrev pub entry_of_source : List (Option Typ) → Source → Option Typ
entry_of_source found (Written w) = written_of w.now
entry_of_source found (TermAt p) = get_or found p.0 None

-- the entry that a source gives; none if there is no source
abbrev pub entry_told : List (Option Typ) → Option Source → Option Typ
entry_told found None = None
entry_told found (Some source) = entry_of_source found source

-- a context with the entries from these sources pushed onto it one by one, so that the last of them is the innermost
abbrev pub entries_onto : List (Option Typ) → Context → List Source → Context
entries_onto found g [] = g
entries_onto found g (source ∷ sources) = entries_onto found (entry_of_source found source ∷ g) sources

-- the context of just the entries from these sources, given outermost first
abbrev pub context_in : List (Option Typ) → List Source → Context
context_in found sources = entries_onto found [] sources

-- what a note says, given the types found for the subterms
abbrev pub noted_as : List (Option Typ) → Note → Noted
noted_as found (Lambda w) = record { written = written_of w.now; bound = None }
noted_as found (Variable source) = record { written = None; bound = entry_of_source found source }
noted_as found Nothing = record { written = None; bound = None }

-- what notes say, one by one
abbrev pub noted_by : List (Option Typ) → List Note → List Noted
noted_by found [] = []
noted_by found (n ∷ ns) = noted_as found n ∷ noted_by found ns

-- a note refers to the entry at a de Bruijn index
abbrev pub IsEntryAt : Note → ℕ → List Source → Type 0
IsEntryAt n index sources = (found : List (Option Typ)) → noted_as found n ≡ record { written = None; bound = entry_at index (context_in found sources) }

-- these notes were appended, this many, with the same binders in scope as before
pub record NotesMore (before after : Notes) (more : List (Option Typ) → List Noted) (count : ℕ) : Type 0 where
  pub sources : after.sources.items ≡ before.sources.items
  pub noted : (found : List (Option Typ)) → noted_by found after.noted.items ≡ noted_by found before.noted.items ++ more found
  pub behind : length after.noted.items ≡ length before.noted.items + count

-- the notes of a term were appended, the last of them at this index
pub record NotesTerm (before after : Notes) (e : Term) (place : ℕ) : Type 0 where
  pub more : NotesMore before after (λ found. notes (length before.noted.items) found (context_in found before.sources.items) e) (inside e + 1)
  pub place_is : place ≡ place_of_term (length before.noted.items) e

-- the notes of the terms of a record were appended
abbrev pub NotesFields : Notes → Notes → TermFields → Type 0
NotesFields before after es = NotesMore before after (λ found. notes_in (length before.noted.items) found (context_in found before.sources.items) es) (inside_fields es)

-- this note was appended
pub record NotesOne (before after : Notes) (own : Note) (place : ℕ) : Type 0 where
  pub sources : after.sources.items ≡ before.sources.items
  pub noted : after.noted.items ≡ before.noted.items ++ own ∷ []
  pub place_is : place ≡ length before.noted.items

-- a term without parts that is not a variable
abbrev pub IsLeaf : Term → Type 0
IsLeaf true_term = Unit {0}
IsLeaf false_term = Unit {0}
IsLeaf (numeral digits) = Unit {0}
IsLeaf (free name) = Unit {0}
IsLeaf unit_term = Unit {0}
IsLeaf _ = ⊥

-- the first term has one part, which is the second, and binds nothing around it
abbrev pub IsOver : Term → Term → Type 0
IsOver (succ e) operand = e ≡ operand
IsOver (pred e) operand = e ≡ operand
IsOver (is_zero e) operand = e ≡ operand
IsOver (ascribe e w) operand = e ≡ operand
IsOver (project e l) operand = e ≡ operand
IsOver (fix e) operand = e ≡ operand
IsOver _ operand = ⊥

-- A statement is done: with the notes of the statements after it appended, the notes are those of all.
abbrev pub NotesStatement : Notes → Notes → Statement → Type 0
NotesStatement before after statement =
    (found : List (Option Typ)) (rest : List Statement)
    → noted_by found after.noted.items ++ notes_of (length after.noted.items) found (context_in found after.sources.items) rest
    ≡ noted_by found before.noted.items ++ notes_of (length before.noted.items) found (context_in found before.sources.items) (statement ∷ rest)

-- these are the notes of a document
abbrev pub NotesDocument : List Note → List Statement → Type 0
NotesDocument ns statements = (found : List (Option Typ)) → noted_by found ns ≡ notes_of 0 found [] statements
