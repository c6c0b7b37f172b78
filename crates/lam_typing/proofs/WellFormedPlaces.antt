-- The types that are written in the places of a document and of its binders have distinct labels.
use Rattle.std.proofs.Common.{ℕ, zero, suc, List, [], ◌∷◌, ◌++◌, get_or}
use Rattle.std.specs.List.{AllByRecursion}
use Rattle.lam_rules.specs.Terms.{Term, true_term, false_term, if_then_else, numeral, succ, pred, is_zero, variable, free, lambda, apply, unit_term, ascribe, let_in, record_term, project, fix, TermFields, no_terms, term_field}
use Rattle.lam_rules.specs.Typing.{IsWellFormedEntry}
use Rattle.lam_scope.specs.Places.{written, of_term, Scope, Place, places, field_places, Statement, defines, declares, abbreviates, states, places_of, place_numbered, statement_numbered}
use Rattle.lam_scope.specs.WellFormed.{IsWellFormedTerm, AreWellFormedTerms, IsWellFormedScope, AreWellFormedStatements}
use Rattle.lam_scope.specs.declared.numbers.Origin.{Origin}
use Rattle.lam_scope.specs.declared.numbers.Origin.TheVariants.{Lambda, Term as TermAt, Declaration, TypeName}
use Rattle.lam_scope.proofs.EveryElement.{every_append}
use Rattle.lam_typing.specs.Entries.{entry_from}
use Rattle.lam_scope.specs.Bindings.{lambda_type, declared_type}

-- the types written in the term of a place and in its scope have distinct labels
abbrev pub IsWellFormedPlace : Place → Type 0
IsWellFormedPlace p = IsWellFormedScope p.scope × IsWellFormedTerm p.here

abbrev pub AreWellFormedPlaces : List Place → Type 0
AreWellFormedPlaces = AllByRecursion IsWellFormedPlace

mutual
  places_wf : (s : Scope) (e : Term) → IsWellFormedScope s → IsWellFormedTerm e → AreWellFormedPlaces (places s e)
  places_wf s (if_then_else c a b) ws we =
      every_append IsWellFormedPlace ((places s c ++ places s a) ++ places s b) _
      (every_append IsWellFormedPlace (places s c ++ places s a) (places s b) (every_append IsWellFormedPlace (places s c) (places s a) (places_wf s c ws we.0) (places_wf s a ws we.1)) (places_wf s b ws we.2)) ((ws, we), tt)
  places_wf s (succ e) ws we = every_append IsWellFormedPlace (places s e) _ (places_wf s e ws we) ((ws, we), tt)
  places_wf s (pred e) ws we = every_append IsWellFormedPlace (places s e) _ (places_wf s e ws we) ((ws, we), tt)
  places_wf s (is_zero e) ws we = every_append IsWellFormedPlace (places s e) _ (places_wf s e ws we) ((ws, we), tt)
  places_wf s (lambda w e) ws we = every_append IsWellFormedPlace (places (written w ∷ s) e) _ (places_wf (written w ∷ s) e (we.0, ws) we.1) ((ws, we), tt)
  places_wf s (apply f a) ws we = every_append IsWellFormedPlace (places s f ++ places s a) _ (every_append IsWellFormedPlace (places s f) (places s a) (places_wf s f ws we.0) (places_wf s a ws we.1)) ((ws, we), tt)
  places_wf s (ascribe e w) ws we = every_append IsWellFormedPlace (places s e) _ (places_wf s e ws we.0) ((ws, we), tt)
  places_wf s (let_in a b) ws we =
      every_append IsWellFormedPlace (places s a ++ places (of_term a ∷ s) b) _
      (every_append IsWellFormedPlace (places s a) (places (of_term a ∷ s) b) (places_wf s a ws we.0) (places_wf (of_term a ∷ s) b (we.0, ws) we.1)) ((ws, we), tt)
  places_wf s (record_term es) ws we = every_append IsWellFormedPlace (field_places s es) _ (places_in_wf s es ws we) ((ws, we), tt)
  places_wf s (project e l) ws we = every_append IsWellFormedPlace (places s e) _ (places_wf s e ws we) ((ws, we), tt)
  places_wf s (fix e) ws we = every_append IsWellFormedPlace (places s e) _ (places_wf s e ws we) ((ws, we), tt)
  places_wf s true_term ws we = ((ws, we), tt)
  places_wf s false_term ws we = ((ws, we), tt)
  places_wf s unit_term ws we = ((ws, we), tt)
  places_wf s (numeral digits) ws we = ((ws, we), tt)
  places_wf s (variable n) ws we = ((ws, we), tt)
  places_wf s (free x) ws we = ((ws, we), tt)

  places_in_wf : (s : Scope) (es : TermFields) → IsWellFormedScope s → AreWellFormedTerms es → AreWellFormedPlaces (field_places s es)
  places_in_wf s no_terms ws we = tt
  places_in_wf s (term_field l e es) ws we = every_append IsWellFormedPlace (places s e) (field_places s es) (places_wf s e ws we.0) (places_in_wf s es ws we.1)

pub places_of_wf : (s : Scope) (ss : List Statement) → IsWellFormedScope s → AreWellFormedStatements ss → AreWellFormedPlaces (places_of s ss)
places_of_wf s [] ws wss = tt
places_of_wf s (defines e ∷ rest) ws wss = every_append IsWellFormedPlace (places s e) (places_of (of_term e ∷ s) rest) (places_wf s e ws wss.0) (places_of_wf (of_term e ∷ s) rest (wss.0, ws) wss.1)
places_of_wf s (declares w ∷ rest) ws wss = places_of_wf (written w ∷ s) rest (wss.0, ws) wss.1
places_of_wf s (abbreviates w ∷ rest) ws wss = places_of_wf s rest ws wss.1
places_of_wf s (states e ∷ rest) ws wss = every_append IsWellFormedPlace (places s e) (places_of s rest) (places_wf s e ws wss.0) (places_of_wf s rest ws wss.1)

-- a place by its number
pub wf_at : (ps : List Place) (n : ℕ) → AreWellFormedPlaces ps → IsWellFormedPlace (get_or ps n (record { scope = []; here = unit_term }))
wf_at [] n wf = (tt, tt)
wf_at (p ∷ ps) zero wf = wf.0
wf_at (p ∷ ps) (suc n) wf = wf_at ps n wf.1

-- what is written at a lambda, in a declaration, for a binder

written_wf : (e : Term) → IsWellFormedTerm e → IsWellFormedEntry (lambda_type e)
written_wf (lambda w e) wf = wf.0
written_wf e wf = tt

declared_wf : (ss : List Statement) (i : ℕ) → AreWellFormedStatements ss → IsWellFormedEntry (declared_type (statement_numbered ss i))
declared_wf [] i wf = tt
declared_wf (declares w ∷ ss) zero wf = wf.0
declared_wf (defines e ∷ ss) zero wf = tt
declared_wf (abbreviates w ∷ ss) zero wf = tt
declared_wf (states e ∷ ss) zero wf = tt
declared_wf (s ∷ ss) (suc i) wf = declared_wf ss i wf.1

-- a written entry, without any types found for places
pub entry_wf : (ss : List Statement) (o : Origin) → AreWellFormedStatements ss → IsWellFormedEntry (entry_from ss [] o)
entry_wf ss (Lambda p) wf = written_wf (place_numbered ss p.0).here (wf_at (places_of [] ss) p.0 (places_of_wf [] ss tt wf)).1
entry_wf ss (TermAt p) wf = tt
entry_wf ss (Declaration i) wf = declared_wf ss i wf
entry_wf ss TypeName wf = tt
