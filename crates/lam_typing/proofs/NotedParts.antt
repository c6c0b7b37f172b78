-- How the notes of the parts of a term go together, and those of statements.
use Rattle.std.proofs.Common.{◌≡◌, ℕ, ◌+◌, ◌-◌, ◌<◌, ◌≤◌, List, [], ◌∷◌, ◌++◌, length, map, drop, take, get_or, Vec, Option, None, ap, refl, sym, subst, ◌∙◌, arith, append_assoc, suc, zero}
use Rattle.std.proofs.lemmas.List.{append-nil, length-append}
use Rattle.std.specs.declared.alloc.Global.{Global}
use Rattle.lam_rules.specs.Types.{Typ}
use Rattle.lam_rules.specs.Terms.{Term, true_term, false_term, if_then_else, numeral, succ, pred, is_zero, variable, free, lambda, apply, unit_term, ascribe, let_in, record_term, project, fix, TermFields, term_field}
use Rattle.lam_rules.specs.Typing.{Context}
use Rattle.lam_scope.specs.Places.{Statement, defines, declares, states}
use Rattle.lam_scope.specs.Sights.{inside, inside_fields, place_of_term, behind_term}
use Rattle.lam_scope.specs.Views.{statement_of}
use Rattle.lam_scope.specs.declared.numbers.Place.{Place}
use Rattle.lam_scope.specs.declared.statement.Statement.{Statement as RustStatement}
use Rattle.lam_scope.proofs.Resolving.{statements-drop}
use Rattle.lam_typing.specs.inner.Notes.{Noted, note, notes, notes_in, notes_of, entry_of_source, entries_onto, context_in, noted_as, noted_by, NotesMore, NotesTerm, NotesFields, NotesOne, NotesStatement, IsLeaf, IsOver}
use Rattle.lam_typing.specs.inner.Seeing.{note_among}
use Rattle.lam_typing.specs.inner.Steps.{entry_at}
use Rattle.lam_typing.specs.declared.noting.Source.{Source}
use Rattle.lam_typing.specs.declared.noting.Source.TheVariants.{Term as TermAt}
use Rattle.lam_typing.specs.declared.noting.Note.{Note}
use Rattle.lam_typing.specs.declared.noting.Note.TheVariants.{Nothing}
use Rattle.lam_typing.specs.declared.noting.Notes.{Notes}

-- lists of notes and of sources

noted_by-push : (found : List (Option Typ)) (ns : List Note) (n : Note) → noted_by found (ns ++ n ∷ []) ≡ noted_by found ns ++ noted_as found n ∷ []
noted_by-push found [] n = refl
noted_by-push found (m ∷ ns) n = ap (λ xs. noted_as found m ∷ xs) (noted_by-push found ns n)

-- the note of a place, and of none
pub note_is : (found : List (Option Typ)) (ns : List Note) (k : ℕ) (n default : Note) → k < length ns → get_or ns k default ≡ n → note_among (noted_by found ns) k ≡ noted_as found n
note_is found [] k n default lt is = absurd (omega arith)
note_is found (m ∷ ns) zero n default lt is = ap (λ x. noted_as found x) is
note_is found (m ∷ ns) (suc k) n default lt is = note_is found ns k n default (omega arith) is

pub no_note : (found : List (Option Typ)) (ns : List Note) (k : ℕ) → length ns ≤ k → note_among (noted_by found ns) k ≡ noted_as found Nothing
no_note found [] k le = refl
no_note found (m ∷ ns) zero le = absurd (omega arith)
no_note found (m ∷ ns) (suc k) le = no_note found ns k (omega arith)

onto-push : (found : List (Option Typ)) (g : Context) (es : List Source) (e : Source) → entries_onto found g (es ++ e ∷ []) ≡ entry_of_source found e ∷ entries_onto found g es
onto-push found g [] e = refl
onto-push found g (d ∷ es) e = onto-push found (entry_of_source found d ∷ g) es e

context-push : (found : List (Option Typ)) (es : List Source) (e : Source) → context_in found (es ++ e ∷ []) ≡ entry_of_source found e ∷ context_in found es
context-push found es e = onto-push found [] es e

length-onto : (found : List (Option Typ)) (g : Context) (es : List Source) → length (entries_onto found g es) ≡ length es + length g
length-onto found g [] = omega arith
length-onto found g (e ∷ es) = let n = length-onto found (entry_of_source found e ∷ g) es in omega arith

pub length-context : (found : List (Option Typ)) (es : List Source) → length (context_in found es) ≡ length es
length-context found es = let n = length-onto found [] es in omega arith

entry_behind : (found : List (Option Typ)) (g : Context) (es : List Source) (n : ℕ) → entry_at (length es + n) (entries_onto found g es) ≡ entry_at n g
entry_behind found g [] n = let e : 0 + n ≡ n = omega arith in rw e
entry_behind found g (x ∷ es) n =
    let e : length (x ∷ es) + n ≡ length es + suc n = omega arith in
    rw e (entry_behind found (entry_of_source found x ∷ g) es (suc n))

entry_onto : (found : List (Option Typ)) (g : Context) (es : List Source) (n k : ℕ) (default : Source) → k + n + 1 ≡ length es → entry_of_source found (get_or es k default) ≡ entry_at n (entries_onto found g es)
entry_onto found g [] n k default count = absurd (omega arith)
entry_onto found g (x ∷ es) n zero default count =
    let here : n ≡ length es + 0 = omega arith in
    let there : entry_at (length es + 0) (entries_onto found (entry_of_source found x ∷ g) es) ≡ entry_of_source found x = entry_behind found (entry_of_source found x ∷ g) es 0 in
    rw here (sym there)
entry_onto found g (x ∷ es) n (suc k) default count = entry_onto found (entry_of_source found x ∷ g) es n k default (omega arith)

-- the entry that an index finds, counted from the innermost
pub entry_of_index : (found : List (Option Typ)) (es : List Source) (n : ℕ) (default : Source) → n < length es → entry_of_source found (get_or es (length es - 1 - n) default) ≡ entry_at n (context_in found es)
entry_of_index found es n default lt = entry_onto found [] es n (length es - 1 - n) default (omega arith)

-- no notes appended, and notes appended after others

pub more_none : (n : Notes) → NotesMore n n (λ found. []) 0
more_none n = record {
  sources = refl;
  noted = λ found. sym (append-nil (noted_by found n.noted.items));
  behind = omega arith;
}

pub more_then : (n0 n1 n2 : Notes) (xs ys : List (Option Typ) → List Noted) (a b : ℕ)
    → NotesMore n0 n1 xs a → NotesMore n1 n2 ys b → NotesMore n0 n2 (λ found. xs found ++ ys found) (a + b)
more_then n0 n1 n2 xs ys a b p q = record {
  sources = q.sources ∙ p.sources;
  noted = λ found. q.noted found ∙ ap (λ zs. zs ++ ys found) (p.noted found) ∙ append_assoc (noted_by found n0.noted.items) (xs found) (ys found);
  behind = let e = p.behind in let f = q.behind in omega arith;
}

-- the notes of a term behind others
pub then_term : (k : ℕ) (n0 n1 n2 : Notes) (xs : List (Option Typ) → List Noted) (a : ℕ) (e : Term) (place : ℕ)
    → k ≡ length n1.noted.items → NotesMore n0 n1 xs a → NotesTerm n1 n2 e place
    → NotesMore n0 n2 (λ found. xs found ++ notes k found (context_in found n0.sources.items) e) (a + (inside e + 1))
then_term k n0 n1 n2 xs a e place at p q =
    more_then n0 n1 n2 xs (λ found. notes k found (context_in found n0.sources.items) e) a (inside e + 1) p
    (subst (λ ys. NotesMore n1 n2 ys (inside e + 1)) (λ i. λ found. notes (sym at i) found (context_in found (p.sources i)) e) q.more)

-- the note of the term itself behind those of its parts
pub term_done : (n0 n1 n2 : Notes) (e : Term) (parts : List (Option Typ) → List Noted) (a : ℕ) (own : Note) (place : ℕ)
    → ((found : List (Option Typ)) → notes (length n0.noted.items) found (context_in found n0.sources.items) e ≡ parts found ++ note (context_in found n0.sources.items) e ∷ [])
    → a ≡ inside e → NotesMore n0 n1 parts a → NotesOne n1 n2 own place
    → ((found : List (Option Typ)) → noted_as found own ≡ note (context_in found n0.sources.items) e)
    → NotesTerm n0 n2 e place
term_done n0 n1 n2 e parts a own place form count p one is = record {
  more = record {
    sources = one.sources ∙ p.sources;
    noted = λ found.
        ap (λ ns. noted_by found ns) one.noted
        ∙ noted_by-push found n1.noted.items own
        ∙ (λ i. p.noted found i ++ is found i ∷ [])
        ∙ append_assoc (noted_by found n0.noted.items) (parts found) (note (context_in found n0.sources.items) e ∷ [])
        ∙ ap (λ xs. noted_by found n0.noted.items ++ xs) (sym (form found));
    behind = let l = ap length one.noted ∙ length-append n1.noted.items (own ∷ []) in let m = p.behind in omega arith;
  };
  place_is = let m = p.behind in let q = one.place_is in omega arith;
}

pub leaf_done : (n0 n1 : Notes) (e : Term) (place : ℕ) → IsLeaf e → NotesOne n0 n1 Nothing place → NotesTerm n0 n1 e place
leaf_done n0 n1 true_term place leaf one = term_done n0 n0 n1 true_term (λ found. []) 0 Nothing place (λ found. refl) refl (more_none n0) one (λ found. refl)
leaf_done n0 n1 false_term place leaf one = term_done n0 n0 n1 false_term (λ found. []) 0 Nothing place (λ found. refl) refl (more_none n0) one (λ found. refl)
leaf_done n0 n1 (numeral digits) place leaf one = term_done n0 n0 n1 (numeral digits) (λ found. []) 0 Nothing place (λ found. refl) refl (more_none n0) one (λ found. refl)
leaf_done n0 n1 (free name) place leaf one = term_done n0 n0 n1 (free name) (λ found. []) 0 Nothing place (λ found. refl) refl (more_none n0) one (λ found. refl)
leaf_done n0 n1 unit_term place leaf one = term_done n0 n0 n1 unit_term (λ found. []) 0 Nothing place (λ found. refl) refl (more_none n0) one (λ found. refl)
leaf_done n0 n1 (if_then_else c a b) place leaf one = absurd leaf
leaf_done n0 n1 (succ e) place leaf one = absurd leaf
leaf_done n0 n1 (pred e) place leaf one = absurd leaf
leaf_done n0 n1 (is_zero e) place leaf one = absurd leaf
leaf_done n0 n1 (variable n) place leaf one = absurd leaf
leaf_done n0 n1 (lambda w e) place leaf one = absurd leaf
leaf_done n0 n1 (apply f a) place leaf one = absurd leaf
leaf_done n0 n1 (ascribe e w) place leaf one = absurd leaf
leaf_done n0 n1 (let_in a b) place leaf one = absurd leaf
leaf_done n0 n1 (record_term es) place leaf one = absurd leaf
leaf_done n0 n1 (project e l) place leaf one = absurd leaf
leaf_done n0 n1 (fix e) place leaf one = absurd leaf

module _ (n0 n1 n2 : Notes) (p : Term) (inner place : ℕ) where
  parts : List (Option Typ) → List Noted
  parts found = notes (length n0.noted.items) found (context_in found n0.sources.items) p

  pub over_done : (e : Term) → IsOver e p → NotesTerm n0 n1 p inner → NotesOne n1 n2 Nothing place → NotesTerm n0 n2 e place
  unfolding parts
  over_done (succ e) is part one = rw is (term_done n0 n1 n2 (succ p) parts (inside p + 1) Nothing place (λ found. refl) refl part.more one (λ found. refl))
  over_done (pred e) is part one = rw is (term_done n0 n1 n2 (pred p) parts (inside p + 1) Nothing place (λ found. refl) refl part.more one (λ found. refl))
  over_done (is_zero e) is part one = rw is (term_done n0 n1 n2 (is_zero p) parts (inside p + 1) Nothing place (λ found. refl) refl part.more one (λ found. refl))
  over_done (ascribe e w) is part one = rw is (term_done n0 n1 n2 (ascribe p w) parts (inside p + 1) Nothing place (λ found. refl) refl part.more one (λ found. refl))
  over_done (project e l) is part one = rw is (term_done n0 n1 n2 (project p l) parts (inside p + 1) Nothing place (λ found. refl) refl part.more one (λ found. refl))
  over_done (fix e) is part one = rw is (term_done n0 n1 n2 (fix p) parts (inside p + 1) Nothing place (λ found. refl) refl part.more one (λ found. refl))
  over_done true_term is part one = absurd is
  over_done false_term is part one = absurd is
  over_done (numeral digits) is part one = absurd is
  over_done (free name) is part one = absurd is
  over_done unit_term is part one = absurd is
  over_done (if_then_else c a b) is part one = absurd is
  over_done (variable n) is part one = absurd is
  over_done (lambda w e) is part one = absurd is
  over_done (apply f a) is part one = absurd is
  over_done (let_in a b) is part one = absurd is
  over_done (record_term es) is part one = absurd is

-- under one more binder
pub under_done : (n0 n2 : Notes) (v u : Vec Source Global) (entry : Source) (e : Term) (place : ℕ)
    → v.items ≡ n0.sources.items ++ entry ∷ [] → NotesTerm (record n0 { sources = v }) n2 e place → u.items ≡ n0.sources.items
    → NotesMore n0 (record n2 { sources = u }) (λ found. notes (length n0.noted.items) found (entry_of_source found entry ∷ context_in found n0.sources.items) e) (inside e + 1)
under_done n0 n2 v u entry e place put over popped = record {
  sources = popped;
  noted = λ found.
      over.more.noted found
      ∙ ap (λ g. noted_by found n0.noted.items ++ notes (length n0.noted.items) found g e) (ap (λ es. context_in found es) put ∙ context-push found n0.sources.items entry);
  behind = over.more.behind;
}

pub popped_items : (pushed popped : Vec Source Global) (now es : List Source) (e : Source) (n : ℕ)
    → pushed.items ≡ es ++ e ∷ [] → now ≡ pushed.items → n ≡ length now → popped.items ≡ take (n - 1) now → popped.items ≡ es
popped_items pushed popped now es e n put same count rest =
    let all : now ≡ es ++ e ∷ [] = same ∙ put in
    let longer = ap length all ∙ length-append es (e ∷ []) in
    let at : n - 1 ≡ length es = omega (arith, longer, count) in
    rest ∙ ap (λ xs. take (n - 1) xs) all ∙ front es e (n - 1) at
  where
    front : (es : List Source) (e : Source) (n : ℕ) → n ≡ length es → take n (es ++ e ∷ []) ≡ es
    front [] e n is = rw is
    front (d ∷ es) e zero is = absurd (omega arith)
    front (d ∷ es) e (suc n) is = ap (λ rest. d ∷ rest) (front es e n (omega arith))

-- a let: the notes of its second term, under an entry with the type of the first
pub let_under : (n0 n1 n2 : Notes) (v u : Vec Source Global) (a b : Term) (first : Place) (second : ℕ)
    → NotesTerm n0 n1 a first.0 → v.items ≡ n1.sources.items ++ TermAt first ∷ []
    → NotesTerm (record n1 { sources = v }) n2 b second → u.items ≡ n1.sources.items
    → NotesMore n0 (record n2 { sources = u })
    (λ found. notes (length n0.noted.items) found (context_in found n0.sources.items) a
    ++ notes (behind_term (length n0.noted.items) a) found (get_or found (place_of_term (length n0.noted.items) a) None ∷ context_in found n0.sources.items) b)
    (inside a + 1 + (inside b + 1))
let_under n0 n1 n2 v u a b first second over put under popped =
    let k = length n0.noted.items in
    let at : length n1.noted.items ≡ behind_term k a = (let e = over.more.behind in omega arith) in
    let inner = under_done n1 n2 v u (TermAt first) b second put under popped in
    more_then n0 n1 (record n2 { sources = u }) (λ found. notes k found (context_in found n0.sources.items) a) _ (inside a + 1) (inside b + 1) over.more
    (subst (λ xs. NotesMore n1 (record n2 { sources = u }) xs (inside b + 1)) (λ i. λ found. notes (at i) found (get_or found (over.place_is i) None ∷ context_in found (over.more.sources i)) b) inner)

-- the terms of a record
pub fields_then : (n0 n1 n2 : Notes) (l : List ℕ) (e : Term) (es : TermFields) (place : ℕ) → NotesTerm n0 n1 e place → NotesFields n1 n2 es → NotesFields n0 n2 (term_field l e es)
fields_then n0 n1 n2 l e es place over rest =
    let k = length n0.noted.items in
    let at : length n1.noted.items ≡ behind_term k e = (let b = over.more.behind in omega arith) in
    more_then n0 n1 n2 (λ found. notes k found (context_in found n0.sources.items) e) (λ found. notes_in (behind_term k e) found (context_in found n0.sources.items) es) (inside e + 1) (inside_fields es) over.more
    (subst (λ xs. NotesMore n1 n2 xs (inside_fields es)) (λ i. λ found. notes_in (at i) found (context_in found (over.more.sources i)) es) rest)

-- statements

statement_done : (n0 n1 : Notes) (statement : Statement) (ms : List (Option Typ) → List Noted) (k : ℕ) (h : List (Option Typ) → Context)
    → ((found : List (Option Typ)) → noted_by found n1.noted.items ≡ noted_by found n0.noted.items ++ ms found) → length n1.noted.items ≡ k
    → ((found : List (Option Typ)) → context_in found n1.sources.items ≡ h found)
    → ((found : List (Option Typ)) (rest : List Statement) → ms found ++ notes_of k found (h found) rest ≡ notes_of (length n0.noted.items) found (context_in found n0.sources.items) (statement ∷ rest))
    → NotesStatement n0 n1 statement
statement_done n0 n1 statement ms k h noted at under form = λ found rest.
    (λ i. noted found i ++ notes_of (at i) found (under found i) rest)
    ∙ append_assoc (noted_by found n0.noted.items) (ms found) (notes_of k found (h found) rest)
    ∙ ap (λ xs. noted_by found n0.noted.items ++ xs) (form found rest)

pub stated_done : (n0 n1 : Notes) (e : Term) (place : ℕ) → NotesTerm n0 n1 e place → NotesStatement n0 n1 (states e)
stated_done n0 n1 e place over =
    statement_done n0 n1 (states e) (λ found. notes (length n0.noted.items) found (context_in found n0.sources.items) e) (behind_term (length n0.noted.items) e) (λ found. context_in found n0.sources.items)
    over.more.noted (let b = over.more.behind in omega arith) (λ found. ap (λ es. context_in found es) over.more.sources) (λ found rest. refl)

pub defined_done : (n0 n1 : Notes) (u : Vec Source Global) (e : Term) (place : Place)
    → NotesTerm n0 n1 e place.0 → u.items ≡ n1.sources.items ++ TermAt place ∷ [] → NotesStatement n0 (record n1 { sources = u }) (defines e)
defined_done n0 n1 u e place over put =
    let k = length n0.noted.items in
    statement_done n0 (record n1 { sources = u }) (defines e) (λ found. notes k found (context_in found n0.sources.items) e) (behind_term k e)
    (λ found. get_or found (place_of_term k e) None ∷ context_in found n0.sources.items)
    over.more.noted (let b = over.more.behind in omega arith)
    (λ found. ap (λ es. context_in found es) put ∙ context-push found n1.sources.items (TermAt place) ∙ (λ i. get_or found (over.place_is i) None ∷ context_in found (over.more.sources i)))
    (λ found rest. refl)

pub declared_done : (n0 : Notes) (u : Vec Source Global) (entry : Source) (w : Option Typ) → ((found : List (Option Typ)) → entry_of_source found entry ≡ w) → u.items ≡ n0.sources.items ++ entry ∷ []
    → NotesStatement n0 (record n0 { sources = u }) (declares w)
declared_done n0 u entry w is put =
    statement_done n0 (record n0 { sources = u }) (declares w) (λ found. []) (length n0.noted.items) (λ found. w ∷ context_in found n0.sources.items)
    (λ found. sym (append-nil (noted_by found n0.noted.items))) refl
    (λ found. ap (λ es. context_in found es) put ∙ context-push found n0.sources.items entry ∙ ap (λ x. x ∷ context_in found n0.sources.items) (is found)) (λ found rest. refl)

-- the notes so far, with those of the statements that follow, are those of the document
abbrev pub NotesThrough : Notes → (all rest : List Statement) → Type 0
NotesThrough n all rest =
    (found : List (Option Typ)) → noted_by found n.noted.items ++ notes_of (length n.noted.items) found (context_in found n.sources.items) rest ≡ notes_of 0 found [] all

-- at a statement of the slice
pub statement_noted : (n1 n2 : Notes) (all : List Statement) (ss : List RustStatement) (i : ℕ) (s : RustStatement) → i < length ss → s ≡ get_or ss i s
    → NotesThrough n1 all (map statement_of (drop i ss)) → NotesStatement n1 n2 (statement_of s) → NotesThrough n2 all (map statement_of (drop (i + 1) ss))
statement_noted n1 n2 all ss i s lt is through one = λ found.
    one found (map statement_of (drop (i + 1) ss)) ∙ (subst (λ rest. NotesThrough n1 all rest) (statements-drop ss i s lt is) through) found
