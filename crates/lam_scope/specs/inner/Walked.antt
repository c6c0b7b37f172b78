-- What the walks over a term and over a command add to the rows, and their results. For private contracts only.
use Rattle.std.specs.Prelude.{◌≡◌, ℕ, ◌+◌, List, [], ◌∷◌, true, length, Option, Result, IfOk, OnOk}
use Rattle.std.specs.declared.alloc.AllocError.{AllocError}
use Rattle.lam_token.specs.declared.span.Span.{Span}
use Rattle.lam_syntax.specs.Trees.{TypeTree, TermTree, term_span, CommandTree}
use Rattle.lam_scope.specs.declared.numbers.Place.{Place}
use Rattle.lam_scope.specs.declared.rows.Rows.{Rows}
use Rattle.lam_scope.specs.Names.{Name}
use Rattle.lam_scope.specs.Sights.{lambda_at, term_at}
use Rattle.lam_scope.specs.TableViews.{rows_of, with_origin}
use Rattle.lam_scope.specs.Tables.{Table, Entry, entry, ◌⊕◌, binder_row, place_row, letrec_rows, type_uses, term_table, root, behind, binders_in, command_table, types_seen_after, names_seen_after, binders_in_command, places_in_command}

-- The rows of a term under these binders of type names and of names are appended, unless allocation fails, and the answer is its index.
pub record IsWalked (types names : List Entry) (t : TermTree) (old new : Rows) (answer : Result Place AllocError) : Type 0 where
  pub table : OnOk answer (rows_of new ≡ rows_of old ⊕ term_table types names (length old.binders.items) (length old.places.items) t)
  pub place : IfOk answer (λ p. p.0 ≡ root (length old.places.items) t)
  pub binders : OnOk answer (length new.binders.items ≡ length old.binders.items + binders_in t)
  pub places : OnOk answer (length new.places.items ≡ behind (length old.places.items) t)

-- The row of a binder with this name and token, and then those of the term that it takes its type from, are appended, and the answer is the index of the term.
pub record IsBoundWalked (types names : List Entry) (x : Option Name) (token : Span) (t : TermTree) (old new : Rows) (answer : Result Place AllocError) : Type 0 where
  pub table : OnOk answer (rows_of new
      ≡ rows_of old
      ⊕ (binder_row x token names (length old.binders.items) (term_at (root (length old.places.items) t))
      ⊕ term_table types names (length old.binders.items + 1) (length old.places.items) t))
  pub place : IfOk answer (λ p. p.0 ≡ root (length old.places.items) t)
  pub binders : OnOk answer (length new.binders.items ≡ length old.binders.items + 1 + binders_in t)
  pub places : OnOk answer (length new.places.items ≡ behind (length old.places.items) t)

-- All rows of a letrec except those of its body and its own are appended, and the answer is the index of the derived fix.
pub record IsFixWalked (types names : List Entry) (x : Option Name) (token : Span) (u : TypeTree) (t : TermTree) (old new : Rows) (answer : Result Place AllocError) : Type 0 where
  pub table : OnOk answer (rows_of new
      ≡ rows_of old
      ⊕ letrec_rows x token names (length old.binders.items) (root (length old.places.items) t) (term_span t)
      (type_uses types u)
      (term_table types (entry x (length old.binders.items) (length old.binders.items + 1) ∷ names) (length old.binders.items + 2) (length old.places.items) t))
  pub place : IfOk answer (λ p. p.0 ≡ root (length old.places.items) t + 2)
  pub binders : OnOk answer (length new.binders.items ≡ length old.binders.items + 2 + binders_in t)
  pub places : OnOk answer (length new.places.items ≡ root (length old.places.items) t + 3)

-- a table with the derived lambda and fix of a letrec appended, at the indices k and k + 1, as the origins of its two binders; the bound term is at index p
abbrev pub with_derived : (names : List Entry) → Span → (p of_lambda of_let k : ℕ) → Table → Table
with_derived names s p of_lambda of_let k t =
    with_origin of_let (term_at (k + 1)) (with_origin of_lambda (lambda_at k) (t ⊕ place_row s true (p ∷ []) names ⊕ place_row s true (k ∷ []) names))

-- The rows of the i-th command are appended, unless allocation fails, and what it binds is in scope after it.
pub record IsCommandWalked (types_before names_before : List Entry) (i : ℕ) (c : CommandTree) (old new : Rows) (types_after names_after : List Entry) (answer : Result (Unit {0}) AllocError) : Type 0 where
  pub table : OnOk answer (rows_of new ≡ rows_of old ⊕ command_table types_before names_before (length old.binders.items) (length old.places.items) i c)
  pub types : OnOk answer (types_after ≡ types_seen_after (length old.binders.items) types_before c)
  pub names : OnOk answer (names_after ≡ names_seen_after (length old.binders.items) names_before c)
  pub binders : OnOk answer (length new.binders.items ≡ length old.binders.items + binders_in_command c)
  pub places : OnOk answer (length new.places.items ≡ length old.places.items + places_in_command c)
