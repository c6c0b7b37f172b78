-- The faults of rows, placed in a text row after row.
use Rattle.std.proofs.Common.{◌≡◌, ℕ, ◌+◌, ◌<◌, List, [], ◌∷◌, ◌++◌, append_assoc, length, map, drop, flat_map, get_or, Option, Some, None, refl, sym, ap, subst, ◌∙◌, arith}
use Rattle.std.specs.Option.{option_map}
use Rattle.std.proofs.lemmas.List.{drop_at, drop_more, get_or-map, length-map, map-append, take_at}
use Rattle.std.proofs.lemmas.List.Elements.{All-take, All-drop}
use Rattle.std.proofs.lemmas.Simd.{map-map}
use Rattle.lam_query.specs.declared.answers.Fault.{Fault as RustFault}
use Rattle.lam_query.specs.declared.rows.Row.{Row as RustRow}
use Rattle.lam_query.specs.Faults.{Fault}
use Rattle.lam_query.specs.Views.{fault_of}
use Rattle.lam_query.specs.inner.Kept.{Found, written_too_large, term_too_large, typed, CommandRow, Row, row_of, rows_of, found_in, faults_found, span_after, fault_after, found_after, command_row_after, row_after, placed, Fits, AllFit}
use Rattle.lam_query.proofs.RowsPlaced.{next_row}

-- if all faults fit, so does one of them
pub fault_fits : (n : ℕ) (fs : List RustFault) (i : ℕ) (e : RustFault) → AllFit (map (λ f. fault_after n (fault_of f)) fs) → i < length fs
    → Fits (span_after n (get_or fs i e).span)
fault_fits n fs i e all lt =
    let one = all i (fault_after n (fault_of e)) (omega (arith, lt, length-map fs (λ f. fault_after n (fault_of f)))) in
    subst (λ (f : Fault). Fits f.span) (get_or-map (λ f. fault_after n (fault_of f)) fs i e (fault_after n (fault_of e)) lt) one

-- one fault more, of those of a piece
pub fault_pushed : (n : ℕ) (fs : List RustFault) (i : ℕ) (e f : RustFault) → i < length fs → (found more : List RustFault) (all : List Fault)
    → f.code ≡ (get_or fs i e).code → (Fits (span_after n (get_or fs i e).span) → f.span ≡ span_after n (get_or fs i e).span) → more ≡ found ++ f ∷ []
    → (AllFit (map (λ f. fault_after n (fault_of f)) fs) → map fault_of found ++ map (λ f. fault_after n (fault_of f)) (drop i fs) ≡ all)
    → AllFit (map (λ f. fault_after n (fault_of f)) fs) → map fault_of more ++ map (λ f. fault_after n (fault_of f)) (drop (i + 1) fs) ≡ all
fault_pushed n fs i e f lt found more all code span pushed so_far fit =
    let others = map (λ f. fault_after n (fault_of f)) (drop (i + 1) fs) in
    let same_span = span (fault_fits n fs i e fit lt) in
    let same : fault_of f ≡ fault_after n (fault_of (get_or fs i e)) = rw (code, same_span) refl in
    ap (λ fs. map fault_of fs ++ others) pushed
    ∙ ap (λ fs. fs ++ others) (map-append fault_of found (f ∷ []))
    ∙ append_assoc (map fault_of found) (fault_of f ∷ []) others
    ∙ ap (λ g. map fault_of found ++ g ∷ others) same
    ∙ ap (λ fs. map fault_of found ++ map (λ f. fault_after n (fault_of f)) fs) (sym (drop_more fs i e lt))
    ∙ so_far fit

-- if the faults of two lists fit, so do those of each
pub fit_before : (front back : List Fault) → AllFit (front ++ back) → AllFit front
fit_before front back fit =
    subst AllFit (take_at front back (length front) refl) (All-take (λ f. Fits f.span) (length front) (front ++ back) fit)

pub fit_behind : (front back : List Fault) → AllFit (front ++ back) → AllFit back
fit_behind front back fit =
    subst AllFit (drop_at front back (length front) refl) (All-drop (λ f. Fits f.span) (length front) (front ++ back) fit)

-- ---- the faults of a row that is placed

abbrev ArePlaced : (Row → List Fault) → Type 0
ArePlaced g = (n : ℕ) (r : Row) → g (row_after n r) ≡ map (fault_after n) (g r)

pub syntax_placed : ArePlaced (λ r. r.syntax)
syntax_placed n r = refl

found_placed : (n : ℕ) (f : Option Found) → faults_found (option_map (found_after n) f) ≡ map (fault_after n) (faults_found f)
found_placed n None = refl
found_placed n (Some (written_too_large s)) = refl
found_placed n (Some (term_too_large s)) = refl
found_placed n (Some (typed t)) = refl

command_placed : (n : ℕ) (o : Option CommandRow)
    → faults_found (option_map (λ k. k.found) (option_map (command_row_after n) o)) ≡ map (fault_after n) (faults_found (option_map (λ k. k.found) o))
command_placed n None = refl
command_placed n (Some k) = found_placed n (Some k.found)

pub types_placed : ArePlaced (λ r. faults_found (found_in r))
types_placed n r = command_placed n r.command

-- ---- the next row

module _ (g : Row → List Fault) (are_placed : ArePlaced g) (rows : List RustRow) (i : ℕ) (r : RustRow) (is : r ≡ get_or rows i r) (lt : i < length rows)
    (start : ℕ) (fs : List RustFault) (own : map fault_of fs ≡ g (row_of r)) where
  abbrev Here : List Fault
  Here = map (λ f. fault_after start (fault_of f)) fs

  abbrev Left : List Fault
  Left = flat_map g (placed start (rows_of (drop i rows)))

  abbrev Others : List Fault
  Others = flat_map g (placed (start + r.end) (rows_of (drop (i + 1) rows)))

  here : g (row_after start (row_of r)) ≡ Here
  here = are_placed start (row_of r) ∙ ap (map (fault_after start)) (sym own) ∙ map-map (fault_after start) fault_of fs

  left : Left ≡ Here ++ Others
  left =
      ap (λ rs. flat_map g (placed start rs)) (next_row rows i r lt)
      ∙ ap (λ (q : RustRow). flat_map g (placed start (row_of q ∷ rows_of (drop (i + 1) rows)))) (sym is)
      ∙ (λ j. here j ++ flat_map g (placed (end j) (rows_of (drop (i + 1) rows))))
    where
      end : r.end + start ≡ start + r.end
      end = omega arith

  -- if all fit, those of this row fit, and so they are told
  pub next_told : (found more all : List Fault) → (AllFit Here → more ≡ found ++ Here) → (AllFit all → found ++ Left ≡ all) → AllFit all → more ++ Others ≡ all
  next_told found more all told so_far fit =
      let parts : found ++ (Here ++ Others) ≡ all = ap (λ xs. found ++ xs) (sym left) ∙ so_far fit in
      let left_fit = fit_behind found (Here ++ Others) (subst AllFit (sym parts) fit) in
      ap (λ xs. xs ++ Others) (told (fit_before Here Others left_fit)) ∙ append_assoc found Here Others ∙ parts
