-- Lists that a walk over terms adds to.
use Rattle.std.proofs.Common.{◌≡◌, ℕ, ◌+◌, ◌<◌, List, length, drop, get_or, suc, ap, sym, drop-cons, add-one}
use Rattle.lam_syntax.specs.declared.terms.TmField.{TmField}
use Rattle.lam_syntax.specs.Trees.{field}
use Rattle.lam_syntax.specs.Views.{word_of, term_of, fields_of}

pub fields_of-drop : (fs : List TmField) (i : ℕ) (f : TmField) → i < length fs → f ≡ get_or fs i f
    → fields_of (drop i fs) ≡ field (word_of f.label) (term_of f.term) (fields_of (drop (i + 1) fs))
fields_of-drop fs i f lt is = rw add-one (rw (drop-cons fs i f lt) (ap (λ g. field (word_of g.label) (term_of g.term) (fields_of (drop (suc i) fs))) (sym is)))
