-- Characters that are in no name, and in no token behind its first character unless it is an open comment.
use Rattle.std.proofs.Common.{◌≡◌, ℕ, Bool, true, false, Option, Some, None, List, [], ◌∷◌, inl, refl, sym, ap, ◌∙◌, arith}
use Rattle.std.specs.Prelude.{◌==◌}
use Rattle.std.specs.List.{list_all}
use Rattle.std.specs.Str.{chars, IsUtf8, NoCharPasses, NonePass}
use Rattle.std.proofs.lemmas.Bool.{ne_eqb, and_parts, eqb-true}
use Rattle.std.proofs.lemmas.Str.{encodes-chars}
use Rattle.unicode_ident.proofs.IdentLemmas.{is_xid_continue-ascii}
use Rattle.lam_token.specs.declared.kind.Kind.{Kind}
use Rattle.lam_token.specs.declared.kind.Kind.TheVariants.{Name}
use Rattle.lam_token.specs.declared.segment.Segment.{Segment}
use Rattle.lam_token.specs.declared.segment.Segment.TheVariants.{Blank, Token}
use Rattle.lam_token.specs.declared.segment.Beginning.{Beginning}
use Rattle.lam_token.specs.declared.segment.Beginning.TheVariants as begin
use Rattle.lam_token.specs.Shape.{is_digit, is_continuing, beginning_of, closed_at_end, alone, begun, shape_of}
use Rattle.lam_token.specs.Cut.{IsWholeKind}
use Rattle.lam_token.specs.Edits.{IsNameKind}
use Rattle.lam_token.proofs.Cuts.{name_shape}
use Rattle.lam_token.proofs.NextSegment.{begins_tells, chosen_is, name_begins}

-- the character continues no name and no numeral, and is not the second one of an arrow
pub record ContinuesNothing (d : ℕ) : Type 0 where
  pub name : is_continuing d ≡ false
  pub numeral : is_digit d ≡ false
  pub arrow : ◌==◌ 62 d ≡ false

none_equal : (p : ℕ → Bool) (d : ℕ) → p d ≡ false → (cs : List ℕ) → list_all p cs ≡ true → NonePass (λ c. c == d) cs
none_equal p d fails [] all = tt
none_equal p d fails (c ∷ cs) all =
    let parts = and_parts (p c) (list_all p cs) all in
    (ne_eqb c d (λ same. let both : true ≡ false = sym parts.0 ∙ ap p same ∙ fails in absurd cc), none_equal p d fails cs parts.1)

none_alone : (p : ℕ → Bool) (s : Segment) (kind : Kind) (cs : List ℕ) → alone s cs ≡ Some (Token kind) → NonePass p cs
none_alone p s kind [] shape = tt
none_alone p s kind (c ∷ cs) shape = absurd cc

no_comment : (kind : Kind) (left : Option (List ℕ)) → closed_at_end left ≡ Some (Token kind) → ⊥
no_comment kind None shape = absurd cc
no_comment kind (Some []) shape = absurd cc
no_comment kind (Some (c ∷ cs)) shape = absurd cc

pub none_behind : (d : ℕ) → ContinuesNothing d → (b : Beginning) (c : ℕ) (cs : List ℕ) (kind : Kind) → begun b c cs ≡ Some (Token kind) → NonePass (λ x. x == d) cs
none_behind d none begin.Blank c cs kind shape = none_alone (λ x. x == d) Blank kind cs shape
none_behind d none begin.Slash c [] kind shape = tt
none_behind d none begin.Slash c (x ∷ cs) kind shape = absurd (no_comment kind _ (chosen_is (x == 42) _ (Token kind) shape).1)
none_behind d none begin.Digit c cs kind shape = none_equal is_digit d none.numeral cs (chosen_is (list_all is_digit cs) _ (Token kind) shape).0
none_behind d none begin.Letter c cs kind shape = none_equal is_continuing d none.name cs (chosen_is (list_all is_continuing cs) _ (Token kind) shape).0
none_behind d none begin.Underscore c [] kind shape = tt
none_behind d none begin.Underscore c (x ∷ cs) kind shape =
    none_equal is_continuing d none.name (x ∷ cs) (chosen_is (list_all is_continuing (x ∷ cs)) _ (Token kind) shape).0
none_behind d none begin.Dash c [] kind shape = tt
none_behind d none begin.Dash c (x ∷ cs) kind shape =
    let found = chosen_is (x == 62) _ (Token kind) shape in
    (ap (λ y. y == d) (eqb-true x 62 found.0) ∙ none.arrow, none_alone (λ y. y == d) _ kind cs found.1)
none_behind d none (begin.Mark k) c cs kind shape = none_alone (λ x. x == d) (Token k) kind cs shape
none_behind d none begin.Stray c cs kind shape = absurd cc

-- ---- line ends and marks

pub cr_continues_nothing : ContinuesNothing 13
unfolding is_continuing is_digit
cr_continues_nothing = record { name = is_xid_continue-ascii 13 (omega arith); numeral = refl; arrow = refl }

pub lf_continues_nothing : ContinuesNothing 10
unfolding is_continuing is_digit
lf_continues_nothing = record { name = is_xid_continue-ascii 10 (omega arith); numeral = refl; arrow = refl }

pub colon_continues_nothing : ContinuesNothing 58
unfolding is_continuing is_digit
colon_continues_nothing = record { name = is_xid_continue-ascii 58 (omega arith); numeral = refl; arrow = refl }

pub brace_continues_nothing : ContinuesNothing 125
unfolding is_continuing is_digit
brace_continues_nothing = record { name = is_xid_continue-ascii 125 (omega arith); numeral = refl; arrow = refl }

-- ---- names

pub none_in_name : (d : ℕ) → ContinuesNothing d → (kind : Kind) (cs : List ℕ) → IsNameKind kind → shape_of cs ≡ Some (Token kind) → NonePass (λ c. c == d) cs
none_in_name d none kind [] is shape = tt
none_in_name d none kind (c ∷ cs) is shape =
    let first = (begins_tells c (name_begins c cs kind is shape)).1 in
    (ne_eqb c d (λ same. let both : true ≡ false = sym first ∙ ap is_continuing same ∙ none.name in absurd cc), none_behind d none (beginning_of c) c cs kind shape)

pub name_without : (d : ℕ) → ContinuesNothing d → (name : List ℕ) → IsUtf8 name → IsWholeKind (chars name) (Some Name) → NoCharPasses (λ c. c == d) name
name_without d none name is_text is = (chars name, encodes-chars name is_text, none_in_name d none Name (chars name) (inl refl) (name_shape Name (chars name) is refl))
