-- Scopes with the same binders of a command's own, behind the commands of its text and behind others.
use Rattle.std.proofs.Common.{◌≡◌, suc, List, [], ◌∷◌, ◌++◌, length, Option, ap, sym, subst, ◌∙◌, arith}
use Rattle.lam_rules.specs.Types.{Typ}
use Rattle.lam_rules.specs.Terms.{Term}
use Rattle.lam_rules.specs.Typing.{Context, IsWellFormedEntry}
use Rattle.lam_rules.specs.declared.rules.Dialect.{Dialect}
use Rattle.lam_scope.specs.Alike.{AreAlike}
use Rattle.lam_scope.specs.Names.{Name}
use Rattle.lam_scope.specs.Places.{written, of_term, Scope}
use Rattle.lam_scope.specs.WellFormed.{IsWellFormedTerm, IsWellFormedScope}
use Rattle.lam_typing.specs.LeastTypes.{IsLeastAt, AreLeastEntries}
use Rattle.lam_typing.specs.Progress.{IsLowest}
use Rattle.lam_typing.proofs.AlikePlaces.{least_alike}
use Rattle.lam_typing.proofs.AlikeTerms.{alike, alike_back}
use Rattle.lam_typing.proofs.Forms.{lowest_let}
use Rattle.lam_typing.proofs.LeastIn.{lowest_written, least_at, least_in}
use Rattle.lam_typing.proofs.PlaceProofs.{entries_lowest}
use Rattle.lam_query.proofs.LeastEntries.{lowest_outside, lowest_entry}

-- g is the context behind the commands of the text, h the one behind the others
module _ (g h : Context) (d : Dialect) where
  -- A scope s behind the commands of the text, and r behind the others. Both have as many more binders as there are own names, and these have the same least entries.
  pub record AreSameScopes (own : List (Option Name)) (s r : Scope) : Type 0 where
    pub wf : IsWellFormedScope r
    pub alone_entries : (k : Context) → AreLeastEntries r k d → (e : Context) × (length e ≡ length own) × (k ≡ e ++ h)
    pub least : (e : Context) → length e ≡ length own → AreLeastEntries r (e ++ h) d → AreLeastEntries s (e ++ g) d
    pub lowest : (e : Context) → length e ≡ length own → IsLowest r (e ++ h) d → IsLowest s (e ++ g) d

  -- terms under so many binders of the command's own are alike, whatever entries these have
  abbrev pub AreAlikeUnder : List (Option Name) → Term → Term → Type 0
  AreAlikeUnder own a x = (e : Context) → length e ≡ length own → AreAlike (e ++ g) a (e ++ h) x

  -- the least type of a term is that of one that is alike
  alike_least : (own : List (Option Name)) (s r : Scope) (a x : Term) (e : Context) (o : Option Typ) → length e ≡ length own → AreAlikeUnder own a x
      → IsLowest s (e ++ g) d → IsLowest r (e ++ h) d → IsLeastAt r x o d → IsLeastAt s a o d
  alike_least own s r a x e o same are ls lr least = least_alike o (alike_back (alike (e ++ g) a (e ++ h) x (are e same))) lr ls least

  -- one binder more, with a written type
  pub scopes_under_written : (own : List (Option Name)) (b : Option Name) (s r : Scope) (w u : Option Typ) → w ≡ u → IsWellFormedEntry u
      → AreSameScopes own s r → AreSameScopes (b ∷ own) (written w ∷ s) (written u ∷ r)
  scopes_under_written own b s r w u same_type wf same = record {
    wf = (wf, same.wf);
    alone_entries = entries;
    least = least;
    lowest = lowest;
  }
    where
      entries : (k : Context) → AreLeastEntries (written u ∷ r) k d → (e : Context) × (length e ≡ suc (length own)) × (k ≡ e ++ h)
      entries [] are = absurd are
      entries (entry ∷ k) are = let rest = same.alone_entries k are.1 in (entry ∷ rest.0, ap suc rest.1, ap (λ x. entry ∷ x) rest.2)

      least : (e : Context) → length e ≡ suc (length own) → AreLeastEntries (written u ∷ r) (e ++ h) d → AreLeastEntries (written w ∷ s) (e ++ g) d
      least [] count are = absurd (omega (arith, count))
      least (entry ∷ e) count are = (are.0 ∙ sym same_type, same.least e (omega (arith, count)) are.1)

      lowest : (e : Context) → length e ≡ suc (length own) → IsLowest (written u ∷ r) (e ++ h) d → IsLowest (written w ∷ s) (e ++ g) d
      lowest [] count low = absurd (omega (arith, count))
      lowest (entry ∷ e) count low =
          lowest_written w s entry (e ++ g) d (subst IsWellFormedEntry (sym same_type) wf) (low.is_context.0 ∙ sym same_type)
          (same.lowest e (omega (arith, count)) (lowest_outside (written u) r entry (e ++ h) d low))

  -- one binder more, of terms that are alike
  pub scopes_under_term : (own : List (Option Name)) (b : Option Name) (s r : Scope) (a x : Term) → IsWellFormedTerm x → AreAlikeUnder own a x
      → AreSameScopes own s r → AreSameScopes (b ∷ own) (of_term a ∷ s) (of_term x ∷ r)
  scopes_under_term own b s r a x wf are same = record {
    wf = (wf, same.wf);
    alone_entries = entries;
    least = least;
    lowest = lowest;
  }
    where
      entries : (k : Context) → AreLeastEntries (of_term x ∷ r) k d → (e : Context) × (length e ≡ suc (length own)) × (k ≡ e ++ h)
      entries [] each = absurd each
      entries (entry ∷ k) each = let rest = same.alone_entries k each.1 in (entry ∷ rest.0, ap suc rest.1, ap (λ y. entry ∷ y) rest.2)

      least : (e : Context) → length e ≡ suc (length own) → AreLeastEntries (of_term x ∷ r) (e ++ h) d → AreLeastEntries (of_term a ∷ s) (e ++ g) d
      least [] count each = absurd (omega (arith, count))
      least (entry ∷ e) count each =
          let inner : length e ≡ length own = omega (arith, count) in
          let lr = entries_lowest r (e ++ h) d same.wf each.1 in
          (alike_least own s r a x e entry inner are (same.lowest e inner lr) lr each.0, same.least e inner each.1)

      lowest : (e : Context) → length e ≡ suc (length own) → IsLowest (of_term x ∷ r) (e ++ h) d → IsLowest (of_term a ∷ s) (e ++ g) d
      lowest [] count low = absurd (omega (arith, count))
      lowest (entry ∷ e) count low =
          let inner : length e ≡ length own = omega (arith, count) in
          let lr = lowest_outside (of_term x) r entry (e ++ h) d low in
          let ls = same.lowest e inner lr in
          let least_there = least_in s (e ++ g) a entry d ls (alike_least own s r a x e entry inner are ls lr (lowest_entry (of_term x) r entry (e ++ h) d low)) in
          lowest_let a (e ++ g) entry d (λ v lv. least_at v (e ++ g) a entry d lv least_there) s ls
