-- A binder that is put in the place of an outer one of its name.
use Rattle.std.proofs.Common.{◌≡◌, List, Bool, true, false, cond, Option, Some, None, option_map, String, BTreeMap, Global, string_bytes, bytes_eq, is_eq, nat_cmp, [], refl, ap, ◌∙◌}
use Rattle.std.specs.BTreeMap.{get_by_text}
use Rattle.std.specs.Cmp.Lexicographic.{slice_cmp}
use Rattle.std.specs.Map.{update, lookup}
use Rattle.lam_rules.specs.Texts.{Text}
use Rattle.lam_rules.specs.Types.{Typ}
use Rattle.lam_scope.specs.Names.{Name, binds}
use Rattle.lam_query.specs.declared.binders.SeenBinder.{SeenBinder}
use Rattle.lam_query.specs.inner.SeenBinders.{name_seen}
use Rattle.lam_query.specs.inner.Sight.{detail_seen, detail_with, detail_for}

-- the text of what a map has
abbrev told_of : Option (String Global) → Option Text
told_of o = option_map (λ (s : String Global). string_bytes s) o

told_choice : (c : Bool) (o : Option (String Global)) (before : Option (Option (String Global))) → option_map told_of (cond c (Some o) before) ≡ cond c (Some (told_of o)) (option_map told_of before)
told_choice true o before = refl
told_choice false o before = refl

pub put_inside : (types : Option (List Typ)) (b : SeenBinder) (y key : Name) (o : Option (String Global)) (m n : BTreeMap (String Global) (Option (String Global)))
    → Some y ≡ name_seen b → key ≡ y → told_of o ≡ detail_seen types b.entry
    → ((x : Name) → get_by_text n x ≡ update bytes_eq (get_by_text m) key (Some o) x) → (x : Name) → detail_for n x ≡ detail_with types x (detail_for m x) b
put_inside types b y key o m n named same told sets x =
    ap (option_map told_of) (sets x)
    ∙ told_choice (bytes_eq key x) o (get_by_text m x)
    ∙ ap (λ t. cond (bytes_eq key x) (Some t) (detail_for m x)) told
    ∙ ap (λ k. cond (bytes_eq k x) (Some (detail_seen types b.entry)) (detail_for m x)) same
    ∙ ap (λ name. cond (binds name x) (Some (detail_seen types b.entry)) (detail_for m x)) named

-- a map that has nothing yet
pub nothing_put : (m : BTreeMap (String Global) (Option (String Global))) → m.entries ≡ [] → (x : Name) → detail_for m x ≡ None
nothing_put m none x = ap (λ es. option_map told_of (lookup (λ k. is_eq (slice_cmp nat_cmp x (string_bytes k))) es)) none
