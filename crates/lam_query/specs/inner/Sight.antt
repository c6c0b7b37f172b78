-- The names in scope at a term, while they are listed. For private functions only.
use Rattle.std.specs.Prelude.{◌≡◌, ℕ, List, [], ◌∷◌, Option, Some, String, string_bytes, false, option_map, IfSome, if◌then◌else◌}
use Rattle.std.specs.Option.{option_and_then}
use Rattle.std.specs.BTreeMap.{BTreeMap, get, get_by_text}
use Rattle.std.specs.Ordering.{nat_cmp}
use Rattle.std.specs.declared.alloc.Global.{Global}
use Rattle.lam_rules.specs.Types.{Typ}
use Rattle.lam_rules.specs.Texts.{Text, text}
use Rattle.lam_rules.specs.Numbers.{type_at}
use Rattle.lam_rules.specs.declared.numbers.TyNo.{TyNo}
use Rattle.lam_scope.specs.Names.{Name, binds}
use Rattle.lam_typing.specs.Answers.{answer}
use Rattle.lam_query.specs.declared.binders.SeenBinder.{SeenBinder}
use Rattle.lam_query.specs.inner.SeenBinders.{name_seen}
use Rattle.lam_query.specs.Completions.{Item}

-- an entry as text, over the types of a table if there is one
abbrev pub detail_seen : Option (List Typ) → Option TyNo → Option Text
detail_seen types entry = option_and_then (λ ts. option_map text (answer ts entry)) types

-- the detail of the innermost binder of a name, after one more binder inside those before
abbrev pub detail_with : Option (List Typ) → Name → (before : Option (Option Text)) → SeenBinder → Option (Option Text)
detail_with types x before b = if binds (name_seen b) x then Some (detail_seen types b.entry) else before

-- the detail after several more binders, from the outside in
abbrev pub detail_after : Option (List Typ) → Name → (before : Option (Option Text)) → List SeenBinder → Option (Option Text)
detail_after types x before [] = before
detail_after types x before (b ∷ bs) = detail_after types x (detail_with types x before b) bs

-- what a map holds for a name
abbrev pub detail_for : BTreeMap (String Global) (Option (String Global)) → Name → Option (Option Text)
detail_for m x = option_map (option_map (λ s. string_bytes s)) (get_by_text m x)

-- the completion item for a name and its detail
abbrev pub item_seen : String Global × Option (String Global) → Item
item_seen e = record { label = string_bytes e.0; detail = option_map (λ s. string_bytes s) e.1; is_field = false }

-- the text that a map holds for a type id is that of the type
abbrev pub AreTexts : List Typ → BTreeMap ℕ (String Global) → Type 0
AreTexts types m = (n : ℕ) → IfSome (get nat_cmp m n) (λ s. string_bytes s ≡ text (type_at types n))
