-- How rows and binders in scope stand for those of the definitions.
use Rattle.std.specs.Prelude.{List, [], ◌∷◌, ℕ, zero, suc, map, Option}
use Rattle.std.specs.Option.{option_map, unwrap_or}
use Rattle.lam_syntax.specs.Letters.{letters}
use Rattle.lam_scope.specs.declared.numbers.Binder.{Binder}
use Rattle.lam_scope.specs.declared.numbers.Place.{Place}
use Rattle.lam_scope.specs.declared.rows.BinderRow.{BinderRow}
use Rattle.lam_scope.specs.declared.rows.UseRow.{UseRow}
use Rattle.lam_token.specs.declared.span.Span.{Span}
use Rattle.lam_scope.specs.declared.numbers.Origin.{Origin}
use Rattle.lam_scope.specs.declared.numbers.Origin.TheVariants.{TypeName}
use Rattle.lam_scope.specs.declared.rows.Rows.{Rows}
use Rattle.lam_scope.specs.declared.token_lists.TokenLists.{TokenLists}
use Rattle.lam_scope.specs.declared.rows.PlaceRow.{PlaceRow}
use Rattle.lam_scope.specs.declared.seen.SeenBinder.{SeenBinder}
use Rattle.lam_scope.specs.declared.seen.Bound.{Bound}
use Rattle.lam_scope.specs.Slices.{sliced}
use Rattle.lam_scope.specs.Stacks.{stacked}
use Rattle.lam_scope.specs.Tables.{Entry, entry, TextBinder, TextUse, TextPlace, Table}

-- the zero-based index of a binder
abbrev pub binder_number : Binder → ℕ
binder_number b = b.0

-- the zero-based index of a subterm
abbrev pub place_number : Place → ℕ
place_number p = p.0

-- a `SeenBinder` as it is in scope; an underscore has no name
abbrev pub entry_of : SeenBinder → Entry
entry_of b = entry (option_map (λ x. letters x.now) b.name) b.number.0 b.answer.0

-- the binders of a stack, innermost first
abbrev pub entries_of : List SeenBinder → List Entry
entries_of = stacked entry_of []

-- the origin of a binder; `TypeName` if the walk has set none, as for a type name
abbrev pub origin_of : Option Origin → Origin
origin_of o = unwrap_or o TypeName

-- the binder that a `BinderRow` describes
abbrev pub text_binder : BinderRow → TextBinder
text_binder r = record { name = option_map (λ s. letters s) r.name; token = r.token; outer = option_map binder_number r.outer; answer = r.answer.0; origin = origin_of r.origin }

-- the index of the binder of a use
abbrev pub binder_of : Bound → ℕ
binder_of b = b.binder.0

-- the de Bruijn index of a use
abbrev pub between_of : Bound → ℕ
between_of b = b.between

-- the use that a `UseRow` describes
abbrev pub text_use : UseRow → TextUse
text_use r = record { token = r.token; binder = option_map binder_of r.bound; between = option_map between_of r.bound; inner = option_map binder_number r.inner; free = option_map (λ x. letters x) r.free }

-- the subterm that a `PlaceRow` describes, with these immediate subterms
abbrev pub text_place : PlaceRow → List Place → TextPlace
text_place r ts = record { span = r.span; derived = r.derived; terms = map place_number ts; inner = option_map binder_number r.inner }

-- where the immediate subterms of a subterm start in the list of all
abbrev pub terms_start : PlaceRow → ℕ
terms_start r = r.terms_start

-- subterms whose immediate subterms are stored one after another in one list
abbrev pub text_places : List Place → List PlaceRow → List TextPlace
text_places = sliced terms_start text_place

-- the table of these rows, where the immediate subterms are in one list
abbrev pub rows_table : List BinderRow → List UseRow → List PlaceRow → List Place → Table
rows_table bs us ps ts = record { binders = map text_binder bs; uses = map text_use us; places = text_places ts ps }

-- the table that `Rows` hold
abbrev pub rows_of : Rows → Table
rows_of r = rows_table r.binders.items r.uses.items r.places.items r.terms.items

-- binders with the origin of the one with this index replaced
abbrev pub originated : ℕ → Origin → List TextBinder → List TextBinder
originated n o [] = []
originated zero o (b ∷ bs) = record b { origin = o } ∷ bs
originated (suc n) o (b ∷ bs) = b ∷ originated n o bs

-- a table with the origin of the binder with this index replaced
abbrev pub with_origin : ℕ → Origin → Table → Table
with_origin n o t = record { binders = originated n o t.binders; uses = t.uses; places = t.places }

-- where a list starts among the tokens of all lists; its row is just that offset
abbrev pub list_start : ℕ → ℕ
list_start s = s

-- the tokens of a list, wherever it starts
abbrev pub listed : ℕ → List Span → List Span
listed s ts = ts

-- the lists of tokens that `TokenLists` hold, in order
abbrev pub lists_in : TokenLists → List (List Span)
lists_in l = sliced list_start listed l.tokens.items l.starts.items
