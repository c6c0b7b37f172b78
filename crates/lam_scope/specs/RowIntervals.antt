-- The byte intervals of the rows of the tables: a subterm has its span, a name the byte where its token starts.
use Rattle.std.specs.Prelude.{ℕ, zero, suc, ◌-◌, Option, Some, None, List, [], ◌∷◌, if◌then◌else◌, ltb}
use Rattle.lam_scope.specs.declared.rows.BinderRow.{BinderRow}
use Rattle.lam_scope.specs.declared.rows.UseRow.{UseRow}
use Rattle.lam_scope.specs.declared.rows.PlaceRow.{PlaceRow}
use Rattle.lam_scope.specs.declared.intervals.Interval.{Interval}
use Rattle.lam_scope.specs.Intervals.{no_bytes, one_byte}
use Rattle.lam_scope.specs.Tables.{TextBinder, TextUse, has_name}
use Rattle.lam_scope.specs.TableViews.{text_binder}

-- the interval of a subterm; empty if it is not in the text
abbrev pub place_interval : PlaceRow → Interval
place_interval p = if p.derived then no_bytes else (if ltb p.span.start p.span.end then record { lowest = p.span.start; highest = p.span.end - 1 } else no_bytes)

-- the byte where the name of a binder starts; empty for an underscore
abbrev pub binder_interval : BinderRow → Interval
binder_interval b = if has_name (text_binder b).name then one_byte b.token.start else no_bytes

-- the byte where the name of a use starts
abbrev pub use_interval : UseRow → Interval
use_interval u = one_byte u.token.start

-- the binder reported for the token of the binder with this index
abbrev pub answer_at : List TextBinder → ℕ → Option ℕ
answer_at [] n = None
answer_at (b ∷ bs) zero = Some b.answer
answer_at (b ∷ bs) (suc n) = answer_at bs n

-- the binder of the use with this index, if it is bound
abbrev pub used_at : List TextUse → ℕ → Option ℕ
used_at [] n = None
used_at (u ∷ us) zero = u.binder
used_at (u ∷ us) (suc n) = used_at us n
