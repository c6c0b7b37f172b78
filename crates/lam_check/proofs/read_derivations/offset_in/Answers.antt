use Rattle.std.proofs.Common.{◌≡◌, ◌≢◌, ℕ, List, Option, Some, None, sym}
use Rattle.std.specs.Option.{IfSome, IfNone}
use Rattle.std.specs.Str.{IsUtf8, IsCharBoundary}
use Rattle.serde_json.specs.Data.{Data}
use Rattle.serde_json.specs.View.{view}
use Rattle.lam_text.specs.Positions.{offset_of, position_of}
use Rattle.lam_text.specs.declared.places.Position.{Position}
use Rattle.lam_text.specs.declared.units.Encoding.{Encoding}
use Rattle.lam_session.specs.Ranges.{position_value}
use Rattle.lam_check.specs.Readable.{IsReadableOffset}
use Rattle.lam_check.proofs.LineEnds.{offset_outside}
use Rattle.lam_check.proofs.ReadValues.{position_is}
use Rattle.lam_check.proofs.read_derivations.offset_in.Goals as goal

none_readable : (e : Encoding) (text : List ℕ) (value : Data) (p : Position) (r : Option ℕ) → IsUtf8 text → value ≡ position_value p
    → IfNone r (p ≢ position_of e text (offset_of e text p))
    → IfNone r ((offset : ℕ) → IsReadableOffset text offset → value ≡ position_value (position_of e text offset) → ⊥)
none_readable e text value p (Some o) utf8 own none = tt
none_readable e text value p None utf8 own none = λ offset readable is. none (sym (position_is e text value offset p utf8 readable own is))

some_readable : (e : Encoding) (text : List ℕ) (p : Position) (r : Option ℕ) → IsUtf8 text → IfSome r (IsCharBoundary text) → IfSome r (λ o. o ≡ offset_of e text p)
    → IfSome r (IsReadableOffset text)
some_readable e text p (Some o) utf8 boundary some = record { boundary = boundary; outside = rw some (offset_outside e text p utf8) }
some_readable e text p None utf8 boundary some = tt

pub returns-clause-none : goal.returns-clause-none
returns-clause-none c =
    let d = c.args.doc.now in
    none_readable d.encoding d.text (view c.args.value.now) c.in_ok-position.position c.offset_at.result c.requires c.in_ok-position.ensures.some c.offset_at.ensures.none

pub returns-clause-readable : goal.returns-clause-readable
returns-clause-readable c =
    let d = c.args.doc.now in
    some_readable d.encoding d.text c.in_ok-position.position c.offset_at.result c.requires c.offset_at.ensures.boundary c.offset_at.ensures.some
