-- An encoding of types, so that they can be held in the value of a model: types are told apart by their codes.
use Rattle.std.specs.Prelude.{◌≡◌, List}
use Rattle.std.specs.Coded.{Coded, coded_ℕ, coded_list}
use Rattle.std.proofs.Common.{ap, refl}
use base.Stored.{Gv, gnil, gnum, gcons}
use Rattle.lam_rules.specs.Types.{Label, Typ, bool, nat, unit, top, arrow, record_of, Fields, no_fields, field}

abbrev head : Gv → Gv
head gnil = gnil
head (gnum n) = gnil
head (gcons a b) = a

abbrev tail : Gv → Gv
tail gnil = gnil
tail (gnum n) = gnil
tail (gcons a b) = b

abbrev label_code : Coded Label
label_code = coded_list coded_ℕ

abbrev mutual
  pub code_of : Typ → Gv
  code_of bool = gnum 0
  code_of nat = gnum 1
  code_of unit = gnum 2
  code_of top = gnum 3
  code_of (arrow s t) = gcons (gnum 4) (gcons (code_of s) (code_of t))
  code_of (record_of fs) = gcons (gnum 5) (fields_code fs)

  pub fields_code : Fields → Gv
  fields_code no_fields = gnil
  fields_code (field l t rest) = gcons (label_code.code l) (gcons (code_of t) (fields_code rest))

mutual
  pub code_of-injective : (s t : Typ) → code_of s ≡ code_of t → s ≡ t
  code_of-injective bool bool e = refl
  code_of-injective nat nat e = refl
  code_of-injective unit unit e = refl
  code_of-injective top top e = refl
  code_of-injective (arrow s t) (arrow u v) e =
      λ i. arrow (code_of-injective s u (ap (λ g. head (tail g)) e) i) (code_of-injective t v (ap (λ g. tail (tail g)) e) i)
  code_of-injective (record_of fs) (record_of gs) e = λ i. record_of (fields_code-injective fs gs (ap tail e) i)
  code_of-injective _ _ e = cc

  pub fields_code-injective : (fs gs : Fields) → fields_code fs ≡ fields_code gs → fs ≡ gs
  fields_code-injective no_fields no_fields e = refl
  fields_code-injective (field l t fs) (field k u gs) e = λ i.
      field (label_code.inj l k (ap head e) i) (code_of-injective t u (ap (λ g. head (tail g)) e) i) (fields_code-injective fs gs (ap (λ g. tail (tail g)) e) i)
  fields_code-injective _ _ e = cc

-- types are told apart by their codes
abbrev pub coded_type : Coded Typ
coded_type = record { code = code_of; inj = code_of-injective }

-- lists of types are told apart by their codes
abbrev pub coded_types : Coded (List Typ)
coded_types = coded_list coded_type
